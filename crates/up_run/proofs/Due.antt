-- A compile ends with the status that is due, or for want of memory.
use Rattle.std.proofs.Common.{◌≡◌, ℕ, Bool, true, false, List, Option, None, Some, refl, sym, ap, ◌∙◌, subst}
use Rattle.std.specs.Prelude.{IfSome, Ok, Err, is_some}
use Rattle.up_store.specs.Outside.{Files}
use Rattle.up_tree.specs.declared.problem.Parts.{Parts}
use Rattle.up_check.specs.declared.refusal.File.TheVariants as file
use Rattle.up_check.specs.declared.refusal.ReadError.TheVariants.{Refused}
use Rattle.up_check.specs.Passes.{FirstFault}
use Rattle.up_pipeline.specs.declared.engine.Engine.{Engine}
use Rattle.up_pipeline.specs.declared.engine.EngineError.{EngineError}
use Rattle.up_pipeline.specs.declared.engine.EngineError.TheVariants as unread
use Rattle.up_pipeline.specs.Engine.{engine_of}
use Rattle.up_pipeline.specs.Chains.{fits}
use Rattle.up_kind.specs.Carried.{carries}
use Rattle.up_kind.specs.Features.{has}
use Rattle.up_top.specs.declared.command.Command.{Command}
use Rattle.up_top.specs.declared.command.Command.TheVariants as command
use Rattle.up_top.specs.declared.answer.Answer.{Answer}
use Rattle.up_top.specs.declared.answer.Answer.TheVariants as answer
use Rattle.up_top.specs.declared.answer.Stop.TheVariants as stop
use Rattle.up_top.specs.declared.status.Status.{Status}
use Rattle.up_top.specs.declared.status.Status.TheVariants.{Done, Usage, Memory, Missing, ReadFault, WriteFault, DomainRefused, ProblemRefused, EngineRefused, NoPipeline, MapRefused, PlanRefused, PlanUnfit, PlanInvalid, NumberTooLarge, InputTooLarge}
use Rattle.up_top.specs.Answers.{status_of}
use Rattle.up_top.specs.Cause.{HasPlan, HasThird, IsBack, IsCompile, IsKind, IsOutcome, IsPipeline, IsValidate}
use Rattle.up_top.specs.Inputs.{AreInputs, AreReadAs, NoChain, Tells}
use Rattle.up_top.specs.Run.{AreOutputs, CompilesDone}
use Rattle.up_top.specs.Says.{IsOf, PutsAnswer, ended}
use Rattle.up_top.specs.Words.{command_of, word_at}
use Rattle.up_run.specs.Due.{AChainFits, AreTakenAs, IsDue, refused_domain, refused_problem, refused_engine, unfit, done, IsDueAt, IsOrMemory, is_due, no_memory, WasDue}
use Rattle.grammar_texts.proofs.Faults.{one_fault}
use Rattle.grammar_texts.proofs.Spelled.{one_is_spelled, read_is_spelled, spelled_is_faultless}
use Rattle.up_run.proofs.Headline.{third_read}

-- ---- one status is due

never_read : {A : Type 0} (domain problem : List ℕ) (parts : Parts) (refusal : _) → AreTakenAs domain problem parts → FirstFault domain problem refusal → A
never_read domain problem parts refusal are stops = absurd (spelled_is_faultless domain problem parts refusal are.spelled are.shallow stops)

says_one : {A : Type 0} (engine : List ℕ) (e : Engine) (error : EngineError) → engine_of engine ≡ Ok e → engine_of engine ≡ Err error → A
says_one engine e error is says = cc

same_engine : (engine : List ℕ) (e f : Engine) → engine_of engine ≡ Ok e → engine_of engine ≡ Ok f → e ≡ f
same_engine engine e f is says = cc

never_fits : {A : Type 0} (domain problem engine : List ℕ) (parts others : Parts) → AreTakenAs domain problem parts → AreTakenAs domain problem others
    → NoChain engine parts → AChainFits engine others → A
never_fits domain problem engine parts others are so none fit =
    let same : parts ≡ others = one_is_spelled domain problem parts others are.spelled so.spelled in
    let one : none.engine_is ≡ fit.engine_is = same_engine engine none.engine_is fit.engine_is none.says fit.says in
    let never : fits (has none.engine_is.features.0) (carries parts) fit.chain ≡ false = none.none fit.chain fit.over in
    let fitting : fits (has none.engine_is.features.0) (carries parts) fit.chain ≡ true = rw (one, same) fit.fitting in
    absurd (let is = never in let does = fitting in cc)

other_file : {A : Type 0} (domain problem : List ℕ) (place at : _) (reason why : _) (name word : _) → FirstFault domain problem (Refused file.Domain place reason name)
    → FirstFault domain problem (Refused file.Problem at why word) → A
other_file domain problem place at reason why name word one other = (let same = one_fault domain problem _ _ one other in cc)

one_due : (domain problem engine : List ℕ) (s t : Status) → IsDue domain problem engine s → IsDue domain problem engine t → s ≡ t
one_due d p e _ _ (refused_domain place reason name f) (refused_domain at why word g) = refl
one_due d p e _ _ (refused_domain place reason name f) (refused_problem at why word g) = other_file d p place at reason why name word f g
one_due d p e _ _ (refused_domain place reason name f) (refused_engine parts error are says) = never_read d p parts _ are f
one_due d p e _ _ (refused_domain place reason name f) (unfit parts are none) = never_read d p parts _ are f
one_due d p e _ _ (refused_domain place reason name f) (done parts are fit) = never_read d p parts _ are f
one_due d p e _ _ (refused_problem place reason name f) (refused_domain at why word g) = other_file d p at place why reason word name g f
one_due d p e _ _ (refused_problem place reason name f) (refused_problem at why word g) = refl
one_due d p e _ _ (refused_problem place reason name f) (refused_engine parts error are says) = never_read d p parts _ are f
one_due d p e _ _ (refused_problem place reason name f) (unfit parts are none) = never_read d p parts _ are f
one_due d p e _ _ (refused_problem place reason name f) (done parts are fit) = never_read d p parts _ are f
one_due d p e _ _ (refused_engine parts error are says) (refused_domain at why word g) = never_read d p parts _ are g
one_due d p e _ _ (refused_engine parts error are says) (refused_problem at why word g) = never_read d p parts _ are g
one_due d p e _ _ (refused_engine parts error are says) (refused_engine others other so said) = refl
one_due d p e _ _ (refused_engine parts error are says) (unfit others so none) = says_one e none.engine_is error none.says says
one_due d p e _ _ (refused_engine parts error are says) (done others so fit) = says_one e fit.engine_is error fit.says says
one_due d p e _ _ (unfit parts are none) (refused_domain at why word g) = never_read d p parts _ are g
one_due d p e _ _ (unfit parts are none) (refused_problem at why word g) = never_read d p parts _ are g
one_due d p e _ _ (unfit parts are none) (refused_engine others error so says) = says_one e none.engine_is error none.says says
one_due d p e _ _ (unfit parts are none) (unfit others so never) = refl
one_due d p e _ _ (unfit parts are none) (done others so fit) = never_fits d p e parts others are so none fit
one_due d p e _ _ (done parts are fit) (refused_domain at why word g) = never_read d p parts _ are g
one_due d p e _ _ (done parts are fit) (refused_problem at why word g) = never_read d p parts _ are g
one_due d p e _ _ (done parts are fit) (refused_engine others error so says) = says_one e fit.engine_is error fit.says says
one_due d p e _ _ (done parts are fit) (unfit others so none) = never_fits d p e others parts so are none fit
one_due d p e _ _ (done parts are fit) (done others so does) = refl

held_one : (files : Files) (name one other : List ℕ) → files name ≡ Some one → files name ≡ Some other → one ≡ other
held_one files name one other is are = cc

one_at : (words : List (List ℕ)) (files : Files) (s t : Status) → IsDueAt words files s → IsDueAt words files t → s ≡ t
one_at words files s t a b =
    let domain : b.domain ≡ a.domain = held_one files _ _ _ b.holds_domain a.holds_domain in
    let problem : b.problem ≡ a.problem = held_one files _ _ _ b.holds_problem a.holds_problem in
    let engine : b.engine ≡ a.engine = held_one files _ _ _ b.holds_engine a.holds_engine in
    one_due a.domain a.problem a.engine s t a.due
    (subst (λ e. IsDue a.domain a.problem e t) engine (subst (λ p. IsDue a.domain p b.engine t) problem (subst (λ d. IsDue d b.problem b.engine t) domain b.due)))

-- ---- what a status tells was due

no_kind : {A : Type 0} (command : Option Command) → IsCompile command → IsKind command → A
no_kind (Some (command.Compile limit)) is kind = absurd kind
no_kind None is kind = absurd is
no_kind (Some command.Kind) is kind = absurd is
no_kind (Some command.Pipeline) is kind = absurd is
no_kind (Some command.Validate) is kind = absurd is
no_kind (Some command.Back) is kind = absurd is

no_pipeline : {A : Type 0} (command : Option Command) → IsCompile command → IsPipeline command → A
no_pipeline (Some (command.Compile limit)) is other = absurd other
no_pipeline None is other = absurd is
no_pipeline (Some command.Kind) is other = absurd is
no_pipeline (Some command.Pipeline) is other = absurd is
no_pipeline (Some command.Validate) is other = absurd is
no_pipeline (Some command.Back) is other = absurd is

no_validate : {A : Type 0} (command : Option Command) → IsCompile command → IsValidate command → A
no_validate (Some (command.Compile limit)) is other = absurd other
no_validate None is other = absurd is
no_validate (Some command.Kind) is other = absurd is
no_validate (Some command.Pipeline) is other = absurd is
no_validate (Some command.Validate) is other = absurd is
no_validate (Some command.Back) is other = absurd is

no_back : {A : Type 0} (command : Option Command) → IsCompile command → IsBack command → A
no_back (Some (command.Compile limit)) is other = absurd other
no_back None is other = absurd is
no_back (Some command.Kind) is other = absurd is
no_back (Some command.Pipeline) is other = absurd is
no_back (Some command.Validate) is other = absurd is
no_back (Some command.Back) is other = absurd is

taken : (domain problem : List ℕ) (parts : Parts) → AreReadAs domain problem parts → AreTakenAs domain problem parts
taken domain problem parts are = record { spelled = read_is_spelled domain problem parts are.reads; shallow = are.shallow }

module _ (words : List (List ℕ)) (files : Files) (is : IsCompile (command_of words)) where
  due_at : (domain problem engine : List ℕ) (status : Status) → AreInputs words domain problem engine files → IsDue domain problem engine status
      → IsDueAt words files status
  due_at domain problem engine status held due =
      record {
        domain = domain;
        problem = problem;
        engine = engine;
        holds_domain = held.sources.holds_domain.0;
        holds_problem = held.sources.holds_problem.0;
        holds_engine = (held.holds_third (third_read (command_of words) is)).0;
        due = due;
      }

  outputs_due : (problem : Parts) (outputs : List _) → AreOutputs words (Some files) problem outputs → IsDueAt words files Done
  outputs_due problem outputs are =
      let chosen = are.whole.chosen in
      due_at are.domain are.source are.engine Done are.holds (done problem (taken are.domain are.source problem are.reads)
      (record { engine_is = chosen.engine_is; says = chosen.says; chain = are.map.stages.stages; over = chosen.best.over; fitting = chosen.best.fitting }))

  tells_due : (a : Answer) (put : Bool) → IsOf (command_of words) a → Tells words a files
      → (ended (status_of a) put ≡ Done → IsDueAt words files Done) → WasDue words files (ended (status_of a) put)
  tells_due (answer.Features kind) put of tells compiles = no_kind (command_of words) is of
  tells_due (answer.Chain chain) put of tells compiles = no_pipeline (command_of words) is of
  tells_due (answer.Actions count) true of tells compiles = compiles refl
  tells_due (answer.Actions count) false of tells compiles = tt
  tells_due (answer.Refused file.Domain place reason name) put of tells compiles =
      due_at tells.domain tells.problem tells.third DomainRefused tells.held (refused_domain place reason name tells.says)
  tells_due (answer.Refused file.Problem place reason name) put of tells compiles =
      due_at tells.domain tells.problem tells.third ProblemRefused tells.held (refused_problem place reason name tells.says)
  tells_due (answer.Unread unread.Memory) put of tells compiles = tt
  tells_due (answer.Unread unread.Toml) put of tells compiles =
      due_at tells.domain tells.problem tells.third EngineRefused tells.held (refused_engine tells.says.read.parts unread.Toml (taken tells.domain tells.problem _ tells.says.read.reads) tells.says.says)
  tells_due (answer.Unread (unread.UnknownKey key)) put of tells compiles =
      due_at tells.domain tells.problem tells.third EngineRefused tells.held (refused_engine tells.says.read.parts (unread.UnknownKey key) (taken tells.domain tells.problem _ tells.says.read.reads) tells.says.says)
  tells_due (answer.Unread (unread.NoKey key)) put of tells compiles =
      due_at tells.domain tells.problem tells.third EngineRefused tells.held (refused_engine tells.says.read.parts (unread.NoKey key) (taken tells.domain tells.problem _ tells.says.read.reads) tells.says.says)
  tells_due (answer.Unread (unread.WrongType key)) put of tells compiles =
      due_at tells.domain tells.problem tells.third EngineRefused tells.held (refused_engine tells.says.read.parts (unread.WrongType key) (taken tells.domain tells.problem _ tells.says.read.reads) tells.says.says)
  tells_due (answer.Unread (unread.UnknownFeature word)) put of tells compiles =
      due_at tells.domain tells.problem tells.third EngineRefused tells.held (refused_engine tells.says.read.parts (unread.UnknownFeature word) (taken tells.domain tells.problem _ tells.says.read.reads) tells.says.says)
  tells_due (answer.Judged verdict) put of tells compiles = no_validate (command_of words) is of
  tells_due (answer.Unspelled place) put of tells compiles = no_validate (command_of words) is of
  tells_due (answer.TooLarge number) put of tells compiles = no_validate (command_of words) is of
  tells_due (answer.Converted conversion) put of tells compiles = no_back (command_of words) is of
  tells_due (answer.Stopped stop.Usage) put of tells compiles = tt
  tells_due (answer.Stopped stop.Memory) put of tells compiles = tt
  tells_due (answer.Stopped (stop.Missing at)) put of tells compiles = tt
  tells_due (answer.Stopped (stop.ReadFault at)) put of tells compiles = tt
  tells_due (answer.Stopped (stop.WriteFault at)) put of tells compiles = tt
  tells_due (answer.Stopped stop.NoPipeline) put of tells compiles =
      due_at tells.domain tells.problem tells.third NoPipeline tells.held (unfit tells.says.parts (taken tells.domain tells.problem _ tells.says.reads) tells.says.none)
  tells_due (answer.Stopped (stop.InputTooLarge at)) put of tells compiles = tt

  caused : (new : Option Files) (status : Status) (before now : ℕ) (old_text new_text : Option (List ℕ))
      → PutsAnswer words (Some files) status before now old_text new_text
      → (status ≡ Done → CompilesDone words (Some files) new old_text new_text) → WasDue words files status
  caused new status before now old_text new_text puts compiles =
      subst (WasDue words files) (sym puts.is)
      (tells_due puts.answer puts.put_whole puts.of puts.tells
      (λ done_is. (let made = (compiles (puts.is ∙ done_is)).compiles in outputs_due made.problem made.outputs made.are)))

  or_memory : (command : Option Command) → IsCompile command → (due status : Status) → IsDueAt words files due → WasDue words files status → IsOutcome command status
      → IsOrMemory due status
  or_memory (Some (command.Compile limit)) so due Done at was outcome = subst (λ s. IsOrMemory due s) (one_at words files due Done at was) is_due
  or_memory (Some (command.Compile limit)) so due Memory at was outcome = no_memory
  or_memory (Some (command.Compile limit)) so due DomainRefused at was outcome = subst (λ s. IsOrMemory due s) (one_at words files due DomainRefused at was) is_due
  or_memory (Some (command.Compile limit)) so due ProblemRefused at was outcome = subst (λ s. IsOrMemory due s) (one_at words files due ProblemRefused at was) is_due
  or_memory (Some (command.Compile limit)) so due EngineRefused at was outcome = subst (λ s. IsOrMemory due s) (one_at words files due EngineRefused at was) is_due
  or_memory (Some (command.Compile limit)) so due NoPipeline at was outcome = subst (λ s. IsOrMemory due s) (one_at words files due NoPipeline at was) is_due
  or_memory (Some (command.Compile limit)) so due _ at was outcome = absurd outcome
  or_memory None so due status at was outcome = absurd so
  or_memory (Some command.Kind) so due status at was outcome = absurd so
  or_memory (Some command.Pipeline) so due status at was outcome = absurd so
  or_memory (Some command.Validate) so due status at was outcome = absurd so
  or_memory (Some command.Back) so due status at was outcome = absurd so

-- ---- the clauses

is_command : (command : Option Command) → IsCompile command → is_some command ≡ true
is_command (Some command) is = refl
is_command None is = absurd is

pub caused_of : (words : List (List ℕ)) (old new : Option Files) (status : Status) (before now : ℕ) (old_text new_text : Option (List ℕ))
    → IsCompile (command_of words) → PutsAnswer words old status before now old_text new_text
    → (status ≡ Done → IsCompile (command_of words) → CompilesDone words old new old_text new_text)
    → IfSome old (λ files. WasDue words files status)
caused_of words None new status before now old_text new_text is puts compiles = tt
caused_of words (Some files) new status before now old_text new_text is puts compiles =
    caused words files is new status before now old_text new_text puts (λ done_is. compiles done_is is)

pub due_of : (words : List (List ℕ)) (old : Option Files) (status : Status) (All : Files → Type 0) → IsCompile (command_of words)
    → (is_some (command_of words) ≡ true → IfSome old (λ files. All files → IsOutcome (command_of words) status))
    → IfSome old (λ files. WasDue words files status)
    → IfSome old (λ files. All files → (due : Status) → IsDueAt words files due → IsOrMemory due status)
due_of words None status All is complete was = tt
due_of words (Some files) status All is complete was = λ all due at.
    or_memory words files is (command_of words) is due status at was (complete (is_command (command_of words) is) all)
