-- A compile that is done keeps its promise.
use Rattle.std.proofs.Common.{◌≡◌, ℕ, Bool, true, false, List, [], ◌∷◌, Option, None, Some, refl, sym, ap, ◌∙◌, subst}
use Rattle.std.specs.Prelude.{IfSome, IsSomeAnd, bytes_eq, if◌then◌else◌}
use Rattle.std.proofs.lemmas.Slice.Eq.{bytes_eq-Decides}
use Rattle.up_store.specs.Outside.{Files, with_file}
use Rattle.up_tree.specs.declared.problem.Parts.{Parts}
use Rattle.up_tree.specs.WellFormed.{IsWellFormed}
use Rattle.up_check.specs.Passes.{Reads}
use Rattle.up_kind.specs.Features.{FeatureSet}
use Rattle.up_compiler.specs.declared.id.CompilerId.{CompilerId}
use Rattle.up_pipeline.specs.Chains.{IsBest, IsOver, accepts, fits}
use Rattle.up_map.specs.Texts.{map_text}
use Rattle.pddl_write.specs.Files.{domain_text, problem_text}
use Rattle.same_plans.specs.SamePlans.{SamePlans}
use Rattle.same_plans.proofs.Identity.{identity_same}
use Rattle.up_top.specs.declared.command.Command.{Command}
use Rattle.up_top.specs.declared.command.Command.TheVariants as command
use Rattle.up_top.specs.Cause.{IsCompile, HasThird}
use Rattle.up_top.specs.Words.{word_at, command_of}
use Rattle.up_top.specs.Run.{AreOutputs, CompilesDone, held_after}
use Rattle.grammar_texts.proofs.Spelled.{read_is_spelled}
use Rattle.up_run.specs.Headline.{Headline}
use Rattle.up_run.proofs.Apart.{compile_apart}

-- what is read is well formed
abbrev pub ReadIsWellFormed : Type 0
ReadIsWellFormed = (domain problem : List ℕ) (p : Parts) → Reads domain problem p → IsWellFormed p

-- what is written is read as what it was written for
abbrev pub WrittenIsRead : Type 0
WrittenIsRead = (p : Parts) → IsWellFormed p → Reads (domain_text p) (problem_text p) p

-- ---- the files

same_name : (name : List ℕ) → bytes_eq name name ≡ true
same_name name = (bytes_eq-Decides name name).1 refl

written : (name text : List ℕ) (files : Files) → with_file name text files name ≡ Some text
written name text files = ap (λ (r : Bool). if r then Some text else files name) (same_name name)

kept : (name other text : List ℕ) (files : Files) → bytes_eq name other ≡ false → with_file name text files other ≡ files other
kept name other text files differ = ap (λ (r : Bool). if r then Some text else files other) differ

-- ---- the chain

no_stages : (stages : List CompilerId) → IsOver [] stages → stages ≡ []
no_stages [] over = refl
no_stages (id ∷ stages) over = absurd over.0

best_accepts : (listed K : FeatureSet) (stages : List CompilerId) → IsBest [] listed K stages → accepts listed K ≡ true
best_accepts listed K stages best = subst (λ chain. fits listed K chain ≡ true) (no_stages stages best.over) best.fitting

pub third_read : (command : Option Command) → IsCompile command → HasThird command
third_read None is = is
third_read (Some command.Kind) is = is
third_read (Some command.Pipeline) is = tt
third_read (Some (command.Compile limit)) is = tt
third_read (Some command.Validate) is = tt
third_read (Some command.Back) is = tt

-- ---- the whole

made : ReadIsWellFormed → WrittenIsRead → (words : List (List ℕ)) (files : Files) (problem : Parts) → (outputs : List _)
    → IsCompile (command_of words) → AreOutputs words (Some files) problem outputs
    → IsSomeAnd (held_after words outputs (Some files)) (Headline words files)
made read_well written_read words files problem outputs is are =
    let names = compile_apart words is in
    let domain = domain_text problem in
    let source = problem_text problem in
    let map = map_text are.map in
    let first = with_file (word_at words 4) domain files in
    let second = with_file (word_at words 5) source first in
    let third = with_file (word_at words 6) map second in
    let engine = are.whole.chosen in
    subst (λ os. IsSomeAnd (held_after words os (Some files)) (Headline words files)) (sym are.texts)
    (record {
      source = problem;
      engine = engine.engine_is;
      written = problem;
      map = are.map;
      holds_source = record {
        domain = are.domain;
        problem = are.source;
        holds_domain = are.holds.sources.holds_domain.0;
        holds_problem = are.holds.sources.holds_problem.0;
        spelled = read_is_spelled are.domain are.source problem are.reads.reads;
      };
      holds_engine = record { text = are.engine; holds = (are.holds.holds_third (third_read (command_of words) is)).0; says = engine.says };
      holds_written = record {
        domain = domain;
        problem = source;
        holds_domain =
            kept (word_at words 6) (word_at words 4) map second names.third_first ∙ kept (word_at words 5) (word_at words 4) source first names.second_first
            ∙ written (word_at words 4) domain files;
        holds_problem = kept (word_at words 6) (word_at words 5) map second names.third_second ∙ written (word_at words 5) source first;
        spelled = read_is_spelled domain source problem (written_read problem (read_well are.domain are.source problem are.reads.reads));
      };
      holds_map = record { text = map; holds = written (word_at words 6) map second; spelled = are.spelled };
      accepted = best_accepts _ _ _ engine.best;
      same = subst (λ entries. SamePlans problem problem entries) (sym are.whole.kept) (identity_same problem);
    })

-- what a compile that is done promises, by the two laws of reading
pub headline_of : ReadIsWellFormed → WrittenIsRead → (words : List (List ℕ)) (old new : Option Files) (before now : Option (List ℕ))
    → IsCompile (command_of words) → CompilesDone words old new before now
    → IfSome old (λ files. IsSomeAnd new (Headline words files))
headline_of read_well written_read words None new before now is done = tt
headline_of read_well written_read words (Some files) new before now is done =
    subst (λ held. IsSomeAnd held (Headline words files)) (sym done.compiles.held)
    (made read_well written_read words files done.compiles.problem done.compiles.outputs is done.compiles.are)
