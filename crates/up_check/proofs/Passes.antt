-- What the passes find, from what their calls answer.
use Rattle.std.proofs.Common.{◌≡◌, ℕ, List, [], Some}
use Rattle.std.specs.Prelude.{Result, Ok, Err, IfOk, IfErr, OnOk}
use Rattle.pddl_lex.specs.declared.error.LexError.{LexError}
use Rattle.pddl_lex.specs.declared.error.LexError.TheVariants as lex
use Rattle.pddl_lex.specs.declared.tree.Sexp.{Sexp}
use Rattle.pddl_lex.specs.Brackets.{Trees}
use Rattle.pddl_lex.specs.Faults.{faults_to_depth, first_of}
use Rattle.pddl_lex.specs.Parses.{parsed, first}
use Rattle.pddl_parse.specs.declared.raw.DomainForm.{DomainForm}
use Rattle.pddl_parse.specs.declared.raw.ProblemForm.{ProblemForm}
use Rattle.pddl_parse.specs.declared.shape.ShapeError.{ShapeError}
use Rattle.pddl_parse.specs.declared.shape.ShapeError.TheVariants as shape
use Rattle.pddl_parse.specs.Shapes.{Read}
use Rattle.pddl_parse.specs.Texts as texts
use Rattle.up_phrase.specs.declared.fault.Fault.{Fault}
use Rattle.up_phrase.specs.declared.fault.Fault.TheVariants as fault
use Rattle.up_tree.specs.declared.problem.Parts.{Parts}
use Rattle.up_phrase.specs.Walks.{Checked}
use Rattle.up_check.specs.declared.domain.Domain.{Domain}
use Rattle.up_check.specs.declared.refusal.File.{File}
use Rattle.up_check.specs.declared.refusal.ReadError.{ReadError}
use Rattle.up_check.specs.declared.refusal.ReadError.TheVariants.{Memory}
use Rattle.up_check.specs.Refusals.{bytes_refused, shape_refused, refused}
use Rattle.up_check.specs.Domains.{Known, domain_names, known_of}
use Rattle.up_check.specs.Problems.{problem_names}
use Rattle.up_check.specs.Passes.{AreShallow, FirstFault, FormStops, HasDomain, HasForm, HaveForms, IsForm, NamesStop, ReadsAs, Reads, Stops, StopsInDomain, StopsInProblem}

pub has_form : {Form : Type 0} (read : List Sexp → Read Form) (text : List ℕ) (trees : List Sexp) (form : Form)
    → Trees text trees → faults_to_depth text ≡ [] → read trees ≡ parsed form → HasForm read text form
has_form read text trees form spelled depth is = record { trees = trees; has = record { spelled = spelled; depth = depth }; is = is }

pub stops_at_bytes : {Form : Type 0} (read : List Sexp → Read Form) (of : File) (text : List ℕ) (error : LexError) (refusal : ReadError)
    → (¬ (error ≡ lex.Memory) → first_of (faults_to_depth text) ≡ Some error) → refusal ≡ bytes_refused of error
    → ¬ (refusal ≡ Memory) → FormStops read of text refusal
stops_at_bytes read of text lex.Memory refusal stops is some = absurd (some is)
stops_at_bytes read of text (lex.BadByte place) refusal stops is some = FormStops.at_bytes (record { fault = lex.BadByte place; stops = stops (λ same. cc); is = is })
stops_at_bytes read of text (lex.BadNumber place) refusal stops is some = FormStops.at_bytes (record { fault = lex.BadNumber place; stops = stops (λ same. cc); is = is })
stops_at_bytes read of text (lex.Unopened place) refusal stops is some = FormStops.at_bytes (record { fault = lex.Unopened place; stops = stops (λ same. cc); is = is })
stops_at_bytes read of text (lex.TooDeep place) refusal stops is some = FormStops.at_bytes (record { fault = lex.TooDeep place; stops = stops (λ same. cc); is = is })
stops_at_bytes read of text (lex.Unclosed place) refusal stops is some = FormStops.at_bytes (record { fault = lex.Unclosed place; stops = stops (λ same. cc); is = is })

pub stops_at_shape : {Form : Type 0} (read : List Sexp → Read Form) (of : File) (text : List ℕ) (trees : List Sexp) (error : ShapeError) (refusal : ReadError)
    → Trees text trees → faults_to_depth text ≡ [] → (¬ (error ≡ shape.Memory) → first (read trees) ≡ Some error) → refusal ≡ shape_refused of error
    → ¬ (refusal ≡ Memory) → FormStops read of text refusal
stops_at_shape read of text trees shape.Memory refusal spelled depth stops is some = absurd (some is)
stops_at_shape read of text trees (shape.Expected place) refusal spelled depth stops is some =
    FormStops.at_shape (record { trees = trees; has = record { spelled = spelled; depth = depth }; fault = shape.Expected place; stops = stops (λ same. cc); is = is })
stops_at_shape read of text trees (shape.LeftOut place) refusal spelled depth stops is some =
    FormStops.at_shape (record { trees = trees; has = record { spelled = spelled; depth = depth }; fault = shape.LeftOut place; stops = stops (λ same. cc); is = is })
stops_at_shape read of text trees (shape.Duplicate place) refusal spelled depth stops is some =
    FormStops.at_shape (record { trees = trees; has = record { spelled = spelled; depth = depth }; fault = shape.Duplicate place; stops = stops (λ same. cc); is = is })

-- a refusal by the names of a form
pub named_stop : {Form A : Type 0} (names : Form → Checked A) (of : File) (form : Form) (error : Fault) (refusal : ReadError)
    → (¬ (error ≡ fault.Memory) → first (names form) ≡ Some error) → refusal ≡ refused of error → ¬ (refusal ≡ Memory) → NamesStop names of form refusal
named_stop names of form fault.Memory refusal stops is some = absurd (some is)
named_stop names of form (fault.At place reason name) refusal stops is some =
    record { fault = fault.At place reason name; stops = stops (λ same. cc); is = is }

-- the same of what is answered
pub stops_named : {T Form A : Type 0} (read : List Sexp → Read Form) (names : Form → Checked A) (of : File) (text : List ℕ) (form : Form) (result : Result T ReadError)
    → HasForm read text form → IfErr result (λ refusal. ¬ (refusal ≡ Memory) → NamesStop names of form refusal)
    → IfErr result (λ refusal. ¬ (refusal ≡ Memory) → Stops read names of text refusal)
stops_named read names of text form (Ok value) has stops = tt
stops_named read names of text form (Err refusal) has stops = λ some. Stops.at_names (record { form = form; has = has; stops = stops some })

pub stops_unread : {Form A : Type 0} (read : List Sexp → Read Form) (names : Form → Checked A) (of : File) (text : List ℕ) (refusal : ReadError)
    → FormStops read of text refusal → Stops read names of text refusal
stops_unread read names of text refusal stops = Stops.at_form stops

-- a form whose names are known
pub reads_as : {Form A : Type 0} (read : List Sexp → Read Form) (names : Form → Checked A) (text : List ℕ) (form : Form) (it : A)
    → HasForm read text form → names form ≡ parsed it → ReadsAs read names text it
reads_as read names text form it has known = record { trees = has.trees; spelled = has.has.spelled; form = form; shape = has.is; known = known }

pub is_form : {T Form : Type 0} (read : List Sexp → Read Form) (text : List ℕ) (form : Form) (result : Result T ReadError) → HasForm read text form
    → OnOk result (IsForm read text)
is_form read text form (Ok value) has = record { form = form; has = has }
is_form read text form (Err refusal) has = tt

pub is_shallow : {T Form : Type 0} (read : List Sexp → Read Form) (text : List ℕ) (form : Form) (result : Result T ReadError) → HasForm read text form
    → OnOk result (faults_to_depth text ≡ [])
is_shallow read text form (Ok value) has = has.has.depth
is_shallow read text form (Err refusal) has = tt

pub has_domain : (text : List ℕ) (form : DomainForm) (result : Result Domain ReadError) → HasForm texts.domain text form
    → IfOk result (λ made. domain_names form ≡ parsed (known_of made)) → IfOk result (λ made. HasDomain text (known_of made))
has_domain text form (Ok made) has known = record { reads = reads_as texts.domain domain_names text form (known_of made) has known; depth = has.has.depth }
has_domain text form (Err refusal) has known = tt

pub reads_problem : (of : Known) (text : List ℕ) (form : ProblemForm) (result : Result Parts ReadError) → HasForm texts.problem text form
    → IfOk result (λ made. problem_names of form ≡ parsed made) → IfOk result (ReadsAs texts.problem (problem_names of) text)
reads_problem of text form (Ok made) has known = reads_as texts.problem (problem_names of) text form made has known
reads_problem of text form (Err refusal) has known = tt

-- ---- the two texts

pub reads_both : (domain problem : List ℕ) (known : Known) (result : Result Parts ReadError) → HasDomain domain known
    → IfOk result (ReadsAs texts.problem (problem_names known) problem) → IfOk result (Reads domain problem)
reads_both domain problem known (Ok parts) has reads = record { known = known; of_domain = has.reads; of_problem = reads }
reads_both domain problem known (Err refusal) has reads = tt

pub shallow_both : (domain problem : List ℕ) (known : Known) (result : Result Parts ReadError) → HasDomain domain known
    → OnOk result (faults_to_depth problem ≡ []) → OnOk result (AreShallow domain problem)
shallow_both domain problem known (Ok parts) has depth = record { of_domain = has.depth; of_problem = depth }
shallow_both domain problem known (Err refusal) has depth = tt

pub forms_both : (domain problem : List ℕ) (result : Result Parts ReadError) → IsForm texts.domain domain
    → OnOk result (IsForm texts.problem problem) → OnOk result (HaveForms domain problem)
forms_both domain problem (Ok parts) d p = record { of_domain = d; of_problem = p }
forms_both domain problem (Err refusal) d p = tt

pub stops_inside : (domain problem : List ℕ) (known : Known) (result : Result Parts ReadError) → HasDomain domain known
    → IfErr result (λ refusal. ¬ (refusal ≡ Memory) → StopsInProblem known problem refusal)
    → IfErr result (λ refusal. ¬ (refusal ≡ Memory) → FirstFault domain problem refusal)
stops_inside domain problem known (Ok parts) has stops = tt
stops_inside domain problem known (Err refusal) has stops = λ some. FirstFault.in_problem (record { known = known; has = has; stops = stops some })

pub in_domain : (domain problem : List ℕ) (refusal : ReadError) → StopsInDomain domain refusal → FirstFault domain problem refusal
in_domain domain problem refusal stops = FirstFault.in_domain stops

pub ruleset passes = (has_form, stops_at_bytes, stops_at_shape)

pub ruleset naming = (named_stop)
