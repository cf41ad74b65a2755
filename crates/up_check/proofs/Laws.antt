-- Texts read as one thing at most, and they read as it where they have no fault.
use Rattle.std.proofs.Common.{◌≡◌, ℕ, List, [], ◌∷◌, Some, refl, ap, ◌∙◌}
use Rattle.pddl_lex.specs.declared.error.LexError.{LexError}
use Rattle.pddl_lex.specs.declared.tree.Sexp.{Sexp}
use Rattle.pddl_lex.specs.Faults.{faults_to_depth}
use Rattle.pddl_lex.specs.Parses.{Parse, parsed, rejected, first}
use Rattle.pddl_lex.proofs.Nested.{faultless_trees, trees_one, depth_faultless}
use Rattle.pddl_parse.specs.Shapes.{Read}
use Rattle.pddl_parse.specs.Texts as texts
use Rattle.up_tree.specs.declared.problem.Parts.{Parts}
use Rattle.up_phrase.specs.Walks.{Checked}
use Rattle.up_check.specs.declared.refusal.File.{File}
use Rattle.up_check.specs.declared.refusal.File.TheVariants as file
use Rattle.up_check.specs.declared.refusal.ReadError.{ReadError}
use Rattle.up_check.specs.Domains.{Known, domain_names}
use Rattle.up_check.specs.Problems.{problem_names}
use Rattle.up_check.specs.Refusals.{bytes_refused, shape_refused, refused}
use Rattle.up_check.specs.Passes.{AreShallow, FirstFault, FormStops, HasForm, HasTrees, IsSettled, ReadsAs, Reads, Stops}
use Rattle.up_check.proofs.Passes.{reads_as}

parsed_one : {F A : Type 0} (v : Parse F A) (a b : A) → v ≡ parsed a → v ≡ parsed b → a ≡ b
parsed_one v a b is e = cc

parsed_never : {F A : Type 0} (v : Parse F A) (a : A) (f : F) → v ≡ parsed a → first v ≡ Some f → ⊥
parsed_never v a f is e = cc

-- what a text settles of itself
data Settled {Form A : Type 0} (read : List Sexp → Read Form) (names : Form → Checked A) (of : File) (text : List ℕ) : Type 0 where
  reads : (it : A) → ReadsAs read names text it → faults_to_depth text ≡ [] → Settled read names of text
  stops : (refusal : ReadError) → Stops read names of text refusal → Settled read names of text

module _ {Form A : Type 0} (read : List Sexp → Read Form) (names : Form → Checked A) (of : File) (text : List ℕ) where
  trees_same : {a : A} (r : ReadsAs read names text a) (trees : List Sexp) → HasTrees text trees → read trees ≡ parsed r.form
  trees_same r trees has = ap read (trees_one text trees r.trees has.spelled r.spelled) ∙ r.shape

  reads_one : (a b : A) → ReadsAs read names text a → ReadsAs read names text b → a ≡ b
  reads_one a b r s =
      let same : r.form ≡ s.form = parsed_one (read r.trees) r.form s.form r.shape (ap read (trees_one text r.trees s.trees r.spelled s.spelled) ∙ s.shape) in
      parsed_one (names r.form) a b r.known (ap names same ∙ s.known)

  never : (a : A) (refusal : ReadError) → ReadsAs read names text a → faults_to_depth text ≡ [] → Stops read names of text refusal → ⊥
  never a refusal r none (Stops.at_form (FormStops.at_bytes s)) = (let at_first = s.stops in cc)
  never a refusal r none (Stops.at_form (FormStops.at_shape s)) = parsed_never (read s.trees) r.form s.fault (trees_same r s.trees s.has) s.stops
  never a refusal r none (Stops.at_names s) =
      let same : s.form ≡ r.form = parsed_one (read s.has.trees) s.form r.form s.has.is (trees_same r s.has.trees s.has.has) in
      parsed_never (names s.form) a s.stops.fault (ap names same ∙ r.known) s.stops.stops

  settle_names : (form : Form) (v : Checked A) → names form ≡ v → HasForm read text form → Settled read names of text
  settle_names form (parsed a) is has = Settled.reads a (reads_as read names text form a has is) has.has.depth
  settle_names form (rejected f fs) is has =
      Settled.stops (refused of f) (Stops.at_names (record { form = form; has = has; stops = record { fault = f; stops = ap first is; is = refl } }))

  settle_shape : (trees : List Sexp) (v : Read Form) → read trees ≡ v → HasTrees text trees → Settled read names of text
  settle_shape trees (parsed form) is has = settle_names form (names form) refl (record { trees = trees; has = has; is = is })
  settle_shape trees (rejected f fs) is has =
      Settled.stops (shape_refused of f) (Stops.at_form (FormStops.at_shape (record { trees = trees; has = has; fault = f; stops = ap first is; is = refl })))

  settle_bytes : (faults : List LexError) → faults_to_depth text ≡ faults → Settled read names of text
  settle_bytes [] is =
      let found = faultless_trees text (depth_faultless text is) in
      settle_shape found.0 (read found.0) refl (record { spelled = found.1; depth = is })
  settle_bytes (f ∷ fs) is =
      Settled.stops (bytes_refused of f) (Stops.at_form (FormStops.at_bytes (record { fault = f; stops = rw is refl; is = refl })))

  settle : Settled read names of text
  settle = settle_bytes (faults_to_depth text) refl

pub problem_one : (domain problem : List ℕ) (parts others : Parts) → Reads domain problem parts → Reads domain problem others → parts ≡ others
problem_one domain problem parts others r s =
    let same : r.known ≡ s.known = reads_one texts.domain domain_names file.Domain domain r.known s.known r.of_domain s.of_domain in
    let moved : ReadsAs texts.problem (problem_names r.known) problem others = rw same s.of_problem in
    reads_one texts.problem (problem_names r.known) file.Problem problem parts others r.of_problem moved

pub faultless : (domain problem : List ℕ) (parts : Parts) (refusal : ReadError) → Reads domain problem parts → AreShallow domain problem
    → FirstFault domain problem refusal → ⊥
faultless domain problem parts refusal r shallow (FirstFault.in_domain halts) =
    never texts.domain domain_names file.Domain domain r.known refusal r.of_domain shallow.of_domain halts
faultless domain problem parts refusal r shallow (FirstFault.in_problem inside) =
    let same : r.known ≡ inside.known = reads_one texts.domain domain_names file.Domain domain r.known inside.known r.of_domain inside.has.reads in
    let moved : Stops texts.problem (problem_names r.known) file.Problem problem refusal = rw same inside.stops in
    never texts.problem (problem_names r.known) file.Problem problem parts refusal r.of_problem shallow.of_problem moved

settle_problem : (domain problem : List ℕ) (known : Known) → ReadsAs texts.domain domain_names domain known → faults_to_depth domain ≡ []
    → Settled texts.problem (problem_names known) file.Problem problem → IsSettled domain problem
settle_problem domain problem known r none (Settled.reads parts s nothing) =
    IsSettled.reads parts (record { known = known; of_domain = r; of_problem = s }) (record { of_domain = none; of_problem = nothing })
settle_problem domain problem known r none (Settled.stops refusal halts) =
    IsSettled.stops refusal (FirstFault.in_problem (record { known = known; has = record { reads = r; depth = none }; stops = halts }))

settle_domain : (domain problem : List ℕ) → Settled texts.domain domain_names file.Domain domain → IsSettled domain problem
settle_domain domain problem (Settled.reads known r none) =
    settle_problem domain problem known r none (settle texts.problem (problem_names known) file.Problem problem)
settle_domain domain problem (Settled.stops refusal halts) = IsSettled.stops refusal (FirstFault.in_domain halts)

pub settled : (domain problem : List ℕ) → IsSettled domain problem
settled domain problem = settle_domain domain problem (settle texts.domain domain_names file.Domain domain)
