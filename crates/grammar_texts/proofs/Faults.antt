-- Two texts have one first fault at most.
use Rattle.std.proofs.Common.{◌≡◌, ℕ, List, [], Some, ap, sym, ◌∙◌}
use Rattle.pddl_lex.specs.declared.tree.Sexp.{Sexp}
use Rattle.pddl_lex.specs.Faults.{faults_to_depth}
use Rattle.pddl_lex.specs.Parses.{Parse, parsed, first}
use Rattle.pddl_lex.proofs.Nested.{trees_one}
use Rattle.pddl_parse.specs.Shapes.{Read}
use Rattle.pddl_parse.specs.Texts as texts
use Rattle.up_phrase.specs.Walks.{Checked}
use Rattle.up_check.specs.declared.refusal.File.{File}
use Rattle.up_check.specs.declared.refusal.File.TheVariants as file
use Rattle.up_check.specs.declared.refusal.ReadError.{ReadError}
use Rattle.up_check.specs.Domains.{domain_names}
use Rattle.up_check.specs.Problems.{problem_names}
use Rattle.up_check.specs.Refusals.{shape_refused, refused}
use Rattle.up_check.specs.Passes.{FirstFault, FormStops, HasTrees, ReadsAs, Stops}

parsed_one : {F A : Type 0} (v : Parse F A) (a b : A) → v ≡ parsed a → v ≡ parsed b → a ≡ b
parsed_one v a b is e = cc

parsed_never : {F A : Type 0} (v : Parse F A) (a : A) (f : F) → v ≡ parsed a → first v ≡ Some f → ⊥
parsed_never v a f is e = cc

first_one : {F A : Type 0} (v : Parse F A) (f g : F) → first v ≡ Some f → first v ≡ Some g → f ≡ g
first_one v f g is e = cc

module _ {Form A : Type 0} (read : List Sexp → Read Form) (names : Form → Checked A) (of : File) (text : List ℕ) where
  one_form : (trees others : List Sexp) (form other : Form) → HasTrees text trees → HasTrees text others
      → read trees ≡ parsed form → read others ≡ parsed other → form ≡ other
  one_form trees others form other has have is are =
      parsed_one (read trees) form other is (ap read (trees_one text trees others has.spelled have.spelled) ∙ are)

  never : (a : A) (refusal : ReadError) → ReadsAs read names text a → faults_to_depth text ≡ [] → Stops read names of text refusal → ⊥
  never a refusal r none (Stops.at_form (FormStops.at_bytes s)) = (let at_first = s.stops in cc)
  never a refusal r none (Stops.at_form (FormStops.at_shape s)) =
      parsed_never (read s.trees) r.form s.fault (ap read (trees_one text s.trees r.trees s.has.spelled r.spelled) ∙ r.shape) s.stops
  never a refusal r none (Stops.at_names s) =
      let same : s.form ≡ r.form = one_form s.has.trees r.trees s.form r.form s.has.has (record { spelled = r.spelled; depth = none }) s.has.is r.shape in
      parsed_never (names s.form) a s.stops.fault (ap names same ∙ r.known) s.stops.stops

  one_stop : (one other : ReadError) → Stops read names of text one → Stops read names of text other → one ≡ other
  one_stop one other (Stops.at_form (FormStops.at_bytes s)) (Stops.at_form (FormStops.at_bytes r)) =
      (let is = s.stops in let are = r.stops in let said = s.is in let says = r.is in cc)
  one_stop one other (Stops.at_form (FormStops.at_bytes s)) (Stops.at_form (FormStops.at_shape r)) = (let is = s.stops in let none = r.has.depth in cc)
  one_stop one other (Stops.at_form (FormStops.at_bytes s)) (Stops.at_names r) = (let is = s.stops in let none = r.has.has.depth in cc)
  one_stop one other (Stops.at_form (FormStops.at_shape s)) (Stops.at_form (FormStops.at_bytes r)) = (let is = r.stops in let none = s.has.depth in cc)
  one_stop one other (Stops.at_form (FormStops.at_shape s)) (Stops.at_form (FormStops.at_shape r)) =
      s.is ∙ ap (shape_refused of) (first_one (read s.trees) s.fault r.fault s.stops
      (ap (λ trees. first (read trees)) (trees_one text s.trees r.trees s.has.spelled r.has.spelled) ∙ r.stops)) ∙ sym r.is
  one_stop one other (Stops.at_form (FormStops.at_shape s)) (Stops.at_names r) =
      absurd (parsed_never (read s.trees) r.form s.fault (ap read (trees_one text s.trees r.has.trees s.has.spelled r.has.has.spelled) ∙ r.has.is) s.stops)
  one_stop one other (Stops.at_names s) (Stops.at_form (FormStops.at_bytes r)) = (let is = r.stops in let none = s.has.has.depth in cc)
  one_stop one other (Stops.at_names s) (Stops.at_form (FormStops.at_shape r)) =
      absurd (parsed_never (read r.trees) s.form r.fault (ap read (trees_one text r.trees s.has.trees r.has.spelled s.has.has.spelled) ∙ s.has.is) r.stops)
  one_stop one other (Stops.at_names s) (Stops.at_names r) =
      let same : s.form ≡ r.form = one_form s.has.trees r.has.trees s.form r.form s.has.has r.has.has s.has.is r.has.is in
      s.stops.is ∙ ap (refused of) (first_one (names s.form) s.stops.fault r.stops.fault s.stops.stops (ap (λ form. first (names form)) same ∙ r.stops.stops)) ∙ sym r.stops.is

pub one_fault : (domain problem : List ℕ) (one other : ReadError) → FirstFault domain problem one → FirstFault domain problem other → one ≡ other
one_fault domain problem one other (FirstFault.in_domain s) (FirstFault.in_domain r) = one_stop texts.domain domain_names file.Domain domain one other s r
one_fault domain problem one other (FirstFault.in_domain s) (FirstFault.in_problem r) =
    absurd (never texts.domain domain_names file.Domain domain r.known one r.has.reads r.has.depth s)
one_fault domain problem one other (FirstFault.in_problem s) (FirstFault.in_domain r) =
    absurd (never texts.domain domain_names file.Domain domain s.known other s.has.reads s.has.depth r)
one_fault domain problem one other (FirstFault.in_problem s) (FirstFault.in_problem r) =
    let same : s.known ≡ r.known = parsed_one (domain_names s.has.reads.form) s.known r.known s.has.reads.known
    (ap domain_names (one_form texts.domain domain_names file.Domain domain s.has.reads.trees r.has.reads.trees s.has.reads.form r.has.reads.form
    (record { spelled = s.has.reads.spelled; depth = s.has.depth }) (record { spelled = r.has.reads.spelled; depth = r.has.depth }) s.has.reads.shape r.has.reads.shape) ∙ r.has.reads.known) in
    let moved : Stops texts.problem (problem_names s.known) file.Problem problem other = rw same r.stops in
    one_stop texts.problem (problem_names s.known) file.Problem problem one other s.stops moved
