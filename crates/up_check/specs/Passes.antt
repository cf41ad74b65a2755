-- What the three passes find of two texts: the problem that they read as, or the fault at which they stop.
use Rattle.std.specs.Prelude.{◌≡◌, ℕ, List, [], Some}
use Rattle.pddl_lex.specs.declared.error.LexError.{LexError}
use Rattle.pddl_lex.specs.declared.tree.Sexp.{Sexp}
use Rattle.pddl_lex.specs.Brackets.{Trees}
use Rattle.pddl_lex.specs.Faults.{faults_to_depth, first_of}
use Rattle.pddl_lex.specs.Parses.{parsed, first}
use Rattle.pddl_parse.specs.declared.shape.ShapeError.{ShapeError}
use Rattle.pddl_parse.specs.Shapes.{Read}
use Rattle.pddl_parse.specs.Texts as texts
use Rattle.up_check.specs.declared.refusal.File.{File}
use Rattle.up_check.specs.declared.refusal.File.TheVariants as file
use Rattle.up_tree.specs.declared.problem.Parts.{Parts}
use Rattle.up_phrase.specs.declared.fault.Fault.{Fault}
use Rattle.up_phrase.specs.Walks.{Checked}
use Rattle.up_check.specs.declared.refusal.ReadError.{ReadError}
use Rattle.up_check.specs.Domains.{Known, domain_names}
use Rattle.up_check.specs.Problems.{problem_names}
use Rattle.up_check.specs.Refusals.{bytes_refused, shape_refused, refused}

-- the bracket trees of a text that opens no bracket too deep
pub record HasTrees (text : List ℕ) (trees : List Sexp) : Type 0 where
  pub spelled : Trees text trees
  pub depth : faults_to_depth text ≡ []

-- the form of a text, by the shape that is due
pub record HasForm {Form : Type 0} (read : List Sexp → Read Form) (text : List ℕ) (form : Form) : Type 0 where
  pub trees : List Sexp
  pub has : HasTrees text trees
  pub is : read trees ≡ parsed form

-- the refusal at the first fault of a text's bytes and brackets
pub record StopsAtBytes (of : File) (text : List ℕ) (refusal : ReadError) : Type 0 where
  pub fault : LexError
  pub stops : first_of (faults_to_depth text) ≡ Some fault
  pub is : refusal ≡ bytes_refused of fault

-- the refusal at the first fault of a text's shape
pub record StopsAtShape {Form : Type 0} (read : List Sexp → Read Form) (of : File) (text : List ℕ) (refusal : ReadError) : Type 0 where
  pub trees : List Sexp
  pub has : HasTrees text trees
  pub fault : ShapeError
  pub stops : first (read trees) ≡ Some fault
  pub is : refusal ≡ shape_refused of fault

-- where the first two passes of a text stop
pub data FormStops {Form : Type 0} (read : List Sexp → Read Form) (of : File) (text : List ℕ) (refusal : ReadError) : Type 0 where
  at_bytes : StopsAtBytes of text refusal → FormStops read of text refusal
  at_shape : StopsAtShape read of text refusal → FormStops read of text refusal

-- the refusal at the first fault of a form's names
pub record NamesStop {Form A : Type 0} (names : Form → Checked A) (of : File) (form : Form) (refusal : ReadError) : Type 0 where
  pub fault : Fault
  pub stops : first (names form) ≡ Some fault
  pub is : refusal ≡ refused of fault

-- the refusal at the first fault of the names of a text's form
pub record StopsAtNames {Form A : Type 0} (read : List Sexp → Read Form) (names : Form → Checked A) (of : File) (text : List ℕ) (refusal : ReadError) : Type 0 where
  pub form : Form
  pub has : HasForm read text form
  pub stops : NamesStop names of form refusal

-- where the reading of one text stops
pub data Stops {Form A : Type 0} (read : List Sexp → Read Form) (names : Form → Checked A) (of : File) (text : List ℕ) (refusal : ReadError) : Type 0 where
  at_form : FormStops read of text refusal → Stops read names of text refusal
  at_names : StopsAtNames read names of text refusal → Stops read names of text refusal

abbrev pub StopsInDomain : List ℕ → ReadError → Type 0
StopsInDomain text refusal = Stops texts.domain domain_names file.Domain text refusal

-- of a problem in a known domain
abbrev pub StopsInProblem : Known → List ℕ → ReadError → Type 0
StopsInProblem known text refusal = Stops texts.problem (problem_names known) file.Problem text refusal

-- A text reads as this: by its bracket trees it has a form, whose names are known to be this.
pub record ReadsAs {Form A : Type 0} (read : List Sexp → Read Form) (names : Form → Checked A) (text : List ℕ) (it : A) : Type 0 where
  pub trees : List Sexp
  pub spelled : Trees text trees
  pub form : Form
  pub shape : read trees ≡ parsed form
  pub known : names form ≡ parsed it

-- The two texts read as a problem: the first as a domain, and the second as the problem in it.
pub record Reads (domain problem : List ℕ) (parts : Parts) : Type 0 where
  pub known : Known
  pub of_domain : ReadsAs texts.domain domain_names domain known
  pub of_problem : ReadsAs texts.problem (problem_names known) problem parts

-- no bracket of the two texts opens inside 200 others
pub record AreShallow (domain problem : List ℕ) : Type 0 where
  pub of_domain : faults_to_depth domain ≡ []
  pub of_problem : faults_to_depth problem ≡ []

-- a text has a form
pub record IsForm {Form : Type 0} (read : List Sexp → Read Form) (text : List ℕ) : Type 0 where
  pub form : Form
  pub has : HasForm read text form

-- both texts have their forms
pub record HaveForms (domain problem : List ℕ) : Type 0 where
  pub of_domain : IsForm texts.domain domain
  pub of_problem : IsForm texts.problem problem

-- a domain text that opens no bracket too deep reads as this
pub record HasDomain (domain : List ℕ) (known : Known) : Type 0 where
  pub reads : ReadsAs texts.domain domain_names domain known
  pub depth : faults_to_depth domain ≡ []

-- the first fault of a problem text in the domain that the other text reads as
pub record StopsInside (domain problem : List ℕ) (refusal : ReadError) : Type 0 where
  pub known : Known
  pub has : HasDomain domain known
  pub stops : StopsInProblem known problem refusal

-- The first fault of two texts: in the domain, or in the problem where the domain is read.
pub data FirstFault (domain problem : List ℕ) (refusal : ReadError) : Type 0 where
  in_domain : StopsInDomain domain refusal → FirstFault domain problem refusal
  in_problem : StopsInside domain problem refusal → FirstFault domain problem refusal

-- The two texts read as a problem, or they have a first fault.
pub data IsSettled (domain problem : List ℕ) : Type 0 where
  reads : (parts : Parts) → Reads domain problem parts → AreShallow domain problem → IsSettled domain problem
  stops : (refusal : ReadError) → FirstFault domain problem refusal → IsSettled domain problem
