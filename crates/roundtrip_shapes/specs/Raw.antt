-- The abstract syntax that terms, expressions and conditions have, wherever its parts stand in a text.
use Rattle.std.specs.Prelude.{Bool, true, false, List, [], ◌∷◌, Some, None}
use Rattle.up_text.specs.declared.name.Name.{Name}
use Rattle.up_text.specs.declared.place.Place.{Place}
use Rattle.up_frac.specs.Fraction.{Fraction}
use Rattle.up_tree.specs.declared.term.Typed.{Typed}
use Rattle.up_tree.specs.declared.term.Term.{Term, Var, Object, Fluent', Row_of-Term, end_of-Term, more_of-Term}
use Rattle.up_tree.specs.declared.expr.Expr.{Expr, Number, Fluent}
use Rattle.up_tree.specs.declared.formula.Relation.TheVariants as tree
use Rattle.up_tree.specs.declared.formula.Relation.{Relation as TreeRelation}
use Rattle.up_tree.specs.declared.formula.Formula.{Formula, And', Or', Atom, Equal, Compare, Row_of-Formula, end_of-Formula, more_of-Formula}
use Rattle.up_tree.specs.Nodes.{not, imply, exists, forall, sum, difference, product, quotient}
use Rattle.pddl_parse.specs.declared.raw.Ident.{Ident}
use Rattle.pddl_parse.specs.declared.raw.RawGroup.{RawGroup}
use Rattle.pddl_parse.specs.declared.raw.Operator.{Operator}
use Rattle.pddl_parse.specs.declared.raw.Operator.TheVariants as operator
use Rattle.pddl_parse.specs.declared.raw.Relation.{Relation}
use Rattle.pddl_parse.specs.declared.raw.Relation.TheVariants as relation
use Rattle.pddl_parse.specs.declared.raw.RawTerm as raw
use Rattle.pddl_parse.specs.declared.raw.RawTerm.{RawTerm}
use Rattle.pddl_parse.specs.declared.raw.RawFormula as form
use Rattle.pddl_parse.specs.declared.raw.RawFormula.{RawFormula}
use Rattle.pddl_parse.specs.Forms.{ident_at}

-- ---- names and rows

-- a name at some place
pub data IsRawName (name : Name) : Ident → Type 0 where
  at : (place : Place) → IsRawName name (ident_at name place)

pub data IsEmpty {X : Type 0} : List X → Type 0 where
  empty : IsEmpty []

-- a first member and a rest
pub data IsFirst {X : Type 0} (P : X → Type 0) (Q : List X → Type 0) : List X → Type 0 where
  first : (x : X) (xs : List X) → P x → Q xs → IsFirst P Q (x ∷ xs)

-- ---- variable lists

pub data AreRawNames : List Typed → List Ident → Type 0 where
  no_names : AreRawNames [] []
  more_names : (v : Typed) (vars : List Typed) (ident : Ident) (idents : List Ident)
      → IsRawName v.name ident → AreRawNames vars idents → AreRawNames (v ∷ vars) (ident ∷ idents)

-- a group for each variable with its type, or one group for all where no type is written
pub data AreRawGroups : Bool → List Typed → List RawGroup → Type 0 where
  no_groups : (typed : Bool) → AreRawGroups typed [] []
  more_groups : (v : Typed) (vars : List Typed) (name of : Ident) (groups : List RawGroup)
      → IsRawName v.name name → IsRawName v.of of → AreRawGroups true vars groups
      → AreRawGroups true (v ∷ vars) (record { names = name ∷ []; of = Some of } ∷ groups)
  one_group : (v : Typed) (vars : List Typed) (names : List Ident)
      → AreRawNames (v ∷ vars) names → AreRawGroups false (v ∷ vars) (record { names = names; of = None } ∷ [])

-- ---- terms and expressions

pub data IsRawVariable (v : Name) : RawTerm → Type 0 where
  a_variable : (ident : Ident) → IsRawName v ident → IsRawVariable v (raw.Variable ident)

pub data IsRawObject (o : Name) : RawTerm → Type 0 where
  an_object : (ident : Ident) → IsRawName o ident → IsRawObject o (raw.Name ident)

pub data IsRawNumber (n : Fraction) : RawTerm → Type 0 where
  a_number : (place : Place) → IsRawNumber n (raw.Number place n)

pub data IsRawCall (f : Name) (Args : List RawTerm → Type 0) : RawTerm → Type 0 where
  a_call : (place : Place) (ident : Ident) (args : List RawTerm) → IsRawName f ident → Args args → IsRawCall f Args (raw.Call place ident args)

pub data IsRawArithmetic (op : Operator) (A B : RawTerm → Type 0) : RawTerm → Type 0 where
  arithmetic : (place : Place) (a b : RawTerm) → A a → B b → IsRawArithmetic op A B (raw.Arithmetic place op (a ∷ b ∷ []))

unfoldable mutual
  pub IsRawTerm : Term → RawTerm → Type 0
  IsRawTerm (Var v) t = IsRawVariable v t
  IsRawTerm (Object o) t = IsRawObject o t
  IsRawTerm (Fluent' f n ts) t = IsRawCall f (λ args. AreRawArguments ts args) t

  pub AreRawArguments : {n : _} → Row_of-Term n → List RawTerm → Type 0
  AreRawArguments end_of-Term args = IsEmpty args
  AreRawArguments (more_of-Term t ts) args = IsFirst (λ first. IsRawTerm t first) (λ rest. AreRawArguments ts rest) args

abbrev pub AreRawTerms : List Term → List RawTerm → Type 0
AreRawTerms [] args = IsEmpty args
AreRawTerms (t ∷ ts) args = IsFirst (λ first. IsRawTerm t first) (λ rest. AreRawTerms ts rest) args

unfoldable pub IsRawExpr : Expr → RawTerm → Type 0
IsRawExpr (Number n) t = IsRawNumber n t
IsRawExpr (Fluent f ts) t = IsRawCall f (λ args. AreRawTerms ts args) t
IsRawExpr (sum a b) t = IsRawArithmetic operator.Sum (λ x. IsRawExpr a x) (λ y. IsRawExpr b y) t
IsRawExpr (difference a b) t = IsRawArithmetic operator.Difference (λ x. IsRawExpr a x) (λ y. IsRawExpr b y) t
IsRawExpr (product a b) t = IsRawArithmetic operator.Product (λ x. IsRawExpr a x) (λ y. IsRawExpr b y) t
IsRawExpr (quotient a b) t = IsRawArithmetic operator.Quotient (λ x. IsRawExpr a x) (λ y. IsRawExpr b y) t

-- ---- conditions

pub data IsRawAnd (Fs : List RawFormula → Type 0) : RawFormula → Type 0 where
  an_and : (fs : List RawFormula) → Fs fs → IsRawAnd Fs (form.And fs)

pub data IsRawOr (Fs : List RawFormula → Type 0) : RawFormula → Type 0 where
  an_or : (fs : List RawFormula) → Fs fs → IsRawOr Fs (form.Or fs)

pub data IsRawNot (F : RawFormula → Type 0) : RawFormula → Type 0 where
  a_not : (f : RawFormula) → F f → IsRawNot F (form.Not f)

pub data IsRawImply (F G : RawFormula → Type 0) : RawFormula → Type 0 where
  an_imply : (f g : RawFormula) → F f → G g → IsRawImply F G (form.Imply f g)

pub data IsRawExists (Vars : List RawGroup → Type 0) (F : RawFormula → Type 0) : RawFormula → Type 0 where
  an_exists : (groups : List RawGroup) (f : RawFormula) → Vars groups → F f → IsRawExists Vars F (form.Exists groups f)

pub data IsRawForall (Vars : List RawGroup → Type 0) (F : RawFormula → Type 0) : RawFormula → Type 0 where
  a_forall : (groups : List RawGroup) (f : RawFormula) → Vars groups → F f → IsRawForall Vars F (form.Forall groups f)

pub data IsRawAtom (p : Name) (Args : List RawTerm → Type 0) : RawFormula → Type 0 where
  an_atom : (place : Place) (ident : Ident) (args : List RawTerm) → IsRawName p ident → Args args → IsRawAtom p Args (form.Atom place ident args)

pub data IsRawCompare (r : Relation) (A B : RawTerm → Type 0) : RawFormula → Type 0 where
  a_compare : (place : Place) (a b : RawTerm) → A a → B b → IsRawCompare r A B (form.Compare place r a b)

abbrev pub raw_relation : TreeRelation → Relation
raw_relation tree.Less = relation.Less
raw_relation tree.LessEqual = relation.LessEqual
raw_relation tree.Same = relation.Same
raw_relation tree.GreaterEqual = relation.GreaterEqual
raw_relation tree.Greater = relation.Greater

unfoldable mutual
  pub IsRawFormula : Bool → Formula → RawFormula → Type 0
  IsRawFormula typed (And' n fs) raw = IsRawAnd (λ raws. AreRawMembers typed fs raws) raw
  IsRawFormula typed (Or' n fs) raw = IsRawOr (λ raws. AreRawMembers typed fs raws) raw
  IsRawFormula typed (not f) raw = IsRawNot (λ x. IsRawFormula typed f x) raw
  IsRawFormula typed (imply f g) raw = IsRawImply (λ x. IsRawFormula typed f x) (λ y. IsRawFormula typed g y) raw
  IsRawFormula typed (exists vars f) raw = IsRawExists (AreRawGroups typed vars) (λ x. IsRawFormula typed f x) raw
  IsRawFormula typed (forall vars f) raw = IsRawForall (AreRawGroups typed vars) (λ x. IsRawFormula typed f x) raw
  IsRawFormula typed (Atom p ts) raw = IsRawAtom p (AreRawTerms ts) raw
  IsRawFormula typed (Equal t u) raw = IsRawCompare relation.Same (IsRawTerm t) (IsRawTerm u) raw
  IsRawFormula typed (Compare r a b) raw = IsRawCompare (raw_relation r) (IsRawExpr a) (IsRawExpr b) raw

  pub AreRawMembers : Bool → {n : _} → Row_of-Formula n → List RawFormula → Type 0
  AreRawMembers typed end_of-Formula raws = IsEmpty raws
  AreRawMembers typed (more_of-Formula f fs) raws = IsFirst (λ x. IsRawFormula typed f x) (λ rest. AreRawMembers typed fs rest) raws
