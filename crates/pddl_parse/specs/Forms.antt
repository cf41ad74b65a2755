-- Which bracket trees spell which raw forms, said apart from how a tree is read.
use Rattle.std.specs.Prelude.{◌≡◌, ◌≢◌, ◌≤◌, ℕ, List, [], ◌∷◌, ◌++◌, codes, length, Some, None}
use Rattle.up_text.specs.declared.place.Place.{Place}
use Rattle.up_text.specs.Names.{name_of}
use Rattle.up_frac.specs.Fraction.{Fraction}
use Rattle.pddl_lex.specs.declared.tree.Token.{Token}
use Rattle.pddl_lex.specs.declared.tree.Sign.{Sign}
use Rattle.pddl_lex.specs.declared.tree.Sign.TheVariants as sign
use Rattle.pddl_lex.specs.declared.tree.TokenKind.{TokenKind}
use Rattle.pddl_lex.specs.declared.tree.TokenKind.TheVariants as kind
use Rattle.pddl_lex.specs.declared.tree.Sexp.{Sexp, Leaf, Group}
use Rattle.pddl_parse.specs.declared.raw.Ident.{Ident}
use Rattle.pddl_parse.specs.declared.raw.RawGroup.{RawGroup}
use Rattle.pddl_parse.specs.declared.raw.Operator.{Operator}
use Rattle.pddl_parse.specs.declared.raw.Operator.TheVariants as operator
use Rattle.pddl_parse.specs.declared.raw.Relation.{Relation}
use Rattle.pddl_parse.specs.declared.raw.Relation.TheVariants as relation
use Rattle.pddl_parse.specs.declared.raw.RawTerm.{RawTerm, Name, Variable, Number, Call, Arithmetic}
use Rattle.pddl_parse.specs.declared.raw.RawFormula.{RawFormula, And, Or, Not, Imply, Exists, Forall, Atom, Compare}

abbrev pub leaf : TokenKind → Place → Sexp
leaf kind place = Leaf (record { kind = kind; place = place })

abbrev pub ident_at : List ℕ → Place → Ident
ident_at name place = record { name = name; place = place }

-- a name
pub data IsIdent : Sexp → Ident → Type 0 where
  ident : (word name : List ℕ) (place : Place) → name_of word ≡ Some name → IsIdent (leaf (kind.Word word) place) (ident_at name place)

-- a variable
pub data IsVariable : Sexp → Ident → Type 0 where
  variable : (word name : List ℕ) (place : Place) → name_of word ≡ Some name → IsVariable (leaf (kind.Variable word) place) (ident_at name place)

pub data AreVariables : List Sexp → List Ident → Type 0 where
  no_variables : AreVariables [] []
  more_variables : (tree : Sexp) (name : Ident) (trees : List Sexp) (names : List Ident)
      → IsVariable tree name → AreVariables trees names → AreVariables (tree ∷ trees) (name ∷ names)

-- variables with their types
pub data AreTyped : List Sexp → List RawGroup → Type 0 where
  no_groups : AreTyped [] []
  untyped : (trees : List Sexp) (names : List Ident) → names ≢ [] → AreVariables trees names
      → AreTyped trees (record { names = names; of = None } ∷ [])
  typed : (trees : List Sexp) (names : List Ident) (at : Place) (tree : Sexp) (of : Ident) (rest : List Sexp) (groups : List RawGroup)
      → names ≢ [] → AreVariables trees names → IsIdent tree of → AreTyped rest groups
      → AreTyped (trees ++ leaf (kind.Sign sign.Minus) at ∷ tree ∷ rest) (record { names = names; of = Some of } ∷ groups)

-- the sign of an operator, with how many operands it takes
pub data IsOperator : Sign → Operator → ℕ → Type 0 where
  sum : (n : ℕ) → 2 ≤ n → IsOperator sign.Plus operator.Sum n
  product : (n : ℕ) → 2 ≤ n → IsOperator sign.Times operator.Product n
  negative : IsOperator sign.Minus operator.Difference 1
  difference : IsOperator sign.Minus operator.Difference 2
  quotient : IsOperator sign.Slash operator.Quotient 2

pub data IsRelation : Sign → Relation → Type 0 where
  less : IsRelation sign.Less relation.Less
  less_equal : IsRelation sign.LessEqual relation.LessEqual
  same : IsRelation sign.Same relation.Same
  greater_equal : IsRelation sign.GreaterEqual relation.GreaterEqual
  greater : IsRelation sign.Greater relation.Greater

mutual
  -- an object term or an expression
  pub data IsTerm : Sexp → RawTerm → Type 0 where
    a_name : (tree : Sexp) (name : Ident) → IsIdent tree name → IsTerm tree (Name name)
    a_variable : (tree : Sexp) (name : Ident) → IsVariable tree name → IsTerm tree (Variable name)
    a_number : (value : Fraction) (place : Place) → IsTerm (leaf (kind.Number value) place) (Number place value)
    a_call : (place : Place) (head : Sexp) (f : Ident) (trees : List Sexp) (terms : List RawTerm)
        → IsIdent head f → AreTerms trees terms → IsTerm (Group place (head ∷ trees)) (Call place f terms)
    an_expression : (place at : Place) (sign : Sign) (op : Operator) (trees : List Sexp) (terms : List RawTerm)
        → IsOperator sign op (length trees) → AreTerms trees terms
        → IsTerm (Group place (leaf (kind.Sign sign) at ∷ trees)) (Arithmetic place op terms)

  pub data AreTerms : List Sexp → List RawTerm → Type 0 where
    no_terms : AreTerms [] []
    more_terms : (tree : Sexp) (term : RawTerm) (trees : List Sexp) (terms : List RawTerm)
        → IsTerm tree term → AreTerms trees terms → AreTerms (tree ∷ trees) (term ∷ terms)

mutual
  -- a condition
  pub data IsFormula : Sexp → RawFormula → Type 0 where
    of_and : (place at : Place) (trees : List Sexp) (fs : List RawFormula)
        → AreFormulas trees fs → IsFormula (Group place (leaf (kind.Word (codes "and")) at ∷ trees)) (And fs)
    of_or : (place at : Place) (trees : List Sexp) (fs : List RawFormula)
        → AreFormulas trees fs → IsFormula (Group place (leaf (kind.Word (codes "or")) at ∷ trees)) (Or fs)
    of_not : (place at : Place) (tree : Sexp) (f : RawFormula)
        → IsFormula tree f → IsFormula (Group place (leaf (kind.Word (codes "not")) at ∷ tree ∷ [])) (Not f)
    of_imply : (place at : Place) (one two : Sexp) (f g : RawFormula)
        → IsFormula one f → IsFormula two g → IsFormula (Group place (leaf (kind.Word (codes "imply")) at ∷ one ∷ two ∷ [])) (Imply f g)
    of_exists : (place at vars_at : Place) (vars : List Sexp) (groups : List RawGroup) (tree : Sexp) (f : RawFormula)
        → AreTyped vars groups → IsFormula tree f
        → IsFormula (Group place (leaf (kind.Word (codes "exists")) at ∷ Group vars_at vars ∷ tree ∷ [])) (Exists groups f)
    of_forall : (place at vars_at : Place) (vars : List Sexp) (groups : List RawGroup) (tree : Sexp) (f : RawFormula)
        → AreTyped vars groups → IsFormula tree f
        → IsFormula (Group place (leaf (kind.Word (codes "forall")) at ∷ Group vars_at vars ∷ tree ∷ [])) (Forall groups f)
    an_atom : (place : Place) (head : Sexp) (p : Ident) (trees : List Sexp) (terms : List RawTerm)
        → IsIdent head p → AreTerms trees terms → IsFormula (Group place (head ∷ trees)) (Atom place p terms)
    a_comparison : (place at : Place) (sign : Sign) (r : Relation) (one two : Sexp) (a b : RawTerm)
        → IsRelation sign r → IsTerm one a → IsTerm two b
        → IsFormula (Group place (leaf (kind.Sign sign) at ∷ one ∷ two ∷ [])) (Compare place r a b)

  pub data AreFormulas : List Sexp → List RawFormula → Type 0 where
    no_formulas : AreFormulas [] []
    more_formulas : (tree : Sexp) (f : RawFormula) (trees : List Sexp) (fs : List RawFormula)
        → IsFormula tree f → AreFormulas trees fs → AreFormulas (tree ∷ trees) (f ∷ fs)

-- a tree that spells some condition
pub record IsSpelled (tree : Sexp) : Type 0 where
  pub form : RawFormula
  pub is : IsFormula tree form
