-- A tree that spells a raw form is read as it.
use Rattle.std.proofs.Common.{◌≡◌, ℕ, ◌≤◌, length, List, [], ◌∷◌, ◌++◌, append_assoc, append-nil, map, take, drop, refl, ap, sym, ◌∙◌, true, false, Bool, arith}
use Rattle.std.specs.Prelude.{◌≢◌, ◌&&◌, ◌||◌, not, nat_lt, min, Option, Some, None, codes, if◌then◌else◌}
use Rattle.std.specs.Str.{bytes_eq}
use Rattle.std.proofs.lemmas.Bool.Decides.{nat_tests}
use Rattle.up_text.specs.declared.place.Place.{Place}
use Rattle.up_text.specs.Names.{name_of, is_name, is_spelled, is_reserved, reserved_words}
use Rattle.pddl_lex.specs.declared.tree.Sexp.{Sexp, Leaf, Group}
use Rattle.pddl_lex.specs.declared.tree.TokenKind.TheVariants as kind
use Rattle.pddl_lex.specs.declared.tree.Sign.{Sign}
use Rattle.pddl_lex.specs.declared.tree.Sign.TheVariants as sign
use Rattle.pddl_lex.specs.Parses.{parsed, all, over, over_two, behind, followed}
use Rattle.pddl_parse.specs.declared.raw.Ident.{Ident}
use Rattle.pddl_parse.specs.declared.raw.Operator.{Operator}
use Rattle.pddl_parse.specs.declared.raw.Relation.{Relation}
use Rattle.pddl_parse.specs.declared.raw.RawTerm.{RawTerm, Name, Variable, Arithmetic}
use Rattle.pddl_parse.specs.declared.raw.RawGroup.{RawGroup}
use Rattle.pddl_parse.specs.declared.raw.RawFormula.{RawFormula}
use Rattle.pddl_parse.specs.declared.head.Head.{Head}
use Rattle.pddl_parse.specs.declared.head.Head.TheVariants as head
use Rattle.pddl_parse.specs.declared.head.Quantifier.TheVariants as quantifier
use Rattle.pddl_parse.specs.Shapes as shape
use Rattle.pddl_parse.specs.Shapes.{lacking, extra}
use Rattle.pddl_parse.specs.Terms as terms
use Rattle.pddl_parse.specs.Terms.{term, sign_operator, operator_of, least, most, arithmetic}
use Rattle.pddl_parse.specs.Formulas.{formula, head_of, sign_head, word_head}
use Rattle.pddl_parse.specs.TypedLists.{variables, variable_list, is_minus, ends_after, last_group}
use Rattle.pddl_parse.specs.declared.typed.Item.TheVariants as item
use Rattle.pddl_parse.specs.Brackets.{short}
use Rattle.pddl_parse.specs.TypedLists as lists
use Rattle.pddl_parse.specs.Forms.{leaf, IsIdent, ident, IsVariable, variable, IsOperator, sum, product, negative, difference, quotient, IsRelation, less, less_equal, same, greater_equal, greater, IsTerm, a_name, a_variable, a_number, a_call, an_expression, AreTerms, no_terms, more_terms, IsFormula, of_and, of_or, of_not, of_imply, of_exists, of_forall, an_atom, a_comparison, AreFormulas, no_formulas, more_formulas, AreVariables, no_variables, more_variables, AreTyped, no_groups, untyped, typed, ident_at}
use Rattle.pddl_parse.proofs.Nodes.{term-Leaf, term-Group, formula-Group, head_of-Leaf, operator_of-Leaf, variables-Group}
use Rattle.pddl_parse.proofs.Reading.{arithmetic_parsed}

pub ident_read : (tree : Sexp) (it : Ident) → IsIdent tree it → shape.ident tree ≡ parsed it
unfolding shape.ident
ident_read _ _ (ident word name place is) = rw is refl

pub ident_no_operator : (tree : Sexp) (it : Ident) → IsIdent tree it → operator_of tree ≡ None
unfolding operator_of
ident_no_operator _ _ (ident word name place is) = refl

pub not_reserved : {A : Type 0} (s r : Bool) (x y : A) → (if s && not r then Some x else None) ≡ Some y → r ≡ false
not_reserved true true x y e = cc
not_reserved true false x y e = refl
not_reserved false r x y e = cc

pub none_of : (a b c d e f g : Bool) → (a || (b || (c || (d || (e || (f || g)))))) ≡ false
    → (if a then head.And else if b then head.Or else if c then head.Not else if d then head.Imply else
    if e then head.Quantifier quantifier.Exists else if f then head.Quantifier quantifier.Forall else head.Other) ≡ head.Other
none_of true b c d e f g h = cc
none_of false true c d e f g h = cc
none_of false false true d e f g h = cc
none_of false false false true e f g h = cc
none_of false false false false true f g h = cc
none_of false false false false false true g h = cc
none_of false false false false false false g h = refl

pub word_other : (word : List ℕ) → is_reserved word ≡ false → word_head word ≡ head.Other
unfolding reserved_words
word_other word free = none_of (bytes_eq word (codes "and")) (bytes_eq word (codes "or")) (bytes_eq word (codes "not"))
    (bytes_eq word (codes "imply")) (bytes_eq word (codes "exists")) (bytes_eq word (codes "forall")) _ free

pub ident_other : (tree : Sexp) (it : Ident) → IsIdent tree it → head_of tree ≡ head.Other
unfolding head_of
ident_other _ _ (ident word name place is) = word_other word (not_reserved (is_spelled word) (is_reserved word) word name is)

record Fits (sign : Sign) (op : Operator) (n : ℕ) : Type 0 where
  known : sign_operator sign ≡ Some op
  enough : nat_lt n (least op) ≡ false
  count : most op n ≡ n

fits : (sign : Sign) (op : Operator) (n : ℕ) → IsOperator sign op n → Fits sign op n
fits _ _ _ (sum n two) = record { known = refl; enough = grind (arith, nat_tests); count = refl }
fits _ _ _ (product n two) = record { known = refl; enough = grind (arith, nat_tests); count = refl }
fits _ _ _ negative = record { known = refl; enough = refl; count = refl }
fits _ _ _ difference = record { known = refl; enough = refl; count = refl }
fits _ _ _ quotient = record { known = refl; enough = refl; count = refl }

pub relation_head : (sign : Sign) (r : Relation) → IsRelation sign r → sign_head sign ≡ head.Compare r
relation_head _ _ less = refl
relation_head _ _ less_equal = refl
relation_head _ _ same = refl
relation_head _ _ greater_equal = refl
relation_head _ _ greater = refl

take_whole : {A : Type 0} (xs : List A) → take (length xs) xs ≡ xs
take_whole [] = refl
take_whole (x ∷ xs) = ap (λ ys. x ∷ ys) (take_whole xs)

pub drop_whole : {A : Type 0} (xs : List A) → drop (length xs) xs ≡ []
drop_whole [] = refl
drop_whole (x ∷ xs) = drop_whole xs

arithmetic_read : (sign : Sign) (op : Operator) (place : Place) (trees : List Sexp) (ts : List RawTerm)
    → Fits sign op (length trees) → all (map term trees) ≡ parsed ts → arithmetic op place trees (map term trees) ≡ parsed (Arithmetic place op ts)
arithmetic_read sign op place trees ts fit read =
    arithmetic_parsed op place trees ts (rw fit.enough refl) (rw (fit.count, take_whole trees) read) (rw (fit.count, drop_whole trees) refl)

pub name_read : (tree : Sexp) (it : Ident) → IsIdent tree it → term tree ≡ parsed (Name it)
unfolding term
name_read _ _ (ident word name place is) = rw is refl

pub variable_read : (tree : Sexp) (it : Ident) → IsVariable tree it → term tree ≡ parsed (Variable it)
unfolding term
variable_read _ _ (variable word name place is) = rw is refl

mutual
  pub term_read : (tree : Sexp) (t : RawTerm) → IsTerm tree t → term tree ≡ parsed t
  term_read _ _ (a_name tree name is) = name_read tree name is
  term_read _ _ (a_variable tree name is) = variable_read tree name is
  term_read _ _ (a_number value place) = term-Leaf _
  term_read _ _ (a_call place head f trees ts is args) =
      rw (term-Group place (head ∷ trees), ident_no_operator head f is, ident_read head f is, terms_read trees ts args) refl
  term_read _ _ (an_expression place at sign op trees ts is args) =
      rw (term-Group place (leaf (kind.Sign sign) at ∷ trees), operator_of-Leaf, (fits sign op (length trees) is).known)
      (arithmetic_read sign op place trees ts (fits sign op (length trees) is) (terms_read trees ts args))

  pub terms_read : (trees : List Sexp) (ts : List RawTerm) → AreTerms trees ts → all (map term trees) ≡ parsed ts
  terms_read _ _ no_terms = refl
  terms_read _ _ (more_terms tree t trees ts is others) = rw (term_read tree t is, terms_read trees ts others) refl

-- ---- typed lists

variables_on : (place : Place) (trees : List Sexp) (names : List Ident) → AreVariables trees names → (rest : List Sexp) (so_far : List Ident)
    → lists.typed item.Variable place (trees ++ rest) so_far false ≡ lists.typed item.Variable place rest (so_far ++ names) false
unfolding is_minus shape.variable
variables_on place _ _ no_variables rest so_far = rw append-nil refl
variables_on place _ _ (more_variables _ _ trees names (variable word name at is) others) rest so_far =
    rw (is, variables_on place trees names others rest (so_far ++ ident_at name at ∷ []), append_assoc) refl

minus_on : (place at : Place) (tree : Sexp) (rest : List Sexp) (names : List Ident) → names ≢ []
    → lists.typed item.Variable place (leaf (kind.Sign sign.Minus) at ∷ tree ∷ rest) names false
    ≡ over_two (λ t groups. record { names = names; of = Some t } ∷ groups) (shape.ident tree) (lists.typed item.Variable place rest [] false)
unfolding is_minus
minus_on place at tree rest [] some = absurd (some refl)
minus_on place at tree rest (name ∷ names) some = refl

pub last_on : (place : Place) (names : List Ident) → names ≢ [] → last_group place names false ≡ parsed (record { names = names; of = None } ∷ [])
last_on place [] some = absurd (some refl)
last_on place (name ∷ names) some = refl

groups_read : (place : Place) (trees : List Sexp) (groups : List RawGroup) → AreTyped trees groups → lists.typed item.Variable place trees [] false ≡ parsed groups
groups_read place _ _ no_groups = refl
groups_read place _ _ (untyped trees names some are) =
    rw (← append-nil trees, variables_on place trees names are [] []) (last_on place names some)
groups_read place _ _ (typed trees names at tree of rest groups some are is others) =
    rw (
      variables_on place trees names are (leaf (kind.Sign sign.Minus) at ∷ tree ∷ rest) [],
      minus_on place at tree rest names some,
      ident_read tree of is,
      groups_read place rest groups others,
    ) refl

pub ends_through : (trees : List Sexp) (ends : Bool) (tree : Sexp) (rest : List Sexp) → ends_after ends (trees ++ tree ∷ rest) ≡ ends_after (is_minus tree) rest
ends_through [] ends tree rest = refl
ends_through (first ∷ trees) ends tree rest = ends_through trees (is_minus first) tree rest

pub ident_no_minus : (tree : Sexp) (it : Ident) → IsIdent tree it → is_minus tree ≡ false
unfolding is_minus
ident_no_minus _ _ (ident word name place is) = refl

ends_variables : (trees : List Sexp) (names : List Ident) → AreVariables trees names → ends_after false trees ≡ false
unfolding is_minus
ends_variables _ _ no_variables = refl
ends_variables _ _ (more_variables _ _ trees names (variable word name at is) others) = ends_variables trees names others

ends_groups : (trees : List Sexp) (groups : List RawGroup) → AreTyped trees groups → ends_after false trees ≡ false
ends_groups _ _ no_groups = refl
ends_groups _ _ (untyped trees names some are) = ends_variables trees names are
ends_groups _ _ (typed trees names at tree of rest groups some are is others) =
    rw (ends_through trees false (leaf (kind.Sign sign.Minus) at) (tree ∷ rest), ident_no_minus tree of is) (ends_groups rest groups others)

pub typed_read : (place : Place) (trees : List Sexp) (groups : List RawGroup) → AreTyped trees groups → variable_list place trees ≡ parsed groups
typed_read place trees groups is = rw (ends_groups trees groups is, groups_read place trees groups is) refl

mutual
  pub formula_read : (tree : Sexp) (f : RawFormula) → IsFormula tree f → formula tree ≡ parsed f
  formula_read _ _ (of_and place at trees fs is) =
      rw (formula-Group place (leaf (kind.Word (codes "and")) at ∷ trees), head_of-Leaf, formulas_read trees fs is) refl
  formula_read _ _ (of_or place at trees fs is) =
      rw (formula-Group place (leaf (kind.Word (codes "or")) at ∷ trees), head_of-Leaf, formulas_read trees fs is) refl
  formula_read _ _ (of_not place at tree f is) =
      rw (formula-Group place (leaf (kind.Word (codes "not")) at ∷ tree ∷ []), head_of-Leaf, formula_read tree f is) refl
  formula_read _ _ (of_imply place at one two f g is_one is_two) =
      rw (formula-Group place (leaf (kind.Word (codes "imply")) at ∷ one ∷ two ∷ []), head_of-Leaf, formula_read one f is_one, formula_read two g is_two) refl
  formula_read _ _ (of_exists place at vars_at vars groups tree f are is) =
      rw (formula-Group place (leaf (kind.Word (codes "exists")) at ∷ Group vars_at vars ∷ tree ∷ []), head_of-Leaf, variables-Group vars_at vars, typed_read vars_at vars groups are, formula_read tree f is) refl
  formula_read _ _ (of_forall place at vars_at vars groups tree f are is) =
      rw (formula-Group place (leaf (kind.Word (codes "forall")) at ∷ Group vars_at vars ∷ tree ∷ []), head_of-Leaf, variables-Group vars_at vars, typed_read vars_at vars groups are, formula_read tree f is) refl
  formula_read _ _ (an_atom place head p trees ts is args) =
      rw (formula-Group place (head ∷ trees), ident_other head p is, ident_read head p is, terms_read trees ts args) refl
  formula_read _ _ (a_comparison place at sign r one two a b is is_one is_two) =
      rw (formula-Group place (leaf (kind.Sign sign) at ∷ one ∷ two ∷ []), head_of-Leaf, relation_head sign r is, term_read one a is_one, term_read two b is_two) refl

  pub formulas_read : (trees : List Sexp) (fs : List RawFormula) → AreFormulas trees fs → all (map formula trees) ≡ parsed fs
  formulas_read _ _ no_formulas = refl
  formulas_read _ _ (more_formulas tree f trees fs is others) = rw (formula_read tree f is, formulas_read trees fs others) refl
