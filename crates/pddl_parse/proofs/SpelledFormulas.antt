-- A tree that is read as a condition spells it.
use Rattle.std.proofs.Common.{◌≡◌, ℕ, List, [], ◌∷◌, map, drop, refl, ap, sym, subst, ◌∙◌, true, false, Bool}
use Rattle.std.specs.Prelude.{⊤, codes, if◌then◌else◌}
use Rattle.std.specs.Bool.{Decides}
use Rattle.std.specs.Str.{bytes_eq}
use Rattle.std.proofs.lemmas.Slice.Eq.{bytes_eq-Decides}
use Rattle.up_text.specs.declared.place.Place.{Place}
use Rattle.up_text.specs.Lists.{Every}
use Rattle.pddl_lex.specs.declared.tree.TokenKind.{TokenKind}
use Rattle.pddl_lex.specs.declared.tree.TokenKind.TheVariants as kind
use Rattle.pddl_lex.specs.declared.tree.Sign.{Sign}
use Rattle.pddl_lex.specs.declared.tree.Sign.TheVariants as sign
use Rattle.pddl_lex.specs.declared.tree.Sexp.{Sexp, Leaf, Group, Group', Row_of-Sexp, end_of-Sexp, more_of-Sexp, items-the_row-Sexp}
use Rattle.pddl_lex.specs.Parses.{Parse, parsed, rejected, all, over, over_two, followed}
use Rattle.pddl_parse.specs.declared.raw.Ident.{Ident}
use Rattle.pddl_parse.specs.declared.raw.Relation.{Relation}
use Rattle.pddl_parse.specs.declared.raw.Relation.TheVariants as relation
use Rattle.pddl_parse.specs.declared.raw.RawTerm.{RawTerm}
use Rattle.pddl_parse.specs.declared.raw.RawGroup.{RawGroup}
use Rattle.pddl_parse.specs.declared.raw.RawFormula.{RawFormula, And, Or, Not, Imply, Exists, Forall, Atom, Compare}
use Rattle.pddl_parse.specs.declared.head.Head.{Head}
use Rattle.pddl_parse.specs.declared.head.Head.TheVariants as head
use Rattle.pddl_parse.specs.declared.head.Quantifier.{Quantifier}
use Rattle.pddl_parse.specs.declared.head.Quantifier.TheVariants as quantifier
use Rattle.pddl_parse.specs.Shapes as shape
use Rattle.pddl_parse.specs.Shapes.{extra, one, two}
use Rattle.pddl_parse.specs.Terms.{term}
use Rattle.pddl_parse.specs.TypedLists.{variables}
use Rattle.pddl_parse.specs.Formulas.{formula, formulas, in_formula, by_head, negation, implication, quantify, quantified, comparison, head_of, kind_head, word_head, sign_head}
use Rattle.pddl_parse.specs.Forms.{leaf, IsIdent, IsRelation, less, less_equal, same, greater_equal, greater, IsTerm, AreTerms, AreTyped, IsFormula, of_and, of_or, of_not, of_imply, of_exists, of_forall, an_atom, a_comparison, AreFormulas, no_formulas, more_formulas}
use Rattle.pddl_parse.proofs.Nodes.{formulas-items}
use Rattle.pddl_parse.proofs.Rebuilt.{rebuilt}
use Rattle.pddl_parse.proofs.Spelled.{Sound, sound_over, sound_two, sound_followed, ident_sound, term_sound, terms_sound, all_sound}

pub record IsWord (first : Sexp) (word : List ℕ) : Type 0 where
  pub at : Place
  pub is : first ≡ leaf (kind.Word word) at

pub record IsMark (first : Sexp) (r : Relation) : Type 0 where
  at : Place
  mark : Sign
  is : first ≡ leaf (kind.Sign mark) at
  known : IsRelation mark r

abbrev quantifier_word : Quantifier → List ℕ
quantifier_word quantifier.Exists = codes "exists"
quantifier_word quantifier.Forall = codes "forall"

-- what the head of a condition says of its first tree
abbrev IsOf : Sexp → Head → Type 0
IsOf first head.And = IsWord first (codes "and")
IsOf first head.Or = IsWord first (codes "or")
IsOf first head.Not = IsWord first (codes "not")
IsOf first head.Imply = IsWord first (codes "imply")
IsOf first (head.Quantifier q) = IsWord first (quantifier_word q)
IsOf first (head.Compare r) = IsMark first r
IsOf first head.Other = ⊤

pub word_is : (word other : List ℕ) (at : Place) → bytes_eq word other ≡ true → IsWord (leaf (kind.Word word) at) other
word_is word other at e = record { at = at; is = ap (λ w. leaf (kind.Word w) at) ((bytes_eq-Decides word other).0 e) }

pub if_is : (P : Head → Type 0) (b : Bool) (here rest : Head) → (b ≡ true → P here) → P rest → P (if b then here else rest)
if_is P true here rest h n = h refl
if_is P false here rest h n = n

word_head_is : (word : List ℕ) (at : Place) → IsOf (leaf (kind.Word word) at) (word_head word)
word_head_is word at =
    let P : Head → Type 0 = IsOf (leaf (kind.Word word) at) in
    if_is P (bytes_eq word (codes "and")) head.And _ (word_is word (codes "and") at)
    (if_is P (bytes_eq word (codes "or")) head.Or _ (word_is word (codes "or") at)
    (if_is P (bytes_eq word (codes "not")) head.Not _ (word_is word (codes "not") at)
    (if_is P (bytes_eq word (codes "imply")) head.Imply _ (word_is word (codes "imply") at)
    (if_is P (bytes_eq word (codes "exists")) (head.Quantifier quantifier.Exists) _ (word_is word (codes "exists") at)
    (if_is P (bytes_eq word (codes "forall")) (head.Quantifier quantifier.Forall) head.Other (word_is word (codes "forall") at) tt)))))

sign_head_is : (s : Sign) (at : Place) → IsOf (leaf (kind.Sign s) at) (sign_head s)
sign_head_is sign.Less at = record { at = at; mark = sign.Less; is = refl; known = less }
sign_head_is sign.LessEqual at = record { at = at; mark = sign.LessEqual; is = refl; known = less_equal }
sign_head_is sign.Same at = record { at = at; mark = sign.Same; is = refl; known = same }
sign_head_is sign.GreaterEqual at = record { at = at; mark = sign.GreaterEqual; is = refl; known = greater_equal }
sign_head_is sign.Greater at = record { at = at; mark = sign.Greater; is = refl; known = greater }
sign_head_is sign.Plus at = tt
sign_head_is sign.Minus at = tt
sign_head_is sign.Times at = tt
sign_head_is sign.Slash at = tt

kind_head_is : (at : Place) (k : TokenKind) → IsOf (leaf k at) (kind_head k)
kind_head_is at (kind.Word word) = word_head_is word at
kind_head_is at (kind.Sign s) = sign_head_is s at
kind_head_is at kind.Open = tt
kind_head_is at kind.Close = tt
kind_head_is at (kind.Variable word) = tt
kind_head_is at (kind.Keyword word) = tt
kind_head_is at (kind.Number number) = tt

head_is : (first : Sexp) → IsOf first (head_of first)
unfolding head_of
head_is (Leaf token) = kind_head_is token.place token.kind
head_is (Group' place n row) = tt

abbrev IsRead : Sexp → Type 0
IsRead tree = Sound (formula tree) (IsFormula tree)

formulas_sound : (trees : List Sexp) → Every IsRead trees → Sound (all (map formula trees)) (AreFormulas trees)
formulas_sound [] are = no_formulas
formulas_sound (tree ∷ trees) are =
    sound_two (IsFormula tree) (AreFormulas trees) (AreFormulas (tree ∷ trees)) (λ f fs. f ∷ fs) (formula tree) (all (map formula trees))
    (λ f fs is others. more_formulas tree f trees fs is others) are.0 (formulas_sound trees are.1)

-- variables are read from a bracket
pub data AreVars (tree : Sexp) (groups : List RawGroup) : Type 0 where
  vars : (place : Place) (trees : List Sexp) → tree ≡ Group place trees → AreTyped trees groups → AreVars tree groups

module _ (vars_sound : (tree : Sexp) → Sound (variables tree) (AreVars tree)) where
  not_sound : (place : Place) (first : Sexp) (trees : List Sexp) → IsWord first (codes "not") → Every IsRead trees
      → Sound (negation place trees (map formula trees)) (IsFormula (Group place (first ∷ trees)))
  not_sound place first [] is are = tt
  not_sound place first (a ∷ []) is are =
      sound_followed (IsFormula (Group place (first ∷ a ∷ []))) (over Not (formula a)) [] (λ ended.
      sound_over (IsFormula a) (IsFormula (Group place (first ∷ a ∷ []))) Not (formula a)
      (λ f of. subst (λ h. IsFormula (Group place (h ∷ a ∷ [])) (Not f)) (sym is.is) (of_not place is.at a f of)) are.0)
  not_sound place first (a ∷ b ∷ others) is are =
      sound_followed (IsFormula (Group place (first ∷ a ∷ b ∷ others))) (over Not (formula a)) (extra (b ∷ others)) (λ ended. let e : extra (b ∷ others) ≡ [] = ended in cc)

  imply_sound : (place : Place) (first : Sexp) (trees : List Sexp) → IsWord first (codes "imply") → Every IsRead trees
      → Sound (implication place trees (map formula trees)) (IsFormula (Group place (first ∷ trees)))
  imply_sound place first [] is are = tt
  imply_sound place first (a ∷ []) is are = tt
  imply_sound place first (a ∷ b ∷ []) is are =
      sound_followed (IsFormula (Group place (first ∷ a ∷ b ∷ []))) (over_two Imply (formula a) (formula b)) [] (λ ended.
      sound_two (IsFormula a) (IsFormula b) (IsFormula (Group place (first ∷ a ∷ b ∷ []))) Imply (formula a) (formula b)
      (λ f g of_a of_b. subst (λ h. IsFormula (Group place (h ∷ a ∷ b ∷ [])) (Imply f g)) (sym is.is) (of_imply place is.at a b f g of_a of_b)) are.0 are.1.0)
  imply_sound place first (a ∷ b ∷ c ∷ others) is are =
      sound_followed (IsFormula (Group place (first ∷ a ∷ b ∷ c ∷ others))) (over_two Imply (formula a) (formula b)) (extra (c ∷ others)) (λ ended. let e : extra (c ∷ others) ≡ [] = ended in cc)

  compare_sound : (place : Place) (first : Sexp) (r : Relation) (trees : List Sexp) → IsMark first r
      → Sound (comparison place r trees) (IsFormula (Group place (first ∷ trees)))
  compare_sound place first r [] is = tt
  compare_sound place first r (a ∷ []) is = tt
  compare_sound place first r (a ∷ b ∷ []) is =
      sound_followed (IsFormula (Group place (first ∷ a ∷ b ∷ []))) (over_two (λ x y. Compare place r x y) (term a) (term b)) [] (λ ended.
      sound_two (IsTerm a) (IsTerm b) (IsFormula (Group place (first ∷ a ∷ b ∷ []))) (λ x y. Compare place r x y) (term a) (term b)
      (λ x y of_a of_b. subst (λ h. IsFormula (Group place (h ∷ a ∷ b ∷ [])) (Compare place r x y)) (sym is.is)
      (a_comparison place is.at is.mark r a b x y is.known of_a of_b)) (term_sound a) (term_sound b))
  compare_sound place first r (a ∷ b ∷ c ∷ others) is =
      sound_followed (IsFormula (Group place (first ∷ a ∷ b ∷ c ∷ others))) (over_two (λ x y. Compare place r x y) (term a) (term b)) (extra (c ∷ others)) (λ ended. let e : extra (c ∷ others) ≡ [] = ended in cc)

  quantify_sound : (place : Place) (q : Quantifier) (first a b : Sexp) → IsWord first (quantifier_word q) → (groups : List RawGroup) (f : RawFormula)
      → AreVars a groups → IsFormula b f → IsFormula (Group place (first ∷ a ∷ b ∷ [])) (quantify q groups f)
  quantify_sound place quantifier.Exists first a b is groups f (vars at trees whole are) of_b =
      subst (λ h. IsFormula (Group place (h ∷ a ∷ b ∷ [])) (Exists groups f)) (sym is.is)
      (subst (λ x. IsFormula (Group place (leaf (kind.Word (codes "exists")) is.at ∷ x ∷ b ∷ [])) (Exists groups f)) (sym whole)
      (of_exists place is.at at trees groups b f are of_b))
  quantify_sound place quantifier.Forall first a b is groups f (vars at trees whole are) of_b =
      subst (λ h. IsFormula (Group place (h ∷ a ∷ b ∷ [])) (Forall groups f)) (sym is.is)
      (subst (λ x. IsFormula (Group place (leaf (kind.Word (codes "forall")) is.at ∷ x ∷ b ∷ [])) (Forall groups f)) (sym whole)
      (of_forall place is.at at trees groups b f are of_b))

  quantified_sound : (place : Place) (q : Quantifier) (first : Sexp) (trees : List Sexp) → IsWord first (quantifier_word q) → Every IsRead trees
      → Sound (quantified place q trees (map formula trees)) (IsFormula (Group place (first ∷ trees)))
  quantified_sound place q first [] is are = tt
  quantified_sound place q first (a ∷ []) is are = tt
  quantified_sound place q first (a ∷ b ∷ []) is are =
      sound_followed (IsFormula (Group place (first ∷ a ∷ b ∷ []))) (over_two (quantify q) (variables a) (formula b)) [] (λ ended.
      sound_two (AreVars a) (IsFormula b) (IsFormula (Group place (first ∷ a ∷ b ∷ []))) (quantify q) (variables a) (formula b)
      (λ groups f. quantify_sound place q first a b is groups f) (vars_sound a) are.1.0)
  quantified_sound place q first (a ∷ b ∷ c ∷ others) is are =
      sound_followed (IsFormula (Group place (first ∷ a ∷ b ∷ c ∷ others))) (over_two (quantify q) (variables a) (formula b)) (extra (c ∷ others)) (λ ended. let e : extra (c ∷ others) ≡ [] = ended in cc)

  by_sound : (place : Place) (first : Sexp) (trees : List Sexp) (h : Head) → IsOf first h → Every IsRead trees
      → Sound (by_head h place first trees (map formula trees)) (IsFormula (Group place (first ∷ trees)))
  by_sound place first trees head.And is are =
      sound_over (AreFormulas trees) (IsFormula (Group place (first ∷ trees))) And (all (map formula trees))
      (λ fs of. subst (λ h. IsFormula (Group place (h ∷ trees)) (And fs)) (sym is.is) (of_and place is.at trees fs of)) (formulas_sound trees are)
  by_sound place first trees head.Or is are =
      sound_over (AreFormulas trees) (IsFormula (Group place (first ∷ trees))) Or (all (map formula trees))
      (λ fs of. subst (λ h. IsFormula (Group place (h ∷ trees)) (Or fs)) (sym is.is) (of_or place is.at trees fs of)) (formulas_sound trees are)
  by_sound place first trees head.Not is are = not_sound place first trees is are
  by_sound place first trees head.Imply is are = imply_sound place first trees is are
  by_sound place first trees (head.Quantifier q) is are = quantified_sound place q first trees is are
  by_sound place first trees (head.Compare r) is are = compare_sound place first r trees is
  by_sound place first trees head.Other is are =
      sound_two (IsIdent first) (AreTerms trees) (IsFormula (Group place (first ∷ trees))) (λ p ts. Atom place p ts) (shape.ident first) (all (map term trees))
      (λ p ts named args. an_atom place first p trees ts named args) (ident_sound first) (terms_sound trees (all_sound trees))

  group_sound : (place : Place) (items : List Sexp) → Every IsRead items → Sound (in_formula place items (map formula items)) (IsFormula (Group place items))
  group_sound place [] are = tt
  group_sound place (first ∷ trees) are = by_sound place first trees (head_of first) (head_is first) are.1

  mutual
    unfolding formula formulas

    pub formula_sound : (tree : Sexp) → Sound (formula tree) (IsFormula tree)
    formula_sound (Leaf token) = tt
    formula_sound (Group' place n row) =
        rw (rebuilt place n row, formulas-items row) (group_sound place (items-the_row-Sexp _ row) (row_sound row))

    row_sound : {n : _} (row : Row_of-Sexp n) → Every IsRead (items-the_row-Sexp _ row)
    row_sound end_of-Sexp = tt
    row_sound (more_of-Sexp tree row) = (formula_sound tree, row_sound row)
