-- A tree spells a constraint exactly where it is read as it.
use Rattle.std.proofs.Common.{◌≡◌, ℕ, false, List, [], ◌∷◌, map, refl, sym, subst}
use Rattle.std.specs.Prelude.{⊤, codes}
use Rattle.std.specs.Str.{bytes_eq}
use Rattle.up_text.specs.declared.place.Place.{Place}
use Rattle.up_text.specs.Lists.{Every}
use Rattle.pddl_lex.specs.declared.tree.TokenKind.{TokenKind}
use Rattle.pddl_lex.specs.declared.tree.TokenKind.TheVariants as kind
use Rattle.pddl_lex.specs.declared.tree.Sexp.{Sexp, Leaf, Group, Group', Row_of-Sexp, end_of-Sexp, more_of-Sexp, items-the_row-Sexp}
use Rattle.pddl_lex.specs.Parses.{parsed, rejected, faults, all, over_two}
use Rattle.pddl_parse.specs.declared.raw.RawGroup.{RawGroup}
use Rattle.pddl_parse.specs.declared.raw.RawFormula.{RawFormula}
use Rattle.pddl_parse.specs.declared.raw.RawConstraint.{RawConstraint, And, Forall, Always, Sometime, AtMostOnce, SometimeAfter, SometimeBefore}
use Rattle.pddl_parse.specs.declared.head.ConstraintHead.{ConstraintHead}
use Rattle.pddl_parse.specs.declared.head.ConstraintHead.TheVariants as head
use Rattle.pddl_parse.specs.declared.head.Single.{Single}
use Rattle.pddl_parse.specs.declared.head.Single.TheVariants as single
use Rattle.pddl_parse.specs.declared.head.Paired.{Paired}
use Rattle.pddl_parse.specs.declared.head.Paired.TheVariants as paired
use Rattle.pddl_parse.specs.Shapes.{Read, extra}
use Rattle.pddl_parse.specs.TypedLists.{variables}
use Rattle.pddl_parse.specs.Formulas.{formula}
use Rattle.pddl_parse.specs.Brackets.{is_empty}
use Rattle.pddl_parse.specs.Constraints.{constraint_word, constraint_kind, constraint_head, of_one, of_two, of_each, on_one, on_two, by_constraint_head, in_constraint, constraint, constraints, whole_constraint}
use Rattle.pddl_parse.specs.Forms.{leaf, IsFormula}
use Rattle.pddl_parse.proofs.Nodes.{variables-Group, constraint_head-Leaf, constraint-Group, constraints-items, is_empty-Group}
use Rattle.pddl_parse.proofs.Read.{typed_read, formula_read}
use Rattle.pddl_parse.proofs.Rebuilt.{rebuilt}
use Rattle.pddl_parse.proofs.Spelled.{Sound, sound_over, sound_two, sound_followed}
use Rattle.pddl_parse.proofs.SpelledLists.{vars_sound}
use Rattle.pddl_parse.proofs.SpelledFormulas.{IsWord, word_is, AreVars, vars, formula_sound}
use Rattle.grammar_shapes.specs.Constraints.{IsConstraint, of_and, of_forall, of_always, of_sometime, of_at_most_once, of_sometime_after, of_sometime_before, AreConstraints, no_constraints, more_constraints, IsWholeConstraint, no_constraint, a_constraint, HasConstraint}
use Rattle.grammar_shapes.proofs.Parses.{sound_is, sound_map, sound_one, sound_pair}
use Rattle.grammar_shapes.proofs.Walks.{chosen}
use Rattle.grammar_shapes.proofs.Wholes.{whole_sound}

-- ---- what is spelled is read

mutual
  pub constraint_read : (tree : Sexp) (c : RawConstraint) → IsConstraint tree c → constraint tree ≡ parsed c
  constraint_read _ _ (of_and place at trees cs are) =
      rw (constraint-Group place (leaf (kind.Word (codes "and")) at ∷ trees), constraint_head-Leaf, constraints_read trees cs are) refl
  constraint_read _ _ (of_forall place at at_list list groups tree c are is) =
      rw (
        constraint-Group place (leaf (kind.Word (codes "forall")) at ∷ Group at_list list ∷ tree ∷ []),
        constraint_head-Leaf,
        variables-Group at_list list,
        typed_read at_list list groups are,
        constraint_read tree c is,
      ) refl
  constraint_read _ _ (of_always place at tree f is) =
      rw (constraint-Group place (leaf (kind.Word (codes "always")) at ∷ tree ∷ []), constraint_head-Leaf, formula_read tree f is) refl
  constraint_read _ _ (of_sometime place at tree f is) =
      rw (constraint-Group place (leaf (kind.Word (codes "sometime")) at ∷ tree ∷ []), constraint_head-Leaf, formula_read tree f is) refl
  constraint_read _ _ (of_at_most_once place at tree f is) =
      rw (constraint-Group place (leaf (kind.Word (codes "at-most-once")) at ∷ tree ∷ []), constraint_head-Leaf, formula_read tree f is) refl
  constraint_read _ _ (of_sometime_after place at one two f g is_one is_two) =
      rw (
        constraint-Group place (leaf (kind.Word (codes "sometime-after")) at ∷ one ∷ two ∷ []),
        constraint_head-Leaf,
        formula_read one f is_one,
        formula_read two g is_two,
      ) refl
  constraint_read _ _ (of_sometime_before place at one two f g is_one is_two) =
      rw (
        constraint-Group place (leaf (kind.Word (codes "sometime-before")) at ∷ one ∷ two ∷ []),
        constraint_head-Leaf,
        formula_read one f is_one,
        formula_read two g is_two,
      ) refl

  constraints_read : (trees : List Sexp) (cs : List RawConstraint) → AreConstraints trees cs → all (map constraint trees) ≡ parsed cs
  constraints_read _ _ no_constraints = refl
  constraints_read _ _ (more_constraints tree c trees cs is others) = rw (constraint_read tree c is, constraints_read trees cs others) refl

no_nothing : (tree : Sexp) (c : RawConstraint) → IsConstraint tree c → is_empty tree ≡ false
no_nothing _ _ (of_and place at trees cs are) = is_empty-Group _ _
no_nothing _ _ (of_forall place at at_list list groups tree c are is) = is_empty-Group _ _
no_nothing _ _ (of_always place at tree f is) = is_empty-Group _ _
no_nothing _ _ (of_sometime place at tree f is) = is_empty-Group _ _
no_nothing _ _ (of_at_most_once place at tree f is) = is_empty-Group _ _
no_nothing _ _ (of_sometime_after place at one two f g is_one is_two) = is_empty-Group _ _
no_nothing _ _ (of_sometime_before place at one two f g is_one is_two) = is_empty-Group _ _

pub whole_constraint_read : (tree : Sexp) (c : RawConstraint) → IsWholeConstraint tree c → whole_constraint tree ≡ parsed c
whole_constraint_read _ _ (no_constraint place) = rw (is_empty-Group place []) refl
whole_constraint_read _ _ (a_constraint tree c is) = rw (no_nothing tree c is) (constraint_read tree c is)

-- ---- what is read is spelled

abbrev single_word : Single → List ℕ
single_word single.Always = codes "always"
single_word single.Sometime = codes "sometime"
single_word single.AtMostOnce = codes "at-most-once"

abbrev paired_word : Paired → List ℕ
paired_word paired.SometimeAfter = codes "sometime-after"
paired_word paired.SometimeBefore = codes "sometime-before"

-- what the head of a constraint says of its first tree
abbrev IsOf : Sexp → ConstraintHead → Type 0
IsOf first head.And = IsWord first (codes "and")
IsOf first head.Forall = IsWord first (codes "forall")
IsOf first (head.Single s) = IsWord first (single_word s)
IsOf first (head.Paired p) = IsWord first (paired_word p)
IsOf first head.Other = ⊤

word_head_is : (word : List ℕ) (at : Place) → IsOf (leaf (kind.Word word) at) (constraint_word word)
word_head_is word at =
    let P : ConstraintHead → Type 0 = IsOf (leaf (kind.Word word) at) in
    chosen P (bytes_eq word (codes "and")) head.And _ (word_is word (codes "and") at)
    (chosen P (bytes_eq word (codes "forall")) head.Forall _ (word_is word (codes "forall") at)
    (chosen P (bytes_eq word (codes "always")) (head.Single single.Always) _ (word_is word (codes "always") at)
    (chosen P (bytes_eq word (codes "sometime")) (head.Single single.Sometime) _ (word_is word (codes "sometime") at)
    (chosen P (bytes_eq word (codes "at-most-once")) (head.Single single.AtMostOnce) _ (word_is word (codes "at-most-once") at)
    (chosen P (bytes_eq word (codes "sometime-after")) (head.Paired paired.SometimeAfter) _ (word_is word (codes "sometime-after") at)
    (chosen P (bytes_eq word (codes "sometime-before")) (head.Paired paired.SometimeBefore) head.Other (word_is word
    (codes "sometime-before") at) tt))))))

kind_head_is : (at : Place) (k : TokenKind) → IsOf (leaf k at) (constraint_kind k)
kind_head_is at (kind.Word word) = word_head_is word at
kind_head_is at kind.Open = tt
kind_head_is at kind.Close = tt
kind_head_is at (kind.Variable word) = tt
kind_head_is at (kind.Keyword word) = tt
kind_head_is at (kind.Number number) = tt
kind_head_is at (kind.Sign s) = tt

head_is : (first : Sexp) → IsOf first (constraint_head first)
unfolding constraint_head
head_is (Leaf token) = kind_head_is token.place token.kind
head_is (Group' place n row) = tt

abbrev IsRead : Sexp → Type 0
IsRead tree = Sound (constraint tree) (IsConstraint tree)

constraints_sound : (trees : List Sexp) → Every IsRead trees → Sound (all (map constraint trees)) (AreConstraints trees)
constraints_sound [] are = no_constraints
constraints_sound (tree ∷ trees) are =
    sound_two (IsConstraint tree) (AreConstraints trees) (AreConstraints (tree ∷ trees)) (λ c cs. c ∷ cs) (constraint tree) (all
    (map constraint trees))
    (λ c cs is others. more_constraints tree c trees cs is others) are.0 (constraints_sound trees are.1)

-- the head of a bracket may be replaced by the word that it is
headed : (place : Place) (first : Sexp) (word : List ℕ) (trees : List Sexp) (c : RawConstraint) (is : IsWord first word)
    → IsConstraint (Group place (leaf (kind.Word word) is.at ∷ trees)) c → IsConstraint (Group place (first ∷ trees)) c
headed place first word trees c is so = subst (λ h. IsConstraint (Group place (h ∷ trees)) c) (sym is.is) so

forall_is : (place : Place) (first a b : Sexp) (groups : List RawGroup) (c : RawConstraint) → IsWord first (codes "forall")
    → AreVars a groups → IsConstraint b c → IsConstraint (Group place (first ∷ a ∷ b ∷ [])) (Forall groups c)
forall_is place first a b groups c is (vars at trees whole are) of_b =
    headed place first (codes "forall") (a ∷ b ∷ []) (Forall groups c) is
    (subst (λ x. IsConstraint (Group place (leaf (kind.Word (codes "forall")) is.at ∷ x ∷ b ∷ [])) (Forall groups c)) (sym whole)
    (of_forall place is.at at trees groups b c are of_b))

each_sound : (place : Place) (first : Sexp) (trees : List Sexp) → IsWord first (codes "forall") → Every IsRead trees
    → Sound (of_each place trees (map constraint trees)) (IsConstraint (Group place (first ∷ trees)))
each_sound place first [] is are = tt
each_sound place first (a ∷ []) is are = tt
each_sound place first (a ∷ b ∷ []) is are =
    sound_followed (IsConstraint (Group place (first ∷ a ∷ b ∷ []))) (over_two (λ groups c. Forall groups c) (variables a)
    (constraint b)) [] (λ ended.
    sound_two (AreVars a) (IsConstraint b) (IsConstraint (Group place (first ∷ a ∷ b ∷ []))) (λ groups c. Forall groups c) (variables a)
    (constraint b)
    (λ groups c are_vars is_b. forall_is place first a b groups c is are_vars is_b) (vars_sound a) are.1.0)
each_sound place first (a ∷ b ∷ c ∷ others) is are =
    sound_followed (IsConstraint (Group place (first ∷ a ∷ b ∷ c ∷ others))) (over_two (λ groups c. Forall groups c) (variables a)
    (constraint b)) (extra (c ∷ others))
    (λ ended. let e : extra (c ∷ others) ≡ [] = ended in cc)

single_is : (place : Place) (s : Single) (first a : Sexp) (f : RawFormula) → IsWord first (single_word s) → IsFormula a f
    → IsConstraint (Group place (first ∷ a ∷ [])) (of_one s f)
single_is place single.Always first a f is of = headed place first (codes "always") (a ∷ []) (Always f) is (of_always place is.at a f of)
single_is place single.Sometime first a f is of = headed place first (codes "sometime") (a ∷ []) (Sometime f) is
    (of_sometime place is.at a f of)
single_is place single.AtMostOnce first a f is of = headed place first (codes "at-most-once") (a ∷ []) (AtMostOnce f) is
    (of_at_most_once place is.at a f of)

one_sound : (place : Place) (s : Single) (first : Sexp) (trees : List Sexp) → IsWord first (single_word s)
    → Sound (on_one place s trees) (IsConstraint (Group place (first ∷ trees)))
one_sound place s first trees is =
    sound_one IsFormula (λ xs c. IsConstraint (Group place (first ∷ xs)) c) place (of_one s) formula
    (λ a f of. single_is place s first a f is of)
    (formula_sound vars_sound) trees

paired_is : (place : Place) (p : Paired) (first a b : Sexp) (f g : RawFormula) → IsWord first (paired_word p) → IsFormula a f → IsFormula b g
    → IsConstraint (Group place (first ∷ a ∷ b ∷ [])) (of_two p f g)
paired_is place paired.SometimeAfter first a b f g is of_a of_b =
    headed place first (codes "sometime-after") (a ∷ b ∷ []) (SometimeAfter f g) is (of_sometime_after place is.at a b f g of_a of_b)
paired_is place paired.SometimeBefore first a b f g is of_a of_b =
    headed place first (codes "sometime-before") (a ∷ b ∷ []) (SometimeBefore f g) is (of_sometime_before place is.at a b f g of_a of_b)

two_sound : (place : Place) (p : Paired) (first : Sexp) (trees : List Sexp) → IsWord first (paired_word p)
    → Sound (on_two place p trees) (IsConstraint (Group place (first ∷ trees)))
two_sound place p first trees is =
    sound_pair IsFormula IsFormula (λ xs c. IsConstraint (Group place (first ∷ xs)) c) place (of_two p) formula formula
    (λ a b f g of_a of_b. paired_is place p first a b f g is of_a of_b) (formula_sound vars_sound) (formula_sound vars_sound) trees

by_sound : (place : Place) (first : Sexp) (trees : List Sexp) (h : ConstraintHead) → IsOf first h → Every IsRead trees
    → Sound (by_constraint_head h place first trees (map constraint trees)) (IsConstraint (Group place (first ∷ trees)))
by_sound place first trees head.And is are =
    sound_over (AreConstraints trees) (IsConstraint (Group place (first ∷ trees))) And (all (map constraint trees))
    (λ cs of. headed place first (codes "and") trees (And cs) is (of_and place is.at trees cs of)) (constraints_sound trees are)
by_sound place first trees head.Forall is are = each_sound place first trees is are
by_sound place first trees (head.Single s) is are = one_sound place s first trees is
by_sound place first trees (head.Paired p) is are = two_sound place p first trees is
by_sound place first trees head.Other is are = tt

group_sound : (place : Place) (items : List Sexp) → Every IsRead items
    → Sound (in_constraint place items (map constraint items)) (IsConstraint (Group place items))
group_sound place [] are = tt
group_sound place (first ∷ trees) are = by_sound place first trees (constraint_head first) (head_is first) are.1

mutual
  unfolding constraint constraints

  pub constraint_sound : (tree : Sexp) → Sound (constraint tree) (IsConstraint tree)
  constraint_sound (Leaf token) = tt
  constraint_sound (Group' place n row) =
      rw (rebuilt place n row, constraints-items row) (group_sound place (items-the_row-Sexp _ row) (row_sound row))

  row_sound : {n : _} (row : Row_of-Sexp n) → Every IsRead (items-the_row-Sexp _ row)
  row_sound end_of-Sexp = tt
  row_sound (more_of-Sexp tree row) = (constraint_sound tree, row_sound row)

pub constraint_spelled : (tree : Sexp) (c : RawConstraint) → constraint tree ≡ parsed c → IsConstraint tree c
constraint_spelled tree c e = sound_is (IsConstraint tree) (constraint tree) c (constraint_sound tree) e

pub whole_constraint_sound : (tree : Sexp) → Sound (whole_constraint tree) (IsWholeConstraint tree)
whole_constraint_sound tree =
    whole_sound (IsWholeConstraint tree) (And []) (constraint tree) tree
    (λ none. subst (λ t. IsWholeConstraint t (And [])) (sym none.is) (no_constraint none.place))
    (sound_map (IsConstraint tree) (IsWholeConstraint tree) (constraint tree) (λ c is. a_constraint tree c is) (constraint_sound tree))

pub whole_constraint_spelled : (tree : Sexp) (c : RawConstraint) → whole_constraint tree ≡ parsed c → IsWholeConstraint tree c
whole_constraint_spelled tree c e = sound_is (IsWholeConstraint tree) (whole_constraint tree) c (whole_constraint_sound tree) e

some_constraint : (tree : Sexp) (v : Read RawConstraint) → Sound v (IsConstraint tree) → faults v ≡ [] → HasConstraint tree
some_constraint tree (parsed c) is e = record { form = c; is = is }
some_constraint tree (rejected f fs) is e = cc

pub faultless_constraint : (tree : Sexp) → faults (constraint tree) ≡ [] → HasConstraint tree
faultless_constraint tree e = some_constraint tree (constraint tree) (constraint_sound tree) e

pub rejected_constraint : (tree : Sexp) → HasConstraint tree → faults (constraint tree) ≡ []
rejected_constraint tree has = rw (constraint_read tree has.form has.is) refl
