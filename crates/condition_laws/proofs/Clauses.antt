-- A formula has the truth of its clauses.
use Rattle.std.proofs.Common.{◌≡◌, ◌↔◌, ◌⊎◌, List, [], ◌∷◌, ◌++◌, map, refl, sym, ◌∙◌, subst}
use Rattle.std.specs.List.{flat_map}
use Rattle.up_text.specs.Lists.{Every, Somewhere}
use Rattle.up_tree.specs.declared.formula.Formula.{Formula, And, And', Or, Or', Atom, Equal, Compare, Row_of-Formula, end_of-Formula, more_of-Formula}
use Rattle.up_tree.specs.declared.truth.Truth.{Truth}
use Rattle.up_tree.specs.declared.truth.Truth.TheVariants as truth
use Rattle.up_tree.specs.Nodes.{not, imply, exists, forall}
use Rattle.up_tree.specs.Objects.{World, Assignment}
use Rattle.up_tree.specs.State.{State}
use Rattle.up_tree.specs.Truth.{True, False}
use Rattle.up_tree.specs.Judged.{both, either, all_of, any_of, truth_of, truths_of}
use Rattle.up_tree.specs.Normal.{clauses, joined, gathered}
use Rattle.up_tree.proofs.Nodes.{True-And, True-Or, False-And, False-Or}
use Rattle.semantics_laws.specs.SameTruth.{SameTruth}
use Rattle.semantics_laws.proofs.Lists.{each_as, each_map, each_flat_map}
use Rattle.semantics_laws.proofs.Same.{same_truth}
use Rattle.condition_laws.specs.Shapes.{IsLiteral, IsNormal, AreNormal, IsQuantifierFree, AreQuantifierFree}
use Rattle.condition_laws.proofs.Values.{both_true, both_false, either_false, all_append, any_append}
use Rattle.condition_laws.proofs.Simplifying.{truth_of-And, truth_of-Or}

-- ---- one of three values over another

over_left : (t u v : Truth) → either (both t u) (both t v) ≡ both t (either u v)
over_left truth.True u v = refl
over_left truth.False u v = refl
over_left truth.Undefined truth.True truth.True = refl
over_left truth.Undefined truth.True truth.False = refl
over_left truth.Undefined truth.True truth.Undefined = refl
over_left truth.Undefined truth.False truth.True = refl
over_left truth.Undefined truth.False truth.False = refl
over_left truth.Undefined truth.False truth.Undefined = refl
over_left truth.Undefined truth.Undefined truth.True = refl
over_left truth.Undefined truth.Undefined truth.False = refl
over_left truth.Undefined truth.Undefined truth.Undefined = refl

both_turned : (t u : Truth) → both t u ≡ both u t
both_turned truth.True truth.True = refl
both_turned truth.True truth.False = refl
both_turned truth.True truth.Undefined = refl
both_turned truth.False truth.True = refl
both_turned truth.False truth.False = refl
both_turned truth.False truth.Undefined = refl
both_turned truth.Undefined truth.True = refl
both_turned truth.Undefined truth.False = refl
both_turned truth.Undefined truth.Undefined = refl

over_right : (t u v : Truth) → either (both t v) (both u v) ≡ both (either t u) v
over_right t u v = (λ i. either (both_turned t v i) (both_turned u v i)) ∙ over_left v t u ∙ both_turned v (either t u)

-- ---- clauses computed

module _ (w : World) (s : State) (e : Assignment) where
  -- whether all literals of a clause are true
  of_clause : List Formula → Truth
  of_clause clause = all_of (map (truth_of w s e) clause)

  of_clauses : List (List Formula) → Truth
  of_clauses cs = any_of (map of_clause cs)

  of_rests : (first : List Formula) (rests : List (List Formula)) → of_clauses (map (λ rest. first ++ rest) rests) ≡ both (of_clause first) (of_clauses rests)
  unfolding of_clause of_clauses
  of_rests first [] = sym (both_false (of_clause first))
  of_rests first (rest ∷ rests) =
      (λ i. either (all_append (truth_of w s e) first rest i) (of_rests first rests i)) ∙ over_left (of_clause first) (of_clause rest) (of_clauses rests)

  of_pairs : (firsts rests : List (List Formula)) → of_clauses (flat_map (λ first. map (λ rest. first ++ rest) rests) firsts) ≡ both (of_clauses firsts) (of_clauses rests)
  unfolding of_clause of_clauses
  of_pairs [] rests = refl
  of_pairs (first ∷ firsts) rests =
      any_append of_clause (map (λ rest. first ++ rest) rests) (flat_map (λ first. map (λ rest. first ++ rest) rests) firsts)
      ∙ (λ i. either (of_rests first rests i) (of_pairs firsts rests i)) ∙ over_right (of_clause first) (of_clauses firsts) (of_clauses rests)

  of_one : (f : Formula) → of_clauses ((f ∷ []) ∷ []) ≡ truth_of w s e f
  unfolding of_clause of_clauses
  of_one f = either_false _ ∙ both_true (truth_of w s e f)

  none_left : of_clauses ([] ∷ []) ≡ truth.True
  unfolding of_clause of_clauses
  none_left = refl

  none_there : of_clauses [] ≡ truth.False
  unfolding of_clause of_clauses
  none_there = refl

  of_both : (cs ds : List (List Formula)) → of_clauses (cs ++ ds) ≡ either (of_clauses cs) (of_clauses ds)
  unfolding of_clause of_clauses
  of_both cs ds = any_append of_clause cs ds

  mutual
    unfolding clauses joined gathered truth_of truths_of

    clauses_truth : (f : Formula) → of_clauses (clauses f) ≡ truth_of w s e f
    clauses_truth (And' n fs) = joined_truth fs
    clauses_truth (Or' n fs) = gathered_truth fs
    clauses_truth (not f) = of_one (not f)
    clauses_truth (imply f g) = of_one (imply f g)
    clauses_truth (exists vars f) = of_one (exists vars f)
    clauses_truth (forall vars f) = of_one (forall vars f)
    clauses_truth (Atom name ts) = of_one (Atom name ts)
    clauses_truth (Equal t u) = of_one (Equal t u)
    clauses_truth (Compare r a b) = of_one (Compare r a b)

    joined_truth : {n : _} (fs : Row_of-Formula n) → of_clauses (joined fs) ≡ all_of (truths_of w s e fs)
    joined_truth end_of-Formula = none_left
    joined_truth (more_of-Formula f fs) = of_pairs (clauses f) (joined fs) ∙ (λ i. both (clauses_truth f i) (joined_truth fs i))

    gathered_truth : {n : _} (fs : Row_of-Formula n) → of_clauses (gathered fs) ≡ any_of (truths_of w s e fs)
    gathered_truth end_of-Formula = none_there
    gathered_truth (more_of-Formula f fs) = of_both (clauses f) (gathered fs) ∙ (λ i. either (clauses_truth f i) (gathered_truth fs i))

  -- ---- as a formula of the clauses

  of_ands : (cs : List (List Formula)) → any_of (map (truth_of w s e) (map And cs)) ≡ of_clauses cs
  unfolding of_clause of_clauses
  of_ands [] = refl
  of_ands (c ∷ cs) = λ i. either (truth_of-And w s e c i) (of_ands cs i)

  same_as_clauses : (f : Formula) → SameTruth w s e (Or (map And (clauses f))) s e f
  same_as_clauses f =
      same_truth w s e (Or (map And (clauses f))) s e f (truth_of-Or w s e (map And (clauses f)) ∙ of_ands (clauses f) ∙ clauses_truth f)

  true_ands : (cs : List (List Formula)) → Somewhere (True w s e) (map And cs) ≡ Somewhere (λ clause. Every (True w s e) clause) cs
  true_ands [] = refl
  true_ands (c ∷ cs) = λ i. True-And w s e c i ⊎ true_ands cs i

  false_ands : (cs : List (List Formula)) → Every (False w s e) (map And cs) ≡ Every (λ clause. Somewhere (False w s e) clause) cs
  false_ands [] = refl
  false_ands (c ∷ cs) = λ i. False-And w s e c i × false_ands cs i

by_path : {A B C : Type 0} → A ≡ B → A ↔ C → C ↔ B
by_path e f = (λ c. subst (λ X. X) e (f.1 c), λ b. f.0 (subst (λ X. X) (sym e) b))

pub clauses_true : (w : World) (s : State) (e : Assignment) (f : Formula) → True w s e f ↔ Somewhere (λ clause. Every (True w s e) clause) (clauses f)
clauses_true w s e f = by_path (True-Or w s e (map And (clauses f)) ∙ true_ands w s e (clauses f)) (same_as_clauses w s e f).true_where

pub clauses_false : (w : World) (s : State) (e : Assignment) (f : Formula) → False w s e f ↔ Every (λ clause. Somewhere (False w s e) clause) (clauses f)
clauses_false w s e f = by_path (False-Or w s e (map And (clauses f)) ∙ false_ands w s e (clauses f)) (same_as_clauses w s e f).false_where

-- ---- what stands in them

module _ {X : Type 0} (P : X → Type 0) where
  pub each_of_both : (xs ys : List X) → Every P xs → Every P ys → Every P (xs ++ ys)
  each_of_both [] ys h k = k
  each_of_both (x ∷ xs) ys h k = (h.0, each_of_both xs ys h.1 k)

  pub each_of_pairs : (firsts rests : List (List X)) → Every (Every P) firsts → Every (Every P) rests →
      Every (Every P) (flat_map (λ first. map (λ rest. first ++ rest) rests) firsts)
  each_of_pairs firsts rests h k =
      each_flat_map (Every P) (λ first. map (λ rest. first ++ rest) rests) firsts
      (each_as (Every P) _ (λ first a. each_map (Every P) (λ rest. first ++ rest) rests (each_as (Every P) _ (λ rest b. each_of_both first rest a b) rests k)) firsts h)

pub each_clause_of_both : (P : Formula → Type 0) (cs ds : List (List Formula)) → Every (Every P) cs → Every (Every P) ds → Every (Every P) (cs ++ ds)
each_clause_of_both P cs ds h k = each_of_both (Every P) cs ds h k

mutual
  unfolding clauses joined gathered IsNormal AreNormal IsQuantifierFree AreQuantifierFree

  literals : (f : Formula) → IsNormal f → IsQuantifierFree f → Every (Every IsLiteral) (clauses f)
  literals (And' n fs) h k = joined_literals fs h k
  literals (Or' n fs) h k = gathered_literals fs h k
  literals (not f) h k = ((h, tt), tt)
  literals (imply f g) h k = absurd h
  literals (exists vars f) h k = absurd k
  literals (forall vars f) h k = absurd k
  literals (Atom name ts) h k = ((tt, tt), tt)
  literals (Equal t u) h k = ((tt, tt), tt)
  literals (Compare r a b) h k = ((tt, tt), tt)

  joined_literals : {n : _} (fs : Row_of-Formula n) → AreNormal fs → AreQuantifierFree fs → Every (Every IsLiteral) (joined fs)
  joined_literals end_of-Formula h k = (tt, tt)
  joined_literals (more_of-Formula f fs) h k = each_of_pairs IsLiteral (clauses f) (joined fs) (literals f h.0 k.0) (joined_literals fs h.1 k.1)

  gathered_literals : {n : _} (fs : Row_of-Formula n) → AreNormal fs → AreQuantifierFree fs → Every (Every IsLiteral) (gathered fs)
  gathered_literals end_of-Formula h k = tt
  gathered_literals (more_of-Formula f fs) h k = each_clause_of_both IsLiteral (clauses f) (gathered fs) (literals f h.0 k.0) (gathered_literals fs h.1 k.1)

pub clauses_are_of_literals : (f : Formula) → IsNormal f → IsQuantifierFree f → Every (Every IsLiteral) (clauses f)
clauses_are_of_literals f h k = literals f h k
