-- Where no row has a condition or variables and no object function is there, rows that meet have one atom, so that one is left out.
use Rattle.std.proofs.Common.{◌≡◌, true, false, not as flip, ◌&&◌, List, [], ◌∷◌, ◌++◌, take, zip, Option, Some, None, IsSomeAnd, refl, ap, sym, ◌∙◌, subst}
use Rattle.std.specs.List.{list_any, list_all}
use Rattle.std.specs.Cmp.Lexicographic.{bytes_decides}
use Rattle.up_text.specs.declared.name.Name.{Name}
use Rattle.up_text.specs.Names.{same_name}
use Rattle.up_text.specs.Lists.{Member}
use Rattle.up_tree.specs.declared.term.Term.{Term, Object}
use Rattle.up_tree.specs.declared.term.Typed.{Typed}
use Rattle.up_tree.specs.declared.formula.Formula.{Formula, Atom}
use Rattle.up_tree.specs.declared.action.Action.{Action}
use Rattle.up_tree.specs.declared.action.Row.{Row}
use Rattle.up_tree.specs.declared.action.Effect.{Effect}
use Rattle.up_tree.specs.declared.action.Effect.TheVariants as effect
use Rattle.up_tree.specs.declared.problem.Predicate.{Predicate}
use Rattle.up_tree.specs.declared.problem.Parts.{Parts}
use Rattle.up_tree.specs.Objects.{predicate_named}
use Rattle.up_tree.specs.Simplify.{is_empty, is_true_formula}
use Rattle.up_tree.specs.WellFormed.{IsWellFormed, TermsFit, IsAtom, IsEffect, IsRow, IsAction}
use Rattle.up_kind.specs.declared.feature.Feature.TheVariants.{ConditionalEffects, ForallEffects, ObjectFluents}
use Rattle.up_kind.specs.Carried.{gives_an_object, carries}
use Rattle.up_kind.specs.Meeting.{share, is_guarded, may_agree, meet_by, meet, has_meeting_rows}
use Rattle.expansion_kinds.proofs.Tests.{any_member, any_there, and_both}
use Rattle.compiling_laws.proofs.Same.{same_decides}
use Rattle.compiling_laws.proofs.Lists.{false_true, and_true, not_true, not_false, any_false, of_filter}
use Rattle.step_laws.proofs.Lists.{every_at}
use Rattle.grounder_laws.specs.Grounder.{is_bare, adds, is_outdone, is_left_out, lighter}
use Rattle.grounder_laws.proofs.Equalities.{no_vars}
use Rattle.grounder_laws.proofs.Grounding.{ground_term}

module _ (p : Parts) (none : list_any gives_an_object p.functions ≡ false) (objects : List Typed) where
  abbrev Ground : Term → Type 0
  Ground t = (o : Name) × (t ≡ Object o)

  -- two objects that share one are the same
  one_object : (before after : List Typed) (s t : Term) → Ground s → Ground t → share p before s after t ≡ true → s ≡ t
  one_object before after s t o q h =
      let same : same_name o.0 q.0 ≡ true = (λ i. share p before (sym o.1 i) after (sym q.1 i)) ∙ h in
      o.1 ∙ ap Object ((bytes_decides o.0 q.0).0 same) ∙ sym q.1

  same_terms : (before after : List Typed) (pre : Formula) (ss ts : List Term) (types : List Name) → TermsFit p objects [] ss types → TermsFit p objects [] ts types
      → list_all (λ pair. flip (is_guarded pre pair.0 pair.1) && share p before pair.0 after pair.1) (zip ss ts) ≡ true → ss ≡ ts
  same_terms before after pre [] [] types fit other h = refl
  same_terms before after pre [] (t ∷ ts) [] fit other h = absurd other
  same_terms before after pre [] (t ∷ ts) (of ∷ types) fit other h = absurd fit
  same_terms before after pre (s ∷ ss) [] [] fit other h = absurd fit
  same_terms before after pre (s ∷ ss) [] (of ∷ types) fit other h = absurd other
  same_terms before after pre (s ∷ ss) (t ∷ ts) [] fit other h = absurd fit
  same_terms before after pre (s ∷ ss) (t ∷ ts) (of ∷ types) fit other h =
      let k = and_true (flip (is_guarded pre s t) && share p before s after t) _ h in
      let shared : share p before s after t ≡ true = (and_true (flip (is_guarded pre s t)) (share p before s after t) k.0).1 in
      λ i. one_object before after s t (ground_term p objects none s fit.0.0) (ground_term p objects none t other.0.0) shared i ∷ same_terms before after pre ss ts types fit.1 other.1 k.1 i

  same_atoms : (before after : List Typed) (pre : Formula) (n k : Name) (ss ts : List Term) → n ≡ k → IsAtom p objects [] n ss → IsAtom p objects [] k ts
      → list_all (λ pair. flip (is_guarded pre pair.0 pair.1) && share p before pair.0 after pair.1) (zip ss ts) ≡ true → Atom n ss ≡ Atom k ts
  same_atoms before after pre n k ss ts same is other h =
      by (predicate_named p n) is (subst (λ (x : Name). IsSomeAnd (predicate_named p x) (λ d. TermsFit p objects [] ts d.args)) (sym same) other)
    where
      by : (found : Option Predicate) → IsSomeAnd found (λ d. TermsFit p objects [] ss d.args) → IsSomeAnd found (λ d. TermsFit p objects [] ts d.args) → Atom n ss ≡ Atom k ts
      by None is other = absurd is
      by (Some d) is other = λ i. Atom (same i) (same_terms before after pre ss ts d.args is other h i)

module _ (p : Parts) (formed : IsWellFormed p) (no_objects : carries p ObjectFluents ≡ false) (bare : carries p ForallEffects ≡ false)
    (plain : carries p ConditionalEffects ≡ false) (a : Action) (m : Member a p.actions) (params : a.params ≡ []) where
  abbrev named : List Typed
  named = take p.constants p.objects

  is : IsAction p a
  is = every_at (IsAction p) p.actions a formed.actions m

  no_condition : (r : Row) → Member r a.rows → is_true_formula r.when ≡ true
  no_condition r k =
      not_false (is_true_formula r.when)
      (any_false (λ (r : Row). flip (is_true_formula r.when)) a.rows r (any_false (λ (a : Action). list_any (λ (r : Row). flip (is_true_formula r.when)) a.rows) p.actions a plain m) k)

  is_bare_row : (r : Row) → Member r a.rows → is_bare r ≡ true
  is_bare_row r k = and_both (is_empty r.vars) (is_true_formula r.when) (ap is_empty (no_vars p bare a m r k)) (no_condition r k)

  effect_there : (r : Row) → Member r a.rows → IsEffect p named [] r.effect
  effect_there r k =
      subst (λ scope. IsEffect p named scope r.effect) (λ i. no_vars p bare a m r k i ++ params i) (every_at (IsRow p named a.params) a.rows r is.rows k).effect

  -- of rows that meet the first is left out
  left_out : (d r : Row) → Member r a.rows → (x y : Effect) → r.effect ≡ y → IsEffect p named [] x → IsEffect p named [] y → meet_by p (lighter a) d r x y ≡ true → is_outdone a.rows x ≡ true
  left_out d r k (effect.Delete n ss) (effect.Add other ts) at one two h =
      let both : (same_name n other ≡ true) × (may_agree p (lighter a) d r ss ts ≡ true) = and_true (same_name n other) (may_agree p (lighter a) d r ss ts) h in
      let same : Atom n ss ≡ Atom other ts =
      same_atoms p no_objects named (d.vars ++ a.params) (r.vars ++ a.params) a.pre n other ss ts ((bytes_decides n other).0 both.0) one two both.1
      in
      any_there (λ (x : Row). is_bare x && adds (Atom n ss) x.effect) a.rows r k
      (and_both (is_bare r) (adds (Atom n ss) r.effect) (is_bare_row r k) (ap (adds (Atom n ss)) at ∙ (same_decides (Atom n ss) (Atom other ts)).1 same))
  left_out d r k (effect.Delete n ss) (effect.Delete other ts) at one two h = false_true h
  left_out d r k (effect.Delete n ss) (effect.Number change f ts x) at one two h = false_true h
  left_out d r k (effect.Delete n ss) (effect.Object f ts t) at one two h = false_true h
  left_out d r k (effect.Delete n ss) (effect.Undefine f ts) at one two h = false_true h
  left_out d r k (effect.Add n ss) y at one two h = false_true h
  left_out d r k (effect.Number change f ts x) y at one two h = false_true h
  left_out d r k (effect.Object f ts t) y at one two h = false_true h
  left_out d r k (effect.Undefine f ts) y at one two h = false_true h

  pub none_meet : has_meeting_rows p (lighter a) ≡ true → ⊥
  unfolding meet
  none_meet h =
      let d = any_member (λ d. list_any (meet p (lighter a) d) (lighter a).rows) (lighter a).rows h in
      let r = any_member (meet p (lighter a) d.0) (lighter a).rows d.2 in
      let d_there = of_filter (λ r. flip (is_left_out a.rows r)) a.rows d.0 d.1 in
      let r_there = of_filter (λ r. flip (is_left_out a.rows r)) a.rows r.0 r.1 in
      apart (sym (not_true (is_left_out a.rows d.0) d_there.1)
      ∙ and_both (is_bare d.0) (is_outdone a.rows d.0.effect) (is_bare_row d.0 d_there.0)
      (left_out d.0 r.0 r_there.0 d.0.effect r.0.effect refl (effect_there d.0 d_there.0) (effect_there r.0 r_there.0) r.2))
    where
      apart : false ≡ true → ⊥
      apart e = false_true e
