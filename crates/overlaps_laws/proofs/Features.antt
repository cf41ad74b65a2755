-- What the variants' conditions and rows carry.
use Rattle.std.proofs.Common.{◌≡◌, ◌⊎◌, ℕ, zero, suc, Bool, true, false, ◌||◌, List, [], ◌∷◌, map, flat_map, length, refl, ap, sym, ◌∙◌, subst, inl, inr, ⊎_elim}
use Rattle.std.specs.List.{list_any}
use Rattle.up_text.specs.Lists.{Member}
use Rattle.up_tree.specs.declared.term.Term.{Term}
use Rattle.up_tree.specs.declared.action.Action.{Action}
use Rattle.up_tree.specs.declared.action.Row.{Row}
use Rattle.up_tree.specs.declared.formula.Formula.{Formula, And, Equal, Not}
use Rattle.up_tree.specs.declared.problem.Constraint.{Constraint}
use Rattle.up_tree.specs.declared.problem.Parts.{Parts}
use Rattle.up_tree.specs.Nodes.{built}
use Rattle.up_tree.specs.Objects.{World, world}
use Rattle.up_tree.specs.Simplify.{simplified, knows_nothing, is_false_formula}
use Rattle.up_tree.specs.WellFormed.{formulas_of}
use Rattle.up_kind.specs.Carried.{anywhere, is_disjunctive, is_exists, is_forall, is_compare, conditions, some_condition, some_row}
use Rattle.up_kind.specs.Meeting.{has_meeting_rows}
use Rattle.step_laws.specs.Naming.{Stands}
use Rattle.condition_laws.proofs.Carrying.{simplified_carry}
use Rattle.condition_laws.proofs.Holding.{of_two, none, anywhere-And}
use Rattle.compiling_laws.proofs.Lists.{false_true, any_true, any_from, any_none, member_left, member_right, member_either, member_flat, of_flat, member_map, of_map}
use Rattle.overlaps_laws.specs.Overlaps.{Meeting, meetings, argument_pairs, Case, cases, split_once, split_times, variant_pairs, overlaps}
use Rattle.overlaps_laws.specs.Splittable.{IsSplittable}
use Rattle.overlaps_laws.proofs.Once.{made}
use Rattle.overlaps_laws.proofs.Variants.{IsVariantOf, itself, by_case, variant_is, IsCase, all_equal, one_differs, case_is}
use Rattle.overlaps_laws.proofs.Counting.{variants_dont_meet}
use Rattle.overlaps_laws.proofs.Ranges.{has_same}
use Rattle.overlaps_laws.proofs.Splitting.{IsAdmitted, IsVariant, pair_is}

-- a test that neither an `and` nor an equality nor its negation passes, and that simplification doesn't bring about
pub record IsApart (t : Formula → Bool) : Type 0 where
  pub and_no : (fs : List Formula) → t (And fs) ≡ false
  pub equal_no : (u v : Term) → anywhere t (Equal u v) ≡ false
  pub differ_no : (u v : Term) → anywhere t (Not (Equal u v)) ≡ false
  pub simple : (w : World) (f : Formula) → is_false_formula (simplified w knows_nothing f) ≡ false → anywhere t (simplified w knows_nothing f) ≡ true → anywhere t f ≡ true

pub exists_apart : IsApart is_exists
unfolding anywhere built
exists_apart = record { and_no = λ fs. refl; equal_no = λ u v. refl; differ_no = λ u v. refl; simple = λ w f lives h. (simplified_carry w knows_nothing f).existential h }

pub forall_apart : IsApart is_forall
unfolding anywhere built
forall_apart = record { and_no = λ fs. refl; equal_no = λ u v. refl; differ_no = λ u v. refl; simple = λ w f lives h. (simplified_carry w knows_nothing f).universal h }

pub compare_apart : IsApart is_compare
unfolding anywhere built
compare_apart = record { and_no = λ fs. refl; equal_no = λ u v. refl; differ_no = λ u v. refl; simple = λ w f lives h. (simplified_carry w knows_nothing f).comparisons h }

pub disjunctive_apart : IsApart is_disjunctive
unfolding anywhere built
disjunctive_apart = record { and_no = λ fs. refl; equal_no = λ u v. refl; differ_no = λ u v. refl; simple = λ w f lives h. (simplified_carry w knows_nothing f).disjunctive lives h }

module _ (t : Formula → Bool) (is : IsApart t) where
  equals_no : (pairs : List (Term × Term)) → list_any (anywhere t) (map (λ (pair : Term × Term). Equal pair.0 pair.1) pairs) ≡ false
  equals_no [] = refl
  equals_no (pair ∷ pairs) = λ i. is.equal_no pair.0 pair.1 i || equals_no pairs i

  more_no : (p : Parts) (a : Action) (m : Meeting) (c : Case) → IsCase p a m c → list_any (anywhere t) c.more ≡ false
  more_no p a m c (all_equal same) = subst (λ (x : Case). list_any (anywhere t) x.more ≡ false) (sym same) (equals_no (argument_pairs m))
  more_no p a m c (one_differs pair there same) =
      subst (λ (x : Case). list_any (anywhere t) x.more ≡ false) (sym same) (λ i. is.differ_no pair.0 pair.1 i || false)

  made_pre : (p : Parts) (a : Action) (m : Meeting) (c : Case) → Member c (cases p a m) → is_false_formula (made (world p) a c).pre ≡ false
      → anywhere t (made (world p) a c).pre ≡ true → anywhere t a.pre ≡ true
  made_pre p a m c listed lives h =
      let inside : (t (And (a.pre ∷ c.more)) || list_any (anywhere t) (a.pre ∷ c.more)) ≡ true = sym (anywhere-And t (a.pre ∷ c.more)) ∙ is.simple (world p) (And (a.pre ∷ c.more)) lives h in
      ⊎_elim (λ e. none (is.and_no (a.pre ∷ c.more)) e)
      (λ e. ⊎_elim (λ k. k) (λ k. none (more_no p a m c (case_is p a m c listed)) k) (of_two (anywhere t a.pre) (list_any (anywhere t) c.more) e))
      (of_two (t (And (a.pre ∷ c.more))) (list_any (anywhere t) (a.pre ∷ c.more)) inside)

  once_pre : (p : Parts) (a b : Action) → Member b (split_once p a) → anywhere t b.pre ≡ true → anywhere t a.pre ≡ true
  once_pre p a b k h = by (variant_is p a b k)
    where
      by : IsVariantOf p a b → anywhere t a.pre ≡ true
      by (itself none_ same) = subst (λ (x : Action). anywhere t x.pre ≡ true) same h
      by (by_case m more at c listed same lives) = made_pre p a m c listed lives (subst (λ (x : Action). anywhere t x.pre ≡ true) same h)

  times_pre : (p : Parts) (n : ℕ) (a b : Action) → Member b (split_times p n a) → anywhere t b.pre ≡ true → anywhere t a.pre ≡ true
  times_pre p zero a b (inl same) h = subst (λ (x : Action). anywhere t x.pre ≡ true) same h
  times_pre p zero a b (inr k) h = absurd k
  times_pre p (suc n) a b k h =
      let c = of_flat (split_times p n) b (split_once p a) k in
      once_pre p a c.0 c.1 (times_pre p n c.0 b c.2 h)

module _ (p : Parts) (ok : IsAdmitted p) (rows_of : (pair : Stands) → IsVariant p pair → (r : Row) → Member r pair.new.rows → Member r pair.old.rows) where
  abbrev q : Parts
  q = (overlaps p).parts

  -- what a new action passes its old one passes, so what some new one does some old one does
  pub of_actions : (test other : Action → Bool) → ((pair : Stands) → IsVariant p pair → test pair.new ≡ true → other pair.old ≡ true)
      → list_any test q.actions ≡ true → list_any other p.actions ≡ true
  of_actions test other each e =
      let a = any_true test q.actions e in
      let pair = of_map (λ (pair : Stands). pair.new) (variant_pairs p) a.0 a.1 in
      let is : IsVariant p pair.0 = pair_is p pair.0 pair.1 in
      any_from other p.actions pair.0.old is.member (each pair.0 is (subst (λ (x : Action). test x ≡ true) pair.2 a.2))

  pub of_rows : (test : Row → Bool) → some_row q test ≡ true → some_row p test ≡ true
  of_rows test = of_actions (λ a. list_any test a.rows) (λ a. list_any test a.rows) (λ pair is e.
      let r = any_true test pair.new.rows e in any_from test pair.old.rows r.0 (rows_of pair is r.0 r.1) r.2)

  abbrev of_action : Action → List Formula
  of_action a = a.pre ∷ map (λ (r : Row). r.when) a.rows

  abbrev others : List Formula
  others = p.goal ∷ flat_map (λ (c : Constraint). formulas_of c.rule) p.constraints

  module _ (t : Formula → Bool) (apart : IsApart t) where
    abbrev Somehow : Action → Type 0
    Somehow a = (f : Formula) × Member f (of_action a) × (anywhere t f ≡ true)

    of_new : (pair : Stands) (is : IsVariant p pair) → (f : Formula) → Member f (of_action pair.new) → anywhere t f ≡ true → Somehow pair.old
    of_new pair is f (inl same) e = (
      pair.old.pre,
      inl refl,
      times_pre t apart p (length (meetings p pair.old)) pair.old is.variant is.listed
          (subst (λ (x : Action). anywhere t x.pre ≡ true) is.but_name (subst (λ g. anywhere t g ≡ true) same e)),
    )
    of_new pair is f (inr k) e =
        let r = of_map (λ (r : Row). r.when) pair.new.rows f k in
        (r.0.when, inr (member_map (λ (r : Row). r.when) pair.old.rows r.0 (rows_of pair is r.0 r.1)), subst (λ g. anywhere t g ≡ true) r.2 e)

    pub of_conditions : some_condition q t ≡ true → some_condition p t ≡ true
    of_conditions e = let f = any_true (anywhere t) (conditions q) e in by f.0 f.2 (member_either f.0 (flat_map of_action q.actions) others f.1)
      where
        by : (f : Formula) → anywhere t f ≡ true → Member f (flat_map of_action q.actions) ⊎ Member f others → some_condition p t ≡ true
        by f found (inr m) = any_from (anywhere t) (conditions p) f (member_right f (flat_map of_action p.actions) others m) found
        by f found (inl m) =
            let a = of_flat of_action f q.actions m in
            let pair = of_map (λ (pair : Stands). pair.new) (variant_pairs p) a.0 a.1 in
            let is : IsVariant p pair.0 = pair_is p pair.0 pair.1 in
            let k : Somehow pair.0.old = of_new pair.0 is f (subst (λ (x : Action). Member f (of_action x)) pair.2 a.2) found in
            any_from (anywhere t) (conditions p) k.0
            (member_left k.0 (flat_map of_action p.actions) others (member_flat of_action pair.0.old k.0 p.actions is.member k.1)) k.2

  -- no rows meet
  pub none_overlap : list_any (has_meeting_rows q) q.actions ≡ false
  none_overlap = any_none (has_meeting_rows q) q.actions (λ a m.
      let pair = of_map (λ (pair : Stands). pair.new) (variant_pairs p) a m in
      let is : IsVariant p pair.0 = pair_is p pair.0 pair.1 in
      ap (has_meeting_rows q) (pair.2 ∙ is.but_name)
      ∙ has_same p q.actions p.goal is.variant pair.0.new.name
      ∙ variants_dont_meet p ok.no_objects pair.0.old (Rattle.step_laws.proofs.Lists.every_at (IsSplittable p) p.actions pair.0.old ok.splittable is.member) is.variant is.listed)
