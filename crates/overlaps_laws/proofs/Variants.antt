-- An action is taken where one of the variants of its first meeting rows is.
use Rattle.std.proofs.Common.{◌≡◌, ◌⊎◌, Bool, true, false, cond, List, [], ◌∷◌, map, zip, take, Some, None, IsSome, refl, ap, sym, subst, inl, inr}
use Rattle.up_text.specs.declared.name.Name.{Name}
use Rattle.up_text.specs.Lists.{Every, Member}
use Rattle.up_tree.specs.declared.term.Term.{Term}
use Rattle.up_tree.specs.declared.formula.Formula.{Formula, Equal, Not}
use Rattle.up_tree.specs.declared.action.Action.{Action}
use Rattle.up_tree.specs.declared.action.Row.{Row}
use Rattle.up_tree.specs.declared.problem.Parts.{Parts}
use Rattle.up_tree.specs.Objects.{World, world, Assignment}
use Rattle.up_tree.specs.State.{State}
use Rattle.up_tree.specs.Value.{values_of}
use Rattle.up_tree.specs.Truth.{True}
use Rattle.up_tree.specs.Instances.{action_assignment}
use Rattle.up_tree.specs.Changes.{changed}
use Rattle.up_tree.specs.Faults.{object_undefined, ObjectUndefined, OfEffect}
use Rattle.up_tree.specs.Simplify.{is_false_formula}
use Rattle.up_tree.specs.WellFormed.{IsFormula}
use Rattle.up_tree.proofs.Nodes.{True-Not}
use Rattle.step_laws.specs.SplitLaw.{CanTakeBy, next_by}
use Rattle.compiling_laws.proofs.Lists.{none_some, some_same, member_map, of_map, of_filter_map}
use Rattle.compiling_laws.proofs.Taking.{never_true}
use Rattle.overlaps_laws.specs.Overlaps.{Meeting, meetings, argument_pairs, other_rows, Case, cases, variant, split_by, split_once}
use Rattle.overlaps_laws.proofs.Parting.{IsWith, part_of, part_member}
use Rattle.overlaps_laws.specs.Splittable.{IsSplittable}
use Rattle.overlaps_laws.proofs.Rows.{Met, met, IsFirst, IsMeeting, Arguments, arguments_are, pairs_are, case_formed}
use Rattle.overlaps_laws.proofs.Values.{none_or_some, AreEqual, OneValue, one_value, SomeDiffer, all_or_one}
use Rattle.overlaps_laws.proofs.Once.{fire, rows_fire, IsNoWorse, no_worse, changed_alike, more_no_worse, less_no_worse, made, variant_splittable, says, holds, kept_by, followed_by, next_alike}

-- ---- the variants of one splitting

pub data IsVariantOf (p : Parts) (a : Action) (b : Action) : Type 0 where
  itself : meetings p a ≡ [] → b ≡ a → IsVariantOf p a b
  by_case : (m : Meeting) (more : List Meeting) → meetings p a ≡ m ∷ more → (c : Case) → Member c (cases p a m) → b ≡ made (world p) a c
      → is_false_formula (made (world p) a c).pre ≡ false → IsVariantOf p a b

pub variant_is : (p : Parts) (a b : Action) → Member b (split_once p a) → IsVariantOf p a b
variant_is p a b = by (meetings p a) refl
  where
    kept : (never : Bool) (x : Action) → cond never None (Some x) ≡ Some b → (b ≡ x) × (never ≡ false)
    kept true x e = none_some e
    kept false x e = (sym (some_same x b e), refl)

    by : (ms : List Meeting) → meetings p a ≡ ms → Member b (split_by p a ms) → IsVariantOf p a b
    by [] is (inl e) = itself is e
    by [] is (inr m) = absurd m
    by (m ∷ more) is k =
        let c = of_filter_map (variant (world p) a) (cases p a m) b k in
        by_case m more is c.0 c.1 (kept _ _ c.2).0 (kept _ _ c.2).1

-- the case in which all arguments are equal
abbrev pub together : Parts → Action → Meeting → Case
together p a m = record { more = map (λ (pair : Term × Term). Equal pair.0 pair.1) (argument_pairs m); rows = other_rows p a }

-- that in which those of a pair differ
abbrev pub differing : Action → Term × Term → Case
differing a pair = record { more = Not (Equal pair.0 pair.1) ∷ []; rows = a.rows }

pub data IsCase (p : Parts) (a : Action) (m : Meeting) (c : Case) : Type 0 where
  all_equal : c ≡ together p a m → IsCase p a m c
  one_differs : (pair : Term × Term) → Member pair (argument_pairs m) → c ≡ differing a pair → IsCase p a m c

pub case_is : (p : Parts) (a : Action) (m : Meeting) (c : Case) → Member c (cases p a m) → IsCase p a m c
case_is p a m c (inl e) = all_equal e
case_is p a m c (inr k) =
    let pair = of_map (λ (pair : Term × Term). let x : Case = record { more = Not (Equal pair.0 pair.1) ∷ []; rows = a.rows } in x) (argument_pairs m) c k in
    one_differs pair.0 pair.1 pair.2

module _ (p : Parts) (a : Action) (ok : IsSplittable p a) (m : Meeting) (first : IsFirst p a m) where
  abbrev w : World
  w = world p

  abbrev e : List Name → Assignment
  e args = action_assignment a args

  meeting_is : IsMeeting p a m
  meeting_is = record { deleting = first.deleting; adding = first.adding; meets = first.meets }

  is : Met p a m.delete m.add
  is = met p a m.delete m.add first.meets

  terms : Arguments p a ok is.ss is.ts
  terms = arguments_are p a ok m.delete m.add first.deleting first.adding is

  pub rows_from_action : (c : Case) → IsCase p a m c → (r : Row) → Member r c.rows → Member r a.rows
  rows_from_action c (all_equal e) r k = part_member r (other_rows p a) a.rows (part_of m.delete (other_rows p a) a.rows first.others) (subst (λ (x : Case). Member r x.rows) e k)
  rows_from_action c (one_differs pair there e) r k = subst (λ (x : Case). Member r x.rows) e k

  module _ (c : Case) (listed : Member c (cases p a m)) where
    abbrev from : (r : Row) → Member r c.rows → Member r a.rows
    from = rows_from_action c (case_is p a m c listed)

    more_formed : Every (IsFormula p (take p.constants p.objects) a.params) c.more
    more_formed = case_formed p a ok m meeting_is c listed

    pub case_splittable : IsSplittable p (made (world p) a c)
    case_splittable = variant_splittable p a ok c more_formed from

    module _ (s : State) (args : List Name) where
      one_of : AreEqual w s (e args) (argument_pairs m) → OneValue w s (e args) is.ss is.ts
      one_of h = one_value w s (e args) is.ss is.ts terms.same_length (subst (AreEqual w s (e args)) (pairs_are p a ok m is) h)

      -- what is kept and what is left the same
      pub record SameStep : Type 0 where
        pub can : CanTakeBy w s a args
        pub next : next_by w s a args ≡ next_by w s (made w a c) args

      pub same_step : CanTakeBy w s (made w a c) args → SameStep
      same_step can = by (case_is p a m c listed)
        where
          said : Every (True w s (e args)) c.more
          said = (says p a ok c more_formed from s args can).1

          by : IsCase p a m c → SameStep
          by (all_equal same) =
              let one : OneValue w s (e args) is.ss is.ts = one_of (subst (λ (x : Case). Every (True w s (e args)) x.more) same said) in
              let lacks : IsWith m.delete c.rows a.rows = subst (λ (x : Case). IsWith m.delete x.rows a.rows) (sym same) first.others in
              record {
                can = kept_by p a ok c more_formed from s args (more_no_worse w s (e args) p a m.delete m.add is c.rows a.rows lacks first.adding one) can;
                next = next_alike p a ok c more_formed from s args (changed_alike w s (e args) p a m.delete m.add is c.rows a.rows lacks first.adding one);
              }
          by (one_differs pair there same) =
              let rows : c.rows ≡ a.rows = ap (λ (x : Case). x.rows) same in
              record {
                can = kept_by p a ok c more_formed from s args (subst (λ rs. IsNoWorse s (map (fire w s (e args)) rs) (map (fire w s (e args)) a.rows)) (sym rows) (no_worse s (map (fire w s (e args)) a.rows))) can;
                next = next_alike p a ok c more_formed from s args (ap (λ rs. changed s (map (fire w s (e args)) rs)) (sym rows));
              }

  -- where the action can be taken, one of its variants can
  pub record Followed (s : State) (args : List Name) : Type 0 where
    pub case : Case
    pub listed : Member case (cases p a m)
    pub possible : is_false_formula (made (world p) a case).pre ≡ false
    pub can : CanTakeBy (world p) s (made (world p) a case) args

  module _ (s : State) (args : List Name) (able : CanTakeBy (world p) s a args) where
    not_undefined : (r : Row) → Member r a.rows → ObjectUndefined s (e args) r.effect → ⊥
    not_undefined r k h =
        able object_undefined (subst (OfEffect ObjectUndefined s) (sym (rows_fire w s (e args) a.rows ok.bare ok.always)) (at a.rows r k h))
      where
        at : (rows : List Row) (r : Row) → Member r rows → ObjectUndefined s (e args) r.effect → OfEffect ObjectUndefined s (map (fire w s (e args)) rows)
        at [] r k h = absurd k
        at (x ∷ rows) r (inl same) h = inl (subst (λ (y : Row). ObjectUndefined s (e args) y.effect) same h)
        at (x ∷ rows) r (inr k) h = inr (at rows r k h)

    deleted_defined : IsSome (values_of s (e args) is.ss)
    deleted_defined = none_or_some (values_of s (e args) is.ss) (λ h. not_undefined m.delete first.deleting (subst (ObjectUndefined s (e args)) (sym is.deletes) h))

    added_defined : IsSome (values_of s (e args) is.ts)
    added_defined = none_or_some (values_of s (e args) is.ts) (λ h. not_undefined m.add first.adding (subst (ObjectUndefined s (e args)) (sym is.adds) h))

    possible_if : (f : Formula) → True w s (e args) f → is_false_formula f ≡ false
    possible_if f h = by (is_false_formula f) refl
      where
        by : (b : Bool) → is_false_formula f ≡ b → b ≡ false
        by true k = absurd (never_true w s (e args) f k h)
        by false k = refl

    through : (c : Case) → Member c (cases p a m) → Every (True w s (e args)) c.more → IsNoWorse s (map (fire w s (e args)) a.rows) (map (fire w s (e args)) c.rows) → Followed s args
    through c listed more worse =
        record {
          case = c;
          listed = listed;
          possible = possible_if (made w a c).pre (holds p a ok c (more_formed c listed) (rows_from_action c (case_is p a m c listed)) s args able more);
          can = followed_by p a ok c (more_formed c listed) (rows_from_action c (case_is p a m c listed)) s args worse able more;
        }

    pub followed : Followed s args
    followed = by (all_or_one w s (e args) is.ss is.ts deleted_defined added_defined)
      where
        by : AreEqual w s (e args) (zip is.ss is.ts) ⊎ SomeDiffer w s (e args) (zip is.ss is.ts) → Followed s args
        by (inl all) =
            through (together p a m) (inl refl) (subst (AreEqual w s (e args)) (sym (pairs_are p a ok m is)) all)
            (less_no_worse w s (e args) p a m.delete m.add is (other_rows p a) a.rows first.others first.adding (one_value w s (e args) is.ss is.ts terms.same_length all))
        by (inr some) =
            through (differing a some.pair)
            (inr (member_map (λ (pair : Term × Term). let x : Case = record { more = Not (Equal pair.0 pair.1) ∷ []; rows = a.rows } in x) (argument_pairs m) some.pair
            (subst (Member some.pair) (sym (pairs_are p a ok m is)) some.member)))
            (subst (λ X. X) (sym (True-Not w s (e args) (Equal some.pair.0 some.pair.1))) some.differ, tt)
            (no_worse s (map (fire w s (e args)) a.rows))
