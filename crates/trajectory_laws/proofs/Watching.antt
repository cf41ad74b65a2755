-- What is added for an instance, in one state: its conditions say what the memory asks, and its rows leave the next memory.
use Rattle.std.proofs.Common.{◌≡◌, ◌↔◌, Bool, true, false, cond, not as flip, ◌&&◌, ◌||◌, List, [], ◌∷◌, ◌++◌, map, filter_map, flat_map, Option, Some, None, refl, ap, sym, ◌∙◌, subst, inl, inr}
use Rattle.std.specs.List.{list_any, cons_option}
use Rattle.std.specs.Ordering.{is_eq}
use Rattle.std.specs.Cmp.{tied_itself}
use Rattle.up_text.specs.declared.name.Name.{Name}
use Rattle.up_text.specs.Lists.{Every, Member, Differ}
use Rattle.up_tree.specs.declared.action.Effect.{Effect}
use Rattle.up_tree.specs.declared.action.Row.{Row}
use Rattle.up_tree.specs.declared.formula.Formula.{Formula, And, Or}
use Rattle.up_tree.specs.declared.truth.Truth.{Truth}
use Rattle.up_tree.specs.declared.truth.Truth.TheVariants as truth
use Rattle.up_tree.specs.Nodes.{not}
use Rattle.up_tree.specs.Objects.{World, Assignment}
use Rattle.up_tree.specs.State.{State, Ground, ground}
use Rattle.up_tree.specs.Truth.{True, IsUndefined}
use Rattle.up_tree.specs.Judged.{opposite, either, both, is_true, of_test, truth_of}
use Rattle.up_tree.specs.Instances.{Instance, Fired, fired}
use Rattle.up_tree.specs.Changes.{added, deleted, of_firing, is_at}
use Rattle.up_tree.proofs.States.{ground_total}
use Rattle.semantics_laws.specs.Symbols.{predicate}
use Rattle.semantics_laws.proofs.Framing.{none_there, added_apart, deleted_apart}
use Rattle.semantics_laws.proofs.Lists.{each_as, each_filter_map}
use Rattle.semantics_laws.proofs.Firing.{each_fired}
use Rattle.semantics_laws.proofs.Tables.{tied}
use Rattle.expansion_laws.proofs.Truths.{truth_of-And, truth_of-Or}
use Rattle.compiling_laws.proofs.Bare.{AreBare, plain}
use Rattle.compiling_laws.proofs.Lists.{member_left, member_right}
use Rattle.trajectory_laws.specs.Trajectory.{Watch, always, sometime, at_most_once, sometime_after, sometime_before, monitors, holds, adds, deletes, to_precondition, to_rows, to_goal, watched_formulas, watch_by}
use Rattle.trajectory_laws.specs.Memory.{is_set, remembered, goes_on, ends, advanced}
use Rattle.trajectory_laws.proofs.Told.{Sure, test_sure, opposite_sure, either_sure, both_sure, true_sure, false_sure, not_undefined}
use Rattle.trajectory_laws.proofs.Kept.{true-is}
use Rattle.trajectory_laws.proofs.Adding.{filter_map-append, any-append, Marks, Apart, target_apart}

-- ---- tests

and_is : (t u : Truth) → is_true (both t u) ≡ (is_true t && is_true u)
and_is truth.True u = refl
and_is truth.False u = refl
and_is truth.Undefined truth.True = refl
and_is truth.Undefined truth.False = refl
and_is truth.Undefined truth.Undefined = refl

or_is : (t u : Truth) → is_true (either t u) ≡ (is_true t || is_true u)
or_is truth.True u = refl
or_is truth.False u = refl
or_is truth.Undefined truth.True = refl
or_is truth.Undefined truth.False = refl
or_is truth.Undefined truth.Undefined = refl

not_is : (t : Truth) → Sure t → is_true (opposite t) ≡ flip (is_true t)
not_is truth.True h = refl
not_is truth.False h = refl
not_is truth.Undefined h = absurd (h refl)

and_only : (b : Bool) → (b && true) ≡ b
and_only true = refl
and_only false = refl

or_only : (b : Bool) → (b || false) ≡ b
or_only true = refl
or_only false = refl

and_never : (b : Bool) → (b && false) ≡ false
and_never true = refl
and_never false = refl

-- ---- conditions

module _ (w : World) (t : State) (e : Assignment) where
  -- the formula is true or false, and true exactly where the test says so
  pub record Tells (g : Formula) (b : Bool) : Type 0 where
    pub sure : Sure (truth_of w t e g)
    pub same : is_true (truth_of w t e g) ≡ b

  tells_holds : (m : Name) → Tells (holds m) (is_set t m)
  unfolding truth_of
  tells_holds m = record { sure = test_sure (is_set t m); same = by (is_set t m) }
    where
      by : (b : Bool) → is_true (of_test b) ≡ b
      by true = refl
      by false = refl

  tells_not : (g : Formula) (b : Bool) → Tells g b → Tells (not g) (flip b)
  unfolding truth_of
  tells_not g b h = record { sure = opposite_sure (truth_of w t e g) h.sure; same = not_is (truth_of w t e g) h.sure ∙ ap flip h.same }

  tells_and : (f g : Formula) (b c : Bool) → Tells f b → Tells g c → Tells (And (f ∷ g ∷ [])) (b && c)
  tells_and f g b c h k = record {
    sure = subst Sure (sym (truth_of-And w t e (f ∷ g ∷ []))) (both_sure (truth_of w t e f) (both (truth_of w t e g) truth.True) h.sure (both_sure (truth_of w t e g) truth.True k.sure true_sure));
    same = ap is_true (truth_of-And w t e (f ∷ g ∷ [])) ∙ and_is (truth_of w t e f) (both (truth_of w t e g) truth.True)
        ∙ (λ i. h.same i && (and_is (truth_of w t e g) truth.True ∙ and_only (is_true (truth_of w t e g)) ∙ k.same) i);
  }

  tells_or : (f g : Formula) (b c : Bool) → Tells f b → Tells g c → Tells (Or (f ∷ g ∷ [])) (b || c)
  tells_or f g b c h k = record {
    sure = subst Sure (sym (truth_of-Or w t e (f ∷ g ∷ []))) (either_sure (truth_of w t e f) (either (truth_of w t e g) truth.False) h.sure (either_sure (truth_of w t e g) truth.False k.sure false_sure));
    same = ap is_true (truth_of-Or w t e (f ∷ g ∷ [])) ∙ or_is (truth_of w t e f) (either (truth_of w t e g) truth.False)
        ∙ (λ i. h.same i || (or_is (truth_of w t e g) truth.False ∙ or_only (is_true (truth_of w t e g)) ∙ k.same) i);
  }

  true_told : (g : Formula) (b : Bool) → Tells g b → True w t e g ↔ (b ≡ true)
  true_told g b h = (λ k. sym h.same ∙ (true-is w t e g).1 k, λ k. (true-is w t e g).0 (h.same ∙ k))

  -- ---- of an instance whose formulas tell what `is` says of the old ones

  module _ (is : Formula → Bool) (change : Formula → Formula) where
    abbrev pub AreTold : Watch → Type 0
    AreTold x = Every (λ f. Tells (change f) (is f)) (watched_formulas x)

    one : (g : Formula) (b : Bool) → Tells g b → Every (True w t e) (g ∷ []) ↔ (b ≡ true)
    one g b h = (λ k. (true_told g b h).0 k.0, λ k. ((true_told g b h).1 k, tt))

    -- the further conditions are true exactly where a step may follow
    pub may_go_on : (x : Watch) → AreTold x → Every (True w t e) (to_precondition (watch_by change x)) ↔ (goes_on is x (remembered t x) ≡ true)
    may_go_on (always f) h = one (change f) (is f) h.0
    may_go_on (sometime f had) h = (λ k. refl, λ k. tt)
    may_go_on (at_most_once f seen gone) h =
        one (not (And (change f ∷ holds gone ∷ []))) (flip (is f && is_set t gone))
        (tells_not (And (change f ∷ holds gone ∷ [])) (is f && is_set t gone) (tells_and (change f) (holds gone) (is f) (is_set t gone) h.0 (tells_holds gone)))
    may_go_on (sometime_after f g due) h = (λ k. refl, λ k. tt)
    may_go_on (sometime_before f g was) h =
        one (Or (not (change f) ∷ holds was ∷ [])) (flip (is f) || is_set t was)
        (tells_or (not (change f)) (holds was) (flip (is f)) (is_set t was) (tells_not (change f) (is f) h.0) (tells_holds was))

    -- the goal's addition is true exactly where the run may end
    pub may_end : (x : Watch) → AreTold x → True w t e (to_goal (watch_by change x)) ↔ (ends is x (remembered t x) ≡ true)
    may_end (always f) h = true_told (change f) (is f) h.0
    may_end (sometime f had) h =
        true_told (Or (holds had ∷ change f ∷ [])) (is_set t had || is f) (tells_or (holds had) (change f) (is_set t had) (is f) (tells_holds had) h.0)
    may_end (at_most_once f seen gone) h =
        true_told (not (And (change f ∷ holds gone ∷ []))) (flip (is f && is_set t gone))
        (tells_not (And (change f ∷ holds gone ∷ [])) (is f && is_set t gone) (tells_and (change f) (holds gone) (is f) (is_set t gone) h.0 (tells_holds gone)))
    may_end (sometime_after f g due) h =
        true_told (Or (change g ∷ And (not (change f) ∷ not (holds due) ∷ []) ∷ [])) (is g || (flip (is f) && flip (is_set t due)))
        (tells_or (change g) (And (not (change f) ∷ not (holds due) ∷ [])) (is g) (flip (is f) && flip (is_set t due)) h.1.0
        (tells_and (not (change f)) (not (holds due)) (flip (is f)) (flip (is_set t due)) (tells_not (change f) (is f) h.0) (tells_not (holds due) (is_set t due) (tells_holds due))))
    may_end (sometime_before f g was) h =
        true_told (Or (not (change f) ∷ holds was ∷ [])) (flip (is f) || is_set t was)
        (tells_or (not (change f)) (holds was) (flip (is f)) (is_set t was) (tells_not (change f) (is f) h.0) (tells_holds was))

    certain : (g : Formula) (b : Bool) → Tells g b → ¬ IsUndefined w t e g
    certain g b h = not_undefined w t e g h.sure

    was_not : (f : Formula) (seen : Name) → Tells (change f) (is f) → Tells (And (holds seen ∷ not (change f) ∷ [])) (is_set t seen && flip (is f))
    was_not f seen h = tells_and (holds seen) (not (change f)) (is_set t seen) (flip (is f)) (tells_holds seen) (tells_not (change f) (is f) h)

    without : (f g : Formula) → Tells (change f) (is f) → Tells (change g) (is g) → Tells (And (change f ∷ not (change g) ∷ [])) (is f && flip (is g))
    without f g h k = tells_and (change f) (not (change g)) (is f) (flip (is g)) h (tells_not (change g) (is g) k)

    pub rows_sure : (x : Watch) → AreTold x → Every (λ r. ¬ IsUndefined w t e r.when) (to_rows (watch_by change x))
    rows_sure (always f) h = tt
    rows_sure (sometime f had) h = (certain (change f) (is f) h.0, tt)
    rows_sure (at_most_once f seen gone) h =
        (certain (change f) (is f) h.0, (certain (And (holds seen ∷ not (change f) ∷ [])) (is_set t seen && flip (is f)) (was_not f seen h.0), tt))
    rows_sure (sometime_after f g due) h =
        (certain (change g) (is g) h.1.0, (certain (And (change f ∷ not (change g) ∷ [])) (is f && flip (is g)) (without f g h.0 h.1.0), tt))
    rows_sure (sometime_before f g was) h = (certain (change g) (is g) h.1.0, tt)

  -- ---- rows

  module _ (q : Ground) where
    -- whether the effects of these rows that fire make the atom
    abbrev pub Made : Type 0
    Made = State → Assignment → Effect → Option Ground

    abbrev pub hit : Made → List Row → Bool
    hit what rows = list_any (is_at q) (of_firing what t (filter_map (fired w t) (map (plain w t e) rows)))

    map_append : (xs ys : List Row) → map (plain w t e) (xs ++ ys) ≡ map (plain w t e) xs ++ map (plain w t e) ys
    map_append [] ys = refl
    map_append (x ∷ xs) ys = ap (λ l. plain w t e x ∷ l) (map_append xs ys)

    pub hit-append : (what : Made) (xs ys : List Row) → hit what (xs ++ ys) ≡ (hit what xs || hit what ys)
    hit-append what xs ys =
        ap (λ is. list_any (is_at q) (of_firing what t (filter_map (fired w t) is))) (map_append xs ys)
        ∙ ap (λ fs. list_any (is_at q) (of_firing what t fs)) (filter_map-append (fired w t) (map (plain w t e) xs) (map (plain w t e) ys))
        ∙ ap (list_any (is_at q)) (filter_map-append (λ (f : Fired). what t f.assignment f.effect) (filter_map (fired w t) (map (plain w t e) xs)) (filter_map (fired w t) (map (plain w t e) ys)))
        ∙ any-append (is_at q) (of_firing what t (filter_map (fired w t) (map (plain w t e) xs))) (of_firing what t (filter_map (fired w t) (map (plain w t e) ys)))

    -- one row that adds an atom without arguments, and one that deletes it
    fires_as : (b : Bool) (row : Row) (rows : List Fired) (what : Made) →
        list_any (is_at q) (of_firing what t (cons_option (cond b (Some (let f : Fired = record { assignment = e; effect = row.effect } in f)) None) rows))
        ≡ cond b (list_any (is_at q) (of_firing what t ((let f : Fired = record { assignment = e; effect = row.effect } in f) ∷ rows))) (list_any (is_at q) (of_firing what t rows))
    fires_as true row rows what = refl
    fires_as false row rows what = refl

    chosen_or : (b at more : Bool) → cond b (at || more) more ≡ ((b && at) || more)
    chosen_or true at more = refl
    chosen_or false at more = refl

    either_way : {X : Type 0} (b : Bool) (x : X) → cond b x x ≡ x
    either_way true x = refl
    either_way false x = refl

    hit_adds : (g : Formula) (m : Name) (rows : List Row) → hit added (adds g m ∷ rows) ≡ ((is_true (truth_of w t e g) && is_at q (ground m [])) || hit added rows)
    hit_adds g m rows =
        fires_as (is_true (truth_of w t e g)) (adds g m) (filter_map (fired w t) (map (plain w t e) rows)) added
        ∙ chosen_or (is_true (truth_of w t e g)) (is_at q (ground m [])) (hit added rows)

    hit_adds_deleted : (g : Formula) (m : Name) (rows : List Row) → hit deleted (adds g m ∷ rows) ≡ hit deleted rows
    hit_adds_deleted g m rows =
        fires_as (is_true (truth_of w t e g)) (adds g m) (filter_map (fired w t) (map (plain w t e) rows)) deleted ∙ either_way (is_true (truth_of w t e g)) (hit deleted rows)

    hit_deletes : (g : Formula) (m : Name) (rows : List Row) → hit deleted (deletes g m ∷ rows) ≡ ((is_true (truth_of w t e g) && is_at q (ground m [])) || hit deleted rows)
    hit_deletes g m rows =
        fires_as (is_true (truth_of w t e g)) (deletes g m) (filter_map (fired w t) (map (plain w t e) rows)) deleted
        ∙ chosen_or (is_true (truth_of w t e g)) (is_at q (ground m [])) (hit deleted rows)

    hit_deletes_added : (g : Formula) (m : Name) (rows : List Row) → hit added (deletes g m ∷ rows) ≡ hit added rows
    hit_deletes_added g m rows =
        fires_as (is_true (truth_of w t e g)) (deletes g m) (filter_map (fired w t) (map (plain w t e) rows)) added ∙ either_way (is_true (truth_of w t e g)) (hit added rows)

-- ---- atoms of monitors

at_itself : (m : Name) → is_at (ground m []) (ground m []) ≡ true
at_itself m = ap is_eq (tied_itself ground_total (ground m []))

one_name : (m n : Name) → ground m [] ≡ ground n [] → m ≡ n
one_name m n e = cc

at_other : (m n : Name) → (m ≡ n → ⊥) → is_at (ground m []) (ground n []) ≡ false
at_other m n apart = by (is_at (ground m []) (ground n [])) refl
  where
    by : (b : Bool) → is_at (ground m []) (ground n []) ≡ b → b ≡ false
    by true is = absurd (apart (one_name m n (tied (ground m []) (ground n []) is)))
    by false is = refl

pub one_predicate : (m n : Name) → predicate m ≡ predicate n → m ≡ n
one_predicate m n e = cc

pub none_apart : (ms : List Name) (m : Name) → ¬ Member m ms → Apart ms (predicate m)
none_apart ms m out n at e = out (subst (λ x. Member x ms) (sym (one_predicate m n e)) at)

-- ---- the rows of instances mark their monitors alone

pub rows_bare : (x : Watch) → AreBare (to_rows x)
rows_bare (always f) = tt
rows_bare (sometime f had) = (refl, tt)
rows_bare (at_most_once f seen gone) = (refl, (refl, tt))
rows_bare (sometime_after f g due) = (refl, (refl, tt))
rows_bare (sometime_before f g was) = (refl, tt)

pub rows_mark : (x : Watch) → Every (λ r. Marks (monitors x) r.effect) (to_rows x)
rows_mark (always f) = tt
rows_mark (sometime f had) = (inl refl, tt)
rows_mark (at_most_once f seen gone) = (inl refl, (inr (inl refl), tt))
rows_mark (sometime_after f g due) = (inl refl, (inl refl, tt))
rows_mark (sometime_before f g was) = (inl refl, tt)

pub same_monitors : (change : Formula → Formula) (x : Watch) → monitors (watch_by change x) ≡ monitors x
same_monitors change (always f) = refl
same_monitors change (sometime f had) = refl
same_monitors change (at_most_once f seen gone) = refl
same_monitors change (sometime_after f g due) = refl
same_monitors change (sometime_before f g was) = refl

module _ (w : World) (t : State) (e : Assignment) (m : Name) where
  plain_marks : (ms : List Name) (rows : List Row) → Every (λ r. Marks ms r.effect) rows → Every (λ (i : Instance). Marks ms i.row.effect) (map (plain w t e) rows)
  plain_marks ms [] h = tt
  plain_marks ms (r ∷ rows) h = (h.0, plain_marks ms rows h.1)

  fired_marks : (ms : List Name) (rows : List Row) → Every (λ r. Marks ms r.effect) rows → Every (λ f. Marks ms f.effect) (filter_map (fired w t) (map (plain w t e) rows))
  fired_marks ms rows h = each_fired (Marks ms) w t (map (plain w t e) rows) (plain_marks ms rows h)

  not_added : (ms : List Name) (rows : List Row) → Every (λ r. Marks ms r.effect) rows → ¬ Member m ms → hit w t e (ground m []) added rows ≡ false
  not_added ms rows marks out =
      none_there (λ a. a) (ground m []) (of_firing added t (filter_map (fired w t) (map (plain w t e) rows)))
      (each_filter_map (λ a. ¬ (ground m [] ≡ a)) (λ (f : Fired). added t f.assignment f.effect) (filter_map (fired w t) (map (plain w t e) rows))
      (each_as (λ (f : Fired). Marks ms f.effect) _ (λ f mark. added_apart t m [] f.assignment f.effect (target_apart ms t (predicate m) (none_apart ms m out) f.effect mark))
      (filter_map (fired w t) (map (plain w t e) rows)) (fired_marks ms rows marks)))

  not_deleted : (ms : List Name) (rows : List Row) → Every (λ r. Marks ms r.effect) rows → ¬ Member m ms → hit w t e (ground m []) deleted rows ≡ false
  not_deleted ms rows marks out =
      none_there (λ a. a) (ground m []) (of_firing deleted t (filter_map (fired w t) (map (plain w t e) rows)))
      (each_filter_map (λ a. ¬ (ground m [] ≡ a)) (λ (f : Fired). deleted t f.assignment f.effect) (filter_map (fired w t) (map (plain w t e) rows))
      (each_as (λ (f : Fired). Marks ms f.effect) _ (λ f mark. deleted_apart t m [] f.assignment f.effect (target_apart ms t (predicate m) (none_apart ms m out) f.effect mark))
      (filter_map (fired w t) (map (plain w t e) rows)) (fired_marks ms rows marks)))

  -- of all instances' rows only those of the monitor's own make it
  module _ (change : Formula → Formula) where
    abbrev rows_of : List Watch → List Row
    rows_of xs = flat_map to_rows (map (watch_by change) xs)

    abbrev Silent : (State → Assignment → Effect → Option Ground) → Type 0
    Silent what = (ms : List Name) (rows : List Row) → Every (λ r. Marks ms r.effect) rows → ¬ Member m ms → hit w t e (ground m []) what rows ≡ false

    none_of_all : (what : State → Assignment → Effect → Option Ground) → Silent what → (xs : List Watch) → ¬ Member m (flat_map monitors xs) → hit w t e (ground m []) what (rows_of xs) ≡ false
    none_of_all what silent [] out = refl
    none_of_all what silent (x ∷ xs) out =
        hit-append w t e (ground m []) what (to_rows (watch_by change x)) (rows_of xs)
        ∙ (λ i. silent (monitors (watch_by change x)) (to_rows (watch_by change x)) (rows_mark (watch_by change x))
        (λ k. out (member_left m (monitors x) (flat_map monitors xs) (subst (Member m) (same_monitors change x) k))) i
        || none_of_all what silent xs (λ k. out (member_right m (monitors x) (flat_map monitors xs) k)) i)

    apart_from : (ms ns : List Name) → Differ (ms ++ ns) → Member m ms → ¬ Member m ns
    apart_from [] ns differ k at = absurd k
    apart_from (n ∷ ms) ns differ (inl same) at = differ.0 (member_right n ms ns (subst (λ x. Member x ns) same at))
    apart_from (n ∷ ms) ns differ (inr k) at = apart_from ms ns differ.1 k at

    later_differ : (ms ns : List Name) → Differ (ms ++ ns) → Differ ns
    later_differ [] ns differ = differ
    later_differ (n ∷ ms) ns differ = later_differ ms ns differ.1

    of_watch : (x : Watch) (xs : List Watch) → Member x xs → Member m (monitors x) → Member m (flat_map monitors xs)
    of_watch x [] at k = absurd at
    of_watch x (y ∷ xs) (inl same) k = member_left m (monitors y) (flat_map monitors xs) (subst (λ z. Member m (monitors z)) same k)
    of_watch x (y ∷ xs) (inr at) k = member_right m (monitors y) (flat_map monitors xs) (of_watch x xs at k)

    own_alone : (what : State → Assignment → Effect → Option Ground) → Silent what → (xs : List Watch) → Differ (flat_map monitors xs) → (x : Watch) → Member x xs → Member m (monitors x) →
        hit w t e (ground m []) what (rows_of xs) ≡ hit w t e (ground m []) what (to_rows (watch_by change x))
    own_alone what silent [] differ x at k = absurd at
    own_alone what silent (y ∷ xs) differ x (inl same) k =
        hit-append w t e (ground m []) what (to_rows (watch_by change y)) (rows_of xs)
        ∙ (λ i. hit w t e (ground m []) what (to_rows (watch_by change (sym same i)))
        || none_of_all what silent xs (apart_from (monitors y) (flat_map monitors xs) differ (subst (λ z. Member m (monitors z)) same k)) i)
        ∙ or_only (hit w t e (ground m []) what (to_rows (watch_by change x)))
    own_alone what silent (y ∷ xs) differ x (inr at) k =
        hit-append w t e (ground m []) what (to_rows (watch_by change y)) (rows_of xs)
        ∙ (λ i. silent (monitors (watch_by change y)) (to_rows (watch_by change y)) (rows_mark (watch_by change y))
        (λ h. apart_from (monitors y) (flat_map monitors xs) differ (subst (Member m) (same_monitors change y) h) (of_watch x xs at k)) i
        || own_alone what silent xs (later_differ (monitors y) (flat_map monitors xs) differ) x at k i)

    pub own_added : (xs : List Watch) → Differ (flat_map monitors xs) → (x : Watch) → Member x xs → Member m (monitors x) →
        hit w t e (ground m []) added (rows_of xs) ≡ hit w t e (ground m []) added (to_rows (watch_by change x))
    own_added xs differ x at k = own_alone added not_added xs differ x at k

    pub own_deleted : (xs : List Watch) → Differ (flat_map monitors xs) → (x : Watch) → Member x xs → Member m (monitors x) →
        hit w t e (ground m []) deleted (rows_of xs) ≡ hit w t e (ground m []) deleted (to_rows (watch_by change x))
    own_deleted xs differ x at k = own_alone deleted not_deleted xs differ x at k

-- ---- the next memory of one instance

module _ (w : World) (t : State) (e : Assignment) (is : Formula → Bool) (change : Formula → Formula) where
  -- what a monitor is after the rows of its instance
  abbrev pub after_rows : Name → List Row → Bool
  after_rows m rows = (is_set t m && flip (hit w t e (ground m []) deleted rows)) || hit w t e (ground m []) added rows

  unhit : (old b : Bool) → ((old && true) || b) ≡ (old || b)
  unhit true b = refl
  unhit false b = refl

  only_adds : (m : Name) (g : Formula) (b : Bool) → Tells w t e g b → after_rows m (adds g m ∷ []) ≡ (is_set t m || b)
  only_adds m g b h =
      (λ i. (is_set t m && flip (hit_adds_deleted w t e (ground m []) g m [] i)) || hit_adds w t e (ground m []) g m [] i)
      ∙ (λ i. (is_set t m && true) || ((h.same i && at_itself m i) || false))
      ∙ (λ i. (is_set t m && true) || (ap (λ c. c || false) (and_only b) ∙ or_only b) i)
      ∙ unhit (is_set t m) b

  -- the first of two rows that add different monitors
  first_adds : (m n : Name) (g h : Formula) (b : Bool) → (m ≡ n → ⊥) → Tells w t e g b → after_rows m (adds g m ∷ adds h n ∷ []) ≡ (is_set t m || b)
  first_adds m n g h b apart tells =
      (λ i. (is_set t m && flip ((hit_adds_deleted w t e (ground m []) g m (adds h n ∷ []) ∙ hit_adds_deleted w t e (ground m []) h n []) i))
      || (hit_adds w t e (ground m []) g m (adds h n ∷ []) ∙ ap (λ c. (is_true (truth_of w t e g) && is_at (ground m []) (ground m [])) || c) (hit_adds w t e (ground m []) h n [])) i)
      ∙ (λ i. (is_set t m && true) || ((tells.same i && at_itself m i) || ((is_true (truth_of w t e h) && at_other m n apart i) || false)))
      ∙ (λ i. (is_set t m && true) || (and_only b i || (and_never (is_true (truth_of w t e h)) i || false)))
      ∙ (λ i. (is_set t m && true) || or_only b i)
      ∙ unhit (is_set t m) b

  second_adds : (m n : Name) (g h : Formula) (b : Bool) → (m ≡ n → ⊥) → Tells w t e g b → after_rows m (adds h n ∷ adds g m ∷ []) ≡ (is_set t m || b)
  second_adds m n g h b apart tells =
      (λ i. (is_set t m && flip ((hit_adds_deleted w t e (ground m []) h n (adds g m ∷ []) ∙ hit_adds_deleted w t e (ground m []) g m []) i))
      || (hit_adds w t e (ground m []) h n (adds g m ∷ []) ∙ ap (λ c. (is_true (truth_of w t e h) && is_at (ground m []) (ground n [])) || c) (hit_adds w t e (ground m []) g m [])) i)
      ∙ (λ i. (is_set t m && true) || ((is_true (truth_of w t e h) && at_other m n apart i) || ((tells.same i && at_itself m i) || false)))
      ∙ (λ i. (is_set t m && true) || (and_never (is_true (truth_of w t e h)) i || (and_only b i || false)))
      ∙ (λ i. (is_set t m && true) || or_only b i)
      ∙ unhit (is_set t m) b

  -- a row that deletes it and one that adds it
  deletes_adds : (m : Name) (g h : Formula) (b c : Bool) → Tells w t e g b → Tells w t e h c → after_rows m (deletes g m ∷ adds h m ∷ []) ≡ ((is_set t m && flip b) || c)
  deletes_adds m g h b c first second =
      (λ i. (is_set t m && flip ((hit_deletes w t e (ground m []) g m (adds h m ∷ []) ∙ ap (λ d. (is_true (truth_of w t e g) && is_at (ground m []) (ground m [])) || d) (hit_adds_deleted w t e (ground m []) h m [])) i))
      || (hit_deletes_added w t e (ground m []) g m (adds h m ∷ []) ∙ hit_adds w t e (ground m []) h m []) i)
      ∙ (λ i. (is_set t m && flip ((first.same i && at_itself m i) || false)) || ((second.same i && at_itself m i) || false))
      ∙ (λ i. (is_set t m && flip (and_only b i || false)) || (and_only c i || false))
      ∙ (λ i. (is_set t m && flip (or_only b i)) || or_only c i)

  -- a state whose monitors are those after the rows has the next memory
  pub memory_after : (u : State) (x : Watch) → AreTold w t e is change x → Differ (monitors x) → ((m : Name) → Member m (monitors x) → is_set u m ≡ after_rows m (to_rows (watch_by change x))) →
      remembered u x ≡ advanced is x (remembered t x)
  memory_after u (always f) told differ each = refl
  memory_after u (sometime f had) told differ each =
      λ i. record { first = (each had (inl refl) ∙ only_adds had (change f) (is f) told.0) i; second = false }
  memory_after u (at_most_once f seen gone) told differ each = λ i. record {
    first = (each seen (inl refl) ∙ first_adds seen gone (change f) (And (holds seen ∷ not (change f) ∷ [])) (is f) (λ same. differ.0 (inl same)) told.0) i;
    second = (each gone (inr (inl refl)) ∙ second_adds gone seen (And (holds seen ∷ not (change f) ∷ [])) (change f) (is_set t seen && flip (is f)) (λ same. differ.0 (inl (sym same)))
        (was_not w t e is change f seen told.0)) i;
  }
  memory_after u (sometime_after f g due) told differ each = λ i. record {
    first = (each due (inl refl) ∙ deletes_adds due (change g) (And (change f ∷ not (change g) ∷ [])) (is g) (is f && flip (is g)) told.1.0 (without w t e is change f g told.0 told.1.0)) i;
    second = false;
  }
  memory_after u (sometime_before f g was) told differ each =
      λ i. record { first = (each was (inl refl) ∙ only_adds was (change g) (is g) told.1.0) i; second = false }
