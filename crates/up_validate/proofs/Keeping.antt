-- The phase of a rule after a run says whether the run keeps it.
use Rattle.std.proofs.Common.{◌≡◌, ◌⊎◌, ℕ, zero, suc, ◌<◌, ◌≤◌, Bool, true, false, List, [], ◌∷◌, IsSomeAnd, refl, ap, sym, ◌∙◌, subst, inl, inr, arith}
use Rattle.std.specs.Prelude.{slice_get}
use Rattle.up_text.specs.Lists.{Every, Somewhere}
use Rattle.up_tree.specs.declared.formula.Formula.{Formula}
use Rattle.up_tree.specs.declared.truth.Truth.{Truth}
use Rattle.up_tree.specs.declared.truth.Truth.TheVariants as truth
use Rattle.up_tree.specs.declared.problem.Rule.{Rule}
use Rattle.up_tree.specs.declared.problem.Rule.TheVariants as rule
use Rattle.up_tree.specs.declared.problem.Parts.{Parts}
use Rattle.up_tree.specs.Objects.{World, world, Assignment}
use Rattle.up_tree.specs.State.{State}
use Rattle.up_tree.specs.Truth.{True}
use Rattle.up_tree.specs.Judged.{Judges, truth_of, is_true}
use Rattle.up_tree.specs.Plans.{KeepsRule}
use Rattle.up_tree.proofs.Apart.{apart}
use Rattle.up_tree.proofs.Judging.{judged}
use Rattle.up_validate.specs.declared.phase.Phase.{Phase}
use Rattle.up_validate.specs.declared.phase.Phase.TheVariants.{Fine, Waiting, Holding, Over, Broken}
use Rattle.up_validate.specs.Watching.{always_next, sometime_next, once_next, after_next, before_next, goes, is_kept, holds_in, phase_after, start, next}

-- the test says whether it holds
abbrev pub Settles : Bool → Type 0 → Type 0
Settles true X = X
Settles false X = ¬ X

pub settles_as : (b : Bool) (X Y : Type 0) → (X → Y) → (Y → X) → Settles b X → Settles b Y
settles_as true X Y to from x = to x
settles_as false X Y to from denied = λ y. denied (from y)

pub settles_both : (b : Bool) (X Y : Type 0) → X → Settles b Y → Settles b (X × Y)
settles_both true X Y x y = (x, y)
settles_both false X Y x denied = λ both. denied both.1

either_no : (X Y : Type 0) → ¬ X → ¬ Y → X ⊎ Y → ⊥
either_no X Y not_x not_y (inl x) = not_x x
either_no X Y not_x not_y (inr y) = not_y y

settles_either : (b : Bool) (X Y : Type 0) → ¬ X → Settles b Y → Settles b (X ⊎ Y)
settles_either true X Y denied y = inr y
settles_either false X Y denied not_y = either_no X Y denied not_y

-- what a list of states has at a place
abbrev At : (State → Type 0) → List State → ℕ → Type 0
At P states i = IsSomeAnd (slice_get states i) P

module _ (P Q : State → Type 0) (h g : State → Bool) (first : (s : State) → Settles (h s) (P s)) (second : (s : State) → Settles (g s) (Q s)) where
  -- ---- always

  abbrev always_on : Phase → State → Phase
  always_on ph s = always_next ph (h s)

  always_broken : (states : List State) → goes always_on Broken states ≡ Broken
  always_broken [] = refl
  always_broken (s ∷ states) = always_broken states

  always_fine : (states : List State) → Settles (is_kept (goes always_on Fine states)) (Every P states)
  always_fine [] = tt
  always_fine (s ∷ states) = by (h s) (first s) (always_fine states)
    where
      by : (b : Bool) → Settles b (P s) → Settles (is_kept (goes always_on Fine states)) (Every P states)
          → Settles (is_kept (goes always_on (always_next Fine b) states)) (P s × Every P states)
      by true x more = settles_both (is_kept (goes always_on Fine states)) (P s) (Every P states) x more
      by false denied more = subst (λ (ph : Phase). Settles (is_kept ph) (P s × Every P states)) (sym (always_broken states)) (λ all. denied all.0)

  -- ---- sometime

  abbrev sometime_on : Phase → State → Phase
  sometime_on ph s = sometime_next ph (h s)

  sometime_fine : (states : List State) → goes sometime_on Fine states ≡ Fine
  sometime_fine [] = refl
  sometime_fine (s ∷ states) = by (h s) (sometime_fine states)
    where
      by : (b : Bool) → goes sometime_on Fine states ≡ Fine → goes sometime_on (sometime_next Fine b) states ≡ Fine
      by true more = more
      by false more = more

  sometime_waiting : (states : List State) → Settles (is_kept (goes sometime_on Waiting states)) (Somewhere P states)
  sometime_waiting [] = λ x. x
  sometime_waiting (s ∷ states) = by (h s) (first s) (sometime_waiting states)
    where
      by : (b : Bool) → Settles b (P s) → Settles (is_kept (goes sometime_on Waiting states)) (Somewhere P states)
          → Settles (is_kept (goes sometime_on (sometime_next Waiting b) states)) (P s ⊎ Somewhere P states)
      by true x more = subst (λ (ph : Phase). Settles (is_kept ph) (P s ⊎ Somewhere P states)) (sym (sometime_fine states)) (inl x)
      by false denied more = settles_either (is_kept (goes sometime_on Waiting states)) (P s) (Somewhere P states) denied more

  -- ---- at most once

  abbrev once_on : Phase → State → Phase
  once_on ph s = once_next ph (h s)

  abbrev NotAt : List State → ℕ → Type 0
  NotAt states j = IsSomeAnd (slice_get states j) (λ s. ¬ P s)

  abbrev Never : List State → Type 0
  Never states = (k : ℕ) → ¬ At P states k

  abbrev OnceMore : List State → Type 0
  OnceMore states = (j k : ℕ) → j < k → NotAt states j → ¬ At P states k

  abbrev Once : List State → Type 0
  Once states = (i j k : ℕ) → i < j → j < k → At P states i → NotAt states j → ¬ At P states k

  once_broken : (states : List State) → goes once_on Broken states ≡ Broken
  once_broken [] = refl
  once_broken (s ∷ states) = by (h s) (once_broken states)
    where
      by : (b : Bool) → goes once_on Broken states ≡ Broken → goes once_on (once_next Broken b) states ≡ Broken
      by true more = more
      by false more = more

  never_more : (s : State) (states : List State) → ¬ P s → Never states → Never (s ∷ states)
  never_more s states denied none zero x = denied x
  never_more s states denied none (suc k) x = none k x

  once_over : (states : List State) → Settles (is_kept (goes once_on Over states)) (Never states)
  once_over [] = λ k x. x
  once_over (s ∷ states) = by (h s) (first s) (once_over states)
    where
      by : (b : Bool) → Settles b (P s) → Settles (is_kept (goes once_on Over states)) (Never states)
          → Settles (is_kept (goes once_on (once_next Over b) states)) (Never (s ∷ states))
      by true x more = subst (λ (ph : Phase). Settles (is_kept ph) (Never (s ∷ states))) (sym (once_broken states)) (λ none. none 0 x)
      by false denied more =
          settles_as (is_kept (goes once_on Over states)) (Never states) (Never (s ∷ states)) (never_more s states denied) (λ none k. none (suc k)) more

  still_once_more : (s : State) (states : List State) → P s → OnceMore states → OnceMore (s ∷ states)
  still_once_more s states x more zero k before denied = absurd (denied x)
  still_once_more s states x more (suc j) zero before denied = absurd (omega (arith, before))
  still_once_more s states x more (suc j) (suc k) before denied = more j k (omega (arith, before)) denied

  over_once_more : (s : State) (states : List State) → Never states → OnceMore (s ∷ states)
  over_once_more s states none j zero before denied = absurd (omega (arith, before))
  over_once_more s states none j (suc k) before denied = none k

  once_holding : (states : List State) → Settles (is_kept (goes once_on Holding states)) (OnceMore states)
  once_holding [] = λ j k before denied. absurd denied
  once_holding (s ∷ states) = by (h s) (first s) (once_holding states) (once_over states)
    where
      by : (b : Bool) → Settles b (P s) → Settles (is_kept (goes once_on Holding states)) (OnceMore states)
          → Settles (is_kept (goes once_on Over states)) (Never states)
          → Settles (is_kept (goes once_on (once_next Holding b) states)) (OnceMore (s ∷ states))
      by true x more over =
          settles_as (is_kept (goes once_on Holding states)) (OnceMore states) (OnceMore (s ∷ states)) (still_once_more s states x)
          (λ all j k before. all (suc j) (suc k) (omega (arith, before))) more
      by false denied more over =
          settles_as (is_kept (goes once_on Over states)) (Never states) (OnceMore (s ∷ states)) (over_once_more s states)
          (λ all k. all 0 (suc k) (omega arith) denied) over

  begun_once : (s : State) (states : List State) → OnceMore states → Once (s ∷ states)
  begun_once s states more i zero k first before x denied = absurd (omega (arith, first))
  begun_once s states more i (suc j) zero first before x denied = absurd (omega (arith, before))
  begun_once s states more i (suc j) (suc k) first before x denied = more j k (omega (arith, before)) denied

  still_once : (s : State) (states : List State) → ¬ P s → Once states → Once (s ∷ states)
  still_once s states none more zero j k first before x denied = absurd (none x)
  still_once s states none more (suc i) zero k first before x denied = absurd (omega (arith, first))
  still_once s states none more (suc i) (suc j) zero first before x denied = absurd (omega (arith, before))
  still_once s states none more (suc i) (suc j) (suc k) first before x denied = more i j k (omega (arith, first)) (omega (arith, before)) x denied

  once_fine : (states : List State) → Settles (is_kept (goes once_on Fine states)) (Once states)
  once_fine [] = λ i j k first before x. absurd x
  once_fine (s ∷ states) = by (h s) (first s) (once_fine states) (once_holding states)
    where
      by : (b : Bool) → Settles b (P s) → Settles (is_kept (goes once_on Fine states)) (Once states)
          → Settles (is_kept (goes once_on Holding states)) (OnceMore states)
          → Settles (is_kept (goes once_on (once_next Fine b) states)) (Once (s ∷ states))
      by true x more holding =
          settles_as (is_kept (goes once_on Holding states)) (OnceMore states) (Once (s ∷ states)) (begun_once s states)
          (λ all j k before. all 0 (suc j) (suc k) (omega arith) (omega (arith, before)) x) holding
      by false denied more holding =
          settles_as (is_kept (goes once_on Fine states)) (Once states) (Once (s ∷ states)) (still_once s states denied)
          (λ all i j k first before. all (suc i) (suc j) (suc k) (omega (arith, first)) (omega (arith, before))) more

  -- ---- sometime after

  abbrev after_on : Phase → State → Phase
  after_on ph s = after_next ph (h s) (g s)

  abbrev Comes : List State → Type 0
  Comes states = (j : ℕ) × At Q states j

  abbrev Follows : List State → Type 0
  Follows states = (i : ℕ) → At P states i → (j : ℕ) × (i ≤ j) × At Q states j

  follows_less : (s : State) (states : List State) → Follows (s ∷ states) → Follows states
  follows_less s states all i x = by (all (suc i) x)
    where
      by : (j : ℕ) × (suc i ≤ j) × At Q (s ∷ states) j → (j : ℕ) × (i ≤ j) × At Q states j
      by (zero, behind, y) = absurd (omega (arith, behind))
      by (suc j, behind, y) = (j, omega (arith, behind), y)

  later_at : (s : State) (states : List State) (i : ℕ) → (j : ℕ) × (i ≤ j) × At Q states j → (j : ℕ) × (suc i ≤ j) × At Q (s ∷ states) j
  later_at s states i it = (suc it.0, omega (arith, it.1), it.2)

  follows_now : (s : State) (states : List State) → Q s → Follows states → Follows (s ∷ states)
  follows_now s states y more zero x = (0, omega arith, y)
  follows_now s states y more (suc i) x = later_at s states i (more i x)

  follows_later : (s : State) (states : List State) → Comes states → Follows states → Follows (s ∷ states)
  follows_later s states comes more zero x = (suc comes.0, omega arith, comes.1)
  follows_later s states comes more (suc i) x = later_at s states i (more i x)

  follows_none : (s : State) (states : List State) → ¬ P s → Follows states → Follows (s ∷ states)
  follows_none s states denied more zero x = absurd (denied x)
  follows_none s states denied more (suc i) x = later_at s states i (more i x)

  comes_behind : (s : State) (states : List State) → ¬ Q s → Comes (s ∷ states) → Comes states
  comes_behind s states denied (zero, y) = absurd (denied y)
  comes_behind s states denied (suc j, y) = (j, y)

  comes_next : (s : State) (states : List State) → P s → ¬ Q s → Follows (s ∷ states) → Comes states
  comes_next s states x denied all = by (all 0 x)
    where
      by : (j : ℕ) × (0 ≤ j) × At Q (s ∷ states) j → Comes states
      by (zero, behind, y) = absurd (denied y)
      by (suc j, behind, y) = (j, y)

  pub record Both (states : List State) : Type 0 where
    fine : Settles (is_kept (goes after_on Fine states)) (Follows states)
    waiting : Settles (is_kept (goes after_on Waiting states)) (Comes states × Follows states)

  after_both : (states : List State) → Both states
  after_both [] = record { fine = λ i x. absurd x; waiting = λ both. both.0.1 }
  after_both (s ∷ states) = record { fine = by_fine (h s) (g s) (first s) (second s) (after_both states); waiting = by_waiting (h s) (g s) (first s) (second s) (after_both states) }
    where
      by_fine : (a b : Bool) → Settles a (P s) → Settles b (Q s) → Both states → Settles (is_kept (goes after_on (after_next Fine a b) states)) (Follows (s ∷ states))
      by_fine a true x y both =
          settles_as (is_kept (goes after_on Fine states)) (Follows states) (Follows (s ∷ states)) (follows_now s states y) (follows_less s states) both.fine
      by_fine true false x denied both =
          settles_as (is_kept (goes after_on Waiting states)) (Comes states × Follows states) (Follows (s ∷ states))
          (λ two. follows_later s states two.0 two.1) (λ all. (comes_next s states x denied all, follows_less s states all)) both.waiting
      by_fine false false none denied both =
          settles_as (is_kept (goes after_on Fine states)) (Follows states) (Follows (s ∷ states)) (follows_none s states none) (follows_less s states) both.fine

      by_waiting : (a b : Bool) → Settles a (P s) → Settles b (Q s) → Both states
          → Settles (is_kept (goes after_on (after_next Waiting a b) states)) (Comes (s ∷ states) × Follows (s ∷ states))
      by_waiting a true x y both =
          settles_as (is_kept (goes after_on Fine states)) (Follows states) (Comes (s ∷ states) × Follows (s ∷ states))
          (λ more. ((0, y), follows_now s states y more)) (λ two. follows_less s states two.1) both.fine
      by_waiting true false x denied both =
          settles_as (is_kept (goes after_on Waiting states)) (Comes states × Follows states) (Comes (s ∷ states) × Follows (s ∷ states))
          (λ two. ((suc two.0.0, two.0.1), follows_later s states two.0 two.1)) (λ two. (comes_behind s states denied two.0, follows_less s states two.1)) both.waiting
      by_waiting false false none denied both =
          settles_as (is_kept (goes after_on Waiting states)) (Comes states × Follows states) (Comes (s ∷ states) × Follows (s ∷ states))
          (λ two. ((suc two.0.0, two.0.1), follows_later s states two.0 two.1)) (λ two. (comes_behind s states denied two.0, follows_less s states two.1)) both.waiting

  -- ---- sometime before

  abbrev before_on : Phase → State → Phase
  before_on ph s = before_next ph (h s) (g s)

  abbrev Precedes : List State → Type 0
  Precedes states = (i : ℕ) → At P states i → (j : ℕ) × (j < i) × At Q states j

  before_broken : (states : List State) → goes before_on Broken states ≡ Broken
  before_broken [] = refl
  before_broken (s ∷ states) = before_broken states

  before_over : (states : List State) → goes before_on Over states ≡ Over
  before_over [] = refl
  before_over (s ∷ states) = before_over states

  nothing_before : (s : State) (states : List State) → P s → ¬ Precedes (s ∷ states)
  nothing_before s states x all = by (all 0 x)
    where
      by : (j : ℕ) × (j < 0) × At Q (s ∷ states) j → ⊥
      by (j, before, y) = absurd (omega (arith, before))

  precedes_now : (s : State) (states : List State) → ¬ P s → Q s → Precedes (s ∷ states)
  precedes_now s states denied y zero x = absurd (denied x)
  precedes_now s states denied y (suc i) x = (0, omega arith, y)

  precedes_later : (s : State) (states : List State) → ¬ P s → Precedes states → Precedes (s ∷ states)
  precedes_later s states denied more zero x = absurd (denied x)
  precedes_later s states denied more (suc i) x =
      let it : (j : ℕ) × (j < i) × At Q states j = more i x in
      (suc it.0, omega (arith, it.1), it.2)

  precedes_less : (s : State) (states : List State) → ¬ Q s → Precedes (s ∷ states) → Precedes states
  precedes_less s states denied all i x = by (all (suc i) x)
    where
      by : (j : ℕ) × (j < suc i) × At Q (s ∷ states) j → (j : ℕ) × (j < i) × At Q states j
      by (zero, before, y) = absurd (denied y)
      by (suc j, before, y) = (j, omega (arith, before), y)

  before_fine : (states : List State) → Settles (is_kept (goes before_on Fine states)) (Precedes states)
  before_fine [] = λ i x. absurd x
  before_fine (s ∷ states) = by (h s) (g s) (first s) (second s) (before_fine states)
    where
      by : (a b : Bool) → Settles a (P s) → Settles b (Q s) → Settles (is_kept (goes before_on Fine states)) (Precedes states)
          → Settles (is_kept (goes before_on (before_next Fine a b) states)) (Precedes (s ∷ states))
      by true b x y more = subst (λ (ph : Phase). Settles (is_kept ph) (Precedes (s ∷ states))) (sym (before_broken states)) (nothing_before s states x)
      by false true denied y more = subst (λ (ph : Phase). Settles (is_kept ph) (Precedes (s ∷ states))) (sym (before_over states)) (precedes_now s states denied y)
      by false false denied none more =
          settles_as (is_kept (goes before_on Fine states)) (Precedes states) (Precedes (s ∷ states)) (precedes_later s states denied) (precedes_less s states none) more

tells : (w : World) (s : State) (e : Assignment) (f : Formula) → Settles (holds_in w s e f) (True w s e f)
tells w s e f = by (truth_of w s e f) (judged w s e f (truth_of w s e f) refl)
  where
    by : (t : Truth) → Judges w s e f t → Settles (is_true t) (True w s e f)
    by truth.True h = h
    by truth.False h = λ k. apart w s e f k h
    by truth.Undefined h = h.0

pub keeps : (p : Parts) (states : List State) (e : Assignment) (r : Rule) → Settles (is_kept (phase_after (world p) e r states)) (KeepsRule p states e r)
keeps p states e (rule.Always f) =
    always_fine (λ s. True (world p) s e f) (λ s. True (world p) s e f) (λ s. holds_in (world p) s e f) (λ s. holds_in (world p) s e f)
    (λ s. tells (world p) s e f) (λ s. tells (world p) s e f) states
keeps p states e (rule.Sometime f) =
    sometime_waiting (λ s. True (world p) s e f) (λ s. True (world p) s e f) (λ s. holds_in (world p) s e f) (λ s. holds_in (world p) s e f)
    (λ s. tells (world p) s e f) (λ s. tells (world p) s e f) states
keeps p states e (rule.AtMostOnce f) =
    once_fine (λ s. True (world p) s e f) (λ s. True (world p) s e f) (λ s. holds_in (world p) s e f) (λ s. holds_in (world p) s e f)
    (λ s. tells (world p) s e f) (λ s. tells (world p) s e f) states
keeps p states e (rule.SometimeAfter f g) =
    Both.fine (after_both (λ s. True (world p) s e f) (λ s. True (world p) s e g) (λ s. holds_in (world p) s e f) (λ s. holds_in (world p) s e g)
    (λ s. tells (world p) s e f) (λ s. tells (world p) s e g) states)
keeps p states e (rule.SometimeBefore f g) =
    before_fine (λ s. True (world p) s e f) (λ s. True (world p) s e g) (λ s. holds_in (world p) s e f) (λ s. holds_in (world p) s e g)
    (λ s. tells (world p) s e f) (λ s. tells (world p) s e g) states
