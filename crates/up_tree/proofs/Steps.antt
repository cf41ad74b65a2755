-- A step that can be taken has one next state, and a run has one last state.
use Rattle.std.proofs.Common.{◌≡◌, Bool, true, false, ◌&&◌, ◌||◌, not as deny, true≢false, List, [], ◌∷◌, Option, Some, None, IsSomeAnd, refl, ap, sym, ◌∙◌, subst, ⊎_elim}
use Rattle.std.specs.List.{list_any}
use Rattle.std.specs.Ordering.{is_eq}
use Rattle.std.specs.Cmp.{tied_itself}
use Rattle.std.specs.FinSet as set
use Rattle.up_text.specs.declared.name.Name.{Name}
use Rattle.up_text.specs.Lists.{Member}
use Rattle.up_tree.specs.declared.formula.Formula.{Formula}
use Rattle.up_tree.specs.declared.truth.Truth.{Truth}
use Rattle.up_tree.specs.declared.truth.Truth.TheVariants as truth
use Rattle.up_tree.specs.declared.action.Action.{Action}
use Rattle.up_tree.specs.declared.problem.Parts.{Parts}
use Rattle.up_tree.specs.declared.problem.Step.{Step}
use Rattle.up_tree.specs.Objects.{World, world, Assignment, action_named}
use Rattle.up_tree.specs.State.{State, Ground}
use Rattle.up_tree.specs.Judged.{Judges, truth_of, is_true}
use Rattle.up_tree.specs.Instances.{Instance, Fires, firing}
use Rattle.up_tree.specs.Changes.{added, deleted, is_at, of_firing, changed}
use Rattle.up_tree.specs.Faults.{Fault, unknown, Applies, CanTake, IsNext, ActionApplies, NoAction}
use Rattle.up_tree.specs.Plans.{RunsFrom, OfLast}
use Rattle.up_tree.specs.Laws.{NeverBoth, AlwaysOne, NextIsOne, NextIsThere, AddWins}
use Rattle.up_tree.proofs.Apart.{apart}
use Rattle.up_tree.proofs.Judging.{judged}
use Rattle.up_tree.proofs.States.{ground_total, contains-changed}

pub never_both : NeverBoth
never_both w s e f right wrong = apart w s e f right wrong

alone : (w : World) (s : State) (e : Assignment) (f : Formula) (t u : Truth) → Judges w s e f t → Judges w s e f u → u ≡ t
alone w s e f truth.True truth.True h k = refl
alone w s e f truth.True truth.False h k = absurd (apart w s e f h k)
alone w s e f truth.True truth.Undefined h k = absurd (k.0 h)
alone w s e f truth.False truth.True h k = absurd (apart w s e f k h)
alone w s e f truth.False truth.False h k = refl
alone w s e f truth.False truth.Undefined h k = absurd (k.1 h)
alone w s e f truth.Undefined truth.True h k = absurd (h.0 k)
alone w s e f truth.Undefined truth.False h k = absurd (h.1 k)
alone w s e f truth.Undefined truth.Undefined h k = refl

pub always_one : AlwaysOne
always_one w s e f =
    let is : Judges w s e f (truth_of w s e f) = judged w s e f (truth_of w s e f) refl in
    record { truth = truth_of w s e f; is = is; alone = λ other h. alone w s e f (truth_of w s e f) other is h }

-- an instance fires exactly where its condition is computed to be true
pub fires-is : (w : World) (s : State) (i : Instance) → (is_true (truth_of w s i.assignment i.row.when) ≡ true → Fires w s i)
    × (Fires w s i → is_true (truth_of w s i.assignment i.row.when) ≡ true)
fires-is w s i = by (truth_of w s i.assignment i.row.when) (judged w s i.assignment i.row.when _ refl)
  where
    by : (t : Truth) → Judges w s i.assignment i.row.when t → (is_true t ≡ true → Fires w s i) × (Fires w s i → is_true t ≡ true)
    by truth.True h = (λ _. h, λ _. refl)
    by truth.False h = (λ e. absurd (true≢false (sym e)), λ k. absurd (apart w s i.assignment i.row.when k h))
    by truth.Undefined h = (λ e. absurd (true≢false (sym e)), λ k. absurd (h.0 k))

-- ---- the next state

-- why a step of this action, or of none, can't be taken
abbrev pub ByAction : Parts → State → List Name → Option Action → Fault → Type 0
ByAction p s args None fault = NoAction fault
ByAction p s args (Some a) fault = ActionApplies (world p) s a args fault

pub applies-is : (p : Parts) (s : State) (step : Step) (fault : Fault) → Applies p s step fault ≡ ByAction p s step.args (action_named p step.action) fault
applies-is p s step fault = refl

abbrev NextBy : Parts → State → List Name → Option Action → State → Type 0
NextBy p s args found t = IsSomeAnd found (λ a. t ≡ changed s (firing (world p) s a args))

-- a step that can be taken leaves a state
pub next_exists : NextIsThere
next_exists p s step can = by (action_named p step.action) refl
  where
    by : (found : Option Action) → action_named p step.action ≡ found → (t : State) × IsNext p s step t
    by None is = absurd (can unknown (subst (λ found. ByAction p s step.args found unknown) (sym is) tt))
    by (Some a) is =
        let t = changed s (firing (world p) s a step.args) in
        (t, subst (λ found. NextBy p s step.args found t) (sym is) refl)

-- and no other
pub next_unique : NextIsOne
next_unique p s step t u = by (action_named p step.action)
  where
    by : (found : Option Action) → NextBy p s step.args found t → NextBy p s step.args found u → t ≡ u
    by None h k = absurd h
    by (Some a) h k = h ∙ sym k

-- ---- an atom that is added

or-true : (a : Bool) → (a || true) ≡ true
or-true true = refl
or-true false = refl

is_among : (q : Ground) (qs : List Ground) → Member q qs → list_any (is_at q) qs ≡ true
is_among q [] m = absurd m
is_among q (a ∷ qs) m =
    ⊎_elim (λ e. ap (λ b. b || list_any (is_at q) qs) (subst (λ x. is_at q x ≡ true) e (ap is_eq (tied_itself ground_total q))))
    (λ k. ap (λ b. is_at q a || b) (is_among q qs k) ∙ or-true (is_at q a)) m

pub add_wins : AddWins
add_wins s firing a m =
    let old : Bool = set.contains s.atoms a && deny (list_any (is_at a) (of_firing deleted s firing)) in
    contains-changed s firing a ∙ ap (λ b. old || b) (is_among a (of_firing added s firing) m) ∙ or-true old

-- ---- runs, by their last state

-- the steps lead from `s` to `z`
abbrev pub Reaches : Parts → State → List Step → State → Type 0
Reaches p s [] z = s ≡ z
Reaches p s (step ∷ steps) z = CanTake p s step × ((t : State) × IsNext p s step t × Reaches p t steps z)

pub reach_unique : (p : Parts) (steps : List Step) (s y z : State) → Reaches p s steps y → Reaches p s steps z → y ≡ z
reach_unique p [] s y z h k = sym h ∙ k
reach_unique p (step ∷ steps) s y z h k =
    reach_unique p steps k.1.0 y z (subst (λ t. Reaches p t steps y) (next_unique p s step h.1.0 k.1.0 h.1.1 k.1.1) h.1.2) k.1.2

head_of : (p : Parts) (s : State) (steps : List Step) (states : List State) → RunsFrom p s steps states → (rest : List State) × (states ≡ s ∷ rest)
head_of p s [] states h = ([], h)
head_of p s (step ∷ steps) states h = (h.1.1, h.1.3)

-- a run's last state, of which P holds
pub reached : (p : Parts) (P : State → Type 0) (steps : List Step) (s : State) (states : List State) →
    RunsFrom p s steps states → OfLast P states → (z : State) × Reaches p s steps z × P z
reached p P [] s states h last = (s, refl, subst (OfLast P) h last)
reached p P (step ∷ steps) s states h last =
    let t = h.1.0 in
    let head : (rest : List State) × (h.1.1 ≡ t ∷ rest) = head_of p t steps h.1.1 h.1.4 in
    let later : OfLast P h.1.1 = subst (OfLast P) (sym head.1) (subst (OfLast P) (h.1.3 ∙ ap (λ l. s ∷ l) head.1) last) in
    let more : (z : State) × Reaches p t steps z × P z = reached p P steps t h.1.1 h.1.4 later in
    (more.0, (h.0, (t, h.1.2, more.1)), more.2)

pub run_of : (p : Parts) (P : State → Type 0) (steps : List Step) (s z : State) → Reaches p s steps z → P z →
    (states : List State) × RunsFrom p s steps states × OfLast P states
run_of p P [] s z h last = (s ∷ [], refl, subst P (sym h) last)
run_of p P (step ∷ steps) s z h last =
    let t = h.1.0 in
    let more : (states : List State) × RunsFrom p t steps states × OfLast P states = run_of p P steps t z h.1.2 last in
    let head : (rest : List State) × (more.0 ≡ t ∷ rest) = head_of p t steps more.0 more.1 in
    (s ∷ more.0, (h.0, (t, more.0, h.1.1, refl, more.1)), subst (λ l. OfLast P (s ∷ l)) (sym head.1) (subst (OfLast P) head.1 more.2))
