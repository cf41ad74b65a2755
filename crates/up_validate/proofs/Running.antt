-- A run with one more step, and a run that halts.
use Rattle.std.proofs.Common.{◌≡◌, ◌⊎◌, ℕ, zero, suc, ◌+◌, ◌<◌, ◌≤◌, List, [], ◌∷◌, ◌++◌, length, take, get_or, Option, Some, None, refl, ap, sym, ◌∙◌, subst, suc-ne-zero, arith}
use Rattle.std.specs.Prelude.{slice_get, Result, Ok, Err, IfErr, IsErrAnd}
use Rattle.std.proofs.lemmas.List.{take_more, take_all}
use Rattle.up_tree.specs.declared.problem.Parts.{Parts}
use Rattle.up_tree.specs.declared.problem.Step.{Step}
use Rattle.up_tree.specs.Objects.{world}
use Rattle.up_tree.specs.State.{State, init}
use Rattle.up_tree.specs.Faults.{CanTake, IsNext, IsFirstFault}
use Rattle.up_tree.specs.Plans.{RunsFrom, OfLast}
use Rattle.up_tree.specs.Big.{IsBigStep}
use Rattle.up_eval.specs.declared.step_error.StepError.{StepError}
use Rattle.up_eval.specs.declared.step_error.StepError.TheVariants as refused
use Rattle.up_eval.specs.Steps.{RefusesStep}
use Rattle.up_validate.specs.declared.phase.Phase.{Phase}
use Rattle.up_validate.specs.declared.run.Run.{Run}
use Rattle.up_validate.specs.declared.run.Halt.{Halt}
use Rattle.up_validate.specs.declared.run.Halt.TheVariants as halt
use Rattle.up_validate.specs.declared.verdict.StepFault.TheVariants as why
use Rattle.up_validate.specs.Watching.{all_after}
use Rattle.up_validate.specs.Verdicts.{named_fault, After, AtStep, BigConstraint}
use Rattle.up_validate.specs.Runs.{StandsAfter, Follows, GoOn, IsBigAfter, AfterStep, HaltsAt, HaltsBig, Halts, halt_of, memory, bad, big, big_after, in_step, in_constraint}

no_cons : {X : Type 0} (x : X) (xs : List X) → ¬ ([] ≡ x ∷ xs)
no_cons x xs is = suc-ne-zero (length xs) (sym (ap length is))

pub of_last : (What : State → Type 0) (before : List State) (s : State) → What s → OfLast What (before ++ s ∷ [])
of_last What [] s x = x
of_last What (b ∷ []) s x = x
of_last What (b ∷ c ∷ before) s x = of_last What (c ∷ before) s x

pub last_of : (What : State → Type 0) (before : List State) (s : State) → OfLast What (before ++ s ∷ []) → What s
last_of What [] s x = x
last_of What (b ∷ []) s x = x
last_of What (b ∷ c ∷ before) s x = last_of What (c ∷ before) s x

module _ (p : Parts) where
  no_run : (s : State) (steps : List Step) → ¬ RunsFrom p s steps []
  no_run s [] is = no_cons s [] is
  no_run s (step ∷ steps) runs = no_cons s runs.1.1 runs.1.3

  behind_first : (What : State → Type 0) (s t : State) (steps : List Step) (rest : List State) → RunsFrom p t steps rest → OfLast What (s ∷ rest) → OfLast What rest
  behind_first What s t steps [] runs last = absurd (no_run t steps runs)
  behind_first What s t steps (r ∷ rest) runs last = last

  -- a run goes on by a step that can be taken in its last state
  runs_on : (step : Step) (t : State) (s : State) (steps : List Step) (states : List State) → RunsFrom p s steps states
      → OfLast (λ last. CanTake p last step × IsNext p last step t) states → RunsFrom p s (steps ++ step ∷ []) (states ++ t ∷ [])
  runs_on step t s [] states is last = subst (λ (them : List State). RunsFrom p s (step ∷ []) (them ++ t ∷ [])) (sym is) (by (subst (OfLast (λ last. CanTake p last step × IsNext p last step t)) is last))
    where
      by : CanTake p s step × IsNext p s step t → RunsFrom p s (step ∷ []) (s ∷ t ∷ [])
      by it = (it.0, (t, t ∷ [], it.1, refl, refl))
  runs_on step t s (first ∷ steps) states runs last = (
    runs.0,
    (
      runs.1.0,
      runs.1.1 ++ t ∷ [],
      runs.1.2,
      ap (λ (them : List State). them ++ t ∷ []) runs.1.3,
      runs_on step t runs.1.0 steps runs.1.1 runs.1.4
          (behind_first (λ last. CanTake p last step × IsNext p last step t) s runs.1.0 steps runs.1.1 runs.1.4
          (subst (OfLast (λ last. CanTake p last step × IsNext p last step t)) runs.1.3 last)),
    ),
  )

  pub stands_on : (steps : List Step) (step : Step) (old new : Run) → StandsAfter p steps old → Follows p step old new → StandsAfter p (steps ++ step ∷ []) new
  stands_on steps step old new stands follows = record {
    before = stands.before ++ old.state ∷ [];
    runs = runs_on step new.state (init p) steps (stands.before ++ old.state ∷ []) stands.runs
        (of_last (λ last. CanTake p last step × IsNext p last step new.state) stands.before old.state (follows.taken, follows.next));
    phases = follows.phases (stands.before ++ old.state ∷ []) stands.phases;
  }

  pub stands_first : (run : Run) (none : List (List Phase)) → run.state ≡ init p → none ≡ all_after (world p) p.constraints [] → GoOn p run.state none run.phases → StandsAfter p [] run
  stands_first run none is starts goes = record { before = []; runs = ap (λ (s : State). s ∷ []) is; phases = goes [] starts }

  -- ---- at a step

  slice_at : {X : Type 0} (xs : List X) (i : ℕ) (x : X) → i < length xs → x ≡ get_or xs i x → slice_get xs i ≡ Some x
  slice_at [] i x within is = absurd (omega (arith, within))
  slice_at (y ∷ xs) zero x within is = ap (λ (y : _). Some y) (sym is)
  slice_at (y ∷ xs) (suc i) x within is = slice_at xs i x (omega (arith, within)) is

  pub taken_more : {X : Type 0} (xs : List X) (i : ℕ) (x : X) → i < length xs → x ≡ get_or xs i x → take (i + 1) xs ≡ take i xs ++ x ∷ []
  taken_more xs i x within is = take_more xs i x within ∙ ap (λ (y : _). take i xs ++ y ∷ []) (sym is)

  after_run : (What : State → Type 0) (steps : List Step) (i : ℕ) (run : Run) → StandsAfter p (take i steps) run → What run.state → After p steps i What
  after_run What steps i run stands x = record { states = stands.before ++ run.state ∷ []; runs = stands.runs; last = of_last What stands.before run.state x }

  at_step : (What : State → Step → Type 0) (steps : List Step) (i : ℕ) (step : Step) (run : Run) → i < length steps → step ≡ get_or steps i step
      → StandsAfter p (take i steps) run → What run.state step → AtStep p steps (i + 1) What
  at_step What steps i step run within is stands x = record {
    before = i;
    numbered = omega arith;
    step = step;
    is = slice_at steps i step within is;
    after = after_run (λ s. What s step) steps i run stands x;
  }

  after_leaving : (steps : List Step) (i : ℕ) (step : Step) (run : Run) → i < length steps → step ≡ get_or steps i step → StandsAfter p (take i steps) run
      → AfterStep p step run.state (BigConstraint p) → After p steps (i + 1) (BigConstraint p)
  after_leaving steps i step run within is stands leaves = record {
    states = (stands.before ++ run.state ∷ []) ++ leaves.state ∷ [];
    runs = subst (λ (them : List Step). RunsFrom p (init p) them ((stands.before ++ run.state ∷ []) ++ leaves.state ∷ [])) (sym (taken_more steps i step within is))
        (runs_on step leaves.state (init p) (take i steps) (stands.before ++ run.state ∷ []) stands.runs
        (of_last (λ last. CanTake p last step × IsNext p last step leaves.state) stands.before run.state (leaves.taken, leaves.next)));
    last = of_last (BigConstraint p) (stands.before ++ run.state ∷ []) leaves.state leaves.what;
  }

  pub halts_at : (steps : List Step) (i : ℕ) (step : Step) (run : Run) (h : Halt) → i < length steps → step ≡ get_or steps i step → StandsAfter p (take i steps) run
      → HaltsAt p run.state (i + 1) step h → Halts p steps h
  halts_at steps i step run h within is stands memory = tt
  halts_at steps i step run h within is stands (bad reason x) = at_step (λ s step. IsFirstFault p s step (named_fault reason)) steps i step run within is stands x
  halts_at steps i step run h within is stands (big x) = in_step (at_step (IsBigStep p) steps i step run within is stands x)
  halts_at steps i step run h within is stands (big_after x) = in_constraint (i + 1) (omega arith) (after_leaving steps i step run within is stands x)

  pub halts_first : (steps : List Step) (h : Halt) → IsBigAfter p (init p) 1 h → Halts p steps h
  halts_first steps halt.Memory x = tt
  halts_first steps (halt.TooLarge number) x =
      in_constraint 0 x.0 (record { states = init p ∷ []; runs = refl; last = x.1 })
  halts_first steps (halt.BadStep number reason) x = absurd x

  -- ---- why a step isn't taken

  pub halt_says : (s : State) (number : ℕ) (step : Step) (e : StepError) → RefusesStep p s step e → HaltsAt p s number step (halt_of number e)
  halt_says s number step refused.Memory x = memory
  halt_says s number step refused.Unknown x = bad why.Unknown x
  halt_says s number step refused.Arity x = bad why.Arity x
  halt_says s number step refused.ArgumentType x = bad why.ArgumentType x
  halt_says s number step (refused.NotApplicable reason) x = bad (why.Not reason) x
  halt_says s number step refused.TooLarge x = big x

  pub halt_after : (s t : State) (number : ℕ) (step : Step) (h : Halt) → CanTake p s step → IsNext p s step t → IsBigAfter p t (number + 1) h → HaltsAt p s number step h
  halt_after s t number step halt.Memory taken next x = memory
  halt_after s t number step (halt.TooLarge n) taken next x =
      subst (λ (m : ℕ). HaltsAt p s number step (halt.TooLarge m)) (sym (x.0 ∙ omega arith)) (big_after (record { state = t; taken = taken; next = next; what = x.1 }))
  halt_after s t number step (halt.BadStep n reason) taken next x = absurd x

-- where the loop over the steps stands
pub record IsAt (p : Parts) (steps : List Step) (run : Run) (i number : ℕ) : Type 0 where
  pub number_is : number ≡ i
  pub stands : StandsAfter p (take i steps) run

-- what is said of an error is said of the result that hands it on
pub handed_on : {A : Type 0} (r : Result A Halt) (h : Halt) (What : Halt → Type 0) → IsErrAnd r (λ e. e ≡ h) → What h → IfErr r What
handed_on (Ok a) h What is x = tt
handed_on (Err e) h What is x = subst What (sym is) x
