-- The phases after one more state, and what those after a run say of its constraints.
use Rattle.std.proofs.Common.{◌≡◌, ◌⊎◌, ℕ, zero, suc, ◌+◌, Bool, true, false, cond, List, [], ◌∷◌, ◌++◌, map, take, drop, Option, Some, None, refl, ap, sym, ◌∙◌, subst, inl, inr, arith}
use Rattle.std.specs.Prelude.{slice_get, ◌&&◌, if◌then◌else◌}
use Rattle.up_text.specs.declared.name.Name.{Name}
use Rattle.up_text.specs.Lists.{Every, Somewhere, Member}
use Rattle.up_tree.specs.declared.problem.Constraint.{Constraint}
use Rattle.up_tree.specs.declared.problem.Rule.{Rule}
use Rattle.up_tree.specs.declared.problem.Parts.{Parts}
use Rattle.up_tree.specs.Objects.{World, world, Assignment, assign, unassigned, tuples}
use Rattle.up_tree.specs.State.{State}
use Rattle.up_tree.specs.Plans.{KeepsRule, Keeps}
use Rattle.up_validate.specs.declared.phase.Phase.{Phase}
use Rattle.up_validate.specs.declared.watch.Watch.{Watch}
use Rattle.up_validate.specs.Watching.{assignments, start, next, goes, phase_after, phases_after, all_after, is_kept}
use Rattle.up_validate.specs.Watches.{meant_all, nexts, all_starts, all_nexts, BigInAll, are_kept, first_unkept}
use Rattle.up_validate.specs.Verdicts.{BigRule, BigConstraint, IsBroken}
use Rattle.up_validate.specs.Runs.{AreWatches, GoOn}
use Rattle.up_validate.proofs.Keeping.{Settles, settles_as, keeps}

goes_end : (on : Phase → State → Phase) (ph : Phase) (states : List State) (s : State) → goes on ph (states ++ s ∷ []) ≡ on (goes on ph states) s
goes_end on ph [] s = refl
goes_end on ph (t ∷ states) s = goes_end on (on ph t) states s

module _ (w : World) (s : State) (states : List State) where
  nexts_end : (r : Rule) (es : List Assignment)
      → nexts w s r es (map (λ e. phase_after w e r states) es) ≡ map (λ e. phase_after w e r (states ++ s ∷ [])) es
  nexts_end r [] = refl
  nexts_end r (e ∷ es) =
      ap (λ (ph : Phase). ph ∷ nexts w s r es (map (λ e. phase_after w e r states) es)) (sym (goes_end (next w e r) (start r) states s))
      ∙ ap (λ (phs : List Phase). phase_after w e r (states ++ s ∷ []) ∷ phs) (nexts_end r es)

  all_nexts_end : (cs : List Constraint) → all_nexts w s cs (map (assignments w) cs) (all_after w cs states) ≡ all_after w cs (states ++ s ∷ [])
  all_nexts_end [] = refl
  all_nexts_end (c ∷ cs) =
      ap (λ (phs : List Phase). phs ∷ all_nexts w s cs (map (assignments w) cs) (all_after w cs states)) (nexts_end c.rule (assignments w c))
      ∙ ap (λ (all : List (List Phase)). phases_after w (states ++ s ∷ []) c ∷ all) (all_nexts_end cs)

all_starts_none : (w : World) (cs : List Constraint) → all_starts cs (map (assignments w) cs) ≡ all_after w cs []
all_starts_none w [] = refl
all_starts_none w (c ∷ cs) = ap (λ (all : List (List Phase)). phases_after w [] c ∷ all) (all_starts_none w cs)

pub starts_none : (p : Parts) (watches : List Watch) → AreWatches p watches → all_starts p.constraints (meant_all watches) ≡ all_after (world p) p.constraints []
starts_none p watches are = ap (λ (es : List (List Assignment)). all_starts p.constraints es) are ∙ all_starts_none (world p) p.constraints

pub go_on : (p : Parts) (watches : List Watch) (s : State) (old new : List (List Phase)) → AreWatches p watches
    → new ≡ all_nexts (world p) s p.constraints (meant_all watches) old → GoOn p s old new
go_on p watches s old new are is before stood =
    is
    ∙ ap (λ (es : List (List Assignment)). all_nexts (world p) s p.constraints es old) are
    ∙ ap (λ (phases : List (List Phase)). all_nexts (world p) s p.constraints (map (assignments (world p)) p.constraints) phases) stood
    ∙ all_nexts_end (world p) s before p.constraints

-- ---- numbers past the bound

some_big : (w : World) (s : State) (cs : List Constraint) → BigInAll w s cs (map (assignments w) cs)
    → Somewhere (λ c. Somewhere (λ e. BigRule w s e c.rule) (assignments w c)) cs
some_big w s [] h = h
some_big w s (c ∷ cs) (inl h) = inl h
some_big w s (c ∷ cs) (inr h) = inr (some_big w s cs h)

pub big_in_all : (p : Parts) (watches : List Watch) (s : State) → AreWatches p watches
    → BigInAll (world p) s p.constraints (meant_all watches) → BigConstraint p s
big_in_all p watches s are h = some_big (world p) s p.constraints (subst (BigInAll (world p) s p.constraints) are h)

-- ---- what is kept

module _ (p : Parts) (states : List State) where
  abbrev KeepsAll : Constraint → List (List Name) → Type 0
  KeepsAll c them = (tuple : List Name) → Member tuple them → KeepsRule p states (assign c.vars tuple unassigned) c.rule

  keeps_more : (c : Constraint) (tuple : List Name) (them : List (List Name)) → KeepsRule p states (assign c.vars tuple unassigned) c.rule
      → KeepsAll c them → KeepsAll c (tuple ∷ them)
  keeps_more c tuple them first more other (inl is) = subst (λ t. KeepsRule p states (assign c.vars t unassigned) c.rule) (sym is) first
  keeps_more c tuple them first more other (inr among) = more other among

  phases_settle : (c : Constraint) (them : List (List Name))
      → Settles (are_kept (map (λ e. phase_after (world p) e c.rule states) (map (λ tuple. assign c.vars tuple unassigned) them))) (KeepsAll c them)
  phases_settle c [] = λ tuple among. absurd among
  phases_settle c (tuple ∷ them) =
      by (is_kept (phase_after (world p) (assign c.vars tuple unassigned) c.rule states))
      (are_kept (map (λ e. phase_after (world p) e c.rule states) (map (λ tuple. assign c.vars tuple unassigned) them)))
      (keeps p states (assign c.vars tuple unassigned) c.rule) (phases_settle c them)
    where
      by : (a b : Bool) → Settles a (KeepsRule p states (assign c.vars tuple unassigned) c.rule) → Settles b (KeepsAll c them)
          → Settles (a && b) (KeepsAll c (tuple ∷ them))
      by true b x more = settles_as b (KeepsAll c them) (KeepsAll c (tuple ∷ them)) (keeps_more c tuple them x) (λ all other among. all other (inr among)) more
      by false b denied more = λ all. denied (all tuple (inl refl))

  constraint_settles : (c : Constraint) → Settles (are_kept (phases_after (world p) states c)) (Keeps p states c)
  constraint_settles c = phases_settle c (tuples (world p) c.vars)

  -- all are kept, or this is the first that isn't
  abbrev pub Found : ℕ → List Constraint → Option ℕ → Type 0
  Found n cs None = Every (Keeps p states) cs
  Found n cs (Some k) =
      (before : ℕ) × (c : Constraint) × (k ≡ n + before) × (slice_get cs before ≡ Some c) × Every (Keeps p states) (take before cs) × (¬ Keeps p states c)

  found : (n : ℕ) (cs : List Constraint) → Found n cs (first_unkept n (all_after (world p) cs states))
  found n [] = tt
  found n (c ∷ cs) = by (are_kept (phases_after (world p) states c)) (first_unkept (n + 1) (all_after (world p) cs states)) (constraint_settles c) (found (n + 1) cs)
    where
      by : (b : Bool) (k : Option ℕ) → Settles b (Keeps p states c) → Found (n + 1) cs k → Found n (c ∷ cs) (if b then k else Some n)
      by true None x more = (x, more)
      by true (Some k) x more = (suc more.0, more.1, omega (arith, more.2), more.3, (x, more.4), more.5)
      by false k denied more = (0, c, omega arith, refl, tt, denied)

  pub all_kept : None ≡ first_unkept 1 (all_after (world p) p.constraints states) → Every (Keeps p states) p.constraints
  all_kept is = subst (Found 1 p.constraints) (sym is) (found 1 p.constraints)

  pub first_broken : (k : ℕ) → Some k ≡ first_unkept 1 (all_after (world p) p.constraints states) → IsBroken p states k
  first_broken k is = of (subst (Found 1 p.constraints) (sym is) (found 1 p.constraints))
    where
      of : Found 1 p.constraints (Some k) → IsBroken p states k
      of f = record {
        before = f.0;
        numbered = omega (arith, f.2);
        constraint = f.1;
        is = f.3;
        kept = f.4;
        broken = f.5;
      }

-- ---- the look for the first that isn't kept

pub record IsAt (all : List (List Phase)) (i number : ℕ) : Type 0 where
  pub number_is : number ≡ i
  pub still : first_unkept 1 all ≡ first_unkept (1 + i) (drop i all)
