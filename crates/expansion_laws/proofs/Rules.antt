-- A run keeps a constraint where it keeps each instance of the constraint's rule.
use Rattle.std.proofs.Common.{◌↔◌, ℕ, List, Option, Some, None, IsSomeAnd}
use Rattle.std.specs.Prelude.{slice_get}
use Rattle.up_text.specs.declared.name.Name.{Name}
use Rattle.up_tree.specs.declared.term.Typed.{Typed}
use Rattle.up_tree.specs.declared.formula.Formula.{Formula}
use Rattle.up_tree.specs.declared.problem.Rule.{Rule}
use Rattle.up_tree.specs.declared.problem.Rule.TheVariants.{Always, Sometime, AtMostOnce, SometimeAfter, SometimeBefore}
use Rattle.up_tree.specs.declared.problem.Parts.{Parts}
use Rattle.up_tree.specs.Objects.{world, Assignment, assign, unassigned, tuples}
use Rattle.up_tree.specs.State.{State}
use Rattle.up_tree.specs.Truth.{True}
use Rattle.up_tree.specs.Plans.{TrueAt, NotTrueAt, KeepsRule, Keeps}
use Rattle.semantics_laws.specs.Replaced.{substituted}
use Rattle.semantics_laws.proofs.Lists.{each_as, each_member, same_somewhere}
use Rattle.semantics_laws.proofs.Replacing.{formulas_substitute}
use Rattle.expansion_laws.specs.Substituted.{substituted_rule}
use Rattle.expansion_laws.proofs.Doing.{denied}
use Rattle.up_text.specs.Lists.{Member}
use Rattle.up_tree.specs.declared.problem.Constraint.{Constraint}

some_alike : {X : Type 0} (o : Option X) (P Q : X → Type 0) → ((x : X) → P x ↔ Q x) → IsSomeAnd o P ↔ IsSomeAnd o Q
some_alike None P Q h = ((λ k. k), (λ k. k))
some_alike (Some x) P Q h = h x

-- formulas of two assignments that are true in the same states are kept by the same runs
module _ (p : Parts) (states : List State) (d e : Assignment) where
  abbrev Alike : Formula → Formula → Type 0
  Alike f g = (s : State) → True (world p) s d f ↔ True (world p) s e g

  at_same : (f g : Formula) → Alike f g → (i : ℕ) → TrueAt p states d f i ↔ TrueAt p states e g i
  at_same f g alike i = some_alike (slice_get states i) (λ s. True (world p) s d f) (λ s. True (world p) s e g) alike

  not_same : (f g : Formula) → Alike f g → (i : ℕ) → NotTrueAt p states d f i ↔ NotTrueAt p states e g i
  not_same f g alike i = some_alike (slice_get states i) (λ s. ¬ True (world p) s d f) (λ s. ¬ True (world p) s e g) (λ s. denied (alike s))

module _ (p : Parts) (states : List State) (vars : List Typed) (objects : List Name) (e : Assignment) where
  same_truth : (f : Formula) → Alike p states e (assign vars objects e) (substituted vars objects f) f
  same_truth f s = (formulas_substitute (world p) s e vars objects f).true_where

  there : (f : Formula) (i : ℕ) → TrueAt p states e (substituted vars objects f) i ↔ TrueAt p states (assign vars objects e) f i
  there f i = at_same p states e (assign vars objects e) (substituted vars objects f) f (same_truth f) i

  not_there : (f : Formula) (i : ℕ) → NotTrueAt p states e (substituted vars objects f) i ↔ NotTrueAt p states (assign vars objects e) f i
  not_there f i = not_same p states e (assign vars objects e) (substituted vars objects f) f (same_truth f) i

  rule_substitutes : (rule : Rule) → KeepsRule p states e (substituted_rule vars objects rule) ↔ KeepsRule p states (assign vars objects e) rule
  rule_substitutes (Always f) = (
    (λ h. each_as (λ s. True (world p) s e (substituted vars objects f)) (λ s. True (world p) s (assign vars objects e) f) (λ s. (same_truth f s).0) states h),
    (λ h. each_as (λ s. True (world p) s (assign vars objects e) f) (λ s. True (world p) s e (substituted vars objects f)) (λ s. (same_truth f s).1) states h),
  )
  rule_substitutes (Sometime f) =
      same_somewhere (λ s. True (world p) s e (substituted vars objects f)) (λ s. True (world p) s (assign vars objects e) f) states
      (each_member _ states (λ s m. same_truth f s))
  rule_substitutes (AtMostOnce f) = (
    (λ h i j k first second at gone. (λ again. h i j k first second ((there f i).1 at) ((not_there f j).1 gone) ((there f k).1 again))),
    (λ h i j k first second at gone. (λ again. h i j k first second ((there f i).0 at) ((not_there f j).0 gone) ((there f k).0 again))),
  )
  rule_substitutes (SometimeAfter f g) = (
    (λ h i at. let some = h i ((there f i).1 at) in (some.0, some.1, (there g some.0).0 some.2)),
    (λ h i at. let some = h i ((there f i).0 at) in (some.0, some.1, (there g some.0).1 some.2)),
  )
  rule_substitutes (SometimeBefore f g) = (
    (λ h i at. let some = h i ((there f i).1 at) in (some.0, some.1, (there g some.0).0 some.2)),
    (λ h i at. let some = h i ((there f i).0 at) in (some.0, some.1, (there g some.0).1 some.2)),
  )

pub constraints_substitute : (p : Parts) (states : List State) (c : Constraint) →
    Keeps p states c
    ↔ ((tuple : List Name) → Member tuple (tuples (world p) c.vars) →
    KeepsRule p states unassigned (substituted_rule c.vars tuple c.rule))
constraints_substitute p states c =
    ((λ h tuple m. (rule_substitutes p states c.vars tuple unassigned c.rule).1 (h tuple m)), (λ h tuple m. (rule_substitutes p states c.vars tuple unassigned c.rule).0 (h tuple m)))
