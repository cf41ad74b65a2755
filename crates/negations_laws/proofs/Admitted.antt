-- What the table's row says of a problem that it accepts.
use Rattle.std.proofs.Common.{◌≡◌, Bool, true, false, not as flip, ◌&&◌, ◌||◌, List, [], ◌∷◌, IsTrue, refl, sym, ◌∙◌}
use Rattle.std.specs.List.{list_any, list_all}
use Rattle.up_text.specs.Lists.{Every, Member}
use Rattle.up_tree.specs.declared.action.Action.{Action}
use Rattle.up_tree.specs.declared.action.Row.{Row}
use Rattle.up_tree.specs.declared.problem.Parts.{Parts}
use Rattle.up_tree.specs.Simplify.{is_empty, is_true_formula}
use Rattle.up_tree.specs.WellFormed.{IsWellFormed}
use Rattle.up_kind.specs.declared.feature.Feature.TheVariants.{DisjunctiveConditions, ExistentialConditions, UniversalConditions, ConditionalEffects, ForallEffects, ObjectFluents, EffectOverlap, TrajectoryConstraints}
use Rattle.up_kind.specs.Features.{FeatureSet, is_in, either}
use Rattle.up_kind.specs.Carried.{carries}
use Rattle.up_kind.specs.Meeting.{has_meeting_rows}
use Rattle.up_compiler.specs.declared.id.CompilerId.TheVariants.{Negations}
use Rattle.up_compiler.specs.Table.{admits, only_if}
use Rattle.condition_laws.specs.Shapes.{IsNormal}
use Rattle.compiling_laws.proofs.Lists.{none_there, and_true, not_true, not_false, any_false}
use Rattle.step_laws.proofs.Lists.{every_from}
use Rattle.negations_laws.specs.Kinds.{normal_kind}
use Rattle.negations_laws.specs.Twins.{main_conditions}
use Rattle.negations_laws.proofs.Doing.{AreAlways}
use Rattle.negations_laws.proofs.Stepping.{IsAccepted}

-- a problem in normal form that the compiler accepts
pub record IsReady (p : Parts) : Type 0 where
  pub formed : IsWellFormed p
  pub normal : Every IsNormal (main_conditions p)
  pub admitted : IsTrue (admits Negations (carries p))

record Off (K : FeatureSet) : Type 0 where
  conditional : K ConditionalEffects ≡ false
  forall_effects : K ForallEffects ≡ false
  fluents : K ObjectFluents ≡ false
  overlap : K EffectOverlap ≡ false
  constraints : K TrajectoryConstraints ≡ false

off : (K : FeatureSet) → IsTrue (admits Negations K) → Off K
off K is =
    let all = and_true (list_all (λ f. flip (K f)) (ConditionalEffects ∷ ForallEffects ∷ ObjectFluents ∷ EffectOverlap ∷ TrajectoryConstraints ∷ [])) true is in
    let a = and_true (flip (K ConditionalEffects)) (list_all (λ f. flip (K f)) (ForallEffects ∷ ObjectFluents ∷ EffectOverlap ∷ TrajectoryConstraints ∷ [])) all.0 in
    let b = and_true (flip (K ForallEffects)) (list_all (λ f. flip (K f)) (ObjectFluents ∷ EffectOverlap ∷ TrajectoryConstraints ∷ [])) a.1 in
    let c = and_true (flip (K ObjectFluents)) (list_all (λ f. flip (K f)) (EffectOverlap ∷ TrajectoryConstraints ∷ [])) b.1 in
    let d = and_true (flip (K EffectOverlap)) (list_all (λ f. flip (K f)) (TrajectoryConstraints ∷ [])) c.1 in
    let e = and_true (flip (K TrajectoryConstraints)) true d.1 in
    record {
      conditional = not_true _ a.0;
      forall_effects = not_true _ b.0;
      fluents = not_true _ c.0;
      overlap = not_true _ d.0;
      constraints = not_true _ e.0;
    }

pub no_constraints : (p : Parts) → IsTrue (admits Negations (carries p)) → p.constraints ≡ []
no_constraints p is = none_there p.constraints (off (carries p) is).constraints

pub all_always : (p : Parts) → IsTrue (admits Negations (carries p)) → (a : Action) → Member a p.actions → AreAlways a.rows
all_always p is a m = every_from _ a.rows (λ r n.
    not_false (is_true_formula r.when) (any_false (λ (r : Row). flip (is_true_formula r.when)) a.rows r
    (any_false (λ (a : Action). list_any (λ (r : Row). flip (is_true_formula r.when)) a.rows) p.actions a (off (carries p) is).conditional m) n))

pub accepted : (p : Parts) → IsReady p → IsAccepted p
accepted p ready =
    let k : Off (carries p) = off (carries p) ready.admitted in
    record {
      formed = ready.formed;
      normal = ready.normal;
      none = k.fluents;
      bare = every_from _ p.actions (λ a m. every_from _ a.rows (λ r n.
          none_there r.vars (any_false (λ (r : Row). flip (is_empty r.vars)) a.rows r
          (any_false (λ (a : Action). list_any (λ (r : Row). flip (is_empty r.vars)) a.rows) p.actions a k.forall_effects m) n)));
      always = every_from _ p.actions (all_always p ready.admitted);
      apart = every_from _ p.actions (λ a m. any_false (has_meeting_rows p) p.actions a k.overlap m);
      free = none_there p.constraints k.constraints;
    }

-- ---- in normal form the same is accepted

not_new : (b c d : Bool) → ((b || (c && false)) || (d && false)) ≡ b
not_new true c d = refl
not_new false true true = refl
not_new false true false = refl
not_new false false true = refl
not_new false false false = refl

pub admits_normal : (K : FeatureSet) → IsTrue (admits Negations K) → IsTrue (admits Negations (normal_kind K))
unfolding either only_if is_in
admits_normal K is =
    (λ i. (flip (not_new (K ConditionalEffects) (K DisjunctiveConditions) (K DisjunctiveConditions && (K ExistentialConditions || K UniversalConditions)) i)
    && (flip (not_new (K ForallEffects) (K DisjunctiveConditions) (K DisjunctiveConditions && (K ExistentialConditions || K UniversalConditions)) i)
    && (flip (not_new (K ObjectFluents) (K DisjunctiveConditions) (K DisjunctiveConditions && (K ExistentialConditions || K UniversalConditions)) i)
    && (flip (not_new (K EffectOverlap) (K DisjunctiveConditions) (K DisjunctiveConditions && (K ExistentialConditions || K UniversalConditions)) i)
    && (flip (not_new (K TrajectoryConstraints) (K DisjunctiveConditions) (K DisjunctiveConditions && (K ExistentialConditions || K UniversalConditions)) i) && true)))))
    && true)
    ∙ is
