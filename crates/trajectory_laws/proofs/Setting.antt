-- The monitors of a well-formed problem are new, its instances' formulas have no free variables, and its new names are new.
use Rattle.std.proofs.Common.{◌≡◌, Bool, true, false, cond, List, [], ◌∷◌, ◌++◌, map, flat_map, codes, refl, sym, subst, inl, inr}
use Rattle.up_text.specs.declared.name.Name.{Name}
use Rattle.up_text.specs.Names.{IsName, reserved_words}
use Rattle.up_text.specs.Fresh.{is_among, fresh_name}
use Rattle.up_text.specs.Lists.{Every, Member, Differ}
use Rattle.up_tree.specs.declared.formula.Formula.{Formula}
use Rattle.up_tree.specs.declared.term.Typed.{Typed}
use Rattle.up_tree.specs.declared.problem.Constraint.{Constraint}
use Rattle.up_tree.specs.declared.problem.Parts.{Parts}
use Rattle.up_tree.specs.declared.problem.Rule.{Rule}
use Rattle.up_tree.specs.declared.problem.Rule.TheVariants.{Always, Sometime, AtMostOnce, SometimeAfter, SometimeBefore}
use Rattle.up_tree.specs.Objects.{world, tuples}
use Rattle.up_tree.specs.WellFormed.{IsFormula, IsPlain, IsAction, IsConstraint, IsWellFormed, formulas_of}
use Rattle.semantics_laws.specs.Replaced.{replacement, substituted}
use Rattle.expansion_laws.specs.Substituted.{substituted_rule}
use Rattle.expansion_laws.proofs.Lists.{differ_append}
use Rattle.expansion_forms.specs.Covered.{Declares}
use Rattle.expansion_forms.proofs.Covering.{covers_arguments, all_objects}
use Rattle.expansion_forms.proofs.Formulas.{replaced_well}
use Rattle.expansion_forms.proofs.Plain.{plain_stays}
use Rattle.compiling_laws.specs.Forms.{symbols}
use Rattle.compiling_laws.proofs.Lists.{member_left, member_right, member_either, of_flat, of_map, member_flat}
use Rattle.step_laws.proofs.Lists.{every_at, every_from}
use Rattle.compiling_laws.proofs.Names.{fresh_is_new, fresh_is_name, every_append}
use Rattle.finishing_laws.proofs.Unreached.{predicates_of}
use Rattle.trajectory_laws.specs.Variables.{bound, action_variables, constraint_variables, names, renamings}
use Rattle.trajectory_laws.specs.Trajectory.{instances_of, constraint_instances, Watch, always, sometime, at_most_once, sometime_after, sometime_before, monitors, watched, all_watched, watches, watched_formulas, all_constraint_variables}
use Rattle.trajectory_laws.proofs.Kept.{rule_of}
use Rattle.trajectory_laws.proofs.Renamed.{bound-replaced}
use Rattle.trajectory_laws.proofs.NewNames.{AreNew, Within}
use Rattle.trajectory_laws.proofs.Running.{IsSetting}

-- ---- the instances watch the rules

rule_is : (used : List Name) (rule : Rule) → rule_of (watched used rule) ≡ rule
rule_is used (Always f) = refl
rule_is used (Sometime f) = refl
rule_is used (AtMostOnce f) = refl
rule_is used (SometimeAfter f g) = refl
rule_is used (SometimeBefore f g) = refl

pub rules_are : (used : List Name) (rules : List Rule) → map rule_of (all_watched used rules) ≡ rules
rules_are used [] = refl
rules_are used (rule ∷ rules) = λ i. rule_is used rule i ∷ rules_are (monitors (watched used rule) ++ used) rules i

pub formulas_are : (x : Watch) → watched_formulas x ≡ formulas_of (rule_of x)
formulas_are (always f) = refl
formulas_are (sometime f had) = refl
formulas_are (at_most_once f seen gone) = refl
formulas_are (sometime_after f g due) = refl
formulas_are (sometime_before f g was) = refl

pub substituted_formulas : (vars : List Typed) (tuple : List Name) (rule : Rule) → formulas_of (substituted_rule vars tuple rule) ≡ map (substituted vars tuple) (formulas_of rule)
substituted_formulas vars tuple (Always f) = refl
substituted_formulas vars tuple (Sometime f) = refl
substituted_formulas vars tuple (AtMostOnce f) = refl
substituted_formulas vars tuple (SometimeAfter f g) = refl
substituted_formulas vars tuple (SometimeBefore f g) = refl

-- ---- the monitors are new

-- names that differ, none of which is used
pub record AreFresh (ns used : List Name) : Type 0 where
  pub differ : Differ ns
  pub unused : (n : Name) → Member n ns → ¬ Member n used
  pub names_all : Every IsName ns

alone : (base : Name) (used : List Name) → IsName base → AreFresh (fresh_name base used ∷ []) used
alone base used is = record {
  differ = (λ m. m, tt);
  unused = unused;
  names_all = (fresh_is_name base used is, tt);
}
  where
    unused : (n : Name) → Member n (fresh_name base used ∷ []) → ¬ Member n used
    unused n (inl e) m = fresh_is_new base used (subst (λ x. Member x used) e m)
    unused n (inr k) m = k

had_name : IsName (codes "had")
unfolding reserved_words
had_name = record { spelled = refl; free = refl }

seen_name : IsName (codes "seen")
unfolding reserved_words
seen_name = record { spelled = refl; free = refl }

gone_name : IsName (codes "gone")
unfolding reserved_words
gone_name = record { spelled = refl; free = refl }

due_name : IsName (codes "due")
unfolding reserved_words
due_name = record { spelled = refl; free = refl }

was_name : IsName (codes "was")
unfolding reserved_words
was_name = record { spelled = refl; free = refl }

one_fresh : (used : List Name) (rule : Rule) → AreFresh (monitors (watched used rule)) used
one_fresh used (Always f) = record { differ = tt; unused = λ n m k. m; names_all = tt }
one_fresh used (Sometime f) = alone (codes "had") used had_name
one_fresh used (AtMostOnce f) = record {
  differ = (apart, (λ m. m, tt));
  unused = unused;
  names_all = (fresh_is_name (codes "seen") used seen_name, (fresh_is_name (codes "gone") (seen ∷ used) gone_name, tt));
}
  where
    seen : Name
    seen = fresh_name (codes "seen") used

    gone : Name
    gone = fresh_name (codes "gone") (fresh_name (codes "seen") used ∷ used)

    apart : ¬ Member (fresh_name (codes "seen") used) (fresh_name (codes "gone") (fresh_name (codes "seen") used ∷ used) ∷ [])
    apart (inl e) = fresh_is_new (codes "gone") (fresh_name (codes "seen") used ∷ used) (inl (sym e))
    apart (inr k) = k

    unused : (n : Name) → Member n (fresh_name (codes "seen") used ∷ fresh_name (codes "gone") (fresh_name (codes "seen") used ∷ used) ∷ []) → ¬ Member n used
    unused n (inl e) m = fresh_is_new (codes "seen") used (subst (λ x. Member x used) e m)
    unused n (inr (inl e)) m = fresh_is_new (codes "gone") (fresh_name (codes "seen") used ∷ used) (inr (subst (λ x. Member x used) e m))
    unused n (inr (inr k)) m = k
one_fresh used (SometimeAfter f g) = alone (codes "due") used due_name
one_fresh used (SometimeBefore f g) = alone (codes "was") used was_name

pub all_fresh : (used : List Name) (rules : List Rule) → AreFresh (flat_map monitors (all_watched used rules)) used
all_fresh used [] = record { differ = tt; unused = λ n m k. m; names_all = tt }
all_fresh used (rule ∷ rules) =
    let ms : List Name = monitors (watched used rule) in
    let rest : List Name = flat_map monitors (all_watched (ms ++ used) rules) in
    let one : AreFresh ms used = one_fresh used rule in
    let more : AreFresh rest (ms ++ used) = all_fresh (ms ++ used) rules in
    record {
      differ = differ_append ms rest one.differ more.differ (λ n m k. more.unused n k (member_left n ms used m));
      unused = λ n m k. elim (member_either n ms rest m) [ inl h ↦ one.unused n h k | inr h ↦ more.unused n h (member_right n ms used k) ];
      names_all = every_append IsName ms rest one.names_all more.names_all;
    }

-- ---- new names for bound variables

pub renamings_new : (added used : List Name) (params : List Typed) → Every (λ v. IsName v.name) params → AreNew (renamings added used params) used
renamings_new added used [] are = tt
renamings_new added used (v ∷ params) are = by (is_among added v.name) (renamings_new added (fresh_name v.name used ∷ used) params are.1) (renamings_new added used params are.1)
  where
    by : (b : Bool) → AreNew (renamings added (fresh_name v.name used ∷ used) params) (fresh_name v.name used ∷ used) → AreNew (renamings added used params) used →
        AreNew (cond b (record { old = v.name; new = fresh_name v.name used } ∷ renamings added (fresh_name v.name used ∷ used) params) (renamings added used params)) used
    by true new old = (fresh_is_new v.name used, fresh_is_name v.name used are.0, new)
    by false new old = old

-- ---- the setting

module _ (p : Parts) (formed : IsWellFormed p) where
  same_declared : Declares p p
  same_declared = record { types = λ t is. is; below = λ t above is. is; objects = λ o t is. is; predicates = λ name d is. is; functions = λ name d is. is }

  abbrev IsClosed : Formula → Type 0
  IsClosed f = IsFormula p p.objects [] f × IsPlain f × Within (bound f) (all_constraint_variables p)

  in_formulas : (c : Constraint) (f : Formula) → Member f (formulas_of c.rule) → Within (bound f) (constraint_variables c)
  in_formulas c f at v m = member_right v (names c.vars) (flat_map bound (formulas_of c.rule)) (member_flat bound f v (formulas_of c.rule) at m)

  instance_closed : (c : Constraint) → Member c p.constraints → (tuple : List Name) → Member tuple (tuples (world p) c.vars) → Every IsClosed (formulas_of (substituted_rule c.vars tuple c.rule))
  instance_closed c at tuple m =
      let is : IsConstraint p c = every_at (IsConstraint p) p.constraints c formed.constraints at in
      subst (Every IsClosed) (sym (substituted_formulas c.vars tuple c.rule))
      (every_from IsClosed (map (substituted c.vars tuple) (formulas_of c.rule)) (λ g k.
      let from : (f : Formula) × Member f (formulas_of c.rule) × (g ≡ substituted c.vars tuple f) = of_map (substituted c.vars tuple) (formulas_of c.rule) g k in
      let so : IsFormula p p.objects c.vars from.0 × IsPlain from.0 = every_at (λ f. IsFormula p p.objects c.vars f × IsPlain f) (formulas_of c.rule) from.0 is.formulas from.1 in
      subst IsClosed (sym from.2) (
        replaced_well p p formed same_declared p.objects c.vars [] (all_objects p) (replacement c.vars tuple) (covers_arguments p formed c.vars tuple is.vars.differ m) from.0 so.0,
        (plain_stays from.0 so.1).0 (replacement c.vars tuple),
        λ v h. member_flat constraint_variables c v p.constraints at (in_formulas c from.0 from.1 v (subst (Member v) (bound-replaced (replacement c.vars tuple) from.0) h)),
      )))

  rules_closed : Every (λ rule. Every IsClosed (formulas_of rule)) (constraint_instances p)
  rules_closed = every_from (λ rule. Every IsClosed (formulas_of rule)) (constraint_instances p) (λ rule m.
      let c : (c : Constraint) × Member c p.constraints × Member rule (instances_of (world p) c) = of_flat (instances_of (world p)) rule p.constraints m in
      let tuple : (tuple : List Name) × Member tuple (tuples (world p) c.0.vars) × (rule ≡ substituted_rule c.0.vars tuple c.0.rule) =
      of_map (λ tuple. substituted_rule c.0.vars tuple c.0.rule) (tuples (world p) c.0.vars) rule c.2 in
      subst (λ rule. Every IsClosed (formulas_of rule)) (sym tuple.2) (instance_closed c.0 c.1 tuple.0 tuple.1))

  watches_closed : (xs : List Watch) → Every (λ rule. Every IsClosed (formulas_of rule)) (map rule_of xs) → Every (λ x. Every IsClosed (watched_formulas x)) xs
  watches_closed [] h = tt
  watches_closed (x ∷ xs) h = (subst (Every IsClosed) (sym (formulas_are x)) h.0, watches_closed xs h.1)

  pub setting : IsSetting p (all_constraint_variables p) (watches p)
  setting =
      let fresh : AreFresh (flat_map monitors (watches p)) (symbols p) = all_fresh (symbols p) (constraint_instances p) in
      record {
        formed = formed;
        new = λ m at k. fresh.unused m at (member_left m (predicates_of p) (map (λ d. d.name) p.functions) k);
        differ = fresh.differ;
        closed = watches_closed (watches p) (subst (Every (λ rule. Every IsClosed (formulas_of rule))) (sym (rules_are (symbols p) (constraint_instances p))) rules_closed);
        renewed = λ a m.
            let is : IsAction p a = every_at (IsAction p) p.actions a formed.actions m in
            renamings_new (flat_map (λ x. flat_map bound (watched_formulas x)) (watches p)) (action_variables a ++ all_constraint_variables p) a.params is.params.names_all;
      }
