-- A finished problem is compiled.
use Rattle.std.proofs.Common.{◌≡◌, Bool, true, false, codes, List, [], ◌∷◌, ◌++◌, map, IsSomeAnd, refl, ap, sym, ◌∙◌, subst, inl, inr, append-nil}
use Rattle.std.specs.Prelude.{if◌then◌else◌}
use Rattle.up_text.specs.declared.name.Name.{Name}
use Rattle.up_text.specs.Names.{IsName, reserved_words}
use Rattle.up_text.specs.Fresh.{fresh_name}
use Rattle.up_text.specs.Lists.{Every, Member, Differ}
use Rattle.up_tree.specs.declared.term.Term.{Term, Var}
use Rattle.up_tree.specs.declared.truth.Truth.TheVariants as truth
use Rattle.up_tree.specs.declared.formula.Formula.{Formula, Atom}
use Rattle.up_tree.specs.declared.action.Action.{Action}
use Rattle.up_tree.specs.declared.problem.Parts.{Parts}
use Rattle.up_tree.specs.declared.problem.Predicate.{Predicate}
use Rattle.up_tree.specs.Objects.{World, world, Assignment, unassigned}
use Rattle.up_tree.specs.State.{State, Holds, ground, init}
use Rattle.up_tree.specs.Truth.{True}
use Rattle.up_tree.specs.Plans.{OfLast, Plans}
use Rattle.up_tree.specs.Simplify.{Oracle, is_false_formula, simplified}
use Rattle.up_tree.specs.WellFormed.{TermsFit, IsFormula, IsAction, IsFact, IsWellFormed, IsType}
use Rattle.up_tree.proofs.Apart.{apart}
use Rattle.up_tree.proofs.Judging.{judged}
use Rattle.up_kind.specs.Features.{IsSubset, FeatureSet}
use Rattle.up_kind.specs.Carried.{anywhere, carries}
use Rattle.up_compiler.specs.declared.back.Entry.{Entry}
use Rattle.up_compiler.specs.Back.{IsBack, AreOf, LeadsTo}
use Rattle.up_compiler.specs.Compose.{composed}
use Rattle.up_compiler.specs.Identity.{identity_entry}
use Rattle.same_plans.specs.SamePlans.{SamePlans}
use Rattle.same_plans.proofs.Identity.{identity_same}
use Rattle.semantics_laws.specs.Symbols.{predicate}
use Rattle.condition_laws.specs.Oracles.{IsInitial, IsChanged}
use Rattle.condition_laws.specs.Problems.{simple_problem}
use Rattle.condition_laws.proofs.Holding.{none}
use Rattle.condition_laws.proofs.Simplifying.{of_never}
use Rattle.condition_laws.proofs.Problems.{simple_problems_keep_plans, simple_problems_keep_metrics, simple_problems_carry}
use Rattle.condition_laws.proofs.Declaring.{simple_problems_are_formed}
use Rattle.step_laws.specs.Naming.{Stands, entry_of, new_actions}
use Rattle.step_laws.specs.Compiled.{IsCompiled}
use Rattle.step_laws.proofs.Unchanged.{entries_are, source_compiled}
use Rattle.step_laws.proofs.Together.{two_compile, weaker}
use Rattle.step_laws.proofs.Lists.{every_from}
use Rattle.compiling_laws.proofs.Lists.{member_left}
use Rattle.compiling_laws.proofs.Names.{fresh_is_new, fresh_is_name, new_names_of, every_append}
use Rattle.compiling_laws.proofs.Entries.{leads_from}
use Rattle.compiling_laws.proofs.Declared.{last_found, more_are_declared}
use Rattle.compiling_laws.specs.Forms.{symbols}
use Rattle.compiling_laws.specs.Quieter.{IsQuieter}
use Rattle.finishing_laws.specs.Finished.{Goal, goal_rule, themselves, finished_by, finished, AreUsed}
use Rattle.compiling_laws.proofs.More.{action_stays, fact_stays, numbers_stay, values_stay, metric_stays, constraint_stays, gives_stay}
use Rattle.finishing_laws.proofs.Left.{left, simple, news, left_new, news_themselves, left_entries, IsLeft, of_left, composed_left, entries_found, entries_within}
use Rattle.finishing_laws.proofs.Unreached.{predicates_of, changed_among, holds_among, never_reached}
use Rattle.compiling_laws.proofs.Goals.{goal_carries}
use Rattle.semantics_laws.proofs.Lists.{each_as}

-- ---- no state is last

no_last : (Q : State → Type 0) → ((s : State) → Q s → ⊥) → (states : List State) → OfLast Q states → ⊥
no_last Q h [] last = last
no_last Q h (s ∷ []) last = h s last
no_last Q h (s ∷ t ∷ rest) last = no_last Q h (t ∷ rest) last

never_true : (w : World) (s : State) (e : Assignment) (f : Formula) → is_false_formula f ≡ true → True w s e f → ⊥
never_true w s e f is holds = apart w s e f holds (judged w s e f truth.False (sym (of_never w s e f is)))

-- a goal of which no feature asks
abbrev quiet : Formula
quiet = Atom [] (Var [] ∷ [])

atom_quiet : (name : Name) (ts : List Term) (f : Formula) → IsQuieter (Atom name ts) f
unfolding anywhere
atom_quiet name ts f = record {
  negations = λ h. none refl h;
  disjunctive = λ h. none refl h;
  equalities = λ h. none refl h;
  existential = λ h. none refl h;
  universal = λ h. none refl h;
  comparisons = λ h. none refl h;
}

never_is_name : IsName (codes "never")
unfolding reserved_words
never_is_name = record { spelled = refl; free = refl }

old_member : (actions : List Action) (pair : Stands) → Member pair (themselves actions) → Member pair.old actions
old_member [] pair m = absurd m
old_member (a ∷ actions) pair (inl e) = inl (ap (λ (s : Stands). s.old) e)
old_member (a ∷ actions) pair (inr m) = inr (old_member actions pair m)

module _ (used : List Name) (oracle : Oracle) (p : Parts) (well : IsWellFormed p) (initial : IsInitial p oracle) (are : AreUsed p used) where
  abbrev name : Name
  name = fresh_name (codes "never") used

  abbrev never : Predicate
  never = record { name = name; args = [] }

  abbrev acts : List Action
  acts = simple (world p) oracle p.actions

  abbrev goal : Formula
  goal = simplified (world p) oracle p.goal

  abbrev entries : List Entry
  entries = map identity_entry acts

  abbrev kept : Parts
  kept = simple_problem oracle p

  abbrev lost : Parts
  lost = record p { predicates = p.predicates ++ never ∷ []; actions = acts; goal = Atom name [] }

  kept_formed : IsWellFormed kept
  kept_formed = simple_problems_are_formed oracle p well

  new : ¬ Member name (symbols p)
  new m = fresh_is_new (codes "never") used (are name m)

  new_there : ¬ Member name (predicates_of p)
  new_there m = new (member_left name (predicates_of p) _ m)

  lost_goal : IsFormula lost p.objects [] (Atom name [])
  unfolding IsFormula
  lost_goal = subst (λ found. IsSomeAnd found (λ (d : Predicate). TermsFit lost p.objects [] [] d.args)) (sym (last_found p.predicates never new_there)) tt

  lost_formed : IsWellFormed lost
  lost_formed = record {
    domain = well.domain;
    name = well.name;
    types = well.types;
    top_free = well.top_free;
    chains = well.chains;
    objects = well.objects;
    object_types = well.object_types;
    constants = well.constants;
    symbols = more_are_declared p (never ∷ []) well.symbols (record { names_all = (fresh_is_name (codes "never") used never_is_name, tt); differ = (λ m. m, tt) })
        (λ n m. elim m [ inl e ↦ subst (λ x. ¬ Member x (symbols p)) (sym e) new | inr more ↦ absurd more ]);
    predicate_types = every_append (λ (d : Predicate). Every (IsType lost) d.args) p.predicates (never ∷ []) well.predicate_types (tt, tt);
    function_types = well.function_types;
    value_types = each_as _ _ (λ d k. gives_stay kept lost (never ∷ []) d.gives k) p.functions well.value_types;
    action_names = kept_formed.action_names;
    actions = each_as (IsAction kept) (IsAction lost) (λ a k. action_stays kept lost (never ∷ []) a k) acts kept_formed.actions;
    goal = lost_goal;
    atoms = each_as (IsFact kept) (IsFact lost) (λ f k. fact_stays kept lost (never ∷ []) f k) p.atoms kept_formed.atoms;
    atoms_differ = well.atoms_differ;
    numbers = each_as _ _ (λ n k. numbers_stay kept lost (never ∷ []) n k) p.numbers kept_formed.numbers;
    numbers_differ = well.numbers_differ;
    values = each_as _ _ (λ v k. values_stay kept lost (never ∷ []) v k) p.values kept_formed.values;
    values_differ = well.values_differ;
    metric = metric_stays kept lost (never ∷ []) p.metric kept_formed.metric;
    constraints = each_as _ _ (λ c k. constraint_stays kept lost (never ∷ []) c k) p.constraints kept_formed.constraints;
  }

  -- ---- entries

  pub differ : Differ (map (λ (a : Action). a.name) acts)
  differ = kept_formed.action_names.differ

  entries_rows : AreOf acts entries
  entries_rows = subst (AreOf acts) (entries_are acts differ) (source_compiled kept kept_formed).entries

  entries_fit : IsBack entries
  entries_fit = subst IsBack (entries_are acts differ) (source_compiled kept kept_formed).fit

  entries_lead : LeadsTo p entries
  entries_lead = subst (LeadsTo p) (left_entries (world p) oracle p.actions)
      (leads_from p well.action_names.differ (left (world p) oracle (themselves p.actions))
      (every_from _ (left (world p) oracle (themselves p.actions)) (λ pair m.
      let k : IsLeft (world p) oracle (themselves p.actions) pair = of_left (world p) oracle (themselves p.actions) pair m in
      subst (λ a. Member a p.actions) (sym k.old) (old_member p.actions k.from k.member))))

  -- ---- plans

  same_kept : SamePlans kept kept entries
  same_kept = subst (SamePlans kept kept) (entries_are acts differ) (identity_same kept)

  plans_kept : SamePlans p kept entries
  plans_kept = record {
    sound = λ b valid.
        let k = same_kept.sound b valid in (
          k.0,
          k.1,
          (simple_problems_keep_plans oracle p well initial k.0).0 k.2,
          λ v. (
            λ h. (k.3 v).0 ((simple_problems_keep_metrics oracle p well initial k.0 v).1 h),
            λ h. (simple_problems_keep_metrics oracle p well initial k.0 v).0 ((k.3 v).1 h),
          ),
        );
    complete = λ a valid. same_kept.complete a ((simple_problems_keep_plans oracle p well initial a).1 valid);
  }

  unchanged : ¬ IsChanged lost (predicate name)
  unchanged is = new_there (changed_among kept acts name kept_formed.actions is)

  absent : ¬ Holds (init lost) (ground name [])
  unfolding init
  absent there = new_there (holds_among p name [] well.atoms there)

  plans_lost : is_false_formula goal ≡ true → SamePlans p lost entries
  plans_lost is = record {
    sound = λ b valid. absurd (never_reached lost name refl unchanged absent b (valid.0, valid.1, valid.2));
    complete = λ a valid.
        let k : Plans kept a = (simple_problems_keep_plans oracle p well initial a).1 valid in
        absurd (no_last (λ s. True (world p) s unassigned goal) (λ s holds. never_true (world p) s unassigned goal is holds) k.0 k.2);
  }

  -- ---- features

  lost_features : IsSubset (carries lost) (carries p)
  unfolding simplified
  lost_features f h =
      goal_carries p p.predicates quiet (atom_quiet [] (Var [] ∷ []) p.goal) f
      (simple_problems_carry oracle (record p { goal = quiet }) refl f
      (goal_carries (simple_problem oracle (record p { goal = quiet })) (p.predicates ++ never ∷ []) (Atom name []) (atom_quiet name [] quiet) f h))

  compiled_kept : is_false_formula goal ≡ false → IsCompiled (carries p) p kept entries
  compiled_kept is = record {
    formed = λ h. kept_formed;
    features = simple_problems_carry oracle p is;
    metric = refl;
    entries = entries_rows;
    fit = entries_fit;
    leads = entries_lead;
    plans = plans_kept;
  }

  compiled_lost : is_false_formula goal ≡ true → IsCompiled (carries p) p lost entries
  compiled_lost is = record {
    formed = λ h. lost_formed;
    features = lost_features;
    metric = refl;
    entries = entries_rows;
    fit = entries_fit;
    leads = entries_lead;
    plans = plans_lost is;
  }

  abbrev ruled : Bool → Goal
  ruled b = if b then record { formula = Atom name []; predicates = never ∷ [] } else record { formula = goal; predicates = [] }

  by_rule : (b : Bool) → is_false_formula goal ≡ b → IsCompiled (carries p) p (record p { predicates = p.predicates ++ (ruled b).predicates; actions = acts; goal = (ruled b).formula }) entries
  by_rule true is = compiled_lost is
  by_rule false is = subst (λ ds. IsCompiled (carries p) p (record p { predicates = ds; actions = acts; goal = goal }) entries) (sym (append-nil p.predicates)) (compiled_kept is)

  left_acts : news (world p) oracle (left (world p) oracle (themselves p.actions)) ≡ acts
  left_acts = left_new (world p) oracle (themselves p.actions) ∙ ap (simple (world p) oracle) (news_themselves (world p) oracle p.actions)

  pub compiled : IsCompiled (carries p) p (finished used oracle p).parts (finished used oracle p).entries
  compiled =
      subst (λ actions. IsCompiled (carries p) p (record p { predicates = p.predicates ++ (goal_rule used goal).predicates; actions = actions; goal = (goal_rule used goal).formula }) (finished used oracle p).entries)
      (sym left_acts)
      (subst (IsCompiled (carries p) p (record p { predicates = p.predicates ++ (goal_rule used goal).predicates; actions = acts; goal = (goal_rule used goal).formula }))
      (sym (left_entries (world p) oracle p.actions)) (by_rule (is_false_formula goal) refl))

pub finish_compiles : (used : List Name) (oracle : Oracle) (p : Parts) → IsWellFormed p → IsInitial p oracle → AreUsed p used →
    IsCompiled (carries p) p (finished used oracle p).parts (finished used oracle p).entries
finish_compiles used oracle p well initial are = compiled used oracle p well initial are

-- ---- what is compiled and then finished

pub compiled_finish : (K : FeatureSet) (p r : Parts) (pairs : List Stands) → r.actions ≡ new_actions pairs → IsCompiled K p r (map entry_of pairs) →
    (used : List Name) (oracle : Oracle) → IsWellFormed p → IsInitial r oracle → AreUsed r used →
    IsCompiled K p (finished_by used oracle r pairs).parts (finished_by used oracle r pairs).entries
compiled_finish K p r pairs news_are first used oracle well initial are =
    let formed : IsWellFormed r = first.formed well in
    let m : List Entry = map entry_of pairs in
    let actions : news (world r) oracle (left (world r) oracle (themselves r.actions)) ≡ news (world r) oracle (left (world r) oracle pairs) =
    left_acts used oracle r formed initial are ∙ ap (simple (world r) oracle) news_are ∙ sym (left_new (world r) oracle pairs) in
    let names : map (λ (pair : Stands). pair.new.name) pairs ≡ map (λ (a : Action). a.name) r.actions = sym (new_names_of pairs) ∙ ap (λ actions. map (λ (a : Action). a.name) actions) (sym news_are) in
    let differ : Differ (map (λ (pair : Stands). pair.new.name) pairs) = subst Differ (sym names) formed.action_names.differ in
    let entries : composed m (finished used oracle r).entries ≡ (finished_by used oracle r pairs).entries =
    ap (λ actions. composed m (map entry_of (left (world r) oracle (themselves actions)))) news_are
    ∙ composed_left (world r) oracle m pairs (entries_found pairs differ) (entries_within pairs first.fit.within) in
    let whole : IsCompiled (carries r) p (finished used oracle r).parts (composed m (finished used oracle r).entries) =
    two_compile K (carries r) p r (finished used oracle r).parts m (finished used oracle r).entries first (compiled used oracle r formed initial are) in
    let goal : Goal = goal_rule used (simplified (world r) oracle r.goal) in
    subst (λ actions. IsCompiled K p (record r { predicates = r.predicates ++ goal.predicates; actions = actions; goal = goal.formula }) (finished_by used oracle r pairs).entries) actions
    (subst (IsCompiled K p (finished used oracle r).parts) entries
    (weaker (carries r) K p (finished used oracle r).parts (composed m (finished used oracle r).entries) first.features whole))
