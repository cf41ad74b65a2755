-- What the compiler owes: the problem with twins is compiled from the source.
use Rattle.std.proofs.Common.{◌≡◌, ◌≤◌, Bool, true, false, cond, ◌&&◌, ◌||◌, codes, List, [], ◌∷◌, map, length, Option, Some, None, option_map, IsTrue, refl, ap, sym, ◌∙◌, subst, inl, inr, arith}
use Rattle.std.specs.Prelude.{if◌then◌else◌}
use Rattle.std.specs.List.{filter_map, cons_option}
use Rattle.up_text.specs.declared.name.Name.{Name}
use Rattle.up_text.specs.Fresh.{fresh_name}
use Rattle.up_text.specs.Lists.{Every, Member, Differ}
use Rattle.up_tree.specs.declared.formula.Formula.{Formula, And', Or', Atom, Equal, Compare, Row_of-Formula, end_of-Formula, more_of-Formula, items-the_row-Formula}
use Rattle.up_tree.specs.declared.formula.Formula.TheBlock.{hidden-the_row-Formula-0}
use denote.Hole.Carrier
use Rattle.up_tree.specs.Nodes.{not, imply, exists, forall}
use Rattle.up_tree.specs.declared.action.Row.{Row}
use Rattle.up_tree.specs.declared.action.Action.{Action}
use Rattle.up_tree.specs.declared.problem.Parts.{Parts}
use Rattle.up_tree.specs.Normal.{nnf}
use Rattle.up_tree.specs.Objects.{World, world}
use Rattle.up_tree.specs.Simplify.{Oracle, knows_nothing, is_empty, true_formula, is_true_formula, is_false_formula, simplified, simple_row, simple_action}
use Rattle.up_tree.specs.WellFormed.{IsWellFormed}
use Rattle.up_kind.specs.declared.feature.Feature.TheVariants.{FlatTyping, HierarchicalTyping, ActionParameters, NegativeConditions, DisjunctiveConditions, Equalities, ExistentialConditions, UniversalConditions, ConditionalEffects, ForallEffects, ObjectFluents, NumericFluents, NumericConditions, NumericEffects, ScaleEffects, Metric, TrajectoryConstraints, EffectOverlap, ObjectTermsUnderForall, PartialFluents}
use Rattle.up_kind.specs.Features.{FeatureSet, IsSubset, is_in, either, minus}
use Rattle.up_kind.specs.Carried.{carries}
use Rattle.up_compiler.specs.declared.back.Entry.{Entry}
use Rattle.up_compiler.specs.declared.back.Target.TheVariants.{Keep}
use Rattle.up_compiler.specs.declared.id.CompilerId.TheVariants.{Negations}
use Rattle.up_compiler.specs.Back.{IsWithin, entry_named}
use Rattle.up_compiler.specs.Compose.{through_entry, composed, composed_entry}
use Rattle.up_compiler.specs.Identity.{arguments, identity_entry}
use Rattle.up_compiler.specs.Table.{admits, only_if, row_result}
use Rattle.up_compiler.proofs.Rows.{admits_subset}
use Rattle.condition_laws.specs.Shapes.{IsNormal}
use Rattle.condition_laws.proofs.Forming.{nnf_normal}
use Rattle.condition_laws.proofs.Staying.{simplified_is_normal}
use Rattle.condition_laws.proofs.Stepping.{nothing_is_initial}
use Rattle.step_laws.specs.Naming.{Stands, entry_of, Made}
use Rattle.step_laws.specs.Compiled.{IsCompiled, IsCompilation, Owes}
use Rattle.step_laws.proofs.Together.{two_compile, weaker}
use Rattle.compiling_laws.proofs.Lists.{false_true, none_some, some_same, of_map}
use Rattle.step_laws.proofs.Lists.{every_from}
use Rattle.compiling_laws.specs.Forms.{symbols}
use Rattle.finishing_laws.specs.Finished.{Goal, goal_rule, finished_by}
use Rattle.finishing_laws.specs.Rewritten.{rewritten}
use Rattle.finishing_laws.proofs.Finishing.{compiled_finish}
use Rattle.finishing_laws.proofs.Left.{left, left_new, IsLeft, of_left, resolve, entries_found, entries_within}
use Rattle.finishing_laws.proofs.Rewritten.{rewritten_news}
use Rattle.negations_laws.specs.Twins.{words, positive_action, twin_pairs, twinned}
use Rattle.negations_laws.specs.Kinds.{normal_kind, positive_kind}
use Rattle.negations_laws.specs.Negations.{normal_action, normal_form, simple_normal, simple_form, negations}
use Rattle.negations_laws.proofs.Normals.{normal_is_compiled}
use Rattle.negations_laws.proofs.Admitted.{IsReady, admits_normal, all_always}
use Rattle.negations_laws.proofs.Doing.{AreAlways}
use Rattle.compiling_laws.specs.Same.{same_formula, same_row}
use Rattle.compiling_laws.proofs.Same.{same_decides}
use Rattle.condition_laws.proofs.ActionFeatures.{simple_actions_carry}
use Rattle.negations_laws.proofs.Twinned.{twinned_is_compiled}

-- ---- the entries stay

abbrev twin_pair : Parts → Action → Stands
twin_pair n a = record { new = positive_action (words n) a; old = a }

-- by the map, the entries of actions with twins are those of the pairs
composed_twins : (n : Parts) (m : List Entry) (pairs : List Stands) → Every (λ (pair : Stands). entry_named m pair.new.name ≡ Some (entry_of pair)) pairs →
    Every (λ (pair : Stands). Every (IsWithin (length pair.new.params)) (arguments (length pair.old.params))) pairs →
    composed m (map entry_of (map (twin_pair n) (map (λ (pair : Stands). pair.new) pairs))) ≡ map entry_of pairs
composed_twins n m [] found within = refl
composed_twins n m (pair ∷ pairs) found within = λ i. target i ∷ composed_twins n m pairs found.1 within.1 i
  where
    target : composed_entry m (entry_of (twin_pair n pair.new)) ≡ entry_of pair
    target =
        ap (λ found. let e : Entry = record { action = pair.new.name; arity = length pair.new.params; target = through_entry (arguments (length pair.new.params)) found } in e) found.0
        ∙ ap (λ items. let e : Entry = record { action = pair.new.name; arity = length pair.new.params; target = Keep pair.old.name items } in e)
        (resolve (length pair.new.params) (arguments (length pair.old.params)) within.0)

-- ---- the simplified problem is in normal form

simple_pre : (w : World) (oracle : Oracle) (a b : Action) → simple_action w oracle a ≡ Some b → b.pre ≡ simplified w oracle a.pre
simple_pre w oracle a b = by (is_false_formula (simplified w oracle a.pre))
  where
    by : (never : Bool) → (if never then None else Some (let c : Action = record { name = a.name; params = a.params; pre = simplified w oracle a.pre; rows = filter_map (simple_row w oracle) a.rows } in c)) ≡ Some b →
        b.pre ≡ simplified w oracle a.pre
    by true is = none_some is
    by false is = sym (ap (λ (c : Action). c.pre) (some_same _ b is))

of_rewritten : (actions : List Action) (pair : Stands) → Member pair (rewritten normal_action actions) → (a : Action) × (pair.new ≡ normal_action a)
of_rewritten [] pair m = absurd m
of_rewritten (a ∷ actions) pair (inl e) = (a, ap (λ (s : Stands). s.new) e)
of_rewritten (a ∷ actions) pair (inr m) = of_rewritten actions pair m

atom_normal : (name : Name) → IsNormal (Atom name [])
unfolding IsNormal
atom_normal name = tt

ruled_normal : (used : List Name) (goal : Formula) → IsNormal goal → IsNormal (goal_rule used goal).formula
ruled_normal used goal h = by (is_false_formula goal)
  where
    by : (b : Bool) → IsNormal (if b then (let g : Goal = record { formula = Atom (fresh_name (codes "never") used) []; predicates = record { name = fresh_name (codes "never") used; args = [] } ∷ [] } in g)
        else (let g : Goal = record { formula = goal; predicates = [] } in g)).formula
    by true = atom_normal (fresh_name (codes "never") used)
    by false = h

ruled_few : (used : List Name) (goal : Formula) → length (goal_rule used goal).predicates ≤ 1
ruled_few used goal = by (is_false_formula goal)
  where
    by : (b : Bool) → length (if b then (let g : Goal = record { formula = Atom (fresh_name (codes "never") used) []; predicates = record { name = fresh_name (codes "never") used; args = [] } ∷ [] } in g)
        else (let g : Goal = record { formula = goal; predicates = [] } in g)).predicates ≤ 1
    by true = omega arith
    by false = omega arith

-- ---- rows whose condition is `true`

row_told : {n : _} (fs : Row_of-Formula n) → is_empty (items-the_row-Formula _ fs) ≡ true → same_row fs (hidden-the_row-Formula-0 []) ≡ true
unfolding same_row hidden-the_row-Formula-0 Carrier.hidden
row_told end_of-Formula h = refl
row_told (more_of-Formula f fs) h = false_true h

always_is : (f : Formula) → is_true_formula f ≡ true → f ≡ true_formula
unfolding same_formula
always_is (And' n fs) h = (same_decides (And' n fs) true_formula).0 (row_told fs h)
always_is (Or' n fs) h = false_true h
always_is (not f) h = false_true h
always_is (imply f g) h = false_true h
always_is (exists vars f) h = false_true h
always_is (forall vars f) h = false_true h
always_is (Atom name ts) h = false_true h
always_is (Equal t u) h = false_true h
always_is (Compare r a b) h = false_true h

simple_always : (w : World) (oracle : Oracle) → simplified w oracle true_formula ≡ true_formula
unfolding simplified hidden-the_row-Formula-0 Carrier.hidden
simple_always w oracle = refl

row_stays : (w : World) (oracle : Oracle) (r : Row) → is_true_formula r.when ≡ true → simple_row w oracle r ≡ Some r
row_stays w oracle r h =
    let is : r.when ≡ true_formula = always_is r.when h in
    let when : simplified w oracle r.when ≡ r.when = ap (simplified w oracle) is ∙ simple_always w oracle ∙ sym is in
    let possible : is_false_formula (simplified w oracle r.when) ≡ false = ap is_false_formula (when ∙ is) in
    λ i. cond (possible i) None (Some (let x : Row = record { vars = r.vars; when = when i; effect = r.effect } in x))

rows_stay : (w : World) (oracle : Oracle) (rows : List Row) → AreAlways rows → filter_map (simple_row w oracle) rows ≡ rows
rows_stay w oracle [] h = refl
rows_stay w oracle (r ∷ rows) h = λ i. cons_option (row_stays w oracle r h.0 i) (rows_stay w oracle rows h.1 i)

pub simple_is : (w : World) (a : Action) → AreAlways a.rows → simple_action w knows_nothing (normal_action a) ≡ simple_normal w a
simple_is w a h =
    ap (λ rows. cond (is_false_formula (simplified w knows_nothing (nnf a.pre))) None
    (Some (let b : Action = record { name = a.name; params = a.params; pre = simplified w knows_nothing (nnf a.pre); rows = rows } in b))) (rows_stay w knows_nothing a.rows h)

-- each action that is left stands for the one of its name
entries_left : (w : World) (actions : List Action) →
    map entry_of (left w knows_nothing (rewritten normal_action actions)) ≡ map identity_entry (filter_map (simple_action w knows_nothing) (map normal_action actions))
entries_left w [] = refl
entries_left w (a ∷ actions) = by (simple_action w knows_nothing (normal_action a)) refl (entries_left w actions)
  where
    by : (o : Option Action) → simple_action w knows_nothing (normal_action a) ≡ o →
        map entry_of (left w knows_nothing (rewritten normal_action actions)) ≡ map identity_entry (filter_map (simple_action w knows_nothing) (map normal_action actions)) →
        map entry_of (cons_option (option_map (λ new. let s : Stands = record { new = new; old = a } in s) o) (left w knows_nothing (rewritten normal_action actions)))
        ≡ map identity_entry (cons_option o (filter_map (simple_action w knows_nothing) (map normal_action actions)))
    by None at e = e
    by (Some b) at e =
        let is = simple_actions_carry w knows_nothing (normal_action a) b at in
        λ i. (record { action = b.name; arity = length b.params; target = Keep (sym is.name i) (arguments (length (sym is.params i))) }) ∷ e i

-- ---- the row of the table

plain : (j k d x : Bool) → (j ≡ true → ((k || (d && false)) || (x && false)) ≡ true) → ((j && true) || false) ≡ true → ((k && true) || (false || (x && false))) ≡ true
plain j true d x h is = refl
plain false false d x h is = false_true is
plain true false true true h is = h refl
plain true false true false h is = h refl
plain true false false true h is = h refl
plain true false false false h is = h refl

quantified : (j k d x : Bool) → (j ≡ true → ((k || (d && false)) || (x && true)) ≡ true) → ((j && true) || false) ≡ true → ((k && true) || (false || (x && true))) ≡ true
quantified j true d x h is = refl
quantified j false d true h is = refl
quantified false false d false h is = false_true is
quantified true false true false h is = h refl
quantified true false false false h is = h refl

last_true : (a : Bool) → (a || true) ≡ true
last_true true = refl
last_true false = refl

within_row : (J K : FeatureSet) → IsSubset J (normal_kind K) → IsSubset (positive_kind J) (row_result Negations K)
unfolding either minus only_if is_in
within_row J K sub NegativeConditions h = false_true (sym (none (J NegativeConditions)) ∙ h)
  where
    none : (a : Bool) → ((a && false) || false) ≡ false
    none true = refl
    none false = refl
within_row J K sub EffectOverlap h = last_true (K EffectOverlap && true)
within_row J K sub ExistentialConditions h = quantified (J ExistentialConditions) (K ExistentialConditions) (K DisjunctiveConditions) _ (sub ExistentialConditions) h
within_row J K sub UniversalConditions h = quantified (J UniversalConditions) (K UniversalConditions) (K DisjunctiveConditions) _ (sub UniversalConditions) h
within_row J K sub FlatTyping h = plain (J FlatTyping) (K FlatTyping) (K DisjunctiveConditions) _ (sub FlatTyping) h
within_row J K sub HierarchicalTyping h = plain (J HierarchicalTyping) (K HierarchicalTyping) (K DisjunctiveConditions) _ (sub HierarchicalTyping) h
within_row J K sub ActionParameters h = plain (J ActionParameters) (K ActionParameters) (K DisjunctiveConditions) _ (sub ActionParameters) h
within_row J K sub DisjunctiveConditions h = plain (J DisjunctiveConditions) (K DisjunctiveConditions) (K DisjunctiveConditions) _ (sub DisjunctiveConditions) h
within_row J K sub Equalities h = plain (J Equalities) (K Equalities) (K DisjunctiveConditions) _ (sub Equalities) h
within_row J K sub ConditionalEffects h = plain (J ConditionalEffects) (K ConditionalEffects) (K DisjunctiveConditions) _ (sub ConditionalEffects) h
within_row J K sub ForallEffects h = plain (J ForallEffects) (K ForallEffects) (K DisjunctiveConditions) _ (sub ForallEffects) h
within_row J K sub ObjectFluents h = plain (J ObjectFluents) (K ObjectFluents) (K DisjunctiveConditions) _ (sub ObjectFluents) h
within_row J K sub NumericFluents h = plain (J NumericFluents) (K NumericFluents) (K DisjunctiveConditions) _ (sub NumericFluents) h
within_row J K sub NumericConditions h = plain (J NumericConditions) (K NumericConditions) (K DisjunctiveConditions) _ (sub NumericConditions) h
within_row J K sub NumericEffects h = plain (J NumericEffects) (K NumericEffects) (K DisjunctiveConditions) _ (sub NumericEffects) h
within_row J K sub ScaleEffects h = plain (J ScaleEffects) (K ScaleEffects) (K DisjunctiveConditions) _ (sub ScaleEffects) h
within_row J K sub Metric h = plain (J Metric) (K Metric) (K DisjunctiveConditions) _ (sub Metric) h
within_row J K sub TrajectoryConstraints h = plain (J TrajectoryConstraints) (K TrajectoryConstraints) (K DisjunctiveConditions) _ (sub TrajectoryConstraints) h
within_row J K sub ObjectTermsUnderForall h = plain (J ObjectTermsUnderForall) (K ObjectTermsUnderForall) (K DisjunctiveConditions) _ (sub ObjectTermsUnderForall) h
within_row J K sub PartialFluents h = plain (J PartialFluents) (K PartialFluents) (K DisjunctiveConditions) _ (sub PartialFluents) h

-- ---- the whole

module _ (p : Parts) (well : IsWellFormed p) (admitted : IsTrue (admits Negations (carries p))) where
  abbrev r : Parts
  r = normal_form p

  abbrev pairs : List Stands
  pairs = rewritten normal_action p.actions

  abbrev lefts : List Stands
  lefts = left (world p) knows_nothing pairs

  abbrev made : Made
  made = finished_by (symbols p) knows_nothing r pairs

  abbrev n : Parts
  n = made.parts

  abbrev K : FeatureSet
  K = normal_kind (carries p)

  pub simple_compiles : IsCompiled K p n made.entries
  simple_compiles =
      compiled_finish K p r pairs (sym (rewritten_news normal_action p.actions)) (normal_is_compiled p well admitted) (symbols p) knows_nothing well (nothing_is_initial r) (λ name m. m)

  goal_normal : IsNormal n.goal
  goal_normal = ruled_normal (symbols p) (simplified (world p) knows_nothing (nnf p.goal)) (simplified_is_normal (world p) knows_nothing (nnf p.goal) (nnf_normal p.goal))

  action_normal : (a : Action) → Member a n.actions → IsNormal a.pre
  action_normal a m =
      let pair = of_map (λ (pair : Stands). pair.new) lefts a m in
      let is : IsLeft (world p) knows_nothing pairs pair.0 = of_left (world p) knows_nothing pairs pair.0 pair.1 in
      let b = of_rewritten p.actions is.from is.member in
      let pre : a.pre ≡ simplified (world p) knows_nothing (nnf b.0.pre) =
      ap (λ (a : Action). a.pre) pair.2 ∙ simple_pre (world p) knows_nothing is.from.new pair.0.new is.simple ∙ ap (λ (a : Action). simplified (world p) knows_nothing a.pre) b.1 in
      subst IsNormal (sym pre) (simplified_is_normal (world p) knows_nothing (nnf b.0.pre) (nnf_normal b.0.pre))

  pub ready : IsReady n
  ready = record {
    formed = simple_compiles.formed well;
    normal = (
      goal_normal,
      every_from IsNormal (map (λ (a : Action). a.pre) n.actions) (λ f m. let a = of_map (λ (a : Action). a.pre) n.actions f m in subst IsNormal (sym a.2) (action_normal a.0 a.1)),
    );
    admitted = admits_subset (carries n) K simple_compiles.features Negations (admits_normal (carries p) admitted);
  }

  new_names : (xs : List Stands) → map (λ (e : Entry). e.action) (map entry_of xs) ≡ map (λ (pair : Stands). pair.new.name) xs
  new_names [] = refl
  new_names (x ∷ xs) = ap (λ l. x.new.name ∷ l) (new_names xs)

  entries_stay : composed made.entries (map entry_of (twin_pairs n)) ≡ made.entries
  entries_stay =
      composed_twins n (map entry_of lefts) lefts
      (entries_found lefts (subst Differ (new_names lefts) simple_compiles.fit.differ)) (entries_within lefts simple_compiles.fit.within)

  finished_compiled : IsCompilation Negations p (twinned n) made.entries
  finished_compiled =
      subst (IsCompiled (row_result Negations (carries p)) p (twinned n)) entries_stay
      (weaker (positive_kind (carries n)) (row_result Negations (carries p)) p (twinned n) (composed made.entries (map entry_of (twin_pairs n)))
      (within_row (carries n) (carries p) simple_compiles.features)
      (two_compile K (positive_kind (carries n)) p n (twinned n) made.entries (map entry_of (twin_pairs n)) simple_compiles (twinned_is_compiled n ready)))

  -- ---- rows stay when an action is simplified

  pub always_rows : (a : Action) → Member a p.actions → AreAlways a.rows
  always_rows a m = all_always p admitted a m

  same_actions : (actions : List Action) → ((a : Action) → Member a actions → AreAlways a.rows) →
      filter_map (simple_action (world p) knows_nothing) (map normal_action actions) ≡ filter_map (simple_normal (world p)) actions
  same_actions [] each = refl
  same_actions (a ∷ actions) each =
      λ i. cons_option (simple_is (world p) a (each a (inl refl)) i) (same_actions actions (λ b m. each b (inr m)) i)

  pub actions_are : n.actions ≡ (simple_form p).actions
  actions_are =
      left_new (world p) knows_nothing pairs ∙ ap (filter_map (simple_action (world p) knows_nothing)) (rewritten_news normal_action p.actions)
      ∙ same_actions p.actions always_rows

  entries_are : made.entries ≡ map identity_entry (simple_form p).actions
  entries_are = entries_left (world p) p.actions ∙ ap (map identity_entry) (same_actions p.actions always_rows)

  pub compiled : IsCompilation Negations p (negations p).parts (negations p).entries
  compiled =
      subst (IsCompilation Negations p (twinned (simple_form p))) entries_are
      (subst (λ actions. IsCompilation Negations p (twinned (record n { actions = actions })) made.entries) actions_are finished_compiled)

pub owes : Owes Negations negations
owes p well admitted = compiled p well admitted
