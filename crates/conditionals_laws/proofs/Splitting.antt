-- The law of splitting for `conditionals`.
use Rattle.std.proofs.Common.{◌≡◌, ◌↔◌, Bool, true, false, cond, List, [], ◌∷◌, map, filter_map, length, take, Some, None, refl, ap, sym, ◌∙◌, subst, inl, inr}
use Rattle.up_text.specs.declared.name.Name.{Name}
use Rattle.up_text.specs.Lists.{Every, Somewhere, Member, Differ}
use Rattle.up_tree.specs.declared.action.Action.{Action}
use Rattle.up_tree.specs.declared.action.Row.{Row}
use Rattle.up_tree.specs.declared.formula.Formula.{Formula, And}
use Rattle.up_tree.specs.declared.problem.Parts.{Parts}
use Rattle.up_tree.specs.Objects.{World, world, unassigned}
use Rattle.up_tree.specs.State.{State}
use Rattle.up_tree.specs.Truth.{True, IsUndefined}
use Rattle.up_tree.specs.Judged.{truth_of}
use Rattle.up_tree.specs.Instances.{Instance, action_assignment}
use Rattle.up_tree.specs.Faults.{arity, condition_undefined}
use Rattle.up_tree.specs.Simplify.{simplified, knows_nothing, is_false_formula}
use Rattle.up_tree.specs.WellFormed.{IsWellFormed, IsAction}
use Rattle.up_tree.specs.Plans.{metric_at}
use Rattle.step_laws.specs.Naming.{Stands, renamed, Group}
use Rattle.step_laws.specs.SplitLaw.{CanTakeBy, next_by, SplitLaw}
use Rattle.step_laws.proofs.Covered.{equal_from}
use Rattle.conditionals_laws.specs.Conditionals.{Choice, choices, literal, chosen_row, variant, variants_by, variants, row_conditions, variant_groups, variant_pairs, conditionals}
use Rattle.condition_laws.proofs.Assigning.{formulas_are_assigned}
use Rattle.condition_laws.proofs.Simplifying.{simplified_truth}
use Rattle.compiling_laws.proofs.Bare.{AreBare, plain, plain_instances}
use Rattle.compiling_laws.proofs.Taking.{name_apart, name_back, truth_told, never_true, same_init}
use Rattle.compiling_laws.proofs.Scopes.{params_assigned}
use Rattle.conditionals_laws.proofs.Choosing.{IsDecided, decided_two, Chosen, one_applies, Decides, literals_decide, condition_of_row}
use Rattle.conditionals_laws.proofs.Firing.{v, e, chosen_pre, variant_kept, variant_followed, variant_true, variant_next}
use Rattle.compiling_laws.proofs.Lists.{none_some, some_same, member_map, of_map, member_filter_map, of_filter_map}
use Rattle.step_laws.proofs.Lists.{every_at, every_from}
use Rattle.compiling_laws.proofs.Names.{of_names, HasFor, has_names, names_differ}
use Rattle.conditionals_laws.proofs.Scopes.{chosen_formed}

-- ---- the pairs

group_of : World → Action → Group
group_of w a = record { old = a; news = variants w a }

-- a new action is a variant of the one that it stands for, but for its name
pub record IsVariant (p : Parts) (pair : Stands) : Type 0 where
  pub member : Member pair.old p.actions
  pub variant : Action
  pub listed : Member variant (variants (world p) pair.old)
  pub but_name : pair.new ≡ renamed variant pair.new.name

pub pair_is : (p : Parts) (pair : Stands) → Member pair (variant_pairs p) → IsVariant p pair
pair_is p pair m =
    let k = of_names (map (λ (a : Action). a.name) p.actions) (variant_groups p) pair m in
    let g = of_map (λ a. let g : Group = record { old = a; news = variants (world p) a } in g) p.actions k.0 k.1 in
    let same : pair.old ≡ g.0 = k.2.same_old ∙ ap (λ (x : Group). x.old) g.2 in
    record {
      member = subst (λ (a : Action). Member a p.actions) (sym same) g.1;
      variant = k.2.new;
      listed = subst (λ (a : Action). Member k.2.new (variants (world p) a)) (sym same) (subst (λ (x : Group). Member k.2.new x.news) g.2 k.2.listed);
      but_name = k.2.but_name;
    }

pub pair_for : (p : Parts) (a x : Action) → Member a p.actions → Member x (variants (world p) a) → HasFor (variant_pairs p) a x
pair_for p a x m k =
    has_names (map (λ (a : Action). a.name) p.actions) (variant_groups p) (record { old = a; news = variants (world p) a }) x
    (member_map (λ a. let g : Group = record { old = a; news = variants (world p) a } in g) p.actions a m) k

-- ---- a variant is the action itself, or that of a choice

pub data IsVariantOf (w : World) (a : Action) (x : Action) : Type 0 where
  itself : x ≡ a → IsVariantOf w a x
  by_choice : (choice : List Choice) → Member choice (choices (row_conditions a))
      → x ≡ record { name = a.name; params = a.params; pre = simplified w knows_nothing (And (a.pre ∷ map literal choice)); rows = filter_map (chosen_row choice) a.rows }
      → is_false_formula (simplified w knows_nothing (And (a.pre ∷ map literal choice))) ≡ false → IsVariantOf w a x

pub variant_is : (w : World) (a x : Action) → Member x (variants w a) → IsVariantOf w a x
variant_is w a x = by (row_conditions a) refl
  where
    some : (b : Bool) (y : Action) → cond b None (Some y) ≡ Some x → (x ≡ y) × (b ≡ false)
    some true y e = none_some e
    some false y e = (sym (some_same y x e), refl)

    by : (cs : List Formula) → row_conditions a ≡ cs → Member x (variants_by w a cs) → IsVariantOf w a x
    by [] is (inl e) = itself e
    by [] is (inr m) = absurd m
    by (c ∷ cs) is m =
        let k = of_filter_map (variant w a) (choices (c ∷ cs)) x m in
        by_choice k.0 (subst (λ l. Member k.0 (choices l)) (sym is) k.1) (some _ _ k.2).0 (some _ _ k.2).1

pub variant_params : (w : World) (a x : Action) → IsVariantOf w a x → x.params ≡ a.params
variant_params w a x (itself e) = ap (λ (y : Action). y.params) e
variant_params w a x (by_choice choice listed e kept) = ap (λ (y : Action). y.params) e

-- ---- the law

-- no row has variables
abbrev pub NoVariables : Parts → Type 0
NoVariables p = Every (λ (a : Action). AreBare a.rows) p.actions

module _ (p : Parts) (formed : IsWellFormed p) where
  abbrev pub pairs_of : List Stands
  pairs_of = variant_pairs p

  olds_listed : (actions : List Action) → map (λ (g : Group). g.old.name) (map (λ a. let g : Group = record { old = a; news = variants (world p) a } in g) actions) ≡ map (λ (a : Action). a.name) actions
  olds_listed [] = refl
  olds_listed (a ∷ actions) = ap (λ l. a.name ∷ l) (olds_listed actions)

  pub new_names_differ : Differ (map (λ (pair : Stands). pair.new.name) pairs_of)
  new_names_differ =
      names_differ (map (λ (a : Action). a.name) p.actions) (variant_groups p)
      (subst Differ (sym (olds_listed p.actions)) formed.action_names.differ)
      (every_from _ (variant_groups p) (λ g k.
      let o = of_map (λ a. let g : Group = record { old = a; news = variants (world p) a } in g) p.actions g k in
      subst (λ (x : Group). Member x.old.name (map (λ (a : Action). a.name) p.actions)) (sym o.2) (member_map (λ (a : Action). a.name) p.actions o.0 o.1)))

module _ (p : Parts) (formed : IsWellFormed p) (bare : NoVariables p) where
  abbrev w : World
  w = world p

  module _ (s : State) (a : Action) (m : Member a p.actions) (n : Name) (args : List Name) (choice : List Choice) (listed : Member choice (choices (row_conditions a))) where
    is_bare : AreBare a.rows
    is_bare = every_at (λ (a : Action). AreBare a.rows) p.actions a bare m

    keeps : length args ≡ length a.params → True w s (e w s a n args choice) (v w s a n args choice).pre ↔ True w s (e w s a n args choice) (chosen_pre w s a n args choice)
    keeps same =
        let kept : truth_of w s (action_assignment a args) (simplified w knows_nothing (And (a.pre ∷ map literal choice))) ≡ truth_of w s (action_assignment a args) (And (a.pre ∷ map literal choice)) =
        simplified_truth w s knows_nothing (λ fact told h. cc) (action_assignment a args) (And (a.pre ∷ map literal choice))
        (formulas_are_assigned p (take p.constants p.objects) a.params (And (a.pre ∷ map literal choice))
        (chosen_formed p a (every_at (IsAction p) p.actions a formed.actions m) is_bare choice listed) w (action_assignment a args) (params_assigned a args same)) in (
          truth_told w s (action_assignment a args) (simplified w knows_nothing (And (a.pre ∷ map literal choice))) (And (a.pre ∷ map literal choice)) kept,
          truth_told w s (action_assignment a args) (And (a.pre ∷ map literal choice)) (simplified w knows_nothing (And (a.pre ∷ map literal choice))) (sym kept),
        )

    decide : Every (True w s (action_assignment a args)) (map literal choice) → Every (λ (r : Row). Decides w s (action_assignment a args) choice r.when) a.rows
    decide literals = every_from _ a.rows (literals_decide w s (action_assignment a args) a choice listed literals)

    choice_kept : CanTakeBy w s (v w s a n args choice) args → CanTakeBy w s a args
    choice_kept can = variant_kept w s a n args choice is_bare (keeps (equal_from _ _ (can arity))) decide can

    choice_followed : CanTakeBy w s a args → Every (True w s (action_assignment a args)) (map literal choice) → CanTakeBy w s (v w s a n args choice) args
    choice_followed can literals = variant_followed w s a n args choice is_bare (keeps (equal_from _ _ (can arity))) decide can literals

    choice_true : CanTakeBy w s a args → Every (True w s (action_assignment a args)) (map literal choice) → True w s (action_assignment a args) (v w s a n args choice).pre
    choice_true can literals = variant_true w s a n args choice is_bare (keeps (equal_from _ _ (can arity))) decide can literals

    choice_next : CanTakeBy w s (v w s a n args choice) args → next_by w s a args ≡ next_by w s (v w s a n args choice) args
    choice_next can = variant_next w s a n args choice is_bare (keeps (equal_from _ _ (can arity))) decide can

  variant_kept_by : (s : State) (a x : Action) (n : Name) (args : List Name) → Member a p.actions → IsVariantOf w a x → CanTakeBy w s (renamed x n) args → CanTakeBy w s a args
  variant_kept_by s a x n args m (itself is) can =
      subst (λ (y : Action). CanTakeBy w s (renamed y n) args → CanTakeBy w s a args) (sym is) (λ k fault h. k fault (name_back w s a n args fault h)) can
  variant_kept_by s a x n args m (by_choice choice listed is kept) can =
      choice_kept s a m n args choice listed (subst (λ (y : Action). CanTakeBy w s (renamed y n) args) is can)

  variant_next_by : (s : State) (a x : Action) (n : Name) (args : List Name) → Member a p.actions → IsVariantOf w a x → CanTakeBy w s (renamed x n) args
      → next_by w s a args ≡ next_by w s (renamed x n) args
  variant_next_by s a x n args m (itself is) can = sym (ap (λ (y : Action). next_by w s (renamed y n) args) is)
  variant_next_by s a x n args m (by_choice choice listed is kept) can =
      choice_next s a m n args choice listed (subst (λ (y : Action). CanTakeBy w s (renamed y n) args) is can)
      ∙ sym (ap (λ (y : Action). next_by w s (renamed y n) args) is)

  -- a variant that can be taken where the action can
  pub record Follows (s : State) (a : Action) (args : List Name) : Type 0 where
    pub variant : Action
    pub listed : Member variant (variants w a)
    pub can : (n : Name) → CanTakeBy w s (renamed variant n) args

  follows : (s : State) (a : Action) (args : List Name) → Member a p.actions → CanTakeBy w s a args → Follows s a args
  follows s a args m can = by (row_conditions a) refl
    where
      none_undefined : (r : Row) → Member r a.rows → IsDecided w s (action_assignment a args) r.when
      none_undefined r k = decided_two w s (action_assignment a args) r.when (λ u. can condition_undefined (subst (λ is. Somewhere (λ (i : Instance). IsUndefined w s i.assignment i.row.when) is)
          (sym (plain_instances w s (action_assignment a args) a.rows (every_at (λ (a : Action). AreBare a.rows) p.actions a bare m))) (at a.rows r k u)))
        where
          at : (rows : List Row) (r : Row) → Member r rows → IsUndefined w s (action_assignment a args) r.when
              → Somewhere (λ (i : Instance). IsUndefined w s i.assignment i.row.when) (map (plain w s (action_assignment a args)) rows)
          at [] r k u = absurd k
          at (x ∷ rows) r (inl same) u = inl (subst (λ (y : Row). IsUndefined w s (action_assignment a args) y.when) same u)
          at (x ∷ rows) r (inr k) u = inr (at rows r k u)

      decided : (c : Formula) → Member c (row_conditions a) → IsDecided w s (action_assignment a args) c
      decided c k =
          let r = condition_of_row a c k in
          subst (IsDecided w s (action_assignment a args)) (sym r.2) (none_undefined r.0 r.1)

      chosen : Chosen w s (action_assignment a args) (row_conditions a)
      chosen = one_applies w s (action_assignment a args) (row_conditions a) (every_from _ (row_conditions a) decided)

      kept_in : (b : Bool) (x : Action) → (b ≡ true → ⊥) → cond b None (Some x) ≡ Some x
      kept_in true x h = absurd (h refl)
      kept_in false x h = refl

      by : (cs : List Formula) → row_conditions a ≡ cs → Follows s a args
      by [] is = record {
        variant = a;
        listed = subst (λ l. Member a (variants_by w a l)) (sym is) (inl refl);
        can = λ n fault h. can fault (name_apart w s a n args fault h);
      }
      by (c ∷ cs) is = record {
        variant = v w s a a.name args chosen.choice;
        listed = subst (λ l. Member (v w s a a.name args chosen.choice) (variants_by w a l)) (sym is)
            (member_filter_map (variant w a) (choices (c ∷ cs)) chosen.choice (v w s a a.name args chosen.choice) (subst (λ l. Member chosen.choice (choices l)) is chosen.listed)
            (kept_in _ _ (λ never. never_true w s (action_assignment a args) (v w s a a.name args chosen.choice).pre never (choice_true s a m a.name args chosen.choice chosen.listed can chosen.literals))));
        can = λ n. choice_followed s a m n args chosen.choice chosen.listed can chosen.literals;
      }

  abbrev pairs : List Stands
  pairs = variant_pairs p

  pub split : SplitLaw p (conditionals p).parts pairs (λ s t. s ≡ t)
  split = record {
    actions = refl;
    names = new_names_differ p formed;
    olds = formed.action_names.differ;
    stand = λ pair m.
        let k : IsVariant p pair = pair_is p pair m in
        (k.member, ap (λ (x : Action). length x.params) k.but_name ∙ ap length (variant_params w pair.old k.variant (variant_is w pair.old k.variant k.listed)));
    initial = same_init p (map (λ (pair : Stands). pair.new) pairs) p.goal;
    followed = λ s t same old m args can.
        let f : Follows s old args = follows s old args m can in
        let k : HasFor pairs old f.variant = pair_for p old f.variant m f.listed in
        (k.pair, k.listed, k.same_old, subst (λ u. CanTakeBy w u k.pair.new args) same (subst (λ (x : Action). CanTakeBy w s x args) (sym k.but_name) (f.can k.pair.new.name)));
    kept = λ s t same pair m args can.
        let k : IsVariant p pair = pair_is p pair m in
        variant_kept_by s pair.old k.variant pair.new.name args k.member (variant_is w pair.old k.variant k.listed)
        (subst (λ (x : Action). CanTakeBy w s x args) k.but_name (subst (λ u. CanTakeBy w u pair.new args) (sym same) can));
    next = λ s t same pair m args can.
        let k : IsVariant p pair = pair_is p pair m in
        variant_next_by s pair.old k.variant pair.new.name args k.member (variant_is w pair.old k.variant k.listed)
        (subst (λ (x : Action). CanTakeBy w s x args) k.but_name (subst (λ u. CanTakeBy w u pair.new args) (sym same) can))
        ∙ ap (λ (x : Action). next_by w s x args) (sym k.but_name) ∙ ap (λ u. next_by w u pair.new args) same;
    goal = λ s t same. (λ h. subst (λ u. True w u unassigned p.goal) same h, λ h. subst (λ u. True w u unassigned p.goal) (sym same) h);
    metric = λ s t same. same_metric s t same;
  }
    where
      same_metric : (s t : State) → s ≡ t → metric_at p s ≡ metric_at (conditionals p).parts t
      same_metric s t same = ap (metric_at p) same
