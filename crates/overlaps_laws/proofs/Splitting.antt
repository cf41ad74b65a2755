-- The law of splitting for `overlaps`.
use Rattle.std.proofs.Common.{◌≡◌, Bool, true, false, not as flip, List, [], ◌∷◌, map, length, refl, ap, sym, ◌∙◌, subst, inl, inr, IsTrue}
use Rattle.std.specs.List.{list_any, list_all}
use Rattle.up_text.specs.declared.name.Name.{Name}
use Rattle.up_text.specs.Lists.{Every, Member, Differ}
use Rattle.up_tree.specs.declared.action.Action.{Action}
use Rattle.up_tree.specs.declared.action.Row.{Row}
use Rattle.up_tree.specs.declared.problem.Parts.{Parts}
use Rattle.up_tree.specs.Objects.{world, unassigned}
use Rattle.up_tree.specs.State.{State}
use Rattle.up_tree.specs.Truth.{True}
use Rattle.up_tree.specs.Simplify.{is_true_formula, is_empty}
use Rattle.up_tree.specs.WellFormed.{IsWellFormed, IsAction}
use Rattle.up_tree.specs.Plans.{metric_at}
use Rattle.up_kind.specs.declared.feature.Feature.{Feature}
use Rattle.up_kind.specs.declared.feature.Feature.TheVariants.{ConditionalEffects, ForallEffects, ObjectFluents, TrajectoryConstraints}
use Rattle.up_kind.specs.Carried.{carries}
use Rattle.up_compiler.specs.declared.id.CompilerId.TheVariants.{Overlaps}
use Rattle.up_compiler.specs.Table.{admits, refused}
use Rattle.step_laws.specs.Naming.{Stands, renamed, Group}
use Rattle.step_laws.specs.SplitLaw.{CanTakeBy, next_by, SplitLaw}
use Rattle.compiling_laws.proofs.Lists.{none_there, and_true, not_true, not_false, any_false, member_map, of_map}
use Rattle.step_laws.proofs.Lists.{every_at, every_from}
use Rattle.compiling_laws.proofs.Names.{of_names, HasFor, has_names, names_differ}
use Rattle.compiling_laws.proofs.Taking.{name_apart, name_back, same_init}
use Rattle.overlaps_laws.specs.Overlaps.{meetings, variants, variant_groups, variant_pairs, overlaps}
use Rattle.overlaps_laws.specs.Splittable.{IsSplittable}
use Rattle.overlaps_laws.proofs.Fewer.{HasNoObjects, all_at}
use Rattle.overlaps_laws.proofs.Times.{IsStep, HasOne, times_splittable, times_params, times_rows, times_step, times_followed}

-- ---- what the table's row says of a well-formed problem

pub record IsAdmitted (p : Parts) : Type 0 where
  pub splittable : Every (IsSplittable p) p.actions
  pub no_objects : HasNoObjects p
  pub free : p.constraints ≡ []

pub admitted_is : (p : Parts) → IsWellFormed p → IsTrue (admits Overlaps (carries p)) → IsAdmitted p
admitted_is p formed is = record {
  splittable = every_from (IsSplittable p) p.actions (λ a m. record {
    formed = every_at (IsAction p) p.actions a formed.actions m;
    bare = every_from (λ (r : Row). r.vars ≡ []) a.rows (λ r k. none_there r.vars (in_rows (λ (r : Row). flip (is_empty r.vars)) (off ForallEffects (inr (inl refl))) a m r k));
    always = every_from (λ (r : Row). is_true_formula r.when ≡ true) a.rows (λ r k. not_false (is_true_formula r.when) (in_rows (λ (r : Row). flip (is_true_formula r.when)) (off ConditionalEffects (inl refl)) a m r k));
  });
  no_objects = off ObjectFluents (inr (inr (inl refl)));
  free = none_there p.constraints (off TrajectoryConstraints (inr (inr (inr (inl refl)))));
}
  where
    off : (f : Feature) → Member f (refused Overlaps) → carries p f ≡ false
    off f m = not_true (carries p f) (all_at (λ (f : Feature). flip (carries p f)) (refused Overlaps) f (and_true (list_all (λ (f : Feature). flip (carries p f)) (refused Overlaps)) true is).0 m)

    in_rows : (test : Row → Bool) → list_any (λ (a : Action). list_any test a.rows) p.actions ≡ false → (a : Action) → Member a p.actions → (r : Row) → Member r a.rows → test r ≡ false
    in_rows test h a m r k = any_false test a.rows r (any_false (λ (a : Action). list_any test a.rows) p.actions a h m) k

-- ---- the pairs

-- a new action is a variant of the one that it stands for, but for its name
pub record IsVariant (p : Parts) (pair : Stands) : Type 0 where
  pub member : Member pair.old p.actions
  pub variant : Action
  pub listed : Member variant (variants p pair.old)
  pub but_name : pair.new ≡ renamed variant pair.new.name

pub pair_is : (p : Parts) (pair : Stands) → Member pair (variant_pairs p) → IsVariant p pair
pair_is p pair m =
    let k = of_names (map (λ (a : Action). a.name) p.actions) (variant_groups p) pair m in
    let g = of_map (λ a. let g : Group = record { old = a; news = variants p a } in g) p.actions k.0 k.1 in
    let same : pair.old ≡ g.0 = k.2.same_old ∙ ap (λ (x : Group). x.old) g.2 in
    record {
      member = subst (λ (a : Action). Member a p.actions) (sym same) g.1;
      variant = k.2.new;
      listed = subst (λ (a : Action). Member k.2.new (variants p a)) (sym same) (subst (λ (x : Group). Member k.2.new x.news) g.2 k.2.listed);
      but_name = k.2.but_name;
    }

pair_for : (p : Parts) (a x : Action) → Member a p.actions → Member x (variants p a) → HasFor (variant_pairs p) a x
pair_for p a x m k =
    has_names (map (λ (a : Action). a.name) p.actions) (variant_groups p) (record { old = a; news = variants p a }) x
    (member_map (λ a. let g : Group = record { old = a; news = variants p a } in g) p.actions a m) k

module _ (p : Parts) (formed : IsWellFormed p) (ok : IsAdmitted p) where
  abbrev pub pairs : List Stands
  pairs = variant_pairs p

  pub splittable_at : (a : Action) → Member a p.actions → IsSplittable p a
  splittable_at a m = every_at (IsSplittable p) p.actions a ok.splittable m

  pub variant_params : (pair : Stands) (is : IsVariant p pair) → pair.new.params ≡ pair.old.params
  variant_params pair is =
      ap (λ (x : Action). x.params) is.but_name
      ∙ times_params p (length (meetings p pair.old)) pair.old (splittable_at pair.old is.member) is.variant is.listed

  pub variant_rows : (pair : Stands) (is : IsVariant p pair) → (r : Row) → Member r pair.new.rows → Member r pair.old.rows
  variant_rows pair is r m =
      times_rows p (length (meetings p pair.old)) pair.old (splittable_at pair.old is.member) is.variant is.listed r (subst (λ (x : Action). Member r x.rows) is.but_name m)

  pub variant_splittable : (pair : Stands) (is : IsVariant p pair) → IsSplittable p is.variant
  variant_splittable pair is = times_splittable p (length (meetings p pair.old)) pair.old (splittable_at pair.old is.member) is.variant is.listed

  old_names : (actions : List Action) → map (λ (g : Group). g.old.name) (map (λ a. let g : Group = record { old = a; news = variants p a } in g) actions) ≡ map (λ (a : Action). a.name) actions
  old_names [] = refl
  old_names (a ∷ actions) = ap (λ l. a.name ∷ l) (old_names actions)

  pub group_of : (g : Group) → Member g (variant_groups p) → (a : Action) × Member a p.actions × (g.old ≡ a)
  group_of g k = let o = of_map (λ a. let g : Group = record { old = a; news = variants p a } in g) p.actions g k in (o.0, o.1, ap (λ (x : Group). x.old) o.2)

  step_of : (s : State) (pair : Stands) (is : IsVariant p pair) (args : List Name) → CanTakeBy (world p) s pair.new args
      → IsStep p pair.old (splittable_at pair.old is.member) is.variant s args
  step_of s pair is args can =
      times_step p (length (meetings p pair.old)) pair.old (splittable_at pair.old is.member) is.variant is.listed s args
      (λ fault h. subst (λ (x : Action). CanTakeBy (world p) s x args) is.but_name can fault (name_back (world p) s is.variant pair.new.name args fault h))

  pub new_names_differ : Differ (map (λ (pair : Stands). pair.new.name) pairs)
  new_names_differ =
      names_differ (map (λ (a : Action). a.name) p.actions) (variant_groups p)
      (subst Differ (sym (old_names p.actions)) formed.action_names.differ)
      (every_from _ (variant_groups p) (λ g k.
      let o = group_of g k in
      subst (λ (x : Action). Member x.name (map (λ (a : Action). a.name) p.actions)) (sym o.2) (member_map (λ (a : Action). a.name) p.actions o.0 o.1)))

  pub split : SplitLaw p (overlaps p).parts pairs (λ s t. s ≡ t)
  split = record {
    actions = refl;
    names = new_names_differ;
    olds = formed.action_names.differ;
    stand = λ pair m. let k : IsVariant p pair = pair_is p pair m in (k.member, ap length (variant_params pair k));
    initial = same_init p (map (λ (pair : Stands). pair.new) pairs) p.goal;
    followed = λ s t same old m args can.
        let f : HasOne p old (splittable_at old m) (variants p old) s args = times_followed p (length (meetings p old)) old (splittable_at old m) s args can in
        let k : HasFor pairs old f.one = pair_for p old f.one m f.member in (
          k.pair,
          k.listed,
          k.same_old,
          subst (λ u. CanTakeBy (world p) u k.pair.new args) same (subst (λ (x : Action). CanTakeBy (world p) s x args) (sym k.but_name)
              (λ fault h. f.can fault (name_apart (world p) s f.one k.pair.new.name args fault h))),
        );
    kept = λ s t same pair m args can. (step_of s pair (pair_is p pair m) args (subst (λ u. CanTakeBy (world p) u pair.new args) (sym same) can)).can;
    next = λ s t same pair m args can.
        let k : IsVariant p pair = pair_is p pair m in
        (step_of s pair k args (subst (λ u. CanTakeBy (world p) u pair.new args) (sym same) can)).next
        ∙ ap (λ (x : Action). next_by (world p) s x args) (sym k.but_name) ∙ ap (λ u. next_by (world p) u pair.new args) same;
    goal = λ s t same. (λ h. subst (λ u. True (world p) u unassigned p.goal) same h, λ h. subst (λ u. True (world p) u unassigned p.goal) (sym same) h);
    metric = λ s t same. same_metric s t same;
  }
    where
      same_metric : (s t : State) → s ≡ t → metric_at p s ≡ metric_at (overlaps p).parts t
      same_metric s t same = ap (metric_at p) same
