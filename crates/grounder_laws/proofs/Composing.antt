-- The three parts of the construction one after another: instances, their simplification, and what is left out.
use Rattle.std.proofs.Common.{◌≡◌, Bool, true, false, cond, List, [], ◌∷◌, map, filter_map, length, Option, Some, None, refl, ap, sym, ◌∙◌, subst, inl, inr}
use Rattle.std.specs.Prelude.{is_some, IsTrue}
use Rattle.std.specs.List.{cons_option}
use Rattle.up_text.specs.declared.name.Name.{Name}
use Rattle.up_text.specs.Lists.{Somewhere, Member}
use Rattle.up_tree.specs.declared.term.Typed.{Typed}
use Rattle.up_tree.specs.declared.action.Action.{Action}
use Rattle.up_tree.specs.declared.action.Row.{Row}
use Rattle.up_tree.specs.declared.action.Effect.{Effect}
use Rattle.up_tree.specs.declared.action.Effect.TheVariants as effect
use Rattle.up_tree.specs.declared.problem.Parts.{Parts}
use Rattle.up_tree.specs.Objects.{World, world}
use Rattle.up_tree.specs.Simplify.{is_false_formula, simplified, simple_action}
use Rattle.up_tree.specs.WellFormed.{IsWellFormed}
use Rattle.up_kind.specs.Carried.{carries}
use Rattle.up_compiler.specs.declared.id.CompilerId.TheVariants.{Grounder}
use Rattle.up_compiler.specs.declared.back.Entry.{Entry}
use Rattle.up_compiler.specs.declared.back.Item.TheVariants.{Object}
use Rattle.up_compiler.specs.declared.back.Target.TheVariants.{Keep}
use Rattle.up_compiler.specs.Identity.{arguments, identity_entry}
use Rattle.up_compiler.specs.Compose.{resolved, through_entry, composed, composed_entry}
use Rattle.up_compiler.specs.Table.{admits}
use Rattle.semantics_laws.specs.Replaced.{Replacement}
use Rattle.semantics_laws.specs.Symbols.{Symbol, target}
use Rattle.condition_laws.specs.Oracles.{IsChanged, IsInitial, holds}
use Rattle.condition_laws.proofs.Acting.{simple}
use Rattle.expansion_laws.specs.Substituted.{replaced_effect, substituted_row}
use Rattle.expansion_laws.proofs.Lists.{of_map, map_of_map}
use Rattle.step_laws.specs.Compiled.{IsCompiled}
use Rattle.step_laws.specs.Naming.{Stands, entry_of}
use Rattle.step_laws.proofs.Together.{two_compile}
use Rattle.compiling_laws.proofs.Lists.{false_true}
use Rattle.compiling_laws.specs.Forms.{symbols}
use Rattle.finishing_laws.specs.Finished.{finished, themselves}
use Rattle.finishing_laws.specs.Rewritten.{rewritten}
use Rattle.finishing_laws.proofs.Finishing.{finish_compiles}
use Rattle.finishing_laws.proofs.Left.{left_new, left_entries, news_themselves}
use Rattle.grounder_laws.specs.Grounder.{static, Grounded, instance_by, ground_action, grounded, entry_of_instance, instantiated, lighter, simple_instances, grounder}
use Rattle.grounder_laws.proofs.Static.{oracle_is_initial}
use Rattle.grounder_laws.proofs.Names.{of_grounded, instance_name}
use Rattle.grounder_laws.proofs.Formed.{instances_formed}
use Rattle.grounder_laws.proofs.Instances.{instances_are_compiled, no_constraints}
use Rattle.grounder_laws.proofs.Standing.{entry_found}
use Rattle.grounder_laws.proofs.Instancing.{no_params, differ, same_init}
use Rattle.grounder_laws.proofs.Lightened.{lightened_is_compiled}
use Rattle.grounder_laws.proofs.Thinning.{somewhere_member}

-- ---- the oracle tells what no row of an instance changes

some_member : {X : Type 0} (P : X → Type 0) (xs : List X) → Somewhere P xs → (x : X) × Member x xs × P x
some_member P [] h = absurd h
some_member P (x ∷ xs) (inl h) = (x, inl refl, h)
some_member P (x ∷ xs) (inr h) = let k = some_member P xs h in (k.0, inr k.1, k.2)

same_target : (r : Replacement) (x : Effect) → target (replaced_effect r x) ≡ target x
same_target r (effect.Add name ts) = refl
same_target r (effect.Delete name ts) = refl
same_target r (effect.Number change f ts x) = refl
same_target r (effect.Object f ts t) = refl
same_target r (effect.Undefine f ts) = refl

abbrev Changes : Symbol → Action → Type 0
Changes x a = Somewhere (λ (row : Row). x ≡ target row.effect) a.rows

changed_before : (x : Symbol) (params : List Typed) (name : Name) (a : Action) (args : List Name) → Changes x (instance_by params name a args) → Changes x a
changed_before x [] name a args h = h
changed_before x (v ∷ vars) name a args h =
    let row = some_member (λ (row : Row). x ≡ target row.effect) (instance_by (v ∷ vars) name a args).rows h in
    let old = of_map (substituted_row a.params args) a.rows row.0 row.1 in
    somewhere_member (λ (row : Row). x ≡ target row.effect) a.rows old.0 old.1 (row.2 ∙ ap (λ (r : Row). target r.effect) old.2 ∙ same_target _ old.0.effect)

instance_changes : (p : Parts) (x : Symbol) → IsChanged (instantiated p).parts x → IsChanged p x
instance_changes p x h =
    let a = some_member (Changes x) (instantiated p).parts.actions h in
    let g = of_map ground_action (grounded p) a.0 a.1 in
    somewhere_member (Changes x) p.actions g.0.old (of_grounded p g.0 g.1).member
    (changed_before x g.0.old.params g.0.name g.0.old g.0.args (subst (Changes x) g.2 a.2))

pub still_initial : (p : Parts) → IsInitial (instantiated p).parts (static p)
still_initial p = record {
  unchanged = λ fact told h changed. (oracle_is_initial p).unchanged fact told h (instance_changes p _ changed);
  told = λ fact told h. ap (λ s. holds s fact) (sym (same_init p)) ∙ (oracle_is_initial p).told fact told h;
}

-- ---- no kept instance is dropped

abbrev pub simple_by : Parts → Action → Action
simple_by p a = simple (world p) (static p) a

some_is : (n : Bool) (b : Action) → is_some (cond n None (Some b)) ≡ true → cond n None (Some b) ≡ Some b
some_is true b h = false_true h
some_is false b h = refl

kept_so : (p : Parts) (params : List Typed) (name other : Name) (a : Action) (args : List Name) → is_some (simple_action (world p) (static p) (instance_by params name a args)) ≡ true
    → simple_action (world p) (static p) (instance_by params other a args) ≡ Some (simple_by p (instance_by params other a args))
kept_so p [] name other a args h = some_is (is_false_formula (simplified (world p) (static p) a.pre)) (simple_by p a) h
kept_so p (v ∷ vars) name other a args h =
    some_is (is_false_formula (simplified (world p) (static p) (instance_by (v ∷ vars) other a args).pre)) (simple_by p (instance_by (v ∷ vars) other a args))
    (again (is_false_formula (simplified (world p) (static p) (instance_by (v ∷ vars) other a args).pre)) h)
  where
    again : (n : Bool) → is_some (cond n None (Some (simple_by p (instance_by (v ∷ vars) name a args)))) ≡ true → is_some (cond n None (Some (simple_by p (instance_by (v ∷ vars) other a args)))) ≡ true
    again true h = h
    again false h = h

pub instance_kept : (p : Parts) (g : Grounded) → Member g (grounded p) → simple_action (world p) (static p) (ground_action g) ≡ Some (simple_by p (ground_action g))
instance_kept p g m = kept_so p g.old.params g.old.name g.name g.old g.args (of_grounded p g m).kept

all_kept : {X : Type 0} (f : X → Option Action) (b : X → Action) (xs : List X) → ((x : X) → Member x xs → f x ≡ Some (b x)) → filter_map f xs ≡ map b xs
all_kept f b [] each = refl
all_kept f b (x ∷ xs) each = λ i. cons_option (each x (inl refl) i) (all_kept f b xs (λ y m. each y (inr m)) i)

filter_map_map : {X Y Z : Type 0} (f : Y → Option Z) (g : X → Y) (xs : List X) → filter_map f (map g xs) ≡ filter_map (λ x. f (g x)) xs
filter_map_map f g [] = refl
filter_map_map f g (x ∷ xs) = ap (cons_option (f (g x))) (filter_map_map f g xs)

module _ (p : Parts) where
  abbrev w : World
  w = world p

  abbrev inst : Parts
  inst = (instantiated p).parts

  abbrev fin : Parts
  fin = simple_instances p

  abbrev made : Grounded → Action
  made g = simple_by p (ground_action g)

  simple_all : filter_map (simple_action w (static p)) inst.actions ≡ map made (grounded p)
  simple_all =
      filter_map_map (simple_action w (static p)) ground_action (grounded p) ∙ all_kept (λ g. simple_action w (static p) (ground_action g)) made (grounded p) (instance_kept p)

  -- the simplified instances, one by one
  pub simple_actions : fin.actions ≡ map made (grounded p)
  simple_actions = left_new w (static p) (themselves inst.actions) ∙ ap (filter_map (simple_action w (static p))) (news_themselves w (static p) inst.actions) ∙ simple_all

  -- ---- entries

  later_entries : (finished (symbols p) (static p) inst).entries ≡ map (λ g. identity_entry (made g)) (grounded p)
  later_entries = left_entries w (static p) inst.actions ∙ ap (map identity_entry) simple_all ∙ map_of_map identity_entry made (grounded p)

  last_entries : map entry_of (rewritten lighter fin.actions) ≡ map (λ g. identity_entry (made g)) (grounded p)
  last_entries =
      map_of_map entry_of (λ a. let s : Stands = record { new = lighter a; old = a } in s) fin.actions
      ∙ ap (map identity_entry) simple_actions ∙ map_of_map identity_entry made (grounded p)

  module _ (formed : IsWellFormed p) where
    abbrev m : List Entry
    m = map entry_of_instance (grounded p)

    abbrev plain : Name → Entry
    plain name = record { action = name; arity = 0; target = Keep name [] }

    no_more : (name : Name) (params : List Typed) → params ≡ [] → record { action = name; arity = length params; target = Keep name (arguments (length params)) } ≡ plain name
    unfolding arguments
    no_more name params none = λ i. record { action = name; arity = length (none i); target = Keep name (arguments (length (none i))) }

    same_items : (objects : List Name) → map (resolved []) (map Object objects) ≡ map Object objects
    same_items [] = refl
    same_items (o ∷ objects) = ap (λ l. Object o ∷ l) (same_items objects)

    one_entry : (g : Grounded) → Member g (grounded p) → composed_entry m (identity_entry (made g)) ≡ entry_of_instance g
    one_entry g k =
        ap (composed_entry m) (no_more (ground_action g).name (ground_action g).params (no_params g) ∙ ap plain (instance_name p p.actions g (of_grounded p g k)))
        ∙ (λ i. record { action = g.name; arity = 0; target = through_entry [] (entry_found (grounded p) (differ p formed) g k i) })
        ∙ (λ i. record { action = g.name; arity = 0; target = Keep g.old.name (same_items g.args i) })

    all_entries : (gs : List Grounded) → ((g : Grounded) → Member g gs → Member g (grounded p)) → map (composed_entry m) (map (λ g. identity_entry (made g)) gs) ≡ map entry_of_instance gs
    all_entries [] among = refl
    all_entries (g ∷ gs) among = λ i. one_entry g (among g (inl refl)) i ∷ all_entries gs (λ h k. among h (inr k)) i

    -- what simplifies and leaves out keeps the entries
    same_entries : composed (composed m (finished (symbols p) (static p) inst).entries) (map entry_of (rewritten lighter fin.actions)) ≡ m
    same_entries =
        (λ i. composed (composed m (later_entries i)) (last_entries i))
        ∙ ap (λ l. composed l (map (λ g. identity_entry (made g)) (grounded p))) (all_entries (grounded p) (λ g k. k))
        ∙ all_entries (grounded p) (λ g k. k)

-- ---- composed

pub finish_instances : (p : Parts) → IsWellFormed p
    → IsCompiled (carries (instantiated p).parts) (instantiated p).parts (simple_instances p) (finished (symbols p) (static p) (instantiated p).parts).entries
finish_instances p formed =
    finish_compiles (symbols p) (static p) (instantiated p).parts (instances_formed p formed) (still_initial p) (λ name m. m)

pub all_compiled : (p : Parts) → IsWellFormed p → IsTrue (admits Grounder (carries p))
    → IsCompiled (carries (simple_instances p)) p (grounder p).parts (grounder p).entries
all_compiled p formed is =
    let first : IsCompiled (carries p) p (instantiated p).parts (instantiated p).entries = instances_are_compiled p formed is in
    let second : IsCompiled (carries (instantiated p).parts) (instantiated p).parts (simple_instances p) (finished (symbols p) (static p) (instantiated p).parts).entries =
    finish_instances p formed
    in
    let third : IsCompiled (carries (simple_instances p)) (simple_instances p) (grounder p).parts (map entry_of (rewritten lighter (simple_instances p).actions)) =
    lightened_is_compiled (simple_instances p) (second.formed (instances_formed p formed)) (no_constraints p is)
    in
    subst (λ m. IsCompiled (carries (simple_instances p)) p (grounder p).parts m) (same_entries p formed)
    (two_compile (carries (instantiated p).parts) (carries (simple_instances p)) p (simple_instances p) (grounder p).parts
    (composed (instantiated p).entries (finished (symbols p) (static p) (instantiated p).parts).entries) (map entry_of (rewritten lighter (simple_instances p).actions))
    (two_compile (carries p) (carries (instantiated p).parts) p (instantiated p).parts (simple_instances p) (instantiated p).entries
    (finished (symbols p) (static p) (instantiated p).parts).entries first second) third)
