-- Composed entries convert by one map after the other, so that the plans of three problems stay the same.
use Rattle.std.proofs.Common.{◌≡◌, ℕ, zero, suc, ◌<◌, ◌≤◌, cond, Bool, true, false, List, [], ◌∷◌, map, length, take, slice_get, Option, Some, None, IsSomeAnd, option_map, option_and_then, unwrap_or, nat_eq, refl, ap, sym, ◌∙◌, subst, arith}
use Rattle.std.proofs.lemmas.Bool.{eq-eqb}
use Rattle.std.proofs.lemmas.List.{take_all}
use Rattle.up_text.specs.declared.name.Name.{Name}
use Rattle.up_text.specs.Names.{same_name}
use Rattle.up_text.specs.Lists.{Every, Differ}
use Rattle.up_tree.specs.declared.problem.Plan.{Plan}
use Rattle.up_tree.specs.declared.problem.Step.{Step}
use Rattle.up_tree.specs.Value.{with_both}
use Rattle.up_compiler.specs.declared.back.Entry.{Entry}
use Rattle.up_compiler.specs.declared.back.Item.{Item}
use Rattle.up_compiler.specs.declared.back.Item.TheVariants.{Argument, Object}
use Rattle.up_compiler.specs.declared.back.Target.{Target}
use Rattle.up_compiler.specs.declared.back.Target.TheVariants.{Drop, Keep}
use Rattle.up_compiler.specs.Back.{item_object, items_objects, by_target, by_entry, entry_named, converted, and_kept, back_steps, back, IsWithin, TargetFits, IsBack}
use Rattle.up_compiler.specs.Compose.{resolved, through, through_entry, composed_target, composed_entry, composed, MeetsEarlier, Meets}

some_same : {X : Type 0} (x y : X) → Some x ≡ Some y → x ≡ y
some_same x y e = ap (λ o. unwrap_or o x) e

none_apart : {X : Type 0} {x : X} → None ≡ Some x → ⊥
none_apart e = cc

-- ---- the items

record Split (args objects : List Name) (i : Item) (items : List Item) : Type 0 where
  first : Name
  rest : List Name
  item : item_object args i ≡ Some first
  others : items_objects args items ≡ Some rest
  whole : objects ≡ first ∷ rest

split : (args objects : List Name) (i : Item) (items : List Item) → items_objects args (i ∷ items) ≡ Some objects → Split args objects i items
split args objects i items = by (item_object args i) refl (items_objects args items) refl
  where
    by : (a : Option Name) → item_object args i ≡ a → (b : Option (List Name)) → items_objects args items ≡ b
        → with_both (λ o os. Some (o ∷ os)) a b ≡ Some objects → Split args objects i items
    by (Some o) e (Some os) h is = record { first = o; rest = os; item = e; others = h; whole = sym (some_same _ _ is) }
    by (Some o) e None h is = absurd (none_apart is)
    by None e b h is = absurd (none_apart is)

length_is : (args : List Name) (items : List Item) (objects : List Name) → items_objects args items ≡ Some objects → length objects ≡ length items
length_is args [] objects h = sym (ap length (some_same _ _ h))
length_is args (i ∷ items) objects h =
    let s : Split args objects i items = split args objects i items h in
    ap length s.whole ∙ ap suc (length_is args items s.rest s.others)

at_place : (args : List Name) (items : List Item) (objects : List Name) (k : ℕ) → items_objects args items ≡ Some objects → k < length items
    → slice_get objects k ≡ item_object args (unwrap_or (slice_get items k) (Argument zero))
at_place args [] objects k h within = absurd (omega (arith, within))
at_place args (i ∷ items) objects zero h within =
    let s : Split args objects i items = split args objects i items h in
    ap (λ l. slice_get l zero) s.whole ∙ sym s.item
at_place args (i ∷ items) objects (suc k) h within =
    let s : Split args objects i items = split args objects i items h in
    ap (λ l. slice_get l (suc k)) s.whole ∙ at_place args items s.rest k s.others (omega (arith, within))

item_through : (args : List Name) (items : List Item) (objects : List Name) (i : Item) → items_objects args items ≡ Some objects → IsWithin (length items) i
    → item_object objects i ≡ item_object args (resolved items i)
item_through args items objects (Argument zero) h within = absurd (omega (arith, within.0))
item_through args items objects (Argument (suc k)) h within = at_place args items objects k h (omega (arith, within.1))
item_through args items objects (Object o) h within = refl

items_through : (args : List Name) (items : List Item) (objects : List Name) (others : List Item) → items_objects args items ≡ Some objects
    → Every (IsWithin (length items)) others → items_objects objects others ≡ items_objects args (map (resolved items) others)
items_through args items objects [] h within = refl
items_through args items objects (i ∷ others) h within =
    λ k. with_both (λ o os. Some (o ∷ os)) (item_through args items objects i h within.0 k) (items_through args items objects others h within.1 k)

target_through : (args : List Name) (items : List Item) (objects : List Name) (target : Target) → items_objects args items ≡ Some objects
    → TargetFits (length items) target → by_target objects target ≡ by_target args (through items target)
target_through args items objects Drop h fits = refl
target_through args items objects (Keep name others) h fits =
    ap (option_map (λ os. Some (record { action = name; args = os }))) (items_through args items objects others h fits)

-- ---- the steps

-- what the earlier entries make of what the later ones kept
abbrev pub then_converted : List Entry → Option Step → Option (Option Step)
then_converted earlier None = Some None
then_converted earlier (Some a) = converted earlier a

module _ (earlier : List Entry) (fit : IsBack earlier) where
  found_fits : (name : Name) (e : Entry) (m : List Entry) → Every (λ e. TargetFits e.arity e.target) m → entry_named m name ≡ Some e → TargetFits e.arity e.target
  found_fits name e [] fits is = absurd (none_apart is)
  found_fits name e (x ∷ m) fits is = by (same_name x.action name) (found_fits name e m fits.1) is
    where
      by : (b : Bool) → (entry_named m name ≡ Some e → TargetFits e.arity e.target) → cond b (Some x) (entry_named m name) ≡ Some e → TargetFits e.arity e.target
      by true later is = subst (λ (e : Entry). TargetFits e.arity e.target) (some_same _ _ is) fits.0
      by false later is = later is

  kept_through : (args : List Name) (name : Name) (items : List Item) (objects : List Name) → items_objects args items ≡ Some objects
      → MeetsEarlier earlier (Keep name items)
      → by_target args (composed_target earlier (Keep name items)) ≡ converted earlier (record { action = name; args = objects })
  kept_through args name items objects h = by (entry_named earlier name) refl
    where
      by : (found : Option Entry) → entry_named earlier name ≡ found → IsSomeAnd found (λ e. length items ≡ e.arity)
          → by_target args (through_entry items found) ≡ option_and_then (by_entry objects) found
      by None is meets = absurd meets
      by (Some e) is meets =
          sym (target_through args items objects e.target h (subst (λ n. TargetFits n e.target) (sym meets) (found_fits name e earlier fit.within is)))
          ∙ ap (λ b. cond b (by_target objects e.target) None) (sym (eq-eqb e.arity (length objects) (sym meets ∙ sym (length_is args items objects h))))

  target_composed : (args : List Name) (target : Target) (x : Option Step) → MeetsEarlier earlier target → by_target args target ≡ Some x
      → by_target args (composed_target earlier target) ≡ then_converted earlier x
  target_composed args Drop x meets = λ is. ap (then_converted earlier) (some_same _ _ is)
  target_composed args (Keep name items) x meets = by (items_objects args items) refl
    where
      by : (objects : Option (List Name)) → items_objects args items ≡ objects → option_map (λ os. Some (record { action = name; args = os })) objects ≡ Some x
          → by_target args (composed_target earlier (Keep name items)) ≡ then_converted earlier x
      by None h is = absurd (none_apart is)
      by (Some objects) h is = kept_through args name items objects h meets ∙ ap (then_converted earlier) (some_same _ _ is)

  entry_composed : (args : List Name) (e : Entry) (x : Option Step) → MeetsEarlier earlier e.target → by_entry args e ≡ Some x
      → by_entry args (record { action = e.action; arity = e.arity; target = composed_target earlier e.target }) ≡ then_converted earlier x
  entry_composed args e x meets = by (nat_eq e.arity (length args))
    where
      by : (b : Bool) → cond b (by_target args e.target) None ≡ Some x → cond b (by_target args (composed_target earlier e.target)) None ≡ then_converted earlier x
      by true is = target_composed args e.target x meets is
      by false is = absurd (none_apart is)

  step_composed : (later : List Entry) (b : Step) (x : Option Step) → Meets earlier later → converted later b ≡ Some x
      → converted (composed earlier later) b ≡ then_converted earlier x
  step_composed [] b x meets is = absurd (none_apart is)
  step_composed (e ∷ later) b x meets is = by (same_name e.action b.action) (step_composed later b x meets.1) is
    where
      by : (test : Bool) → (converted later b ≡ Some x → converted (composed earlier later) b ≡ then_converted earlier x)
          → option_and_then (by_entry b.args) (cond test (Some e) (entry_named later b.action)) ≡ Some x
          → option_and_then (by_entry b.args)
          (cond test (Some (record { action = e.action; arity = e.arity; target = composed_target earlier e.target })) (entry_named (composed earlier later) b.action))
          ≡ then_converted earlier x
      by true rest is = entry_composed b.args e x meets.0 is
      by false rest is = rest is

-- ---- plans

record SplitSteps (m : List Entry) (b : Step) (bs cs : List Step) : Type 0 where
  first : Option Step
  rest : List Step
  step : converted m b ≡ Some first
  others : back_steps m bs ≡ Some rest
  whole : cs ≡ and_kept first rest

split_steps : (m : List Entry) (b : Step) (bs cs : List Step) → back_steps m (b ∷ bs) ≡ Some cs → SplitSteps m b bs cs
split_steps m b bs cs = by (converted m b) refl (back_steps m bs) refl
  where
    by : (x : Option (Option Step)) → converted m b ≡ x → (y : Option (List Step)) → back_steps m bs ≡ y
        → with_both (λ a rest. Some (and_kept a rest)) x y ≡ Some cs → SplitSteps m b bs cs
    by (Some x) e (Some rest) h is = record { first = x; rest = rest; step = e; others = h; whole = sym (some_same _ _ is) }
    by (Some x) e None h is = absurd (none_apart is)
    by None e y h is = absurd (none_apart is)

kept_none : (y : Option (List Step)) → with_both (λ a rest. Some (and_kept a rest)) (Some None) y ≡ y
kept_none None = refl
kept_none (Some rest) = refl

kept_first : (earlier : List Entry) (x : Option Step) (rest : List Step)
    → with_both (λ a rest. Some (and_kept a rest)) (then_converted earlier x) (back_steps earlier rest) ≡ back_steps earlier (and_kept x rest)
kept_first earlier None rest = kept_none (back_steps earlier rest)
kept_first earlier (Some a) rest = refl

steps_composed : (earlier later : List Entry) → IsBack earlier → Meets earlier later → (bs cs : List Step) → back_steps later bs ≡ Some cs
    → back_steps (composed earlier later) bs ≡ back_steps earlier cs
steps_composed earlier later fit meets [] cs h = ap (back_steps earlier) (some_same _ _ h)
steps_composed earlier later fit meets (b ∷ bs) cs h =
    let s : SplitSteps later b bs cs = split_steps later b bs cs h in
    (λ i. with_both (λ a rest. Some (and_kept a rest)) (step_composed earlier fit later b s.first meets s.step i)
    (steps_composed earlier later fit meets bs s.rest s.others i))
    ∙ kept_first earlier s.first s.rest ∙ ap (back_steps earlier) (sym s.whole)

steps_from : (steps : Option (List Step)) (b : Plan) → option_map (λ steps. let plan : Plan = record { steps = steps } in plan) steps ≡ Some b → steps ≡ Some b.steps
steps_from None b h = absurd (none_apart h)
steps_from (Some bs) b h = ap (λ (plan : Plan). Some plan.steps) (some_same _ _ h)

-- converted by the composed entries is converted by the later and then by the earlier
pub back_composed : (earlier later : List Entry) → IsBack earlier → Meets earlier later → (c b : Plan) → back later c ≡ Some b
    → back (composed earlier later) c ≡ back earlier b
back_composed earlier later fit meets c b h =
    ap (option_map (λ steps. record { steps = steps })) (steps_composed earlier later fit meets c.steps b.steps (steps_from (back_steps later c.steps) b h))

-- ---- the composed entries are the entries of a map

within_through : (n : ℕ) (items : List Item) (i : Item) → Every (IsWithin n) items → IsWithin (length items) i → IsWithin n (resolved items i)
within_through n items (Argument zero) all within = absurd (omega (arith, within.0))
within_through n items (Argument (suc k)) all within = at items k all (omega (arith, within.1))
  where
    at : (items : List Item) (k : ℕ) → Every (IsWithin n) items → k < length items → IsWithin n (unwrap_or (slice_get items k) (Argument zero))
    at [] k all below = absurd (omega (arith, below))
    at (i ∷ items) zero all below = all.0
    at (i ∷ items) (suc k) all below = at items k all.1 (omega (arith, below))
within_through n items (Object o) all within = tt

all_through : (n : ℕ) (items others : List Item) → Every (IsWithin n) items → Every (IsWithin (length items)) others
    → Every (IsWithin n) (map (resolved items) others)
all_through n items [] all within = tt
all_through n items (i ∷ others) all within = (within_through n items i all within.0, all_through n items others all within.1)

through_fits : (n : ℕ) (items : List Item) (target : Target) → Every (IsWithin n) items → TargetFits (length items) target → TargetFits n (through items target)
through_fits n items Drop all fits = tt
through_fits n items (Keep name others) all fits = all_through n items others all fits

target_fits : (earlier : List Entry) → IsBack earlier → (n : ℕ) (target : Target) → MeetsEarlier earlier target → TargetFits n target
    → TargetFits n (composed_target earlier target)
target_fits earlier fit n Drop meets fits = tt
target_fits earlier fit n (Keep name items) meets fits = by (entry_named earlier name) refl meets
  where
    by : (found : Option Entry) → entry_named earlier name ≡ found → IsSomeAnd found (λ e. length items ≡ e.arity) → TargetFits n (through_entry items found)
    by None is meets = tt
    by (Some e) is meets =
        through_fits n items e.target fits (subst (λ (k : ℕ). TargetFits k e.target) (sym meets) (found_fits earlier fit name e earlier fit.within is))

same_actions : (earlier later : List Entry) → map (λ (e : Entry). e.action) (composed earlier later) ≡ map (λ (e : Entry). e.action) later
same_actions earlier [] = refl
same_actions earlier (e ∷ later) = ap (λ names. e.action ∷ names) (same_actions earlier later)

all_fit : (earlier later : List Entry) → IsBack earlier → Meets earlier later → Every (λ (e : Entry). TargetFits e.arity e.target) later
    → Every (λ (e : Entry). TargetFits e.arity e.target) (composed earlier later)
all_fit earlier [] fit meets within = tt
all_fit earlier (e ∷ later) fit meets within =
    (target_fits earlier fit e.arity e.target meets.0 within.0, all_fit earlier later fit meets.1 within.1)

pub composed_fits : (earlier later : List Entry) → IsBack earlier → IsBack later → Meets earlier later → IsBack (composed earlier later)
composed_fits earlier later fit others meets = record {
  differ = subst (λ (names : List Name). Differ names) (sym (same_actions earlier later)) others.differ;
  within = all_fit earlier later fit meets others.within;
}

-- where all of them are made
pub all_composed : (earlier later entries : List Entry) (i : ℕ) → length later ≤ i → entries ≡ map (composed_entry earlier) (take i later)
    → entries ≡ composed earlier later
all_composed earlier later entries i ends are = are ∙ ap (map (composed_entry earlier)) (take_all i later ends)

pub ruleset composing = (composed_fits, all_composed)
