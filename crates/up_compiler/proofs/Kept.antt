-- The identity's entries give each plan of a problem's actions back.
use Rattle.std.proofs.Common.{◌≡◌, ℕ, zero, suc, ◌≤◌, cond, Bool, true, false, ◌||◌, List, [], ◌∷◌, ◌++◌, length, take, get_or, find, Option, Some, None, IsSomeAnd, option_map, option_and_then, refl, ap, sym, ◌∙◌, subst, arith}
use Rattle.std.proofs.lemmas.Bool.{eq-eqb, false≢true}
use Rattle.std.proofs.lemmas.List.{take_all}
use Rattle.std.proofs.lemmas.Option.{slice_get-get_or}
use Rattle.std.proofs.lemmas.Slice.Eq.{bytes_eq-Decides}
use Rattle.std.proofs.Math.Seq.{take-suc}
use Rattle.up_text.specs.declared.name.Name.{Name}
use Rattle.up_text.specs.Names.{same_name}
use Rattle.up_text.specs.Lists.{Every}
use Rattle.up_tree.specs.declared.action.Action.{Action}
use Rattle.up_tree.specs.declared.problem.Parts.{Parts}
use Rattle.up_tree.specs.declared.problem.Plan.{Plan}
use Rattle.up_tree.specs.declared.problem.Step.{Step}
use Rattle.up_tree.specs.Value.{with_both}
use Rattle.up_compiler.specs.declared.back.Entry.{Entry}
use Rattle.up_compiler.specs.declared.back.Item.{Item}
use Rattle.up_compiler.specs.declared.back.Item.TheVariants.{Argument}
use Rattle.up_compiler.specs.Back.{item_object, items_objects, by_target, by_entry, entry_named, converted, and_kept, back_steps, back}
use Rattle.up_compiler.specs.Identity.{arguments, identity_entry, has_entry, and_entry, and_identity, identity_entries, IsOfActions}

none_apart : {X : Type 0} {x : X} → None ≡ Some x → ⊥
none_apart e = cc

-- ---- the arguments

items_push : (args : List Name) (items : List Item) (i : Item) (os : List Name) (o : Name) → items_objects args items ≡ Some os → item_object args i ≡ Some o
    → items_objects args (items ++ i ∷ []) ≡ Some (os ++ o ∷ [])
items_push args [] i os o h k = with_item (item_object args i) k ∙ ap (λ (r : Option (List Name)). rest r) h
  where
    rest : Option (List Name) → Option (List Name)
    rest None = None
    rest (Some os) = Some (os ++ o ∷ [])

    with_item : (x : Option Name) → x ≡ Some o → with_both (λ (o : Name) os. Some (o ∷ os)) x (Some []) ≡ Some (o ∷ [])
    with_item x k = ap (λ (x : Option Name). with_both (λ (o : Name) os. Some (o ∷ os)) x (Some [])) k
items_push args (j ∷ items) i os o h k = by (item_object args j) (items_objects args items) refl h (λ rest e. items_push args items i rest o e k)
  where
    by : (a : Option Name) (b : Option (List Name)) → items_objects args items ≡ b → with_both (λ (o : Name) os. Some (o ∷ os)) a b ≡ Some os
        → ((rest : List Name) → items_objects args items ≡ Some rest → items_objects args (items ++ i ∷ []) ≡ Some (rest ++ o ∷ []))
        → with_both (λ (o : Name) os. Some (o ∷ os)) a (items_objects args (items ++ i ∷ [])) ≡ Some (os ++ o ∷ [])
    by None b e is more = absurd (none_apart is)
    by (Some x) None e is more = absurd (none_apart is)
    by (Some x) (Some rest) e is more =
        ap (λ (r : Option (List Name)). with_both (λ (o : Name) os. Some (o ∷ os)) (Some x) r) (more rest e)
        ∙ ap (λ (r : Option (List Name)). option_map (λ os. os ++ o ∷ []) r) is

first_arguments : (args : List Name) (d : Name) (n : ℕ) → n ≤ length args → items_objects args (arguments n) ≡ Some (take n args)
unfolding arguments
first_arguments args d zero within = refl
first_arguments args d (suc n) within =
    items_push args (arguments n) (Argument (suc n)) (take n args) (get_or args n d) (first_arguments args d n (omega (arith, within)))
    (slice_get-get_or args n d (omega (arith, within)))
    ∙ ap Some (sym (take-suc args n d (omega (arith, within))))

all_arguments : (args : List Name) (n : ℕ) (d : Name) → n ≡ length args → items_objects args (arguments n) ≡ Some args
all_arguments args n d is = first_arguments args d n (omega (arith, is)) ∙ ap Some (take_all n args (omega (arith, is)))

-- ---- the entries

abbrev or_else : Option Entry → Option Entry → Option Entry
or_else None b = b
or_else (Some e) b = Some e

or_none : (a : Option Entry) → or_else a None ≡ a
or_none None = refl
or_none (Some e) = refl

found_push : (m : List Entry) (e : Entry) (name : Name) → entry_named (m ++ e ∷ []) name ≡ or_else (entry_named m name) (cond (same_name e.action name) (Some e) None)
found_push [] e name = refl
found_push (x ∷ m) e name = by (same_name x.action name) (found_push m e name)
  where
    by : (b : Bool) → entry_named (m ++ e ∷ []) name ≡ or_else (entry_named m name) (cond (same_name e.action name) (Some e) None)
        → cond b (Some x) (entry_named (m ++ e ∷ []) name) ≡ or_else (cond b (Some x) (entry_named m name)) (cond (same_name e.action name) (Some e) None)
    by true h = refl
    by false h = h

-- an entry of the name is found
found_one : (m : List Entry) (name : Name) (b : Option Entry) → has_entry m name ≡ true → or_else (entry_named m name) b ≡ entry_named m name
found_one [] name b h = absurd (false≢true h)
found_one (x ∷ m) name b h = by (same_name x.action name) h (found_one m name b)
  where
    by : (t : Bool) → (t || has_entry m name) ≡ true → (has_entry m name ≡ true → or_else (entry_named m name) b ≡ entry_named m name)
        → or_else (cond t (Some x) (entry_named m name)) b ≡ cond t (Some x) (entry_named m name)
    by true h more = refl
    by false h more = more h

abbrev found_action : List Action → Name → Option Action
found_action actions name = find (λ (a : Action). same_name a.name name) actions

found_all : (m : List Entry) (actions : List Action) (name : Name)
    → entry_named (and_identity m actions) name ≡ or_else (entry_named m name) (option_map identity_entry (found_action actions name))
found_all m [] name = sym (or_none (entry_named m name))
found_all m (a ∷ actions) name = found_all (and_entry m a) actions name ∙ by (has_entry m a.name) refl
  where
    later : Option Entry
    later = option_map identity_entry (found_action actions name)

    same : (t : Bool) → same_name a.name name ≡ t → has_entry m a.name ≡ true
        → or_else (entry_named m name) later ≡ or_else (entry_named m name) (option_map identity_entry (cond t (Some a) (found_action actions name)))
    same false is has = refl
    same true is has =
        let has_name : has_entry m name ≡ true = subst (λ (n : Name). has_entry m n ≡ true) ((bytes_eq-Decides a.name name).0 is) has in
        found_one m name later has_name ∙ sym (found_one m name (Some (identity_entry a)) has_name)

    new : (t : Bool) (x : Option Entry)
        → or_else (or_else x (cond t (Some (identity_entry a)) None)) later ≡ or_else x (option_map identity_entry (cond t (Some a) (found_action actions name)))
    new true None = refl
    new false None = refl
    new t (Some e) = refl

    by : (b : Bool) → has_entry m a.name ≡ b
        → or_else (entry_named (cond b m (m ++ identity_entry a ∷ [])) name) later
        ≡ or_else (entry_named m name) (option_map identity_entry (cond (same_name a.name name) (Some a) (found_action actions name)))
    by true has = same (same_name a.name name) refl has
    by false has =
        ap (λ x. or_else x later) (found_push m (identity_entry a) name) ∙ new (same_name a.name name) (entry_named m name)

-- ---- the steps

found_name : (actions : List Action) (name : Name) (a : Action) → found_action actions name ≡ Some a → a.name ≡ name
found_name [] name a is = absurd (none_apart is)
found_name (x ∷ actions) name a is = by (same_name x.name name) refl is (found_name actions name a)
  where
    by : (t : Bool) → same_name x.name name ≡ t → cond t (Some x) (found_action actions name) ≡ Some a → (found_action actions name ≡ Some a → a.name ≡ name) → a.name ≡ name
    by true same is later = subst (λ (o : Option Action). IsSomeAnd o (λ a. a.name ≡ name)) is ((bytes_eq-Decides x.name name).0 same)
    by false same is later = later is

step_kept : (actions : List Action) (step : Step) → IsSomeAnd (found_action actions step.action) (λ a. length step.args ≡ length a.params)
    → converted (identity_entries actions) step ≡ Some (Some step)
step_kept actions step is =
    ap (λ e. option_and_then (by_entry step.args) e) (found_all [] actions step.action) ∙ by (found_action actions step.action) refl is
  where
    by : (found : Option Action) → found_action actions step.action ≡ found → IsSomeAnd found (λ a. length step.args ≡ length a.params)
        → option_and_then (by_entry step.args) (option_map identity_entry found) ≡ Some (Some step)
    by None e is = absurd is
    by (Some a) e is =
        ap (λ b. cond b (by_target step.args (identity_entry a).target) None) (eq-eqb (length a.params) (length step.args) (sym is))
        ∙ ap (option_map (λ objects. let kept : Step = record { action = a.name; args = objects } in Some kept)) (all_arguments step.args (length a.params) step.action (sym is))
        ∙ ap (λ (name : Name). let kept : Step = record { action = name; args = step.args } in Some (Some kept)) (found_name actions step.action a e)

steps_kept : (actions : List Action) (steps : List Step)
    → Every (λ (step : Step). IsSomeAnd (found_action actions step.action) (λ a. length step.args ≡ length a.params)) steps
    → back_steps (identity_entries actions) steps ≡ Some steps
steps_kept actions [] all = refl
steps_kept actions (step ∷ steps) all =
    λ i. with_both (λ a rest. Some (and_kept a rest)) (step_kept actions step all.0 i) (steps_kept actions steps all.1 i)

pub identity_keeps : (p : Parts) (plan : Plan) → IsOfActions p plan → back (identity_entries p.actions) plan ≡ Some plan
identity_keeps p plan all = ap (option_map (λ steps. let plan : Plan = record { steps = steps } in plan)) (steps_kept p.actions plan.steps all)
