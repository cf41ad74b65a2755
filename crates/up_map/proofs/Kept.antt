-- One more step of a plan is converted.
use Rattle.std.proofs.Common.{◌≡◌, ℕ, zero, suc, ◌+◌, ◌<◌, ◌≤◌, cond, Bool, true, false, List, [], ◌∷◌, ◌++◌, length, drop, get_or, Option, Some, None, option_map, option_and_then, nat_eq, refl, ap, sym, ◌∙◌, subst, append_assoc, append-nil, arith}
use Rattle.std.specs.Prelude.{option_to_list}
use Rattle.std.specs.Option.{option_or}
use Rattle.std.proofs.lemmas.List.{drop_more}
use Rattle.up_text.specs.declared.name.Name.{Name}
use Rattle.up_text.specs.Lists.{Every}
use Rattle.up_tree.specs.declared.problem.Plan.{Plan}
use Rattle.up_tree.specs.declared.problem.Step.{Step}
use Rattle.up_tree.specs.Value.{with_both}
use Rattle.up_compiler.specs.declared.back.Entry.{Entry}
use Rattle.up_compiler.specs.declared.back.Item.{Item}
use Rattle.up_compiler.specs.Back.{item_object, items_objects, by_entry, by_target, entry_named, and_kept, back_steps, back}
use Rattle.up_map.specs.declared.back_error.BackError.{BackError}
use Rattle.up_map.specs.declared.back_error.BackError.TheVariants.{Arity}
use Rattle.up_map.specs.Unfit.{converted_by, unfit_by, first_unfit}

-- what is left of a list from an element on
pub left_at : {X : Type 0} (xs : List X) (i : ℕ) (x : X) → i < length xs → x ≡ get_or xs i x → drop i xs ≡ x ∷ drop (i + 1) xs
left_at {X} xs i x within is = drop_more xs i x within ∙ ap (λ (y : X). y ∷ drop (i + 1) xs) (sym is)

pub every_at : {X : Type 0} (P : X → Type 0) (xs : List X) (i : ℕ) (x : X) → Every P xs → i < length xs → x ≡ get_or xs i x → P x
every_at P [] i x all within is = absurd (omega (arith, within))
every_at P (y ∷ xs) zero x all within is = subst P (sym is) all.0
every_at P (y ∷ xs) (suc i) x all within is = every_at P xs i x all.1 (omega (arith, within)) is

-- ---- objects

-- names in front of more
abbrev pub and_objects : List Name → Option (List Name) → Option (List Name)
and_objects objects more = option_map (λ os. objects ++ os) more

pub objects_none : (more : Option (List Name)) → more ≡ and_objects [] more
objects_none None = refl
objects_none (Some os) = refl

objects_one : (objects : List Name) (o : Name) (more : Option (List Name))
    → and_objects objects (with_both (λ o os. Some (o ∷ os)) (Some o) more) ≡ and_objects (objects ++ o ∷ []) more
objects_one objects o None = refl
objects_one objects o (Some os) = ap (λ (names : List Name). Some names) (sym (append_assoc objects (o ∷ []) os))

pub objects_more : (args : List Name) (items : List Item) (objects later : List Name) (i : ℕ) (item : Item) (o : Name)
    → i < length items → item ≡ get_or items i item → item_object args item ≡ Some o → later ≡ objects ++ o ∷ []
    → items_objects args items ≡ and_objects objects (items_objects args (drop i items))
    → items_objects args items ≡ and_objects later (items_objects args (drop (i + 1) items))
objects_more args items objects later i item o within at is added so_far =
    so_far
    ∙ ap (λ (left : List Item). and_objects objects (items_objects args left)) (left_at items i item within at)
    ∙ ap (λ (found : Option Name). and_objects objects (with_both (λ o os. Some (o ∷ os)) found (items_objects args (drop (i + 1) items)))) is
    ∙ objects_one objects o (items_objects args (drop (i + 1) items))
    ∙ ap (λ (names : List Name). and_objects names (items_objects args (drop (i + 1) items))) (sym added)

-- ---- steps

-- steps in front of more
abbrev pub and_steps : List Step → Option (List Step) → Option (List Step)
and_steps steps more = option_map (λ others. steps ++ others) more

pub steps_none : (more : Option (List Step)) → more ≡ and_steps [] more
steps_none None = refl
steps_none (Some steps) = refl

kept_one : (steps : List Step) (kept : Option Step) (more : Option (List Step))
    → and_steps steps (with_both (λ a rest. Some (and_kept a rest)) (Some kept) more) ≡ and_steps (steps ++ option_to_list kept) more
kept_one steps kept None = refl
kept_one steps None (Some others) = ap (λ (all : List Step). Some (all ++ others)) (sym (append-nil steps))
kept_one steps (Some step) (Some others) = ap (λ (all : List Step). Some all) (sym (append_assoc steps (step ∷ []) others))

-- what an entry converts fits it
fits : (number : ℕ) (step : Step) (e : Entry) (kept : Option Step) → by_entry step.args e ≡ Some kept → unfit_by number step (Some e) ≡ None
fits number step e kept is = by (nat_eq e.arity (length step.args)) is
  where
    by : (b : Bool) → cond b (by_target step.args e.target) None ≡ Some kept → cond b None (Some (Arity number)) ≡ None
    by true h = refl
    by false h = absurd cc

-- ---- faults

unconverted : (number : ℕ) (step : Step) (found : Option Entry) (fault : BackError) → unfit_by number step found ≡ Some fault
    → option_and_then (by_entry step.args) found ≡ None
unconverted number step None fault is = refl
unconverted number step (Some e) fault is = by (nat_eq e.arity (length step.args)) is
  where
    by : (b : Bool) → cond b None (Some (Arity number)) ≡ Some fault → cond b (by_target step.args e.target) None ≡ None
    by true h = absurd cc
    by false h = refl

-- the step at this place is the first that doesn't fit
pub record UnfitAt (m : List Entry) (all : List Step) (i : ℕ) (step : Step) (fault : BackError) : Type 0 where
  pub within : i < length all
  pub at : step ≡ get_or all i step
  pub unfit : unfit_by (i + 1) step (entry_named m step.action) ≡ Some fault

pub unfit_first : (m : List Entry) (all : List Step) (i : ℕ) (step : Step) (fault : BackError) → UnfitAt m all i step fault
    → first_unfit m 1 all ≡ first_unfit m (i + 1) (drop i all) → first_unfit m 1 all ≡ Some fault
unfit_first m all i step fault u so_far =
    so_far
    ∙ ap (first_unfit m (i + 1)) (left_at all i step u.within u.at)
    ∙ ap (λ (found : Option BackError). option_or found (first_unfit m ((i + 1) + 1) (drop (i + 1) all))) u.unfit

pub unfit_none : (m : List Entry) (all steps : List Step) (i : ℕ) (step : Step) (fault : BackError) → UnfitAt m all i step fault
    → back_steps m all ≡ and_steps steps (back_steps m (drop i all)) → back_steps m all ≡ None
unfit_none m all steps i step fault u so_far =
    so_far
    ∙ ap (λ (left : List Step). and_steps steps (back_steps m left)) (left_at all i step u.within u.at)
    ∙ ap (λ (found : Option (Option Step)). and_steps steps (with_both (λ a rest. Some (and_kept a rest)) found (back_steps m (drop (i + 1) all))))
    (unconverted (i + 1) step (entry_named m step.action) fault u.unfit)

-- ---- at the end

drop_past : {X : Type 0} (xs : List X) (i : ℕ) → length xs ≤ i → drop i xs ≡ []
drop_past [] zero past = refl
drop_past [] (suc i) past = refl
drop_past (x ∷ xs) zero past = absurd (omega (arith, past))
drop_past (x ∷ xs) (suc i) past = drop_past xs i (omega (arith, past))

pub objects_all : (args : List Name) (items : List Item) (objects : List Name) (i : ℕ) → length items ≤ i
    → items_objects args items ≡ and_objects objects (items_objects args (drop i items)) → items_objects args items ≡ Some objects
objects_all args items objects i past so_far =
    so_far ∙ ap (λ (left : List Item). and_objects objects (items_objects args left)) (drop_past items i past)
    ∙ ap (λ (names : List Name). Some names) (append-nil objects)

pub fit_all : (m : List Entry) (all : List Step) (i : ℕ) → length all ≤ i
    → first_unfit m 1 all ≡ first_unfit m (i + 1) (drop i all) → first_unfit m 1 all ≡ None
fit_all m all i past so_far = so_far ∙ ap (first_unfit m (i + 1)) (drop_past all i past)

pub plan_none : (m : List Entry) (plan : Plan) → back_steps m plan.steps ≡ None → back m plan ≡ None
plan_none m plan none = ap (option_map (λ all. let made : Plan = record { steps = all } in made)) none

-- ---- in the loop

-- the steps so far fit, and what they become stands in front of what the others become
pub record IsAt (m : List Entry) (all made : List Step) (i count : ℕ) : Type 0 where
  pub kept : back_steps m all ≡ and_steps made (back_steps m (drop i all))
  pub fit : first_unfit m 1 all ≡ first_unfit m (i + 1) (drop i all)
  pub counted : count ≡ i

pub at_none : (m : List Entry) (all : List Step) → IsAt m all [] 0 0
at_none m all = record { kept = steps_none (back_steps m all); fit = refl; counted = refl }

-- a step at its place in the plan, and the entry that is found for it
pub record Found (m : List Entry) (all : List Step) (i : ℕ) (step : Step) (found : Option Entry) : Type 0 where
  pub within : i < length all
  pub is : step ≡ get_or all i step
  pub has : found ≡ entry_named m step.action

by_some : (found : Option Entry) (step : Step) (kept : Option Step) (number : ℕ) → converted_by found step ≡ Some kept → unfit_by number step found ≡ None
by_some None step kept number is = absurd cc
by_some (Some e) step kept number is = fits number step e kept is

pub at_more : (m : List Entry) (all made later : List Step) (i number : ℕ) (step : Step) (found : Option Entry) (kept : Option Step) → Found m all i step found
    → converted_by found step ≡ Some kept → later ≡ made ++ option_to_list kept → IsAt m all made i number → IsAt m all later (i + 1) (number + 1)
at_more m all made later i number step found kept f is added a = record {
  kept = a.kept
      ∙ ap (λ (left : List Step). and_steps made (back_steps m left)) (left_at all i step f.within f.is)
      ∙ ap (λ (one : Option (Option Step)). and_steps made (with_both (λ a rest. Some (and_kept a rest)) one (back_steps m (drop (i + 1) all))))
      (ap (option_and_then (by_entry step.args)) (sym f.has) ∙ is)
      ∙ kept_one made kept (back_steps m (drop (i + 1) all))
      ∙ ap (λ (row : List Step). and_steps row (back_steps m (drop (i + 1) all))) (sym added);
  fit = a.fit
      ∙ ap (first_unfit m (i + 1)) (left_at all i step f.within f.is)
      ∙ ap (λ (one : Option BackError). option_or one (first_unfit m ((i + 1) + 1) (drop (i + 1) all)))
      (ap (unfit_by (i + 1) step) (sym f.has) ∙ by_some found step kept (i + 1) is);
  counted = ap (λ (n : ℕ). n + 1) a.counted;
}

-- the fault at which the loop ends is the first one, and then the plan isn't converted
pub at_fault : (m : List Entry) (all made : List Step) (i number : ℕ) (step : Step) (found : Option Entry) (fault : BackError) → Found m all i step found
    → unfit_by (number + 1) step found ≡ Some fault → IsAt m all made i number
    → (first_unfit m 1 all ≡ Some fault) × (back_steps m all ≡ None)
at_fault m all made i number step found fault f is a =
    let here : unfit_by (i + 1) step found ≡ Some fault = ap (λ (n : ℕ). unfit_by (n + 1) step found) (sym a.counted) ∙ is in
    let u : UnfitAt m all i step fault = record { within = f.within; at = f.is; unfit = ap (unfit_by (i + 1) step) (sym f.has) ∙ here } in
    (unfit_first m all i step fault u a.fit, unfit_none m all made i step fault u a.kept)

pub at_end : (m : List Entry) (all made : List Step) (i number : ℕ) → length all ≤ i → IsAt m all made i number
    → (back_steps m all ≡ Some made) × (first_unfit m 1 all ≡ None)
at_end m all made i number past a = (
  a.kept ∙ ap (λ (left : List Step). and_steps made (back_steps m left)) (drop_past all i past) ∙ ap (λ (row : List Step). Some row) (append-nil made),
  fit_all m all i past a.fit,
)

-- ---- the whole plan

pub plan_some : (m : List Entry) (plan : Plan) (steps : List Step) → back_steps m plan.steps ≡ Some steps → back m plan ≡ Some (record { steps = steps })
plan_some m plan steps is = ap (option_map (λ all. let made : Plan = record { steps = all } in made)) is
