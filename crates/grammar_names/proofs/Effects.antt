-- A raw effect is read as rows exactly where it denotes them.
use Rattle.std.proofs.Common.{◌≡◌, List, [], ◌∷◌, ◌++◌, map, length, append_assoc, refl, ap, sym, ◌∙◌, subst}
use Rattle.std.proofs.Math.Seq.{drop-append_seam}
use Rattle.up_text.specs.Lists.{Every}
use Rattle.pddl_lex.specs.Parses.{parsed}
use Rattle.pddl_parse.specs.declared.raw.RawEffect.{RawEffect, Row_of-RawEffect, end_of-RawEffect, more_of-RawEffect, items-the_row-RawEffect}
use Rattle.pddl_parse.specs.declared.raw.RawEffect as raw
use Rattle.pddl_parse.specs.declared.raw.RawFormula.{RawFormula}
use Rattle.pddl_parse.specs.declared.raw.RawGroup.{RawGroup}
use Rattle.pddl_parse.proofs.Spelled.{Sound, sound_over, sound_two}
use Rattle.up_tree.specs.declared.action.Effect.{Effect}
use Rattle.up_tree.specs.declared.action.Row.{Row}
use Rattle.up_tree.specs.declared.formula.Formula.{Formula, And}
use Rattle.up_tree.specs.declared.term.Typed.{Typed}
use Rattle.up_tree.specs.Simplify.{alone_or}
use Rattle.up_phrase.specs.declared.term.Setting.TheVariants.{Plain}
use Rattle.up_phrase.specs.Conditions.{formula}
use Rattle.up_phrase.specs.Declarations.{Declarations}
use Rattle.up_phrase.specs.Lookups.{function_of}
use Rattle.up_phrase.specs.Scopes.{Variables, entered_groups, typed}
use Rattle.up_phrase.specs.Walks.{Checked}
use Rattle.up_effect.specs.Effects.{with_variables, under, row, whens_and, added, deleted, changed, undefined, simple, together, rows, each_rows}
use Rattle.up_effect.specs.Nodes.{for_all, when}
use Rattle.grammar_names.specs.Phrases.{Enters, DenotesFormula}
use Rattle.grammar_names.specs.Effects.{bound_in, row_of, DenotesSimple, of_add, of_delete, of_number, of_object, of_undefine, DenotesEffect, of_and, of_forall, of_when, of_simple, DenoteEffects, no_effects, more_effects}
use Rattle.grammar_names.specs.Around.{around}
use Rattle.grammar_shapes.proofs.Parses.{sound_map, sound_is}
use Rattle.grammar_names.proofs.Parses.{sound_after}
use Rattle.grammar_names.proofs.Conditions.{entered_read, entered_enters, entered_grow, formula_read, formula_denotes}
use Rattle.grammar_names.proofs.EffectNodes.{and_built, for_all_built, when_built, rows-items, rows-And, rows-Forall, rows-When}
use Rattle.grammar_names.proofs.SimpleEffects.{added_read, deleted_read, number_read, object_read, undefined_read, added_sound, deleted_sound, changed_sound, undefined_sound}
use Rattle.grammar_names.proofs.Barring.{groups_same, held_same, held_under, held}
use Rattle.grammar_shapes.proofs.Walks.{sound_of}

module _ (names : Declarations) (params : Variables) where
  -- a row's variables are those after the parameters
  row_is : (bound : Variables) (conditions : List Formula) (e : Effect) → row (around params bound conditions) e ≡ row_of bound conditions e
  row_is bound conditions e = ap (λ vs. row_with (map typed vs)) (drop-append_seam params bound)
    where
      row_with : List Typed → Row
      row_with vars = record { vars = vars; when = alone_or And conditions; effect = e }

  under_is : (bound : Variables) (conditions : List Formula) (f : Formula)
      → under (around params bound conditions) f ≡ around params bound (whens_and conditions f)
  under_is bound conditions f =
      ap (λ barred. record { parameters = length params; variables = params ++ bound; barred = barred; whens = whens_and conditions f }) (sym (held_under conditions f))

  entered_is : (conditions : List Formula) (groups : List RawGroup) (vars : Variables)
      → entered_groups names (held conditions) groups vars ≡ entered_groups names (bound_in conditions) groups vars
  entered_is conditions groups vars = groups_same (held conditions) (bound_in conditions) (held_same conditions) names groups vars

  -- ---- what is denoted is read

  simple_read : (bound : Variables) (conditions : List Formula) (raw : RawEffect) (e : Effect) → DenotesSimple names (params ++ bound) raw e
      → rows names (around params bound conditions) raw ≡ parsed (row (around params bound conditions) e ∷ [])
  unfolding rows
  simple_read bound conditions _ _ (of_add it ts is) = ap (simple (around params bound conditions)) (added_read names (params ++ bound) it ts is)
  simple_read bound conditions _ _ (of_delete it ts is) = ap (simple (around params bound conditions)) (deleted_read names (params ++ bound) it ts is)
  simple_read bound conditions _ _ (of_number c it value ts e is so) =
      ap (simple (around params bound conditions)) (number_read names (params ++ bound) c it value ts e is so)
  simple_read bound conditions _ _ (of_object it value of ts t is so) =
      ap (simple (around params bound conditions)) (object_read names (params ++ bound) it value of ts t is so)
  simple_read bound conditions _ _ (of_undefine it place of ts is) =
      ap (simple (around params bound conditions)) (undefined_read names (params ++ bound) it place of ts is)

  mutual
    pub effect_read : (bound : Variables) (conditions : List Formula) (raw : RawEffect) (rs : List Row) → DenotesEffect names params bound conditions raw rs
        → rows names (around params bound conditions) raw ≡ parsed rs
    effect_read _ _ _ _ (of_and bound conditions members rs are) =
        rows-And names (around params bound conditions) members ∙ effects_read bound conditions members rs are
    effect_read _ _ _ _ (of_forall bound more conditions groups body rs enter is) =
        rw (
          rows-Forall names (around params bound conditions) groups body,
          entered_is conditions groups (params ++ bound),
          entered_read names (bound_in conditions) groups (params ++ bound) (params ++ bound ++ more) enter,
          append_assoc params bound more,
        ) (effect_read (bound ++ more) conditions body rs is)
    effect_read _ _ _ _ (of_when bound conditions condition f body rs is so) =
        rw (
          rows-When names (around params bound conditions) condition body,
          formula_read names (params ++ bound) Plain condition f is,
        ) (ap (λ a. rows names a body) (under_is bound conditions f) ∙ effect_read bound (whens_and conditions f) body rs so)
    effect_read _ _ _ _ (of_simple bound conditions raw e is) =
        simple_read bound conditions raw e is ∙ ap (λ r. parsed (r ∷ [])) (row_is bound conditions e)

    effects_read : (bound : Variables) (conditions : List Formula) (members : List RawEffect) (rs : List Row)
        → DenoteEffects names params bound conditions members rs → together (map (rows names (around params bound conditions)) members) ≡ parsed rs
    effects_read _ _ _ _ (no_effects bound conditions) = refl
    effects_read _ _ _ _ (more_effects bound conditions member rs members others is are) =
        rw (effect_read bound conditions member rs is, effects_read bound conditions members others are) refl

  -- ---- what is read is denoted

  abbrev Denotes : Variables → List Formula → RawEffect → List Row → Type 0
  Denotes bound conditions raw rs = DenotesEffect names params bound conditions raw rs

  abbrev Denote : Variables → List Formula → List RawEffect → List Row → Type 0
  Denote bound conditions members rs = DenoteEffects names params bound conditions members rs

  abbrev Simple : Variables → RawEffect → Effect → Type 0
  Simple bound raw e = DenotesSimple names (params ++ bound) raw e

  abbrev read : Variables → List Formula → List RawEffect → Checked (List Row)
  read bound conditions members = together (map (rows names (around params bound conditions)) members)

  simple_sound : (bound : Variables) (conditions : List Formula) (raw : RawEffect) (v : Checked Effect) → Sound v (Simple bound raw)
      → Sound (simple (around params bound conditions) v) (Denotes bound conditions raw)
  simple_sound bound conditions raw v is =
      sound_over (Simple bound raw) (Denotes bound conditions raw) (λ e. row (around params bound conditions) e ∷ []) v
      (λ e so. subst (λ r. Denotes bound conditions raw (r ∷ [])) (sym (row_is bound conditions e)) (of_simple bound conditions raw e so)) is

  abbrev IsRead : Variables → List Formula → RawEffect → Type 0
  IsRead bound conditions raw = Sound (rows names (around params bound conditions) raw) (Denotes bound conditions raw)

  together_sound : (bound : Variables) (conditions : List Formula) (members : List RawEffect) → Every (IsRead bound conditions) members
      → Sound (read bound conditions members) (Denote bound conditions members)
  together_sound bound conditions [] are = no_effects bound conditions
  together_sound bound conditions (member ∷ members) are =
      sound_two (Denotes bound conditions member) (Denote bound conditions members)
      (Denote bound conditions (member ∷ members)) (λ rs others. rs ++ others) (rows names (around params bound conditions) member)
      (read bound conditions members)
      (λ rs others is those. more_effects bound conditions member rs members others is those) are.0 (together_sound bound conditions members are.1)

  -- these variables come into scope after those that are there
  record Inside (bound : Variables) (conditions : List Formula) (groups : List RawGroup) (more : Variables) : Type 0 where
    added : Variables
    is : more ≡ params ++ (bound ++ added)
    enter : Enters names (bound_in conditions) groups (params ++ bound) (params ++ bound ++ added)

  inside : (bound : Variables) (conditions : List Formula) (groups : List RawGroup) (more : Variables)
      → Enters names (bound_in conditions) groups (params ++ bound) more → Inside bound conditions groups more
  inside bound conditions groups more enter =
      let (added, is) = entered_grow names (bound_in conditions) groups (params ++ bound) more enter in
      record {
        added = added;
        is = is ∙ append_assoc params bound added;
        enter = subst (Enters names (bound_in conditions) groups (params ++ bound)) is enter;
      }

  entered_sound : (bound : Variables) (conditions : List Formula) (groups : List RawGroup)
      → Sound (entered_groups names (held conditions) groups (params ++ bound)) (Inside bound conditions groups)
  entered_sound bound conditions groups =
      sound_of (Inside bound conditions groups) (entered_groups names (held conditions) groups (params ++ bound))
      (λ more e. inside bound conditions groups more
      (entered_enters names (bound_in conditions) groups (params ++ bound) more (sym (entered_is conditions groups (params ++ bound)) ∙ e)))

  condition_sound : (bound : Variables) (condition : RawFormula)
      → Sound (formula names (params ++ bound) Plain condition) (DenotesFormula names (params ++ bound) Plain condition)
  condition_sound bound condition =
      sound_of (DenotesFormula names (params ++ bound) Plain condition) (formula names (params ++ bound) Plain condition)
      (λ f e. formula_denotes names (params ++ bound) Plain condition f e)

  quantified_sound : (bound : Variables) (conditions : List Formula) (groups : List RawGroup) (body : RawEffect) (more : Variables)
      (in_scope : Inside bound conditions groups more) → IsRead (bound ++ in_scope.added) conditions body
      → Sound (rows names (with_variables (around params bound conditions) more) body) (Denotes bound conditions (for_all groups body))
  quantified_sound bound conditions groups body more in_scope is =
      rw (in_scope.is, ← for_all_built groups body)
      (sound_map (Denotes (bound ++ in_scope.added) conditions body) (Denotes bound conditions (raw.Forall groups body))
      (rows names (around params (bound ++ in_scope.added) conditions) body)
      (λ rs so. of_forall bound in_scope.added conditions groups body rs in_scope.enter so) is)

  conditional_sound : (bound : Variables) (conditions : List Formula) (condition : RawFormula) (body : RawEffect) (f : Formula)
      → DenotesFormula names (params ++ bound) Plain condition f → IsRead bound (whens_and conditions f) body
      → Sound (rows names (under (around params bound conditions) f) body) (Denotes bound conditions (when condition body))
  conditional_sound bound conditions condition body f so is =
      rw (under_is bound conditions f, ← when_built condition body)
      (sound_map (Denotes bound (whens_and conditions f) body) (Denotes bound conditions (raw.When condition body))
      (rows names (around params bound (whens_and conditions f)) body) (λ rs under. of_when bound conditions condition f body rs so under) is)

  mutual
    unfolding rows each_rows

    pub effect_sound : (raw : RawEffect) (bound : Variables) (conditions : List Formula)
        → Sound (rows names (around params bound conditions) raw) (DenotesEffect names params bound conditions raw)
    effect_sound (raw.And' n row) bound conditions =
        rw (and_built n row, rows-items names (around params bound conditions) row)
        (sound_map (Denote bound conditions (items-the_row-RawEffect _ row)) (Denotes bound conditions (raw.And (items-the_row-RawEffect _ row)))
        (read bound conditions (items-the_row-RawEffect _ row))
        (λ rs are. of_and bound conditions (items-the_row-RawEffect _ row) rs are)
        (together_sound bound conditions (items-the_row-RawEffect _ row) (row_sound row bound conditions)))
    effect_sound (for_all groups body) bound conditions =
        sound_after (Inside bound conditions groups) (Denotes bound conditions (for_all groups body))
        (entered_groups names (held conditions) groups (params ++ bound)) (λ (vars : Variables). rows names (with_variables (around params bound conditions) vars) body)
        (entered_sound bound conditions groups)
        (λ more in_scope. quantified_sound bound conditions groups body more in_scope (effect_sound body (bound ++ in_scope.added) conditions))
    effect_sound (when condition body) bound conditions =
        sound_after (DenotesFormula names (params ++ bound) Plain condition) (Denotes bound conditions (when condition body))
        (formula names (params ++ bound) Plain condition) (λ (f : Formula). rows names (under (around params bound conditions) f) body)
        (condition_sound bound condition)
        (λ f is. conditional_sound bound conditions condition body f is (effect_sound body bound (whens_and conditions f)))
    effect_sound (raw.Add it) bound conditions =
        simple_sound bound conditions (raw.Add it) (added names (params ++ bound) it) (added_sound names (params ++ bound) it)
    effect_sound (raw.Delete it) bound conditions =
        simple_sound bound conditions (raw.Delete it) (deleted names (params ++ bound) it) (deleted_sound names (params ++ bound) it)
    effect_sound (raw.Change c it value) bound conditions =
        simple_sound bound conditions (raw.Change c it value) (changed names (params ++ bound) c it value) (changed_sound names (params ++ bound) c it value)
    effect_sound (raw.Undefine it place) bound conditions =
        simple_sound bound conditions (raw.Undefine it place) (undefined names (params ++ bound) it place (function_of names it.name.name))
        (undefined_sound names (params ++ bound) it place (function_of names it.name.name) refl)

    row_sound : {n : _} (row : Row_of-RawEffect n) (bound : Variables) (conditions : List Formula) → Every (IsRead bound conditions) (items-the_row-RawEffect _ row)
    row_sound end_of-RawEffect bound conditions = tt
    row_sound (more_of-RawEffect member row) bound conditions = (effect_sound member bound conditions, row_sound row bound conditions)

  pub effect_denotes : (bound : Variables) (conditions : List Formula) (raw : RawEffect) (rs : List Row)
      → rows names (around params bound conditions) raw ≡ parsed rs → DenotesEffect names params bound conditions raw rs
  effect_denotes bound conditions raw rs e =
      sound_is (Denotes bound conditions raw) (rows names (around params bound conditions) raw) rs (effect_sound raw bound conditions) e
