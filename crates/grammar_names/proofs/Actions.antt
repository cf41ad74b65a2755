-- Raw actions are read exactly as the actions that they denote.
use Rattle.std.proofs.Common.{◌≡◌, Bool, true, false, true≢false, not, ◌||◌, List, [], ◌∷◌, ◌++◌, map, length, append-nil, refl, ap, sym, ◌∙◌, subst, inl, inr}
use Rattle.std.proofs.lemmas.List.Folds.{list_any-append}
use Rattle.std.proofs.lemmas.Slice.Eq.{bytes_eq-Decides}
use Rattle.std.specs.Str.{bytes_eq}
use Rattle.up_text.specs.declared.name.Name.{Name}
use Rattle.up_text.specs.Fresh.{is_among, with_name}
use Rattle.up_text.specs.Lists.{Every, Member, Differ}
use Rattle.pddl_lex.specs.Parses.{parsed, over_two}
use Rattle.pddl_parse.specs.declared.raw.RawAction.{RawAction}
use Rattle.pddl_parse.proofs.Spelled.{Sound, sound_two, sound_behind}
use Rattle.up_tree.specs.declared.action.Action.{Action}
use Rattle.up_tree.specs.declared.action.Row.{Row}
use Rattle.up_phrase.specs.declared.reason.Reason.TheVariants.{Duplicate}
use Rattle.up_phrase.specs.declared.term.Setting.TheVariants.{Plain}
use Rattle.up_phrase.specs.Conditions.{formula}
use Rattle.up_phrase.specs.Declarations.{Declarations}
use Rattle.up_phrase.specs.Named.{at}
use Rattle.up_phrase.specs.Scopes.{Variables, entered_groups, typed}
use Rattle.up_effect.specs.Actions.{action_of, with_parameters, action}
use Rattle.up_effect.specs.Effects.{within, rows}
use Rattle.up_check.specs.Domains.{actions, second}
use Rattle.grammar_names.specs.Phrases.{Enters, DenotesFormula}
use Rattle.grammar_names.specs.Effects.{DenotesEffect}
use Rattle.grammar_names.specs.Actions.{DenotesAction, DenoteEach, no_actions, more_actions, DenoteActions}
use Rattle.grammar_names.specs.Around.{around}
use Rattle.grammar_shapes.proofs.Parses.{sound_is}
use Rattle.grammar_names.proofs.Parses.{sound_after, holds}
use Rattle.grammar_names.proofs.Conditions.{entered_read, entered_enters, formula_read, formula_denotes}
use Rattle.grammar_names.proofs.Barring.{or_false}
use Rattle.grammar_names.proofs.Effects.{effect_read, effect_denotes}
use Rattle.grammar_shapes.proofs.Walks.{sound_of}

-- nothing stands around the effect of an action
within_is : (vars : Variables) → within vars [] ≡ around vars [] []
within_is vars = ap (λ vs. record { parameters = length vars; variables = vs; barred = []; whens = [] }) (sym (append-nil vars))

-- ---- one action

module _ (names : Declarations) (raw : RawAction) where
  rows_read : (vars : Variables) (rs : List Row) → DenotesEffect names vars [] [] raw.effect rs → rows names (within vars []) raw.effect ≡ parsed rs
  rows_read vars rs is = ap (λ a. rows names a raw.effect) (within_is vars) ∙ effect_read names vars [] [] raw.effect rs is

  pub action_read : (act : Action) → DenotesAction names raw act → action names raw ≡ parsed act
  action_read act is =
      rw (
        entered_read names [] raw.params [] is.variables is.enter,
        formula_read names is.variables Plain raw.pre act.pre is.pre,
        rows_read is.variables act.rows is.effect,
      ) (λ i. parsed (action_of (sym is.name i) (sym is.params i) act.pre act.rows))

  rows_sound : (vars : Variables) → Sound (rows names (within vars []) raw.effect) (DenotesEffect names vars [] [] raw.effect)
  rows_sound vars =
      sound_of (DenotesEffect names vars [] [] raw.effect) (rows names (within vars []) raw.effect)
      (λ rs e. effect_denotes names vars [] [] raw.effect rs (sym (ap (λ a. rows names a raw.effect) (within_is vars)) ∙ e))

  pub action_sound : Sound (action names raw) (DenotesAction names raw)
  action_sound =
      sound_after (Enters names [] raw.params []) (DenotesAction names raw) (entered_groups names [] raw.params []) (with_parameters names raw [])
      (sound_of (Enters names [] raw.params []) (entered_groups names [] raw.params []) (λ vars e. entered_enters names [] raw.params [] vars e))
      (λ vars enter.
      sound_two (DenotesFormula names vars Plain raw.pre) (DenotesEffect names vars [] [] raw.effect) (DenotesAction names raw)
      (action_of raw.name.name (map typed vars)) (formula names vars Plain raw.pre) (rows names (within vars []) raw.effect)
      (λ f rs pre effect. record { variables = vars; name = refl; enter = enter; params = refl; pre = pre; effect = effect })
      (sound_of (DenotesFormula names vars Plain raw.pre) (formula names vars Plain raw.pre) (λ f e. formula_denotes names vars Plain raw.pre f e))
      (rows_sound vars))

  pub action_denotes : (act : Action) → action names raw ≡ parsed act → DenotesAction names raw act
  action_denotes act e = sound_is (DenotesAction names raw) (action names raw) act action_sound e

-- ---- names that are declared

among_push : (declared : List Name) (name n : Name) → is_among (declared ++ name ∷ []) n ≡ (is_among declared n || bytes_eq n name)
among_push declared name n =
    list_any-append (bytes_eq n) declared (name ∷ []) ∙ ap (λ b. is_among declared n || b) (or_false (bytes_eq n name))

name_new : (declared : List Name) (name : Name) → is_among declared name ≡ false → with_name declared name ≡ declared ++ name ∷ []
name_new declared name free = rw free refl

no_other : (b : Bool) → not b ≡ true → b ≡ false
no_other true e = absurd (true≢false (sym e))
no_other false e = refl

neither : (a b : Bool) → (a || b) ≡ false → (a ≡ false) × (b ≡ false)
neither true b e = absurd (true≢false e)
neither false b e = (refl, e)

-- another name
differs : (n name : Name) → ¬ (name ≡ n) → bytes_eq n name ≡ false
differs n name other = by (bytes_eq n name) refl
  where
    by : (b : Bool) → bytes_eq n name ≡ b → b ≡ false
    by true e = absurd (other (sym ((bytes_eq-Decides n name).0 e)))
    by false e = refl

same_is : (n name : Name) → name ≡ n → bytes_eq n name ≡ false → ⊥
same_is n name is e = true≢false (sym ((bytes_eq-Decides n name).1 (sym is)) ∙ e)

abbrev AreFree : List Name → List RawAction → Type 0
AreFree declared raws = Every (λ (raw : RawAction). is_among declared raw.name.name ≡ false) raws

abbrev names_of : List RawAction → List Name
names_of raws = map (λ (raw : RawAction). raw.name.name) raws

free_on : (declared : List Name) (name : Name) (raws : List RawAction) → ¬ Member name (names_of raws) → AreFree declared raws
    → AreFree (declared ++ name ∷ []) raws
free_on declared name [] other free = tt
free_on declared name (raw ∷ raws) other free = (
  among_push declared name raw.name.name ∙ rw (free.0, differs raw.name.name name (λ is. other (inl is))) refl,
  free_on declared name raws (λ m. other (inr m)) free.1,
)

free_before : (declared : List Name) (name : Name) (raws : List RawAction) → AreFree (declared ++ name ∷ []) raws → AreFree declared raws
free_before declared name [] free = tt
free_before declared name (raw ∷ raws) free = (
  (neither (is_among declared raw.name.name) (bytes_eq raw.name.name name) (sym (among_push declared name raw.name.name) ∙ free.0)).0,
  free_before declared name raws free.1,
)

not_later : (declared : List Name) (name : Name) (raws : List RawAction) → AreFree (declared ++ name ∷ []) raws → ¬ Member name (names_of raws)
not_later declared name [] free m = m
not_later declared name (raw ∷ raws) free (inl is) =
    same_is raw.name.name name is (neither (is_among declared raw.name.name) (bytes_eq raw.name.name name) (sym (among_push declared name raw.name.name) ∙ free.0)).1
not_later declared name (raw ∷ raws) free (inr m) = not_later declared name raws free.1 m

none_declared : (raws : List RawAction) → AreFree [] raws
none_declared [] = tt
none_declared (raw ∷ raws) = (refl, none_declared raws)

-- ---- actions

module _ (names : Declarations) where
  each_read : (raws : List RawAction) (acts : List Action) (declared : List Name) → DenoteEach names raws acts → Differ (names_of raws) → AreFree declared raws
      → actions names declared raws ≡ parsed acts
  each_read _ _ declared no_actions differ free = refl
  each_read _ _ declared (more_actions raw act raws acts is are) differ free =
      rw (
        free.0,
        action_read names raw act is,
        each_read raws acts (declared ++ raw.name.name ∷ []) are differ.1 (free_on declared raw.name.name raws differ.0 free.1),
      ) refl

  pub actions_read : (raws : List RawAction) (acts : List Action) → DenoteActions names raws acts → actions names [] raws ≡ parsed acts
  actions_read raws acts are = each_read raws acts [] are.each are.differ (none_declared raws)

  record Behind (declared : List Name) (raws : List RawAction) (acts : List Action) : Type 0 where
    differ : Differ (names_of raws)
    free : AreFree declared raws
    each : DenoteEach names raws acts

  one_behind : (declared : List Name) (raw : RawAction) (act : Action) (raws : List RawAction) (acts : List Action) → is_among declared raw.name.name ≡ false
      → DenotesAction names raw act → Behind (declared ++ raw.name.name ∷ []) raws acts → Behind declared (raw ∷ raws) (act ∷ acts)
  one_behind declared raw act raws acts free is are = record {
    differ = (not_later declared raw.name.name raws are.free, are.differ);
    free = (free, free_before declared raw.name.name raws are.free);
    each = more_actions raw act raws acts is are.each;
  }

  each_sound : (raws : List RawAction) (declared : List Name) → Sound (actions names declared raws) (Behind declared raws)
  each_sound [] declared = record { differ = tt; free = tt; each = no_actions }
  each_sound (raw ∷ raws) declared =
      sound_behind (Behind declared (raw ∷ raws)) (second declared raw.name)
      (over_two (λ a more. a ∷ more) (action names raw) (actions names (with_name declared raw.name.name) raws)) (λ none.
      let free : is_among declared raw.name.name ≡ false =
      no_other (is_among declared raw.name.name) (holds (not (is_among declared raw.name.name)) (at raw.name.place Duplicate raw.name.name) none) in
      sound_two (DenotesAction names raw) (Behind (with_name declared raw.name.name) raws) (Behind declared (raw ∷ raws)) (λ a more. a ∷ more)
      (action names raw) (actions names (with_name declared raw.name.name) raws)
      (λ act acts is are. one_behind declared raw act raws acts free is
      (subst (λ ds. Behind ds raws acts) (name_new declared raw.name.name free) are))
      (action_sound names raw) (each_sound raws (with_name declared raw.name.name)))

  pub actions_denote : (raws : List RawAction) (acts : List Action) → actions names [] raws ≡ parsed acts → DenoteActions names raws acts
  actions_denote raws acts e =
      let are : Behind [] raws acts = sound_is (Behind [] raws) (actions names [] raws) acts (each_sound raws []) e in
      record { differ = are.differ; each = are.each }
