-- Actions that are checked one after the other.
use Rattle.std.proofs.Common.{◌≡◌, ℕ, ◌+◌, ◌<◌, ◌≤◌, length, List, [], ◌∷◌, ◌++◌, drop, get_or, Some, refl, ap, ◌∙◌}
use Rattle.std.proofs.lemmas.List.{drop_more, drop_all, append-nil}
use Rattle.up_text.specs.declared.name.Name.{Name}
use Rattle.up_text.specs.Fresh.{with_name}
use Rattle.pddl_lex.specs.Parses.{parsed, first, before}
use Rattle.pddl_parse.specs.declared.raw.RawAction.{RawAction}
use Rattle.up_tree.specs.declared.action.Action.{Action}
use Rattle.up_phrase.specs.declared.fault.Fault.{Fault}
use Rattle.up_phrase.specs.Declarations.{Declarations}
use Rattle.up_phrase.proofs.Steps.{first_over, first_two, before_more}
use Rattle.up_effect.specs.Actions.{action}
use Rattle.up_check.specs.Domains.{actions, second}

module _ (names : Declarations) (start : List Name) (raws : List RawAction) (index : ℕ) (declared : List Name) (made : List Action) (raw : RawAction)
    (within : index < length raws) (is : raw ≡ get_or raws index raw)
    (so_far : actions names start raws ≡ before made (actions names declared (drop index raws))) where
  -- one more action has been checked
  pub actions_on : (more : List Name) (grown : List Action) (a : Action) → second declared raw.name ≡ [] → more ≡ with_name declared raw.name.name
      → action names raw ≡ parsed a → grown ≡ made ++ a ∷ []
      → actions names start raws ≡ before grown (actions names more (drop (index + 1) raws))
  actions_on more grown a first_of named e pushed =
      so_far ∙ rw (drop_more raws index raw within, ← is, first_of, e, named, pushed)
      (before_more made a (actions names (with_name declared raw.name.name) (drop (index + 1) raws)))

  -- an action of a name that is declared
  pub actions_twice : (fault : Fault) → second declared raw.name ≡ fault ∷ [] → first (actions names start raws) ≡ Some fault
  actions_twice fault twice = ap first so_far ∙ rw (drop_more raws index raw within, ← is, twice) refl

  -- an action with a fault
  pub actions_off : (fault : Fault) → second declared raw.name ≡ [] → first (action names raw) ≡ Some fault → first (actions names start raws) ≡ Some fault
  actions_off fault first_of e =
      ap first so_far ∙ rw (drop_more raws index raw within, ← is, first_of)
      (first_over (λ more. made ++ more) _ ∙ first_two (λ a more. a ∷ more) (action names raw) _ fault e)

-- all actions have been checked
pub actions_all : (names : Declarations) (start : List Name) (raws : List RawAction) (index : ℕ) (declared : List Name) (made : List Action) → length raws ≤ index
    → actions names start raws ≡ before made (actions names declared (drop index raws)) → actions names start raws ≡ parsed made
actions_all names start raws index declared made done so_far = so_far ∙ rw (drop_all index raws done) (ap parsed (append-nil made))

pub ruleset declaring = (actions_on, actions_twice, actions_off, actions_all)
