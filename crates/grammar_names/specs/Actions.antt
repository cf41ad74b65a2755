-- What raw actions denote where names are declared, said apart from how they are checked.
use Rattle.std.specs.Prelude.{◌≡◌, List, [], ◌∷◌, map}
use Rattle.up_text.specs.Lists.{Differ}
use Rattle.pddl_parse.specs.declared.raw.RawAction.{RawAction}
use Rattle.up_tree.specs.declared.action.Action.{Action}
use Rattle.up_phrase.specs.declared.term.Setting.TheVariants.{Plain}
use Rattle.up_phrase.specs.Declarations.{Declarations}
use Rattle.up_phrase.specs.Scopes.{Variables, typed}
use Rattle.grammar_names.specs.Phrases.{Enters, DenotesFormula}
use Rattle.grammar_names.specs.Effects.{DenotesEffect}

-- an action, in whose precondition and effect its parameters are in scope
pub record DenotesAction (names : Declarations) (raw : RawAction) (action : Action) : Type 0 where
  pub variables : Variables
  pub name : action.name ≡ raw.name.name
  pub enter : Enters names [] raw.params [] variables
  pub params : action.params ≡ map typed variables
  pub pre : DenotesFormula names variables Plain raw.pre action.pre
  pub effect : DenotesEffect names variables [] [] raw.effect action.rows

pub data DenoteEach (names : Declarations) : List RawAction → List Action → Type 0 where
  no_actions : DenoteEach names [] []
  more_actions : (raw : RawAction) (action : Action) (raws : List RawAction) (acts : List Action)
      → DenotesAction names raw action → DenoteEach names raws acts → DenoteEach names (raw ∷ raws) (action ∷ acts)

-- actions whose names differ
pub record DenoteActions (names : Declarations) (raws : List RawAction) (acts : List Action) : Type 0 where
  pub differ : Differ (map (λ (raw : RawAction). raw.name.name) raws)
  pub each : DenoteEach names raws acts
