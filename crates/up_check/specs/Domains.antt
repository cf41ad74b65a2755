-- What a domain form declares.
use Rattle.std.specs.Prelude.{not, List, [], ◌∷◌}
use Rattle.up_text.specs.declared.name.Name.{Name}
use Rattle.up_text.specs.Fresh.{is_among, with_name}
use Rattle.pddl_lex.specs.Parses.{parsed, behind, over_two}
use Rattle.pddl_parse.specs.declared.raw.Ident.{Ident}
use Rattle.pddl_parse.specs.declared.raw.RawAction.{RawAction}
use Rattle.pddl_parse.specs.declared.raw.DomainForm.{DomainForm}
use Rattle.up_tree.specs.declared.action.Action.{Action}
use Rattle.up_tree.specs.declared.problem.Constraint.{Constraint}
use Rattle.up_phrase.specs.declared.fault.Fault.{Fault}
use Rattle.up_phrase.specs.declared.reason.Reason.TheVariants.{Duplicate}
use Rattle.up_phrase.specs.Declarations.{Declarations, declarations}
use Rattle.up_phrase.specs.Named.{at}
use Rattle.up_phrase.specs.Walks.{Checked, after, unless}
use Rattle.up_declare.specs.Types.{types}
use Rattle.up_declare.specs.Declaring.{with_objects, with_predicates, with_functions}
use Rattle.up_effect.specs.Actions.{action}
use Rattle.up_check.specs.declared.domain.Domain.{Domain}
use Rattle.up_check.specs.Constraints.{constraints}

-- what is known of a domain: its objects are its constants
pub record Known : Type 0 where
  pub name : Name
  pub declarations : Declarations
  pub actions : List Action
  pub constraints : List Constraint

-- what a domain holds
abbrev pub known_of : Domain → Known
known_of domain = record { name = domain.name; declarations = declarations domain.names; actions = domain.actions; constraints = domain.constraints }

-- types, and nothing under them yet
abbrev pub types_alone : List (Name × Name) → Declarations
types_alone ts = record { types = ts; objects = []; predicates = []; functions = [] }

-- constants, then predicates, then functions
abbrev pub symbols : DomainForm → Declarations → Checked Declarations
symbols form known =
    after (with_objects form.constants known) (λ names.
    after (with_predicates form.predicates names) (λ more. with_functions form.functions more))

-- types, then what else is declared
abbrev pub declared : DomainForm → Checked Declarations
declared form = after (types form.types) (λ ts. symbols form (types_alone ts))

-- the fault of a name that is declared
abbrev pub second : List Name → Ident → List Fault
second declared it = unless (not (is_among declared it.name)) (at it.place Duplicate it.name)

-- actions after those of these names
abbrev pub actions : Declarations → List Name → List RawAction → Checked (List Action)
actions names declared [] = parsed []
actions names declared (raw ∷ raws) =
    behind (second declared raw.name) (over_two (λ a more. a ∷ more) (action names raw) (actions names (with_name declared raw.name.name) raws))

-- the actions and then the constraints, where these names are declared
abbrev pub known : DomainForm → Declarations → Checked Known
known form names =
    over_two (λ acts rules. record { name = form.name.name; declarations = names; actions = acts; constraints = rules })
    (actions names [] form.actions) (constraints names [] form.constraints)

abbrev pub domain_names : DomainForm → Checked Known
domain_names form = after (declared form) (known form)
