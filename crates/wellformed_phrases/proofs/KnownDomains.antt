-- What is known of a domain whose form is lawful.
use Rattle.std.proofs.Common.{List, [], map, take, refl, sym, subst}
use Rattle.up_text.specs.declared.name.Name.{Name}
use Rattle.up_text.specs.Lists.{Every}
use Rattle.pddl_parse.specs.declared.raw.DomainForm.{DomainForm}
use Rattle.up_tree.specs.declared.action.Action.{Action}
use Rattle.up_tree.specs.declared.problem.Constraint.{Constraint}
use Rattle.up_tree.specs.declared.problem.Parts.{Parts}
use Rattle.up_tree.specs.WellFormed.{AreDeclared, IsAction, IsConstraint}
use Rattle.up_phrase.specs.Declarations.{Declarations, types_alone}
use Rattle.up_phrase.specs.Walks.{after}
use Rattle.up_declare.specs.Types.{types}
use Rattle.up_declare.specs.Declaring.{with_objects, with_predicates, with_functions}
use Rattle.up_check.specs.Constraints.{constraints}
use Rattle.up_check.specs.Domains.{Known, declared, actions, known, domain_names}
use Rattle.wellformed_phrases.specs.Agreement.{IfParsed, Agree}
use Rattle.wellformed_phrases.specs.Sound.{AreSound}
use Rattle.wellformed_phrases.specs.SoundTypes.{AreSoundTypes}
use Rattle.wellformed_phrases.specs.LawfulForms.{IsLawfulDomain}
use Rattle.wellformed_phrases.proofs.Parses.{parsed_as, parsed_two, parsed_after, parsed_and, parsed_each}
use Rattle.wellformed_phrases.proofs.Constraints.{all_are}
use Rattle.wellformed_phrases.proofs.Declared.{SoundOver, objects_over, predicates_over, functions_over}
use Rattle.wellformed_phrases.proofs.SoundTypes.{types_are_sound}
use Rattle.wellformed_phrases.proofs.ActionLists.{AreApart, actions_apart, actions_are}

-- declarations that are sound, with their types
abbrev pub AllSound : Declarations → Type 0
AllSound names = AreSoundTypes names.types × AreSound names

-- a problem that agrees with declarations, of which an action may name the constants alone
abbrev pub WithConstants : Declarations → Type 0
WithConstants names = (p : Parts) × Agree names p (take p.constants p.objects)

abbrev pub WithAll : Declarations → Type 0
WithAll names = (p : Parts) × Agree names p p.objects

-- a domain whose phrases are well-formed in each problem that agrees with it
pub record IsSoundDomain (domain : Known) : Type 0 where
  pub sound : AllSound domain.declarations
  pub action_names : AreDeclared (map (λ a. a.name) domain.actions)
  pub actions : (problem : WithConstants domain.declarations) → Every (IsAction problem.0) domain.actions
  pub constraints : (problem : WithAll domain.declarations) → Every (IsConstraint problem.0) domain.constraints

nothing_sound : (ts : List (Name × Name)) → AreSound (types_alone ts)
nothing_sound ts = record {
  objects = record { names_all = tt; differ = tt };
  object_types = tt;
  symbols = record { names_all = tt; differ = tt };
  predicate_types = tt;
  function_types = tt;
  value_types = tt;
}

module _ (form : DomainForm) (lawful : IsLawfulDomain form) where
  declared_are : IfParsed (declared form) AllSound
  declared_are =
      parsed_after AreSoundTypes AllSound (types form.types)
      (λ ts. after (with_objects form.constants (types_alone ts)) (λ names. after (with_predicates form.predicates names) (λ more. with_functions form.functions more)))
      (types_are_sound form.types lawful.types lawful.parents) (λ ts sound.
      parsed_after (SoundOver ts) AllSound (with_objects form.constants (types_alone ts))
      (λ names. after (with_predicates form.predicates names) (λ more. with_functions form.functions more))
      (objects_over ts (types_alone ts) (refl, nothing_sound ts) form.constants lawful.constants) (λ names over.
      parsed_after (SoundOver ts) AllSound (with_predicates form.predicates names) (λ more. with_functions form.functions more)
      (predicates_over ts names over form.predicates lawful.predicates) (λ more over_more.
      parsed_as (SoundOver ts) AllSound (with_functions form.functions more) (λ all (same, is). (subst AreSoundTypes (sym same) sound, is))
      (functions_over ts more over_more form.functions lawful.functions))))

  abbrev Acts : Declarations → List Action → Type 0
  Acts names acts = AreApart [] acts × ((problem : WithConstants names) → Every (IsAction problem.0) acts)

  abbrev Rules : Declarations → List Constraint → Type 0
  Rules names rules = (problem : WithAll names) → Every (IsConstraint problem.0) rules

  known_is : (names : Declarations) → AllSound names → IfParsed (known form names) IsSoundDomain
  known_is names sound =
      parsed_two (Acts names) (Rules names) IsSoundDomain
      (λ acts rules. record { name = form.name.name; declarations = names; actions = acts; constraints = rules })
      (actions names [] form.actions) (constraints names [] form.constraints)
      (λ acts rules are so. record { sound = sound; action_names = record { names_all = are.0.names_all; differ = are.0.differ }; actions = are.1; constraints = so })
      (parsed_and (AreApart []) (λ acts. (problem : WithConstants names) → Every (IsAction problem.0) acts) (actions names [] form.actions)
      (actions_apart names form.actions [] lawful.action_names)
      (parsed_each (λ (problem : WithConstants names) acts. Every (IsAction problem.0) acts) (actions names [] form.actions)
      (λ (p, agree). actions_are names p agree form.actions [] lawful.actions)))
      (parsed_each (λ (problem : WithAll names) rules. Every (IsConstraint problem.0) rules) (constraints names [] form.constraints)
      (λ (p, agree). all_are names p agree form.constraints lawful.constraints))

  pub domain_is : IfParsed (domain_names form) IsSoundDomain
  domain_is = parsed_after AllSound IsSoundDomain (declared form) (known form) declared_are known_is
