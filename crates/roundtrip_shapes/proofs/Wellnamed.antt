-- What well-formedness says of the names of a problem's parts.
use Rattle.std.proofs.Common.{List, take}
use Rattle.std.specs.Prelude.{drop}
use Rattle.up_text.specs.declared.name.Name.{Name}
use Rattle.up_text.specs.Names.{IsName}
use Rattle.up_text.specs.Lists.{Every}
use Rattle.up_tree.specs.declared.term.Typed.{Typed}
use Rattle.up_tree.specs.declared.action.Action.{Action}
use Rattle.up_tree.specs.declared.problem.Predicate.{Predicate}
use Rattle.up_tree.specs.declared.problem.Function.{Function}
use Rattle.up_tree.specs.declared.problem.Gives.{Gives}
use Rattle.up_tree.specs.declared.problem.Gives.TheVariants as gives
use Rattle.up_tree.specs.declared.problem.Parts.{Parts}
use Rattle.up_tree.specs.WellFormed.{IsType, IsBelow, OfGives, IsAction, top_type, IsWellFormed}
use Rattle.roundtrip_tokens.proofs.Named.{every-map, every-each, every-both, every-take, every-drop}
use Rattle.roundtrip_shapes.specs.Formed.{AllNamed}
use Rattle.roundtrip_shapes.proofs.Names.{AreNamed, type_named, well_named}
use Rattle.roundtrip_shapes.proofs.Symbols.{PredicateNamed, IsGiven, a_number, of_type, FunctionNamed}

module _ (p : Parts) (well : IsWellFormed p) where
  pub names : AreNamed p
  names = well_named p well

  types_named : (args : List Name) → Every (IsType p) args → Every IsName args
  types_named args are = every-each (IsType p) IsName (type_named p names) args are

  pub type_types : Every (λ t. IsName t.of) p.types
  type_types = every-each (λ t. IsType p t.of × IsBelow p t.name top_type) (λ t. IsName t.of) (λ t is. type_named p names t.of is.0) p.types well.chains

  pub objects : AllNamed p.objects
  objects = every-map (λ (o : Typed). o.name) IsName (λ o. IsName o.name) (λ o is. is) p.objects well.objects.names_all

  object_types : Every (λ o. IsName o.of) p.objects
  object_types = every-each (λ o. IsType p o.of) (λ o. IsName o.of) (λ o is. type_named p names o.of is) p.objects well.object_types

  pub constants : AllNamed (take p.constants p.objects)
  constants = every-take (λ o. IsName o.name) p.constants p.objects objects

  pub constant_types : Every (λ o. IsName o.of) (take p.constants p.objects)
  constant_types = every-take (λ o. IsName o.of) p.constants p.objects object_types

  pub others : AllNamed (drop p.constants p.objects)
  others = every-drop (λ o. IsName o.name) p.constants p.objects objects

  pub other_types : Every (λ o. IsName o.of) (drop p.constants p.objects)
  other_types = every-drop (λ o. IsName o.of) p.constants p.objects object_types

  pub predicates : Every PredicateNamed p.predicates
  predicates =
      every-each (λ (d : Predicate). IsName d.name × Every (IsType p) d.args) PredicateNamed (λ d is. (is.0, types_named d.args is.1)) p.predicates
      (every-both (λ (d : Predicate). IsName d.name) (λ d. Every (IsType p) d.args) p.predicates names.predicates well.predicate_types)

  is_given : (g : Gives) → OfGives p g → IsGiven g
  is_given gives.Number is = a_number
  is_given (gives.Object of) is = of_type of (type_named p names of is)

  pub functions : Every FunctionNamed p.functions
  functions =
      every-each (λ (d : Function). (IsName d.name × Every (IsType p) d.args) × OfGives p d.gives) FunctionNamed
      (λ d is. ((is.0.0, types_named d.args is.0.1), is_given d.gives is.1)) p.functions
      (every-both (λ (d : Function). IsName d.name × Every (IsType p) d.args) (λ d. OfGives p d.gives) p.functions
      (every-both (λ (d : Function). IsName d.name) (λ d. Every (IsType p) d.args) p.functions names.functions well.function_types) well.value_types)

  pub actions : Every (λ a. IsName a.name × IsAction p a) p.actions
  actions =
      every-both (λ a. IsName a.name) (IsAction p) p.actions
      (every-map (λ (a : Action). a.name) IsName (λ a. IsName a.name) (λ a is. is) p.actions well.action_names.names_all) well.actions
