-- What well-formedness says of the names of a problem's parts.
use Rattle.std.proofs.Common.{map}
use Rattle.up_text.specs.Names.{IsName}
use Rattle.up_text.specs.Lists.{Every}
use Rattle.up_tree.specs.declared.term.Typed.{Typed}
use Rattle.up_tree.specs.declared.action.Action.{Action}
use Rattle.up_tree.specs.declared.problem.Predicate.{Predicate}
use Rattle.up_tree.specs.declared.problem.Function.{Function}
use Rattle.up_tree.specs.declared.problem.Parts.{Parts}
use Rattle.up_tree.specs.WellFormed.{IsType, IsBelow, OfGives, IsAction, top_type, IsWellFormed}
use Rattle.roundtrip_tokens.proofs.Named.{Spelled, every-front, every-back, every-map, every-each, every-both}
use Rattle.roundtrip_tokens.proofs.Phrases.{AreSpelled, AllSpelled, BothSpelled, type_spelled}

module _ (p : Parts) (well : IsWellFormed p) where
  pub names : AreSpelled p
  names = record {
    types = every-map (λ (t : Typed). t.name) IsName (λ t. Spelled t.name) (λ t is. is.spelled) p.types well.types.names_all;
    predicates = every-map (λ (d : Predicate). d.name) IsName (λ d. Spelled d.name) (λ d is. is.spelled) p.predicates
        (every-front IsName (map (λ (d : Predicate). d.name) p.predicates) (map (λ (d : Function). d.name) p.functions) well.symbols.names_all);
    functions = every-map (λ (d : Function). d.name) IsName (λ d. Spelled d.name) (λ d is. is.spelled) p.functions
        (every-back IsName (map (λ (d : Predicate). d.name) p.predicates) (map (λ (d : Function). d.name) p.functions) well.symbols.names_all);
  }

  pub objects : AllSpelled p.objects
  objects = every-map (λ (o : Typed). o.name) IsName (λ o. Spelled o.name) (λ o is. is.spelled) p.objects well.objects.names_all

  pub typed_objects : Every BothSpelled p.objects
  typed_objects =
      every-both (λ o. Spelled o.name) (λ o. Spelled o.of) p.objects objects
      (every-each (λ o. IsType p o.of) (λ o. Spelled o.of) (λ o is. type_spelled p names o.of is) p.objects well.object_types)

  pub typed_types : Every BothSpelled p.types
  typed_types =
      every-both (λ t. Spelled t.name) (λ t. Spelled t.of) p.types names.types
      (every-each (λ t. IsType p t.of × IsBelow p t.name top_type) (λ t. Spelled t.of) (λ t is. type_spelled p names t.of is.0) p.types well.chains)

  pub predicates : Every (λ d. Spelled d.name × Every (IsType p) d.args) p.predicates
  predicates = every-both (λ d. Spelled d.name) (λ d. Every (IsType p) d.args) p.predicates names.predicates well.predicate_types

  pub functions : Every (λ d. Spelled d.name × Every (IsType p) d.args × OfGives p d.gives) p.functions
  functions =
      every-each (λ d. (Spelled d.name × Every (IsType p) d.args) × OfGives p d.gives) (λ d. Spelled d.name × Every (IsType p) d.args × OfGives p d.gives)
      (λ d is. (is.0.0, is.0.1, is.1)) p.functions
      (every-both (λ d. Spelled d.name × Every (IsType p) d.args) (λ d. OfGives p d.gives) p.functions
      (every-both (λ d. Spelled d.name) (λ d. Every (IsType p) d.args) p.functions names.functions well.function_types) well.value_types)

  pub actions : Every (λ a. Spelled a.name × IsAction p a) p.actions
  actions =
      every-both (λ a. Spelled a.name) (IsAction p) p.actions
      (every-map (λ (a : Action). a.name) IsName (λ a. Spelled a.name) (λ a is. is.spelled) p.actions well.action_names.names_all) well.actions
