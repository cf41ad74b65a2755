-- What is declared where one of its lists is another.
use Rattle.std.proofs.Common.{List}
use Rattle.up_text.specs.declared.name.Name.{Name}
use Rattle.up_phrase.specs.declared.names.Signature.{Signature}
use Rattle.up_phrase.specs.Declarations.{Declarations}

abbrev pub objects_now : Declarations → List (Name × Name) → Declarations
objects_now names objects = record { types = names.types; objects = objects; predicates = names.predicates; functions = names.functions }

abbrev pub predicates_now : Declarations → List (Name × List Name) → Declarations
predicates_now names predicates = record { types = names.types; objects = names.objects; predicates = predicates; functions = names.functions }

abbrev pub functions_now : Declarations → List (Name × Signature) → Declarations
functions_now names functions = record { types = names.types; objects = names.objects; predicates = names.predicates; functions = functions }
