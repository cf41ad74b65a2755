-- What is declared.
use Rattle.std.specs.Prelude.{List, []}
use Rattle.up_text.specs.declared.name.Name.{Name}
use Rattle.up_phrase.specs.declared.names.Names.{Names}
use Rattle.up_phrase.specs.declared.names.Signature.{Signature}

-- names in the order of their declarations: types with their parents, constants and objects with their types, predicates with the types
-- of their arguments, and functions
pub record Declarations : Type 0 where
  pub types : List (Name × Name)
  pub objects : List (Name × Name)
  pub predicates : List (Name × List Name)
  pub functions : List (Name × Signature)

abbrev pub declarations : Names → Declarations
declarations names =
    record { types = names.types.entries; objects = names.objects.entries; predicates = names.predicates.entries; functions = names.functions.entries }

abbrev pub types_alone : List (Name × Name) → Declarations
types_alone types = record { types = types; objects = []; predicates = []; functions = [] }
