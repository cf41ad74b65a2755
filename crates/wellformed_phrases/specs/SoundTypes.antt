-- Types whose names differ and whose chains of parents reach `object`.
use Rattle.std.specs.Prelude.{⊤, List, map, length, Option, Some, None, IsTrue}
use Rattle.up_text.specs.declared.name.Name.{Name}
use Rattle.up_text.specs.Names.{IsName}
use Rattle.up_text.specs.Lists.{Every, Member}
use Rattle.pddl_parse.specs.declared.raw.Ident.{Ident}
use Rattle.pddl_parse.specs.declared.raw.RawGroup.{RawGroup}
use Rattle.up_tree.specs.Objects.{chain}
use Rattle.up_tree.specs.WellFormed.{AreDeclared, top_type}
use Rattle.up_phrase.specs.Declarations.{types_alone}
use Rattle.up_phrase.specs.Lookups.{is_type}
use Rattle.up_phrase.specs.Scopes.{typed}

-- each type has its parent beside it
pub record AreSoundTypes (types : List (Name × Name)) : Type 0 where
  pub names : AreDeclared (map (λ t. t.0) types)
  pub top_free : ¬ Member top_type (map (λ t. t.0) types)
  pub parents : Every (λ t. IsTrue (is_type (types_alone types) t.1)) types
  pub chains : Every (λ t. Member top_type (chain (map typed types) (length types) t.0)) types

abbrev pub IsNamedType : Option Ident → Type 0
IsNamedType None = ⊤
IsNamedType (Some of) = IsName of.name

-- the parents of a typed list of types have names that may be declared
abbrev pub HaveNamedTypes : List RawGroup → Type 0
HaveNamedTypes groups = Every (λ (group : RawGroup). IsNamedType group.of) groups
