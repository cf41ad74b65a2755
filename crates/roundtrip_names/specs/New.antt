-- What may be declared after what is declared: its names differ and are new, and its types are the problem's.
use Rattle.std.specs.Prelude.{◌≡◌, List, map, None}
use Rattle.up_text.specs.declared.name.Name.{Name}
use Rattle.up_text.specs.Lists.{Every, Differ}
use Rattle.up_tree.specs.declared.term.Typed.{Typed}
use Rattle.up_tree.specs.declared.problem.Parts.{Parts}
use Rattle.up_tree.specs.declared.problem.Function.{Function}
use Rattle.up_tree.specs.WellFormed.{IsType, OfGives}
use Rattle.up_phrase.specs.Declarations.{Declarations}
use Rattle.up_phrase.specs.Lookups.{type_of}
use Rattle.roundtrip_names.specs.Declared.{entry}
use Rattle.roundtrip_names.specs.Symbols.{IsNew}

-- objects
pub record AreNewObjects (p : Parts) (names : Declarations) (new : List Typed) : Type 0 where
  pub known : names.types ≡ map entry p.types
  pub free : Every (λ o. type_of names o.name ≡ None) new
  pub differ : Differ (map (λ o. o.name) new)
  pub types : Every (λ o. IsType p o.of) new

-- predicates, or functions that give the same, with the types of their arguments
pub record AreNewSymbols (p : Parts) (names : Declarations) (entries : List (Name × List Name)) : Type 0 where
  pub known : names.types ≡ map entry p.types
  pub free : Every (λ e. IsNew names e.0) entries
  pub differ : Differ (map (λ e. e.0) entries)
  pub types : Every (λ e. Every (IsType p) e.1) entries

-- functions
pub record AreNewFunctions (p : Parts) (names : Declarations) (ds : List Function) : Type 0 where
  pub known : names.types ≡ map entry p.types
  pub free : Every (λ d. IsNew names d.name) ds
  pub differ : Differ (map (λ d. d.name) ds)
  pub types : Every (λ d. Every (IsType p) d.args) ds
  pub gives : Every (λ d. OfGives p d.gives) ds
