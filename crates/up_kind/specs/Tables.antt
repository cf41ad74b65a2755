-- A problem's declarations by their names, and the types that have an object.
use Rattle.std.specs.Prelude.{◌≡◌, ℕ, Bool, true, ◌||◌, List, ◌++◌, Option}
use Rattle.std.specs.List.{list_any}
use Rattle.std.specs.Option.{option_copied}
use Rattle.std.specs.Borrow.{Bor}
use Rattle.std.specs.Prelude.{length}
use Rattle.indexmap.specs.IndexMap.{IndexMap, get}
use Rattle.up_text.specs.declared.name.Name.{Name}
use Rattle.up_text.specs.Names.{same_name}
use Rattle.up_text.specs.Fresh.{is_among}
use Rattle.up_tree.specs.declared.term.Typed.{Typed}
use Rattle.up_tree.specs.declared.problem.Parts.{Parts}
use Rattle.up_tree.specs.declared.problem.Function.{Function}
use Rattle.up_tree.specs.Objects.{named, chain, function_named}
use Rattle.up_kind.specs.Values.{has_object}

-- what a table has under a name
abbrev pub under : {X : Type 0} {S : Type 0} → IndexMap (List ℕ) (Bor X) S → List ℕ → Option X
under table name = option_copied (get same_name table name)

-- under each name its first entry
pub record HasTyped {S : Type 0} (table : IndexMap (List ℕ) (Bor Typed) S) (entries : List Typed) : Type 0 where
  pub each : (name : List ℕ) → under table name ≡ named entries name

pub record HasFunctions {S : Type 0} (table : IndexMap (List ℕ) (Bor Function) S) (p : Parts) : Type 0 where
  pub each : (name : List ℕ) → under table name ≡ function_named p name

-- the marked names are the types that have an object
pub record HasInhabited (p : Parts) (marks : List (List ℕ)) : Type 0 where
  pub each : (name : List ℕ) → is_among marks name ≡ has_object p name

pub record AreTables {S : Type 0} (p : Parts) (type_table object_table : IndexMap (List ℕ) (Bor Typed) S) (function_table : IndexMap (List ℕ) (Bor Function) S) (marks : List (List ℕ)) : Type 0 where
  pub by_type : HasTyped type_table p.types
  pub by_object : HasTyped object_table p.objects
  pub by_function : HasFunctions function_table p
  pub inhabited : HasInhabited p marks

-- one type is the other or below it, by the declared types alone
abbrev pub stands_below : List Typed → Name → Name → Bool
stands_below types of above = list_any (same_name above) (chain types (length types) of)

-- with each marked type those above it are marked
abbrev pub IsClosed : List Typed → List (List ℕ) → Type 0
IsClosed types marks = (t u : List ℕ) → is_among marks t ≡ true → stands_below types t u ≡ true → is_among marks u ≡ true

-- the names that a type and those above it make with the marked ones
pub record Reaches (types : List Typed) (marks path : List (List ℕ)) (of : Name) : Type 0 where
  pub each : IsClosed types marks → (t : List ℕ) → (is_among marks t || is_among path t) ≡ (is_among marks t || stands_below types of t)

pub record Marks (types : List Typed) (old new : List (List ℕ)) (of : Name) : Type 0 where
  pub each : IsClosed types old → (t : List ℕ) → is_among new t ≡ (is_among old t || stands_below types of t)

pub record AddsNames (old names new : List (List ℕ)) : Type 0 where
  pub each : (t : List ℕ) → is_among new t ≡ (is_among old t || is_among names t)
