-- Tables of entries by the names of their actions.
use Rattle.std.specs.Prelude.{◌≡◌, ⊤, ℕ, List, Option, Some, None}
use Rattle.std.specs.Option.{option_copied}
use Rattle.std.specs.Borrow.{Bor}
use Rattle.indexmap.specs.IndexMap.{IndexMap, get}
use Rattle.up_text.specs.Names.{same_name}
use Rattle.up_compiler.specs.declared.back.Entry.{Entry}
use Rattle.up_compiler.specs.Back.{entry_named, TargetFits}

-- the entry that the table has under a name
abbrev pub entry_under : {S : Type 0} → IndexMap (List ℕ) (Bor Entry) S → List ℕ → Option Entry
entry_under table name = option_copied (get same_name table name)

-- under each name the first of the entries for it
abbrev pub HasEntries : {S : Type 0} → IndexMap (List ℕ) (Bor Entry) S → List Entry → Type 0
HasEntries table m = (name : List ℕ) → entry_under table name ≡ entry_named m name

abbrev pub IsFit : Option Entry → Type 0
IsFit None = ⊤
IsFit (Some e) = TargetFits e.arity e.target

-- the items of the table's entries name arguments that are there
pub record AllFit {S : Type 0} (table : IndexMap (List ℕ) (Bor Entry) S) : Type 0 where
  pub each : (name : List ℕ) → IsFit (entry_under table name)
