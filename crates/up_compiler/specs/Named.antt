-- Tables of entries by the names of their actions.
use Rattle.std.specs.Prelude.{◌≡◌, ℕ, List}
use Rattle.std.specs.Option.{option_copied}
use Rattle.std.specs.Borrow.{Bor}
use Rattle.indexmap.specs.IndexMap.{IndexMap, get}
use Rattle.up_text.specs.Names.{same_name}
use Rattle.up_text.specs.Fresh.{is_among}
use Rattle.up_compiler.specs.declared.back.Entry.{Entry}
use Rattle.up_compiler.specs.Back.{entry_named}
use Rattle.up_compiler.specs.Identity.{has_entry}

-- under each name the first of the entries for it
pub record HasEntries {S : Type 0} (table : IndexMap (List ℕ) (Bor Entry) S) (m : List Entry) : Type 0 where
  pub each : (name : List ℕ) → option_copied (get same_name table name) ≡ entry_named m name

-- the names are those of the entries' actions
pub record AreNamed (names : List (List ℕ)) (m : List Entry) : Type 0 where
  pub each : (name : List ℕ) → is_among names name ≡ has_entry m name
