-- A type more in the table.
use Rattle.std.proofs.Common.{◌≡◌, ◌||◌, Bool, true, false, List, [], ◌∷◌, ◌++◌, Option, Some, None, is_some, refl}
use Rattle.std.specs.Map.{lookup}
use Rattle.indexmap.specs.IndexMap.{IndexMap, insert_entry}
use Rattle.indexmap.proofs.CallerLemmas.{insert_entry-new}
use Rattle.up_text.specs.Names.{same_name}
use Rattle.up_phrase.specs.Named.{is_object}
use Rattle.up_declare.specs.Types.{Types, parent_in, with_type}
use Rattle.up_text.specs.declared.name.Name.{Name}

pub none_there : (o : Option Name) → is_some o ≡ false → o ≡ None
none_there None e = refl
none_there (Some n) e = cc

or_last : (a b : Bool) → (a || b) ≡ false → b ≡ false
or_last true b e = cc
or_last false b e = e

-- a name that is new comes last
pub inserted : {A S : Type 0} (m : IndexMap Name A S) (name : Name) (value : A) → lookup (same_name name) m.entries ≡ None
    → insert_entry same_name m.entries name value ≡ m.entries ++ (name, value) ∷ []
inserted m name value none = insert_entry-new same_name m name value none

pub with_old : (types : Types) (name parent : Name) → (is_object name || is_some (parent_in types name)) ≡ true → with_type name parent types ≡ types
with_old types name parent old = rw old refl

pub with_new : (types : Types) (name parent : Name) → (is_object name || is_some (parent_in types name)) ≡ false
    → with_type name parent types ≡ types ++ (name, parent) ∷ []
with_new types name parent new = rw new refl

pub is_new : (types : Types) (name : Name) → (is_object name || is_some (parent_in types name)) ≡ false → parent_in types name ≡ None
is_new types name new = none_there (parent_in types name) (or_last (is_object name) (is_some (parent_in types name)) new)

pub ruleset listing = (with_old, with_new, is_new)
