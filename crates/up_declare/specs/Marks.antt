-- Types that are known to reach `object`.
use Rattle.std.specs.Prelude.{◌≡◌, ℕ, Bool, true, false, List, length, get_or, slice_get, Some}
use Rattle.up_text.specs.declared.name.Name.{Name}
use Rattle.up_declare.specs.Types.{Types, leaves}

-- the chain of the parent of a marked type leaves the list
abbrev pub Marked : Types → List Bool → Type 0
Marked types marks = (i : ℕ) (e : Name × Name) → slice_get types i ≡ Some e → get_or marks i false ≡ true → leaves types (length types) e.1 ≡ true
