-- The map of a text, or its first faulty line.
use Rattle.std.specs.Prelude.{ℕ, ◌+◌, Bool, true, false, List, [], ◌∷◌, ◌++◌, map, codes, bytes_eq, if◌then◌else◌, Option, Some, None, Result, Ok, Err}
use Rattle.up_text.specs.Fresh.{is_among}
use Rattle.up_compiler.specs.declared.id.CompilerId.{CompilerId}
use Rattle.up_compiler.specs.declared.back.Entry.{Entry}
use Rattle.up_map.specs.declared.map.Map.{Map}
use Rattle.up_map.specs.declared.map_error.MapError.{MapError}
use Rattle.up_map.specs.declared.map_error.MapError.TheVariants.{Bad, DoubleName}
use Rattle.up_map.specs.Splits.{words, lines}
use Rattle.up_map.specs.Entries.{entry_of, chain_of}

-- a line has a line feed behind it, and so something that its text is split into
abbrev pub is_line : List (List ℕ) → Bool
is_line [] = false
is_line (next ∷ more) = true

-- the names of the actions that have entries
abbrev pub actions : List Entry → List (List ℕ)
actions entries = map (λ e. e.action) entries

-- the entry of a line, if no entry is for its action yet
abbrev pub new_entry : ℕ → List (List ℕ) → Option Entry → Result Entry MapError
new_entry number names None = Err (Bad number)
new_entry number names (Some e) = if is_among names e.action then Err (DoubleName number) else Ok e

abbrev pub and_entry : List Entry → Result Entry MapError → (List Entry → Result (List Entry) MapError) → Result (List Entry) MapError
and_entry entries (Err fault) go = Err fault
and_entry entries (Ok e) go = go (entries ++ e ∷ [])

-- nothing stands behind the last line
abbrev pub ended : ℕ → List Entry → List (List ℕ) → Result (List Entry) MapError
ended number entries ([] ∷ []) = Ok entries
ended number entries _ = Err (Bad number)

-- the entries and those of the lines up to `end`, where the first of the lines has this number
abbrev pub entries_from : List (List ℕ) → ℕ → List Entry → Result (List Entry) MapError
entries_from [] number entries = Err (Bad number)
entries_from (line ∷ more) number entries =
    if is_line more then
    (if bytes_eq line (codes "end") then ended (number + 1) entries more
    else and_entry entries (new_entry number (actions entries) (entry_of (words line))) (entries_from more (number + 1)))
    else Err (Bad number)

abbrev pub map_with : List CompilerId → Result (List Entry) MapError → Result Map MapError
map_with stages (Ok entries) = Ok (record { stages = record { stages = stages }; back = entries })
map_with stages (Err fault) = Err fault

abbrev pub with_stages : Option (List CompilerId) → Result (List Entry) MapError → Result Map MapError
with_stages None entries = Err (Bad 2)
with_stages (Some stages) entries = map_with stages entries

-- from the line of the chain on
abbrev pub chain_from : List (List ℕ) → Result Map MapError
chain_from [] = Err (Bad 2)
chain_from (line ∷ more) = if is_line more then with_stages (chain_of (words line)) (entries_from more 3 []) else Err (Bad 2)

abbrev pub map_from : List (List ℕ) → Result Map MapError
map_from [] = Err (Bad 1)
map_from (line ∷ more) = if is_line more then (if bytes_eq line (codes "up-map 1") then chain_from more else Err (Bad 1)) else Err (Bad 1)

-- the map that a text spells, or its first faulty line
unfoldable pub map_of : List ℕ → Result Map MapError
map_of text = map_from (lines text)

abbrev pub fault_in : Result Map MapError → Option MapError
fault_in (Ok m) = None
fault_in (Err fault) = Some fault

-- the first faulty line of a text that spells no map
abbrev pub first_fault : List ℕ → Option MapError
first_fault text = fault_in (map_of text)
