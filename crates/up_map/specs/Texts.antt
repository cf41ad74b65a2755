-- The text of a map.
use Rattle.std.specs.Prelude.{ℕ, List, [], ◌∷◌, ◌++◌, codes, decimal}
use Rattle.std.specs.List.{concat}
use Rattle.up_line.specs.Spaced.{spaced}
use Rattle.up_compiler.specs.declared.back.Item.{Item}
use Rattle.up_compiler.specs.declared.back.Item.TheVariants.{Argument, Object}
use Rattle.up_compiler.specs.declared.back.Target.{Target}
use Rattle.up_compiler.specs.declared.back.Target.TheVariants.{Drop, Keep}
use Rattle.up_compiler.specs.declared.back.Entry.{Entry}
use Rattle.up_compiler.specs.declared.id.CompilerId.{CompilerId}
use Rattle.up_compiler.specs.Table.{compiler_name}
use Rattle.up_map.specs.declared.map.Map.{Map}

-- an argument by its place, counted from 1, or an object
abbrev pub item_text : Item → List ℕ
item_text (Argument k) = codes "$" ++ decimal k
item_text (Object o) = o

abbrev pub target_text : Target → List ℕ
target_text Drop = codes " drop"
target_text (Keep name items) = codes " keep " ++ name ++ spaced item_text items

abbrev pub entry_line : Entry → List ℕ
entry_line e = codes "action " ++ e.action ++ codes " " ++ decimal e.arity ++ target_text e.target ++ codes "\n"

abbrev pub stage_text : CompilerId → List ℕ
stage_text id = compiler_name id

abbrev pub chain_line : List CompilerId → List ℕ
chain_line stages = codes "chain" ++ spaced stage_text stages ++ codes "\n"

-- one line for each entry, and the last line
abbrev pub entry_lines : List Entry → List (List ℕ)
entry_lines [] = codes "end\n" ∷ []
entry_lines (e ∷ entries) = entry_line e ∷ entry_lines entries

unfoldable pub pieces_of_map : Map → List (List ℕ)
pieces_of_map m = codes "up-map 1\n" ∷ chain_line m.stages.stages ∷ entry_lines m.back

unfoldable pub map_text : Map → List ℕ
map_text m = concat (pieces_of_map m)
