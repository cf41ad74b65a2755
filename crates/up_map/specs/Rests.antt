-- What is still to be written at a place of a map's text.
use Rattle.std.specs.Prelude.{ℕ, List, [], ◌∷◌, codes}
use Rattle.up_map.specs.declared.map.Map.{Map}
use Rattle.up_map.specs.declared.steps.MapPlace.{MapPlace}
use Rattle.up_map.specs.declared.steps.MapPlace.TheVariants.{Head, Chain, Entries, Done}
use Rattle.up_map.specs.Texts.{chain_line, entry_lines}

abbrev pub map_rest : Map → MapPlace → List (List ℕ)
map_rest m Head = codes "up-map 1\n" ∷ chain_line m.stages.stages ∷ entry_lines m.back
map_rest m Chain = chain_line m.stages.stages ∷ entry_lines m.back
map_rest m (Entries entries) = entry_lines entries.now
map_rest m Done = []
