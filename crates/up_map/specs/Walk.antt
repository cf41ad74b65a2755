-- The lines that are still to be written.
use Rattle.std.specs.Prelude.{ℕ, List}
use Rattle.up_map.specs.declared.steps.MapSteps.{MapSteps}
use Rattle.up_map.specs.Rests.{map_rest}

abbrev pub map_left : MapSteps → List (List ℕ)
map_left s = map_rest s.map.now s.place
