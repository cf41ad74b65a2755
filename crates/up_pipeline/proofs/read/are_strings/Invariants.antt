use Rattle.std.proofs.Common.{◌≡◌, drop}
use Rattle.toml.specs.View.{items_view}
use Rattle.up_pipeline.specs.Document.{are_strings}
use Rattle.up_pipeline.proofs.read.are_strings.Given as goal

-- all items so far are strings
abbrev pub invariant-loop-value : goal.invariant-loop-value
invariant-loop-value l = are_strings (items_view (drop l.value-index l.values)) ≡ are_strings (items_view l.values)
