use Rattle.std.proofs.Common.{◌≡◌, drop}
use Rattle.toml.specs.View.{items_view}
use Rattle.up_pipeline.specs.Engine.{add_words}
use Rattle.up_pipeline.proofs.read.kind_of.Given as goal

-- the kind has the features of the words so far
abbrev pub invariant-loop-value : goal.invariant-loop-value
invariant-loop-value l =
    add_words (items_view (drop l.value-index l.values)) l.kind ≡ add_words (items_view l.values) (record { 0 = 0 })
