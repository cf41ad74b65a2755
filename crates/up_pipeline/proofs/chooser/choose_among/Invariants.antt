use Rattle.std.proofs.Common.{◌-◌}
use Rattle.up_kind.specs.Features.{has}
use Rattle.up_pipeline.specs.Search.{IsSearch}
use Rattle.up_pipeline.proofs.chooser.choose_among.Given as goal

abbrev pub invariant-searching : goal.invariant-searching
invariant-searching l = IsSearch l.ids (has l.engine.features.0) (has l.kind.0) l.nodes l.at

abbrev pub decreases-searching : goal.decreases-searching
decreases-searching l = 4294967296 - l.at
