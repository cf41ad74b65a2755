use Rattle.std.proofs.Common.{ap, ◌∙◌}
use Rattle.up_kind.specs.Carried.{carries}
use Rattle.up_kind.proofs.problem.kind_of.Goals as goal

pub returns : goal.returns
returns c = c.joined.ensures ∙ ap carries (c.parts-2.ensures ∙ c.in_ok-tables.ensures ∙ c.parts.ensures)
