use Rattle.std.proofs.Common.{ap}
use Rattle.std.specs.Option.{option_copied}
use Rattle.up_map.proofs.Gathering.{drop_none}
use Rattle.up_map.proofs.entry.read_drop.Goals as goal

pub returns-in-Some : goal.returns-in-Some
returns-in-Some c = drop_none (option_copied c.args.words) c.in-Some.field-0.now (ap option_copied c.in-Some.is)
