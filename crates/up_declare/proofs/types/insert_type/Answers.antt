use Rattle.std.proofs.Common.{◌∙◌}
use Rattle.up_declare.proofs.Listing.{inserted}
use Rattle.up_declare.proofs.types.insert_type.Goals as goal

pub returns : goal.returns
returns c = λ none. c.in_ok-insert.ensures.entries ∙ inserted c.args.types.now c.args.name c.args.parent none
