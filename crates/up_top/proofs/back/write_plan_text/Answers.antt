use Rattle.std.proofs.Common.{ap, Err}
use Rattle.up_top.proofs.back.write_plan_text.Goals as goal

pub returns-in-Err-Failed-clause-held : goal.returns-in-Err-Failed-clause-held
returns-in-Err-Failed-clause-held g c = rw c.name_at.ensures at (c.in-Err-Failed.ensures.cut (ap Err c.in-Err-Failed.field-0-is))
