use Rattle.up_pipeline.proofs.Keys.{document_read}
use Rattle.up_pipeline.proofs.engine.Engine.read.Goals as goal

pub returns-in-Ok : goal.returns-in-Ok
returns-in-Ok c = λ fits. rw (document_read _ _ c.in-Ok.ensures.ok.0 c.in-Ok.ensures.ok.1) (c.engine_of_table.ensures fits)
