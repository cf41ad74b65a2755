use Rattle.up_top.proofs.Ends.{pipeline_engine, pipeline_held}
use Rattle.up_top.proofs.Inputs.{early_placed}
use Rattle.up_top.proofs.ask.pipeline.Goals as goal

pub returns-in-Ok-inputs_chain-clause-held : goal.returns-in-Ok-inputs_chain-clause-held
returns-in-Ok-inputs_chain-clause-held g c = pipeline_held _ _ _ c.requires.of c.in-Ok.ensures.kept

pub returns-clause-place : goal.returns-clause-place
returns-clause-place g c = early_placed _ _ _ _ _ c.in-Err-inputs_chain.ensures.stops (pipeline_engine _ c.requires.of)
