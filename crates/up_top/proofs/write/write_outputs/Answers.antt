use Rattle.std.proofs.Common.{rules, [], ◌∷◌}
use Rattle.up_top.proofs.Outputs.{stops_at, goes_on}
use Rattle.up_top.proofs.write.write_outputs.Goals as goal

pub returns-in_err-write_output-clause-held : goal.returns-in_err-write_output-clause-held
returns-in_err-write_output-clause-held g c =
    stops_at _ _ (record { place = 5; text = g.P.Pieces.rest c.args.problem.now } ∷ record { place = 6; text = g.M.Pieces.rest c.args.map.now } ∷ []) _ _
    c.from_residual.result c.in_err-write_output.field-0.0 4 4 c.from_residual.ensures.1
    c.in_err-write_output.ensures.held c.in_err-write_output.ensures.stop

pub returns-in_err-write_output-2-clause-held : goal.returns-in_err-write_output-2-clause-held
returns-in_err-write_output-2-clause-held g c =
    goes_on _ _ (record { place = 5; text = g.P.Pieces.rest c.args.problem.now } ∷ record { place = 6; text = g.M.Pieces.rest c.args.map.now } ∷ []) _ _ _ _ 4 6 c.in_ok-write_output.ensures.held
    (stops_at _ _ (record { place = 6; text = g.M.Pieces.rest c.args.map.now } ∷ []) _ _ c.from_residual-in_err-write_output-2.result c.in_err-write_output-2.field-0.0 5 5 c.from_residual-in_err-write_output-2.ensures.1
    c.in_err-write_output-2.ensures.held c.in_err-write_output-2.ensures.stop)
    (search rules)
