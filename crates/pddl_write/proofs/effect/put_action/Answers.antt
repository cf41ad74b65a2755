use Rattle.std.proofs.Common.{ap, ◌∙◌}
use Rattle.up_line.specs.Sheet.{after}
use Rattle.up_line.proofs.Sheets.{then_put}
use Rattle.up_line.specs.Spaced.{spaced}
use Rattle.pddl_write.specs.Phrases.{variables_text}
use Rattle.pddl_write.specs.Effects.{effect_row_text}
use Rattle.pddl_write.proofs.effect.put_action.Goals as goal

pub returns : goal.returns
returns c =
    let name = c.put-2.ensures ∙ ap (after c.put.new.self) c.bytes.ensures.bytes in
    let params = c.put_variables.ensures ∙ ap (λ vars. after c.put-3.new.self (variables_text c.args.typed vars)) c.as_slice.ensures in
    let rows = c.put_rows.ensures ∙ ap (λ rows. after c.put-5.new.self (spaced (effect_row_text c.args.typed) rows)) c.as_slice-2.ensures in
    let head = then_put _ _ _ _ _ (then_put _ _ _ _ _ (then_put _ _ _ _ _ (then_put _ _ _ _ _ c.put.ensures name) c.put-3.ensures) params) c.put-4.ensures in
    then_put _ _ _ _ _ (then_put _ _ _ _ _ (then_put _ _ _ _ _ (then_put _ _ _ _ _ head c.put_formula.ensures) c.put-5.ensures) rows) c.put-6.ensures
