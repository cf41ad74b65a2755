use Rattle.up_map.proofs.Splitting.{cut_end, cut_part}
use Rattle.up_map.proofs.cut.cut_at.Goals as goal

pub returns-in-None-clause-pieces : goal.returns-in-None-clause-pieces
returns-in-None-clause-pieces c =
    cut_end c.args.at c.args.text.now c.split_at.result.0.now c.split_at.result.1.now c.front_length.result
    c.front_length.ensures.value c.split_at.ensures.front c.split_at.ensures.back c.in-None.ensures.cases

pub returns-in-Some-clause-pieces : goal.returns-in-Some-clause-pieces
returns-in-Some-clause-pieces c =
    cut_part c.args.at c.args.text.now c.split_at.result.0.now c.split_at.result.1.now c.in-Some.behind.now c.in-Some.field-0-0.now
    c.front_length.result
    c.front_length.ensures.value c.split_at.ensures.front c.split_at.ensures.back c.in-Some.ensures.cases.0
