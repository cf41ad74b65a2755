use Rattle.pddl_lex.proofs.Literals.{Fits, parts_fit}
use Rattle.pddl_lex.proofs.decimal.literal.Goals as goal

fits : (c : goal.After-first_digit) → Fits c.first_digit.result c.split_at.result.0.now c.behind_point-decimals.result.now
fits c =
    parts_fit c.args.byte c.args.behind.now c.first_digit.result c.digit_length.result c.split_at.result.0.now c.split_at.result.1.now c.behind_point-decimals.result.now
    c.requires c.first_digit.ensures c.digit_length.ensures.value c.split_at.ensures.front c.split_at.ensures.back c.behind_point-decimals.ensures

pub with_both-number-requires-clause-whole : goal.with_both-number-requires-clause-whole
with_both-number-requires-clause-whole c = (fits c).whole_digits

pub with_both-number-requires-clause-decimals : goal.with_both-number-requires-clause-decimals
with_both-number-requires-clause-decimals c = (fits c).behind_digits

pub with_both-number-requires-clause-few : goal.with_both-number-requires-clause-few
with_both-number-requires-clause-few c = (fits c).few

pub signed-requires : goal.signed-requires
signed-requires c = rw c.with_both-number.ensures (parts_fit c.args.byte c.args.behind.now c.first_digit.result c.digit_length.result c.split_at.result.0.now c.split_at.result.1.now c.behind_point-decimals.result.now
    c.requires c.first_digit.ensures c.digit_length.ensures.value c.split_at.ensures.front c.split_at.ensures.back c.behind_point-decimals.ensures).few

pub over_tens-requires-clause-few : goal.over_tens-requires-clause-few
over_tens-requires-clause-few c = (parts_fit c.args.byte c.args.behind.now c.first_digit.result c.digit_length.result c.split_at.result.0.now c.split_at.result.1.now c.behind_point-decimals.result.now
    c.requires c.first_digit.ensures c.digit_length.ensures.value c.split_at.ensures.front c.split_at.ensures.back c.behind_point-decimals.ensures).places
