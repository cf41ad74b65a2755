use Rattle.std.proofs.lemmas.Int.{to_z-of_z}
use Rattle.pddl_lex.proofs.Sizes.{over_tens_made, tens_signed}
use Rattle.pddl_lex.proofs.decimal.over_tens.Goals as goal

pub unwrap-requires : goal.unwrap-requires
unwrap-requires c =
    over_tens_made c.new.result c.args.number _ _ c.args.count (to_z-of_z _ c.args.number c.ranges.number)
    (tens_signed c.pow-tens.result c.args.count c.pow-tens.ensures c.requires.few)
    c.requires.few c.requires.size c.new.ensures.zero_divisor c.new.ensures.too_large
