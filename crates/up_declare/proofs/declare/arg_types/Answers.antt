use Rattle.up_phrase.specs.Declarations.{declarations}
use Rattle.up_declare.specs.Declaring.{arg_types}
use Rattle.up_declare.proofs.Params.{types_on}
use Rattle.up_declare.proofs.declare.arg_types.Goals as goal

pub loop-group-preserved : goal.loop-group-preserved
loop-group-preserved c =
    types_on (declarations c.args.names.now) c.args.groups.now c.loop-group.group-index (arg_types (declarations c.args.names.now) c.args.groups.now)
    c.loop-group.types c.in_ok-types.types c.group-item.result c.loop-group-test.true c.group-item.is c.in_ok-known_type.ensures.ok
    c.in_ok-types.ensures c.loop-group.invariant
