use Rattle.std.proofs.Common.{◌≡◌, length}
use Rattle.pddl_parse.specs.Actions.{lacks_value, no_keys}
use Rattle.pddl_parse.proofs.action.lacks_value.Given as goal

abbrev pub invariant-pairing : goal.invariant-pairing
invariant-pairing l = lacks_value no_keys l.items ≡ lacks_value l.keys l.rest

abbrev pub decreases-pairing : goal.decreases-pairing
decreases-pairing l = length l.rest
