use Rattle.std.proofs.Common.{◌≡◌, drop}
use Rattle.up_phrase.specs.Declarations.{declarations}
use Rattle.up_check.specs.Initial.{argument_faults}
use Rattle.up_check.proofs.init.check_arguments.Given as goal

-- the arguments so far have no faults
abbrev pub invariant-loop-arg : goal.invariant-loop-arg
invariant-loop-arg l = argument_faults (declarations l.names) l.declared l.args ≡ argument_faults (declarations l.names) l.types (drop l.arg-index l.args)
