use Rattle.std.proofs.Common.{◌≡◌, ◌++◌, drop}
use Rattle.up_declare.specs.Declaring.{each_of}
use Rattle.up_declare.proofs.declare.with_each_type.Given as goal

-- the types so far come before those of the rest
abbrev pub invariant-loop-param : goal.invariant-loop-param
invariant-loop-param l = l.fn.types ++ each_of l.of l.params ≡ l.types ++ each_of l.of (drop l._param-index l.params)
