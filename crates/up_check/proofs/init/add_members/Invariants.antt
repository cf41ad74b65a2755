use Rattle.std.proofs.Common.{◌≡◌, drop}
use Rattle.up_phrase.specs.Declarations.{declarations}
use Rattle.up_check.specs.Held.{held}
use Rattle.up_check.specs.Initial.{stated}
use Rattle.up_check.proofs.init.add_members.Given as goal

-- the rest of the members stands after what is stated so far
abbrev pub invariant-loop-member : goal.invariant-loop-member
invariant-loop-member l = stated (declarations l.names) (held l.fn.init) l.members ≡ stated (declarations l.names) (held l.init) (drop l.member-index l.members)
