use Rattle.std.proofs.Common.{◌≡◌, drop}
use Rattle.std.specs.List.{list_any}
use Rattle.semantics_laws.specs.Named.{is_named}
use Rattle.semantics_laws.proofs.named.+named.Given as goal

abbrev pub invariant-is_named_in-loop-member : goal.invariant-is_named_in-loop-member
invariant-is_named_in-loop-member l = list_any (λ f. is_named f l.name) l.members ≡ list_any (λ f. is_named f l.name) (drop l.member-index l.members)
