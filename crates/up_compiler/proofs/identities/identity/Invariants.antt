use Rattle.std.proofs.Common.{◌≡◌, drop}
use Rattle.up_compiler.specs.Back.{IsBack}
use Rattle.up_compiler.specs.Identity.{and_identity, identity_entries}
use Rattle.up_compiler.specs.Named.{AreNamed}
use Rattle.up_compiler.proofs.identities.identity.Given as goal

abbrev pub invariant-loop-action : goal.invariant-loop-action
invariant-loop-action l =
    IsBack l.entries × AreNamed l.names l.entries × (and_identity l.entries (drop l.action-index l.p.actions) ≡ identity_entries l.p.actions)
