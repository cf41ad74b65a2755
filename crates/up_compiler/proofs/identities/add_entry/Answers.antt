use Rattle.std.proofs.Common.{◌≡◌, false, ◌∙◌, sym}
use Rattle.up_compiler.specs.Identity.{has_entry}
use Rattle.up_compiler.proofs.Unchanged.{back_push}
use Rattle.up_compiler.proofs.identities.add_entry.Goals as goal

pub returns-clause-fit : goal.returns-clause-fit
returns-clause-fit c =
    let new : has_entry c.args.entries.now c.args.action.now.name ≡ false = sym (c.requires.named.each c.args.action.now.name) ∙ cc in
    rw (c.in_ok-push.ensures.ok, c.in_ok-identity_entry.ensures) (back_push c.args.entries.now c.args.action.now c.requires.back new)
