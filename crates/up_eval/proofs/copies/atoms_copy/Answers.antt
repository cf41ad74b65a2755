use Rattle.std.proofs.Common.{◌∙◌, ap, sym}
use Rattle.std.specs.FinSet as set
use Rattle.up_eval.specs.Initial.{add_all}
use Rattle.up_eval.proofs.Initial.{add_all-empty, add_last_key}
use Rattle.up_eval.proofs.copies.atoms_copy.Goals as goal

pub keys-init : goal.keys-init
keys-init c = add_all-empty c.args.keys.now.keys ∙ (λ i. add_all (sym c.iter-rest.ensures.rest i) (sym c.new-copy.ensures i))

pub keys-preserved : goal.keys-preserved
keys-preserved c =
    c.keys.invariant
    ∙ add_last_key c.keys.rest _ c.in-Some.key.now c.keys.copy _ c.in-Some.ensures.steps (c.in_ok-insert.ensures ∙ ap (set.insert c.keys.copy) c.in_ok-copy.ensures)
