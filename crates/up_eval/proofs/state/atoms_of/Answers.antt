use Rattle.std.proofs.Common.{◌∙◌, ◌∷◌, ap, sym}
use Rattle.std.specs.FinSet as set
use Rattle.up_eval.specs.Initial.{add_all, ground_atoms}
use Rattle.up_eval.proofs.Initial.{add_all-empty, add_last}
use Rattle.up_eval.proofs.state.atoms_of.Goals as goal

pub facts-preserved : goal.facts-preserved
facts-preserved c =
    c.facts.invariant
    ∙ add_last c.facts.left.now c.in-Some.before.now c.in-Some.fact.now c.facts.atoms _ c.in-Some.ensures.cases.0
    (c.in_ok-insert.ensures ∙ ap (set.insert c.facts.atoms) (c.in_ok-key_of.ensures ∙ ap (λ args. c.in-Some.fact.now.predicate ∷ args) c.as_slice.ensures))

pub facts-init : goal.facts-init
facts-init c =
    add_all-empty (ground_atoms c.args.facts.now)
    ∙ (λ i. add_all (ground_atoms (sym c.as_slice-left.ensures i)) (sym c.new-atoms.ensures i))
