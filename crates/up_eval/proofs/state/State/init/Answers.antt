use Rattle.std.proofs.Common.{◌∙◌, ap, sym, subst}
use Rattle.up_tree.specs.State.{init}
use Rattle.up_eval.specs.Initial.{IsOfWellFormed}
use Rattle.up_eval.proofs.Initial.{init_is_of}
use Rattle.up_eval.proofs.state.State.init.Goals as goal

pub returns-clause-typed : goal.returns-clause-typed
returns-clause-typed c = subst (IsOfWellFormed c.args.p.now) (sym (c.in_ok-state.ensures ∙ ap init c.parts.ensures)) (init_is_of c.args.p.now)
