use Rattle.std.proofs.Common.{◌↔◌, Bool, IsTrue, sym, subst}
use Rattle.semantics_laws.specs.Symbols.{FormulaNames, predicate}
use Rattle.semantics_laws.proofs.Naming.{named-is}
use Rattle.semantics_laws.proofs.named.names_predicate.Goals as goal

pub returns : goal.returns
returns c =
    subst (λ (b : Bool). IsTrue b ↔ FormulaNames c.args.f.now (predicate c.args.name.now)) (sym c.is_named.ensures) (named-is c.args.f.now c.args.name.now)
