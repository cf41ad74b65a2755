-- A tree spells a condition exactly where it has no fault.
use Rattle.std.proofs.Common.{◌≡◌, List, [], ◌∷◌, refl, ap, sym, subst, ◌∙◌}
use Rattle.pddl_lex.specs.declared.tree.Sexp.{Sexp}
use Rattle.pddl_lex.specs.Parses.{Parse, parsed, rejected, faults}
use Rattle.pddl_parse.specs.declared.raw.RawFormula.{RawFormula}
use Rattle.pddl_parse.specs.Shapes.{Read}
use Rattle.pddl_parse.specs.Formulas.{formula}
use Rattle.pddl_parse.specs.Forms.{IsFormula, IsSpelled}
use Rattle.pddl_parse.proofs.Spelled.{Sound}
use Rattle.pddl_parse.proofs.SpelledFormulas.{formula_sound}
use Rattle.pddl_parse.proofs.SpelledLists.{vars_sound}

pub formula_spelled : (tree : Sexp) (f : RawFormula) → formula tree ≡ parsed f → IsFormula tree f
formula_spelled tree f e = subst (λ v. Sound v (IsFormula tree)) e (formula_sound vars_sound tree)

some_form : (tree : Sexp) (v : Read RawFormula) → Sound v (IsFormula tree) → faults v ≡ [] → IsSpelled tree
some_form tree (parsed f) is e = record { form = f; is = is }
some_form tree (rejected fault others) is e = cc

pub faultless : (tree : Sexp) → faults (formula tree) ≡ [] → IsSpelled tree
faultless tree e = some_form tree (formula tree) (formula_sound vars_sound tree) e
