-- What the compiler owes.
use Rattle.std.proofs.Common.{◌≡◌, List, [], map, IsTrue, refl, sym, ◌∙◌}
use Rattle.up_tree.specs.declared.formula.Formula.{Formula}
use Rattle.up_tree.specs.declared.problem.Parts.{Parts}
use Rattle.up_tree.specs.declared.term.Typed.{Typed}
use Rattle.up_tree.specs.Judged.{truth_of}
use Rattle.up_tree.specs.Objects.{world, Assignment}
use Rattle.up_tree.specs.Simplify.{knows_nothing}
use Rattle.up_tree.specs.State.{State}
use Rattle.up_tree.specs.WellFormed.{IsWellFormed, IsFormula}
use Rattle.up_kind.specs.Carried.{carries}
use Rattle.up_compiler.specs.declared.id.CompilerId.TheVariants.{Types}
use Rattle.up_compiler.specs.Table.{admits, row_result}
use Rattle.semantics_laws.specs.Symbols.{FormulaNames}
use Rattle.semantics_laws.proofs.Agreeing.{same_judged}
use Rattle.condition_laws.proofs.Stepping.{nothing_is_initial}
use Rattle.compiling_laws.specs.Forms.{symbols}
use Rattle.finishing_laws.proofs.Finishing.{compiled_finish}
use Rattle.step_laws.specs.Naming.{entry_of}
use Rattle.step_laws.specs.Compiled.{IsCompiled, Owes}
use Rattle.types_laws.specs.Types.{guarded_pairs, untyped, types}
use Rattle.types_laws.specs.Guards.{guards, guarded}
use Rattle.types_laws.specs.Related.{IsGuard, AreRelated}
use Rattle.types_laws.proofs.Guarding.{guarded_truth}
use Rattle.types_laws.proofs.Naming.{formula_declared, names_none}
use Rattle.types_laws.proofs.States.{guarding}
use Rattle.types_laws.proofs.Plans.{NoObjectFunction, admitted_is, rows_are, entries_fit, entries_lead, same}
use Rattle.types_laws.proofs.Problems.{untyped_well}
use Rattle.types_laws.proofs.Kind.{within_row}

pub guarded_is_same : (p : Parts) → IsWellFormed p → (s t : State) → AreRelated p s t → (objects scope : List Typed) (e : Assignment) (f : Formula)
    → IsFormula p objects scope f → truth_of (world (untyped p)) t e (guarded (guards p) f) ≡ truth_of (world p) s e f
guarded_is_same p well s t related objects scope e f is =
    guarded_truth p well t (guarding p well s t related) objects scope e f is
    ∙ sym (same_judged (λ x. ¬ IsGuard p x) s t related.same (world p) e f
    (names_none p (FormulaNames f) (λ n h. formula_declared p objects scope f n is h)))

pub untyped_is_compiled : (p : Parts) → IsWellFormed p → IsTrue (admits Types (carries p))
    → IsCompiled (row_result Types (carries p)) p (untyped p) (map entry_of (guarded_pairs p))
untyped_is_compiled p well is =
    let k : NoObjectFunction p × (p.constraints ≡ []) = admitted_is p is in
    record {
      formed = λ h. untyped_well p well k.0 k.1;
      features = within_row p k.0 k.1;
      metric = refl;
      entries = rows_are p well;
      fit = entries_fit p well;
      leads = entries_lead p well;
      plans = same p well k.1;
    }

pub owes : Owes Types types
owes p well is =
    compiled_finish (row_result Types (carries p)) p (untyped p) (guarded_pairs p) refl (untyped_is_compiled p well is)
    (symbols (untyped p)) knows_nothing well (nothing_is_initial (untyped p)) (λ n m. m)
