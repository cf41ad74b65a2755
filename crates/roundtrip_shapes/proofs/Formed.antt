-- Tokens that are written for conditions and effects spell their abstract syntax.
use Rattle.std.specs.Prelude.{Bool, List}
use Rattle.up_tree.specs.declared.formula.Formula.{Formula}
use Rattle.up_tree.specs.declared.action.Row.{Row}
use Rattle.pddl_lex.specs.declared.tree.Token.{Token}
use Rattle.roundtrip_shapes.specs.Formed.{FormsCondition, FormsRows, AllNamed}
use Rattle.roundtrip_shapes.specs.Raw.{IsRawFormula}
use Rattle.roundtrip_shapes.specs.RawEffects.{IsRawAll, AreRawRows}
use Rattle.roundtrip_shapes.proofs.Trees.{Formed}
use Rattle.roundtrip_shapes.proofs.Names.{well_named}
use Rattle.roundtrip_shapes.proofs.Formulas.{SpellsFormula, spells_formula, formula_formed}
use Rattle.roundtrip_shapes.proofs.Effects.{SpellsEffect, spells_effect}
use Rattle.roundtrip_shapes.proofs.Rows.{all_formed}
use Rattle.up_tree.specs.declared.problem.Parts.{Parts}
use Rattle.up_tree.specs.WellFormed.{IsFormula, IsRow, IsWellFormed}
use Rattle.roundtrip_tokens.specs.Tokens.{formula_tokens}
use Rattle.roundtrip_tokens.specs.Spelled.{AreOfKinds}
use Rattle.up_tree.specs.declared.term.Typed.{Typed}
use Rattle.up_text.specs.Lists.{Every}
use Rattle.roundtrip_tokens.specs.EffectTokens.{whole_effect_tokens}

spelled : (typed : Bool) (f : Formula) (tokens : List Token) (formed : Formed tokens (SpellsFormula (IsRawFormula typed f)))
    → SpellsFormula (IsRawFormula typed f) formed.tree → FormsCondition typed f tokens
spelled typed f tokens formed (spells_formula raw is so) = record { tree = formed.tree; form = raw; bracketed = formed.bracketed; spelled = is; is = so }

pub conditions_are_formed : (p : Parts) → IsWellFormed p → (objects scope : List Typed) → AllNamed objects → AllNamed scope
    → (typed : Bool) (f : Formula) → IsFormula p objects scope f
    → (tokens : List Token) → AreOfKinds tokens (formula_tokens typed f) → FormsCondition typed f tokens
conditions_are_formed p well objects scope objects_named scope_named typed f is tokens kinds =
    let formed = formula_formed p (well_named p well) objects objects_named typed scope scope_named f is tokens kinds in
    spelled typed f tokens formed formed.is

read : (typed : Bool) (rows : List Row) (tokens : List Token) (formed : Formed tokens (SpellsEffect (IsRawAll (AreRawRows typed rows))))
    → SpellsEffect (IsRawAll (AreRawRows typed rows)) formed.tree → FormsRows typed rows tokens
read typed rows tokens formed (spells_effect raw is so) = record { tree = formed.tree; form = raw; bracketed = formed.bracketed; read = is; is = so }

pub effects_are_formed : (p : Parts) → IsWellFormed p → (objects scope : List Typed) → AllNamed objects → AllNamed scope
    → (typed : Bool) (rows : List Row) → Every (IsRow p objects scope) rows
    → (tokens : List Token) → AreOfKinds tokens (whole_effect_tokens typed rows) → FormsRows typed rows tokens
effects_are_formed p well objects scope objects_named scope_named typed rows are tokens kinds =
    let formed = all_formed p (well_named p well) objects objects_named typed scope scope_named rows are tokens kinds in
    read typed rows tokens formed formed.is
