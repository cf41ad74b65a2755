-- A tree spells a whole condition exactly where it is read as it.
use Rattle.std.proofs.Common.{◌≡◌, [], ap, sym, subst, ◌∙◌}
use Rattle.pddl_lex.specs.declared.tree.Sexp.{Sexp, Group}
use Rattle.pddl_lex.specs.Parses.{parsed, rejected}
use Rattle.pddl_parse.specs.declared.raw.RawFormula.{RawFormula, And}
use Rattle.pddl_parse.specs.declared.shape.ShapeError.TheVariants.{Expected}
use Rattle.pddl_parse.specs.Formulas.{formula}
use Rattle.pddl_parse.specs.Actions.{condition}
use Rattle.pddl_parse.specs.Forms.{IsFormula}
use Rattle.pddl_parse.proofs.Nodes.{formula-Group}
use Rattle.pddl_parse.proofs.Read.{formula_read}
use Rattle.pddl_parse.proofs.Spelled.{Sound}
use Rattle.pddl_parse.proofs.SpelledFormulas.{formula_sound}
use Rattle.pddl_parse.proofs.SpelledLists.{vars_sound}
use Rattle.grammar_shapes.specs.Actions.{IsCondition, no_condition, a_condition}
use Rattle.grammar_shapes.proofs.Parses.{sound_map}
use Rattle.grammar_shapes.proofs.Wholes.{IsEmpty, nothing_read, some_read, whole_sound}

no_empty_formula : (tree : Sexp) (f : RawFormula) → formula tree ≡ parsed f → IsEmpty tree → ⊥
no_empty_formula tree f e empty =
    let none : formula tree ≡ rejected (Expected empty.place) [] = ap formula empty.is ∙ formula-Group empty.place [] in absurd cc

pub condition_read : (tree : Sexp) (f : RawFormula) → IsCondition tree f → condition tree ≡ parsed f
condition_read _ _ (no_condition place) = nothing_read (And []) (formula (Group place [])) place
condition_read _ _ (a_condition tree f is) =
    some_read (And []) (formula tree) tree f (formula_read tree f is) (no_empty_formula tree f (formula_read tree f is))

nothing_is : (tree : Sexp) → IsEmpty tree → IsCondition tree (And [])
nothing_is tree empty = subst (λ x. IsCondition x (And [])) (sym empty.is) (no_condition empty.place)

pub condition_sound : (tree : Sexp) → Sound (condition tree) (IsCondition tree)
condition_sound tree =
    whole_sound (IsCondition tree) (And []) (formula tree) tree (nothing_is tree)
    (sound_map (IsFormula tree) (IsCondition tree) (formula tree) (λ f is. a_condition tree f is) (formula_sound vars_sound tree))

pub condition_spelled : (tree : Sexp) (f : RawFormula) → condition tree ≡ parsed f → IsCondition tree f
condition_spelled tree f read = subst (λ v. Sound v (IsCondition tree)) read (condition_sound tree)
