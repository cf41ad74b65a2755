-- What the verdicts say of a raw node as it is built, and that every raw node is one that is built.
use Rattle.std.proofs.Common.{◌≡◌, ◌∷◌, map, refl, ap, sym, ◌∙◌}
use Rattle.up_text.specs.declared.place.Place.{Place}
use Rattle.pddl_parse.specs.declared.raw.Ident.{Ident}
use Rattle.pddl_parse.specs.declared.raw.Operator.{Operator}
use Rattle.pddl_parse.specs.declared.raw.RawTerm.{RawTerm, Call', Arithmetic', Row_of-RawTerm, end_of-RawTerm, more_of-RawTerm, items-the_row-RawTerm, items_hidden-the_row-RawTerm-0}
use Rattle.pddl_parse.specs.declared.raw.RawTerm as raw
use Rattle.pddl_parse.specs.declared.raw.RawTerm.TheBlock.{shown-the_row-RawTerm-0, items_shown-the_row-RawTerm-0}
use Rattle.pddl_parse.specs.declared.raw.RawTerm.TheViews.{roll-RawTerm, roll-out-RawTerm, outs-Call', rolls-Call, outs-Arithmetic', rolls-Arithmetic}
use Rattle.pddl_parse.specs.declared.raw.RawFormula.{RawFormula, And', Or', Row_of-RawFormula, end_of-RawFormula, more_of-RawFormula, items-the_row-RawFormula, items_hidden-the_row-RawFormula-0}
use Rattle.pddl_parse.specs.declared.raw.RawFormula as form
use Rattle.pddl_parse.specs.declared.raw.RawFormula.TheBlock.{shown-the_row-RawFormula-0, items_shown-the_row-RawFormula-0}
use Rattle.pddl_parse.specs.declared.raw.RawFormula.TheViews.{roll-RawFormula, roll-out-RawFormula, outs-And', rolls-And, outs-Or', rolls-Or}
use denote.Hole.Carrier
use Rattle.up_phrase.specs.Declarations.{Declarations}
use Rattle.up_phrase.specs.declared.term.Setting.{Setting}
use Rattle.up_phrase.specs.Scopes.{Variables}
use Rattle.up_phrase.specs.Terms.{term, terms}
use Rattle.up_phrase.specs.Exprs.{expr, exprs}
use Rattle.up_phrase.specs.Conditions.{formula, formulas}

-- ---- nodes are built

pub call_built : (place : Place) (f : Ident) (n : _) (row : Row_of-RawTerm _) → Call' place f n row ≡ raw.Call place f (items-the_row-RawTerm _ row)
unfolding roll-RawTerm Carrier.roll
call_built place f n row = sym (roll-out-RawTerm (Call' place f n row)) ∙ ap roll-RawTerm (outs-Call' place f n row)
    ∙ sym (rolls-Call place f (shown-the_row-RawTerm-0 n row)) ∙ ap (raw.Call place f) (items_shown-the_row-RawTerm-0 n row)

pub arithmetic_built : (place : Place) (op : Operator) (n : _) (row : Row_of-RawTerm _)
    → Arithmetic' place op n row ≡ raw.Arithmetic place op (items-the_row-RawTerm _ row)
unfolding roll-RawTerm Carrier.roll
arithmetic_built place op n row = sym (roll-out-RawTerm (Arithmetic' place op n row)) ∙ ap roll-RawTerm (outs-Arithmetic' place op n row)
    ∙ sym (rolls-Arithmetic place op (shown-the_row-RawTerm-0 n row)) ∙ ap (raw.Arithmetic place op) (items_shown-the_row-RawTerm-0 n row)

pub and_built : (n : _) (row : Row_of-RawFormula _) → And' n row ≡ form.And (items-the_row-RawFormula _ row)
unfolding roll-RawFormula Carrier.roll
and_built n row = sym (roll-out-RawFormula (And' n row)) ∙ ap roll-RawFormula (outs-And' n row)
    ∙ sym (rolls-And (shown-the_row-RawFormula-0 n row)) ∙ ap form.And (items_shown-the_row-RawFormula-0 n row)

pub or_built : (n : _) (row : Row_of-RawFormula _) → Or' n row ≡ form.Or (items-the_row-RawFormula _ row)
unfolding roll-RawFormula Carrier.roll
or_built n row = sym (roll-out-RawFormula (Or' n row)) ∙ ap roll-RawFormula (outs-Or' n row)
    ∙ sym (rolls-Or (shown-the_row-RawFormula-0 n row)) ∙ ap form.Or (items_shown-the_row-RawFormula-0 n row)

module _ (names : Declarations) (vars : Variables) (s : Setting) where
  -- ---- object terms

  pub terms-items : {n : _} (args : Row_of-RawTerm n) → terms names vars s args ≡ map (term names vars s) (items-the_row-RawTerm _ args)
  unfolding term terms
  terms-items end_of-RawTerm = refl
  terms-items (more_of-RawTerm arg args) = ap (λ ts. term names vars s arg ∷ ts) (terms-items args)

  -- ---- numeric expressions

  pub exprs-items : {n : _} (operands : Row_of-RawTerm n) → exprs names vars s operands ≡ map (expr names vars s) (items-the_row-RawTerm _ operands)
  unfolding expr exprs
  exprs-items end_of-RawTerm = refl
  exprs-items (more_of-RawTerm operand operands) = ap (λ es. expr names vars s operand ∷ es) (exprs-items operands)

  -- ---- conditions

  pub formulas-items : {n : _} (members : Row_of-RawFormula n) → formulas names vars s members ≡ map (formula names vars s) (items-the_row-RawFormula _ members)
  unfolding formula formulas
  formulas-items end_of-RawFormula = refl
  formulas-items (more_of-RawFormula member members) = ap (λ fs. formula names vars s member ∷ fs) (formulas-items members)
