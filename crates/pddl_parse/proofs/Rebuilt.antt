-- Every bracket is a bracket with a list of trees.
use Rattle.std.proofs.Common.{◌≡◌, refl, ap, sym, ◌∙◌}
use Rattle.up_text.specs.declared.place.Place.{Place}
use Rattle.pddl_lex.specs.declared.tree.Sexp.{Sexp, Leaf, Group, Group', Row_of-Sexp, end_of-Sexp, more_of-Sexp, items-the_row-Sexp}
use denote.Hole.Carrier
use Rattle.pddl_lex.specs.declared.tree.Sexp.TheBlock.{shown-the_row-Sexp-0, items_shown-the_row-Sexp-0}
use Rattle.pddl_lex.specs.declared.tree.Sexp.TheViews.{roll-Sexp, out-Sexp, roll-out-Sexp, outs-Group', rolls-Group}

pub rebuilt : (place : Place) (n : _) (row : Row_of-Sexp _) → Group' place n row ≡ Group place (items-the_row-Sexp _ row)
unfolding roll-Sexp Carrier.roll
rebuilt place n row = sym (roll-out-Sexp (Group' place n row)) ∙ ap roll-Sexp (outs-Group' place n row)
    ∙ sym (rolls-Group place (shown-the_row-Sexp-0 n row)) ∙ ap (Group place) (items_shown-the_row-Sexp-0 n row)
