-- What the verdict says of a raw constraint as it is built, and that every `and` is one that is built.
use Rattle.std.proofs.Common.{◌≡◌, List, ◌∷◌, map, refl, ap, sym, ◌∙◌}
use Rattle.pddl_parse.specs.declared.raw.RawGroup.{RawGroup}
use Rattle.pddl_parse.specs.declared.raw.RawConstraint.{RawConstraint, And', Row_of-RawConstraint, end_of-RawConstraint, more_of-RawConstraint, items-the_row-RawConstraint, items_hidden-the_row-RawConstraint-0}
use Rattle.pddl_parse.specs.declared.raw.RawConstraint as raw
use Rattle.pddl_parse.specs.declared.raw.RawConstraint.TheBlock.{hidden-the_row-RawConstraint-0, shown-the_row-RawConstraint-0, items_shown-the_row-RawConstraint-0}
use Rattle.pddl_parse.specs.declared.raw.RawConstraint.TheViews.{roll-RawConstraint, roll-out-RawConstraint, outs-And', rolls-And}
use denote.Hole.Carrier
use Rattle.up_phrase.specs.Declarations.{Declarations}
use Rattle.up_phrase.specs.Scopes.{Variables}
use Rattle.up_check.specs.Constraints.{constraints, each, for_all, joined}
use Rattle.up_check.specs.Nodes.{built}

pub and_built : (n : _) (row : Row_of-RawConstraint _) → And' n row ≡ raw.And (items-the_row-RawConstraint _ row)
unfolding roll-RawConstraint Carrier.roll
and_built n row = sym (roll-out-RawConstraint (And' n row)) ∙ ap roll-RawConstraint (outs-And' n row)
    ∙ sym (rolls-And (shown-the_row-RawConstraint-0 n row)) ∙ ap raw.And (items_shown-the_row-RawConstraint-0 n row)

module _ (names : Declarations) (vars : Variables) where
  pub each-items : {n : _} (members : Row_of-RawConstraint n)
      → each names vars members ≡ map (constraints names vars) (items-the_row-RawConstraint _ members)
  unfolding constraints each
  each-items end_of-RawConstraint = refl
  each-items (more_of-RawConstraint member members) = ap (λ vs. constraints names vars member ∷ vs) (each-items members)

  each-all : (members : List RawConstraint)
      → each names vars (hidden-the_row-RawConstraint-0 members) ≡ map (constraints names vars) members
  each-all members =
      each-items (hidden-the_row-RawConstraint-0 members) ∙ ap (map (constraints names vars)) (items_hidden-the_row-RawConstraint-0 members)

  pub constraints-And : (members : List RawConstraint)
      → constraints names vars (raw.And members) ≡ joined (map (constraints names vars) members)
  unfolding constraints
  constraints-And members = ap joined (each-all members)

  pub constraints-Forall : (groups : List RawGroup) (body : RawConstraint)
      → constraints names vars (raw.Forall groups body) ≡ for_all names vars groups body
  unfolding constraints built
  constraints-Forall groups body = refl
