-- What the verdict says of a raw effect as it is built, and that every raw effect is one that is built.
use Rattle.std.proofs.Common.{◌≡◌, List, ◌∷◌, map, refl, ap, sym, ◌∙◌}
use Rattle.pddl_parse.specs.declared.raw.RawEffect.{RawEffect, And', Row_of-RawEffect, end_of-RawEffect, more_of-RawEffect, items-the_row-RawEffect, items_hidden-the_row-RawEffect-0}
use Rattle.pddl_parse.specs.declared.raw.RawEffect as raw
use Rattle.pddl_parse.specs.declared.raw.RawEffect.TheBlock.{hidden-the_row-RawEffect-0, shown-the_row-RawEffect-0, items_shown-the_row-RawEffect-0}
use Rattle.pddl_parse.specs.declared.raw.RawEffect.TheViews.{roll-RawEffect, roll-out-RawEffect, outs-And', rolls-And}
use denote.Hole.Carrier
use Rattle.pddl_parse.specs.declared.raw.RawFormula.{RawFormula}
use Rattle.pddl_parse.specs.declared.raw.RawGroup.{RawGroup}
use Rattle.up_phrase.specs.Declarations.{Declarations}
use Rattle.up_effect.specs.Effects.{Around, together, rows, each_rows, rows_for_all, rows_when}
use Rattle.up_effect.specs.Nodes.{built, for_all, when}

pub and_built : (n : _) (row : Row_of-RawEffect _) → And' n row ≡ raw.And (items-the_row-RawEffect _ row)
unfolding roll-RawEffect Carrier.roll
and_built n row = sym (roll-out-RawEffect (And' n row)) ∙ ap roll-RawEffect (outs-And' n row)
    ∙ sym (rolls-And (shown-the_row-RawEffect-0 n row)) ∙ ap raw.And (items_shown-the_row-RawEffect-0 n row)

pub for_all_built : (groups : List RawGroup) (body : RawEffect) → raw.Forall groups body ≡ for_all groups body
unfolding built
for_all_built groups body = refl

pub when_built : (condition : RawFormula) (body : RawEffect) → raw.When condition body ≡ when condition body
unfolding built
when_built condition body = refl

module _ (names : Declarations) (a : Around) where
  pub rows-items : {n : _} (members : Row_of-RawEffect n) → each_rows names a members ≡ map (rows names a) (items-the_row-RawEffect _ members)
  unfolding rows each_rows
  rows-items end_of-RawEffect = refl
  rows-items (more_of-RawEffect member members) = ap (λ each. rows names a member ∷ each) (rows-items members)

  pub rows-And : (members : List RawEffect) → rows names a (raw.And members) ≡ together (map (rows names a) members)
  unfolding rows
  rows-And members =
      ap together (rows-items (hidden-the_row-RawEffect-0 members) ∙ ap (map (rows names a)) (items_hidden-the_row-RawEffect-0 members))

  pub rows-Forall : (groups : List RawGroup) (body : RawEffect) → rows names a (raw.Forall groups body) ≡ rows_for_all names a groups body
  unfolding rows built
  rows-Forall groups body = refl

  pub rows-When : (condition : RawFormula) (body : RawEffect) → rows names a (raw.When condition body) ≡ rows_when names a condition body
  unfolding rows built
  rows-When condition body = refl
