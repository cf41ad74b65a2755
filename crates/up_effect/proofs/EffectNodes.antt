-- What the definitions say of a raw effect as code takes it apart.
use Rattle.std.proofs.Common.{◌≡◌, List, ◌∷◌, map, refl, ap, ◌∙◌}
use Rattle.pddl_parse.specs.declared.raw.RawCall.{RawCall}
use Rattle.pddl_parse.specs.declared.raw.RawChange.{RawChange}
use Rattle.pddl_parse.specs.declared.raw.RawEffect.{RawEffect, Row_of-RawEffect, end_of-RawEffect, more_of-RawEffect, items-the_row-RawEffect, items_hidden-the_row-RawEffect-0}
use Rattle.pddl_parse.specs.declared.raw.RawEffect as form
use Rattle.pddl_parse.specs.declared.raw.RawEffect.TheBlock.{hidden-the_row-RawEffect-0}
use Rattle.pddl_parse.specs.declared.raw.RawFormula.{RawFormula}
use Rattle.pddl_parse.specs.declared.raw.RawGroup.{RawGroup}
use Rattle.pddl_parse.specs.declared.raw.RawTerm.{RawTerm}
use Rattle.up_text.specs.declared.place.Place.{Place}
use Rattle.up_tree.specs.declared.formula.Formula.{Formula, And, items_hidden-the_row-Formula-0}
use Rattle.up_tree.specs.Simplify.{is_empty, is_true_formula}
use Rattle.up_phrase.specs.Declarations.{Declarations}
use Rattle.up_phrase.specs.Lookups.{function_of}
use Rattle.up_effect.specs.Effects.{Around, added, deleted, changed, undefined, simple, together, rows, each_rows, rows_for_all, rows_when}
use Rattle.up_effect.specs.Nodes.{built}

module _ (names : Declarations) (a : Around) where
  each-items : {n : _} (members : Row_of-RawEffect n) → each_rows names a members ≡ map (rows names a) (items-the_row-RawEffect _ members)
  unfolding rows each_rows
  each-items end_of-RawEffect = refl
  each-items (more_of-RawEffect member members) = ap (λ each. rows names a member ∷ each) (each-items members)

  each-all : (members : List RawEffect) → each_rows names a (hidden-the_row-RawEffect-0 members) ≡ map (rows names a) members
  each-all members = each-items (hidden-the_row-RawEffect-0 members) ∙ ap (map (rows names a)) (items_hidden-the_row-RawEffect-0 members)

  pub rows-And : (members : List RawEffect) → rows names a (form.And members) ≡ together (map (rows names a) members)
  unfolding rows
  rows-And members = ap together (each-all members)

  pub rows-Forall : (groups : List RawGroup) (body : RawEffect) → rows names a (form.Forall groups body) ≡ rows_for_all names a groups body
  unfolding rows built
  rows-Forall groups body = refl

  pub rows-When : (condition : RawFormula) (body : RawEffect) → rows names a (form.When condition body) ≡ rows_when names a condition body
  unfolding rows built
  rows-When condition body = refl

  pub rows-Add : (it : RawCall) → rows names a (form.Add it) ≡ simple a (added names a.variables it)
  unfolding rows
  rows-Add it = refl

  pub rows-Delete : (it : RawCall) → rows names a (form.Delete it) ≡ simple a (deleted names a.variables it)
  unfolding rows
  rows-Delete it = refl

  pub rows-Change : (c : RawChange) (it : RawCall) (value : RawTerm) → rows names a (form.Change c it value) ≡ simple a (changed names a.variables c it value)
  unfolding rows
  rows-Change c it value = refl

  pub rows-Undefine : (it : RawCall) (place : Place)
      → rows names a (form.Undefine it place) ≡ simple a (undefined names a.variables it place (function_of names it.name.name))
  unfolding rows
  rows-Undefine it place = refl

pub always-And : (fs : List Formula) → is_true_formula (And fs) ≡ is_empty fs
always-And fs = ap is_empty (items_hidden-the_row-Formula-0 fs)

pub ruleset effect_nodes = (rows-And, rows-Forall, rows-When, rows-Add, rows-Delete, rows-Change, rows-Undefine)

pub ruleset always = (always-And)
