-- What stands around an effect.
use Rattle.std.specs.Prelude.{List, [], ◌++◌, length}
use Rattle.up_tree.specs.declared.formula.Formula.{Formula}
use Rattle.up_phrase.specs.Barred.{each_once}
use Rattle.up_phrase.specs.Scopes.{Variables}
use Rattle.up_effect.specs.Effects.{Around}
use Rattle.grammar_names.specs.Effects.{bound_in}

-- around an effect of an action with these parameters, inside `forall`s of these variables and `when`s of these conditions
abbrev pub around : Variables → Variables → List Formula → Around
around params bound conditions =
    record { parameters = length params; variables = params ++ bound; barred = each_once [] (bound_in conditions); whens = conditions }
