-- Places of bracket trees.
use Rattle.up_text.specs.declared.place.Place.{Place}
use Rattle.pddl_lex.specs.declared.tree.Sexp.{Sexp, Leaf, Group'}

unfoldable pub place_of : Sexp → Place
place_of (Leaf token) = token.place
place_of (Group' place n row) = place
