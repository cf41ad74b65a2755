-- Which bracket trees spell names, alone and with their types.
use Rattle.std.specs.Prelude.{◌≢◌, List, [], ◌∷◌, ◌++◌, Some, None}
use Rattle.up_text.specs.declared.place.Place.{Place}
use Rattle.pddl_lex.specs.declared.tree.Sign.TheVariants as sign
use Rattle.pddl_lex.specs.declared.tree.TokenKind.TheVariants as kind
use Rattle.pddl_lex.specs.declared.tree.Sexp.{Sexp}
use Rattle.pddl_parse.specs.declared.raw.Ident.{Ident}
use Rattle.pddl_parse.specs.declared.raw.RawGroup.{RawGroup}
use Rattle.pddl_parse.specs.Forms.{leaf, IsIdent}

-- names, as `a b`
pub data AreNames : List Sexp → List Ident → Type 0 where
  no_names : AreNames [] []
  more_names : (tree : Sexp) (name : Ident) (trees : List Sexp) (names : List Ident)
      → IsIdent tree name → AreNames trees names → AreNames (tree ∷ trees) (name ∷ names)

-- names with their types, as `a b - t c`
pub data AreListed : List Sexp → List RawGroup → Type 0 where
  none_listed : AreListed [] []
  untyped_names : (trees : List Sexp) (names : List Ident) → names ≢ [] → AreNames trees names
      → AreListed trees (record { names = names; of = None } ∷ [])
  typed_names : (trees : List Sexp) (names : List Ident) (at : Place) (tree : Sexp) (of : Ident) (rest : List Sexp) (groups : List RawGroup)
      → names ≢ [] → AreNames trees names → IsIdent tree of → AreListed rest groups
      → AreListed (trees ++ leaf (kind.Sign sign.Minus) at ∷ tree ∷ rest) (record { names = names; of = Some of } ∷ groups)
