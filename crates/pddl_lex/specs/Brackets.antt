-- The bracket trees of tokens and of texts.
use Rattle.std.specs.Prelude.{◌≡◌, Bool, true, false, List, [], ◌∷◌, ◌++◌, ℕ}
use Rattle.up_text.specs.declared.place.Place.{Place}
use Rattle.pddl_lex.specs.declared.tree.Token.{Token}
use Rattle.pddl_lex.specs.declared.tree.TokenKind.{TokenKind}
use Rattle.pddl_lex.specs.declared.tree.TokenKind.TheVariants.{Open, Close}
use Rattle.pddl_lex.specs.declared.tree.Sexp.{Sexp, Leaf, Group}
use Rattle.pddl_lex.specs.Spells.{SpelledBy}

-- a token that is no bracket
abbrev pub is_leaf : TokenKind → Bool
is_leaf Open = false
is_leaf Close = false
is_leaf _ = true

abbrev pub opening : Place → Token
opening place = record { kind = Open; place = place }

abbrev pub closing : Place → Token
closing place = record { kind = Close; place = place }

-- The tokens, in order, are those of the trees: a tree is a token, or `(`, trees and `)`.
pub data Bracketed : List Token → List Sexp → Type 0 where
  nothing : Bracketed [] []
  leaf : (token : Token) (rest : List Token) (trees : List Sexp)
      → is_leaf token.kind ≡ true → Bracketed rest trees → Bracketed (token ∷ rest) (Leaf token ∷ trees)
  group : (place end : Place) (inner rest : List Token) (members trees : List Sexp)
      → Bracketed inner members → Bracketed rest trees
      → Bracketed (opening place ∷ (inner ++ closing end ∷ rest)) (Group place members ∷ trees)

-- The tokens of the trees, in order, spell the text.
pub record Trees (text : List ℕ) (trees : List Sexp) : Type 0 where
  pub tokens : List Token
  pub spelled : SpelledBy text tokens
  pub bracketed : Bracketed tokens trees
