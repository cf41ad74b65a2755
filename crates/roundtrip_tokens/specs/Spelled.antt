-- Texts that are spelled by tokens of certain kinds.
use Rattle.std.specs.Prelude.{◌≡◌, ℕ, List, map}
use Rattle.pddl_lex.specs.declared.tree.Token.{Token}
use Rattle.pddl_lex.specs.declared.tree.TokenKind.{TokenKind}
use Rattle.pddl_lex.specs.Spells.{SpelledBy}

-- the tokens are of these kinds, in order
abbrev pub AreOfKinds : List Token → List TokenKind → Type 0
AreOfKinds tokens kinds = map (λ t. t.kind) tokens ≡ kinds

-- tokens of these kinds, in order, spell the text
pub record SpelledByKinds (text : List ℕ) (kinds : List TokenKind) : Type 0 where
  pub tokens : List Token
  pub spelled : SpelledBy text tokens
  pub kinds_are : AreOfKinds tokens kinds
