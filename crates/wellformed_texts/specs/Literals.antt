-- Tokens and bracket trees whose numbers are literals.
use Rattle.std.specs.Prelude.{⊤}
use Rattle.up_tree.specs.WellFormed.{IsLiteral}
use Rattle.pddl_lex.specs.declared.tree.Token.{Token}
use Rattle.pddl_lex.specs.declared.tree.TokenKind.{TokenKind}
use Rattle.pddl_lex.specs.declared.tree.TokenKind.TheVariants.{Number}
use Rattle.pddl_lex.specs.declared.tree.Sexp.{Sexp, Leaf, Group', Row_of-Sexp, end_of-Sexp, more_of-Sexp}

-- if it is a number, it is a literal
abbrev pub IsLiteralKind : TokenKind → Type 0
IsLiteralKind (Number n) = IsLiteral n
IsLiteralKind _ = ⊤

abbrev pub IsLiteralToken : Token → Type 0
IsLiteralToken token = IsLiteralKind token.kind

unfoldable mutual
  -- each number among the leaves of the tree is a literal
  pub HasLiteralLeaves : Sexp → Type 0
  HasLiteralLeaves (Leaf token) = IsLiteralToken token
  HasLiteralLeaves (Group' place n row) = HaveLiteralLeaves row

  pub HaveLiteralLeaves : {n : _} → Row_of-Sexp n → Type 0
  HaveLiteralLeaves end_of-Sexp = ⊤
  HaveLiteralLeaves (more_of-Sexp tree row) = HasLiteralLeaves tree × HaveLiteralLeaves row
