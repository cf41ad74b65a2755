-- What is counted.
use Rattle.std.specs.Prelude.{◌≡◌, ℕ, List, length, Option, Some, None, codes, if◌then◌else◌}
use Rattle.std.specs.Str.{bytes_eq}
use Rattle.pddl_lex.specs.declared.tree.Token.{Token}
use Rattle.pddl_lex.specs.declared.tree.Sexp.{Sexp}
use Rattle.pddl_lex.specs.Spells.{SpelledBy}
use Rattle.pddl_lex.specs.Brackets.{Trees}
use Rattle.bench_lex.specs.declared.What.{What}
use Rattle.bench_lex.specs.declared.What.TheVariants.{Tokens, Brackets}

-- this many tokens spell the text
abbrev pub HasTokens : List ℕ → ℕ → Type 0
HasTokens text n = (tokens : List Token) × SpelledBy text tokens × (length tokens ≡ n)

-- the tokens of this many trees spell the text
abbrev pub HasTrees : List ℕ → ℕ → Type 0
HasTrees text n = (trees : List Sexp) × Trees text trees × (length trees ≡ n)

abbrev pub Has : What → List ℕ → ℕ → Type 0
Has Tokens text n = HasTokens text n
Has Brackets text n = HasTrees text n

abbrev pub what_of : List ℕ → Option What
what_of word =
    if bytes_eq word (codes "tokens") then Some Tokens else
    (if bytes_eq word (codes "brackets") then Some Brackets else None)
