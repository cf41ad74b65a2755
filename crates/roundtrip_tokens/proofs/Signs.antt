-- Signs after brackets and between names.
use Rattle.std.proofs.Common.{◌≡◌, ℕ, List, [], ◌∷◌, ◌++◌, Bool, true, false, refl}
use Rattle.std.specs.Prelude.{codes}
use Rattle.up_tree.specs.declared.formula.Relation.{Relation}
use Rattle.up_tree.specs.declared.formula.Relation.TheVariants.{Less, LessEqual, Same, GreaterEqual, Greater}
use Rattle.pddl_lex.specs.declared.tree.Sign.TheVariants as sign
use Rattle.pddl_lex.specs.declared.tree.TokenKind.TheVariants.{Open, Sign}
use Rattle.pddl_lex.specs.Next as next
use Rattle.pddl_write.specs.Phrases.{relation_text, type_text}
use Rattle.roundtrip_tokens.specs.Tokens.{sign_of, type_tokens}
use Rattle.roundtrip_tokens.proofs.Lexes.{Shut, Lexes, is_apart, behind, word, no_text}
use Rattle.roundtrip_tokens.proofs.Named.{Spelled}

pub plus : Shut (codes "(+ ") (Open ∷ Sign sign.Plus ∷ [])
unfolding next.next next.sign
plus = record { before = λ rest. refl }

pub minus : Shut (codes "(- ") (Open ∷ Sign sign.Minus ∷ [])
unfolding next.next next.sign next.minus
minus = record { before = λ rest. refl }

pub times : Shut (codes "(* ") (Open ∷ Sign sign.Times ∷ [])
unfolding next.next next.sign
times = record { before = λ rest. refl }

pub slash : Shut (codes "(/ ") (Open ∷ Sign sign.Slash ∷ [])
unfolding next.next next.sign
slash = record { before = λ rest. refl }

pub same : Shut (codes "(= ") (Open ∷ Sign sign.Same ∷ [])
unfolding next.next next.sign
same = record { before = λ rest. refl }

pub compared : (r : Relation) → Shut ((codes "(" ++ relation_text r) ++ codes " ") (Open ∷ Sign (sign_of r) ∷ [])
unfolding next.next next.sign next.sign_or
compared Less = record { before = λ rest. refl }
compared LessEqual = record { before = λ rest. refl }
compared Same = record { before = λ rest. refl }
compared GreaterEqual = record { before = λ rest. refl }
compared Greater = record { before = λ rest. refl }

dash : Shut (codes " - ") (Sign sign.Minus ∷ [])
unfolding next.next next.sign next.minus
dash = record { before = λ rest. refl }

pub of_type : (typed : Bool) (of : List ℕ) → Spelled of → Lexes (type_text typed of) (type_tokens typed of)
of_type true of is = behind dash (word of is)
of_type false of is = no_text

pub type_apart : (typed : Bool) (of : List ℕ) → is_apart (type_text typed of) ≡ true
type_apart true of = refl
type_apart false of = refl
