-- Tokens spell a text where nothing in it is at fault.
use Rattle.std.proofs.Common.{◌≡◌, ℕ, List, [], ◌∷◌, map, Ok, Err, refl, ap, sym, ◌∙◌}
use Rattle.pddl_lex.specs.declared.tree.Token.{Token}
use Rattle.pddl_lex.specs.Items.{Item, items, errors}
use Rattle.pddl_lex.specs.Faults.{byte_faults}
use Rattle.pddl_lex.specs.Spells.{SpelledBy}
use Rattle.pddl_lex.proofs.Spelling.{stands_whole}
use Rattle.pddl_lex.proofs.Reading.{read_whole}

tokens_err_not : (tokens : List Token) → errors (map Ok tokens) ≡ []
tokens_err_not [] = refl
tokens_err_not (token ∷ tokens) = tokens_err_not tokens

pub all_tokens : (all : List Item) → errors all ≡ [] → (tokens : List Token) × (all ≡ map Ok tokens)
all_tokens [] is = ([], refl)
all_tokens (Ok token ∷ all) is = let (tokens, rest) = all_tokens all is in (token ∷ tokens, ap (λ items. Ok token ∷ items) rest)
all_tokens (Err fault ∷ all) is = absurd cc

same_tokens : (tokens others : List Token) → map {A = Token} {B = Item} Ok tokens ≡ map Ok others → tokens ≡ others
same_tokens [] [] is = refl
same_tokens [] (other ∷ others) is = absurd cc
same_tokens (token ∷ tokens) [] is = absurd cc
same_tokens (token ∷ tokens) (other ∷ others) is =
    let first : token ≡ other = cc in
    let rest : tokens ≡ others = same_tokens tokens others cc in
    cc

pub spelled_faultless : (text : List ℕ) (tokens : List Token) → SpelledBy text tokens → byte_faults text ≡ []
spelled_faultless text tokens spells = rw (stands_whole text (map Ok tokens) spells) (tokens_err_not tokens)

pub faultless_spelled : (text : List ℕ) → byte_faults text ≡ [] → (tokens : List Token) × SpelledBy text tokens
faultless_spelled text none = let (tokens, is) = all_tokens (items text) none in (tokens, read_whole text tokens is)

pub spelled_one : (text : List ℕ) (tokens others : List Token) → SpelledBy text tokens → SpelledBy text others → tokens ≡ others
spelled_one text tokens others first second = same_tokens tokens others (sym (stands_whole text (map Ok tokens) first) ∙ stands_whole text (map Ok others) second)
