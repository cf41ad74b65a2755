-- Reading on behind what stands at a byte.
use Rattle.std.proofs.Common.{◌≡◌, ℕ, zero, suc, Bool, List, [], ◌∷◌, ◌++◌, take, drop, map, Ok, Err, refl, ap, sym, ◌∙◌, append_assoc, length, ◌-◌}
use Rattle.std.proofs.lemmas.List.{take_rest}
use Rattle.std.specs.Prelude.{Option, Some, None, Result}
use Rattle.up_text.specs.declared.place.Place.{Place}
use Rattle.pddl_lex.specs.declared.tree.Token.{Token}
use Rattle.pddl_lex.specs.declared.tree.Sexp.{Sexp}
use Rattle.pddl_lex.specs.declared.nest.Nest.{Nest}
use Rattle.pddl_lex.specs.declared.error.LexError.{LexError}
use Rattle.pddl_lex.specs.Items.{Item, items_from, items_at, item_of, errors}
use Rattle.pddl_lex.specs.Faults.{first_of}
use Rattle.pddl_lex.specs.Nesting.{nested, with_found, after}
use Rattle.pddl_lex.specs.Next.{next, more_of}
use Rattle.pddl_lex.specs.Places.{after_byte, after_bytes}

-- bytes that belong to what stands before are passed over
pub passed_over : (text : List ℕ) (more : ℕ) (place : Place)
    → items_from text more place ≡ items_from (drop more text) 0 (after_bytes place (take more text))
passed_over text zero place = refl
passed_over [] (suc more) place = refl
passed_over (byte ∷ behind) (suc more) place = passed_over behind more _

-- what stands at a byte, and then what stands in the rest
pub items_step : (rest behind : List ℕ) (byte more : ℕ) (place behind_byte later : Place) (found : Option Token)
    → rest ≡ byte ∷ behind → more ≡ more_of (next byte behind)
    → item_of found ≡ items_at (next byte behind) place byte behind
    → behind_byte ≡ after_byte place byte → later ≡ after_bytes behind_byte (take more behind)
    → items_from rest 0 place ≡ item_of found ++ items_from (take (length behind - more) (drop more behind)) 0 later
items_step rest behind byte more place behind_byte later found is count at step steps =
    rw (is, at, take_rest behind more, steps, step, count, passed_over behind (more_of (next byte behind)) (after_byte place byte)) refl

-- tokens stay what stands in a text from step to step
pub tokens_on : (whole here rest : List Item) (tokens more_tokens : List Token) (found : Option Token)
    → whole ≡ map Ok tokens ++ here → here ≡ item_of found ++ rest
    → map Ok more_tokens ≡ map Ok tokens ++ item_of found
    → whole ≡ map Ok more_tokens ++ rest
tokens_on whole here rest tokens more_tokens found is step added =
    is ∙ ap (λ items. map Ok tokens ++ items) step ∙ sym (append_assoc (map Ok tokens) (item_of found) rest) ∙ ap (λ items. items ++ rest) (sym added)

pub nested_found : (deep : ℕ → Bool) (found : Option Token) (rest : List Item) (nest : Nest)
    → nested deep (item_of found ++ rest) nest ≡ after (with_found deep nest found) (nested deep rest)
nested_found deep None rest nest = refl
nested_found deep (Some token) rest nest = refl

-- so do the trees
pub nest_on : (deep : ℕ → Bool) (whole : Result (List Sexp) LexError) (here rest : List Item) (nest later : Nest) (found : Option Token)
    → whole ≡ nested deep here nest → here ≡ item_of found ++ rest
    → Ok later ≡ with_found deep nest found
    → whole ≡ nested deep rest later
nest_on deep whole here rest nest later found is step added =
    is ∙ ap (λ items. nested deep items nest) step ∙ nested_found deep found rest nest ∙ ap (λ (r : Result Nest LexError). after r (nested deep rest)) (sym added)

-- a fault behind tokens is the first
pub first_behind : (tokens : List Token) (fault : LexError) (rest : List Item) → first_of (errors (map Ok tokens ++ Err fault ∷ rest)) ≡ Some fault
first_behind [] fault rest = refl
first_behind (token ∷ tokens) fault rest = first_behind tokens fault rest
