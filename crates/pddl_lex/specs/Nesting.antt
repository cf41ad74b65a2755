-- The trees that tokens make, from token to token.
use Rattle.std.specs.Prelude.{ℕ, suc, Bool, List, [], ◌∷◌, ◌++◌, length, reverse, Option, Some, None, Result, Ok, Err, if◌then◌else◌}
use Rattle.up_text.specs.declared.place.Place.{Place}
use Rattle.pddl_lex.specs.declared.tree.Token.{Token}
use Rattle.pddl_lex.specs.declared.tree.TokenKind.{TokenKind}
use Rattle.pddl_lex.specs.declared.tree.TokenKind.TheVariants.{Open, Close}
use Rattle.pddl_lex.specs.declared.tree.Sexp.{Sexp, Leaf, Group}
use Rattle.pddl_lex.specs.declared.nest.OpenGroup.{OpenGroup}
use Rattle.pddl_lex.specs.declared.nest.Nest.{Nest}
use Rattle.pddl_lex.specs.declared.error.LexError.{LexError}
use Rattle.pddl_lex.specs.declared.error.LexError.TheVariants.{Unopened, TooDeep, Unclosed}
use Rattle.pddl_lex.specs.Items.{Item}

-- the open brackets with the innermost first
abbrev pub seen : Nest → Nest
seen nest = record { groups = reverse nest.groups; members = nest.members }

abbrev pub seen_result : Result Nest LexError → Result Nest LexError
seen_result (Ok nest) = Ok (seen nest)
seen_result (Err fault) = Err fault

-- no bracket is open and no tree stands there
abbrev pub empty_nest : Nest
empty_nest = record { groups = []; members = [] }

abbrev pub opened : (ℕ → Bool) → Nest → Place → Result Nest LexError
opened deep nest place =
    if deep (suc (length nest.groups)) then Err (TooDeep place)
    else Ok (record { groups = record { place = place; before = nest.members } ∷ nest.groups; members = [] })

abbrev pub closed : List OpenGroup → List Sexp → Place → Result Nest LexError
closed [] members place = Err (Unopened place)
closed (group ∷ outer) members place = Ok (record { groups = outer; members = group.before ++ Group group.place members ∷ [] })

abbrev pub with_leaf : Nest → Token → Nest
with_leaf nest token = record { groups = nest.groups; members = nest.members ++ Leaf token ∷ [] }

abbrev pub by_kind : (ℕ → Bool) → Nest → Token → TokenKind → Result Nest LexError
by_kind deep nest token Open = opened deep nest token.place
by_kind deep nest token Close = closed nest.groups nest.members token.place
by_kind deep nest token _ = Ok (with_leaf nest token)

-- one token more, where `deep` tells the levels at which no bracket may open
abbrev pub with_token : (ℕ → Bool) → Nest → Token → Result Nest LexError
with_token deep nest token = by_kind deep nest token token.kind

-- the same, where there is a token
abbrev pub with_found : (ℕ → Bool) → Nest → Option Token → Result Nest LexError
with_found deep nest None = Ok nest
with_found deep nest (Some token) = with_token deep nest token

abbrev pub ended : List OpenGroup → List Sexp → Result (List Sexp) LexError
ended [] members = Ok members
ended (group ∷ outer) members = Err (Unclosed group.place)

abbrev pub after : Result Nest LexError → (Nest → Result (List Sexp) LexError) → Result (List Sexp) LexError
after (Ok nest) go = go nest
after (Err fault) go = Err fault

-- the trees of items behind those of a nest, or the first fault
abbrev pub nested : (ℕ → Bool) → List Item → Nest → Result (List Sexp) LexError
nested deep [] nest = ended nest.groups nest.members
nested deep (Err fault ∷ items) nest = Err fault
nested deep (Ok token ∷ items) nest = after (with_token deep nest token) (nested deep items)
