-- The faults of a text's bytes and brackets, in text order.
use Rattle.std.specs.Prelude.{ℕ, suc, Bool, false, nat_lt, List, [], ◌∷◌, length, Option, Some, None, Ok, Err, if◌then◌else◌}
use Rattle.up_text.specs.declared.place.Place.{Place}
use Rattle.pddl_lex.specs.declared.tree.TokenKind.{TokenKind}
use Rattle.pddl_lex.specs.declared.tree.TokenKind.TheVariants.{Open, Close}
use Rattle.pddl_lex.specs.declared.error.LexError.{LexError}
use Rattle.pddl_lex.specs.declared.error.LexError.TheVariants.{Unopened, TooDeep, Unclosed}
use Rattle.pddl_lex.specs.Items.{Item, items, errors}

-- the faults at a bracket inside those opened at these places, and what `go` finds behind it
abbrev pub at_kind : (ℕ → Bool) → TokenKind → Place → List Place → (List Place → List LexError) → List LexError
at_kind deep Open place outer go = if deep (suc (length outer)) then TooDeep place ∷ go (place ∷ outer) else go (place ∷ outer)
at_kind deep Close place [] go = Unopened place ∷ go []
at_kind deep Close place (opened ∷ outer) go = go outer
at_kind deep _ place outer go = go outer

-- the faults of items inside the brackets opened at these places, the innermost first
abbrev pub faults_inside : (ℕ → Bool) → List Item → List Place → List LexError
faults_inside deep [] [] = []
faults_inside deep [] (place ∷ outer) = Unclosed place ∷ []
faults_inside deep (Err fault ∷ items) outer = fault ∷ faults_inside deep items outer
faults_inside deep (Ok token ∷ items) outer = at_kind deep token.kind token.place outer (faults_inside deep items)

abbrev pub is_never_deep : ℕ → Bool
is_never_deep level = false

-- a level at which no bracket may open
abbrev pub is_too_deep : ℕ → Bool
is_too_deep level = nat_lt 200 level

-- the bytes and numbers that are no tokens
abbrev pub byte_faults : List ℕ → List LexError
byte_faults text = errors (items text)

-- these, and the brackets without their partner
abbrev pub faults : List ℕ → List LexError
faults text = faults_inside is_never_deep (items text) []

-- these, and the brackets that open too deep
abbrev pub faults_to_depth : List ℕ → List LexError
faults_to_depth text = faults_inside is_too_deep (items text) []

abbrev pub first_of : List LexError → Option LexError
first_of [] = None
first_of (fault ∷ faults) = Some fault
