-- What the nesting of a text's tokens gives: its trees, or its first fault.
use Rattle.std.proofs.Common.{◌≡◌, ℕ, suc, Bool, true, false, List, [], ◌∷◌, ◌++◌, length, map, Ok, Err, refl, ap, sym, ◌∙◌, subst, append_assoc, append-nil}
use Rattle.std.specs.Prelude.{Option, Some, None, Result, if◌then◌else◌, IfOk, IfErr, OnOk}
use Rattle.up_text.specs.declared.place.Place.{Place}
use Rattle.pddl_lex.specs.declared.tree.Token.{Token}
use Rattle.pddl_lex.specs.declared.tree.TokenKind.{TokenKind}
use Rattle.pddl_lex.specs.declared.tree.TokenKind.TheVariants.{Open, Close}
use Rattle.pddl_lex.specs.declared.tree.Sexp.{Sexp, Leaf}
use Rattle.pddl_lex.specs.declared.nest.OpenGroup.{OpenGroup}
use Rattle.pddl_lex.specs.declared.nest.Nest.{Nest}
use Rattle.pddl_lex.specs.declared.error.LexError.{LexError}
use Rattle.pddl_lex.specs.declared.error.LexError.TheVariants.{Memory, TooDeep}
use Rattle.pddl_lex.specs.Items.{Item, items}
use Rattle.pddl_lex.specs.Faults.{faults, faults_to_depth, faults_inside, at_kind, is_never_deep, is_too_deep, first_of}
use Rattle.pddl_lex.specs.Brackets.{Trees, is_leaf, opening, closing, Bracketed, nothing, leaf}
use Rattle.pddl_lex.specs.Nesting.{nested, by_kind, after, empty_nest}
use Rattle.pddl_lex.proofs.Bracketing.{Opened, outside, inside, opened_more, opened_closed, nested_trees}
use Rattle.pddl_lex.proofs.Spelling.{stands_whole}
use Rattle.pddl_lex.proofs.Reading.{read_whole}

abbrev nest_of : List OpenGroup → List Sexp → Nest
nest_of groups members = record { groups = groups; members = members }

abbrev token_of : TokenKind → Place → Token
token_of kind place = record { kind = kind; place = place }

after_ok : (r : Result Nest LexError) (go : Nest → Result (List Sexp) LexError) (trees : List Sexp) → after r go ≡ Ok trees → (nest : Nest) × (go nest ≡ Ok trees)
after_ok (Ok nest) go trees is = (nest, is)
after_ok (Err fault) go trees is = absurd cc

-- where trees are read no item is a fault
nested_tokens : (deep : ℕ → Bool) (all : List Item) (nest : Nest) (trees : List Sexp) → nested deep all nest ≡ Ok trees → (tokens : List Token) × (all ≡ map Ok tokens)
nested_tokens deep [] nest trees is = ([], refl)
nested_tokens deep (Err fault ∷ all) nest trees is = absurd cc
nested_tokens deep (Ok token ∷ all) nest trees is =
    let (later, rest) = after_ok (by_kind deep nest token token.kind) (nested deep all) trees is in
    let (tokens, same) = nested_tokens deep all later trees rest in
    (token ∷ tokens, ap (λ (items : List Item). Ok token ∷ items) same)

outside_all : (tokens : List Token) (groups : List OpenGroup) (members : List Sexp) → Opened tokens groups members → groups ≡ [] → Bracketed tokens members
outside_all _ _ _ (outside tokens members b) is = b
outside_all _ _ _ (inside tokens groups before place inner members o b) is = absurd cc

-- one token more, of this kind
kind_bracketed : (deep : ℕ → Bool) (token : Token) (tokens so_far : List Token) (groups : List OpenGroup) (members trees : List Sexp)
    → Opened so_far groups members
    → ((later : List Token) (gs : List OpenGroup) (ms : List Sexp) → Opened later gs ms → nested deep (map Ok tokens) (nest_of gs ms) ≡ Ok trees → Bracketed (later ++ tokens) trees)
    → (kind : TokenKind) → token.kind ≡ kind → after (by_kind deep (nest_of groups members) token kind) (nested deep (map Ok tokens)) ≡ Ok trees
    → Bracketed (so_far ++ token ∷ tokens) trees
kind_bracketed deep token tokens so_far groups members trees o go Open is read =
    let same : token ≡ opening token.place = ap (λ (k : TokenKind). token_of k token.place) is in
    let next : Opened (so_far ++ opening token.place ∷ []) (record { place = token.place; before = members } ∷ groups) [] = inside so_far groups members token.place [] [] o nothing in
    let by_depth : (b : Bool) → after (if b then Err (TooDeep token.place) else Ok (nest_of (record { place = token.place; before = members } ∷ groups) [])) (nested deep (map Ok tokens)) ≡ Ok trees
    → Bracketed (so_far ++ opening token.place ∷ tokens) trees = elim [
      | true ↦ λ r. absurd cc
      | false ↦ λ r. subst (λ (ts : List Token). Bracketed ts trees) (append_assoc so_far (opening token.place ∷ []) tokens) (go _ _ _ next r)
    ] in
    subst (λ (t : Token). Bracketed (so_far ++ t ∷ tokens) trees) (sym same) (by_depth (deep (suc (length groups))) read)
kind_bracketed deep token tokens so_far [] members trees o go Close is read = absurd cc
kind_bracketed deep token tokens so_far (first ∷ outer) members trees o go Close is read =
    let same : token ≡ closing token.place = ap (λ (k : TokenKind). token_of k token.place) is in
    subst (λ (t : Token). Bracketed (so_far ++ t ∷ tokens) trees) (sym same)
    (subst (λ (ts : List Token). Bracketed ts trees) (append_assoc so_far (closing token.place ∷ []) tokens)
    (go _ outer _ (opened_closed so_far (first ∷ outer) members o first outer refl token.place) read))
kind_bracketed deep token tokens so_far groups members trees o go kind is read =
    let next : Opened (so_far ++ token ∷ []) groups (members ++ Leaf token ∷ []) =
    opened_more so_far groups members o (token ∷ []) (Leaf token ∷ []) (leaf token [] [] (ap is_leaf is) nothing) in
    subst (λ (ts : List Token). Bracketed ts trees) (append_assoc so_far (token ∷ []) tokens) (go _ groups _ next read)

-- the trees that are read are those of the tokens
bracketed_on : (deep : ℕ → Bool) (tokens so_far : List Token) (groups : List OpenGroup) (members trees : List Sexp)
    → Opened so_far groups members → nested deep (map Ok tokens) (nest_of groups members) ≡ Ok trees → Bracketed (so_far ++ tokens) trees
bracketed_on deep [] so_far [] members trees o read =
    let same : members ≡ trees = cc in
    subst (λ (ts : List Token). Bracketed ts trees) (sym (append-nil so_far)) (subst (λ (xs : List Sexp). Bracketed so_far xs) same (outside_all so_far [] members o refl))
bracketed_on deep [] so_far (first ∷ outer) members trees o read = absurd cc
bracketed_on deep (token ∷ tokens) so_far groups members trees o read =
    kind_bracketed deep token tokens so_far groups members trees o (λ later gs ms o' read'. bracketed_on deep tokens later gs ms trees o' read') token.kind refl read

-- the error of a result
abbrev error_of : Result (List Sexp) LexError → Option LexError
error_of (Ok trees) = None
error_of (Err fault) = Some fault

abbrev places : List OpenGroup → List Place
places [] = []
places (first ∷ groups) = first.place ∷ places groups

length_places : (groups : List OpenGroup) → length (places groups) ≡ length groups
length_places [] = refl
length_places (first ∷ groups) = ap suc (length_places groups)

kind_faults : (deep : ℕ → Bool) (token : Token) (groups : List OpenGroup) (members : List Sexp)
    (go : List Place → List LexError) (on : Nest → Result (List Sexp) LexError)
    → ((gs : List OpenGroup) (ms : List Sexp) → first_of (go (places gs)) ≡ error_of (on (nest_of gs ms)))
    → (kind : TokenKind) → first_of (at_kind deep kind token.place (places groups) go) ≡ error_of (after (by_kind deep (nest_of groups members) token kind) on)
kind_faults deep token groups members go on same Open =
    let next : OpenGroup = record { place = token.place; before = members } in
    let by_depth : (b : Bool) → first_of (if b then TooDeep token.place ∷ go (token.place ∷ places groups) else go (token.place ∷ places groups))
    ≡ error_of (after (if b then Err (TooDeep token.place) else Ok (nest_of (next ∷ groups) [])) on) = elim [ true ↦ refl | false ↦ same (next ∷ groups) [] ] in
    rw (length_places groups) (by_depth (deep (suc (length groups))))
kind_faults deep token [] members go on same Close = refl
kind_faults deep token (first ∷ outer) members go on same Close = same outer _
kind_faults deep token groups members go on same kind = same groups _

-- the first fault of the list is the one that is read
nested_fault : (deep : ℕ → Bool) (all : List Item) (groups : List OpenGroup) (members : List Sexp)
    → first_of (faults_inside deep all (places groups)) ≡ error_of (nested deep all (nest_of groups members))
nested_fault deep [] [] members = refl
nested_fault deep [] (first ∷ outer) members = refl
nested_fault deep (Err fault ∷ all) groups members = refl
nested_fault deep (Ok token ∷ all) groups members =
    kind_faults deep token groups members (faults_inside deep all) (nested deep all) (λ gs ms. nested_fault deep all gs ms) token.kind

none_first : (all : List LexError) → first_of all ≡ None → all ≡ []
none_first [] is = refl
none_first (fault ∷ all) is = absurd cc

no_error : (r : Result (List Sexp) LexError) → error_of r ≡ None → (trees : List Sexp) × (r ≡ Ok trees)
no_error (Ok trees) is = (trees, refl)
no_error (Err fault) is = absurd cc

read_bracketed : (deep : ℕ → Bool) (text : List ℕ) (trees : List Sexp) → nested deep (items text) empty_nest ≡ Ok trees → Trees text trees
read_bracketed deep text trees read =
    let (tokens, same) = nested_tokens deep (items text) empty_nest trees read in
    record {
      tokens = tokens;
      spelled = read_whole text tokens same;
      bracketed = bracketed_on deep tokens [] [] [] trees (outside [] [] nothing) (ap (λ (all : List Item). nested deep all empty_nest) (sym same) ∙ read);
    }

trees_read : (text : List ℕ) (trees : List Sexp) → Trees text trees → nested is_never_deep (items text) empty_nest ≡ Ok trees
trees_read text trees t =
    ap (λ (all : List Item). nested is_never_deep all empty_nest) (stands_whole text (map Ok t.tokens) t.spelled ∙ sym (append-nil (map Ok t.tokens)))
    ∙ nested_trees t.tokens trees t.bracketed [] [] []

pub trees_faultless : (text : List ℕ) (trees : List Sexp) → Trees text trees → faults text ≡ []
trees_faultless text trees t = none_first _ (nested_fault is_never_deep (items text) [] [] ∙ ap error_of (trees_read text trees t))

pub faultless_trees : (text : List ℕ) → faults text ≡ [] → (trees : List Sexp) × Trees text trees
faultless_trees text none =
    let (trees, read) = no_error (nested is_never_deep (items text) empty_nest) (sym (nested_fault is_never_deep (items text) [] []) ∙ ap first_of none) in
    (trees, read_bracketed is_never_deep text trees read)

pub trees_one : (text : List ℕ) (trees others : List Sexp) → Trees text trees → Trees text others → trees ≡ others
trees_one text trees others t u = let same = sym (trees_read text trees t) ∙ trees_read text others u in cc

-- no fault to the greatest depth is no fault at all
pub depth_faultless : (text : List ℕ) → faults_to_depth text ≡ [] → faults text ≡ []
depth_faultless text none =
    let (trees, read) = no_error (nested is_too_deep (items text) empty_nest) (sym (nested_fault is_too_deep (items text) [] []) ∙ ap first_of none) in
    trees_faultless text trees (read_bracketed is_too_deep text trees read)

module _ (text : List ℕ) where
  pub read_trees : (r : Result (List Sexp) LexError) → (¬ (r ≡ Err Memory) → r ≡ nested is_too_deep (items text) empty_nest) → IfOk r (Trees text)
  read_trees (Ok trees) is = read_bracketed is_too_deep text trees (sym (is (λ (e : _). absurd cc)))
  read_trees (Err fault) is = tt

  pub read_depth : (r : Result (List Sexp) LexError) → (¬ (r ≡ Err Memory) → r ≡ nested is_too_deep (items text) empty_nest) → OnOk r (faults_to_depth text ≡ [])
  read_depth (Ok trees) is = none_first _ (nested_fault is_too_deep (items text) [] [] ∙ ap error_of (sym (is (λ (e : _). absurd cc))))
  read_depth (Err fault) is = tt

  pub read_fault : (r : Result (List Sexp) LexError) → (¬ (r ≡ Err Memory) → r ≡ nested is_too_deep (items text) empty_nest)
      → IfErr r (λ fault. ¬ (fault ≡ Memory) → first_of (faults_to_depth text) ≡ Some fault)
  read_fault (Ok trees) is = tt
  read_fault (Err fault) is = λ other. nested_fault is_too_deep (items text) [] [] ∙ ap error_of (sym (is (λ (e : _). other cc)))
