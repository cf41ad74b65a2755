-- The nesting of tokens against the relation of tokens and trees.
use Rattle.std.proofs.Common.{◌≡◌, ℕ, Bool, true, List, [], ◌∷◌, ◌++◌, map, Ok, refl, ap, sym, ◌∙◌, subst, append_assoc, append-nil}
use Rattle.std.specs.Prelude.{Result}
use Rattle.std.proofs.lemmas.Bool.{false≢true}
use Rattle.up_text.specs.declared.place.Place.{Place}
use Rattle.pddl_lex.specs.declared.tree.Token.{Token}
use Rattle.pddl_lex.specs.declared.tree.TokenKind.{TokenKind}
use Rattle.pddl_lex.specs.declared.tree.TokenKind.TheVariants.{Open, Close}
use Rattle.pddl_lex.specs.declared.tree.Sexp.{Sexp, Leaf, Group}
use Rattle.pddl_lex.specs.declared.nest.OpenGroup.{OpenGroup}
use Rattle.pddl_lex.specs.declared.nest.Nest.{Nest}
use Rattle.pddl_lex.specs.declared.error.LexError.{LexError}
use Rattle.pddl_lex.specs.Items.{Item}
use Rattle.pddl_lex.specs.Faults.{is_never_deep}
use Rattle.pddl_lex.specs.Brackets.{is_leaf, opening, closing, Bracketed, nothing, leaf, group}
use Rattle.pddl_lex.specs.Nesting.{nested, by_kind, with_leaf, after}

leaf_kind : (deep : ℕ → Bool) (nest : Nest) (token : Token) (kind : TokenKind) → is_leaf kind ≡ true → by_kind deep nest token kind ≡ Ok (with_leaf nest token)
leaf_kind deep nest token Open is = absurd (false≢true is)
leaf_kind deep nest token Close is = absurd (false≢true is)
leaf_kind deep nest token _ is = refl

map_append : (one two : List Token) → map {A = Token} {B = Item} Ok (one ++ two) ≡ map Ok one ++ map Ok two
map_append [] two = refl
map_append (token ∷ one) two = ap (λ (items : List Item). Ok token ∷ items) (map_append one two)

same_nest : (groups : List OpenGroup) (one two : List Sexp) → one ≡ two → ◌≡◌ {A = Nest} (record { groups = groups; members = one }) (record { groups = groups; members = two })
same_nest groups one two is = rw is refl

-- the tokens of trees add these trees
pub nested_trees : (tokens : List Token) (trees : List Sexp) → Bracketed tokens trees
    → (items : List Item) (groups : List OpenGroup) (members : List Sexp)
    → nested is_never_deep (map Ok tokens ++ items) (record { groups = groups; members = members })
    ≡ nested is_never_deep items (record { groups = groups; members = members ++ trees })
nested_trees _ _ nothing items groups members = ap (nested is_never_deep items) (same_nest groups members (members ++ []) (sym (append-nil members)))
nested_trees _ _ (leaf token rest trees is b) items groups members =
    ap (λ (r : Result Nest LexError). after r (nested is_never_deep (map Ok rest ++ items)))
    (leaf_kind is_never_deep (record { groups = groups; members = members }) token token.kind is)
    ∙ nested_trees rest trees b items groups (members ++ Leaf token ∷ [])
    ∙ ap (nested is_never_deep items) (same_nest groups _ _ (append_assoc members (Leaf token ∷ []) trees))
nested_trees _ _ (group place end inner rest inside trees b c) items groups members =
    let more : List Item = Ok (closing end) ∷ (map Ok rest ++ items) in
    let parts : map Ok (inner ++ closing end ∷ rest) ++ items ≡ map Ok inner ++ more =
    ap (λ (all : List Item). all ++ items) (map_append inner (closing end ∷ rest)) ∙ append_assoc (map Ok inner) (Ok (closing end) ∷ map Ok rest) items in
    let outer : List OpenGroup = record { place = place; before = members } ∷ groups in
    ap (λ (all : List Item). nested is_never_deep all (record { groups = outer; members = [] })) parts
    ∙ nested_trees inner inside b more outer []
    ∙ nested_trees rest trees c items groups (members ++ Group place inside ∷ [])
    ∙ ap (nested is_never_deep items) (same_nest groups _ _ (append_assoc members (Group place inside ∷ []) trees))

-- the trees of two rows of tokens
pub trees_append : (one : List Token) (xs : List Sexp) → Bracketed one xs → (two : List Token) (ys : List Sexp) → Bracketed two ys → Bracketed (one ++ two) (xs ++ ys)
trees_append _ _ nothing two ys b = b
trees_append _ _ (leaf token rest trees is a) two ys b = leaf token (rest ++ two) (trees ++ ys) is (trees_append rest trees a two ys b)
trees_append _ _ (group place end inner rest members trees a c) two ys b =
    rw (append_assoc inner (closing end ∷ rest) two) (group place end inner (rest ++ two) members (trees ++ ys) a (trees_append rest trees c two ys b))

-- the tokens so far are those of the open groups, each behind the trees before it, and of the trees inside the innermost
pub data Opened : List Token → List OpenGroup → List Sexp → Type 0 where
  outside : (tokens : List Token) (members : List Sexp) → Bracketed tokens members → Opened tokens [] members
  inside : (tokens : List Token) (groups : List OpenGroup) (before : List Sexp) (place : Place) (inner : List Token) (members : List Sexp)
      → Opened tokens groups before → Bracketed inner members
      → Opened (tokens ++ opening place ∷ inner) (record { place = place; before = before } ∷ groups) members

pub opened_more : (tokens : List Token) (groups : List OpenGroup) (members : List Sexp) → Opened tokens groups members
    → (more : List Token) (trees : List Sexp) → Bracketed more trees → Opened (tokens ++ more) groups (members ++ trees)
opened_more _ _ _ (outside tokens members a) more trees b = outside (tokens ++ more) (members ++ trees) (trees_append tokens members a more trees b)
opened_more _ _ _ (inside tokens groups before place inner members o a) more trees b =
    rw (append_assoc tokens (opening place ∷ inner) more)
    (inside tokens groups before place (inner ++ more) (members ++ trees) o (trees_append inner members a more trees b))

-- the innermost group closes
pub opened_closed : (tokens : List Token) (groups : List OpenGroup) (members : List Sexp) → Opened tokens groups members
    → (first : OpenGroup) (outer : List OpenGroup) → groups ≡ first ∷ outer → (end : Place)
    → Opened (tokens ++ closing end ∷ []) outer (first.before ++ Group first.place members ∷ [])
opened_closed _ _ _ (outside tokens members a) first outer is end = absurd cc
opened_closed _ _ _ (inside tokens groups before place inner members o a) first outer is end =
    let same : record { place = place; before = before } ≡ first = cc in
    let rest : groups ≡ outer = cc in
    let whole : Opened (tokens ++ (opening place ∷ (inner ++ closing end ∷ []))) groups (before ++ Group place members ∷ []) =
    opened_more tokens groups before o _ _ (group place end inner [] members [] a nothing) in
    let at : Opened ((tokens ++ opening place ∷ inner) ++ closing end ∷ []) groups (before ++ Group place members ∷ []) =
    rw (append_assoc tokens (opening place ∷ inner) (closing end ∷ [])) whole in
    subst (λ (g : OpenGroup). Opened ((tokens ++ opening place ∷ inner) ++ closing end ∷ []) outer (g.before ++ Group g.place members ∷ [])) same
    (subst (λ (gs : List OpenGroup). Opened ((tokens ++ opening place ∷ inner) ++ closing end ∷ []) gs (before ++ Group place members ∷ [])) rest at)
