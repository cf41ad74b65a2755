-- The numbers of bracket trees are literals.
use Rattle.std.proofs.Common.{ℕ, List, ◌∷◌, subst, sym}
use Rattle.up_text.specs.declared.place.Place.{Place}
use Rattle.up_text.specs.Lists.{Every}
use Rattle.pddl_lex.specs.declared.tree.Token.{Token}
use Rattle.pddl_lex.specs.declared.tree.Sexp.{Sexp, Leaf, Group, Row_of-Sexp, end_of-Sexp, more_of-Sexp, items-the_row-Sexp, items_hidden-the_row-Sexp-0}
use Rattle.pddl_lex.specs.declared.tree.Sexp.TheBlock.{hidden-the_row-Sexp-0}
use Rattle.pddl_lex.specs.Brackets.{closing, Bracketed, nothing, leaf, group, Trees}
use Rattle.wellformed_texts.specs.Literals.{IsLiteralToken, HasLiteralLeaves, HaveLiteralLeaves}
use Rattle.wellformed_texts.proofs.Numbers.{tokens_literal}
use Rattle.wellformed_phrases.proofs.Widening.{every_back, every_front}

-- ---- the leaves of a tree

pub leaf_literal : (token : Token) → IsLiteralToken token → HasLiteralLeaves (Leaf token)
unfolding HasLiteralLeaves
leaf_literal token is = is

pub literal_leaf : (token : Token) → HasLiteralLeaves (Leaf token) → IsLiteralToken token
unfolding HasLiteralLeaves
literal_leaf token is = is

row_of_every : {n : _} (row : Row_of-Sexp n) → Every HasLiteralLeaves (items-the_row-Sexp _ row) → HaveLiteralLeaves row
unfolding HaveLiteralLeaves
row_of_every end_of-Sexp every = tt
row_of_every (more_of-Sexp tree row) every = (every.0, row_of_every row every.1)

pub every_of_row : {n : _} (row : Row_of-Sexp n) → HaveLiteralLeaves row → Every HasLiteralLeaves (items-the_row-Sexp _ row)
unfolding HaveLiteralLeaves
every_of_row end_of-Sexp have = tt
every_of_row (more_of-Sexp tree row) have = (have.0, every_of_row row have.1)

pub group_literal : (place : Place) (trees : List Sexp) → Every HasLiteralLeaves trees → HasLiteralLeaves (Group place trees)
unfolding HasLiteralLeaves
group_literal place trees every =
    row_of_every (hidden-the_row-Sexp-0 trees) (subst (λ (xs : List Sexp). Every HasLiteralLeaves xs) (sym (items_hidden-the_row-Sexp-0 trees)) every)

pub literal_group : (place : Place) (trees : List Sexp) → HasLiteralLeaves (Group place trees) → Every HasLiteralLeaves trees
unfolding HasLiteralLeaves
literal_group place trees has =
    subst (λ (xs : List Sexp). Every HasLiteralLeaves xs) (items_hidden-the_row-Sexp-0 trees) (every_of_row (hidden-the_row-Sexp-0 trees) has)

-- ---- the trees of tokens

pub bracketed_literal : (tokens : List Token) (trees : List Sexp) → Bracketed tokens trees → Every IsLiteralToken tokens → Every HasLiteralLeaves trees
bracketed_literal _ _ nothing every = tt
bracketed_literal _ _ (leaf token rest trees is b) every = (leaf_literal token every.0, bracketed_literal rest trees b every.1)
bracketed_literal _ _ (group place end inner rest members trees b c) every =
    let behind : Every IsLiteralToken (closing end ∷ rest) = every_back IsLiteralToken inner (closing end ∷ rest) every.1 in
    let inside : Every HasLiteralLeaves members = bracketed_literal inner members b (every_front IsLiteralToken inner (closing end ∷ rest) every.1) in
    (group_literal place members inside, bracketed_literal rest trees c behind.1)

pub trees_literal : (text : List ℕ) (trees : List Sexp) → Trees text trees → Every HasLiteralLeaves trees
trees_literal text trees are = bracketed_literal are.tokens trees are.bracketed (tokens_literal text are.tokens are.spelled)
