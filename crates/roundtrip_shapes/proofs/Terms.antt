-- The trees and the abstract syntax of written terms and expressions.
use Rattle.std.proofs.Common.{◌≡◌, List, [], ◌∷◌, ◌++◌, refl, arith}
use Rattle.std.specs.Prelude.{flat_map, IsSome}
use Rattle.up_text.specs.declared.name.Name.{Name}
use Rattle.up_text.specs.declared.place.Place.{Place}
use Rattle.up_text.specs.Names.{IsName}
use Rattle.up_tree.specs.declared.term.Typed.{Typed}
use Rattle.up_tree.specs.declared.term.Term.{Term, Var, Object, Fluent', Row_of-Term, end_of-Term, more_of-Term}
use Rattle.up_tree.specs.declared.expr.Expr.{Expr, Number, Fluent}
use Rattle.up_tree.specs.declared.problem.Function.{Function}
use Rattle.up_tree.specs.declared.problem.Parts.{Parts}
use Rattle.up_tree.specs.Nodes.{sum, difference, product, quotient}
use Rattle.up_tree.specs.Objects.{function_named}
use Rattle.up_tree.specs.WellFormed as tree
use Rattle.up_tree.specs.WellFormed.{gives_object, GivesNumber, RowFits, TermsFit, IsNumberTerm}
use Rattle.pddl_lex.specs.declared.tree.Sign.{Sign}
use Rattle.pddl_lex.specs.declared.tree.Sign.TheVariants as sign
use Rattle.pddl_lex.specs.declared.tree.Token.{Token}
use Rattle.pddl_lex.specs.declared.tree.TokenKind.{TokenKind}
use Rattle.pddl_lex.specs.declared.tree.TokenKind.TheVariants as kind
use Rattle.pddl_lex.specs.declared.tree.Sexp.{Sexp, Leaf, Group}
use Rattle.pddl_parse.specs.declared.raw.Ident.{Ident}
use Rattle.pddl_parse.specs.declared.raw.Operator.{Operator}
use Rattle.pddl_parse.specs.declared.raw.Operator.TheVariants as operator
use Rattle.pddl_parse.specs.declared.raw.RawTerm as raw
use Rattle.pddl_parse.specs.declared.raw.RawTerm.{RawTerm}
use Rattle.pddl_parse.specs.Forms as forms
use Rattle.pddl_parse.specs.Forms.{ident_at, IsIdent, IsTerm, AreTerms, IsOperator}
use Rattle.roundtrip_tokens.specs.Tokens.{group, term_tokens, arguments_tokens, expr_tokens}
use Rattle.roundtrip_tokens.proofs.Named.{found_and, and_some}
use Rattle.roundtrip_shapes.specs.Raw.{IsRawName, at, IsEmpty, empty, IsFirst, first, a_variable, an_object, a_number, IsRawCall, a_call, IsRawArithmetic, arithmetic, IsRawTerm, AreRawArguments, AreRawTerms, IsRawExpr}
use Rattle.roundtrip_shapes.proofs.Trees.{kinds_of, Formed, Rowed, leaf_formed, group_formed, none_rowed, first_rowed, Led, led, Pair, pair, led_rowed, pair_rowed}
use Rattle.roundtrip_shapes.specs.Formed.{AllNamed}
use Rattle.roundtrip_shapes.proofs.Names.{word_is, variable_is, found_named, AreNamed}

-- a tree that spells a term of which this is so
pub data SpellsTerm (P : RawTerm → Type 0) (tree : Sexp) : Type 0 where
  spells : (t : RawTerm) → IsTerm tree t → P t → SpellsTerm P tree

-- trees that spell terms of which this is so
pub data SpellTerms (P : List RawTerm → Type 0) (trees : List Sexp) : Type 0 where
  spell : (ts : List RawTerm) → AreTerms trees ts → P ts → SpellTerms P trees

-- a tree that spells this name
pub data SpellsName (name : Name) (tree : Sexp) : Type 0 where
  spells_name : (ident : Ident) → IsIdent tree ident → IsRawName name ident → SpellsName name tree

-- a name and arguments of which this is so
pub data IsCallRow (name : Name) (P : List RawTerm → Type 0) : List Sexp → Type 0 where
  call_row : (head : Sexp) (rest : List Sexp) → SpellsName name head → SpellTerms P rest → IsCallRow name P (head ∷ rest)

pub name_formed : (name : Name) → IsName name → (tokens : List Token) → kinds_of tokens ≡ kind.Word name ∷ [] → Formed tokens (SpellsName name)
name_formed name is tokens kinds =
    leaf_formed tokens (kind.Word name) refl kinds (SpellsName name) (λ place. spells_name (ident_at name place) (word_is name is place) (at place))

pub call_rowed : (name : Name) → IsName name → (P : List RawTerm → Type 0) (ks : List TokenKind)
    → ((back : List Token) → kinds_of back ≡ ks → Rowed back (SpellTerms P))
    → (tokens : List Token) → kinds_of tokens ≡ kind.Word name ∷ ks → Rowed tokens (IsCallRow name P)
call_rowed name is P ks more tokens kinds =
    first_rowed tokens (kind.Word name ∷ []) ks kinds (SpellsName name) (SpellTerms P) (name_formed name is) more (IsCallRow name P) call_row

called : (name : Name) (P : List RawTerm → Type 0) (place : Place) (trees : List Sexp) → IsCallRow name P trees → SpellsTerm (IsRawCall name P) (Group place trees)
called name P place _ (call_row head rest (spells_name ident is named) (spell ts are so)) =
    spells (raw.Call place ident ts) (forms.a_call place head ident rest ts is are) (a_call place ident ts named so)

pub call_formed : (name : Name) → IsName name → (P : List RawTerm → Type 0) (ks : List TokenKind)
    → ((back : List Token) → kinds_of back ≡ ks → Rowed back (SpellTerms P))
    → (tokens : List Token) → kinds_of tokens ≡ group (kind.Word name ∷ ks) → Formed tokens (SpellsTerm (IsRawCall name P))
call_formed name is P ks more tokens kinds =
    group_formed tokens (kind.Word name ∷ ks) kinds (IsCallRow name P) (call_rowed name is P ks more) (SpellsTerm (IsRawCall name P)) (called name P)

no_terms : (tokens : List Token) → kinds_of tokens ≡ [] → Rowed tokens (SpellTerms IsEmpty)
no_terms tokens kinds = none_rowed tokens kinds (SpellTerms IsEmpty) (spell [] forms.no_terms empty)

-- one term more
more_terms : (P : RawTerm → Type 0) (Q : List RawTerm → Type 0) (ks ls : List TokenKind)
    → ((front : List Token) → kinds_of front ≡ ks → Formed front (SpellsTerm P)) → ((back : List Token) → kinds_of back ≡ ls → Rowed back (SpellTerms Q))
    → (tokens : List Token) → kinds_of tokens ≡ ks ++ ls → Rowed tokens (SpellTerms (IsFirst P Q))
more_terms P Q ks ls one more tokens kinds =
    first_rowed tokens ks ls kinds (SpellsTerm P) (SpellTerms Q) one more (SpellTerms (IsFirst P Q)) joined
  where
    joined : (tree : Sexp) (trees : List Sexp) → SpellsTerm P tree → SpellTerms Q trees → SpellTerms (IsFirst P Q) (tree ∷ trees)
    joined tree trees (spells t is so) (spell ts are all_so) = spell (t ∷ ts) (forms.more_terms tree t trees ts is are) (first t ts so all_so)

-- an operator and two operands
arithmetic_formed : (s : Sign) (op : Operator) → IsOperator s op 2 → (A B : RawTerm → Type 0) (ks ls : List TokenKind)
    → ((front : List Token) → kinds_of front ≡ ks → Formed front (SpellsTerm A)) → ((back : List Token) → kinds_of back ≡ ls → Formed back (SpellsTerm B))
    → (tokens : List Token) → kinds_of tokens ≡ group (kind.Sign s ∷ (ks ++ ls)) → Formed tokens (SpellsTerm (IsRawArithmetic op A B))
arithmetic_formed s op takes A B ks ls one two tokens kinds =
    group_formed tokens (kind.Sign s ∷ (ks ++ ls)) kinds (Led (kind.Sign s) (Pair (SpellsTerm A) (SpellsTerm B)))
    (led_rowed (kind.Sign s) refl (ks ++ ls) (Pair (SpellsTerm A) (SpellsTerm B)) (pair_rowed (SpellsTerm A) (SpellsTerm B) ks ls one two))
    (SpellsTerm (IsRawArithmetic op A B)) made
  where
    made : (place : Place) (trees : List Sexp) → Led (kind.Sign s) (Pair (SpellsTerm A) (SpellsTerm B)) trees → SpellsTerm (IsRawArithmetic op A B) (Group place trees)
    made place _ (led sign_at _ (pair one two (spells a is_a so_a) (spells b is_b so_b))) =
        spells (raw.Arithmetic place op (a ∷ b ∷ []))
        (forms.an_expression place sign_at s op (one ∷ two ∷ []) (a ∷ b ∷ []) takes (forms.more_terms one a (two ∷ []) (b ∷ []) is_a (forms.more_terms two b [] [] is_b forms.no_terms)))
        (arithmetic place a b so_a so_b)

module _ (p : Parts) (names : AreNamed p) (objects : List Typed) (objects_named : AllNamed objects) (scope : List Typed) (vs : AllNamed scope) where
  mutual
    unfolding tree.IsTerm RowFits term_tokens arguments_tokens IsRawTerm AreRawArguments

    pub term_formed : (t : Term) → tree.IsTerm p objects scope t → (tokens : List Token) → kinds_of tokens ≡ term_tokens t → Formed tokens (SpellsTerm (IsRawTerm t))
    term_formed (Var v) is tokens kinds =
        let named : IsName v = found_named (λ e. e.name) scope v vs is in
        leaf_formed tokens (kind.Variable v) refl kinds (SpellsTerm (IsRawTerm (Var v)))
        (λ place. spells (raw.Variable (ident_at v place)) (forms.a_variable (Leaf (record { kind = kind.Variable v; place = place })) (ident_at v place) (variable_is v named place)) (a_variable (ident_at v place) (at place)))
    term_formed (Object o) is tokens kinds =
        let named : IsName o = found_named (λ e. e.name) objects o objects_named is in
        leaf_formed tokens (kind.Word o) refl kinds (SpellsTerm (IsRawTerm (Object o)))
        (λ place. spells (raw.Name (ident_at o place)) (forms.a_name (Leaf (record { kind = kind.Word o; place = place })) (ident_at o place) (word_is o named place)) (an_object (ident_at o place) (at place)))
    term_formed (Fluent' f n ts) is tokens kinds =
        let Fits : Function → Type 0 = λ d. IsSome (gives_object d.gives) × RowFits p objects scope ts d.args in
        let (d, here, known) = found_and Fits (function_named p f) is in
        call_formed f (found_named (λ e. e.name) p.functions f names.functions (and_some Fits (function_named p f) is))
        (λ args. AreRawArguments ts args) (arguments_tokens ts) (arguments_formed ts d.args known.1) tokens kinds

    arguments_formed : {n : _} (ts : Row_of-Term n) (types : List Name) → RowFits p objects scope ts types
        → (tokens : List Token) → kinds_of tokens ≡ arguments_tokens ts → Rowed tokens (SpellTerms (λ args. AreRawArguments ts args))
    arguments_formed end_of-Term types fits tokens kinds = no_terms tokens kinds
    arguments_formed (more_of-Term t ts) [] fits tokens kinds = absurd fits
    arguments_formed (more_of-Term t ts) (of ∷ types) fits tokens kinds =
        more_terms (λ first. IsRawTerm t first) (λ rest. AreRawArguments ts rest) (term_tokens t) (arguments_tokens ts)
        (term_formed t fits.0) (arguments_formed ts types fits.2) tokens kinds

  pub terms_formed : (ts : List Term) (types : List Name) → TermsFit p objects scope ts types
      → (tokens : List Token) → kinds_of tokens ≡ flat_map term_tokens ts → Rowed tokens (SpellTerms (AreRawTerms ts))
  terms_formed [] types fits tokens kinds = no_terms tokens kinds
  terms_formed (t ∷ ts) [] fits tokens kinds = absurd fits
  terms_formed (t ∷ ts) (of ∷ types) fits tokens kinds =
      more_terms (IsRawTerm t) (AreRawTerms ts) (term_tokens t) (flat_map term_tokens ts) (term_formed t fits.0.0) (terms_formed ts types fits.1) tokens kinds

  pub expr_formed : (x : Expr) → tree.IsExpr p objects scope x → (tokens : List Token) → kinds_of tokens ≡ expr_tokens x → Formed tokens (SpellsTerm (IsRawExpr x))
  unfolding tree.IsExpr expr_tokens IsRawExpr
  expr_formed (Number n) is tokens kinds =
      leaf_formed tokens (kind.Number n) refl kinds (SpellsTerm (IsRawExpr (Number n))) (λ place. spells (raw.Number place n) (forms.a_number n place) (a_number place))
  expr_formed (Fluent f ts) is tokens kinds =
      let Fits : Function → Type 0 = λ d. GivesNumber d.gives × TermsFit p objects scope ts d.args in
      let (d, here, known) = found_and Fits (function_named p f) is in
      call_formed f (found_named (λ e. e.name) p.functions f names.functions (and_some Fits (function_named p f) is))
      (AreRawTerms ts) (flat_map term_tokens ts) (terms_formed ts d.args known.1) tokens kinds
  expr_formed (sum a b) is tokens kinds =
      arithmetic_formed sign.Plus operator.Sum (forms.sum 2 (omega arith)) (λ x. IsRawExpr a x) (λ y. IsRawExpr b y) (expr_tokens a) (expr_tokens b) (expr_formed a is.0) (expr_formed b is.1) tokens kinds
  expr_formed (difference a b) is tokens kinds =
      arithmetic_formed sign.Minus operator.Difference forms.difference (λ x. IsRawExpr a x) (λ y. IsRawExpr b y) (expr_tokens a) (expr_tokens b) (expr_formed a is.0) (expr_formed b is.1) tokens kinds
  expr_formed (product a b) is tokens kinds =
      arithmetic_formed sign.Times operator.Product (forms.product 2 (omega arith)) (λ x. IsRawExpr a x) (λ y. IsRawExpr b y) (expr_tokens a) (expr_tokens b) (expr_formed a is.0) (expr_formed b is.1) tokens kinds
  expr_formed (quotient a b) is tokens kinds =
      arithmetic_formed sign.Slash operator.Quotient forms.quotient (λ x. IsRawExpr a x) (λ y. IsRawExpr b y) (expr_tokens a) (expr_tokens b) (expr_formed a is.0) (expr_formed b is.1) tokens kinds
