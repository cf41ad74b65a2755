-- The trees and the abstract syntax of written conditions.
use Rattle.std.proofs.Common.{◌≡◌, ℕ, Bool, List, [], ◌∷◌, ◌++◌, refl}
use Rattle.std.specs.Prelude.{codes, flat_map}
use Rattle.up_text.specs.declared.name.Name.{Name}
use Rattle.up_text.specs.declared.place.Place.{Place}
use Rattle.up_text.specs.Names.{IsName}
use Rattle.up_tree.specs.declared.term.Typed.{Typed}
use Rattle.up_tree.specs.declared.formula.Relation.{Relation}
use Rattle.up_tree.specs.declared.formula.Relation.TheVariants as relation
use Rattle.up_tree.specs.declared.formula.Formula.{Formula, And', Or', Atom, Equal, Compare, Row_of-Formula, end_of-Formula, more_of-Formula}
use Rattle.up_tree.specs.declared.problem.Predicate.{Predicate}
use Rattle.up_tree.specs.declared.problem.Parts.{Parts}
use Rattle.up_tree.specs.Nodes.{not, imply, exists, forall}
use Rattle.up_tree.specs.Objects.{predicate_named}
use Rattle.up_tree.specs.WellFormed as tree
use Rattle.up_tree.specs.WellFormed.{AreFormulas, AreVariables, IsType, TermsFit}
use Rattle.pddl_lex.specs.declared.tree.Sign.{Sign}
use Rattle.pddl_lex.specs.declared.tree.Sign.TheVariants as sign
use Rattle.pddl_lex.specs.declared.tree.Token.{Token}
use Rattle.pddl_lex.specs.declared.tree.TokenKind.{TokenKind}
use Rattle.pddl_lex.specs.declared.tree.TokenKind.TheVariants as kind
use Rattle.pddl_lex.specs.declared.tree.Sexp.{Sexp, Group}
use Rattle.pddl_parse.specs.declared.raw.Relation.{Relation as RawRelation}
use Rattle.pddl_parse.specs.declared.raw.Relation.TheVariants as raw_relation
use Rattle.pddl_parse.specs.declared.raw.RawTerm.{RawTerm}
use Rattle.pddl_parse.specs.declared.raw.RawFormula as form
use Rattle.pddl_parse.specs.declared.raw.RawFormula.{RawFormula}
use Rattle.pddl_parse.specs.Forms as forms
use Rattle.pddl_parse.specs.Forms.{IsRelation, IsFormula}
use Rattle.roundtrip_tokens.specs.Tokens.{group, variables_tokens, term_tokens, expr_tokens, sign_of, formula_tokens, members_tokens}
use Rattle.roundtrip_tokens.proofs.Named.{found_and, and_some, every-append, every-each}
use Rattle.roundtrip_shapes.specs.Raw.{AreRawGroups, IsEmpty, empty, IsFirst, first, IsRawTerm, AreRawTerms, IsRawExpr, IsRawAtom, an_atom, IsRawCompare, a_compare, IsRawAnd, an_and, IsRawOr, an_or, IsRawNot, a_not, IsRawImply, an_imply, IsRawExists, an_exists, IsRawForall, a_forall, raw_relation as relation_as, IsRawFormula, AreRawMembers}
use Rattle.roundtrip_shapes.proofs.Trees.{kinds_of, Formed, Rowed, group_formed, none_rowed, first_rowed, Led, led, Alone, alone, Pair, pair, Bracket, bracket, led_rowed, alone_rowed, pair_rowed, bracket_formed}
use Rattle.roundtrip_shapes.specs.Formed.{AllNamed}
use Rattle.roundtrip_shapes.proofs.Names.{found_named, AreNamed, type_named}
use Rattle.roundtrip_shapes.proofs.Terms.{SpellsTerm, spells, SpellTerms, spell, spells_name, IsCallRow, call_row, call_rowed, term_formed, terms_formed, expr_formed}
use Rattle.roundtrip_shapes.proofs.Groups.{SpellGroups, spell_groups, groups_rowed}

-- a tree that spells a condition of which this is so
pub data SpellsFormula (P : RawFormula → Type 0) (tree : Sexp) : Type 0 where
  spells_formula : (f : RawFormula) → IsFormula tree f → P f → SpellsFormula P tree

-- trees that spell conditions of which this is so
pub data SpellFormulas (P : List RawFormula → Type 0) (trees : List Sexp) : Type 0 where
  spell_formulas : (fs : List RawFormula) → forms.AreFormulas trees fs → P fs → SpellFormulas P trees

-- a word in front of trees of which this is so, in brackets
pub worded : (word : List ℕ) (ks : List TokenKind) (Q : List Sexp → Type 0) → ((back : List Token) → kinds_of back ≡ ks → Rowed back Q)
    → (P : Sexp → Type 0) → ((place there : Place) (rest : List Sexp) → Q rest → P (Group place (forms.leaf (kind.Word word) there ∷ rest)))
    → (tokens : List Token) → kinds_of tokens ≡ group (kind.Word word ∷ ks) → Formed tokens P
worded word ks Q more P each tokens kinds =
    group_formed tokens (kind.Word word ∷ ks) kinds (Led (kind.Word word) Q) (led_rowed (kind.Word word) refl ks Q more) P made
  where
    made : (place : Place) (trees : List Sexp) → Led (kind.Word word) Q trees → P (Group place trees)
    made place _ (led there rest so) = each place there rest so

compared : (s : Sign) (r : RawRelation) → IsRelation s r → (A B : RawTerm → Type 0) (ks ls : List TokenKind)
    → ((front : List Token) → kinds_of front ≡ ks → Formed front (SpellsTerm A)) → ((back : List Token) → kinds_of back ≡ ls → Formed back (SpellsTerm B))
    → (tokens : List Token) → kinds_of tokens ≡ group (kind.Sign s ∷ (ks ++ ls)) → Formed tokens (SpellsFormula (IsRawCompare r A B))
compared s r marks A B ks ls one two tokens kinds =
    group_formed tokens (kind.Sign s ∷ (ks ++ ls)) kinds (Led (kind.Sign s) (Pair (SpellsTerm A) (SpellsTerm B)))
    (led_rowed (kind.Sign s) refl (ks ++ ls) (Pair (SpellsTerm A) (SpellsTerm B)) (pair_rowed (SpellsTerm A) (SpellsTerm B) ks ls one two))
    (SpellsFormula (IsRawCompare r A B)) made
  where
    made : (place : Place) (trees : List Sexp) → Led (kind.Sign s) (Pair (SpellsTerm A) (SpellsTerm B)) trees → SpellsFormula (IsRawCompare r A B) (Group place trees)
    made place _ (led there _ (pair one two (spells a is_a so_a) (spells b is_b so_b))) =
        spells_formula (form.Compare place r a b) (forms.a_comparison place there s r one two a b marks is_a is_b) (a_compare place a b so_a so_b)

relation_is : (r : Relation) → IsRelation (sign_of r) (relation_as r)
relation_is relation.Less = forms.less
relation_is relation.LessEqual = forms.less_equal
relation_is relation.Same = forms.same
relation_is relation.GreaterEqual = forms.greater_equal
relation_is relation.Greater = forms.greater

atom_formed : (name : Name) → IsName name → (P : List RawTerm → Type 0) (ks : List TokenKind)
    → ((back : List Token) → kinds_of back ≡ ks → Rowed back (SpellTerms P))
    → (tokens : List Token) → kinds_of tokens ≡ group (kind.Word name ∷ ks) → Formed tokens (SpellsFormula (IsRawAtom name P))
atom_formed name is P ks more tokens kinds =
    group_formed tokens (kind.Word name ∷ ks) kinds (IsCallRow name P) (call_rowed name is P ks more) (SpellsFormula (IsRawAtom name P)) made
  where
    made : (place : Place) (trees : List Sexp) → IsCallRow name P trees → SpellsFormula (IsRawAtom name P) (Group place trees)
    made place _ (call_row head rest (spells_name ident is named) (spell ts are so)) =
        spells_formula (form.Atom place ident ts) (forms.an_atom place head ident rest ts is are) (an_atom place ident ts named so)

-- one condition more
more_formulas : (P : RawFormula → Type 0) (Q : List RawFormula → Type 0) (ks ls : List TokenKind)
    → ((front : List Token) → kinds_of front ≡ ks → Formed front (SpellsFormula P)) → ((back : List Token) → kinds_of back ≡ ls → Rowed back (SpellFormulas Q))
    → (tokens : List Token) → kinds_of tokens ≡ ks ++ ls → Rowed tokens (SpellFormulas (IsFirst P Q))
more_formulas P Q ks ls one more tokens kinds =
    first_rowed tokens ks ls kinds (SpellsFormula P) (SpellFormulas Q) one more (SpellFormulas (IsFirst P Q)) joined
  where
    joined : (tree : Sexp) (trees : List Sexp) → SpellsFormula P tree → SpellFormulas Q trees → SpellFormulas (IsFirst P Q) (tree ∷ trees)
    joined tree trees (spells_formula f is so) (spell_formulas fs are all_so) = spell_formulas (f ∷ fs) (forms.more_formulas tree f trees fs is are) (first f fs so all_so)

-- ---- each form

module _ (place there : Place) where
  and_made : (Fs : List RawFormula → Type 0) (rest : List Sexp) → SpellFormulas Fs rest → SpellsFormula (IsRawAnd Fs) (Group place (forms.leaf (kind.Word (codes "and")) there ∷ rest))
  and_made Fs rest (spell_formulas fs are so) = spells_formula (form.And fs) (forms.of_and place there rest fs are) (an_and fs so)

  or_made : (Fs : List RawFormula → Type 0) (rest : List Sexp) → SpellFormulas Fs rest → SpellsFormula (IsRawOr Fs) (Group place (forms.leaf (kind.Word (codes "or")) there ∷ rest))
  or_made Fs rest (spell_formulas fs are so) = spells_formula (form.Or fs) (forms.of_or place there rest fs are) (an_or fs so)

  not_made : (F : RawFormula → Type 0) (rest : List Sexp) → Alone (SpellsFormula F) rest → SpellsFormula (IsRawNot F) (Group place (forms.leaf (kind.Word (codes "not")) there ∷ rest))
  not_made F _ (alone tree (spells_formula f is so)) = spells_formula (form.Not f) (forms.of_not place there tree f is) (a_not f so)

  imply_made : (F G : RawFormula → Type 0) (rest : List Sexp) → Pair (SpellsFormula F) (SpellsFormula G) rest
      → SpellsFormula (IsRawImply F G) (Group place (forms.leaf (kind.Word (codes "imply")) there ∷ rest))
  imply_made F G _ (pair one two (spells_formula f is_f so_f) (spells_formula g is_g so_g)) =
      spells_formula (form.Imply f g) (forms.of_imply place there one two f g is_f is_g) (an_imply f g so_f so_g)

  exists_made : (typed : Bool) (vars : List Typed) (F : RawFormula → Type 0) (rest : List Sexp) → Pair (Bracket (SpellGroups typed vars)) (SpellsFormula F) rest
      → SpellsFormula (IsRawExists (AreRawGroups typed vars) F) (Group place (forms.leaf (kind.Word (codes "exists")) there ∷ rest))
  exists_made typed vars F _ (pair _ two (bracket at_vars trees (spell_groups groups are raws)) (spells_formula f is so)) =
      spells_formula (form.Exists groups f) (forms.of_exists place there at_vars trees groups two f are is) (an_exists groups f raws so)

  forall_made : (typed : Bool) (vars : List Typed) (F : RawFormula → Type 0) (rest : List Sexp) → Pair (Bracket (SpellGroups typed vars)) (SpellsFormula F) rest
      → SpellsFormula (IsRawForall (AreRawGroups typed vars) F) (Group place (forms.leaf (kind.Word (codes "forall")) there ∷ rest))
  forall_made typed vars F _ (pair _ two (bracket at_vars trees (spell_groups groups are raws)) (spells_formula f is so)) =
      spells_formula (form.Forall groups f) (forms.of_forall place there at_vars trees groups two f are is) (a_forall groups f raws so)

module _ (p : Parts) (names : AreNamed p) (objects : List Typed) (objects_named : AllNamed objects) (typed : Bool) where
  pub list_formed : (scope vars : List Typed) → AreVariables p scope vars → (tokens : List Token) → kinds_of tokens ≡ group (variables_tokens typed vars)
      → Formed tokens (Bracket (SpellGroups typed vars))
  list_formed scope vars are =
      bracket_formed (variables_tokens typed vars) (SpellGroups typed vars)
      (groups_rowed typed vars are.names_all (every-each (λ v. IsType p v.of) (λ v. IsName v.of) (λ v is. type_named p names v.of is) vars are.typed))

  mutual
    unfolding tree.IsFormula AreFormulas formula_tokens members_tokens IsRawFormula AreRawMembers

    pub formula_formed : (scope : List Typed) → AllNamed scope → (f : Formula) → tree.IsFormula p objects scope f
        → (tokens : List Token) → kinds_of tokens ≡ formula_tokens typed f → Formed tokens (SpellsFormula (IsRawFormula typed f))
    formula_formed scope vs (And' n fs) is tokens kinds =
        worded (codes "and") (members_tokens typed fs) (SpellFormulas (λ raws. AreRawMembers typed fs raws)) (members_formed scope vs fs is)
        (SpellsFormula (IsRawFormula typed (And' n fs))) (λ place there. and_made place there (λ raws. AreRawMembers typed fs raws)) tokens kinds
    formula_formed scope vs (Or' n fs) is tokens kinds =
        worded (codes "or") (members_tokens typed fs) (SpellFormulas (λ raws. AreRawMembers typed fs raws)) (members_formed scope vs fs is)
        (SpellsFormula (IsRawFormula typed (Or' n fs))) (λ place there. or_made place there (λ raws. AreRawMembers typed fs raws)) tokens kinds
    formula_formed scope vs (not f) is tokens kinds =
        worded (codes "not") (formula_tokens typed f) (Alone (SpellsFormula (λ x. IsRawFormula typed f x))) (λ back there. alone_rowed (formula_formed scope vs f is back there))
        (SpellsFormula (IsRawFormula typed (not f))) (λ place there. not_made place there (λ x. IsRawFormula typed f x)) tokens kinds
    formula_formed scope vs (imply f g) is tokens kinds =
        worded (codes "imply") (formula_tokens typed f ++ formula_tokens typed g) (Pair (SpellsFormula (λ x. IsRawFormula typed f x)) (SpellsFormula (λ y. IsRawFormula typed g y)))
        (pair_rowed (SpellsFormula (λ x. IsRawFormula typed f x)) (SpellsFormula (λ y. IsRawFormula typed g y)) (formula_tokens typed f) (formula_tokens typed g)
        (formula_formed scope vs f is.0) (formula_formed scope vs g is.1))
        (SpellsFormula (IsRawFormula typed (imply f g))) (λ place there. imply_made place there (λ x. IsRawFormula typed f x) (λ y. IsRawFormula typed g y)) tokens kinds
    formula_formed scope vs (exists vars f) is tokens kinds =
        let inner : AllNamed (vars ++ scope) = every-append (λ v. IsName v.name) vars scope is.0.names_all vs in
        worded (codes "exists") (group (variables_tokens typed vars) ++ formula_tokens typed f) (Pair (Bracket (SpellGroups typed vars)) (SpellsFormula (λ x. IsRawFormula typed f x)))
        (pair_rowed (Bracket (SpellGroups typed vars)) (SpellsFormula (λ x. IsRawFormula typed f x)) (group (variables_tokens typed vars)) (formula_tokens typed f)
        (list_formed scope vars is.0) (formula_formed (vars ++ scope) inner f is.1))
        (SpellsFormula (IsRawFormula typed (exists vars f))) (λ place there. exists_made place there typed vars (λ x. IsRawFormula typed f x)) tokens kinds
    formula_formed scope vs (forall vars f) is tokens kinds =
        let inner : AllNamed (vars ++ scope) = every-append (λ v. IsName v.name) vars scope is.0.names_all vs in
        worded (codes "forall") (group (variables_tokens typed vars) ++ formula_tokens typed f) (Pair (Bracket (SpellGroups typed vars)) (SpellsFormula (λ x. IsRawFormula typed f x)))
        (pair_rowed (Bracket (SpellGroups typed vars)) (SpellsFormula (λ x. IsRawFormula typed f x)) (group (variables_tokens typed vars)) (formula_tokens typed f)
        (list_formed scope vars is.0) (formula_formed (vars ++ scope) inner f is.1))
        (SpellsFormula (IsRawFormula typed (forall vars f))) (λ place there. forall_made place there typed vars (λ x. IsRawFormula typed f x)) tokens kinds
    formula_formed scope vs (Atom name ts) is tokens kinds =
        let Fits : Predicate → Type 0 = λ d. TermsFit p objects scope ts d.args in
        let (d, here, known) = found_and Fits (predicate_named p name) is in
        atom_formed name (found_named (λ e. e.name) p.predicates name names.predicates (and_some Fits (predicate_named p name) is))
        (AreRawTerms ts) (flat_map term_tokens ts) (terms_formed p names objects objects_named scope vs ts d.args known) tokens kinds
    formula_formed scope vs (Equal t u) is tokens kinds =
        compared sign.Same raw_relation.Same forms.same (IsRawTerm t) (IsRawTerm u) (term_tokens t) (term_tokens u)
        (term_formed p names objects objects_named scope vs t is.0) (term_formed p names objects objects_named scope vs u is.1) tokens kinds
    formula_formed scope vs (Compare r a b) is tokens kinds =
        compared (sign_of r) (relation_as r) (relation_is r) (IsRawExpr a) (IsRawExpr b) (expr_tokens a) (expr_tokens b)
        (expr_formed p names objects objects_named scope vs a is.0) (expr_formed p names objects objects_named scope vs b is.1) tokens kinds

    members_formed : (scope : List Typed) → AllNamed scope → {n : _} (fs : Row_of-Formula n) → AreFormulas p objects scope fs
        → (tokens : List Token) → kinds_of tokens ≡ members_tokens typed fs → Rowed tokens (SpellFormulas (λ raws. AreRawMembers typed fs raws))
    members_formed scope vs end_of-Formula is tokens kinds = none_rowed tokens kinds (SpellFormulas IsEmpty) (spell_formulas [] forms.no_formulas empty)
    members_formed scope vs (more_of-Formula f fs) is tokens kinds =
        more_formulas (λ x. IsRawFormula typed f x) (λ rest. AreRawMembers typed fs rest) (formula_tokens typed f) (members_tokens typed fs)
        (formula_formed scope vs f is.0) (members_formed scope vs fs is.1) tokens kinds
