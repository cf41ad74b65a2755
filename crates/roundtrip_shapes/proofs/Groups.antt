-- The trees and the abstract syntax of written variable lists.
use Rattle.std.proofs.Common.{◌≡◌, Bool, true, false, List, [], ◌∷◌, refl}
use Rattle.std.specs.Prelude.{Some, None, ◌≢◌}
use Rattle.up_text.specs.Names.{IsName}
use Rattle.up_text.specs.Lists.{Every}
use Rattle.up_tree.specs.declared.term.Typed.{Typed}
use Rattle.pddl_lex.specs.declared.tree.Sign.TheVariants as sign
use Rattle.pddl_lex.specs.declared.tree.Token.{Token}
use Rattle.pddl_lex.specs.declared.tree.TokenKind.TheVariants as kind
use Rattle.pddl_lex.specs.declared.tree.Sexp.{Sexp}
use Rattle.pddl_parse.specs.declared.raw.Ident.{Ident}
use Rattle.pddl_parse.specs.declared.raw.RawGroup.{RawGroup}
use Rattle.pddl_parse.specs.Forms as forms
use Rattle.pddl_parse.specs.Forms.{ident_at, AreVariables, AreTyped}
use Rattle.roundtrip_tokens.specs.Tokens.{variables_tokens}
use Rattle.roundtrip_shapes.specs.Raw.{at, AreRawNames, no_names, more_names, AreRawGroups, no_groups, more_groups, one_group}
use Rattle.roundtrip_shapes.proofs.Trees.{kinds_of, Rowed, none_rowed, rowed_as, Led, led, led_rowed}
use Rattle.roundtrip_shapes.specs.Formed.{AllNamed}
use Rattle.roundtrip_shapes.proofs.Names.{word_is, variable_is}

-- trees that spell the names of these variables
data SpellNames (vars : List Typed) (trees : List Sexp) : Type 0 where
  spell_names : (names : List Ident) → AreVariables trees names → AreRawNames vars names → SpellNames vars trees

-- trees that spell these variables
pub data SpellGroups (typed : Bool) (vars : List Typed) (trees : List Sexp) : Type 0 where
  spell_groups : (groups : List RawGroup) → AreTyped trees groups → AreRawGroups typed vars groups → SpellGroups typed vars trees

names_rowed : (vars : List Typed) → AllNamed vars → (tokens : List Token) → kinds_of tokens ≡ variables_tokens false vars → Rowed tokens (SpellNames vars)
names_rowed [] all tokens kinds = none_rowed tokens kinds (SpellNames []) (spell_names [] forms.no_variables no_names)
names_rowed (v ∷ vars) all tokens kinds =
    rowed_as (led_rowed (kind.Variable v.name) refl (variables_tokens false vars) (SpellNames vars) (names_rowed vars all.1) tokens kinds) more
  where
    more : (trees : List Sexp) → Led (kind.Variable v.name) (SpellNames vars) trees → SpellNames (v ∷ vars) trees
    more _ (led place rest (spell_names names are raw)) =
        spell_names (ident_at v.name place ∷ names)
        (forms.more_variables (forms.leaf (kind.Variable v.name) place) (ident_at v.name place) rest names (variable_is v.name all.0 place) are)
        (more_names v vars (ident_at v.name place) names (at place) raw)

some_names : (v : Typed) (vars : List Typed) (names : List Ident) → AreRawNames (v ∷ vars) names → names ≢ []
some_names v vars _ (more_names _ _ ident idents is are) = λ e. cc

untyped_rowed : (vars : List Typed) → AllNamed vars → (tokens : List Token) → kinds_of tokens ≡ variables_tokens false vars → Rowed tokens (SpellGroups false vars)
untyped_rowed [] all tokens kinds = none_rowed tokens kinds (SpellGroups false []) (spell_groups [] forms.no_groups (no_groups false))
untyped_rowed (v ∷ vars) all tokens kinds = rowed_as (names_rowed (v ∷ vars) all tokens kinds) whole
  where
    whole : (trees : List Sexp) → SpellNames (v ∷ vars) trees → SpellGroups false (v ∷ vars) trees
    whole trees (spell_names names are raw) =
        spell_groups (record { names = names; of = None } ∷ []) (forms.untyped trees names (some_names v vars names raw) are) (one_group v vars names raw)

typed_rowed : (vars : List Typed) → AllNamed vars → Every (λ v. IsName v.of) vars → (tokens : List Token) → kinds_of tokens ≡ variables_tokens true vars → Rowed tokens (SpellGroups true vars)
typed_rowed [] all types tokens kinds = none_rowed tokens kinds (SpellGroups true []) (spell_groups [] forms.no_groups (no_groups true))
typed_rowed (v ∷ vars) all types tokens kinds =
    rowed_as
    (led_rowed (kind.Variable v.name) refl (kind.Sign sign.Minus ∷ kind.Word v.of ∷ variables_tokens true vars)
    (Led (kind.Sign sign.Minus) (Led (kind.Word v.of) (SpellGroups true vars)))
    (led_rowed (kind.Sign sign.Minus) refl (kind.Word v.of ∷ variables_tokens true vars) (Led (kind.Word v.of) (SpellGroups true vars))
    (led_rowed (kind.Word v.of) refl (variables_tokens true vars) (SpellGroups true vars) (typed_rowed vars all.1 types.1)))
    tokens kinds)
    more
  where
    more : (trees : List Sexp) → Led (kind.Variable v.name) (Led (kind.Sign sign.Minus) (Led (kind.Word v.of) (SpellGroups true vars))) trees → SpellGroups true (v ∷ vars) trees
    more _ (led place _ (led dash _ (led there rest (spell_groups groups are raw)))) =
        spell_groups (record { names = ident_at v.name place ∷ []; of = Some (ident_at v.of there) } ∷ groups)
        (forms.typed (forms.leaf (kind.Variable v.name) place ∷ []) (ident_at v.name place ∷ []) dash (forms.leaf (kind.Word v.of) there) (ident_at v.of there) rest groups (λ e. cc)
        (forms.more_variables (forms.leaf (kind.Variable v.name) place) (ident_at v.name place) [] [] (variable_is v.name all.0 place) forms.no_variables)
        (word_is v.of types.0 there) are)
        (more_groups v vars (ident_at v.name place) (ident_at v.of there) groups (at place) (at there) raw)

pub groups_rowed : (typed : Bool) (vars : List Typed) → AllNamed vars → Every (λ v. IsName v.of) vars
    → (tokens : List Token) → kinds_of tokens ≡ variables_tokens typed vars → Rowed tokens (SpellGroups typed vars)
groups_rowed true vars all types tokens kinds = typed_rowed vars all types tokens kinds
groups_rowed false vars all types tokens kinds = untyped_rowed vars all tokens kinds
