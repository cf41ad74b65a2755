-- The trees and the abstract syntax of the effects of an action.
use Rattle.std.proofs.Common.{◌≡◌, Bool, List, [], ◌∷◌, ◌++◌, map, refl, sym, ap, ◌∙◌}
use Rattle.std.specs.Prelude.{codes, flat_map}
use Rattle.up_text.specs.declared.place.Place.{Place}
use Rattle.up_text.specs.Names.{IsName}
use Rattle.up_text.specs.Lists.{Every}
use Rattle.up_tree.specs.declared.term.Typed.{Typed}
use Rattle.up_tree.specs.declared.action.Row.{Row}
use Rattle.up_tree.specs.declared.problem.Parts.{Parts}
use Rattle.up_tree.specs.WellFormed.{AreVariables, IsRow}
use Rattle.pddl_lex.specs.declared.tree.Token.{Token}
use Rattle.pddl_lex.specs.declared.tree.TokenKind.{TokenKind}
use Rattle.pddl_lex.specs.declared.tree.TokenKind.TheVariants as kind
use Rattle.pddl_lex.specs.declared.tree.Sexp.{Sexp, Group}
use Rattle.pddl_lex.specs.Parses.{parsed, rejected, all, over_two, followed}
use Rattle.pddl_parse.specs.declared.raw.RawGroup.{RawGroup}
use Rattle.pddl_parse.specs.declared.raw.RawEffect as raw
use Rattle.pddl_parse.specs.declared.raw.RawEffect.{RawEffect}
use Rattle.pddl_parse.specs.declared.raw.RawFormula as form
use Rattle.pddl_parse.specs.declared.raw.RawFormula.{RawFormula}
use Rattle.pddl_parse.specs.Shapes.{Read}
use Rattle.pddl_parse.specs.TypedLists.{variables}
use Rattle.pddl_parse.specs.Formulas as formulas
use Rattle.pddl_parse.specs.Effects as parse
use Rattle.pddl_parse.specs.Forms as forms
use Rattle.pddl_parse.proofs.Nodes.{formula-Group, head_of-Leaf, effect-Group, effect_head-Leaf}
use Rattle.pddl_parse.proofs.Read.{formula_read}
use Rattle.roundtrip_tokens.specs.Tokens.{group, variables_tokens}
use Rattle.roundtrip_tokens.specs.EffectTokens.{for_each_tokens, effect_tokens, under_tokens, effect_row_tokens}
use Rattle.roundtrip_tokens.proofs.Named.{every-append}
use Rattle.roundtrip_shapes.specs.Raw.{AreRawGroups, IsEmpty, empty, IsFirst, first}
use Rattle.roundtrip_shapes.specs.RawEffects.{IsRawEach, for_each, IsRawEffect, IsRawUnder, IsRawForEach, IsRawRow, AreRawRows, IsRawAll, all_of}
use Rattle.roundtrip_shapes.proofs.Trees.{kinds_of, Formed, Rowed, none_rowed, first_rowed, Pair, pair, Bracket, bracket, pair_rowed}
use Rattle.roundtrip_shapes.specs.Formed.{AllNamed}
use Rattle.roundtrip_shapes.proofs.Names.{AreNamed}
use Rattle.roundtrip_shapes.proofs.Groups.{SpellGroups, spell_groups}
use Rattle.roundtrip_shapes.proofs.Formulas.{worded, list_formed}
use Rattle.roundtrip_shapes.proofs.Effects.{SpellsEffect, spells_effect, effect_formed, under_formed}

-- ---- variable lists are read as what they spell, since those of quantifiers are

groups_in : RawFormula → List RawGroup
groups_in (form.Exists' groups n row) = groups
groups_in f = []

value_of : RawFormula → Read RawFormula → RawFormula
value_of f (parsed g) = g
value_of f (rejected fault others) = f

only : (v : Read (List RawGroup)) (f : RawFormula) (groups : List RawGroup)
    → followed (over_two (λ gs g. form.Exists gs g) v (parsed f)) [] ≡ parsed (form.Exists groups f) → v ≡ parsed groups
unfolding groups_in value_of
only (parsed gs) f groups is = ap (λ (w : Read RawFormula). parsed (groups_in (value_of f w))) is
only (rejected fault others) f groups is = absurd cc

pub variables_read : (there : Place) (trees : List Sexp) (groups : List RawGroup) → forms.AreTyped trees groups → variables (Group there trees) ≡ parsed groups
variables_read there trees groups are =
    let body : Sexp = Group there (forms.leaf (kind.Word (codes "and")) there ∷ []) in
    let body_is : forms.IsFormula (Group there (forms.leaf (kind.Word (codes "and")) there ∷ [])) (form.And []) = forms.of_and there there [] [] forms.no_formulas in
    let whole : formulas.formula (Group there (forms.leaf (kind.Word (codes "exists")) there ∷ Group there trees ∷ body ∷ [])) ≡ parsed (form.Exists groups (form.And [])) =
    formula_read _ _ (forms.of_exists there there there trees groups body (form.And []) are body_is) in
    let steps : formulas.formula (Group there (forms.leaf (kind.Word (codes "exists")) there ∷ Group there trees ∷ body ∷ []))
    ≡ followed (over_two (λ gs g. form.Exists gs g) (variables (Group there trees)) (parsed (form.And []))) [] =
    rw (formula-Group there (forms.leaf (kind.Word (codes "exists")) there ∷ Group there trees ∷ body ∷ []), head_of-Leaf, formula_read body (form.And []) body_is) refl in
    only (variables (Group there trees)) (form.And []) groups (sym steps ∙ whole)

each_made : (typed : Bool) (vars : List Typed) (E : RawEffect → Type 0) (place there : Place) (rest : List Sexp) → Pair (Bracket (SpellGroups typed vars)) (SpellsEffect E) rest
    → SpellsEffect (IsRawEach (AreRawGroups typed vars) E) (Group place (forms.leaf (kind.Word (codes "forall")) there ∷ rest))
each_made typed vars E place there _ (pair _ two (bracket at_vars trees (spell_groups groups are raws)) (spells_effect e is so)) =
    spells_effect (raw.Forall groups e)
    (rw (effect-Group place (forms.leaf (kind.Word (codes "forall")) there ∷ Group at_vars trees ∷ two ∷ []), effect_head-Leaf, variables_read at_vars trees groups are, is) refl)
    (for_each groups e raws so)

-- trees that are read as effects of which this is so
pub data SpellEffects (P : List RawEffect → Type 0) (trees : List Sexp) : Type 0 where
  spell_effects : (es : List RawEffect) → all (map parse.effect trees) ≡ parsed es → P es → SpellEffects P trees

more_effects : (P : RawEffect → Type 0) (Q : List RawEffect → Type 0) (tree : Sexp) (trees : List Sexp) → SpellsEffect P tree → SpellEffects Q trees → SpellEffects (IsFirst P Q) (tree ∷ trees)
more_effects P Q tree trees (spells_effect e is so) (spell_effects es are all_so) = spell_effects (e ∷ es) (rw (is, are) refl) (first e es so all_so)

all_made : (Es : List RawEffect → Type 0) (place there : Place) (rest : List Sexp) → SpellEffects Es rest → SpellsEffect (IsRawAll Es) (Group place (forms.leaf (kind.Word (codes "and")) there ∷ rest))
all_made Es place there rest (spell_effects es are so) =
    spells_effect (raw.And es) (rw (effect-Group place (forms.leaf (kind.Word (codes "and")) there ∷ rest), effect_head-Leaf, are) refl) (all_of es so)

module _ (p : Parts) (names : AreNamed p) (objects : List Typed) (objects_named : AllNamed objects) (typed : Bool) where
  for_each_formed : (scope vars : List Typed) → AreVariables p scope vars → (E : RawEffect → Type 0) (ks : List TokenKind)
      → ((back : List Token) → kinds_of back ≡ ks → Formed back (SpellsEffect E))
      → (tokens : List Token) → kinds_of tokens ≡ for_each_tokens typed vars ks → Formed tokens (SpellsEffect (IsRawForEach typed vars E))
  for_each_formed scope [] are E ks inner tokens kinds = inner tokens kinds
  for_each_formed scope (v ∷ vars) are E ks inner tokens kinds =
      worded (codes "forall") (group (variables_tokens typed (v ∷ vars)) ++ ks) (Pair (Bracket (SpellGroups typed (v ∷ vars))) (SpellsEffect E))
      (pair_rowed (Bracket (SpellGroups typed (v ∷ vars))) (SpellsEffect E) (group (variables_tokens typed (v ∷ vars))) ks
      (list_formed p names objects objects_named typed scope (v ∷ vars) are) inner)
      (SpellsEffect (IsRawForEach typed (v ∷ vars) E)) (each_made typed (v ∷ vars) E) tokens kinds

  module _ (scope : List Typed) (vs : AllNamed scope) where
    row_formed : (r : Row) → IsRow p objects scope r → (tokens : List Token) → kinds_of tokens ≡ effect_row_tokens typed r → Formed tokens (SpellsEffect (IsRawRow typed r))
    row_formed r is tokens kinds =
        let inner : AllNamed (r.vars ++ scope) = every-append (λ v. IsName v.name) r.vars scope is.vars.names_all vs in
        for_each_formed scope r.vars is.vars (IsRawUnder typed r.when (IsRawEffect r.effect)) (under_tokens typed r.when (effect_tokens r.effect))
        (under_formed p names objects objects_named (r.vars ++ scope) inner typed r.when is.when (IsRawEffect r.effect) (effect_tokens r.effect)
        (effect_formed p names objects objects_named (r.vars ++ scope) inner r.effect is.effect))
        tokens kinds

    rows_rowed : (rows : List Row) → Every (IsRow p objects scope) rows
        → (tokens : List Token) → kinds_of tokens ≡ flat_map (effect_row_tokens typed) rows → Rowed tokens (SpellEffects (AreRawRows typed rows))
    rows_rowed [] are tokens kinds = none_rowed tokens kinds (SpellEffects IsEmpty) (spell_effects [] refl empty)
    rows_rowed (r ∷ rows) are tokens kinds =
        first_rowed tokens (effect_row_tokens typed r) (flat_map (effect_row_tokens typed) rows) kinds (SpellsEffect (IsRawRow typed r)) (SpellEffects (AreRawRows typed rows))
        (row_formed r are.0) (rows_rowed rows are.1) (SpellEffects (AreRawRows typed (r ∷ rows))) (more_effects (IsRawRow typed r) (AreRawRows typed rows))

    -- the effect of an action
    pub all_formed : (rows : List Row) → Every (IsRow p objects scope) rows
        → (tokens : List Token) → kinds_of tokens ≡ group (kind.Word (codes "and") ∷ flat_map (effect_row_tokens typed) rows) → Formed tokens (SpellsEffect (IsRawAll (AreRawRows typed rows)))
    all_formed rows are =
        worded (codes "and") (flat_map (effect_row_tokens typed) rows) (SpellEffects (AreRawRows typed rows)) (rows_rowed rows are)
        (SpellsEffect (IsRawAll (AreRawRows typed rows))) (all_made (AreRawRows typed rows))
