-- The trees and the abstract syntax of written effects.
use Rattle.std.proofs.Common.{◌≡◌, ℕ, Bool, true, false, List, [], ◌∷◌, ◌++◌, refl, ◌∙◌}
use Rattle.std.specs.Prelude.{codes, flat_map, IsSomeAnd, ⊤}
use Rattle.up_text.specs.declared.name.Name.{Name}
use Rattle.up_text.specs.declared.place.Place.{Place}
use Rattle.up_text.specs.Names.{IsName}
use Rattle.up_tree.specs.declared.term.Typed.{Typed}
use Rattle.up_tree.specs.declared.term.Term.{Term}
use Rattle.up_tree.specs.declared.formula.Formula.{Formula}
use Rattle.up_tree.specs.declared.action.Effect.{Effect}
use Rattle.up_tree.specs.declared.action.Effect.TheVariants as effect
use Rattle.up_tree.specs.declared.problem.Function.{Function}
use Rattle.up_tree.specs.declared.problem.Predicate.{Predicate}
use Rattle.up_tree.specs.declared.problem.Parts.{Parts}
use Rattle.up_tree.specs.Objects.{predicate_named, function_named}
use Rattle.up_tree.specs.Simplify.{is_true_formula}
use Rattle.up_tree.specs.WellFormed as tree
use Rattle.up_tree.specs.WellFormed.{gives_object, GivesNumber, AreVariables, TermFits, TermsFit, IsAtom, IsNumberTerm, IsEffect, IsRow}
use Rattle.pddl_lex.specs.declared.tree.Token.{Token}
use Rattle.pddl_lex.specs.declared.tree.TokenKind.{TokenKind}
use Rattle.pddl_lex.specs.declared.tree.TokenKind.TheVariants as kind
use Rattle.pddl_lex.specs.declared.tree.Sexp.{Sexp, Leaf, Group}
use Rattle.pddl_lex.specs.Parses.{parsed}
use Rattle.pddl_parse.specs.declared.raw.RawTerm.{RawTerm}
use Rattle.pddl_parse.specs.declared.raw.RawCall.{RawCall}
use Rattle.pddl_parse.specs.declared.raw.RawChange.{RawChange}
use Rattle.pddl_parse.specs.declared.raw.RawChange.TheVariants as change
use Rattle.pddl_parse.specs.declared.raw.RawEffect as raw
use Rattle.pddl_parse.specs.declared.raw.RawEffect.{RawEffect}
use Rattle.pddl_parse.specs.declared.raw.RawFormula.{RawFormula}
use Rattle.pddl_parse.specs.declared.effect.NewValue.TheVariants as new
use Rattle.pddl_parse.specs.declared.head.EffectHead.TheVariants as head
use Rattle.pddl_parse.specs.Brackets.{is_word}
use Rattle.pddl_lex.specs.Trees.{place_of}
use Rattle.pddl_parse.specs.Effects.{call, new_value, effect_word}
use Rattle.pddl_parse.specs.Effects as parse
use Rattle.pddl_parse.specs.Forms as forms
use Rattle.pddl_parse.proofs.Nodes.{bracket-Group, effect-Group, effect_head-Leaf}
use Rattle.pddl_parse.proofs.Read.{ident_read, terms_read, formula_read}
use Rattle.pddl_write.specs.Effects.{change_text}
use Rattle.roundtrip_tokens.specs.Tokens.{applied_tokens, term_tokens, expr_tokens, formula_tokens}
use Rattle.roundtrip_tokens.specs.EffectTokens.{effect_tokens, under_tokens}
use Rattle.roundtrip_tokens.proofs.Named.{found_and, and_some}
use Rattle.roundtrip_shapes.specs.Raw.{IsRawTerm, AreRawTerms, IsRawExpr, IsRawFormula}
use Rattle.roundtrip_shapes.specs.RawEffects.{raw_change, IsRawAt, at_args, IsRawAdd, an_add, IsRawDelete, a_delete, IsRawChange, a_change, IsRawUndefine, an_undefine, IsRawWhen, a_when, IsRawEffect, IsRawUnder}
use Rattle.roundtrip_shapes.proofs.Trees.{kinds_of, at, Formed, leaf_formed, group_formed, formed_as, Alone, alone, Pair, pair, alone_rowed, pair_rowed}
use Rattle.roundtrip_shapes.specs.Formed.{AllNamed}
use Rattle.roundtrip_shapes.proofs.Names.{found_named, AreNamed}
use Rattle.roundtrip_shapes.proofs.Terms.{SpellsTerm, spells, spell, spells_name, IsCallRow, call_row, call_rowed, term_formed, terms_formed, expr_formed}
use Rattle.roundtrip_shapes.proofs.Formulas.{SpellsFormula, spells_formula, worded, formula_formed}
use Rattle.grammar_shapes.proofs.EffectWords.{ident_other, value_read}
use Rattle.roundtrip_shapes.proofs.EffectWords.{change_word}

-- a tree that is read as an effect of which this is so
pub data SpellsEffect (P : RawEffect → Type 0) (tree : Sexp) : Type 0 where
  spells_effect : (e : RawEffect) → parse.effect tree ≡ parsed e → P e → SpellsEffect P tree

-- a tree that is read as a name at arguments of which this is so
data SpellsCall (P : RawCall → Type 0) (tree : Sexp) : Type 0 where
  spells_call : (c : RawCall) → call tree ≡ parsed c → P c → SpellsCall P tree

data IsUndefined : Sexp → Type 0 where
  is_undefined : (place : Place) → IsUndefined (Leaf (at (kind.Word (codes "undefined")) place))

call_made : (name : Name) (P : List RawTerm → Type 0) (place : Place) (trees : List Sexp) → IsCallRow name P trees → SpellsCall (IsRawAt name P) (Group place trees)
call_made name P place _ (call_row head rest (spells_name ident is named) (spell ts are so)) =
    spells_call (record { place = place; name = ident; args = ts })
    (rw (bracket-Group parse.in_call place (head ∷ rest), ident_read head ident is, terms_read rest ts are) refl) (at_args place ident ts named so)

add_made : (name : Name) (P : List RawTerm → Type 0) (place : Place) (trees : List Sexp) → IsCallRow name P trees → SpellsEffect (IsRawAdd (IsRawAt name P)) (Group place trees)
add_made name P place _ (call_row head rest (spells_name ident is named) (spell ts are so)) =
    spells_effect (raw.Add (record { place = place; name = ident; args = ts }))
    (rw (effect-Group place (head ∷ rest), ident_other head ident is, ident_read head ident is, terms_read rest ts are) refl)
    (an_add _ (at_args place ident ts named so))

delete_made : (C : RawCall → Type 0) (place there : Place) (rest : List Sexp) → Alone (SpellsCall C) rest → SpellsEffect (IsRawDelete C) (Group place (forms.leaf (kind.Word (codes "not")) there ∷ rest))
delete_made C place there _ (alone tree (spells_call c is so)) =
    spells_effect (raw.Delete c) (rw (effect-Group place (forms.leaf (kind.Word (codes "not")) there ∷ tree ∷ []), effect_head-Leaf, is) refl) (a_delete c so)

change_made : (word : List ℕ) (c : RawChange) → effect_word word ≡ head.Change c → (C : RawCall → Type 0) (V : RawTerm → Type 0) (place there : Place) (rest : List Sexp)
    → Pair (SpellsCall C) (SpellsTerm V) rest → SpellsEffect (IsRawChange c C V) (Group place (forms.leaf (kind.Word word) there ∷ rest))
change_made word c says C V place there _ (pair one two (spells_call target is_target so) (spells t is also)) =
    spells_effect (raw.Change c target t)
    (rw (effect-Group place (forms.leaf (kind.Word word) there ∷ one ∷ two ∷ []), effect_head-Leaf, says, is_target, value_read c two t is) refl)
    (a_change target t so also)

undefined_read : (place : Place) → new_value change.Assign (Leaf (at (kind.Word (codes "undefined")) place)) ≡ parsed (new.Undefined place)
unfolding is_word place_of
undefined_read place = refl

undefine_made : (C : RawCall → Type 0) (place there : Place) (rest : List Sexp) → Pair (SpellsCall C) IsUndefined rest
    → SpellsEffect (IsRawUndefine C) (Group place (forms.leaf (kind.Word (codes "assign")) there ∷ rest))
undefine_made C place there _ (pair one _ (spells_call target is_target so) (is_undefined last)) =
    spells_effect (raw.Undefine target last)
    (rw (effect-Group place (forms.leaf (kind.Word (codes "assign")) there ∷ one ∷ Leaf (at (kind.Word (codes "undefined")) last) ∷ []), effect_head-Leaf, is_target, undefined_read last) refl)
    (an_undefine target last so)

when_made : (F : RawFormula → Type 0) (E : RawEffect → Type 0) (place there : Place) (rest : List Sexp) → Pair (SpellsFormula F) (SpellsEffect E) rest
    → SpellsEffect (IsRawWhen F E) (Group place (forms.leaf (kind.Word (codes "when")) there ∷ rest))
when_made F E place there _ (pair one two (spells_formula f is_f so) (spells_effect e is_e also)) =
    spells_effect (raw.When f e)
    (rw (effect-Group place (forms.leaf (kind.Word (codes "when")) there ∷ one ∷ two ∷ []), effect_head-Leaf, formula_read one f is_f, is_e) refl)
    (a_when f e so also)

module _ (p : Parts) (names : AreNamed p) (objects : List Typed) (objects_named : AllNamed objects) (scope : List Typed) (vs : AllNamed scope) where
  call_formed : (name : Name) → IsName name → (ts : List Term) (types : List Name) → TermsFit p objects scope ts types
      → (tokens : List Token) → kinds_of tokens ≡ applied_tokens name ts → Formed tokens (SpellsCall (IsRawAt name (AreRawTerms ts)))
  call_formed name is ts types fits tokens kinds =
      group_formed tokens (kind.Word name ∷ flat_map term_tokens ts) kinds (IsCallRow name (AreRawTerms ts))
      (call_rowed name is (AreRawTerms ts) (flat_map term_tokens ts) (terms_formed p names objects objects_named scope vs ts types fits))
      (SpellsCall (IsRawAt name (AreRawTerms ts))) (call_made name (AreRawTerms ts))

  predicate_name : (name : Name) (P : Predicate → Type 0) → IsSomeAnd (predicate_named p name) P → IsName name
  predicate_name name P is = found_named (λ e. e.name) p.predicates name names.predicates (and_some P (predicate_named p name) is)

  function_name : (name : Name) (P : Function → Type 0) → IsSomeAnd (function_named p name) P → IsName name
  function_name name P is = found_named (λ e. e.name) p.functions name names.functions (and_some P (function_named p name) is)

  pub effect_formed : (e : Effect) → IsEffect p objects scope e → (tokens : List Token) → kinds_of tokens ≡ effect_tokens e → Formed tokens (SpellsEffect (IsRawEffect e))
  effect_formed (effect.Add name ts) is tokens kinds =
      let Fits : Predicate → Type 0 = λ d. TermsFit p objects scope ts d.args in
      let (d, here, known) = found_and Fits (predicate_named p name) is in
      group_formed tokens (kind.Word name ∷ flat_map term_tokens ts) kinds (IsCallRow name (AreRawTerms ts))
      (call_rowed name (predicate_name name Fits is) (AreRawTerms ts) (flat_map term_tokens ts) (terms_formed p names objects objects_named scope vs ts d.args known))
      (SpellsEffect (IsRawEffect (effect.Add name ts))) (add_made name (AreRawTerms ts))
  effect_formed (effect.Delete name ts) is tokens kinds =
      let Fits : Predicate → Type 0 = λ d. TermsFit p objects scope ts d.args in
      let (d, here, known) = found_and Fits (predicate_named p name) is in
      worded (codes "not") (applied_tokens name ts) (Alone (SpellsCall (IsRawAt name (AreRawTerms ts))))
      (λ back there. alone_rowed (call_formed name (predicate_name name Fits is) ts d.args known back there))
      (SpellsEffect (IsRawEffect (effect.Delete name ts))) (delete_made (IsRawAt name (AreRawTerms ts))) tokens kinds
  effect_formed (effect.Number c f ts x) is tokens kinds =
      let Fits : Function → Type 0 = λ d. GivesNumber d.gives × TermsFit p objects scope ts d.args in
      let (d, here, known) = found_and Fits (function_named p f) is.0 in
      worded (change_text c) (applied_tokens f ts ++ expr_tokens x) (Pair (SpellsCall (IsRawAt f (AreRawTerms ts))) (SpellsTerm (IsRawExpr x)))
      (pair_rowed (SpellsCall (IsRawAt f (AreRawTerms ts))) (SpellsTerm (IsRawExpr x)) (applied_tokens f ts) (expr_tokens x)
      (call_formed f (function_name f Fits is.0) ts d.args known.1) (expr_formed p names objects objects_named scope vs x is.1))
      (SpellsEffect (IsRawEffect (effect.Number c f ts x)))
      (change_made (change_text c) (raw_change c) (change_word c) (IsRawAt f (AreRawTerms ts)) (IsRawExpr x)) tokens kinds
  effect_formed (effect.Object f ts t) is tokens kinds =
      let OfType : Function → Type 0 = λ d. IsSomeAnd (gives_object d.gives) (λ of. TermFits p objects scope t of) in
      let Fits : Function → Type 0 = λ d. TermsFit p objects scope ts d.args × OfType d in
      let (d, here, known) = found_and Fits (function_named p f) is in
      let (of, there, fits) = found_and (λ (of : Name). TermFits p objects scope t of) (gives_object d.gives) known.1 in
      worded (codes "assign") (applied_tokens f ts ++ term_tokens t) (Pair (SpellsCall (IsRawAt f (AreRawTerms ts))) (SpellsTerm (IsRawTerm t)))
      (pair_rowed (SpellsCall (IsRawAt f (AreRawTerms ts))) (SpellsTerm (IsRawTerm t)) (applied_tokens f ts) (term_tokens t)
      (call_formed f (function_name f Fits is) ts d.args known.0) (term_formed p names objects objects_named scope vs t fits.0))
      (SpellsEffect (IsRawEffect (effect.Object f ts t)))
      (change_made (codes "assign") change.Assign refl (IsRawAt f (AreRawTerms ts)) (IsRawTerm t)) tokens kinds
  effect_formed (effect.Undefine f ts) is tokens kinds =
      let OfType : Function → Type 0 = λ d. IsSomeAnd (gives_object d.gives) (λ of. ⊤) in
      let Fits : Function → Type 0 = λ d. TermsFit p objects scope ts d.args × OfType d in
      let (d, here, known) = found_and Fits (function_named p f) is in
      worded (codes "assign") (applied_tokens f ts ++ kind.Word (codes "undefined") ∷ []) (Pair (SpellsCall (IsRawAt f (AreRawTerms ts))) IsUndefined)
      (pair_rowed (SpellsCall (IsRawAt f (AreRawTerms ts))) IsUndefined (applied_tokens f ts) (kind.Word (codes "undefined") ∷ [])
      (call_formed f (function_name f Fits is) ts d.args known.0)
      (λ back there. leaf_formed back (kind.Word (codes "undefined")) refl there IsUndefined is_undefined))
      (SpellsEffect (IsRawEffect (effect.Undefine f ts))) (undefine_made (IsRawAt f (AreRawTerms ts))) tokens kinds

  pub under_formed : (typed : Bool) (f : Formula) → tree.IsFormula p objects scope f → (E : RawEffect → Type 0) (ks : List TokenKind)
      → ((back : List Token) → kinds_of back ≡ ks → Formed back (SpellsEffect E))
      → (tokens : List Token) → kinds_of tokens ≡ under_tokens typed f ks → Formed tokens (SpellsEffect (IsRawUnder typed f E))
  under_formed typed f is E ks inner tokens kinds = by_test (is_true_formula f) refl
    where
      by_test : (b : Bool) → is_true_formula f ≡ b → Formed tokens (SpellsEffect (IsRawUnder typed f E))
      by_test true e = formed_as (inner tokens (kinds ∙ rw e refl)) (λ tree. whole tree)
        where
          whole : (tree : Sexp) → SpellsEffect E tree → SpellsEffect (IsRawUnder typed f E) tree
          whole tree (spells_effect x is so) = spells_effect x is (rw e so)
      by_test false e =
          formed_as
          (worded (codes "when") (formula_tokens typed f ++ ks) (Pair (SpellsFormula (IsRawFormula typed f)) (SpellsEffect E))
          (pair_rowed (SpellsFormula (IsRawFormula typed f)) (SpellsEffect E) (formula_tokens typed f) ks (formula_formed p names objects objects_named typed scope vs f is) inner)
          (SpellsEffect (IsRawWhen (IsRawFormula typed f) E)) (when_made (IsRawFormula typed f) E) tokens (kinds ∙ rw e refl))
          (λ tree. whole tree)
        where
          whole : (tree : Sexp) → SpellsEffect (IsRawWhen (IsRawFormula typed f) E) tree → SpellsEffect (IsRawUnder typed f E) tree
          whole tree (spells_effect x is so) = spells_effect x is (rw e so)
