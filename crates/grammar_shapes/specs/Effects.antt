-- Which bracket trees spell which effects.
use Rattle.std.specs.Prelude.{ℕ, List, [], ◌∷◌, codes}
use Rattle.up_text.specs.declared.place.Place.{Place}
use Rattle.pddl_lex.specs.declared.tree.TokenKind.TheVariants as kind
use Rattle.pddl_lex.specs.declared.tree.Sexp.{Sexp, Group}
use Rattle.pddl_parse.specs.declared.raw.Ident.{Ident}
use Rattle.pddl_parse.specs.declared.raw.RawGroup.{RawGroup}
use Rattle.pddl_parse.specs.declared.raw.RawTerm.{RawTerm}
use Rattle.pddl_parse.specs.declared.raw.RawFormula.{RawFormula}
use Rattle.pddl_parse.specs.declared.raw.RawCall.{RawCall}
use Rattle.pddl_parse.specs.declared.raw.RawChange.{RawChange}
use Rattle.pddl_parse.specs.declared.raw.RawChange.TheVariants as change
use Rattle.pddl_parse.specs.declared.raw.RawEffect.{RawEffect, And, Forall, When, Add, Delete, Change, Undefine}
use Rattle.pddl_parse.specs.Forms.{leaf, IsIdent, AreTyped, IsTerm, AreTerms, IsFormula}

-- a predicate or a function at arguments
pub data IsCall : Sexp → RawCall → Type 0 where
  a_call : (place : Place) (head : Sexp) (name : Ident) (trees : List Sexp) (args : List RawTerm)
      → IsIdent head name → AreTerms trees args → IsCall (Group place (head ∷ trees)) (record { place = place; name = name; args = args })

-- the word that says how the value of a function changes
pub data IsChange : List ℕ → RawChange → Type 0 where
  assign : IsChange (codes "assign") change.Assign
  increase : IsChange (codes "increase") change.Increase
  decrease : IsChange (codes "decrease") change.Decrease
  scale_up : IsChange (codes "scale-up") change.ScaleUp
  scale_down : IsChange (codes "scale-down") change.ScaleDown

mutual
  -- an effect
  pub data IsEffect : Sexp → RawEffect → Type 0 where
    of_and : (place at : Place) (trees : List Sexp) (es : List RawEffect)
        → AreEffects trees es → IsEffect (Group place (leaf (kind.Word (codes "and")) at ∷ trees)) (And es)
    of_forall : (place at vars_at : Place) (vars : List Sexp) (groups : List RawGroup) (tree : Sexp) (e : RawEffect)
        → AreTyped vars groups → IsEffect tree e
        → IsEffect (Group place (leaf (kind.Word (codes "forall")) at ∷ Group vars_at vars ∷ tree ∷ [])) (Forall groups e)
    of_when : (place at : Place) (one two : Sexp) (f : RawFormula) (e : RawEffect)
        → IsFormula one f → IsEffect two e → IsEffect (Group place (leaf (kind.Word (codes "when")) at ∷ one ∷ two ∷ [])) (When f e)
    an_add : (tree : Sexp) (atom : RawCall) → IsCall tree atom → IsEffect tree (Add atom)
    a_delete : (place at : Place) (tree : Sexp) (atom : RawCall)
        → IsCall tree atom → IsEffect (Group place (leaf (kind.Word (codes "not")) at ∷ tree ∷ [])) (Delete atom)
    a_change : (place at : Place) (word : List ℕ) (c : RawChange) (one two : Sexp) (target : RawCall) (value : RawTerm)
        → IsChange word c → IsCall one target → IsTerm two value
        → IsEffect (Group place (leaf (kind.Word word) at ∷ one ∷ two ∷ [])) (Change c target value)
    an_undefine : (place at undefined_at : Place) (tree : Sexp) (target : RawCall)
        → IsCall tree target
        → IsEffect (Group place (leaf (kind.Word (codes "assign")) at ∷ tree ∷ leaf (kind.Word (codes "undefined")) undefined_at ∷ []))
        (Undefine target undefined_at)

  pub data AreEffects : List Sexp → List RawEffect → Type 0 where
    no_effects : AreEffects [] []
    more_effects : (tree : Sexp) (e : RawEffect) (trees : List Sexp) (es : List RawEffect)
        → IsEffect tree e → AreEffects trees es → AreEffects (tree ∷ trees) (e ∷ es)

-- the effect of an action, where `()` changes nothing
pub data IsWholeEffect : Sexp → RawEffect → Type 0 where
  no_effect : (place : Place) → IsWholeEffect (Group place []) (And [])
  an_effect : (tree : Sexp) (e : RawEffect) → IsEffect tree e → IsWholeEffect tree e
