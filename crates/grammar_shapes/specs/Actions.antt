-- Which bracket trees spell which actions.
use Rattle.std.specs.Prelude.{List, [], ◌∷◌, Option, Some, None, codes, unwrap_or}
use Rattle.up_text.specs.declared.place.Place.{Place}
use Rattle.pddl_lex.specs.declared.tree.TokenKind.TheVariants as kind
use Rattle.pddl_lex.specs.declared.tree.Sexp.{Sexp, Group}
use Rattle.pddl_parse.specs.declared.raw.Ident.{Ident}
use Rattle.pddl_parse.specs.declared.raw.RawGroup.{RawGroup}
use Rattle.pddl_parse.specs.declared.raw.RawFormula.{RawFormula}
use Rattle.pddl_parse.specs.declared.raw.RawFormula as formula
use Rattle.pddl_parse.specs.declared.raw.RawEffect.{RawEffect}
use Rattle.pddl_parse.specs.declared.raw.RawEffect as effect
use Rattle.pddl_parse.specs.declared.raw.RawAction.{RawAction}
use Rattle.pddl_parse.specs.Forms.{leaf, IsIdent, AreTyped, IsFormula}
use Rattle.grammar_shapes.specs.Effects.{IsWholeEffect}

-- a precondition or a goal, where `()` always holds
pub data IsCondition : Sexp → RawFormula → Type 0 where
  no_condition : (place : Place) → IsCondition (Group place []) (formula.And [])
  a_condition : (tree : Sexp) (f : RawFormula) → IsFormula tree f → IsCondition tree f

-- keywords in any order, each followed by its value, and the parameters, the precondition and the effect that they state:
-- `None` says that a keyword doesn't stand among them, as after a keyword that same keyword doesn't
pub data AreKeys : List Sexp → Option (List RawGroup) → Option RawFormula → Option RawEffect → Type 0 where
  no_keys : AreKeys [] None None None
  with_parameters : (at vars_at : Place) (vars : List Sexp) (groups : List RawGroup) (rest : List Sexp)
      (pre : Option RawFormula) (e : Option RawEffect)
      → AreTyped vars groups → AreKeys rest None pre e
      → AreKeys (leaf (kind.Keyword (codes "parameters")) at ∷ Group vars_at vars ∷ rest) (Some groups) pre e
  with_precondition : (at : Place) (tree : Sexp) (f : RawFormula) (rest : List Sexp) (params : Option (List RawGroup)) (e : Option RawEffect)
      → IsCondition tree f → AreKeys rest params None e
      → AreKeys (leaf (kind.Keyword (codes "precondition")) at ∷ tree ∷ rest) params (Some f) e
  with_effect : (at : Place) (tree : Sexp) (e : RawEffect) (rest : List Sexp) (params : Option (List RawGroup)) (pre : Option RawFormula)
      → IsWholeEffect tree e → AreKeys rest params pre None
      → AreKeys (leaf (kind.Keyword (codes "effect")) at ∷ tree ∷ rest) params pre (Some e)

-- what stands after `:action`: a name, then keywords, where no parameters, `(and)` and no effect stand for what is left out
pub data IsAction : List Sexp → RawAction → Type 0 where
  an_action : (head : Sexp) (name : Ident) (rest : List Sexp)
      (params : Option (List RawGroup)) (pre : Option RawFormula) (e : Option RawEffect)
      → IsIdent head name → AreKeys rest params pre e
      → IsAction (head ∷ rest) (record {
        name = name;
        params = unwrap_or params [];
        pre = unwrap_or pre (formula.And []);
        effect = unwrap_or e (effect.And []);
      })
