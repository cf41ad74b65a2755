-- The kinds of the tokens that are written for effects, actions and constraints.
use Rattle.std.specs.Prelude.{Bool, if◌then◌else◌, List, [], ◌∷◌, ◌++◌, flat_map, codes}
use Rattle.up_tree.specs.declared.term.Typed.{Typed}
use Rattle.up_tree.specs.declared.formula.Formula.{Formula}
use Rattle.up_tree.specs.declared.action.Effect.{Effect}
use Rattle.up_tree.specs.declared.action.Effect.TheVariants as effect
use Rattle.up_tree.specs.declared.action.Row.{Row}
use Rattle.up_tree.specs.declared.action.Action.{Action}
use Rattle.up_tree.specs.declared.problem.Rule.{Rule}
use Rattle.up_tree.specs.declared.problem.Constraint.{Constraint}
use Rattle.up_tree.specs.Simplify.{is_true_formula}
use Rattle.up_tree.specs.WellFormed.{formulas_of}
use Rattle.pddl_write.specs.Effects.{change_text, rule_word}
use Rattle.pddl_lex.specs.declared.tree.TokenKind.{TokenKind}
use Rattle.pddl_lex.specs.declared.tree.TokenKind.TheVariants.{Word, Keyword}
use Rattle.roundtrip_tokens.specs.Tokens.{group, variables_tokens, applied_tokens, term_tokens, expr_tokens, formula_tokens}

abbrev pub effect_tokens : Effect → List TokenKind
effect_tokens (effect.Add name ts) = applied_tokens name ts
effect_tokens (effect.Delete name ts) = group (Word (codes "not") ∷ applied_tokens name ts)
effect_tokens (effect.Number change f ts x) = group (Word (change_text change) ∷ applied_tokens f ts ++ expr_tokens x)
effect_tokens (effect.Object f ts t) = group (Word (codes "assign") ∷ applied_tokens f ts ++ term_tokens t)
effect_tokens (effect.Undefine f ts) = group (Word (codes "assign") ∷ applied_tokens f ts ++ Word (codes "undefined") ∷ [])

-- inside a `forall` where there are variables
abbrev pub for_each_tokens : Bool → List Typed → List TokenKind → List TokenKind
for_each_tokens typed [] tokens = tokens
for_each_tokens typed (v ∷ vars) tokens = group (Word (codes "forall") ∷ group (variables_tokens typed (v ∷ vars)) ++ tokens)

-- inside a `when` where the condition isn't `true`
abbrev pub under_tokens : Bool → Formula → List TokenKind → List TokenKind
under_tokens typed f tokens = if is_true_formula f then tokens else group (Word (codes "when") ∷ formula_tokens typed f ++ tokens)

abbrev pub effect_row_tokens : Bool → Row → List TokenKind
effect_row_tokens typed r = for_each_tokens typed r.vars (under_tokens typed r.when (effect_tokens r.effect))

-- the effect of an action with these rows
abbrev pub whole_effect_tokens : Bool → List Row → List TokenKind
whole_effect_tokens typed rows = group (Word (codes "and") ∷ flat_map (effect_row_tokens typed) rows)

abbrev pub action_tokens : Bool → Action → List TokenKind
action_tokens typed a =
    group (
    Keyword (codes "action") ∷ Word a.name ∷ Keyword (codes "parameters") ∷ group (variables_tokens typed a.params)
    ++ Keyword (codes "precondition") ∷ formula_tokens typed a.pre
    ++ Keyword (codes "effect") ∷ whole_effect_tokens typed a.rows
    )

abbrev pub rule_tokens : Bool → Rule → List TokenKind
rule_tokens typed r = group (Word (rule_word r) ∷ flat_map (formula_tokens typed) (formulas_of r))

abbrev pub constraint_tokens : Bool → Constraint → List TokenKind
constraint_tokens typed c = for_each_tokens typed c.vars (rule_tokens typed c.rule)

abbrev pub constraints_tokens : Bool → List Constraint → List TokenKind
constraints_tokens typed cs = group (Keyword (codes "constraints") ∷ group (Word (codes "and") ∷ flat_map (constraint_tokens typed) cs))
