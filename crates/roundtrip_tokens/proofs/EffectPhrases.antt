-- The tokens of effects, actions and constraints.
use Rattle.std.proofs.Common.{◌≡◌, ℕ, Bool, true, false, List, [], ◌∷◌, ◌++◌, refl, ap, sym, ◌∙◌, subst, append_assoc, append-nil}
use Rattle.std.specs.Prelude.{codes, flat_map, take, IsSomeAnd, ⊤, if◌then◌else◌}
use Rattle.up_text.specs.declared.name.Name.{Name}
use Rattle.up_text.specs.Lists.{Every}
use Rattle.up_tree.specs.declared.term.Typed.{Typed}
use Rattle.up_tree.specs.declared.formula.Formula.{Formula}
use Rattle.up_tree.specs.declared.action.Change.{Change}
use Rattle.up_tree.specs.declared.action.Change.TheVariants.{Assign, Increase, Decrease, ScaleUp, ScaleDown}
use Rattle.up_tree.specs.declared.action.Effect.{Effect}
use Rattle.up_tree.specs.declared.action.Effect.TheVariants.{Add, Delete, Number, Object, Undefine}
use Rattle.up_tree.specs.declared.action.Row.{Row}
use Rattle.up_tree.specs.declared.action.Action.{Action}
use Rattle.up_tree.specs.declared.problem.Rule.{Rule}
use Rattle.up_tree.specs.declared.problem.Rule.TheVariants.{Always, Sometime, AtMostOnce, SometimeAfter, SometimeBefore}
use Rattle.up_tree.specs.declared.problem.Constraint.{Constraint}
use Rattle.up_tree.specs.declared.problem.Function.{Function}
use Rattle.up_tree.specs.declared.problem.Parts.{Parts}
use Rattle.up_tree.specs.Objects.{function_named}
use Rattle.up_tree.specs.Simplify.{is_true_formula}
use Rattle.up_tree.specs.WellFormed.{gives_object, TermFits, TermsFit, IsFormula, IsPlain, IsEffect, IsRow, IsAction, IsConstraint, AreVariables, formulas_of}
use Rattle.up_line.specs.Spaced.{spaced}
use Rattle.pddl_lex.specs.declared.tree.TokenKind.{TokenKind}
use Rattle.pddl_lex.specs.declared.tree.TokenKind.TheVariants.{Open, Close, Word, Keyword}
use Rattle.pddl_lex.specs.Next.{next, sign, name_behind}
use Rattle.pddl_write.specs.Effects.{change_text, effect_text, for_each, under, effect_row_text, action_text, rule_text, constraint_text, constraints_text}
use Rattle.pddl_write.specs.Phrases.{variables_text, formula_text}
use Rattle.roundtrip_tokens.specs.Tokens.{variables_tokens, applied_tokens, formula_tokens}
use Rattle.roundtrip_tokens.specs.EffectTokens.{effect_tokens, for_each_tokens, under_tokens, effect_row_tokens, action_tokens, rule_tokens, constraint_tokens, constraints_tokens}
use Rattle.roundtrip_tokens.proofs.Lexes.{Shut, Lexes, behind, follows, cut_by, word, headed, quantified, one_operand, two_operands, over_operand}
use Rattle.roundtrip_tokens.proofs.Named.{Spelled, found_and, every-append}
use Rattle.roundtrip_tokens.proofs.Phrases.{AreSpelled, AllSpelled, spaced_apart, spaced_each, variables, scope_spelled, term, atom, function_term, number_term, expr, formula}

pub regroup : {text : List ℕ} {ks ls : List TokenKind} → Lexes text ks → ks ≡ ls → Lexes text ls
regroup {text} lexes is = subst (Lexes text) is lexes

change_spelled : (c : Change) → Spelled (change_text c)
change_spelled Assign = refl
change_spelled Increase = refl
change_spelled Decrease = refl
change_spelled ScaleUp = refl
change_spelled ScaleDown = refl

undefined : Lexes (codes " undefined)") (Word (codes "undefined") ∷ Close ∷ [])
unfolding next sign
undefined = record { before = λ rest apart. refl }

-- ---- effects

module _ (p : Parts) (names : AreSpelled p) (typed : Bool) where
  for_each_lexes : (scope vars : List Typed) → AreVariables p scope vars → (text : List ℕ) (ks : List TokenKind) → Lexes text ks
      → Lexes (for_each typed vars text) (for_each_tokens typed vars ks)
  for_each_lexes scope [] are text ks lexes = lexes
  for_each_lexes scope (v ∷ vars) are text ks lexes = over_operand (quantified (codes "forall") refl) (variables p names typed scope (v ∷ vars) are) lexes

  module _ (objects : List Typed) (objects_spelled : AllSpelled objects) where
    effect_lexes : (scope : List Typed) → AllSpelled scope → (e : Effect) → IsEffect p objects scope e → Lexes (effect_text e) (effect_tokens e)
    effect_lexes scope vs (Add name ts) is = atom p names objects objects_spelled scope vs name ts is
    effect_lexes scope vs (Delete name ts) is = one_operand (headed (codes "not") refl) (atom p names objects objects_spelled scope vs name ts is)
    effect_lexes scope vs (Number change f ts x) is =
        two_operands (headed (change_text change) (change_spelled change))
        (number_term p names objects objects_spelled scope vs f ts is.0) (expr p names objects objects_spelled scope vs x is.1)
    effect_lexes scope vs (Object f ts t) is =
        let OfType : Function → Type 0 = λ d. IsSomeAnd (gives_object d.gives) (λ of. TermFits p objects scope t of) in
        let (d, here, known) = found_and (λ (d : Function). TermsFit p objects scope ts d.args × OfType d) (function_named p f) is in
        let (of, there, fits) = found_and (λ (of : Name). TermFits p objects scope t of) (gives_object d.gives) known.1 in
        two_operands (headed (codes "assign") refl)
        (function_term p names objects objects_spelled scope vs OfType f ts is) (term p names objects objects_spelled scope vs t fits.0)
    effect_lexes scope vs (Undefine f ts) is =
        let OfType : Function → Type 0 = λ d. IsSomeAnd (gives_object d.gives) (λ of. ⊤) in
        let target = function_term p names objects objects_spelled scope vs OfType f ts is in
        regroup (follows (behind (headed (codes "assign") refl) target) refl undefined) (sym (append_assoc ((Open ∷ Word (codes "assign") ∷ []) ++ applied_tokens f ts) (Word (codes "undefined") ∷ []) (Close ∷ [])))

    under_lexes : (scope : List Typed) → AllSpelled scope → (f : Formula) → IsFormula p objects scope f → (text : List ℕ) (ks : List TokenKind) → Lexes text ks
        → Lexes (under typed f text) (under_tokens typed f ks)
    under_lexes scope vs f is text ks lexes =
        let by_test : (b : Bool) → Lexes (if b then text else codes "(when " ++ formula_text typed f ++ codes " " ++ text ++ codes ")")
        (if b then ks else (Open ∷ Word (codes "when") ∷ []) ++ formula_tokens typed f ++ ks ++ Close ∷ []) =
        elim [ true ↦ lexes | false ↦ two_operands (headed (codes "when") refl) (formula p names objects objects_spelled typed scope vs f is) lexes ] in
        by_test (is_true_formula f)

    row_lexes : (scope : List Typed) → AllSpelled scope → (r : Row) → IsRow p objects scope r → Lexes (effect_row_text typed r) (effect_row_tokens typed r)
    row_lexes scope vs r is =
        let inner : AllSpelled (r.vars ++ scope) = every-append (λ v. Spelled v.name) r.vars scope (scope_spelled p names typed scope r.vars is.vars) vs in
        for_each_lexes scope r.vars is.vars _ _
        (under_lexes (r.vars ++ scope) inner r.when is.when _ _ (effect_lexes (r.vars ++ scope) inner r.effect is.effect))

-- ---- actions

action_head : Shut (codes "(:action ") (Open ∷ Keyword (codes "action") ∷ [])
unfolding next sign name_behind
action_head = record { before = λ rest. refl }

parameters_head : Shut (codes " :parameters (") (Keyword (codes "parameters") ∷ Open ∷ [])
unfolding next sign name_behind
parameters_head = record { before = λ rest. refl }

precondition_head : Shut (codes ") :precondition ") (Close ∷ Keyword (codes "precondition") ∷ [])
unfolding next sign name_behind
precondition_head = record { before = λ rest. refl }

effect_open : Shut (codes " :effect (") (Keyword (codes "effect") ∷ Open ∷ [])
unfolding next sign name_behind
effect_open = record { before = λ rest. refl }

effect_head : Lexes (codes " :effect (and") (Keyword (codes "effect") ∷ Open ∷ Word (codes "and") ∷ [])
effect_head = behind effect_open (word (codes "and") refl)

pub two_closed : Lexes (codes "))\n") (Close ∷ Close ∷ [])
unfolding next sign
two_closed = record { before = λ rest apart. refl }

action_lists : (vars close word pre head rows : List TokenKind)
    → vars ++ (close ++ word) ++ pre ++ head ++ rows ++ (close ++ close) ≡ vars ++ close ++ (word ++ pre) ++ (head ++ rows ++ close) ++ close
action_lists vars close word pre head rows = simp append_assoc

module _ (p : Parts) (names : AreSpelled p) (typed : Bool) (objects_spelled : AllSpelled (take p.constants p.objects)) where
  pub action : (a : Action) → Spelled a.name → IsAction p a → Lexes (action_text typed a) (action_tokens typed a)
  action a named is =
      let vs : AllSpelled a.params = scope_spelled p names typed [] a.params is.params in
      let params : Lexes (variables_text typed a.params) (variables_tokens typed a.params) = variables p names typed [] a.params is.params in
      let pre : Lexes (formula_text typed a.pre) (formula_tokens typed a.pre) = formula p names (take p.constants p.objects) objects_spelled typed a.params vs a.pre is.pre in
      let rows : Lexes (spaced (effect_row_text typed) a.rows) (flat_map (effect_row_tokens typed) a.rows) =
      spaced_each (effect_row_text typed) (effect_row_tokens typed) (IsRow p (take p.constants p.objects) a.params)
      (row_lexes p names typed (take p.constants p.objects) objects_spelled a.params vs) a.rows is.rows in
      let head = behind (cut_by (behind action_head (word a.name named)) refl parameters_head) params in
      let before_effect = behind (cut_by head refl precondition_head) pre in
      let whole = follows (follows (follows before_effect refl effect_head) (spaced_apart (effect_row_text typed) (effect_row_tokens typed) a.rows) rows) refl two_closed in
      regroup whole (
      ap (λ (more : List TokenKind). Open ∷ Keyword (codes "action") ∷ Word a.name ∷ Keyword (codes "parameters") ∷ Open ∷ more)
      (action_lists (variables_tokens typed a.params) (Close ∷ []) (Keyword (codes "precondition") ∷ []) (formula_tokens typed a.pre)
      (Keyword (codes "effect") ∷ Open ∷ Word (codes "and") ∷ []) (flat_map (effect_row_tokens typed) a.rows))
      )

-- ---- constraints

one_condition : (head f : List TokenKind) → head ++ f ++ Close ∷ [] ≡ head ++ (f ++ []) ++ Close ∷ []
one_condition head f = ap (λ (more : List TokenKind). head ++ more ++ Close ∷ []) (sym (append-nil f))

two_conditions : (head f g : List TokenKind) → head ++ f ++ g ++ Close ∷ [] ≡ head ++ (f ++ (g ++ [])) ++ Close ∷ []
two_conditions head f g =
    ap (λ (more : List TokenKind). more ++ Close ∷ []) (append_assoc head f g)
    ∙ ap (λ (more : List TokenKind). head ++ (f ++ more) ++ Close ∷ []) (sym (append-nil g))

constraints_open : Shut (codes "(:constraints (") (Open ∷ Keyword (codes "constraints") ∷ Open ∷ [])
unfolding next sign name_behind
constraints_open = record { before = λ rest. refl }

constraints_head : Lexes (codes "(:constraints (and") (Open ∷ Keyword (codes "constraints") ∷ Open ∷ Word (codes "and") ∷ [])
constraints_head = behind constraints_open (word (codes "and") refl)

module _ (p : Parts) (names : AreSpelled p) (typed : Bool) (objects_spelled : AllSpelled p.objects) where
  module _ (scope : List Typed) (vs : AllSpelled scope) where
    condition : (f : Formula) → IsFormula p p.objects scope f → Lexes (formula_text typed f) (formula_tokens typed f)
    condition f is = formula p names p.objects objects_spelled typed scope vs f is

    rule_lexes : (r : Rule) → Every (λ f. IsFormula p p.objects scope f × IsPlain f) (formulas_of r) → Lexes (rule_text typed r) (rule_tokens typed r)
    rule_lexes (Always f) is = regroup (one_operand (headed (codes "always") refl) (condition f is.0.0)) (one_condition (Open ∷ Word (codes "always") ∷ []) (formula_tokens typed f))
    rule_lexes (Sometime f) is = regroup (one_operand (headed (codes "sometime") refl) (condition f is.0.0)) (one_condition (Open ∷ Word (codes "sometime") ∷ []) (formula_tokens typed f))
    rule_lexes (AtMostOnce f) is = regroup (one_operand (headed (codes "at-most-once") refl) (condition f is.0.0)) (one_condition (Open ∷ Word (codes "at-most-once") ∷ []) (formula_tokens typed f))
    rule_lexes (SometimeAfter f g) is =
        regroup (two_operands (headed (codes "sometime-after") refl) (condition f is.0.0) (condition g is.1.0.0)) (two_conditions (Open ∷ Word (codes "sometime-after") ∷ []) (formula_tokens typed f) (formula_tokens typed g))
    rule_lexes (SometimeBefore f g) is =
        regroup (two_operands (headed (codes "sometime-before") refl) (condition f is.0.0) (condition g is.1.0.0)) (two_conditions (Open ∷ Word (codes "sometime-before") ∷ []) (formula_tokens typed f) (formula_tokens typed g))

  constraint_lexes : (c : Constraint) → IsConstraint p c → Lexes (constraint_text typed c) (constraint_tokens typed c)
  constraint_lexes c is =
      for_each_lexes p names typed [] c.vars is.vars _ _ (rule_lexes c.vars (scope_spelled p names typed [] c.vars is.vars) c.rule is.formulas)

  pub constraints : (cs : List Constraint) → Every (IsConstraint p) cs → Lexes (constraints_text typed cs) (constraints_tokens typed cs)
  constraints cs are =
      regroup
      (follows
      (follows constraints_head (spaced_apart (constraint_text typed) (constraint_tokens typed) cs)
      (spaced_each (constraint_text typed) (constraint_tokens typed) (IsConstraint p) constraint_lexes cs are))
      refl two_closed)
      (ap (λ (more : List TokenKind). Open ∷ Keyword (codes "constraints") ∷ Open ∷ Word (codes "and") ∷ more)
      (sym (append_assoc (flat_map (constraint_tokens typed) cs) (Close ∷ []) (Close ∷ []))))
