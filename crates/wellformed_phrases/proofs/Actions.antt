-- What is read as an action is one.
use Rattle.std.proofs.Common.{true≢false, [], map, take, refl, ap, sym, subst}
use Rattle.std.specs.Prelude.{is_some}
use Rattle.std.proofs.lemmas.List.{append-nil}
use Rattle.up_text.specs.Lists.{Every}
use Rattle.pddl_parse.specs.declared.raw.RawAction.{RawAction}
use Rattle.up_tree.specs.declared.problem.Parts.{Parts}
use Rattle.up_tree.specs.WellFormed.{AreVariables, IsAction, IsFormula, IsRow, IsType}
use Rattle.up_phrase.specs.declared.term.Setting.TheVariants.{Plain}
use Rattle.up_phrase.specs.Conditions.{formula}
use Rattle.up_phrase.specs.Declarations.{Declarations}
use Rattle.up_phrase.specs.Scopes.{Variables, entered_groups, typed}
use Rattle.up_effect.specs.Actions.{action_of, with_parameters, action}
use Rattle.up_effect.specs.Effects.{within, rows}
use Rattle.wellformed_phrases.specs.Agreement.{IfParsed, Agree, AgreeInScope}
use Rattle.wellformed_phrases.specs.LawfulPhrases.{IsLawfulAction}
use Rattle.wellformed_phrases.proofs.Parses.{parsed_two, parsed_after}
use Rattle.wellformed_phrases.proofs.Tables.{type_found}
use Rattle.wellformed_phrases.proofs.Members.{found_is}
use Rattle.wellformed_phrases.proofs.Entering.{OfMany, groups_are, are_variables}
use Rattle.wellformed_phrases.proofs.Conditions.{formula_is}
use Rattle.wellformed_phrases.proofs.Rows.{rows_are}

-- nothing is in scope
pub agree_empty : (p : Parts) → AgreeInScope p [] []
agree_empty p = record { same = λ v. refl; known_types = λ v of is. absurd (true≢false (sym (ap is_some is))) }

-- variables are in scope, and no others
pub agree_alone : (p : Parts) (vars : Variables) → Every (λ e. IsType p e.1) vars → AgreeInScope p vars (map typed vars)
agree_alone p vars known = record { same = λ v. type_found vars v; known_types = λ v of is. found_is v (IsType p) vars of known is }

module _ (names : Declarations) (p : Parts) (agree : Agree names p (take p.constants p.objects)) where
  with_parameters_is : (raw : RawAction) → IsLawfulAction raw → (vars : Variables) → OfMany [] names p (take p.constants p.objects) agree [] vars
      → IfParsed (with_parameters names raw [] vars) (IsAction p)
  with_parameters_is raw lawful vars (added, is, are, known) =
      let known_here : Every (λ e. IsType p e.1) vars = subst (Every (λ e. IsType p e.1)) (sym is) known in
      let in_scope = agree_alone p vars known_here in
      let params : AreVariables p [] (map typed vars) =
      subst (λ vs. AreVariables p [] (map typed vs)) (sym is) (are_variables p [] [] (agree_empty p) [] added are known) in
      parsed_two (IsFormula p (take p.constants p.objects) (map typed vars)) (Every (IsRow p (take p.constants p.objects) (map typed vars))) (IsAction p)
      (action_of raw.name.name (map typed vars)) (formula names vars Plain raw.pre) (rows names (within vars []) raw.effect)
      (λ f rs pre each. record { params = params; pre = pre; rows = each })
      (formula_is names p (take p.constants p.objects) agree Plain raw.pre lawful.pre vars (map typed vars) in_scope)
      (rows_are names p (take p.constants p.objects) agree vars in_scope raw.effect lawful.effect (within vars [])
      (record { added = []; is = sym (append-nil vars); count = refl; are = tt; known = tt; whens = tt; bars = tt }))

  pub action_is : (raw : RawAction) → IsLawfulAction raw → IfParsed (action names raw) (IsAction p)
  action_is raw lawful =
      parsed_after (OfMany [] names p (take p.constants p.objects) agree []) (IsAction p) (entered_groups names [] raw.params []) (with_parameters names raw [])
      (groups_are [] names p (take p.constants p.objects) agree raw.params [] lawful.params) (with_parameters_is raw lawful)

pub actions_are_well_formed : (names : Declarations) (p : Parts) → Agree names p (take p.constants p.objects)
    → (raw : RawAction) → IsLawfulAction raw → IfParsed (action names raw) (IsAction p)
actions_are_well_formed names p agree raw lawful = action_is names p agree raw lawful
