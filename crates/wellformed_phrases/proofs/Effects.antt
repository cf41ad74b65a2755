-- What is read as a simple effect is one.
use Rattle.std.proofs.Common.{◌≡◌, List, [], map, Option, Some, None, IsSomeAnd, refl, ap, sym, subst}
use Rattle.std.specs.Prelude.{⊤}
use Rattle.up_text.specs.declared.name.Name.{Name}
use Rattle.up_text.specs.declared.place.Place.{Place}
use Rattle.pddl_lex.specs.Parses.{parsed, followed}
use Rattle.pddl_parse.specs.declared.raw.RawCall.{RawCall}
use Rattle.pddl_parse.specs.declared.raw.RawChange.{RawChange}
use Rattle.pddl_parse.specs.declared.raw.RawChange.TheVariants as raw_change
use Rattle.pddl_parse.specs.declared.raw.RawTerm.{RawTerm}
use Rattle.up_tree.specs.declared.action.Change.{Change}
use Rattle.up_tree.specs.declared.action.Change.TheVariants as change
use Rattle.up_tree.specs.declared.action.Effect.TheVariants as effect
use Rattle.up_tree.specs.declared.problem.Gives.{Gives}
use Rattle.up_tree.specs.declared.problem.Gives.TheVariants as gives
use Rattle.up_tree.specs.declared.problem.Parts.{Parts}
use Rattle.up_tree.specs.declared.term.Term.{Term}
use Rattle.up_tree.specs.declared.term.Typed.{Typed}
use Rattle.up_tree.specs.Objects.{function_named}
use Rattle.up_tree.specs.WellFormed.{IsAtom, IsEffect, IsExpr, IsObjectTarget, TermFits, TermsFit, GivesNumber, gives_object}
use Rattle.up_phrase.specs.declared.names.Signature.{Signature}
use Rattle.up_phrase.specs.declared.term.Setting.TheVariants.{Plain}
use Rattle.up_phrase.specs.Declarations.{Declarations}
use Rattle.up_phrase.specs.Exprs.{numeric_function, expr}
use Rattle.up_phrase.specs.Lookups.{function_of}
use Rattle.up_phrase.specs.Scopes.{Variables}
use Rattle.up_phrase.specs.Terms.{term}
use Rattle.up_phrase.specs.Walks.{Checked}
use Rattle.up_effect.specs.Effects.{atom, added, deleted, target_args, number_changed, assigned_by, assigned, number_changed_in, changed, kept_number, undefined}
use Rattle.up_check.specs.Lists.{function}
use Rattle.wellformed_phrases.specs.Agreement.{IfParsed, Agree, AgreeInScope}
use Rattle.wellformed_phrases.specs.LawfulPhrases.{HasLiterals}
use Rattle.wellformed_phrases.proofs.Parses.{parsed_as, parsed_over, parsed_two, parsed_followed}
use Rattle.wellformed_phrases.proofs.Tables.{function_is, at_some}
use Rattle.wellformed_phrases.proofs.Terms.{applied_are, term_is}
use Rattle.wellformed_phrases.proofs.Exprs.{GivesNumbers, expr_is, numeric_is, number_term_is}
use Rattle.wellformed_phrases.proofs.Conditions.{atom_is, each_reads}

module _ (names : Declarations) (p : Parts) (objects : List Typed) (agree : Agree names p objects)
    (vars : Variables) (scope : List Typed) (in_scope : AgreeInScope p vars scope) where
  pub added_is : (it : RawCall) → IfParsed (added names vars it) (IsEffect p objects scope)
  added_is it =
      parsed_over (IsAtom p objects scope it.name.name) (IsEffect p objects scope) (effect.Add it.name.name) (atom names vars it) (λ ts is. is)
      (atom_is names p objects agree Plain vars scope in_scope it.place it.name it.args)

  pub deleted_is : (it : RawCall) → IfParsed (deleted names vars it) (IsEffect p objects scope)
  deleted_is it =
      parsed_over (IsAtom p objects scope it.name.name) (IsEffect p objects scope) (effect.Delete it.name.name) (atom names vars it) (λ ts is. is)
      (atom_is names p objects agree Plain vars scope in_scope it.place it.name it.args)

  target_is : (P : List Name → Type 0) (it : RawCall) (declared : Checked (List Name)) → IfParsed declared P
      → IfParsed (target_args names vars it declared) (λ ts. (types : List Name) × P types × TermsFit p objects scope ts types)
  target_is P it declared is =
      applied_are names p objects agree vars scope in_scope Plain P it.place it.name.name declared (map (term names vars Plain) it.args) is
      (each_reads names p objects agree Plain vars scope in_scope it.args)

  number_is : (c : Change) (it : RawCall) (value : RawTerm) (declared : Checked (List Name)) → HasLiterals value
      → IfParsed declared (GivesNumbers names p objects agree vars scope in_scope Plain it.name.name) → IfParsed (number_changed names vars c it value declared) (IsEffect p objects scope)
  number_is c it value declared has is =
      parsed_two (λ ts. (types : List Name) × GivesNumbers names p objects agree vars scope in_scope Plain it.name.name types × TermsFit p objects scope ts types) (IsExpr p objects scope) (IsEffect p objects scope)
      (effect.Number c it.name.name) (target_args names vars it declared) (expr names vars Plain value)
      (λ ts x fit so. (number_term_is names p objects agree vars scope in_scope Plain it.name.name ts fit, so))
      (target_is (GivesNumbers names p objects agree vars scope in_scope Plain it.name.name) it declared is) (expr_is names p objects agree vars scope in_scope Plain value has)

  -- a function of objects at arguments that fit it
  object_target : (f : Name) (signature : Signature) (of : Name) (ts : List Term) (Of : Name → Type 0) → function_of names f ≡ Some signature
      → gives_object signature.gives ≡ Some of → TermsFit p objects scope ts signature.args → Of of → IsObjectTarget p objects scope f ts Of
  object_target f signature of ts Of is gives_it fit so =
      at_some (function_named p f) (function (f, signature)) (λ d. TermsFit p objects scope ts d.args × IsSomeAnd (gives_object d.gives) Of)
      (function_is names p objects agree f signature is) (fit, at_some (gives_object signature.gives) of Of gives_it so)

  fitting : (signature : Signature) (ts : List Term) → (types : List Name) × (types ≡ signature.args) × TermsFit p objects scope ts types → TermsFit p objects scope ts signature.args
  fitting signature ts (types, is, fit) = subst (TermsFit p objects scope ts) is fit

  assigned_by_is : (it : RawCall) (value : RawTerm) (signature : Signature) (g : Gives) → HasLiterals value → function_of names it.name.name ≡ Some signature
      → signature.gives ≡ g → IfParsed (assigned_by names vars it value signature.args g) (IsEffect p objects scope)
  assigned_by_is it value signature gives.Number has is so =
      number_is change.Assign it value (parsed signature.args) has (signature, is, refl, subst GivesNumber (sym so) tt)
  assigned_by_is it value signature (gives.Object of) has is so =
      parsed_two (λ ts. (types : List Name) × (types ≡ signature.args) × TermsFit p objects scope ts types) (λ t. TermFits p objects scope t of) (IsEffect p objects scope)
      (effect.Object it.name.name) (target_args names vars it (parsed signature.args)) (term names vars Plain value (Some of))
      (λ ts t fit fits. object_target it.name.name signature of ts (λ of. TermFits p objects scope t of) is (ap gives_object so) (fitting signature ts fit) fits)
      (target_is (λ types. types ≡ signature.args) it (parsed signature.args) refl) (term_is names p objects agree vars scope in_scope Plain value (Some of))

  assigned_is : (it : RawCall) (value : RawTerm) (found : Option Signature) → HasLiterals value → function_of names it.name.name ≡ found
      → IfParsed (assigned names vars it value found) (IsEffect p objects scope)
  assigned_is it value None has is = tt
  assigned_is it value (Some signature) has is = assigned_by_is it value signature signature.gives has is refl

  number_in : (c : Change) (it : RawCall) (value : RawTerm) → HasLiterals value → IfParsed (number_changed_in names vars c it value) (IsEffect p objects scope)
  number_in c it value has =
      number_is c it value (numeric_function it.name (function_of names it.name.name)) has
      (numeric_is names p objects agree vars scope in_scope Plain it.name (function_of names it.name.name) refl)

  pub changed_is : (c : RawChange) (it : RawCall) (value : RawTerm) → HasLiterals value → IfParsed (changed names vars c it value) (IsEffect p objects scope)
  changed_is raw_change.Assign it value has = assigned_is it value (function_of names it.name.name) has refl
  changed_is raw_change.Increase it value has = number_in change.Increase it value has
  changed_is raw_change.Decrease it value has = number_in change.Decrease it value has
  changed_is raw_change.ScaleUp it value has = number_in change.ScaleUp it value has
  changed_is raw_change.ScaleDown it value has = number_in change.ScaleDown it value has

  kept_is : (place : Place) (g : Gives) → kept_number place g ≡ [] → (of : Name) × (gives_object g ≡ Some of)
  kept_is place gives.Number none = cc
  kept_is place (gives.Object of) none = (of, refl)

  pub undefined_is : (it : RawCall) (place : Place) (found : Option Signature) → function_of names it.name.name ≡ found → IfParsed (undefined names vars it place found) (IsEffect p objects scope)
  undefined_is it place None is = tt
  undefined_is it place (Some signature) is =
      parsed_over (IsObjectArgs signature) (IsEffect p objects scope) (effect.Undefine it.name.name)
      (followed (target_args names vars it (parsed signature.args)) (kept_number place signature.gives))
      (λ ts (fit, (of, gives_it)). object_target it.name.name signature of ts (λ of. ⊤) is gives_it fit tt)
      (parsed_followed (IsObjectArgs signature) (target_args names vars it (parsed signature.args)) (kept_number place signature.gives) (λ none.
      parsed_as (λ ts. (types : List Name) × (types ≡ signature.args) × TermsFit p objects scope ts types) (IsObjectArgs signature) (target_args names vars it (parsed signature.args))
      (λ ts fit. (fitting signature ts fit, kept_is place signature.gives none)) (target_is (λ types. types ≡ signature.args) it (parsed signature.args) refl)))
    where
      IsObjectArgs : Signature → List Term → Type 0
      IsObjectArgs signature ts = TermsFit p objects scope ts signature.args × ((of : Name) × (gives_object signature.gives ≡ Some of))
