-- A raw effect is read as a simple effect exactly where it denotes it.
use Rattle.std.proofs.Common.{◌≡◌, List, Option, Some, None, refl}
use Rattle.up_text.specs.declared.name.Name.{Name}
use Rattle.up_text.specs.declared.place.Place.{Place}
use Rattle.pddl_lex.specs.Parses.{parsed, over, followed}
use Rattle.pddl_parse.specs.declared.raw.RawCall.{RawCall}
use Rattle.pddl_parse.specs.declared.raw.RawChange.{RawChange}
use Rattle.pddl_parse.specs.declared.raw.RawChange.TheVariants as stated
use Rattle.pddl_parse.specs.declared.raw.RawEffect.{RawEffect}
use Rattle.pddl_parse.specs.declared.raw.RawEffect as raw
use Rattle.pddl_parse.specs.declared.raw.RawTerm.{RawTerm}
use Rattle.pddl_parse.proofs.Spelled.{Sound, sound_over, sound_two, sound_followed}
use Rattle.up_tree.specs.declared.action.Effect.{Effect}
use Rattle.up_tree.specs.declared.action.Effect.TheVariants as effect
use Rattle.up_tree.specs.declared.expr.Expr.{Expr}
use Rattle.up_tree.specs.declared.problem.Gives.{Gives}
use Rattle.up_tree.specs.declared.problem.Gives.TheVariants as gives
use Rattle.up_tree.specs.declared.term.Term.{Term}
use Rattle.up_phrase.specs.declared.names.Signature.{Signature}
use Rattle.up_phrase.specs.declared.term.Setting.TheVariants.{Plain}
use Rattle.up_phrase.specs.Declarations.{Declarations}
use Rattle.up_phrase.specs.Exprs.{number_giver, numeric_function, expr}
use Rattle.up_phrase.specs.Lookups.{function_of}
use Rattle.up_phrase.specs.Scopes.{Variables}
use Rattle.up_phrase.specs.Terms.{term}
use Rattle.up_effect.specs.Effects.{atom, added, deleted, target_args, change_of, number_changed, assigned_by, assigned, changed, kept_number, undefined}
use Rattle.grammar_names.specs.Phrases.{DenotesTerm, DenotesAtom, DenotesExpr}
use Rattle.grammar_names.specs.Effects.{DenotesTarget, DenotesSimple, of_add, of_delete, of_number, of_object, of_undefine}
use Rattle.grammar_names.proofs.Terms.{arguments_read, arguments_denote, term_read, term_denotes}
use Rattle.grammar_names.proofs.Exprs.{expr_read, expr_denotes}
use Rattle.grammar_names.proofs.Conditions.{atom_read, atom_denotes}
use Rattle.grammar_shapes.proofs.Walks.{sound_of}

module _ (names : Declarations) (vars : Variables) where
  abbrev Atom : RawCall → List Term → Type 0
  Atom it ts = DenotesAtom names vars Plain it.name it.args ts

  abbrev Simple : RawEffect → Effect → Type 0
  Simple raw e = DenotesSimple names vars raw e

  abbrev Target : Gives → RawCall → List Term → Type 0
  Target given it ts = DenotesTarget names vars given it ts

  -- ---- what is denoted is read

  pub added_read : (it : RawCall) (ts : List Term) → DenotesAtom names vars Plain it.name it.args ts
      → added names vars it ≡ parsed (effect.Add it.name.name ts)
  added_read it ts is = rw (atom_read names vars Plain it.place it.name it.args ts is) refl

  pub deleted_read : (it : RawCall) (ts : List Term) → DenotesAtom names vars Plain it.name it.args ts
      → deleted names vars it ≡ parsed (effect.Delete it.name.name ts)
  deleted_read it ts is = rw (atom_read names vars Plain it.place it.name it.args ts is) refl

  target_read : (given : Gives) (it : RawCall) (ts : List Term) (is : Target given it ts) → target_args names vars it (parsed is.function.args) ≡ parsed ts
  target_read given it ts is = arguments_read names vars Plain it.place it.name.name is.function.args it.args ts is.arguments

  pub number_read : (c : RawChange) (it : RawCall) (value : RawTerm) (ts : List Term) (e : Expr)
      → Target gives.Number it ts → DenotesExpr names vars Plain value e → changed names vars c it value ≡ parsed (effect.Number (change_of c) it.name.name ts e)
  number_read stated.Assign it value ts e is so =
      rw (is.declared, is.of_sort, target_read gives.Number it ts is, expr_read names vars Plain value e so) refl
  number_read stated.Increase it value ts e is so =
      rw (is.declared, is.of_sort, target_read gives.Number it ts is, expr_read names vars Plain value e so) refl
  number_read stated.Decrease it value ts e is so =
      rw (is.declared, is.of_sort, target_read gives.Number it ts is, expr_read names vars Plain value e so) refl
  number_read stated.ScaleUp it value ts e is so =
      rw (is.declared, is.of_sort, target_read gives.Number it ts is, expr_read names vars Plain value e so) refl
  number_read stated.ScaleDown it value ts e is so =
      rw (is.declared, is.of_sort, target_read gives.Number it ts is, expr_read names vars Plain value e so) refl

  pub object_read : (it : RawCall) (value : RawTerm) (of : Name) (ts : List Term) (t : Term) → Target (gives.Object of) it ts
      → DenotesTerm names vars Plain (Some of) value t → changed names vars stated.Assign it value ≡ parsed (effect.Object it.name.name ts t)
  object_read it value of ts t is so =
      rw (is.declared, is.of_sort, target_read (gives.Object of) it ts is, term_read names vars Plain (Some of) value t so) refl

  pub undefined_read : (it : RawCall) (place : Place) (of : Name) (ts : List Term) → Target (gives.Object of) it ts
      → undefined names vars it place (function_of names it.name.name) ≡ parsed (effect.Undefine it.name.name ts)
  undefined_read it place of ts is = rw (is.declared, is.of_sort, target_read (gives.Object of) it ts is) refl

  -- ---- what is read is denoted

  atom_sound : (it : RawCall) → Sound (atom names vars it) (Atom it)
  atom_sound it = sound_of (Atom it) (atom names vars it) (λ ts e. atom_denotes names vars Plain it.place it.name it.args ts e)

  pub added_sound : (it : RawCall) → Sound (added names vars it) (DenotesSimple names vars (raw.Add it))
  added_sound it =
      sound_over (Atom it) (Simple (raw.Add it)) (effect.Add it.name.name) (atom names vars it)
      (λ ts is. of_add it ts is) (atom_sound it)

  pub deleted_sound : (it : RawCall) → Sound (deleted names vars it) (DenotesSimple names vars (raw.Delete it))
  deleted_sound it =
      sound_over (Atom it) (Simple (raw.Delete it)) (effect.Delete it.name.name) (atom names vars it)
      (λ ts is. of_delete it ts is) (atom_sound it)

  target_sound : (given : Gives) (it : RawCall) (function : Signature) → function_of names it.name.name ≡ Some function → function.gives ≡ given
      → Sound (target_args names vars it (parsed function.args)) (Target given it)
  target_sound given it function is so =
      sound_of (Target given it) (target_args names vars it (parsed function.args))
      (λ ts e. record {
        function = function;
        declared = is;
        of_sort = so;
        arguments = arguments_denote names vars Plain it.place it.name.name function.args it.args ts e;
      })

  expr_sound : (value : RawTerm) → Sound (expr names vars Plain value) (DenotesExpr names vars Plain value)
  expr_sound value = sound_of (DenotesExpr names vars Plain value) (expr names vars Plain value) (λ e so. expr_denotes names vars Plain value e so)

  term_sound : (due : Option Name) (value : RawTerm) → Sound (term names vars Plain value due) (DenotesTerm names vars Plain due value)
  term_sound due value = sound_of (DenotesTerm names vars Plain due value) (term names vars Plain value due) (λ t e. term_denotes names vars Plain due value t e)

  number_sound : (c : RawChange) (it : RawCall) (value : RawTerm) (function : Signature) → function_of names it.name.name ≡ Some function
      → function.gives ≡ gives.Number → Sound (number_changed names vars (change_of c) it value (parsed function.args)) (Simple (raw.Change c it value))
  number_sound c it value function is so =
      sound_two (Target gives.Number it) (DenotesExpr names vars Plain value) (Simple (raw.Change c it value))
      (effect.Number (change_of c) it.name.name) (target_args names vars it (parsed function.args)) (expr names vars Plain value)
      (λ ts e at this. of_number c it value ts e at this) (target_sound gives.Number it function is so) (expr_sound value)

  assigned_by_sound : (it : RawCall) (value : RawTerm) (function : Signature) (g : Gives) → function_of names it.name.name ≡ Some function → function.gives ≡ g
      → Sound (assigned_by names vars it value function.args g) (Simple (raw.Change stated.Assign it value))
  assigned_by_sound it value function gives.Number is so = number_sound stated.Assign it value function is so
  assigned_by_sound it value function (gives.Object of) is so =
      sound_two (Target (gives.Object of) it) (DenotesTerm names vars Plain (Some of) value) (Simple (raw.Change stated.Assign it value))
      (effect.Object it.name.name) (target_args names vars it (parsed function.args)) (term names vars Plain value (Some of))
      (λ ts t at this. of_object it value of ts t at this) (target_sound (gives.Object of) it function is so) (term_sound (Some of) value)

  assigned_sound : (it : RawCall) (value : RawTerm) (found : Option Signature) → function_of names it.name.name ≡ found
      → Sound (assigned names vars it value found) (Simple (raw.Change stated.Assign it value))
  assigned_sound it value None is = tt
  assigned_sound it value (Some function) is = assigned_by_sound it value function function.gives is refl

  giver_sound : (c : RawChange) (it : RawCall) (value : RawTerm) (function : Signature) (g : Gives) → function_of names it.name.name ≡ Some function
      → function.gives ≡ g → Sound (number_changed names vars (change_of c) it value (number_giver it.name function.args g)) (Simple (raw.Change c it value))
  giver_sound c it value function gives.Number is so = number_sound c it value function is so
  giver_sound c it value function (gives.Object of) is so = tt

  number_in_sound : (c : RawChange) (it : RawCall) (value : RawTerm) (found : Option Signature) → function_of names it.name.name ≡ found
      → Sound (number_changed names vars (change_of c) it value (numeric_function it.name found)) (Simple (raw.Change c it value))
  number_in_sound c it value None is = tt
  number_in_sound c it value (Some function) is = giver_sound c it value function function.gives is refl

  pub changed_sound : (c : RawChange) (it : RawCall) (value : RawTerm) → Sound (changed names vars c it value) (DenotesSimple names vars (raw.Change c it value))
  changed_sound stated.Assign it value = assigned_sound it value (function_of names it.name.name) refl
  changed_sound stated.Increase it value = number_in_sound stated.Increase it value (function_of names it.name.name) refl
  changed_sound stated.Decrease it value = number_in_sound stated.Decrease it value (function_of names it.name.name) refl
  changed_sound stated.ScaleUp it value = number_in_sound stated.ScaleUp it value (function_of names it.name.name) refl
  changed_sound stated.ScaleDown it value = number_in_sound stated.ScaleDown it value (function_of names it.name.name) refl

  object_kept : (it : RawCall) (place : Place) (function : Signature) (g : Gives) → function_of names it.name.name ≡ Some function → function.gives ≡ g
      → Sound (over (effect.Undefine it.name.name) (followed (target_args names vars it (parsed function.args)) (kept_number place g)))
      (Simple (raw.Undefine it place))
  object_kept it place function gives.Number is so =
      sound_over (λ ts. ⊥) (Simple (raw.Undefine it place)) (effect.Undefine it.name.name) _ (λ ts none. absurd none)
      (sound_followed (λ ts. ⊥) (target_args names vars it (parsed function.args)) (kept_number place gives.Number) (λ e. cc))
  object_kept it place function (gives.Object of) is so =
      sound_over (Target (gives.Object of) it) (Simple (raw.Undefine it place)) (effect.Undefine it.name.name) _
      (λ ts at. of_undefine it place of ts at)
      (sound_followed (Target (gives.Object of) it) (target_args names vars it (parsed function.args)) (kept_number place (gives.Object of))
      (λ e. target_sound (gives.Object of) it function is so))

  pub undefined_sound : (it : RawCall) (place : Place) (found : Option Signature) → function_of names it.name.name ≡ found
      → Sound (undefined names vars it place found) (Simple (raw.Undefine it place))
  undefined_sound it place None is = tt
  undefined_sound it place (Some function) is = object_kept it place function function.gives is refl
