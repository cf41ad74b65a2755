-- The abstract syntax of a simple effect is read as its row.
use Rattle.std.proofs.Common.{◌≡◌, Bool, List, [], ◌∷◌, Some, refl, ap, ◌∙◌}
use Rattle.std.specs.Prelude.{⊤, IsSomeAnd}
use Rattle.up_text.specs.declared.name.Name.{Name}
use Rattle.up_text.specs.declared.place.Place.{Place}
use Rattle.up_tree.specs.declared.term.Typed.{Typed}
use Rattle.up_tree.specs.declared.term.Term.{Term}
use Rattle.up_tree.specs.declared.expr.Expr.{Expr}
use Rattle.up_tree.specs.declared.action.Change.{Change}
use Rattle.up_tree.specs.declared.action.Change.TheVariants as tree_change
use Rattle.up_tree.specs.declared.action.Effect.{Effect}
use Rattle.up_tree.specs.declared.action.Effect.TheVariants as effect
use Rattle.up_tree.specs.declared.problem.Function.{Function}
use Rattle.up_tree.specs.declared.problem.Gives.{Gives}
use Rattle.up_tree.specs.declared.problem.Gives.TheVariants as gives
use Rattle.up_tree.specs.declared.problem.Parts.{Parts}
use Rattle.up_tree.specs.Objects.{function_named}
use Rattle.up_tree.specs.WellFormed as tree
use Rattle.up_tree.specs.WellFormed.{gives_object, GivesNumber, TermFits, TermsFit, IsEffect}
use Rattle.pddl_lex.specs.Parses.{parsed, over, followed}
use Rattle.pddl_parse.specs.declared.raw.RawCall.{RawCall}
use Rattle.pddl_parse.specs.declared.raw.RawChange.TheVariants as change
use Rattle.pddl_parse.specs.declared.raw.RawEffect.{RawEffect}
use Rattle.pddl_parse.specs.declared.raw.RawTerm.{RawTerm}
use Rattle.pddl_parse.specs.Forms.{ident_at}
use Rattle.up_phrase.specs.declared.term.Setting.TheVariants.{Plain}
use Rattle.up_phrase.specs.Declarations.{Declarations}
use Rattle.up_phrase.specs.Exprs.{numeric_function, expr}
use Rattle.up_phrase.specs.Lookups.{function_of}
use Rattle.up_phrase.specs.Scopes.{Variables}
use Rattle.up_phrase.specs.Terms.{term}
use Rattle.up_phrase.specs.Walks.{Checked}
use Rattle.up_effect.specs.Effects.{Around, row, target_args, number_changed, assigned_by, assigned, changed, kept_number, undefined, simple, rows}
use Rattle.up_effect.proofs.EffectNodes.{rows-Add, rows-Delete, rows-Change, rows-Undefine}
use Rattle.roundtrip_tokens.proofs.Named.{found_and}
use Rattle.roundtrip_shapes.specs.Raw.{at, IsRawTerm, AreRawTerms, IsRawExpr}
use Rattle.roundtrip_shapes.specs.RawEffects.{raw_change, IsRawAt, at_args, an_add, a_delete, a_change, an_undefine, IsRawEffect}
use Rattle.roundtrip_names.specs.Declared.{Declares, SameScope, TypesWritten}
use Rattle.roundtrip_names.proofs.Terms.{applied_read, term_read, terms_read}
use Rattle.roundtrip_names.proofs.Exprs.{signature_found, numeric_read, expr_read}
use Rattle.roundtrip_names.proofs.Conditions.{atom_read}

module _ (names : Declarations) (p : Parts) (objects : List Typed) (agree : Declares names p objects) (written : Bool) (all_written : TypesWritten written p)
    (scope : List Typed) (vars : Variables) (same : SameScope scope vars) where
  target_read : (f : Name) (ts : List Term) (types : List Name) → TermsFit p objects scope ts types → (place there : Place) (args : List RawTerm) → AreRawTerms ts args
      → (declared : Checked (List Name)) → declared ≡ parsed types
      → target_args names vars (record { place = place; name = ident_at f there; args = args }) declared ≡ parsed ts
  target_read f ts types fit place there args are declared is =
      applied_read (term names vars Plain) place f declared types args ts is (terms_read names p objects agree scope vars same ts types fit args are)

  -- a number is changed
  number_read : (c : Change) (f : Name) (ts : List Term) (x : Expr) (d : Function) → function_named p f ≡ Some d → GivesNumber d.gives → TermsFit p objects scope ts d.args → tree.IsExpr p objects scope x
      → (call : RawCall) (value : RawTerm) → IsRawAt f (AreRawTerms ts) call → IsRawExpr x value
      → changed names vars (raw_change c) call value ≡ parsed (effect.Number c f ts x)
  number_read c f ts x d here number fit is _ value (at_args place _ args (at there) are) so = by c
    where
      call : RawCall
      call = record { place = place; name = ident_at f there; args = args }

      value_is : expr names vars Plain value ≡ parsed x
      value_is = expr_read names p objects agree scope vars same x is value so

      -- with the types of the arguments
      made : (c : Change) (declared : Checked (List Name)) → declared ≡ parsed d.args → number_changed names vars c call value declared ≡ parsed (effect.Number c f ts x)
      made c declared known = rw (target_read f ts d.args fit place there args are declared known, value_is) refl

      given : (g : Gives) → GivesNumber g → assigned_by names vars call value d.args g ≡ parsed (effect.Number tree_change.Assign f ts x)
      given gives.Number number = made tree_change.Assign (parsed d.args) refl
      given (gives.Object of) number = absurd number

      numeric : numeric_function (ident_at f there) (function_of names f) ≡ parsed d.args
      numeric = numeric_read names p objects agree (ident_at f there) d here number

      by : (c : Change) → changed names vars (raw_change c) call value ≡ parsed (effect.Number c f ts x)
      by tree_change.Assign = ap (assigned names vars call value) (signature_found names p objects agree f d here) ∙ given d.gives number
      by tree_change.Increase = made tree_change.Increase _ numeric
      by tree_change.Decrease = made tree_change.Decrease _ numeric
      by tree_change.ScaleUp = made tree_change.ScaleUp _ numeric
      by tree_change.ScaleDown = made tree_change.ScaleDown _ numeric

  -- an object is assigned
  object_read : (f : Name) (ts : List Term) (t : Term) (d : Function) → function_named p f ≡ Some d → IsSomeAnd (gives_object d.gives) (λ of. TermFits p objects scope t of)
      → TermsFit p objects scope ts d.args → (call : RawCall) (value : RawTerm) → IsRawAt f (AreRawTerms ts) call → IsRawTerm t value
      → changed names vars change.Assign call value ≡ parsed (effect.Object f ts t)
  object_read f ts t d here fits fit _ value (at_args place _ args (at there) are) so =
      ap (assigned names vars call value) (signature_found names p objects agree f d here) ∙ given d.gives fits
    where
      call : RawCall
      call = record { place = place; name = ident_at f there; args = args }

      given : (g : Gives) → IsSomeAnd (gives_object g) (λ of. TermFits p objects scope t of) → assigned_by names vars call value d.args g ≡ parsed (effect.Object f ts t)
      given gives.Number fits = absurd fits
      given (gives.Object of) fits =
          rw (target_read f ts d.args fit place there args are (parsed d.args) refl, term_read names p objects agree scope vars same t fits.0 (Some of) fits.1 value so) refl

  -- the value of a term is taken away
  undefined_read : (f : Name) (ts : List Term) (d : Function) → function_named p f ≡ Some d → IsSomeAnd (gives_object d.gives) (λ of. ⊤)
      → TermsFit p objects scope ts d.args → (call : RawCall) (word : Place) → IsRawAt f (AreRawTerms ts) call
      → undefined names vars call word (function_of names call.name.name) ≡ parsed (effect.Undefine f ts)
  undefined_read f ts d here some fit _ word (at_args place _ args (at there) are) =
      ap (undefined names vars call word) (signature_found names p objects agree f d here)
      ∙ ap (λ v. over (effect.Undefine f) (followed v (kept_number word d.gives))) (target_read f ts d.args fit place there args are (parsed d.args) refl) ∙ given d.gives some
    where
      call : RawCall
      call = record { place = place; name = ident_at f there; args = args }

      given : (g : Gives) → IsSomeAnd (gives_object g) (λ of. ⊤) → over (effect.Undefine f) (followed (parsed ts) (kept_number word g)) ≡ parsed (effect.Undefine f ts)
      given gives.Number some = absurd some
      given (gives.Object of) some = refl

-- the row of a simple effect
pub effect_read : (names : Declarations) (p : Parts) (objects : List Typed) (agree : Declares names p objects) (written : Bool) (all_written : TypesWritten written p)
    (scope : List Typed) (a : Around) → SameScope scope a.variables → (e : Effect) → IsEffect p objects scope e → (raw : RawEffect) → IsRawEffect e raw
    → rows names a raw ≡ parsed (row a e ∷ [])
effect_read names p objects agree written all_written scope a same (effect.Add name ts) is _ (an_add _ (at_args place _ args (at there) are)) =
    rows-Add names a (record { place = place; name = ident_at name there; args = args })
    ∙ ap (λ v. simple a (over (effect.Add name) v)) (atom_read names p objects agree written all_written scope a.variables same name ts is place there args are)
effect_read names p objects agree written all_written scope a same (effect.Delete name ts) is _ (a_delete _ (at_args place _ args (at there) are)) =
    rows-Delete names a (record { place = place; name = ident_at name there; args = args })
    ∙ ap (λ v. simple a (over (effect.Delete name) v)) (atom_read names p objects agree written all_written scope a.variables same name ts is place there args are)
effect_read names p objects agree written all_written scope a same (effect.Number c f ts x) is _ (a_change call value so_call so) =
    let Fits : Function → Type 0 = λ d. GivesNumber d.gives × TermsFit p objects scope ts d.args in
    let (d, here, known) = found_and Fits (function_named p f) is.0 in
    rows-Change names a (raw_change c) call value
    ∙ ap (simple a) (number_read names p objects agree written all_written scope a.variables same c f ts x d here known.0 known.1 is.1 call value so_call so)
effect_read names p objects agree written all_written scope a same (effect.Object f ts t) is _ (a_change call value so_call so) =
    let OfType : Function → Type 0 = λ d. IsSomeAnd (gives_object d.gives) (λ of. TermFits p objects scope t of) in
    let Fits : Function → Type 0 = λ d. TermsFit p objects scope ts d.args × OfType d in
    let (d, here, known) = found_and Fits (function_named p f) is in
    rows-Change names a change.Assign call value
    ∙ ap (simple a) (object_read names p objects agree written all_written scope a.variables same f ts t d here known.1 known.0 call value so_call so)
effect_read names p objects agree written all_written scope a same (effect.Undefine f ts) is _ (an_undefine call word so_call) =
    let OfType : Function → Type 0 = λ d. IsSomeAnd (gives_object d.gives) (λ of. ⊤) in
    let Fits : Function → Type 0 = λ d. TermsFit p objects scope ts d.args × OfType d in
    let (d, here, known) = found_and Fits (function_named p f) is in
    rows-Undefine names a call word
    ∙ ap (simple a) (undefined_read names p objects agree written all_written scope a.variables same f ts d here known.1 known.0 call word so_call)
