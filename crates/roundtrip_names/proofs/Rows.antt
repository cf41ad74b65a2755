-- The abstract syntax of an effect is read as its rows, and that of an action as the action.
use Rattle.std.proofs.Common.{◌≡◌, Bool, true, false, ℕ, List, [], ◌∷◌, ◌++◌, map, take, drop, length, refl, ap, sym, ◌∙◌}
use Rattle.std.proofs.lemmas.Bool.{false≢true}
use Rattle.std.proofs.lemmas.List.{append-nil}
use Rattle.up_text.specs.declared.name.Name.{Name}
use Rattle.up_text.specs.Lists.{Every}
use Rattle.up_tree.specs.declared.term.Typed.{Typed}
use Rattle.up_tree.specs.declared.formula.Formula.{Formula, And, And', Or', Atom, Equal, Compare, items-the_row-Formula}
use Rattle.up_tree.specs.declared.action.Effect.{Effect}
use Rattle.up_tree.specs.declared.action.Row.{Row}
use Rattle.up_tree.specs.declared.problem.Parts.{Parts}
use Rattle.up_tree.specs.Nodes.{not, imply, exists, forall}
use Rattle.up_tree.specs.Simplify.{is_empty, is_true_formula}
use Rattle.up_tree.specs.WellFormed as tree
use Rattle.up_tree.specs.WellFormed.{AreVariables, IsEffect, IsRow, IsAction}
use Rattle.pddl_lex.specs.Parses.{parsed}
use Rattle.pddl_parse.specs.declared.raw.Ident.{Ident}
use Rattle.pddl_parse.specs.declared.raw.RawEffect.{RawEffect}
use Rattle.up_phrase.specs.Conditions.{bound}
use Rattle.up_phrase.specs.Declarations.{Declarations}
use Rattle.up_phrase.specs.Scopes.{Variables, typed}
use Rattle.up_effect.specs.Effects.{Around, within, under, together, rows}
use Rattle.up_effect.proofs.EffectNodes.{rows-And, rows-Forall, rows-When}
use Rattle.roundtrip_shapes.specs.Raw.{IsRawName, at, empty, first, IsRawFormula}
use Rattle.roundtrip_shapes.specs.RawEffects.{IsRawWhen, a_when, for_each, IsRawEffect, IsRawUnder, IsRawForEach, AreRawRows, IsRawAll, all_of, IsRawAction}
use Rattle.roundtrip_names.specs.Declared.{entry, Declares, SameScope, TypesWritten}
use Rattle.roundtrip_names.proofs.Found.{entry_found}
use Rattle.roundtrip_names.proofs.Entered.{scope_grown, bound_new, map_back, variables_entered}
use Rattle.roundtrip_names.proofs.Conditions.{and_rebuilt, formula_read}
use Rattle.roundtrip_names.proofs.Effects.{effect_read}
use Rattle.up_effect.specs.Actions.{action}
use Rattle.pddl_parse.specs.declared.raw.RawAction.{RawAction}
use Rattle.up_tree.specs.declared.action.Action.{Action}

-- the condition `true` is the empty `and`
always_is : (f : Formula) → is_true_formula f ≡ true → And [] ≡ f
always_is (And' n fs) is = by (items-the_row-Formula _ fs) is ∙ sym (and_rebuilt n fs)
  where
    by : (xs : List Formula) → is_empty xs ≡ true → And [] ≡ And xs
    by [] is = refl
    by (x ∷ xs) is = absurd (false≢true is)
always_is (Or' n fs) is = absurd (false≢true is)
always_is (not f) is = absurd (false≢true is)
always_is (imply f g) is = absurd (false≢true is)
always_is (exists vars f) is = absurd (false≢true is)
always_is (forall vars f) is = absurd (false≢true is)
always_is (Atom name ts) is = absurd (false≢true is)
always_is (Equal t u) is = absurd (false≢true is)
always_is (Compare r a b) is = absurd (false≢true is)

unconditional : (typed : Bool) (f : Formula) (E : RawEffect → Type 0) (raw : RawEffect) → is_true_formula f ≡ true → IsRawUnder typed f E raw → E raw
unconditional typed f E raw is = rw is (λ so. so)

conditional : (typed : Bool) (f : Formula) (E : RawEffect → Type 0) (raw : RawEffect) → is_true_formula f ≡ false → IsRawUnder typed f E raw → IsRawWhen (IsRawFormula typed f) E raw
conditional typed f E raw is = rw is (λ so. so)

-- these variables, of which so many are parameters, and no condition
abbrev among : ℕ → Variables → Around
among count vars = record { parameters = count; variables = vars; barred = []; whens = [] }

abbrev row_of : List Typed → Formula → Effect → Row
row_of vars f e = record { vars = vars; when = f; effect = e }

module _ (names : Declarations) (p : Parts) (objects : List Typed) (agree : Declares names p objects) (written : Bool) (all_written : TypesWritten written p) where
  -- an effect under its condition
  under_read : (scope : List Typed) (count : ℕ) (vars : Variables) → SameScope scope vars → (f : Formula) → tree.IsFormula p objects scope f → (e : Effect) → IsEffect p objects scope e
      → (raw : RawEffect) → IsRawUnder written f (IsRawEffect e) raw → rows names (among count vars) raw ≡ parsed (row_of (map typed (drop count vars)) f e ∷ [])
  under_read scope count vars same f is_f e is_e raw so = by (is_true_formula f) refl
    where
      when_read : is_true_formula f ≡ false → (raw : RawEffect) → IsRawWhen (IsRawFormula written f) (IsRawEffect e) raw → rows names (among count vars) raw ≡ parsed (row_of (map typed (drop count vars)) f e ∷ [])
      when_read is _ (a_when x y so_f so_e) =
          rows-When names (among count vars) x y
          ∙ rw (
            formula_read names p objects agree written all_written f scope vars same is_f x so_f,
            effect_read names p objects agree written all_written scope (under (among count vars) f) same e is_e y so_e,
            is,
          ) refl

      by : (b : Bool) → is_true_formula f ≡ b → rows names (among count vars) raw ≡ parsed (row_of (map typed (drop count vars)) f e ∷ [])
      by true is =
          effect_read names p objects agree written all_written scope (among count vars) same e is_e raw (unconditional written f (IsRawEffect e) raw is so)
          ∙ ap (λ g. parsed (row_of (map typed (drop count vars)) g e ∷ [])) (always_is f is)
      by false is = when_read is raw (conditional written f (IsRawEffect e) raw is so)

  -- an effect for each object of its variables
  each_read : (scope : List Typed) (vars : Variables) → SameScope scope vars → (new : List Typed) → AreVariables p scope new
      → (f : Formula) → tree.IsFormula p objects (new ++ scope) f → (e : Effect) → IsEffect p objects (new ++ scope) e
      → (raw : RawEffect) → IsRawForEach written new (IsRawUnder written f (IsRawEffect e)) raw → rows names (within vars []) raw ≡ parsed (row_of new f e ∷ [])
  each_read scope vars same [] are f is_f e is_e raw so =
      under_read scope (length vars) vars same f is_f e is_e raw so
      ∙ ap (λ new. parsed (row_of new f e ∷ [])) (ap (bound vars) (sym (append-nil vars)) ∙ bound_new vars [])
  each_read scope vars same (v ∷ new) are f is_f e is_e _ (for_each groups x so_vars so) =
      rows-Forall names (within vars []) groups x
      ∙ rw (variables_entered names p objects agree written all_written scope (v ∷ new) are groups so_vars vars same)
      (under_read ((v ∷ new) ++ scope) (length vars) (vars ++ map entry (v ∷ new)) (scope_grown scope (v ∷ new) vars same are.fresh) f is_f e is_e x so
      ∙ ap (λ made. parsed (row_of made f e ∷ [])) (bound_new vars (v ∷ new)))

  each_row_read : (scope : List Typed) (vars : Variables) → SameScope scope vars → (rs : List Row) → Every (IsRow p objects scope) rs
      → (raws : List RawEffect) → AreRawRows written rs raws → together (map (rows names (within vars [])) raws) ≡ parsed rs
  each_row_read scope vars same [] are _ empty = refl
  each_row_read scope vars same (r ∷ rs) are _ (first x raws so all_so) =
      rw (each_read scope vars same r.vars are.0.vars r.when are.0.when r.effect are.0.effect x so, each_row_read scope vars same rs are.1 raws all_so) refl

  -- the effect of an action
  pub rows_read : (scope : List Typed) (vars : Variables) → SameScope scope vars → (rs : List Row) → Every (IsRow p objects scope) rs
      → (raw : RawEffect) → IsRawAll (AreRawRows written rs) raw → rows names (within vars []) raw ≡ parsed rs
  rows_read scope vars same rs are _ (all_of raws so) = rows-And names (within vars []) raws ∙ each_row_read scope vars same rs are raws so

pub name_is : (name : Name) (ident : Ident) → IsRawName name ident → ident.name ≡ name
name_is name _ (at place) = refl

pub effects_are_named : (names : Declarations) (p : Parts) (objects : List Typed) → Declares names p objects → (typed : Bool) → TypesWritten typed p
    → (params : List Typed) (vars : Variables) → SameScope params vars
    → (rs : List Row) → Every (IsRow p objects params) rs → (raw : RawEffect) → IsRawAll (AreRawRows typed rs) raw → rows names (within vars []) raw ≡ parsed rs
effects_are_named names p objects agree written all_written scope vars same rs are raw so =
    rows_read names p objects agree written all_written scope vars same rs are raw so

pub actions_are_named : (names : Declarations) (p : Parts) → Declares names p (take p.constants p.objects) → (typed : Bool) → TypesWritten typed p
    → (a : Action) → IsAction p a → (raw : RawAction) → IsRawAction typed a raw → action names raw ≡ parsed a
actions_are_named names p agree written all_written a is raw so =
    let vars : Variables = map entry a.params in
    let same : SameScope a.params vars = λ v. entry_found a.params v in
    let objects : List Typed = take p.constants p.objects in
    rw (
      variables_entered names p objects agree written all_written [] a.params is.params raw.params so.params [] (λ v. refl),
      formula_read names p objects agree written all_written a.pre a.params vars same is.pre raw.pre so.pre,
      rows_read names p objects agree written all_written a.params vars same a.rows is.rows raw.effect so.effect,
      name_is a.name raw.name so.name,
      map_back a.params,
    ) refl
