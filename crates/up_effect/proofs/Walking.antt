-- What stands around an effect, as the traversal goes in and out.
use Rattle.std.proofs.Common.{◌≡◌, ◌+◌, List, [], ◌∷◌, ◌++◌, length, take, Option, Some, None, refl, ap, sym, ◌∙◌, arith}
use Rattle.std.proofs.lemmas.List.{length-append}
use Rattle.std.proofs.Math.Seq.{take-append_seam}
use Rattle.std.specs.Prelude.{MatchOption}
use Rattle.pddl_lex.specs.Parses.{parsed, first, before}
use Rattle.pddl_parse.specs.declared.raw.RawEffect.{RawEffect}
use Rattle.pddl_parse.specs.declared.raw.RawFormula.{RawFormula}
use Rattle.pddl_parse.specs.declared.raw.RawGroup.{RawGroup}
use Rattle.up_text.specs.declared.name.Name.{Name}
use Rattle.up_tree.specs.declared.action.Effect.{Effect}
use Rattle.up_tree.specs.declared.action.Row.{Row}
use Rattle.up_tree.specs.declared.formula.Formula.{Formula}
use Rattle.up_phrase.specs.declared.fault.Fault.{Fault}
use Rattle.up_phrase.specs.declared.term.Setting.TheVariants.{Plain}
use Rattle.up_phrase.specs.Conditions.{formula}
use Rattle.up_phrase.specs.Declarations.{Declarations}
use Rattle.up_phrase.specs.Scopes.{Variables, entered_groups}
use Rattle.up_phrase.specs.Walks.{Checked}
use Rattle.up_phrase.proofs.Entering.{leaves_entered}
use Rattle.up_phrase.proofs.Steps.{first_over}
use Rattle.up_effect.specs.Effects.{Around, with_variables, under, row, simple, rows, rows_for_all, rows_when}

pub same_around : (a b : Around) → a.parameters ≡ b.parameters → a.variables ≡ b.variables → a.barred ≡ b.barred → a.whens ≡ b.whens → a ≡ b
same_around a b p v r w = λ i. record { parameters = p i; variables = v i; barred = r i; whens = w i }

-- a `forall` whose variables have been entered
pub for_all_on : (names : Declarations) (a inner : Around) (groups : List RawGroup) (body : RawEffect) (vars : Variables)
    → entered_groups names a.barred groups a.variables ≡ parsed vars → inner ≡ with_variables a vars
    → rows_for_all names a groups body ≡ rows names inner body
for_all_on names a inner groups body vars e is = rw (e, is) refl

-- and left again
pub for_all_left : (names : Declarations) (barred : List Name) (groups : List RawGroup) (vars more : Variables)
    → entered_groups names barred groups vars ≡ parsed more → take (length vars) more ≡ vars
for_all_left names barred groups vars more e = leaves_entered names barred groups vars more e

-- a `when` whose condition has been read
pub when_on : (names : Declarations) (a : Around) (condition : RawFormula) (body : RawEffect) (f : Formula)
    → formula names a.variables Plain condition ≡ parsed f → rows_when names a condition body ≡ rows names (under a f) body
when_on names a condition body f e = rw e refl

-- a simple effect whose row has been put after those before it
pub simple_on : (a : Around) (v : Checked Effect) (e : Effect) (old new : List Row) → v ≡ parsed e → new ≡ old ++ row a e ∷ []
    → before old (simple a v) ≡ parsed new
simple_on a v e old new is grown = rw (is, grown) refl

pub simple_off : (a : Around) (v : Checked Effect) (fault : Fault) → first v ≡ Some fault → first (simple a v) ≡ Some fault
simple_off a v fault e = first_over (λ e. row a e ∷ []) v ∙ e

last_off : (old new : List Formula) (f last : Formula) → old ++ f ∷ [] ≡ new ++ last ∷ [] → new ≡ old
last_off old new f last e =
    let one : length (old ++ f ∷ []) ≡ length old + 1 = length-append old (f ∷ []) in
    let two : length (new ++ last ∷ []) ≡ length new + 1 = length-append new (last ∷ []) in
    let both : length (old ++ f ∷ []) ≡ length (new ++ last ∷ []) = ap length e in
    let same : length new ≡ length old = omega (arith, one, two, both) in
    sym (take-append_seam new (last ∷ [])) ∙ ap (take (length new)) (sym e) ∙ ap (λ n. take n (old ++ f ∷ [])) same ∙ take-append_seam old (f ∷ [])

-- the innermost condition has been taken away
pub popped : (old now new : List Formula) (f : Formula) (taken : Option Formula) → now ≡ old ++ f ∷ []
    → MatchOption taken ((now ≡ []) × (new ≡ [])) (λ last. now ≡ new ++ last ∷ []) → new ≡ old
popped old now new f None grown is =
    let one : length (old ++ f ∷ []) ≡ length old + 1 = length-append old (f ∷ []) in
    let none : length (old ++ f ∷ []) ≡ 0 = ap length (sym grown ∙ is.0) in
    absurd (omega (arith, one, none))
popped old now new f (Some last) grown is = last_off old new f last (sym grown ∙ is)
