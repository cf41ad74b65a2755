-- The entries of pairs, which keep each step of the action that a new one stands for.
use Rattle.std.proofs.Common.{◌≡◌, ℕ, zero, suc, ◌≤◌, List, [], ◌∷◌, map, length, IsSomeAnd, refl, ap, sym, subst, arith}
use Rattle.up_text.specs.Lists.{Every, Member, Differ}
use Rattle.up_tree.specs.declared.action.Action.{Action}
use Rattle.up_tree.specs.declared.problem.Parts.{Parts}
use Rattle.up_compiler.specs.declared.back.Entry.{Entry}
use Rattle.up_compiler.specs.declared.back.Item.TheVariants.{Argument}
use Rattle.up_compiler.specs.Back.{IsWithin, TargetFits, IsBack, AreOf, LeadsTo}
use Rattle.up_compiler.specs.Identity.{arguments}
use Rattle.step_laws.specs.Naming.{Stands, entry_of}
use Rattle.step_laws.proofs.Splitting.{find_member}
use Rattle.step_laws.proofs.Unchanged.{length-arguments}
use Rattle.semantics_laws.proofs.Lists.{each_as}
use Rattle.compiling_laws.proofs.Names.{every_append}
use Rattle.compiling_laws.specs.Entries.{EntriesFit, StandsIn}

pub rows_from : (pairs : List Stands) → AreOf (map (λ (pair : Stands). pair.new) pairs) (map entry_of pairs)
rows_from [] = tt
rows_from (pair ∷ pairs) = (refl, refl, rows_from pairs)

pub names_from : (pairs : List Stands) → map (λ (e : Entry). e.action) (map entry_of pairs) ≡ map (λ (pair : Stands). pair.new.name) pairs
names_from [] = refl
names_from (pair ∷ pairs) = ap (λ l. pair.new.name ∷ l) (names_from pairs)

pub arguments_within : (n k : ℕ) → k ≤ n → Every (IsWithin n) (arguments k)
unfolding arguments
arguments_within n zero le = tt
arguments_within n (suc k) le = every_append (IsWithin n) (arguments k) (Argument (suc k) ∷ []) (arguments_within n k (omega (arith, le))) ((omega arith, le), tt)

pub fits_from : (pairs : List Stands) → Every (λ (pair : Stands). length pair.old.params ≤ length pair.new.params) pairs
    → Every (λ (e : Entry). TargetFits e.arity e.target) (map entry_of pairs)
fits_from [] h = tt
fits_from (pair ∷ pairs) h = (arguments_within (length pair.new.params) (length pair.old.params) h.0, fits_from pairs h.1)

pub leads_from : (p : Parts) → Differ (map (λ (a : Action). a.name) p.actions) → (pairs : List Stands) → Every (λ (pair : Stands). Member pair.old p.actions) pairs
    → LeadsTo p (map entry_of pairs)
leads_from p differ [] h = tt
leads_from p differ (pair ∷ pairs) h = (
  subst (λ found. IsSomeAnd found (λ (b : Action). length (arguments (length pair.old.params)) ≡ length b.params))
      (sym (find_member (λ (b : Action). b.name) p.actions pair.old differ h.0)) (length-arguments (length pair.old.params)),
  leads_from p differ pairs h.1,
)

-- where new names differ, and no new action has fewer parameters than the one that it stands for, the entries fit
pub fit_from : (pairs : List Stands) → Differ (map (λ (pair : Stands). pair.new.name) pairs) → Every (λ (pair : Stands). length pair.old.params ≤ length pair.new.params) pairs
    → IsBack (map entry_of pairs)
fit_from pairs differ enough = record { differ = subst Differ (sym (names_from pairs)) differ; within = fits_from pairs enough }

pub pairs_fit : (p : Parts) (pairs : List Stands) → Differ (map (λ a. a.name) p.actions) → Differ (map (λ pair. pair.new.name) pairs) → Every (StandsIn p) pairs → EntriesFit p pairs
pairs_fit p pairs olds news each = record {
  rows = rows_from pairs;
  fit = fit_from pairs news (each_as _ _ (λ pair k. k.1) pairs each);
  leads = leads_from p olds pairs (each_as _ _ (λ pair k. k.0) pairs each);
}
