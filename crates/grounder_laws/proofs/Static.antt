-- The oracle tells what no row changes.
use Rattle.std.proofs.Common.{◌≡◌, Bool, true, false, List, [], ◌∷◌, Some, None, ap, sym, inl, inr, map, ◌||◌, refl, ◌∙◌}
use Rattle.std.specs.Prelude.{if◌then◌else◌}
use Rattle.std.specs.List.{list_any}
use Rattle.std.specs.Cmp.Lexicographic.{bytes_decides, slice_cmp, lists_ties, texts_ties}
use Rattle.std.specs.Ordering.{nat_cmp, eq_by_cmp}
use Rattle.std.specs.FinSet as set
use Rattle.up_tree.proofs.States.{ground_total}
use Rattle.up_text.specs.declared.name.Name.{Name}
use Rattle.up_text.specs.Lists.{Somewhere}
use Rattle.up_tree.specs.declared.action.Action.{Action}
use Rattle.up_tree.specs.declared.action.Row.{Row}
use Rattle.up_tree.specs.declared.action.Effect.{Effect}
use Rattle.up_tree.specs.declared.action.Effect.TheVariants as effect
use Rattle.up_tree.specs.declared.problem.Parts.{Parts}
use Rattle.up_tree.specs.declared.problem.Fact.{Fact}
use Rattle.up_tree.specs.State.{ground, ground_cmp, init}
use Rattle.semantics_laws.specs.Symbols.{Symbol, predicate, function, target}
use Rattle.condition_laws.specs.Oracles.{holds, IsChanged, IsInitial}
use Rattle.condition_laws.proofs.Holding.{left, right}
use Rattle.compiling_laws.proofs.Lists.{none_some, some_same}
use Rattle.grounder_laws.specs.Grounder.{changes, is_changed, same_fact, is_initial, static}

named : Symbol → Name
named (predicate n) = n
named (function n) = n

apart : {A : Type 0} {n k : Name} → predicate n ≡ function k → A
apart e = cc

same_predicate : (n k : Name) → predicate n ≡ predicate k → n ≡ k
unfolding named
same_predicate n k e = ap named e

changed_by : (name : Name) (x : Effect) → predicate name ≡ target x → changes name x ≡ true
changed_by name (effect.Add p ts) e = (bytes_decides p name).1 (sym (same_predicate name p e))
changed_by name (effect.Delete p ts) e = (bytes_decides p name).1 (sym (same_predicate name p e))
changed_by name (effect.Number change f ts x) e = apart e
changed_by name (effect.Object f ts t) e = apart e
changed_by name (effect.Undefine f ts) e = apart e

-- what is there is found
somewhere_any : {X : Type 0} (P : X → Type 0) (test : X → Bool) (xs : List X) → ((x : X) → P x → test x ≡ true) → Somewhere P xs → list_any test xs ≡ true
somewhere_any P test [] f h = absurd h
somewhere_any P test (x ∷ xs) f (inl h) = left (test x) _ (f x h)
somewhere_any P test (x ∷ xs) f (inr h) = right (test x) _ (somewhere_any P test xs f h)

changed_is : (p : Parts) (name : Name) → IsChanged p (predicate name) → is_changed p name ≡ true
changed_is p name h =
    somewhere_any _ (λ a. list_any (λ (r : Row). changes name r.effect) a.rows) p.actions
    (λ (a : Action) k. somewhere_any _ (λ (r : Row). changes name r.effect) a.rows (λ r e. changed_by name r.effect e) k) h

-- the initial state holds the initial atoms
same_ground : (a b : Fact) → eq_by_cmp ground_cmp (ground a.predicate a.args) (ground b.predicate b.args) ≡ same_fact a b
same_ground a b = sym (lists_ties (slice_cmp nat_cmp) texts_ties (ground a.predicate a.args) (ground b.predicate b.args))

pub initial_holds : (p : Parts) (fact : Fact) → holds (init p) fact ≡ is_initial p fact
unfolding init
initial_holds p fact = set.contains-from_list ground_total (map (λ (a : Fact). ground a.predicate a.args) p.atoms) (ground fact.predicate fact.args) ∙ among p.atoms
  where
    among : (atoms : List Fact) → list_any (eq_by_cmp ground_cmp (ground fact.predicate fact.args)) (map (λ (a : Fact). ground a.predicate a.args) atoms) ≡ list_any (same_fact fact) atoms
    among [] = refl
    among (a ∷ atoms) = λ i. same_ground fact a i || among atoms i

pub oracle_is_initial : (p : Parts) → IsInitial p (static p)
oracle_is_initial p = record {
  unchanged = λ fact told h changed. out fact told (is_changed p fact.predicate) h (changed_is p fact.predicate changed);
  told = λ fact told h. tells fact told (is_changed p fact.predicate) h;
}
  where
    out : (fact : Fact) (told b : Bool) → (if b then None else Some (is_initial p fact)) ≡ Some told → b ≡ true → ⊥
    out fact told true h e = none_some h
    out fact told false h e = cc

    tells : (fact : Fact) (told b : Bool) → (if b then None else Some (is_initial p fact)) ≡ Some told → holds (init p) fact ≡ told
    tells fact told true h = none_some h
    tells fact told false h = initial_holds p fact ∙ some_same _ _ h
