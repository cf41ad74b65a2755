-- A fresh predicate that no row changes and no initial atom has is never reached.
use Rattle.std.proofs.Common.{◌≡◌, Bool, true, false, true≢false, ◌||◌, cond, List, [], ◌∷◌, ◌++◌, map, find, Some, IsSomeAnd, refl, ap, sym, ◌∙◌, subst, inl, inr}
use Rattle.std.specs.List.{list_any}
use Rattle.std.specs.Ordering.{eq_by_cmp}
use Rattle.std.specs.Cmp.{Equal-is}
use Rattle.std.specs.Cmp.Lexicographic.{bytes_decides}
use Rattle.std.specs.FinSet as set
use Rattle.up_text.specs.declared.name.Name.{Name}
use Rattle.up_text.specs.Names.{same_name}
use Rattle.up_text.specs.Lists.{Every, Somewhere, Member}
use Rattle.up_tree.specs.declared.term.Typed.{Typed}
use Rattle.up_tree.specs.declared.formula.Formula.{Atom}
use Rattle.up_tree.specs.declared.action.Effect.{Effect}
use Rattle.up_tree.specs.declared.action.Effect.TheVariants as effect
use Rattle.up_tree.specs.declared.action.Row.{Row}
use Rattle.up_tree.specs.declared.action.Action.{Action}
use Rattle.up_tree.specs.declared.problem.Parts.{Parts}
use Rattle.up_tree.specs.declared.problem.Predicate.{Predicate}
use Rattle.up_tree.specs.declared.problem.Fact.{Fact}
use Rattle.up_tree.specs.declared.problem.Plan.{Plan}
use Rattle.up_tree.specs.Objects.{world, unassigned}
use Rattle.up_tree.specs.State.{State, Ground, Holds, ground, ground_cmp, init}
use Rattle.up_tree.specs.Truth.{True}
use Rattle.up_tree.specs.Plans.{OfLast, PlansFree}
use Rattle.up_tree.specs.WellFormed.{IsEffect, IsRow, IsAction, IsFact}
use Rattle.up_tree.proofs.States.{ground_total, ground_ties}
use Rattle.semantics_laws.specs.Symbols.{Symbol, predicate, target}
use Rattle.condition_laws.specs.Oracles.{IsChanged, IsUnchanged}
use Rattle.condition_laws.proofs.Running.{runs_leave_unchanged}

-- the predicates of a problem by their names
abbrev pub predicates_of : Parts → List Name
predicates_of p = map (λ (d : Predicate). d.name) p.predicates

-- what is found is among the names
pub found_among : (P : Predicate → Type 0) (ds : List Predicate) (name : Name) → IsSomeAnd (find (λ d. same_name d.name name) ds) P → Member name (map (λ (d : Predicate). d.name) ds)
found_among P [] name h = absurd h
found_among P (d ∷ ds) name h = by (same_name d.name name) refl h (found_among P ds name)
  where
    by : (b : Bool) → same_name d.name name ≡ b → IsSomeAnd (cond b (Some d) (find (λ d. same_name d.name name) ds)) P
        → (IsSomeAnd (find (λ d. same_name d.name name) ds) P → Member name (map (λ (d : Predicate). d.name) ds)) → Member name (map (λ (d : Predicate). d.name) (d ∷ ds))
    by true is h later = inl (sym ((bytes_decides d.name name).0 is))
    by false is h later = inr (later h)

name_in : Symbol → Name → Name
name_in (predicate n) d = n
name_in s d = d

is_predicate : Symbol → Bool
is_predicate (predicate n) = true
is_predicate s = false

same_predicate : (n m : Name) → predicate n ≡ predicate m → n ≡ m
unfolding name_in
same_predicate n m e = ap (λ s. name_in s n) e

not_function : {X : Type 0} (n : Name) (s : Symbol) → predicate n ≡ s → is_predicate s ≡ false → X
unfolding is_predicate
not_function n s e h = absurd (true≢false (ap is_predicate e ∙ h))

-- an effect on an atom is on a predicate that is there
effect_among : (p : Parts) (objects scope : List Typed) (x : Effect) (name : Name) → IsEffect p objects scope x → predicate name ≡ target x → Member name (predicates_of p)
unfolding is_predicate
effect_among p objects scope (effect.Add n ts) name h e = subst (λ m. Member m (predicates_of p)) (sym (same_predicate name n e)) (found_among _ p.predicates n h)
effect_among p objects scope (effect.Delete n ts) name h e = subst (λ m. Member m (predicates_of p)) (sym (same_predicate name n e)) (found_among _ p.predicates n h)
effect_among p objects scope (effect.Number change f ts x) name h e = not_function name _ e refl
effect_among p objects scope (effect.Object f ts t) name h e = not_function name _ e refl
effect_among p objects scope (effect.Undefine f ts) name h e = not_function name _ e refl

-- what rows of well-formed actions change is there
rows_among : (p : Parts) (objects scope : List Typed) (rows : List Row) (name : Name) → Every (IsRow p objects scope) rows → Somewhere (λ row. predicate name ≡ target row.effect) rows
    → Member name (predicates_of p)
rows_among p objects scope [] name each m = absurd m
rows_among p objects scope (r ∷ rows) name each (inl e) = effect_among p objects (r.vars ++ scope) r.effect name each.0.effect e
rows_among p objects scope (r ∷ rows) name each (inr m) = rows_among p objects scope rows name each.1 m

pub changed_among : (p : Parts) (actions : List Action) (name : Name) → Every (IsAction p) actions
    → Somewhere (λ (a : Action). Somewhere (λ (row : Row). predicate name ≡ target row.effect) a.rows) actions → Member name (predicates_of p)
changed_among p [] name each m = absurd m
changed_among p (a ∷ actions) name each (inl m) = rows_among p _ a.params a.rows name each.0.rows m
changed_among p (a ∷ actions) name each (inr m) = changed_among p actions name each.1 m

-- an initial atom is of a predicate that is there
tied : (q k : Ground) → eq_by_cmp ground_cmp q k ≡ true → q ≡ k
tied q k e = ground_ties q k ((Equal-is (ground_cmp q k)).0 e)

first : Ground → Name → Name
first [] d = d
first (n ∷ ns) d = n

initial_among : (p : Parts) (facts : List Fact) (name : Name) (args : List Name) → Every (IsFact p) facts
    → list_any (eq_by_cmp ground_cmp (ground name args)) (map (λ (f : Fact). ground f.predicate f.args) facts) ≡ true → Member name (predicates_of p)
unfolding first
initial_among p [] name args each h = absurd (true≢false (sym h))
initial_among p (f ∷ facts) name args each h = by (eq_by_cmp ground_cmp (ground name args) (ground f.predicate f.args)) refl h (initial_among p facts name args each.1)
  where
    by : (b : Bool) → eq_by_cmp ground_cmp (ground name args) (ground f.predicate f.args) ≡ b
        → (b || list_any (eq_by_cmp ground_cmp (ground name args)) (map (λ (f : Fact). ground f.predicate f.args) facts)) ≡ true
        → (list_any (eq_by_cmp ground_cmp (ground name args)) (map (λ (f : Fact). ground f.predicate f.args) facts) ≡ true → Member name (predicates_of p))
        → Member name (predicates_of p)
    by true is h later =
        subst (λ n. Member n (predicates_of p)) (sym (ap (λ g. first g name) (tied (ground name args) (ground f.predicate f.args) is))) (found_among _ p.predicates f.predicate each.0)
    by false is h later = later h

pub holds_among : (p : Parts) (name : Name) (args : List Name) → Every (IsFact p) p.atoms → Holds (init p) (ground name args) → Member name (predicates_of p)
unfolding init
holds_among p name args facts h = initial_among p p.atoms name args facts (sym (set.contains-from_list ground_total _ (ground name args)) ∙ h)

last_of : (P Q : State → Type 0) → ((s : State) → P s → Q s → ⊥) → (states : List State) → Every P states → OfLast Q states → ⊥
last_of P Q h [] each last = last
last_of P Q h (s ∷ []) each last = h s each.0 last
last_of P Q h (s ∷ t ∷ rest) each last = last_of P Q h (t ∷ rest) each.1 last

-- with such a goal there is no plan
pub never_reached : (q : Parts) (name : Name) → (goal : q.goal ≡ Atom name []) → (¬ IsChanged q (predicate name)) → (¬ Holds (init q) (ground name [])) → (plan : Plan) → PlansFree q plan → ⊥
unfolding True
never_reached q name goal unchanged absent plan h =
    last_of (IsUnchanged q) (λ s. True (world q) s unassigned q.goal)
    (λ s is there. absent ((is.atoms name unchanged []).1 (subst (λ f. True (world q) s unassigned f) goal there))) h.0 (runs_leave_unchanged q plan.steps h.0 h.1) h.2
