-- A run leaves as it was what no row changes.
use Rattle.std.proofs.Common.{◌≡◌, Bool, true, false, cond, List, [], ◌∷◌, find, Some, IsSomeAnd, refl, sym, ◌∙◌, subst, inl, inr}
use Rattle.up_text.specs.declared.name.Name.{Name}
use Rattle.up_text.specs.Names.{same_name}
use Rattle.up_text.specs.Lists.{Every, Somewhere}
use Rattle.up_tree.specs.declared.action.Action.{Action}
use Rattle.up_tree.specs.declared.problem.Parts.{Parts}
use Rattle.up_tree.specs.declared.problem.Step.{Step}
use Rattle.up_tree.specs.State.{State, init}
use Rattle.up_tree.specs.Faults.{IsNext}
use Rattle.up_tree.specs.Plans.{RunsFrom}
use Rattle.semantics_laws.specs.Symbols.{Symbol, StepChanges, target, AgreeOn}
use Rattle.semantics_laws.proofs.Framing.{rest_stays}
use Rattle.condition_laws.specs.Oracles.{IsChanged, IsUnchanged}

-- an action that is found is one of the list
of_found : (P : Action → Type 0) (actions : List Action) (name : Name) → IsSomeAnd (find (λ a. same_name a.name name) actions) P → Somewhere P actions
of_found P [] name h = absurd h
of_found P (a ∷ actions) name h = by (same_name a.name name) h (of_found P actions name)
  where
    by : (b : Bool) → IsSomeAnd (cond b (Some a) (find (λ a. same_name a.name name) actions)) P →
        (IsSomeAnd (find (λ a. same_name a.name name) actions) P → Somewhere P actions) → Somewhere P (a ∷ actions)
    by true h more = inl h
    by false h more = inr (more h)

changed_by_step : (p : Parts) (step : Step) (x : Symbol) → StepChanges p step x → IsChanged p x
changed_by_step p step x h = of_found (λ a. Somewhere (λ row. x ≡ target row.effect) a.rows) p.actions step.action h

-- states that agree one after another
pub agree_over : (Names : Symbol → Type 0) (s t u : State) → AgreeOn Names s t → AgreeOn Names t u → AgreeOn Names s u
agree_over Names s t u h k = record {
  atoms = λ q n objects. (λ a. (k.atoms q n objects).0 ((h.atoms q n objects).0 a), λ a. (h.atoms q n objects).1 ((k.atoms q n objects).1 a));
  numbers = λ f n objects. h.numbers f n objects ∙ k.numbers f n objects;
  values = λ f n objects. h.values f n objects ∙ k.values f n objects;
}

agree_on_fewer : (Names Fewer : Symbol → Type 0) (s t : State) → ((x : Symbol) → Fewer x → Names x) → AgreeOn Names s t → AgreeOn Fewer s t
agree_on_fewer Names Fewer s t within h = record {
  atoms = λ q n objects. h.atoms q (within _ n) objects;
  numbers = λ f n objects. h.numbers f (within _ n) objects;
  values = λ f n objects. h.values f (within _ n) objects;
}

pub itself : (Names : Symbol → Type 0) (s : State) → AgreeOn Names s s
itself Names s = record { atoms = λ q n objects. (λ a. a, λ a. a); numbers = λ f n objects. refl; values = λ f n objects. refl }

-- a step leaves as it was what no row changes
pub unchanged_next : (p : Parts) (s : State) (step : Step) (t : State) → IsUnchanged p s → IsNext p s step t → IsUnchanged p t
unchanged_next p s step t is next =
    agree_over (λ x. ¬ IsChanged p x) (init p) s t is
    (agree_on_fewer (λ x. ¬ StepChanges p step x) (λ x. ¬ IsChanged p x) s t (λ x n h. n (changed_by_step p step x h)) (rest_stays p s step t next))

from : (p : Parts) (s : State) → IsUnchanged p s → (steps : List Step) (states : List State) → RunsFrom p s steps states → Every (IsUnchanged p) states
from p s is [] states run = subst (Every (IsUnchanged p)) (sym run) (is, tt)
from p s is (step ∷ steps) states run =
    subst (Every (IsUnchanged p)) (sym run.1.3) (is, from p run.1.0 (unchanged_next p s step run.1.0 is run.1.2) steps run.1.1 run.1.4)

pub runs_leave_unchanged : (p : Parts) (steps : List Step) (states : List State) → RunsFrom p (init p) steps states → Every (IsUnchanged p) states
runs_leave_unchanged p steps states run = from p (init p) (itself (λ x. ¬ IsChanged p x) (init p)) steps states run
