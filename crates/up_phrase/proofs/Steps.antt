-- Where a traversal goes on and where it stops.
use Rattle.std.proofs.Common.{◌≡◌, ℕ, ◌+◌, ◌<◌, ◌≤◌, ◌==◌, length, List, [], ◌∷◌, ◌++◌, map, drop, get_or, Option, Some, refl, ap, sym, ◌∙◌, append_assoc}
use Rattle.std.proofs.lemmas.List.{drop_more, drop_all, append-nil, length-map}
use Rattle.std.specs.Prelude.{Result, Ok, Err, IfErr, IsErrAnd}
use Rattle.pddl_lex.specs.Parses.{Parse, parsed, rejected, first, over, over_two, all, before}
use Rattle.up_text.specs.declared.name.Name.{Name}
use Rattle.up_text.specs.declared.place.Place.{Place}
use Rattle.up_tree.specs.declared.term.Term.{Term}
use Rattle.up_phrase.specs.declared.fault.Fault.{Fault}
use Rattle.up_phrase.specs.declared.fault.Fault.TheVariants.{Memory}
use Rattle.up_phrase.specs.declared.reason.Reason.TheVariants.{Arity}
use Rattle.up_phrase.specs.Named.{at}
use Rattle.up_phrase.specs.Terms.{each_due, applied}
use Rattle.up_phrase.specs.Walks.{Checked, after, unless, in_turn}

pub first_over : {F A B : Type 0} (g : A → B) (v : Parse F A) → first (over g v) ≡ first v
first_over g (parsed a) = refl
first_over g (rejected f fs) = refl

pub first_two : {F A B C : Type 0} (g : A → B → C) (v : Parse F A) (w : Parse F B) (f : F) → first v ≡ Some f → first (over_two g v w) ≡ Some f
first_two g (parsed a) w f e = cc
first_two g (rejected f fs) w h e = e

pub first_after : {A B : Type 0} (v : Checked A) (next : A → Checked B) (fault : Fault) → first v ≡ Some fault → first (after v next) ≡ Some fault
first_after (parsed a) next fault e = cc
first_after (rejected f fs) next fault e = e

pub before_none : {F A : Type 0} (v : Parse F (List A)) → before [] v ≡ v
before_none (parsed xs) = refl
before_none (rejected f fs) = refl

pub before_more : {F A : Type 0} (made : List A) (a : A) (v : Parse F (List A)) → before made (over (λ xs. a ∷ xs) v) ≡ before (made ++ a ∷ []) v
before_more made a (parsed xs) = ap parsed (sym (append_assoc made (a ∷ []) xs))
before_more made a (rejected f fs) = refl

pub none_due : {X A : Type 0} (f : X → Option Name → Checked A) (types : List Name) → each_due types (map f []) ≡ []
none_due f [] = refl
none_due f (due ∷ others) = refl

-- one more argument has been read, in a loop that stands at an index
pub due_on : {X A : Type 0} (f : X → Option Name → Checked A) (declared types others : List Name) (due : Name) (items : List X) (index : ℕ)
    (made more : List A) (x : X) (a : A) → index < length items → x ≡ get_or items index x → types ≡ due ∷ others → f x (Some due) ≡ parsed a
    → more ≡ made ++ a ∷ []
    → all (each_due declared (map f items)) ≡ before made (all (each_due types (map f (drop index items))))
    → all (each_due declared (map f items)) ≡ before more (all (each_due others (map f (drop (index + 1) items))))
due_on f declared types others due items index made more x a within is split e grown so_far =
    so_far ∙ rw (split, grown, drop_more items index x within, ← is, e) (before_more made a (all (each_due others (map f (drop (index + 1) items)))))

pub due_off : {X A : Type 0} (f : X → Option Name → Checked A) (declared types others : List Name) (due : Name) (items : List X) (index : ℕ)
    (made : List A) (x : X) (fault : Fault) → index < length items → x ≡ get_or items index x → types ≡ due ∷ others
    → first (f x (Some due)) ≡ Some fault
    → all (each_due declared (map f items)) ≡ before made (all (each_due types (map f (drop index items))))
    → first (all (each_due declared (map f items))) ≡ Some fault
due_off f declared types others due items index made x fault within is split e so_far =
    rw (so_far, split, drop_more items index x within, ← is) (first_over _ _ ∙ first_two _ (f x (Some due)) _ fault e)

-- all arguments have been read
pub due_all : {X A : Type 0} (f : X → Option Name → Checked A) (declared types : List Name) (items : List X) (index : ℕ) (made : List A)
    → length items ≤ index → all (each_due declared (map f items)) ≡ before made (all (each_due types (map f (drop index items))))
    → all (each_due declared (map f items)) ≡ parsed made
due_all f declared types items index made done so_far =
    so_far ∙ rw (drop_all index items done, none_due f types) (ap parsed (append-nil made))

-- a predicate or function at arguments
pub applied_parsed : {X : Type 0} (place : Place) (name : Name) (f : X → Option Name → Checked Term) (v : Checked (List Name)) (types : List Name)
    (args : List X) (terms : List Term) → v ≡ parsed types → unless (length args == length types) (at place Arity name) ≡ []
    → all (each_due types (map f args)) ≡ parsed terms → applied place name v (map f args) ≡ parsed terms
applied_parsed place name f v types args terms is count each = rw (is, length-map, count) each

pub applied_uneven : {X : Type 0} (place : Place) (name : Name) (f : X → Option Name → Checked Term) (v : Checked (List Name)) (types : List Name)
    (args : List X) (fault : Fault) → v ≡ parsed types → unless (length args == length types) (at place Arity name) ≡ fault ∷ []
    → first (applied place name v (map f args)) ≡ Some fault
applied_uneven place name f v types args fault is count = rw (is, length-map, count) refl

pub applied_rejected : {X : Type 0} (place : Place) (name : Name) (f : X → Option Name → Checked Term) (v : Checked (List Name)) (types : List Name)
    (args : List X) (fault : Fault) → v ≡ parsed types → unless (length args == length types) (at place Arity name) ≡ []
    → first (all (each_due types (map f args))) ≡ Some fault → first (applied place name v (map f args)) ≡ Some fault
applied_rejected place name f v types args fault is count each = rw (is, length-map, count) each

-- a fault that `?` hands on
pub handed_on : {T : Type 0} (result : Result T Fault) (fault : Fault) (stop : Option Fault) → IsErrAnd result (λ other. other ≡ fault)
    → (¬ (fault ≡ Memory) → stop ≡ Some fault) → IfErr result (λ other. ¬ (other ≡ Memory) → stop ≡ Some other)
handed_on (Ok value) fault stop is stops = tt
handed_on (Err other) fault stop is stops = λ some. stops (λ same. some (is ∙ same)) ∙ ap Some (sym is)

-- one more part has been read, in a loop that stands at an index
pub all_on : {X A : Type 0} (f : X → Checked A) (items : List X) (index : ℕ) (made more : List A) (x : X) (a : A)
    → index < length items → x ≡ get_or items index x → f x ≡ parsed a → more ≡ made ++ a ∷ []
    → all (map f items) ≡ before made (all (map f (drop index items)))
    → all (map f items) ≡ before more (all (map f (drop (index + 1) items)))
all_on f items index made more x a within is e grown so_far =
    so_far ∙ rw (grown, drop_more items index x within, ← is, e) (before_more made a (all (map f (drop (index + 1) items))))

pub all_off : {X A : Type 0} (f : X → Checked A) (items : List X) (index : ℕ) (made : List A) (x : X) (fault : Fault)
    → index < length items → x ≡ get_or items index x → first (f x) ≡ Some fault
    → all (map f items) ≡ before made (all (map f (drop index items)))
    → first (all (map f items)) ≡ Some fault
all_off f items index made x fault within is e so_far =
    rw (so_far, drop_more items index x within, ← is) (first_over _ _ ∙ first_two _ (f x) _ fault e)

-- one more item has had its turn, in a loop that stands at an index
pub turn_on : {X A : Type 0} (step : X → A → Checked A) (items : List X) (index : ℕ) (a b : A) (x : X)
    → index < length items → x ≡ get_or items index x → step x a ≡ parsed b
    → in_turn step (drop index items) a ≡ in_turn step (drop (index + 1) items) b
turn_on step items index a b x within is e = rw (drop_more items index x within, ← is, e) refl

pub turn_off : {X A : Type 0} (step : X → A → Checked A) (items : List X) (index : ℕ) (a : A) (x : X) (fault : Fault)
    → index < length items → x ≡ get_or items index x → first (step x a) ≡ Some fault
    → first (in_turn step (drop index items) a) ≡ Some fault
turn_off step items index a x fault within is e = rw (drop_more items index x within, ← is) (first_after (step x a) _ fault e)

pub before_before : {F A : Type 0} (made more : List A) (v : Parse F (List A)) → before made (before more v) ≡ before (made ++ more) v
before_before made more (parsed xs) = ap parsed (sym (append_assoc made more xs))
before_before made more (rejected f fs) = refl

pub ruleset steps = (first_over, first_two, first_after, before_none, length-map)
