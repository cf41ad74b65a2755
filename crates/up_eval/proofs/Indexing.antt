-- Entries are put into a table by name from the last one on, so that the first of a name stays.
use Rattle.std.proofs.Common.{◌≡◌, ℕ, cond, Bool, true, false, true≢false, ◌&&◌, ◌||◌, List, [], ◌∷◌, ◌++◌, length, Option, Some, None, refl, ap, sym, ◌∙◌, subst}
use Rattle.std.specs.Prelude.{find, is_some, unwrap_or}
use Rattle.std.specs.List.{list_any}
use Rattle.std.specs.Borrow.{Bor}
use Rattle.std.specs.Option.{option_copied, option_or}
use Rattle.std.proofs.lemmas.List.Folds.{find-append}
use Rattle.indexmap.specs.IndexMap.{IndexMap, get}
use Rattle.up_text.specs.declared.name.Name.{Name}
use Rattle.up_text.specs.Names.{same_name}
use Rattle.up_tree.specs.declared.term.Typed.{Typed}
use Rattle.up_tree.specs.declared.action.Action.{Action}
use Rattle.up_tree.specs.Objects.{World, named, is_below}
use Rattle.up_eval.specs.Index.{HasTyped, HasActions}
use Rattle.up_eval.specs.Arguments.{is_object_of}

or_none : {E : Type 0} (found : Option E) → found ≡ option_or found None
or_none None = refl
or_none (Some e) = refl

or_one : {E : Type 0} (found : Option E) (b : Bool) (e : Bor E) (table : Option (Bor E))
    → option_or (option_or found (cond b (Some e.now) None)) (option_copied table) ≡ option_or found (option_copied (cond b (Some e) table))
or_one None true e table = refl
or_one None false e table = refl
or_one (Some x) b e table = refl

no_length : {E : Type 0} (m : List E) → length m ≡ 0 → m ≡ []
no_length [] none = refl
no_length (e ∷ m) none = absurd cc

-- entries of one sort, by their names
module _ {E : Type 0} (key : E → Name) where
  abbrev pub first_of : List E → List ℕ → Option E
  first_of m name = find (λ e. same_name (key e) name) m

  -- the first of a name is among those that aren't in the table yet, or else in the table
  pub record HasRest {S : Type 0} (table : IndexMap (List ℕ) (Bor E) S) (rest m : List E) : Type 0 where
    pub each : (name : List ℕ) → first_of m name ≡ option_or (first_of rest name) (option_copied (get same_name table name))

  pub rest_none : {S : Type 0} (table : IndexMap (List ℕ) (Bor E) S) (rest m : List E) → rest ≡ m → ((name : List ℕ) → get same_name table name ≡ None) → HasRest table rest m
  rest_none table rest m is none = record {
    each = λ name.
        or_none (first_of m name) ∙ ap (λ (t : Option (Bor E)). option_or (first_of m name) (option_copied t)) (sym (none name))
        ∙ ap (λ (row : List E). option_or (first_of row name) (option_copied (get same_name table name))) (sym is);
  }

  pub rest_more : {S : Type 0} (old new : IndexMap (List ℕ) (Bor E) S) (rest others m : List E) (e : Bor E) (name_of : List ℕ) → rest ≡ others ++ e.now ∷ []
      → name_of ≡ key e.now
      → ((name : List ℕ) → get same_name new name ≡ cond (same_name name_of name) (Some e) (get same_name old name))
      → HasRest old rest m → HasRest new others m
  rest_more old new rest others m e name_of is key_is updated have = record {
    each = λ name.
        have.each name
        ∙ ap (λ (row : List E). option_or (first_of row name) (option_copied (get same_name old name))) is
        ∙ ap (λ (f : Option E). option_or f (option_copied (get same_name old name))) (find-append (λ (x : E). same_name (key x) name) others (e.now ∷ []))
        ∙ or_one (first_of others name) (same_name (key e.now) name) e (get same_name old name)
        ∙ ap (λ (t : Option (Bor E)). option_or (first_of others name) (option_copied t))
        (ap (λ (k : List ℕ). cond (same_name k name) (Some e) (get same_name old name)) (sym key_is) ∙ sym (updated name));
  }

  pub rest_all : {S : Type 0} (table : IndexMap (List ℕ) (Bor E) S) (rest m : List E) → length rest ≡ 0 → HasRest table rest m
      → (name : List ℕ) → option_copied (get same_name table name) ≡ first_of m name
  rest_all table rest m is have name =
      sym (have.each name ∙ ap (λ (row : List E). option_or (first_of row name) (option_copied (get same_name table name))) (no_length rest is))

abbrev pub name_of_typed : Typed → Name
name_of_typed entry = entry.name

abbrev pub name_of_action : Action → Name
name_of_action action = action.name

pub typed_none : {S : Type 0} (table : IndexMap (List ℕ) (Bor Typed) S) (rest m : List Typed) → rest ≡ m → ((name : List ℕ) → get same_name table name ≡ None)
    → HasRest name_of_typed table rest m
typed_none table rest m is none = rest_none name_of_typed table rest m is none

pub typed_all : {S : Type 0} (table : IndexMap (List ℕ) (Bor Typed) S) (rest m : List Typed) → length rest ≡ 0 → HasRest name_of_typed table rest m → HasTyped table m
typed_all table rest m is have = rest_all name_of_typed table rest m is have

pub actions_none : {S : Type 0} (table : IndexMap (List ℕ) (Bor Action) S) (rest m : List Action) → rest ≡ m → ((name : List ℕ) → get same_name table name ≡ None)
    → HasRest name_of_action table rest m
actions_none table rest m is none = rest_none name_of_action table rest m is none

pub actions_all : {S : Type 0} (table : IndexMap (List ℕ) (Bor Action) S) (rest m : List Action) → length rest ≡ 0 → HasRest name_of_action table rest m → HasActions table m
actions_all table rest m is have = rest_all name_of_action table rest m is have

pub ruleset entries = (typed_none, typed_all, actions_none, actions_all)

-- ---- an object of a type, by the first of its name

module _ (w : World) (t o : Name) where
  pub of_first : (es : List Typed) (x : Typed) → named es o ≡ Some x → is_below w x.of t ≡ true → is_object_of w t es o ≡ true
  of_first [] x e below = absurd (some_none e)
    where
      some_none : None ≡ Some x → ⊥
      some_none e = true≢false (sym (ap is_some e))
  of_first (y ∷ es) x e below = by (same_name y.name o) e (of_first es x)
    where
      by : (b : Bool) → cond b (Some y) (named es o) ≡ Some x → (named es o ≡ Some x → is_below w x.of t ≡ true → is_object_of w t es o ≡ true)
          → ((b && is_below w y.of t) || is_object_of w t es o) ≡ true
      by true e rest = ap (λ b. b || is_object_of w t es o) (ap (λ (z : Typed). is_below w z.of t) (ap (λ z. unwrap_or z y) e) ∙ below)
      by false e rest = rest e below

  pub of_none : (es : List Typed) → named es o ≡ None → is_object_of w t es o ≡ false
  of_none [] e = refl
  of_none (y ∷ es) e = by (same_name y.name o) e (of_none es)
    where
      by : (b : Bool) → cond b (Some y) (named es o) ≡ None → (named es o ≡ None → is_object_of w t es o ≡ false)
          → ((b && is_below w y.of t) || is_object_of w t es o) ≡ false
      by true e rest = absurd (true≢false (ap is_some e))
      by false e rest = rest e

pub ruleset by_first = (of_first, of_none)
