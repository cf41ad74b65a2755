-- Traversals up a chain of parents.
use Rattle.std.proofs.Common.{◌≡◌, ℕ, zero, suc, ◌+◌, ◌-◌, ◌<◌, ◌≤◌, ◌⊎◌, inl, inr, ◌≢◌, not, Bool, true, false, List, [], ◌∷◌, length, set, get_or, slice_get, replicate, is_some, Option, Some, None, refl, ap, sym, subst, ◌∙◌, true≢false, arith}
use Rattle.std.proofs.lemmas.List.{get_or-set_other}
use Rattle.std.proofs.lemmas.Bool.{cases_eq}
use Rattle.up_text.specs.declared.name.Name.{Name}
use Rattle.up_declare.specs.Types.{Types, parent_in, leaves, reaches}
use Rattle.up_declare.specs.Marks.{Marked}
use Rattle.up_declare.proofs.Chains.{leaves_none, leaves_some, leaves_later, enough}

plus_one : (n : ℕ) → suc n ≡ n + 1
plus_one n = omega arith

-- the traversal has come `gone` steps up from a name
abbrev pub Climbed : Types → ℕ → Name → Name → Type 0
Climbed types gone name here = (m : ℕ) → leaves types (m + gone) name ≡ leaves types m here

pub climbed_none : (types : Types) (name : Name) → Climbed types 0 name name
climbed_none types name m = let same : m + 0 ≡ m = omega arith in ap (λ k. leaves types k name) same

pub climbed_more : (types : Types) (gone : ℕ) (name here parent : Name) → Climbed types gone name here → parent_in types here ≡ Some parent
    → Climbed types (suc gone) name parent
climbed_more types gone name here parent climbed is m =
    let same : m + suc gone ≡ suc m + gone = omega arith in
    ap (λ k. leaves types k name) same ∙ climbed (suc m) ∙ leaves_some types m here parent is

-- the chain from where the traversal is leaves the list
pub climbed_out : (types : Types) (gone m : ℕ) (name here : Name) → Climbed types gone name here → leaves types m here ≡ true → reaches types name ≡ true
climbed_out types gone m name here climbed out =
    ap (λ k. leaves types k name) (sym (plus_one (length types))) ∙ enough types (m + gone) name (climbed m ∙ out)

pub reaches_listed : (types : Types) (here parent : Name) → parent_in types here ≡ Some parent → leaves types (length types) parent ≡ true
    → reaches types here ≡ true
reaches_listed types here parent is out =
    ap (λ k. leaves types k here) (sym (plus_one (length types))) ∙ leaves_some types (length types) here parent is ∙ out

pub parent_leaves : (types : Types) (here parent : Name) → parent_in types here ≡ Some parent → reaches types here ≡ true
    → leaves types (length types) parent ≡ true
parent_leaves types here parent is reaching =
    sym (leaves_some types (length types) here parent is) ∙ ap (λ k. leaves types k here) (plus_one (length types)) ∙ reaching

pub parent_reaches : (types : Types) (here parent : Name) → parent_in types here ≡ Some parent → reaches types here ≡ true → reaches types parent ≡ true
parent_reaches types here parent is reaching =
    ap (λ k. leaves types k parent) (sym (plus_one (length types)))
    ∙ leaves_later types (length types) parent (parent_leaves types here parent is reaching)

last_by : (types : Types) (here : Name) (o : Option Name) → parent_in types here ≡ o → leaves types 1 here ≡ not (is_some o)
last_by types here None is = leaves_none types 0 here is
last_by types here (Some parent) is = leaves_some types 0 here parent is

-- so many steps have been gone as types are listed
pub climbed_all : (types : Types) (gone : ℕ) (name here : Name) → gone ≡ length types → Climbed types gone name here
    → reaches types name ≡ not (is_some (parent_in types here))
climbed_all types gone name here all climbed =
    let same : length types + 1 ≡ 1 + gone = omega (all, arith) in
    ap (λ k. leaves types k name) same ∙ climbed 1 ∙ last_by types here (parent_in types here) refl

none_set : (n i : ℕ) → get_or (replicate n false) i false ≡ false
none_set zero i = refl
none_set (suc n) zero = refl
none_set (suc n) (suc i) = none_set n i

pub marked_none : (types : Types) (n : ℕ) → Marked types (replicate n false)
marked_none types n i e is on = absurd (true≢false (sym on ∙ none_set n i))

some_same : (a b : Name × Name) → Some a ≡ Some b → a ≡ b
some_same a b e = cc

pub marked_more : (types : Types) (marks : List Bool) (at : ℕ) (entry : Name × Name) → Marked types marks → slice_get types at ≡ Some entry
    → leaves types (length types) entry.1 ≡ true → Marked types (set marks at true)
marked_more types marks at entry marked there out i e is on = by (cases_eq i at)
  where
    by : (i ≡ at) ⊎ (i ≢ at) → leaves types (length types) e.1 ≡ true
    by (inl same) =
        let entries : entry ≡ e = some_same entry e (sym there ∙ ap (slice_get types) (sym same) ∙ is) in
        ap (λ x. leaves types (length types) x.1) (sym entries) ∙ out
    by (inr other) = marked i e is (sym (get_or-set_other marks at i true false other) ∙ on)

pub climbed_left : (types : Types) (left : ℕ) (name here parent : Name) → left ≤ length types → 0 < left → Climbed types (length types - left) name here
    → parent_in types here ≡ Some parent → Climbed types (length types - (left - 1)) name parent
climbed_left types left name here parent within some climbed is m =
    let same : length types - (left - 1) ≡ suc (length types - left) = omega (within, some, arith) in
    ap (λ k. leaves types (m + k) name) same ∙ climbed_more types (length types - left) name here parent climbed is m

-- the traversal has come to a marked type
pub climbed_marked : (types : Types) (marks : List Bool) (gone at : ℕ) (name here key parent : Name) → Marked types marks
    → slice_get types at ≡ Some (key, parent) → parent_in types here ≡ Some parent → get_or marks at false ≡ true → Climbed types gone name here
    → reaches types name ≡ true
climbed_marked types marks gone at name here key parent marked there is on climbed =
    climbed_out types gone (suc (length types)) name here climbed (leaves_some types (length types) here parent is ∙ marked at (key, parent) there on)

pub climbed_unlisted : (types : Types) (gone : ℕ) (name here : Name) → parent_in types here ≡ None → Climbed types gone name here → reaches types name ≡ true
climbed_unlisted types gone name here none climbed = climbed_out types gone 1 name here climbed (leaves_none types 0 here none)

-- the type that the traversal has come to is marked too
pub marked_here : (types : Types) (marks more : List Bool) (at : ℕ) (here key parent : Name) → Marked types marks → reaches types here ≡ true
    → slice_get types at ≡ Some (key, parent) → parent_in types here ≡ Some parent → more ≡ set marks at true → Marked types more
marked_here types marks more at here key parent marked reaching there is set_on =
    subst (Marked types) (sym set_on) (marked_more types marks at (key, parent) marked there (parent_leaves types here parent is reaching))
