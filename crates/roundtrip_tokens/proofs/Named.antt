-- Names that are named somewhere are names.
use Rattle.std.proofs.Common.{◌≡◌, Bool, true, false, cond, List, [], ◌∷◌, ◌++◌, map, take, refl, subst, ℕ, zero, suc}
use Rattle.std.specs.Prelude.{Option, Some, None, IsTrue, IsSome, IsSomeAnd, find, drop}
use Rattle.std.proofs.lemmas.Bool.{false≢true}
use Rattle.std.proofs.lemmas.Slice.Eq.{bytes_eq-Decides}
use Rattle.up_text.specs.declared.name.Name.{Name}
use Rattle.up_text.specs.Names.{is_spelled, same_name}
use Rattle.up_text.specs.Lists.{Every}

abbrev pub Spelled : Name → Type 0
Spelled name = IsTrue (is_spelled name)

module _ {X : Type 0} (P : X → Type 0) where
  pub every-append : (xs ys : List X) → Every P xs → Every P ys → Every P (xs ++ ys)
  every-append [] ys one two = two
  every-append (x ∷ xs) ys one two = (one.0, every-append xs ys one.1 two)

  pub every-front : (xs ys : List X) → Every P (xs ++ ys) → Every P xs
  every-front [] ys all = tt
  every-front (x ∷ xs) ys all = (all.0, every-front xs ys all.1)

  pub every-back : (xs ys : List X) → Every P (xs ++ ys) → Every P ys
  every-back [] ys all = all
  every-back (x ∷ xs) ys all = every-back xs ys all.1

  pub every-take : (n : ℕ) (xs : List X) → Every P xs → Every P (take n xs)
  every-take zero xs all = tt
  every-take (suc n) [] all = tt
  every-take (suc n) (x ∷ xs) all = (all.0, every-take n xs all.1)

  pub every-drop : (n : ℕ) (xs : List X) → Every P xs → Every P (drop n xs)
  every-drop zero xs all = all
  every-drop (suc n) [] all = tt
  every-drop (suc n) (x ∷ xs) all = every-drop n xs all.1

pub every-map : {X Y : Type 0} (f : X → Y) (P : Y → Type 0) (Q : X → Type 0) → ((x : X) → P (f x) → Q x) → (xs : List X) → Every P (map f xs) → Every Q xs
every-map f P Q go [] all = tt
every-map f P Q go (x ∷ xs) all = (go x all.0, every-map f P Q go xs all.1)

pub every-each : {X : Type 0} (P Q : X → Type 0) → ((x : X) → P x → Q x) → (xs : List X) → Every P xs → Every Q xs
every-each P Q go [] all = tt
every-each P Q go (x ∷ xs) all = (go x all.0, every-each P Q go xs all.1)

pub every-both : {X : Type 0} (P Q : X → Type 0) (xs : List X) → Every P xs → Every Q xs → Every (λ x. P x × Q x) xs
every-both P Q [] one two = tt
every-both P Q (x ∷ xs) one two = ((one.0, two.0), every-both P Q xs one.1 two.1)

-- a name that some entry has
module _ {X : Type 0} (name_in : X → Name) where
  pub found_spelled : (xs : List X) (name : Name) → Every (λ x. Spelled (name_in x)) xs → IsSome (find (λ x. same_name (name_in x) name) xs) → Spelled name
  found_spelled [] name all some = absurd (false≢true some)
  found_spelled (x ∷ xs) name all some =
      let by_test : (b : Bool) → same_name (name_in x) name ≡ b → IsSome (cond b (Some x) (find (λ x. same_name (name_in x) name) xs)) → Spelled name =
      elim [
        | true ↦ λ is found. subst Spelled ((bytes_eq-Decides (name_in x) name).0 is) all.0
        | false ↦ λ is found. found_spelled xs name all.1 found
      ] in
      by_test (same_name (name_in x) name) refl some

pub found_and : {X : Type 0} (P : X → Type 0) (o : Option X) → IsSomeAnd o P → (x : X) × (o ≡ Some x) × P x
found_and P None is = absurd is
found_and P (Some x) is = (x, refl, is)

pub and_some : {X : Type 0} (P : X → Type 0) (o : Option X) → IsSomeAnd o P → IsSome o
and_some P None is = absurd is
and_some P (Some x) is = refl
