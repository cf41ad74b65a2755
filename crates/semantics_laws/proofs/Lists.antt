-- What is said of each element, through the words that make lists of lists.
use Rattle.std.proofs.Common.{◌≡◌, ◌↔◌, List, [], ◌∷◌, ◌++◌, map, Option, Some, None, refl, inl, inr, ⊎_elim}
use Rattle.std.specs.List.{flat_map, filter_map, cons_option}
use Rattle.std.specs.Option.{IfSome}
use Rattle.up_text.specs.Lists.{Every, Somewhere, Member}

pub each_as : {X : Type 0} (P Q : X → Type 0) → ((x : X) → P x → Q x) → (xs : List X) → Every P xs → Every Q xs
each_as P Q h [] each = tt
each_as P Q h (x ∷ xs) each = (h x each.0, each_as P Q h xs each.1)

pub each_member : {X : Type 0} (P : X → Type 0) (xs : List X) → ((x : X) → Member x xs → P x) → Every P xs
each_member P [] h = tt
each_member P (x ∷ xs) h = (h x (inl refl), each_member P xs (λ y m. h y (inr m)))

each_append : {X : Type 0} (P : X → Type 0) (xs ys : List X) → Every P xs → Every P ys → Every P (xs ++ ys)
each_append P [] ys hs ks = ks
each_append P (x ∷ xs) ys hs ks = (hs.0, each_append P xs ys hs.1 ks)

pub each_map : {X Y : Type 0} (P : Y → Type 0) (f : X → Y) (xs : List X) → Every (λ x. P (f x)) xs → Every P (map f xs)
each_map P f [] each = tt
each_map P f (x ∷ xs) each = (each.0, each_map P f xs each.1)

pub each_flat_map : {X Y : Type 0} (P : Y → Type 0) (f : X → List Y) (xs : List X) → Every (λ x. Every P (f x)) xs → Every P (flat_map f xs)
each_flat_map P f [] each = tt
each_flat_map P f (x ∷ xs) each = each_append P (f x) (flat_map f xs) each.0 (each_flat_map P f xs each.1)

each_cons : {Y : Type 0} (P : Y → Type 0) (o : Option Y) (ys : List Y) → IfSome o P → Every P ys → Every P (cons_option o ys)
each_cons P None ys h each = each
each_cons P (Some y) ys h each = (h, each)

pub each_filter_map : {X Y : Type 0} (P : Y → Type 0) (f : X → Option Y) (xs : List X) → Every (λ x. IfSome (f x) P) xs → Every P (filter_map f xs)
each_filter_map P f [] each = tt
each_filter_map P f (x ∷ xs) each = each_cons P (f x) (filter_map f xs) each.0 (each_filter_map P f xs each.1)

-- functions that give the same at each element
pub same_map : {X Y : Type 0} (f g : X → Y) (xs : List X) → Every (λ x. f x ≡ g x) xs → map f xs ≡ map g xs
same_map f g [] each = refl
same_map f g (x ∷ xs) each = λ i. each.0 i ∷ same_map f g xs each.1 i

pub same_filter_map : {X Y : Type 0} (f g : X → Option Y) (xs : List X) → Every (λ x. f x ≡ g x) xs → filter_map f xs ≡ filter_map g xs
same_filter_map f g [] each = refl
same_filter_map f g (x ∷ xs) each = λ i. cons_option (each.0 i) (same_filter_map f g xs each.1 i)

pub same_somewhere : {X : Type 0} (P Q : X → Type 0) (xs : List X) → Every (λ x. P x ↔ Q x) xs → Somewhere P xs ↔ Somewhere Q xs
same_somewhere P Q [] each = (λ h. h, λ h. h)
same_somewhere P Q (x ∷ xs) each =
    let more : Somewhere P xs ↔ Somewhere Q xs = same_somewhere P Q xs each.1 in
    (⊎_elim (λ h. inl (each.0.0 h)) (λ h. inr (more.0 h)), ⊎_elim (λ h. inl (each.0.1 h)) (λ h. inr (more.1 h)))
