-- The new names are names, and lists of names.
use Rattle.std.proofs.Common.{◌≡◌, ℕ, zero, suc, Bool, true, not as flip, ◌&&◌, ◌||◌, ◌==◌, List, [], ◌∷◌, ◌++◌, map, filter, codes, refl, ap, sym, ◌∙◌, subst, inl}
use Rattle.up_text.specs.declared.name.Name.{Name}
use Rattle.up_text.specs.Names.{IsName, is_letter, is_digit, all_go_on, is_spelled, is_reserved}
use Rattle.up_text.specs.Fresh.{fresh_name, is_among, IsFresh}
use Rattle.up_text.specs.Lists.{Every, Member, Differ}
use Rattle.up_text.proofs.FreshNames.{fresh_name-IsFresh, spelled_candidate}
use Rattle.up_tree.specs.declared.term.Typed.{Typed}
use Rattle.up_tree.specs.declared.action.Effect.TheVariants as effect
use Rattle.up_tree.specs.declared.problem.Predicate.{Predicate}
use Rattle.up_tree.specs.Objects.{chain}
use Rattle.expansion_laws.proofs.Lists.{differ_filter}
use Rattle.compiling_laws.proofs.Lists.{false_true, and_true}
use Rattle.negations_laws.specs.Twins.{twins_of, twin_names}
use Rattle.negations_laws.proofs.Lists.{differ_unmapped}

-- ---- new names are names

pub fresh_is_name : (base : Name) (used : List Name) → is_spelled base ≡ true → IsName (fresh_name base used)
fresh_is_name base used is =
    let fresh : IsFresh base used (fresh_name base used) = fresh_name-IsFresh base used in
    record {
      spelled = ap is_spelled fresh.chosen ∙ spelled_candidate base fresh.number is;
      free = (and_true (flip (is_reserved (fresh_name base used))) (flip (is_among used (fresh_name base used))) fresh.free).0;
    }

spelled_goes : (name : Name) → is_spelled name ≡ true → all_go_on name ≡ true
spelled_goes [] h = false_true h
spelled_goes (c ∷ cs) h =
    let both = and_true (is_letter c) (all_go_on cs) h in
    (λ i. (both.0 i || is_digit c || (c == 45) || (c == 95)) && all_go_on cs) ∙ both.1

twin_spelled : (name : Name) → is_spelled name ≡ true → is_spelled (codes "not-" ++ name) ≡ true
twin_spelled name h = spelled_goes name h

pub twins_are_names : (used : List Name) (ds : List Predicate) → Every (λ (d : Predicate). IsName d.name) ds → Every IsName (twin_names (twins_of used ds))
twins_are_names used [] are = tt
twins_are_names used (d ∷ ds) are = (
  fresh_is_name (codes "not-" ++ d.name) used (twin_spelled d.name are.0.spelled),
  twins_are_names (fresh_name (codes "not-" ++ d.name) used ∷ used) ds are.1,
)

pub of_names : {X : Type 0} (P : Name → Type 0) (key : X → Name) (xs : List X) → Every P (map key xs) → Every (λ x. P (key x)) xs
of_names P key [] h = tt
of_names P key (x ∷ xs) h = (h.0, of_names P key xs h.1)

to_names : {X : Type 0} (P : Name → Type 0) (key : X → Name) (xs : List X) → Every (λ x. P (key x)) xs → Every P (map key xs)
to_names P key [] h = tt
to_names P key (x ∷ xs) h = (h.0, to_names P key xs h.1)

pub every_left : {X : Type 0} (P : X → Type 0) (xs ys : List X) → Every P (xs ++ ys) → Every P xs
every_left P [] ys h = tt
every_left P (x ∷ xs) ys h = (h.0, every_left P xs ys h.1)

every_right : {X : Type 0} (P : X → Type 0) (xs ys : List X) → Every P (xs ++ ys) → Every P ys
every_right P [] ys h = h
every_right P (x ∷ xs) ys h = every_right P xs ys h.1

pub same_rest : (o : Name) (x y : List Name) → o ∷ x ≡ o ∷ y → x ≡ y
same_rest o x y e = cc

pub first_same : (o u : Name) (x y : List Name) → o ∷ x ≡ u ∷ y → o ≡ u
first_same o u x y e = cc

same_mapped : {X : Type 0} (xs : List X) → map (λ x. x) xs ≡ xs
same_mapped [] = refl
same_mapped (x ∷ xs) = ap (λ l. x ∷ l) (same_mapped xs)

pub plain_filter : {X : Type 0} (test : X → Bool) (xs : List X) → Differ xs → Differ (filter test xs)
plain_filter test xs d = differ_unmapped (λ x. x) (filter test xs) (differ_filter (λ x. x) test xs (subst Differ (sym (same_mapped xs)) d))

pub same_second : (o x y : Name) → o ∷ x ∷ [] ≡ o ∷ y ∷ [] → x ≡ y
same_second o x y e = cc

pub chain_self : (types : List Typed) (n : ℕ) (t : Name) → Member t (chain types n t)
chain_self types zero t = inl refl
chain_self types (suc n) t = inl refl
