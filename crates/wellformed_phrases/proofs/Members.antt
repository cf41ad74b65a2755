-- Members of lists, and names that stand in tables.
use Rattle.std.proofs.Common.{◌≡◌, Bool, true, false, true≢false, cond, ◌||◌, List, [], ◌∷◌, ◌++◌, map, Some, option_map, refl, ap, sym, subst, inl, inr}
use Rattle.std.specs.Prelude.{is_some, unwrap_or}
use Rattle.std.specs.List.{list_any}
use Rattle.std.specs.Map.{lookup}
use Rattle.std.specs.Option.{option_or}
use Rattle.std.specs.Cmp.Lexicographic.{bytes_decides}
use Rattle.up_text.specs.declared.name.Name.{Name}
use Rattle.up_text.specs.Names.{same_name}
use Rattle.up_text.specs.Lists.{Every, Member}
use Rattle.up_tree.specs.declared.term.Typed.{Typed}
use Rattle.up_tree.specs.Objects.{named, type_in}
use Rattle.up_phrase.specs.Scopes.{typed}
use Rattle.wellformed_phrases.proofs.Tables.{same_turned}

pub member_front : {X : Type 0} (x : X) (xs ys : List X) → Member x xs → Member x (xs ++ ys)
member_front x [] ys m = absurd m
member_front x (y ∷ xs) ys (inl e) = inl e
member_front x (y ∷ xs) ys (inr m) = inr (member_front x xs ys m)

pub member_back : {X : Type 0} (x : X) (xs ys : List X) → Member x ys → Member x (xs ++ ys)
member_back x [] ys m = m
member_back x (y ∷ xs) ys m = inr (member_back x xs ys m)

pub member_map : {X Y : Type 0} (f : X → Y) (x : X) (xs : List X) → Member x xs → Member (f x) (map f xs)
member_map f x [] m = absurd m
member_map f x (y ∷ ys) (inl e) = inl (ap f e)
member_map f x (y ∷ ys) (inr m) = inr (member_map f x ys m)

pub every_member : {X : Type 0} (P : X → Type 0) (xs : List X) → Every P xs → (x : X) → Member x xs → P x
every_member P [] all x m = absurd m
every_member P (y ∷ ys) all x (inl e) = subst P (sym e) all.0
every_member P (y ∷ ys) all x (inr m) = every_member P ys all.1 x m

pub every_map : {X Y : Type 0} (P : Y → Type 0) (f : X → Y) (xs : List X) → Every (λ x. P (f x)) xs → Every P (map f xs)
every_map P f [] all = tt
every_map P f (x ∷ xs) all = (all.0, every_map P f xs all.1)

pub every_as : {X : Type 0} (P Q : X → Type 0) (xs : List X) → ((x : X) → P x → Q x) → Every P xs → Every Q xs
every_as P Q [] h all = tt
every_as P Q (x ∷ xs) h all = (h x all.0, every_as P Q xs h all.1)

pub every_append : {X : Type 0} (P : X → Type 0) (xs ys : List X) → Every P xs → Every P ys → Every P (xs ++ ys)
every_append P [] ys all more = more
every_append P (x ∷ xs) ys all more = (all.0, every_append P xs ys all.1 more)

pub listed : (name : Name) (names : List Name) → Member name names → list_any (same_name name) names ≡ true
listed name [] m = absurd m
listed name (x ∷ xs) (inl e) = rw ((bytes_decides name x).1 e) refl
listed name (x ∷ xs) (inr m) = by (same_name name x) (listed name xs m)
  where
    by : (b : Bool) → list_any (same_name name) xs ≡ true → (b || list_any (same_name name) xs) ≡ true
    by true rest = refl
    by false rest = rest

-- ---- tables

abbrev pub names_in : {X : Type 0} → List (Name × X) → List Name
names_in es = map (λ e. e.0) es

module _ {X : Type 0} (name : Name) where
  pub there : (es : List (Name × X)) → Member name (names_in es) → is_some (lookup (same_name name) es) ≡ true
  there [] m = absurd m
  there (e ∷ es) (inl is) = rw ((bytes_decides name e.0).1 is) refl
  there (e ∷ es) (inr m) = by (same_name name e.0) (there es m)
    where
      by : (b : Bool) → is_some (lookup (same_name name) es) ≡ true → is_some (cond b (Some e.1) (lookup (same_name name) es)) ≡ true
      by true rest = refl
      by false rest = rest

  -- what is found beside a name is so if each is
  pub found_is : (P : X → Type 0) (es : List (Name × X)) (x : X) → Every (λ e. P e.1) es → lookup (same_name name) es ≡ Some x → P x
  found_is P [] x all is = absurd (true≢false (sym (ap is_some is)))
  found_is P (e ∷ es) x all is = by (same_name name e.0) is (found_is P es x all.1)
    where
      by : (b : Bool) → cond b (Some e.1) (lookup (same_name name) es) ≡ Some x → (lookup (same_name name) es ≡ Some x → P x) → P x
      by true here rest = subst P (ap (λ o. unwrap_or o x) here) all.0
      by false here rest = rest here

  pub found_named : (es : List (Name × X)) (x : X) → lookup (same_name name) es ≡ Some x → Member name (names_in es)
  found_named [] x is = absurd (true≢false (sym (ap is_some is)))
  found_named (e ∷ es) x is = by (same_name name e.0) refl is (found_named es x)
    where
      by : (b : Bool) → same_name name e.0 ≡ b → cond b (Some e.1) (lookup (same_name name) es) ≡ Some x
          → (lookup (same_name name) es ≡ Some x → Member name (names_in es)) → Member name (names_in (e ∷ es))
      by true same here rest = inl ((bytes_decides name e.0).0 same)
      by false other here rest = inr (rest here)

  pub lookup_append : (es more : List (Name × X)) → lookup (same_name name) (es ++ more) ≡ option_or (lookup (same_name name) es) (lookup (same_name name) more)
  lookup_append [] more = refl
  lookup_append (e ∷ es) more = by (same_name name e.0) (lookup_append es more)
    where
      by : (b : Bool) → lookup (same_name name) (es ++ more) ≡ option_or (lookup (same_name name) es) (lookup (same_name name) more)
          → cond b (Some e.1) (lookup (same_name name) (es ++ more)) ≡ option_or (cond b (Some e.1) (lookup (same_name name) es)) (lookup (same_name name) more)
      by true rest = refl
      by false rest = rest

pub type_append : (name : Name) (es : List (Name × Name)) (scope : List Typed)
    → type_in (map typed es ++ scope) name ≡ option_or (lookup (same_name name) es) (type_in scope name)
type_append name [] scope = refl
type_append name (e ∷ es) scope = by (same_name name e.0) refl (type_append name es scope)
  where
    by : (b : Bool) → same_name name e.0 ≡ b → type_in (map typed es ++ scope) name ≡ option_or (lookup (same_name name) es) (type_in scope name)
        → option_map (λ entry. entry.of) (cond (same_name e.0 name) (Some (typed e)) (named (map typed es ++ scope) name))
        ≡ option_or (cond (same_name name e.0) (Some e.1) (lookup (same_name name) es)) (type_in scope name)
    by true same rest = rw (same_turned e.0 name, same) refl
    by false other rest = rw (same_turned e.0 name, other) rest

-- a name in a scope has a type there
pub has_type : (name : Name) (scope : List Typed) → Member name (map (λ v. v.name) scope) → is_some (type_in scope name) ≡ true
has_type name [] m = absurd m
has_type name (v ∷ scope) (inl is) = rw ((bytes_decides v.name name).1 (sym is)) refl
has_type name (v ∷ scope) (inr m) = by (same_name v.name name) (has_type name scope m)
  where
    by : (b : Bool) → is_some (type_in scope name) ≡ true → is_some (option_map (λ entry. entry.of) (cond b (Some v) (named scope name))) ≡ true
    by true rest = refl
    by false rest = rest

-- and what has a type there is a name in it
pub named_there : (name : Name) (scope : List Typed) → is_some (type_in scope name) ≡ true → Member name (map (λ v. v.name) scope)
named_there name [] some = absurd (true≢false (sym some))
named_there name (v ∷ scope) some = by (same_name v.name name) refl some (named_there name scope)
  where
    by : (b : Bool) → same_name v.name name ≡ b → is_some (option_map (λ entry. entry.of) (cond b (Some v) (named scope name))) ≡ true
        → (is_some (type_in scope name) ≡ true → Member name (map (λ v. v.name) scope)) → Member name (map (λ v. v.name) (v ∷ scope))
    by true same here rest = inl (sym ((bytes_decides v.name name).0 same))
    by false other here rest = inr (rest here)

pub any_member : (name : Name) (xs : List Name) → list_any (same_name name) xs ≡ true → Member name xs
any_member name [] e = absurd (true≢false (sym e))
any_member name (x ∷ xs) e = by (same_name name x) refl e (any_member name xs)
  where
    by : (b : Bool) → same_name name x ≡ b → (b || list_any (same_name name) xs) ≡ true → (list_any (same_name name) xs ≡ true → Member name xs) → Member name (x ∷ xs)
    by true is e rest = inl ((bytes_decides name x).0 is)
    by false is e rest = inr (rest e)

pub either_true : (a b : Bool) → b ≡ true → (a || b) ≡ true
either_true true b e = refl
either_true false b e = e
