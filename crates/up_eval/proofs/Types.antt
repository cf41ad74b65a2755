-- The types of objects and those that stand above them, in a well-formed problem.
use Rattle.std.proofs.Common.{◌≡◌, ℕ, zero, suc, ◌≤◌, Bool, true, false, true≢false, cond, ◌||◌, List, [], ◌∷◌, map, filter, length, arith, Option, Some, None, option_map, IsSomeAnd, refl, ap, sym, ◌∙◌, subst, inl, inr}
use Rattle.std.specs.Prelude.{unwrap_or, is_some, find}
use Rattle.std.specs.List.{list_any}
use Rattle.std.specs.Cmp.Lexicographic.{bytes_decides}
use Rattle.up_text.specs.declared.name.Name.{Name}
use Rattle.up_text.specs.Names.{same_name}
use Rattle.up_text.specs.Lists.{Every, Member, Differ}
use Rattle.up_tree.specs.declared.term.Typed.{Typed}
use Rattle.up_tree.specs.declared.problem.Parts.{Parts}
use Rattle.up_tree.specs.Objects.{World, world, named, type_in, chain, type_chain, is_below, objects_of}
use Rattle.up_tree.specs.WellFormed.{IsWellFormed, IsType, IsBelow, top_type}
use Rattle.up_eval.specs.Scope.{names_below}

-- ---- elements and options

pub every_member : {X : Type 0} (P : X → Type 0) (xs : List X) → Every P xs → (x : X) → Member x xs → P x
every_member P [] all x m = absurd m
every_member P (y ∷ ys) all x (inl e) = subst P (sym e) all.0
every_member P (y ∷ ys) all x (inr m) = every_member P ys all.1 x m

member_map : {X Y : Type 0} (f : X → Y) (xs : List X) (x : X) → Member x xs → Member (f x) (map f xs)
member_map f [] x m = absurd m
member_map f (y ∷ ys) x (inl e) = inl (ap f e)
member_map f (y ∷ ys) x (inr m) = inr (member_map f ys x m)

pub no_none : {X Y : Type 0} (x : X) → None ≡ Some x → Y
no_none x e = absurd (true≢false (sym (ap is_some e)))

pub same_some : {X : Type 0} (x y : X) → Some x ≡ Some y → x ≡ y
same_some x y e = ap (λ o. unwrap_or o x) e

pub some_and : {X Y : Type 0} (o : Option X) (P : X → Type 0) → IsSomeAnd o P → ((x : X) → o ≡ Some x → P x → Y) → Y
some_and None P h f = absurd h
some_and (Some x) P h f = f x refl h

pub at_some : {X : Type 0} (o : Option X) (x : X) (P : X → Type 0) → o ≡ Some x → P x → IsSomeAnd o P
at_some o x P is h = subst (λ v. IsSomeAnd v P) (sym is) h

pub find_member : {X : Type 0} (test : X → Bool) (xs : List X) (x : X) → find test xs ≡ Some x → Member x xs
find_member test [] x is = no_none x is
find_member test (y ∷ ys) x is = by (test y) is (find_member test ys x)
  where
    by : (b : Bool) → cond b (Some y) (find test ys) ≡ Some x → (find test ys ≡ Some x → Member x ys) → Member x (y ∷ ys)
    by true is rest = inl (sym (same_some y x is))
    by false is rest = inr (rest is)

any_member : (name : Name) (xs : List Name) → list_any (same_name name) xs ≡ true → Member name xs
any_member name [] e = absurd (true≢false (sym e))
any_member name (x ∷ xs) e = by (same_name name x) refl e (any_member name xs)
  where
    by : (b : Bool) → same_name name x ≡ b → (b || list_any (same_name name) xs) ≡ true → (list_any (same_name name) xs ≡ true → Member name xs) → Member name (x ∷ xs)
    by true is e rest = inl ((bytes_decides name x).0 is)
    by false is e rest = inr (rest e)

-- ---- the first entry of a name

module _ (name : Name) where
  has_name : (es : List Typed) (e : Typed) → named es name ≡ Some e → e.name ≡ name
  has_name [] e is = no_none e is
  has_name (x ∷ es) e is = by (same_name x.name name) refl is (has_name es e)
    where
      by : (b : Bool) → same_name x.name name ≡ b → cond b (Some x) (named es name) ≡ Some e → (named es name ≡ Some e → e.name ≡ name) → e.name ≡ name
      by true same is rest = ap (λ (y : Typed). y.name) (sym (same_some x e is)) ∙ (bytes_decides x.name name).0 same
      by false same is rest = rest is

  none_named : (es : List Typed) → ¬ Member name (map (λ (e : Typed). e.name) es) → named es name ≡ None
  none_named [] out = refl
  none_named (x ∷ es) out = by (same_name x.name name) refl (none_named es (λ m. out (inr m)))
    where
      by : (b : Bool) → same_name x.name name ≡ b → named es name ≡ None → cond b (Some x) (named es name) ≡ None
      by true same rest = absurd (out (inl (sym ((bytes_decides x.name name).0 same))))
      by false same rest = rest

  -- where the names differ, each entry is the first of its name
  named_here : (es : List Typed) (e : Typed) → Differ (map (λ (e : Typed). e.name) es) → Member e es → e.name ≡ name → named es name ≡ Some e
  named_here [] e differ m is = absurd m
  named_here (x ∷ es) e differ (inl same) is =
      ap (λ b. cond b (Some x) (named es name)) ((bytes_decides x.name name).1 (ap (λ (y : Typed). y.name) (sym same) ∙ is)) ∙ ap Some (sym same)
  named_here (x ∷ es) e differ (inr m) is = by (same_name x.name name) refl (named_here es e differ.1 m is)
    where
      by : (b : Bool) → same_name x.name name ≡ b → named es name ≡ Some e → cond b (Some x) (named es name) ≡ Some e
      by true same rest =
          absurd (differ.0 (subst (λ n. Member n (map (λ (e : Typed). e.name) es)) (is ∙ sym ((bytes_decides x.name name).0 same)) (member_map (λ (e : Typed). e.name) es e m)))
      by false same rest = rest

-- an object of a type has an entry whose type stands at or below it
entry_of : (w : World) (t o : Name) (es : List Typed) → Member o (names_below w t es) → (e : Typed) × Member e es × (e.name ≡ o) × (is_below w e.of t ≡ true)
entry_of w t o [] m = absurd m
entry_of w t o (x ∷ es) m = by (is_below w x.of t) refl m (entry_of w t o es)
  where
    by : (b : Bool) → is_below w x.of t ≡ b
        → Member o (map (λ (y : Typed). y.name) (cond b (x ∷ filter (λ (y : Typed). is_below w y.of t) es) (filter (λ (y : Typed). is_below w y.of t) es)))
        → (Member o (names_below w t es) → (e : Typed) × Member e es × (e.name ≡ o) × (is_below w e.of t ≡ true))
        → (e : Typed) × Member e (x ∷ es) × (e.name ≡ o) × (is_below w e.of t ≡ true)
    by true is (inl same) rest = (x, inl refl, sym same, is)
    by true is (inr m) rest = ((rest m).0, inr (rest m).1, (rest m).2, (rest m).3)
    by false is m rest = ((rest m).0, inr (rest m).1, (rest m).2, (rest m).3)

-- ---- chains of types, where one that all reach has no parent

module _ (types : List Typed) (top : Name) (ends : type_in types top ≡ None) where
  -- the chain of a type's parent, where there is one
  abbrev behind : ℕ → Option Name → List Name
  behind n parent = unwrap_or (option_map (λ above. chain types n above) parent) []

  no_parent : (t : Name) → top ≡ t → type_in types t ≡ None
  no_parent t e = subst (λ u. type_in types u ≡ None) e ends

  -- a chain that reaches the end is no longer with more parents
  grown : (m n : ℕ) (t : Name) → m ≤ n → Member top (chain types m t) → chain types n t ≡ chain types m t
  grown zero zero t fits reached = refl
  grown zero (suc n) t fits (inl e) = ap (λ o. t ∷ behind n o) (no_parent t e)
  grown zero (suc n) t fits (inr none) = absurd none
  grown (suc m) zero t fits reached = absurd (omega arith)
  grown (suc m) (suc n) t fits (inl e) = ap (λ o. t ∷ behind n o) (no_parent t e) ∙ sym (ap (λ o. t ∷ behind m o) (no_parent t e))
  grown (suc m) (suc n) t fits (inr more) = by (type_in types t) more (λ u. grown m n u (omega arith))
    where
      by : (parent : Option Name) → Member top (behind m parent) → ((u : Name) → Member top (chain types m u) → chain types n u ≡ chain types m u)
          → t ∷ behind n parent ≡ t ∷ behind m parent
      by None more h = absurd more
      by (Some u) more h = ap (λ c. t ∷ c) (h u more)

  through : (m n : ℕ) (t u above : Name) → m ≤ n → Member top (chain types m t) → Member u (chain types m t) → Member above (chain types n u) → Member above (chain types n t)
  through zero n t u above fits reached (inl e) over = subst (λ v. Member above (chain types n v)) e over
  through zero n t u above fits reached (inr none) over = absurd none
  through (suc m) n t u above fits reached (inl e) over = subst (λ v. Member above (chain types n v)) e over
  through (suc m) zero t u above fits reached (inr under) over = absurd (omega arith)
  through (suc m) (suc n) t u above fits (inl e) (inr under) over = absurd (subst (λ o. Member u (behind m o)) (no_parent t e) under)
  through (suc m) (suc n) t u above fits (inr more) (inr under) over =
      inr (by (type_in types t) more under (λ v reached is. subst (Member above) (grown m (suc n) v (omega arith) reached ∙ sym (grown m n v (omega arith) reached))
      (through m (suc n) v u above (omega arith) reached is over)))
    where
      by : (parent : Option Name) → Member top (behind m parent) → Member u (behind m parent)
          → ((v : Name) → Member top (chain types m v) → Member u (chain types m v) → Member above (chain types n v)) → Member above (behind n parent)
      by None more under h = absurd more
      by (Some v) more under h = h v more under

chain_self : (types : List Typed) (n : ℕ) (t : Name) → Member t (chain types n t)
chain_self types zero t = inl refl
chain_self types (suc n) t = inl refl

-- ---- objects of a type

abbrev pub IsObjectOf : Parts → Name → Name → Type 0
IsObjectOf p o of = IsSomeAnd (type_in p.objects o) (λ u. IsBelow p u of)

module _ (p : Parts) (well : IsWellFormed p) where
  top_ends : type_in p.types top_type ≡ None
  top_ends = ap (option_map (λ (e : Typed). e.of)) (none_named top_type p.types well.top_free)

  reaches_top : (t : Name) → IsType p t → IsBelow p t top_type
  reaches_top t (inl e) = subst (λ u. IsBelow p u top_type) (sym e) (chain_self p.types (length p.types) top_type)
  reaches_top t (inr declared) = by (named p.types t) refl declared
    where
      by : (found : Option Typed) → named p.types t ≡ found → is_some found ≡ true → IsBelow p t top_type
      by None at is = absurd (true≢false (sym is))
      by (Some e) at is =
          subst (λ u. IsBelow p u top_type) (has_name t p.types e at)
          (every_member (λ (e : Typed). IsType p e.of × IsBelow p e.name top_type) p.types well.chains e (find_member (λ (e : Typed). same_name e.name t) p.types e at)).1

  below_again : (t u above : Name) → IsType p t → IsBelow p t u → IsBelow p u above → IsBelow p t above
  below_again t u above is under over = through p.types top_type top_ends (length p.types) (length p.types) t u above (omega arith) (reaches_top t is) under over

  object_type : (o u : Name) → type_in p.objects o ≡ Some u → IsType p u
  object_type o u is = by (named p.objects o) refl is
    where
      by : (found : Option Typed) → named p.objects o ≡ found → option_map (λ (e : Typed). e.of) found ≡ Some u → IsType p u
      by None at is = no_none u is
      by (Some e) at is =
          subst (IsType p) (same_some e.of u is)
          (every_member (λ (e : Typed). IsType p e.of) p.objects well.object_types e (find_member (λ (e : Typed). same_name e.name o) p.objects e at))

  -- an object of a type is one of each type above
  pub wider : (o u of : Name) → IsObjectOf p o u → IsBelow p u of → IsObjectOf p o of
  wider o u of is over =
      some_and (type_in p.objects o) (λ t. IsBelow p t u) is
      (λ t at under. at_some (type_in p.objects o) t (λ t. IsBelow p t of) at (below_again t u of (object_type o t at) under over))

  pub object_of : (o t : Name) → Member o (objects_of (world p) t) → IsObjectOf p o t
  object_of o t m =
      let found : (e : Typed) × Member e p.objects × (e.name ≡ o) × (is_below (world p) e.of t ≡ true) = entry_of (world p) t o p.objects m in
      at_some (type_in p.objects o) found.0.of (λ u. IsBelow p u t)
      (ap (option_map (λ (e : Typed). e.of)) (named_here o p.objects found.0 well.objects.differ found.1 found.2))
      (any_member t (type_chain (world p) found.0.of) found.3)
