-- The entries of the identity are the entries of a map.
use Rattle.std.proofs.Common.{◌≡◌, ℕ, zero, suc, ◌+◌, Bool, true, false, ◌||◌, List, [], ◌∷◌, ◌++◌, map, length, refl, ap, sym, ◌∙◌, subst, inl, inr, add-one, arith}
use Rattle.std.specs.Prelude.{◌⊎◌}
use Rattle.std.proofs.lemmas.Bool.{false≢true}
use Rattle.std.proofs.lemmas.Slice.Eq.{bytes_eq-Decides}
use Rattle.up_text.specs.declared.name.Name.{Name}
use Rattle.up_text.specs.Names.{same_name}
use Rattle.up_text.specs.Lists.{Every, Member, Differ}
use Rattle.up_tree.specs.declared.action.Action.{Action}
use Rattle.up_compiler.specs.declared.back.Entry.{Entry}
use Rattle.up_compiler.specs.declared.back.Item.{Item}
use Rattle.up_compiler.specs.declared.back.Item.TheVariants.{Argument, Object}
use Rattle.up_compiler.specs.Back.{IsBack, IsWithin, TargetFits}
use Rattle.up_compiler.specs.Identity.{arguments, identity_entry, has_entry}

pub arguments_none : arguments 0 ≡ []
unfolding arguments
arguments_none = refl

pub arguments_more : (n : ℕ) → arguments (n + 1) ≡ arguments n ++ Argument (n + 1) ∷ []
unfolding arguments
arguments_more n = rw add-one refl

every_push : {X : Type 0} (P : X → Type 0) (xs : List X) (x : X) → Every P xs → P x → Every P (xs ++ x ∷ [])
every_push P [] x all here = (here, tt)
every_push P (y ∷ xs) x all here = (all.0, every_push P xs x all.1 here)

every_more : (P Q : Item → Type 0) → ((i : Item) → P i → Q i) → (xs : List Item) → Every P xs → Every Q xs
every_more P Q more [] all = tt
every_more P Q more (x ∷ xs) all = (more x all.0, every_more P Q more xs all.1)

within_more : (n : ℕ) (i : Item) → IsWithin n i → IsWithin (suc n) i
within_more n (Argument k) within = (within.0, omega (arith, within.1))
within_more n (Object o) within = tt

arguments_within : (n : ℕ) → Every (IsWithin n) (arguments n)
unfolding arguments
arguments_within zero = tt
arguments_within (suc n) =
    every_push (IsWithin (suc n)) (arguments n) (Argument (suc n)) (every_more (IsWithin n) (IsWithin (suc n)) (within_more n) (arguments n) (arguments_within n))
    (omega arith, omega arith)

same_refl : (name : Name) → same_name name name ≡ true
same_refl name = (bytes_eq-Decides name name).1 refl

-- ---- names that differ

not_member : (m : List Entry) (name : Name) → has_entry m name ≡ false → ¬ Member name (map (λ (e : Entry). e.action) m)
not_member [] name none there = there
not_member (e ∷ m) name none there = by (same_name e.action name) refl none there (not_member m name)
  where
    by : (b : Bool) → same_name e.action name ≡ b → (b || has_entry m name) ≡ false → Member name (e.action ∷ map (λ (e : Entry). e.action) m)
        → (has_entry m name ≡ false → ¬ Member name (map (λ (e : Entry). e.action) m)) → ⊥
    by true is none there behind = absurd (false≢true (sym none))
    by false is none (inl here) behind =
        let same : same_name e.action name ≡ true = subst (λ (n : Name). same_name n name ≡ true) here (same_refl name) in
        absurd (false≢true (sym is ∙ same))
    by false is none (inr more) behind = behind none more

member_push : (xs : List Name) (x y : Name) → Member y (xs ++ x ∷ []) → Member y xs ⊎ (y ≡ x)
member_push [] x y (inl same) = inr same
member_push [] x y (inr more) = absurd more
member_push (z ∷ xs) x y (inl same) = inl (inl same)
member_push (z ∷ xs) x y (inr more) = elim (member_push xs x y more) [ inl old ↦ inl (inr old) | inr same ↦ inr same ]

map_push : (m : List Entry) (e : Entry) → map (λ (e : Entry). e.action) (m ++ e ∷ []) ≡ map (λ (e : Entry). e.action) m ++ e.action ∷ []
map_push [] e = refl
map_push (x ∷ m) e = ap (λ names. x.action ∷ names) (map_push m e)

differ_push : (xs : List Name) (x : Name) → Differ xs → (¬ Member x xs) → Differ (xs ++ x ∷ [])
differ_push [] x differ new = (λ there. there, tt)
differ_push (y ∷ xs) x differ new =
    (λ there. elim (member_push xs x y there) [ inl old ↦ differ.0 old | inr same ↦ new (inl (sym same)) ], differ_push xs x differ.1 (λ old. new (inr old)))

pub back_push : (m : List Entry) (a : Action) → IsBack m → has_entry m a.name ≡ false → IsBack (m ++ identity_entry a ∷ [])
back_push m a is none = record {
  differ = subst (λ (names : List Name). Differ names) (sym (map_push m (identity_entry a)))
      (differ_push (map (λ (e : Entry). e.action) m) a.name is.differ (not_member m a.name none));
  within = every_push (λ (e : Entry). TargetFits e.arity e.target) m (identity_entry a) is.within (arguments_within (length a.params));
}

pub back_none : IsBack []
back_none = record { differ = tt; within = tt }

pub ruleset identities = (arguments_none, arguments_more, back_none, back_push)
