-- What an action's rows with their twins do, where no row has variables or a condition.
use Rattle.std.proofs.Common.{◌≡◌, ◌⊎◌, Bool, true, false, cond, ◌||◌, List, [], ◌∷◌, ◌++◌, map, Option, Some, None, option_map, refl, ap, sym, ◌∙◌, subst, inl, inr, ⊎_elim}
use Rattle.std.specs.List.{list_any, flat_map, filter_map, cons_option}
use Rattle.std.proofs.lemmas.List.Folds.{list_any-append}
use Rattle.up_text.specs.declared.name.Name.{Name}
use Rattle.up_text.specs.Lists.{Every, Somewhere}
use Rattle.up_tree.specs.declared.action.Row.{Row}
use Rattle.up_tree.specs.declared.action.Effect.{Effect}
use Rattle.up_tree.specs.declared.action.Effect.TheVariants.{Add, Delete, Number, Object, Undefine}
use Rattle.up_tree.specs.declared.truth.Truth.TheVariants as truth
use Rattle.up_tree.specs.Objects.{World, Assignment}
use Rattle.up_tree.specs.State.{State, Ground}
use Rattle.up_tree.specs.Truth.{IsUndefined}
use Rattle.up_tree.specs.Judged.{is_true}
use Rattle.up_tree.specs.Instances.{Fired, row_instances, fired}
use Rattle.up_tree.specs.Changes.{of_firing, is_at}
use Rattle.up_tree.specs.Faults.{OfEffect}
use Rattle.up_tree.specs.Simplify.{is_true_formula}
use Rattle.condition_laws.proofs.Simplifying.{of_always}
use Rattle.expansion_laws.proofs.Truths.{undefined-is}
use Rattle.compiling_laws.proofs.Bare.{AreBare, plain, plain_instances}
use Rattle.negations_laws.specs.Twins.{Twin, twin_of, twin_effect, row_doing, with_twin}

-- each row's condition is `true`
abbrev pub AreAlways : List Row → Type 0
AreAlways rows = Every (λ r. is_true_formula r.when ≡ true) rows

-- ---- rows with their twins

pub every_append : {X : Type 0} (P : X → Type 0) (xs ys : List X) → Every P xs → Every P ys → Every P (xs ++ ys)
every_append P [] ys h k = k
every_append P (x ∷ xs) ys h k = (h.0, every_append P xs ys h.1 k)

module _ (twins : List Twin) where
  one_bare : (r : Row) → r.vars ≡ [] → (o : Option Effect) → AreBare (row_doing r o)
  one_bare r h None = tt
  one_bare r h (Some e) = (h, tt)

  pub twins_bare : (rows : List Row) → AreBare rows → AreBare (flat_map (with_twin twins) rows)
  twins_bare [] h = tt
  twins_bare (r ∷ rows) h = (h.0, every_append (λ (r : Row). r.vars ≡ []) (row_doing r (twin_effect twins r.effect)) (flat_map (with_twin twins) rows) (one_bare r h.0 (twin_effect twins r.effect)) (twins_bare rows h.1))

  one_always : (r : Row) → is_true_formula r.when ≡ true → (o : Option Effect) → AreAlways (row_doing r o)
  one_always r h None = tt
  one_always r h (Some e) = (h, tt)

  pub twins_always : (rows : List Row) → AreAlways rows → AreAlways (flat_map (with_twin twins) rows)
  twins_always [] h = tt
  twins_always (r ∷ rows) h =
      (h.0, every_append (λ (r : Row). is_true_formula r.when ≡ true) (row_doing r (twin_effect twins r.effect)) (flat_map (with_twin twins) rows) (one_always r h.0 (twin_effect twins r.effect)) (twins_always rows h.1))

-- ---- all rows fire

abbrev pub fire : Assignment → Row → Fired
fire e r = record { assignment = e; effect = r.effect }

module _ (w : World) (s : State) (e : Assignment) where
  one_fires : (r : Row) → is_true_formula r.when ≡ true → fired w s (plain w s e r) ≡ Some (fire e r)
  one_fires r h = ap (λ t. cond (is_true t) (Some (fire e r)) None) (of_always w s e r.when h)

  plain_fire : (rows : List Row) → AreAlways rows → filter_map (fired w s) (map (plain w s e) rows) ≡ map (fire e) rows
  plain_fire [] h = refl
  plain_fire (r ∷ rows) h = λ i. cons_option (one_fires r h.0 i) (plain_fire rows h.1 i)

  pub all_fire : (rows : List Row) → AreBare rows → AreAlways rows → filter_map (fired w s) (flat_map (row_instances w e) rows) ≡ map (fire e) rows
  all_fire rows bare always = ap (filter_map (fired w s)) (plain_instances w s e rows bare) ∙ plain_fire rows always

  true_undefined : truth.True ≡ truth.Undefined → ⊥
  true_undefined e = cc

  none_plain : (rows : List Row) → AreAlways rows → Somewhere (λ i. IsUndefined w s i.assignment i.row.when) (map (plain w s e) rows) → ⊥
  none_plain [] h k = k
  none_plain (r ∷ rows) h (inl k) = true_undefined (sym (of_always w s e r.when h.0) ∙ (undefined-is w s e r.when).0 k)
  none_plain (r ∷ rows) h (inr k) = none_plain rows h.1 k

  pub none_undefined : (rows : List Row) → AreBare rows → AreAlways rows → Somewhere (λ i. IsUndefined w s i.assignment i.row.when) (flat_map (row_instances w e) rows) → ⊥
  none_undefined rows bare always h =
      none_plain rows always (subst (Somewhere (λ i. IsUndefined w s i.assignment i.row.when)) (plain_instances w s e rows bare) h)

-- ---- lists that the rows make

module _ {A : Type 0} (what : State → Assignment → Effect → Option A) (s : State) (e : Assignment) where
  abbrev pub makes : Row → Option A
  makes r = what s e r.effect

  pub made_by : (rows : List Row) → of_firing what s (map (fire e) rows) ≡ filter_map (λ r. what s e r.effect) rows
  made_by [] = refl
  made_by (r ∷ rows) = ap (cons_option (what s e r.effect)) (made_by rows)

  -- twins make none of it
  module _ (twins : List Twin) (no_add : (name : Name) (ts : _) → what s e (Add name ts) ≡ None) (no_delete : (name : Name) (ts : _) → what s e (Delete name ts) ≡ None) where
    quiet_twin : (r : Row) (o : Option Name) (f : Name → Effect) → ((name : Name) → what s e (f name) ≡ None) → (more : List Row) →
        filter_map (λ r. what s e r.effect) (row_doing r (option_map f o) ++ more) ≡ filter_map (λ r. what s e r.effect) more
    quiet_twin r None f none more = refl
    quiet_twin r (Some name) f none more = ap (λ x. cons_option x (filter_map (λ r. what s e r.effect) more)) (none name)

    quiet : (r : Row) (x : Effect) (more : List Row) → filter_map (λ r. what s e r.effect) (row_doing r (twin_effect twins x) ++ more) ≡ filter_map (λ r. what s e r.effect) more
    quiet r (Add name ts) more = quiet_twin r (twin_of twins name) (λ other. Delete other ts) (λ other. no_delete other ts) more
    quiet r (Delete name ts) more = quiet_twin r (twin_of twins name) (λ other. Add other ts) (λ other. no_add other ts) more
    quiet r (Number change f ts x) more = refl
    quiet r (Object f ts t) more = refl
    quiet r (Undefine f ts) more = refl

    pub same_made : (rows : List Row) → filter_map (λ r. what s e r.effect) (flat_map (with_twin twins) rows) ≡ filter_map (λ r. what s e r.effect) rows
    same_made [] = refl
    same_made (r ∷ rows) = ap (cons_option (what s e r.effect)) (quiet r r.effect (flat_map (with_twin twins) rows) ∙ same_made rows)

-- ---- what is said of some row

module _ (What : State → Assignment → Effect → Type 0) (s : State) (e : Assignment) where
  pub of_rows : (rows : List Row) → OfEffect What s (map (fire e) rows) → Somewhere (λ r. What s e r.effect) rows
  of_rows [] h = h
  of_rows (r ∷ rows) (inl h) = inl h
  of_rows (r ∷ rows) (inr h) = inr (of_rows rows h)

  pub to_rows : (rows : List Row) → Somewhere (λ r. What s e r.effect) rows → OfEffect What s (map (fire e) rows)
  to_rows [] h = h
  to_rows (r ∷ rows) (inl h) = inl h
  to_rows (r ∷ rows) (inr h) = inr (to_rows rows h)

  some_left : (xs ys : List Row) → Somewhere (λ r. What s e r.effect) (xs ++ ys) → Somewhere (λ r. What s e r.effect) xs ⊎ Somewhere (λ r. What s e r.effect) ys
  some_left [] ys h = inr h
  some_left (x ∷ xs) ys (inl h) = inl (inl h)
  some_left (x ∷ xs) ys (inr h) = ⊎_elim (λ k. inl (inr k)) (λ k. inr k) (some_left xs ys h)

  some_right : (xs ys : List Row) → Somewhere (λ r. What s e r.effect) ys → Somewhere (λ r. What s e r.effect) (xs ++ ys)
  some_right [] ys h = h
  some_right (x ∷ xs) ys h = inr (some_right xs ys h)

  module _ (twins : List Twin) (as_delete : (name other : Name) (ts : _) → What s e (Delete other ts) → What s e (Add name ts))
      (as_add : (name other : Name) (ts : _) → What s e (Add other ts) → What s e (Delete name ts)) where
    of_twin : (r : Row) (x : Effect) → Somewhere (λ r. What s e r.effect) (row_doing r (twin_effect twins x)) → What s e x
    of_twin r (Add name ts) h = by (twin_of twins name) h
      where
        by : (o : Option Name) → Somewhere (λ r. What s e r.effect) (row_doing r (option_map (λ other. Delete other ts) o)) → What s e (Add name ts)
        by None h = absurd h
        by (Some other) (inl h) = as_delete name other ts h
        by (Some other) (inr h) = absurd h
    of_twin r (Delete name ts) h = by (twin_of twins name) h
      where
        by : (o : Option Name) → Somewhere (λ r. What s e r.effect) (row_doing r (option_map (λ other. Add other ts) o)) → What s e (Delete name ts)
        by None h = absurd h
        by (Some other) (inl h) = as_add name other ts h
        by (Some other) (inr h) = absurd h
    of_twin r (Number change f ts x) h = absurd h
    of_twin r (Object f ts t) h = absurd h
    of_twin r (Undefine f ts) h = absurd h

    pub some_without : (rows : List Row) → Somewhere (λ r. What s e r.effect) (flat_map (with_twin twins) rows) → Somewhere (λ r. What s e r.effect) rows
    some_without [] h = h
    some_without (r ∷ rows) (inl h) = inl h
    some_without (r ∷ rows) (inr h) =
        ⊎_elim (λ k. inl (of_twin r r.effect k)) (λ k. inr (some_without rows k)) (some_left (row_doing r (twin_effect twins r.effect)) (flat_map (with_twin twins) rows) h)

  pub some_with : (twins : List Twin) (rows : List Row) → Somewhere (λ r. What s e r.effect) rows → Somewhere (λ r. What s e r.effect) (flat_map (with_twin twins) rows)
  some_with twins [] h = h
  some_with twins (r ∷ rows) (inl h) = inl h
  some_with twins (r ∷ rows) (inr h) = inr (some_right (row_doing r (twin_effect twins r.effect)) (flat_map (with_twin twins) rows) (some_with twins rows h))

-- ---- whether a list has an element at a place

abbrev pub hits : Ground → Option Ground → Bool
hits q None = false
hits q (Some a) = is_at q a

pub any_made : {X : Type 0} (q : Ground) (f : X → Option Ground) (xs : List X) → list_any (is_at q) (filter_map f xs) ≡ list_any (λ x. hits q (f x)) xs
any_made q f [] = refl
any_made q f (x ∷ xs) = by (f x) (any_made q f xs)
  where
    by : (o : Option Ground) → list_any (is_at q) (filter_map f xs) ≡ list_any (λ x. hits q (f x)) xs → list_any (is_at q) (cons_option o (filter_map f xs)) ≡ (hits q o || list_any (λ x. hits q (f x)) xs)
    by None h = h
    by (Some a) h = ap (λ b. is_at q a || b) h

-- the same at each row, with its twin
pub any_flat : {X Y : Type 0} (test : Y → Bool) (other : X → Bool) (f : X → List Y) (xs : List X) → Every (λ x. list_any test (f x) ≡ other x) xs → list_any test (flat_map f xs) ≡ list_any other xs
any_flat test other f [] each = refl
any_flat test other f (x ∷ xs) each = list_any-append test (f x) (flat_map f xs) ∙ (λ i. each.0 i || any_flat test other f xs each.1 i)
