-- Which atoms the rows with their twins add and delete.
use Rattle.std.proofs.Common.{◌≡◌, Bool, true, false, ◌||◌, List, [], ◌∷◌, ◌++◌, map, Option, Some, None, option_map, option_and_then, IsSomeAnd, refl, ap, sym, ◌∙◌, subst}
use Rattle.std.specs.List.{list_any, flat_map}
use Rattle.std.specs.Cmp.{Equal-is}
use Rattle.std.proofs.lemmas.Bool.{false_from_ne_true}
use Rattle.up_text.specs.declared.name.Name.{Name}
use Rattle.up_text.specs.Lists.{Every, Member}
use Rattle.up_tree.specs.declared.term.Term.{Term}
use Rattle.up_tree.specs.declared.term.Typed.{Typed}
use Rattle.up_tree.specs.declared.action.Row.{Row}
use Rattle.up_tree.specs.declared.action.Effect.{Effect}
use Rattle.up_tree.specs.declared.action.Effect.TheVariants.{Add, Delete, Number, Object, Undefine}
use Rattle.up_tree.specs.declared.problem.Predicate.{Predicate}
use Rattle.up_tree.specs.declared.problem.Parts.{Parts}
use Rattle.up_tree.specs.Objects.{Assignment, predicate_named}
use Rattle.up_tree.proofs.States.{ground_total}
use Rattle.step_laws.proofs.Lists.{every_at, every_from}
use Rattle.std.proofs.lemmas.Cmp.{tied_itself}
use Rattle.up_tree.specs.State.{State, Ground, ground, ground_cmp}
use Rattle.up_tree.specs.Value.{values_of}
use Rattle.up_tree.specs.Changes.{added, deleted, is_at}
use Rattle.up_tree.specs.WellFormed.{IsWellFormed, TermsFit, IsEffect, IsRow}
use Rattle.semantics_laws.proofs.Tables.{tied}
use Rattle.negations_laws.specs.Twins.{Twin, twin_of, twin_effect, row_doing, with_twin, twins_in}
use Rattle.negations_laws.proofs.Values.{found_old}
use Rattle.negations_laws.proofs.Words.{one_of_key, names_differ, twin_not_old, twin_found, of_found, olds_differ}
use Rattle.negations_laws.proofs.Doing.{hits, any_flat}

-- ---- one place

pub at_itself : (q : Ground) → is_at q q ≡ true
at_itself q = (Equal-is (ground_cmp q q)).1 (tied_itself ground_total q)

pub one_test : (b c : Bool) → (b ≡ true → c ≡ true) → (c ≡ true → b ≡ true) → b ≡ c
one_test true c f g = sym (f refl)
one_test false true f g = g refl
one_test false false f g = refl

first_name : (n m : Name) (xs ys : List Name) → n ∷ xs ≡ m ∷ ys → n ≡ m
first_name n m xs ys e = cc

other_names : (n m : Name) (xs ys : List Name) → n ∷ xs ≡ m ∷ ys → xs ≡ ys
other_names n m xs ys e = cc

pub misses : (n name : Name) (os : List Name) → ¬ (n ≡ name) → (v : Option (List Name)) → hits (ground n os) (option_map (ground name) v) ≡ false
misses n name os apart None = refl
misses n name os apart (Some vs) = false_from_ne_true _ (λ h. apart (first_name n name os vs (tied (ground n os) (ground name vs) h)))

-- two names go together with two others
pub both_hit : (n name m other : Name) (os : List Name) → (n ≡ name → m ≡ other) → (m ≡ other → n ≡ name) → (v : Option (List Name)) →
    hits (ground n os) (option_map (ground name) v) ≡ hits (ground m os) (option_map (ground other) v)
both_hit n name m other os f g None = refl
both_hit n name m other os f g (Some vs) = one_test _ _
    (λ h. let e : ground n os ≡ ground name vs = tied (ground n os) (ground name vs) h in
    subst (λ x. is_at (ground m os) x ≡ true) (λ i. f (first_name n name os vs e) i ∷ other_names n name os vs e i) (at_itself (ground m os)))
    (λ h. let e : ground m os ≡ ground other vs = tied (ground m os) (ground other vs) h in
    subst (λ x. is_at (ground n os) x ≡ true) (λ i. g (first_name m other os vs e) i ∷ other_names m other os vs e i) (at_itself (ground n os)))

pub or_nothing : (b : Bool) → (b || false) ≡ b
or_nothing true = refl
or_nothing false = refl

module _ (p : Parts) (t : State) (e : Assignment) where
  abbrev twins : List Twin
  twins = twins_in p

  abbrev IsOldName : Name → Type 0
  IsOldName n = Member n (map (λ (d : Predicate). d.name) p.predicates)

  abbrev deletes : Ground → Row → Bool
  deletes q r = hits q (deleted t e r.effect)

  abbrev adds : Ground → Row → Bool
  adds q r = hits q (added t e r.effect)

  old_apart : (n name : Name) (P : Predicate → Type 0) → ¬ IsOldName n → IsSomeAnd (predicate_named p name) P → ¬ (n ≡ name)
  old_apart n name P new is same = new (subst IsOldName (sym same) (found_old p name P is))

  module _ (objects scope : List Typed) where
    -- an effect of the problem doesn't hit a new predicate
    none_deleted : (n : Name) (os : List Name) → ¬ IsOldName n → (x : Effect) → IsEffect p objects scope x → hits (ground n os) (deleted t e x) ≡ false
    none_deleted n os new (Delete name ts) is = misses n name os (old_apart n name (λ d. TermsFit p objects scope ts d.args) new is) (values_of t e ts)
    none_deleted n os new (Add name ts) is = refl
    none_deleted n os new (Number change f ts x) is = refl
    none_deleted n os new (Object f ts u) is = refl
    none_deleted n os new (Undefine f ts) is = refl

    none_added : (n : Name) (os : List Name) → ¬ IsOldName n → (x : Effect) → IsEffect p objects scope x → hits (ground n os) (added t e x) ≡ false
    none_added n os new (Add name ts) is = misses n name os (old_apart n name (λ d. TermsFit p objects scope ts d.args) new is) (values_of t e ts)
    none_added n os new (Delete name ts) is = refl
    none_added n os new (Number change f ts x) is = refl
    none_added n os new (Object f ts u) is = refl
    none_added n os new (Undefine f ts) is = refl

  -- no twin has the name
  abbrev IsNoTwin : Name → Type 0
  IsNoTwin n = (x : Twin) → Member x twins → ¬ (n ≡ x.name)

  twin_misses : (n : Name) (os : List Name) → IsNoTwin n → (name : Name) (o : Option Name) → twin_of twins name ≡ o → (v : Option (List Name)) →
      hits (ground n os) (option_and_then (λ other. option_map (ground other) v) o) ≡ false
  twin_misses n os out name None is v = refl
  twin_misses n os out name (Some other) is v =
      let x : (x : Twin) × Member x twins × (x.of.name ≡ name) × (x.name ≡ other) = of_found p name other is in
      misses n other os (λ same. out x.0 x.1 (same ∙ sym x.3)) v

  -- what a twin's row deletes or adds, by the name of the twin
  deleted_row : (q : Ground) (r : Row) (ts : List Term) (o : Option Name) →
      list_any (deletes q) (row_doing r (option_map (λ other. Delete other ts) o)) ≡ hits q (option_and_then (λ other. option_map (ground other) (values_of t e ts)) o)
  deleted_row q r ts None = refl
  deleted_row q r ts (Some other) = or_nothing _

  deleted_row_none : (q : Ground) (r : Row) (ts : List Term) (o : Option Name) → list_any (deletes q) (row_doing r (option_map (λ other. Add other ts) o)) ≡ false
  deleted_row_none q r ts None = refl
  deleted_row_none q r ts (Some other) = refl

  added_row : (q : Ground) (r : Row) (ts : List Term) (o : Option Name) →
      list_any (adds q) (row_doing r (option_map (λ other. Add other ts) o)) ≡ hits q (option_and_then (λ other. option_map (ground other) (values_of t e ts)) o)
  added_row q r ts None = refl
  added_row q r ts (Some other) = or_nothing _

  added_row_none : (q : Ground) (r : Row) (ts : List Term) (o : Option Name) → list_any (adds q) (row_doing r (option_map (λ other. Delete other ts) o)) ≡ false
  added_row_none q r ts None = refl
  added_row_none q r ts (Some other) = refl

  no_twin_deleted : (n : Name) (os : List Name) → IsNoTwin n → (r : Row) (x : Effect) → list_any (deletes (ground n os)) (row_doing r (twin_effect twins x)) ≡ false
  no_twin_deleted n os out r (Add name ts) = deleted_row (ground n os) r ts (twin_of twins name) ∙ twin_misses n os out name (twin_of twins name) refl (values_of t e ts)
  no_twin_deleted n os out r (Delete name ts) = deleted_row_none (ground n os) r ts (twin_of twins name)
  no_twin_deleted n os out r (Number change f ts x) = refl
  no_twin_deleted n os out r (Object f ts u) = refl
  no_twin_deleted n os out r (Undefine f ts) = refl

  no_twin_added : (n : Name) (os : List Name) → IsNoTwin n → (r : Row) (x : Effect) → list_any (adds (ground n os)) (row_doing r (twin_effect twins x)) ≡ false
  no_twin_added n os out r (Delete name ts) = added_row (ground n os) r ts (twin_of twins name) ∙ twin_misses n os out name (twin_of twins name) refl (values_of t e ts)
  no_twin_added n os out r (Add name ts) = added_row_none (ground n os) r ts (twin_of twins name)
  no_twin_added n os out r (Number change f ts x) = refl
  no_twin_added n os out r (Object f ts u) = refl
  no_twin_added n os out r (Undefine f ts) = refl

  module _ (well : IsWellFormed p) (x : Twin) (m : Member x twins) (os : List Name) where
    -- the twin's atom goes with the old one
    twin_hits : (name : Name) (o : Option Name) → twin_of twins name ≡ o → (v : Option (List Name)) →
        hits (ground x.name os) (option_and_then (λ other. option_map (ground other) v) o) ≡ hits (ground x.of.name os) (option_map (ground name) v)
    twin_hits name None is v = sym (misses x.of.name name os (λ same. no_found (sym is ∙ subst (λ n. twin_of twins n ≡ Some x.name) same (twin_found p well x m))) v)
      where
        no_found : None ≡ Some x.name → ⊥
        no_found e = cc
    twin_hits name (Some other) is v =
        let y : (y : Twin) × Member y twins × (y.of.name ≡ name) × (y.name ≡ other) = of_found p name other is in
        both_hit x.name other x.of.name name os
        (λ same. ap (λ (z : Twin). z.of.name) (one_of_key (λ (z : Twin). z.name) twins x y.0 (names_differ p) m y.1 (same ∙ sym y.3)) ∙ y.2)
        (λ same. ap (λ (z : Twin). z.name) (one_of_key (λ (z : Twin). z.of.name) twins x y.0 (olds_differ p well) m y.1 (same ∙ sym y.2)) ∙ y.3)
        v

    twin_deleted : (r : Row) (y : Effect) → list_any (deletes (ground x.name os)) (row_doing r (twin_effect twins y)) ≡ hits (ground x.of.name os) (added t e y)
    twin_deleted r (Add name ts) = deleted_row (ground x.name os) r ts (twin_of twins name) ∙ twin_hits name (twin_of twins name) refl (values_of t e ts)
    twin_deleted r (Delete name ts) = deleted_row_none (ground x.name os) r ts (twin_of twins name)
    twin_deleted r (Number change f ts y) = refl
    twin_deleted r (Object f ts u) = refl
    twin_deleted r (Undefine f ts) = refl

    twin_added : (r : Row) (y : Effect) → list_any (adds (ground x.name os)) (row_doing r (twin_effect twins y)) ≡ hits (ground x.of.name os) (deleted t e y)
    twin_added r (Delete name ts) = added_row (ground x.name os) r ts (twin_of twins name) ∙ twin_hits name (twin_of twins name) refl (values_of t e ts)
    twin_added r (Add name ts) = added_row_none (ground x.name os) r ts (twin_of twins name)
    twin_added r (Number change f ts y) = refl
    twin_added r (Object f ts u) = refl
    twin_added r (Undefine f ts) = refl

  -- ---- each row with its twin

  module _ (objects params : List Typed) (rows : List Row) (are : Every (IsRow p objects params) rows) where
    effect_at : (r : Row) → Member r rows → IsEffect p objects (r.vars ++ params) r.effect
    effect_at r m = (every_at (IsRow p objects params) rows r are m).effect

    -- at an atom of an old predicate
    pub old_deleted : (n : Name) (os : List Name) → IsNoTwin n → list_any (deletes (ground n os)) (flat_map (with_twin twins) rows) ≡ list_any (deletes (ground n os)) rows
    old_deleted n os out = any_flat (deletes (ground n os)) (deletes (ground n os)) (with_twin twins) rows (every_from _ rows (λ r m.
        ap (λ b. deletes (ground n os) r || b) (no_twin_deleted n os out r r.effect) ∙ or_nothing _))

    pub old_added : (n : Name) (os : List Name) → IsNoTwin n → list_any (adds (ground n os)) (flat_map (with_twin twins) rows) ≡ list_any (adds (ground n os)) rows
    old_added n os out = any_flat (adds (ground n os)) (adds (ground n os)) (with_twin twins) rows (every_from _ rows (λ r m.
        ap (λ b. adds (ground n os) r || b) (no_twin_added n os out r r.effect) ∙ or_nothing _))

    none_any : {X : Type 0} (xs : List X) → list_any (λ x. false) xs ≡ false
    none_any [] = refl
    none_any (x ∷ xs) = none_any xs

    -- at an atom of a predicate that is neither old nor a twin
    pub other_deleted : (n : Name) (os : List Name) → ¬ IsOldName n → IsNoTwin n → list_any (deletes (ground n os)) (flat_map (with_twin twins) rows) ≡ false
    other_deleted n os new out = any_flat (deletes (ground n os)) (λ r. false) (with_twin twins) rows (every_from _ rows (λ r m.
        (λ i. none_deleted objects (r.vars ++ params) n os new r.effect (effect_at r m) i || no_twin_deleted n os out r r.effect i))) ∙ none_any rows

    pub other_added : (n : Name) (os : List Name) → ¬ IsOldName n → IsNoTwin n → list_any (adds (ground n os)) (flat_map (with_twin twins) rows) ≡ false
    other_added n os new out = any_flat (adds (ground n os)) (λ r. false) (with_twin twins) rows (every_from _ rows (λ r m.
        (λ i. none_added objects (r.vars ++ params) n os new r.effect (effect_at r m) i || no_twin_added n os out r r.effect i))) ∙ none_any rows

    -- at an atom of a twin
    pub new_deleted : IsWellFormed p → (x : Twin) → Member x twins → (os : List Name) →
        list_any (deletes (ground x.name os)) (flat_map (with_twin twins) rows) ≡ list_any (adds (ground x.of.name os)) rows
    new_deleted well x k os = any_flat (deletes (ground x.name os)) (adds (ground x.of.name os)) (with_twin twins) rows (every_from _ rows (λ r m.
        (λ i. none_deleted objects (r.vars ++ params) x.name os (twin_not_old p x k) r.effect (effect_at r m) i || twin_deleted well x k os r r.effect i)))

    pub new_added : IsWellFormed p → (x : Twin) → Member x twins → (os : List Name) →
        list_any (adds (ground x.name os)) (flat_map (with_twin twins) rows) ≡ list_any (deletes (ground x.of.name os)) rows
    new_added well x k os = any_flat (adds (ground x.name os)) (deletes (ground x.of.name os)) (with_twin twins) rows (every_from _ rows (λ r m.
        (λ i. none_added objects (r.vars ++ params) x.name os (twin_not_old p x k) r.effect (effect_at r m) i || twin_added well x k os r r.effect i)))
