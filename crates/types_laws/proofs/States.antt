-- The relation between states: it holds at the start, and steps keep it.
use Rattle.std.proofs.Common.{◌≡◌, ◌⊎◌, ◌↔◌, Bool, true, false, List, [], ◌∷◌, ◌++◌, map, filter, Option, Some, None, option_map, IsTrue, IsSomeAnd, refl, ap, sym, ◌∙◌, subst, inl, inr, ⊎_elim}
use Rattle.std.proofs.lemmas.List.{map-append}
use Rattle.std.proofs.lemmas.Cmp.{tied_itself}
use Rattle.std.specs.Cmp.{Equal-is}
use Rattle.std.specs.Ordering.{eq_by_cmp}
use Rattle.std.specs.FinSet as set
use Rattle.std.specs.Cmp.Lexicographic.{bytes_decides}
use Rattle.up_text.specs.declared.name.Name.{Name}
use Rattle.up_text.specs.Names.{same_name}
use Rattle.up_text.specs.Lists.{Somewhere, Member}
use Rattle.up_tree.specs.declared.action.Action.{Action}
use Rattle.up_tree.specs.declared.action.Effect.{Effect}
use Rattle.up_tree.specs.declared.action.Effect.TheVariants as effect
use Rattle.up_tree.specs.declared.action.Row.{Row}
use Rattle.up_tree.specs.declared.term.Typed.{Typed}
use Rattle.up_tree.specs.declared.problem.Fact.{Fact}
use Rattle.up_tree.specs.declared.problem.Parts.{Parts}
use Rattle.up_tree.specs.Objects.{World, world, type_in, named, is_below, is_of, objects_of, type_chain, action_named}
use Rattle.up_tree.specs.State.{State, Ground, ground, ground_cmp, Holds, number_at, object_at, init}
use Rattle.up_tree.specs.Instances.{firing}
use Rattle.up_tree.specs.Changes.{changed}
use Rattle.up_tree.specs.WellFormed.{IsWellFormed, IsBelow, IsFact, IsAction}
use Rattle.up_tree.proofs.States.{ground_total}
use Rattle.up_eval.proofs.Types.{object_of, some_and, at_some}
use Rattle.semantics_laws.specs.Symbols.{Symbol, predicate, target, EffectNames, RowNames, ActionNames, StepChanges, AgreeOn}
use Rattle.semantics_laws.proofs.Framing.{rest_stays}
use Rattle.semantics_laws.proofs.Stepping.{agree_next}
use Rattle.semantics_laws.proofs.Tables.{tied}
use Rattle.step_laws.proofs.Splitting.{find_of, find_member}
use Rattle.compiling_laws.proofs.Lists.{any_true, any_from, member_left, member_right, member_either, member_map, of_map, member_flat, of_flat, member_filter, false_true}
use Rattle.step_laws.proofs.Lists.{every_at}
use Rattle.compiling_laws.specs.Forms.{symbols}
use Rattle.types_laws.specs.Guards.{Guard, guards}
use Rattle.types_laws.specs.Types.{guard_facts, new_facts, untyped}
use Rattle.types_laws.specs.Related.{IsGuard, AreRelated}
use Rattle.types_laws.proofs.Guarding.{Guarding}
use Rattle.types_laws.proofs.Naming.{fact_declared, action_declared, is_guard, undeclared, one_guard, names_none}

-- ---- initial atoms

abbrev key : Fact → Ground
key f = ground f.predicate f.args

itself : (q : Ground) → eq_by_cmp ground_cmp q q ≡ true
itself q = (Equal-is (ground_cmp q q)).1 (tied_itself ground_total q)

listed : (qs : List Ground) (q : Ground) → IsTrue (set.contains (set.from_list {R = ground_cmp} qs) q) ↔ Member q qs
listed qs q = (
  (λ h. let k : (x : Ground) × Member x qs × (eq_by_cmp ground_cmp q x ≡ true) = any_true (eq_by_cmp ground_cmp q) qs (sym (set.contains-from_list ground_total qs q) ∙ h) in
      subst (λ x. Member x qs) (sym (tied q k.0 k.2)) k.1),
  (λ m. set.contains-from_list ground_total qs q ∙ any_from (eq_by_cmp ground_cmp q) qs q m (itself q)),
)

initially : (p : Parts) (q : Ground) → Holds (init p) q ↔ Member q (map key p.atoms)
unfolding init
initially p q = listed (map key p.atoms) q

abbrev first_name : Ground → Name
first_name [] = []
first_name (n ∷ q) = n

abbrev rest_names : Ground → List Name
rest_names [] = []
rest_names (n ∷ q) = q

module _ (p : Parts) (well : IsWellFormed p) where
  abbrev q : Parts
  q = untyped p

  -- an initial atom of the output is one of the source's or a new one
  atom_of : (n : Name) (args : List Name) → Member (ground n args) (map key (p.atoms ++ new_facts p)) →
      Member (ground n args) (map key p.atoms) ⊎ ((g : Guard) × Member g (guards p) × (n ≡ g.predicate) × ((o : Name) × (args ≡ o ∷ []) × Member o (objects_of (world p) g.of)))
  atom_of n args m =
      let f : (f : Fact) × Member f (p.atoms ++ new_facts p) × (ground n args ≡ key f) = of_map key (p.atoms ++ new_facts p) (ground n args) m in
      ⊎_elim
      (λ k. inl (subst (λ x. Member x (map key p.atoms)) (sym f.2) (member_map key p.atoms f.0 k)))
      (λ k. inr (let g : (g : Guard) × Member g (guards p) × Member f.0 (guard_facts (world p) g) = of_flat (guard_facts (world p)) f.0 (guards p) k in
      let o : (o : Name) × Member o (objects_of (world p) g.0.of) × (f.0 ≡ record { predicate = g.0.predicate; args = o ∷ [] }) =
      of_map (λ o. let x : Fact = record { predicate = g.0.predicate; args = o ∷ [] } in x) (objects_of (world p) g.0.of) f.0 g.2 in
      (g.0, g.1, ap first_name f.2 ∙ ap (λ (x : Fact). x.predicate) o.2, (o.0, ap rest_names f.2 ∙ ap (λ (x : Fact). x.args) o.2, o.1))))
      (member_either f.0 p.atoms (new_facts p) f.1)

  source_atom : (n : Name) (args : List Name) → Member (ground n args) (map key p.atoms) → Member n (symbols p)
  source_atom n args m =
      let f : (f : Fact) × Member f p.atoms × (ground n args ≡ key f) = of_map key p.atoms (ground n args) m in
      subst (λ x. Member x (symbols p)) (sym (ap first_name f.2)) (fact_declared p f.0.predicate _ (every_at (IsFact p) p.atoms f.0 well.atoms f.1))

  both_atoms : (x : Ground) → Member x (map key p.atoms) → Member x (map key (p.atoms ++ new_facts p))
  both_atoms x m = subst (Member x) (sym (map-append key p.atoms (new_facts p))) (member_left x (map key p.atoms) (map key (new_facts p)) m)

  new_atom : (g : Guard) → Member g (guards p) → (o : Name) → Member o (objects_of (world p) g.of) → Member (ground g.predicate (o ∷ [])) (map key (p.atoms ++ new_facts p))
  new_atom g m o k =
      member_map key (p.atoms ++ new_facts p) (record { predicate = g.predicate; args = o ∷ [] })
      (member_right (record { predicate = g.predicate; args = o ∷ [] }) p.atoms (new_facts p)
      (member_flat (guard_facts (world p)) g (record { predicate = g.predicate; args = o ∷ [] }) (guards p) m
      (member_map (λ o. let x : Fact = record { predicate = g.predicate; args = o ∷ [] } in x) (objects_of (world p) g.of) o k)))

  same_atoms : (n : Name) → ¬ IsGuard p (predicate n) → (args : List Name) → Holds (init p) (ground n args) ↔ Holds (init q) (ground n args)
  same_atoms n old args = (
    (λ h. (initially q (ground n args)).1 (both_atoms (ground n args) ((initially p (ground n args)).0 h))),
    (λ h. ⊎_elim (λ k. (initially p (ground n args)).1 k)
        (λ k. absurd (old (subst (λ x. IsGuard p (predicate x)) (sym k.2) (is_guard p k.0 k.1)))) (atom_of n args ((initially q (ground n args)).0 h))),
  )

  same_numbers : (x : Ground) → number_at (init p) x ≡ number_at (init q) x
  unfolding init
  same_numbers x = refl

  same_values : (x : Ground) → object_at (init p) x ≡ object_at (init q) x
  unfolding init
  same_values x = refl

  new_hold : (g : Guard) → Member g (guards p) → (args : List Name) →
      Holds (init q) (ground g.predicate args) ↔ ((o : Name) × (args ≡ o ∷ []) × Member o (objects_of (world p) g.of))
  new_hold g m args = (
    (λ h. ⊎_elim (λ k. absurd (undeclared p g m (source_atom g.predicate args k)))
        (λ k. let same : k.0 ≡ g = one_guard p k.0 g k.1 m (sym k.2) in
        (k.3.0, k.3.1, subst (λ (x : Guard). Member k.3.0 (objects_of (world p) x.of)) same k.3.2)) (atom_of g.predicate args ((initially q (ground g.predicate args)).0 h))),
    (λ k. (initially q (ground g.predicate args)).1 (subst (λ args. Member (ground g.predicate args) (map key (p.atoms ++ new_facts p))) (sym k.1) (new_atom g m k.0 k.2))),
  )

  pub related_initially : AreRelated p (init p) (init q)
  related_initially = record {
    same = record { atoms = same_atoms; numbers = λ f old objects. same_numbers (ground f objects); values = λ f old objects. same_values (ground f objects) };
    guards_hold = new_hold;
  }

-- ---- what the relation tells of guards

module _ (p : Parts) (well : IsWellFormed p) where
  abbrev under : World → Name → Option Name → Bool
  under u t None = false
  under u t (Some s) = is_below u s t

  of_objects : (o t : Name) → Member o (objects_of (world p) t) → is_of (world p) o t ≡ true
  of_objects o t m =
      some_and (type_in p.objects o) (λ u. IsBelow p u t) (object_of p well o t m)
      (λ u is below. ap (under (world p) t) is ∙ any_from (same_name t) (type_chain (world p) u) t below ((bytes_decides t t).1 refl))

  to_objects : (o t : Name) → is_of (world p) o t ≡ true → Member o (objects_of (world p) t)
  to_objects o t e = by (named p.objects o) refl e
    where
      by : (x : Option Typed) → named p.objects o ≡ x → under (world p) t (option_map (λ (y : Typed). y.of) x) ≡ true → Member o (objects_of (world p) t)
      by None is e = false_true e
      by (Some x) is e =
          let at : Member x p.objects × (x.name ≡ o) = find_of (λ (y : Typed). y.name) o p.objects x is in
          subst (λ n. Member n (objects_of (world p) t)) at.1
          (member_map (λ (y : Typed). y.name) (filter (λ (y : Typed). is_below (world p) y.of t) p.objects) x
          (member_filter (λ (y : Typed). is_below (world p) y.of t) p.objects x at.0 e))

  one_test : (b c : Bool) → (b ≡ true → c ≡ true) → (c ≡ true → b ≡ true) → b ≡ c
  one_test true c f g = sym (f refl)
  one_test false true f g = g refl
  one_test false false f g = refl

  alone : (o x : Name) → o ∷ [] ≡ x ∷ [] → o ≡ x
  alone o x e = ap first_name e

  pub guarding : (s t : State) → AreRelated p s t → Guarding p t
  guarding s t related g m o =
      one_test (set.contains t.atoms (ground g.predicate (o ∷ []))) (is_of (world p) o g.of)
      (λ h. let k : (x : Name) × (o ∷ [] ≡ x ∷ []) × Member x (objects_of (world p) g.of) = (related.guards_hold g m (o ∷ [])).0 h in
      of_objects o g.of (subst (λ n. Member n (objects_of (world p) g.of)) (sym (alone o k.0 k.1)) k.2))
      (λ h. (related.guards_hold g m (o ∷ [])).1 (o, refl, to_objects o g.of h))

-- ---- steps keep it

module _ (p : Parts) (well : IsWellFormed p) (a : Action) (m : Member a p.actions) (args : List Name) where
  is : IsAction p a
  is = every_at (IsAction p) p.actions a well.actions m

  pub within : (x : Symbol) → ActionNames a x → ¬ IsGuard p x
  within = names_none p (ActionNames a) (λ n h. action_declared p a n is h)

  found : action_named p a.name ≡ Some a
  found = find_member (λ (a : Action). a.name) p.actions a well.action_names.differ m

  target_named : (e : Effect) (x : Symbol) → x ≡ target e → EffectNames e x
  target_named (effect.Add name ts) x e = inl e
  target_named (effect.Delete name ts) x e = inl e
  target_named (effect.Number change f ts y) x e = inl e
  target_named (effect.Object f ts u) x e = inl e
  target_named (effect.Undefine f ts) x e = inl e

  targets_named : (rows : List Row) (x : Symbol) → Somewhere (λ (row : Row). x ≡ target row.effect) rows → Somewhere (λ (row : Row). RowNames row x) rows
  targets_named [] x h = h
  targets_named (r ∷ rows) x (inl e) = inl (inr (target_named r.effect x e))
  targets_named (r ∷ rows) x (inr h) = inr (targets_named rows x h)

  unchanged : (g : Guard) → Member g (guards p) → ¬ StepChanges p (record { action = a.name; args = args }) (predicate g.predicate)
  unchanged g k h =
      within (predicate g.predicate)
      (inr (targets_named a.rows (predicate g.predicate) (subst (λ o. IsSomeAnd o (λ (b : Action). Somewhere (λ (row : Row). predicate g.predicate ≡ target row.effect) b.rows)) found h)))
      (is_guard p g k)

  stays : (t : State) → AgreeOn (λ x. ¬ StepChanges p (record { action = a.name; args = args }) x) t (changed t (firing (world p) t a args))
  stays t =
      rest_stays p t (record { action = a.name; args = args }) (changed t (firing (world p) t a args))
      (at_some (action_named p a.name) a (λ (b : Action). changed t (firing (world p) t a args) ≡ changed t (firing (world p) t b args)) found refl)

  pub related_next : (s t : State) → AreRelated p s t → AreRelated p (changed s (firing (world p) s a args)) (changed t (firing (world p) t a args))
  related_next s t related = record {
    same = agree_next (λ x. ¬ IsGuard p x) s t related.same (world p) a args within;
    guards_hold = λ g k objects.
        let before : Holds t (ground g.predicate objects) ↔ ((o : Name) × (objects ≡ o ∷ []) × Member o (objects_of (world p) g.of)) = related.guards_hold g k objects in
        let stay : Holds t (ground g.predicate objects) ↔ Holds (changed t (firing (world p) t a args)) (ground g.predicate objects) = (stays t).atoms g.predicate (unchanged g k) objects in
        (λ h. before.0 (stay.1 h), λ h. stay.0 (before.1 h));
  }
