-- The initial states are related.
use Rattle.std.proofs.Common.{◌≡◌, Bool, true, false, not as flip, ◌&&◌, ◌||◌, List, [], ◌∷◌, map, filter, Option, Some, None, option_map, IsSome, refl, ap, sym, ◌∙◌, subst, inl, inr, ⊎_elim}
use Rattle.std.specs.Prelude.{nat_eq}
use Rattle.std.specs.List.{list_any, flat_map}
use Rattle.std.specs.FinSet as set
use Rattle.std.specs.Cmp.Lexicographic.{pointwise, bytes_decides}
use Rattle.std.proofs.lemmas.Slice.Eq.{bytes_eq-Decides, slice_eq-Decides}
use Rattle.std.proofs.lemmas.Bool.{false_from_ne_true}
use Rattle.std.proofs.lemmas.List.Folds.{list_any-append}
use Rattle.up_text.specs.declared.name.Name.{Name}
use Rattle.up_text.specs.Names.{same_name}
use Rattle.up_text.specs.Lists.{Member}
use Rattle.up_tree.specs.declared.term.Typed.{Typed}
use Rattle.up_tree.specs.declared.problem.Fact.{Fact}
use Rattle.up_tree.specs.declared.problem.Parts.{Parts}
use Rattle.up_tree.specs.declared.problem.Predicate.{Predicate}
use Rattle.up_tree.specs.Objects.{world, named, type_in, type_chain, is_below, objects_of}
use Rattle.up_tree.specs.State.{Ground, ground, init, number_at, object_at}
use Rattle.up_tree.specs.Changes.{is_at}
use Rattle.up_tree.specs.WellFormed.{IsWellFormed, IsBelow, ObjectsFit, IsFact}
use Rattle.up_tree.proofs.States.{ground_total}
use Rattle.up_kind.specs.Carried.{type_tuples}
use Rattle.up_eval.proofs.Types.{no_none, same_some, some_and, object_of}
use Rattle.semantics_laws.proofs.Tables.{tied}
use Rattle.expansion_forms.specs.Covered.{IsObjectOf}
use Rattle.compiling_laws.proofs.Lists.{false_true, and_true, not_true, any_true, any_from, any_none, member_left, member_right, member_either, member_map, of_map, member_flat, of_flat, member_filter, of_filter}
use Rattle.step_laws.proofs.Lists.{every_at}
use Rattle.step_laws.proofs.Splitting.{find_of}
use Rattle.negations_laws.specs.Twins.{Twin, words, twins_in, differ_in, is_initial, fact, twin_atoms, different_pairs, differ_atoms, new_atoms, twinned}
use Rattle.negations_laws.specs.Related.{AreTwinned}
use Rattle.negations_laws.proofs.Values.{found_old}
use Rattle.negations_laws.proofs.Words.{one_of_key, names_differ, twin_not_old, differ_not_old, differ_no_twin}
use Rattle.negations_laws.proofs.Hitting.{at_itself, one_test, or_nothing}

-- ---- typed tuples

joined : (a b : Bool) → a ≡ true → b ≡ true → (a && b) ≡ true
joined true b e h = h
joined false b e h = false_true e

module _ (p : Parts) where
  among_objects : (o of : Name) → IsObjectOf p o of → Member o (objects_of (world p) of)
  among_objects o of h = some_and (type_in p.objects o) (λ u. IsBelow p u of) h (λ u at under. by u under (named p.objects o) refl at)
    where
      by : (u : Name) → IsBelow p u of → (found : Option Typed) → named p.objects o ≡ found → option_map (λ (x : Typed). x.of) found ≡ Some u → Member o (objects_of (world p) of)
      by u under None found is = no_none u is
      by u under (Some x) found is =
          let at : Member x p.objects × (x.name ≡ o) = find_of (λ (x : Typed). x.name) o p.objects x found in
          let below : is_below (world p) x.of of ≡ true =
          any_from (same_name of) (type_chain (world p) x.of) of (subst (λ t. IsBelow p t of) (sym (same_some x.of u is)) under) ((bytes_decides of of).1 refl) in
          subst (λ n. Member n (objects_of (world p) of)) at.1
          (member_map (λ (x : Typed). x.name) (filter (λ (x : Typed). is_below (world p) x.of of) p.objects) x
          (member_filter (λ (x : Typed). is_below (world p) x.of of) p.objects x at.0 below))

  pub fitting_listed : (os types : List Name) → ObjectsFit p os types → Member os (type_tuples p types)
  fitting_listed [] [] fit = inl refl
  fitting_listed [] (of ∷ types) fit = absurd fit
  fitting_listed (o ∷ os) [] fit = absurd fit
  fitting_listed (o ∷ os) (of ∷ types) fit =
      member_flat (λ o. map (λ rest. o ∷ rest) (type_tuples p types)) o (o ∷ os) (objects_of (world p) of) (among_objects o of fit.0)
      (member_map (λ rest. o ∷ rest) (type_tuples p types) os (fitting_listed os types fit.1))

  pub listed_fits : IsWellFormed p → (types os : List Name) → Member os (type_tuples p types) → ObjectsFit p os types
  listed_fits well [] os (inl e) = subst (λ os. ObjectsFit p os []) (sym e) tt
  listed_fits well [] os (inr none) = absurd none
  listed_fits well (of ∷ types) os m =
      let o = of_flat (λ o. map (λ rest. o ∷ rest) (type_tuples p types)) os (objects_of (world p) of) m in
      let rest = of_map (λ rest. o.0 ∷ rest) (type_tuples p types) os o.2 in
      subst (λ os. ObjectsFit p os (of ∷ types)) (sym rest.2) (object_of p well o.0 of o.1, listed_fits well types rest.0 rest.1)

-- ---- facts at a place

abbrev pub stands_at : Ground → Fact → Bool
stands_at q f = is_at q (ground f.predicate f.args)

pub names_decide : (xs ys : List Name) → (pointwise (pointwise nat_eq) xs ys ≡ true → xs ≡ ys) × (xs ≡ ys → pointwise (pointwise nat_eq) xs ys ≡ true)
names_decide xs ys = slice_eq-Decides bytes_eq-Decides xs ys (pointwise (pointwise nat_eq) xs ys) refl

first_name : (n m : Name) (xs ys : List Name) → n ∷ xs ≡ m ∷ ys → n ≡ m
first_name n m xs ys e = cc

other_names : (n m : Name) (xs ys : List Name) → n ∷ xs ≡ m ∷ ys → xs ≡ ys
other_names n m xs ys e = cc

apart_at : (n : Name) (os : List Name) (f : Fact) → ¬ (n ≡ f.predicate) → stands_at (ground n os) f ≡ false
apart_at n os f apart = false_from_ne_true _ (λ h. apart (first_name n f.predicate os f.args (tied (ground n os) (ground f.predicate f.args) h)))

fact_at : (n : Name) (os : List Name) → stands_at (ground n os) (fact n os) ≡ true
fact_at n os = at_itself (ground n os)

-- the atom is initial where it stands among the facts
initial_is : (n : Name) (os : List Name) (facts : List Fact) → list_any (λ (a : Fact). same_name a.predicate n && pointwise (pointwise nat_eq) a.args os) facts ≡ list_any (stands_at (ground n os)) facts
initial_is n os [] = refl
initial_is n os (f ∷ facts) = λ i. one i || initial_is n os facts i
  where
    one : (same_name f.predicate n && pointwise (pointwise nat_eq) f.args os) ≡ stands_at (ground n os) f
    one = one_test _ _
        (λ h. let both = and_true (same_name f.predicate n) (pointwise (pointwise nat_eq) f.args os) h in
        subst (λ g. is_at (ground n os) g ≡ true)
        (λ i. sym ((bytes_decides f.predicate n).0 both.0) i ∷ sym ((names_decide f.args os).0 both.1) i) (at_itself (ground n os)))
        (λ h. let e : ground n os ≡ ground f.predicate f.args = tied (ground n os) (ground f.predicate f.args) h in
        joined _ _ ((bytes_decides f.predicate n).1 (sym (first_name n f.predicate os f.args e))) ((names_decide f.args os).1 (sym (other_names n f.predicate os f.args e))))

any_mapped : (q : Ground) (facts : List Fact) → list_any (is_at q) (map (λ (a : Fact). ground a.predicate a.args) facts) ≡ list_any (stands_at q) facts
any_mapped q [] = refl
any_mapped q (f ∷ facts) = ap (λ b. stands_at q f || b) (any_mapped q facts)

pub initial_atom : (p : Parts) (q : Ground) → set.contains (init p).atoms q ≡ list_any (stands_at q) p.atoms
unfolding init
initial_atom p q = set.contains-from_list ground_total (map (λ (a : Fact). ground a.predicate a.args) p.atoms) q ∙ any_mapped q p.atoms

module _ (p : Parts) (well : IsWellFormed p) where
  abbrev twins : List Twin
  twins = twins_in p

  abbrev IsOldName : Name → Type 0
  IsOldName n = Member n (map (λ (d : Predicate). d.name) p.predicates)

  -- where a new atom comes from
  pub data IsNew (f : Fact) : Type 0 where
    of_twin : (x : Twin) → Member x twins → (os : List Name) → Member os (type_tuples p x.of.args) → is_initial p x.of.name os ≡ false → f ≡ fact x.name os → IsNew f
    of_differ : (name : Name) → differ_in p ≡ Some name → (a b : Name) → Member a (map (λ (o : Typed). o.name) p.objects) → Member b (map (λ (o : Typed). o.name) p.objects) →
        same_name a b ≡ false → f ≡ fact name (a ∷ b ∷ []) → IsNew f

  pub of_pairs : (os : List Name) → Member os (different_pairs p) → (a : Name) × (b : Name) × Member a (map (λ (o : Typed). o.name) p.objects) × Member b (map (λ (o : Typed). o.name) p.objects)
      × (same_name a b ≡ false) × (os ≡ a ∷ b ∷ [])
  of_pairs os m =
      let names : List Name = map (λ (o : Typed). o.name) p.objects in
      let a = of_flat (λ a. map (λ b. a ∷ b ∷ []) (filter (λ b. flip (same_name a b)) (map (λ (o : Typed). o.name) p.objects))) os (map (λ (o : Typed). o.name) p.objects) m in
      let b = of_map (λ b. a.0 ∷ b ∷ []) (filter (λ b. flip (same_name a.0 b)) (map (λ (o : Typed). o.name) p.objects)) os a.2 in
      let k = of_filter (λ b. flip (same_name a.0 b)) (map (λ (o : Typed). o.name) p.objects) b.0 b.1 in
      (a.0, b.0, a.1, k.0, not_true (same_name a.0 b.0) k.1, b.2)

  from_differ : (f : Fact) → (o : Option Name) → differ_in p ≡ o → Member f (differ_atoms p o) → IsNew f
  from_differ f None is m = absurd m
  from_differ f (Some name) is m =
      let os = of_map (fact name) (different_pairs p) f m in
      let k = of_pairs os.0 os.1 in
      of_differ name is k.0 k.1 k.2 k.3 k.4 (os.2 ∙ ap (fact name) k.5)

  pub from_new : (f : Fact) → Member f (new_atoms p (words p)) → IsNew f
  from_new f m = ⊎_elim
      (λ k. let x = of_flat (twin_atoms p) f twins k in
      let os = of_map (fact x.0.name) (filter (λ objects. flip (is_initial p x.0.of.name objects)) (type_tuples p x.0.of.args)) f x.2 in
      let h = of_filter (λ objects. flip (is_initial p x.0.of.name objects)) (type_tuples p x.0.of.args) os.0 os.1 in
      of_twin x.0 x.1 os.0 h.0 (not_true (is_initial p x.0.of.name os.0) h.1) os.2)
      (λ k. from_differ f (differ_in p) refl k)
      (member_either f (flat_map (twin_atoms p) twins) (differ_atoms p (differ_in p)) m)

  all_atoms : (q : Ground) → set.contains (init (twinned p)).atoms q ≡ (list_any (stands_at q) p.atoms || list_any (stands_at q) (new_atoms p (words p)))
  all_atoms q = initial_atom (twinned p) q ∙ list_any-append (stands_at q) p.atoms (new_atoms p (words p))

  -- ---- an old atom

  none_new : (n : Name) (os : List Name) → IsOldName n → list_any (stands_at (ground n os)) (new_atoms p (words p)) ≡ false
  none_new n os old = any_none (stands_at (ground n os)) (new_atoms p (words p)) (λ f m. by f (from_new f m))
    where
      by : (f : Fact) → IsNew f → stands_at (ground n os) f ≡ false
      by f (of_twin x k objects listed out is) =
          apart_at n os f (λ same. twin_not_old p x k (subst IsOldName (same ∙ ap (λ (f : Fact). f.predicate) is) old))
      by f (of_differ name word a b in_a in_b apart is) =
          apart_at n os f (λ same. differ_not_old p name word (subst IsOldName (same ∙ ap (λ (f : Fact). f.predicate) is) old))

  old_same : (n : Name) (os : List Name) → IsOldName n → set.contains (init p).atoms (ground n os) ≡ set.contains (init (twinned p)).atoms (ground n os)
  old_same n os old =
      initial_atom p (ground n os) ∙ sym (or_nothing _) ∙ ap (λ b. list_any (stands_at (ground n os)) p.atoms || b) (sym (none_new n os old)) ∙ sym (all_atoms (ground n os))

  -- ---- a new atom

  none_old : (n : Name) (os : List Name) → ¬ IsOldName n → list_any (stands_at (ground n os)) p.atoms ≡ false
  none_old n os new = any_none (stands_at (ground n os)) p.atoms (λ f m.
      apart_at n os f (λ same. new (subst IsOldName (sym same) (found_old p f.predicate (λ d. ObjectsFit p f.args d.args) (every_at (IsFact p) p.atoms f well.atoms m)))))

  new_atom : (n : Name) (os : List Name) → ¬ IsOldName n → set.contains (init (twinned p)).atoms (ground n os) ≡ list_any (stands_at (ground n os)) (new_atoms p (words p))
  new_atom n os new = all_atoms (ground n os) ∙ ap (λ b. b || list_any (stands_at (ground n os)) (new_atoms p (words p))) (none_old n os new)

  twin_atom : (x : Twin) → Member x twins → (os : List Name) → ObjectsFit p os x.of.args →
      list_any (stands_at (ground x.name os)) (new_atoms p (words p)) ≡ flip (is_initial p x.of.name os)
  twin_atom x k os fit = one_test _ _ there here
    where
      told : (f : Fact) → IsNew f → stands_at (ground x.name os) f ≡ true → flip (is_initial p x.of.name os) ≡ true
      told f (of_twin y j objects listed out is) h =
          let e : ground x.name os ≡ ground f.predicate f.args = tied (ground x.name os) (ground f.predicate f.args) h in
          let named : x.name ≡ y.name = first_name x.name f.predicate os f.args e ∙ ap (λ (f : Fact). f.predicate) is in
          let args : os ≡ objects = other_names x.name f.predicate os f.args e ∙ ap (λ (f : Fact). f.args) is in
          let same : x ≡ y = one_of_key (λ (z : Twin). z.name) twins x y (names_differ p) k j named in
          ap flip ((λ i. is_initial p (same i).of.name (args i)) ∙ out)
      told f (of_differ name word a b in_a in_b apart is) h =
          absurd (differ_no_twin p name word x k
          (sym (first_name x.name f.predicate os f.args (tied (ground x.name os) (ground f.predicate f.args) h) ∙ ap (λ (f : Fact). f.predicate) is)))

      there : list_any (stands_at (ground x.name os)) (new_atoms p (words p)) ≡ true → flip (is_initial p x.of.name os) ≡ true
      there h = let f = any_true (stands_at (ground x.name os)) (new_atoms p (words p)) h in told f.0 (from_new f.0 f.1) f.2

      here : flip (is_initial p x.of.name os) ≡ true → list_any (stands_at (ground x.name os)) (new_atoms p (words p)) ≡ true
      here h = any_from (stands_at (ground x.name os)) (new_atoms p (words p)) (fact x.name os)
          (member_left (fact x.name os) (flat_map (twin_atoms p) twins) (differ_atoms p (differ_in p))
          (member_flat (twin_atoms p) x (fact x.name os) twins k
          (member_map (fact x.name) (filter (λ objects. flip (is_initial p x.of.name objects)) (type_tuples p x.of.args)) os
          (member_filter (λ objects. flip (is_initial p x.of.name objects)) (type_tuples p x.of.args) os (fitting_listed p os x.of.args fit) h))))
          (fact_at x.name os)

  named_member : (a : Name) → IsSome (named p.objects a) → Member a (map (λ (o : Typed). o.name) p.objects)
  named_member a some = by (named p.objects a) refl some
    where
      by : (found : Option Typed) → named p.objects a ≡ found → IsSome found → Member a (map (λ (o : Typed). o.name) p.objects)
      by None at is = false_true is
      by (Some x) at is =
          let k : Member x p.objects × (x.name ≡ a) = find_of (λ (o : Typed). o.name) a p.objects x at in
          subst (λ n. Member n (map (λ (o : Typed). o.name) p.objects)) k.1 (member_map (λ (o : Typed). o.name) p.objects x k.0)

  differ_atom : (name : Name) → differ_in p ≡ Some name → (a b : Name) → IsSome (named p.objects a) → IsSome (named p.objects b) →
      list_any (stands_at (ground name (a ∷ b ∷ []))) (new_atoms p (words p)) ≡ flip (same_name a b)
  differ_atom name word a b at there = one_test _ _ some here
    where
      told : (f : Fact) → IsNew f → stands_at (ground name (a ∷ b ∷ [])) f ≡ true → flip (same_name a b) ≡ true
      told f (of_twin y j objects listed out is) h =
          absurd (differ_no_twin p name word y j
          (first_name name f.predicate (a ∷ b ∷ []) f.args (tied (ground name (a ∷ b ∷ [])) (ground f.predicate f.args) h) ∙ ap (λ (f : Fact). f.predicate) is))
      told f (of_differ other also x y in_x in_y apart is) h =
          let e : ground name (a ∷ b ∷ []) ≡ ground f.predicate f.args = tied (ground name (a ∷ b ∷ [])) (ground f.predicate f.args) h in
          let args : a ∷ b ∷ [] ≡ x ∷ y ∷ [] = other_names name f.predicate (a ∷ b ∷ []) f.args e ∙ ap (λ (f : Fact). f.args) is in
          ap flip ((λ i. same_name (first_name a x (b ∷ []) (y ∷ []) args i) (first_name b y [] [] (other_names a x (b ∷ []) (y ∷ []) args) i)) ∙ apart)

      some : list_any (stands_at (ground name (a ∷ b ∷ []))) (new_atoms p (words p)) ≡ true → flip (same_name a b) ≡ true
      some h = let f = any_true (stands_at (ground name (a ∷ b ∷ []))) (new_atoms p (words p)) h in told f.0 (from_new f.0 f.1) f.2

      pair : flip (same_name a b) ≡ true → Member (a ∷ b ∷ []) (different_pairs p)
      pair h =
          member_flat (λ a. map (λ b. a ∷ b ∷ []) (filter (λ b. flip (same_name a b)) (map (λ (o : Typed). o.name) p.objects))) a (a ∷ b ∷ []) (map (λ (o : Typed). o.name) p.objects) (named_member a at)
          (member_map (λ b. a ∷ b ∷ []) (filter (λ b. flip (same_name a b)) (map (λ (o : Typed). o.name) p.objects)) b
          (member_filter (λ b. flip (same_name a b)) (map (λ (o : Typed). o.name) p.objects) b (named_member b there) h))

      here : flip (same_name a b) ≡ true → list_any (stands_at (ground name (a ∷ b ∷ []))) (new_atoms p (words p)) ≡ true
      here h = any_from (stands_at (ground name (a ∷ b ∷ []))) (new_atoms p (words p)) (fact name (a ∷ b ∷ []))
          (member_right (fact name (a ∷ b ∷ [])) (flat_map (twin_atoms p) twins) (differ_atoms p (differ_in p))
          (subst (λ o. Member (fact name (a ∷ b ∷ [])) (differ_atoms p o)) (sym word) (member_map (fact name) (different_pairs p) (a ∷ b ∷ []) (pair h))))
          (fact_at name (a ∷ b ∷ []))

  same_numbers : (f : Name) (os : List Name) → number_at (init p) (ground f os) ≡ number_at (init (twinned p)) (ground f os)
  unfolding init
  same_numbers f os = refl

  same_objects : (f : Name) (os : List Name) → object_at (init p) (ground f os) ≡ object_at (init (twinned p)) (ground f os)
  unfolding init
  same_objects f os = refl

  pub initial_twinned : AreTwinned p (init p) (init (twinned p))
  initial_twinned = record {
    old = record {
      atoms = λ n old os. (λ h. sym (old_same n os old) ∙ h, λ h. old_same n os old ∙ h);
      numbers = λ f old os. same_numbers f os;
      values = λ f old os. same_objects f os;
    };
    twins = λ x k os fit.
        new_atom x.name os (twin_not_old p x k) ∙ twin_atom x k os fit
        ∙ ap flip (initial_is x.of.name os p.atoms ∙ sym (initial_atom p (ground x.of.name os)));
    differ = λ name word a b at there. new_atom name (a ∷ b ∷ []) (differ_not_old p name word) ∙ differ_atom name word a b at there;
  }
