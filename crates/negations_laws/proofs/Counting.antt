-- What the count counts: the new atoms are no more.
use Rattle.std.proofs.Common.{◌≡◌, ◌⊎◌, ℕ, suc, ◌+◌, ◌*◌, ◌≤◌, Bool, true, false, cond, not as flip, ◌&&◌, codes, List, [], ◌∷◌, ◌++◌, map, filter, take, length, length-append, Some, None, sum_by, refl, ap, sym, ◌∙◌, subst, inl, inr, ⊎_elim, arith}
use Rattle.std.specs.Prelude.{if◌then◌else◌}
use Rattle.std.specs.List.{flat_map}
use Rattle.std.specs.Cmp.Lexicographic.{bytes_decides}
use Rattle.std.proofs.lemmas.List.Sums.{sum_by-cons}
use Rattle.up_text.specs.declared.name.Name.{Name}
use Rattle.up_text.specs.Names.{same_name}
use Rattle.up_text.specs.Fresh.{fresh_name}
use Rattle.up_text.specs.Lists.{Member}
use Rattle.up_tree.specs.declared.term.Typed.{Typed}
use Rattle.up_tree.specs.declared.formula.Formula.{Formula, And, And', Or, Or', Atom, Equal, Compare, Row_of-Formula, end_of-Formula, more_of-Formula}
use Rattle.up_tree.specs.declared.action.Action.{Action}
use Rattle.up_tree.specs.declared.problem.Parts.{Parts}
use Rattle.up_tree.specs.declared.problem.Predicate.{Predicate}
use Rattle.up_tree.specs.declared.problem.Function.{Function}
use Rattle.up_tree.specs.Nodes.{not, imply, exists, forall}
use Rattle.up_tree.specs.Normal.{nnf}
use Rattle.up_tree.specs.Objects.{world}
use Rattle.up_tree.specs.Simplify.{knows_nothing, false_formula, is_false_formula, simplified}
use Rattle.up_tree.specs.WellFormed.{IsWellFormed, IsAction}
use Rattle.up_kind.specs.Carried.{anywhere, is_equal, type_tuples}
use Rattle.semantics_laws.specs.Symbols.{predicate, FormulaNames, MembersName}
use Rattle.compiling_laws.proofs.Lists.{false_true, none_some, some_same, any_true, any_from, member_left, member_map, of_map, of_filter_map, length-map}
use Rattle.step_laws.proofs.Lists.{every_at}
use Rattle.compiling_laws.specs.Forms.{symbols}
use Rattle.finishing_laws.specs.Finished.{Goal}
use Rattle.negations_laws.specs.Twins.{denies, tells_different, main_conditions, stands_in, symbol_names, twin_names, twins_of, twins_in, differ_in, words, is_initial, fact, twin_atoms, different_pairs, differ_atoms, new_atoms}
use Rattle.negations_laws.specs.Negations.{simple_normal, simple_form, negations, negated, some_negated, is_atom_of, stands_negated, negations_count}
use Rattle.negations_laws.proofs.Values.{formula_names}
use Rattle.negations_laws.proofs.Words.{fresh_new, some_length}
use Rattle.negations_laws.proofs.Denials.{two_ways, IsDenial, denies_is, different_is, of_condition}

-- ---- what stands negated names a predicate of the problem

both_true : (a b : Bool) → (a && b) ≡ true → b ≡ true
both_true true b h = h
both_true false b h = false_true h

mutual
  unfolding negated some_negated FormulaNames MembersName

  negated_names : (name : Name) (odd : Bool) (f : Formula) → negated (is_atom_of name) odd f ≡ true → FormulaNames f (predicate name)
  negated_names name odd (And' n fs) h = some_names name odd fs h
  negated_names name odd (Or' n fs) h = some_names name odd fs h
  negated_names name odd (not f) h = negated_names name (flip odd) f h
  negated_names name odd (imply f g) h =
      ⊎_elim (λ k. inl (negated_names name (flip odd) f k)) (λ k. inr (negated_names name odd g k)) (two_ways (negated (is_atom_of name) (flip odd) f) (negated (is_atom_of name) odd g) h)
  negated_names name odd (exists vars f) h = negated_names name odd f h
  negated_names name odd (forall vars f) h = negated_names name odd f h
  negated_names name odd (Atom other ts) h = inl (ap predicate (sym ((bytes_decides other name).0 (both_true odd (same_name other name) h))))
  negated_names name odd (Equal v w) h = false_true (both_true odd false h)
  negated_names name odd (Compare r a b) h = false_true h

  some_names : (name : Name) (odd : Bool) {n : _} (fs : Row_of-Formula n) → some_negated (is_atom_of name) odd fs ≡ true → MembersName fs (predicate name)
  some_names name odd end_of-Formula h = false_true h
  some_names name odd (more_of-Formula f fs) h =
      ⊎_elim (λ k. inl (negated_names name odd f k)) (λ k. inr (some_names name odd fs k)) (two_ways (negated (is_atom_of name) odd f) (some_negated (is_atom_of name) odd fs) h)

-- ---- numbers

no_more : {X : Type 0} (weight : X → ℕ) (s r : X → Bool) (xs ys : List X) → ((x : X) → s x ≡ true → r x ≡ true) → ((y : X) → Member y ys → s y ≡ false) →
    sum_by weight (filter s (xs ++ ys)) ≤ sum_by weight (filter r xs)
no_more weight s r [] [] each none = omega arith
no_more weight s r [] (y ∷ ys) each none =
    subst (λ b. sum_by weight (cond b (y ∷ filter s ys) (filter s ys)) ≤ sum_by weight []) (sym (none y (inl refl))) (no_more weight s r [] ys each (λ z m. none z (inr m)))
no_more weight s r (x ∷ xs) ys each none = by (s x) (each x) (r x) (no_more weight s r xs ys each none)
  where
    by : (a : Bool) → (a ≡ true → r x ≡ true) → (b : Bool) → sum_by weight (filter s (xs ++ ys)) ≤ sum_by weight (filter r xs) →
        sum_by weight (cond a (x ∷ filter s (xs ++ ys)) (filter s (xs ++ ys))) ≤ sum_by weight (filter r (x ∷ xs))
    by a h b le = two a (r x) h le
      where
        two : (a b : Bool) → (a ≡ true → b ≡ true) → sum_by weight (filter s (xs ++ ys)) ≤ sum_by weight (filter r xs) →
            sum_by weight (cond a (x ∷ filter s (xs ++ ys)) (filter s (xs ++ ys))) ≤ sum_by weight (cond b (x ∷ filter r xs) (filter r xs))
        two true true h le = omega (arith, le, sum_by-cons weight x (filter s (xs ++ ys)), sum_by-cons weight x (filter r xs))
        two true false h le = false_true (h refl)
        two false true h le = omega (arith, le, sum_by-cons weight x (filter r xs))
        two false false h le = le

module _ (n : Parts) where
  twin_atoms_few : (used : List Name) (ds : List Predicate) → length (flat_map (twin_atoms n) (twins_of used ds)) ≤ sum_by (λ (d : Predicate). length (type_tuples n d.args)) ds
  twin_atoms_few used [] = omega arith
  twin_atoms_few used (d ∷ ds) =
      let name : Name = fresh_name (codes "not-" ++ d.name) used in
      omega (
        arith,
        length-append (twin_atoms n (record { of = d; name = name })) (flat_map (twin_atoms n) (twins_of (name ∷ used) ds)),
        length-map (fact name) (filter (λ objects. flip (is_initial n d.name objects)) (type_tuples n d.args)),
        some_length (λ objects. flip (is_initial n d.name objects)) (type_tuples n d.args),
        twin_atoms_few (name ∷ used) ds,
        sum_by-cons (λ (d : Predicate). length (type_tuples n d.args)) d ds,
      )

times_more : (k m : ℕ) → m + k * m ≡ suc k * m
times_more k m = grind arith

pairs_few : (names objects : List Name) → length (flat_map (λ a. map (λ b. a ∷ b ∷ []) (filter (λ b. flip (same_name a b)) objects)) names) ≤ length names * length objects
pairs_few [] objects = omega arith
pairs_few (a ∷ names) objects =
    omega (
      arith,
      length-append (map (λ b. a ∷ b ∷ []) (filter (λ b. flip (same_name a b)) objects)) (flat_map (λ a. map (λ b. a ∷ b ∷ []) (filter (λ b. flip (same_name a b)) objects)) names),
      length-map (λ b. a ∷ b ∷ []) (filter (λ b. flip (same_name a b)) objects),
      some_length (λ b. flip (same_name a b)) objects,
      pairs_few names objects,
      times_more (length names) (length objects),
    )

-- ---- the whole

module _ (p : Parts) (well : IsWellFormed p) where
  abbrev n : Parts
  n = simple_form p

  abbrev goal : Formula
  goal = simplified (world p) knows_nothing (nnf p.goal)

  abbrev ruled : Bool → Goal
  ruled b = if b then record { formula = Atom (fresh_name (codes "never") (symbols p)) []; predicates = record { name = fresh_name (codes "never") (symbols p); args = [] } ∷ [] } else record { formula = goal; predicates = [] }

  normal_pre : (a b : Action) → simple_normal (world p) a ≡ Some b → b.pre ≡ simplified (world p) knows_nothing (nnf a.pre)
  normal_pre a b = by (is_false_formula (simplified (world p) knows_nothing (nnf a.pre)))
    where
      by : (false_formula : Bool) → (if false_formula then None else Some (let c : Action = record { name = a.name; params = a.params; pre = simplified (world p) knows_nothing (nnf a.pre); rows = a.rows } in c)) ≡ Some b →
          b.pre ≡ simplified (world p) knows_nothing (nnf a.pre)
      by true is = none_some is
      by false is = sym (ap (λ (c : Action). c.pre) (some_same _ b is))

  counted : (t u : Formula → Bool) → IsDenial t u → stands_in n t ≡ true → stands_negated p u ≡ true
  unfolding anywhere
  counted t u denial h =
      let f = any_true (anywhere t) (main_conditions n) h in
      ⊎_elim
      (λ e. any_from (negated u false) (main_conditions p) p.goal (inl refl) (in_goal (is_false_formula goal) (subst (λ f. anywhere t f ≡ true) e f.2)))
      (λ m. let b = of_map (λ (a : Action). a.pre) n.actions f.0 m in
      let a = of_filter_map (simple_normal (world p)) p.actions b.0 b.1 in
      any_from (negated u false) (main_conditions p) a.0.pre (inr (member_map (λ (a : Action). a.pre) p.actions a.0 a.1))
      (of_condition t u denial (world p) a.0.pre (subst (λ f. anywhere t f ≡ true) (b.2 ∙ normal_pre a.0 b.0 a.2) f.2)))
      f.1
    where
      no_atom : (name : Name) → anywhere t (Atom name []) ≡ true → false ≡ true
      no_atom name h = sym (denial.atoms name []) ∙ h

      in_goal : (b : Bool) → anywhere t (ruled b).formula ≡ true → negated u false p.goal ≡ true
      in_goal true h = false_true (no_atom (fresh_name (codes "never") (symbols p)) h)
      in_goal false h = of_condition t u denial (world p) p.goal h

  -- the predicate of the goal rule has no twin
  never_denied : stands_in n (denies (fresh_name (codes "never") (symbols p))) ≡ false
  never_denied = by (stands_in n (denies (fresh_name (codes "never") (symbols p)))) refl
    where
      old : (f : Formula) → Member f (main_conditions p) → FormulaNames f (predicate (fresh_name (codes "never") (symbols p))) → Member (fresh_name (codes "never") (symbols p)) (map (λ (d : Predicate). d.name) p.predicates)
      old f (inl e) k = formula_names p p.objects [] p.goal well.goal (predicate (fresh_name (codes "never") (symbols p))) (subst (λ f. FormulaNames f (predicate (fresh_name (codes "never") (symbols p)))) e k)
      old f (inr m) k =
          let a = of_map (λ (a : Action). a.pre) p.actions f m in
          formula_names p (take p.constants p.objects) a.0.params a.0.pre (every_at (IsAction p) p.actions a.0 well.actions a.1).pre (predicate (fresh_name (codes "never") (symbols p)))
          (subst (λ f. FormulaNames f (predicate (fresh_name (codes "never") (symbols p)))) a.2 k)

      by : (b : Bool) → stands_in n (denies (fresh_name (codes "never") (symbols p))) ≡ b → b ≡ false
      by false is = refl
      by true is =
          let f = any_true (negated (is_atom_of (fresh_name (codes "never") (symbols p))) false) (main_conditions p) (counted _ _ (denies_is (fresh_name (codes "never") (symbols p))) is) in
          absurd (fresh_new (codes "never") (symbols p)
          (member_left (fresh_name (codes "never") (symbols p)) (map (λ (d : Predicate). d.name) p.predicates) (map (λ (d : Function). d.name) p.functions)
          (old f.0 f.1 (negated_names (fresh_name (codes "never") (symbols p)) false f.0 f.2))))

  none_denied : (b : Bool) (d : Predicate) → Member d (ruled b).predicates → stands_in n (denies d.name) ≡ false
  none_denied true d (inl e) = subst (λ (d : Predicate). stands_in n (denies d.name) ≡ false) (sym e) never_denied
  none_denied true d (inr m) = absurd m
  none_denied false d m = absurd m

  twins_few : length (flat_map (twin_atoms n) (twins_in n)) ≤ sum_by (λ (d : Predicate). length (type_tuples p d.args)) (filter (λ (d : Predicate). stands_negated p (is_atom_of d.name)) p.predicates)
  twins_few = omega (
    arith,
    twin_atoms_few n (symbol_names n) (filter (λ (d : Predicate). stands_in n (denies d.name)) n.predicates),
    no_more (λ (d : Predicate). length (type_tuples p d.args)) (λ (d : Predicate). stands_in n (denies d.name)) (λ (d : Predicate). stands_negated p (is_atom_of d.name)) p.predicates (ruled (is_false_formula goal)).predicates
        (λ d h. counted (denies d.name) (is_atom_of d.name) (denies_is d.name) h) (λ d m. none_denied (is_false_formula goal) d m),
  )

  differ_few : length (differ_atoms n (differ_in n)) ≤ (if stands_negated p is_equal then length p.objects * length p.objects else 0)
  differ_few = by (stands_in n tells_different) (stands_negated p is_equal) (counted tells_different is_equal different_is)
    where
      by : (a b : Bool) → (a ≡ true → b ≡ true) → length (differ_atoms n (cond a (Some (fresh_name (codes "differ") (twin_names (twins_in n) ++ symbol_names n))) None)) ≤ (if b then length p.objects * length p.objects else 0)
      by false b h = omega arith
      by true false h = false_true (h refl)
      by true true h = omega (
        arith,
        length-map (fact (fresh_name (codes "differ") (twin_names (twins_in n) ++ symbol_names n))) (different_pairs n),
        square (length (map (λ (o : Typed). o.name) p.objects)) (length p.objects) (length-map (λ (o : Typed). o.name) p.objects) (pairs_few (map (λ (o : Typed). o.name) p.objects) (map (λ (o : Typed). o.name) p.objects)),
      )
        where
          square : (a b : ℕ) → a ≡ b → {c : ℕ} → c ≤ a * a → c ≤ b * b
          square a b e {c} le = subst (λ b. c ≤ b * b) e le

  pub atoms_few : length (negations p).parts.atoms ≤ length p.atoms + negations_count p
  atoms_few = omega (
    arith,
    length-append p.atoms (new_atoms n (words n)),
    length-append (flat_map (twin_atoms n) (twins_in n)) (differ_atoms n (differ_in n)),
    twins_few,
    differ_few,
  )
