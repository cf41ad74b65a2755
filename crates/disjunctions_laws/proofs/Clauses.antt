-- The clauses of a formula: one of them is true where the formula is, and they have nothing that it hasn't.
use Rattle.std.proofs.Common.{◌≡◌, ◌↔◌, Bool, true, false, not as flip, true≢false, List, [], ◌∷◌, map, Some, None, refl, ap, sym, ◌∙◌, subst, inl, inr, ⊎_elim}
use Rattle.std.specs.List.{list_any}
use Rattle.up_text.specs.Lists.{Every, Somewhere, Member}
use Rattle.up_tree.specs.declared.term.Typed.{Typed}
use Rattle.up_tree.specs.declared.formula.Formula.{Formula, And, And', Or', Atom, Equal, Compare, Row_of-Formula, end_of-Formula, more_of-Formula, items-the_row-Formula}
use Rattle.up_tree.specs.declared.problem.Parts.{Parts}
use Rattle.up_tree.specs.Nodes.{not, imply, exists, forall}
use Rattle.up_tree.specs.Objects.{World, world, Assignment}
use Rattle.up_tree.specs.State.{State}
use Rattle.up_tree.specs.Truth.{True}
use Rattle.up_tree.specs.Normal.{nnf, clauses, gathered}
use Rattle.up_tree.specs.Simplify.{simplified, knows_nothing, is_false_formula, is_empty}
use Rattle.up_tree.specs.WellFormed.{IsFormula}
use Rattle.up_tree.proofs.Nodes.{True-And}
use Rattle.up_kind.specs.Carried.{anywhere, in_row, is_disjunctive, is_equal, is_exists, is_forall, is_compare}
use Rattle.semantics_laws.specs.SameTruth.{SameTruth}
use Rattle.condition_laws.specs.Assigned.{IsOfScope}
use Rattle.condition_laws.specs.Carrying.{Has, NoMore}
use Rattle.condition_laws.specs.Guards.{KeepsGuards}
use Rattle.condition_laws.specs.Oracles.{IsTrueTo}
use Rattle.condition_laws.specs.Shapes.{IsLiteral, IsQuantifierFree, AreQuantifierFree}
use Rattle.condition_laws.proofs.Assigning.{formulas_are_assigned}
use Rattle.condition_laws.proofs.Clauses.{clauses_true, clauses_are_of_literals}
use Rattle.condition_laws.proofs.Forming.{normal_keeps, normal_is_normal, normal_is_free}
use Rattle.condition_laws.proofs.Guarding.{normal_keeps_guards, clauses_keep_guards, simplified_keeps_guards}
use Rattle.condition_laws.proofs.Holding.{former, latter, none, second, anywhere-And}
use Rattle.condition_laws.proofs.Carrying.{simplified_carry}
use Rattle.condition_laws.proofs.Keeping.{normals_carry, clauses_carry, literals_are_not_disjunctive}
use Rattle.condition_laws.proofs.Shaping.{normal_is_formed, clauses_are_formed, simplified_is_formed}
use Rattle.condition_laws.proofs.Simplifying.{simplified_keeps}
use Rattle.condition_laws.proofs.Staying.{simplified_is_normal, simplified_is_free}
use Rattle.compiling_laws.proofs.Lists.{not_true, any_true, member_map, of_map, member_filter, of_filter}
use Rattle.step_laws.proofs.Lists.{every_at}
use Rattle.compiling_laws.proofs.Scopes.{formula-And}
use Rattle.compiling_laws.proofs.Taking.{never_true}
use Rattle.disjunctions_laws.specs.Disjunctions.{clause_formula, clause_formulas}

nothing_told : (s : State) → IsTrueTo s knows_nothing
nothing_told s fact b e = absurd (apart e)
  where
    apart : {X : Type 0} {x : X} → None ≡ Some x → ⊥
    apart e = cc

-- ---- some element

pub some_member : {X : Type 0} (P : X → Type 0) (xs : List X) → Somewhere P xs → (x : X) × Member x xs × P x
some_member P [] h = absurd h
some_member P (x ∷ xs) (inl h) = (x, inl refl, h)
some_member P (x ∷ xs) (inr h) = let k = some_member P xs h in (k.0, inr k.1, k.2)

pub member_some : {X : Type 0} (P : X → Type 0) (xs : List X) (x : X) → Member x xs → P x → Somewhere P xs
member_some P [] x m h = absurd m
member_some P (y ∷ xs) x (inl e) h = inl (subst P e h)
member_some P (y ∷ xs) x (inr m) h = inr (member_some P xs x m h)

-- ---- which formulas there are

abbrev pub normal : World → Formula → Formula
normal w f = simplified w knows_nothing (nnf f)

-- the formula of a clause that isn't `false`
pub record IsClause (w : World) (f g : Formula) : Type 0 where
  pub clause : List Formula
  pub listed : Member clause (clauses (normal w f))
  pub is : g ≡ clause_formula w clause
  pub possible : is_false_formula g ≡ false

pub of_clauses : (w : World) (f g : Formula) → Member g (clause_formulas w f) → IsClause w f g
of_clauses w f g m =
    let k = of_filter (λ g. flip (is_false_formula g)) (map (clause_formula w) (clauses (normal w f))) g m in
    let c = of_map (clause_formula w) (clauses (normal w f)) g k.0 in
    record { clause = c.0; listed = c.1; is = c.2; possible = not_true (is_false_formula g) k.1 }

pub clause_listed : (w : World) (f : Formula) (c : List Formula) → Member c (clauses (normal w f)) → is_false_formula (clause_formula w c) ≡ false
    → Member (clause_formula w c) (clause_formulas w f)
clause_listed w f c m possible =
    member_filter (λ g. flip (is_false_formula g)) (map (clause_formula w) (clauses (normal w f))) (clause_formula w c)
    (member_map (clause_formula w) (clauses (normal w f)) c m) (ap flip possible)

-- ---- form and truth

module _ (p : Parts) (objects scope : List Typed) (f : Formula) (formed : IsFormula p objects scope f) where
  abbrev w : World
  w = world p

  normal_formed : IsFormula p objects scope (normal w f)
  normal_formed = simplified_is_formed p objects scope (nnf f) (normal_is_formed p objects scope f formed).0 w knows_nothing

  and_formed : (c : List Formula) → Member c (clauses (normal w f)) → IsFormula p objects scope (And c)
  and_formed c m =
      subst (λ X. X) (sym (formula-And p objects scope c)) (every_at (λ c. Every (IsFormula p objects scope) c) (clauses (normal w f)) c (clauses_are_formed p objects scope (normal w f) normal_formed) m)

  pub clause_formed : (g : Formula) → Member g (clause_formulas w f) → IsFormula p objects scope g
  clause_formed g m =
      let k : IsClause w f g = of_clauses w f g m in
      subst (IsFormula p objects scope) (sym k.is) (simplified_is_formed p objects scope (And k.clause) (and_formed k.clause k.listed) w knows_nothing)

  module _ (s : State) (e : Assignment) (assigned : IsOfScope scope e) where
    simple_truth : (g : Formula) → IsFormula p objects scope g → SameTruth w s e (simplified w knows_nothing g) s e g
    simple_truth g h = simplified_keeps w s e knows_nothing g (nothing_told s) (formulas_are_assigned p objects scope g h w e assigned)

    normal_truth : True w s e (normal w f) ↔ True w s e f
    normal_truth =
        let first : SameTruth w s e (nnf f) s e f = normal_keeps w s e f in
        let then_simple : SameTruth w s e (normal w f) s e (nnf f) = simple_truth (nnf f) (normal_is_formed p objects scope f formed).0 in
        (λ h. first.true_where.0 (then_simple.true_where.0 h), λ h. then_simple.true_where.1 (first.true_where.1 h))

    clause_truth : (c : List Formula) → Member c (clauses (normal w f)) → True w s e (clause_formula w c) ↔ Every (True w s e) c
    clause_truth c m =
        let same : SameTruth w s e (clause_formula w c) s e (And c) = simple_truth (And c) (and_formed c m) in (
          λ h. subst (λ X. X) (True-And w s e c) (same.true_where.0 h),
          λ h. same.true_where.1 (subst (λ X. X) (sym (True-And w s e c)) h),
        )

    -- where the formula is true one of them is
    pub some_clause : True w s e f → (g : Formula) × Member g (clause_formulas w f) × True w s e g
    some_clause h =
        let k = some_member (λ c. Every (True w s e) c) (clauses (normal w f)) ((clauses_true w s e (normal w f)).0 (normal_truth.1 h)) in
        let holds : True w s e (clause_formula w k.0) = (clause_truth k.0 k.1).1 k.2 in
        (clause_formula w k.0, clause_listed w f k.0 k.1 (possible (clause_formula w k.0) holds), holds)
      where
        possible : (g : Formula) → True w s e g → is_false_formula g ≡ false
        possible g holds = by (is_false_formula g) refl
          where
            by : (b : Bool) → is_false_formula g ≡ b → b ≡ false
            by true is = absurd (never_true w s e g is holds)
            by false is = refl

    -- and where one of them is true the formula is
    pub of_clause : (g : Formula) → Member g (clause_formulas w f) → True w s e g → True w s e f
    of_clause g m h =
        let k : IsClause w f g = of_clauses w f g m in
        let literals : Every (True w s e) k.clause = (clause_truth k.clause k.listed).0 (subst (True w s e) k.is h) in
        normal_truth.0 ((clauses_true w s e (normal w f)).1 (member_some (λ c. Every (True w s e) c) (clauses (normal w f)) k.clause k.listed literals))

-- ---- features

mutual
  unfolding anywhere in_row IsQuantifierFree AreQuantifierFree

  pub free_of : (f : Formula) → anywhere is_exists f ≡ false → anywhere is_forall f ≡ false → IsQuantifierFree f
  free_of (And' n fs) h k = all_free fs h k
  free_of (Or' n fs) h k = all_free fs h k
  free_of (not f) h k = free_of f h k
  free_of (imply f g) h k = (
    free_of f (former (anywhere is_exists f) (anywhere is_exists g) h) (former (anywhere is_forall f) (anywhere is_forall g) k),
    free_of g (latter (anywhere is_exists f) (anywhere is_exists g) h) (latter (anywhere is_forall f) (anywhere is_forall g) k),
  )
  free_of (exists vars f) h k = absurd (true≢false h)
  free_of (forall vars f) h k = absurd (true≢false k)
  free_of (Atom name ts) h k = tt
  free_of (Equal t u) h k = tt
  free_of (Compare r a b) h k = tt

  all_free : {n : _} (fs : Row_of-Formula n) → in_row is_exists fs ≡ false → in_row is_forall fs ≡ false → AreQuantifierFree fs
  all_free end_of-Formula h k = tt
  all_free (more_of-Formula f fs) h k = (
    free_of f (former (anywhere is_exists f) (in_row is_exists fs) h) (former (anywhere is_forall f) (in_row is_forall fs) k),
    all_free fs (latter (anywhere is_exists f) (in_row is_exists fs) h) (latter (anywhere is_forall f) (in_row is_forall fs) k),
  )

-- a test that sees no `and`, and that neither normal form nor simplification makes true
pub record IsSteady (t : Formula → Bool) : Type 0 where
  pub ands : (fs : List Formula) → t (And fs) ≡ false
  pub normal : (f : Formula) → NoMore t (nnf f) f
  pub simple : (w : World) (f : Formula) → NoMore t (simplified w knows_nothing f) f

pub equal_steady : IsSteady is_equal
equal_steady = record { ands = λ fs. refl; normal = λ f. (normals_carry f).equalities; simple = λ w f. (simplified_carry w knows_nothing f).equalities }

pub compare_steady : IsSteady is_compare
compare_steady = record { ands = λ fs. refl; normal = λ f. (normals_carry f).comparisons; simple = λ w f. (simplified_carry w knows_nothing f).comparisons }

module _ (w : World) (f g : Formula) (m : Member g (clause_formulas w f)) where
  k : IsClause w f g
  k = of_clauses w f g m

  -- what the literals of a clause have the normal form has
  of_literals : (t : Formula → Bool) → ((fs : List Formula) → t (And fs) ≡ false) → NoMore t (And k.clause) (normal w f)
  of_literals t ands h =
      let l = any_true (anywhere t) k.clause (second (t (And k.clause)) (list_any (anywhere t) k.clause) (ands k.clause) (sym (anywhere-And t k.clause) ∙ h)) in
      every_at (λ l. NoMore t l (normal w f)) k.clause l.0 (every_at (λ c. Every (λ l. NoMore t l (normal w f)) c) (clauses (normal w f)) k.clause (clauses_carry t (normal w f)) k.listed) l.1 l.2

  pub clause_steady : (t : Formula → Bool) → IsSteady t → NoMore t g f
  clause_steady t steady h =
      steady.normal f (steady.simple w (nnf f) (of_literals t steady.ands (steady.simple w (And k.clause) (subst (Has t) k.is h))))

  module _ (no_exists : anywhere is_exists f ≡ false) (no_forall : anywhere is_forall f ≡ false) where
    free : IsQuantifierFree f
    free = free_of f no_exists no_forall

    pub clause_no_exists : anywhere is_exists g ≡ true → ⊥
    clause_no_exists h =
        ⊎_elim (λ e. none no_exists e) (λ e. none no_forall e.0)
        ((normals_carry f).existential ((simplified_carry w knows_nothing (nnf f)).existential
        (of_literals is_exists (λ fs. refl) ((simplified_carry w knows_nothing (And k.clause)).existential (subst (Has is_exists) k.is h)))))

    pub clause_no_forall : anywhere is_forall g ≡ true → ⊥
    clause_no_forall h =
        ⊎_elim (λ e. none no_forall e) (λ e. none no_exists e.0)
        ((normals_carry f).universal ((simplified_carry w knows_nothing (nnf f)).universal
        (of_literals is_forall (λ fs. refl) ((simplified_carry w knows_nothing (And k.clause)).universal (subst (Has is_forall) k.is h)))))

    literals : Every IsLiteral k.clause
    literals =
        every_at (Every IsLiteral) (clauses (normal w f)) k.clause
        (clauses_are_of_literals (normal w f) (simplified_is_normal w knows_nothing (nnf f) (normal_is_normal f).0) (simplified_is_free w knows_nothing (nnf f) (normal_is_free f free).0)) k.listed

    pub clause_not_disjunctive : anywhere is_disjunctive g ≡ true → ⊥
    clause_not_disjunctive h =
        none (literals_are_not_disjunctive k.clause literals)
        ((simplified_carry w knows_nothing (And k.clause)).disjunctive (subst (λ x. is_false_formula x ≡ false) k.is k.possible) (subst (Has is_disjunctive) k.is h))

  -- ---- guards

  -- `false` has no clause
  no_clause : (h : Formula) → is_false_formula h ≡ true → clauses h ≡ []
  unfolding clauses gathered
  no_clause (Or' n fs) is = empty fs is
    where
      empty : {n : _} (fs : Row_of-Formula n) → is_empty (items-the_row-Formula _ fs) ≡ true → gathered fs ≡ []
      empty end_of-Formula is = refl
      empty (more_of-Formula f fs) is = absurd (true≢false (sym is))
  no_clause (And' n fs) is = absurd (true≢false (sym is))
  no_clause (not f) is = absurd (true≢false (sym is))
  no_clause (imply f g) is = absurd (true≢false (sym is))
  no_clause (exists vars f) is = absurd (true≢false (sym is))
  no_clause (forall vars f) is = absurd (true≢false (sym is))
  no_clause (Atom name ts) is = absurd (true≢false (sym is))
  no_clause (Equal t u) is = absurd (true≢false (sym is))
  no_clause (Compare r a b) is = absurd (true≢false (sym is))

  normal_possible : is_false_formula (normal w f) ≡ false
  normal_possible = by (is_false_formula (normal w f)) refl
    where
      by : (b : Bool) → is_false_formula (normal w f) ≡ b → b ≡ false
      by true is = absurd (subst (Member k.clause) (no_clause (normal w f) is) k.listed)
      by false is = refl

  pub clause_guards : KeepsGuards f g
  clause_guards s t guarded =
      ⊎_elim (λ a. inl a)
      (λ n. ⊎_elim (λ a. inl a)
      (λ n. ⊎_elim (λ a. inl a)
      (λ n. subst (λ x. KeepsGuards (And k.clause) x) (sym k.is)
      (simplified_keeps_guards w knows_nothing (And k.clause) (subst (λ x. is_false_formula x ≡ false) k.is k.possible)) s t n)
      (every_at (λ c. KeepsGuards (normal w f) (And c)) (clauses (normal w f)) k.clause (clauses_keep_guards (normal w f)) k.listed s t n))
      (simplified_keeps_guards w knows_nothing (nnf f) normal_possible s t n))
      (normal_keeps_guards f s t guarded)
