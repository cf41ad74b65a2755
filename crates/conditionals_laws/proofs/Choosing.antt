-- The literals of a choice say which conditions are true.
use Rattle.std.proofs.Common.{◌≡◌, ◌⊎◌, Bool, true, false, cond, not, ◌||◌, ◌&&◌, List, [], ◌∷◌, map, filter, refl, ap, sym, ◌∙◌, subst, inl, inr, ⊎_elim}
use Rattle.std.specs.List.{list_any}
use Rattle.up_text.specs.Lists.{Every, Member}
use Rattle.up_tree.specs.declared.action.Action.{Action}
use Rattle.up_tree.specs.declared.action.Row.{Row}
use Rattle.up_tree.specs.declared.formula.Formula.{Formula, Not}
use Rattle.up_tree.specs.declared.truth.Truth.{Truth}
use Rattle.up_tree.specs.declared.truth.Truth.TheVariants as truth
use Rattle.up_tree.specs.Objects.{World, Assignment}
use Rattle.up_tree.specs.State.{State}
use Rattle.up_tree.specs.Truth.{True, False, IsUndefined}
use Rattle.up_tree.specs.Judged.{truth_of, Judges}
use Rattle.up_tree.specs.Simplify.{is_true_formula}
use Rattle.up_tree.proofs.Judging.{judged}
use Rattle.up_tree.proofs.Nodes.{True-Not}
use Rattle.compiling_laws.proofs.Taking.{always_true}
use Rattle.compiling_laws.specs.Same.{same_formula}
use Rattle.conditionals_laws.specs.Conditionals.{distinct, row_conditions, Choice, choices, literal, is_chosen}
use Rattle.compiling_laws.proofs.Lists.{false_true, or_false, and_true, member_flat, of_flat, member_filter, of_filter, member_map, of_map}
use Rattle.compiling_laws.proofs.Same.{formula_self, formula_same}

-- ---- the distinct conditions

pub distinct_has : (fs : List Formula) (f : Formula) → Member f fs → Member f (distinct fs)
distinct_has [] f m = absurd m
distinct_has (g ∷ fs) f (inl e) = inl e
distinct_has (g ∷ fs) f (inr m) = by (same_formula g f) refl (distinct_has fs f m)
  where
    by : (b : Bool) → same_formula g f ≡ b → Member f (distinct fs) → Member f (g ∷ filter (λ h. not (same_formula g h)) (distinct fs))
    by true is k = inl (sym (formula_same g f is))
    by false is k = inr (member_filter (λ h. not (same_formula g h)) (distinct fs) f k (ap not is))

pub distinct_of : (fs : List Formula) (f : Formula) → Member f (distinct fs) → Member f fs
distinct_of [] f m = absurd m
distinct_of (g ∷ fs) f (inl e) = inl e
distinct_of (g ∷ fs) f (inr m) = inr (distinct_of fs f (of_filter (λ h. not (same_formula g h)) (distinct fs) f m).0)

abbrev whens : Action → List Formula
whens a = map (λ (r : Row). r.when) a.rows

pub condition_listed : (a : Action) (r : Row) → Member r a.rows → is_true_formula r.when ≡ false → Member r.when (row_conditions a)
condition_listed a r m e =
    distinct_has (filter (λ f. not (is_true_formula f)) (whens a)) r.when
    (member_filter (λ f. not (is_true_formula f)) (whens a) r.when (member_map (λ (r : Row). r.when) a.rows r m) (ap not e))

pub condition_of_row : (a : Action) (c : Formula) → Member c (row_conditions a) → (r : Row) × Member r a.rows × (c ≡ r.when)
condition_of_row a c m =
    of_map (λ (r : Row). r.when) a.rows c
    (of_filter (λ f. not (is_true_formula f)) (whens a) c (distinct_of (filter (λ f. not (is_true_formula f)) (whens a)) c m)).0

-- ---- choices

abbrev pub two : Formula → List Choice → List (List Choice)
two c rest = (record { condition = c; chosen = false } ∷ rest) ∷ (record { condition = c; chosen = true } ∷ rest) ∷ []

pub choice_covers : (cs : List Formula) (choice : List Choice) → Member choice (choices cs) → map (λ (c : Choice). c.condition) choice ≡ cs
choice_covers [] choice (inl e) = ap (map (λ (c : Choice). c.condition)) e
choice_covers [] choice (inr m) = absurd m
choice_covers (c ∷ cs) choice m = by (of_flat (two c) choice (choices cs) m) (choice_covers cs)
  where
    later : (rest : List Choice) → map (λ (c : Choice). c.condition) rest ≡ cs → Member choice (two c rest) → map (λ (c : Choice). c.condition) choice ≡ c ∷ cs
    later rest is (inl e) = ap (map (λ (c : Choice). c.condition)) e ∙ ap (λ l. c ∷ l) is
    later rest is (inr (inl e)) = ap (map (λ (c : Choice). c.condition)) e ∙ ap (λ l. c ∷ l) is
    later rest is (inr (inr m)) = absurd m

    by : ((rest : List Choice) × Member rest (choices cs) × Member choice (two c rest))
        → ((rest : List Choice) → Member rest (choices cs) → map (λ (c : Choice). c.condition) rest ≡ cs) → map (λ (c : Choice). c.condition) choice ≡ c ∷ cs
    by k before = later k.0 (before k.0 k.1) k.2

module _ (w : World) (s : State) (e : Assignment) where
  abbrev pub IsDecided : Formula → Type 0
  IsDecided f = True w s e f ⊎ False w s e f

  pub decided_two : (f : Formula) → (¬ IsUndefined w s e f) → IsDecided f
  decided_two f n = by (truth_of w s e f) (judged w s e f (truth_of w s e f) refl)
    where
      by : (t : Truth) → Judges w s e f t → IsDecided f
      by truth.True h = inl h
      by truth.False h = inr h
      by truth.Undefined h = absurd (n h)

  pub record Chosen (cs : List Formula) : Type 0 where
    pub choice : List Choice
    pub listed : Member choice (choices cs)
    pub literals : Every (True w s e) (map literal choice)

  -- where each condition is true or false, the literals of one choice are true
  pub one_applies : (cs : List Formula) → Every IsDecided cs → Chosen cs
  one_applies [] h = record { choice = []; listed = inl refl; literals = tt }
  one_applies (c ∷ cs) h =
      let more : Chosen cs = one_applies cs h.1 in
      ⊎_elim (λ t. record {
        choice = record { condition = c; chosen = true } ∷ more.choice;
        listed = member_flat (two c) more.choice (record { condition = c; chosen = true } ∷ more.choice) (choices cs) more.listed (inr (inl refl));
        literals = (t, more.literals);
      }) (λ f. record {
        choice = record { condition = c; chosen = false } ∷ more.choice;
        listed = member_flat (two c) more.choice (record { condition = c; chosen = false } ∷ more.choice) (choices cs) more.listed (inl refl);
        literals = (subst (λ X. X) (sym (True-Not w s e c)) f, more.literals);
      }) h.0

  literal_true : (c : Choice) → c.chosen ≡ true → True w s e (literal c) → True w s e c.condition
  literal_true c is = subst (λ b. True w s e (cond b c.condition (Not c.condition)) → True w s e c.condition) (sym is) (λ h. h)

  literal_false : (c : Choice) → c.chosen ≡ false → True w s e (literal c) → False w s e c.condition
  literal_false c is =
      subst (λ b. True w s e (cond b c.condition (Not c.condition)) → False w s e c.condition) (sym is) (subst (λ X. X) (True-Not w s e c.condition))

  abbrev picks : Formula → Choice → Bool
  picks f c = c.chosen && same_formula c.condition f

  chosen_true : (choice : List Choice) (f : Formula) → Every (True w s e) (map literal choice) → list_any (picks f) choice ≡ true → True w s e f
  chosen_true [] f literals is = false_true is
  chosen_true (c ∷ choice) f literals is = by (picks f c) refl is (chosen_true choice f literals.1)
    where
      by : (b : Bool) → picks f c ≡ b → (b || list_any (picks f) choice) ≡ true → (list_any (picks f) choice ≡ true → True w s e f) → True w s e f
      by true here is later =
          let k = and_true c.chosen (same_formula c.condition f) here in
          subst (True w s e) (formula_same c.condition f k.1) (literal_true c k.0 literals.0)
      by false here is later = later is

  unchosen_false : (choice : List Choice) (f : Formula) → Every (True w s e) (map literal choice) → Member f (map (λ (c : Choice). c.condition) choice)
      → list_any (picks f) choice ≡ false → False w s e f
  unchosen_false [] f literals m is = absurd m
  unchosen_false (c ∷ choice) f literals (inr m) is = unchosen_false choice f literals.1 m (or_false (picks f c) (list_any (picks f) choice) is).1
  unchosen_false (c ∷ choice) f literals (inl same) is =
      subst (False w s e) (sym same) (literal_false c (by c.chosen (or_false (picks f c) (list_any (picks f) choice) is).0) literals.0)
    where
      by : (b : Bool) → (b && same_formula c.condition f) ≡ false → b ≡ false
      by false h = refl
      by true h = false_true (sym h ∙ subst (λ (g : Formula). same_formula c.condition g ≡ true) (sym same) (formula_self c.condition))

  -- the choice says which conditions are true
  abbrev pub Decides : List Choice → Formula → Type 0
  Decides choice f = (is_chosen choice f ≡ true → True w s e f) × (is_chosen choice f ≡ false → False w s e f)

  pub literals_decide : (a : Action) (choice : List Choice) → Member choice (choices (row_conditions a)) → Every (True w s e) (map literal choice)
      → (r : Row) → Member r a.rows → Decides choice r.when
  literals_decide a choice listed literals r m = (yes_, no_)
    where
      yes_ : is_chosen choice r.when ≡ true → True w s e r.when
      yes_ is = by (is_true_formula r.when) refl is
        where
          by : (b : Bool) → is_true_formula r.when ≡ b → (b || list_any (picks r.when) choice) ≡ true → True w s e r.when
          by true here is = always_true w s e r.when here
          by false here is = chosen_true choice r.when literals is

      no_ : is_chosen choice r.when ≡ false → False w s e r.when
      no_ is =
          let k = or_false (is_true_formula r.when) (list_any (picks r.when) choice) is in
          unchosen_false choice r.when literals
          (subst (Member r.when) (sym (choice_covers (row_conditions a) choice listed)) (condition_listed a r m k.0)) k.1
