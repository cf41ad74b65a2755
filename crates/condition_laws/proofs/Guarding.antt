-- Rewriting keeps guards.
use Rattle.std.proofs.Common.{◌≡◌, ◌⊎◌, Bool, true, false, ◌||◌, ◌&&◌, not as flip, true≢false, List, [], ◌∷◌, ◌++◌, map, zip, refl, ap, sym, ◌∙◌, subst, inl, inr, ⊎_elim}
use Rattle.std.specs.Prelude.{if◌then◌else◌, IsTrue, Some}
use Rattle.std.specs.List.{list_any, list_all, flat_map}
use Rattle.std.specs.Cmp.Lexicographic.{bytes_decides}
use Rattle.up_text.specs.declared.name.Name.{Name}
use Rattle.up_text.specs.Names.{same_name}
use Rattle.up_text.specs.Lists.{Every, Somewhere}
use Rattle.up_tree.specs.declared.term.Term.{Term, Var, Object, Fluent'}
use Rattle.up_tree.specs.declared.term.Typed.{Typed}
use Rattle.up_tree.specs.declared.formula.Formula.{Formula, And, And', Or', Atom, Equal, Compare, Row_of-Formula, end_of-Formula, more_of-Formula, items-the_row-Formula, items_hidden-the_row-Formula-0}
use Rattle.up_tree.specs.declared.formula.Formula.TheBlock.{hidden-the_row-Formula-0}
use Rattle.up_tree.specs.declared.action.Row.{Row}
use Rattle.up_tree.specs.declared.action.Action.{Action}
use Rattle.up_tree.specs.declared.action.Effect.{Effect}
use Rattle.up_tree.specs.declared.action.Effect.TheVariants as effect
use Rattle.up_tree.specs.declared.problem.Parts.{Parts}
use Rattle.up_tree.specs.Nodes.{not, imply, exists, forall}
use Rattle.up_tree.specs.Objects.{World}
use Rattle.up_tree.specs.Normal.{nnf, nnf_not, nnf_all, nnf_not_all, clauses, joined, gathered}
use Rattle.up_tree.specs.Simplify.{Oracle, true_formula, false_formula, constant, conjuncts, is_false_formula, alone_or, simple_and, simple_equal, simple_not, simplified, all_conjuncts, simple_action}
use Rattle.up_kind.specs.Meeting.{share, top_conjuncts, all_top_conjuncts, same_plain, says_equal, tells_apart, is_guarded, meet, has_meeting_rows}
use Rattle.semantics_laws.proofs.Lists.{each_as}
use Rattle.condition_laws.specs.Guards.{are_apart, KeepsGuards, IsRowOf}
use Rattle.condition_laws.specs.Carrying.{IsSimpleRow, ActionCarries}
use Rattle.condition_laws.proofs.Holding.{left, right, of_two, former, latter, none, any_of_both, in_one}
use Rattle.condition_laws.proofs.Clauses.{each_of_both}
use Rattle.condition_laws.proofs.Carrying.{not_never, not_constant, not_never_by}
use Rattle.condition_laws.proofs.ActionFeatures.{simple_actions_carry}
use Rattle.condition_laws.proofs.Acting.{of_simple, of_simple_pre}

both_true : (x y : Bool) → (x && y) ≡ true → (x ≡ true) × (y ≡ true)
both_true true y h = (refl, h)
both_true false y h = absurd (true≢false (sym h))

both_so : (x y : Bool) → x ≡ true → y ≡ true → (x && y) ≡ true
both_so true y h k = k
both_so false y h k = absurd (true≢false (sym h))

alone_is : (b : Bool) → (b || false) ≡ b
alone_is true = refl
alone_is false = refl

-- ---- guards of a node by its members

module _ (s t : Term) where
  abbrev pub tells : Formula → Bool
  tells f = tells_apart s t f

  -- a guard stands among the top conjuncts
  abbrev pub guards : Formula → Bool
  guards f = list_any tells (top_conjuncts f)

  tops-items : {n : _} (fs : Row_of-Formula n) → list_any tells (all_top_conjuncts fs) ≡ list_any guards (items-the_row-Formula _ fs)
  unfolding all_top_conjuncts
  tops-items end_of-Formula = refl
  tops-items (more_of-Formula f fs) = any_of_both tells (top_conjuncts f) (all_top_conjuncts fs) ∙ ap (λ b. guards f || b) (tops-items fs)

  pub guards-And : (fs : List Formula) → guards (And fs) ≡ list_any guards fs
  unfolding top_conjuncts
  guards-And fs = tops-items (hidden-the_row-Formula-0 fs) ∙ ap (list_any guards) (items_hidden-the_row-Formula-0 fs)

  guards-conjuncts : (f : Formula) → list_any guards (conjuncts f) ≡ guards f
  unfolding top_conjuncts
  guards-conjuncts (And' n fs) = sym (tops-items fs)
  guards-conjuncts (Or' n fs) = alone_is _
  guards-conjuncts (not f) = alone_is _
  guards-conjuncts (imply f g) = alone_is _
  guards-conjuncts (exists vars f) = alone_is _
  guards-conjuncts (forall vars f) = alone_is _
  guards-conjuncts (Atom name ts) = alone_is _
  guards-conjuncts (Equal a b) = alone_is _
  guards-conjuncts (Compare r a b) = alone_is _

  guards-alone : (fs : List Formula) → guards (alone_or And fs) ≡ list_any guards fs
  guards-alone [] = guards-And []
  guards-alone (f ∷ []) = sym (alone_is (guards f))
  guards-alone (f ∷ g ∷ fs) = guards-And (f ∷ g ∷ fs)

  -- ---- normal form

  mutual
    unfolding nnf nnf_not nnf_all nnf_not_all top_conjuncts all_top_conjuncts

    nnf_guards : (f : Formula) → guards f ≡ true → guards (nnf f) ≡ true
    nnf_guards (And' n fs) h = guards-And (nnf_all fs) ∙ all_guards fs h
    nnf_guards (not (Equal a b)) h = h
    nnf_guards (not (And' n fs)) h = absurd (true≢false (sym h))
    nnf_guards (not (Or' n fs)) h = absurd (true≢false (sym h))
    nnf_guards (not (not f)) h = absurd (true≢false (sym h))
    nnf_guards (not (imply f g)) h = absurd (true≢false (sym h))
    nnf_guards (not (exists vars f)) h = absurd (true≢false (sym h))
    nnf_guards (not (forall vars f)) h = absurd (true≢false (sym h))
    nnf_guards (not (Atom name ts)) h = absurd (true≢false (sym h))
    nnf_guards (not (Compare r a b)) h = absurd (true≢false (sym h))
    nnf_guards (Or' n fs) h = absurd (true≢false (sym h))
    nnf_guards (imply f g) h = absurd (true≢false (sym h))
    nnf_guards (exists vars f) h = absurd (true≢false (sym h))
    nnf_guards (forall vars f) h = absurd (true≢false (sym h))
    nnf_guards (Atom name ts) h = absurd (true≢false (sym h))
    nnf_guards (Equal a b) h = absurd (true≢false (sym h))
    nnf_guards (Compare r a b) h = absurd (true≢false (sym h))

    all_guards : {n : _} (fs : Row_of-Formula n) → list_any tells (all_top_conjuncts fs) ≡ true → list_any guards (nnf_all fs) ≡ true
    all_guards end_of-Formula h = h
    all_guards (more_of-Formula f fs) h =
        ⊎_elim (λ e. left (guards (nnf f)) _ (nnf_guards f e)) (λ e. right (guards (nnf f)) _ (all_guards fs e))
        (of_two (guards f) (list_any tells (all_top_conjuncts fs)) (sym (any_of_both tells (top_conjuncts f) (all_top_conjuncts fs)) ∙ h))

  -- ---- clauses

  -- one of the clause's literals is a guard
  abbrev Guarded : List Formula → Type 0
  Guarded clause = list_any guards clause ≡ true

  before : (first rest : List Formula) → Guarded first → Guarded (first ++ rest)
  before first rest h = any_of_both guards first rest ∙ left (list_any guards first) _ h

  behind : (first rest : List Formula) → Guarded rest → Guarded (first ++ rest)
  behind first rest h = any_of_both guards first rest ∙ right (list_any guards first) _ h

  each_mapped : (first : List Formula) (rests : List (List Formula)) → ((rest : List Formula) → Guarded (first ++ rest)) ⊎ Every Guarded rests → Every Guarded (map (λ rest. first ++ rest) rests)
  each_mapped first [] h = tt
  each_mapped first (rest ∷ rests) (inl h) = (h rest, each_mapped first rests (inl h))
  each_mapped first (rest ∷ rests) (inr h) = (behind first rest h.0, each_mapped first rests (inr h.1))

  pairs_guarded : (firsts rests : List (List Formula)) → Every Guarded firsts ⊎ Every Guarded rests → Every Guarded (flat_map (λ first. map (λ rest. first ++ rest) rests) firsts)
  pairs_guarded [] rests h = tt
  pairs_guarded (first ∷ firsts) rests (inl h) =
      each_of_both Guarded (map (λ rest. first ++ rest) rests) _ (each_mapped first rests (inl (λ rest. before first rest h.0))) (pairs_guarded firsts rests (inl h.1))
  pairs_guarded (first ∷ firsts) rests (inr h) =
      each_of_both Guarded (map (λ rest. first ++ rest) rests) _ (each_mapped first rests (inr h)) (pairs_guarded firsts rests (inr h))

  mutual
    unfolding clauses joined gathered top_conjuncts all_top_conjuncts

    clauses_guarded : (f : Formula) → guards f ≡ true → Every Guarded (clauses f)
    clauses_guarded (And' n fs) h = joined_guarded fs h
    clauses_guarded (not f) h = (left (guards (not f)) false h, tt)
    clauses_guarded (Or' n fs) h = absurd (true≢false (sym h))
    clauses_guarded (imply f g) h = absurd (true≢false (sym h))
    clauses_guarded (exists vars f) h = absurd (true≢false (sym h))
    clauses_guarded (forall vars f) h = absurd (true≢false (sym h))
    clauses_guarded (Atom name ts) h = absurd (true≢false (sym h))
    clauses_guarded (Equal a b) h = absurd (true≢false (sym h))
    clauses_guarded (Compare r a b) h = absurd (true≢false (sym h))

    joined_guarded : {n : _} (fs : Row_of-Formula n) → list_any tells (all_top_conjuncts fs) ≡ true → Every Guarded (joined fs)
    joined_guarded end_of-Formula h = absurd (true≢false (sym h))
    joined_guarded (more_of-Formula f fs) h =
        pairs_guarded (clauses f) (joined fs)
        (⊎_elim (λ e. inl (clauses_guarded f e)) (λ e. inr (joined_guarded fs e))
        (of_two (guards f) (list_any tells (all_top_conjuncts fs)) (sym (any_of_both tells (top_conjuncts f) (all_top_conjuncts fs)) ∙ h)))

  -- ---- simplification

  abbrev Kept : Formula → Type 0
  Kept f = (are_apart s t ≡ true) ⊎ (guards f ≡ true)

  alone_and : (fs : List Formula) → is_false_formula (simple_and fs) ≡ false → (list_any is_false_formula fs ≡ false) × (simple_and fs ≡ alone_or And fs)
  alone_and fs = by (list_any is_false_formula fs) refl
    where
      by : (b : Bool) → list_any is_false_formula fs ≡ b → is_false_formula (if b then false_formula else alone_or And fs) ≡ false →
          (list_any is_false_formula fs ≡ false) × ((if b then false_formula else alone_or And fs) ≡ alone_or And fs)
      by true at h = not_never h
      by false at h = (at, refl)

  -- the objects that an equality of different objects names
  plain_object : (u : Term) (o : Name) → same_plain u (Object o) ≡ true → u ≡ Object o
  plain_object (Object q) o h = ap Object ((bytes_decides q o).0 h)
  plain_object (Var v) o h = absurd (true≢false (sym h))
  plain_object (Fluent' f n ts) o h = absurd (true≢false (sym h))

  turned_names : (o q : Name) → same_name o q ≡ false → same_name q o ≡ false
  turned_names o q h = by (same_name q o) refl
    where
      by : (b : Bool) → same_name q o ≡ b → b ≡ false
      by true at = absurd (true≢false (sym ((bytes_decides o q).1 (sym ((bytes_decides q o).0 at))) ∙ h))
      by false at = refl

  objects_apart : (o q : Name) → same_name o q ≡ false → says_equal s t (Equal (Object o) (Object q)) ≡ true → are_apart s t ≡ true
  objects_apart o q n h =
      ⊎_elim
      (λ e. let both : (same_plain s (Object o) ≡ true) × (same_plain t (Object q) ≡ true) = both_true _ _ e in
      (λ i. are_apart (plain_object s o both.0 i) (plain_object t q both.1 i)) ∙ ap flip n)
      (λ e. let both : (same_plain t (Object o) ≡ true) × (same_plain s (Object q) ≡ true) = both_true _ _ e in
      (λ i. are_apart (plain_object s q both.1 i) (plain_object t o both.0 i)) ∙ ap flip (turned_names o q n))
      (of_two (same_plain s (Object o) && same_plain t (Object q)) (same_plain t (Object o) && same_plain s (Object q)) h)

  guard_of_equal : (a b : Term) → says_equal s t (Equal a b) ≡ true → is_false_formula (simple_not (simple_equal a b)) ≡ false → Kept (simple_not (simple_equal a b))
  unfolding top_conjuncts
  guard_of_equal (Var v) (Var x) h n = by (same_name v x) n
    where
      by : (b : Bool) → is_false_formula (simple_not (if b then true_formula else Equal (Var v) (Var x))) ≡ false → Kept (simple_not (if b then true_formula else Equal (Var v) (Var x)))
      by true n = not_never (subst (λ f. is_false_formula f ≡ false) (not_constant true) n)
      by false n = inr (left (tells (not (Equal (Var v) (Var x)))) false h)
  guard_of_equal (Object o) (Object q) h n = by (same_name o q) refl n
    where
      by : (b : Bool) → same_name o q ≡ b → is_false_formula (simple_not (constant b)) ≡ false → Kept (simple_not (constant b))
      by true at n = not_never (subst (λ f. is_false_formula f ≡ false) (not_constant true) n)
      by false at n = inl (objects_apart o q at h)
  guard_of_equal (Var v) (Object q) h n = inr (left (tells (not (Equal (Var v) (Object q)))) false h)
  guard_of_equal (Var v) (Fluent' g m us) h n = inr (left (tells (not (Equal (Var v) (Fluent' g m us)))) false h)
  guard_of_equal (Object o) (Var x) h n = inr (left (tells (not (Equal (Object o) (Var x)))) false h)
  guard_of_equal (Object o) (Fluent' g m us) h n = inr (left (tells (not (Equal (Object o) (Fluent' g m us)))) false h)
  guard_of_equal (Fluent' f m ts) u h n = inr (left (tells (not (Equal (Fluent' f m ts) u))) false h)

  module _ (w : World) (oracle : Oracle) where
    mutual
      unfolding simplified all_conjuncts top_conjuncts all_top_conjuncts

      simplified_guards : (f : Formula) → is_false_formula (simplified w oracle f) ≡ false → guards f ≡ true → Kept (simplified w oracle f)
      simplified_guards (And' n fs) m h =
          let alone : (list_any is_false_formula (all_conjuncts w oracle fs) ≡ false) × (simple_and (all_conjuncts w oracle fs) ≡ alone_or And (all_conjuncts w oracle fs)) =
          alone_and (all_conjuncts w oracle fs) m in
          ⊎_elim (λ e. inl e) (λ e. inr (ap guards alone.1 ∙ guards-alone (all_conjuncts w oracle fs) ∙ e)) (conjuncts_guards fs alone.0 h)
      simplified_guards (not (Equal a b)) m h = guard_of_equal a b (in_one tells (not (Equal a b)) h) m
      simplified_guards (not (And' n fs)) m h = absurd (true≢false (sym h))
      simplified_guards (not (Or' n fs)) m h = absurd (true≢false (sym h))
      simplified_guards (not (not f)) m h = absurd (true≢false (sym h))
      simplified_guards (not (imply f g)) m h = absurd (true≢false (sym h))
      simplified_guards (not (exists vars f)) m h = absurd (true≢false (sym h))
      simplified_guards (not (forall vars f)) m h = absurd (true≢false (sym h))
      simplified_guards (not (Atom name ts)) m h = absurd (true≢false (sym h))
      simplified_guards (not (Compare r a b)) m h = absurd (true≢false (sym h))
      simplified_guards (Or' n fs) m h = absurd (true≢false (sym h))
      simplified_guards (imply f g) m h = absurd (true≢false (sym h))
      simplified_guards (exists vars f) m h = absurd (true≢false (sym h))
      simplified_guards (forall vars f) m h = absurd (true≢false (sym h))
      simplified_guards (Atom name ts) m h = absurd (true≢false (sym h))
      simplified_guards (Equal a b) m h = absurd (true≢false (sym h))
      simplified_guards (Compare r a b) m h = absurd (true≢false (sym h))

      conjuncts_guards : {n : _} (fs : Row_of-Formula n) → list_any is_false_formula (all_conjuncts w oracle fs) ≡ false → list_any tells (all_top_conjuncts fs) ≡ true →
          (are_apart s t ≡ true) ⊎ (list_any guards (all_conjuncts w oracle fs) ≡ true)
      conjuncts_guards end_of-Formula m h = absurd (true≢false (sym h))
      conjuncts_guards (more_of-Formula f fs) m h =
          let possible : (list_any is_false_formula (conjuncts (simplified w oracle f)) || list_any is_false_formula (all_conjuncts w oracle fs)) ≡ false =
          sym (any_of_both is_false_formula (conjuncts (simplified w oracle f)) (all_conjuncts w oracle fs)) ∙ m in
          ⊎_elim
          (λ e. ⊎_elim (λ a. inl a) (λ b. inr (before (conjuncts (simplified w oracle f)) (all_conjuncts w oracle fs) (guards-conjuncts (simplified w oracle f) ∙ b)))
          (simplified_guards f (not_never_by (simplified w oracle f) (former _ _ possible)) e))
          (λ e. ⊎_elim (λ a. inl a) (λ b. inr (behind (conjuncts (simplified w oracle f)) (all_conjuncts w oracle fs) b)) (conjuncts_guards fs (latter _ _ possible) e))
          (of_two (guards f) (list_any tells (all_top_conjuncts fs)) (sym (any_of_both tells (top_conjuncts f) (all_top_conjuncts fs)) ∙ h))

pub normal_keeps_guards : (f : Formula) → KeepsGuards f (nnf f)
unfolding is_guarded
normal_keeps_guards f s t h = inr (nnf_guards s t f h)

pub clauses_keep_guards : (f : Formula) → Every (λ clause. KeepsGuards f (And clause)) (clauses f)
unfolding is_guarded
clauses_keep_guards f = all_kept (clauses f) (λ s t h. clauses_guarded s t f h)
  where
    all_kept : (cs : List (List Formula)) → ((s t : Term) → guards s t f ≡ true → Every (Guarded s t) cs) → Every (λ clause. KeepsGuards f (And clause)) cs
    all_kept [] h = tt
    all_kept (c ∷ cs) h = (λ s t k. inr (guards-And s t c ∙ (h s t k).0), all_kept cs (λ s t k. (h s t k).1))

pub simplified_keeps_guards : (w : World) (oracle : Oracle) (f : Formula) → is_false_formula (simplified w oracle f) ≡ false → KeepsGuards f (simplified w oracle f)
unfolding is_guarded
simplified_keeps_guards w oracle f m s t h = simplified_guards s t w oracle f m h

-- ---- meeting rows

module _ (p : Parts) where
  unfoldable pub agreeing : Formula → List Typed → List Typed → List Term → List Term → Bool
  agreeing pre scope others ss ts = list_all (λ pair. flip (is_guarded pre pair.0 pair.1) && share p scope pair.0 others pair.1) (zip ss ts)

  unfoldable pub meeting : Formula → List Typed → List Typed → Effect → Effect → Bool
  meeting pre scope others (effect.Delete name ss) (effect.Add other ts) = same_name name other && agreeing pre scope others ss ts
  meeting pre scope others e f = false

  pub meet-is : (a : Action) (d r : Row) → meet p a d r ≡ meeting a.pre (d.vars ++ a.params) (r.vars ++ a.params) d.effect r.effect
  unfolding meet meeting agreeing
  meet-is a d r = refl

  -- different objects don't share
  pub apart_dont_share : (scope others : List Typed) (s t : Term) → are_apart s t ≡ true → share p scope s others t ≡ false
  apart_dont_share scope others (Object o) (Object q) h = by (same_name o q) h
    where
      by : (b : Bool) → flip b ≡ true → b ≡ false
      by true h = sym h
      by false h = refl
  apart_dont_share scope others (Object o) (Var x) h = absurd (true≢false (sym h))
  apart_dont_share scope others (Object o) (Fluent' g n us) h = absurd (true≢false (sym h))
  apart_dont_share scope others (Var v) t h = absurd (true≢false (sym h))
  apart_dont_share scope others (Fluent' f n ts) t h = absurd (true≢false (sym h))

  module _ (f g : Formula) (keeps : KeepsGuards f g) (scope others : List Typed) where
    one_agrees : (s t : Term) → (flip (is_guarded g s t) && share p scope s others t) ≡ true → (flip (is_guarded f s t) && share p scope s others t) ≡ true
    one_agrees s t h = by (is_guarded f s t) refl
      where
        here : (flip (is_guarded g s t) ≡ true) × (share p scope s others t ≡ true)
        here = both_true (flip (is_guarded g s t)) (share p scope s others t) h

        by : (b : Bool) → is_guarded f s t ≡ b → (flip b && share p scope s others t) ≡ true
        by false at = here.1
        by true at = ⊎_elim (λ e. none (apart_dont_share scope others s t e) here.1) (λ e. none (ap flip e) here.0) (keeps s t at)

    all_agree : (ss ts : List Term) → agreeing g scope others ss ts ≡ true → agreeing f scope others ss ts ≡ true
    unfolding agreeing
    all_agree [] ts h = h
    all_agree (s ∷ ss) [] h = h
    all_agree (s ∷ ss) (t ∷ ts) h =
        let both : ((flip (is_guarded g s t) && share p scope s others t) ≡ true) × (agreeing g scope others ss ts ≡ true) = both_true _ _ h in
        both_so _ _ (one_agrees s t both.0) (all_agree ss ts both.1)

    pub still_meet : (d r : Effect) → meeting g scope others d r ≡ true → meeting f scope others d r ≡ true
    unfolding meeting
    still_meet (effect.Delete name ss) (effect.Add other ts) h =
        let both : (same_name name other ≡ true) × (agreeing g scope others ss ts ≡ true) = both_true _ _ h in
        both_so _ _ both.0 (all_agree ss ts both.1)
    still_meet (effect.Delete name ss) (effect.Delete other ts) h = h
    still_meet (effect.Delete name ss) (effect.Number change other ts x) h = h
    still_meet (effect.Delete name ss) (effect.Object other ts t) h = h
    still_meet (effect.Delete name ss) (effect.Undefine other ts) h = h
    still_meet (effect.Add name ss) r h = h
    still_meet (effect.Number change name ss x) r h = h
    still_meet (effect.Object name ss t) r h = h
    still_meet (effect.Undefine name ss) r h = h

module _ {X Y : Type 0} (R : X → Y → Type 0) (t : X → Bool) (u : Y → Bool) (carried : (x : X) (y : Y) → R x y → t x ≡ true → u y ≡ true) where
  one_of : (x : X) (ys : List Y) → Somewhere (R x) ys → t x ≡ true → list_any u ys ≡ true
  one_of x [] h k = absurd h
  one_of x (y ∷ ys) (inl h) k = left (u y) _ (carried x y h k)
  one_of x (y ∷ ys) (inr h) k = right (u y) _ (one_of x ys h k)

  pub any_of : (xs : List X) (ys : List Y) → Every (λ x. Somewhere (R x) ys) xs → list_any t xs ≡ true → list_any u ys ≡ true
  any_of [] ys h k = absurd (true≢false (sym k))
  any_of (x ∷ xs) ys h k = ⊎_elim (λ e. one_of x ys h.0 e) (λ e. any_of xs ys h.1 e) (of_two (t x) (list_any t xs) k)

pub guarded_dont_meet : (p : Parts) (b a : Action) → b.params ≡ a.params → KeepsGuards a.pre b.pre → Every (λ q. Somewhere (λ r. IsRowOf q r) a.rows) b.rows →
    IsTrue (has_meeting_rows p b) → IsTrue (has_meeting_rows p a)
guarded_dont_meet p b a params keeps rows h =
    any_of IsRowOf (λ d. list_any (meet p b d) b.rows) (λ d. list_any (meet p a d) a.rows)
    (λ q r is k. any_of IsRowOf (meet p b q) (meet p a r) (λ q2 r2 is2 m. pair q r is q2 r2 is2 m) b.rows a.rows rows k)
    b.rows a.rows rows h
  where
    pair : (q r : Row) → IsRowOf q r → (q2 r2 : Row) → IsRowOf q2 r2 → meet p b q q2 ≡ true → meet p a r r2 ≡ true
    pair q r is q2 r2 is2 m =
        meet-is p a r r2
        ∙ still_meet p a.pre b.pre keeps (r.vars ++ a.params) (r2.vars ++ a.params) r.effect r2.effect
        ((λ i. meeting p b.pre (sym is.vars i ++ sym params i) (sym is2.vars i ++ sym params i) (sym is.effect i) (sym is2.effect i)) ∙ sym (meet-is p b q q2) ∙ m)

pub simple_actions_dont_meet : (p : Parts) (w : World) (oracle : Oracle) (a b : Action) → simple_action w oracle a ≡ Some b →
    IsTrue (has_meeting_rows p b) → IsTrue (has_meeting_rows p a)
simple_actions_dont_meet p w oracle a b h =
    let carries : ActionCarries w oracle b a = simple_actions_carry w oracle a b h in
    guarded_dont_meet p b a carries.params
    (subst (λ b. KeepsGuards a.pre b.pre) (of_simple w oracle a b h) (simplified_keeps_guards w oracle a.pre (of_simple_pre w oracle a b h)))
    (each_as _ _ (λ q some. some_row q a.rows some) b.rows carries.rows)
  where
    some_row : (q : Row) (rows : List Row) → Somewhere (λ r. IsSimpleRow w oracle q r) rows → Somewhere (λ r. IsRowOf q r) rows
    some_row q [] h = absurd h
    some_row q (r ∷ rows) (inl h) = inl (record { vars = h.vars; effect = h.effect })
    some_row q (r ∷ rows) (inr h) = inr (some_row q rows h)
