-- Rows of an instance meet only where rows of the action do.
use Rattle.std.proofs.Common.{◌≡◌, Bool, true, false, ◌&&◌, ◌||◌, cond, List, [], ◌∷◌, ◌++◌, map, zip, take, Option, Some, None, option_map, IsSome, IsSomeAnd, refl, ap, sym, ◌∙◌, subst, inl, inr, ⊎_elim}
use Rattle.std.specs.Prelude.{if◌then◌else◌, not as flip, IsTrue}
use Rattle.std.specs.Option.{option_or}
use Rattle.std.specs.List.{list_all, list_any}
use Rattle.std.specs.Cmp.Lexicographic.{bytes_decides}
use Rattle.std.proofs.lemmas.List.Folds.{list_any-append}
use Rattle.up_text.specs.declared.name.Name.{Name}
use Rattle.up_text.specs.Names.{same_name}
use Rattle.up_text.specs.Lists.{Every, Member, Differ}
use Rattle.up_tree.specs.declared.term.Typed.{Typed}
use Rattle.up_tree.specs.declared.term.Term.{Term, Var, Object, Fluent'}
use Rattle.up_tree.specs.declared.formula.Formula.{Formula, And', Or', Atom, Equal, Compare, Row_of-Formula, end_of-Formula, more_of-Formula}
use Rattle.up_tree.specs.declared.action.Action.{Action}
use Rattle.up_tree.specs.declared.action.Row.{Row}
use Rattle.up_tree.specs.declared.action.Effect.{Effect}
use Rattle.up_tree.specs.declared.action.Effect.TheVariants.{Add, Delete, Number, Undefine}
use Rattle.up_tree.specs.declared.action.Effect.TheVariants as effect
use Rattle.up_tree.specs.declared.problem.Parts.{Parts}
use Rattle.up_tree.specs.Nodes.{not, imply, exists, forall}
use Rattle.up_tree.specs.Objects.{world, named, type_in, type_chain, is_below, tuples}
use Rattle.up_tree.specs.WellFormed.{IsWellFormed, IsBelow, IsTerm, IsFormula, AreFormulas, IsRow, IsAction, term_type}
use Rattle.up_kind.specs.Meeting.{is_under, types_share, share, top_conjuncts, all_top_conjuncts, same_plain, says_equal, tells_apart, is_guarded, may_agree, meet_by, meet, has_meeting_rows}
use Rattle.semantics_laws.specs.Replaced.{Replacement, replacement, binds, under, in_place, replaced_term, replaced, replaced_members}
use Rattle.up_eval.proofs.Types.{no_none, find_member, every_member}
use Rattle.expansion_laws.specs.Substituted.{replaced_effect, substituted_row, instance}
use Rattle.expansion_laws.proofs.Lists.{of_map}
use Rattle.expansion_forms.specs.Covered.{IsObjectOf, StandsFor}
use Rattle.expansion_forms.proofs.Covering.{names, covers_arguments}
use Rattle.expansion_kinds.proofs.Tests.{never, or_cases, or_first, or_second, and_first, and_second, and_both, is_false, turned_back, any_member, any_there}

same_itself : (v : Name) → same_name v v ≡ true
same_itself v = (bytes_decides v v).1 refl

-- ---- variables in scope

-- a variable of the first list has its type whatever stands behind
first_type : (vars scope : List Typed) (v of : Name) → type_in (vars ++ []) v ≡ Some of → type_in (vars ++ scope) v ≡ Some of
first_type [] scope v of is = no_none of is
first_type (x ∷ vars) scope v of is = by (same_name x.name v) is (first_type vars scope v of)
  where
    by : (b : Bool) → option_map (λ (y : Typed). y.of) (cond b (Some x) (named (vars ++ []) v)) ≡ Some of → (type_in (vars ++ []) v ≡ Some of → type_in (vars ++ scope) v ≡ Some of) →
        option_map (λ (y : Typed). y.of) (cond b (Some x) (named (vars ++ scope) v)) ≡ Some of
    by true is more = is
    by false is more = more is

-- one that isn't in the first list has its type behind it
behind_type : (vars scope : List Typed) (v : Name) → binds vars v ≡ false → type_in (vars ++ scope) v ≡ type_in scope v
behind_type [] scope v out = refl
behind_type (x ∷ vars) scope v out = by (same_name x.name v) out (behind_type vars scope v)
  where
    by : (b : Bool) → (b || binds vars v) ≡ false → (binds vars v ≡ false → type_in (vars ++ scope) v ≡ type_in scope v) →
        option_map (λ (y : Typed). y.of) (cond b (Some x) (named (vars ++ scope) v)) ≡ type_in scope v
    by true out more = never (sym out)
    by false out more = more out

not_replaced : (vars : List Typed) (objects : List Name) (v : Name) → type_in vars v ≡ None → replacement vars objects v ≡ None
not_replaced [] objects v is = refl
not_replaced (x ∷ vars) [] v is = refl
not_replaced (x ∷ vars) (o ∷ objects) v is = by (same_name x.name v) is (not_replaced vars objects v)
  where
    by : (b : Bool) → option_map (λ (y : Typed). y.of) (cond b (Some x) (named vars v)) ≡ None → (type_in vars v ≡ None → replacement vars objects v ≡ None) →
        option_or (replacement vars objects v) (if b then Some o else None) ≡ None
    by true is more = no_none x.of (sym is)
    by false is more = ap (λ r. option_or r None) (more is)

-- a variable in scope isn't bound by a row that binds new ones
not_bound : (scope vars : List Typed) (v : Name) → Every (λ (x : Typed). ¬ Member x.name (names scope)) vars → IsSome (named scope v) → binds vars v ≡ false
not_bound scope vars v fresh some =
    is_false (binds vars v)
    (λ e. let at : (x : Typed) × Member x vars × (same_name x.name v ≡ true) = any_member (λ (x : Typed). same_name x.name v) vars e in
    every_member (λ (x : Typed). ¬ Member x.name (names scope)) vars fresh at.0 at.1
    (subst (λ n. Member n (names scope)) (sym ((bytes_decides at.0.name v).0 at.2)) (in_names scope some)))
  where
    one : (x : Typed) (entries : List Typed) (b : Bool) → same_name x.name v ≡ b → IsSome (cond b (Some x) (named entries v)) → (IsSome (named entries v) → Member v (names entries)) → Member v (names (x ∷ entries))
    one x entries true is some more = inl (sym ((bytes_decides x.name v).0 is))
    one x entries false is some more = inr (more some)

    in_names : (entries : List Typed) → IsSome (named entries v) → Member v (names entries)
    in_names [] some = never some
    in_names (x ∷ entries) some = one x entries (same_name x.name v) refl some (in_names entries)

-- ---- types

module _ (p : Parts) where
  below_is : (u of : Name) → IsBelow p u of → is_below (world p) u of ≡ true
  below_is u of m = any_there (same_name of) (type_chain (world p) u) of m (same_itself of)

  wider_type : (a b c : Option Name) → ((of : Name) → b ≡ Some of → c ≡ Some of) → is_under p a b ≡ true → is_under p a c ≡ true
  wider_type None b c h e = never e
  wider_type (Some u) None c h e = never e
  wider_type (Some u) (Some of) c h e = subst (λ c. is_under p (Some u) c ≡ true) (sym (h of refl)) e

  wider_types : (a b c d : Option Name) → ((of : Name) → a ≡ Some of → c ≡ Some of) → ((of : Name) → b ≡ Some of → d ≡ Some of) → types_share p a b ≡ true → types_share p c d ≡ true
  wider_types None b c d h k e = never e
  wider_types (Some u) None c d h k e = never e
  wider_types (Some u) (Some of) c d h k e =
      subst (λ c. types_share p c d ≡ true) (sym (h u refl)) (subst (λ d. types_share p (Some u) d ≡ true) (sym (k of refl)) e)

  object_under : (o of : Name) → IsObjectOf p o of → is_under p (type_in p.objects o) (Some of) ≡ true
  object_under o of is = by (type_in p.objects o) is
    where
      by : (found : Option Name) → IsSomeAnd found (λ u. IsBelow p u of) → is_under p found (Some of) ≡ true
      by None is = absurd is
      by (Some u) is = below_is u of is

  -- an object of both types is one that they share
  both_share : (o a b : Name) → is_under p (type_in p.objects o) (Some a) ≡ true → is_under p (type_in p.objects o) (Some b) ≡ true → types_share p (Some a) (Some b) ≡ true
  both_share o a b h k = by (named p.objects o) refl h k
    where
      by : (found : Option Typed) → named p.objects o ≡ found → is_under p (option_map (λ (x : Typed). x.of) found) (Some a) ≡ true →
          is_under p (option_map (λ (x : Typed). x.of) found) (Some b) ≡ true → types_share p (Some a) (Some b) ≡ true
      by None is h k = never h
      by (Some x) is h k =
          any_there (λ (x : Typed). is_below (world p) x.of a && is_below (world p) x.of b) p.objects x (find_member (λ (x : Typed). same_name x.name o) p.objects x is)
          (and_both (is_below (world p) x.of a) (is_below (world p) x.of b) h k)

  -- the same of what may have no type
  shares : (o a : Name) (t : Option Name) → IsObjectOf p o a → is_under p (type_in p.objects o) t ≡ true → types_share p (Some a) t ≡ true
  shares o a None is e = by (type_in p.objects o) e
    where
      by : (found : Option Name) → is_under p found None ≡ true → false ≡ true
      by None e = e
      by (Some u) e = e
  shares o a (Some b) is e = both_share o a b (object_under o a is) e

  shared_by : (o a : Name) (t : Option Name) → IsObjectOf p o a → is_under p (type_in p.objects o) t ≡ true → types_share p t (Some a) ≡ true
  shared_by o a None is e = by (type_in p.objects o) e
    where
      by : (found : Option Name) → is_under p found None ≡ true → false ≡ true
      by None e = e
      by (Some u) e = e
  shared_by o a (Some b) is e = both_share o b a e (object_under o a is)

-- ---- ranges

module _ (p : Parts) (well : IsWellFormed p) (params : List Typed) (args : List Name) (differ : Differ (names params)) (member : Member args (tuples (world p) params)) where
  abbrev given : Replacement
  given = replacement params args

  -- an object in a variable's place is of the variable's type
  pub record Given (vars : List Typed) (v o : Name) : Type 0 where
    pub of : Name
    pub typed : type_in (vars ++ params) v ≡ Some of
    pub is : IsObjectOf p o of

  is_given : (vars : List Typed) (v o : Name) → under vars given v ≡ Some o → Given vars v o
  is_given vars v o is = by (binds vars v) refl is
    where
      typed_at : (t : Option Name) → type_in params v ≡ t → binds vars v ≡ false → given v ≡ Some o → Given vars v o
      typed_at None at out is = no_none o (sym (not_replaced params args v at) ∙ is)
      typed_at (Some of) at out is = record {
        of = of;
        typed = behind_type vars params v out ∙ at;
        is = subst (StandsFor p None of) is ((covers_arguments p well params args differ member).covered v of at);
      }

      by : (b : Bool) → binds vars v ≡ b → (if b then None else given v) ≡ Some o → Given vars v o
      by true out is = no_none o is
      by false out is = typed_at (type_in params v) refl out is

  object_there : (vars : List Typed) (c v o : Name) → Given vars v o → same_name c o ≡ true → is_under p (type_in p.objects c) (type_in (vars ++ params) v) ≡ true
  object_there vars c v o g e =
      subst (λ t. is_under p (type_in p.objects c) t ≡ true) (sym g.typed)
      (subst (λ c. is_under p (type_in p.objects c) (Some g.of) ≡ true) (sym ((bytes_decides c o).0 e)) (object_under p o g.of g.is))

  turned : (a b : Name) → same_name a b ≡ true → same_name b a ≡ true
  turned a b e = (bytes_decides b a).1 (sym ((bytes_decides a b).0 e))

  -- where two ranges share an object after the substitution, they did before
  share_back : (ds rs : List Typed) (s t : Term) → share p (ds ++ []) (replaced_term (under ds given) s) (rs ++ []) (replaced_term (under rs given) t) ≡ true →
      share p (ds ++ params) s (rs ++ params) t ≡ true
  unfolding replaced_term
  share_back ds rs (Object c) (Object q) h = h
  share_back ds rs (Object c) (Var u) h = by (under rs given u) refl h
    where
      by : (o : Option Name) → under rs given u ≡ o → share p (ds ++ []) (Object c) (rs ++ []) (in_place u o) ≡ true → is_under p (type_in p.objects c) (type_in (rs ++ params) u) ≡ true
      by None is h = wider_type p (type_in p.objects c) (type_in (rs ++ []) u) (type_in (rs ++ params) u) (first_type rs params u) h
      by (Some o) is h = object_there rs c u o (is_given rs u o is) h
  share_back ds rs (Object c) (Fluent' g n ts) h = h
  share_back ds rs (Var v) (Object q) h = by (under ds given v) refl h
    where
      by : (o : Option Name) → under ds given v ≡ o → share p (ds ++ []) (in_place v o) (rs ++ []) (Object q) ≡ true → is_under p (type_in p.objects q) (type_in (ds ++ params) v) ≡ true
      by None is h = wider_type p (type_in p.objects q) (type_in (ds ++ []) v) (type_in (ds ++ params) v) (first_type ds params v) h
      by (Some o) is h = object_there ds q v o (is_given ds v o is) (turned o q h)
  share_back ds rs (Var v) (Var u) h = by (under ds given v) refl (under rs given u) refl h
    where
      by : (o : Option Name) → under ds given v ≡ o → (q : Option Name) → under rs given u ≡ q → share p (ds ++ []) (in_place v o) (rs ++ []) (in_place u q) ≡ true →
          types_share p (type_in (ds ++ params) v) (type_in (rs ++ params) u) ≡ true
      by None is None at h = wider_types p (type_in (ds ++ []) v) (type_in (rs ++ []) u) _ _ (first_type ds params v) (first_type rs params u) h
      by (Some o) is None at h =
          let g : Given ds v o = is_given ds v o is in
          subst (λ t. types_share p t (type_in (rs ++ params) u) ≡ true) (sym g.typed)
          (shares p o g.of (type_in (rs ++ params) u) g.is (wider_type p (type_in p.objects o) (type_in (rs ++ []) u) (type_in (rs ++ params) u) (first_type rs params u) h))
      by None is (Some q) at h =
          let g : Given rs u q = is_given rs u q at in
          subst (λ t. types_share p (type_in (ds ++ params) v) t ≡ true) (sym g.typed)
          (shared_by p q g.of (type_in (ds ++ params) v) g.is (wider_type p (type_in p.objects q) (type_in (ds ++ []) v) (type_in (ds ++ params) v) (first_type ds params v) h))
      by (Some o) is (Some q) at h =
          let g : Given ds v o = is_given ds v o is in
          subst (λ t. types_share p t (type_in (rs ++ params) u) ≡ true) (sym g.typed)
          (shares p o g.of (type_in (rs ++ params) u) g.is (object_there rs o u q (is_given rs u q at) h))
  share_back ds rs (Var v) (Fluent' g n ts) h = by (under ds given v) refl h
    where
      by : (o : Option Name) → under ds given v ≡ o → share p (ds ++ []) (in_place v o) (rs ++ []) (replaced_term (under rs given) (Fluent' g n ts)) ≡ true →
          types_share p (type_in (ds ++ params) v) (term_type p (rs ++ params) (Fluent' g n ts)) ≡ true
      by None is h = wider_types p (type_in (ds ++ []) v) (term_type p (rs ++ params) (Fluent' g n ts)) _ _ (first_type ds params v) (λ of is. is) h
      by (Some o) is h =
          let k : Given ds v o = is_given ds v o is in
          subst (λ t. types_share p t (term_type p (rs ++ params) (Fluent' g n ts)) ≡ true) (sym k.typed) (shares p o k.of (term_type p (rs ++ params) (Fluent' g n ts)) k.is h)
  share_back ds rs (Fluent' f n ts) (Object q) h = h
  share_back ds rs (Fluent' f n ts) (Var u) h = by (under rs given u) refl h
    where
      by : (o : Option Name) → under rs given u ≡ o → share p (ds ++ []) (replaced_term (under ds given) (Fluent' f n ts)) (rs ++ []) (in_place u o) ≡ true →
          types_share p (term_type p (ds ++ params) (Fluent' f n ts)) (type_in (rs ++ params) u) ≡ true
      by None is h = wider_types p (term_type p (ds ++ params) (Fluent' f n ts)) (type_in (rs ++ []) u) _ _ (λ of is. is) (first_type rs params u) h
      by (Some o) is h =
          let k : Given rs u o = is_given rs u o is in
          subst (λ t. types_share p (term_type p (ds ++ params) (Fluent' f n ts)) t ≡ true) (sym k.typed) (shared_by p o k.of (term_type p (ds ++ params) (Fluent' f n ts)) k.is h)
  share_back ds rs (Fluent' f n ts) (Fluent' g m us) h = h

  -- ---- guards

  module _ (objects ds rs : List Typed) (fresh_ds : Every (λ (x : Typed). ¬ Member x.name (names params)) ds) (fresh_rs : Every (λ (x : Typed). ¬ Member x.name (names params)) rs) where
    plain_place : (v : Name) (o : Option Name) → same_plain (in_place v o) (in_place v o) ≡ true
    plain_place v None = same_itself v
    plain_place v (Some o) = same_itself o

    plain_kept : (vars : List Typed) → Every (λ (x : Typed). ¬ Member x.name (names params)) vars → (s a : Term) → IsTerm p objects params a → same_plain s a ≡ true →
        same_plain (replaced_term (under vars given) s) (replaced_term given a) ≡ true
    unfolding replaced_term IsTerm
    plain_kept vars fresh (Var v) (Var w) is h =
        subst (λ u. same_plain (in_place u (under vars given u)) (in_place w (given w)) ≡ true) (sym ((bytes_decides v w).0 h))
        (subst (λ b. same_plain (in_place w (if b then None else given w)) (in_place w (given w)) ≡ true) (sym (not_bound params vars w fresh is)) (plain_place w (given w)))
    plain_kept vars fresh (Var v) (Object q) is h = never h
    plain_kept vars fresh (Var v) (Fluent' f n ts) is h = never h
    plain_kept vars fresh (Object o) (Object q) is h = h
    plain_kept vars fresh (Object o) (Var w) is h = never h
    plain_kept vars fresh (Object o) (Fluent' f n ts) is h = never h
    plain_kept vars fresh (Fluent' f n ts) a is h = never h

    module _ (s t : Term) where
      abbrev first : Term
      first = replaced_term (under ds given) s

      abbrev second : Term
      second = replaced_term (under rs given) t

      equal_kept : (a b : Term) → IsTerm p objects params a → IsTerm p objects params b → says_equal s t (Equal a b) ≡ true → says_equal first second (Equal (replaced_term given a) (replaced_term given b)) ≡ true
      equal_kept a b is at h =
          ⊎_elim
          (λ k. or_first (same_plain first (replaced_term given a) && same_plain second (replaced_term given b)) (same_plain second (replaced_term given a) && same_plain first (replaced_term given b))
          (and_both (same_plain first (replaced_term given a)) (same_plain second (replaced_term given b)) (plain_kept ds fresh_ds s a is (and_first (same_plain s a) (same_plain t b) k)) (plain_kept rs fresh_rs t b at (and_second (same_plain s a) (same_plain t b) k))))
          (λ k. or_second (same_plain first (replaced_term given a) && same_plain second (replaced_term given b)) (same_plain second (replaced_term given a) && same_plain first (replaced_term given b))
          (and_both (same_plain second (replaced_term given a)) (same_plain first (replaced_term given b)) (plain_kept rs fresh_rs t a is (and_first (same_plain t a) (same_plain s b) k)) (plain_kept ds fresh_ds s b at (and_second (same_plain t a) (same_plain s b) k))))
          (or_cases (same_plain s a && same_plain t b) (same_plain t a && same_plain s b) h)

      not_kept : (f : Formula) → IsFormula p objects params f → says_equal s t f ≡ true → says_equal first second (replaced given f) ≡ true
      unfolding replaced IsFormula
      not_kept (And' n fs) is h = never h
      not_kept (Or' n fs) is h = never h
      not_kept (not f) is h = never h
      not_kept (imply f g) is h = never h
      not_kept (exists vars f) is h = never h
      not_kept (forall vars f) is h = never h
      not_kept (Atom name ts) is h = never h
      not_kept (Equal a b) is h = equal_kept a b is.0 is.1 h
      not_kept (Compare r a b) is h = never h

      or_false : (b : Bool) → (b || false) ≡ b
      or_false true = refl
      or_false false = refl

      mutual
        unfolding is_guarded top_conjuncts all_top_conjuncts replaced replaced_members IsFormula AreFormulas

        guard_kept : (f : Formula) → IsFormula p objects params f → is_guarded f s t ≡ true → is_guarded (replaced given f) first second ≡ true
        guard_kept (And' n fs) is h = guards_kept fs is h
        guard_kept (Or' n fs) is h = never h
        guard_kept (not f) is h = or_false (says_equal first second (replaced given f)) ∙ not_kept f is (sym (or_false (says_equal s t f)) ∙ h)
        guard_kept (imply f g) is h = never h
        guard_kept (exists vars f) is h = never h
        guard_kept (forall vars f) is h = never h
        guard_kept (Atom name ts) is h = never h
        guard_kept (Equal a b) is h = never h
        guard_kept (Compare r a b) is h = never h

        guards_kept : {n : _} (fs : Row_of-Formula n) → AreFormulas p objects params fs → list_any (tells_apart s t) (all_top_conjuncts fs) ≡ true →
            list_any (tells_apart first second) (all_top_conjuncts (replaced_members given fs)) ≡ true
        guards_kept end_of-Formula is h = never h
        guards_kept (more_of-Formula f fs) is h =
            list_any-append (tells_apart first second) (top_conjuncts (replaced given f)) (all_top_conjuncts (replaced_members given fs))
            ∙ ⊎_elim
            (λ k. or_first (list_any (tells_apart first second) (top_conjuncts (replaced given f))) (list_any (tells_apart first second) (all_top_conjuncts (replaced_members given fs))) (guard_kept f is.0 k))
            (λ k. or_second (list_any (tells_apart first second) (top_conjuncts (replaced given f))) (list_any (tells_apart first second) (all_top_conjuncts (replaced_members given fs))) (guards_kept fs is.1 k))
            (or_cases (list_any (tells_apart s t) (top_conjuncts f)) (list_any (tells_apart s t) (all_top_conjuncts fs))
            (sym (list_any-append (tells_apart s t) (top_conjuncts f) (all_top_conjuncts fs)) ∙ h))

all_pairs : (F G : Term → Term) (k l : Term × Term → Bool) → ((s t : Term) → k (F s, G t) ≡ true → l (s, t) ≡ true) → (ss ts : List Term) →
    list_all k (zip (map F ss) (map G ts)) ≡ true → list_all l (zip ss ts) ≡ true
all_pairs F G k l h [] ts e = refl
all_pairs F G k l h (s ∷ ss) [] e = refl
all_pairs F G k l h (s ∷ ss) (t ∷ ts) e =
    and_both (l (s, t)) (list_all l (zip ss ts)) (h s t (and_first (k (F s, G t)) (list_all k (zip (map F ss) (map G ts))) e))
    (all_pairs F G k l h ss ts (and_second (k (F s, G t)) (list_all k (zip (map F ss) (map G ts))) e))

module _ (p : Parts) (well : IsWellFormed p) (name : Name) (a : Action) (args : List Name) (is : IsAction p a) (member : Member args (tuples (world p) a.params)) where
  abbrev made : Action
  made = instance name a args

  agree_back : (d r : Row) → Member d a.rows → Member r a.rows → (ss ts : List Term) →
      may_agree p made (substituted_row a.params args d) (substituted_row a.params args r) (map (replaced_term (under d.vars (replacement a.params args))) ss) (map (replaced_term (under r.vars (replacement a.params args))) ts) ≡ true →
      may_agree p a d r ss ts ≡ true
  agree_back d r m k ss ts h =
      let objects : List Typed = take p.constants p.objects in
      let row_d : IsRow p objects a.params d = every_member (IsRow p objects a.params) a.rows is.rows d m in
      let row_r : IsRow p objects a.params r = every_member (IsRow p objects a.params) a.rows is.rows r k in
      let into_d : Term → Term = replaced_term (under d.vars (replacement a.params args)) in
      let into_r : Term → Term = replaced_term (under r.vars (replacement a.params args)) in
      all_pairs into_d into_r
      (λ pair. flip (is_guarded made.pre pair.0 pair.1) && share p (d.vars ++ []) pair.0 (r.vars ++ []) pair.1)
      (λ pair. flip (is_guarded a.pre pair.0 pair.1) && share p (d.vars ++ a.params) pair.0 (r.vars ++ a.params) pair.1)
      (λ s t e. and_both (flip (is_guarded a.pre s t)) (share p (d.vars ++ a.params) s (r.vars ++ a.params) t)
      (turned_back (is_guarded a.pre s t) (is_guarded made.pre (into_d s) (into_r t))
      (guard_kept p well a.params args is.params.differ member objects d.vars r.vars row_d.vars.fresh row_r.vars.fresh s t a.pre is.pre)
      (and_first (flip (is_guarded made.pre (into_d s) (into_r t))) (share p (d.vars ++ []) (into_d s) (r.vars ++ []) (into_r t)) e))
      (share_back p well a.params args is.params.differ member d.vars r.vars s t
      (and_second (flip (is_guarded made.pre (into_d s) (into_r t))) (share p (d.vars ++ []) (into_d s) (r.vars ++ []) (into_r t)) e)))
      ss ts h

  meet_back : (d r : Row) → Member d a.rows → Member r a.rows → (x y : Effect) →
      meet_by p made (substituted_row a.params args d) (substituted_row a.params args r) (replaced_effect (under d.vars (replacement a.params args)) x) (replaced_effect (under r.vars (replacement a.params args)) y) ≡ true →
      meet_by p a d r x y ≡ true
  meet_back d r m k (Delete from ss) (Add to ts) h =
      and_both (same_name from to) (may_agree p a d r ss ts) (and_first (same_name from to) _ h) (agree_back d r m k ss ts (and_second (same_name from to) _ h))
  meet_back d r m k (Delete from ss) (Delete to ts) h = never h
  meet_back d r m k (Delete from ss) (Number change f ts n) h = never h
  meet_back d r m k (Delete from ss) (effect.Object f ts t) h = never h
  meet_back d r m k (Delete from ss) (Undefine f ts) h = never h
  meet_back d r m k (Add from ss) y h = never h
  meet_back d r m k (Number change f ss n) y h = never h
  meet_back d r m k (effect.Object f ss t) y h = never h
  meet_back d r m k (Undefine f ss) y h = never h

  meeting_back : has_meeting_rows p made ≡ true → has_meeting_rows p a ≡ true
  unfolding meet
  meeting_back h =
      let one : (d : Row) × Member d made.rows × (list_any (meet p made d) made.rows ≡ true) = any_member (λ d. list_any (meet p made d) made.rows) made.rows h in
      let two : (r : Row) × Member r made.rows × (meet p made one.0 r ≡ true) = any_member (meet p made one.0) made.rows one.2 in
      let d : (d : Row) × Member d a.rows × (one.0 ≡ substituted_row a.params args d) = of_map (substituted_row a.params args) a.rows one.0 one.1 in
      let r : (r : Row) × Member r a.rows × (two.0 ≡ substituted_row a.params args r) = of_map (substituted_row a.params args) a.rows two.0 two.1 in
      any_there (λ d. list_any (meet p a d) a.rows) a.rows d.0 d.1
      (any_there (meet p a d.0) a.rows r.0 r.1
      (meet_back d.0 r.0 d.1 r.1 d.0.effect r.0.effect ((λ i. meet p made (sym d.2 i) (sym r.2 i)) ∙ two.2)))

pub instances_meet : (p : Parts) → IsWellFormed p → (name : Name) (a : Action) (args : List Name) → IsAction p a →
    Member args (tuples (world p) a.params) →
    IsTrue (has_meeting_rows p (instance name a args)) → IsTrue (has_meeting_rows p a)
instances_meet p well name a args is member h = meeting_back p well name a args is member h
