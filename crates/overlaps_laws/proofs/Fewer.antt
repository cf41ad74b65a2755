-- A variant has fewer meeting rows: it lacks those that it was made for.
use Rattle.std.proofs.Common.{◌≡◌, ◌⊎◌, Bool, true, false, not as flip, ◌&&◌, List, [], ◌∷◌, ◌++◌, map, filter, zip, Option, Some, None, IsSome, IsSomeAnd, refl, sym, ◌∙◌, subst, inl, inr, ⊎_elim}
use Rattle.std.specs.List.{list_any, list_all}
use Rattle.std.specs.Cmp.Lexicographic.{bytes_decides}
use Rattle.up_text.specs.Lists.{Member}
use Rattle.up_tree.specs.declared.term.Term.{Term, Var, Object, Fluent'}
use Rattle.up_tree.specs.declared.term.Typed.{Typed}
use Rattle.up_tree.specs.declared.formula.Formula.{And, Equal, Not}
use Rattle.up_tree.specs.declared.action.Action.{Action}
use Rattle.up_tree.specs.declared.action.Row.{Row}
use Rattle.up_tree.specs.declared.problem.Function.{Function}
use Rattle.up_tree.specs.declared.problem.Parts.{Parts}
use Rattle.up_tree.specs.Nodes.{built}
use Rattle.up_tree.specs.Objects.{world, function_named}
use Rattle.up_tree.specs.Simplify.{knows_nothing, is_false_formula}
use Rattle.up_tree.specs.WellFormed.{IsTerm, RowFits, gives_object}
use Rattle.up_kind.specs.Carried.{gives_an_object}
use Rattle.up_kind.specs.Meeting.{share, top_conjuncts, same_plain, says_equal, is_guarded, meet}
use Rattle.step_laws.proofs.Splitting.{find_of}
use Rattle.condition_laws.specs.Guards.{are_apart, KeepsGuards}
use Rattle.condition_laws.proofs.Guarding.{guards, guards-And, apart_dont_share, still_meet, meet-is, simplified_keeps_guards}
use Rattle.condition_laws.proofs.Holding.{left, right}
use Rattle.compiling_laws.proofs.Lists.{false_true, and_true, not_true, any_false, member_map, member_filter}
use Rattle.step_laws.proofs.Lists.{every_at}
use Rattle.overlaps_laws.specs.Overlaps.{Meeting, meetings, argument_pairs, other_rows, Case, cases}
use Rattle.overlaps_laws.proofs.Parting.{IsPartOf, Lacks, whole, part_of, part_filtered, lacks_filtered, part_mapped, lacks_mapped, lacks_flat, lacks_flat_without}
use Rattle.overlaps_laws.specs.Splittable.{IsSplittable}
use Rattle.overlaps_laws.proofs.Rows.{Met, met, IsFirst, IsMeeting, meeting, meetings_of, pairs_formed, constants, IsArgument}
use Rattle.overlaps_laws.proofs.Once.{made}
use Rattle.overlaps_laws.proofs.Variants.{together, differing, IsCase, all_equal, one_differs, case_is}

-- no function gives an object
abbrev pub HasNoObjects : Parts → Type 0
HasNoObjects p = list_any gives_an_object p.functions ≡ false

some_true : {X : Type 0} (o : Option X) → IsSome o → (x : X) × (o ≡ Some x)
some_true (Some x) h = (x, refl)
some_true None h = false_true h

-- so an argument is a variable or an object
plain_self : (p : Parts) → HasNoObjects p → (objects scope : List Typed) (t : Term) → IsTerm p objects scope t → same_plain t t ≡ true
unfolding IsTerm
plain_self p none objects scope (Var v) h = (bytes_decides v v).1 refl
plain_self p none objects scope (Object o) h = (bytes_decides o o).1 refl
plain_self p none objects scope (Fluent' f n ts) h = by (function_named p f) refl h
  where
    by : (o : Option Function) → function_named p f ≡ o → IsSomeAnd o (λ d. IsSome (gives_object d.gives) × RowFits p objects scope ts d.args) → same_plain (Fluent' f n ts) (Fluent' f n ts) ≡ true
    by None is h = absurd h
    by (Some d) is h = false_true (sym (any_false gives_an_object p.functions d none (find_of (λ (d : Function). d.name) f p.functions d is).0) ∙ h.0)

pub all_at : {X : Type 0} (test : X → Bool) (xs : List X) (x : X) → list_all test xs ≡ true → Member x xs → test x ≡ true
all_at test [] x h m = absurd m
all_at test (y ∷ xs) x h (inl e) = subst (λ z. test z ≡ true) (sym e) (and_true (test y) (list_all test xs) h).0
all_at test (y ∷ xs) x h (inr m) = all_at test xs x (and_true (test y) (list_all test xs) h).1 m

-- ---- guards

-- those of the precondition stay
pub keeps_before : (p : Parts) (a : Action) (c : Case) → is_false_formula (made (world p) a c).pre ≡ false → KeepsGuards a.pre (made (world p) a c).pre
unfolding is_guarded
keeps_before p a c lives s t h =
    simplified_keeps_guards (world p) knows_nothing (And (a.pre ∷ c.more)) lives s t (guards-And s t (a.pre ∷ c.more) ∙ left (guards s t a.pre) (list_any (guards s t) c.more) h)

tells_itself : (s t : Term) → same_plain s s ≡ true → same_plain t t ≡ true → says_equal s t (Equal s t) ≡ true
tells_itself s t h k = left (same_plain s s && same_plain t t) (same_plain t s && same_plain s t) ((λ i. h i && k i))

guards_itself : (s t : Term) → same_plain s s ≡ true → same_plain t t ≡ true → guards s t (Not (Equal s t)) ≡ true
unfolding top_conjuncts built
guards_itself s t h k = left (says_equal s t (Equal s t)) false (tells_itself s t h k)

-- and the new one, but for two objects that differ anyway
new_guard : (p : Parts) (a : Action) (pair : Term × Term) → same_plain pair.0 pair.0 ≡ true → same_plain pair.1 pair.1 ≡ true
    → is_false_formula (made (world p) a (differing a pair)).pre ≡ false → (are_apart pair.0 pair.1 ≡ true) ⊎ (is_guarded (made (world p) a (differing a pair)).pre pair.0 pair.1 ≡ true)
unfolding is_guarded
new_guard p a pair h k lives =
    simplified_keeps_guards (world p) knows_nothing (And (a.pre ∷ Not (Equal pair.0 pair.1) ∷ [])) lives pair.0 pair.1
    (guards-And pair.0 pair.1 (a.pre ∷ Not (Equal pair.0 pair.1) ∷ [])
    ∙ right (guards pair.0 pair.1 a.pre) _ (left (guards pair.0 pair.1 (Not (Equal pair.0 pair.1))) false (guards_itself pair.0 pair.1 h k)))

-- ---- what meets in a variant meets in the action

pub meets_before : (p : Parts) (a : Action) (c : Case) → is_false_formula (made (world p) a c).pre ≡ false → (d r : Row) → meet p (made (world p) a c) d r ≡ true → meet p a d r ≡ true
meets_before p a c lives d r h =
    meet-is p a d r
    ∙ still_meet p a.pre (made (world p) a c).pre (keeps_before p a c lives) (d.vars ++ a.params) (r.vars ++ a.params) d.effect r.effect (sym (meet-is p (made (world p) a c) d r) ∙ h)

module _ (p : Parts) (none : HasNoObjects p) (a : Action) (ok : IsSplittable p a) (m : Meeting) (first : IsFirst p a m) where
  meeting_is : IsMeeting p a m
  meeting_is = record { deleting = first.deleting; adding = first.adding; meets = first.meets }

  fewer_by : (c : Case) → is_false_formula (made (world p) a c).pre ≡ false → (d : Row) (rows others : List Row) → IsPartOf rows others
      → IsPartOf (map (meeting d) (filter (meet p (made (world p) a c) d) rows)) (map (meeting d) (filter (meet p a d) others))
  fewer_by c lives d rows others part =
      part_mapped (meeting d) (filter (meet p (made (world p) a c) d) rows) (filter (meet p a d) others)
      (part_filtered (meet p (made (world p) a c) d) (meet p a d) (meets_before p a c lives d) rows others part)

  together_lacks : is_false_formula (made (world p) a (together p a m)).pre ≡ false → Lacks m (meetings p (made (world p) a (together p a m))) (meetings p a)
  together_lacks lives =
      lacks_flat_without (meetings_of p (made (world p) a (together p a m))) (meetings_of p a)
      (λ d. fewer_by (together p a m) lives d (other_rows p a) a.rows (part_of m.delete (other_rows p a) a.rows first.others))
      m m.delete (other_rows p a) a.rows first.others
      (member_map (meeting m.delete) (filter (meet p a m.delete) a.rows) m.add (member_filter (meet p a m.delete) a.rows m.add first.adding first.meets))

  -- the two rows don't meet where two of their arguments differ
  dont_meet : (pair : Term × Term) → Member pair (argument_pairs m) → is_false_formula (made (world p) a (differing a pair)).pre ≡ false
      → meet p (made (world p) a (differing a pair)) m.delete m.add ≡ false
  dont_meet pair there lives = by (meet p b m.delete m.add) refl
    where
      b : Action
      b = made (world p) a (differing a pair)

      wrong : meet p b m.delete m.add ≡ true → ⊥
      wrong h =
          let is : Met p b m.delete m.add = met p b m.delete m.add h in
          let agrees : (flip (is_guarded b.pre pair.0 pair.1) && share p (m.delete.vars ++ a.params) pair.0 (m.add.vars ++ a.params) pair.1) ≡ true =
          all_at (λ (x : Term × Term). flip (is_guarded b.pre x.0 x.1) && share p (m.delete.vars ++ a.params) x.0 (m.add.vars ++ a.params) x.1) (zip is.ss is.ts) pair is.agree
          (subst (Member pair) (pairs_of is) there) in
          let both = and_true (flip (is_guarded b.pre pair.0 pair.1)) (share p (m.delete.vars ++ a.params) pair.0 (m.add.vars ++ a.params) pair.1) agrees in
          let formed : IsArgument p a ok pair.0 × IsArgument p a ok pair.1 =
          every_at (λ (x : Term × Term). IsArgument p a ok x.0 × IsArgument p a ok x.1) (argument_pairs m) pair (pairs_formed p a ok m meeting_is) there in
          ⊎_elim
          (λ k. clash (apart_dont_share p (m.delete.vars ++ a.params) (m.add.vars ++ a.params) pair.0 pair.1 k) both.1)
          (λ k. clash (not_true (is_guarded b.pre pair.0 pair.1) both.0) k)
          (new_guard p a pair (plain_self p none (constants p a ok) a.params pair.0 formed.0) (plain_self p none (constants p a ok) a.params pair.1 formed.1) lives)
        where
          clash : {x : Bool} → x ≡ false → x ≡ true → ⊥
          clash off on = absurd (false_true (sym off ∙ on))

          pairs_of : (is : Met p b m.delete m.add) → argument_pairs m ≡ zip is.ss is.ts
          pairs_of is = λ i. zip (Rattle.overlaps_laws.specs.Overlaps.arguments_of (is.deletes i)) (Rattle.overlaps_laws.specs.Overlaps.arguments_of (is.adds i))

      by : (x : Bool) → meet p b m.delete m.add ≡ x → x ≡ false
      by true h = absurd (wrong h)
      by false h = refl

  differing_lacks : (pair : Term × Term) → Member pair (argument_pairs m) → is_false_formula (made (world p) a (differing a pair)).pre ≡ false
      → Lacks m (meetings p (made (world p) a (differing a pair))) (meetings p a)
  differing_lacks pair there lives =
      lacks_flat (meetings_of p (made (world p) a (differing a pair))) (meetings_of p a)
      (λ d. fewer_by (differing a pair) lives d a.rows a.rows (whole a.rows))
      m m.delete a.rows first.deleting
      (lacks_mapped (meeting m.delete) m.add (filter (meet p (made (world p) a (differing a pair)) m.delete) a.rows) (filter (meet p a m.delete) a.rows)
      (lacks_filtered (meet p (made (world p) a (differing a pair)) m.delete) (meet p a m.delete) (meets_before p a (differing a pair) lives m.delete) m.add a.rows first.adding
      (dont_meet pair there lives) first.meets))

  pub case_lacks : (c : Case) → Member c (cases p a m) → is_false_formula (made (world p) a c).pre ≡ false → Lacks m (meetings p (made (world p) a c)) (meetings p a)
  case_lacks c listed lives = by (case_is p a m c listed) lives
    where
      by : IsCase p a m c → is_false_formula (made (world p) a c).pre ≡ false → Lacks m (meetings p (made (world p) a c)) (meetings p a)
      by (all_equal same) =
          subst (λ (x : Case). is_false_formula (made (world p) a x).pre ≡ false → Lacks m (meetings p (made (world p) a x)) (meetings p a)) (sym same) together_lacks
      by (one_differs pair there same) =
          subst (λ (x : Case). is_false_formula (made (world p) a x).pre ≡ false → Lacks m (meetings p (made (world p) a x)) (meetings p a)) (sym same) (differing_lacks pair there)
