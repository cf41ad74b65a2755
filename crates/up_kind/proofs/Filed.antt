-- Rows are filed by what they add, and a delete row meets none but those of its predicate.
use Rattle.std.proofs.Common.{◌≡◌, ℕ, suc, ◌≤◌, ◌+◌, Bool, true, false, ◌||◌, ◌&&◌, not, List, [], ◌∷◌, ◌++◌, filter, map, length, take, take_all, get_or, Option, Some, None, refl, ap, subst, sym, ◌∙◌, arith, cond}
use Rattle.std.specs.Prelude.{zip}
use Rattle.std.specs.List.{list_any, list_all}
use Rattle.std.specs.Borrow.{Bor}
use Rattle.std.specs.Cmp.Lexicographic.{pointwise}
use Rattle.std.proofs.lemmas.Bool.{false≢true}
use Rattle.indexmap.specs.IndexMap.{IndexMap, get}
use Rattle.up_text.specs.declared.name.Name.{Name}
use Rattle.up_text.specs.Names.{same_name}
use Rattle.up_tree.specs.declared.term.Term.{Term, Var, Object, Fluent'}
use Rattle.up_tree.specs.declared.expr.Expr.{Expr}
use Rattle.up_tree.specs.declared.action.Change.{Change}
use Rattle.up_tree.specs.declared.action.Action.{Action}
use Rattle.up_tree.specs.declared.action.Row.{Row}
use Rattle.up_tree.specs.declared.action.Effect.{Effect}
use Rattle.up_tree.specs.declared.action.Effect.TheVariants.{Add, Delete}
use Rattle.up_tree.specs.declared.action.Effect.TheVariants as effect
use Rattle.up_tree.specs.declared.problem.Parts.{Parts}
use Rattle.up_kind.specs.declared.ground.Ground.{Ground}
use Rattle.up_kind.specs.Keys.{same_ground}
use Rattle.up_kind.specs.Meeting.{is_guarded, share, may_agree, meet_by, meet, has_meeting_rows}
use Rattle.up_kind.specs.Rows.{first_object, filed_by, adds_under, is_delete, rows_of, HasAdds, AddsRow, Files, meets_one}

and_false : (b : Bool) → (b && false) ≡ false
and_false true = refl
and_false false = refl

-- ---- rows that meet stand under the key

any_filter : (t q : Row → Bool) (rows : List Row) → list_any t (filter q rows) ≡ list_any (λ r. q r && t r) rows
any_filter t q [] = refl
any_filter t q (r ∷ rows) = by (q r) (any_filter t q rows)
  where
    by : (b : Bool) → list_any t (filter q rows) ≡ list_any (λ r. q r && t r) rows
        → list_any t (cond b (r ∷ filter q rows) (filter q rows)) ≡ ((b && t r) || list_any (λ r. q r && t r) rows)
    by true behind = ap (λ b. t r || b) behind
    by false behind = behind

any_or : (f g : Row → Bool) (rows : List Row) → list_any (λ r. f r || g r) rows ≡ (list_any f rows || list_any g rows)
any_or f g [] = refl
any_or f g (r ∷ rows) = by (f r) (g r) (list_any f rows) (any_or f g rows)
  where
    by : (a b c : Bool) → list_any (λ r. f r || g r) rows ≡ (c || list_any g rows)
        → ((a || b) || list_any (λ r. f r || g r) rows) ≡ ((a || c) || (b || list_any g rows))
    by true b c behind = refl
    by false true true behind = refl
    by false true false behind = refl
    by false false c behind = behind

-- a row that adds an atom of another predicate doesn't meet
by_name : (p : Parts) (a : Action) (d r : Row) (name : Name) (ss : List Term) → d.effect ≡ Delete name ss
    → meet p a d r ≡ (adds_under false name [] r.effect && meet p a d r)
unfolding meet
by_name p a d r name ss is =
    ap (λ e. meet_by p a d r e r.effect) is ∙ on r.effect ∙ sym (ap (λ e. adds_under false name [] r.effect && meet_by p a d r e r.effect) is)
  where
    both : (x y : Bool) → (x && y) ≡ ((x && true) && (x && y))
    both true y = refl
    both false y = refl

    on : (e : Effect) → meet_by p a d r (Delete name ss) e ≡ (adds_under false name [] e && meet_by p a d r (Delete name ss) e)
    on (Add other ts) = both (same_name name other) (may_agree p a d r ss ts)
    on (Delete other ts) = refl
    on (effect.Number change f ts x) = refl
    on (effect.Object f ts t) = refl
    on (effect.Undefine f ts) = refl

-- nor does one in which another object stands first
by_first : (p : Parts) (a : Action) (d r : Row) (name o : Name) (ss : List Term) → d.effect ≡ Delete name (Object o ∷ ss)
    → meet p a d r ≡ ((adds_under true name (o ∷ []) r.effect && meet p a d r) || (adds_under true name [] r.effect && meet p a d r))
unfolding meet
by_first p a d r name o ss is =
    ap (λ e. meet_by p a d r e r.effect) is ∙ on r.effect
    ∙ sym (ap (λ e. (adds_under true name (o ∷ []) r.effect && meet_by p a d r e r.effect) || (adds_under true name [] r.effect && meet_by p a d r e r.effect)) is)
  where
    none : (x y : Bool) → (x && y) ≡ (((x && false) && (x && y)) || ((x && true) && (x && y)))
    none true y = refl
    none false y = refl

    same : (x s g rest : Bool) → (x && (((not g) && s) && rest)) ≡ (((x && (s && true)) && (x && (((not g) && s) && rest))) || ((x && false) && (x && (((not g) && s) && rest))))
    same true true g rest = or_none ((not g && true) && rest)
      where
        or_none : (b : Bool) → b ≡ (b || false)
        or_none true = refl
        or_none false = refl
    same true false true rest = refl
    same true false false rest = refl
    same false s g rest = refl

    on : (e : Effect) → meet_by p a d r (Delete name (Object o ∷ ss)) e
        ≡ ((adds_under true name (o ∷ []) e && meet_by p a d r (Delete name (Object o ∷ ss)) e) || (adds_under true name [] e && meet_by p a d r (Delete name (Object o ∷ ss)) e))
    on (Add other []) = none (same_name name other) (may_agree p a d r (Object o ∷ ss) [])
    on (Add other (Var v ∷ ts)) = none (same_name name other) (may_agree p a d r (Object o ∷ ss) (Var v ∷ ts))
    on (Add other (Fluent' f n us ∷ ts)) = none (same_name name other) (may_agree p a d r (Object o ∷ ss) (Fluent' f n us ∷ ts))
    on (Add other (Object q ∷ ts)) =
        same (same_name name other) (same_name o q) (is_guarded a.pre (Object o) (Object q)) (may_agree p a d r ss ts)
    on (Delete other ts) = refl
    on (effect.Number change f ts x) = refl
    on (effect.Object f ts t) = refl
    on (effect.Undefine f ts) = refl

any_same : (f g : Row → Bool) → ((r : Row) → f r ≡ g r) → (rows : List Row) → list_any f rows ≡ list_any g rows
any_same f g law rows = λ i. list_any (λ r. law r i) rows

pub meets_by_name : (p : Parts) (a : Action) (d : Row) (name : Name) (ss : List Term) (rows under : List Row) → d.effect ≡ Delete name ss
    → under ≡ filter (λ (r : Row). adds_under false name [] r.effect) rows → meets_one p a d under ≡ meets_one p a d rows
meets_by_name p a d name ss rows under is filed =
    ap (meets_one p a d) filed ∙ any_filter (meet p a d) (λ (r : Row). adds_under false name [] r.effect) rows
    ∙ sym (any_same (meet p a d) (λ r. adds_under false name [] r.effect && meet p a d r) (λ r. by_name p a d r name ss is) rows)

pub meets_by_first : (p : Parts) (a : Action) (d : Row) (name o : Name) (ss : List Term) (rows under bare : List Row) → d.effect ≡ Delete name (Object o ∷ ss)
    → under ≡ filter (λ (r : Row). adds_under true name (o ∷ []) r.effect) rows → bare ≡ filter (λ (r : Row). adds_under true name [] r.effect) rows
    → (meets_one p a d under || meets_one p a d bare) ≡ meets_one p a d rows
meets_by_first p a d name o ss rows under bare is filed unfiled =
    (λ i. meets_one p a d (filed i) || meets_one p a d (unfiled i))
    ∙ (λ i. any_filter (meet p a d) (λ (r : Row). adds_under true name (o ∷ []) r.effect) rows i
    || any_filter (meet p a d) (λ (r : Row). adds_under true name [] r.effect) rows i)
    ∙ sym (any_or (λ r. adds_under true name (o ∷ []) r.effect && meet p a d r) (λ r. adds_under true name [] r.effect && meet p a d r) rows)
    ∙ sym (any_same (meet p a d) (λ r. (adds_under true name (o ∷ []) r.effect && meet p a d r) || (adds_under true name [] r.effect && meet p a d r))
    (λ r. by_first p a d r name o ss is) rows)

-- no row meets one that deletes nothing
none_meets : (p : Parts) (a : Action) (d : Row) (rows : List Row) → is_delete d.effect ≡ false → meets_one p a d rows ≡ false
unfolding meet
none_meets p a d rows is = on d.effect is rows
  where
    never : (xs : List Row) → list_any (λ r. false) xs ≡ false
    never [] = refl
    never (x ∷ xs) = never xs

    on : (e : Effect) → is_delete e ≡ false → (rows : List Row) → list_any (λ r. meet_by p a d r e r.effect) rows ≡ false
    on (Delete name ss) is rows = absurd (false≢true (sym is))
    on (Add name ts) is rows = never rows
    on (effect.Number change f ts x) is rows = never rows
    on (effect.Object f ts t) is rows = never rows
    on (effect.Undefine f ts) is rows = never rows

-- nor does any row where no row deletes
pub no_delete : (p : Parts) (a : Action) → list_any (λ (r : Row). is_delete r.effect) a.rows ≡ false → has_meeting_rows p a ≡ false
no_delete p a is = on a.rows is
  where
    on : (ds : List Row) → list_any (λ (r : Row). is_delete r.effect) ds ≡ false → list_any (λ d. list_any (meet p a d) a.rows) ds ≡ false
    on [] is = refl
    on (d ∷ ds) is = by (is_delete d.effect) refl is (on ds)
      where
        by : (b : Bool) → is_delete d.effect ≡ b → (b || list_any (λ (r : Row). is_delete r.effect) ds) ≡ false
            → (list_any (λ (r : Row). is_delete r.effect) ds ≡ false → list_any (λ d. list_any (meet p a d) a.rows) ds ≡ false)
            → (list_any (meet p a d) a.rows || list_any (λ d. list_any (meet p a d) a.rows) ds) ≡ false
        by true deletes is behind = absurd (false≢true (sym is))
        by false deletes is behind = ap (λ b. b || list_any (λ d. list_any (meet p a d) a.rows) ds) (none_meets p a d a.rows deletes) ∙ behind is

pub none_add : (p : Parts) (a : Action) (d : Row) (rows : List Row) (name : Name) (ts : List Term) → d.effect ≡ Add name ts → meets_one p a d rows ≡ false
none_add p a d rows name ts is = none_meets p a d rows (ap is_delete is)

pub none_number : (p : Parts) (a : Action) (d : Row) (rows : List Row) (change : Change) (f : Name) (ts : List Term) (x : Expr) → d.effect ≡ effect.Number change f ts x
    → meets_one p a d rows ≡ false
none_number p a d rows change f ts x is = none_meets p a d rows (ap is_delete is)

pub none_object : (p : Parts) (a : Action) (d : Row) (rows : List Row) (f : Name) (ts : List Term) (t : Term) → d.effect ≡ effect.Object f ts t
    → meets_one p a d rows ≡ false
none_object p a d rows f ts t is = none_meets p a d rows (ap is_delete is)

pub none_undefine : (p : Parts) (a : Action) (d : Row) (rows : List Row) (f : Name) (ts : List Term) → d.effect ≡ effect.Undefine f ts
    → meets_one p a d rows ≡ false
none_undefine p a d rows f ts is = none_meets p a d rows (ap is_delete is)

pub ruleset idle = (none_add, none_number, none_object, none_undefine)

-- ---- by the tables

under_rows : {S : Type 0} (split : Bool) (table : IndexMap Ground (List (Bor Row)) S) (rows : List Row) (key : Ground) (name : Name) (objects : List Name)
    → HasAdds split table rows → key.name ≡ name → key.args.items ≡ objects
    → rows_of (get same_ground table key) ≡ filter (λ (r : Row). adds_under split name objects r.effect) rows
under_rows split table rows key name objects has is are = has.each key ∙ (λ i. filter (λ (r : Row). adds_under split (is i) (are i) r.effect) rows)

pub by_predicate : {S : Type 0} (p : Parts) (a : Action) (d : Row) (name : Name) (ss : List Term) (table : IndexMap Ground (List (Bor Row)) S) (key : Ground)
    → HasAdds false table a.rows → d.effect ≡ Delete name ss → key.name ≡ name → key.args.items ≡ []
    → meets_one p a d (rows_of (get same_ground table key)) ≡ meets_one p a d a.rows
by_predicate p a d name ss table key has is name_is none =
    meets_by_name p a d name ss a.rows (rows_of (get same_ground table key)) is (under_rows false table a.rows key name [] has name_is none)

pub by_object : {S : Type 0} (p : Parts) (a : Action) (d : Row) (name o : Name) (ss : List Term) (table : IndexMap Ground (List (Bor Row)) S) (key bare : Ground)
    → HasAdds true table a.rows → d.effect ≡ Delete name ss → first_object ss ≡ o ∷ [] → key.name ≡ name → key.args.items ≡ first_object ss
    → bare.name ≡ name → bare.args.items ≡ []
    → (meets_one p a d (rows_of (get same_ground table key)) || meets_one p a d (rows_of (get same_ground table bare))) ≡ meets_one p a d a.rows
by_object p a d name o [] table key bare has is first name_is args_are bare_is none = absurd (no_first first)
  where
    no_first : ¬ ([] ≡ o ∷ [])
    no_first e = cc
by_object p a d name o (Var v ∷ ss) table key bare has is first name_is args_are bare_is none = absurd (no_first first)
  where
    no_first : ¬ ([] ≡ o ∷ [])
    no_first e = cc
by_object p a d name o (Fluent' f n us ∷ ss) table key bare has is first name_is args_are bare_is none = absurd (no_first first)
  where
    no_first : ¬ ([] ≡ o ∷ [])
    no_first e = cc
by_object p a d name o (Object q ∷ ss) table key bare has is first name_is args_are bare_is none =
    meets_by_first p a d name q ss a.rows (rows_of (get same_ground table key)) (rows_of (get same_ground table bare)) is
    (under_rows true table a.rows key name (q ∷ []) has name_is args_are) (under_rows true table a.rows bare name [] has bare_is none)

-- a row for the delete row stands under the one key or under the other
pub at_object : {S : Type 0} (p : Parts) (a : Action) (d : Row) (name o : Name) (ss : List Term) (table : IndexMap Ground (List (Bor Row)) S) (key bare : Ground)
    → HasAdds true table a.rows → d.effect ≡ Delete name ss → first_object ss ≡ o ∷ [] → key.name ≡ name → key.args.items ≡ first_object ss
    → bare.name ≡ name → bare.args.items ≡ [] → meets_one p a d (rows_of (get same_ground table key)) ≡ true → meets_one p a d a.rows ≡ true
at_object p a d name o ss table key bare has is first name_is args_are bare_is none meets =
    sym (by_object p a d name o ss table key bare has is first name_is args_are bare_is none)
    ∙ ap (λ b. b || meets_one p a d (rows_of (get same_ground table bare))) meets

pub elsewhere : {S : Type 0} (p : Parts) (a : Action) (d : Row) (name o : Name) (ss : List Term) (table : IndexMap Ground (List (Bor Row)) S) (key bare : Ground)
    → HasAdds true table a.rows → d.effect ≡ Delete name ss → first_object ss ≡ o ∷ [] → key.name ≡ name → key.args.items ≡ first_object ss
    → bare.name ≡ name → bare.args.items ≡ [] → meets_one p a d (rows_of (get same_ground table key)) ≡ false
    → meets_one p a d (rows_of (get same_ground table bare)) ≡ meets_one p a d a.rows
elsewhere p a d name o ss table key bare has is first name_is args_are bare_is none meets =
    ap (λ b. b || meets_one p a d (rows_of (get same_ground table bare))) (sym meets)
    ∙ by_object p a d name o ss table key bare has is first name_is args_are bare_is none

pub ruleset meets = (by_predicate)

-- ---- filing

any_now : (p : Parts) (a : Action) (d : Row) (adds : List (Bor Row)) → list_any (λ (r : Bor Row). meet p a d r.now) adds ≡ list_any (meet p a d) (map (λ (r : Bor Row). r.now) adds)
any_now p a d [] = refl
any_now p a d (r ∷ adds) = ap (λ b. meet p a d r.now || b) (any_now p a d adds)

pub under_some : (p : Parts) (a : Action) (d : Row) (found : Option (List (Bor Row))) (adds : List (Bor Row)) → Some adds ≡ found
    → list_any (λ (r : Bor Row). meet p a d r.now) adds ≡ meets_one p a d (rows_of found)
under_some p a d found adds is = any_now p a d adds ∙ ap (λ x. meets_one p a d (rows_of x)) is

pub ruleset filed = (no_delete)
