-- Rows are filed one after the other.
use Rattle.std.proofs.Common.{◌≡◌, ℕ, ◌+◌, Bool, true, false, ◌||◌, ◌&&◌, List, [], ◌∷◌, ◌++◌, filter, map, length, take, get_or, Option, Some, None, refl, ap, subst, sym, ◌∙◌, arith, cond}
use Rattle.std.specs.Prelude.{◌<◌}
use Rattle.std.specs.Borrow.{Bor}
use Rattle.std.specs.Cmp.Lexicographic.{pointwise}
use Rattle.std.proofs.lemmas.Bool.{false≢true, and_parts}
use Rattle.std.proofs.lemmas.List.{take_more}
use Rattle.indexmap.specs.IndexMap.{IndexMap, get}
use Rattle.up_text.specs.declared.name.Name.{Name}
use Rattle.up_text.specs.Names.{same_name}
use Rattle.up_tree.specs.declared.term.Term.{Term}
use Rattle.up_tree.specs.declared.expr.Expr.{Expr}
use Rattle.up_tree.specs.declared.action.Change.{Change}
use Rattle.up_tree.specs.declared.action.Row.{Row}
use Rattle.up_tree.specs.declared.action.Effect.{Effect}
use Rattle.up_tree.specs.declared.action.Effect.TheVariants.{Add, Delete}
use Rattle.up_tree.specs.declared.action.Effect.TheVariants as effect
use Rattle.up_kind.specs.declared.ground.Ground.{Ground}
use Rattle.up_kind.specs.Keys.{same_ground}
use Rattle.up_kind.specs.Rows.{filed_by, adds_under, rows_of, HasAdds, Removes, AddsRow, Files}
use Rattle.up_kind.proofs.Below.{is_same, same_is}

turned : (a b : Name) → same_name a b ≡ same_name b a
turned a b = by (same_name a b) refl (same_name b a) refl
  where
    by : (x : Bool) → same_name a b ≡ x → (y : Bool) → same_name b a ≡ y → x ≡ y
    by true on true out = refl
    by false on false out = refl
    by true on false out = absurd (false≢true (sym out ∙ subst (λ u. same_name u a ≡ true) (same_is a b on) (is_same a)))
    by false on true out = absurd (false≢true (sym on ∙ subst (λ u. same_name u b ≡ true) (same_is b a out) (is_same b)))

turned_all : (xs ys : List Name) → pointwise same_name xs ys ≡ pointwise same_name ys xs
turned_all [] [] = refl
turned_all [] (y ∷ ys) = refl
turned_all (x ∷ xs) [] = refl
turned_all (x ∷ xs) (y ∷ ys) = λ i. turned x y i && turned_all xs ys i

all_same : (xs ys : List Name) → pointwise same_name xs ys ≡ true → xs ≡ ys
all_same [] [] is = refl
all_same [] (y ∷ ys) is = absurd (false≢true is)
all_same (x ∷ xs) [] is = absurd (false≢true is)
all_same (x ∷ xs) (y ∷ ys) is =
    let parts = and_parts (same_name x y) (pointwise same_name xs ys) is in λ i. same_is x y parts.0 i ∷ all_same xs ys parts.1 i

-- ---- one key

pub removes : {S : Type 0} (old new : IndexMap Ground (List (Bor Row)) S) (key : Ground)
    → ((q : Ground) → get same_ground new q ≡ cond (same_ground key q) None (get same_ground old q)) → Removes old new key
removes old new key each = record { each = each }

pub ruleset removing = (removes)

now_push : (rows : List (Bor Row)) (r : Bor Row) → map (λ (r : Bor Row). r.now) (rows ++ r ∷ []) ≡ map (λ (r : Bor Row). r.now) rows ++ r.now ∷ []
now_push [] r = refl
now_push (x ∷ rows) r = ap (λ more. x.now ∷ more) (now_push rows r)

pub adds_row : {S : Type 0} (old between new : IndexMap Ground (List (Bor Row)) S) (key : Ground) (row : Bor Row) (taken rows : List (Bor Row))
    → map (λ (r : Bor Row). r.now) taken ≡ rows_of (get same_ground old key) → Removes old between key → rows ≡ taken ++ row ∷ []
    → ((q : Ground) → get same_ground new q ≡ cond (same_ground key q) (Some rows) (get same_ground between q)) → AddsRow old new key row.now
adds_row old between new key row taken rows are removed pushed updated = record {
  each = λ q. ap rows_of (updated q) ∙ by (same_ground key q) (get same_ground between q) (get same_ground old q) (removed.each q);
}
  where
    by : (b : Bool) (x y : Option (List (Bor Row))) → x ≡ cond b None y
        → rows_of (cond b (Some rows) x) ≡ cond b (rows_of (get same_ground old key) ++ row.now ∷ []) (rows_of y)
    by true x y is = ap (map (λ (r : Bor Row). r.now)) pushed ∙ now_push taken row ∙ ap (λ more. more ++ row.now ∷ []) are
    by false x y is = ap rows_of is

-- ---- all rows

filter_push : (q : Row → Bool) (rows : List Row) (r : Row) → filter q (rows ++ r ∷ []) ≡ cond (q r) (filter q rows ++ r ∷ []) (filter q rows)
filter_push q [] r = by (q r)
  where
    by : (b : Bool) → cond b (r ∷ []) [] ≡ cond b (r ∷ []) []
    by b = refl
filter_push q (x ∷ rows) r = by (q x) (q r) (filter_push q rows r)
  where
    by : (a b : Bool) → filter q (rows ++ r ∷ []) ≡ cond b (filter q rows ++ r ∷ []) (filter q rows)
        → cond a (x ∷ filter q (rows ++ r ∷ [])) (filter q (rows ++ r ∷ [])) ≡ cond b (cond a (x ∷ filter q rows) (filter q rows) ++ r ∷ []) (cond a (x ∷ filter q rows) (filter q rows))
    by true true behind = ap (λ more. x ∷ more) behind
    by true false behind = ap (λ more. x ∷ more) behind
    by false true behind = behind
    by false false behind = behind

pub files_add : {S : Type 0} (split : Bool) (old new : IndexMap Ground (List (Bor Row)) S) (key : Ground) (row : Row) (name : Name) (ts : List Term)
    → row.effect ≡ Add name ts → key.name ≡ name → key.args.items ≡ filed_by split ts → AddsRow old new key row → Files split old new row
files_add split old new key row name ts is name_is args_are adds = record {
  each = λ rows has. record {
    each = λ q.
        adds.each q ∙ by rows has q (same_ground key q) refl
        ∙ sym (filter_push (under q) rows row);
  };
}
  where
    under : Ground → Row → Bool
    under q r = adds_under split q.name q.args.items r.effect

    tests : (q : Ground) → under q row ≡ same_ground key q
    tests q =
        ap (λ e. adds_under split q.name q.args.items e) is
        ∙ (λ i. turned q.name name i && turned_all q.args.items (filed_by split ts) i)
        ∙ (λ i. same_name (sym name_is i) q.name && pointwise same_name (sym args_are i) q.args.items)

    same_under : (q : Ground) → same_ground key q ≡ true → (rows : List Row) → filter (under key) rows ≡ filter (under q) rows
    same_under q same rows =
        let parts = and_parts (same_name key.name q.name) (pointwise same_name key.args.items q.args.items) same in
        λ i. filter (λ (r : Row). adds_under split (same_is key.name q.name parts.0 i) (all_same key.args.items q.args.items parts.1 i) r.effect) rows

    by : (rows : List Row) → HasAdds split old rows → (q : Ground) → (b : Bool) → same_ground key q ≡ b
        → cond b (rows_of (get same_ground old key) ++ row ∷ []) (rows_of (get same_ground old q)) ≡ cond (under q row) (filter (under q) rows ++ row ∷ []) (filter (under q) rows)
    by rows has q true same =
        ap (λ more. more ++ row ∷ []) (has.each key ∙ same_under q same rows)
        ∙ ap (λ b. cond b (filter (under q) rows ++ row ∷ []) (filter (under q) rows)) (sym (tests q ∙ same))
    by rows has q false other =
        has.each q ∙ ap (λ b. cond b (filter (under q) rows ++ row ∷ []) (filter (under q) rows)) (sym (tests q ∙ other))

files_none : {S : Type 0} (split : Bool) (table : IndexMap Ground (List (Bor Row)) S) (row : Row)
    → ((name : Name) (objects : List Name) → adds_under split name objects row.effect ≡ false) → Files split table table row
files_none split table row none = record {
  each = λ rows has. record {
    each = λ q. has.each q ∙ sym (filter_push (λ (r : Row). adds_under split q.name q.args.items r.effect) rows row
        ∙ ap (λ b. cond b (filter (λ (r : Row). adds_under split q.name q.args.items r.effect) rows ++ row ∷ []) (filter (λ (r : Row). adds_under split q.name q.args.items r.effect) rows))
        (none q.name q.args.items));
  };
}

pub files_delete : {S : Type 0} (split : Bool) (table : IndexMap Ground (List (Bor Row)) S) (row : Row) (name : Name) (ts : List Term) → row.effect ≡ Delete name ts
    → Files split table table row
files_delete split table row name ts is = files_none split table row (λ n os. ap (adds_under split n os) is)

pub files_number : {S : Type 0} (split : Bool) (table : IndexMap Ground (List (Bor Row)) S) (row : Row) (change : Change) (f : Name) (ts : List Term) (x : Expr)
    → row.effect ≡ effect.Number change f ts x → Files split table table row
files_number split table row change f ts x is = files_none split table row (λ n os. ap (adds_under split n os) is)

pub files_object : {S : Type 0} (split : Bool) (table : IndexMap Ground (List (Bor Row)) S) (row : Row) (f : Name) (ts : List Term) (t : Term)
    → row.effect ≡ effect.Object f ts t → Files split table table row
files_object split table row f ts t is = files_none split table row (λ n os. ap (adds_under split n os) is)

pub files_undefine : {S : Type 0} (split : Bool) (table : IndexMap Ground (List (Bor Row)) S) (row : Row) (f : Name) (ts : List Term)
    → row.effect ≡ effect.Undefine f ts → Files split table table row
files_undefine split table row f ts is = files_none split table row (λ n os. ap (adds_under split n os) is)

pub adds_none : {S : Type 0} (split : Bool) (table : IndexMap Ground (List (Bor Row)) S) (rows : List Row) → ((q : Ground) → get same_ground table q ≡ None)
    → HasAdds split table (take 0 rows)
adds_none split table rows none = record { each = λ q. ap rows_of (none q) }

pub adds_more : {S : Type 0} (split : Bool) (old new : IndexMap Ground (List (Bor Row)) S) (rows : List Row) (i : ℕ) (r : Row) → i < length rows → r ≡ get_or rows i r
    → HasAdds split old (take i rows) → Files split old new r → HasAdds split new (take (i + 1) rows)
adds_more split old new rows i r below is has files =
    subst (λ row. HasAdds split new row) (sym (take_more rows i r below ∙ ap (λ x. take i rows ++ x ∷ []) (sym is))) (files.each (take i rows) has)

pub ruleset filing = (files_add, files_delete, files_number, files_object, files_undefine, adds_none)
