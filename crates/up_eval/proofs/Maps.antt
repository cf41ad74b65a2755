-- Sets and maps of ground atoms and terms, read in the ordered collections that hold them.
use Rattle.std.proofs.Common.{◌≡◌, ℕ, zero, suc, ◌+◌, ◌<◌, ◌≤◌, arith, Bool, true, false, cond, not, ◌&&◌, ◌||◌, List, [], ◌∷◌, ◌++◌, drop, get_or, length, Option, Some, None, refl, ap, sym, ◌∙◌}
use Rattle.std.specs.Ordering.{eq_by_cmp, is_eq}
use Rattle.std.specs.List.{list_any}
use Rattle.std.specs.Cmp.{eq_by_cmp_equiv}
use Rattle.std.specs.Map.{lookup}
use Rattle.std.specs.FinSet as set
use Rattle.std.specs.FinMap as table
use Rattle.std.specs.BTreeMap as map_tree
use Rattle.std.specs.BTreeSet as set_tree
use Rattle.up_frac.specs.Fraction.{Fraction}
use Rattle.up_text.specs.declared.name.Name.{Name}
use Rattle.up_tree.specs.State.{Ground, ground_cmp}
use Rattle.up_tree.specs.Changes.{put}
use Rattle.up_tree.proofs.States.{ground_total, ground_ties}
use Rattle.up_eval.specs.declared.changes.ObjectChange.{ObjectChange}
use Rattle.up_eval.specs.declared.gathering.NewNumber.{NewNumber}
use Rattle.up_eval.specs.Gathering.{put_numbers, put_objects}
use Rattle.up_eval.proofs.Scopes.{drop_next}

turn : (q k : Ground) → eq_by_cmp ground_cmp q k ≡ eq_by_cmp ground_cmp k q
turn q k = (eq_by_cmp_equiv ground_total).symm q k

module _ {X : Type 0} where
  find-is : (es : List (Ground × X)) (q : Ground) → table.find ground_cmp q es ≡ lookup (map_tree.is_at (ground_cmp q)) es
  find-is [] q = refl
  find-is (e ∷ es) q = ap (cond (is_eq (ground_cmp q e.0)) (Some e.1)) (find-is es q)

  pub get-is : (es : List (Ground × X)) (q : Ground) → table.get (table.from_entries {R = ground_cmp} es) q ≡ lookup (map_tree.is_at (ground_cmp q)) es
  get-is es q = table.get-from_entries ground_total es q ∙ find-is es q

  pub insert-is : (es fs : List (Ground × X)) (k : Ground) (v : X)
      → ((q : Ground) → lookup (map_tree.is_at (ground_cmp q)) fs ≡ cond (map_tree.is_at (ground_cmp k) q) (Some v) (lookup (map_tree.is_at (ground_cmp q)) es))
      → table.from_entries {R = ground_cmp} fs ≡ table.insert (table.from_entries es) k v
  insert-is es fs k v h =
      table.same_map ground_total ground_ties _ _ (λ q. get-is fs q ∙ h q
      ∙ sym (table.get-insert ground_total (table.from_entries es) k v q ∙ (λ i. cond (turn q k i) (Some v) (get-is es q i))))

  pub remove-is : (es fs : List (Ground × X)) (k : Ground)
      → ((q : Ground) → lookup (map_tree.is_at (ground_cmp q)) fs ≡ cond (map_tree.is_at (ground_cmp k) q) None (lookup (map_tree.is_at (ground_cmp q)) es))
      → table.from_entries {R = ground_cmp} fs ≡ table.remove (table.from_entries es) k
  remove-is es fs k h =
      table.same_map ground_total ground_ties _ _ (λ q. get-is fs q ∙ h q
      ∙ sym (table.get-remove ground_total (table.from_entries es) k q ∙ (λ i. cond (turn q k i) None (get-is es q i))))

pub contains-is : (ks : List Ground) (q : Ground) → set.contains (set.from_list {R = ground_cmp} ks) q ≡ list_any (map_tree.is_at (ground_cmp q)) ks
contains-is ks q = set.contains-from_list ground_total ks q

cond_or : (b x : Bool) → cond b true x ≡ (b || x)
cond_or true x = refl
cond_or false x = refl

pub add-is : (m n : set_tree.BTreeSet Ground) (k : Ground) → set_tree.Updates ground_cmp m n k true
    → set.from_list {R = ground_cmp} n.keys ≡ set.insert (set.from_list m.keys) k
add-is m n k h =
    set.same_set ground_total ground_ties _ _ (λ q. contains-is n.keys q ∙ h.0 q ∙ cond_or (map_tree.is_at (ground_cmp k) q) _
    ∙ sym (set.contains-insert ground_total (set.from_list m.keys) k q ∙ (λ i. turn q k i || contains-is m.keys q i)))

cond_and : (b x : Bool) → cond b false x ≡ (not b && x)
cond_and true x = refl
cond_and false x = refl

pub take-is : (m n : set_tree.BTreeSet Ground) (k : Ground) → set_tree.Updates ground_cmp m n k false
    → set.from_list {R = ground_cmp} n.keys ≡ set.remove (set.from_list m.keys) k
take-is m n k h =
    set.same_set ground_total ground_ties _ _ (λ q. contains-is n.keys q ∙ h.0 q ∙ cond_and (map_tree.is_at (ground_cmp k) q) _
    ∙ sym (set.contains-remove ground_total (set.from_list m.keys) k q ∙ (λ i. not (turn q k i) && contains-is m.keys q i)))

drop_all : {X : Type 0} (i : ℕ) (xs : List X) → length xs ≤ i → drop i xs ≡ []
drop_all zero [] all = refl
drop_all (suc i) [] all = refl
drop_all zero (x ∷ xs) all = absurd (omega arith)
drop_all (suc i) (x ∷ xs) all = drop_all i xs (omega arith)

-- ---- several atoms taken out or put in

module _ (s : set.FinSet ground_cmp) where
  pub difference_none : set.difference s (set.from_list []) ≡ s
  difference_none =
      set.same_set ground_total ground_ties _ _ (λ q. set.contains-difference ground_total s (set.from_list []) q
      ∙ ap (λ b. set.contains s q && not b) (set.contains-from_list ground_total [] q) ∙ by (set.contains s q))
    where
      by : (b : Bool) → (b && true) ≡ b
      by true = refl
      by false = refl

  pub union_none : set.union s (set.from_list []) ≡ s
  union_none =
      set.same_set ground_total ground_ties _ _ (λ q. set.contains-union ground_total s (set.from_list []) q
      ∙ ap (λ b. set.contains s q || b) (set.contains-from_list ground_total [] q) ∙ by (set.contains s q))
    where
      by : (b : Bool) → (b || false) ≡ b
      by true = refl
      by false = refl

  module _ (k : Ground) (ks : List Ground) where
    pub difference_more : set.difference s (set.from_list (k ∷ ks)) ≡ set.difference (set.remove s k) (set.from_list ks)
    difference_more =
        set.same_set ground_total ground_ties _ _ (λ q. set.contains-difference ground_total s (set.from_list (k ∷ ks)) q
        ∙ ap (λ b. set.contains s q && not b) (set.contains-from_list ground_total (k ∷ ks) q)
        ∙ by (set.contains s q) (eq_by_cmp ground_cmp q k) (list_any (eq_by_cmp ground_cmp q) ks)
        ∙ sym (set.contains-difference ground_total (set.remove s k) (set.from_list ks) q
        ∙ (λ i. set.contains-remove ground_total s k q i && not (set.contains-from_list ground_total ks q i))))
      where
        by : (a b c : Bool) → (a && not (b || c)) ≡ ((not b && a) && not c)
        by true true c = refl
        by true false c = refl
        by false true c = refl
        by false false c = refl

    -- put in last, or first
    pub union_last : set.union s (set.from_list (ks ++ k ∷ [])) ≡ set.union (set.insert s k) (set.from_list ks)
    union_last =
        set.same_set ground_total ground_ties _ _ (λ q. set.contains-union ground_total s (set.from_list (ks ++ k ∷ [])) q
        ∙ ap (λ b. set.contains s q || b) (set.contains-from_list ground_total (ks ++ k ∷ []) q ∙ any_push (eq_by_cmp ground_cmp q) ks)
        ∙ by (set.contains s q) (eq_by_cmp ground_cmp q k) (list_any (eq_by_cmp ground_cmp q) ks)
        ∙ sym (set.contains-union ground_total (set.insert s k) (set.from_list ks) q
        ∙ (λ i. set.contains-insert ground_total s k q i || set.contains-from_list ground_total ks q i)))
      where
        by : (a b c : Bool) → (a || (b || c)) ≡ ((b || a) || c)
        by true true c = refl
        by true false c = refl
        by false true c = refl
        by false false c = refl

        swap : (a b c : Bool) → (a || (b || c)) ≡ (b || (a || c))
        swap true true c = refl
        swap true false c = refl
        swap false b c = refl

        any_push : (p : Ground → Bool) (xs : List Ground) → list_any p (xs ++ k ∷ []) ≡ (p k || list_any p xs)
        any_push p [] = refl
        any_push p (x ∷ xs) = ap (λ b. p x || b) (any_push p xs) ∙ swap (p x) (p k) (list_any p xs)

pub ruleset collections = (get-is, insert-is, contains-is, add-is)

module _ (s t : set.FinSet ground_cmp) (atom : Ground) where
  pub without_next : (atoms : List Ground) (i : ℕ) → i < length atoms → atom ≡ get_or atoms i atom → t ≡ set.remove s atom
      → set.difference s (set.from_list (drop i atoms)) ≡ set.difference t (set.from_list (drop (i + 1) atoms))
  without_next atoms i within at is =
      ap (λ ks. set.difference s (set.from_list ks)) (drop_next atoms i atom within at) ∙ difference_more s atom (drop (i + 1) atoms)
      ∙ ap (λ u. set.difference u (set.from_list (drop (i + 1) atoms))) (sym is)

  pub with_next : (left before : List Ground) → left ≡ before ++ atom ∷ [] → t ≡ set.insert s atom → set.union s (set.from_list left) ≡ set.union t (set.from_list before)
  with_next left before split is =
      ap (λ ks. set.union s (set.from_list ks)) split ∙ union_last s atom before ∙ ap (λ u. set.union u (set.from_list before)) (sym is)

pub without_end : (s : set.FinSet ground_cmp) (atoms : List Ground) (i : ℕ) → length atoms ≤ i → set.difference s (set.from_list (drop i atoms)) ≡ s
without_end s atoms i all = ap (λ ks. set.difference s (set.from_list ks)) (drop_all i atoms all) ∙ difference_none s

pub with_end : (s : set.FinSet ground_cmp) (left : List Ground) → left ≡ [] → set.union s (set.from_list left) ≡ s
with_end s left is = ap (λ ks. set.union s (set.from_list ks)) is ∙ union_none s

-- ---- new values put in, in turn

pub numbers_next : (m n : table.FinMap ground_cmp Fraction) (news : List NewNumber) (i : ℕ) (new : NewNumber) (k : Ground) → i < length news → new ≡ get_or news i new → k ≡ new.target
    → n ≡ put m k new.value → put_numbers m (drop i news) ≡ put_numbers n (drop (i + 1) news)
numbers_next m n news i new k within at key is =
    ap (put_numbers m) (drop_next news i new within at) ∙ ap (λ q. put_numbers (put m q new.value) (drop (i + 1) news)) (sym key) ∙ ap (λ u. put_numbers u (drop (i + 1) news)) (sym is)

pub objects_next : (m n : table.FinMap ground_cmp Name) (changes : List ObjectChange) (i : ℕ) (c : ObjectChange) (k : Ground) (v : Option Name) → i < length changes → c ≡ get_or changes i c
    → k ≡ c.target → v ≡ c.value → n ≡ put m k v → put_objects m (drop i changes) ≡ put_objects n (drop (i + 1) changes)
objects_next m n changes i c k v within at key value is =
    ap (put_objects m) (drop_next changes i c within at) ∙ (λ j. put_objects (put m (sym key j) (sym value j)) (drop (i + 1) changes)) ∙ ap (λ u. put_objects u (drop (i + 1) changes)) (sym is)

pub ruleset puts = (without_next, without_end, with_next, with_end, numbers_next, objects_next)
