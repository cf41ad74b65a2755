-- The entry at a key that may be undefined, found among the entries one by one.
use Rattle.std.proofs.Common.{◌≡◌, Bool, true, false, cond, List, ◌∷◌, Option, Some, None, option_and_then, refl, ap, sym, ◌∙◌}
use Rattle.std.specs.Ordering.{is_eq}
use Rattle.std.specs.Cmp.{Equal-is, tied_itself}
use Rattle.std.specs.Map.{lookup}
use Rattle.std.specs.FinMap as table
use Rattle.std.specs.BTreeMap as tree
use Rattle.up_tree.specs.State.{Ground, ground_cmp}
use Rattle.up_tree.proofs.States.{ground_total, ground_ties}
use Rattle.up_eval.proofs.Maps.{get-is}

module _ {X : Type 0} where
  abbrev pub found : List (Ground × X) → Option Ground → Option X
  found es key = option_and_then (λ g. lookup (tree.is_at (ground_cmp g)) es) key

  pub found-is : (m : table.FinMap ground_cmp X) (es : List (Ground × X)) (key : Option Ground) → table.from_entries es ≡ m
      → option_and_then (table.get m) key ≡ found es key
  found-is m es None is = refl
  found-is m es (Some g) is = ap (λ n. table.get n g) (sym is) ∙ get-is es g

  pub found_here : (es rest : List (Ground × X)) (k : Ground) (x : X) (key : Option Ground) → es ≡ (k, x) ∷ rest → key ≡ Some k → found es key ≡ Some x
  found_here es rest k x key split is =
      (λ i. found (split i) (is i)) ∙ ap (λ b. cond b (Some x) (lookup (tree.is_at (ground_cmp k)) rest)) ((Equal-is (ground_cmp k k)).1 (tied_itself ground_total k))

  behind : (rest : List (Ground × X)) (k : Ground) (x : X) (key : Option Ground) → ¬ (key ≡ Some k) → found ((k, x) ∷ rest) key ≡ found rest key
  behind rest k x None other = refl
  behind rest k x (Some g) other = by (is_eq (ground_cmp g k)) refl
    where
      by : (b : Bool) → is_eq (ground_cmp g k) ≡ b → cond b (Some x) (lookup (tree.is_at (ground_cmp g)) rest) ≡ lookup (tree.is_at (ground_cmp g)) rest
      by true is = absurd (other (ap Some (ground_ties g k ((Equal-is (ground_cmp g k)).0 is))))
      by false is = refl

  pub found_behind : (es rest : List (Ground × X)) (k : Ground) (x : X) (key : Option Ground) → es ≡ (k, x) ∷ rest → ¬ (key ≡ Some k) → found es key ≡ found rest key
  found_behind es rest k x key split other = ap (λ es. found es key) split ∙ behind rest k x key other
