-- One entry of a table after terms were set.
use Rattle.std.proofs.Common.{◌≡◌, Bool, true, false, cond, List, [], ◌∷◌, fold, Option, Some, None, refl, sym, ◌∙◌, subst}
use Rattle.std.specs.Cmp.{Equal-is}
use Rattle.std.specs.FinMap as table
use Rattle.up_text.specs.Lists.{Every}
use Rattle.up_tree.specs.State.{Ground, ground_cmp}
use Rattle.up_tree.specs.Changes.{is_at, put}
use Rattle.up_tree.proofs.States.{ground_total, ground_ties}

pub tied : (q k : Ground) → is_at q k ≡ true → q ≡ k
tied q k e = ground_ties q k ((Equal-is (ground_cmp q k)).0 e)

get-put : {X : Type 0} (m : table.FinMap ground_cmp X) (k : Ground) (v : Option X) (q : Ground) →
    table.get (put m k v) q ≡ cond (is_at q k) v (table.get m q)
get-put m k (Some v) q = table.get-insert ground_total m k v q
get-put m k None q = table.get-remove ground_total m k q

-- two tables that agree there still do, where the same terms were set in both
module _ {C X : Type 0} (key : C → Ground) (u v : Ground → Option X) (q : Ground) (here : u q ≡ v q) where
  one_put : (m n : table.FinMap ground_cmp X) (k : Ground) → table.get m q ≡ table.get n q → table.get (put m k (u k)) q ≡ table.get (put n k (v k)) q
  one_put m n k e = get-put m k (u k) q ∙ by (is_at q k) refl ∙ sym (get-put n k (v k) q)
    where
      by : (b : Bool) → is_at q k ≡ b → cond b (u k) (table.get m q) ≡ cond b (v k) (table.get n q)
      by true at = subst (λ k. u k ≡ v k) (tied q k at) here
      by false at = e

  pub all_put : (cs : List C) (m n : table.FinMap ground_cmp X) → table.get m q ≡ table.get n q →
      table.get (fold (λ m c. put m (key c) (u (key c))) m cs) q ≡ table.get (fold (λ m c. put m (key c) (v (key c))) n cs) q
  all_put [] m n e = e
  all_put (c ∷ cs) m n e = all_put cs (put m (key c) (u (key c))) (put n (key c) (v (key c))) (one_put m n (key c) e)

-- an entry at which nothing was set
module _ {C X : Type 0} (key : C → Ground) (u : Ground → Option X) (q : Ground) where
  elsewhere : (m : table.FinMap ground_cmp X) (k : Ground) (v : Option X) → ¬ (q ≡ k) → table.get (put m k v) q ≡ table.get m q
  elsewhere m k v n = get-put m k v q ∙ by (is_at q k) refl
    where
      by : (b : Bool) → is_at q k ≡ b → cond b v (table.get m q) ≡ table.get m q
      by true at = absurd (n (tied q k at))
      by false at = refl

  pub none_put : (cs : List C) (m : table.FinMap ground_cmp X) → Every (λ c. ¬ (q ≡ key c)) cs →
      table.get (fold (λ m c. put m (key c) (u (key c))) m cs) q ≡ table.get m q
  none_put [] m each = refl
  none_put (c ∷ cs) m each = none_put cs (put m (key c) (u (key c))) each.1 ∙ elsewhere m (key c) (u (key c)) each.0
