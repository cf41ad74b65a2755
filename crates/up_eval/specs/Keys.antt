-- The order of ground atoms and terms as keys.
use Rattle.std.specs.Prelude.{nat_eq, Some, refl}
use Rattle.std.specs.Ordering.{nat_cmp}
use Rattle.std.specs.Cmp.{IsPartialOrder, Agrees}
use Rattle.std.specs.Cmp.Lexicographic.{pointwise, slice_cmp, slice_partial_cmp, lists_po, lists_agrees, texts_po}
use Rattle.std.proofs.Common.{subst}

pub grounds_po : IsPartialOrder (pointwise (pointwise nat_eq)) (λ xs ys. Some (slice_cmp (slice_cmp nat_cmp) xs ys))
grounds_po =
    let a : Agrees (slice_partial_cmp (λ x y. Some (slice_cmp nat_cmp x y))) (slice_cmp (slice_cmp nat_cmp)) = lists_agrees (λ x y. refl) in
    subst (IsPartialOrder (pointwise (pointwise nat_eq))) (λ i xs ys. a xs ys i) (lists_po texts_po)
