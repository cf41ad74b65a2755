-- What is taken stays taken, also over the table.
use Rattle.std.proofs.Common.{◌≡◌, ℕ, Bool, true, false, not, ◌&&◌, ◌||◌, if◌then◌else◌, List, [], ◌∷◌, ◌++◌, Option, Some, cond, refl, sym, ap, ◌∙◌, subst, true≢false, None, bytes_eq, nat_eq}
use Rattle.std.specs.List.{list_any}
use Rattle.std.specs.Cmp.Lexicographic.{pointwise, bytes_decides}
use Rattle.std.proofs.lemmas.List.Folds.{list_any-append}
use Rattle.indexmap.specs.IndexMap.{IndexMap, get, Updates}
use Rattle.up_text.specs.Names.{is_reserved}
use Rattle.up_text.specs.Fresh.{is_among, is_free, candidate, with_name, AreTaken}

none_more : (reserved among last : Bool) → (not reserved && not among) ≡ false → (not reserved && not (among || last)) ≡ false
none_more true among last e = refl
none_more false true last e = refl
none_more false false last e = absurd (true≢false e)

-- a name more frees no name
stays : (names : List (List ℕ)) (name other : List ℕ) → is_free names other ≡ false → is_free (with_name names name) other ≡ false
stays names name other h =
    elim (is_among names name) as (λ t. is_free (if t then names else names ++ name ∷ []) other ≡ false) [
      | true ↦ h
      | false ↦ ap (λ t. not (is_reserved other) && not t) (list_any-append (bytes_eq other) names (name ∷ [])) ∙
          none_more (is_reserved other) (is_among names other) (list_any (bytes_eq other) (name ∷ [])) h
    ]

pub taken_with : (base name : List ℕ) (names : List (List ℕ)) (n : ℕ) → AreTaken base names n → AreTaken base (with_name names name) n
taken_with base name names n taken k lt = stays names name (candidate base k) (taken k lt)

value : ℕ → Option ℕ → ℕ
value other (Some n) = n
value other None = other

some_same : (m n : ℕ) → Some m ≡ Some n → m ≡ n
unfolding value
some_same m n e = ap (value 0) e

-- the numbers of the table after one is noted for a base
pub taken_noted : {S : Type 0} (old new : IndexMap (List ℕ) ℕ S) (key : List ℕ) (number : ℕ) (names : List (List ℕ)) →
    Updates (pointwise nat_eq) old new key (Some number) → AreTaken key names number →
    ((base : List ℕ) (n : ℕ) → get (pointwise nat_eq) old base ≡ Some n → AreTaken base names n) →
    (base : List ℕ) (n : ℕ) → get (pointwise nat_eq) new base ≡ Some n → AreTaken base names n
taken_noted old new key number names updates here others base n is =
    elim (pointwise nat_eq key base) as (λ t. pointwise nat_eq key base ≡ t → cond t (Some number) (get (pointwise nat_eq) old base) ≡ Some n → AreTaken base names n) [
      | true ↦ λ e is. subst (λ b. AreTaken b names n) ((bytes_decides key base).0 e) (subst (λ m. AreTaken key names m) (some_same number n is) here)
      | false ↦ λ e is. others base n is
    ] refl (sym (updates.0 base) ∙ is)
