-- What a set of names that makes fresh ones keeps, over each of its steps.
use Rattle.std.proofs.Common.{◌≡◌, ℕ, List, Some, sym, ap, ◌∙◌, subst, nat_eq}
use Rattle.std.specs.Prelude.{Result, Ok, Err, OnOk, OnErr}
use Rattle.std.specs.Cmp.Lexicographic.{pointwise}
use Rattle.std.specs.Map.{lookup}
use Rattle.indexmap.specs.IndexMap.{IndexMap, Updates, IsUnchanged}
use Rattle.up_text.specs.Fresh.{AreTaken, with_name}
use Rattle.up_fresh.specs.Going.{IsGoing}
use Rattle.up_fresh.proofs.Taking.{taken_with, taken_noted}

module _ {S : Type 0} where
  pub more_names : (names : List (List ℕ)) (name : List ℕ) (last : IndexMap (List ℕ) ℕ S) → IsGoing names last →
      IsGoing (with_name names name) last
  more_names names name last going = record { taken = λ base n is. taken_with base name names n (going.taken base n is) }

  -- after a name was added, or none for want of memory
  pub after_add : {A E : Type 0} (result : Result A E) (old new : List (List ℕ)) (name : List ℕ) (last : IndexMap (List ℕ) ℕ S) → IsGoing old last →
      OnOk result (new ≡ with_name old name) → OnErr result (new ≡ old) → IsGoing new last
  after_add (Ok a) old new name last going ok err = subst (λ names. IsGoing names last) (sym ok) (more_names old name last going)
  after_add (Err e) old new name last going ok err = subst (λ names. IsGoing names last) (sym err) going

  pub same_last : (names : List (List ℕ)) (last new : IndexMap (List ℕ) ℕ S) → IsGoing names last → IsUnchanged last new →
      IsGoing names new
  same_last names last new going same = record {
    taken = λ base n is. going.taken base n (ap (λ es. lookup (pointwise nat_eq base) es) (sym same) ∙ is);
  }

  pub noted : (names : List (List ℕ)) (last new : IndexMap (List ℕ) ℕ S) (key : List ℕ) (number : ℕ) → IsGoing names last →
      Updates (pointwise nat_eq) last new key (Some number) → AreTaken key names number → IsGoing names new
  noted names last new key number going updates taken = record {
    taken = taken_noted last new key number names updates taken going.taken;
  }
