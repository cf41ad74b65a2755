-- Lists of features as sets.
use Rattle.std.proofs.Common.{◌≡◌, ℕ, ◌+◌, ◌<◌, true, false, List, [], length, take, get_or, refl}
use Rattle.std.proofs.lemmas.List.Folds.{list_any_more}
use Rattle.up_kind.specs.declared.feature.Feature.{Feature}
use Rattle.up_kind.specs.Features.{is_in, none, alone, either, same_feature}
use Rattle.up_kind.proofs.Sets.{sets}
use Rattle.up_compiler.specs.Table.{only_if}

pub only_if_true : (xs : List Feature) → only_if true xs ≡ is_in xs
unfolding only_if
only_if_true xs = refl

pub only_if_false : (xs : List Feature) → only_if false xs ≡ none
unfolding only_if none
only_if_false xs = refl

pub in_none : is_in [] ≡ none
unfolding is_in none
in_none = refl

pub in_more : (xs : List Feature) (i : ℕ) (d : Feature) → i < length xs → is_in (take (i + 1) xs) ≡ either (is_in (take i xs)) (alone (get_or xs i d))
unfolding is_in either alone
in_more xs i d below = λ k f. list_any_more (same_feature f) xs i d below k

pub ruleset lists = (only_if_true, only_if_false, in_none, in_more, sets)
