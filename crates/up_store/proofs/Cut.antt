-- What a planned write leaves, over equal plans, texts and bytes.
use Rattle.std.proofs.Common.{◌≡◌, ℕ, List, Option, None, Some, IfSome, ap, min, length, IsErrOf, Result}
use Rattle.up_store.specs.declared.memory_store.Failing.{Failing}
use Rattle.up_store.specs.declared.store.WriteFail.{WriteFail}
use Rattle.up_store.specs.declared.store.WriteFail.TheVariants.{Failed}
use Rattle.up_store.specs.Outside.{Files, KeepsOrCuts, keeps, cuts}
use Rattle.up_store.specs.Memory.{cut_text, cut_texts}

pub cut_moved : (name bytes text : List ℕ) (mid old new : Files) → mid ≡ old → bytes ≡ text
    → KeepsOrCuts name bytes (Some mid) (Some new) → KeepsOrCuts name text (Some old) (Some new)
cut_moved name bytes text mid old new same spelled cut = rw (← same) (rw (← spelled) cut)

pub cut_at_moved : {X : Type 0} (name bytes text : List ℕ) (plan next : Option Failing) (mid old new : Files) (result : Result X WriteFail)
    → plan ≡ next → mid ≡ old → bytes ≡ text
    → IfSome plan (λ p. IsErrOf result Failed → new ≡ cut_texts p name bytes mid)
    → IfSome next (λ p. IsErrOf result Failed → new ≡ cut_texts p name text old)
cut_at_moved name bytes text plan next mid old new result planned same spelled cut = rw (← planned) (rw (← same) (rw (← spelled) cut))

cut_by : (kept : Option ℕ) (name bytes : List ℕ) (old new : Files) → new ≡ cut_text kept name bytes old
    → KeepsOrCuts name bytes (Some old) (Some new)
cut_by None name bytes old new same = keeps (ap Some same)
cut_by (Some kept) name bytes old new same = cuts (min kept (length bytes)) (ap Some same)

pub cut_as_planned : (plan : Failing) (name bytes : List ℕ) (mid old new : Files) → mid ≡ old → new ≡ cut_texts plan name bytes mid
    → KeepsOrCuts name bytes (Some old) (Some new)
cut_as_planned plan name bytes mid old new same cut = rw (← same) (cut_by plan.kept name bytes mid new cut)
