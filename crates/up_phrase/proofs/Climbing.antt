-- A type's chain of parents, a step at a time.
use Rattle.std.proofs.Common.{◌≡◌, ℕ, zero, suc, ◌-◌, ◌<◌, true, false, Some, None, refl, arith}
use Rattle.up_text.specs.declared.name.Name.{Name}
use Rattle.up_text.specs.Names.{same_name}
use Rattle.up_phrase.specs.Declarations.{Declarations}
use Rattle.up_phrase.specs.Lookups.{parent_of, climbs}

pub climbs_here : (names : Declarations) (due here : Name) (left : ℕ) → same_name here due ≡ true → climbs names due left here ≡ true
climbs_here names due here zero e = e
climbs_here names due here (suc n) e = rw e refl

pub climbs_last : (names : Declarations) (due here : Name) (left : ℕ) → ¬ (0 < left) → climbs names due left here ≡ same_name here due
climbs_last names due here zero done = refl
climbs_last names due here (suc n) done = absurd (done (omega arith))

pub climbs_off : (names : Declarations) (due here : Name) (left : ℕ) → same_name here due ≡ false → parent_of names here ≡ None → climbs names due left here ≡ false
climbs_off names due here zero e none = e
climbs_off names due here (suc n) e none = rw (e, none) refl

pub climbs_on : (names : Declarations) (due here parent : Name) (left : ℕ) → 0 < left → same_name here due ≡ false → parent_of names here ≡ Some parent
    → climbs names due left here ≡ climbs names due (left - 1) parent
climbs_on names due here parent zero some e is = absurd (omega arith)
climbs_on names due here parent (suc n) some e is = let less : suc n - 1 ≡ n = omega arith in rw (less, e, is) refl

pub ruleset climbing = (climbs_here, climbs_last, climbs_off, climbs_on)
