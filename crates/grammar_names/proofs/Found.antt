-- What holds of all that may be read holds of what is read, and where nothing is at fault something is read.
use Rattle.std.proofs.Common.{◌≡◌, [], refl}
use Rattle.pddl_lex.specs.Parses.{Parse, parsed, rejected, faults}

-- what is read without fault
pub record IsRead {F A : Type 0} (v : Parse F A) : Type 0 where
  pub value : A
  pub is : v ≡ parsed value

pub faultless : {F A : Type 0} (v : Parse F A) → faults v ≡ [] → IsRead v
faultless (parsed a) none = record { value = a; is = refl }
faultless (rejected f fs) none = cc

pub no_fault : {F A : Type 0} (v : Parse F A) (a : A) → v ≡ parsed a → faults v ≡ []
no_fault v a e = rw e refl
