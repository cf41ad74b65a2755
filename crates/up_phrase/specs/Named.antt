-- Faults, and the name of the type above all others.
use Rattle.std.specs.Prelude.{ℕ, Bool, List, codes, Some, None, bytes_eq}
use Rattle.up_text.specs.declared.name.Name.{Name}
use Rattle.up_text.specs.declared.place.Place.{Place}
use Rattle.up_phrase.specs.declared.fault.Fault.{Fault}
use Rattle.up_phrase.specs.declared.fault.Fault.TheVariants.{At}
use Rattle.up_phrase.specs.declared.reason.Reason.{Reason}

abbrev pub object : List ℕ
object = codes "object"

abbrev pub is_object : List ℕ → Bool
is_object name = bytes_eq name object

-- a fault that names the name at fault
abbrev pub at : Place → Reason → Name → Fault
at place reason name = At place reason (Some name)

-- a fault of what has no name
abbrev pub bare : Place → Reason → Fault
bare place reason = At place reason None
