-- The type of a term where an object of some type is due.
use Rattle.std.specs.Prelude.{⊤, Option, Some, None, IsSomeAnd}
use Rattle.up_text.specs.declared.name.Name.{Name}
use Rattle.up_tree.specs.declared.problem.Parts.{Parts}
use Rattle.up_tree.specs.WellFormed.{IsBelow}

-- the type is at or below the one due, where one is due
abbrev pub IsDue : Parts → Option Name → Option Name → Type 0
IsDue p of None = ⊤
IsDue p of (Some due) = IsSomeAnd of (λ u. IsBelow p u due)
