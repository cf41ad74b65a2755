-- What is known of a problem's domain.
use Rattle.std.specs.Prelude.{[]}
use Rattle.up_tree.specs.declared.problem.Parts.{Parts}
use Rattle.up_check.specs.Domains.{Known}
use Rattle.roundtrip_names.specs.Declared.{domain_declarations}

-- what the domain of a problem declares, and its actions; the constraints are the problem's
abbrev pub known_of_parts : Parts → Known
known_of_parts p = record { name = p.domain; declarations = domain_declarations p; actions = p.actions; constraints = [] }
