-- What is written for a problem reads as it again.
use Rattle.roundtrip_shapes.specs.Formed.{ReadsProblem}
use Rattle.roundtrip_shapes.proofs.Reading.{problems_are_read}
use Rattle.roundtrip_texts.specs.Known.{known_of_parts}
use Rattle.roundtrip_texts.proofs.Domains.{domains_read_as}
use Rattle.roundtrip_texts.proofs.Problems.{problems_are_named}
use Rattle.pddl_parse.specs.Texts.{problem}
use Rattle.up_tree.specs.declared.problem.Parts.{Parts}
use Rattle.up_tree.specs.WellFormed.{IsWellFormed}
use Rattle.up_check.specs.Problems.{problem_names}
use Rattle.pddl_write.specs.Files.{domain_text, problem_text}
use Rattle.up_check.specs.Passes.{Reads, ReadsAs}

pub problems_read_as : (p : Parts) → IsWellFormed p → ReadsAs problem (problem_names (known_of_parts p)) (problem_text p) p
problems_read_as p well =
    let read : ReadsProblem p = problems_are_read p well in
    record { trees = read.trees; spelled = read.stands; form = read.form; shape = read.read; known = problems_are_named p well read.form read.is }

pub written_problems_read_back : (p : Parts) → IsWellFormed p → Reads (domain_text p) (problem_text p) p
written_problems_read_back p well = record { known = known_of_parts p; of_domain = domains_read_as p well; of_problem = problems_read_as p well }
