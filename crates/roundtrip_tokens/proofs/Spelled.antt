-- Tokens of the written kinds spell the written texts.
use Rattle.roundtrip_tokens.proofs.Placeless.{spelled}
use Rattle.roundtrip_tokens.proofs.Lexes.{whole}
use Rattle.roundtrip_tokens.proofs.Domains.{domain_lexes}
use Rattle.roundtrip_tokens.proofs.Problems.{problem_lexes}
use Rattle.roundtrip_tokens.specs.Spelled.{SpelledByKinds}
use Rattle.pddl_write.specs.Files.{domain_text, problem_text}
use Rattle.up_tree.specs.WellFormed.{IsWellFormed}
use Rattle.roundtrip_tokens.specs.FileTokens.{domain_tokens, problem_tokens}
use Rattle.up_tree.specs.declared.problem.Parts.{Parts}

pub domains_are_spelled : (p : Parts) → IsWellFormed p → SpelledByKinds (domain_text p) (domain_tokens p)
domains_are_spelled p well = spelled _ _ (whole (domain_lexes p well))

pub problems_are_spelled : (p : Parts) → IsWellFormed p → SpelledByKinds (problem_text p) (problem_tokens p)
problems_are_spelled p well = spelled _ _ (whole (problem_lexes p well))
