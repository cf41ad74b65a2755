-- What is written is read again.
use Rattle.std.specs.Prelude.{[], ◌∷◌}
use Rattle.roundtrip_tokens.specs.Spelled.{SpelledByKinds}
use Rattle.pddl_write.specs.Files.{domain_text, problem_text}
use Rattle.roundtrip_tokens.specs.FileTokens.{domain_tokens, problem_tokens}
use Rattle.roundtrip_tokens.proofs.Spelled.{domains_are_spelled, problems_are_spelled}
use Rattle.roundtrip_shapes.specs.Formed.{FormsDomain, FormsProblem, ReadsDomain, ReadsProblem}
use Rattle.roundtrip_shapes.proofs.Domains.{domains_are_formed}
use Rattle.roundtrip_shapes.proofs.Problems.{problems_are_formed}
use Rattle.up_tree.specs.declared.problem.Parts.{Parts}
use Rattle.up_tree.specs.WellFormed.{IsWellFormed}

pub domains_are_read : (p : Parts) → IsWellFormed p → ReadsDomain p
domains_are_read p well =
    let text : SpelledByKinds (domain_text p) (domain_tokens p) = domains_are_spelled p well in
    let formed : FormsDomain p text.tokens = domains_are_formed p well text.tokens text.kinds_are in
    record {
      trees = formed.tree ∷ [];
      form = formed.form;
      stands = record { tokens = text.tokens; spelled = text.spelled; bracketed = formed.bracketed };
      read = formed.read;
      is = formed.is;
    }

pub problems_are_read : (p : Parts) → IsWellFormed p → ReadsProblem p
problems_are_read p well =
    let text : SpelledByKinds (problem_text p) (problem_tokens p) = problems_are_spelled p well in
    let formed : FormsProblem p text.tokens = problems_are_formed p well text.tokens text.kinds_are in
    record {
      trees = formed.tree ∷ [];
      form = formed.form;
      stands = record { tokens = text.tokens; spelled = text.spelled; bracketed = formed.bracketed };
      read = formed.read;
      is = formed.is;
    }
