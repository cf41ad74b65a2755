-- Two texts spell exactly what they are read as.
use Rattle.std.proofs.Common.{◌≡◌, ℕ, List}
use Rattle.up_tree.specs.declared.problem.Parts.{Parts}
use Rattle.up_check.specs.declared.refusal.ReadError.{ReadError}
use Rattle.up_check.specs.Domains.{Known, domain_names}
use Rattle.up_check.specs.Problems.{problem_names}
use Rattle.up_check.specs.Passes.{AreShallow, FirstFault, IsSettled, Reads, ReadsAs}
use Rattle.up_check.proofs.Laws.{faultless, problem_one, settled}
use Rattle.pddl_parse.specs.Texts as texts
use Rattle.grammar_shapes.proofs.Domains as domains
use Rattle.grammar_shapes.proofs.Problems as problems
use Rattle.grammar_names.proofs.ProblemForms as names
use Rattle.grammar_texts.specs.Spelled.{SpellsDomain, SpellsProblem, TextsSpell}
use Rattle.grammar_texts.specs.Spelled.{SpellsOrStops, spells, stops}

domain_is_read : (text : List ℕ) (known : Known) → SpellsDomain text known → ReadsAs texts.domain domain_names text known
domain_is_read text known s =
    record {
      trees = s.trees;
      spelled = s.bracketed;
      form = s.form;
      shape = domains.domain_read s.trees s.form s.spelled;
      known = names.domain_read s.form known s.denoted;
    }

problem_is_read : (known : Known) (text : List ℕ) (parts : Parts) → SpellsProblem known text parts → ReadsAs texts.problem (problem_names known) text parts
problem_is_read known text parts s =
    record {
      trees = s.trees;
      spelled = s.bracketed;
      form = s.form;
      shape = problems.problem_read s.trees s.form s.spelled;
      known = names.problem_read known s.form parts s.denoted;
    }

domain_is_spelled : (text : List ℕ) (known : Known) → ReadsAs texts.domain domain_names text known → SpellsDomain text known
domain_is_spelled text known r =
    record {
      trees = r.trees;
      bracketed = r.spelled;
      form = r.form;
      spelled = domains.domain_spelled r.trees r.form r.shape;
      denoted = names.domain_denotes r.form known r.known;
    }

problem_is_spelled : (known : Known) (text : List ℕ) (parts : Parts) → ReadsAs texts.problem (problem_names known) text parts → SpellsProblem known text parts
problem_is_spelled known text parts r =
    record {
      trees = r.trees;
      bracketed = r.spelled;
      form = r.form;
      spelled = problems.problem_spelled r.trees r.form r.shape;
      denoted = names.problem_denotes known r.form parts r.known;
    }

pub spelled_is_read : (domain problem : List ℕ) (parts : Parts) → TextsSpell domain problem parts → Reads domain problem parts
spelled_is_read domain problem parts s =
    record { known = s.known; of_domain = domain_is_read domain s.known s.of_domain; of_problem = problem_is_read s.known problem parts s.of_problem }

pub read_is_spelled : (domain problem : List ℕ) (parts : Parts) → Reads domain problem parts → TextsSpell domain problem parts
read_is_spelled domain problem parts r =
    record { known = r.known; of_domain = domain_is_spelled domain r.known r.of_domain; of_problem = problem_is_spelled r.known problem parts r.of_problem }

pub one_is_spelled : (domain problem : List ℕ) (parts others : Parts) → TextsSpell domain problem parts → TextsSpell domain problem others → parts ≡ others
one_is_spelled domain problem parts others s r =
    problem_one domain problem parts others (spelled_is_read domain problem parts s) (spelled_is_read domain problem others r)

pub spelled_is_faultless : (domain problem : List ℕ) (parts : Parts) (refusal : ReadError) → TextsSpell domain problem parts → AreShallow domain problem
    → ¬ FirstFault domain problem refusal
spelled_is_faultless domain problem parts refusal s shallow = faultless domain problem parts refusal (spelled_is_read domain problem parts s) shallow

or_stops : (domain problem : List ℕ) → IsSettled domain problem → SpellsOrStops domain problem
or_stops domain problem (IsSettled.reads parts r shallow) = spells parts (read_is_spelled domain problem parts r) shallow
or_stops domain problem (IsSettled.stops refusal first) = stops refusal first

pub all_spell_or_stop : (domain problem : List ℕ) → SpellsOrStops domain problem
all_spell_or_stop domain problem = or_stops domain problem (settled domain problem)
