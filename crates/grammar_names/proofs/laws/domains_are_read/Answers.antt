use Rattle.grammar_names.proofs.Problems.{domains, faultless_domains}
use Rattle.grammar_names.proofs.laws.domains_are_read.Goals as goal

pub returns-clause-read : goal.returns-clause-read
returns-clause-read c = domains

pub returns-clause-faultless : goal.returns-clause-faultless
returns-clause-faultless c = faultless_domains
