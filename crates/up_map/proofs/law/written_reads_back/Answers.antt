use Rattle.std.proofs.Common.{ℕ, List, sym, subst}
use Rattle.up_map.specs.Spells.{MapText}
use Rattle.up_map.proofs.Spelling.{memory_alone}
use Rattle.up_map.proofs.law.written_reads_back.Goals as goal

pub returns-clause-memory : goal.returns-clause-memory
returns-clause-memory c =
    memory_alone c.as_slice.result.now c.args.map.now c.in-Err.fault
    (subst (λ (text : List ℕ). MapText text c.args.map.now) (sym c.as_slice.ensures.value) c.in_ok-text.ensures.spells) c.in-Err.ensures.fault
