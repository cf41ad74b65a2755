use Rattle.std.proofs.Common.{rules, sym, ◌∙◌, true≢false}
use Rattle.up_text.proofs.Spelling.{reserved_spelled}
use Rattle.up_text.proofs.name.Name.read.Goals as goal

pub returns-then-not-is_spelled_folded-clause-reserved :
    goal.returns-then-not-is_spelled_folded-clause-reserved
returns-then-not-is_spelled_folded-clause-reserved c =
    (λ e. search rules, λ r. absurd (true≢false (sym (reserved_spelled _ r) ∙ sym c.is_spelled_folded.ensures ∙ c.if-not-is_spelled_folded.true)))
