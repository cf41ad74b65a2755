use Rattle.wellformed_texts.proofs.Numbers.{tokens_literal}
use Rattle.wellformed_texts.proofs.laws.number_tokens_are_literals.Goals as goal

pub returns : goal.returns
returns c = tokens_literal
