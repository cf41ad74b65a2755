use Rattle.grammar_names.proofs.Effects.{effect_read, effect_denotes}
use Rattle.grammar_names.proofs.laws.effects_are_read.Goals as goal

pub returns : goal.returns
returns c = λ names params bound conditions raw rs. (effect_read names params bound conditions raw rs, effect_denotes names params bound conditions raw rs)
