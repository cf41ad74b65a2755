use Rattle.grammar_shapes.proofs.Effects.{effect_read, effect_spelled}
use Rattle.grammar_shapes.proofs.laws.effect_law.Goals as goal

pub returns : goal.returns
returns c = λ e. (effect_read c.args._tree.now e, effect_spelled c.args._tree.now e)
