use Rattle.grammar_shapes.proofs.Effects.{whole_effect_read, whole_effect_spelled}
use Rattle.grammar_shapes.proofs.laws.whole_effect_law.Goals as goal

pub returns : goal.returns
returns c = λ e. (whole_effect_read c.args._tree.now e, whole_effect_spelled c.args._tree.now e)
