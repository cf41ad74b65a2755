use Rattle.wellformed_phrases.proofs.Agreeing.{sound_agree}
use Rattle.wellformed_phrases.proofs.laws.sound_declarations_agree.Goals as goal

pub returns : goal.returns
returns c = λ names types_sound sound. sound_agree names types_sound sound c.args._p.now
