use Rattle.wellformed_phrases.proofs.SoundTypes.{types_are_sound}
use Rattle.wellformed_phrases.proofs.laws.read_types_are_sound.Goals as goal

pub returns : goal.returns
returns c = types_are_sound
