use Rattle.wellformed_phrases.proofs.Declared.{objects_keep_sound, predicates_keep_sound, functions_keep_sound}
use Rattle.wellformed_phrases.proofs.laws.read_declarations_are_sound.Goals as goal

pub returns-clause-objects : goal.returns-clause-objects
returns-clause-objects c = objects_keep_sound

pub returns-clause-predicates : goal.returns-clause-predicates
returns-clause-predicates c = predicates_keep_sound

pub returns-clause-functions : goal.returns-clause-functions
returns-clause-functions c = functions_keep_sound
