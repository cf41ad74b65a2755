-- What the word that is written for a change is read as.
use Rattle.std.proofs.Common.{◌≡◌, refl}
use Rattle.up_tree.specs.declared.action.Change.{Change}
use Rattle.up_tree.specs.declared.action.Change.TheVariants as tree
use Rattle.pddl_parse.specs.declared.head.EffectHead.TheVariants as head
use Rattle.pddl_parse.specs.Effects.{effect_word}
use Rattle.pddl_write.specs.Effects.{change_text}
use Rattle.roundtrip_shapes.specs.RawEffects.{raw_change}

pub change_word : (c : Change) → effect_word (change_text c) ≡ head.Change (raw_change c)
change_word tree.Assign = refl
change_word tree.Increase = refl
change_word tree.Decrease = refl
change_word tree.ScaleUp = refl
change_word tree.ScaleDown = refl
