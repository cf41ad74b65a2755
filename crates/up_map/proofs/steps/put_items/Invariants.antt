use Rattle.std.proofs.Common.{◌≡◌, take}
use Rattle.up_line.specs.Sheet.{after}
use Rattle.up_line.specs.Spaced.{spaced}
use Rattle.up_text.specs.Lists.{Every}
use Rattle.up_map.specs.Spells.{HasName}
use Rattle.up_map.specs.Texts.{item_text}
use Rattle.up_map.proofs.steps.put_items.Given as goal

abbrev pub invariant-loop-item : goal.invariant-loop-item
invariant-loop-item l = record {
  text : l.line ≡ after l.initial.line (spaced item_text (take l.item-index l.items));
  names : Every HasName (take l.item-index l.items);
}
