use Rattle.up_line.proofs.Spaced.{spaced-more}
use Rattle.up_map.specs.Spells.{HasName}
use Rattle.up_map.specs.Texts.{item_text}
use Rattle.up_map.proofs.Spelling.{every_taken}
use Rattle.up_map.proofs.steps.put_items.Goals as goal

pub loop-item-preserved : goal.loop-item-preserved
loop-item-preserved c =
    let more = spaced-more item_text c.args.items.now c.loop-item.item-index c.item-item.result c.args.line.now c.loop-item-test.true c.item-item.is in
    record {
      text = cc;
      names = every_taken HasName c.args.items.now c.loop-item.item-index c.item-item.result c.loop-item-test.true c.item-item.is c.loop-item.invariant.names c.put_item.ensures.name;
    }
