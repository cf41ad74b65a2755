use Rattle.std.proofs.Common.{length}
use Rattle.up_compiler.specs.Back.{IsWithin}
use Rattle.up_map.proofs.Kept.{every_at, objects_more, objects_all}
use Rattle.up_map.proofs.converting.items_objects.Goals as goal

pub item_object-requires : goal.item_object-requires
item_object-requires c =
    every_at (IsWithin (length c.args.args.now)) c.args.items.now c.loop-item.item-index c.item-item.result c.requires c.loop-item-test.true c.item-item.is

pub loop-item-preserved : goal.loop-item-preserved
loop-item-preserved c =
    objects_more c.args.args.now c.args.items.now c.loop-item.objects c.push.new.self c.loop-item.item-index c.item-item.result c.in_ok-item_object.field-0
    c.loop-item-test.true c.item-item.is c.in_ok-item_object.ensures c.in_ok-push.ensures.ok c.loop-item.invariant

pub returns : goal.returns
returns c =
    objects_all c.args.args.now c.args.items.now c.loop-item.objects c.loop-item.item-index c.loop-item-test.false c.loop-item.invariant
