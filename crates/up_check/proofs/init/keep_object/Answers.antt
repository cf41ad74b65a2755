use Rattle.std.proofs.Common.{refl, ap, sym, ◌∙◌}
use Rattle.indexmap.specs.IndexMap.{insert_entry}
use Rattle.up_check.specs.Held.{same_ground}
use Rattle.up_check.proofs.Tables.{object_found, object_added, object_kept, on_ok}
use Rattle.up_check.proofs.init.keep_object.Goals as goal

pub returns-in-Some-clause-parsed : goal.returns-in-Some-clause-parsed
returns-in-Some-clause-parsed c =
    rw (
      ← object_found c.in_ok-ground.ground c.args.term.now c.in_ok-ground.ensures.name c.in_ok-ground.ensures.args c.args.values.now.entries,
      ← c.in-Some.ensures.value,
    ) c.same_object.ensures.ok

pub returns-in-Some-clause-ok : goal.returns-in-Some-clause-ok
returns-in-Some-clause-ok c =
    on_ok c.same_object.result
    (object_kept c.in_ok-ground.ground c.args.term.now c.in_ok-ground.ensures.name c.in_ok-ground.ensures.args c.args.values.now.entries
    c.in-Some.first.now c.args.object.now c.in-Some.ensures.value)

pub returns-in-Some-clause-err : goal.returns-in-Some-clause-err
returns-in-Some-clause-err c =
    rw (
      ← object_found c.in_ok-ground.ground c.args.term.now c.in_ok-ground.ensures.name c.in_ok-ground.ensures.args c.args.values.now.entries,
      ← c.in-Some.ensures.value,
    ) c.same_object.ensures.err

pub returns-clause-parsed : goal.returns-clause-parsed
returns-clause-parsed c =
    rw (
      ← object_found c.in_ok-ground.ground c.args.term.now c.in_ok-ground.ensures.name c.in_ok-ground.ensures.args c.args.values.now.entries,
      ← c.in_default.ensures.value,
    ) refl

pub returns-clause-ok : goal.returns-clause-ok
returns-clause-ok c =
    object_added c.in_ok-ground.ground c.args.term.now c.in_ok-ground.ensures.name c.in_ok-ground.ensures.args c.args.values.now
    c.args.object.now c.add_object.new.values.entries (sym c.in_default.ensures.value)
    (c.in_ok-add_object.ensures ∙ ap (insert_entry same_ground c.args.values.now.entries c.in_ok-ground.ground) c.in_ok-copy.ensures)
