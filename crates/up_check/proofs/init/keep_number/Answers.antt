use Rattle.std.proofs.Common.{refl, sym}
use Rattle.up_check.proofs.Tables.{number_found, number_added, number_kept, on_ok}
use Rattle.up_check.proofs.init.keep_number.Goals as goal

pub returns-in-Some-clause-parsed : goal.returns-in-Some-clause-parsed
returns-in-Some-clause-parsed c =
    rw (
      ← number_found c.in_ok-ground.ground c.args.term.now c.in_ok-ground.ensures.name c.in_ok-ground.ensures.args c.args.numbers.now.entries,
      ← c.in-Some.ensures.value,
    ) c.same_number.ensures.ok

pub returns-in-Some-clause-ok : goal.returns-in-Some-clause-ok
returns-in-Some-clause-ok c =
    on_ok c.same_number.result
    (number_kept c.in_ok-ground.ground c.args.term.now c.in_ok-ground.ensures.name c.in_ok-ground.ensures.args c.args.numbers.now.entries
    c.in-Some.first.now c.args.number c.in-Some.ensures.value)

pub returns-in-Some-clause-err : goal.returns-in-Some-clause-err
returns-in-Some-clause-err c =
    rw (
      ← number_found c.in_ok-ground.ground c.args.term.now c.in_ok-ground.ensures.name c.in_ok-ground.ensures.args c.args.numbers.now.entries,
      ← c.in-Some.ensures.value,
    ) c.same_number.ensures.err

pub returns-clause-parsed : goal.returns-clause-parsed
returns-clause-parsed c =
    rw (
      ← number_found c.in_ok-ground.ground c.args.term.now c.in_ok-ground.ensures.name c.in_ok-ground.ensures.args c.args.numbers.now.entries,
      ← c.in_default.ensures.value,
    ) refl

pub returns-clause-ok : goal.returns-clause-ok
returns-clause-ok c =
    number_added c.in_ok-ground.ground c.args.term.now c.in_ok-ground.ensures.name c.in_ok-ground.ensures.args c.args.numbers.now
    c.args.number c.add_number.new.numbers.entries (sym c.in_default.ensures.value) c.in_ok-add_number.ensures
