use Rattle.up_run.proofs.Due.{caused_of, due_of}
use Rattle.up_run.proofs.Headline.{headline_of}
use Rattle.up_run.proofs.Laws.{read_well, written_read}
use Rattle.up_run.proofs.top.run.Goals as goal

pub returns-clause-caused : goal.returns-clause-caused
returns-clause-caused g c = λ is. caused_of c.args.words.now _ _ _ _ _ _ _ is c.run.ensures.text c.run.ensures.compiles

pub returns-clause-due : goal.returns-clause-due
returns-clause-due g c = λ is. due_of c.args.words.now _ _ _ is c.run.ensures.complete
    (caused_of c.args.words.now _ _ _ _ _ _ _ is c.run.ensures.text c.run.ensures.compiles)

pub returns-clause-headline : goal.returns-clause-headline
returns-clause-headline g c = λ done is. headline_of read_well written_read c.args.words.now _ _ _ _ is (c.run.ensures.compiles done is)
