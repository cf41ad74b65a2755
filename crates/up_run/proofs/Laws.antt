-- The two laws of reading on which the headline stands.
use Rattle.wellformed_texts.proofs.Texts.{texts_are_well_formed}
use Rattle.roundtrip_texts.proofs.Reading.{written_problems_read_back}
use Rattle.up_run.proofs.Headline.{ReadIsWellFormed, WrittenIsRead}

pub read_well : ReadIsWellFormed
read_well = texts_are_well_formed

pub written_read : WrittenIsRead
written_read = written_problems_read_back
