-- The refusals that faults of a text become.
use Rattle.std.specs.Prelude.{None}
use Rattle.up_text.specs.declared.place.Place.{Place}
use Rattle.pddl_lex.specs.declared.error.LexError.{LexError}
use Rattle.pddl_lex.specs.declared.error.LexError.TheVariants as lex
use Rattle.pddl_parse.specs.declared.shape.ShapeError.{ShapeError}
use Rattle.pddl_parse.specs.declared.shape.ShapeError.TheVariants as shape
use Rattle.up_phrase.specs.declared.fault.Fault.{Fault}
use Rattle.up_phrase.specs.declared.fault.Fault.TheVariants as fault
use Rattle.up_check.specs.declared.refusal.File.{File}
use Rattle.up_phrase.specs.declared.reason.Reason.{Reason}
use Rattle.up_phrase.specs.declared.reason.Reason.TheVariants as reason
use Rattle.up_check.specs.declared.refusal.ReadError.{ReadError}
use Rattle.up_check.specs.declared.refusal.ReadError.TheVariants.{Memory, Refused}

abbrev pub bare_refused : File → Place → Reason → ReadError
bare_refused file place r = Refused file place r None

abbrev pub bytes_refused : File → LexError → ReadError
bytes_refused file lex.Memory = Memory
bytes_refused file (lex.BadByte place) = bare_refused file place reason.BadByte
bytes_refused file (lex.BadNumber place) = bare_refused file place reason.BadNumber
bytes_refused file (lex.Unopened place) = bare_refused file place reason.Unopened
bytes_refused file (lex.TooDeep place) = bare_refused file place reason.TooDeep
bytes_refused file (lex.Unclosed place) = bare_refused file place reason.Unclosed

abbrev pub shape_refused : File → ShapeError → ReadError
shape_refused file shape.Memory = Memory
shape_refused file (shape.Expected place) = bare_refused file place reason.Expected
shape_refused file (shape.LeftOut place) = bare_refused file place reason.LeftOut
shape_refused file (shape.Duplicate place) = bare_refused file place reason.Duplicate

abbrev pub refused : File → Fault → ReadError
refused file fault.Memory = Memory
refused file (fault.At place r name) = Refused file place r name
