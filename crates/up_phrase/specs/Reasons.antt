-- The printed words of reasons.
use Rattle.std.specs.Prelude.{ℕ, List, codes}
use Rattle.up_phrase.specs.declared.reason.Reason.{Reason}
use Rattle.up_phrase.specs.declared.reason.Reason.TheVariants.{BadByte, BadNumber, Unclosed, Unopened, TooDeep, Expected, LeftOut, UnknownName, Duplicate, Arity, TypeMismatch, TypeCycle, MetricTerm, WrongDomain}

abbrev pub reason_word : Reason → List ℕ
reason_word BadByte = codes "bad-byte"
reason_word BadNumber = codes "bad-number"
reason_word Unclosed = codes "unclosed"
reason_word Unopened = codes "unopened"
reason_word TooDeep = codes "too-deep"
reason_word Expected = codes "expected"
reason_word LeftOut = codes "left-out"
reason_word UnknownName = codes "unknown-name"
reason_word Duplicate = codes "duplicate"
reason_word Arity = codes "arity"
reason_word TypeMismatch = codes "type-mismatch"
reason_word TypeCycle = codes "type-cycle"
reason_word MetricTerm = codes "metric-term"
reason_word WrongDomain = codes "wrong-domain"
