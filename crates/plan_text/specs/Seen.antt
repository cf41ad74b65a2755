-- What was read of a line, as contracts see it.
use Rattle.plan_text.specs.declared.word.Word.{Word as ReadWord}
use Rattle.plan_text.specs.declared.word.Words.{Words as ReadWords}
use Rattle.plan_text.specs.Steps.{Word, Words}

abbrev pub seen_word : ReadWord → Word
seen_word read = record { name = read.name; left = read.left.now }

abbrev pub seen_words : ReadWords → Words
seen_words read = record { names = read.names; left = read.left.now }
