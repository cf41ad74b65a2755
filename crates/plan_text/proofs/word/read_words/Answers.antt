use Rattle.std.proofs.Common.{◌≡◌, true, sym, ◌∙◌}
use Rattle.plan_text.specs.Bytes.{is_name_byte, first}
use Rattle.plan_text.specs.Seen.{seen_word}
use Rattle.plan_text.proofs.Wording.{words_step}
use Rattle.plan_text.proofs.word.read_words.Goals as goal

pub reading-preserved : goal.reading-preserved
reading-preserved c =
    let starts : is_name_byte (first c.reading.left.now) ≡ true = cc in
    words_step _ c.reading.names c.push.new.self c.reading.left.now (seen_word c.in-Ok.word) c.reading.invariant
    starts c.in-Ok.ensures.read c.in_ok-push-in-Ok.ensures.ok
