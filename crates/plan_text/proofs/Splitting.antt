-- The first line of a text.
use Rattle.std.proofs.Common.{◌≡◌, ◌≢◌, ℕ, zero, suc, Bool, true, false, cond, List, [], ◌∷◌, ◌++◌, length, take, drop, refl, ap, sym, ◌∙◌, arith}
use Rattle.std.specs.Prelude.{◌==◌, ◌&&◌}
use Rattle.std.proofs.lemmas.Bool.{false≢true}
use Rattle.std.proofs.lemmas.Bool.Decides.{nat_tests}
use Rattle.std.proofs.lemmas.List.Sums.{take_while-cons}
use Rattle.plan_text.specs.Bytes.{front_length, first}
use Rattle.plan_text.specs.Lines.{lines, in_front, is_return, is_in_line, without_return}

differs : (byte other : ℕ) → (byte ≡ other → ⊥) → (byte == other) ≡ false
differs byte other h = grind (arith, nat_tests)

-- the last byte is a carriage return
return_off : (front : List ℕ) → without_return (front ++ 13 ∷ []) ≡ front
return_off [] = refl
return_off (byte ∷ []) = refl
return_off (byte ∷ other ∷ front) = ap (λ (line : List ℕ). byte ∷ line) (return_off (other ∷ front))

pub ends_in_return : (line front : List ℕ) (last : ℕ) → line ≡ front ++ last ∷ [] → last ≡ 13 → front ≡ without_return line
ends_in_return line front last is same = rw (is, same) (sym (return_off front))

-- or another byte
pub return_none : (front : List ℕ) (last : ℕ) → (last == 13) ≡ false → without_return (front ++ last ∷ []) ≡ front ++ last ∷ []
return_none [] last is = rw is refl
return_none (byte ∷ []) last is = rw is refl
return_none (byte ∷ other ∷ front) last is = ap (λ (line : List ℕ). byte ∷ line) (return_none (other ∷ front) last is)

pub ends_in_other : (line front : List ℕ) (last : ℕ) → line ≡ front ++ last ∷ [] → (last ≡ 13 → ⊥) → line ≡ without_return line
ends_in_other line front last is other = rw is (sym (return_none front last (differs last 13 other)))

front_feed : (byte : ℕ) (rest : List ℕ) → (byte == 10) ≡ true → front_length is_in_line (byte ∷ rest) ≡ 0
front_feed byte rest is = rw (take_while-cons is_in_line byte rest, is) refl

front_other : (byte : ℕ) (rest : List ℕ) → (byte == 10) ≡ false → front_length is_in_line (byte ∷ rest) ≡ suc (front_length is_in_line rest)
front_other byte rest is = rw (take_while-cons is_in_line byte rest, is) refl

-- what is left where no more bytes stand in front
feed_first : (rest : List ℕ) (byte : ℕ) (behind : List ℕ) → drop (front_length is_in_line rest) rest ≡ byte ∷ behind → front_length is_in_line rest ≡ 0 → (first rest == 10) ≡ true
feed_first [] byte behind is none = absurd cc
feed_first (other ∷ rest) byte behind is none =
    let by_test : (b : Bool) → (other == 10) ≡ b → (other == 10) ≡ true = elim [
      | true ↦ λ same. same
      | false ↦ λ differs. let more = front_other other rest differs in absurd cc
    ] in
    by_test (other == 10) refl

first_feed : (rest : List ℕ) → (first rest == 10) ≡ true → front_length is_in_line rest ≡ 0
first_feed [] is = absurd (false≢true is)
first_feed (byte ∷ rest) is = front_feed byte rest is

and_false : (a b : Bool) → b ≡ false → (a && b) ≡ false
and_false true b is = is
and_false false b is = refl

-- a byte inside a line stands in front of the rest of the line
line_on : (byte : ℕ) (rest : List ℕ) → (byte == 10) ≡ false → is_return byte rest ≡ false → lines (byte ∷ rest) ≡ in_front byte (lines rest)
line_on byte rest other off = rw (other, off) refl

-- so does a carriage return that no line feed follows
line_to : (byte : ℕ) (rest : List ℕ) → (byte == 10) ≡ false → is_return byte rest ≡ true → lines (byte ∷ rest) ≡ lines rest
line_to byte rest other is = rw (other, is) refl

one_line_other : (byte : ℕ) (rest : List ℕ) → (byte == 10) ≡ false → drop (front_length is_in_line rest) rest ≡ []
    → lines (byte ∷ rest) ≡ (byte ∷ take (front_length is_in_line rest) rest) ∷ []
one_line_other byte [] other none = line_on byte [] other (and_false (byte == 13) false refl)
one_line_other byte (next ∷ rest) other none =
    let by_test : (b : Bool) → (next == 10) ≡ b → lines (byte ∷ next ∷ rest) ≡ (byte ∷ take (front_length is_in_line (next ∷ rest)) (next ∷ rest)) ∷ [] = elim [
      | true ↦ λ feed. let all : next ∷ rest ≡ [] = rw (front_feed next rest feed) at none in absurd cc
      | false ↦ λ no_feed.
          line_on byte (next ∷ rest) other (and_false (byte == 13) (next == 10) no_feed)
          ∙ ap (in_front byte) (
          let less : drop (front_length is_in_line rest) rest ≡ [] = rw (front_other next rest no_feed) at none in
          one_line_other next rest no_feed less ∙ ap (λ (n : ℕ). take n (next ∷ rest) ∷ []) (sym (front_other next rest no_feed)))
    ] in
    by_test (next == 10) refl

-- a text without a line feed is one line
pub one_line : (byte : ℕ) (rest : List ℕ) → drop (front_length is_in_line (byte ∷ rest)) (byte ∷ rest) ≡ []
    → lines (byte ∷ rest) ≡ take (front_length is_in_line (byte ∷ rest)) (byte ∷ rest) ∷ []
one_line byte rest none =
    let by_test : (b : Bool) → (byte == 10) ≡ b → lines (byte ∷ rest) ≡ take (front_length is_in_line (byte ∷ rest)) (byte ∷ rest) ∷ [] = elim [
      | true ↦ λ feed. let all : byte ∷ rest ≡ [] = rw (front_feed byte rest feed) at none in absurd cc
      | false ↦ λ other.
          let less : drop (front_length is_in_line rest) rest ≡ [] = rw (front_other byte rest other) at none in
          one_line_other byte rest other less ∙ ap (λ (n : ℕ). take n (byte ∷ rest) ∷ []) (sym (front_other byte rest other))
    ] in
    by_test (byte == 10) refl

return_more : (byte : ℕ) (line : List ℕ) → (line ≡ [] → (byte == 13) ≡ false) → without_return (byte ∷ line) ≡ byte ∷ without_return line
return_more byte [] off = rw (off refl) refl
return_more byte (other ∷ line) off = refl

take_none : (n : ℕ) (rest behind : List ℕ) (feed : ℕ) → drop n rest ≡ feed ∷ behind → take n rest ≡ [] → n ≡ 0
take_none zero rest behind feed is none = refl
take_none (suc n) [] behind feed is none = absurd cc
take_none (suc n) (byte ∷ rest) behind feed is none = absurd cc

and_left : (a b : Bool) → (a && b) ≡ false → b ≡ true → a ≡ false
and_left true b is h = absurd (false≢true (sym is ∙ h))
and_left false b is h = refl

and_right : (a b : Bool) → (a && b) ≡ true → b ≡ true
and_right true b is = is
and_right false b is = absurd (false≢true is)

and_first : (a b : Bool) → (a && b) ≡ true → a ≡ true
and_first true b is = refl
and_first false b is = is

feed_other : (byte : ℕ) (rest : List ℕ) (feed : ℕ) (behind : List ℕ) → (byte == 10) ≡ false → drop (front_length is_in_line rest) rest ≡ feed ∷ behind
    → lines rest ≡ without_return (take (front_length is_in_line rest) rest) ∷ lines behind
    → lines (byte ∷ rest) ≡ without_return (byte ∷ take (front_length is_in_line rest) rest) ∷ lines behind
feed_other byte rest feed behind other is others =
    let by_test : (b : Bool) → is_return byte rest ≡ b → lines (byte ∷ rest) ≡ without_return (byte ∷ take (front_length is_in_line rest) rest) ∷ lines behind = elim [
      | true ↦ λ back.
          let none : front_length is_in_line rest ≡ 0 = first_feed rest (and_right (byte == 13) (first rest == 10) back) in
          let here : (byte == 13) ≡ true = and_first (byte == 13) (first rest == 10) back in
          line_to byte rest other back ∙ others ∙ rw (none, here) refl
      | false ↦ λ off.
          line_on byte rest other off ∙ ap (in_front byte) others
          ∙ ap (λ (line : List ℕ). line ∷ lines behind) (sym (return_more byte (take (front_length is_in_line rest) rest) (λ blank.
          and_left (byte == 13) (first rest == 10) off (feed_first rest feed behind is (take_none (front_length is_in_line rest) rest behind feed is blank)))))
    ] in
    by_test (is_return byte rest) refl

-- the first line of a text with a line feed
pub feed_line : (text : List ℕ) (feed : ℕ) (behind : List ℕ) → drop (front_length is_in_line text) text ≡ feed ∷ behind
    → lines text ≡ without_return (take (front_length is_in_line text) text) ∷ lines behind
feed_line [] feed behind is = absurd cc
feed_line (byte ∷ rest) feed behind is =
    let by_test : (b : Bool) → (byte == 10) ≡ b → lines (byte ∷ rest) ≡ without_return (take (front_length is_in_line (byte ∷ rest)) (byte ∷ rest)) ∷ lines behind = elim [
      | true ↦ λ here.
          let all : byte ∷ rest ≡ feed ∷ behind = rw (front_feed byte rest here) at is in
          let same : rest ≡ behind = cc in
          rw (front_feed byte rest here, here) (ap (λ (left : List ℕ). [] ∷ lines left) same)
      | false ↦ λ other.
          let less : drop (front_length is_in_line rest) rest ≡ feed ∷ behind = rw (front_other byte rest other) at is in
          feed_other byte rest feed behind other less (feed_line rest feed behind less)
          ∙ ap (λ (n : ℕ). without_return (take n (byte ∷ rest)) ∷ lines behind) (sym (front_other byte rest other))
    ] in
    by_test (byte == 10) refl

no_length : (bytes : List ℕ) → length bytes ≡ 0 → bytes ≡ []
no_length [] none = refl
no_length (byte ∷ bytes) none = absurd cc

-- a text that isn't empty and has no line feed is one line
pub last_line : (text line rest : List ℕ) (n : ℕ) → text ≢ [] → n ≡ front_length is_in_line text → line ≡ take n text → rest ≡ drop n text → length rest ≡ 0
    → lines text ≡ line ∷ lines rest
last_line [] line rest n some count front back none = absurd (some refl)
last_line (byte ∷ text) line rest n some count front back none =
    let blank : rest ≡ [] = no_length rest none in
    let left : drop (front_length is_in_line (byte ∷ text)) (byte ∷ text) ≡ [] = rw count at (sym back ∙ blank) in
    one_line byte text left ∙ rw (front, count, blank) refl

pub next_line : (text line rest behind made : List ℕ) (feed n : ℕ) → n ≡ front_length is_in_line text → line ≡ take n text → rest ≡ drop n text → rest ≡ feed ∷ behind
    → made ≡ without_return line → lines text ≡ made ∷ lines behind
next_line text line rest behind made feed n count front back is off =
    rw (off, front, count) (feed_line text feed behind (rw count at (sym back ∙ is)))
