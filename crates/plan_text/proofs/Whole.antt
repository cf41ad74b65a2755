-- A text that is read as steps spells them.
use Rattle.std.proofs.Common.{◌≡◌, ℕ, zero, suc, ◌+◌, ◌≤◌, Bool, true, false, not, List, [], ◌∷◌, ◌++◌, length, take, refl, ap, sym, ◌∙◌, subst, append-nil, length-append, arith}
use Rattle.std.specs.Prelude.{Option, Some, None, Result, Ok, Err, option_to_list, ◌==◌, take_while}
use Rattle.std.specs.List.{list_all}
use Rattle.std.proofs.lemmas.Bool.Decides.{nat_tests}
use Rattle.up_tree.specs.declared.problem.Step.{Step}
use Rattle.plan_text.specs.declared.error.PlanTextError.{PlanTextError}
use Rattle.plan_text.specs.Bytes.{front_length, behind}
use Rattle.plan_text.specs.Lines.{lines, content, is_in_line, is_before_comment, without_return}
use Rattle.plan_text.specs.Steps.{Part, line_step}
use Rattle.plan_text.specs.Spells.{IsComment, no_comment, comment, IsLine, SpellsSteps, last, line}
use Rattle.plan_text.specs.Texts.{cut, placed, found_in, with_found, steps_from, steps_of}
use Rattle.plan_text.proofs.Fronts.{stops, take_length}
use Rattle.plan_text.proofs.Parts.{front_parts, front_passes, behind_stops, drop_length, line_read}
use Rattle.plan_text.proofs.Splitting.{feed_line, one_line}

not_not : (b : Bool) → not (not b) ≡ true → b ≡ true
not_not true is = refl
not_not false is = is

same_byte : (one two : ℕ) → (one == two) ≡ true → one ≡ two
same_byte one two is = grind (arith, nat_tests)

comment_read : (bytes : List ℕ) → stops is_before_comment bytes ≡ true → IsComment bytes
comment_read [] stop = no_comment refl
comment_read (byte ∷ bytes) stop = comment bytes (ap (λ (first : ℕ). first ∷ bytes) (same_byte byte 59 (not_not (byte == 59) stop)))

placed_read : (number : ℕ) (text : List ℕ) (part : Part (Option Step)) (found : Option Step) → placed number text part ≡ Ok found → part ≡ Ok found
placed_read number text (Ok here) found is = cc
placed_read number text (Err fault) found is = absurd cc

found_read : (number : ℕ) (bytes : List ℕ) (found : Option Step) → found_in number bytes ≡ Ok found → IsLine bytes found
found_read number bytes found is = record {
  text = content bytes;
  comment = behind is_before_comment bytes;
  parts = front_parts is_before_comment bytes;
  before_comment = front_passes is_before_comment bytes;
  is_comment = comment_read (behind is_before_comment bytes) (behind_stops is_before_comment bytes);
  has = line_read (content bytes) found (placed_read number (content bytes) (line_step (content bytes)) found is);
}

-- what a line has, and what those behind it have
record Found (here : Result (Option Step) PlanTextError) (more : Result (List Step) PlanTextError) (steps : List Step) : Type 0 where
  found : Option Step
  others : List Step
  here_is : here ≡ Ok found
  more_is : more ≡ Ok others
  all : option_to_list found ++ others ≡ steps

with_read : (here : Result (Option Step) PlanTextError) (more : Result (List Step) PlanTextError) (steps : List Step)
    → with_found here more ≡ Ok steps → Found here more steps
with_read (Err fault) more steps is = absurd cc
with_read (Ok None) more steps is = record { found = None; others = steps; here_is = refl; more_is = is; all = refl }
with_read (Ok (Some made)) (Ok others) steps is = record { found = Some made; others = others; here_is = refl; more_is = refl; all = cc }
with_read (Ok (Some made)) (Err fault) steps is = absurd cc

front_take : (text : List ℕ) → take (front_length is_in_line text) text ≡ take_while is_in_line text
front_take text =
    ap (take (front_length is_in_line text)) (front_parts is_in_line text) ∙ take_length (take_while is_in_line text) (behind is_in_line text)

-- the last line
last_read : (number : ℕ) (text : List ℕ) (steps : List Step) → behind is_in_line text ≡ [] → steps_from number (lines text) ≡ Ok steps → SpellsSteps text steps
last_read number [] steps none is =
    let same : [] ≡ steps = cc in
    subst (SpellsSteps []) same (last [] None refl (found_read number [] None refl))
last_read number (byte ∷ text) steps none is =
    let all : take_while is_in_line (byte ∷ text) ≡ byte ∷ text =
    sym (front_parts is_in_line (byte ∷ text) ∙ ap (λ (bytes : List ℕ). take_while is_in_line (byte ∷ text) ++ bytes) none ∙ append-nil (take_while is_in_line (byte ∷ text))) in
    let lines_are : lines (byte ∷ text) ≡ (byte ∷ text) ∷ [] =
    one_line byte text none ∙ ap (λ (bytes : List ℕ). bytes ∷ []) (front_take (byte ∷ text) ∙ all) in
    let f = with_read (found_in number (byte ∷ text)) (Ok []) steps (ap (steps_from number) (sym lines_are) ∙ is) in
    let blank : [] ≡ f.others = let more : Ok [] ≡ Ok f.others = f.more_is in cc in
    let same : option_to_list f.found ≡ steps =
    sym (append-nil (option_to_list f.found)) ∙ ap (λ (others : List Step). option_to_list f.found ++ others) blank ∙ f.all in
    subst (SpellsSteps (byte ∷ text)) same (last (byte ∷ text) f.found
    (subst (λ (bytes : List ℕ). list_all is_in_line bytes ≡ true) all (front_passes is_in_line (byte ∷ text)))
    (found_read number (byte ∷ text) f.found f.here_is))

-- a line and those behind it
line_more : (number : ℕ) (text : List ℕ) (feed : ℕ) (rest : List ℕ) (steps : List Step) → behind is_in_line text ≡ feed ∷ rest
    → ((others : List Step) → steps_from (cut (number + 1)) (lines rest) ≡ Ok others → SpellsSteps rest others)
    → steps_from number (lines text) ≡ Ok steps → SpellsSteps text steps
line_more number text feed rest steps left go is =
    let front : List ℕ = take_while is_in_line text in
    let stop : stops is_in_line (feed ∷ rest) ≡ true = ap (stops is_in_line) (sym left) ∙ behind_stops is_in_line text in
    let feed_is : feed ≡ 10 = same_byte feed 10 (not_not (feed == 10) stop) in
    let lines_are : lines text ≡ without_return front ∷ lines rest =
    feed_line text feed rest left ∙ ap (λ (bytes : List ℕ). without_return bytes ∷ lines rest) (front_take text) in
    let f = with_read (found_in number (without_return front)) (steps_from (cut (number + 1)) (lines rest)) steps (ap (steps_from number) (sym lines_are) ∙ is) in
    let parts : text ≡ front ++ 10 ∷ rest =
    front_parts is_in_line text ∙ ap (λ (bytes : List ℕ). front ++ bytes) (left ∙ ap (λ (byte : ℕ). byte ∷ rest) feed_is) in
    subst (λ (bytes : List ℕ). SpellsSteps bytes steps) (sym parts) (subst (SpellsSteps (front ++ 10 ∷ rest)) f.all
    (line front rest f.found f.others (front_passes is_in_line text) (found_read number (without_return front) f.found f.here_is)
    (go f.others f.more_is)))

behind_length : (text : List ℕ) (feed : ℕ) (rest : List ℕ) → behind is_in_line text ≡ feed ∷ rest → length (feed ∷ rest) ≤ length text
behind_length text feed rest left = subst (λ (bytes : List ℕ). length bytes ≤ length text) left (drop_length (front_length is_in_line text) text)

text_left : (number : ℕ) (text : List ℕ) (steps : List Step) → steps_from number (lines text) ≡ Ok steps
    → ((feed : ℕ) (rest : List ℕ) → behind is_in_line text ≡ feed ∷ rest → (others : List Step) → steps_from (cut (number + 1)) (lines rest) ≡ Ok others → SpellsSteps rest others)
    → (left : List ℕ) → behind is_in_line text ≡ left → SpellsSteps text steps
text_left number text steps is go [] left = last_read number text steps left is
text_left number text steps is go (feed ∷ rest) left = line_more number text feed rest steps left (go feed rest left) is

text_read : (n number : ℕ) (text : List ℕ) (steps : List Step) → length text ≤ n → steps_from number (lines text) ≡ Ok steps → SpellsSteps text steps
text_read zero number text steps few is =
    text_left number text steps is (λ feed rest left others found.
    let less = behind_length text feed rest left in absurd (omega (arith, less, few))) (behind is_in_line text) refl
text_read (suc n) number text steps few is =
    text_left number text steps is (λ feed rest left others found.
    let less = behind_length text feed rest left in
    text_read n (cut (number + 1)) rest others (omega (arith, less, few)) found) (behind is_in_line text) refl

pub read_spelled : (text : List ℕ) (steps : List Step) → steps_of text ≡ Ok steps → SpellsSteps text steps
unfolding steps_of
read_spelled text steps is = text_read (length text) 1 text steps (omega arith) is
