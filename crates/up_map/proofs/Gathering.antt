-- One more word or line of a text.
use Rattle.std.proofs.Common.{◌≡◌, ℕ, ◌+◌, ◌<◌, ◌≤◌, Bool, true, false, cond, List, [], ◌∷◌, ◌++◌, length, codes, Option, Some, None, option_map, Result, Ok, Err, bytes_eq, refl, ap, sym, ◌∙◌, arith}
use Rattle.std.specs.Prelude.{◌==◌}
use Rattle.std.proofs.lemmas.Bool.{false≢true}
use Rattle.up_compiler.specs.declared.id.CompilerId.{CompilerId}
use Rattle.up_compiler.specs.declared.back.Entry.{Entry}
use Rattle.up_compiler.specs.declared.back.Item.{Item}
use Rattle.up_map.specs.declared.map_error.MapError.{MapError}
use Rattle.up_map.specs.declared.map_error.MapError.TheVariants.{Bad}
use Rattle.up_map.specs.Splits.{in_front, split, pieces, words, lines}
use Rattle.up_map.specs.Entries.{items_of, drop_alone, stages_of, entry_of}
use Rattle.up_map.specs.Reading.{is_line, actions, new_entry, and_entry, ended, entries_from}
use Rattle.up_map.proofs.Splitting.{split_some}

-- ---- words

-- elements in front of more
abbrev pub before : {X : Type 0} → List X → Option (List X) → Option (List X)
before xs more = option_map (λ ys. xs ++ ys) more

-- how much is left to read
abbrev pub left : Option (List ℕ) → ℕ
left None = 0
left (Some text) = length text + 1

-- the items so far stand in front of those of the rest
abbrev pub ItemsSo : ℕ → Option (List ℕ) → List Item → Option (List ℕ) → Type 0
ItemsSo arity text items rest = items_of arity (pieces 32 text) ≡ before items (items_of arity (pieces 32 rest))

-- the compilers so far stand in front of those of the rest
abbrev pub StagesSo : Option (List ℕ) → List CompilerId → Option (List ℕ) → Type 0
StagesSo text stages rest = stages_of (pieces 32 text) ≡ before stages (stages_of (pieces 32 rest))

drop_other : (more : List (List ℕ)) → is_line more ≡ true → None ≡ drop_alone more
drop_other [] some = absurd (false≢true some)
drop_other (word ∷ more) some = refl

-- `drop` isn't alone where words stand behind it
pub drop_none : (words : Option (List ℕ)) (text : List ℕ) → words ≡ Some text → None ≡ drop_alone (pieces 32 words)
drop_none words text is = drop_other (split 32 text) (split_some 32 text) ∙ ap (λ (w : Option (List ℕ)). drop_alone (pieces 32 w)) (sym is)

-- ---- the end

ended_front : (number : ℕ) (entries : List Entry) (byte : ℕ) (more : List (List ℕ)) → ended number entries (in_front byte more) ≡ Err (Bad number)
ended_front number entries byte [] = refl
ended_front number entries byte (line ∷ more) = refl

ended_next : (number : ℕ) (entries : List Entry) (more : List (List ℕ)) → is_line more ≡ true → ended number entries ([] ∷ more) ≡ Err (Bad number)
ended_next number entries [] some = absurd (false≢true some)
ended_next number entries (line ∷ more) some = refl

-- something stands behind the last line
pub ended_more : (number : ℕ) (entries : List Entry) (behind : List ℕ) → 0 < length behind → ended number entries (lines behind) ≡ Err (Bad number)
ended_more number entries [] some = absurd (omega (arith, some))
ended_more number entries (byte ∷ rest) some = by_test (byte == 10)
  where
    by_test : (b : Bool) → ended number entries (cond b ([] ∷ split 10 rest) (in_front byte (split 10 rest))) ≡ Err (Bad number)
    by_test true = ended_next number entries (split 10 rest) (split_some 10 rest)
    by_test false = ended_front number entries byte (split 10 rest)

-- ---- lines

-- a line, behind which stands what a line feed separates from it
pub record Line (rest front behind : List ℕ) : Type 0 where
  pub parts : lines rest ≡ front ∷ lines behind
  pub some : is_line (lines behind) ≡ true

-- a line is cut off in front of a text
pub line_there : (text front rest : List ℕ) (behind : Option (List ℕ)) → split 10 text ≡ front ∷ pieces 10 behind → behind ≡ Some rest → Line text front rest
line_there text front rest behind parts is = record {
  parts = parts ∙ ap (λ (b : Option (List ℕ)). front ∷ pieces 10 b) is;
  some = split_some 10 rest;
}

-- what is read of the text from its third line on is what is read of the rest behind the entries so far
pub record EntriesSo (text : List ℕ) (number : ℕ) (entries : List Entry) (names : List (List ℕ)) (rest : List ℕ) : Type 0 where
  pub same : entries_from (lines text) 3 [] ≡ entries_from (lines rest) number entries
  pub named : names ≡ actions entries
  pub counted : number + length rest ≤ 3 + length text

actions_more : (entries : List Entry) (e : Entry) → actions (entries ++ e ∷ []) ≡ actions entries ++ e.action ∷ []
actions_more [] e = refl
actions_more (first ∷ entries) e = ap (λ (names : List (List ℕ)). first.action ∷ names) (actions_more entries e)

-- the lines from a line on that a line feed ends
cut_line : (rest front behind : List ℕ) (number : ℕ) (entries : List Entry) → lines rest ≡ front ∷ lines behind → is_line (lines behind) ≡ true
    → entries_from (lines rest) number entries ≡ cond (bytes_eq front (codes "end")) (ended (number + 1) entries (lines behind)) (and_entry entries (new_entry number (actions entries) (entry_of (words front))) (entries_from (lines behind) (number + 1)))
cut_line rest front behind number entries parts some = ap (λ (all : List (List ℕ)). entries_from all number entries) parts ∙ rw some refl

-- the line of an entry
entry_line : (text rest front behind : List ℕ) (number : ℕ) (entries : List Entry) (names : List (List ℕ)) (found : Result Entry MapError) → EntriesSo text number entries names rest
    → Line rest front behind → bytes_eq front (codes "end") ≡ false → new_entry number names (entry_of (words front)) ≡ found
    → entries_from (lines text) 3 [] ≡ and_entry entries found (entries_from (lines behind) (number + 1))
entry_line text rest front behind number entries names found so_far line other is =
    so_far.same ∙ cut_line rest front behind number entries line.parts line.some
    ∙ rw other (ap (λ (r : Result Entry MapError). and_entry entries r (entries_from (lines behind) (number + 1)))
    (ap (λ (all : List (List ℕ)). new_entry number all (entry_of (words front))) (sym so_far.named) ∙ is))

pub entry_more : (text rest front behind : List ℕ) (number : ℕ) (entries later : List Entry) (names more : List (List ℕ)) (e : Entry) → EntriesSo text number entries names rest
    → Line rest front behind → bytes_eq front (codes "end") ≡ false → new_entry number names (entry_of (words front)) ≡ Ok e
    → later ≡ entries ++ e ∷ [] → more ≡ names ++ e.action ∷ [] → length behind < length rest → EntriesSo text (number + 1) later more behind
entry_more text rest front behind number entries later names more e so_far line other is added named shorter = record {
  same = entry_line text rest front behind number entries names (Ok e) so_far line other is
      ∙ ap (entries_from (lines behind) (number + 1)) (sym added);
  named = named ∙ ap (λ (all : List (List ℕ)). all ++ e.action ∷ []) so_far.named ∙ sym (actions_more entries e) ∙ ap actions (sym added);
  counted = omega (arith, so_far.counted, shorter);
}
