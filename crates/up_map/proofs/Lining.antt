-- Lines as words that single spaces separate.
use Rattle.std.proofs.Common.{◌≡◌, ℕ, ◌<◌, ◌^◌, true, List, [], ◌∷◌, ◌++◌, map, codes, refl, ap, sym, ◌∙◌, append_assoc, arith}
use Rattle.std.specs.Prelude.{decimal}
use Rattle.std.specs.List.{list_all}
use Rattle.std.proofs.lemmas.Bool.{and_parts}
use Rattle.std.proofs.lemmas.Bool.Decides.{nat_tests}
use Rattle.std.proofs.lemmas.List.Folds.{list_all-append}
use Rattle.up_line.specs.Spaced.{spaced}
use Rattle.up_text.specs.Lists.{Every}
use Rattle.up_text.specs.Names.{IsName, is_spelled, is_letter, all_go_on, goes_on}
use Rattle.up_text.proofs.Spelling.{decimal_goes_on}
use Rattle.up_compiler.specs.declared.id.CompilerId.{CompilerId}
use Rattle.up_compiler.specs.declared.id.CompilerId.TheVariants.{Objects, Quantifiers, Conditionals, Disjunctions, Overlaps, Negations, Grounder, Types, Trajectory}
use Rattle.up_compiler.specs.Table.{compiler_name}
use Rattle.up_compiler.specs.declared.back.Entry.{Entry}
use Rattle.up_compiler.specs.declared.back.Item.{Item}
use Rattle.up_compiler.specs.declared.back.Item.TheVariants.{Argument, Object}
use Rattle.up_compiler.specs.declared.back.Target.{Target}
use Rattle.up_compiler.specs.declared.back.Target.TheVariants.{Drop, Keep}
use Rattle.up_compiler.specs.Back.{IsWithin, TargetFits}
use Rattle.up_map.specs.Texts.{item_text, target_text, entry_line, stage_text, chain_line}
use Rattle.up_map.specs.Splits.{is_other, words}
use Rattle.up_map.specs.Spells.{HasName, HasNames, IsEntry}
use Rattle.up_map.proofs.Splitting.{after, joined, are_free, split_joined}
use Rattle.up_map.proofs.Wording.{target_words, entry_words}

after_spaced : {X : Type 0} (text : X → List ℕ) (xs : List X) → after 32 (map text xs) ≡ spaced text xs
after_spaced text [] = refl
after_spaced text (x ∷ xs) = ap (λ (rest : List ℕ). 32 ∷ (text x ++ rest)) (after_spaced text xs)

after_target : (target : Target) → after 32 (target_words target) ≡ target_text target
after_target Drop = refl
after_target (Keep name items) = ap (λ (rest : List ℕ). codes " keep " ++ (name ++ rest)) (after_spaced item_text items)

parts : (name number tail : List ℕ) → ((name ++ 32 ∷ []) ++ number) ++ tail ≡ name ++ 32 ∷ (number ++ tail)
parts name number tail = append_assoc (name ++ 32 ∷ []) number tail ∙ append_assoc name (32 ∷ []) (number ++ tail)

-- the line of an entry is its words
pub entry_joined : (e : Entry) → entry_line e ≡ joined 32 (entry_words e) ++ 10 ∷ []
entry_joined e =
    ap (λ (line : List ℕ). codes "action " ++ (line ++ 10 ∷ []))
    (parts e.action (decimal e.arity) (target_text e.target)
    ∙ ap (λ (tail : List ℕ). e.action ++ 32 ∷ (decimal e.arity ++ tail)) (sym (after_target e.target)))

abbrev pub chain_words : List CompilerId → List (List ℕ)
chain_words stages = codes "chain" ∷ map stage_text stages

pub chain_joined : (stages : List CompilerId) → chain_line stages ≡ joined 32 (chain_words stages) ++ 10 ∷ []
chain_joined stages = ap (λ (rest : List ℕ). codes "chain" ++ (rest ++ 10 ∷ [])) (sym (after_spaced stage_text stages))

-- ---- no spaces and line feeds in words

-- what names are made of is of other kinds
abbrev IsApart : ℕ → Type 0
IsApart at = (byte : ℕ) → goes_on byte ≡ true → is_other at byte ≡ true

no_space : IsApart 32
no_space byte is = grind (arith, nat_tests)

no_feed : IsApart 10
no_feed byte is = grind (arith, nat_tests)

all_free : (at : ℕ) → IsApart at → (bytes : List ℕ) → all_go_on bytes ≡ true → list_all (is_other at) bytes ≡ true
all_free at apart [] is = refl
all_free at apart (byte ∷ bytes) is =
    let (here, others) = and_parts (goes_on byte) (all_go_on bytes) is in
    rw (apart byte here, all_free at apart bytes others) refl

letter_goes_on : (byte : ℕ) → is_letter byte ≡ true → goes_on byte ≡ true
letter_goes_on byte is = rw is refl

all_spelled : (bytes : List ℕ) → is_spelled bytes ≡ true → all_go_on bytes ≡ true
all_spelled [] is = refl
all_spelled (byte ∷ bytes) is =
    let (here, others) = and_parts (is_letter byte) (all_go_on bytes) is in
    rw (letter_goes_on byte here, others) refl

name_free : (at : ℕ) → IsApart at → (name : List ℕ) → IsName name → list_all (is_other at) name ≡ true
name_free at apart name is = all_free at apart name (all_spelled name is.spelled)

decimal_free : (at : ℕ) → IsApart at → (n : ℕ) → n < 2 ^ 64 → list_all (is_other at) (decimal n) ≡ true
decimal_free at apart n small = all_free at apart (decimal n) (decimal_goes_on n small)

item_free : (at arity : ℕ) → IsApart at → is_other at 36 ≡ true → arity < 2 ^ 64 → (item : Item) → IsWithin arity item → HasName item
    → list_all (is_other at) (item_text item) ≡ true
item_free at arity apart dollar small (Argument k) within named = rw (dollar, decimal_free at apart k (omega (arith, small, within.1))) refl
item_free at arity apart dollar small (Object o) within named = name_free at apart o named

items_free : (at arity : ℕ) → IsApart at → is_other at 36 ≡ true → arity < 2 ^ 64 → (items : List Item) → Every (IsWithin arity) items → Every HasName items
    → are_free at (map item_text items) ≡ true
items_free at arity apart dollar small [] within named = refl
items_free at arity apart dollar small (item ∷ items) within named =
    rw (item_free at arity apart dollar small item within.0 named.0, items_free at arity apart dollar small items within.1 named.1) refl

-- the fixed words of lines
record FreeWords (at : ℕ) : Type 0 where
  apart : IsApart at
  dollar : is_other at 36 ≡ true
  drops : list_all (is_other at) (codes "drop") ≡ true
  keeps : list_all (is_other at) (codes "keep") ≡ true
  acts : list_all (is_other at) (codes "action") ≡ true
  chains : list_all (is_other at) (codes "chain") ≡ true

spaces : FreeWords 32
spaces = record { apart = no_space; dollar = refl; drops = refl; keeps = refl; acts = refl; chains = refl }

feeds : FreeWords 10
feeds = record { apart = no_feed; dollar = refl; drops = refl; keeps = refl; acts = refl; chains = refl }

target_free : (at arity : ℕ) → FreeWords at → arity < 2 ^ 64 → (target : Target) → TargetFits arity target → HasNames target
    → are_free at (target_words target) ≡ true
target_free at arity free small Drop fits named = rw free.drops refl
target_free at arity free small (Keep name items) fits named =
    rw (free.keeps, name_free at free.apart name named.0, items_free at arity free.apart free.dollar small items fits named.1) refl

entry_free : (at : ℕ) → FreeWords at → (e : Entry) → TargetFits e.arity e.target → IsEntry e → are_free at (entry_words e) ≡ true
entry_free at free e fits is =
    rw (
      free.acts,
      name_free at free.apart e.action is.action,
      decimal_free at free.apart e.arity is.arity,
      target_free at e.arity free is.arity e.target fits is.target,
    ) refl

stage_free : (id : CompilerId) → (list_all (is_other 32) (compiler_name id) ≡ true) × (list_all (is_other 10) (compiler_name id) ≡ true)
stage_free Objects = (refl, refl)
stage_free Quantifiers = (refl, refl)
stage_free Conditionals = (refl, refl)
stage_free Disjunctions = (refl, refl)
stage_free Overlaps = (refl, refl)
stage_free Negations = (refl, refl)
stage_free Grounder = (refl, refl)
stage_free Types = (refl, refl)
stage_free Trajectory = (refl, refl)

stages_free : (stages : List CompilerId) → (are_free 32 (map stage_text stages) ≡ true) × (are_free 10 (map stage_text stages) ≡ true)
stages_free [] = (refl, refl)
stages_free (id ∷ stages) =
    let (space, feed) = stage_free id in
    let (spaces, feeds) = stages_free stages in
    (rw (space, spaces) refl, rw (feed, feeds) refl)

-- words without line feeds make a line without one
after_free : (at other : ℕ) → is_other at other ≡ true → (pieces : List (List ℕ)) → are_free at pieces ≡ true → list_all (is_other at) (after other pieces) ≡ true
after_free at other apart [] free = refl
after_free at other apart (piece ∷ pieces) free =
    let (here, others) = and_parts (list_all (is_other at) piece) (are_free at pieces) free in
    rw (apart, list_all-append (is_other at) piece (after other pieces), here, after_free at other apart pieces others) refl

pub joined_free : (at other : ℕ) → is_other at other ≡ true → (pieces : List (List ℕ)) → are_free at pieces ≡ true → list_all (is_other at) (joined other pieces) ≡ true
joined_free at other apart [] free = refl
joined_free at other apart (piece ∷ pieces) free =
    let (here, others) = and_parts (list_all (is_other at) piece) (are_free at pieces) free in
    rw (list_all-append (is_other at) piece (after other pieces), here, after_free at other apart pieces others) refl

words_again : (word : List ℕ) (row : List (List ℕ)) → are_free 32 (word ∷ row) ≡ true → words (joined 32 (word ∷ row)) ≡ word ∷ row
words_again word row free =
    let (here, others) = and_parts (list_all (is_other 32) word) (are_free 32 row) free in
    split_joined 32 word row here others

pub entry_line_words : (e : Entry) → TargetFits e.arity e.target → IsEntry e → words (joined 32 (entry_words e)) ≡ entry_words e
entry_line_words e fits is = words_again (codes "action") (e.action ∷ decimal e.arity ∷ target_words e.target) (entry_free 32 spaces e fits is)

pub entry_line_free : (e : Entry) → TargetFits e.arity e.target → IsEntry e → list_all (is_other 10) (joined 32 (entry_words e)) ≡ true
entry_line_free e fits is = joined_free 10 32 refl (entry_words e) (entry_free 10 feeds e fits is)

pub chain_line_words : (stages : List CompilerId) → words (joined 32 (chain_words stages)) ≡ chain_words stages
chain_line_words stages = words_again (codes "chain") (map stage_text stages) (let free = (stages_free stages).0 in rw free refl)

pub chain_line_free : (stages : List CompilerId) → list_all (is_other 10) (joined 32 (chain_words stages)) ≡ true
chain_line_free stages = joined_free 10 32 refl (chain_words stages) (let free = (stages_free stages).1 in rw free refl)
