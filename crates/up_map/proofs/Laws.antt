-- A text spells a map where it has no faulty line.
use Rattle.std.proofs.Common.{◌≡◌, ℕ, ◌+◌, Bool, true, false, cond, List, [], ◌∷◌, ◌++◌, map, codes, Option, Some, None, Result, Ok, Err, refl, ap, sym, ◌∙◌, subst, append_assoc, append-nil, inl, inr}
use Rattle.std.specs.Prelude.{◌||◌, bytes_eq, find}
use Rattle.std.specs.List.{concat}
use Rattle.std.specs.Cmp.Lexicographic.{bytes_decides}
use Rattle.std.proofs.lemmas.Bool.{false≢true}
use Rattle.up_tree.specs.Value.{with_both}
use Rattle.up_text.specs.Fresh.{is_among}
use Rattle.up_text.specs.Lists.{Every, Differ, Member}
use Rattle.up_compiler.specs.declared.id.CompilerId.{CompilerId}
use Rattle.up_compiler.specs.declared.id.CompilerId.TheVariants.{Objects, Quantifiers, Conditionals, Disjunctions, Overlaps, Negations, Grounder, Types, Trajectory}
use Rattle.up_compiler.specs.Table.{compiler_name, compiler_of, all_compilers}
use Rattle.up_compiler.specs.declared.back.Entry.{Entry}
use Rattle.up_compiler.specs.Back.{TargetFits, IsBack}
use Rattle.up_map.specs.declared.map.Map.{Map}
use Rattle.up_map.specs.declared.map_error.MapError.{MapError}
use Rattle.up_map.specs.declared.map_error.MapError.TheVariants.{Bad, DoubleName}
use Rattle.up_map.specs.Texts.{entry_line, entry_lines, stage_text, chain_line, pieces_of_map, map_text}
use Rattle.up_map.specs.Splits.{words, lines}
use Rattle.up_map.specs.Entries.{entry_of, stages_of, chain_of}
use Rattle.up_map.specs.Reading.{is_line, actions, new_entry, and_entry, ended, entries_from, map_with, with_stages, chain_from, map_from, map_of, fault_in, first_fault}
use Rattle.up_map.specs.Spells.{IsEntry, IsMap, MapText}
use Rattle.up_map.proofs.Splitting.{joined, after_joined, joined_split, split_some, split_front}
use Rattle.up_map.proofs.Wording.{entry_words, EntryIs, entry_is, entry_read}
use Rattle.up_map.proofs.Lining.{entry_joined, chain_words, chain_joined, entry_line_words, entry_line_free, chain_line_words, chain_line_free}

-- ---- compilers

stage_read : (id : CompilerId) → compiler_of (compiler_name id) ≡ Some id
unfolding compiler_of all_compilers
stage_read Objects = refl
stage_read Quantifiers = refl
stage_read Conditionals = refl
stage_read Disjunctions = refl
stage_read Overlaps = refl
stage_read Negations = refl
stage_read Grounder = refl
stage_read Types = refl
stage_read Trajectory = refl

stages_read : (stages : List CompilerId) → stages_of (map stage_text stages) ≡ Some stages
stages_read [] = refl
stages_read (id ∷ stages) =
    ap (λ (i : Option CompilerId). with_both (λ id ids. Some (id ∷ ids)) i (stages_of (map stage_text stages))) (stage_read id)
    ∙ ap (λ (is : Option (List CompilerId)). with_both (λ id ids. Some (id ∷ ids)) (Some id) is) (stages_read stages)

find_passes : {X : Type 0} (p : X → Bool) (xs : List X) (x : X) → find p xs ≡ Some x → p x ≡ true
find_passes p [] x is = absurd cc
find_passes p (y ∷ xs) x is = by (p y) refl is (find_passes p xs x)
  where
    by : (b : Bool) → p y ≡ b → cond b (Some y) (find p xs) ≡ Some x → (find p xs ≡ Some x → p x ≡ true) → p x ≡ true
    by true passes go more = let same : y ≡ x = cc in ap p (sym same) ∙ passes
    by false fails go more = more go

stage_is : (word : List ℕ) (id : CompilerId) → compiler_of word ≡ Some id → word ≡ stage_text id
unfolding compiler_of
stage_is word id is = sym ((bytes_decides (compiler_name id) word).0 (find_passes (λ i. bytes_eq (compiler_name i) word) all_compilers id is))

stages_are : (row : List (List ℕ)) (stages : List CompilerId) → stages_of row ≡ Some stages → row ≡ map stage_text stages
stages_are [] stages is = let same : [] ≡ stages = cc in ap (map stage_text) same
stages_are (word ∷ row) stages is = by (compiler_of word) refl (stages_of row) refl is (stages_are row)
  where
    by : (a : Option CompilerId) → compiler_of word ≡ a → (b : Option (List CompilerId)) → stages_of row ≡ b
        → with_both (λ id ids. Some (id ∷ ids)) a b ≡ Some stages → ((ids : List CompilerId) → stages_of row ≡ Some ids → row ≡ map stage_text ids)
        → word ∷ row ≡ map stage_text stages
    by (Some id) one (Some ids) more go others =
        let same : id ∷ ids ≡ stages = cc in
        ap (λ (w : List ℕ). w ∷ row) (stage_is word id one) ∙ ap (λ (ws : List (List ℕ)). stage_text id ∷ ws) (others ids more)
        ∙ ap (map stage_text) same
    by (Some id) one None more go others = absurd cc
    by None one b more go others = absurd cc

chain_is : (row : List (List ℕ)) (stages : List CompilerId) → chain_of row ≡ Some stages → row ≡ chain_words stages
chain_is [] stages is = absurd cc
chain_is (word ∷ row) stages is = by (bytes_eq word (codes "chain")) refl is
  where
    by : (b : Bool) → bytes_eq word (codes "chain") ≡ b → cond b (stages_of row) None ≡ Some stages → word ∷ row ≡ chain_words stages
    by true here go =
        ap (λ (w : List ℕ). w ∷ row) ((bytes_decides word (codes "chain")).0 here) ∙ ap (λ (ws : List (List ℕ)). codes "chain" ∷ ws) (stages_are row stages go)
    by false other go = absurd cc

-- ---- names that differ

among_member : (names : List (List ℕ)) (name : List ℕ) → is_among names name ≡ true → Member name names
among_member [] name is = absurd (false≢true is)
among_member (other ∷ names) name is = by (bytes_eq name other) refl is (among_member names name)
  where
    by : (b : Bool) → bytes_eq name other ≡ b → (b || is_among names name) ≡ true → (is_among names name ≡ true → Member name names)
        → Member name (other ∷ names)
    by true here go more = inl ((bytes_decides name other).0 here)
    by false apart go more = inr (more go)

member_among : (names : List (List ℕ)) (name : List ℕ) → Member name names → is_among names name ≡ true
member_among [] name is = absurd is
member_among (other ∷ names) name (inl same) = let here : bytes_eq name other ≡ true = (bytes_decides name other).1 same in rw here refl
member_among (other ∷ names) name (inr more) = by (bytes_eq name other) (member_among names name more)
  where
    by : (b : Bool) → is_among names name ≡ true → (b || is_among names name) ≡ true
    by true is = refl
    by false is = is

member_behind : (names others : List (List ℕ)) (x y : List ℕ) → Member y names → Member y (names ++ x ∷ others)
member_behind [] others x y is = absurd is
member_behind (name ∷ names) others x y (inl same) = inl same
member_behind (name ∷ names) others x y (inr more) = inr (member_behind names others x y more)

member_there : (names others : List (List ℕ)) (x : List ℕ) → Member x (names ++ x ∷ others)
member_there [] others x = inl refl
member_there (name ∷ names) others x = inr (member_there names others x)

-- a name between others that it differs from
not_among : (names others : List (List ℕ)) (x : List ℕ) → Differ (names ++ x ∷ others) → is_among names x ≡ false
not_among [] others x differ = refl
not_among (name ∷ names) others x differ = by (bytes_eq x name) refl (not_among names others x differ.1)
  where
    by : (b : Bool) → bytes_eq x name ≡ b → is_among names x ≡ false → (b || is_among names x) ≡ false
    by true here rest =
        let same : x ≡ name = (bytes_decides x name).0 here in
        absurd (differ.0 (subst (λ (n : List ℕ). Member n (names ++ x ∷ others)) same (member_there names others x)))
    by false apart rest = rest

member_last : (names : List (List ℕ)) (x y : List ℕ) → Member y (names ++ x ∷ []) → (Member y names → ⊥) → y ≡ x
member_last [] x y (inl same) none = same
member_last [] x y (inr more) none = absurd more
member_last (name ∷ names) x y (inl same) none = absurd (none (inl same))
member_last (name ∷ names) x y (inr more) none = member_last names x y more (λ m. none (inr m))

differ_more : (names : List (List ℕ)) (x : List ℕ) → Differ names → is_among names x ≡ false → Differ (names ++ x ∷ [])
differ_more [] x differ new = (λ m. m, tt)
differ_more (name ∷ names) x differ new = by (bytes_eq x name) refl new (differ_more names x differ.1)
  where
    by : (b : Bool) → bytes_eq x name ≡ b → (b || is_among names x) ≡ false → (is_among names x ≡ false → Differ (names ++ x ∷ []))
        → Differ ((name ∷ names) ++ x ∷ [])
    by true here go more = absurd (false≢true (sym go))
    by false apart go more = (
      λ m.
          let same : name ≡ x = member_last names x name m differ.0 in
          absurd (false≢true (sym apart ∙ (bytes_decides x name).1 (sym same))),
      more go,
    )

actions_more : (entries : List Entry) (others : List Entry) → actions (entries ++ others) ≡ actions entries ++ actions others
actions_more [] others = refl
actions_more (e ∷ entries) others = ap (λ (names : List (List ℕ)). e.action ∷ names) (actions_more entries others)

every_more : (P : Entry → Type 0) (entries : List Entry) (e : Entry) → Every P entries → P e → Every P (entries ++ e ∷ [])
every_more P [] e all is = (is, tt)
every_more P (x ∷ entries) e all is = (all.0, every_more P entries e all.1 is)

pub back_more : (entries : List Entry) (e : Entry) → IsBack entries → is_among (actions entries) e.action ≡ false → TargetFits e.arity e.target
    → IsBack (entries ++ e ∷ [])
back_more entries e is new fits = record {
  differ = subst Differ (sym (actions_more entries (e ∷ []))) (differ_more (actions entries) e.action is.differ new);
  within = every_more (λ (x : Entry). TargetFits x.arity x.target) entries e is.within fits;
}

pub back_none : IsBack []
back_none = record { differ = tt; within = tt }

-- ---- the entries of written lines are read

line_front : (e : Entry) → IsEntry e → TargetFits e.arity e.target → (rest : List ℕ)
    → lines (entry_line e ++ rest) ≡ joined 32 (entry_words e) ∷ lines rest
line_front e is fits rest =
    ap (λ (text : List ℕ). lines (text ++ rest)) (entry_joined e)
    ∙ ap lines (append_assoc (joined 32 (entry_words e)) (10 ∷ []) rest)
    ∙ split_front 10 (joined 32 (entry_words e)) rest (entry_line_free e fits is)

-- what is read of a line that another ends
line_step : (line : List ℕ) (more : List (List ℕ)) (number : ℕ) (before : List Entry) (found : Option Entry) → is_line more ≡ true
    → bytes_eq line (codes "end") ≡ false → entry_of (words line) ≡ found
    → entries_from (line ∷ more) number before ≡ and_entry before (new_entry number (actions before) found) (entries_from more (number + 1))
line_step line more number before found some other is = rw (some, other, is) refl

chain_step : (line : List ℕ) (more : List (List ℕ)) (stages : List CompilerId) → is_line more ≡ true → chain_of (words line) ≡ Some stages
    → chain_from (line ∷ more) ≡ map_with stages (entries_from more 3 [])
chain_step line more stages some is = rw (some, is) refl

head_step : (line : List ℕ) (more : List (List ℕ)) → is_line more ≡ true → bytes_eq line (codes "up-map 1") ≡ true → map_from (line ∷ more) ≡ chain_from more
head_step line more some is = rw (some, is) refl

new_step : (number : ℕ) (names : List (List ℕ)) (e : Entry) → is_among names e.action ≡ false → new_entry number names (Some e) ≡ Ok e
new_step number names e new = rw new refl

entry_at : (e : Entry) (more : List (List ℕ)) (number : ℕ) (before : List Entry) → IsEntry e → TargetFits e.arity e.target
    → is_line more ≡ true → is_among (actions before) e.action ≡ false
    → entries_from (joined 32 (entry_words e) ∷ more) number before ≡ entries_from more (number + 1) (before ++ e ∷ [])
entry_at e more number before is fits some new =
    let found : entry_of (words (joined 32 (entry_words e))) ≡ Some e = ap entry_of (entry_line_words e fits is) ∙ entry_read e fits is in
    line_step (joined 32 (entry_words e)) more number before (Some e) some refl found
    ∙ ap (λ (r : Result Entry MapError). and_entry before r (entries_from more (number + 1))) (new_step number (actions before) e new)

entries_read : (entries before : List Entry) (number : ℕ) → Every IsEntry entries → Every (λ (e : Entry). TargetFits e.arity e.target) entries
    → Differ (actions (before ++ entries)) → entries_from (lines (concat (entry_lines entries))) number before ≡ Ok (before ++ entries)
entries_read [] before number are fit differ = ap (λ (all : List Entry). Ok all) (sym (append-nil before))
entries_read (e ∷ entries) before number are fit differ =
    let rest : List ℕ = concat (entry_lines entries) in
    let apart : Differ (actions before ++ e.action ∷ actions entries) = subst Differ (actions_more before (e ∷ entries)) differ in
    let whole : (before ++ e ∷ []) ++ entries ≡ before ++ e ∷ entries = append_assoc before (e ∷ []) entries in
    ap (λ (all : List (List ℕ)). entries_from all number before) (line_front e are.0 fit.0 rest)
    ∙ entry_at e (lines rest) number before are.0 fit.0 (split_some 10 rest) (not_among (actions before) (actions entries) e.action apart)
    ∙ entries_read entries (before ++ e ∷ []) (number + 1) are.1 fit.1 (subst (λ (all : List Entry). Differ (actions all)) (sym whole) differ)
    ∙ ap (λ (all : List Entry). Ok all) whole

chain_read : (stages : List CompilerId) (rest : List ℕ)
    → chain_from (lines (chain_line stages ++ rest)) ≡ map_with stages (entries_from (lines rest) 3 [])
chain_read stages rest =
    let front : lines (chain_line stages ++ rest) ≡ joined 32 (chain_words stages) ∷ lines rest =
    ap (λ (text : List ℕ). lines (text ++ rest)) (chain_joined stages)
    ∙ ap lines (append_assoc (joined 32 (chain_words stages)) (10 ∷ []) rest)
    ∙ split_front 10 (joined 32 (chain_words stages)) rest (chain_line_free stages) in
    let found : chain_of (words (joined 32 (chain_words stages))) ≡ Some stages = ap chain_of (chain_line_words stages) ∙ stages_read stages in
    ap chain_from front ∙ chain_step (joined 32 (chain_words stages)) (lines rest) stages (split_some 10 rest) found

text_read : (m : Map) → IsMap m → map_of (map_text m) ≡ Ok m
unfolding map_of map_text pieces_of_map
text_read m is =
    let rest : List ℕ = concat (entry_lines m.back) in
    let text : List ℕ = chain_line m.stages.stages ++ rest in
    let head : lines (codes "up-map 1\n" ++ text) ≡ codes "up-map 1" ∷ lines text = split_front 10 (codes "up-map 1") text refl in
    ap map_from head ∙ head_step (codes "up-map 1") (lines text) (split_some 10 text) refl ∙ chain_read m.stages.stages rest
    ∙ ap (map_with m.stages.stages) (entries_read m.back [] 3 is.entries is.back.within is.back.differ)

pub spelled_read : (text : List ℕ) (m : Map) → MapText text m → map_of text ≡ Ok m
spelled_read text m spelled = ap map_of spelled.lines ∙ text_read m spelled.is_map

-- ---- what is read is spelled

record EntriesAre (pieces : List (List ℕ)) (before entries : List Entry) : Type 0 where
  found : List Entry
  all : entries ≡ before ++ found
  text : joined 10 pieces ≡ concat (entry_lines found)
  are : Every IsEntry found
  back : IsBack entries

ended_is : (number : ℕ) (before entries : List Entry) (more : List (List ℕ)) → IsBack before → ended number before more ≡ Ok entries
    → EntriesAre (codes "end" ∷ more) before entries
ended_is number before entries [] back is = absurd cc
ended_is number before entries ([] ∷ []) back is =
    let same : before ≡ entries = cc in
    record { found = []; all = sym same ∙ sym (append-nil before); text = refl; are = tt; back = subst IsBack same back }
ended_is number before entries ([] ∷ next ∷ more) back is = absurd cc
ended_is number before entries ((byte ∷ piece) ∷ more) back is = absurd cc

line_is : (line : List ℕ) (e : Entry) → EntryIs (words line) e → line ++ 10 ∷ [] ≡ entry_line e
line_is line e is =
    ap (λ (text : List ℕ). text ++ 10 ∷ []) (sym (joined_split 32 line) ∙ ap (joined 32) is.text) ∙ sym (entry_joined e)

with_line : (line : List ℕ) (more : List (List ℕ)) (before entries : List Entry) (e : Entry) → is_line more ≡ true → EntryIs (words line) e
    → EntriesAre more (before ++ e ∷ []) entries → EntriesAre (line ∷ more) before entries
with_line line more before entries e some is rest = record {
  found = e ∷ rest.found;
  all = rest.all ∙ append_assoc before (e ∷ []) rest.found;
  text = ap (λ (tail : List ℕ). line ++ tail) (after_joined 10 more some)
      ∙ sym (append_assoc line (10 ∷ []) (joined 10 more))
      ∙ ap (λ (text : List ℕ). text ++ joined 10 more) (line_is line e is)
      ∙ ap (λ (tail : List ℕ). entry_line e ++ tail) rest.text;
  are = (is.is_entry, rest.are);
  back = rest.back;
}

-- the lines behind a line give the entries behind its own
abbrev Others : List (List ℕ) → ℕ → List Entry → List Entry → Type 0
Others more number before entries =
    (e : Entry) → IsBack (before ++ e ∷ []) → entries_from more (number + 1) (before ++ e ∷ []) ≡ Ok entries → EntriesAre more (before ++ e ∷ []) entries

entries_are : (pieces : List (List ℕ)) (number : ℕ) (before entries : List Entry) → IsBack before → entries_from pieces number before ≡ Ok entries
    → EntriesAre pieces before entries
entries_are [] number before entries back is = absurd cc
entries_are (line ∷ more) number before entries back is =
    by_line (is_line more) refl (λ e. entries_are more (number + 1) (before ++ e ∷ []) entries) is
  where
    by_among : (e : Entry) (a : Bool) → is_among (actions before) e.action ≡ a → EntryIs (words line) e → is_line more ≡ true → Others more number before entries
        → and_entry before (cond a (Err (DoubleName number)) (Ok e)) (entries_from more (number + 1)) ≡ Ok entries → EntriesAre (line ∷ more) before entries
    by_among e true there i some others go = absurd cc
    by_among e false new i some others go = with_line line more before entries e some i (others e (back_more before e back new i.fits) go)

    by_entry : (found : Option Entry) → entry_of (words line) ≡ found → is_line more ≡ true → Others more number before entries
        → and_entry before (new_entry number (actions before) found) (entries_from more (number + 1)) ≡ Ok entries → EntriesAre (line ∷ more) before entries
    by_entry None none some others go = absurd cc
    by_entry (Some e) one some others go = by_among e (is_among (actions before) e.action) refl (entry_is (words line) e one) some others go

    by_end : (b : Bool) → bytes_eq line (codes "end") ≡ b → is_line more ≡ true → Others more number before entries
        → cond b (ended (number + 1) before more) (and_entry before (new_entry number (actions before) (entry_of (words line))) (entries_from more (number + 1))) ≡ Ok entries
        → EntriesAre (line ∷ more) before entries
    by_end true here some others go =
        subst (λ (l : List ℕ). EntriesAre (l ∷ more) before entries) (sym ((bytes_decides line (codes "end")).0 here)) (ended_is (number + 1) before entries more back go)
    by_end false other some others go = by_entry (entry_of (words line)) refl some others go

    by_line : (b : Bool) → is_line more ≡ b → Others more number before entries
        → cond b (cond (bytes_eq line (codes "end")) (ended (number + 1) before more) (and_entry before (new_entry number (actions before) (entry_of (words line))) (entries_from more (number + 1)))) (Err (Bad number)) ≡ Ok entries
        → EntriesAre (line ∷ more) before entries
    by_line true some others go = by_end (bytes_eq line (codes "end")) refl some others go
    by_line false none others go = absurd cc

pub entries_back : (text : List ℕ) (entries : List Entry) → entries_from (lines text) 3 [] ≡ Ok entries → IsBack entries
entries_back text entries is = (entries_are (lines text) 3 [] entries back_none is).back

map_with_is : (stages : List CompilerId) (found : Result (List Entry) MapError) (m : Map) → map_with stages found ≡ Ok m
    → (stages ≡ m.stages.stages) × (found ≡ Ok m.back)
map_with_is stages (Ok entries) m is =
    let made : Map = record { stages = record { stages = stages }; back = entries } in
    let same : made ≡ m = cc in
    (ap (λ (n : Map). n.stages.stages) same, ap (λ (n : Map). Ok n.back) same)
map_with_is stages (Err fault) m is = absurd cc

record ChainIs (pieces : List (List ℕ)) (m : Map) : Type 0 where
  text : joined 10 pieces ≡ chain_line m.stages.stages ++ concat (entry_lines m.back)
  is_map : IsMap m

chain_are : (pieces : List (List ℕ)) (m : Map) → chain_from pieces ≡ Ok m → ChainIs pieces m
chain_are [] m is = absurd cc
chain_are (line ∷ more) m is = by_line (is_line more) refl is
  where
    by_stages : (found : Option (List CompilerId)) → chain_of (words line) ≡ found → is_line more ≡ true
        → with_stages found (entries_from more 3 []) ≡ Ok m → ChainIs (line ∷ more) m
    by_stages None none some go = absurd cc
    by_stages (Some stages) one some go =
        let parts = map_with_is stages (entries_from more 3 []) m go in
        let e = entries_are more 3 [] m.back back_none parts.1 in
        let row : words line ≡ chain_words m.stages.stages = chain_is (words line) stages one ∙ ap chain_words parts.0 in
        let front : line ++ 10 ∷ [] ≡ chain_line m.stages.stages =
        ap (λ (text : List ℕ). text ++ 10 ∷ []) (sym (joined_split 32 line) ∙ ap (joined 32) row) ∙ sym (chain_joined m.stages.stages) in
        record {
          text = ap (λ (tail : List ℕ). line ++ tail) (after_joined 10 more some)
              ∙ sym (append_assoc line (10 ∷ []) (joined 10 more))
              ∙ ap (λ (text : List ℕ). text ++ joined 10 more) front
              ∙ ap (λ (tail : List ℕ). chain_line m.stages.stages ++ tail) (e.text ∙ ap (λ (all : List Entry). concat (entry_lines all)) (sym e.all));
          is_map = record { back = e.back; entries = subst (Every IsEntry) (sym e.all) e.are };
        }

    by_line : (b : Bool) → is_line more ≡ b → cond b (with_stages (chain_of (words line)) (entries_from more 3 [])) (Err (Bad 2)) ≡ Ok m
        → ChainIs (line ∷ more) m
    by_line true some go = by_stages (chain_of (words line)) refl some go
    by_line false none go = absurd cc

map_are : (pieces : List (List ℕ)) (m : Map) → map_from pieces ≡ Ok m → MapText (joined 10 pieces) m
unfolding map_text pieces_of_map
map_are [] m is = absurd cc
map_are (line ∷ more) m is = by_line (is_line more) refl is
  where
    by_head : (b : Bool) → bytes_eq line (codes "up-map 1") ≡ b → is_line more ≡ true → cond b (chain_from more) (Err (Bad 1)) ≡ Ok m
        → MapText (joined 10 (line ∷ more)) m
    by_head true here some go =
        let c = chain_are more m go in
        record {
          lines = ap (λ (tail : List ℕ). line ++ tail) (after_joined 10 more some)
              ∙ ap (λ (l : List ℕ). l ++ 10 ∷ joined 10 more) ((bytes_decides line (codes "up-map 1")).0 here)
              ∙ ap (λ (tail : List ℕ). codes "up-map 1\n" ++ tail) c.text;
          is_map = c.is_map;
        }
    by_head false other some go = absurd cc

    by_line : (b : Bool) → is_line more ≡ b → cond b (cond (bytes_eq line (codes "up-map 1")) (chain_from more) (Err (Bad 1))) (Err (Bad 1)) ≡ Ok m
        → MapText (joined 10 (line ∷ more)) m
    by_line true some go = by_head (bytes_eq line (codes "up-map 1")) refl some go
    by_line false none go = absurd cc

pub read_spelled : (text : List ℕ) (m : Map) → map_of text ≡ Ok m → MapText text m
unfolding map_of
read_spelled text m is = subst (λ (t : List ℕ). MapText t m) (joined_split 10 text) (map_are (lines text) m is)

-- ---- the law

pub spelled_faultless : (text : List ℕ) (m : Map) → MapText text m → first_fault text ≡ None
spelled_faultless text m spelled = ap fault_in (spelled_read text m spelled)

map_there : (found : Result Map MapError) → fault_in found ≡ None → (m : Map) × (found ≡ Ok m)
map_there (Ok m) none = (m, refl)
map_there (Err fault) none = absurd cc

pub faultless_spelled : (text : List ℕ) → first_fault text ≡ None → (m : Map) × MapText text m
faultless_spelled text none =
    let (m, is) = map_there (map_of text) none in
    (m, read_spelled text m is)

pub spelled_one : (text : List ℕ) (m other : Map) → MapText text m → MapText text other → m ≡ other
spelled_one text m other first second =
    let same : Ok m ≡ Ok other = sym (spelled_read text m first) ∙ spelled_read text other second in
    cc

pub first_there : (text : List ℕ) (fault : MapError) → map_of text ≡ Err fault → first_fault text ≡ Some fault
first_there text fault is = ap fault_in is
