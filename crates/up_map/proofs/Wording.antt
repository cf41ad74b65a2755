-- The words of a line and what they say.
use Rattle.std.proofs.Common.{◌≡◌, ℕ, ◌<◌, ◌≤◌, ◌^◌, Bool, true, false, not, cond, List, [], ◌∷◌, map, codes, Option, Some, None, option_map, option_and_then, refl, ap, sym, ◌∙◌, subst, arith}
use Rattle.std.specs.Prelude.{◌==◌, ◌&&◌, nat_le, decimal, bytes_eq, unwrap_or}
use Rattle.std.specs.Cmp.Lexicographic.{bytes_decides}
use Rattle.std.proofs.lemmas.Bool.{and_parts, false≢true}
use Rattle.std.proofs.lemmas.Bool.Decides.{nat_tests}
use Rattle.up_text.specs.Lists.{Every}
use Rattle.up_text.specs.Names.{IsName, is_name, is_spelled, is_reserved, is_letter, all_go_on, name_of}
use Rattle.up_tree.specs.Value.{with_both}
use Rattle.up_compiler.specs.declared.back.Entry.{Entry}
use Rattle.up_compiler.specs.declared.back.Item.{Item}
use Rattle.up_compiler.specs.declared.back.Item.TheVariants.{Argument, Object}
use Rattle.up_compiler.specs.declared.back.Target.{Target}
use Rattle.up_compiler.specs.declared.back.Target.TheVariants.{Drop, Keep}
use Rattle.up_compiler.specs.Back.{IsWithin, TargetFits}
use Rattle.up_map.specs.Texts.{item_text}
use Rattle.up_map.specs.Spells.{HasName, HasNames, IsEntry}
use Rattle.up_map.specs.Entries.{number_of, argument_of, item_of, items_of, kept_of, drop_alone, target_of, entry_to, arity_of, action_of, entry_of}
use Rattle.up_map.proofs.Numbers.{number_text, decimal_number}

-- ---- options

some_same : {X : Type 0} (x y : X) → Some x ≡ Some y → x ≡ y
some_same x y e = ap (λ o. unwrap_or o x) e

none_apart : {X : Type 0} {x : X} → None ≡ Some x → ⊥
none_apart e = cc

record Both {A B C : Type 0} (f : A → B → Option C) (a : Option A) (b : Option B) (value : C) : Type 0 where
  first : A
  second : B
  first_is : a ≡ Some first
  second_is : b ≡ Some second
  made : f first second ≡ Some value

both : {A B C : Type 0} (f : A → B → Option C) (a : Option A) (b : Option B) (value : C) → with_both f a b ≡ Some value → Both f a b value
both f (Some x) (Some y) value is = record { first = x; second = y; first_is = refl; second_is = refl; made = is }
both f (Some x) None value is = absurd (none_apart is)
both f None b value is = absurd (none_apart is)

record Then {A B : Type 0} (f : A → Option B) (a : Option A) (value : B) : Type 0 where
  first : A
  first_is : a ≡ Some first
  made : f first ≡ Some value

then : {A B : Type 0} (f : A → Option B) (a : Option A) (value : B) → option_and_then f a ≡ Some value → Then f a value
then f (Some x) value is = record { first = x; first_is = refl; made = is }
then f None value is = absurd (none_apart is)

record Mapped {A B : Type 0} (f : A → B) (a : Option A) (value : B) : Type 0 where
  first : A
  first_is : a ≡ Some first
  made : f first ≡ value

mapped : {A B : Type 0} (f : A → B) (a : Option A) (value : B) → option_map f a ≡ Some value → Mapped f a value
mapped f (Some x) value is = record { first = x; first_is = refl; made = some_same _ _ is }
mapped f None value is = absurd (none_apart is)

-- ---- names

pub name_is : (word name : List ℕ) → name_of word ≡ Some name → (word ≡ name) × IsName name
name_is word name is = by_test (is_name word) refl is
  where
    by_test : (b : Bool) → is_name word ≡ b → cond b (Some word) None ≡ Some name → (word ≡ name) × IsName name
    by_test true named go =
        let same : word ≡ name = some_same _ _ go in
        let (spelled, free) = and_parts (is_spelled word) (not (is_reserved word)) named in
        (same, subst IsName same (record { spelled = spelled; free = free }))
    by_test false other go = absurd (none_apart go)

pub name_read : (name : List ℕ) → IsName name → name_of name ≡ Some name
name_read name is = let spelled : is_spelled name ≡ true = is.spelled in let free : not (is_reserved name) ≡ true = is.free in rw (spelled, free) refl

-- ---- items

argument_is : (arity place : ℕ) (item : Item) → argument_of arity place ≡ Some item → (Argument place ≡ item) × IsWithin arity (Argument place)
argument_is arity place item is = by_test (nat_le 1 place && nat_le place arity) refl is
  where
    by_test : (b : Bool) → (nat_le 1 place && nat_le place arity) ≡ b → cond b (Some (Argument place)) None ≡ Some item
        → (Argument place ≡ item) × IsWithin arity (Argument place)
    by_test true within go =
        let (low, high) = and_parts (nat_le 1 place) (nat_le place arity) within in
        let from : 1 ≤ place = grind (arith, nat_tests) in
        let to : place ≤ arity = grind (arith, nat_tests) in
        (some_same _ _ go, (from, to))
    by_test false other go = absurd (none_apart go)

-- an item as it is written
record ItemIs (arity : ℕ) (word : List ℕ) (item : Item) : Type 0 where
  text : word ≡ item_text item
  within : IsWithin arity item
  named : HasName item

same_byte : (one two : ℕ) → (one == two) ≡ true → one ≡ two
same_byte one two is = grind (arith, nat_tests)

item_is : (arity : ℕ) (word : List ℕ) (item : Item) → item_of arity word ≡ Some item → ItemIs arity word item
item_is arity [] item is = absurd (none_apart is)
item_is arity (byte ∷ rest) item is = by_test (byte == 36) refl is
  where
    by_test : (b : Bool) → (byte == 36) ≡ b
        → cond b (option_and_then (argument_of arity) (number_of rest)) (option_map (λ o. Object o) (name_of (byte ∷ rest))) ≡ Some item
        → ItemIs arity (byte ∷ rest) item
    by_test true here go =
        let t = then (argument_of arity) (number_of rest) item go in
        let (text, fits) = number_text rest t.first t.first_is in
        let (same, within) = argument_is arity t.first item t.made in
        subst (ItemIs arity (byte ∷ rest)) same (record {
          text = ap (λ (b : ℕ). b ∷ rest) (same_byte byte 36 here) ∙ ap (λ (digits : List ℕ). 36 ∷ digits) text;
          within = within;
          named = tt;
        })
    by_test false other go =
        let m = mapped (λ (o : List ℕ). Object o) (name_of (byte ∷ rest)) item go in
        let (same, named) = name_is (byte ∷ rest) m.first m.first_is in
        subst (ItemIs arity (byte ∷ rest)) m.made (record { text = same; within = tt; named = named })

-- a name doesn't begin with `$`
object_read : (arity : ℕ) (name : List ℕ) → IsName name → item_of arity name ≡ Some (Object name)
object_read arity [] is = absurd (false≢true is.spelled)
object_read arity (byte ∷ rest) is =
    let (letter, others) = and_parts (is_letter byte) (all_go_on rest) is.spelled in
    let other : (byte == 36) ≡ false = grind (arith, nat_tests) in
    let named : name_of (byte ∷ rest) ≡ Some (byte ∷ rest) = name_read (byte ∷ rest) is in
    rw other (ap (option_map (λ (o : List ℕ). Object o)) named)

item_read : (arity : ℕ) (item : Item) → arity < 2 ^ 64 → IsWithin arity item → HasName item → item_of arity (item_text item) ≡ Some item
item_read arity (Argument place) small within named =
    let number : number_of (decimal place) ≡ Some place = decimal_number place (omega (arith, small, within.1)) in
    let from : nat_le 1 place ≡ true = let low = within.0 in grind (arith, nat_tests) in
    let to : nat_le place arity ≡ true = let high = within.1 in grind (arith, nat_tests) in
    ap (λ (n : Option ℕ). option_and_then (argument_of arity) n) number ∙ rw (from, to) refl
item_read arity (Object name) small within named = object_read arity name named

record ItemsAre (arity : ℕ) (words : List (List ℕ)) (items : List Item) : Type 0 where
  text : words ≡ map item_text items
  within : Every (IsWithin arity) items
  named : Every HasName items

items_are : (arity : ℕ) (words : List (List ℕ)) (items : List Item) → items_of arity words ≡ Some items → ItemsAre arity words items
items_are arity [] items is =
    let same : [] ≡ items = some_same _ _ is in
    subst (ItemsAre arity []) same (record { text = refl; within = tt; named = tt })
items_are arity (word ∷ words) items is =
    let b = both (λ i is. Some (i ∷ is)) (item_of arity word) (items_of arity words) items is in
    let one = item_is arity word b.first b.first_is in
    let more = items_are arity words b.second b.second_is in
    subst (ItemsAre arity (word ∷ words)) (some_same _ _ b.made) (record {
      text = ap (λ (w : List ℕ). w ∷ words) one.text ∙ ap (λ (ws : List (List ℕ)). item_text b.first ∷ ws) more.text;
      within = (one.within, more.within);
      named = (one.named, more.named);
    })

items_read : (arity : ℕ) (items : List Item) → arity < 2 ^ 64 → Every (IsWithin arity) items → Every HasName items → items_of arity (map item_text items) ≡ Some items
items_read arity [] small within named = refl
items_read arity (item ∷ items) small within named =
    ap (λ (i : Option Item). with_both (λ i is. Some (i ∷ is)) i (items_of arity (map item_text items))) (item_read arity item small within.0 named.0)
    ∙ ap (λ (is : Option (List Item)). with_both (λ i is. Some (i ∷ is)) (Some item) is) (items_read arity items small within.1 named.1)

-- ---- targets

abbrev pub target_words : Target → List (List ℕ)
target_words Drop = codes "drop" ∷ []
target_words (Keep name items) = codes "keep" ∷ name ∷ map item_text items

record TargetIs (arity : ℕ) (words : List (List ℕ)) (target : Target) : Type 0 where
  text : words ≡ target_words target
  fits : TargetFits arity target
  named : HasNames target

kept_is : (arity : ℕ) (words : List (List ℕ)) (target : Target) → kept_of arity words ≡ Some target → TargetIs arity (codes "keep" ∷ words) target
kept_is arity [] target is = absurd (none_apart is)
kept_is arity (word ∷ words) target is =
    let b = both (λ name items. Some (Keep name items)) (name_of word) (items_of arity words) target is in
    let (same, named) = name_is word b.first b.first_is in
    let more = items_are arity words b.second b.second_is in
    subst (TargetIs arity (codes "keep" ∷ word ∷ words)) (some_same _ _ b.made) (record {
      text = ap (λ (w : List ℕ). codes "keep" ∷ w ∷ words) same ∙ ap (λ (ws : List (List ℕ)). codes "keep" ∷ b.first ∷ ws) more.text;
      fits = more.within;
      named = (named, more.named);
    })

drop_is : (arity : ℕ) (words : List (List ℕ)) (target : Target) → drop_alone words ≡ Some target → TargetIs arity (codes "drop" ∷ words) target
drop_is arity [] target is =
    subst (TargetIs arity (codes "drop" ∷ [])) (some_same _ _ is) (record { text = refl; fits = tt; named = tt })
drop_is arity (word ∷ words) target is = absurd (none_apart is)

same_bytes : (one two : List ℕ) → bytes_eq one two ≡ true → one ≡ two
same_bytes one two is = (bytes_decides one two).0 is

target_is : (arity : ℕ) (words : List (List ℕ)) (target : Target) → target_of arity words ≡ Some target → TargetIs arity words target
target_is arity [] target is = absurd (none_apart is)
target_is arity (word ∷ words) target is = by_keep (bytes_eq word (codes "keep")) refl is
  where
    by_drop : (b : Bool) → bytes_eq word (codes "drop") ≡ b → cond b (drop_alone words) None ≡ Some target → TargetIs arity (word ∷ words) target
    by_drop true here go =
        subst (λ (w : List ℕ). TargetIs arity (w ∷ words) target) (sym (same_bytes word (codes "drop") here)) (drop_is arity words target go)
    by_drop false other go = absurd (none_apart go)

    by_keep : (b : Bool) → bytes_eq word (codes "keep") ≡ b
        → cond b (kept_of arity words) (cond (bytes_eq word (codes "drop")) (drop_alone words) None) ≡ Some target → TargetIs arity (word ∷ words) target
    by_keep true here go =
        subst (λ (w : List ℕ). TargetIs arity (w ∷ words) target) (sym (same_bytes word (codes "keep") here)) (kept_is arity words target go)
    by_keep false other go = by_drop (bytes_eq word (codes "drop")) refl go

target_read : (arity : ℕ) (target : Target) → arity < 2 ^ 64 → TargetFits arity target → HasNames target → target_of arity (target_words target) ≡ Some target
target_read arity Drop small fits named = refl
target_read arity (Keep name items) small fits named =
    ap (λ (n : Option (List ℕ)). with_both (λ name items. Some (Keep name items)) n (items_of arity (map item_text items))) (name_read name named.0)
    ∙ ap (λ (is : Option (List Item)). with_both (λ name items. Some (Keep name items)) (Some name) is) (items_read arity items small fits named.1)

-- ---- entries

abbrev pub entry_words : Entry → List (List ℕ)
entry_words e = codes "action" ∷ e.action ∷ decimal e.arity ∷ target_words e.target

pub record EntryIs (words : List (List ℕ)) (e : Entry) : Type 0 where
  pub text : words ≡ entry_words e
  pub fits : TargetFits e.arity e.target
  pub is_entry : IsEntry e

arity_is : (words : List (List ℕ)) (action : List ℕ) (e : Entry) → IsName action → arity_of words action ≡ Some e → EntryIs (codes "action" ∷ action ∷ words) e
arity_is [] action e named is = absurd (none_apart is)
arity_is (word ∷ words) action e named is =
    let t = then (λ arity. option_map (entry_to action arity) (target_of arity words)) (number_of word) e is in
    let m = mapped (entry_to action t.first) (target_of t.first words) e t.made in
    let (text, small) = number_text word t.first t.first_is in
    let more = target_is t.first words m.first m.first_is in
    subst (EntryIs (codes "action" ∷ action ∷ word ∷ words)) m.made (record {
      text = ap (λ (w : List ℕ). codes "action" ∷ action ∷ w ∷ words) text
          ∙ ap (λ (ws : List (List ℕ)). codes "action" ∷ action ∷ decimal t.first ∷ ws) more.text;
      fits = more.fits;
      is_entry = record { action = named; arity = small; target = more.named };
    })

action_is : (words : List (List ℕ)) (e : Entry) → action_of words ≡ Some e → EntryIs (codes "action" ∷ words) e
action_is [] e is = absurd (none_apart is)
action_is (word ∷ words) e is =
    let t = then (arity_of words) (name_of word) e is in
    let (same, named) = name_is word t.first t.first_is in
    subst (λ (w : List ℕ). EntryIs (codes "action" ∷ w ∷ words) e) (sym same) (arity_is words t.first e named t.made)

pub entry_is : (words : List (List ℕ)) (e : Entry) → entry_of words ≡ Some e → EntryIs words e
entry_is [] e is = absurd (none_apart is)
entry_is (word ∷ words) e is = by_test (bytes_eq word (codes "action")) refl is
  where
    by_test : (b : Bool) → bytes_eq word (codes "action") ≡ b → cond b (action_of words) None ≡ Some e → EntryIs (word ∷ words) e
    by_test true here go =
        subst (λ (w : List ℕ). EntryIs (w ∷ words) e) (sym (same_bytes word (codes "action") here)) (action_is words e go)
    by_test false other go = absurd (none_apart go)

pub entry_read : (e : Entry) → TargetFits e.arity e.target → IsEntry e → entry_of (entry_words e) ≡ Some e
entry_read e fits is =
    ap (λ (n : Option (List ℕ)). option_and_then (arity_of (decimal e.arity ∷ target_words e.target)) n) (name_read e.action is.action)
    ∙ ap (λ (n : Option ℕ). option_and_then (λ arity. option_map (entry_to e.action arity) (target_of arity (target_words e.target))) n) (decimal_number e.arity is.arity)
    ∙ ap (option_map (entry_to e.action e.arity)) (target_read e.arity e.target is.arity fits is.target)
