-- What the words of a line say.
use Rattle.std.specs.Prelude.{ℕ, ◌+◌, ◌-◌, ◌*◌, ◌^◌, ◌==◌, ◌&&◌, nat_le, nat_lt, List, [], ◌∷◌, codes, bytes_eq, if◌then◌else◌, Option, Some, None, option_map, option_and_then}
use Rattle.up_text.specs.Names.{is_digit, name_of}
use Rattle.up_tree.specs.Value.{with_both}
use Rattle.up_compiler.specs.declared.id.CompilerId.{CompilerId}
use Rattle.up_compiler.specs.Table.{compiler_of}
use Rattle.up_compiler.specs.declared.back.Entry.{Entry}
use Rattle.up_compiler.specs.declared.back.Item.{Item}
use Rattle.up_compiler.specs.declared.back.Item.TheVariants.{Argument, Object}
use Rattle.up_compiler.specs.declared.back.Target.{Target}
use Rattle.up_compiler.specs.declared.back.Target.TheVariants.{Drop, Keep}

-- a number with one digit more
abbrev pub with_digit : ℕ → ℕ → ℕ
with_digit value byte = value * 10 + (byte - 48)

-- the number whose digits are those of a value and these, where it is below 2^64
abbrev pub more_digits : ℕ → List ℕ → Option ℕ
more_digits value [] = Some value
more_digits value (byte ∷ rest) =
    if is_digit byte && nat_lt (with_digit value byte) (2 ^ 64) then more_digits (with_digit value byte) rest else None

abbrev pub zero_alone : List ℕ → Option ℕ
zero_alone [] = Some 0
zero_alone (byte ∷ rest) = None

-- the number of a decimal without leading zeros
abbrev pub number_of : List ℕ → Option ℕ
number_of [] = None
number_of (byte ∷ rest) = if byte == 48 then zero_alone rest else more_digits 0 (byte ∷ rest)

-- the argument at this place, if there is one
abbrev pub argument_of : ℕ → ℕ → Option Item
argument_of arity place = if nat_le 1 place && nat_le place arity then Some (Argument place) else None

-- `$` and a place, or an object
abbrev pub item_of : ℕ → List ℕ → Option Item
item_of arity [] = None
item_of arity (byte ∷ rest) =
    if byte == 36 then option_and_then (argument_of arity) (number_of rest) else option_map (λ o. Object o) (name_of (byte ∷ rest))

abbrev pub items_of : ℕ → List (List ℕ) → Option (List Item)
items_of arity [] = Some []
items_of arity (word ∷ words) = with_both (λ i items. Some (i ∷ items)) (item_of arity word) (items_of arity words)

-- a name and items
abbrev pub kept_of : ℕ → List (List ℕ) → Option Target
kept_of arity [] = None
kept_of arity (word ∷ words) = with_both (λ name items. Some (Keep name items)) (name_of word) (items_of arity words)

abbrev pub drop_alone : List (List ℕ) → Option Target
drop_alone [] = Some Drop
drop_alone (word ∷ words) = None

-- `drop`, or `keep`, a name and items
abbrev pub target_of : ℕ → List (List ℕ) → Option Target
target_of arity [] = None
target_of arity (word ∷ words) =
    if bytes_eq word (codes "keep") then kept_of arity words
    else if bytes_eq word (codes "drop") then drop_alone words
    else None

abbrev pub entry_to : List ℕ → ℕ → Target → Entry
entry_to action arity target = record { action = action; arity = arity; target = target }

-- a number of arguments and a target
abbrev pub arity_of : List (List ℕ) → List ℕ → Option Entry
arity_of [] action = None
arity_of (word ∷ words) action = option_and_then (λ arity. option_map (entry_to action arity) (target_of arity words)) (number_of word)

abbrev pub action_of : List (List ℕ) → Option Entry
action_of [] = None
action_of (word ∷ words) = option_and_then (arity_of words) (name_of word)

-- `action`, a name, a number of arguments and a target
abbrev pub entry_of : List (List ℕ) → Option Entry
entry_of [] = None
entry_of (word ∷ words) = if bytes_eq word (codes "action") then action_of words else None

abbrev pub stages_of : List (List ℕ) → Option (List CompilerId)
stages_of [] = Some []
stages_of (word ∷ words) = with_both (λ id ids. Some (id ∷ ids)) (compiler_of word) (stages_of words)

-- `chain` and names of compilers
abbrev pub chain_of : List (List ℕ) → Option (List CompilerId)
chain_of [] = None
chain_of (word ∷ words) = if bytes_eq word (codes "chain") then stages_of words else None
