-- The entries that convert by the later ones and then by the earlier ones.
use Rattle.std.specs.Prelude.{◌≡◌, ⊤, zero, suc, List, map, length, slice_get, Option, Some, None, unwrap_or, IsSomeAnd}
use Rattle.up_text.specs.Lists.{Every}
use Rattle.up_compiler.specs.declared.back.Entry.{Entry}
use Rattle.up_compiler.specs.declared.back.Item.{Item}
use Rattle.up_compiler.specs.declared.back.Item.TheVariants.{Argument, Object}
use Rattle.up_compiler.specs.declared.back.Target.{Target}
use Rattle.up_compiler.specs.declared.back.Target.TheVariants.{Drop, Keep}
use Rattle.up_compiler.specs.Back.{entry_named}

-- the item that an item of the earlier map becomes
abbrev pub resolved : List Item → Item → Item
resolved items (Argument zero) = Argument zero
resolved items (Argument (suc k)) = unwrap_or (slice_get items k) (Argument zero)
resolved items (Object o) = Object o

abbrev pub through : List Item → Target → Target
through items Drop = Drop
through items (Keep name others) = Keep name (map (resolved items) others)

abbrev pub through_entry : List Item → Option Entry → Target
through_entry items None = Drop
through_entry items (Some e) = through items e.target

abbrev pub composed_target : List Entry → Target → Target
composed_target earlier Drop = Drop
composed_target earlier (Keep name items) = through_entry items (entry_named earlier name)

abbrev pub composed_entry : List Entry → Entry → Entry
composed_entry earlier e = record { action = e.action; arity = e.arity; target = composed_target earlier e.target }

abbrev pub composed : List Entry → List Entry → List Entry
composed earlier later = map (composed_entry earlier) later

-- a kept step has an entry of its number of arguments
abbrev pub MeetsEarlier : List Entry → Target → Type 0
MeetsEarlier earlier Drop = ⊤
MeetsEarlier earlier (Keep name items) = IsSomeAnd (entry_named earlier name) (λ e. length items ≡ e.arity)

abbrev pub Meets : List Entry → List Entry → Type 0
Meets earlier later = Every (λ e. MeetsEarlier earlier e.target) later
