-- What a map text is, said apart from how it is read.
use Rattle.std.specs.Prelude.{◌≡◌, ⊤, ℕ, ◌<◌, ◌^◌, List}
use Rattle.up_text.specs.Lists.{Every}
use Rattle.up_text.specs.Names.{IsName}
use Rattle.up_compiler.specs.declared.back.Item.{Item}
use Rattle.up_compiler.specs.declared.back.Item.TheVariants.{Argument, Object}
use Rattle.up_compiler.specs.declared.back.Target.{Target}
use Rattle.up_compiler.specs.declared.back.Target.TheVariants.{Drop, Keep}
use Rattle.up_compiler.specs.declared.back.Entry.{Entry}
use Rattle.up_compiler.specs.Back.{IsBack}
use Rattle.up_map.specs.declared.map.Map.{Map}
use Rattle.up_map.specs.Texts.{map_text}

abbrev pub HasName : Item → Type 0
HasName (Argument k) = ⊤
HasName (Object o) = IsName o

abbrev pub HasNames : Target → Type 0
HasNames Drop = ⊤
HasNames (Keep name items) = IsName name × Every HasName items

-- an entry of names and of a number of arguments that a machine word holds
pub record IsEntry (e : Entry) : Type 0 where
  pub action : IsName e.action
  pub arity : e.arity < 2 ^ 64
  pub target : HasNames e.target

-- the entries are for different actions, and their items name arguments that are there
pub record IsMap (m : Map) : Type 0 where
  pub back : IsBack m.back
  pub entries : Every IsEntry m.back

-- The text spells the map: it has the map's lines, and nothing else.
pub record MapText (text : List ℕ) (m : Map) : Type 0 where
  pub lines : text ≡ map_text m
  pub is_map : IsMap m
