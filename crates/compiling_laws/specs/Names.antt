-- New names.
use Rattle.std.specs.Prelude.{List}
use Rattle.up_text.specs.declared.name.Name.{Name}
use Rattle.up_text.specs.Names.{IsName}
use Rattle.up_text.specs.Fresh.{fresh_name}
use Rattle.up_text.specs.Lists.{Every, Member, Differ}
use Rattle.step_laws.specs.Naming.{Group, with_names, new_names}

-- a fresh name is a name where its base is one, and none of the used ones
pub record IsNew (base : Name) (used : List Name) : Type 0 where
  pub unused : ¬ Member (fresh_name base used) used
  pub name : IsName base → IsName (fresh_name base used)

-- of the actions that the splitting rule names
pub record NewNames (used : List Name) (groups : List Group) : Type 0 where
  pub differ : Differ (new_names (with_names used groups))
  pub names : Every (λ g. IsName g.old.name) groups → Every IsName (new_names (with_names used groups))
