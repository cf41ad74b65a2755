-- Entries of new actions that fit.
use Rattle.std.specs.Prelude.{◌≤◌, List, map, length}
use Rattle.up_text.specs.Lists.{Member}
use Rattle.up_tree.specs.declared.problem.Parts.{Parts}
use Rattle.up_compiler.specs.Back.{IsBack, AreOf, LeadsTo}
use Rattle.step_laws.specs.Naming.{Stands, entry_of, new_actions}

-- the entries of pairs are those of their new actions, fit, and lead to the old ones
pub record EntriesFit (p : Parts) (pairs : List Stands) : Type 0 where
  pub rows : AreOf (new_actions pairs) (map entry_of pairs)
  pub fit : IsBack (map entry_of pairs)
  pub leads : LeadsTo p (map entry_of pairs)

-- of an action of the problem, with no fewer parameters
abbrev pub StandsIn : Parts → Stands → Type 0
StandsIn p pair = Member pair.old p.actions × (length pair.old.params ≤ length pair.new.params)
