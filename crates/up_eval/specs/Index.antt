-- Tables of a problem's types, objects and actions by name.
use Rattle.std.specs.Prelude.{◌≡◌, ℕ, List, find, Option}
use Rattle.std.specs.Option.{option_copied}
use Rattle.std.specs.Borrow.{Bor}
use Rattle.indexmap.specs.IndexMap.{IndexMap, get}
use Rattle.up_text.specs.Names.{same_name}
use Rattle.up_tree.specs.declared.term.Typed.{Typed}
use Rattle.up_tree.specs.declared.action.Action.{Action}
use Rattle.up_tree.specs.declared.problem.Parts.{Parts}
use Rattle.up_tree.specs.Objects.{named}
use Rattle.up_eval.specs.declared.index.Index.{Index}

-- under each name the first of the entries for it
abbrev pub HasTyped : {S : Type 0} → IndexMap (List ℕ) (Bor Typed) S → List Typed → Type 0
HasTyped table entries = (name : List ℕ) → option_copied (get same_name table name) ≡ named entries name

-- under each name the first of the actions
abbrev pub HasActions : {S : Type 0} → IndexMap (List ℕ) (Bor Action) S → List Action → Type 0
HasActions table actions = (name : List ℕ) → option_copied (get same_name table name) ≡ find (λ a. same_name a.name name) actions

-- the index has the problem's types, objects and actions
pub record IsIndexOf (p : Parts) (index : Index) : Type 0 where
  pub types : HasTyped index.types p.types
  pub objects : HasTyped index.objects p.objects
  pub actions : HasActions index.actions p.actions
