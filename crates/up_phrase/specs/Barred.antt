-- The variables that a condition binds, which a `forall` below it may not bind again.
use Rattle.std.specs.Prelude.{List, [], ◌++◌, map}
use Rattle.indexmap.specs.IndexSet.{insert_all}
use Rattle.up_text.specs.declared.name.Name.{Name}
use Rattle.up_text.specs.Names.{same_name}
use Rattle.up_tree.specs.declared.formula.Formula.{Formula, And', Or', Atom, Equal, Compare, Row_of-Formula, end_of-Formula, more_of-Formula}
use Rattle.up_tree.specs.declared.term.Typed.{Typed}
use Rattle.up_tree.specs.Nodes.{not, imply, exists, forall}

abbrev pub names_of : List Typed → List Name
names_of vars = map (λ v. v.name) vars

-- the names of the variables that a condition's quantifiers bind, from the outside in and from left to right
unfoldable mutual
  pub binds : Formula → List Name
  binds (And' n fs) = all_bind fs
  binds (Or' n fs) = all_bind fs
  binds (not f) = binds f
  binds (imply f g) = binds f ++ binds g
  binds (exists vars f) = names_of vars ++ binds f
  binds (forall vars f) = names_of vars ++ binds f
  binds (Atom p ts) = []
  binds (Equal t u) = []
  binds (Compare r a b) = []

  pub all_bind : {n : _} → Row_of-Formula n → List Name
  all_bind end_of-Formula = []
  all_bind (more_of-Formula f fs) = binds f ++ all_bind fs

-- names after those that were there before, each once
abbrev pub each_once : List Name → List Name → List Name
each_once before names = insert_all same_name before names
