-- Whether a formula names a predicate, as it is computed.
use Rattle.std.specs.Prelude.{Bool, false, ◌||◌}
use Rattle.up_text.specs.declared.name.Name.{Name}
use Rattle.up_text.specs.Names.{same_name}
use Rattle.up_tree.specs.declared.formula.Formula.{Formula, And', Or', Atom, Equal, Compare, Row_of-Formula, end_of-Formula, more_of-Formula}
use Rattle.up_tree.specs.Nodes.{not, imply, exists, forall}

unfoldable mutual
  pub is_named : Formula → Name → Bool
  is_named (And' n fs) p = is_named_in fs p
  is_named (Or' n fs) p = is_named_in fs p
  is_named (not f) p = is_named f p
  is_named (imply f g) p = is_named f p || is_named g p
  is_named (exists vars f) p = is_named f p
  is_named (forall vars f) p = is_named f p
  is_named (Atom name ts) p = same_name name p
  is_named (Equal t u) p = false
  is_named (Compare r a b) p = false

  pub is_named_in : {n : _} → Row_of-Formula n → Name → Bool
  is_named_in end_of-Formula p = false
  is_named_in (more_of-Formula f fs) p = is_named f p || is_named_in fs p
