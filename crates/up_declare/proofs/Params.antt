-- The types of parameters, a group at a time.
use Rattle.std.proofs.Common.{◌≡◌, ℕ, ◌+◌, ◌<◌, length, List, [], ◌++◌, drop, get_or, ◌∙◌}
use Rattle.std.proofs.lemmas.List.{drop_more}
use Rattle.pddl_lex.specs.Parses.{before}
use Rattle.pddl_parse.specs.declared.raw.RawGroup.{RawGroup}
use Rattle.up_text.specs.declared.name.Name.{Name}
use Rattle.up_phrase.specs.Declarations.{Declarations}
use Rattle.up_phrase.specs.Scopes.{type_named, type_fault}
use Rattle.up_phrase.specs.Walks.{Checked}
use Rattle.up_phrase.proofs.Steps.{before_before}
use Rattle.up_declare.specs.Declaring.{each_of, arg_types}

pub types_on : (names : Declarations) (groups : List RawGroup) (index : ℕ) (all : Checked (List Name)) (made more : List Name) (g : RawGroup)
    → index < length groups → g ≡ get_or groups index g → type_fault names g.of ≡ [] → more ≡ made ++ each_of (type_named g.of) g.names
    → all ≡ before made (arg_types names (drop index groups)) → all ≡ before more (arg_types names (drop (index + 1) groups))
types_on names groups index all made more g within is known grown so_far =
    so_far ∙ rw (grown, drop_more groups index g within, ← is, known)
    (before_before made (each_of (type_named g.of) g.names) (arg_types names (drop (index + 1) groups)))
