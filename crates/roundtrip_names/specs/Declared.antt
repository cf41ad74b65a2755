-- When what is declared is what a problem's parts say.
use Rattle.std.specs.Prelude.{◌≡◌, Bool, false, List, [], ◌++◌, map, take}
use Rattle.up_text.specs.declared.name.Name.{Name}
use Rattle.up_tree.specs.declared.term.Typed.{Typed}
use Rattle.up_tree.specs.declared.problem.Parts.{Parts}
use Rattle.up_tree.specs.declared.problem.Predicate.{Predicate}
use Rattle.up_tree.specs.declared.problem.Function.{Function}
use Rattle.up_tree.specs.Objects.{type_in}
use Rattle.up_phrase.specs.Declarations.{Declarations}
use Rattle.up_phrase.specs.declared.names.Signature.{Signature}
use Rattle.up_phrase.specs.Scopes.{Variables, variable_type}

-- a name with its type, as it is declared
abbrev pub entry : Typed → Name × Name
entry e = (e.name, e.of)

abbrev pub signature_of : Function → Signature
signature_of d = record { args = d.args; gives = d.gives }

-- the types, predicates and functions of the problem in their order, and those of its objects that may be named, which are its first ones
pub record Declares (names : Declarations) (p : Parts) (objects : List Typed) : Type 0 where
  pub types : names.types ≡ map entry p.types
  pub objects_named : names.objects ≡ map entry objects
  pub predicates : names.predicates ≡ map (λ (d : Predicate). (d.name, d.args)) p.predicates
  pub functions : names.functions ≡ map (λ (d : Function). (d.name, signature_of d)) p.functions
  pub others : List Typed
  pub all_objects : p.objects ≡ objects ++ others

-- each name is a variable of the same type in both, or in none, in whichever order they hold them
abbrev pub SameScope : List Typed → Variables → Type 0
SameScope scope vars = (v : Name) → variable_type vars v ≡ type_in scope v

-- types are left out only where no type is declared
abbrev pub TypesWritten : Bool → Parts → Type 0
TypesWritten typed p = typed ≡ false → p.types ≡ []

-- what was declared, and after it these objects
abbrev pub and_objects : Declarations → List Typed → Declarations
and_objects names new =
    record { types = names.types; objects = names.objects ++ map entry new; predicates = names.predicates; functions = names.functions }

-- what the domain of a problem declares
abbrev pub domain_declarations : Parts → Declarations
domain_declarations p = record {
  types = map entry p.types;
  objects = map entry (take p.constants p.objects);
  predicates = map (λ (d : Predicate). (d.name, d.args)) p.predicates;
  functions = map (λ (d : Function). (d.name, signature_of d)) p.functions;
}

-- what was declared, and after it these functions
abbrev pub with_each : Declarations → List Function → Declarations
with_each names ds = record {
  types = names.types;
  objects = names.objects;
  predicates = names.predicates;
  functions = names.functions ++ map (λ (d : Function). (d.name, signature_of d)) ds;
}
