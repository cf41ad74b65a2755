-- What types a domain's list of types declares, said apart from how it is checked.
use Rattle.std.specs.Prelude.{◌≡◌, ◌≢◌, List, [], ◌∷◌, ◌++◌, map}
use Rattle.up_text.specs.Lists.{Member}
use Rattle.up_text.specs.declared.name.Name.{Name}
use Rattle.pddl_parse.specs.declared.raw.RawGroup.{RawGroup}
use Rattle.up_phrase.specs.Named.{object}
use Rattle.up_phrase.specs.Scopes.{type_named}

-- types, each with its parent
abbrev pub Parents : Type 0
Parents = List (Name × Name)

-- the types that are listed, in their order, each with the parent that is stated, or `object` where none is
abbrev pub listed : List RawGroup → Parents
listed [] = []
listed (group ∷ others) = map (λ it. (it.name, type_named group.of)) group.names ++ listed others

-- the parents that are stated, in their order, as types under `object`
abbrev pub stated : List RawGroup → Parents
stated groups = map (λ group. (type_named group.of, object)) groups

-- a type's chain of parents reaches `object`
pub data ReachesObject (types : Parents) : Name → Type 0 where
  at_object : ReachesObject types object
  -- a type that stands only as a parent stands under `object`
  unlisted : (name : Name) → ((parent : Name) → ¬ Member (name, parent) types) → ReachesObject types name
  under_parent : (name parent : Name) → Member (name, parent) types → ReachesObject types parent → ReachesObject types name

-- types but `object`, each once, in the order in which they first stand; those of `before` stand already
pub data EachOnce : Parents → Parents → Parents → Type 0 where
  no_types : (before : Parents) → EachOnce before [] []
  object_itself : (before : Parents) (parent : Name) (types kept : Parents)
      → EachOnce before types kept → EachOnce before ((object, parent) ∷ types) kept
  repeated : (before : Parents) (name parent : Name) (types kept : Parents)
      → Member name (map (λ type. type.0) before) → EachOnce before types kept → EachOnce before ((name, parent) ∷ types) kept
  first : (before : Parents) (name parent : Name) (types kept : Parents)
      → name ≢ object → (¬ Member name (map (λ type. type.0) before)) → EachOnce (before ++ (name, parent) ∷ []) types kept
      → EachOnce before ((name, parent) ∷ types) ((name, parent) ∷ kept)

-- A list of types declares types with their parents: those that are listed, and after them those that stand only as parents.
pub record DeclareTypes (groups : List RawGroup) (types : Parents) : Type 0 where
  -- a type may be listed again, but not under another parent
  pub one_parent : (name one two : Name) → Member (name, one) (listed groups) → Member (name, two) (listed groups) → one ≡ two
  -- `object` may be listed, but under no other type
  pub object_on_top : (parent : Name) → Member (object, parent) (listed groups) → parent ≡ object
  -- no chain of parents goes round
  pub no_cycle : (name parent : Name) → Member (name, parent) (listed groups) → ReachesObject (listed groups) name
  pub each_once : EachOnce [] (listed groups ++ stated groups) types
