-- Members after what is stated before them, and where a traversal of them stops.
use Rattle.std.proofs.Common.{◌≡◌, ℕ, ◌+◌, ◌<◌, ◌≤◌, length, List, [], ◌∷◌, ◌++◌, drop, get_or, Some, refl}
use Rattle.std.proofs.lemmas.List.{drop_more, drop_all}
use Rattle.up_text.specs.declared.name.Name.{Name}
use Rattle.pddl_lex.specs.Parses.{parsed, first, behind}
use Rattle.pddl_parse.specs.declared.raw.Ident.{Ident}
use Rattle.pddl_parse.specs.declared.raw.RawInit.{RawInit}
use Rattle.up_phrase.specs.declared.fault.Fault.{Fault}
use Rattle.up_phrase.specs.Declarations.{Declarations}
use Rattle.up_phrase.specs.Lookups.{type_of}
use Rattle.up_phrase.specs.Walks.{Checked}
use Rattle.up_check.specs.declared.lists.Initial.{Initial}
use Rattle.up_check.specs.Initial.{foremost, object_faults, argument_faults, member_faults, with_member, stated}

pub foremost_more : (here others : List Fault) (fault : Fault) → foremost here ≡ Some fault → foremost (here ++ others) ≡ Some fault
foremost_more [] others fault e = cc
foremost_more (f ∷ fs) others fault e = e

pub first_behind : {A : Type 0} (faults : List Fault) (v : Checked A) (fault : Fault) → foremost faults ≡ Some fault → first (behind faults v) ≡ Some fault
first_behind [] v fault e = cc
first_behind (f ∷ fs) v fault e = e

-- one more argument, in a loop that stands at an index
pub argument_on : (names : Declarations) (types others : List Name) (due : Name) (items : List Ident) (index : ℕ) (x : Ident)
    → index < length items → x ≡ get_or items index x → types ≡ due ∷ others → object_faults names due x (type_of names x.name) ≡ []
    → argument_faults names types (drop index items) ≡ argument_faults names others (drop (index + 1) items)
argument_on names types others due items index x within is split e = rw (split, drop_more items index x within, ← is, e) refl

pub argument_off : (names : Declarations) (types others : List Name) (due : Name) (items : List Ident) (index : ℕ) (x : Ident) (fault : Fault)
    → index < length items → x ≡ get_or items index x → types ≡ due ∷ others → object_faults names due x (type_of names x.name) ≡ fault ∷ []
    → foremost (argument_faults names types (drop index items)) ≡ Some fault
argument_off names types others due items index x fault within is split e = rw (split, drop_more items index x within, ← is, e) refl

pub arguments_all : (names : Declarations) (types : List Name) (items : List Ident) (index : ℕ) → length items ≤ index
    → argument_faults names types (drop index items) ≡ []
arguments_all names [] items index done = refl
arguments_all names (due ∷ others) items index done = rw (drop_all index items done) refl

-- one more member
pub stated_on : (names : Declarations) (before more : Initial) (items : List RawInit) (index : ℕ) (x : RawInit)
    → index < length items → x ≡ get_or items index x → member_faults names before x ≡ [] → more ≡ with_member before x
    → stated names before (drop index items) ≡ stated names more (drop (index + 1) items)
stated_on names before more items index x within is e grown = rw (drop_more items index x within, ← is, e, grown) refl

pub stated_off : (names : Declarations) (before : Initial) (items : List RawInit) (index : ℕ) (x : RawInit) (fault : Fault)
    → index < length items → x ≡ get_or items index x → foremost (member_faults names before x) ≡ Some fault
    → first (stated names before (drop index items)) ≡ Some fault
stated_off names before items index x fault within is e = rw (drop_more items index x within, ← is) (first_behind (member_faults names before x) _ fault e)

pub stated_all : (names : Declarations) (before : Initial) (items : List RawInit) (index : ℕ) → length items ≤ index
    → stated names before (drop index items) ≡ parsed before
stated_all names before items index done = rw (drop_all index items done) refl

pub ruleset stating = (foremost_more, first_behind)
