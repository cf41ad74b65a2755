-- The faults of names and groups, one after the other.
use Rattle.std.proofs.Common.{◌≡◌, ℕ, ◌+◌, ◌<◌, length, List, [], ◌∷◌, ◌++◌, drop, get_or, slice_get, Option, Some, refl, ap, sym, ◌∙◌}
use Rattle.std.specs.Prelude.{Result, Ok, Err, IfErr, IsErrAnd}
use Rattle.std.proofs.lemmas.List.{drop_more}
use Rattle.pddl_lex.specs.Parses.{first, behind}
use Rattle.pddl_parse.specs.declared.raw.Ident.{Ident}
use Rattle.pddl_parse.specs.declared.raw.RawGroup.{RawGroup}
use Rattle.up_text.specs.declared.name.Name.{Name}
use Rattle.up_phrase.specs.declared.fault.Fault.{Fault}
use Rattle.up_phrase.specs.declared.fault.Fault.TheVariants.{Memory}
use Rattle.up_phrase.specs.Scopes.{type_named}
use Rattle.up_phrase.specs.Walks.{Checked}
use Rattle.up_declare.specs.Types.{Types, with_type, with_names, fault_at, name_faults, type_faults}

pub head_append : (fs gs : List Fault) (fault : Fault) → slice_get fs 0 ≡ Some fault → slice_get (fs ++ gs) 0 ≡ Some fault
head_append [] gs fault e = cc
head_append (f ∷ fs) gs fault e = e

pub first_behind : {A : Type 0} (fs : List Fault) (v : Checked A) (fault : Fault) → slice_get fs 0 ≡ Some fault → first (behind fs v) ≡ Some fault
first_behind [] v fault e = cc
first_behind (f ∷ fs) v fault e = e

-- one more name, in a loop that stands at an index
pub names_on : (types seen more : Types) (parent : Name) (items : List Ident) (index : ℕ) (x : Ident)
    → index < length items → x ≡ get_or items index x → fault_at types seen parent x ≡ [] → more ≡ with_type x.name parent seen
    → name_faults types seen parent (drop index items) ≡ name_faults types more parent (drop (index + 1) items)
names_on types seen more parent items index x within is e grown = rw (grown, drop_more items index x within, ← is, e) refl

pub names_off : (types seen : Types) (parent : Name) (items : List Ident) (index : ℕ) (x : Ident) (fault : Fault)
    → index < length items → x ≡ get_or items index x → fault_at types seen parent x ≡ fault ∷ []
    → slice_get (name_faults types seen parent (drop index items)) 0 ≡ Some fault
names_off types seen parent items index x fault within is e = rw (drop_more items index x within, ← is, e) refl

-- one more group
pub groups_on : (types seen more : Types) (groups : List RawGroup) (index : ℕ) (g : RawGroup)
    → index < length groups → g ≡ get_or groups index g → name_faults types seen (type_named g.of) g.names ≡ []
    → more ≡ with_names (type_named g.of) g.names seen
    → type_faults types seen (drop index groups) ≡ type_faults types more (drop (index + 1) groups)
groups_on types seen more groups index g within is e grown = rw (grown, drop_more groups index g within, ← is, e) refl

pub groups_off : (types seen : Types) (groups : List RawGroup) (index : ℕ) (g : RawGroup) (fault : Fault)
    → index < length groups → g ≡ get_or groups index g → slice_get (name_faults types seen (type_named g.of) g.names) 0 ≡ Some fault
    → slice_get (type_faults types seen (drop index groups)) 0 ≡ Some fault
groups_off types seen groups index g fault within is e =
    rw (drop_more groups index g within, ← is) (head_append (name_faults types seen (type_named g.of) g.names) _ fault e)

-- a fault that `?` hands on, of a traversal of types that are rightly marked
pub handed_if : {T : Type 0} (result : Result T Fault) (fault : Fault) (Right : Type 0) (stop : Option Fault) → IsErrAnd result (λ other. other ≡ fault)
    → (Right → ¬ (fault ≡ Memory) → stop ≡ Some fault) → IfErr result (λ other. Right → ¬ (other ≡ Memory) → stop ≡ Some other)
handed_if (Ok value) fault Right stop is stops = tt
handed_if (Err other) fault Right stop is stops = λ right some. stops right (λ same. some (is ∙ same)) ∙ ap Some (sym is)

pub grown_on : (seen more : Types) (parent : Name) (items : List Ident) (index : ℕ) (x : Ident) → index < length items → x ≡ get_or items index x
    → more ≡ with_type x.name parent seen → with_names parent (drop index items) seen ≡ with_names parent (drop (index + 1) items) more
grown_on seen more parent items index x within is grown = rw (grown, drop_more items index x within, ← is) refl

pub ruleset faults = (head_append, first_behind)
