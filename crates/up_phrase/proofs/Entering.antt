-- Variables brought into scope, one after the other.
use Rattle.std.proofs.Common.{◌≡◌, ℕ, ◌+◌, ◌<◌, ◌≤◌, ◌||◌, Bool, true, false, if◌then◌else◌, length, List, [], ◌∷◌, ◌++◌, map, take, drop, get_or, slice_get, Option, Some, None, is_some, refl, ap, sym, ◌∙◌, append_assoc}
use Rattle.std.proofs.lemmas.List.{drop_more, drop_all, append-nil}
use Rattle.std.proofs.Math.Seq.{take-append_seam}
use Rattle.std.proofs.lemmas.Option.{slice_get_within, get_or_from_slice_get}
use Rattle.std.specs.Map.{lookup}
use Rattle.indexmap.specs.IndexMap.{IndexMap, insert_entry}
use Rattle.indexmap.proofs.CallerLemmas.{insert_entry-new}
use Rattle.up_text.specs.Names.{same_name}
use Rattle.pddl_lex.specs.Parses.{parsed, rejected, first, behind}
use Rattle.pddl_parse.specs.declared.raw.Ident.{Ident}
use Rattle.pddl_parse.specs.declared.raw.RawGroup.{RawGroup}
use Rattle.up_text.specs.declared.name.Name.{Name}
use Rattle.up_tree.specs.declared.term.Typed.{Typed}
use Rattle.up_phrase.specs.declared.fault.Fault.{Fault}
use Rattle.up_phrase.specs.Declarations.{Declarations}
use Rattle.up_phrase.specs.declared.reason.Reason.TheVariants.{Duplicate}
use Rattle.up_phrase.specs.Named.{at}
use Rattle.up_phrase.specs.Scopes.{Variables, is_taken, entered, entered_groups, type_named, type_fault, typed}
use Rattle.up_phrase.specs.Walks.{Checked, after}
use Rattle.up_phrase.proofs.Steps.{first_after}

pub or_false : (b : Bool) → (b || false) ≡ b
or_false true = refl
or_false false = refl

pub none_free : (o : Option Name) (b : Bool) → (is_some o || b) ≡ false → o ≡ None
none_free None b e = refl
none_free (Some n) b e = cc

-- a name that is new comes last
pub inserted : {A S : Type 0} (m : IndexMap Name A S) (name : Name) (value : A) → lookup (same_name name) m.entries ≡ None
    → insert_entry same_name m.entries name value ≡ m.entries ++ (name, value) ∷ []
inserted m name value none = insert_entry-new same_name m name value none

-- one more variable, in a loop that stands at an index
pub entered_on : (barred : List Name) (of : Name) (items : List Ident) (index : ℕ) (vars more : Variables) (x : Ident)
    → index < length items → x ≡ get_or items index x → is_taken barred vars x.name ≡ false → more ≡ vars ++ (x.name, of) ∷ []
    → entered barred of (drop index items) vars ≡ entered barred of (drop (index + 1) items) more
entered_on barred of items index vars more x within is free grown = rw (grown, drop_more items index x within, ← is, free) refl

pub entered_off : (barred : List Name) (of : Name) (items : List Ident) (index : ℕ) (vars : Variables) (x : Ident)
    → index < length items → x ≡ get_or items index x → is_taken barred vars x.name ≡ true
    → first (entered barred of (drop index items) vars) ≡ Some (at x.place Duplicate x.name)
entered_off barred of items index vars x within is taken = rw (drop_more items index x within, ← is, taken) refl

-- one more group
pub groups_on : (names : Declarations) (barred : List Name) (groups : List RawGroup) (index : ℕ) (vars more : Variables) (g : RawGroup)
    → index < length groups → g ≡ get_or groups index g → entered barred (type_named g.of) g.names vars ≡ parsed more → type_fault names g.of ≡ []
    → entered_groups names barred (drop index groups) vars ≡ entered_groups names barred (drop (index + 1) groups) more
groups_on names barred groups index vars more g within is e known = rw (drop_more groups index g within, ← is, e, known) refl

pub groups_off : (names : Declarations) (barred : List Name) (groups : List RawGroup) (index : ℕ) (vars : Variables) (g : RawGroup) (fault : Fault)
    → index < length groups → g ≡ get_or groups index g → first (entered barred (type_named g.of) g.names vars) ≡ Some fault
    → first (entered_groups names barred (drop index groups) vars) ≡ Some fault
groups_off names barred groups index vars g fault within is e =
    rw (drop_more groups index g within, ← is) (first_after (entered barred (type_named g.of) g.names vars) _ fault e)

pub type_off : (names : Declarations) (barred : List Name) (groups : List RawGroup) (index : ℕ) (vars more : Variables) (g : RawGroup) (fault : Fault)
    → index < length groups → g ≡ get_or groups index g → entered barred (type_named g.of) g.names vars ≡ parsed more → type_fault names g.of ≡ fault ∷ []
    → first (entered_groups names barred (drop index groups) vars) ≡ Some fault
type_off names barred groups index vars more g fault within is e unknown = rw (drop_more groups index g within, ← is, e, unknown) refl

-- what is in scope stays in scope, at its place
pub record Extends (vars more : Variables) : Type 0 where
  pub rest : Variables
  pub is : more ≡ vars ++ rest

pub same_parsed : (vars more : Variables) (v : Checked Variables) → v ≡ parsed vars → v ≡ parsed more → more ≡ vars
same_parsed vars more v is e = cc

pub behind_parsed : (faults : List Fault) (v : Checked Variables) (more : Variables) → behind faults v ≡ parsed more → v ≡ parsed more
behind_parsed [] v more e = e
behind_parsed (f ∷ fs) v more e = cc

pub joined : (vars more most : Variables) → Extends vars more → Extends more most → Extends vars most
joined vars more most a b =
    record { rest = a.rest ++ b.rest; is = b.is ∙ ap (λ vs. vs ++ b.rest) a.is ∙ append_assoc vars a.rest b.rest }

pub entered_extends : (barred : List Name) (of : Name) (items : List Ident) (vars more : Variables) → entered barred of items vars ≡ parsed more → Extends vars more
entered_extends barred of [] vars more e = record { rest = []; is = same_parsed vars more (entered barred of [] vars) refl e ∙ sym (append-nil vars) }
entered_extends barred of (x ∷ others) vars more e =
    let on : entered barred of others (vars ++ (x.name, of) ∷ []) ≡ parsed more → Extends vars more =
    λ e. joined vars (vars ++ (x.name, of) ∷ []) more (record { rest = (x.name, of) ∷ []; is = refl })
    (entered_extends barred of others (vars ++ (x.name, of) ∷ []) more e) in
    elim (is_taken barred vars x.name) as (λ t. (if t then rejected (at x.place Duplicate x.name) [] else entered barred of others (vars ++ (x.name, of) ∷ [])) ≡ parsed more → Extends vars more) [
      | true ↦ λ e. cc
      | false ↦ on
    ] e

pub group_extends : (names : Declarations) (barred : List Name) (others : List RawGroup) (faults : List Fault) (vars most : Variables) (v : Checked Variables)
    → ((more : Variables) → v ≡ parsed more → Extends vars more)
    → ((more : Variables) → entered_groups names barred others more ≡ parsed most → Extends more most)
    → after v (λ more. behind faults (entered_groups names barred others more)) ≡ parsed most → Extends vars most
group_extends names barred others faults vars most (parsed more) here on e =
    joined vars more most (here more refl) (on more (behind_parsed faults (entered_groups names barred others more) most e))
group_extends names barred others faults vars most (rejected f fs) here on e = cc

pub groups_extend : (names : Declarations) (barred : List Name) (groups : List RawGroup) (vars most : Variables) → entered_groups names barred groups vars ≡ parsed most
    → Extends vars most
groups_extend names barred [] vars most e = record { rest = []; is = same_parsed vars most (entered_groups names barred [] vars) refl e ∙ sym (append-nil vars) }
groups_extend names barred (g ∷ others) vars most e =
    group_extends names barred others (type_fault names g.of) vars most (entered barred (type_named g.of) g.names vars)
    (λ more. entered_extends barred (type_named g.of) g.names vars more) (λ more. groups_extend names barred others more most) e

pub leaves_entered : (names : Declarations) (barred : List Name) (groups : List RawGroup) (vars most : Variables) → entered_groups names barred groups vars ≡ parsed most
    → take (length vars) most ≡ vars
leaves_entered names barred groups vars most e =
    let grown : Extends vars most = groups_extend names barred groups vars most e in
    ap (take (length vars)) grown.is ∙ take-append_seam vars grown.rest

-- the variables from one on, an entry at a time
pub since_on : (entries : Variables) (index : ℕ) (entry : Name × Name) (all made more : List Typed) → slice_get entries index ≡ Some entry
    → more ≡ made ++ typed entry ∷ [] → all ≡ made ++ map typed (drop index entries) → all ≡ more ++ map typed (drop (index + 1) entries)
since_on entries index entry all made more is grown so_far =
    let here : get_or entries index entry ≡ entry = get_or_from_slice_get entries index entry entry is in
    so_far ∙ rw (grown, drop_more entries index entry (slice_get_within entries index entry is), here) (sym (append_assoc made (typed entry ∷ []) (map typed (drop (index + 1) entries))))

pub since_off : (entries : Variables) (index : ℕ) (all made : List Typed) → length entries ≤ index → all ≡ made ++ map typed (drop index entries) → made ≡ all
since_off entries index all made done so_far = sym (so_far ∙ rw (drop_all index entries done) (append-nil made))

pub ruleset entering = (or_false, inserted, none_free)
