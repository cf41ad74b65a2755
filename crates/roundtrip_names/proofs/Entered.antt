-- Written variable lists bring their variables into scope.
use Rattle.std.proofs.Common.{◌≡◌, Bool, true, false, cond, List, [], ◌∷◌, ◌++◌, map, Option, Some, None, option_map, refl, ap, sym, subst, ◌∙◌, append_assoc, inl, inr}
use Rattle.std.specs.Prelude.{is_some, IsSome}
use Rattle.std.specs.Map.{lookup}
use Rattle.std.specs.Cmp.Lexicographic.{bytes_decides}
use Rattle.std.proofs.lemmas.Bool.{false≢true}
use Rattle.std.proofs.lemmas.List.{append-nil}
use Rattle.std.proofs.Math.Seq.{drop-append_seam}
use Rattle.up_text.specs.declared.name.Name.{Name}
use Rattle.up_text.specs.Names.{same_name}
use Rattle.up_text.specs.Lists.{Every, Member, Differ}
use Rattle.up_tree.specs.declared.term.Typed.{Typed}
use Rattle.up_tree.specs.declared.problem.Parts.{Parts}
use Rattle.up_tree.specs.Objects.{named, type_in}
use Rattle.up_tree.specs.WellFormed.{IsType, AreVariables}
use Rattle.pddl_lex.specs.Parses.{parsed}
use Rattle.pddl_parse.specs.declared.raw.Ident.{Ident}
use Rattle.pddl_parse.specs.declared.raw.RawGroup.{RawGroup}
use Rattle.up_phrase.specs.Conditions.{bound}
use Rattle.up_phrase.specs.Declarations.{Declarations}
use Rattle.up_phrase.specs.Lookups.{is_type}
use Rattle.up_phrase.specs.Named.{object}
use Rattle.up_phrase.specs.Scopes.{Variables, variable_type, entered, entered_groups, typed}
use Rattle.roundtrip_shapes.specs.Raw.{at, AreRawNames, no_names, more_names, AreRawGroups, no_groups, more_groups, one_group}
use Rattle.roundtrip_names.specs.Declared.{entry, Declares, SameScope, TypesWritten}
use Rattle.roundtrip_names.proofs.Found.{or_true, entry_found}

-- ---- one list after another

unfoldable pub or_else : {X : Type 0} → Option X → Option X → Option X
or_else None b = b
or_else (Some a) b = Some a

module _ {Y : Type 0} (name : Name) where
  pub lookup-append : (xs ys : List (Name × Y)) → lookup (same_name name) (xs ++ ys) ≡ or_else (lookup (same_name name) xs) (lookup (same_name name) ys)
  unfolding or_else
  lookup-append [] ys = refl
  lookup-append (x ∷ xs) ys = by (same_name name x.0) (lookup-append xs ys)
    where
      by : (b : Bool) → lookup (same_name name) (xs ++ ys) ≡ or_else (lookup (same_name name) xs) (lookup (same_name name) ys)
          → cond b (Some x.1) (lookup (same_name name) (xs ++ ys)) ≡ or_else (cond b (Some x.1) (lookup (same_name name) xs)) (lookup (same_name name) ys)
      by true rest = refl
      by false rest = rest

type_in-append : (name : Name) (xs ys : List Typed) → type_in (xs ++ ys) name ≡ or_else (type_in xs name) (type_in ys name)
unfolding or_else
type_in-append name [] ys = refl
type_in-append name (x ∷ xs) ys = by (same_name x.name name) (type_in-append name xs ys)
  where
    by : (b : Bool) → type_in (xs ++ ys) name ≡ or_else (type_in xs name) (type_in ys name)
        → option_map (λ (e : Typed). e.of) (cond b (Some x) (named (xs ++ ys) name)) ≡ or_else (option_map (λ (e : Typed). e.of) (cond b (Some x) (named xs name))) (type_in ys name)
    by true rest = refl
    by false rest = rest

-- where the second is none as soon as the first is some, either may come first
either_first : {X : Type 0} (a b : Option X) → (IsSome a → b ≡ None) → or_else b a ≡ or_else a b
unfolding or_else
either_first None None apart = refl
either_first None (Some b) apart = refl
either_first (Some a) b apart = rw (apart refl) refl

-- ---- names that are new

pub none_typed : (entries : List Typed) (name : Name) → ¬ Member name (map (λ (e : Typed). e.name) entries) → type_in entries name ≡ None
none_typed [] name out = refl
none_typed (x ∷ entries) name out = by (same_name x.name name) refl (none_typed entries name (λ m. out (inr m)))
  where
    by : (b : Bool) → same_name x.name name ≡ b → type_in entries name ≡ None → option_map (λ (e : Typed). e.of) (cond b (Some x) (named entries name)) ≡ None
    by true same rest = absurd (out (inl (sym ((bytes_decides x.name name).0 same))))
    by false same rest = rest

-- the name of a new variable isn't in scope
new_outside : (scope new : List Typed) (name : Name) → Every (λ v. ¬ Member v.name (map (λ w. w.name) scope)) new → IsSome (type_in new name) → type_in scope name ≡ None
new_outside scope [] name fresh some = absurd (false≢true some)
new_outside scope (v ∷ new) name fresh some = by (same_name v.name name) refl (new_outside scope new name fresh.1) some
  where
    by : (b : Bool) → same_name v.name name ≡ b → (IsSome (type_in new name) → type_in scope name ≡ None)
        → IsSome (option_map (λ (e : Typed). e.of) (cond b (Some v) (named new name))) → type_in scope name ≡ None
    by true same rest some = subst (λ n. type_in scope n ≡ None) ((bytes_decides v.name name).0 same) (none_typed scope v.name fresh.0)
    by false same rest some = rest some

-- the scope of a tree with the new variables in front is that of the walk with them after
pub scope_grown : (scope new : List Typed) (vars : Variables) → SameScope scope vars → Every (λ v. ¬ Member v.name (map (λ w. w.name) scope)) new
    → SameScope (new ++ scope) (vars ++ map entry new)
scope_grown scope new vars same fresh name =
    lookup-append name vars (map entry new)
    ∙ ap (λ o. or_else o (lookup (same_name name) (map entry new))) (same name)
    ∙ ap (or_else (type_in scope name)) (entry_found new name)
    ∙ either_first (type_in new name) (type_in scope name) (new_outside scope new name fresh)
    ∙ sym (type_in-append name new scope)

-- none of the variables is in scope
abbrev pub Free : Variables → List Typed → Type 0
Free vars new = Every (λ v. variable_type vars v.name ≡ None) new

pub fresh_free : (scope new : List Typed) (vars : Variables) → SameScope scope vars → Every (λ v. ¬ Member v.name (map (λ w. w.name) scope)) new → Free vars new
fresh_free scope [] vars same fresh = tt
fresh_free scope (v ∷ new) vars same fresh = (same v.name ∙ none_typed scope v.name fresh.0, fresh_free scope new vars same fresh.1)

pub still_free : (vars : Variables) (name of : Name) (new : List Typed) → ¬ Member name (map (λ v. v.name) new) → Free vars new → Free (vars ++ (name, of) ∷ []) new
unfolding or_else
still_free vars name of [] out free = tt
still_free vars name of (w ∷ new) out free = (
  lookup-append w.name vars ((name, of) ∷ []) ∙ ap (λ o. or_else o (lookup (same_name w.name) ((name, of) ∷ []))) free.0 ∙ by (same_name w.name name) refl,
  still_free vars name of new (λ m. out (inr m)) free.1,
)
  where
    by : (b : Bool) → same_name w.name name ≡ b → or_else None (cond b (Some of) None) ≡ None
    by true is = absurd (out (inl (sym ((bytes_decides w.name name).0 is))))
    by false is = refl

-- ---- lists

names_entered : (of : Name) (new : List Typed) (idents : List Ident) (vars : Variables) → AreRawNames new idents → Free vars new → Differ (map (λ v. v.name) new)
    → entered [] of idents vars ≡ parsed (vars ++ map (λ (v : Typed). (v.name, of)) new)
names_entered of [] _ vars no_names free differ = ap parsed (sym (append-nil vars))
names_entered of (v ∷ new) _ vars (more_names _ _ _ idents (at place) are) free differ =
    rw free.0 (names_entered of new idents (vars ++ (v.name, of) ∷ []) are (still_free vars v.name of new differ.0 free.1) differ.1
    ∙ ap parsed (append_assoc vars ((v.name, of) ∷ []) (map (λ (v : Typed). (v.name, of)) new)))

pub all_top : (new : List Typed) → Every (λ v. v.of ≡ object) new → map (λ (v : Typed). (v.name, object)) new ≡ map entry new
all_top [] tops = refl
all_top (v ∷ new) tops = rw (tops.0, all_top new tops.1) refl

pub map_back : (new : List Typed) → map typed (map entry new) ≡ new
map_back [] = refl
map_back (v ∷ new) = ap (λ rest. v ∷ rest) (map_back new)

-- the variables of the list are those that the scope has more
pub bound_new : (vars : Variables) (new : List Typed) → bound vars (vars ++ map entry new) ≡ new
bound_new vars new = ap (map typed) (drop-append_seam vars (map entry new)) ∙ map_back new

pub type_present : (p : Parts) (t : Name) → IsSome (named p.types t) → is_some (lookup (same_name t) (map entry p.types)) ≡ true
type_present p t some = ap is_some (entry_found p.types t) ∙ by (named p.types t) some
  where
    by : (o : Option Typed) → IsSome o → is_some (option_map (λ (e : Typed). e.of) o) ≡ true
    by None some = some
    by (Some e) some = refl

pub type_listed : (names : Declarations) (p : Parts) → names.types ≡ map entry p.types → (t : Name) → IsType p t → is_type names t ≡ true
type_listed names p are t (inl top) = rw ((bytes_decides t object).1 top) refl
type_listed names p are t (inr some) = or_true _ _ (ap (λ ts. is_some (lookup (same_name t) ts)) are ∙ type_present p t some)

-- where no type is declared, all are the top one
pub only_top : (p : Parts) → p.types ≡ [] → (new : List Typed) → Every (λ v. IsType p v.of) new → Every (λ v. v.of ≡ object) new
only_top p none [] types = tt
only_top p none (v ∷ new) types = (by types.0, only_top p none new types.1)
  where
    by : IsType p v.of → v.of ≡ object
    by (inl top) = top
    by (inr some) = absurd (false≢true (subst (λ ts. IsSome (named ts v.of)) none some))

module _ (names : Declarations) (p : Parts) (objects : List Typed) (agree : Declares names p objects) where
  pub type_known : (t : Name) → IsType p t → is_type names t ≡ true
  type_known = type_listed names p agree.types

  pub groups_entered : (written : Bool) → TypesWritten written p → (new : List Typed) (groups : List RawGroup) (vars : Variables) → AreRawGroups written new groups
      → Free vars new → Differ (map (λ v. v.name) new) → Every (λ v. IsType p v.of) new → entered_groups names [] groups vars ≡ parsed (vars ++ map entry new)
  groups_entered _ all [] _ vars (no_groups written) free differ types = ap parsed (sym (append-nil vars))
  groups_entered _ all (v ∷ new) _ vars (more_groups _ _ _ _ groups (at place) (at there) are) free differ types =
      rw (free.0, type_known v.of types.0)
      (groups_entered true all new groups (vars ++ (v.name, v.of) ∷ []) are (still_free vars v.name v.of new differ.0 free.1) differ.1 types.1
      ∙ ap parsed (append_assoc vars ((v.name, v.of) ∷ []) (map entry new)))
  groups_entered _ all (v ∷ new) _ vars (one_group _ _ idents are) free differ types =
      rw (names_entered object (v ∷ new) idents vars are free differ) (ap (λ es. parsed (vars ++ es)) (all_top (v ∷ new) (only_top p (all refl) (v ∷ new) types)))

  -- variables that may stand in this scope
  pub variables_entered : (written : Bool) → TypesWritten written p → (scope new : List Typed) → AreVariables p scope new → (groups : List RawGroup) → AreRawGroups written new groups
      → (vars : Variables) → SameScope scope vars → entered_groups names [] groups vars ≡ parsed (vars ++ map entry new)
  variables_entered written all scope new are groups so vars same =
      groups_entered written all new groups vars so (fresh_free scope new vars same are.fresh) are.differ are.typed
