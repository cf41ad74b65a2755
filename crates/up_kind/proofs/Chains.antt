-- Types beside names, and types above types.
use Rattle.std.proofs.Common.{◌≡◌, Bool, true, false, cond, List, [], ◌∷◌, ◌++◌, Option, None, Some, option_map, refl}
use Rattle.std.specs.Prelude.{find}
use Rattle.up_text.specs.declared.name.Name.{Name}
use Rattle.up_text.specs.Names.{same_name}
use Rattle.up_tree.specs.declared.term.Typed.{Typed}
use Rattle.up_tree.specs.Objects.{type_in}

-- the first list's entry, or else the second's
abbrev pub or_else : Option Name → Option Name → Option Name
or_else None other = other
or_else (Some x) other = Some x

pub type_in_both : (xs ys : List Typed) (name : Name) → type_in (xs ++ ys) name ≡ or_else (type_in xs name) (type_in ys name)
type_in_both [] ys name = refl
type_in_both (x ∷ xs) ys name = by (same_name x.name name) (type_in_both xs ys name)
  where
    by : (b : Bool) → type_in (xs ++ ys) name ≡ or_else (type_in xs name) (type_in ys name) → option_map (λ (e : Typed). e.of) (cond b (Some x) (find (λ (e : Typed). same_name e.name name) (xs ++ ys)))
        ≡ or_else (option_map (λ (e : Typed). e.of) (cond b (Some x) (find (λ (e : Typed). same_name e.name name) xs))) (type_in ys name)
    by true behind = refl
    by false behind = behind

pub ruleset scopes = (type_in_both)

pub ruleset chains = (type_in_both)
