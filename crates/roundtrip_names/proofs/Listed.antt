-- The types that a written domain lists are the problem's.
use Rattle.std.proofs.Common.{◌≡◌, ℕ, zero, suc, ◌+◌, ◌||◌, Bool, true, false, List, [], ◌∷◌, ◌++◌, map, length, arith, Option, Some, None, option_map, refl, ap, sym, ◌∙◌, append_assoc, inl, inr}
use Rattle.std.specs.Prelude.{unwrap_or, is_some, if◌then◌else◌}
use Rattle.std.specs.Option.{option_map_or}
use Rattle.std.specs.Cmp.Lexicographic.{bytes_decides}
use Rattle.std.proofs.lemmas.Bool.{false_from_ne_true}
use Rattle.std.proofs.lemmas.List.{append-nil, length-map}
use Rattle.up_text.specs.declared.name.Name.{Name}
use Rattle.up_text.specs.Lists.{Every, Member, Differ}
use Rattle.up_tree.specs.declared.term.Typed.{Typed}
use Rattle.up_tree.specs.declared.problem.Parts.{Parts}
use Rattle.up_tree.specs.Objects.{type_in, chain}
use Rattle.up_tree.specs.WellFormed.{top_type, IsType, IsBelow, IsWellFormed}
use Rattle.pddl_lex.specs.Parses.{parsed}
use Rattle.pddl_parse.specs.declared.raw.RawGroup.{RawGroup}
use Rattle.pddl_parse.specs.Forms.{ident_at}
use Rattle.up_phrase.specs.Named.{object, is_object}
use Rattle.up_declare.specs.Types.{Types, parent_in, with_type, with_groups, with_parents, leaves, reaches, fault_at, type_faults, types}
use Rattle.roundtrip_shapes.specs.Raw.{at, AreRawGroups, no_groups, more_groups}
use Rattle.roundtrip_names.specs.Declared.{entry}
use Rattle.roundtrip_names.proofs.Found.{entry_found}
use Rattle.roundtrip_names.proofs.Entered.{Free, still_free, none_typed, type_present}

not_top : (p : Parts) (name : Name) → ¬ (name ≡ top_type) → is_object name ≡ false
not_top p name other = false_from_ne_true _ (λ e. other ((bytes_decides name object).0 e))

-- none is the top type
abbrev NoneTop : List Typed → Type 0
NoneTop new = Every (λ v. ¬ (v.name ≡ top_type)) new

none_top : (new : List Typed) → ¬ Member top_type (map (λ (v : Typed). v.name) new) → NoneTop new
none_top [] out = tt
none_top (v ∷ new) out = (λ e. out (inl (sym e)), none_top new (λ m. out (inr m)))

added : (seen : Types) (name of : Name) → is_object name ≡ false → parent_in seen name ≡ None → with_type name of seen ≡ seen ++ (name, of) ∷ []
added seen name of other free = rw (other, free) refl

groups_listed : (p : Parts) (new : List Typed) (groups : List RawGroup) (seen : Types) → AreRawGroups true new groups → Free seen new → Differ (map (λ v. v.name) new) → NoneTop new
    → with_groups groups seen ≡ seen ++ map entry new
groups_listed p [] _ seen (no_groups _) free differ tops = sym (append-nil seen)
groups_listed p (v ∷ new) _ seen (more_groups _ _ _ _ groups (at place) (at there) are) free differ tops =
    rw (added seen v.name v.of (not_top p v.name tops.0) free.0)
    (groups_listed p new groups (seen ++ (v.name, v.of) ∷ []) are (still_free seen v.name v.of new differ.0 free.1) differ.1 tops.1
    ∙ append_assoc seen ((v.name, v.of) ∷ []) (map entry new))

-- a parent is the top type or is listed
present : (p : Parts) (t : Name) → IsType p t → with_type t object (map entry p.types) ≡ map entry p.types
present p t (inl top) = rw ((bytes_decides t object).1 top) refl
present p t (inr some) = by (is_object t) (is_some (parent_in (map entry p.types) t)) (type_present p t some)
  where
    by : (a b : Bool) → b ≡ true → (if a || b then map entry p.types else map entry p.types ++ (t, object) ∷ []) ≡ map entry p.types
    by true b is = refl
    by false b is = rw is refl

parents_listed : (p : Parts) (new : List Typed) (groups : List RawGroup) → AreRawGroups true new groups → Every (λ v. IsType p v.of) new
    → with_parents groups (map entry p.types) ≡ map entry p.types
parents_listed p [] _ (no_groups _) types = refl
parents_listed p (v ∷ new) _ (more_groups _ _ _ _ groups (at place) (at there) are) types =
    ap (with_parents groups) (present p v.of types.0) ∙ parents_listed p new groups are types.1

-- a chain that holds the top type leaves the list
module _ (p : Parts) (top_free : ¬ Member top_type (map (λ (t : Typed). t.name) p.types)) where
  top_leaves : (n : ℕ) → option_map_or (λ parent. leaves (map entry p.types) n parent) (parent_in (map entry p.types) top_type) true ≡ true
  top_leaves n = rw (entry_found p.types top_type ∙ none_typed p.types top_type top_free) refl

  chain_leaves : (n : ℕ) (t : Name) → Member top_type (chain p.types n t) → leaves (map entry p.types) (suc n) t ≡ true
  chain_leaves zero t (inl is) = rw (← is) (top_leaves zero)
  chain_leaves zero t (inr none) = absurd none
  chain_leaves (suc n) t (inl is) = rw (← is) (top_leaves (suc n))
  chain_leaves (suc n) t (inr above) =
      ap (λ o. option_map_or (λ parent. leaves (map entry p.types) (suc n) parent) o true) (entry_found p.types t)
      ∙ by (type_in p.types t) (λ u m. chain_leaves n u m) above
    where
      by : (o : Option Name) → ((u : Name) → Member top_type (chain p.types n u) → leaves (map entry p.types) (suc n) u ≡ true)
          → Member top_type (unwrap_or (option_map (λ parent. chain p.types n parent) o) []) → option_map_or (λ parent. leaves (map entry p.types) (suc n) parent) o true ≡ true
      by None rest m = absurd m
      by (Some u) rest m = rest u m

  name_reaches : (t : Name) → IsBelow p t top_type → reaches (map entry p.types) t ≡ true
  name_reaches t below =
      let count : length (map entry p.types) + 1 ≡ suc (length p.types) = (let same = length-map p.types entry in omega (arith, same)) in
      ap (λ n. leaves (map entry p.types) n t) count ∙ chain_leaves (length p.types) t below

  no_fault : (seen : Types) (of name : Name) (place : _) → is_object name ≡ false → parent_in seen name ≡ None → IsBelow p name top_type
      → fault_at (map entry p.types) seen of (ident_at name place) ≡ []
  no_fault seen of name place other free below = rw (other, free, name_reaches name below) refl

  no_faults : (new : List Typed) (groups : List RawGroup) (seen : Types) → AreRawGroups true new groups → Free seen new → Differ (map (λ v. v.name) new) → NoneTop new
      → Every (λ t. IsBelow p t.name top_type) new → type_faults (map entry p.types) seen groups ≡ []
  no_faults [] _ seen (no_groups _) free differ tops below = refl
  no_faults (v ∷ new) _ seen (more_groups _ _ _ _ groups (at place) (at there) are) free differ tops below =
      rw (no_fault seen v.of v.name place (not_top p v.name tops.0) free.0 below.0, added seen v.name v.of (not_top p v.name tops.0) free.0)
      (no_faults new groups (seen ++ (v.name, v.of) ∷ []) are (still_free seen v.name v.of new differ.0 free.1) differ.1 tops.1 below.1)

each_first : (p : Parts) (new : List Typed) → Every (λ t. IsType p t.of × IsBelow p t.name top_type) new → Every (λ t. IsType p t.of) new
each_first p [] all = tt
each_first p (t ∷ new) all = (all.0.0, each_first p new all.1)

each_second : (p : Parts) (new : List Typed) → Every (λ t. IsType p t.of × IsBelow p t.name top_type) new → Every (λ t. IsBelow p t.name top_type) new
each_second p [] all = tt
each_second p (t ∷ new) all = (all.0.1, each_second p new all.1)

all_free : (new : List Typed) → Free [] new
all_free [] = tt
all_free (v ∷ new) = (refl, all_free new)

pub types_are_named : (p : Parts) → IsWellFormed p → (groups : List RawGroup) → AreRawGroups true p.types groups → types groups ≡ parsed (map entry p.types)
types_are_named p well groups so =
    let tops : NoneTop p.types = none_top p.types well.top_free in
    let listed : with_groups groups [] ≡ map entry p.types = groups_listed p p.types groups [] so (all_free p.types) well.types.differ tops in
    rw (listed, no_faults p well.top_free p.types groups [] so (all_free p.types) well.types.differ tops (each_second p p.types well.chains))
    (ap parsed (parents_listed p p.types groups so (each_first p p.types well.chains)))
