-- The tables of the traversal as lists of facts.
use Rattle.std.proofs.Common.{◌≡◌, Bool, true, false, List, [], ◌∷◌, map, Some, None, refl}
use Rattle.std.proofs.lemmas.List.{map-append}
use Rattle.std.specs.Prelude.{Result, Ok, Err, OnOk}
use Rattle.std.specs.List.{list_any}
use Rattle.std.specs.Map.{lookup}
use Rattle.indexmap.specs.IndexMap.{IndexMap, insert_entry}
use Rattle.indexmap.specs.IndexSet.{insert_key}
use Rattle.indexmap.proofs.CallerLemmas.{insert_entry-new}
use Rattle.up_text.specs.declared.name.Name.{Name}
use Rattle.up_frac.specs.declared.frac.Frac.{Frac}
use Rattle.pddl_parse.specs.declared.raw.RawGround.{RawGround}
use Rattle.up_tree.specs.declared.problem.Fact.{Fact}
use Rattle.up_check.specs.declared.init.Ground.{Ground}
use Rattle.up_check.specs.Held.{same_ground, fact, number_fact, value_fact}
use Rattle.up_check.specs.Initial.{arguments, is_at, number_at, object_at, with_atom, with_number, with_object}

module _ (key : Ground) (term : RawGround) (name : key.name ≡ term.name.name) (args : key.args.items ≡ arguments term.args) where
  same : (other : Ground) → same_ground key other ≡ is_at term other.name other.args.items
  same other = rw (name, args) refl

  pub atom_found : (keys : List Ground) → list_any (same_ground key) keys ≡ list_any (λ (f : Fact). is_at term f.predicate f.args) (map fact keys)
  atom_found [] = refl
  atom_found (k ∷ ks) = rw (same k, atom_found ks) refl

  pub number_found : (entries : List (Ground × Frac)) → lookup (same_ground key) entries ≡ number_at term (map number_fact entries)
  number_found [] = refl
  number_found (e ∷ es) = rw (same e.0, number_found es) refl

  pub object_found : (entries : List (Ground × Name)) → lookup (same_ground key) entries ≡ object_at term (map value_fact entries)
  object_found [] = refl
  object_found (e ∷ es) = rw (same e.0, object_found es) refl

  pub atom_added : (keys new : List Ground) → new ≡ insert_key same_ground keys key → map fact new ≡ with_atom (map fact keys) term
  atom_added keys new is = by (list_any (same_ground key) keys) refl
    where
      by : (b : Bool) → list_any (same_ground key) keys ≡ b → map fact new ≡ with_atom (map fact keys) term
      by true e = rw (is, ← atom_found keys, e) refl
      by false e = rw (is, ← atom_found keys, e, map-append fact keys (key ∷ []), name, args) refl

  pub number_added : {S : Type 0} (m : IndexMap Ground Frac S) (n : Frac) (new : List (Ground × Frac)) → lookup (same_ground key) m.entries ≡ None
      → new ≡ insert_entry same_ground m.entries key n → map number_fact new ≡ with_number (map number_fact m.entries) term n
  number_added m n new none is =
      rw (is, insert_entry-new same_ground m key n none, ← number_found m.entries, none, map-append number_fact m.entries ((key, n) ∷ []), name, args) refl

  pub object_added : {S : Type 0} (m : IndexMap Ground Name S) (object : Name) (new : List (Ground × Name)) → lookup (same_ground key) m.entries ≡ None
      → new ≡ insert_entry same_ground m.entries key object → map value_fact new ≡ with_object (map value_fact m.entries) term object
  object_added m object new none is =
      rw (is, insert_entry-new same_ground m key object none, ← object_found m.entries, none, map-append value_fact m.entries ((key, object) ∷ []), name, args) refl

  -- a term that has a value keeps it
  pub number_kept : (entries : List (Ground × Frac)) (before n : Frac) → Some before ≡ lookup (same_ground key) entries
      → map number_fact entries ≡ with_number (map number_fact entries) term n
  number_kept entries before n e = rw (← number_found entries, ← e) refl

  pub object_kept : (entries : List (Ground × Name)) (before object : Name) → Some before ≡ lookup (same_ground key) entries
      → map value_fact entries ≡ with_object (map value_fact entries) term object
  object_kept entries before object e = rw (← object_found entries, ← e) refl

-- what holds whatever is answered
pub on_ok : {A E P : Type 0} (result : Result A E) → P → OnOk result P
on_ok (Ok a) p = p
on_ok (Err e) p = tt
