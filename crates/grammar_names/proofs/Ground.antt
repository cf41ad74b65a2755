-- Brackets of names have no fault exactly where they are what is declared at objects of its types.
use Rattle.std.proofs.Common.{◌≡◌, List, [], ◌∷◌, length, Option, Some, None, refl, ap}
use Rattle.std.specs.Prelude.{◌==◌, pred}
use Rattle.up_text.specs.declared.name.Name.{Name}
use Rattle.pddl_parse.specs.declared.raw.Ident.{Ident}
use Rattle.pddl_parse.specs.declared.raw.RawGround.{RawGround}
use Rattle.up_phrase.specs.declared.fault.Fault.{Fault}
use Rattle.up_phrase.specs.declared.reason.Reason.TheVariants.{Arity, TypeMismatch}
use Rattle.up_phrase.specs.Declarations.{Declarations}
use Rattle.up_phrase.specs.Lookups.{type_of, is_under, predicate_of}
use Rattle.up_phrase.specs.Named.{at}
use Rattle.up_phrase.specs.Walks.{unless}
use Rattle.up_check.specs.Initial.{object_faults, argument_faults, bracket_faults, atom_faults}
use Rattle.grammar_names.specs.Initial.{IsOfType, of_type, AreOfTypes, no_objects, more_objects, IsGroundAtom, of_predicate}
use Rattle.grammar_names.proofs.Parses.{holds, none_before, none_behind, same_length, same_number}

module _ (names : Declarations) where
  pub object_faultless : (due : Name) (it : Ident) → IsOfType names due it → object_faults names due it (type_of names it.name) ≡ []
  object_faultless due it (of_type of is under) = rw (is, under) refl

  object_found : (due : Name) (it : Ident) (found : Option Name) → type_of names it.name ≡ found → object_faults names due it found ≡ []
      → IsOfType names due it
  object_found due it None is none = cc
  object_found due it (Some of) is none = of_type of is (holds (is_under names of due) (at it.place TypeMismatch it.name) none)

  pub object_typed : (due : Name) (it : Ident) → object_faults names due it (type_of names it.name) ≡ [] → IsOfType names due it
  object_typed due it none = object_found due it (type_of names it.name) refl none

  arguments_faultless : (types : List Name) (args : List Ident) → AreOfTypes names types args → argument_faults names types args ≡ []
  arguments_faultless _ _ no_objects = refl
  arguments_faultless _ _ (more_objects due it types args is are) = rw (object_faultless due it is) (arguments_faultless types args are)

  as_many : (types : List Name) (args : List Ident) → AreOfTypes names types args → length args ≡ length types
  as_many _ _ no_objects = refl
  as_many _ _ (more_objects due it types args is are) = rw (as_many types args are) refl

  arguments_typed : (types : List Name) (args : List Ident) → length args ≡ length types → argument_faults names types args ≡ []
      → AreOfTypes names types args
  arguments_typed [] [] count none = no_objects
  arguments_typed [] (arg ∷ args) count none = cc
  arguments_typed (due ∷ types) [] count none = cc
  arguments_typed (due ∷ types) (arg ∷ args) count none =
      let own = object_faults names due arg (type_of names arg.name) in
      let others = argument_faults names types args in
      more_objects due arg types args (object_typed due arg (none_before own others none))
      (arguments_typed types args (ap pred count) (none_behind own others none))

  pub bracket_faultless : (it : RawGround) (types : List Name) → AreOfTypes names types it.args → bracket_faults names it types ≡ []
  bracket_faultless it types are =
      rw (same_number (length it.args) (length types) (as_many types it.args are)) (arguments_faultless types it.args are)

  pub bracket_typed : (it : RawGround) (types : List Name) → bracket_faults names it types ≡ [] → AreOfTypes names types it.args
  bracket_typed it types none =
      let count : List Fault = unless (length it.args == length types) (at it.place Arity it.name.name) in
      let args : List Fault = argument_faults names types it.args in
      arguments_typed types it.args
      (same_length (length it.args) (length types)
      (holds (length it.args == length types) (at it.place Arity it.name.name) (none_before count args none)))
      (none_behind count args none)

  pub atom_faultless : (atom : RawGround) → IsGroundAtom names atom → atom_faults names atom (predicate_of names atom.name.name) ≡ []
  atom_faultless atom (of_predicate types is are) = rw is (bracket_faultless atom types are)

  atom_found : (atom : RawGround) (found : Option (List Name)) → predicate_of names atom.name.name ≡ found
      → atom_faults names atom found ≡ [] → IsGroundAtom names atom
  atom_found atom None is none = cc
  atom_found atom (Some types) is none = of_predicate types is (bracket_typed atom types none)

  pub atom_typed : (atom : RawGround) → atom_faults names atom (predicate_of names atom.name.name) ≡ [] → IsGroundAtom names atom
  atom_typed atom none = atom_found atom (predicate_of names atom.name.name) refl none
