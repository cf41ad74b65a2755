-- The initial state of a written problem is read as it is.
use Rattle.std.proofs.Common.{◌≡◌, ◌&&◌, suc, Bool, true, false, true≢false, List, [], ◌∷◌, ◌++◌, map, drop, get_or, length, Some, None, option_map, refl, ap, sym, ◌∙◌, append_assoc, inl, inr}
use Rattle.std.specs.Prelude.{IsSomeAnd}
use Rattle.std.specs.List.{list_any}
use Rattle.std.specs.Cmp.{unsigned_Decides}
use Rattle.std.specs.Cmp.Lexicographic.{pointwise, pointwise_decides, bytes_decides}
use Rattle.std.proofs.lemmas.Bool.{false_from_ne_true}
use Rattle.std.proofs.lemmas.List.{append-nil}
use Rattle.up_text.specs.declared.name.Name.{Name}
use Rattle.up_text.specs.declared.place.Place.{Place}
use Rattle.up_text.specs.Names.{same_name}
use Rattle.up_text.specs.Lists.{Every, Member, Differ}
use Rattle.up_frac.specs.declared.frac.Frac.{Frac}
use Rattle.up_tree.specs.declared.problem.Fact.{Fact}
use Rattle.up_tree.specs.declared.problem.Function.{Function}
use Rattle.up_tree.specs.declared.problem.Gives.{Gives}
use Rattle.up_tree.specs.declared.problem.Gives.TheVariants as gives
use Rattle.up_tree.specs.declared.problem.NumberFact.{NumberFact}
use Rattle.up_tree.specs.declared.problem.Parts.{Parts}
use Rattle.up_tree.specs.declared.problem.Predicate.{Predicate}
use Rattle.up_tree.specs.declared.problem.ValueFact.{ValueFact}
use Rattle.up_tree.specs.Objects.{type_in, predicate_named, function_named}
use Rattle.up_tree.specs.WellFormed.{GivesNumber, IsBelow, IsFact, IsNumberFact, IsValueFact, IsWellFormed, ObjectsFit, gives_object}
use Rattle.pddl_lex.specs.Parses.{parsed}
use Rattle.pddl_parse.specs.declared.raw.Ident.{Ident}
use Rattle.pddl_parse.specs.declared.raw.RawGround.{RawGround}
use Rattle.pddl_parse.specs.declared.raw.RawInit.{RawInit}
use Rattle.pddl_parse.specs.declared.raw.RawInit.TheVariants as member
use Rattle.pddl_parse.specs.declared.raw.RawValue.TheVariants as value
use Rattle.pddl_parse.specs.Forms.{ident_at}
use Rattle.up_phrase.specs.declared.reason.Reason.TheVariants.{TypeMismatch}
use Rattle.up_phrase.specs.Declarations.{Declarations}
use Rattle.up_phrase.specs.Lookups.{type_of, predicate_of, function_of}
use Rattle.up_phrase.specs.Named.{at as fault_at}
use Rattle.up_phrase.specs.Walks.{unless}
use Rattle.up_check.specs.declared.lists.Initial.{Initial}
use Rattle.up_check.specs.Initial.{object_faults, argument_faults, bracket_faults, atom_faults, arguments, is_at, number_at, object_at, value_faults, term_faults, member_faults, with_member, stated, initial}
use Rattle.roundtrip_tokens.proofs.Named.{found_and}
use Rattle.roundtrip_shapes.specs.Raw.{at, empty, first, IsEmpty, IsRawName}
use Rattle.roundtrip_shapes.specs.RawFiles.{AreEach, IsRawGround, IsRawFact, an_atom, IsRawNumberFact, a_number, IsRawValueFact, an_object, IsRawInit}
use Rattle.roundtrip_names.specs.Declared.{signature_of, Declares}
use Rattle.roundtrip_names.proofs.Found.{object_found, under_is, predicate_found, function_found}
use Rattle.roundtrip_names.proofs.Rows.{name_is}
use Rattle.roundtrip_texts.proofs.Names.{every}

-- ---- members that differ from those before them

module _ {X : Type 0} (key : X → List Name) where
  last_is : (k : List Name) (seen : List X) (x : X) → Member k (map key (seen ++ x ∷ [])) → ¬ Member k (map key seen) → k ≡ key x
  last_is k [] x (inl is) out = is
  last_is k [] x (inr m) out = absurd m
  last_is k (y ∷ seen) x (inl is) out = absurd (out (inl is))
  last_is k (y ∷ seen) x (inr m) out = last_is k seen x m (λ n. out (inr n))

  -- none is among these
  abbrev Apart : List X → List X → Type 0
  Apart seen xs = Every (λ x. ¬ Member (key x) (map key seen)) xs

  apart_at_first : (xs : List X) → Apart [] xs
  apart_at_first xs = every (λ x. ¬ Member (key x) []) (λ x m. m) xs

  still_apart : (seen : List X) (x : X) (xs : List X) → Apart seen xs → ¬ Member (key x) (map key xs) → Apart (seen ++ x ∷ []) xs
  still_apart seen x [] apart out = tt
  still_apart seen x (y ∷ ys) apart out =
      ((λ m. out (inl (sym (last_is (key y) seen x m apart.0)))), still_apart seen x ys apart.1 (λ m. out (inr m)))

  module _ (names : Declarations) (Fits : X → Type 0) (Is : X → RawInit → Type 0) (before : List X → Initial) where
    -- a member that isn't among those before it has no fault and is stated after them
    abbrev IsNext : List X → X → RawInit → Type 0
    IsNext seen x raw = (member_faults names (before seen) raw ≡ []) × (with_member (before seen) raw ≡ before (seen ++ x ∷ []))

    abbrev EachNext : Type 0
    EachNext = (seen : List X) (x : X) → Fits x → ¬ Member (key x) (map key seen) → (raw : RawInit) → Is x raw → IsNext seen x raw

    module _ (next : EachNext) (Rest : List RawInit → Type 0) (whole : Initial) where
      -- members of one sort, one after the other, and then a rest
      pub each_stated : (xs seen : List X) → Every Fits xs → Apart seen xs → Differ (map key xs)
          → ((raws : List RawInit) → Rest raws → stated names (before (seen ++ xs)) raws ≡ parsed whole)
          → (raws : List RawInit) → AreEach Is xs Rest raws → stated names (before seen) raws ≡ parsed whole
      each_stated [] seen all apart differ rest raws so = ap (λ ys. stated names (before ys) raws) (sym (append-nil seen)) ∙ rest raws so
      each_stated (x ∷ xs) seen all apart differ rest _ (first raw raws is so) =
          let (none, grown) = next seen x all.0 apart.0 raw is in
          rw (none, grown) (each_stated xs (seen ++ x ∷ []) all.1 (still_apart seen x xs apart.1 differ.0) differ.1
          (λ others more. ap (λ ys. stated names (before ys) others) (append_assoc seen (x ∷ []) xs) ∙ rest others more) raws so)

-- ---- a name at objects

arguments_are : (os : List Name) (args : List Ident) → AreEach IsRawName os IsEmpty args → arguments args ≡ os
arguments_are [] _ empty = refl
arguments_are (o ∷ os) _ (first _ args (at place) so) = ap (λ more. o ∷ more) (arguments_are os args so)

both : (a b : Bool) → (a && b) ≡ true → (a ≡ true) × (b ≡ true)
both true b is = (refl, is)
both false b is = absurd (true≢false (sym is))

module _ (word : Name) (os : List Name) (ground : RawGround) (so : IsRawGround word os ground) where
  not_at : (name : Name) (args : List Name) → ¬ (word ∷ os ≡ name ∷ args) → is_at ground name args ≡ false
  not_at name args other = false_from_ne_true _ (λ is. other (same (both _ _ is)))
    where
      same : (same_name ground.name.name name ≡ true) × (pointwise same_name (arguments ground.args) args ≡ true) → word ∷ os ≡ name ∷ args
      same is =
          let names : word ≡ name = sym (name_is word ground.name so.name) ∙ (bytes_decides ground.name.name name).0 is.0 in
          let objects : os ≡ args = sym (arguments_are os ground.args so.args) ∙ (pointwise_decides bytes_decides (arguments ground.args) args).0 is.1 in
          ap (λ n. n ∷ os) names ∙ ap (λ rest. name ∷ rest) objects

  atom_new : (seen : List Fact) → ¬ Member (word ∷ os) (map (λ (f : Fact). f.predicate ∷ f.args) seen) → list_any (λ (f : Fact). is_at ground f.predicate f.args) seen ≡ false
  atom_new [] out = refl
  atom_new (f ∷ seen) out = rw (not_at f.predicate f.args (λ e. out (inl e)), atom_new seen (λ m. out (inr m))) refl

  number_new : (seen : List NumberFact) → ¬ Member (word ∷ os) (map (λ (f : NumberFact). f.function ∷ f.args) seen) → number_at ground seen ≡ None
  number_new [] out = refl
  number_new (f ∷ seen) out = rw (not_at f.function f.args (λ e. out (inl e)), number_new seen (λ m. out (inr m))) refl

  object_new : (seen : List ValueFact) → ¬ Member (word ∷ os) (map (λ (f : ValueFact). f.function ∷ f.args) seen) → object_at ground seen ≡ None
  object_new [] out = refl
  object_new (f ∷ seen) out = rw (not_at f.function f.args (λ e. out (inl e)), object_new seen (λ m. out (inr m))) refl

module _ (names : Declarations) (p : Parts) (agree : Declares names p p.objects) where
  -- ---- faults

  abbrev OfType : Name → Name → Type 0
  OfType o due = IsSomeAnd (type_in p.objects o) (λ u. IsBelow p u due)

  object_fits : (due : Name) (it : Ident) → OfType it.name due → object_faults names due it (type_of names it.name) ≡ []
  object_fits due it is =
      let (u, here, below) = found_and (λ u. IsBelow p u due) (type_in p.objects it.name) is in
      ap (object_faults names due it) (object_found names p p.objects agree it.name ∙ here)
      ∙ ap (λ b. unless b (fault_at it.place TypeMismatch it.name)) (under_is names p p.objects agree u due below)

  -- arguments without a fault, as many as types
  abbrev Fit : List Name → List Ident → Type 0
  Fit types args = (length args ≡ length types) × (argument_faults names types args ≡ [])

  arguments_fit : (os types : List Name) → ObjectsFit p os types → (args : List Ident) → AreEach IsRawName os IsEmpty args → Fit types args
  arguments_fit [] [] fit _ empty = (refl, refl)
  arguments_fit [] (of ∷ types) fit args are = absurd fit
  arguments_fit (o ∷ os) [] fit args are = absurd fit
  arguments_fit (o ∷ os) (of ∷ types) fit _ (first _ args (at place) are) =
      let rest = arguments_fit os types fit.1 args are in
      (ap suc rest.0, rw (object_fits of (ident_at o place) fit.0, rest.1) refl)

  bracket_fits : (word : Name) (os types : List Name) → ObjectsFit p os types → (ground : RawGround) → IsRawGround word os ground → bracket_faults names ground types ≡ []
  bracket_fits word os types fit ground so =
      let fits = arguments_fit os types fit ground.args so.args in
      rw ((unsigned_Decides (length ground.args) (length types)).1 fits.0, fits.1) refl

  atom_fits : (f : Fact) → IsFact p f → (before : Initial) (ground : RawGround) → IsRawGround f.predicate f.args ground → member_faults names before (member.Atom ground) ≡ []
  atom_fits f is before ground so =
      let Fits : Predicate → Type 0 = λ d. ObjectsFit p f.args d.args in
      let (d, here, fit) = found_and Fits (predicate_named p f.predicate) is in
      ap (atom_faults names ground) (ap (predicate_of names) (name_is f.predicate ground.name so.name)
      ∙ predicate_found names p p.objects agree f.predicate ∙ ap (option_map (λ (d : Predicate). d.args)) here)
      ∙ bracket_fits f.predicate f.args d.args fit ground so

  function_here : (word : Name) (os : List Name) (d : Function) → function_named p word ≡ Some d → (ground : RawGround) → IsRawGround word os ground
      → function_of names ground.name.name ≡ Some (signature_of d)
  function_here word os d here ground so =
      ap (function_of names) (name_is word ground.name so.name) ∙ function_found names p p.objects agree word ∙ ap (option_map signature_of) here

  number_given : (before : Initial) (place here : Place) (ground : RawGround) (n : Frac) (g : Gives) → GivesNumber g → number_at ground before.numbers ≡ None
      → value_faults names before place ground (value.Number here n) g ≡ []
  number_given before place here ground n gives.Number is new = rw new refl
  number_given before place here ground n (gives.Object of) is new = absurd is

  number_fits : (f : NumberFact) → IsNumberFact p f → (before : Initial) (place here : Place) (ground : RawGround) → IsRawGround f.function f.args ground
      → number_at ground before.numbers ≡ None → member_faults names before (member.Value place ground (value.Number here f.value)) ≡ []
  number_fits f is before place here ground so new =
      let Fits : Function → Type 0 = λ d. GivesNumber d.gives × ObjectsFit p f.args d.args in
      let (d, there, fit) = found_and Fits (function_named p f.function) is.typed in
      ap (term_faults names before place ground (value.Number here f.value)) (function_here f.function f.args d there ground so)
      ∙ rw (bracket_fits f.function f.args d.args fit.1 ground so) (number_given before place here ground f.value d.gives fit.0 new)

  object_given : (before : Initial) (place : Place) (ground : RawGround) (it : Ident) (g : Gives) → IsSomeAnd (gives_object g) (λ of. OfType it.name of)
      → object_at ground before.values ≡ None → value_faults names before place ground (value.Object it) g ≡ []
  object_given before place ground it gives.Number is new = absurd is
  object_given before place ground it (gives.Object of) is new = rw (object_fits of it is, new) refl

  value_fits : (f : ValueFact) → IsValueFact p f → (before : Initial) (place there : Place) (ground : RawGround) → IsRawGround f.function f.args ground
      → object_at ground before.values ≡ None → member_faults names before (member.Value place ground (value.Object (ident_at f.value there))) ≡ []
  value_fits f is before place there ground so new =
      let Fits : Function → Type 0 = λ d. ObjectsFit p f.args d.args × IsSomeAnd (gives_object d.gives) (λ of. OfType f.value of) in
      let (d, here, fit) = found_and Fits (function_named p f.function) is.typed in
      ap (term_faults names before place ground (value.Object (ident_at f.value there))) (function_here f.function f.args d here ground so)
      ∙ rw (bracket_fits f.function f.args d.args fit.0 ground so) (object_given before place ground (ident_at f.value there) d.gives fit.1 new)

  -- ---- the three sorts of members

  abbrev atom_key : Fact → List Name
  atom_key f = f.predicate ∷ f.args

  abbrev number_key : NumberFact → List Name
  number_key f = f.function ∷ f.args

  abbrev value_key : ValueFact → List Name
  value_key f = f.function ∷ f.args

  abbrev with_atoms : List Fact → Initial
  with_atoms atoms = record { atoms = atoms; numbers = []; values = [] }

  abbrev with_numbers : List NumberFact → Initial
  with_numbers numbers = record { atoms = p.atoms; numbers = numbers; values = [] }

  abbrev with_values : List ValueFact → Initial
  with_values values = record { atoms = p.atoms; numbers = p.numbers; values = values }

  next_atom : EachNext atom_key names (IsFact p) IsRawFact with_atoms
  next_atom seen f is new _ (an_atom ground so) = (
    atom_fits f is (with_atoms seen) ground so,
    rw (atom_new f.predicate f.args ground so seen new, name_is f.predicate ground.name so.name, arguments_are f.args ground.args so.args) refl,
  )

  next_number : EachNext number_key names (IsNumberFact p) IsRawNumberFact with_numbers
  next_number seen f is new _ (a_number place here ground so) =
      let none = number_new f.function f.args ground so seen new in (
        number_fits f is (with_numbers seen) place here ground so none,
        rw (none, name_is f.function ground.name so.name, arguments_are f.args ground.args so.args) refl,
      )

  next_value : EachNext value_key names (IsValueFact p) IsRawValueFact with_values
  next_value seen f is new _ (an_object place ground _ so (at there)) =
      let none = object_new f.function f.args ground so seen new in (
        value_fits f is (with_values seen) place there ground so none,
        rw (none, name_is f.function ground.name so.name, arguments_are f.args ground.args so.args) refl,
      )

  -- ---- the whole

  atom_among : (f : Fact) (fs : List Fact) → Member (atom_key f) (map atom_key fs) → Member f fs
  atom_among f [] m = absurd m
  atom_among f (g ∷ fs) (inl is) = inl (ap (λ names. record { predicate = get_or names 0 f.predicate; args = drop 1 names }) is)
  atom_among f (g ∷ fs) (inr m) = inr (atom_among f fs m)

  atoms_apart : (fs : List Fact) → Differ fs → Differ (map atom_key fs)
  atoms_apart [] differ = tt
  atoms_apart (f ∷ fs) differ = ((λ m. differ.0 (atom_among f fs m)), atoms_apart fs differ.1)

  abbrev written_state : Initial
  written_state = record { atoms = p.atoms; numbers = p.numbers; values = p.values }

  none_left : (raws : List RawInit) → IsEmpty raws → stated names written_state raws ≡ parsed written_state
  none_left _ empty = refl

  pub initial_read : IsWellFormed p → (inits : List RawInit) → IsRawInit p inits → initial names inits ≡ parsed written_state
  initial_read well inits so =
      each_stated atom_key names (IsFact p) IsRawFact with_atoms next_atom _ written_state p.atoms [] well.atoms (apart_at_first atom_key p.atoms)
      (atoms_apart p.atoms well.atoms_differ)
      (each_stated number_key names (IsNumberFact p) IsRawNumberFact with_numbers next_number _ written_state p.numbers [] well.numbers (apart_at_first number_key p.numbers)
      well.numbers_differ
      (each_stated value_key names (IsValueFact p) IsRawValueFact with_values next_value IsEmpty written_state p.values [] well.values (apart_at_first value_key p.values)
      well.values_differ none_left)) inits so
