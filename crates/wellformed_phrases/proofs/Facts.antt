-- What is read as an initial state is one.
use Rattle.std.proofs.Common.{◌≡◌, Bool, true, false, true≢false, if◌then◌else◌, List, [], ◌∷◌, ◌++◌, map, drop, length, get_or, Option, Some, None, IsSomeAnd, refl, ap, sym, ◌∙◌, subst, inl, inr, pred}
use Rattle.std.specs.Prelude.{is_some, ◌==◌}
use Rattle.std.specs.Cmp.Lexicographic.{pointwise_decides, bytes_decides}
use Rattle.std.specs.List.{list_any}
use Rattle.std.proofs.lemmas.List.{map-append}
use Rattle.up_frac.specs.declared.frac.Frac.{Frac}
use Rattle.up_text.specs.declared.name.Name.{Name}
use Rattle.up_text.specs.declared.place.Place.{Place}
use Rattle.up_text.specs.Lists.{Every, Member, Differ}
use Rattle.pddl_parse.specs.declared.raw.Ident.{Ident}
use Rattle.pddl_parse.specs.declared.raw.RawGround.{RawGround}
use Rattle.pddl_parse.specs.declared.raw.RawInit.{RawInit}
use Rattle.pddl_parse.specs.declared.raw.RawInit.TheVariants as member
use Rattle.pddl_parse.specs.declared.raw.RawValue.TheVariants as value
use Rattle.up_tree.specs.declared.problem.Fact.{Fact}
use Rattle.up_tree.specs.declared.problem.Function.{Function}
use Rattle.up_tree.specs.declared.problem.Gives.{Gives}
use Rattle.up_tree.specs.declared.problem.Gives.TheVariants as gives
use Rattle.up_tree.specs.declared.problem.NumberFact.{NumberFact}
use Rattle.up_tree.specs.declared.problem.Parts.{Parts}
use Rattle.up_tree.specs.declared.problem.ValueFact.{ValueFact}
use Rattle.up_tree.specs.Objects.{type_in, predicate_named, function_named}
use Rattle.up_tree.specs.WellFormed.{GivesNumber, IsBelow, IsFact, IsLiteral, IsNumberFact, IsValueFact, ObjectsFit, gives_object}
use Rattle.up_phrase.specs.declared.names.Signature.{Signature}
use Rattle.up_phrase.specs.declared.reason.Reason.TheVariants.{Arity, TypeMismatch}
use Rattle.up_phrase.specs.Declarations.{Declarations}
use Rattle.up_phrase.specs.Lookups.{type_of, is_under, predicate_of, function_of}
use Rattle.up_phrase.specs.Named.{at}
use Rattle.up_phrase.specs.Walks.{unless}
use Rattle.up_check.specs.declared.lists.Initial.{Initial}
use Rattle.up_check.specs.Initial.{object_faults, argument_faults, bracket_faults, atom_faults, arguments, is_at, number_at, object_at, value_faults, term_faults, member_faults, with_atom, with_number, with_object, with_member, stated, initial}
use Rattle.up_check.specs.Lists as lists
use Rattle.wellformed_phrases.specs.Agreement.{IfParsed, Agree}
use Rattle.wellformed_phrases.specs.Initial.{IsInitial, IsLawfulInit}
use Rattle.wellformed_phrases.proofs.Parses.{parsed_behind, holds, none_before, none_behind}
use Rattle.wellformed_phrases.proofs.Tables.{at_some, function_is, predicate_is, under_is}
use Rattle.wellformed_phrases.proofs.Terms.{same_length}
use Rattle.wellformed_phrases.proofs.Members.{every_append, either_true}

-- ---- one more at the end

later : {X : Type 0} (x y : X) (ys : List X) → Member y (ys ++ x ∷ []) → (¬ Member y ys) → y ≡ x
later x y [] (inl is) fresh = is
later x y [] (inr m) fresh = absurd m
later x y (z ∷ ys) (inl is) fresh = absurd (fresh (inl is))
later x y (z ∷ ys) (inr m) fresh = later x y ys m (λ k. fresh (inr k))

pub differ_more : {X : Type 0} (xs : List X) (x : X) → Differ xs → (¬ Member x xs) → Differ (xs ++ x ∷ [])
differ_more [] x differ fresh = ((λ m. m), tt)
differ_more (y ∷ ys) x differ fresh =
    ((λ m. fresh (inl (sym (later x y ys m differ.0)))), differ_more ys x differ.1 (λ m. fresh (inr m)))

-- ---- what is stated already

at_same : (it : RawGround) (name : Name) (args : List Name) → it.name.name ≡ name → arguments it.args ≡ args → is_at it name args ≡ true
at_same it name args is so = rw ((bytes_decides it.name.name name).1 is, (pointwise_decides bytes_decides (arguments it.args) args).1 so) refl

stated_atom : (it : RawGround) (facts : List Fact) → Member (record { predicate = it.name.name; args = arguments it.args }) facts
    → list_any (λ (fact : Fact). is_at it fact.predicate fact.args) facts ≡ true
stated_atom it [] m = absurd m
stated_atom it (fact ∷ facts) (inl is) = rw (at_same it fact.predicate fact.args (ap (λ (f : Fact). f.predicate) is) (ap (λ (f : Fact). f.args) is)) refl
stated_atom it (fact ∷ facts) (inr m) = either_true (is_at it fact.predicate fact.args) (list_any (λ (fact : Fact). is_at it fact.predicate fact.args) facts) (stated_atom it facts m)

head_is : (f g : Name) (fs gs : List Name) → f ∷ fs ≡ g ∷ gs → f ≡ g
head_is f g fs gs e = ap (λ names. get_or names 0 f) e

tail_is : (f g : Name) (fs gs : List Name) → f ∷ fs ≡ g ∷ gs → fs ≡ gs
tail_is f g fs gs e = ap (drop 1) e

some_either : {X : Type 0} (b : Bool) (x : X) (o : Option X) → is_some o ≡ true → is_some (if b then Some x else o) ≡ true
some_either true x o e = refl
some_either false x o e = e

stated_number : (it : RawGround) (facts : List NumberFact) → Member (it.name.name ∷ arguments it.args) (map (λ n. n.function ∷ n.args) facts) → is_some (number_at it facts) ≡ true
stated_number it [] m = absurd m
stated_number it (fact ∷ facts) (inl is) = rw (at_same it fact.function fact.args (head_is _ _ _ _ is) (tail_is _ _ _ _ is)) refl
stated_number it (fact ∷ facts) (inr m) = some_either (is_at it fact.function fact.args) fact.value (number_at it facts) (stated_number it facts m)

stated_object : (it : RawGround) (facts : List ValueFact) → Member (it.name.name ∷ arguments it.args) (map (λ v. v.function ∷ v.args) facts) → is_some (object_at it facts) ≡ true
stated_object it [] m = absurd m
stated_object it (fact ∷ facts) (inl is) = rw (at_same it fact.function fact.args (head_is _ _ _ _ is) (tail_is _ _ _ _ is)) refl
stated_object it (fact ∷ facts) (inr m) = some_either (is_at it fact.function fact.args) fact.value (object_at it facts) (stated_object it facts m)

module _ (names : Declarations) (p : Parts) (agree : Agree names p p.objects) where
  -- ---- faultless members

  abbrev OfType : Name → Name → Type 0
  OfType o due = IsSomeAnd (type_in p.objects o) (λ u. IsBelow p u due)

  object_is : (due : Name) (it : Ident) (found : Option Name) → type_of names it.name ≡ found → object_faults names due it found ≡ [] → OfType it.name due
  object_is due it None is none = cc
  object_is due it (Some of) is none =
      at_some (type_in p.objects it.name) of (λ u. IsBelow p u due) (agree.object_types it.name of is)
      (under_is names p p.objects agree of due (agree.known_types it.name of is) (holds (is_under names of due) (at it.place TypeMismatch it.name) none))

  arguments_are : (types : List Name) (args : List Ident) → length args ≡ length types → argument_faults names types args ≡ [] → ObjectsFit p (arguments args) types
  arguments_are [] [] len none = tt
  arguments_are [] (arg ∷ args) len none = cc
  arguments_are (due ∷ others) [] len none = cc
  arguments_are (due ∷ others) (arg ∷ args) len none = (
    object_is due arg (type_of names arg.name) refl (none_before (object_faults names due arg (type_of names arg.name)) (argument_faults names others args) none),
    arguments_are others args (ap pred len) (none_behind (object_faults names due arg (type_of names arg.name)) (argument_faults names others args) none),
  )

  bracket_is : (it : RawGround) (types : List Name) → bracket_faults names it types ≡ [] → ObjectsFit p (arguments it.args) types
  bracket_is it types none =
      let count = none_before (unless (length it.args == length types) (at it.place Arity it.name.name)) (argument_faults names types it.args) none in
      arguments_are types it.args (same_length (length it.args) (length types) (holds (length it.args == length types) _ count))
      (none_behind (unless (length it.args == length types) (at it.place Arity it.name.name)) (argument_faults names types it.args) none)

  fact_is : (it : RawGround) (found : Option (List Name)) → predicate_of names it.name.name ≡ found → atom_faults names it found ≡ []
      → IsFact p (record { predicate = it.name.name; args = arguments it.args })
  fact_is it None is none = cc
  fact_is it (Some types) is none =
      at_some (predicate_named p it.name.name) (lists.predicate (it.name.name, types)) (λ d. ObjectsFit p (arguments it.args) d.args)
      (predicate_is names p p.objects agree it.name.name types is) (bracket_is it types none)

  abbrev OfFunction : RawGround → (Gives → Type 0) → Type 0
  OfFunction it Of = IsSomeAnd (function_named p it.name.name) (λ d. ObjectsFit p (arguments it.args) d.args × Of d.gives)

  function_at : (it : RawGround) (signature : Signature) (Of : Gives → Type 0) → function_of names it.name.name ≡ Some signature
      → bracket_faults names it signature.args ≡ [] → Of signature.gives → OfFunction it Of
  function_at it signature Of is none so =
      at_some (function_named p it.name.name) (lists.function (it.name.name, signature)) (λ d. ObjectsFit p (arguments it.args) d.args × Of d.gives)
      (function_is names p p.objects agree it.name.name signature is) (bracket_is it signature.args none, so)

  number_given : (before : Initial) (place here : Place) (it : RawGround) (n : Frac) (g : Gives) → value_faults names before place it (value.Number here n) g ≡ [] → GivesNumber g
  number_given before place here it n gives.Number none = tt
  number_given before place here it n (gives.Object of) none = cc

  object_given : (before : Initial) (place : Place) (it : RawGround) (o : Ident) (g : Gives) → value_faults names before place it (value.Object o) g ≡ []
      → IsSomeAnd (gives_object g) (λ of. OfType o.name of)
  object_given before place it o gives.Number none = cc
  object_given before place it o (gives.Object of) none =
      object_is of o (type_of names o.name) refl (none_before (object_faults names of o (type_of names o.name)) _ none)

  number_term : (before : Initial) (place here : Place) (it : RawGround) (n : Frac) (found : Option Signature) → function_of names it.name.name ≡ found
      → term_faults names before place it (value.Number here n) found ≡ [] → OfFunction it GivesNumber
  number_term before place here it n None is none = cc
  number_term before place here it n (Some signature) is none =
      function_at it signature GivesNumber is (none_before (bracket_faults names it signature.args) _ none)
      (number_given before place here it n signature.gives (none_behind (bracket_faults names it signature.args) _ none))

  object_term : (before : Initial) (place : Place) (it : RawGround) (o : Ident) (found : Option Signature) → function_of names it.name.name ≡ found
      → term_faults names before place it (value.Object o) found ≡ [] → OfFunction it (λ g. IsSomeAnd (gives_object g) (λ of. OfType o.name of))
  object_term before place it o None is none = cc
  object_term before place it o (Some signature) is none =
      function_at it signature (λ g. IsSomeAnd (gives_object g) (λ of. OfType o.name of)) is (none_before (bracket_faults names it signature.args) _ none)
      (object_given before place it o signature.gives (none_behind (bracket_faults names it signature.args) _ none))

  number_fact : (it : RawGround) (n : Frac) → IsLiteral n → OfFunction it GivesNumber → IsNumberFact p (record { function = it.name.name; args = arguments it.args; value = n })
  number_fact it n literal so = record { literal = literal; typed = turned (function_named p it.name.name) so }
    where
      turned : (o : Option Function) → IsSomeAnd o (λ d. ObjectsFit p (arguments it.args) d.args × GivesNumber d.gives) → IsSomeAnd o (λ d. GivesNumber d.gives × ObjectsFit p (arguments it.args) d.args)
      turned None h = h
      turned (Some d) h = (h.1, h.0)

  -- ---- what is stated, with one member more

  with_atom_is : (before : Initial) (it : RawGround) → IsInitial p before → IsFact p (record { predicate = it.name.name; args = arguments it.args })
      → IsInitial p (record { atoms = with_atom before.atoms it; numbers = before.numbers; values = before.values })
  with_atom_is before it is fact = by (list_any (λ (fact : Fact). is_at it fact.predicate fact.args) before.atoms) refl
    where
      by : (b : Bool) → list_any (λ (fact : Fact). is_at it fact.predicate fact.args) before.atoms ≡ b
          → IsInitial p (record { atoms = if b then before.atoms else before.atoms ++ record { predicate = it.name.name; args = arguments it.args } ∷ []; numbers = before.numbers; values = before.values })
      by true there = record { atoms = is.atoms; atoms_differ = is.atoms_differ; numbers = is.numbers; numbers_differ = is.numbers_differ; values = is.values; values_differ = is.values_differ }
      by false new = record {
        atoms = every_append (IsFact p) before.atoms (record { predicate = it.name.name; args = arguments it.args } ∷ []) is.atoms (fact, tt);
        atoms_differ = differ_more before.atoms (record { predicate = it.name.name; args = arguments it.args }) is.atoms_differ (λ m. true≢false (sym (stated_atom it before.atoms m) ∙ new));
        numbers = is.numbers;
        numbers_differ = is.numbers_differ;
        values = is.values;
        values_differ = is.values_differ;
      }

  with_number_is : (before : Initial) (it : RawGround) (n : Frac) → IsInitial p before → IsNumberFact p (record { function = it.name.name; args = arguments it.args; value = n })
      → IsInitial p (record { atoms = before.atoms; numbers = with_number before.numbers it n; values = before.values })
  with_number_is before it n is fact = by (is_some (number_at it before.numbers)) refl
    where
      by : (b : Bool) → is_some (number_at it before.numbers) ≡ b
          → IsInitial p (record { atoms = before.atoms; numbers = if b then before.numbers else before.numbers ++ record { function = it.name.name; args = arguments it.args; value = n } ∷ []; values = before.values })
      by true there = record { atoms = is.atoms; atoms_differ = is.atoms_differ; numbers = is.numbers; numbers_differ = is.numbers_differ; values = is.values; values_differ = is.values_differ }
      by false new = record {
        atoms = is.atoms;
        atoms_differ = is.atoms_differ;
        numbers = every_append (IsNumberFact p) before.numbers (record { function = it.name.name; args = arguments it.args; value = n } ∷ []) is.numbers (fact, tt);
        numbers_differ =
            subst Differ (sym (map-append (λ (m : NumberFact). m.function ∷ m.args) before.numbers (record { function = it.name.name; args = arguments it.args; value = n } ∷ [])))
            (differ_more (map (λ (m : NumberFact). m.function ∷ m.args) before.numbers) (it.name.name ∷ arguments it.args) is.numbers_differ
            (λ m. true≢false (sym (stated_number it before.numbers m) ∙ new)));
        values = is.values;
        values_differ = is.values_differ;
      }

  with_object_is : (before : Initial) (it : RawGround) (o : Name) → IsInitial p before → IsValueFact p (record { function = it.name.name; args = arguments it.args; value = o })
      → IsInitial p (record { atoms = before.atoms; numbers = before.numbers; values = with_object before.values it o })
  with_object_is before it o is fact = by (is_some (object_at it before.values)) refl
    where
      by : (b : Bool) → is_some (object_at it before.values) ≡ b
          → IsInitial p (record { atoms = before.atoms; numbers = before.numbers; values = if b then before.values else before.values ++ record { function = it.name.name; args = arguments it.args; value = o } ∷ [] })
      by true there = record { atoms = is.atoms; atoms_differ = is.atoms_differ; numbers = is.numbers; numbers_differ = is.numbers_differ; values = is.values; values_differ = is.values_differ }
      by false new = record {
        atoms = is.atoms;
        atoms_differ = is.atoms_differ;
        numbers = is.numbers;
        numbers_differ = is.numbers_differ;
        values = every_append (IsValueFact p) before.values (record { function = it.name.name; args = arguments it.args; value = o } ∷ []) is.values (fact, tt);
        values_differ =
            subst Differ (sym (map-append (λ (v : ValueFact). v.function ∷ v.args) before.values (record { function = it.name.name; args = arguments it.args; value = o } ∷ [])))
            (differ_more (map (λ (v : ValueFact). v.function ∷ v.args) before.values) (it.name.name ∷ arguments it.args) is.values_differ
            (λ m. true≢false (sym (stated_object it before.values m) ∙ new)));
      }

  member_is : (before : Initial) (raw : RawInit) → IsLawfulInit raw → IsInitial p before → member_faults names before raw ≡ [] → IsInitial p (with_member before raw)
  member_is before (member.Atom atom) lawful is none = with_atom_is before atom is (fact_is atom (predicate_of names atom.name.name) refl none)
  member_is before (member.Absent atom) lawful is none = is
  member_is before (member.Value place term (value.Number here n)) lawful is none =
      with_number_is before term n is (number_fact term n lawful (number_term before place here term n (function_of names term.name.name) refl none))
  member_is before (member.Value place term (value.Object o)) lawful is none =
      with_object_is before term o.name is (record { typed = object_term before place term o (function_of names term.name.name) refl none })

  stated_is : (before : Initial) (members : List RawInit) → Every IsLawfulInit members → IsInitial p before → IfParsed (stated names before members) (IsInitial p)
  stated_is before [] lawful is = is
  stated_is before (raw ∷ others) lawful is =
      parsed_behind (IsInitial p) (member_faults names before raw) (stated names (with_member before raw) others)
      (λ none. stated_is (with_member before raw) others lawful.1 (member_is before raw lawful.0 is none))

  pub initial_is : (members : List RawInit) → Every IsLawfulInit members → IfParsed (initial names members) (IsInitial p)
  initial_is members lawful =
      stated_is (record { atoms = []; numbers = []; values = [] }) members lawful
      (record { atoms = tt; atoms_differ = tt; numbers = tt; numbers_differ = tt; values = tt; values_differ = tt })

pub initial_states_are_well_formed : (names : Declarations) (p : Parts) → Agree names p p.objects
    → (members : List RawInit) → Every IsLawfulInit members → IfParsed (initial names members) (IsInitial p)
initial_states_are_well_formed names p agree members lawful = initial_is names p agree members lawful
