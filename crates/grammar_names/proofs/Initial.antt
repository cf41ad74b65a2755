-- Members of an initial state denote it exactly where they are read as it.
use Rattle.std.proofs.Common.{◌≡◌, Bool, true, false, if◌then◌else◌, List, [], ◌∷◌, ◌++◌, append-nil, Option, Some, None, refl, ap, sym, ◌∙◌, subst}
use Rattle.std.specs.Prelude.{is_some, unwrap_or}
use Rattle.std.specs.List.{list_any}
use Rattle.std.specs.Ordering.{ordering_reverse}
use Rattle.std.specs.Cmp.Lexicographic.{bytes_decides}
use Rattle.std.specs.declared.cmp.Ordering.{Ordering}
use Rattle.std.specs.declared.cmp.Ordering.TheVariants.{Less, Equal, Greater}
use Rattle.up_text.specs.declared.name.Name.{Name}
use Rattle.up_text.specs.declared.place.Place.{Place}
use Rattle.up_frac.specs.Arithmetic.{compare}
use Rattle.up_frac.specs.Fraction.{Fraction}
use Rattle.up_frac.proofs.Order.{compare_equal, compare_total}
use Rattle.pddl_lex.specs.Parses.{parsed}
use Rattle.pddl_parse.specs.declared.raw.Ident.{Ident}
use Rattle.pddl_parse.specs.declared.raw.RawGround.{RawGround}
use Rattle.pddl_parse.specs.declared.raw.RawInit.{RawInit}
use Rattle.pddl_parse.specs.declared.raw.RawInit.TheVariants as member
use Rattle.pddl_parse.specs.declared.raw.RawValue.TheVariants as value
use Rattle.pddl_parse.proofs.Spelled.{Sound, sound_behind}
use Rattle.up_tree.specs.declared.problem.Fact.{Fact}
use Rattle.up_tree.specs.declared.problem.NumberFact.{NumberFact}
use Rattle.up_tree.specs.declared.problem.ValueFact.{ValueFact}
use Rattle.up_tree.specs.declared.problem.Gives.{Gives}
use Rattle.up_tree.specs.declared.problem.Gives.TheVariants as gives
use Rattle.up_phrase.specs.declared.fault.Fault.{Fault}
use Rattle.up_phrase.specs.declared.names.Signature.{Signature}
use Rattle.up_phrase.specs.Declarations.{Declarations}
use Rattle.up_phrase.specs.Lookups.{type_of, function_of}
use Rattle.up_phrase.specs.Walks.{unless}
use Rattle.up_check.specs.declared.lists.Initial.{Initial}
use Rattle.up_check.specs.Initial.{object_faults, bracket_faults, arguments, is_at, number_at, object_at, is_equal, keeps_number, keeps_object, second_value, value_faults, term_faults, member_faults, with_atom, with_number, with_object, with_member, stated, initial}
use Rattle.grammar_names.specs.Initial.{IsOfType, IsGroundTerm, of_function, fact, number_fact, value_fact, State, no_members, an_atom, an_absent_atom, a_number, an_object, Once, DenoteInitial}
use Rattle.grammar_shapes.proofs.Parses.{sound_map, sound_is}
use Rattle.grammar_names.proofs.Parses.{holds, none_before, none_behind}
use Rattle.grammar_names.proofs.Ground.{object_faultless, object_typed, bracket_faultless, bracket_typed, atom_faultless, atom_typed}
use Rattle.grammar_names.proofs.Once.{Adds, stands, added, Keeps, keeps_more, keeps_less, keeps_none, keeps_nothing, is_listed, is_unlisted, at_same, at_name, at_arguments, OneEach, found_at, adds, repeats_one, one_after, one_more, one_less}

-- ---- values that terms have already

abbrev number_name : NumberFact → Name
number_name f = f.function

abbrev number_args : NumberFact → List Name
number_args f = f.args

abbrev number_value : NumberFact → Fraction
number_value f = f.value

abbrev value_name : ValueFact → Name
value_name f = f.function

abbrev value_args : ValueFact → List Name
value_args f = f.args

abbrev value_object : ValueFact → Name
value_object f = f.value

abbrev OneNumber : List NumberFact → Type 0
OneNumber = OneEach number_name number_args number_value

abbrev OneObject : List ValueFact → Type 0
OneObject = OneEach value_name value_args value_object

abbrev number_found : RawGround → List NumberFact → Option Fraction
number_found = found_at number_name number_args number_value

abbrev object_found : RawGround → List ValueFact → Option Name
object_found = found_at value_name value_args value_object

number_there : (term : RawGround) (facts : List NumberFact) → number_at term facts ≡ number_found term facts
number_there term [] = refl
number_there term (f ∷ facts) = rw (number_there term facts) refl

object_there : (term : RawGround) (facts : List ValueFact) → object_at term facts ≡ object_found term facts
object_there term [] = refl
object_there term (f ∷ facts) = rw (object_there term facts) refl

compare_self : (n : Fraction) → compare n n ≡ Equal
compare_self n = by (compare n n) (compare_total.antisymm n n)
  where
    by : (o : Ordering) → o ≡ ordering_reverse o → o ≡ Equal
    by Less e = cc
    by Equal e = refl
    by Greater e = cc

equal_is : (o : Ordering) → is_equal o ≡ true → o ≡ Equal
equal_is Less e = cc
equal_is Equal e = refl
equal_is Greater e = cc

some_is : {X : Type 0} (x y : X) → Some x ≡ Some y → x ≡ y
some_is x y e = ap (λ o. unwrap_or o x) e

-- the value that is found, if any, is this
abbrev IsAny : {V : Type 0} → Option V → V → Type 0
IsAny {V} found value = (v : V) → found ≡ Some v → v ≡ value

number_keeps : (found : Option Fraction) (n : Fraction) → IsAny found n → keeps_number found n ≡ true
number_keeps None n is = refl
number_keeps (Some v) n is = rw (is v refl, compare_self n) refl

number_kept : (found : Option Fraction) (n : Fraction) → keeps_number found n ≡ true → IsAny found n
number_kept None n kept v e = cc
number_kept (Some u) n kept v e = sym (some_is u v e) ∙ compare_equal u n (equal_is (compare u n) kept)

object_keeps : (found : Option Name) (o : Name) → IsAny found o → keeps_object found o ≡ true
object_keeps None o is = refl
object_keeps (Some v) o is = (bytes_decides v o).1 (is v refl)

object_kept : (found : Option Name) (o : Name) → keeps_object found o ≡ true → IsAny found o
object_kept None o kept v e = cc
object_kept (Some u) o kept v e = sym (some_is u v e) ∙ (bytes_decides u o).0 kept

-- ---- what is stated, with one member more

same_fact : (a b : Fact) → a.predicate ≡ b.predicate → a.args ≡ b.args → a ≡ b
same_fact a b p q = λ i. record { predicate = p i; args = q i }

same_number_fact : (a b : NumberFact) → a.function ≡ b.function → a.args ≡ b.args → a.value ≡ b.value → a ≡ b
same_number_fact a b p q r = λ i. record { function = p i; args = q i; value = r i }

same_value_fact : (a b : ValueFact) → a.function ≡ b.function → a.args ≡ b.args → a.value ≡ b.value → a ≡ b
same_value_fact a b p q r = λ i. record { function = p i; args = q i; value = r i }

same_initial : (a b : Initial) → a.atoms ≡ b.atoms → a.numbers ≡ b.numbers → a.values ≡ b.values → a ≡ b
same_initial a b p q r = λ i. record { atoms = p i; numbers = q i; values = r i }

module _ (atom : RawGround) where
  abbrev states : Fact → Bool
  states f = is_at atom f.predicate f.args

  atom_adds : (before : List Fact) → Adds (fact atom) before (with_atom before atom)
  atom_adds before = by (list_any states before) refl
    where
      by : (b : Bool) → list_any states before ≡ b → Adds (fact atom) before (if b then before else before ++ fact atom ∷ [])
      by true there =
          stands (is_listed states (fact atom)
          (λ f e. same_fact (fact atom) f (at_name atom f.predicate f.args e) (at_arguments atom f.predicate f.args e)) before there)
      by false new = added (is_unlisted states (fact atom) (at_same atom atom.name.name (arguments atom.args) refl refl) before new)

module _ (term : RawGround) (n : Fraction) (before : List NumberFact) where
  abbrev made : NumberFact
  made = number_fact term n

  is_made : (y : NumberFact) → y.function ≡ made.function → y.args ≡ made.args → y.value ≡ n → y ≡ made
  is_made y p q r = same_number_fact y made p q r

  number_any : IsAny (number_at term before) n → IsAny (number_found term before) n
  number_any is = subst (λ o. IsAny o n) (number_there term before) is

  number_adds : IsAny (number_at term before) n → Adds made before (with_number before term n)
  number_adds is =
      subst (λ o. Adds made before (if is_some o then before else before ++ made ∷ [])) (sym (number_there term before))
      (adds number_name number_args number_value term made refl refl is_made before (number_any is))

  number_repeats : (numbers : List NumberFact) → OneNumber (before ++ made ∷ numbers) → IsAny (number_at term before) n
  number_repeats numbers one =
      subst (λ o. IsAny o n) (sym (number_there term before))
      (repeats_one number_name number_args number_value term made refl refl is_made before numbers one)

  number_after : OneNumber before → IsAny (number_at term before) n → OneNumber (with_number before term n)
  number_after one is =
      one_after number_name number_args number_value term made refl refl is_made before (with_number before term n) (number_adds is) one
      (number_any is)

  number_more : (numbers : List NumberFact) → IsAny (number_at term before) n → OneNumber (with_number before term n ++ numbers)
      → OneNumber (before ++ made ∷ numbers)
  number_more numbers is one =
      one_more number_name number_args number_value made before (with_number before term n) numbers (number_adds is) one

  number_less : (numbers : List NumberFact) → IsAny (number_at term before) n → OneNumber (before ++ made ∷ numbers)
      → OneNumber (with_number before term n ++ numbers)
  number_less numbers is one =
      one_less number_name number_args number_value made before (with_number before term n) numbers (number_adds is) one

module _ (term : RawGround) (o : Name) (before : List ValueFact) where
  abbrev given : ValueFact
  given = value_fact term o

  is_given : (y : ValueFact) → y.function ≡ given.function → y.args ≡ given.args → y.value ≡ o → y ≡ given
  is_given y p q r = same_value_fact y given p q r

  object_any : IsAny (object_at term before) o → IsAny (object_found term before) o
  object_any is = subst (λ found. IsAny found o) (object_there term before) is

  object_adds : IsAny (object_at term before) o → Adds given before (with_object before term o)
  object_adds is =
      subst (λ found. Adds given before (if is_some found then before else before ++ given ∷ [])) (sym (object_there term before))
      (adds value_name value_args value_object term given refl refl is_given before (object_any is))

  object_repeats : (values : List ValueFact) → OneObject (before ++ given ∷ values) → IsAny (object_at term before) o
  object_repeats values one =
      subst (λ found. IsAny found o) (sym (object_there term before))
      (repeats_one value_name value_args value_object term given refl refl is_given before values one)

  object_after : OneObject before → IsAny (object_at term before) o → OneObject (with_object before term o)
  object_after one is =
      one_after value_name value_args value_object term given refl refl is_given before (with_object before term o) (object_adds is) one
      (object_any is)

  object_more : (values : List ValueFact) → IsAny (object_at term before) o → OneObject (with_object before term o ++ values)
      → OneObject (before ++ given ∷ values)
  object_more values is one =
      one_more value_name value_args value_object given before (with_object before term o) values (object_adds is) one

  object_less : (values : List ValueFact) → IsAny (object_at term before) o → OneObject (before ++ given ∷ values)
      → OneObject (with_object before term o ++ values)
  object_less values is one =
      one_less value_name value_args value_object given before (with_object before term o) values (object_adds is) one

-- ---- members

keeps_on : {X : Type 0} (x : X) (before after stated all : List X) → Adds x before after → Keeps before (x ∷ stated) all
    → Keeps after stated all
keeps_on x before after stated all step k = subst (Keeps after stated) (sym k.are) (keeps_less x before after stated k.kept step k.once)

module _ (names : Declarations) where
  number_faultless : (before : Initial) (place at : Place) (term : RawGround) (n : Fraction) → IsGroundTerm names term gives.Number
      → IsAny (number_at term before.numbers) n
      → term_faults names before place term (value.Number at n) (function_of names term.name.name) ≡ []
  number_faultless before place at term n (of_function function is args gives) any =
      rw (is, bracket_faultless names term function.args args, gives, number_keeps (number_at term before.numbers) n any) refl

  object_faultless_at : (before : Initial) (place : Place) (term : RawGround) (it : Ident) (of : Name)
      → IsGroundTerm names term (gives.Object of) → IsOfType names of it
      → IsAny (object_at term before.values) it.name
      → term_faults names before place term (value.Object it) (function_of names term.name.name) ≡ []
  object_faultless_at before place term it of (of_function function is args gives) typed any =
      rw (
        is,
        bracket_faultless names term function.args args,
        gives,
        object_faultless names of it typed,
        object_keeps (object_at term before.values) it.name any,
      ) refl

  -- a number that is stated without fault
  record IsNumber (before : Initial) (term : RawGround) (n : Fraction) : Type 0 where
    at_term : IsGroundTerm names term gives.Number
    any : IsAny (number_at term before.numbers) n

  number_given : (before : Initial) (place at : Place) (term : RawGround) (n : Fraction) (function : Signature) (g : Gives)
      → function_of names term.name.name ≡ Some function
      → bracket_faults names term function.args ≡ [] → function.gives ≡ g → value_faults names before place term (value.Number at n) g ≡ []
      → IsNumber before term n
  number_given before place at term n function gives.Number is args gives none = record {
    at_term = of_function function is (bracket_typed names term function.args args) gives;
    any =
        number_kept (number_at term before.numbers) n
        (holds (keeps_number (number_at term before.numbers) n) (second_value place term) none);
  }
  number_given before place at term n function (gives.Object of) is args gives none = cc

  number_term : (before : Initial) (place at : Place) (term : RawGround) (n : Fraction) (found : Option Signature)
      → function_of names term.name.name ≡ found
      → term_faults names before place term (value.Number at n) found ≡ [] → IsNumber before term n
  number_term before place at term n None is none = cc
  number_term before place at term n (Some function) is none =
      let args : List Fault = bracket_faults names term function.args in
      let given : List Fault = value_faults names before place term (value.Number at n) function.gives in
      number_given before place at term n function function.gives is (none_before args given none) refl (none_behind args given none)

  -- an object that is stated without fault
  record IsObject (before : Initial) (term : RawGround) (it : Ident) : Type 0 where
    of : Name
    at_term : IsGroundTerm names term (gives.Object of)
    typed : IsOfType names of it
    any : IsAny (object_at term before.values) it.name

  object_given : (before : Initial) (place : Place) (term : RawGround) (it : Ident) (function : Signature) (g : Gives)
      → function_of names term.name.name ≡ Some function
      → bracket_faults names term function.args ≡ [] → function.gives ≡ g → value_faults names before place term (value.Object it) g ≡ []
      → IsObject before term it
  object_given before place term it function gives.Number is args gives none = cc
  object_given before place term it function (gives.Object of) is args gives none =
      let own : List Fault = object_faults names of it (type_of names it.name) in
      let second : List Fault = unless (keeps_object (object_at term before.values) it.name) (second_value place term) in
      record {
        of = of;
        at_term = of_function function is (bracket_typed names term function.args args) gives;
        typed = object_typed names of it (none_before own second none);
        any = object_kept (object_at term before.values) it.name
            (holds (keeps_object (object_at term before.values) it.name) (second_value place term) (none_behind own second none));
      }

  object_term : (before : Initial) (place : Place) (term : RawGround) (it : Ident) (found : Option Signature)
      → function_of names term.name.name ≡ found
      → term_faults names before place term (value.Object it) found ≡ [] → IsObject before term it
  object_term before place term it None is none = cc
  object_term before place term it (Some function) is none =
      let args : List Fault = bracket_faults names term function.args in
      let given : List Fault = value_faults names before place term (value.Object it) function.gives in
      object_given before place term it function function.gives is (none_before args given none) refl (none_behind args given none)

  -- ---- all members, after what is stated before them

  record Denoted (before : Initial) (members : List RawInit) (it : Initial) : Type 0 where
    atoms : List Fact
    numbers : List NumberFact
    values : List ValueFact
    stated : State names members atoms numbers values
    atoms_kept : Keeps before.atoms atoms it.atoms
    numbers_kept : Keeps before.numbers numbers it.numbers
    values_kept : Keeps before.values values it.values
    one_number : OneNumber (before.numbers ++ numbers)
    one_object : OneObject (before.values ++ values)

  denoted_read : (before it : Initial) (members : List RawInit) (atoms : List Fact) (numbers : List NumberFact) (values : List ValueFact)
      → State names members atoms numbers values → Keeps before.atoms atoms it.atoms → Keeps before.numbers numbers it.numbers
      → Keeps before.values values it.values
      → OneNumber (before.numbers ++ numbers) → OneObject (before.values ++ values) → stated names before members ≡ parsed it
  denoted_read before it _ _ _ _ no_members ka kn kv one also =
      ap parsed (same_initial before it (sym (keeps_nothing before.atoms it.atoms ka)) (sym (keeps_nothing before.numbers it.numbers kn))
      (sym (keeps_nothing before.values it.values kv)))
  denoted_read before it _ _ numbers values (an_atom atom members atoms _ _ is are) ka kn kv one also =
      rw (atom_faultless names atom is)
      (denoted_read (with_member before (member.Atom atom)) it members atoms numbers values are
      (keeps_on (fact atom) before.atoms (with_atom before.atoms atom) atoms it.atoms (atom_adds atom before.atoms) ka) kn kv one also)
  denoted_read before it _ atoms numbers values (an_absent_atom atom members _ _ _ is are) ka kn kv one also =
      rw (atom_faultless names atom is) (denoted_read before it members atoms numbers values are ka kn kv one also)
  denoted_read before it _ atoms _ values (a_number place at term n members _ numbers _ is are) ka kn kv one also =
      let any : IsAny (number_at term before.numbers) n = number_repeats term n before.numbers numbers one in
      rw (number_faultless before place at term n is any)
      (denoted_read (with_member before (member.Value place term (value.Number at n))) it members atoms numbers values are ka
      (keeps_on (number_fact term n) before.numbers (with_number before.numbers term n) numbers it.numbers
      (number_adds term n before.numbers any) kn)
      kv (number_less term n before.numbers numbers any one) also)
  denoted_read before it _ atoms numbers _ (an_object place term o of members _ _ values is typed are) ka kn kv one also =
      let any : IsAny (object_at term before.values) o.name = object_repeats term o.name before.values values also in
      rw (object_faultless_at before place term o of is typed any)
      (denoted_read (with_member before (member.Value place term (value.Object o))) it members atoms numbers values are ka kn
      (keeps_on (value_fact term o.name) before.values (with_object before.values term o.name) values it.values
      (object_adds term o.name before.values any) kv)
      one (object_less term o.name before.values values any also))

  denoted : (before : Initial) (members : List RawInit) → OneNumber before.numbers → OneObject before.values
      → Sound (stated names before members) (Denoted before members)
  denoted before [] one also = record {
    atoms = [];
    numbers = [];
    values = [];
    stated = no_members;
    atoms_kept = keeps_none before.atoms;
    numbers_kept = keeps_none before.numbers;
    values_kept = keeps_none before.values;
    one_number = subst OneNumber (sym (append-nil before.numbers)) one;
    one_object = subst OneObject (sym (append-nil before.values)) also;
  }
  denoted before (member.Atom atom ∷ others) one also =
      let after : Initial = with_member before (member.Atom atom) in
      sound_behind (Denoted before (member.Atom atom ∷ others)) (member_faults names before (member.Atom atom))
      (stated names after others) (λ none.
      sound_map (Denoted after others) (Denoted before (member.Atom atom ∷ others)) (stated names after others)
      (λ it d. record {
        atoms = fact atom ∷ d.atoms;
        numbers = d.numbers;
        values = d.values;
        stated = an_atom atom others d.atoms d.numbers d.values (atom_typed names atom none) d.stated;
        atoms_kept = keeps_more (fact atom) before.atoms after.atoms d.atoms it.atoms (atom_adds atom before.atoms) d.atoms_kept;
        numbers_kept = d.numbers_kept;
        values_kept = d.values_kept;
        one_number = d.one_number;
        one_object = d.one_object;
      }) (denoted after others one also))
  denoted before (member.Absent atom ∷ others) one also =
      sound_behind (Denoted before (member.Absent atom ∷ others)) (member_faults names before (member.Absent atom))
      (stated names before others) (λ none.
      sound_map (Denoted before others) (Denoted before (member.Absent atom ∷ others)) (stated names before others)
      (λ it d. record {
        atoms = d.atoms;
        numbers = d.numbers;
        values = d.values;
        stated = an_absent_atom atom others d.atoms d.numbers d.values (atom_typed names atom none) d.stated;
        atoms_kept = d.atoms_kept;
        numbers_kept = d.numbers_kept;
        values_kept = d.values_kept;
        one_number = d.one_number;
        one_object = d.one_object;
      }) (denoted before others one also))
  denoted before (member.Value place term (value.Number at n) ∷ others) one also =
      let raw : RawInit = member.Value place term (value.Number at n) in
      let after : Initial = with_member before raw in
      sound_behind (Denoted before (raw ∷ others)) (member_faults names before raw) (stated names after others) (λ none.
      let is : IsNumber before term n = number_term before place at term n (function_of names term.name.name) refl none in
      let step : Adds (number_fact term n) before.numbers after.numbers = number_adds term n before.numbers is.any in
      sound_map (Denoted after others) (Denoted before (raw ∷ others)) (stated names after others)
      (λ it d. record {
        atoms = d.atoms;
        numbers = number_fact term n ∷ d.numbers;
        values = d.values;
        stated = a_number place at term n others d.atoms d.numbers d.values is.at_term d.stated;
        atoms_kept = d.atoms_kept;
        numbers_kept = keeps_more (number_fact term n) before.numbers after.numbers d.numbers it.numbers step d.numbers_kept;
        values_kept = d.values_kept;
        one_number = number_more term n before.numbers d.numbers is.any d.one_number;
        one_object = d.one_object;
      }) (denoted after others (number_after term n before.numbers one is.any) also))
  denoted before (member.Value place term (value.Object o) ∷ others) one also =
      let raw : RawInit = member.Value place term (value.Object o) in
      let after : Initial = with_member before raw in
      sound_behind (Denoted before (raw ∷ others)) (member_faults names before raw) (stated names after others) (λ none.
      let is : IsObject before term o = object_term before place term o (function_of names term.name.name) refl none in
      let step : Adds (value_fact term o.name) before.values after.values = object_adds term o.name before.values is.any in
      sound_map (Denoted after others) (Denoted before (raw ∷ others)) (stated names after others)
      (λ it d. record {
        atoms = d.atoms;
        numbers = d.numbers;
        values = value_fact term o.name ∷ d.values;
        stated = an_object place term o is.of others d.atoms d.numbers d.values is.at_term is.typed d.stated;
        atoms_kept = d.atoms_kept;
        numbers_kept = d.numbers_kept;
        values_kept = keeps_more (value_fact term o.name) before.values after.values d.values it.values step d.values_kept;
        one_number = d.one_number;
        one_object = object_more term o.name before.values d.values is.any d.one_object;
      }) (denoted after others one (object_after term o.name before.values also is.any)))

-- ---- the initial state

abbrev nothing : Initial
nothing = record { atoms = []; numbers = []; values = [] }

pub initial_read : (names : Declarations) (members : List RawInit) (init : Initial) → DenoteInitial names members init
    → initial names members ≡ parsed init
initial_read names members init d =
    denoted_read names nothing init members d.atoms d.numbers d.values d.stated
    (record { kept = init.atoms; once = d.atoms_once; are = refl }) (record { kept = init.numbers; once = d.numbers_once; are = refl })
    (record { kept = init.values; once = d.values_once; are = refl }) d.one_number d.one_object

denotes : (names : Declarations) (members : List RawInit) (init : Initial) → Denoted names nothing members init
    → DenoteInitial names members init
denotes names members init d = record {
  atoms = d.atoms;
  numbers = d.numbers;
  values = d.values;
  stated = d.stated;
  atoms_once = subst (Once [] d.atoms) (sym d.atoms_kept.are) d.atoms_kept.once;
  numbers_once = subst (Once [] d.numbers) (sym d.numbers_kept.are) d.numbers_kept.once;
  values_once = subst (Once [] d.values) (sym d.values_kept.are) d.values_kept.once;
  one_number = d.one_number;
  one_object = d.one_object;
}

pub initial_denotes : (names : Declarations) (members : List RawInit) (init : Initial) → initial names members ≡ parsed init
    → DenoteInitial names members init
initial_denotes names members init e =
    denotes names members init
    (sound_is (Denoted names nothing members) (initial names members) init
    (denoted names nothing members (λ a b m n. absurd m) (λ a b m n. absurd m)) e)
