-- Written initial states are read as they are.
use Rattle.std.proofs.Common.{◌≡◌, List, [], ◌∷◌, ◌++◌, map, refl, ap, append_assoc}
use Rattle.std.specs.Prelude.{flat_map, Option, Some, None, IsSome, IsSomeAnd, option_map}
use Rattle.up_frac.specs.Fraction.{Fraction}
use Rattle.up_text.specs.declared.name.Name.{Name}
use Rattle.up_text.specs.declared.place.Place.{Place}
use Rattle.up_text.specs.Names.{IsName}
use Rattle.up_text.specs.Lists.{Every}
use Rattle.up_tree.specs.declared.term.Typed.{Typed}
use Rattle.up_tree.specs.declared.problem.Predicate.{Predicate}
use Rattle.up_tree.specs.declared.problem.Function.{Function}
use Rattle.up_tree.specs.declared.problem.Fact.{Fact}
use Rattle.up_tree.specs.declared.problem.NumberFact.{NumberFact}
use Rattle.up_tree.specs.declared.problem.ValueFact.{ValueFact}
use Rattle.up_tree.specs.declared.problem.Parts.{Parts}
use Rattle.up_tree.specs.Objects.{named, type_in, predicate_named, function_named}
use Rattle.up_tree.specs.WellFormed.{IsBelow, GivesNumber, gives_object, ObjectsFit, IsFact, IsNumberFact, IsValueFact}
use Rattle.pddl_lex.specs.declared.tree.Sign.TheVariants as sign
use Rattle.pddl_lex.specs.declared.tree.TokenKind.{TokenKind}
use Rattle.pddl_lex.specs.declared.tree.TokenKind.TheVariants as kind
use Rattle.pddl_lex.specs.declared.tree.Sexp.{Sexp, Group}
use Rattle.pddl_parse.specs.declared.raw.Ident.{Ident}
use Rattle.pddl_parse.specs.declared.raw.RawGround.{RawGround}
use Rattle.pddl_parse.specs.declared.raw.RawValue.{RawValue}
use Rattle.pddl_parse.specs.declared.raw.RawValue.TheVariants as raw_value
use Rattle.pddl_parse.specs.declared.raw.RawInit.{RawInit}
use Rattle.pddl_parse.specs.declared.raw.RawInit.TheVariants as init
use Rattle.pddl_parse.specs.Shapes.{ident}
use Rattle.pddl_parse.specs.Starts as parse
use Rattle.pddl_parse.specs.Starts.{is_same, initial, initial_value}
use Rattle.pddl_parse.specs.Forms.{leaf, ident_at}
use Rattle.pddl_parse.proofs.Nodes.{bracket-Group, is_word-Leaf, is_same-Leaf, initial_value-Leaf}
use Rattle.pddl_parse.proofs.Read.{ident_read}
use Rattle.roundtrip_tokens.specs.Tokens.{group}
use Rattle.roundtrip_tokens.specs.FileTokens.{ground_tokens, fact_tokens, number_fact_tokens, value_fact_tokens}
use Rattle.roundtrip_tokens.proofs.Named.{found_and, and_some}
use Rattle.roundtrip_shapes.specs.Raw.{IsEmpty, IsRawName, at}
use Rattle.roundtrip_shapes.proofs.Trees.{group_formed, leaf_formed, Led, led, led_rowed, Pair, pair, pair_rowed}
use Rattle.roundtrip_shapes.specs.Formed.{AllNamed}
use Rattle.roundtrip_shapes.proofs.Names.{word_is, name_of-name, found_named, AreNamed}
use Rattle.roundtrip_shapes.specs.RawFiles.{AreEach, IsRawGround, IsRawFact, an_atom, IsRawNumberFact, a_number, IsRawValueFact, an_object, IsRawInit}
use Rattle.roundtrip_shapes.proofs.Each.{TreeOf, RowOf, row_as, ReadsOne, reads_one, ReadsAll, reads_all, each_then, each_read}
use Rattle.roundtrip_shapes.proofs.Symbols.{free_name}

words_are : (args : List Name) → map kind.Word args ≡ flat_map (λ (name : Name). kind.Word name ∷ []) args
words_are [] = refl
words_are (name ∷ args) = ap (λ (more : List TokenKind). kind.Word name ∷ more) (words_are args)

pub name_read : (name : Name) → IsName name → TreeOf (kind.Word name ∷ []) (ReadsOne ident (IsRawName name))
name_read name is tokens kinds =
    leaf_formed tokens (kind.Word name) refl kinds (ReadsOne ident (IsRawName name)) (λ place. reads_one (ident_at name place) (ident_read _ _ (word_is name is place)) (at place))

args_read : (args : List Name) → Every IsName args → RowOf (map kind.Word args) (ReadsAll ident (AreEach IsRawName args IsEmpty))
args_read args are = row_as (words_are args) (each_read ident (λ (name : Name). kind.Word name ∷ []) IsRawName IsName name_read args are)

-- a name at objects, as trees in a bracket
abbrev GroundRow : Name → List Name → List Sexp → Type 0
GroundRow name args trees = Led (kind.Word name) (ReadsAll ident (AreEach IsRawName args IsEmpty)) trees

ground_row : (name : Name) (args : List Name) → Every IsName args → RowOf (kind.Word name ∷ map kind.Word args) (GroundRow name args)
ground_row name args are = led_rowed (kind.Word name) refl (map kind.Word args) (ReadsAll ident (AreEach IsRawName args IsEmpty)) (args_read args are)

ground_read : (name : Name) → IsName name → (args : List Name) → Every IsName args → TreeOf (ground_tokens name args) (ReadsOne parse.ground (IsRawGround name args))
ground_read name is args are tokens kinds =
    group_formed tokens (kind.Word name ∷ map kind.Word args) kinds (GroundRow name args) (ground_row name args are) (ReadsOne parse.ground (IsRawGround name args)) made
  where
    made : (place : Place) (trees : List Sexp) → GroundRow name args trees → ReadsOne parse.ground (IsRawGround name args) (Group place trees)
    made place _ (led there rest (reads_all idents reads raw)) =
        reads_one (record { place = place; name = ident_at name there; args = idents })
        (rw (bracket-Group parse.in_ground place (leaf (kind.Word name) there ∷ rest), ident_read _ _ (word_is name is there), reads) refl)
        (record { name = at there; args = raw })

atom_read : (x : Fact) → IsName x.predicate → Every IsName x.args → TreeOf (fact_tokens x) (ReadsOne initial (IsRawFact x))
atom_read x is are tokens kinds =
    group_formed tokens (kind.Word x.predicate ∷ map kind.Word x.args) kinds (GroundRow x.predicate x.args) (ground_row x.predicate x.args are) (ReadsOne initial (IsRawFact x)) made
  where
    made : (place : Place) (trees : List Sexp) → GroundRow x.predicate x.args trees → ReadsOne initial (IsRawFact x) (Group place trees)
    made place _ (led there rest (reads_all idents reads raw)) =
        reads_one (init.Atom (record { place = place; name = ident_at x.predicate there; args = idents }))
        (rw (
          bracket-Group parse.in_init place (leaf (kind.Word x.predicate) there ∷ rest),
          is_word-Leaf,
          (free_name x.predicate is).no_not,
          is_same-Leaf,
          ident_read _ _ (word_is x.predicate is there),
          reads,
        ) refl)
        (an_atom (record { place = place; name = ident_at x.predicate there; args = idents }) (record { name = at there; args = raw }))

-- `=`, a name at objects and a value
assigned : (name : Name) → IsName name → (args : List Name) → Every IsName args → (k : TokenKind) (V : RawValue → Type 0) → TreeOf (k ∷ []) (ReadsOne initial_value V)
    → (I : RawInit → Type 0) → ((place : Place) (ground : RawGround) (v : RawValue) → IsRawGround name args ground → V v → I (init.Value place ground v))
    → TreeOf (group (kind.Sign sign.Same ∷ (ground_tokens name args ++ k ∷ []))) (ReadsOne initial I)
assigned name is args are k V value_read I each tokens kinds =
    group_formed tokens (kind.Sign sign.Same ∷ (ground_tokens name args ++ k ∷ [])) kinds
    (Led (kind.Sign sign.Same) (Pair (ReadsOne parse.ground (IsRawGround name args)) (ReadsOne initial_value V)))
    (led_rowed (kind.Sign sign.Same) refl (ground_tokens name args ++ k ∷ []) (Pair (ReadsOne parse.ground (IsRawGround name args)) (ReadsOne initial_value V))
    (pair_rowed (ReadsOne parse.ground (IsRawGround name args)) (ReadsOne initial_value V) (ground_tokens name args) (k ∷ []) (ground_read name is args are) value_read))
    (ReadsOne initial I) made
  where
    made : (place : Place) (trees : List Sexp) → Led (kind.Sign sign.Same) (Pair (ReadsOne parse.ground (IsRawGround name args)) (ReadsOne initial_value V)) trees
        → ReadsOne initial I (Group place trees)
    made place _ (led there _ (pair one two (reads_one ground is_ground so) (reads_one v is_value also))) =
        reads_one (init.Value place ground v)
        (rw (bracket-Group parse.in_init place (leaf (kind.Sign sign.Same) there ∷ one ∷ two ∷ []), is_word-Leaf, is_same-Leaf, is_ground, is_value) refl)
        (each place ground v so also)

-- a value that stands for this number, or for this object
data IsNumberAt (n : Fraction) : RawValue → Type 0 where
  number_at : (place : Place) → IsNumberAt n (raw_value.Number place n)

data IsObjectAt (o : Name) : RawValue → Type 0 where
  object_at : (ident : Ident) → IsRawName o ident → IsObjectAt o (raw_value.Object ident)

number_value : (n : Fraction) → TreeOf (kind.Number n ∷ []) (ReadsOne initial_value (IsNumberAt n))
number_value n tokens kinds =
    leaf_formed tokens (kind.Number n) refl kinds (ReadsOne initial_value (IsNumberAt n)) (λ place. reads_one (raw_value.Number place n) (rw initial_value-Leaf refl) (number_at place))

object_value : (o : Name) → IsName o → TreeOf (kind.Word o ∷ []) (ReadsOne initial_value (IsObjectAt o))
object_value o is tokens kinds =
    leaf_formed tokens (kind.Word o) refl kinds (ReadsOne initial_value (IsObjectAt o))
    (λ place. reads_one (raw_value.Object (ident_at o place)) (rw (initial_value-Leaf, name_of-name o is) refl) (object_at (ident_at o place) (at place)))

number_read : (x : NumberFact) → IsName x.function → Every IsName x.args → TreeOf (number_fact_tokens x) (ReadsOne initial (IsRawNumberFact x))
number_read x is are = assigned x.function is x.args are (kind.Number x.value) (IsNumberAt x.value) (number_value x.value) (IsRawNumberFact x) each
  where
    each : (place : Place) (ground : RawGround) (v : RawValue) → IsRawGround x.function x.args ground → IsNumberAt x.value v → IsRawNumberFact x (init.Value place ground v)
    each place ground _ so (number_at there) = a_number place there ground so

value_read : (x : ValueFact) → IsName x.function → Every IsName x.args → IsName x.value → TreeOf (value_fact_tokens x) (ReadsOne initial (IsRawValueFact x))
value_read x is are named = assigned x.function is x.args are (kind.Word x.value) (IsObjectAt x.value) (object_value x.value named) (IsRawValueFact x) each
  where
    each : (place : Place) (ground : RawGround) (v : RawValue) → IsRawGround x.function x.args ground → IsObjectAt x.value v → IsRawValueFact x (init.Value place ground v)
    each place ground _ so (object_at it also) = an_object place ground it so also

module _ (p : Parts) (names : AreNamed p) (objects_named : AllNamed p.objects) where
  object_named : (o : Name) (P : Name → Type 0) → IsSomeAnd (type_in p.objects o) P → IsName o
  object_named o P is = found_named (λ e. e.name) p.objects o objects_named (behind_map (named p.objects o) is)
    where
      behind_map : (found : Option Typed) → IsSomeAnd (option_map (λ e. e.of) found) P → IsSome found
      behind_map None is = absurd is
      behind_map (Some e) is = refl

  args_named : (args types : List Name) → ObjectsFit p args types → Every IsName args
  args_named [] types fit = tt
  args_named (o ∷ args) [] fit = absurd fit
  args_named (o ∷ args) (of ∷ types) fit = (object_named o (λ u. IsBelow p u of) fit.0, args_named args types fit.1)

  fact_read : (x : Fact) → IsFact p x → TreeOf (fact_tokens x) (ReadsOne initial (IsRawFact x))
  fact_read x is =
      let Fits : Predicate → Type 0 = λ d. ObjectsFit p x.args d.args in
      let (d, here, known) = found_and Fits (predicate_named p x.predicate) is in
      atom_read x (found_named (λ e. e.name) p.predicates x.predicate names.predicates (and_some Fits (predicate_named p x.predicate) is)) (args_named x.args d.args known)

  number_fact_read : (x : NumberFact) → IsNumberFact p x → TreeOf (number_fact_tokens x) (ReadsOne initial (IsRawNumberFact x))
  number_fact_read x is =
      let Fits : Function → Type 0 = λ d. GivesNumber d.gives × ObjectsFit p x.args d.args in
      let (d, here, known) = found_and Fits (function_named p x.function) is.typed in
      number_read x (found_named (λ e. e.name) p.functions x.function names.functions (and_some Fits (function_named p x.function) is.typed)) (args_named x.args d.args known.1)

  value_fact_read : (x : ValueFact) → IsValueFact p x → TreeOf (value_fact_tokens x) (ReadsOne initial (IsRawValueFact x))
  value_fact_read x is =
      let OfType : Name → Type 0 = λ of. IsSomeAnd (type_in p.objects x.value) (λ u. IsBelow p u of) in
      let Fits : Function → Type 0 = λ d. ObjectsFit p x.args d.args × IsSomeAnd (gives_object d.gives) OfType in
      let (d, here, known) = found_and Fits (function_named p x.function) is.typed in
      let (of, there, fits) = found_and OfType (gives_object d.gives) known.1 in
      value_read x (found_named (λ e. e.name) p.functions x.function names.functions (and_some Fits (function_named p x.function) is.typed)) (args_named x.args d.args known.0)
      (object_named x.value (λ u. IsBelow p u of) fits)

  pub init_read : Every (IsFact p) p.atoms → Every (IsNumberFact p) p.numbers → Every (IsValueFact p) p.values
      → RowOf (flat_map fact_tokens p.atoms ++ flat_map number_fact_tokens p.numbers ++ flat_map value_fact_tokens p.values) (ReadsAll initial (IsRawInit p))
  init_read atoms numbers values =
      row_as (append_assoc (flat_map fact_tokens p.atoms) (flat_map number_fact_tokens p.numbers) (flat_map value_fact_tokens p.values))
      (each_then initial fact_tokens IsRawFact (IsFact p) fact_read p.atoms atoms (flat_map number_fact_tokens p.numbers ++ flat_map value_fact_tokens p.values)
      (AreEach IsRawNumberFact p.numbers (AreEach IsRawValueFact p.values IsEmpty))
      (each_then initial number_fact_tokens IsRawNumberFact (IsNumberFact p) number_fact_read p.numbers numbers (flat_map value_fact_tokens p.values)
      (AreEach IsRawValueFact p.values IsEmpty)
      (each_read initial value_fact_tokens IsRawValueFact (IsValueFact p) value_fact_read p.values values)))
