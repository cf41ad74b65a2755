-- Written declarations are read as they are.
use Rattle.std.proofs.Common.{◌≡◌, ℕ, ◌+◌, Bool, true, false, List, [], ◌∷◌, ◌++◌, refl, sym, ap, ◌∙◌, append_assoc, append-nil}
use Rattle.std.specs.Prelude.{codes, decimal, flat_map, not}
use Rattle.up_text.specs.declared.name.Name.{Name}
use Rattle.up_text.specs.declared.place.Place.{Place}
use Rattle.up_text.specs.Names.{IsName, is_reserved, reserved_words}
use Rattle.up_text.specs.Lists.{Every}
use Rattle.up_tree.specs.declared.problem.Predicate.{Predicate}
use Rattle.up_tree.specs.declared.problem.Function.{Function}
use Rattle.up_tree.specs.declared.problem.Gives.{Gives}
use Rattle.up_tree.specs.declared.problem.Gives.TheVariants as gives
use Rattle.pddl_lex.specs.declared.tree.Sign.TheVariants as sign
use Rattle.pddl_lex.specs.declared.tree.TokenKind.{TokenKind}
use Rattle.pddl_lex.specs.declared.tree.TokenKind.TheVariants as kind
use Rattle.pddl_lex.specs.declared.tree.Sexp.{Sexp, Group}
use Rattle.pddl_lex.specs.Parses.{parsed, behind}
use Rattle.pddl_parse.specs.declared.raw.RawGroup.{RawGroup}
use Rattle.pddl_parse.specs.declared.raw.RawSymbol.{RawSymbol}
use Rattle.pddl_parse.specs.declared.raw.RawFunctions.{RawFunctions}
use Rattle.pddl_parse.specs.declared.raw.RawGives.{RawGives}
use Rattle.pddl_parse.specs.declared.raw.RawGives.TheVariants as given
use Rattle.pddl_parse.specs.declared.typed.Item.TheVariants as item
use Rattle.pddl_parse.specs.Shapes.{Read}
use Rattle.pddl_parse.specs.Brackets.{short, is_word}
use Rattle.pddl_parse.specs.TypedLists.{is_minus, ends_after, ends_in_minus, variable_list}
use Rattle.pddl_parse.specs.TypedLists as lists
use Rattle.pddl_parse.specs.Symbols as parse
use Rattle.pddl_parse.specs.Forms.{ident_at}
use Rattle.pddl_parse.proofs.Nodes.{bracket-Group, is_minus-Group, variables-Group}
use Rattle.pddl_parse.proofs.Read.{ident_read}
use Rattle.pddl_write.specs.Files.{gives_text}
use Rattle.roundtrip_tokens.specs.Tokens.{variables_tokens, type_tokens}
use Rattle.roundtrip_tokens.specs.FileTokens.{declared_tokens, signature_tokens, predicate_tokens, function_tokens}
use Rattle.roundtrip_tokens.proofs.Declared.{numbered_spelled}
use Rattle.roundtrip_shapes.specs.Raw.{IsEmpty, empty, IsFirst, first, at}
use Rattle.roundtrip_shapes.proofs.Trees.{formed_as, none_rowed, rowed_as, group_formed, leaf_formed, Led, led, led_rowed}
use Rattle.roundtrip_shapes.specs.Formed.{AllNamed}
use Rattle.roundtrip_shapes.proofs.Names.{word_is}
use Rattle.grammar_shapes.proofs.EffectWords.{IsFree, free}
use Rattle.roundtrip_shapes.proofs.Terms.{SpellsName, spells_name, name_formed}
use Rattle.roundtrip_shapes.proofs.Groups.{SpellGroups, spell_groups, groups_rowed}
use Rattle.roundtrip_shapes.proofs.Rows.{variables_read}
use Rattle.roundtrip_shapes.specs.RawFiles.{AreEach, numbered, IsRawSymbol, IsRawPredicate, IsRawSignature, IsRawGives, gives_number, gives_object, AreRawFunctions, no_functions, more_functions, one_group}
use Rattle.roundtrip_shapes.proofs.Each.{TreeOf, RowOf, row_as, in_front, ReadsOne, reads_one, ReadsAll, each_read}

-- ---- numbered variables

not_true : (b : Bool) → not b ≡ true → b ≡ false
not_true true is = absurd cc
not_true false is = refl

pub free_name : (name : Name) → IsName name → IsFree name
free_name name is = free name (not_true (is_reserved name) is.free)

numbered_free : (k : ℕ) → is_reserved (codes "x" ++ decimal k) ≡ false
unfolding reserved_words
numbered_free k = refl

numbered_named : (k : ℕ) (types : List Name) → AllNamed (numbered k types)
numbered_named k [] = tt
numbered_named k (of ∷ types) = (record { spelled = numbered_spelled k; free = rw (numbered_free k) refl }, numbered_named (k + 1) types)

numbered_types : (k : ℕ) (types : List Name) → Every IsName types → Every (λ v. IsName v.of) (numbered k types)
numbered_types k [] all = tt
numbered_types k (of ∷ types) all = (all.0, numbered_types (k + 1) types all.1)

numbered_tokens : (typed : Bool) (k : ℕ) (types : List Name) → declared_tokens typed k types ≡ variables_tokens typed (numbered k types)
numbered_tokens typed k [] = refl
numbered_tokens typed k (of ∷ types) =
    ap (λ (more : List TokenKind). kind.Variable (codes "x" ++ decimal k) ∷ type_tokens typed of ++ more) (numbered_tokens typed (k + 1) types)

-- ---- symbols

list_parts : (ends : Bool) (place : Place) (items : List Sexp) (v : Read (List RawGroup)) (groups : List RawGroup)
    → behind (short ends place items) v ≡ parsed groups → (ends ≡ false) × (v ≡ parsed groups)
list_parts true place items v groups is = absurd cc
list_parts false place items v groups is = (refl, is)

-- a tree that is read as a symbol of which this is so, and is no dash
pub data ReadsSymbol (P : RawSymbol → Type 0) (tree : Sexp) : Type 0 where
  reads_symbol : (s : RawSymbol) → parse.symbol tree ≡ parsed s → is_minus tree ≡ false → P s → ReadsSymbol P tree

symbol_made : (typed : Bool) (name : Name) (args : List Name) (place : Place) (trees : List Sexp)
    → IsFirst (SpellsName name) (SpellGroups typed (numbered 1 args)) trees → ReadsSymbol (IsRawSymbol typed name args) (Group place trees)
symbol_made typed name args place _ (first head rest (spells_name ident is named) (spell_groups groups are raws)) =
    let whole : variable_list place rest ≡ parsed groups = sym (variables-Group place rest) ∙ variables_read place rest groups are in
    let (ends, reads) = list_parts (ends_in_minus rest) place rest (lists.typed item.Variable place rest [] false) groups whole in
    reads_symbol (record { name = ident; params = groups }) (rw (bracket-Group parse.in_symbol place (head ∷ rest), ends, ident_read head ident is, reads) refl)
    (is_minus-Group place (head ∷ rest)) (record { name = named; params = raws })

pub symbol_read : (typed : Bool) (name : Name) (args : List Name) → IsName name → Every IsName args → TreeOf (signature_tokens typed name args) (ReadsSymbol (IsRawSymbol typed name args))
symbol_read typed name args is are tokens kinds =
    group_formed tokens (kind.Word name ∷ declared_tokens typed 1 args) kinds (IsFirst (SpellsName name) (SpellGroups typed (numbered 1 args)))
    (in_front (kind.Word name ∷ []) (declared_tokens typed 1 args) (SpellsName name) (SpellGroups typed (numbered 1 args)) (IsFirst (SpellsName name) (SpellGroups typed (numbered 1 args)))
    (name_formed name is)
    (row_as (numbered_tokens typed 1 args) (groups_rowed typed (numbered 1 args) (numbered_named 1 args) (numbered_types 1 args are))) first)
    (ReadsSymbol (IsRawSymbol typed name args)) (symbol_made typed name args)

-- the name of a declaration and the types of its arguments may be declared
abbrev pub PredicateNamed : Predicate → Type 0
PredicateNamed d = IsName d.name × Every IsName d.args

predicate_read : (typed : Bool) (d : Predicate) → PredicateNamed d → TreeOf (predicate_tokens typed d) (ReadsOne parse.symbol (IsRawPredicate typed d))
predicate_read typed d is tokens kinds = formed_as (symbol_read typed d.name d.args is.0 is.1 tokens kinds) whole
  where
    whole : (tree : Sexp) → ReadsSymbol (IsRawSymbol typed d.name d.args) tree → ReadsOne parse.symbol (IsRawPredicate typed d) tree
    whole tree (reads_symbol s is plain so) = reads_one s is so

pub predicates_read : (typed : Bool) (ds : List Predicate) → Every PredicateNamed ds
    → RowOf (flat_map (predicate_tokens typed) ds) (ReadsAll parse.symbol (AreEach (IsRawPredicate typed) ds IsEmpty))
predicates_read typed ds are = each_read parse.symbol (predicate_tokens typed) (IsRawPredicate typed) PredicateNamed (predicate_read typed) ds are

-- ---- functions

-- `number` is reserved, and all else that a function gives is a name
pub data IsGiven : Gives → Type 0 where
  a_number : IsGiven gives.Number
  of_type : (of : Name) → IsName of → IsGiven (gives.Object of)

abbrev pub FunctionNamed : Function → Type 0
FunctionNamed d = (IsName d.name × Every IsName d.args) × IsGiven d.gives

-- a tree that is read as what a function gives
data ReadsGives (g : Gives) (tree : Sexp) : Type 0 where
  reads_gives : (raw : RawGives) → parse.gives tree ≡ parsed raw → is_minus tree ≡ false → IsRawGives g raw → ReadsGives g tree

gives_read : (g : Gives) → IsGiven g → TreeOf (kind.Word (gives_text g) ∷ []) (ReadsGives g)
unfolding is_word is_minus
gives_read _ a_number tokens kinds =
    leaf_formed tokens (kind.Word (codes "number")) refl kinds (ReadsGives gives.Number) (λ place. reads_gives given.Number refl refl gives_number)
gives_read _ (of_type of is) tokens kinds =
    leaf_formed tokens (kind.Word of) refl kinds (ReadsGives (gives.Object of))
    (λ place. reads_gives (given.Object (ident_at of place)) (rw ((free_name of is).no_number, ident_read _ _ (word_is of is place)) refl) refl (gives_object of (ident_at of place) (at place)))

-- trees that are read as functions, after other functions
data ReadSignatures (typed : Bool) (ds : List Function) (trees : List Sexp) : Type 0 where
  read_signatures : (ss : List RawSymbol) → ends_after false trees ≡ false
      → ((place : Place) (front : List RawSymbol) → parse.declared place trees front false ≡ parse.last_functions place (front ++ ss) false)
      → AreEach (IsRawSignature typed) ds IsEmpty ss → ReadSignatures typed ds trees

-- trees that are read as functions with what they give
data ReadFunctions (typed given : Bool) (ds : List Function) (trees : List Sexp) : Type 0 where
  read_functions : (groups : List RawFunctions) → ends_after false trees ≡ false
      → ((place : Place) → parse.declared place trees [] false ≡ parsed groups) → AreRawFunctions typed given ds groups → ReadFunctions typed given ds trees

module _ (typed : Bool) where
  signatures_read : (ds : List Function) → Every FunctionNamed ds → RowOf (flat_map (function_tokens typed false) ds) (ReadSignatures typed ds)
  signatures_read [] are = λ tokens kinds. none_rowed tokens kinds (ReadSignatures typed []) (read_signatures [] refl (λ place front. rw (append-nil front) refl) empty)
  signatures_read (d ∷ ds) are =
      row_as (append_assoc (signature_tokens typed d.name d.args) [] (flat_map (function_tokens typed false) ds))
      (in_front (signature_tokens typed d.name d.args) (flat_map (function_tokens typed false) ds) (ReadsSymbol (IsRawSymbol typed d.name d.args)) (ReadSignatures typed ds)
      (ReadSignatures typed (d ∷ ds)) (symbol_read typed d.name d.args are.0.0.0 are.0.0.1) (signatures_read ds are.1) more)
    where
      more : (tree : Sexp) (trees : List Sexp) → ReadsSymbol (IsRawSymbol typed d.name d.args) tree → ReadSignatures typed ds trees → ReadSignatures typed (d ∷ ds) (tree ∷ trees)
      more tree trees (reads_symbol s is plain so) (read_signatures ss ends reads all_so) =
          read_signatures (s ∷ ss) (rw plain ends) (λ place front. rw (plain, is, reads place (front ++ s ∷ []), append_assoc front (s ∷ []) ss) refl) (first s ss so all_so)

  ungiven_read : (ds : List Function) → Every FunctionNamed ds → RowOf (flat_map (function_tokens typed false) ds) (ReadFunctions typed false ds)
  ungiven_read [] are tokens kinds = none_rowed tokens kinds (ReadFunctions typed false []) (read_functions [] refl (λ place. refl) (no_functions false))
  ungiven_read (d ∷ ds) are tokens kinds = rowed_as (signatures_read (d ∷ ds) are tokens kinds) whole
    where
      grouped : (ss : List RawSymbol) → IsFirst (IsRawSignature typed d) (AreEach (IsRawSignature typed) ds IsEmpty) ss → (place : Place)
          → parse.last_functions place ss false ≡ parsed (record { functions = ss; gives = given.Number } ∷ [])
      grouped _ (first s ss so all_so) place = refl

      whole : (trees : List Sexp) → ReadSignatures typed (d ∷ ds) trees → ReadFunctions typed false (d ∷ ds) trees
      whole trees (read_signatures ss ends reads so) =
          read_functions (record { functions = ss; gives = given.Number } ∷ []) ends (λ place. rw (reads place []) (grouped ss so place)) (one_group d ds ss so)

  given_read : (ds : List Function) → Every FunctionNamed ds → RowOf (flat_map (function_tokens typed true) ds) (ReadFunctions typed true ds)
  unfolding is_minus
  given_read [] are = λ tokens kinds. none_rowed tokens kinds (ReadFunctions typed true []) (read_functions [] refl (λ place. refl) (no_functions true))
  given_read (d ∷ ds) are =
      row_as (append_assoc (signature_tokens typed d.name d.args) (type_tokens true (gives_text d.gives)) (flat_map (function_tokens typed true) ds))
      (in_front (signature_tokens typed d.name d.args) (kind.Sign sign.Minus ∷ kind.Word (gives_text d.gives) ∷ flat_map (function_tokens typed true) ds)
      (ReadsSymbol (IsRawSymbol typed d.name d.args)) (Led (kind.Sign sign.Minus) (IsFirst (ReadsGives d.gives) (ReadFunctions typed true ds)))
      (ReadFunctions typed true (d ∷ ds)) (symbol_read typed d.name d.args are.0.0.0 are.0.0.1)
      (led_rowed (kind.Sign sign.Minus) refl (kind.Word (gives_text d.gives) ∷ flat_map (function_tokens typed true) ds) (IsFirst (ReadsGives d.gives) (ReadFunctions typed true ds))
      (in_front (kind.Word (gives_text d.gives) ∷ []) (flat_map (function_tokens typed true) ds) (ReadsGives d.gives) (ReadFunctions typed true ds)
      (IsFirst (ReadsGives d.gives) (ReadFunctions typed true ds)) (gives_read d.gives are.0.1) (given_read ds are.1) first))
      more)
    where
      more : (tree : Sexp) (trees : List Sexp) → ReadsSymbol (IsRawSymbol typed d.name d.args) tree
          → Led (kind.Sign sign.Minus) (IsFirst (ReadsGives d.gives) (ReadFunctions typed true ds)) trees → ReadFunctions typed true (d ∷ ds) (tree ∷ trees)
      more tree _ (reads_symbol s is plain so) (led dash _ (first two rest (reads_gives raw is_raw no_dash also) (read_functions groups ends reads all_so))) =
          read_functions (record { functions = s ∷ []; gives = raw } ∷ groups) (rw no_dash ends) (λ place. rw (plain, is, is_raw, reads place) refl)
          (more_functions d ds s raw groups so also all_so)

  each_function_read : (given : Bool) (ds : List Function) → Every FunctionNamed ds → RowOf (flat_map (function_tokens typed given) ds) (ReadFunctions typed given ds)
  each_function_read true ds are = given_read ds are
  each_function_read false ds are = ungiven_read ds are

-- trees that are read, as those of a section, as these functions
pub data ReadsFunctions (typed given : Bool) (ds : List Function) (trees : List Sexp) : Type 0 where
  reads_functions : (groups : List RawFunctions) → ((place : Place) → parse.functions place trees ≡ parsed groups) → AreRawFunctions typed given ds groups → ReadsFunctions typed given ds trees

pub functions_read : (typed given : Bool) (ds : List Function) → Every FunctionNamed ds → RowOf (flat_map (function_tokens typed given) ds) (ReadsFunctions typed given ds)
functions_read typed given ds are tokens kinds = rowed_as (each_function_read typed given ds are tokens kinds) whole
  where
    whole : (trees : List Sexp) → ReadFunctions typed given ds trees → ReadsFunctions typed given ds trees
    whole trees (read_functions groups ends reads raw) = reads_functions groups (λ place. rw (ends, reads place) refl) raw
