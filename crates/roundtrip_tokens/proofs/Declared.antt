-- The tokens of declarations and of initial facts.
use Rattle.std.proofs.Common.{◌≡◌, ℕ, zero, suc, ◌+◌, ◌%◌, ◌/◌, ◌<◌, Bool, true, false, cond, ◌&&◌, List, [], ◌∷◌, ◌++◌, map, refl, ap, decimal, arith}
use Rattle.std.specs.Prelude.{codes, flat_map, Option, Some, None, IsSome, IsSomeAnd, option_map, nat_lt, ◌==◌}
use Rattle.std.specs.Fmt.{digits, digits_onto, digit_glyph}
use Rattle.std.proofs.lemmas.Bool.Decides.{nat_tests}
use Rattle.up_text.specs.declared.name.Name.{Name}
use Rattle.up_text.specs.Names.{all_go_on, goes_on}
use Rattle.up_text.specs.Lists.{Every}
use Rattle.up_tree.specs.declared.term.Typed.{Typed}
use Rattle.up_tree.specs.declared.problem.Predicate.{Predicate}
use Rattle.up_tree.specs.declared.problem.Function.{Function}
use Rattle.up_tree.specs.declared.problem.Gives.{Gives}
use Rattle.up_tree.specs.declared.problem.Gives.TheVariants as gives
use Rattle.up_tree.specs.declared.problem.Fact.{Fact}
use Rattle.up_tree.specs.declared.problem.NumberFact.{NumberFact}
use Rattle.up_tree.specs.declared.problem.ValueFact.{ValueFact}
use Rattle.up_tree.specs.declared.problem.Parts.{Parts}
use Rattle.up_tree.specs.Objects.{named, type_in, predicate_named, function_named}
use Rattle.up_tree.specs.WellFormed.{IsType, IsBelow, OfGives, GivesNumber, gives_object, ObjectsFit, IsFact, IsNumberFact, IsValueFact}
use Rattle.pddl_lex.specs.declared.tree.TokenKind.{TokenKind}
use Rattle.pddl_lex.specs.declared.tree.TokenKind.TheVariants.{Word}
use Rattle.pddl_write.specs.Files.{declared_text, signature_text, predicate_text, function_text, gives_text, name_text, ground_text, fact_text, number_fact_text, value_fact_text}
use Rattle.roundtrip_tokens.specs.FileTokens.{declared_tokens, signature_tokens, predicate_tokens, function_tokens, ground_tokens, fact_tokens, number_fact_tokens, value_fact_tokens}
use Rattle.roundtrip_tokens.proofs.Lexes.{Lexes, is_apart, behind, follows, no_text, one_space, word, variable, called, two_operands}
use Rattle.roundtrip_tokens.proofs.Named.{Spelled, found_spelled, found_and, and_some}
use Rattle.roundtrip_tokens.proofs.Numbers.{number}
use Rattle.roundtrip_tokens.proofs.Signs.{same, of_type, type_apart}
use Rattle.roundtrip_tokens.proofs.Phrases.{AreSpelled, AllSpelled, type_spelled, spaced_apart, spaced_each}
use Rattle.roundtrip_tokens.proofs.EffectPhrases.{regroup}

-- ---- numbered variables

digit_goes_on : (d : ℕ) → d < 10 → goes_on (48 + d) ≡ true
digit_goes_on d small = grind (arith, nat_tests)

glyph_goes_on : (d : ℕ) → d < 10 → goes_on (digit_glyph false d) ≡ true
glyph_goes_on d small =
    let is : nat_lt d 10 ≡ true = grind (arith, nat_tests) in
    rw is (digit_goes_on d small)

last_small : (n : ℕ) → n % 10 < 10
last_small n = omega arith

one_more : (b : Bool) (bytes : List ℕ) → b ≡ true → all_go_on bytes ≡ true → (b && all_go_on bytes) ≡ true
one_more b bytes is all = rw is all

digits_go_on : (k n : ℕ) (bytes : List ℕ) → all_go_on bytes ≡ true → all_go_on (digits_onto k 10 false n bytes) ≡ true
digits_go_on zero n bytes all = all
digits_go_on (suc k) n bytes all =
    let more : all_go_on (digit_glyph false (n % 10) ∷ bytes) ≡ true = one_more _ bytes (glyph_goes_on (n % 10) (last_small n)) all in
    let by_test : (b : Bool) → all_go_on (cond b (digit_glyph false (n % 10) ∷ bytes) (digits_onto k 10 false (n / 10) (digit_glyph false (n % 10) ∷ bytes))) ≡ true =
    elim [ true ↦ more | false ↦ digits_go_on k (n / 10) (digit_glyph false (n % 10) ∷ bytes) more ] in
    by_test (n / 10 == 0)

pub numbered_spelled : (k : ℕ) → Spelled (codes "x" ++ decimal k)
unfolding digits
numbered_spelled k = digits_go_on 64 k [] refl

-- ---- declarations

module _ (p : Parts) (names : AreSpelled p) (typed : Bool) where
  declared_apart : (k : ℕ) (types : List Name) → is_apart (declared_text typed k types) ≡ true
  declared_apart k [] = refl
  declared_apart k (of ∷ types) = refl

  declared_lexes : (k : ℕ) (types : List Name) → Every (IsType p) types → Lexes (declared_text typed k types) (declared_tokens typed k types)
  declared_lexes k [] are = no_text
  declared_lexes k (of ∷ types) are =
      follows (follows (behind one_space (variable (codes "x" ++ decimal k) (numbered_spelled k))) (type_apart typed of) (of_type typed of (type_spelled p names of are.0)))
      (declared_apart (k + 1) types) (declared_lexes (k + 1) types are.1)

  signature : (name : Name) → Spelled name → (args : List Name) → Every (IsType p) args → Lexes (signature_text typed name args) (signature_tokens typed name args)
  signature name is args are = called name is (declared_apart 1 args) (declared_lexes 1 args are)

  pub predicate : (d : Predicate) → Spelled d.name × Every (IsType p) d.args → Lexes (predicate_text typed d) (predicate_tokens typed d)
  predicate d is = signature d.name is.0 d.args is.1

  gives_spelled : (g : Gives) → OfGives p g → Spelled (gives_text g)
  gives_spelled gives.Number is = refl
  gives_spelled (gives.Object of) is = type_spelled p names of is

  pub function : (given : Bool) (d : Function) → Spelled d.name × Every (IsType p) d.args × OfGives p d.gives → Lexes (function_text typed given d) (function_tokens typed given d)
  function given d is =
      follows (signature d.name is.0 d.args is.1) (type_apart given (gives_text d.gives)) (of_type given (gives_text d.gives) (gives_spelled d.gives is.2))

-- ---- initial facts

words_are : (args : List Name) → flat_map (λ (name : Name). Word name ∷ []) args ≡ map Word args
words_are [] = refl
words_are (name ∷ args) = ap (λ (more : List TokenKind). Word name ∷ more) (words_are args)

module _ (p : Parts) (names : AreSpelled p) (objects_spelled : AllSpelled p.objects) where
  object_spelled : (o : Name) (P : Name → Type 0) → IsSomeAnd (type_in p.objects o) P → Spelled o
  object_spelled o P is = found_spelled (λ e. e.name) p.objects o objects_spelled (behind_map (named p.objects o) is)
    where
      behind_map : (found : Option Typed) → IsSomeAnd (option_map (λ e. e.of) found) P → IsSome found
      behind_map None is = absurd is
      behind_map (Some e) is = refl

  args_spelled : (args types : List Name) → ObjectsFit p args types → Every Spelled args
  args_spelled [] types fit = tt
  args_spelled (o ∷ args) [] fit = absurd fit
  args_spelled (o ∷ args) (of ∷ types) fit = (object_spelled o (λ u. IsBelow p u of) fit.0, args_spelled args types fit.1)

  ground : (name : Name) → Spelled name → (args types : List Name) → ObjectsFit p args types → Lexes (ground_text name args) (ground_tokens name args)
  ground name is args types fit =
      called name is (spaced_apart name_text (λ (name : Name). Word name ∷ []) args)
      (regroup (spaced_each name_text (λ (name : Name). Word name ∷ []) Spelled word args (args_spelled args types fit)) (words_are args))

  pub fact : (x : Fact) → IsFact p x → Lexes (fact_text x) (fact_tokens x)
  fact x is =
      let Fits : Predicate → Type 0 = λ d. ObjectsFit p x.args d.args in
      let (d, here, known) = found_and Fits (predicate_named p x.predicate) is in
      ground x.predicate (found_spelled (λ e. e.name) p.predicates x.predicate names.predicates (and_some Fits (predicate_named p x.predicate) is)) x.args d.args known

  pub number_fact : (x : NumberFact) → IsNumberFact p x → Lexes (number_fact_text x) (number_fact_tokens x)
  number_fact x is =
      let Fits : Function → Type 0 = λ d. GivesNumber d.gives × ObjectsFit p x.args d.args in
      let (d, here, known) = found_and Fits (function_named p x.function) is.typed in
      two_operands same
      (ground x.function (found_spelled (λ e. e.name) p.functions x.function names.functions (and_some Fits (function_named p x.function) is.typed)) x.args d.args known.1)
      (number x.value is.literal)

  pub value_fact : (x : ValueFact) → IsValueFact p x → Lexes (value_fact_text x) (value_fact_tokens x)
  value_fact x is =
      let OfType : Name → Type 0 = λ of. IsSomeAnd (type_in p.objects x.value) (λ u. IsBelow p u of) in
      let Fits : Function → Type 0 = λ d. ObjectsFit p x.args d.args × IsSomeAnd (gives_object d.gives) OfType in
      let (d, here, known) = found_and Fits (function_named p x.function) is.typed in
      let (of, there, value) = found_and OfType (gives_object d.gives) known.1 in
      two_operands same
      (ground x.function (found_spelled (λ e. e.name) p.functions x.function names.functions (and_some Fits (function_named p x.function) is.typed)) x.args d.args known.0)
      (word x.value (object_spelled x.value (λ u. IsBelow p u of) value))
