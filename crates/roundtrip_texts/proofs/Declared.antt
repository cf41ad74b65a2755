-- What a written domain declares is what the problem's parts declare.
use Rattle.std.proofs.Common.{◌≡◌, Bool, true, false, true≢false, ◌||◌, List, [], ◌∷◌, ◌++◌, map, take, None, refl, ap, sym, subst, ◌∙◌}
use Rattle.std.specs.Prelude.{is_some}
use Rattle.std.specs.List.{list_any}
use Rattle.up_text.specs.declared.name.Name.{Name}
use Rattle.up_text.specs.Lists.{Every, Member, Differ}
use Rattle.up_tree.specs.declared.term.Typed.{Typed}
use Rattle.up_tree.specs.declared.problem.Predicate.{Predicate}
use Rattle.up_tree.specs.declared.problem.Function.{Function}
use Rattle.up_tree.specs.declared.problem.Gives.{Gives}
use Rattle.up_tree.specs.declared.problem.Gives.TheVariants as gives
use Rattle.up_tree.specs.declared.problem.Parts.{Parts}
use Rattle.up_tree.specs.WellFormed.{IsType, gives_object, OfGives, IsWellFormed}
use Rattle.up_kind.specs.declared.feature.Feature.TheVariants.{FlatTyping}
use Rattle.up_kind.specs.Carried.{gives_an_object, carries}
use Rattle.pddl_lex.specs.Parses.{parsed}
use Rattle.pddl_parse.specs.declared.raw.RawFunctions.{RawFunctions}
use Rattle.pddl_parse.specs.declared.raw.RawGives.TheVariants as stated
use Rattle.pddl_parse.specs.declared.raw.DomainForm.{DomainForm}
use Rattle.up_phrase.specs.declared.names.Signature.{Signature}
use Rattle.up_phrase.specs.Declarations.{Declarations}
use Rattle.up_phrase.specs.Lookups.{type_of}
use Rattle.up_phrase.specs.Walks.{after, in_turn}
use Rattle.up_declare.specs.Types.{types}
use Rattle.up_declare.specs.Declaring.{with_objects, with_predicates, with_function_group, with_functions}
use Rattle.up_check.specs.Domains.{types_alone, declared}
use Rattle.roundtrip_tokens.proofs.Named.{every-map, every-take}
use Rattle.roundtrip_shapes.specs.Raw.{empty}
use Rattle.roundtrip_shapes.specs.RawFiles.{AreRawFunctions, no_functions, one_group, IsRawDomain}
use Rattle.roundtrip_names.specs.Declared.{entry, signature_of, TypesWritten, and_objects, domain_declarations, with_each}
use Rattle.roundtrip_names.specs.Symbols.{IsNew, and_predicates}
use Rattle.roundtrip_names.proofs.Declaring.{types_are_written}
use Rattle.roundtrip_names.proofs.Declared.{objects_are_named}
use Rattle.roundtrip_names.proofs.Listed.{types_are_named}
use Rattle.roundtrip_names.proofs.Params.{predicates_are_named, functions_are_named, each_function_is_named}
use Rattle.roundtrip_texts.proofs.Names.{every, every_mapped, map_twice, differ_front, differ_back, differ_apart, differ_taken, none_found}
use Rattle.roundtrip_texts.proofs.Symbols.{each_symbol, own_groups}

-- ---- functions

abbrev predicate_entry : Predicate → Name × List Name
predicate_entry d = (d.name, d.args)

abbrev function_entry : Function → Name × List Name
function_entry d = (d.name, d.args)

abbrev number_function : Name × List Name → Name × Signature
number_function e = (e.0, record { args = e.1; gives = gives.Number })

-- where none gives an object, all give numbers
all_numbers : (ds : List Function) → list_any gives_an_object ds ≡ false → map number_function (map function_entry ds) ≡ map (λ (d : Function). (d.name, signature_of d)) ds
all_numbers [] none = refl
all_numbers (d ∷ ds) none = by d.gives (all_numbers ds) none
  where
    by : (g : Gives) → (list_any gives_an_object ds ≡ false → map number_function (map function_entry ds) ≡ map (λ (d : Function). (d.name, signature_of d)) ds)
        → (is_some (gives_object g) || list_any gives_an_object ds) ≡ false
        → number_function (function_entry d) ∷ map number_function (map function_entry ds)
        ≡ (d.name, record { args = d.args; gives = g }) ∷ map (λ (d : Function). (d.name, signature_of d)) ds
    by gives.Number rest none = ap (λ others. number_function (function_entry d) ∷ others) (rest none)
    by (gives.Object of) rest none = absurd (true≢false none)

module _ (p : Parts) (typed : Bool) (all : TypesWritten typed p) (names : Declarations) (listed : names.types ≡ map entry p.types) where
  -- functions in one group, which give numbers
  together_read : (ds : List Function) (groups : List RawFunctions) → list_any gives_an_object ds ≡ false → AreRawFunctions typed false ds groups → Every (λ d. IsNew names d.name) ds
      → Differ (map (λ (d : Function). d.name) ds) → Every (λ d. Every (IsType p) d.args) ds → with_functions groups names ≡ parsed (with_each names ds)
  together_read [] _ none (no_functions _) new differ types = each_function_is_named p typed all [] [] names listed empty tt tt tt tt
  together_read (d ∷ ds) _ none (one_group _ _ symbols are) new differ types =
      ap (λ v. after v (in_turn with_function_group []))
      (functions_are_named p typed all stated.Number (map function_entry (d ∷ ds)) symbols names listed
      (each_symbol (λ (d : Function). d.name) (λ d. d.args) typed (d ∷ ds) symbols are)
      (every_mapped function_entry (λ e. IsNew names e.0) (d ∷ ds) new)
      (subst Differ (sym (map_twice function_entry (λ e. e.0) (d ∷ ds))) differ)
      (every_mapped function_entry (λ e. Every (IsType p) e.1) (d ∷ ds) types) tt)
      ∙ ap (λ fs. parsed (record { types = names.types; objects = names.objects; predicates = names.predicates; functions = names.functions ++ fs })) (all_numbers (d ∷ ds) none)

  functions_read : (ds : List Function) (groups : List RawFunctions) → AreRawFunctions typed (list_any gives_an_object ds) ds groups → Every (λ d. IsNew names d.name) ds
      → Differ (map (λ (d : Function). d.name) ds) → Every (λ d. Every (IsType p) d.args) ds → Every (λ d. OfGives p d.gives) ds
      → with_functions groups names ≡ parsed (with_each names ds)
  functions_read ds groups are new differ types known = by (list_any gives_an_object ds) refl are
    where
      by : (b : Bool) → list_any gives_an_object ds ≡ b → AreRawFunctions typed b ds groups → with_functions groups names ≡ parsed (with_each names ds)
      by true some are = each_function_is_named p typed all ds groups names listed (own_groups typed ds groups are) new differ types known
      by false none are = together_read ds groups none are new differ types

-- ---- the whole

module _ (p : Parts) (well : IsWellFormed p) where
  abbrev typed : Bool
  typed = carries p FlatTyping

  abbrev constants : List Typed
  constants = take p.constants p.objects

  abbrev first_names : Declarations
  first_names = types_alone (map entry p.types)

  abbrev more_names : Declarations
  more_names = and_objects first_names constants

  abbrev symbol_names : Declarations
  symbol_names = and_predicates more_names (map predicate_entry p.predicates)

  abbrev predicate_names : List Name
  predicate_names = map (λ (d : Predicate). d.name) p.predicates

  abbrev function_names : List Name
  function_names = map (λ (d : Function). d.name) p.functions

  all : TypesWritten typed p
  all = types_are_written p

  constants_read : (form : DomainForm) → IsRawDomain p form → with_objects form.constants first_names ≡ parsed more_names
  constants_read form is =
      objects_are_named p typed all constants form.constants first_names refl is.constants
      (every (λ (o : Typed). type_of first_names o.name ≡ None) (λ o. refl) constants)
      (differ_taken (λ (o : Typed). o.name) p.constants p.objects well.objects.differ)
      (every-take (λ o. IsType p o.of) p.constants p.objects well.object_types)

  predicates_read : (form : DomainForm) → IsRawDomain p form → with_predicates form.predicates more_names ≡ parsed symbol_names
  predicates_read form is =
      predicates_are_named p typed all (map predicate_entry p.predicates) form.predicates more_names refl
      (each_symbol (λ (d : Predicate). d.name) (λ d. d.args) typed p.predicates form.predicates is.predicates)
      (every (λ (e : Name × List Name). IsNew more_names e.0) (λ e. (refl, refl)) (map predicate_entry p.predicates))
      (subst Differ (sym (map_twice predicate_entry (λ e. e.0) p.predicates))
      (differ_front predicate_names function_names well.symbols.differ))
      (every_mapped predicate_entry (λ e. Every (IsType p) e.1) p.predicates well.predicate_types)

  -- no predicate has the name of a function
  functions_new : Every (λ (d : Function). IsNew symbol_names d.name) p.functions
  functions_new =
      every-map (λ (d : Function). d.name) (λ n. ¬ Member n predicate_names) (λ d. IsNew symbol_names d.name)
      (λ d out. (none_found (λ (d : Predicate). d.name) (λ d. d.args) p.predicates d.name out, refl)) p.functions
      (differ_apart predicate_names function_names well.symbols.differ)

  all_functions_read : (form : DomainForm) → IsRawDomain p form → with_functions form.functions symbol_names ≡ parsed (domain_declarations p)
  all_functions_read form is =
      functions_read p typed all symbol_names refl p.functions form.functions is.functions functions_new
      (differ_back predicate_names function_names well.symbols.differ)
      well.function_types well.value_types

  pub declared_read : (form : DomainForm) → IsRawDomain p form → declared form ≡ parsed (domain_declarations p)
  declared_read form is =
      ap (λ v. after v (λ ts. after (with_objects form.constants (types_alone ts)) (λ names. after (with_predicates form.predicates names) (λ more. with_functions form.functions more))))
      (types_are_named p well form.types is.types)
      ∙ ap (λ v. after v (λ names. after (with_predicates form.predicates names) (λ more. with_functions form.functions more))) (constants_read form is)
      ∙ ap (λ v. after v (λ more. with_functions form.functions more)) (predicates_read form is)
      ∙ all_functions_read form is
