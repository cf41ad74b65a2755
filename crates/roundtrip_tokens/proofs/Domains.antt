-- The tokens of the written domain.
use Rattle.std.proofs.Common.{◌≡◌, ℕ, Bool, true, false, List, [], ◌∷◌, ◌++◌, take, refl, sym, append_assoc}
use Rattle.std.specs.Prelude.{codes, flat_map, ◌||◌}
use Rattle.up_text.specs.Lists.{Every}
use Rattle.up_tree.specs.declared.action.Action.{Action}
use Rattle.up_tree.specs.declared.problem.Parts.{Parts}
use Rattle.up_tree.specs.WellFormed.{IsType, OfGives, IsAction, IsWellFormed}
use Rattle.up_kind.specs.declared.feature.Feature.TheVariants.{FlatTyping, HierarchicalTyping, NegativeConditions, DisjunctiveConditions, Equalities, ExistentialConditions, UniversalConditions, ConditionalEffects, ForallEffects, ObjectFluents, NumericFluents, TrajectoryConstraints}
use Rattle.up_kind.specs.Features.{FeatureSet}
use Rattle.up_kind.specs.Carried.{carries}
use Rattle.pddl_lex.specs.declared.tree.TokenKind.{TokenKind}
use Rattle.pddl_lex.specs.declared.tree.TokenKind.TheVariants.{Open, Close, Word, Keyword}
use Rattle.pddl_lex.specs.Next.{next, sign, name_behind}
use Rattle.pddl_write.specs.Phrases.{object_text}
use Rattle.pddl_write.specs.Files.{word_if, requirements_text, predicate_text, function_text, action_lines, from_functions, from_predicates, from_constants, from_types, define_domain, domain_pieces_with, pieces_of_domain, domain_text}
use Rattle.roundtrip_tokens.specs.Tokens.{object_tokens}
use Rattle.roundtrip_tokens.specs.EffectTokens.{action_tokens}
use Rattle.roundtrip_tokens.specs.FileTokens.{section_tokens, define_tokens, keyword_if, requirements_tokens, predicate_tokens, function_tokens, domain_tokens_with, domain_tokens}
use Rattle.roundtrip_tokens.proofs.Lexes.{Shut, Lexes, is_apart, behind, follows, no_text, one_space, keyword, word}
use Rattle.roundtrip_tokens.proofs.Named.{Spelled, every-take}
use Rattle.roundtrip_tokens.proofs.Phrases.{AllSpelled, BothSpelled, typed_object}
use Rattle.roundtrip_tokens.proofs.EffectPhrases.{action}
use Rattle.roundtrip_tokens.proofs.Declared.{predicate, function}
use Rattle.roundtrip_tokens.proofs.Sections.{After, regrouped, line_after, end_line, end_after, section_after, eight}
use Rattle.roundtrip_tokens.proofs.Known as known

-- ---- requirements

requirement_apart : (b : Bool) (name : List ℕ) → is_apart (word_if b (codes " :" ++ name)) ≡ true
requirement_apart true name = refl
requirement_apart false name = refl

requirement : (b : Bool) (name : List ℕ) → Spelled name → Lexes (word_if b (codes " :" ++ name)) (keyword_if b name)
requirement true name is = behind one_space (keyword name is)
requirement false name is = no_text

-- one requirement more, where it is carried
with_requirement : {text : List ℕ} {ks : List TokenKind} → Lexes text ks → (b : Bool) (name : List ℕ) → Spelled name
    → Lexes (text ++ word_if b (codes " :" ++ name)) (ks ++ keyword_if b name)
with_requirement before b name is = follows before (requirement_apart b name) (requirement b name is)

requirements_open : Shut (codes "(:requirements ") (Open ∷ Keyword (codes "requirements") ∷ [])
unfolding next sign name_behind
requirements_open = record { before = λ rest. refl }

requirements : (f : FeatureSet) → Lexes (requirements_text f) (requirements_tokens f)
requirements f =
    let typing = with_requirement (behind requirements_open (keyword (codes "strips") refl)) (f FlatTyping || f HierarchicalTyping) (codes "typing") refl in
    let negative = with_requirement typing (f NegativeConditions) (codes "negative-preconditions") refl in
    let disjunctive = with_requirement negative (f DisjunctiveConditions) (codes "disjunctive-preconditions") refl in
    let equality = with_requirement disjunctive (f Equalities) (codes "equality") refl in
    let existential = with_requirement equality (f ExistentialConditions) (codes "existential-preconditions") refl in
    let universal = with_requirement existential (f UniversalConditions) (codes "universal-preconditions") refl in
    let conditional = with_requirement universal (f ConditionalEffects || f ForallEffects) (codes "conditional-effects") refl in
    let numeric = with_requirement conditional (f NumericFluents) (codes "numeric-fluents") refl in
    let object = with_requirement numeric (f ObjectFluents) (codes "object-fluents") refl in
    let constraints = with_requirement object (f TrajectoryConstraints) (codes "constraints") refl in
    follows constraints refl end_line

-- ---- the lines

domain_open : Shut (codes "(define (domain ") (Open ∷ Word (codes "define") ∷ Open ∷ Word (codes "domain") ∷ [])
unfolding next sign
domain_open = record { before = λ rest. refl }

module _ (p : Parts) (well : IsWellFormed p) (f : FeatureSet) where
  define : Lexes (define_domain p) (Open ∷ define_tokens (codes "domain") p.domain)
  define = follows (behind domain_open (word p.domain well.domain.spelled)) refl end_line

  constants_spelled : AllSpelled (take p.constants p.objects)
  constants_spelled = every-take (λ o. Spelled o.name) p.constants p.objects (known.objects p well)

  actions : (all : List Action) → Every (λ a. Spelled a.name × IsAction p a) all
      → After (action_lines f all) (flat_map (action_tokens (f FlatTyping)) all ++ Close ∷ [])
  actions [] are = end_after
  actions (a ∷ all) are =
      regrouped (line_after (action p (known.names p well) (f FlatTyping) constants_spelled a are.0.0 are.0.1) refl (actions all are.1))
      (sym (append_assoc (action_tokens (f FlatTyping) a) (flat_map (action_tokens (f FlatTyping)) all) (Close ∷ [])))

  functions : After (from_functions f p) (section_tokens (codes "functions") (function_tokens (f FlatTyping) (f ObjectFluents)) p.functions
      ++ (flat_map (action_tokens (f FlatTyping)) p.actions ++ Close ∷ []))
  functions =
      section_after (function_text (f FlatTyping) (f ObjectFluents)) (function_tokens (f FlatTyping) (f ObjectFluents))
      (λ d. Spelled d.name × Every (IsType p) d.args × OfGives p d.gives) (function p (known.names p well) (f FlatTyping) (f ObjectFluents))
      (codes "functions") refl p.functions (known.functions p well) (actions p.actions (known.actions p well))

  predicates : After (from_predicates f p) (section_tokens (codes "predicates") (predicate_tokens (f FlatTyping)) p.predicates
      ++ (section_tokens (codes "functions") (function_tokens (f FlatTyping) (f ObjectFluents)) p.functions
      ++ (flat_map (action_tokens (f FlatTyping)) p.actions ++ Close ∷ [])))
  predicates =
      section_after (predicate_text (f FlatTyping)) (predicate_tokens (f FlatTyping))
      (λ d. Spelled d.name × Every (IsType p) d.args) (predicate p (known.names p well) (f FlatTyping))
      (codes "predicates") refl p.predicates (known.predicates p well) functions

  constants : After (from_constants f p) (section_tokens (codes "constants") (object_tokens (f FlatTyping)) (take p.constants p.objects)
      ++ (section_tokens (codes "predicates") (predicate_tokens (f FlatTyping)) p.predicates
      ++ (section_tokens (codes "functions") (function_tokens (f FlatTyping) (f ObjectFluents)) p.functions
      ++ (flat_map (action_tokens (f FlatTyping)) p.actions ++ Close ∷ []))))
  constants =
      section_after (object_text (f FlatTyping)) (object_tokens (f FlatTyping)) BothSpelled (typed_object p (known.names p well) (f FlatTyping))
      (codes "constants") refl (take p.constants p.objects) (every-take BothSpelled p.constants p.objects (known.typed_objects p well)) predicates

  types : After (from_types f p) (section_tokens (codes "types") (object_tokens true) p.types
      ++ (section_tokens (codes "constants") (object_tokens (f FlatTyping)) (take p.constants p.objects)
      ++ (section_tokens (codes "predicates") (predicate_tokens (f FlatTyping)) p.predicates
      ++ (section_tokens (codes "functions") (function_tokens (f FlatTyping) (f ObjectFluents)) p.functions
      ++ (flat_map (action_tokens (f FlatTyping)) p.actions ++ Close ∷ [])))))
  types =
      section_after (object_text true) (object_tokens true) BothSpelled (typed_object p (known.names p well) true)
      (codes "types") refl p.types (known.typed_types p well) constants

  domain_with : After (domain_pieces_with f p) (domain_tokens_with f p)
  domain_with =
      regrouped (line_after define refl (line_after (requirements f) refl types))
      (eight (Open ∷ define_tokens (codes "domain") p.domain) (requirements_tokens f) (section_tokens (codes "types") (object_tokens true) p.types)
      (section_tokens (codes "constants") (object_tokens (f FlatTyping)) (take p.constants p.objects))
      (section_tokens (codes "predicates") (predicate_tokens (f FlatTyping)) p.predicates)
      (section_tokens (codes "functions") (function_tokens (f FlatTyping) (f ObjectFluents)) p.functions)
      (flat_map (action_tokens (f FlatTyping)) p.actions) (Close ∷ []))

pub domain_lexes : (p : Parts) → IsWellFormed p → Lexes (domain_text p) (domain_tokens p)
unfolding domain_text pieces_of_domain domain_tokens
domain_lexes p well = (domain_with p well (carries p)).lexes
