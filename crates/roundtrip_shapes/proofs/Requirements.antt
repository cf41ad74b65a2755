-- Written requirements are read as they are.
use Rattle.std.proofs.Common.{◌≡◌, ℕ, Bool, true, false, List, [], ◌∷◌, ◌++◌, refl}
use Rattle.std.specs.Prelude.{codes, ◌||◌}
use Rattle.up_text.specs.Lists.{Every}
use Rattle.up_kind.specs.declared.feature.Feature.TheVariants.{FlatTyping, HierarchicalTyping, NegativeConditions, DisjunctiveConditions, Equalities, ExistentialConditions, UniversalConditions, ConditionalEffects, ForallEffects, ObjectFluents, NumericFluents, TrajectoryConstraints}
use Rattle.up_kind.specs.Features.{FeatureSet}
use Rattle.pddl_lex.specs.declared.tree.TokenKind.{TokenKind}
use Rattle.pddl_lex.specs.declared.tree.TokenKind.TheVariants as kind
use Rattle.pddl_lex.specs.declared.tree.Sexp.{Sexp}
use Rattle.pddl_lex.specs.Parses.{parsed}
use Rattle.pddl_parse.specs.declared.section.DomainSection.TheVariants as section
use Rattle.pddl_parse.specs.Sections.{is_known, requirements}
use Rattle.pddl_parse.proofs.Nodes.{keyword_of-Leaf}
use Rattle.roundtrip_tokens.specs.FileTokens.{keyword_if, requirements_tokens}
use Rattle.roundtrip_tokens.proofs.Named.{every-append}
use Rattle.roundtrip_shapes.proofs.Trees.{rowed_as, none_rowed, Led, led, led_rowed}
use Rattle.roundtrip_shapes.proofs.Each.{TreeOf, RowOf, Section, section_of}

-- keywords that are known as requirements
abbrev IsKnown : TokenKind → Type 0
IsKnown (kind.Keyword word) = is_known word ≡ true
IsKnown k = ⊥

-- trees that are read as requirements
abbrev pub AreRequirements : List Sexp → Type 0
AreRequirements trees = requirements section.Requirements trees ≡ parsed section.Requirements

required : (ks : List TokenKind) → Every IsKnown ks → RowOf ks AreRequirements
required [] all = λ tokens kinds. none_rowed tokens kinds AreRequirements refl
required (kind.Keyword word ∷ ks) all = λ tokens kinds.
    rowed_as (led_rowed (kind.Keyword word) refl ks AreRequirements (required ks all.1) tokens kinds) (more word all.0)
  where
    more : (word : List ℕ) → is_known word ≡ true → (trees : List Sexp) → Led (kind.Keyword word) AreRequirements trees → AreRequirements trees
    more word known _ (led place rest so) = rw (keyword_of-Leaf, known) so
required (_ ∷ ks) all = absurd all.0

if_known : (b : Bool) (word : List ℕ) → is_known word ≡ true → Every IsKnown (keyword_if b word)
if_known true word known = (known, tt)
if_known false word known = tt

record AreKnown (ks : List TokenKind) : Type 0 where
  each : Every IsKnown ks

and_if : {ks : List TokenKind} → AreKnown ks → (b : Bool) (word : List ℕ) → is_known word ≡ true → AreKnown (ks ++ keyword_if b word)
and_if {ks} known b word is = record { each = every-append IsKnown ks (keyword_if b word) known.each (if_known b word is) }

strips_known : AreKnown (kind.Keyword (codes "strips") ∷ [])
strips_known = record { each = (refl, tt) }

-- what stands after `:requirements`
abbrev requirement_tokens : FeatureSet → List TokenKind
requirement_tokens f =
    kind.Keyword (codes "strips") ∷ []
    ++ keyword_if (f FlatTyping || f HierarchicalTyping) (codes "typing")
    ++ keyword_if (f NegativeConditions) (codes "negative-preconditions")
    ++ keyword_if (f DisjunctiveConditions) (codes "disjunctive-preconditions")
    ++ keyword_if (f Equalities) (codes "equality")
    ++ keyword_if (f ExistentialConditions) (codes "existential-preconditions")
    ++ keyword_if (f UniversalConditions) (codes "universal-preconditions")
    ++ keyword_if (f ConditionalEffects || f ForallEffects) (codes "conditional-effects")
    ++ keyword_if (f NumericFluents) (codes "numeric-fluents")
    ++ keyword_if (f ObjectFluents) (codes "object-fluents")
    ++ keyword_if (f TrajectoryConstraints) (codes "constraints")

requirements_known : (f : FeatureSet) → Every IsKnown (requirement_tokens f)
requirements_known f =
    let typing = and_if strips_known (f FlatTyping || f HierarchicalTyping) (codes "typing") refl in
    let negative = and_if typing (f NegativeConditions) (codes "negative-preconditions") refl in
    let disjunctive = and_if negative (f DisjunctiveConditions) (codes "disjunctive-preconditions") refl in
    let equality = and_if disjunctive (f Equalities) (codes "equality") refl in
    let existential = and_if equality (f ExistentialConditions) (codes "existential-preconditions") refl in
    let universal = and_if existential (f UniversalConditions) (codes "universal-preconditions") refl in
    let conditional = and_if universal (f ConditionalEffects || f ForallEffects) (codes "conditional-effects") refl in
    let numeric = and_if conditional (f NumericFluents) (codes "numeric-fluents") refl in
    let objects = and_if numeric (f ObjectFluents) (codes "object-fluents") refl in
    let constraints = and_if objects (f TrajectoryConstraints) (codes "constraints") refl in
    constraints.each

-- the section of the requirements
pub requirements_read : (f : FeatureSet) → TreeOf (requirements_tokens f) (Section (codes "requirements") AreRequirements)
requirements_read f = section_of (codes "requirements") (requirement_tokens f) AreRequirements (required (requirement_tokens f) (requirements_known f))
