-- The written domain is read as its abstract syntax.
use Rattle.std.proofs.Common.{◌≡◌, ℕ, Bool, true, false, List, [], ◌∷◌, ◌++◌, refl, ap, sym, subst, ◌∙◌, append_assoc, append-nil, take}
use Rattle.std.specs.Prelude.{codes, flat_map, ◌&&◌, Some}
use Rattle.std.specs.Str.{bytes_eq}
use Rattle.up_text.specs.declared.place.Place.{Place}
use Rattle.up_text.specs.Names.{IsName}
use Rattle.up_text.specs.Lists.{Every}
use Rattle.up_tree.specs.declared.term.Typed.{Typed}
use Rattle.up_tree.specs.declared.action.Action.{Action}
use Rattle.up_tree.specs.declared.problem.Predicate.{Predicate}
use Rattle.up_tree.specs.declared.problem.Function.{Function}
use Rattle.up_tree.specs.declared.problem.Parts.{Parts}
use Rattle.up_tree.specs.WellFormed.{IsAction, IsWellFormed}
use Rattle.up_kind.specs.declared.feature.Feature.TheVariants.{FlatTyping, ObjectFluents}
use Rattle.up_kind.specs.Features.{FeatureSet}
use Rattle.up_kind.specs.Carried.{carries}
use Rattle.pddl_lex.specs.declared.tree.TokenKind.{TokenKind}
use Rattle.pddl_lex.specs.declared.tree.TokenKind.TheVariants as kind
use Rattle.pddl_lex.specs.declared.tree.Sexp.{Sexp, Group}
use Rattle.pddl_lex.specs.Brackets.{Bracketed}
use Rattle.pddl_lex.specs.Parses.{parsed}
use Rattle.pddl_parse.specs.declared.raw.RawGroup.{RawGroup}
use Rattle.pddl_parse.specs.declared.raw.RawSymbol.{RawSymbol}
use Rattle.pddl_parse.specs.declared.raw.RawFunctions.{RawFunctions}
use Rattle.pddl_parse.specs.declared.raw.RawAction.{RawAction}
use Rattle.pddl_parse.specs.declared.raw.RawConstraint as constraint
use Rattle.pddl_parse.specs.declared.raw.DomainForm.{DomainForm}
use Rattle.pddl_parse.specs.declared.section.DomainKey.{DomainKey}
use Rattle.pddl_parse.specs.declared.section.DomainKey.TheVariants as key
use Rattle.pddl_parse.specs.declared.section.DomainSection.{DomainSection}
use Rattle.pddl_parse.specs.declared.section.DomainSection.TheVariants as section
use Rattle.pddl_parse.specs.Actions.{action}
use Rattle.pddl_parse.specs.Symbols as symbols
use Rattle.pddl_parse.specs.Sections.{stands_once, domain_key, domain_body, in_domain_section, domain_section, domain_sections}
use Rattle.pddl_parse.specs.Brackets.{has_section}
use Rattle.pddl_parse.specs.Texts.{title, with_section, with_sections, in_domain_text, domain, bare_domain}
use Rattle.pddl_parse.specs.Forms.{leaf}
use Rattle.pddl_parse.proofs.Nodes.{bracket-Group, keyword_of-Leaf, is_word-Leaf}
use Rattle.roundtrip_tokens.specs.Tokens.{group, object_tokens}
use Rattle.roundtrip_tokens.specs.EffectTokens.{action_tokens}
use Rattle.roundtrip_tokens.specs.FileTokens.{section_tokens, define_tokens, requirements_tokens, predicate_tokens, function_tokens, domain_tokens_with, domain_tokens}
use Rattle.roundtrip_shapes.specs.Formed.{FormsAction}
use Rattle.roundtrip_shapes.specs.Raw.{IsEmpty, empty, IsFirst, first, IsRawName, AreRawGroups, no_groups}
use Rattle.roundtrip_shapes.specs.RawEffects.{IsRawAction}
use Rattle.roundtrip_shapes.proofs.Trees.{rowed_as, none_rowed, group_formed, Led, led, led_rowed}
use Rattle.roundtrip_shapes.proofs.Actions.{actions_are_formed}
use Rattle.roundtrip_shapes.specs.RawFiles.{AreEach, IsRawPredicate, AreRawFunctions, no_functions, IsRawDomainWith}
use Rattle.roundtrip_shapes.specs.Formed.{FormsDomain}
use Rattle.roundtrip_shapes.proofs.Wellnamed as known
use Rattle.roundtrip_shapes.proofs.Each.{TreeOf, RowOf, tree_as, in_front, Section, begun, ReadsOne, reads_one, ReadsAll, reads_all}
use Rattle.roundtrip_shapes.proofs.Lists.{ReadsList, reads_list, list_read}
use Rattle.roundtrip_shapes.proofs.Symbols.{predicates_read, ReadsFunctions, reads_functions, functions_read}
use Rattle.roundtrip_shapes.proofs.Requirements.{AreRequirements, requirements_read}
use Rattle.roundtrip_shapes.proofs.Sections.{NoneOf, none_behind, none_before, and_false, title_read, section_rowed}
use Rattle.pddl_lex.specs.declared.tree.Token.{Token}
use Rattle.roundtrip_tokens.specs.Spelled.{AreOfKinds}

-- trees that are read as sections after others, where none of those due stands yet, and bring a form of which `In`
-- holds to one of which `Out` holds
data Reads (due : List (List ℕ)) (In Out : DomainForm → Type 0) (trees : List Sexp) : Type 0 where
  reads : (ss : List DomainSection) → ((before : List Sexp) → NoneOf due before → domain_sections before trees ≡ parsed ss)
      → ((form : DomainForm) → In form → Out (with_sections form ss)) → Reads due In Out trees

section_read : (word : List ℕ) (k : DomainKey) → domain_key word ≡ Some k → (before : List Sexp) → (stands_once k && has_section word before) ≡ false
    → (place there : Place) (rest : List Sexp) (s : DomainSection) → domain_body k place rest ≡ parsed s
    → domain_section before (Group place (leaf (kind.Keyword word) there ∷ rest)) ≡ parsed s
section_read word k is before fresh place there rest s body =
    rw (bracket-Group (in_domain_section before) place (leaf (kind.Keyword word) there ∷ rest), keyword_of-Leaf, is, fresh) body

-- one section more
once : (word : List ℕ) (k : DomainKey) → domain_key word ≡ Some k → (due : List (List ℕ)) → Every (λ w. bytes_eq word w ≡ false) due
    → (In Mid Out : DomainForm → Type 0) (place there : Place) (rest : List Sexp) (s : DomainSection) → ((at : Place) → domain_body k at rest ≡ parsed s)
    → ((form : DomainForm) → In form → Mid (with_section form s)) → (trees : List Sexp) → Reads due Mid Out trees
    → Reads (word ∷ due) In Out (Group place (leaf (kind.Keyword word) there ∷ rest) ∷ trees)
once word k is due differ In Mid Out place there rest s body fills trees (reads ss so goes) =
    reads (s ∷ ss)
    (λ before clear. rw (
      section_read word k is before (rw clear.0 (and_false (stands_once k))) place there rest s (body place),
      so (before ++ Group place (leaf (kind.Keyword word) there ∷ rest) ∷ []) (none_behind due before clear.1 word differ place there rest),
    ) refl)
    (λ form ready. goes (with_section form s) (fills form ready))

-- one section that is left out
left_out : (word : List ℕ) (due : List (List ℕ)) (In Mid Out : DomainForm → Type 0) → ((form : DomainForm) → In form → Mid form)
    → (trees : List Sexp) → Reads due Mid Out trees → Reads (word ∷ due) In Out trees
left_out word due In Mid Out skips trees (reads ss so goes) = reads ss (λ before clear. so before clear.1) (λ form ready. goes form (skips form ready))

pub of_empty : {X : Type 0} (P : List X → Type 0) (xs : List X) → IsEmpty xs → P [] → P xs
of_empty P _ empty is = is

-- ---- what the sections fill

-- a form of which the name is read, of these sections so, of which no action and no constraint is read
record Filled (p : Parts) (T C : List RawGroup → Type 0) (S : List RawSymbol → Type 0) (F : List RawFunctions → Type 0) (form : DomainForm) : Type 0 where
  name : IsRawName p.domain form.name
  types : T form.types
  constants : C form.constants
  predicates : S form.predicates
  functions : F form.functions
  actions : form.actions ≡ []
  constraints : form.constraints ≡ constraint.And []

-- trees that are read as actions, after other sections
data ReadsActions (typed : Bool) (actions : List Action) (trees : List Sexp) : Type 0 where
  reads_actions : (acts : List RawAction) (ss : List DomainSection) → ((before : List Sexp) → domain_sections before trees ≡ parsed ss)
      → ((form : DomainForm) → with_sections form ss ≡ record form { actions = form.actions ++ acts })
      → AreEach (IsRawAction typed) actions IsEmpty acts → ReadsActions typed actions trees

-- seven parts, grouped from the right and from the left
pub seven : (a b c d e f g : List TokenKind) → a ++ (b ++ (c ++ (d ++ (e ++ (f ++ g))))) ≡ a ++ b ++ c ++ d ++ e ++ f ++ g
seven a b c d e f g = simp append_assoc

module _ (p : Parts) (well : IsWellFormed p) (f : FeatureSet) where
  -- a bracket whose trees after `:action` are read as the action
  data ReadsAction (typed : Bool) (a : Action) : Sexp → Type 0 where
    reads_action : (place there : Place) (rest : List Sexp) (form : RawAction) → action place rest ≡ parsed form → IsRawAction typed a form
        → ReadsAction typed a (Group place (leaf (kind.Keyword (codes "action")) there ∷ rest))

  action_read : (typed : Bool) (a : Action) → IsName a.name × IsAction p a → TreeOf (action_tokens typed a) (ReadsAction typed a)
  action_read typed a is tokens kinds =
      let spells : FormsAction typed a tokens = actions_are_formed p well typed a is.0 is.1 tokens kinds in
      record {
        tree = Group spells.place (leaf (kind.Keyword (codes "action")) spells.key ∷ spells.rest);
        bracketed = spells.bracketed;
        is = reads_action spells.place spells.key spells.rest spells.form spells.read spells.is;
      }

  more_action : (typed : Bool) (a : Action) (actions : List Action) (tree : Sexp) (trees : List Sexp) → ReadsAction typed a tree → ReadsActions typed actions trees
      → ReadsActions typed (a ∷ actions) (tree ∷ trees)
  more_action typed a actions _ trees (reads_action place there rest one is so) (reads_actions acts ss read goes all_so) =
      reads_actions (one ∷ acts) (section.Action one ∷ ss)
      (λ before. rw (
        section_read (codes "action") key.Action refl before refl place there rest (section.Action one) (rw is refl),
        read (before ++ Group place (leaf (kind.Keyword (codes "action")) there ∷ rest) ∷ []),
      ) refl)
      (λ form. goes (with_section form (section.Action one)) ∙ ap (λ (more : List RawAction). record form { actions = more }) (append_assoc form.actions (one ∷ []) acts))
      (first one acts so all_so)

  actions_read : (typed : Bool) (actions : List Action) → Every (λ a. IsName a.name × IsAction p a) actions → RowOf (flat_map (action_tokens typed) actions) (ReadsActions typed actions)
  actions_read typed [] are = λ tokens kinds.
      none_rowed tokens kinds (ReadsActions typed []) (reads_actions [] [] (λ before. refl) (λ form. ap (λ (more : List RawAction). record form { actions = more }) (sym (append-nil form.actions))) empty)
  actions_read typed (a ∷ actions) are =
      in_front (action_tokens typed a) (flat_map (action_tokens typed) actions) (ReadsAction typed a) (ReadsActions typed actions) (ReadsActions typed (a ∷ actions))
      (action_read typed a are.0) (actions_read typed actions are.1) (more_action typed a actions)

  -- ---- the sections in order, from the last

  abbrev Types : List RawGroup → Type 0
  Types xs = AreRawGroups true p.types xs

  abbrev Constants : List RawGroup → Type 0
  Constants xs = AreRawGroups (f FlatTyping) (take p.constants p.objects) xs

  abbrev Predicates : List RawSymbol → Type 0
  Predicates xs = AreEach (IsRawPredicate (f FlatTyping)) p.predicates IsEmpty xs

  abbrev Functions : List RawFunctions → Type 0
  Functions xs = AreRawFunctions (f FlatTyping) (f ObjectFluents) p.functions xs

  -- the kinds of the tokens from each section on, forms at which a section is due, and what their trees are read as
  abbrev action_kinds : List TokenKind
  action_kinds = flat_map (action_tokens (f FlatTyping)) p.actions

  abbrev function_kinds : List TokenKind
  function_kinds = section_tokens (codes "functions") (function_tokens (f FlatTyping) (f ObjectFluents)) p.functions ++ action_kinds

  abbrev predicate_kinds : List TokenKind
  predicate_kinds = section_tokens (codes "predicates") (predicate_tokens (f FlatTyping)) p.predicates ++ function_kinds

  abbrev constant_kinds : List TokenKind
  constant_kinds = section_tokens (codes "constants") (object_tokens (f FlatTyping)) (take p.constants p.objects) ++ predicate_kinds

  abbrev type_kinds : List TokenKind
  type_kinds = section_tokens (codes "types") (object_tokens true) p.types ++ constant_kinds

  abbrev AtTypes : DomainForm → Type 0
  AtTypes form = Filled p IsEmpty IsEmpty IsEmpty IsEmpty form

  abbrev AtConstants : DomainForm → Type 0
  AtConstants form = Filled p Types IsEmpty IsEmpty IsEmpty form

  abbrev AtPredicates : DomainForm → Type 0
  AtPredicates form = Filled p Types Constants IsEmpty IsEmpty form

  abbrev AtFunctions : DomainForm → Type 0
  AtFunctions form = Filled p Types Constants Predicates IsEmpty form

  abbrev AtActions : DomainForm → Type 0
  AtActions form = Filled p Types Constants Predicates Functions form

  abbrev FromActions : List Sexp → Type 0
  FromActions trees = Reads [] AtActions (IsRawDomainWith f p) trees

  abbrev FromFunctions : List Sexp → Type 0
  FromFunctions trees = Reads (codes "functions" ∷ []) AtFunctions (IsRawDomainWith f p) trees

  abbrev FromPredicates : List Sexp → Type 0
  FromPredicates trees = Reads (codes "predicates" ∷ codes "functions" ∷ []) AtPredicates (IsRawDomainWith f p) trees

  abbrev FromConstants : List Sexp → Type 0
  FromConstants trees = Reads (codes "constants" ∷ codes "predicates" ∷ codes "functions" ∷ []) AtConstants (IsRawDomainWith f p) trees

  abbrev FromTypes : List Sexp → Type 0
  FromTypes trees = Reads (codes "types" ∷ codes "constants" ∷ codes "predicates" ∷ codes "functions" ∷ []) AtTypes (IsRawDomainWith f p) trees

  abbrev FromRequirements : List Sexp → Type 0
  FromRequirements trees = Reads (codes "requirements" ∷ codes "types" ∷ codes "constants" ∷ codes "predicates" ∷ codes "functions" ∷ []) AtTypes (IsRawDomainWith f p) trees

  from_actions : RowOf action_kinds FromActions
  from_actions tokens kinds = rowed_as (actions_read (f FlatTyping) p.actions (known.actions p well) tokens kinds) whole
    where
      whole : (trees : List Sexp) → ReadsActions (f FlatTyping) p.actions trees → FromActions trees
      whole trees (reads_actions acts ss read goes so) =
          reads ss (λ before clear. read before)
          (λ form ready. subst (IsRawDomainWith f p) (sym (goes form)) (record {
            name = ready.name;
            types = ready.types;
            constants = ready.constants;
            predicates = ready.predicates;
            functions = ready.functions;
            actions = rw ready.actions so;
            constraints = ready.constraints;
          }))

  from_functions : RowOf function_kinds FromFunctions
  from_functions =
      section_rowed (codes "functions") (function_tokens (f FlatTyping) (f ObjectFluents)) (ReadsFunctions (f FlatTyping) (f ObjectFluents) p.functions) FromActions FromFunctions action_kinds
      from_actions p.functions absent (functions_read (f FlatTyping) (f ObjectFluents) p.functions (known.functions p well)) present
    where
      absent : p.functions ≡ [] → (trees : List Sexp) → FromActions trees → FromFunctions trees
      absent e =
          left_out (codes "functions") [] AtFunctions AtActions (IsRawDomainWith f p)
          (λ form ready. record {
            name = ready.name;
            types = ready.types;
            constants = ready.constants;
            predicates = ready.predicates;
            functions = of_empty Functions form.functions ready.functions (subst (λ (ds : List Function). AreRawFunctions (f FlatTyping) (f ObjectFluents) ds []) (sym e) (no_functions (f ObjectFluents)));
            actions = ready.actions;
            constraints = ready.constraints;
          })

      present : (tree : Sexp) (trees : List Sexp) → Section (codes "functions") (ReadsFunctions (f FlatTyping) (f ObjectFluents) p.functions) tree
          → FromActions trees → FromFunctions (tree ∷ trees)
      present _ trees (begun place there rest (reads_functions groups is raws)) =
          once (codes "functions") key.Functions refl [] tt AtFunctions AtActions (IsRawDomainWith f p)
          place there rest (section.Functions groups) (λ at. rw (is at) refl)
          (λ form ready. record {
            name = ready.name;
            types = ready.types;
            constants = ready.constants;
            predicates = ready.predicates;
            functions = raws;
            actions = ready.actions;
            constraints = ready.constraints;
          }) trees

  from_predicates : RowOf predicate_kinds FromPredicates
  from_predicates =
      section_rowed (codes "predicates") (predicate_tokens (f FlatTyping)) (ReadsAll symbols.symbol (AreEach (IsRawPredicate (f FlatTyping)) p.predicates IsEmpty)) FromFunctions FromPredicates function_kinds
      from_functions p.predicates absent (predicates_read (f FlatTyping) p.predicates (known.predicates p well)) present
    where
      absent : p.predicates ≡ [] → (trees : List Sexp) → FromFunctions trees → FromPredicates trees
      absent e =
          left_out (codes "predicates") (codes "functions" ∷ []) AtPredicates AtFunctions (IsRawDomainWith f p)
          (λ form ready. record {
            name = ready.name;
            types = ready.types;
            constants = ready.constants;
            predicates = of_empty Predicates form.predicates ready.predicates (subst (λ (ds : List Predicate). AreEach (IsRawPredicate (f FlatTyping)) ds IsEmpty []) (sym e) empty);
            functions = ready.functions;
            actions = ready.actions;
            constraints = ready.constraints;
          })

      present : (tree : Sexp) (trees : List Sexp) → Section (codes "predicates") (ReadsAll symbols.symbol (AreEach (IsRawPredicate (f FlatTyping)) p.predicates IsEmpty)) tree
          → FromFunctions trees → FromPredicates (tree ∷ trees)
      present _ trees (begun place there rest (reads_all groups is raws)) =
          once (codes "predicates") key.Predicates refl (codes "functions" ∷ []) (refl, tt) AtPredicates AtFunctions (IsRawDomainWith f p)
          place there rest (section.Predicates groups) (λ at. rw is refl)
          (λ form ready. record {
            name = ready.name;
            types = ready.types;
            constants = ready.constants;
            predicates = raws;
            functions = ready.functions;
            actions = ready.actions;
            constraints = ready.constraints;
          }) trees

  from_constants : RowOf constant_kinds FromConstants
  from_constants =
      section_rowed (codes "constants") (object_tokens (f FlatTyping)) (ReadsList (f FlatTyping) (take p.constants p.objects)) FromPredicates FromConstants predicate_kinds
      from_predicates (take p.constants p.objects) absent (list_read (f FlatTyping) (take p.constants p.objects) (known.constants p well) (known.constant_types p well)) present
    where
      absent : (take p.constants p.objects) ≡ [] → (trees : List Sexp) → FromPredicates trees → FromConstants trees
      absent e =
          left_out (codes "constants") (codes "predicates" ∷ codes "functions" ∷ []) AtConstants AtPredicates (IsRawDomainWith f p)
          (λ form ready. record {
            name = ready.name;
            types = ready.types;
            constants = of_empty Constants form.constants ready.constants (subst (λ (os : List Typed). AreRawGroups (f FlatTyping) os []) (sym e) (no_groups (f FlatTyping)));
            predicates = ready.predicates;
            functions = ready.functions;
            actions = ready.actions;
            constraints = ready.constraints;
          })

      present : (tree : Sexp) (trees : List Sexp) → Section (codes "constants") (ReadsList (f FlatTyping) (take p.constants p.objects)) tree
          → FromPredicates trees → FromConstants (tree ∷ trees)
      present _ trees (begun place there rest (reads_list groups is raws)) =
          once (codes "constants") key.Constants refl (codes "predicates" ∷ codes "functions" ∷ []) (refl, (refl, tt)) AtConstants AtPredicates (IsRawDomainWith f p)
          place there rest (section.Constants groups) (λ at. rw (is at) refl)
          (λ form ready. record {
            name = ready.name;
            types = ready.types;
            constants = raws;
            predicates = ready.predicates;
            functions = ready.functions;
            actions = ready.actions;
            constraints = ready.constraints;
          }) trees

  from_types : RowOf type_kinds FromTypes
  from_types =
      section_rowed (codes "types") (object_tokens true) (ReadsList true p.types) FromConstants FromTypes constant_kinds
      from_constants p.types absent (list_read true p.types (known.names p well).types (known.type_types p well)) present
    where
      absent : p.types ≡ [] → (trees : List Sexp) → FromConstants trees → FromTypes trees
      absent e =
          left_out (codes "types") (codes "constants" ∷ codes "predicates" ∷ codes "functions" ∷ []) AtTypes AtConstants (IsRawDomainWith f p)
          (λ form ready. record {
            name = ready.name;
            types = of_empty Types form.types ready.types (subst (λ (ts : List Typed). AreRawGroups true ts []) (sym e) (no_groups true));
            constants = ready.constants;
            predicates = ready.predicates;
            functions = ready.functions;
            actions = ready.actions;
            constraints = ready.constraints;
          })

      present : (tree : Sexp) (trees : List Sexp) → Section (codes "types") (ReadsList true p.types) tree
          → FromConstants trees → FromTypes (tree ∷ trees)
      present _ trees (begun place there rest (reads_list groups is raws)) =
          once (codes "types") key.Types refl (codes "constants" ∷ codes "predicates" ∷ codes "functions" ∷ []) (refl, (refl, (refl, tt))) AtTypes AtConstants (IsRawDomainWith f p)
          place there rest (section.Types groups) (λ at. rw (is at) refl)
          (λ form ready. record {
            name = ready.name;
            types = raws;
            constants = ready.constants;
            predicates = ready.predicates;
            functions = ready.functions;
            actions = ready.actions;
            constraints = ready.constraints;
          }) trees

  from_requirements : RowOf (requirements_tokens f ++ type_kinds)
      FromRequirements
  from_requirements =
      in_front (requirements_tokens f) type_kinds (Section (codes "requirements") AreRequirements)
      FromTypes FromRequirements
      (requirements_read f) from_types present
    where
      present : (tree : Sexp) (trees : List Sexp) → Section (codes "requirements") AreRequirements tree
          → FromTypes trees → FromRequirements (tree ∷ trees)
      present _ trees (begun place there rest is) =
          once (codes "requirements") key.Requirements refl (codes "types" ∷ codes "constants" ∷ codes "predicates" ∷ codes "functions" ∷ []) (refl, (refl, (refl, (refl, tt)))) AtTypes AtTypes (IsRawDomainWith f p)
          place there rest section.Requirements (λ at. is) (λ form ready. ready) trees

  -- a tree that is read as the domain
  data ReadsWhole : Sexp → Type 0 where
    reads_whole : (tree : Sexp) (form : DomainForm) → domain (tree ∷ []) ≡ parsed form → IsRawDomainWith f p form → ReadsWhole tree

  domain_read : TreeOf (domain_tokens_with f p) ReadsWhole
  domain_read =
      tree_as (ap (λ (more : List TokenKind). group more) (sym (seven (define_tokens (codes "domain") p.domain) (requirements_tokens f) (section_tokens (codes "types") (object_tokens true) p.types)
      (section_tokens (codes "constants") (object_tokens (f FlatTyping)) (take p.constants p.objects)) (section_tokens (codes "predicates") (predicate_tokens (f FlatTyping)) p.predicates)
      (section_tokens (codes "functions") (function_tokens (f FlatTyping) (f ObjectFluents)) p.functions) action_kinds)))
      (λ tokens kinds. group_formed tokens (kind.Word (codes "define") ∷ (group (kind.Word (codes "domain") ∷ kind.Word p.domain ∷ []) ++ (requirements_tokens f ++ type_kinds))) kinds
      (Led (kind.Word (codes "define")) (IsFirst (ReadsOne (title (codes "domain")) (IsRawName p.domain)) FromRequirements))
      (led_rowed (kind.Word (codes "define")) refl (group (kind.Word (codes "domain") ∷ kind.Word p.domain ∷ []) ++ (requirements_tokens f ++ type_kinds))
      (IsFirst (ReadsOne (title (codes "domain")) (IsRawName p.domain)) FromRequirements)
      (in_front (group (kind.Word (codes "domain") ∷ kind.Word p.domain ∷ [])) (requirements_tokens f ++ type_kinds)
      (ReadsOne (title (codes "domain")) (IsRawName p.domain)) FromRequirements (IsFirst (ReadsOne (title (codes "domain")) (IsRawName p.domain)) FromRequirements)
      (title_read (codes "domain") refl p.domain well.domain) from_requirements first))
      ReadsWhole made)
    where
      made : (place : Place) (trees : List Sexp) → Led (kind.Word (codes "define")) (IsFirst (ReadsOne (title (codes "domain")) (IsRawName p.domain)) FromRequirements) trees → ReadsWhole (Group place trees)
      made place _ (led there _ (first second rest (reads_one name is named) (reads ss so goes))) =
          reads_whole (Group place (leaf (kind.Word (codes "define")) there ∷ second ∷ rest)) (with_sections (bare_domain name) ss)
          (rw (
            bracket-Group in_domain_text place (leaf (kind.Word (codes "define")) there ∷ second ∷ rest),
            is_word-Leaf,
            is,
            so [] (none_before (codes "requirements" ∷ codes "types" ∷ codes "constants" ∷ codes "predicates" ∷ codes "functions" ∷ [])),
          ) refl)
          (goes (bare_domain name) (record {
            name = named;
            types = empty;
            constants = empty;
            predicates = empty;
            functions = empty;
            actions = refl;
            constraints = refl;
          }))

pub domains_are_formed : (p : Parts) → IsWellFormed p → (tokens : List Token) → AreOfKinds tokens (domain_tokens p) → FormsDomain p tokens
unfolding domain_tokens
domains_are_formed p well tokens kinds =
    let formed = domain_read p well (carries p) tokens kinds in
    spelled formed.tree formed.bracketed formed.is
  where
    spelled : (tree : Sexp) → Bracketed tokens (tree ∷ []) → ReadsWhole p well (carries p) tree → FormsDomain p tokens
    spelled _ b (reads_whole tree form read is) = record { tree = tree; form = form; bracketed = b; read = read; is = is }
