-- Sections of a domain are read exactly as they are spelled.
use Rattle.std.proofs.Common.{◌≡◌, ℕ, Bool, false, List, [], ◌∷◌, ◌++◌, append_assoc, append-nil, refl, sym, subst, ◌∙◌}
use Rattle.std.specs.Prelude.{⊤, ◌≢◌, ◌&&◌, codes, Option, Some, None}
use Rattle.std.specs.Str.{bytes_eq}
use Rattle.std.proofs.lemmas.Slice.Eq.{bytes_eq-Decides}
use Rattle.up_text.specs.declared.place.Place.{Place}
use Rattle.pddl_lex.specs.declared.tree.TokenKind.TheVariants as kind
use Rattle.pddl_lex.specs.declared.tree.Sexp.{Sexp, Group}
use Rattle.pddl_lex.specs.Parses.{parsed, rejected}
use Rattle.pddl_parse.specs.declared.section.DomainKey.{DomainKey}
use Rattle.pddl_parse.specs.declared.section.DomainKey.TheVariants as key
use Rattle.pddl_parse.specs.declared.section.DomainSection.{DomainSection}
use Rattle.pddl_parse.specs.declared.section.DomainSection.TheVariants as in_domain
use Rattle.pddl_parse.specs.declared.shape.ShapeError.TheVariants.{Duplicate}
use Rattle.pddl_parse.specs.declared.typed.Item.TheVariants as item
use Rattle.pddl_parse.specs.TypedLists.{typed_list}
use Rattle.pddl_parse.specs.Brackets.{has_section}
use Rattle.pddl_parse.specs.Symbols as symbol
use Rattle.pddl_parse.specs.Actions as act
use Rattle.pddl_parse.specs.Constraints.{whole_constraint}
use Rattle.pddl_parse.specs.Sections.{keyword_of, domain_key, stands_once, domain_body, domain_known, domain_named, in_domain_section, domain_section, domain_sections}
use Rattle.pddl_parse.specs.Forms.{leaf}
use Rattle.pddl_parse.proofs.Nodes.{bracket-Group, keyword_of-Leaf}
use Rattle.pddl_parse.proofs.Spelled.{Sound, sound_over, sound_two}
use Rattle.grammar_shapes.specs.Lists.{AreListed}
use Rattle.grammar_shapes.specs.Symbols.{ArePredicates, AreFunctions}
use Rattle.grammar_shapes.specs.Actions.{IsAction}
use Rattle.grammar_shapes.specs.Constraints.{IsWholeConstraint}
use Rattle.grammar_shapes.specs.Sections.{section, IsDomainSection, requirements, types, constants, predicates, functions, action, constraints, AreDomainSections, no_sections, more_sections, Begins, begins, AtMostOnce}
use Rattle.grammar_shapes.proofs.Parses.{sound_if, sound_map, sound_bracket}
use Rattle.grammar_shapes.proofs.Walks.{sound_of, chosen, alone_sound}
use Rattle.grammar_shapes.proofs.Lists.{names_read, names_spelled}
use Rattle.grammar_shapes.proofs.Symbols.{predicates_read, predicates_spelled, functions_read, functions_spelled}
use Rattle.grammar_shapes.proofs.Actions.{action_read, action_spelled}
use Rattle.grammar_shapes.proofs.Constraints.{whole_constraint_read, whole_constraint_sound}
use Rattle.grammar_shapes.proofs.Keywords.{IsFound, found_is, begins_same, none_before, once_more, requirements_read, requirements_sound}

-- no section before begins with the keyword of the tree, unless it is `:action`
abbrev pub IsNew : List Sexp → Sexp → Type 0
IsNew before tree = (word : List ℕ) → word ≢ codes "action" → Begins word tree → has_section word before ≡ false

-- ---- what is spelled is read

pub domain_section_read : (before : List Sexp) (tree : Sexp) (s : DomainSection) → IsDomainSection tree s → IsNew before tree
    → domain_section before tree ≡ parsed s
domain_section_read before _ _ (requirements place at trees are) new =
    rw (
      bracket-Group (in_domain_section before) place (leaf (kind.Keyword (codes "requirements")) at ∷ trees),
      keyword_of-Leaf,
      new (codes "requirements") (λ e. cc) (begins (codes "requirements") place at trees),
      requirements_read in_domain.Requirements trees are,
    ) refl
domain_section_read before _ _ (types place at trees groups are) new =
    rw (
      bracket-Group (in_domain_section before) place (leaf (kind.Keyword (codes "types")) at ∷ trees),
      keyword_of-Leaf,
      new (codes "types") (λ e. cc) (begins (codes "types") place at trees),
      names_read place trees groups are,
    ) refl
domain_section_read before _ _ (constants place at trees groups are) new =
    rw (
      bracket-Group (in_domain_section before) place (leaf (kind.Keyword (codes "constants")) at ∷ trees),
      keyword_of-Leaf,
      new (codes "constants") (λ e. cc) (begins (codes "constants") place at trees),
      names_read place trees groups are,
    ) refl
domain_section_read before _ _ (predicates place at trees symbols are) new =
    rw (
      bracket-Group (in_domain_section before) place (leaf (kind.Keyword (codes "predicates")) at ∷ trees),
      keyword_of-Leaf,
      new (codes "predicates") (λ e. cc) (begins (codes "predicates") place at trees),
      predicates_read trees symbols are,
    ) refl
domain_section_read before _ _ (functions place at trees groups are) new =
    rw (
      bracket-Group (in_domain_section before) place (leaf (kind.Keyword (codes "functions")) at ∷ trees),
      keyword_of-Leaf,
      new (codes "functions") (λ e. cc) (begins (codes "functions") place at trees),
      functions_read place trees groups are,
    ) refl
domain_section_read before _ _ (action place at trees a is) new =
    rw (
      bracket-Group (in_domain_section before) place (leaf (kind.Keyword (codes "action")) at ∷ trees),
      keyword_of-Leaf,
      action_read place trees a is,
    ) refl
domain_section_read before _ _ (constraints place at tree c is) new =
    rw (
      bracket-Group (in_domain_section before) place (leaf (kind.Keyword (codes "constraints")) at ∷ tree ∷ []),
      keyword_of-Leaf,
      new (codes "constraints") (λ e. cc) (begins (codes "constraints") place at (tree ∷ [])),
      whole_constraint_read tree c is,
    ) refl

pub domain_sections_read : (before trees : List Sexp) (ss : List DomainSection) → AreDomainSections trees ss
    → ((word : List ℕ) → word ≢ codes "action" → AtMostOnce word (before ++ trees)) → domain_sections before trees ≡ parsed ss
domain_sections_read before _ _ no_sections once = refl
domain_sections_read before _ _ (more_sections tree s trees ss is others) once =
    rw (
      domain_section_read before tree s is (λ word other. none_before word before tree trees (once word other)),
      domain_sections_read (before ++ tree ∷ []) trees ss others
          (λ word other. subst (AtMostOnce word) (sym (append_assoc before (tree ∷ []) trees)) (once word other)),
    ) refl

-- ---- what is read is spelled

abbrev word_of : DomainKey → List ℕ
word_of key.Requirements = codes "requirements"
word_of key.Types = codes "types"
word_of key.Constants = codes "constants"
word_of key.Predicates = codes "predicates"
word_of key.Functions = codes "functions"
word_of key.Action = codes "action"
word_of key.Constraints = codes "constraints"

abbrev IsKey : List ℕ → Option DomainKey → Type 0
IsKey word None = ⊤
IsKey word (Some k) = word ≡ word_of k

key_is : (word : List ℕ) → IsKey word (domain_key word)
key_is word =
    let P : Option DomainKey → Type 0 = IsKey word in
    chosen P (bytes_eq word (codes "requirements")) (Some key.Requirements) _ (bytes_eq-Decides word (codes "requirements")).0
    (chosen P (bytes_eq word (codes "types")) (Some key.Types) _ (bytes_eq-Decides word (codes "types")).0
    (chosen P (bytes_eq word (codes "constants")) (Some key.Constants) _ (bytes_eq-Decides word (codes "constants")).0
    (chosen P (bytes_eq word (codes "predicates")) (Some key.Predicates) _ (bytes_eq-Decides word (codes "predicates")).0
    (chosen P (bytes_eq word (codes "functions")) (Some key.Functions) _ (bytes_eq-Decides word (codes "functions")).0
    (chosen P (bytes_eq word (codes "action")) (Some key.Action) _ (bytes_eq-Decides word (codes "action")).0
    (chosen P (bytes_eq word (codes "constraints")) (Some key.Constraints) None (bytes_eq-Decides word (codes "constraints")).0 tt))))))

body_sound : (k : DomainKey) (place at : Place) (trees : List Sexp)
    → Sound (domain_body k place trees) (IsDomainSection (section (word_of k) place at trees))
body_sound key.Requirements place at trees =
    requirements_sound (IsDomainSection (section (codes "requirements") place at trees)) in_domain.Requirements trees
    (λ are. requirements place at trees are)
body_sound key.Types place at trees =
    sound_over (AreListed trees) (IsDomainSection (section (codes "types") place at trees)) in_domain.Types
    (typed_list item.Name place trees)
    (λ groups are. types place at trees groups are) (sound_of (AreListed trees) (typed_list item.Name place trees)
    (names_spelled place trees))
body_sound key.Constants place at trees =
    sound_over (AreListed trees) (IsDomainSection (section (codes "constants") place at trees)) in_domain.Constants
    (typed_list item.Name place trees)
    (λ groups are. constants place at trees groups are) (sound_of (AreListed trees) (typed_list item.Name place trees)
    (names_spelled place trees))
body_sound key.Predicates place at trees =
    sound_over (ArePredicates trees) (IsDomainSection (section (codes "predicates") place at trees)) in_domain.Predicates
    (symbol.predicates trees)
    (λ symbols are. predicates place at trees symbols are) (sound_of (ArePredicates trees) (symbol.predicates trees)
    (predicates_spelled trees))
body_sound key.Functions place at trees =
    sound_over (AreFunctions trees) (IsDomainSection (section (codes "functions") place at trees)) in_domain.Functions
    (symbol.functions place trees)
    (λ groups are. functions place at trees groups are) (sound_of (AreFunctions trees) (symbol.functions place trees)
    (functions_spelled place trees))
body_sound key.Action place at trees =
    sound_over (IsAction trees) (IsDomainSection (section (codes "action") place at trees)) in_domain.Action (act.action place trees)
    (λ a is. action place at trees a is) (sound_of (IsAction trees) (act.action place trees) (action_spelled place trees))
body_sound key.Constraints place at trees =
    alone_sound IsWholeConstraint (λ xs s. IsDomainSection (section
    (codes "constraints") place at xs) s) place in_domain.Constraints whole_constraint
    (λ tree c is. constraints place at tree c is) whole_constraint_sound trees

-- a section that is new
abbrev IsNext : List Sexp → Sexp → DomainSection → Type 0
IsNext before tree s = IsDomainSection tree s × IsNew before tree

new_key : (k : DomainKey) (found : Bool) → word_of k ≢ codes "action" → (stands_once k && found) ≡ false → found ≡ false
new_key key.Action found other e = absurd (other refl)
new_key key.Requirements found other e = e
new_key key.Types found other e = e
new_key key.Constants found other e = e
new_key key.Predicates found other e = e
new_key key.Functions found other e = e
new_key key.Constraints found other e = e

new_is : (k : DomainKey) (before : List Sexp) (place at : Place) (trees : List Sexp)
    → (stands_once k && has_section (word_of k) before) ≡ false
    → IsNew before (section (word_of k) place at trees)
new_is k before place at trees e word other is =
    let same : word_of k ≡ word = begins_same word (word_of k) place at trees is in
    subst (λ w. has_section w before ≡ false) same
    (new_key k (has_section (word_of k) before) (λ so. other (sym same ∙ so)) e)

key_sound : (k : DomainKey) (before : List Sexp) (place at : Place) (trees : List Sexp)
    → Sound (domain_known (Some k) (word_of k) before place trees) (IsNext before (section (word_of k) place at trees))
key_sound k before place at trees =
    sound_if (IsNext before (section (word_of k) place at trees)) (stands_once k && has_section (word_of k) before) (rejected
    (Duplicate place) [])
    (domain_body k place trees) (λ e. tt) (λ e.
    sound_map (IsDomainSection (section (word_of k) place at trees)) (IsNext before (section (word_of k) place at trees))
    (domain_body k place trees)
    (λ s is. (is, new_is k before place at trees e)) (body_sound k place at trees))

known_sound : (found : Option DomainKey) (word : List ℕ) (before : List Sexp) (place at : Place) (trees : List Sexp) → IsKey word found
    → Sound (domain_known found word before place trees) (IsNext before (section word place at trees))
known_sound None word before place at trees is = tt
known_sound (Some k) word before place at trees is =
    subst (λ w. Sound (domain_known (Some k) w before place trees) (IsNext before (section w place at trees))) (sym is)
    (key_sound k before place at trees)

named_sound : (found : Option (List ℕ)) (before : List Sexp) (place : Place) (head : Sexp) (trees : List Sexp) → IsFound head found
    → Sound (domain_named found before place head trees) (IsNext before (Group place (head ∷ trees)))
named_sound None before place head trees is = tt
named_sound (Some word) before place head trees is =
    subst (λ h. Sound (domain_known (domain_key word) word before place trees) (IsNext before (Group place (h ∷ trees)))) (sym is.is)
    (known_sound (domain_key word) word before place is.at trees (key_is word))

in_section_sound : (before : List Sexp) (place : Place) (items : List Sexp)
    → Sound (in_domain_section before place items) (IsNext before (Group place items))
in_section_sound before place [] = tt
in_section_sound before place (head ∷ trees) = named_sound (keyword_of head) before place head trees (found_is head)

domain_section_sound : (before : List Sexp) (tree : Sexp) → Sound (domain_section before tree) (IsNext before tree)
domain_section_sound before tree = sound_bracket (IsNext before) (in_domain_section before) (in_section_sound before) tree

-- sections, none of which is after another of its keyword
abbrev pub AreNext : List Sexp → List Sexp → List DomainSection → Type 0
AreNext before trees ss =
    AreDomainSections trees ss × ((word : List ℕ) → word ≢ codes "action" → AtMostOnce word before → AtMostOnce word (before ++ trees))

pub domain_sections_sound : (before trees : List Sexp) → Sound (domain_sections before trees) (AreNext before trees)
domain_sections_sound before [] = (no_sections, λ word other once. rw append-nil once)
domain_sections_sound before (tree ∷ trees) =
    sound_two (IsNext before tree) (AreNext (before ++ tree ∷ []) trees) (AreNext before (tree ∷ trees)) (λ s ss. s ∷ ss)
    (domain_section before tree)
    (domain_sections (before ++ tree ∷ []) trees)
    (λ s ss is are. (
      more_sections tree s trees ss is.0 are.0,
      λ word other once.
          subst (AtMostOnce word) (append_assoc before (tree ∷ []) trees) (are.1 word other (once_more word before tree once
          (is.1 word other))),
    ))
    (domain_section_sound before tree) (domain_sections_sound (before ++ tree ∷ []) trees)
