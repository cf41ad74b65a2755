-- A domain is read exactly as it is spelled.
use Rattle.std.proofs.Common.{◌≡◌, List, [], ◌∷◌, ◌++◌, append_assoc, append-nil, refl, ap, sym, subst, ◌∙◌}
use Rattle.std.specs.Prelude.{codes, Option, Some, None, unwrap_or}
use Rattle.up_text.specs.declared.place.Place.{Place}
use Rattle.pddl_lex.specs.declared.tree.TokenKind.TheVariants as kind
use Rattle.pddl_lex.specs.declared.tree.Sexp.{Sexp, Group}
use Rattle.pddl_lex.specs.Parses.{parsed, rejected, faults, over_two}
use Rattle.pddl_parse.specs.declared.raw.Ident.{Ident}
use Rattle.pddl_parse.specs.declared.raw.RawGroup.{RawGroup}
use Rattle.pddl_parse.specs.declared.raw.RawSymbol.{RawSymbol}
use Rattle.pddl_parse.specs.declared.raw.RawFunctions.{RawFunctions}
use Rattle.pddl_parse.specs.declared.raw.RawAction.{RawAction}
use Rattle.pddl_parse.specs.declared.raw.RawConstraint.{RawConstraint}
use Rattle.pddl_parse.specs.declared.raw.RawConstraint as constraint
use Rattle.pddl_parse.specs.declared.raw.DomainForm.{DomainForm}
use Rattle.pddl_parse.specs.declared.section.DomainSection.{DomainSection}
use Rattle.pddl_parse.specs.declared.section.DomainSection.TheVariants as in_domain
use Rattle.pddl_parse.specs.Shapes.{Read}
use Rattle.pddl_parse.specs.Sections.{domain_sections}
use Rattle.pddl_parse.specs.Texts.{unlike, title, bare_domain, with_section, with_sections, in_domain_text, domain_text, domain}
use Rattle.pddl_parse.specs.Forms.{leaf}
use Rattle.pddl_parse.proofs.Nodes.{bracket-Group}
use Rattle.pddl_parse.proofs.Spelled.{Sound, sound_behind, sound_two}
use Rattle.grammar_shapes.specs.Sections.{IsDomainSection, types, constants, predicates, functions, constraints, AreDomainSections, no_sections, more_sections, Begins, begins}
use Rattle.grammar_shapes.specs.Texts.{IsTitle, actions_of, IsDomain, a_domain, HasDomainForm}
use Rattle.grammar_shapes.proofs.Parses.{sound_is, sound_bracket}
use Rattle.grammar_shapes.proofs.DomainSections.{domain_sections_read, AreNext, domain_sections_sound}
use Rattle.grammar_shapes.proofs.Gathered.{unwrap_later, last_of, IsPart, says_last, Each, last_is}
use Rattle.grammar_shapes.proofs.Titles.{like, alike, title_read, title_sound, only_sound}

-- ---- what sections say

abbrev types_in : DomainSection → Option (List RawGroup)
types_in (in_domain.Types groups) = Some groups
types_in _ = None

abbrev constants_in : DomainSection → Option (List RawGroup)
constants_in (in_domain.Constants groups) = Some groups
constants_in _ = None

abbrev predicates_in : DomainSection → Option (List RawSymbol)
predicates_in (in_domain.Predicates symbols) = Some symbols
predicates_in _ = None

abbrev functions_in : DomainSection → Option (List RawFunctions)
functions_in (in_domain.Functions groups) = Some groups
functions_in _ = None

abbrev constraints_in : DomainSection → Option RawConstraint
constraints_in (in_domain.Constraints c) = Some c
constraints_in _ = None

types_back : (s : DomainSection) (a : List RawGroup) → types_in s ≡ Some a → s ≡ in_domain.Types a
types_back (in_domain.Types groups) a e = let h : groups ≡ a = cc in ap in_domain.Types h
types_back _ a e = cc

constants_back : (s : DomainSection) (a : List RawGroup) → constants_in s ≡ Some a → s ≡ in_domain.Constants a
constants_back (in_domain.Constants groups) a e = let h : groups ≡ a = cc in ap in_domain.Constants h
constants_back _ a e = cc

predicates_back : (s : DomainSection) (a : List RawSymbol) → predicates_in s ≡ Some a → s ≡ in_domain.Predicates a
predicates_back (in_domain.Predicates symbols) a e = let h : symbols ≡ a = cc in ap in_domain.Predicates h
predicates_back _ a e = cc

functions_back : (s : DomainSection) (a : List RawFunctions) → functions_in s ≡ Some a → s ≡ in_domain.Functions a
functions_back (in_domain.Functions groups) a e = let h : groups ≡ a = cc in ap in_domain.Functions h
functions_back _ a e = cc

constraints_back : (s : DomainSection) (a : RawConstraint) → constraints_in s ≡ Some a → s ≡ in_domain.Constraints a
constraints_back (in_domain.Constraints c) a e = let h : c ≡ a = cc in ap in_domain.Constraints h
constraints_back _ a e = cc

types_part : IsPart in_domain.Types types_in
types_part = record { of = λ a. refl; back = types_back }

constants_part : IsPart in_domain.Constants constants_in
constants_part = record { of = λ a. refl; back = constants_back }

predicates_part : IsPart in_domain.Predicates predicates_in
predicates_part = record { of = λ a. refl; back = predicates_back }

functions_part : IsPart in_domain.Functions functions_in
functions_part = record { of = λ a. refl; back = functions_back }

constraints_part : IsPart in_domain.Constraints constraints_in
constraints_part = record { of = λ a. refl; back = constraints_back }

types_start : (tree : Sexp) (a : List RawGroup) → IsDomainSection tree (in_domain.Types a) → Begins (codes "types") tree
types_start _ _ (types place at trees a are) = begins (codes "types") place at trees

constants_start : (tree : Sexp) (a : List RawGroup) → IsDomainSection tree (in_domain.Constants a) → Begins (codes "constants") tree
constants_start _ _ (constants place at trees a are) = begins (codes "constants") place at trees

predicates_start : (tree : Sexp) (a : List RawSymbol) → IsDomainSection tree (in_domain.Predicates a) → Begins (codes "predicates") tree
predicates_start _ _ (predicates place at trees a are) = begins (codes "predicates") place at trees

functions_start : (tree : Sexp) (a : List RawFunctions) → IsDomainSection tree (in_domain.Functions a) → Begins (codes "functions") tree
functions_start _ _ (functions place at trees a are) = begins (codes "functions") place at trees

constraints_start : (tree : Sexp) (a : RawConstraint) → IsDomainSection tree (in_domain.Constraints a) → Begins (codes "constraints") tree
constraints_start _ _ (constraints place at tree a is) = begins (codes "constraints") place at (tree ∷ [])

-- ---- the form that sections make

field_of : {A : Type 0} (field : DomainForm → A) (f : DomainSection → Option A)
    → ((form : DomainForm) (s : DomainSection) → field (with_section form s) ≡ unwrap_or (f s) (field form))
    → (form : DomainForm) (ss : List DomainSection) → field (with_sections form ss) ≡ unwrap_or (last_of f ss) (field form)
field_of field f h form [] = refl
field_of field f h form (s ∷ ss) =
    field_of field f h (with_section form s) ss ∙ ap (unwrap_or (last_of f ss)) (h form s) ∙ unwrap_later (last_of f ss) (f s) (field form)

types_step : (form : DomainForm) (s : DomainSection) → (with_section form s).types ≡ unwrap_or (types_in s) form.types
types_step form in_domain.Requirements = refl
types_step form (in_domain.Types a) = refl
types_step form (in_domain.Constants a) = refl
types_step form (in_domain.Predicates a) = refl
types_step form (in_domain.Functions a) = refl
types_step form (in_domain.Action a) = refl
types_step form (in_domain.Constraints a) = refl

constants_step : (form : DomainForm) (s : DomainSection) → (with_section form s).constants ≡ unwrap_or (constants_in s) form.constants
constants_step form in_domain.Requirements = refl
constants_step form (in_domain.Types a) = refl
constants_step form (in_domain.Constants a) = refl
constants_step form (in_domain.Predicates a) = refl
constants_step form (in_domain.Functions a) = refl
constants_step form (in_domain.Action a) = refl
constants_step form (in_domain.Constraints a) = refl

predicates_step : (form : DomainForm) (s : DomainSection) → (with_section form s).predicates ≡ unwrap_or (predicates_in s) form.predicates
predicates_step form in_domain.Requirements = refl
predicates_step form (in_domain.Types a) = refl
predicates_step form (in_domain.Constants a) = refl
predicates_step form (in_domain.Predicates a) = refl
predicates_step form (in_domain.Functions a) = refl
predicates_step form (in_domain.Action a) = refl
predicates_step form (in_domain.Constraints a) = refl

functions_step : (form : DomainForm) (s : DomainSection) → (with_section form s).functions ≡ unwrap_or (functions_in s) form.functions
functions_step form in_domain.Requirements = refl
functions_step form (in_domain.Types a) = refl
functions_step form (in_domain.Constants a) = refl
functions_step form (in_domain.Predicates a) = refl
functions_step form (in_domain.Functions a) = refl
functions_step form (in_domain.Action a) = refl
functions_step form (in_domain.Constraints a) = refl

constraints_step : (form : DomainForm) (s : DomainSection) → (with_section form s).constraints ≡ unwrap_or
    (constraints_in s) form.constraints
constraints_step form in_domain.Requirements = refl
constraints_step form (in_domain.Types a) = refl
constraints_step form (in_domain.Constants a) = refl
constraints_step form (in_domain.Predicates a) = refl
constraints_step form (in_domain.Functions a) = refl
constraints_step form (in_domain.Action a) = refl
constraints_step form (in_domain.Constraints a) = refl

name_kept : (form : DomainForm) (ss : List DomainSection) → (with_sections form ss).name ≡ form.name
name_kept form [] = refl
name_kept form (in_domain.Requirements ∷ ss) = name_kept form ss
name_kept form (in_domain.Types a ∷ ss) = name_kept (with_section form (in_domain.Types a)) ss
name_kept form (in_domain.Constants a ∷ ss) = name_kept (with_section form (in_domain.Constants a)) ss
name_kept form (in_domain.Predicates a ∷ ss) = name_kept (with_section form (in_domain.Predicates a)) ss
name_kept form (in_domain.Functions a ∷ ss) = name_kept (with_section form (in_domain.Functions a)) ss
name_kept form (in_domain.Action a ∷ ss) = name_kept (with_section form (in_domain.Action a)) ss
name_kept form (in_domain.Constraints a ∷ ss) = name_kept (with_section form (in_domain.Constraints a)) ss

actions_are : (form : DomainForm) (ss : List DomainSection) → (with_sections form ss).actions ≡ form.actions ++ actions_of ss
actions_are form [] = rw append-nil refl
actions_are form (in_domain.Requirements ∷ ss) = actions_are form ss
actions_are form (in_domain.Types a ∷ ss) = actions_are (with_section form (in_domain.Types a)) ss
actions_are form (in_domain.Constants a ∷ ss) = actions_are (with_section form (in_domain.Constants a)) ss
actions_are form (in_domain.Predicates a ∷ ss) = actions_are (with_section form (in_domain.Predicates a)) ss
actions_are form (in_domain.Functions a ∷ ss) = actions_are (with_section form (in_domain.Functions a)) ss
actions_are form (in_domain.Action a ∷ ss) = actions_are (with_section form (in_domain.Action a)) ss
    ∙ append_assoc form.actions (a ∷ []) (actions_of ss)
actions_are form (in_domain.Constraints a ∷ ss) = actions_are (with_section form (in_domain.Constraints a)) ss

-- a form by its parts
abbrev made : Ident → Option (List RawGroup) → Option (List RawGroup) → Option (List RawSymbol) → Option (List RawFunctions)
    → List RawAction → Option RawConstraint → DomainForm
made name t k p f a c =
    record { name = name; types = unwrap_or t []; constants = unwrap_or k []; predicates = unwrap_or p []; functions = unwrap_or f []; actions = a; constraints = unwrap_or c (constraint.And []) }

parts_same : (form : DomainForm) (name : Ident) (t k : List RawGroup) (p : List RawSymbol) (f : List RawFunctions) (a : List RawAction)
    (c : RawConstraint)
    → form.name ≡ name → form.types ≡ t → form.constants ≡ k → form.predicates ≡ p → form.functions ≡ f → form.actions ≡ a
    → form.constraints ≡ c
    → ◌≡◌ {A = DomainForm} form (record { name = name; types = t; constants = k; predicates = p; functions = f; actions = a; constraints = c })
parts_same form name t k p f a c of_name of_t of_k of_p of_f of_a of_c = rw (← of_name, ← of_t, ← of_k, ← of_p, ← of_f, ← of_a, ← of_c) refl

abbrev form_of : Ident → List DomainSection → DomainForm
form_of name ss =
    made name (last_of types_in ss) (last_of constants_in ss) (last_of predicates_in ss) (last_of functions_in ss) (actions_of ss)
    (last_of constraints_in ss)

gathered : (name : Ident) (ss : List DomainSection) → with_sections (bare_domain name) ss ≡ form_of name ss
gathered name ss =
    parts_same (with_sections (bare_domain name) ss) name _ _ _ _ _ _ (name_kept (bare_domain name) ss)
    (field_of (λ form. form.types) types_in types_step (bare_domain name) ss)
    (field_of (λ form. form.constants) constants_in constants_step (bare_domain name) ss)
    (field_of (λ form. form.predicates) predicates_in predicates_step (bare_domain name) ss)
    (field_of (λ form. form.functions) functions_in functions_step (bare_domain name) ss)
    (actions_are (bare_domain name) ss)
    (field_of (λ form. form.constraints) constraints_in constraints_step (bare_domain name) ss)

-- ---- what is spelled is read

each_of : (trees : List Sexp) (ss : List DomainSection) → AreDomainSections trees ss → Each IsDomainSection trees ss
each_of _ _ no_sections = tt
each_of _ _ (more_sections tree s trees ss is others) = (is, each_of trees ss others)

text_read : (place at : Place) (second : Sexp) (trees : List Sexp) (name : Ident) (ss : List DomainSection)
    → title (codes "domain") second ≡ parsed name
    → domain_sections [] trees ≡ parsed ss
    → domain (Group place (leaf (kind.Word (codes "define")) at ∷ second ∷ trees) ∷ []) ≡ parsed (with_sections (bare_domain name) ss)
text_read place at second trees name ss titled are =
    rw (
      bracket-Group in_domain_text place (leaf (kind.Word (codes "define")) at ∷ second ∷ trees),
      like (codes "define") at,
      titled,
      are,
    ) refl

pub domain_read : (trees : List Sexp) (form : DomainForm) → IsDomain trees form → domain trees ≡ parsed form
domain_read _ _ (a_domain place at second name trees ss t k p f c titled are once says_t says_k says_p says_f says_c) =
    let each : Each IsDomainSection trees ss = each_of trees ss are in
    text_read place at second trees name ss (title_read (codes "domain") second name titled) (domain_sections_read [] trees ss are once)
    ∙ ap parsed (gathered name ss ∙ rw (
      last_is IsDomainSection in_domain.Types types_in types_part (codes "types") types_start trees ss t each (once (codes "types")
          (λ e. cc)) says_t,
      last_is IsDomainSection in_domain.Constants constants_in constants_part (codes "constants") constants_start trees ss k each (once
          (codes "constants") (λ e. cc)) says_k,
      last_is IsDomainSection in_domain.Predicates predicates_in predicates_part (codes "predicates") predicates_start trees ss p each
          (once (codes "predicates") (λ e. cc)) says_p,
      last_is IsDomainSection in_domain.Functions functions_in functions_part (codes "functions") functions_start trees ss f each (once
          (codes "functions") (λ e. cc)) says_f,
      last_is IsDomainSection in_domain.Constraints constraints_in constraints_part
          (codes "constraints") constraints_start trees ss c each (once (codes "constraints") (λ e. cc)) says_c,
    ) refl)

-- ---- what is read is spelled

text_is : (place : Place) (head second : Sexp) (trees : List Sexp) (name : Ident) (ss : List DomainSection)
    → unlike (codes "define") head ≡ []
    → IsTitle (codes "domain") second name → AreNext [] trees ss
    → IsDomain (Group place (head ∷ second ∷ trees) ∷ []) (with_sections (bare_domain name) ss)
text_is place head second trees name ss e titled are =
    subst (IsDomain (Group place (head ∷ second ∷ trees) ∷ [])) (sym (gathered name ss))
    (subst (λ h. IsDomain (Group place (h ∷ second ∷ trees) ∷ []) (form_of name ss)) (sym (alike (codes "define") head e).is)
    (a_domain place (alike (codes "define") head e).at second name trees ss (last_of types_in ss) (last_of constants_in ss)
    (last_of predicates_in ss)
    (last_of functions_in ss) (last_of constraints_in ss) titled are.0 (λ word other. are.1 word other tt)
    (says_last in_domain.Types types_in types_part ss) (says_last in_domain.Constants constants_in constants_part ss)
    (says_last in_domain.Predicates predicates_in predicates_part ss) (says_last in_domain.Functions functions_in functions_part ss)
    (says_last in_domain.Constraints constraints_in constraints_part ss)))

in_text_sound : (place : Place) (items : List Sexp) → Sound (in_domain_text place items) (IsDomain (Group place items ∷ []))
in_text_sound place [] = tt
in_text_sound place (head ∷ []) = tt
in_text_sound place (head ∷ second ∷ trees) =
    let P : DomainForm → Type 0 = IsDomain (Group place (head ∷ second ∷ trees) ∷ []) in
    sound_behind P (unlike (codes "define") head)
    (over_two (λ name ss. with_sections (bare_domain name) ss) (title (codes "domain") second) (domain_sections [] trees)) (λ e.
    sound_two (IsTitle (codes "domain") second) (AreNext [] trees) P (λ name ss. with_sections (bare_domain name) ss) (title
    (codes "domain") second)
    (domain_sections [] trees) (λ name ss titled are. text_is place head second trees name ss e titled are) (title_sound
    (codes "domain") second)
    (domain_sections_sound [] trees))

pub domain_sound : (trees : List Sexp) → Sound (domain trees) (IsDomain trees)
domain_sound trees =
    only_sound IsDomain domain_text trees (sound_bracket (λ tree form. IsDomain (tree ∷ []) form) in_domain_text in_text_sound)

pub domain_spelled : (trees : List Sexp) (form : DomainForm) → domain trees ≡ parsed form → IsDomain trees form
domain_spelled trees form e = sound_is (IsDomain trees) (domain trees) form (domain_sound trees) e

some_domain : (trees : List Sexp) (v : Read DomainForm) → Sound v (IsDomain trees) → faults v ≡ [] → HasDomainForm trees
some_domain trees (parsed form) is e = record { form = form; is = is }
some_domain trees (rejected f fs) is e = cc

pub faultless_domain : (trees : List Sexp) → faults (domain trees) ≡ [] → HasDomainForm trees
faultless_domain trees e = some_domain trees (domain trees) (domain_sound trees) e

pub rejected_domain : (trees : List Sexp) → HasDomainForm trees → faults (domain trees) ≡ []
rejected_domain trees has = rw (domain_read trees has.form has.is) refl
