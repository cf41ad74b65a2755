-- One more part has been read, or one more section.
use Rattle.std.proofs.Common.{◌≡◌, ℕ, ◌+◌, ◌<◌, length, List, [], ◌∷◌, ◌++◌, take, drop, get_or, refl, ap, sym, ◌∙◌}
use Rattle.std.proofs.lemmas.List.{drop_more, take_more}
use Rattle.std.specs.Prelude.{Some, false}
use Rattle.pddl_lex.specs.Parses.{Parse, parsed, rejected, first, over, over_two}
use Rattle.pddl_lex.specs.declared.tree.Sexp.{Sexp}
use Rattle.pddl_parse.specs.declared.action.ActionParts.{ActionParts}
use Rattle.pddl_parse.specs.declared.raw.DomainForm.{DomainForm}
use Rattle.pddl_parse.specs.declared.action.ActionPart.{ActionPart}
use Rattle.pddl_parse.specs.declared.section.DomainSection.{DomainSection}
use Rattle.pddl_parse.specs.declared.section.ProblemSection.{ProblemSection}
use Rattle.pddl_parse.specs.declared.problem.ProblemParts.{ProblemParts}
use Rattle.pddl_parse.specs.declared.shape.ShapeError.{ShapeError}
use Rattle.pddl_parse.specs.Shapes.{Read}
use Rattle.pddl_parse.specs.Sections.{domain_section, domain_sections, problem_section, problem_sections}
use Rattle.pddl_parse.proofs.Steps.{first_over, first_two}
use Rattle.up_text.specs.declared.place.Place.{Place}
use Rattle.pddl_parse.specs.declared.action.ActionKeys.{ActionKeys}
use Rattle.pddl_parse.specs.Actions.{put, filled, fresh_key, lacks_value, parts}
use Rattle.pddl_parse.specs.Texts.{with_section, with_sections, put_section, put_sections, whole}

pub filled_more : (a : ActionParts) (p : ActionPart) (v : Read (List ActionPart))
    → over (filled a) (over (λ ps. p ∷ ps) v) ≡ over (filled (put a p)) v
filled_more a p (parsed ps) = refl
filled_more a p (rejected f fs) = refl

pub sections_more : (form : DomainForm) (s : DomainSection) (v : Read (List DomainSection))
    → over (with_sections form) (over (λ ss. s ∷ ss) v) ≡ over (with_sections (with_section form s)) v
sections_more form s (parsed ss) = refl
sections_more form s (rejected f fs) = refl

pub put_more : (parts : ProblemParts) (s : ProblemSection) (v : Read (List ProblemSection))
    → over (put_sections parts) (over (λ ss. s ∷ ss) v) ≡ over (put_sections (put_section parts s)) v
put_more parts s (parsed ss) = refl
put_more parts s (rejected f fs) = refl

pub sections_next_more : (form form_more : DomainForm) (v : Read DomainSection) (w : Read (List DomainSection))
    → over (with_section form) v ≡ parsed form_more
    → over (with_sections form) (over_two (λ s ss. s ∷ ss) v w) ≡ over (with_sections form_more) w
sections_next_more form form_more (parsed s) w e = let same : with_section form s ≡ form_more = cc in rw (← same) (sections_more form s w)
sections_next_more form form_more (rejected f fs) w e = cc

-- the same in a loop, which stands at an index
pub domain_on : (items : List Sexp) (at : ℕ) (form form_more : DomainForm) (x : Sexp)
    → at < length items → x ≡ get_or items at x → over (with_section form) (domain_section (take at items) x) ≡ parsed form_more
    → over (with_sections form) (domain_sections (take at items) (drop at items))
    ≡ over (with_sections form_more) (domain_sections (take (at + 1) items) (drop (at + 1) items))
domain_on items at form form_more x within is e =
    rw (take_more items at x within, drop_more items at x within, ← is) (sections_next_more form form_more (domain_section (take at items) x) _ e)

pub domain_off : (items : List Sexp) (at : ℕ) (form : DomainForm) (x : Sexp) (fault : ShapeError)
    → at < length items → x ≡ get_or items at x → first (domain_section (take at items) x) ≡ Some fault
    → first (over (with_sections form) (domain_sections (take at items) (drop at items))) ≡ Some fault
domain_off items at form x fault within is e =
    rw (drop_more items at x within, ← is) (first_over _ _ ∙ first_two _ (domain_section (take at items) x) _ fault e)

pub put_next_more : (parts parts_more : ProblemParts) (v : Read ProblemSection) (w : Read (List ProblemSection))
    → over (put_section parts) v ≡ parsed parts_more
    → over (put_sections parts) (over_two (λ s ss. s ∷ ss) v w) ≡ over (put_sections parts_more) w
put_next_more parts parts_more (parsed s) w e = let same : put_section parts s ≡ parts_more = cc in rw (← same) (put_more parts s w)
put_next_more parts parts_more (rejected f fs) w e = cc

pub problem_on : (items : List Sexp) (at : ℕ) (parts parts_more : ProblemParts) (x : Sexp)
    → at < length items → x ≡ get_or items at x → over (put_section parts) (problem_section (take at items) x) ≡ parsed parts_more
    → over (put_sections parts) (problem_sections (take at items) (drop at items))
    ≡ over (put_sections parts_more) (problem_sections (take (at + 1) items) (drop (at + 1) items))
problem_on items at parts parts_more x within is e =
    rw (take_more items at x within, drop_more items at x within, ← is) (put_next_more parts parts_more (problem_section (take at items) x) _ e)

pub problem_off : (items : List Sexp) (at : ℕ) (parts : ProblemParts) (x : Sexp) (fault : ShapeError)
    → at < length items → x ≡ get_or items at x → first (problem_section (take at items) x) ≡ Some fault
    → first (over (put_sections parts) (problem_sections (take at items) (drop at items))) ≡ Some fault
problem_off items at parts x fault within is e =
    rw (drop_more items at x within, ← is) (first_over _ _ ∙ first_two _ (problem_section (take at items) x) _ fault e)

pub drop_all : {A : Type 0} (items : List A) → drop (length items) items ≡ []
drop_all [] = refl
drop_all (x ∷ xs) = drop_all xs

-- at a key that is unknown or has stood, or at a tree that is no key
pub lacks_stale : (keys : ActionKeys) (tree : Sexp) (behind : List Sexp) (fault : ShapeError)
    → fresh_key keys tree ≡ rejected fault [] → lacks_value keys (tree ∷ behind) ≡ false
lacks_stale keys tree [] fault e = rw e refl
lacks_stale keys tree (value ∷ behind) fault e = rw e refl

pub parts_stale : (place : Place) (keys : ActionKeys) (tree : Sexp) (behind : List Sexp) (fault : ShapeError)
    → fresh_key keys tree ≡ rejected fault [] → first (parts place keys (tree ∷ behind)) ≡ Some fault
parts_stale place keys tree [] fault e = rw e refl
parts_stale place keys tree (value ∷ behind) fault e = rw e refl

pub first_whole : (place : Place) (v : Read ProblemParts) (fault : ShapeError) → first v ≡ Some fault → first (whole place v) ≡ Some fault
first_whole place (parsed parts) fault e = cc
first_whole place (rejected f fs) fault e = e

pub ruleset filling = (filled_more, domain_on, domain_off, drop_all, first_over, first_two)

pub ruleset putting = (problem_on, problem_off, drop_all, first_over, first_two)

pub ruleset pairing = (lacks_stale, parts_stale, filled_more, first_over, first_two)
