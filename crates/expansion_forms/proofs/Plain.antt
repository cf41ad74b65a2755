-- Plain formulas stay plain.
use Rattle.std.proofs.Common.{◌≡◌, List, [], ◌∷◌, map, Option, Some, None, refl, ap, sym, ◌∙◌, subst}
use Rattle.up_text.specs.declared.name.Name.{Name}
use Rattle.up_text.specs.Lists.{Every}
use Rattle.up_tree.specs.declared.term.Typed.{Typed}
use Rattle.up_tree.specs.declared.term.Term.{Term, Var, Object, Fluent'}
use Rattle.up_tree.specs.declared.formula.Formula.{Formula, And', Or', Atom, Equal, Compare, Row_of-Formula, end_of-Formula, more_of-Formula, items-the_row-Formula, items_hidden-the_row-Formula-0}
use Rattle.up_tree.specs.declared.formula.Formula.TheBlock.{hidden-the_row-Formula-0}
use Rattle.up_tree.specs.Nodes.{not, imply, exists, forall}
use Rattle.up_tree.specs.Objects.{World, Assignment, assign, tuples}
use Rattle.up_tree.specs.WellFormed.{HasNoFluent, IsPlain, ArePlain}
use Rattle.semantics_laws.specs.Replaced.{under, in_place, replaced_term, replaced, replaced_members}
use Rattle.semantics_laws.proofs.Lists.{each_map, each_member}
use Rattle.expansion_laws.specs.Expanded.{expanded, all_expanded}

no_fluent : (e : Assignment) (ts : List Term) → HasNoFluent ts → HasNoFluent (map (replaced_term e) ts)
unfolding replaced_term
no_fluent e [] h = h
no_fluent e (Var v ∷ ts) h = by (e v) (no_fluent e ts h)
  where
    by : (o : Option Name) → HasNoFluent (map (replaced_term e) ts) → HasNoFluent (in_place v o ∷ map (replaced_term e) ts)
    by None more = more
    by (Some o) more = more
no_fluent e (Object o ∷ ts) h = no_fluent e ts h
no_fluent e (Fluent' f n us ∷ ts) h = absurd h

ArePlain-items : {n : _} (fs : Row_of-Formula n) → ArePlain fs ≡ Every IsPlain (items-the_row-Formula _ fs)
unfolding ArePlain
ArePlain-items end_of-Formula = refl
ArePlain-items (more_of-Formula f fs) = ap (λ X. IsPlain f × X) (ArePlain-items fs)

plain_list : (fs : List Formula) → Every IsPlain fs → ArePlain (hidden-the_row-Formula-0 fs)
plain_list fs each = subst (λ X. X) (sym (ArePlain-items (hidden-the_row-Formula-0 fs) ∙ ap (Every IsPlain) (items_hidden-the_row-Formula-0 fs))) each

mutual
  unfolding IsPlain ArePlain replaced replaced_members

  replaced_plain : (e : Assignment) (f : Formula) → IsPlain f → IsPlain (replaced e f)
  replaced_plain e (And' n fs) h = all_replaced_plain e fs h
  replaced_plain e (Or' n fs) h = all_replaced_plain e fs h
  replaced_plain e (not f) h = replaced_plain e f h
  replaced_plain e (imply f g) h = (replaced_plain e f h.0, replaced_plain e g h.1)
  replaced_plain e (exists vars f) h = replaced_plain (under vars e) f h
  replaced_plain e (forall vars f) h = replaced_plain (under vars e) f h
  replaced_plain e (Atom name ts) h = no_fluent e ts h
  replaced_plain e (Equal t u) h = no_fluent e (t ∷ u ∷ []) h
  replaced_plain e (Compare r a b) h = h

  all_replaced_plain : (e : Assignment) {n : _} (fs : Row_of-Formula n) → ArePlain fs → ArePlain (replaced_members e fs)
  all_replaced_plain e end_of-Formula h = h
  all_replaced_plain e (more_of-Formula f fs) h = (replaced_plain e f h.0, all_replaced_plain e fs h.1)

at_tuples : (w : World) (e : Assignment) (vars : List Typed) (f : Formula) → ((d : Assignment) → IsPlain (expanded w d f)) →
    ArePlain (hidden-the_row-Formula-0 (map (λ tuple. expanded w (assign vars tuple e) f) (tuples w vars)))
at_tuples w e vars f each =
    plain_list (map (λ tuple. expanded w (assign vars tuple e) f) (tuples w vars))
    (each_map IsPlain (λ tuple. expanded w (assign vars tuple e) f) (tuples w vars) (each_member _ (tuples w vars) (λ tuple m. each (assign vars tuple e))))

mutual
  unfolding IsPlain ArePlain expanded all_expanded

  expanded_plain : (w : World) (e : Assignment) (f : Formula) → IsPlain f → IsPlain (expanded w e f)
  expanded_plain w e (And' n fs) h = plain_list (all_expanded w e fs) (all_expanded_plain w e fs h)
  expanded_plain w e (Or' n fs) h = plain_list (all_expanded w e fs) (all_expanded_plain w e fs h)
  expanded_plain w e (not f) h = expanded_plain w e f h
  expanded_plain w e (imply f g) h = (expanded_plain w e f h.0, expanded_plain w e g h.1)
  expanded_plain w e (exists vars f) h = at_tuples w e vars f (λ d. expanded_plain w d f h)
  expanded_plain w e (forall vars f) h = at_tuples w e vars f (λ d. expanded_plain w d f h)
  expanded_plain w e (Atom name ts) h = no_fluent e ts h
  expanded_plain w e (Equal t u) h = no_fluent e (t ∷ u ∷ []) h
  expanded_plain w e (Compare r a b) h = h

  all_expanded_plain : (w : World) (e : Assignment) {n : _} (fs : Row_of-Formula n) → ArePlain fs → Every IsPlain (all_expanded w e fs)
  all_expanded_plain w e end_of-Formula h = h
  all_expanded_plain w e (more_of-Formula f fs) h = (expanded_plain w e f h.0, all_expanded_plain w e fs h.1)

pub plain_stays : (f : Formula) → IsPlain f →
    ((e : Assignment) → IsPlain (replaced e f)) × ((w : World) (e : Assignment) → IsPlain (expanded w e f))
plain_stays f h = ((λ e. replaced_plain e f h), (λ w e. expanded_plain w e f h))
