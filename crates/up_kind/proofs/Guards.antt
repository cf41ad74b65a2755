-- The guards of a conjunction are those of its members.
use Rattle.std.proofs.Common.{◌≡◌, Bool, true, false, ◌||◌, List, refl, ap, ◌∙◌}
use Rattle.std.specs.List.{list_any}
use Rattle.std.proofs.lemmas.List.Folds.{list_any-append}
use Rattle.up_text.specs.declared.name.Name.{Name}
use Rattle.up_tree.specs.declared.term.Term.{Term}
use Rattle.up_tree.specs.declared.term.Typed.{Typed}
use Rattle.up_tree.specs.declared.expr.Expr.{Expr}
use Rattle.up_tree.specs.declared.formula.Relation.{Relation}
use Rattle.up_tree.specs.declared.formula.Formula.{Formula, And, Or, Not, Imply, Exists, Forall, Atom, Equal, Compare, Row_of-Formula, end_of-Formula, more_of-Formula, items-the_row-Formula, items_hidden-the_row-Formula-0}
use Rattle.up_tree.specs.declared.formula.Formula.TheBlock.{hidden-the_row-Formula-0}
use Rattle.up_tree.specs.Nodes.{built}
use Rattle.up_kind.specs.Meeting.{top_conjuncts, all_top_conjuncts, says_equal, tells_apart, is_guarded}

or_false : (b : Bool) → (b || false) ≡ b
or_false true = refl
or_false false = refl

any_all : (s t : Term) {n : _} (fs : Row_of-Formula n)
    → list_any (tells_apart s t) (all_top_conjuncts fs) ≡ list_any (λ f. is_guarded f s t) (items-the_row-Formula _ fs)
unfolding is_guarded top_conjuncts all_top_conjuncts
any_all s t end_of-Formula = refl
any_all s t (more_of-Formula f fs) =
    list_any-append (tells_apart s t) (top_conjuncts f) (all_top_conjuncts fs) ∙ ap (λ b. is_guarded f s t || b) (any_all s t fs)

pub guard-And : (fs : List Formula) (s t : Term) → is_guarded (And fs) s t ≡ list_any (λ f. is_guarded f s t) fs
unfolding is_guarded top_conjuncts all_top_conjuncts
guard-And fs s t = any_all s t (hidden-the_row-Formula-0 fs) ∙ ap (list_any (λ f. is_guarded f s t)) (items_hidden-the_row-Formula-0 fs)

pub guard-Or : (fs : List Formula) (s t : Term) → is_guarded (Or fs) s t ≡ false
unfolding is_guarded top_conjuncts all_top_conjuncts
guard-Or fs s t = refl

pub guard-Not : (f : Formula) (s t : Term) → is_guarded (Not f) s t ≡ says_equal s t f
unfolding is_guarded top_conjuncts all_top_conjuncts built
guard-Not f s t = or_false (says_equal s t f)

pub guard-Imply : (f g : Formula) (s t : Term) → is_guarded (Imply f g) s t ≡ false
unfolding is_guarded top_conjuncts all_top_conjuncts built
guard-Imply f g s t = refl

pub guard-Exists : (vars : List Typed) (f : Formula) (s t : Term) → is_guarded (Exists vars f) s t ≡ false
unfolding is_guarded top_conjuncts all_top_conjuncts built
guard-Exists vars f s t = refl

pub guard-Forall : (vars : List Typed) (f : Formula) (s t : Term) → is_guarded (Forall vars f) s t ≡ false
unfolding is_guarded top_conjuncts all_top_conjuncts built
guard-Forall vars f s t = refl

pub guard-Atom : (name : Name) (ts : List Term) (s t : Term) → is_guarded (Atom name ts) s t ≡ false
unfolding is_guarded top_conjuncts all_top_conjuncts
guard-Atom name ts s t = refl

pub guard-Equal : (a b : Term) (s t : Term) → is_guarded (Equal a b) s t ≡ false
unfolding is_guarded top_conjuncts all_top_conjuncts
guard-Equal a b s t = refl

pub guard-Compare : (r : Relation) (a b : Expr) (s t : Term) → is_guarded (Compare r a b) s t ≡ false
unfolding is_guarded top_conjuncts all_top_conjuncts
guard-Compare r a b s t = refl

pub ruleset guards = (guard-And, guard-Or, guard-Not, guard-Imply, guard-Exists, guard-Forall, guard-Atom, guard-Equal, guard-Compare)
