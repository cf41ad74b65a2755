-- What a condition binds, at each node as code builds it.
use Rattle.std.proofs.Common.{◌≡◌, ℕ, ◌+◌, ◌<◌, true, false, if◌then◌else◌, List, [], ◌∷◌, ◌++◌, length, get_or, take, drop, flat_map, refl, ap, sym, ◌∙◌, append_assoc}
use Rattle.std.proofs.lemmas.List.{append-nil, drop_more}
use Rattle.std.proofs.Math.Seq.{take-append_seam}
use Rattle.std.specs.List.{list_any}
use Rattle.std.proofs.lemmas.List.Sums.{fold-append}
use Rattle.indexmap.specs.IndexSet.{insert_key}
use Rattle.up_text.specs.declared.name.Name.{Name}
use Rattle.up_text.specs.Names.{same_name}
use Rattle.up_tree.specs.declared.expr.Expr.{Expr}
use Rattle.up_tree.specs.declared.formula.Relation.{Relation}
use Rattle.up_tree.specs.declared.formula.Formula.{Formula, And, Or, Not, Imply, Exists, Forall, Atom, Equal, Compare, Row_of-Formula, end_of-Formula, more_of-Formula, items-the_row-Formula, items_hidden-the_row-Formula-0}
use Rattle.up_tree.specs.declared.formula.Formula.TheBlock.{hidden-the_row-Formula-0}
use Rattle.up_tree.specs.declared.term.Term.{Term}
use Rattle.up_tree.specs.declared.term.Typed.{Typed}
use Rattle.up_tree.specs.Nodes.{built}
use Rattle.up_phrase.specs.Barred.{names_of, binds, all_bind, each_once}

binds-items : {n : _} (fs : Row_of-Formula n) → all_bind fs ≡ flat_map binds (items-the_row-Formula _ fs)
unfolding all_bind
binds-items end_of-Formula = refl
binds-items (more_of-Formula f fs) = ap (λ names. binds f ++ names) (binds-items fs)

pub binds-And : (fs : List Formula) → binds (And fs) ≡ flat_map binds fs
unfolding binds
binds-And fs = binds-items (hidden-the_row-Formula-0 fs) ∙ ap (flat_map binds) (items_hidden-the_row-Formula-0 fs)

pub binds-Or : (fs : List Formula) → binds (Or fs) ≡ flat_map binds fs
unfolding binds
binds-Or fs = binds-items (hidden-the_row-Formula-0 fs) ∙ ap (flat_map binds) (items_hidden-the_row-Formula-0 fs)

pub binds-Not : (f : Formula) → binds (Not f) ≡ binds f
unfolding binds built
binds-Not f = refl

pub binds-Imply : (f g : Formula) → binds (Imply f g) ≡ binds f ++ binds g
unfolding binds built
binds-Imply f g = refl

pub binds-Exists : (vars : List Typed) (f : Formula) → binds (Exists vars f) ≡ names_of vars ++ binds f
unfolding binds built
binds-Exists vars f = refl

pub binds-Forall : (vars : List Typed) (f : Formula) → binds (Forall vars f) ≡ names_of vars ++ binds f
unfolding binds built
binds-Forall vars f = refl

pub binds-Atom : (p : Name) (ts : List Term) → binds (Atom p ts) ≡ []
unfolding binds
binds-Atom p ts = refl

pub binds-Equal : (t u : Term) → binds (Equal t u) ≡ []
unfolding binds
binds-Equal t u = refl

pub binds-Compare : (r : Relation) (a b : Expr) → binds (Compare r a b) ≡ []
unfolding binds
binds-Compare r a b = refl

-- names come one list after the other
pub once_after : (before xs ys : List Name) → each_once before (xs ++ ys) ≡ each_once (each_once before xs) ys
once_after before xs ys = fold-append (insert_key same_name) before xs ys

-- one more name, in a loop that stands at an index
pub once_on : (vars : List Typed) (index : ℕ) (all before more : List Name) (x : Typed) (name : Name) → index < length vars → x ≡ get_or vars index x
    → name ≡ x.name → more ≡ insert_key same_name before name
    → all ≡ each_once before (names_of (drop index vars)) → all ≡ each_once more (names_of (drop (index + 1) vars))
once_on vars index all before more x name within is same grown so_far = so_far ∙ rw (grown, same, drop_more vars index x within, ← is) refl

unbarred_from : (before more names : List Name) → take (length before) (each_once (before ++ more) names) ≡ before
unbarred_from before more [] = take-append_seam before more
unbarred_from before more (x ∷ names) =
    let there : take (length before) (each_once (before ++ more) names) ≡ before = unbarred_from before more names in
    let new : take (length before) (each_once ((before ++ more) ++ x ∷ []) names) ≡ before =
    ap (λ all. take (length before) (each_once all names)) (append_assoc before more (x ∷ [])) ∙ unbarred_from before (more ++ x ∷ []) names in
    elim (list_any (same_name x) (before ++ more)) as (λ t. take (length before) (each_once (if t then before ++ more else (before ++ more) ++ x ∷ []) names) ≡ before) [
      | true ↦ there
      | false ↦ new
    ]

-- the names that were there before stay in front
pub unbarred : (before names : List Name) → take (length before) (each_once before names) ≡ before
unbarred before names = ap (λ all. take (length before) (each_once all names)) (sym (append-nil before)) ∙ unbarred_from before [] names

pub ruleset barring = (binds-And, binds-Or, binds-Not, binds-Imply, binds-Exists, binds-Forall, binds-Atom, binds-Equal, binds-Compare, once_after)
