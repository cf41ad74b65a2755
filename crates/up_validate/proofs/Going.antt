-- The phases of all constraints after one more state, constraint by constraint.
use Rattle.std.proofs.Common.{◌≡◌, ◌⊎◌, ℕ, zero, suc, ◌+◌, ◌<◌, List, [], ◌∷◌, ◌++◌, map, length, drop, get_or, refl, ap, sym, ◌∙◌, subst, inl, inr, append_assoc}
use Rattle.std.specs.Prelude.{Result, Ok, Err, IsErrAnd, IsErrOf}
use Rattle.std.proofs.lemmas.List.{drop_more}
use Rattle.up_text.specs.Lists.{Somewhere}
use Rattle.up_tree.specs.declared.problem.Constraint.{Constraint}
use Rattle.up_tree.specs.declared.problem.Rule.{Rule}
use Rattle.up_tree.specs.Objects.{World, Assignment}
use Rattle.up_tree.specs.State.{State}
use Rattle.up_eval.specs.Scope.{assignment_of}
use Rattle.up_eval.specs.declared.scope.Binding.{Binding}
use Rattle.up_validate.specs.declared.phase.Phase.{Phase}
use Rattle.up_validate.specs.declared.watch.Watch.{Watch}
use Rattle.up_validate.specs.Watches.{meant, meant_all, nexts, all_nexts, BigAmong, BigInAll}
use Rattle.up_validate.specs.Verdicts.{BigRule}

left_at : {X : Type 0} (xs : List X) (i : ℕ) (x : X) → i < length xs → x ≡ get_or xs i x → drop i xs ≡ x ∷ drop (i + 1) xs
left_at {X} xs i x within is = drop_more xs i x within ∙ ap (λ (y : X). y ∷ drop (i + 1) xs) (sym is)

dropped : {X Y : Type 0} (f : X → Y) (P : Y → Type 0) (i : ℕ) (xs : List X) → Somewhere P (map f (drop i xs)) → Somewhere P (map f xs)
dropped f P zero xs h = h
dropped f P (suc i) [] h = h
dropped f P (suc i) (x ∷ xs) h = inr (dropped f P i xs h)

-- a number past the bound at one of the scopes
pub big_scope : (w : World) (s : State) (r : Rule) (scopes : List (List Binding)) (i : ℕ) (scope : List Binding) → i < length scopes → scope ≡ get_or scopes i scope
    → BigRule w s (assignment_of scope) r → BigAmong w s r (map assignment_of scopes)
big_scope w s r scopes i scope within is h =
    dropped assignment_of (λ e. BigRule w s e r) i scopes
    (subst (λ (left : List (List Binding)). Somewhere (λ e. BigRule w s e r) (map assignment_of left)) (sym (left_at scopes i scope within is)) (inl h))

-- these phases so far stand in front of those of the constraints that are left
pub record NextsAt (w : World) (s : State) (cs left_cs : List Constraint) (watches left : List Watch) (phases olds later : List (List Phase)) : Type 0 where
  pub so_far : all_nexts w s cs (meant_all watches) phases ≡ later ++ all_nexts w s left_cs (meant_all left) olds
  pub big : BigInAll w s left_cs (meant_all left) → BigInAll w s cs (meant_all watches)

module _ (w : World) (s : State) (cs : List Constraint) (i : ℕ) (c : Constraint) (watches left behind : List Watch) (watch : Watch) (phases olds others later : List (List Phase)) (old : List Phase)
    (within : i < length cs) (at : c ≡ get_or cs i c) (left_is : left ≡ watch ∷ behind) (stood : NextsAt w s cs (drop i cs) watches left phases olds later) where
  pub nexts_more : (new : List Phase) (more : List (List Phase)) → olds ≡ old ∷ others → new ≡ nexts w s c.rule (meant watch) old → more ≡ later ++ new ∷ []
      → NextsAt w s cs (drop (i + 1) cs) watches behind phases others more
  nexts_more new more olds_are is added = record {
    so_far =
        stood.so_far
        ∙ ap (λ (them : List Constraint). later ++ all_nexts w s them (meant_all left) olds) (left_at cs i c within at)
        ∙ ap (λ (them : List Watch). later ++ all_nexts w s (c ∷ drop (i + 1) cs) (meant_all them) olds) left_is
        ∙ ap (λ (them : List (List Phase)). later ++ all_nexts w s (c ∷ drop (i + 1) cs) (meant_all (watch ∷ behind)) them) olds_are
        ∙ ap (λ (phs : List Phase). later ++ phs ∷ all_nexts w s (drop (i + 1) cs) (meant_all behind) others) (sym is)
        ∙ sym (append_assoc later (new ∷ []) (all_nexts w s (drop (i + 1) cs) (meant_all behind) others))
        ∙ ap (λ (them : List (List Phase)). them ++ all_nexts w s (drop (i + 1) cs) (meant_all behind) others) (sym added);
    big = λ h. stood.big (at_first (inr h));
  }
    where
      at_first : BigAmong w s c.rule (meant watch) ⊎ BigInAll w s (drop (i + 1) cs) (meant_all behind) → BigInAll w s (drop i cs) (meant_all left)
      at_first h =
          subst (λ (them : List Constraint). BigInAll w s them (meant_all left)) (sym (left_at cs i c within at))
          (subst (λ (them : List Watch). BigInAll w s (c ∷ drop (i + 1) cs) (meant_all them)) (sym left_is) h)

  pub nexts_big : BigAmong w s c.rule (meant watch) → BigInAll w s cs (meant_all watches)
  nexts_big h =
      stood.big (subst (λ (them : List Constraint). BigInAll w s them (meant_all left)) (sym (left_at cs i c within at))
      (subst (λ (them : List Watch). BigInAll w s (c ∷ drop (i + 1) cs) (meant_all them)) (sym left_is) (inl h)))

-- the error that a result hands on is the one that it is told to be
pub told : {A B E : Type 0} (r : Result A E) (e x : E) → IsErrAnd r (λ y. y ≡ e) → IsErrOf r x → IsErrOf {T = B} (Err e) x
told {A} {B} {E} r e x is of = ap (λ (y : E). Err y) (sym (subst (λ (r : Result A E). IsErrAnd r (λ y. y ≡ e)) of is))
