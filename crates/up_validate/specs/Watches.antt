-- The phases of all constraints, tuple by tuple, as a run keeps them.
use Rattle.std.specs.Prelude.{ℕ, ◌+◌, Bool, true, ◌&&◌, if◌then◌else◌, ◌⊎◌, List, [], ◌∷◌, map, Option, Some, None}
use Rattle.up_text.specs.Lists.{Somewhere}
use Rattle.up_tree.specs.declared.problem.Constraint.{Constraint}
use Rattle.up_tree.specs.declared.problem.Rule.{Rule}
use Rattle.up_tree.specs.Objects.{World, Assignment}
use Rattle.up_tree.specs.State.{State}
use Rattle.up_eval.specs.Scope.{assignment_of}
use Rattle.up_validate.specs.declared.phase.Phase.{Phase}
use Rattle.up_validate.specs.declared.watch.Watch.{Watch}
use Rattle.up_validate.specs.Watching.{start, next, is_kept}
use Rattle.up_validate.specs.Verdicts.{BigRule}

abbrev pub meant : Watch → List Assignment
meant watch = map assignment_of watch.scopes

abbrev pub meant_all : List Watch → List (List Assignment)
meant_all watches = map meant watches

-- before the first state
abbrev pub starts : Rule → List Assignment → List Phase
starts r es = map (λ e. start r) es

abbrev pub all_starts : List Constraint → List (List Assignment) → List (List Phase)
all_starts (c ∷ cs) (es ∷ more) = starts c.rule es ∷ all_starts cs more
all_starts cs more = []

-- after one more state
abbrev pub nexts : World → State → Rule → List Assignment → List Phase → List Phase
nexts w s r (e ∷ es) (ph ∷ phs) = next w e r ph s ∷ nexts w s r es phs
nexts w s r es phs = []

abbrev pub all_nexts : World → State → List Constraint → List (List Assignment) → List (List Phase) → List (List Phase)
all_nexts w s (c ∷ cs) (es ∷ more) (phs ∷ others) = nexts w s c.rule es phs ∷ all_nexts w s cs more others
all_nexts w s cs more others = []

abbrev pub BigAmong : World → State → Rule → List Assignment → Type 0
BigAmong w s r es = Somewhere (λ e. BigRule w s e r) es

abbrev pub BigInAll : World → State → List Constraint → List (List Assignment) → Type 0
BigInAll w s (c ∷ cs) (es ∷ more) = BigAmong w s c.rule es ⊎ BigInAll w s cs more
BigInAll w s cs more = ⊥

abbrev pub are_kept : List Phase → Bool
are_kept [] = true
are_kept (ph ∷ phs) = is_kept ph && are_kept phs

-- the number of the first list that isn't kept, where the first list has this number
abbrev pub first_unkept : ℕ → List (List Phase) → Option ℕ
first_unkept n [] = None
first_unkept n (phs ∷ all) = if are_kept phs then first_unkept (n + 1) all else Some n
