-- One more line of a text.
use Rattle.std.proofs.Common.{◌≡◌, ℕ, ◌+◌, List, [], ◌∷◌, ◌++◌, refl, ap, sym, ◌∙◌, append_assoc, append-nil}
use Rattle.std.specs.Prelude.{Option, Some, None, Result, Ok, Err, option_to_list}
use Rattle.up_tree.specs.declared.problem.Step.{Step}
use Rattle.plan_text.specs.declared.error.PlanTextError.{PlanTextError}
use Rattle.plan_text.specs.Lines.{lines}
use Rattle.plan_text.specs.Texts.{cut, found_in, with_found, steps_from}

-- steps behind others
abbrev pub behind_steps : List Step → Result (List Step) PlanTextError → Result (List Step) PlanTextError
behind_steps steps (Ok more) = Ok (steps ++ more)
behind_steps steps (Err fault) = Err fault

behind_found : (steps : List Step) (found : Option Step) (more : Result (List Step) PlanTextError)
    → behind_steps steps (with_found (Ok found) more) ≡ behind_steps (steps ++ option_to_list found) more
behind_found steps None more = ap (λ (all : List Step). behind_steps all more) (sym (append-nil steps))
behind_found steps (Some step) (Ok more) = ap (λ (all : List Step). Ok all) (sym (append_assoc steps (step ∷ []) more))
behind_found steps (Some step) (Err fault) = refl

steps_at : (number : ℕ) (text line behind : List ℕ) → lines text ≡ line ∷ lines behind
    → steps_from number (lines text) ≡ with_found (found_in number line) (steps_from (cut (number + 1)) (lines behind))
steps_at number text line behind is = ap (steps_from number) is

-- the steps so far stay in front of the others
pub steps_step : (whole : Result (List Step) PlanTextError) (steps later : List Step) (number : ℕ) (text line behind : List ℕ) (found : Option Step)
    → whole ≡ behind_steps steps (steps_from number (lines text)) → lines text ≡ line ∷ lines behind
    → found_in number line ≡ Ok found → later ≡ steps ++ option_to_list found
    → whole ≡ behind_steps later (steps_from (cut (number + 1)) (lines behind))
steps_step whole steps later number text line behind found is first here added =
    is ∙ ap (behind_steps steps) (steps_at number text line behind first
    ∙ ap (λ (r : Result (Option Step) PlanTextError). with_found r (steps_from (cut (number + 1)) (lines behind))) here)
    ∙ behind_found steps found (steps_from (cut (number + 1)) (lines behind))
    ∙ ap (λ (all : List Step). behind_steps all (steps_from (cut (number + 1)) (lines behind))) (sym added)
