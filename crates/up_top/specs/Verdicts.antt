-- The text of a verdict on a plan.
use Rattle.std.specs.Prelude.{ℕ, List, [], ◌++◌, codes, decimal, ◌==◌, if◌then◌else◌}
use Rattle.std.specs.Fmt.{signed_decimal}
use Rattle.up_frac.specs.Fraction.{Fraction}
use Rattle.up_eval.specs.declared.metric.Value.{Value}
use Rattle.up_eval.specs.declared.metric.Value.TheVariants as value
use Rattle.up_eval.specs.declared.step_error.Why.{Why}
use Rattle.up_eval.specs.declared.step_error.Why.TheVariants as why
use Rattle.up_validate.specs.declared.verdict.StepFault.{StepFault}
use Rattle.up_validate.specs.declared.verdict.StepFault.TheVariants as fault
use Rattle.up_validate.specs.declared.verdict.Verdict.{Verdict}
use Rattle.up_validate.specs.declared.verdict.Verdict.TheVariants as verdict

abbrev pub why_word : Why → List ℕ
why_word why.Precondition = codes "precondition"
why_word why.ConditionUndefined = codes "condition-undefined"
why_word why.ObjectUndefined = codes "object-undefined"
why_word why.NumberUndefined = codes "number-undefined"
why_word why.NumberConflict = codes "number-conflict"
why_word why.ObjectConflict = codes "object-conflict"

abbrev pub fault_word : StepFault → List ℕ
fault_word fault.Unknown = codes "unknown"
fault_word fault.Arity = codes "arity"
fault_word fault.ArgumentType = codes "argument-type"
fault_word (fault.Not reason) = why_word reason

-- nothing for a whole number
abbrev pub divisor_text : ℕ → List ℕ
divisor_text divisor = if divisor == 1 then [] else codes "/" ++ decimal divisor

-- a whole number, or a numerator, `/` and a denominator
abbrev pub fraction_text : Fraction → List ℕ
fraction_text n = signed_decimal n.numerator ++ divisor_text n.denominator

-- the line of a metric, where there is one
abbrev pub metric_text : Value → List ℕ
metric_text value.None = []
metric_text value.Undefined = codes "metric undefined\n"
metric_text (value.Number n) = codes "metric " ++ (fraction_text n ++ codes "\n")

-- a front, a number and a word
abbrev pub numbered_text : List ℕ → ℕ → List ℕ → List ℕ
numbered_text front number word = (front ++ decimal number) ++ (codes " " ++ word ++ codes "\n")

abbrev pub verdict_text : Verdict → List ℕ
verdict_text (verdict.Valid metric) = codes "valid\n" ++ metric_text metric
verdict_text (verdict.BadStep number reason) = numbered_text (codes "plan invalid step ") number (fault_word reason)
verdict_text verdict.GoalOpen = codes "plan invalid goal\n"
verdict_text (verdict.Broken number) = codes "plan invalid constraint " ++ decimal number ++ codes "\n"
