-- What a plan text is, said apart from how it is read.
use Rattle.std.specs.Prelude.{◌≡◌, ℕ, true, List, [], ◌∷◌, ◌++◌, Option, Some, None, option_to_list}
use Rattle.std.specs.List.{list_all}
use Rattle.up_text.specs.Names.{name_of, folded}
use Rattle.up_tree.specs.declared.problem.Step.{Step}
use Rattle.up_tree.specs.declared.problem.Plan.{Plan}
use Rattle.plan_text.specs.Bytes.{is_blank, is_digit, is_name_byte}
use Rattle.plan_text.specs.Lines.{is_in_line, is_before_comment, without_return}

abbrev pub AreBlanks : List ℕ → Type 0
AreBlanks bytes = list_all is_blank bytes ≡ true

-- one digit or more
abbrev pub AreDigits : List ℕ → Type 0
AreDigits [] = ⊥
AreDigits (byte ∷ bytes) = list_all is_digit (byte ∷ bytes) ≡ true

-- digits, or digits, a point and digits
pub data IsNumber (bytes : List ℕ) : Type 0 where
  whole : AreDigits bytes → IsNumber bytes
  decimal : (digits decimals : List ℕ) → bytes ≡ digits ++ 46 ∷ decimals → AreDigits digits → AreDigits decimals → IsNumber bytes

-- a number and `:`, or nothing
pub data IsLabel (bytes : List ℕ) : Type 0 where
  no_label : bytes ≡ [] → IsLabel bytes
  label : (number before after : List ℕ) → bytes ≡ number ++ (before ++ 58 ∷ after)
      → IsNumber number → AreBlanks before → AreBlanks after → IsLabel bytes

-- `[`, a number and `]`, or nothing
pub data IsCost (bytes : List ℕ) : Type 0 where
  no_cost : bytes ≡ [] → IsCost bytes
  cost : (inside number before after : List ℕ) → bytes ≡ 91 ∷ (inside ++ (number ++ (before ++ 93 ∷ after)))
      → AreBlanks inside → IsNumber number → AreBlanks before → AreBlanks after → IsCost bytes

-- bytes that fold to a name
pub record IsWord (bytes name : List ℕ) : Type 0 where
  pub of_name : list_all is_name_byte bytes ≡ true
  pub named : name_of (folded bytes) ≡ Some name

-- words, each behind blanks
pub data AreWords : List ℕ → List (List ℕ) → Type 0 where
  no_words : AreWords [] []
  words : (blank : ℕ) (blanks word rest name : List ℕ) (names : List (List ℕ))
      → AreBlanks (blank ∷ blanks) → IsWord word name → AreWords rest names
      → AreWords (blank ∷ (blanks ++ (word ++ rest))) (name ∷ names)

-- the parts of a step's text in their order, with the blanks between them and behind
pub record IsStep (bytes : List ℕ) (step : Step) : Type 0 where
  pub label : List ℕ
  pub inside : List ℕ
  pub action : List ℕ
  pub args : List ℕ
  pub before : List ℕ
  pub after : List ℕ
  pub cost : List ℕ
  pub parts : bytes ≡ label ++ 40 ∷ (inside ++ (action ++ (args ++ (before ++ 41 ∷ (after ++ cost)))))
  pub is_label : IsLabel label
  pub inside_blanks : AreBlanks inside
  pub is_action : IsWord action step.action
  pub are_args : AreWords args step.args
  pub before_blanks : AreBlanks before
  pub after_blanks : AreBlanks after
  pub is_cost : IsCost cost

-- blanks alone, or blanks and a step
pub data Has (bytes : List ℕ) : Option Step → Type 0 where
  blank : AreBlanks bytes → Has bytes None
  step : (blanks text : List ℕ) (step : Step) → bytes ≡ blanks ++ text → AreBlanks blanks → IsStep text step → Has bytes (Some step)

-- `;` and any bytes, or nothing
pub data IsComment (bytes : List ℕ) : Type 0 where
  no_comment : bytes ≡ [] → IsComment bytes
  comment : (rest : List ℕ) → bytes ≡ 59 ∷ rest → IsComment bytes

-- a line, and the step that it has
pub record IsLine (bytes : List ℕ) (found : Option Step) : Type 0 where
  pub text : List ℕ
  pub comment : List ℕ
  pub parts : bytes ≡ text ++ comment
  pub before_comment : list_all is_before_comment text ≡ true
  pub is_comment : IsComment comment
  pub has : Has text found

-- A text spells steps: its lines, each but the last ended by a line feed, have them in their order.
pub data SpellsSteps : List ℕ → List Step → Type 0 where
  last : (line : List ℕ) (found : Option Step) → list_all is_in_line line ≡ true → IsLine line found
      → SpellsSteps line (option_to_list found)
  line : (line rest : List ℕ) (found : Option Step) (steps : List Step) → list_all is_in_line line ≡ true → IsLine (without_return line) found
      → SpellsSteps rest steps → SpellsSteps (line ++ 10 ∷ rest) (option_to_list found ++ steps)

-- A text spells a plan.
abbrev pub PlanText : List ℕ → Plan → Type 0
PlanText text plan = SpellsSteps text plan.steps
