-- The text of a plan spells its steps.
use Rattle.std.proofs.Common.{◌≡◌, ℕ, Bool, true, false, List, [], ◌∷◌, ◌++◌, map, refl, ap, sym, ◌∙◌, subst, append_assoc, append-nil, arith, codes}
use Rattle.std.specs.Prelude.{Option, Some, None, All, flat_map, IsTrue, not, ◌==◌, ◌&&◌, ◌||◌, if◌then◌else◌}
use Rattle.std.specs.Char.{to_ascii_lowercase}
use Rattle.std.specs.List.{list_all}
use Rattle.std.proofs.lemmas.Bool.{and_parts, false≢true}
use Rattle.std.proofs.lemmas.Bool.Decides.{nat_tests}
use Rattle.std.proofs.lemmas.List.Elements.{All-head, All-tail}
use Rattle.std.proofs.lemmas.List.Folds.{list_all-append}
use Rattle.up_text.specs.Names.{IsName, goes_on, all_go_on, is_spelled, is_letter, is_reserved, name_of, folded}
use Rattle.up_tree.specs.declared.problem.Step.{Step}
use Rattle.up_tree.specs.declared.problem.Plan.{Plan}
use Rattle.plan_text.specs.Bytes.{is_name_byte}
use Rattle.plan_text.specs.Lines.{is_in_line, is_before_comment, without_return}
use Rattle.plan_text.specs.Spells.{IsWord, AreWords, no_words, words, IsLabel, no_label, IsCost, no_cost, IsStep, Has, blank, step, IsComment, no_comment, IsLine, SpellsSteps, last, line, PlanText}
use Rattle.plan_text.specs.Texts.{step_text, plan_text, HasNames}
use Rattle.plan_text.proofs.Splitting.{return_none}

goes_on_name : (byte : ℕ) → goes_on byte ≡ true → is_name_byte byte ≡ true
goes_on_name byte is = grind (arith, nat_tests)

goes_on_low : (byte : ℕ) → goes_on byte ≡ true → to_ascii_lowercase byte ≡ byte
goes_on_low byte is = grind (arith, nat_tests)

letter_goes_on : (byte : ℕ) → is_letter byte ≡ true → goes_on byte ≡ true
letter_goes_on byte is = rw is refl

all_spelled : (bytes : List ℕ) → is_spelled bytes ≡ true → all_go_on bytes ≡ true
all_spelled [] is = refl
all_spelled (byte ∷ bytes) is =
    let (here, others) = and_parts (is_letter byte) (all_go_on bytes) is in
    rw (letter_goes_on byte here, others) refl

name_bytes : (bytes : List ℕ) → all_go_on bytes ≡ true → list_all is_name_byte bytes ≡ true
name_bytes [] is = refl
name_bytes (byte ∷ bytes) is =
    let (here, others) = and_parts (goes_on byte) (all_go_on bytes) is in
    rw (goes_on_name byte here, name_bytes bytes others) refl

low_bytes : (bytes : List ℕ) → all_go_on bytes ≡ true → folded bytes ≡ bytes
low_bytes [] is = refl
low_bytes (byte ∷ bytes) is =
    let (here, others) = and_parts (goes_on byte) (all_go_on bytes) is in
    let first : to_ascii_lowercase byte ≡ byte = goes_on_low byte here in
    let rest : folded bytes ≡ bytes = low_bytes bytes others in
    cc

named : (name : List ℕ) → IsName name → name_of name ≡ Some name
named name is = let spelled : is_spelled name ≡ true = is.spelled in let free : not (is_reserved name) ≡ true = is.free in rw (spelled, free) refl

name_word : (name : List ℕ) → IsName name → IsWord name name
name_word name is =
    let all : all_go_on name ≡ true = all_spelled name is.spelled in
    record { of_name = name_bytes name all; named = ap name_of (low_bytes name all) ∙ named name is }

all_weaker : (test other : ℕ → Bool) → ((byte : ℕ) → test byte ≡ true → other byte ≡ true) → (bytes : List ℕ) → list_all test bytes ≡ true → list_all other bytes ≡ true
all_weaker test other then_other [] is = refl
all_weaker test other then_other (byte ∷ bytes) is =
    let (here, others) = and_parts (test byte) (list_all test bytes) is in
    rw (then_other byte here, all_weaker test other then_other bytes others) refl

both_all : (test : ℕ → Bool) (one two : List ℕ) → list_all test one ≡ true → list_all test two ≡ true → list_all test (one ++ two) ≡ true
both_all test one two first second = rw (list_all-append test one two, first, second) refl

-- the arguments of a step in its text
abbrev args_text : List (List ℕ) → List ℕ
args_text args = flat_map (λ arg. codes " " ++ arg) args

-- the line of a step
abbrev body : Step → List ℕ
body made = 40 ∷ (made.action ++ (args_text made.args ++ 41 ∷ []))

args_words : (args : List (List ℕ)) → All IsName args → AreWords (args_text args) args
args_words [] are = no_words
args_words (arg ∷ args) are =
    words 32 [] arg (args_text args) arg args refl (name_word arg (All-head IsName arg args are)) (args_words args (All-tail IsName arg args are))

-- a byte of a name, a blank or a bracket
record Takes (test : ℕ → Bool) : Type 0 where
  name : (byte : ℕ) → is_name_byte byte ≡ true → test byte ≡ true
  open_bracket : test 40 ≡ true
  close_bracket : test 41 ≡ true
  space : test 32 ≡ true

args_pass : (test : ℕ → Bool) → Takes test → (args : List (List ℕ)) → All IsName args → list_all test (args_text args) ≡ true
args_pass test takes [] are = refl
args_pass test takes (arg ∷ args) are =
    let here : list_all test arg ≡ true =
    all_weaker is_name_byte test takes.name arg (name_word arg (All-head IsName arg args are)).of_name in
    let others : list_all test (args_text args) ≡ true = args_pass test takes args (All-tail IsName arg args are) in
    rw takes.space (both_all test arg (args_text args) here others)

body_passes : (test : ℕ → Bool) → Takes test → (made : Step) → HasNames made → list_all test (body made) ≡ true
body_passes test takes made are =
    let action : list_all test made.action ≡ true = all_weaker is_name_byte test takes.name made.action (name_word made.action are.action).of_name in
    let end : list_all test (41 ∷ []) ≡ true = rw takes.close_bracket refl in
    let args : list_all test (args_text made.args ++ 41 ∷ []) ≡ true =
    both_all test (args_text made.args) (41 ∷ []) (args_pass test takes made.args are.args) end in
    rw takes.open_bracket (both_all test made.action (args_text made.args ++ 41 ∷ []) action args)

name_in_line : (byte : ℕ) → is_name_byte byte ≡ true → is_in_line byte ≡ true
name_in_line byte is = grind (arith, nat_tests)

name_before_comment : (byte : ℕ) → is_name_byte byte ≡ true → is_before_comment byte ≡ true
name_before_comment byte is = grind (arith, nat_tests)

body_step : (made : Step) → HasNames made → IsStep (body made) made
body_step made are = record {
  label = [];
  inside = [];
  action = made.action;
  args = args_text made.args;
  before = [];
  after = [];
  cost = [];
  parts = refl;
  is_label = no_label refl;
  inside_blanks = refl;
  is_action = name_word made.action are.action;
  are_args = args_words made.args are.args;
  before_blanks = refl;
  after_blanks = refl;
  is_cost = no_cost refl;
}

body_line : (made : Step) → HasNames made → IsLine (body made) (Some made)
body_line made are = record {
  text = body made;
  comment = [];
  parts = sym (append-nil (body made));
  before_comment = body_passes is_before_comment (record { name = name_before_comment; open_bracket = refl; close_bracket = refl; space = refl }) made are;
  is_comment = no_comment refl;
  has = step [] (body made) made refl refl (body_step made are);
}

no_return : (made : Step) → without_return (body made) ≡ body made
no_return made =
    let parts : body made ≡ (40 ∷ (made.action ++ args_text made.args)) ++ 41 ∷ [] =
    ap (λ (rest : List ℕ). 40 ∷ rest) (sym (append_assoc made.action (args_text made.args) (41 ∷ []))) in
    ap without_return parts ∙ return_none (40 ∷ (made.action ++ args_text made.args)) 41 refl ∙ sym parts

text_parts : (made : Step) (rest : List ℕ) → body made ++ 10 ∷ rest ≡ step_text made ++ rest
text_parts made rest =
    ap (λ (text : List ℕ). 40 ∷ text) (
    ap (λ (text : List ℕ). text ++ 10 ∷ rest) (sym (append_assoc made.action (args_text made.args) (41 ∷ [])))
    ∙ append_assoc (made.action ++ args_text made.args) (41 ∷ []) (10 ∷ rest)
    ∙ sym (append_assoc (made.action ++ args_text made.args) (41 ∷ 10 ∷ []) rest))

no_line : IsLine [] None
no_line = record { text = []; comment = []; parts = refl; before_comment = refl; is_comment = no_comment refl; has = blank refl }

written : (steps : List Step) → All HasNames steps → SpellsSteps (flat_map step_text steps) steps
written [] are = last [] None refl no_line
written (made ∷ steps) are =
    let names : HasNames made = All-head HasNames made steps are in
    subst (λ (text : List ℕ). SpellsSteps text (made ∷ steps)) (text_parts made (flat_map step_text steps))
    (line (body made) (flat_map step_text steps) (Some made) steps
    (body_passes is_in_line (record { name = name_in_line; open_bracket = refl; close_bracket = refl; space = refl }) made names)
    (subst (λ (text : List ℕ). IsLine text (Some made)) (sym (no_return made)) (body_line made names))
    (written steps (All-tail HasNames made steps are)))

pub written_plan : (plan : Plan) → All HasNames plan.steps → PlanText (plan_text plan) plan
written_plan plan are = written plan.steps are
