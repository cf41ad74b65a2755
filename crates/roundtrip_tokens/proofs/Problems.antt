-- The tokens of the written problem.
use Rattle.std.proofs.Common.{◌≡◌, Bool, true, false, List, [], ◌∷◌, ◌++◌, drop, refl, append_assoc}
use Rattle.std.specs.Prelude.{codes, flat_map, Option, Some, None, if◌then◌else◌}
use Rattle.up_text.specs.Lists.{Every}
use Rattle.up_tree.specs.declared.problem.Constraint.{Constraint}
use Rattle.up_tree.specs.declared.problem.Metric.{Metric}
use Rattle.up_tree.specs.declared.problem.Parts.{Parts}
use Rattle.up_tree.specs.WellFormed.{IsFact, IsNumberFact, IsValueFact, IsConstraint, OnMetric, IsWellFormed}
use Rattle.pddl_lex.specs.declared.tree.TokenKind.{TokenKind}
use Rattle.pddl_lex.specs.declared.tree.TokenKind.TheVariants.{Open, Close, Word, Keyword}
use Rattle.pddl_lex.specs.Next.{next, sign, name_behind}
use Rattle.pddl_write.specs.Phrases.{object_text}
use Rattle.pddl_write.specs.Files.{fact_text, number_fact_text, value_fact_text, goal_text, from_metric, from_constraints, from_goal, from_init, from_objects, define_problem, domain_line, declares_type, problem_pieces_with, pieces_of_problem, problem_text}
use Rattle.roundtrip_tokens.specs.Tokens.{group, object_tokens, formula_tokens}
use Rattle.roundtrip_tokens.specs.FileTokens.{section_tokens, define_tokens, fact_tokens, number_fact_tokens, value_fact_tokens, init_tokens, constraint_section, metric_tokens, problem_tokens_with, problem_tokens}
use Rattle.roundtrip_tokens.proofs.Lexes.{Shut, Lexes, behind, follows, spaced_off, open_bracket, keyword, word}
use Rattle.roundtrip_tokens.proofs.Named.{Spelled, every-drop}
use Rattle.roundtrip_tokens.proofs.Phrases.{BothSpelled, typed_object, expr, formula}
use Rattle.roundtrip_tokens.proofs.EffectPhrases.{constraints}
use Rattle.roundtrip_tokens.proofs.Declared.{fact, number_fact, value_fact}
use Rattle.roundtrip_tokens.proofs.Sections.{After, regrouped, line_after, end_line, end_after, each_after, members_after, section_after, eight}
use Rattle.roundtrip_tokens.proofs.Known as known

problem_open : Shut (codes "(define (problem ") (Open ∷ Word (codes "define") ∷ Open ∷ Word (codes "problem") ∷ [])
unfolding next sign
problem_open = record { before = λ rest. refl }

domain_open : Shut (codes "(:domain ") (Open ∷ Keyword (codes "domain") ∷ [])
unfolding next sign name_behind
domain_open = record { before = λ rest. refl }

goal_open : Shut (codes "(:goal ") (Open ∷ Keyword (codes "goal") ∷ [])
unfolding next sign name_behind
goal_open = record { before = λ rest. refl }

metric_open : Shut (codes "(:metric ") (Open ∷ Keyword (codes "metric") ∷ [])
unfolding next sign name_behind
metric_open = record { before = λ rest. refl }

aim_spelled : (b : Bool) → Spelled (if b then codes "minimize" else codes "maximize")
aim_spelled true = refl
aim_spelled false = refl

-- what is initial, grouped from the right and from the left
init_lists : (head atoms numbers values close rest : List TokenKind)
    → head ++ (atoms ++ (numbers ++ (values ++ (close ++ rest)))) ≡ head ++ atoms ++ numbers ++ values ++ close ++ rest
init_lists head atoms numbers values close rest = simp append_assoc

module _ (p : Parts) (well : IsWellFormed p) (typed : Bool) where
  define : Lexes (define_problem p) (Open ∷ define_tokens (codes "problem") p.name)
  define = follows (behind problem_open (word p.name well.name.spelled)) refl end_line

  domain : Lexes (domain_line p) (group (Keyword (codes "domain") ∷ Word p.domain ∷ []))
  domain = follows (behind domain_open (word p.domain well.domain.spelled)) refl end_line

  metric : (m : Option Metric) → OnMetric p m → After (from_metric m) (metric_tokens m ++ Close ∷ [])
  metric None on = end_after
  metric (Some m) on =
      line_after
      (follows
      (behind (spaced_off (behind metric_open (word (if m.minimize then codes "minimize" else codes "maximize") (aim_spelled m.minimize))))
      (expr p (known.names p well) p.objects (known.objects p well) [] tt m.value on.0))
      refl end_line)
      refl end_after

  constraint_lines : (cs : List Constraint) → Every (IsConstraint p) cs → After (from_constraints typed cs p.metric) (constraint_section typed cs ++ (metric_tokens p.metric ++ Close ∷ []))
  constraint_lines [] are = metric p.metric well.metric
  constraint_lines (c ∷ cs) are = line_after (constraints p (known.names p well) typed (known.objects p well) (c ∷ cs) are) refl (metric p.metric well.metric)

  goal_lexes : Lexes (goal_text typed p) (group (Keyword (codes "goal") ∷ formula_tokens typed p.goal))
  goal_lexes = follows (behind goal_open (formula p (known.names p well) p.objects (known.objects p well) typed [] tt p.goal well.goal)) refl end_line

  goal : After (from_goal typed p) (group (Keyword (codes "goal") ∷ formula_tokens typed p.goal)
      ++ (constraint_section typed p.constraints ++ (metric_tokens p.metric ++ Close ∷ [])))
  goal = line_after goal_lexes refl (constraint_lines p.constraints well.constraints)

  init : After (from_init typed p) (init_tokens p ++ (group (Keyword (codes "goal") ∷ formula_tokens typed p.goal)
      ++ (constraint_section typed p.constraints ++ (metric_tokens p.metric ++ Close ∷ []))))
  init =
      let values = members_after value_fact_text value_fact_tokens (IsValueFact p) (value_fact p (known.names p well) (known.objects p well)) p.values well.values goal in
      let numbers = each_after number_fact_text number_fact_tokens (IsNumberFact p) (number_fact p (known.names p well) (known.objects p well)) p.numbers well.numbers values in
      let atoms = each_after fact_text fact_tokens (IsFact p) (fact p (known.names p well) (known.objects p well)) p.atoms well.atoms numbers in
      regrouped (record { lexes = follows (behind open_bracket (keyword (codes "init") refl)) atoms.apart atoms.lexes; apart = refl })
      (init_lists (Open ∷ Keyword (codes "init") ∷ []) (flat_map fact_tokens p.atoms) (flat_map number_fact_tokens p.numbers) (flat_map value_fact_tokens p.values)
      (Close ∷ []) _)

  objects : After (from_objects typed p) (section_tokens (codes "objects") (object_tokens typed) (drop p.constants p.objects)
      ++ (init_tokens p ++ (group (Keyword (codes "goal") ∷ formula_tokens typed p.goal)
      ++ (constraint_section typed p.constraints ++ (metric_tokens p.metric ++ Close ∷ [])))))
  objects =
      section_after (object_text typed) (object_tokens typed) BothSpelled (typed_object p (known.names p well) typed)
      (codes "objects") refl (drop p.constants p.objects) (every-drop BothSpelled p.constants p.objects (known.typed_objects p well)) init

  problem_with : After (problem_pieces_with typed p) (problem_tokens_with typed p)
  problem_with =
      regrouped (line_after define refl (line_after domain refl objects))
      (eight (Open ∷ define_tokens (codes "problem") p.name) (group (Keyword (codes "domain") ∷ Word p.domain ∷ []))
      (section_tokens (codes "objects") (object_tokens typed) (drop p.constants p.objects)) (init_tokens p)
      (group (Keyword (codes "goal") ∷ formula_tokens typed p.goal)) (constraint_section typed p.constraints) (metric_tokens p.metric) (Close ∷ []))

pub problem_lexes : (p : Parts) → IsWellFormed p → Lexes (problem_text p) (problem_tokens p)
unfolding problem_text pieces_of_problem problem_tokens
problem_lexes p well = (problem_with p well (declares_type p)).lexes
