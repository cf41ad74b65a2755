use Rattle.std.proofs.Common.{◌≡◌, take, drop, []}
use Rattle.pddl_lex.specs.Parses.{over}
use Rattle.pddl_parse.specs.Sections.{problem_sections}
use Rattle.pddl_parse.specs.Texts.{put_sections}
use Rattle.pddl_parse.proofs.problem.put_sections.Given as goal

-- the sections so far are put into the problem before those of the rest
abbrev pub invariant-loop-at : goal.invariant-loop-at
invariant-loop-at l = over (put_sections l.fn.start) (problem_sections [] l.items)
    ≡ over (put_sections l.parts) (problem_sections (take l.at l.items) (drop l.at l.items))
