use Rattle.std.proofs.Common.{◌≡◌, take, drop, []}
use Rattle.pddl_lex.specs.Parses.{over}
use Rattle.pddl_parse.specs.Sections.{domain_sections}
use Rattle.pddl_parse.specs.Texts.{with_sections}
use Rattle.pddl_parse.proofs.domain.with_sections.Given as goal

-- the sections so far are put into the form before those of the rest
abbrev pub invariant-loop-at : goal.invariant-loop-at
invariant-loop-at l = over (with_sections l.fn.start) (domain_sections [] l.items)
    ≡ over (with_sections l.form) (domain_sections (take l.at l.items) (drop l.at l.items))
