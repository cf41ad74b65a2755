-- A problem is read exactly as it is spelled.
use Rattle.std.proofs.Common.{◌≡◌, Bool, true, false, List, [], ◌∷◌, refl, ap, sym, subst, ◌∙◌}
use Rattle.std.specs.Prelude.{codes, not, ◌||◌, Option, Some, None, unwrap_or}
use Rattle.up_text.specs.declared.place.Place.{Place}
use Rattle.pddl_lex.specs.declared.tree.TokenKind.TheVariants as kind
use Rattle.pddl_lex.specs.declared.tree.Sexp.{Sexp, Group}
use Rattle.pddl_lex.specs.Parses.{parsed, rejected, faults, over_two, behind, followed}
use Rattle.pddl_parse.specs.declared.raw.Ident.{Ident}
use Rattle.pddl_parse.specs.declared.raw.RawGroup.{RawGroup}
use Rattle.pddl_parse.specs.declared.raw.RawInit.{RawInit}
use Rattle.pddl_parse.specs.declared.raw.RawFormula.{RawFormula}
use Rattle.pddl_parse.specs.declared.raw.RawConstraint.{RawConstraint}
use Rattle.pddl_parse.specs.declared.raw.RawConstraint as constraint
use Rattle.pddl_parse.specs.declared.raw.RawMetric.{RawMetric}
use Rattle.pddl_parse.specs.declared.raw.ProblemForm.{ProblemForm}
use Rattle.pddl_parse.specs.declared.problem.ProblemParts.{ProblemParts}
use Rattle.pddl_parse.specs.declared.section.ProblemSection.{ProblemSection}
use Rattle.pddl_parse.specs.declared.section.ProblemSection.TheVariants as in_problem
use Rattle.pddl_parse.specs.Shapes.{Read}
use Rattle.pddl_parse.specs.Brackets.{short, has_section}
use Rattle.pddl_parse.specs.Sections.{problem_sections}
use Rattle.pddl_parse.specs.Texts.{unlike, title, bare_problem, put_section, put_sections, complete, whole, lacks_section, in_problem_text, problem_text, problem}
use Rattle.pddl_parse.specs.Forms.{leaf}
use Rattle.pddl_parse.proofs.Nodes.{bracket-Group}
use Rattle.pddl_parse.proofs.Spelled.{Sound, sound_behind, sound_two}
use Rattle.grammar_shapes.specs.Sections.{IsProblemSection, domain, objects, init, goal, problem_constraints, metric, AreProblemSections, no_problem_sections, more_problem_sections, Begins, begins}
use Rattle.grammar_shapes.specs.Texts.{IsTitle, Says, IsProblem, a_problem, HasProblemForm}
use Rattle.grammar_shapes.proofs.Parses.{sound_is, sound_bracket}
use Rattle.grammar_shapes.proofs.ProblemSections.{problem_sections_read, AreNext, problem_sections_sound}
use Rattle.grammar_shapes.proofs.Gathered.{later, later_none, later_later, unwrap_later, last_of, IsPart, says_last, Each, last_is, has_said}
use Rattle.grammar_shapes.proofs.Titles.{like, alike, title_read, title_sound, only_sound}

-- ---- what sections say

abbrev domain_in : ProblemSection → Option Ident
domain_in (in_problem.Domain name) = Some name
domain_in _ = None

abbrev objects_in : ProblemSection → Option (List RawGroup)
objects_in (in_problem.Objects groups) = Some groups
objects_in _ = None

abbrev init_in : ProblemSection → Option (List RawInit)
init_in (in_problem.Init members) = Some members
init_in _ = None

abbrev goal_in : ProblemSection → Option RawFormula
goal_in (in_problem.Goal f) = Some f
goal_in _ = None

abbrev constraints_in : ProblemSection → Option RawConstraint
constraints_in (in_problem.Constraints c) = Some c
constraints_in _ = None

abbrev metric_in : ProblemSection → Option RawMetric
metric_in (in_problem.Metric m) = Some m
metric_in _ = None

domain_back : (s : ProblemSection) (a : Ident) → domain_in s ≡ Some a → s ≡ in_problem.Domain a
domain_back (in_problem.Domain name) a e = let h : name ≡ a = cc in ap in_problem.Domain h
domain_back _ a e = cc

objects_back : (s : ProblemSection) (a : List RawGroup) → objects_in s ≡ Some a → s ≡ in_problem.Objects a
objects_back (in_problem.Objects groups) a e = let h : groups ≡ a = cc in ap in_problem.Objects h
objects_back _ a e = cc

init_back : (s : ProblemSection) (a : List RawInit) → init_in s ≡ Some a → s ≡ in_problem.Init a
init_back (in_problem.Init members) a e = let h : members ≡ a = cc in ap in_problem.Init h
init_back _ a e = cc

goal_back : (s : ProblemSection) (a : RawFormula) → goal_in s ≡ Some a → s ≡ in_problem.Goal a
goal_back (in_problem.Goal f) a e = let h : f ≡ a = cc in ap in_problem.Goal h
goal_back _ a e = cc

constraints_back : (s : ProblemSection) (a : RawConstraint) → constraints_in s ≡ Some a → s ≡ in_problem.Constraints a
constraints_back (in_problem.Constraints c) a e = let h : c ≡ a = cc in ap in_problem.Constraints h
constraints_back _ a e = cc

metric_back : (s : ProblemSection) (a : RawMetric) → metric_in s ≡ Some a → s ≡ in_problem.Metric a
metric_back (in_problem.Metric m) a e = let h : m ≡ a = cc in ap in_problem.Metric h
metric_back _ a e = cc

domain_part : IsPart in_problem.Domain domain_in
domain_part = record { of = λ a. refl; back = domain_back }

objects_part : IsPart in_problem.Objects objects_in
objects_part = record { of = λ a. refl; back = objects_back }

init_part : IsPart in_problem.Init init_in
init_part = record { of = λ a. refl; back = init_back }

goal_part : IsPart in_problem.Goal goal_in
goal_part = record { of = λ a. refl; back = goal_back }

constraints_part : IsPart in_problem.Constraints constraints_in
constraints_part = record { of = λ a. refl; back = constraints_back }

metric_part : IsPart in_problem.Metric metric_in
metric_part = record { of = λ a. refl; back = metric_back }

domain_start : (tree : Sexp) (a : Ident) → IsProblemSection tree (in_problem.Domain a) → Begins (codes "domain") tree
domain_start _ _ (domain place at tree a is) = begins (codes "domain") place at (tree ∷ [])

objects_start : (tree : Sexp) (a : List RawGroup) → IsProblemSection tree (in_problem.Objects a) → Begins (codes "objects") tree
objects_start _ _ (objects place at trees a are) = begins (codes "objects") place at trees

init_start : (tree : Sexp) (a : List RawInit) → IsProblemSection tree (in_problem.Init a) → Begins (codes "init") tree
init_start _ _ (init place at trees a are) = begins (codes "init") place at trees

goal_start : (tree : Sexp) (a : RawFormula) → IsProblemSection tree (in_problem.Goal a) → Begins (codes "goal") tree
goal_start _ _ (goal place at tree a is) = begins (codes "goal") place at (tree ∷ [])

constraints_start : (tree : Sexp) (a : RawConstraint) → IsProblemSection tree (in_problem.Constraints a) → Begins (codes "constraints") tree
constraints_start _ _ (problem_constraints place at tree a is) = begins (codes "constraints") place at (tree ∷ [])

metric_start : (tree : Sexp) (a : RawMetric) → IsProblemSection tree (in_problem.Metric a) → Begins (codes "metric") tree
metric_start _ _ (metric place at trees a is) = begins (codes "metric") place at trees

-- ---- the parts that sections make

field_of : {A : Type 0} (field : ProblemParts → A) (f : ProblemSection → Option A)
    → ((parts : ProblemParts) (s : ProblemSection) → field (put_section parts s) ≡ unwrap_or (f s) (field parts))
    → (parts : ProblemParts) (ss : List ProblemSection) → field (put_sections parts ss) ≡ unwrap_or (last_of f ss) (field parts)
field_of field f h parts [] = refl
field_of field f h parts (s ∷ ss) =
    field_of field f h (put_section parts s) ss ∙ ap (unwrap_or (last_of f ss)) (h parts s) ∙ unwrap_later (last_of f ss) (f s) (field parts)

option_of : {A : Type 0} (field : ProblemParts → Option A) (f : ProblemSection → Option A)
    → ((parts : ProblemParts) (s : ProblemSection) → field (put_section parts s) ≡ later (f s) (field parts))
    → (parts : ProblemParts) (ss : List ProblemSection) → field (put_sections parts ss) ≡ later (last_of f ss) (field parts)
option_of field f h parts [] = refl
option_of field f h parts (s ∷ ss) =
    option_of field f h (put_section parts s) ss ∙ ap (later (last_of f ss)) (h parts s) ∙ later_later (last_of f ss) (f s) (field parts)

domain_step : (parts : ProblemParts) (s : ProblemSection) → (put_section parts s).domain ≡ later (domain_in s) parts.domain
domain_step parts in_problem.Requirements = refl
domain_step parts (in_problem.Domain a) = refl
domain_step parts (in_problem.Objects a) = refl
domain_step parts (in_problem.Init a) = refl
domain_step parts (in_problem.Goal a) = refl
domain_step parts (in_problem.Constraints a) = refl
domain_step parts (in_problem.Metric a) = refl

objects_step : (parts : ProblemParts) (s : ProblemSection) → (put_section parts s).objects ≡ unwrap_or (objects_in s) parts.objects
objects_step parts in_problem.Requirements = refl
objects_step parts (in_problem.Domain a) = refl
objects_step parts (in_problem.Objects a) = refl
objects_step parts (in_problem.Init a) = refl
objects_step parts (in_problem.Goal a) = refl
objects_step parts (in_problem.Constraints a) = refl
objects_step parts (in_problem.Metric a) = refl

init_step : (parts : ProblemParts) (s : ProblemSection) → (put_section parts s).init ≡ unwrap_or (init_in s) parts.init
init_step parts in_problem.Requirements = refl
init_step parts (in_problem.Domain a) = refl
init_step parts (in_problem.Objects a) = refl
init_step parts (in_problem.Init a) = refl
init_step parts (in_problem.Goal a) = refl
init_step parts (in_problem.Constraints a) = refl
init_step parts (in_problem.Metric a) = refl

goal_step : (parts : ProblemParts) (s : ProblemSection) → (put_section parts s).goal ≡ later (goal_in s) parts.goal
goal_step parts in_problem.Requirements = refl
goal_step parts (in_problem.Domain a) = refl
goal_step parts (in_problem.Objects a) = refl
goal_step parts (in_problem.Init a) = refl
goal_step parts (in_problem.Goal a) = refl
goal_step parts (in_problem.Constraints a) = refl
goal_step parts (in_problem.Metric a) = refl

constraints_step : (parts : ProblemParts) (s : ProblemSection)
    → (put_section parts s).constraints ≡ unwrap_or (constraints_in s) parts.constraints
constraints_step parts in_problem.Requirements = refl
constraints_step parts (in_problem.Domain a) = refl
constraints_step parts (in_problem.Objects a) = refl
constraints_step parts (in_problem.Init a) = refl
constraints_step parts (in_problem.Goal a) = refl
constraints_step parts (in_problem.Constraints a) = refl
constraints_step parts (in_problem.Metric a) = refl

metric_step : (parts : ProblemParts) (s : ProblemSection) → (put_section parts s).metric ≡ later (metric_in s) parts.metric
metric_step parts in_problem.Requirements = refl
metric_step parts (in_problem.Domain a) = refl
metric_step parts (in_problem.Objects a) = refl
metric_step parts (in_problem.Init a) = refl
metric_step parts (in_problem.Goal a) = refl
metric_step parts (in_problem.Constraints a) = refl
metric_step parts (in_problem.Metric a) = refl

name_kept : (parts : ProblemParts) (ss : List ProblemSection) → (put_sections parts ss).name ≡ parts.name
name_kept parts [] = refl
name_kept parts (in_problem.Requirements ∷ ss) = name_kept (put_section parts in_problem.Requirements) ss
name_kept parts (in_problem.Domain a ∷ ss) = name_kept (put_section parts (in_problem.Domain a)) ss
name_kept parts (in_problem.Objects a ∷ ss) = name_kept (put_section parts (in_problem.Objects a)) ss
name_kept parts (in_problem.Init a ∷ ss) = name_kept (put_section parts (in_problem.Init a)) ss
name_kept parts (in_problem.Goal a ∷ ss) = name_kept (put_section parts (in_problem.Goal a)) ss
name_kept parts (in_problem.Constraints a ∷ ss) = name_kept (put_section parts (in_problem.Constraints a)) ss
name_kept parts (in_problem.Metric a ∷ ss) = name_kept (put_section parts (in_problem.Metric a)) ss

-- the parts by what the sections say
abbrev parts_of : Ident → List ProblemSection → ProblemParts
parts_of name ss = record {
  name = name;
  domain = last_of domain_in ss;
  objects = unwrap_or (last_of objects_in ss) [];
  init = unwrap_or (last_of init_in ss) [];
  goal = last_of goal_in ss;
  constraints = unwrap_or (last_of constraints_in ss) (constraint.And []);
  metric = last_of metric_in ss;
}

parts_same : (parts : ProblemParts) (name : Ident) (d : Option Ident) (o : List RawGroup) (i : List RawInit) (g : Option RawFormula)
    (c : RawConstraint) (m : Option RawMetric)
    → parts.name ≡ name → parts.domain ≡ d → parts.objects ≡ o → parts.init ≡ i → parts.goal ≡ g → parts.constraints ≡ c → parts.metric ≡ m
    → ◌≡◌ {A = ProblemParts} parts (record { name = name; domain = d; objects = o; init = i; goal = g; constraints = c; metric = m })
parts_same parts name d o i g c m of_name of_d of_o of_i of_g of_c of_m = rw (← of_name, ← of_d, ← of_o, ← of_i, ← of_g, ← of_c, ← of_m) refl

gathered : (name : Ident) (ss : List ProblemSection) → put_sections (bare_problem name) ss ≡ parts_of name ss
gathered name ss =
    parts_same (put_sections (bare_problem name) ss) name _ _ _ _ _ _ (name_kept (bare_problem name) ss)
    (option_of (λ parts. parts.domain) domain_in domain_step (bare_problem name) ss ∙ later_none (last_of domain_in ss))
    (field_of (λ parts. parts.objects) objects_in objects_step (bare_problem name) ss)
    (field_of (λ parts. parts.init) init_in init_step (bare_problem name) ss)
    (option_of (λ parts. parts.goal) goal_in goal_step (bare_problem name) ss ∙ later_none (last_of goal_in ss))
    (field_of (λ parts. parts.constraints) constraints_in constraints_step (bare_problem name) ss)
    (option_of (λ parts. parts.metric) metric_in metric_step (bare_problem name) ss ∙ later_none (last_of metric_in ss))

-- ---- what is spelled is read

each_of : (trees : List Sexp) (ss : List ProblemSection) → AreProblemSections trees ss → Each IsProblemSection trees ss
each_of _ _ no_problem_sections = tt
each_of _ _ (more_problem_sections tree s trees ss is others) = (is, each_of trees ss others)

neither : (a b : Bool) → a ≡ true → b ≡ true → (not a || not b) ≡ false
neither true true of_a of_b = refl
neither true false of_a of_b = cc
neither false b of_a of_b = cc

text_read : (place at : Place) (second : Sexp) (trees : List Sexp) (name : Ident) (ss : List ProblemSection)
    → title (codes "problem") second ≡ parsed name
    → problem_sections [] trees ≡ parsed ss → lacks_section trees ≡ false
    → problem (Group place (leaf (kind.Word (codes "define")) at ∷ second ∷ trees) ∷ []) ≡ followed (whole place (parsed (put_sections
    (bare_problem name) ss))) []
text_read place at second trees name ss titled are lacks =
    rw (
      bracket-Group in_problem_text place (leaf (kind.Word (codes "define")) at ∷ second ∷ trees),
      lacks,
      like (codes "define") at,
      titled,
      are,
    ) refl

pub problem_read : (trees : List Sexp) (form : ProblemForm) → IsProblem trees form → problem trees ≡ parsed form
problem_read _ _ (a_problem place at second name trees ss d o i g c m titled are once says_d says_o says_i says_g says_c says_m) =
    let each : Each IsProblemSection trees ss = each_of trees ss are in
    text_read place at second trees name ss (title_read (codes "problem") second name titled) (problem_sections_read [] trees ss are once)
    (neither (has_section (codes "domain") trees) (has_section (codes "goal") trees)
    (has_said IsProblemSection in_problem.Domain domain_in domain_part (codes "domain") domain_start trees ss d each says_d)
    (has_said IsProblemSection in_problem.Goal goal_in goal_part (codes "goal") goal_start trees ss g each says_g))
    ∙ ap (λ parts. followed (whole place (parsed parts)) []) (gathered name ss)
    ∙ rw (
      last_is IsProblemSection in_problem.Domain domain_in domain_part (codes "domain") domain_start trees ss (Some d) each (once
          (codes "domain")) says_d,
      last_is IsProblemSection in_problem.Objects objects_in objects_part (codes "objects") objects_start trees ss o each (once
          (codes "objects")) says_o,
      last_is IsProblemSection in_problem.Init init_in init_part (codes "init") init_start trees ss i each (once (codes "init")) says_i,
      last_is IsProblemSection in_problem.Goal goal_in goal_part (codes "goal") goal_start trees ss (Some g) each (once
          (codes "goal")) says_g,
      last_is IsProblemSection in_problem.Constraints constraints_in constraints_part
          (codes "constraints") constraints_start trees ss c each (once (codes "constraints")) says_c,
      last_is IsProblemSection in_problem.Metric metric_in metric_part (codes "metric") metric_start trees ss m each (once
          (codes "metric")) says_m,
    ) refl

-- ---- what is read is spelled

abbrev form_of : Ident → RawFormula → ProblemParts → ProblemForm
form_of d g parts =
    record { name = parts.name; domain = d; objects = parts.objects; init = parts.init; goal = g; constraints = parts.constraints; metric = parts.metric }

-- parts with a domain and a goal make such a form
abbrev Completes : (ProblemForm → Type 0) → ProblemParts → Type 0
Completes P parts = (d : Ident) (g : RawFormula) → parts.domain ≡ Some d → parts.goal ≡ Some g → P (form_of d g parts)

complete_sound : (P : ProblemForm → Type 0) (place : Place) (d : Option Ident) (g : Option RawFormula) (parts : ProblemParts)
    → parts.domain ≡ d → parts.goal ≡ g
    → Completes P parts → Sound (complete place d g parts) P
complete_sound P place (Some d) (Some g) parts of_d of_g h = h d g of_d of_g
complete_sound P place (Some d) None parts of_d of_g h = tt
complete_sound P place None g parts of_d of_g h = tt

whole_sound : (P : ProblemForm → Type 0) (place : Place) (v : Read ProblemParts) → Sound v (Completes P) → Sound (whole place v) P
whole_sound P place (parsed parts) h = complete_sound P place parts.domain parts.goal parts refl refl h
whole_sound P place (rejected f fs) h = tt

text_is : (place : Place) (head second : Sexp) (trees : List Sexp) (name : Ident) (ss : List ProblemSection)
    → unlike (codes "define") head ≡ []
    → IsTitle (codes "problem") second name → AreNext [] trees ss
    → Completes (IsProblem (Group place (head ∷ second ∷ trees) ∷ [])) (put_sections (bare_problem name) ss)
text_is place head second trees name ss e titled are =
    subst (Completes (IsProblem (Group place (head ∷ second ∷ trees) ∷ []))) (sym (gathered name ss)) (λ d g of_d of_g.
    subst (λ h. IsProblem (Group place (h ∷ second ∷ trees) ∷ []) (form_of d g (parts_of name ss))) (sym (alike (codes "define") head e).is)
    (a_problem place (alike (codes "define") head e).at second name trees ss d (last_of objects_in ss) (last_of init_in ss) g
    (last_of constraints_in ss) (last_of metric_in ss) titled are.0 (λ word. are.1 word tt)
    (subst (Says in_problem.Domain ss) of_d (says_last in_problem.Domain domain_in domain_part ss))
    (says_last in_problem.Objects objects_in objects_part ss) (says_last in_problem.Init init_in init_part ss)
    (subst (Says in_problem.Goal ss) of_g (says_last in_problem.Goal goal_in goal_part ss))
    (says_last in_problem.Constraints constraints_in constraints_part ss) (says_last in_problem.Metric metric_in metric_part ss)))

in_text_sound : (place : Place) (items : List Sexp) → Sound (in_problem_text place items) (IsProblem (Group place items ∷ []))
in_text_sound place [] = tt
in_text_sound place (head ∷ []) = tt
in_text_sound place (head ∷ second ∷ trees) =
    let P : ProblemForm → Type 0 = IsProblem (Group place (head ∷ second ∷ trees) ∷ []) in
    let read : Read ProblemParts = over_two (λ name ss. put_sections (bare_problem name) ss) (title (codes "problem") second)
    (problem_sections [] trees) in
    sound_behind P (short (lacks_section trees) place (head ∷ second ∷ trees)) (behind (unlike (codes "define") head)
    (whole place read)) (λ enough.
    sound_behind P (unlike (codes "define") head) (whole place read) (λ e.
    whole_sound P place read
    (sound_two (IsTitle (codes "problem") second) (AreNext [] trees) (Completes P) (λ name ss. put_sections (bare_problem name) ss)
    (title (codes "problem") second) (problem_sections [] trees) (λ name ss titled are. text_is place head second trees name ss e titled are)
    (title_sound (codes "problem") second) (problem_sections_sound [] trees))))

pub problem_sound : (trees : List Sexp) → Sound (problem trees) (IsProblem trees)
problem_sound trees =
    only_sound IsProblem problem_text trees (sound_bracket (λ tree form. IsProblem (tree ∷ []) form) in_problem_text in_text_sound)

pub problem_spelled : (trees : List Sexp) (form : ProblemForm) → problem trees ≡ parsed form → IsProblem trees form
problem_spelled trees form e = sound_is (IsProblem trees) (problem trees) form (problem_sound trees) e

some_problem : (trees : List Sexp) (v : Read ProblemForm) → Sound v (IsProblem trees) → faults v ≡ [] → HasProblemForm trees
some_problem trees (parsed form) is e = record { form = form; is = is }
some_problem trees (rejected f fs) is e = cc

pub faultless_problem : (trees : List Sexp) → faults (problem trees) ≡ [] → HasProblemForm trees
faultless_problem trees e = some_problem trees (problem trees) (problem_sound trees) e

pub rejected_problem : (trees : List Sexp) → HasProblemForm trees → faults (problem trees) ≡ []
rejected_problem trees has = rw (problem_read trees has.form has.is) refl
