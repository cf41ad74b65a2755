-- The written problem is read as its abstract syntax.
use Rattle.std.proofs.Common.{◌≡◌, ℕ, Bool, true, false, List, [], ◌∷◌, ◌++◌, refl, ap, sym, subst}
use Rattle.std.specs.Prelude.{codes, flat_map, ◌||◌, ⊤, Option, Some, None, drop, if◌then◌else◌}
use Rattle.std.specs.Str.{bytes_eq}
use Rattle.up_text.specs.declared.place.Place.{Place}
use Rattle.up_text.specs.Lists.{Every}
use Rattle.up_tree.specs.declared.term.Typed.{Typed}
use Rattle.up_tree.specs.declared.problem.Constraint.{Constraint}
use Rattle.up_tree.specs.declared.problem.Metric.{Metric}
use Rattle.up_tree.specs.declared.problem.Parts.{Parts}
use Rattle.up_tree.specs.WellFormed.{OnMetric, IsWellFormed}
use Rattle.pddl_lex.specs.declared.tree.TokenKind.{TokenKind}
use Rattle.pddl_lex.specs.declared.tree.TokenKind.TheVariants as kind
use Rattle.pddl_lex.specs.declared.tree.Sexp.{Sexp, Group}
use Rattle.pddl_lex.specs.Brackets.{Bracketed}
use Rattle.pddl_lex.specs.Parses.{parsed}
use Rattle.pddl_parse.specs.declared.raw.Ident.{Ident}
use Rattle.pddl_parse.specs.declared.raw.RawGroup.{RawGroup}
use Rattle.pddl_parse.specs.declared.raw.RawInit.{RawInit}
use Rattle.pddl_parse.specs.declared.raw.RawFormula.{RawFormula}
use Rattle.pddl_parse.specs.declared.raw.RawMetric.{RawMetric}
use Rattle.pddl_parse.specs.declared.raw.RawConstraint.{RawConstraint}
use Rattle.pddl_parse.specs.declared.raw.RawConstraint as constraint
use Rattle.pddl_parse.specs.declared.raw.ProblemForm.{ProblemForm}
use Rattle.pddl_parse.specs.declared.problem.ProblemParts.{ProblemParts}
use Rattle.pddl_parse.specs.declared.section.ProblemKey.{ProblemKey}
use Rattle.pddl_parse.specs.declared.section.ProblemKey.TheVariants as key
use Rattle.pddl_parse.specs.declared.section.ProblemSection.{ProblemSection}
use Rattle.pddl_parse.specs.declared.section.ProblemSection.TheVariants as section
use Rattle.pddl_parse.specs.Shapes.{ident}
use Rattle.pddl_parse.specs.Starts.{initial}
use Rattle.pddl_parse.specs.Sections.{problem_key, problem_body, in_problem_section, problem_section, problem_sections}
use Rattle.pddl_parse.specs.Brackets.{has_section, is_section}
use Rattle.pddl_parse.specs.Texts.{title, put_section, put_sections, in_problem_text, problem, bare_problem, complete}
use Rattle.pddl_parse.specs.Forms.{leaf}
use Rattle.pddl_parse.proofs.Nodes.{bracket-Group, keyword_of-Leaf, is_word-Leaf}
use Rattle.pddl_parse.proofs.Read.{formula_read}
use Rattle.pddl_write.specs.Files.{declares_type}
use Rattle.roundtrip_tokens.specs.Tokens.{group, object_tokens, expr_tokens, formula_tokens}
use Rattle.roundtrip_tokens.specs.EffectTokens.{constraint_tokens}
use Rattle.roundtrip_tokens.specs.FileTokens.{section_tokens, define_tokens, fact_tokens, number_fact_tokens, value_fact_tokens, init_tokens, constraint_section, metric_tokens, problem_tokens_with, problem_tokens}
use Rattle.roundtrip_shapes.specs.Raw.{IsEmpty, empty, IsFirst, first, IsRawName, AreRawGroups, no_groups, IsRawFormula}
use Rattle.roundtrip_shapes.proofs.Trees.{rowed_as, none_rowed, group_formed, Led, led, led_rowed, Alone, alone, alone_rowed}
use Rattle.roundtrip_shapes.proofs.Formulas.{SpellsFormula, spells_formula, formula_formed}
use Rattle.roundtrip_shapes.proofs.Actions.{some_formula}
use Rattle.roundtrip_shapes.specs.RawFiles.{IsRawInit, AreRawConstraints, all_of, IsRawMetric, no_metric, a_metric, IsRawProblemWith}
use Rattle.roundtrip_shapes.specs.Formed.{FormsProblem}
use Rattle.roundtrip_shapes.proofs.Wellnamed as known
use Rattle.roundtrip_shapes.proofs.Each.{TreeOf, RowOf, tree_as, in_front, Section, begun, section_of, ReadsOne, reads_one, ReadsAll, reads_all}
use Rattle.roundtrip_shapes.proofs.Lists.{ReadsList, reads_list, list_read}
use Rattle.roundtrip_shapes.proofs.Facts.{name_read, init_read}
use Rattle.roundtrip_shapes.proofs.Constraints.{ReadsWhole, reads_whole, constraints_read, ReadsMetric, reads_metric, metric_read}
use Rattle.roundtrip_shapes.proofs.Sections.{NoneOf, none_behind, none_before, same_section, title_read, section_rowed}
use Rattle.roundtrip_shapes.proofs.Domains.{seven, of_empty}
use Rattle.pddl_lex.specs.declared.tree.Token.{Token}
use Rattle.roundtrip_tokens.specs.Spelled.{AreOfKinds}
use Rattle.grammar_shapes.proofs.Gathered.{or_there}

-- sections that begin with these keywords stand
abbrev Standing : List (List ℕ) → List Sexp → Type 0
Standing words trees = Every (λ w. has_section w trees ≡ true) words

-- trees that are read as sections after others, where none of those due stands yet, and bring parts of which `In`
-- holds to parts of which `Out` holds
data Reads (due stand : List (List ℕ)) (In Out : ProblemParts → Type 0) (trees : List Sexp) : Type 0 where
  reads : (ss : List ProblemSection) → ((before : List Sexp) → NoneOf due before → problem_sections before trees ≡ parsed ss)
      → ((parts : ProblemParts) → In parts → Out (put_sections parts ss)) → Standing stand trees → Reads due stand In Out trees

or_first : (a b : Bool) → a ≡ true → (a || b) ≡ true
or_first a b is = rw is refl

still : (words : List (List ℕ)) (tree : Sexp) (trees : List Sexp) → Standing words trees → Standing words (tree ∷ trees)
still [] tree trees stand = tt
still (w ∷ words) tree trees stand = (or_there (is_section w tree) (has_section w trees) stand.0, still words tree trees stand.1)

stands_first : (word : List ℕ) → bytes_eq word word ≡ true → (place there : Place) (rest trees : List Sexp)
    → has_section word (Group place (leaf (kind.Keyword word) there ∷ rest) ∷ trees) ≡ true
stands_first word same place there rest trees =
    or_first (is_section word (Group place (leaf (kind.Keyword word) there ∷ rest))) (has_section word trees) (same_section word same place there rest)

section_read : (word : List ℕ) (k : ProblemKey) → problem_key word ≡ Some k → (before : List Sexp) → has_section word before ≡ false
    → (place there : Place) (rest : List Sexp) (s : ProblemSection) → problem_body k place rest ≡ parsed s
    → problem_section before (Group place (leaf (kind.Keyword word) there ∷ rest)) ≡ parsed s
section_read word k is before fresh place there rest s body =
    rw (bracket-Group (in_problem_section before) place (leaf (kind.Keyword word) there ∷ rest), keyword_of-Leaf, is, fresh) body

-- one section more
once : (word : List ℕ) (k : ProblemKey) → problem_key word ≡ Some k → (due : List (List ℕ)) → Every (λ w. bytes_eq word w ≡ false) due → (stand stand_now : List (List ℕ))
    → (In Mid Out : ProblemParts → Type 0) (place there : Place) (rest : List Sexp) (s : ProblemSection) → ((at : Place) → problem_body k at rest ≡ parsed s)
    → ((parts : ProblemParts) → In parts → Mid (put_section parts s)) → (trees : List Sexp)
    → (Standing stand trees → Standing stand_now (Group place (leaf (kind.Keyword word) there ∷ rest) ∷ trees)) → Reads due stand Mid Out trees
    → Reads (word ∷ due) stand_now In Out (Group place (leaf (kind.Keyword word) there ∷ rest) ∷ trees)
once word k is due differ stand stand_now In Mid Out place there rest s body fills trees now (reads ss so goes standing) =
    reads (s ∷ ss)
    (λ before clear. rw (
      section_read word k is before clear.0 place there rest s (body place),
      so (before ++ Group place (leaf (kind.Keyword word) there ∷ rest) ∷ []) (none_behind due before clear.1 word differ place there rest),
    ) refl)
    (λ parts ready. goes (put_section parts s) (fills parts ready))
    (now standing)

-- one section that is left out
left_out : (word : List ℕ) (due stand : List (List ℕ)) (In Mid Out : ProblemParts → Type 0) → ((parts : ProblemParts) → In parts → Mid parts)
    → (trees : List Sexp) → Reads due stand Mid Out trees → Reads (word ∷ due) stand In Out trees
left_out word due stand In Mid Out skips trees (reads ss so goes standing) = reads ss (λ before clear. so before clear.1) (λ parts ready. goes parts (skips parts ready)) standing

-- the constraints' section, which is left out where there are none
constraints_rowed : (typed : Bool) (Q R P : List Sexp → Type 0) (ks : List TokenKind) → RowOf ks R → (cs : List Constraint) → (cs ≡ [] → (trees : List Sexp) → R trees → P trees)
    → RowOf (group (kind.Word (codes "and") ∷ flat_map (constraint_tokens typed) cs)) Q
    → ((tree : Sexp) (trees : List Sexp) → Section (codes "constraints") Q tree → R trees → P (tree ∷ trees))
    → RowOf (constraint_section typed cs ++ ks) P
constraints_rowed typed Q R P ks more [] absent body present = λ tokens kinds. rowed_as (more tokens kinds) (absent refl)
constraints_rowed typed Q R P ks more (c ∷ cs) absent body present =
    in_front (group (kind.Keyword (codes "constraints") ∷ group (kind.Word (codes "and") ∷ flat_map (constraint_tokens typed) (c ∷ cs)))) ks (Section (codes "constraints") Q) R P
    (section_of (codes "constraints") (group (kind.Word (codes "and") ∷ flat_map (constraint_tokens typed) (c ∷ cs))) Q body) more present

-- ---- what the sections fill

-- not read yet
abbrev Unread : {X : Type 0} → X → Type 0
Unread x = ⊤

-- there, and such
data IsGiven {X : Type 0} (P : X → Type 0) : Option X → Type 0 where
  is_given : (x : X) → P x → IsGiven P (Some x)

abbrev NoConstraint : RawConstraint → Type 0
NoConstraint c = c ≡ constraint.And []

abbrev NoMetric : Option RawMetric → Type 0
NoMetric m = m ≡ None

-- parts of which the name is read, and these sections so
record Filled (p : Parts) (D : Option Ident → Type 0) (O : List RawGroup → Type 0) (I : List RawInit → Type 0) (G : Option RawFormula → Type 0) (C : RawConstraint → Type 0)
    (M : Option RawMetric → Type 0) (parts : ProblemParts) : Type 0 where
  name : IsRawName p.name parts.name
  domain : D parts.domain
  objects : O parts.objects
  init : I parts.init
  goal : G parts.goal
  constraints : C parts.constraints
  metric : M parts.metric

module _ (p : Parts) (well : IsWellFormed p) (typed : Bool) where
  abbrev Domain : Option Ident → Type 0
  Domain d = IsGiven (IsRawName p.domain) d

  abbrev Objects : List RawGroup → Type 0
  Objects groups = AreRawGroups typed (drop p.constants p.objects) groups

  abbrev Init : List RawInit → Type 0
  Init inits = IsRawInit p inits

  abbrev Goal : Option RawFormula → Type 0
  Goal g = IsGiven (IsRawFormula typed p.goal) g

  abbrev Constraints : RawConstraint → Type 0
  Constraints c = AreRawConstraints typed p.constraints c

  -- parts of which all is read
  abbrev Whole : Option Metric → ProblemParts → Type 0
  Whole m parts = Filled p Domain Objects Init Goal Constraints (IsRawMetric m) parts

  -- ---- the sections in order, from the last

  -- the kinds of the tokens from each section on, parts at which a section is due, and what their trees are read as
  abbrev constraint_kinds : List TokenKind
  constraint_kinds = constraint_section typed p.constraints ++ metric_tokens p.metric

  abbrev goal_kinds : List TokenKind
  goal_kinds = group (kind.Keyword (codes "goal") ∷ formula_tokens typed p.goal) ++ constraint_kinds

  abbrev init_kinds : List TokenKind
  init_kinds = init_tokens p ++ goal_kinds

  abbrev object_kinds : List TokenKind
  object_kinds = section_tokens (codes "objects") (object_tokens typed) (drop p.constants p.objects) ++ init_kinds

  abbrev domain_kinds : List TokenKind
  domain_kinds = group (kind.Keyword (codes "domain") ∷ kind.Word p.domain ∷ []) ++ object_kinds

  abbrev AtDomain : ProblemParts → Type 0
  AtDomain parts = Filled p Unread IsEmpty Unread Unread NoConstraint NoMetric parts

  abbrev AtObjects : ProblemParts → Type 0
  AtObjects parts = Filled p Domain IsEmpty Unread Unread NoConstraint NoMetric parts

  abbrev AtInit : ProblemParts → Type 0
  AtInit parts = Filled p Domain Objects Unread Unread NoConstraint NoMetric parts

  abbrev AtGoal : ProblemParts → Type 0
  AtGoal parts = Filled p Domain Objects Init Unread NoConstraint NoMetric parts

  abbrev AtConstraints : ProblemParts → Type 0
  AtConstraints parts = Filled p Domain Objects Init Goal NoConstraint NoMetric parts

  abbrev AtMetric : ProblemParts → Type 0
  AtMetric parts = Filled p Domain Objects Init Goal Constraints NoMetric parts

  abbrev FromMetric : List Sexp → Type 0
  FromMetric trees = Reads (codes "metric" ∷ []) [] AtMetric (Whole p.metric) trees

  abbrev FromConstraints : List Sexp → Type 0
  FromConstraints trees = Reads (codes "constraints" ∷ codes "metric" ∷ []) [] AtConstraints (Whole p.metric) trees

  abbrev FromGoal : List Sexp → Type 0
  FromGoal trees = Reads (codes "goal" ∷ codes "constraints" ∷ codes "metric" ∷ []) (codes "goal" ∷ []) AtGoal (Whole p.metric) trees

  abbrev FromInit : List Sexp → Type 0
  FromInit trees = Reads (codes "init" ∷ codes "goal" ∷ codes "constraints" ∷ codes "metric" ∷ []) (codes "goal" ∷ []) AtInit (Whole p.metric) trees

  abbrev FromObjects : List Sexp → Type 0
  FromObjects trees = Reads (codes "objects" ∷ codes "init" ∷ codes "goal" ∷ codes "constraints" ∷ codes "metric" ∷ []) (codes "goal" ∷ []) AtObjects (Whole p.metric) trees

  abbrev FromDomain : List Sexp → Type 0
  FromDomain trees = Reads (codes "domain" ∷ codes "objects" ∷ codes "init" ∷ codes "goal" ∷ codes "constraints" ∷ codes "metric" ∷ []) (codes "domain" ∷ codes "goal" ∷ []) AtDomain (Whole p.metric) trees

  from_metric : (m : Option Metric) → OnMetric p m → RowOf (metric_tokens m) (Reads (codes "metric" ∷ []) [] AtMetric (Whole m))
  from_metric None is = λ tokens kinds.
      none_rowed tokens kinds (Reads (codes "metric" ∷ []) [] AtMetric (Whole None))
      (reads [] (λ before clear. refl) (λ parts ready. record {
        name = ready.name;
        domain = ready.domain;
        objects = ready.objects;
        init = ready.init;
        goal = ready.goal;
        constraints = ready.constraints;
        metric = rw ready.metric no_metric;
      }) tt)
  from_metric (Some m) is = λ tokens kinds.
      rowed_as
      (alone_rowed (section_of (codes "metric") (kind.Word (if m.minimize then codes "minimize" else codes "maximize") ∷ expr_tokens m.value) (ReadsMetric m)
      (metric_read p (known.names p well) (known.objects p well) m is.0) tokens kinds))
      (present m)
    where
      present : (m : Metric) (trees : List Sexp) → Alone (Section (codes "metric") (ReadsMetric m)) trees → Reads (codes "metric" ∷ []) [] AtMetric (Whole (Some m)) trees
      present m _ (alone _ (begun place there rest (reads_metric r reading sense so))) =
          once (codes "metric") key.Metric refl [] tt [] [] AtMetric (Whole (Some m)) (Whole (Some m))
          place there rest (section.Metric r) (λ at. rw (reading at) refl)
          (λ parts ready. record {
            name = ready.name;
            domain = ready.domain;
            objects = ready.objects;
            init = ready.init;
            goal = ready.goal;
            constraints = ready.constraints;
            metric = a_metric m r sense so;
          }) [] (λ stand. tt) (reads [] (λ before clear. refl) (λ parts ready. ready) tt)

  from_constraints : RowOf constraint_kinds FromConstraints
  from_constraints =
      constraints_rowed typed (Alone (ReadsWhole Constraints)) FromMetric FromConstraints (metric_tokens p.metric)
      (from_metric p.metric well.metric) p.constraints absent (constraints_read p (known.names p well) (known.objects p well) typed p.constraints well.constraints) present
    where
      absent : p.constraints ≡ [] → (trees : List Sexp) → FromMetric trees → FromConstraints trees
      absent e =
          left_out (codes "constraints") (codes "metric" ∷ []) [] AtConstraints AtMetric (Whole p.metric)
          (λ parts ready. record {
            name = ready.name;
            domain = ready.domain;
            objects = ready.objects;
            init = ready.init;
            goal = ready.goal;
            constraints = rw (ready.constraints, e) (all_of [] empty);
            metric = ready.metric;
          })

      present : (tree : Sexp) (trees : List Sexp) → Section (codes "constraints") (Alone (ReadsWhole Constraints)) tree → FromMetric trees → FromConstraints (tree ∷ trees)
      present _ trees (begun place there _ (alone tree (reads_whole c reading so))) =
          once (codes "constraints") key.Constraints refl (codes "metric" ∷ []) (refl, tt) [] [] AtConstraints AtMetric (Whole p.metric)
          place there (tree ∷ []) (section.Constraints c) (λ at. rw reading refl)
          (λ parts ready. record {
            name = ready.name;
            domain = ready.domain;
            objects = ready.objects;
            init = ready.init;
            goal = ready.goal;
            constraints = so;
            metric = ready.metric;
          }) trees (λ stand. tt)

  goal_read : RowOf (formula_tokens typed p.goal) (Alone (SpellsFormula (IsRawFormula typed p.goal)))
  goal_read tokens kinds = alone_rowed (formula_formed p (known.names p well) p.objects (known.objects p well) typed [] tt p.goal well.goal tokens kinds)

  from_goal : RowOf goal_kinds FromGoal
  from_goal =
      in_front (group (kind.Keyword (codes "goal") ∷ formula_tokens typed p.goal)) constraint_kinds (Section (codes "goal") (Alone (SpellsFormula (IsRawFormula typed p.goal)))) FromConstraints FromGoal
      (section_of (codes "goal") (formula_tokens typed p.goal) (Alone (SpellsFormula (IsRawFormula typed p.goal))) goal_read) from_constraints present
    where
      present : (tree : Sexp) (trees : List Sexp) → Section (codes "goal") (Alone (SpellsFormula (IsRawFormula typed p.goal))) tree → FromConstraints trees → FromGoal (tree ∷ trees)
      present _ trees (begun place there _ (alone tree (spells_formula g is so))) =
          once (codes "goal") key.Goal refl (codes "constraints" ∷ codes "metric" ∷ []) (refl, (refl, tt)) [] (codes "goal" ∷ []) AtGoal AtConstraints (Whole p.metric)
          place there (tree ∷ []) (section.Goal g) (λ at. rw (some_formula tree g is, formula_read tree g is) refl)
          (λ parts ready. record {
            name = ready.name;
            domain = ready.domain;
            objects = ready.objects;
            init = ready.init;
            goal = is_given g so;
            constraints = ready.constraints;
            metric = ready.metric;
          }) trees (λ stand. (stands_first (codes "goal") refl place there (tree ∷ []) trees, tt))

  from_init : RowOf init_kinds FromInit
  from_init =
      in_front (init_tokens p) goal_kinds (Section (codes "init") (ReadsAll initial Init)) FromGoal FromInit
      (section_of (codes "init") (flat_map fact_tokens p.atoms ++ flat_map number_fact_tokens p.numbers ++ flat_map value_fact_tokens p.values) (ReadsAll initial Init) (init_read p (known.names p well) (known.objects p well) well.atoms well.numbers well.values)) from_goal present
    where
      present : (tree : Sexp) (trees : List Sexp) → Section (codes "init") (ReadsAll initial Init) tree → FromGoal trees → FromInit (tree ∷ trees)
      present _ trees (begun place there rest (reads_all inits is so)) =
          once (codes "init") key.Init refl (codes "goal" ∷ codes "constraints" ∷ codes "metric" ∷ []) (refl, (refl, (refl, tt))) (codes "goal" ∷ []) (codes "goal" ∷ []) AtInit AtGoal (Whole p.metric)
          place there rest (section.Init inits) (λ at. rw is refl)
          (λ parts ready. record {
            name = ready.name;
            domain = ready.domain;
            objects = ready.objects;
            init = so;
            goal = ready.goal;
            constraints = ready.constraints;
            metric = ready.metric;
          }) trees (still (codes "goal" ∷ []) (Group place (leaf (kind.Keyword (codes "init")) there ∷ rest)) trees)

  from_objects : RowOf object_kinds FromObjects
  from_objects =
      section_rowed (codes "objects") (object_tokens typed) (ReadsList typed (drop p.constants p.objects)) FromInit FromObjects init_kinds
      from_init (drop p.constants p.objects) absent (list_read typed (drop p.constants p.objects) (known.others p well) (known.other_types p well)) present
    where
      absent : (drop p.constants p.objects) ≡ [] → (trees : List Sexp) → FromInit trees → FromObjects trees
      absent e =
          left_out (codes "objects") (codes "init" ∷ codes "goal" ∷ codes "constraints" ∷ codes "metric" ∷ []) (codes "goal" ∷ []) AtObjects AtInit (Whole p.metric)
          (λ parts ready. record {
            name = ready.name;
            domain = ready.domain;
            objects = of_empty Objects parts.objects ready.objects (subst (λ (os : List Typed). AreRawGroups typed os []) (sym e) (no_groups typed));
            init = ready.init;
            goal = ready.goal;
            constraints = ready.constraints;
            metric = ready.metric;
          })

      present : (tree : Sexp) (trees : List Sexp) → Section (codes "objects") (ReadsList typed (drop p.constants p.objects)) tree → FromInit trees → FromObjects (tree ∷ trees)
      present _ trees (begun place there rest (reads_list groups is raws)) =
          once (codes "objects") key.Objects refl (codes "init" ∷ codes "goal" ∷ codes "constraints" ∷ codes "metric" ∷ []) (refl, (refl, (refl, (refl, tt)))) (codes "goal" ∷ []) (codes "goal" ∷ []) AtObjects AtInit (Whole p.metric)
          place there rest (section.Objects groups) (λ at. rw (is at) refl)
          (λ parts ready. record {
            name = ready.name;
            domain = ready.domain;
            objects = raws;
            init = ready.init;
            goal = ready.goal;
            constraints = ready.constraints;
            metric = ready.metric;
          }) trees (still (codes "goal" ∷ []) (Group place (leaf (kind.Keyword (codes "objects")) there ∷ rest)) trees)

  from_domain : RowOf domain_kinds FromDomain
  from_domain =
      in_front (group (kind.Keyword (codes "domain") ∷ kind.Word p.domain ∷ [])) object_kinds (Section (codes "domain") (Alone (ReadsOne ident (IsRawName p.domain)))) FromObjects FromDomain
      (section_of (codes "domain") (kind.Word p.domain ∷ []) (Alone (ReadsOne ident (IsRawName p.domain))) (λ back there. alone_rowed (name_read p.domain well.domain back there))) from_objects present
    where
      present : (tree : Sexp) (trees : List Sexp) → Section (codes "domain") (Alone (ReadsOne ident (IsRawName p.domain))) tree → FromObjects trees → FromDomain (tree ∷ trees)
      present _ trees (begun place there _ (alone tree (reads_one d is so))) =
          once (codes "domain") key.Domain refl (codes "objects" ∷ codes "init" ∷ codes "goal" ∷ codes "constraints" ∷ codes "metric" ∷ []) (refl, (refl, (refl, (refl, (refl, tt))))) (codes "goal" ∷ []) (codes "domain" ∷ codes "goal" ∷ []) AtDomain AtObjects (Whole p.metric)
          place there (tree ∷ []) (section.Domain d) (λ at. rw is refl)
          (λ parts ready. record {
            name = ready.name;
            domain = is_given d so;
            objects = ready.objects;
            init = ready.init;
            goal = ready.goal;
            constraints = ready.constraints;
            metric = ready.metric;
          }) trees
          (λ stand. (stands_first (codes "domain") refl place there (tree ∷ []) trees, still (codes "goal" ∷ []) (Group place (leaf (kind.Keyword (codes "domain")) there ∷ tree ∷ [])) trees stand))

  -- ---- the whole

  data Completes (place : Place) (d : Option Ident) (g : Option RawFormula) (parts : ProblemParts) : Type 0 where
    completes : (form : ProblemForm) → complete place d g parts ≡ parsed form → IsRawProblemWith typed p form → Completes place d g parts

  completed : (place : Place) (parts : ProblemParts) (d : Option Ident) (g : Option RawFormula) → Domain d → Goal g → Whole p.metric parts → Completes place d g parts
  completed place parts _ _ (is_given d named) (is_given g so) ready =
      completes (record { name = parts.name; domain = d; objects = parts.objects; init = parts.init; goal = g; constraints = parts.constraints; metric = parts.metric }) refl
      (record {
        name = ready.name;
        domain = named;
        objects = ready.objects;
        init = ready.init;
        goal = so;
        constraints = ready.constraints;
        metric = ready.metric;
      })

  -- a tree that is read as the problem
  data ReadsText : Sexp → Type 0 where
    reads_text : (tree : Sexp) (form : ProblemForm) → problem (tree ∷ []) ≡ parsed form → IsRawProblemWith typed p form → ReadsText tree

  text_made : (place there : Place) (second : Sexp) (rest : List Sexp) (name : Ident) → title (codes "problem") second ≡ parsed name
      → (ss : List ProblemSection) → problem_sections [] rest ≡ parsed ss → has_section (codes "domain") rest ≡ true → has_section (codes "goal") rest ≡ true
      → Completes place (put_sections (bare_problem name) ss).domain (put_sections (bare_problem name) ss).goal (put_sections (bare_problem name) ss)
      → ReadsText (Group place (leaf (kind.Word (codes "define")) there ∷ second ∷ rest))
  text_made place there second rest name is ss are has_domain has_goal (completes form done so) =
      reads_text (Group place (leaf (kind.Word (codes "define")) there ∷ second ∷ rest)) form
      (rw (bracket-Group in_problem_text place (leaf (kind.Word (codes "define")) there ∷ second ∷ rest), has_domain, has_goal, is_word-Leaf, is, are, done) refl) so

  problem_read : TreeOf (problem_tokens_with typed p) ReadsText
  problem_read =
      tree_as (ap (λ (more : List TokenKind). group more) (sym (seven (define_tokens (codes "problem") p.name) (group (kind.Keyword (codes "domain") ∷ kind.Word p.domain ∷ [])) (section_tokens (codes "objects") (object_tokens typed) (drop p.constants p.objects))
      (init_tokens p) (group (kind.Keyword (codes "goal") ∷ formula_tokens typed p.goal)) (constraint_section typed p.constraints) (metric_tokens p.metric))))
      (λ tokens kinds. group_formed tokens (kind.Word (codes "define") ∷ (group (kind.Word (codes "problem") ∷ kind.Word p.name ∷ []) ++ domain_kinds)) kinds
      (Led (kind.Word (codes "define")) (IsFirst (ReadsOne (title (codes "problem")) (IsRawName p.name)) FromDomain))
      (led_rowed (kind.Word (codes "define")) refl (group (kind.Word (codes "problem") ∷ kind.Word p.name ∷ []) ++ domain_kinds)
      (IsFirst (ReadsOne (title (codes "problem")) (IsRawName p.name)) FromDomain)
      (in_front (group (kind.Word (codes "problem") ∷ kind.Word p.name ∷ [])) domain_kinds
      (ReadsOne (title (codes "problem")) (IsRawName p.name)) FromDomain (IsFirst (ReadsOne (title (codes "problem")) (IsRawName p.name)) FromDomain)
      (title_read (codes "problem") refl p.name well.name) from_domain first))
      ReadsText made)
    where
      made : (place : Place) (trees : List Sexp) → Led (kind.Word (codes "define")) (IsFirst (ReadsOne (title (codes "problem")) (IsRawName p.name)) FromDomain) trees → ReadsText (Group place trees)
      made place _ (led there _ (first second rest (reads_one name is named) (reads ss so goes stand))) =
          let ready : Whole p.metric (put_sections (bare_problem name) ss) = goes (bare_problem name) (record {
            name = named;
            domain = tt;
            objects = empty;
            init = tt;
            goal = tt;
            constraints = refl;
            metric = refl;
          }) in
          text_made place there second rest name is ss (so [] (none_before (codes "domain" ∷ codes "objects" ∷ codes "init" ∷ codes "goal" ∷ codes "constraints" ∷ codes "metric" ∷ []))) stand.0 stand.1.0
          (completed place (put_sections (bare_problem name) ss) (put_sections (bare_problem name) ss).domain (put_sections (bare_problem name) ss).goal ready.domain ready.goal ready)

pub problems_are_formed : (p : Parts) → IsWellFormed p → (tokens : List Token) → AreOfKinds tokens (problem_tokens p) → FormsProblem p tokens
unfolding problem_tokens
problems_are_formed p well tokens kinds =
    let formed = problem_read p well (declares_type p) tokens kinds in
    spelled formed.tree formed.bracketed formed.is
  where
    spelled : (tree : Sexp) → Bracketed tokens (tree ∷ []) → ReadsText p well (declares_type p) tree → FormsProblem p tokens
    spelled _ b (reads_text tree form read is) = record { tree = tree; form = form; bracketed = b; read = read; is = is }
