-- Sections of a problem are read exactly as they are spelled.
use Rattle.std.proofs.Common.{◌≡◌, ℕ, false, List, [], ◌∷◌, ◌++◌, append_assoc, append-nil, map, refl, sym, subst}
use Rattle.std.specs.Prelude.{⊤, codes, Option, Some, None}
use Rattle.std.specs.Str.{bytes_eq}
use Rattle.std.proofs.lemmas.Slice.Eq.{bytes_eq-Decides}
use Rattle.up_text.specs.declared.place.Place.{Place}
use Rattle.pddl_lex.specs.declared.tree.TokenKind.TheVariants as kind
use Rattle.pddl_lex.specs.declared.tree.Sexp.{Sexp, Group}
use Rattle.pddl_lex.specs.Parses.{parsed, rejected, all}
use Rattle.pddl_parse.specs.declared.section.ProblemKey.{ProblemKey}
use Rattle.pddl_parse.specs.declared.section.ProblemKey.TheVariants as key
use Rattle.pddl_parse.specs.declared.section.ProblemSection.{ProblemSection}
use Rattle.pddl_parse.specs.declared.section.ProblemSection.TheVariants as in_problem
use Rattle.pddl_parse.specs.declared.shape.ShapeError.TheVariants.{Duplicate}
use Rattle.pddl_parse.specs.declared.typed.Item.TheVariants as item
use Rattle.pddl_parse.specs.Shapes as shape
use Rattle.pddl_parse.specs.TypedLists.{typed_list}
use Rattle.pddl_parse.specs.Brackets.{has_section}
use Rattle.pddl_parse.specs.Actions.{condition}
use Rattle.pddl_parse.specs.Starts as start
use Rattle.pddl_parse.specs.Constraints.{whole_constraint}
use Rattle.pddl_parse.specs.Sections.{keyword_of, problem_key, problem_body, problem_known, problem_named, in_problem_section, problem_section, problem_sections}
use Rattle.pddl_parse.specs.Forms.{leaf, IsIdent}
use Rattle.pddl_parse.proofs.Nodes.{bracket-Group, keyword_of-Leaf}
use Rattle.pddl_parse.proofs.Read.{ident_read}
use Rattle.pddl_parse.proofs.Spelled.{Sound, sound_over, sound_two, ident_sound}
use Rattle.grammar_shapes.specs.Lists.{AreListed}
use Rattle.grammar_shapes.specs.Starts.{AreInits, IsMetric}
use Rattle.grammar_shapes.specs.Actions.{IsCondition}
use Rattle.grammar_shapes.specs.Constraints.{IsWholeConstraint}
use Rattle.grammar_shapes.specs.Sections.{section, IsProblemSection, domain, problem_requirements, objects, init, goal, problem_constraints, metric, AreProblemSections, no_problem_sections, more_problem_sections, Begins, begins, AtMostOnce}
use Rattle.grammar_shapes.proofs.Parses.{sound_if, sound_map, sound_bracket}
use Rattle.grammar_shapes.proofs.Walks.{sound_of, chosen, alone_sound}
use Rattle.grammar_shapes.proofs.Lists.{names_read, names_spelled}
use Rattle.grammar_shapes.proofs.Starts.{inits_read, inits_spelled, metric_read, metric_spelled}
use Rattle.grammar_shapes.proofs.Conditions.{condition_read, condition_sound}
use Rattle.grammar_shapes.proofs.Constraints.{whole_constraint_read, whole_constraint_sound}
use Rattle.grammar_shapes.proofs.Keywords.{IsFound, found_is, begins_same, none_before, once_more, requirements_read, requirements_sound}

-- no section before begins with the keyword of the tree
abbrev pub IsNew : List Sexp → Sexp → Type 0
IsNew before tree = (word : List ℕ) → Begins word tree → has_section word before ≡ false

-- ---- what is spelled is read

pub problem_section_read : (before : List Sexp) (tree : Sexp) (s : ProblemSection) → IsProblemSection tree s → IsNew before tree
    → problem_section before tree ≡ parsed s
problem_section_read before _ _ (domain place at tree name is) new =
    rw (
      bracket-Group (in_problem_section before) place (leaf (kind.Keyword (codes "domain")) at ∷ tree ∷ []),
      keyword_of-Leaf,
      new (codes "domain") (begins (codes "domain") place at (tree ∷ [])),
      ident_read tree name is,
    ) refl
problem_section_read before _ _ (problem_requirements place at trees are) new =
    rw (
      bracket-Group (in_problem_section before) place (leaf (kind.Keyword (codes "requirements")) at ∷ trees),
      keyword_of-Leaf,
      new (codes "requirements") (begins (codes "requirements") place at trees),
      requirements_read in_problem.Requirements trees are,
    ) refl
problem_section_read before _ _ (objects place at trees groups are) new =
    rw (
      bracket-Group (in_problem_section before) place (leaf (kind.Keyword (codes "objects")) at ∷ trees),
      keyword_of-Leaf,
      new (codes "objects") (begins (codes "objects") place at trees),
      names_read place trees groups are,
    ) refl
problem_section_read before _ _ (init place at trees members are) new =
    rw (
      bracket-Group (in_problem_section before) place (leaf (kind.Keyword (codes "init")) at ∷ trees),
      keyword_of-Leaf,
      new (codes "init") (begins (codes "init") place at trees),
      inits_read trees members are,
    ) refl
problem_section_read before _ _ (goal place at tree f is) new =
    rw (
      bracket-Group (in_problem_section before) place (leaf (kind.Keyword (codes "goal")) at ∷ tree ∷ []),
      keyword_of-Leaf,
      new (codes "goal") (begins (codes "goal") place at (tree ∷ [])),
      condition_read tree f is,
    ) refl
problem_section_read before _ _ (problem_constraints place at tree c is) new =
    rw (
      bracket-Group (in_problem_section before) place (leaf (kind.Keyword (codes "constraints")) at ∷ tree ∷ []),
      keyword_of-Leaf,
      new (codes "constraints") (begins (codes "constraints") place at (tree ∷ [])),
      whole_constraint_read tree c is,
    ) refl
problem_section_read before _ _ (metric place at trees m is) new =
    rw (
      bracket-Group (in_problem_section before) place (leaf (kind.Keyword (codes "metric")) at ∷ trees),
      keyword_of-Leaf,
      new (codes "metric") (begins (codes "metric") place at trees),
      metric_read place trees m is,
    ) refl

pub problem_sections_read : (before trees : List Sexp) (ss : List ProblemSection) → AreProblemSections trees ss
    → ((word : List ℕ) → AtMostOnce word (before ++ trees)) → problem_sections before trees ≡ parsed ss
problem_sections_read before _ _ no_problem_sections once = refl
problem_sections_read before _ _ (more_problem_sections tree s trees ss is others) once =
    rw (
      problem_section_read before tree s is (λ word. none_before word before tree trees (once word)),
      problem_sections_read (before ++ tree ∷ []) trees ss others
          (λ word. subst (AtMostOnce word) (sym (append_assoc before (tree ∷ []) trees)) (once word)),
    ) refl

-- ---- what is read is spelled

abbrev word_of : ProblemKey → List ℕ
word_of key.Domain = codes "domain"
word_of key.Requirements = codes "requirements"
word_of key.Objects = codes "objects"
word_of key.Init = codes "init"
word_of key.Goal = codes "goal"
word_of key.Constraints = codes "constraints"
word_of key.Metric = codes "metric"

abbrev IsKey : List ℕ → Option ProblemKey → Type 0
IsKey word None = ⊤
IsKey word (Some k) = word ≡ word_of k

key_is : (word : List ℕ) → IsKey word (problem_key word)
key_is word =
    let P : Option ProblemKey → Type 0 = IsKey word in
    chosen P (bytes_eq word (codes "domain")) (Some key.Domain) _ (bytes_eq-Decides word (codes "domain")).0
    (chosen P (bytes_eq word (codes "requirements")) (Some key.Requirements) _ (bytes_eq-Decides word (codes "requirements")).0
    (chosen P (bytes_eq word (codes "objects")) (Some key.Objects) _ (bytes_eq-Decides word (codes "objects")).0
    (chosen P (bytes_eq word (codes "init")) (Some key.Init) _ (bytes_eq-Decides word (codes "init")).0
    (chosen P (bytes_eq word (codes "goal")) (Some key.Goal) _ (bytes_eq-Decides word (codes "goal")).0
    (chosen P (bytes_eq word (codes "constraints")) (Some key.Constraints) _ (bytes_eq-Decides word (codes "constraints")).0
    (chosen P (bytes_eq word (codes "metric")) (Some key.Metric) None (bytes_eq-Decides word (codes "metric")).0 tt))))))

body_sound : (k : ProblemKey) (place at : Place) (trees : List Sexp)
    → Sound (problem_body k place trees) (IsProblemSection (section (word_of k) place at trees))
body_sound key.Domain place at trees =
    alone_sound IsIdent (λ xs s. IsProblemSection (section (codes "domain") place at xs) s) place in_problem.Domain shape.ident
    (λ tree name is. domain place at tree name is) ident_sound trees
body_sound key.Requirements place at trees =
    requirements_sound (IsProblemSection (section (codes "requirements") place at trees)) in_problem.Requirements trees
    (λ are. problem_requirements place at trees are)
body_sound key.Objects place at trees =
    sound_over (AreListed trees) (IsProblemSection (section (codes "objects") place at trees)) in_problem.Objects
    (typed_list item.Name place trees)
    (λ groups are. objects place at trees groups are) (sound_of (AreListed trees) (typed_list item.Name place trees)
    (names_spelled place trees))
body_sound key.Init place at trees =
    sound_over (AreInits trees) (IsProblemSection (section (codes "init") place at trees)) in_problem.Init (all (map start.initial trees))
    (λ members are. init place at trees members are) (sound_of (AreInits trees) (all (map start.initial trees)) (inits_spelled trees))
body_sound key.Goal place at trees =
    alone_sound IsCondition (λ xs s. IsProblemSection (section (codes "goal") place at xs) s) place in_problem.Goal condition
    (λ tree f is. goal place at tree f is) condition_sound trees
body_sound key.Constraints place at trees =
    alone_sound IsWholeConstraint (λ xs s. IsProblemSection (section
    (codes "constraints") place at xs) s) place in_problem.Constraints whole_constraint
    (λ tree c is. problem_constraints place at tree c is) whole_constraint_sound trees
body_sound key.Metric place at trees =
    sound_over (IsMetric trees) (IsProblemSection (section (codes "metric") place at trees)) in_problem.Metric (start.metric place trees)
    (λ m is. metric place at trees m is) (sound_of (IsMetric trees) (start.metric place trees) (metric_spelled place trees))

-- a section that is new
abbrev IsNext : List Sexp → Sexp → ProblemSection → Type 0
IsNext before tree s = IsProblemSection tree s × IsNew before tree

new_is : (own : List ℕ) (before : List Sexp) (place at : Place) (trees : List Sexp) → has_section own before ≡ false
    → IsNew before (section own place at trees)
new_is own before place at trees e word is = subst (λ w. has_section w before ≡ false) (begins_same word own place at trees is) e

key_sound : (k : ProblemKey) (before : List Sexp) (place at : Place) (trees : List Sexp)
    → Sound (problem_known (Some k) (word_of k) before place trees) (IsNext before (section (word_of k) place at trees))
key_sound k before place at trees =
    sound_if (IsNext before (section (word_of k) place at trees)) (has_section (word_of k) before) (rejected (Duplicate place) [])
    (problem_body k place trees) (λ e. tt) (λ e.
    sound_map (IsProblemSection (section (word_of k) place at trees)) (IsNext before (section (word_of k) place at trees))
    (problem_body k place trees)
    (λ s is. (is, new_is (word_of k) before place at trees e)) (body_sound k place at trees))

known_sound : (found : Option ProblemKey) (word : List ℕ) (before : List Sexp) (place at : Place) (trees : List Sexp) → IsKey word found
    → Sound (problem_known found word before place trees) (IsNext before (section word place at trees))
known_sound None word before place at trees is = tt
known_sound (Some k) word before place at trees is =
    subst (λ w. Sound (problem_known (Some k) w before place trees) (IsNext before (section w place at trees))) (sym is)
    (key_sound k before place at trees)

named_sound : (found : Option (List ℕ)) (before : List Sexp) (place : Place) (head : Sexp) (trees : List Sexp) → IsFound head found
    → Sound (problem_named found before place head trees) (IsNext before (Group place (head ∷ trees)))
named_sound None before place head trees is = tt
named_sound (Some word) before place head trees is =
    subst (λ h. Sound (problem_known (problem_key word) word before place trees) (IsNext before (Group place (h ∷ trees)))) (sym is.is)
    (known_sound (problem_key word) word before place is.at trees (key_is word))

in_section_sound : (before : List Sexp) (place : Place) (items : List Sexp)
    → Sound (in_problem_section before place items) (IsNext before (Group place items))
in_section_sound before place [] = tt
in_section_sound before place (head ∷ trees) = named_sound (keyword_of head) before place head trees (found_is head)

problem_section_sound : (before : List Sexp) (tree : Sexp) → Sound (problem_section before tree) (IsNext before tree)
problem_section_sound before tree = sound_bracket (IsNext before) (in_problem_section before) (in_section_sound before) tree

-- sections, none of which is after another of its keyword
abbrev pub AreNext : List Sexp → List Sexp → List ProblemSection → Type 0
AreNext before trees ss = AreProblemSections trees ss × ((word : List ℕ) → AtMostOnce word before → AtMostOnce word (before ++ trees))

pub problem_sections_sound : (before trees : List Sexp) → Sound (problem_sections before trees) (AreNext before trees)
problem_sections_sound before [] = (no_problem_sections, λ word once. rw append-nil once)
problem_sections_sound before (tree ∷ trees) =
    sound_two (IsNext before tree) (AreNext (before ++ tree ∷ []) trees) (AreNext before (tree ∷ trees)) (λ s ss. s ∷ ss)
    (problem_section before tree)
    (problem_sections (before ++ tree ∷ []) trees)
    (λ s ss is are. (
      more_problem_sections tree s trees ss is.0 are.0,
      λ word once.
          subst (AtMostOnce word) (append_assoc before (tree ∷ []) trees) (are.1 word (once_more word before tree once (is.1 word))),
    ))
    (problem_section_sound before tree) (problem_sections_sound (before ++ tree ∷ []) trees)
