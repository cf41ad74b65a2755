-- Written constraints and metrics are read as they are.
use Rattle.std.proofs.Common.{◌≡◌, ℕ, Bool, true, false, List, [], ◌∷◌, ◌++◌, refl, ap, append-nil}
use Rattle.std.specs.Prelude.{codes, flat_map, if◌then◌else◌}
use Rattle.up_text.specs.declared.place.Place.{Place}
use Rattle.up_text.specs.Lists.{Every}
use Rattle.up_tree.specs.declared.term.Typed.{Typed}
use Rattle.up_tree.specs.declared.formula.Formula.{Formula}
use Rattle.up_tree.specs.declared.problem.Rule.{Rule}
use Rattle.up_tree.specs.declared.problem.Rule.TheVariants as rule
use Rattle.up_tree.specs.declared.problem.Constraint.{Constraint}
use Rattle.up_tree.specs.declared.problem.Metric.{Metric}
use Rattle.up_tree.specs.declared.problem.Parts.{Parts}
use Rattle.up_tree.specs.WellFormed as tree
use Rattle.up_tree.specs.WellFormed.{AreVariables, IsPlain, IsConstraint, formulas_of}
use Rattle.pddl_lex.specs.declared.tree.TokenKind.{TokenKind}
use Rattle.pddl_lex.specs.declared.tree.TokenKind.TheVariants as kind
use Rattle.pddl_lex.specs.declared.tree.Sexp.{Sexp, Group}
use Rattle.pddl_lex.specs.Parses.{parsed}
use Rattle.pddl_parse.specs.declared.raw.RawMetric.{RawMetric}
use Rattle.pddl_parse.specs.declared.raw.RawFormula.{RawFormula}
use Rattle.pddl_parse.specs.declared.raw.RawConstraint as raw
use Rattle.pddl_parse.specs.declared.raw.RawConstraint.{RawConstraint}
use Rattle.pddl_parse.specs.declared.head.ConstraintHead.TheVariants as head
use Rattle.pddl_parse.specs.declared.head.Single.{Single}
use Rattle.pddl_parse.specs.declared.head.Single.TheVariants as single
use Rattle.pddl_parse.specs.declared.head.Paired.{Paired}
use Rattle.pddl_parse.specs.declared.head.Paired.TheVariants as paired
use Rattle.pddl_parse.specs.Constraints as parse
use Rattle.pddl_parse.specs.Brackets.{is_word}
use Rattle.pddl_parse.specs.Starts.{metric, minimizes}
use Rattle.pddl_parse.specs.Forms.{leaf}
use Rattle.pddl_parse.proofs.Nodes.{constraint-Group, constraint_head-Leaf, is_empty-Group}
use Rattle.pddl_parse.proofs.Read.{formula_read, term_read}
use Rattle.roundtrip_tokens.specs.Tokens.{group, variables_tokens, expr_tokens, formula_tokens}
use Rattle.roundtrip_tokens.specs.EffectTokens.{for_each_tokens, rule_tokens, constraint_tokens}
use Rattle.roundtrip_shapes.specs.Raw.{IsEmpty, AreRawGroups, IsRawFormula, IsRawExpr}
use Rattle.roundtrip_shapes.proofs.Trees.{rowed_as, Alone, alone, Pair, pair, alone_rowed, pair_rowed, Bracket, bracket, Led, led, led_rowed}
use Rattle.roundtrip_shapes.specs.Formed.{AllNamed}
use Rattle.roundtrip_shapes.proofs.Names.{AreNamed}
use Rattle.roundtrip_shapes.proofs.Terms.{SpellsTerm, spells, expr_formed}
use Rattle.roundtrip_shapes.proofs.Groups.{SpellGroups, spell_groups}
use Rattle.roundtrip_shapes.proofs.Formulas.{SpellsFormula, spells_formula, worded, formula_formed, list_formed}
use Rattle.roundtrip_shapes.proofs.Rows.{variables_read}
use Rattle.roundtrip_shapes.specs.RawFiles as form
use Rattle.roundtrip_shapes.specs.RawFiles.{AreEach, IsRawRule, IsRawForall, for_all, IsRawAnd, all_of, IsRawForEach, IsRawConstraint, AreRawConstraints}
use Rattle.roundtrip_shapes.proofs.Each.{TreeOf, RowOf, row_as, ReadsOne, reads_one, ReadsAll, reads_all, each_read}

-- a tree that is read as a constraint of which this is so
abbrev Reads : (RawConstraint → Type 0) → Sexp → Type 0
Reads P tree = ReadsOne parse.constraint P tree

-- one condition after a word, and two
one_made : (word : List ℕ) (s : Single) → parse.constraint_word word ≡ head.Single s → (F : RawFormula → Type 0) (C : RawConstraint → Type 0)
    → ((f : RawFormula) → F f → C (parse.of_one s f)) → (place there : Place) (rest : List Sexp) → Alone (SpellsFormula F) rest
    → Reads C (Group place (leaf (kind.Word word) there ∷ rest))
one_made word s says F C each place there _ (alone tree (spells_formula f is so)) =
    reads_one (parse.of_one s f)
    (rw (constraint-Group place (leaf (kind.Word word) there ∷ tree ∷ []), constraint_head-Leaf, says, formula_read tree f is) refl) (each f so)

two_made : (word : List ℕ) (s : Paired) → parse.constraint_word word ≡ head.Paired s → (F G : RawFormula → Type 0) (C : RawConstraint → Type 0)
    → ((f g : RawFormula) → F f → G g → C (parse.of_two s f g)) → (place there : Place) (rest : List Sexp) → Pair (SpellsFormula F) (SpellsFormula G) rest
    → Reads C (Group place (leaf (kind.Word word) there ∷ rest))
two_made word s says F G C each place there _ (pair one two (spells_formula f is_f so) (spells_formula g is_g also)) =
    reads_one (parse.of_two s f g)
    (rw (constraint-Group place (leaf (kind.Word word) there ∷ one ∷ two ∷ []), constraint_head-Leaf, says, formula_read one f is_f, formula_read two g is_g) refl)
    (each f g so also)

each_made : (typed : Bool) (vars : List Typed) (C : RawConstraint → Type 0) (place there : Place) (rest : List Sexp) → Pair (Bracket (SpellGroups typed vars)) (Reads C) rest
    → Reads (IsRawForall (AreRawGroups typed vars) C) (Group place (leaf (kind.Word (codes "forall")) there ∷ rest))
each_made typed vars C place there _ (pair _ two (bracket at_vars trees (spell_groups groups are raws)) (reads_one c is so)) =
    reads_one (raw.Forall groups c)
    (rw (constraint-Group place (leaf (kind.Word (codes "forall")) there ∷ Group at_vars trees ∷ two ∷ []), constraint_head-Leaf, variables_read at_vars trees groups are, is) refl)
    (for_all groups c raws so)

-- a constraint of which this is so, which isn't `()`
pub data ReadsWhole (P : RawConstraint → Type 0) (tree : Sexp) : Type 0 where
  reads_whole : (c : RawConstraint) → parse.whole_constraint tree ≡ parsed c → P c → ReadsWhole P tree

all_made : (Cs : List RawConstraint → Type 0) (place there : Place) (rest : List Sexp) → ReadsAll parse.constraint Cs rest
    → ReadsWhole (IsRawAnd Cs) (Group place (leaf (kind.Word (codes "and")) there ∷ rest))
all_made Cs place there rest (reads_all cs are so) =
    reads_whole (raw.And cs)
    (rw (is_empty-Group place (leaf (kind.Word (codes "and")) there ∷ rest), constraint-Group place (leaf (kind.Word (codes "and")) there ∷ rest), constraint_head-Leaf, are) refl)
    (all_of cs so)

module _ (p : Parts) (names : AreNamed p) (objects_named : AllNamed p.objects) (typed : Bool) where
  module _ (vars : List Typed) (vs : AllNamed vars) where
    formula_at : (f : Formula) → tree.IsFormula p p.objects vars f → TreeOf (formula_tokens typed f) (SpellsFormula (IsRawFormula typed f))
    formula_at f is = formula_formed p names p.objects objects_named typed vars vs f is

    one_read : (word : List ℕ) (s : Single) → parse.constraint_word word ≡ head.Single s → (f : Formula) → tree.IsFormula p p.objects vars f
        → (C : RawConstraint → Type 0) → ((raw : RawFormula) → IsRawFormula typed f raw → C (parse.of_one s raw))
        → TreeOf (group (kind.Word word ∷ (formula_tokens typed f ++ []))) (Reads C)
    one_read word s says f is C each =
        worded word (formula_tokens typed f ++ []) (Alone (SpellsFormula (IsRawFormula typed f)))
        (row_as (append-nil (formula_tokens typed f)) (λ back there. alone_rowed (formula_at f is back there)))
        (Reads C) (one_made word s says (IsRawFormula typed f) C each)

    two_read : (word : List ℕ) (s : Paired) → parse.constraint_word word ≡ head.Paired s → (f g : Formula) → tree.IsFormula p p.objects vars f → tree.IsFormula p p.objects vars g
        → (C : RawConstraint → Type 0) → ((one two : RawFormula) → IsRawFormula typed f one → IsRawFormula typed g two → C (parse.of_two s one two))
        → TreeOf (group (kind.Word word ∷ (formula_tokens typed f ++ (formula_tokens typed g ++ [])))) (Reads C)
    two_read word s says f g is also C each =
        worded word (formula_tokens typed f ++ (formula_tokens typed g ++ [])) (Pair (SpellsFormula (IsRawFormula typed f)) (SpellsFormula (IsRawFormula typed g)))
        (row_as (ap (λ (more : List TokenKind). formula_tokens typed f ++ more) (append-nil (formula_tokens typed g)))
        (pair_rowed (SpellsFormula (IsRawFormula typed f)) (SpellsFormula (IsRawFormula typed g)) (formula_tokens typed f) (formula_tokens typed g) (formula_at f is) (formula_at g also)))
        (Reads C) (two_made word s says (IsRawFormula typed f) (IsRawFormula typed g) C each)

    rule_read : (r : Rule) → Every (λ f. tree.IsFormula p p.objects vars f × IsPlain f) (formulas_of r) → TreeOf (rule_tokens typed r) (Reads (IsRawRule typed r))
    rule_read (rule.Always f) is = one_read (codes "always") single.Always refl f is.0.0 (IsRawRule typed (rule.Always f)) (form.always f)
    rule_read (rule.Sometime f) is = one_read (codes "sometime") single.Sometime refl f is.0.0 (IsRawRule typed (rule.Sometime f)) (form.sometime f)
    rule_read (rule.AtMostOnce f) is = one_read (codes "at-most-once") single.AtMostOnce refl f is.0.0 (IsRawRule typed (rule.AtMostOnce f)) (form.at_most_once f)
    rule_read (rule.SometimeAfter f g) is =
        two_read (codes "sometime-after") paired.SometimeAfter refl f g is.0.0 is.1.0.0 (IsRawRule typed (rule.SometimeAfter f g)) (form.sometime_after f g)
    rule_read (rule.SometimeBefore f g) is =
        two_read (codes "sometime-before") paired.SometimeBefore refl f g is.0.0 is.1.0.0 (IsRawRule typed (rule.SometimeBefore f g)) (form.sometime_before f g)

  for_each_read : (vars : List Typed) → AreVariables p [] vars → (C : RawConstraint → Type 0) (ks : List TokenKind) → TreeOf ks (Reads C)
      → TreeOf (for_each_tokens typed vars ks) (Reads (IsRawForEach typed vars C))
  for_each_read [] are C ks inner = inner
  for_each_read (v ∷ vars) are C ks inner =
      worded (codes "forall") (group (variables_tokens typed (v ∷ vars)) ++ ks) (Pair (Bracket (SpellGroups typed (v ∷ vars))) (Reads C))
      (pair_rowed (Bracket (SpellGroups typed (v ∷ vars))) (Reads C) (group (variables_tokens typed (v ∷ vars))) ks
      (list_formed p names p.objects objects_named typed [] (v ∷ vars) are) inner)
      (Reads (IsRawForEach typed (v ∷ vars) C)) (each_made typed (v ∷ vars) C)

  constraint_read : (c : Constraint) → IsConstraint p c → TreeOf (constraint_tokens typed c) (Reads (IsRawConstraint typed c))
  constraint_read c is = for_each_read c.vars is.vars (IsRawRule typed c.rule) (rule_tokens typed c.rule) (rule_read c.vars is.vars.names_all c.rule is.formulas)

  all_read : (cs : List Constraint) → Every (IsConstraint p) cs → TreeOf (group (kind.Word (codes "and") ∷ flat_map (constraint_tokens typed) cs)) (ReadsWhole (AreRawConstraints typed cs))
  all_read cs are =
      worded (codes "and") (flat_map (constraint_tokens typed) cs) (ReadsAll parse.constraint (AreEach (IsRawConstraint typed) cs IsEmpty))
      (each_read parse.constraint (constraint_tokens typed) (IsRawConstraint typed) (IsConstraint p) constraint_read cs are)
      (ReadsWhole (AreRawConstraints typed cs)) (all_made (AreEach (IsRawConstraint typed) cs IsEmpty))

  -- what stands in the section of the constraints
  pub constraints_read : (cs : List Constraint) → Every (IsConstraint p) cs
      → RowOf (group (kind.Word (codes "and") ∷ flat_map (constraint_tokens typed) cs)) (Alone (ReadsWhole (AreRawConstraints typed cs)))
  constraints_read cs are tokens kinds = alone_rowed (all_read cs are tokens kinds)

-- ---- the metric

-- trees that are read, as those of a section, as a metric
pub data ReadsMetric (m : Metric) (trees : List Sexp) : Type 0 where
  reads_metric : (r : RawMetric) → ((place : Place) → metric place trees ≡ parsed r) → r.minimize ≡ m.minimize → IsRawExpr m.value r.value → ReadsMetric m trees

sense_read : (minimize : Bool) (there : Place) → minimizes (leaf (kind.Word (if minimize then codes "minimize" else codes "maximize")) there) ≡ parsed minimize
unfolding is_word
sense_read true there = refl
sense_read false there = refl

pub metric_read : (p : Parts) → AreNamed p → AllNamed p.objects → (m : Metric) → tree.IsExpr p p.objects [] m.value
    → RowOf (kind.Word (if m.minimize then codes "minimize" else codes "maximize") ∷ expr_tokens m.value) (ReadsMetric m)
metric_read p names objects_named m is tokens kinds =
    rowed_as
    (led_rowed (kind.Word (if m.minimize then codes "minimize" else codes "maximize")) refl (expr_tokens m.value) (Alone (SpellsTerm (IsRawExpr m.value)))
    (λ back there. alone_rowed (expr_formed p names p.objects objects_named [] tt m.value is back there)) tokens kinds)
    made
  where
    made : (trees : List Sexp) → Led (kind.Word (if m.minimize then codes "minimize" else codes "maximize")) (Alone (SpellsTerm (IsRawExpr m.value))) trees → ReadsMetric m trees
    made _ (led there _ (alone tree (spells t is_t so))) =
        reads_metric (record { minimize = m.minimize; value = t }) (λ place. rw (sense_read m.minimize there, term_read tree t is_t) refl) refl so
