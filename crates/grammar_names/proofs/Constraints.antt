-- A raw constraint denotes constraints exactly where it is read as them.
use Rattle.std.proofs.Common.{◌≡◌, List, [], ◌∷◌, ◌++◌, map, refl}
use Rattle.up_text.specs.Lists.{Every}
use Rattle.pddl_lex.specs.Parses.{parsed}
use Rattle.pddl_parse.specs.declared.raw.RawFormula.{RawFormula}
use Rattle.pddl_parse.specs.declared.raw.RawConstraint.{RawConstraint, Row_of-RawConstraint, end_of-RawConstraint, more_of-RawConstraint, items-the_row-RawConstraint}
use Rattle.pddl_parse.specs.declared.raw.RawConstraint as raw
use Rattle.pddl_parse.proofs.Spelled.{Sound, sound_over, sound_two}
use Rattle.up_tree.specs.declared.formula.Formula.{Formula}
use Rattle.up_tree.specs.declared.problem.Constraint.{Constraint}
use Rattle.up_tree.specs.declared.problem.Rule.{Rule}
use Rattle.up_tree.specs.declared.problem.Rule.TheVariants as rule
use Rattle.up_phrase.specs.Declarations.{Declarations}
use Rattle.up_phrase.specs.declared.term.Setting.TheVariants as setting
use Rattle.up_phrase.specs.Conditions.{formula}
use Rattle.up_phrase.specs.Scopes.{Variables, entered_groups}
use Rattle.up_check.specs.Constraints.{for_each, ruled, pair, two, ruled_two, joined, constraints, each}
use Rattle.up_check.specs.Nodes.{forall, built}
use Rattle.grammar_names.specs.Phrases.{Enters, DenotesFormula}
use Rattle.grammar_names.specs.Constraints.{DenotesRule, an_always, a_sometime, an_at_most_once, a_sometime_after, a_sometime_before, DenoteConstraints, of_rule, of_and, of_forall, DenoteMembers, no_members, more_members}
use Rattle.grammar_shapes.proofs.Parses.{sound_map, sound_is}
use Rattle.grammar_names.proofs.Parses.{sound_after}
use Rattle.grammar_names.proofs.Conditions.{formula_read, formula_denotes, entered_read, entered_enters}
use Rattle.grammar_names.proofs.ConstraintNodes.{and_built, each-items, constraints-And, constraints-Forall}
use Rattle.grammar_shapes.proofs.Walks.{sound_of}

module _ (names : Declarations) where
  -- ---- what is denoted is read

  rule_read : (vars : Variables) (one : RawConstraint) (made : Rule) → DenotesRule names vars one made
      → constraints names vars one ≡ parsed (for_each vars made)
  unfolding constraints
  rule_read vars _ _ (an_always one f is) = rw (formula_read names vars setting.Constraint one f is) refl
  rule_read vars _ _ (a_sometime one f is) = rw (formula_read names vars setting.Constraint one f is) refl
  rule_read vars _ _ (an_at_most_once one f is) = rw (formula_read names vars setting.Constraint one f is) refl
  rule_read vars _ _ (a_sometime_after one other f g is so) =
      rw (formula_read names vars setting.Constraint one f is, formula_read names vars setting.Constraint other g so) refl
  rule_read vars _ _ (a_sometime_before one other f g is so) =
      rw (formula_read names vars setting.Constraint one f is, formula_read names vars setting.Constraint other g so) refl

  mutual
    pub constraints_read : (vars : Variables) (one : RawConstraint) (cs : List Constraint) → DenoteConstraints names vars one cs
        → constraints names vars one ≡ parsed cs
    constraints_read _ _ _ (of_rule vars one made is) = rule_read vars one made is
    constraints_read _ _ _ (of_and vars members cs are) = rw (constraints-And names vars members) (members_read vars members cs are)
    constraints_read _ _ _ (of_forall vars inner groups body cs enter is) =
        rw (constraints-Forall names vars groups body, entered_read names [] groups vars inner enter) (constraints_read inner body cs is)

    members_read : (vars : Variables) (members : List RawConstraint) (cs : List Constraint) → DenoteMembers names vars members cs
        → joined (map (constraints names vars) members) ≡ parsed cs
    members_read _ _ _ (no_members vars) = refl
    members_read _ _ _ (more_members vars one members cs ds is others) =
        rw (constraints_read vars one cs is, members_read vars members ds others) refl

  -- ---- what is read is denoted

  abbrev Denotes : Variables → RawFormula → Formula → Type 0
  Denotes vars f g = DenotesFormula names vars setting.Constraint f g

  formula_sound : (vars : Variables) (f : RawFormula) → Sound (formula names vars setting.Constraint f) (Denotes vars f)
  formula_sound vars f =
      sound_of (Denotes vars f) (formula names vars setting.Constraint f) (formula_denotes names vars setting.Constraint f)

  one_sound : (vars : Variables) (one : RawConstraint) (made : Formula → Rule) (f : RawFormula)
      → ((g : Formula) → Denotes vars f g → DenotesRule names vars one (made g))
      → Sound (ruled names vars made f) (DenoteConstraints names vars one)
  one_sound vars one made f so =
      sound_over (Denotes vars f) (DenoteConstraints names vars one) (λ (g : Formula). for_each vars (made g))
      (formula names vars setting.Constraint f)
      (λ g is. of_rule vars one (made g) (so g is)) (formula_sound vars f)

  two_sound : (vars : Variables) (one : RawConstraint) (made : Formula → Formula → Rule) (f other : RawFormula)
      → ((g h : Formula) → Denotes vars f g → Denotes vars other h → DenotesRule names vars one (made g h))
      → Sound (ruled_two names vars made f other) (DenoteConstraints names vars one)
  two_sound vars one made f other so =
      sound_over (λ (both : Formula × Formula). Denotes vars f both.0 × Denotes vars other both.1) (DenoteConstraints names vars one)
      (λ (both : Formula × Formula). for_each vars (made both.0 both.1)) (two names vars f other)
      (λ both is. of_rule vars one (made both.0 both.1) (so both.0 both.1 is.0 is.1))
      (sound_two (Denotes vars f) (Denotes vars other) (λ (both : Formula × Formula). Denotes vars f both.0 × Denotes vars other both.1)
      pair (formula names vars setting.Constraint f) (formula names vars setting.Constraint other) (λ g h is also. (is, also))
      (formula_sound vars f) (formula_sound vars other))

  abbrev AreSound : Variables → RawConstraint → Type 0
  AreSound vars one = Sound (constraints names vars one) (DenoteConstraints names vars one)

  members_sound : (vars : Variables) (members : List RawConstraint) → Every (AreSound vars) members
      → Sound (joined (map (constraints names vars) members)) (DenoteMembers names vars members)
  members_sound vars [] are = no_members vars
  members_sound vars (one ∷ members) are =
      sound_two (DenoteConstraints names vars one) (DenoteMembers names vars members) (DenoteMembers names vars (one ∷ members))
      (λ cs ds. cs ++ ds)
      (constraints names vars one) (joined (map (constraints names vars) members))
      (λ cs ds is others. more_members vars one members cs ds is others)
      are.0 (members_sound vars members are.1)

  and_sound : (vars : Variables) (members : List RawConstraint) → Every (AreSound vars) members
      → Sound (joined (map (constraints names vars) members)) (DenoteConstraints names vars (raw.And members))
  and_sound vars members are =
      sound_map (DenoteMembers names vars members) (DenoteConstraints names vars (raw.And members))
      (joined (map (constraints names vars) members))
      (λ cs so. of_and vars members cs so) (members_sound vars members are)

  mutual
    unfolding constraints each built

    constraints_sound : (one : RawConstraint) (vars : Variables) → Sound (constraints names vars one) (DenoteConstraints names vars one)
    constraints_sound (raw.And' n members) vars =
        rw (and_built n members, each-items names vars members)
        (and_sound vars (items-the_row-RawConstraint _ members) (each_sound members vars))
    constraints_sound (forall groups body) vars =
        sound_after (λ inner. Enters names [] groups vars inner) (DenoteConstraints names vars (raw.Forall groups body))
        (entered_groups names [] groups vars)
        (λ (inner : Variables). constraints names inner body)
        (sound_of (λ inner. Enters names [] groups vars inner) (entered_groups names [] groups vars)
        (entered_enters names [] groups vars)) (λ inner enter.
        sound_map (DenoteConstraints names inner body) (DenoteConstraints names vars (raw.Forall groups body)) (constraints names inner body)
        (λ cs is. of_forall vars inner groups body cs enter is) (constraints_sound body inner))
    constraints_sound (raw.Always f) vars = one_sound vars (raw.Always f) rule.Always f (λ g is. an_always f g is)
    constraints_sound (raw.Sometime f) vars = one_sound vars (raw.Sometime f) rule.Sometime f (λ g is. a_sometime f g is)
    constraints_sound (raw.AtMostOnce f) vars = one_sound vars (raw.AtMostOnce f) rule.AtMostOnce f (λ g is. an_at_most_once f g is)
    constraints_sound (raw.SometimeAfter f g) vars =
        two_sound vars (raw.SometimeAfter f g) rule.SometimeAfter f g (λ a b is so. a_sometime_after f g a b is so)
    constraints_sound (raw.SometimeBefore f g) vars =
        two_sound vars (raw.SometimeBefore f g) rule.SometimeBefore f g (λ a b is so. a_sometime_before f g a b is so)

    each_sound : {n : _} (members : Row_of-RawConstraint n) (vars : Variables)
        → Every (AreSound vars) (items-the_row-RawConstraint _ members)
    each_sound end_of-RawConstraint vars = tt
    each_sound (more_of-RawConstraint one members) vars = (constraints_sound one vars, each_sound members vars)

  pub constraints_denote : (vars : Variables) (one : RawConstraint) (cs : List Constraint) → constraints names vars one ≡ parsed cs
      → DenoteConstraints names vars one cs
  constraints_denote vars one cs e =
      sound_is (DenoteConstraints names vars one) (constraints names vars one) cs (constraints_sound one vars) e
