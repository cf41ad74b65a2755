-- A raw condition is read as a condition exactly where it denotes it.
use Rattle.std.proofs.Common.{◌≡◌, Bool, true, false, if◌then◌else◌, List, [], ◌∷◌, ◌++◌, append_assoc, append-nil, map, Option, Some, None, refl, ap, sym, ◌∙◌, subst}
use Rattle.std.specs.Prelude.{◌≢◌, not as negated}
use Rattle.std.proofs.Math.Seq.{drop-append_seam}
use Rattle.up_text.specs.declared.name.Name.{Name}
use Rattle.up_text.specs.declared.place.Place.{Place}
use Rattle.up_text.specs.Lists.{Every}
use Rattle.pddl_lex.specs.Parses.{parsed, rejected, over, over_two, all}
use Rattle.pddl_parse.specs.declared.raw.Ident.{Ident}
use Rattle.pddl_parse.specs.declared.raw.Relation as raw_relation
use Rattle.pddl_parse.specs.declared.raw.Relation.TheVariants as stated
use Rattle.pddl_parse.specs.declared.raw.RawGroup.{RawGroup}
use Rattle.pddl_parse.specs.declared.raw.RawTerm.{RawTerm}
use Rattle.pddl_parse.specs.declared.raw.RawFormula.{RawFormula, Row_of-RawFormula, end_of-RawFormula, more_of-RawFormula, items-the_row-RawFormula}
use Rattle.pddl_parse.specs.declared.raw.RawFormula as form
use Rattle.pddl_parse.proofs.Spelled.{Sound, sound_over, sound_two, sound_behind}
use Rattle.up_tree.specs.declared.formula.Formula.{Formula, And, Or, Not, Imply, Exists, Forall, Atom, Equal, Compare}
use Rattle.up_tree.specs.declared.term.Term.{Term}
use Rattle.up_tree.specs.declared.term.Typed.{Typed}
use Rattle.up_phrase.specs.declared.reason.Reason.TheVariants.{Duplicate, UnknownName}
use Rattle.up_phrase.specs.declared.term.Setting.{Setting}
use Rattle.up_phrase.specs.declared.term.Setting.TheVariants as setting
use Rattle.up_phrase.specs.Declarations.{Declarations}
use Rattle.up_phrase.specs.Named.{at}
use Rattle.up_phrase.specs.Lookups.{predicate_of, is_type}
use Rattle.up_phrase.specs.Scopes.{Variables, is_taken, entered, entered_groups, type_named, type_fault, typed}
use Rattle.up_phrase.specs.Terms.{arguments, term}
use Rattle.up_phrase.specs.Exprs.{expr}
use Rattle.up_phrase.specs.Conditions.{predicate, atom_args, is_numeric, is_equality, relation_of, equality, comparison, compared, bound, quantifier, formula, formulas}
use Rattle.up_phrase.specs.Nodes.{not, imply, exists, forall, built}
use Rattle.grammar_names.specs.Phrases.{HasType, unstated, of_type, EnterNames, no_names, more_names, Enters, no_groups, more_groups, DenotesTerm, DenoteArguments, DenotesAtom, of_predicate, DenotesExpr, DenotesFormula, of_and, of_or, of_not, of_imply, of_exists, of_forall, an_atom, an_equality, a_comparison, DenoteFormulas, no_formulas, more_formulas}
use Rattle.up_phrase.proofs.FormulaNodes.{formula-And, formula-Or, formula-Not, formula-Imply, formula-Exists, formula-Forall, formula-Atom, formula-Compare}
use Rattle.grammar_names.proofs.Nodes.{and_built, or_built, formulas-items}
use Rattle.grammar_names.proofs.Terms.{term_read, term_sound, arguments_read, arguments_sound, all_sound as terms_sound}
use Rattle.grammar_names.proofs.Exprs.{expr_read, expr_sound}
use Rattle.grammar_shapes.proofs.Parses.{sound_map, sound_is}
use Rattle.grammar_names.proofs.Parses.{sound_after, none_of, holds}

-- ---- variables

module _ (barred : List Name) (of : Name) where
  names_read : (items : List Ident) (vars more : Variables) → EnterNames barred of items vars more → entered barred of items vars ≡ parsed more
  names_read _ _ _ (no_names vars) = refl
  names_read _ _ _ (more_names it others vars more free enter) = rw free (names_read others (vars ++ (it.name, of) ∷ []) more enter)

  names_sound : (items : List Ident) (vars : Variables) → Sound (entered barred of items vars) (EnterNames barred of items vars)
  names_sound [] vars = no_names vars
  names_sound (it ∷ others) vars = by (is_taken barred vars it.name) refl (names_sound others (vars ++ (it.name, of) ∷ []))
    where
      by : (taken : Bool) → is_taken barred vars it.name ≡ taken
          → Sound (entered barred of others (vars ++ (it.name, of) ∷ [])) (EnterNames barred of others (vars ++ (it.name, of) ∷ []))
          → Sound (if taken then rejected (at it.place Duplicate it.name) [] else entered barred of others (vars ++ (it.name, of) ∷ []))
          (EnterNames barred of (it ∷ others) vars)
      by true is rest = tt
      by false free rest =
          sound_map (EnterNames barred of others (vars ++ (it.name, of) ∷ [])) (EnterNames barred of (it ∷ others) vars) _
          (λ more enter. more_names it others vars more free enter) rest

  names_grow : (items : List Ident) (vars more : Variables) → EnterNames barred of items vars more → (added : Variables) × (more ≡ vars ++ added)
  names_grow _ _ _ (no_names vars) = ([], sym (append-nil vars))
  names_grow _ _ _ (more_names it others vars more free enter) =
      let (added, is) = names_grow others (vars ++ (it.name, of) ∷ []) more enter in
      ((it.name, of) ∷ added, is ∙ append_assoc vars ((it.name, of) ∷ []) added)

module _ (names : Declarations) (barred : List Name) where
  type_read : (stated : Option Ident) (of : Name) → HasType names stated of → type_named stated ≡ of
  type_read _ _ unstated = refl
  type_read _ _ (of_type it is) = refl

  type_known : (stated : Option Ident) (of : Name) → HasType names stated of → type_fault names stated ≡ []
  type_known _ _ unstated = refl
  type_known _ _ (of_type it is) = none_of (is_type names it.name) (at it.place UnknownName it.name) is

  type_had : (stated : Option Ident) → type_fault names stated ≡ [] → HasType names stated (type_named stated)
  type_had None none = unstated
  type_had (Some it) none = of_type it (holds (is_type names it.name) _ none)

  pub entered_read : (groups : List RawGroup) (vars more : Variables) → Enters names barred groups vars more → entered_groups names barred groups vars ≡ parsed more
  entered_read _ _ _ (no_groups vars) = refl
  entered_read _ _ _ (more_groups group of others vars inner more has enter rest) =
      rw (type_read group.of of has, names_read barred of group.names vars inner enter, type_known group.of of has) (entered_read others inner more rest)

  pub entered_sound : (groups : List RawGroup) (vars : Variables) → Sound (entered_groups names barred groups vars) (Enters names barred groups vars)
  entered_sound [] vars = no_groups vars
  entered_sound (group ∷ others) vars =
      sound_after (EnterNames barred (type_named group.of) group.names vars) (Enters names barred (group ∷ others) vars) _ _
      (names_sound barred (type_named group.of) group.names vars) (λ inner enter.
      sound_behind (Enters names barred (group ∷ others) vars) (type_fault names group.of) _ (λ none.
      sound_map (Enters names barred others inner) (Enters names barred (group ∷ others) vars) _
      (λ more rest. more_groups group (type_named group.of) others vars inner more (type_had group.of none) enter rest) (entered_sound others inner)))

  pub entered_enters : (groups : List RawGroup) (vars more : Variables) → entered_groups names barred groups vars ≡ parsed more → Enters names barred groups vars more
  entered_enters groups vars more e =
      sound_is (Enters names barred groups vars) (entered_groups names barred groups vars) more (entered_sound groups vars) e

  -- variables stand after those that were there
  pub entered_grow : (groups : List RawGroup) (vars more : Variables) → Enters names barred groups vars more → (added : Variables) × (more ≡ vars ++ added)
  entered_grow _ _ _ (no_groups vars) = ([], sym (append-nil vars))
  entered_grow _ _ _ (more_groups group of others vars inner more has enter rest) =
      let (one, is_one) = names_grow barred of group.names vars inner enter in
      let (two, is_two) = entered_grow others inner more rest in
      (one ++ two, is_two ∙ ap (λ vs. vs ++ two) is_one ∙ append_assoc vars one two)

pub bound_is : (vars added : Variables) → bound vars (vars ++ added) ≡ map typed added
bound_is vars added = ap (map typed) (drop-append_seam vars added)

module _ (names : Declarations) where
  abbrev Denotes : Variables → Setting → RawFormula → Formula → Type 0
  Denotes vars s raw f = DenotesFormula names vars s raw f

  -- ---- atoms

  pub atom_read : (vars : Variables) (s : Setting) (place : Place) (p : Ident) (args : List RawTerm) (ts : List Term)
      → DenotesAtom names vars s p args ts → atom_args names vars s place p args ≡ parsed ts
  atom_read vars s place p args ts (of_predicate types is are) = rw is (arguments_read names vars s place p.name types args ts are)

  predicate_sound : (p : Ident) (found : Option (List Name)) → predicate_of names p.name ≡ found
      → Sound (predicate p found) (λ types. predicate_of names p.name ≡ Some types)
  predicate_sound p None is = tt
  predicate_sound p (Some types) is = is

  pub atom_sound : (vars : Variables) (s : Setting) (place : Place) (p : Ident) (args : List RawTerm)
      → Sound (atom_args names vars s place p args) (DenotesAtom names vars s p args)
  atom_sound vars s place p args =
      sound_after (λ types. predicate_of names p.name ≡ Some types) (DenotesAtom names vars s p args) (predicate p (predicate_of names p.name))
      (arguments place p.name (map (term names vars s) args)) (predicate_sound p (predicate_of names p.name) refl) (λ types is.
      sound_map (DenoteArguments names vars s types args) (DenotesAtom names vars s p args) _ (λ ts are. of_predicate types is are)
      (arguments_sound names vars s place p.name types args (terms_sound names vars s args)))

  pub atom_denotes : (vars : Variables) (s : Setting) (place : Place) (p : Ident) (args : List RawTerm) (ts : List Term)
      → atom_args names vars s place p args ≡ parsed ts → DenotesAtom names vars s p args ts
  atom_denotes vars s place p args ts e =
      sound_is (DenotesAtom names vars s p args) (atom_args names vars s place p args) ts (atom_sound vars s place p args) e

  -- ---- comparisons

  not_equality : (r : raw_relation.Relation) (left : RawTerm) → (r ≡ stated.Same → is_numeric names left ≡ true) → is_equality names r left ≡ false
  not_equality stated.Less left h = refl
  not_equality stated.LessEqual left h = refl
  not_equality stated.Same left h = rw (h refl) refl
  not_equality stated.GreaterEqual left h = refl
  not_equality stated.Greater left h = refl

  may_compare : (vars : Variables) (s : Setting) (place : Place) (r : raw_relation.Relation) (left right : RawTerm) → s ≢ setting.Constraint
      → compared names vars s place r left right ≡ comparison names vars s r left right
  may_compare vars setting.Plain place r left right apart = refl
  may_compare vars setting.Constraint place r left right apart = absurd (apart refl)
  may_compare vars setting.Metric place r left right apart = refl

  by_negation : (b : Bool) → negated b ≡ false → b ≡ true
  by_negation true e = refl
  by_negation false e = cc

  is_numeric_same : (r : raw_relation.Relation) (left : RawTerm) → is_equality names r left ≡ false → r ≡ stated.Same → is_numeric names left ≡ true
  is_numeric_same stated.Less left e same = cc
  is_numeric_same stated.LessEqual left e same = cc
  is_numeric_same stated.Same left e same = by_negation (is_numeric names left) e
  is_numeric_same stated.GreaterEqual left e same = cc
  is_numeric_same stated.Greater left e same = cc

  comparison_sound : (vars : Variables) (s : Setting) (place : Place) (r : raw_relation.Relation) (left right : RawTerm) → s ≢ setting.Constraint
      → (r ≡ stated.Same → is_numeric names left ≡ true) → Sound (comparison names vars s r left right) (Denotes vars s (form.Compare place r left right))
  comparison_sound vars s place r left right apart numeric =
      sound_two (DenotesExpr names vars s left) (DenotesExpr names vars s right) (Denotes vars s (form.Compare place r left right)) (λ a b. Compare (relation_of r) a b)
      (expr names vars s left) (expr names vars s right) (λ a b one two. a_comparison vars s place r left right a b apart numeric one two)
      (expr_sound names vars s left) (expr_sound names vars s right)

  compared_sound : (vars : Variables) (s : Setting) (place : Place) (r : raw_relation.Relation) (left right : RawTerm)
      → (r ≡ stated.Same → is_numeric names left ≡ true) → Sound (compared names vars s place r left right) (Denotes vars s (form.Compare place r left right))
  compared_sound vars setting.Plain place r left right numeric = comparison_sound vars setting.Plain place r left right (λ e. cc) numeric
  compared_sound vars setting.Constraint place r left right numeric = tt
  compared_sound vars setting.Metric place r left right numeric = comparison_sound vars setting.Metric place r left right (λ e. cc) numeric

  equality_sound : (vars : Variables) (s : Setting) (place : Place) (left right : RawTerm) → is_numeric names left ≡ false
      → Sound (equality names vars s left right) (Denotes vars s (form.Compare place stated.Same left right))
  equality_sound vars s place left right objects =
      sound_two (DenotesTerm names vars s None left) (DenotesTerm names vars s None right) (Denotes vars s (form.Compare place stated.Same left right)) (λ t u. Equal t u)
      (term names vars s left None) (term names vars s right None) (λ t u one two. an_equality vars s place left right t u objects one two)
      (term_sound names vars s left None) (term_sound names vars s right None)

  by_equality : (b : Bool) → negated b ≡ true → b ≡ false
  by_equality false e = refl
  by_equality true e = cc

  related_sound : (vars : Variables) (s : Setting) (place : Place) (r : raw_relation.Relation) (left right : RawTerm) (equal : Bool) → is_equality names r left ≡ equal
      → Sound (if equal then equality names vars s left right else compared names vars s place r left right) (Denotes vars s (form.Compare place r left right))
  related_sound vars s place r left right false is = compared_sound vars s place r left right (is_numeric_same r left is)
  related_sound vars s place stated.Less left right true is = cc
  related_sound vars s place stated.LessEqual left right true is = cc
  related_sound vars s place stated.Same left right true is = equality_sound vars s place left right (by_equality (is_numeric names left) is)
  related_sound vars s place stated.GreaterEqual left right true is = cc
  related_sound vars s place stated.Greater left right true is = cc

  -- ---- what is denoted is read

  mutual
    pub formula_read : (vars : Variables) (s : Setting) (raw : RawFormula) (f : Formula) → DenotesFormula names vars s raw f → formula names vars s raw ≡ parsed f
    formula_read _ _ _ _ (of_and vars s members fs are) = rw (formula-And names vars s members, formulas_read vars s members fs are) refl
    formula_read _ _ _ _ (of_or vars s members fs are) = rw (formula-Or names vars s members, formulas_read vars s members fs are) refl
    formula_read _ _ _ _ (of_not vars s raw f is) = rw (formula-Not names vars s raw, formula_read vars s raw f is) refl
    formula_read _ _ _ _ (of_imply vars s one two f g is so) =
        rw (formula-Imply names vars s one two, formula_read vars s one f is, formula_read vars s two g so) refl
    formula_read _ _ _ _ (of_exists vars added s groups raw f enter is) =
        rw (
          formula-Exists names vars s groups raw,
          entered_read names [] groups vars (vars ++ added) enter,
          formula_read (vars ++ added) s raw f is,
          bound_is vars added,
        ) refl
    formula_read _ _ _ _ (of_forall vars added s groups raw f enter is) =
        rw (
          formula-Forall names vars s groups raw,
          entered_read names [] groups vars (vars ++ added) enter,
          formula_read (vars ++ added) s raw f is,
          bound_is vars added,
        ) refl
    formula_read _ _ _ _ (an_atom vars s place p args ts is) = rw (formula-Atom names vars s place p args, atom_read vars s place p args ts is) refl
    formula_read _ _ _ _ (an_equality vars s place left right t u objects one two) =
        rw (
          formula-Compare names vars s place stated.Same left right,
          objects,
          term_read names vars s None left t one,
          term_read names vars s None right u two,
        ) refl
    formula_read _ _ _ _ (a_comparison vars s place r left right a b apart numeric one two) =
        rw (
          formula-Compare names vars s place r left right,
          not_equality r left numeric,
          may_compare vars s place r left right apart,
          expr_read names vars s left a one,
          expr_read names vars s right b two,
        ) refl

    pub formulas_read : (vars : Variables) (s : Setting) (members : List RawFormula) (fs : List Formula) → DenoteFormulas names vars s members fs
        → all (map (formula names vars s) members) ≡ parsed fs
    formulas_read _ _ _ _ (no_formulas vars s) = refl
    formulas_read _ _ _ _ (more_formulas vars s member f members fs is others) = rw (formula_read vars s member f is, formulas_read vars s members fs others) refl

  -- ---- what is read is denoted

  module _ (s : Setting) where
    abbrev IsRead : Variables → RawFormula → Type 0
    IsRead vars raw = Sound (formula names vars s raw) (Denotes vars s raw)

    pub formulas_sound : (vars : Variables) (members : List RawFormula) → Every (IsRead vars) members
        → Sound (all (map (formula names vars s) members)) (DenoteFormulas names vars s members)
    formulas_sound vars [] are = no_formulas vars s
    formulas_sound vars (member ∷ members) are =
        sound_two (Denotes vars s member) (DenoteFormulas names vars s members) (DenoteFormulas names vars s (member ∷ members)) (λ f fs. f ∷ fs)
        (formula names vars s member) (all (map (formula names vars s) members)) (λ f fs is others. more_formulas vars s member f members fs is others)
        are.0 (formulas_sound vars members are.1)

    and_sound : (vars : Variables) (members : List RawFormula) → Every (IsRead vars) members
        → Sound (over And (all (map (formula names vars s) members))) (Denotes vars s (form.And members))
    and_sound vars members are =
        sound_over (DenoteFormulas names vars s members) (Denotes vars s (form.And members)) And _ (λ fs of. of_and vars s members fs of) (formulas_sound vars members are)

    or_sound : (vars : Variables) (members : List RawFormula) → Every (IsRead vars) members
        → Sound (over Or (all (map (formula names vars s) members))) (Denotes vars s (form.Or members))
    or_sound vars members are =
        sound_over (DenoteFormulas names vars s members) (Denotes vars s (form.Or members)) Or _ (λ fs of. of_or vars s members fs of) (formulas_sound vars members are)

    not_sound : (vars : Variables) (raw : RawFormula) → IsRead vars raw → Sound (over Not (formula names vars s raw)) (Denotes vars s (form.Not raw))
    not_sound vars raw is = sound_over (Denotes vars s raw) (Denotes vars s (form.Not raw)) Not _ (λ f so. of_not vars s raw f so) is

    imply_sound : (vars : Variables) (one two : RawFormula) → IsRead vars one → IsRead vars two
        → Sound (over_two Imply (formula names vars s one) (formula names vars s two)) (Denotes vars s (form.Imply one two))
    imply_sound vars one two is so =
        sound_two (Denotes vars s one) (Denotes vars s two) (Denotes vars s (form.Imply one two)) Imply _ _ (λ f g a b. of_imply vars s one two f g a b) is so

    -- variables that a quantifier brings into scope, and its body with them there
    abbrev Quantifies : Variables → List RawGroup → RawFormula → List Typed × Formula → Type 0
    Quantifies vars groups raw q =
        (added : Variables) × Enters names [] groups vars (vars ++ added) × Denotes (vars ++ added) s raw q.1 × (q.0 ≡ map typed added)

    quantifier_sound : (vars : Variables) (groups : List RawGroup) (raw : RawFormula) → ((inner : Variables) → IsRead inner raw)
        → Sound (quantifier names vars s groups raw) (Quantifies vars groups raw)
    quantifier_sound vars groups raw each =
        sound_after (Enters names [] groups vars) (Quantifies vars groups raw) (entered_groups names [] groups vars)
        (λ (inner : Variables). over (λ (f : Formula). (bound vars inner, f)) (formula names inner s raw)) (entered_sound names [] groups vars) (λ inner enter.
        let (added, is) = entered_grow names [] groups vars inner enter in
        sound_over (Denotes inner s raw) (Quantifies vars groups raw) (λ (f : Formula). (bound vars inner, f)) (formula names inner s raw) (λ f so. (
          added,
          subst (Enters names [] groups vars) is enter,
          subst (λ vs. Denotes vs s raw f) is so,
          ap (bound vars) is ∙ bound_is vars added,
        )) (each inner))

    exists_sound : (vars : Variables) (groups : List RawGroup) (raw : RawFormula) → ((inner : Variables) → IsRead inner raw)
        → Sound (over (λ (q : List Typed × Formula). Exists q.0 q.1) (quantifier names vars s groups raw)) (Denotes vars s (form.Exists groups raw))
    exists_sound vars groups raw each =
        sound_over (Quantifies vars groups raw) (Denotes vars s (form.Exists groups raw)) (λ (q : List Typed × Formula). Exists q.0 q.1) _ (λ q (added, enter, so, is).
        subst (λ vs. Denotes vars s (form.Exists groups raw) (Exists vs q.1)) (sym is) (of_exists vars added s groups raw q.1 enter so)) (quantifier_sound vars groups raw each)

    forall_sound : (vars : Variables) (groups : List RawGroup) (raw : RawFormula) → ((inner : Variables) → IsRead inner raw)
        → Sound (over (λ (q : List Typed × Formula). Forall q.0 q.1) (quantifier names vars s groups raw)) (Denotes vars s (form.Forall groups raw))
    forall_sound vars groups raw each =
        sound_over (Quantifies vars groups raw) (Denotes vars s (form.Forall groups raw)) (λ (q : List Typed × Formula). Forall q.0 q.1) _ (λ q (added, enter, so, is).
        subst (λ vs. Denotes vars s (form.Forall groups raw) (Forall vs q.1)) (sym is) (of_forall vars added s groups raw q.1 enter so)) (quantifier_sound vars groups raw each)

    mutual
      unfolding formula formulas built

      pub formula_sound : (raw : RawFormula) (vars : Variables) → Sound (formula names vars s raw) (DenotesFormula names vars s raw)
      formula_sound (form.And' n row) vars =
          rw (and_built n row, formulas-items names vars s row) (and_sound vars (items-the_row-RawFormula _ row) (row_sound row vars))
      formula_sound (form.Or' n row) vars =
          rw (or_built n row, formulas-items names vars s row) (or_sound vars (items-the_row-RawFormula _ row) (row_sound row vars))
      formula_sound (not f) vars = not_sound vars f (formula_sound f vars)
      formula_sound (imply f g) vars = imply_sound vars f g (formula_sound f vars) (formula_sound g vars)
      formula_sound (exists groups f) vars = exists_sound vars groups f (formula_sound f)
      formula_sound (forall groups f) vars = forall_sound vars groups f (formula_sound f)
      formula_sound (form.Atom place p args) vars =
          sound_over (DenotesAtom names vars s p args) (Denotes vars s (form.Atom place p args)) (λ ts. Atom p.name ts) (atom_args names vars s place p args)
          (λ ts is. an_atom vars s place p args ts is) (atom_sound vars s place p args)
      formula_sound (form.Compare place r left right) vars = related_sound vars s place r left right (is_equality names r left) refl

      row_sound : {n : _} (row : Row_of-RawFormula n) (vars : Variables) → Every (IsRead vars) (items-the_row-RawFormula _ row)
      row_sound end_of-RawFormula vars = tt
      row_sound (more_of-RawFormula member row) vars = (formula_sound member vars, row_sound row vars)

  pub formula_denotes : (vars : Variables) (s : Setting) (raw : RawFormula) (f : Formula) → formula names vars s raw ≡ parsed f → DenotesFormula names vars s raw f
  formula_denotes vars s raw f e = sound_is (DenotesFormula names vars s raw) (formula names vars s raw) f (formula_sound s raw vars) e
