-- The names that are barred to the variables of an effect.
use Rattle.std.proofs.Common.{◌≡◌, Bool, true, false, ◌||◌, if◌then◌else◌, List, [], ◌∷◌, ◌++◌, append-nil, refl, ap, sym, ◌∙◌}
use Rattle.std.proofs.lemmas.Bool.{false≢true}
use Rattle.std.proofs.lemmas.Grind.{flat_map-append}
use Rattle.std.proofs.lemmas.List.Folds.{list_any-append}
use Rattle.std.proofs.lemmas.List.Sums.{fold-append}
use Rattle.std.proofs.lemmas.Slice.Eq.{bytes_eq-Decides}
use Rattle.std.specs.List.{list_any}
use Rattle.indexmap.specs.IndexSet.{insert_key}
use Rattle.up_text.specs.declared.name.Name.{Name}
use Rattle.up_text.specs.Names.{same_name}
use Rattle.pddl_lex.specs.Parses.{behind}
use Rattle.pddl_parse.specs.declared.raw.Ident.{Ident}
use Rattle.pddl_parse.specs.declared.raw.RawGroup.{RawGroup}
use Rattle.up_tree.specs.declared.formula.Formula.{Formula, And', Or', Atom, Equal, Compare, Row_of-Formula, end_of-Formula, more_of-Formula, items-the_row-Formula}
use Rattle.up_tree.specs.Nodes.{not, imply, exists, forall}
use Rattle.up_tree.specs.Simplify.{is_empty, is_true_formula}
use Rattle.up_phrase.specs.Barred.{binds, all_bind, each_once}
use Rattle.up_phrase.specs.Declarations.{Declarations}
use Rattle.up_phrase.specs.Scopes.{Variables, entered, entered_groups, type_named, type_fault}
use Rattle.up_phrase.specs.Walks.{after}
use Rattle.up_effect.specs.Effects.{whens_and}
use Rattle.grammar_names.specs.Effects.{bound_in}

-- ---- how often a name is barred is nothing to it

module _ (one two : List Name) (same : (n : Name) → list_any (same_name n) one ≡ list_any (same_name n) two) where
  names_same : (of : Name) (its : List Ident) (vars : Variables) → entered one of its vars ≡ entered two of its vars
  names_same of [] vars = refl
  names_same of (it ∷ others) vars = rw (same it.name, names_same of others (vars ++ (it.name, of) ∷ [])) refl

  pub groups_same : (names : Declarations) (groups : List RawGroup) (vars : Variables) → entered_groups names one groups vars ≡ entered_groups names two groups vars
  groups_same names [] vars = refl
  groups_same names (group ∷ others) vars = λ i.
      after (names_same (type_named group.of) group.names vars i) (λ more. behind (type_fault names group.of) (groups_same names others more i))

-- ---- the names that conditions bind

pub or_false : (b : Bool) → (b || false) ≡ b
or_false true = refl
or_false false = refl

or_assoc : (a b c : Bool) → ((a || b) || c) ≡ (a || (b || c))
or_assoc true b c = refl
or_assoc false b c = refl

insert_has : (n k : Name) (names : List Name) → list_any (same_name n) (insert_key same_name names k) ≡ (list_any (same_name n) names || same_name n k)
insert_has n k names = by (list_any (same_name k) names) refl
  where
    already : list_any (same_name k) names ≡ true → (b : Bool) → same_name n k ≡ b → list_any (same_name n) names ≡ (list_any (same_name n) names || b)
    already has true is =
        let there : list_any (same_name n) names ≡ true = ap (λ m. list_any (same_name m) names) ((bytes_eq-Decides n k).0 is) ∙ has in
        rw there refl
    already has false is = sym (or_false (list_any (same_name n) names))

    by : (b : Bool) → list_any (same_name k) names ≡ b
        → list_any (same_name n) (if b then names else names ++ k ∷ []) ≡ (list_any (same_name n) names || same_name n k)
    by true has = already has (same_name n k) refl
    by false has = list_any-append (same_name n) names (k ∷ []) ∙ ap (λ b. list_any (same_name n) names || b) (or_false (same_name n k))

each_has : (n : Name) (before names : List Name) → list_any (same_name n) (each_once before names) ≡ (list_any (same_name n) before || list_any (same_name n) names)
each_has n before [] = sym (or_false (list_any (same_name n) before))
each_has n before (k ∷ names) =
    each_has n (insert_key same_name before k) names ∙ ap (λ b. b || list_any (same_name n) names) (insert_has n k before)
    ∙ or_assoc (list_any (same_name n) before) (same_name n k) (list_any (same_name n) names)

-- as the walk holds them
abbrev pub held : List Formula → List Name
held conditions = each_once [] (bound_in conditions)

pub held_same : (conditions : List Formula) (n : Name) → list_any (same_name n) (held conditions) ≡ list_any (same_name n) (bound_in conditions)
held_same conditions n = each_has n [] (bound_in conditions)

none_bound : {n : _} (fs : Row_of-Formula n) → is_empty (items-the_row-Formula _ fs) ≡ true → all_bind fs ≡ []
unfolding all_bind
none_bound end_of-Formula is = refl
none_bound (more_of-Formula f fs) is = absurd (false≢true is)

nothing_bound : (f : Formula) → is_true_formula f ≡ true → binds f ≡ []
unfolding binds
nothing_bound (And' n fs) is = none_bound fs is
nothing_bound (Or' n fs) is = absurd (false≢true is)
nothing_bound (not f) is = absurd (false≢true is)
nothing_bound (imply f g) is = absurd (false≢true is)
nothing_bound (exists vars f) is = absurd (false≢true is)
nothing_bound (forall vars f) is = absurd (false≢true is)
nothing_bound (Atom name ts) is = absurd (false≢true is)
nothing_bound (Equal t u) is = absurd (false≢true is)
nothing_bound (Compare r a b) is = absurd (false≢true is)

pub held_under : (conditions : List Formula) (f : Formula) → held (whens_and conditions f) ≡ each_once (held conditions) (binds f)
held_under conditions f = by (is_true_formula f) refl
  where
    by : (b : Bool) → is_true_formula f ≡ b → held (if b then conditions else conditions ++ f ∷ []) ≡ each_once (held conditions) (binds f)
    by true is = ap (each_once (held conditions)) (sym (nothing_bound f is))
    by false is =
        ap (each_once []) (flat_map-append binds conditions (f ∷ []) ∙ ap (λ names. bound_in conditions ++ names) (append-nil (binds f)))
        ∙ fold-append (insert_key same_name) [] (bound_in conditions) (binds f)
