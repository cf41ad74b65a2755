-- The rows that an effect is read as are rows of its action.
use Rattle.std.proofs.Common.{◌≡◌, ◌⊎◌, Bool, true, false, if◌then◌else◌, List, [], ◌∷◌, ◌++◌, map, drop, length, append_assoc, refl, ap, sym, ◌∙◌, subst, inl, inr}
use Rattle.std.specs.Prelude.{is_some}
use Rattle.std.specs.List.{list_any}
use Rattle.std.specs.Map.{lookup}
use Rattle.std.specs.Option.{option_or}
use Rattle.std.proofs.Math.Seq.{drop-append_seam}
use Rattle.indexmap.specs.IndexSet.{insert_key}
use Rattle.up_text.specs.declared.name.Name.{Name}
use Rattle.up_text.specs.Names.{same_name}
use Rattle.up_text.specs.Lists.{Every, Member}
use Rattle.pddl_parse.specs.declared.raw.RawEffect.{RawEffect, Row_of-RawEffect, end_of-RawEffect, more_of-RawEffect}
use Rattle.pddl_parse.specs.declared.raw.RawEffect as form
use Rattle.up_tree.specs.declared.action.Effect.{Effect}
use Rattle.up_tree.specs.declared.action.Row.{Row}
use Rattle.up_tree.specs.declared.formula.Formula.{Formula, And}
use Rattle.up_tree.specs.declared.problem.Parts.{Parts}
use Rattle.up_tree.specs.declared.term.Typed.{Typed}
use Rattle.up_tree.specs.Simplify.{is_true_formula, alone_or}
use Rattle.up_tree.specs.WellFormed.{IsEffect, IsFormula, IsRow, IsType}
use Rattle.up_phrase.specs.declared.term.Setting.TheVariants.{Plain}
use Rattle.up_phrase.specs.Barred.{binds, each_once}
use Rattle.up_phrase.specs.Conditions.{formula}
use Rattle.up_phrase.specs.Declarations.{Declarations}
use Rattle.up_phrase.specs.Lookups.{function_of}
use Rattle.up_phrase.specs.Scopes.{Variables, entered_groups, typed}
use Rattle.up_phrase.specs.Walks.{Checked}
use Rattle.up_effect.specs.Effects.{Around, with_variables, under, row, added, deleted, changed, undefined, simple, together, rows, each_rows}
use Rattle.up_effect.specs.Nodes.{for_all, when}
use Rattle.wellformed_phrases.specs.Agreement.{IfParsed, Agree, AgreeInScope}
use Rattle.wellformed_phrases.specs.LawfulPhrases.{IsLawfulEffect, AreLawfulEffects}
use Rattle.wellformed_phrases.proofs.Parses.{parsed_over, parsed_two, parsed_after}
use Rattle.wellformed_phrases.proofs.Members.{every_as, every_append, any_member, member_front, member_back, names_in, there, lookup_append, named_there}
use Rattle.wellformed_phrases.proofs.Entering.{AreAdded, OfMany, added_both, added_free, groups_are, in_vars, are_variables, agree_inside}
use Rattle.wellformed_phrases.proofs.Conditions.{and_is, formula_is}
use Rattle.wellformed_phrases.proofs.Widening.{IsFresh, Wider, binds_fresh, formula_stays}
use Rattle.wellformed_phrases.proofs.Effects.{added_is, deleted_is, changed_is, undefined_is}

-- ---- barred names

insert_keeps : (n k : Name) (names : List Name) → Member n names → Member n (insert_key same_name names k)
insert_keeps n k names m = by (list_any (same_name k) names)
  where
    by : (b : Bool) → Member n (if b then names else names ++ k ∷ [])
    by true = m
    by false = member_front n names (k ∷ []) m

insert_has : (k : Name) (names : List Name) → Member k (insert_key same_name names k)
insert_has k names = by (list_any (same_name k) names) refl
  where
    by : (b : Bool) → list_any (same_name k) names ≡ b → Member k (if b then names else names ++ k ∷ [])
    by true is = any_member k names is
    by false is = member_back k names (k ∷ []) (inl refl)

all_keep : (n : Name) (names more : List Name) → Member n names → Member n (each_once names more)
all_keep n names [] m = m
all_keep n names (k ∷ more) m = all_keep n (insert_key same_name names k) more (insert_keeps n k names m)

all_have : (names more : List Name) → Every (λ n. Member n (each_once names more)) more
all_have names [] = tt
all_have names (k ∷ more) = (all_keep k (insert_key same_name names k) more (insert_has k names), all_have (insert_key same_name names k) more)

-- without bars
unbarred : (barred : List Name) (vars es : Variables) → AreAdded barred vars es → AreAdded [] vars es
unbarred barred vars [] are = tt
unbarred barred vars (e ∷ es) are = (are.0, are.1, (λ m. m), unbarred barred (vars ++ e ∷ []) es are.3)

-- ---- scopes

module _ (p : Parts) (vars more : Variables) (scope wide : List Typed) (inside : AgreeInScope p vars scope) (outside : AgreeInScope p (vars ++ more) wide) where
  wider_is : Wider scope wide
  wider_is v of is =
      outside.same v ∙ lookup_append v vars more ∙ ap (λ o. option_or o (lookup (same_name v) more)) (sym (inside.same v) ∙ is)

  split : (n : Name) (es : Variables) → Member n (names_in (es ++ more)) → Member n (names_in es) ⊎ Member n (names_in more)
  split n [] m = inr m
  split n (e ∷ es) (inl is) = inl (inl is)
  split n (e ∷ es) (inr m) = elim (split n es m) [ inl a ↦ inl (inr a) | inr b ↦ inr b ]

  in_more : (barred : List Name) (n : Name) (es : Variables) → Every (λ e. ¬ Member e.0 barred) es → Member n barred → ¬ Member n (names_in es)
  in_more barred n [] free bar m = m
  in_more barred n (e ∷ es) free bar (inl is) = free.0 (subst (λ k. Member k barred) is bar)
  in_more barred n (e ∷ es) free bar (inr m) = in_more barred n es free.1 bar m

  in_scope_too : (n : Name) → Member n (names_in vars) → Member n (map (λ v. v.name) scope)
  in_scope_too n m = named_there n scope (ap is_some (inside.same n) ∙ there n vars m)

  -- a barred name that isn't in the one scope isn't in the other
  still_fresh : (barred : List Name) → Every (λ e. ¬ Member e.0 barred) more → (n : Name) → IsFresh scope n → Member n barred → IsFresh wide n
  still_fresh barred free n fresh bar m =
      elim (split n vars (in_vars p (vars ++ more) wide outside n m)) [ inl a ↦ fresh (in_scope_too n a) | inr b ↦ in_more barred n more free bar b ]

all_fresh_still : (P Q R : Name → Type 0) (ns : List Name) → ((n : Name) → P n → Q n → R n) → Every P ns → Every Q ns → Every R ns
all_fresh_still P Q R [] h ps qs = tt
all_fresh_still P Q R (n ∷ ns) h ps qs = (h n ps.0 qs.0, all_fresh_still P Q R ns h ps.1 qs.1)

module _ (names : Declarations) (p : Parts) (objects : List Typed) (agree : Agree names p objects)
    (params : Variables) (in_params : AgreeInScope p params (map typed params)) where
  abbrev inner_scope : Variables → List Typed
  inner_scope added = map typed added ++ map typed params

  abbrev AreBarred : List Name → Formula → Type 0
  AreBarred barred f = Every (λ n. Member n barred) (binds f)

  -- what stands around an effect of the action: its parameters, more variables, and conditions on them whose variables are barred
  pub record Surrounds (a : Around) : Type 0 where
    pub added : Variables
    pub is : a.variables ≡ params ++ added
    pub count : a.parameters ≡ length params
    pub are : AreAdded [] params added
    pub known : Every (λ e. IsType p e.1) added
    pub whens : Every (IsFormula p objects (map typed added ++ map typed params)) a.whens
    pub bars : Every (λ f. Every (λ n. Member n a.barred) (binds f)) a.whens

  agree_at : (a : Around) (s : Surrounds a) → AgreeInScope p a.variables (inner_scope s.added)
  agree_at a s =
      subst (λ vs. AgreeInScope p vs (inner_scope s.added)) (sym s.is) (agree_inside p params (map typed params) in_params [] s.added s.are s.known)

  -- ---- rows

  alone_is : (scope : List Typed) (fs : List Formula) → Every (IsFormula p objects scope) fs → IsFormula p objects scope (alone_or And fs)
  alone_is scope [] are = and_is names p objects agree Plain scope [] tt
  alone_is scope (f ∷ []) are = are.0
  alone_is scope (f ∷ g ∷ fs) are = and_is names p objects agree Plain scope (f ∷ g ∷ fs) are

  row_with : (a : Around) → Effect → List Typed → Row
  row_with a e vars = record { vars = vars; when = alone_or And a.whens; effect = e }

  row_is : (a : Around) (s : Surrounds a) (e : Effect) → IsEffect p objects (inner_scope s.added) e → IsRow p objects (map typed params) (row a e)
  unfolding row_with
  row_is a s e is =
      let same : map typed (drop a.parameters a.variables) ≡ map typed s.added =
      (λ i. map typed (drop (s.count i) (s.is i))) ∙ ap (map typed) (drop-append_seam params s.added) in
      subst (λ vs. IsRow p objects (map typed params) (row_with a e vs)) (sym same)
      (record { vars = are_variables p params (map typed params) in_params [] s.added s.are s.known; when = alone_is (inner_scope s.added) a.whens s.whens; effect = is })

  simple_is : (a : Around) (s : Surrounds a) (v : Checked Effect) → IfParsed v (IsEffect p objects (inner_scope s.added))
      → IfParsed (simple a v) (Every (IsRow p objects (map typed params)))
  simple_is a s v is =
      parsed_over (IsEffect p objects (inner_scope s.added)) (Every (IsRow p objects (map typed params))) (λ e. row a e ∷ []) v (λ e so. (row_is a s e so, tt)) is

  -- ---- more variables, and conditions

  whens_stay : (barred : List Name) (one two : Variables) (fs : List Formula) → AgreeInScope p (params ++ one) (inner_scope one)
      → AgreeInScope p ((params ++ one) ++ two) (inner_scope (one ++ two)) → Every (λ e. ¬ Member e.0 barred) two → Every (AreBarred barred) fs
      → Every (IsFormula p objects (inner_scope one)) fs → Every (IsFormula p objects (inner_scope (one ++ two))) fs
  whens_stay barred one two [] inside outside free bars are = tt
  whens_stay barred one two (f ∷ fs) inside outside free bars are = (
    formula_stays p objects (inner_scope one) (inner_scope (one ++ two)) (wider_is p (params ++ one) two (inner_scope one) (inner_scope (one ++ two)) inside outside) f
        (all_fresh_still (IsFresh (inner_scope one)) (λ n. Member n barred) (IsFresh (inner_scope (one ++ two))) (binds f)
        (still_fresh p (params ++ one) two (inner_scope one) (inner_scope (one ++ two)) inside outside barred free)
        (binds_fresh p objects (inner_scope one) f are.0) bars.0) are.0,
    whens_stay barred one two fs inside outside free bars.1 are.1,
  )

  entered_is : (a : Around) → Surrounds a → (inner : Variables) → OfMany a.barred names p objects agree a.variables inner → Surrounds (with_variables a inner)
  entered_is a s inner (two, grown, are, known) =
      let there_too : AreAdded a.barred (params ++ s.added) two = subst (λ vs. AreAdded a.barred vs two) s.is are in
      let all_are : AreAdded [] params (s.added ++ two) = added_both [] params s.added two s.are (unbarred a.barred (params ++ s.added) two there_too) in
      let all_known : Every (λ e. IsType p e.1) (s.added ++ two) = every_append (λ e. IsType p e.1) s.added two s.known known in
      let inside = agree_inside p params (map typed params) in_params [] s.added s.are s.known in
      let outside : AgreeInScope p ((params ++ s.added) ++ two) (inner_scope (s.added ++ two)) =
      subst (λ vs. AgreeInScope p vs (inner_scope (s.added ++ two))) (sym (append_assoc params s.added two))
      (agree_inside p params (map typed params) in_params [] (s.added ++ two) all_are all_known) in
      record {
        added = s.added ++ two;
        is = grown ∙ ap (λ vs. vs ++ two) s.is ∙ append_assoc params s.added two;
        count = s.count;
        are = all_are;
        known = all_known;
        whens = whens_stay a.barred s.added two a.whens inside outside (added_free a.barred (params ++ s.added) two there_too) s.bars s.whens;
        bars = s.bars;
      }

  under_is : (a : Around) (s : Surrounds a) (f : Formula) → IsFormula p objects (inner_scope s.added) f → Surrounds (under a f)
  under_is a s f is = by (is_true_formula f)
    where
      bars_kept : Every (AreBarred (each_once a.barred (binds f))) a.whens
      bars_kept =
          every_as (AreBarred a.barred) (AreBarred (each_once a.barred (binds f))) a.whens
          (λ g bars. every_as (λ n. Member n a.barred) (λ n. Member n (each_once a.barred (binds f))) (binds g) (λ n m. all_keep n a.barred (binds f) m) bars) s.bars

      by : (b : Bool) → Surrounds (record { parameters = a.parameters; variables = a.variables; barred = each_once a.barred (binds f); whens = if b then a.whens else a.whens ++ f ∷ [] })
      by true = record { added = s.added; is = s.is; count = s.count; are = s.are; known = s.known; whens = s.whens; bars = bars_kept }
      by false = record {
        added = s.added;
        is = s.is;
        count = s.count;
        are = s.are;
        known = s.known;
        whens = every_append (IsFormula p objects (inner_scope s.added)) a.whens (f ∷ []) s.whens (is, tt);
        bars = every_append (AreBarred (each_once a.barred (binds f))) a.whens (f ∷ []) bars_kept (all_have a.barred (binds f), tt);
      }

  -- ---- effects

  abbrev pub AreRows : List Row → Type 0
  AreRows = Every (IsRow p objects (map typed params))

  together_are : (vs : List (Checked (List Row))) → Every (λ v. IfParsed v AreRows) vs → IfParsed (together vs) AreRows
  together_are [] are = tt
  together_are (v ∷ vs) are =
      parsed_two AreRows AreRows AreRows (λ xs ys. xs ++ ys) v (together vs) (λ xs ys one two. every_append (IsRow p objects (map typed params)) xs ys one two) are.0 (together_are vs are.1)

  mutual
    unfolding rows each_rows IsLawfulEffect AreLawfulEffects

    pub rows_are : (raw : RawEffect) → IsLawfulEffect raw → (a : Around) → Surrounds a → IfParsed (rows names a raw) AreRows
    rows_are (form.And' n members) lawful a s = together_are (each_rows names a members) (each_are members lawful a s)
    rows_are (for_all groups body) lawful a s =
        parsed_after (OfMany a.barred names p objects agree a.variables) AreRows (entered_groups names a.barred groups a.variables)
        (λ (vars : Variables). rows names (with_variables a vars) body) (groups_are a.barred names p objects agree groups a.variables lawful.0)
        (λ inner many. rows_are body lawful.1 (with_variables a inner) (entered_is a s inner many))
    rows_are (when condition body) lawful a s =
        parsed_after (IsFormula p objects (inner_scope s.added)) AreRows (formula names a.variables Plain condition) (λ (f : Formula). rows names (under a f) body)
        (formula_is names p objects agree Plain condition lawful.0 a.variables (inner_scope s.added) (agree_at a s))
        (λ f is. rows_are body lawful.1 (under a f) (under_is a s f is))
    rows_are (form.Add it) lawful a s =
        simple_is a s (added names a.variables it) (added_is names p objects agree a.variables (inner_scope s.added) (agree_at a s) it)
    rows_are (form.Delete it) lawful a s =
        simple_is a s (deleted names a.variables it) (deleted_is names p objects agree a.variables (inner_scope s.added) (agree_at a s) it)
    rows_are (form.Change c it value) lawful a s =
        simple_is a s (changed names a.variables c it value) (changed_is names p objects agree a.variables (inner_scope s.added) (agree_at a s) c it value lawful)
    rows_are (form.Undefine it place) lawful a s =
        simple_is a s (undefined names a.variables it place (function_of names it.name.name))
        (undefined_is names p objects agree a.variables (inner_scope s.added) (agree_at a s) it place (function_of names it.name.name) refl)

    each_are : {n : _} (members : Row_of-RawEffect n) → AreLawfulEffects members → (a : Around) → Surrounds a → Every (λ v. IfParsed v AreRows) (each_rows names a members)
    each_are end_of-RawEffect lawful a s = tt
    each_are (more_of-RawEffect member members) lawful a s = (rows_are member lawful.0 a s, each_are members lawful.1 a s)
