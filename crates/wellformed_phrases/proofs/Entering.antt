-- Variables that are brought into scope are variables there.
use Rattle.std.proofs.Common.{◌≡◌, Bool, true, false, true≢false, ◌||◌, if◌then◌else◌, List, [], ◌∷◌, ◌++◌, map, Option, Some, None, append_assoc, refl, ap, sym, ◌∙◌, subst, inl, inr}
use Rattle.std.specs.Prelude.{⊤, is_some}
use Rattle.std.specs.List.{list_any}
use Rattle.std.specs.Map.{lookup}
use Rattle.std.specs.Option.{option_or}
use Rattle.std.proofs.lemmas.List.{append-nil, map-append}
use Rattle.std.proofs.Math.Seq.{drop-append_seam}
use Rattle.up_text.specs.declared.name.Name.{Name}
use Rattle.up_text.specs.Names.{IsName, same_name}
use Rattle.up_text.specs.Lists.{Every, Member, Differ}
use Rattle.pddl_lex.specs.Parses.{rejected, behind}
use Rattle.pddl_parse.specs.declared.raw.Ident.{Ident}
use Rattle.pddl_parse.specs.declared.raw.RawGroup.{RawGroup}
use Rattle.up_tree.specs.declared.term.Typed.{Typed}
use Rattle.up_tree.specs.declared.problem.Parts.{Parts}
use Rattle.up_tree.specs.WellFormed.{IsType, AreVariables}
use Rattle.up_phrase.specs.declared.reason.Reason.TheVariants.{Duplicate, UnknownName}
use Rattle.up_phrase.specs.Declarations.{Declarations}
use Rattle.up_phrase.specs.Lookups.{is_type}
use Rattle.up_phrase.specs.Named.{at}
use Rattle.up_phrase.specs.Scopes.{Variables, variable_type, is_taken, entered, entered_groups, type_named, type_fault, typed}
use Rattle.up_phrase.specs.Conditions.{bound}
use Rattle.wellformed_phrases.specs.Agreement.{IfParsed, Agree, AgreeInScope}
use Rattle.wellformed_phrases.specs.LawfulPhrases.{HaveNames}
use Rattle.wellformed_phrases.proofs.Parses.{parsed_as, parsed_after, parsed_behind, holds}
use Rattle.wellformed_phrases.proofs.Tables.{type_is}
use Rattle.wellformed_phrases.proofs.Members.{member_front, member_back, every_map, every_as, every_append, listed, names_in, there, found_is, found_named, lookup_append, type_append, has_type}

or_left : (a b : Bool) → (a || b) ≡ false → a ≡ true → ⊥
or_left true b e is = true≢false e
or_left false b e is = true≢false (sym is)

or_right : (a b : Bool) → (a || b) ≡ false → b ≡ true → ⊥
or_right true b e is = true≢false e
or_right false b e is = true≢false (sym is ∙ e)

module _ (barred : List Name) where
  -- each is a name that no variable before it has and that isn't barred
  abbrev pub AreAdded : Variables → Variables → Type 0
  AreAdded vars [] = ⊤
  AreAdded vars (e ∷ es) = IsName e.0 × (¬ Member e.0 (names_in vars)) × (¬ Member e.0 barred) × AreAdded (vars ++ e ∷ []) es

  pub added_both : (vars one two : Variables) → AreAdded vars one → AreAdded (vars ++ one) two → AreAdded vars (one ++ two)
  added_both vars [] two is more = subst (λ vs. AreAdded vs two) (append-nil vars) more
  added_both vars (e ∷ es) two is more =
      (is.0, is.1, is.2, added_both (vars ++ e ∷ []) es two is.3 (subst (λ vs. AreAdded vs two) (sym (append_assoc vars (e ∷ []) es)) more))

  -- what is in scope after variables of one type
  abbrev OfOne : Name → Variables → Variables → Type 0
  OfOne of vars inner = (added : Variables) × (inner ≡ vars ++ added) × AreAdded vars added × Every (λ e. e.1 ≡ of) added

  entered_are : (of : Name) (items : List Ident) (vars : Variables) → Every (λ (it : Ident). IsName it.name) items → IfParsed (entered barred of items vars) (OfOne of vars)
  entered_are of [] vars named = ([], sym (append-nil vars), tt, tt)
  entered_are of (it ∷ others) vars named = by (is_taken barred vars it.name) refl (entered_are of others (vars ++ (it.name, of) ∷ []) named.1)
    where
      by : (b : Bool) → is_taken barred vars it.name ≡ b → IfParsed (entered barred of others (vars ++ (it.name, of) ∷ [])) (OfOne of (vars ++ (it.name, of) ∷ []))
          → IfParsed (if b then rejected (at it.place Duplicate it.name) [] else entered barred of others (vars ++ (it.name, of) ∷ [])) (OfOne of vars)
      by true taken rest = tt
      by false free rest =
          parsed_as (OfOne of (vars ++ (it.name, of) ∷ [])) (OfOne of vars) (entered barred of others (vars ++ (it.name, of) ∷ []))
          (λ inner (added, is, are, typed_so). (
            (it.name, of) ∷ added,
            is ∙ append_assoc vars ((it.name, of) ∷ []) added,
            (
              named.0,
              (λ m. or_left (is_some (variable_type vars it.name)) (list_any (same_name it.name) barred) free (there it.name vars m)),
              (λ m. or_right (is_some (variable_type vars it.name)) (list_any (same_name it.name) barred) free (listed it.name barred m)),
              are,
            ),
            (refl, typed_so),
          )) rest

  module _ (names : Declarations) (p : Parts) (objects : List Typed) (agree : Agree names p objects) where
    stated_is : (of : Option Ident) → type_fault names of ≡ [] → IsType p (type_named of)
    stated_is None none = inl refl
    stated_is (Some of) none = type_is names p objects agree of.name (holds (is_type names of.name) (at of.place UnknownName of.name) none)

    -- what is in scope after a typed list
    abbrev pub OfMany : Variables → Variables → Type 0
    OfMany vars inner = (added : Variables) × (inner ≡ vars ++ added) × AreAdded vars added × Every (λ e. IsType p e.1) added

    both_many : (of : Name) (vars more inner : Variables) → IsType p of → OfOne of vars more → OfMany more inner → OfMany vars inner
    both_many of vars more inner known (one, is, are, typed_so) (two, also, also_are, known_so) = (
      one ++ two,
      also ∙ ap (λ vs. vs ++ two) is ∙ append_assoc vars one two,
      added_both vars one two are (subst (λ vs. AreAdded vs two) is also_are),
      every_append (λ e. IsType p e.1) one two (every_as (λ e. e.1 ≡ of) (λ e. IsType p e.1) one (λ e so. subst (IsType p) (sym so) known) typed_so) known_so,
    )

    pub groups_are : (groups : List RawGroup) (vars : Variables) → HaveNames groups → IfParsed (entered_groups names barred groups vars) (OfMany vars)
    groups_are [] vars named = ([], sym (append-nil vars), tt, tt)
    groups_are (group ∷ others) vars named =
        parsed_after (OfOne (type_named group.of) vars) (OfMany vars) (entered barred (type_named group.of) group.names vars)
        (λ more. behind (type_fault names group.of) (entered_groups names barred others more)) (entered_are (type_named group.of) group.names vars named.0) (λ more one.
        parsed_behind (OfMany vars) (type_fault names group.of) (entered_groups names barred others more) (λ none.
        parsed_as (OfMany more) (OfMany vars) (entered_groups names barred others more)
        (λ inner many. both_many (type_named group.of) vars more inner (stated_is group.of none) one many) (groups_are others more named.1)))

  -- ---- what is added differs from what was there

  fresh_front : (vars : Variables) (e : Name × Name) (name : Name) → (¬ Member name (names_in (vars ++ e ∷ []))) → ¬ Member name (names_in vars)
  fresh_front vars e name fresh m =
      fresh (subst (Member name) (sym (map-append (λ (e : Name × Name). e.0) vars (e ∷ []))) (member_front name (names_in vars) (names_in (e ∷ [])) m))

  pub added_fresh : (vars added : Variables) → AreAdded vars added → Every (λ e. ¬ Member e.0 (names_in vars)) added
  added_fresh vars [] are = tt
  added_fresh vars (e ∷ es) are = (
    are.1,
    every_as (λ x. ¬ Member x.0 (names_in (vars ++ e ∷ []))) (λ x. ¬ Member x.0 (names_in vars)) es (λ x fresh. fresh_front vars e x.0 fresh) (added_fresh (vars ++ e ∷ []) es are.3),
  )

  pub added_free : (vars added : Variables) → AreAdded vars added → Every (λ e. ¬ Member e.0 barred) added
  added_free vars [] are = tt
  added_free vars (e ∷ es) are = (are.2, added_free (vars ++ e ∷ []) es are.3)

  added_named : (vars added : Variables) → AreAdded vars added → Every (λ e. IsName e.0) added
  added_named vars [] are = tt
  added_named vars (e ∷ es) are = (are.0, added_named (vars ++ e ∷ []) es are.3)

  apart : (vars : Variables) (e : Name × Name) (es : Variables) → Every (λ x. ¬ Member x.0 (names_in (vars ++ e ∷ []))) es → ¬ Member e.0 (names_in es)
  apart vars e [] fresh m = m
  apart vars e (x ∷ es) fresh (inl is) =
      fresh.0 (subst (Member x.0) (sym (map-append (λ (e : Name × Name). e.0) vars (e ∷ []))) (member_back x.0 (names_in vars) (names_in (e ∷ [])) (inl (sym is))))
  apart vars e (x ∷ es) fresh (inr m) = apart vars e es fresh.1 m

  added_differ : (vars added : Variables) → AreAdded vars added → Differ (map (λ v. v.name) (map typed added))
  added_differ vars [] are = tt
  added_differ vars (e ∷ es) are =
      ((λ m. apart vars e es (added_fresh (vars ++ e ∷ []) es are.3) (named_so es m)), added_differ (vars ++ e ∷ []) es are.3)
    where
      named_so : (xs : Variables) → Member e.0 (map (λ v. v.name) (map typed xs)) → Member e.0 (names_in xs)
      named_so [] m = m
      named_so (x ∷ xs) (inl is) = inl is
      named_so (x ∷ xs) (inr m) = inr (named_so xs m)

module _ (p : Parts) (vars : Variables) (scope : List Typed) (in_scope : AgreeInScope p vars scope) where
  -- a name in the scope is that of a variable
  pub in_vars : (name : Name) → Member name (map (λ v. v.name) scope) → Member name (names_in vars)
  in_vars name m = by (variable_type vars name) refl (ap is_some (sym (in_scope.same name)) ∙ has_type name scope m)
    where
      by : (o : Option Name) → variable_type vars name ≡ o → is_some (variable_type vars name) ≡ true → Member name (names_in vars)
      by None is e = absurd (true≢false (sym e ∙ ap is_some is))
      by (Some of) is e = found_named name vars of is

  module _ (barred : List Name) (added : Variables) (are : AreAdded barred vars added) (known : Every (λ e. IsType p e.1) added) where
    pub are_variables : AreVariables p scope (map typed added)
    are_variables = record {
      names_all = every_map (λ v. IsName v.name) typed added (added_named barred vars added are);
      differ = added_differ barred vars added are;
      fresh = every_map (λ v. ¬ Member v.name (map (λ w. w.name) scope)) typed added
          (every_as (λ e. ¬ Member e.0 (names_in vars)) (λ e. ¬ Member e.0 (map (λ w. w.name) scope)) added (λ e fresh m. fresh (in_vars e.0 m)) (added_fresh barred vars added are));
      typed = every_map (λ v. IsType p v.of) typed added known;
    }

    not_both : (name : Name) (a b : Option Name) → lookup (same_name name) added ≡ a → lookup (same_name name) vars ≡ b → option_or a b ≡ option_or b a
    not_both name None None is so = refl
    not_both name None (Some of) is so = refl
    not_both name (Some of) None is so = refl
    not_both name (Some of) (Some other) is so =
        absurd (never added (added_fresh barred vars added are) (found_named name added of is))
      where
        never : (es : Variables) → Every (λ e. ¬ Member e.0 (names_in vars)) es → ¬ Member name (names_in es)
        never [] fresh m = m
        never (e ∷ es) fresh (inl same) = fresh.0 (subst (λ n. Member n (names_in vars)) same (found_named name vars other so))
        never (e ∷ es) fresh (inr m) = never es fresh.1 m

    known_inside : (name of : Name) (o : Option Name) → lookup (same_name name) vars ≡ o → option_or o (lookup (same_name name) added) ≡ Some of → IsType p of
    known_inside name of None is e = found_is name (IsType p) added of known e
    known_inside name of (Some other) is e = in_scope.known_types name of (is ∙ e)

    pub agree_inside : AgreeInScope p (vars ++ added) (map typed added ++ scope)
    agree_inside = record {
      same = λ v. type_append v added scope ∙ ap (option_or (lookup (same_name v) added)) (in_scope.same v)
          ∙ not_both v (lookup (same_name v) added) (lookup (same_name v) vars) refl refl ∙ sym (lookup_append v vars added);
      known_types = λ v of is. known_inside v of (lookup (same_name v) vars) refl (sym (lookup_append v vars added) ∙ is);
    }

pub bound_is : (vars added : Variables) → bound vars (vars ++ added) ≡ map typed added
bound_is vars added = ap (map typed) (drop-append_seam vars added)
