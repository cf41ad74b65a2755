-- A list of types declares types exactly where it is read as them.
use Rattle.std.proofs.Common.{◌≡◌, ℕ, zero, suc, ◌+◌, Bool, true, false, true≢false, List, [], ◌∷◌, ◌++◌, length, Option, Some, None, refl, ap, sym, ◌∙◌, subst, inl, inr, arith}
use Rattle.std.specs.Prelude.{◌⊎◌, ⊤, is_some, ◌↔◌}
use Rattle.std.specs.Option.{option_map_or}
use Rattle.std.specs.Cmp.Lexicographic.{bytes_decides}
use Rattle.up_text.specs.declared.name.Name.{Name}
use Rattle.up_text.specs.Names.{same_name}
use Rattle.up_text.specs.Lists.{Member}
use Rattle.pddl_lex.specs.Parses.{parsed, behind, faults}
use Rattle.pddl_parse.specs.declared.raw.Ident.{Ident}
use Rattle.pddl_parse.specs.declared.raw.RawGroup.{RawGroup}
use Rattle.up_phrase.specs.declared.reason.Reason.{Reason}
use Rattle.up_phrase.specs.declared.reason.Reason.TheVariants.{Duplicate, TypeCycle}
use Rattle.up_phrase.specs.declared.fault.Fault.{Fault}
use Rattle.up_phrase.specs.Named.{at, object, is_object}
use Rattle.up_phrase.specs.Scopes.{type_named}
use Rattle.up_declare.specs.Types.{parent_in, with_type, with_names, with_groups, with_parents, leaves, reaches, reason_at, fault_at, name_faults, type_faults, types}
use Rattle.grammar_names.specs.DeclaredTypes.{Parents, listed, stated, ReachesObject, at_object, unlisted, under_parent, EachOnce, DeclareTypes}
use Rattle.up_declare.proofs.Chains.{leaves_none, leaves_some, enough}
use Rattle.grammar_names.proofs.Found.{IsRead, faultless, no_fault}
use Rattle.grammar_names.proofs.Once.{member_either}
use Rattle.grammar_names.proofs.Parses.{none_before, none_behind}
use Rattle.grammar_names.proofs.TypeTables.{with_all, all_append, entries, names_all, groups_all, parents_all, Added, added, find_front, find_last, found_member, once_all, Kept, keeps, on_top, there, new}

-- ---- where no fault is found

abbrev Faultless : Parents → Parents → Parents → Type 0
Faultless all seen [] = ⊤
Faultless all seen (e ∷ es) = (reason_at all seen e.1 e.0 ≡ None) × Faultless all (with_type e.0 e.1 seen) es

no_reason : (all seen : Parents) (parent : Name) (it : Ident) → fault_at all seen parent it ≡ [] → reason_at all seen parent it.name ≡ None
no_reason all seen parent it e = by (reason_at all seen parent it.name) e
  where
    by : (r : Option Reason) → option_map_or (λ reason. at it.place reason it.name ∷ []) r [] ≡ [] → r ≡ None
    by None e = refl
    by (Some r) e = cc

faultless_both : (all es more seen : Parents) → Faultless all seen es → Faultless all (with_all es seen) more → Faultless all seen (es ++ more)
faultless_both all [] more seen a b = b
faultless_both all (e ∷ es) more seen a b = (a.0, faultless_both all es more (with_type e.0 e.1 seen) a.1 b)

faultless_front : (all es more seen : Parents) → Faultless all seen (es ++ more) → Faultless all seen es
faultless_front all [] more seen f = tt
faultless_front all (e ∷ es) more seen f = (f.0, faultless_front all es more (with_type e.0 e.1 seen) f.1)

faultless_back : (all es more seen : Parents) → Faultless all seen (es ++ more) → Faultless all (with_all es seen) more
faultless_back all [] more seen f = f
faultless_back all (e ∷ es) more seen f = faultless_back all es more (with_type e.0 e.1 seen) f.1

names_faultless : (all seen : Parents) (parent : Name) (items : List Ident) → name_faults all seen parent items ≡ []
    → Faultless all seen (entries parent items)
names_faultless all seen parent [] e = tt
names_faultless all seen parent (it ∷ others) e = (
  no_reason all seen parent it (none_before (fault_at all seen parent it) _ e),
  names_faultless all (with_type it.name parent seen) parent others (none_behind (fault_at all seen parent it) _ e),
)

faultless_names : (all seen : Parents) (parent : Name) (items : List Ident) → Faultless all seen (entries parent items)
    → name_faults all seen parent items ≡ []
faultless_names all seen parent [] f = refl
faultless_names all seen parent (it ∷ others) f = rw f.0 (faultless_names all (with_type it.name parent seen) parent others f.1)

groups_faultless : (all seen : Parents) (groups : List RawGroup) → type_faults all seen groups ≡ [] → Faultless all seen (listed groups)
groups_faultless all seen [] e = tt
groups_faultless all seen (group ∷ others) e =
    let parent = type_named group.of in
    faultless_both all (entries parent group.names) (listed others) seen
    (names_faultless all seen parent group.names (none_before (name_faults all seen parent group.names) _ e))
    (subst (λ ts. Faultless all ts (listed others)) (names_all parent group.names seen)
    (groups_faultless all (with_names parent group.names seen) others (none_behind (name_faults all seen parent group.names) _ e)))

none_of_both : {X : Type 0} (xs ys : List X) → xs ≡ [] → ys ≡ [] → xs ++ ys ≡ []
none_of_both xs ys a b = rw a b

faultless_groups : (all seen : Parents) (groups : List RawGroup) → Faultless all seen (listed groups) → type_faults all seen groups ≡ []
faultless_groups all seen [] f = refl
faultless_groups all seen (group ∷ others) f =
    let parent = type_named group.of in
    none_of_both (name_faults all seen parent group.names) (type_faults all (with_names parent group.names seen) others)
    (faultless_names all seen parent group.names (faultless_front all (entries parent group.names) (listed others) seen f))
    (faultless_groups all (with_names parent group.names seen) others
    (subst (λ ts. Faultless all ts (listed others)) (sym (names_all parent group.names seen))
    (faultless_back all (entries parent group.names) (listed others) seen f)))

-- ---- entries that stand in a table

abbrev Within : Parents → Parents → Type 0
Within ts all = (e : Name × Name) → Member e ts → Member e all

within_more : (name parent : Name) (ts after all : Parents) → Added name parent ts after → Member (name, parent) all → Within ts all → Within after all
within_more name parent ts _ all (on_top is) m w = w
within_more name parent ts _ all (there p e) m w = w
within_more name parent ts _ all (new other e) m w = λ x n. by x (member_either x ts ((name, parent) ∷ []) n)
  where
    by : (x : Name × Name) → Member x ts ⊎ Member x ((name, parent) ∷ []) → Member x all
    by x (inl n) = w x n
    by x (inr (inl is)) = subst (λ y. Member y all) (sym is) m
    by x (inr (inr n)) = absurd n

within_all : (es ts all : Parents) → Within ts all → Within es all → Within (with_all es ts) all
within_all [] ts all w v = w
within_all ((name, parent) ∷ es) ts all w v =
    within_all es (with_type name parent ts) all
    (within_more name parent ts (with_type name parent ts) all (added name parent ts) (v (name, parent) (inl refl)) w) (λ e m. v e (inr m))

abbrev TopFree : Parents → Type 0
TopFree ts = (p : Name) → ¬ Member (object, p) ts

top_free_more : (name parent : Name) (ts after : Parents) → Added name parent ts after → TopFree ts → TopFree after
top_free_more name parent ts _ (on_top is) free = free
top_free_more name parent ts _ (there p e) free = free
top_free_more name parent ts _ (new other e) free = λ p n. by p (member_either {X = Name × Name} (object, p) ts ((name, parent) ∷ []) n)
  where
    by : (p : Name) → Member {X = Name × Name} (object, p) ts ⊎ Member {X = Name × Name} (object, p) ((name, parent) ∷ []) → ⊥
    by p (inl n) = free p n
    by p (inr (inl is)) = true≢false (sym ((bytes_decides name object).1 (sym (ap (λ e. e.0) is))) ∙ other)
    by p (inr (inr n)) = n

top_free_all : (es ts : Parents) → TopFree ts → TopFree (with_all es ts)
top_free_all [] ts free = free
top_free_all ((name, parent) ∷ es) ts free =
    top_free_all es (with_type name parent ts) (top_free_more name parent ts (with_type name parent ts) (added name parent ts) free)

stays_more : (n p name parent : Name) (ts after : Parents) → Added name parent ts after → parent_in ts n ≡ Some p → parent_in after n ≡ Some p
stays_more n p name parent ts _ (on_top is) e = e
stays_more n p name parent ts _ (there q f) e = e
stays_more n p name parent ts _ (new other f) e = find_front n p ts ((name, parent) ∷ []) e

stays : (n p : Name) (es ts : Parents) → parent_in ts n ≡ Some p → parent_in (with_all es ts) n ≡ Some p
stays n p [] ts e = e
stays n p (x ∷ es) ts e = stays n p es (with_type x.0 x.1 ts) (stays_more n p x.0 x.1 ts (with_type x.0 x.1 ts) (added x.0 x.1 ts) e)

is_added : (name parent : Name) (ts after : Parents) → Added name parent ts after → is_object name ≡ false → is_some (parent_in after name) ≡ true
is_added name parent ts _ (on_top is) other = absurd (true≢false (sym ((bytes_decides name object).1 is) ∙ other))
is_added name parent ts _ (there q f) other = ap is_some f
is_added name parent ts _ (new _ f) other = ap is_some (find_last name parent ts f)

some_stays : (n : Name) (es ts : Parents) → is_some (parent_in ts n) ≡ true → is_some (parent_in (with_all es ts) n) ≡ true
some_stays n es ts e = by (parent_in ts n) refl e
  where
    by : (o : Option Name) → parent_in ts n ≡ o → is_some o ≡ true → is_some (parent_in (with_all es ts) n) ≡ true
    by None is e = cc
    by (Some p) is e = ap is_some (stays n p es ts is)

is_found : (name p : Name) (es ts : Parents) → Member (name, p) es → is_object name ≡ false → is_some (parent_in (with_all es ts) name) ≡ true
is_found name p [] ts m other = absurd m
is_found name p (x ∷ es) ts (inl is) other =
    some_stays name es (with_type x.0 x.1 ts)
    (subst (λ n. is_some (parent_in (with_type n x.1 ts) name) ≡ true) (ap (λ e. e.0) is)
    (is_added name x.1 ts (with_type name x.1 ts) (added name x.1 ts) other))
is_found name p (x ∷ es) ts (inr m) other = is_found name p es (with_type x.0 x.1 ts) m other

-- ---- chains of parents

module _ (ls : Parents) where
  abbrev all : Parents
  all = with_all ls []

  all_within : Within all ls
  all_within = within_all ls [] ls (λ e m. absurd m) (λ e m. m)

  found_listed : (name p : Name) → parent_in all name ≡ Some p → Member (name, p) ls
  found_listed name p e = all_within (name, p) (found_member name p all e)

  no_top : parent_in all object ≡ None
  no_top = by (parent_in all object) refl
    where
      by : (o : Option Name) → parent_in all object ≡ o → o ≡ None
      by None e = refl
      by (Some p) e = absurd (top_free_all ls [] (λ q m. m) p (found_member object p all e))

  leaving : (n : ℕ) (name : Name) → leaves all n name ≡ true → ReachesObject ls name
  leaving zero name e = absurd (true≢false (sym e))
  leaving (suc n) name e = by (parent_in all name) refl (λ p. leaving n p)
    where
      apart : (b : Bool) → is_object name ≡ b → parent_in all name ≡ None → ReachesObject ls name
      apart true is none = subst (ReachesObject ls) (sym ((bytes_decides name object).0 is)) at_object
      apart false other none = unlisted name (λ p m. true≢false (sym (is_found name p ls [] m other) ∙ ap is_some none))

      by : (o : Option Name) → parent_in all name ≡ o → ((p : Name) → leaves all n p ≡ true → ReachesObject ls p) → ReachesObject ls name
      by None none up = apart (is_object name) refl none
      by (Some p) is up = under_parent name p (found_listed name p is) (up p (sym (leaves_some all n name p is) ∙ e))

  plus_one : (n : ℕ) → n + 1 ≡ suc n
  plus_one n = omega arith

  reaching : (name : Name) → reaches all name ≡ true → ReachesObject ls name
  reaching name e = leaving (length all + 1) name e

  record Leaves (name : Name) : Type 0 where
    steps : ℕ
    is : leaves all steps name ≡ true

  module _ (one_parent : (name one two : Name) → Member (name, one) ls → Member (name, two) ls → one ≡ two) where
    leaves_by : (name : Name) → ReachesObject ls name → Leaves name
    leaves_by _ at_object = record { steps = 1; is = leaves_none all 0 object no_top }
    leaves_by _ (unlisted name none) = by (parent_in all name) refl
      where
        by : (o : Option Name) → parent_in all name ≡ o → Leaves name
        by None e = record { steps = 1; is = leaves_none all 0 name e }
        by (Some p) e = absurd (none p (found_listed name p e))
    leaves_by _ (under_parent name parent m up) = by (parent_in all name) refl (leaves_by parent up)
      where
        by : (o : Option Name) → parent_in all name ≡ o → Leaves parent → Leaves name
        by None e rest = record { steps = 1; is = leaves_none all 0 name e }
        by (Some p) e rest =
            let same : p ≡ parent = one_parent name p parent (found_listed name p e) m in
            record { steps = suc rest.steps; is = leaves_some all rest.steps name p e ∙ ap (leaves all rest.steps) same ∙ rest.is }

    reached : (name : Name) → ReachesObject ls name → reaches all name ≡ true
    reached name r =
        let up = leaves_by name r in
        ap (λ n. leaves all n name) (plus_one (length all)) ∙ enough all up.steps name up.is

    -- ---- what no fault says

    module _ (on_top : (parent : Name) → Member (object, parent) ls → parent ≡ object)
        (no_cycle : (name parent : Name) → Member (name, parent) ls → ReachesObject ls name) where
      no_reason_here : (name parent : Name) (seen : Parents) → Within seen ls → Member (name, parent) ls → reason_at all seen parent name ≡ None
      no_reason_here name parent seen w m = by (is_object name) refl (parent_in seen name) refl
        where
          by : (b : Bool) → is_object name ≡ b → (o : Option Name) → parent_in seen name ≡ o → reason_at all seen parent name ≡ None
          by true is o e =
              let here : Member {X = Name × Name} (object, parent) ls = subst (λ n. Member {X = Name × Name} (n, parent) ls) ((bytes_decides name object).0 is) m in
              rw (is, (bytes_decides parent object).1 (on_top parent here)) refl
          by false other None e = rw (other, e, reached name (no_cycle name parent m)) refl
          by false other (Some p) e =
              let same : p ≡ parent = one_parent name p parent (w (name, p) (found_member name p seen e)) m in
              rw (other, e, (bytes_decides p parent).1 same) refl

      faultless_here : (es seen : Parents) → Within seen ls → Within es ls → Faultless all seen es
      faultless_here [] seen w v = tt
      faultless_here ((name, parent) ∷ es) seen w v = (
        no_reason_here name parent seen w (v (name, parent) (inl refl)),
        faultless_here es (with_type name parent seen)
            (within_more name parent seen (with_type name parent seen) ls (added name parent seen) (v (name, parent) (inl refl)) w) (λ e m. v e (inr m)),
      )

-- ---- what is so of entries without a fault

record IsSound (after : Parents) (name parent : Name) : Type 0 where
  on_top : is_object name ≡ true → parent ≡ object
  found : is_object name ≡ false → parent_in after name ≡ Some parent

module _ (top : Parents) where
  abbrev AllReach : Parents → Type 0
  AllReach ts = (e : Name × Name) → Member e ts → reaches top e.0 ≡ true

  module _ (name parent : Name) (seen : Parents) (none : reason_at top seen parent name ≡ None) where
    top_alone : is_object name ≡ true → parent ≡ object
    top_alone is = by (is_object parent) refl
      where
        by : (b : Bool) → is_object parent ≡ b → parent ≡ object
        by true e = (bytes_decides parent object).0 e
        by false e = let r : reason_at top seen parent name ≡ Some Duplicate = rw (is, e) refl in cc

    same_parent : (p : Name) → is_object name ≡ false → parent_in seen name ≡ Some p → p ≡ parent
    same_parent p other is = by (same_name p parent) refl
      where
        by : (b : Bool) → same_name p parent ≡ b → p ≡ parent
        by true e = (bytes_decides p parent).0 e
        by false e = let r : reason_at top seen parent name ≡ Some Duplicate = rw (other, is, e) refl in cc

    reaches_top : is_object name ≡ false → parent_in seen name ≡ None → reaches top name ≡ true
    reaches_top other new_here = by (reaches top name) refl
      where
        by : (b : Bool) → reaches top name ≡ b → b ≡ true
        by true e = refl
        by false e = let r : reason_at top seen parent name ≡ Some TypeCycle = rw (other, new_here, e) refl in cc

    sound_here : (after : Parents) → Added name parent seen after → IsSound after name parent
    sound_here _ (on_top is) =
        record { on_top = top_alone; found = λ other. absurd (true≢false (sym ((bytes_decides name object).1 is) ∙ other)) }
    sound_here _ (there p e) = record { on_top = top_alone; found = λ other. e ∙ ap Some (same_parent p other e) }
    sound_here _ (new other e) = record { on_top = top_alone; found = λ _. find_last name parent seen e }

    reach_more : (after : Parents) → Added name parent seen after → AllReach seen → AllReach after
    reach_more _ (on_top is) are = are
    reach_more _ (there p e) are = are
    reach_more _ (new other e) are = λ x m. by x (member_either x seen ((name, parent) ∷ []) m)
      where
        by : (x : Name × Name) → Member x seen ⊎ Member x ((name, parent) ∷ []) → reaches top x.0 ≡ true
        by x (inl m) = are x m
        by x (inr (inl is)) = ap (λ y. reaches top y.0) is ∙ reaches_top other e
        by x (inr (inr m)) = absurd m

  reach_all : (es seen : Parents) → Faultless top seen es → AllReach seen → AllReach (with_all es seen)
  reach_all [] seen f are = are
  reach_all ((name, parent) ∷ es) seen f are =
      reach_all es (with_type name parent seen) f.1
      (reach_more name parent seen f.0 (with_type name parent seen) (added name parent seen) are)

  sound_stays : (es ts : Parents) (name parent : Name) → IsSound ts name parent → IsSound (with_all es ts) name parent
  sound_stays es ts name parent s = record { on_top = s.on_top; found = λ other. stays name parent es ts (s.found other) }

  all_sound : (es seen : Parents) → Faultless top seen es → (e : Name × Name) → Member e es → IsSound (with_all es seen) e.0 e.1
  all_sound [] seen f e m = absurd m
  all_sound ((name, parent) ∷ es) seen f e (inl is) =
      subst (λ x. IsSound (with_all es (with_type name parent seen)) x.0 x.1) (sym is)
      (sound_stays es (with_type name parent seen) name parent
      (sound_here name parent seen f.0 (with_type name parent seen) (added name parent seen)))
  all_sound ((name, parent) ∷ es) seen f e (inr m) = all_sound es (with_type name parent seen) f.1 e m

-- ---- both ways

module _ (groups : List RawGroup) where
  abbrev found_all : Parents
  found_all = with_all (listed groups) []

  all_parents : with_parents groups (with_groups groups []) ≡ with_all (listed groups ++ stated groups) []
  all_parents = parents_all groups (with_groups groups []) ∙ ap (with_all (stated groups)) (groups_all groups []) ∙ sym (all_append (listed groups) (stated groups) [])

  behind_none : {F A : Type 0} (fs : List F) (a b : A) → fs ≡ [] → a ≡ b → behind fs (parsed a) ≡ parsed b
  behind_none fs a b e f = rw (e, f) refl

  pub types_read : (ts : Parents) → DeclareTypes groups ts → types groups ≡ parsed ts
  types_read ts d =
      let faultless_listed : Faultless found_all [] (listed groups) =
      faultless_here (listed groups) d.one_parent d.object_on_top d.no_cycle (listed groups) [] (λ e m. absurd m) (λ e m. m) in
      let none : type_faults (with_groups groups []) [] groups ≡ [] =
      subst (λ all. type_faults all [] groups ≡ []) (sym (groups_all groups [])) (faultless_groups found_all [] groups faultless_listed) in
      behind_none (type_faults (with_groups groups []) [] groups) (with_parents groups (with_groups groups [])) ts none
      (all_parents ∙ once_all [] (listed groups ++ stated groups) ts d.each_once)

  behind_parsed : {F A : Type 0} (fs : List F) (a b : A) → behind fs (parsed a) ≡ parsed b → fs ≡ []
  behind_parsed [] a b e = refl
  behind_parsed (f ∷ fs) a b e = cc

  behind_same : {F A : Type 0} (fs : List F) (a b : A) → behind fs (parsed a) ≡ parsed b → a ≡ b
  behind_same [] a b e = cc
  behind_same (f ∷ fs) a b e = cc

  some_injective : (a b : Name) → Some a ≡ Some b → a ≡ b
  some_injective a b e = cc

  pub types_declare : (ts : Parents) → types groups ≡ parsed ts → DeclareTypes groups ts
  types_declare ts e = record {
    one_parent = λ name one two m n. same name one two (sound (name, one) m) (sound (name, two) n);
    object_on_top = λ parent m. (sound (object, parent) m).on_top refl;
    no_cycle = λ name parent m. cycles name parent m (is_object name) refl;
    each_once = subst (EachOnce [] (listed groups ++ stated groups)) (sym kept.are ∙ sym all_parents ∙ behind_same fs (with_parents groups (with_groups groups [])) ts e) kept.once;
  }
    where
      fs : List Fault
      fs = type_faults (with_groups groups []) [] groups

      faultless_listed : Faultless found_all [] (listed groups)
      faultless_listed =
          groups_faultless found_all [] groups
          (subst (λ all. type_faults all [] groups ≡ []) (groups_all groups []) (behind_parsed fs (with_parents groups (with_groups groups [])) ts e))

      sound : (x : Name × Name) → Member x (listed groups) → IsSound found_all x.0 x.1
      sound x m = all_sound found_all (listed groups) [] faultless_listed x m

      same : (name one two : Name) → IsSound found_all name one → IsSound found_all name two → one ≡ two
      same name one two s t = by (is_object name) refl
        where
          by : (b : Bool) → is_object name ≡ b → one ≡ two
          by true is = s.on_top is ∙ sym (t.on_top is)
          by false other = some_injective one two (sym (s.found other) ∙ t.found other)

      cycles : (name parent : Name) → Member (name, parent) (listed groups) → (b : Bool) → is_object name ≡ b → ReachesObject (listed groups) name
      cycles name parent m true is = subst (ReachesObject (listed groups)) (sym ((bytes_decides name object).0 is)) at_object
      cycles name parent m false other =
          reaching (listed groups) name
          (reach_all found_all (listed groups) [] faultless_listed (λ x n. absurd n) (name, parent)
          (found_member name parent found_all ((sound (name, parent) m).found other)))

      kept : Kept [] (listed groups ++ stated groups) (with_all (listed groups ++ stated groups) [])
      kept = keeps (listed groups ++ stated groups) []

-- ---- the laws

pub types_law : (groups : List RawGroup) (declared : Parents) → DeclareTypes groups declared ↔ (types groups ≡ parsed declared)
types_law groups ts = (types_read groups ts, types_declare groups ts)

some_types : (groups : List RawGroup) → IsRead (types groups) → (ts : Parents) × DeclareTypes groups ts
some_types groups read = (read.value, types_declare groups read.value read.is)

pub faultless_law : (groups : List RawGroup) → ((declared : Parents) × DeclareTypes groups declared) ↔ (faults (types groups) ≡ [])
faultless_law groups = (
  (λ (ts, is). no_fault (types groups) ts (types_read groups ts is)),
  (λ none. some_types groups (faultless (types groups) none)),
)
