-- The types that are read reach `object`.
use Rattle.std.proofs.Common.{◌≡◌, ℕ, zero, suc, ◌+◌, ◌≤◌, Bool, true, false, true≢false, ◌||◌, if◌then◌else◌, List, [], ◌∷◌, ◌++◌, map, length, Option, Some, None, append_assoc, refl, ap, sym, ◌∙◌, subst, inl, inr, arith}
use Rattle.std.specs.Prelude.{is_some}
use Rattle.std.specs.Map.{lookup}
use Rattle.std.specs.Option.{option_or, option_map_or}
use Rattle.std.specs.Cmp.Lexicographic.{bytes_decides}
use Rattle.std.proofs.lemmas.List.{append-nil, map-append, length-append}
use Rattle.up_text.specs.declared.name.Name.{Name}
use Rattle.up_text.specs.Names.{IsName, same_name, reserved_words}
use Rattle.up_text.specs.Lists.{Every, Member}
use Rattle.pddl_lex.specs.Parses.{parsed}
use Rattle.pddl_parse.specs.declared.raw.Ident.{Ident}
use Rattle.pddl_parse.specs.declared.raw.RawGroup.{RawGroup}
use Rattle.up_tree.specs.Objects.{chain}
use Rattle.up_tree.specs.WellFormed.{AreDeclared, top_type}
use Rattle.up_phrase.specs.declared.reason.Reason.TheVariants.{TypeCycle}
use Rattle.up_phrase.specs.Named.{at, object, is_object}
use Rattle.up_phrase.specs.Scopes.{type_named, typed}
use Rattle.up_declare.specs.Types.{Types, parent_in, with_type, with_names, with_groups, with_parents, leaves, reaches, reason_at, fault_at, name_faults, type_faults, types}
use Rattle.wellformed_phrases.specs.LawfulPhrases.{HaveNames}
use Rattle.wellformed_phrases.specs.SoundTypes.{AreSoundTypes, IsNamedType, HaveNamedTypes}
use Rattle.wellformed_phrases.proofs.Parses.{parsed_behind, none_before, none_behind}
use Rattle.wellformed_phrases.proofs.Tables.{type_found}
use Rattle.wellformed_phrases.proofs.Members.{every_as, every_append, names_in, there, lookup_append, found_is, found_named, member_map, either_true}
use Rattle.wellformed_phrases.proofs.Facts.{differ_more}
use Rattle.wellformed_phrases.specs.Agreement.{IfParsed}

-- ---- one more type

-- a property of tables that one more type keeps, if its name isn't `object` and is new
with_type_is : (P : Types → Type 0) (name parent : Name) (ts : Types) → P ts
    → (is_object name ≡ false → parent_in ts name ≡ None → P (ts ++ (name, parent) ∷ [])) → P (with_type name parent ts)
with_type_is P name parent ts is more = by (is_object name) refl (parent_in ts name) refl
  where
    by : (a : Bool) → is_object name ≡ a → (o : Option Name) → parent_in ts name ≡ o → P (if a || is_some o then ts else ts ++ (name, parent) ∷ [])
    by true top o e = is
    by false other (Some p) e = is
    by false other None e = more other e

record AreNew (ts : Types) : Type 0 where
  names : AreDeclared (names_in ts)
  top_free : ¬ Member top_type (names_in ts)

new_more : (name parent : Name) (ts : Types) → IsName name → AreNew ts → AreNew (with_type name parent ts)
new_more name parent ts named new =
    with_type_is AreNew name parent ts new (λ other none. record {
      names = subst AreDeclared (sym (map-append (λ (e : Name × Name). e.0) ts ((name, parent) ∷ []))) (record {
        names_all = every_append IsName (names_in ts) (name ∷ []) new.names.names_all (named, tt);
        differ = differ_more (names_in ts) name new.names.differ (λ m. true≢false (sym (there name ts m) ∙ ap is_some none));
      });
      top_free = λ m. either other ts (subst (Member top_type) (map-append (λ (e : Name × Name). e.0) ts ((name, parent) ∷ [])) m) new.top_free;
    })
  where
    either : is_object name ≡ false → (es : Types) → Member top_type (names_in es ++ name ∷ []) → (¬ Member top_type (names_in es)) → ⊥
    either other [] (inl is) fresh = true≢false (sym ((bytes_decides name object).1 (sym is)) ∙ other)
    either other [] (inr m) fresh = m
    either other (e ∷ es) (inl is) fresh = fresh (inl is)
    either other (e ∷ es) (inr m) fresh = either other es m (λ k. fresh (inr k))

top_named : IsName object
unfolding reserved_words
top_named = record { spelled = refl; free = refl }

type_named_is : (of : Option Ident) → IsNamedType of → IsName (type_named of)
type_named_is None is = top_named
type_named_is (Some of) is = is

names_new : (parent : Name) (items : List Ident) (ts : Types) → Every (λ (it : Ident). IsName it.name) items → AreNew ts → AreNew (with_names parent items ts)
names_new parent [] ts named new = new
names_new parent (it ∷ others) ts named new = names_new parent others (with_type it.name parent ts) named.1 (new_more it.name parent ts named.0 new)

groups_new : (groups : List RawGroup) (ts : Types) → HaveNames groups → AreNew ts → AreNew (with_groups groups ts)
groups_new [] ts named new = new
groups_new (group ∷ others) ts named new =
    groups_new others (with_names (type_named group.of) group.names ts) named.1 (names_new (type_named group.of) group.names ts named.0 new)

parents_new : (groups : List RawGroup) (ts : Types) → HaveNamedTypes groups → AreNew ts → AreNew (with_parents groups ts)
parents_new [] ts named new = new
parents_new (group ∷ others) ts named new =
    parents_new others (with_type (type_named group.of) object ts) named.1 (new_more (type_named group.of) object ts (type_named_is group.of named.0) new)

-- ---- what stands only as a parent stands under `object`

record Grown (before after : Types) : Type 0 where
  extra : Types
  is : after ≡ before ++ extra
  top : Every (λ e. e.1 ≡ object) extra

grown_more : (before ts : Types) (name : Name) → Grown before ts → Grown before (with_type name object ts)
grown_more before ts name g =
    with_type_is (Grown before) name object ts g (λ other none.
    record {
      extra = g.extra ++ (name, object) ∷ [];
      is = ap (λ es. es ++ (name, object) ∷ []) g.is ∙ append_assoc before g.extra ((name, object) ∷ []);
      top = every_append (λ e. e.1 ≡ object) g.extra ((name, object) ∷ []) g.top (refl, tt);
    })

parents_grown : (groups : List RawGroup) (before ts : Types) → Grown before ts → Grown before (with_parents groups ts)
parents_grown [] before ts g = g
parents_grown (group ∷ others) before ts g = parents_grown others before (with_type (type_named group.of) object ts) (grown_more before ts (type_named group.of) g)

-- ---- parents are types

abbrev IsKnown : Types → Name → Type 0
IsKnown ts t = (is_object t || is_some (parent_in ts t)) ≡ true

known_append : (ts more : Types) (t : Name) → IsKnown ts t → IsKnown (ts ++ more) t
known_append ts more t is = by (is_object t) (parent_in ts t) refl is
  where
    by : (a : Bool) (o : Option Name) → parent_in ts t ≡ o → (a || is_some o) ≡ true → (a || is_some (parent_in (ts ++ more) t)) ≡ true
    by true o e h = refl
    by false None e h = absurd (true≢false (sym h))
    by false (Some p) e h = ap is_some (lookup_append t ts more ∙ ap (λ o. option_or o (parent_in more t)) e)

known_with : (t name parent : Name) (ts : Types) → IsKnown ts t → IsKnown (with_type name parent ts) t
known_with t name parent ts is = with_type_is (λ es. IsKnown es t) name parent ts is (λ other none. known_append ts ((name, parent) ∷ []) t is)

known_itself : (name parent : Name) (ts : Types) → IsKnown (with_type name parent ts) name
known_itself name parent ts = by (is_object name) refl (parent_in ts name) refl
  where
    here : lookup (same_name name) ((name, parent) ∷ []) ≡ Some parent
    here = rw ((bytes_decides name name).1 refl) refl

    by : (a : Bool) → is_object name ≡ a → (o : Option Name) → parent_in ts name ≡ o
        → (is_object name || is_some (parent_in (if a || is_some o then ts else ts ++ (name, parent) ∷ []) name)) ≡ true
    by true top o e = rw top refl
    by false other (Some p) e = rw (other, e) refl
    by false other None e = rw (other, lookup_append name ts ((name, parent) ∷ []), e, here) refl

parents_keep : (groups : List RawGroup) (ts : Types) (t : Name) → IsKnown ts t → IsKnown (with_parents groups ts) t
parents_keep [] ts t is = is
parents_keep (group ∷ others) ts t is = parents_keep others (with_type (type_named group.of) object ts) t (known_with t (type_named group.of) object ts is)

parents_known : (groups : List RawGroup) (ts : Types) → Every (λ (group : RawGroup). IsKnown (with_parents groups ts) (type_named group.of)) groups
parents_known groups ts = from groups ts
  where
    from : (gs : List RawGroup) (es : Types) → Every (λ (group : RawGroup). IsKnown (with_parents gs es) (type_named group.of)) gs
    from [] es = tt
    from (group ∷ others) es = (
      parents_keep others (with_type (type_named group.of) object es) (type_named group.of) (known_itself (type_named group.of) object es),
      from others (with_type (type_named group.of) object es),
    )

-- each parent is one of these
abbrev OfGroups : (Name → Type 0) → Types → Type 0
OfGroups P ts = Every (λ e. P e.1) ts

names_of_groups : (P : Name → Type 0) (parent : Name) (items : List Ident) (ts : Types) → P parent → OfGroups P ts → OfGroups P (with_names parent items ts)
names_of_groups P parent [] ts is are = are
names_of_groups P parent (it ∷ others) ts is are =
    names_of_groups P parent others (with_type it.name parent ts) is (more it.name)
  where
    more : (name : Name) → OfGroups P (with_type name parent ts)
    more name = with_type_is (OfGroups P) name parent ts are (λ other none. every_append (λ e. P e.1) ts ((name, parent) ∷ []) are (is, tt))

groups_of_groups : (P : Name → Type 0) (groups : List RawGroup) (ts : Types) → Every (λ (group : RawGroup). P (type_named group.of)) groups → OfGroups P ts → OfGroups P (with_groups groups ts)
groups_of_groups P [] ts ps are = are
groups_of_groups P (group ∷ others) ts ps are =
    groups_of_groups P others (with_names (type_named group.of) group.names ts) ps.1 (names_of_groups P (type_named group.of) group.names ts ps.0 are)

-- ---- each listed type leaves the list

module _ (all : Types) where
  abbrev AllReach : Types → Type 0
  AllReach seen = Every (λ e. reaches all e.0 ≡ true) seen

  reach_more : (seen : Types) (parent : Name) (it : Ident) → fault_at all seen parent it ≡ [] → AllReach seen → AllReach (with_type it.name parent seen)
  reach_more seen parent it none are =
      with_type_is AllReach it.name parent seen are (λ other new. every_append (λ e. reaches all e.0 ≡ true) seen ((it.name, parent) ∷ []) are (here other new (reaches all it.name) refl none, tt))
    where
      here : is_object it.name ≡ false → parent_in seen it.name ≡ None → (b : Bool) → reaches all it.name ≡ b → fault_at all seen parent it ≡ [] → b ≡ true
      here other new true is e = refl
      here other new false is e =
          let cycle : reason_at all seen parent it.name ≡ Some TypeCycle = rw (other, new, is) refl in
          let fault : fault_at all seen parent it ≡ at it.place TypeCycle it.name ∷ [] = ap (λ r. option_map_or (λ reason. at it.place reason it.name ∷ []) r []) cycle in cc

  names_reach : (seen : Types) (parent : Name) (items : List Ident) → name_faults all seen parent items ≡ [] → AllReach seen → AllReach (with_names parent items seen)
  names_reach seen parent [] none are = are
  names_reach seen parent (it ∷ others) none are =
      names_reach (with_type it.name parent seen) parent others (none_behind (fault_at all seen parent it) _ none) (reach_more seen parent it (none_before (fault_at all seen parent it) _ none) are)

  groups_reach : (seen : Types) (groups : List RawGroup) → type_faults all seen groups ≡ [] → AllReach seen → AllReach (with_groups groups seen)
  groups_reach seen [] none are = are
  groups_reach seen (group ∷ others) none are =
      groups_reach (with_names (type_named group.of) group.names seen) others (none_behind (name_faults all seen (type_named group.of) group.names) _ none)
      (names_reach seen (type_named group.of) group.names (none_before (name_faults all seen (type_named group.of) group.names) _ none) are)

-- ---- and reaches `object`

module _ (listed extra : Types) (top : Every (λ e. e.1 ≡ object) extra) (parents : Every (λ e. IsKnown (listed ++ extra) e.1) listed) where
  abbrev Reaches : ℕ → Name → Type 0
  Reaches m t = Member top_type (chain (map typed (listed ++ extra)) m t)

  first_is : (m : ℕ) (t : Name) → is_object t ≡ true → Reaches m t
  first_is zero t is = inl (sym ((bytes_decides t object).0 is))
  first_is (suc m) t is = inl (sym ((bytes_decides t object).0 is))

  parent_there : (t parent : Name) (m : ℕ) → parent_in (listed ++ extra) t ≡ Some parent → Reaches m parent → Reaches (suc m) t
  parent_there t parent m is so = inr (rw (type_found (listed ++ extra) t, is) so)

  some_long : (t parent : Name) → parent_in extra t ≡ Some parent → 1 ≤ length extra
  some_long t parent is = by extra is
    where
      by : (es : Types) → parent_in es t ≡ Some parent → 1 ≤ length es
      by [] e = absurd (true≢false (sym (ap is_some e)))
      by (e ∷ es) _ = omega arith

  outside : (m : ℕ) (t : Name) → IsKnown (listed ++ extra) t → parent_in listed t ≡ None → length extra ≤ m → Reaches m t
  outside m t known none long = by (is_object t) refl (parent_in extra t) refl m long
    where
      by : (a : Bool) → is_object t ≡ a → (o : Option Name) → parent_in extra t ≡ o → (k : ℕ) → length extra ≤ k → Reaches k t
      by true is o e k less = first_is k t is
      by false other None e k less =
          absurd (true≢false (sym known ∙ rw (other, lookup_append t listed extra, none, e) refl))
      by false other (Some parent) e zero less = (let some = some_long t parent e in absurd (omega (arith, some, less)))
      by false other (Some parent) e (suc k) less =
          parent_there t parent k (lookup_append t listed extra ∙ ap (λ o. option_or o (parent_in extra t)) none ∙ e)
          (first_is k parent ((bytes_decides parent object).1 (found_is t (λ n. n ≡ object) extra parent top e)))

  reached : (n m : ℕ) (t : Name) → IsKnown (listed ++ extra) t → leaves listed (suc n) t ≡ true → n + length extra ≤ m → Reaches m t
  reached zero m t known e long = by (parent_in listed t) refl e
    where
      by : (o : Option Name) → parent_in listed t ≡ o → option_map_or (λ parent. leaves listed zero parent) o true ≡ true → Reaches m t
      by None is e = outside m t known is (omega (long, arith))
      by (Some parent) is e = absurd (true≢false (sym e))
  reached (suc k) m t known e long = by m long (parent_in listed t) refl e (λ l parent. reached k l parent)
    where
      by : (l : ℕ) → suc k + length extra ≤ l → (o : Option Name) → parent_in listed t ≡ o → option_map_or (λ parent. leaves listed (suc k) parent) o true ≡ true
          → ((l : ℕ) (parent : Name) → IsKnown (listed ++ extra) parent → leaves listed (suc k) parent ≡ true → k + length extra ≤ l → Reaches l parent) → Reaches l t
      by l less None is e rest = outside l t known is (omega (less, arith))
      by zero less (Some parent) is e rest = absurd (omega (less, arith))
      by (suc l) less (Some parent) is e rest =
          parent_there t parent l (lookup_append t listed extra ∙ ap (λ o. option_or o (parent_in extra t)) is)
          (rest l parent (found_is t (IsKnown (listed ++ extra)) listed parent parents is) e (omega (less, arith)))

  module _ (all_reach : Every (λ e. reaches listed e.0 ≡ true) listed) where
    reach_named : (t : Name) (es : Types) → Every (λ e. reaches listed e.0 ≡ true) es → Member t (names_in es) → reaches listed t ≡ true
    reach_named t [] are m = absurd m
    reach_named t (e ∷ es) are (inl same) = subst (λ n. reaches listed n ≡ true) (sym same) are.0
    reach_named t (e ∷ es) are (inr m) = reach_named t es are.1 m

    size : length listed + length extra ≤ length (listed ++ extra)
    size = (let both = length-append listed extra in omega (both, arith))

    known_reached : (t : Name) → IsKnown (listed ++ extra) t → Reaches (length (listed ++ extra)) t
    known_reached t known = by (parent_in listed t) refl
      where
        by : (o : Option Name) → parent_in listed t ≡ o → Reaches (length (listed ++ extra)) t
        by None is = outside (length (listed ++ extra)) t known is (let less = size in omega (less, arith))
        by (Some parent) is =
            let reach : reaches listed t ≡ true = reach_named t listed all_reach (found_named t listed parent is) in
            reached (length listed) (length (listed ++ extra)) t known (let next : length listed + 1 ≡ suc (length listed) = omega arith in subst (λ n. leaves listed n t ≡ true) next reach) size

every_self : {X : Type 0} (P : X → Type 0) (xs : List X) → ((x : X) → Member x xs → P x) → Every P xs
every_self P [] h = tt
every_self P (x ∷ xs) h = (h x (inl refl), every_self P xs (λ y m. h y (inr m)))

entry_known : (ts : Types) (e : Name × Name) → Member e ts → IsKnown ts e.0
entry_known ts e m = either_true (is_object e.0) (is_some (parent_in ts e.0)) (there e.0 ts (member_map (λ (x : Name × Name). x.0) e ts m))

object_known : (ts : Types) (t : Name) → t ≡ object → IsKnown ts t
object_known ts t is = rw ((bytes_decides t object).1 is) refl

sound_grown : (listed final : Types) → AreNew final → (g : Grown listed final) → Every (λ e. IsKnown final e.1) listed
    → Every (λ e. reaches listed e.0 ≡ true) listed → AreSoundTypes final
sound_grown listed final new g known reach =
    let known_here : Every (λ e. IsKnown (listed ++ g.extra) e.1) listed = subst (λ ts. Every (λ e. IsKnown ts e.1) listed) g.is known in
    let in_extra : Every (λ e. IsKnown (listed ++ g.extra) e.1) g.extra =
    every_as (λ e. e.1 ≡ object) (λ e. IsKnown (listed ++ g.extra) e.1) g.extra (λ e is. object_known (listed ++ g.extra) e.1 is) g.top in
    let parents : Every (λ e. IsKnown (listed ++ g.extra) e.1) (listed ++ g.extra) = every_append (λ e. IsKnown (listed ++ g.extra) e.1) listed g.extra known_here in_extra in
    let chains : Every (λ e. Member top_type (chain (map typed (listed ++ g.extra)) (length (listed ++ g.extra)) e.0)) (listed ++ g.extra) =
    every_self (λ e. Member top_type (chain (map typed (listed ++ g.extra)) (length (listed ++ g.extra)) e.0)) (listed ++ g.extra)
    (λ e m. known_reached listed g.extra g.top known_here reach e.0 (entry_known (listed ++ g.extra) e m)) in
    record {
      names = new.names;
      top_free = new.top_free;
      parents = subst (λ ts. Every (λ e. IsKnown ts e.1) ts) (sym g.is) parents;
      chains = subst (λ ts. Every (λ e. Member top_type (chain (map typed ts) (length ts) e.0)) ts) (sym g.is) chains;
    }

pub types_are_sound : (groups : List RawGroup) → HaveNames groups → HaveNamedTypes groups → IfParsed (types groups) AreSoundTypes
types_are_sound groups named types_named =
    parsed_behind AreSoundTypes (type_faults (with_groups groups []) [] groups) (parsed (with_parents groups (with_groups groups []))) (λ none.
    sound_grown (with_groups groups []) (with_parents groups (with_groups groups []))
    (parents_new groups (with_groups groups []) types_named (groups_new groups [] named (record { names = record { names_all = tt; differ = tt }; top_free = λ m. m })))
    (parents_grown groups (with_groups groups []) (with_groups groups []) (record { extra = []; is = sym (append-nil (with_groups groups [])); top = tt }))
    (groups_of_groups (IsKnown (with_parents groups (with_groups groups []))) groups [] (parents_known groups (with_groups groups [])) tt)
    (groups_reach (with_groups groups []) [] groups none tt))
