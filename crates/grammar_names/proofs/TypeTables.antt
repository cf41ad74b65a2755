-- Tables of types, with one more type after the other.
use Rattle.std.proofs.Common.{◌≡◌, Bool, true, false, true≢false, ◌||◌, if◌then◌else◌, List, [], ◌∷◌, ◌++◌, map, Option, Some, None, append_assoc, append-nil, refl, ap, sym, ◌∙◌, subst, inl, inr}
use Rattle.std.specs.Prelude.{is_some}
use Rattle.std.specs.Cmp.Lexicographic.{bytes_decides}
use Rattle.up_text.specs.declared.name.Name.{Name}
use Rattle.up_text.specs.Names.{same_name}
use Rattle.up_text.specs.Lists.{Member}
use Rattle.pddl_parse.specs.declared.raw.Ident.{Ident}
use Rattle.pddl_parse.specs.declared.raw.RawGroup.{RawGroup}
use Rattle.up_phrase.specs.Named.{object, is_object}
use Rattle.up_phrase.specs.Scopes.{type_named}
use Rattle.up_declare.specs.Types.{parent_in, with_type, with_names, with_groups, with_parents}
use Rattle.grammar_names.specs.DeclaredTypes.{Parents, listed, stated, EachOnce, no_types, object_itself, repeated, first}

-- ---- entries one after the other

abbrev pub with_all : Parents → Parents → Parents
with_all [] ts = ts
with_all (e ∷ es) ts = with_all es (with_type e.0 e.1 ts)

pub all_append : (es more ts : Parents) → with_all (es ++ more) ts ≡ with_all more (with_all es ts)
all_append [] more ts = refl
all_append (e ∷ es) more ts = all_append es more (with_type e.0 e.1 ts)

abbrev pub entries : Name → List Ident → Parents
entries parent items = map (λ it. (it.name, parent)) items

pub names_all : (parent : Name) (items : List Ident) (ts : Parents) → with_names parent items ts ≡ with_all (entries parent items) ts
names_all parent [] ts = refl
names_all parent (it ∷ others) ts = names_all parent others (with_type it.name parent ts)

pub groups_all : (groups : List RawGroup) (ts : Parents) → with_groups groups ts ≡ with_all (listed groups) ts
groups_all [] ts = refl
groups_all (group ∷ others) ts =
    groups_all others (with_names (type_named group.of) group.names ts)
    ∙ ap (with_all (listed others)) (names_all (type_named group.of) group.names ts)
    ∙ sym (all_append (entries (type_named group.of) group.names) (listed others) ts)

pub parents_all : (groups : List RawGroup) (ts : Parents) → with_parents groups ts ≡ with_all (stated groups) ts
parents_all [] ts = refl
parents_all (group ∷ others) ts = parents_all others (with_type (type_named group.of) object ts)

-- ---- one more entry

pub data Added (name parent : Name) (ts : Parents) : Parents → Type 0 where
  on_top : name ≡ object → Added name parent ts ts
  there : (p : Name) → parent_in ts name ≡ Some p → Added name parent ts ts
  new : is_object name ≡ false → parent_in ts name ≡ None → Added name parent ts (ts ++ (name, parent) ∷ [])

pub added : (name parent : Name) (ts : Parents) → Added name parent ts (with_type name parent ts)
added name parent ts = by (is_object name) refl (parent_in ts name) refl
  where
    by : (a : Bool) → is_object name ≡ a → (o : Option Name) → parent_in ts name ≡ o
        → Added name parent ts (if a || is_some o then ts else ts ++ (name, parent) ∷ [])
    by true is o e = on_top ((bytes_decides name object).0 is)
    by false other (Some p) e = there p e
    by false other None e = new other e

pub same_itself : (name : Name) → same_name name name ≡ true
same_itself name = (bytes_decides name name).1 refl

pub find_front : (name p : Name) (es more : Parents) → parent_in es name ≡ Some p → parent_in (es ++ more) name ≡ Some p
find_front name p [] more e = cc
find_front name p (x ∷ es) more e = by (same_name name x.0) e (find_front name p es more)
  where
    by : (b : Bool) → (if b then Some x.1 else parent_in es name) ≡ Some p
        → (parent_in es name ≡ Some p → parent_in (es ++ more) name ≡ Some p) → (if b then Some x.1 else parent_in (es ++ more) name) ≡ Some p
    by true e rest = e
    by false e rest = rest e

pub find_last : (name p : Name) (es : Parents) → parent_in es name ≡ None → parent_in (es ++ (name, p) ∷ []) name ≡ Some p
find_last name p [] e = rw (same_itself name) refl
find_last name p (x ∷ es) e = by (same_name name x.0) e (find_last name p es)
  where
    by : (b : Bool) → (if b then Some x.1 else parent_in es name) ≡ None
        → (parent_in es name ≡ None → parent_in (es ++ (name, p) ∷ []) name ≡ Some p)
        → (if b then Some x.1 else parent_in (es ++ (name, p) ∷ []) name) ≡ Some p
    by true e rest = cc
    by false e rest = rest e

pub found_member : (name p : Name) (es : Parents) → parent_in es name ≡ Some p → Member (name, p) es
found_member name p [] e = cc
found_member name p (x ∷ es) e = by (same_name name x.0) refl e (found_member name p es)
  where
    by : (b : Bool) → same_name name x.0 ≡ b → (if b then Some x.1 else parent_in es name) ≡ Some p
        → (parent_in es name ≡ Some p → Member (name, p) es) → Member (name, p) (x ∷ es)
    by true is e rest = let named = (bytes_decides name x.0).0 is in let of : x.1 ≡ p = cc in inl (pair name p x named (sym of))
      where
        pair : (a b : Name) (x : Name × Name) → a ≡ x.0 → b ≡ x.1 → (a, b) ≡ x
        pair a b (c, d) s t = cc
    by false is e rest = inr (rest e)

pub named_found : (name : Name) (es : Parents) → Member name (map (λ e. e.0) es) → is_some (parent_in es name) ≡ true
named_found name [] m = absurd m
named_found name (x ∷ es) (inl is) = rw ((bytes_decides name x.0).1 is) refl
named_found name (x ∷ es) (inr m) = by (same_name name x.0) (named_found name es m)
  where
    by : (b : Bool) → is_some (parent_in es name) ≡ true → is_some (if b then Some x.1 else parent_in es name) ≡ true
    by true rest = refl
    by false rest = rest

pub member_named : (name p : Name) (es : Parents) → Member (name, p) es → Member name (map (λ e. e.0) es)
member_named name p [] m = absurd m
member_named name p (x ∷ es) (inl is) = inl (ap (λ e. e.0) is)
member_named name p (x ∷ es) (inr m) = inr (member_named name p es m)

-- ---- what is kept is what is added

pub once_all : (before es kept : Parents) → EachOnce before es kept → with_all es before ≡ before ++ kept
once_all _ _ _ (no_types before) = sym (append-nil before)
once_all _ _ _ (object_itself before parent es kept once) = once_all before es kept once
once_all _ _ _ (repeated before name parent es kept m once) = by (added name parent before) (once_all before es kept once)
  where
    by : {ts : Parents} → Added name parent before ts → with_all es before ≡ before ++ kept → with_all es ts ≡ before ++ kept
    by (on_top is) on = on
    by (there p e) on = on
    by (new other e) on = absurd (true≢false (sym (named_found name before m) ∙ ap is_some e))
once_all _ _ _ (first before name parent es kept other new_here once) =
    by (added name parent before) (once_all (before ++ (name, parent) ∷ []) es kept once)
  where
    by : {ts : Parents} → Added name parent before ts
        → with_all es (before ++ (name, parent) ∷ []) ≡ (before ++ (name, parent) ∷ []) ++ kept → with_all es ts ≡ before ++ (name, parent) ∷ kept
    by (on_top is) on = absurd (other is)
    by (there p e) on = absurd (new_here (member_named name p before (found_member name p before e)))
    by (new _ e) on = on ∙ append_assoc before ((name, parent) ∷ []) kept

pub record Kept (before es all : Parents) : Type 0 where
  pub kept : Parents
  pub once : EachOnce before es kept
  pub are : all ≡ before ++ kept

pub keeps : (es before : Parents) → Kept before es (with_all es before)
keeps [] before = record { kept = []; once = no_types before; are = sym (append-nil before) }
keeps ((name, parent) ∷ es) before = by (added name parent before) (keeps es (with_type name parent before))
  where
    by : {ts : Parents} → Added name parent before ts → Kept ts es (with_all es ts) → Kept before ((name, parent) ∷ es) (with_all es ts)
    by (on_top is) k =
        record { kept = k.kept; once = subst (λ n. EachOnce before ((n, parent) ∷ es) k.kept) (sym is) (object_itself before parent es k.kept k.once); are = k.are }
    by (there p e) k =
        record { kept = k.kept; once = repeated before name parent es k.kept (member_named name p before (found_member name p before e)) k.once; are = k.are }
    by (new other e) k =
        record {
          kept = (name, parent) ∷ k.kept;
          once = first before name parent es k.kept (λ is. true≢false (sym ((bytes_decides name object).1 is) ∙ other))
              (λ m. true≢false (sym (named_found name before m) ∙ ap is_some e)) k.once;
          are = k.are ∙ append_assoc before ((name, parent) ∷ []) k.kept;
        }
