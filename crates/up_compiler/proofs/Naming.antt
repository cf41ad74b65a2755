-- Entries are put into a table from the last one on, and their names into a set.
use Rattle.std.proofs.Common.{◌≡◌, ℕ, cond, Bool, true, false, ◌||◌, List, [], ◌∷◌, ◌++◌, length, Option, Some, None, refl, ap, sym, ◌∙◌}
use Rattle.std.specs.Borrow.{Bor}
use Rattle.std.specs.Option.{option_copied, option_or}
use Rattle.std.proofs.lemmas.Bool.{false≢true}
use Rattle.std.proofs.lemmas.List.Folds.{find-append, list_any-append}
use Rattle.std.proofs.lemmas.Slice.Eq.{bytes_eq-Decides}
use Rattle.indexmap.specs.IndexMap.{IndexMap, get}
use Rattle.up_text.specs.Names.{same_name}
use Rattle.up_text.specs.Fresh.{is_among, with_name}
use Rattle.up_tree.specs.declared.action.Action.{Action}
use Rattle.up_compiler.specs.declared.back.Entry.{Entry}
use Rattle.up_compiler.specs.Back.{entry_named}
use Rattle.up_compiler.specs.Identity.{has_entry, identity_entry}
use Rattle.up_compiler.specs.Named.{HasEntries, AreNamed}

abbrev pub under : {S : Type 0} → IndexMap (List ℕ) (Bor Entry) S → List ℕ → Option Entry
under table name = option_copied (get same_name table name)

-- the entries that aren't in the table yet, and after them those that are
pub record HasBehind {S : Type 0} (table : IndexMap (List ℕ) (Bor Entry) S) (rest m : List Entry) : Type 0 where
  pub each : (name : List ℕ) → entry_named m name ≡ option_or (entry_named rest name) (under table name)

or_none : (found : Option Entry) → found ≡ option_or found None
or_none None = refl
or_none (Some e) = refl

or_one : (found : Option Entry) (b : Bool) (e : Bor Entry) (table : Option (Bor Entry))
    → option_or (option_or found (cond b (Some e.now) None)) (option_copied table) ≡ option_or found (option_copied (cond b (Some e) table))
or_one None true e table = refl
or_one None false e table = refl
or_one (Some x) b e table = refl

pub behind_none : {S : Type 0} (table : IndexMap (List ℕ) (Bor Entry) S) (m : List Entry) → ((name : List ℕ) → get same_name table name ≡ None) → HasBehind table m m
behind_none table m none = record {
  each = λ name. or_none (entry_named m name) ∙ ap (λ (t : Option (Bor Entry)). option_or (entry_named m name) (option_copied t)) (sym (none name));
}

pub behind_more : {S : Type 0} (old new : IndexMap (List ℕ) (Bor Entry) S) (rest others m : List Entry) (e : Bor Entry) (key : List ℕ) → rest ≡ others ++ e.now ∷ []
    → key ≡ e.now.action
    → ((name : List ℕ) → get same_name new name ≡ cond (same_name key name) (Some e) (get same_name old name))
    → HasBehind old rest m → HasBehind new others m
behind_more old new rest others m e key is key_is updated behind = record {
  each = λ name.
      behind.each name
      ∙ ap (λ (row : List Entry). option_or (entry_named row name) (under old name)) is
      ∙ ap (λ (f : Option Entry). option_or f (under old name)) (find-append (λ (x : Entry). same_name x.action name) others (e.now ∷ []))
      ∙ or_one (entry_named others name) (same_name e.now.action name) e (get same_name old name)
      ∙ ap (λ (t : Option (Bor Entry)). option_or (entry_named others name) (option_copied t))
      (ap (λ (k : List ℕ). cond (same_name k name) (Some e) (get same_name old name)) (sym key_is) ∙ sym (updated name));
}

no_length : (m : List Entry) → length m ≡ 0 → m ≡ []
no_length [] none = refl
no_length (e ∷ m) none = absurd cc

pub behind_all : {S : Type 0} (table : IndexMap (List ℕ) (Bor Entry) S) (rest m : List Entry) → length rest ≡ 0 → HasBehind table rest m → HasEntries table m
behind_all table rest m is behind = record {
  each = λ name. sym (behind.each name ∙ ap (λ (row : List Entry). option_or (entry_named row name) (under table name)) (no_length rest is));
}

pub ruleset naming = (behind_none, behind_all)

-- ---- names in a set

turned : (a b : List ℕ) → same_name a b ≡ same_name b a
turned a b = by (same_name a b) refl (same_name b a) refl
  where
    by : (x : Bool) → same_name a b ≡ x → (y : Bool) → same_name b a ≡ y → x ≡ y
    by true on true out = refl
    by false on false out = refl
    by true on false out = absurd (false≢true (sym out ∙ (bytes_eq-Decides b a).1 (sym ((bytes_eq-Decides a b).0 on))))
    by false on true out = absurd (false≢true (sym on ∙ (bytes_eq-Decides a b).1 (sym ((bytes_eq-Decides b a).0 out))))

pub named_none : (names : List (List ℕ)) (m : List Entry) → names ≡ [] → m ≡ [] → AreNamed names m
named_none names m none empty = record {
  each = λ name. ap (λ (row : List (List ℕ)). is_among row name) none ∙ sym (ap (λ (row : List Entry). has_entry row name) empty);
}

pub named_more : (names more : List (List ℕ)) (m others : List Entry) (a : Action) (name : List ℕ) → AreNamed names m → name ≡ a.name → is_among names a.name ≡ false
    → more ≡ with_name names name → others ≡ m ++ identity_entry a ∷ [] → AreNamed more others
named_more names more m others a name are is new with_more with_entry = record {
  each = λ q.
      ap (λ (row : List (List ℕ)). is_among row q) (with_more ∙ ap (with_name names) is ∙ ap (λ b. cond b names (names ++ a.name ∷ [])) new)
      ∙ list_any-append (same_name q) names (a.name ∷ [])
      ∙ (λ i. are.each q i || (turned q a.name i || false))
      ∙ sym (list_any-append (λ (e : Entry). same_name e.action q) m (identity_entry a ∷ []))
      ∙ sym (ap (λ (row : List Entry). has_entry row q) with_entry);
}
