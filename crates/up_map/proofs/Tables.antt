-- Entries are put into a table from the last one on.
use Rattle.std.proofs.Common.{◌≡◌, ℕ, cond, Bool, true, false, List, [], ◌∷◌, ◌++◌, length, Option, Some, None, refl, ap, sym, ◌∙◌, subst}
use Rattle.std.specs.Borrow.{Bor}
use Rattle.std.specs.Option.{option_copied, option_or}
use Rattle.std.proofs.lemmas.List.Folds.{find-append}
use Rattle.indexmap.specs.IndexMap.{IndexMap, get}
use Rattle.up_text.specs.Names.{same_name}
use Rattle.up_compiler.specs.declared.back.Entry.{Entry}
use Rattle.up_compiler.specs.Back.{entry_named}
use Rattle.up_text.specs.Lists.{Every}
use Rattle.up_compiler.specs.Back.{TargetFits}
use Rattle.up_map.specs.Named.{entry_under, HasEntries, IsFit, AllFit}

-- the entries that aren't in the table yet, and behind them those that are
pub record HasBehind {S : Type 0} (table : IndexMap (List ℕ) (Bor Entry) S) (rest m : List Entry) : Type 0 where
  pub each : (name : List ℕ) → entry_named m name ≡ option_or (entry_named rest name) (entry_under table name)

or_none : (found : Option Entry) → found ≡ option_or found None
or_none None = refl
or_none (Some e) = refl

or_one : (found : Option Entry) (b : Bool) (e : Bor Entry) (table : Option (Bor Entry))
    → option_or (option_or found (cond b (Some e.now) None)) (option_copied table) ≡ option_or found (option_copied (cond b (Some e) table))
or_one None true e table = refl
or_one None false e table = refl
or_one (Some x) b e table = refl

pub behind_none : {S : Type 0} (table : IndexMap (List ℕ) (Bor Entry) S) (m : List Entry) → ((name : List ℕ) → get same_name table name ≡ None) → HasBehind table m m
behind_none table m none = record {
  each = λ name. or_none (entry_named m name) ∙ ap (λ (t : Option (Bor Entry)). option_or (entry_named m name) (option_copied t)) (sym (none name));
}

pub behind_more : {S : Type 0} (old new : IndexMap (List ℕ) (Bor Entry) S) (rest others m : List Entry) (e : Bor Entry) (key : List ℕ) → rest ≡ others ++ e.now ∷ []
    → key ≡ e.now.action
    → ((name : List ℕ) → get same_name new name ≡ cond (same_name key name) (Some e) (get same_name old name))
    → HasBehind old rest m → HasBehind new others m
behind_more old new rest others m e key is key_is updated behind = record {
  each = λ name.
      behind.each name
      ∙ ap (λ (row : List Entry). option_or (entry_named row name) (entry_under old name)) is
      ∙ ap (λ (f : Option Entry). option_or f (entry_under old name)) (find-append (λ (x : Entry). same_name x.action name) others (e.now ∷ []))
      ∙ or_one (entry_named others name) (same_name e.now.action name) e (get same_name old name)
      ∙ ap (λ (t : Option (Bor Entry)). option_or (entry_named others name) (option_copied t))
      (ap (λ (k : List ℕ). cond (same_name k name) (Some e) (get same_name old name)) (sym key_is) ∙ sym (updated name));
}

no_length : (m : List Entry) → length m ≡ 0 → m ≡ []
no_length [] none = refl
no_length (e ∷ m) none = absurd cc

pub behind_all : {S : Type 0} (table : IndexMap (List ℕ) (Bor Entry) S) (rest m : List Entry) → length rest ≡ 0 → HasBehind table rest m → HasEntries table m
behind_all table rest m is behind name =
    sym (behind.each name ∙ ap (λ (row : List Entry). option_or (entry_named row name) (entry_under table name)) (no_length rest is))

-- ---- what a table has is what its entries have

fits_here : (m : List Entry) (name : List ℕ) → Every (λ (e : Entry). TargetFits e.arity e.target) m → IsFit (entry_named m name)
fits_here [] name all = tt
fits_here (e ∷ m) name all = by (same_name e.action name) (fits_here m name all.1)
  where
    by : (b : Bool) → IsFit (entry_named m name) → IsFit (cond b (Some e) (entry_named m name))
    by true rest = all.0
    by false rest = rest

pub all_fit : {S : Type 0} (table : IndexMap (List ℕ) (Bor Entry) S) (m : List Entry) → HasEntries table m
    → Every (λ (e : Entry). TargetFits e.arity e.target) m → AllFit table
all_fit table m has all = record { each = λ name. subst IsFit (sym (has name)) (fits_here m name all) }

pub ruleset tables = (behind_none, behind_all)
