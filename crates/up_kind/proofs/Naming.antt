-- Entries are put into a table from the last one on.
use Rattle.std.proofs.Common.{◌≡◌, ℕ, cond, Bool, true, false, List, [], ◌∷◌, ◌++◌, length, Option, Some, None, refl, ap, sym, ◌∙◌}
use Rattle.std.specs.Prelude.{find}
use Rattle.std.specs.Borrow.{Bor}
use Rattle.std.specs.Option.{option_copied, option_or}
use Rattle.std.proofs.lemmas.List.Folds.{find-append}
use Rattle.indexmap.specs.IndexMap.{IndexMap, get}
use Rattle.up_text.specs.Names.{same_name}
use Rattle.up_tree.specs.declared.term.Typed.{Typed}
use Rattle.up_tree.specs.declared.problem.Parts.{Parts}
use Rattle.up_tree.specs.declared.problem.Function.{Function}
use Rattle.up_kind.specs.Tables.{under, HasTyped, HasFunctions}

abbrev pub found : {X : Type 0} → (X → List ℕ) → List X → List ℕ → Option X
found key xs name = find (λ x. same_name (key x) name) xs

-- the entries that aren't in the table yet, and after them those that are
pub record HasBehind {X : Type 0} {S : Type 0} (key : X → List ℕ) (table : IndexMap (List ℕ) (Bor X) S) (rest m : List X) : Type 0 where
  pub each : (name : List ℕ) → found key m name ≡ option_or (found key rest name) (under table name)

or_none : {X : Type 0} (x : Option X) → x ≡ option_or x None
or_none None = refl
or_none (Some e) = refl

or_one : {X : Type 0} (x : Option X) (b : Bool) (e : Bor X) (table : Option (Bor X))
    → option_or (option_or x (cond b (Some e.now) None)) (option_copied table) ≡ option_or x (option_copied (cond b (Some e) table))
or_one None true e table = refl
or_one None false e table = refl
or_one (Some x) b e table = refl

pub behind_none : {X S : Type 0} (key : X → List ℕ) (table : IndexMap (List ℕ) (Bor X) S) (m : List X) → ((name : List ℕ) → get same_name table name ≡ None)
    → HasBehind key table m m
behind_none key table m none = record {
  each = λ name. or_none (found key m name) ∙ ap (λ t. option_or (found key m name) (option_copied t)) (sym (none name));
}

pub behind_more : {X S : Type 0} (key : X → List ℕ) (old new : IndexMap (List ℕ) (Bor X) S) (rest others m : List X) (e : Bor X) (name_of : List ℕ)
    → rest ≡ others ++ e.now ∷ [] → name_of ≡ key e.now
    → ((name : List ℕ) → get same_name new name ≡ cond (same_name name_of name) (Some e) (get same_name old name))
    → HasBehind key old rest m → HasBehind key new others m
behind_more key old new rest others m e name_of is name_is updated behind = record {
  each = λ name.
      behind.each name
      ∙ ap (λ row. option_or (found key row name) (under old name)) is
      ∙ ap (λ f. option_or f (under old name)) (find-append (λ x. same_name (key x) name) others (e.now ∷ []))
      ∙ or_one (found key others name) (same_name (key e.now) name) e (get same_name old name)
      ∙ ap (λ t. option_or (found key others name) (option_copied t))
      (ap (λ k. cond (same_name k name) (Some e) (get same_name old name)) (sym name_is) ∙ sym (updated name));
}

no_length : {X : Type 0} (m : List X) → length m ≡ 0 → m ≡ []
no_length [] none = refl
no_length (e ∷ m) none = absurd cc

behind_all : {X S : Type 0} (key : X → List ℕ) (table : IndexMap (List ℕ) (Bor X) S) (rest m : List X) → length rest ≡ 0 → HasBehind key table rest m
    → (name : List ℕ) → under table name ≡ found key m name
behind_all key table rest m is behind name =
    sym (behind.each name ∙ ap (λ row. option_or (found key row name) (under table name)) (no_length rest is))

pub typed_all : {S : Type 0} (table : IndexMap (List ℕ) (Bor Typed) S) (rest m : List Typed) → length rest ≡ 0 → HasBehind (λ (e : Typed). e.name) table rest m → HasTyped table m
typed_all table rest m is behind = record { each = behind_all (λ (e : Typed). e.name) table rest m is behind }

pub functions_all : {S : Type 0} (table : IndexMap (List ℕ) (Bor Function) S) (rest : List Function) (p : Parts) → length rest ≡ 0
    → HasBehind (λ (d : Function). d.name) table rest p.functions → HasFunctions table p
functions_all table rest p is behind = record { each = behind_all (λ (d : Function). d.name) table rest p.functions is behind }

pub ruleset naming = (behind_none, typed_all, functions_all)
