-- The initial state of a well-formed problem is a state of it.
use Rattle.std.proofs.Common.{◌≡◌, Bool, true, false, true≢false, cond, ◌||◌, List, [], ◌∷◌, ◌++◌, map, length, arith, Option, Some, None, IsSome, refl, ap, sym, ◌∙◌, subst}
use Rattle.std.specs.Prelude.{unwrap_or}
use Rattle.std.specs.Ordering.{eq_by_cmp}
use Rattle.std.specs.List.{list_any}
use Rattle.std.specs.Cmp.{Equal-is}
use Rattle.std.specs.FinSet as set
use Rattle.std.specs.FinMap as table
use Rattle.up_text.specs.declared.name.Name.{Name}
use Rattle.up_text.specs.Lists.{Every}
use Rattle.up_tree.specs.declared.problem.Parts.{Parts}
use Rattle.up_tree.specs.declared.problem.Fact.{Fact}
use Rattle.up_tree.specs.declared.problem.NumberFact.{NumberFact}
use Rattle.up_tree.specs.declared.problem.ValueFact.{ValueFact}
use Rattle.up_tree.specs.State.{Ground, ground, ground_cmp, init}
use Rattle.up_tree.specs.StateOf.{IsGroundAtom, IsGroundNumber, IsGroundValue}
use Rattle.up_tree.specs.WellFormed.{IsFact, IsNumberFact, IsValueFact}
use Rattle.up_tree.proofs.States.{ground_total, ground_ties}
use Rattle.up_frac.specs.Fraction.{Fraction}
use Rattle.up_eval.specs.Initial.{ground_atoms, number_entries, value_entries, put_all, add_all, IsOfWellFormed}

pub tied : (q k : Ground) → eq_by_cmp ground_cmp q k ≡ true → q ≡ k
tied q k e = ground_ties q k ((Equal-is (ground_cmp q k)).0 e)

module _ {C : Type 0} (key : C → Ground) (P : Ground → Type 0) where
  of_any : (cs : List C) → Every (λ c. P (key c)) cs → (q : Ground) → list_any (eq_by_cmp ground_cmp q) (map key cs) ≡ true → P q
  of_any [] all q e = absurd (true≢false (sym e))
  of_any (c ∷ cs) all q e = by (eq_by_cmp ground_cmp q (key c)) refl (of_any cs all.1 q) e
    where
      by : (b : Bool) → eq_by_cmp ground_cmp q (key c) ≡ b → (list_any (eq_by_cmp ground_cmp q) (map key cs) ≡ true → P q)
          → (b || list_any (eq_by_cmp ground_cmp q) (map key cs)) ≡ true → P q
      by true is rest e = subst P (sym (tied q (key c) is)) all.0
      by false is rest e = rest e

module _ {C X : Type 0} (key : C → Ground) (value : C → X) (P : Ground → X → Type 0) where
  of_found : (cs : List C) → Every (λ c. P (key c) (value c)) cs → (q : Ground) (x : X) → table.find ground_cmp q (map (λ c. (key c, value c)) cs) ≡ Some x → P q x
  of_found [] all q x e = absurd (true≢false (sym (ap (λ o. by_some o) e)))
    where
      by_some : Option X → Bool
      by_some None = false
      by_some (Some y) = true
  of_found (c ∷ cs) all q x e = by (eq_by_cmp ground_cmp q (key c)) refl (of_found cs all.1 q x) e
    where
      by : (b : Bool) → eq_by_cmp ground_cmp q (key c) ≡ b → (table.find ground_cmp q (map (λ c. (key c, value c)) cs) ≡ Some x → P q x)
          → cond b (Some (value c)) (table.find ground_cmp q (map (λ c. (key c, value c)) cs)) ≡ Some x → P q x
      by true is rest e = subst (λ k. P k x) (sym (tied q (key c) is)) (subst (P (key c)) (ap (λ o. unwrap_or o x) e) all.0)
      by false is rest e = rest e

pub each : {C : Type 0} (P Q : C → Type 0) → ((c : C) → P c → Q c) → (cs : List C) → Every P cs → Every Q cs
each P Q f [] all = tt
each P Q f (c ∷ cs) all = (f c all.0, each P Q f cs all.1)

some_of : {X : Type 0} (Q : Type 0) (o : Option X) → IsSome o → ((x : X) → o ≡ Some x → Q) → Q
some_of Q None is f = absurd (true≢false (sym is))
some_of Q (Some x) is f = f x refl

pub init_is_of : (p : Parts) → IsOfWellFormed p (init p)
unfolding init
init_is_of p well = record {
  atoms = λ a h. of_any (λ (f : Fact). ground f.predicate f.args) (IsGroundAtom p) p.atoms
      (each (IsFact p) _ (λ f is. is) p.atoms well.atoms) a (sym (set.contains-from_list ground_total _ a) ∙ h);
  numbers = λ t h. some_of (IsGroundNumber p t) _ h (λ x e. of_found (λ (n : NumberFact). ground n.function n.args) (λ n. n.value) (λ q _. IsGroundNumber p q) p.numbers
      (each (IsNumberFact p) _ (λ n is. is.typed) p.numbers well.numbers) t x (sym (table.get-from_entries ground_total _ t) ∙ e));
  values = λ t o e. of_found (λ (v : ValueFact). ground v.function v.args) (λ v. v.value) (IsGroundValue p) p.values
      (each (IsValueFact p) _ (λ v is. is.typed) p.values well.values) t o (sym (table.get-from_entries ground_total _ t) ∙ e);
}

-- ---- entries put in from the last to the first

pub put_all-empty : {X : Type 0} (es : List (Ground × X)) → table.from_entries {R = ground_cmp} es ≡ put_all es table.empty
put_all-empty [] = refl
put_all-empty (e ∷ es) = ap (λ m. table.insert m e.0 e.1) (put_all-empty es)

pub add_all-empty : (ks : List Ground) → set.from_list {R = ground_cmp} ks ≡ add_all ks set.empty
add_all-empty [] = refl
add_all-empty (k ∷ ks) = ap (λ s. set.insert s k) (add_all-empty ks)

put_all-push : {X : Type 0} (es : List (Ground × X)) (e : Ground × X) (m : table.FinMap ground_cmp X) → put_all (es ++ e ∷ []) m ≡ put_all es (table.insert m e.0 e.1)
put_all-push [] e m = refl
put_all-push (x ∷ es) e m = ap (λ n. table.insert n x.0 x.1) (put_all-push es e m)

add_all-push : (ks : List Ground) (k : Ground) (s : set.FinSet ground_cmp) → add_all (ks ++ k ∷ []) s ≡ add_all ks (set.insert s k)
add_all-push [] k s = refl
add_all-push (x ∷ ks) k s = ap (λ t. set.insert t x) (add_all-push ks k s)

pub add_last_key : (left before : List Ground) (k : Ground) (s t : set.FinSet ground_cmp) → left ≡ before ++ k ∷ [] → t ≡ set.insert s k → add_all left s ≡ add_all before t
add_last_key left before k s t split is = ap (λ ks. add_all ks s) split ∙ add_all-push before k s ∙ ap (add_all before) (sym is)

pub put_last_entry : {X : Type 0} (left before : List (Ground × X)) (e : Ground × X) (m n : table.FinMap ground_cmp X) → left ≡ before ++ e ∷ [] → n ≡ table.insert m e.0 e.1
    → put_all left m ≡ put_all before n
put_last_entry left before e m n split is = ap (λ es. put_all es m) split ∙ put_all-push before e m ∙ ap (put_all before) (sym is)

map-push : {A B : Type 0} (f : A → B) (xs : List A) (x : A) → map f (xs ++ x ∷ []) ≡ map f xs ++ f x ∷ []
map-push f [] x = refl
map-push f (y ∷ xs) x = ap (λ ys. f y ∷ ys) (map-push f xs x)

pub add_last : (left before : List Fact) (fact : Fact) (s t : set.FinSet ground_cmp) → left ≡ before ++ fact ∷ [] → t ≡ set.insert s (ground fact.predicate fact.args)
    → add_all (ground_atoms left) s ≡ add_all (ground_atoms before) t
add_last left before fact s t split is =
    ap (λ fs. add_all (ground_atoms fs) s) split ∙ ap (λ ks. add_all ks s) (map-push (λ (a : Fact). ground a.predicate a.args) before fact)
    ∙ add_all-push (ground_atoms before) (ground fact.predicate fact.args) s ∙ ap (add_all (ground_atoms before)) (sym is)

pub put_number_last : (left before : List NumberFact) (fact : NumberFact) (m n : table.FinMap ground_cmp Fraction) → left ≡ before ++ fact ∷ []
    → n ≡ table.insert m (ground fact.function fact.args) fact.value → put_all (number_entries left) m ≡ put_all (number_entries before) n
put_number_last left before fact m n split is =
    ap (λ fs. put_all (number_entries fs) m) split ∙ ap (λ es. put_all es m) (map-push (λ (f : NumberFact). (ground f.function f.args, f.value)) before fact)
    ∙ put_all-push (number_entries before) (ground fact.function fact.args, fact.value) m ∙ ap (put_all (number_entries before)) (sym is)

pub put_value_last : (left before : List ValueFact) (fact : ValueFact) (m n : table.FinMap ground_cmp Name) → left ≡ before ++ fact ∷ []
    → n ≡ table.insert m (ground fact.function fact.args) fact.value → put_all (value_entries left) m ≡ put_all (value_entries before) n
put_value_last left before fact m n split is =
    ap (λ fs. put_all (value_entries fs) m) split ∙ ap (λ es. put_all es m) (map-push (λ (f : ValueFact). (ground f.function f.args, f.value)) before fact)
    ∙ put_all-push (value_entries before) (ground fact.function fact.args, fact.value) m ∙ ap (put_all (value_entries before)) (sym is)

pub init-parts : (p : Parts) → init p ≡ record { atoms = set.from_list (ground_atoms p.atoms); numbers = table.from_entries (number_entries p.numbers); values = table.from_entries (value_entries p.values) }
unfolding init
init-parts p = refl

pub ruleset initials = (init-parts)

-- ---- where nothing is left

nothing : {X : Type 0} (xs : List X) → length xs ≡ 0 → xs ≡ []
nothing [] e = refl
nothing (x ∷ xs) e = absurd (omega arith)

pub add_end : (left : List Fact) (s : set.FinSet ground_cmp) → length left ≡ 0 → add_all (ground_atoms left) s ≡ s
add_end left s e = ap (λ fs. add_all (ground_atoms fs) s) (nothing left e)

pub put_number_end : (left : List NumberFact) (m : table.FinMap ground_cmp Fraction) → length left ≡ 0 → put_all (number_entries left) m ≡ m
put_number_end left m e = ap (λ fs. put_all (number_entries fs) m) (nothing left e)

pub put_value_end : (left : List ValueFact) (m : table.FinMap ground_cmp Name) → length left ≡ 0 → put_all (value_entries left) m ≡ m
put_value_end left m e = ap (λ fs. put_all (value_entries fs) m) (nothing left e)
