-- Types are marked from each object's type upwards, up to one that is marked.
use Rattle.std.proofs.Common.{◌≡◌, ℕ, suc, ◌≤◌, Bool, true, false, ◌||◌, List, [], ◌∷◌, ◌++◌, length, take, get_or, ◌+◌, Option, Some, None, refl, ap, subst, sym, ◌∙◌, arith, cond}
use Rattle.std.specs.Prelude.{◌<◌, OnOk, Result, Ok, Err}
use Rattle.std.specs.List.{list_any}
use Rattle.std.proofs.lemmas.Bool.{false≢true}
use Rattle.std.proofs.lemmas.List.{take_all}
use Rattle.std.proofs.lemmas.List.Folds.{list_any-append, list_any_more}
use Rattle.up_text.specs.declared.name.Name.{Name}
use Rattle.up_text.specs.Names.{same_name}
use Rattle.up_text.specs.Fresh.{is_among, with_name}
use Rattle.up_tree.specs.declared.term.Typed.{Typed}
use Rattle.up_tree.specs.declared.problem.Parts.{Parts}
use Rattle.up_tree.specs.Objects.{type_in, chain}
use Rattle.up_kind.specs.Values.{has_object}
use Rattle.up_kind.specs.Tables.{HasInhabited, IsClosed, Reaches, Marks, AddsNames, stands_below}
use Rattle.up_kind.proofs.Below.{holds, behind_of, chain_grows, below_all, is_same, same_is}

or_empty : (b : Bool) → (b || false) ≡ b
or_empty true = refl
or_empty false = refl

or_assoc : (a b c : Bool) → ((a || b) || c) ≡ (a || (b || c))
or_assoc true b c = refl
or_assoc false b c = refl

-- the marks, the path so far, and the chain that is left make the whole chain with the marks
pub record Climbed (types : List Typed) (marks path : List (List ℕ)) (of here : Name) (left : ℕ) : Type 0 where
  pub fits : left ≤ length types
  pub each : (t : List ℕ) → ((is_among marks t || is_among path t) || list_any (same_name t) (chain types left here)) ≡ (is_among marks t || stands_below types of t)

pub climbed_none : (types : List Typed) (marks path : List (List ℕ)) (of : Name) → path ≡ [] → Climbed types marks path of of (length types)
climbed_none types marks path of none = record {
  fits = omega arith;
  each = λ t. ap (λ (row : List (List ℕ)). (is_among marks t || is_among row t) || list_any (same_name t) (chain types (length types) of)) none
      ∙ ap (λ b. b || list_any (same_name t) (chain types (length types) of)) (or_empty (is_among marks t));
}

regroup : (m p a r : Bool) → ((m || (p || (a || false))) || r) ≡ ((m || p) || (a || r))
regroup true p a r = refl
regroup false true a r = refl
regroup false false true r = refl
regroup false false false r = refl

pub climbed_more : (types : List Typed) (marks path more : List (List ℕ)) (of here next u : Name) (left : ℕ) → more ≡ path ++ next ∷ [] → next ≡ here
    → type_in types here ≡ Some u → Climbed types marks path of here (suc left) → Climbed types marks more of u left
climbed_more types marks path more of here next u left is same at climbed = record {
  fits = let fits = climbed.fits in omega arith;
  each = λ t.
      ap (λ (row : List (List ℕ)). (is_among marks t || is_among row t) || list_any (same_name t) (chain types left u)) (is ∙ ap (λ n. path ++ n ∷ []) same)
      ∙ ap (λ b. (is_among marks t || b) || list_any (same_name t) (chain types left u)) (list_any-append (same_name t) path (here ∷ []))
      ∙ regroup (is_among marks t) (is_among path t) (same_name t here) (list_any (same_name t) (chain types left u))
      ∙ ap (λ (p : Option Name). (is_among marks t || is_among path t) || (same_name t here || list_any (same_name t) (behind_of types left p))) (sym at)
      ∙ climbed.each t;
}

-- at the end of the chain
ended : (types : List Typed) (marks path more : List (List ℕ)) (of here next : Name) (rest : Name → Bool)
    → more ≡ path ++ next ∷ [] → next ≡ here → ((t : Name) → rest t ≡ (same_name t here || false))
    → ((t : Name) → ((is_among marks t || is_among path t) || rest t) ≡ (is_among marks t || stands_below types of t)) → Reaches types marks more of
ended types marks path more of here next rest is same last each = record {
  each = λ closed t.
      ap (λ (row : List (List ℕ)). is_among marks t || is_among row t) (is ∙ ap (λ n. path ++ n ∷ []) same)
      ∙ ap (λ b. is_among marks t || b) (list_any-append (same_name t) path (here ∷ []))
      ∙ sym (or_assoc (is_among marks t) (is_among path t) (same_name t here || false))
      ∙ ap (λ b. (is_among marks t || is_among path t) || b) (sym (last t)) ∙ each t;
}

pub climbed_top : (types : List Typed) (marks path more : List (List ℕ)) (of here next : Name) (left : ℕ) → more ≡ path ++ next ∷ [] → next ≡ here
    → type_in types here ≡ None → Climbed types marks path of here (suc left) → Reaches types marks more of
climbed_top types marks path more of here next left is same at climbed =
    ended types marks path more of here next (λ t. list_any (same_name t) (chain types (suc left) here)) is same
    (λ t. ap (λ (p : Option Name). same_name t here || list_any (same_name t) (behind_of types left p)) at) climbed.each

pub climbed_out : (types : List Typed) (marks path more : List (List ℕ)) (of here next : Name) (left : ℕ) → more ≡ path ++ next ∷ [] → next ≡ here
    → left ≡ 0 → Climbed types marks path of here left → Reaches types marks more of
climbed_out types marks path more of here next left is same out climbed =
    ended types marks path more of here next (λ t. list_any (same_name t) (chain types left here)) is same
    (λ t. ap (λ n. list_any (same_name t) (chain types n here)) out) climbed.each

pub climbed_marked : (types : List Typed) (marks path : List (List ℕ)) (of here : Name) (left : ℕ) → is_among marks here ≡ true
    → Climbed types marks path of here left → Reaches types marks path of
climbed_marked types marks path of here left marked climbed = record {
  each = λ closed t.
      by (is_among marks t) (is_among path t) (list_any (same_name t) (chain types left here))
      (λ on. closed here t marked (chain_grows types left (length types) here t climbed.fits on)) (climbed.each t);
}
  where
    by : {whole : Bool} (m p r : Bool) → (r ≡ true → m ≡ true) → ((m || p) || r) ≡ whole → (m || p) ≡ whole
    by true p r law is = is
    by false true r law is = is
    by false false true law is = absurd (false≢true (law refl))
    by false false false law is = is

pub marks_all : (types : List Typed) (old path new : List (List ℕ)) (of : Name) → Reaches types old path of → AddsNames old path new → Marks types old new of
marks_all types old path new of reaches adds = record { each = λ closed t. adds.each t ∙ reaches.each closed t }

-- ---- names added one by one

pub record Adding (old names marks rest : List (List ℕ)) : Type 0 where
  pub each : (t : List ℕ) → (is_among marks t || is_among rest t) ≡ (is_among old t || is_among names t)

pub adding_none : (marks names : List (List ℕ)) → Adding marks names marks names
adding_none marks names = record { each = λ t. refl }

one_more : (marks : List (List ℕ)) (name t : List ℕ) (b : Bool) → is_among marks name ≡ b
    → is_among (cond b marks (marks ++ name ∷ [])) t ≡ (is_among marks t || same_name t name)
one_more marks name t true there = by (same_name t name) refl
  where
    by : (c : Bool) → same_name t name ≡ c → is_among marks t ≡ (is_among marks t || c)
    by true same = all_true (is_among marks t) (subst (λ u. is_among marks u ≡ true) (sym (same_is t name same)) there)
      where
        all_true : (x : Bool) → x ≡ true → x ≡ (x || true)
        all_true true is = refl
        all_true false is = is
    by false same = sym (or_empty (is_among marks t))
one_more marks name t false there =
    list_any-append (same_name t) marks (name ∷ []) ∙ ap (λ b. is_among marks t || b) (or_empty (same_name t name))

swapped : (m a r : Bool) → ((m || a) || r) ≡ (m || (r || (a || false)))
swapped true a r = refl
swapped false true true = refl
swapped false true false = refl
swapped false false true = refl
swapped false false false = refl

pub adding_more : (old names marks more rest others : List (List ℕ)) (name : List ℕ) → rest ≡ others ++ name ∷ [] → more ≡ with_name marks name
    → Adding old names marks rest → Adding old names more others
adding_more old names marks more rest others name is with adding = record {
  each = λ t.
      ap (λ (row : List (List ℕ)). is_among row t || is_among others t) with
      ∙ ap (λ b. b || is_among others t) (one_more marks name t (is_among marks name) refl)
      ∙ swapped (is_among marks t) (same_name t name) (is_among others t)
      ∙ ap (λ b. is_among marks t || b) (sym (list_any-append (same_name t) others (name ∷ [])))
      ∙ ap (λ (row : List (List ℕ)). is_among marks t || is_among row t) (sym is)
      ∙ adding.each t;
}

pub adding_all : (old names marks rest : List (List ℕ)) → rest ≡ [] → Adding old names marks rest → AddsNames old names marks
adding_all old names marks rest out adding = record {
  each = λ t. sym (or_empty (is_among marks t)) ∙ ap (λ (row : List (List ℕ)). is_among marks t || is_among row t) (sym out) ∙ adding.each t;
}

-- ---- the objects one by one

pub record MarksOf (types objects : List Typed) (marks : List (List ℕ)) : Type 0 where
  pub each : (t : List ℕ) → is_among marks t ≡ list_any (λ (o : Typed). stands_below types o.of t) objects

pub marks_none : (types objects : List Typed) (marks : List (List ℕ)) → marks ≡ [] → MarksOf types (take 0 objects) marks
marks_none types objects marks none = record { each = λ t. ap (λ (row : List (List ℕ)). is_among row t) none }

above_any : (types objects : List Typed) (t u : Name) → stands_below types t u ≡ true → list_any (λ (o : Typed). stands_below types o.of t) objects ≡ true
    → list_any (λ (o : Typed). stands_below types o.of u) objects ≡ true
above_any types [] t u up is = is
above_any types (o ∷ objects) t u up is =
    by (stands_below types o.of t) (stands_below types o.of u) (λ on. below_all types o.of t u on up) is (above_any types objects t u up)
  where
    by : (a b : Bool) → (a ≡ true → b ≡ true) → (a || list_any (λ (o : Typed). stands_below types o.of t) objects) ≡ true
        → (list_any (λ (o : Typed). stands_below types o.of t) objects ≡ true → list_any (λ (o : Typed). stands_below types o.of u) objects ≡ true)
        → (b || list_any (λ (o : Typed). stands_below types o.of u) objects) ≡ true
    by true true law is behind = refl
    by true false law is behind = absurd (false≢true (law refl))
    by false true law is behind = refl
    by false false law is behind = behind is

closed_by : (types objects : List Typed) (marks : List (List ℕ)) → MarksOf types objects marks → IsClosed types marks
closed_by types objects marks are t u marked up = are.each u ∙ above_any types objects t u up (sym (are.each t) ∙ marked)

pub marks_more : (types objects : List Typed) (i : ℕ) (o : Typed) (old new : List (List ℕ)) → i < length objects → o ≡ get_or objects i o
    → MarksOf types (take i objects) old → Marks types old new o.of → MarksOf types (take (i + 1) objects) new
marks_more types objects i o old new below is are marks = record {
  each = λ t.
      marks.each (closed_by types (take i objects) old are) t
      ∙ (λ k. are.each t k || stands_below types (is k).of t)
      ∙ sym (list_any_more (λ (o : Typed). stands_below types o.of t) objects i o below);
}

pub marks_end : (p : Parts) (marks : List (List ℕ)) (i : ℕ) → length p.objects ≤ i → MarksOf p.types (take i p.objects) marks → HasInhabited p marks
unfolding has_object
marks_end p marks i ends are = record { each = λ t. are.each t ∙ ap (λ (row : List Typed). list_any (λ (o : Typed). stands_below p.types o.of t) row) (take_all i p.objects ends) }

-- where names were added
pub marks_ok : {A E : Type 0} (types : List Typed) (old path new : List (List ℕ)) (of : Name) (r : Result A E) → Reaches types old path of
    → OnOk r (AddsNames old path new) → OnOk r (Marks types old new of)
marks_ok types old path new of (Ok x) reaches adds = marks_all types old path new of reaches adds
marks_ok types old path new of (Err e) reaches adds = adds

pub ruleset marking = (climbed_none, climbed_top, climbed_out, climbed_marked, marks_all, adding_none, adding_all, marks_none)
