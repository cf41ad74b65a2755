-- Facts that count once, and terms that have one value.
use Rattle.std.proofs.Common.{◌≡◌, Bool, true, false, true≢false, if◌then◌else◌, List, [], ◌∷◌, ◌++◌, append_assoc, append-nil, Option, Some, None, refl, ap, sym, ◌∙◌, subst, inl, inr}
use Rattle.std.specs.Prelude.{◌⊎◌, ◌&&◌, ◌||◌, is_some}
use Rattle.std.specs.List.{list_any}
use Rattle.std.specs.Cmp.Lexicographic.{pointwise, pointwise_decides, bytes_decides}
use Rattle.up_text.specs.declared.name.Name.{Name}
use Rattle.up_text.specs.Lists.{Member}
use Rattle.up_text.specs.Names.{same_name}
use Rattle.pddl_parse.specs.declared.raw.RawGround.{RawGround}
use Rattle.up_check.specs.Initial.{arguments, is_at}
use Rattle.grammar_names.specs.Initial.{Once, no_facts, repeated, first}

-- ---- members

pub member_front : {X : Type 0} (x : X) (xs ys : List X) → Member x xs → Member x (xs ++ ys)
member_front x [] ys m = absurd m
member_front x (y ∷ xs) ys (inl e) = inl e
member_front x (y ∷ xs) ys (inr m) = inr (member_front x xs ys m)

pub member_back : {X : Type 0} (x : X) (xs ys : List X) → Member x ys → Member x (xs ++ ys)
member_back x [] ys m = m
member_back x (y ∷ xs) ys m = inr (member_back x xs ys m)

pub member_either : {X : Type 0} (x : X) (xs ys : List X) → Member x (xs ++ ys) → Member x xs ⊎ Member x ys
member_either x [] ys m = inr m
member_either x (y ∷ xs) ys (inl e) = inl (inl e)
member_either x (y ∷ xs) ys (inr m) = by (member_either x xs ys m)
  where
    by : Member x xs ⊎ Member x ys → Member x (y ∷ xs) ⊎ Member x ys
    by (inl n) = inl (inr n)
    by (inr n) = inr n

-- ---- facts that count once

-- facts with one more at the end, unless it stands there
pub data Adds {X : Type 0} (x : X) (before : List X) : List X → Type 0 where
  stands : Member x before → Adds x before before
  added : (¬ Member x before) → Adds x before (before ++ x ∷ [])

-- what is kept of facts after others
pub record Keeps {X : Type 0} (before stated all : List X) : Type 0 where
  pub kept : List X
  pub once : Once before stated kept
  pub are : all ≡ before ++ kept

pub keeps_more : {X : Type 0} (x : X) (before after stated all : List X) → Adds x before after → Keeps after stated all
    → Keeps before (x ∷ stated) all
keeps_more x before _ stated all (stands m) k = record { kept = k.kept; once = repeated before x stated k.kept m k.once; are = k.are }
keeps_more x before _ stated all (added new) k =
    record { kept = x ∷ k.kept; once = first before x stated k.kept new k.once; are = k.are ∙ append_assoc before (x ∷ []) k.kept }

pub keeps_less : {X : Type 0} (x : X) (before after stated kept : List X) → Adds x before after → Once before (x ∷ stated) kept
    → Keeps after stated (before ++ kept)
keeps_less x before _ stated kept (stands m) (repeated _ _ _ _ n once) = record { kept = kept; once = once; are = refl }
keeps_less x before _ stated _ (stands m) (first _ _ _ kept new once) = absurd (new m)
keeps_less x before _ stated kept (added new) (repeated _ _ _ _ n once) = absurd (new n)
keeps_less x before _ stated _ (added new) (first _ _ _ kept also once) =
    record { kept = kept; once = once; are = sym (append_assoc before (x ∷ []) kept) }

pub keeps_none : {X : Type 0} (before : List X) → Keeps before [] before
keeps_none before = record { kept = []; once = no_facts before; are = sym (append-nil before) }

pub keeps_nothing : {X : Type 0} (before all : List X) → Keeps before [] all → all ≡ before
keeps_nothing {X = X} before all k = k.are ∙ by k.kept k.once
  where
    by : (kept : List X) → Once before [] kept → before ++ kept ≡ before
    by _ (no_facts _) = append-nil before

-- ---- the bracket that stands at a fact

pub at_same : (it : RawGround) (name : Name) (args : List Name) → it.name.name ≡ name → arguments it.args ≡ args → is_at it name args ≡ true
at_same it name args is so =
    rw ((bytes_decides it.name.name name).1 is, (pointwise_decides bytes_decides (arguments it.args) args).1 so) refl

front_true : (a b : Bool) → (a && b) ≡ true → a ≡ true
front_true true b e = refl
front_true false b e = cc

back_true : (a b : Bool) → (a && b) ≡ true → b ≡ true
back_true true b e = e
back_true false b e = cc

pub at_name : (it : RawGround) (name : Name) (args : List Name) → is_at it name args ≡ true → it.name.name ≡ name
at_name it name args e =
    (bytes_decides it.name.name name).0 (front_true (same_name it.name.name name) (pointwise same_name (arguments it.args) args) e)

pub at_arguments : (it : RawGround) (name : Name) (args : List Name) → is_at it name args ≡ true → arguments it.args ≡ args
at_arguments it name args e =
    (pointwise_decides bytes_decides (arguments it.args) args).0
    (back_true (same_name it.name.name name) (pointwise same_name (arguments it.args) args) e)

-- a list is searched for an atom
pub is_listed : {X : Type 0} (test : X → Bool) (x : X) → ((y : X) → test y ≡ true → x ≡ y) → (xs : List X) → list_any test xs ≡ true
    → Member x xs
is_listed test x same [] e = cc
is_listed test x same (y ∷ ys) e = by (test y) refl e (is_listed test x same ys)
  where
    by : (b : Bool) → test y ≡ b → (b || list_any test ys) ≡ true → (list_any test ys ≡ true → Member x ys) → Member x (y ∷ ys)
    by true here e rest = inl (same y here)
    by false other e rest = inr (rest e)

pub is_unlisted : {X : Type 0} (test : X → Bool) (x : X) → test x ≡ true → (xs : List X) → list_any test xs ≡ false → ¬ Member x xs
is_unlisted test x is [] e m = m
is_unlisted test x is (y ∷ ys) e (inl here) = true≢false (sym (rw (sym here, is) refl) ∙ e)
is_unlisted test x is (y ∷ ys) e (inr m) = is_unlisted test x is ys (rest (test y) (list_any test ys) e) m
  where
    rest : (a b : Bool) → (a || b) ≡ false → b ≡ false
    rest true b e = cc
    rest false b e = e

-- ---- terms that have one value

-- facts of values: the function and the objects of each, and its value
module _ {X V : Type 0} (function : X → Name) (args : X → List Name) (value : X → V) where
  abbrev pub OneEach : List X → Type 0
  OneEach facts = (a b : X) → Member a facts → Member b facts → function a ≡ function b → args a ≡ args b → value a ≡ value b

  abbrev pub found_at : RawGround → List X → Option V
  found_at term [] = None
  found_at term (fact ∷ facts) = if is_at term (function fact) (args fact) then Some (value fact) else found_at term facts

  -- a fact of the term has this value
  pub record IsFound (term : RawGround) (facts : List X) (v : V) : Type 0 where
    pub fact : X
    pub there : Member fact facts
    pub named : term.name.name ≡ function fact
    pub placed : arguments term.args ≡ args fact
    pub gives : value fact ≡ v

  pub found_there : (term : RawGround) (facts : List X) (v : V) → found_at term facts ≡ Some v → IsFound term facts v
  found_there term [] v e = cc
  found_there term (fact ∷ facts) v e = by (is_at term (function fact) (args fact)) refl e (found_there term facts v)
    where
      by : (b : Bool) → is_at term (function fact) (args fact) ≡ b → (if b then Some (value fact) else found_at term facts) ≡ Some v
          → (found_at term facts ≡ Some v → IsFound term facts v) → IsFound term (fact ∷ facts) v
      by true here e rest =
          record {
            fact = fact;
            there = inl refl;
            named = at_name term (function fact) (args fact) here;
            placed = at_arguments term (function fact) (args fact) here;
            gives = cc;
          }
      by false other e rest =
          let is : IsFound term facts v = rest e in
          record { fact = is.fact; there = inr is.there; named = is.named; placed = is.placed; gives = is.gives }

  pub some_at : (term : RawGround) (facts : List X) (y : X) → Member y facts → term.name.name ≡ function y → arguments term.args ≡ args y
      → is_some (found_at term facts) ≡ true
  some_at term [] y m named placed = absurd m
  some_at term (fact ∷ facts) y (inl is) named placed =
      rw (at_same term (function fact) (args fact) (named ∙ ap function is) (placed ∙ ap args is)) refl
  some_at term (fact ∷ facts) y (inr m) named placed = by (is_at term (function fact) (args fact)) (some_at term facts y m named placed)
    where
      by : (b : Bool) → is_some (found_at term facts) ≡ true → is_some (if b then Some (value fact) else found_at term facts) ≡ true
      by true rest = refl
      by false rest = rest

  module _ (term : RawGround) (x : X) (named : term.name.name ≡ function x) (placed : arguments term.args ≡ args x)
      (same : (y : X) → function y ≡ function x → args y ≡ args x → value y ≡ value x → y ≡ x) (before : List X) where
    -- the value that the term has before it, if any, is that of the fact
    abbrev pub Repeats : Type 0
    Repeats = (v : V) → found_at term before ≡ Some v → v ≡ value x

    pub adds : Repeats → Adds x before (if is_some (found_at term before) then before else before ++ x ∷ [])
    adds repeats = by (found_at term before) refl
      where
        by : (found : Option V) → found_at term before ≡ found → Adds x before (if is_some found then before else before ++ x ∷ [])
        by None e = added (λ m. true≢false (sym (some_at term before x m named placed) ∙ ap is_some e))
        by (Some v) e =
            let is = found_there term before v e in
            let is_it : is.fact ≡ x = same is.fact (sym is.named ∙ named) (sym is.placed ∙ placed) (is.gives ∙ repeats v e) in
            stands (subst (λ y. Member y before) is_it is.there)

    -- where terms have one value, a fact repeats what stands before it
    pub repeats_one : (stated : List X) → OneEach (before ++ x ∷ stated) → Repeats
    repeats_one stated one v e =
        let is = found_there term before v e in
        let there : Member is.fact (before ++ x ∷ stated) = member_front is.fact before (x ∷ stated) is.there in
        sym is.gives ∙ one is.fact x there (member_back x before (x ∷ stated) (inl refl)) (sym is.named ∙ named) (sym is.placed ∙ placed)

    agrees : OneEach before → Repeats → (y : X) → Member y before → function y ≡ function x → args y ≡ args x → value y ≡ value x
    agrees one repeats y m f a = by (found_at term before) refl
      where
        by : (found : Option V) → found_at term before ≡ found → value y ≡ value x
        by None e = absurd (true≢false (sym (some_at term before y m (named ∙ sym f) (placed ∙ sym a)) ∙ ap is_some e))
        by (Some v) e =
            let is = found_there term before v e in
            one y is.fact m is.there (f ∙ sym named ∙ is.named) (a ∙ sym placed ∙ is.placed) ∙ is.gives ∙ repeats v e

    pub one_after : (after : List X) → Adds x before after → OneEach before → Repeats → OneEach after
    one_after _ (stands m) one repeats = one
    one_after _ (added new) one repeats =
        λ a b at bt f s. by a b (member_either a before (x ∷ []) at) (member_either b before (x ∷ []) bt) f s
      where
        by : (a b : X) → Member a before ⊎ Member a (x ∷ []) → Member b before ⊎ Member b (x ∷ [])
            → function a ≡ function b → args a ≡ args b → value a ≡ value b
        by a b (inl m) (inl n) f s = one a b m n f s
        by a b (inl m) (inr (inl is)) f s = agrees one repeats a m (f ∙ ap function is) (s ∙ ap args is) ∙ sym (ap value is)
        by a b (inl m) (inr (inr n)) f s = absurd n
        by a b (inr (inl is)) (inl n) f s = ap value is ∙ sym (agrees one repeats b n (sym f ∙ ap function is) (sym s ∙ ap args is))
        by a b (inr (inl is)) (inr (inl also)) f s = ap value is ∙ sym (ap value also)
        by a b (inr (inl is)) (inr (inr n)) f s = absurd n
        by a b (inr (inr m)) other f s = absurd m

  one_within : (xs ys : List X) → ((a : X) → Member a xs → Member a ys) → OneEach ys → OneEach xs
  one_within xs ys within one a b m n f s = one a b (within a m) (within b n) f s

  pub one_more : (x : X) (before after stated : List X) → Adds x before after → OneEach (after ++ stated) → OneEach (before ++ x ∷ stated)
  one_more x before _ stated (stands m) one = one_within (before ++ x ∷ stated) (before ++ stated) within one
    where
      within : (a : X) → Member a (before ++ x ∷ stated) → Member a (before ++ stated)
      within a n = by (member_either a before (x ∷ stated) n)
        where
          by : Member a before ⊎ Member a (x ∷ stated) → Member a (before ++ stated)
          by (inl k) = member_front a before stated k
          by (inr (inl is)) = subst (λ y. Member y (before ++ stated)) (sym is) (member_front x before stated m)
          by (inr (inr k)) = member_back a before stated k
  one_more x before _ stated (added new) one = subst OneEach (append_assoc before (x ∷ []) stated) one

  pub one_less : (x : X) (before after stated : List X) → Adds x before after → OneEach (before ++ x ∷ stated) → OneEach (after ++ stated)
  one_less x before _ stated (stands m) one = one_within (before ++ stated) (before ++ x ∷ stated) within one
    where
      within : (a : X) → Member a (before ++ stated) → Member a (before ++ x ∷ stated)
      within a n = by (member_either a before stated n)
        where
          by : Member a before ⊎ Member a stated → Member a (before ++ x ∷ stated)
          by (inl k) = member_front a before (x ∷ stated) k
          by (inr k) = member_back a before (x ∷ stated) (inr k)
  one_less x before _ stated (added new) one = subst OneEach (sym (append_assoc before (x ∷ []) stated)) one
