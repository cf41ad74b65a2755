-- What one section of a kind says, among sections that are read.
use Rattle.std.proofs.Common.{◌≡◌, inl, inr, ℕ, Bool, true, false, List, [], ◌∷◌, refl, ap, sym, subst, ◌∙◌}
use Rattle.std.specs.Prelude.{⊤, ◌||◌, Option, Some, None, unwrap_or}
use Rattle.up_text.specs.Lists.{Every, Member}
use Rattle.pddl_lex.specs.declared.tree.Sexp.{Sexp}
use Rattle.pddl_parse.specs.Brackets.{is_section, has_section}
use Rattle.grammar_shapes.specs.Sections.{Begins, AtMostOnce}
use Rattle.grammar_shapes.specs.Texts.{Says, said, unsaid}
use Rattle.grammar_shapes.proofs.Keywords.{has_this}

-- the first, where it is some
abbrev pub later : {A : Type 0} → Option A → Option A → Option A
later (Some a) o = Some a
later None o = o

pub later_none : {A : Type 0} (o : Option A) → later o None ≡ o
later_none (Some a) = refl
later_none None = refl

pub later_later : {A : Type 0} (x y z : Option A) → later x (later y z) ≡ later (later x y) z
later_later (Some a) y z = refl
later_later None y z = refl

pub unwrap_later : {A : Type 0} (x y : Option A) (a : A) → unwrap_or x (unwrap_or y a) ≡ unwrap_or (later x y) a
unwrap_later (Some b) y a = refl
unwrap_later None y a = refl

-- the last of what the sections say of a kind
abbrev pub last_of : {A S : Type 0} → (S → Option A) → List S → Option A
last_of f [] = None
last_of f (s ∷ ss) = later (last_of f ss) (f s)

-- f finds what a section of the kind says
pub record IsPart {A S : Type 0} (kind : A → S) (f : S → Option A) : Type 0 where
  pub of : (a : A) → f (kind a) ≡ Some a
  pub back : (s : S) (a : A) → f s ≡ Some a → s ≡ kind a

says_more : {A S : Type 0} (kind : A → S) (f : S → Option A) → IsPart kind f → (s : S) (ss : List S) (o here : Option A) → f s ≡ here
    → Says kind ss o → Says kind (s ∷ ss) (later o here)
says_more kind f part s ss _ here e (said a is) = said a (inr is)
says_more kind f part s ss _ (Some a) e (unsaid never) = said a (inl (sym (part.back s a e)))
says_more kind f part s ss _ None e (unsaid never) = unsaid (λ a is. no_member a is)
  where
    no_member : (a : _) → Member (kind a) (s ∷ ss) → ⊥
    no_member a (inl so) = let h : Some a ≡ None = sym (part.of a) ∙ ap f so ∙ e in cc
    no_member a (inr is) = never a is

pub says_last : {A S : Type 0} (kind : A → S) (f : S → Option A) → IsPart kind f → (ss : List S) → Says kind ss (last_of f ss)
says_last kind f part [] = unsaid (λ a is. absurd is)
says_last kind f part (s ∷ ss) = says_more kind f part s ss (last_of f ss) (f s) refl (says_last kind f part ss)

same_said : {A S : Type 0} (kind : A → S) (ss : List S) (x y : Option A) → ((a b : A) → Member (kind a) ss → Member (kind b) ss → a ≡ b)
    → Says kind ss x → Says kind ss y → x ≡ y
same_said kind ss _ _ one (said a is) (said b so) = ap Some (one a b is so)
same_said kind ss _ _ one (said a is) (unsaid never) = absurd (never a is)
same_said kind ss _ _ one (unsaid never) (said b so) = absurd (never b so)
same_said kind ss _ _ one (unsaid never) (unsaid nor) = refl

pub or_there : (a b : Bool) → b ≡ true → (a || b) ≡ true
or_there true b e = refl
or_there false b e = e

-- each tree with its section
abbrev pub Each : {S : Type 0} → (Sexp → S → Type 0) → List Sexp → List S → Type 0
Each R [] [] = ⊤
Each R [] (s ∷ ss) = ⊥
Each R (tree ∷ trees) [] = ⊥
Each R (tree ∷ trees) (s ∷ ss) = R tree s × Each R trees ss

module _ {A S : Type 0} (R : Sexp → S → Type 0) (kind : A → S) (f : S → Option A) (part : IsPart kind f) (word : List ℕ)
    (starts : (tree : Sexp) (a : A) → R tree (kind a) → Begins word tree) where
  starts_at : (tree : Sexp) (s : S) (a : A) → kind a ≡ s → R tree s → Begins word tree
  starts_at tree s a e is = starts tree a (subst (R tree) (sym e) is)

  absent : (trees : List Sexp) (ss : List S) (a : A) → Each R trees ss → Every (λ other. ¬ Begins word other) trees → Member (kind a) ss → ⊥
  absent [] [] a are none is = absurd is
  absent [] (s ∷ ss) a are none is = absurd are
  absent (tree ∷ trees) [] a are none is = absurd are
  absent (tree ∷ trees) (s ∷ ss) a are none (inl e) = none.0 (starts_at tree s a e are.0)
  absent (tree ∷ trees) (s ∷ ss) a are none (inr is) = absent trees ss a are.1 none.1 is

  same_kind : (a b : A) → kind a ≡ kind b → a ≡ b
  same_kind a b e = let h : Some a ≡ Some b = sym (part.of a) ∙ ap f e ∙ part.of b in cc

  unique : (trees : List Sexp) (ss : List S) → Each R trees ss → AtMostOnce word trees → (a b : A) → Member (kind a) ss
      → Member (kind b) ss → a ≡ b
  unique [] [] are once a b is so = absurd is
  unique [] (s ∷ ss) are once a b is so = absurd are
  unique (tree ∷ trees) [] are once a b is so = absurd are
  unique (tree ∷ trees) (s ∷ ss) are once a b (inl e) (inl g) = same_kind a b (e ∙ sym g)
  unique (tree ∷ trees) (s ∷ ss) are once a b (inl e) (inr so) = absurd (absent trees ss b are.1 (once.0 (starts_at tree s a e are.0)) so)
  unique (tree ∷ trees) (s ∷ ss) are once a b (inr is) (inl g) = absurd (absent trees ss a are.1 (once.0 (starts_at tree s b g are.0)) is)
  unique (tree ∷ trees) (s ∷ ss) are once a b (inr is) (inr so) = unique trees ss are.1 once.1 a b is so

  -- what the sections say is the last that they say
  pub last_is : (trees : List Sexp) (ss : List S) (given : Option A) → Each R trees ss → AtMostOnce word trees → Says kind ss given
      → last_of f ss ≡ given
  last_is trees ss given are once is = same_said kind ss (last_of f ss) given (unique trees ss are once) (says_last kind f part ss) is

  has_it : (trees : List Sexp) (ss : List S) (a : A) → Each R trees ss → Member (kind a) ss → has_section word trees ≡ true
  has_it [] [] a are is = absurd is
  has_it [] (s ∷ ss) a are is = absurd are
  has_it (tree ∷ trees) [] a are is = absurd are
  has_it (tree ∷ trees) (s ∷ ss) a are (inl e) = has_this word tree trees (starts_at tree s a e are.0)
  has_it (tree ∷ trees) (s ∷ ss) a are (inr is) = or_there (is_section word tree) (has_section word trees) (has_it trees ss a are.1 is)

  pub has_said : (trees : List Sexp) (ss : List S) (a : A) → Each R trees ss → Says kind ss (Some a) → has_section word trees ≡ true
  has_said trees ss _ are (said a is) = has_it trees ss a are is
