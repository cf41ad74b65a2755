-- Keywords at the head of brackets, and requirements.
use Rattle.std.proofs.Common.{◌≡◌, inl, inr, ℕ, Bool, true, false, List, [], ◌∷◌, ◌++◌, refl, ap, sym, subst, ◌∙◌}
use Rattle.std.specs.Prelude.{⊤, ◌||◌, Option, Some, None, if◌then◌else◌}
use Rattle.std.specs.Str.{bytes_eq}
use Rattle.std.proofs.lemmas.Slice.Eq.{bytes_eq-Decides}
use Rattle.up_text.specs.declared.place.Place.{Place}
use Rattle.up_text.specs.Lists.{Every, Member}
use Rattle.pddl_lex.specs.Trees.{place_of}
use Rattle.pddl_lex.specs.declared.tree.TokenKind.{TokenKind}
use Rattle.pddl_lex.specs.declared.tree.TokenKind.TheVariants as kind
use Rattle.pddl_lex.specs.declared.tree.Sexp.{Sexp, Leaf, Group, Group', items-the_row-Sexp}
use Rattle.pddl_lex.specs.Parses.{parsed}
use Rattle.pddl_parse.specs.declared.shape.ShapeError.{ShapeError}
use Rattle.pddl_parse.specs.declared.shape.ShapeError.TheVariants.{LeftOut}
use Rattle.pddl_parse.specs.Brackets.{is_keyword_kind, is_keyword, is_headed, is_section, has_section}
use Rattle.pddl_parse.specs.Sections.{is_known, keyword_kind, keyword_of, refusal, requirements}
use Rattle.pddl_parse.specs.Forms.{leaf}
use Rattle.pddl_parse.proofs.Nodes.{is_section-Group, is_keyword-Leaf, keyword_of-Leaf}
use Rattle.pddl_parse.proofs.Rebuilt.{rebuilt}
use Rattle.pddl_parse.proofs.Spelled.{Sound, sound_behind}
use Rattle.grammar_shapes.specs.Sections.{section, known_requirements, IsRequirement, requirement, AreRequirements, Begins, begins, AtMostOnce}

-- ---- keywords

pub record IsKeyword (tree : Sexp) (word : List ℕ) : Type 0 where
  pub at : Place
  pub is : tree ≡ leaf (kind.Keyword word) at

keyword_kind_is : (word : List ℕ) (at : Place) (k : TokenKind) → is_keyword_kind word k ≡ true → IsKeyword (leaf k at) word
keyword_kind_is word at (kind.Keyword own) e = record { at = at; is = ap (λ w. leaf (kind.Keyword w) at) ((bytes_eq-Decides own word).0 e) }
keyword_kind_is word at _ e = cc

keyword_is : (word : List ℕ) (tree : Sexp) → is_keyword word tree ≡ true → IsKeyword tree word
unfolding is_keyword
keyword_is word (Leaf token) e = keyword_kind_is word token.place token.kind e
keyword_is word (Group' place n row) e = cc

-- the word that a tree is found to be the keyword of
abbrev pub IsFound : Sexp → Option (List ℕ) → Type 0
IsFound tree None = ⊤
IsFound tree (Some word) = IsKeyword tree word

found_kind : (at : Place) (k : TokenKind) → IsFound (leaf k at) (keyword_kind k)
found_kind at (kind.Keyword word) = record { at = at; is = refl }
found_kind at (kind.Word word) = tt
found_kind at kind.Open = tt
found_kind at kind.Close = tt
found_kind at (kind.Variable word) = tt
found_kind at (kind.Number number) = tt
found_kind at (kind.Sign s) = tt

pub found_is : (tree : Sexp) → IsFound tree (keyword_of tree)
unfolding keyword_of
found_is (Leaf token) = found_kind token.place token.kind
found_is (Group' place n row) = tt

-- ---- brackets that begin with a keyword

begins_section : (word : List ℕ) (tree : Sexp) → Begins word tree → is_section word tree ≡ true
begins_section _ _ (begins word place at trees) =
    rw (is_section-Group word place (leaf (kind.Keyword word) at ∷ trees), is_keyword-Leaf) ((bytes_eq-Decides word word).1 refl)

headed_begins : (word : List ℕ) (place : Place) (items : List Sexp) → is_headed word items ≡ true → Begins word (Group place items)
headed_begins word place [] e = cc
headed_begins word place (head ∷ rest) e =
    subst (λ h. Begins word (Group place (h ∷ rest))) (sym (keyword_is word head e).is) (begins word place (keyword_is word head e).at rest)

section_begins : (word : List ℕ) (tree : Sexp) → is_section word tree ≡ true → Begins word tree
unfolding is_section
section_begins word (Leaf token) e = cc
section_begins word (Group' place n row) e =
    subst (Begins word) (sym (rebuilt place n row)) (headed_begins word place (items-the_row-Sexp _ row) e)

-- a bracket begins with one keyword
pub begins_same : (word own : List ℕ) (place at : Place) (trees : List Sexp) → Begins word (section own place at trees) → own ≡ word
begins_same word own place at trees is =
    let e : is_keyword word (leaf (kind.Keyword own) at) ≡ true =
    sym (is_section-Group word place (leaf (kind.Keyword own) at ∷ trees)) ∙ begins_section word (section own place at trees) is in
    (bytes_eq-Decides own word).0 (sym (is_keyword-Leaf word _) ∙ e)

-- ---- at most one of the trees

or_false : (a b : Bool) → (a ≡ true → ⊥) → b ≡ false → (a || b) ≡ false
or_false true b never e = absurd (never refl)
or_false false b never e = e

or_first : (a b : Bool) → a ≡ true → (a || b) ≡ false → ⊥
or_first true b is e = cc
or_first false b is e = cc

pub or_second : (a b : Bool) → (a || b) ≡ false → b ≡ false
or_second true b e = cc
or_second false b e = e

every_at : {X : Type 0} (P : X → Type 0) (xs : List X) (x : X) (ys : List X) → Every P (xs ++ x ∷ ys) → P x
every_at P [] x ys are = are.0
every_at P (y ∷ xs) x ys are = every_at P xs x ys are.1

every_behind : {X : Type 0} (P : X → Type 0) (xs : List X) (x : X) → Every P xs → P x → Every P (xs ++ x ∷ [])
every_behind P [] x are is = (is, tt)
every_behind P (y ∷ ys) x are is = (are.0, every_behind P ys x are.1 is)

-- what begins with the keyword has no other before it
pub none_before : (word : List ℕ) (before : List Sexp) (tree : Sexp) (rest : List Sexp) → AtMostOnce word (before ++ tree ∷ rest)
    → Begins word tree
    → has_section word before ≡ false
none_before word [] tree rest once is = refl
none_before word (b ∷ before) tree rest once is =
    or_false (is_section word b) (has_section word before)
    (λ e. every_at (λ other. ¬ Begins word other) before tree rest (once.0 (section_begins word b e)) is)
    (none_before word before tree rest once.1 is)

pub once_more : (word : List ℕ) (before : List Sexp) (tree : Sexp) → AtMostOnce word before → (Begins word tree
    → has_section word before ≡ false)
    → AtMostOnce word (before ++ tree ∷ [])
once_more word [] tree once none = (λ is. tt, tt)
once_more word (b ∷ before) tree once none = (
  λ is. every_behind (λ other. ¬ Begins word other) before tree (once.0 is)
      (λ so. or_first (is_section word b) (has_section word before) (begins_section word b is) (none so)),
  once_more word before tree once.1 (λ so. or_second (is_section word b) (has_section word before) (none so)),
)

-- one that is there is found
pub has_this : (word : List ℕ) (tree : Sexp) (rest : List Sexp) → Begins word tree → has_section word (tree ∷ rest) ≡ true
has_this word tree rest is = rw (begins_section word tree is) refl

-- ---- requirements

-- as one by one is asked for
abbrev is_one_of : List ℕ → Bool → List (List ℕ) → Bool
is_one_of word found [] = found
is_one_of word found (one ∷ words) = is_one_of word (found || bytes_eq word one) words

or_either : {P : Type 0} (a b : Bool) → (a || b) ≡ true → (a ≡ true → P) → (b ≡ true → P) → P
or_either true b e h k = h refl
or_either false b e h k = k e

one_of_member : (word : List ℕ) (found : Bool) (words : List (List ℕ)) {P : Type 0} → is_one_of word found words ≡ true
    → (found ≡ true → P) → (Member word words → P) → P
one_of_member word found [] e h k = h e
one_of_member word found (one ∷ words) e h k =
    one_of_member word (found || bytes_eq word one) words e
    (λ so. or_either found (bytes_eq word one) so h (λ is. k (inl ((bytes_eq-Decides word one).0 is)))) (λ is. k (inr is))

is_known_member : (word : List ℕ) → is_known word ≡ true → Member word known_requirements
is_known_member word e =
    one_of_member word false known_requirements e (λ never. cc) (λ is. is)

every_member : {X : Type 0} (P : X → Type 0) (x : X) (xs : List X) → Every P xs → Member x xs → P x
every_member P x [] are is = absurd is
every_member P x (y ∷ ys) are (inl e) = subst P (sym e) are.0
every_member P x (y ∷ ys) are (inr is) = every_member P x ys are.1 is

known_is : (word : List ℕ) → Member word known_requirements → is_known word ≡ true
known_is word is =
    every_member (λ w. is_known w ≡ true) word known_requirements
    (refl, (refl, (refl, (refl, (refl, (refl, (refl, (refl, (refl, (refl, (refl, (refl, (refl, (refl, (refl, tt))))))))))))))) is

requirement_read : (tree : Sexp) → IsRequirement tree → refusal (keyword_of tree) tree ≡ []
requirement_read _ (requirement word place is) = rw (keyword_of-Leaf, known_is word is) refl

pub requirements_read : {A : Type 0} (whole : A) (trees : List Sexp) → AreRequirements trees → requirements whole trees ≡ parsed whole
requirements_read whole [] are = refl
requirements_read whole (tree ∷ trees) are = rw (requirement_read tree are.0) (requirements_read whole trees are.1)

not_refused : (b : Bool) (fault : ShapeError) → (if b then [] else fault ∷ []) ≡ [] → b ≡ true
not_refused true fault e = refl
not_refused false fault e = cc

requirement_kind : (tree : Sexp) (found : Option (List ℕ)) → IsFound tree found → refusal found tree ≡ [] → IsRequirement tree
requirement_kind tree None is e = cc
requirement_kind tree (Some word) is e =
    subst IsRequirement (sym is.is)
    (requirement word is.at (is_known_member word (not_refused (is_known word) (LeftOut (place_of tree)) e)))

pub requirements_sound : {A : Type 0} (P : A → Type 0) (whole : A) (trees : List Sexp) → (AreRequirements trees → P whole)
    → Sound (requirements whole trees) P
requirements_sound P whole [] h = h tt
requirements_sound P whole (tree ∷ trees) h =
    sound_behind P (refusal (keyword_of tree) tree) (requirements whole trees)
    (λ e. requirements_sound P whole trees (λ are. h (requirement_kind tree (keyword_of tree) (found_is tree) e, are)))
