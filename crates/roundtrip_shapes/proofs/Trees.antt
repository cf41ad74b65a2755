-- Tokens of given kinds, and the bracket trees that they form.
use Rattle.std.proofs.Common.{◌≡◌, true, List, [], ◌∷◌, ◌++◌, map, refl, ap, sym, ◌∙◌, subst}
use Rattle.up_text.specs.declared.place.Place.{Place}
use Rattle.pddl_lex.specs.declared.tree.Token.{Token}
use Rattle.pddl_lex.specs.declared.tree.TokenKind.{TokenKind}
use Rattle.pddl_lex.specs.declared.tree.TokenKind.TheVariants.{Open, Close}
use Rattle.pddl_lex.specs.declared.tree.Sexp.{Sexp, Leaf, Group}
use Rattle.pddl_lex.specs.Brackets.{is_leaf, opening, closing, Bracketed, nothing, leaf, group as grouped}
use Rattle.roundtrip_tokens.specs.Tokens.{group}
use Rattle.pddl_lex.proofs.Bracketing.{trees_append}

abbrev pub kinds_of : List Token → List TokenKind
kinds_of tokens = map (λ t. t.kind) tokens

abbrev pub at : TokenKind → Place → Token
at kind place = record { kind = kind; place = place }

-- tokens of two rows of kinds are two rows
pub record Parted (tokens : List Token) (ks ls : List TokenKind) : Type 0 where
  pub front : List Token
  pub back : List Token
  pub whole : tokens ≡ front ++ back
  pub front_kinds : kinds_of front ≡ ks
  pub back_kinds : kinds_of back ≡ ls

pub parted : (tokens : List Token) (ks ls : List TokenKind) → kinds_of tokens ≡ ks ++ ls → Parted tokens ks ls
parted tokens [] ls is = record { front = []; back = tokens; whole = refl; front_kinds = refl; back_kinds = is }
parted [] (k ∷ ks) ls is = absurd cc
parted (t ∷ tokens) (k ∷ ks) ls is =
    let here : t.kind ≡ k = cc in
    let others : kinds_of tokens ≡ ks ++ ls = cc in
    let rest = parted tokens ks ls others in
    record {
      front = t ∷ rest.front;
      back = rest.back;
      whole = ap (λ (more : List Token). t ∷ more) rest.whole;
      front_kinds = rw (here, rest.front_kinds) refl;
      back_kinds = rest.back_kinds;
    }

-- the first token of kinds that are not none
pub record Headed (tokens : List Token) (k : TokenKind) (ks : List TokenKind) : Type 0 where
  pub place : Place
  pub rest : List Token
  pub whole : tokens ≡ at k place ∷ rest
  pub kinds : kinds_of rest ≡ ks

pub headed : (tokens : List Token) (k : TokenKind) (ks : List TokenKind) → kinds_of tokens ≡ k ∷ ks → Headed tokens k ks
headed [] k ks is = absurd cc
headed (t ∷ tokens) k ks is =
    let here : t.kind ≡ k = cc in
    let others : kinds_of tokens ≡ ks = cc in
    record { place = t.place; rest = tokens; whole = ap (λ (kind : TokenKind). at kind t.place ∷ tokens) here; kinds = others }

no_tokens : (tokens : List Token) → kinds_of tokens ≡ [] → tokens ≡ []
no_tokens [] is = refl
no_tokens (t ∷ tokens) is = absurd cc

-- the tokens inside brackets
pub record Enclosed (tokens : List Token) (ks : List TokenKind) : Type 0 where
  pub place : Place
  pub end : Place
  pub inner : List Token
  pub whole : tokens ≡ opening place ∷ (inner ++ closing end ∷ [])
  pub kinds : kinds_of inner ≡ ks

pub enclosed : (tokens : List Token) (ks : List TokenKind) → kinds_of tokens ≡ group ks → Enclosed tokens ks
enclosed tokens ks is =
    let first = headed tokens Open (ks ++ Close ∷ []) is in
    let two = parted first.rest ks (Close ∷ []) first.kinds in
    let last = headed two.back Close [] two.back_kinds in
    record {
      place = first.place;
      end = last.place;
      inner = two.front;
      whole =
          first.whole
          ∙ ap (λ (more : List Token). opening first.place ∷ more) (two.whole ∙ ap (λ (more : List Token). two.front ++ more) (last.whole ∙ ap (λ (more : List Token). closing last.place ∷ more) (no_tokens last.rest last.kinds)));
      kinds = two.front_kinds;
    }

-- ---- trees

-- the tokens are those of one tree, of which this is so
pub record Formed (tokens : List Token) (P : Sexp → Type 0) : Type 0 where
  pub tree : Sexp
  pub bracketed : Bracketed tokens (tree ∷ [])
  pub is : P tree

-- the tokens are those of trees, of which this is so
pub record Rowed (tokens : List Token) (P : List Sexp → Type 0) : Type 0 where
  pub trees : List Sexp
  pub bracketed : Bracketed tokens trees
  pub is : P trees

module _ (tokens : List Token) where
  pub leaf_formed : (k : TokenKind) → is_leaf k ≡ true → kinds_of tokens ≡ k ∷ [] → (P : Sexp → Type 0) → ((place : Place) → P (Leaf (at k place))) → Formed tokens P
  leaf_formed k is_one is P each =
      let first = headed tokens k [] is in
      let whole : tokens ≡ at k first.place ∷ [] = first.whole ∙ ap (λ (more : List Token). at k first.place ∷ more) (no_tokens first.rest first.kinds) in
      record {
        tree = Leaf (at k first.place);
        bracketed = subst (λ (all : List Token). Bracketed all (Leaf (at k first.place) ∷ [])) (sym whole) (leaf (at k first.place) [] [] is_one nothing);
        is = each first.place;
      }

  pub group_formed : (ks : List TokenKind) → kinds_of tokens ≡ group ks → (Q : List Sexp → Type 0) → ((inner : List Token) → kinds_of inner ≡ ks → Rowed inner Q)
      → (P : Sexp → Type 0) → ((place : Place) (trees : List Sexp) → Q trees → P (Group place trees)) → Formed tokens P
  group_formed ks is Q inside P each =
      let e = enclosed tokens ks is in
      let row = inside e.inner e.kinds in
      record {
        tree = Group e.place row.trees;
        bracketed = subst (λ (all : List Token). Bracketed all (Group e.place row.trees ∷ [])) (sym e.whole) (grouped e.place e.end e.inner [] row.trees [] row.bracketed nothing);
        is = each e.place row.trees row.is;
      }

  pub none_rowed : kinds_of tokens ≡ [] → (P : List Sexp → Type 0) → P [] → Rowed tokens P
  none_rowed is P none = record {
    trees = [];
    bracketed = subst (λ (all : List Token). Bracketed all []) (sym (no_tokens tokens is)) nothing;
    is = none;
  }

  -- a tree in front of trees
  pub first_rowed : (ks ls : List TokenKind) → kinds_of tokens ≡ ks ++ ls → (P : Sexp → Type 0) (Q : List Sexp → Type 0)
      → ((front : List Token) → kinds_of front ≡ ks → Formed front P) → ((back : List Token) → kinds_of back ≡ ls → Rowed back Q)
      → (R : List Sexp → Type 0) → ((tree : Sexp) (trees : List Sexp) → P tree → Q trees → R (tree ∷ trees)) → Rowed tokens R
  first_rowed ks ls is P Q one more R each =
      let two = parted tokens ks ls is in
      let first = one two.front two.front_kinds in
      let rest = more two.back two.back_kinds in
      record {
        trees = first.tree ∷ rest.trees;
        bracketed = subst (λ (all : List Token). Bracketed all (first.tree ∷ rest.trees)) (sym two.whole)
            (trees_append two.front (first.tree ∷ []) first.bracketed two.back rest.trees rest.bracketed);
        is = each first.tree rest.trees first.is rest.is;
      }

-- ---- rows of known shape

-- a token of this kind in front of trees of which this is so
pub data Led (k : TokenKind) (Q : List Sexp → Type 0) : List Sexp → Type 0 where
  led : (place : Place) (rest : List Sexp) → Q rest → Led k Q (Leaf (at k place) ∷ rest)

pub data Alone (P : Sexp → Type 0) : List Sexp → Type 0 where
  alone : (tree : Sexp) → P tree → Alone P (tree ∷ [])

pub data Pair (P Q : Sexp → Type 0) : List Sexp → Type 0 where
  pair : (one two : Sexp) → P one → Q two → Pair P Q (one ∷ two ∷ [])

-- brackets round trees of which this is so
pub data Bracket (Q : List Sexp → Type 0) : Sexp → Type 0 where
  bracket : (place : Place) (trees : List Sexp) → Q trees → Bracket Q (Group place trees)

data IsLeafOf (k : TokenKind) : Sexp → Type 0 where
  leaf_of : (place : Place) → IsLeafOf k (Leaf (at k place))

pub rowed_as : {tokens : List Token} {P Q : List Sexp → Type 0} → Rowed tokens P → ((trees : List Sexp) → P trees → Q trees) → Rowed tokens Q
rowed_as row go = record { trees = row.trees; bracketed = row.bracketed; is = go row.trees row.is }

pub formed_as : {tokens : List Token} {P Q : Sexp → Type 0} → Formed tokens P → ((tree : Sexp) → P tree → Q tree) → Formed tokens Q
formed_as one go = record { tree = one.tree; bracketed = one.bracketed; is = go one.tree one.is }

pub led_rowed : (k : TokenKind) → is_leaf k ≡ true → (ks : List TokenKind) (Q : List Sexp → Type 0)
    → ((back : List Token) → kinds_of back ≡ ks → Rowed back Q) → (tokens : List Token) → kinds_of tokens ≡ k ∷ ks → Rowed tokens (Led k Q)
led_rowed k is_one ks Q more tokens kinds =
    first_rowed tokens (k ∷ []) ks kinds (IsLeafOf k) Q (λ front here. leaf_formed front k is_one here (IsLeafOf k) leaf_of) more (Led k Q) joined
  where
    joined : (tree : Sexp) (trees : List Sexp) → IsLeafOf k tree → Q trees → Led k Q (tree ∷ trees)
    joined _ trees (leaf_of place) so = led place trees so

pub alone_rowed : {tokens : List Token} {P : Sexp → Type 0} → Formed tokens P → Rowed tokens (Alone P)
alone_rowed one = record { trees = one.tree ∷ []; bracketed = one.bracketed; is = alone one.tree one.is }

pub pair_rowed : (P Q : Sexp → Type 0) (ks ls : List TokenKind)
    → ((front : List Token) → kinds_of front ≡ ks → Formed front P) → ((back : List Token) → kinds_of back ≡ ls → Formed back Q)
    → (tokens : List Token) → kinds_of tokens ≡ ks ++ ls → Rowed tokens (Pair P Q)
pair_rowed P Q ks ls one two tokens kinds =
    first_rowed tokens ks ls kinds P (Alone Q) one (λ back there. alone_rowed (two back there)) (Pair P Q) joined
  where
    joined : (tree : Sexp) (trees : List Sexp) → P tree → Alone Q trees → Pair P Q (tree ∷ trees)
    joined tree _ so (alone other also) = pair tree other so also

pub bracket_formed : (ks : List TokenKind) (Q : List Sexp → Type 0) → ((inner : List Token) → kinds_of inner ≡ ks → Rowed inner Q)
    → (tokens : List Token) → kinds_of tokens ≡ group ks → Formed tokens (Bracket Q)
bracket_formed ks Q inside tokens kinds = group_formed tokens ks kinds Q inside (Bracket Q) bracket
