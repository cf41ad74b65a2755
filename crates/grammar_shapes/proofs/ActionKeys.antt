-- The keywords of an action, which of them have stood, and what they say.
use Rattle.std.proofs.Common.{◌≡◌, ℕ, List, [], refl, ap, true, false, Bool}
use Rattle.std.specs.Prelude.{⊤, codes, Option, Some, None, unwrap_or, if◌then◌else◌}
use Rattle.std.specs.Str.{bytes_eq}
use Rattle.std.proofs.lemmas.Slice.Eq.{bytes_eq-Decides}
use Rattle.up_text.specs.declared.place.Place.{Place}
use Rattle.pddl_lex.specs.declared.tree.TokenKind.{TokenKind}
use Rattle.pddl_lex.specs.declared.tree.TokenKind.TheVariants as kind
use Rattle.pddl_lex.specs.declared.tree.Sexp.{Sexp, Leaf, Group'}
use Rattle.pddl_lex.specs.Parses.{parsed, rejected}
use Rattle.pddl_parse.specs.declared.raw.RawGroup.{RawGroup}
use Rattle.pddl_parse.specs.declared.raw.RawFormula.{RawFormula}
use Rattle.pddl_parse.specs.declared.raw.RawEffect.{RawEffect}
use Rattle.pddl_parse.specs.declared.action.ActionKey.{ActionKey}
use Rattle.pddl_parse.specs.declared.action.ActionKey.TheVariants as key
use Rattle.pddl_parse.specs.declared.action.ActionHead.{ActionHead}
use Rattle.pddl_parse.specs.declared.action.ActionHead.TheVariants as head
use Rattle.pddl_parse.specs.declared.action.ActionKeys.{ActionKeys}
use Rattle.pddl_parse.specs.declared.action.ActionParts.{ActionParts}
use Rattle.pddl_parse.specs.declared.shape.ShapeError.{ShapeError}
use Rattle.pddl_parse.specs.Shapes.{Read}
use Rattle.pddl_parse.specs.Actions.{key_word, key_kind, action_head, has_key, by_head, fresh_key}
use Rattle.pddl_parse.specs.Forms.{leaf}

abbrev pub key_text : ActionKey → List ℕ
key_text key.Parameters = codes "parameters"
key_text key.Precondition = codes "precondition"
key_text key.Effect = codes "effect"

pub record IsKeyword (tree : Sexp) (word : List ℕ) : Type 0 where
  pub at : Place
  pub is : tree ≡ leaf (kind.Keyword word) at

-- what the head of an action's key says of its tree
abbrev IsOf : Sexp → ActionHead → Type 0
IsOf tree (head.Key k) = IsKeyword tree (key_text k)
IsOf tree head.Unknown = ⊤
IsOf tree head.NoKey = ⊤

keyword_is : (word other : List ℕ) (at : Place) → bytes_eq word other ≡ true → IsKeyword (leaf (kind.Keyword word) at) other
keyword_is word other at e = record { at = at; is = ap (λ w. leaf (kind.Keyword w) at) ((bytes_eq-Decides word other).0 e) }

if_is : (P : ActionHead → Type 0) (b : Bool) (here rest : ActionHead) → (b ≡ true → P here) → P rest → P (if b then here else rest)
if_is P true here rest h n = h refl
if_is P false here rest h n = n

key_word_is : (word : List ℕ) (at : Place) → IsOf (leaf (kind.Keyword word) at) (key_word word)
key_word_is word at =
    let P : ActionHead → Type 0 = IsOf (leaf (kind.Keyword word) at) in
    if_is P (bytes_eq word (codes "parameters")) (head.Key key.Parameters) _ (keyword_is word (codes "parameters") at)
    (if_is P (bytes_eq word (codes "precondition")) (head.Key key.Precondition) _ (keyword_is word (codes "precondition") at)
    (if_is P (bytes_eq word (codes "effect")) (head.Key key.Effect) head.Unknown (keyword_is word (codes "effect") at) tt))

key_kind_is : (at : Place) (k : TokenKind) → IsOf (leaf k at) (key_kind k)
key_kind_is at (kind.Keyword word) = key_word_is word at
key_kind_is at (kind.Word word) = tt
key_kind_is at (kind.Sign s) = tt
key_kind_is at kind.Open = tt
key_kind_is at kind.Close = tt
key_kind_is at (kind.Variable word) = tt
key_kind_is at (kind.Number number) = tt

head_is : (tree : Sexp) → IsOf tree (action_head tree)
unfolding action_head
head_is (Leaf token) = key_kind_is token.place token.kind
head_is (Group' place n row) = tt

-- a key that is read has not stood before
abbrev pub IsFresh : ActionKeys → Sexp → Read ActionKey → Type 0
IsFresh keys tree (parsed k) = (has_key keys k ≡ false) × IsKeyword tree (key_text k)
IsFresh keys tree (rejected f fs) = ⊤

fresh_if : (keys : ActionKeys) (tree : Sexp) (k : ActionKey) (b : Bool) (fault : ShapeError)
    → has_key keys k ≡ b → IsKeyword tree (key_text k)
    → IsFresh keys tree (if b then rejected fault [] else parsed k)
fresh_if keys tree k true fault e is = tt
fresh_if keys tree k false fault e is = (e, is)

by_head_is : (keys : ActionKeys) (tree : Sexp) (h : ActionHead) → IsOf tree h → IsFresh keys tree (by_head h keys tree)
by_head_is keys tree (head.Key k) is = fresh_if keys tree k (has_key keys k) _ refl is
by_head_is keys tree head.Unknown is = tt
by_head_is keys tree head.NoKey is = tt

pub fresh_is : (keys : ActionKeys) (tree : Sexp) → IsFresh keys tree (fresh_key keys tree)
fresh_is keys tree = by_head_is keys tree (action_head tree) (head_is tree)

pub fresh_read : (k : ActionKey) (at : Place) (keys : ActionKeys) → has_key keys k ≡ false
    → fresh_key keys (leaf (kind.Keyword (key_text k)) at) ≡ parsed k
unfolding action_head
fresh_read key.Parameters at keys free = rw free refl
fresh_read key.Precondition at keys free = rw free refl
fresh_read key.Effect at keys free = rw free refl

-- ---- which keys may follow

-- what has stood doesn't stand again
abbrev pub IsOpen : {A : Type 0} → Bool → Option A → Type 0
IsOpen false given = ⊤
IsOpen true None = ⊤
IsOpen true (Some x) = ⊥

pub open_none : {A : Type 0} (b : Bool) (given : Option A) → given ≡ None → IsOpen b given
open_none true None e = tt
open_none true (Some x) e = absurd cc
open_none false given e = tt

pub open_free : {A : Type 0} (b : Bool) (x : A) → b ≡ false → IsOpen b (Some x)
open_free true x e = absurd cc
open_free false x e = tt

pub open_some : {A : Type 0} (b : Bool) (x : A) → IsOpen b (Some x) → b ≡ false
open_some true x may = absurd may
open_some false x may = refl

pub open_stood : {A : Type 0} (given : Option A) → IsOpen true given → given ≡ None
open_stood None may = refl
open_stood (Some x) may = absurd may

pub record AreOpen (keys : ActionKeys) (params : Option (List RawGroup)) (pre : Option RawFormula) (e : Option RawEffect) : Type 0 where
  pub of_params : IsOpen keys.parameters params
  pub of_pre : IsOpen keys.precondition pre
  pub of_effect : IsOpen keys.effect e

abbrev pub with_values : ActionParts → Option (List RawGroup) → Option RawFormula → Option RawEffect → ActionParts
with_values it params pre e =
    record { name = it.name; params = unwrap_or params it.params; pre = unwrap_or pre it.pre; effect = unwrap_or e it.effect }
