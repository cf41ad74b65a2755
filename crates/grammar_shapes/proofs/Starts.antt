-- Initial states and metrics are read exactly from the trees that spell them.
use Rattle.std.proofs.Common.{◌≡◌, ℕ, List, [], ◌∷◌, map, refl, sym, subst, true, false, Bool}
use Rattle.std.specs.Prelude.{if◌then◌else◌, codes}
use Rattle.up_text.specs.declared.place.Place.{Place}
use Rattle.up_text.specs.Names.{is_reserved, reserved_words}
use Rattle.pddl_lex.specs.declared.tree.TokenKind.{TokenKind}
use Rattle.pddl_lex.specs.declared.tree.TokenKind.TheVariants as kind
use Rattle.pddl_lex.specs.declared.tree.Sign.{Sign}
use Rattle.pddl_lex.specs.declared.tree.Sign.TheVariants as sign
use Rattle.pddl_lex.specs.declared.tree.Sexp.{Sexp, Leaf, Group, Group'}
use Rattle.pddl_lex.specs.Parses.{parsed, all, over}
use Rattle.pddl_parse.specs.declared.raw.Ident.{Ident}
use Rattle.pddl_parse.specs.declared.raw.RawTerm.{RawTerm}
use Rattle.pddl_parse.specs.declared.raw.RawGround.{RawGround}
use Rattle.pddl_parse.specs.declared.raw.RawValue.{RawValue}
use Rattle.pddl_parse.specs.declared.raw.RawValue.TheVariants as «value»
use Rattle.pddl_parse.specs.declared.raw.RawInit.{RawInit}
use Rattle.pddl_parse.specs.declared.raw.RawInit.TheVariants.{Atom, Absent, Value}
use Rattle.pddl_parse.specs.declared.raw.RawMetric.{RawMetric}
use Rattle.pddl_parse.specs.declared.head.InitHead.{InitHead}
use Rattle.pddl_parse.specs.declared.head.InitHead.TheVariants as head
use Rattle.pddl_parse.specs.Shapes as shape
use Rattle.pddl_parse.specs.Shapes.{extra, one, two, kind_ident}
use Rattle.pddl_parse.specs.Brackets.{is_word}
use Rattle.pddl_parse.specs.Terms.{term}
use Rattle.pddl_parse.specs.Starts.{ground_of, in_ground, ground, kind_value, initial_value, is_same_kind, is_same, absent, assigned, by_init_head, in_init, initial, minimizes, metric_of, metric}
use Rattle.pddl_parse.specs.Forms.{leaf, IsIdent, ident, IsTerm}
use Rattle.pddl_parse.proofs.Nodes.{bracket-Group, is_word-Leaf, is_same-Leaf, initial_value-Leaf}
use Rattle.pddl_parse.proofs.Read.{ident_read, term_read}
use Rattle.pddl_parse.proofs.Spelled.{Sound, sound_over, sound_two, kind_ident_sound, ident_sound, term_sound}
use Rattle.pddl_parse.proofs.SpelledFormulas.{IsWord}
use Rattle.grammar_shapes.specs.Lists.{AreNames}
use Rattle.grammar_shapes.specs.Starts.{IsGround, a_ground, IsValue, a_constant, an_object, IsInit, a_fact, an_absence, an_assignment, AreInits, no_inits, more_inits, IsMetric, minimized, maximized}
use Rattle.grammar_shapes.proofs.Lists.{idents_read, idents_sound}
use Rattle.grammar_shapes.proofs.Parses.{sound_is, sound_if, if_so, sound_all, sound_one, sound_pair, sound_bracket, is_word_is, ident_unlike}

-- ---- names at names, and values

in_ground_read : (place : Place) (head : Sexp) (name : Ident) (trees : List Sexp) (args : List Ident) → IsIdent head name
    → AreNames trees args
    → in_ground place (head ∷ trees) ≡ parsed (ground_of place name args)
in_ground_read place head name trees args is are = rw (ident_read head name is, idents_read trees args are) refl

ground_read : (tree : Sexp) (it : RawGround) → IsGround tree it → ground tree ≡ parsed it
ground_read _ _ (a_ground place head name trees args is are) =
    rw (bracket-Group in_ground place (head ∷ trees)) (in_ground_read place head name trees args is are)

in_ground_sound : (place : Place) (items : List Sexp) → Sound (in_ground place items) (IsGround (Group place items))
in_ground_sound place [] = tt
in_ground_sound place (head ∷ trees) =
    sound_two (IsIdent head) (AreNames trees) (IsGround (Group place (head ∷ trees))) (ground_of place) (shape.ident head)
    (all (map shape.ident trees))
    (λ name args is are. a_ground place head name trees args is are) (ident_sound head) (idents_sound trees)

ground_sound : (tree : Sexp) → Sound (ground tree) (IsGround tree)
ground_sound tree = sound_bracket IsGround in_ground in_ground_sound tree

name_value : (tree : Sexp) (name : Ident) → IsIdent tree name → initial_value tree ≡ parsed (value.Object name)
unfolding initial_value
name_value _ _ (ident word name place is) = rw is refl

value_read : (tree : Sexp) (it : RawValue) → IsValue tree it → initial_value tree ≡ parsed it
value_read _ _ (a_constant number place) = initial_value-Leaf _
value_read _ _ (an_object tree name is) = name_value tree name is

object_sound : (place : Place) (k : TokenKind) → Sound (over value.Object (kind_ident place k)) (IsValue (leaf k place))
object_sound place k =
    sound_over (IsIdent (leaf k place)) (IsValue (leaf k place)) value.Object (kind_ident place k) (an_object (leaf k place))
    (kind_ident_sound place k)

kind_value_sound : (place : Place) (k : TokenKind) → Sound (kind_value place k) (IsValue (leaf k place))
kind_value_sound place (kind.Number number) = a_constant number place
kind_value_sound place (kind.Word word) = object_sound place (kind.Word word)
kind_value_sound place kind.Open = tt
kind_value_sound place kind.Close = tt
kind_value_sound place (kind.Variable word) = tt
kind_value_sound place (kind.Keyword word) = tt
kind_value_sound place (kind.Sign sign) = tt

value_sound : (tree : Sexp) → Sound (initial_value tree) (IsValue tree)
unfolding initial_value
value_sound (Leaf token) = kind_value_sound token.place token.kind
value_sound (Group' place n row) = tt

-- ---- members of an initial state

not_taken : is_reserved (codes "not") ≡ true
unfolding reserved_words
not_taken = refl

ident_not_same : (tree : Sexp) (it : Ident) → IsIdent tree it → is_same tree ≡ false
unfolding is_same
ident_not_same _ _ (ident word name place is) = refl

pub init_read : (tree : Sexp) (member : RawInit) → IsInit tree member → initial tree ≡ parsed member
init_read _ _ (a_fact _ _ (a_ground place head name trees args is are)) =
    rw (
      bracket-Group in_init place (head ∷ trees),
      ident_unlike (codes "not") not_taken head name is,
      ident_not_same head name is,
      ident_read head name is,
      idents_read trees args are,
    ) refl
init_read _ _ (an_absence place at tree atom is) =
    rw (bracket-Group in_init place (leaf (kind.Word (codes "not")) at ∷ tree ∷ []), is_word-Leaf, ground_read tree atom is) refl
init_read _ _ (an_assignment place at one two term given is so) =
    rw (
      bracket-Group in_init place (leaf (kind.Sign sign.Same) at ∷ one ∷ two ∷ []),
      is_word-Leaf,
      is_same-Leaf,
      ground_read one term is,
      value_read two given so,
    ) refl

pub inits_read : (trees : List Sexp) (members : List RawInit) → AreInits trees members → all (map initial trees) ≡ parsed members
inits_read _ _ no_inits = refl
inits_read _ _ (more_inits tree member trees members is others) = rw (init_read tree member is, inits_read trees members others) refl

record IsEqual (tree : Sexp) : Type 0 where
  at : Place
  is : tree ≡ leaf (kind.Sign sign.Same) at

equal_sign : (at : Place) (s : Sign) → is_same_kind (kind.Sign s) ≡ true → IsEqual (leaf (kind.Sign s) at)
equal_sign at sign.Same e = record { at = at; is = refl }
equal_sign at _ e = cc

equal_kind : (at : Place) (k : TokenKind) → is_same_kind k ≡ true → IsEqual (leaf k at)
equal_kind at (kind.Sign s) e = equal_sign at s e
equal_kind at _ e = cc

equal_is : (tree : Sexp) → is_same tree ≡ true → IsEqual tree
unfolding is_same
equal_is (Leaf token) e = equal_kind token.place token.kind e
equal_is (Group' place n row) e = cc

absent_sound : (place : Place) (first : Sexp) (rest : List Sexp) → IsWord first (codes "not")
    → Sound (absent place rest) (IsInit (Group place (first ∷ rest)))
absent_sound place first rest is =
    sound_one IsGround (λ trees. IsInit (Group place (first ∷ trees))) place Absent ground
    (λ tree atom of. subst (λ h. IsInit (Group place (h ∷ tree ∷ [])) (Absent atom)) (sym is.is) (an_absence place is.at tree atom of))
    ground_sound rest

assigned_sound : (place : Place) (first : Sexp) (rest : List Sexp) → IsEqual first
    → Sound (assigned place rest) (IsInit (Group place (first ∷ rest)))
assigned_sound place first rest is =
    sound_pair IsGround IsValue (λ trees. IsInit (Group place (first ∷ trees))) place (λ g v. Value place g v) ground initial_value
    (λ one two term given of so. subst (λ h. IsInit (Group place (h ∷ one ∷ two ∷ [])) (Value place term given)) (sym is.is)
    (an_assignment place is.at one two term given of so)) ground_sound value_sound rest

fact_sound : (place : Place) (items : List Sexp) → Sound (over Atom (in_ground place items)) (IsInit (Group place items))
fact_sound place items =
    sound_over (IsGround (Group place items)) (IsInit (Group place items)) Atom (in_ground place items) (a_fact (Group place items))
    (in_ground_sound place items)

in_init_sound : (place : Place) (items : List Sexp) → Sound (in_init place items) (IsInit (Group place items))
in_init_sound place [] = tt
in_init_sound place (first ∷ rest) =
    let P : InitHead → Type 0 = λ h. Sound (by_init_head h place first rest) (IsInit (Group place (first ∷ rest))) in
    if_so P (is_word (codes "not") first) head.Not (if is_same first then head.Same else head.Other)
    (λ e. absent_sound place first rest (is_word_is (codes "not") first e)) (λ e.
    if_so P (is_same first) head.Same head.Other (λ e. assigned_sound place first rest (equal_is first e))
    (λ e. fact_sound place (first ∷ rest)))

init_sound : (tree : Sexp) → Sound (initial tree) (IsInit tree)
init_sound tree = sound_bracket IsInit in_init in_init_sound tree

pub init_spelled : (tree : Sexp) (member : RawInit) → initial tree ≡ parsed member → IsInit tree member
init_spelled tree member e = sound_is (IsInit tree) (initial tree) member (init_sound tree) e

inits_sound : (trees : List Sexp) → Sound (all (map initial trees)) (AreInits trees)
inits_sound trees =
    sound_all IsInit AreInits initial no_inits more_inits init_sound trees

pub inits_spelled : (trees : List Sexp) (members : List RawInit) → all (map initial trees) ≡ parsed members → AreInits trees members
inits_spelled trees members e = sound_is (AreInits trees) (all (map initial trees)) members (inits_sound trees) e

-- ---- metrics

minimize_read : (at : Place) → minimizes (leaf (kind.Word (codes "minimize")) at) ≡ parsed true
unfolding is_word
minimize_read at = refl

maximize_read : (at : Place) → minimizes (leaf (kind.Word (codes "maximize")) at) ≡ parsed false
unfolding is_word
maximize_read at = refl

pub metric_read : (place : Place) (trees : List Sexp) (m : RawMetric) → IsMetric trees m → metric place trees ≡ parsed m
metric_read place _ _ (minimized at tree value is) = rw (minimize_read at, term_read tree value is) refl
metric_read place _ _ (maximized at tree value is) = rw (maximize_read at, term_read tree value is) refl

-- the word of a metric that is minimised or not
abbrev sense : Bool → List ℕ
sense true = codes "minimize"
sense false = codes "maximize"

minimizes_sound : (tree : Sexp) → Sound (minimizes tree) (λ b. IsWord tree (sense b))
minimizes_sound tree =
    let P : Bool → Type 0 = λ b. IsWord tree (sense b) in
    sound_if P (is_word (codes "minimize") tree) (parsed true) _ (λ e. is_word_is (codes "minimize") tree e)
    (λ e. sound_if P (is_word (codes "maximize") tree) (parsed false) _ (λ e. is_word_is (codes "maximize") tree e) (λ e. tt))

metric_is : (one two : Sexp) (b : Bool) (value : RawTerm) → IsWord one (sense b) → IsTerm two value
    → IsMetric (one ∷ two ∷ []) (metric_of b value)
metric_is one two true value is of = subst (λ x. IsMetric (x ∷ two ∷ []) (metric_of true value)) (sym is.is) (minimized is.at two value of)
metric_is one two false value is of =
    subst (λ x. IsMetric (x ∷ two ∷ []) (metric_of false value)) (sym is.is) (maximized is.at two value of)

metric_sound : (place : Place) (trees : List Sexp) → Sound (metric place trees) (IsMetric trees)
metric_sound place trees =
    sound_pair (λ tree b. IsWord tree (sense b)) IsTerm IsMetric place metric_of minimizes term metric_is minimizes_sound term_sound trees

pub metric_spelled : (place : Place) (trees : List Sexp) (m : RawMetric) → metric place trees ≡ parsed m → IsMetric trees m
metric_spelled place trees m e = sound_is (IsMetric trees) (metric place trees) m (metric_sound place trees) e
