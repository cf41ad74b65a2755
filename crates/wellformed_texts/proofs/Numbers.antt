-- The numbers of tokens are literals.
use Rattle.std.proofs.Common.{◌≡◌, ℕ, zero, suc, ◌*◌, ◌<◌, ◌≤◌, ◌^◌, ◌==◌, ℤ, pos, neg_ℤ, nat_abs, true, false, if◌then◌else◌, List, [], ◌∷◌, ◌++◌, length, take, drop, map, Ok, Err, refl, ap, sym, ◌∙◌, mul_comm, mul_assoc, arith}
use Rattle.std.specs.Prelude.{⊤}
use Rattle.std.proofs.lemmas.Int.{unsigned_abs-mul}
use Rattle.std.proofs.Math.Nat.{pow-le-pow_right}
use Rattle.up_text.specs.Lists.{Every}
use Rattle.up_frac.specs.Fraction.{Fraction}
use Rattle.up_frac.specs.Arithmetic.{reduce}
use Rattle.up_frac.proofs.FractionLaws.{IsMultiple, multiple}
use Rattle.up_tree.specs.WellFormed.{IsLiteral}
use Rattle.pddl_lex.specs.declared.shape.Shape.{Shape}
use Rattle.pddl_lex.specs.declared.shape.Shape.TheVariants as shape
use Rattle.pddl_lex.specs.declared.tree.Token.{Token}
use Rattle.pddl_lex.specs.Bytes.{is_digit, front_length}
use Rattle.pddl_lex.specs.Decimals.{with_digits, whole_digits, decimals, first_digit, signed, literal}
use Rattle.pddl_lex.specs.Items.{Item, kind_of}
use Rattle.pddl_lex.specs.Spells.{IsNumber, HasShape, Stands, nothing, blank, comment, token, bad_byte, bad_number, SpelledBy}
use Rattle.pddl_lex.proofs.Literals.{Fits, parts_fit}
use Rattle.wellformed_texts.specs.Literals.{IsLiteralKind, IsLiteralToken}

-- ---- a whole number over ten for each place

ten_some : (places : ℕ) → 0 < 10 ^ places
ten_some places =
    let above : 0 ≤ places = omega arith in
    let least : 10 ^ 0 ≤ 10 ^ places = pow-le-pow_right {n = 10} (omega arith) above in
    omega (arith, least)

-- a number with the factors of a quotient is the quotient's
quotient_exact : (n : ℤ) (d digits : ℕ) (f : Fraction) → nat_abs n ≡ digits → IsMultiple n d f → nat_abs f.numerator * d ≡ digits * f.denominator
quotient_exact n d digits f size is =
    let whole : digits ≡ nat_abs f.numerator * is.factor = sym size ∙ ap nat_abs is.above ∙ unsigned_abs-mul f.numerator (pos is.factor) in
    ap (λ (x : ℕ). nat_abs f.numerator * x) (is.below ∙ mul_comm f.denominator is.factor)
    ∙ sym (mul_assoc (nat_abs f.numerator) is.factor f.denominator)
    ∙ ap (λ (x : ℕ). x * f.denominator) (sym whole)

pub tens_literal : (n : ℤ) (digits places : ℕ) → nat_abs n ≡ digits → digits < 10 ^ 18 → places ≤ 9 → IsLiteral (reduce n (10 ^ places))
tens_literal n digits places size few few_places = record {
  places = places;
  digits = digits;
  few_places = few_places;
  exact = quotient_exact n (10 ^ places) digits (reduce n (10 ^ places)) size (multiple n (10 ^ places) (ten_some places));
  few_digits = few;
}

-- ---- the number of a token

size_of_negative : (number : ℕ) → nat_abs (neg_ℤ (pos number)) ≡ number
size_of_negative zero = refl
size_of_negative (suc number) = refl

size_of_signed : (byte number : ℕ) → nat_abs (signed byte number) ≡ number
size_of_signed byte number =
    elim (byte == 45) as (λ t. nat_abs (if t then neg_ℤ (pos number) else pos number) ≡ number) [
      | true ↦ size_of_negative number
      | false ↦ refl
    ]

pub number_literal : (byte : ℕ) (behind : List ℕ) → IsNumber byte behind → IsLiteral (literal byte behind)
unfolding literal
number_literal byte behind is =
    let count : ℕ = front_length is_digit behind in
    let fits : Fits (first_digit byte) (whole_digits behind) (decimals behind) =
    parts_fit byte behind (first_digit byte) count (take count behind) (drop count behind) (drop 1 (drop count behind)) is refl refl refl refl refl in
    let number : ℕ = with_digits (first_digit byte) (whole_digits behind ++ decimals behind) in
    tens_literal (signed byte number) number (length (decimals behind)) (size_of_signed byte number) fits.few fits.places

pub shape_literal : (shape : Shape) (byte : ℕ) (behind : List ℕ) → HasShape shape byte behind → IsLiteralKind (kind_of shape byte behind)
shape_literal shape.Open byte behind has = tt
shape_literal shape.Close byte behind has = tt
shape_literal shape.Word byte behind has = tt
shape_literal shape.Variable byte behind has = tt
shape_literal shape.Keyword byte behind has = tt
shape_literal shape.Number byte behind has = number_literal byte behind has
shape_literal (shape.Sign sign) byte behind has = tt

-- ---- the tokens of a text

-- if it is a token that is a number, it is a literal
abbrev pub IsLiteralItem : Item → Type 0
IsLiteralItem (Ok it) = IsLiteralToken it
IsLiteralItem (Err fault) = ⊤

pub items_literal : (before text : List ℕ) (items : List Item) → Stands before text items → Every IsLiteralItem items
items_literal _ _ _ (nothing before) = tt
items_literal _ _ _ (blank before byte rest items is stands) = items_literal (before ++ byte ∷ []) rest items stands
items_literal _ _ _ (comment before line rest items all stop stands) = items_literal (before ++ 59 ∷ line) rest items stands
items_literal _ _ _ (token before shape byte behind rest items has ends stands) =
    (shape_literal shape byte behind has, items_literal (before ++ byte ∷ behind) rest items stands)
items_literal _ _ _ (bad_byte before byte rest items no_blank no_comment none stands) = (tt, items_literal (before ++ byte ∷ []) rest items stands)
items_literal _ _ _ (bad_number before byte behind rest items is stands) = (tt, items_literal (before ++ byte ∷ behind) rest items stands)

tokens_of_items : (tokens : List Token) → Every IsLiteralItem (map Ok tokens) → Every IsLiteralToken tokens
tokens_of_items [] every = tt
tokens_of_items (it ∷ tokens) every = (every.0, tokens_of_items tokens every.1)

pub tokens_literal : (text : List ℕ) (tokens : List Token) → SpelledBy text tokens → Every IsLiteralToken tokens
tokens_literal text tokens spelled = tokens_of_items tokens (items_literal [] text (map Ok tokens) spelled)
