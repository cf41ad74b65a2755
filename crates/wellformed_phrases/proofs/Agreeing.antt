-- Sound declarations agree with a problem that has them.
use Rattle.std.proofs.Common.{◌≡◌, ℕ, zero, suc, Bool, true, false, true≢false, ◌||◌, List, [], ◌∷◌, ◌++◌, map, length, Option, Some, None, option_map, refl, ap, sym, ◌∙◌, subst, inl, inr}
use Rattle.std.specs.Prelude.{is_some, IsSome}
use Rattle.std.specs.Map.{lookup}
use Rattle.std.specs.Option.{option_or}
use Rattle.std.specs.Cmp.Lexicographic.{bytes_decides}
use Rattle.std.proofs.lemmas.List.{length-map}
use Rattle.up_text.specs.declared.name.Name.{Name}
use Rattle.up_text.specs.Names.{same_name}
use Rattle.up_text.specs.Lists.{Every, Member}
use Rattle.up_tree.specs.declared.problem.Gives.{Gives}
use Rattle.up_tree.specs.declared.problem.Gives.TheVariants as gives
use Rattle.up_tree.specs.declared.problem.Parts.{Parts}
use Rattle.up_tree.specs.declared.term.Typed.{Typed}
use Rattle.up_tree.specs.Objects.{named, type_in, chain}
use Rattle.up_tree.specs.WellFormed.{IsBelow, IsType, OfGives, top_type}
use Rattle.up_phrase.specs.declared.names.Signature.{Signature}
use Rattle.up_phrase.specs.Declarations.{Declarations}
use Rattle.up_phrase.specs.Lookups.{is_type, parent_of}
use Rattle.up_phrase.specs.Named.{is_object, object}
use Rattle.up_phrase.specs.Scopes.{typed}
use Rattle.wellformed_phrases.specs.Agreement.{Agree}
use Rattle.wellformed_phrases.specs.Sound.{AreSound, GivesType, HasDeclared}
use Rattle.wellformed_phrases.specs.SoundTypes.{AreSoundTypes}
use Rattle.wellformed_phrases.proofs.Tables.{type_found, is_there}
use Rattle.wellformed_phrases.proofs.Members.{found_is, found_named, lookup_append, names_in}

by_name : {X : Type 0} (Q : Name → Type 0) (t : Name) (es : List (Name × X)) → Every (λ e. Q e.0) es → Member t (names_in es) → Q t
by_name Q t [] are m = absurd m
by_name Q t (e ∷ es) are (inl is) = subst Q (sym is) are.0
by_name Q t (e ∷ es) are (inr m) = by_name Q t es are.1 m

-- a type that is found is a name in the table
type_name : (es : List (Name × Name)) (t : Name) → IsSome (named (map typed es) t) → Member t (names_in es)
type_name es t some = by (named (map typed es) t) refl some (lookup (same_name t) es) refl
  where
    by : (o : Option Typed) → named (map typed es) t ≡ o → IsSome o → (l : Option Name) → lookup (same_name t) es ≡ l → Member t (names_in es)
    by None is e l so = absurd (true≢false (sym e))
    by (Some entry) is e None so =
        absurd (true≢false (ap is_some (sym (ap (option_map (λ entry. entry.of)) is) ∙ type_found es t ∙ so)))
    by (Some entry) is e (Some parent) so = found_named t es parent so

chain_starts : (types : List Typed) (n : ℕ) (t : Name) → t ≡ top_type → Member top_type (chain types n t)
chain_starts types zero t is = inl (sym is)
chain_starts types (suc n) t is = inl (sym is)

module _ (names : Declarations) (types_sound : AreSoundTypes names.types) (sound : AreSound names) (p : Parts) (more : List (Name × Name)) (has : HasDeclared p names more) where
  pub type_is : (t : Name) → is_type names t ≡ true → IsType p t
  type_is t e = by (is_object t) refl (parent_of names t) refl e
    where
      by : (b : Bool) → is_object t ≡ b → (o : Option Name) → parent_of names t ≡ o → (b || is_some o) ≡ true → IsType p t
      by true top o is e = inl ((bytes_decides t object).0 top)
      by false other None is e = absurd (true≢false (sym e))
      by false other (Some parent) is e =
          inr (is_there (λ (entry : Typed). entry.of) (named p.types t) parent (ap (λ types. type_in types t) has.types ∙ type_found names.types t ∙ is))

  below_top : (t : Name) → IsType p t → IsBelow p t top_type
  below_top t (inl top) = chain_starts p.types (length p.types) t top
  below_top t (inr some) =
      let there : Member t (names_in names.types) = type_name names.types t (subst (λ types. IsSome (named types t)) has.types some) in
      let reached : Member top_type (chain (map typed names.types) (length names.types) t) =
      by_name (λ n. Member top_type (chain (map typed names.types) (length names.types) n)) t names.types types_sound.chains there in
      let size : length names.types ≡ length (map typed names.types) = rw (length-map) refl in
      subst (λ types. Member top_type (chain types (length types) t)) (sym has.types) (subst (λ n. Member top_type (chain (map typed names.types) n t)) size reached)

  pub gives_is : (g : Gives) → GivesType names g → OfGives p g
  gives_is gives.Number is = tt
  gives_is (gives.Object of) is = type_is of is

  agree : Agree names p (map typed names.objects)
  agree = record {
    types = has.types;
    predicates = has.predicates;
    functions = has.functions;
    below_top = below_top;
    admitted = λ o of is. is_there (λ (entry : Typed). entry.of) (named (map typed names.objects) o) of (type_found names.objects o ∙ is);
    object_types = λ o of is. ap (λ objects. type_in objects o) has.objects ∙ type_found (names.objects ++ more) o ∙ lookup_append o names.objects more
        ∙ ap (λ found. option_or found (lookup (same_name o) more)) is;
    known_types = λ o of is. type_is of (found_is o (λ t. is_type names t ≡ true) names.objects of sound.object_types is);
    given_types = λ f function is. gives_is function.gives (found_is f (λ (s : Signature). GivesType names s.gives) names.functions function sound.value_types is);
  }

pub sound_agree : (names : Declarations) → AreSoundTypes names.types → AreSound names
    → (p : Parts) (more : List (Name × Name)) → HasDeclared p names more → Agree names p (map typed names.objects)
sound_agree names types_sound sound p more has = agree names types_sound sound p more has

-- what agrees where some objects may be named agrees where all may
pub agree_all : (names : Declarations) (p : Parts) (objects : List Typed) → Agree names p objects → Agree names p p.objects
agree_all names p objects agree = record {
  types = agree.types;
  predicates = agree.predicates;
  functions = agree.functions;
  below_top = agree.below_top;
  admitted = λ o of is. is_there (λ (entry : Typed). entry.of) (named p.objects o) of (agree.object_types o of is);
  object_types = agree.object_types;
  known_types = agree.known_types;
  given_types = agree.given_types;
}
