-- Names that are named somewhere may be declared.
use Rattle.std.proofs.Common.{◌≡◌, Bool, true, false, cond, List, [], ◌∷◌, map, refl, sym, subst, inl, inr}
use Rattle.std.specs.Prelude.{Some, IsSome, find}
use Rattle.std.proofs.lemmas.Bool.{false≢true}
use Rattle.std.proofs.lemmas.Slice.Eq.{bytes_eq-Decides}
use Rattle.up_text.specs.declared.name.Name.{Name}
use Rattle.up_text.specs.declared.place.Place.{Place}
use Rattle.up_text.specs.Names.{IsName, same_name, name_of, reserved_words}
use Rattle.up_text.specs.Lists.{Every}
use Rattle.up_tree.specs.declared.term.Typed.{Typed}
use Rattle.up_tree.specs.declared.problem.Predicate.{Predicate}
use Rattle.up_tree.specs.declared.problem.Function.{Function}
use Rattle.up_tree.specs.declared.problem.Parts.{Parts}
use Rattle.up_tree.specs.WellFormed.{top_type, IsType, IsWellFormed}
use Rattle.roundtrip_tokens.proofs.Named.{every-map, every-front, every-back}
use Rattle.pddl_lex.specs.declared.tree.TokenKind.TheVariants as kind
use Rattle.pddl_parse.specs.Forms as forms
use Rattle.pddl_parse.specs.Forms.{ident_at, IsIdent, IsVariable}

pub name_of-name : (name : Name) → IsName name → name_of name ≡ Some name
name_of-name name is = rw (is.spelled, is.free) refl

pub word_is : (name : Name) → IsName name → (place : Place) → IsIdent (forms.leaf (kind.Word name) place) (ident_at name place)
word_is name is place = forms.ident name name place (name_of-name name is)

pub variable_is : (name : Name) → IsName name → (place : Place) → IsVariable (forms.leaf (kind.Variable name) place) (ident_at name place)
variable_is name is place = forms.variable name name place (name_of-name name is)

module _ {X : Type 0} (name_in : X → Name) where
  pub found_named : (xs : List X) (name : Name) → Every (λ x. IsName (name_in x)) xs → IsSome (find (λ x. same_name (name_in x) name) xs) → IsName name
  found_named [] name all some = absurd (false≢true some)
  found_named (x ∷ xs) name all some =
      let by_test : (b : Bool) → same_name (name_in x) name ≡ b → IsSome (cond b (Some x) (find (λ x. same_name (name_in x) name) xs)) → IsName name =
      elim [
        | true ↦ λ is found. subst IsName ((bytes_eq-Decides (name_in x) name).0 is) all.0
        | false ↦ λ is found. found_named xs name all.1 found
      ] in
      by_test (same_name (name_in x) name) refl some

-- the declared names may be declared
pub record AreNamed (p : Parts) : Type 0 where
  pub types : Every (λ t. IsName t.name) p.types
  pub predicates : Every (λ d. IsName d.name) p.predicates
  pub functions : Every (λ d. IsName d.name) p.functions

top_named : IsName top_type
unfolding reserved_words
top_named = record { spelled = refl; free = refl }

pub type_named : (p : Parts) → AreNamed p → (t : Name) → IsType p t → IsName t
type_named p names t (inl top) = subst IsName (sym top) top_named
type_named p names t (inr some) = found_named (λ e. e.name) p.types t names.types some

-- the names of the parts of a well-formed problem
pub well_named : (p : Parts) → IsWellFormed p → AreNamed p
well_named p well = record {
  types = every-map (λ (t : Typed). t.name) IsName (λ t. IsName t.name) (λ t is. is) p.types well.types.names_all;
  predicates = every-map (λ (d : Predicate). d.name) IsName (λ d. IsName d.name) (λ d is. is) p.predicates
      (every-front IsName (map (λ (d : Predicate). d.name) p.predicates) (map (λ (d : Function). d.name) p.functions) well.symbols.names_all);
  functions = every-map (λ (d : Function). d.name) IsName (λ d. IsName d.name) (λ d is. is) p.functions
      (every-back IsName (map (λ (d : Predicate). d.name) p.predicates) (map (λ (d : Function). d.name) p.functions) well.symbols.names_all);
}
