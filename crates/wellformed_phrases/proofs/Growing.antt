-- Objects are declared after those that are there.
use Rattle.std.proofs.Common.{◌≡◌, List, [], ◌∷◌, ◌++◌, Option, Some, None, append_assoc, refl, ap, sym, ◌∙◌}
use Rattle.std.specs.Prelude.{⊤}
use Rattle.std.proofs.lemmas.List.{append-nil}
use Rattle.up_text.specs.declared.name.Name.{Name}
use Rattle.up_text.specs.Names.{same_name}
use Rattle.up_text.specs.Lists.{Every}
use Rattle.pddl_lex.specs.Parses.{parsed, behind}
use Rattle.pddl_parse.specs.declared.raw.Ident.{Ident}
use Rattle.pddl_parse.specs.declared.raw.RawGroup.{RawGroup}
use Rattle.up_phrase.specs.declared.reason.Reason.TheVariants.{Duplicate}
use Rattle.up_phrase.specs.Declarations.{Declarations}
use Rattle.up_phrase.specs.Lookups.{type_of}
use Rattle.up_phrase.specs.Named.{at}
use Rattle.up_phrase.specs.Scopes.{type_named, type_fault}
use Rattle.up_phrase.specs.Walks.{unless, in_turn}
use Rattle.up_declare.specs.Declaring.{declared_as, with_object, with_group, with_objects}
use Rattle.wellformed_phrases.specs.Agreement.{IfParsed}
use Rattle.wellformed_phrases.proofs.Parses.{parsed_after, parsed_behind}
use Rattle.wellformed_phrases.proofs.Declared.{parsed_turns}

-- more objects, and all else as it was
pub record IsGrown (before after : Declarations) : Type 0 where
  pub more : List (Name × Name)
  pub objects : after.objects ≡ before.objects ++ more
  pub types : after.types ≡ before.types
  pub predicates : after.predicates ≡ before.predicates
  pub functions : after.functions ≡ before.functions

anything : {X : Type 0} (xs : List X) → Every (λ x. ⊤) xs
anything [] = tt
anything (x ∷ xs) = (tt, anything xs)

module _ (before : Declarations) where
  object_grown : (of : Name) (it : Ident) (names : Declarations) → IsGrown before names → IfParsed (with_object of it names) (IsGrown before)
  object_grown of it names grown = by (type_of names it.name)
    where
      by : (o : Option Name) → IfParsed (declared_as o of it names) (IsGrown before)
      by (Some first) = parsed_behind (IsGrown before) (unless (same_name first of) (at it.place Duplicate it.name)) (parsed names) (λ none. grown)
      by None = record {
        more = grown.more ++ (it.name, of) ∷ [];
        objects = ap (λ objects. objects ++ (it.name, of) ∷ []) grown.objects ∙ append_assoc before.objects grown.more ((it.name, of) ∷ []);
        types = grown.types;
        predicates = grown.predicates;
        functions = grown.functions;
      }

  group_grown : (group : RawGroup) (names : Declarations) → IsGrown before names → IfParsed (with_group group names) (IsGrown before)
  group_grown group names grown =
      parsed_after (IsGrown before) (IsGrown before) (in_turn (with_object (type_named group.of)) group.names names) (λ more. behind (type_fault more group.of) (parsed more))
      (parsed_turns (IsGrown before) (λ (it : Ident). ⊤) (with_object (type_named group.of)) group.names
      (λ it more any so. object_grown (type_named group.of) it more so) (anything group.names) names grown)
      (λ more so. parsed_behind (IsGrown before) (type_fault more group.of) (parsed more) (λ none. so))

  pub objects_grown : (groups : List RawGroup) → IfParsed (with_objects groups before) (IsGrown before)
  objects_grown groups =
      parsed_turns (IsGrown before) (λ (group : RawGroup). ⊤) with_group groups (λ group more any so. group_grown group more so) (anything groups) before
      (record { more = []; objects = sym (append-nil before.objects); types = refl; predicates = refl; functions = refl })
