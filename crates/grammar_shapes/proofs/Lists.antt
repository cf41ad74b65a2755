-- A list of names is read exactly from the trees that spell it.
use Rattle.std.proofs.Common.{◌≡◌, List, [], ◌∷◌, ◌++◌, append_assoc, append-nil, map, refl, sym, subst, true, false}
use Rattle.std.specs.Prelude.{◌≢◌, Some}
use Rattle.up_text.specs.declared.place.Place.{Place}
use Rattle.pddl_lex.specs.declared.tree.TokenKind.TheVariants as kind
use Rattle.pddl_lex.specs.declared.tree.Sign.TheVariants as sign
use Rattle.pddl_lex.specs.declared.tree.Sexp.{Sexp}
use Rattle.pddl_lex.specs.Parses.{parsed, rejected, all, over_two}
use Rattle.pddl_parse.specs.declared.raw.Ident.{Ident}
use Rattle.pddl_parse.specs.declared.raw.RawGroup.{RawGroup}
use Rattle.pddl_parse.specs.declared.typed.Item.TheVariants as item
use Rattle.pddl_parse.specs.Shapes as shape
use Rattle.pddl_parse.specs.Shapes.{Read, lacking}
use Rattle.pddl_parse.specs.TypedLists as lists
use Rattle.pddl_parse.specs.TypedLists.{Go, is_minus, ends_after, ends_in_minus, on_name, last_group, typed_list}
use Rattle.pddl_parse.specs.Forms.{leaf, IsIdent}
use Rattle.pddl_parse.proofs.Read.{ident_read, ident_no_minus, ends_through, last_on}
use Rattle.pddl_parse.proofs.Spelled.{Sound, sound_two, sound_behind, ident_sound}
use Rattle.pddl_parse.proofs.SpelledLists.{minus_is, on_minus_sound}
use Rattle.grammar_shapes.specs.Lists.{AreNames, no_names, more_names, AreListed, none_listed, untyped_names, typed_names}
use Rattle.grammar_shapes.proofs.Parses.{sound_is, sound_if, sound_all}

-- ---- names alone

pub idents_read : (trees : List Sexp) (names : List Ident) → AreNames trees names → all (map shape.ident trees) ≡ parsed names
idents_read _ _ no_names = refl
idents_read _ _ (more_names tree name trees names is others) = rw (ident_read tree name is, idents_read trees names others) refl

pub idents_sound : (trees : List Sexp) → Sound (all (map shape.ident trees)) (AreNames trees)
idents_sound trees =
    sound_all IsIdent AreNames shape.ident no_names more_names ident_sound trees

-- ---- a list that is spelled is read

names_on : (place : Place) (trees : List Sexp) (names : List Ident) → AreNames trees names → (rest : List Sexp) (so_far : List Ident)
    → lists.typed item.Name place (trees ++ rest) so_far false ≡ lists.typed item.Name place rest (so_far ++ names) false
names_on place _ _ no_names rest so_far = rw append-nil refl
names_on place _ _ (more_names tree name trees names is others) rest so_far =
    rw (
      ident_no_minus tree name is,
      ident_read tree name is,
      names_on place trees names others rest (so_far ++ name ∷ []),
      append_assoc,
    ) refl

minus_on : (place at : Place) (tree : Sexp) (rest : List Sexp) (names : List Ident) → names ≢ []
    → lists.typed item.Name place (leaf (kind.Sign sign.Minus) at ∷ tree ∷ rest) names false
    ≡ over_two (λ t groups. record { names = names; of = Some t } ∷ groups) (shape.ident tree) (lists.typed item.Name place rest [] false)
unfolding is_minus
minus_on place at tree rest [] some = absurd (some refl)
minus_on place at tree rest (name ∷ names) some = refl

listed_read : (place : Place) (trees : List Sexp) (groups : List RawGroup) → AreListed trees groups
    → lists.typed item.Name place trees [] false ≡ parsed groups
listed_read place _ _ none_listed = refl
listed_read place _ _ (untyped_names trees names some are) =
    rw (← append-nil trees, names_on place trees names are [] []) (last_on place names some)
listed_read place _ _ (typed_names trees names at tree of rest groups some are is others) =
    rw (
      names_on place trees names are (leaf (kind.Sign sign.Minus) at ∷ tree ∷ rest) [],
      minus_on place at tree rest names some,
      ident_read tree of is,
      listed_read place rest groups others,
    ) refl

ends_names : (trees : List Sexp) (names : List Ident) → AreNames trees names → ends_after false trees ≡ false
ends_names _ _ no_names = refl
ends_names _ _ (more_names tree name trees names is others) = rw (ident_no_minus tree name is) (ends_names trees names others)

ends_listed : (trees : List Sexp) (groups : List RawGroup) → AreListed trees groups → ends_after false trees ≡ false
ends_listed _ _ none_listed = refl
ends_listed _ _ (untyped_names trees names some are) = ends_names trees names are
ends_listed _ _ (typed_names trees names at tree of rest groups some are is others) =
    rw (ends_through trees false (leaf (kind.Sign sign.Minus) at) (tree ∷ rest), ident_no_minus tree of is) (ends_listed rest groups others)

pub names_read : (place : Place) (trees : List Sexp) (groups : List RawGroup) → AreListed trees groups
    → typed_list item.Name place trees ≡ parsed groups
names_read place trees groups is = rw (ends_listed trees groups is, listed_read place trees groups is) refl

-- ---- a list that is read is spelled

snoc : (front : List Sexp) (names : List Ident) → AreNames front names → (tree : Sexp) (it : Ident) → IsIdent tree it
    → AreNames (front ++ tree ∷ []) (names ++ it ∷ [])
snoc _ _ no_names tree it is = more_names tree it [] [] is no_names
snoc _ _ (more_names first name front names here others) tree it is =
    more_names first name (front ++ tree ∷ []) (names ++ it ∷ []) here (snoc front names others tree it is)

none_front : (front : List Sexp) → AreNames front [] → front ≡ []
none_front _ no_names = refl

last_sound : (place : Place) (front : List Sexp) (names : List Ident) → AreNames front names
    → Sound (last_group place names false) (AreListed (front ++ []))
last_sound place front [] are = subst (λ xs. AreListed (xs ++ []) []) (sym (none_front front are)) none_listed
last_sound place front (name ∷ names) are = rw append-nil (untyped_names front (name ∷ names) (λ e. cc) are)

on_name_sound : (P : List RawGroup → Type 0) (tree : Sexp) (v : Read Ident) (names : List Ident) (go : Go) → Sound v (IsIdent tree)
    → ((it : Ident) → IsIdent tree it → Sound (go (names ++ it ∷ []) false) P) → Sound (on_name v names go) P
on_name_sound P tree (parsed it) names go is h = h it is
on_name_sound P tree (rejected f fs) names go is h = sound_behind P (f ∷ fs) (go names false) (λ e. cc)

mutual
  names_sound : (place : Place) (trees front : List Sexp) (names : List Ident) → AreNames front names
      → Sound (lists.typed item.Name place trees names false) (AreListed (front ++ trees))
  names_sound place [] front names are = last_sound place front names are
  names_sound place (tree ∷ rest) front names are =
      sound_if (AreListed (front ++ tree ∷ rest)) (is_minus tree) _ _
      (λ e. on_minus_sound (AreListed (front ++ tree ∷ rest)) tree names (lists.typed item.Name place rest) (λ some.
      subst (λ x. Sound (lists.typed item.Name place rest names true) (AreListed (front ++ x ∷ rest))) (sym (minus_is tree e).is)
      (type_sound place rest front names (minus_is tree e).at are some)))
      (λ e. on_name_sound (AreListed (front ++ tree ∷ rest)) tree (shape.ident tree) names (lists.typed item.Name place rest)
      (ident_sound tree) (λ it is.
      subst (λ xs. Sound (lists.typed item.Name place rest (names ++ it ∷ []) false) (AreListed xs)) (append_assoc front (tree ∷ []) rest)
      (names_sound place rest (front ++ tree ∷ []) (names ++ it ∷ []) (snoc front names are tree it is))))

  type_sound : (place : Place) (trees front : List Sexp) (names : List Ident) (at : Place) → AreNames front names → names ≢ []
      → Sound (lists.typed item.Name place trees names true) (AreListed (front ++ leaf (kind.Sign sign.Minus) at ∷ trees))
  type_sound place [] front names at are some = tt
  type_sound place (tree ∷ rest) front names at are some =
      sound_two (IsIdent tree) (AreListed rest) (AreListed (front ++ leaf (kind.Sign sign.Minus) at ∷ tree ∷ rest)) _ (shape.ident tree)
      (lists.typed item.Name place rest [] false) (λ it groups is others. typed_names front names at tree it rest groups some are is others)
      (ident_sound tree) (names_sound place rest [] [] no_names)

listed_sound : (place : Place) (trees : List Sexp) → Sound (typed_list item.Name place trees) (AreListed trees)
listed_sound place trees =
    sound_behind (AreListed trees) (lacking (ends_in_minus trees) place) (lists.typed item.Name place trees [] false)
    (λ e. names_sound place trees [] [] no_names)

pub names_spelled : (place : Place) (trees : List Sexp) (groups : List RawGroup) → typed_list item.Name place trees ≡ parsed groups
    → AreListed trees groups
names_spelled place trees groups e = sound_is (AreListed trees) (typed_list item.Name place trees) groups (listed_sound place trees) e
