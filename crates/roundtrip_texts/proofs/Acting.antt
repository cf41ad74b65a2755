-- Written actions are read as those of the problem.
use Rattle.std.proofs.Common.{◌≡◌, Bool, false, List, [], ◌∷◌, ◌++◌, map, take, refl, ap, ◌∙◌, inl, inr}
use Rattle.std.specs.Prelude.{not}
use Rattle.up_text.specs.declared.name.Name.{Name}
use Rattle.up_text.specs.Fresh.{is_among, with_name}
use Rattle.up_text.specs.Lists.{Every, Member, Differ}
use Rattle.up_tree.specs.declared.action.Action.{Action}
use Rattle.up_tree.specs.declared.problem.Parts.{Parts}
use Rattle.up_tree.specs.WellFormed.{IsAction}
use Rattle.pddl_lex.specs.Parses.{parsed, behind, over, over_two}
use Rattle.pddl_parse.specs.declared.raw.RawAction.{RawAction}
use Rattle.up_phrase.specs.declared.reason.Reason.TheVariants.{Duplicate}
use Rattle.up_phrase.specs.Declarations.{Declarations}
use Rattle.up_phrase.specs.Named.{at as fault_at}
use Rattle.up_phrase.specs.Walks.{unless}
use Rattle.up_check.specs.Domains.{second, actions}
use Rattle.roundtrip_shapes.specs.Raw.{IsEmpty, empty, first}
use Rattle.roundtrip_shapes.specs.RawEffects.{IsRawAction}
use Rattle.roundtrip_shapes.specs.RawFiles.{AreEach}
use Rattle.roundtrip_names.specs.Declared.{Declares, TypesWritten}
use Rattle.roundtrip_names.proofs.Rows.{name_is, actions_are_named}
use Rattle.roundtrip_texts.proofs.Names.{still_new}

-- none of the actions has one of these names
abbrev pub Unnamed : List Name → List Action → Type 0
Unnamed declared acts = Every (λ a. is_among declared a.name ≡ false) acts

still_unnamed : (declared : List Name) (name : Name) (acts : List Action) → ¬ Member name (map (λ (a : Action). a.name) acts) → Unnamed declared acts → Unnamed (declared ++ name ∷ []) acts
still_unnamed declared name [] out new = tt
still_unnamed declared name (a ∷ acts) out new =
    (still_new declared name a.name (λ same. out (inl same)) new.0, still_unnamed declared name acts (λ m. out (inr m)) new.1)

module _ (names : Declarations) (p : Parts) (agree : Declares names p (take p.constants p.objects)) (typed : Bool) (all : TypesWritten typed p) where
  pub actions_read : (declared : List Name) (acts : List Action) (raws : List RawAction) → AreEach (IsRawAction typed) acts IsEmpty raws → Every (IsAction p) acts
      → Unnamed declared acts → Differ (map (λ (a : Action). a.name) acts) → actions names declared raws ≡ parsed acts
  actions_read declared [] _ empty are new differ = refl
  actions_read declared (a ∷ acts) _ (first raw raws so all_so) are new differ =
      ap (λ v. behind (second declared raw.name) (over_two (λ a more. a ∷ more) v (actions names (with_name declared raw.name.name) raws)))
      (actions_are_named names p agree typed all a are.0 raw so)
      ∙ ap (λ n. behind (unless (not (is_among declared n)) (fault_at raw.name.place Duplicate n)) (over (λ more. a ∷ more) (actions names (with_name declared n) raws)))
      (name_is a.name raw.name so.name)
      ∙ rw new.0 (ap (over (λ more. a ∷ more))
      (actions_read (declared ++ a.name ∷ []) acts raws all_so are.1 (still_unnamed declared a.name acts differ.0 new.1) differ.1))
