-- The actions that a domain lists have names that differ.
use Rattle.std.proofs.Common.{◌≡◌, Bool, true, false, true≢false, not, if◌then◌else◌, List, [], ◌∷◌, ◌++◌, map, take, refl, sym, ◌∙◌, subst, inl, inr}
use Rattle.std.specs.Prelude.{⊤}
use Rattle.up_text.specs.declared.name.Name.{Name}
use Rattle.up_text.specs.Names.{IsName}
use Rattle.up_text.specs.Lists.{Every, Member, Differ}
use Rattle.up_text.specs.Fresh.{is_among, with_name}
use Rattle.pddl_lex.specs.Parses.{over_two}
use Rattle.pddl_parse.specs.declared.raw.RawAction.{RawAction}
use Rattle.up_tree.specs.declared.action.Action.{Action}
use Rattle.up_tree.specs.declared.problem.Parts.{Parts}
use Rattle.up_tree.specs.WellFormed.{IsAction}
use Rattle.up_phrase.specs.declared.reason.Reason.TheVariants.{Duplicate}
use Rattle.up_phrase.specs.declared.term.Setting.TheVariants.{Plain}
use Rattle.up_phrase.specs.Conditions.{formula}
use Rattle.up_phrase.specs.Declarations.{Declarations}
use Rattle.up_phrase.specs.Named.{at}
use Rattle.up_phrase.specs.Scopes.{entered_groups, typed}
use Rattle.up_effect.specs.Actions.{action_of, with_parameters, action}
use Rattle.up_effect.specs.Effects.{within, rows}
use Rattle.up_check.specs.Domains.{actions, second}
use Rattle.wellformed_phrases.specs.Agreement.{IfParsed, Agree}
use Rattle.wellformed_phrases.specs.LawfulPhrases.{IsLawfulAction}
use Rattle.wellformed_phrases.proofs.Parses.{parsed_two, parsed_after, parsed_behind, parsed_any, holds}
use Rattle.wellformed_phrases.proofs.Members.{member_front, member_back, every_as, listed}
use Rattle.wellformed_phrases.proofs.Actions.{action_is}

-- ---- names that are declared

still_among : (declared : List Name) (name x : Name) → Member x declared → Member x (with_name declared name)
still_among declared name x m = by (is_among declared name)
  where
    by : (b : Bool) → Member x (if b then declared else declared ++ name ∷ [])
    by true = m
    by false = member_front x declared (name ∷ []) m

now_among : (declared : List Name) (name : Name) → is_among declared name ≡ false → Member name (with_name declared name)
now_among declared name new = rw new (member_back name declared (name ∷ []) (inl refl))

no_other : (b : Bool) → not b ≡ true → b ≡ false
no_other true e = absurd (true≢false (sym e))
no_other false e = refl

-- actions of names that differ from one another and from these
pub record AreApart (declared : List Name) (acts : List Action) : Type 0 where
  pub names_all : Every IsName (map (λ a. a.name) acts)
  pub differ : Differ (map (λ a. a.name) acts)
  pub new : Every (λ (a : Action). ¬ Member a.name declared) acts

not_later : (declared : List Name) (name : Name) → Member name declared → (acts : List Action) → Every (λ (a : Action). ¬ Member a.name declared) acts
    → ¬ Member name (map (λ a. a.name) acts)
not_later declared name there [] new m = m
not_later declared name there (a ∷ acts) new (inl is) = new.0 (subst (λ n. Member n declared) is there)
not_later declared name there (a ∷ acts) new (inr m) = not_later declared name there acts new.1 m

one_apart : (declared : List Name) (name : Name) → IsName name → is_among declared name ≡ false → (a : Action) (acts : List Action) → a.name ≡ name
    → AreApart (with_name declared name) acts → AreApart declared (a ∷ acts)
one_apart declared name named free a acts is apart = record {
  names_all = (subst IsName (sym is) named, apart.names_all);
  differ = (subst (λ n. ¬ Member n (map (λ a. a.name) acts)) (sym is) (not_later (with_name declared name) name (now_among declared name free) acts apart.new), apart.differ);
  new = (
    (λ m. true≢false (sym (listed name declared (subst (λ n. Member n declared) is m)) ∙ free)),
    every_as (λ (b : Action). ¬ Member b.name (with_name declared name)) (λ (b : Action). ¬ Member b.name declared) acts (λ b new m. new (still_among declared name b.name m)) apart.new,
  );
}

module _ (names : Declarations) where
  action_named : (raw : RawAction) → IfParsed (action names raw) (λ a. a.name ≡ raw.name.name)
  action_named raw =
      parsed_after (λ vars. ⊤) (λ (a : Action). a.name ≡ raw.name.name) (entered_groups names [] raw.params []) (with_parameters names raw []) (parsed_any (entered_groups names [] raw.params []))
      (λ vars any. parsed_two (λ f. ⊤) (λ rs. ⊤) (λ (a : Action). a.name ≡ raw.name.name) (action_of raw.name.name (map typed vars)) (formula names vars Plain raw.pre)
      (rows names (within vars []) raw.effect) (λ f rs one other. refl) (parsed_any (formula names vars Plain raw.pre)) (parsed_any (rows names (within vars []) raw.effect)))

  pub actions_apart : (raws : List RawAction) (declared : List Name) → Every (λ (raw : RawAction). IsName raw.name.name) raws
      → IfParsed (actions names declared raws) (AreApart declared)
  actions_apart [] declared named = record { names_all = tt; differ = tt; new = tt }
  actions_apart (raw ∷ raws) declared named =
      parsed_behind (AreApart declared) (second declared raw.name)
      (over_two (λ a more. a ∷ more) (action names raw) (actions names (with_name declared raw.name.name) raws)) (λ none.
      parsed_two (λ (a : Action). a.name ≡ raw.name.name) (AreApart (with_name declared raw.name.name)) (AreApart declared) (λ a more. a ∷ more)
      (action names raw) (actions names (with_name declared raw.name.name) raws)
      (λ a acts is apart. one_apart declared raw.name.name named.0
      (no_other (is_among declared raw.name.name) (holds (not (is_among declared raw.name.name)) (at raw.name.place Duplicate raw.name.name) none)) a acts is apart)
      (action_named raw) (actions_apart raws (with_name declared raw.name.name) named.1))

  module _ (p : Parts) (agree : Agree names p (take p.constants p.objects)) where
    pub actions_are : (raws : List RawAction) (declared : List Name) → Every IsLawfulAction raws → IfParsed (actions names declared raws) (Every (IsAction p))
    actions_are [] declared lawful = tt
    actions_are (raw ∷ raws) declared lawful =
        parsed_behind (Every (IsAction p)) (second declared raw.name)
        (over_two (λ a more. a ∷ more) (action names raw) (actions names (with_name declared raw.name.name) raws)) (λ none.
        parsed_two (IsAction p) (Every (IsAction p)) (Every (IsAction p)) (λ a more. a ∷ more) (action names raw) (actions names (with_name declared raw.name.name) raws)
        (λ a acts is are. (is, are)) (action_is names p agree raw lawful.0) (actions_are raws (with_name declared raw.name.name) lawful.1))
