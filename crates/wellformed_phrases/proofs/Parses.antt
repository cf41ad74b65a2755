-- What holds of parts that are read holds of what is read of them.
use Rattle.std.proofs.Common.{◌≡◌, Bool, true, false, List, [], ◌∷◌, ◌++◌, refl, subst}
use Rattle.std.specs.Prelude.{⊤}
use Rattle.up_text.specs.Lists.{Every}
use Rattle.pddl_lex.specs.Parses.{Parse, parsed, rejected, all, over, over_two, behind, followed}
use Rattle.up_phrase.specs.declared.fault.Fault.{Fault}
use Rattle.up_phrase.specs.Walks.{Checked, after, unless}
use Rattle.wellformed_phrases.specs.Agreement.{IfParsed}

module _ {F A B : Type 0} (P : A → Type 0) (Q : B → Type 0) where
  pub parsed_over : (g : A → B) (v : Parse F A) → ((a : A) → P a → Q (g a)) → IfParsed v P → IfParsed (over g v) Q
  parsed_over g (parsed a) h is = h a is
  parsed_over g (rejected f fs) h is = tt

pub parsed_as : {F A : Type 0} (P Q : A → Type 0) (v : Parse F A) → ((a : A) → P a → Q a) → IfParsed v P → IfParsed v Q
parsed_as P Q (parsed a) h is = h a is
parsed_as P Q (rejected f fs) h is = tt

pub parsed_two : {F A B C : Type 0} (P : A → Type 0) (Q : B → Type 0) (R : C → Type 0) (g : A → B → C) (v : Parse F A) (w : Parse F B)
    → ((a : A) (b : B) → P a → Q b → R (g a b)) → IfParsed v P → IfParsed w Q → IfParsed (over_two g v w) R
parsed_two P Q R g (parsed a) (parsed b) h p q = h a b p q
parsed_two P Q R g (parsed a) (rejected f fs) h p q = tt
parsed_two P Q R g (rejected f fs) w h p q = tt

pub parsed_after : {A B : Type 0} (P : A → Type 0) (Q : B → Type 0) (v : Checked A) (next : A → Checked B)
    → IfParsed v P → ((a : A) → P a → IfParsed (next a) Q) → IfParsed (after v next) Q
parsed_after P Q (parsed a) next is h = h a is
parsed_after P Q (rejected f fs) next is h = tt

pub parsed_behind : {F A : Type 0} (P : A → Type 0) (fs : List F) (v : Parse F A) → (fs ≡ [] → IfParsed v P) → IfParsed (behind fs v) P
parsed_behind P [] v h = h refl
parsed_behind P (f ∷ fs) v h = tt

pub parsed_followed : {F A : Type 0} (P : A → Type 0) (v : Parse F A) (fs : List F) → (fs ≡ [] → IfParsed v P) → IfParsed (followed v fs) P
parsed_followed P (parsed a) [] h = h refl
parsed_followed P (parsed a) (f ∷ fs) h = tt
parsed_followed P (rejected f gs) fs h = tt

-- no fault is found of what holds
pub holds : (b : Bool) (fault : Fault) → unless b fault ≡ [] → b ≡ true
holds true fault e = refl
holds false fault e = cc

pub none_behind : {X : Type 0} (xs ys : List X) → xs ++ ys ≡ [] → ys ≡ []
none_behind [] ys e = e
none_behind (x ∷ xs) ys e = cc

pub none_before : {X : Type 0} (xs ys : List X) → xs ++ ys ≡ [] → xs ≡ []
none_before [] ys e = refl
none_before (x ∷ xs) ys e = cc

-- each part that is read is so
pub parsed_all : {F A : Type 0} (P : A → Type 0) (vs : List (Parse F A)) → Every (λ v. IfParsed v P) vs → IfParsed (all vs) (Every P)
parsed_all P [] are = tt
parsed_all P (v ∷ vs) are = parsed_two P (Every P) (Every P) (λ x xs. x ∷ xs) v (all vs) (λ a b is others. (is, others)) are.0 (parsed_all P vs are.1)

-- what is read is so for each if it is so for any
pub parsed_each : {F A X : Type 0} (P : X → A → Type 0) (v : Parse F A) → ((x : X) → IfParsed v (P x)) → IfParsed v (λ a. (x : X) → P x a)
parsed_each P (parsed a) are = are
parsed_each P (rejected f fs) are = tt

-- nothing is asked of what is read
pub parsed_any : {F A : Type 0} (v : Parse F A) → IfParsed v (λ a. ⊤)
parsed_any (parsed a) = tt
parsed_any (rejected f fs) = tt

-- what is read is both
pub parsed_and : {F A : Type 0} (P Q : A → Type 0) (v : Parse F A) → IfParsed v P → IfParsed v Q → IfParsed v (λ a. P a × Q a)
parsed_and P Q (parsed a) p q = (p, q)
parsed_and P Q (rejected f fs) p q = tt

pub parsed_is : {F A : Type 0} (P : A → Type 0) (v : Parse F A) (a : A) → v ≡ parsed a → IfParsed v P → P a
parsed_is P v a is so = subst (λ w. IfParsed w P) is so
