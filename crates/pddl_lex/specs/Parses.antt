-- What the traversal of a tree gives: the value of its parse, or its faults in the order of the traversal.
use Rattle.std.specs.Prelude.{List, [], ◌∷◌, ◌++◌, Option, Some, None}

-- the parsed value, or at least one fault
pub data Parse (F A : Type 0) : Type 0 where
  parsed : A → Parse F A
  rejected : F → List F → Parse F A

abbrev pub faults : {F A : Type 0} → Parse F A → List F
faults (parsed a) = []
faults (rejected f fs) = f ∷ fs

-- faults that come before
abbrev pub behind : {F A : Type 0} → List F → Parse F A → Parse F A
behind [] v = v
behind (f ∷ fs) v = rejected f (fs ++ faults v)

-- faults that come after
abbrev pub followed : {F A : Type 0} → Parse F A → List F → Parse F A
followed (parsed a) [] = parsed a
followed (parsed a) (f ∷ fs) = rejected f fs
followed (rejected f fs) gs = rejected f (fs ++ gs)

abbrev pub over : {F A B : Type 0} → (A → B) → Parse F A → Parse F B
over g (parsed a) = parsed (g a)
over g (rejected f fs) = rejected f fs

-- of two parts, one after the other
abbrev pub over_two : {F A B C : Type 0} → (A → B → C) → Parse F A → Parse F B → Parse F C
over_two g (parsed a) v = over (g a) v
over_two g (rejected f fs) v = rejected f (fs ++ faults v)

-- of all parts, one after the other
abbrev pub all : {F A : Type 0} → List (Parse F A) → Parse F (List A)
all [] = parsed []
all (v ∷ vs) = over_two (λ x xs. x ∷ xs) v (all vs)

-- the fault at which a traversal stops
abbrev pub first : {F A : Type 0} → Parse F A → Option F
first (parsed a) = None
first (rejected f fs) = Some f

-- with items in front
abbrev pub before : {F A : Type 0} → List A → Parse F (List A) → Parse F (List A)
before made v = over (λ more. made ++ more) v
