-- How a traversal goes on from what it has found.
use Rattle.std.specs.Prelude.{Bool, true, false, List, [], ◌∷◌}
use Rattle.pddl_lex.specs.Parses.{Parse, parsed, rejected}
use Rattle.up_phrase.specs.declared.fault.Fault.{Fault}

-- a part whose names are known, or its faults in the order of the traversal
abbrev pub Checked : Type 0 → Type 0
Checked A = Parse Fault A

-- a part that is read by what the part before it gave
abbrev pub after : {A B : Type 0} → Checked A → (A → Checked B) → Checked B
after (parsed a) next = next a
after (rejected fault others) next = rejected fault others

-- the fault of what doesn't hold
abbrev pub unless : Bool → Fault → List Fault
unless true fault = []
unless false fault = fault ∷ []

-- items one after the other, each of which goes on from what the ones before it made
abbrev pub in_turn : {X A : Type 0} → (X → A → Checked A) → List X → A → Checked A
in_turn step [] a = parsed a
in_turn step (x ∷ others) a = after (step x a) (in_turn step others)
