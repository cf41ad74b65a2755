-- What a problem states, part by part.
use Rattle.std.proofs.Common.{◌≡◌, Some}
use Rattle.pddl_lex.specs.Parses.{Parse, parsed, rejected, first, over_two}

-- a fault of the second part, where the first is parsed
pub first_second : {F A B C : Type 0} (g : A → B → C) (v : Parse F A) (w : Parse F B) (a : A) (f : F) → v ≡ parsed a → first w ≡ Some f
    → first (over_two g v w) ≡ Some f
first_second g v (parsed b) a f is e = cc
first_second g v (rejected h hs) a f is e = rw is e

pub ruleset following = (first_second)
