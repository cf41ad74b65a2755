-- The rows that add atoms, by the predicate and the object that stands first.
use Rattle.std.specs.Prelude.{◌≡◌, Bool, true, false, if◌then◌else◌, ◌&&◌, ◌||◌, not as flip, List, [], ◌∷◌, ◌++◌, map, filter, Option, Some, None}
use Rattle.std.specs.List.{list_any}
use Rattle.std.specs.Borrow.{Bor}
use Rattle.std.specs.Cmp.Lexicographic.{pointwise}
use Rattle.indexmap.specs.IndexMap.{IndexMap, get}
use Rattle.up_text.specs.declared.name.Name.{Name}
use Rattle.up_text.specs.Names.{same_name}
use Rattle.up_tree.specs.declared.term.Term.{Term, Object}
use Rattle.up_tree.specs.declared.action.Action.{Action}
use Rattle.up_tree.specs.declared.action.Row.{Row}
use Rattle.up_tree.specs.declared.action.Effect.{Effect}
use Rattle.up_tree.specs.declared.action.Effect.TheVariants.{Add, Delete}
use Rattle.up_tree.specs.declared.problem.Parts.{Parts}
use Rattle.up_kind.specs.declared.ground.Ground.{Ground}
use Rattle.up_kind.specs.Keys.{same_ground}
use Rattle.up_kind.specs.Meeting.{is_guarded, share, meet}

-- the object that stands first, as a list
abbrev pub first_object : List Term → List Name
first_object [] = []
first_object (Object o ∷ ts) = o ∷ []
first_object (t ∷ ts) = []

-- the objects by which a row is filed: that which stands first, or none where rows are filed by predicate alone
abbrev pub filed_by : Bool → List Term → List Name
filed_by true ts = first_object ts
filed_by false ts = []

abbrev pub adds_under : Bool → Name → List Name → Effect → Bool
adds_under split name objects (Add other ts) = same_name name other && pointwise same_name objects (filed_by split ts)
adds_under split name objects e = false

abbrev pub is_delete : Effect → Bool
is_delete (Delete name ss) = true
is_delete e = false

abbrev pub rows_of : Option (List (Bor Row)) → List Row
rows_of None = []
rows_of (Some rows) = map (λ (r : Bor Row). r.now) rows

-- under each key the rows that add so
pub record HasAdds {S : Type 0} (split : Bool) (table : IndexMap Ground (List (Bor Row)) S) (rows : List Row) : Type 0 where
  pub each : (key : Ground) → rows_of (get same_ground table key) ≡ filter (λ r. adds_under split key.name key.args.items r.effect) rows

-- nothing is left under a key
pub record Removes {S : Type 0} (old new : IndexMap Ground (List (Bor Row)) S) (key : Ground) : Type 0 where
  pub each : (q : Ground) → get same_ground new q ≡ (if same_ground key q then None else get same_ground old q)

-- a row is put last under a key
pub record AddsRow {S : Type 0} (old new : IndexMap Ground (List (Bor Row)) S) (key : Ground) (row : Row) : Type 0 where
  pub each : (q : Ground) → rows_of (get same_ground new q) ≡ (if same_ground key q then rows_of (get same_ground old key) ++ row ∷ [] else rows_of (get same_ground old q))

-- some row of the list meets the delete row
abbrev pub meets_one : Parts → Action → Row → List Row → Bool
meets_one p a d rows = list_any (meet p a d) rows

-- a row is filed after others
pub record Files {S : Type 0} (split : Bool) (old new : IndexMap Ground (List (Bor Row)) S) (row : Row) : Type 0 where
  pub each : (rows : List Row) → HasAdds split old rows → HasAdds split new (rows ++ row ∷ [])

-- two terms may be one object, and the precondition doesn't tell them apart
abbrev pub may_be_one : Parts → Action → Row → Row → Term → Term → Bool
may_be_one p a d r s t = flip (is_guarded a.pre s t) && share p (d.vars ++ a.params) s (r.vars ++ a.params) t
