-- The construction that keeps rows from meeting, and its count.
use Rattle.std.specs.Prelude.{Bool, if◌then◌else◌, ℕ, zero, suc, ◌*◌, List, [], ◌∷◌, map, flat_map, filter, filter_map, zip, length, sum_by, Option, Some, None}
use Rattle.std.specs.List.{list_any}
use Rattle.up_tree.specs.declared.term.Term.{Term}
use Rattle.up_tree.specs.declared.formula.Formula.{Formula, And, Not, Equal}
use Rattle.up_tree.specs.declared.action.Action.{Action}
use Rattle.up_tree.specs.declared.action.Row.{Row}
use Rattle.up_tree.specs.declared.action.Effect.{Effect}
use Rattle.up_tree.specs.declared.action.Effect.TheVariants.{Add, Delete}
use Rattle.up_tree.specs.declared.problem.Parts.{Parts}
use Rattle.up_tree.specs.Objects.{World, world}
use Rattle.up_tree.specs.Simplify.{simplified, knows_nothing, is_false_formula}
use Rattle.up_tree.specs.Sizes.{action_size}
use Rattle.up_kind.specs.Meeting.{meet}
use Rattle.step_laws.specs.Naming.{Group, Made, Stands, with_names, made_of}

-- a delete row and an add row that meet
pub record Meeting : Type 0 where
  pub delete : Row
  pub add : Row

-- those of an action: delete rows in order, and for each the add rows in order
abbrev pub meetings : Parts → Action → List Meeting
meetings p a = flat_map (λ d. map (λ r. record { delete = d; add = r }) (filter (meet p a d) a.rows)) a.rows

-- the arguments of an atom that is added or deleted
abbrev pub arguments_of : Effect → List Term
arguments_of (Add name ts) = ts
arguments_of (Delete name ts) = ts
arguments_of e = []

-- each argument of the delete row with that of the add row
abbrev pub argument_pairs : Meeting → List (Term × Term)
argument_pairs m = zip (arguments_of m.delete.effect) (arguments_of m.add.effect)

-- all but the first that passes
abbrev pub without_first : {X : Type 0} → (X → Bool) → List X → List X
without_first test [] = []
without_first test (x ∷ xs) = if test x then xs else x ∷ without_first test xs

-- the rows without the first one that meets an add row
abbrev pub other_rows : Parts → Action → List Row
other_rows p a = without_first (λ d. list_any (meet p a d) a.rows) a.rows

-- what a variant has behind the precondition, and its rows
pub record Case : Type 0 where
  pub more : List Formula
  pub rows : List Row

-- all arguments are equal, and the delete row does nothing; or those at one place differ
abbrev pub cases : Parts → Action → Meeting → List Case
cases p a m =
    record { more = map (λ pair. Equal pair.0 pair.1) (argument_pairs m); rows = other_rows p a }
    ∷ map (λ pair. record { more = Not (Equal pair.0 pair.1) ∷ []; rows = a.rows }) (argument_pairs m)

-- the variant of a case; none where its precondition is `false`
abbrev pub variant : World → Action → Case → Option Action
variant w a c =
    let pre = simplified w knows_nothing (And (a.pre ∷ c.more)) in
    if is_false_formula pre then None else Some (record { name = a.name; params = a.params; pre = pre; rows = c.rows })

-- by the first of its meeting rows; an action without them is unchanged
abbrev pub split_by : Parts → Action → List Meeting → List Action
split_by p a [] = a ∷ []
split_by p a (m ∷ more) = filter_map (variant (world p) a) (cases p a m)

abbrev pub split_once : Parts → Action → List Action
split_once p a = split_by p a (meetings p a)

-- the same with each variant, so many times
abbrev pub split_times : Parts → ℕ → Action → List Action
split_times p zero a = a ∷ []
split_times p (suc n) a = flat_map (split_times p n) (split_once p a)

-- until none has meeting rows: each variant has fewer of them
abbrev pub variants : Parts → Action → List Action
variants p a = split_times p (length (meetings p a)) a

abbrev pub variant_groups : Parts → List Group
variant_groups p = map (λ a. record { old = a; news = variants p a }) p.actions

-- each variant with the action that it stands for
abbrev pub variant_pairs : Parts → List Stands
variant_pairs p = with_names (map (λ a. a.name) p.actions) (variant_groups p)

abbrev pub overlaps : Parts → Made
overlaps p = made_of p (variant_pairs p) p.goal

-- ---- the count

-- the product of the numbers of arguments, each plus 1
abbrev pub product_of : List Meeting → ℕ
product_of [] = 1
product_of (m ∷ more) = suc (length (arguments_of m.delete.effect)) * product_of more

-- the sum of size(a) times the product of (n + 1) over its meeting pairs
abbrev pub overlaps_count : Parts → ℕ
overlaps_count p = sum_by (λ a. action_size a * product_of (meetings p a)) p.actions
