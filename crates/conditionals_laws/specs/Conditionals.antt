-- The construction that takes the conditions of effects away, and its count.
use Rattle.std.specs.Prelude.{Bool, true, false, ◌&&◌, ◌||◌, not as flip, if◌then◌else◌, ℕ, ◌*◌, ◌^◌, List, [], ◌∷◌, map, flat_map, filter, filter_map, length, sum_by, Option, Some, None}
use Rattle.std.specs.List.{list_any}
use Rattle.up_tree.specs.declared.formula.Formula.{Formula, And, Not}
use Rattle.up_tree.specs.declared.action.Action.{Action}
use Rattle.up_tree.specs.declared.action.Row.{Row}
use Rattle.up_tree.specs.declared.problem.Parts.{Parts}
use Rattle.up_tree.specs.Objects.{World, world}
use Rattle.up_tree.specs.Simplify.{simplified, knows_nothing, true_formula, is_true_formula, is_false_formula}
use Rattle.up_tree.specs.Sizes.{action_size}
use Rattle.step_laws.specs.Naming.{Group, Made, Stands, with_names, made_of}
use Rattle.compiling_laws.specs.Same.{same_formula}

-- the formulas without a repeat, each where it first stands
abbrev pub distinct : List Formula → List Formula
distinct [] = []
distinct (f ∷ fs) = f ∷ filter (λ g. flip (same_formula f g)) (distinct fs)

-- the distinct conditions of an action's rows, but for `true`
abbrev pub row_conditions : Action → List Formula
row_conditions a = distinct (filter (λ f. flip (is_true_formula f)) (map (λ r. r.when) a.rows))

-- a condition, and whether it is chosen
pub record Choice : Type 0 where
  pub condition : Formula
  pub chosen : Bool

-- the ways to choose among the conditions, the first one changing fastest
abbrev pub choices : List Formula → List (List Choice)
choices [] = [] ∷ []
choices (c ∷ cs) = flat_map (λ rest. (record { condition = c; chosen = false } ∷ rest) ∷ (record { condition = c; chosen = true } ∷ rest) ∷ []) (choices cs)

-- the condition where it is chosen, and else its negation
abbrev pub literal : Choice → Formula
literal c = if c.chosen then c.condition else Not c.condition

-- the condition is `true` or is chosen
abbrev pub is_chosen : List Choice → Formula → Bool
is_chosen choice f = is_true_formula f || list_any (λ c. c.chosen && same_formula c.condition f) choice

-- the row without its condition, where that is chosen
abbrev pub chosen_row : List Choice → Row → Option Row
chosen_row choice r = if is_chosen choice r.when then Some (record { vars = r.vars; when = true_formula; effect = r.effect }) else None

-- the variant for a choice, but for its name; none where its precondition is `false`
abbrev pub variant : World → Action → List Choice → Option Action
variant w a choice =
    let pre = simplified w knows_nothing (And (a.pre ∷ map literal choice)) in
    if is_false_formula pre then None else Some (record { name = a.name; params = a.params; pre = pre; rows = filter_map (chosen_row choice) a.rows })

-- an action without such conditions is unchanged
abbrev pub variants_by : World → Action → List Formula → List Action
variants_by w a [] = a ∷ []
variants_by w a (c ∷ cs) = filter_map (variant w a) (choices (c ∷ cs))

abbrev pub variants : World → Action → List Action
variants w a = variants_by w a (row_conditions a)

abbrev pub variant_groups : Parts → List Group
variant_groups p = map (λ a. record { old = a; news = variants (world p) a }) p.actions

-- each variant with the action that it stands for
abbrev pub variant_pairs : Parts → List Stands
variant_pairs p = with_names (map (λ a. a.name) p.actions) (variant_groups p)

abbrev pub conditionals : Parts → Made
conditionals p = made_of p (variant_pairs p) p.goal

-- the sum of size(a) times 2^k
abbrev pub conditionals_count : Parts → ℕ
conditionals_count p = sum_by (λ a. action_size a * 2 ^ length (row_conditions a)) p.actions
