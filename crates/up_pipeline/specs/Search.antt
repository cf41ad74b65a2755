-- The search for a chain: the sets that chains lead to, in the order of the chains.
use Rattle.std.specs.Prelude.{◌≡◌, ◌⊎◌, ℕ, suc, ◌+◌, ◌*◌, ◌^◌, ◌<◌, ◌≤◌, nat_eq, Bool, true, false, List, [], ◌∷◌, ◌++◌, map, length, slice_get, Option, Some}
use Rattle.std.specs.List.{list_any, IsDistinct}
use Rattle.up_text.specs.Lists.{Every, Member}
use Rattle.up_kind.specs.declared.kind.Kind.{Kind}
use Rattle.up_kind.specs.Features.{FeatureSet, has}
use Rattle.up_compiler.specs.declared.id.CompilerId.{CompilerId}
use Rattle.up_compiler.specs.Table.{admits, row_result}
use Rattle.up_pipeline.specs.declared.search.Node.{Node}
use Rattle.up_pipeline.specs.Chains.{accepts, fits, place_of, Ascend, IsOver}

-- chains as numbers: a shorter one is less, and of equally long ones the first in table order
abbrev pub value_from : ℕ → List CompilerId → ℕ
value_from n [] = n
value_from n (id ∷ chain) = value_from (10 * n + place_of id + 1) chain

abbrev pub value : List CompilerId → ℕ
value chain = value_from 0 chain

-- the value of a chain with one stage more
abbrev pub value_with : Node → CompilerId → ℕ
value_with n id = 10 * value n.chain + place_of id + 1

abbrev pub Stands : List Node → ℕ → Node → Type 0
Stands nodes i n = slice_get nodes i ≡ Some n

-- a node with this set, whose chain has at most this value
abbrev pub IsReached : List Node → FeatureSet → ℕ → Type 0
IsReached nodes K v = (i : ℕ) × ((m : Node) × (Stands nodes i m × (has m.kind.0 ≡ K) × (value m.chain ≤ v)))

abbrev pub is_kind : ℕ → Node → Bool
is_kind k n = nat_eq k n.kind.0

-- each node's chain leads to its set; the chains ascend and the kinds differ
pub record AreNodes (ids : List CompilerId) (listed K : FeatureSet) (nodes : List Node) : Type 0 where
  pub root : IsReached nodes K 0
  pub path : (i : ℕ) (n : Node) → Stands nodes i n → (chain : List CompilerId) → fits listed K (n.chain ++ chain) ≡ fits listed (has n.kind.0) chain
  pub over : (i : ℕ) (n : Node) → Stands nodes i n → IsOver ids n.chain
  pub sorted : (i j : ℕ) (n m : Node) → i < j → Stands nodes i n → Stands nodes j m → value n.chain < value m.chain
  pub small : (i : ℕ) (n : Node) → Stands nodes i n → n.kind.0 < 2 ^ 32
  pub differ : IsDistinct nat_eq (map (λ (n : Node). n.kind.0) nodes)

-- the nodes before a place are refused by the engine, and each stage leads from them to a node
pub record IsSearch (ids : List CompilerId) (listed K : FeatureSet) (nodes : List Node) (at : ℕ) : Type 0 where
  pub nodes_are : AreNodes ids listed K nodes
  pub refused : (i : ℕ) (n : Node) → i < at → Stands nodes i n → accepts listed (has n.kind.0) ≡ false
  pub closed : (i : ℕ) (n : Node) (id : CompilerId) → i < at → Stands nodes i n → Member id ids → admits id (has n.kind.0) ≡ true
      → IsReached nodes (row_result id (has n.kind.0)) (value_with n id)
  pub bounded : (i : ℕ) (n a : Node) → Stands nodes at a → Stands nodes i n → value n.chain < 10 * value a.chain + 1

-- the same in the midst of the stages from one node, where the rest is still to be tried
pub record IsExpanding (ids : List CompilerId) (listed K : FeatureSet) (nodes : List Node) (at : ℕ) (a : Node) (rest : List CompilerId) : Type 0 where
  pub nodes_are : AreNodes ids listed K nodes
  pub here : Stands nodes at a
  pub refused : (i : ℕ) (n : Node) → i < suc at → Stands nodes i n → accepts listed (has n.kind.0) ≡ false
  pub closed : (i : ℕ) (n : Node) (id : CompilerId) → i < at → Stands nodes i n → Member id ids → admits id (has n.kind.0) ≡ true
      → IsReached nodes (row_result id (has n.kind.0)) (value_with n id)
  pub closed_here : (id : CompilerId) → Member id ids → admits id (has a.kind.0) ≡ true
      → Member id rest ⊎ IsReached nodes (row_result id (has a.kind.0)) (value_with a id)
  pub bounded : (i : ℕ) (n : Node) (id : CompilerId) → Stands nodes i n → Member id rest → value n.chain < value_with a id
  pub capped : (i : ℕ) (n : Node) → Stands nodes i n → value n.chain < 10 * value a.chain + 10
  pub ascending : Ascend rest
  pub among : IsOver ids rest

-- what a try of one stage does
pub data Tried (old new : List Node) (a : Node) (id : CompilerId) : Type 0 where
  refused : new ≡ old → admits id (has a.kind.0) ≡ false → Tried old new a id
  known : (k : Kind) → new ≡ old → has k.0 ≡ row_result id (has a.kind.0) → list_any (is_kind k.0) old ≡ true → Tried old new a id
  added : (k : Kind) → admits id (has a.kind.0) ≡ true → has k.0 ≡ row_result id (has a.kind.0) → k.0 < 2 ^ 32
      → list_any (is_kind k.0) old ≡ false → new ≡ old ++ record { kind = k; chain = a.chain ++ id ∷ [] } ∷ [] → Tried old new a id
