-- The steps of the search for a chain, and what its ends mean.
use Rattle.std.proofs.Common.{◌≡◌, ◌⊎◌, inl, inr, ℕ, zero, suc, ◌+◌, ◌*◌, ◌^◌, ◌<◌, ◌≤◌, Bool, true, false, ◌&&◌, ◌||◌, List, [], ◌∷◌, ◌++◌, map, length, drop, get_or, append_assoc, Option, None, Some, refl, ap, sym, ◌∙◌, subst, arith}
use Rattle.std.specs.Prelude.{slice_get, nat_eq}
use Rattle.std.proofs.lemmas.Cmp.{nat_eq_equiv}
use Rattle.std.specs.List.{list_any, IsDistinct}
use Rattle.std.proofs.lemmas.Map.Keys.{IsDistinct-push}
use Rattle.std.proofs.lemmas.Map.Steps.{length-le_from_distinct_below}
use Rattle.std.proofs.lemmas.Bool.{and_parts, false≢true, eq-eqb, eqb-true}
use Rattle.up_text.specs.Lists.{Every, Member}
use Rattle.up_kind.specs.declared.kind.Kind.{Kind}
use Rattle.up_kind.specs.Features.{FeatureSet, has}
use Rattle.up_compiler.specs.declared.id.CompilerId.{CompilerId}
use Rattle.up_compiler.specs.Table.{admits, row_result}
use Rattle.up_pipeline.specs.declared.search.Node.{Node}
use Rattle.up_pipeline.specs.Chains.{accepts, fits, place_of, Ascend, IsOver, IsNoLater, IsBest, NoneFits}
use Rattle.up_pipeline.specs.Search.{value_from, value, value_with, Stands, IsReached, is_kind, AreNodes, IsSearch, IsExpanding, Tried}
use Rattle.up_pipeline.specs.Search.Tried.{refused, known, added}
use Rattle.up_pipeline.proofs.Nodes.{none_apart, some_same, stands_below, stands_at, stands_old, stands_new, stands_push, none_at, some_at, every_member, every_push, every_of, drop_here, drop_end}
use Rattle.up_pipeline.proofs.Order.{lt_or_le, lt_or_eq, place_small, value_append, value_more, value_grows, value_order}

pub same_node : (nodes : List Node) (i : ℕ) (n m : Node) → Stands nodes i n → Stands nodes i m → n ≡ m
same_node nodes i n m first second = some_same n m (sym first ∙ second)

append_none : (chain : List CompilerId) → chain ++ [] ≡ chain
append_none [] = refl
append_none (x ∷ chain) = ap (λ behind. x ∷ behind) (append_none chain)

not_true : (b : Bool) → (b ≡ true → ⊥) → b ≡ false
not_true true other = absurd (other refl)
not_true false other = refl

-- ---- kinds that differ

no_distinct : IsDistinct nat_eq []
unfolding IsDistinct
no_distinct = tt

one_distinct : (k : ℕ) → IsDistinct nat_eq (k ∷ [])
one_distinct k = IsDistinct-push nat_eq_equiv [] k no_distinct refl

any_kind : (k : ℕ) (nodes : List Node) → list_any (is_kind k) nodes ≡ list_any (nat_eq k) (map (λ (n : Node). n.kind.0) nodes)
any_kind k [] = refl
any_kind k (n ∷ nodes) = ap (λ b. nat_eq k n.kind.0 || b) (any_kind k nodes)

map_push : (nodes : List Node) (x : Node) → map (λ (n : Node). n.kind.0) (nodes ++ x ∷ []) ≡ map (λ (n : Node). n.kind.0) nodes ++ x.kind.0 ∷ []
map_push [] x = refl
map_push (n ∷ nodes) x = ap (λ kinds. n.kind.0 ∷ kinds) (map_push nodes x)

push_distinct : (nodes : List Node) (x : Node) → IsDistinct nat_eq (map (λ (n : Node). n.kind.0) nodes) → list_any (is_kind x.kind.0) nodes ≡ false
    → IsDistinct nat_eq (map (λ (n : Node). n.kind.0) (nodes ++ x ∷ []))
push_distinct nodes x differ new =
    subst (λ (kinds : List ℕ). IsDistinct nat_eq kinds) (sym (map_push nodes x))
    (IsDistinct-push nat_eq_equiv (map (λ (n : Node). n.kind.0) nodes) x.kind.0 differ (sym (any_kind x.kind.0 nodes) ∙ new))

length_map : (nodes : List Node) → length (map (λ (n : Node). n.kind.0) nodes) ≡ length nodes
length_map [] = refl
length_map (n ∷ nodes) = ap suc (length_map nodes)

few : (nodes : List Node) → ((i : ℕ) (n : Node) → Stands nodes i n → n.kind.0 < 2 ^ 32) → IsDistinct nat_eq (map (λ (n : Node). n.kind.0) nodes)
    → length nodes ≤ 2 ^ 32
few nodes small differ =
    let bound = length-le_from_distinct_below (map (λ (n : Node). n.kind.0) nodes) (2 ^ 32) differ
    (λ q some.
    let found = some_at (is_kind q) nodes (any_kind q nodes ∙ some) in
    let same : q ≡ found.1.0.kind.0 = eqb-true q found.1.0.kind.0 found.1.1.1 in
    omega (arith, same, small found.0 found.1.0 found.1.1.0)) in
    omega (arith, length_map nodes, bound)

-- ---- the start

only : (x n : Node) (i : ℕ) → slice_get (x ∷ []) i ≡ Some n → (i ≡ 0) × (x ≡ n)
only x n zero is = (refl, some_same x n is)
only x n (suc i) is = absurd (none_apart is)

pub search_start : (ids : List CompilerId) (listed : FeatureSet) (k : Kind) → k.0 < 2 ^ 32
    → IsSearch ids listed (has k.0) (record { kind = k; chain = [] } ∷ []) 0
search_start ids listed k small =
    let x : Node = record { kind = k; chain = [] } in
    record {
      nodes_are = record {
        root = (0, (x, (refl, refl, omega arith)));
        path = λ i n st chain. subst (λ (m : Node). fits listed (has k.0) (m.chain ++ chain) ≡ fits listed (has m.kind.0) chain) ((only x n i st).1) refl;
        over = λ i n st. subst (λ (m : Node). IsOver ids m.chain) ((only x n i st).1) tt;
        sorted = λ i j n m less sti stj. absurd (omega (arith, (only x n i sti).0, (only x m j stj).0, less));
        small = λ i n st. subst (λ (m : Node). m.kind.0 < 2 ^ 32) ((only x n i st).1) small;
        differ = one_distinct k.0;
      };
      refused = λ i n below st. absurd (omega (arith, below));
      closed = λ i n id below st member ok. absurd (omega (arith, below));
      bounded = λ i n a sta st. subst (λ (m : Node). value m.chain < 10 * value a.chain + 1) ((only x n i st).1) (omega arith);
    }

-- ---- a node begins to be expanded

pub search_begins : (ids : List CompilerId) (listed K : FeatureSet) (nodes : List Node) (at : ℕ) (a : Node) → IsSearch ids listed K nodes at → Ascend ids
    → Stands nodes at a → accepts listed (has a.kind.0) ≡ false → IsExpanding ids listed K nodes at a ids
search_begins ids listed K nodes at a is ascend here off = record {
  nodes_are = is.nodes_are;
  here = here;
  refused = λ i n below st. elim (lt_or_eq i at (omega (arith, below))) [
    | inl less ↦ is.refused i n less st
    | inr same ↦ (let e : n ≡ a = same_node nodes at n a (subst (λ (k : ℕ). Stands nodes k n) same st) here in
        subst (λ (m : Node). accepts listed (has m.kind.0) ≡ false) (sym e) off)
  ];
  closed = is.closed;
  closed_here = λ id member ok. inl member;
  bounded = λ i n id st member. omega (arith, is.bounded i n a here st);
  capped = λ i n st. omega (arith, is.bounded i n a here st);
  ascending = ascend;
  among = every_of (λ id. Member id ids) ids (λ id member. member);
}

-- ---- a stage is tried

module _ (ids : List CompilerId) (listed K : FeatureSet) (old : List Node) (at : ℕ) (a : Node) (id : CompilerId) (rest : List CompilerId)
    (is : IsExpanding ids listed K old at a (id ∷ rest)) where
  tries_same : (admits id (has a.kind.0) ≡ true → IsReached old (row_result id (has a.kind.0)) (value_with a id)) → IsExpanding ids listed K old at a rest
  tries_same reach = record {
    nodes_are = is.nodes_are;
    here = is.here;
    refused = is.refused;
    closed = is.closed;
    closed_here = λ other member ok. elim (is.closed_here other member ok) [
      | inl waits ↦ elim waits [
        | inl same ↦ inr (subst (λ (x : CompilerId). IsReached old (row_result x (has a.kind.0)) (value_with a x)) (sym same)
            (reach (subst (λ (x : CompilerId). admits x (has a.kind.0) ≡ true) same ok)))
        | inr more ↦ inl more
      ]
      | inr reached ↦ inr reached
    ];
    bounded = λ i n other st member. is.bounded i n other st (inr member);
    capped = is.capped;
    ascending = is.ascending.1;
    among = is.among.1;
  }

  tries_known : (k : Kind) → has k.0 ≡ row_result id (has a.kind.0) → list_any (is_kind k.0) old ≡ true → IsExpanding ids listed K old at a rest
  tries_known k result some =
      let found = some_at (is_kind k.0) old some in
      let same : k.0 ≡ found.1.0.kind.0 = eqb-true k.0 found.1.0.kind.0 found.1.1.1 in
      tries_same (λ on. (found.0, (found.1.0, (found.1.1.0, ap has (sym same) ∙ result, omega (arith, is.bounded found.0 found.1.0 id found.1.1.0 (inl refl))))))

  module _ (k : Kind) (on : admits id (has a.kind.0) ≡ true) (result : has k.0 ≡ row_result id (has a.kind.0)) (small : k.0 < 2 ^ 32)
      (new : list_any (is_kind k.0) old ≡ false) where
    abbrev x : Node
    x = record { kind = k; chain = a.chain ++ id ∷ [] }

    value_x : value x.chain ≡ value_with a id
    value_x = value_append 0 a.chain (id ∷ [])

    reached_more : (L : FeatureSet) (v : ℕ) → IsReached old L v → IsReached (old ++ x ∷ []) L v
    reached_more L v r = (r.0, (r.1.0, (stands_old old x r.0 r.1.0 r.1.1.0, r.1.1.1, r.1.1.2)))

    path_x : (chain : List CompilerId) → fits listed K (x.chain ++ chain) ≡ fits listed (has k.0) chain
    path_x chain =
        ap (fits listed K) (append_assoc a.chain (id ∷ []) chain)
        ∙ is.nodes_are.path at a is.here (id ∷ chain)
        ∙ ap (λ b. b && fits listed (row_result id (has a.kind.0)) chain) on
        ∙ ap (λ S. fits listed S chain) (sym result)

    nodes_more : AreNodes ids listed K (old ++ x ∷ [])
    nodes_more = record {
      root = reached_more K 0 is.nodes_are.root;
      path = λ i n st chain. elim (stands_push old x i n st) [
        | inl before ↦ is.nodes_are.path i n before chain
        | inr here ↦ subst (λ (m : Node). fits listed K (m.chain ++ chain) ≡ fits listed (has m.kind.0) chain) (sym here.1) (path_x chain)
      ];
      over = λ i n st. elim (stands_push old x i n st) [
        | inl before ↦ is.nodes_are.over i n before
        | inr here ↦ subst (λ (m : Node). IsOver ids m.chain) (sym here.1)
            (every_push (λ stage. Member stage ids) a.chain id (is.nodes_are.over at a is.here) is.among.0)
      ];
      sorted = λ i j n m less sti stj. elim (stands_push old x j m stj) [
        | inl oldj ↦ elim (stands_push old x i n sti) [
          | inl oldi ↦ is.nodes_are.sorted i j n m less oldi oldj
          | inr newi ↦ absurd (omega (arith, newi.0, less, stands_below old j m oldj))
        ]
        | inr newj ↦ elim (stands_push old x i n sti) [
          | inl oldi ↦ subst (λ (m : Node). value n.chain < value m.chain) (sym newj.1) (omega (arith, value_x, is.bounded i n id oldi (inl refl)))
          | inr newi ↦ absurd (omega (arith, newi.0, newj.0, less))
        ]
      ];
      small = λ i n st. elim (stands_push old x i n st) [
        | inl before ↦ is.nodes_are.small i n before
        | inr here ↦ subst (λ (m : Node). m.kind.0 < 2 ^ 32) (sym here.1) small
      ];
      differ = push_distinct old x is.nodes_are.differ new;
    }

    tries_new : IsExpanding ids listed K (old ++ x ∷ []) at a rest
    tries_new = record {
      nodes_are = nodes_more;
      here = stands_old old x at a is.here;
      refused = λ i n below st. elim (stands_push old x i n st) [
        | inl before ↦ is.refused i n below before
        | inr here ↦ absurd (omega (arith, here.0, below, stands_below old at a is.here))
      ];
      closed = λ i n other below st member ok. elim (stands_push old x i n st) [
        | inl before ↦ reached_more (row_result other (has n.kind.0)) (value_with n other) (is.closed i n other below before member ok)
        | inr here ↦ absurd (omega (arith, here.0, below, stands_below old at a is.here))
      ];
      closed_here = λ other member ok. elim (is.closed_here other member ok) [
        | inl waits ↦ elim waits [
          | inl same ↦ inr (subst (λ (stage : CompilerId). IsReached (old ++ x ∷ []) (row_result stage (has a.kind.0)) (value_with a stage)) (sym same)
              (length old, (x, (stands_new old x, result, omega (arith, value_x)))))
          | inr more ↦ inl more
        ]
        | inr reached ↦ inr (reached_more (row_result other (has a.kind.0)) (value_with a other) reached)
      ];
      bounded = λ i n other st member. elim (stands_push old x i n st) [
        | inl before ↦ is.bounded i n other before (inr member)
        | inr here ↦ subst (λ (m : Node). value m.chain < value_with a other) (sym here.1)
            (omega (arith, value_x, every_member (λ later. place_of id < place_of later) rest other is.ascending.0 member))
      ];
      capped = λ i n st. elim (stands_push old x i n st) [
        | inl before ↦ is.capped i n before
        | inr here ↦ subst (λ (m : Node). value m.chain < 10 * value a.chain + 10) (sym here.1) (omega (arith, value_x, place_small id))
      ];
      ascending = is.ascending.1;
      among = is.among.1;
    }

pub search_tries : (ids : List CompilerId) (listed K : FeatureSet) (old new : List Node) (at : ℕ) (a : Node) (id : CompilerId) (rest : List CompilerId)
    → IsExpanding ids listed K old at a (id ∷ rest) → Tried old new a id → IsExpanding ids listed K new at a rest
search_tries ids listed K old new at a id rest is (refused same off) =
    subst (λ (nodes : List Node). IsExpanding ids listed K nodes at a rest) (sym same)
    (tries_same ids listed K old at a id rest is (λ on. absurd (false≢true (sym off ∙ on))))
search_tries ids listed K old new at a id rest is (known k same result some) =
    subst (λ (nodes : List Node). IsExpanding ids listed K nodes at a rest) (sym same) (tries_known ids listed K old at a id rest is k result some)
search_tries ids listed K old new at a id rest is (added k on result small none longer) =
    subst (λ (nodes : List Node). IsExpanding ids listed K nodes at a rest) (sym longer)
    (tries_new ids listed K old at a id rest is k on result small none)

-- the next stage of a list
pub search_next : (ids : List CompilerId) (listed K : FeatureSet) (old new : List Node) (at : ℕ) (a : Node) (i : ℕ) (d : CompilerId)
    → i < length ids → IsExpanding ids listed K old at a (drop i ids) → Tried old new a (get_or ids i d) → IsExpanding ids listed K new at a (drop (i + 1) ids)
search_next ids listed K old new at a i d below is tried =
    search_tries ids listed K old new at a (get_or ids i d) (drop (i + 1) ids)
    (subst (λ (rest : List CompilerId). IsExpanding ids listed K old at a rest) (drop_here ids i d below) is) tried

pub search_goes_on : (ids : List CompilerId) (listed K : FeatureSet) (nodes : List Node) (at : ℕ) (a : Node)
    → IsExpanding ids listed K nodes at a [] → IsSearch ids listed K nodes (suc at)
search_goes_on ids listed K nodes at a is = record {
  nodes_are = is.nodes_are;
  refused = is.refused;
  closed = λ i n id below st member ok. elim (lt_or_eq i at (omega (arith, below))) [
    | inl less ↦ is.closed i n id less st member ok
    | inr same ↦ (let e : n ≡ a = same_node nodes at n a (subst (λ (k : ℕ). Stands nodes k n) same st) is.here in
        subst (λ (m : Node). IsReached nodes (row_result id (has m.kind.0)) (value_with m id)) (sym e)
        (elim (is.closed_here id member (subst (λ (m : Node). admits id (has m.kind.0) ≡ true) e ok)) [
          | inl waits ↦ absurd waits
          | inr reached ↦ reached
        ]))
  ];
  bounded = λ i n b stb st. omega (arith, is.capped i n st, is.nodes_are.sorted at (suc at) a b (omega arith) is.here stb);
}

pub search_done : (ids : List CompilerId) (listed K : FeatureSet) (nodes : List Node) (at : ℕ) (a : Node) (i : ℕ) → length ids ≤ i
    → IsExpanding ids listed K nodes at a (drop i ids) → IsSearch ids listed K nodes (suc at)
search_done ids listed K nodes at a i ends is =
    search_goes_on ids listed K nodes at a (subst (λ (rest : List CompilerId). IsExpanding ids listed K nodes at a rest) (drop_end ids i ends) is)

-- ---- the ends

-- a node that isn't expanded yet, whose chain has at most this value
record Escaped (nodes : List Node) (at v : ℕ) : Type 0 where
  place : ℕ
  node : Node
  stands : Stands nodes place node
  past : at ≤ place
  small : value node.chain ≤ v

escape : (ids : List CompilerId) (listed K : FeatureSet) (nodes : List Node) (at : ℕ) → IsSearch ids listed K nodes at
    → (chain : List CompilerId) (i : ℕ) (n : Node) → Stands nodes i n → IsOver ids chain → fits listed (has n.kind.0) chain ≡ true
    → Escaped nodes at (value_from (value n.chain) chain)
escape ids listed K nodes at is [] i n st over fit = elim (lt_or_le i at) [
  | inl less ↦ absurd (false≢true (sym (is.refused i n less st) ∙ fit))
  | inr past ↦ record { place = i; node = n; stands = st; past = past; small = omega arith }
]
escape ids listed K nodes at is (id ∷ chain) i n st over fit = elim (lt_or_le i at) [
  | inl less ↦ (
      let parts = and_parts (admits id (has n.kind.0)) (fits listed (row_result id (has n.kind.0)) chain) fit in
      let r = is.closed i n id less st over.0 parts.0 in
      let e = escape ids listed K nodes at is chain r.0 r.1.0 r.1.1.0 over.1
      (subst (λ (S : FeatureSet). fits listed S chain ≡ true) (sym r.1.1.1) parts.1) in
      record {
        place = e.place;
        node = e.node;
        stands = e.stands;
        past = e.past;
        small = omega (arith, e.small, value_grows (value r.1.0.chain) (value_with n id) chain r.1.1.2);
      })
  | inr past ↦ record { place = i; node = n; stands = st; past = past; small = value_more (value n.chain) (id ∷ chain) }
]

-- from the root
escape_root : (ids : List CompilerId) (listed K : FeatureSet) (nodes : List Node) (at : ℕ) → IsSearch ids listed K nodes at
    → (chain : List CompilerId) → IsOver ids chain → fits listed K chain ≡ true → Escaped nodes at (value chain)
escape_root ids listed K nodes at is chain over fit =
    let r = is.nodes_are.root in
    let e = escape ids listed K nodes at is chain r.0 r.1.0 r.1.1.0 over (subst (λ (S : FeatureSet). fits listed S chain ≡ true) (sym r.1.1.1) fit) in
    record {
      place = e.place;
      node = e.node;
      stands = e.stands;
      past = e.past;
      small = omega (arith, e.small, value_grows (value r.1.0.chain) 0 chain r.1.1.2);
    }

pub search_finds : (ids : List CompilerId) (listed K : FeatureSet) (nodes : List Node) (at : ℕ) (a : Node) → IsSearch ids listed K nodes at
    → Stands nodes at a → accepts listed (has a.kind.0) ≡ true → IsBest ids listed K a.chain
search_finds ids listed K nodes at a is here on = record {
  over = is.nodes_are.over at a here;
  fitting = ap (fits listed K) (sym (append_none a.chain)) ∙ is.nodes_are.path at a here [] ∙ on;
  best = λ other over fit.
      let e = escape_root ids listed K nodes at is other over fit in
      let least : value a.chain ≤ value e.node.chain = elim (lt_or_eq at e.place e.past) [
        | inl less ↦ omega (arith, is.nodes_are.sorted at e.place a e.node less here e.stands)
        | inr same ↦ (let it : a ≡ e.node = same_node nodes at a e.node here (subst (λ (k : ℕ). Stands nodes k e.node) (sym same) e.stands) in
            omega (arith, ap (λ (m : Node). value m.chain) it))
      ] in
      value_order a.chain other (omega (arith, least, e.small));
}

pub search_ends : (ids : List CompilerId) (listed K : FeatureSet) (nodes : List Node) (at : ℕ) → IsSearch ids listed K nodes at
    → length nodes ≤ at → NoneFits ids listed K
search_ends ids listed K nodes at is ends chain over = not_true (fits listed K chain) (λ fit.
    let e = escape_root ids listed K nodes at is chain over fit in
    absurd (omega (arith, e.past, ends, stands_below nodes e.place e.node e.stands)))

pub search_small : (ids : List CompilerId) (listed K : FeatureSet) (nodes : List Node) → AreNodes ids listed K nodes → length nodes ≤ 2 ^ 32
search_small ids listed K nodes are = few nodes are.small are.differ
