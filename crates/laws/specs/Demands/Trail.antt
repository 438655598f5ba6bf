-- What is promised of the trail and of the origins that it tells: 9.
use Rattle.std.specs.Prelude.{ℕ, ◌≤◌, ◌≡◌, ◌⊎◌, true, false, length, eqb}
use mathlib.Core.List.{List, [], ◌∷◌, ◌++◌, map, Memᴰ}
use Rattle.grammar.specs.Lists.{any, each, only, distinct}
use Rattle.grammar.specs.Tree.{Alternative, Rule}
use Rattle.grammar.specs.Numbers.{rule_sort, alternative_sort}
use Rattle.reference.specs.Substitute.{Planned}
use Rattle.reference.specs.Apply.{Entry, boundary, Node, Origin, Origins, same_origin, origins, recorded, provenance}
use Rattle.reference.specs.Run.{inner_depth, Stage}
use Rattle.reference.specs.Numbers.{rule_boundary, block_boundary}
use Rattle.laws.specs.Demands.Shape.{Elements}
use Rattle.laws.specs.Demands.Nodes.{element_nodes, block_nodes}

-- 9. The node that an entry of the trail is about, its owner, and the origin that it records: said here in full, so that no
-- promise hangs on how the definition makes them.
abbrev pub node_of : Entry → Node
node_of e = record { kind = e.kind; id = e.id }

abbrev pub owner_of : Entry → Node
owner_of e = record { kind = e.kind; id = e.owner }

abbrev pub origin_of : Entry → Origin
origin_of e = record { reason = e.reason; owner = owner_of e }

-- A node's origins (SPECIFICATION 12.6): for reason 2 its owner's list and the entry; for reason 1 the entry, once, however often
-- it was recorded. There is no other reason.
pub record Traced (index : List Origins) (e : Entry) : Type 0 where
  pub is_reason : (e.reason ≡ rule_boundary) ⊎ (e.reason ≡ block_boundary)
  pub copied : e.reason ≡ block_boundary → origins index (node_of e) ≡ origins index (owner_of e) ++ (origin_of e ∷ [])
  pub bounded : e.reason ≡ rule_boundary → origins index (node_of e) ≡ origin_of e ∷ []

-- So for every entry, and no other node has an origin (SPECIFICATION 12.7).
pub record OriginsTold (trail : List Entry) : Type 0 where
  pub recorded : (e : Entry) → Memᴰ e trail → Traced (provenance trail) e
  pub others : (n : Node) → ((e : Entry) → Memᴰ e trail → node_of e ≡ n → ⊥) → origins (provenance trail) n ≡ []

-- So for one recording, in any index: for reason 2 the owner's list, then the entry; for reason 1 the entry, unless it is
-- there already.
pub record RecordedSo (index : List Origins) (e : Entry) : Type 0 where
  pub copied : e.reason ≡ block_boundary → origins index (node_of e) ≡ []
      → distinct (map (λ o. o.owner.id) (origins index (owner_of e) ++ (origin_of e ∷ []))) ≡ true
      → origins (recorded index e) (node_of e) ≡ origins index (owner_of e) ++ (origin_of e ∷ [])
  pub added : e.reason ≡ rule_boundary → any (same_origin (origin_of e)) (origins index (node_of e)) ≡ false
      → origins (recorded index e) (node_of e) ≡ origins index (node_of e) ++ (origin_of e ∷ [])
  pub there : e.reason ≡ rule_boundary → any (same_origin (origin_of e)) (origins index (node_of e)) ≡ true
      → origins (recorded index e) (node_of e) ≡ origins index (node_of e)

-- What a number of each entry of a kind is.
abbrev pub numbers_at : (Entry → ℕ) → ℕ → List Entry → List ℕ
numbers_at f k = each λ e. only (eqb k e.kind) (f e)

-- What copies record (SPECIFICATION 12.4): reason 2, and one entry for each node, in the order in which they stand, with the node
-- copied as owner: whatever is taken of kinds and numbers is what the nodes give.
pub record CopiesTold (old new : Elements) (es : List Entry) : Type 0 where
  pub reasons : (e : Entry) → Memᴰ e es → e.reason ≡ block_boundary
  pub ids : (taken : ℕ → ℕ → List ℕ)
      → each (λ e. taken e.kind e.id) es ≡ each (element_nodes taken (block_nodes taken inner_depth)) new
  pub owners : (taken : ℕ → ℕ → List ℕ)
      → each (λ e. taken e.kind e.owner) es ≡ each (element_nodes taken (block_nodes taken inner_depth)) old

-- A planned alternative with an id and elements.
abbrev pub in_place : ℕ → Elements → Planned inner_depth → Alternative
in_place i es p = record { id = i; carried = p.carried; flag = p.flag; options = p.options; elements = es }

-- Of a plan, alternative by alternative (SPECIFICATION 11.2, 11.3, 12.4 and 12.5): an untouched one stays and records nothing; a
-- new one has the carried number and flag of its slot, and records itself with reason 1, so that it does not inherit its
-- origin's list, then its copies. The hub's entry is the last.
pub data TrailOf (hub : ℕ) : List (Planned inner_depth) → List Alternative → List Entry → Type 0 where
  closing : TrailOf hub [] [] (boundary rule_sort hub hub ∷ [])
  untouched : {p : Planned inner_depth} {ps : List (Planned inner_depth)} {as' : List Alternative} {es : List Entry}
      → p.verbatim ≡ true → TrailOf hub ps as' es
      → TrailOf hub (p ∷ ps) (in_place p.origin p.elements p ∷ as') es
  anew : {p : Planned inner_depth} {ps : List (Planned inner_depth)} {as' : List Alternative} {copies es : List Entry}
      (id : ℕ) (elements : Elements) → p.verbatim ≡ false
      → CopiesTold p.elements elements copies → TrailOf hub ps as' es
      → TrailOf hub (p ∷ ps) (in_place id elements p ∷ as') (boundary alternative_sort id p.origin ∷ (copies ++ es))

pub record TrailTold (t : Stage) : Type 0 where
  pub is : (q : Rule) → Memᴰ q t.after.node → q.id ≡ t.plan.hub
      → TrailOf t.plan.hub t.plan.alternatives q.body t.after.entries

-- No node has two origins, and an owner has none to hand on (SPECIFICATION 12.6), but for a hub, which is its own.
pub record OneOrigin (trail : List Entry) : Type 0 where
  pub one : (n : Node) → length (origins (provenance trail) n) ≤ 1
  pub owners : (e : Entry) → Memᴰ e trail → (e.kind ≡ rule_sort) ⊎ (origins (provenance trail) (owner_of e) ≡ [])
