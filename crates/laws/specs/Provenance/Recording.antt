-- What one recording adds, in any index.
use Rattle.std.specs.Prelude.{ℕ, ◌<◌, ◌≡◌, refl, true, false, eqb}
use Rattle.std.proofs.Common.{sym, ap, ◌∙◌, subst, ⊎_elim, arith, eqb-true, eq-eqb, ne_eqb}
use mathlib.Core.List.Memᴰ
use mathlib.Core.List.{List, [], ◌∷◌, ◌++◌, map, append_assoc, append-nil, Memᴰ}
use Rattle.std.proofs.lemmas.Bool.{eqb-false, and_from}
use Rattle.std.specs.Cmp.{first_so, second_so}
use Rattle.grammar.specs.Lists.{any}
use Rattle.grammar.specs.Laws.Parse.{either}
use Rattle.reference.specs.Apply.{Entry, Node, Origin, Origins, same_node, same_origin, origins, add_origins, record_model, record_clone}
use Rattle.reference.specs.Apply.{node_of}
use Rattle.reference.specs.Apply.{owner_of, origin_of, recorded}
use Rattle.reference.specs.Numbers.{rule_boundary, block_boundary}
use Rattle.grammar.specs.Laws.Lists.{in_map}
use Rattle.laws.specs.Lists.Lookup.{any_in}
use Rattle.laws.specs.Demands.Trail.{RecordedSo}
use Rattle.graph.specs.Order.{Distinct, distinct_of}

pub same_node_lem : (m n : Node) → same_node m n ≡ true → m ≡ n
same_node_lem m n t =
    let p = eqb-true m.kind n.kind (first_so (eqb m.kind n.kind) _ t) in
    let q = eqb-true m.id n.id (second_so (eqb m.kind n.kind) _ t) in
    λ i. record { kind = p i; id = q i }

pub node_same : (m n : Node) → m ≡ n → same_node m n ≡ true
node_same m n e = and_from _ _ (eq-eqb m.kind n.kind (ap (λ x. x.kind) e)) (eq-eqb m.id n.id (ap (λ x. x.id) e))

pub node_other : (m n : Node) → (m ≡ n → ⊥) → same_node m n ≡ false
node_other m n ne = either (same_node m n) (λ t. absurd (ne (same_node_lem m n t))) (λ f. f)

-- A recording adds to its node's list, and to no other.
pub record_at : (index : List Origins) (n : Node) (os : List Origin)
    → origins (record_model index n os) n ≡ add_origins (origins index n) os
unfolding origins record_model
record_at [] n os = rw (node_same n n refl, origins) refl
record_at (e ∷ es) n os =
    either (same_node e.node n)
    (λ t. rw (t, record_model) (rw (t, origins) refl))
    (λ f. rw (f, record_model) (rw (f, origins) (record_at es n os)))

pub record_away : (index : List Origins) (n : Node) (os : List Origin) (m : Node) → (n ≡ m → ⊥)
    → origins (record_model index n os) m ≡ origins index m
unfolding origins record_model
record_away [] n os m ne = rw (node_other n m ne, origins) refl
record_away (e ∷ es) n os m ne =
    either (same_node e.node n)
    (λ t.
    let f = node_other e.node m (λ q. ne (sym (same_node_lem e.node n t) ∙ q)) in
    rw (t, record_model) (rw (f, origins) refl))
    (λ f.
    rw (f, record_model)
    (either (same_node e.node m) (λ u. rw (u, origins) refl) (λ g. rw (g, origins) (record_away es n os m ne))))

-- What one recording is.
pub recorded_two : (index : List Origins) (e : Entry) → e.reason ≡ block_boundary
    → recorded index e ≡ record_model index (node_of e) (origins index (owner_of e) ++ (origin_of e ∷ []))
unfolding recorded record_clone
recorded_two index e h = rw (eq-eqb e.reason block_boundary h, recorded) refl

pub recorded_other : (index : List Origins) (e : Entry) → (e.reason ≡ block_boundary → ⊥)
    → recorded index e ≡ record_model index (node_of e) (origin_of e ∷ [])
unfolding recorded
recorded_other index e h = rw (ne_eqb e.reason block_boundary h, recorded) refl

pub recorded_away : (index : List Origins) (e : Entry) (m : Node) → (node_of e ≡ m → ⊥) → origins (recorded index e) m ≡ origins index m
recorded_away index e m ne =
    either (eqb e.reason block_boundary)
    (λ t. ap (λ x. origins x m) (recorded_two index e (eqb-true e.reason block_boundary t)) ∙ record_away index (node_of e) _ m ne)
    (λ f. ap (λ x. origins x m) (recorded_other index e (eqb-false e.reason block_boundary f)) ∙ record_away index (node_of e) _ m ne)

-- The id of an origin's owner.
abbrev pub owner_id : Origin → ℕ
owner_id o = o.owner.id

same_owner : (o p : Origin) → same_origin o p ≡ true → owner_id o ≡ owner_id p
same_owner o p t = ap (λ n. n.id) (same_node_lem o.owner p.owner (second_so (eqb o.reason p.reason) _ t))

apart_at : (have os : List Origin) (o : Origin) → Distinct (map owner_id (have ++ (o ∷ os))) → {p : Origin} → Memᴰ p have
    → owner_id p ≡ owner_id o → ⊥
apart_at (q ∷ have) os o h {p} (Memᴰ.head d) e =
    let m : Memᴰ o (have ++ (o ∷ os)) = Memᴰ.append_right have (Memᴰ.head refl) in
    h.0 (subst (λ x. Memᴰ x (map owner_id (have ++ (o ∷ os)))) (sym e ∙ ap owner_id d) (in_map owner_id m))
apart_at (q ∷ have) os o h (Memᴰ.tail m) e = apart_at have os o h.1 m e
apart_at [] os o h {p = p} x3 e = elim x3 [ ]

-- Origins with different owners are all added.
pub add_new : (have os : List Origin) → Distinct (map owner_id (have ++ os)) → add_origins have os ≡ have ++ os
unfolding add_origins
add_new have [] h = sym (append-nil have)
add_new have (o ∷ os) h =
    let f : any (same_origin o) have ≡ false =
    either (any (same_origin o) have)
    (λ t. let (p, m, u) = any_in (same_origin o) have t in absurd (apart_at have os o h m (sym (same_owner o p u))))
    (λ f. f) in
    let e = append_assoc have (o ∷ []) os in
    rw (f, add_origins) (add_new (have ++ (o ∷ [])) os (subst (λ l. Distinct (map owner_id l)) (sym e) h) ∙ e)

-- What one recording leaves at its node.
pub recorded_so_lem : (index : List Origins) (e : Entry) → RecordedSo index e
unfolding add_origins
recorded_so_lem index e =
    record {
      copied = λ h f d.
          ap (λ x. origins x (node_of e)) (recorded_two index e h)
          ∙ record_at index (node_of e) (origins index (owner_of e) ++ (origin_of e ∷ []))
          ∙ ap (λ l. add_origins l (origins index (owner_of e) ++ (origin_of e ∷ []))) f
          ∙ add_new [] (origins index (owner_of e) ++ (origin_of e ∷ []))
          (distinct_of (map owner_id (origins index (owner_of e) ++ (origin_of e ∷ []))) d);
      added = λ h f. one h ∙ rw (f, add_origins) refl;
      there = λ h t. one h ∙ rw (t, add_origins) refl;
    }
  where
    one : e.reason ≡ rule_boundary → origins (recorded index e) (node_of e) ≡ add_origins (origins index (node_of e)) (origin_of e ∷ [])
    one h =
        ap (λ x. origins x (node_of e)) (recorded_other index e (λ q. let z : ◌≡◌ {A = ℕ} 1 2 = sym h ∙ q in omega arith))
        ∙ record_at index (node_of e) (origin_of e ∷ [])

pub distinct_snoc : (os : List Origin) (o : Origin) → Distinct (map owner_id os) → ((p : Origin) → Memᴰ p os → owner_id p < owner_id o)
    → Distinct (map owner_id (os ++ (o ∷ [])))
distinct_snoc [] o h l = (λ m. Memᴰ.not-nil m, tt)
distinct_snoc (q ∷ os) o h l = (
  λ m.
      let (p, k, e) = Memᴰ.of_map owner_id (os ++ (o ∷ [])) m in
      ⊎_elim (λ n. h.0 (subst (λ x. Memᴰ x (map owner_id os)) e (in_map owner_id n)))
      (λ n.
      let low = l q (Memᴰ.head refl) in
      let same = ap owner_id (Memᴰ.eq_of_singleton n) in
      omega arith)
      (Memᴰ.append_cases os k),
  distinct_snoc os o h.1 (λ p m. l p (Memᴰ.tail m)),
)
