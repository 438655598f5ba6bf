-- What a reading is, and which reading is paired with which: 4b (SPECIFICATION 1.14 and 13.17 to 13.19).
use Rattle.std.specs.Prelude.{ℕ, ◌≡◌}
use Rattle.std.proofs.Common.{◌∙◌}
use mathlib.Core.List.{List, [], ◌∷◌, ◌++◌, map, Memᴰ}
use mathlib.Core.Equiv.{Iso}
use Rattle.std.proofs.Math.Option.{some}
use Rattle.grammar.specs.Tree.{Rule, body_depth}
use Rattle.language.specs.Shape.{Word, Shape, call_of, seqs, alts, Shapes, find, erase_rules, EachCall}
use Rattle.language.specs.Derive.{Der, RuleDerives}
use Rattle.language.specs.Readings.{Tree, t_call, t_seq, t_left, t_right, t_absent, t_present, choices, Reading, tree_of, CallTree, Stays}
use Rattle.language.specs.Laws.Cover.{ButFor}
use Rattle.language.specs.Laws.Trees.Carry.{carry, Pairs}
use Rattle.language.specs.Laws.Trees.Algebra.{join}
use Rattle.language.specs.Laws.Trees.Replace.{Paired, paired_refl, paired_trans}
use Rattle.language.specs.Laws.Trees.Removal.{stay}
use Rattle.language.specs.Laws.Trees.Steps.{split_pairs, splice_pairs, slot_pairs}
use Rattle.language.specs.Laws.Trees.Slots.{At, here, there, on_at, in_front, behind, in_slot, around, within, Stands}
use Rattle.language.specs.Laws.Trees.Joined.{JoinedTrees, at_calls, joined}
use Rattle.reference.specs.Run.{Stage}
use Rattle.laws.specs.Demands.Shape.{SameReadings}

-- A derivation of a string is a tree that has this string, and nothing else is counted. Two trees are one where they choose
-- alike (SPECIFICATION 13.17).
pub record TreesTold (G : Shapes) : Type 0 where
  pub derivations : (s : Shape) (w : Word) → Iso (Der G s w) (Reading G s w)
  pub same_nodes : (s : Shape) (w : Word) (d : Der G s w) → ((derivations s w).fun d).0 ≡ tree_of d
  pub told_apart : (s : Shape) (x y : Tree G s) → choices x ≡ choices y → x ≡ y

-- What a turn does to each tree, read in any grammar X that has the rules of G but perhaps for the body of H.
pub record TurnsTold (H : ℕ) (G X : Shapes) (o : ButFor H G X) : Type 0 where
  -- Every tree of an alternative is one around an element. Every tree of a choice stands in a slot: in front of one of them, in its
  -- own, or behind it; and so below a call.
  pub some_around : (α : List Shape) (s : Shape) (β : List Shape) (z : Tree X (seqs (α ++ (s ∷ β))))
      → (u : Tree X (seqs α)) × (x : Tree X s) × (v : Tree X (seqs β)) × (z ≡ around α β u x v)
  pub some_slot : (as' : List Shape) (z : Tree X (alts as'))
      → (k : ℕ) × (a : Shape) × (p : At k a as') × (x : Tree X a) × (z ≡ in_slot p x)
  pub some_place : (front : List Shape) (a : Shape) (rest : List Shape) (z : Tree X (alts (front ++ (a ∷ rest)))) → Stands front a rest z
  pub some_call : (S : ℕ) (Γ : List (List Shape)) (e : find X S ≡ some (alts (map seqs Γ))) (z : Tree X (call_of S))
      → (k : ℕ) × (γ : List Shape) × (p : At k γ Γ) × (y : Tree X (seqs γ)) × (z ≡ t_call e (in_slot (on_at seqs p) y))
  -- Split: an optional that is there takes the first of the two alternatives, whatever it derives; one that is not, the second
  -- (SPECIFICATION 13.18).
  pub split_there : (x : Shape) (α β : List Shape) (u : Tree X (seqs α)) (d : Tree X x) (v : Tree X (seqs β))
      → (split_pairs x α β).to X o (around α β u (t_present d) v) ≡ t_left (around α β u d v)
  pub split_gone : (x : Shape) (α β : List Shape) (u : Tree X (seqs α)) (v : Tree X (seqs β))
      → (split_pairs x α β).to X o (around α β u t_absent v) ≡ t_right (t_left (join α β (t_seq u v)))
  -- Splice: the call's node goes, and the slot of the alternative below it is the new alternative's (SPECIFICATION 13.19).
  pub splice : (S : ℕ) (Γ : List (List Shape)) (ne : S ≡ H → ⊥) (e : find G S ≡ some (alts (map seqs Γ))) (α β : List Shape)
      (u : Tree X (seqs α)) (v : Tree X (seqs β)) (k : ℕ) (γ : List Shape) (p : At k γ Γ) (y : Tree X (seqs γ))
      → (splice_pairs S Γ ne e α β).to X o (around α β u (t_call (o.others S ne ∙ e) (in_slot (on_at seqs p) y)) v)
      ≡ in_slot (on_at (λ γ. seqs (α ++ (γ ++ β))) p) (within α γ β u y v)
  -- In the slot of a list: those in front of it stay where they are, the k-th new one stands k behind its place, and those behind
  -- it follow the new ones.
  pub slot_front : (a : Shape) (qs : List Shape) (e : Pairs H G a (alts qs)) (front rest : List Shape) (k : ℕ) (f : Shape)
      (p : At k f front) (x : Tree X f)
      → (slot_pairs qs e front rest).to X o (in_slot (in_front (a ∷ rest) p) x) ≡ in_slot (in_front (qs ++ rest) p) x
  pub slot_here : (a : Shape) (qs : List Shape) (e : Pairs H G a (alts qs)) (front rest : List Shape) (x : Tree X a) (k : ℕ) (q : Shape)
      (p : At k q qs) (y : Tree X q) → e.to X o x ≡ in_slot p y
      → (slot_pairs qs e front rest).to X o (in_slot (behind front here) x) ≡ in_slot (behind front (in_front rest p)) y
  pub slot_rest : (a : Shape) (qs : List Shape) (e : Pairs H G a (alts qs)) (front rest : List Shape) (k : ℕ) (r : Shape)
      (p : At k r rest) (x : Tree X r)
      → (slot_pairs qs e front rest).to X o (in_slot (behind front (there p)) x) ≡ in_slot (behind front (behind qs p)) x

-- What a plan does to each tree. It is carried to the grammar with the hub's new body, where the turns are made below each call of
-- the hub once the tree there is carried, and the call of every other rule stays; then to the grammar without the rules removed,
-- where every node stays. All other nodes stay by the definition of `carry`.
pub record JoinedTold {H n : ℕ} {G L : Shapes} {P : ℕ → Type 0} (j : JoinedTrees H n G L P) : Type 0 where
  pub pairing : (s : Shape) (p : EachCall P s) (x : Tree G s) → (joined j s p).to x ≡ stay j.left (carry (at_calls j) x) p
  pub hub : (x : Tree G j.old)
      → carry (at_calls j) (t_call j.old_body x) ≡ t_call j.new_body (j.bodies.to j.replaced j.only_hub (carry (at_calls j) x))
  pub other : (m : ℕ) (b : Shape) → (m ≡ H → ⊥) → (e : find G m ≡ some b) (f : find j.replaced m ≡ some b) (x : Tree G b)
      → carry (at_calls j) (t_call e x) ≡ t_call f (carry (at_calls j) x)

-- A grammar's rules as shapes.
abbrev pub shapes_of : List Rule → Shapes
shapes_of = erase_rules body_depth

-- How one plan pairs trees: by a turn for each of its steps, below calls of its hub.
pub record PlanTrees (before : List Rule) (t : Stage) (after : List Rule) : Type 0 where
  pub starts : t.before ≡ before
  pub leaves : t.after.node ≡ after
  pub hub : Rule
  pub is_rule : Memᴰ hub before
  pub is_hub : hub.id ≡ t.plan.hub
  pub trees : JoinedTrees hub.name t.plan.steps (shapes_of before) (shapes_of after) (Stays before after)

-- The plans of stages, one after the other.
pub data Plans : List Rule → List Stage → List Rule → Type 0 where
  none : {rs : List Rule} → Plans rs [] rs
  next : {rs ks ls : List Rule} {t : Stage} {ts : List Stage} → PlanTrees rs t ks → Plans ks ts ls → Plans rs (t ∷ ts) ls

-- A name stays over all of them.
unfoldable pub StaysOver : {rs ls : List Rule} {ts : List Stage} → Plans rs ts ls → ℕ → Type 0
StaysOver none n = Unit {0}
StaysOver (next {rs = rs} {ks = ks} p ps) n = Stays rs ks n × StaysOver ps n

-- The trees of a call, over all of them.
unfoldable pub over : {rs ls : List Rule} {ts : List Stage} (ps : Plans rs ts ls) (n : ℕ) → StaysOver ps n
    → Paired (shapes_of rs) (call_of n) (shapes_of ls) (call_of n)
unfolding StaysOver
over (none {rs = rs}) n s = paired_refl (shapes_of rs) (call_of n)
over (next p ps) n s = paired_trans (joined p.trees (call_of n) s.0) (over ps n s.1)

-- Of a rule that is kept, two rules with one id: a pairing of its derivations is a pairing of the trees of its call.
pub record RuleTold (before after : List Rule) (P : ℕ → Type 0)
    (by : (n : ℕ) → P n → Paired (shapes_of before) (call_of n) (shapes_of after) (call_of n)) (r q : Rule)
    (pairs : (w : Word) → Iso (RuleDerives body_depth before r.id w) (RuleDerives body_depth after q.id w)) : Type 0 where
  pub same_name : q.name ≡ r.name
  pub stays : P q.name
  pub becomes : (w : Word) (x : RuleDerives body_depth before r.id w)
      → (z : Tree (shapes_of before) (call_of q.name)) × CallTree x q.name z
      × CallTree ((pairs w).fun x) q.name ((by q.name stays).to z)

-- 4b. Which derivations are paired, over stages: those that the plans pair, one plan after the other.
pub record ReadingsTold (before : List Rule) (ts : List Stage) (after : List Rule) (same : SameReadings before after) : Type 0 where
  pub plans : Plans before ts after
  pub rules : (r q : Rule) (m : Memᴰ r before) (n : Memᴰ q after) (e : q.id ≡ r.id)
      → RuleTold before after (StaysOver plans) (over plans) r q (same.pairs r q m n e)

-- The same over one stage.
pub record PlanReadings (before : List Rule) (t : Stage) (after : List Rule) (same : SameReadings before after) : Type 0 where
  pub plan : PlanTrees before t after
  pub rules : (r q : Rule) (m : Memᴰ r before) (n : Memᴰ q after) (e : q.id ≡ r.id)
      → RuleTold before after (Stays before after) (λ n. joined plan.trees (call_of n)) r q (same.pairs r q m n e)
