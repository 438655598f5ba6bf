-- The grammar that a plan leaves, rule by rule: those that stay in front of the hub, the hub with its new body, those behind it.
use Prim.Native.Nat.{ℕ, suc, ◌+◌, ◌-◌}
use Rattle.std.specs.Prelude.{◌≡◌, Bool, true, false, not, ◌&&◌, length, get_or, eqb}
use Rattle.std.proofs.Math.Path.{refl, sym, ap, subst}
use Rattle.std.proofs.Common.{◌∙◌, length-append, take_all, eq-eqb, ne_eqb, lt-ltb}
use mathlib.Core.List.{List, [], ◌∷◌, ◌++◌, map, append-nil, append_assoc}
use native.Mathlib.Omega.{arith}
use Rattle.std.proofs.Math.Seq.{take-append_seam}
use Rattle.grammar.specs.Tree.{Rule, Block, inner_depth, body_depth, with_rule_body}
use Rattle.grammar.specs.Lists.{each, keep, push, member}
use Rattle.grammar.specs.Laws.Lists.{each_append}
use Rattle.reference.specs.Apply.{fresh_each, apply_alternative, with_body, apply_plan}
use Rattle.reference.specs.Run.{encode_entry}
use Rattle.records.specs.declared.rules.Rules.{Rules}
use Rattle.reach.specs.Rows.{bit, RowOf, holds}
use Rattle.analysis.specs.Facts.{Standing, Among}
use Rattle.analysis.proofs.Laws.Standing.{few, all_rules, id_at, one_rule}
use Rattle.plan.specs.declared.plan.Plan.{Plan}
use Rattle.writing.specs.Taken.{counters_of}
use Rattle.copies.specs.declared.pen.Pen.{Pen}
use Rattle.drafts.specs.Kept.{kept, part, kept_of}
use Rattle.drafts.specs.Laws.Kept.{drop_past}
use Rattle.drafts.specs.declared.draft.Draft.{Draft}
use Rattle.compose.specs.Compose.{Applies, rules_before, after}
use Rattle.compose.specs.Hub.{new_rules, hub_body, hub_entries}

push_append : (b : Bool) (r : Rule) (xs ys : List Rule) → push b r xs ++ ys ≡ push b r (xs ++ ys)
push_append true r xs ys = refl
push_append false r xs ys = refl

module _ (hub : ℕ) (body : Block body_depth) (gone : List ℕ) where
  abbrev stays : Rule → Bool
  stays r = not (member r.id gone)

  abbrev changed : Rule → Rule
  changed = with_body inner_depth hub body

  -- Rules from the i-th on, none of which is the hub, and a row of those that go.
  record Told (row : List ℕ) (i : ℕ) (xs : List Rule) : Type 0 where
    goes : (k : ℕ) (a : Among xs k) → bit row (i + k) ≡ member a.rule.id gone
    other : (k : ℕ) (a : Among xs k) → eqb a.rule.id hub ≡ false

  abbrev later : (r : Rule) {xs : List Rule} {k : ℕ} → Among xs k → Among (r ∷ xs) (suc k)
  later r a =
      record { front = r ∷ a.front; rule = a.rule; rest = a.rest; parts = ap (λ l. r ∷ l) a.parts; count = ap suc a.count }

  -- Of these the ones that stay are as they were.
  kept_front : (row : List ℕ) (i : ℕ) (xs ys : List Rule) → Told row i xs
      → keep stays (map changed (xs ++ ys)) ≡ kept row i xs ++ keep stays (map changed ys)
  unfolding keep kept with_body
  kept_front row i [] ys t = refl
  kept_front row i (r ∷ xs) ys t =
      let here : Among (r ∷ xs) 0 = record { front = []; rule = r; rest = xs; parts = refl; count = refl } in
      let e : changed r ≡ r = rw (t.other 0 here, with_body) in
      let z : i + 0 ≡ i = omega arith in
      let m : bit row i ≡ member r.id gone = rw z at (t.goes 0 here) in
      let more = kept_front row (suc i) xs ys (record {
        goes = λ k a. let y : suc i + k ≡ i + suc k = omega arith in rw y (t.goes (suc k) (later r a));
        other = λ k a. t.other (suc k) (later r a);
      }) in
      ap (λ q. push (stays q) q (keep stays (map changed (xs ++ ys)))) e
      ∙ ap (λ b. push (not b) r (keep stays (map changed (xs ++ ys)))) (sym m)
      ∙ ap (push (not (bit row i)) r) more
      ∙ sym (push_append (not (bit row i)) r (kept row (suc i) xs) (keep stays (map changed ys)))

  -- The hub has the body, and stays.
  kept_hub : (r : Rule) (ys : List Rule) → eqb r.id hub ≡ true → member r.id gone ≡ false
      → keep stays (map changed (r ∷ ys)) ≡ with_rule_body body r ∷ keep stays (map changed ys)
  unfolding keep with_body
  kept_hub r ys e m =
      let c : changed r ≡ with_rule_body body r = rw (e, with_body) in
      ap (λ q. push (stays q) q (keep stays (map changed ys))) c
      ∙ ap (λ b. push (not b) (with_rule_body body r) (keep stays (map changed ys))) m

-- A part of the rules that is in front of one of them, or behind it.
module _ {rs : List Rule} {i : ℕ} (a : Among rs i) where
  pub part_front : part 0 i rs ≡ a.front
  part_front =
      let z : i - 0 ≡ i = omega arith in
      rw (z, ← a.parts, ← a.count) (take-append_seam a.front (a.rule ∷ a.rest))

  pub part_behind : {n : ℕ} → n ≡ length rs → part (i + 1) n rs ≡ a.rest
  part_behind {n} e =
      let l = length-append a.front (a.rule ∷ a.rest) in
      let p = ap length a.parts in
      let c = a.count in
      rw (drop_past a) (take_all (n - (i + 1)) a.rest (omega arith))

  abbrev in_front : {k : ℕ} → Among a.front k → Among rs k
  in_front b =
      record {
        front = b.front;
        rule = b.rule;
        rest = b.rest ++ (a.rule ∷ a.rest);
        parts =
            sym (append_assoc b.front (b.rule ∷ b.rest) (a.rule ∷ a.rest))
            ∙ ap (λ l. l ++ (a.rule ∷ a.rest)) b.parts ∙ a.parts;
        count = b.count;
      }

  abbrev in_rest : {k : ℕ} → Among a.rest k → Among rs (i + 1 + k)
  in_rest b =
      record {
        front = a.front ++ (a.rule ∷ b.front);
        rule = b.rule;
        rest = b.rest;
        parts =
            append_assoc a.front (a.rule ∷ b.front) (b.rule ∷ b.rest)
            ∙ ap (λ l. a.front ++ (a.rule ∷ l)) b.parts ∙ a.parts;
        count = length-append a.front (a.rule ∷ b.front) ∙ (let c = a.count in let d = b.count in omega arith);
      }

-- What is left of rules that stand in a sheet where those of a row go, and the one at a place has a new body.
module _ {ws : List ℕ} {end : ℕ} {rules : Rules} (s : Standing ws end rules) {gone row : List ℕ} (m : RowOf rules.ids rules.n gone row)
    {hub : ℕ} (a : Among s.rows.found.trees hub) (body : Block body_depth) (stay : member a.rule.id gone ≡ false) where
  abbrev rs : List Rule
  rs = s.rows.found.trees

  goes_at : {j : ℕ} (b : Among rs j) → bit row j ≡ member b.rule.id gone
  unfolding holds
  goes_at {j} b =
      let l = few b in
      let c = all_rules s.rows in
      m.at j
      ∙ ap (λ t. t && member (get_or rules.ids j 0) gone) (lt-ltb j rules.n (omega arith))
      ∙ ap (λ i. member i gone) (id_at s.rows b)

  other_at : {j : ℕ} (b : Among rs j) → (j ≡ hub → ⊥) → eqb b.rule.id a.rule.id ≡ false
  other_at b n = ne_eqb b.rule.id a.rule.id λ e. n (one_rule s.rows (λ r. r.id) s.ids b a e)

  left_front : keep (stays a.rule.id body gone) (map (changed a.rule.id body gone) rs)
      ≡ kept row 0 a.front
      ++ keep (stays a.rule.id body gone) (map (changed a.rule.id body gone) (a.rule ∷ a.rest))
  left_front =
      ap (λ l. keep (stays a.rule.id body gone) (map (changed a.rule.id body gone) l)) (sym a.parts)
      ∙ kept_front a.rule.id body gone row 0 a.front (a.rule ∷ a.rest) (record {
        goes = λ k b. let z : 0 + k ≡ k = omega arith in rw z (goes_at (in_front a b));
        other = λ k b. other_at (in_front a b) (λ e. let l = few b in let c = a.count in omega arith);
      })

  left_rest : keep (stays a.rule.id body gone) (map (changed a.rule.id body gone) a.rest) ≡ kept row (hub + 1) a.rest
  unfolding keep
  left_rest =
      ap (λ l. keep (stays a.rule.id body gone) (map (changed a.rule.id body gone) l)) (sym (append-nil a.rest))
      ∙ kept_front a.rule.id body gone row (hub + 1) a.rest [] (record {
        goes = λ k b. goes_at (in_rest a b);
        other = λ k b. other_at (in_rest a b) (λ e. omega arith);
      })
      ∙ append-nil (kept row (hub + 1) a.rest)

  pub after_rules : keep (λ q. not (member q.id gone)) (map (with_body inner_depth a.rule.id body) rs)
      ≡ kept_of row 0 hub rs ++ (with_rule_body body a.rule ∷ kept_of row (hub + 1) rules.n rs)
  after_rules =
      left_front
      ∙ ap (λ l. kept row 0 a.front ++ l)
      (kept_hub a.rule.id body gone a.rule a.rest (eq-eqb a.rule.id a.rule.id refl) stay
      ∙ ap (λ l. with_rule_body body a.rule ∷ l) left_rest)
      ∙ rw (part_front a, part_behind a (all_rules s.rows))

-- The same of a plan.
module _ {ws : List ℕ} {end to : ℕ} {rules : Rules} {p : Plan} {work trail : List ℕ} {pen : Pen}
    (x : Applies ws end to rules p work trail pen) where
  abbrev were : List Rule
  were = rules_before x

  abbrev gone : List ℕ
  gone = x.plan.removable

  module _ (a : Among were p.hub) where
    hub_is : x.plan.hub ≡ a.rule.id
    hub_is = x.same.hub ∙ id_at x.standing.rows a

    module _ (r : Rules) where
      abbrev d : Draft
      d = record { rules = r; pen = pen }

      abbrev new : Block body_depth
      new = (hub_body ws end rules p work d).node

      same_body : fresh_each (apply_alternative inner_depth) x.plan.alternatives (counters_of pen.counters)
          ≡ hub_body ws end rules p work d
      same_body =
          ap (λ ps. fresh_each (apply_alternative inner_depth) ps (counters_of pen.counters)) x.same.alternatives

      pub after_entries : each encode_entry (after x).entries ≡ hub_entries ws end rules p work d
      unfolding apply_plan encode_entry
      after_entries =
          each_append encode_entry
          (fresh_each (apply_alternative inner_depth) x.plan.alternatives (counters_of pen.counters)).entries _
          ∙ rw (same_body, x.same.hub)

      pub after_counters : (after x).counters ≡ (hub_body ws end rules p work d).counters
      unfolding apply_plan
      after_counters = ap (λ f. f.counters) same_body

      pub after_node : (after x).node ≡ new_rules ws end rules p work d were a.rule
      unfolding apply_plan
      after_node =
          ap (λ f. keep (λ q. not (member q.id gone)) (map (with_body inner_depth x.plan.hub f.node) were)) same_body
          ∙ ap (λ k. keep (λ q. not (member q.id gone)) (map (with_body inner_depth k new) were)) hub_is
          ∙ after_rules x.standing x.same.removable a new (subst (λ k. member k gone ≡ false) hub_is x.stays)
