-- Reach only shrinks: what a rule reaches after a plan it reached before.
use Rattle.std.specs.Prelude.{ℕ, suc, ◌≡◌}
use Rattle.std.proofs.Common.{sym, ap, ◌∙◌, subst}
use Rattle.std.proofs.Math.Logic.{inl, inr, ⊎_elim}
use mathlib.Core.List.{List, [], ◌∷◌, ◌++◌, map, map-append, map-map, Memᴰ}
use Rattle.std.proofs.Math.Option.{some}
use Rattle.grammar.specs.Tree.{call, Element, leaf, AlternativeOf}
use Rattle.grammar.specs.Tree.{Block, RuleOf, Counters}
use Rattle.language.specs.Shape.{Shape, seqs, alts, erase_element, erase_block, Shapes, find, erase_rules}
use Rattle.language.specs.Derive.{CanBeEmpty}
use Rattle.grammar.specs.Corners.{Corners}
use Rattle.grammar.specs.Numbers.{optional_greedy}
use Rattle.language.specs.LeftCorners.{Corner, c_first, c_later, c_left, c_right, Leads}
use Rattle.language.specs.LeftCorners.{Reaches, r_last, r_more}
use Rattle.language.specs.Laws.Empty.{alt_empty, seqs_empty}
use Rattle.language.specs.Laws.Corner.{reaches_trans}
use Rattle.language.specs.Laws.Elements.{corner_append}
use Rattle.language.specs.Laws.Rules.{found_rule, rule_found}
use Rattle.reference.specs.Analysis.{Grammar, target}
use Rattle.reference.specs.Substitute.{plain_head}
use Rattle.reference.specs.Plan.{CyclePlan, as_they_are}
use Rattle.laws.specs.Demands.Step.{CornerAt}
use Rattle.graph.specs.Members.{one_with}
use Rattle.laws.specs.Lists.Lookup.{target_rule}
use Rattle.laws.specs.Planning.Turns.{Items, items_of, Turn, split, splice, Moved, here, later, Moves, still, onward}
use Rattle.laws.specs.Planning.Substituted.{Known, shape_of, body_of, target_body}
use Rattle.laws.specs.Planning.Renumber.{applied_shape}
use Rattle.laws.specs.Planning.Plans.{Made}
use Rattle.laws.specs.Planning.OnePlan.{as_they_are_lem, rules_left, new_body, left_stems, left_closed, left_corner, body_closed}
use Rattle.laws.specs.Running.Skipped.{Beyond, past_front, behind_front, corner_one, one_corner, lists_cut, call_same, call_corner}
use Rattle.laws.specs.Running.Skipped.{optional_skips, call_skips, all_empty}

module _ (o : Corners) {d : ℕ} {rs : List (RuleOf (Block (suc d)))} {g : Grammar} (k : Known (suc d) rs g) (cycle : List ℕ) (hub : ℕ) where
  abbrev before : Shapes
  before = erase_rules (suc d) rs

  name_found : (n : ℕ) {t : ℕ} → target g n ≡ some t → (b : Shape) × (find before n ≡ some b)
  name_found n e =
      let (r, m, p, i) = target_rule rs g k.named n e in (
        erase_block (suc d) r.body,
        subst (λ n. find before n ≡ some (erase_block (suc d) r.body)) p
            (rule_found (suc d) (λ r. r.name) rs k.names m),
      )

  module _ {es : Items d} {i t : ℕ} (x : CornerAt g cycle es i t) where
    abbrev at : Element (Block d)
    at = leaf x.head (call x.site)

    whole : {m : ℕ} → Corner o before (shape_of d (at ∷ x.rest)) m → Corner o before (shape_of d es) m
    whole {m} j = subst (λ l. Corner o before (shape_of d l) m) x.whole (behind_front o before d x.front (at ∷ x.rest) x.silent j)

    split_corner : x.head.quantifier ≡ optional_greedy → {m : ℕ}
        → Corner o before (body_of d ((x.front ++ (leaf (plain_head x.head) (call x.site) ∷ x.rest)) ∷ (x.front ++ x.rest) ∷ [])) m
        → Beyond o before (shape_of d es) m
    split_corner q (c_left j) =
        present (past_front o before d x.front (leaf (plain_head x.head) (call x.site) ∷ x.rest) x.silent j)
      where
        present : {m : ℕ} → Corner o before (shape_of d (leaf (plain_head x.head) (call x.site) ∷ x.rest)) m
            → Beyond o before (shape_of d es) m
        present (c_first j) = inl (whole (c_first (call_same o before (erase_block d) x.site (plain_head x.head) x.head j)))
        present (c_later s j) =
            inl (whole (c_later (optional_skips o before (erase_block d) x.site x.head (name_found x.site.name x.known).1 q)
            j))
    split_corner q (c_right (c_left j)) =
        inl (whole (c_later (optional_skips o before (erase_block d) x.site x.head (name_found x.site.name x.known).1 q)
        (past_front o before d x.front x.rest x.silent j)))
    split_corner q {m = m} (c_right (c_right x9)) = elim x9 [ ]

    splice_corner : (r : RuleOf (Block (suc d))) → Memᴰ r rs → r.id ≡ t → {m : ℕ}
        → Corner o before (body_of d (map (λ s. x.front ++ (s.elements ++ x.rest)) r.body)) m
        → Beyond o before (shape_of d es) m
    unfolding erase_block
    splice_corner r i e {m} j =
        let b = target_body k x.site.name x.known i e in
        let (s, n, y) = corner_one o before d (λ s. x.front ++ (s.elements ++ x.rest)) r.body
        (subst (λ l. Corner o before (alts l) m) (map-map (shape_of d) (λ s. x.front ++ (s.elements ++ x.rest)) r.body) j) in
        let z = past_front o before d x.front (s.elements ++ x.rest) x.silent y in
        let e = erase_element (erase_block d) in
        ⊎_elim
        (λ u. inr (
          x.site.name,
          whole (c_first (call_corner o before (erase_block d) x.site x.head b)),
          r_last (record {
            body = erase_block (suc d) r.body;
            found = b;
            corner = one_corner o before d (λ s. s.elements) n u;
          }),
        ))
        (λ u.
        inl
        (whole
        (c_later (call_skips o before (erase_block d) x.site x.head b
        (one_empty n ((seqs_empty (map e s.elements)).1 (all_empty o before (map e s.elements) u.0)))) u.1)))
        ((corner_append (map e s.elements) (map e x.rest)).0
        (subst (λ l. Corner o before (seqs l) m) (map-append e s.elements x.rest) z))
      where
        one_empty : {s : AlternativeOf (Block d)} {as' : List (AlternativeOf (Block d))} → Memᴰ s as'
            → CanBeEmpty before (shape_of d s.elements)
            → CanBeEmpty before (alts (map (λ a. shape_of d a.elements) as'))
        one_empty (Memᴰ.head e) w = (alt_empty _ _).1 (inl (subst (λ a. CanBeEmpty before (shape_of d a.elements)) e w))
        one_empty (Memᴰ.tail n) w = (alt_empty _ _).1 (inr (one_empty n w))

  turn_corner : {es : Items d} {news : List (Items d)} → Turn d rs g cycle hub es news → {m : ℕ} → Corner o before (body_of d news) m
      → Beyond o before (shape_of d es) m
  turn_corner (split x q) j = split_corner x q j
  turn_corner (splice x q ne r i e) j = splice_corner x r i e j

  beyond_map : {s t : Shape} → ((m : ℕ) → Corner o before s m → Corner o before t m) → {m : ℕ} → Beyond o before s m → Beyond o before t m
  beyond_map f (inl j) = inl (f _ j)
  beyond_map f (inr r) = inr (r.0, f r.0 r.1, r.2)

  moved_corner : {ps qs : List (Items d)} → Moved d rs g cycle hub ps qs → {m : ℕ} → Corner o before (body_of d qs) m
      → Beyond o before (body_of d ps) m
  moved_corner (here {news = news} {rest = rest} t) j =
      ⊎_elim (λ u. beyond_map (λ m. c_left) (turn_corner t u)) (λ u. inl (c_right u)) (lists_cut o before d news rest j)
  moved_corner (later x) (c_left j) = inl (c_left j)
  moved_corner (later x) (c_right j) = beyond_map (λ m. c_right) (moved_corner x j)

  further : {s t : Shape} → ((m : ℕ) → Corner o before s m → Beyond o before t m) → {m : ℕ} → Beyond o before s m → Beyond o before t m
  further f {m} (inl j) = f m j
  further f {m} (inr (n, j, r)) = ⊎_elim (λ u. inr (n, u, r)) (λ u. inr (u.0, u.1, reaches_trans u.2 r)) (f n j)

  -- Every left corner of the planned list was one of the hub's, or reached from one.
  pub moves_corner : {ps qs : List (Items d)} {n : ℕ} → Moves d rs g cycle hub ps n qs → {m : ℕ} → Corner o before (body_of d qs) m
      → Beyond o before (body_of d ps) m
  moves_corner still j = inl j
  moves_corner (onward x y) j = further (λ m. moved_corner x) (moves_corner y j)

module _ {c : Corners} {d : ℕ} {rs : List (RuleOf (Block (suc d)))} {g : Grammar} (k : Known (suc d) rs g) {preserved cycle : List ℕ}
    {plan : CyclePlan d}
    (x : Made c d rs g preserved cycle plan) (counters : Counters) (o : Corners) where
  abbrev now : Shapes
  now = erase_rules (suc d) rs

  abbrev then : Shapes
  then = erase_rules (suc d) (rules_left k x counters)

  leads_from : (r : RuleOf (Block (suc d))) → Memᴰ r rs → {m : ℕ} → Corner o now (erase_block (suc d) r.body) m
      → Leads o now r.name m
  leads_from r n j = record { body = erase_block (suc d) r.body; found = rule_found (suc d) (λ r. r.name) rs k.names n; corner = j }

  -- A rule other than the hub keeps its left corners.
  kept_corner : {q r : RuleOf (Block (suc d))} → Memᴰ q (rules_left k x counters) → q ≡ r → {m : ℕ}
      → Corner o then (erase_block (suc d) q.body) m
      → Corner o now (erase_block (suc d) r.body) m
  kept_corner {q} n e {m} j =
      subst (λ r. Corner o now (erase_block (suc d) r.body) m) e
      ((left_corner k x counters o (erase_block (suc d) q.body) (left_closed k x counters n)).1 j)

  hub_corner : {m : ℕ} → Corner o then (erase_block (suc d) (new_body k x counters)) m → Reaches o now x.hub.name m
  hub_corner {m} j =
      let y = (left_corner k x counters o (erase_block (suc d) (new_body k x counters)) (body_closed k x counters)).1 j in
      let z =
      moves_corner o k cycle x.hub.id x.moves
      (subst (λ s. Corner o now s m) (applied_shape d plan.alternatives counters) y) in
      let back : (n : ℕ) → Corner o now (body_of d (items_of d (as_they_are x.hub.body))) n → Leads o now x.hub.name n =
      λ n u. leads_from x.hub x.is_rule (subst (λ s. Corner o now s n) (sym (as_they_are_lem d x.hub.body)) u) in
      ⊎_elim (λ u. r_last (back m u)) (λ u. r_more (back u.0 u.1) u.2) z

  pub left_leads : {n m : ℕ} → Leads o then n m → Reaches o now n m
  left_leads {n} {m} l =
      let (q, i, e, b) = found_rule (suc d) (λ r. r.name) (rules_left k x counters) n l.found in
      let s = left_stems k x counters i in
      let j : Corner o then (erase_block (suc d) q.body) m = subst (λ t. Corner o then t m) (sym b) l.corner in
      ⊎_elim
      (λ h.
      let same = one_with (λ r. r.id) rs k.ids s.is_rule x.is_rule h.0 in
      subst (λ n. Reaches o now n m) (ap (λ r. r.name) (sym same) ∙ sym s.name ∙ e)
      (hub_corner (subst (λ b. Corner o then (erase_block (suc d) b) m) h.1 j)))
      (λ u. r_last (subst (λ n. Leads o now n m) (sym s.name ∙ e) (leads_from s.rule s.is_rule (kept_corner i u.1 j))))
      s.body

-- Of paths.
pub reaches_map : {o : Corners} {G K : Shapes} → ((n m : ℕ) → Leads o K n m → Reaches o G n m) → {n m : ℕ} → Reaches o K n m
    → Reaches o G n m
reaches_map f (r_last {n = n} {m = m} l) = f n m l
reaches_map f (r_more {n = n} {m = m} l r) = reaches_trans (f n m l) (reaches_map f r)
