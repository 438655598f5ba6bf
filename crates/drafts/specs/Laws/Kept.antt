-- The rules that stay, one after the other; where each rule ends.
use Rattle.std.specs.Prelude.{ℕ, suc, ◌+◌, ◌-◌, ◌<◌, ◌≤◌, ◌≡◌, refl}
use Rattle.std.specs.Prelude.{List, [], ◌∷◌, ◌++◌, Bool, true, false, not, length, drop}
use Rattle.std.proofs.Common.{sym, ◌∙◌, subst, arith, add-one, length-append}
use Rattle.std.proofs.Math.Path.{ap}
use Rattle.std.proofs.Math.ListN.{get_or, get_or-append}
use Rattle.std.proofs.Math.Seq.{drop-append_seam, drop-append-add}
use Rattle.grammar.specs.Form.{newest}
use Rattle.grammar.specs.Tree.{Rule, body_depth}
use Rattle.grammar.specs.Encode.{encode_rule, encode_block}
use Rattle.grammar.specs.Lists.{push}
use Rattle.grammar.specs.Found.{RuleSpans, RulesSpan}
use Rattle.grammar.specs.Laws.Stands.{stands_length}
use Rattle.grammar.specs.Laws.Opened.{first_spans}
use Rattle.records.specs.Rules.{row, places_from, places_from_in}
use Rattle.records.specs.declared.rules.Rules.{Rules}
use Rattle.records.specs.Laws.Places.{places_length}
use Rattle.reach.specs.Rows.{bit}
use Rattle.analysis.specs.Facts.{Standing, Among}
use Rattle.analysis.proofs.Laws.Standing.{few, all_rules}
use Rattle.drafts.specs.Kept.{kept, part, kept_of, PlaceEnds}

-- Rules from a place on.
module _ {rs : List Rule} {i : ℕ} (a : Among rs i) where
  pub drop_among : drop i rs ≡ a.rule ∷ a.rest
  drop_among = rw (← a.parts, ← a.count) (drop-append_seam a.front (a.rule ∷ a.rest))

  pub drop_past : drop (i + 1) rs ≡ a.rest
  drop_past = rw (← a.parts, ← a.count) (drop-append-add a.front (a.rule ∷ a.rest) 1)

  pub part_first : {until : ℕ} → i < until → part i until rs ≡ a.rule ∷ part (i + 1) until rs
  part_first {until} l =
      let n : until - i ≡ suc (until - (i + 1)) = omega arith in
      rw (n, drop_among, drop_past)

  pub kept_first : (row : List ℕ) (until : ℕ) → i < until
      → kept_of row i until rs ≡ push (not (bit row i)) a.rule (kept_of row (i + 1) until rs)
  unfolding kept
  kept_first row until l = ap (kept row i) (part_first l) ∙ rw (add-one i)

pub kept_none : (row : List ℕ) (until : ℕ) (rs : List Rule) → kept_of row until until rs ≡ []
unfolding kept
kept_none row until rs = let n : until - until ≡ 0 = omega arith in rw n

pub push_split : (b : Bool) (r : Rule) (rs : List Rule) → push b r rs ≡ push b r [] ++ rs
push_split true r rs = refl
push_split false r rs = refl

-- Where the last rule ends, and where another one does.
place_last : {ws : List ℕ} {end : ℕ} (t : Rule) (front : List Rule) (at q : ℕ) → RulesSpan ws end at (front ++ (t ∷ [])) q
    → RuleSpans ws end body_depth (get_or (places_from at (front ++ (t ∷ []))) (length front) 0) t q
unfolding places_from_in
place_last t [] at q s =
    let f = first_spans s in
    let e : f.0 ≡ q = let l = stands_length f.2.stands in omega arith in
    rw e at f.1
place_last {ws} {end} t (r ∷ front) at q s =
    let f = first_spans s in
    let e : f.0 ≡ at + length (encode_rule (encode_block body_depth) r) = let z = stands_length f.1.stands in omega arith in
    place_last {ws = ws} {end = end} t front (at + length (encode_rule (encode_block body_depth) r)) q (rw (← e) f.2)

place_next : {ws : List ℕ} {end : ℕ} (t u : Rule) (rest front : List Rule) (at q : ℕ) → RulesSpan ws end at (front ++ (t ∷ u ∷ rest)) q
    → RuleSpans ws end body_depth (get_or (places_from at (front ++ (t ∷ u ∷ rest))) (length front) 0) t
    (get_or (places_from at (front ++ (t ∷ u ∷ rest))) (suc (length front)) 0)
unfolding places_from_in
place_next t u rest [] at q s =
    let f = first_spans s in
    let e : f.0 ≡ at + length (encode_rule (encode_block body_depth) t) = let z = stands_length f.1.stands in omega arith in
    rw e at f.1
place_next {ws} {end} t u rest (r ∷ front) at q s =
    let f = first_spans s in
    let e : f.0 ≡ at + length (encode_rule (encode_block body_depth) r) = let z = stands_length f.1.stands in omega arith in
    place_next {ws = ws} {end = end} t u rest front (at + length (encode_rule (encode_block body_depth) r)) q (rw (← e) f.2)

module _ {ws : List ℕ} {end : ℕ} {rules : Rules} (s : Standing ws end rules) where
  abbrev rs : List Rule
  rs = s.rows.found.trees

  place_is : (i : ℕ) → i < length rs → get_or rules.places i 0 ≡ get_or (places_from 0 rs) i 0
  unfolding row
  place_is i l =
      ap (λ l. get_or l i 0) s.rows.rows.places
      ∙ get_or-append (places_from 0 rs) _ 0 i (let e = places_length newest 0 rs in omega arith)

  spans_all : {i : ℕ} (a : Among rs i) → RulesSpan ws end 0 (a.front ++ (a.rule ∷ a.rest)) end
  spans_all a =
      rw s.rows.ends at (subst (λ xs. RulesSpan ws end 0 xs s.rows.found.next) (sym a.parts) s.rows.found.spans)

  length_among : {i : ℕ} (a : Among rs i) → length rs ≡ i + suc (length a.rest)
  length_among a =
      let l = length-append a.front (a.rule ∷ a.rest) in
      let e = ap length a.parts in
      let c = a.count in
      omega arith

  -- A place among the rules in front of some and those themselves.
  place_at : {i : ℕ} (a : Among rs i) (xs : List Rule) → a.front ++ xs ≡ rs → (k : ℕ) → k + i < length rs
      → get_or rules.places (k + i) 0 ≡ get_or (places_from 0 (a.front ++ xs)) (k + length a.front) 0
  place_at {i} a xs p k l =
      place_is (k + i) l
      ∙ ap (λ l. get_or (places_from 0 l) (k + i) 0) (sym p)
      ∙ ap (λ n. get_or (places_from 0 (a.front ++ xs)) (k + n) 0) (sym a.count)

  last_ends : {i : ℕ} (a : Among rs i) → rules.n ≤ i + 1 → RuleSpans ws end body_depth (get_or rules.places i 0) a.rule end
  last_ends {i} a l = go a.rest refl
    where
      go : (xs : List Rule) → a.rest ≡ xs → RuleSpans ws end body_depth (get_or rules.places i 0) a.rule end
      go [] e =
          let m = few a in
          let t = place_last a.rule a.front 0 end (rw e at (spans_all a)) in
          let z : 0 + i ≡ i = omega arith in
          let y : 0 + length a.front ≡ length a.front = omega arith in
          let p = place_at a (a.rule ∷ []) (rw e at a.parts) 0 (omega arith) in
          rw (rw (z, y) at p) t
      go (u ∷ xs) e = absurd (let n = length_among a in let k = ap length e in let z = all_rules s.rows in omega arith)

  next_ends : {i : ℕ} (a : Among rs i) → i + 1 < rules.n
      → RuleSpans ws end body_depth (get_or rules.places i 0) a.rule (get_or rules.places (i + 1) 0)
  next_ends {i} a l = go a.rest refl
    where
      go : (xs : List Rule) → a.rest ≡ xs
          → RuleSpans ws end body_depth (get_or rules.places i 0) a.rule (get_or rules.places (i + 1) 0)
      go [] e = absurd (let n = length_among a in let k = ap length e in let z = all_rules s.rows in omega arith)
      go (u ∷ xs) e =
          let m = few a in
          let z = all_rules s.rows in
          let t = place_next a.rule u xs a.front 0 end (rw e at (spans_all a)) in
          let v : 0 + i ≡ i = omega arith in
          let y : 0 + length a.front ≡ length a.front = omega arith in
          let w : 1 + i ≡ i + 1 = omega arith in
          let x : 1 + length a.front ≡ suc (length a.front) = omega arith in
          let p = rw (v, y) at (place_at a (a.rule ∷ u ∷ xs) (rw e at a.parts) 0 (omega arith)) in
          let q = rw (w, x) at (place_at a (a.rule ∷ u ∷ xs) (rw e at a.parts) 1 (omega arith)) in
          rw (p, q) t

module _ {end : ℕ} {places : List ℕ} {i n : ℕ} where
  pub ends_next : i + 1 < n → {p : ℕ} → p ≡ get_or places (i + 1) 0 → PlaceEnds end places n i p
  ends_next l e =
      record {
        is = λ rules same c. record { is = λ ws s a. rw (e ∙ ap (λ xs. get_or xs (i + 1) 0) same) (next_ends s a (omega arith)) };
      }

  pub ends_last : n ≤ i + 1 → PlaceEnds end places n i end
  ends_last l = record { is = λ rules same c. record { is = λ ws s a. last_ends s a (omega arith) } }

pub ruleset ends = (ends_next, ends_last)
