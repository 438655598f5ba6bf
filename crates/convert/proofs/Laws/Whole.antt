-- The newest words of a whole sheet: its rules, then the preserved ids and the trailer.
use Prim.Native.Nat.{ℕ, ◌+◌, ◌-◌, ◌*◌, ◌≤◌}
use mathlib.Core.Path.{◌≡◌, refl, sym, ap, ◌∙◌}
use mathlib.Core.List.{List, [], ◌∷◌, ◌++◌, append_assoc}
use native.Mathlib.Omega.{arith}
use lib.ListN.{length, take, drop}
use Rattle.std.proofs.Common.{length-append}
use Rattle.grammar.specs.Form.{first_form, newest}
use Rattle.grammar.specs.Words.{words}
use Rattle.grammar.specs.Stands.{Stands}
use Rattle.grammar.specs.Encode.{encode, encode_rules, encode_rules_in, encode_counters}
use Rattle.grammar.specs.Reading.{sheet_of, preserved_ids, unit_kind, counters_of}
use Rattle.grammar.specs.Laws.Words.{length_words}
use Rattle.grammar.specs.Laws.Stands.{stands_length, stands_self, stands_slice, stands_split}
use Rattle.grammar.specs.Laws.Trailer.{trailing_in, encode_split}
use Rattle.grammar.specs.Laws.Whole.{stands_encoded}
use Rattle.writing.specs.Wrote.{Wrote}
use Rattle.writing.specs.Laws.Wrote.{wrote_then, wrote_slice}
use Rattle.convert.specs.declared.walk.Place.{Place}
use Rattle.convert.specs.Widened.{RulesWidened}
use Rattle.convert.specs.Newest.{Widenable, Readable, Behind, Finished, InFront}
use Rattle.convert.proofs.Laws.Leaves.{slice_length}

pub finished : {bs out m₁ m₂ out' : List ℕ} {t end to : ℕ} → Widenable bs out → Behind bs t end to
    → Wrote out m₁ to (take (t + 1 - end) (drop end (words bs)))
    → Wrote m₁ m₂ (to + (t - end) + 1) ((to + (t - end)) ∷ [])
    → Wrote m₂ out' (to + (t - end) + 2) (take 6 (drop (t + 2) (words bs)))
    → Finished (words bs) t end to out out' (to + (t - end) + 8)
finished {bs} {t = t} {end} {to} l b u v w =
    let n = length_words bs in
    let p = b.place in
    let h = b.within in
    let m = l.least in
    let a : length (take (t + 1 - end) (drop end (words bs))) ≡ t + 1 - end = slice_length (words bs) end (t + 1) (omega arith) in
    let c = length-append (take (t + 1 - end) (drop end (words bs))) ((to + (t - end)) ∷ []) in
    record { count = refl; wrote = wrote_then (omega arith) (wrote_then (omega arith) u v) w }

-- What stands behind the rules.
record Pieces (ws ids rest : List ℕ) (kind t end : ℕ) : Type 0 where
  front : take (t + 1 - end) (drop end ws) ≡ ids ++ (kind ∷ [])
  behind : take 6 (drop (t + 2) ws) ≡ rest

pieces : (rules : List ℕ) (first : ℕ) {ws ids rest : List ℕ} {kind t end : ℕ} → ws ≡ rules ++ (ids ++ (kind ∷ first ∷ rest)) → end ≡ length rules
    → t ≡ end + length ids → length rest ≡ 6
    → Pieces ws ids rest kind t end
pieces rules first {ws} {ids} {rest} {kind} {t} {end} e f g h =
    let all = e ∙ ap (λ l. rules ++ l) (sym (append_assoc ids (kind ∷ []) (first ∷ rest))) in
    let whole : Stands ws (length ws) (rules ++ ((ids ++ (kind ∷ [])) ++ (first ∷ rest))) 0 (length ws) =
    rw (← all) (stands_self ws) in
    let (p, x, y) = stands_split rules ((ids ++ (kind ∷ [])) ++ (first ∷ rest)) whole in
    let (q, u, v) = stands_split (ids ++ (kind ∷ [])) (first ∷ rest) y in
    let (r, z, o) = stands_split (first ∷ []) rest v in
    let lx = stands_length x in
    let lu = stands_length u in
    let lz = stands_length z in
    let lo = stands_length o in
    let n = length-append ids (kind ∷ []) in
    let a : p ≡ end = omega arith in
    let b : length (ids ++ (kind ∷ [])) ≡ t + 1 - end = omega arith in
    let c : r ≡ t + 2 = omega arith in
    record {
      front = rw (a, b) at (stands_slice (omega arith) u);
      behind = rw (c, h) at (stands_slice (omega arith) o);
    }

pub newest_in_front : {bs wide m wide' : List ℕ} {t end n k : ℕ} {p : Place} → Widenable bs wide → (r : Readable bs t end n)
    → RulesWidened (words bs) end n (record { at = 0; to = 0 }) wide m p
    → Finished (words bs) t end p.to m wide' k
    → InFront (sheet_of (words bs) r.found.trees) wide' k
unfolding sheet_of trailing_in
newest_in_front {bs} {wide} {m} {wide'} {t} {end} {n} {k} {p} l r w f =
    let ws = words bs in
    let rs = r.found.trees in
    let s = sheet_of ws rs in
    let long = length_words bs in
    let least = l.least in
    let place = r.place.place in
    let e = (stands_encoded first_form ws (omega arith) r.good rs end r.all_of).0 in
    let ids = preserved_ids ws in
    let rest = length ids ∷ encode_counters (counters_of ws) in
    let old = encode_rules_in first_form rs in
    let new = encode_rules rs in
    let parts : ws ≡ old ++ (ids ++ (unit_kind ws ∷ length (old ++ ids) ∷ rest)) = sym e ∙ encode_split first_form s in
    let q = stands_length r.found.spans.stands in
    let ends = r.ends in
    let lp = ap length parts ∙ length-append old _ in
    let li = length-append ids (unit_kind ws ∷ length (old ++ ids) ∷ rest) in
    let ends_at : end ≡ length old = omega arith in
    let begins : t ≡ end + length ids = omega arith in
    let x : Pieces ws ids rest (unit_kind ws) t end = pieces old (length (old ++ ids)) parts ends_at begins refl in
    let wrote = w.wrote rs r.found.next r.found.spans r.found.count in
    let to = w.to_is rs r.found.next r.found.spans r.found.count in
    let passed = w.passed rs r.found.next r.found.spans r.found.count in
    let both = wrote_then to wrote (rw (x.front, x.behind) at f.wrote) in
    let first : p.to + (t - end) ≡ length (new ++ ids) = let a = length-append new ids in omega arith in
    let are : encode s ≡ new ++ (((ids ++ (unit_kind ws ∷ [])) ++ ((p.to + (t - end)) ∷ [])) ++ rest) =
    encode_split newest s ∙ rw (first) (simp append_assoc) in
    let le = ap length (encode_split newest s) ∙ length-append new _ in
    let lj = length-append ids (unit_kind ws ∷ length (new ++ ids) ∷ rest) in
    let g = w.eighth in
    let c = f.count in
    let wide_long = both.long in
    let room = l.room in
    let count : k ≡ length (encode s) = omega arith in
    let fit : 4 * k ≤ length wide = omega arith in
    record {
      count = count;
      room = omega arith;
      are = rw (count, are) (wrote_slice both (rw (← are) (omega arith)));
    }

pub ruleset wholes = (finished, newest_in_front)
