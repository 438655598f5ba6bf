-- The parts of a text, put together.
use Prim.Native.Nat.{ℕ, ◌+◌, ◌-◌, ◌≤◌}
use mathlib.Core.Path.{◌≡◌}
use mathlib.Core.List.{List, [], ◌∷◌, ◌++◌}
use native.Mathlib.Omega.{arith}
use lib.ListN.{length, get_or}
use lib.Dec.{leb}
use borrow.Author.Tests.{leb-true}
use Rattle.std.specs.Cmp.{first_so, second_so}
use Rattle.grammar.specs.Form.{newest}
use Rattle.grammar.specs.Numbers.{trailer_words, rule_limit}
use Rattle.grammar.specs.Lists.{all}
use Rattle.grammar.specs.Tree.{Sheet, body_depth}
use Rattle.grammar.specs.Words.{words}
use Rattle.grammar.specs.Stands.{Stands}
use Rattle.grammar.specs.Encode.{encode_rules}
use Rattle.grammar.specs.Valid.{ok_rule, ok_block, ok_rules_in}
use Rattle.grammar.specs.Laws.Stands.{stands_split, stands_length, stands_within}
use Rattle.grammar.specs.Laws.Trailer.{trailing, encode_split, trailing_in}
use Rattle.listed.specs.Text.{line}
use Rattle.listed.specs.Listed.{ok_word, refused_word, listed_refusal, listed_rules}
use Rattle.listed.specs.Put.{PutFew, Filled}
use Rattle.listed.specs.Ready.{Ruled, Held, Recorded, RulesEnd, RulesPut, EntriesPut, JoinedPut, most_text}
use Rattle.listed.proofs.Laws.Put.{put_then, put_filled}

-- The parts of a sheet of n words: where its rules end, and the number of preserved ids in its trailer.
record Parts (ws : List ℕ) (n : ℕ) (s : Sheet) : Type 0 where
  rules : Stands ws n (encode_rules s.rules) 0 (length (encode_rules s.rules))
  long : n ≡ length (encode_rules s.rules) + length s.preserved + trailer_words
  counted : get_or ws (n - trailer_words + 2) 0 ≡ length s.preserved

parts : {result : List ℕ} {n : ℕ} (h : Held result n) → Parts (words result) n h.sheet
unfolding trailing_in
parts {result} {n} h =
    let s = h.sheet in
    let (p, a, b) = stands_split (encode_rules s.rules) (s.preserved ++ trailing s) (rw (encode_split newest s) at h.stands) in
    let (q, c, d) = stands_split s.preserved (trailing s) b in
    let k = stands_length a in
    let l = stands_length c in
    let m = stands_length d in
    let e : p ≡ length (encode_rules s.rules) = omega arith in
    let o : n - trailer_words ≡ q = omega arith in
    record {
      rules = rw e at a;
      long = omega arith;
      counted = rw o d.run.1.1.0;
    }

module _ {result : List ℕ} {n : ℕ} (h : Held result n) where
  pub held_trailer : trailer_words ≤ n
  held_trailer = let p = (parts h).long in omega arith

  pub held_preserved : get_or (words result) (n - trailer_words + 2) 0 ≤ n - trailer_words
  held_preserved = let p = parts h in let c = p.counted in let l = p.long in omega arith

  pub rules_end : {end : ℕ} → end + get_or (words result) (n - trailer_words + 2) 0 ≡ n - trailer_words → RulesEnd result n end
  rules_end e =
      record {
        is = λ o. let p = parts o in let c = p.counted in let l = p.long in omega arith;
        low = let t = held_trailer in let v = held_preserved in omega arith;
      }

  module _ {end : ℕ} (o : RulesEnd result n end) where
    end_is : end ≡ length (encode_rules h.sheet.rules)
    end_is = let p = (parts h).long in let q = o.is h in omega arith

    pub held_ruled : Ruled (words result) end
    unfolding ok_rules_in
    held_ruled =
        let e = end_is in
        let s = (parts h).rules in
        let r = h.sheet.rules in
        record {
          rules = r;
          spans = record {
            stands = rw (← e) at (stands_within (length (encode_rules r)) (omega arith) s);
            fine = second_so (leb (length r) rule_limit) (all (ok_rule (ok_block body_depth)) r) h.good;
          };
          few = leb-true (length r) rule_limit (first_so (leb (length r) rule_limit) _ h.good);
        }

-- The lines one behind the other, in the buffer as it is handed back.
pub joined_put : {result trail : List ℕ} {n k end : ℕ} (plans steps : ℕ) {b l m a left : List ℕ} {p q r : ℕ} → Held result n
    → Recorded trail k
    → RulesEnd result n end
    → PutFew b l 0 p (line ok_word (plans ∷ steps ∷ [])) 25
    → RulesPut (words result) end l m p q
    → EntriesPut trail k m a q r
    → left ≡ a
    → JoinedPut result trail n k plans steps b left r
unfolding listed_rules held_ruled
joined_put plans steps h w o x y z e =
    rw e
    record {
      text = λ v u.
          put_filled (put_then x.put (put_then (y.put (held_ruled v o)) (z.put u)))
          (let g = z.few in let f = y.few in let l = o.low in let m = h.most in let t = w.few in omega arith);
    }

pub refused_put : {b a left : List ℕ} {r : ℕ} (n : ℕ) → PutFew b a 0 r (line refused_word (n ∷ [])) 19 → left ≡ a
    → Filled b left r (listed_refusal n) most_text
unfolding listed_refusal
refused_put n p e = rw e (put_filled p.put (let f = p.few in omega arith))

pub ruleset listings = (held_trailer, held_ruled)
