-- What stands in a buffer that holds a sheet: its rules, its preserved ids, its kind.
use Rattle.std.specs.Prelude.{ℕ, ◌+◌, ◌-◌, ◌≤◌, ◌≡◌, List, ◌++◌, true, length, get_or}
use Rattle.std.proofs.Math.Path.{refl, sym}
use Rattle.std.proofs.Common.{ap, ◌∙◌, subst, arith, length-append}
use Rattle.std.specs.Cmp.{first_so, second_so}
use borrow.Author.Tests.{leb-true}
use Rattle.grammar.specs.Form.{newest}
use Rattle.grammar.specs.Numbers.{trailer_words, most_words, rule_limit}
use Rattle.grammar.specs.Tree.{Sheet}
use Rattle.grammar.specs.Words.{words}
use Rattle.grammar.specs.Lists.{rising, distinct}
use Rattle.grammar.specs.Ids.{rule_ids, rule_names, is_distinct}
use Rattle.grammar.specs.Stands.{Stands}
use Rattle.grammar.specs.Encode.{encode, encode_rules}
use Rattle.grammar.specs.Valid.{valid}
use Rattle.grammar.specs.Laws.Words.{length_words}
use Rattle.grammar.specs.Laws.Stands.{stands_split, stands_length, stands_within, stands_slice, stands_head}
use Rattle.grammar.specs.Laws.Whole.{valid_parts}
use Rattle.grammar.specs.Laws.Trailer.{trailing, encode_split, trailing_in}
use Rattle.words.specs.Room.{Room}
use Rattle.records.specs.declared.rules.Rules.{Rules}
use Rattle.records.specs.Rules.{RowsOf}
use Rattle.analysis.specs.Facts.{Standing}
use Rattle.hub.specs.Preserved.{between}
use Rattle.plan.specs.Ground.{KeptAt}
use Rattle.apply.specs.Held.{Held}

-- How many words there are behind the preserved ids.
trailing_long : (s : Sheet) → length (trailing s) ≡ trailer_words
unfolding trailing_in
trailing_long s = refl

-- How many words a sheet has.
pub encode_long : (s : Sheet) → length (encode s) ≡ length (encode_rules s.rules) + length s.preserved + trailer_words
encode_long s =
    let e = ap length (encode_split newest s) in
    let a = length-append (encode_rules s.rules) (s.preserved ++ trailing s) in
    let b = length-append s.preserved (trailing s) in
    let c = trailing_long s in
    omega arith

-- Two lists that stand one after the other, cut at a place that is known.
cut : {ws : List ℕ} {end at q : ℕ} (xs ys : List ℕ) (p : ℕ) → p ≡ at + length xs → Stands ws end (xs ++ ys) at q
    → Stands ws end xs at p × Stands ws end ys p q
cut {ws} {end} {at} {q} xs ys p e s =
    let (m, a, b) = stands_split xs ys s in
    let l = stands_length a in
    let x : m ≡ p = omega arith in
    (subst (λ k. Stands ws end xs at k) x a, subst (λ k. Stands ws end ys k q) x b)

module _ {bs : List ℕ} {t : Sheet} {end to : ℕ} (h : Held bs t end to) where
  pub held_long : to + trailer_words ≡ length (encode t)
  held_long = let e = encode_long t in let a = h.ends in let b = h.up_to in omega arith

  pub held_room : to + trailer_words ≤ most_words → Room bs end
  held_room s =
      let a = h.room in
      let b = h.up_to in
      record { trailer = omega arith; low = omega arith }

  -- The three parts of it.
  pub record Parts : Type 0 where
    pub rules : Stands (words bs) (to + trailer_words) (encode_rules t.rules) 0 end
    pub preserved : Stands (words bs) (to + trailer_words) t.preserved end to
    pub trailer : Stands (words bs) (to + trailer_words) (trailing t) to (to + trailer_words)

  pub held_parts : Parts
  held_parts =
      let s = subst (λ x. Stands (words bs) (to + trailer_words) x 0 (to + trailer_words)) (encode_split newest t) h.stands in
      let (a, b) = cut (encode_rules t.rules) (t.preserved ++ trailing t) end (let e = h.ends in omega arith) s in
      let (c, d) = cut t.preserved (trailing t) to h.up_to b in
      record { rules = a; preserved = c; trailer = d }

  abbrev ws : List ℕ
  ws = words bs

  pub within : to + trailer_words ≤ length ws
  within = let l = length_words bs in let r = h.room in omega arith

  pub held_preserved : between ws end to ≡ t.preserved
  held_preserved =
      let u = h.up_to in
      let n : to - end ≡ length t.preserved = omega arith in
      rw n (stands_slice (let w = within in omega arith) held_parts.preserved)

  pub held_kind : get_or ws to 0 ≡ t.kind
  unfolding trailing_in
  held_kind = stands_head held_parts.trailer

  module _ (v : valid t ≡ true) where
    pub held_kept : KeptAt bs end to
    held_kept =
        let u = h.up_to in
        let r = h.room in
        record { order = omega arith; inside = omega arith; rises = ap rising held_preserved ∙ (valid_parts newest t v).preserved }

    -- Its rules stand there, as its arrays have them.
    unfoldable pub held_standing : {rules : Rules} → RowsOf t.rules rules → Standing ws end rules
    unfolding is_distinct
    held_standing {rules} r =
        let p = valid_parts newest t v in
        let d = p.distinct in
        record {
          rows =
              record {
                found =
                    record {
                      trees = t.rules;
                      next = end;
                      spans = record { stands = stands_within end (omega arith) held_parts.rules; fine = p.rules };
                      count = sym r.count;
                    };
                ends = refl;
                rows = r;
                few = let e = r.count in let l = leb-true (length t.rules) rule_limit p.few in omega arith;
              };
          ids = first_so (distinct (rule_ids t.rules)) _ d;
          names = first_so (distinct (rule_names t.rules)) _ (second_so (distinct (rule_ids t.rules)) _ d);
        }

    pub standing_trees : {rules : Rules} (r : RowsOf t.rules rules) → (held_standing r).rows.found.trees ≡ t.rules
    unfolding held_standing
    standing_trees r = refl
