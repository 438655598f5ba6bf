-- A valid tree whose copied numbers are words, with counters that are words, and not too long, fits a sheet.
use Rattle.std.specs.Prelude.{ℕ, zero, suc, ◌≤◌, ◌<◌, ◌≡◌, refl, Bool, ◌&&◌, leb, eqb}
use Rattle.std.proofs.Math.Logic.{⊎_elim}
use mathlib.Core.List.Memᴰ
use mathlib.Core.List.{List, ◌∷◌, ◌++◌, Memᴰ}
use Rattle.std.proofs.Math.Bool.{true}
use native.Mathlib.Omega.{arith}
use Rattle.std.proofs.Math.ListN.{length, length-append}
use Rattle.std.proofs.Math.Dec.{ltb}
use Rattle.std.proofs.lemmas.Bool.{and_from}
use Rattle.std.specs.Cmp.{first_so, second_so}
use borrow.Author.Tests.{leb-true, ltb-true, le-leb, lt-ltb}
use Rattle.grammar.specs.Tree.{Leaf, epsilon, action, predicate, call, token, terminal, end_of_input, Element, leaf, block, AlternativeOf}
use Rattle.grammar.specs.Tree.{Block, Rule, Counters, Sheet, body_depth}
use Rattle.grammar.specs.Encode.{encode_option, encode_head, leaf_kind, encode_leaf, encode_element, encode_alternative, encode_rule}
use Rattle.grammar.specs.Encode.{encode_alternative_in, encode_block_in, encode_element_in, encode_in}
use Rattle.grammar.specs.Encode.{encode_block}
use Rattle.grammar.specs.Encode.{encode_rules, encode_counters, encode}
use Rattle.grammar.specs.Lists.{each, only, below, all}
use Rattle.grammar.specs.Read.{is_name}
use Rattle.grammar.specs.Ids.{head_ids, leaf_ids, element_ids, alternative_ids, block_ids, body_ids, is_below}
use Rattle.grammar.specs.Valid.{ok_option, ok_head, ok_element, ok_alternative, ok_rule, ok_block, fits, fits_in, ok_alternative_in}
use Rattle.grammar.specs.Valid.{ok_block_in, ok_element_in}
use Rattle.grammar.specs.Laws.Whole.{Parts}
use Rattle.grammar.specs.Numbers.{most_words, most_name, kind_end, word_end, lexer, combined, most_rule_flags, most_alternative_flag}
use Rattle.grammar.specs.Numbers.{alternative_sort}
use Rattle.reference.specs.Run.{are_words}
use Rattle.laws.specs.Lists.Lookup.{all_in}
use Rattle.graph.specs.Members.{in_each, each_in}
use Rattle.laws.specs.Lists.Every.{in_all}
use Rattle.laws.specs.Lists.Count.{below_in}
use Rattle.laws.specs.Demands.Applied.{Sort, of_alternative, of_element, of_label, of_action, of_predicate, number, counter_at}
use Rattle.laws.specs.Provenance.Trail.{Below}
use Rattle.laws.specs.Validity.Wordy.{option_words, head_words, leaf_words, element_words, alternative_words, block_words, block_in, Told}
use Rattle.laws.specs.Validity.Wordy.{small, copied, is_id, told_in, name_small, each_count, each_part, option_told, leaf_told}
use Rattle.laws.specs.Validity.Wordy.{head_told}

kind_small : (l : Leaf) → leaf_kind l < kind_end
unfolding leaf_kind
kind_small epsilon = omega arith
kind_small (action a) = omega arith
kind_small (predicate p) = omega arith
kind_small (call c) = omega arith
kind_small (token n) = omega arith
kind_small terminal = omega arith
kind_small end_of_input = omega arith

module _ {B : Type 0} (of_block enc : B → List ℕ) (ids : ℕ → B → List ℕ) (ok : B → Bool)
    (inside : (b : B) → ok b ≡ true → length (enc b) ≤ most_name → (w : ℕ) → Memᴰ w (enc b) → Told (of_block b) (λ k. ids k b) w) where
  element_told : (e : Element B) → ok_element ok e ≡ true → length (encode_element enc e) ≤ most_name → {w : ℕ}
      → Memᴰ w (encode_element enc e)
      → Told (element_words of_block e) (λ k. element_ids k (ids k) e) w
  unfolding ok_element_in encode_element_in element_words element_ids
  element_told (leaf x l) t h m =
      let n = length-append (encode_head x (leaf_kind l)) (encode_leaf l) in
      ⊎_elim
      (λ i. told_in (Memᴰ.append_left (leaf_words l)) (λ s. Memᴰ.append_left (leaf_ids (number s) l))
      (head_told x (leaf_kind l) (kind_small l) (first_so (ok_head x) _ t) (omega arith) i))
      (λ i. told_in (Memᴰ.append_right (head_words x)) (λ s. Memᴰ.append_right (head_ids (number s) x))
      (leaf_told l (second_so (ok_head x) _ t) (omega arith) i))
      (Memᴰ.append_cases (encode_head x (leaf_kind l)) m)
  element_told (block x b) t h {w} m =
      let n = length-append (encode_head x 6) (enc b) in
      ⊎_elim
      (λ i. told_in (Memᴰ.append_left (of_block b)) (λ s. Memᴰ.append_left (ids (number s) b))
      (head_told x 6 (omega arith) (first_so (ok_head x) _ t) (omega arith) i))
      (λ i. told_in (Memᴰ.append_right (head_words x)) (λ s. Memᴰ.append_right (head_ids (number s) x))
      (inside b (second_so (ok_head x) _ t) (omega arith) w i))
      (Memᴰ.append_cases (encode_head x 6) m)

  long : (e : Element B) → 1 ≤ length (encode_element enc e)
  unfolding encode_element_in encode_head
  long (leaf x l) = omega arith
  long (block x b) = omega arith

  alternative_told : (a : AlternativeOf B) → ok_alternative ok a ≡ true → length (encode_alternative enc a) ≤ most_name → {w : ℕ}
      → Memᴰ w (encode_alternative enc a)
      → Told (alternative_words of_block a) (λ k. alternative_ids k (ids k) a) w
  unfolding ok_alternative_in encode_alternative_in alternative_words alternative_ids
  alternative_told a t h {w} m =
      let f = leb-true a.flag most_alternative_flag (first_so (leb a.flag most_alternative_flag) _ t) in
      let u = second_so (leb a.flag most_alternative_flag) _ t in
      let n = length-append (each encode_option a.options) (each (encode_element enc) a.elements) in
      let p = each_count encode_option (λ o. omega arith) a.options in
      let q = each_count (encode_element enc) long a.elements in
      go f (first_so (all ok_option a.options) _ u) (second_so (all ok_option a.options) _ u) (omega arith) (omega arith)
      (omega arith) m
    where
      go : a.flag ≤ most_alternative_flag → all ok_option a.options ≡ true → all (ok_element ok) a.elements ≡ true
          → length a.options ≤ most_name → length a.elements ≤ most_name
          → length (each (encode_element enc) a.elements) ≤ most_name
          → Memᴰ w (a.id ∷ a.carried ∷ a.flag ∷ length a.options ∷ length a.elements ∷ each encode_option a.options
          ++ each (encode_element enc) a.elements)
          → Told (alternative_words of_block a) (λ k. alternative_ids k (ids k) a) w
      go f o e i j l (Memᴰ.head d) = is_id of_alternative (Memᴰ.head d)
      go f o e i j l (Memᴰ.tail (Memᴰ.head d)) = copied (Memᴰ.head d)
      go f o e i j l (Memᴰ.tail (Memᴰ.tail (Memᴰ.head d))) = small (omega arith)
      go f o e i j l (Memᴰ.tail (Memᴰ.tail (Memᴰ.tail (Memᴰ.head d)))) = small (omega arith)
      go f o e i j l (Memᴰ.tail (Memᴰ.tail (Memᴰ.tail (Memᴰ.tail (Memᴰ.head d))))) = small (omega arith)
      go f o e i j l (Memᴰ.tail (Memᴰ.tail (Memᴰ.tail (Memᴰ.tail (Memᴰ.tail m))))) =
          ⊎_elim
          (λ n. told_in (λ k. Memᴰ.tail (Memᴰ.append_left (each (element_words of_block) a.elements) k)) (λ s k. k)
          (option_told a.options o {is = λ k. alternative_ids k (ids k) a} n))
          (λ n.
          let (x, k, y) = each_in (encode_element enc) a.elements n in
          let z = each_part (encode_element enc) k in
          told_in (λ v. Memᴰ.tail (Memᴰ.append_right (option_words a.options) (in_each (element_words of_block) k v)))
          (λ s v. Memᴰ.append_right (only (eqb (number s) alternative_sort) a.id) (in_each (element_ids (number s) (ids (number s))) k v))
          (element_told x (all_in (ok_element ok) e k) (omega arith) y))
          (Memᴰ.append_cases (each encode_option a.options) m)

  long_alternative : (a : AlternativeOf B) → 1 ≤ length (encode_alternative enc a)
  unfolding encode_alternative_in
  long_alternative a = omega arith

block_told : (d : ℕ) (b : Block d) → ok_block d b ≡ true → length (encode_block d b) ≤ most_name → (w : ℕ) → Memᴰ w (encode_block d b)
    → Told (block_words d b) (λ k. block_ids k d b) w
unfolding ok_block_in encode_block_in block_words block_ids
block_told zero b t h w m = absurd b
block_told (suc d) as' t h w (Memᴰ.head e) =
    let p =
    each_count (encode_alternative (encode_block d))
    (long_alternative (block_words d) (encode_block d) (λ k. block_ids k d) (ok_block d) (block_told d)) as' in
    small (omega arith)
block_told (suc d) as' t h w (Memᴰ.tail m) =
    let (a, k, y) = each_in (encode_alternative (encode_block d)) as' m in
    let z = each_part (encode_alternative (encode_block d)) k in
    told_in (in_each (alternative_words (block_words d)) k) (λ s. in_each (alternative_ids (number s) (block_ids (number s) d)) k)
    (alternative_told (block_words d) (encode_block d) (λ k. block_ids k d) (ok_block d) (block_told d) a
    (all_in (ok_alternative (ok_block d)) t k) (omega arith) y)

-- The copied numbers of a sheet are words.
pub record Carries (s : Sheet) : Type 0 where
  pub rule : (r : Rule) → Memᴰ r s.rules → r.id < word_end
  pub inside : (r : Rule) → Memᴰ r s.rules → (w : ℕ) → Memᴰ w (block_words body_depth r.body) → w < word_end
  pub preserved : (w : ℕ) → Memᴰ w s.preserved → w < word_end

pub fits_carries : (s : Sheet) → fits s ≡ true → Carries s
unfolding fits_in encode_in encode_rule
fits_carries s t =
    let u = second_so (leb (length (encode s)) most_words) _ t in
    record {
      rule = λ r m. go u (Memᴰ.append_left s.preserved (in_each (encode_rule (encode_block body_depth)) m (Memᴰ.head refl)));
      inside =
          λ r m w k. go u (Memᴰ.append_left s.preserved
          (in_each (encode_rule (encode_block body_depth)) m
          (Memᴰ.tail (Memᴰ.tail (Memᴰ.tail (block_in body_depth r.body w k))))));
      preserved = λ w m. go u (Memᴰ.append_right (encode_rules s.rules) m);
    }
  where
    go : all (λ w. ltb w word_end) (encode s) ≡ true → {w : ℕ} → Memᴰ w (encode_rules s.rules ++ s.preserved) → w < word_end
    go u {w} m = ltb-true w word_end (all_in (λ w. ltb w word_end) u (Memᴰ.append_left _ m))

-- The ids of a sheet are below its counters.
pub ids_under : (c : Counters) (rs : List Rule) → is_below c rs ≡ true → (s : Sort) → below (counter_at s c) (body_ids (number s) rs) ≡ true
unfolding is_below
ids_under c rs t = go
  where
    t₃ : (below c.element (body_ids 3 rs) &&
        (below c.label (body_ids 4 rs) && (below c.action (body_ids 5 rs) && below c.predicate (body_ids 6 rs)))) ≡ true
    t₃ = second_so (below c.alternative (body_ids 2 rs)) _ t

    t₄ : (below c.label (body_ids 4 rs) && (below c.action (body_ids 5 rs) && below c.predicate (body_ids 6 rs))) ≡ true
    t₄ = second_so (below c.element (body_ids 3 rs)) _ t₃

    t₅ : (below c.action (body_ids 5 rs) && below c.predicate (body_ids 6 rs)) ≡ true
    t₅ = second_so (below c.label (body_ids 4 rs)) _ t₄

    go : (s : Sort) → below (counter_at s c) (body_ids (number s) rs) ≡ true
    go of_alternative = first_so (below c.alternative (body_ids 2 rs)) _ t
    go of_element = first_so (below c.element (body_ids 3 rs)) _ t₃
    go of_label = first_so (below c.label (body_ids 4 rs)) _ t₄
    go of_action = first_so (below c.action (body_ids 5 rs)) _ t₅
    go of_predicate = second_so (below c.action (body_ids 5 rs)) _ t₅

pub below_of : (c : Counters) (rs : List Rule) → is_below c rs ≡ true → Below c body_ids rs
below_of c rs t s i m = below_in (counter_at s c) (body_ids (number s) rs) (ids_under c rs t s) i m

-- Each counter among the words that hold them.
pub counter_in : (c : Counters) (s : Sort) → Memᴰ (counter_at s c) (encode_counters c)
counter_in c of_alternative = Memᴰ.head refl
counter_in c of_element = Memᴰ.tail (Memᴰ.head refl)
counter_in c of_label = Memᴰ.tail (Memᴰ.tail (Memᴰ.head refl))
counter_in c of_action = Memᴰ.tail (Memᴰ.tail (Memᴰ.tail (Memᴰ.head refl)))
counter_in c of_predicate = Memᴰ.tail (Memᴰ.tail (Memᴰ.tail (Memᴰ.tail (Memᴰ.head refl))))

counters_words : (c : Counters) → are_words c ≡ true → (s : Sort) → counter_at s c < word_end
unfolding are_words
counters_words c t s = ltb-true (counter_at s c) word_end (all_in (λ n. ltb n word_end) t (counter_in c s))

module _ (s : Sheet) (v : Parts s) (c : Carries s) (a : are_words s.counters ≡ true) (l : length (encode s) ≤ most_words) where
  rule_word : (r : Rule) → Memᴰ r s.rules → length (encode_rule (encode_block body_depth) r) ≤ most_name → {w : ℕ}
      → Memᴰ w (encode_rule (encode_block body_depth) r) → w < word_end
  unfolding encode_rule ok_rule
  rule_word r m h {w} k = go (all_in (ok_rule (ok_block body_depth)) v.rules m) k
    where
      told : Told (block_words body_depth r.body) (λ k. block_ids k body_depth r.body) w → w < word_end
      told (small x) = omega arith
      told (copied x) = c.inside r m w x
      told (is_id t x) =
          let y = below_of s.counters s.rules v.below t w (in_each (λ r. block_ids (number t) body_depth r.body) m x) in
          let z = counters_words s.counters a t in
          omega arith

      go : (is_name r.name && (leb r.flags most_rule_flags && ok_block body_depth r.body)) ≡ true
          → Memᴰ w (r.id ∷ r.name ∷ r.flags ∷ encode_block body_depth r.body) → w < word_end
      go t (Memᴰ.head e) = let x = c.rule r m in omega arith
      go t (Memᴰ.tail (Memᴰ.head e)) = let x = name_small r.name (first_so (is_name r.name) _ t) in omega arith
      go t (Memᴰ.tail (Memᴰ.tail (Memᴰ.head e))) =
          let x =
          leb-true r.flags most_rule_flags (first_so (leb r.flags most_rule_flags) _ (second_so (is_name r.name) _ t)) in omega
          arith
      go t (Memᴰ.tail (Memᴰ.tail (Memᴰ.tail n))) =
          told (block_told body_depth r.body (second_so (leb r.flags most_rule_flags) _ (second_so (is_name r.name) _ t))
          (omega arith) w n)

  trailer_word : {w : ℕ} → length (encode_rules s.rules ++ s.preserved) ≤ most_words → length s.preserved ≤ most_words
      → Memᴰ w (s.kind ∷ length (encode_rules s.rules ++ s.preserved) ∷ length s.preserved ∷ encode_counters s.counters)
      → w < word_end
  trailer_word p q (Memᴰ.head e) = let x = leb-true s.kind combined (second_so (leb lexer s.kind) _ v.kind) in omega arith
  trailer_word p q (Memᴰ.tail (Memᴰ.head e)) = omega arith
  trailer_word p q (Memᴰ.tail (Memᴰ.tail (Memᴰ.head e))) = omega arith
  trailer_word p q (Memᴰ.tail (Memᴰ.tail (Memᴰ.tail (Memᴰ.head e)))) =
      let x = counters_words s.counters a of_alternative in omega arith
  trailer_word p q (Memᴰ.tail (Memᴰ.tail (Memᴰ.tail (Memᴰ.tail (Memᴰ.head e))))) = let x = counters_words
      s.counters a of_element in omega arith
  trailer_word p q (Memᴰ.tail (Memᴰ.tail (Memᴰ.tail (Memᴰ.tail (Memᴰ.tail (Memᴰ.head e)))))) = let x =
      counters_words s.counters a of_label in omega arith
  trailer_word p q (Memᴰ.tail
      (Memᴰ.tail (Memᴰ.tail (Memᴰ.tail (Memᴰ.tail (Memᴰ.tail (Memᴰ.head e))))))) = let x = counters_words
      s.counters a of_action in omega arith
  trailer_word p q (Memᴰ.tail
      (Memᴰ.tail (Memᴰ.tail (Memᴰ.tail (Memᴰ.tail (Memᴰ.tail (Memᴰ.tail m))))))) =
      let e = Memᴰ.eq_of_singleton m in let x = counters_words s.counters a of_predicate in omega arith

  pub carries_fits : fits s ≡ true
  unfolding fits_in encode_in
  carries_fits =
      let body = encode_rules s.rules ++ s.preserved in
      let n = length-append body (s.kind ∷ length body ∷ length s.preserved ∷ encode_counters s.counters) in
      let p = length-append (encode_rules s.rules) s.preserved in
      and_from _ _ (le-leb (length (encode s)) most_words l)
      (in_all (λ w. ltb w word_end) (encode s) λ w m.
      lt-ltb w word_end
      (⊎_elim
      (λ k.
      ⊎_elim
      (λ i. let (r, j, y) = each_in (encode_rule (encode_block body_depth)) s.rules i in
      let z = each_part (encode_rule (encode_block body_depth)) j in
      rule_word r j (omega arith) y)
      (c.preserved w)
      (Memᴰ.append_cases (encode_rules s.rules) k))
      (trailer_word (omega arith) (omega arith))
      (Memᴰ.append_cases body m)))
