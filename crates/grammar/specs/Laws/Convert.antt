-- A tree of any form in the newest one: it is good there too, is judged as before, and has at most an eighth more words.
use Rattle.std.specs.Prelude.{ℕ, zero, suc, ◌*◌, ◌≤◌, ◌≡◌, refl, List, [], ◌∷◌, ◌++◌, Bool, true, false, ◌&&◌, length, leb}
use Rattle.std.proofs.Common.{ap, arith, length-append}
use Rattle.std.proofs.lemmas.Bool.{and_from}
use Rattle.std.specs.Cmp.{first_so, second_so}
use Rattle.grammar.specs.Numbers.{trailer_words, most_rule_flags, most_alternative_flag, block_kind, shared_number, id_past_counter}
use Rattle.grammar.specs.Tree.{Leaf, epsilon, action, predicate, call, token, terminal, end_of_input, Element, leaf, block}
use Rattle.grammar.specs.Tree.{ElementHead, AlternativeOf, Block, RuleOf, Rule, Sheet, body_depth}
use Rattle.grammar.specs.Form.{Form, newest}
use Rattle.grammar.specs.Parse.{got}
use Rattle.grammar.specs.Lists.{each, all, only, rising}
use Rattle.grammar.specs.Ids.{is_distinct, is_below}
use Rattle.grammar.specs.Encode.{encode_option, encode_head, leaf_kind, encode_leaf_in, encode_element_in, encode_alternative_in}
use Rattle.grammar.specs.Encode.{encode_rule, encode_block_in, encode_rules_in, encode_in, encode}
use Rattle.grammar.specs.Read.{is_name}
use Rattle.grammar.specs.Valid.{rule_limit, is_kind, has_place, ok_head, ok_option, ok_leaf_in, ok_element_in, ok_alternative_in, ok_rule}
use Rattle.grammar.specs.Valid.{ok_block_in, ok_rules_in, valid_in, valid}
use Rattle.grammar.specs.Reading.{sheet, refused, is_trailer, rules_end, rules_of_in, sheet_of, judge, read_words_in, read_words}
use Rattle.grammar.specs.Laws.Whole.{RecordsIn, Records, stands_encoded, encoded_stands}

-- What is good in a form is good in the newest, which has a place for everything.
module _ (f : Form) where
  pub leaf_newest : (l : Leaf) → ok_leaf_in f l ≡ true → ok_leaf_in newest l ≡ true
  unfolding ok_leaf_in
  leaf_newest epsilon t = refl
  leaf_newest (action a) t = t
  leaf_newest (predicate p) t = t
  leaf_newest (call c) t = second_so (has_place f c) (is_name c.name) t
  leaf_newest (token n) t = t
  leaf_newest terminal t = refl
  leaf_newest end_of_input t = refl

pub all_more : {A : Type 0} (p q : A → Bool) → ((a : A) → p a ≡ true → q a ≡ true) → (as' : List A) → all p as' ≡ true
    → all q as' ≡ true
unfolding all
all_more p q more [] t = refl
all_more p q more (a ∷ as') t =
    and_from (q a) (all q as') (more a (first_so (p a) (all p as') t)) (all_more p q more as' (second_so (p a) (all p as') t))

module _ (f : Form) {B : Type 0} (ok ok' : B → Bool) (more : (b : B) → ok b ≡ true → ok' b ≡ true) where
  pub element_newest : (e : Element B) → ok_element_in f ok e ≡ true → ok_element_in newest ok' e ≡ true
  unfolding ok_element_in
  element_newest (leaf h l) t =
      and_from (ok_head h) (ok_leaf_in newest l) (first_so (ok_head h) (ok_leaf_in f l) t)
      (leaf_newest f l (second_so (ok_head h) (ok_leaf_in f l) t))
  element_newest (block h b) t =
      and_from (ok_head h) (ok' b) (first_so (ok_head h) (ok b) t) (more b (second_so (ok_head h) (ok b) t))

  pub alternative_newest : (a : AlternativeOf B) → ok_alternative_in f ok a ≡ true → ok_alternative_in newest ok' a ≡ true
  unfolding ok_alternative_in
  alternative_newest a t =
      let u = second_so (leb a.flag most_alternative_flag) (all ok_option a.options && all (ok_element_in f ok) a.elements) t in
      and_from (leb a.flag most_alternative_flag) _ (first_so (leb a.flag most_alternative_flag) _ t)
      (and_from (all ok_option a.options) _ (first_so (all ok_option a.options) _ u)
      (all_more (ok_element_in f ok) (ok_element_in newest ok') element_newest a.elements (second_so (all ok_option a.options) _ u)))

  pub rule_newest : (r : RuleOf B) → ok_rule ok r ≡ true → ok_rule ok' r ≡ true
  unfolding ok_rule
  rule_newest r t =
      let u = second_so (is_name r.name) (leb r.flags most_rule_flags && ok r.body) t in
      and_from (is_name r.name) _ (first_so (is_name r.name) _ t)
      (and_from (leb r.flags most_rule_flags) _ (first_so (leb r.flags most_rule_flags) _ u)
      (more r.body (second_so (leb r.flags most_rule_flags) _ u)))

pub block_newest : (f : Form) (d : ℕ) (b : Block d) → ok_block_in f d b ≡ true → ok_block_in newest d b ≡ true
unfolding ok_block_in
block_newest f zero b t = absurd b
block_newest f (suc d) b t =
    all_more (ok_alternative_in f (ok_block_in f d)) (ok_alternative_in newest (ok_block_in newest d))
    (alternative_newest f (ok_block_in f d) (ok_block_in newest d) (block_newest f d)) b t

module _ (f : Form) where
  all_rules_newest : (rs : List Rule) → all (ok_rule (ok_block_in f body_depth)) rs ≡ true
      → all (ok_rule (ok_block_in newest body_depth)) rs ≡ true
  all_rules_newest rs t =
      all_more (ok_rule (ok_block_in f body_depth)) (ok_rule (ok_block_in newest body_depth))
      (rule_newest f (ok_block_in f body_depth) (ok_block_in newest body_depth) (block_newest f body_depth)) rs t

  pub rules_newest : (rs : List Rule) → ok_rules_in f rs ≡ true → ok_rules_in newest rs ≡ true
  unfolding ok_rules_in
  rules_newest rs t =
      let few = leb (length rs) rule_limit in
      and_from few _ (first_so few _ t) (all_rules_newest rs (second_so few _ t))

  pub valid_newest : (s : Sheet) → valid_in f s ≡ true → valid s ≡ true
  unfolding valid_in
  valid_newest s t =
      let u = second_so (is_kind s.kind) _ t in
      let v = first_so (ok_rules_in f s.rules && rising s.preserved) _ u in
      and_from (is_kind s.kind) _ (first_so (is_kind s.kind) _ t)
      (and_from (ok_rules_in newest s.rules && rising s.preserved) _
      (and_from (ok_rules_in newest s.rules) _ (rules_newest s.rules (first_so (ok_rules_in f s.rules) _ v))
      (second_so (ok_rules_in f s.rules) _ v))
      (second_so (ok_rules_in f s.rules && rising s.preserved) _ u))

  pub records_newest : (s : Sheet) → RecordsIn f s → Records s
  records_newest s v = record { kind = v.kind; few = v.few; rules = all_rules_newest s.rules v.rules; preserved = v.preserved }

-- A judgement looks at the rules and at what else the sheet has, and not at where it stands.
judge_same : (ws vs : List ℕ) (rs : List Rule) (q p : ℕ) → sheet_of ws rs ≡ sheet_of vs rs → judge ws (got rs q) ≡ judge vs (got rs p)
unfolding judge sheet_of
judge_same ws vs rs q p e =
    ap (λ (s : Sheet). elim (is_distinct rs) [
      | false ↦ refused shared_number
      | true ↦ elim (is_below s.counters rs) [ false ↦ refused id_past_counter | true ↦ sheet s ]
    ]) e

-- The newest words of what passes 3 and 4 in a form are judged as it is.
pub widened : (f : Form) (ws : List ℕ) → trailer_words ≤ length ws → is_trailer ws ≡ true → (rs : List Rule) (q : ℕ)
    → rules_of_in f ws ≡ got rs q
    → read_words (encode (sheet_of ws rs)) ≡ judge ws (got rs q)
unfolding read_words_in sheet_of
widened f ws h t rs q e =
    let s = sheet_of ws rs in
    let v = records_newest f s (stands_encoded f ws h t rs q e).1 in
    let (a, b, c) = encoded_stands newest s v in
    rw (a, read_words_in) (rw b (judge_same (encode s) ws rs (rules_end (encode s)) q c))

-- So many words has the newest form of something at most, an eighth more.
abbrev pub Eighth : (more less : List ℕ) → Type 0
Eighth more less = 8 * length more ≤ 9 * length less

eighth_append : (xs ys xs' ys' : List ℕ) → Eighth xs xs' → Eighth ys ys' → Eighth (xs ++ ys) (xs' ++ ys')
eighth_append xs ys xs' ys' h k = rw (length-append xs ys, length-append xs' ys') (omega arith)

eighth_each : {A : Type 0} (enc enc' : A → List ℕ) → ((a : A) → Eighth (enc' a) (enc a)) → (as' : List A)
    → Eighth (each enc' as') (each enc as')
eighth_each enc enc' h [] = omega arith
eighth_each enc enc' h (a ∷ as') = eighth_append (enc' a) (each enc' as') (enc a) (each enc as') (h a) (eighth_each enc enc' h as')

-- A call in the newest form has one word more than in an older one, and its element has eight there at least.
eighth_leaf : (f : Form) (h : ElementHead) (l : Leaf)
    → Eighth (encode_head h (leaf_kind l) ++ encode_leaf_in newest l) (encode_head h (leaf_kind l) ++ encode_leaf_in f l)
unfolding encode_leaf_in encode_head
eighth_leaf f h epsilon = omega arith
eighth_leaf f h (action a) = omega arith
eighth_leaf f h (predicate p) = omega arith
eighth_leaf f h (call c) =
    let head = encode_head h (leaf_kind (call c)) in
    rw (
      length-append head (c.name ∷ c.arguments ∷ only true c.precedence),
      length-append head (c.name ∷ c.arguments ∷ only f.precedences c.precedence),
    ) (omega arith)
eighth_leaf f h (token n) = omega arith
eighth_leaf f h terminal = omega arith
eighth_leaf f h end_of_input = omega arith

module _ (f : Form) {B : Type 0} (enc enc' : B → List ℕ) (more : (b : B) → Eighth (enc' b) (enc b)) where
  pub eighth_element : (e : Element B) → Eighth (encode_element_in newest enc' e) (encode_element_in f enc e)
  unfolding encode_element_in
  eighth_element (leaf h l) = eighth_leaf f h l
  eighth_element (block h b) =
      eighth_append (encode_head h block_kind) (enc' b) (encode_head h block_kind) (enc b) (omega arith) (more b)

  pub eighth_alternative : (a : AlternativeOf B) → Eighth (encode_alternative_in newest enc' a) (encode_alternative_in f enc a)
  unfolding encode_alternative_in
  eighth_alternative a =
      let os = each encode_option a.options in
      let x = eighth_append os (each (encode_element_in newest enc') a.elements) os (each (encode_element_in f enc) a.elements)
      (omega arith) (eighth_each (encode_element_in f enc) (encode_element_in newest enc') eighth_element a.elements) in
      omega arith

  pub eighth_rule : (r : RuleOf B) → Eighth (encode_rule enc' r) (encode_rule enc r)
  unfolding encode_rule
  eighth_rule r = let x = more r.body in omega arith

pub eighth_block : (f : Form) (d : ℕ) (b : Block d) → Eighth (encode_block_in newest d b) (encode_block_in f d b)
unfolding encode_block_in
eighth_block f zero b = absurd b
eighth_block f (suc d) b =
    let x = eighth_each (encode_alternative_in f (encode_block_in f d)) (encode_alternative_in newest (encode_block_in newest d))
    (eighth_alternative f (encode_block_in f d) (encode_block_in newest d) (eighth_block f d)) b in
    omega arith

pub eighth_rules : (f : Form) (rs : List Rule) → Eighth (encode_rules_in newest rs) (encode_rules_in f rs)
eighth_rules f rs =
    eighth_each (encode_rule (encode_block_in f body_depth)) (encode_rule (encode_block_in newest body_depth))
    (eighth_rule f (encode_block_in f body_depth) (encode_block_in newest body_depth) (eighth_block f body_depth)) rs

-- A whole sheet in the newest form.
pub eighth_sheet : (f : Form) (s : Sheet) → Eighth (encode s) (encode_in f s)
unfolding encode_in
eighth_sheet f s =
    let x = eighth_rules f s.rules in
    let a = length-append (encode_rules_in newest s.rules) s.preserved in
    let b = length-append (encode_rules_in f s.rules) s.preserved in
    rw (length-append (encode_rules_in newest s.rules ++ s.preserved), length-append (encode_rules_in f s.rules ++ s.preserved))
    (omega arith)
