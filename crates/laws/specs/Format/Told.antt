-- The two wordings of the format agree.
use Rattle.std.specs.Prelude.{ℕ, zero, suc, ◌+◌, ◌*◌, ◌≤◌, ◌≡◌, refl, ◌↔◌}
use Rattle.std.specs.Prelude.{List, [], ◌∷◌, ◌++◌, map, Bool, true, false, ◌&&◌, ◌||◌, length}
use Rattle.std.specs.Prelude.{leb, eqb}
use Rattle.std.proofs.Common.{sym, ap, ap₂, subst, true≢false, arith, leb-true, le-leb, eqb-true, eq-eqb}
use Rattle.std.proofs.lemmas.Bool.{and_from}
use Rattle.std.specs.Cmp.{first_so, second_so}
use Rattle.grammar.specs.Form.{newest}
use Rattle.grammar.specs.Lists.{each, only, all, AllOf, distinct, below}
use Rattle.grammar.specs.Ids.{block_ids, body_ids, is_distinct, is_below}
use Rattle.grammar.specs.Words.{words}
use Rattle.grammar.specs.Tree.{Reference, Label, unlabelled, labelled, ElementHead, Leaf, epsilon, action, predicate, call, token, terminal}
use Rattle.grammar.specs.Tree.{end_of_input, OptionDecl, Element, leaf, block, AlternativeOf, Block, Rule, Sheet, body_depth, Counters}
use Rattle.grammar.specs.Encode.{encode_head, leaf_kind, encode_leaf, encode_element, encode_alternative, encode_rule, encode_block, encode}
use Rattle.grammar.specs.Encode.{encode_alternative_in, encode_block_in, encode_element_in, encode_in, encode_leaf_in}
use Rattle.grammar.specs.Valid.{has_place, ok_option, ok_reference, ok_label, ok_head, ok_leaf, ok_element, ok_alternative, ok_rule}
use Rattle.grammar.specs.Valid.{ok_block, is_kind, ok_alternative_in, ok_block_in, ok_element_in, ok_leaf_in}
use Rattle.grammar.specs.Valid.{valid}
use Rattle.grammar.specs.Read.{is_name}
use Rattle.grammar.specs.Reading.{sheet, read}
use Rattle.grammar.specs.Laws.Words.{bytes_words}
use Rattle.grammar.specs.Laws.Whole.{valid_parts, parts_valid}
use Rattle.grammar.specs.Laws.Codec.{reads_back_lem, is_encoding, accepted_valid}
use Rattle.laws.specs.Demands.Format.{option_words, head_words, body_words, call_words, leaf_words, element_words, alternative_words}
use Rattle.laws.specs.Demands.Format.{block_words}
use Rattle.laws.specs.Demands.Format.{rule_words, sheet_words, Name, Named, GoodReference, GoodLabel, GoodHead, GoodLeaf, GoodElement}
use Rattle.laws.specs.Demands.Format.{GoodAlternative, GoodBlock, GoodRule, ids_of, GoodSheet, FormatTold}
use Rattle.laws.specs.Demands.Lists.{NoTwo, Low}
use Rattle.laws.specs.Demands.Nodes.{block_nodes}
use Rattle.laws.specs.Lists.Told.{lists_told_lem}
use Rattle.laws.specs.Provenance.Copies.{block_ids_lem}

-- The words.
each_same : {A : Type 0} (f g : A → List ℕ) → ((a : A) → f a ≡ g a) → (as' : List A) → each f as' ≡ each g as'
each_same f g h [] = refl
each_same f g h (a ∷ as') = ap₂ ◌++◌ (h a) (each_same f g h as')

label_words : (h : ElementHead) (kind : ℕ) (l : Label) → h.label ≡ l → encode_head h kind ≡ head_words h kind
unfolding encode_head
label_words h kind unlabelled e = rw e refl
label_words h kind (labelled i n) e = rw e refl

head_words_lem : (h : ElementHead) (kind : ℕ) → encode_head h kind ≡ head_words h kind
head_words_lem h kind = label_words h kind h.label refl

leaf_words_lem : (h : ElementHead) (l : Leaf) → encode_head h (leaf_kind l) ++ encode_leaf l ≡ leaf_words h l
unfolding leaf_kind encode_leaf_in
leaf_words_lem h epsilon = ap (λ ws. ws ++ []) (head_words_lem h 0)
leaf_words_lem h (action a) = ap (λ ws. ws ++ body_words a.id a.references) (head_words_lem h 1)
leaf_words_lem h (predicate p) = ap (λ ws. ws ++ body_words p.id p.references) (head_words_lem h 2)
leaf_words_lem h (call c) = ap (λ ws. ws ++ call_words c) (head_words_lem h 3)
leaf_words_lem h (token n) = ap (λ ws. ws ++ (n ∷ [])) (head_words_lem h 4)
leaf_words_lem h terminal = ap (λ ws. ws ++ []) (head_words_lem h 5)
leaf_words_lem h end_of_input = ap (λ ws. ws ++ []) (head_words_lem h 7)

element_words_lem : {B : Type 0} (f g : B → List ℕ) → ((b : B) → f b ≡ g b) → (e : Element B) → encode_element f e ≡ element_words g e
unfolding encode_element_in
element_words_lem f g s (leaf h l) = leaf_words_lem h l
element_words_lem f g s (block h b) = ap₂ ◌++◌ (head_words_lem h 6) (s b)

alternative_words_lem : {B : Type 0} (f g : B → List ℕ) → ((b : B) → f b ≡ g b) → (a : AlternativeOf B)
    → encode_alternative f a ≡ alternative_words g a
unfolding encode_alternative_in
alternative_words_lem f g s a =
    ap (λ ws.
    a.id ∷ a.carried ∷ a.flag ∷ length a.options ∷ length a.elements ∷ (each option_words a.options ++ ws))
    (each_same (encode_element f) (element_words g) (element_words_lem f g s) a.elements)

block_words_lem : (d : ℕ) (b : Block d) → encode_block d b ≡ block_words d b
unfolding encode_block_in block_words
block_words_lem zero b = absurd b
block_words_lem (suc d) as' =
    ap (λ ws. length as' ∷ ws)
    (each_same (encode_alternative (encode_block d)) (alternative_words (block_words d))
    (alternative_words_lem (encode_block d) (block_words d) (block_words_lem d)) as')

rule_words_lem : (r : Rule) → encode_rule (encode_block body_depth) r ≡ rule_words r
unfolding encode_rule
rule_words_lem r = ap (λ ws. r.id ∷ r.name ∷ r.flags ∷ ws) (block_words_lem body_depth r.body)

sheet_words_lem : (s : Sheet) → encode s ≡ sheet_words s
unfolding encode_in
sheet_words_lem s =
    ap (λ ws.
    (ws ++ s.preserved)
    ++ (s.kind
    ∷ length (ws ++ s.preserved)
    ∷ length s.preserved
    ∷ s.counters.alternative
    ∷ s.counters.element
    ∷ s.counters.label
    ∷ s.counters.action
    ∷ s.counters.predicate
    ∷ [])) (each_same (encode_rule (encode_block body_depth)) rule_words rule_words_lem s.rules)

-- What is good: each test says what it should.
abbrev Says : Bool → Type 0 → Type 0
Says b A = (b ≡ true) ↔ A

both_say : (a b : Bool) {A B : Type 0} → Says a A → Says b B → Says (a && b) (A × B)
both_say a b s t = (λ e. (s.0 (first_so a b e), t.0 (second_so a b e)), λ x. and_from a b (s.1 x.0) (t.1 x.1))

always : Says true (Unit {0})
always = (λ e. tt, λ x. refl)

at_most : (a b : ℕ) → Says (leb a b) (a ≤ b)
at_most a b = (leb-true a b, le-leb a b)

all_say : {A : Type 0} (test : A → Bool) (P : A → Type 0) → ((a : A) → Says (test a) (P a))
    → (as' : List A) → Says (all test as') (AllOf P as')
unfolding all
all_say test P s [] = always
all_say test P s (a ∷ as') = both_say (test a) (all test as') (s a) (all_say test P s as')

name_says : (n : ℕ) → Says (is_name n) (Name n)
name_says n = both_say (leb 1 n) (leb n 4294967295) (at_most 1 n) (at_most n 4294967295)

option_says : (o : OptionDecl) → Says (ok_option o) (Named o)
option_says o = name_says o.name

reference_says : (r : Reference) → Says (ok_reference r) (GoodReference r)
reference_says r = both_say (leb r.kind 2) (is_name r.name) (at_most r.kind 2) (name_says r.name)

label_says : (l : Label) → Says (ok_label l) (GoodLabel l)
unfolding ok_label
label_says unlabelled = always
label_says (labelled i n) = name_says n

head_says : (h : ElementHead) → Says (ok_head h) (GoodHead h)
unfolding ok_head
head_says h =
    both_say (leb h.quantifier 6) _ (at_most h.quantifier 6)
    (both_say (ok_label h.label) (all ok_option h.options) (label_says h.label) (all_say ok_option Named option_says h.options))

-- A number is 0 unless there is a place for it.
place_says : (b : Bool) (n : ℕ) → Says (b || eqb n 0) (b ≡ false → n ≡ 0)
place_says true n = (λ e f. absurd (true≢false f), λ h. refl)
place_says false n = (λ e f. eqb-true n 0 e, λ h. eq-eqb n 0 (h refl))

leaf_says : (l : Leaf) → Says (ok_leaf l) (GoodLeaf l)
unfolding ok_leaf_in
leaf_says epsilon = always
leaf_says (action a) = all_say ok_reference GoodReference reference_says a.references
leaf_says (predicate p) = all_say ok_reference GoodReference reference_says p.references
leaf_says (call c) = both_say (has_place newest c) (is_name c.name) (place_says newest.precedences c.precedence) (name_says c.name)
leaf_says (token n) = name_says n
leaf_says terminal = always
leaf_says end_of_input = always

module _ {B : Type 0} (ok : B → Bool) (Good : B → Type 0) (says : (b : B) → Says (ok b) (Good b)) where
  element_says : (e : Element B) → Says (ok_element ok e) (GoodElement Good e)
  unfolding ok_element_in
  element_says (leaf h l) = both_say (ok_head h) (ok_leaf l) (head_says h) (leaf_says l)
  element_says (block h b) = both_say (ok_head h) (ok b) (head_says h) (says b)

  alternative_says : (a : AlternativeOf B) → Says (ok_alternative ok a) (GoodAlternative Good a)
  unfolding ok_alternative_in
  alternative_says a =
      both_say (leb a.flag 1) _ (at_most a.flag 1)
      (both_say (all ok_option a.options) (all (ok_element ok) a.elements) (all_say ok_option Named option_says a.options)
      (all_say (ok_element ok) (GoodElement Good) element_says a.elements))

block_says : (d : ℕ) (b : Block d) → Says (ok_block d b) (GoodBlock d b)
unfolding ok_block_in GoodBlock
block_says zero b = absurd b
block_says (suc d) as' =
    all_say (ok_alternative (ok_block d)) (GoodAlternative (GoodBlock d)) (alternative_says (ok_block d) (GoodBlock d) (block_says d)) as'

rule_says : (r : Rule) → Says (ok_rule (ok_block body_depth) r) (GoodRule r)
unfolding ok_rule
rule_says r =
    both_say (is_name r.name) _ (name_says r.name)
    (both_say (leb r.flags 3) (ok_block body_depth r.body) (at_most r.flags 3) (block_says body_depth r.body))

kind_says : (k : ℕ) → Says (is_kind k) ((1 ≤ k) × (k ≤ 3))
kind_says k = both_say (leb 1 k) (leb k 3) (at_most 1 k) (at_most k 3)

-- The ids of a sort by either walk, and what is asked of them.
ids_same : (k : ℕ) (rs : List Rule) → body_ids k rs ≡ ids_of k rs
ids_same k = each_same (λ r. block_ids k body_depth r.body) (λ r. block_nodes (λ sort i. only (eqb k sort) i) 9 r.body)
    (λ r. sym (block_ids_lem k body_depth r.body))

sort_apart : (k : ℕ) (rs : List Rule) → Says (distinct (body_ids k rs)) (NoTwo (ids_of k rs))
sort_apart k rs = subst (λ l. Says (distinct (body_ids k rs)) (NoTwo l)) (ids_same k rs) (lists_told_lem.is_distinct (body_ids k rs))

sort_low : (k c : ℕ) (rs : List Rule) → Says (below c (body_ids k rs)) (Low c (ids_of k rs))
sort_low k c rs = subst (λ l. Says (below c (body_ids k rs)) (Low c l)) (ids_same k rs) (lists_told_lem.is_below c (body_ids k rs))

apart_says : (rs : List Rule)
    → Says (is_distinct rs) (NoTwo (map (λ r. r.id) rs) × (NoTwo (map (λ r. r.name) rs) × (NoTwo (ids_of 2 rs)
    × (NoTwo (ids_of 3 rs) × (NoTwo (ids_of 4 rs) × (NoTwo (ids_of 5 rs) × NoTwo (ids_of 6 rs)))))))
unfolding is_distinct
apart_says rs =
    both_say (distinct (map (λ r. r.id) rs)) _ (lists_told_lem.is_distinct (map (λ r. r.id) rs))
    (both_say (distinct (map (λ r. r.name) rs)) _ (lists_told_lem.is_distinct (map (λ r. r.name) rs))
    (both_say (distinct (body_ids 2 rs)) _ (sort_apart 2 rs)
    (both_say (distinct (body_ids 3 rs)) _ (sort_apart 3 rs)
    (both_say (distinct (body_ids 4 rs)) _ (sort_apart 4 rs)
    (both_say (distinct (body_ids 5 rs)) (distinct (body_ids 6 rs)) (sort_apart 5 rs) (sort_apart 6 rs))))))

low_says : (c : Counters) (rs : List Rule)
    → Says (is_below c rs) (Low c.alternative (ids_of 2 rs) × (Low c.element (ids_of 3 rs) × (Low c.label (ids_of 4 rs)
    × (Low c.action (ids_of 5 rs) × Low c.predicate (ids_of 6 rs)))))
unfolding is_below
low_says c rs =
    both_say (below c.alternative (body_ids 2 rs)) _ (sort_low 2 c.alternative rs)
    (both_say (below c.element (body_ids 3 rs)) _ (sort_low 3 c.element rs)
    (both_say (below c.label (body_ids 4 rs)) _ (sort_low 4 c.label rs)
    (both_say (below c.action (body_ids 5 rs)) (below c.predicate (body_ids 6 rs)) (sort_low 5 c.action rs)
    (sort_low 6 c.predicate rs))))

sheet_good : (s : Sheet) → Says (valid s) (GoodSheet s)
sheet_good s =
    let rules = all_say (ok_rule (ok_block body_depth)) GoodRule rule_says s.rules in
    let few = at_most (length s.rules) 128 in
    let apart = apart_says s.rules in
    let low = low_says s.counters s.rules in (
      λ v.
          let p = valid_parts newest s v in
          let (ids, (names, (a, (e, (l, (c, q)))))) = apart.0 p.distinct in
          let (a', (e', (l', (c', q')))) = low.0 p.below in
          record {
            kind = (kind_says s.kind).0 p.kind;
            few = few.0 p.few;
            rules = rules.0 p.rules;
            preserved = (lists_told_lem.is_rising s.preserved).0 p.preserved;
            rule_ids = ids;
            rule_names = names;
            alternative_ids = (a, a');
            element_ids = (e, e');
            label_ids = (l, l');
            action_ids = (c, c');
            predicate_ids = (q, q');
          },
      λ g.
          parts_valid newest s
          (record {
            kind = (kind_says s.kind).1 g.kind;
            few = few.1 g.few;
            rules = rules.1 g.rules;
            preserved = (lists_told_lem.is_rising s.preserved).1 g.preserved;
            distinct = apart.1 (
              g.rule_ids,
              (
                g.rule_names,
                (
                  g.alternative_ids.0,
                  (
                    g.element_ids.0,
                    (
                      g.label_ids.0,
                      (g.action_ids.0, g.predicate_ids.0),
                    ),
                  ),
                ),
              ),
            );
            below = low.1 (g.alternative_ids.1, (g.element_ids.1, (g.label_ids.1, (g.action_ids.1, g.predicate_ids.1))));
          }),
    )

low_first_lem : (a b c d : ℕ) (bs : List ℕ) → words (a ∷ b ∷ c ∷ d ∷ bs) ≡ (a + 256 * b + 65536 * c + 16777216 * d) ∷ words bs
unfolding words
low_first_lem a b c d bs = ap (λ w. w ∷ words bs) (omega arith)

pub format_told_lem : FormatTold
format_told_lem =
    record {
      low_first = low_first_lem;
      in_bytes = bytes_words;
      of_sheet = sheet_words_lem;
      good = sheet_good;
      reading = λ bs b s. (
        λ e. let v = accepted_valid newest bs b s e in (v.0, v.1, is_encoding newest bs b s e),
        λ x. subst (λ bs. read bs ≡ sheet s) x.2 (reads_back_lem newest s x.0 x.1),
      );
    }
