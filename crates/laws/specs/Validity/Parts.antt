-- The parts of a grammar before and after a plan: what is counted in them, and what is known of them.
use Rattle.std.specs.Prelude.{ℕ, suc, ◌+◌, ◌≤◌, ◌<◌, ◌≡◌, Bool, true, ◌&&◌, leb, eqb}
use Rattle.std.proofs.Math.Path.{refl}
use Rattle.std.proofs.Common.{sym, ap}
use Rattle.std.proofs.lemmas.Bool.{and_from}
use Rattle.std.specs.Cmp.{first_so, second_so}
use mathlib.Core.List.Memᴰ
use mathlib.Core.List.{List, [], ◌∷◌, map, Memᴰ}
use native.Mathlib.Omega.{arith}
use borrow.Author.Tests.{eqb-true, eq-eqb}
use Rattle.grammar.specs.Tree.{OptionDecl, Element, leaf, block, Block, RuleOf, Counters}
use Rattle.grammar.specs.Lists.{each, all, keep}
use Rattle.grammar.specs.Ids.{head_ids, element_ids, block_ids}
use Rattle.grammar.specs.Valid.{ok_option, ok_label, ok_head, ok_element, ok_block, ok_element_in}
use Rattle.grammar.specs.Laws.Parse.{either}
use Rattle.grammar.specs.Numbers.{word_end, most_alternative_flag, one_or_more_nongreedy}
use Rattle.reference.specs.Substitute.{plain}
use Rattle.reference.specs.Apply.{Fresh, fresh_each, with_body}
use Rattle.laws.specs.Lists.Count.{count, count_append}
use Rattle.laws.specs.Demands.Applied.{Sort, number, counter_at}
use Rattle.laws.specs.Validity.Wordy.{element_words, block_words}

-- The ids of a sort in all bodies.
abbrev pub ids_in : (d : ℕ) → ℕ → List (RuleOf (Block d)) → List ℕ
ids_in d k = each λ r. block_ids k d r.body

pub keep_count : {A : Type 0} (test : A → Bool) (f : A → List ℕ) (x : ℕ) (as' : List A)
    → count x (each f (keep test as')) ≤ count x (each f as')
unfolding keep count
keep_count test f x [] = omega arith
keep_count test f x (a ∷ as') =
    let h = keep_count test f x as' in
    let p = count_append x (f a) (each f as') in
    let q = count_append x (f a) (each f (keep test as')) in
    either (test a) (λ t. rw t (omega arith)) (λ t. rw t (omega arith))

module _ (d : ℕ) (hub : ℕ) (b : Block (suc d)) where
  module _ (k x more : ℕ) where
    none_hub : (rs : List (RuleOf (Block (suc d)))) → count hub (map (λ r. r.id) rs) ≡ 0 → map (with_body d hub b) rs ≡ rs
    unfolding count with_body
    none_hub [] e = refl
    none_hub (r ∷ rs) e =
        either (eqb r.id hub)
        (λ t. let f : 1 + count hub (map (λ r. r.id) rs)
        ≡ 0 = rw (eq-eqb hub r.id (sym (eqb-true r.id hub t))) at e in absurd (omega arith))
        (λ f. rw (f, with_body) (ap (λ l. r ∷ l) (none_hub rs (omega arith))))

    pub one_hub : (rs : List (RuleOf (Block (suc d)))) → count hub (map (λ r. r.id) rs) ≤ 1
        → ((r : RuleOf (Block (suc d))) → Memᴰ r rs → r.id ≡ hub
        → count x (block_ids k (suc d) b) ≤ count x (block_ids k (suc d) r.body) + more)
        → count x (ids_in (suc d) k (map (with_body d hub b) rs)) ≤ count x (ids_in (suc d) k rs) + more
    unfolding count with_body
    one_hub [] l h = omega arith
    one_hub (r ∷ rs) l h =
        let p = count_append x (block_ids k (suc d) r.body) (ids_in (suc d) k rs) in
        either (eqb r.id hub)
        (λ t.
        let e = eqb-true r.id hub t in
        let l₂ : 1 + count hub (map (λ r. r.id) rs) ≤ 1 = rw (eq-eqb hub r.id (sym e)) at l in
        let same = none_hub rs (omega arith) in
        let g = h r (Memᴰ.head refl) e in
        let q = count_append x (block_ids k (suc d) b) (ids_in (suc d) k rs) in
        rw (t, with_body) (rw same (omega arith)))
        (λ f.
        let g = one_hub rs (omega arith) (λ q m. h q (Memᴰ.tail m)) in
        let q = count_append x (block_ids k (suc d) r.body) (ids_in (suc d) k (map (with_body d hub b) rs)) in
        rw (f, with_body) (omega arith))

-- Each fresh item is made from one that was there.
pub fresh_in : {A B : Type 0} (g : A → Counters → Fresh B) (as' : List A) (c : Counters) {b : B} → Memᴰ b (fresh_each g as' c).node
    → (a : A) × (c₁ : Counters) × Memᴰ a as' × ((g a c₁).node ≡ b)
unfolding fresh_each
fresh_in g [] c m = absurd (Memᴰ.not-nil m)
fresh_in g (a ∷ as') c (Memᴰ.head e) = (a, c, Memᴰ.head refl, sym e)
fresh_in g (a ∷ as') c (Memᴰ.tail m) = let r = fresh_in g as' (g a c).counters m in (r.0, r.1, Memᴰ.tail r.2, r.3)

-- What is known of the parts of an alternative before the plan.
abbrev pub Slot : ℕ → ℕ → Type 0
Slot carried flag = (leb flag most_alternative_flag ≡ true) × (carried < word_end)

abbrev pub Choice : OptionDecl → Type 0
Choice o = (ok_option o ≡ true) × (o.value < word_end)

pub record Part (d : ℕ) (c : Counters) (e : Element (Block d)) : Type 0 where
  pub ok : ok_element (ok_block d) e ≡ true
  pub words : (w : ℕ) → Memᴰ w (element_words (block_words d) e) → w < word_end
  pub ids : (s : Sort) (i : ℕ) → Memᴰ i (element_ids (number s) (block_ids (number s) d) e) → i < counter_at s c

pub plain_part : (d : ℕ) (c : Counters) (e : Element (Block d)) → Part d c e → Part d c (plain e)
unfolding plain ok_element_in element_words element_ids ok_head head_ids
plain_part d c (leaf h l) p =
    record {
      ok = and_from _ _ (second_so (leb h.quantifier one_or_more_nongreedy) _
          (first_so (leb h.quantifier one_or_more_nongreedy && (ok_label h.label && all ok_option h.options)) _ p.ok))
          (second_so (leb h.quantifier one_or_more_nongreedy && (ok_label h.label && all ok_option h.options)) _ p.ok);
      words = p.words;
      ids = p.ids;
    }
plain_part d c (block h b) p =
    record {
      ok = and_from _ _ (second_so (leb h.quantifier one_or_more_nongreedy) _
          (first_so (leb h.quantifier one_or_more_nongreedy && (ok_label h.label && all ok_option h.options)) _ p.ok))
          (second_so (leb h.quantifier one_or_more_nongreedy && (ok_label h.label && all ok_option h.options)) _ p.ok);
      words = p.words;
      ids = p.ids;
    }
