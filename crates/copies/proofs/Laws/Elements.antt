-- Copies of elements: a leaf, or a block.
use Prim.Native.Nat.{ℕ, zero, suc, ◌+◌, ◌-◌, ◌*◌, ◌≤◌}
use mathlib.Core.Path.{◌≡◌, refl, sym, ap, ◌∙◌}
use mathlib.Core.List.{List, [], ◌∷◌}
use mathlib.Core.Bool.{Bool}
use native.Mathlib.Omega.{arith}
use native.Mathlib.Numerals.{sub-one}
use lib.ListN.{length, get_or}
use Rattle.grammar.specs.Form.{newest}
use Rattle.grammar.specs.Numbers.{block_kind}
use Rattle.grammar.specs.Tree.{ElementHead, Leaf, Element, leaf, block, Block, Counters}
use Rattle.grammar.specs.Stands.{Spans}
use Rattle.grammar.specs.Encode.{encode_head, leaf_kind, encode_leaf, encode_element, encode_alternative, encode_block}
use Rattle.grammar.specs.Lists.{each}
use Rattle.grammar.specs.Valid.{ok_block}
use Rattle.grammar.specs.Found.{ElementSpans, HeadAt, LeafEnd}
use Rattle.grammar.specs.Laws.Complete.{leaf_kind_lem}
use Rattle.grammar.specs.Laws.Opened.{Opened, opened_leaf, opened_block, opened, block_words_lem}
use Rattle.grammar.specs.Laws.Found.{IsBlock, is_block, blocked}
use Rattle.reference.specs.Apply.{fresh_each, renumber_head, renumber_leaf, renumber_alternative, renumber_block}
use Rattle.reference.specs.Run.{encode_entry}
use Rattle.writing.specs.Taken.{counters_of}
use Rattle.copies.specs.declared.pen.Pen.{Pen}
use Rattle.copies.specs.Pen.{Drawn, Fits, Drew}
use Rattle.copies.specs.Copy.{copy_of, ElementFits, ElementCopied, AlternativesFit, AlternativesCopied}
use Rattle.copies.specs.Heads.{head_if, HeadRoom, HeadCopied, LeafRoom, LeafCopied, CountCopied}
use Rattle.copies.specs.Laws.Grown.{grows_leaf, grows_block}
use Rattle.copies.specs.Laws.Drawn.{space_front, space_behind, drawn_then, drawn_words}
use Rattle.copies.specs.Laws.Renumbered.{leaf_words_of, leaf_entries_of, leaf_counters_of, block_words_of, block_entries_of}
use Rattle.copies.specs.Laws.Renumbered.{block_counters_of, nested_words_of}
use Rattle.copies.proofs.Laws.Heads.{head_label, head_options}
use Rattle.copies.proofs.Laws.Rooms.{made_leaf, made_block, head_fits, leaf_fits}

module _ (d : ℕ) (plain : Bool) {out t : List ℕ} {p : Pen} where
  -- The parts of a leaf and of a block, where there is room for the whole.
  leaf_head_fits : (h : ElementHead) (l : Leaf)
      → Fits (encode_element (encode_block d)) (copy_of d plain (leaf h l) (counters_of p.counters)) out t p
      → Fits (λ g. encode_head g (leaf_kind l)) (renumber_head (head_if plain h) (counters_of p.counters)) out t p
  leaf_head_fits h l s =
      let c = counters_of p.counters in
      let h' = head_if plain h in
      space_front
      (encode_leaf (renumber_leaf l (renumber_head h' c).counters).node)
      (each encode_entry (renumber_leaf l (renumber_head h' c).counters).entries)
      (leaf_words_of (encode_block d) (renumber_block d) h' l c)
      (leaf_entries_of (encode_block d) (renumber_block d) h' l c)
      (rw (leaf_counters_of (encode_block d) (renumber_block d) h' l c) (grows_leaf.grows l (renumber_head h' c).counters))
      (rw (made_leaf plain h l) at s)

  block_head_fits : (h : ElementHead) (b : Block d)
      → Fits (encode_element (encode_block d)) (copy_of d plain (block h b) (counters_of p.counters)) out t p
      → Fits (λ g. encode_head g block_kind) (renumber_head (head_if plain h) (counters_of p.counters)) out t p
  block_head_fits h b s =
      let c = counters_of p.counters in
      let h' = head_if plain h in
      space_front
      (encode_block d (renumber_block d b (renumber_head h' c).counters).node)
      (each encode_entry (renumber_block d b (renumber_head h' c).counters).entries)
      (block_words_of (encode_block d) (renumber_block d) h' b c)
      (block_entries_of (encode_block d) (renumber_block d) h' b c)
      (rw (block_counters_of (encode_block d) (renumber_block d) h' b c) ((grows_block d).grows b (renumber_head h' c).counters))
      (rw (made_block plain h b) at s)

  module _ {out₁ t₁ : List ℕ} {p₁ : Pen} where
    leaf_rest_fits : (h : ElementHead) (l : Leaf)
        → Drew (λ g. encode_head g (leaf_kind l)) (renumber_head (head_if plain h) (counters_of p.counters)) out out₁ t t₁ p p₁
        → Fits (encode_element (encode_block d)) (copy_of d plain (leaf h l) (counters_of p.counters)) out t p
        → Fits encode_leaf (renumber_leaf l (counters_of p₁.counters)) out₁ t₁ p₁
    leaf_rest_fits h l x s =
        let c = counters_of p.counters in
        let h' = head_if plain h in
        rw x.counters
        (space_behind (leaf_words_of (encode_block d) (renumber_block d) h' l c)
        (leaf_entries_of (encode_block d) (renumber_block d) h' l c) x
        (rw (made_leaf plain h l, leaf_counters_of (encode_block d) (renumber_block d) h' l c) at s))

    block_rest_fits : (h : ElementHead) (b : Block d)
        → Drew (λ g. encode_head g block_kind) (renumber_head (head_if plain h) (counters_of p.counters)) out out₁ t t₁ p p₁
        → Fits (encode_element (encode_block d)) (copy_of d plain (block h b) (counters_of p.counters)) out t p
        → Fits (encode_block d) (renumber_block d b (counters_of p₁.counters)) out₁ t₁ p₁
    block_rest_fits h b x s =
        let c = counters_of p.counters in
        let h' = head_if plain h in
        rw x.counters
        (space_behind (block_words_of (encode_block d) (renumber_block d) h' b c)
        (block_entries_of (encode_block d) (renumber_block d) h' b c) x
        (rw (made_block plain h b, block_counters_of (encode_block d) (renumber_block d) h' b c) at s))

    -- What is drawn of the parts is drawn of the whole.
    module _ {out' t' : List ℕ} {p' : Pen} where
      leaf_drawn : (h : ElementHead) (l : Leaf)
          → Drew (λ g. encode_head g (leaf_kind l)) (renumber_head (head_if plain h) (counters_of p.counters)) out out₁ t t₁ p p₁
          → Drew encode_leaf (renumber_leaf l (counters_of p₁.counters)) out₁ out' t₁ t' p₁ p'
          → Drew (encode_element (encode_block d)) (copy_of d plain (leaf h l) (counters_of p.counters)) out out' t t' p p'
      leaf_drawn h l x y =
          let c = counters_of p.counters in
          let h' = head_if plain h in
          rw (made_leaf plain h l, leaf_counters_of (encode_block d) (renumber_block d) h' l c)
          (drawn_then (leaf_words_of (encode_block d) (renumber_block d) h' l c)
          (leaf_entries_of (encode_block d) (renumber_block d) h' l c) x
          (rw x.counters at y))

      block_drawn : (h : ElementHead) (b : Block d)
          → Drew (λ g. encode_head g block_kind) (renumber_head (head_if plain h) (counters_of p.counters)) out out₁ t t₁ p p₁
          → Drew (encode_block d) (renumber_block d b (counters_of p₁.counters)) out₁ out' t₁ t' p₁ p'
          → Drew (encode_element (encode_block d)) (copy_of d plain (block h b) (counters_of p.counters)) out out' t t' p p'
      block_drawn h b x y =
          let c = counters_of p.counters in
          let h' = head_if plain h in
          rw (made_block plain h b, block_counters_of (encode_block d) (renumber_block d) h' b c)
          (drawn_then (block_words_of (encode_block d) (renumber_block d) h' b c)
          (block_entries_of (encode_block d) (renumber_block d) h' b c) x
          (rw x.counters at y))

module _ (d : ℕ) (plain : Bool) {ws : List ℕ} {end at : ℕ} {out t : List ℕ} {p : Pen} {k payload : ℕ} where
  pub head_room : ElementFits ws end d plain at out t p → HeadAt ws end at k payload → HeadRoom ws at payload out t p
  head_room f w = go (opened f.found.tree f.found.spans) f.fits
    where
      go : {e : Element (Block d)} → Opened ws end d at f.found.next e
          → Fits (encode_element (encode_block d)) (copy_of d plain e (counters_of p.counters)) out t p
          → HeadRoom ws at payload out t p
      go (opened_leaf {h = h} {l = l} o v u) s =
          let x : o ≡ payload = omega arith in
          head_fits h (head_if plain h) (head_label plain h) (head_options plain h) (rw x at v) (leaf_head_fits d plain h l s)
      go (opened_block {h = h} {b = b} o v u) s =
          let x : o ≡ payload = omega arith in
          head_fits h (head_if plain h) (head_label plain h) (head_options plain h) (rw x at v) (block_head_fits d plain h b s)

  module _ {out₁ t₁ : List ℕ} {p₁ : Pen} (w : HeadAt ws end at k payload) (x : HeadCopied ws end at payload plain out out₁ t t₁ p p₁) where
    module _ (no : k ≡ block_kind → ⊥) {there : ℕ} (l : LeafEnd ws end d at payload there) where
      pub leaf_room : ElementFits ws end d plain at out t p → LeafRoom k payload there out₁ t₁ p₁
      leaf_room f = go f.found.tree (opened f.found.tree f.found.spans) f.found.spans f.fits
        where
          go : (e : Element (Block d)) → Opened ws end d at f.found.next e → ElementSpans ws end d at e f.found.next
              → Fits (encode_element (encode_block d)) (copy_of d plain e (counters_of p.counters)) out t p
              → LeafRoom k payload there out₁ t₁ p₁
          go (leaf h m) (opened_leaf o v u) z s =
              let i : o ≡ payload = omega arith in
              let low = leaf_kind_lem m in
              let j : leaf_kind m ≡ k = omega arith in
              let q = l.is (leaf h m) f.found.next z in
              let y = x.is h (leaf_kind m) (omega arith) (rw i at v) in
              rw j at (leaf_fits m (rw (i, ← q) at u) (leaf_rest_fits d plain h m y s))
          go (block h b) (opened_block o v u) z s = absurd (no (omega arith))

      pub element_leaf : {out' t' : List ℕ} {p' : Pen} → LeafCopied ws end k payload there out₁ out' t₁ t' p₁ p'
          → ElementCopied ws end d plain at out out' t t' p there p'
      element_leaf {out'} {t'} {p'} y = record { passed = l.is; drew = λ e z u. go e z (opened e u) u; within = l.within }
        where
          go : (e : Element (Block d)) (z : ℕ) → Opened ws end d at z e → ElementSpans ws end d at e z
              → Drew (encode_element (encode_block d)) (copy_of d plain e (counters_of p.counters)) out out' t t' p p'
          go (leaf h m) z (opened_leaf o v u) r =
              let i : o ≡ payload = omega arith in
              let low = leaf_kind_lem m in
              let j : leaf_kind m ≡ k = omega arith in
              let q = l.is (leaf h m) z r in
              leaf_drawn d plain h m (x.is h (leaf_kind m) (omega arith) (rw i at v)) (y.is m j (rw (i, ← q) at u))
          go (block h b) z (opened_block o v u) r = absurd (no (omega arith))

-- A block behind its count.
module _ (d : ℕ) (b : Block (suc d)) {m : ℕ} {out out₁ t : List ℕ} {p p₁ : Pen} (e : m ≡ length b) (x : CountCopied m out out₁ p p₁) where
  count_drawn : Drawn (length b ∷ []) [] (counters_of p.counters) out out₁ t t p p₁
  count_drawn = drawn_words t (rw e at x.wrote) x.to x.trail x.counters

  inside_fits : Fits (encode_block (suc d)) (renumber_block (suc d) b (counters_of p.counters)) out t p
      → Fits (each (encode_alternative (encode_block d))) (fresh_each (renumber_alternative (renumber_block d)) b (counters_of p₁.counters)) out₁ t p₁
  unfolding renumber_block fresh_each
  inside_fits s =
      rw x.counters
      (space_behind (nested_words_of d b (counters_of p.counters)) refl count_drawn s)

  inside_drawn : {out' t' : List ℕ} {p' : Pen}
      → Drew (each (encode_alternative (encode_block d))) (fresh_each (renumber_alternative (renumber_block d)) b (counters_of p₁.counters))
      out₁ out' t t' p₁ p'
      → Drew (encode_block (suc d)) (renumber_block (suc d) b (counters_of p.counters)) out out' t t' p p'
  unfolding renumber_block fresh_each
  inside_drawn y = drawn_then (nested_words_of d b (counters_of p.counters)) refl count_drawn (rw x.counters at y)

module _ (d : ℕ) (plain : Bool) {ws : List ℕ} {end at : ℕ} {out t : List ℕ} {p : Pen} {k payload : ℕ} {out₁ t₁ : List ℕ} {p₁ : Pen}
    (w : HeadAt ws end at k payload) (six : k ≡ block_kind) (x : HeadCopied ws end at payload plain out out₁ t t₁ p p₁) where
  -- The block's words behind the head.
  pub record BlockFits : Type 0 where
    pub block : Block d
    pub next : ℕ
    pub spans : Spans ws end (encode_block d) (ok_block d) payload block next
    pub fits : Fits (encode_block d) (renumber_block d block (counters_of p₁.counters)) out₁ t₁ p₁

  block_fits : ElementFits ws end d plain at out t p → BlockFits
  block_fits f = go (blocked newest w six d f.found.tree f.found.next f.found.spans) f.fits
    where
      go : {e : Element (Block d)} → IsBlock newest w six d f.found.next e
          → Fits (encode_element (encode_block d)) (copy_of d plain e (counters_of p.counters)) out t p
          → BlockFits
      go (is_block {h = h} {b = b} v u) s =
          record {
            block = b;
            next = f.found.next;
            spans = u;
            fits = block_rest_fits d plain h b (x.is h block_kind (omega arith) v) s;
          }

count_fits : (d : ℕ) (b : Block d) (c : Counters) {out t : List ℕ} {p : Pen} → Fits (encode_block d) (renumber_block d b c) out t p
    → 4 * (p.to + 1) ≤ length out
count_fits zero b c s = absurd b
count_fits (suc d) b c s = let e = ap length (nested_words_of d b c) in let w = s.words in omega arith

module _ (d : ℕ) (plain : Bool) {ws : List ℕ} {end at : ℕ} {out t : List ℕ} {p : Pen} {k payload : ℕ} {out₁ t₁ : List ℕ} {p₁ : Pen}
    (w : HeadAt ws end at k payload) (six : k ≡ block_kind) (x : HeadCopied ws end at payload plain out out₁ t t₁ p p₁) where
  pub count_room : ElementFits ws end d plain at out t p → 4 * (p₁.to + 1) ≤ length out₁
  count_room f = let g = block_fits d plain w six x f in count_fits d g.block (counters_of p₁.counters) g.fits

module _ (plain : Bool) {ws : List ℕ} {end at : ℕ} {out t : List ℕ} {p : Pen} {k payload : ℕ} {out₁ t₁ : List ℕ} {p₁ : Pen}
    (w : HeadAt ws end at k payload) (six : k ≡ block_kind) (x : HeadCopied ws end at payload plain out out₁ t t₁ p p₁)
    {m : ℕ} {out₂ : List ℕ} {p₂ : Pen} (c : m ≡ get_or ws payload 0) (y : CountCopied m out₁ out₂ p₁ p₂) where
  pub alternatives_fit : (d : ℕ) → ElementFits ws end d plain at out t p → AlternativesFit ws end (d - 1) m (payload + 1) out₂ t₁ p₂
  alternatives_fit zero f = absurd (block_fits zero plain w six x f).block
  alternatives_fit (suc d) f =
      let g = block_fits (suc d) plain w six x f in
      let b = block_words_lem d g.block g.spans in
      rw (sub-one (suc d)) (record {
        found = record { trees = g.block; next = g.next; spans = b.alternatives; count = sym b.count ∙ sym c };
        fits = inside_fits d g.block (c ∙ b.count) y g.fits;
      })

  pub element_block : (d : ℕ) {out' t' : List ℕ} {q : ℕ} {p' : Pen} → AlternativesCopied ws end (d - 1) m (payload + 1) out₂ out' t₁ t' p₂ q p'
      → ElementCopied ws end d plain at out out' t t' p q p'
  element_block zero {out'} {t'} {q} {p'} a =
      record {
        passed = λ e z u. none (blocked newest w six zero e z u);
        drew = λ e z u. none (blocked newest w six zero e z u);
        within = a.within;
      }
    where
      none : {e : Element (Block zero)} {z : ℕ} {P : Type 0} → IsBlock newest w six zero z e → P
      none (is_block {b = b} v u) = absurd b
  element_block (suc d) {out'} {t'} {q} {p'} a =
      record {
        passed = λ e z u. past (blocked newest w six (suc d) e z u);
        drew = λ e z u. drawn (blocked newest w six (suc d) e z u);
        within = a.within;
      }
    where
      past : {e : Element (Block (suc d))} {z : ℕ} → IsBlock newest w six (suc d) z e → q ≡ z
      past (is_block {b = b} v u) =
          let o = block_words_lem d b u in
          let a' = rw (sub-one (suc d)) at a in
          a'.passed b _ o.alternatives (sym o.count ∙ sym c)

      drawn : {e : Element (Block (suc d))} {z : ℕ} → IsBlock newest w six (suc d) z e
          → Drew (encode_element (encode_block (suc d))) (copy_of (suc d) plain e (counters_of p.counters)) out out' t t' p p'
      drawn (is_block {h = h} {b = b} v u) =
          let o = block_words_lem d b u in
          let a' = rw (sub-one (suc d)) at a in
          let i = a'.drew b _ o.alternatives (sym o.count ∙ sym c) in
          block_drawn (suc d) plain h b (x.is h block_kind (omega arith) v) (inside_drawn d b (c ∙ o.count) y i)

pub ruleset elementary = (head_room, leaf_room, element_leaf, count_room, alternatives_fit, element_block)
