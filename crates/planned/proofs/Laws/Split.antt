-- The alternative in hand, split into two.
use Prim.Native.Nat.{ℕ, ◌+◌, ◌-◌, ◌*◌, ◌<◌, ◌≤◌}
use mathlib.Core.Path.{◌≡◌, refl, ◌∙◌}
use mathlib.Core.List.{List}
use native.Mathlib.Omega.{arith}
use Rattle.grammar.specs.Tree.{Element, Block}
use Rattle.reference.specs.Substitute.{split_optional, without, with_plain}
use Rattle.planned.specs.Layout.{place_of, meaning}
use Rattle.planned.specs.List.{alternatives_in, elements_in, options_in, InHand, ListedIn, CallAt}
use Rattle.planned.specs.Moves.{Pushed, PushedSplit}
use Rattle.planned.specs.Split.{BareOf, with_other, SameHand, PushedAbsent, PushedPresent}
use Rattle.planned.specs.Laws.Parts.{Copied, meaning_copied, listed_copied}
use Rattle.planned.specs.Laws.Items.{unmarked_place}
use Rattle.planned.specs.Laws.Kept.{pushed_then}
use Rattle.planned.proofs.Laws.Absent.{pushed_absent}
use Rattle.planned.proofs.Laws.Present.{wrote_present, present_writable, pushed_present}
use Rattle.planned.specs.declared.list.Sizes.{Sizes}
use Rattle.planned.specs.declared.list.Listed.{Listed}

module _ {h x : Listed} (b : BareOf h x) where
  bare_place : place_of x.slot ≡ place_of h.slot
  bare_place = unmarked_place b.slot_bare ∙ b.slot_is

  module _ (ws : List ℕ) (end d : ℕ) (bs : List ℕ) where
    bare_listed : ListedIn ws end d bs h → ListedIn ws end d bs x
    bare_listed t =
        record {
          head = record {
            slot_found = rw bare_place t.head.slot_found;
            origin_found = rw b.origin_is t.head.origin_found;
            low = rw bare_place t.head.low;
            origin_low = rw b.origin_is t.head.origin_low;
          };
          elements = λ i l. rw b.e_is (t.elements i (let n = b.ne_is in omega arith));
          options = λ i l. rw b.o_is (t.options i (let n = b.no_is in omega arith));
        }

    bare_other : (es : List (Element (Block d))) → with_other (meaning ws end d bs x) es ≡ with_other (meaning ws end d bs h) es
    unfolding meaning
    bare_other es = rw (bare_place, b.origin_is, b.no_is, b.o_is)

    bare_elements : (meaning ws end d bs x).elements ≡ (meaning ws end d bs h).elements
    unfolding meaning
    bare_elements = rw (b.ne_is, b.e_is)

-- The hand as it was.
module _ {before after : List ℕ} {x : Listed} (s : SameHand before after) (i : InHand x) where
  hand_elements : Copied before after x.e x.e x.ne
  hand_elements = record { each = λ j h. s.same (x.e + j) (omega arith) }

  hand_options : Copied before after x.o x.o x.no
  hand_options = record { each = λ j h. s.same (x.o + j) (omega arith) }

  hand_means : (ws : List ℕ) (end d : ℕ) → meaning ws end d after x ≡ meaning ws end d before x
  hand_means ws end d = meaning_copied ws end d x x refl refl refl refl hand_elements hand_options

  hand_listed : (ws : List ℕ) (end d : ℕ) → ListedIn ws end d before x → ListedIn ws end d after x
  hand_listed ws end d = listed_copied ws end d x x refl refl refl refl hand_elements hand_options

  hand_call : (ws : List ℕ) {index : ℕ} → index < x.ne → CallAt ws before x index → CallAt ws after x index
  hand_call ws {index} l c = record { kind = rw (hand_elements.each index l) c.kind }

-- How the list grows twice.
twice : (x : ℕ) {y z n k : ℕ} → y ≡ x + n → z ≡ y + n → n ≡ k → z ≡ x + 2 * k
twice x e f g = omega arith

twice_less : (x : ℕ) {y z n k : ℕ} → y ≡ x + (n - 1) → z ≡ y + n → n ≡ k → 1 ≤ k → z ≡ x + (2 * k - 1)
twice_less x e f g h = omega arith

module _ {b₀ b₁ b₂ : List ℕ} {l m r : Sizes} {h x : Listed} {index : ℕ} (i : InHand h) (few : index < h.ne) (b : BareOf h x)
    (p : PushedAbsent b₀ b₁ l m x index) (q : PushedPresent b₁ b₂ m r x index) where
  held : InHand x
  held = record { elements = omega arith; options = omega arith; fit = omega arith }

  split_is : (ws : List ℕ) (end d : ℕ) → ListedIn ws end d b₀ h → CallAt ws b₀ h index
      → Pushed ws end d b₀ b₂ l r (split_optional (meaning ws end d b₀ h) index)
  unfolding split_optional
  split_is ws end d t c =
      let u = bare_listed b ws end d b₀ t in
      let f : index < x.ne = omega arith in
      let k : CallAt ws b₀ x index = record { kind = rw b.e_is c.kind } in
      let s = p.hand in
      let e = bare_elements b ws end d b₀ in
      let below = rw (e, bare_other b ws end d b₀ (without index (meaning ws end d b₀ h).elements)) at (p.is ws end d u) in
      let top =
      rw (hand_means s held ws end d, e, bare_other b ws end d b₀ (with_plain index (meaning ws end d b₀ h).elements))
      at (q.is ws end d (hand_listed s held ws end d u) (hand_call s held ws f k)) in
      pushed_then below top

  pub split_done : PushedSplit b₀ b₂ l r h index
  split_done =
      let u = p.grown in
      let v = q.grown in
      record {
        laid = q.laid;
        is = split_is;
        grown = record {
          alternatives = twice (alternatives_in l) u.alternatives v.alternatives refl;
          elements = twice_less (elements_in l) u.elements v.elements b.ne_is (omega arith);
          options = twice (options_in l) u.options v.options b.no_is;
        };
        long = q.hand.long ∙ p.hand.long;
      }

pub ruleset splitting = (pushed_absent, wrote_present, present_writable, pushed_present, split_done)
