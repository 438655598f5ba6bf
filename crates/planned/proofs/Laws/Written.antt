-- One record written: its head half by half, its elements and options by copies, and what it then means.
use Prim.Native.Nat.{ℕ, ◌+◌, ◌-◌, ◌<◌, ◌≤◌}
use mathlib.Core.Path.{◌≡◌, ◌∙◌}
use mathlib.Core.Logic.{⊎_elim}
use mathlib.Core.List.{List}
use native.Mathlib.Omega.{arith}
use Rattle.planned.specs.Layout.{half, head_at, options_at}
use Rattle.planned.specs.Halves.{HalfPut, HalvesMoved}
use Rattle.planned.specs.List.{Located}
use Rattle.planned.specs.Laws.Kept.{Outside}
use Rattle.planned.specs.Written.{HeadPut, Finishable, Finished, CopiedWithout, Writable, Wrote}
use Rattle.planned.specs.declared.list.Listed.{Listed}

pub head_put : {b₀ b₁ b₂ b₃ b₄ : List ℕ} {a slot origin k m : ℕ} → HalfPut b₀ b₁ (head_at a) slot → HalfPut b₁ b₂ (head_at a + 1) origin
    → HalfPut b₂ b₃ (head_at a + 2) k → HalfPut b₃ b₄ (head_at a + 3) m → HeadPut b₀ b₄ a slot origin k m
head_put {b₀} {b₄ = b₄} {a} p q r s =
    let i = head_at a in
    let all : (j : ℕ) → (j ≡ i → ⊥) → (j ≡ i + 1 → ⊥) → (j ≡ i + 2 → ⊥) → (j ≡ i + 3 → ⊥) → half b₄ j ≡ half b₀ j =
    λ j e f g h. s.other j h ∙ r.other j g ∙ q.other j f ∙ p.other j e in
    record {
      slot_is = s.other i (λ e. omega arith) ∙ r.other i (λ e. omega arith) ∙ q.other i (λ e. omega arith) ∙ p.here;
      origin_is = s.other (i + 1) (λ e. omega arith) ∙ r.other (i + 1) (λ e. omega arith) ∙ q.here;
      ne_is = s.other (i + 2) (λ e. omega arith) ∙ r.here;
      no_is = s.here;
      front = λ j h. all j (λ e. omega arith) (λ e. omega arith) (λ e. omega arith) (λ e. omega arith);
      behind = λ j h. all j (λ e. omega arith) (λ e. omega arith) (λ e. omega arith) (λ e. omega arith);
      long = s.long ∙ r.long ∙ q.long ∙ p.long;
    }

pub finished : {b₀ b₁ b₂ : List ℕ} {slot origin k m from a o : ℕ} → Finishable b₀ k m from a o → HalvesMoved b₀ b₁ from (options_at + o) m
    → HeadPut b₁ b₂ a slot origin k m → Finished b₀ b₂ slot origin k m from a o
finished {o = o} f p q =
    record {
      slot_is = q.slot_is;
      origin_is = q.origin_is;
      ne_is = q.ne_is;
      no_is = q.no_is;
      options = record { each = λ i h. q.behind (options_at + o + i) (omega arith) ∙ p.here i h };
      front = λ j h. q.front j h ∙ p.front j (omega arith);
      between = λ j h g. q.behind j (omega arith) ∙ p.front j g;
      behind = λ j h. q.behind j (omega arith) ∙ p.behind j (omega arith);
      long = q.long ∙ p.long;
    }

module _ {from to n index : ℕ} (low : to + n ≤ from) (few : index < n) where
  pub copied_without : {b₀ b₁ b₂ : List ℕ} → HalvesMoved b₀ b₁ from to index
      → HalvesMoved b₁ b₂ (from + (index + 1)) (to + index) (n - (index + 1)) → CopiedWithout b₀ b₂ from to n index
  copied_without p q =
      record {
        here = record { each = λ i h. q.front (to + i) (omega arith) ∙ p.here i h };
        rest = record { each = λ i h. q.here i h ∙ p.behind (from + (index + 1) + i) (omega arith) };
        front = λ j h. q.front j (omega arith) ∙ p.front j h;
        behind = λ j h. q.behind j (omega arith) ∙ p.behind j (omega arith);
        long = q.long ∙ p.long;
      }

module _ {x : Listed} {a e o : ℕ} (w : Writable x a e o) where
  pub record_finishable : {b₀ b₁ : List ℕ} → Located b₀ x → HalvesMoved b₀ b₁ x.e e x.ne → Finishable b₁ x.ne x.no x.o a o
  record_finishable g p =
      record {
        long = omega arith;
        head = w.head;
        elements = omega arith;
        options = w.options;
        source = g.options;
      }

  module _ {b₀ b₁ b₂ : List ℕ} (p : HalvesMoved b₀ b₁ x.e e x.ne)
      (q : Finished b₁ b₂ x.slot x.origin x.ne x.no x.o a o) where
    outside : Outside b₀ b₂ a (a + 1) e (e + x.ne) o (o + x.no)
    outside =
        record {
          heads = λ j h g m.
              ⊎_elim (λ t. q.front j t) (λ t. q.between j t (omega arith)) m ∙ p.behind j (omega arith);
          elements = λ j h m. q.front j (omega arith) ∙ ⊎_elim (λ t. p.front j t) (λ t. p.behind j t) m;
          options = λ j h g m.
              ⊎_elim (λ t. q.between j (omega arith) t) (λ t. q.behind j t) m ∙ p.behind j (omega arith);
          long = q.long ∙ p.long;
        }

    pub wrote : Wrote b₀ b₂ x a e o
    wrote =
        record {
          slot_is = q.slot_is;
          origin_is = q.origin_is;
          ne_is = q.ne_is;
          no_is = q.no_is;
          elements = record { each = λ i h. q.front (e + i) (omega arith) ∙ p.here i h };
          options = record { each = λ i h. q.options.each i h ∙ p.behind (x.o + i) (omega arith) };
          outside = outside;
          hand = λ j h. q.behind j (omega arith) ∙ p.behind j (omega arith);
        }

pub ruleset writing = (head_put, finished, copied_without, record_finishable, wrote)
