-- The returns of the functions that test elements, alternatives, blocks and rules.
use Prim.Native.Nat.{ℕ, zero, suc, ◌+◌, ◌-◌, ◌/◌, ◌%◌, ◌<◌, ◌≤◌}
use mathlib.Core.Path.{◌≡◌, refl, sym, ◌∙◌}
use mathlib.Core.List.{List}
use mathlib.Core.Bool.{Bool, true, false}
use native.Mathlib.Omega.{arith}
use native.Mathlib.Numerals.{sub-one}
use lib.Dec.{leb}
use lib.ListN.{get_or}
use borrow.Author.Tests.{le-leb, lt-leb, leb-true, leb-false, ne_eqb}
use Rattle.grammar.specs.Tree.{Element, ElementHead, leaf, block, AlternativeOf, RuleOf}
use Rattle.grammar.specs.Form.{Form}
use Rattle.grammar.specs.Parse.{Got, many}
use Rattle.grammar.specs.Numbers.{most_rule_flags, most_alternative_flag, block_kind, kind_end}
use Rattle.grammar.specs.Read.{is_name, is_label, label_of, is_head, option_at, head_at, alternative_at_in, block_at_in, element_at_in}
use Rattle.grammar.specs.Read.{leaf_at_in, payload_at_in, rule_at_in}
use Rattle.grammar.specs.Laws.Parse.{either, never}
use Rattle.std.specs.Prelude.{Option, Some, None, Result, Ok, Err, is_err}
use Rattle.std.specs.Result.{result_ok}
use Rattle.words.specs.declared.numbers.Quantifier.{Quantifier}
use Rattle.words.specs.declared.numbers.Unnamed.{Unnamed}
use Rattle.words.specs.declared.numbers.Kind.{Kind}
use Rattle.words.specs.declared.numbers.Kind.TheVariants.{Epsilon, Action, Predicate, Call, Token, Terminal, Block, EndOfInput}
use Rattle.words.specs.Kinds.{Names, quantifier_number, kind_number}
use Rattle.words.specs.Laws.Kinds.{quantifier_named, no_ok, an_ok}
use Rattle.records.specs.Step.{is_fixed, step_of}
use Rattle.records.proofs.Laws.Steps.{then_bad, then_none, then_next, then_same}

-- the kind that a number names, or none
some_kind : {n : ℕ} (u : Result Kind Unnamed) → Names kind_number n u → {k : Kind} → Some k ≡ result_ok u → kind_number k ≡ n
some_kind (Ok x) m {k} o = let z : k ≡ x = cc in rw z m
some_kind (Err x) m o = never cc

no_kind : {n : ℕ} (u : Result Kind Unnamed) → Names kind_number n u → None ≡ result_ok u → (a : Kind) → kind_number a ≡ n → ⊥
no_kind (Ok x) m o = λ a e. never cc
no_kind (Err x) m o = m.1

leaf_none : (form : Form) (ws : List ℕ) (end at k : ℕ) → ((a : Kind) → kind_number a ≡ k → ⊥) → step_of (leaf_at_in form ws end k at) ≡ None
unfolding leaf_at_in
leaf_none form ws end at zero none = absurd (none Epsilon refl)
leaf_none form ws end at (suc zero) none = absurd (none Action refl)
leaf_none form ws end at (suc (suc zero)) none = absurd (none Predicate refl)
leaf_none form ws end at (suc (suc (suc zero))) none = absurd (none Call refl)
leaf_none form ws end at (suc (suc (suc (suc zero)))) none = absurd (none Token refl)
leaf_none form ws end at (suc (suc (suc (suc (suc zero))))) none = absurd (none Terminal refl)
leaf_none form ws end at (suc (suc (suc (suc (suc (suc zero)))))) none = absurd (none Block refl)
leaf_none form ws end at (suc (suc (suc (suc (suc (suc (suc zero))))))) none = absurd (none EndOfInput refl)
leaf_none form ws end at (suc (suc (suc (suc (suc (suc (suc (suc k)))))))) none = refl

module _ (form : Form) (ws : List ℕ) (end at : ℕ) where
  -- the fixed words of an element
  module _ {w : ℕ} (e : w ≡ get_or ws (at + 2) 0) (u : Result Quantifier Unnamed) (m : Names quantifier_number (w / kind_end) u) where
    pub quantifier_bad : is_err u ≡ true → false ≡ is_fixed ws at
    quantifier_bad h = simp (← e, ← quantifier_named (w / kind_end) u m, no_ok u h)

    pub quantifier_good : {i n : ℕ} {b : Bool} → is_err u ≡ false → i ≡ get_or ws (at + 3) 0 → n ≡ get_or ws (at + 4) 0
        → b ≡ is_label i n
        → b ≡ is_fixed ws at
    quantifier_good h f g k = simp (← e, ← f, ← g, ← quantifier_named (w / kind_end) u m, an_ok u h) k

  module _ (h : 6 ≤ end - at) {b : Bool} (e : b ≡ is_fixed ws at) where
    pub head_bad : b ≡ false → None ≡ step_of (head_at ws end at)
    unfolding head_at is_head
    head_bad t = simp (le-leb 6 (end - at) h, ← e, t)

    pub head_good : {n : ℕ} {r : Option ℕ} → b ≡ true → n ≡ get_or ws (at + 5) 0 → r ≡ step_of (many (option_at ws end) n (at + 6))
        → r ≡ step_of (head_at ws end at)
    unfolding head_at is_head
    head_good {n} t f g =
        simp (le-leb 6 (end - at) h, ← e, t, ← f)
        (g
        ∙ sym
        (then_same {B = ElementHead} (many (option_at ws end) n (at + 6))
        λ os. record {
          id = get_or ws at 0;
          carried = get_or ws (at + 1) 0;
          quantifier = get_or ws (at + 2) 0 / kind_end;
          label = label_of (get_or ws (at + 3) 0) (get_or ws (at + 4) 0);
          options = os;
        }))

  module _ {B : Type 0} (blk : ℕ → Got B) where
    pub payload_block : {k : ℕ} {r : Option ℕ} → k ≡ block_kind → r ≡ step_of (blk at) → (h : ElementHead)
        → r ≡ step_of (payload_at_in form ws end blk h k at)
    unfolding payload_at_in
    payload_block e f h = simp e (f ∙ sym (then_same (blk at) (block h)))

    pub payload_leaf : {k : ℕ} {r : Option ℕ} → (k ≡ block_kind → ⊥) → r ≡ step_of (leaf_at_in form ws end k at) → (h : ElementHead)
        → r ≡ step_of (payload_at_in form ws end blk h k at)
    unfolding payload_at_in
    payload_leaf {k} e f h = rw (ne_eqb k block_kind e, payload_at_in)
        (f ∙ sym (then_same {B = Element B} (leaf_at_in form ws end k at) (leaf h)))

    -- of a kind that there is not
    payload_none : (h : ElementHead) (p k : ℕ) → ((a : Kind) → kind_number a ≡ k → ⊥) → step_of (payload_at_in form ws end blk h k p) ≡ None
    unfolding payload_at_in
    payload_none h p k none =
        rw (ne_eqb k block_kind (λ e. none Block (sym e)), payload_at_in)
        (then_bad {B = Element B} (leaf_at_in form ws end k p) _ (leaf_none form ws end p k none))

    -- an element with no room for its fixed words, with a bad head, with a good one
    pub element_short : end - at < 6 → None ≡ step_of (element_at_in form ws end blk at)
    unfolding element_at_in head_at is_head
    element_short h = simp (lt-leb 6 (end - at) h)

    pub element_bad : {r : Option ℕ} → r ≡ None → None ≡ step_of (head_at ws end at) → r ≡ step_of (element_at_in form ws end blk at)
    unfolding element_at_in
    element_bad f e = f ∙ sym (then_bad (head_at ws end at) _ (sym e))

    module _ {w : ℕ} (i : w ≡ get_or ws (at + 2) 0) (u : Result Kind Unnamed) (m : Names kind_number (w % kind_end) u) {r : Option ℕ} where
      pub element_more : {k : Kind} {p : ℕ} → Some k ≡ result_ok u → Some p ≡ step_of (head_at ws end at)
          → ((h : ElementHead) → r ≡ step_of (payload_at_in form ws end blk h (kind_number k) p))
          → r ≡ step_of (element_at_in form ws end blk at)
      unfolding element_at_in
      element_more {k} {p} o e g =
          let z : kind_number k ≡ get_or ws (at + 2) 0 % kind_end = rw i at (some_kind u m o) in
          sym (then_next (head_at ws end at) _ p r (sym e) λ h. sym (rw z at g h))

      -- of no kind
      pub element_unknown : r ≡ None → None ≡ result_ok u → r ≡ step_of (element_at_in form ws end blk at)
      unfolding element_at_in
      element_unknown f o =
          f
          ∙ sym
          (then_none (head_at ws end at) _
          λ h p. payload_none h p (get_or ws (at + 2) 0 % kind_end) (rw i at (no_kind u m o)))

    -- an alternative with no room, with a bad flag, with bad options, with good ones
    pub alternative_short : end - at < 5 → None ≡ step_of (alternative_at_in form ws end blk at)
    unfolding alternative_at_in
    alternative_short h = simp (lt-leb 5 (end - at) h)

    pub alternative_flag : {w : ℕ} → 5 ≤ end - at → w ≡ get_or ws (at + 2) 0 → most_alternative_flag < w → None ≡ step_of (alternative_at_in form ws end blk at)
    unfolding alternative_at_in
    alternative_flag h f k = simp (le-leb 5 (end - at) h, lt-leb (get_or ws (at + 2) 0) most_alternative_flag (omega arith))

    module _ (h : 5 ≤ end - at) {w : ℕ} (f : w ≡ get_or ws (at + 2) 0) (k : w ≤ most_alternative_flag)
        {n : ℕ} (o : n ≡ get_or ws (at + 3) 0) where
      pub alternative_bad : {r : Option ℕ} → r ≡ None → None ≡ step_of (many (option_at ws end) n (at + 5))
          → r ≡ step_of (alternative_at_in form ws end blk at)
      unfolding alternative_at_in
      alternative_bad t g =
          t
          ∙
          simp (le-leb 5 (end - at) h, le-leb (get_or ws (at + 2) 0) most_alternative_flag (omega arith), ← o)
          (sym (then_bad (many (option_at ws end) n (at + 5)) _ (sym g)))

      pub alternative_more : {m p : ℕ} {r : Option ℕ} → Some p ≡ step_of (many (option_at ws end) n (at + 5)) → m ≡ get_or ws (at + 4) 0
          → r ≡ step_of (many (element_at_in form ws end blk) m p) → r ≡ step_of (alternative_at_in form ws end blk at)
      unfolding alternative_at_in
      alternative_more {m} {p} {r} g u v =
          simp (le-leb 5 (end - at) h, le-leb (get_or ws (at + 2) 0) most_alternative_flag (omega arith), ← o)
          (sym
          (then_next (many (option_at ws end) n (at + 5)) _ p r (sym g)
          λ os.
          then_same {B = AlternativeOf B} (many (element_at_in form ws end blk) (get_or ws (at + 4) 0) p)
          (λ es. record { id = get_or ws at 0; carried = get_or ws (at + 1) 0; flag = get_or ws (at + 2) 0; options = os; elements = es })
          ∙ sym (rw u at v)))

    pub rule_short : end - at < 3 → None ≡ step_of (rule_at_in form ws end blk at)
    unfolding rule_at_in
    rule_short h = simp (lt-leb 3 (end - at) h)

    pub rule_room : {p : ℕ} → Some p ≡ step_of (rule_at_in form ws end blk at) → 3 ≤ end - at
    rule_room s =
        either (leb 3 (end - at)) (leb-true 3 (end - at)) (λ e. never (let z = s ∙ sym (rule_short (leb-false 3 (end - at) e)) in cc))

    module _ (h : 3 ≤ end - at) where
      pub rule_flags : {w : ℕ} → w ≡ get_or ws (at + 2) 0 → most_rule_flags < w → None ≡ step_of (rule_at_in form ws end blk at)
      unfolding rule_at_in
      rule_flags {w} f k = go (is_name (get_or ws (at + 1) 0)) refl
        where
          go : (b : Bool) → is_name (get_or ws (at + 1) 0) ≡ b → None ≡ step_of (rule_at_in form ws end blk at)
          go true t = simp (le-leb 3 (end - at) h, t, lt-leb (get_or ws (at + 2) 0) most_rule_flags (omega arith))
          go false t = simp (le-leb 3 (end - at) h, t)

      module _ {n : ℕ} (f : n ≡ get_or ws (at + 1) 0) {b : Bool} (g : b ≡ is_name n) where
        pub rule_name : b ≡ false → None ≡ step_of (rule_at_in form ws end blk at)
        unfolding rule_at_in
        rule_name t = simp (le-leb 3 (end - at) h, ← f, ← g, t)

        pub rule_more : {w : ℕ} {r : Option ℕ} → b ≡ true → w ≡ get_or ws (at + 2) 0 → w ≤ most_rule_flags → r ≡ step_of (blk (at + 3))
            → r ≡ step_of (rule_at_in form ws end blk at)
        unfolding rule_at_in
        rule_more t u k v =
            simp (
              le-leb 3 (end - at) h,
              ← f,
              ← g,
              t,
              le-leb (get_or ws (at + 2) 0) most_rule_flags (omega arith),
            )
            (v
            ∙ sym
            (then_same {B = RuleOf B} (blk (at + 3))
            λ b. record { id = get_or ws at 0; name = n; flags = get_or ws (at + 2) 0; body = b }))

  pub block_none : {d : ℕ} → d ≡ 0 → None ≡ step_of (block_at_in form ws end d at)
  unfolding block_at_in
  block_none e = rw e

  pub block_short : (d : ℕ) → (d ≡ 0 → ⊥) → end - at < 1 → None ≡ step_of (block_at_in form ws end d at)
  unfolding block_at_in
  block_short zero z h = absurd (z refl)
  block_short (suc d) z h = simp (lt-leb 1 (end - at) h)

  pub block_more : (d : ℕ) {n : ℕ} {r : Option ℕ} → (d ≡ 0 → ⊥) → 1 ≤ end - at → n ≡ get_or ws at 0
      → r ≡ step_of (many (alternative_at_in form ws end (block_at_in form ws end (d - 1))) n (at + 1)) → r ≡ step_of (block_at_in form ws end d at)
  unfolding block_at_in
  block_more zero z h f g = absurd (z refl)
  block_more (suc d) z h f g = simp (le-leb 1 (end - at) h, ← f) (simp sub-one at g)

pub ruleset heads = (quantifier_bad, quantifier_good, head_bad, head_good)

pub ruleset alternatives = (alternative_short, alternative_flag, alternative_bad, alternative_more)

pub ruleset blocks = (block_none, block_short, block_more)

pub ruleset trees = (payload_block, payload_leaf, element_short, element_bad, element_more, element_unknown, alternatives, blocks)

pub ruleset rule_laws = (rule_short, rule_flags, rule_name, rule_more)
