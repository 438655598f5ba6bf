-- The tests of one element of the list, by the words of its head and its payload.
use Prim.Native.Nat.{ℕ, ◌+◌, ◌/◌, ◌%◌, ◌<◌, ◌≤◌}
use mathlib.Core.Path.{◌≡◌, refl, sym, ap, ◌∙◌}
use mathlib.Core.List.{List}
use mathlib.Core.Option.{Option, none, some}
use mathlib.Core.Bool.{Bool, true, false, ◌&&◌, ◌||◌, not, true≢false, false≢true}
use native.Mathlib.Omega.{arith}
use lib.ListN.{get_or}
use lib.Dec.{eqb, ltb}
use borrow.Author.Tests.{eqb-true, lt-ltb, le-ltb}
use Rattle.grammar.specs.Form.{newest}
use Rattle.grammar.specs.Numbers.{once, call_kind, kind_end}
use Rattle.grammar.specs.Tree.{ElementHead, Call, Leaf, epsilon, action, predicate, call, token, terminal, end_of_input, Element, leaf, block}
use Rattle.grammar.specs.Tree.{Block}
use Rattle.grammar.specs.Encode.{leaf_kind, encode_leaf, encode_leaf_in}
use Rattle.grammar.specs.Valid.{ok_leaf}
use Rattle.grammar.specs.Stands.{Spans}
use Rattle.grammar.specs.Found.{ElementSpans, HeadAt}
use Rattle.grammar.specs.Laws.Parse.{either}
use Rattle.grammar.specs.Laws.Opened.{HeadWords, Opened, opened_leaf, opened_block, opened, call_stands}
use Rattle.reference.specs.Walks.{sort_of, is_epsilon_only}
use Rattle.reference.specs.Substitute.{plain}
use Rattle.planned.specs.Layout.{made_if}
use Rattle.std.specs.Prelude.{◌⊎◌, Result, Err}
use Rattle.words.specs.declared.numbers.Kind.{Kind}
use Rattle.words.specs.declared.numbers.Kind.TheVariants as kind
use Rattle.words.specs.declared.numbers.Quantifier.{Quantifier}
use Rattle.words.specs.declared.numbers.Quantifier.TheVariants.{Once}
use Rattle.words.specs.declared.numbers.Unnamed.{Unnamed}
use Rattle.words.specs.Kinds.{Names, kind_number, quantifier_number}
use Rattle.words.specs.Laws.Kinds.{silent_kind}
use Rattle.rewritable.specs.Items.{call_of, is_call_of, gives_arguments, ItemTested}

-- A number that names no quantifier isn't that of an element that is there once.
pub never_once : {v w : ℕ} → v ≡ w → {r : Result Quantifier Unnamed} {x : Unnamed} → Names quantifier_number (v / kind_end) r → r ≡ Err x
    → false ≡ eqb (w / kind_end) once
never_once {v} {w} e {r} {x} m f = go (λ a b. (rw f at m).1 a (b ∙ ap (λ k. k / kind_end) (sym e)))
  where
    go : ((a : Quantifier) → quantifier_number a ≡ w / kind_end → ⊥) → false ≡ eqb (w / kind_end) once
    go never = either (eqb (w / kind_end) once) (λ a. absurd (never Once (sym (eqb-true (w / kind_end) once a)))) (λ a. sym a)

-- What an element is as a call of a name.
abbrev is_some : Option Call → Bool
is_some o = elim o [ none ↦ false | some c ↦ true ]

abbrev gives : Option Call → Bool
gives o = elim o [ none ↦ false | some c ↦ not (eqb c.arguments 0) ]

abbrev pub some_if : Bool → Call → Option Call
some_if b c = elim b [ true ↦ some c | false ↦ none ]

-- An element of depth d.
abbrev leaf_at : (d : ℕ) → ElementHead → Leaf → Element (Block d)
leaf_at d h l = leaf h l

-- The words of a call.
record CallWords (ws : List ℕ) (at p : ℕ) (h : ElementHead) (c : Call) : Type 0 where
  kind : get_or ws (at + 2) 0 % kind_end ≡ call_kind
  quantifier : get_or ws (at + 2) 0 / kind_end ≡ h.quantifier
  name : get_or ws p 0 ≡ c.name
  arguments : get_or ws (p + 1) 0 ≡ c.arguments

module _ (d m : ℕ) (made : Bool) where
  -- An element made plain or not: a call by its words, or none.
  data Sorted (ws : List ℕ) (at p : ℕ) (e : Element (Block d)) : Type 0 where
    is_call : (h : ElementHead) (c : Call) → CallWords ws at p h c
        → call_of m (made_if made e) ≡ some_if ((made || eqb h.quantifier once) && eqb c.name m) c
        → Sorted ws at p e
    no_call : (get_or ws (at + 2) 0 % kind_end ≡ call_kind → ⊥) → call_of m (made_if made e) ≡ none → Sorted ws at p e

  made_call : (h : ElementHead) (c : Call)
      → call_of m (made_if made (leaf_at d h (call c)))
      ≡ some_if ((made || eqb h.quantifier once) && eqb c.name m) c
  unfolding call_of plain sort_of
  made_call h c = go made
    where
      go : (b : Bool)
          → call_of m (made_if b (leaf_at d h (call c)))
          ≡ some_if ((b || eqb h.quantifier once) && eqb c.name m) c
      go true = refl
      go false = refl

  -- Made plain it is no call either.
  made_other : (e : Element (Block d)) → call_of m e ≡ none → call_of m (plain e) ≡ none → call_of m (made_if made e) ≡ none
  made_other e a b = go made
    where
      go : (x : Bool) → call_of m (made_if x e) ≡ none
      go true = b
      go false = a

  module _ {ws : List ℕ} {end at k p : ℕ} (head : HeadAt ws end at k p) where
    sorted_item : (e : Element (Block d)) (q : ℕ) → ElementSpans ws end d at e q → Sorted ws at p e
    unfolding leaf_kind encode_leaf_in call_of plain sort_of
    sorted_item e q s = go (opened e s)
      where
        one : {q o : ℕ} (h : ElementHead) (l : Leaf) → HeadWords ws end at h (leaf_kind l) o → Spans ws end encode_leaf ok_leaf o l q
            → Sorted ws at p (leaf h l)
        one h epsilon w u = no_call (λ z. let y = w.packed in omega arith) (made_other (leaf h epsilon) refl refl)
        one h (action a) w u = no_call (λ z. let y = w.packed in omega arith) (made_other (leaf h (action a)) refl refl)
        one h (predicate a) w u = no_call (λ z. let y = w.packed in omega arith) (made_other (leaf h (predicate a)) refl refl)
        one {o = o} h (call c) w u =
            let x : o ≡ p = let y = w.place in let z = head.payload_is in omega arith in
            let u' = rw x at u in
            let s = call_stands {form = newest} c u'.stands in
            is_call h c
            (record {
              kind = let y = w.packed in omega arith;
              quantifier = let y = w.packed in omega arith;
              name = s.named;
              arguments = s.arguments_are;
            })
            (made_call h c)
        one h (token a) w u = no_call (λ z. let y = w.packed in omega arith) (made_other (leaf h (token a)) refl refl)
        one h terminal w u = no_call (λ z. let y = w.packed in omega arith) (made_other (leaf h terminal) refl refl)
        one h end_of_input w u = no_call (λ z. let y = w.packed in omega arith) (made_other (leaf h end_of_input) refl refl)

        go : {e : Element (Block d)} {q : ℕ} → Opened ws end d at q e → Sorted ws at p e
        go (opened_leaf {h = h} {l = l} o w u) = one h l w u
        go (opened_block {h = h} {b = b} o w u) = no_call (λ z. let y = w.packed in omega arith) (made_other (block h b) refl refl)

    -- Whether it is a call of the name: no call at all; with another quantifier; with quantifier 0.
    pub not_call : (k ≡ call_kind → ⊥) → ItemTested ws end d at made (is_call_of m) false
    unfolding is_call_of
    not_call n = record { is = λ e q s. go (sorted_item e q s) }
      where
        go : {e : Element (Block d)} → Sorted ws at p e → false ≡ is_some (call_of m (made_if made e))
        go (is_call h c w f) = absurd (n (head.kind_is ∙ w.kind))
        go (no_call z f) = sym (ap is_some f)

    pub other_call : {b : Bool} → b ≡ (made || eqb (get_or ws (at + 2) 0 / kind_end) once) → b ≡ false
        → ItemTested ws end d at made (is_call_of m) false
    unfolding is_call_of
    other_call {b} i n = record { is = λ e q s. go (sorted_item e q s) }
      where
        go : {e : Element (Block d)} → Sorted ws at p e → false ≡ is_some (call_of m (made_if made e))
        go (is_call h c w f) =
            sym (ap is_some (f ∙ ap (λ x. some_if (x && eqb c.name m) c)
            (ap (λ x. made || eqb x once) (sym w.quantifier) ∙ sym i ∙ n)))
        go (no_call z f) = sym (ap is_some f)

    pub call_named : {b : Bool} → b ≡ (made || eqb (get_or ws (at + 2) 0 / kind_end) once) → b ≡ true → k ≡ call_kind → {x : ℕ}
        → x ≡ get_or ws p 0
        → ItemTested ws end d at made (is_call_of m) (eqb x m)
    unfolding is_call_of
    call_named {b} i t c {x} y = record { is = λ e q s. go (sorted_item e q s) }
      where
        some_is : (b : Bool) (c : Call) → b ≡ is_some (some_if b c)
        some_is true c = refl
        some_is false c = refl

        go : {e : Element (Block d)} → Sorted ws at p e → eqb x m ≡ is_some (call_of m (made_if made e))
        go (is_call h c w f) =
            ap (λ z. eqb z m) (y ∙ w.name)
            ∙ some_is (eqb c.name m) c
            ∙ sym (ap is_some (f ∙ ap (λ x. some_if (x && eqb c.name m) c)
            (ap (λ x. made || eqb x once) (sym w.quantifier) ∙ sym i ∙ t)))
        go (no_call z f) = absurd (z (sym head.kind_is ∙ c))

    -- Whether such a call gives arguments.
    pub call_gives : {b : Bool} → ItemTested ws end d at made (is_call_of m) b → b ≡ true → {x : ℕ} → x ≡ get_or ws (p + 1) 0
        → ItemTested ws end d at made (gives_arguments m) (not (eqb x 0))
    unfolding is_call_of gives_arguments
    call_gives {b} i t {x} y = record { is = λ e q s. go (sorted_item e q s) (sym (i.is e q s) ∙ t) }
      where
        one : (b : Bool) (c : Call) → is_some (some_if b c) ≡ true
            → not (eqb c.arguments 0) ≡ gives (some_if b c)
        one true c e = refl
        one false c e = absurd (false≢true e)

        go : {e : Element (Block d)} → Sorted ws at p e → is_some (call_of m (made_if made e)) ≡ true
            → not (eqb x 0) ≡ gives (call_of m (made_if made e))
        go (is_call h c w f) z =
            ap (λ u. not (eqb u 0)) (y ∙ w.arguments)
            ∙ one ((made || eqb h.quantifier once) && eqb c.name m) c (sym (ap is_some f) ∙ z) ∙ sym (ap gives f)
        go (no_call u f) z = absurd (false≢true (sym (ap is_some f) ∙ z))

  pub no_call_gives : {ws : List ℕ} {end at : ℕ} {b : Bool} → ItemTested ws end d at made (is_call_of m) b → b ≡ false
      → ItemTested ws end d at made (gives_arguments m) false
  unfolding is_call_of gives_arguments
  no_call_gives i n = record { is = λ e q s. go (call_of m (made_if made e)) (sym (i.is e q s) ∙ n) }
    where
      go : (o : Option Call) → is_some o ≡ false → false ≡ gives o
      go none e = refl
      go (some c) e = absurd (true≢false e)

pub ruleset calls = (not_call, other_call, call_named, call_gives, no_call_gives)

-- Whether it is epsilon, an action or a predicate.
kind_sided : (d : ℕ) {made : Bool} {ws : List ℕ} {end at k p : ℕ} → HeadAt ws end at k p
    → ItemTested ws end d at made is_epsilon_only (ltb k call_kind)
unfolding is_epsilon_only plain sort_of leaf_kind
kind_sided d {made} {ws} {end} {at} {k} head = record { is = λ e q s. go made (opened e s) }
  where
    low : {h : ElementHead} {j o : ℕ} → HeadWords ws end at h j o → j < call_kind → ltb k call_kind ≡ true
    low w l = lt-ltb k call_kind (let z = w.packed in let y = head.kind_is in omega arith)

    high : {h : ElementHead} {j o : ℕ} → HeadWords ws end at h j o → call_kind ≤ j → j < kind_end → ltb k call_kind ≡ false
    high w l m = le-ltb k call_kind (let z = w.packed in let y = head.kind_is in omega arith)

    of : (made : Bool) (h : ElementHead) (l : Leaf) → is_epsilon_only (made_if made (leaf_at d h l)) ≡ is_epsilon_only (leaf_at d h l)
    of true h l = refl
    of false h l = refl

    one : (h : ElementHead) (l : Leaf) {o : ℕ} → HeadWords ws end at h (leaf_kind l) o → ltb k call_kind ≡ is_epsilon_only (leaf_at d h l)
    one h epsilon w = low w (omega arith)
    one h (action a) w = low w (omega arith)
    one h (predicate a) w = low w (omega arith)
    one h (call c) w = high w (omega arith) (omega arith)
    one h (token a) w = high w (omega arith) (omega arith)
    one h terminal w = high w (omega arith) (omega arith)
    one h end_of_input w = high w (omega arith) (omega arith)

    go : (made : Bool) {e : Element (Block d)} {q : ℕ} → Opened ws end d at q e → ltb k call_kind ≡ is_epsilon_only (made_if made e)
    go made (opened_leaf {h = h} {l = l} o w u) = one h l w ∙ sym (of made h l)
    go true (opened_block o w u) = high w (omega arith) (omega arith)
    go false (opened_block o w u) = high w (omega arith) (omega arith)

module _ (d : ℕ) {made : Bool} {ws : List ℕ} {end at p : ℕ} (k : Kind) (head : HeadAt ws end at (kind_number k) p) where
  pub kind_silent : k ≡ kind.Epsilon ⊎ (k ≡ kind.Action ⊎ k ≡ kind.Predicate) → ItemTested ws end d at made is_epsilon_only true
  kind_silent e = rw (lt-ltb (kind_number k) call_kind (silent_kind e)) at (kind_sided d {made = made} head)

  pub kind_loud : (k ≡ kind.Epsilon → ⊥) → (k ≡ kind.Action → ⊥) → (k ≡ kind.Predicate → ⊥) → ItemTested ws end d at made is_epsilon_only false
  kind_loud a b c = rw (le-ltb (kind_number k) call_kind (loud k a b c)) at (kind_sided d {made = made} head)
    where
      loud : (k : Kind) → (k ≡ kind.Epsilon → ⊥) → (k ≡ kind.Action → ⊥) → (k ≡ kind.Predicate → ⊥) → call_kind ≤ kind_number k
      loud kind.Epsilon a b c = absurd (a refl)
      loud kind.Action a b c = absurd (b refl)
      loud kind.Predicate a b c = absurd (c refl)
      loud kind.Call a b c = omega arith
      loud kind.Token a b c = omega arith
      loud kind.Terminal a b c = omega arith
      loud kind.Block a b c = omega arith
      loud kind.EndOfInput a b c = omega arith
