-- How many derivations the strings of Demands.Counted have.
use Rattle.std.specs.Prelude.{ℕ, ◌⊎◌, Bool, true, false}
use Rattle.std.proofs.Math.Path.{◌≡◌, refl, ap}
use Rattle.std.proofs.Common.{sym, ◌∙◌, inl, inr, true≢false, arith}
use mathlib.Core.List.{[], ◌∷◌, ◌++◌, append-nil}
use Rattle.std.proofs.Math.Option.{none, some, none-ne-some}
use Rattle.grammar.specs.Lists.{distinct, member}
use Rattle.grammar.specs.Laws.Lists.{rest_of}
use Rattle.language.specs.Shape.{Symbol, unknown_symbol, Word, Shape, eps, fail, symbol, call_of, seq, alt, opt, star, plus, quantified}
use Rattle.language.specs.Shape.{erase_leaf, erase_element, erase_block, Shapes, find}
use Rattle.language.specs.Readings.{Tree, t_eps, t_symbol, t_call, t_unknown, t_seq, t_left, t_right, t_absent, t_present, t_none, t_more}
use Rattle.language.specs.Readings.{t_some, yield}
use Rattle.language.specs.Laws.Trees.Carry.{unknown_path}
use Rattle.language.specs.Laws.Trees.Algebra.{fails}
use Rattle.laws.specs.Demands.Strings.{A, B, often, in_order, token_or_call, recursive, silent, same_twice, any_any}
use Rattle.laws.specs.Demands.Counted.{ReadingsCounted}
use Rattle.laws.specs.Derivation.Counting.{Apart, One, Two, call_apart, call_one, call_two, at_most_one, just_one, just_two}

-- Strings that differ.
no_symbol : {a : Symbol} {w : Word} → [] ≡ a ∷ w → ⊥
no_symbol e = let z : ◌≡◌ {A = ℕ} 0 1 = cc in omega arith

-- The trees of one element.
module _ {G : Shapes} {a : Symbol} where
  symbol_apart : Apart G (symbol a)
  symbol_apart t_symbol t_symbol e = refl

  opt_apart : Apart G (opt (symbol a))
  unfolding yield
  opt_apart t_absent t_absent e = refl
  opt_apart t_absent (t_present t_symbol) e = absurd (no_symbol e)
  opt_apart (t_present t_symbol) t_absent e = absurd (no_symbol (sym e))
  opt_apart (t_present t_symbol) (t_present t_symbol) e = refl

  star_apart : Apart G (star (symbol a))
  unfolding yield
  star_apart t_none t_none e = refl
  star_apart t_none (t_more t_symbol y) e = absurd (no_symbol e)
  star_apart (t_more t_symbol x) t_none e = absurd (no_symbol (sym e))
  star_apart (t_more t_symbol x) (t_more t_symbol y) e = ap (t_more t_symbol) (star_apart x y (rest_of e))

  plus_apart : Apart G (plus (symbol a))
  unfolding yield
  plus_apart (t_some t_symbol x) (t_some t_symbol y) e = ap (t_some t_symbol) (star_apart x y (rest_of e))

-- A rule of one alternative with one element.
alone_apart : {G : Shapes} (s : Shape) → Apart G s → Apart G (alt (seq s eps) fail)
unfolding yield
alone_apart s h (t_left (t_seq x t_eps)) (t_left (t_seq y t_eps)) e =
    ap (λ z. t_left (t_seq z t_eps)) (h x y (sym (append-nil (yield x)) ∙ (e ∙ append-nil (yield y))))
alone_apart s h (t_left x) (t_right y) e = absurd (fails y)
alone_apart s h (t_right x) y e = absurd (fails x)

-- Where no two trees have one string, a tree is the only one with its string.
apart_one : {G : Shapes} {s : Shape} → Apart G s → (x : Tree G s) {w : Word} → yield x ≡ w → One G s w
apart_one h x p = (x, p, λ y q. h y x (q ∙ sym p))

-- The last symbol of a string, and what is in front of it.
abbrev ends : Symbol → Word → Symbol
ends d [] = d
ends d (a ∷ w) = ends a w

ends_snoc : (d a : Symbol) (w : Word) → ends d (w ++ (a ∷ [])) ≡ a
ends_snoc d a [] = refl
ends_snoc d a (b ∷ w) = ends_snoc b a w

abbrev front : Word → Word
front [] = []
front (a ∷ []) = []
front (a ∷ b ∷ w) = a ∷ front (b ∷ w)

front_snoc : (w : Word) (a : Symbol) → front (w ++ (a ∷ [])) ≡ w
front_snoc [] a = refl
front_snoc (b ∷ []) a = refl
front_snoc (b ∷ c ∷ w) a = ap (λ l. b ∷ l) (front_snoc (c ∷ w) a)

A-not-B : A ≡ B → ⊥
A-not-B e = let z : ◌≡◌ {A = ℕ} 7 8 = cc in omega arith

-- s: s A | B;
abbrev body : Shape
body = alt (seq (call_of 3) (seq (symbol A) eps)) (alt (seq (symbol B) eps) fail)

module _ {G : Shapes} (e : find G 3 ≡ some body) where
  base_one : One G (call_of 3) (B ∷ [])
  unfolding yield
  base_one = call_one 3 e (t_right (t_left (t_seq t_symbol t_eps)), refl, only)
    where
      only : (y : Tree G body) → yield y ≡ B ∷ [] → y ≡ t_right (t_left (t_seq t_symbol t_eps))
      only (t_left (t_seq x (t_seq t_symbol t_eps))) p =
          absurd (A-not-B (sym (ends_snoc A A (yield x)) ∙ ap (ends A) p))
      only (t_right (t_left (t_seq t_symbol t_eps))) p = refl
      only (t_right (t_right x)) p = absurd (fails x)

  more_one : (b : Symbol) (w : Word) → One G (call_of 3) (b ∷ w) → One G (call_of 3) (b ∷ (w ++ (A ∷ [])))
  unfolding yield
  more_one b w (x, p, h) =
      call_one 3 e (t_left (t_seq x (t_seq t_symbol t_eps)), ap (λ l. l ++ (A ∷ [])) p, only)
    where
      longer : (w : Word) → [] ≡ w ++ (A ∷ []) → ⊥
      longer [] q = no_symbol q
      longer (c ∷ w) q = no_symbol q

      only : (y : Tree G body) → yield y ≡ b ∷ (w ++ (A ∷ [])) → y ≡ t_left (t_seq x (t_seq t_symbol t_eps))
      only (t_left (t_seq y (t_seq t_symbol t_eps))) q =
          ap (λ z. t_left (t_seq z (t_seq t_symbol t_eps)))
          (h y (sym (front_snoc (yield y) A) ∙ (ap front q ∙ front_snoc (b ∷ w) A)))
      only (t_right (t_left (t_seq t_symbol t_eps))) q = absurd (longer w (rest_of q))
      only (t_right (t_right y)) q = absurd (fails y)

-- s: A B;
order_one : {G : Shapes} (a b : Symbol) → One G (alt (seq (symbol a) (seq (symbol b) eps)) fail) (a ∷ b ∷ [])
unfolding yield
order_one {G} a b = (t_left (t_seq t_symbol (t_seq t_symbol t_eps)), refl, only)
  where
    only : (y : Tree G (alt (seq (symbol a) (seq (symbol b) eps)) fail)) → yield y ≡ a ∷ b ∷ []
        → y ≡ t_left (t_seq t_symbol (t_seq t_symbol t_eps))
    only (t_left (t_seq t_symbol (t_seq t_symbol t_eps))) q = refl
    only (t_right y) q = absurd (fails y)

-- s: A | A;
slot_two : {G : Shapes} (a : Symbol) → Two G (alt (seq (symbol a) eps) (alt (seq (symbol a) eps) fail)) (a ∷ [])
unfolding yield
slot_two {G} a = (
  t_left (t_seq t_symbol t_eps),
  t_right (t_left (t_seq t_symbol t_eps)),
  refl,
  refl,
  λ e. true≢false (ap is_left e),
  each,
)
  where
    is_left : Tree G (alt (seq (symbol a) eps) (alt (seq (symbol a) eps) fail)) → Bool
    is_left (t_left x) = true
    is_left (t_right x) = false

    each : (z : Tree G (alt (seq (symbol a) eps) (alt (seq (symbol a) eps) fail))) → yield z ≡ a ∷ []
        → (z ≡ t_left (t_seq t_symbol t_eps)) ⊎ (z ≡ t_right (t_left (t_seq t_symbol t_eps)))
    each (t_left (t_seq t_symbol t_eps)) q = inl refl
    each (t_right (t_left (t_seq t_symbol t_eps))) q = inr refl
    each (t_right (t_right y)) q = absurd (fails y)

-- s: A* A*;
count_two : {G : Shapes} (a : Symbol) → Two G (alt (seq (star (symbol a)) (seq (star (symbol a)) eps)) fail) (a ∷ [])
unfolding yield
count_two {G} a = (
  t_left (t_seq (t_more t_symbol t_none) (t_seq t_none t_eps)),
  t_left (t_seq t_none (t_seq (t_more t_symbol t_none) t_eps)),
  refl,
  refl,
  λ e. true≢false (ap is_first e),
  each,
)
  where
    is_first : Tree G (alt (seq (star (symbol a)) (seq (star (symbol a)) eps)) fail) → Bool
    is_first (t_left (t_seq (t_more x y) z)) = true
    is_first (t_left (t_seq t_none z)) = false
    is_first (t_right x) = false

    each : (z : Tree G (alt (seq (star (symbol a)) (seq (star (symbol a)) eps)) fail)) → yield z ≡ a ∷ []
        → (z ≡ t_left (t_seq (t_more t_symbol t_none) (t_seq t_none t_eps)))
        ⊎ (z ≡ t_left (t_seq t_none (t_seq (t_more t_symbol t_none) t_eps)))
    each (t_left (t_seq (t_more t_symbol t_none) (t_seq t_none t_eps))) q = inl refl
    each (t_left (t_seq t_none (t_seq (t_more t_symbol t_none) t_eps))) q = inr refl
    each (t_left (t_seq t_none (t_seq t_none t_eps))) q = absurd (no_symbol q)
    each (t_left (t_seq t_none (t_seq (t_more t_symbol (t_more t_symbol x)) t_eps))) q = absurd (no_symbol (sym (rest_of q)))
    each (t_left (t_seq (t_more t_symbol (t_more t_symbol x)) y)) q = absurd (no_symbol (sym (rest_of q)))
    each (t_left (t_seq (t_more t_symbol t_none) (t_seq (t_more t_symbol x) t_eps))) q = absurd (no_symbol (sym (rest_of q)))
    each (t_right y) q = absurd (fails y)

-- s: A | x;
abbrev token_first : Shape
token_first = alt (seq (symbol A) eps) (alt (seq (call_of 5) eps) fail)

module _ {G : Shapes} (e : find G 5 ≡ none) where
  token_one : One G token_first (A ∷ [])
  unfolding yield
  token_one = (t_left (t_seq t_symbol t_eps), refl, only)
    where
      only : (y : Tree G token_first) → yield y ≡ A ∷ [] → y ≡ t_left (t_seq t_symbol t_eps)
      only (t_left (t_seq t_symbol t_eps)) q = refl
      only (t_right (t_left (t_seq (t_unknown f) t_eps))) q = absurd (let z : ◌≡◌ {A = ℕ} 0 1 = cc in omega arith)
      only (t_right (t_left (t_seq (t_call {b = b} f y) t_eps))) q = absurd (none-ne-some b (sym e ∙ f))
      only (t_right (t_right y)) q = absurd (fails y)

  unknown_one : One G token_first (unknown_symbol 5 ∷ [])
  unfolding yield
  unknown_one = (t_right (t_left (t_seq (t_unknown e) t_eps)), refl, only)
    where
      only : (y : Tree G token_first) → yield y ≡ unknown_symbol 5 ∷ [] → y ≡ t_right (t_left (t_seq (t_unknown e) t_eps))
      only (t_left (t_seq t_symbol t_eps)) q = absurd (let z : ◌≡◌ {A = ℕ} 0 1 = cc in omega arith)
      only (t_right (t_left (t_seq (t_unknown f) t_eps))) q = ap (λ z. t_right (t_left (t_seq z t_eps))) (unknown_path f e)
      only (t_right (t_left (t_seq (t_call {b = b} f y) t_eps))) q = absurd (none-ne-some b (sym e ∙ f))
      only (t_right (t_right y)) q = absurd (fails y)

-- s: {} {}? ();
silent_one : {G : Shapes} → One G (alt (seq eps (seq eps (seq eps eps))) fail) []
unfolding yield
silent_one {G} = (t_left (t_seq t_eps (t_seq t_eps (t_seq t_eps t_eps))), refl, only)
  where
    only : (y : Tree G (alt (seq eps (seq eps (seq eps eps))) fail)) → yield y ≡ []
        → y ≡ t_left (t_seq t_eps (t_seq t_eps (t_seq t_eps t_eps)))
    only (t_left (t_seq t_eps (t_seq t_eps (t_seq t_eps t_eps)))) q = refl
    only (t_right y) q = absurd (fails y)

pub readings_counted_lem : ReadingsCounted
unfolding find erase_block erase_element erase_leaf quantified distinct member yield
readings_counted_lem =
    record {
      once = at_most_one (often 0) _ [] refl refl refl refl refl (call_apart 3 refl (alone_apart (symbol A) symbol_apart));
      optional = at_most_one (often 1) _ [] refl refl refl refl refl (call_apart 3 refl (alone_apart (opt (symbol A)) opt_apart));
      optional_nongreedy = at_most_one (often 2) _ [] refl refl refl refl refl (call_apart 3 refl (alone_apart (opt (symbol A)) opt_apart));
      any = at_most_one (often 3) _ [] refl refl refl refl refl (call_apart 3 refl (alone_apart (star (symbol A)) star_apart));
      any_nongreedy = at_most_one (often 4) _ [] refl refl refl refl refl (call_apart 3 refl (alone_apart (star (symbol A)) star_apart));
      some = at_most_one (often 5) _ [] refl refl refl refl refl (call_apart 3 refl (alone_apart (plus (symbol A)) plus_apart));
      some_nongreedy = at_most_one (often 6) _ [] refl refl refl refl refl (call_apart 3 refl (alone_apart (plus (symbol A)) plus_apart));
      any_twice = just_one (often 3) _ [] refl refl refl refl refl (call_one 3 refl
          (apart_one (alone_apart (star (symbol A)) star_apart)
          (t_left (t_seq (t_more t_symbol (t_more t_symbol t_none)) t_eps)) refl));
      some_twice = just_one (often 5) _ [] refl refl refl refl refl (call_one 3 refl
          (apart_one (alone_apart (plus (symbol A)) plus_apart)
          (t_left (t_seq (t_some t_symbol (t_more t_symbol t_none)) t_eps)) refl));
      in_order = just_one in_order _ [] refl refl refl refl refl (call_one 3 refl (order_one A B));
      token = just_one token_or_call _ [] refl refl refl refl refl (call_one 3 refl (token_one refl));
      unknown = just_one token_or_call _ [] refl refl refl refl refl (call_one 3 refl (unknown_one refl));
      recursion = just_one recursive _ [] refl refl refl refl refl (more_one refl B (A ∷ []) (more_one refl B [] (base_one refl)));
      nothing = just_one silent _ [] refl refl refl refl refl (call_one 3 refl silent_one);
      either_slot = just_two same_twice _ [] refl refl refl refl refl (call_two 3 refl (slot_two A));
      either_count = just_two any_any _ [] refl refl refl refl refl (call_two 3 refl (count_two A));
    }
