-- The returns of the function that reads the trailer.
use Prim.Native.Nat.{ℕ, ◌+◌, ◌-◌, ◌/◌, ◌<◌, ◌≤◌}
use mathlib.Core.Path.{◌≡◌, refl, sym, ap, ◌∙◌}
use mathlib.Core.List.{List}
use mathlib.Core.Bool.{true, false}
use native.Mathlib.Omega.{arith}
use lib.ListN.{length, get_or}
use lib.Dec.{leb}
use borrow.Author.Tests.{le-leb, lt-leb, eq-eqb, ne_eqb}
use Rattle.grammar.specs.Numbers.{trailer_words}
use Rattle.grammar.specs.Words.{words}
use Rattle.grammar.specs.Valid.{is_kind}
use Rattle.grammar.specs.Reading.{is_trailer}
use Rattle.grammar.specs.Laws.Words.{length_words}
use Rattle.std.specs.Prelude.{Some, None, Result, Ok, Err, is_ok}
use Rattle.std.specs.Result.{result_ok}
use Rattle.words.specs.declared.numbers.UnitKind.{UnitKind}
use Rattle.words.specs.declared.numbers.Unnamed.{Unnamed}
use Rattle.words.specs.Kinds.{Names, unit_number}
use Rattle.words.specs.Laws.Kinds.{unit_named}
use Rattle.sheet.specs.Answer.{TrailerRead}

no_trailer : {ws : List ℕ} {t : ℕ} → false ≡ is_trailer ws → TrailerRead ws t None
no_trailer e = record { good = e; kind = λ k f. absurd (let z : ◌≡◌ {A = ℕ} 0 1 = cc in omega arith) }

ok_of : {A B : Type 0} {a : A} (r : Result A B) → Some a ≡ result_ok r → r ≡ Ok a
ok_of (Ok b) e = cc
ok_of (Err b) e = absurd (let z : ◌≡◌ {A = ℕ} 0 1 = cc in omega arith)

not_ok : {A B : Type 0} (r : Result A B) → None ≡ result_ok r → is_ok r ≡ false
not_ok (Ok b) e = absurd (let z : ◌≡◌ {A = ℕ} 0 1 = cc in omega arith)
not_ok (Err b) e = refl

pub in_front : {t n : ℕ} → t + trailer_words ≡ n → t ≡ n - trailer_words
in_front e = omega arith

module _ (bs : List ℕ) {t : ℕ} (e : t ≡ length bs / 4 - trailer_words) where
  pub here : length (words bs) - trailer_words ≡ t
  here = rw length_words (sym e)

  module _ {k : ℕ} (f : k ≡ get_or (words bs) t 0) where
    module _ (u : Result UnitKind Unnamed) (m : Names unit_number k u) where
      kind_is : is_kind k ≡ is_ok u
      kind_is = sym (unit_named k u m)

      pub kind_other : None ≡ result_ok u → TrailerRead (words bs) t None
      unfolding is_trailer
      kind_other h = let i = not_ok u h in no_trailer (simp (here, ← f, kind_is, i))

      module _ {a : UnitKind} (o : Some a ≡ result_ok u) {x : ℕ} (i : x ≡ get_or (words bs) (t + 1) 0) where
        h : u ≡ Ok a
        h = ok_of u o

        good : is_ok u ≡ true
        good = ap is_ok h

        pub first_other : (x ≡ t → ⊥) → TrailerRead (words bs) t None
        unfolding is_trailer
        first_other n = no_trailer (simp (here, ← f, kind_is, good, ← i, ne_eqb x t n))

        module _ {y : ℕ} (n : x ≡ t) (j : y ≡ get_or (words bs) (t + 2) 0) where
          decided : leb y x ≡ is_trailer (words bs)
          unfolding is_trailer
          decided = simp (here, ← f, kind_is, good, ← i, ← j, eq-eqb x t n)

          pub second_past : x < y → TrailerRead (words bs) t None
          second_past l = no_trailer (sym (lt-leb y x l) ∙ decided)

          pub trailer_named : y ≤ x → TrailerRead (words bs) t (Some a)
          trailer_named l =
              record {
                good = sym (le-leb y x l) ∙ decided;
                kind = λ b e. let same : a ≡ b = cc in rw (← same) ((rw h at m) ∙ f);
              }
