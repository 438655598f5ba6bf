-- Words written and read back.
use Prim.Native.Nat.{ℕ, suc, ◌+◌, ◌*◌, ◌/◌, ◌%◌, ◌<◌, ◌≤◌, ◌^◌}
use mathlib.Core.Path.{◌≡◌, sym, ap, ◌∙◌}
use mathlib.Core.List.{List, append_assoc}
use native.Mathlib.Omega.{arith}
use lib.ListN.{length, get_or, set, take, drop}
use Rattle.std.proofs.Common.{add-one, drop-drop, refl}
use lib.Seq.{sets, sets-eq}
use borrow.Rule.Slice.PartMut.{put_mid}
use Rattle.std.specs.Int.{w32, to_le_bytes}
use Rattle.grammar.specs.Words.{words, word_of}
use Rattle.grammar.specs.Laws.Words.{words_set, get_d_words}
use Rattle.words.specs.Words.{with_word}

rejoined : (w : ℕ) → w < 2 ^ 32 → word_of (w % 256) (w / 256 % 256) (w / 256 / 256 % 256) (w / 256 / 256 / 256 % 256) ≡ w
rejoined w h = omega arith

-- Four bytes written over a part are four stores.
pub stored : (before bs : List ℕ) (at n w : ℕ) → at + 4 ≤ length before → n ≡ 4 → bs ≡ to_le_bytes w32 w
    → put_mid at n before bs ≡ with_word before at w
stored before bs at n w h four e =
    let c : w / 256 ^ 2 % 256 ≡ w / 256 / 256 % 256 = omega arith in
    let d : w / 256 ^ 3 % 256 ≡ w / 256 / 256 / 256 % 256 = omega arith in
    let s = sets-eq (to_le_bytes w32 w) before at h in
    let i : suc (suc at) ≡ at + 2 = omega arith in
    let j : suc (at + 2) ≡ at + 3 = omega arith in
    let z : put_mid at 4 before (to_le_bytes w32 w) ≡ sets before at (to_le_bytes w32 w) =
    rw (drop-drop 4 at before) (sym (s ∙ append_assoc (take at before) (to_le_bytes w32 w) (drop (at + 4) before))) in
    rw (four, e) (z ∙ rw (c, d, i, j, add-one at) refl)

pub put_word_law : (before after : List ℕ) (at w : ℕ) → 4 * at + 4 ≤ length before → w < 2 ^ 32
    → after ≡ with_word before (4 * at) w
    → words after ≡ set (words before) at w
put_word_law before after at w h f e =
    ap words e ∙ words_set before at _ _ _ _ h ∙ ap (set (words before) at) (rejoined w f)

-- the word whose four bytes these are
pub word_law : (bs : List ℕ) (at : ℕ) {r : ℕ} → 4 * at + 4 ≤ length bs
    → r ≡ word_of (get_or bs (4 * at) 0) (get_or bs (4 * at + 1) 0) (get_or bs (4 * at + 2) 0) (get_or bs (4 * at + 3) 0)
    → r ≡ get_or (words bs) at 0
word_law bs at h e = e ∙ sym (get_d_words bs at h)
