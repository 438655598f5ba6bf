-- The entries of a trail listed one after the other.
use Prim.Native.Nat.{ℕ, ◌+◌, ◌-◌, ◌*◌, ◌<◌, ◌≤◌}
use mathlib.Core.Path.{◌≡◌, refl, ap, ◌∙◌}
use mathlib.Core.List.{List, [], ◌∷◌}
use native.Mathlib.Omega.{arith}
use lib.ListN.{get_or}
use Rattle.grammar.specs.Lists.{each}
use Rattle.grammar.specs.Words.{words}
use Rattle.grammar.specs.Found.{Found}
use Rattle.grammar.specs.Fold.{folded, WalkedOne}
use Rattle.grammar.specs.Laws.Stands.{stands_length, stands_head}
use Rattle.grammar.specs.Laws.Fold.{Folding}
use Rattle.reference.specs.Apply.{Entry}
use Rattle.reference.specs.Run.{encode_entry}
use Rattle.listed.specs.Text.{line}
use Rattle.listed.specs.Listed.{entry_word, entry_line}
use Rattle.listed.specs.Put.{PutFew}
use Rattle.listed.specs.Walk.{Pen, pen, put, entry_step, any_entry}
use Rattle.listed.specs.Ready.{EntriesPut}
use Rattle.listed.proofs.Laws.Walk.{put_is}
use Rattle.listed.proofs.Laws.Rules.{puts, pen_put, steps_more, steps_done}

-- A loop over entries.
abbrev pub EntriesListing : (ws : List ℕ) (end n at : ℕ) (p₀ : Pen) (i here : ℕ) (p : Pen) → Type 0
EntriesListing ws end = Folding ws end encode_entry any_entry entry_step

module _ {ws : List ℕ} {end at : ℕ} where
  entry_room : Found ws end encode_entry any_entry at → at + 4 ≤ end
  unfolding encode_entry
  entry_room f = let l = stands_length f.spans.stands in omega arith

  pub list_entry : {b a : List ℕ} {n r : ℕ} → Found ws end encode_entry any_entry at
      → PutFew b a n r (line entry_word (get_or ws at 0 ∷ get_or ws (at + 1) 0 ∷ get_or ws (at + 2) 0 ∷ get_or ws (at + 3) 0 ∷ [])) 46
      → WalkedOne ws end encode_entry any_entry entry_step at (pen b n 0) (at + 4) (pen a r 0)
  unfolding entry_step entry_line encode_entry
  list_entry {b} {n = n} f x =
      record {
        passed = λ e q s. let l = stands_length s.stands in omega arith;
        value = λ e q s.
            let w = s.stands.run.1 in
            let z = stands_head s.stands in
            put_is 0 x.put
            ∙ ap (put (pen b n 0)) (rw (z, w.0, w.1.0, w.1.1.0) refl);
        within = entry_room f;
      }

pub entries_more : {ws : List ℕ} {end k : ℕ} {p₀ p q : Pen} {i : ℕ} → EntriesListing ws end k 0 p₀ (k - i) (4 * i) p → i < k
    → WalkedOne ws end encode_entry any_entry entry_step (4 * i) p (4 * i + 4) q
    → EntriesListing ws end k 0 p₀ (k - (i + 1)) (4 * (i + 1)) q
entries_more {i = i} g h o = let e : 4 * (i + 1) ≡ 4 * i + 4 = omega arith in rw e (steps_more g h o)

entries_put : (es : List Entry) (b : List ℕ) (n : ℕ) → folded entry_step (pen b n 0) es ≡ put (pen b n 0) (each entry_line es)
unfolding entry_step
entries_put es b n = puts entry_step entry_line 0 (λ p e h. refl) es (pen b n 0) refl

-- The entries were listed.
pub entries_listed : {trail : List ℕ} {k i at : ℕ} {b a : List ℕ} {n r : ℕ} → r ≤ n + 46 * i → i ≤ k
    → EntriesListing (words trail) (4 * k) k 0 (pen b n 0) (k - i) at (pen a r 0)
    → k ≤ i
    → EntriesPut trail k b a n r
entries_listed {b = b} {n = n} h l g e =
    let w = steps_done g e in
    record {
      put = λ o.
          pen_put
          (w.value o.found.trees o.found.next o.found.spans o.found.count ∙ entries_put o.found.trees b n);
      few = omega arith;
    }

pub ruleset recording = (list_entry, entries_more, entries_listed)
