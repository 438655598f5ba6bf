-- Drawing one thing after the other: what is drawn stands together, and where there is room for all there is for each.
use Prim.Native.Nat.{ℕ, suc, ◌+◌}
use Rattle.std.specs.Prelude.{◌≡◌, length}
use Rattle.std.proofs.Math.Path.{refl, ap}
use Rattle.std.proofs.Common.{◌∙◌, arith, length-append}
use mathlib.Core.List.{List, [], ◌∷◌, ◌++◌, append-nil}
use Rattle.grammar.specs.Tree.{Counters}
use Rattle.grammar.specs.Lists.{each}
use Rattle.grammar.specs.Laws.Lists.{each_append}
use Rattle.reference.specs.Apply.{Entry, Fresh, past, fresh_each}
use Rattle.reference.specs.Run.{encode_entry}
use Rattle.writing.specs.Wrote.{Wrote}
use Rattle.writing.specs.Taken.{counters_of}
use Rattle.writing.specs.Laws.Wrote.{wrote_nothing, wrote_then}
use Rattle.copies.specs.declared.pen.Pen.{Pen}
use Rattle.copies.specs.Pen.{Space, Drawn, Fits, Drew, Gave, Told}
use Rattle.copies.specs.Laws.Grown.{Grown, Grows, words_before, grows_each}

-- Nothing.
pub drawn_nothing : (out t : List ℕ) (p : Pen) → Drawn [] [] (counters_of p.counters) out out t t p p
drawn_nothing out t p =
    record {
      wrote = wrote_nothing out p.to;
      told = wrote_nothing t p.trail;
      to = omega arith;
      trail = omega arith;
      counters = refl;
    }

-- Room for both is room for the first.
pub space_front : {zs us xs ys : List ℕ} (xs' ys' : List ℕ) {c c' : Counters} {out t : List ℕ} {p : Pen} → zs ≡ xs ++ xs' → us ≡ ys ++ ys'
    → Grown c c' → Space zs us c' out t p
    → Space xs ys c out t p
space_front {zs} {us} {xs} {ys} xs' ys' i j g s =
    let l = ap length i ∙ length-append xs xs' in
    let m = ap length j ∙ length-append ys ys' in
    let w = s.words in
    let e = s.entries in
    record { words = omega arith; entries = omega arith; counters = words_before g s.counters }

module _ {zs us xs ys xs' ys' : List ℕ} {c c' : Counters} {out out' t t' : List ℕ} {p p' : Pen} (i : zs ≡ xs ++ xs') (j : us ≡ ys ++ ys')
    (d : Drawn xs ys c out out' t t' p p') where
  -- Behind the first it is room for the second.
  pub space_behind : Space zs us c' out t p → Space xs' ys' c' out' t' p'
  space_behind s =
      let l = ap length i ∙ length-append xs xs' in
      let m = ap length j ∙ length-append ys ys' in
      let w = s.words in
      let e = s.entries in
      let a = d.wrote.long in
      let b = d.told.long in
      let f = d.to in
      let g = d.trail in
      record { words = omega arith; entries = omega arith; counters = s.counters }

  -- One behind the other.
  pub drawn_then : {out'' t'' : List ℕ} {p'' : Pen} → Drawn xs' ys' c' out' out'' t' t'' p' p'' → Drawn zs us c' out out'' t t'' p p''
  drawn_then {out''} {t''} {p''} e =
      let l = ap length i ∙ length-append xs xs' in
      let m = ap length j ∙ length-append ys ys' in
      record {
        wrote = rw i (wrote_then d.to d.wrote e.wrote);
        told = rw j (wrote_then d.trail d.told e.told);
        to = let f = d.to in let g = e.to in omega arith;
        trail = let f = d.trail in let g = e.trail in omega arith;
        counters = e.counters;
      }

-- A word, and others behind it.
pub wrote_more : {b m a : List ℕ} {at x : ℕ} {xs : List ℕ} → Wrote b m at (x ∷ []) → Wrote m a (at + 1) xs → Wrote b a at (x ∷ xs)
wrote_more v w = wrote_then refl v w

-- No entry.
pub told_nothing : (t : List ℕ) (p : Pen) → Told [] (counters_of p.counters) t t p p
told_nothing t p = record { told = wrote_nothing t p.trail; to = refl; trail = omega arith; counters = refl }

-- One entry, with the id that was given.
pub told_one : {sort n reason owner : ℕ} {t t' : List ℕ} {p : Pen} {id : ℕ} {p' : Pen} → Gave sort n reason owner t t' p id p'
    → Told (record { kind = sort; id = n; reason = reason; owner = owner } ∷ []) (past sort (counters_of p.counters)) t t' p p'
unfolding encode_entry
told_one g = record { told = g.told; to = g.to; trail = g.trail; counters = g.counters }

-- Only entries, one behind the other; then words.
module _ {es : List Entry} {c : Counters} {t t' : List ℕ} {p p' : Pen} (d : Told es c t t' p p') where
  pub told_then : {es' : List Entry} {c' : Counters} {t'' : List ℕ} {p'' : Pen} → Told es' c' t' t'' p' p''
      → Told (es ++ es') c' t t'' p p''
  told_then {es'} {c'} {t''} {p''} e =
      let a = each_append encode_entry es es' in
      let l = length-append (each encode_entry es) (each encode_entry es') in
      let f = d.trail in
      let g = e.trail in
      record {
        told = rw a (wrote_then d.trail d.told e.told);
        to = e.to ∙ d.to;
        trail = rw a (omega arith);
        counters = e.counters;
      }

  pub told_wrote : {xs out out' : List ℕ} {p'' : Pen} → Wrote out out' p.to xs → p''.to ≡ p.to + length xs → p''.trail ≡ p'.trail
      → counters_of p''.counters ≡ counters_of p'.counters
      → Drawn xs (each encode_entry es) c out out' t t' p p''
  told_wrote w a b e =
      record { wrote = w; told = d.told; to = a; trail = b ∙ d.trail; counters = e ∙ d.counters }

-- Only words.
pub drawn_words : {xs out out' : List ℕ} (t : List ℕ) {p p' : Pen} → Wrote out out' p.to xs → p'.to ≡ p.to + length xs
    → p'.trail ≡ p.trail → counters_of p'.counters ≡ counters_of p.counters
    → Drawn xs [] (counters_of p.counters) out out' t t p p'
drawn_words t {p} w a b e =
    record { wrote = w; told = wrote_nothing t p.trail; to = a; trail = omega arith; counters = e }

-- Each in turn: the words and the entries of the first, then those of the others.
module _ {A B : Type 0} (f : A → Counters → Fresh B) where
  pub each_count : (as' : List A) (c : Counters) → length (fresh_each f as' c).node ≡ length as'
  unfolding fresh_each
  each_count [] c = refl
  each_count (a ∷ as') c = ap suc (each_count as' (f a c).counters)

  module _ (a : A) (as' : List A) (c : Counters) where
    pub each_node : (enc : B → List ℕ)
        → each enc (fresh_each f (a ∷ as') c).node ≡ enc (f a c).node ++ each enc (fresh_each f as' (f a c).counters).node
    unfolding fresh_each
    each_node enc = refl

    pub each_entries : each encode_entry (fresh_each f (a ∷ as') c).entries
        ≡ each encode_entry (f a c).entries ++ each encode_entry (fresh_each f as' (f a c).counters).entries
    unfolding fresh_each
    each_entries =
        each_append encode_entry (f a c).entries ((fresh_each f as' (f a c).counters).entries ++ [])
        ∙ ap (λ l. each encode_entry (f a c).entries ++ each encode_entry l) (append-nil (fresh_each f as' (f a c).counters).entries)

    pub each_counters : (fresh_each f (a ∷ as') c).counters ≡ (fresh_each f as' (f a c).counters).counters
    unfolding fresh_each
    each_counters = refl

module _ {A B : Type 0} (enc : B → List ℕ) (f : A → Counters → Fresh B) where
  pub drew_none : (out t : List ℕ) (p : Pen) → Drew (each enc) (fresh_each f [] (counters_of p.counters)) out out t t p p
  unfolding fresh_each
  drew_none out t p = drawn_nothing out t p

  module _ (a : A) (as' : List A) (c : Counters) {out t : List ℕ} {p : Pen} where
    -- Where there is room for all, there is for the first, and behind its copy for the others.
    pub fits_first : Grows f → Fits (each enc) (fresh_each f (a ∷ as') c) out t p → Fits enc (f a c) out t p
    fits_first g s =
        space_front
        (each enc (fresh_each f as' (f a c).counters).node)
        (each encode_entry (fresh_each f as' (f a c).counters).entries)
        (each_node f a as' c enc)
        (each_entries f a as' c)
        (rw (each_counters f a as' c) ((grows_each f g).grows as' (f a c).counters))
        s

    module _ {out' t' : List ℕ} {p' : Pen} (d : Drew enc (f a c) out out' t t' p p') where
      pub fits_rest : Fits (each enc) (fresh_each f (a ∷ as') c) out t p
          → Fits (each enc) (fresh_each f as' (counters_of p'.counters)) out' t' p'
      fits_rest s =
          rw d.counters
          (space_behind (each_node f a as' c enc) (each_entries f a as' c) d (rw (each_counters f a as' c) at s))

      -- The first is drawn, and the others behind it.
      pub drew_more : {out'' t'' : List ℕ} {p'' : Pen}
          → Drew (each enc) (fresh_each f as' (counters_of p'.counters)) out' out'' t' t'' p' p''
          → Drew (each enc) (fresh_each f (a ∷ as') c) out out'' t t'' p p''
      drew_more e =
          rw (each_counters f a as' c)
          (drawn_then (each_node f a as' c enc) (each_entries f a as' c) d (rw d.counters at e))
