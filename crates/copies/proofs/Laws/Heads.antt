-- Copies of single records.
use Prim.Native.Nat.{ℕ, ◌+◌, ◌-◌, ◌*◌, ◌%◌, ◌<◌, ◌≤◌}
use mathlib.Core.Path.{◌≡◌, refl, sym, ap, ◌∙◌}
use mathlib.Core.List.{List, [], ◌∷◌}
use mathlib.Core.Bool.{Bool, true, false, false≢true}
use native.Mathlib.Omega.{arith}
use native.Mathlib.Nat.{add-zero}
use lib.Dec.{leb}
use lib.ListN.{length, get_or, take, drop, length-take, length-drop}
use Rattle.std.specs.Cmp.{first_so, second_so}
use Rattle.grammar.specs.Numbers.{kind_end, element_sort, label_sort, one_or_more_nongreedy}
use Rattle.grammar.specs.Tree.{Label, unlabelled, labelled, ElementHead, Counters}
use Rattle.grammar.specs.Words.{words}
use Rattle.grammar.specs.Stands.{Stands}
use Rattle.grammar.specs.Encode.{label_id, label_name, encode_head, encode_option}
use Rattle.grammar.specs.Lists.{each}
use Rattle.grammar.specs.Read.{is_name}
use Rattle.grammar.specs.Valid.{ok_label, ok_head}
use Rattle.grammar.specs.Laws.Words.{length_words}
use Rattle.grammar.specs.Laws.Stands.{stands_length, stands_slice, stands_run}
use Rattle.grammar.specs.Laws.Opened.{HeadWords, options_length}
use Rattle.reference.specs.Numbers.{block_boundary}
use Rattle.reference.specs.Apply.{past, renumber_label, renumber_head}
use Rattle.words.specs.Room.{Room}
use Rattle.writing.specs.Wrote.{Wrote}
use Rattle.writing.specs.Taken.{counters_of}
use Rattle.writing.specs.Laws.Wrote.{wrote_then}
use Rattle.copies.specs.declared.pen.Pen.{Pen}
use Rattle.copies.specs.declared.pen.Given.{Given}
use Rattle.copies.specs.Pen.{Drew, EntryRoom, Gave, Told}
use Rattle.copies.specs.Heads.{LabelRoom, LabelAt, LabelGiven, head_if, packed_if, HeadRoom, HeadCopied, MarkedRoom, BehindRoom}
use Rattle.copies.specs.Heads.{CopiedBehind, MarkedCopied}
use Rattle.copies.specs.Laws.Drawn.{wrote_more, told_nothing, told_one, told_then, told_wrote}
use Rattle.copies.specs.Laws.Renumbered.{head_words_of, head_entries_of, head_counters_of}

-- The packed word, or the kind alone.
pub packed_plain : {plain : Bool} {w v : ℕ} → plain ≡ true → w ≡ v → w % kind_end ≡ packed_if plain v
packed_plain e f = rw (e, f)

pub packed_whole : {plain : Bool} {w v : ℕ} → plain ≡ false → w ≡ v → w ≡ packed_if plain v
packed_whole e f = rw (e, f)

-- Words written in parts.
pub wrote_head : {b m a : List ℕ} {at x y y' z u : ℕ} {xs : List ℕ} → y ≡ y' → Wrote b m at (x ∷ y ∷ z ∷ u ∷ [])
    → Wrote m a (at + 4) xs → Wrote b a at (x ∷ y' ∷ z ∷ u ∷ xs)
wrote_head e v w = rw e at (wrote_then refl v w)

-- Labels.
pub label_entry_lem : {name : ℕ} {t : List ℕ} {p : Pen} {w : ℕ} → LabelRoom name t p → w ≡ name → (w ≡ 0 → ⊥)
    → EntryRoom p.counters.label t p
label_entry_lem r e h = r.room (λ z. h (e ∙ z))

unnamed : (n : ℕ) → n ≡ 0 → is_name n ≡ true → ⊥
unnamed n e t = false≢true (rw e at t)

pub label_none : {ws : List ℕ} {at w : ℕ} {t : List ℕ} {p : Pen} → w ≡ get_or ws (at + 1) 0 → w ≡ 0 → LabelGiven ws at t t p 0 p
unfolding renumber_label ok_label
label_none {ws} {at} {w} {t} {p} e z = record { is = is; told = told }
  where
    is : (l : Label) → LabelAt ws at l → 0 ≡ label_id (renumber_label l (counters_of p.counters)).node
    is unlabelled h = refl
    is (labelled i n) h = absurd (unnamed n (sym h.name ∙ sym e ∙ z) h.fine)

    told : (l : Label) → LabelAt ws at l
        → Told (renumber_label l (counters_of p.counters)).entries (renumber_label l (counters_of p.counters)).counters t t p p
    told unlabelled h = told_nothing t p
    told (labelled i n) h = absurd (unnamed n (sym h.name ∙ sym e ∙ z) h.fine)

pub label_some : {ws : List ℕ} {at w o : ℕ} {t t' : List ℕ} {p : Pen} {id : ℕ} {p' : Pen} → w ≡ get_or ws (at + 1) 0 → (w ≡ 0 → ⊥)
    → o ≡ get_or ws at 0 → Gave label_sort p.counters.label block_boundary o t t' p id p'
    → LabelGiven ws at t t' p id p'
unfolding renumber_label
label_some {ws} {at} {w} {o} {t} {t'} {p} {id} {p'} e z f g = record { is = is; told = told }
  where
    is : (l : Label) → LabelAt ws at l → id ≡ label_id (renumber_label l (counters_of p.counters)).node
    is unlabelled h = absurd (z (e ∙ h.name))
    is (labelled i n) h = g.id_is

    told : (l : Label) → LabelAt ws at l
        → Told (renumber_label l (counters_of p.counters)).entries (renumber_label l (counters_of p.counters)).counters t t' p p'
    told unlabelled h = absurd (z (e ∙ h.name))
    told (labelled i n) h = told_one (rw (f, h.id) at g)

-- Heads.
pub head_id : (plain : Bool) (h : ElementHead) → (head_if plain h).id ≡ h.id
head_id true h = refl
head_id false h = refl

head_carried : (plain : Bool) (h : ElementHead) → (head_if plain h).carried ≡ h.carried
head_carried true h = refl
head_carried false h = refl

pub head_label : (plain : Bool) (h : ElementHead) → (head_if plain h).label ≡ h.label
head_label true h = refl
head_label false h = refl

pub head_options : (plain : Bool) (h : ElementHead) → (head_if plain h).options ≡ h.options
head_options true h = refl
head_options false h = refl

head_packed : (plain : Bool) (h : ElementHead) (kind : ℕ) → kind < kind_end
    → packed_if plain (kind + kind_end * h.quantifier) ≡ kind + kind_end * (head_if plain h).quantifier
head_packed true h kind l = omega arith
head_packed false h kind l = refl

label_fine : (h : ElementHead) → ok_head h ≡ true → ok_label h.label ≡ true
unfolding ok_head
label_fine h t = first_so (ok_label h.label) _ (second_so (leb h.quantifier one_or_more_nongreedy) _ t)

-- The words of a head behind its label's id.
head_behind : {bs : List ℕ} {end at kind p : ℕ} (h : ElementHead) → Room bs end → p ≤ end → HeadWords (words bs) end at h kind p
    → take (p - (at + 4)) (drop (at + 4) (words bs)) ≡ label_name h.label ∷ length h.options ∷ each encode_option h.options
head_behind {bs} {end} {at} {kind} {p} h r i w =
    let e : at + 4 + 1 ≡ at + 5 = omega arith in
    let f : at + 4 + 2 ≡ at + 6 = omega arith in
    let o : Stands (words bs) end (each encode_option h.options) (at + 4 + 2) p = rw f w.options_stand in
    let z : Stands (words bs) end (label_name h.label ∷ length h.options ∷ each encode_option h.options) (at + 4) p =
    record { run = (rw (add-zero (at + 4)) w.named, (rw e w.counted, stands_run (at + 4) 2 o)) } in
    let l = stands_length z in
    let m : p - (at + 4) ≡ length (label_name h.label ∷ length h.options ∷ each encode_option h.options) = omega arith in
    rw m (stands_slice (omega (arith, length_words bs, r.trailer)) z)

-- How many words a renumbered head has.
pub head_long : {ws : List ℕ} {end at kind payload : ℕ} (h h' : ElementHead) (c : Counters) → HeadWords ws end at h kind payload
    → h'.options ≡ h.options → length (encode_head (renumber_head h' c).node kind) ≡ payload - at
head_long {kind = kind} h h' c v f =
    let os = options_length h'.options in
    let place = v.place in
    let counted = v.counted ∙ ap length (sym f) in
    ap length (head_words_of h' c kind) ∙ omega arith

pub head_copied : {bs : List ℕ} {end at payload : ℕ} {plain : Bool} {out out' t t₁ t₂ : List ℕ} {p p₁ p₂ : Pen} {k o id lid : ℕ}
    → Room bs end → payload ≤ end → HeadRoom (words bs) at payload out t p → k ≡ packed_if plain (get_or (words bs) (at + 2) 0)
    → o ≡ get_or (words bs) at 0
    → Gave element_sort p.counters.element block_boundary o t t₁ p id p₁
    → LabelGiven (words bs) (at + 3) t₁ t₂ p₁ lid p₂
    → Wrote out out' p.to
    (id ∷ get_or (words bs) (at + 1) 0 ∷ k ∷ lid ∷ take (payload - (at + 4)) (drop (at + 4) (words bs)))
    → HeadCopied (words bs) end at payload plain out out' t t₂ p
    (record { to = p.to + (payload - at); trail = p₂.trail; counters = p₂.counters })
head_copied {bs} {end} {at} {payload} {plain} {out} {out'} {t} {t₁} {t₂} {p} {p₁} {p₂} {k} {o} {id} {lid} r i room pk own g l w =
    record {
      is = λ h kind low v. go h kind low v (head_if plain h) (head_id plain h) (head_carried plain h) (head_label plain h)
          (head_options plain h) (head_packed plain h kind low);
    }
  where
    go : (h : ElementHead) (kind : ℕ) → kind < kind_end → HeadWords (words bs) end at h kind payload → (h' : ElementHead)
        → h'.id ≡ h.id → h'.carried ≡ h.carried → h'.label ≡ h.label → h'.options ≡ h.options
        → packed_if plain (kind + kind_end * h.quantifier) ≡ kind + kind_end * h'.quantifier
        → Drew (λ g. encode_head g kind) (renumber_head h' (counters_of p.counters)) out out' t t₂ p
        (record { to = p.to + (payload - at); trail = p₂.trail; counters = p₂.counters })
    go h kind low v h' a b e f q =
        let c = counters_of p.counters in
        let n : at + 3 + 1 ≡ at + 4 = omega arith in
        let la : LabelAt (words bs) (at + 3) h'.label =
        record { id = rw e v.label_is; name = rw (e, n) v.named; fine = rw e (label_fine h v.fine) } in
        let ts = told_then (told_one (rw (own ∙ v.id ∙ sym a) at g)) (rw g.counters at (l.told h'.label la)) in
        let lid' : lid ≡ label_id (renumber_label h'.label (past element_sort c)).node = rw g.counters at (l.is h'.label la) in
        let behind = head_behind h r i v in
        let packed : k ≡ kind + kind_end * h'.quantifier = pk ∙ ap (packed_if plain) v.packed ∙ q in
        let is = head_words_of h' c kind in
        let carried = v.carried_is in
        let first = g.id_is in
        let ws : id ∷ get_or (words bs) (at + 1) 0 ∷ k ∷ lid ∷ take (payload - (at + 4)) (drop (at + 4) (words bs))
        ≡ encode_head (renumber_head h' c).node kind = cc in
        let long = head_long h h' c v f in
        rw (head_entries_of h' c, head_counters_of h' c) (told_wrote ts (rw ws at w) (ap (λ m. p.to + m) (sym long)) refl refl)

-- Room for the label's entry behind the element's own.
pub label_room : {ws : List ℕ} {at payload : ℕ} {out t t₁ : List ℕ} {p p₁ : Pen} {n reason o id : ℕ} → HeadRoom ws at payload out t p
    → Gave element_sort n reason o t t₁ p id p₁
    → LabelRoom (get_or ws (at + 3 + 1) 0) t₁ p₁
label_room {ws} {at} {p = p} {p₁ = p₁} h g =
    record {
      room = λ z.
          let n : at + 3 + 1 ≡ at + 4 = omega arith in
          let y : get_or ws (at + 4) 0 ≡ 0 → ⊥ = rw n at z in
          let e = h.label_entry y in
          let f = h.label_counter y in
          let a = g.trail in
          let l = g.told.long in
          let c : p₁.counters.label ≡ p.counters.label = ap (λ (c : Counters). c.label) g.counters in
          record { entry = omega arith; counter = omega arith };
    }

pub ruleset headings =
    (wrote_more, packed_plain, packed_whole, wrote_head, label_entry_lem, label_none, label_some, label_room, head_copied)

-- An id just given, and the words behind the old one.
module _ {sort n o : ℕ} {t t' : List ℕ} {p : Pen} {g : Given} (k : Gave sort n block_boundary o t t' p g.id g.pen) where
  pub behind_room : {bs : List ℕ} {end at there : ℕ} {out : List ℕ} → Room bs end → there ≤ end → MarkedRoom n at there out t p
      → BehindRoom bs at there out g
  behind_room r h m =
      let w = m.words in
      let e = k.to in
      let f = r.trailer in
      record { past = m.past; read = omega arith; words = omega arith }

  pub marked_copied : {bs : List ℕ} {end at there : ℕ} {out out' : List ℕ} {p' : Pen} → Room bs end → there ≤ end
      → MarkedRoom n at there out t p → o ≡ get_or (words bs) at 0 → CopiedBehind (words bs) at there g out out' p'
      → MarkedCopied sort n (words bs) at there out out' t t' p p'
  marked_copied {bs} {end} {at} {there} {out} {out'} {p'} r h m e b =
      let w = length_words bs in
      let d = length-drop (at + 1) (words bs) in
      let l : length (take (there - (at + 1)) (drop (at + 1) (words bs))) ≡ there - (at + 1) =
      omega (arith, length-take (there - (at + 1)) (drop (at + 1) (words bs)), r.trailer) in
      let f = k.to in
      let q = b.to in
      let a = m.past in
      told_wrote (told_one (rw e at k))
      (rw (k.to, k.id_is) at b.wrote)
      (omega arith)
      b.trail
      b.counters

pub ruleset markings = (behind_room, marked_copied)
