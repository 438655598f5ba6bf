-- One planned alternative drawn: its head, then its elements.
use Prim.Native.Nat.{ℕ, ◌+◌, ◌*◌, ◌≤◌}
use mathlib.Core.Path.{◌≡◌, refl, sym, ap, ◌∙◌}
use mathlib.Core.List.{List, [], ◌∷◌, ◌++◌}
use mathlib.Core.Bool.{true, false}
use native.Mathlib.Omega.{arith}
use lib.ListN.{length, get_or, length-append}
use Rattle.grammar.specs.Form.{newest}
use Rattle.grammar.specs.Numbers.{alternative_sort}
use Rattle.grammar.specs.Tree.{Element, Block, Counters}
use Rattle.grammar.specs.Encode.{encode_element, encode_alternative, encode_block}
use Rattle.grammar.specs.Lists.{each}
use Rattle.grammar.specs.Laws.Opened.{options_length}
use Rattle.grammar.specs.Laws.Found.{alternative_room}
use Rattle.reference.specs.Substitute.{Planned}
use Rattle.reference.specs.Apply.{Fresh, past, apply_new, apply_alternative, renumber_element, renumber_block}
use Rattle.reference.specs.Run.{encode_entry}
use Rattle.planned.specs.Layout.{is_marked, meaning}
use Rattle.planned.specs.Laws.Parts.{options_count}
use Rattle.planned.specs.declared.list.Listed.{Listed}
use Rattle.writing.specs.Wrote.{Wrote}
use Rattle.writing.specs.Taken.{counters_of}
use Rattle.copies.specs.Pen.{Space, Drawn, EntryRoom, Gave}
use Rattle.copies.specs.declared.pen.Pen.{Pen}
use Rattle.copies.specs.Laws.Grown.{Grown, are_low, grows_each, grows_element, grows_block}
use Rattle.copies.specs.Laws.Drawn.{drawn_words, drawn_then, space_front, space_behind}
use Rattle.heads.specs.Front.{compose_at}
use Rattle.heads.specs.Head.{head_words}
use Rattle.heads.specs.Laws.Front.{front_wrote, front_meaning, front_listed, front_located}
use Rattle.written.specs.Items.{Readable, ItemsFit, ItemsDrawn}
use Rattle.written.specs.Planned.{HeadDrawn, AlternativeFits, AlternativeDrawn}
use Rattle.written.specs.Laws.Apply.{each_unchanged, apply_same, apply_new_lem, copies, new_entries, new_counters, new_node, same_node_lem}

-- The place of the origin.
pub origin_room : {ws : List ℕ} {end : ℕ} (d : ℕ) {bs : List ℕ} {x : Listed} {at : ℕ} → Readable ws end d bs x → at ≡ x.origin
    → at + 5 ≤ end
origin_room d r e = rw e (alternative_room newest d r.listed.head.origin_found)

module _ (ws : List ℕ) (end d : ℕ) (bs : List ℕ) (x : Listed) where
  abbrev p : Planned d
  p = meaning ws end d bs x

  -- How many words a head has.
  head_length : (id : ℕ) → length (head_words d p id) ≡ 5 + 2 * x.no
  unfolding meaning
  head_length id =
      let n = options_length p.options in
      let c = options_count ws end d bs x.o x.no in
      omega arith

  pub head_drawn : {id : ℕ} {after : List ℕ} {pen : Pen} → Wrote bs after pen.to (head_words d p id)
      → HeadDrawn ws end d bs x id after pen (record { to = pen.to + 5 + 2 * x.no; trail = pen.trail; counters = pen.counters })
  head_drawn w = record { wrote = w; to = refl; trail = refl; counters = refl }

  module _ {id : ℕ} {after : List ℕ} {pen inside : Pen} (h : HeadDrawn ws end d bs x id after pen inside) (low : compose_at ≤ pen.to) where
    pub inside_low : compose_at ≤ inside.to
    inside_low = let e = h.to in omega arith

    module _ (r : Readable ws end d bs x) where
      pub inside_readable : Readable ws end d after x
      inside_readable =
          let front = front_wrote low h.wrote in
          record {
            located = front_located front r.located;
            inside = r.inside;
            listed = front_listed front r.inside ws end d r.listed;
          }

      same_elements : (meaning ws end d after x).elements ≡ p.elements
      same_elements = ap (λ m. m.elements) (front_meaning (front_wrote low h.wrote) r.inside ws end d)

      as_drawn : (t : List ℕ) → Drawn (head_words d p id) [] (counters_of pen.counters) bs after t t pen inside
      as_drawn t = drawn_words t h.wrote (let e = h.to in let l = head_length id in omega arith) h.trail h.counters

      -- Elements as they stand.
      module _ {t : List ℕ} (s : is_marked x.slot ≡ true) (id_is : id ≡ get_or ws x.origin 0)
          (f : AlternativeFits ws end d bs x t pen) where
        abbrev c : Counters
        c = counters_of pen.counters

        abbrev words : List ℕ
        words = each (encode_element (encode_block d)) p.elements

        parts : encode_alternative (encode_block d) (apply_alternative d p c).node ≡ head_words d p id ++ words
        unfolding meaning
        parts =
            ap (λ f. encode_alternative (encode_block d) f.node) (apply_same d p c s)
            ∙ same_node_lem d p c ∙ ap (λ i. head_words d p i ++ words) (sym id_is)

        none : each encode_entry (apply_alternative d p c).entries ≡ [] ++ []
        unfolding meaning
        none = ap (λ f. each encode_entry f.entries) (apply_same d p c s)

        kept : (apply_alternative d p c).counters ≡ c
        unfolding meaning
        kept = ap (λ f. f.counters) (apply_same d p c s)

        pub same_items : ItemsFit ws end d after x false t inside
        same_items =
            record {
              fits =
                  rw (same_elements, each_unchanged p.elements (counters_of inside.counters), h.counters)
                  (space_behind parts none (as_drawn t) (rw kept at f.fits));
            }

        pub same_drawn : {after' t' : List ℕ} {pen' : Pen} → ItemsDrawn ws end d after x false after' t t' inside pen'
            → AlternativeDrawn ws end d bs x after' t t' pen pen'
        same_drawn i =
            record {
              drew =
                  rw kept
                  (drawn_then parts none (as_drawn t)
                  (rw (same_elements, each_unchanged p.elements (counters_of inside.counters), h.counters) at i.drew));
            }

  -- There is room for the head.
  pub same_head : {t : List ℕ} {pen : Pen} → is_marked x.slot ≡ true → AlternativeFits ws end d bs x t pen
      → 4 * (pen.to + 5 + 2 * x.no) ≤ length bs
  unfolding meaning
  same_head {t} {pen} s f =
      let c = counters_of pen.counters in
      let e = ap (λ f. length (encode_alternative (encode_block d) f.node)) (apply_same d p c s) ∙ ap length (same_node_lem d p c)
      ∙ length-append (head_words d p p.origin) (each (encode_element (encode_block d)) p.elements) in
      let l = head_length p.origin in
      let w = f.fits.words in
      omega arith

-- A new one.
module _ (ws : List ℕ) (end d : ℕ) (bs : List ℕ) (x : Listed) {t : List ℕ} {pen : Pen} (s : is_marked x.slot ≡ false)
    (f : AlternativeFits ws end d bs x t pen) where
  abbrev q : Planned d
  q = meaning ws end d bs x

  abbrev c₀ : Counters
  c₀ = counters_of pen.counters

  abbrev es : Fresh (List (Element (Block d)))
  es = copies d q c₀

  abbrev entry : List ℕ
  entry = alternative_sort ∷ c₀.alternative ∷ 1 ∷ q.origin ∷ []

  abbrev head : List ℕ
  head = head_words d q c₀.alternative

  abbrev rest : List ℕ
  rest = each (encode_element (encode_block d)) es.node

  abbrev told : List ℕ
  told = each encode_entry es.entries

  is_new : apply_alternative d q c₀ ≡ apply_new d q c₀
  unfolding meaning
  is_new = apply_new_lem d q c₀ s

  new_parts : encode_alternative (encode_block d) (apply_alternative d q c₀).node ≡ head ++ rest
  new_parts = ap (λ f. encode_alternative (encode_block d) f.node) is_new ∙ new_node d q c₀

  new_told : each encode_entry (apply_alternative d q c₀).entries ≡ entry ++ told
  new_told = ap (λ f. each encode_entry f.entries) is_new ∙ new_entries d q c₀

  new_ends : (apply_alternative d q c₀).counters ≡ es.counters
  new_ends = ap (λ f. f.counters) is_new ∙ new_counters d q c₀

  grown : Grown (past alternative_sort c₀) es.counters
  grown =
      (grows_each (renumber_element (renumber_block d)) (grows_element (renumber_block d) (grows_block d))).grows q.elements
      (past alternative_sort c₀)

  whole : Space (head ++ rest) (entry ++ told) es.counters bs t pen
  whole = rw (new_parts, new_told, new_ends) at f.fits

  front : Space head entry (past alternative_sort c₀) bs t pen
  front = space_front rest told refl refl grown whole

  pub new_entry : EntryRoom pen.counters.alternative t pen
  new_entry =
      let l = are_low (past alternative_sort c₀) front.counters in
      record { entry = let e = front.entries in omega arith; counter = let a = l.alternative in omega arith }

  pub new_head : {owner : ℕ} {t' : List ℕ} {id : ℕ} {first : Pen}
      → Gave alternative_sort pen.counters.alternative 1 owner t t' pen id first
      → 4 * (first.to + 5 + 2 * x.no) ≤ length bs
  new_head g = let w = front.words in let l = head_length ws end d bs x c₀.alternative in let e = g.to in omega arith

  module _ {owner : ℕ} {t' : List ℕ} {id : ℕ} {first : Pen} (e : owner ≡ get_or ws x.origin 0)
      (g : Gave alternative_sort pen.counters.alternative 1 owner t t' pen id first)
      {after : List ℕ} {inside : Pen} (h : HeadDrawn ws end d bs x id after first inside) (low : compose_at ≤ pen.to)
      (r : Readable ws end d bs x) where
    low_first_lem : compose_at ≤ first.to
    low_first_lem = let z = g.to in omega arith

    begun : Drawn head entry (past alternative_sort c₀) bs after t t' pen inside
    unfolding meaning
    begun =
        let l = head_length ws end d bs x id in
        let i = g.id_is in
        let a = g.to in
        let b = g.trail in
        let u = h.to in
        let v = h.trail in
        record {
          wrote = rw (← a) (rw i at h.wrote);
          told = rw e at g.told;
          to = let k = head_length ws end d bs x c₀.alternative in omega arith;
          trail = omega arith;
          counters = h.counters ∙ g.counters;
        }

    pub new_readable : Readable ws end d after x
    new_readable = inside_readable ws end d bs x h low_first_lem r

    pub new_items : ItemsFit ws end d after x true t' inside
    new_items =
        record {
          fits =
              rw (same_elements ws end d bs x h low_first_lem r, begun.counters)
              (space_behind refl refl begun whole);
        }

    pub new_drawn : {after' t'' : List ℕ} {pen' : Pen} → ItemsDrawn ws end d after x true after' t' t'' inside pen'
        → AlternativeDrawn ws end d bs x after' t t'' pen pen'
    new_drawn i =
        record {
          drew =
              rw (new_parts, new_told, new_ends)
              (drawn_then refl refl begun (rw (same_elements ws end d bs x h low_first_lem r, begun.counters) at i.drew));
        }

pub ruleset sames = (origin_room, head_drawn, inside_low, inside_readable, same_items, same_drawn, same_head)

pub ruleset news = (origin_room, new_readable, new_entry, new_head, new_items, new_drawn)
