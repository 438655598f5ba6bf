-- The hub's fixed words, its new alternatives behind them, and the entry that closes its plan.
use Prim.Native.Nat.{ℕ, ◌+◌, ◌*◌, ◌≤◌}
use mathlib.Core.Path.{◌≡◌, refl, sym, ap, ◌∙◌, subst}
use mathlib.Core.List.{List, [], ◌++◌, append-nil}
use native.Mathlib.Omega.{arith}
use lib.ListN.{length, get_or, length-append}
use Rattle.grammar.specs.Tree.{inner_depth}
use Rattle.grammar.specs.Encode.{encode_alternative, encode_block}
use Rattle.grammar.specs.Lists.{each}
use Rattle.reference.specs.Apply.{fresh_each, apply_alternative}
use Rattle.planned.specs.List.{Laid, AllIn}
use Rattle.planned.specs.declared.list.Sizes.{Sizes}
use Rattle.writing.specs.Wrote.{Wrote}
use Rattle.writing.specs.Taken.{counters_of}
use Rattle.writing.specs.Laws.Wrote.{wrote_nothing}
use Rattle.copies.specs.Pen.{Space, Drawn, Fits, Drew}
use Rattle.copies.specs.declared.pen.Pen.{Pen}
use Rattle.copies.specs.Laws.Grown.{grown_same}
use Rattle.copies.specs.Laws.Drawn.{drawn_words, drawn_then, space_front, space_behind}
use Rattle.heads.specs.Front.{compose_at}
use Rattle.heads.specs.Laws.Front.{front_wrote, front_laid, front_settled, front_all_in}
use Rattle.written.specs.Planned.{drawn_list}
use Rattle.compose.specs.Hub.{Moved, rule_head, closing, Closed, new_body, body_words, body_entries, HubFits, BodyDrawn, HubDrawn}

-- Behind what was written the list is as it was.
module _ {xs b m : List ℕ} {p q : Pen} {l : Sizes} (low : compose_at ≤ p.to) (h : Moved xs b m p q) (laid : Laid b l) where
  pub moved_laid : Laid m l
  moved_laid = front_laid (front_wrote low h.wrote) laid

  pub moved_in : {ws : List ℕ} {end : ℕ} → AllIn ws end inner_depth b l → AllIn ws end inner_depth m l
  moved_in = front_all_in (front_wrote low h.wrote) laid

module _ {ws : List ℕ} {end at : ℕ} {b m t : List ℕ} {l : Sizes} {n : ℕ} {p inside : Pen} (f : HubFits ws end b l p at t) (laid : Laid b l)
    (low : compose_at ≤ p.to) (h : Moved (rule_head ws end at n) b m p inside) (count : n ≡ l.out.a) where
  head : Drawn (rule_head ws end at l.out.a) [] (counters_of p.counters) b m t t p inside
  head =
      subst (λ k. Drawn (rule_head ws end at k) [] (counters_of p.counters) b m t t p inside) count
      (drawn_words t h.wrote h.to h.trail h.counters)

  -- The same alternatives, and the same counters.
  same_body : drawn_list ws end inner_depth m l (counters_of inside.counters) ≡ new_body ws end b l p
  same_body =
      ap (λ ps. fresh_each (apply_alternative inner_depth) ps (counters_of inside.counters))
      (front_settled (front_wrote low h.wrote) laid ws end inner_depth)
      ∙ ap (drawn_list ws end inner_depth b l) h.counters

  behind : Space (body_words ws end b l p) (body_entries ws end b l p ++ closing (get_or ws at 0)) (new_body ws end b l p).counters m t inside
  behind = space_behind refl refl head f.fits

  pub body_fits : Fits (each (encode_alternative (encode_block inner_depth)))
      (drawn_list ws end inner_depth m l (counters_of inside.counters)) m t inside
  body_fits =
      subst (λ g. Fits (each (encode_alternative (encode_block inner_depth))) g m t inside) (sym same_body)
      (space_front [] (closing (get_or ws at 0)) (sym (append-nil (body_words ws end b l p))) refl
      (grown_same (new_body ws end b l p).counters) behind)

  module _ {a t' : List ℕ} {q : Pen}
      (d : Drew (each (encode_alternative (encode_block inner_depth))) (drawn_list ws end inner_depth m l (counters_of inside.counters))
      m a t t' inside q) where
    drew : Drawn (body_words ws end b l p) (body_entries ws end b l p) (new_body ws end b l p).counters m a t t' inside q
    drew = subst (λ g. Drew (each (encode_alternative (encode_block inner_depth))) g m a t t' inside q) same_body d

    pub body_drawn : BodyDrawn ws end b l p at a t t' q
    body_drawn = record { drawn = drawn_then refl refl head drew }

-- The entry of the hub behind the others.
module _ {ws : List ℕ} {end at : ℕ} {b a t t' : List ℕ} {l : Sizes} {p q : Pen} (f : HubFits ws end b l p at t)
    (d : BodyDrawn ws end b l p at a t t' q) where
  pub close_room : 4 * (q.trail + 4) ≤ length t'
  close_room =
      let e = f.fits.entries in
      let n = length-append (body_entries ws end b l p) (closing (get_or ws at 0)) in
      let g = d.drawn.trail in
      let k = d.drawn.told.long in
      omega arith

  pub hub_drawn : {t'' : List ℕ} {r : Pen} {id : ℕ} → id ≡ get_or ws at 0 → Closed id t' t'' q r → HubDrawn ws end b l p at a t t'' r
  hub_drawn {t''} {r} {id} e c =
      record {
        drawn =
            drawn_then (sym (append-nil (rule_head ws end at l.out.a ++ body_words ws end b l p))) refl d.drawn
            (record {
              wrote = wrote_nothing a q.to;
              told = subst (λ i. Wrote t' t'' q.trail (closing i)) e c.told;
              to = let z = c.to in omega arith;
              trail = c.trail;
              counters = c.counters ∙ d.drawn.counters;
            });
      }

pub ruleset bodies = (moved_laid, moved_in, body_fits, body_drawn)

pub ruleset closings = (close_room, hub_drawn)
