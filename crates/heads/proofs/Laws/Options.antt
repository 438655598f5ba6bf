-- The options of a listed alternative, written one after the other behind the list in which their places stand.
use Prim.Native.Nat.{ℕ, zero, suc, ◌+◌, ◌*◌, ◌<◌, ◌≤◌}
use mathlib.Core.Path.{◌≡◌, sym, ap, ◌∙◌, subst}
use mathlib.Core.List.{List, [], ◌∷◌, ◌++◌}
use native.Mathlib.Omega.{arith}
use native.Mathlib.Numerals.{add-one}
use lib.ListN.{length}
use Rattle.grammar.specs.Form.{newest}
use Rattle.grammar.specs.Encode.{encode_option}
use Rattle.grammar.specs.Lists.{each}
use Rattle.grammar.specs.Laws.Lists.{each_append}
use Rattle.grammar.specs.Laws.Opened.{options_length}
use Rattle.planned.specs.Layout.{half, option_of, options_from, meaning, place_of}
use Rattle.planned.specs.List.{Located, ListedIn, InList}
use Rattle.planned.specs.Laws.Parts.{options_count, elements_count}
use Rattle.planned.specs.declared.list.Listed.{Listed}
use Rattle.grammar.specs.Laws.Found.{alternative_room}
use Rattle.writing.specs.Wrote.{Wrote}
use Rattle.writing.specs.Laws.Wrote.{wrote_then, wrote_nothing}
use Rattle.heads.specs.Front.{compose_at}
use Rattle.heads.specs.Head.{head_words}
use Rattle.heads.specs.Laws.Front.{front_wrote, front_half, front_located, front_listed, front_meaning}
use lib.ListN.{get_or}

module _ (ws : List ℕ) (end d : ℕ) (b : List ℕ) where
  -- One option more.
  options_more_from : (n at : ℕ)
      → options_from ws end d b at (suc n) ≡ options_from ws end d b at n ++ (option_of ws end d (half b (at + n)) ∷ [])
  unfolding options_from
  options_more_from zero at = let e : at + 0 ≡ at = omega arith in rw e
  options_more_from (suc n) at =
      let e : at + suc n ≡ suc at + n = omega arith in
      rw e (ap (λ os. option_of ws end d (half b at) ∷ os) (options_more_from n (suc at)))

  module _ (x : Listed) (to : ℕ) where
    -- The first i of them are written.
    pub record OptionsTo (a : List ℕ) (i : ℕ) : Type 0 where
      pub low : compose_at ≤ to
      pub located : Located b x
      pub inside : InList x
      pub listed : ListedIn ws end d b x
      pub wrote : Wrote b a to (each encode_option (options_from ws end d b x.o i))
      pub within : i ≤ x.no

    pub options_none : compose_at ≤ to → Located b x → InList x → ListedIn ws end d b x → OptionsTo b 0
    unfolding options_from
    options_none h l n t = record { low = h; located = l; inside = n; listed = t; wrote = wrote_nothing b to; within = omega arith }

    module _ {m : List ℕ} {i : ℕ} (g : OptionsTo m i) where
      pub options_located : Located m x
      options_located = front_located (front_wrote g.low g.wrote) g.located

      pub options_long : length m ≡ length b
      options_long = g.wrote.long

      module _ (l : i < x.no) {p : ℕ} (e : p ≡ half m (x.o + i)) where
        same_place : p ≡ half b (x.o + i)
        same_place = e ∙ front_half (front_wrote g.low g.wrote) (x.o + i) (let n = g.inside.options in omega arith)

        pub option_room : p + 2 ≤ end
        option_room = let s = same_place in let o = g.listed.options i l in omega arith

        pub options_more : {a : List ℕ} → Wrote m a (to + 2 * i) (get_or ws p 0 ∷ get_or ws (p + 1) 0 ∷ []) → OptionsTo a (i + 1)
        options_more {a} u =
            let os = options_from ws end d b x.o i in
            let o = option_of ws end d (half b (x.o + i)) in
            let n = options_length os in
            let c = options_count ws end d b x.o i in
            let z : (get_or ws p 0 ∷ get_or ws (p + 1) 0 ∷ []) ≡ each encode_option (o ∷ []) = rw same_place in
            record {
              low = g.low;
              located = g.located;
              inside = g.inside;
              listed = g.listed;
              wrote =
                  rw (add-one i)
                  (subst (λ ys. Wrote b a to ys)
                  (sym (ap (each encode_option) (options_more_from i x.o) ∙ each_append encode_option os (o ∷ [])))
                  (wrote_then (omega arith) g.wrote (subst (λ ys. Wrote m a (to + 2 * i) ys) z u)));
              within = omega arith;
            }

      pub options_all_lem : x.no ≤ i → Wrote b m to (each encode_option (options_from ws end d b x.o x.no))
      options_all_lem h = let e : x.no ≡ i = let w = g.within in omega arith in rw e g.wrote

    -- The whole head.
    pub head_wrote : {m a : List ℕ} {id p k n : ℕ} → p ≡ place_of x.slot → k ≡ x.no → n ≡ x.ne
        → Wrote b m to (id ∷ get_or ws (p + 1) 0 ∷ get_or ws (p + 2) 0 ∷ k ∷ n ∷ [])
        → Wrote m a (to + 5) (each encode_option (options_from ws end d m x.o x.no))
        → compose_at ≤ to → InList x
        → Wrote b a to (head_words d (meaning ws end d b x) id)
    unfolding meaning
    head_wrote {m = m} {a = a} {id = id} {p = p} {k = k} {n = n} e h g u t low inside =
        let y = meaning ws end d b x in
        let z : (id ∷ get_or ws (p + 1) 0 ∷ get_or ws (p + 2) 0 ∷ k ∷ n ∷ [])
        ≡ (id ∷ y.carried ∷ y.flag ∷ length y.options ∷ length y.elements ∷ []) =
        rw (options_count ws end d b x.o x.no, elements_count ws end d b x.e x.ne, e, h, g) in
        let v : options_from ws end d m x.o x.no ≡ options_from ws end d b x.o x.no =
        ap (λ p. p.options) (front_meaning (front_wrote low u) inside ws end d) in
        wrote_then (omega arith) (subst (λ ys. Wrote b m to ys) z u)
        (subst (λ os. Wrote m a (to + 5) (each encode_option os)) v t)

    pub slot_room : {p : ℕ} → ListedIn ws end d b x → p ≡ place_of x.slot → p + 5 ≤ end
    slot_room t e = rw e (alternative_room newest d t.head.slot_found)

-- Behind words that were written the list is as it was.
module _ {b m : List ℕ} {to : ℕ} {ys : List ℕ} {x : Listed} (low : compose_at ≤ to) (u : Wrote b m to ys) where
  pub behind_located : Located b x → Located m x
  behind_located = front_located (front_wrote low u)

  pub behind_listed : {ws : List ℕ} {end : ℕ} (d : ℕ) → InList x → ListedIn ws end d b x → ListedIn ws end d m x
  behind_listed {ws} {end} d inside = front_listed (front_wrote low u) inside ws end d

pub ruleset options = (options_none, options_located, options_long, option_room, options_more, options_all_lem)

pub ruleset heads = (head_wrote, behind_located, behind_listed, slot_room)
