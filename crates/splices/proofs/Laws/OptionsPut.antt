-- The union of options, written option by option.
use Prim.Native.Nat.{ℕ, zero, suc, ◌+◌, ◌-◌, ◌*◌, ◌<◌, ◌≤◌}
use mathlib.Core.Path.{◌≡◌, refl, sym, ap, ◌∙◌}
use mathlib.Core.Logic.{⊎_elim}
use mathlib.Core.List.{List, [], ◌∷◌, ◌++◌}
use mathlib.Core.Option.{none, some}
use native.Mathlib.Omega.{arith}
use lib.ListN.{length, get_or}
use Rattle.std.proofs.lemmas.Bool.{cases_lt}
use Rattle.grammar.specs.Tree.{OptionDecl}
use Rattle.grammar.specs.Found.{FoundAlternative}
use Rattle.reference.specs.Substitute.{union_options}
use Rattle.planned.specs.Layout.{half, option_of, options_from}
use Rattle.planned.specs.Halves.{HalvesMoved}
use Rattle.splices.specs.Options.{meets, standing_options, OptionsIn, NewPut, NonePut, PutIfNew, UnionFits, OptionsFit, OptionsPut}
use Rattle.splices.specs.Places.{OptionCount}
use Rattle.planned.specs.Laws.Parts.{Copied, options_copied, options_count}
use Rattle.planned.specs.declared.list.Listed.{Listed}
use Rattle.splices.specs.declared.options.Meets.{Meets}
use Rattle.splices.specs.declared.options.Meets.TheVariants.{New, Same, Other}
use Rattle.splices.proofs.Laws.Places.{option_counted}
use Rattle.splices.proofs.Laws.OptionsUnion.{union_next, union_clash, union_append, union_longer, standing_split, own_options}
use Rattle.splices.proofs.Laws.OptionsAdded.{next_option, rest_options}

options_last : (ws : List ℕ) (end d : ℕ) (bs : List ℕ) (m at : ℕ) → options_from ws end d bs at (m + 1)
    ≡ options_from ws end d bs at m ++ (option_of ws end d (half bs (at + m)) ∷ [])
unfolding options_from
options_last ws end d bs zero at = let e : at + 0 ≡ at = omega arith in rw e refl
options_last ws end d bs (suc m) at =
    let e : at + suc m ≡ suc at + m = omega arith in
    let f : suc m + 1 ≡ suc (m + 1) = omega arith in
    rw (e, f) (ap (λ os. option_of ws end d (half bs at) ∷ os) (options_last ws end d bs m (suc at)))

-- The union with the first j options is written from `to` up to t.
pub record Putting (ws : List ℕ) (end d at : ℕ) (before : List ℕ) (h : Listed) (to n : ℕ) (cur : List ℕ) (j t : ℕ) : Type 0 where
  pub few : j ≤ n
  pub past : to ≤ t
  pub is : union_options (options_from ws end d before h.o h.no) (standing_options ws end d (at + 5) j)
      ≡ some (options_from ws end d cur to (t - to))
  pub low : (i : ℕ) → i < t - to → half cur (to + i) + 2 ≤ end
  pub front : (i : ℕ) → i < to → half cur i ≡ half before i
  pub behind : (i : ℕ) → t ≤ i → half cur i ≡ half before i
  pub long : length cur ≡ length before
  pub room : t ≤ h.o

module _ {ws : List ℕ} {end d at : ℕ} {before : List ℕ} {h : Listed} {to n : ℕ} (f : FoundAlternative ws end d at) (c : OptionCount ws end at n)
    (fit : OptionsFit ws end d at before h to) where
  abbrev os : List OptionDecl
  os = options_from ws end d before h.o h.no

  abbrev own : ℕ → List OptionDecl
  own j = standing_options ws end d (at + 5) j

  whole : UnionFits os (own n) to h.o
  whole = rw (own_options ws end d f.spans, ← c.is) at (fit.is f.tree f.next f.spans)

  -- A part of the union has room too.
  room_for : (j : ℕ) → j ≤ n → (wider : List OptionDecl) → union_options os (own j) ≡ some wider → to + length wider ≤ h.o
  room_for j l wider e =
      let w = whole in
      let x : n ≡ j + (n - j) = omega arith in
      let rest = standing_options ws end d (at + 5 + 2 * j) (n - j) in
      let y : own n ≡ own j ++ rest = ap own x ∙ standing_split ws end d (at + 5) j (n - j) in
      let z : union_options wider rest ≡ some w.all = sym (union_append os (own j) rest e) ∙ ap (union_options os) (sym y) ∙ w.is in
      let k = union_longer wider rest z in
      let q = w.fits in
      omega arith

  in_front : to + h.no ≤ h.o
  unfolding union_options standing_options
  in_front = let r = room_for 0 (omega arith) os refl in let k = options_count ws end d before h.o h.no in omega arith

  pub putting_none : OptionsIn ws end d before h.o h.no → Copied before before h.o to h.no
      → Putting ws end d at before h to n before 0 (to + h.no)
  unfolding union_options standing_options
  putting_none o p =
      let r = in_front in
      let k : to + h.no - to ≡ h.no = omega arith in
      record {
        few = omega arith;
        past = omega arith;
        is = ap some (sym (rw k (options_copied ws end d h.no p)));
        low = λ i l. rw (p.each i (omega arith)) (o.low i (omega arith));
        front = λ i l. refl;
        behind = λ i l. refl;
        long = refl;
        room = r;
      }

  module _ {cur : List ℕ} {j t : ℕ} (g : Putting ws end d at before h to n cur j t) where
    hand_same : options_from ws end d cur h.o h.no ≡ os
    hand_same =
        let r = g.room in options_copied ws end d h.no (record { each = λ i l. g.behind (h.o + i) (omega arith) })

    pub putting_in : OptionsIn ws end d before h.o h.no → OptionsIn ws end d cur h.o h.no
    putting_in o =
        let r = g.room in
        let x = o.long in
        let z = g.long in
        record { long = omega arith; low = λ k m. rw (g.behind (h.o + k) (omega arith)) (o.low k m) }

    pub putting_done : n ≤ j → OptionsPut ws end d at h before cur to t
    putting_done l =
        let e : j ≡ n = let w = g.few in omega arith in
        record {
          past = g.past;
          meant = λ a q s. rw (own_options ws end d s, ← c.is, ← e) g.is;
          low = g.low;
          front = g.front;
          behind = g.behind;
          long = g.long;
        }

    module _ (more : j < n) {after : List ℕ} {r : ℕ}
        (s : PutIfNew (meets (options_from ws end d cur h.o h.no ++ own j) (option_of ws end d (at + 5 + 2 * j))) cur after
        (at + 5 + 2 * j) t r) where
      abbrev one : OptionDecl
      one = option_of ws end d (at + 5 + 2 * j)

      abbrev wider : List OptionDecl
      wider = options_from ws end d cur to (t - to)

      met_same : {m : Meets} → meets (options_from ws end d cur h.o h.no ++ own j) one ≡ m → m ≡ meets (os ++ own j) one
      met_same e = rw hand_same at (sym e)

      next_new : NewPut cur after (at + 5 + 2 * j) t r → New ≡ meets (os ++ own j) one → Putting ws end d at before h to n after (j + 1) r
      next_new p e =
          let u = g.past in
          let v = p.next in
          let q = p.put in
          let k : r - to ≡ t - to + 1 = omega arith in
          let x : to + (t - to) ≡ t = omega arith in
          let old : options_from ws end d after to (t - to) ≡ wider =
          options_copied ws end d (t - to) (record { each = λ i l. q.other (to + i) (λ z. omega arith) }) in
          let all : wider ++ (one ∷ []) ≡ options_from ws end d after to (r - to) =
          sym (rw k (options_last ws end d after (t - to) to ∙ rw (x, q.here, old) refl)) in
          let is : union_options os (own (j + 1)) ≡ some (options_from ws end d after to (r - to)) =
          rw (next_option ws end d at j) (union_next os (own j) g.is one e (ap some all)) in
          let room = room_for (j + 1) (omega arith) (options_from ws end d after to (r - to)) is in
          let n = options_count ws end d after to (r - to) in
          let b = c.room in
          record {
            few = omega arith;
            past = omega arith;
            is = is;
            low = λ i l.
                ⊎_elim (λ m. rw (q.other (to + i) (λ z. omega arith)) (g.low i m))
                (λ m. let y : to + i ≡ t = omega arith in rw (y, q.here) (omega arith))
                (cases_lt i (t - to));
            front = λ i l. q.other i (λ z. omega arith) ∙ g.front i l;
            behind = λ i l. q.other i (λ z. omega arith) ∙ g.behind i (omega arith);
            long = q.long ∙ g.long;
            room = omega arith;
          }

      next_same : NonePut cur after t r → Same ≡ meets (os ++ own j) one → Putting ws end d at before h to n after (j + 1) r
      next_same p e =
          let v = p.next in
          rw (v, p.same)
          (record {
            few = omega arith;
            past = g.past;
            is = rw (next_option ws end d at j) (union_next os (own j) g.is one e refl);
            low = g.low;
            front = g.front;
            behind = g.behind;
            long = g.long;
            room = g.room;
          })

      pub putting_next : Putting ws end d at before h to n after (j + 1) r
      putting_next = go (meets (options_from ws end d cur h.o h.no ++ own j) one) refl
        where
          go : (m : Meets) → meets (options_from ws end d cur h.o h.no ++ own j) one ≡ m
              → Putting ws end d at before h to n after (j + 1) r
          go New e = next_new (s.new e) (met_same e)
          go Same e =
              next_same (s.old λ x. let z : New ≡ Same = sym x ∙ e in let w : ◌≡◌ {A = ℕ} 0 1 = cc in omega arith) (met_same e)
          go Other e =
              let w = whole in
              let x : union_options os (own n) ≡ none =
              rw (rest_options ws end d at j n more) (union_clash os (own j) g.is one (met_same e) _ refl) in
              absurd (let y : none ≡ some w.all = sym x ∙ w.is in let z : ◌≡◌ {A = ℕ} 0 1 = cc in omega arith)

pub ruleset putting = (putting_none, putting_in, putting_next, putting_done)

-- The options in hand are copied first.
module _ {ws : List ℕ} {end d at : ℕ} {before : List ℕ} {h : Listed} {to : ℕ} (f : FoundAlternative ws end d at)
    (fit : OptionsFit ws end d at before h to) where
  copy_front : to + h.no ≤ h.o
  copy_front = in_front f (record { is = refl; room = own_room f }) fit
    where
      own_room : FoundAlternative ws end d at → at + 5 + 2 * get_or ws (at + 3) 0 ≤ end
      own_room f = (option_counted d f refl).room

  module _ {mid : List ℕ} (p : HalvesMoved before mid h.o to h.no) where
    copy_same : (i : ℕ) → i < h.no → half mid (h.o + i) ≡ half before (h.o + i)
    copy_same i l = let r = copy_front in p.behind (h.o + i) (omega arith)

    hand_kept : options_from ws end d mid h.o h.no ≡ options_from ws end d before h.o h.no
    hand_kept = options_copied ws end d h.no (record { each = copy_same })

    pub copy_in : OptionsIn ws end d before h.o h.no → OptionsIn ws end d mid h.o h.no
    copy_in o = let l = p.long in let x = o.long in record { long = omega arith; low = λ i m. rw (copy_same i m) (o.low i m) }

    pub copy_fit : OptionsFit ws end d at mid h to
    copy_fit = record { is = λ a q s. rw hand_kept (fit.is a q s) }

    pub copy_first : Copied mid mid h.o to h.no
    copy_first = record { each = λ i l. p.here i l ∙ sym (copy_same i l) }

    pub copy_done : {after : List ℕ} {r : ℕ} → OptionsPut ws end d at h mid after to r → OptionsPut ws end d at h before after to r
    copy_done {after} {r} g =
        record {
          past = g.past;
          meant = λ a q s. rw hand_kept at (g.meant a q s);
          low = g.low;
          front = λ j l. g.front j l ∙ p.front j l;
          behind = λ j l. g.behind j l ∙ p.behind j (let c = count in omega arith);
          long = g.long ∙ p.long;
        }
      where
        count : to + h.no ≤ r
        count =
            let k = union_longer _ _ (g.meant f.tree f.next f.spans) in
            let m = options_count ws end d mid h.o h.no in
            let n = options_count ws end d after to (r - to) in
            let e = g.past in
            omega arith

pub ruleset copying_first = (copy_in, copy_fit, copy_first, copy_done)
