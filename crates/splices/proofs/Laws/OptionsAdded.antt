-- The loops over the options of an alternative: how many are added, and the union written.
use Prim.Native.Nat.{ℕ, suc, ◌+◌, ◌-◌, ◌*◌, ◌<◌, ◌≤◌}
use mathlib.Core.Path.{◌≡◌, refl, sym, ap, ◌∙◌}
use mathlib.Core.List.{List, [], ◌∷◌, ◌++◌}
use mathlib.Core.Option.{some}
use native.Mathlib.Omega.{arith}
use lib.ListN.{length, get_or, length-append}
use Rattle.grammar.specs.Tree.{OptionDecl}
use Rattle.reference.specs.Substitute.{union_options}
use Rattle.planned.specs.Layout.{option_of, options_from, meaning}
use Rattle.splices.specs.Moves.{OptionsAdded}
use Rattle.splices.specs.Options.{meets, or_else, standing_options, OptionsIn}
use Rattle.splices.specs.Places.{OptionCount}
use Rattle.planned.specs.List.{Located, ListedIn}
use Rattle.planned.specs.declared.list.Listed.{Listed}
use Rattle.std.specs.Prelude.{Some, None}
use Rattle.splices.specs.declared.options.Meets.{Meets}
use Rattle.splices.specs.declared.options.Meets.TheVariants.{New, Same, Other}
use Rattle.splices.proofs.Laws.Options.{meets_append}
use Rattle.splices.proofs.Laws.OptionsUnion.{added_by, union_next, union_clash, standing_split, own_options}

-- First against some, then against others.
module _ (os own : List OptionDecl) {name value a v : ℕ} {m : Meets} (n : name ≡ a) (x : value ≡ v)
    (e : m ≡ meets os (record { name = name; value = value })) where
  both : {k : Meets} → m ≡ k → meets (os ++ own) (record { name = a; value = v }) ≡ or_else k (meets own (record { name = name; value = value }))
  both f =
      let o : OptionDecl = record { name = name; value = value } in
      rw (← n, ← x) (meets_append os own o ∙ ap (λ k. or_else k (meets own o)) (sym e ∙ f))

  pub meets_new : {r : Meets} → m ≡ New → r ≡ meets own (record { name = name; value = value })
      → r ≡ meets (os ++ own) (record { name = a; value = v })
  meets_new f g = g ∙ sym (both f)

  pub meets_met : (m ≡ New → ⊥) → m ≡ meets (os ++ own) (record { name = a; value = v })
  meets_met f = sym (both refl ∙ decided m (meets own (record { name = name; value = value })) f)
    where
      decided : (k r : Meets) → (k ≡ New → ⊥) → or_else k r ≡ k
      decided New r f = absurd (f refl)
      decided Same r f = refl
      decided Other r f = refl

pub ruleset meeting = (meets_new, meets_met)

-- The options in hand are in the sheet.
pub hand_options : {ws : List ℕ} {end d : ℕ} {bs : List ℕ} {x : Listed} → Located bs x → ListedIn ws end d bs x
    → OptionsIn ws end d bs x.o x.no
hand_options l i = record { long = let o = l.options in let b = l.long in omega arith; low = i.options }

-- The union with the first j options of an alternative has so many more.
pub record Adding (ws : List ℕ) (end d at : ℕ) (os : List OptionDecl) (n j added : ℕ) : Type 0 where
  pub few : j ≤ n
  pub fewer : added ≤ j
  pub wider : List OptionDecl
  pub is : union_options os (standing_options ws end d (at + 5) j) ≡ some wider
  pub count : length wider ≡ length os + added

module _ (ws : List ℕ) (end d at : ℕ) where
  pub next_option : (j : ℕ) → standing_options ws end d (at + 5) (j + 1)
      ≡ standing_options ws end d (at + 5) j ++ (option_of ws end d (at + 5 + 2 * j) ∷ [])
  unfolding standing_options
  next_option j = standing_split ws end d (at + 5) j 1

  pub rest_options : (j n : ℕ) → j < n → standing_options ws end d (at + 5) n
      ≡ standing_options ws end d (at + 5) j
      ++ (option_of ws end d (at + 5 + 2 * j) ∷ standing_options ws end d (2 + (at + 5 + 2 * j)) (n - (j + 1)))
  unfolding standing_options
  rest_options j n h =
      let e : n ≡ j + suc (n - (j + 1)) = omega arith in
      ap (standing_options ws end d (at + 5)) e ∙ standing_split ws end d (at + 5) j (suc (n - (j + 1)))

  pub adding_none : (os : List OptionDecl) (n : ℕ) → Adding ws end d at os n 0 0
  unfolding standing_options union_options
  adding_none os n = record { few = omega arith; fewer = omega arith; wider = os; is = refl; count = omega arith }

module _ {ws : List ℕ} {end d at : ℕ} {os : List OptionDecl} {n j added : ℕ} (g : Adding ws end d at os n j added) (h : j < n) {m : Meets}
    (x : m ≡ meets (os ++ standing_options ws end d (at + 5) j) (option_of ws end d (at + 5 + 2 * j))) where
  added_next : {next : List OptionDecl} {more : ℕ} → more ≤ j + 1
      → added_by m g.wider (option_of ws end d (at + 5 + 2 * j)) ≡ some next
      → length next ≡ length os + more → Adding ws end d at os n (j + 1) more
  added_next {next} l e c =
      record {
        few = omega arith;
        fewer = l;
        wider = next;
        is = rw (next_option ws end d at j) (union_next os _ g.is _ x e);
        count = c;
      }

  pub adding_new : m ≡ New → {v : ℕ} → v ≡ added + 1 → Adding ws end d at os n (j + 1) v
  adding_new e f =
      added_next {next = g.wider ++ (option_of ws end d (at + 5 + 2 * j) ∷ [])} (let l = g.fewer in omega arith) (rw e refl)
      (length-append g.wider (option_of ws end d (at + 5 + 2 * j) ∷ []) ∙ (let c = g.count in omega arith))

  pub adding_same : m ≡ Same → {v : ℕ} → v ≡ added → Adding ws end d at os n (j + 1) v
  adding_same e f = added_next {next = g.wider} (let l = g.fewer in omega arith) (rw e refl) (let c = g.count in omega arith)

  adding_clash : m ≡ Other → OptionCount ws end at n → OptionsAdded ws end d at os None
  adding_clash e c =
      record {
        clash = λ f a q s.
            rw (own_options ws end d s, ← c.is, rest_options ws end d at j n h) (union_clash os _ g.is _ x _ (rw e refl));
        more = λ k f. absurd (let z : ◌≡◌ {A = ℕ} 0 1 = cc in omega arith);
      }

adding_done : {ws : List ℕ} {end d at : ℕ} {os : List OptionDecl} {n j added : ℕ} → Adding ws end d at os n j added → n ≤ j
    → OptionCount ws end at n → OptionsAdded ws end d at os (Some added)
adding_done {ws} {end} {d} {at} {os} {n} {j} {added} g l c =
    record {
      clash = λ f. absurd (let z : ◌≡◌ {A = ℕ} 0 1 = cc in omega arith);
      more = λ k f a q s.
          let e : added ≡ k = cc in
          let i : j ≡ get_or ws (at + 3) 0 = let w = g.few in let x = c.is in omega arith in
          record {
            all = g.wider;
            is = rw (own_options ws end d s, ← i) g.is;
            count = rw (← e) g.count;
          };
    }

-- So it is for the options in hand.
module _ {ws : List ℕ} {end d at : ℕ} (bs : List ℕ) (x : Listed) {n j added : ℕ}
    (g : Adding ws end d at (options_from ws end d bs x.o x.no) n j added) (c : OptionCount ws end at n) where
  pub added_clash : j < n → {m : Meets}
      → m ≡ meets (options_from ws end d bs x.o x.no ++ standing_options ws end d (at + 5) j) (option_of ws end d (at + 5 + 2 * j))
      → m ≡ Other → OptionsAdded ws end d at (meaning ws end d bs x).options None
  unfolding meaning
  added_clash h y e = adding_clash g h y e c

  pub added_done : n ≤ j → OptionsAdded ws end d at (meaning ws end d bs x).options (Some added)
  unfolding meaning
  added_done h = adding_done g h c

pub ruleset adding = (hand_options, adding_none, adding_new, adding_same, added_clash, added_done)
