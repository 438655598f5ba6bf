-- What stands in front of a sheet's trailer, in any form: what reading it found, and what is refused.
use Prim.Native.Nat.{ℕ, ◌+◌, ◌-◌, ◌*◌, ◌/◌, ◌≤◌}
use mathlib.Core.Path.{◌≡◌, refl, sym, ap, ◌∙◌}
use mathlib.Core.List.{List}
use mathlib.Core.Bool.{Bool, true, false}
use native.Mathlib.Omega.{arith}
use lib.ListN.{length, get_or, take, drop}
use lib.Dec.{eqb}
use borrow.Author.Tests.{leb-true, eqb-true}
use Rattle.grammar.specs.Form.{Form}
use Rattle.grammar.specs.Numbers.{least_bytes, trailer_words, rule_limit, bad_trailer, bad_record}
use Rattle.grammar.specs.Parse.{Got, got, bad, ◌then◌, given}
use Rattle.grammar.specs.Words.{words}
use Rattle.grammar.specs.Read.{rules_at_in}
use Rattle.grammar.specs.Valid.{is_kind}
use Rattle.grammar.specs.Lists.{rising}
use Rattle.grammar.specs.Reading.{refused, trailer, unit_kind, first_distance, second_distance, rules_end, is_trailer, read_words_in}
use Rattle.grammar.specs.Reading.{rules_of_in, preserved_ids, judge}
use Rattle.grammar.specs.Laws.Words.{words_between}
use Rattle.grammar.specs.Laws.Parse.{yields_got}
use Rattle.grammar.specs.Laws.Sound.{rules_sound}
use Rattle.records.specs.declared.rules.Rules.{Rules}
use Rattle.records.specs.Rules.{RulesReadIn, FoundRowsIn, is_got}
use Rattle.std.specs.Prelude.{Option, Some, None, is_some}
use Rattle.std.specs.Cmp.{first_so, second_so}
use Rattle.sheet.specs.Answer.{EndAt}
use Rattle.sheet.proofs.Laws.Trailer.{here}

-- what reading the rules found
got_of : {A : Type 0} (g : Got A) → is_got g ≡ true → (a : A) × (q : ℕ) × (g ≡ got a q)
got_of (got a q) e = (a, q, refl)
got_of bad e = absurd (let z : ◌≡◌ {A = ℕ} 0 1 = cc in omega arith)

bad_of : {A : Type 0} (g : Got A) → is_got g ≡ false → g ≡ bad
bad_of (got a q) e = absurd (let z : ◌≡◌ {A = ℕ} 0 1 = cc in omega arith)
bad_of bad e = refl

-- Rules that were read, by their rows and by the definition.
pub record GotRules (form : Form) (ws : List ℕ) (end : ℕ) (rules : Rules) : Type 0 where
  pub rows : FoundRowsIn form ws end rules
  pub is : rules_at_in form ws end rule_limit 0 ≡ got rows.found.trees end

module _ {form : Form} {ws : List ℕ} {end : ℕ} {r : Option Rules} (f : RulesReadIn form ws end r) where
  rules_bad : r ≡ None → rules_at_in form ws end rule_limit 0 ≡ bad
  rules_bad e = bad_of (rules_at_in form ws end rule_limit 0) (sym f.good ∙ ap is_some e)

  module _ {rules : Rules} (e : r ≡ Some rules) where
    pub rules_got : GotRules form ws end rules
    rules_got =
        let g = got_of (rules_at_in form ws end rule_limit 0) (sym f.good ∙ ap is_some e) in
        let y = yields_got (rules_sound form ws end rule_limit 0 (omega arith)) g.2 in
        let o = f.rows rules g.0 g.1 e g.2 in
        let c = o.count in
        let w = y.few in
        record {
          rows =
              record {
                found = record { trees = g.0; next = g.1; spans = y.spans; count = sym c };
                ends = y.ends;
                rows = o;
                few = omega arith;
              };
          is = g.2 ∙ ap (got g.0) y.ends;
        }

  pub rows_found : {rules : Rules} → r ≡ Some rules → FoundRowsIn form ws end rules
  rows_found e = (rules_got e).rows

pub end_at : {bs : List ℕ} {t end : ℕ} → t ≡ length bs / 4 - trailer_words → least_bytes ≤ length bs
    → end + get_or (words bs) (t + 2) 0 ≡ t
    → EndAt bs t end
end_at p l s = record { place = p; least = l; split = s }

-- The records in front of the trailer.
module _ (form : Form) (bs : List ℕ) {b : Bool} (e : b ≡ is_trailer (words bs)) where
  pub trailer_bad : b ≡ false → read_words_in form (words bs) ≡ refused bad_trailer
  unfolding read_words_in
  trailer_bad h = rw (sym e ∙ h, read_words_in) refl

  module _ (h : b ≡ true) where
    pub trailer_true : is_trailer (words bs) ≡ true
    trailer_true = sym e ∙ h

    pub trailer_good : least_bytes ≤ length bs
        → (4 * (length bs / 4 - trailer_words + 2) + 4 ≤ length bs)
        × (get_or (words bs) (length bs / 4 - trailer_words + 2) 0 ≤ length bs / 4 - trailer_words)
    unfolding is_trailer
    trailer_good m =
        let u = second_so (is_kind (unit_kind (words bs))) _ trailer_true in
        let first = first_distance (words bs) in
        let f = eqb-true first (trailer (words bs)) (first_so (eqb first (trailer (words bs))) _ u) in
        let g = leb-true (second_distance (words bs)) first (second_so (eqb first (trailer (words bs))) _ u) in
        (omega arith, rw (here bs refl) at (rw f at g))

    module _ {t end : ℕ} (k : EndAt bs t end) where
      pub end_is : rules_end (words bs) ≡ end
      end_is = let z = k.split in rw (here bs k.place) (omega arith)

      opened : rules_of_in form (words bs)
          ≡ (rules_at_in form (words bs) end rule_limit 0 then λ rs q. given (rising (preserved_ids (words bs))) λ _. got rs q)
      unfolding rules_of_in
      opened = rw end_is refl

      pub ids_are : preserved_ids (words bs) ≡ take (t - end) (drop end (words bs))
      unfolding preserved_ids
      ids_are =
          let z = k.split in
          let n : get_or (words bs) (t + 2) 0 ≡ t - end = omega arith in
          rw end_is (rw (here bs k.place, n) refl)

      refused_by : rules_of_in form (words bs) ≡ bad → read_words_in form (words bs) ≡ refused bad_record
      unfolding read_words_in judge
      refused_by o = rw (trailer_true, read_words_in) (rw o refl)

      module _ {r : Option Rules} (f : RulesReadIn form (words bs) end r) where
        pub records_bad : r ≡ None → read_words_in form (words bs) ≡ refused bad_record
        records_bad o = refused_by (opened ∙ rw (rules_bad f o) refl)

        module _ {rules : Rules} (g : r ≡ Some rules) {c : Bool} (i : c ≡ rising (words (take (4 * t - 4 * end) (drop (4 * end) bs)))) where
          told : c ≡ rising (take (t - end) (drop end (words bs)))
          told =
              i ∙ ap rising (words_between bs end t)

          pub preserved_bad : c ≡ false → read_words_in form (words bs) ≡ refused bad_record
          preserved_bad j = refused_by (opened ∙ rw ((rules_got f g).is, ids_are, sym told ∙ j) refl)

          pub all_found : c ≡ true → rules_of_in form (words bs) ≡ got (rules_got f g).rows.found.trees end
          all_found j = opened ∙ rw ((rules_got f g).is, ids_are, sym told ∙ j) refl
