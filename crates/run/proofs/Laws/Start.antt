-- The start of a run, and its loop.
use Rattle.std.specs.Prelude.{Some, None, Ok, Err}
use Rattle.std.specs.Cmp.{first_so}
use Prim.Native.Nat.{ℕ, suc, ◌+◌, ◌-◌, ◌*◌, ◌≤◌, ◌<◌}
use mathlib.Core.Path.{◌≡◌, refl, sym, ap, ◌∙◌, subst}
use mathlib.Core.List.{List, []}
use mathlib.Core.Bool.{true}
use native.Mathlib.Omega.{arith}
use lib.ListN.{length}
use lib.Dec.{leb}
use borrow.Author.Tests.{leb-true}
use Rattle.grammar.specs.Numbers.{trailer_words, most_words}
use Rattle.grammar.specs.Encode.{encode}
use Rattle.grammar.specs.Valid.{fits_in}
use Rattle.grammar.specs.Lists.{rising, total}
use Rattle.grammar.specs.Words.{words}
use Rattle.grammar.specs.Laws.Words.{words_between}
use Rattle.grammar.specs.Laws.Stands.{stands_none}
use Rattle.grammar.specs.Corners.{Corners}
use Rattle.reference.specs.Substitute as R
use Rattle.reference.specs.Numbers.{entry_words}
use Rattle.reference.specs.Run.{steps_of, entries_of}
use Rattle.laws.specs.Running.Midway.{midway_start}
use Rattle.words.specs.Room.{Room}
use Rattle.words.specs.declared.numbers.Refusal.{Refusal}
use Rattle.writing.specs.declared.counters.Counters.{Counters}
use Rattle.records.specs.declared.rules.Rules.{Rules}
use Rattle.reach.specs.Rows.{RowOf}
use Rattle.analysis.specs.Facts.{Standing, FactsFound}
use Rattle.hub.specs.Preserved.{bytes_between}
use Rattle.plan.specs.declared.ground.Ground.{Ground}
use Rattle.plan.specs.Ground.{KeptAt, KeptOf}
use Rattle.apply.specs.declared.apply.Applied.{Applied}
use Rattle.apply.specs.Laws.Held.{held_long, held_room, held_kept, held_standing, held_preserved}
use Rattle.run.specs.declared.state.State.{State}
use Rattle.run.specs.Ended.{Front}
use Rattle.run.specs.Midst.{at_start, Begun, Midst, Going}
use Rattle.run.specs.Turn.{ended_with, TurnedOf, RunOf, Onward}

module _ {result : List ℕ} {end to : ℕ} {rules : Rules} {counters : Counters} (x : Begun result end to rules counters) where
  begun_short : to + trailer_words ≤ most_words
  unfolding fits_in
  begun_short =
      let e = held_long x.held in
      let l = leb-true (length (encode x.sheet)) most_words (first_so (leb (length (encode x.sheet)) most_words) _ x.is_fitting) in
      omega arith

  pub begun_room : Room result end
  begun_room = held_room x.held begun_short

  pub begun_kept : KeptAt result end to
  begun_kept = held_kept x.held x.is_valid

  pub begun_rises : rising (words (bytes_between result end to)) ≡ true
  begun_rises = ap rising (words_between result end to) ∙ begun_kept.rises

  unfoldable pub begun_standing : Standing (words result) end rules
  begun_standing = held_standing x.held x.is_valid x.rows

pub ruleset begins = (begun_room, begun_kept, begun_rises, begun_standing)

-- The trail has no entries yet.
module _ (limits : R.Limits) {reading : Corners} {result : List ℕ} {at : Applied} {calls corners : List (List ℕ)} {ground : Ground}
    (e : at.entries ≡ 0) (f : FactsFound (words result) at.end at.rules reading calls corners ground.marks)
    (k : KeptOf (words (bytes_between result at.end at.to)) at.rules ground.kept) (trail : List ℕ) where
  started : (x : Begun result at.end at.to at.rules at.counters) → Midst limits reading x.sheet result trail calls corners (at_start at ground)
  unfolding begun_standing held_standing entries_of steps_of total
  started x =
      record {
        stages = [];
        now = x.sheet;
        midway = midway_start limits reading x.sheet x.is_valid x.is_fitting x.is_parser;
        held = x.held;
        rows = x.rows;
        counters = x.counters_are;
        facts = f.is (begun_standing x);
        keeps = subst (λ ps. RowOf at.rules.ids at.rules.n ps ground.kept) (words_between result at.end at.to ∙ held_preserved x.held) k.row;
        told = subst (λ n. Front trail [] (entry_words * n)) (sym e) (record { stands = stands_none (omega arith); room = omega arith });
        entries = e;
        plans = refl;
        steps = refl;
      }

  pub onward_begin : Onward limits reading result at.end at.to at.rules at.counters result trail calls corners (at_start at ground)
  onward_begin = record { is = started }

module _ {limits : R.Limits} {reading : Corners} {result : List ℕ} {end to : ℕ} {rules : Rules} {counters : Counters} where
  module _ {result₁ trail₁ : List ℕ} {calls corners : List (List ℕ)} {st : State}
      (o : Onward limits reading result end to rules counters result₁ trail₁ calls corners st) where
    pub onward_going : Begun result end to rules counters → Going limits reading result₁ trail₁ calls corners st
    onward_going x = record { sheet = x.sheet; midst = o.is x }

    module _ {result₂ trail₂ : List ℕ} {calls₂ corners₂ : List (List ℕ)} where
      module _ {next : State}
          (t : TurnedOf limits reading result₁ trail₁ calls corners st result₂ trail₂ calls₂ corners₂ (Ok (Some next))) where
        pub onward_more : Onward limits reading result end to rules counters result₂ trail₂ calls₂ corners₂ next
        onward_more = record { is = λ x. (t.is x.sheet (o.is x)).midst }

        -- The measure: one rule more is a hub.
        pub onward_falls : Begun result end to rules counters → suc rules.n - next.plans < suc rules.n - st.plans
        onward_falls x =
            let m = t.is x.sheet (o.is x) in
            let a = m.counted in
            let b = m.few in
            let c = x.rows.count in
            omega arith

      module _ (t : TurnedOf limits reading result₁ trail₁ calls corners st result₂ trail₂ calls₂ corners₂ (Ok None)) where
        pub onward_over : Begun result end to rules counters
            → RunOf limits reading result end to rules counters result₂ trail₂ (Ok (ended_with st))
        onward_over y = record { short = (t.is y.sheet (o.is y)).short; is = λ x. (t.is x.sheet (o.is x)).is }

      pub onward_refused : {f : Refusal} → TurnedOf limits reading result₁ trail₁ calls corners st result₂ trail₂ calls₂ corners₂ (Err f)
          → RunOf limits reading result end to rules counters result₂ trail₂ (Err f)
      onward_refused t = record { short = tt; is = λ x. (t.is x.sheet (o.is x)).is }
