-- The loop over plans: what holds at each turn, and what the turns make of it.
use Rattle.std.specs.Prelude.{Some, None, Ok, Err}
use Prim.Native.Nat.{ℕ, suc, ◌-◌, ◌<◌}
use mathlib.Core.Path.{◌≡◌, refl, sym, subst}
use mathlib.Core.List.{List}
use native.Mathlib.Omega.{arith}
use lib.ListN.{length}
use Rattle.grammar.specs.Numbers.{most_words}
use Rattle.grammar.specs.Words.{words}
use Rattle.grammar.specs.Corners.{Corners}
use Rattle.writing.specs.declared.counters.Counters.{Counters}
use Rattle.records.specs.declared.rules.Rules.{Rules}
use Rattle.analysis.specs.Facts.{FactsFound}
use Rattle.turns.specs.Midway.{limits_of}
use Rattle.turns.specs.declared.limits.Limits.{Limits}
use Rattle.hub.specs.Preserved.{bytes_between}
use Rattle.plan.specs.Ground.{KeptOf}
use Rattle.plan.specs.declared.ground.Ground.{Ground}
use Rattle.apply.specs.Applied.{Buffers}
use Rattle.apply.specs.declared.apply.Applied.{Applied}
use Rattle.run.specs.declared.state.State.{State}
use Rattle.words.specs.declared.numbers.Refusal.{Refusal}
use Rattle.run.specs.Midst.{at_start, Begun, Going}
use Rattle.run.specs.Turn.{Small, ended_with, TurnedOf, RunOf, Onward}
use Rattle.run.proofs.Laws.Start.{onward_begin, onward_going, onward_more, onward_falls, onward_over, onward_refused}

-- Buffers of the same lengths serve as well.
pub buffers_same : {result trail work result' trail' work' : List ℕ} → Buffers result trail work → length result' ≡ length result
    → length trail' ≡ length trail → length work' ≡ length work → Buffers result' trail' work'
buffers_same b i j k =
    let r = b.for_result in
    let t = b.for_trail in
    let w = b.for_work in
    record { for_result = omega arith; for_trail = omega arith; for_work = omega arith }

module _ (lim : Limits) (reading : Corners) (room : ℕ) (result₀ : List ℕ) (end to : ℕ) (rules : Rules) (counters : Counters)
    (result trail work : List ℕ) (calls corners : List (List ℕ)) (st : State) where
  pub record Looping : Type 0 where
    pub lent : Buffers result trail work
    pub small : Small lim
    pub most : room ≡ most_words
    pub begun : Begun result₀ end to rules counters
    pub going : Going (limits_of lim) reading result trail calls corners st
    pub onward : Onward (limits_of lim) reading result₀ end to rules counters result trail calls corners st

-- The trail has no entries yet, and the work area is as long as it was lent.
pub looping_start : {lim : Limits} {reading : Corners} {room : ℕ} {result₀ trail work work₀ : List ℕ} {at : Applied} {calls corners : List (List ℕ)}
    {ground : Ground} {st : State} → Buffers result₀ trail work₀ → Small lim → room ≡ most_words → at.entries ≡ 0
    → Begun result₀ at.end at.to at.rules at.counters → FactsFound (words result₀) at.end at.rules reading calls corners ground.marks
    → KeptOf (words (bytes_between result₀ at.end at.to)) at.rules ground.kept → length work ≡ length work₀ → st ≡ at_start at ground
    → Looping lim reading room result₀ at.end at.to at.rules at.counters result₀ trail work calls corners st
looping_start {lim} {reading} {room} {result₀} {trail} {work} {work₀} {at} {calls} {corners} b s m z x g k w e =
    let o = onward_begin (limits_of lim) z g k trail in
    subst (λ y. Looping lim reading room result₀ at.end at.to at.rules at.counters result₀ trail work calls corners y) (sym e)
    (record { lent = buffers_same b refl refl w; small = s; most = m; begun = x; going = onward_going o x; onward = o })

module _ {lim : Limits} {reading : Corners} {room : ℕ} {result₀ : List ℕ} {end to : ℕ} {rules : Rules} {counters : Counters} where
  module _ {result trail work : List ℕ} {calls corners : List (List ℕ)} {st : State}
      (l : Looping lim reading room result₀ end to rules counters result trail work calls corners st) where
    module _ {result' trail' : List ℕ} {calls' corners' : List (List ℕ)} where
      module _ {next : State}
          (t : TurnedOf (limits_of lim) reading result trail calls corners st result' trail' calls' corners' (Ok (Some next))) where
        pub looping_more : {work' : List ℕ} → length result' ≡ length result → length trail' ≡ length trail → length work' ≡ length work
            → Looping lim reading room result₀ end to rules counters result' trail' work' calls' corners' next
        looping_more i j k =
            let o = onward_more l.onward t in
            record {
              lent = buffers_same l.lent i j k;
              small = l.small;
              most = l.most;
              begun = l.begun;
              going = onward_going o l.begun;
              onward = o;
            }

        -- The measure: one rule more is a hub.
        pub looping_falls : suc rules.n - next.plans < suc rules.n - st.plans
        looping_falls = onward_falls l.onward t l.begun

      module _ (t : TurnedOf (limits_of lim) reading result trail calls corners st result' trail' calls' corners' (Ok None)) where
        pub looping_over : RunOf (limits_of lim) reading result₀ end to rules counters result' trail' (Ok (ended_with st))
        looping_over = onward_over l.onward t l.begun

      pub looping_refused : {f : Refusal}
          → TurnedOf (limits_of lim) reading result trail calls corners st result' trail' calls' corners' (Err f)
          → RunOf (limits_of lim) reading result₀ end to rules counters result' trail' (Err f)
      looping_refused = onward_refused l.onward

pub ruleset loops = (looping_more, looping_falls, looping_over, looping_refused)
