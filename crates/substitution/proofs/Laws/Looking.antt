-- A hub's list that is beyond its limits: its alternatives are looked through, one more and all.
use Prim.Native.Nat.{ℕ, zero, suc, ◌+◌, ◌-◌, ◌<◌, ◌≤◌}
use mathlib.Core.Path.{◌≡◌, refl, sym, ap, ◌∙◌, subst}
use mathlib.Core.Logic.{◌⊎◌, inl, inr, ⊎_elim}
use mathlib.Core.List.{List, [], ◌∷◌, ◌++◌, append_assoc}
use mathlib.Core.Bool.{Bool, true, false, ◌&&◌}
use native.Mathlib.Omega.{arith}
use lib.ListN.{length, get_or}
use lib.Dec.{leb}
use borrow.Author.Tests.{le-leb, leb-false}
use Rattle.grammar.specs.Numbers.{most_words, work_bytes}
use Rattle.grammar.specs.Tree.{Alternative, inner_depth}
use Rattle.grammar.specs.Lists.{each, all}
use Rattle.grammar.specs.Stands.{Spans}
use Rattle.grammar.specs.Encode.{encode_alternative, encode_block}
use Rattle.grammar.specs.Valid.{ok_alternative, ok_block}
use Rattle.grammar.specs.Found.{FoundAlternative, FoundAlternatives, AlternativeSpans}
use Rattle.grammar.specs.Fold.{AlternativeWalked}
use Rattle.grammar.specs.Laws.Opened.{first_spans, first_found, rule_words_lem}
use Rattle.reference.specs.Substitute.{overfull, Planned}
use Rattle.reference.specs.Substitute as R
use Rattle.reference.specs.Plan.{as_it_is, as_they_are}
use Rattle.analysis.specs.Facts.{Among}
use Rattle.hub.specs.Grounds.{rules_of}
use Rattle.ends.specs.Ends.{skipping}
use Rattle.planned.specs.Laws.Counts.{options_all}
use Rattle.splices.specs.declared.splice.Size.{Size}
use Rattle.steps.specs.Decide.{DeclinedBy}
use Rattle.substitution.specs.Size.{RuleCounted}
use Rattle.turns.specs.Ground.{Ground, task_of}
use Rattle.turns.specs.Stand.{RulesStand}
use Rattle.turns.specs.Midway.{limits_of, within_limits}
use Rattle.turns.specs.Turns.{Task, Replaced, IsSettled, substitution, Substituting}
use Rattle.substitution.specs.Run.{Untouched, MadeOf}
use Rattle.substitution.specs.Over.{HubBeyond, InNeed, LookedAt, Unstored}
use Rattle.steps.specs.declared.cycle.Cycle.{Cycle}
use Rattle.turns.specs.declared.limits.Limits.{Limits}
use Rattle.std.specs.Prelude.{Option, None, Result, Ok, Err}
use Rattle.steps.specs.declared.decide.Clause.{Clause}
use Rattle.turns.specs.Turn.{UnplannedBy}
use Rattle.turns.specs.declared.turn.Unplanned.{Unplanned}
use Rattle.turns.specs.declared.turn.Unplanned.TheVariants.{Declined, Overfull}
use Rattle.substitution.specs.declared.turning.Done.{Done}
use Rattle.substitution.proofs.Laws.Grown.{stays_beyond}
use Rattle.turns.proofs.Laws.Replaced.{target_tree, target_spans}
use Rattle.turns.proofs.Laws.Stand.{member_room, member_found}
use Rattle.turns.proofs.Laws.Turns.{substituted, substitute_spent, settle_one, substitute_declined, substitute_over}

-- The first that is in need of work ends the substitution.
module _ {d : ℕ} {t : Task d} {start out : List (Planned d)} {p : Planned d} {ps : List (Planned d)} where
  need_declines : {n : Clause} (left : ℕ) → Substituting t left start left 0 out (p ∷ ps) → InNeed t left p (Declined n)
      → DeclinedBy (substitution t left 0 start) n
  need_declines zero s k = rw (k.to.spent refl) (record { is = (substitute_spent s k.replaced refl).is })
  need_declines (suc left) s k =
      let some : suc left ≡ 0 → ⊥ = λ z. absurd (omega arith) in
      let v = k.to.declines some in
      record { is = (substitute_declined s (subst (Replaced t p) v.is k.replaced) some).is }

  need_goes : (left : ℕ) → Substituting t left start left 0 out (p ∷ ps) → InNeed t left p Overfull
      → (t.limits.alternatives < length (out ++ (p ∷ ps))) ⊎ (t.limits.options < options_all (out ++ (p ∷ ps)))
      → substitution t left 0 start ≡ overfull
  need_goes left s k b =
      let v = k.to in
      (substitute_over s (subst (Replaced t p) v.is k.replaced) v.some (stays_beyond d p out ps t.limits v.ps v.alternatives v.options b)).is

-- Some of the hub's alternatives are settled, and these are left.
pub record Behind (t : Task inner_depth) (left : ℕ) (start : List (Planned inner_depth)) (ts : List Alternative) : Type 0 where
  pub out : List (Planned inner_depth)
  pub whole : out ++ as_they_are ts ≡ start
  pub run : Substituting t left start left 0 out (as_they_are ts)

module _ {t : Task inner_depth} {left : ℕ} {start : List (Planned inner_depth)} where
  behind_all : (ts : List Alternative) → as_they_are ts ≡ start → Behind t left start ts
  behind_all ts e = record { out = []; whole = e; run = record { same = ap (substitution t left 0) (sym e); settled = tt } }

  behind_none : (ts : List Alternative) → length ts ≡ 0 → Behind t left start ts → Untouched (substitution t left 0 start)
  unfolding as_they_are
  behind_none [] e k = record { list = k.out; is = (substituted k.run).is }
  behind_none (x ∷ ts) e k = absurd (omega arith)

  module _ (a : Alternative) (ts : List Alternative) (k : Behind t left start (a ∷ ts)) where
    behind_settled : IsSettled t (as_it_is a) → Behind t left start ts
    unfolding as_they_are
    behind_settled i =
        record {
          out = k.out ++ (as_it_is a ∷ []);
          whole = append_assoc k.out (as_it_is a ∷ []) (as_they_are ts) ∙ k.whole;
          run = settle_one k.run i;
        }

    behind_declines : {n : Clause} → InNeed t left (as_it_is a) (Declined n) → DeclinedBy (substitution t left 0 start) n
    unfolding as_they_are
    behind_declines n = need_declines left k.run n

    behind_goes : InNeed t left (as_it_is a) Overfull → (t.limits.alternatives < length start) ⊎ (t.limits.options < options_all start)
        → substitution t left 0 start ≡ overfull
    unfolding as_they_are
    behind_goes n b =
        need_goes left k.run n
        (subst (λ ps. (t.limits.alternatives < length ps) ⊎ (t.limits.options < options_all ps)) (sym k.whole) b)

    behind_ends : (e : Unplanned) → InNeed t left (as_it_is a) e
        → (t.limits.alternatives < length start) ⊎ (t.limits.options < options_all start)
        → UnplannedBy (substitution t left 0 start) e
    behind_ends (Declined n) i b = behind_declines i
    behind_ends Overfull i b = behind_goes i b

module _ (ws : List ℕ) (end : ℕ) (names places : List ℕ) (c : Cycle) (left : ℕ) (before : List ℕ) where
  -- A loop over the hub's n alternatives, of which i are settled.
  pub record Looking (n i p : ℕ) (bs : List ℕ) : Type 0 where
    pub found : FoundAlternatives ws end inner_depth (n - i) p
    pub within : p ≤ end
    pub long : work_bytes ≤ length bs
    pub same : length bs ≡ length before
    pub so : (b : Ground ws end names places c) (limits : R.Limits) (a : Among (rules_of ws end b.rules b.standing) c.hub)
        → Behind (task_of b limits) left (as_they_are a.rule.body) found.trees

pub hub_low : {ws : List ℕ} {end : ℕ} {names places : List ℕ} {c : Cycle} → Ground ws end names places c → c.hub < c.names.n
hub_low b = let e = b.count in let l = b.hub in omega arith

module _ {ws : List ℕ} {end : ℕ} {places : List ℕ} {c : Cycle} (s : RulesStand ws end places c) where
  module _ {at : ℕ} (e : at ≡ get_or places c.hub 0) where
    pub hub_room : at + 4 ≤ end
    hub_room = member_room s s.hub e

    none_done : (n : ℕ) → n - 0 ≡ n
    none_done n = omega arith

    pub looking_all : {names : List ℕ} {left m : ℕ} {bs : List ℕ} → m ≡ get_or ws (at + 3) 0 → work_bytes ≤ length bs
        → Looking ws end names places c left bs m 0 (at + 4) bs
    looking_all {m = m} g l =
        let f = member_found s s.hub e in
        let w = rule_words_lem inner_depth f.spans in
        record {
          found = record { trees = f.tree.body; next = f.next; spans = w.alternatives; count = sym w.count ∙ sym g ∙ sym (none_done m) };
          within = hub_room;
          long = l;
          same = refl;
          so = λ b limits a.
              behind_all f.tree.body (ap (λ r. as_they_are r.body) (sym (target_tree b (hub_low b) e a f.spans)));
        }

-- The limits, by the rule that stands there.
beyond_hub : {ws : List ℕ} {end : ℕ} {names places : List ℕ} {c : Cycle} {limits : R.Limits} (b : Ground ws end names places c)
    → HubBeyond ws end places c limits → (a : Among (rules_of ws end b.rules b.standing) c.hub)
    → (limits.alternatives < length (as_they_are a.rule.body)) ⊎ (limits.options < options_all (as_they_are a.rule.body))
beyond_hub b h a =
    let s = target_spans b (hub_low b) refl a in
    ⊎_elim (λ l. inl (let e = h.counted.alternatives a.rule s.0 s.1 in omega arith))
    (λ l. inr (let e = h.counted.options a.rule s.0 s.1 in omega arith)) h.beyond

module _ {ws : List ℕ} {end : ℕ} {names places : List ℕ} {c : Cycle} {left n i p : ℕ} {start before : List ℕ}
    (g : Looking ws end names places c left start n i p before) where
  left_none : n ≤ i → n - i ≡ 0
  left_none l = omega arith

  pub looking_idle : n ≤ i → Unstored ws end names places c left before (Ok None)
  looking_idle e = record { is = λ limits h b a. behind_none g.found.trees (g.found.count ∙ left_none e) (g.so b limits a) }

  module _ (less : i < n) where
    some : n - i ≡ 0 → ⊥
    some e = omega arith

    pub looking_found : FoundAlternative ws end inner_depth p
    looking_found = first_found g.found some

    -- The first of those that are left, and the others.
    record Ahead : Type 0 where
      first : Alternative
      more : List Alternative
      are : g.found.trees ≡ first ∷ more
      next : ℕ
      spans : AlternativeSpans ws end inner_depth p first next
      others : Spans ws end (each (encode_alternative (encode_block inner_depth))) (all (ok_alternative (ok_block inner_depth))) next more g.found.next

    ahead : Ahead
    ahead = go g.found.trees refl g.found.spans
      where
        go : (ts : List Alternative) → g.found.trees ≡ ts
            → Spans ws end (each (encode_alternative (encode_block inner_depth))) (all (ok_alternative (ok_block inner_depth))) p ts g.found.next → Ahead
        go [] e s = absurd (some (sym g.found.count ∙ ap length e))
        go (a ∷ ts) e s = let f = first_spans s in record { first = a; more = ts; are = e; next = f.0; spans = f.1; others = f.2 }

    now_at : (b : Ground ws end names places c) (limits : R.Limits) (a : Among (rules_of ws end b.rules b.standing) c.hub)
        → Behind (task_of b limits) left (as_they_are a.rule.body) (ahead.first ∷ ahead.more)
    now_at b limits a = subst (Behind (task_of b limits) left (as_they_are a.rule.body)) ahead.are (g.so b limits a)

    module _ {after : List ℕ} {k : Result (Unit {0}) Unplanned} (w : LookedAt ws end names places c left p before after k) where
      pub looking_ends : {m : Unplanned} → k ≡ Err m → Unstored ws end names places c left after (Err m)
      looking_ends {m} e =
          record {
            is = λ limits h b a.
                behind_ends ahead.first ahead.more (now_at b limits a) m
                (rw e at (w.is b limits ahead.first ahead.next ahead.spans)) (beyond_hub b h a);
          }

      pub looking_more : {there : ℕ} {u : Unit {0}} → k ≡ Ok u → AlternativeWalked skipping ws end inner_depth p tt there tt
          → Looking ws end names places c left start n (i + 1) there after
      looking_more {there} e v =
          record {
            found = record {
              trees = ahead.more;
              next = g.found.next;
              spans = rw (v.passed ahead.first ahead.next ahead.spans) ahead.others;
              count = let x = g.found.count in let y = ap length ahead.are in omega arith;
            };
            within = v.within;
            long = let x = g.long in let y = w.long in omega arith;
            same = w.long ∙ g.same;
            so = λ b limits a.
                behind_settled ahead.first ahead.more (now_at b limits a)
                (rw e at (w.is b limits ahead.first ahead.next ahead.spans));
          }

pub looking_long : {ws : List ℕ} {end : ℕ} {names places : List ℕ} {c : Cycle} {left n i p : ℕ} {start bs : List ℕ}
    → Looking ws end names places c left start n i p bs → work_bytes ≤ length bs
looking_long g = g.long

pub ruleset hubs = (hub_room)

pub ruleset looking = (looking_all, looking_idle, looking_found, looking_ends, looking_more, looking_long)

-- For the caller: the hub's own list is beyond the limits, and so what was made is the definition's.
module _ {ws : List ℕ} {end : ℕ} {places : List ℕ} {c : Cycle} {at : ℕ} {z : Size} {x : Bool} where
  hub_beyond : (limits : Limits) → RuleCounted ws end at z → at ≡ get_or places c.hub 0 → x ≡ within_limits limits z → x ≡ false
      → most_words ≤ limits.elements → HubBeyond ws end places c (limits_of limits)
  hub_beyond limits k e f g l = record { size = z; counted = rw e at k; beyond = which (leb z.a limits.alternatives) refl (sym f ∙ g) }
    where
      which : (y : Bool) → leb z.a limits.alternatives ≡ y → (y && (leb z.e limits.elements && leb z.o limits.options)) ≡ false
          → (limits.alternatives < z.a) ⊎ (limits.options < z.o)
      which false y h = inl (leb-false z.a limits.alternatives y)
      which true y h =
          inr
          (leb-false z.o limits.options
          (rw (le-leb z.e limits.elements (let m = k.few in omega arith)) at h))

  pub unstored_made : {names : List ℕ} {limits : Limits} {left : ℕ} {bs : List ℕ} {r : Result (Option Done) Unplanned}
      → Unstored ws end names places c left bs r → RuleCounted ws end at z → at ≡ get_or places c.hub 0 → x ≡ within_limits limits z
      → x ≡ false → most_words ≤ limits.elements → MadeOf ws end names places c limits left bs r
  unstored_made {limits = limits} u k e f g l = record { is = u.is (limits_of limits) (hub_beyond limits k e f g l) }

pub ruleset unstored = (unstored_made)
