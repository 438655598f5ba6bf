-- The run: every grammar on the way is valid, the result fits, and all entries are one trail.
use Rattle.std.specs.Prelude.{ℕ, ◌≤◌, ◌<◌, ◌+◌, ◌≡◌, ◌&&◌, length, leb, ltb}
use Rattle.std.proofs.Math.Path.{refl}
use Rattle.std.proofs.Common.{sym, subst, leb-true, le-leb, ltb-true}
use mathlib.Core.List.Memᴰ
use mathlib.Core.List.{List, Memᴰ, [], ◌∷◌, ◌++◌}
use Rattle.std.proofs.Math.Bool.{true}
use native.Mathlib.Omega.{arith}
use Rattle.std.proofs.Math.ListN.{length-append}
use Rattle.std.proofs.lemmas.Bool.{and_from}
use Rattle.std.specs.Cmp.{first_so, second_so}
use Rattle.grammar.specs.Form.{newest}
use Rattle.grammar.specs.Tree.{Rule, Counters, Sheet, body_depth}
use Rattle.grammar.specs.Encode.{encode, encode_rules, encode_in}
use Rattle.grammar.specs.Lists.{each, distinct, below, rising}
use Rattle.grammar.specs.Ids.{rule_ids, rule_names, body_ids, is_distinct, is_below}
use Rattle.grammar.specs.Valid.{is_kind, rule_limit, valid, fits, fits_in}
use Rattle.grammar.specs.Corners.{Corners}
use Rattle.grammar.specs.Laws.Whole.{Parts, parts_valid, valid_parts}
use Rattle.grammar.specs.Laws.Codec.{reads_back_lem}
use Rattle.reference.specs.Numbers.{most_entries}
use Rattle.grammar.specs.Numbers.{most_words}
use Rattle.grammar.specs.Numbers.{word_end}
use Rattle.reference.specs.Substitute.{Limits}
use Rattle.reference.specs.Plan.{CyclePlan}
use Rattle.reference.specs.Apply.{unchanged, apply_plan}
use Rattle.reference.specs.Run.{inner_depth, Stage, planned, find_plan, ended, sheet_with, refusal_of}
use Rattle.reference.specs.Run.{eliminate_mutual_left_recursion}
use Rattle.reference.specs.Run.{sheet_after, entries_of, encode_entry}
use Rattle.graph.specs.Entries.{entries_long}
use Rattle.laws.specs.Lists.Lookup.{all_in}
use Rattle.laws.specs.Demands.Answers.{ReadsBack, GoodAnswer}
use Rattle.laws.specs.Lists.Count.{distinct_count, count_distinct, below_count, count_below}
use Rattle.laws.specs.Demands.Applied.{Sort, of_alternative, of_element, of_label, of_action, of_predicate, number, counter_at}
use Rattle.laws.specs.Provenance.Trail.{Trail, t_end, trail_append, trail_words_lem}
use Rattle.laws.specs.Planning.Chain.{FromHub, from_hub}
use Rattle.laws.specs.Running.Refused.{not_refused}
use Rattle.laws.specs.Running.Stages.{counters_after, distinct_told, stage_made, Stages, s_end, s_plan, sheet_ends}
use Rattle.laws.specs.Validity.Fits.{counter_in, Carries, fits_carries, ids_under, carries_fits}
use Rattle.laws.specs.Validity.Sound.{Sound, applied_sound, applied_trace}

-- A sheet's validity, sort by sort.
module _ (rs : List Rule) (t : is_distinct rs ≡ true) where
  ids_distinct : (s : Sort) → distinct (body_ids (number s) rs) ≡ true
  unfolding is_distinct
  ids_distinct = go
    where
      t₂ : (distinct (body_ids 2 rs) &&
          (distinct (body_ids 3 rs) && (distinct (body_ids 4 rs) && (distinct (body_ids 5 rs) && distinct (body_ids 6 rs))))) ≡ true
      t₂ = second_so (distinct (rule_names rs)) _ (second_so (distinct (rule_ids rs)) _ t)

      t₃ : (distinct (body_ids 3 rs) && (distinct (body_ids 4 rs) && (distinct (body_ids 5 rs) && distinct (body_ids 6 rs)))) ≡ true
      t₃ = second_so (distinct (body_ids 2 rs)) _ t₂

      t₄ : (distinct (body_ids 4 rs) && (distinct (body_ids 5 rs) && distinct (body_ids 6 rs))) ≡ true
      t₄ = second_so (distinct (body_ids 3 rs)) _ t₃

      t₅ : (distinct (body_ids 5 rs) && distinct (body_ids 6 rs)) ≡ true
      t₅ = second_so (distinct (body_ids 4 rs)) _ t₄

      go : (s : Sort) → distinct (body_ids (number s) rs) ≡ true
      go of_alternative = first_so (distinct (body_ids 2 rs)) _ t₂
      go of_element = first_so (distinct (body_ids 3 rs)) _ t₃
      go of_label = first_so (distinct (body_ids 4 rs)) _ t₄
      go of_action = first_so (distinct (body_ids 5 rs)) _ t₅
      go of_predicate = second_so (distinct (body_ids 5 rs)) _ t₅

pub parts_sound : (s : Sheet) → Parts s → Carries s → Sound body_depth s.counters s.rules
parts_sound s v c =
    record {
      few = leb-true (length s.rules) rule_limit v.few;
      ids = (distinct_told s.rules v.distinct).ids;
      names = (distinct_told s.rules v.distinct).names;
      rules = v.rules;
      once = λ k. distinct_count (body_ids (number k) s.rules) (ids_distinct s.rules v.distinct k);
      under =
          λ k. below_count (counter_at k s.counters) (body_ids (number k) s.rules) (ids_under s.counters s.rules v.below k);
      rule_words = c.rule;
      body_words = c.inside;
    }

pub sound_parts : (s : Sheet) → is_kind s.kind ≡ true → rising s.preserved ≡ true → Sound body_depth s.counters s.rules → Parts s
unfolding is_distinct is_below
sound_parts s k p h =
    let d : (t : Sort) → distinct (body_ids (number t) s.rules) ≡ true =
    λ t. count_distinct (body_ids (number t) s.rules) (h.once t) in
    let b : (t : Sort) → below (counter_at t s.counters) (body_ids (number t) s.rules) ≡ true =
    λ t. count_below (counter_at t s.counters) (body_ids (number t) s.rules) (h.under t) in
    record {
      kind = k;
      few = le-leb (length s.rules) rule_limit h.few;
      rules = h.rules;
      preserved = p;
      distinct =
          and_from _ _ h.ids (and_from _ _ h.names
          (and_from _ _ (d of_alternative)
          (and_from _ _ (d of_element) (and_from _ _ (d of_label) (and_from _ _ (d of_action) (d of_predicate))))));
      below =
          and_from _ _ (b of_alternative)
          (and_from _ _ (b of_element) (and_from _ _ (b of_label) (and_from _ _ (b of_action) (b of_predicate))));
    }

-- A sheet that is valid and fits.
pub record Good (s : Sheet) : Type 0 where
  pub parts : Parts s
  pub fitting : fits s ≡ true

pub good_of : (s : Sheet) → valid s ≡ true → fits s ≡ true → Good s
good_of s v f = record { parts = valid_parts newest s v; fitting = f }

pub good_sound : {s : Sheet} → Good s → Sound body_depth s.counters s.rules
good_sound {s} g = parts_sound s g.parts (fits_carries s g.fitting)

pub good_reads : {s : Sheet} → Good s → ReadsBack s
good_reads {s} g =
    let v = parts_valid newest s g.parts in
    record { is_valid = v; is_fitting = g.fitting; found = reads_back_lem newest s v g.fitting }

-- The counters of a sheet that fits are words.
counters_fit : (s : Sheet) → fits s ≡ true → (k : Sort) → counter_at k s.counters < word_end
unfolding fits_in encode_in
counters_fit s t k =
    ltb-true (counter_at k s.counters) word_end
    (all_in (λ w. ltb w word_end) (second_so (leb (length (encode s)) most_words) _ t)
    (Memᴰ.append_right (encode_rules s.rules ++ s.preserved)
    (Memᴰ.tail (Memᴰ.tail (Memᴰ.tail (counter_in s.counters k))))))

module _ (limits : Limits) (corners : Corners) where
  -- A plan that was found starts from its hub's alternatives.
  plan_found : (preserved : List ℕ) (rs : List Rule) (c : Counters) {cycle : List ℕ} {plan : CyclePlan inner_depth}
      → find_plan limits corners preserved rs ≡ planned cycle plan → FromHub inner_depth rs plan
  plan_found preserved rs c {cycle} {plan} e =
      let t : Stage = record { before = rs; cycle = cycle; plan = plan; after = apply_plan inner_depth rs plan c } in
      from_hub inner_depth rs (stage_made limits corners preserved {t = t} (record { counters = c; found = e; left = refl }))

  -- Each stage leaves a sheet that is valid and fits.
  pub stage_good : (s : Sheet) {cycle : List ℕ} {plan : CyclePlan inner_depth} (n : ℕ)
      → find_plan limits corners s.preserved s.rules ≡ planned cycle plan
      → refusal_of s.kind s.preserved (apply_plan inner_depth s.rules plan s.counters) n ≡ 0 → Good s
      → Good (sheet_with s.kind s.preserved (apply_plan inner_depth s.rules plan s.counters))
  stage_good s {cycle} {plan} n f r g =
      let after = apply_plan inner_depth s.rules plan s.counters in
      let h : Sound body_depth after.counters after.node =
      applied_sound inner_depth s.counters s.rules (good_sound g) plan (plan_found s.preserved s.rules s.counters f) in
      let t = sheet_with s.kind s.preserved after in
      let p = sound_parts t g.parts.kind g.parts.preserved h in
      let m = not_refused s.kind s.preserved after n r in
      record {
        parts = p;
        fitting = carries_fits t p (record {
          rule = h.rule_words;
          inside = h.body_words;
          preserved = (fits_carries s g.fitting).preserved;
        }) m.is_words m.short;
      }

  -- And so does the run; its entries are one trail.
  module _ (kind : ℕ) (preserved : List ℕ) where
    abbrev pub sheet_by : List Rule → Counters → Sheet
    sheet_by rs c = sheet_with kind preserved (unchanged rs c)

    pub stages_good : {rs : List Rule} {c : Counters} {n : ℕ} {ss : List Stage} → Stages limits corners kind preserved rs c n ss
        → Good (sheet_by rs c) → Good (sheet_after (sheet_by rs c) ss)
    unfolding sheet_after
    stages_good s_end g = g
    stages_good (s_plan {rs = rs} {c = c} {n = n} f r x) g = stages_good x (stage_good (sheet_by rs c) n f r g)

    stages_each : {rs : List Rule} {c : Counters} {n : ℕ} {ss : List Stage} → Stages limits corners kind preserved rs c n ss
        → Good (sheet_by rs c)
        → {t : Stage} → Memᴰ t ss → Good (sheet_with kind preserved t.after)
    stages_each s_end g m = absurd (Memᴰ.not-nil m)
    stages_each (s_plan {rs = rs} {c = c} {n = n} f r x) g (Memᴰ.head e) =
        subst (λ t. Good (sheet_with kind preserved t.after)) (sym e) (stage_good (sheet_by rs c) n f r g)
    stages_each (s_plan {rs = rs} {c = c} {n = n} f r x) g (Memᴰ.tail m) = stages_each x (stage_good (sheet_by rs c) n f r g) m

    stages_trail : {rs : List Rule} {c : Counters} {n : ℕ} {ss : List Stage} → Stages limits corners kind preserved rs c n ss
        → Good (sheet_by rs c)
        → Trail c (entries_of ss) (sheet_after (sheet_by rs c) ss).counters
    unfolding sheet_after entries_of
    stages_trail s_end g = t_end
    stages_trail (s_plan {rs = rs} {c = c} {n = n} {plan = plan} f r x) g =
        trail_append (applied_trace inner_depth c rs (good_sound g) plan (plan_found preserved rs c f))
        (stages_trail x (stage_good (sheet_by rs c) n f r g))

    -- The entries of a stage are a trail from the counters that it starts from.
    stages_traced : (front : List Stage) (t : Stage) (rest : List Stage) {rs : List Rule} {c : Counters} {n : ℕ}
        → Stages limits corners kind preserved rs c n (front ++ (t ∷ rest)) → Good (sheet_by rs c)
        → Trail (counters_after c front) t.after.entries t.after.counters
    stages_traced [] t rest y g = here y g
      where
        here : {rs : List Rule} {c : Counters} {n : ℕ} {t : Stage} → Stages limits corners kind preserved rs c n (t ∷ rest)
            → Good (sheet_by rs c)
            → Trail c t.after.entries t.after.counters
        here (s_plan {rs = rs} {c = c} {plan = plan} f r x) g =
            applied_trace inner_depth c rs (good_sound g) plan (plan_found preserved rs c f)
    stages_traced (u ∷ front) t rest y g = let z = behind y g in stages_traced front t rest z.0 z.1
      where
        behind : {rs : List Rule} {c : Counters} {n : ℕ} {u : Stage}
            → Stages limits corners kind preserved rs c n (u ∷ (front ++ (t ∷ rest)))
            → Good (sheet_by rs c)
            → Stages limits corners kind preserved u.after.node u.after.counters (n + length u.after.entries) (front ++ (t ∷ rest))
            × Good (sheet_by u.after.node u.after.counters)
        behind (s_plan {rs = rs} {c = c} {n = n} f r x) g = (x, stage_good (sheet_by rs c) n f r g)

    pub stages_short : {rs : List Rule} {c : Counters} {n : ℕ} {ss : List Stage} → Stages limits corners kind preserved rs c n ss
        → n ≤ most_entries → n + length (entries_of ss) ≤ most_entries
    unfolding entries_of
    stages_short s_end l = omega arith
    stages_short (s_plan {rs = rs} {c = c} {n = n} {plan = plan} {ts = ts} f r x) l =
        let after = apply_plan inner_depth rs plan c in
        let h = (not_refused kind preserved after n r).few in
        let more = stages_short x h in
        let e = length-append after.entries (entries_of ts) in
        omega arith

    -- The sheet that a run leaves is short, if the one that it starts from is.
    pub stages_words : {rs : List Rule} {c : Counters} {n : ℕ} {ss : List Stage} → Stages limits corners kind preserved rs c n ss
        → length (encode (sheet_by rs c)) ≤ most_words → length (encode (sheet_after (sheet_by rs c) ss)) ≤ most_words
    unfolding sheet_after
    stages_words s_end l = l
    stages_words (s_plan {rs = rs} {c = c} {n = n} {plan = plan} f r x) l =
        stages_words x (not_refused kind preserved (apply_plan inner_depth rs plan c) n r).short

  pub run_good : (s : Sheet) {ss : List Stage} → eliminate_mutual_left_recursion limits corners s ≡ ended ss → Good s
      → Good (sheet_after s ss)
  run_good s {ss} e g = stages_good s.kind s.preserved (sheet_ends limits corners s ss e).0 g

  pub run_each : (s : Sheet) {ss : List Stage} → eliminate_mutual_left_recursion limits corners s ≡ ended ss → Good s → {t : Stage}
      → Memᴰ t ss → Good (sheet_with s.kind s.preserved t.after)
  run_each s {ss} e g m = stages_each s.kind s.preserved (sheet_ends limits corners s ss e).0 g m

  pub run_trail : (s : Sheet) {ss : List Stage} → eliminate_mutual_left_recursion limits corners s ≡ ended ss → Good s
      → Trail s.counters (entries_of ss) (sheet_after s ss).counters
  run_trail s {ss} e g = stages_trail s.kind s.preserved (sheet_ends limits corners s ss e).0 g

  pub stage_trace : (s : Sheet) (front : List Stage) (t : Stage) (rest : List Stage)
      → eliminate_mutual_left_recursion limits corners s ≡ ended (front ++ (t ∷ rest)) → Good s
      → Trail (counters_after s.counters front) t.after.entries t.after.counters
  stage_trace s front t rest e g =
      stages_traced s.kind s.preserved front t rest (sheet_ends limits corners s (front ++ (t ∷ rest)) e).0 g

  -- The trail of a run: at most 4,096 entries, and words alone.
  pub run_room : (s : Sheet) {ss : List Stage} → eliminate_mutual_left_recursion limits corners s ≡ ended ss → Good s
      → (length (entries_of ss) ≤ most_entries) × ((w : ℕ) → Memᴰ w (each encode_entry (entries_of ss)) → w < word_end)
  run_room s {ss} e g =
      let l = stages_short s.kind s.preserved (sheet_ends limits corners s ss e).0 (omega arith) in
      (omega arith, λ w m. trail_words_lem (run_trail s e g) (counters_fit (sheet_after s ss) (run_good s e g).fitting) m)

  -- The words of its answer.
  pub run_answer : (s : Sheet) → Good s → {ss : List Stage} → eliminate_mutual_left_recursion limits corners s ≡ ended ss
      → GoodAnswer (sheet_after s ss) (encode (sheet_after s ss)) (each encode_entry (entries_of ss))
  run_answer s g {ss} k =
      let r = run_room s k g in
      let l = entries_long (entries_of ss) in
      let n = r.0 in
      record { is_encoding = refl; reads_back = good_reads (run_good s k g); short = omega arith; are_words = r.1 }
