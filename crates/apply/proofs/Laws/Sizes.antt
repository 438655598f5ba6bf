-- The sizes that were measured are those of what applying the plan leaves.
use Prim.Native.Nat.{ℕ, ◌+◌, ◌-◌}
use Rattle.std.specs.Prelude.{Result}
use mathlib.Core.Path.{◌≡◌, sym, ap, ap₂, ◌∙◌, subst}
use mathlib.Core.List.{List, [], ◌∷◌, ◌++◌, map, append-nil}
use mathlib.Core.Bool.{false, not}
use native.Mathlib.Omega.{arith}
use lib.ListN.{length, length-append}
use Rattle.grammar.specs.Numbers.{most_words, trailer_words}
use Rattle.grammar.specs.Tree as tree
use Rattle.grammar.specs.Tree.{inner_depth, body_depth, with_rule_body}
use Rattle.grammar.specs.Words.{words}
use Rattle.grammar.specs.Lists.{each, member, keep}
use Rattle.grammar.specs.Encode.{encode, encode_rule, encode_rules, encode_block, encode_alternative, encode_block_in}
use Rattle.grammar.specs.Laws.Lists.{each_append}
use Rattle.reference.specs.Apply.{Fresh, fresh_each, apply_alternative, apply_plan, with_body}
use Rattle.reference.specs.Run.{sheet_with, is_short, refusal_of}
use Rattle.writing.specs.Taken.{counters_of}
use Rattle.writing.specs.declared.counters.Counters.{Counters}
use Rattle.records.specs.declared.rules.Rules.{Rules}
use Rattle.analysis.specs.Facts.{Among}
use Rattle.analysis.proofs.Laws.Standing.{among, id_at}
use Rattle.planned.specs.Layout.{settled}
use Rattle.sizes.specs.Sized.{Measured}
use Rattle.sizes.specs.Tally.{behind, ids_in}
use Rattle.sizes.specs.declared.sums.Measure.{Measure}
use Rattle.words.specs.declared.numbers.Refusal.{Refusal}
use Rattle.plan.specs.declared.plan.Plan.{Plan}
use Rattle.drafts.specs.Kept.{kept_of}
use Rattle.apply.specs.Laws.Held.{encode_long, held_standing}
use Rattle.apply.specs.Judged.{number_in, verdict_on, verdict, Judged}
use Rattle.apply.specs.Left.{LeftTake}
use Rattle.apply.specs.Applied.{Applicable, after_of, WordsAfter, EntriesAfter, RefusedBy}
use Rattle.compose.specs.Laws.After.{after_rules}

module _ {result work : List ℕ} {end to : ℕ} {rules : Rules} {p : Plan} {m : Measure}
    (w : Measured inner_depth (settled (words result) end inner_depth work p.l) m) (x : Applicable result work end to rules p)
    (c : Counters) where
  abbrev body : Fresh (List (tree.AlternativeOf (tree.Block inner_depth)))
  body = fresh_each (apply_alternative inner_depth) x.plan.alternatives (counters_of c)

  -- The list in the work area is the plan's.
  abbrev listed : Fresh (List (tree.AlternativeOf (tree.Block inner_depth)))
  listed = fresh_each (apply_alternative inner_depth) (settled (words result) end inner_depth work p.l) (counters_of c)

  same_list : body ≡ listed
  same_list = ap (λ ps. fresh_each (apply_alternative inner_depth) ps (counters_of c)) x.same.alternatives

  pub after_counters : (after_of x c).counters ≡ behind (counters_of c) m.tally
  unfolding apply_plan
  after_counters = ap (λ f. f.counters) same_list ∙ w.is.counters (counters_of c)

  pub after_entries : length (after_of x c).entries ≡ ids_in m.tally + 1
  unfolding apply_plan
  after_entries =
      length-append body.entries _
      ∙ ap (λ n. n + 1) (ap (λ f. length f.entries) same_list ∙ w.is.entries (counters_of c))

  body_words_lem : length (each (encode_alternative (encode_block inner_depth)) body.node) ≡ m.words
  body_words_lem = ap (λ f. length (each (encode_alternative (encode_block inner_depth)) f.node)) same_list ∙ w.is.words (counters_of c)

  -- What was judged is the definition's refusal.
  pub refusal_is : {n room recorded : ℕ} {r : Result (Unit {0}) Refusal}
      → n ≡ length (encode (sheet_with x.sheet.kind x.sheet.preserved (after_of x c))) → room ≡ most_words
      → Judged (counters_of c) m n room recorded r
      → number_in r ≡ refusal_of x.sheet.kind x.sheet.preserved (after_of x c) recorded
  unfolding refusal_of is_short verdict verdict_on
  refusal_is {n} {room} {recorded} {r} e f j =
      let es = recorded + (ids_in m.tally + 1) in
      j.is
      ∙ ap₂ (λ a b. verdict_on (behind (counters_of c) m.tally) a b es) e f
      ∙ ap₂ (λ a b. verdict_on a (length (encode (sheet_with x.sheet.kind x.sheet.preserved (after_of x c)))) most_words (recorded + b))
      (sym after_counters) (sym after_entries)

  abbrev hub_at : Among x.sheet.rules p.hub
  hub_at = among x.sheet.rules p.hub (let n = x.rows.count in let l = x.same.inside in omega arith)

  -- The rules that are left, and their words.
  rules_left : (after_of x c).node
      ≡ kept_of p.removable 0 p.hub x.sheet.rules
      ++ (with_rule_body body.node hub_at.rule ∷ kept_of p.removable (p.hub + 1) rules.n x.sheet.rules)
  unfolding apply_plan held_standing
  rules_left =
      let s = held_standing x.held x.is_valid x.rows in
      let i : x.plan.hub ≡ hub_at.rule.id = x.same.hub ∙ id_at s.rows hub_at in
      let stay = subst (λ k. member k x.plan.removable ≡ false) i x.hub_stays in
      ap (λ k. keep (λ q. not (member q.id x.plan.removable)) (map (with_body inner_depth k body.node) x.sheet.rules)) i
      ∙ after_rules s x.same.removable hub_at body.node stay

  hub_words : length (encode_rules (with_rule_body body.node hub_at.rule ∷ [])) ≡ 4 + m.words
  unfolding encode_rule encode_block_in
  hub_words =
      let n = ap length (append-nil (encode_rule (encode_block body_depth) (with_rule_body body.node hub_at.rule))) in
      let b = body_words_lem in
      omega arith

pub words_after_lem : {result work : List ℕ} {end to : ℕ} {rules : Rules} {p : Plan} {m : Measure} {front rest n : ℕ}
    → Measured inner_depth (settled (words result) end inner_depth work p.l) m
    → LeftTake (words result) end rules p.removable 0 p.hub front
    → LeftTake (words result) end rules p.removable (p.hub + 1) rules.n rest
    → n ≡ front + (4 + m.words) + rest + (to - end) + trailer_words
    → WordsAfter result work end to rules p n
unfolding held_standing
words_after_lem {result} {work} {end} {to} {rules} {p} {m} {front} {rest} {n} w a b e =
    record {
      is = λ x c.
          let s = held_standing x.held x.is_valid x.rows in
          let f = a.is s in
          let g = b.is s in
          let u = x.held.up_to in
          let q = encode_long (sheet_with x.sheet.kind x.sheet.preserved (after_of x c)) in
          let front-rules = kept_of p.removable 0 p.hub x.sheet.rules in
          let rest-rules = kept_of p.removable (p.hub + 1) rules.n x.sheet.rules in
          let hub = with_rule_body (body w x c).node (hub_at w x c).rule in
          let enc = encode_rule (encode_block body_depth) in
          let l = ap (λ rs. length (encode_rules rs)) (rules_left w x c) in
          let i = ap length (each_append enc front-rules (hub ∷ rest-rules)) in
          let j = length-append (encode_rules front-rules) (encode_rules (hub ∷ rest-rules)) in
          let k = ap length (each_append enc (hub ∷ []) rest-rules) in
          let o = length-append (encode_rules (hub ∷ [])) (encode_rules rest-rules) in
          let h = hub_words w x c in
          omega arith;
    }

pub refused_by : {result work : List ℕ} {end to : ℕ} {rules : Rules} {p : Plan} {m : Measure} {c : Counters} {n room recorded : ℕ}
    {r : Result (Unit {0}) Refusal} → Measured inner_depth (settled (words result) end inner_depth work p.l) m → WordsAfter result work end to rules p n
    → room ≡ most_words → Judged (counters_of c) m n room recorded r → RefusedBy result work end to rules p c recorded (number_in r)
refused_by {c = c} w a e j = record { is = λ x. refusal_is w x c (a.is x c) e j }

pub entries_after : {result work : List ℕ} {end to : ℕ} {rules : Rules} {p : Plan} {m : Measure} {recorded i n : ℕ}
    → Measured inner_depth (settled (words result) end inner_depth work p.l) m → i ≡ ids_in m.tally → n ≡ recorded + i + 1
    → EntriesAfter result work end to rules p recorded n
entries_after w e f = record { is = λ x c. let l = after_entries w x c in omega arith }
