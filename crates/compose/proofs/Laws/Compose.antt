-- The whole sheet: rules, preserved ids and trailer stand together.
use Prim.Native.Nat.{ℕ, ◌+◌, ◌-◌, ◌≤◌}
use mathlib.Core.Path.{◌≡◌, sym, ap, ◌∙◌, subst}
use mathlib.Core.List.{List, [], ◌∷◌, ◌++◌, append-nil, append_assoc}
use native.Mathlib.Omega.{arith}
use lib.ListN.{length, get_or, length-append, length-take, length-drop}
use Rattle.grammar.specs.Form.{newest}
use Rattle.grammar.specs.Numbers.{work_bytes, rule_limit}
use Rattle.grammar.specs.Words.{words}
use Rattle.grammar.specs.Encode.{encode, encode_rules, encode_counters, encode_in}
use Rattle.grammar.specs.Lists.{each}
use Rattle.grammar.specs.Parse.{got}
use Rattle.grammar.specs.Laws.Words.{length_words}
use Rattle.grammar.specs.Laws.Complete.{rules_complete}
use Rattle.words.specs.Room.{Room}
use Rattle.reference.specs.Run.{encode_entry}
use Rattle.records.specs.Rules.{RowsOf, IsEmpty, row, places_from_in}
use Rattle.records.specs.declared.rules.Rules.{Rules}
use Rattle.analysis.specs.Facts.{Standing, Among}
use Rattle.analysis.proofs.Laws.Standing.{rule_of}
use Rattle.plan.specs.declared.plan.Plan.{Plan}
use Rattle.copies.specs.Pen.{Drawn}
use Rattle.copies.specs.declared.pen.Pen.{Pen}
use Rattle.copies.specs.Laws.Drawn.{drawn_words, drawn_then}
use Rattle.heads.specs.Front.{compose_at}
use Rattle.drafts.specs.Draft.{compose_end, Open, Follows, Drafted}
use Rattle.drafts.specs.declared.draft.Draft.{Draft}
use Rattle.compose.specs.Compose.{preserved_at, sheet_after, Applies, rules_before, after, ComposedAs}
use Rattle.compose.specs.Hub.{Moved, end_words, new_rules, NewRulesFit, NewRulesAdded}
use Rattle.compose.specs.Laws.After.{after_entries, after_counters, after_node}

pub room_front : {bs : List ℕ} {end to : ℕ} → Room bs to → end ≤ to → Room bs end
room_front r l = record { trailer = let t = r.trailer in omega arith; low = let t = r.low in omega arith }

-- Only one list of rules stands there.
same_rules : {ws : List ℕ} {end : ℕ} {rules : Rules} (s t : Standing ws end rules) → s.rows.found.trees ≡ t.rows.found.trees
same_rules {ws} {end} s t =
    let a = rules_complete newest ws end rule_limit 0 s.rows.found.trees
    (let n = s.rows.few in let c = s.rows.found.count in omega arith) (rw s.rows.ends at s.rows.found.spans) in
    let b = rules_complete newest ws end rule_limit 0 t.rows.found.trees
    (let n = t.rows.few in let c = t.rows.found.count in omega arith) (rw t.rows.ends at t.rows.found.spans) in
    let e : got s.rows.found.trees end ≡ got t.rows.found.trees end = sym a ∙ b in
    cc

-- How long what stays behind the rules is.
preserved_length : (bs : List ℕ) (end to : ℕ) → Room bs to → end ≤ to → length (preserved_at (words bs) end to) ≡ to - end
preserved_length bs end to r h = simp (length-take, length-drop) (let t = r.trailer in omega (arith, length_words bs))

module _ {bs : List ℕ} {end to : ℕ} {rules : Rules} {p : Plan} {work trail : List ℕ} {pen : Pen}
    (x : Applies (words bs) end to rules p work trail pen) (room : Room bs to) (h : end ≤ to) where
  sheet_parts : encode (sheet_after (words bs) end to (after x))
      ≡ encode_rules (after x).node
      ++ (preserved_at (words bs) end to
      ++ (get_or (words bs) to 0 ∷ (length (encode_rules (after x).node) + (to - end)) ∷ (to - end) ∷ encode_counters (after x).counters))
  unfolding encode_in
  sheet_parts =
      let n = preserved_length bs end to room h in
      let m =
      length-append (encode_rules (after x).node) (preserved_at (words bs) end to) ∙ ap (λ k. length (encode_rules (after x).node) + k) n in
      rw (m, n) (append_assoc (encode_rules (after x).node) (preserved_at (words bs) end to) _)

  sheet_length : length (encode (sheet_after (words bs) end to (after x))) ≡ length (encode_rules (after x).node) + (to - end) + 8
  sheet_length =
      let n = preserved_length bs end to room h in
      let t =
      get_or (words bs) to 0 ∷ (length (encode_rules (after x).node) + (to - end)) ∷ (to - end) ∷ encode_counters (after x).counters in
      ap length sheet_parts
      ∙ length-append (encode_rules (after x).node) (preserved_at (words bs) end to ++ t)
      ∙ (let m = length-append (preserved_at (words bs) end to) t in omega arith)

  module _ (start : pen.to ≡ compose_at) {none : Rules} (empty : IsEmpty none) where
    abbrev d : Draft
    d = record { rules = none; pen = pen }

    -- What is asked of the rules.
    pub compose_open : Open d work
    compose_open = record { low = omega arith; long = x.same.laid.long }

    abbrev there : (s : Standing (words bs) end rules) → Among s.rows.found.trees p.hub → Among (rules_before x) p.hub
    there s y =
        record {
          front = y.front;
          rule = y.rule;
          rest = y.rest;
          parts = y.parts ∙ same_rules s x.standing;
          count = y.count;
        }

    -- The rules that the plan leaves, by those that stand there.
    made : (s : Standing (words bs) end rules) (y : Among s.rows.found.trees p.hub)
        → (after x).node ≡ new_rules (words bs) end rules p work d s.rows.found.trees y.rule
    made s y =
        after_node x (there s y) none
        ∙ ap (λ rs. new_rules (words bs) end rules p work d rs y.rule) (sym (same_rules s x.standing))

    pub compose_fits : NewRulesFit (words bs) end rules p work trail d
    compose_fits =
        record {
          words = λ s y.
              let n = ap (λ l. length (encode_rules l)) (made s y) in
              let l = sheet_length in
              let w = x.words in
              omega arith;
          fits = λ s y.
              let n = ap (λ l. length (encode_rules l)) (made s y) in
              let l = sheet_length in
              let w = x.words in
              let k = x.same.laid.long in
              record {
                words = omega arith;
                entries = rw (← (after_entries x (there s y) none)) x.entries;
                counters = rw (← (after_counters x (there s y) none)) x.counters;
              };
        }

    -- Behind the rules.
    module _ {work₁ trail₁ : List ℕ} {w : Draft} (g : NewRulesAdded (words bs) end rules p work trail d work₁ trail₁ w) where
      abbrev hub : Among (rules_before x) p.hub
      hub = rule_of x.standing.rows p.hub x.same.inside

      drafted : Drafted (after x).node (each encode_entry (after x).entries) (after x).counters work work₁ trail trail₁ d w
      drafted =
          rw (after_node x hub none, after_entries x hub none, after_counters x hub none) (g.is x.standing hub)

      pub behind_place : w.pen.to ≡ compose_at + length (encode_rules (after x).node)
      behind_place = drafted.drawn.to ∙ ap (λ n. n + length (encode_rules (after x).node)) start

      pub behind_low : compose_at ≤ w.pen.to
      behind_low = let e = behind_place in omega arith

      pub behind_long : work_bytes ≤ length work₁
      behind_long = let l = x.same.laid.long in let e = drafted.drawn.wrote.long in omega arith

      pub behind_room : w.pen.to + (to - end) + 8 ≤ compose_end
      behind_room = let e = behind_place in let l = sheet_length in let m = x.words in omega arith

      follows : Follows [] d
      unfolding row places_from_in
      follows =
          record {
            rows = record { ids = empty.ids; names = empty.names; places = empty.places; count = empty.count };
            to = omega arith;
          }

      sheet_is : encode (sheet_after (words bs) end to (after x)) ≡ encode_rules (after x).node ++ end_words (words bs) end to w.pen
      sheet_is =
          let e : w.pen.to - compose_at ≡ length (encode_rules (after x).node) = let z = behind_place in omega arith in
          sheet_parts ∙ rw (e, ← drafted.drawn.counters)

      module _ {work₂ : List ℕ} {last : Pen} (m : Moved (end_words (words bs) end to w.pen) work₁ work₂ w.pen last) where
        made_drawn : Drawn (encode (sheet_after (words bs) end to (after x))) (each encode_entry (after x).entries) (after x).counters
            work work₂ trail trail₁ pen last
        made_drawn =
            drawn_then sheet_is (sym (append-nil (each encode_entry (after x).entries))) drafted.drawn
            (subst (λ c. Drawn (end_words (words bs) end to w.pen) [] c work₁ work₂ trail₁ trail₁ w.pen last)
            drafted.drawn.counters
            (drawn_words trail₁ m.wrote m.to m.trail m.counters))

        made_rows : RowsOf (after x).node w.rules
        made_rows = (drafted.rows [] follows).rows

        made_ends : w.pen.to - compose_at ≡ length (encode_rules (after x).node)
        made_ends = let e = behind_place in omega arith

-- For every plan that applies.
pub composed : {bs : List ℕ} {end to : ℕ} {rules : Rules} {p : Plan} {work trail : List ℕ} {pen : Pen} → Room bs to → end ≤ to
    → pen.to ≡ compose_at → {none : Rules} → IsEmpty none → {work₁ trail₁ : List ℕ} {w : Draft}
    → NewRulesAdded (words bs) end rules p work trail (record { rules = none; pen = pen }) work₁ trail₁ w → {work₂ : List ℕ} {last : Pen}
    → Moved (end_words (words bs) end to w.pen) work₁ work₂ w.pen last
    → ComposedAs (words bs) end to rules p work work₂ trail trail₁ pen
    (record { pen = last; rules = w.rules; end = w.pen.to - compose_at })
composed room h start empty g m =
    record {
      drawn = λ x. made_drawn x room h start empty g m;
      rows = λ x. made_rows x room h start empty g m;
      ends = λ x. made_ends x room h start empty g m;
    }

pub ruleset composings = (room_front, compose_open, compose_fits, behind_low, behind_long, behind_room, composed)
