-- The hub among the rules that stay.
use Prim.Native.Nat.{ℕ, ◌+◌, ◌-◌, ◌<◌, ◌≤◌}
use mathlib.Core.Path.{◌≡◌, refl, sym, ap, ◌∙◌, subst}
use mathlib.Core.List.{List, [], ◌∷◌, ◌++◌, append-nil}
use native.Mathlib.Omega.{arith}
use lib.ListN.{length, get_or, length-append}
use Rattle.grammar.specs.Tree.{Rule, Block, inner_depth, body_depth, with_rule_body}
use Rattle.grammar.specs.Encode.{encode_alternative, encode_rule, encode_rules, encode_block, encode_block_in}
use Rattle.grammar.specs.Lists.{each}
use Rattle.grammar.specs.Laws.Lists.{each_append}
use Rattle.grammar.specs.Laws.Opened.{rule_words_lem}
use Rattle.reference.specs.Apply.{fresh_each, apply_alternative}
use Rattle.reference.specs.Run.{encode_entry}
use Rattle.planned.specs.Layout.{settled}
use Rattle.planned.specs.List.{Laid, AllIn}
use Rattle.planned.specs.Laws.Runs.{run_count}
use Rattle.planned.specs.declared.list.Sizes.{Sizes}
use Rattle.records.specs.declared.rules.Rules.{Rules}
use Rattle.analysis.specs.Facts.{Standing, Among}
use Rattle.analysis.proofs.Laws.Standing.{place_room, rule_of, rule_spans, id_at, name_at}
use Rattle.plan.specs.declared.plan.Plan.{Plan}
use Rattle.writing.specs.Taken.{counters_of}
use Rattle.copies.specs.declared.pen.Pen.{Pen}
use Rattle.copies.specs.Laws.Drawn.{each_count}
use Rattle.heads.specs.Laws.Front.{front_wrote, front_laid, front_settled, front_all_in}
use Rattle.drafts.specs.Draft.{compose_end, Open, Added, Drafted, RowAdded}
use Rattle.drafts.specs.Kept.{kept_of, RulesFit, RulesAdded}
use Rattle.drafts.specs.Laws.Draft.{row_added, added_drafted, drafted_then}
use Rattle.drafts.specs.declared.draft.Draft.{Draft}
use Rattle.compose.specs.Hub.{rule_head, closing, new_body, body_words, HubFits, HubDrawn, hub_body, new_hub, hub_entries}
use Rattle.compose.specs.Hub.{NewHubFits, NewHubAdded, new_rules, NewRulesFit, NewRulesAdded}

-- As many alternatives as are settled.
body_count : (ws : List ℕ) (end : ℕ) (bs : List ℕ) (l : Sizes) (p : Pen) → length (new_body ws end bs l p).node ≡ l.out.a
unfolding settled
body_count ws end bs l p =
    each_count (apply_alternative inner_depth) (settled ws end inner_depth bs l) (counters_of p.counters)
    ∙ run_count bs ws end inner_depth l.out.a 0 0 0

-- The words of a rule with another body.
hub_words : (r : Rule) (b : Block body_depth)
    → encode_rule (encode_block body_depth) (record { id = r.id; name = r.name; flags = r.flags; body = b })
    ≡ (r.id ∷ r.name ∷ r.flags ∷ length b ∷ []) ++ each (encode_alternative (encode_block inner_depth)) b
unfolding encode_rule encode_block_in
hub_words r b = refl

module _ (ws : List ℕ) (end : ℕ) (rules : Rules) (p : Plan) (work trail : List ℕ) (a : Draft) (at : ℕ)
    (e : at ≡ get_or rules.places p.hub 0) where
  module _ (s : Standing ws end rules) (x : Among s.rows.found.trees p.hub) where
    spanned : (get_or ws at 0 ≡ x.rule.id) × (get_or ws (at + 1) 0 ≡ x.rule.name) × (get_or ws (at + 2) 0 ≡ x.rule.flags)
    spanned =
        let w = rule_words_lem inner_depth (rw (← e) at (rule_spans s.rows x).1) in
        (w.id, w.named, w.flags_are)

    hub_encoded : encode_rules (new_hub ws end rules p work a x.rule ∷ [])
        ≡ rule_head ws end at p.l.out.a ++ body_words ws end work p.l a.pen
    hub_encoded =
        let w = spanned in
        append-nil _
        ∙ hub_words x.rule (hub_body ws end rules p work a).node
        ∙ rw (w.0, w.1, w.2, body_count ws end work p.l a.pen)

    hub_id_lem : get_or rules.ids p.hub 0 ≡ get_or ws at 0
    hub_id_lem = id_at s.rows x ∙ sym spanned.0

  pub hub_fits : p.hub < rules.n → Standing ws end rules → NewHubFits ws end rules p work trail a
      → HubFits ws end work p.l a.pen at trail
  hub_fits l s f =
      let x = rule_of s.rows p.hub l in
      record { fits = rw (hub_encoded s x, hub_id_lem s x) at (f.fits s x) }

  module _ {work' trail' : List ℕ} {q : Pen} (d : HubDrawn ws end work p.l a.pen at work' trail trail' q) where
    -- How many words it has.
    moved : (s : Standing ws end rules) (x : Among s.rows.found.trees p.hub)
        → q.to ≡ a.pen.to + length (encode_rules (new_hub ws end rules p work a x.rule ∷ []))
    moved s x = rw (hub_encoded s x) d.drawn.to

    pub hub_added : Standing ws end rules → p.hub < rules.n → a.rules.n ≤ p.hub → {id name : ℕ} → id ≡ get_or rules.ids p.hub 0
        → name ≡ get_or rules.names p.hub 0 → {b : Draft} → RowAdded id name (q.to - a.pen.to) a b
        → NewHubAdded ws end rules p work trail a work' trail' (record { rules = b.rules; pen = q })
    hub_added s₀ l n₀ {id} {name} i n {b} r =
        record {
          is = λ s x.
              let m = moved s x in
              let enc = encode_rule (encode_block body_depth) (new_hub ws end rules p work a x.rule) in
              let k = ap length (append-nil enc) in
              let z : q.to - a.pen.to ≡ length enc = omega arith in
              record {
                drawn = rw (hub_encoded s x, hub_id_lem s x) d.drawn;
                rows = λ fs g.
                    let f =
                    row_added (new_hub ws end rules p work a x.rule) r (i ∙ id_at s.rows x) (n ∙ name_at s.rows x) z
                    (let k = s₀.rows.few in omega arith) fs g in
                    record { rows = f.rows; to = let t = f.to in let u = r.to in omega arith };
              };
          few = let c = r.rows.count in omega arith;
        }

-- In the buffers as they come back from what draws.
pub hub_left_in : {ws : List ℕ} {end : ℕ} {rules : Rules} {p : Plan} {work trail work' trail' left left_trail : List ℕ} {a b : Draft}
    → left ≡ work' → left_trail ≡ trail' → NewHubAdded ws end rules p work trail a work' trail' b
    → NewHubAdded ws end rules p work trail a left left_trail b
hub_left_in e f h = rw (e, f) h

pub hub_room : {ws : List ℕ} {end : ℕ} {rules : Rules} {p : Plan} {work trail work' trail' : List ℕ} {a : Draft} {at : ℕ} {q : Pen}
    → NewHubFits ws end rules p work trail a → Standing ws end rules → p.hub < rules.n
    → HubDrawn ws end work p.l a.pen at work' trail trail' q → at ≡ get_or rules.places p.hub 0
    → a.pen.to + (q.to - a.pen.to) ≤ compose_end
hub_room {ws} {end} {rules} {p} {work} {trail} {a = a} {at = at} f s l d e =
    let x = rule_of s.rows p.hub l in
    let m = moved ws end rules p work trail a at e d s x in
    let w = f.words s x in
    omega arith

-- The work area is open behind what was added.
pub front_open : {ws : List ℕ} {end : ℕ} {rules : Rules} {row : List ℕ} {from until : ℕ} {work work' : List ℕ} {a b : Draft}
    → RulesAdded ws end rules row from until work work' a b → Open a work → Standing ws end rules → Open b work'
front_open f o s =
    let g = f.is s in
    record {
      low = let l = o.low in let t = g.to in omega arith;
      long = let l = o.long in let t = g.wrote.long in omega arith;
    }

pub last_open : {ws : List ℕ} {end : ℕ} {rules : Rules} {p : Plan} {work trail work' trail' : List ℕ} {a b : Draft}
    → NewHubAdded ws end rules p work trail a work' trail' b → Open a work → Standing ws end rules → p.hub < rules.n → Open b work'
last_open {p = p} h o s l =
    let g = (h.is s (rule_of s.rows p.hub l)).drawn in
    record {
      low = let l = o.low in let t = g.to in omega arith;
      long = let l = o.long in let t = g.wrote.long in omega arith;
    }

-- All: the rules in front of the hub, the hub, and those behind it.
module _ {ws : List ℕ} {end : ℕ} {rules : Rules} {p : Plan} {work trail : List ℕ} {d : Draft}
    (fit : NewRulesFit ws end rules p work trail d) (inside : p.hub < rules.n) (ready : Open d work) (laid : Laid work p.l) where
  abbrev row : List ℕ
  row = p.removable

  abbrev enc : Rule → List ℕ
  enc = encode_rule (encode_block body_depth)

  module _ (s : Standing ws end rules) where
    abbrev rs : List Rule
    rs = s.rows.found.trees

    abbrev hub : Among rs p.hub
    hub = rule_of s.rows p.hub inside

    abbrev ks : List Rule
    ks = kept_of row 0 p.hub rs

    abbrev ls : List Rule
    ls = kept_of row (p.hub + 1) rules.n rs

    parts : (x : Among rs p.hub) → encode_rules (new_rules ws end rules p work d rs x.rule)
        ≡ encode_rules ks ++ (encode_rules (new_hub ws end rules p work d x.rule ∷ []) ++ encode_rules ls)
    parts x =
        each_append enc ks ((new_hub ws end rules p work d x.rule ∷ []) ++ ls)
        ∙ ap (λ l. encode_rules ks ++ l) (each_append enc (new_hub ws end rules p work d x.rule ∷ []) ls)

    sum : (x : Among rs p.hub) → length (encode_rules (new_rules ws end rules p work d rs x.rule))
        ≡ length (encode_rules ks) + (length (encode_rules (new_hub ws end rules p work d x.rule ∷ [])) + length (encode_rules ls))
    sum x =
        ap length (parts x)
        ∙ length-append (encode_rules ks) (encode_rules (new_hub ws end rules p work d x.rule ∷ []) ++ encode_rules ls)
        ∙ ap (λ n. length (encode_rules ks) + n)
        (length-append (encode_rules (new_hub ws end rules p work d x.rule ∷ [])) (encode_rules ls))

  pub front_fits : RulesFit ws end rules row 0 p.hub d
  front_fits =
      record { fits = λ s. let n = sum s (hub s) in let w = fit.words s (hub s) in omega arith }

  module _ {work₁ : List ℕ} {b : Draft} (f : RulesAdded ws end rules row 0 p.hub work work₁ d b) where
    module _ (s : Standing ws end rules) where
      added : Added (ks s) work work₁ d b
      added = f.is s

      -- The list is as it was.
      pub behind_laid : Laid work₁ p.l
      behind_laid = front_laid (front_wrote ready.low added.wrote) laid

      pub behind_in : AllIn ws end inner_depth work p.l → AllIn ws end inner_depth work₁ p.l
      behind_in = front_all_in (front_wrote ready.low added.wrote) laid

      same_body : hub_body ws end rules p work₁ b ≡ hub_body ws end rules p work d
      same_body =
          ap (λ ps. fresh_each (apply_alternative inner_depth) ps (counters_of b.pen.counters))
          (front_settled (front_wrote ready.low added.wrote) laid ws end inner_depth)
          ∙ ap (fresh_each (apply_alternative inner_depth) (settled ws end inner_depth work p.l)) added.counters

    -- What is left has room.
    pub hub_left : Standing ws end rules → NewHubFits ws end rules p work₁ trail b
    hub_left s₀ =
        record {
          words = λ s x.
              let n = sum s x in
              let w = fit.words s x in
              let t = (added s).to in
              rw (same_body s) (omega arith);
          fits = λ s x.
              let n = sum s x in
              let w = fit.fits s x in
              let t = (added s).to in
              let u = (added s).trail in
              let v = (added s).wrote.long in
              rw (same_body s)
              (record { words = let z = w.words in omega arith; entries = let z = w.entries in omega arith; counters = w.counters });
        }

    module _ {work₂ trail₂ : List ℕ} {c : Draft} (h : NewHubAdded ws end rules p work₁ trail b work₂ trail₂ c) where
      module _ (s : Standing ws end rules) (x : Among (rs s) p.hub) where
        drafted : Drafted (new_hub ws end rules p work d x.rule ∷ []) (hub_entries ws end rules p work d)
            (hub_body ws end rules p work d).counters work₁ work₂ trail trail₂ b c
        drafted =
            subst
            (λ g. Drafted (with_rule_body g.node x.rule ∷ []) (each encode_entry g.entries ++ closing (get_or rules.ids p.hub 0))
            g.counters work₁ work₂ trail trail₂ b c)
            (same_body s) (h.is s x)

      pub last_fits : RulesFit ws end rules row (p.hub + 1) rules.n c
      last_fits =
          record {
            fits = λ s.
                let n = sum s (hub s) in
                let w = fit.words s (hub s) in
                let t = (added s).to in
                let u = (drafted s (hub s)).drawn.to in
                omega arith;
          }

      pub all_added : {work₃ : List ℕ} {e : Draft} → RulesAdded ws end rules row (p.hub + 1) rules.n work₂ work₃ c e
          → NewRulesAdded ws end rules p work trail d work₃ trail₂ e
      all_added {work₃} {e} l =
          record {
            is = λ s x.
                let k = drafted s x in
                drafted_then refl (added_drafted trail (added s))
                (drafted_then (sym (append-nil (hub_entries ws end rules p work d))) k
                (subst (λ m. Drafted (ls s) [] m work₂ work₃ trail₂ trail₂ c e) k.drawn.counters (added_drafted trail₂ (l.is s))));
          }

pub ruleset hubs = (place_room, hub_fits, hub_room, hub_added)

pub ruleset fronts = (front_fits, front_open, behind_laid, behind_in, hub_left)
