-- The hub with its new body, and what closes its plan in the trail.
use Rattle.std.specs.Prelude.{ℕ, ◌+◌, ◌-◌, ◌≤◌, ◌≡◌, List, [], ◌∷◌, ◌++◌, length, get_or, take, drop}
use Rattle.grammar.specs.Numbers.{rule_sort}
use Rattle.grammar.specs.Tree.{Rule, Block, AlternativeOf, inner_depth, with_rule_body}
use Rattle.grammar.specs.Encode.{encode_alternative, encode_block, encode_counters, encode_rules}
use Rattle.grammar.specs.Lists.{each}
use Rattle.reference.specs.Numbers.{rule_boundary}
use Rattle.reference.specs.Apply.{Fresh}
use Rattle.reference.specs.Run.{encode_entry}
use Rattle.planned.specs.declared.list.Sizes.{Sizes}
use Rattle.records.specs.declared.rules.Rules.{Rules}
use Rattle.analysis.specs.Facts.{Standing, Among}
use Rattle.plan.specs.declared.plan.Plan.{Plan}
use Rattle.writing.specs.Wrote.{Wrote}
use Rattle.writing.specs.Taken.{counters_of}
use Rattle.copies.specs.Pen.{Space, Drawn}
use Rattle.copies.specs.declared.pen.Pen.{Pen}
use Rattle.heads.specs.Front.{compose_at}
use Rattle.written.specs.Planned.{drawn_list}
use Rattle.drafts.specs.Draft.{compose_end, Drafted}
use Rattle.drafts.specs.Kept.{kept_of}
use Rattle.drafts.specs.declared.draft.Draft.{Draft}

-- Words were written where the pen was.
pub record Moved (xs before after : List ℕ) (p p' : Pen) : Type 0 where
  pub wrote : Wrote before after p.to xs
  pub to : p'.to ≡ p.to + length xs
  pub trail : p'.trail ≡ p.trail
  pub counters : counters_of p'.counters ≡ counters_of p.counters

-- The last entry of a plan: the hub itself (SPECIFICATION 12.5).
abbrev pub closing : ℕ → List ℕ
closing id = rule_sort ∷ id ∷ rule_boundary ∷ id ∷ []

pub record Closed (id : ℕ) (t t' : List ℕ) (p p' : Pen) : Type 0 where
  pub told : Wrote t t' p.trail (closing id)
  pub to : p'.to ≡ p.to
  pub trail : p'.trail ≡ p.trail + 4
  pub counters : counters_of p'.counters ≡ counters_of p.counters

module _ (ws : List ℕ) (end : ℕ) where
  -- A rule's fixed words, with a count of alternatives.
  abbrev pub rule_head : ℕ → ℕ → List ℕ
  rule_head at n = get_or ws at 0 ∷ get_or ws (at + 1) 0 ∷ get_or ws (at + 2) 0 ∷ n ∷ []

  module _ (bs : List ℕ) (l : Sizes) (p : Pen) where
    -- The new alternatives of the hub.
    abbrev pub new_body : Fresh (List (AlternativeOf (Block inner_depth)))
    new_body = drawn_list ws end inner_depth bs l (counters_of p.counters)

    abbrev pub body_words : List ℕ
    body_words = each (encode_alternative (encode_block inner_depth)) new_body.node

    abbrev pub body_entries : List ℕ
    body_entries = each encode_entry new_body.entries

    -- The hub at a place has room.
    pub record HubFits (at : ℕ) (t : List ℕ) : Type 0 where
      pub fits : Space (rule_head at l.out.a ++ body_words) (body_entries ++ closing (get_or ws at 0)) new_body.counters bs t p

    -- Its fixed words and its alternatives are drawn, with their entries; and all of it, with its own.
    pub record BodyDrawn (at : ℕ) (after t t' : List ℕ) (p' : Pen) : Type 0 where
      pub drawn : Drawn (rule_head at l.out.a ++ body_words) body_entries new_body.counters bs after t t' p p'

    pub record HubDrawn (at : ℕ) (after t t' : List ℕ) (p' : Pen) : Type 0 where
      pub drawn : Drawn (rule_head at l.out.a ++ body_words) (body_entries ++ closing (get_or ws at 0)) new_body.counters bs after t t' p p'

-- Preserved ids and the trailer behind the rules.
module _ (ws : List ℕ) (end to : ℕ) where
  abbrev pub trailer_words : Pen → List ℕ
  trailer_words p =
      get_or ws to 0 ∷ (p.to - compose_at + (to - end)) ∷ (to - end) ∷ encode_counters (counters_of p.counters)

  abbrev pub end_words : Pen → List ℕ
  end_words p = take (to - end) (drop end ws) ++ trailer_words p

module _ (ws : List ℕ) (end : ℕ) (rules : Rules) (p : Plan) (work : List ℕ) where
  -- The hub's new body, whatever draft is at work.
  abbrev pub hub_body : Draft → Fresh (List (AlternativeOf (Block inner_depth)))
  hub_body a = new_body ws end work p.l a.pen

  abbrev pub new_hub : Draft → Rule → Rule
  new_hub a = with_rule_body (hub_body a).node

  abbrev pub hub_entries : Draft → List ℕ
  hub_entries a = each encode_entry (hub_body a).entries ++ closing (get_or rules.ids p.hub 0)

  -- The rules that stay, with the hub's new body.
  abbrev pub new_rules : Draft → List Rule → Rule → List Rule
  new_rules a rs hub =
      let row = p.removable in
      kept_of row 0 p.hub rs ++ ((new_hub a hub ∷ []) ++ kept_of row (p.hub + 1) rules.n rs)

  module _ (trail : List ℕ) (a : Draft) where
    -- There is room for the hub.
    pub record NewHubFits : Type 0 where
      pub words : (s : Standing ws end rules) (x : Among s.rows.found.trees p.hub)
          → a.pen.to + length (encode_rules (new_hub a x.rule ∷ [])) ≤ compose_end
      pub fits : (s : Standing ws end rules) (x : Among s.rows.found.trees p.hub)
          → Space (encode_rules (new_hub a x.rule ∷ [])) (hub_entries a) (hub_body a).counters work trail a.pen

    pub record NewHubAdded (work' trail' : List ℕ) (b : Draft) : Type 0 where
      pub is : (s : Standing ws end rules) (x : Among s.rows.found.trees p.hub)
          → Drafted (new_hub a x.rule ∷ []) (hub_entries a) (hub_body a).counters work work' trail trail' a b
      pub few : b.rules.n ≤ a.rules.n + 1

    -- There is room for all.
    pub record NewRulesFit : Type 0 where
      pub words : (s : Standing ws end rules) (x : Among s.rows.found.trees p.hub)
          → a.pen.to + length (encode_rules (new_rules a s.rows.found.trees x.rule)) ≤ compose_end
      pub fits : (s : Standing ws end rules) (x : Among s.rows.found.trees p.hub)
          → Space (encode_rules (new_rules a s.rows.found.trees x.rule)) (hub_entries a) (hub_body a).counters work trail a.pen

    pub record NewRulesAdded (work' trail' : List ℕ) (b : Draft) : Type 0 where
      pub is : (s : Standing ws end rules) (x : Among s.rows.found.trees p.hub)
          → Drafted (new_rules a s.rows.found.trees x.rule) (hub_entries a) (hub_body a).counters work work' trail trail' a b
