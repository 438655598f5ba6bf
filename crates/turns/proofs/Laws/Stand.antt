-- What stands at the places of a cycle's rules: it does on what a substitution rests on; and what steps take from it.
use Prim.Native.Nat.{ℕ, ◌+◌, ◌<◌, ◌≤◌}
use mathlib.Core.Path.{◌≡◌, refl, sym, ap, ◌∙◌, subst}
use mathlib.Core.List.{List, [], ◌∷◌, Memᴰ}
use mathlib.Core.Bool.{true}
use native.Mathlib.Omega.{arith}
use lib.ListN.{length, get_or}
use Rattle.grammar.specs.Form.{newest}
use Rattle.grammar.specs.Numbers.{rule_limit}
use Rattle.grammar.specs.Tree.{Rule, inner_depth, body_depth}
use Rattle.grammar.specs.Lists.{AllOf}
use Rattle.grammar.specs.Parse.{Got, got, bad}
use Rattle.grammar.specs.Read.{block_at, rule_at}
use Rattle.grammar.specs.Found.{FoundRule}
use Rattle.grammar.specs.Laws.Parse.{never, yields_got}
use Rattle.grammar.specs.Laws.Sound.{rule_sound, block_sound}
use Rattle.grammar.specs.Laws.Complete.{rule_complete, block_complete}
use Rattle.reference.specs.Plan.{satellite_is_inlinable}
use Rattle.records.specs.Rules.{places_from}
use Rattle.records.specs.declared.rules.Rules.{Rules}
use Rattle.records.specs.Laws.Places.{places_length}
use Rattle.records.proofs.Laws.Rules.{row_long}
use Rattle.reach.specs.Rows.{bit}
use Rattle.analysis.specs.Facts.{Standing}
use Rattle.analysis.proofs.Laws.Standing.{name_at, place_found, place_room}
use Rattle.collisions.proofs.Laws.Inlinable.{inlinable_none}
use Rattle.steps.specs.Decide.{Unreferring}
use Rattle.steps.specs.Step.{RuleNamed, RuleUnreferring}
use Rattle.steps.specs.declared.cycle.Cycle.{Cycle}
use Rattle.turns.specs.Ground.{Ground}
use Rattle.turns.specs.Stand.{RuleStands, RulesStand}
use Rattle.turns.proofs.Laws.Replaced.{target_among, target_tree}

-- A parser finds what stands at a place, and what it finds stands there.
module _ (ws : List ℕ) (end at : ℕ) where
  abbrev answer : Got Rule
  answer = rule_at ws end (block_at ws end body_depth) at

  parsed : FoundRule ws end at → answer ≡ bad → ⊥
  parsed f e =
      let g : got f.tree f.next ≡ bad = sym
      (rule_complete newest ws end _ _ _ (block_complete newest ws end body_depth) at f.tree f.next f.spans) ∙ e in
      never cc

  found : at ≤ end → (answer ≡ bad → ⊥) → FoundRule ws end at
  found l f = go answer refl
    where
      go : (g : Got Rule) → answer ≡ g → FoundRule ws end at
      go (got t q) e =
          record { tree = t; next = q; spans = yields_got (rule_sound newest ws end _ _ _ (block_sound newest ws end body_depth) at l) e }
      go bad e = absurd (f e)

-- The array of places is as long as there may be rules.
pub places_long : {ws : List ℕ} {end : ℕ} {rules : Rules} → Standing ws end rules → length rules.places ≡ rule_limit
places_long s =
    ap length s.rows.rows.places
    ∙ row_long (places_from 0 s.rows.found.trees)
    (let m = places_length newest 0 s.rows.found.trees in let c = s.rows.found.count in let f = s.rows.few in omega arith)

-- What a substitution rests on has it.
module _ {ws : List ℕ} {end : ℕ} {places : List ℕ} {c : Cycle} (b : Ground ws end c.names.list.now places c) where
  module _ {i : ℕ} (l : i < c.names.n) where
    place : get_or places i 0 ≡ get_or b.rules.places i 0
    place = ap (λ ps. get_or ps i 0) (sym b.placed)

    stands : RuleStands ws end (get_or places i 0) (get_or c.names.list.now i 0)
    stands =
        record {
          room = place_room b.standing.rows l b.count place;
          found = parsed ws end (get_or places i 0) (place_found b.standing.rows l b.count place);
          named = record {
            is = λ t q s.
                let a = target_among b l refl in
                ap (λ ns. get_or ns i 0) (sym b.named) ∙ name_at b.standing.rows a ∙ ap (λ r. r.name) (target_tree b l refl a s);
          };
        }

  pub rules_stand : RulesStand ws end places c
  rules_stand =
      record {
        hub = let n = b.count in let h = b.hub in omega arith;
        long =
            let w = places_long b.standing in
            let p = ap length b.placed in
            let f = b.standing.rows.few in
            let n = b.count in
            omega arith;
        stands = λ i. stands;
        inlinable = λ i l m h t q s.
            let a = target_among b l refl in
            subst (λ r. satellite_is_inlinable inner_depth r ≡ true) (target_tree b l refl a s) (b.inlinable i a m h);
      }

all_of : {A : Type 0} (P : A → Type 0) (xs : List A) → ((a : A) → Memᴰ a xs → P a) → AllOf P xs
all_of P [] f = tt
all_of P (x ∷ xs) f = (f x (Memᴰ.head refl), all_of P xs λ a m. f a (Memᴰ.tail m))

-- The rule at a member's place.
module _ {ws : List ℕ} {end : ℕ} {places : List ℕ} {c : Cycle} (s : RulesStand ws end places c) {i : ℕ} (l : i < c.names.n) where
  pub member_name : i < length c.names.list.now
  member_name = let f = c.names.told.few in omega arith

  pub member_place : i < length places
  member_place = let f = s.long in omega arith

  module _ {at : ℕ} (e : at ≡ get_or places i 0) where
    pub member_room : at + 4 ≤ end
    member_room = let r = (s.stands i l).room in omega arith

    pub member_found : FoundRule ws end at
    member_found = rw e (let r = (s.stands i l).room in found ws end (get_or places i 0) (omega arith) (s.stands i l).found)

    pub member_named : {name : ℕ} → name ≡ get_or c.names.list.now i 0 → RuleNamed ws end inner_depth at name
    member_named f = rw (e, f) (s.stands i l).named

    pub member_unreferring : bit c.members i ≡ true → (i ≡ c.hub → ⊥) → RuleUnreferring ws end inner_depth at
    member_unreferring m h =
        rw e
        (record { is = λ t q g. all_of (Unreferring inner_depth) t.body (inlinable_none inner_depth t (s.inlinable i l m h t q g)) })
