-- The trees of the hub's body pair off with those of the planned list, and so do all trees before and after a plan.
use Rattle.std.specs.Prelude.{ℕ, suc, ◌≡◌, refl, false, not}
use Rattle.std.proofs.Common.{sym, ◌∙◌}
use Rattle.std.proofs.Math.Path.{ap, subst, subst₂}
use mathlib.Core.List.Memᴰ
use mathlib.Core.List.{List, [], ◌∷◌, ◌++◌, map, map-map, map-append, Memᴰ}
use Rattle.std.proofs.Math.Option.{Option, none, some, some-injective}
use Rattle.std.proofs.lemmas.Bool.{not-true}
use Rattle.grammar.specs.Lists.{member}
use Rattle.grammar.specs.Tree.{call, leaf, Block, RuleOf, Counters}
use Rattle.grammar.specs.Corners.{Corners}
use Rattle.language.specs.Shape.{Shape, alts, erase_element, erase_block, Shapes, find, erase_rules}
use Rattle.language.specs.Readings.{Stays}
use Rattle.language.specs.Laws.Cover.{ButFor, replaced_others, replaced_found}
use Rattle.language.specs.Laws.Trees.Carry.{Pairs, pairs_refl, pairs_trans}
use Rattle.language.specs.Laws.Trees.Joined.{JoinedTrees}
use Rattle.language.specs.Laws.Trees.Steps.{slot_pairs}
use Rattle.language.specs.Laws.Trees.Turns.{Turns, slot, LocalPairs, TurnPairs, TurnsPairs, behind_turn}
use Rattle.language.specs.Laws.Trees.Items.{splice_items, split_items}
use Rattle.reference.specs.Analysis.{Grammar, target}
use Rattle.reference.specs.Substitute.{plain_head}
use Rattle.reference.specs.Plan.{CyclePlan, as_they_are}
use Rattle.graph.specs.Members.{in_keep}
use Rattle.laws.specs.Lists.Lookup.{rule_target, target_rule}
use Rattle.laws.specs.Planning.Turns.{Items, items_of, Turn, split, splice, Moved, here, later, Moves, still, onward}
use Rattle.laws.specs.Planning.Substituted.{Known, shape_of, body_of, target_body, call_plain, call_optional}
use Rattle.laws.specs.Planning.Plans.{Made}
use Rattle.laws.specs.Planning.Renumber.{applied_shape}
use Rattle.laws.specs.Planning.Calls.{each_call_map}
use Rattle.laws.specs.Planning.OnePlan.{is_gone, new_body, gone_ids, gone, replaced_rules, rules_left, G, K, L, hub_found}
use Rattle.laws.specs.Planning.OnePlan.{replaced_erased, left_alike, gone_name, left_in}

module _ {d : ℕ} {rs : List (RuleOf (Block (suc d)))} {g : Grammar} (k : Known (suc d) rs g) (cycle : List ℕ)
    {hub : RuleOf (Block (suc d))} (m : Memᴰ hub rs) where
  abbrev before : Shapes
  before = erase_rules (suc d) rs

  -- What takes the place of one alternative pairs off with it.
  turn_pairs : {es : Items d} {news : List (Items d)} → Turn d rs g cycle hub.id es news
      → LocalPairs hub.name before (shape_of d es) (map (shape_of d) news)
  unfolding erase_block
  turn_pairs {es} (split x q) =
      subst (λ l. LocalPairs hub.name before (shape_of d l)
      (map (shape_of d) ((x.front ++ (leaf (plain_head x.head) (call x.site) ∷ x.rest)) ∷ (x.front ++ x.rest) ∷ []))) x.whole
      (split_items (erase_element (erase_block d)) x.front x.rest (call_optional (erase_block d) x.head x.site q))
  turn_pairs {es} (splice x q ne r i j) =
      let b = target_body k x.site.name x.known i j in
      let other : x.site.name ≡ hub.name → ⊥ =
      λ e. ne (some-injective _ _ (sym x.known ∙ ap (target g) e ∙ rule_target rs g k.named k.names m)) in
      subst₂ (LocalPairs hub.name before) (ap (shape_of d) x.whole)
      (sym (map-map (shape_of d) (λ s. x.front ++ (s.elements ++ x.rest)) r.body))
      (splice_items (erase_element (erase_block d)) (λ s. s.elements) x.site.name r.body other b x.front x.rest
      (call_plain (erase_block d) x.head x.site q))

  moved_pairs : {ps qs : List (Items d)} → Moved d rs g cycle hub.id ps qs → TurnPairs hub.name before (body_of d ps) (body_of d qs)
  moved_pairs (here {es = es} {news = news} {rest = rest} t) =
      let l = turn_pairs t in
      subst (λ l. TurnPairs hub.name before (body_of d (es ∷ rest)) (alts l)) (sym (map-append (shape_of d) news rest))
      (slot_pairs (map (shape_of d) news) l.0 [] (map (shape_of d) rest), slot l.1 [] (map (shape_of d) rest))
  moved_pairs (later {es = es} x) = behind_turn (shape_of d es) (moved_pairs x)

  -- The trees of the hub's body pair off with those of the planned list, by a turn for each step.
  pub moves_pairs : {ps qs : List (Items d)} {n : ℕ} → Moves d rs g cycle hub.id ps n qs
      → TurnsPairs hub.name before n (body_of d ps) (body_of d qs)
  moves_pairs {ps} still = (pairs_refl (body_of d ps), Turns.still)
  moves_pairs (onward x y) =
      let a = moved_pairs x in
      let b = moves_pairs y in
      (pairs_trans a.0 b.0, Turns.onward a.1 b.1)

module _ {c : Corners} {d : ℕ} {rs : List (RuleOf (Block (suc d)))} {g : Grammar} (k : Known (suc d) rs g) {preserved cycle : List ℕ}
    {plan : CyclePlan d}
    (x : Made c d rs g preserved cycle plan) (counters : Counters) where
  -- The hub's body before and after, as planned lists, and the grammars between which it is replaced.
  abbrev pub old_shape : Shape
  old_shape = body_of d (items_of d (as_they_are x.hub.body))

  abbrev pub new_shape : Shape
  new_shape = body_of d (items_of d plan.alternatives)

  -- The two grammars differ in the hub's body alone, and this is the new one.
  pub replaced_but : ButFor x.hub.name (G k x counters) (K k x counters)
  replaced_but =
      subst (ButFor x.hub.name (G k x counters)) (sym (replaced_erased k x counters))
      (replaced_others x.hub.name (erase_block (suc d) (new_body k x counters)) (G k x counters))

  pub hub_replaced : find (K k x counters) x.hub.name ≡ some new_shape
  hub_replaced =
      subst (λ new. find new x.hub.name ≡ some new_shape) (sym (replaced_erased k x counters))
      (replaced_found x.hub.name (erase_block (suc d) (new_body k x counters)) (G k x counters) (hub_found k x counters)
      ∙ ap some (applied_shape d plan.alternatives counters))

  -- The trees of the hub's body and of the planned list.
  pub hub_trees : Pairs x.hub.name (G k x counters) old_shape new_shape
  hub_trees = (moves_pairs k cycle x.is_rule x.moves).0

  -- They pair off by a turn for each step.
  pub hub_turns : Turns x.hub.name (G k x counters) plan.steps old_shape new_shape hub_trees
  unfolding hub_trees
  hub_turns = (moves_pairs k cycle x.is_rule x.moves).1

  -- A name is not gone where no rule that is removed has it.
  pub gone_stays : (n : ℕ) → gone k x counters n ≡ false → Stays rs (rules_left k x counters) n
  gone_stays n f r m e =
      let out : member r.id (gone_ids k x counters) ≡ false = sym (gone_name k x counters m) ∙ ap (gone k x counters) e ∙ f in
      Memᴰ.of_map (λ r. r.id) (rules_left k x counters) (left_in k x counters m out)

  stays_gone : (n : ℕ) → Stays rs (rules_left k x counters) n → gone k x counters n ≡ false
  stays_gone n s = go (target g n) refl
    where
      left : {q : RuleOf (Block (suc d))} (i : ℕ) → Memᴰ q (rules_left k x counters) → q.id ≡ i
          → member i (gone_ids k x counters) ≡ false
      left {q} i m e =
          let p = (in_keep (λ r. not (member r.id (gone_ids k x counters))) (replaced_rules k x counters) m).1 in
          ap (λ i. member i (gone_ids k x counters)) (sym e) ∙ not-true (member q.id (gone_ids k x counters)) p

      go : (o : Option ℕ) → target g n ≡ o → gone k x counters n ≡ false
      go none e = ap (is_gone (gone_ids k x counters)) e
      go (some t) e =
          let (r, m, name, id) = target_rule rs g k.named n e in
          let (q, there, same) = s r m name in
          ap (is_gone (gone_ids k x counters)) e ∙ ap (λ i. member i (gone_ids k x counters)) (sym id) ∙ left r.id there same

  -- The plan's pairing.
  pub plan_trees : JoinedTrees x.hub.name plan.steps (G k x counters) (L k x counters) (Stays rs (rules_left k x counters))
  plan_trees =
      let l = left_alike k x counters in
      record {
        replaced = K k x counters;
        only_hub = replaced_but;
        old = old_shape;
        old_body = hub_found k x counters;
        new = new_shape;
        new_body = hub_replaced;
        bodies = hub_trees;
        turns = hub_turns;
        left = record {
          found = λ n s. l.found n (stays_gone n s);
          calls = λ n b s e. each_call_map gone_stays b (l.calls n b (stays_gone n s) e);
        };
      }
