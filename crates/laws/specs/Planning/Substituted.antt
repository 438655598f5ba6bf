-- The planned list may stand for the hub's body: each step of a substitution is a splice or a split, whatever the body of
-- the hub is.
use Rattle.std.specs.Prelude.{ℕ, suc, ◌≡◌, true}
use Rattle.std.proofs.Common.{sym, ◌∙◌}
use Rattle.std.proofs.Math.Path.{ap, subst, subst₂}
use mathlib.Core.List.{List, [], ◌∷◌, ◌++◌, map, map-map, map-append, Memᴰ}
use Rattle.std.proofs.Math.Option.{some, some-injective}
use Rattle.grammar.specs.Tree.{ElementHead, Call, call, leaf, Block, RuleOf}
use Rattle.grammar.specs.Lists.{distinct}
use Rattle.grammar.specs.Numbers.{once, optional_greedy}
use Rattle.language.specs.Shape.{Shape, call_of, opt, alts, quantified, erase_leaf, erase_element, erase_elements, erase_block, Shapes}
use Rattle.language.specs.Shape.{find}
use Rattle.language.specs.Shape.{erase_rules}
use Rattle.language.specs.Laws.Cover.{Alike, alike_refl, alike_trans}
use Rattle.language.specs.Laws.Steps.{alike_slot, alike_behind}
use Rattle.language.specs.Laws.TreeSteps.{alike_splice_map, alike_split_map}
use Rattle.language.specs.Laws.Rules.{rule_found}
use Rattle.reference.specs.Analysis.{Grammar, names_of, ids_of, target}
use Rattle.reference.specs.Substitute.{plain_head}
use Rattle.graph.specs.Members.{one_with}
use Rattle.laws.specs.Lists.Lookup.{target_rule, rule_target}
use Rattle.laws.specs.Planning.Turns.{Items, Turn, split, splice, Moved, here, later, Moves, still, onward}

-- A grammar's rules as the walks see them: names are looked up among them, and no two share an id or a name.
pub record Known (d : ℕ) (rs : List (RuleOf (Block d))) (g : Grammar) : Type 0 where
  pub named : g.names ≡ names_of rs
  pub ids : distinct (ids_of rs) ≡ true
  pub names : distinct (map (λ r. r.name) rs) ≡ true

-- The shape of an alternative, and of a list of them.
abbrev pub shape_of : (d : ℕ) → Items d → Shape
shape_of d = erase_elements (erase_block d)

abbrev pub body_of : (d : ℕ) → List (Items d) → Shape
body_of d ps = alts (map (shape_of d) ps)

module _ {d : ℕ} {rs : List (RuleOf (Block d))} {g : Grammar} (k : Known d rs g) where
  -- A call's target is the rule whose body derivation finds.
  pub target_body : (n : ℕ) {t : ℕ} → target g n ≡ some t → {r : RuleOf (Block d)} → Memᴰ r rs → r.id ≡ t
      → find (erase_rules d rs) n ≡ some (erase_block d r.body)
  target_body n {t} e {r} m i =
      let q = target_rule rs g k.named n e in
      let same : q.0 ≡ r = one_with (λ r. r.id) rs k.ids q.1 m (q.3 ∙ sym i) in
      let name : r.name ≡ n = ap (λ r. r.name) (sym same) ∙ q.2 in
      subst (λ m. find (erase_rules d rs) m ≡ some (erase_block d r.body)) name (rule_found d (λ r. r.name) rs k.names m)

pub call_plain : {B : Type 0} (e : B → Shape) (h : ElementHead) (c : Call) → h.quantifier ≡ once
    → erase_element e (leaf h (call c)) ≡ call_of c.name
unfolding erase_element quantified erase_leaf
call_plain e h c q = rw q

pub call_optional : {B : Type 0} (e : B → Shape) (h : ElementHead) (c : Call) → h.quantifier ≡ optional_greedy
    → erase_element e (leaf h (call c)) ≡ opt (erase_element e (leaf (plain_head h) (call c)))
unfolding erase_element quantified erase_leaf
call_optional e h c q = rw q

module _ {d : ℕ} {rs : List (RuleOf (Block (suc d)))} {g : Grammar} (k : Known (suc d) rs g) (cycle : List ℕ)
    {hub : RuleOf (Block (suc d))} (m : Memᴰ hub rs) where
  abbrev G : Shapes
  G = erase_rules (suc d) rs

  turn_alike : {es : Items d} {news : List (Items d)} → Turn d rs g cycle hub.id es news
      → Alike hub.name G (shape_of d es) (body_of d news)
  unfolding erase_block
  turn_alike {es} (split x q) =
      subst (λ l. Alike hub.name G (shape_of d l)
      (body_of d ((x.front ++ (leaf (plain_head x.head) (call x.site) ∷ x.rest)) ∷ (x.front ++ x.rest) ∷ []))) x.whole
      (alike_split_map (erase_element (erase_block d)) x.front x.rest (call_optional (erase_block d) x.head x.site q))
  turn_alike {es} (splice x q ne r i j) =
      let b = target_body k x.site.name x.known i j in
      let other : x.site.name ≡ hub.name → ⊥ =
      λ e. ne (some-injective _ _ (sym x.known ∙ ap (target g) e ∙ rule_target rs g k.named k.names m)) in
      subst₂ (Alike hub.name G) (ap (shape_of d) x.whole)
      (ap alts (sym (map-map (shape_of d) (λ s. x.front ++ (s.elements ++ x.rest)) r.body)))
      (alike_splice_map (erase_element (erase_block d)) (λ s. s.elements) x.site.name r.body other b x.front x.rest
      (call_plain (erase_block d) x.head x.site q))

  moved_alike : {ps qs : List (Items d)} → Moved d rs g cycle hub.id ps qs → Alike hub.name G (body_of d ps) (body_of d qs)
  moved_alike (here {es = es} {news = news} {rest = rest} t) =
      subst (λ l. Alike hub.name G (body_of d (es ∷ rest)) (alts l)) (sym (map-append (shape_of d) news rest))
      (alike_slot (map (shape_of d) news) (turn_alike t) [] (map (shape_of d) rest))
  moved_alike (later {es = es} x) = alike_behind (shape_of d es) (moved_alike x)

  pub moves_alike : {ps qs : List (Items d)} {n : ℕ} → Moves d rs g cycle hub.id ps n qs
      → Alike hub.name G (body_of d ps) (body_of d qs)
  moves_alike {ps} still = alike_refl hub.name G (body_of d ps)
  moves_alike (onward x y) = alike_trans (moved_alike x) (moves_alike y)
