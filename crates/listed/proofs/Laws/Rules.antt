-- The rules of a sheet listed one after the other.
use Rattle.std.specs.Prelude.{Option, Some, is_some, true}
use Prim.Native.Nat.{ℕ, zero, suc, ◌+◌, ◌-◌, ◌*◌, ◌<◌, ◌≤◌}
use mathlib.Core.Path.{◌≡◌, refl, sym, ap, ◌∙◌}
use mathlib.Core.List.{List, [], ◌∷◌, ◌++◌}
use mathlib.Core.Bool.{Bool}
use native.Mathlib.Omega.{arith}
use native.Mathlib.Nat.{add-zero}
use lib.ListN.{length, get_or, length-append}
use lib.Seq.{length-sets}
use Rattle.grammar.specs.Form.{newest}
use Rattle.grammar.specs.Numbers.{block_kind, rule_limit}
use Rattle.grammar.specs.Lists.{each}
use Rattle.grammar.specs.Tree.{leaf, block, Rule, body_depth}
use Rattle.grammar.specs.Encode.{leaf_kind, encode_rule, encode_block}
use Rattle.grammar.specs.Valid.{ok_rule, ok_block}
use Rattle.grammar.specs.Fold.{folded, element_fold, alternative_fold, block_fold, rule_fold, WalkedOne, WalkedMany, AlternativesWalked}
use Rattle.grammar.specs.Laws.Opened.{rule_words_lem}
use Rattle.grammar.specs.Laws.Complete.{rules_complete}
use Rattle.grammar.specs.Found.{Found}
use Rattle.grammar.specs.Laws.Found.{rule_room}
use Rattle.grammar.specs.Laws.Fold.{Folding, folding_found, folding_more, folding_done, rule_walked}
use Rattle.records.specs.Rules.{RulesRead, is_got}
use Rattle.records.specs.declared.rules.Rules.{Rules}
use Rattle.listed.specs.Listed.{leaf_name, element_line, alternative_line, rule_line, element_lines, alternative_lines}
use Rattle.listed.specs.Listed.{block_lines, rule_lines}
use Rattle.listed.specs.Put.{Put, PutFew}
use Rattle.listed.specs.Walk.{Pen, pen, put, listing, rule_step, RuleListed, RulesListed}
use Rattle.listed.specs.Ready.{Ruled, Counted, RulesPut}
use Rattle.listed.proofs.Laws.Put.{sets_append}
use Rattle.listed.proofs.Laws.Walk.{put_is}

-- No text, and one text behind another.
put_nothing : (p : Pen) → put p [] ≡ p
unfolding put
put_nothing p = rw (add-zero p.place) refl

put_more : (p : Pen) (xs ys : List ℕ) → put (put p xs) ys ≡ put p (xs ++ ys)
unfolding put
put_more p xs ys =
    let l : p.place + length xs + length ys ≡ p.place + length (xs ++ ys) = let e = length-append xs ys in omega arith in
    rw (l, sets_append xs ys p.buffer p.place) refl

-- Where one step puts a text, a walk over several puts their texts.
pub puts : {A : Type 0} (step : Pen → A → Pen) (text : A → List ℕ) (level : ℕ)
    → ((p : Pen) (a : A) → p.level ≡ level → step p a ≡ put p (text a))
    → (as' : List A) (p : Pen) → p.level ≡ level → folded step p as' ≡ put p (each text as')
unfolding put
puts step text level h [] p e = sym (put_nothing p)
puts step text level h (a ∷ as') p e =
    ap (λ q. folded step q as') (h p a e) ∙ puts step text level h as' (put p (text a)) e ∙ put_more p (text a) (each text as')

-- The walk puts the lines of what it passes, and is at the same level behind it.
abbrev Puts : {A : Type 0} → (Pen → A → Pen) → (ℕ → A → List ℕ) → Type 0
Puts {A} step text = (p : Pen) (a : A) (level : ℕ) → p.level ≡ level → step p a ≡ put p (text level a)

module _ {B : Type 0} (f : Pen → B → Pen) (lines : ℕ → B → List ℕ) (inner : Puts f lines) where
  element_puts : Puts (element_fold listing f) (element_lines lines)
  unfolding element_fold element_lines put
  element_puts p (leaf h l) level e = ap (λ k. put p (element_line k h (leaf_kind l) (leaf_name l))) e
  element_puts p (block h b) level e =
      let own = element_line p.level h block_kind 0 in
      let q = put p own in
      let z = inner (pen q.buffer q.place (suc p.level)) b (suc p.level) refl in
      ap (λ o. pen o.buffer o.place p.level) z
      ∙ put_more p own (lines (suc p.level) b)
      ∙ ap (λ k. put p (element_line k h block_kind 0 ++ lines (suc k) b)) e

  alternative_puts : Puts (alternative_fold listing f) (alternative_lines lines)
  unfolding alternative_fold alternative_lines put
  alternative_puts p a level e =
      let own = alternative_line p.level a.id in
      puts (element_fold listing f) (element_lines lines level) level (λ q x z. element_puts q x level z) a.elements (put p own) e
      ∙ put_more p own (each (element_lines lines level) a.elements)
      ∙ ap (λ k. put p (alternative_line k a.id ++ each (element_lines lines level) a.elements)) e

block_puts : (d : ℕ) → Puts (block_fold listing d) (block_lines d)
unfolding block_fold block_lines
block_puts zero p b level e = absurd b
block_puts (suc d) p b level e =
    puts (alternative_fold listing (block_fold listing d)) (alternative_lines (block_lines d) level) level
    (λ q a z. alternative_puts (block_fold listing d) (block_lines d) (block_puts d) q a level z)
    b p e

rule_puts : (p : Pen) (r : Rule) → p.level ≡ 0 → rule_step p r ≡ put p (rule_lines r)
unfolding rule_step rule_fold rule_lines put
rule_puts p r e =
    let own = rule_line r.id r.name in
    block_puts body_depth (put p own) r.body 0 e ∙ put_more p own (block_lines body_depth 0 r.body)

rules_put : (rs : List Rule) (b : List ℕ) (n : ℕ) → folded rule_step (pen b n 0) rs ≡ put (pen b n 0) (each rule_lines rs)
rules_put rs b n = puts rule_step rule_lines 0 rule_puts rs (pen b n 0) refl

-- A pen that has put a text says what stands in the buffer.
pub pen_put : {b a : List ℕ} {n r level : ℕ} {text : List ℕ} → pen a r level ≡ put (pen b n level) text → Put b a n r text
unfolding put
pen_put {b} {n = n} {text = text} e =
    let x = ap (λ p. p.buffer) e in
    record { is = x; long = ap length x ∙ length-sets b n text; moved = ap (λ p. p.place) e }

-- One rule by its words.
pub list_rule : {ws : List ℕ} {end at : ℕ} {id name m : ℕ} {b i a : List ℕ} {n j r q : ℕ} → id ≡ get_or ws at 0 → name ≡ get_or ws (at + 1) 0
    → m ≡ get_or ws (at + 3) 0
    → PutFew b i n j (rule_line id name) 24
    → AlternativesWalked listing ws end 8 m (at + 4) (pen i j 0) q (pen a r 0)
    → RuleListed ws end at (pen b n 0) q (pen a r 0)
unfolding rule_step
list_rule {ws} {end} {at} {id} {name} {b = b} {n = n} {q = q} e f g x w =
    let o = rule_walked newest listing g w in
    record {
      passed = o.passed;
      value = λ t z u.
          let v = rule_words_lem 8 u in
          let l : rule_line id name ≡ rule_line t.id t.name = rw (e, f, v.id, v.named) refl in
          let y = put_is 0 x.put ∙ ap (put (pen b n 0)) l in
          o.value t z u ∙ ap (λ s. rule_fold listing body_depth s t) y;
      within = o.within;
    }

-- A loop of which i of n steps are done.
module _ {ws : List ℕ} {end : ℕ} {A S : Type 0} {enc : A → List ℕ} {ok : A → Bool} {step : S → A → S} {n at : ℕ} {s₀ : S} {i p : ℕ}
    {s : S} (g : Folding ws end enc ok step n at s₀ (n - i) p s) where
  pub steps_found : i < n → Found ws end enc ok p
  steps_found h = folding_found g (λ e. omega arith)

  pub steps_more : i < n → {q : ℕ} {t : S} → WalkedOne ws end enc ok step p s q t → Folding ws end enc ok step n at s₀ (n - (i + 1)) q t
  steps_more h o = let e : n - (i + 1) ≡ n - i - 1 = omega arith in rw e (folding_more g (λ z. omega arith) o)

  pub steps_done : n ≤ i → WalkedMany ws end enc ok step n at s₀ p s
  steps_done h = folding_done g (omega arith)

pub ruleset steps = (steps_found, steps_more, steps_done)

-- A loop over rules.
abbrev pub RulesListing : (ws : List ℕ) (end n at : ℕ) (p₀ : Pen) (i here : ℕ) (p : Pen) → Type 0
RulesListing ws end = Folding ws end (encode_rule (encode_block body_depth)) (ok_rule (ok_block body_depth)) rule_step

pub listing_room : {ws : List ℕ} {end n at : ℕ} {p₀ : Pen} {i here : ℕ} {p : Pen} → RulesListing ws end n at p₀ (n - i) here p → i < n
    → here + 4 ≤ end
listing_room g h = rule_room newest 8 (steps_found g h)

-- The reader finds rules anew, and as many.
pub rules_there : {ws : List ℕ} {end : ℕ} {r : Option Rules} → Ruled ws end → RulesRead ws end r → is_some r ≡ true
rules_there {ws} {end} w f = f.good ∙ ap is_got (rules_complete newest ws end rule_limit 0 w.rules w.few w.spans)

pub rules_counted : {ws : List ℕ} {end : ℕ} {r : Option Rules} {x : Rules} → Ruled ws end → RulesRead ws end r → r ≡ Some x
    → Counted ws end x.n
rules_counted {ws} {end} {r} {x} w f e = record {
  found = record { trees = w.rules; next = end; spans = w.spans; count = count w };
  is = count;
}
  where
    count : (w : Ruled ws end) → length w.rules ≡ x.n
    count w =
        sym (f.rows x w.rules end e (rules_complete newest ws end rule_limit 0 w.rules w.few w.spans)).count

-- The rules were listed.
pub rules_listed : {ws : List ℕ} {end k p : ℕ} {b a : List ℕ} {n r : ℕ} → Counted ws end k → r ≤ 10 * p + 64
    → RulesListed ws end k 0 (pen b n 0) p (pen a r 0)
    → RulesPut ws end b a n r
rules_listed {b = b} {n = n} c h w =
    record {
      put = λ o. pen_put (w.value o.rules _ o.spans (c.is o) ∙ rules_put o.rules b n);
      few = let l = w.within in omega arith;
    }

pub ruleset ruled = (list_rule, rules_there, rules_counted, rules_listed)
