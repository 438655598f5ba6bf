-- A tree that stands at a place, taken apart: the words of its head, and where its parts stand.
use Rattle.std.specs.Prelude.{ℕ, suc, ◌+◌, ◌-◌, ◌*◌, ◌≤◌, ◌≡◌, refl, List, [], ◌∷◌, Bool, true, false, length, get_or, leb}
use Rattle.std.proofs.Common.{sym, ◌∙◌, arith, length-append}
use Rattle.std.specs.Cmp.{first_so, second_so}
use Rattle.grammar.specs.Numbers.{most_rule_flags, most_alternative_flag, block_kind, kind_end}
use Rattle.grammar.specs.Stands.{Spans, Stands}
use Rattle.grammar.specs.Tree.{OptionDecl, Reference, ElementHead, Leaf, Call, call, Element, leaf, block, AlternativeOf, Block, RuleOf}
use Rattle.grammar.specs.Encode.{encode_option, encode_reference, label_id, label_name, encode_head, encode_leaf_in, leaf_kind}
use Rattle.grammar.specs.Encode.{encode_element_in}
use Rattle.grammar.specs.Encode.{encode_alternative_in, encode_block_in, encode_rule}
use Rattle.grammar.specs.Lists.{each, all, only}
use Rattle.grammar.specs.Form.{Form, newest, call_words}
use Rattle.grammar.specs.Read.{is_name}
use Rattle.grammar.specs.Valid.{has_place, ok_head, ok_leaf_in, ok_element_in, ok_alternative_in, ok_block_in, ok_option, ok_rule}
use Rattle.grammar.specs.Found.{Found, FoundMany, ElementSpansIn, AlternativeSpansIn, RuleSpansIn}
use Rattle.grammar.specs.Laws.Stands.{stands_length, stands_split, stands_head, run_stands}

-- Two words each.
pairs : {A : Type 0} (enc : A → List ℕ) → ((a : A) → length (enc a) ≡ 2) → (as' : List A) → length (each enc as') ≡ 2 * length as'
pairs enc h [] = refl
pairs enc h (a ∷ as') = length-append (enc a) (each enc as') ∙ (let i = pairs enc h as' in let j = h a in omega arith)

pub options_length : (os : List OptionDecl) → length (each encode_option os) ≡ 2 * length os
options_length = pairs encode_option λ o. refl

pub references_length : (rs : List Reference) → length (each encode_reference rs) ≡ 2 * length rs
references_length = pairs encode_reference λ o. refl

-- The first of several trees, and the others.
module _ {ws : List ℕ} {end : ℕ} {A : Type 0} {enc : A → List ℕ} {ok : A → Bool} where
  pub first_spans : {a : A} {as' : List A} {at q : ℕ} → Spans ws end (each enc) (all ok) at (a ∷ as') q
      → (p : ℕ) × Spans ws end enc ok at a p × Spans ws end (each enc) (all ok) p as' q
  unfolding all
  first_spans {a} {as'} s =
      let t = stands_split (enc a) (each enc as') s.stands in (
        t.0,
        record { stands = t.1; fine = first_so (ok a) (all ok as') s.fine },
        record { stands = t.2; fine = second_so (ok a) (all ok as') s.fine },
      )

  module _ {n at : ℕ} (f : FoundMany ws end enc ok n at) (h : n ≡ 0 → ⊥) where
    pub first_found : Found ws end enc ok at
    first_found = go f.trees f.spans f.count
      where
        go : (as' : List A) → Spans ws end (each enc) (all ok) at as' f.next → length as' ≡ n → Found ws end enc ok at
        go [] s e = absurd (h (sym e))
        go (a ∷ as') s e = let t = first_spans s in record { tree = a; next = t.0; spans = t.1 }

    pub rest_found : {q : ℕ} → ((a : A) (p : ℕ) → Spans ws end enc ok at a p → q ≡ p) → FoundMany ws end enc ok (n - 1) q
    rest_found {q} g = go f.trees f.spans f.count
      where
        go : (as' : List A) → Spans ws end (each enc) (all ok) at as' f.next → length as' ≡ n → FoundMany ws end enc ok (n - 1) q
        go [] s e = absurd (h (sym e))
        go (a ∷ as') s e =
            let t = first_spans s in
            record { trees = as'; next = f.next; spans = rw (g a t.0 t.1) t.2; count = omega arith }

-- The words of an element's head; its payload begins at p.
pub record HeadWords (ws : List ℕ) (end at : ℕ) (h : ElementHead) (kind p : ℕ) : Type 0 where
  pub id : get_or ws at 0 ≡ h.id
  pub carried_is : get_or ws (at + 1) 0 ≡ h.carried
  pub packed : get_or ws (at + 2) 0 ≡ kind + kind_end * h.quantifier
  pub label_is : get_or ws (at + 3) 0 ≡ label_id h.label
  pub named : get_or ws (at + 4) 0 ≡ label_name h.label
  pub counted : get_or ws (at + 5) 0 ≡ length h.options
  pub options_stand : Stands ws end (each encode_option h.options) (at + 6) p
  pub place : p ≡ at + 6 + 2 * get_or ws (at + 5) 0
  pub within : p ≤ end
  pub fine : ok_head h ≡ true

head_words_lem : {ws : List ℕ} {end at p : ℕ} {h : ElementHead} {kind : ℕ} → Stands ws end (encode_head h kind) at p → ok_head h ≡ true
    → HeadWords ws end at h kind p
unfolding encode_head
head_words_lem {ws} {end} {at} {p} {h} {kind} s fine =
    let w = s.run.1 in
    let l = stands_length s in
    let m = options_length h.options in
    record {
      id = stands_head s;
      carried_is = w.0;
      packed = w.1.0;
      label_is = w.1.1.0;
      named = w.1.1.1.0;
      counted = w.1.1.1.1.0;
      options_stand = run_stands at 6 w.1.1.1.1.1;
      place = let o = w.1.1.1.1.0 in omega arith;
      within = l.1;
      fine = fine;
    }

-- An element taken apart: a leaf's payload, or a block.
pub data OpenedIn (form : Form) (ws : List ℕ) (end d at q : ℕ) : Element (Block d) → Type 0 where
  opened_leaf : {h : ElementHead} {l : Leaf} (p : ℕ) → HeadWords ws end at h (leaf_kind l) p
      → Spans ws end (encode_leaf_in form) (ok_leaf_in form) p l q
      → OpenedIn form ws end d at q (leaf h l)
  opened_block : {h : ElementHead} {b : Block d} (p : ℕ) → HeadWords ws end at h block_kind p
      → Spans ws end (encode_block_in form d) (ok_block_in form d) p b q
      → OpenedIn form ws end d at q (block h b)

pub opened : {form : Form} {ws : List ℕ} {end d at q : ℕ} (e : Element (Block d)) → ElementSpansIn form ws end d at e q
    → OpenedIn form ws end d at q e
unfolding encode_element_in ok_element_in
opened {form} {d = d} (leaf h l) s =
    let t = stands_split (encode_head h (leaf_kind l)) (encode_leaf_in form l) s.stands in
    opened_leaf t.0 (head_words_lem t.1 (first_so (ok_head h) (ok_leaf_in form l) s.fine))
    (record { stands = t.2; fine = second_so (ok_head h) (ok_leaf_in form l) s.fine })
opened {form} {d = d} (block h b) s =
    let t = stands_split (encode_head h block_kind) (encode_block_in form d b) s.stands in
    opened_block t.0 (head_words_lem t.1 (first_so (ok_head h) (ok_block_in form d b) s.fine))
    (record { stands = t.2; fine = second_so (ok_head h) (ok_block_in form d b) s.fine })

-- A block's alternatives, where blocks may nest one less deep.
pub record BlockWordsIn (form : Form) (ws : List ℕ) (end d p : ℕ) (b : Block (suc d)) (q : ℕ) : Type 0 where
  pub count : get_or ws p 0 ≡ length b
  pub alternatives : Spans ws end (each (encode_alternative_in form (encode_block_in form d)))
      (all (ok_alternative_in form (ok_block_in form d))) (p + 1) b q

pub block_words_lem : {form : Form} {ws : List ℕ} {end p q : ℕ} (d : ℕ) (b : Block (suc d))
    → Spans ws end (encode_block_in form (suc d)) (ok_block_in form (suc d)) p b q
    → BlockWordsIn form ws end d p b q
unfolding encode_block_in ok_block_in
block_words_lem {p = p} d b s =
    record { count = stands_head s.stands; alternatives = record { stands = run_stands p 1 s.stands.run.1; fine = s.fine } }

-- The words of an alternative's head, and its elements.
pub record AlternativeWordsIn (form : Form) (ws : List ℕ) (end d at : ℕ) (a : AlternativeOf (Block d)) (q : ℕ) : Type 0 where
  pub id : get_or ws at 0 ≡ a.id
  pub carried_is : get_or ws (at + 1) 0 ≡ a.carried
  pub flag_is : get_or ws (at + 2) 0 ≡ a.flag
  pub counted : get_or ws (at + 3) 0 ≡ length a.options
  pub options_stand : Stands ws end (each encode_option a.options) (at + 5) (at + 5 + 2 * get_or ws (at + 3) 0)
  pub count : get_or ws (at + 4) 0 ≡ length a.elements
  pub elements_span : Spans ws end (each (encode_element_in form (encode_block_in form d))) (all (ok_element_in form (ok_block_in form d)))
      (at + 5 + 2 * get_or ws (at + 3) 0)
      a.elements q

pub alternative_words_lem : (d : ℕ) {form : Form} {ws : List ℕ} {end at : ℕ} {a : AlternativeOf (Block d)} {q : ℕ}
    → AlternativeSpansIn form ws end d at a q
    → AlternativeWordsIn form ws end d at a q
unfolding encode_alternative_in ok_alternative_in
alternative_words_lem d {form} {ws} {at = at} {a} {q} s =
    let w = s.stands.run.1 in
    let t =
    stands_split (each encode_option a.options) (each (encode_element_in form (encode_block_in form d)) a.elements)
    (run_stands at 5 w.1.1.1.1) in
    let l = stands_length t.1 in
    let m = options_length a.options in
    let o = w.1.1.0 in
    let x : t.0 ≡ at + 5 + 2 * get_or ws (at + 3) 0 = omega arith in
    record {
      id = stands_head s.stands;
      carried_is = w.0;
      flag_is = w.1.0;
      counted = o;
      options_stand = rw (← x) t.1;
      count = w.1.1.1.0;
      elements_span = rw (← x) (record {
        stands = t.2;
        fine = second_so (all ok_option a.options) _ (second_so (leb a.flag most_alternative_flag) _ s.fine);
      });
    }

-- The words of a rule's head, and its alternatives.
pub record RuleWordsIn (form : Form) (ws : List ℕ) (end d at : ℕ) (r : RuleOf (Block (suc d))) (q : ℕ) : Type 0 where
  pub id : get_or ws at 0 ≡ r.id
  pub named : get_or ws (at + 1) 0 ≡ r.name
  pub flags_are : get_or ws (at + 2) 0 ≡ r.flags
  pub count : get_or ws (at + 3) 0 ≡ length r.body
  pub alternatives : Spans ws end (each (encode_alternative_in form (encode_block_in form d)))
      (all (ok_alternative_in form (ok_block_in form d))) (at + 4) r.body q

pub rule_words_lem : (d : ℕ) {form : Form} {ws : List ℕ} {end at : ℕ} {r : RuleOf (Block (suc d))} {q : ℕ}
    → RuleSpansIn form ws end (suc d) at r q
    → RuleWordsIn form ws end d at r q
unfolding encode_rule ok_rule encode_block_in ok_block_in
rule_words_lem d {at = at} {r} s =
    let w = s.stands.run.1 in
    record {
      id = stands_head s.stands;
      named = w.0;
      flags_are = w.1.0;
      count = w.1.1.0;
      alternatives = record {
        stands = run_stands at 4 w.1.1.1;
        fine = second_so (leb r.flags most_rule_flags) _ (second_so (is_name r.name) _ s.fine);
      };
    }

-- A good call has a name.
pub call_named : (form : Form) (c : Call) → ok_leaf_in form (call c) ≡ true → is_name c.name ≡ true
unfolding ok_leaf_in
call_named form c fine = second_so (has_place form c) (is_name c.name) fine

-- The words of a call.
pub record CallStands (form : Form) (ws : List ℕ) (end at : ℕ) (c : Call) (q : ℕ) : Type 0 where
  pub named : get_or ws at 0 ≡ c.name
  pub arguments_are : get_or ws (at + 1) 0 ≡ c.arguments
  pub next : q ≡ at + call_words form
  pub within : q ≤ end

only_length : (form : Form) (n : ℕ) → length (only form.precedences n) + 2 ≡ call_words form
only_length form n = go form.precedences
  where
    go : (b : Bool) → length (only b n) + 2 ≡ elim b [ true ↦ 3 | false ↦ 2 ]
    go true = refl
    go false = refl

pub call_stands : {form : Form} {ws : List ℕ} {end at q : ℕ} (c : Call) → Stands ws end (encode_leaf_in form (call c)) at q
    → CallStands form ws end at c q
unfolding encode_leaf_in
call_stands {form} c s =
    let l = stands_length s in
    let m = only_length form c.precedence in
    record { named = stands_head s; arguments_are = s.run.1.0; next = omega arith; within = l.1 }

-- In the newest form.
module _ (ws : List ℕ) (end d : ℕ) where
  abbrev pub Opened : (at q : ℕ) → Element (Block d) → Type 0
  Opened = OpenedIn newest ws end d

  abbrev pub BlockWords : ℕ → Block (suc d) → ℕ → Type 0
  BlockWords = BlockWordsIn newest ws end d

  abbrev pub AlternativeWords : ℕ → AlternativeOf (Block d) → ℕ → Type 0
  AlternativeWords = AlternativeWordsIn newest ws end d

  abbrev pub RuleWords : ℕ → RuleOf (Block (suc d)) → ℕ → Type 0
  RuleWords = RuleWordsIn newest ws end d
