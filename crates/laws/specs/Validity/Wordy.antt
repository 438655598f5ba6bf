-- When the words of a sheet are 32-bit words: ids are below counters, names and counts are small, and the other numbers
-- are copied from the sheet handed in.
use Rattle.std.specs.Prelude.{ℕ, zero, suc, ◌+◌, ◌*◌, ◌≤◌, ◌<◌, ◌≡◌, ◌⊎◌, true, length, leb}
use Rattle.std.proofs.Common.{sym, ap, subst, inl, inr, arith, length-append, leb-true}
use Rattle.std.proofs.Math.Logic.{⊎_elim}
use Rattle.std.specs.Cmp.{first_so, second_so}
use mathlib.Core.List.Memᴰ
use mathlib.Core.List.{List, [], ◌∷◌, ◌++◌, map, Memᴰ}
use Rattle.grammar.specs.Laws.Lists.{in_map}
use Rattle.grammar.specs.Laws.Opened.{call_named}
use Rattle.grammar.specs.Tree.{OptionDecl, Reference, Label, unlabelled, labelled, ElementHead, Leaf, epsilon, action, predicate, call}
use Rattle.grammar.specs.Tree.{token, terminal, end_of_input, Element, leaf, block, AlternativeOf, Block}
use Rattle.grammar.specs.Encode.{encode_option, encode_reference, label_id, label_name, encode_head, leaf_kind, encode_leaf, encode_element}
use Rattle.grammar.specs.Encode.{encode_alternative_in, encode_block_in, encode_element_in, encode_leaf_in}
use Rattle.grammar.specs.Encode.{encode_alternative, encode_block}
use Rattle.grammar.specs.Lists.{each, all, only}
use Rattle.grammar.specs.Form.{newest}
use Rattle.grammar.specs.Read.{is_name}
use Rattle.grammar.specs.Ids.{label_ids, head_ids, leaf_ids}
use Rattle.grammar.specs.Valid.{ok_option, ok_reference, ok_label, ok_head, ok_leaf, ok_leaf_in}
use Rattle.grammar.specs.Numbers.{most_name, one_or_more_nongreedy, kind_end, non_local}
use Rattle.laws.specs.Lists.Lookup.{all_in}
use Rattle.graph.specs.Members.{in_each, each_in}
use Rattle.laws.specs.Demands.Applied.{Sort, of_element, of_label, of_action, of_predicate, number}

-- The numbers that are copied and never looked at: carried numbers, option values, arguments, precedences.
abbrev pub option_words : List OptionDecl → List ℕ
option_words = map λ o. o.value

abbrev pub leaf_words : Leaf → List ℕ
leaf_words epsilon = []
leaf_words (action a) = []
leaf_words (predicate p) = []
leaf_words (call c) = c.arguments ∷ only newest.precedences c.precedence
leaf_words (token n) = []
leaf_words terminal = []
leaf_words end_of_input = []

abbrev pub head_words : ElementHead → List ℕ
head_words h = h.carried ∷ option_words h.options

module _ {B : Type 0} (of_block : B → List ℕ) where
  unfoldable pub element_words : Element B → List ℕ
  element_words (leaf h l) = head_words h ++ leaf_words l
  element_words (block h b) = head_words h ++ of_block b

  unfoldable pub alternative_words : AlternativeOf B → List ℕ
  alternative_words a = a.carried ∷ (option_words a.options ++ each element_words a.elements)

unfoldable pub block_words : (d : ℕ) → Block d → List ℕ
block_words zero b = absurd b
block_words (suc d) as' = each (alternative_words (block_words d)) as'

-- They stand in the encoding.
value_in : (os : List OptionDecl) {w : ℕ} → Memᴰ w (option_words os) → Memᴰ w (each encode_option os)
value_in os m = let (o, k, e) = Memᴰ.of_map (λ o. o.value) os m in in_each encode_option k (Memᴰ.tail (Memᴰ.head (sym e)))

head_in : (h : ElementHead) (k : ℕ) {w : ℕ} → Memᴰ w (head_words h) → Memᴰ w (encode_head h k)
unfolding encode_head
head_in h k (Memᴰ.head e) = Memᴰ.tail (Memᴰ.head e)
head_in h k (Memᴰ.tail m) =
    Memᴰ.tail (Memᴰ.tail (Memᴰ.tail (Memᴰ.tail (Memᴰ.tail (Memᴰ.tail (value_in h.options m))))))

leaf_in : (l : Leaf) {w : ℕ} → Memᴰ w (leaf_words l) → Memᴰ w (encode_leaf l)
unfolding encode_leaf_in
leaf_in epsilon m = absurd (Memᴰ.not-nil m)
leaf_in (action a) m = absurd (Memᴰ.not-nil m)
leaf_in (predicate p) m = absurd (Memᴰ.not-nil m)
leaf_in (call c) m = Memᴰ.tail m
leaf_in (token n) m = absurd (Memᴰ.not-nil m)
leaf_in terminal m = absurd (Memᴰ.not-nil m)
leaf_in end_of_input m = absurd (Memᴰ.not-nil m)

module _ {B : Type 0} (of_block enc : B → List ℕ) (inside : (b : B) (w : ℕ) → Memᴰ w (of_block b) → Memᴰ w (enc b)) where
  element_in : (e : Element B) {w : ℕ} → Memᴰ w (element_words of_block e) → Memᴰ w (encode_element enc e)
  unfolding element_words encode_element_in
  element_in (leaf h l) m =
      ⊎_elim (λ n. Memᴰ.append_left (encode_leaf l) (head_in h (leaf_kind l) n))
      (λ n. Memᴰ.append_right (encode_head h (leaf_kind l)) (leaf_in l n)) (Memᴰ.append_cases (head_words h) m)
  element_in (block h b) {w} m =
      ⊎_elim (λ n. Memᴰ.append_left (enc b) (head_in h 6 n)) (λ n. Memᴰ.append_right (encode_head h 6) (inside b w n))
      (Memᴰ.append_cases (head_words h) m)

  alternative_in : (a : AlternativeOf B) {w : ℕ} → Memᴰ w (alternative_words of_block a) → Memᴰ w (encode_alternative enc a)
  unfolding alternative_words encode_alternative_in
  alternative_in a (Memᴰ.head e) = Memᴰ.tail (Memᴰ.head e)
  alternative_in a {w} (Memᴰ.tail m) =
      Memᴰ.tail (Memᴰ.tail (Memᴰ.tail (Memᴰ.tail (Memᴰ.tail
      (⊎_elim (λ n. Memᴰ.append_left (each (encode_element enc) a.elements) (value_in a.options n))
      (λ n. let (e, k, l) = each_in (element_words of_block) a.elements n in Memᴰ.append_right (each encode_option a.options)
      (in_each (encode_element enc) k (element_in e l)))
      (Memᴰ.append_cases (option_words a.options) m))))))

pub block_in : (d : ℕ) (b : Block d) (w : ℕ) → Memᴰ w (block_words d b) → Memᴰ w (encode_block d b)
unfolding block_words encode_block_in
block_in zero b w m = absurd b
block_in (suc d) as' w m =
    let (a, k, l) = each_in (alternative_words (block_words d)) as' m in
    Memᴰ.tail (in_each (encode_alternative (encode_block d)) k (alternative_in (block_words d) (encode_block d) (block_in d) a l))

-- What a word of an encoding is: small, copied, or an id.
pub data Told (words : List ℕ) (ids : ℕ → List ℕ) (w : ℕ) : Type 0 where
  small : w ≤ most_name → Told words ids w
  copied : Memᴰ w words → Told words ids w
  is_id : (s : Sort) → Memᴰ w (ids (number s)) → Told words ids w

pub told_in : {us vs : List ℕ} {is js : ℕ → List ℕ} {w : ℕ} → (Memᴰ w us → Memᴰ w vs)
    → ((s : Sort) → Memᴰ w (is (number s)) → Memᴰ w (js (number s)))
    → Told us is w → Told vs js w
told_in f g (small l) = small l
told_in f g (copied m) = copied (f m)
told_in f g (is_id s m) = is_id s (g s m)

pub name_small : (n : ℕ) → is_name n ≡ true → n ≤ most_name
name_small n t = leb-true n most_name (second_so (leb 1 n) (leb n most_name) t)

-- Of lists of items: as many as words at most, and each item's words among those of all.
pub each_count : {A : Type 0} (enc : A → List ℕ) → ((a : A) → 1 ≤ length (enc a)) → (xs : List A) → length xs ≤ length (each enc xs)
each_count enc h [] = omega arith
each_count enc h (x ∷ xs) = let a = h x in let b = each_count enc h xs in let c = length-append (enc x) (each enc xs) in omega arith

pub each_part : {A : Type 0} (enc : A → List ℕ) {a : A} {xs : List A} → Memᴰ a xs → length (enc a) ≤ length (each enc xs)
each_part enc (Memᴰ.head {x = x} {xs = xs} e) =
    let b = ap (λ y. length (enc y)) e in let c = length-append (enc x) (each enc xs) in omega arith
each_part enc (Memᴰ.tail {x = x} {xs = xs} m) = let b = each_part enc m in let c = length-append (enc x) (each enc xs) in omega arith

pub option_told : (os : List OptionDecl) → all ok_option os ≡ true → {is : ℕ → List ℕ} {w : ℕ} → Memᴰ w (each encode_option os)
    → Told (option_words os) is w
option_told os t {w = w} m =
    let (o, k, l) = each_in encode_option os m in
    ⊎_elim (λ e. small (subst (λ x. x ≤ most_name) (sym e) (name_small o.name (all_in ok_option t k))))
    (λ n. copied (subst (λ x. Memᴰ x (option_words os)) (sym (Memᴰ.eq_of_singleton n)) (in_map (λ o. o.value) k)))
    (Memᴰ.cases_cons l)

reference_told : (rs : List Reference) → all ok_reference rs ≡ true → {us : List ℕ} {is : ℕ → List ℕ} {w : ℕ}
    → Memᴰ w (each encode_reference rs) → Told us is w
reference_told rs t m =
    let (r, k, l) = each_in encode_reference rs m in
    let u = all_in ok_reference t k in
    ⊎_elim (λ e. small (let h = leb-true r.kind non_local (first_so (leb r.kind non_local) _ u) in omega arith))
    (λ n. let q = Memᴰ.eq_of_singleton n in small
    (let h = name_small r.name (second_so (leb r.kind non_local) _ u) in omega arith)) (Memᴰ.cases_cons l)

pub leaf_told : (l : Leaf) → ok_leaf l ≡ true → length (encode_leaf l) ≤ most_name → {w : ℕ} → Memᴰ w (encode_leaf l)
    → Told (leaf_words l) (λ k. leaf_ids k l) w
unfolding ok_leaf_in encode_leaf_in leaf_ids
leaf_told epsilon t h m = absurd (Memᴰ.not-nil m)
leaf_told (action a) t h (Memᴰ.head e) = is_id of_action (Memᴰ.head e)
leaf_told (action a) t h (Memᴰ.tail (Memᴰ.head e)) =
    small (let g = each_count encode_reference (λ r. omega arith) a.references in omega arith)
leaf_told (action a) t h (Memᴰ.tail (Memᴰ.tail m)) = reference_told a.references t m
leaf_told (predicate p) t h (Memᴰ.head e) = is_id of_predicate (Memᴰ.head e)
leaf_told (predicate p) t h (Memᴰ.tail (Memᴰ.head e)) =
    small (let g = each_count encode_reference (λ r. omega arith) p.references in omega arith)
leaf_told (predicate p) t h (Memᴰ.tail (Memᴰ.tail m)) = reference_told p.references t m
leaf_told (call c) t h (Memᴰ.head e) = small (let g = name_small c.name (call_named newest c t) in omega arith)
leaf_told (call c) t h (Memᴰ.tail m) = copied m
leaf_told (token n) t h m = let e = Memᴰ.eq_of_singleton m in small (let g = name_small n t in omega arith)
leaf_told terminal t h m = absurd (Memᴰ.not-nil m)
leaf_told end_of_input t h m = absurd (Memᴰ.not-nil m)

label_told : (l : Label) → ok_label l ≡ true → {us : List ℕ} {is : ℕ → List ℕ} {w : ℕ} → (w ≡ label_id l) ⊎ (w ≡ label_name l)
    → ((x : ℕ) → Memᴰ x (label_ids 4 l) → Memᴰ x (is 4))
    → Told us is w
unfolding ok_label label_ids
label_told unlabelled t (inl e) h = small (omega arith)
label_told unlabelled t (inr e) h = small (omega arith)
label_told (labelled i n) t {w = w} (inl e) h = is_id of_label (h w (Memᴰ.head e))
label_told (labelled i n) t (inr e) h = small (let g = name_small n t in omega arith)

pub head_told : (x : ElementHead) (kind : ℕ) → kind < kind_end → ok_head x ≡ true → length (encode_head x kind) ≤ most_name → {w : ℕ}
    → Memᴰ w (encode_head x kind) → Told (head_words x) (λ k. head_ids k x) w
unfolding ok_head encode_head head_ids
head_told x kind b t h {w} m =
    let q = leb-true x.quantifier one_or_more_nongreedy (first_so (leb x.quantifier one_or_more_nongreedy) _ t) in
    let u = second_so (leb x.quantifier one_or_more_nongreedy) _ t in
    let l = first_so (ok_label x.label) _ u in
    let o = second_so (ok_label x.label) (all ok_option x.options) u in
    let g = each_count encode_option (λ a. omega arith) x.options in
    go q l o (omega arith) m
  where
    go : x.quantifier ≤ one_or_more_nongreedy → ok_label x.label ≡ true → all ok_option x.options ≡ true → length x.options ≤ most_name
        → Memᴰ w (x.id ∷ x.carried ∷ (kind + 256 * x.quantifier) ∷ label_id x.label ∷ label_name x.label ∷ length x.options
        ∷ each encode_option x.options)
        → Told (head_words x) (λ k. head_ids k x) w
    go q l o g (Memᴰ.head e) = is_id of_element (Memᴰ.head e)
    go q l o g (Memᴰ.tail (Memᴰ.head e)) = copied (Memᴰ.head e)
    go q l o g (Memᴰ.tail (Memᴰ.tail (Memᴰ.head e))) = small (omega arith)
    go q l o g (Memᴰ.tail (Memᴰ.tail (Memᴰ.tail (Memᴰ.head e)))) = label_told x.label l (inl e) (λ y m. m)
    go q l o g (Memᴰ.tail (Memᴰ.tail (Memᴰ.tail (Memᴰ.tail (Memᴰ.head e))))) = label_told x.label l (inr e)
        (λ y m. m)
    go q l o g (Memᴰ.tail (Memᴰ.tail (Memᴰ.tail (Memᴰ.tail (Memᴰ.tail (Memᴰ.head e)))))) =
        small (omega arith)
    go q l o g (Memᴰ.tail (Memᴰ.tail (Memᴰ.tail (Memᴰ.tail (Memᴰ.tail (Memᴰ.tail m)))))) =
        told_in (λ n. Memᴰ.tail n) (λ s n. n) (option_told x.options o {is = λ k. head_ids k x} m)
