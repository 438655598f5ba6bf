-- The alternatives of a rule in place of an element of the alternative in hand, each written as a record.
use Rattle.std.specs.Prelude.{ℕ, suc, ◌+◌, ◌-◌, ◌<◌, ◌≤◌, ◌≡◌, List, ◌++◌, length, get_or, take, drop}
use Rattle.grammar.specs.Tree.{Element, Block, AlternativeOf}
use Rattle.grammar.specs.Encode.{encode_alternative, encode_block}
use Rattle.grammar.specs.Valid.{ok_alternative, ok_block}
use Rattle.grammar.specs.Lists.{each, all}
use Rattle.grammar.specs.Stands.{Spans}
use Rattle.grammar.specs.Numbers.{work_bytes}
use Rattle.grammar.specs.Found.{AlternativeSpans, AlternativeAt}
use Rattle.reference.specs.Numbers.{most_alternatives, most_elements, most_options}
use Rattle.reference.specs.Substitute.{Planned, decided, decide_each, splice_alternative}
use Rattle.planned.specs.Layout.{half, head_at, hand_at, options_at, record_at, elements_from, meaning, records_from}
use Rattle.planned.specs.List.{Located, InHand, ElementIn, ListedIn}
use Rattle.splices.specs.Options.{OptionsFit, OptionsPut}
use Rattle.splices.specs.Places.{ElementsSpan}
use Rattle.planned.specs.Laws.Kept.{Outside, StandsIn}
use Rattle.planned.specs.Laws.Counts.{elements_all, options_all}
use Rattle.planned.specs.declared.list.Listed.{Listed}

-- Some in place of the one at an index.
abbrev pub spliced : {A : Type 0} → ℕ → List A → List A → List A
spliced index es xs = take index xs ++ (es ++ drop (suc index) xs)

module _ (ws : List ℕ) (end d : ℕ) where
  abbrev pub AlternativesSpan : ℕ → List (AlternativeOf (Block d)) → ℕ → Type 0
  AlternativesSpan = Spans ws end (each (encode_alternative (encode_block d))) (all (ok_alternative (ok_block d)))

  -- There is room for what the alternative at a place becomes, from two halves on, or as the a-th record.
  pub record PartsFit (h : Listed) (at : ℕ) (bs : List ℕ) (e to : ℕ) : Type 0 where
    pub elements : e + (h.ne - 1 + get_or ws (at + 4) 0) ≤ most_elements
    pub options : OptionsFit ws end d at bs h to

  pub record OneFits (h : Listed) (at : ℕ) (bs : List ℕ) (a x y : ℕ) : Type 0 where
    pub head : a < most_alternatives
    pub parts : PartsFit h at bs x (options_at + y)
    pub few : y ≤ most_options

  module _ (h : Listed) (index : ℕ) where
    -- The elements in hand, with the n that stand from `at` on in place of one, are listed from `to` on. Those end at r.
    pub record ElementsPut (n at : ℕ) (before after : List ℕ) (to r : ℕ) : Type 0 where
      pub meant : (es : List (Element (Block d))) (q : ℕ) → ElementsSpan ws end d at es q → length es ≡ n
          → elements_from ws end d after to (h.ne - 1 + n) ≡ spliced index es (elements_from ws end d before h.e h.ne)
      pub elements : ((i : ℕ) → i < h.ne → ElementIn ws end d (half before (h.e + i)))
          → (i : ℕ) → i < h.ne - 1 + n → ElementIn ws end d (half after (to + i))
      pub passed : (es : List (Element (Block d))) (q : ℕ) → ElementsSpan ws end d at es q → length es ≡ n → r ≡ q
      pub within : r ≤ end
      pub front : (j : ℕ) → j < to → half after j ≡ half before j
      pub behind : (j : ℕ) → to + (h.ne - 1 + n) ≤ j → half after j ≡ half before j
      pub long : length after ≡ length before

    -- The alternative in hand has an element at the index, and stands in the sheet.
    pub record HandIn (bs : List ℕ) : Type 0 where
      pub below : index < h.ne
      pub in_hand : InHand h
      pub located : Located bs h
      pub listed : ListedIn ws end d bs h

    -- Elements and options of what the alternative at a place becomes, from two halves on; mid is in between.
    pub record PartsPut (at : ℕ) (before after : List ℕ) (e to r n back : ℕ) : Type 0 where
      pub mid : List ℕ
      pub count : ℕ
      pub first : ℕ
      pub head : AlternativeAt ws end at count first
      pub elements : ElementsPut count first before mid e r
      pub options : OptionsPut ws end d at h mid after to back
      pub many : n ≡ h.ne - 1 + count
      pub fits : e + n ≤ most_elements
      pub past : to ≤ back
      pub few : back ≤ hand_at
      pub room : at + 5 ≤ end
      pub big : work_bytes ≤ length after
      pub long : length after ≡ length before

    -- It is the a-th record, with its elements and options from two places on up to two others. The alternative ends at r.
    pub record OnePut (at : ℕ) (before after : List ℕ) (a x y z w r : ℕ) : Type 0 where
      pub meant : (t : AlternativeOf (Block d)) (q : ℕ) → AlternativeSpans ws end d at t q → (p : Planned d)
          → splice_alternative d (meaning ws end d before h) index t ≡ decided p → meaning ws end d after (record_at after a x y) ≡ p
      pub listed : ListedIn ws end d after (record_at after a x y)
      pub passed : (t : AlternativeOf (Block d)) (q : ℕ) → AlternativeSpans ws end d at t q → r ≡ q
      pub elements : z ≡ x + half after (head_at a + 2)
      pub options : w ≡ y + half after (head_at a + 3)
      pub outside : Outside before after a (a + 1) x z y w
      pub hand : (j : ℕ) → hand_at ≤ j → half after j ≡ half before j

    -- There is room for what n alternatives from a place on become: elements up to z, options up to w.
    pub record AllFit (n at : ℕ) (bs : List ℕ) (a x y z w : ℕ) : Type 0 where
      pub body : List (AlternativeOf (Block d))
      pub next : ℕ
      pub spans : AlternativesSpan at body next
      pub count : length body ≡ n
      pub ps : List (Planned d)
      pub are : decide_each (splice_alternative d (meaning ws end d bs h) index) body ≡ decided ps
      pub heads : a + n ≤ most_alternatives
      pub elements : x + elements_all ps ≡ z
      pub options : y + options_all ps ≡ w
      pub few_elements : z ≤ most_elements
      pub few_options : w ≤ most_options

    -- They are n records from the a-th on.
    pub record AllPut (n at : ℕ) (before after : List ℕ) (a x y z w : ℕ) : Type 0 where
      pub meant : (body : List (AlternativeOf (Block d))) (q : ℕ) → AlternativesSpan at body q → length body ≡ n → (ps : List (Planned d))
          → decide_each (splice_alternative d (meaning ws end d before h) index) body ≡ decided ps
          → records_from ws end d after n a x y ≡ ps
      pub stands : StandsIn ws end d after a (a + n) x z y w
      pub outside : Outside before after a (a + n) x z y w
