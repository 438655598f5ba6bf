-- Cases of Demands.Met: the sheet `returning` of Examples, with other carried numbers, and with other precedences.
use Rattle.std.specs.Prelude.{ℕ, ◌≡◌, refl, List}
use Rattle.grammar.specs.Tree.{Sheet}
use Rattle.grammar.specs.Words.{bytes}
use Rattle.grammar.specs.Encode.{encode}
use Rattle.reference.specs.Computed.{computed}
use Rattle.laws.specs.Examples.{returning}
use Rattle.laws.specs.Demands.Marks.{on_element, on_leaf, on_block, on_sheet}
use Rattle.laws.specs.Demands.Sameness.{TreeIn, same, none}
use Rattle.laws.specs.Proved.Table.{good_length_lem}

abbrev pub returning_bytes : List ℕ
returning_bytes = bytes (encode returning)

-- Its tree stands in its bytes, and so do those with other numbers.
pub tree_returning : TreeIn returning_bytes returning
unfolding computed
tree_returning = record { good_length = good_length_lem returning_bytes refl; trailer = refl; next = _; records = refl; is_sheet = refl }

abbrev pub carried_five : Sheet
carried_five = on_sheet same (λ n. 5) same returning

pub tree_five : TreeIn (bytes (encode carried_five)) carried_five
unfolding computed on_sheet on_block on_element on_leaf
tree_five =
    record { good_length = good_length_lem (bytes (encode carried_five)) refl; trailer = refl; next = _; records = refl; is_sheet = refl }

pub same_but_carried : on_sheet same none same returning ≡ on_sheet same none same carried_five
unfolding computed on_sheet on_block on_element on_leaf
same_but_carried = refl

-- Each call has precedence 4.
abbrev pub raised : Sheet
raised = on_sheet same same (λ n. 5) returning

pub tree_raised : TreeIn (bytes (encode raised)) raised
unfolding computed on_sheet on_block on_element on_leaf
tree_raised =
    record { good_length = good_length_lem (bytes (encode raised)) refl; trailer = refl; next = _; records = refl; is_sheet = refl }

pub same_but_precedences : on_sheet same same none returning ≡ on_sheet same same none raised
unfolding computed on_sheet on_block on_element on_leaf
same_but_precedences = refl
