-- The strings of Demands: for those derived a tree, for the others a test that they fail.
use Rattle.std.specs.Prelude.{◌≡◌, refl, [], ◌∷◌}
use Rattle.std.proofs.Common.{sym, subst}
use Rattle.std.proofs.Math.Option.{some, some-injective, none-ne-some}
use Rattle.grammar.specs.Lists.{all}
use Rattle.grammar.specs.Tree.{body_depth}
use Rattle.language.specs.Shape.{is_mark, token_symbol, unknown_symbol, other_symbol, Word, Shape, fail, call_of, seq, alt, quantified}
use Rattle.language.specs.Shape.{erase_leaf, erase_element, erase_block, erase_rules, find}
use Rattle.language.specs.Derive.{Der, d_eps, d_symbol, d_call, d_unknown, d_seq, d_left, d_right, d_absent, d_present, d_none, d_more}
use Rattle.language.specs.Derive.{d_some}
use Rattle.laws.specs.Demands.Strings.{A, B, C, END, Yes, No, Empty, one, often, in_order, two_sets, token_or_call, recursive, endless}
use Rattle.laws.specs.Demands.Strings.{twice, in_block, often_end, two_ends, silent, StringsTold}
use Rattle.laws.specs.Derivation.Could.{could, body_of, tree_of, derived, failed}

once : Yes (often 0) (A ∷ [])
unfolding find erase_block erase_element erase_leaf quantified
once = derived (often 0) refl (d_left (d_seq refl d_symbol d_eps))

optional_absent_lem : Yes (often 1) []
unfolding find erase_block erase_element erase_leaf quantified
optional_absent_lem = derived (often 1) refl (d_left (d_seq refl d_absent d_eps))

optional_there_lem : Yes (often 2) (A ∷ [])
unfolding find erase_block erase_element erase_leaf quantified
optional_there_lem = derived (often 2) refl (d_left (d_seq refl (d_present d_symbol) d_eps))

any_absent_lem : Yes (often 3) []
unfolding find erase_block erase_element erase_leaf quantified
any_absent_lem = derived (often 3) refl (d_left (d_seq refl d_none d_eps))

any_twice_lem : Yes (often 3) (A ∷ A ∷ [])
unfolding find erase_block erase_element erase_leaf quantified
any_twice_lem = derived (often 3) refl (d_left (d_seq refl (d_more refl d_symbol (d_more refl d_symbol d_none)) d_eps))

any_thrice_lem : Yes (often 4) (A ∷ A ∷ A ∷ [])
unfolding find erase_block erase_element erase_leaf quantified
any_thrice_lem =
    derived (often 4) refl (d_left (d_seq refl (d_more refl d_symbol (d_more refl d_symbol (d_more refl d_symbol d_none))) d_eps))

some_once_lem : Yes (often 5) (A ∷ [])
unfolding find erase_block erase_element erase_leaf quantified
some_once_lem = derived (often 5) refl (d_left (d_seq refl (d_some refl d_symbol d_none) d_eps))

some_twice_lem : Yes (often 5) (A ∷ A ∷ [])
unfolding find erase_block erase_element erase_leaf quantified
some_twice_lem = derived (often 5) refl (d_left (d_seq refl (d_some refl d_symbol (d_more refl d_symbol d_none)) d_eps))

some_thrice_lem : Yes (often 6) (A ∷ A ∷ A ∷ [])
unfolding find erase_block erase_element erase_leaf quantified
some_thrice_lem =
    derived (often 6) refl (d_left (d_seq refl (d_some refl d_symbol (d_more refl d_symbol (d_more refl d_symbol d_none))) d_eps))

order_kept_lem : Yes in_order (A ∷ B ∷ [])
unfolding find erase_block erase_element erase_leaf quantified
order_kept_lem = derived in_order refl (d_left (d_seq refl d_symbol (d_seq refl d_symbol d_eps)))

sets_kept_lem : Yes two_sets (other_symbol 1 ∷ other_symbol 2 ∷ [])
unfolding find erase_block erase_element erase_leaf quantified
sets_kept_lem = derived two_sets refl (d_left (d_seq refl d_symbol (d_seq refl d_symbol d_eps)))

token_there_lem : Yes token_or_call (A ∷ [])
unfolding find erase_block erase_element erase_leaf quantified
token_there_lem = derived token_or_call refl (d_left (d_seq refl d_symbol d_eps))

unknown_there_lem : Yes token_or_call (unknown_symbol 5 ∷ [])
unfolding find erase_block erase_element erase_leaf quantified
unknown_there_lem = derived token_or_call refl (d_right (d_left (d_seq refl (d_unknown refl) d_eps)))

left_recursion_lem : Yes recursive (B ∷ A ∷ A ∷ [])
unfolding find erase_block erase_element erase_leaf quantified
left_recursion_lem =
    derived recursive refl
    (d_left (d_seq refl
    (d_call refl (d_left (d_seq refl (d_call refl (d_right (d_left (d_seq refl d_symbol d_eps)))) (d_seq refl d_symbol d_eps))))
    (d_seq refl d_symbol d_eps)))

called_twice_lem : Yes twice (A ∷ B ∷ [])
unfolding find erase_block erase_element erase_leaf quantified
called_twice_lem = derived twice refl (d_left (d_seq refl (d_call refl (d_left (d_seq refl d_symbol d_eps)))
    (d_seq refl (d_call refl (d_right (d_left (d_seq refl d_symbol d_eps)))) d_eps)))

block_repeated_lem : Yes in_block (B ∷ A ∷ C ∷ [])
unfolding find erase_block erase_element erase_leaf quantified
block_repeated_lem = derived in_block refl (d_left (d_seq refl (d_some refl (d_right (d_left (d_seq refl d_symbol d_eps)))
    (d_more refl (d_left (d_seq refl d_symbol d_eps)) d_none)) (d_seq refl d_symbol d_eps)))

nothing_there_lem : Yes silent []
unfolding find erase_block erase_element erase_leaf quantified
nothing_there_lem = derived silent refl (d_left (d_seq refl d_eps (d_seq refl d_eps (d_seq refl d_eps d_eps))))

end_once_lem : Yes (often_end 0) (END ∷ [])
unfolding find erase_block erase_element erase_leaf quantified
end_once_lem = derived (often_end 0) refl (d_left (d_seq refl d_symbol d_eps))

end_absent_lem : Yes (often_end 1) []
unfolding find erase_block erase_element erase_leaf quantified
end_absent_lem = derived (often_end 1) refl (d_left (d_seq refl d_absent d_eps))

end_any_lem : Yes (often_end 3) (END ∷ END ∷ [])
unfolding find erase_block erase_element erase_leaf quantified
end_any_lem = derived (often_end 3) refl (d_left (d_seq refl (d_more refl d_symbol (d_more refl d_symbol d_none)) d_eps))

end_some_lem : Yes (often_end 5) (END ∷ END ∷ [])
unfolding find erase_block erase_element erase_leaf quantified
end_some_lem = derived (often_end 5) refl (d_left (d_seq refl (d_some refl d_symbol (d_more refl d_symbol d_none)) d_eps))

ends_alike_lem : Yes two_ends (END ∷ END ∷ [])
unfolding find erase_block erase_element erase_leaf quantified
ends_alike_lem = derived two_ends refl (d_left (d_seq refl d_symbol (d_seq refl d_symbol d_eps)))

end_empty_lem : Empty (often_end 0)
unfolding all is_mark
end_empty_lem = record { word = END ∷ []; marks = refl; derives = end_once_lem }

end_some_empty_lem : Empty (often_end 5)
unfolding all is_mark
end_some_empty_lem = record { word = END ∷ END ∷ []; marks = refl; derives = end_some_lem }

not_twice_lem : No (often 0) (A ∷ A ∷ [])
unfolding find erase_block erase_element erase_leaf quantified could
not_twice_lem = failed (often 0) (A ∷ A ∷ []) refl refl

not_absent_lem : No (often 0) []
unfolding find erase_block erase_element erase_leaf quantified could
not_absent_lem = failed (often 0) [] refl refl

optional_not_twice_lem : No (often 1) (A ∷ A ∷ [])
unfolding find erase_block erase_element erase_leaf quantified could
optional_not_twice_lem = failed (often 1) (A ∷ A ∷ []) refl refl

nongreedy_not_twice_lem : No (often 2) (A ∷ A ∷ [])
unfolding find erase_block erase_element erase_leaf quantified could
nongreedy_not_twice_lem = failed (often 2) (A ∷ A ∷ []) refl refl

any_not_other_lem : No (often 3) (A ∷ B ∷ [])
unfolding find erase_block erase_element erase_leaf quantified could
any_not_other_lem = failed (often 3) (A ∷ B ∷ []) refl refl

some_not_absent_lem : No (often 5) []
unfolding find erase_block erase_element erase_leaf quantified could
some_not_absent_lem = failed (often 5) [] refl refl

nongreedy_not_absent_lem : No (often 6) []
unfolding find erase_block erase_element erase_leaf quantified could
nongreedy_not_absent_lem = failed (often 6) [] refl refl

order_not_turned_lem : No in_order (B ∷ A ∷ [])
unfolding find erase_block erase_element erase_leaf quantified could
order_not_turned_lem = failed in_order (B ∷ A ∷ []) refl refl

not_one_token_lem : No in_order (A ∷ A ∷ [])
unfolding find erase_block erase_element erase_leaf quantified could
not_one_token_lem = failed in_order (A ∷ A ∷ []) refl refl

sets_not_turned_lem : No two_sets (other_symbol 2 ∷ other_symbol 1 ∷ [])
unfolding find erase_block erase_element erase_leaf quantified could
sets_not_turned_lem = failed two_sets (other_symbol 2 ∷ other_symbol 1 ∷ []) refl refl

not_one_set_lem : No two_sets (other_symbol 1 ∷ other_symbol 1 ∷ [])
unfolding find erase_block erase_element erase_leaf quantified could
not_one_set_lem = failed two_sets (other_symbol 1 ∷ other_symbol 1 ∷ []) refl refl

token_is_no_call_lem : No token_or_call (unknown_symbol 7 ∷ [])
unfolding find erase_block erase_element erase_leaf quantified could
token_is_no_call_lem = failed token_or_call (unknown_symbol 7 ∷ []) refl refl

call_is_no_token_lem : No token_or_call (token_symbol 5 ∷ [])
unfolding find erase_block erase_element erase_leaf quantified could
call_is_no_token_lem = failed token_or_call (token_symbol 5 ∷ []) refl refl

set_is_no_token_lem : No two_sets (token_symbol 1 ∷ token_symbol 2 ∷ [])
unfolding find erase_block erase_element erase_leaf quantified could
set_is_no_token_lem = failed two_sets (token_symbol 1 ∷ token_symbol 2 ∷ []) refl refl

recursion_not_alone_lem : No recursive (A ∷ [])
unfolding find erase_block erase_element erase_leaf quantified could
recursion_not_alone_lem = failed recursive (A ∷ []) refl refl

not_called_once_lem : No twice (A ∷ [])
unfolding find erase_block erase_element erase_leaf quantified could
not_called_once_lem = failed twice (A ∷ []) refl refl

block_not_absent_lem : No in_block (C ∷ [])
unfolding find erase_block erase_element erase_leaf quantified could
block_not_absent_lem = failed in_block (C ∷ []) refl refl

silent_nothing_lem : No silent (A ∷ [])
unfolding find erase_block erase_element erase_leaf quantified could
silent_nothing_lem = failed silent (A ∷ []) refl refl

end_not_absent_lem : No (often_end 0) []
unfolding find erase_block erase_element erase_leaf quantified could
end_not_absent_lem = failed (often_end 0) [] refl refl

end_not_twice_lem : No (often_end 0) (END ∷ END ∷ [])
unfolding find erase_block erase_element erase_leaf quantified could
end_not_twice_lem = failed (often_end 0) (END ∷ END ∷ []) refl refl

end_some_not_absent_lem : No (often_end 5) []
unfolding find erase_block erase_element erase_leaf quantified could
end_some_not_absent_lem = failed (often_end 5) [] refl refl

end_is_no_token_lem : No (often_end 0) (token_symbol 0 ∷ [])
unfolding find erase_block erase_element erase_leaf quantified could
end_is_no_token_lem = failed (often_end 0) (token_symbol 0 ∷ []) refl refl

end_is_no_other_lem : No (often_end 0) (other_symbol 0 ∷ [])
unfolding find erase_block erase_element erase_leaf quantified could
end_is_no_other_lem = failed (often_end 0) (other_symbol 0 ∷ []) refl refl

-- The shapes of `s: s`: a tree of one of them has another in it.
data Endless : Shape → Type 0 where
  again : Endless (call_of 3)
  in_front : {s t : Shape} → Endless s → Endless (seq s t)
  either_way : {s t : Shape} → Endless s → Endless t → Endless (alt s t)
  never : Endless fail

endless_body : Endless (body_of endless)
unfolding erase_block erase_element erase_leaf quantified
endless_body = either_way (in_front again) never

endless_found : {b : Shape} → find (erase_rules body_depth endless) 3 ≡ some b → Endless b
unfolding find
endless_found {b} e = subst Endless (some-injective (body_of endless) b e) endless_body

no_end : {s : Shape} {w : Word} → Der (erase_rules body_depth endless) s w → Endless s → ⊥
unfolding find
no_end (d_call e x) again = no_end x (endless_found e)
no_end (d_unknown e) again = none-ne-some _ (sym e)
no_end (d_seq e x y) (in_front i) = no_end x i
no_end (d_left x) (either_way i j) = no_end x i
no_end (d_right x) (either_way i j) = no_end x j
no_end x i = elim i [ ]

endless_nothing_lem : (w : Word) → No endless w
unfolding find
endless_nothing_lem w x = no_end (tree_of endless refl x) endless_body

no_alternative_lem : (w : Word) → No (one []) w
unfolding find erase_block
no_alternative_lem w x = elim (tree_of (one []) refl x) [ ]

pub strings_told_lem : StringsTold
strings_told_lem =
    record {
      once = once;
      optional_absent = optional_absent_lem;
      optional_there = optional_there_lem;
      any_absent = any_absent_lem;
      any_twice = any_twice_lem;
      any_thrice = any_thrice_lem;
      some_once = some_once_lem;
      some_twice = some_twice_lem;
      some_thrice = some_thrice_lem;
      order_kept = order_kept_lem;
      sets_kept = sets_kept_lem;
      token_there = token_there_lem;
      unknown_there = unknown_there_lem;
      left_recursion = left_recursion_lem;
      called_twice = called_twice_lem;
      block_repeated = block_repeated_lem;
      nothing_there = nothing_there_lem;
      end_once = end_once_lem;
      end_absent = end_absent_lem;
      end_any = end_any_lem;
      end_some = end_some_lem;
      ends_alike = ends_alike_lem;
      end_empty = end_empty_lem;
      end_some_empty = end_some_empty_lem;
      not_twice = not_twice_lem;
      not_absent = not_absent_lem;
      optional_not_twice = optional_not_twice_lem;
      nongreedy_not_twice = nongreedy_not_twice_lem;
      any_not_other = any_not_other_lem;
      some_not_absent = some_not_absent_lem;
      nongreedy_not_absent = nongreedy_not_absent_lem;
      order_not_turned = order_not_turned_lem;
      not_one_token = not_one_token_lem;
      sets_not_turned = sets_not_turned_lem;
      not_one_set = not_one_set_lem;
      token_is_no_call = token_is_no_call_lem;
      call_is_no_token = call_is_no_token_lem;
      set_is_no_token = set_is_no_token_lem;
      recursion_not_alone = recursion_not_alone_lem;
      not_called_once = not_called_once_lem;
      block_not_absent = block_not_absent_lem;
      silent_nothing = silent_nothing_lem;
      end_not_absent = end_not_absent_lem;
      end_not_twice = end_not_twice_lem;
      end_some_not_absent = end_some_not_absent_lem;
      end_is_no_token = end_is_no_token_lem;
      end_is_no_other = end_is_no_other_lem;
      endless_nothing = endless_nothing_lem;
      no_alternative = no_alternative_lem;
    }
