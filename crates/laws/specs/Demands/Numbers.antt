-- The numbers that are bought (SPECIFICATION 2.2 to 2.15, 2.19, 3.1, 4, 8.10, 10 and 12): those that the definition names are
-- these. Format says where they stand in a sheet.
use Rattle.std.specs.Prelude.{ℕ, ◌<◌, ◌≡◌, List, [], ◌∷◌, map, leb}
use Rattle.grammar.specs.Numbers.{least_bytes, most_bytes, most_words, result_bytes, trail_bytes, work_bytes, most_name, rule_limit, lexer}
use Rattle.grammar.specs.Numbers.{parser}
use Rattle.grammar.specs.Numbers.{combined, most_rule_flags, most_alternative_flag, once, optional_greedy, optional_nongreedy}
use Rattle.grammar.specs.Numbers.{zero_or_more_greedy}
use Rattle.grammar.specs.Numbers.{zero_or_more_nongreedy, one_or_more_greedy, one_or_more_nongreedy, epsilon_kind, action_kind}
use Rattle.grammar.specs.Numbers.{predicate_kind}
use Rattle.grammar.specs.Numbers.{call_kind, token_kind, terminal_kind, block_kind, end_kind, kind_end, attribute, qualified, non_local}
use Rattle.grammar.specs.Numbers.{rule_sort}
use Rattle.grammar.specs.Numbers.{alternative_sort, element_sort, label_sort, action_sort, predicate_sort, trailer_words, bad_length}
use Rattle.grammar.specs.Numbers.{short_buffer}
use Rattle.grammar.specs.Numbers.{bad_trailer, bad_record, shared_number, id_past_counter, plan_too_large, counter_past_end}
use Rattle.grammar.specs.Numbers.{result_too_long, word_end}
use Rattle.grammar.specs.Read.{is_name}
use Rattle.grammar.specs.Tree.{inner_depth}
use Rattle.reference.specs.Numbers.{most_entries, counter_end, entry_words, rule_boundary, block_boundary}
use Rattle.reference.specs.Substitute as Substitute
use Rattle.reference.specs.Substitute.{standard, Clause, clause_number, no_hub, hub_with_arguments, satellite_not_inlinable}
use Rattle.reference.specs.Substitute.{dangling_reference, blocked_corner, label_collision, binding_collision, option_collision, no_steps}
use Rattle.reference.specs.Substitute.{not_directly_rewritable}

-- The clauses in the order of 10.
abbrev pub all_clauses : List Clause
all_clauses =
    no_hub
    ∷ hub_with_arguments
    ∷ satellite_not_inlinable
    ∷ Substitute.budget
    ∷ dangling_reference
    ∷ blocked_corner
    ∷ label_collision
    ∷ binding_collision
    ∷ option_collision
    ∷ no_steps
    ∷ not_directly_rewritable
    ∷ []

pub record NumbersBought : Type 0 where
  -- Bytes and words of a sheet, bytes of the buffers lent, entries of a trail, and where a counter ends.
  pub least_sheet : least_bytes ≡ 32
  pub most_sheet : most_bytes ≡ 32768
  pub sheet_words : most_words ≡ 8192
  pub result : result_bytes ≡ 32768
  pub trail : trail_bytes ≡ 65536
  pub work : work_bytes ≡ 65536
  pub entries : most_entries ≡ 4096
  pub counters : counter_end ≡ 4294967296
  -- Rules of a sheet, blocks one inside the other, and the last name.
  pub rules : rule_limit ≡ 128
  pub depth : inner_depth ≡ 8
  pub names : most_name ≡ 4294967295
  -- So every word but 0 is a name.
  pub is_word_named : (w : ℕ) → w < word_end → is_name w ≡ leb 1 w
  -- The limits of a planned list in a call, and the least budget.
  pub alternatives : standard.alternatives ≡ 1024
  pub elements : standard.elements ≡ 8192
  pub options : standard.options ≡ 2048
  pub budget : standard.budget_floor ≡ 64
  -- Kinds of unit; the largest flags of a rule and flag of an alternative (2.3, 2.8, 2.9).
  pub unit_lexer : lexer ≡ 1
  pub unit_parser : parser ≡ 2
  pub unit_combined : combined ≡ 3
  pub rule_flags : most_rule_flags ≡ 3
  pub alternative_flag : most_alternative_flag ≡ 1
  -- Quantifiers, kinds of element and the number that parts the two in their word, kinds of reference (2.10 to 2.14).
  pub quantifier_once : once ≡ 0
  pub quantifier_optional : optional_greedy ≡ 1
  pub quantifier_optional_nongreedy : optional_nongreedy ≡ 2
  pub quantifier_any : zero_or_more_greedy ≡ 3
  pub quantifier_any_nongreedy : zero_or_more_nongreedy ≡ 4
  pub quantifier_some : one_or_more_greedy ≡ 5
  pub quantifier_some_nongreedy : one_or_more_nongreedy ≡ 6
  pub kind_epsilon : epsilon_kind ≡ 0
  pub kind_action : action_kind ≡ 1
  pub kind_predicate : predicate_kind ≡ 2
  pub kind_call : call_kind ≡ 3
  pub kind_token : token_kind ≡ 4
  pub kind_terminal : terminal_kind ≡ 5
  pub kind_block : block_kind ≡ 6
  pub kind_end_of_input : end_kind ≡ 7
  pub kinds : kind_end ≡ 256
  pub reference_attribute : attribute ≡ 0
  pub reference_qualified : qualified ≡ 1
  pub reference_non_local : non_local ≡ 2
  -- Words of the trailer and of an entry of the trail; the kinds and the reasons of an entry (2.2, 12.1 to 12.3).
  pub trailer : trailer_words ≡ 8
  pub entry : entry_words ≡ 4
  pub sort_rule : rule_sort ≡ 1
  pub sort_alternative : alternative_sort ≡ 2
  pub sort_element : element_sort ≡ 3
  pub sort_label : label_sort ≡ 4
  pub sort_action : action_sort ≡ 5
  pub sort_predicate : predicate_sort ≡ 6
  pub reason_rule : rule_boundary ≡ 1
  pub reason_block : block_boundary ≡ 2
  -- Refusals and clauses (4 and 10).
  pub refused_length : bad_length ≡ 1
  pub refused_buffer : short_buffer ≡ 2
  pub refused_trailer : bad_trailer ≡ 3
  pub refused_record : bad_record ≡ 4
  pub refused_shared : shared_number ≡ 5
  pub refused_counter : id_past_counter ≡ 6
  pub refused_plan : plan_too_large ≡ 7
  pub refused_ids : counter_past_end ≡ 8
  pub refused_result : result_too_long ≡ 9
  pub clauses : map clause_number all_clauses ≡ 1 ∷ 2 ∷ 3 ∷ 4 ∷ 5 ∷ 6 ∷ 7 ∷ 8 ∷ 9 ∷ 10 ∷ 11 ∷ []
