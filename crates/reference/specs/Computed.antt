-- The definition as something that computes: `unfolding computed` opens all of it.
use Rattle.std.specs.Prelude.{List, ℕ}
use Rattle.grammar.specs.Lists
use Rattle.grammar.specs.Words
use Rattle.grammar.specs.Encode
use Rattle.grammar.specs.Read
use Rattle.grammar.specs.Ids
use Rattle.grammar.specs.Valid
use Rattle.grammar.specs.Reading
use Rattle.reference.specs.Walks
use Rattle.reference.specs.Analysis
use Rattle.reference.specs.Substitute
use Rattle.reference.specs.Plan
use Rattle.reference.specs.Apply
use Rattle.reference.specs.Run
use Rattle.grammar.specs.Words.{bytes}
use Rattle.grammar.specs.Corners.{Corners}
use Rattle.reference.specs.Substitute.{standard}
use Rattle.reference.specs.Run.{Answer, answer_to}

-- The answer to a sheet's words.
unfoldable pub computed : Corners → List ℕ → Answer
unfolding Lists.member Lists.distinct Lists.below Lists.any Lists.keep Lists.first Lists.total Lists.meet Lists.insert Lists.sorted
    Lists.rounds Lists.all Lists.rising
    Words.words Words.bytes
    Encode.encode_head Encode.leaf_kind Encode.encode_leaf_in Encode.encode_element_in Encode.encode_alternative_in Encode.encode_rule
    Encode.encode_block_in Encode.encode_in
    Read.option_at Read.reference_at Read.body_at Read.call_at_in Read.token_at Read.leaf_at_in Read.is_head Read.head_at Read.payload_at_in
    Read.element_at_in Read.alternative_at_in Read.rule_at_in Read.block_at_in Read.rules_at_in
    Ids.label_ids Ids.head_ids Ids.leaf_ids Ids.element_ids Ids.alternative_ids Ids.block_ids Ids.is_distinct Ids.is_below
    Valid.ok_label Valid.ok_head Valid.ok_leaf_in Valid.ok_element_in Valid.ok_alternative_in Valid.ok_rule Valid.ok_block_in
    Valid.ok_rules_in Valid.valid_in Valid.fits_in
    Reading.is_trailer Reading.preserved_ids Reading.counters_of Reading.rules_of_in Reading.sheet_of Reading.judge Reading.read_words_in
    Reading.read_in
    Walks.sort_of Walks.is_end Walks.is_epsilon_only Walks.bare_reference Walks.element_gives Walks.block_gives Walks.elements_give
    Walks.leaf_names
    Walks.references
    Analysis.names_of Analysis.rule_with_id Analysis.target Analysis.calls Analysis.collect_calls_in_elements Analysis.collect_calls_into
    Analysis.leaf_nullable Analysis.element_nullable Analysis.block_is_nullable Analysis.nullable_round Analysis.nullable_rules
    Analysis.grammar_of Analysis.is_stop Analysis.collect_left_corner_calls Analysis.block_corners Analysis.left_corners Analysis.lead_from
    Analysis.reach_round Analysis.reach_from Analysis.reach Analysis.component Analysis.is_cycle Analysis.cycles_from
    Analysis.left_corner_cycles
    Substitute.decide_each Substitute.further Substitute.member_corner Substitute.planned_corner Substitute.plain Substitute.split_optional
    Substitute.add_option Substitute.union_options Substitute.remaining_actions_reference Substitute.collect_labels
    Substitute.action_reference_names Substitute.bindable_names Substitute.labels_collide Substitute.implicit_bindings_collide
    Substitute.splice_alternative Substitute.splice_satellite Substitute.is_within Substitute.substitution_budget Substitute.replacement
    Substitute.step Substitute.substitute Substitute.clause_number
    Plan.called_corner Plan.classify_corner Plan.corner_enters_cycle Plan.externally_referenced Plan.is_candidate Plan.choose_hub
    Plan.satellite_has_embedded_semantics Plan.satellite_is_inlinable Plan.hub_call Plan.is_hub_call Plan.gives_hub_arguments
    Plan.starts_with_hub_call Plan.is_recursive Plan.is_primary Plan.is_fit Plan.planned_hub_is_directly_rewritable Plan.calls_kept
    Plan.removable_round Plan.removable_satellites Plan.as_they_are Plan.plan_cycle
    Apply.fresh_each Apply.renumber_label Apply.renumber_head Apply.renumber_leaf Apply.renumber_element Apply.renumber_elements
    Apply.renumber_alternative Apply.renumber_block Apply.apply_alternative Apply.with_body Apply.apply_plan Apply.origins Apply.add_origins
    Apply.record_model Apply.record_clone Apply.recorded Apply.provenance
    Run.search_cycles Run.find_plan Run.are_words Run.is_short Run.refusal_of Run.eliminate_in_unit Run.eliminate_mutual_left_recursion
    Run.sheet_after Run.steps_of Run.encode_entry Run.entries_of Run.answer_run Run.answer_reading Run.answer_to Run.filled Run.are_lent
    Run.untouched Run.delivered Run.outcome
computed corners ws = answer_to standard corners (bytes ws)
