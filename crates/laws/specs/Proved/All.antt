-- All theorems of Demands.
use Rattle.std.specs.Prelude.{refl, [], ◌∷◌, leb}
use Rattle.std.proofs.Math.Bool.{and-true}
use Rattle.std.proofs.Common.{arith, le-leb}
use Rattle.grammar.specs.Numbers.{most_name}
use Rattle.laws.specs.Demands.Numbers.{NumbersBought}
use Rattle.laws.specs.Demands.Sameness.{same, none}
use Rattle.laws.specs.Demands.Theorems.{Theorems}
use Rattle.laws.specs.Validity.Names.{names_fitted_lem}
use Rattle.laws.specs.Running.Readings.{plan_readings_lem}
use Rattle.laws.specs.Running.Stages.{sheet_none, sheet_last, valid_told, known, sheet_ends}
use Rattle.reference.specs.Analysis.{grammar_of}
use Rattle.reference.specs.Run.{inner_depth}
use Rattle.grammar.specs.Tree.{body_depth}
use Rattle.reference.specs.Substitute.{clause_number}
use Rattle.laws.specs.Lists.Told.{lists_told_lem}
use Rattle.laws.specs.Format.Told.{format_told_lem}
use Rattle.laws.specs.Derivation.Same.{sheet_derives}
use Rattle.laws.specs.Derivation.Strings.{strings_told_lem}
use Rattle.laws.specs.Derivation.Unseen.{precedences_unseen_lem}
use Rattle.laws.specs.Derivation.Counted.{readings_counted_lem}
use Rattle.laws.specs.Derivation.Corners.{sheet_left_corners}
use Rattle.laws.specs.Planning.PlanCycle.{decision}
use Rattle.laws.specs.Planning.Chain.{slots_kept_lem}
use Rattle.laws.specs.Planning.Hub.{hub_told_lem}
use Rattle.laws.specs.Planning.Inlinable.{inlinable_told_lem}
use Rattle.laws.specs.Planning.Turns.{start_told_lem}
use Rattle.laws.specs.Planning.Options.{options_joined_lem}
use Rattle.laws.specs.Planning.Steps.{known_steps}
use Rattle.laws.specs.Planning.Collisions.{labels_told, bindings_told, dangling_told}
use Rattle.laws.specs.Planning.OtherValues.{values_told}
use Rattle.laws.specs.Planning.Lines.{corners_told_lem}
use Rattle.laws.specs.Planning.Declines.{declines_told_lem}
use Rattle.laws.specs.Planning.Rewritable.{rewritable_told_lem}
use Rattle.laws.specs.Planning.Settled.{hub_settled_lem}
use Rattle.laws.specs.Provenance.Recording.{recorded_so_lem}
use Rattle.laws.specs.BothReadings.Readings.{demand3_textbook_lem, demand3_rust_lem}
use Rattle.laws.specs.BothReadings.Later.{later_rust_lem}
use Rattle.laws.specs.BothReadings.SameRun.{outcome_same}
use Rattle.laws.specs.Analysis.End.{empties, end_looked_past}
use Rattle.laws.specs.Analysis.Without.{as_before}
use Rattle.laws.specs.BothReadings.Ends.{end_of_inputs_lem, empty_by_mark_lem}
use Rattle.laws.specs.BothReadings.Without.{outcome_before}
use Rattle.laws.specs.BothReadings.Sheets.{no_more_of_rust_lem, nullable_hub_returns_lem}
use Rattle.laws.specs.Proved.Analysis.{sheet_empty, sheet_corners, textbook_corners_lem, sheet_cycles, origins_told_lem}
use Rattle.laws.specs.Proved.Analysis.{result_reads_back_lem}
use Rattle.laws.specs.Proved.Analysis.{stage_reads_back_lem, other_units}
use Rattle.laws.specs.Proved.Demand3.{enough_turns_lem, demand3, bound, facts_stay_lem, preserved_rules_stay, trail_told_lem}
use Rattle.laws.specs.Proved.Readings.{trees_told_lem, turns_told_lem, joined_told_lem}
use Rattle.laws.specs.Proved.TwoReadings.{two_readings_lem}
use Rattle.laws.specs.Proved.NoOtherReadings.{no_other_readings_lem}
use Rattle.laws.specs.Proved.TooLittle.{too_little_lem}
use Rattle.laws.specs.Proved.Applied.{one_origin_each, removes_all, copies_alike_lem, fresh_ids_lem, rules_as_they_were}
use Rattle.laws.specs.Proved.Answered.{answered}
use Rattle.laws.specs.Proved.Refusals.{stage_room, refused_so_lem}
use Rattle.laws.specs.Proved.Table.{table}
use Rattle.laws.specs.Proved.Conversion.{codec_in_lem, convert_row_lem, convert_reads_lem, convert_apart_lem, convert_length_lem}
use Rattle.laws.specs.Proved.Conversion.{sum_converted_lem, length_tells_lem}
use Rattle.laws.specs.Running.Copied.{calls_copied_lem}
use Rattle.laws.specs.Proved.Kept.{own_result_lem, every_call_lem}
use Rattle.laws.specs.Sameness.Outcomes.{renamed, others_alike}
use Rattle.laws.specs.Sameness.Sorts.{marks_told_lem, marks_shown_lem}

numbers_bought_lem : NumbersBought
unfolding clause_number
numbers_bought_lem =
    record {
      least_sheet = refl;
      most_sheet = refl;
      sheet_words = refl;
      result = refl;
      trail = refl;
      work = refl;
      entries = refl;
      counters = refl;
      rules = refl;
      depth = refl;
      names = refl;
      is_word_named = λ w l. rw (le-leb w most_name (omega arith)) (and-true (leb 1 w));
      alternatives = refl;
      elements = refl;
      options = refl;
      budget = refl;
      unit_lexer = refl;
      unit_parser = refl;
      unit_combined = refl;
      rule_flags = refl;
      alternative_flag = refl;
      quantifier_once = refl;
      quantifier_optional = refl;
      quantifier_optional_nongreedy = refl;
      quantifier_any = refl;
      quantifier_any_nongreedy = refl;
      quantifier_some = refl;
      quantifier_some_nongreedy = refl;
      kind_epsilon = refl;
      kind_action = refl;
      kind_predicate = refl;
      kind_call = refl;
      kind_token = refl;
      kind_terminal = refl;
      kind_block = refl;
      kind_end_of_input = refl;
      kinds = refl;
      reference_attribute = refl;
      reference_qualified = refl;
      reference_non_local = refl;
      trailer = refl;
      entry = refl;
      sort_rule = refl;
      sort_alternative = refl;
      sort_element = refl;
      sort_label = refl;
      sort_action = refl;
      sort_predicate = refl;
      reason_rule = refl;
      reason_block = refl;
      refused_length = refl;
      refused_buffer = refl;
      refused_trailer = refl;
      refused_record = refl;
      refused_shared = refl;
      refused_counter = refl;
      refused_plan = refl;
      refused_ids = refl;
      refused_result = refl;
      clauses = refl;
    }

pub theorems : Theorems
theorems =
    record {
      lists_told = lists_told_lem;
      numbers_bought = numbers_bought_lem;
      format_told = format_told_lem;
      codec_in = codec_in_lem;
      convert_row = convert_row_lem;
      convert_reads = convert_reads_lem;
      convert_apart = convert_apart_lem;
      convert_length = convert_length_lem;
      sum_converted = sum_converted_lem;
      length_tells = length_tells_lem;
      derives_told = sheet_derives;
      strings_told = strings_told_lem;
      precedences_unseen = precedences_unseen_lem;
      readings_counted = readings_counted_lem;
      names_fitted = names_fitted_lem;
      empty_derivation = sheet_empty;
      left_corners_listed = λ c s v. sheet_corners s v c;
      left_corners_told = sheet_left_corners;
      textbook_corners = textbook_corners_lem;
      cycles_listed = λ c s v. sheet_cycles s v c;
      end_skipped = end_looked_past;
      empty_is_empty = empties;
      end_of_inputs = end_of_inputs_lem;
      empty_by_mark = empty_by_mark_lem;
      without_end = as_before;
      outcome_without_end = outcome_before;
      sheet_left = λ s. record { none = sheet_none s; last = sheet_last s };
      demand3 = λ limits c s ts r. demand3 limits c s (valid_told s r.0) ts r.1;
      trees_told = trees_told_lem;
      turns_told = turns_told_lem;
      joined_told = λ before t after p. joined_told_lem p.trees;
      plan_readings = λ limits c s ts r front t rest w.
          plan_readings_lem ((demand3 limits c s (valid_told s r.0) ts r.1).told_between front (t ∷ []) rest w);
      two_readings = two_readings_lem;
      no_other_readings = no_other_readings_lem;
      too_little = too_little_lem;
      demand3_textbook = λ limits s ts r. demand3_textbook_lem limits s (valid_told s r.0) ts r.1;
      demand3_rust = λ limits s ts r. demand3_rust_lem limits s (valid_told s r.0) ts r.1;
      later_rust = λ limits s ts r. later_rust_lem limits s (valid_told s r.0) ts r.1;
      no_more_of_rust = no_more_of_rust_lem;
      same_outcome = outcome_same;
      nullable_hub_returns = nullable_hub_returns_lem;
      bound = λ limits c s ts r. bound limits c s (valid_told s r.0) ts r.1;
      enough_turns = λ limits c s v. enough_turns_lem limits c s (valid_told s v);
      decisions = λ limits c d rs g preserved cycle. decision c d rs g preserved cycle limits;
      hub_told = λ s v cycle. hub_told_lem (grammar_of body_depth s.rules) cycle inner_depth s.rules s.preserved (valid_told s v).ids;
      preserved_stay = λ limits c s ts r. preserved_rules_stay limits c s (valid_told s r.0) ts r.1;
      inlinable_told = inlinable_told_lem;
      start_told = start_told_lem;
      step_told = λ d rs cycle hub. known_steps d rs cycle hub;
      options_joined = options_joined_lem;
      collisions_told = λ d.
          record {
            labels = labels_told d;
            bindings = bindings_told d;
            dangling = dangling_told d;
            options = values_told;
          };
      corners_told = λ d g cycle hub es. corners_told_lem g cycle hub es;
      declines_told = λ s v cycle hub.
          let k = known s.rules (valid_told s v) in
          declines_told_lem (grammar_of body_depth s.rules) cycle hub inner_depth s.rules k.ids k.named;
      rewritable_told = λ c s v. rewritable_told_lem c s.rules (known s.rules (valid_told s v));
      hub_settled = hub_settled_lem;
      origins_told = λ limits c s ts f r. origins_told_lem s r.0 f limits c ts r.1;
      one_origin = λ limits c s ts f r. one_origin_each limits c s r.0 ts r.1 f;
      recorded_so = recorded_so_lem;
      trail_told = λ limits c s ts r. trail_told_lem limits c s (valid_told s r.0) ts r.1;
      slots_kept = slots_kept_lem;
      copies_alike = λ limits c s ts r. copies_alike_lem limits c s r.0 ts r.1;
      fresh_ids = λ limits c s ts f r. fresh_ids_lem limits c s r.0 ts r.1 f;
      removes_most = λ limits c s ts r. removes_all limits c s r.0 ts r.1;
      calls_copied = λ limits c s ts r. calls_copied_lem limits c s ts r.1;
      rules_stay = λ limits c s ts r. rules_as_they_were limits c s r.0 ts r.1;
      facts_stay = λ limits c s ts r. facts_stay_lem limits c s (valid_told s r.0) ts r.1;
      comes_back = other_units;
      result_reads_back = λ limits c s ts f r. result_reads_back_lem s r.0 f limits c ts r.1;
      stage_reads_back = λ limits c s ts f r. stage_reads_back_lem s r.0 f limits c ts r.1;
      answered = answered;
      stages_have_room = λ limits c s ts r. stage_room limits c s (valid_told s r.0) (sheet_ends limits c s ts r.1).0;
      refused_so = refused_so_lem;
      table = table;
      every_call = every_call_lem;
      own_result = own_result_lem;
      renamed = renamed;
      carried_apart = λ limits c result trail work. others_alike limits c result trail work none same;
      precedences_apart = λ limits c result trail work. others_alike limits c result trail work same none;
      marks_told = marks_told_lem;
      marks_shown = marks_shown_lem;
    }
