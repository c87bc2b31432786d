-- Document 01's starred plates come out as specs/Plates.antt states them.
use Rattle.std.specs.Prelude.{◌≡◌, refl, true}
use Rattle.std.specs.Float.Ieee.{to_bits, of_bits, of_int, add, sub, mul, div, round, neg, lt, le, is_nan, size}
use Rattle.float.specs.Helpers.{absolute, lesser, greater, is_finite, round_away, clamp_unit}
use Rattle.float.specs.Root.{root}
use Rattle.geometry.specs.Measures.{side_length, area_sum, signed_area, sharp_at, length_sum, front_length, quad_area, corner_value, corner_passes, corners_pass, least_corner}
use Rattle.geometry.specs.Domain.{rings, sum_of, holes_area, domain_area}
use Rattle.state.specs.State.{joined, numbered, written, quads_of, cut, reading}
use Rattle.state.specs.Outcome.{first_true}
use Rattle.state.specs.Coordinates.{wrong_coordinate}
use Rattle.state.specs.Given.{some, member, repeated, wrong_counts, wrong_values, wrong_state}
use Rattle.state.specs.Call.{job_left, state_left, on_state}
use Rattle.input.specs.Job.{wrong_lengths, wrong_shape, wrong_size, wrong_options, input_number}
use Rattle.input.specs.Limit.{default_limit}
use Rattle.planning.specs.Ring.{close, kept, unclosed, turned, loop_ring}
use Rattle.planning.specs.Plan.{margin, span, inner, inner_sum, longest, total, planned, parts}
use Rattle.placing.specs.Placed.{inner_point, inner_points, placed}
use Rattle.placing.specs.Loop.{sample_loop}
use Rattle.sampling.specs.Sample.{with_loop, sample_from, sampled, on_job, sample_call}
use Rattle.rules.specs.Projecting.{project}
use Rattle.rules.specs.Checks.{every, quad_passes, new_points, row_quads}
use Rattle.rules.specs.Row.{rest_stands, row_stands, row_number, committed, next_row}
use Rattle.rules.specs.Passes.{inserted, ordered, pass_order, rows_in_order, one_pass, some_passes}
use Rattle.rules.specs.Closing.{turned_quad, least_of, close_four, first_half, second_half, best_split, closure, kept_fronts, closed, closings}
use Rattle.rules.specs.Calls.{and_then, paved, job_call, close_call}
use Rattle.rules.specs.Plates.{rows, all_agree, same_list, bits, counted, nonzero, behind, everything, second_node}

pub plates_agree : all_agree rows ≡ true
unfolding all_agree same_list bits counted nonzero behind everything second_node to_bits of_bits of_int add sub mul div round neg lt le is_nan size absolute lesser greater is_finite round_away clamp_unit root side_length area_sum signed_area sharp_at length_sum front_length quad_area corner_value corner_passes corners_pass least_corner rings sum_of holes_area domain_area joined first_true wrong_lengths wrong_shape wrong_size wrong_options wrong_coordinate input_number default_limit some member repeated wrong_counts wrong_values wrong_state quads_of cut reading written job_left state_left on_state close kept unclosed turned loop_ring margin span inner inner_sum longest total planned parts inner_point inner_points placed sample_loop numbered with_loop sample_from sampled on_job sample_call project every quad_passes new_points row_quads rest_stands row_stands row_number committed next_row inserted ordered pass_order rows_in_order one_pass some_passes turned_quad least_of close_four first_half second_half best_split closure kept_fronts closed closings and_then paved job_call close_call
plates_agree = refl
