-- The worked examples (RULES 9.2), computed. Assumes nothing.
use Prim.Native.Nat.{ℕ, suc}
use mathlib.Core.Path.{◌≡◌, refl}
use lib.Dec.{leb-suc-suc}
use lib.IntN.{ℤ, pos, negsuc}
use lib.Signed.{le_z, lt_z}
use lib.Ieee.{add, sub, mul, div, lt, le, eq, neg, of_int, of_bits}
use Rattle.ieee.specs.Pick.{abs_f, min_f, max_f}
use Rattle.ieee.specs.Root.{root_f}
use Rattle.ieee.specs.Whole.{floor_z, ceil_z}
use Rattle.ieee.specs.Yard.{centre_f, shift_f}
use Rattle.model.specs.Maps.{get, put, del, map_v, keys, sift, has, add as insert, cut, find}
use Rattle.model.specs.Cell.{x_of, y_of, key, within}
use Rattle.model.specs.Corner.{number, same_bits, corner, status_of, quadrant, sees, corners_among}
use Rattle.model.specs.Batch.{cells_after, confirmed, met, altered, corner_changes}
use Rattle.model.specs.Plane.{plus, minus, times, over, dot, norm, turned, tiny, bound, root2, cell_of, centre, low_corner}
use Rattle.model.specs.Segment.{vertical_at, horizontal_at, distance, near_corners, between, meets, passes_near}
use Rattle.model.specs.Shape.{point_test, low_end, high_end, in_box, square_test, point_inside, line_inside, in_circle, circle_test, strip_of, leftmost, rightmost, ends_in, sides_at, search, row_in, in_column, in_strip, sweep_test}
use Rattle.model.specs.Layer.{line, edge, tie, untie, link, hide, erase, marks, raise, lower, mark, mark_all, phase2, wanted, connect, phase3, edge_run, settle_row, settle_all, phase4, update, pairs_from, pairs}
use Rattle.model.specs.Map.{to_batch, shift_of, tests, changed, rebuilt, next}
use Rattle.model.specs.Refusal.{is_due, first_due, verdict, short, bad_size, bad_radius, unsorted, outside, bad_number, bad_question, refuse_open, refuse_asking, judge, refusal, step, run, refusals, opened}
use Rattle.model.specs.Answers.{changed_corners, free_points, from_point, from_elsewhere, visible_from, neighbours, corners, points, all_pairs, is_open, open_pairs}
use Rattle.model.specs.Blocks.{adjacent, touches, union, join_cell, blocks_of, block_count}
use Rattle.model.specs.MapFile.{big_endian, entries, bad_flag, take_size, take_radius, take_batch, sized, one_field, read_on, read_file}
use Rattle.model.specs.Listing.{text, digits, cell_text, point_lines, pair_lines, summary, refused_line, listing}
use Rattle.model.specs.Borders.{near, near_test, bits, joins, borders, judged, orders, answers, counts, six_points, filled, leaving, both_ends, through, hiding, blocking, updates, head, heads, gives, files, AllNamed}
use Rattle.model.specs.Examples.{num, pt, at, after, set_radius, point_status, point_block, pair_block, flat, lies, two_cells, one_freed, table, Each, circle?, ten, ten_again, others, worked_file, worked_listing}

-- what is to be computed, said once: whoever unfolds this unfolds all of it
unfoldable pub everything : Unit {0}
unfolding near near_test bits joins borders judged orders bad_number bad_question refuse_asking answers counts six_points filled leaving both_ends through hiding blocking updates head heads gives files from_point from_elsewhere free_points visible_from neighbours num pt at after point_status flat lies two_cells one_freed add sub mul div lt le eq neg of_int of_bits abs_f min_f max_f root_f floor_z ceil_z centre_f shift_f get put del map_v keys sift has insert cut find key within number same_bits corner status_of quadrant sees corners_among cells_after confirmed met altered corner_changes plus minus times over dot norm turned tiny bound root2 cell_of centre low_corner vertical_at horizontal_at distance near_corners between meets passes_near point_test low_end high_end in_box square_test strip_of leftmost rightmost ends_in sides_at search row_in in_column in_strip sweep_test line edge tie untie link hide erase marks raise lower mark mark_all phase2 wanted connect phase3 edge_run settle_row settle_all phase4 update to_batch shift_of tests changed rebuilt next is_due first_due verdict short bad_size bad_radius unsorted outside refuse_open judge refusal step run opened changed_corners others point_block pair_block circle? ten ten_again set_radius point_inside line_inside in_circle circle_test listing worked_file worked_listing text digits cell_text point_lines pair_lines summary refused_line big_endian entries bad_flag take_size take_radius take_batch sized one_field read_on read_file adjacent touches union join_cell blocks_of block_count corners points all_pairs is_open open_pairs pairs_from pairs refusals
everything = tt

-- below n + 1 is at most n
below : (z : ℤ) (n : ℕ) → lt_z z (pos (suc n)) ≡ le_z z (pos n)
below (pos a) n = leb-suc-suc a n
below (negsuc a) n = refl

-- The examples marked P hold of the definitions, together.
pub examples : Each table
unfolding everything
examples = (tt, (tt, (tt, (tt, (tt, (tt, (tt, ((λ k. rw (← below (x_of k) 0, ← below (y_of k) 0) refl, λ k. rw (← below (x_of k) 1, ← below (y_of k) 1) refl), (tt, tt)))))))))

-- The tests, limits and blocks are right where a wrong definition would still look right.
pub borders_hold : AllNamed borders
unfolding everything
borders_hold = (tt, (tt, (tt, (tt, (tt, (tt, (tt, (tt, (tt, (tt, (tt, tt)))))))))))

-- Refusals come in the order of RULES 4.2.
pub orders_hold : AllNamed orders
unfolding everything
orders_hold = (tt, (tt, (tt, (tt, (tt, (tt, (tt, (tt, tt))))))))

-- The listing's counts are right, too.
pub counts_hold : AllNamed counts
unfolding everything
counts_hold = (tt, tt)

-- Pairs come, go and come back with the bits that hide them, the cells that block them and the radius.
pub updates_hold : AllNamed updates
unfolding everything
updates_hold = (tt, (tt, tt))
