-- `value::numbers_of`: the first i entries are written (NumberLaws.antt).
use Rattle.std.proofs.Common.{◌*◌}
use Rattle.mapfile.proofs.NumberLaws.{Writing}
use Rattle.mapfile.proofs.value.numbers_of.Given as goal

abbrev pub invariant-loop-i : goal.invariant-loop-i
invariant-loop-i l = Writing l.value l.initial.out l.out (9 * l.i) (3 * l.i)
