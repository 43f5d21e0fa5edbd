-- `line::put_lines`: line by line (RowLaws.antt).
use Rattle.std.proofs.Common.{◌≡◌}
use Rattle.print.proofs.RowLaws.{Writing}
use Rattle.print.proofs.line.put_lines.Given as goal

abbrev pub invariant-loop-i : goal.invariant-loop-i
invariant-loop-i g l =
    Writing g.L.Line.line l.first l.second l.third l.fn.out l.printer.out.now l.at l.printer.at l.i
    × (l.printer.out.ghost_name ≡ l.initial.printer.out.ghost_name)
