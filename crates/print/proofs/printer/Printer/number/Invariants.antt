-- `printer::Printer::number`: the digits from place i on are put, those of `rest` are to come (NumberLaws.antt).
use Rattle.std.proofs.Common.{◌≡◌}
use Rattle.print.proofs.NumberLaws.{Numbering}
use Rattle.print.proofs.printer.Printer.number.Given as goal

abbrev pub invariant-loop-i : goal.invariant-loop-i
invariant-loop-i l =
    Numbering l.n l.initial.self.at l.end l.initial.self.out.now l.self.out.now l.i l.rest × (l.self.out.ghost_name ≡ l.initial.self.out.ghost_name)
