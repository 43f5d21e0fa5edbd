-- `printer::Printer::blocker`: a minus for none, or a cell (CellLaws.antt).
use Rattle.std.proofs.Common.{arith}
use Rattle.print.proofs.CellLaws.{put_a_blocker, put_no_blocker}
use Rattle.print.proofs.printer.Printer.blocker.Goals as goal

pub returns-then-code-eq0 : goal.returns-then-code-eq0
returns-then-code-eq0 c = let p = c.byte.ensures in record { put = put_no_blocker _ c.if-code-eq0.true p.put; few = omega arith; long = p.long; same = p.same }

pub returns-else-code-eq0 : goal.returns-else-code-eq0
returns-else-code-eq0 c = let p = c.cell.ensures in record { put = put_a_blocker _ c.if-code-eq0.false p.put; few = p.few; long = p.long; same = p.same }
