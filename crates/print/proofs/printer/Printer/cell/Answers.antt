-- `printer::Printer::cell`: x, what is between, y.
use Rattle.std.proofs.Common.{arith}
use Rattle.print.proofs.WroteLaws.{wrote_three}
use Rattle.print.proofs.printer.Printer.cell.Goals as goal

pub returns : goal.returns
returns c = wrote_three c.coordinate.ensures c.byte.ensures 23 c.coordinate-2.ensures (omega arith) (omega arith)
