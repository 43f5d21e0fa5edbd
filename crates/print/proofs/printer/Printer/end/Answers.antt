-- `printer::Printer::end`: a gap, a blocker, the end of the line.
use Rattle.std.proofs.Common.{arith}
use Rattle.model.specs.Listing.{text}
use Rattle.print.proofs.WroteLaws.{wrote_three}
use Rattle.print.proofs.printer.Printer.end.Goals as goal

pub returns : goal.returns
unfolding text
returns c = wrote_three c.byte.ensures c.blocker.ensures 25 c.byte-2.ensures (omega arith) (omega arith)
