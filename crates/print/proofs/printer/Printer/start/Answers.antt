-- `printer::Printer::start`: the kind, a cell, a gap.
use Rattle.std.proofs.Common.{arith}
use Rattle.model.specs.Listing.{cell_text, text}
use Rattle.print.proofs.WroteLaws.{wrote_three}
use Rattle.print.proofs.printer.Printer.start.Goals as goal

pub returns : goal.returns
unfolding cell_text text
returns c = wrote_three c.text.ensures c.cell.ensures 26 c.byte.ensures (omega arith) (omega arith)
