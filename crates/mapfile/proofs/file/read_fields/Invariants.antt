-- `file::read_fields`: what is left to read, and what was read (FileLaws.antt).
use Rattle.std.proofs.Common.{length}
use Rattle.held.specs.Lent.{Same, lists_of}
use Rattle.mapfile.proofs.FileLaws.{ReadTo}
use Rattle.mapfile.proofs.file.read_fields.Given as goal

abbrev pub invariant-loop-next : goal.invariant-loop-next
invariant-loop-next l = record {
  read : ReadTo l.bytes l.rest (lists_of l.fn.tables) (lists_of l.tables) l.reader;
  same : Same l.fn.tables l.tables;
}

abbrev pub decreases-loop-next : goal.decreases-loop-next
decreases-loop-next l = length l.rest
