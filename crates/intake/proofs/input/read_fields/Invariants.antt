-- `input::read_fields`: the tables are the caller's, the window lies in the buffer, and what was read so far is the run (GoingLaws.antt).
use Rattle.std.proofs.Common.{◌≡◌, length}
use Rattle.held.specs.Lent.{Same, lists_of}
use Rattle.window.specs.Refilled.{Within, bytes_of}
use Rattle.intake.proofs.GoingLaws.{Going}
use Rattle.intake.proofs.input.read_fields.Given as goal

abbrev pub invariant-loop-window : goal.invariant-loop-window
invariant-loop-window g l = record {
  long : length l.buffer ≡ length l.fn.buffer;
  same : Same l.fn.tables l.tables;
  within : Within l.window l.buffer;
  going : Going (length l.fn.buffer) (lists_of l.fn.tables) l.reader (lists_of l.tables) (bytes_of l.window l.buffer) l.window.ended l.room;
}

abbrev pub decreases-loop-window : goal.decreases-loop-window
decreases-loop-window g l = l.room
