-- `input::fill`: a read from `end` on leaves what comes before it.
use Rattle.std.proofs.Common.{◌≡◌, ◌-◌, ◌≤◌, length, take}
use Rattle.window.proofs.input.fill.Given as goal

abbrev pub invariant-loop-end : goal.invariant-loop-end
invariant-loop-end g l =
    (l.have ≤ l.end) × (l.end ≤ length l.buffer) × (take l.have l.buffer ≡ take l.have l.fn.buffer)

abbrev pub decreases-loop-end : goal.decreases-loop-end
decreases-loop-end g l = length l.initial.buffer - l.end
