use Rattle.ieee.proofs.RootLoop.{Turn}
use Rattle.ieee.proofs.root.root_bits.Given as goal

-- `ieee::root::root_bits`: the digits taken so far. Assumes nothing.
abbrev pub invariant-loop : goal.invariant-loop
invariant-loop l = Turn l.m l.left l.rem l.r l.counter
