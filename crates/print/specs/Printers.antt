-- Between functions: what a printer, a lent buffer and the place after the last byte that was written, writes there. Definitions only.
use Rattle.std.specs.Prelude.{ℕ, ◌+◌, ◌≤◌, ◌≡◌, List, length}
use Rattle.print.specs.Printed.{Put}
use Rattle.print.specs.declared.printer.Printer.{Printer}

-- the printer p wrote s, of at most so many bytes, and is p' then: of the same buffer
pub record Wrote (s : List ℕ) (most : ℕ) (p p' : Printer) : Type 0 where
  pub put : Put s p.at p'.at p.out.now p'.out.now
  pub few : p'.at ≤ p.at + most
  pub long : length p'.out.now ≡ length p.out.now
  pub same : p'.out.ghost_name ≡ p.out.ghost_name
