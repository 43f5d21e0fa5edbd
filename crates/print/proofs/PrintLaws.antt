-- With room a text is printed, without none is. Assumes nothing.
use Prim.Native.Nat.{ℕ, ◌+◌, ◌*◌, ◌≤◌}
use mathlib.Core.Path.{◌≡◌, refl}
use mathlib.Core.Bool.{Bool, true, false, not, true≢false, ◌&&◌}
use mathlib.Core.List.{List}
use lib.Dec.{leb}
use lib.ListN.{length}
use borrow.Author.Tests.{le-leb, leb-true}
use Rattle.ieee.proofs.Tools.{not_both}
use Rattle.print.specs.Printed.{Put, Printed, lines_fit}
use Rattle.model.specs.Limits.{line_room}

module _ {roomy : Bool} {room at r : ℕ} {s t t' : List ℕ} where
  pub printed_done : roomy ≡ true → Put s at r t t' → length s ≤ room → Printed roomy room s at r t t'
  printed_done e p h = record { done = λ q. (p, h); lacking = λ q. not_both e q }

-- ---- room for lines
none_fails : (x y z : Bool) → not (x && y && z) ≡ false → (x ≡ true) × (y ≡ true) × (z ≡ true)
none_fails true true true e = (refl, refl, refl)
none_fails true true false e = absurd (true≢false e)
none_fails true false z e = absurd (true≢false e)
none_fails false y z e = absurd (true≢false e)

module _ (n second third at bytes : ℕ) where
  pub fit : not (lines_fit n second third at bytes) ≡ false → (n ≤ second) × (n ≤ third) × (at + line_room * n ≤ bytes)
  fit e =
      let p = none_fails (leb n second) (leb n third) (leb (at + line_room * n) bytes) e in
      (leb-true n second p.0, leb-true n third p.1, leb-true (at + line_room * n) bytes p.2)

  pub fits : n ≤ second → n ≤ third → at + line_room * n ≤ bytes → lines_fit n second third at bytes ≡ true
  fits h k l = rw (le-leb n second h, le-leb n third k, le-leb (at + line_room * n) bytes l)
