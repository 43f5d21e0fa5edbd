use Prim.Native.Nat.{zero-le}
use native.Mathlib.Nat.{le_of_eq}
use mathlib.Core.Path.{sym, ◌∙◌, refl}
use Rattle.corner.specs.Corners.{bit_if}
use Rattle.corner.proofs.status.bit_if.Goals as goal
use Rattle.corner.proofs.status.bit_if.Goals.{then-contains-via-then-contains, then-contains-via-else-contains+then-contains-2, then-contains-via-else-contains+else-contains-2+then-contains-3}

-- `status::bit_if`: three questions, one after another. Assumes nothing.
pub returns-then-contains : goal.returns-then-contains
unfolding bit_if
returns-then-contains c = (
  λ h.
      let first = sym (c.contains.ensures h) in
      elim c.then-contains.branch [
        | then-contains-via-then-contains w ↦ rw (first ∙ w.if-contains.true) refl
        | then-contains-via-else-contains+then-contains-2 w ↦ rw (first ∙ w.if-contains.false, sym (w.contains-else-contains.ensures h) ∙ w.if-contains-2.true) refl
        | then-contains-via-else-contains+else-contains-2+then-contains-3 w ↦
            rw (first ∙ w.if-contains.false, sym (w.contains-else-contains.ensures h) ∙ w.if-contains-2.false, sym (w.contains-else-contains-2.ensures h) ∙ w.if-contains-3.true) refl
      ],
  zero-le,
)

pub returns : goal.returns
unfolding bit_if
returns c = (
  λ h.
      rw (sym (c.contains.ensures h) ∙ c.if-contains.false, sym (c.contains-else-contains.ensures h) ∙ c.if-contains-2.false, sym (c.contains-else-contains-2.ensures h) ∙ c.if-contains-3.false) c.bit.ensures,
  le_of_eq c.bit.ensures,
)
