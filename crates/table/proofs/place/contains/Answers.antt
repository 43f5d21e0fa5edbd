use native.Mathlib.Omega.{arith}
use mathlib.Core.Logic.{⊎_elim}
use lib.ListN.{length}
use Rattle.table.proofs.LookLaws.{byte_behind, has_none, seen_has}
use Rattle.table.proofs.place.contains.Goals as goal

-- `place::contains`: a key is there exactly if it stands at its place, and the last key is below one whose place is behind it. Assumes nothing.
pub returns-then-t-eq0 : goal.returns-then-t-eq0
returns-then-t-eq0 c = let s = c.args in λ a. has_none s.k s.t.now c.if-t-eq0.true

pub overflow_sub-i : goal.overflow_sub-i
overflow_sub-i c =
    let s = c.args in
    let n = length s.t.now in
    ⊎_elim (λ w. omega arith) (λ w. omega arith) (byte_behind c.place-at.result n c.place-at.ensures.0)

pub bounds-t-i : goal.bounds-t-i
bounds-t-i c =
    let s = c.args in
    let n = length s.t.now in
    ⊎_elim (λ w. omega arith) (λ w. omega arith) (byte_behind c.place-at.result n c.place-at.ensures.0)

pub returns : goal.returns
returns c =
    let s = c.args in
    λ a. seen_has s.k c.place-at.result s.t.now a (c.place-at.ensures.1 a) (omega arith)
