use Prim.Native.Nat.{◌<◌}
use mathlib.Core.Path.{◌≡◌, refl, sym, ◌∙◌}
use lib.ListN.{length}
use borrow.Author.Rules.{rules}
use Rattle.std.specs.Slice.Iter.{chunks_exact_rest}
use Rattle.model.specs.Limits.{max_coordinate}
use Rattle.model.specs.Refusal.{off_map}
use Rattle.limits.proofs.EntryLaws.{item, outside_next, outside_end}
use Rattle.limits.proofs.judge.outside.Goals as goal
use Rattle.limits.proofs.judge.outside.Goals.{then-off_map-via-then-off_map, then-off_map-via-else-off_map+then-off_map-2}

pub loop-entry-init : goal.loop-entry-init
loop-entry-init c =
    let i = c.into_iter-entry-iterator.ensures.into_iter_gives in
    let e = c.chunks_exact-entry-items.ensures in
    rw i (e.size, rw e.rest refl)

pub returns-then-off_map : goal.returns-then-off_map
returns-then-off_map c =
    let s = c.in-Some.ensures.steps in
    let l = chunks_exact_rest c.loop-entry.entry-iterator in
    let x = c.in-Some.entry.now in
    let first : c.off_map.result ≡ off_map max_coordinate (item x 0) = search rules in
    elim c.then-off_map.branch [
      | then-off_map-via-then-off_map w ↦
          sym (c.loop-entry.invariant.1 ∙ outside_next l x _ c.off_map.result (off_map max_coordinate (item x 1)) s.1.0 (s.1.1 ∙ c.loop-entry.invariant.0) first refl ∙ rw w.if-off_map.true refl)
      | then-off_map-via-else-off_map+then-off_map-2 w ↦
          let second : w.off_map-else-off_map.result ≡ off_map max_coordinate (item x 1) = search rules in
          sym (c.loop-entry.invariant.1 ∙ outside_next l x _ c.off_map.result w.off_map-else-off_map.result s.1.0 (s.1.1 ∙ c.loop-entry.invariant.0) first second ∙ rw (w.if-off_map.false, w.if-off_map-2.true) refl)
    ]

pub loop-entry-preserved : goal.loop-entry-preserved
loop-entry-preserved c =
    let s = c.in-Some.ensures.steps in
    let l = chunks_exact_rest c.loop-entry.entry-iterator in
    let x = c.in-Some.entry.now in
    let first : c.off_map.result ≡ off_map max_coordinate (item x 0) = search rules in
    let second : c.off_map-else-off_map.result ≡ off_map max_coordinate (item x 1) = search rules in (
      s.0 ∙ c.loop-entry.invariant.0,
      c.loop-entry.invariant.1 ∙ outside_next l x _ c.off_map.result c.off_map-else-off_map.result s.1.0 (s.1.1 ∙ c.loop-entry.invariant.0) first second ∙ rw (c.if-off_map.false, c.if-off_map-2.false) refl,
    )

pub returns : goal.returns
returns c =
    let s = c.in-None.ensures.steps in
    let l = chunks_exact_rest c.loop-entry.entry-iterator in
    let h : length l < 3 = rw (← c.loop-entry.invariant.0) s.1.0 in
    sym (c.loop-entry.invariant.1 ∙ outside_end l h)
