use Rattle.std.proofs.Common.{◌+◌, ◌*◌, ◌/◌, ◌≡◌, ◌<◌, ◌^◌, ℕ, length, get_or, ap, ◌∙◌, arith, w64, to_z}
use mir.ValLaws.{to_z_pos}
use Rattle.mapfile.proofs.NumberLaws.{writing_done, writing_more}
use Rattle.mapfile.proofs.ValueLaws.{chunk_at, number_at}
use Rattle.mapfile.proofs.value.numbers_of.Goals as goal

pub loop-i-preserved : goal.loop-i-preserved
loop-i-preserved c =
    let v = c.args.value.now in
    let i = c.loop-i.i in
    let t = c.type_inv.value in
    let e = c.as_chunks.ensures.front in
    let h : i < length v / 9 = omega arith in
    let at = λ (k j : ℕ) (l : k < 9) (p : 9 * i + k ≡ j). chunk_at _ v i k j e h l p in
    let flag : get_or v (9 * i + 8) 0 < 2 ^ 63 = let f = (t (9 * i + 8)).fits in omega arith in
    let x = number_at v (9 * i) _ _ _ _ _ t (omega arith) (at 0 _ (omega arith) (omega arith)) (at 1 _ (omega arith) (omega arith)) (at 2 _ (omega arith) (omega arith)) (at 3 _ (omega arith) (omega arith)) c.from_be_bytes.ensures in
    let y = number_at v (9 * i + 4) _ _ _ _ _ t (omega arith) (at 4 _ (omega arith) (omega arith)) (at 5 _ (omega arith) (omega arith)) (at 6 _ (omega arith) (omega arith)) (at 7 _ (omega arith) (omega arith)) c.from_be_bytes-in-loop-i.ensures in
    let z = ap (to_z w64) (at 8 (9 * i + 8) (omega arith) (omega arith)) ∙ to_z_pos w64 (get_or v (9 * i + 8) 0) flag in
    let nine : 9 * (i + 1) ≡ 9 * i + 9 = omega arith in
    let three : 3 * (i + 1) ≡ 3 * i + 3 = omega arith in
    rw (nine, three) (writing_more v _ _ (9 * i) (3 * i) c.loop-i.invariant _ _ _ (omega arith) x y z)

pub returns : goal.returns
returns c =
    let e : 3 * length c.as_chunks.result.0.now ≡ 3 * c.loop-i.i = omega arith in
    rw e (writing_done _ _ _ _ _ c.loop-i.invariant (omega arith))
