-- `value::float_at`: eight bytes as a float's bits (ValueLaws.antt).
use Rattle.std.proofs.Common.{◌≡◌, length, ap, ◌∙◌, arith, take_all}
use lib.Ieee.{binary64, of_bits}
use Rattle.model.specs.MapFile.{big_endian}
use Rattle.mapfile.proofs.ValueLaws.{eight}
use Rattle.mapfile.proofs.value.float_at.Goals as goal

pub returns : goal.returns
returns c =
    let k = rw c.unwrap.ensures at c.first_chunk.ensures.cases in
    let e : c.unwrap.result.now ≡ c.args.value.now = k.same ∙ take_all 8 c.args.value.now (omega arith) in
    let l : length c.unwrap.result.now ≡ 8 = ap length e ∙ c.requires in
    c.float_of.ensures ∙ ap (of_bits binary64) (c.from_be_bytes.ensures ∙ eight c.unwrap.result.now l ∙ ap (big_endian 0) e)
