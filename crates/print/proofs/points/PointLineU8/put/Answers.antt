-- `points::Point::put`: how the line begins, the status, how it ends.
use Rattle.std.proofs.Common.{◌≤◌, ◌∙◌, length, arith}
use Rattle.model.specs.Listing.{blocker_text, cell_text, text}
use Rattle.print.specs.Printed.{block_of}
use Rattle.print.proofs.DecimalLaws.{room_for}
use Rattle.print.proofs.PutLaws.{put_all, put_then}
use Rattle.print.proofs.points.PointLineU8.put.Goals as goal

pub number-requires : goal.number-requires
number-requires c = room_for 19 _ _ _ (omega arith) (omega arith)

pub returns : goal.returns
unfolding cell_text text
returns c =
    let p = c.start.ensures in
    let q = c.number.ensures in
    let r = c.end.ensures in
    let h : c.args.to.now.at ≤ length c.args.to.now.out.now = omega arith in
    let put = put_all (put_then p.put h q.put) h (text " ") (blocker_text (block_of c.args.block)) (text "\n") r.put in
    record { put = put; few = omega arith; long = omega arith; same = r.same ∙ q.same ∙ p.same }
