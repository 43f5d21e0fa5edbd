use Rattle.std.proofs.Common.{true, w64, to_z, of_z}
use Rattle.ieee.proofs.Tools.{T_true}
use Rattle.ieee.proofs.Cut.{stored}
use Rattle.ieee.proofs.Floor.{IsCut, cut_stays, cut_steps}
use Rattle.ieee.proofs.whole.floor_to_i64.Goals as goal

pub returns-then-x-nearest_i64_to_f64 : goal.returns-then-x-nearest_i64_to_f64
returns-then-x-nearest_i64_to_f64 c =
    let known : IsCut c.args.x (to_z w64 (of_z w64 c.cut_to_i64-t.result)) c.nearest_i64_to_f64.result = record { fit = T_true c.well_formed.0.1; cut = stored _ c.cut_to_i64-t.ensures; float = c.nearest_i64_to_f64.ensures } in
    cut_steps true known c.if-x-nearest_i64_to_f64.true c.saturating_sub.ensures

pub returns : goal.returns
returns c =
    let known : IsCut c.args.x (to_z w64 (of_z w64 c.cut_to_i64-t.result)) c.nearest_i64_to_f64.result = record { fit = T_true c.well_formed.0.1; cut = stored _ c.cut_to_i64-t.ensures; float = c.nearest_i64_to_f64.ensures } in
    cut_stays true known c.if-x-nearest_i64_to_f64.false
