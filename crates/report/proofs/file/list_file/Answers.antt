-- `file::list_file`: the file read into tables of its own, and its refusal or its map listed (EndLaws.antt).
use Rattle.std.proofs.Common.{◌≡◌, refl, sym, subst, Err}
use Rattle.limits.proofs.RefusalLaws.{number_some}
use Rattle.held.specs.Holds.{Holds, Tables, needs}
use Rattle.held.specs.Lent.{lists_of, viewed}
use Rattle.model.specs.Map as model
use Rattle.model.specs.MapFile.{done, read_file}
use Rattle.held.proofs.RoomLaws.{long_enough}
use Rattle.mapfile.proofs.FeedLaws.{held_long}
use Rattle.mapfile.proofs.OwnLaws.{whole_long, zeros, zeros_whole}
use Rattle.mapfile.specs.Told.{opened_told}
use Rattle.mapfile.proofs.ReadLaws.{opened_done, opened_refused}
use Rattle.report.proofs.EndLaws.{list_read, list_refused}
use Rattle.report.proofs.file.list_file.Goals as goal

pub returns-in-Ok : goal.returns-in-Ok
returns-in-Ok c =
    let a = c.args in
    let m = c.in-Ok.map in
    let t : Tables = viewed c.view.result in
    let q = subst (λ (u : Tables). (M : model.Map) × (read_file a.bytes.now ≡ done M) × Holds m u M) (sym c.view.ensures)
    (opened_done a.bytes.now zeros (lists_of c.read_file.new.tables) _ refl (c.in-Ok.ensures.said.reads (whole_long zeros zeros_whole))) in
    let e = long_enough (needs t) (held_long m t q.0 q.2) in
    list_read a.bytes.now a.out.now c.if-out-lt-LISTING.false _ m t _ _ _ q (e.0, (e.1.0, (e.1.1.0, (e.1.1.1.0, (e.1.1.1.1.0, (c.if-out-lt-LISTING.false, tt)))))) (λ M h. (t, h, (refl, refl, refl, refl, refl))) c.list_map.ensures

pub returns-in-Err : goal.returns-in-Err
returns-in-Err c =
    let a = c.args in
    let x = c.in-Err.field-0 in
    list_refused a.bytes.now a.out.now c.if-out-lt-LISTING.false _ _ _ _
    (opened_refused a.bytes.now zeros (lists_of c.read_file.new.tables) (opened_told (Err x)) (number_some x.refusal) (c.in-Err.ensures.said.reads (whole_long zeros zeros_whole))) (rw c.number.ensures at c.put_refusal.ensures)
