-- `file::read_file`: read into tables of its own, and copied over the lent ones (ReadLaws.antt).
use Rattle.std.proofs.Common.{sym}
use Rattle.held.specs.Holds.{Tables}
use Rattle.held.specs.Lent.{lists_of}
use Rattle.mapfile.proofs.OwnLaws.{Whole, whole_long, whole_stays, zeros, zeros_whole}
use Rattle.mapfile.proofs.ReadLaws.{over_behind, over_holds, read_opens}
use Rattle.mapfile.proofs.file.read_file.Goals as goal

pub read_fields-requires : goal.read_fields-requires
read_fields-requires c = whole_long zeros zeros_whole

pub returns-clause-said : goal.returns-clause-said
returns-clause-said c =
    let a = c.args in
    let k = c.in_ok-map.ensures in
    let lent : Tables = lists_of a.tables.now in
    let own : Tables = lists_of c.read_fields.new.tables in
    let rooms = sym c.if-is_short.ensures in
    let whole : Whole own = whole_stays c.in_ok-map.map zeros own k.said.0 zeros_whole k.behind k.said.2 in
    read_opens _ lent rooms own _ c.in_ok-map.map k.said
    (λ M. over_holds own lent _ whole rooms c.copy.ensures c.copy-2.ensures c.copy-3.ensures c.copy-4.ensures c.copy-5.ensures c.in_ok-map.map M)
    (over_behind own lent _ whole rooms c.copy.ensures c.copy-2.ensures c.copy-3.ensures c.copy-4.ensures c.copy-5.ensures)
