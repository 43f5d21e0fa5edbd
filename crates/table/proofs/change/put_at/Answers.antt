use Rattle.table.proofs.ShiftLaws.{put_there}
use Rattle.table.proofs.change.put_at.Goals as goal

-- `change::put_at`: the stretch from the place onward is shifted, and k stored. Assumes nothing.
pub returns : goal.returns
returns c =
    put_there c.args.t.now c.shift_up.new.t c.args.at c.args.k c.requires c.shift_up.ensures
