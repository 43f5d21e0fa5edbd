-- Runs of calls on a map that was read from a file. Assumes nothing.
use Rattle.std.proofs.Common.{◌≡◌, ℕ, List}
use Rattle.held.specs.Holds.{Holds, Tables}
use Rattle.model.specs.Map as model
use Rattle.model.specs.Refusal.{run}
use Rattle.visibility.proofs.RunLaws.{run_holds}
use Rattle.visibility.specs.Run.{Calls, State, heard}
use Rattle.mapfile.proofs.ReadLaws.{accepted_rooms, opened_done}
use Rattle.mapfile.proofs.ReadingLaws.{ran_on, read_ran}
use Rattle.mapfile.specs.Files.{FileRead, Ran}
use Rattle.mapfile.specs.declared.file.Opened.{Opened}

-- The theorem: after a map file was read and any run of calls, whatever each lends and refused ones among them, the caller's struct and tables hold a map of the model
-- which some run of operations from an opening gives; so all that `demand3` says of a fresh map holds of the lent bytes.
pub read_run : (b : List ℕ) (t t' : Tables) (r : Opened) (s : State) → FileRead b t t' r → r.refusal ≡ 0 → (k : Calls (record { map = r.map; tables = t' }) s)
    → (M : model.Map) × Holds s.map s.tables M × Ran M
read_run b t t' r s w z k =
    let h = opened_done b t t' r z (w.reads (accepted_rooms b t t' r w z)) in
    (run (heard k) h.0, run_holds k h.0 h.2, ran_on (heard k) h.0 (read_ran b h.0 h.1))
