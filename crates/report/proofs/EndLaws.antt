-- What is listed of a file that was read to its end. Assumes nothing.
use Prim.Native.Nat.{ℕ, ◌≤◌}
use native.Mathlib.Omega.{arith}
use mathlib.Core.Path.{◌≡◌, refl, ◌∙◌}
use mathlib.Core.List.{List, [], ◌∷◌, ◌++◌}
use lib.Dec.{leb}
use lib.ListN.{drop, length}
use borrow.Author.Tests.{le-leb}
use Rattle.answers.specs.Asking.{Listing, refuse_map}
use Rattle.answers.specs.declared.judge.Count.{Count}
use Rattle.model.specs.Listing.{listed, listing, refused_line}
use Rattle.model.specs.Map as model
use Rattle.model.specs.MapFile.{Reading, done, read_file, refused}
use Rattle.model.specs.Refusal.{short}
use Rattle.print.specs.Printed.{Printed}
use Rattle.model.specs.Limits.{line_room, need_listing}
use Rattle.held.proofs.RoomLaws.{Enough}
use Rattle.held.specs.Holds.{Holds, Tables}
use Rattle.held.specs.declared.map.Map.{Map}
use Rattle.report.specs.Filed.{Listed}
use Rattle.report.proofs.CallLaws.{call_accepted, held_accepted}
use Rattle.report.proofs.MapLaws.{put_front}
use Rattle.mapfile.proofs.ReadingLaws.{read_accepted}

-- ---- what is written
module _ (b o : List ℕ) where
  module _ (room : need_listing ≤ length o) (o' : List ℕ) where
    list_done : (r : Count) (s : Reading) → read_file b ≡ s → r.refusal ≡ 0 → r.count ≡ length (listed s) → o' ≡ listed s ++ drop r.count o → Listed b o o' r
    unfolding listing
    list_done r s e z c w = record { short = λ k. absurd (omega arith); done = λ k. rw e (same r z c, w ∙ rw c refl) }
      where
        same : (r : Count) → r.refusal ≡ 0 → r.count ≡ length (listed s) → r ≡ record { refusal = 0; count = length (listed s) }
        same r z c = rw (z, c) refl

    pub list_refused : (n f k : ℕ) → read_file b ≡ refused n f → Printed (leb line_room (length o)) line_room (refused_line n f) 0 k o o' → Listed b o o' (record { refusal = 0; count = k })
    list_refused n f k e x = let p = put_front (x.done (le-leb line_room (length o) (omega arith))).0 in list_done (record { refusal = 0; count = k }) (refused n f) e refl p.0 p.1

    pub list_read : (m : Map) (t : Tables) (lent : List (ℕ × ℕ)) (Hold : model.Map → Type 0) (r : Count) → ((M : model.Map) × (read_file b ≡ done M) × Holds m t M) → Enough lent
        → ((M : model.Map) → Holds m t M → Hold M) → Listing (refuse_map (short lent) m []) Hold (record { was = o; is = o'; wanted = λ M. listed (done M) } ∷ []) r
        → Listed b o o' r
    list_read m t lent Hold r q k h l =
        let g = read_accepted b q.0 q.1 in
        let z = call_accepted lent m (held_accepted m t q.0 q.2 g.0 g.1) k in
        let w = l.answer q.0 (h q.0 q.2) z in
        list_done r (done q.0) q.1 (l.refusal ∙ z) w.0 w.1
