-- What is listed of an input that was read to its end. Assumes nothing.
use Prim.Native.Nat.{ℕ, ◌≤◌}
use mathlib.Core.Path.{◌≡◌, refl, sym, subst, ◌∙◌}
use mathlib.Core.Bool.{false, true≢false}
use mathlib.Core.List.{List}
use lib.Dec.{leb}
use lib.ListN.{length}
use Rattle.answers.specs.Told.{counted}
use Rattle.report.specs.Filed.{Listed}
use Rattle.report.specs.Reported.{MapListed}
use Rattle.limits.specs.Refusals.{number}
use Rattle.limits.specs.declared.refusal.Refusal.{Refusal}
use Rattle.mapfile.specs.declared.state.FileRefusal.{FileRefusal}
use Rattle.std.proofs.Common.{Result, Ok, Err}
use Rattle.answers.specs.declared.judge.Count.{Count}
use Rattle.report.proofs.EndLaws.{list_read, list_refused}
use Rattle.held.proofs.RoomLaws.{long_enough}
use Rattle.held.specs.Holds.{Holds, Tables, needs}
use Rattle.held.specs.declared.map.Map.{Map}
use Rattle.model.specs.Listing.{refused_line}
use Rattle.model.specs.Map as model
use Rattle.model.specs.MapFile.{done, read_file}
use Rattle.model.specs.Refusal.{short}
use Rattle.print.specs.Printed.{Printed}
use Rattle.model.specs.Limits.{line_room, need_listing, need_window}
use Rattle.mapfile.proofs.FeedLaws.{held_long}
use Rattle.mapfile.proofs.OwnLaws.{not_short}
use Rattle.intake.specs.Shown.{ShownInput, Tells, lent_out}
use Rattle.intake.specs.Taken.{Came, Taken, lent}
use Rattle.intake.specs.declared.input.InputError.{InputError}
use Rattle.intake.specs.declared.listing.ListError.{ListError}

-- a listing as it is told of the input
abbrev pub shown_list : Result ℕ Refusal → Result ℕ ListError
shown_list (Ok n) = Ok n
shown_list (Err e) = Err (ListError.Refused e)

pub out_long : (b o : List ℕ) → short (lent_out b o) ≡ false → (need_window ≤ length b) × (need_listing ≤ length o)
out_long b o s = let h = long_enough (lent_out b o) s in (h.0, h.1.0)

room : (b o : List ℕ) (t : Tables) → short (lent_out b o) ≡ false → short (needs t) ≡ false → short (lent b t) ≡ false
room b o t s own = not_short (lent b t) ((out_long b o s).0, long_enough (needs t) own)

-- ---- what is lent is long enough: the input was read into tables of the call's own, and the end's cases
module _ {b b' : List ℕ} (o : List ℕ) (s : short (lent_out b o) ≡ false) (o' : List ℕ) where
  tells : (a : Result ℕ ListError) → Tells a o o' → ShownInput b b' o o' a
  tells a h = record { lacking = λ g. absurd (true≢false (sym g ∙ s)); shown = λ _. h }

  module _ {t t' : Tables} (own : short (needs t) ≡ false) where
    pub shown_refused : (x : FileRefusal) (k : ℕ) → Taken b b' t t' (Err (InputError.Refused x)) → Printed (leb line_room (length o)) line_room (refused_line (number x.refusal) x.field) 0 k o o' → ShownInput b b' o o' (Ok k)
    shown_refused x k w p =
        let y = w.taken (room b o t s own) in
        tells (Ok k) (y.0, y.1.few, list_refused y.0 o (out_long b o s).1 o' (number x.refusal) x.field k y.1.reads p)

    -- the map is held, and the listing of it is what is told
    pub shown_map : (m : Map) → Taken b b' t t' (Ok m) → (u : Tables) → u ≡ t' → (r : Result ℕ Refusal) → MapListed m u.cells u.points u.statuses u.blockers u.pairs o o' (counted r) → ShownInput b b' o o' (shown_list r)
    shown_map m w u e r l = go r l
      where
        y : (bytes : List ℕ) × Came bytes t t' (Ok m)
        y = w.taken (room b o t s own)

        q : (M : model.Map) × (read_file y.0 ≡ done M) × Holds m u M
        q = subst (λ (v : Tables). (M : model.Map) × (read_file y.0 ≡ done M) × Holds m v M) (sym e) y.1.reads

        listed_as : (c : Count) → MapListed m u.cells u.points u.statuses u.blockers u.pairs o o' c → Listed y.0 o o' c
        listed_as c k =
            let n = long_enough (needs u) (held_long m u q.0 q.2) in
            let long = (out_long b o s).1 in
            list_read y.0 o long o' m u _ _ c q (n.0, (n.1.0, (n.1.1.0, (n.1.1.1.0, (n.1.1.1.1.0, (long, tt)))))) (λ M h. (u, h, (refl, refl, refl, refl, refl))) k

        go : (r : Result ℕ Refusal) → MapListed m u.cells u.points u.statuses u.blockers u.pairs o o' (counted r) → ShownInput b b' o o' (shown_list r)
        go (Ok n) k = tells (Ok n) (y.0, y.1.few, listed_as (counted (Ok n)) k)
        go (Err x) k = tells (Err (ListError.Refused x)) (y.0, y.1.few, listed_as (counted (Err x)) k)
