-- An input is read field by field through windows: the loop's invariant, its turns and its ends. Assumes nothing.
use Prim.Native.Nat.{ℕ, ◌+◌, ◌-◌, ◌^◌, ◌≤◌, ◌<◌}
use native.Mathlib.Omega.{arith}
use mathlib.Core.Path.{◌≡◌, refl, sym, ap, ◌∙◌, subst}
use mathlib.Core.Logic.{◌⊎◌, inl, inr, ⊎_elim}
use mathlib.Core.Bool.{Bool, true, false, ◌||◌, true≢false}
use mathlib.Core.List.{List, [], ◌++◌, append_assoc, append-nil}
use lib.Dec.{ltb}
use borrow.Author.Tests.{le-ltb, lt-ltb}
use lib.ListN.{drop, length, length-append, length-drop, length-take, take}
use lib.Seq.{drop-drop}
use Rattle.mapfile.specs.Windows.{Wide}
use Rattle.held.proofs.RoomLaws.{long_enough}
use Rattle.held.specs.Holds.{Tables, needs}
use Rattle.held.specs.declared.map.Map.{Map}
use Rattle.table.proofs.Parts.{part_is}
use Rattle.mapfile.proofs.FeedLaws.{feeds_read}
use Rattle.mapfile.specs.Feeds.{Feeds, fill, last, on, stop}
use Rattle.mapfile.specs.Reads.{FieldRead}
use Rattle.model.specs.Refusal.{short}
use Rattle.mapfile.specs.Moves.{begun}
use Rattle.mapfile.specs.declared.state.Reader.{Reader}
use Rattle.mapfile.specs.declared.state.Reading.{Reading}
use Rattle.mapfile.proofs.OwnLaws.{not_short}
use Rattle.window.specs.Refilled.{Refilled, Within, bytes_of}
use Rattle.model.specs.Limits.{need_window}
use Rattle.window.specs.declared.input.Window.{Window}
use Rattle.intake.specs.Taken.{Came, EndsWith, Taken, lent, too_short}
use Rattle.intake.specs.declared.input.InputError.{InputError}
use Rattle.mapfile.specs.declared.state.FileRefusal.{FileRefusal}
use Rattle.std.proofs.Common.{Result, Ok, Err}

-- the most bytes that are read
abbrev pub most : ℕ
most = 9223372036854775807

-- the length of a window's bytes
pub within_long : (w : Window) (b : List ℕ) → Within w b → length (bytes_of w b) ≡ w.end - w.from
within_long w b h = let x = length-take (w.end - w.from) (drop w.from b) in let y = length-drop w.from b in omega arith

-- the window after `used` of its bytes
pub window_after : (from end used : ℕ) (b : List ℕ) → take (end - (from + used)) (drop (from + used) b) ≡ drop used (take (end - from) (drop from b))
window_after from end used b =
    part_is (from + used) end b ∙ sym (drop-drop used from (take end b)) ∙ ap (drop used) (sym (part_is from end b))

-- what is lent is long enough
pub tables_long : (b : List ℕ) (t : Tables) → short (lent b t) ≡ false → (need_window ≤ length b) × (short (needs t) ≡ false)
tables_long b t e = let h = long_enough (lent b t) e in (h.0, not_short (needs t) h.1)

-- ---- the loop: `bytes` were read, of which w were not used; for all that the input may have after them (nothing, where it ended), a run from here is one from the start. `left` so many bytes may still be used
pub record Going (n : ℕ) (t₀ : Tables) (r : Reader) (t : Tables) (w : List ℕ) (ended : Bool) (left : ℕ) : Type 0 where
  pub bytes : List ℕ
  pub few : length bytes + left + n ≡ most + length w
  pub whole : (rest : List ℕ) → (ended ≡ true → rest ≡ []) → (a : Result Map FileRefusal) (t'' : Tables) → Feeds r t w rest a t'' → Feeds begun t₀ [] (bytes ++ rest) a t''

module _ {n : ℕ} {t₀ : Tables} {r : Reader} {t : Tables} {left : ℕ} where
  -- more bytes come after those of the window, or it stays as it is
  pub go_fill : (w w' : Window) (b b' : List ℕ) → Within w b → Refilled w w' b b' → Going n t₀ r t (bytes_of w b) w.ended left → Going n t₀ r t (bytes_of w' b') w'.ended left
  go_fill w w' b b' h f g = go w.ended refl
    where
      more : w.ended ≡ false → Going n t₀ r t (bytes_of w' b') w'.ended left
      more e =
          let a = (f.kept h).0 in
          let p = (f.kept h).1 in
          record {
            bytes = g.bytes ++ a;
            few =
                let x = length-append g.bytes a in
                let y = length-append (bytes_of w b) a in
                let z = ap length p in
                let u = g.few in
                omega arith;
            whole = λ rest k c t'' x.
                subst (λ (l : List ℕ). Feeds begun t₀ [] l c t'') (sym (append_assoc g.bytes a rest))
                (g.whole (a ++ rest) (λ z. absurd (true≢false (sym z ∙ e))) c t'' (fill a (subst (λ (l : List ℕ). Feeds r t l rest c t'') p x)));
          }

      go : (z : Bool) → w.ended ≡ z → Going n t₀ r t (bytes_of w' b') w'.ended left
      go true e = let s = f.stays (inl e) h in rw (s.0, s.1) g
      go false e = more e

  module _ {w : List ℕ} {ended : Bool} (g : Going n t₀ r t w ended left) where
    wide : (ended ≡ true) ⊎ (need_window ≤ length w) → (rest : List ℕ) → (ended ≡ true → rest ≡ []) → Wide w rest
    wide v rest k = ⊎_elim (λ e. inr (k e)) (λ l. inl l) v

    module _ {t' : Tables} where
      -- a field is taken
      pub go_more : (r' : Reader) (used : ℕ) → FieldRead r w t t' (Ok (Reading.More r' used)) → (ended ≡ true) ⊎ (need_window ≤ length w) → used ≤ left → Going n t₀ r' t' (drop used w) ended (left - used)
      go_more r' used x v h =
          record {
            bytes = g.bytes;
            few = let u = g.few in let y = length-drop used w in let z = (x.within r' used refl).1 in omega arith;
            whole = λ rest k c t'' f. g.whole rest k c t'' (on (wide v rest k) x f);
          }

      -- the last answer: all bytes that came
      pub go_ends : short (needs t₀) ≡ false → length w ≤ n → (e : Result Map FileRefusal) → FieldRead r w t t' (last e) → Came g.bytes t₀ t' e
      go_ends s h e x =
          let f : Feeds r t w [] e t' = stop (inr refl) x in
          let run : Feeds begun t₀ [] g.bytes e t' = subst (λ (l : List ℕ). Feeds begun t₀ [] l e t') (append-nil g.bytes) (g.whole [] (λ _. refl) e t' f) in
          let l : length g.bytes < 2 ^ 63 = let u = g.few in omega arith in
          record { few = l; run = run; reads = feeds_read g.bytes t₀ t' e s l run }

-- ---- a turn of the loop: the window was refilled, and a field was read from its bytes
module _ (b₀ : List ℕ) {b b' : List ℕ} {t₀ t : Tables} {r : Reader} {w w' : Window} {left : ℕ} (need : short (lent b₀ t₀) ≡ false) (small : length b₀ < 2 ^ 63)
    (long : length b ≡ length b₀) (h : Within w b) (g : Going (length b₀) t₀ r t (bytes_of w b) w.ended left) (f : Refilled w w' b b') where
  going : Going (length b₀) t₀ r t (bytes_of w' b') w'.ended left
  going = go_fill w w' b b' h f g

  fits : length (bytes_of w' b') ≤ length b₀
  fits = let i = f.inside in let e = within_long w' b' i in let l = f.long in omega arith

  wide_window : (w'.ended ≡ true) ⊎ (need_window ≤ length (bytes_of w' b'))
  wide_window =
      let e = within_long w' b' f.inside in
      let k = (tables_long b₀ t₀ need).0 in
      let l : need_window ≤ length b = omega arith in
      ⊎_elim (λ z. inl z) (λ (m : need_window ≤ w'.end - w'.from). let j : need_window ≤ length (bytes_of w' b') = omega arith in inr j) (f.enough l h)

  pub turn_more : {t' : Tables} (r' : Reader) (used : ℕ) → FieldRead r (bytes_of w' b') t t' (Ok (Reading.More r' used)) → used ≤ left
      → (w'.from + used ≤ w'.end) × Going (length b₀) t₀ r' t' (take (w'.end - (w'.from + used)) (drop (w'.from + used) b')) w'.ended (left - used)
  turn_more {t'} r' used x l =
      let u = (x.within r' used refl).1 in
      let k = within_long w' b' f.inside in
      let i = f.inside in
      (omega arith, rw (window_after w'.from w'.end used b') (go_more going {t' = t'} r' used x wide_window l))

  pub turn_ends : {t' : Tables} (e : Result Map FileRefusal) → FieldRead r (bytes_of w' b') t t' (last e) → (bytes : List ℕ) × Came bytes t₀ t' e
  turn_ends {t'} e x = (going.bytes, go_ends going {t' = t'} (tables_long b₀ t₀ need).1 fits e x)

-- ---- the call
module _ (b : List ℕ) (t : Tables) where
  either : (x : Bool) → x || true ≡ true
  either true = refl
  either false = refl

  pub lent_short : (length b < need_window) ⊎ (short (needs t) ≡ true) → short (lent b t) ≡ true
  unfolding short
  lent_short = ⊎_elim (λ h. rw (lt-ltb (length b) need_window h) refl) (λ h. rw h (either (ltb (length b) need_window)))

  pub lent_long : need_window ≤ length b → short (needs t) ≡ false → short (lent b t) ≡ false
  unfolding short
  lent_long h e = rw (le-ltb (length b) need_window h, e) refl

  pub taken_lacking : short (lent b t) ≡ true → Taken b b t t (Err (InputError.Refused too_short))
  taken_lacking e = record { lacking = λ _. (refl, refl, refl); taken = λ f. absurd (true≢false (sym e ∙ f)) }

  pub taken_read : (b' : List ℕ) (t' : Tables) (e : Result Map InputError) → short (lent b t) ≡ false → EndsWith e t t' → Taken b b' t t' e
  taken_read b' t' e f h = record { lacking = λ g. absurd (true≢false (sym g ∙ f)); taken = λ _. h }
