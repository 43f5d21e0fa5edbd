-- Lines one after another, of any kind of line. Assumes nothing.
use Prim.Native.Nat.{ℕ, zero, suc, ◌+◌, ◌*◌, ◌≤◌, ◌<◌}
use native.Mathlib.Nat.{le_of_suc-le-suc, not-suc-le-zero}
use native.Mathlib.Numerals.{add-one}
use native.Mathlib.Omega.{arith}
use mathlib.Core.Path.{◌≡◌, refl, sym, ap, ◌∙◌}
use mathlib.Core.Bool.{false, not}
use mathlib.Core.List.{List, [], ◌∷◌, ◌++◌, append_assoc, append-nil}
use lib.ListN.{get_or, length, take}
use lib.Seq.{take_all}
use Rattle.print.specs.Printed.{PrintedRows, Put, lines_fit, rows}
use Rattle.model.specs.Limits.{line_room}
use Rattle.print.proofs.PrintLaws.{fit, fits, printed_done}
use Rattle.print.proofs.PutLaws.{put_none, put_then, put_long}

module _ {B : Type 0} (line : ℕ → B → ℕ → List ℕ) where
  rows_suc : (d : B) (a : List ℕ) (b : List B) (c : List ℕ) (i : ℕ) → i < length a → i < length b → i < length c
      → rows line (take (suc i) a) b c ≡ rows line (take i a) b c ++ line (get_or a i 0) (get_or b i d) (get_or c i 0)
  rows_suc d [] b c i h k l = absurd (not-suc-le-zero h)
  rows_suc d (x ∷ a) [] c i h k l = absurd (not-suc-le-zero k)
  rows_suc d (x ∷ a) (y ∷ b) [] i h k l = absurd (not-suc-le-zero l)
  rows_suc d (x ∷ a) (y ∷ b) (z ∷ c) zero h k l = append-nil (line x y z)
  rows_suc d (x ∷ a) (y ∷ b) (z ∷ c) (suc i) h k l =
      ap (λ (r : List ℕ). line x y z ++ r) (rows_suc d a b c i (le_of_suc-le-suc h) (le_of_suc-le-suc k) (le_of_suc-le-suc l))
      ∙ sym (append_assoc (line x y z) (rows line (take i a) b c) (line (get_or a i 0) (get_or b i d) (get_or c i 0)))

  -- i lines are written
  pub record Writing (a : List ℕ) (b : List B) (c t t' : List ℕ) (at end i : ℕ) : Type 0 where
    pub inside : i ≤ length a
    pub wide_b : length a ≤ length b
    pub wide_c : length a ≤ length c
    pub room : at + line_room * length a ≤ length t
    pub long : length t' ≡ length t
    pub few : end ≤ at + line_room * i
    pub is : Put (rows line (take i a) b c) at end t t'

  pub writing_none : (a : List ℕ) (b : List B) (c t : List ℕ) (at : ℕ) → not (lines_fit (length a) (length b) (length c) at (length t)) ≡ false → Writing a b c t t at at 0
  writing_none a b c t at e =
      let f = fit (length a) (length b) (length c) at (length t) e in
      record { inside = omega arith; wide_b = f.0; wide_c = f.1; room = f.2; long = refl; few = omega arith; is = put_none at t }

  module _ {a : List ℕ} {b : List B} {c t t' : List ℕ} {at end i : ℕ} (w : Writing a b c t t' at end i) where
    pub writing_more : {t'' : List ℕ} {r : ℕ} (d : B) → i < length a → Put (line (get_or a i 0) (get_or b i d) (get_or c i 0)) end r t' t'' → r ≤ end + line_room
        → Writing a b c t t'' at r (i + 1)
    writing_more d h p k =
        let e = w.long in
        let hb = w.wide_b in
        let hc = w.wide_c in
        let f = put_long p (omega arith) in
        record {
          inside = omega arith;
          wide_b = w.wide_b;
          wide_c = w.wide_c;
          room = w.room;
          long = f ∙ w.long;
          few = omega arith;
          is = rw (add-one i, rows_suc d a b c i h (omega arith) (omega arith)) (put_then w.is (omega arith) p);
        }

    pub writing_done : length a ≤ i → PrintedRows line a b c at end t t'
    writing_done h =
        let p : Put (rows line a b c) at end t t' = rw (take_all i a h) at w.is in
        let e : i ≡ length a = omega (arith, w.inside) in
        printed_done (fits (length a) (length b) (length c) at (length t) w.wide_b w.wide_c w.room) p (omega (arith, p.end, w.few))
