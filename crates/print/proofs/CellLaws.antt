-- Coordinates as keys hold them, with their sign; a blocker by its code. Assumes nothing.
use Prim.Native.Nat.{ℕ, zero, suc, ◌-◌, ◌^◌, ◌≤◌, ◌<◌}
use native.Mathlib.Omega.{arith}
use mathlib.Core.Path.{◌≡◌, refl}
use mathlib.Core.List.{List, [], ◌∷◌, ◌++◌}
use lib.ListN.{length}
use borrow.Author.Tests.{lt-ltb, le-ltb}
use Rattle.ieee.specs.Whole.{unbias}
use Rattle.model.specs.Cell.{x_of, y_of}
use Rattle.model.specs.Listing.{blocker_text, decimal, signed, text}
use Rattle.print.specs.Printed.{Put, block_of}
use Rattle.print.proofs.PutLaws.{put_then}

pub put_negative : (u : ℕ) {a b c : ℕ} {t t' t'' : List ℕ} → u < 2147483648 → a ≤ length t → Put (45 ∷ []) a b t t' → Put (decimal (2147483648 - u)) b c t' t'' → Put (signed (unbias u)) a c t t''
unfolding text
put_negative u h l p q =
    let e : 2147483648 - u ≡ suc (2 ^ 31 - suc u) = omega arith in
    rw (lt-ltb u (2 ^ 31) h, ← e) (put_then p l q)

pub put_positive : (u : ℕ) {a c : ℕ} {t t' : List ℕ} → 2147483648 ≤ u → Put (decimal (u - 2147483648)) a c t t' → Put (signed (unbias u)) a c t t'
put_positive u h p = rw (le-ltb u (2 ^ 31) h) p

-- ---- blockers
pub put_no_blocker : (k : ℕ) {a c : ℕ} {t t' : List ℕ} → k ≡ 0 → Put (45 ∷ []) a c t t' → Put (blocker_text (block_of k)) a c t t'
unfolding text
put_no_blocker zero e p = p
put_no_blocker (suc k) e p = absurd (omega arith)

pub put_a_blocker : (k : ℕ) {a c : ℕ} {t t' : List ℕ} → (k ≡ 0 → ⊥) → Put (signed (x_of k) ++ (44 ∷ []) ++ signed (y_of k)) a c t t' → Put (blocker_text (block_of k)) a c t t'
unfolding text
put_a_blocker zero e p = absurd (e refl)
put_a_blocker (suc k) e p = p
