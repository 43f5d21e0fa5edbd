-- For replayed vectors: one more entry of a batch: its three numbers after those that are there, where there is room. Definitions only.
use Rattle.std.specs.Prelude.{ℕ, ◌+◌, cond, List, length, ℤ, nat_le, slice_set}

unfoldable pub entered : List ℤ → ℕ → ℤ → ℤ → ℤ → List ℤ
entered b used x y full = cond (nat_le (used + 3) (length b)) (slice_set (slice_set (slice_set b used x) (used + 1) y) (used + 2) full) b

-- how many numbers the batch has then
unfoldable pub used_then : List ℤ → ℕ → ℕ
used_then b used = cond (nat_le (used + 3) (length b)) (used + 3) used
