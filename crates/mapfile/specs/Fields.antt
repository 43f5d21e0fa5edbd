-- Between functions: a field of a map file before its value is taken, and its value as numbers (RULES 5; the model's MapFile). Definitions only.
use Rattle.std.specs.Prelude.{◌≡◌, ℕ, zero, suc, ◌+◌, ◌*◌, ◌/◌, ◌<◌, ◌≤◌, cond, List, [], ◌∷◌, ◌++◌, length, take, drop, ℤ, pos, nat_lt, slice_index, Result, Ok, Err}
use Rattle.limits.specs.Refusals.{number}
use Rattle.limits.specs.declared.refusal.Refusal.{Refusal}
use Rattle.model.specs.MapFile.{due, entry_bytes, int32, placed}
use Rattle.model.specs.MapFile as model
use Rattle.mapfile.specs.declared.head.Expected.{Expected}
use Rattle.mapfile.specs.declared.head.Head.{Head}

-- what the enum's cases mean
abbrev pub expected_of : Expected → model.Expected
expected_of Expected.Size = model.size
expected_of Expected.Radius = model.radius
expected_of Expected.Batches = model.batches
expected_of Expected.End = model.end

-- ---- the first three bytes: a tag and a length, big-endian
abbrev pub length_at : List ℕ → ℕ
length_at b = slice_index b 1 * 256 + slice_index b 2

-- the refusal that is due of the field with which b begins, 0 if none is
unfoldable pub due_at : model.Expected → List ℕ → ℕ
due_at e b =
    let k = due (slice_index b 0) (length_at b) (drop 3 b) in
    cond (nat_lt (length b) 3) 10 (cond (placed e (slice_index b 0)) k 10)

-- the head with which b begins, where nothing is due, or what is
abbrev pub HeadRead : model.Expected → List ℕ → Result Head Refusal → Type 0
HeadRead e b (Ok h) = (due_at e b ≡ 0) × (h ≡ record { tag = slice_index b 0; length = length_at b })
HeadRead e b (Err x) = due_at e b ≡ number x

-- ---- the value of a field 03 as the library takes a batch
unfoldable pub numbers_of : ℕ → List ℕ → List ℤ
numbers_of zero b = []
numbers_of (suc n) b = int32 (take 4 b) ∷ int32 (take 4 (drop 4 b)) ∷ pos (slice_index b 8) ∷ numbers_of n (drop entry_bytes b)

-- all whole entries of v are at the front of t', r numbers; where they do not fit, nothing is written
pub record Numbers (v : List ℕ) (r : ℕ) (t t' : List ℤ) : Type 0 where
  pub done : length v / entry_bytes ≤ length t / 3 → (r ≡ 3 * (length v / entry_bytes)) × (t' ≡ numbers_of (length v / entry_bytes) v ++ drop r t)
  pub lacking : length t / 3 < length v / entry_bytes → (r ≡ 0) × (t' ≡ t)
