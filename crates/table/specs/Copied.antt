-- Between functions: a list written to the front of another. Definitions only.
use Rattle.std.specs.Prelude.{◌≤◌, ◌<◌, ◌≡◌, List, ◌++◌, drop, length}

-- l was written to the front of t, which became t', if there was room
pub record Copied {A : Type 0} (l t t' : List A) : Type 0 where
  pub done : length l ≤ length t → t' ≡ l ++ drop (length l) t
  pub short : length t < length l → t' ≡ t
