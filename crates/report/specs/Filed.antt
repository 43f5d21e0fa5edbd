-- The listing of a map file in a lent buffer (RULES 6). Definitions only.
use Rattle.std.specs.Prelude.{ℕ, ◌≤◌, ◌<◌, ◌≡◌, List, ◌++◌, drop, length}
use Rattle.answers.specs.Asking.{refused_with}
use Rattle.answers.specs.declared.judge.Count.{Count}
use Rattle.model.specs.Listing.{listing}
use Rattle.model.specs.Limits.{need_listing}

-- the bytes b of a map file were listed to t, which became t'
pub record Listed (b t t' : List ℕ) (r : Count) : Type 0 where
  pub short : length t < need_listing → (r ≡ refused_with 9) × (t' ≡ t)
  pub done : need_listing ≤ length t → (r ≡ record { refusal = 0; count = length (listing b) }) × (t' ≡ listing b ++ drop (length (listing b)) t)
