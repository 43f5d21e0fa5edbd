-- Blockers and pairs (the Rust's `Option<Cell>` in its maps) as numbers of the lent tables. Definitions only.
use Rattle.std.specs.Prelude.{ℕ, ◌≤◌, List, [], ◌∷◌}
use Rattle.std.proofs.Math.Option.{Option, none, some}

-- a blocker: 0 for none, or its key
abbrev pub block_code : Option ℕ → ℕ
block_code none = 0
block_code (some k) = k

-- a pair: 0 where there is none, 1 for an open one, or its blocker's key
abbrev pub pair_code : Option (Option ℕ) → ℕ
pair_code none = 0
pair_code (some none) = 1
pair_code (some (some k)) = k

-- a blocker whose key is no other code
abbrev pub Named : Option ℕ → Type 0
Named none = Unit {0}
Named (some k) = 2 ≤ k

abbrev pub NamedPair : Option (Option ℕ) → Type 0
NamedPair none = Unit {0}
NamedPair (some o) = Named o

-- lists of blockers
abbrev pub codes : List (Option ℕ) → List ℕ
codes [] = []
codes (o ∷ l) = block_code o ∷ codes l

abbrev pub AllNamed : List (Option ℕ) → Type 0
AllNamed [] = Unit {0}
AllNamed (o ∷ l) = Named o × AllNamed l
