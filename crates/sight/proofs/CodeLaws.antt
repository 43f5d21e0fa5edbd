-- The numbers of named pairs and blockers tell them apart. Assumes nothing.
use Prim.Native.Nat.{ℕ}
use native.Mathlib.Omega.{arith}
use mathlib.Core.Path.{◌≡◌, refl}
use mathlib.Core.Logic.{◌≢◌}
use mathlib.Core.Option.{Option, none, some}
use Rattle.model.specs.ClosedForm.{or_else}
use Rattle.held.specs.Codes.{Named, NamedPair, block_code, pair_code}

-- ---- where a pair's blocker begins, by the number of the old pair
pub held_open : (e : Option (Option ℕ)) (z : Option ℕ) → NamedPair e → pair_code e ≡ 1 → 0 ≡ block_code (or_else e z)
held_open none z n h = absurd (omega arith)
held_open (some none) z n h = refl
held_open (some (some k)) z n h = absurd (omega arith)

pub held_blocked : (e : Option (Option ℕ)) (z : Option ℕ) → pair_code e ≢ 0 → pair_code e ≢ 1 → pair_code e ≡ block_code (or_else e z)
held_blocked none z g h = absurd (g refl)
held_blocked (some none) z g h = absurd (h refl)
held_blocked (some (some k)) z g h = refl

pub held_nothing : (e : Option (Option ℕ)) (z : Option ℕ) → NamedPair e → pair_code e ≡ 0 → block_code z ≡ block_code (or_else e z)
held_nothing none z n h = refl
held_nothing (some none) z n h = absurd (omega arith)
held_nothing (some (some k)) z n h = absurd (omega arith)

pub or_else_named : (e : Option (Option ℕ)) (z : Option ℕ) → NamedPair e → Named z → Named (or_else e z)
or_else_named none z n m = m
or_else_named (some v) z n m = n

-- ---- a pair by its blocker's number
pub pair_open : (o : Option ℕ) → Named o → block_code o ≡ 0 → 1 ≡ pair_code (some o)
pair_open none n h = refl
pair_open (some k) n h = absurd (omega arith)

pub pair_blocked : (o : Option ℕ) → block_code o ≢ 0 → block_code o ≡ pair_code (some o)
pair_blocked none h = absurd (h refl)
pair_blocked (some k) h = refl
