-- What the border shows of an answer is all of it, and what a caller can see of lent tables is what they hold. Assumes nothing.
use Prim.Native.Nat.{ℕ}
use mathlib.Core.Path.{◌≡◌, refl, sym, ap}
use Rattle.std.specs.Prelude.{Result, Ok, Err}
use Rattle.limits.proofs.RefusalLaws.{number_one, number_some}
use Rattle.limits.specs.declared.refusal.Refusal.{Refusal}
use Rattle.held.specs.Told.{told}
use Rattle.held.specs.declared.map.Map.{Map}
use Rattle.held.specs.declared.map.Outcome.{Outcome}

abbrev refusal_of : Outcome → ℕ
refusal_of o = o.refusal

abbrev map_of : Outcome → Map
map_of o = o.map

pub told_one : (r q : Result Map Refusal) → told r ≡ told q → r ≡ q
told_one (Ok m) (Ok n) h = ap Ok (ap map_of h)
told_one (Ok m) (Err f) h = absurd (number_some f (sym (ap refusal_of h)))
told_one (Err e) (Ok n) h = absurd (number_some e (ap refusal_of h))
told_one (Err e) (Err f) h = ap Err (number_one e f (ap refusal_of h))
