-- A call that lends enough is accepted wherever another call on the same map is, and on a map that was read. Assumes nothing.
use Prim.Native.Nat.{ℕ, ◌≤◌}
use native.Mathlib.Nat.{suc-ne-zero}
use mathlib.Core.Path.{◌≡◌, refl, sym, subst, ◌∙◌}
use mathlib.Core.Bool.{false}
use mathlib.Core.List.{List, []}
use Rattle.answers.proofs.PassedLaws.{passed}
use Rattle.answers.proofs.RefuseLaws.{none_due}
use Rattle.limits.proofs.RefusalLaws.{number_some}
use Rattle.answers.specs.Asking.{HoldsSome, Listing, Output, Written, refuse_map}
use Rattle.answers.specs.Told.{counted}
use Rattle.limits.specs.declared.refusal.Refusal.{Refusal}
use Rattle.std.proofs.Common.{Result, Ok, Err}
use Rattle.model.specs.Limits.{max_cells}
use Rattle.model.specs.Map as model
use Rattle.model.specs.Refusal.{bad_radius, bad_size, short}
use Rattle.held.proofs.LayerLaws.{layer_few}
use Rattle.held.proofs.RoomLaws.{Enough, long_enough}
use Rattle.mapfile.proofs.OwnLaws.{not_short}
use Rattle.held.specs.Holds.{Holds, Tables, needs, tables_of}
use Rattle.held.specs.declared.map.Map.{Map}
use Rattle.report.specs.Counted.{Tells}

module _ (lent : List (ℕ × ℕ)) (m : Map) where
  -- whatever was lent, the map itself was accepted
  pub map_accepted : refuse_map (short lent) m [] ≡ 0 → refuse_map false m [] ≡ 0
  map_accepted e = rw (passed (short lent) m [] e).0 at e

  pub call_accepted : refuse_map false m [] ≡ 0 → Enough lent → refuse_map (short lent) m [] ≡ 0
  call_accepted e h = rw (not_short lent h) e

-- no table is short where the call on a map is not refused
pub enough_of : (lent : List (ℕ × ℕ)) (m : Map) → refuse_map (short lent) m [] ≡ 0 → Enough lent
enough_of lent m e = long_enough lent (passed (short lent) m [] e).0

-- a list that is not refused has a count, and says what the map has
pub listed_some : {n : ℕ} {Hold : model.Map → Type 0} {os : List Output} (r : Result ℕ Refusal) → Listing n Hold os (counted r) → n ≡ 0 → (k : ℕ) × (r ≡ Ok k) × ((M : model.Map) → Hold M → Written M k os)
listed_some (Ok k) l z = (k, refl, λ M h. l.answer M h z)
listed_some (Err e) l z = absurd (number_some e (l.refusal ∙ z))

-- what counts tell of the map that is held
pub told_is : {A : Type 0} {m : Map} {t : Tables} {f : model.Map → A} {a : A} → refuse_map (short (needs t)) m [] ≡ 0 → Tells m t f (Ok a) → (M : model.Map) → Holds m t M → a ≡ f M
told_is {a = a} e w M h = let p = w e in let q = p.1 in let k : a ≡ p.0 = cc in k ∙ p.2 M h

-- the tables of which those are lent
pub held_as : {m : Map} {a b c d e : List ℕ} {M : model.Map} → HoldsSome m (λ t. (t.cells ≡ a) × (t.points ≡ b) × (t.statuses ≡ c) × (t.blockers ≡ d) × (t.pairs ≡ e)) M → Holds m (tables_of a b c d e) M
held_as {m} {M = M} h = let k = h.2 in subst (λ (t : Tables). Holds m t M) (same h.0 k.0 k.1 k.2 k.3 k.4) h.1
  where
    same : (t : Tables) {a b c d e : List ℕ} → t.cells ≡ a → t.points ≡ b → t.statuses ≡ c → t.blockers ≡ d → t.pairs ≡ e → t ≡ tables_of a b c d e
    same t p q r s u = rw (← p, ← q, ← r, ← s, ← u) refl

pub not_both : {A : Type 0} {e : Refusal} {a : A} → ◌≡◌ {A = Result A Refusal} (Err e) (Ok a) → ⊥
not_both h = let z : ◌≡◌ {A = ℕ} 0 1 = cc in suc-ne-zero 0 (sym z)

-- a map that is held, with a good cell size and radius, is accepted
pub held_accepted : (m : Map) (t : Tables) (M : model.Map) → Holds m t M → bad_size M.size ≡ false → bad_radius M.size M.layer.radius ≡ false → refuse_map false m [] ≡ 0
held_accepted m t M h f g =
    let room : m.cells ≤ max_cells = rw h.cells.count h.cells.room in
    none_due false m refl (rw h.size f) (rw (h.size, h.radius) g) room (layer_few h.layer)
