-- Two outcomes that `Printed` permits for the same text and buffer are one. Assumes nothing.
use Prim.Native.Nat.{ℕ}
use mathlib.Core.Path.{◌≡◌, refl, sym, ◌∙◌}
use mathlib.Core.Bool.{Bool, true, false}
use mathlib.Core.List.{List}
use lib.ListN.{length}
use Rattle.print.specs.Printed.{Printed, PrintedRows, Put, lines_fit}

put_one_way : {s t t₁ t₂ : List ℕ} {a r₁ r₂ : ℕ} → Put s a r₁ t t₁ → Put s a r₂ t t₂ → (r₁ ≡ r₂) × (t₁ ≡ t₂)
put_one_way p q =
    let e = p.end ∙ sym q.end in
    (e, p.is ∙ rw e (sym q.is))

pub print_one : (roomy : Bool) {room a r₁ r₂ : ℕ} {s t t₁ t₂ : List ℕ} → Printed roomy room s a r₁ t t₁ → Printed roomy room s a r₂ t t₂ → (r₁ ≡ r₂) × (t₁ ≡ t₂)
print_one true p q = put_one_way (p.done refl).0 (q.done refl).0
print_one false p q = ((p.lacking refl).0 ∙ sym (q.lacking refl).0, (p.lacking refl).1 ∙ sym (q.lacking refl).1)

-- the same for the lines of three columns
pub rows_one : (line : ℕ → ℕ → ℕ → List ℕ) (a b c : List ℕ) {at r₁ r₂ : ℕ} {t t₁ t₂ : List ℕ} → PrintedRows line a b c at r₁ t t₁ → PrintedRows line a b c at r₂ t t₂ → (r₁ ≡ r₂) × (t₁ ≡ t₂)
rows_one line a b c {at} {r₁} {r₂} {t} p q = print_one (lines_fit (length a) (length b) (length c) at (length t)) p q
