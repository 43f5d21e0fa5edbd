-- Bytes as numbers: eight and four of them, and the flags of a batch. Assumes nothing.
use Rattle.std.proofs.Common.{◌≡◌, ℕ, zero, suc, ◌+◌, ◌-◌, ◌*◌, ◌/◌, ◌^◌, ◌<◌, ◌≤◌, cond, ltb, List, [], ◌∷◌, length, get_or, take, drop, ℤ, pos, negsuc, sym, refl, ap, ◌∙◌, ⊎_elim, arith, get_or-drop, drop-cons, w8, w32, w64, Fits, SFits, to_z, of_z, le-ltb, lt-ltb}
use lib.Seq.{get_or-take}
use mir.ValLaws.{of_z-to_z, to_z-of_z}
use Rattle.std.specs.Int.{from_be_bytes}
use Rattle.std.specs.Simd.{first_chunks}
use Rattle.ieee.proofs.Tools.{lt_or_ge}
use Rattle.model.specs.MapFile.{bad_flag, big_endian, int32}
use Rattle.std.specs.List.{list_any}

pub eight : (l : List ℕ) → length l ≡ 8 → from_be_bytes w64 l ≡ big_endian 0 l
unfolding big_endian
eight (a ∷ b ∷ c ∷ d ∷ e ∷ f ∷ g ∷ h ∷ []) k = omega arith
eight [] k = absurd (omega arith)
eight (a ∷ []) k = absurd (omega arith)
eight (a ∷ b ∷ []) k = absurd (omega arith)
eight (a ∷ b ∷ c ∷ []) k = absurd (omega arith)
eight (a ∷ b ∷ c ∷ d ∷ []) k = absurd (omega arith)
eight (a ∷ b ∷ c ∷ d ∷ e ∷ []) k = absurd (omega arith)
eight (a ∷ b ∷ c ∷ d ∷ e ∷ f ∷ []) k = absurd (omega arith)
eight (a ∷ b ∷ c ∷ d ∷ e ∷ f ∷ g ∷ []) k = absurd (omega arith)
eight (a ∷ b ∷ c ∷ d ∷ e ∷ f ∷ g ∷ h ∷ i ∷ l) k = absurd (omega arith)

-- ---- an entry's bytes
entry_at : (n i k : ℕ) (v : List ℕ) → i < n → k < 9 → get_or (get_or (first_chunks 9 n v) i []) k 0 ≡ get_or v (9 * i + k) 0
entry_at zero i k v h l = absurd (omega arith)
entry_at (suc n) zero k v h l = let e : 9 * 0 + k ≡ k = omega arith in rw e (get_or-take 9 v k 0 l)
entry_at (suc n) (suc i) k v h l =
    let e : 9 + (9 * i + k) ≡ 9 * suc i + k = omega arith in
    entry_at n i k (drop 9 v) (omega arith) l ∙ get_or-drop 9 v (9 * i + k) 0 ∙ ap (λ (j : ℕ). get_or v j 0) e

pub chunk_at : (cs : List (List ℕ)) (v : List ℕ) (i k j : ℕ) → cs ≡ first_chunks 9 (length v / 9) v → i < length v / 9 → k < 9 → 9 * i + k ≡ j → get_or (get_or cs i []) k 0 ≡ get_or v j 0
chunk_at cs v i k j e h l p = ap (λ (c : List (List ℕ)). get_or (get_or c i []) k 0) e ∙ entry_at (length v / 9) i k v h l ∙ ap (λ (m : ℕ). get_or v m 0) p

-- four bytes as a signed number
signed : (n : ℕ) → n < 2 ^ 32 → to_z w32 n ≡ cond (ltb n 2147483648) (pos n) (negsuc (4294967295 - n))
signed n h =
    ⊎_elim
    (λ k. rw (lt-ltb n 2147483648 k) refl)
    (λ k. let e : 2 ^ 32 - suc n ≡ 4294967295 - n = omega arith in rw (le-ltb n 2147483648 k) (ap negsuc e))
    (lt_or_ge n 2147483648)

four_fits : (n : ℕ) → n < 2 ^ 32 → SFits w64 (to_z w32 n)
four_fits n h =
    ⊎_elim
    (λ k. rw (signed n h, lt-ltb n 2147483648 k) (record { sfits = omega arith }))
    (λ k. rw (signed n h, le-ltb n 2147483648 k) (record { sfits = omega arith }))
    (lt_or_ge n 2147483648)

front_four : (v : List ℕ) (at : ℕ) → at + 4 ≤ length v → take 4 (drop at v) ≡ get_or v at 0 ∷ get_or v (at + 1) 0 ∷ get_or v (at + 2) 0 ∷ get_or v (at + 3) 0 ∷ []
front_four v at h =
    let two : at + 1 + 1 ≡ at + 2 = omega arith in
    let three : at + 2 + 1 ≡ at + 3 = omega arith in
    rw (cut v at (omega arith), cut v (at + 1) (omega arith), two, cut v (at + 2) (omega arith), three, cut v (at + 3) (omega arith)) refl
  where
    cut : (v : List ℕ) (i : ℕ) → i < length v → drop i v ≡ get_or v i 0 ∷ drop (i + 1) v
    cut v i h = let e : i + 1 ≡ suc i = omega arith in rw e (drop-cons v i 0 h)

int_is : (n : ℕ) (l : List ℕ) → n ≡ big_endian 0 l → cond (ltb n 2147483648) (pos n) (negsuc (4294967295 - n)) ≡ int32 l
int_is n l e = rw e refl

pub number_at : (v : List ℕ) (at a b c d : ℕ) (z : ℤ) → ((i : ℕ) → Fits w8 (get_or v i 0)) → at + 4 ≤ length v → a ≡ get_or v at 0 → b ≡ get_or v (at + 1) 0 → c ≡ get_or v (at + 2) 0 → d ≡ get_or v (at + 3) 0
    → z ≡ to_z w32 (from_be_bytes w32 (a ∷ b ∷ c ∷ d ∷ [])) → to_z w64 (of_z w64 (to_z w32 (of_z w32 z))) ≡ int32 (take 4 (drop at v))
unfolding big_endian
number_at v at a b c d z f h p q r s e =
    let fa = (f at).fits in
    let fb = (f (at + 1)).fits in
    let fc = (f (at + 2)).fits in
    let fd = (f (at + 3)).fits in
    let n : ℕ = from_be_bytes w32 (a ∷ b ∷ c ∷ d ∷ []) in
    let l : n < 2 ^ 32 = omega arith in
    let front : List ℕ = get_or v at 0 ∷ get_or v (at + 1) 0 ∷ get_or v (at + 2) 0 ∷ get_or v (at + 3) 0 ∷ [] in
    let same : n ≡ big_endian 0 front = omega arith in
    let whole : n ≡ big_endian 0 (take 4 (drop at v)) = same ∙ ap (big_endian 0) (sym (front_four v at h)) in
    let back : to_z w32 (of_z w32 z) ≡ to_z w32 n = ap (λ (y : ℤ). to_z w32 (of_z w32 y)) e ∙ ap (to_z w32) (of_z-to_z w32 n (record { fits = l })) in
    ap (λ (y : ℤ). to_z w64 (of_z w64 y)) back ∙ to_z-of_z w64 (to_z w32 n) (four_fits n l) ∙ signed n l ∙ int_is n (take 4 (drop at v)) whole

-- ---- flags
pub any_flags : (n : ℕ) (v : List ℕ) → list_any (λ (e : List ℕ). ltb 1 (get_or e 8 0)) (first_chunks 9 n v) ≡ bad_flag n v
unfolding bad_flag
any_flags zero v = refl
any_flags (suc n) v = let l : 8 < 9 = omega arith in rw (get_or-take 9 v 8 0 l, any_flags n (drop 9 v)) refl
