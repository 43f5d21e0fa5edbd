-- The entries of a batch written number by number to the front of a list. Assumes nothing.
use Rattle.std.proofs.Common.{◌≡◌, ℕ, zero, suc, ◌+◌, ◌-◌, ◌*◌, ◌/◌, ◌<◌, ◌≤◌, List, [], ◌∷◌, length, get_or, take, drop, set, ℤ, pos, sym, refl, ap, ◌∙◌, zero-le, arith, length-drop, length-set, get_or-drop, drop-drop}
use Rattle.table.proofs.Front.{mix, mix_done, mix_more}
use Rattle.model.specs.MapFile.{entry_bytes, int32}
use Rattle.mapfile.specs.Fields.{Numbers, numbers_of}

numbers_length : (n : ℕ) (v : List ℕ) → length (numbers_of n v) ≡ 3 * n
unfolding numbers_of
numbers_length zero v = refl
numbers_length (suc n) v = let e = numbers_length n (drop entry_bytes v) in omega arith

-- all numbers of v
abbrev pub wanted : List ℕ → List ℤ
wanted v = numbers_of (length v / 9) v

-- the entries before the place `at` of v are written, n numbers
pub record Writing (v : List ℕ) (t t' : List ℤ) (at n : ℕ) : Type 0 where
  pub room : 3 * (length v / 9) ≤ length t
  pub within : n ≤ 3 * (length v / 9)
  pub before : at ≤ length v
  pub long : length t' ≡ length t
  pub rest : drop n (wanted v) ≡ numbers_of ((length v - at) / 9) (drop at v)
  pub is : t' ≡ mix (wanted v) t n

pub writing_none : (v : List ℕ) (t : List ℤ) → length v / 9 ≤ length t / 3 → Writing v t t 0 0
writing_none v t h =
    let e : length v - 0 ≡ length v = omega arith in
    record { room = omega arith; within = zero-le; before = zero-le; long = refl; rest = rw e refl; is = refl }

module _ (v : List ℕ) (t t' : List ℤ) (at n : ℕ) (s : Writing v t t' at n) where
  -- the entry at the place `at`, then those after it
  entry : at + 8 < length v → drop n (wanted v) ≡ int32 (take 4 (drop at v)) ∷ int32 (take 4 (drop (at + 4) v)) ∷ pos (get_or v (at + 8) 0) ∷ numbers_of ((length v - (at + 9)) / 9) (drop (at + 9) v)
  unfolding numbers_of
  entry h =
      let left : (length v - at) / 9 ≡ suc ((length v - (at + 9)) / 9) = omega arith in
      rw (drop-drop 4 at v, get_or-drop at v 8 0, drop-drop 9 at v) at (rw left at s.rest)

  entry_long : at + 8 < length v → n + 3 ≤ length (wanted v)
  entry_long h =
      let d = length-drop n (wanted v) in
      let e = ap length (entry h) in
      omega arith

  -- there is room for it
  pub entry_room : at + 8 < length v → n + 3 ≤ length t
  entry_room h =
      let l = numbers_length (length v / 9) v in
      let e = entry_long h in
      omega (arith, s.room)

  -- the number at a place of the entry, and what comes after it
  number : (k : ℕ) (l : List ℤ) → drop n (wanted v) ≡ l → get_or l k (pos 0) ≡ get_or (wanted v) (n + k) (pos 0)
  number k l e = ap (λ (m : List ℤ). get_or m k (pos 0)) (sym e) ∙ get_or-drop n (wanted v) k (pos 0)

  rest_after : (x y f : ℤ) (l : List ℤ) → drop n (wanted v) ≡ x ∷ y ∷ f ∷ l → drop (n + 3) (wanted v) ≡ l
  rest_after x y f l e = sym (drop-drop 3 n (wanted v)) ∙ ap (drop 3) e

  stored : (l : List ℤ) (i : ℕ) (x : ℤ) → i < length (wanted v) → i < length t → x ≡ get_or (wanted v) i (pos 0) → l ≡ mix (wanted v) t i → set l i x ≡ mix (wanted v) t (i + 1)
  stored l i x h k e p =
      ap (λ (m : List ℤ). set m i x) p ∙ ap (set (mix (wanted v) t i) i) e ∙ mix_more (wanted v) t i (pos 0) h k

  pub writing_more : (x y f : ℤ) → at + 8 < length v → x ≡ int32 (take 4 (drop at v)) → y ≡ int32 (take 4 (drop (at + 4) v)) → f ≡ pos (get_or v (at + 8) 0) → Writing v t (set (set (set t' n x) (n + 1) y) (n + 2) f) (at + 9) (n + 3)
  writing_more x y f h ex ey ef =
      let r = entry_room h in
      let g = entry_long h in
      let l = numbers_length (length v / 9) v in
      let zero_more : n + 0 ≡ n = omega arith in
      let two : n + 1 + 1 ≡ n + 2 = omega arith in
      let three : n + 2 + 1 ≡ n + 3 = omega arith in
      let a = stored t' n x (omega arith) (omega arith) (ex ∙ (rw zero_more at (number 0 _ (entry h)))) s.is in
      let b = rw two at (stored (set t' n x) (n + 1) y (omega arith) (omega arith) (ey ∙ number 1 _ (entry h)) a) in
      let c = rw three at (stored (set (set t' n x) (n + 1) y) (n + 2) f (omega arith) (omega arith) (ef ∙ number 2 _ (entry h)) b) in
      record {
        room = s.room;
        within = omega arith;
        before = omega arith;
        long = simp length-set s.long;
        rest = rest_after _ _ _ _ (entry h);
        is = c;
      }

  pub writing_done : length v ≤ at + 8 → Numbers v n t t'
  unfolding numbers_of
  writing_done h =
      let left : (length v - at) / 9 ≡ 0 = omega arith in
      let none : drop n (wanted v) ≡ [] = rw left at s.rest in
      let d = length-drop n (wanted v) in
      let e = ap length none in
      let l = numbers_length (length v / 9) v in
      let all : n ≡ 3 * (length v / 9) = omega (arith, s.within) in
      record { done = λ r. (all, s.is ∙ mix_done (wanted v) t n (l ∙ sym all)); lacking = λ r. absurd (omega (arith, s.room)) }
