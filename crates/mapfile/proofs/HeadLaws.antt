-- The judgement of a field's head, test by test. Assumes nothing.
use Rattle.std.proofs.Common.{◌≡◌, ℕ, ◌/◌, ◌<◌, ◌≤◌, Bool, true, false, cond, ◌&&◌, eqb, ltb, List, length, get_or, take, drop, ◌⊎◌, sym, refl, ⊎_elim, length-take-le, le-ltb, lt-ltb, eq-eqb, ne_eqb}
use Rattle.model.specs.MapFile.{bad_flag, due, entry_bytes, fitting, placed}
use Rattle.model.specs.MapFile as model
use Rattle.model.specs.Refusal.{first_due, is_due}
use Rattle.mapfile.specs.Fields.{due_at, length_at}

module _ (t n : ℕ) where
  -- ---- what is due, in the order of the tests
  -- a batch that is too long
  abbrev pub Long : Bool → Type 0
  Long a = (eqb t 3 && ltb 2304 n) ≡ a

  pub long : t ≡ 3 → 2304 < n → Long true
  long h k = rw (eq-eqb t 3 h, lt-ltb 2304 n k) refl

  short : t ≡ 3 → n ≤ 2304 → Long false
  short h k = rw (eq-eqb t 3 h, le-ltb 2304 n k) refl

  other : (t ≡ 3 → ⊥) → (a : Bool) → eqb t 3 && a ≡ false
  other h a = rw (ne_eqb t 3 h) refl

  pub not_long : ((t ≡ 3) × (n ≤ 2304)) ⊎ (t ≡ 3 → ⊥) → Long false
  not_long = ⊎_elim (λ h. short h.0 h.1) (λ h. other h (ltb 2304 n))

module _ (t n : ℕ) (b : List ℕ) where
  pub due_long : Long t n true → 3 ≡ due t n b
  unfolding first_due is_due
  due_long h = rw h refl

  pub due_unfit : Long t n false → fitting t n ≡ false → 10 ≡ due t n b
  unfolding first_due is_due
  due_unfit h k = rw (h, k) refl

  pub due_lacking : Long t n false → fitting t n ≡ true → length b < n → 10 ≡ due t n b
  unfolding first_due is_due
  due_lacking h k l = rw (h, k, lt-ltb (length b) n l) refl

  flags : (a : Bool) → t ≡ 3 → n ≤ length b → bad_flag (length (take n b) / entry_bytes) (take n b) ≡ a → eqb t 3 && bad_flag (n / entry_bytes) (take n b) ≡ a
  flags a h k f = rw (eq-eqb t 3 h) (rw (length-take-le n b k) at f)

  due_flags : Long t n false → fitting t n ≡ true → n ≤ length b → (a : Bool) → eqb t 3 && bad_flag (n / entry_bytes) (take n b) ≡ a → cond a 10 0 ≡ due t n b
  unfolding first_due is_due
  due_flags h k l a f = rw (h, k, le-ltb (length b) n l, f) refl

  -- the flags of a batch, as a part of what follows has them
  pub due_bad : Long t n false → fitting t n ≡ true → n ≤ length b → t ≡ 3 → bad_flag (length (take n b) / entry_bytes) (take n b) ≡ true → 10 ≡ due t n b
  due_bad h k l e f = due_flags h k l true (flags true e l f)

  pub due_none : Long t n false → fitting t n ≡ true → n ≤ length b → ((t ≡ 3) × (bad_flag (length (take n b) / entry_bytes) (take n b) ≡ false)) ⊎ (t ≡ 3 → ⊥) → 0 ≡ due t n b
  due_none h k l = ⊎_elim (λ e. due_flags h k l false (flags false e.0 l e.1)) (λ e. due_flags h k l false (other t n e (bad_flag (n / entry_bytes) (take n b))))

-- ---- the head
module _ (e : model.Expected) (b : List ℕ) where
  pub at_short : length b < 3 → due_at e b ≡ 10
  unfolding due_at
  at_short h = rw (lt-ltb (length b) 3 h) refl

  pub at_unplaced : 3 ≤ length b → placed e (get_or b 0 0) ≡ false → due_at e b ≡ 10
  unfolding due_at
  at_unplaced h k = rw (le-ltb (length b) 3 h, k) refl

  -- with the length and the rest as the code has them
  pub at_due : (n r : ℕ) (rest : List ℕ) → 3 ≤ length b → placed e (get_or b 0 0) ≡ true → n ≡ length_at b → rest ≡ drop 3 b → r ≡ due (get_or b 0 0) n rest → due_at e b ≡ r
  unfolding due_at
  at_due n r rest h k p q d = rw (le-ltb (length b) 3 h, k, ← p, ← q) (sym d)
