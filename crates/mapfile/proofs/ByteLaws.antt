-- The model's reading of one field, from the first bytes on: by what is due of its head, what is known of its length and value where nothing is, and that bytes after a window change nothing. Assumes nothing.
use Rattle.std.proofs.Common.{◌≡◌, ℕ, suc, ◌+◌, ◌*◌, ◌/◌, ◌%◌, ◌<◌, ◌≤◌, Bool, true, false, cond, not, ◌&&◌, ◌||◌, eqb, ltb, List, [], ◌∷◌, ◌++◌, length, get_or, take, drop, sym, refl, ap, ◌∙◌, not-suc-le-zero, arith, length-append, length-drop, ltb-false, le-ltb, eq-eqb, eqb-true}
use lib.ListN.{get_or-append}
use lib.Seq.{drop-append-le, take-append-le}
use borrow.Author.Tests.{not-false}
use Rattle.model.specs.MapFile.{Expected, Reader, Reading, bad_flag, batches, due, end, entries, entry_bytes, fitting, float64, more, one_field, onward, placed, radius, refused, size, sized, take_batch, take_end, take_radius, take_size, taken}
use Rattle.model.proofs.DueLaws.{or_parts}
use Rattle.model.specs.Map.{batch}
use Rattle.model.specs.Refusal.{bad_radius, bad_size, first_due, is_due, nothing, opened, refusal, step}
use Rattle.mapfile.specs.Fields.{due_at, length_at}
use Rattle.mapfile.specs.Windows.{extend}
use Rattle.mapfile.proofs.HeadLaws.{Long}

-- ---- a field is its head, and then its value
same : {A : Type 0} (t : Bool) (a : A) → cond t a a ≡ a
same true a = refl
same false a = refl

-- the field's reading by the number that is due
abbrev pub headed : ℕ → Reader → List ℕ → Reading
headed k R b = cond (eqb k 0) (taken R.expected R (get_or b 0 0) (take (length_at b) (drop 3 b)) (drop (length_at b) (drop 3 b))) (refused k R.field)

pub field_head : (R : Reader) (b : List ℕ) → 0 < length b → one_field R b ≡ headed (due_at R.expected b) R b
unfolding one_field sized due_at
field_head R [] h = absurd (not-suc-le-zero h)
field_head R (t ∷ []) h = same (placed R.expected t) (refused 10 R.field)
field_head R (t ∷ u ∷ []) h = same (placed R.expected t) (refused 10 R.field)
field_head R (t ∷ u ∷ l ∷ b) h =
    let three : 3 ≤ suc (suc (suc (length b))) = omega arith in
    rw (le-ltb (suc (suc (suc (length b)))) 3 three) (go (placed R.expected t))
  where
    go : (p : Bool) → cond p (sized R t (u * 256 + l) b) (refused 10 R.field) ≡ headed (cond p (due t (u * 256 + l) b) 10) R (t ∷ u ∷ l ∷ b)
    go true = refl
    go false = refl

-- ---- where nothing is due, every test was passed
passed : (t : Bool) (k n : ℕ) → (k ≡ 0 → ⊥) → cond t k n ≡ 0 → (t ≡ false) × (n ≡ 0)
passed true k n z h = absurd (z h)
passed false k n z h = (refl, h)

holds : (t : Bool) (n : ℕ) → cond t n 10 ≡ 0 → (t ≡ true) × (n ≡ 0)
holds true n h = (refl, h)
holds false n h = absurd (omega arith)

-- the tests of a length and a value
record Passed (t n : ℕ) (b : List ℕ) : Type 0 where
  short : Long t n false
  fits : fitting t n ≡ true
  there : n ≤ length b
  flags : eqb t 3 && bad_flag (n / entry_bytes) (take n b) ≡ false

all_passed : (t n : ℕ) (b : List ℕ) → due t n b ≡ 0 → Passed t n b
unfolding first_due is_due
all_passed t n b h =
    let flags : Bool = eqb t 3 && bad_flag (n / entry_bytes) (take n b) in
    let value : Bool = not (fitting t n) || ltb (length b) n || flags in
    let p = passed (eqb t 3 && ltb 2304 n) 3 (cond value 10 0) (λ z. omega arith) h in
    let q = or_parts (not (fitting t n) || ltb (length b) n) flags (passed value 10 0 (λ z. omega arith) p.1).0 in
    let r = or_parts (not (fitting t n)) (ltb (length b) n) q.0 in
    record { short = p.0; fits = not-false (fitting t n) r.0; there = ltb-false (length b) n r.1; flags = q.1 }

module _ (e : Expected) (b : List ℕ) (h : due_at e b ≡ 0) where
  three : (3 ≤ length b) × (cond (placed e (get_or b 0 0)) (due (get_or b 0 0) (length_at b) (drop 3 b)) 10 ≡ 0)
  unfolding due_at
  three =
      let p = passed (ltb (length b) 3) 10 (cond (placed e (get_or b 0 0)) (due (get_or b 0 0) (length_at b) (drop 3 b)) 10) (λ z. omega arith) h in
      (ltb-false (length b) 3 p.0, p.1)

  tag : (placed e (get_or b 0 0) ≡ true) × (due (get_or b 0 0) (length_at b) (drop 3 b) ≡ 0)
  tag = holds (placed e (get_or b 0 0)) (due (get_or b 0 0) (length_at b) (drop 3 b)) three.1

  tests : Passed (get_or b 0 0) (length_at b) (drop 3 b)
  tests = all_passed (get_or b 0 0) (length_at b) (drop 3 b) tag.1

  pub head_within : length_at b + 3 ≤ length b
  head_within =
      let l = length-drop 3 b in
      omega (arith, tests.there, three.0)

  pub head_placed : placed e (get_or b 0 0) ≡ true
  head_placed = tag.0

  pub head_fits : fitting (get_or b 0 0) (length_at b) ≡ true
  head_fits = tests.fits

  pub head_flags : get_or b 0 0 ≡ 3 → bad_flag (length_at b / entry_bytes) (take (length_at b) (drop 3 b)) ≡ false
  head_flags k = rw (eq-eqb (get_or b 0 0) 3 k) at tests.flags

  pub head_short : get_or b 0 0 ≡ 3 → length_at b ≤ 2304
  head_short k = ltb-false 2304 (length_at b) (rw (eq-eqb (get_or b 0 0) 3 k) at tests.short)

-- ---- a field is decided by its first 2,307 bytes: a length that fits is at most 2,304
fit_short : (t n : ℕ) → Long t n false → fitting t n ≡ true → n ≤ 2304
fit_short t n = go (eqb t 3) (eqb t 255)
  where
    go : (p q : Bool) → p && ltb 2304 n ≡ false → cond p (eqb (n % 9) 0) (eqb n (cond q 0 8)) ≡ true → n ≤ 2304
    go true q h k = ltb-false 2304 n h
    go false true h k = let e = eqb-true n 0 k in omega arith
    go false false h k = let e = eqb-true n 8 k in omega arith

due_same : (t n : ℕ) (b m : List ℕ) → 2304 ≤ length b → due t n (b ++ m) ≡ due t n b
unfolding first_due is_due
due_same t n b m l = go (eqb t 3 && ltb 2304 n) (fitting t n) refl refl
  where
    value : Bool → List ℕ → ℕ
    value q c = cond (not q || ltb (length c) n || (eqb t 3 && bad_flag (n / entry_bytes) (take n c))) 10 0

    go : (p q : Bool) → Long t n p → fitting t n ≡ q → cond p 3 (value q (b ++ m)) ≡ cond p 3 (value q b)
    go true q h k = refl
    go false false h k = refl
    go false true h k =
        let s = fit_short t n h k in
        let i : n ≤ length b = omega arith in
        let j : n ≤ length (b ++ m) = simp length-append (omega arith) in
        rw (le-ltb (length (b ++ m)) n j, le-ltb (length b) n i, take-append-le n b m i) refl

in_window : (w m : List ℕ) (k : ℕ) → 2307 ≤ length w → k < 3 → get_or (w ++ m) k 0 ≡ get_or w k 0
in_window w m k h l = get_or-append w m 0 k (omega arith)

pub due_window : (e : Expected) (w m : List ℕ) → 2307 ≤ length w → due_at e (w ++ m) ≡ due_at e w
unfolding due_at
due_window e w m h =
    let i : 3 ≤ length w = omega arith in
    let j : 3 ≤ length (w ++ m) = simp length-append (omega arith) in
    let l : 2304 ≤ length (drop 3 w) = simp length-drop (omega arith) in
    rw (le-ltb (length (w ++ m)) 3 j, le-ltb (length w) 3 i, in_window w m 0 h (omega arith), in_window w m 1 h (omega arith), in_window w m 2 h (omega arith), drop-append-le 3 w m i, due_same (get_or w 0 0) (length_at w) (drop 3 w) m l) refl

-- a field that is taken leaves what comes after the window as it is
module _ (m : List ℕ) where
  pushed : (t : Bool) (a b : Reading) → cond t (extend m a) (extend m b) ≡ extend m (cond t a b)
  pushed true a b = refl
  pushed false a b = refl

  taken_window : (e : Expected) (R : Reader) (t : ℕ) (v rest : List ℕ) → taken e R t v (rest ++ m) ≡ extend m (taken e R t v rest)
  unfolding take_size take_radius take_batch
  taken_window size R t v rest = pushed (bad_size (float64 v)) (refused 1 R.field) (more (onward R radius (float64 v) nothing) rest)
  taken_window radius R t v rest =
      let q = float64 v in
      pushed (bad_radius R.cell_size q) (refused 2 R.field) (more (onward R batches R.cell_size (opened R.cell_size q)) rest)
  taken_window batches R t v rest =
      let o = batch (entries (length v / entry_bytes) v) in
      let n = refusal o R.map in
      ap (λ (s : Reading). cond (eqb t 3) s (take_end R (rest ++ m))) (pushed (eqb n 0) (more (onward R batches R.cell_size (step o R.map)) rest) (refused n R.field))
      ∙ pushed (eqb t 3) (take_batch R v rest) (take_end R rest)
  taken_window end R t v rest = refl

pub field_window : (R : Reader) (w m : List ℕ) → 2307 ≤ length w → one_field R (w ++ m) ≡ extend m (one_field R w)
field_window R w m h =
    let i : 0 < length w = omega arith in
    let j : 0 < length (w ++ m) = simp length-append (omega arith) in
    field_head R (w ++ m) j
    ∙ ap (λ (k : ℕ). headed k R (w ++ m)) (due_window R.expected w m h)
    ∙ go (eqb (due_at R.expected w) 0) refl
    ∙ ap (extend m) (sym (field_head R w i))
  where
    good : Expected → List ℕ → Reading
    good e b = taken e R (get_or b 0 0) (take (length_at b) (drop 3 b)) (drop (length_at b) (drop 3 b))

    inside : due_at R.expected w ≡ 0 → good R.expected (w ++ m) ≡ extend m (good R.expected w)
    inside d =
        let l = head_within R.expected w d in
        let i : 3 ≤ length w = omega arith in
        let j : length_at w ≤ length (drop 3 w) = simp length-drop (omega arith) in
        rw (in_window w m 0 h (omega arith), in_window w m 1 h (omega arith), in_window w m 2 h (omega arith), drop-append-le 3 w m i, take-append-le (length_at w) (drop 3 w) m j, drop-append-le (length_at w) (drop 3 w) m j)
        (taken_window m R.expected R (get_or w 0 0) (take (length_at w) (drop 3 w)) (drop (length_at w) (drop 3 w)))

    go : (p : Bool) → eqb (due_at R.expected w) 0 ≡ p
        → cond p (good R.expected (w ++ m)) (refused (due_at R.expected w) R.field) ≡ extend m (cond p (good R.expected w) (refused (due_at R.expected w) R.field))
    go true d = inside (eqb-true (due_at R.expected w) 0 d)
    go false d = refl
