-- What blocks the points, written from the front. Assumes nothing.
use Prim.Native.Nat.{ℕ, zero, suc, ◌+◌, ◌≤◌, ◌<◌}
use native.Mathlib.Nat.{le_of_suc-le-suc, not-suc-le-zero}
use native.Mathlib.Omega.{arith}
use mathlib.Core.Path.{◌≡◌, refl, sym, ap, ◌∙◌}
use mathlib.Core.Logic.{◌⊎◌, inl, inr}
use mathlib.Core.List.{List, [], ◌∷◌, ◌++◌}
use mathlib.Core.Option.{Option, none}
use lib.ListN.{length, drop, get_or, set, length-set}
use lib.Ieee.{Float}
use Rattle.table.proofs.ListedLaws.{keys_at}
use Rattle.batches.proofs.ListedLaws.{flags_length}
use Rattle.table.proofs.Front.{mix, mix_done, mix_more}
use Rattle.marks.specs.Standing.{Small, Standing, mood, word}
use Rattle.marks.specs.declared.mood.Mood.{Mood}
use Rattle.model.specs.Batch.{Batch}
use Rattle.model.specs.Cell as cell
use Rattle.model.specs.ClosedForm.{point_run}
use Rattle.model.specs.Corner.{zero4}
use Rattle.model.specs.Layer.{Tests}
use Rattle.model.specs.Limits.{max_points}
use Rattle.model.specs.Map.{shift_of, tests}
use Rattle.table.proofs.ListedLaws.{keys_length}
use Rattle.held.specs.Codes.{AllNamed, block_code, codes}
use Rattle.sight.specs.Blocked.{Fitting, PointRuns, PointStarts, Seeing, Stood, point_blocks, point_start, words_of}
use Rattle.looks.proofs.NamedLaws.{square_named}
use Rattle.sight.proofs.PointLaws.{codes_at, start_named}
use Rattle.held.proofs.LayerLaws.{codes_length}

-- ---- the points as they are lent
abbrev pub nobody : ℕ × Standing
nobody = (0, record { bits = zero4; old = 0; first = 0 })

pub words_length : (S : Stood) → length (words_of S) ≡ length S
words_length [] = refl
words_length (e ∷ S) = ap suc (words_length S)

pub words_at : (S : Stood) (i : ℕ) (z : ℕ × Standing) → i < length S → get_or (words_of S) i 0 ≡ word (get_or S i z).1
words_at [] i z h = absurd (not-suc-le-zero h)
words_at (e ∷ S) zero z h = refl
words_at (e ∷ S) (suc i) z h = words_at S i z (le_of_suc-le-suc h)

pub fitting_at : (S : Stood) (i : ℕ) (z : ℕ × Standing) → Fitting S → i < length S → Small (get_or S i z).1 × ((get_or S i z).1.old ≤ max_points)
fitting_at [] i z f h = absurd (not-suc-le-zero h)
fitting_at (e ∷ S) zero z f h = (f.0, f.1)
fitting_at (e ∷ S) (suc i) z f h = fitting_at S i z f.2 (le_of_suc-le-suc h)

-- what is lent of the points has one length
pub record Fits (confirmed full points moods : List ℕ) (n : ℕ) : Type 0 where
  pub changes : length confirmed ≡ length full
  pub count : length points ≡ n
  pub words : length moods ≡ n

pub seeing_fits : {C : List ℕ} {ch : Batch} {S : Stood} {confirmed full points moods : List ℕ} → Seeing C ch S confirmed full points moods → Fits confirmed full points moods (length S)
seeing_fits {C} {ch} {S} {confirmed} {full} {points} {moods} s =
    record {
      changes = ap length s.confirmed_are ∙ keys_length ch ∙ sym (ap length s.full_are ∙ flags_length ch);
      count = ap length s.points_are ∙ keys_length S;
      words = ap length s.moods_are ∙ words_length S;
    }

-- no list is short
pub never_short : {C : List ℕ} {ch : Batch} {S : Stood} {confirmed full points moods : List ℕ} (n : ℕ) → Seeing C ch S confirmed full points moods → length S ≤ n
    → (length full < length confirmed) ⊎ ((length moods < length points) ⊎ (n < length points)) → ⊥
never_short n s h (inl l) = let f = seeing_fits s in omega arith
never_short n s h (inr (inl l)) = let f = seeing_fits s in omega arith
never_short n s h (inr (inr l)) = let f = seeing_fits s in omega arith

-- ---- what is wanted
pub blocks_length : (t : Tests) (C : List ℕ) (ch : Batch) (B : List (Option ℕ)) (S : Stood) → length (point_blocks t C ch B S) ≡ length S
unfolding point_blocks
blocks_length t C ch B [] = refl
blocks_length t C ch B (e ∷ S) = ap suc (blocks_length t C ch B S)

blocks_at : (t : Tests) (C : List ℕ) (ch : Batch) (B : List (Option ℕ)) (S : Stood) (i : ℕ) (z : ℕ × Standing) → i < length S
    → get_or (point_blocks t C ch B S) i none ≡ point_run t C (get_or S i z).0 ch (point_start t C B (get_or S i z).0 (get_or S i z).1)
unfolding point_blocks
blocks_at t C ch B [] i z h = absurd (not-suc-le-zero h)
blocks_at t C ch B (e ∷ S) zero z h = refl
blocks_at t C ch B (e ∷ S) (suc i) z h = blocks_at t C ch B S i z (le_of_suc-le-suc h)

-- ---- the loop: the first i are written
pub record Blocking (size radius : Float) (reach : ℕ) (C confirmed full points moods old out₀ : List ℕ) (i : ℕ) (out : List ℕ) : Type 0 where
  pub inside : i ≤ length points
  pub same : length out ≡ length out₀
  pub front : (ch : Batch) (S : Stood) (B : List (Option ℕ)) → Seeing C ch S confirmed full points moods → reach ≡ cell.reach (shift_of size radius) → old ≡ codes B → AllNamed B
      → out ≡ mix (codes (point_blocks (tests size radius) C ch B S)) out₀ i

module _ {size radius : Float} {reach : ℕ} {C confirmed full points moods old out₀ : List ℕ} {i : ℕ} {out : List ℕ} (w : Blocking size radius reach C confirmed full points moods old out₀ i out) where
  -- the point at i, of this mood, begins with `start` and ends with r
  pub blocking_next : (m : Mood) (start r : ℕ) → i < length points → length points ≤ length out₀ → ((s : Standing) → Small s → get_or moods i 0 ≡ word s → m ≡ mood s)
      → PointStarts size radius C old (get_or points i 0) m start → PointRuns size radius reach C confirmed full (get_or points i 0) start r
      → Blocking size radius reach C confirmed full points moods old out₀ (i + 1) (set out i r)
  blocking_next m start r h room isMood isStart isEnd = record {
    inside = omega arith;
    same = length-set out i r ∙ w.same;
    front = λ ch S B s n b a.
        let f = seeing_fits s in
        let l : i < length S = rw f.count at h in
        let t : Tests = tests size radius in
        let x : ℕ × Standing = get_or S i nobody in
        let k : get_or points i 0 ≡ x.0 = ap (λ (y : List ℕ). get_or y i 0) s.points_are ∙ keys_at S i nobody.1 in
        let v : get_or moods i 0 ≡ word x.1 = ap (λ (y : List ℕ). get_or y i 0) s.moods_are ∙ words_at S i nobody l in
        let j : ℕ = get_or points i 0 in
        let e : m ≡ mood x.1 = isMood x.1 (fitting_at S i nobody s.fitting l).0 v in
        let o : Option ℕ = point_start t C B j x.1 in
        let z : r ≡ block_code (point_run t C j ch o) =
        isEnd ch o s.order s.inside s.changes s.confirmed_are s.full_are n (isStart B x.1 s.order s.inside b e) (start_named t C B j x.1 (square_named size radius C j s.inside) a) in
        let want : List ℕ = codes (point_blocks t C ch B S) in
        let is : r ≡ get_or want i 0 =
        z
        ∙ ap (λ (y : ℕ). block_code (point_run t C y ch (point_start t C B y x.1))) k
        ∙ sym (codes_at (point_blocks t C ch B S) i ∙ ap block_code (blocks_at t C ch B S i nobody l)) in
        let lw : i < length want = rw (codes_length (point_blocks t C ch B S), blocks_length t C ch B S) l in
        let lo : i < length out₀ = omega arith in
        ap (λ (y : List ℕ). set y i r) (w.front ch S B s n b a) ∙ ap (set (mix want out₀ i) i) is ∙ mix_more want out₀ i 0 lw lo;
  }

  pub blocking_end : length points ≤ i → (ch : Batch) (S : Stood) (B : List (Option ℕ)) → Seeing C ch S confirmed full points moods → reach ≡ cell.reach (shift_of size radius) → old ≡ codes B → AllNamed B
      → out ≡ codes (point_blocks (tests size radius) C ch B S) ++ drop (length S) out₀
  blocking_end h ch S B s n b a =
      let f = seeing_fits s in
      let e : i ≡ length S = let x = f.count in let y = w.inside in omega arith in
      let P : List (Option ℕ) = point_blocks (tests size radius) C ch B S in
      w.front ch S B s n b a
      ∙ mix_done (codes P) out₀ i (codes_length P ∙ blocks_length (tests size radius) C ch B S ∙ sym e)
      ∙ ap (λ (j : ℕ). codes P ++ drop j out₀) e
