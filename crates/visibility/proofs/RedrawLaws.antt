-- The tables of a layer's points drawn anew, from what each step leaves. Assumes nothing.
use Prim.Native.Nat.{ℕ, zero, suc, ◌+◌, ◌≤◌, ◌<◌, zero-le}
use native.Mathlib.Nat.{le_of_suc-le-suc, not-suc-le-zero}
use native.Mathlib.Omega.{arith}
use mathlib.Core.Path.{◌≡◌, refl, sym, ap, ◌∙◌}
use mathlib.Core.List.{List, [], ◌∷◌, ◌++◌}
use mathlib.Core.Option.{Option}
use lib.ListN.{length, length-replicate, drop, get_or, replicate, set, length-set}
use Rattle.table.proofs.Front.{mix, mix_done, mix_more}
use Rattle.marks.specs.Standing.{Small, Standing, mood, word}
use Rattle.marks.specs.declared.mood.Mood.{Mood}
use Rattle.model.specs.Batch.{Batch}
use Rattle.model.specs.Corner.{number, zero4}
use Rattle.model.specs.Layer.{Tests}
use Rattle.model.specs.Limits.{max_points}
use Rattle.model.specs.Maps.{keys}
use Rattle.sight.specs.Blocked.{Fitting, Stood, point_blocks, words_of}
use Rattle.held.specs.Codes.{codes}
use Rattle.sight.proofs.BlockLaws.{blocks_length, fitting_at, words_at, words_length}
use Rattle.held.proofs.LayerLaws.{codes_length}
use Rattle.table.specs.Copied.{Copied}
use Rattle.table.specs.Tables.{pad}
use Rattle.table.proofs.ListedLaws.{keys_length}
use Rattle.table.proofs.TableLaws.{pad_length}
use Rattle.visibility.specs.Layers.{numbers_of}
use Rattle.visibility.specs.Redraw.{Drawing, Drawn}
use Rattle.held.proofs.PadLaws.{copied}
use Rattle.visibility.proofs.ClearLaws.{padded}

-- ---- the statuses
numbers_length : (S : Stood) → length (numbers_of S) ≡ length S
numbers_length [] = refl
numbers_length (e ∷ S) = ap suc (numbers_length S)

numbers_at : (S : Stood) (i : ℕ) (z : ℕ × Standing) → i < length S → get_or (numbers_of S) i 0 ≡ number (get_or S i z).1.bits
numbers_at [] i z h = absurd (not-suc-le-zero h)
numbers_at (e ∷ S) zero z h = refl
numbers_at (e ∷ S) (suc i) z h = numbers_at S i z (le_of_suc-le-suc h)

-- i statuses are written
pub record Writing (moods out out' : List ℕ) (i : ℕ) : Type 0 where
  pub inside : i ≤ length moods
  pub long : length out' ≡ length out
  pub is : (S : Stood) → Fitting S → moods ≡ words_of S → out' ≡ mix (numbers_of S) out i

pub writing_none : (moods out : List ℕ) → Writing moods out out 0
writing_none moods out = record { inside = zero-le; long = refl; is = λ S f e. refl }

module _ (moods out out' : List ℕ) (i : ℕ) (room : length moods ≤ length out) (w : Writing moods out out' i) where
  pub writing_more : i < length moods → (m : Mood) → ((s : Standing) → Small s → get_or moods i 0 ≡ word s → m ≡ mood s) → Writing moods out (set out' i m.status) (i + 1)
  writing_more h m g = record {
    inside = omega arith;
    long = length-set out' i m.status ∙ w.long;
    is = λ S f e.
        let z : ℕ × Standing = (0, record { bits = zero4; old = 0; first = 0 }) in
        let l : length moods ≡ length S = ap length e ∙ words_length S in
        let j : i < length S = omega arith in
        let x = fitting_at S i z f j in
        let b : m.status ≡ get_or (numbers_of S) i 0 =
        ap (λ (y : Mood). y.status) (g (get_or S i z).1 x.0 (ap (λ (y : List ℕ). get_or y i 0) e ∙ words_at S i z j)) ∙ sym (numbers_at S i z j) in
        let k : i < length (numbers_of S) = rw (numbers_length S) j in
        let q : i < length out = omega arith in
        ap (λ (y : List ℕ). set y i m.status) (w.is S f e) ∙ ap (set (mix (numbers_of S) out i) i) b ∙ mix_more (numbers_of S) out i 0 k q;
  }

  pub writing_done : length moods ≤ i → (S : Stood) → Fitting S → moods ≡ words_of S → out' ≡ numbers_of S ++ drop (length S) out
  writing_done h S f e =
      let l : length moods ≡ length S = ap length e ∙ words_length S in
      let j : i ≡ length S = omega (arith, w.inside) in
      w.is S f e ∙ ap (mix (numbers_of S) out) j ∙ mix_done (numbers_of S) out (length S) (numbers_length S)

-- ---- the three tables of the points
module _ (t : Tests) (C : List ℕ) (ch : Batch) (S : Stood) (B : List (Option ℕ)) (confirmed full present moods points statuses blockers : List ℕ) (count : ℕ)
    (d : Drawing C ch S B confirmed full present moods points statuses blockers count) where
  module _ (newKeys newStatuses newBlockers points' statuses' blockers' : List ℕ) (k : Copied present (replicate max_points 0) newKeys)
      (f : (S : Stood) → Fitting S → moods ≡ words_of S → newStatuses ≡ numbers_of S ++ drop (length S) (replicate max_points 0))
      (g : newBlockers ≡ codes (point_blocks t C ch B S) ++ drop (length S) (replicate max_points 0))
      (a : Copied newKeys points points') (b : Copied newStatuses statuses statuses') (e : Copied newBlockers blockers blockers') where
    keys_are_lem : newKeys ≡ pad max_points (keys S)
    keys_are_lem =
        let q : Copied (keys S) (replicate max_points 0) newKeys = rw d.seeing.points_are at k in
        q.done (rw (length-replicate {A = ℕ} max_points 0, keys_length S) d.few) ∙ padded (keys S) (length (keys S)) max_points refl

    statuses_are_lem : newStatuses ≡ pad max_points (numbers_of S)
    statuses_are_lem = f S d.seeing.fitting d.seeing.moods_are ∙ padded (numbers_of S) (length S) max_points (numbers_length S)

    blockers_are : newBlockers ≡ pad max_points (codes (point_blocks t C ch B S))
    blockers_are = g ∙ padded (codes (point_blocks t C ch B S)) (length S) max_points (codes_length (point_blocks t C ch B S) ∙ blocks_length t C ch B S)

    store : (l u u' v : List ℕ) → u ≡ pad max_points l → length l ≤ max_points → max_points ≤ length v → Copied u v u' → u' ≡ pad max_points l ++ drop max_points v
    store l u u' v q few room = copied u (pad max_points l) v u' max_points q (pad_length max_points l few) room

    pub drawn : Drawn t C ch S B points points' statuses statuses' blockers blockers'
    drawn =
        let few = d.few in
        record {
          keys_are = store (keys S) newKeys points' points keys_are_lem (rw (keys_length S) few) d.points_room a;
          statuses_are = store (numbers_of S) newStatuses statuses' statuses statuses_are_lem (rw (numbers_length S) few) d.statuses_room b;
          blocks_are = store (codes (point_blocks t C ch B S)) newBlockers blockers' blockers blockers_are (rw (codes_length (point_blocks t C ch B S), blocks_length t C ch B S) few) d.blockers_room e;
        }
