-- What `refill` ensures, by what became of the window: it is as it was, it is refused, or it was moved and filled. Assumes nothing.
use Prim.Native.Nat.{ℕ, zero-le, ◌+◌, ◌-◌, ◌≤◌, ◌<◌}
use native.Mathlib.Nat.{sub-zero, zero-add}
use native.Mathlib.Omega.{arith}
use mathlib.Core.Path.{◌≡◌, refl, sym, ap, ◌∙◌}
use mathlib.Core.Bool.{Bool, true, false, true≢false}
use mathlib.Core.Logic.{◌⊎◌, inl, inr, ⊎_elim}
use mathlib.Core.List.{List, ◌++◌}
use lib.ListN.{length, length-drop, take, drop}
use lib.Seq.{take-add, take-paste}
use Rattle.window.specs.declared.input.Window.{Window}
use Rattle.window.specs.Refilled.{Filled, Refilled, Within, bytes_of}
use Rattle.std.specs.List.{copy_within}
use Rattle.model.specs.Limits.{need_window}

-- a window that has no place in the buffer
pub refused : (w r : Window) (b : List ℕ) → (Within w b → ⊥) → r ≡ record { from = 0; end = 0; ended = true; failed = true } → Refilled w r b b
refused w r b out e =
    rw e
    (record {
      inside = omega arith;
      long = refl;
      kept = λ h. absurd (out h);
      enough = λ _ h. absurd (out h);
      stays = λ _ h. absurd (out h);
      outside = λ _. (refl, refl);
    })

-- the window's bytes were moved to the front, as in b₁, and the rest was filled
pub filled : (w w' : Window) (b b₁ b' : List ℕ) → Within w b → w.ended ≡ false → w.end - w.from < need_window → length b' ≡ length b
    → take (w.end - w.from) b₁ ≡ take (w.end - w.from) (drop w.from b) → Filled (w.end - w.from) w' b₁ b' → Refilled w w' b b'
filled w w' b b₁ b' within on narrow long moved f =
    record {
      inside = omega arith;
      long = long;
      kept = λ _. (take (w'.end - n) (drop n b'), new);
      enough = λ big _. either w'.ended refl big;
      stays = λ e _. absurd (⊎_elim (λ t. true≢false (sym t ∙ on)) (λ l. omega arith) e);
      outside = λ out. absurd (out within);
    }
  where
    n : ℕ
    n = w.end - w.from

    new : bytes_of w' b' ≡ bytes_of w b ++ take (w'.end - n) (drop n b')
    new =
        let e : w'.end ≡ n + (w'.end - n) = omega arith in
        let whole : take w'.end b' ≡ take n b' ++ take (w'.end - n) (drop n b') = ap (λ (k : ℕ). take k b') e ∙ take-add n (w'.end - n) b' in
        rw (f.front, sub-zero w'.end, whole, f.kept, moved)

    either : (t : Bool) → w'.ended ≡ t → need_window ≤ length b → (w'.ended ≡ true) ⊎ (need_window ≤ w'.end - w'.from)
    either true e big = inl e
    either false e big = let full : w'.end ≡ length b' = f.full e in let l : need_window ≤ w'.end - w'.from = omega arith in inr l

-- the bytes that are passed are at the front then
pub moved : (b b' : List ℕ) (from end : ℕ) → from ≤ end → end ≤ length b → b' ≡ copy_within b from end 0 → take (end - from) b' ≡ take (end - from) (drop from b)
moved b b' from end h k e =
    let n : ℕ = end - from in
    let l : n ≤ length (drop from b) = simp length-drop (omega arith) in
    ap (take n) e ∙ ap (λ (m : ℕ). take m (copy_within b from end 0)) (sym (zero-add n)) ∙ take-paste b 0 (drop from b) n zero-le l
