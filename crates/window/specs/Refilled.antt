-- Between functions: a window of a buffer: the bytes that were read and not yet used. Definitions only.
use Rattle.std.specs.Prelude.{ℕ, ◌-◌, ◌≤◌, ◌≡◌, ◌⊎◌, true, false, List, ◌++◌, drop, length, take}
use Rattle.model.specs.Limits.{need_window}
use Rattle.window.specs.declared.input.Window.{Window}

-- the bytes from one place up to another
abbrev pub bytes_of : Window → List ℕ → List ℕ
bytes_of w b = take (w.end - w.from) (drop w.from b)

-- the window w lies within the buffer b
abbrev pub Within : Window → List ℕ → Type 0
Within w b = (w.from ≤ w.end) × (w.end ≤ length b)

-- b became b', of which r has the first `have` bytes still and then what came after them; it has all of b' unless the input ended
pub record Filled (have : ℕ) (r : Window) (b b' : List ℕ) : Type 0 where
  pub front : r.from ≡ 0
  pub past : have ≤ r.end
  pub inside : r.end ≤ length b'
  pub kept : take have b' ≡ take have b
  pub full : r.ended ≡ false → r.end ≡ length b'

-- w of b became w' of b': nothing is lost, what is new comes after it, and there are enough bytes then, unless the input ended or the buffer is shorter than that
pub record Refilled (w w' : Window) (b b' : List ℕ) : Type 0 where
  pub inside : Within w' b'
  pub long : length b' ≡ length b
  pub kept : Within w b → (a : List ℕ) × (bytes_of w' b' ≡ bytes_of w b ++ a)
  pub enough : need_window ≤ length b → Within w b → (w'.ended ≡ true) ⊎ (need_window ≤ w'.end - w'.from)
  -- one with enough bytes, or after which the input ended, stays as it is
  pub stays : (w.ended ≡ true) ⊎ (need_window ≤ w.end - w.from) → Within w b → (w' ≡ w) × (b' ≡ b)
  -- a window that has no place in the buffer is told as a failure
  pub outside : (Within w b → ⊥) → (w'.ended ≡ true) × (w'.failed ≡ true)
