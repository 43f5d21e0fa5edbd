-- A cell size is bad exactly if one of the two tests fails: a number that passes both is finite. Assumes nothing.
use mathlib.Core.Path.{◌≡◌, refl, sym}
use mathlib.Core.Bool.{Bool, true, false, not, ◌&&◌, and-false, false≢true}
use lib.Ieee.{Float, nan, inf, fin, le, lt, eq}
use Rattle.model.specs.Limits.{least_size, most_size}
use Rattle.model.specs.Refusal.{bad_size, finite}

size_good : (c : Float) → le least_size c ≡ true → le c most_size ≡ true → bad_size c ≡ false
unfolding bad_size le lt eq
size_good nan h k = absurd (false≢true h)
size_good (inf true) h k = absurd (false≢true h)
size_good (inf false) h k = absurd (false≢true k)
size_good (fin s m e) h k = rw (h, k)

pub size_small : (c : Float) → le least_size c ≡ false → bad_size c ≡ true
unfolding bad_size
size_small nan h = refl
size_small (inf s) h = refl
size_small (fin s m e) h = rw h

size_large : (c : Float) → le c most_size ≡ false → bad_size c ≡ true
unfolding bad_size
size_large c h = rw (h, and-false (finite c && le least_size c))

pub size_most : (c : Float) → le least_size c ≡ true → not (le c most_size) ≡ bad_size c
size_most c h = go (le c most_size) refl
  where
    go : (b : Bool) → le c most_size ≡ b → not b ≡ bad_size c
    go true e = sym (size_good c h e)
    go false e = sym (size_large c e)
