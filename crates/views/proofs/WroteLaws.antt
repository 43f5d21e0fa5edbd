-- What a loop wrote, as the one output of a call. Assumes nothing.
use Prim.Native.Nat.{ℕ}
use mathlib.Core.Path.{◌≡◌}
use mathlib.Core.List.{List, [], ◌∷◌}
use Rattle.answers.specs.Asking.{Front, Written}
use Rattle.model.specs.Map as model

pub written_list : (n : ℕ) (was is : List ℕ) (wanted : model.Map → List ℕ) (M : model.Map) (l : List ℕ) → wanted M ≡ l → Front l n was is → Written M n (record { was = was; is = is; wanted = wanted } ∷ [])
written_list n was is wanted M l e w = rw e (w.0, w.1, tt)
