-- Any two permitted answers of a public function are equal. Assumes nothing.
-- Every contract of this crate but one is an equation `r ≡ definition of the inputs`, and `one_answer` is all there is to say; the other is `Threshold b t`, where it is
-- `threshold_one` (`proofs/Thresholds.antt`).
use Rattle.std.proofs.Common.{◌≡◌, sym, ◌∙◌}

pub one_answer : {A : Type 0} {r s answer : A} → r ≡ answer → s ≡ answer → r ≡ s
one_answer p q = p ∙ sym q
