-- `value::bad_flags`: the last byte of each entry (ValueLaws.antt).
use Rattle.std.proofs.Common.{◌/◌, ltb, List, ℕ, length, get_or, rules, ◌∙◌}
use borrow.Author.Tests.{tests}
use Rattle.std.specs.Simd.{first_chunks}
use Rattle.std.proofs.lemmas.Iterator.{YieldsList-from_slice}
use Rattle.std.proofs.lemmas.Iterator.Search.{any_from_yields_List}
use Rattle.mapfile.proofs.ValueLaws.{any_flags}
use Rattle.mapfile.proofs.value.bad_flags.Goals as goal

pub returns : goal.returns
returns c =
    let v = c.args.value.now in
    any_from_yields_List (λ (e : List ℕ). ltb 1 (get_or e 8 0)) _ _ c.any.result c.any.ensures.ran (YieldsList-from_slice (first_chunks 9 (length v / 9) v) cc) (λ x b q k. search (rules, tests)) ∙ any_flags _ _
