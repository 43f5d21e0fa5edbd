use Rattle.ieee.proofs.RootChecked.{excess_is}
use Rattle.ieee.proofs.root.excess.Goals as goal

-- `ieee::root::excess` meets its contract. Assumes nothing.
pub returns : goal.returns
returns c =
    λ h.
    excess_is c.args.m c.args.c c.wrapping_sub_u64-d.result c.wrapping_sub_u64-e.result c.wrapping_sub_u64.result
    c.requires c.if-d-ge68719476736.false c.if-e-ge68719476736.false h
    c.wrapping_sub_u64-d.ensures.value c.wrapping_sub_u64-e.ensures.value c.wrapping_sub_u64.ensures.value
