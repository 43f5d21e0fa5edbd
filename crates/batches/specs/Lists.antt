-- Between functions: the lent outputs of a batch. Definitions only.
use Rattle.std.specs.Prelude.{◌≡◌}
use Rattle.batches.specs.declared.lists.Outputs.{Outputs}

-- afterwards the struct still names the same four tables of the caller
pub record Same (o o' : Outputs) : Type 0 where
  pub confirmed : o'.confirmed.ghost_name ≡ o.confirmed.ghost_name
  pub full : o'.full.ghost_name ≡ o.full.ghost_name
  pub corners : o'.corners.ghost_name ≡ o.corners.ghost_name
  pub altered : o'.altered.ghost_name ≡ o.altered.ghost_name
