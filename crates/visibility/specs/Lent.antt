-- Between functions: what a call is lent, as lists. Definitions only.
use Rattle.std.specs.Prelude.{◌≡◌, ℕ, List}
use Rattle.batches.specs.declared.lists.Outputs as out
use Rattle.held.specs.declared.tables.Tables as lent
use Rattle.held.specs.Holds.{Tables, tables_of}
use Rattle.held.specs.Lent.{lists_of}
use Rattle.visibility.specs.Change.{Lent}
use Rattle.visibility.specs.declared.lent.Layer as layer

-- a layer's four tables over the cells C
abbrev pub over : List ℕ → layer.Layer → Tables
over C t = tables_of C t.points.now t.statuses.now t.blockers.now t.pairs.now

-- afterwards the struct still names the same four tables of the caller
pub record Same (t t' : layer.Layer) : Type 0 where
  pub points : t'.points.ghost_name ≡ t.points.ghost_name
  pub statuses : t'.statuses.ghost_name ≡ t.statuses.ghost_name
  pub blockers : t'.blockers.ghost_name ≡ t.blockers.ghost_name
  pub pairs : t'.pairs.ghost_name ≡ t.pairs.ghost_name

-- what a batch is lent: a map's tables, and where the changes are listed
abbrev pub lent_lists : lent.Tables → out.Outputs → Lent
lent_lists t o = record { tables = lists_of t; confirmed = o.confirmed.now; full = o.full.now; corners = o.corners.now; altered = o.altered.now }
