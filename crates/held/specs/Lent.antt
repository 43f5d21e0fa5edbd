-- Between functions: the lent tables as lists. Definitions only.
use Rattle.std.specs.Prelude.{◌≡◌}
use Rattle.held.specs.Holds.{Tables, tables_of}
use Rattle.held.specs.declared.tables.Tables as lent
use Rattle.held.specs.declared.tables.View as lent_view

-- what the tables hold
abbrev pub lists_of : lent.Tables → Tables
lists_of t = tables_of t.cells.now t.points.now t.statuses.now t.blockers.now t.pairs.now

abbrev pub viewed : lent_view.View → Tables
viewed t = tables_of t.cells.now t.points.now t.statuses.now t.blockers.now t.pairs.now

-- afterwards the struct still names the same five tables of the caller
pub record Same (t t' : lent.Tables) : Type 0 where
  pub cells : t'.cells.ghost_name ≡ t.cells.ghost_name
  pub points : t'.points.ghost_name ≡ t.points.ghost_name
  pub statuses : t'.statuses.ghost_name ≡ t.statuses.ghost_name
  pub blockers : t'.blockers.ghost_name ≡ t.blockers.ghost_name
  pub pairs : t'.pairs.ghost_name ≡ t.pairs.ghost_name
