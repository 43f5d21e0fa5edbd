-- Between functions: the states of a reader (RULES 5.1: fields count from 0). Definitions only.
use Rattle.std.specs.Prelude.{◌+◌, ◌%◌, ◌^◌, Float}
use Rattle.mapfile.specs.declared.head.Expected.{Expected}
use Rattle.held.specs.Holds.{no_map}
use Rattle.held.specs.declared.map.Map.{Map}
use Rattle.ieee.specs.Constants.{nought}
use Rattle.mapfile.specs.declared.state.Reader.{Reader}

abbrev pub begun : Reader
begun = record { expected = Expected.Size; field = 0; size = nought; map = no_map }

abbrev pub moved_on : Reader → Expected → Float → Map → Reader
moved_on r e c m = record { expected = e; field = (r.field + 1) % 2 ^ 64; size = c; map = m }
