use mathlib.Core.Path.{◌∙◌}
use Rattle.held.specs.Holds.{needs}
use Rattle.held.specs.Lent.{lists_of}
use Rattle.visibility.proofs.ChangeLaws.{short_first, short_rest}
use Rattle.visibility.proofs.change.short_of.Goals as goal

-- `change::short_of`: the tables first, then the outputs. Assumes nothing.
pub returns-then-is_short : goal.returns-then-is_short
returns-then-is_short c = c.if-is_short.true ∙ short_first (needs (lists_of c.args.tables.now)) _ c.is_short.result c.is_short.ensures c.if-is_short.true

pub returns-else-is_short : goal.returns-else-is_short
returns-else-is_short c = c.is_short-else-is_short.ensures ∙ short_rest (needs (lists_of c.args.tables.now)) _ c.is_short.result c.is_short.ensures c.if-is_short.false
