use Rattle.visibility.proofs.FinishLaws.{commits_cells}
use Rattle.visibility.proofs.change.commit_cells.Goals as goal

pub returns : goal.returns
returns c = commits_cells c.args.cells.now c.args.used c.commit.new.cells c.commit.result c.min.result c.requires c.commit.auto.cells c.min.ensures c.commit.ensures
