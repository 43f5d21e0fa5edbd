use Rattle.marks.proofs.MoodLaws.{word_written}
use Rattle.marks.proofs.mood.Mood.word.Goals as goal

pub returns : goal.returns
returns c = λ w e. word_written c.args.self w e
