use Rattle.std.proofs.Common.{arith}
use Rattle.marks.proofs.MoodLaws.{word_read}
use Rattle.marks.proofs.mood.Mood.of_word.Goals as goal

pub returns : goal.returns
returns c = (omega arith, omega arith, λ s h e. word_read s c.args.w h e)
