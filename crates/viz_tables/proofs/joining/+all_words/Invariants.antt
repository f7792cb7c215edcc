use Rattle.std.proofs.Common.{length}
use Rattle.viz_tables.proofs.joining.+all_words.Given as goal

abbrev pub decreases-all_words : goal.decreases-all_words
decreases-all_words l = length l.jobs.items
