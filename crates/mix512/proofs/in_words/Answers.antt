use borrow.Author.Rules.{rules}
use Rattle.lsh.specs.Tabulate.{tabulate, tabulate_from}
use Rattle.loops.proofs.Groups.{listed-words}
use Rattle.mix512.proofs.in_words.Goals as goal

pub returns : goal.returns
unfolding tabulate tabulate_from
returns c = listed-words _ _ _ _ (search rules) (search rules) (search rules) (search rules)
