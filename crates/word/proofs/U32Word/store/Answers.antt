use Rattle.std.proofs.Common.{add-one, arith, length-set}
use Rattle.lsh.specs.Tabulate.{tabulate, tabulate_from}
use Rattle.lsh.specs.WordSize.{lsh256, word_bytes}
use Rattle.word.proofs.U32Word.store.Goals as goal

pub bounds-d-a : goal.bounds-d-a
unfolding tabulate tabulate_from lsh256 word_bytes
bounds-d-a c = omega arith

pub bounds-d-b : goal.bounds-d-b
unfolding tabulate tabulate_from lsh256 word_bytes
bounds-d-b c = simp length-set (omega arith)

pub bounds-d-c : goal.bounds-d-c
unfolding tabulate tabulate_from lsh256 word_bytes
bounds-d-c c = simp length-set (omega arith)

pub bounds-d-e : goal.bounds-d-e
unfolding tabulate tabulate_from lsh256 word_bytes
bounds-d-e c = simp length-set (omega arith)

pub returns : goal.returns
unfolding tabulate tabulate_from lsh256 word_bytes
returns c = simp (add-one, c.byte32.ensures, c.byte32-2.ensures, c.byte32-3.ensures, c.byte32-4.ensures)
