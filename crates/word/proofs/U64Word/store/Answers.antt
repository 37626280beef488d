use Rattle.std.proofs.Common.{add-one, arith, length-set}
use Rattle.lsh.specs.Tabulate.{tabulate, tabulate_from}
use Rattle.lsh.specs.WordSize.{lsh512, word_bytes}
use Rattle.word.proofs.U64Word.store.Goals as goal

pub bounds-d-a : goal.bounds-d-a
unfolding tabulate tabulate_from lsh512 word_bytes
bounds-d-a c = omega arith

pub bounds-d-b : goal.bounds-d-b
unfolding tabulate tabulate_from lsh512 word_bytes
bounds-d-b c = simp length-set (omega arith)

pub bounds-d-c : goal.bounds-d-c
unfolding tabulate tabulate_from lsh512 word_bytes
bounds-d-c c = simp length-set (omega arith)

pub bounds-d-e : goal.bounds-d-e
unfolding tabulate tabulate_from lsh512 word_bytes
bounds-d-e c = simp length-set (omega arith)

pub bounds-d-f : goal.bounds-d-f
unfolding tabulate tabulate_from lsh512 word_bytes
bounds-d-f c = simp length-set (omega arith)

pub bounds-d-g : goal.bounds-d-g
unfolding tabulate tabulate_from lsh512 word_bytes
bounds-d-g c = simp length-set (omega arith)

pub bounds-d-h : goal.bounds-d-h
unfolding tabulate tabulate_from lsh512 word_bytes
bounds-d-h c = simp length-set (omega arith)

pub bounds-d-i : goal.bounds-d-i
unfolding tabulate tabulate_from lsh512 word_bytes
bounds-d-i c = simp length-set (omega arith)

pub shape_of-d : goal.shape_of-d
unfolding tabulate tabulate_from lsh512 word_bytes
shape_of-d c = simp length-set

pub returns : goal.returns
unfolding tabulate tabulate_from lsh512 word_bytes
returns c = simp (add-one, c.byte.ensures, c.byte-2.ensures, c.byte-3.ensures, c.byte-4.ensures, c.byte-5.ensures, c.byte-6.ensures, c.byte-7.ensures, c.byte-8.ensures)
