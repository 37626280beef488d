use Rattle.std.proofs.Common.{arith}
use Rattle.lsh.specs.WordSize.{lsh256, word_bytes}
use Rattle.loops.proofs.Words.{word-last, word_more}
use Rattle.word.proofs.U32Word.load.Goals as goal

pub bounds-s-a : goal.bounds-s-a
unfolding lsh256 word_bytes
bounds-s-a c = omega arith

pub bounds-s-b : goal.bounds-s-b
unfolding lsh256 word_bytes
bounds-s-b c = omega arith

pub bounds-s-c : goal.bounds-s-c
unfolding lsh256 word_bytes
bounds-s-c c = omega arith

pub bounds-s-d : goal.bounds-s-d
unfolding lsh256 word_bytes
bounds-s-d c = omega arith

pub returns : goal.returns
unfolding lsh256 word_bytes
returns c = word_more 3 _ _ c.wide32.ensures.0 (word_more 2 _ _ c.wide32-2.ensures.0 (word_more 1 _ _ c.wide32-3.ensures.0 (word-last _ _ c.wide32-4.ensures.0)))
