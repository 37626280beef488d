use Rattle.std.proofs.Common.{arith}
use Rattle.lsh.specs.WordSize.{lsh512, word_bytes}
use Rattle.loops.proofs.Words.{word-last, word_more}
use Rattle.word.proofs.U64Word.load.Goals as goal

pub bounds-s-a : goal.bounds-s-a
unfolding lsh512 word_bytes
bounds-s-a c = omega arith

pub bounds-s-b : goal.bounds-s-b
unfolding lsh512 word_bytes
bounds-s-b c = omega arith

pub bounds-s-c : goal.bounds-s-c
unfolding lsh512 word_bytes
bounds-s-c c = omega arith

pub bounds-s-d : goal.bounds-s-d
unfolding lsh512 word_bytes
bounds-s-d c = omega arith

pub bounds-s-e : goal.bounds-s-e
unfolding lsh512 word_bytes
bounds-s-e c = omega arith

pub bounds-s-f : goal.bounds-s-f
unfolding lsh512 word_bytes
bounds-s-f c = omega arith

pub bounds-s-g : goal.bounds-s-g
unfolding lsh512 word_bytes
bounds-s-g c = omega arith

pub bounds-s-h : goal.bounds-s-h
unfolding lsh512 word_bytes
bounds-s-h c = omega arith

pub returns : goal.returns
unfolding lsh512 word_bytes
returns c = word_more 7 _ _ c.wide64-5.ensures.0 (word_more 6 _ _ c.wide64-6.ensures.0 (word_more 5 _ _ c.wide64-7.ensures.0 (word_more 4 _ _ c.wide64-8.ensures.0 (word_more 3 _ _ c.wide64.ensures.0 (word_more 2 _ _ c.wide64-2.ensures.0 (word_more 1 _ _ c.wide64-3.ensures.0 (word-last _ _ c.wide64-4.ensures.0)))))))
