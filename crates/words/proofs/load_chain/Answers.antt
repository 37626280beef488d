use mathlib.Core.Path.{ap, ◌∙◌}
use Prim.Native.Nat.{ℕ, ◌*◌}
use native.Mathlib.Omega.{arith}
use Rattle.lsh.specs.WordSize.{word_bytes}
use Rattle.lsh.specs.Bytes.{word_at, words_of}
use Rattle.loops.proofs.Places.{placed-none, filled-all}
use Rattle.word.proofs.Sizes.{sized, part-inside}
use Rattle.word.proofs.Stores.{filled_word, length_numbers}
use Rattle.words.proofs.load_chain.Goals as goal

pub loop-l-init : goal.loop-l-init
loop-l-init g c = placed-none 16 _ _ _

pub overflow_mul-l : goal.overflow_mul-l
overflow_mul-l g c = let w = g.met.W.Word in rw (c.BYTES.ensures ∙ w.bytes_is) (search (arith, part-inside (word_bytes g.W.Word.size) c.loop-l-test.true, (sized w.is_size).chain, c.requires))

pub load-requires : goal.load-requires
load-requires g c = let w = g.met.W.Word in rw (c.BYTES.ensures ∙ w.bytes_is) (omega (arith, part-inside (word_bytes g.W.Word.size) c.loop-l-test.true, (sized w.is_size).chain, c.requires))

pub loop-l-preserved : goal.loop-l-preserved
loop-l-preserved g c =
    let w = g.met.W.Word in
    let z = g.W.Word.size in
    filled_word w.takes_each _ c.loop-l.invariant c.loop-l-test.true (omega (arith, c.loop-l.invariant.len, w.takes_each.len c.loop-l.r))
    (c.load.ensures ∙ ap (λ (b : ℕ). word_at (word_bytes z) c.args.s.now (c.loop-l.l * b)) (c.BYTES.ensures ∙ w.bytes_is))

pub returns : goal.returns
unfolding words_of
returns g c = filled-all c.loop-l.invariant c.loop-l-test.false (length_numbers g.met.W.Word.takes_each _ (omega arith))
