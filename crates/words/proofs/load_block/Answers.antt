use mathlib.Core.Path.{ap, ◌∙◌}
use Prim.Native.Nat.{ℕ, ◌*◌}
use native.Mathlib.Omega.{arith}
use Rattle.lsh.specs.WordSize.{word_bytes}
use Rattle.lsh.specs.Bytes.{word_at, words_of}
use Rattle.loops.proofs.Places.{placed-none, stored-front}
use Rattle.word.proofs.Sizes.{sized, part-inside}
use Rattle.word.proofs.Stores.{filled_word}
use Rattle.words.proofs.load_block.Goals as goal

pub loop-l-init : goal.loop-l-init
loop-l-init g c = (placed-none 32 _ _ _, omega (arith, g.met.W.Word.takes_each.len c.args.m.now, c.requires.0))

pub overflow_mul-l : goal.overflow_mul-l
overflow_mul-l g c = let w = g.met.W.Word in rw (c.BYTES.ensures ∙ w.bytes_is) (search (arith, part-inside (word_bytes g.W.Word.size) c.loop-l-test.true, (sized w.is_size).block, c.requires.1))

pub load-requires : goal.load-requires
load-requires g c = let w = g.met.W.Word in rw (c.BYTES.ensures ∙ w.bytes_is) (omega (arith, part-inside (word_bytes g.W.Word.size) c.loop-l-test.true, (sized w.is_size).block, c.requires.1))

pub loop-l-preserved : goal.loop-l-preserved
loop-l-preserved g c =
    let w = g.met.W.Word in
    let z = g.W.Word.size in (
      filled_word w.takes_each _ c.loop-l.invariant.0 c.loop-l-test.true c.loop-l.invariant.1
          (c.load.ensures ∙ ap (λ (b : ℕ). word_at (word_bytes z) c.args.s.now (c.loop-l.l * b)) (c.BYTES.ensures ∙ w.bytes_is)),
      c.loop-l.invariant.1,
    )

pub returns : goal.returns
unfolding words_of
returns g c = stored-front c.loop-l.invariant.0 c.loop-l-test.false c.loop-l.invariant.1
