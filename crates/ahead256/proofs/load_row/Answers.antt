use mathlib.Core.Path.{refl, sym, ◌∙◌}
use Prim.Native.Nat.{ℕ, ◌+◌, ◌*◌}
use native.Mathlib.Omega.{arith}
use Rattle.lsh.specs.WordSize.{lsh256, word_bytes, block_bytes}
use Rattle.lsh.specs.Bytes.{word_at, words_of}
use Rattle.lsh.proofs.Tabulate.{at-tabulate}
use Rattle.loops.specs.Rows.{row}
use Rattle.loops.proofs.Places.{placed-none, filled_more, filled-all}
use Rattle.ahead256.proofs.load_row.Goals as goal

pub loop-l-init : goal.loop-l-init
unfolding row words_of word_bytes block_bytes lsh256
loop-l-init c = placed-none 16 _ _ _

pub loop-l-preserved : goal.loop-l-preserved
unfolding row words_of word_bytes block_bytes lsh256
loop-l-preserved c = filled_more _ c.loop-l.invariant c.loop-l-test.true (omega arith)
    (c.load.ensures ∙ sym (at-tabulate 32 (λ (l : ℕ). word_at 4 c.args.s.now (l * 4)) (c.args.i * 16 + c.loop-l.l) (omega arith)))

pub returns : goal.returns
unfolding row words_of word_bytes block_bytes lsh256
returns c = filled-all c.loop-l.invariant c.loop-l-test.false refl

pub load-requires : goal.load-requires
unfolding row words_of word_bytes block_bytes lsh256
load-requires c = omega arith
