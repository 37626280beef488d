use mathlib.Core.Path.{sym, ap, ap₂, ◌∙◌}
use Prim.Native.Nat.{ℕ, ◌*◌}
use native.Mathlib.Omega.{arith}
use lib.Seq.{sets}
use Rattle.lsh.specs.Tabulate.{tabulate}
use Rattle.lsh.specs.WordSize.{word_bytes}
use Rattle.lsh.specs.Bytes.{byte_at}
use Rattle.loops.proofs.Words.{stored-none, stored_more, stored-all}
use Rattle.word.proofs.Sizes.{sized, part-inside}
use Rattle.word.proofs.Stores.{length_numbers}
use Rattle.words.proofs.store_chain.Goals as goal

pub loop-l-init : goal.loop-l-init
loop-l-init g c = (stored-none (word_bytes g.W.Word.size) _ _ (c.requires ∙ sym (sized g.met.W.Word.is_size).chain), c.requires)

pub overflow_mul-l : goal.overflow_mul-l
overflow_mul-l g c = let w = g.met.W.Word in rw (c.BYTES.ensures ∙ w.bytes_is) (search (arith, part-inside (word_bytes g.W.Word.size) c.loop-l-test.true, c.loop-l.invariant.0.len))

pub store-requires : goal.store-requires
store-requires g c = let w = g.met.W.Word in rw (c.BYTES.ensures ∙ w.bytes_is) (omega (arith, part-inside (word_bytes g.W.Word.size) c.loop-l-test.true, c.loop-l.invariant.0.len))

pub loop-l-preserved : goal.loop-l-preserved
loop-l-preserved g c =
    let w = g.met.W.Word in
    let z = g.W.Word.size in (
      stored_more _ c.loop-l.invariant.0 c.loop-l-test.true
          (c.store.ensures
          ∙ ap₂ (λ (a v : ℕ). sets c.loop-l.d a (tabulate (word_bytes z) (byte_at v))) (ap (λ (b : ℕ). c.loop-l.l * b) (c.BYTES.ensures ∙ w.bytes_is)) (w.takes_each.word c.args.t c.loop-l.l _ (omega arith))),
      c.loop-l.invariant.1,
    )

pub returns : goal.returns
returns g c = stored-all g.W.Word.size c.loop-l.invariant.0 c.loop-l-test.false (length_numbers g.met.W.Word.takes_each _ (omega arith))
