-- `runs::backward_bytes_at` meets its contract. Assumes nothing.
use mathlib.Core.Path.{ap, ◌∙◌}
use Prim.Native.Nat.{ℕ}
use native.Mathlib.Omega.{arith}
use borrow.Author.Rules.{rules}
use Rattle.lsh.specs.Bytes.{bytes_of}
use Rattle.lsh.specs.Block.{backwards_steps, backwards}
use Rattle.lsh.specs.Padding.{blocks_of}
use Rattle.word.proofs.Sizes.{sized}
use Rattle.runs.proofs.backward_bytes_at.Goals as goal

pub backward_steps_at-before-requires : goal.backward_steps_at-before-requires
backward_steps_at-before-requires g c = let w = g.met.W.Word in (search rules, (search rules, (omega (arith, c.STEPS.ensures, w.steps_is, (sized w.is_size).some), omega (arith, c.STEPS.ensures, w.steps_is))))

pub returns : goal.returns
unfolding backwards
returns g c =
    let z = g.W.Word.size in
    let s = blocks_of z c.args.s.now in
    c.store_chain.ensures
    ∙ ap (bytes_of z) (c.backward_steps_at-before.ensures.0 ∙ ap (λ (k : ℕ). backwards_steps z k s (g.W.Word.numbers c.load_chain.new.r)) (c.STEPS.ensures ∙ g.met.W.Word.steps_is) ∙ ap (backwards_steps z z.steps s) c.load_chain.ensures)
