-- `runs::forward_bytes_at` meets its contract. Assumes nothing.
use mathlib.Core.Path.{ap, ◌∙◌}
use Prim.Native.Nat.{ℕ}
use native.Mathlib.Omega.{arith}
use borrow.Author.Rules.{rules}
use Rattle.lsh.specs.Bytes.{bytes_of}
use Rattle.lsh.specs.Block.{forwards_steps, forwards}
use Rattle.lsh.specs.Padding.{blocks_of}
use Rattle.word.proofs.Sizes.{sized}
use Rattle.runs.proofs.forward_bytes_at.Goals as goal

pub forward_steps_at-ahead-requires : goal.forward_steps_at-ahead-requires
forward_steps_at-ahead-requires g c = let w = g.met.W.Word in (search rules, (search rules, (omega (arith, c.STEPS.ensures, w.steps_is, (sized w.is_size).some), omega (arith, c.STEPS.ensures, w.steps_is))))

pub returns : goal.returns
unfolding forwards
returns g c =
    let z = g.W.Word.size in
    let s = blocks_of z c.args.s.now in
    c.store_chain.ensures
    ∙ ap (bytes_of z) (c.forward_steps_at-ahead.ensures.0 ∙ ap (λ (k : ℕ). forwards_steps z k s (g.W.Word.numbers c.load_chain.new.r)) (c.STEPS.ensures ∙ g.met.W.Word.steps_is) ∙ ap (forwards_steps z z.steps s) c.load_chain.ensures)
