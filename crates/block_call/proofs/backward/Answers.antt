-- `block_call::backward` meets its contract: a run of one block. Assumes nothing.
use mathlib.Core.Path.{◌≡◌, refl, sym}
use lib.ListN.{length}
use Rattle.lsh.specs.Block.{backward, backwards}
use Rattle.answers.proofs.Output.{refused-by}
use Rattle.blocks.specs.BlockCall.{block_answer, run_bytes}
use Rattle.blocks.proofs.Answers.{accepted, one-run}
use Rattle.block_call.proofs.backward.Goals as goal
use Rattle.block_call.proofs.backward.Goals.{In_ok-answer}

took : (c : In_ok-answer) → block_answer c.args.w (length c.args.chain.now) (length c.args.block.now) ≡ 0
took c = sym c.in_ok-answer.ensures

pub returns-in_err-answer : goal.returns-in_err-answer
unfolding run_bytes
returns-in_err-answer c = refused-by _ _ _ c.args.chain.now _ _ c.in_err-answer.ensures c.from_residual.ensures.1

pub backward_bytes-requires : goal.backward_bytes-requires
unfolding run_bytes backward backwards
backward_bytes-requires c = let ok = accepted _ _ _ (took (goal.at.backward_bytes-requires c).In_ok-answer) in (ok.size, ok.chain)

pub returns : goal.returns
unfolding run_bytes backward backwards
returns c = one-run backward backwards _ _ _ (λ b t. refl) (took (goal.at.returns c).In_ok-answer) c.backward_bytes.ensures
