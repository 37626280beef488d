use mathlib.Core.Path.{◌≡◌, ◌∙◌}
use Prim.Native.Nat.{ℕ}
use lib.ListN.{length, get_or}
use mir.Syntax.{w8}
use mir.Val.{Fits}
use borrow.Author.Rules.{rules}
use Rattle.limits.specs.Limits.{longest_block}
use Rattle.orders.specs.Record.{held_bytes}
use Rattle.orders.proofs.Sound.{sounds}
use native.Mathlib.Omega.{arith}
use Rattle.orders.proofs.Held.{fill-most}
use Rattle.finalization.proofs.MessageChain.{run-chain}
use Rattle.close.proofs.HeldBytes.{chain-sound, held-short}
use Rattle.close.proofs.Closed.{closed_is}
use Rattle.close.proofs.final_chain.Goals as goal
use Rattle.close.proofs.final_chain.Goals.{Start}

long : (z : Start) → length z.args.r.held ≡ longest_block
long z = search rules

words : (z : Start) → length z.args.r.chain ≡ 16
words z = search rules

fits : (z : Start) (i : ℕ) → Fits w8 (get_or z.args.r.held i 0)
fits z i = search rules

pub shared_ref_as_front-last_chain : goal.shared_ref_as_front-last_chain
shared_ref_as_front-last_chain c = omega (arith, c.held_length-at.ensures, fill-most c.args.r.w c.args.r.total)

pub last_chain-requires : goal.last_chain-requires
unfolding held_bytes
last_chain-requires c = let z = (goal.at.last_chain-requires c).Start in
    let r = z.args.r in
    ((sounds r z.requires.0).word, chain-sound r z.requires.0 (words z), rw c.held_length-at.ensures (held-short r (long z)))

pub returns : goal.returns
unfolding held_bytes
returns c = let z = (goal.at.returns c).Start in
    let r = z.args.r in
    let run = c.last_chain.ensures ∙ rw c.held_length-at.ensures in (
      run-chain r.w _ (chain-sound r z.requires.0 (words z)) c.last_chain.ensures,
      closed_is r z.args.last z.args.e (long z) (λ i. (fits z i).fits) z.ranges.last.fits z.requires.1 z.requires.2 c.pad_byte-pad.ensures run,
    )
