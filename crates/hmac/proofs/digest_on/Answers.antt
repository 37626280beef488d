use mathlib.Core.Path.{◌≡◌, ap, ◌∙◌}
use Prim.Native.Nat.{ℕ, ◌+◌, ◌/◌}
use native.Mathlib.Omega.{arith}
use lib.ListN.{take}
use Rattle.limits.proofs.Limits.{digest-most}
use Rattle.finalization.proofs.MessageChain.{run-chain}
use Rattle.hmac.proofs.digest_on.Goals as goal

pub digest_bytes-requires : goal.digest_bytes-requires
digest_bytes-requires c = (c.requires.0, digest-most _ _ c.requires.1, run-chain _ _ c.requires.3 c.message_chain-c.ensures)

pub returns : goal.returns
returns c = let size : c.args.n / 8 ≡ (c.args.n + 7) / 8 = omega (arith, c.requires.2) in
    ap (λ (k : ℕ). take k c.digest_bytes.result) size ∙ c.digest_bytes.ensures ∙ rw c.message_chain-c.ensures
