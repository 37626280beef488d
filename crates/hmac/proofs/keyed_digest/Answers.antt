use mathlib.Core.Path.{◌≡◌}
use native.Mathlib.Omega.{arith}
use lib.ListN.{length, take}
use lib.Seq.{length-take-le}
use borrow.Author.Rules.{rules}
use Rattle.lsh.specs.WordSize.{size_of, block_bytes}
use Rattle.limits.specs.Limits.{longest_block}
use Rattle.limits.proofs.Limits.{block-most}
use Rattle.finalization.proofs.MessageChain.{opened-chain, run-chain}
use Rattle.tags.proofs.Keys.{keyed-hash}
use Rattle.hmac.proofs.keyed_digest.Goals as goal

pub key_chain-requires : goal.key_chain-requires
key_chain-requires c = (c.requires.0, opened-chain _ _ c.requires.3)

pub digest_on-requires : goal.digest_on-requires
digest_on-requires c = (c.requires.0, c.requires.1, c.requires.2, run-chain _ _ (opened-chain _ _ c.requires.3) c.key_chain.ensures)

pub returns : goal.returns
returns c = let b = block_bytes (size_of c.args.w) in
    let long : length c.args.block ≡ longest_block = search rules in
    let one = length-take-le b c.args.block (omega (arith, block-most c.args.w)) in
    keyed-hash _ _ (take b c.args.block) one c.args.x c.args.after.now (λ i. (c.shared_slice_known-1.given i).fits)
    c.requires.3 c.key_chain.ensures c.digest_on.ensures
