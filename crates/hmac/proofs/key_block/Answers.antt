use mathlib.Core.Path.{◌≡◌, sym, ap, ◌∙◌}
use mathlib.Core.List.{List}
use Prim.Native.Nat.{ℕ, ◌/◌, ◌≤◌}
use native.Mathlib.Omega.{arith}
use lib.ListN.{length, take}
use lib.Seq.{length-take-le}
use borrow.Author.Rules.{rules}
use Rattle.lsh.specs.WordSize.{size_of, block_bytes}
use Rattle.limits.specs.Limits.{longest_block}
use Rattle.lists.specs.ZeroFilled.{zero_filled}
use Rattle.limits.proofs.Limits.{block-most, digest-longest}
use Rattle.finalization.proofs.MessageChain.{opened-chain}
use Rattle.tags.proofs.Digests.{digest_on, hash-is}
use Rattle.tags.proofs.Keys.{digest-short, filled-front, long-key, short-key}
use Rattle.hmac.proofs.key_block.Goals as goal
use Rattle.hmac.proofs.key_block.Goals.{After-digest_on-d}

-- the digest fits into its array
pub slice_bounds-d-end : goal.slice_bounds-d-end
slice_bounds-d-end c = let long : length c.digest_on-d.result ≡ longest_block = search rules in
    omega (arith, digest-longest _ _ c.requires.0 c.requires.1)

pub digest_on-d-requires : goal.digest_on-d-requires
digest_on-d-requires c = (c.requires.0, c.requires.1, c.requires.2, opened-chain _ _ c.requires.3)

pub slice_bounds-zero_filled-end : goal.slice_bounds-zero_filled-end
slice_bounds-zero_filled-end c = sym (length-take-le _ _ (slice_bounds-d-end (goal.at.slice_bounds-zero_filled-end c).After-digest_on-d))

pub zero_filled-requires : goal.zero_filled-requires
zero_filled-requires c = rw (length-take-le _ _ (slice_bounds-d-end (goal.at.zero_filled-requires c).After-digest_on-d)) (omega (arith, digest-longest _ _ c.requires.0 c.requires.1))

pub returns-then-block_bytes-key : goal.returns-then-block_bytes-key
returns-then-block_bytes-key c = let f = (goal.at.returns-then-block_bytes-key c).After-digest_on-d in
    let key = f.args.key.now in
    let short : length (take (f.args.n / 8) f.digest_on-d.result) ≤ block_bytes (size_of f.args.w) =
    rw (length-take-le _ _ (slice_bounds-d-end f)) (digest-short _ _ f.requires.0 f.requires.1 f.requires.2) in
    filled-front _ (take (f.args.n / 8) f.digest_on-d.result) c.zero_filled.ensures short
    ∙ ap (zero_filled (block_bytes (size_of f.args.w)))
    (f.digest_on-d.ensures
    ∙ ap (λ (t : List ℕ). digest_on f.args.w f.args.n t key) f.requires.3
    ∙ sym (hash-is f.args.w f.args.n key (λ i. (f.shared_slice_known-1.given i).fits)))
    ∙ long-key _ _ key (omega (arith, f.block_bytes.ensures, f.if-block_bytes-key.true))

pub zero_filled-requires-2 : goal.zero_filled-requires-2
zero_filled-requires-2 c = omega (arith, block-most c.args.w, c.block_bytes.ensures, c.if-block_bytes-key.false)

pub returns : goal.returns
returns c = let key = c.args.key.now in
    let short : length key ≤ block_bytes (size_of c.args.w) = omega (arith, c.block_bytes.ensures, c.if-block_bytes-key.false) in
    filled-front _ key c.zero_filled-2.ensures short ∙ short-key _ _ key short
