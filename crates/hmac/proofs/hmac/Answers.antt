use mathlib.Core.Path.{◌≡◌, sym, ◌∙◌}
use native.Mathlib.Omega.{arith}
use lib.ListN.{length}
use lib.Seq.{length-take-le}
use borrow.Author.Rules.{rules}
use Rattle.limits.specs.Limits.{longest_block}
use Rattle.limits.proofs.Limits.{digest-most, digest-longest}
use Rattle.tags.specs.Hmac.{inner_key, outer_key, tag_of, hmac}
use Rattle.hmac.proofs.hmac.Goals as goal
use Rattle.hmac.proofs.hmac.Goals.{After-keyed_digest-inner}

-- the inner digest fits into its array
pub slice_bounds-inner-end : goal.slice_bounds-inner-end
slice_bounds-inner-end c = let long : length c.keyed_digest-inner.result ≡ longest_block = search rules in
    omega (arith, digest-longest _ _ c.requires.0 c.requires.1)

pub opening-opened-requires : goal.opening-opened-requires
unfolding hmac tag_of inner_key outer_key
opening-opened-requires c = (c.requires.0, digest-most _ _ c.requires.1)

pub slice_bounds-keyed_digest-end : goal.slice_bounds-keyed_digest-end
unfolding hmac tag_of inner_key outer_key
slice_bounds-keyed_digest-end c = sym (length-take-le _ _ (slice_bounds-inner-end (goal.at.slice_bounds-keyed_digest-end c).After-keyed_digest-inner))

pub returns : goal.returns
unfolding hmac tag_of inner_key outer_key
returns c = c.keyed_digest.ensures ∙ rw (c.keyed_digest-inner.ensures, c.key_block-block.ensures)
