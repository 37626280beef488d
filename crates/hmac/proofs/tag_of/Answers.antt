use mathlib.Core.Path.{◌∙◌}
use Rattle.limits.proofs.Limits.{digest-most}
use Rattle.tags.specs.Hmac.{outer_key, tag_of}
use Rattle.hmac.proofs.tag_of.Goals as goal

pub opening-opened-requires : goal.opening-opened-requires
unfolding tag_of outer_key
opening-opened-requires c = (c.requires.0, digest-most _ _ c.requires.1)

pub returns : goal.returns
unfolding tag_of outer_key
returns c = c.keyed_digest.ensures ∙ rw c.key_block-block.ensures
