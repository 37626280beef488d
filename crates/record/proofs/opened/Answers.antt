use Rattle.limits.proofs.Limits.{digest-most}
use Rattle.record.proofs.opened.Goals as goal

pub opening-requires : goal.opening-requires
opening-requires c = (c.requires.0, digest-most _ _ c.requires.1)
