use Rattle.limits.proofs.Limits.{digest-most}
use Rattle.orders.proofs.Sound.{sounds}
use Rattle.close.proofs.digest_bytes.Goals as goal

pub digest_bytes-requires : goal.digest_bytes-requires
digest_bytes-requires c = let s = sounds c.args.r c.requires in
    (s.word, digest-most _ _ s.digest_length, c.final_chain.ensures.0)
