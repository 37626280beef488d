use lib.Seq.{length-take-le}
use native.Mathlib.Omega.{arith}
use Rattle.limits.proofs.Limits.{block-most}
use Rattle.orders.proofs.Sound.{sounds}
use Rattle.rewind.proofs.cut.Goals as goal

pub opening_differs-requires : goal.opening_differs-requires
opening_differs-requires c = let s = sounds c.args.r c.requires.0 in (s.word, s.digest_length)

pub zero_filled-held-requires : goal.zero_filled-held-requires
zero_filled-held-requires c = omega (arith, length-take-le c.args.keep c.args.s.now c.requires.5, c.requires.4, block-most c.args.r.w)
