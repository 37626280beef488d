use Rattle.lsh.specs.WordSize.{lsh256}
use Rattle.loops.proofs.Machine.{xor_is}
use Rattle.word.proofs.U32Word.exclusive_or.Goals as goal

pub returns : goal.returns
unfolding lsh256
returns c = xor_is 32 c.args.self c.args.y c.ranges.self.fits c.ranges.y.fits
