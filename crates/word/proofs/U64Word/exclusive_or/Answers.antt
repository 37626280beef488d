use Rattle.lsh.specs.WordSize.{lsh512}
use Rattle.loops.proofs.Machine.{xor_is}
use Rattle.word.proofs.U64Word.exclusive_or.Goals as goal

pub returns : goal.returns
unfolding lsh512
returns c = xor_is 64 c.args.self c.args.y c.ranges.self.fits c.ranges.y.fits
