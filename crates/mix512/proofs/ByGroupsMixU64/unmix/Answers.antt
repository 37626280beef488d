use Rattle.lsh.specs.WordSize.{lsh512}
use Rattle.loops.specs.Fours.{four}
use Rattle.loops.proofs.Groups.{unmixed-by-groups}
use Rattle.mix512.proofs.ByGroupsMixU64.unmix.Goals as goal

pub returns : goal.returns
unfolding four
returns c = unmixed-by-groups lsh512 _ _ c.in_words.ensures
    (rw (c.unmix_pair-p.ensures, c.part-2.ensures, c.part.ensures))
    (rw (c.unmix_pair-q.ensures, c.part-4.ensures, c.part-3.ensures))
