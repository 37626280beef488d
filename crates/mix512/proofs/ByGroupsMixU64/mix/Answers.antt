use Rattle.lsh.specs.WordSize.{lsh512}
use Rattle.loops.specs.Fours.{four}
use Rattle.loops.proofs.Groups.{mixed-by-groups}
use Rattle.mix512.proofs.ByGroupsMixU64.mix.Goals as goal

pub returns : goal.returns
unfolding four
returns c = mixed-by-groups lsh512 _ _ c.in_words.ensures
    (rw (c.mix_pair-p.ensures, c.part-2.ensures, c.part.ensures))
    (rw (c.mix_pair-q.ensures, c.part-4.ensures, c.part-3.ensures))
