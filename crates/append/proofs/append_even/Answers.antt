use mathlib.Core.Path.{◌≡◌, sym}
use native.Mathlib.Omega.{arith}
use lib.ListN.{length}
use borrow.Author.Rules.{rules}
use Rattle.limits.specs.Limits.{longest_block, limit}
use Rattle.orders.proofs.Sound.{sounds, chain-is}
use Rattle.append.proofs.Appending.{even}
use Rattle.append.proofs.append_even.Goals as goal
use Rattle.append.proofs.append_even.Goals.{Start}

words : (z : Start) → length z.args.r.chain ≡ 16
words z = search rules

long : (z : Start) → length z.args.r.held ≡ longest_block
long z = search rules

pub absorb-count-requires : goal.absorb-count-requires
absorb-count-requires c = let z = (goal.at.absorb-count-requires c).Start in
    let s = sounds z.args.r z.requires.0 in
    (s.word, chain-is _ _ s.word (words z) s.below)

pub overflow_add-result : goal.overflow_add-result
unfolding limit
overflow_add-result c = record { fits = omega (arith, c.requires.1) }

pub returns : goal.returns
returns c = let z = (goal.at.returns c).Start in
    let t = c.absorb-count in
    rw (t.ensures.0, t.ensures.1, t.ensures.2) (sym (even z.args.r z.requires.0 (long z) z.args.piece.now z.requires.2))
