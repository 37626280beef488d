-- `append_roll::first_part` visits its contract. Assumes nothing.
use mathlib.Core.Path.{◌≡◌, sym, ap, ◌∙◌, subst}
use native.Mathlib.Omega.{arith}
use lib.ListN.{length}
use borrow.Author.Rules.{rules}
use Rattle.lsh.specs.WordSize.{size_of}
use Rattle.lsh.specs.Block.{Chain}
use Rattle.limits.specs.Limits.{longest_block}
use Rattle.orders.specs.declared.Record.{Record}
use Rattle.orders.specs.declared.Outcome.{Outcome}
use Rattle.orders.proofs.Sound.{sounds}
use Rattle.orders.specs.Append.{appended, append_accepted}
use Rattle.orders.proofs.AppendedSound.{appended-chain}
use Rattle.checkpoints.specs.Checkpoints.{inserted}
use Rattle.roll.specs.declared.Traversal.{Traversal}
use Rattle.roll.proofs.Walked.{known-roll}
use Rattle.append_roll.proofs.first_part.Goals as goal
use Rattle.append_roll.proofs.first_part.Goals.{After-accepted-step, Start}

words : (z : Start) → length z.args.r.chain ≡ 16
words z = search rules

long : (z : Start) → length z.args.r.held ≡ longest_block
long z = search rules

next-is : (c : After-accepted-step) → c.accepted-step.result.next ≡ appended c.args.r c.args.part.now
unfolding append_accepted
next-is c = ap (λ (o : Outcome). o.next) c.accepted-step.ensures

pub insert-requires : goal.insert-requires
insert-requires c = let a = (goal.at.insert-requires c).After-accepted-step in
    let z = (goal.at.insert-requires c).Start in
    let r = z.args.r in
    let k = known-roll _ _ z.requires.2 in (
      (sounds r z.requires.0).word,
      subst (λ (o : Record). Chain (size_of r.w) o.chain) (sym (next-is a)) (appended-chain r z.requires.0 (words z) (long z) z.args.part.now),
      z.requires.2,
      omega (arith, ap (λ (y : Traversal). y.count) k.traversal, ap (λ (y : Traversal). y.slots) k.traversal, z.requires.3),
    )

pub returns : goal.returns
returns c = let a = (goal.at.returns c).After-accepted-step in (
  ap (λ (o : Record). o.chain) (next-is a),
  ap (λ (o : Outcome). o.count) a.accepted-step.ensures,
  λ k. c.insert.ensures.0 k ∙ ap (λ (o : Record). inserted (size_of a.args.r.w) (record { number = k; chain = o.chain }) a.args.roll.now) (next-is a),
  c.insert.ensures.1,
)
