use mathlib.Core.Path.{◌≡◌, sym, ◌∙◌}
use Prim.Native.Nat.{◌≤◌, ◌<◌}
use lib.ListN.{length}
use borrow.Author.Rules.{rules}
use Rattle.lsh.specs.WordSize.{size_of, block_bytes}
use Rattle.orders.proofs.Sound.{sounds, chain-is}
use Rattle.orders.proofs.Lengths.{OnBlock, on-block, keeps-few, fill-le}
use Rattle.rewind.proofs.in_turn.Goals as goal
use Rattle.rewind.proofs.in_turn.Goals.{Start, Else-starts_off_block, Else-keeps_too_much}

words : (z : Start) → length z.args.r.chain ≡ 16
words z = search rules

on : (c : Else-starts_off_block) → OnBlock (block_bytes (size_of c.args.r.w)) c.args.r.total (length c.args.h.now)
on c = on-block _ _ _ (sym c.starts_off_block.ensures ∙ c.if-starts_off_block.false)

few : (c : Else-keeps_too_much) → (c.args.keep ≤ length c.args.h.now) × (c.args.keep < block_bytes (size_of c.args.r.w))
few c = keeps-few _ _ _ (sym c.keeps_too_much.ensures ∙ c.if-keeps_too_much.false)

pub held_differs-requires : goal.held_differs-requires
held_differs-requires c = fill-le _ _ _ (on (goal.at.held_differs-requires c).Else-starts_off_block)

pub backward-run-requires : goal.backward-run-requires
backward-run-requires c = let z = (goal.at.backward-run-requires c).Start in
    let s = sounds z.args.r z.requires in
    (s.word, chain-is _ _ s.word (words z) s.below)

pub cut-requires : goal.cut-requires
cut-requires c = let k = few (goal.at.cut-requires c).Else-keeps_too_much in
    ((goal.at.cut-requires c).Start.requires, c.backward-run.ensures.1, (on (goal.at.cut-requires c).Else-starts_off_block).fits, k.0, k.1, k.0)
