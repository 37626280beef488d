use mathlib.Core.Path.{◌≡◌, sym, ap, ◌∙◌}
use mathlib.Core.Bool.{true}
use Prim.Native.Nat.{ℕ, ◌+◌, ◌*◌, ◌/◌, ◌≤◌, ◌<◌}
use native.Mathlib.Omega.{arith}
use lib.ListN.{length}
use lib.Seq.{length-take-le}
use borrow.Author.Rules.{rules}
use Rattle.lsh.specs.WordSize.{size_of, block_bytes}
use Rattle.limits.specs.Limits.{longest_block}
use Rattle.limits.proofs.Limits.{block-most}
use Rattle.orders.specs.declared.Record.{Record}
use Rattle.orders.specs.Record.{held_length, held_bytes, sound}
use Rattle.orders.proofs.Held.{fill-most, held-length}
use Rattle.orders.proofs.Lengths.{keeps-few}
use Rattle.orders.specs.End.{handed}
use Rattle.orders.proofs.HandBacks.{handed-blocks, handed-most}
use Rattle.split_rewind.proofs.remaining.Goals as goal
use Rattle.split_rewind.proofs.remaining.Goals.{Start}

module _ (z : Start) where
  abbrev R : Record
  R = z.args.r

  long : length R.held ≡ longest_block
  long = search rules

  back_long : length R.split.back ≡ longest_block
  back_long = search rules

  few : (z.args.keep ≤ z.args.size) × (z.args.keep < block_bytes (size_of R.w))
  few = keeps-few (block_bytes (size_of R.w)) z.args.keep z.args.size z.requires.3

  -- what the last call asks for, but for the bytes
  ready : (sound R ≡ true) × (R.split.blocks ≡ z.args.size / block_bytes (size_of R.w)) × (z.args.size ≤ R.total)
  ready = (
    z.requires.0,
    sym (ap (λ (k : ℕ). k / block_bytes (size_of R.w)) z.requires.2 ∙ handed-blocks R),
    omega (arith, z.requires.2, handed-most R z.requires.0 z.requires.1),
  )

  -- with no block handed back the held bytes are all
  held_all : R.split.blocks ≡ 0 → z.args.keep ≤ length (held_bytes R)
  unfolding handed
  held_all none = omega (arith, held-length R long, few.0, z.requires.2 ∙ ap (λ (k : ℕ). k * block_bytes (size_of R.w) + held_length R.w R.total) none)

pub shared_ref_as_front-cut : goal.shared_ref_as_front-cut
shared_ref_as_front-cut c = omega (arith, c.held_length-at.ensures, fill-most c.args.r.w c.args.r.total)

pub cut-requires : goal.cut-requires
unfolding held_bytes
cut-requires c = let z = (goal.at.cut-requires c).Start in
    ((ready z).0, (ready z).1, (ready z).2, (few z).0, (few z).1, rw c.held_length-at.ensures (held_all z c.if-r-eq0.true))

pub shared_ref_as_front-cut-2 : goal.shared_ref_as_front-cut-2
shared_ref_as_front-cut-2 c = omega (arith, c.block_bytes-b.ensures, block-most c.args.r.w)

pub cut-requires-2 : goal.cut-requires-2
cut-requires-2 c = let z = (goal.at.cut-requires-2 c).Start in
    let block_in : c.block_bytes-b.result ≤ length (R z).split.back = omega (arith, c.block_bytes-b.ensures, block-most (R z).w, back_long z) in (
      (ready z).0,
      (ready z).1,
      (ready z).2,
      (few z).0,
      (few z).1,
      omega (arith, length-take-le _ (R z).split.back block_in, c.block_bytes-b.ensures, (few z).1),
    )
