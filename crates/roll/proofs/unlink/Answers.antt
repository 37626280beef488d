-- `roll::unlink` visits its contract. Assumes nothing.
use mathlib.Core.Path.{ap, ◌∙◌}
use Prim.Native.Nat.{ℕ, ◌≤◌, ◌<◌, zero-le}
use native.Mathlib.Omega.{arith}
use lib.ListN.{length}
use borrow.Author.Tests.{lt-ltb, le-ltb}
use Rattle.lsh.specs.WordSize.{size_of}
use Rattle.lsh.proofs.Bytes.{octets}
use Rattle.checkpoints.specs.Roll.{links}
use Rattle.checkpoints.specs.Checkpoints.{with_index, unlinked}
use Rattle.checkpoints.proofs.Form.{linked}
use Rattle.checkpoints.proofs.Shown.{lead-in}
use Rattle.roll.proofs.unlink.Goals as goal

pub put_index-requires : goal.put_index-requires
unfolding unlinked
put_index-requires c = let s = c.args.roll.now in
    let less : c.args.m ≤ length (links (size_of c.args.w) s) = omega (arith, c.requires.1) in (
      (linked (size_of c.args.w) s c.requires.0).right,
      rw c.lead_to-i.ensures (lead-in (size_of c.args.w) (octets c.args.w) s c.requires.0 c.args.m less),
      zero-le,
    )

pub returns-then-m-count : goal.returns-then-m-count
unfolding unlinked
returns-then-m-count c = let s = c.args.roll.now in
    let less : c.args.m < length (links (size_of c.args.w) s) = omega (arith, c.requires.1) in
    c.put_index.ensures
    ∙ ap (λ (i : ℕ). with_index (size_of c.args.w) s i 0) c.lead_to-i.ensures
    ∙ rw (lt-ltb c.args.m (length (links (size_of c.args.w) s)) less)

pub returns-else-m-count : goal.returns-else-m-count
unfolding unlinked
returns-else-m-count c = let s = c.args.roll.now in
    let most : length (links (size_of c.args.w) s) ≤ c.args.m = omega (arith, c.requires.1) in
    rw (le-ltb c.args.m (length (links (size_of c.args.w) s)) most)
