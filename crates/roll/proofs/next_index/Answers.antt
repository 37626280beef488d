-- `roll::next_index` visits its contract. Assumes nothing.
use mathlib.Core.Path.{ap, ◌∙◌}
use Prim.Native.Nat.{ℕ}
use native.Mathlib.Omega.{arith}
use Rattle.lsh.specs.WordSize.{size_of}
use Rattle.lsh.specs.Bytes.{word_at}
use Rattle.checkpoints.specs.Slots.{index_bytes}
use Rattle.checkpoints.specs.Roll.{next_index}
use Rattle.checkpoints.proofs.Places.{index_in}
use Rattle.checkpoints.proofs.Form.{Sized, sized}
use Rattle.roll.proofs.next_index.Goals as goal
use Rattle.roll.proofs.next_index.Goals.{Start}

sizes : (z : Start) → Sized (size_of z.args.w) z.args.roll.now
sizes z = sized (size_of z.args.w) z.args.roll.now z.requires.0

pub index_place-requires : goal.index_place-requires
unfolding next_index
index_place-requires c = omega (arith, c.requires.1, (sizes (goal.at.index_place-requires c).Start).most)

pub read_index-requires : goal.read_index-requires
unfolding next_index
read_index-requires c = let z = (goal.at.read_index-requires c).Start in
    omega (arith, c.index_place.ensures, index_in (size_of z.args.w) z.args.i _ z.requires.1, (sizes z).size)

pub returns : goal.returns
unfolding next_index
returns c = c.read_index.ensures
    ∙ ap (λ (a : ℕ). word_at index_bytes c.args.roll.now a) c.index_place.ensures
