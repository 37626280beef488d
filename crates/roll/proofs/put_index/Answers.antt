-- `roll::put_index` visits its contract. Assumes nothing.
use mathlib.Core.Path.{◌≡◌, sym, ap}
use Prim.Native.Nat.{ℕ, ◌+◌, ◌/◌, ◌%◌, ◌≤◌}
use native.Mathlib.Nat.{div-one}
use native.Mathlib.Numerals.{add-one}
use native.Mathlib.Omega.{arith}
use lib.ListN.{length, length-set}
use Rattle.lsh.specs.Tabulate.{tabulate_from, tabulate}
use Rattle.lsh.specs.WordSize.{size_of}
use Rattle.lsh.specs.Bytes.{byte_at}
use Rattle.checkpoints.specs.Slots.{index_bytes, most_slots}
use Rattle.checkpoints.specs.Checkpoints.{with_index}
use Rattle.checkpoints.proofs.Places.{index_in}
use Rattle.checkpoints.proofs.Form.{Sized, sized}
use Rattle.roll.proofs.put_index.Goals as goal
use Rattle.roll.proofs.put_index.Goals.{After-index_place-a, Start}

module _ (z : Start) where
  sizes : Sized (size_of z.args.w) z.args.roll.now
  sizes = sized (size_of z.args.w) z.args.roll.now z.requires.0

inside : (c : After-index_place-a) → c.index_place-a.result + index_bytes ≤ length c.args.roll.now
inside c =
    let z = (goal.at.After-index_place-a c).Start in
    omega (arith, c.index_place-a.ensures, index_in (size_of z.args.w) z.args.i _ z.requires.1, (sizes z).size)

-- the two bytes of an index below 256
low : (x : ℕ) → x % 256 ≡ byte_at x 0
unfolding byte_at
low x = sym (ap (λ (n : ℕ). n % 256) (div-one x))

high : (x : ℕ) → x ≤ most_slots → x / 256 ≡ byte_at x 1
unfolding byte_at
high x few = omega arith

pub returns : goal.returns
unfolding with_index tabulate tabulate_from
returns c = rw (low c.args.next, high c.args.next c.requires.2, add-one c.index_place-a.result, c.index_place-a.ensures)

pub index_place-a-requires : goal.index_place-a-requires
index_place-a-requires c = omega (arith, c.requires.1, (sizes (goal.at.index_place-a-requires c).Start).most)

pub overflow_add-roll : goal.overflow_add-roll
overflow_add-roll c = record { fits = omega (arith, inside c) }

pub bounds-roll-a : goal.bounds-roll-a
bounds-roll-a c = omega (arith, inside c)

pub bounds-roll-a-2 : goal.bounds-roll-a-2
bounds-roll-a-2 c = simp length-set (omega (arith, inside c))
