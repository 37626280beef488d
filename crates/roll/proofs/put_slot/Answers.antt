-- `roll::put_slot` visits its contract. Assumes nothing.
use mathlib.Core.Path.{◌≡◌, sym, ap, ◌∙◌, subst}
use mathlib.Core.List.{List, ◌++◌, append_assoc}
use Prim.Native.Nat.{ℕ, ◌+◌, ◌-◌, ◌≤◌}
use native.Mathlib.Omega.{arith}
use lib.ListN.{length, take, drop}
use lib.Seq.{drop-drop, sets, sets-eq}
use Rattle.lsh.specs.WordSize.{size_of, chain_bytes}
use Rattle.lsh.specs.Bytes.{bytes_of}
use Rattle.lsh.proofs.Bytes.{octets, length-chain}
use Rattle.checkpoints.specs.Slots.{index_bytes, chain_place}
use Rattle.checkpoints.specs.Checkpoints.{with_index, with_slot}
use Rattle.checkpoints.proofs.Places.{chain-in}
use Rattle.checkpoints.proofs.Form.{Sized, sized}
use Rattle.checkpoints.proofs.Writes.{index-size}
use Rattle.roll.proofs.put_slot.Goals as goal
use Rattle.roll.proofs.put_slot.Goals.{After-chain_bytes, After-index_place-a, Start}

-- the bytes of the chain in the place of as many others
stored : {a k b : ℕ} {xs ys vs us : List ℕ} → a ≡ b → xs ≡ us → ys ≡ vs → k ≡ length vs → b + length vs ≤ length us
    → take a xs ++ (ys ++ drop k (drop a xs)) ≡ sets us b vs
stored {a} {k} {b} {xs} {ys} {vs} {us} ea ex ey ek room =
    rw (ea, ex, ey, ek, drop-drop (length vs) b us) (sym (sets-eq vs us b room ∙ append_assoc (take b us) vs (drop (b + length vs) us)))

module _ (z : Start) where
  sizes : Sized (size_of z.args.w) z.args.roll.now
  sizes = sized (size_of z.args.w) z.args.roll.now z.requires.2

  -- the roll with the slot's index written
  abbrev first : List ℕ
  first = with_index (size_of z.args.w) z.args.roll.now z.args.i 0

  first-size : length first ≡ length z.args.roll.now
  first-size = index-size (size_of z.args.w) (octets z.args.w) _ z.args.roll.now sizes.size z.args.i z.requires.4 0

  chain-long : length (bytes_of (size_of z.args.w) z.args.t) ≡ chain_bytes (size_of z.args.w)
  chain-long = length-chain (size_of z.args.w) (octets z.args.w) z.args.t z.requires.1.words

  inside : chain_place (size_of z.args.w) z.args.i + chain_bytes (size_of z.args.w) ≤ length z.args.roll.now
  inside = rw sizes.size (chain-in (size_of z.args.w) z.args.i _ z.requires.3 z.requires.4)

place : (c : After-index_place-a) → c.index_place-a.result + index_bytes ≡ chain_place (size_of c.args.w) c.args.i
unfolding chain_place
place c = ap (λ (a : ℕ). a + index_bytes) c.index_place-a.ensures

end : (c : After-chain_bytes) → c.index_place-a.result + index_bytes + c.chain_bytes.result ≤ length c.args.roll.now
end c = omega (arith, place (goal.at.After-chain_bytes c).After-index_place-a, c.chain_bytes.ensures, inside (goal.at.After-chain_bytes c).Start)

pub index_place-a-requires : goal.index_place-a-requires
unfolding with_slot
index_place-a-requires c = let z = (goal.at.index_place-a-requires c).Start in omega (arith, z.requires.4, (sizes z).most)

pub overflow_add-a : goal.overflow_add-a
unfolding with_slot
overflow_add-a c = record { fits = omega (arith, place c, inside (goal.at.overflow_add-a c).Start) }

pub overflow_add-e : goal.overflow_add-e
unfolding with_slot
overflow_add-e c = record { fits = omega (arith, end c) }

pub slice_bounds-store_chain-end : goal.slice_bounds-store_chain-end
unfolding with_slot
slice_bounds-store_chain-end c = subst (λ (s : List ℕ). c.index_place-a.result + index_bytes + c.chain_bytes.result ≤ length s) (sym c.put_index.ensures)
    (rw (first-size (goal.at.slice_bounds-store_chain-end c).Start) (end c))

pub returns : goal.returns
unfolding with_slot
returns c = let z = (goal.at.returns c).Start in
    let many : c.index_place-a.result + index_bytes + c.chain_bytes.result - (c.index_place-a.result + index_bytes) ≡ length (bytes_of (size_of z.args.w) z.args.t) =
    omega (arith, c.chain_bytes.ensures, chain-long z) in
    stored (place (goal.at.returns c).After-index_place-a) c.put_index.ensures c.store_chain.ensures many
    (rw (first-size z, chain-long z) (inside z))
