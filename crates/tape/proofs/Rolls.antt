-- The roll of an order: after an Append and after a cut it shows the tape's checkpoints again, if it did before.
-- Assumes nothing.
use mathlib.Core.Path.{◌≡◌, refl, sym, ap, ap₂, ◌∙◌}
use mathlib.Core.Bool.{true, false}
use mathlib.Core.List.{List, ◌++◌}
use Prim.Native.Nat.{ℕ, ◌+◌, ◌/◌, ◌≤◌}
use native.Mathlib.Omega.{arith}
use lib.Dec.{ltb}
use lib.ListN.{length, take, length-append, length-map}
use borrow.Author.Tests.{ltb-false}
use Rattle.lsh.specs.WordSize.{WordSize, is_word_size, size_of, block_bytes}
use Rattle.lsh.specs.Block.{Chain}
use Rattle.lsh.specs.Opening.{opening}
use Rattle.lsh.specs.Padding.{blocks_of}
use Rattle.lsh.proofs.Figures.{amounts}
use Rattle.lsh.proofs.Bytes.{octets}
use Rattle.lsh.proofs.Blocks.{forwards-chain}
use Rattle.lsh.proofs.Opening.{opening-chain}
use Rattle.orders.specs.declared.Record.{Record}
use Rattle.orders.specs.Record.{record_of}
use Rattle.checkpoints.specs.Due.{Checkpoint, checkpoints_at, numbers_of, up_to}
use Rattle.checkpoints.specs.Slots.{roll_bytes, slot_count}
use Rattle.checkpoints.specs.Roll.{new_roll, shown, is_roll, checkpoints}
use Rattle.checkpoints.specs.Checkpoints.{cut_to}
use Rattle.checkpoints.proofs.Due.{due-many, due-none}
use Rattle.checkpoints.proofs.Form.{new-size, new-shown, new-roll, slots-are, roll-of, is-roll-of}
use Rattle.checkpoints.proofs.Shown.{shown-many, unlinked-cut}
use Rattle.checkpoints.specs.AppendRoll.{due, is_full, chain_at}
use Rattle.checkpoints.proofs.AppendAnswers.{full_is, goal-of}
use Rattle.checkpoints.proofs.AppendShows.{inserted-due}
use Rattle.tape.specs.Tape.{Lent, NoRoll, WithRoll, RollSize, whole_blocks, too_many_blocks}
use Rattle.tape.specs.TapeRoll.{tape_checkpoints, TapeRoll, RollShows, lent_roll}
use Rattle.tape.proofs.Chains.{checkpoints-grow, checkpoints-cut}

-- a roll that shows the tape's checkpoints has a link for each
as_many : (w n : ℕ) (s roll : List ℕ) → shown (size_of w) roll ≡ tape_checkpoints w n s → length (shown (size_of w) roll) ≡ checkpoints w (length s)
unfolding tape_checkpoints whole_blocks checkpoints
as_many w n s roll shows = ap length shows ∙ simp length-map (due-many 0 (length s / block_bytes (size_of w)) ∙ omega arith)

tape-roll : (w n k : ℕ) (s roll : List ℕ) → length roll ≡ roll_bytes (size_of w) k → is_roll (size_of w) roll ≡ true
    → shown (size_of w) roll ≡ tape_checkpoints w n s → TapeRoll w n k s roll
unfolding record_of
tape-roll w n k s roll size is shows =
    record { size = size; is_of = is-roll-of (record_of w n s) roll is (sym (shown-many (size_of w) roll) ∙ as_many w n s roll shows); shows = shows }

-- a new roll shows those of a tape with less than 64 blocks
pub lent-shows : (w n : ℕ) (s : List ℕ) → whole_blocks w s ≤ 1 → (lent : Lent) → RollShows lent w n s (lent_roll w lent)
unfolding tape_checkpoints
lent-shows w n s short NoRoll = refl
lent-shows w n s short (WithRoll size) =
    let z = size_of w in
    let k = size.slots in
    tape-roll w n k s (new_roll z k) (new-size z k size.some size.most) (new-roll z k size.some size.most)
    (new-shown z k size.some size.most ∙ ap (checkpoints_at _) (sym (due-none 0 (whole_blocks w s) (omega arith))))

module _ (w : ℕ) (word : is_word_size w ≡ true) (n : ℕ) (s : List ℕ) (size : RollSize) (roll : List ℕ) (shows : TapeRoll w n size.slots s roll) where
  abbrev Z : WordSize
  Z = size_of w

  abbrev R : Record
  R = record_of w n s

  is : is_roll Z roll ≡ true
  unfolding record_of
  is = (roll-of R roll shows.is_of).0

  -- the checkpoints of a piece are inserted
  module _ (p : List ℕ) where
    slots-is : slot_count Z (length roll) ≡ size.slots
    slots-is = ap (slot_count Z) shows.size ∙ slots-are Z size.slots size.some size.most

    pub full-test : is_full R (length p) roll ≡ too_many_blocks (WithRoll size) (whole_blocks w (s ++ p))
    unfolding record_of whole_blocks checkpoints
    full-test = full_is R (length p) roll shows.is_of ∙ ap₂ ltb slots-is (ap (checkpoints w) (sym (length-append s p)))

    chain : Chain Z R.chain
    unfolding record_of
    chain = forwards-chain Z (amounts w) (blocks_of Z s) (opening Z n) (opening-chain w n)

    abbrev pub inserted_roll : List ℕ
    inserted_roll = goal-of R p roll

    pub inserted-shows : too_many_blocks (WithRoll size) (whole_blocks w (s ++ p)) ≡ false → TapeRoll w n size.slots (s ++ p) inserted_roll
    unfolding record_of is_full
    inserted-shows room =
        let u = inserted-due R chain p roll shows.is_of (ltb-false _ _ (full-test ∙ room)) in
        tape-roll w n size.slots (s ++ p) inserted_roll (u.size ∙ shows.size) u.roll
        (u.shows
        ∙ ap (λ (cs : List Checkpoint). cs ++ checkpoints_at (chain_at R p) (due R (length p))) shows.shows
        ∙ checkpoints-grow w n word s p)

  -- the checkpoints past the first x bytes are taken off
  pub cut-shows : (x : ℕ) → TapeRoll w n size.slots (take x s) (cut_to Z (whole_blocks w (take x s)) roll)
  unfolding cut_to
  cut-shows x =
      let b : ℕ = whole_blocks w (take x s) in
      let u = unlinked-cut Z (octets w) roll is (up_to b (numbers_of (shown Z roll))) in
      tape-roll w n size.slots (take x s) (cut_to Z b roll) (u.size ∙ shows.size) u.roll
      (u.shows ∙ ap (λ (cs : List Checkpoint). take (up_to b (numbers_of cs)) cs) shows.shows ∙ checkpoints-cut w n s x)
