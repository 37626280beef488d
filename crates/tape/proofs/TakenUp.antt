-- An order can be taken up at each checkpoint of its roll, after every list of calls of demand 3.
-- Assumes nothing.
use mathlib.Core.Path.{◌≡◌, sym, ap, ◌∙◌}
use mathlib.Core.Bool.{true}
use mathlib.Core.List.{List, [], ◌∷◌, ◌++◌}
use Prim.Native.Nat.{ℕ, ◌+◌, ◌-◌, ◌*◌, ◌/◌, ◌≤◌}
use native.Mathlib.Nat.{mul-div_cancel}
use native.Mathlib.Omega.{arith}
use lib.ListN.{length, take, drop, length-append, take-append-drop}
use lib.Seq.{length-take-le}
use Rattle.lsh.specs.WordSize.{WordSize, is_word_size, size_of, block_bytes}
use Rattle.lsh.specs.Opening.{opening}
use Rattle.lsh.specs.Chains.{chain_after}
use Rattle.lsh.proofs.Figures.{block-some}
use Rattle.limits.specs.Limits.{is_digest_length, limit}
use Rattle.orders.specs.declared.Record.{Record}
use Rattle.orders.specs.Record.{record_of, record_at}
use Rattle.orders.proofs.Strings.{record-at}
use Rattle.orders.specs.Append.{append_call}
use Rattle.orders.proofs.Joins.{append-within}
use Rattle.checkpoints.specs.Due.{Checkpoint, checkpoints_at, due_numbers, Each}
use Rattle.checkpoints.specs.Roll.{shown}
use Rattle.checkpoints.proofs.Due.{due-each}
use Rattle.tape.specs.Tape.{WithRoll, RollSize, whole_blocks}
use Rattle.tape.specs.Calls.{Call}
use Rattle.tape.specs.TapeRoll.{tape_checkpoints}
use Rattle.tape.specs.Orders.{order_after, tape_after, Premise}
use Rattle.tape.specs.TakenUp.{TakenUp}
use Rattle.tape.specs.First.{First, first_call, first_bytes}
use Rattle.tape.proofs.Records.{WithinLimit, take_within, append-next}
use Rattle.tape.proofs.Chains.{blocks-in}
use Rattle.tape.proofs.First.{new-order}
use Rattle.tape.proofs.Corrected.{tape-is-sound, corrected-from}

module _ (w : ℕ) (word : is_word_size w ≡ true) (n : ℕ) (digest : is_digest_length w n ≡ true) (s : List ℕ) (short : WithinLimit s) where
  abbrev Z : WordSize
  Z = size_of w

  abbrev B : ℕ
  B = block_bytes Z

  -- at any block
  block-taken-up : (k : ℕ) → k * B ≤ length s → TakenUp w n k (chain_after Z (opening Z n) s k) s
  unfolding whole_blocks
  block-taken-up k le =
      let front : List ℕ = take (k * B) s in
      let rest : List ℕ = drop (k * B) s in
      let all : front ++ rest ≡ s = take-append-drop (k * B) s in
      let size : length front ≡ k * B = length-take-le (k * B) s le in
      let few : length front + length rest ≤ limit = omega (arith, sym (length-append front rest), ap length all, short.few) in
      let blocks : length front / B ≡ k = ap (λ (m : ℕ). m / B) size ∙ mul-div_cancel k (block-some w) in
      let is : record_at w n k (chain_after Z (opening Z n) s k) ≡ record_of w n front = record-at w n k s le in
      record {
        recorded = is;
        goes_on =
            ap (λ (r : Record). append_call r rest) is
            ∙ append-within w n front rest word digest (take_within (k * B) s short).few few
            ∙ append-next w word n digest front (take_within (k * B) s short) rest
            ∙ λ i. record { number = 0; count = length (all i) / B - blocks i; next = record_of w n (all i) };
      }

  -- so at each number of a list up to the whole blocks
  each-taken-up : (l : List ℕ) → Each (λ (k : ℕ). k ≤ whole_blocks w s) l
      → Each (λ (c : Checkpoint). TakenUp w n c.number c.chain s) (checkpoints_at (chain_after Z (opening Z n) s) l)
  unfolding whole_blocks
  each-taken-up [] up = tt
  each-taken-up (k ∷ l) up = (block-taken-up k (blocks-in w n s k up.0), each-taken-up l up.1)

-- each checkpoint that the roll shows
module _ (w n : ℕ) (first : First) (size : RollSize) (cs : List Call) (accepted : (first_call w n first).number ≡ 0) where
  abbrev roll : List ℕ
  roll = (order_after w (WithRoll size) (first_call w n first).next cs).roll

  abbrev bytes : List ℕ
  bytes = (tape_after w (WithRoll size) (first_bytes w n first) cs).bytes

  pub taken-up : Premise w (WithRoll size) (first_bytes w n first) cs → Each (λ (c : Checkpoint). TakenUp w n c.number c.chain bytes) (shown (size_of w) roll)
  unfolding tape_checkpoints
  taken-up h =
      let new = new-order w n first accepted in
      rw (corrected-from w n first (WithRoll size) cs accepted h).as_tape.shows.shows
      (each-taken-up w new.word n new.digest bytes (tape-is-sound w n first (WithRoll size) cs accepted).bytes (due_numbers 0 (whole_blocks w bytes))
      (due-each 0 (whole_blocks w bytes) _ (λ k from to. to)))
