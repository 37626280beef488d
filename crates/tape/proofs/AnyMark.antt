-- Close and the finish of a tag do not depend on how far a split rewind is.
-- Assumes nothing.
use mathlib.Core.Path.{◌≡◌, ap}
use mathlib.Core.Bool.{true}
use mathlib.Core.List.{List}
use Prim.Native.Nat.{ℕ, ◌+◌, ◌*◌}
use lib.ListN.{length}
use Rattle.answers.specs.Output.{written}
use Rattle.orders.specs.declared.Record.{Record}
use Rattle.orders.specs.declared.Split.{Split}
use Rattle.orders.specs.Record.{sound, held_bytes, with_split}
use Rattle.receipts.specs.Receipt.{receipt_bytes, receipt}
use Rattle.receipts.specs.Close.{close_answer, closed_digest, close_output}
use Rattle.lsh.specs.Bits.{bytes_of_bits}
use Rattle.tags.specs.Hmac.{tag_of}
use Rattle.tags.specs.KeyAnswer.{tag_bytes}
use Rattle.tags.specs.KeyAnswer.{finish_answer}
use Rattle.tags.specs.Finish.{finish_output}

module _ (r : Record) (s : Split) (ok : sound r ≡ true) (still : sound (with_split r s) ≡ true) (last e : ℕ) where
  pub same-answer-unfinished : (size : ℕ) → close_answer (with_split r s) last e size ≡ close_answer r last e size
  unfolding close_answer
  same-answer-unfinished size = rw (ok, still)

  pub same-output-unfinished : (output : List ℕ) → close_output (with_split r s) last e output ≡ close_output r last e output
  unfolding close_output closed_digest held_bytes with_split
  same-output-unfinished output =
      ap (λ (a : ℕ). written a receipt_bytes (receipt r.w r.n (closed_digest r last e) (8 * r.total + e)) output)
      (same-answer-unfinished (length output))

module _ (r : Record) (s : Split) (ok : sound r ≡ true) (still : sound (with_split r s) ≡ true) where
  pub finish-answer-unfinished : (key_length size : ℕ) → finish_answer (with_split r s) key_length size ≡ finish_answer r key_length size
  unfolding finish_answer with_split
  finish-answer-unfinished key_length size = rw (ok, still)

  pub finish-output-unfinished : (key output : List ℕ) → finish_output (with_split r s) key output ≡ finish_output r key output
  unfolding finish_output closed_digest held_bytes with_split
  finish-output-unfinished key output =
      ap (λ (a : ℕ). written a (tag_bytes r.n) (tag_of r.w r.n key (bytes_of_bits (closed_digest r 0 0))) output)
      (finish-answer-unfinished (length key) (length output))
