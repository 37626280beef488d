-- Close of document 01 ("Receipts and the tally"): the answer, the digest it gives, and the output after the call.
-- Assumes nothing.
use Rattle.std.specs.Prelude.{Bool, not, cond, List, ℕ, ◌+◌, ◌*◌, length}
use Rattle.lsh.specs.WordSize.{size_of}
use Rattle.lsh.specs.Block.{forwards}
use Rattle.lsh.specs.Bits.{bytes_of_bits}
use Rattle.lsh.specs.Padding.{padded, blocks_of}
use Rattle.lsh.specs.Hash.{digest}
use Rattle.answers.specs.Output.{written}
use Rattle.orders.specs.declared.Record.{Record}
use Rattle.orders.specs.Record.{sound, held_bytes}
use Rattle.receipts.specs.Receipt.{receipt_bytes, receipt}
use Rattle.receipts.specs.Ending.{message_bits, end_answer}

-- by the record, the last byte with e bits, and the size of the output: 3 if the record is not sound, and then the answer of the message's end
unfoldable pub close_answer : Record → ℕ → ℕ → ℕ → ℕ
close_answer r last e size = cond (not (sound r)) 3 (end_answer last e size)

-- the digest that the record gives: the bytes held and the extra bits, padded, are the last block, and it is run on the chain
unfoldable pub closed_digest : Record → ℕ → ℕ → List Bool
closed_digest r last e =
    digest (size_of r.w) r.n
    (forwards (size_of r.w) (blocks_of (size_of r.w) (bytes_of_bits (padded (size_of r.w) (message_bits (held_bytes r) last e)))) r.chain)

-- the receipt of this digest, and of 8 bits for each byte and e more, is written
unfoldable pub close_output : Record → ℕ → ℕ → List ℕ → List ℕ
close_output r last e output =
    written (close_answer r last e (length output)) receipt_bytes
    (receipt r.w r.n (closed_digest r last e) (8 * r.total + e))
    output
