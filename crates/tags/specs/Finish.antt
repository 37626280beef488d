-- The finish of a tag over pieces: the output after the call.
-- Assumes nothing.
use Rattle.std.specs.Prelude.{List, ℕ, length}
use Rattle.lsh.specs.Bits.{bytes_of_bits}
use Rattle.answers.specs.Output.{written}
use Rattle.orders.specs.declared.Record.{Record}
use Rattle.receipts.specs.Close.{closed_digest}
use Rattle.tags.specs.Hmac.{tag_of}
use Rattle.tags.specs.KeyAnswer.{tag_bytes, finish_answer}

-- the digest that Close gives for the record without extra bits stands as the inner one
unfoldable pub finish_output : Record → List ℕ → List ℕ → List ℕ
finish_output r key output =
    written (finish_answer r (length key) (length output)) (tag_bytes r.n) (tag_of r.w r.n key (bytes_of_bits (closed_digest r 0 0))) output
