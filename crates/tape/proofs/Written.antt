-- Every receipt that Whole or Close writes is well formed, and its four parts are read back from it.
-- Assumes nothing.
use mathlib.Core.Path.{◌≡◌}
use mathlib.Core.List.{List}
use Prim.Native.Nat.{ℕ, ◌+◌, ◌-◌, ◌*◌}
use native.Mathlib.Omega.{arith}
use lib.ListN.{length, take, drop}
use Rattle.lsh.specs.Hash.{hash, lsh}
use Rattle.answers.proofs.Output.{written_is}
use Rattle.receipts.specs.Receipt.{receipt_bytes}
use Rattle.receipts.specs.Ending.{message_bits, most_bits}
use Rattle.receipts.proofs.Ending.{message-length}
use Rattle.orders.specs.declared.Record.{Record}
use Rattle.orders.proofs.Sound.{sounds}
use Rattle.receipts.specs.Whole.{whole_answer, whole_output}
use Rattle.receipts.proofs.WholeAnswers as whole-answers
use Rattle.receipts.specs.Close.{close_answer, closed_digest, close_output}
use Rattle.receipts.proofs.CloseAnswers as close-answers
use Rattle.receipts.specs.Written.{Written}
use Rattle.receipts.proofs.Written.{at-front-of, digest-long}

pub whole-written : (w n : ℕ) (m : List ℕ) (last e : ℕ) (output : List ℕ) → whole_answer w n (length m) last e (length output) ≡ 0
    → Written w n (lsh w n (message_bits m last e)) (length (message_bits m last e)) (take receipt_bytes (whole_output w n m last e output))
unfolding whole_output lsh hash most_bits
whole-written w n m last e output is =
    let a = whole-answers.accepted w n (length m) last e (length output) is in
    at-front-of w n (lsh w n (message_bits m last e)) (length (message_bits m last e)) a.word_size a.digest_length
    (digest-long w n _ a.word_size a.digest_length)
    (omega (arith, message-length m last e a.end.extra, a.within, a.end.extra))
    (drop receipt_bytes output)
    (written_is _ receipt_bytes _ output is)

pub close-written : (r : Record) (last e : ℕ) (output : List ℕ) → close_answer r last e (length output) ≡ 0
    → Written r.w r.n (closed_digest r last e) (8 * r.total + e) (take receipt_bytes (close_output r last e output))
unfolding close_output closed_digest most_bits
close-written r last e output is =
    let a = close-answers.accepted r last e (length output) is in
    let s = sounds r a.sound_record in
    at-front-of r.w r.n (closed_digest r last e) (8 * r.total + e) s.word s.digest_length
    (digest-long r.w r.n _ s.word s.digest_length)
    (omega (arith, s.few, a.end.extra))
    (drop receipt_bytes output)
    (written_is _ receipt_bytes _ output is)
