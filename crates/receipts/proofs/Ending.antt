-- What the answer 0 says of a message's end, and the length of a message in bits.
-- Assumes nothing.
use mathlib.Core.Path.{◌≡◌, refl, ◌∙◌}
use mathlib.Core.Bool.{Bool, not}
use mathlib.Core.List.{List, [], ◌∷◌}
use Prim.Native.Nat.{ℕ, ◌+◌, ◌-◌, ◌*◌, ◌%◌, ◌^◌, ◌≤◌}
use native.Mathlib.Omega.{arith}
use borrow.Author.Tests.{ltb-false, eqb-true, not-false}
use lib.Dec.{ltb, eqb}
use lib.ListN.{length, take, length-append}
use lib.Seq.{length-take-le}
use Rattle.lsh.specs.Bits.{bits_of_byte, bits_of}
use Rattle.message.proofs.Bits.{length-bits}
use Rattle.answers.proofs.Tests.{test, passed}
use Rattle.receipts.specs.Receipt.{receipt_bytes}
use Rattle.receipts.specs.Ending.{message_bits, end_answer}

-- an accepted end
pub record Ended (last e size : ℕ) : Type 0 where
  pub extra : e ≤ 7
  pub low : last % 2 ^ (8 - e) ≡ 0
  pub room : receipt_bytes ≤ size

pub ended : (last e size : ℕ) → end_answer last e size ≡ 0 → Ended last e size
unfolding end_answer
ended last e size is =
    let even : Bool = eqb (last % 2 ^ (8 - e)) 0 in
    let p = (passed (λ (k : ℕ). k) (test (ltb 7 e) 10 ∷ test (not even) 11 ∷ test (ltb size receipt_bytes) 12 ∷ []) 0 refl is).0 in
    record {
      extra = ltb-false 7 e (p 0);
      low = eqb-true (last % 2 ^ (8 - e)) 0 (not-false even (p 1));
      room = ltb-false size receipt_bytes (p 2);
    }

-- 8 bits for each byte, and e more
pub message-length : (s : List ℕ) (last e : ℕ) → e ≤ 7 → length (message_bits s last e) ≡ 8 * length s + e
unfolding message_bits bits_of_byte
message-length s last e h =
    length-append (bits_of s) (take e (bits_of_byte last)) ∙ omega (arith, length-bits s, length-take-le e (bits_of_byte last) (omega arith))
