-- A new order whose first call was accepted: its record is that of the tape, which has no bytes yet or one block.
-- Assumes nothing.
use mathlib.Core.Path.{◌≡◌, refl, sym, ap, ◌∙◌}
use mathlib.Core.Bool.{true, not}
use mathlib.Core.List.{List, [], ◌∷◌}
use Prim.Native.Nat.{ℕ, ◌/◌, ◌≤◌, zero-le}
use native.Mathlib.Nat.{zero-div, div_self}
use native.Mathlib.Omega.{arith}
use lib.ListN.{length}
use borrow.Author.Tests.{not-false}
use Rattle.lsh.specs.WordSize.{is_word_size, size_of, block_bytes}
use Rattle.lsh.proofs.Figures.{block-some}
use Rattle.answers.proofs.Tests.{test, passed}
use Rattle.limits.specs.Limits.{is_digest_length}
use Rattle.orders.specs.declared.Outcome.{Outcome}
use Rattle.orders.specs.Record.{zeros, record_of, refused}
use Rattle.orders.specs.Open.{opened, open_call}
use Rattle.orders.proofs.Strings.{open_next, record-none}
use Rattle.tags.proofs.Keys.{inner-bytes}
use Rattle.tags.proofs.Started.{start-accepted, started-record, started-length, started-count}
use Rattle.tape.specs.Tape.{whole_blocks}
use Rattle.tape.specs.First.{First, Opened, Started, first_call, first_bytes}
use Rattle.tape.proofs.Records.{WithinLimit}

pub record NewOrder (w n : ℕ) (o : Outcome) (s : List ℕ) : Type 0 where
  pub word : is_word_size w ≡ true
  pub digest : is_digest_length w n ≡ true
  pub recorded : o.next ≡ record_of w n s
  pub within : WithinLimit s
  pub counted : o.count ≡ whole_blocks w s
  pub few : whole_blocks w s ≤ 1

open-accepted : (w n : ℕ) → (open_call w n).number ≡ 0 → (is_word_size w ≡ true) × (is_digest_length w n ≡ true)
unfolding open_call refused
open-accepted w n e =
    let p =
    (passed (λ (o : Outcome). o.number) (test (not (is_word_size w)) (refused 1 zeros) ∷ test (not (is_digest_length w n)) (refused 2 zeros) ∷ [])
    (record { number = 0; count = 0; next = opened w n }) refl e).0 in
    (not-false (is_word_size w) (p 0), not-false (is_digest_length w n) (p 1))

open-new : (w n : ℕ) → (open_call w n).number ≡ 0 → NewOrder w n (open_call w n) []
unfolding open_call whole_blocks
open-new w n e =
    let ok = open-accepted w n e in
    let none : 0 / block_bytes (size_of w) ≡ 0 = zero-div (block_bytes (size_of w)) in
    record {
      word = ok.0;
      digest = ok.1;
      recorded = open_next w n ok.0 ok.1 ∙ sym (record-none w n);
      within = record { few = zero-le; bytes = λ i. omega arith };
      counted = rw (ok.0, ok.1) (sym none);
      few = omega (arith, none);
    }

start-new : (w n : ℕ) (key : List ℕ) → (first_call w n (Started key)).number ≡ 0 → NewOrder w n (first_call w n (Started key)) (first_bytes w n (Started key))
unfolding whole_blocks
start-new w n key e =
    let ok = start-accepted w n key e in
    let one : length (first_bytes w n (Started key)) / block_bytes (size_of w) ≡ 1 =
    ap (λ (k : ℕ). k / block_bytes (size_of w)) (started-length w n key e) ∙ div_self (block-some w) in
    record {
      word = ok.word_size;
      digest = ok.digest_length;
      recorded = started-record w n key e;
      within =
          record {
            few = omega (arith, started-length w n key e, ok.within);
            bytes = inner-bytes w n key;
          };
      counted = started-count w n key e ∙ sym one;
      few = omega (arith, one);
    }

pub new-order : (w n : ℕ) (first : First) → (first_call w n first).number ≡ 0 → NewOrder w n (first_call w n first) (first_bytes w n first)
new-order w n Opened e = open-new w n e
new-order w n (Started key) e = start-new w n key e
