-- The record of a newly started tag: that of the key's inner block.
-- Assumes nothing.
use mathlib.Core.Path.{◌≡◌, sym, ap, ◌∙◌}
use mathlib.Core.Bool.{true}
use mathlib.Core.List.{List, [], ◌++◌}
use Prim.Native.Nat.{ℕ, ◌≤◌, zero-le}
use native.Mathlib.Nat.{zero-add, zero-div, div_self}
use native.Mathlib.Omega.{arith}
use lib.ListN.{length, length-append}
use Rattle.lsh.specs.WordSize.{is_word_size, size_of, block_bytes}
use Rattle.lsh.proofs.Figures.{block-some}
use Rattle.limits.specs.Limits.{is_digest_length, limit}
use Rattle.orders.specs.declared.Outcome.{Outcome}
use Rattle.orders.specs.Record.{sound, zeros, record_of}
use Rattle.orders.specs.Open.{opened}
use Rattle.orders.proofs.InTurn.{answered-accepted}
use Rattle.orders.proofs.Strings.{record-sound, record-none}
use Rattle.orders.specs.Append.{append_accepted}
use Rattle.orders.proofs.Joins.{record-piece}
use Rattle.tags.specs.Hmac.{inner_key}
use Rattle.tags.proofs.Keys.{inner-length}
use Rattle.tags.specs.KeyAnswer.{key_answer}
use Rattle.tags.specs.Start.{start_call}
use Rattle.tags.proofs.Accepted.{Keyed, keyed}

pub opened-sound : (w n : ℕ) → is_word_size w ≡ true → is_digest_length w n ≡ true → sound (opened w n) ≡ true
opened-sound w n word digest = ap sound (sym (record-none w n)) ∙ record-sound w n [] word digest zero-le

module _ (w n : ℕ) (key : List ℕ) (accepted : (start_call w n key).number ≡ 0) where
  abbrev first : Outcome
  first = append_accepted (opened w n) (inner_key w n key)

  call-is : (key_answer w n (length key) 0 ≡ 0) × (start_call w n key ≡ first)
  unfolding start_call
  call-is = answered-accepted (key_answer w n (length key) 0) zeros first accepted

  pub start-accepted : Keyed w n (length key) 0
  start-accepted = keyed w n (length key) 0 call-is.0

  pub started-record : (start_call w n key).next ≡ record_of w n (inner_key w n key)
  unfolding append_accepted
  started-record = ap (λ (o : Outcome). o.next) call-is.1 ∙ record-piece w n (inner_key w n key)

  pub started-length : length (inner_key w n key) ≡ block_bytes (size_of w)
  started-length = inner-length w n start-accepted.word_size start-accepted.digest_length start-accepted.bytewise key

  -- with a message that the limit lets pass, the tests are passed as well
  pub keyed-message : (m : List ℕ) → length (inner_key w n key ++ m) ≤ limit → Keyed w n (length key) (length m)
  keyed-message m few =
      record {
        word_size = start-accepted.word_size;
        digest_length = start-accepted.digest_length;
        bytewise = start-accepted.bytewise;
        short = start-accepted.short;
        within = omega (arith, few, length-append (inner_key w n key) m, started-length);
      }

  -- one block is run
  pub started-count : (start_call w n key).count ≡ 1
  unfolding append_accepted opened
  started-count =
      ap (λ (o : Outcome). o.count) call-is.1
      ∙ rw (zero-add (length (inner_key w n key)), started-length, div_self (block-some w), zero-div (block_bytes (size_of w)))
