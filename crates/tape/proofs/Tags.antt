-- A corrected order that began with a key has the tag of the message that remains, also while a split rewind is unfinished.
-- Assumes nothing.
use mathlib.Core.Path.{◌≡◌, refl, ap, ◌∙◌, subst}
use mathlib.Core.Bool.{true, cond}
use mathlib.Core.List.{List, ◌++◌}
use Prim.Native.Nat.{ℕ}
use lib.ListN.{length}
use lib.Seq.{drop_at}
use Rattle.lsh.specs.ByteString.{Bytes}
use Rattle.lsh.proofs.Bytes.{bytes_drop}
use Rattle.orders.specs.declared.Record.{Record}
use Rattle.orders.specs.declared.Split.{Split}
use Rattle.orders.specs.Split.{not_begun}
use Rattle.orders.specs.Record.{sound, with_split, record_of}
use Rattle.tags.specs.Hmac.{inner_key}
use Rattle.tags.specs.KeyAnswer.{tag_answer}
use Rattle.tags.specs.Tag.{tag_output}
use Rattle.tags.specs.Start.{start_call}
use Rattle.tags.specs.KeyAnswer.{finish_answer}
use Rattle.tags.specs.Finish.{finish_output}
use Rattle.tags.proofs.Accepted.{Keyed}
use Rattle.tags.proofs.Started.{start-accepted, keyed-message}
use Rattle.tape.proofs.Finished.{finish-answer, finish-output}
use Rattle.tape.proofs.AnyMark.{finish-answer-unfinished, finish-output-unfinished}
use Rattle.tape.specs.Tape.{Lent, Tape}
use Rattle.tape.specs.TapeRecord.{tape_split, tape_record}
use Rattle.tape.specs.Calls.{Call}
use Rattle.tape.specs.First.{Started}
use Rattle.tape.specs.Orders.{order_after, tape_after, Premise}
use Rattle.tape.proofs.Records.{WithinLimit}
use Rattle.tape.proofs.Corrected.{tape-is-sound, both-sound, corrected-from}
use Rattle.tape.proofs.OneCall.{SoundTape}

module _ (w n : ℕ) (key : List ℕ) (lent : Lent) (cs : List Call) (accepted : (start_call w n key).number ≡ 0) where
  abbrev T : Tape
  T = tape_after w lent (inner_key w n key) cs

  abbrev final : Record
  final = (order_after w lent (start_call w n key).next cs).kept

  abbrev split : Split
  split = cond T.begun (tape_split w n T.bytes T.number) not_begun

  good : SoundTape w T
  good = tape-is-sound w n (Started key) lent cs accepted

  first : Keyed w n (length key) 0
  first = start-accepted w n key accepted

  sounds : (sound (record_of w n T.bytes) ≡ true) × (sound (with_split (record_of w n T.bytes) split) ≡ true)
  unfolding tape_record
  sounds = both-sound w n T first.word_size first.digest_length good

  -- the message m is what the tape has after the key's inner block
  module _ (m : List ℕ) (after : T.bytes ≡ inner_key w n key ++ m) where
    both : WithinLimit (inner_key w n key ++ m)
    both = subst WithinLimit after good.bytes

    keyed : Keyed w n (length key) (length m)
    keyed = keyed-message w n key accepted m both.few

    message-bytes : Bytes m
    message-bytes = subst Bytes (drop_at (inner_key w n key) m _ refl) (bytes_drop (length (inner_key w n key)) (inner_key w n key ++ m) both.bytes)

    pub corrected-tag : Premise w lent (inner_key w n key) cs → (output : List ℕ)
        → (finish_answer final (length key) (length output) ≡ tag_answer w n (length key) (length m) (length output))
        × (finish_output final key output ≡ tag_output w n key m output)
    unfolding tape_record
    corrected-tag h output =
        let remains = (corrected-from w n (Started key) lent cs accepted h).as_tape.remains in (
          ap (λ (r : Record). finish_answer r (length key) (length output)) remains
              ∙ finish-answer-unfinished (record_of w n T.bytes) split sounds.0 sounds.1 (length key) (length output)
              ∙ ap (λ (s : List ℕ). finish_answer (record_of w n s) (length key) (length output)) after
              ∙ finish-answer w n key m keyed (length output),
          ap (λ (r : Record). finish_output r key output) remains
              ∙ finish-output-unfinished (record_of w n T.bytes) split sounds.0 sounds.1 key output
              ∙ ap (λ (s : List ℕ). finish_output (record_of w n s) key output) after
              ∙ finish-output w n key m keyed message-bytes output,
        )
