-- With one key at both, the tag of a list of pieces is that of their joining: of the accepted ones, if some were refused.
-- Assumes nothing.
use mathlib.Core.Path.{◌≡◌, sym, ap, ◌∙◌, subst}
use mathlib.Core.List.{List}
use Prim.Native.Nat.{ℕ}
use native.Mathlib.Omega.{arith}
use lib.ListN.{length, length-append}
use Rattle.lsh.specs.ByteString.{ByteString}
use Rattle.orders.specs.declared.Record.{Record}
use Rattle.tags.specs.Hmac.{inner_key}
use Rattle.tags.specs.KeyAnswer.{tag_answer}
use Rattle.tags.specs.Tag.{tag_output}
use Rattle.tags.specs.Start.{start_call}
use Rattle.tags.specs.KeyAnswer.{finish_answer}
use Rattle.tags.specs.Finish.{finish_output}
use Rattle.orders.specs.Pieces.{after_pieces, accepted_bytes}
use Rattle.tags.proofs.Accepted.{Keyed}
use Rattle.tags.proofs.Started.{start-accepted, started-record, started-length, keyed-message}
use Rattle.tape.proofs.Finished.{finish-answer, finish-output}
use Rattle.orders.proofs.Pieces.{Joined, joined}

module _ (w n : ℕ) (key : List ℕ) (accepted : (start_call w n key).number ≡ 0) (ps : List ByteString) where
  abbrev started : Record
  started = (start_call w n key).next

  abbrev message : List ℕ
  message = accepted_bytes started ps

  ok : Keyed w n (length key) 0
  ok = start-accepted w n key accepted

  all : Joined w n ok.word_size ok.digest_length (inner_key w n key) (after_pieces started ps) message
  all =
      subst (λ (r : Record). Joined w n ok.word_size ok.digest_length (inner_key w n key) (after_pieces r ps) (accepted_bytes r ps))
      (sym (started-record w n key accepted))
      (joined w n ok.word_size ok.digest_length ps (inner_key w n key) (omega (arith, started-length w n key accepted, ok.within)))

  keyed : Keyed w n (length key) (length message)
  keyed = keyed-message w n key accepted message (omega (arith, length-append (inner_key w n key) message, all.few))

  pub tag-of-pieces : (output : List ℕ)
      → (finish_answer (after_pieces started ps) (length key) (length output) ≡ tag_answer w n (length key) (length message) (length output))
      × (finish_output (after_pieces started ps) key output ≡ tag_output w n key message output)
  tag-of-pieces output = (
    ap (λ (r : Record). finish_answer r (length key) (length output)) all.is ∙ finish-answer w n key message keyed (length output),
    ap (λ (r : Record). finish_output r key output) all.is ∙ finish-output w n key message keyed all.bytes output,
  )
