-- Pieces appended one after the other, refused ones included, are the accepted ones joined.
-- Assumes nothing.
use mathlib.Core.Path.{◌≡◌, refl, sym, ap, ◌∙◌, subst}
use mathlib.Core.Bool.{Bool, true, false, cond}
use mathlib.Core.List.{List, [], ◌∷◌, ◌++◌, append-nil, append_assoc}
use Prim.Native.Nat.{ℕ, ◌+◌, ◌≤◌}
use native.Mathlib.Omega.{arith}
use borrow.Author.Tests.{ltb-true, ltb-false}
use lib.Dec.{eqb, ltb}
use lib.ListN.{length, length-append}
use Rattle.lsh.specs.ByteString.{Bytes, ByteString}
use Rattle.lsh.specs.WordSize.{is_word_size}
use Rattle.lsh.proofs.Bytes.{bytes-append}
use Rattle.limits.specs.Limits.{is_digest_length, limit}
use Rattle.orders.specs.declared.Record.{Record}
use Rattle.orders.specs.declared.Outcome.{Outcome}
use Rattle.orders.specs.Record.{record_of, refused}
use Rattle.orders.specs.Append.{append_accepted, append_call}
use Rattle.orders.proofs.Joins.{append-record, append-over, append-within}
use Rattle.orders.specs.Pieces.{after_pieces, accepted_bytes}

module _ (w n : ℕ) (word : is_word_size w ≡ true) (digest : is_digest_length w n ≡ true) where
  -- the record of the bytes m and of the accepted pieces after them, which are bytes within the limit
  pub record Joined (m : List ℕ) (r : Record) (s : List ℕ) : Type 0 where
    pub is : r ≡ record_of w n (m ++ s)
    pub few : length m + length s ≤ limit
    pub bytes : Bytes s

  -- one more piece before the others
  with_first : (m : List ℕ) (p : ByteString) {r : Record} {s : List ℕ} → Joined (m ++ p.list) r s → Joined m r (p.list ++ s)
  with_first m p {r} {s} j =
      record {
        is = j.is ∙ ap (record_of w n) (append_assoc m p.list s);
        few = omega (arith, j.few, length-append m p.list, length-append p.list s);
        bytes = bytes-append p.list s p.bytes j.bytes;
      }

  -- the record after pieces, and the accepted ones, on the record of the bytes m
  abbrev After : List ByteString → List ℕ → Type 0
  After ps m = Joined m (after_pieces (record_of w n m) ps) (accepted_bytes (record_of w n m) ps)

  after_first : (p : ByteString) (ps : List ByteString) → ((m : List ℕ) → length m ≤ limit → After ps m) → (m : List ℕ) → length m ≤ limit → After (p ∷ ps) m
  unfolding refused append_accepted
  after_first p ps rest m few = go (ltb limit (length m + length p.list)) refl
    where
      By : Outcome → Type 0
      By o = Joined m (after_pieces o.next ps) (cond (eqb o.number 0) p.list [] ++ accepted_bytes o.next ps)

      go : (over : Bool) → ltb limit (length m + length p.list) ≡ over → By (append_call (record_of w n m) p.list)
      go true over = subst By (sym (append-over w n m p.list word digest few (ltb-true limit (length m + length p.list) over))) (rest m few)
      go false within =
          let fits : length m + length p.list ≤ limit = ltb-false limit (length m + length p.list) within in
          subst By (sym (append-within w n m p.list word digest few fits))
          (subst (λ (r : Record). Joined m (after_pieces r ps) (p.list ++ accepted_bytes r ps)) (sym (append-record w n m p.list word))
          (with_first m p (rest (m ++ p.list) (omega (arith, length-append m p.list)))))

  pub joined : (ps : List ByteString) (m : List ℕ) → length m ≤ limit → After ps m
  joined [] m few = record { is = ap (record_of w n) (sym (append-nil m)); few = omega arith; bytes = λ i. omega arith }
  joined (p ∷ ps) m few = after_first p ps (joined ps) m few
