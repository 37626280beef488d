-- A check says yes exactly if nothing is refused and the tag is that of the definition; so one of another length gets a no.
-- Assumes nothing.
use mathlib.Core.Path.{◌≡◌, sym, ap, ◌∙◌}
use mathlib.Core.Bool.{true}
use mathlib.Core.List.{List, ◌++◌}
use Prim.Native.Nat.{ℕ}
use borrow.Author.Tests.{eqb-true, eq-eqb}
use lib.Dec.{eqb}
use lib.ListN.{length}
use Rattle.lsh.proofs.Tests.{and-true}
use Rattle.lists.specs.Equal.{equal}
use Rattle.lists.proofs.Equal.{equal-self, equal-true}
use Rattle.tags.specs.Hmac.{hash_bytes, inner_key, outer_key, tag_of, hmac}
use Rattle.tags.proofs.Digests.{length-hash}
use Rattle.tags.specs.KeyAnswer.{tag_bytes, key_answer}
use Rattle.tags.specs.Check.{check_call}
use Rattle.tags.proofs.Accepted.{Keyed, keyed}

module _ (w n : ℕ) (key m tag : List ℕ) where
  abbrev answer : ℕ
  answer = key_answer w n (length key) (length m)

  pub yes-tag : (check_call w n key m tag).same ≡ true → ((check_call w n key m tag).number ≡ 0) × (hmac w n key m ≡ tag)
  unfolding check_call
  yes-tag is =
      let both : (eqb answer 0 ≡ true) × (equal (hmac w n key m) tag ≡ true) = and-true (eqb answer 0) (equal (hmac w n key m) tag) is in
      (eqb-true answer 0 both.0, equal-true (hmac w n key m) tag both.1)

  pub tag-yes : (check_call w n key m tag).number ≡ 0 → hmac w n key m ≡ tag → (check_call w n key m tag).same ≡ true
  unfolding check_call
  tag-yes is same = rw (eq-eqb answer 0 is, sym same) (equal-self (hmac w n key m))

  -- as many bytes as the tag has
  length-tag : Keyed w n (length key) (length m) → length (hmac w n key m) ≡ tag_bytes n
  unfolding hmac tag_of
  length-tag ok = length-hash w n ok.word_size ok.digest_length ok.bytewise (outer_key w n key ++ hash_bytes w n (inner_key w n key ++ m))

  pub yes-length : (check_call w n key m tag).same ≡ true → length tag ≡ tag_bytes n
  unfolding check_call
  yes-length is =
      ap length (sym (yes-tag is).1) ∙ length-tag (keyed w n (length key) (length m) (yes-tag is).0)
