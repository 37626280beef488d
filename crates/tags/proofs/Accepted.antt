-- What an answer says of the calls with a key.
-- Assumes nothing.
use mathlib.Core.Path.{◌≡◌, refl, sym, ◌∙◌}
use mathlib.Core.Bool.{true, false, not, ◌||◌}
use mathlib.Core.List.{[], ◌∷◌}
use Prim.Native.Nat.{ℕ, ◌+◌, ◌%◌, ◌≤◌}
use borrow.Author.Tests.{eqb-true, ltb-false, not-false}
use lib.Dec.{ltb}
use Rattle.lsh.specs.WordSize.{is_word_size, size_of, block_bytes}
use Rattle.answers.proofs.Tests.{test, passed}
use Rattle.answers.proofs.First.{both-passed}
use Rattle.limits.specs.Limits.{is_digest_length, limit}
use Rattle.lsh.proofs.Tests.{or-false}
use Rattle.orders.specs.declared.Record.{Record}
use Rattle.orders.specs.Record.{sound}
use Rattle.tags.specs.KeyAnswer.{is_whole_bytes, tag_bytes, key_answer, room_answer, tag_answer, finish_answer}

-- a call that the tests of w, n and the lengths accept
pub record Keyed (w n key_length len : ℕ) : Type 0 where
  pub word_size : is_word_size w ≡ true
  pub digest_length : is_digest_length w n ≡ true
  pub bytewise : n % 8 ≡ 0
  pub short : key_length ≤ limit
  pub within : block_bytes (size_of w) + len ≤ limit

bytewise-is : (n : ℕ) → is_whole_bytes n ≡ true → n % 8 ≡ 0
unfolding is_whole_bytes
bytewise-is n e = eqb-true (n % 8) 0 e

-- 2 comes before 18: an n out of range gets it, a multiple of 8 or not
pub range-first : (w n key_length len : ℕ) → is_word_size w ≡ true → is_digest_length w n ≡ false → key_answer w n key_length len ≡ 2
unfolding key_answer
range-first w n key_length len word out = rw (word, out)

pub keyed : (w n key_length len : ℕ) → key_answer w n key_length len ≡ 0 → Keyed w n key_length len
unfolding key_answer
keyed w n key_length len is =
    let b : ℕ = block_bytes (size_of w) + len in
    let p =
    (passed (λ (k : ℕ). k)
    (test (not (is_word_size w)) 1 ∷ test (not (is_digest_length w n)) 2 ∷ test (not (is_whole_bytes n)) 18 ∷ test (ltb limit key_length || ltb limit b) 5 ∷ []) 0 refl is).0 in
    let few = or-false (ltb limit key_length) (ltb limit b) (p 3) in
    record {
      word_size = not-false (is_word_size w) (p 0);
      digest_length = not-false (is_digest_length w n) (p 1);
      bytewise = bytewise-is n (not-false (is_whole_bytes n) (p 2));
      short = ltb-false limit key_length few.0;
      within = ltb-false limit b few.1;
    }

roomy : (n size : ℕ) → room_answer n size ≡ 0 → tag_bytes n ≤ size
unfolding room_answer
roomy n size is = ltb-false size (tag_bytes n) ((passed (λ (k : ℕ). k) (test (ltb size (tag_bytes n)) 12 ∷ []) 0 refl is).0 0)

-- the tag of one message
pub tag-accepted : (w n key_length len size : ℕ) → tag_answer w n key_length len size ≡ 0 → Keyed w n key_length len × (tag_bytes n ≤ size)
unfolding tag_answer
tag-accepted w n key_length len size is =
    let both = both-passed (key_answer w n key_length len) (room_answer n size) is in
    (keyed w n key_length len both.0, roomy n size both.1)

-- the finish
pub finish-accepted : (r : Record) (key_length size : ℕ) → finish_answer r key_length size ≡ 0 → (sound r ≡ true) × (r.n % 8 ≡ 0) × (tag_bytes r.n ≤ size)
unfolding finish_answer
finish-accepted r key_length size is =
    let p =
    passed (λ (k : ℕ). k) (test (not (sound r)) 3 ∷ test (not (is_whole_bytes r.n)) 18 ∷ test (ltb limit key_length) 5 ∷ []) (room_answer r.n size) refl is in
    (not-false (sound r) (p.0 0), bytewise-is r.n (not-false (is_whole_bytes r.n) (p.0 1)), roomy r.n size (sym p.1 ∙ is))
