-- What the calls with a key refuse (W7 of document 02).
-- Assumes nothing.
use Rattle.std.specs.Prelude.{Bool, not, cond, ◌||◌, ℕ, ◌+◌, ◌/◌, ◌%◌, eqb, ltb}
use Rattle.lsh.specs.WordSize.{is_word_size, size_of, block_bytes}
use Rattle.answers.specs.First.{first}
use Rattle.limits.specs.Limits.{is_digest_length, limit}
use Rattle.orders.specs.declared.Record.{Record}
use Rattle.orders.specs.Record.{sound}

-- a digest of n bits is whole bytes, and how many
unfoldable pub is_whole_bytes : ℕ → Bool
is_whole_bytes n = eqb (n % 8) 0

abbrev pub tag_bytes : ℕ → ℕ
tag_bytes n = n / 8

-- by w, n and the lengths of the key and the message: 1 if w is neither 32 nor 64, then 2 if n is no digest length, then 18 if n is no multiple of 8,
-- then 5 if the key, or the key's block and the message, are above the limit
unfoldable pub key_answer : ℕ → ℕ → ℕ → ℕ → ℕ
key_answer w n key_length len =
    cond (not (is_word_size w)) 1
    (cond (not (is_digest_length w n)) 2
    (cond (not (is_whole_bytes n)) 18
    (cond (ltb limit key_length || ltb limit (block_bytes (size_of w) + len)) 5
    0)))

-- 12 if an output of this size has no room for a tag
unfoldable pub room_answer : ℕ → ℕ → ℕ
room_answer n size = cond (ltb size (tag_bytes n)) 12 0

-- of the tag of one message, by w, n, the lengths of the key and the message, and the size of the output
unfoldable pub tag_answer : ℕ → ℕ → ℕ → ℕ → ℕ → ℕ
tag_answer w n key_length len size = first (key_answer w n key_length len) (room_answer n size)

-- of a finish, by the record, the length of the key and the size of the output: 3 if the record is not sound, then 18 if its n is no multiple of 8, then
-- 5 if the key is above the limit, then 12
unfoldable pub finish_answer : Record → ℕ → ℕ → ℕ
finish_answer r key_length size =
    cond (not (sound r)) 3
    (cond (not (is_whole_bytes r.n)) 18
    (cond (ltb limit key_length) 5
    (room_answer r.n size)))
