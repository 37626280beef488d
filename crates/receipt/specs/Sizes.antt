-- The sizes of the program's buffers, and what they are made of. The constants of the code have the same figures, and the `ensures` of the functions that
-- make the buffers tie the two.
-- Assumes nothing.
use Rattle.std.specs.Prelude.{ℕ, ◌+◌, ◌*◌}
use Rattle.receipts.specs.Receipt.{receipt_bytes}
use Rattle.decimal.specs.Number.{most_digits}
use Rattle.program.specs.Sizes.{name_bytes}

-- the longest key, and one byte more
abbrev pub key_room : ℕ
key_room = 65536 + 1

-- a line: a backslash, the digits of a receipt, a space and the length, two spaces, a name each of whose bytes is escaped, and the newline;
-- `text::put_bytes` asks for one more
unfoldable pub line_bytes : ℕ
line_bytes = 1 + (2 * receipt_bytes + 1) + (1 + most_digits) + 2 + 2 * name_bytes + 1

-- what a check says of a file, behind its name
abbrev pub verdict_bytes : ℕ
verdict_bytes = 32
