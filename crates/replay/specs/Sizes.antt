-- The sizes of the program's buffers. The constants of src/main.rt, and ROLL of crates/script, have the same figures, and the `ensures` of the functions
-- that make the buffers tie the two.
-- Assumes nothing.
use Rattle.std.specs.Prelude.{ℕ, ◌+◌, ◌*◌}

-- LINE: the most bytes of a line, without its newline
abbrev pub line_bytes : ℕ
line_bytes = 262144

-- BYTES: the most bytes that the words of a line can say, two digits each, and of its outputs
abbrev pub string_bytes : ℕ
string_bytes = 131072

-- ROLL: the most bytes of a roll
abbrev pub roll_bytes : ℕ
roll_bytes = 65536

-- ROOM: the bytes of the line buffer. What a line prints stands behind the line's name: its numbers, and then the digits of BYTES bytes at
-- most, or two chains, the places for the bytes of two blocks and two numbers
abbrev pub room_bytes : ℕ
room_bytes = 2 * line_bytes + 1024
