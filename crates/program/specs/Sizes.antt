-- The sizes of names.
-- Assumes nothing.
use Rattle.std.specs.Prelude.{ℕ, ◌*◌}

-- NAME: the longest name of a file, which is what `io::buffer` has room for
abbrev pub name_bytes : ℕ
name_bytes = 4096

-- ESCAPED: a name each of whose bytes is escaped
abbrev pub escaped_bytes : ℕ
escaped_bytes = 2 * name_bytes
