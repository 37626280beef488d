-- What a check of lines counted.
-- Assumes nothing.
use Rattle.std.specs.Prelude.{ℕ, ◌+◌}
use Rattle.receipt.specs.declared.check.Found.{Found}

-- the lines of all kinds
abbrev pub counted : Found → ℕ
counted f = f.right + f.wrong + f.unread + f.no_line
