-- The arrays of a record have their lengths by their types. A statement about all records that are values of the type says so in this form.
-- Assumes nothing.
use Rattle.std.specs.Prelude.{◌≡◌, length}
use Rattle.limits.specs.Limits.{longest_block}
use Rattle.orders.specs.declared.Record.{Record}

-- each chain has 16 words, and the held bytes and those handed back last have as many places as a block has bytes at most
pub record Arrays (r : Record) : Type 0 where
  pub words : length r.chain ≡ 16
  pub long : length r.held ≡ longest_block
  pub second_words : length r.split.second ≡ 16
  pub back_long : length r.split.back ≡ longest_block
