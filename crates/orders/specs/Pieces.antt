-- Pieces appended to a record one after the other, refused ones included.
-- Assumes nothing.
use Rattle.std.specs.Prelude.{cond, List, [], ◌∷◌, ◌++◌, ℕ, eqb}
use Rattle.lsh.specs.ByteString.{ByteString}
use Rattle.orders.specs.declared.Record.{Record}
use Rattle.orders.specs.Append.{append_call}

-- the record after them
abbrev pub after_pieces : Record → List ByteString → Record
after_pieces r [] = r
after_pieces r (p ∷ ps) = after_pieces (append_call r p.list).next ps

-- the accepted ones joined
abbrev pub accepted_bytes : Record → List ByteString → List ℕ
accepted_bytes r [] = []
accepted_bytes r (p ∷ ps) =
    cond (eqb (append_call r p.list).number 0) p.list [] ++ accepted_bytes (append_call r p.list).next ps
