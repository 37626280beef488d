-- End: of the bytes handed back in steps the first keep remain.
-- Assumes nothing.
use Rattle.std.specs.Prelude.{not, cond, List, ℕ, ◌+◌, ◌*◌, eqb, take}
use Rattle.lsh.specs.WordSize.{size_of, block_bytes}
use Rattle.orders.specs.declared.Record.{Record}
use Rattle.orders.specs.declared.Outcome.{Outcome}
use Rattle.orders.specs.Record.{held_length, held_bytes, is_begun, refused}
use Rattle.orders.specs.Turn.{in_turn}
use Rattle.orders.specs.Rewind.{keeps_too_much, Cut, cut_call}

-- how many bytes were handed back: so many blocks, and the held bytes
unfoldable pub handed : Record → ℕ
handed r = r.split.blocks * block_bytes (size_of r.w) + held_length r.w r.total

-- those whose first remain: the block handed back last, or the held bytes if none was
unfoldable pub last_bytes : Record → List ℕ
last_bytes r = cond (eqb r.split.blocks 0) (held_bytes r) (take (block_bytes (size_of r.w)) r.split.back)

-- what an end cuts off
unfoldable pub end_cut : Record → ℕ → Cut
end_cut r keep = record { size = handed r; keep = keep; chain = r.split.second; bytes = last_bytes r }

-- an End in turn: 7, 9, else 0
unfoldable pub end_in_turn : Record → ℕ → Outcome
end_in_turn r keep =
    cond (keeps_too_much (block_bytes (size_of r.w)) keep (handed r)) (refused 7 r)
    (cut_call r (end_cut r keep))

-- End: out of turn while none is begun
unfoldable pub end_call : Record → ℕ → Outcome
end_call r keep = in_turn r (not (is_begun r)) (end_in_turn r keep)
