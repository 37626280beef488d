-- `replay::line_buffer` meets its contract. The length is not counted out, and the two figures are compared by themselves, so that one that differs is
-- refused at once. Assumes nothing.
use Rattle.std.proofs.Common.{ℕ, ◌≡◌, refl, sym, ◌∙◌}
use Rattle.std.proofs.lemmas.List.{length-replicate}
use Rattle.replay.specs.Sizes.{room_bytes}
use Rattle.replay.specs.declared.TheConstants.{ROOM}
use Rattle.replay.proofs.line_buffer.Goals as goal

same-room : room_bytes ≡ ROOM
same-room = refl

pub returns : goal.returns
returns c = same-room ∙ sym (length-replicate {A = ℕ} ROOM 0)
