-- The digest of the chain that is reached over the bytes held and the padding.
-- Assumes nothing.
use mathlib.Core.Path.{◌≡◌, sym, ap, ◌∙◌}
use mathlib.Core.List.{List, ◌∷◌, ◌++◌}
use Prim.Native.Nat.{ℕ, ◌+◌, ◌-◌, ◌%◌, ◌^◌, ◌≤◌, ◌<◌}
use native.Mathlib.Nat.{mod-eq_of_lt}
use lib.ListN.{length, replicate}
use Rattle.lsh.specs.WordSize.{WordSize, size_of, block_bytes}
use Rattle.lsh.specs.Block.{forwards}
use Rattle.lsh.specs.Bits.{bytes_of_bits}
use Rattle.lsh.specs.Padding.{padded, blocks_of}
use Rattle.lsh.specs.Hash.{digest}
use Rattle.lsh.specs.ByteString.{Bytes}
use Rattle.lsh.proofs.Figures.{block-some}
use Rattle.message.proofs.Padded.{padded-bytes}
use Rattle.limits.specs.Limits.{longest_block}
use Rattle.orders.specs.declared.Record.{Record}
use Rattle.orders.specs.Record.{held_bytes}
use Rattle.receipts.specs.Ending.{message_bits}
use Rattle.receipts.specs.Close.{closed_digest}
use Rattle.close.proofs.HeldBytes.{Bytes-held, held-short}

pub closed_is : (r : Record) (last e : ℕ) → length r.held ≡ longest_block → Bytes r.held → last < 256 → e ≤ 7 → last % 2 ^ (8 - e) ≡ 0
    → {p : ℕ} {t : List ℕ} → p ≡ last + 2 ^ (7 - e)
    → t ≡ forwards (size_of r.w) (blocks_of (size_of r.w) (held_bytes r ++ p ∷ replicate (block_bytes (size_of r.w) - 1 - length (held_bytes r)) 0)) r.chain
    → digest (size_of r.w) r.n t ≡ closed_digest r last e
unfolding closed_digest message_bits
closed_is r last e long bytes byte few low {p} {t} pad run =
    let z : WordSize = size_of r.w in
    let s : List ℕ = held_bytes r in
    let left : length s % block_bytes z ≡ length s = mod-eq_of_lt (held-short r long) in
    let block : s ++ p ∷ replicate (block_bytes z - 1 - length s) 0 ≡ bytes_of_bits (padded z (message_bits s last e)) =
    ap (λ (b : ℕ). s ++ b ∷ replicate (block_bytes z - 1 - length s) 0) pad
    ∙ ap (λ (l : ℕ). s ++ (last + 2 ^ (7 - e)) ∷ replicate (block_bytes z - 1 - l) 0) (sym left)
    ∙ sym (padded-bytes z s last e (block-some r.w) (Bytes-held r bytes) byte few low) in
    ap (digest z r.n) (run ∙ ap (λ (b : List ℕ). forwards z (blocks_of z b) r.chain) block)
