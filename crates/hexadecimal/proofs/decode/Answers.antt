use mathlib.Core.Path.{ap₂, ◌∙◌}
use Prim.Native.Nat.{ℕ, ◌+◌, ◌*◌, ◌/◌, ◌<◌}
use native.Mathlib.Omega.{arith}
use lib.ListN.{length}
use Rattle.loops.proofs.Places.{placed-none, filled_more, stored-front}
use Rattle.hexadecimal.proofs.Digits.{hex-at, high-digit, low-digit, byte-of-pair}
use Rattle.hexadecimal.proofs.decode.Goals as goal

pub loop-i-init : goal.loop-i-init
loop-i-init c = placed-none _ _ _ _

pub hex_value-requires : goal.hex_value-requires
hex_value-requires c =
    let s = c.args.word.now in
    let lt : c.loop-i.i < length s / 2 = omega (arith, c.as_chunks.ensures.front_len) in
    rw (high-digit s c.as_chunks.result.0.now c.as_chunks.ensures.front c.loop-i.i lt) (hex-at s c.requires.0 (2 * c.loop-i.i) (omega arith))

pub hex_value-requires-in-loop-i : goal.hex_value-requires-in-loop-i
hex_value-requires-in-loop-i c =
    let s = c.args.word.now in
    let lt : c.loop-i.i < length s / 2 = omega (arith, c.as_chunks.ensures.front_len) in
    rw (low-digit s c.as_chunks.result.0.now c.as_chunks.ensures.front c.loop-i.i lt) (hex-at s c.requires.0 (2 * c.loop-i.i + 1) (omega arith))

pub loop-i-preserved : goal.loop-i-preserved
loop-i-preserved c =
    let s = c.args.word.now in
    let lt : c.loop-i.i < length s / 2 = omega (arith, c.as_chunks.ensures.front_len) in
    filled_more _ c.loop-i.invariant lt c.requires.1
    (ap₂ (λ (x y : ℕ). 16 * x + y) c.hex_value.ensures.0 c.hex_value-in-loop-i.ensures.0
    ∙ byte-of-pair s c.as_chunks.result.0.now c.as_chunks.ensures.front c.loop-i.i lt)

pub returns : goal.returns
returns c = stored-front c.loop-i.invariant (omega (arith, c.as_chunks.ensures.front_len)) c.requires.1
