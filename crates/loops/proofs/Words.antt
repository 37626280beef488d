-- Words that are put together from bytes and taken apart into them.
-- Assumes nothing.
use mathlib.Core.Path.{◌≡◌, sym, ap, ap₂, ◌∙◌, subst}
use mathlib.Core.List.{List}
use Prim.Native.Nat.{ℕ, suc, ◌+◌, ◌-◌, ◌*◌, ◌/◌, ◌%◌, ◌≤◌, ◌<◌, zero-le}
use native.Mathlib.Nat.{zero-mul, suc-mul, mul-le-mul_right, not-suc-le-zero}
use native.Mathlib.Numerals.{add-one}
use native.Mathlib.Decide.{dec_lt}
use native.Mathlib.Omega.{arith}
use lib.Arith.{digits_div, digits_mod}
use lib.ListN.{length}
use lib.Seq.{sets, length-sets}
use Rattle.lsh.specs.Tabulate.{at, tabulate}
use Rattle.lsh.specs.WordSize.{WordSize, word_bytes}
use Rattle.lsh.specs.Bytes.{word_at, byte_at, bytes_of}
use Rattle.lsh.proofs.Tabulate.{length-tabulate, at-tabulate, tabulate-ext}
use Rattle.loops.proofs.Places.{at-sets-before, at-sets-in}

-- the last byte of a word, and a byte below the others
pub word-last : (s : List ℕ) (a : ℕ) {b : ℕ} → b ≡ at s a → b ≡ word_at 1 s a
unfolding word_at
word-last s a e = omega arith

pub word_more : (k : ℕ) (s : List ℕ) (a : ℕ) {b r : ℕ} → b ≡ at s a → r ≡ word_at k s (a + 1) → b + 256 * r ≡ word_at (suc k) s a
unfolding word_at
word_more k s a e f = omega arith

-- the bytes of the first i of 16 words of k bytes each are stored
pub record Stored (k : ℕ) (t d : List ℕ) (i : ℕ) : Type 0 where
  pub len : length d ≡ 16 * k
  pub up_to : i ≤ 16
  pub done : (q : ℕ) → q < i * k → at d q ≡ byte_at (at t (q / k)) (q % k)

pub stored-none : (k : ℕ) (t d : List ℕ) → length d ≡ 16 * k → Stored k t d 0
stored-none k t d e =
    record { len = e; up_to = zero-le; done = λ q h. absurd (not-suc-le-zero (subst (λ (n : ℕ). q < n) (zero-mul k) h)) }

pub stored_more : {k : ℕ} {t d : List ℕ} {i : ℕ} (e : List ℕ) → Stored k t d i → i < 16
    → e ≡ sets d (i * k) (tabulate k (byte_at (at t i))) → Stored k t e (i + 1)
stored_more {k} {t} {d} {i} e h lt is =
    record {
      len = ap length is ∙ length-sets d (i * k) vs ∙ h.len;
      up_to = omega arith;
      done = λ q hq. ap (λ (s : List ℕ). at s q) is ∙ go q hq (dec_lt q (i * k));
    }
  where
    vs : List ℕ
    vs = tabulate k (byte_at (at t i))

    next : (i + 1) * k ≡ i * k + k
    next = rw (add-one i) (suc-mul i k)

    room : i * k + length vs ≤ length d
    room =
        let most : suc i * k ≤ 16 * k = mul-le-mul_right k lt in
        rw (length-tabulate k (byte_at (at t i)), h.len) (omega (arith, suc-mul i k))

    go : (q : ℕ) → q < (i + 1) * k → Dec (q < i * k) → at (sets d (i * k) vs) q ≡ byte_at (at t (q / k)) (q % k)
    go q hq (yes before) = at-sets-before d (i * k) vs q before ∙ h.done q before
    go q hq (no from) =
        let r : ℕ = q - i * k in
        let place : q ≡ i * k + r = omega arith in
        let low : r < k = omega (arith, next) in
        ap (at (sets d (i * k) vs)) place
        ∙ at-sets-in d (i * k) vs r room (rw (length-tabulate k (byte_at (at t i))) low)
        ∙ at-tabulate k (byte_at (at t i)) r low
        ∙ sym (ap (λ (n : ℕ). byte_at (at t (n / k)) (n % k)) place ∙ ap₂ (λ (a b : ℕ). byte_at (at t a) b) (digits_div i low) (digits_mod i low))

pub stored-all : (z : WordSize) {t d : List ℕ} {i : ℕ} → Stored (word_bytes z) t d i → 16 ≤ i → length t ≡ 16 → d ≡ bytes_of z t
unfolding bytes_of
stored-all z {t} {d} {i} h le e =
    let all : i ≡ 16 = omega arith in
    sym (tabulate-ext (length t * word_bytes z) _ d (h.len ∙ ap (λ (n : ℕ). n * word_bytes z) (sym e))
    (λ q hq. sym (h.done q (subst (λ (n : ℕ). q < n * word_bytes z) (e ∙ sym all) hq))))
