-- Each refusal has a number of its own, and none has that of an accepted call.
-- Assumes nothing.
use mathlib.Core.Path.{◌≡◌, refl, sym, ap, ◌∙◌}
use mathlib.Core.List.{List, [], ◌∷◌}
use Prim.Native.Nat.{ℕ, zero, suc}
use Rattle.std.proofs.lemmas.Option.{none-some}
use Rattle.std.specs.Prelude.{Option, Some, None}
use Rattle.std.specs.Option.{unwrap_or}
use Rattle.answers.specs.declared.Refusal.{Refusal}
use Rattle.answers.specs.declared.Refusal.TheVariants.{BadWordSize, BadDigestLength, UnsoundRecord, BadLength, TooLong, BadStart, BadKeep, HeldDiffer, OpeningDiffers, BadExtraBits, BadLastByte, ShortOutput, NoReceipts, Malformed, BadRoll, FullRoll, OutOfTurn, NoWholeBytes}
use Rattle.answers.specs.Refusal.{number}

-- the refusals in the order of their numbers, from 1 on
abbrev refusals : List Refusal
refusals = BadWordSize ∷ BadDigestLength ∷ UnsoundRecord ∷ BadLength ∷ TooLong ∷ BadStart ∷ BadKeep ∷ HeldDiffer ∷ OpeningDiffers ∷ BadExtraBits ∷ BadLastByte ∷ ShortOutput ∷ NoReceipts ∷ Malformed ∷ BadRoll ∷ FullRoll ∷ OutOfTurn ∷ NoWholeBytes ∷ []

-- the refusal that has this number
abbrev refusal_of : List Refusal → ℕ → Option Refusal
refusal_of [] n = None
refusal_of (e ∷ es) zero = None
refusal_of (e ∷ es) (suc zero) = Some e
refusal_of (e ∷ es) (suc (suc n)) = refusal_of es (suc n)

named : (e : Refusal) → refusal_of refusals (number e) ≡ Some e
named = elim [ BadWordSize ↦ refl | BadDigestLength ↦ refl | UnsoundRecord ↦ refl | BadLength ↦ refl | TooLong ↦ refl | BadStart ↦ refl | BadKeep ↦ refl | HeldDiffer ↦ refl | OpeningDiffers ↦ refl | BadExtraBits ↦ refl | BadLastByte ↦ refl | ShortOutput ↦ refl | NoReceipts ↦ refl | Malformed ↦ refl | BadRoll ↦ refl | FullRoll ↦ refl | OutOfTurn ↦ refl | NoWholeBytes ↦ refl ]

pub own_number : (a b : Refusal) → number a ≡ number b → a ≡ b
own_number a b is = ap (λ (o : Option Refusal). unwrap_or o a) (sym (named a) ∙ ap (refusal_of refusals) is ∙ named b)

pub some_number : (e : Refusal) → number e ≡ 0 → ⊥
some_number e is = none-some e (sym (ap (refusal_of refusals) is) ∙ named e)
