use mathlib.Core.Path.{◌≡◌, sym}
use native.Mathlib.Omega.{arith}
use lib.ListN.{length}
use lib.Seq.{length-take-le}
use borrow.Author.Rules.{rules}
use borrow.Author.Tests.{ne_eqb}
use Rattle.std.proofs.lemmas.Result.{err_from_is_err_and}
use Rattle.answers.proofs.Numbers.{some_number}
use Rattle.limits.specs.Limits.{longest_block}
use Rattle.limits.proofs.Limits.{digest-longest}
use Rattle.tags.specs.Check.{check_call}
use Rattle.tags.proofs.Accepted.{Keyed, keyed}
use Rattle.tag.proofs.check.Goals as goal
use Rattle.tag.proofs.check.Goals.{After-hmac-right, In_ok-key_answer}

-- the call is accepted
passed : (c : In_ok-key_answer)
    → Keyed c.args.w c.args.n (length c.args.key.now) (length c.args.message.now)
passed c =
    let a = c.args in
    keyed a.w a.n (length a.key.now) (length a.message.now) (sym c.in_ok-key_answer.ensures)

-- the tag fits into its array
pub slice_bounds-right-end : goal.slice_bounds-right-end
slice_bounds-right-end c = let long : length c.hmac-right.result ≡ longest_block = search rules in
    omega (arith, digest-longest _ _ (passed (goal.at.slice_bounds-right-end c).In_ok-key_answer).word_size (passed (goal.at.slice_bounds-right-end c).In_ok-key_answer).digest_length)

pub returns-in_err-key_answer : goal.returns-in_err-key_answer
unfolding check_call
returns-in_err-key_answer c = let p = err_from_is_err_and c.from_residual.result c.from_residual.ensures.1 in
    rw (p.1, p.2, sym c.in_err-key_answer.ensures, ne_eqb _ 0 (some_number c.in_err-key_answer.field-0.0))

pub hmac-right-requires : goal.hmac-right-requires
unfolding check_call
hmac-right-requires c = ((passed c).word_size, (passed c).digest_length, (passed c).bytewise)

pub slice_bounds-equal_bytes-end : goal.slice_bounds-equal_bytes-end
unfolding check_call
slice_bounds-equal_bytes-end c = sym (length-take-le _ _ (slice_bounds-right-end (goal.at.slice_bounds-equal_bytes-end c).After-hmac-right))

pub returns : goal.returns
unfolding check_call
returns c = rw (sym c.in_ok-key_answer.ensures, c.equal_bytes.ensures, c.hmac-right.ensures)
