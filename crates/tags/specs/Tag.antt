-- The tag of one message: the output after the call.
-- Assumes nothing.
use Rattle.std.specs.Prelude.{List, ℕ, length}
use Rattle.answers.specs.Output.{written}
use Rattle.tags.specs.Hmac.{hmac}
use Rattle.tags.specs.KeyAnswer.{tag_bytes, tag_answer}

unfoldable pub tag_output : ℕ → ℕ → List ℕ → List ℕ → List ℕ → List ℕ
tag_output w n key m output = written (tag_answer w n (length key) (length m) (length output)) (tag_bytes n) (hmac w n key m) output
