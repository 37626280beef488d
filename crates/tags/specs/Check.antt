-- The check of a tag.
-- Assumes nothing.
use Rattle.std.specs.Prelude.{◌&&◌, List, ℕ, eqb, length}
use Rattle.lists.specs.Equal.{equal}
use Rattle.receipts.specs.declared.Sameness.{Sameness}
use Rattle.tags.specs.Hmac.{hmac}
use Rattle.tags.specs.KeyAnswer.{key_answer}

-- yes exactly if nothing is refused and the tag is that of the message
unfoldable pub check_call : ℕ → ℕ → List ℕ → List ℕ → List ℕ → Sameness
check_call w n key m tag =
    record {
      number = key_answer w n (length key) (length m);
      same = eqb (key_answer w n (length key) (length m)) 0 && equal (hmac w n key m) tag;
    }
