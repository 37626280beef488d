use Rattle.finalization.proofs.LastBlock.{stored-block}
use Rattle.finalization.proofs.last_block.Goals as goal

pub returns : goal.returns
returns c = stored-block c.args.rest.now _ c.requires c.zero_filled-b.ensures
