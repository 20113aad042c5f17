use Rattle.reduce_signs.proofs.Copying.{save_done}
use Rattle.reduce_signs.proofs.leaves.save.Goals as goal

pub returns : goal.returns
returns c = save_done c.args.value.now c.args.store.now _ c.args.n c.args.top _ c.requires.0 c.requires.1 c.put.ensures
