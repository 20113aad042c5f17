use Rattle.display.proofs.Showing.{shown_display}
use Rattle.display.proofs.show.Goals as goal

pub returns : goal.returns
returns c = shown_display _ _ _ _ _ _ c.root_of.ensures c.block.ensures _ _ _ c.put_shown.ensures
