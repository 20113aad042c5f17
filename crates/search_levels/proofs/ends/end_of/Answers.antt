use Rattle.search_levels.proofs.Filling.{end_known}
use Rattle.search_levels.proofs.ends.end_of.Goals as goal

pub returns-in-Some : goal.returns-in-Some
returns-in-Some c = λ l t h w. end_known l _ _ _ _ _ t h.lies w c.in-Some.ensures

pub returns : goal.returns
returns c = λ l t h w. c.read_end.ensures l t h
