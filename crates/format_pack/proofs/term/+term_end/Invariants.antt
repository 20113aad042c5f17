use Rattle.format_pack.proofs.term.+term_end.Given as goal

abbrev pub decreases-term_end : goal.decreases-term_end
decreases-term_end l = l.levels
