use mathlib.Core.Path.{◌∙◌}
use lib.ListN.{length-set}
use lib.Seq.{get_or-set_same, get_or-set_other}
use native.Mathlib.Omega.{arith}
use Rattle.reduce_signs.proofs.places.set_slot.Goals as goal

pub returns : goal.returns
returns c = record {
  start = get_or-set_same c.args.places.starts c.args.slot c.args.start 0 (omega (arith, c.requires.0, c.requires.1.starts));
  end = get_or-set_same c.args.places.ends c.args.slot c.args.end 0 (omega (arith, c.requires.0, c.requires.1.ends));
  starts = λ j d. get_or-set_other c.args.places.starts c.args.slot j c.args.start 0 d;
  ends = λ j d. get_or-set_other c.args.places.ends c.args.slot j c.args.end 0 d;
  sized = record {
    starts = length-set c.args.places.starts c.args.slot c.args.start ∙ c.requires.1.starts;
    ends = length-set c.args.places.ends c.args.slot c.args.end ∙ c.requires.1.ends;
  };
}
