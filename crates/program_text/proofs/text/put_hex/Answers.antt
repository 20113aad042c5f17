use Rattle.std.proofs.Common.{arith}
use Rattle.format_fields.specs.Lists.{concat_map}
use Rattle.program_text.proofs.Putting.{puts_nothing, each_again}
use Rattle.program_text.proofs.text.put_hex.Goals as goal

pub loop-byte-init : goal.loop-byte-init
unfolding concat_map
loop-byte-init c = record { end_is = omega arith; puts = puts_nothing _ _ (omega arith) }

pub loop-byte-preserved : goal.loop-byte-preserved
loop-byte-preserved c = record {
  end_is = omega (arith, c.put_pair-end.ensures.1);
  puts = each_again _ _ _ _ _ _ _ c.loop-byte.invariant.puts c.loop-byte-test.true _ _ c.put_pair-end.ensures.0;
}
