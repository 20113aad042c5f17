use Rattle.std.proofs.Common.{◌≡◌, ◌*◌, ◌+◌, take}
use Rattle.format_fields.specs.Lists.{concat_map}
use Rattle.program_text.specs.Text.{pair_of}
use Rattle.program_text.specs.Inner.Putting.{Puts}
use Rattle.program_text.proofs.text.put_hex.Given as goal

abbrev pub invariant-loop-byte : goal.invariant-loop-byte
invariant-loop-byte l = record {
  end_is : l.end ≡ l.at + 2 * l.byte-index;
  puts : Puts (concat_map pair_of (take l.byte-index l.bytes)) l.initial.text l.text l.at l.end;
}
