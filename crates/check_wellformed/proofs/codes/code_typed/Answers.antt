use lib.ListN.{get_or}
use Prim.Native.Nat.{ℕ, ◌+◌}
use mathlib.Core.List.{List}
use native.Mathlib.Omega.{arith}
use mathlib.Core.Path.{refl, ◌∙◌}
use Rattle.check_wellformed.proofs.Source.{source_indexed}
use Rattle.check_wellformed.proofs.Matching.{rising_entries}
use Rattle.check_wellformed.proofs.Along.{skipped_by}
use Rattle.check_wellformed.proofs.Coded.{clause_key, kind_below, code_fits_lem}
use Rattle.check_wellformed.proofs.codes.code_typed.Goals as goal

pub put_arguments-end-requires : goal.put_arguments-end-requires
put_arguments-end-requires c = let z = c.requires.3.1 in
    let k = c.whole_key.ensures.0 in
    let body : List ℕ = c.args.parts.now.body.now in
    let p : ℕ = c.args.p in
    ((_, source_indexed _ _ _ _ _ _ z c.args.parts.now.source_bytes), (get_or body (p + 3) 0, get_or body (p + 4) 0, c.requires.1.result, c.args.parts.now.body_bytes (p + 4), k ∙ clause_key _ _ c.requires.1), z.room, rising_entries _ _ _ _ _ _ z c.args.parts.now.source_bytes c.args.parts.now.body_bytes, skipped_by _ _ _ _ k c.requires.2)

pub code_reads-requires : goal.code_reads-requires
code_reads-requires c = (omega (arith, c.requires.0, c.requires.1.past, c.code_start.ensures.0), omega (arith, c.requires.0, c.requires.1.ends), kind_below _ _ _ _ _ _ c.requires.3.1 c.args.parts.now.source_bytes c.args.parts.now.body_bytes _ c.requires.1 _ _ _ refl c.clause_number.ensures c.mapped_by-kind.ensures, c.requires.3.1.target.sound)

pub returns : goal.returns
returns c = λ f z. code_fits_lem _ _ _ _ _ f z c.args.parts.now.source_bytes c.args.parts.now.body_bytes _ c.requires.1 _ _ _ refl c.clause_number.ensures c.mapped_by-kind.ensures _ c.whole_key.ensures.0 _ _ c.put_arguments-end.ensures _ _ c.code_start.ensures.0 c.requires.0 _ (c.code_reads.ensures f.target z.target)
