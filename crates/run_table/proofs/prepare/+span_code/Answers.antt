use Prim.Native.Nat.{ℕ, ◌+◌}
use mathlib.Core.Path.{◌≡◌, refl, ◌∙◌}
use lib.ListN.{get_or}
use Rattle.format_language.specs.Language.{production_key}
use native.Mathlib.Omega.{arith}
use Rattle.tree_reader.proofs.Laws.{kinds_from}
use Rattle.run_table.specs.Inner.Filling.{target_index}
use Rattle.run_table.proofs.Spans.{below_none, below_then, sound_beside, asks_beside, set_beside, span_past, span_leafed, leaf_low, span_deep, span_unknown, turn_starts, turn_next, turn_ends, ends_as}
use Rattle.run_table.proofs.prepare.+span_code.Goals as goal
use Rattle.run_table.proofs.prepare.+span_code.Goals.{then-body-at-via-then-body-at, then-body-at-via-else-body-at+then-levels-eq0, in-Some-leaf_end, in-None}

pub returns-in-Some : goal.returns-in-Some
returns-in-Some t c = (leaf_low _ _ _ c.requires.2 c.in-Some.ensures, below_none _ 0, span_leafed _ _ _ _ _ _ _ _ c.in-Some.ensures)

pub returns-then-body-at : goal.returns-then-body-at
returns-then-body-at t c = (
  omega arith,
  below_none _ 0,
  elim c.then-body-at.branch [
    | then-body-at-via-then-body-at w ↦ span_past _ _ _ _ _ _ _ _ _ w.if-body-at.true
    | then-body-at-via-else-body-at+then-levels-eq0 w ↦ span_deep _ _ _ _ _ _ _ _ _ w.if-levels-eq0.true (c.in_default.ensures w.if-body-at.false)
  ],
)

pub returns-in_default-place_of : goal.returns-in_default-place_of
returns-in_default-place_of t c = (
  omega arith,
  below_none _ 0,
  span_unknown _ _ _ _ _ _ c.requires.1 _ _ c.byte_at.type_inv c.byte_at.ensures refl (c.in_default.ensures c.if-body-at.false) _ _ _ c.in_default-place_of.ensures,
)

pub loop-q-init : goal.loop-q-init
loop-q-init t c =
    let is : c.in-Some-place_of.place ≡ get_or (target_index c.args.table.now) (production_key c.args.kind c.byte_at.result) 0 = c.in-Some-place_of.ensures.0 in
    let kinds = λ (first : ℕ) (e : first ≡ c.in-Some-place_of.place + 4).
    kinds_from _ c.args.target.now c.requires.0 refl c.requires.1 c.byte_at.type_inv is (λ z. omega arith) e c.last_operand-q-end.ensures in
    record {
      low = omega arith;
      kinds = kinds _ refl;
      beside = below_none _ 0;
      turn = turn_starts _ _ _ _ _ _ c.requires.1 _ _ c.byte_at.type_inv c.byte_at.ensures is (c.in_default.ensures c.if-body-at.false) _ _ _ c.requires.4 c.requires.2
          c.first_operand-q.ensures c.last_operand-q-end.ensures (kinds _ c.first_operand-q.ensures);
    }

pub bounds-target-q : goal.bounds-target-q
bounds-target-q t c = (c.loop-q.invariant.kinds c.loop-q.q (omega arith) c.loop-q-test.true).0

pub span_code-c-requires : goal.span_code-c-requires
span_code-c-requires t c = (
  omega arith,
  (
    sound_beside _ _ c.loop-q.invariant.beside c.requires.4 _ c.requires.0,
    (c.loop-q.invariant.kinds c.loop-q.q (omega arith) c.loop-q-test.true).1,
    c.requires.2,
    c.loop-q.invariant.low,
    c.loop-q.invariant.beside.long ∙ c.requires.4,
  ),
)

pub loop-q-preserved : goal.loop-q-preserved
loop-q-preserved t c =
    elim c.match-leaf_end-2.branch [
      | in-Some-leaf_end w ↦
          rw (w.c-is, w.table-is)
          (record {
            low = leaf_low _ _ _ c.requires.2 w.in-Some-leaf_end.ensures;
            kinds = c.loop-q.invariant.kinds;
            beside = c.loop-q.invariant.beside;
            turn = turn_next _ _ _ _ _ _ _ _ _ _ _ _ _ c.loop-q-test.true (span_leafed _ _ _ _ _ _ _ _ w.in-Some-leaf_end.ensures) c.loop-q.invariant.turn;
          })
      | in-None w ↦
          rw (w.c-is, w.table-is)
          (record {
            low = w.span_code-c.ensures.0;
            kinds = c.loop-q.invariant.kinds;
            beside = below_then _ _ _ 0 0 (omega arith) c.loop-q.invariant.beside w.span_code-c.ensures.1;
            turn = turn_next _ _ _ _ _ _ _ _ _ _ _ _ _ c.loop-q-test.true
                (λ l given a x. w.span_code-c.ensures.2 l given a (asks_beside _ _ c.loop-q.invariant.beside c.requires.4 _ _ _ _ _ l given a x)) c.loop-q.invariant.turn;
          })
    ]

pub returns : goal.returns
returns t c = (
  c.loop-q.invariant.low,
  set_beside _ _ _ _ _ c.loop-q.invariant.beside (omega arith) c.set_span.ensures,
  ends_as _ _ c.set_span.ensures (turn_ends _ _ _ _ _ _ _ _ _ _ _ c.loop-q-test.false c.loop-q.invariant.turn),
)
