use lib.Dec.{ltb}
use Rattle.std.proofs.Common.{rules, ◌≡◌, Err}
use Rattle.format_pack.specs.Pack.{term_of}
use Rattle.format_fields.proofs.Truth.{or_left, or_right, false_or}
use borrow.Author.Tests.{lt-ltb, le-ltb}
use mathlib.Core.Path.{refl}
use mathlib.Core.Bool.{true, false}
use Rattle.reduce_operation.proofs.Operation.{checked_value, ready_pack, ready_term, ready_room}
use Rattle.reduce_operation.proofs.reduce.ready.Goals as goal

pub returns-in_err-check_pack : goal.returns-in_err-check_pack
returns-in_err-check_pack c =
    let r : c.from_residual.result ≡ Err c.in_err-check_pack.field-0.0 = search rules in
    rw (r, ← c.in_err-check_pack.was) (ready_pack c.args.pack.now c.args.workspace c.args.output c.check_pack.ensures c.in_err-check_pack.was)

pub check_term-requires : goal.check_term-requires
check_term-requires c = checked_value _ c.check_pack.ensures c.in_ok-check_pack.was

pub returns-in_err-check_term : goal.returns-in_err-check_term
returns-in_err-check_term c =
    let r : c.from_residual-in_err-check_term.result ≡ Err c.in_err-check_term.field-0.0 = search rules in
    let p = checked_value _ c.check_pack.ensures c.in_ok-check_pack.was in
    rw (r, ← c.in_err-check_term.was) (ready_term c.args.pack.now c.args.workspace c.args.output p.1 (c.check_term.ensures p.0 p.1) c.in_err-check_term.was)

pub returns-then-workspace-lt-WORKSPACE : goal.returns-then-workspace-lt-WORKSPACE
returns-then-workspace-lt-WORKSPACE c =
    let p = checked_value _ c.check_pack.ensures c.in_ok-check_pack.was in
    let t = checked_value (term_of p.0) (c.check_term.ensures p.0 p.1) c.in_ok-check_term.was in
    ready_room c.args.pack.now c.args.workspace c.args.output p.1 t.1 true (or_left _ _ (lt-ltb _ _ c.if-workspace-lt-WORKSPACE.true)) refl

pub returns-then-output-lt-OUTPUT : goal.returns-then-output-lt-OUTPUT
returns-then-output-lt-OUTPUT c =
    let p = checked_value _ c.check_pack.ensures c.in_ok-check_pack.was in
    let t = checked_value (term_of p.0) (c.check_term.ensures p.0 p.1) c.in_ok-check_term.was in
    ready_room c.args.pack.now c.args.workspace c.args.output p.1 t.1 true (or_right (ltb c.args.workspace 65536) (ltb c.args.output 4096) (lt-ltb _ _ c.if-output-lt-OUTPUT.true)) refl

pub returns : goal.returns
returns c =
    let p = checked_value _ c.check_pack.ensures c.in_ok-check_pack.was in
    let t = checked_value (term_of p.0) (c.check_term.ensures p.0 p.1) c.in_ok-check_term.was in
    ready_room c.args.pack.now c.args.workspace c.args.output p.1 t.1 false (false_or _ _ (le-ltb _ _ c.if-workspace-lt-WORKSPACE.false) (le-ltb _ _ c.if-output-lt-OUTPUT.false)) refl
