use Rattle.std.proofs.Common.{rules, refl, ◌≡◌, Err}
use Rattle.outcome.specs.declared.Reason.TheVariants.{NoBlock}
use Rattle.format_card.specs.Inner.Sets.{in_set}
use Rattle.tree_block.proofs.Paths.{along_kind, path_hidden, path_done, path_stops, path_next}
use Rattle.tree_block.proofs.descent.descend.Goals as goal

pub loop-number-init : goal.loop-number-init
loop-number-init c =
    λ l t sees h y. record { subtree = t; along = h; same = refl }

pub in_set-requires : goal.in_set-requires
in_set-requires c =
    let w = c.loop-number.invariant c.requires.0 c.requires.1 (in_set c.args.seen) c.requires.2 (λ k q. refl) in
    along_kind w.along

pub returns-then-not-in_set : goal.returns-then-not-in_set
returns-then-not-in_set c =
    λ l t sees h y.
    let w = c.loop-number.invariant l t sees h y in
    path_hidden w _ y c.if-not-in_set.ensures

pub argument-requires : goal.argument-requires
argument-requires c =
    let w = c.loop-number.invariant c.requires.0 c.requires.1 (in_set c.args.seen) c.requires.2 (λ k q. refl) in
    (c.requires.0, w.subtree, w.along)

pub returns-in_err-block : goal.returns-in_err-block
returns-in_err-block c =
    λ l t sees h y.
    let w = c.loop-number.invariant l t sees h y in
    let e : c.from_residual.result ≡ Err NoBlock = search rules in
    rw e (path_stops w _ y c.if-not-in_set.ensures c.loop-number-test.true (rw c.in_err-block.ensures.ok_part at (c.argument.ensures l _ w.along)))

pub loop-number-preserved : goal.loop-number-preserved
loop-number-preserved c =
    λ l t sees h y.
    let w = c.loop-number.invariant l t sees h y in
    path_next w _ y c.if-not-in_set.ensures c.loop-number-test.true (rw c.in_ok-block.ensures.ok_part at (c.argument.ensures l _ w.along))

pub in_set-requires-2 : goal.in_set-requires-2
in_set-requires-2 c =
    let w = c.loop-number.invariant c.requires.0 c.requires.1 (in_set c.args.seen) c.requires.2 (λ k q. refl) in
    along_kind w.along

pub returns-then-not-in_set-2 : goal.returns-then-not-in_set-2
returns-then-not-in_set-2 c =
    λ l t sees h y.
    let w = c.loop-number.invariant l t sees h y in
    path_hidden w _ y c.if-not-in_set-2.ensures

pub returns : goal.returns
returns c =
    λ l t sees h y.
    let w = c.loop-number.invariant l t sees h y in
    path_done w _ y c.if-not-in_set-2.ensures c.loop-number-test.false
