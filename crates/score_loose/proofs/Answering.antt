-- The operation by its chain of tests, from that of the walk's.
use Prim.Native.Nat.{ℕ}
use mathlib.Core.Path.{◌≡◌, refl, sym, ap, ◌∙◌}
use mathlib.Core.Bool.{Bool, true, false, not}
use mathlib.Core.List.{List, [], ◌∷◌}
use lib.IntN.{ℤ, pos}
use Rattle.std.specs.Prelude as Std
use Rattle.std.specs.Prelude.{Ok, Err}
use Rattle.score_tree.specs.declared.figures.Ends.{Ends as Both}
use Rattle.score_tree.specs.declared.walk.Tokens.TheVariants as Kinds
use Rattle.outcome.specs.Outcome.{Result, value, refused, refuse_if, ◌>>=◌, checked}
use Rattle.outcome.specs.declared.Reason.{Reason}
use Rattle.outcome.specs.declared.Reason.TheVariants.{ScoreOutOfRange}
use Rattle.format_language.specs.Language.{Language}
use Rattle.tree_reader.specs.Syntax.{Read, done, deep, broken}
use Rattle.score_tree.specs.LoadTable.{Table, figure_of}
use Rattle.score_tree.specs.Inner.Spreads.{Spread, spread}
use Rattle.score_tree.specs.Inner.Answering.{answered, Ground, ground_of, whole_spread, ends_on, plan_ends}
use Rattle.score_tree.proofs.Fixed.{measured}
use Rattle.score_tree.proofs.Answering.{by_ground}
use Rattle.score_loose.specs.Plans.{Loose, read_loose}
use Rattle.score_loose.specs.Ends.{low, high, end, both_within}
use Rattle.score_loose.specs.Operations.{Ends, ends, whole_plan, loose_of, ends_of, loose_bytes, ends_in, score_loose}
use Rattle.score_loose.proofs.Spreads.{loose_spread, loose_reads}

-- The ends of a spread.
abbrev ends_is : Spread → Result Ends
ends_is e = value (ends e.least e.greatest)

scored_both : (l : Language) (w : Table) (k : ℕ) (b : List ℕ) → (whole_plan (read_loose l 64 k b) >>= λ t. ends_of w t) ≡ (ends_on Kinds.Loose l w k b >>= ends_is)
unfolding ends_on ends_of
scored_both l w k b = go (read_loose l 64 k b) ∙ ap (λ (o : Read Spread). whole_spread o >>= ends_is) (sym (loose_reads l (figure_of w) 64 k b))
  where
    tested : (c : Bool) (a z : ℤ) → refuse_if (not c) ScoreOutOfRange (value (ends a z)) ≡ (refuse_if (not c) ScoreOutOfRange (value (spread a z c)) >>= ends_is)
    tested true a z = refl
    tested false a z = refl

    go : (o : Read Loose) → (whole_plan o >>= λ t. ends_of w t) ≡ (whole_spread (measured (loose_spread (figure_of w)) o) >>= ends_is)
    go (done t []) = tested (both_within (figure_of w) t) (end low (figure_of w) t) (end high (figure_of w) t)
    go (done t (c ∷ r)) = refl
    go deep = refl
    go broken = refl

module _ (s : List ℕ) (root : ℕ) (b t : List ℕ) where
  chain : loose_bytes s root b t ≡ (plan_ends Kinds.Loose s root b t >>= ends_is)
  unfolding loose_bytes loose_of plan_ends
  chain = by_ground s root t (λ l. whole_plan (read_loose l 64 root b)) (λ w u. ends_of w u) ∙ go (ground_of s root t)
    where
      go : (m : Result Ground) → (m >>= λ g. whole_plan (read_loose g.language 64 root b) >>= λ u. ends_of g.table u)
          ≡ ((m >>= λ g. ends_on Kinds.Loose g.language g.table root b) >>= ends_is)
      go (value g) = scored_both g.language g.table root b
      go (refused r) = refl

  -- What the operation answers, by the ends of the walk.
  abbrev Scores : Std.Result Both Reason → Type 0
  Scores (Ok e) =
      (Ok 0 ≡ (score_loose s root b t).outcome) × (e.least ≡ (score_loose s root b t).least) × (e.greatest ≡ (score_loose s root b t).greatest)
  Scores (Err r) = (Err r ≡ (score_loose s root b t).outcome) × (pos 0 ≡ (score_loose s root b t).least) × (pos 0 ≡ (score_loose s root b t).greatest)

  pub score_is : {r : Std.Result Both Reason} → r ≡ answered (plan_ends Kinds.Loose s root b t) → Scores r
  unfolding score_loose
  score_is e = rw e (go (plan_ends Kinds.Loose s root b t) chain)
    where
      go : (m : Result Spread) → loose_bytes s root b t ≡ (m >>= ends_is) → Scores (answered m)
      go (value x) q =
          (ap checked (sym q), ap (λ (m : Result Ends). (ends_in m).least) (sym q), ap (λ (m : Result Ends). (ends_in m).greatest) (sym q))
      go (refused x) q =
          (ap checked (sym q), ap (λ (m : Result Ends). (ends_in m).least) (sym q), ap (λ (m : Result Ends). (ends_in m).greatest) (sym q))
