-- The ends of all parts of a tree: a law for each return and turn of `keep_ends`, and of `end_of`.
use Prim.Native.Nat.{ℕ, suc, ◌+◌, ◌*◌, ◌≤◌, ◌<◌}
use mathlib.Core.Path.{◌≡◌, refl, ap, sym, ◌∙◌}
use mathlib.Core.Logic.{◌⊎◌, inl, inr, ⊎_elim}
use mathlib.Core.List.{List, ◌∷◌}
use native.Mathlib.Omega.{arith}
use Rattle.std.specs.Prelude.{Some}
use lib.ListN.{length, get_or}
use lib.Seq.{slice}
use Rattle.format_fields.proofs.Lists.{part_next}
use Rattle.format_language.specs.Language.{Language}
use Rattle.tree_reader.specs.Code.{Code, Codes, levels, levels_all}
use Rattle.tree_reader.specs.Syntax.{write, write_all, tree}
use Rattle.tree_reader.specs.Inner.Positions.{KindsIn}
use Rattle.tree_reader.proofs.Larger.{apart}
use Rattle.tree_index.specs.Inner.Lying.{Lies, There, Row, Shape, production, value, Opens}
use Rattle.tree_index.proofs.Rows.{kinds_end, Turn, turn, none_left}
use Rattle.tree_index.proofs.Walking.{turn_long, turn_end, no_trees}
use Rattle.search_levels.specs.Inner.Memory.{kept_kind, kept_end, Recalls, kept, Keeps}
use Rattle.search_levels.specs.Inner.Setting.{TrueEnds}
use Rattle.search_levels.specs.Inner.Ends.{Fills}
use Rattle.search_levels.proofs.Lying.{lies_one}

-- end_of
pub end_known : (l : Language) (b memory : List ℕ) (k at r : ℕ) (t : Code) → Lies l b at k t → TrueEnds l b memory → Recalls memory k at (Some r)
    → r ≡ at + length (write tree t)
end_known l b memory k at r t h q (kept e d n) = ⊎_elim (λ z. absurd (n (d ∙ z))) (λ z. d ∙ z) (q.is at k t h e)

-- keep_end
ends_kept : (x s b before after : List ℕ) (k at end : ℕ) (l : Language) (u : Code) → There x s b at k l u → end ≡ at + length (write tree u)
    → Keeps before after k at end → TrueEnds l b before → TrueEnds l b after
ends_kept x s b before after k at end l u h e w t = record { is = λ p j v q d. go p j v q d (w.ends p) }
  where
    go : (p j : ℕ) (v : Code) → Lies l b p j v → kept_kind after p ≡ j
        → ((kept_kind after p ≡ kept_kind before p) × (kept_end after p ≡ kept_end before p)) ⊎ ((p ≡ at) × (kept_kind after p ≡ k) × (kept_end after p ≡ end))
        → (kept_end after p ≡ 0) ⊎ (kept_end after p ≡ p + length (write tree v))
    go p j v q d (inl z) = rw z.1 (t.is p j v q (sym z.0 ∙ d))
    go p j v q d (inr z) =
        let y : Lies l b at k v = rw (z.0, sym d ∙ z.1) at q in
        let o : u ≡ v = lies_one l (apart l h.index_of.apart) b k at u v h.lies y in
        inr (z.2 ∙ (e ∙ (λ i. sym z.0 i + length (write tree (o i)))))

-- What is left of the row, which has at most n levels, and what was kept of the part before it.
pub record Filling (x s b before after : List ℕ) (e n q last to : ℕ) (l : Language) : Type 0 where
  pub rest : Codes
  pub deep : levels_all rest ≤ n
  pub row : Row x s b to q last l rest
  pub whole : to + length (write_all tree rest) ≡ e
  pub ends : TrueEnds l b before → TrueEnds l b after
  pub levels : (p j : ℕ) → j < 32 → get_or after (p * 36 + (4 + j)) 0 ≡ get_or before (p * 36 + (4 + j)) 0

-- A tree that has operands is a production: they have a level fewer.
deeper : {l : Language} {k : ℕ} {t : Code} {ts : Codes} {ks : List ℕ} {f : ℕ} → Shape l k t ts ks f → 0 < length ks → levels t ≡ suc (levels_all ts)
unfolding levels
deeper (production e) h = refl
deeper value h = absurd (omega arith)

module _ (x s b before : List ℕ) (first last at : ℕ) (l : Language) (ts : Codes) where
  abbrev end : ℕ
  end = at + length (write_all tree ts)

  pub filling_start : Row x s b at first last l ts → Filling x s b before before end (levels_all ts) first last at l
  filling_start r = record { rest = ts; deep = omega arith; row = r; whole = refl; ends = λ t. t; levels = λ p j h. refl }

  module _ (kinds : KindsIn s first last) (after : List ℕ) (q to : ℕ) (w : Filling x s b before after end (levels_all ts) q last to l) where
    pub filling_end : last ≤ q → Fills l b before after end to
    filling_end h =
        let z = (no_trees 0 w.rest (none_left x s b to q last l w.rest w.row h)).1 in
        let y = w.whole in
        record { to = omega arith; ends = w.ends; levels = w.levels }

    module _ (from : first ≤ q) (more : q < last) where
      pub filling_kind : (q < length s) × (get_or s q 0 < 32)
      filling_kind = kinds q from more

      pub filling_turn : Turn x s b to q last l w.rest
      filling_turn = turn x s b to q last l w.rest w.row more (kinds_end s first last q kinds from more)

      -- The first tree and the others have no more levels than the row.
      turn_deep : (levels filling_turn.head ≤ levels_all ts) × (levels_all filling_turn.tail ≤ levels_all ts)
      unfolding levels
      turn_deep = let e = ap levels_all filling_turn.is in let y = w.deep in (omega arith, omega arith)

      module _ (k f e t : ℕ) (ek : k ≡ get_or s q 0) (p : Opens x s b to k l filling_turn.head f e t) where
        -- Operands that there are have a level fewer than the row.
        pub filling_deeper : f < e → levels_all p.operands < levels_all ts
        filling_deeper h =
            let j : e ≤ length s = kinds_end s f e f p.kinds (omega arith) h in
            let y : slice f e s ≡ get_or s f 0 ∷ slice (f + 1) e s = sym (part_next (λ (a : List ℕ). a) s f e (slice f e s) refl h j) in
            let z : 0 < length (slice f e s) = rw y (omega arith) in
            let d = deeper p.shape z in
            omega (arith, turn_deep.0)

        module _ (memory : List ℕ) (r : ℕ) (inner : Fills l b after memory (t + length (write_all tree p.operands)) r) where
          end_is : r ≡ to + length (write tree filling_turn.head)
          end_is = inner.to ∙ sym (turn_end x s b to q last l w.rest filling_turn k f e t p)

          pub filling_next : (final : List ℕ) → Keeps memory final k to r → Filling x s b before final end (levels_all ts) (q + 1) last r l
          filling_next final u = record {
            rest = filling_turn.tail;
            deep = turn_deep.1;
            row = rw end_is filling_turn.row;
            whole = let z = turn_long x s b to q last l w.rest filling_turn in let y = w.whole in let v = end_is in omega arith;
            ends = λ z. ends_kept x s b memory final k to r l filling_turn.head (rw ek filling_turn.there) end_is u (inner.ends (w.ends z));
            levels = λ i j h. u.levels i j h ∙ (inner.levels i j h ∙ w.levels i j h);
          }

        -- A tree without operands ends where they would start.
        pub filling_leaf : e ≤ f → (final : List ℕ) → Keeps after final k to t → Filling x s b before final end (levels_all ts) (q + 1) last t l
        filling_leaf h =
            let z = (no_trees 0 p.operands (none_left x s b t f e l p.operands p.row h)).1 in
            filling_next after t (record { to = omega arith; ends = λ y. y; levels = λ i j o. refl })
