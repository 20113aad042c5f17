-- The operation score by its chain of tests: a law for each return of `prepare`, `score_kind` and `score`.
use Rattle.std.specs.Prelude as Std
use Rattle.std.specs.Option.{ok_or}
use Rattle.std.specs.Prelude.{Ok, Err, None, Some, ⊤}
use Prim.Native.Nat.{ℕ, ◌+◌, ◌<◌, ◌≤◌}
use mathlib.Core.Path.{◌≡◌, refl, sym, ap, ◌∙◌}
use mathlib.Core.Bool.{Bool, true, false, not}
use mathlib.Core.Logic.{◌⊎◌, ⊎_elim}
use mathlib.Core.List.{List, [], ◌∷◌}
use mathlib.Core.Option.{Option, none, some}
use native.Mathlib.Omega.{arith}
use lib.ListN.{length, get_or, drop, drop_of_length-le, replicate}
use lib.Dec.{eqb, ltb}
use lib.IntN.{ℤ, pos}
use borrow.Author.Tests.{eq-eqb, eqb-true}
use Rattle.format_fields.specs.Lists.{any}
use Rattle.format_fields.specs.Fields.{pair_at, fields_of}
use Rattle.outcome.specs.Outcome.{Result, value, refused, refuse_if, ◌>>=◌, checked, Outcome}
use Rattle.outcome.specs.declared.Reason.{Reason}
use Rattle.outcome.specs.declared.Reason.TheVariants as Why
use Rattle.format_fields.specs.Inner.Places.{places, key_at, slot_at}
use Rattle.format_fields.proofs.Truth.{by_test, all_mem, mem_all, any_mem, mem_any, Mem}
use Rattle.format_fields.proofs.Split.{front}
use Rattle.format_language.specs.Language.{Language, arguments_of, production_key, is_in}
use Rattle.format_language.specs.LanguageFile.{entries_of, language_of}
use Rattle.format_language.specs.Operations.{check_language}
use Rattle.format_language.specs.Inner.Entries.{entry_whole, IsClass, IsProduction, RisingEntries}
use Rattle.format_language.proofs.Facts.{entry_facts}
use Rattle.format_language.proofs.Holds.{holds_entries}
use Rattle.format_language.proofs.Chain.{rising_is}
use Rattle.format_language.proofs.Codec.{GoodLanguage, language_good}
use Rattle.tree_reader.specs.Code as Terms
use Rattle.tree_reader.specs.Syntax as Meant
use Rattle.tree_reader.specs.Syntax.{Read, done, deep, broken}
use Rattle.tree_reader.specs.Operations.{whole_tree, tree_of}
use Rattle.tree_reader.specs.Inner.Index.{Indexed, put_all}
use Rattle.tree_reader.proofs.Indexed.{build_is, production_key_lem}
use Rattle.tree_reader.proofs.Larger.{apart}
use Rattle.tree_reader.proofs.Placed.{puts_place, found}
use Rattle.tree_reader.proofs.Members.{in_below}
use Rattle.check_operations.proofs.Opening.{Accepts}
use Rattle.score_tree.specs.LoadTable.{Table, loads_of, whole_table, table_of, figure_of}
use Rattle.score_tree.specs.Figures.{is_score}
use Rattle.score_tree.specs.Linear.{form, passes}
use Rattle.score_tree.specs.Operations.{score_of, score_bytes, score_in, score_tree}
use Rattle.score_tree.specs.Inner.Kept.{Small, Kept}
use Rattle.score_tree.specs.Inner.Terms.{World}
use Rattle.score_tree.specs.Inner.Spreads.{Spread, spread, read_spread}
use Rattle.score_tree.specs.Inner.Results.{settled}
use Rattle.score_tree.specs.Inner.Answering.{answered, Held, Ground, ground, ground_of, Prepared, whole_spread, ends_on, plan_ends}
use Rattle.score_tree.specs.Inner.Walks.{Says}
use Rattle.tree_reader.specs.Inner.Positions.{refusal_of}
use Rattle.score_tree.specs.declared.walk.Bounds.{Bounds}
use Rattle.tree_reader.specs.declared.node.ReadError.{ReadError}
use Rattle.tree_reader.specs.declared.node.ReadError.TheVariants.{Deep, Broken}
use Rattle.score_tree.specs.declared.walk.Tokens.{Tokens}
use Rattle.score_tree.specs.declared.walk.Tokens.TheVariants.{Fixed}
use Rattle.score_tree.specs.declared.figures.Ends.{Ends}
use Rattle.score_tree.proofs.Terms.{placed}
use Rattle.score_tree.proofs.Plans.{says_between, says_outside, says_deep, says_broken}
use Rattle.score_tree.proofs.Fixed.{measured, fixed_spread, fixed_reads}

-- The index that was built, and the figures that were kept, are those of the language and its table.
module _ (s : List ℕ) (fig : List ℤ) (l : Language) (w : Table) (bytes : (i : ℕ) → get_or s i 0 < 256) (held : Held s fig l w)
    (zeros after : List ℕ) (long : length zeros ≡ 8224) (zero : (j : ℕ) → get_or zeros j 0 ≡ 0) (built : after ≡ put_all 0x11 s zeros (places s)) where
  pub index_is : Indexed after s l
  index_is = build_is s zeros bytes held.short long zero l held.entries built

  entry_at : (p : ℕ) → Mem p (places s) → IsClass s p ⊎ IsProduction s p
  entry_at p m = entry_facts s p (all_mem (entry_whole s) (places s) (holds_entries s l held.entries).whole p m)

  -- Where the production of a name stands.
  record Spot (k n : ℕ) : Type 0 where
    place : ℕ
    is : get_or after (production_key k n) 0 ≡ place + 1
    there : any (eqb place) (places s) ≡ true
    production : IsProduction s place
    kind : get_or s (place + 3) 0 ≡ k
    name : get_or s (place + 4) 0 ≡ n

  spot : (k n : ℕ) → k < 32 → n < 256 → 0 < get_or after (production_key k n) 0 → Spot k n
  unfolding slot_at key_at
  spot k n h i more =
      let at = puts_place 0x11 s (places s) zeros (production_key k n) (omega (arith, long)) (zero (production_key k n)) in
      let same : get_or after (production_key k n) 0 ≡ _ = ap (λ (a : List ℕ). get_or a (production_key k n) 0) built ∙ at in
      let (p, is, key, here) = found 0x11 (λ p. any (eqb p) (places s)) s (production_key k n) (places s)
      (mem_all _ (places s) (λ p m. mem_any (eqb p) (places s) p m (eq-eqb p p refl))) (rw same at more) in
      let (r, m, e) = any_mem (eqb p) (places s) here in
      ⊎_elim
      (λ c.
      let o : slot_at 0x11 s p ≡ get_or s (p + 3) 0 = cc (eq-eqb _ _ c.tag) in
      let d = c.kind in
      absurd (omega (arith, o, key, d)))
      (λ c.
      let o = production_key_lem s p c in
      let b = bytes (p + 4) in
      record { place = p; is = same ∙ is; there = here; production = c; kind = omega (arith, o, key); name = omega (arith, o, key) })
      (entry_at p (rw (eqb-true p r e) m))

  -- The size of a production's field.
  sized_at_lem : (k n : ℕ) (ks : List ℕ) → k < 32 → n < 256 → arguments_of l k n ≡ some ks
      → (pair_at s (get_or after (production_key k n) 0) ≡ length ks + 2) × (length ks ≤ 8)
  sized_at_lem k n ks h i e =
      let p = placed index_is k n h i ks e in
      let t = spot k n h i p.some in
      let c = t.production.two in
      let d = t.production.ten in
      let q : pair_at s (get_or after (production_key k n) 0) ≡ pair_at s (t.place + 1) = ap (pair_at s) t.is in
      (omega (arith, p.size, q), omega (arith, p.size, q))

  pub world_is : World s after fig l (figure_of w)
  world_is = record {
    indexed = index_is;
    apart = apart l held.apart;
    small = held.kept.small;
    long = held.kept.long;
    sized = sized_at_lem;
    is = λ k n ks h i e j g.
        let p = placed index_is k n h i ks e in
        let t = spot k n h i p.some in
        let q : pair_at s (get_or after (production_key k n) 0) ≡ pair_at s (t.place + 1) = ap (pair_at s) t.is in
        let at : get_or after (production_key k n) 0 + 3 + j ≡ t.place + 4 + j = omega (arith, t.is) in
        ap (λ (m : ℕ). get_or fig m (pos 0)) at
        ∙ (held.kept.is t.place t.there t.production.tag j (omega (arith, (sized_at_lem k n ks h i e).0, q))
        ∙ (ap (λ (m : ℕ). figure_of w m (get_or s (t.place + 4) 0) j) t.kind ∙ ap (λ (m : ℕ). figure_of w k m j) t.name));
  }

-- score_kind
module _ (m : Tokens) (l : Language) (w : Table) (k : ℕ) (b : List ℕ) where
  whole : (t : Spread) (e : ℕ) → read_spread m l (figure_of w) 64 k b ≡ done t (drop e b) → e ≡ length b → whole_spread (done t []) ≡ ends_on m l w k b
  unfolding ends_on
  whole t e d n =
      let f : read_spread m l (figure_of w) 64 k b ≡ done t [] = d ∙ ap (done t) (drop_of_length-le b {i = e} (omega arith)) in
      rw f refl

  more : (t : Spread) (e : ℕ) → read_spread m l (figure_of w) 64 k b ≡ done t (drop e b) → e ≤ length b → (e ≡ length b → ⊥) → refused Why.IllegalTree ≡ ends_on m l w k b
  unfolding ends_on
  more t e d n h =
      let i : e < length b = omega (arith, n, h) in
      let f : read_spread m l (figure_of w) 64 k b ≡ done t (get_or b e 0 ∷ drop (e + 1) b) = d ∙ ap (done t) (front b e i) in
      rw f refl

module _ (m : Tokens) (l : Language) (w : Table) (k : ℕ) (b : List ℕ) (r : Std.Result Bounds ReadError) (er : Says b (read_spread m l (figure_of w) 64 k b) r) where
  pub kind_refused : (x : ReadError) → r ≡ Err x → Err (refusal_of x) ≡ answered (ends_on m l w k b)
  unfolding ends_on
  kind_refused Deep e = let d = says_deep b (read_spread m l (figure_of w) 64 k b) r er e in rw d refl
  kind_refused Broken e = let d = says_broken b (read_spread m l (figure_of w) 64 k b) r er e in rw d refl

  module _ (x : Bounds) (ex : r ≡ Ok x) where
    pub kind_more : (x.end ≡ length b → ⊥) → Err Why.IllegalTree ≡ answered (ends_on m l w k b)
    kind_more h = go x.ends refl
      where
        go : (o : Std.Option Ends) → x.ends ≡ o → Err Why.IllegalTree ≡ answered (ends_on m l w k b)
        go None q = let g = says_outside b (read_spread m l (figure_of w) 64 k b) r er x ex q in ap answered (more m l w k b g.plan x.end g.is g.inside h)
        go (Some e) q = let (g, f) = says_between b (read_spread m l (figure_of w) 64 k b) r er x ex e q in ap answered (more m l w k b g.plan x.end g.is g.inside h)

    pub kind_whole : x.end ≡ length b → ok_or x.ends Why.ScoreOutOfRange ≡ answered (ends_on m l w k b)
    kind_whole n = go x.ends refl
      where
        go : (o : Std.Option Ends) → x.ends ≡ o → ok_or o Why.ScoreOutOfRange ≡ answered (ends_on m l w k b)
        go None q =
            let g = says_outside b (read_spread m l (figure_of w) 64 k b) r er x ex q in
            let given : refused Why.ScoreOutOfRange ≡ whole_spread (done g.plan []) = rw g.fits refl in
            ap answered (given ∙ whole m l w k b g.plan x.end g.is n)
        go (Some e) q =
            let (g, f) = says_between b (read_spread m l (figure_of w) 64 k b) r er x ex e q in
            let given : value g.plan ≡ whole_spread (done g.plan []) = rw g.fits refl in
            ap Ok f ∙ ap answered (given ∙ whole m l w k b g.plan x.end g.is n)

-- prepare
pub refused_is : {A : Type 0} (m : Result A) {r : Reason} → checked m ≡ Err r → m ≡ refused r
refused_is (value a) e = cc
refused_is (refused q) {r} e = let i : q ≡ r = cc in ap refused i

pub zeros_small : (n : ℕ) → Small (replicate n (pos 0))
unfolding Small
zeros_small n i = by_test (ltb i n)
    (λ h. rw (lib.ListN.get_or-replicate n i (pos 0) (pos 0) (borrow.Author.Tests.ltb-true i n h)) (omega arith))
    (λ h. rw (lib.ListN.get_or-eq_default (replicate n (pos 0)) (pos 0) {n = i} (rw lib.ListN.length-replicate (borrow.Author.Tests.ltb-false i n h))) (omega arith))

-- The loads of a table that was read.
pub table_there : (l : Language) (t : List ℕ) {u : ⊤} → settled (table_of l t) ≡ Ok u → (w : Table) × (loads_of l (fields_of t) ≡ some w)
unfolding table_of
table_there l t {u} h = go (loads_of l (fields_of t)) refl h
  where
    go : (m : Option Table) → loads_of l (fields_of t) ≡ m → settled (whole_table m) ≡ Ok u → (w : Table) × (loads_of l (fields_of t) ≡ some w)
    go none e f = cc
    go (some w) e f = (w, e)

module _ (s : List ℕ) (root : ℕ) (t : List ℕ) where
  -- Nothing is owed of a value where it is refused.
  pub none_held : {fig : List ℤ} {r : Reason} → Err r ≡ settled (ground_of s root t) → (g : Ground) → ground_of s root t ≡ value g → Prepared s fig root g
  none_held {fig} {r} e g h = let z : Err r ≡ settled (value g) = e ∙ ap settled h in cc

  pub language_refused : {p : Outcome} {r : Reason} → p ≡ check_language s → p ≡ Err r → Err r ≡ settled (ground_of s root t)
  unfolding check_language ground_of
  language_refused e h = let d = refused_is (language_of s) (sym e ∙ h) in rw d refl

  module _ (a : Accepts s) where
    good : GoodLanguage a.language
    good = (language_good s a.language a.is).1

    pub rising_entries : RisingEntries s
    rising_entries =
        let h = holds_entries s a.language a.entries in
        record { whole = h.whole; rises = rising_is s a.language h ∙ good.rises }

    module _ {x : Std.Result ⊤ Reason} (ex : x ≡ settled (table_of a.language t)) where
      pub table_refused : {r : Reason} → x ≡ Err r → Err r ≡ settled (ground_of s root t)
      unfolding ground_of
      table_refused {r} h = rw a.is (go (table_of a.language t) refl (sym ex ∙ h))
        where
          go : (m : Result Table) → table_of a.language t ≡ m → settled m ≡ Err r
              → Err r ≡ settled (table_of a.language t >>= λ w. refuse_if (not (is_in a.language root)) Why.UnknownRoot (value (ground a.language w)))
          go (value w) e f = cc
          go (refused q) e f = rw e (sym f)

      module _ {u : ⊤} (h : x ≡ Ok u) where
        there : (w : Table) × (loads_of a.language (fields_of t) ≡ some w)
        there = table_there a.language t (sym ex ∙ h)

        on_table : ground_of s root t ≡ refuse_if (not (is_in a.language root)) Why.UnknownRoot (value (ground a.language there.0))
        unfolding ground_of table_of
        on_table = rw (a.is, there.1) refl

        module _ {y : Bool} (ey : y ≡ is_in a.language root) where
          pub root_out : y ≡ false → Err Why.UnknownRoot ≡ settled (ground_of s root t)
          root_out j = rw (on_table, sym ey ∙ j) refl

          module _ (j : y ≡ true) where
            ground_is : ground_of s root t ≡ value (ground a.language there.0)
            ground_is = rw (on_table, sym ey ∙ j) refl

            pub ground_accepted : Ok tt ≡ settled (ground_of s root t)
            ground_accepted = rw ground_is refl

            pub ground_held : (fig : List ℤ) → ((l : Language) (w : Table) → entries_of s ≡ some l → loads_of l (fields_of t) ≡ some w → Kept fig s w)
                → (g : Ground) → ground_of s root t ≡ value g → Prepared s fig root g
            ground_held fig f g e =
                let d : value (ground a.language there.0) ≡ value g = sym ground_is ∙ e in
                let same : ground a.language there.0 ≡ g = cc in
                rw (← same) (record {
                  held = record { entries = a.entries; apart = good.apart; short = a.short; kept = f a.language there.0 a.entries there.1 };
                  kind = in_below s root a.language a.entries (sym ey ∙ j);
                })

-- The chain of an operation on a tree, by what was prepared.
module _ {A B : Type 0} (s : List ℕ) (root : ℕ) (t : List ℕ) (tree : Language → Result A) (f : Table → A → Result B) where
  pub by_ground : (language_of s >>= λ l. table_of l t >>= λ w. refuse_if (not (is_in l root)) Why.UnknownRoot (tree l) >>= λ u. f w u)
      ≡ (ground_of s root t >>= λ g. tree g.language >>= λ u. f g.table u)
  unfolding ground_of
  by_ground = go (language_of s)
    where
      last : (c : Bool) (l : Language) (w : Table)
          → (refuse_if (not c) Why.UnknownRoot (tree l) >>= λ u. f w u) ≡ (refuse_if (not c) Why.UnknownRoot (value (ground l w)) >>= λ g. tree g.language >>= λ u. f g.table u)
      last true l w = refl
      last false l w = refl

      next : (l : Language) (m : Result Table)
          → (m >>= λ w. refuse_if (not (is_in l root)) Why.UnknownRoot (tree l) >>= λ u. f w u)
          ≡ ((m >>= λ w. refuse_if (not (is_in l root)) Why.UnknownRoot (value (ground l w))) >>= λ g. tree g.language >>= λ u. f g.table u)
      next l (value w) = last (is_in l root) l w
      next l (refused r) = refl

      go : (m : Result Language)
          → (m >>= λ l. table_of l t >>= λ w. refuse_if (not (is_in l root)) Why.UnknownRoot (tree l) >>= λ u. f w u)
          ≡ ((m >>= λ l. table_of l t >>= λ w. refuse_if (not (is_in l root)) Why.UnknownRoot (value (ground l w))) >>= λ g. tree g.language >>= λ u. f g.table u)
      go (value l) = next l (table_of l t)
      go (refused r) = refl

-- What was prepared, by its outcome.
pub ground_there : (s : List ℕ) (root : ℕ) (t : List ℕ) {p : Std.Result ⊤ Reason} {u : ⊤} → p ≡ settled (ground_of s root t) → p ≡ Ok u → (g : Ground) × (ground_of s root t ≡ value g)
ground_there s root t e h = go (ground_of s root t) (sym e ∙ h)
  where
    go : {u : ⊤} (m : Result Ground) → settled m ≡ Ok u → (g : Ground) × (m ≡ value g)
    go (value g) q = (g, refl)
    go (refused r) q = cc

-- score_plan
module _ (m : Tokens) (s : List ℕ) (root : ℕ) (b t : List ℕ) where
  pub ground_refused : {p : Std.Result ⊤ Reason} {r : Reason} → p ≡ settled (ground_of s root t) → p ≡ Err r → Err r ≡ answered (plan_ends m s root b t)
  unfolding plan_ends
  ground_refused e h = go (ground_of s root t) (sym e ∙ h)
    where
      go : {r : Reason} (n : Result Ground) → settled n ≡ Err r → Err r ≡ answered (n >>= λ g. ends_on m g.language g.table root b)
      go (value g) q = cc
      go {r} (refused x) q = let e : r ≡ x = cc in ap Err e

  pub ground_scored : (g : Ground) → ground_of s root t ≡ value g → answered (ends_on m g.language g.table root b) ≡ answered (plan_ends m s root b t)
  unfolding plan_ends
  ground_scored g e = rw e refl

-- score
scored_one : (l : Language) (w : Table) (k : ℕ) (b : List ℕ) → (whole_tree (Meant.read Meant.tree l [] 64 k b) >>= λ u. score_of w u) ≡ (ends_on Fixed l w k b >>= λ e. value e.least)
unfolding ends_on score_of
scored_one l w k b = go (Meant.read Meant.tree l [] 64 k b) ∙ ap (λ (o : Read Spread). whole_spread o >>= λ e. value e.least) (sym (fixed_reads l (figure_of w) 64 k b))
  where
    tested : (c : Bool) (z : ℤ) → refuse_if (not c) Why.ScoreOutOfRange (value z) ≡ (refuse_if (not c) Why.ScoreOutOfRange (value (spread z z c)) >>= λ e. value e.least)
    tested true z = refl
    tested false z = refl

    go : (o : Read Terms.Code) → (whole_tree o >>= λ u. score_of w u) ≡ (whole_spread (measured (fixed_spread (figure_of w)) o) >>= λ e. value e.least)
    go (done u []) = tested (passes is_score (figure_of w) u 0) (form (figure_of w) u 0)
    go (done u (c ∷ r)) = refl
    go deep = refl
    go broken = refl

module _ (s : List ℕ) (root : ℕ) (b t : List ℕ) where
  score_chain : score_bytes s root b t ≡ (plan_ends Fixed s root b t >>= λ e. value e.least)
  unfolding score_bytes tree_of plan_ends
  score_chain = by_ground s root t (λ l. whole_tree (Meant.read Meant.tree l [] 64 root b)) (λ w u. score_of w u) ∙ go (ground_of s root t)
    where
      go : (m : Result Ground) → (m >>= λ g. whole_tree (Meant.read Meant.tree g.language [] 64 root b) >>= λ u. score_of g.table u)
          ≡ ((m >>= λ g. ends_on Fixed g.language g.table root b) >>= λ e. value e.least)
      go (value g) = scored_one g.language g.table root b
      go (refused r) = refl

  -- What the operation answers, by the ends of the plan that the tree is.
  abbrev Scores : Std.Result Ends Reason → Type 0
  Scores (Ok e) = (Ok 0 ≡ (score_tree s root b t).outcome) × (e.least ≡ (score_tree s root b t).score)
  Scores (Err r) = (Err r ≡ (score_tree s root b t).outcome) × (pos 0 ≡ (score_tree s root b t).score)

  pub score_is : {r : Std.Result Ends Reason} → r ≡ answered (plan_ends Fixed s root b t) → Scores r
  unfolding score_tree
  score_is e = rw e (go (plan_ends Fixed s root b t) score_chain)
    where
      go : (m : Result Spread) → score_bytes s root b t ≡ (m >>= λ x. value x.least) → Scores (answered m)
      go (value x) q = (ap checked (sym q), ap score_in (sym q))
      go (refused x) q = (ap checked (sym q), ap score_in (sym q))
