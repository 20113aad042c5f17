-- The ends of a loose plan's score: each is reached by a choice, and no choice lies outside.
use Prim.Native.Nat.{ℕ, suc, ◌≤◌}
use mathlib.Core.Path.{◌≡◌, refl, ap, ◌∙◌}
use mathlib.Core.Bool.{Bool, true, false, not}
use mathlib.Core.List.{List, [], ◌∷◌, ◌++◌, append-nil}
use native.Mathlib.Omega.{arith}
use lib.Dec.{leb, le→leb}
use lib.IntN.{ℤ, pos, ◌+ℤ◌, ◌*ℤ◌}
use lib.Signed.{◌≤ℤ◌}
use borrow.Author.Tests.{leb-true}
use Rattle.outcome.specs.Outcome.{Result, value, refused, refuse_if, ◌>>=◌}
use Rattle.outcome.specs.declared.Reason.TheVariants.{UnknownRoot, ScoreOutOfRange}
use Rattle.format_fields.proofs.Truth.{and_both, both_and}
use Rattle.format_fields.proofs.Codec.{refused_value}
use Rattle.format_language.specs.Language.{Language, Range, is_in, in_range}
use Rattle.format_language.specs.LanguageFile.{language_of}
use Rattle.format_language.proofs.Codec.{language_good}
use Rattle.tree_reader.specs.Code as Trees
use Rattle.tree_reader.specs.Code.{Code, Codes, levels}
use Rattle.tree_reader.specs.Typing.{Typed, TypedAll, typed_node, typed_token, typed_nil, typed_cons}
use Rattle.tree_reader.specs.Syntax.{Read, done, deep, broken, read, write, tree}
use Rattle.tree_reader.specs.Operations.{tree_of}
use Rattle.tree_reader.proofs.Larger.{apart}
use Rattle.tree_reader.proofs.RoundTrip.{as_tree, round}
use Rattle.score_tree.specs.Figures.{is_score}
use Rattle.score_tree.specs.LoadTable.{Table, table_of, figure_of}
use Rattle.score_tree.specs.Linear.{Loads, constant, used, form, form_all, passes, passes_all}
use Rattle.score_tree.specs.Operations.{score_of, score_bytes}
use Rattle.score_loose.specs.Plans.{Loose, node, token, Looses, nil, cons, is_loose, read_loose}
use Rattle.score_loose.specs.Ends.{End, low, high, end_by, value_at, end, end_all, both_within, all_within}
use Rattle.score_loose.specs.Operations.{whole_plan, loose_of, Ends, ends, ends_of, loose_bytes}
use Rattle.score_loose.specs.Laws.{Settles, settles_node, settles_token, SettlesAll, settles_nil, settles_cons, Choice, ChoicesLieBetween, EndsAreReached, loosened, loosened_all, SettledHasOneScore}
use Rattle.score_loose.proofs.Order.{Beyond, at_end, add_beyond, scale_beyond, between_mid}
use Rattle.score_loose.proofs.Legal.{Legal, LegalAll, legal_node, legal_token, legal_nil, legal_cons, read_legal}

-- A value between two is beyond both ends.
token_beyond : (e : End) (a b v : ℕ) → a ≤ v → v ≤ b → Beyond e (pos (value_at e a b)) (pos v)
token_beyond low a b v h k = record { le = le→leb a v h }
token_beyond high a b v h k = record { le = le→leb v b k }

mutual
  unfolding form end constant

  -- Every choice is beyond both ends.
  settled : {c : Code} {t : Loose} → Settles c t → (w : Loads) (e : End) → Beyond e (end e w t) (form w c 0)
  settled (settles_node {k = k} {p = p} {t = cs} {u = ts} h) w e =
      add_beyond e (w k p 0) (end_all e w (λ i. w k p (suc i)) ts) (w k p 0) (form_all w (λ i. w k p (suc i)) cs 0) (at_end e (w k p 0)) (settled_all h w (λ i. w k p (suc i)) e)
  settled (settles_token {v = v} {a = a} {b = b} h k) w e = token_beyond e a b v h k

  settled_all : {c : Codes} {t : Looses} → SettlesAll c t → (w : Loads) (factor : ℕ → ℤ) (e : End) → Beyond e (end_all e w factor t) (form_all w factor c 0)
  settled_all settles_nil w factor e = at_end e (pos 0)
  settled_all (settles_cons {c = c} {a = a} {t = t} {u = u} h k) w factor e =
      add_beyond e (factor 0 *ℤ end (end_by (factor 0) e) w a) (end_all e w (λ i. factor (suc i)) u) (factor 0 *ℤ form w c 0) (form_all w (λ i. factor (suc i)) t 0)
      (scale_beyond e (factor 0) (end (end_by (factor 0) e) w a) (form w c 0) (settled h w (end_by (factor 0) e)))
      (settled_all k w (λ i. factor (suc i)) e)

mutual
  unfolding passes both_within

  -- Where both ends are in the range at every production, so is every choice.
  settled_passes : {c : Code} {t : Loose} → Settles c t → (w : Loads) → both_within w t ≡ true → passes is_score w c 0 ≡ true
  settled_passes (settles_node {k = k} {p = p} {t = cs} {u = ts} h) w q =
      let (all, ends) = and_both (all_within w ts) _ q in
      let (below, above) = and_both (is_score (end low w (node k p ts))) _ ends in
      both_and _ _ (settled_all_lem h w all)
      (between_mid _ _ (end low w (node k p ts)) (form w (Trees.node k p cs) 0) (end high w (node k p ts)) below above (settled (settles_node h) w low) (settled (settles_node h) w high))
  settled_passes (settles_token h k) w q = refl

  settled_all_lem : {c : Codes} {t : Looses} → SettlesAll c t → (w : Loads) → all_within w t ≡ true → passes_all is_score w c 0 ≡ true
  settled_all_lem settles_nil w q = refl
  settled_all_lem (settles_cons {a = a} {u = u} h k) w q =
      let (one, others) = and_both (both_within w a) (all_within w u) q in
      both_and _ _ (settled_passes h w one) (settled_all_lem k w others)

-- The choice that reaches an end.
unfoldable mutual
  chosen : End → Loads → Loose → Code
  chosen e w (node k p t) = Trees.node k p (chosen_all e w (λ i. w k p (suc i)) t)
  chosen e w (token a b) = Trees.token (value_at e a b)

  chosen_all : End → Loads → (ℕ → ℤ) → Looses → Codes
  chosen_all e w factor nil = Trees.nil
  chosen_all e w factor (cons a t) = Trees.cons (chosen (end_by (factor 0) e) w a) (chosen_all e w (λ i. factor (suc i)) t)

mutual
  unfolding chosen form end constant

  chosen_scores : (e : End) (w : Loads) (t : Loose) → form w (chosen e w t) 0 ≡ end e w t
  chosen_scores e w (node k p t) = ap (λ (z : ℤ). w k p 0 +ℤ z) (chosen_all_lem e w (λ i. w k p (suc i)) t)
  chosen_scores e w (token a b) = refl

  chosen_all_lem : (e : End) (w : Loads) (factor : ℕ → ℤ) (t : Looses) → form_all w factor (chosen_all e w factor t) 0 ≡ end_all e w factor t
  chosen_all_lem e w factor nil = refl
  chosen_all_lem e w factor (cons a t) =
      λ i. factor 0 *ℤ chosen_scores (end_by (factor 0) e) w a i +ℤ chosen_all_lem e w (λ j. factor (suc j)) t i

-- Both values of a loose token are legal, and the first is not above the second.
loose_parts : (c : Range) (a b : ℕ) → is_loose c a b ≡ true → (in_range c a ≡ true) × (in_range c b ≡ true) × (a ≤ b)
unfolding is_loose
loose_parts c a b q =
    let (x, more) = and_both (in_range c a) _ q in
    let (y, z) = and_both (in_range c b) (leb a b) more in
    (x, y, leb-true a b z)

value_legal : (e : End) (c : Range) (a b : ℕ) → is_loose c a b ≡ true → in_range c (value_at e a b) ≡ true
value_legal low c a b q = (loose_parts c a b q).0
value_legal high c a b q = (loose_parts c a b q).1

value_between : (e : End) (a b : ℕ) → a ≤ b → (a ≤ value_at e a b) × (value_at e a b ≤ b)
value_between low a b h = (omega arith, h)
value_between high a b h = (h, omega arith)

module _ (l : Language) (w : Loads) where
  mutual
    unfolding chosen

    chosen_typed : {t : Loose} {k : ℕ} → Legal l t k → (e : End) → Typed l [] (chosen e w t) k
    chosen_typed (legal_node {k = k} {p = p} q h) e = typed_node q (chosen_typed_all h (λ i. w k p (suc i)) e)
    chosen_typed (legal_token {a = a} {b = b} {c = c} q h) e = typed_token q (value_legal e c a b h)

    chosen_typed_all : {t : Looses} {ks : List ℕ} → LegalAll l t ks → (factor : ℕ → ℤ) (e : End) → TypedAll l [] (chosen_all e w factor t) ks
    chosen_typed_all legal_nil factor e = typed_nil
    chosen_typed_all (legal_cons h k) factor e = typed_cons (chosen_typed h (end_by (factor 0) e)) (chosen_typed_all k (λ i. factor (suc i)) e)

  mutual
    unfolding chosen

    chosen_settles : {t : Loose} {k : ℕ} → Legal l t k → (e : End) → Settles (chosen e w t) t
    chosen_settles (legal_node {k = k} {p = p} q h) e = settles_node (chosen_settles_all h (λ i. w k p (suc i)) e)
    chosen_settles (legal_token {a = a} {b = b} {c = c} q h) e =
        let o = value_between e a b (loose_parts c a b h).2 in settles_token o.0 o.1

    chosen_settles_all : {t : Looses} {ks : List ℕ} → LegalAll l t ks → (factor : ℕ → ℤ) (e : End) → SettlesAll (chosen_all e w factor t) t
    chosen_settles_all legal_nil factor e = settles_nil
    chosen_settles_all (legal_cons h k) factor e = settles_cons (chosen_settles h (end_by (factor 0) e)) (chosen_settles_all k (λ i. factor (suc i)) e)

-- What was read whole.
plan_read : (o : Read Loose) (t : Loose) → whole_plan o ≡ value t → o ≡ done t []
plan_read (done u []) t e = let z : u ≡ t = cc in rw z refl
plan_read (done u (b ∷ s)) t e = refused_value e
plan_read deep t e = refused_value e
plan_read broken t e = refused_value e

loose_read : (l : Language) (root : ℕ) (s : List ℕ) (t : Loose) → loose_of l root s ≡ value t → (is_in l root ≡ true) × (read_loose l 64 root s ≡ done t [])
unfolding loose_of
loose_read l root s t e = go (is_in l root) refl e
  where
    go : (b : Bool) → is_in l root ≡ b → refuse_if (not b) UnknownRoot (whole_plan (read_loose l 64 root s)) ≡ value t → (is_in l root ≡ true) × (read_loose l 64 root s ≡ done t [])
    go true q h = (q, plan_read (read_loose l 64 root s) t h)
    go false q h = refused_value h

-- The ends of an accepted plan.
ends_are : (w : Table) (t : Loose) (e : Ends) → ends_of w t ≡ value e → (both_within (figure_of w) t ≡ true) × (e ≡ ends (end low (figure_of w) t) (end high (figure_of w) t))
unfolding ends_of
ends_are w t e h = go (both_within (figure_of w) t) refl h
  where
    go : (b : Bool) → both_within (figure_of w) t ≡ b
        → refuse_if (not b) ScoreOutOfRange (value (ends (end low (figure_of w) t) (end high (figure_of w) t))) ≡ value e
        → (both_within (figure_of w) t ≡ true) × (e ≡ ends (end low (figure_of w) t) (end high (figure_of w) t))
    go true q k = (q, cc)
    go false q k = refused_value k

least_below : (e d : Ends) (z : ℤ) → e ≡ d → d.least ≤ℤ z → e.least ≤ℤ z
least_below e d z q h = rw q h

greatest_above : (e d : Ends) (z : ℤ) → e ≡ d → z ≤ℤ d.greatest → z ≤ℤ e.greatest
greatest_above e d z q h = rw q h

table_there : (language bytes table : List ℕ) (root : ℕ) (l : Language) (t : Loose) (e : Ends) → language_of language ≡ value l → loose_of l root bytes ≡ value t
    → loose_bytes language root bytes table ≡ value e → (w : Table) × (table_of l table ≡ value w) × (ends_of w t ≡ value e)
unfolding loose_bytes
table_there language bytes table root l t e p q h = go (table_of l table) refl (rw (p, q) at h)
  where
    go : (o : Result Table) → table_of l table ≡ o → (o >>= λ w. value t >>= λ u. ends_of w u) ≡ value e → (w : Table) × (table_of l table ≡ value w) × (ends_of w t ≡ value e)
    go (value w) x y = (w, x, y)
    go (refused r) x y = refused_value y

module _ (language bytes table : List ℕ) (root : ℕ) (l : Language) (t : Loose) (e : Ends) (p : language_of language ≡ value l) (q : loose_of l root bytes ≡ value t)
    (h : loose_bytes language root bytes table ≡ value e) where
  there : (w : Table) × (table_of l table ≡ value w) × (ends_of w t ≡ value e)
  there = table_there language bytes table root l t e p q h

  legal : Legal l t root × ((c : Code) → Settles c t → levels c ≤ 64)
  legal = read_legal l 64 root bytes t [] (loose_read l root bytes t q).1

  found : (both_within (figure_of there.0) t ≡ true) × (e ≡ ends (end low (figure_of there.0) t) (end high (figure_of there.0) t))
  found = ends_are there.0 t e there.2

  -- A choice is read as a tree, and scored.
  choice_read : (c : Code) → Choice l root t c → tree_of l root (write tree c) ≡ value c
  unfolding tree_of
  choice_read c o =
      let n = append-nil (write tree c) in
      let g = (language_good language l p).1 in
      let r : read tree l [] 64 root (write tree c ++ []) ≡ done c [] = round l (apart l g.apart) o.legal as_tree 64 [] (legal.1 c o.settles) in
      let d : read tree l [] 64 root (write tree c) ≡ done c [] = rw n at r in
      rw ((loose_read l root bytes t q).0, d) refl

  choice_scored : (c : Code) → Choice l root t c → score_bytes language root (write tree c) table ≡ value (form (figure_of there.0) c 0)
  unfolding score_bytes score_of
  choice_scored c o =
      let x = settled_passes o.settles (figure_of there.0) found.0 in
      rw (p, there.1, choice_read c o, x) refl

  pub lies_between : (c : Code) → Choice l root t c → (z : ℤ) × (score_bytes language root (write tree c) table ≡ value z) × (e.least ≤ℤ z) × (z ≤ℤ e.greatest)
  lies_between c o =
      let w = figure_of there.0 in
      (form w c 0, choice_scored c o, least_below e _ (form w c 0) found.1 (settled o.settles w low), greatest_above e _ (form w c 0) found.1 (settled o.settles w high))

  reached : (x : End) → (c : Code) × Choice l root t c × (score_bytes language root (write tree c) table ≡ value (end x (figure_of there.0) t))
  reached x =
      let w = figure_of there.0 in
      let o : Choice l root t (chosen x w t) = record { legal = chosen_typed l w legal.0 x; settles = chosen_settles l w legal.0 x } in
      (chosen x w t, o, choice_scored (chosen x w t) o ∙ ap value (chosen_scores x w t))

  pub reached_low : (c : Code) × Choice l root t c × (score_bytes language root (write tree c) table ≡ value e.least)
  reached_low = rw found.1 (reached low)

  pub reached_high : (c : Code) × Choice l root t c × (score_bytes language root (write tree c) table ≡ value e.greatest)
  reached_high = rw found.1 (reached high)

pub choices_lie_between : ChoicesLieBetween
choices_lie_between language bytes table root l t e p q h c o = lies_between language bytes table root l t e p q h c o

pub ends_are_reached : EndsAreReached
ends_are_reached language bytes table root l t e p q h = (reached_low language bytes table root l t e p q h, reached_high language bytes table root l t e p q h)

-- A settled plan has one score.
same_value : (e : End) (v : ℕ) → value_at e v v ≡ v
same_value low v = refl
same_value high v = refl

mutual
  unfolding loosened end form constant used

  pub settled_has_one_score : SettledHasOneScore
  settled_has_one_score w (Trees.node k p t) e = ap (λ (z : ℤ). w k p 0 +ℤ z) (settled_sum w (λ i. w k p (suc i)) t e)
  settled_has_one_score w (Trees.token v) e = ap pos (same_value e v)
  settled_has_one_score w (Trees.argument i j) e = ap pos (same_value e 0)

  settled_sum : (w : Loads) (factor : ℕ → ℤ) (t : Codes) (e : End) → end_all e w factor (loosened_all t) ≡ form_all w factor t 0
  settled_sum w factor Trees.nil e = refl
  settled_sum w factor (Trees.cons c t) e =
      λ i. factor 0 *ℤ settled_has_one_score w c (end_by (factor 0) e) i +ℤ settled_sum w (λ j. factor (suc j)) t e i
