-- Why each position is told: by the agreement of stops and reading, the front that decides, and the round trip of legal trees.
use Rattle.std.specs.Prelude.{Err, Ok}
use Prim.Native.Nat.{ℕ, ◌+◌, ◌<◌, ◌≤◌}
use mathlib.Core.Path.{◌≡◌, refl, sym, ap, ◌∙◌}
use mathlib.Core.Logic.{◌⊎◌, inl, inr}
use mathlib.Core.Bool.{true}
use mathlib.Core.List.{List, [], ◌∷◌, ◌++◌, append_assoc, append-nil}
use native.Mathlib.Omega.{arith}
use lib.ListN.{length, get_or, take, drop, length-append, take-append-drop}
use lib.Seq.{take_at, take-append-le, length-take-le}
use Rattle.outcome.specs.Outcome.{Result, value, checked, ◌>>=◌, Outcome}
use Rattle.outcome.specs.declared.Reason.TheVariants.{IllegalTree, TooDeep}
use Rattle.format_fields.proofs.Split.{front}
use Rattle.format_language.specs.Language.{Language, is_in}
use Rattle.format_language.specs.LanguageFile.{language_of}
use Rattle.tree_reader.specs.Code.{Code}
use Rattle.tree_reader.specs.Syntax.{Read, done, read, write, tree}
use Rattle.tree_reader.specs.Operations.{tree_levels, whole_tree, tree_of, check_tree}
use Rattle.tree_reader.specs.Inner.Positions.{rest_of}
use Rattle.tree_reader.proofs.Larger.{apart}
use Rattle.tree_reader.proofs.Meaning.{done_of, deep_of, broken_of}
use Rattle.tree_reader.proofs.RoundTrip.{round, as_tree}
use Rattle.check_operations.proofs.Legal.{tree_of_lem}
use Rattle.check_operations.proofs.Opening.{language_facts}
use Rattle.tree_locate.specs.Faults.{Stop, passes, ends, unfit, deep, stop}
use Rattle.tree_locate.specs.Operations.{position_of, stop_position, stop_of, told_position, locate_tree}
use Rattle.tree_locate.specs.Laws.{Agrees, StopsAsRead, Begins, cut_at, DecidedBy, Because, whole, leftover, ended, unknown, out_of_range, too_deep_lem, PositionsHaveReasons, UnreadIsZero}
use Rattle.tree_locate.proofs.Agreement.{rest_by, stop_agrees}
use Rattle.tree_locate.proofs.Answers.{passes_by}
use Rattle.tree_locate.proofs.Local.{Cut, Local, by_tree, by_node, by_level, by_end, stop_local}

agrees : (o : Stop) (g : Read Code) → rest_by o ≡ rest_of g → Agrees o g
agrees (passes s) g e = done_of g s (sym e)
agrees ends g e = broken_of g (sym e)
agrees (unfit s) g e = broken_of g (sym e)
agrees (deep s) g e = deep_of g (sym e)

pub stops_as_read : StopsAsRead
stops_as_read l n k s = agrees (stop l n k s) (read tree l [] n k s) (stop_agrees l n k s)

-- The outcome by the stop.
abbrev outcome_of : Stop → Outcome
outcome_of (passes []) = Ok 0
outcome_of (passes (b ∷ s)) = Err IllegalTree
outcome_of ends = Err IllegalTree
outcome_of (unfit s) = Err IllegalTree
outcome_of (deep s) = Err TooDeep

outcome_is : (o : Stop) (g : Read Code) → Agrees o g → checked (whole_tree g) ≡ outcome_of o
outcome_is (passes []) g e = ap (λ (x : Read Code). checked (whole_tree x)) e.1
outcome_is (passes (b ∷ s)) g e = ap (λ (x : Read Code). checked (whole_tree x)) e.1
outcome_is ends g e = ap (λ (x : Read Code). checked (whole_tree x)) e
outcome_is (unfit s) g e = ap (λ (x : Read Code). checked (whole_tree x)) e
outcome_is (deep s) g e = ap (λ (x : Read Code). checked (whole_tree x)) e

module _ (language : List ℕ) (root : ℕ) (l : Language) (is : language_of language ≡ value l) (known : is_in l root ≡ true) where
  abbrev stops : List ℕ → Stop
  stops = stop l tree_levels root

  tree_is : (s : List ℕ) → tree_of l root s ≡ whole_tree (read tree l [] tree_levels root s)
  tree_is s = tree_of_lem l root s _ known refl

  -- What is answered, by the stop.
  located_is : (s : List ℕ) → locate_tree language root s ≡ record { outcome = outcome_of (stops s); position = stop_position s (stops s) }
  unfolding locate_tree check_tree stop_of
  located_is s =
      let o : check_tree language root s ≡ outcome_of (stops s) =
      ap (λ (m : Result Language). checked (m >>= λ l. tree_of l root s)) is ∙ (ap checked (tree_is s) ∙ outcome_is (stops s) _ (stops_as_read l tree_levels root s)) in
      let p : told_position (language_of language >>= λ l. stop_of l root s) ≡ stop_position s (stops s) = rw (is, known) in
      λ i. record { outcome = o i; position = p i }

  -- What is passed to its end is a legal tree.
  legal : (a : List ℕ) → stops a ≡ passes [] → (t : Code) × (tree_of l root a ≡ value t)
  legal a e =
      let w : Agrees (passes []) (read tree l [] tree_levels root a) = rw e at (stops_as_read l tree_levels root a) in
      (w.0, tree_is a ∙ ap whole_tree w.1)

  -- What ends too early.
  cut_told : (g : List ℕ) → stops g ≡ ends → locate_tree language root g ≡ cut_at (length g)
  cut_told g e = located_is g ∙ ap (λ (o : Stop). record { outcome = outcome_of o; position = stop_position g o }) e

  cut_before : (a r s : List ℕ) → s ≡ a ++ r → Cut stops a → (q : ℕ) → q < length a → locate_tree language root (take q s) ≡ cut_at q
  cut_before a r s e c q h =
      let j : q ≤ length a = omega arith in
      let g : take q s ≡ take q a = ap (take q) e ∙ take-append-le q a r j in
      let z : a ≡ take q a ++ (get_or a q 0 ∷ drop (q + 1) a) = sym (take-append-drop q a) ∙ ap (λ (u : List ℕ). take q a ++ u) (front a q h) in
      let n : length (take q a) ≡ q = length-take-le q a j in
      ap (locate_tree language root) g ∙ (cut_told (take q a) (c (take q a) (get_or a q 0) (drop (q + 1) a) z) ∙ ap cut_at n)

  -- Reading a legal tree passes it, so no legal tree begins with bytes that stop reading whatever follows.
  passes_legal : (b : List ℕ) (w : Begins l root b) → stops (b ++ w.behind) ≡ passes []
  passes_legal b w =
      let e : read tree l [] tree_levels root (write tree w.subject) ≡ done w.subject [] =
      ap (read tree l [] tree_levels root) (sym (append-nil (write tree w.subject)))
      ∙ round l (apart l (language_facts language l is).1) w.typed as_tree tree_levels [] w.within in
      passes_by (stops (b ++ w.behind)) [] (stop_agrees l tree_levels root (b ++ w.behind) ∙ ap rest_of (ap (read tree l [] tree_levels root) (sym w.is) ∙ e))

  never_by : (b : List ℕ) → ((v : List ℕ) → stops (b ++ v) ≡ passes [] → ⊥) → Begins l root b → ⊥
  never_by b h w = h w.behind (passes_legal b w)

  decided : (a r s : List ℕ) → s ≡ a ++ r → Cut stops a → ((v : List ℕ) → stops (a ++ v) ≡ passes [] → ⊥) → (n : ℕ) → n ≡ length a
      → DecidedBy language l root s n
  decided a r s e c h n en = rw en (record {
    never = λ w. never_by a h (rw (ap (take (length a)) e ∙ take_at a r (length a) refl) at w);
    before = cut_before a r s e c;
  })

  unfit_not : (o : Stop) (u : List ℕ) → o ≡ unfit u → o ≡ passes [] → ⊥
  unfit_not o u e h = let z : ◌≡◌ {A = ℕ} 0 1 = cc in omega arith

  deep_not : (o : Stop) (u : List ℕ) → o ≡ deep u → o ≡ passes [] → ⊥
  deep_not o u e h = let z : ◌≡◌ {A = ℕ} 0 1 = cc in omega arith

  ends_not : (o : Stop) → o ≡ ends → o ≡ passes [] → ⊥
  ends_not o e h = let z : ◌≡◌ {A = ℕ} 0 1 = cc in omega arith

  -- Where so much is left behind a front, the position is the front's length.
  behind_front : (s a r : List ℕ) → s ≡ a ++ r → position_of s r ≡ length a
  behind_front s a r e = let n : length s ≡ length a + length r = ap length e ∙ length-append a r in omega arith

  module _ (s : List ℕ) where
    abbrev Reason : Stop → Type 0
    Reason o = Because language l root s (outcome_of o) (stop_position s o)

    tree_reason : (a r : List ℕ) → s ≡ a ++ r → ((v : List ℕ) → stops (a ++ v) ≡ passes v) → Reason (passes r)
    tree_reason a [] e d =
        let z : a ≡ s = sym (append-nil a) ∙ sym e in
        let w = legal a (ap stops (sym (append-nil a)) ∙ d []) in
        whole (ap (tree_of l root) (sym z) ∙ w.1)
    tree_reason a (b ∷ r) e d =
        let w = legal a (ap stops (sym (append-nil a)) ∙ d []) in
        let n : length s ≡ length a + length (b ∷ r) = ap length e ∙ length-append a (b ∷ r) in
        let p : position_of s (b ∷ r) ≡ length a = behind_front s a (b ∷ r) e in
        let i : length a < length s = omega arith in
        rw p (leftover i (ap (tree_of l root) (ap (take (length a)) e ∙ take_at a (b ∷ r) (length a) refl) ∙ w.1))

    node_reason : (a w r u : List ℕ) → (length w ≡ 1) ⊎ (length w ≡ 2) → u ≡ w ++ r → s ≡ a ++ (w ++ r) → ((v : List ℕ) → stops (a ++ (w ++ v)) ≡ unfit (w ++ v))
        → Cut stops (a ++ w) → Reason (unfit u)
    node_reason a w r u n i e d c =
        let p : position_of s u ≡ length a = ap (position_of s) i ∙ behind_front s a (w ++ r) e in
        let f : s ≡ (a ++ w) ++ r = e ∙ sym (append_assoc a w r) in
        let m : length (a ++ w) ≡ length a + length w = length-append a w in
        let t : length s ≡ length (a ++ w) + length r = ap length f ∙ length-append (a ++ w) r in
        let h : (v : List ℕ) → stops ((a ++ w) ++ v) ≡ passes [] → ⊥ = λ v q. unfit_not (stops ((a ++ w) ++ v)) (w ++ v) (ap stops (append_assoc a w v) ∙ d v) q in
        rw p (go n m t f h)
      where
        go : (length w ≡ 1) ⊎ (length w ≡ 2) → length (a ++ w) ≡ length a + length w → length s ≡ length (a ++ w) + length r → s ≡ (a ++ w) ++ r
            → ((v : List ℕ) → stops ((a ++ w) ++ v) ≡ passes [] → ⊥) → Because language l root s (Err IllegalTree) (length a)
        go (inl one) m t f h =
            let i : length a < length s = omega arith in
            unknown i (decided (a ++ w) r s f c h (length a + 1) (omega arith))
        go (inr two) m t f h =
            let i : length a + 1 < length s = omega arith in
            out_of_range i (decided (a ++ w) r s f c h (length a + 2) (omega arith))

    level_reason : (a r : List ℕ) → s ≡ a ++ r → ((v : List ℕ) → stops (a ++ v) ≡ deep v) → Cut stops a → Reason (deep r)
    level_reason a r e d c =
        let p : position_of s r ≡ length a = behind_front s a r e in
        let n : length s ≡ length a + length r = ap length e ∙ length-append a r in
        let i : length a ≤ length s = omega arith in
        rw p (too_deep_lem i (decided a r s e c (λ v q. deep_not (stops (a ++ v)) v (d v) q) (length a) refl))

    end_reason : ((g h : List ℕ) → s ≡ g ++ h → stops g ≡ ends) → Reason ends
    end_reason d = ended (λ q w e.
        ends_not (stops (take q s)) (d (take q s) (drop q s) (sym (take-append-drop q s)))
        (ap stops (sym (append-nil (take q s)) ∙ ap (λ (u : List ℕ). take q s ++ u) (sym e)) ∙ passes_legal (take q s) w)) (λ q h.
        cut_told (take q s) (d (take q s) (drop q s) (sym (take-append-drop q s))) ∙ ap cut_at (length-take-le q s h))

    reason : (o : Stop) → Local stops s o → Reason o
    reason o (by_tree a {r = r} e d c) = tree_reason a r e d
    reason o (by_node a w r {u = u} n i e d c) = node_reason a w r u n i e d c
    reason o (by_level a {r = r} e d c) = level_reason a r e d c
    reason o (by_end d) = end_reason d

    because : Because language l root s (locate_tree language root s).outcome (locate_tree language root s).position
    because = rw (located_is s) (reason (stops s) (stop_local l tree_levels root s))

pub positions_have_reasons : PositionsHaveReasons
positions_have_reasons language root bytes l is known = because language root l is known bytes

pub unread_is_zero : UnreadIsZero
unfolding locate_tree check_tree stop_of
unread_is_zero language root bytes = ((λ r e. rw e refl), λ l e i. rw (e, i) refl)
