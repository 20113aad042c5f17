-- Edits of plans that agree outside hidden blocks, and what an edit leaves.
use Prim.Native.Nat.{ℕ, zero, suc, ◌+◌, ◌-◌}
use mathlib.Core.Path.{◌≡◌, refl, sym, ap, ◌∙◌}
use mathlib.Core.Bool.{Bool, true, false, not, cond, ◌||◌}
use mathlib.Core.List.{List, [], ◌∷◌, ◌++◌, append_assoc}
use mathlib.Core.Option.{Option, none, some}
use native.Mathlib.Omega.{arith}
use lib.ListN.{length, take, drop, length-append}
use lib.Seq.{take-append_seam, drop-append_seam, length-take-le}
use Rattle.outcome.specs.Outcome.{Result, value, refused, refuse_if, ◌>>=◌}
use Rattle.outcome.specs.declared.Reason.TheVariants.{NotIndexed}
use Rattle.format_fields.specs.Lists.{same_numbers}
use Rattle.format_fields.proofs.Truth.{none_some, some_inj, false_true}
use Rattle.format_fields.proofs.Codec.{refused_value, step_value, value_inj}
use Rattle.format_language.specs.Language.{Language}
use Rattle.format_language.specs.LanguageFile.{language_of}
use Rattle.tree_reader.specs.Code.{Code, Codes}
use Rattle.tree_reader.specs.Typing.{Typed, TypedAll, typed_node, typed_token, typed_argument, typed_nil, typed_cons}
use Rattle.tree_reader.specs.Syntax.{read, write, tree}
use Rattle.tree_reader.specs.Operations.{tree_levels, whole_tree, tree_of}
use Rattle.tree_reader.proofs.Sound.{read_done}
use Rattle.check_operations.proofs.Legal.{tree_done, tree_right}
use Rattle.format_translation.proofs.Fitting.{refuse_value}
use Rattle.format_card.specs.Card.{Card, sees, card_of, together}
use Rattle.tree_index.specs.Spans.{index_of}
use Rattle.tree_index.specs.Operations.{is_long, indexed_tree}
use Rattle.tree_block.specs.Blocks.{Block, block_of, bytes_of, argument_after, argument_of, Reached, reached, nowhere, hidden, block_at}
use Rattle.tree_block.specs.Operations.{found}
use Rattle.tree_block.proofs.Legal.{blocks_are_legal}
use Rattle.tree_block.proofs.Reaching.{reached_inj, not_reached, nowhere_reached}
use Rattle.tree_mask.specs.Agreement.{Agree, both_hidden, same_token, same_production, AgreeAll, agree_nil, agree_cons}
use Rattle.tree_mask.proofs.Laws.{hidden_stays_hidden}
use Rattle.tree_edit.specs.Plans.{replace_after, replace_at}
use Rattle.tree_edit.specs.Operations.{new_block, new_plan, edit_plan}
use Rattle.tree_edit.proofs.Sound.{edits_are_sound}
use Rattle.laws_bytes.specs.Edits.{EditsStayAlike, EditsStayInside}
use Rattle.laws_bytes.proofs.Opened.{no_use}

-- A legal tree agrees with itself.
module _ (l : Language) (c : Card) where
  mutual
    agrees : {u : Code} {k : ℕ} → Typed l [] u k → Agree l c k u u
    agrees (typed_node e h) = same_production e (agrees_all h)
    agrees (typed_token e h) = same_token
    agrees (typed_argument {i = i} {j = j} e) = no_use i j e

    agrees_all : {t : Codes} {ks : List ℕ} → TypedAll l [] t ks → AgreeAll l c ks t t
    agrees_all typed_nil = agree_nil
    agrees_all (typed_cons h hs) = agree_cons (agrees h) (agrees_all hs)

  -- The operands after n others of rows that agree: of one kind, and they agree; with both changed alike the rows still do.
  record After (ks : List ℕ) (s t : Codes) (n : ℕ) (a b : Block) : Type 0 where
    kinds : b.kind ≡ a.kind
    agree : Agree l c a.kind a.subtree b.subtree
    changed : (h : Code → Code) → Agree l c a.kind (h a.subtree) (h b.subtree) → AgreeAll l c ks (replace_after n h s) (replace_after n h t)

  after : {ks : List ℕ} {s t : Codes} → AgreeAll l c ks s t → (n x y : ℕ) (a b : Block) → argument_after ks s n x ≡ some a → argument_after ks t n y ≡ some b
      → After ks s t n a b
  unfolding argument_after replace_after
  after agree_nil n x y a b e d = none_some e
  after (agree_cons {k = k} {a = p} {b = q} g gs) zero x y a b e d =
      let ea : block_of x k p ≡ a = some_inj e in
      let eb : block_of y k q ≡ b = some_inj d in
      rw (← ea, ← eb) (record { kinds = refl; agree = g; changed = λ h w. agree_cons w gs })
  after (agree_cons g gs) (suc n) x y a b e d =
      let r = after gs n _ _ a b e d in
      record { kinds = r.kinds; agree = r.agree; changed = λ h w. agree_cons g (r.changed h w) }

  -- The blocks that a path number leads to, of blocks that agree and are seen.
  record Entered (i k : ℕ) (s t : Code) (a b : Block) : Type 0 where
    kinds : b.kind ≡ a.kind
    agree : Agree l c a.kind a.subtree b.subtree
    changed : (path : List ℕ) (u : Code) → Agree l c a.kind (replace_at path u a.subtree) (replace_at path u b.subtree)
        → Agree l c k (replace_at (i ∷ path) u s) (replace_at (i ∷ path) u t)

  entered : {k : ℕ} {s t : Code} → Agree l c k s t → (i p q : ℕ) (a b : Block) → sees c k ≡ true → argument_of l p s i ≡ some a → argument_of l q t i ≡ some b
      → Entered i k s t a b
  unfolding argument_of replace_at
  entered (both_hidden h) i p q a b seen e d = false_true (sym h ∙ seen)
  entered same_token i p q a b seen e d = none_some e
  entered (same_production h gs) zero p q a b seen e d = none_some e
  entered (same_production {k = k} {p = name} {ks = ks} {s = s} {t = t} h gs) (suc n) p q a b seen e d =
      let x : argument_after ks s n (p + 1) ≡ some a = rw h at e in
      let y : argument_after ks t n (q + 1) ≡ some b = rw h at d in
      let r = after gs n (p + 1) (q + 1) a b x y in
      record { kinds = r.kinds; agree = r.agree; changed = λ path u w. same_production h (r.changed (replace_at path u) w) }

  -- A path that reaches a block is seen at each step, and each number leads on.
  last_seen : (b : Bool) (x z : Block) → cond b (reached z) hidden ≡ reached x → (b ≡ true) × (z ≡ x)
  last_seen true x z e = (refl, reached_inj e)
  last_seen false x z e = hidden_reached e
    where
      hidden_reached : {A : Type 0} → hidden ≡ reached x → A
      hidden_reached e = not_reached hidden refl e

  opened : (path : List ℕ) (b : Bool) (o : Option Block) (x : Block)
      → elim b [ false ↦ hidden | true ↦ elim o [ none ↦ nowhere | some d ↦ block_at (sees c) l path d ] ] ≡ reached x
      → (b ≡ true) × (d : Block) × (o ≡ some d) × (block_at (sees c) l path d ≡ reached x)
  opened path true (some d) x e = (refl, d, refl, e)
  opened path true none x e = nowhere_reached e
  opened path false o x e = not_reached hidden refl e

  -- The blocks at a path in two trees that agree are of one kind; with a legal tree in their places the trees still agree.
  record Along (path : List ℕ) (k : ℕ) (s t : Code) (a b : Block) : Type 0 where
    kinds : b.kind ≡ a.kind
    seen : sees c a.kind ≡ true
    changed : (u : Code) → Typed l [] u a.kind → Agree l c k (replace_at path u s) (replace_at path u t)

  along : (path : List ℕ) (k : ℕ) (s t : Code) → Agree l c k s t → (p q : ℕ) (a b : Block)
      → block_at (sees c) l path (block_of p k s) ≡ reached a → block_at (sees c) l path (block_of q k t) ≡ reached b → Along path k s t a b
  unfolding block_at replace_at
  along [] k s t g p q a b e d =
      let x = last_seen (sees c k) a (block_of p k s) e in
      let y = last_seen (sees c k) b (block_of q k t) d in
      let ka : k ≡ a.kind = ap (λ (z : Block). z.kind) x.1 in
      let kb : k ≡ b.kind = ap (λ (z : Block). z.kind) y.1 in
      record { kinds = sym kb ∙ ka; seen = ap (sees c) (sym ka) ∙ x.0; changed = λ u h. agrees (rw (← ka) at h) }
  along (i ∷ path) k s t g p q a b e d =
      let (seen, x, ex, fx) = opened path (sees c k) (argument_of l p s i) a e in
      let (also, y, ey, fy) = opened path (sees c k) (argument_of l q t i) b d in
      let r = entered g i p q x y seen ex ey in
      let fy' : block_at (sees c) l path (block_of y.start x.kind y.subtree) ≡ reached b =
      ap (λ (z : ℕ). block_at (sees c) l path (block_of y.start z y.subtree)) (sym r.kinds) ∙ fy in
      let w = along path x.kind x.subtree y.subtree r.agree x.start y.start a b fx fy' in
      record { kinds = w.kinds; seen = w.seen; changed = λ u h. r.changed path u (w.changed u h) }

-- The steps of an edit that was made.
record Made (language : List ℕ) (root : ℕ) (bytes index path block : List ℕ) (l : Language) (c : Card) (next : Code) : Type 0 where
  plan : Code
  indexed : indexed_tree l root bytes index ≡ value plan
  old : Block
  reaches : block_at (sees c) l path (block_of 0 root plan) ≡ reached old
  new : Code
  new_is : new_block l path old block ≡ value new
  is : replace_at path new plan ≡ next

made : (language : List ℕ) (root : ℕ) (bytes index path card block : List ℕ) (l : Language) (c : Card) (next : Code) → language_of language ≡ value l → card_of card ≡ value c
    → edit_plan language root bytes index path card block ≡ value next → Made language root bytes index path block l c next
unfolding edit_plan
made language root bytes index path card block l c next el ec e =
    let e' : (indexed_tree l root bytes index >>= λ t. found (block_at (sees c) l path (block_of 0 root t)) >>= λ b. new_block l path b block >>= λ u. new_plan path u t) ≡ value next = rw (el, ec) at e in
    let a = step_value (indexed_tree l root bytes index) (λ t. found (block_at (sees c) l path (block_of 0 root t)) >>= λ b. new_block l path b block >>= λ u. new_plan path u t) e' in
    let b = step_value (found (block_at (sees c) l path (block_of 0 root a.0))) (λ b. new_block l path b block >>= λ u. new_plan path u a.0) a.2 in
    let d = step_value (new_block l path b.0 block) (λ u. new_plan path u a.0) b.2 in
    let f = refuse_value (is_long (write tree (replace_at path d.0 a.0))) NotIndexed (value (replace_at path d.0 a.0)) d.2 in
    record {
      plan = a.0;
      indexed = a.1;
      old = b.0;
      reaches = found_reached (block_at (sees c) l path (block_of 0 root a.0)) b.0 b.1;
      new = d.0;
      new_is = d.1;
      is = value_inj f.1;
    }
  where
    found_reached : (r : Reached) (x : Block) → found r ≡ value x → r ≡ reached x
    found_reached (reached y) x h = ap reached (value_inj h)
    found_reached nowhere x h = refused_value h
    found_reached hidden x h = refused_value h

-- The tree of an indexed tree.
indexed_tree_lem : (l : Language) (root : ℕ) (bytes index : List ℕ) (t : Code) → indexed_tree l root bytes index ≡ value t → tree_of l root bytes ≡ value t
unfolding indexed_tree
indexed_tree_lem l root bytes index t e =
    let a = step_value (tree_of l root bytes) (λ u. refuse_if (is_long bytes || not (same_numbers index (index_of u))) NotIndexed (value u)) e in
    let b = refuse_value (is_long bytes || not (same_numbers index (index_of a.0))) NotIndexed (value a.0) a.2 in
    a.1 ∙ b.1

-- A new block is legal.
new_typed : (l : Language) (path : List ℕ) (b : Block) (block : List ℕ) (u : Code) → new_block l path b block ≡ value u → Typed l [] u b.kind
new_typed l path b block u e = (read_done tree l [] (tree_levels - length path) b.kind block u [] (tree_done _ u e)).0

pub edits_stay_alike : EditsStayAlike
edits_stay_alike language root card path block first index second other l c s t u v bf bs bb el ec es et g eu ev =
    let x = made language root first index path card block l c u el ec eu in
    let y = made language root second other path card block l c v el ec ev in
    let px : x.plan ≡ s = value_inj (sym (indexed_tree_lem l root first index x.plan x.indexed) ∙ es) in
    let py : y.plan ≡ t = value_inj (sym (indexed_tree_lem l root second other y.plan y.indexed) ∙ et) in
    let g' : Agree l c root x.plan y.plan = rw (px, py) g in
    let w = along l c path root x.plan y.plan g' 0 0 x.old y.old x.reaches y.reaches in
    let same_new : x.new ≡ y.new = value_inj (sym x.new_is ∙ (ap (λ (k : ℕ). whole_tree (read tree l [] (tree_levels - length path) k block)) (sym w.kinds) ∙ y.new_is)) in
    let agree : Agree l c root (replace_at path x.new x.plan) (replace_at path x.new y.plan) = w.changed x.new (new_typed l path x.old block x.new x.new_is) in
    let last : replace_at path x.new y.plan ≡ v = ap (λ (z : Code). replace_at path z y.plan) same_new ∙ y.is in
    let done : Agree l c root u v = rw (← x.is, ← last) agree in
    let a = indexed_tree_lem l root (write tree u) (index_of u) u ((edits_are_sound language root first index path card block u bf bb eu).legal l el) in
    let b = indexed_tree_lem l root (write tree v) (index_of v) v ((edits_are_sound language root second other path card block v bs bb ev).legal l el) in
    (done, λ o p same. hidden_stays_hidden language root card (write tree u) (write tree v) o p l c u v el ec a b done same)

-- The language of an edit that was made was accepted.
edit_language : (language : List ℕ) (root : ℕ) (bytes index path card block : List ℕ) (c : Card) (t : Code) → card_of card ≡ value c
    → edit_plan language root bytes index path card block ≡ value t → (l : Language) × (language_of language ≡ value l)
unfolding edit_plan
edit_language language root bytes index path card block c t ec e = go (language_of language) refl (rw ec at e)
  where
    next : Language → Card → Result Code
    next l c = indexed_tree l root bytes index >>= λ t. found (block_at (sees c) l path (block_of 0 root t)) >>= λ b. new_block l path b block >>= λ u. new_plan path u t

    go : (m : Result Language) → language_of language ≡ m → together m (value c) next ≡ value t → (l : Language) × (language_of language ≡ value l)
    go (value l) d h = (l, d)
    go (refused r) d h = refused_value h

pub edits_stay_inside : EditsStayInside
edits_stay_inside language root bytes index path card block c t narrow blocks ec e =
    let (l, el) = edit_language language root bytes index path card block c t ec e in
    let m = made language root bytes index path card block l c t el ec e in
    let z = edits_are_sound language root bytes index path card block t narrow blocks e in
    let same : m.old ≡ z.old = reached_inj (sym m.reaches ∙ z.seen l c m.plan el ec m.indexed) in
    let typed = (tree_right l root bytes m.plan (indexed_tree_lem l root bytes index m.plan m.indexed)).1.0 in
    let seen = (along l c path root m.plan m.plan (agrees l c typed) 0 0 m.old m.old m.reaches m.reaches).seen in
    let inside = (blocks_are_legal language root bytes index path l z.old narrow el z.there).inside in
    let front_long : length (take z.old.start bytes) ≡ z.old.start = length-take-le z.old.start bytes (omega arith) in
    let fronts : take z.old.start (write tree t) ≡ take z.old.start bytes = front_of z.old.start (take z.old.start bytes) (block ++ drop (z.old.start + length (bytes_of z.old)) bytes) (write tree t) z.around front_long in
    record {
      old = z.old;
      there = z.there;
      seen = ap (λ (b : Block). sees c b.kind) (sym same) ∙ seen;
      front = fronts;
      back = back_of z.old.start (take z.old.start bytes) block (drop (z.old.start + length (bytes_of z.old)) bytes) (write tree t) z.around front_long;
    }
  where
    -- The front and the back of bytes in three parts.
    front_of : (n : ℕ) (a b whole : List ℕ) → whole ≡ a ++ b → length a ≡ n → take n whole ≡ a
    front_of n a b whole w h = ap (take n) w ∙ (ap (λ (m : ℕ). take m (a ++ b)) (sym h) ∙ take-append_seam a b)

    back_of : (n : ℕ) (a b d whole : List ℕ) → whole ≡ a ++ (b ++ d) → length a ≡ n → drop (n + length b) whole ≡ d
    back_of n a b d whole w h =
        let long : n + length b ≡ length (a ++ b) = omega (arith, length-append a b, h) in
        ap (drop (n + length b)) (w ∙ sym (append_assoc a b d)) ∙ (ap (λ (m : ℕ). drop m ((a ++ b) ++ d)) long ∙ drop-append_seam (a ++ b) d)
