-- Every edit is sound: the bytes around the block stay, the new plan is legal, and the path gives the new block.
use Prim.Native.Nat.{ℕ, zero, suc, max, ◌+◌, ◌-◌, ◌<◌, ◌≤◌}
use mathlib.Core.Path.{◌≡◌, refl, sym, ap, subst, ◌∙◌}
use mathlib.Core.Bool.{false}
use mathlib.Core.List.{List, [], ◌∷◌, ◌++◌, append-nil}
use mathlib.Core.Option.{Option, none, some, get_or}
use native.Mathlib.Omega.{arith}
use lib.ListN.{length, take, drop}
use Rattle.format_fields.specs.Fields.{byte_at}
use Rattle.outcome.specs.Outcome.{value}
use Rattle.outcome.specs.declared.Reason.TheVariants.{NotIndexed}
use Rattle.format_fields.proofs.Truth.{none_some, some_inj, equal_numbers}
use Rattle.format_fields.proofs.Codec.{bytes_from, value_inj, step_value}
use Rattle.format_language.specs.Language.{Language, arguments_of}
use Rattle.format_language.specs.LanguageFile.{language_of}
use Rattle.tree_reader.specs.Code.{Code, node, token, argument, Codes, nil, cons, levels, levels_all}
use Rattle.tree_reader.specs.Typing.{Typed, TypedAll, typed_node, typed_token, typed_argument, typed_cons}
use Rattle.tree_reader.specs.Syntax.{done, read, write, tree}
use Rattle.tree_reader.specs.Operations.{tree_levels, tree_of}
use Rattle.tree_reader.proofs.Sound.{Right, read_done}
use Rattle.tree_reader.proofs.Larger.{apart}
use Rattle.tree_reader.proofs.RoundTrip.{round, as_tree}
use Rattle.format_translation.proofs.Fitting.{refuse_value}
use Rattle.check_operations.proofs.Legal.{tree_done, tree_of_lem}
use Rattle.tree_index.specs.Spans.{size, spans, index_of}
use Rattle.tree_index.specs.Operations.{is_long, indexed_tree}
use Rattle.tree_index.specs.Inner.Lying.{Lies}
use Rattle.check_operations.proofs.Opening.{language_facts}
use Rattle.tree_index.proofs.Checking.{tree_bytes, tree_lies}
use Rattle.tree_index.proofs.Owning.{OwnedBy, indexed_owned}
use Rattle.format_card.specs.Card.{Card, sees, card_of}
use Rattle.format_card.proofs.Refusals.{together_value}
use Rattle.tree_block.specs.Blocks.{Block, block_of, bytes_of, argument_after, argument_of, reached, nowhere, block_at, every_kind}
use Rattle.tree_block.specs.Operations.{found, find_block}
use Rattle.tree_block.proofs.Reaching.{reached_inj, nowhere_reached, seen_reached}
use Rattle.tree_block.proofs.Legal.{found_reached}
use Rattle.tree_edit.specs.Plans.{replace_after, replace_at}
use Rattle.tree_edit.specs.Operations.{new_block, edit_plan}
use Rattle.tree_edit.specs.Laws.{Edits, EditsAreSound}
use Rattle.tree_edit.proofs.Replacing.{Edited, whole, inside, EditedIn, here, past, Moved, around, edited_moved, replaced}

-- Levels: a path goes no deeper than the tree, and the new tree is no deeper than the old one or than the new block at its
-- place.
module _ {a b : Code} {s : ℕ} where
  mutual
    unfolding levels

    edited_levels : {path : List ℕ} {at : ℕ} {t r : Code} → Edited a b s path at t r
        → (length path ≤ levels t) × (levels r ≤ max (levels t) (length path + levels b))
    edited_levels (whole e d q) = rw d (omega arith, omega arith)
    edited_levels (inside w) = let z = edited_in_levels w in (omega arith, omega arith)

    edited_in_levels : {n at : ℕ} {path : List ℕ} {ts us : Codes} → EditedIn a b s n path at ts us
        → (length path ≤ levels_all ts) × (levels_all us ≤ max (levels_all ts) (length path + levels b))
    edited_in_levels (here w) = let z = edited_levels w in (omega arith, omega arith)
    edited_in_levels (past w) = let z = edited_in_levels w in (omega arith, omega arith)

-- The argument at which a path goes on, and what becomes of it.
module _ (h : Code → Code) (d : Block) where
  after_replaced : (ks : List ℕ) (ts : Codes) (n at : ℕ) → argument_after ks ts n at ≡ some d
      → argument_after ks (replace_after n h ts) n at ≡ some (block_of d.start d.kind (h d.subtree))
  unfolding argument_after replace_after
  after_replaced [] ts n at e = none_some e
  after_replaced (k ∷ ks) nil n at e = none_some e
  after_replaced (k ∷ ks) (cons t ts) zero at e = ap (λ (x : Block). some (block_of x.start x.kind (h x.subtree))) (some_inj e)
  after_replaced (k ∷ ks) (cons t ts) (suc n) at e = after_replaced ks ts n (at + size t) e

  after_typed : (l : Language) (ks : List ℕ) (ts : Codes) (n at : ℕ) → TypedAll l [] ts ks → argument_after ks ts n at ≡ some d
      → (Typed l [] d.subtree d.kind → Typed l [] (h d.subtree) d.kind) → TypedAll l [] (replace_after n h ts) ks
  unfolding argument_after replace_after
  after_typed l [] ts n at w e g = none_some e
  after_typed l (k ∷ ks) nil n at w e g = none_some e
  after_typed l (k ∷ ks) (cons t ts) zero at (typed_cons y ys) e g =
      let q : block_of at k t ≡ d = some_inj e in
      let z : Typed l [] (h t) k = subst (λ (x : Block). Typed l [] x.subtree x.kind → Typed l [] (h x.subtree) x.kind) (sym q) g y in
      typed_cons z ys
  after_typed l (k ∷ ks) (cons t ts) (suc n) at (typed_cons y ys) e g = typed_cons y (after_typed l ks ts n (at + size t) ys e g)

module _ (l : Language) (path : List ℕ) (u : Code) (d : Block) where
  argument_replaced : (i at : ℕ) (t : Code) → argument_of l at t i ≡ some d
      → argument_of l at (replace_at (i ∷ path) u t) i ≡ some (block_of d.start d.kind (replace_at path u d.subtree))
  unfolding argument_of replace_at
  argument_replaced zero at (node k p ts) e = none_some e
  argument_replaced (suc n) at (node k p ts) e = after_replaced (replace_at path u) d (get_or (arguments_of l k p) []) ts n (at + 1) e
  argument_replaced i at (token v) e = none_some e
  argument_replaced i at (argument j m) e = none_some e

  argument_typed : (i at : ℕ) (t : Code) (k : ℕ) → Typed l [] t k → argument_of l at t i ≡ some d
      → (Typed l [] d.subtree d.kind → Typed l [] (replace_at path u d.subtree) d.kind) → Typed l [] (replace_at (i ∷ path) u t) k
  unfolding argument_of replace_at
  argument_typed zero at t k (typed_node e w) q g = none_some q
  argument_typed (suc n) at t k (typed_node {p = p} {t = ts} {ks = ks} e w) q g =
      let f : argument_after ks ts n (at + 1) ≡ some d = sym (ap (λ (o : Option (List ℕ)). argument_after (get_or o []) ts n (at + 1)) e) ∙ q in
      typed_node e (after_typed (replace_at path u) d l ks ts n (at + 1) w f g)
  argument_typed i at t k (typed_token e w) q g = none_some q
  argument_typed i at t k (typed_argument e) q g = none_some q

-- The path on the new plan, and its type.
module _ (l : Language) (u : Code) (c : Block) where
  path_replaced : (path : List ℕ) (x : Block) → block_at every_kind l path x ≡ reached c
      → block_at every_kind l path (block_of x.start x.kind (replace_at path u x.subtree)) ≡ reached (block_of c.start c.kind u)
  unfolding block_at replace_at
  path_replaced [] x e = ap (λ (y : Block). reached (block_of y.start y.kind u)) (reached_inj e)
  path_replaced (i ∷ path) x e = go (λ d f. path_replaced path d f) (argument_of l x.start x.subtree i) refl e
    where
      go : ((d : Block) → block_at every_kind l path d ≡ reached c → block_at every_kind l path (block_of d.start d.kind (replace_at path u d.subtree)) ≡ reached (block_of c.start c.kind u))
          → (o : Option Block) → argument_of l x.start x.subtree i ≡ o → elim o [ none ↦ nowhere | some d ↦ block_at every_kind l path d ] ≡ reached c
          → elim (argument_of l x.start (replace_at (i ∷ path) u x.subtree) i) [ none ↦ nowhere | some d ↦ block_at every_kind l path d ] ≡ reached (block_of c.start c.kind u)
      go h none q f = nowhere_reached f
      go h (some d) q f = rw (argument_replaced l path u d i x.start x.subtree q) (h d f)

  path_typed : (path : List ℕ) (x : Block) → block_at every_kind l path x ≡ reached c → Typed l [] x.subtree x.kind → Typed l [] u c.kind
      → Typed l [] (replace_at path u x.subtree) x.kind
  unfolding block_at replace_at
  path_typed [] x e w v = rw (reached_inj e) v
  path_typed (i ∷ path) x e w v = go (λ d f y. path_typed path d f y v) (argument_of l x.start x.subtree i) refl e
    where
      go : ((d : Block) → block_at every_kind l path d ≡ reached c → Typed l [] d.subtree d.kind → Typed l [] (replace_at path u d.subtree) d.kind)
          → (o : Option Block) → argument_of l x.start x.subtree i ≡ o → elim o [ none ↦ nowhere | some d ↦ block_at every_kind l path d ] ≡ reached c
          → Typed l [] (replace_at (i ∷ path) u x.subtree) x.kind
      go h none q f = nowhere_reached f
      go h (some d) q f = argument_typed l path u d i x.start x.subtree x.kind w q (h d f)

-- The steps of an edit that was made.
module _ (s : List ℕ) (root : ℕ) (bytes index path card block : List ℕ) (byte : (i : ℕ) → byte_at bytes i < 256) (blocks : (i : ℕ) → byte_at block i < 256)
    (l : Language) (d : Card) (t : Code) (c : Block) (u : Code) (el : language_of s ≡ value l) (ed : card_of card ≡ value d)
    (et : indexed_tree l root bytes index ≡ value t) (es : block_at (sees d) l path (block_of 0 root t) ≡ reached c) (eu : new_block l path c block ≡ value u)
    (short : is_long (write tree (replace_at path u t)) ≡ false) where
  abbrev next : Code
  next = replace_at path u t

  ec : block_at every_kind l path (block_of 0 root t) ≡ reached c
  ec = seen_reached (sees d) l c path (block_of 0 root t) es

  by : OwnedBy s root bytes index l t
  by = indexed_owned s root bytes index l t el et

  plan_is : write tree t ≡ bytes
  plan_is = tree_bytes l root bytes t byte by.tree_is

  lies : Lies l bytes 0 root t
  lies = tree_lies l root bytes t byte by.tree_is

  new_right : Right tree l [] (tree_levels - length path) c.kind block (done u [])
  new_right = read_done tree l [] (tree_levels - length path) c.kind block u [] (tree_done _ u eu)

  new_is : write tree u ≡ block
  new_is = sym ((new_right.2 (bytes_from block (λ i j. blocks i))).0 ∙ append-nil (write tree u))

  made : Edited c.subtree u c.start path 0 t next
  made = replaced every_kind l u c path (block_of 0 root t) ec

  parts : Moved c.subtree u c.start 0 (size t) (write tree t) (write tree next) (spans 0 t) (spans 0 next)
  parts = edited_moved c.subtree u c.start (size t) made (omega arith)

  next_typed : Typed l [] next root
  next_typed = path_typed l u c path (block_of 0 root t) ec lies.typed new_right.0

  next_levels : levels next ≤ tree_levels
  next_levels = let z = edited_levels made in let n = new_right.1 in let m = lies.within in omega (arith, z.0, z.1)

  next_tree : tree_of l root (write tree next) ≡ value next
  next_tree =
      let back : read tree l [] tree_levels root (write tree next) ≡ done next [] =
      ap (read tree l [] tree_levels root) (sym (append-nil (write tree next)))
      ∙ round l (apart l (language_facts s l el).1) next_typed as_tree tree_levels [] next_levels in
      tree_of_lem l root (write tree next) (done next []) lies.known back

  next_indexed : indexed_tree l root (write tree next) (index_of next) ≡ value next
  unfolding indexed_tree
  next_indexed = rw (next_tree, short, equal_numbers (index_of next))

  bytes_were : bytes ≡ parts.head ++ (bytes_of c ++ parts.tail)
  bytes_were = sym plan_is ∙ parts.bytes_were

  next_around : write tree next ≡ take c.start bytes ++ (block ++ drop (c.start + length (bytes_of c)) bytes)
  next_around =
      around parts
      ∙ (ap (λ (v : List ℕ). take c.start v ++ (write tree u ++ drop (c.start + length (bytes_of c)) v)) plan_is
      ∙ ap (λ (v : List ℕ). take c.start bytes ++ (v ++ drop (c.start + length (bytes_of c)) bytes)) new_is)

  same_bytes : block ≡ bytes_of c → write tree next ≡ bytes
  same_bytes e = parts.bytes_are ∙ (ap (λ (v : List ℕ). parts.head ++ (v ++ parts.tail)) (new_is ∙ e) ∙ sym bytes_were)

  same_plan : block ≡ bytes_of c → next ≡ t
  same_plan e = value_inj (sym next_tree ∙ (ap (tree_of l root) (same_bytes e) ∙ by.tree_is))

  seen_there : (k : Language) (e : Card) (p : Code) → language_of s ≡ value k → card_of card ≡ value e → indexed_tree k root bytes index ≡ value p
      → block_at (sees e) k path (block_of 0 root p) ≡ reached c
  seen_there k e p ek ee ep =
      let x : l ≡ k = value_inj (sym el ∙ ek) in
      let y : d ≡ e = value_inj (sym ed ∙ ee) in
      let q : indexed_tree l root bytes index ≡ value p = rw x ep in
      let z : t ≡ p = value_inj (sym et ∙ q) in
      rw (← x, ← y, ← z) es

  pub edits : Edits s root bytes index path card block next
  unfolding find_block
  edits = record {
    old = c;
    there = rw (el, et, ec);
    seen = seen_there;
    around = next_around;
    legal = λ k ek. let z : l ≡ k = value_inj (sym el ∙ ek) in rw (← z) next_indexed;
    new = block_of c.start c.kind u;
    shown = rw (el, next_indexed, path_replaced l u c path (block_of 0 root t) ec);
    same_place = (refl, refl);
    is_new = new_is;
    unchanged = λ e. (same_bytes e, ap index_of (same_plan e) ∙ sym by.own);
  }

pub edits_are_sound : EditsAreSound
unfolding edit_plan
edits_are_sound s root bytes index path card block t byte blocks e =
    let b = together_value (language_of s) (card_of card) _ e in
    let l = b.0 in
    let p = step_value (indexed_tree l root bytes index) _ b.4 in
    let c = step_value (found (block_at (sees b.1) l path (block_of 0 root p.0))) _ p.2 in
    let u = step_value (new_block l path c.0 block) _ c.2 in
    let r = refuse_value (is_long (write tree (replace_at path u.0 p.0))) NotIndexed (value (replace_at path u.0 p.0)) u.2 in
    let z : replace_at path u.0 p.0 ≡ t = value_inj r.1 in
    subst (Edits s root bytes index path card block) z
    (edits s root bytes index path card block byte blocks l b.1 p.0 c.0 u.0 b.2 b.3 p.1 (found_reached _ c.0 c.1) u.1 r.0)
