-- The laws of specs/Laws.antt.
use Prim.Native.Nat.{ℕ, zero, suc, ◌+◌, ◌*◌, ◌/◌, ◌%◌}
use mathlib.Core.Path.{◌≡◌, refl, sym, ap, ◌∙◌}
use mathlib.Core.Bool.{true, false}
use mathlib.Core.List.{List, [], ◌∷◌, ◌++◌, append_assoc, append-nil}
use mathlib.Core.Option.{none, some}
use native.Mathlib.Nat.{div-add-mod'}
use lib.ListN.{length, drop}
use lib.Seq.{take_at}
use Rattle.format_fields.specs.Fields.{two_bytes}
use Rattle.outcome.specs.Outcome.{Result, value, refused, written, output_after}
use Rattle.format_fields.proofs.Truth.{by_test, none_some, some_inj}
use Rattle.format_language.specs.Language.{Language, Range, arguments_of, range_of}
use Rattle.format_language.proofs.Codec.{language_good}
use Rattle.tree_reader.specs.Code.{Code, node, token, Codes, nil, cons}
use Rattle.tree_reader.specs.Typing.{kind_at, Typed, TypedAll, typed_node, typed_token, typed_argument, typed_nil, typed_cons}
use Rattle.tree_reader.specs.Syntax.{write, write_all, tree}
use Rattle.tree_reader.proofs.Larger.{apart}
use Rattle.format_translation.specs.Operations.{fitted}
use Rattle.check_operations.proofs.Legal.{tree_right}
use Rattle.format_card.specs.Card.{Card, sees}
use Rattle.tree_mask.specs.Mask.{hidden_block, masked, masked_all}
use Rattle.tree_mask.specs.Operations.{mask_bytes, mask_tree}
use Rattle.tree_mask.specs.Agreement.{Agree, both_hidden, same_token, same_production, AgreeAll, agree_nil, agree_cons, Visible, itself, below, VisibleAmong, in_first, in_later, Open, open_token, open_production, OpenAll, open_nil, open_cons}
use Rattle.tree_mask.specs.Laws.{Alike, HiddenStaysHidden, StandsIn, VisibleIsShown, MaskTellsTheRest}
use Rattle.tree_mask.proofs.Masks.{masked_hidden, masked_token, masked_node, all_cons, all_nil}

-- What agrees outside hidden blocks is masked alike.
module _ (l : Language) (c : Card) where
  production_alike : (k p : ℕ) (ks : List ℕ) (s t : Codes) → arguments_of l k p ≡ some ks → masked_all l c ks s ≡ masked_all l c ks t
      → masked l c k (node k p s) ≡ masked l c k (node k p t)
  production_alike k p ks s t e h =
      by_test (sees c k)
      (λ q. masked_node l c k p ks s q e ∙ (ap (λ (u : List ℕ). p ∷ u) h ∙ sym (masked_node l c k p ks t q e)))
      (λ q. masked_hidden l c k (node k p s) q ∙ sym (masked_hidden l c k (node k p t) q))

  mutual
    alike : {k : ℕ} {a b : Code} → Agree l c k a b → masked l c k a ≡ masked l c k b
    alike (both_hidden {k = k} {a = a} {b = b} h) = masked_hidden l c k a h ∙ sym (masked_hidden l c k b h)
    alike same_token = refl
    alike (same_production {k = k} {p = p} {ks = ks} {s = s} {t = t} e h) = production_alike k p ks s t e (all_alike h)

    all_alike : {ks : List ℕ} {s t : Codes} → AgreeAll l c ks s t → masked_all l c ks s ≡ masked_all l c ks t
    all_alike agree_nil = refl
    all_alike (agree_cons {k = k} {ks = ks} {a = a} {b = b} {s = s} {t = t} h i) =
        all_cons l c k ks a s
        ∙ (ap (λ (u : List ℕ). u ++ masked_all l c ks s) (alike h) ∙ (ap (λ (u : List ℕ). masked l c k b ++ u) (all_alike i) ∙ sym (all_cons l c k ks b t)))

-- Answers of equal results, in outputs of equal length.
result_alike : (o p : List ℕ) (m : Result (List ℕ))
    → Alike (record { outcome = written m; output = output_after o m }) (record { outcome = written m; output = output_after p m })
result_alike o p (value v) = record { outcome = refl; bytes = take_at v (drop (length v) o) (length v) refl ∙ sym (take_at v (drop (length v) p) (length v) refl) }
result_alike o p (refused r) = record { outcome = refl; bytes = refl }

pub hidden_stays_hidden : HiddenStaysHidden
unfolding mask_tree mask_bytes
hidden_stays_hidden language root card first second o p l c s t el ec es et agree long =
    let e : masked l c root s ≡ masked l c root t = alike l c agree in
    rw (el, ec, es, et, e, long) (result_alike o p (fitted (length p) (masked l c root t)))

-- Bytes that stand in bytes that stand in others stand in those.
in_itself : (v : List ℕ) → StandsIn v v
in_itself v = record { front = []; back = []; is = sym (append-nil v) }

behind : {v u : List ℕ} (w : List ℕ) → StandsIn v u → StandsIn v (w ++ u)
behind {v} w s = record { front = w ++ s.front; back = s.back; is = ap (λ (x : List ℕ). w ++ x) s.is ∙ sym (append_assoc w s.front (v ++ s.back)) }

before_more : {v u : List ℕ} (w : List ℕ) → StandsIn v u → StandsIn v (u ++ w)
before_more {v} w s = record {
  front = s.front;
  back = s.back ++ w;
  is = ap (λ (x : List ℕ). x ++ w) s.is
      ∙ (append_assoc s.front (v ++ s.back) w ∙ ap (λ (x : List ℕ). s.front ++ x) (append_assoc v s.back w));
}

module _ (l : Language) (c : Card) (j : ℕ) (b : Code) where
  mutual
    shown : {k : ℕ} {a : Code} → Visible l c j b k a → StandsIn (masked l c j b) (masked l c k a)
    shown (itself {k = k} {a = a} h e f) =
        let z : masked l c k a ≡ masked l c j b = ap (λ (i : ℕ). masked l c i a) e ∙ ap (masked l c j) f in
        rw z (in_itself (masked l c j b))
    shown (below {k = k} {p = p} {ks = ks} {t = t} h e w) = rw (masked_node l c k p ks t h e) (behind (p ∷ []) (shown_among w))

    shown_among : {ks : List ℕ} {t : Codes} → VisibleAmong l c j b ks t → StandsIn (masked l c j b) (masked_all l c ks t)
    shown_among (in_first {k = k} {ks = ks} {a = a} {t = t} w) = rw (all_cons l c k ks a t) (before_more (masked_all l c ks t) (shown w))
    shown_among (in_later {k = k} {ks = ks} {a = a} {t = t} w) = rw (all_cons l c k ks a t) (behind (masked l c k a) (shown_among w))

-- Where nothing is hidden the masked bytes are the block's own.
module _ (l : Language) (c : Card) where
  mutual
    unfolding write write_all

    own : {k : ℕ} {a : Code} → Open l c k a → masked l c k a ≡ write tree a
    own (open_token {k = k} {v = v} h) = masked_token l c k v h
    own (open_production {k = k} {p = p} {ks = ks} {t = t} h e w) = masked_node l c k p ks t h e ∙ ap (λ (u : List ℕ). p ∷ u) (own_all w)

    own_all : {ks : List ℕ} {t : Codes} → OpenAll l c ks t → masked_all l c ks t ≡ write_all tree t
    own_all open_nil = all_nil l c []
    own_all (open_cons {k = k} {ks = ks} {a = a} {t = t} h w) =
        all_cons l c k ks a t ∙ (ap (λ (u : List ℕ). u ++ masked_all l c ks t) (own h) ∙ ap (λ (u : List ℕ). write tree a ++ u) (own_all w))

pub visible_is_shown : VisibleIsShown
visible_is_shown l c root plan kind block w = (shown l c kind block w, λ h. own l c h)

-- Equal masked bytes, with whatever follows, are those of trees that agree.
head_same : {x y : ℕ} {u v : List ℕ} → x ∷ u ≡ y ∷ v → (x ≡ y) × (u ≡ v)
head_same e = (cc, cc)

value_same : (v w : ℕ) {x y : List ℕ} → two_bytes v ++ x ≡ two_bytes w ++ y → (v ≡ w) × (x ≡ y)
value_same v w e =
    let a = head_same e in
    let b = head_same a.1 in
    (sym (div-add-mod' v 256) ∙ (ap (λ (q : ℕ). q * 256 + v % 256) a.0 ∙ (ap (λ (r : ℕ). w / 256 * 256 + r) b.0 ∙ div-add-mod' w 256)), b.1)

no_argument : (i j k : ℕ) {A : Type 0} → kind_at [] i j ≡ some k → A
no_argument zero j k e = none_some e
no_argument (suc i) j k e = none_some e

module _ (l : Language) (c : Card) (no_clash : (k p : ℕ) (ks : List ℕ) → arguments_of l k p ≡ some ks → range_of l k ≡ none) where
  -- The masked bytes of a and of b, with x and y behind them, are the same bytes.
  abbrev Same : ℕ → Code → Code → List ℕ → List ℕ → Type 0
  Same k a b x y = masked l c k a ++ x ≡ masked l c k b ++ y

  hidden_same : (k : ℕ) (a b : Code) (x y : List ℕ) → sees c k ≡ false → Same k a b x y → Agree l c k a b × (x ≡ y)
  hidden_same k a b x y q e =
      let z : hidden_block ++ x ≡ hidden_block ++ y =
      ap (λ (u : List ℕ). u ++ x) (sym (masked_hidden l c k a q)) ∙ (e ∙ ap (λ (u : List ℕ). u ++ y) (masked_hidden l c k b q)) in
      (both_hidden q, (head_same z).1)

  token_same : (k v w : ℕ) (x y : List ℕ) → sees c k ≡ true → Same k (token v) (token w) x y → Agree l c k (token v) (token w) × (x ≡ y)
  token_same k v w x y q e =
      let z : two_bytes v ++ x ≡ two_bytes w ++ y =
      ap (λ (u : List ℕ). u ++ x) (sym (masked_token l c k v q)) ∙ (e ∙ ap (λ (u : List ℕ). u ++ y) (masked_token l c k w q)) in
      let s = value_same v w z in
      (rw (← s.0) same_token, s.1)

  clash : (k p : ℕ) (ks : List ℕ) (r : Range) {A : Type 0} → arguments_of l k p ≡ some ks → range_of l k ≡ some r → A
  clash k p ks r e f = none_some (sym (no_clash k p ks e) ∙ f)

  names_same : (k p w : ℕ) (ks js : List ℕ) (s t : Codes) (x y : List ℕ) → sees c k ≡ true → arguments_of l k p ≡ some ks → arguments_of l k w ≡ some js
      → Same k (node k p s) (node k w t) x y → (p ≡ w) × (masked_all l c ks s ++ x ≡ masked_all l c js t ++ y)
  names_same k p w ks js s t x y q e f h =
      head_same (ap (λ (u : List ℕ). u ++ x) (sym (masked_node l c k p ks s q e)) ∙ (h ∙ ap (λ (u : List ℕ). u ++ y) (masked_node l c k w js t q f)))

  -- What is asked of arguments s of the kinds ks: other arguments with the same masked bytes agree with them.
  abbrev Tells : List ℕ → Codes → Type 0
  Tells ks s = (u : Codes) → TypedAll l [] u ks → (x y : List ℕ) → masked_all l c ks s ++ x ≡ masked_all l c ks u ++ y → AgreeAll l c ks s u × (x ≡ y)

  node_tells : (k p : ℕ) (ks : List ℕ) (s : Codes) → arguments_of l k p ≡ some ks → Tells ks s → {b : Code} → Typed l [] b k → (x y : List ℕ) → sees c k ≡ true
      → Same k (node k p s) b x y → Agree l c k (node k p s) b × (x ≡ y)
  node_tells k p ks s e r (typed_node {p = w} {t = t} {ks = js} f g) x y q h =
      let z = names_same k p w ks js s t x y q e f h in
      let same : js ≡ ks = some_inj (sym f ∙ (ap (arguments_of l k) (sym z.0) ∙ e)) in
      let a = r t (rw (← same) g) x y (z.1 ∙ ap (λ (i : List ℕ). masked_all l c i t ++ y) same) in
      (rw (← z.0) (same_production e a.0), a.1)
  node_tells k p ks s e r (typed_token {c = v} f g) x y q h = clash k p ks v e f
  node_tells k p ks s e r (typed_argument {i = i} {j = j} f) x y q h = no_argument i j k f

  token_tells : (k v : ℕ) (r : Range) → range_of l k ≡ some r → {b : Code} → Typed l [] b k → (x y : List ℕ) → sees c k ≡ true
      → Same k (token v) b x y → Agree l c k (token v) b × (x ≡ y)
  token_tells k v r e (typed_node {p = w} {ks = js} f g) x y q h = clash k w js r f e
  token_tells k v r e (typed_token {v = w} f g) x y q h = token_same k v w x y q h
  token_tells k v r e (typed_argument {i = i} {j = j} f) x y q h = no_argument i j k f

  nil_tells : {u : Codes} → TypedAll l [] u [] → (x y : List ℕ) → masked_all l c [] nil ++ x ≡ masked_all l c [] u ++ y → AgreeAll l c [] nil u × (x ≡ y)
  unfolding masked_all
  nil_tells typed_nil x y h = (agree_nil, h)

  cons_tells : (k : ℕ) (ks : List ℕ) (a : Code) (s : Codes)
      → ((b : Code) → Typed l [] b k → (x y : List ℕ) → Same k a b x y → Agree l c k a b × (x ≡ y)) → Tells ks s → {u : Codes} → TypedAll l [] u (k ∷ ks) → (x y : List ℕ)
      → masked_all l c (k ∷ ks) (cons a s) ++ x ≡ masked_all l c (k ∷ ks) u ++ y → AgreeAll l c (k ∷ ks) (cons a s) u × (x ≡ y)
  cons_tells k ks a s one more (typed_cons {a = b} {t = t} g gs) x y h =
      let z : masked l c k a ++ (masked_all l c ks s ++ x) ≡ masked l c k b ++ (masked_all l c ks t ++ y) =
      sym (append_assoc (masked l c k a) (masked_all l c ks s) x)
      ∙ (ap (λ (v : List ℕ). v ++ x) (sym (all_cons l c k ks a s))
      ∙ (h ∙ (ap (λ (v : List ℕ). v ++ y) (all_cons l c k ks b t) ∙ append_assoc (masked l c k b) (masked_all l c ks t) y))) in
      let first = one b g (masked_all l c ks s ++ x) (masked_all l c ks t ++ y) z in
      let others = more t gs x y first.1 in
      (agree_cons first.0 others.0, others.1)

  mutual
    tells : {k : ℕ} {a : Code} → Typed l [] a k → (b : Code) → Typed l [] b k → (x y : List ℕ) → Same k a b x y → Agree l c k a b × (x ≡ y)
    tells (typed_node {k = k} {p = p} {t = s} {ks = ks} e d) b g x y h =
        by_test (sees c k)
        (λ q. node_tells k p ks s e (λ u f i j n. tells_all d u f i j n) g x y q h)
        (λ q. hidden_same k (node k p s) b x y q h)
    tells (typed_token {v = v} {k = k} {c = r} e d) b g x y h =
        by_test (sees c k) (λ q. token_tells k v r e g x y q h) (λ q. hidden_same k (token v) b x y q h)
    tells (typed_argument {i = i} {j = j} {k = k} e) b g x y h = no_argument i j k e

    tells_all : {ks : List ℕ} {s : Codes} → TypedAll l [] s ks → (u : Codes) → TypedAll l [] u ks → (x y : List ℕ)
        → masked_all l c ks s ++ x ≡ masked_all l c ks u ++ y → AgreeAll l c ks s u × (x ≡ y)
    tells_all typed_nil u g x y h = nil_tells g x y h
    tells_all (typed_cons {a = a} {k = k} {t = s} {ks = ks} d ds) u g x y h =
        cons_tells k ks a s (λ b f i j n. tells d b f i j n) (λ v f i j n. tells_all ds v f i j n) g x y h

pub mask_tells_the_rest : MaskTellsTheRest
mask_tells_the_rest language root first second l c s t el es et h =
    let z : masked l c root s ++ [] ≡ masked l c root t ++ [] = ap (λ (u : List ℕ). u ++ []) h in
    (tells l c (apart l (language_good language l el).1.apart) (tree_right l root first s es).1.0 t (tree_right l root second t et).1.0 [] [] z).0
