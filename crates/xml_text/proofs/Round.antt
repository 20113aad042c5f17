-- Reading an export gives the tree, and what was read is the export of the tree that it gave.
use Prim.Native.Nat.{ℕ, zero, suc, ◌≤◌}
use mathlib.Core.Path.{◌≡◌, refl, sym, ap, ◌∙◌}
use mathlib.Core.Bool.{true}
use mathlib.Core.List.{List, [], ◌∷◌, ◌++◌, append_assoc}
use mathlib.Core.Option.{Option, none, some}
use native.Mathlib.Omega.{arith}
use Rattle.format_fields.proofs.Truth.{by_test, none_some}
use Rattle.format_language.specs.Language.{Language, Range, range_of, arguments_of, in_range}
use Rattle.tree_reader.specs.Code.{Code, node, token, Codes, nil, cons, levels, levels_all}
use Rattle.tree_reader.specs.Typing.{kind_at, Typed, TypedAll, typed_node, typed_token, typed_argument, typed_nil, typed_cons}
use Rattle.tree_reader.specs.Syntax.{Read, done, deep, read_all}
use Rattle.tree_reader.proofs.RoundTrip.{Apart}
use Rattle.format_fields.specs.Decimal.{decimal}
use Rattle.xml_text.specs.Text.{open_node, close_node, open_token, close_token, point, tag_end, node_tag, token_tag, kinds_of, export, export_all}
use Rattle.xml_text.specs.Import.{is_digit, read_word, read_number, read_named, read_opening, read_closing, read_token_tag, read_token, read_operands, read_element, read_text}
use Rattle.xml_text.proofs.Decimal.{Stops, same_done, deep_not, broken_not, then_done, number_round, number_sound, word_round, word_sound, named_round, named_sound}

-- Tags, with what stands behind them.
pub node_tag_lem : (w : List ℕ) (k p : ℕ) (s : List ℕ) → node_tag w k p ++ s ≡ w ++ (decimal k ++ (46 ∷ (decimal p ++ (62 ∷ s))))
unfolding node_tag
node_tag_lem w k p s = simp append_assoc

pub token_tag_lem : (w : List ℕ) (k : ℕ) (s : List ℕ) → token_tag w k ++ s ≡ w ++ (decimal k ++ (62 ∷ s))
unfolding token_tag
token_tag_lem w k s = simp append_assoc

-- Tags that were written are read.
pub stop_point : (s : List ℕ) → Stops (46 ∷ s)
unfolding is_digit
stop_point s = refl

pub stop_end : (s : List ℕ) → Stops (62 ∷ s)
unfolding is_digit
stop_end s = refl

opening_round : (k p : ℕ) (s : List ℕ) → read_opening k (node_tag open_node k p ++ s) ≡ done p s
unfolding read_opening
opening_round k p s =
    rw (
      node_tag_lem open_node k p s,
      named_round open_node k (46 ∷ (decimal p ++ (62 ∷ s))) (stop_point (decimal p ++ (62 ∷ s))),
      word_round point (decimal p ++ (62 ∷ s)),
      number_round p (62 ∷ s) (stop_end s),
      word_round tag_end s,
    )

pub closing_round : (k p : ℕ) (s : List ℕ) → read_closing k p (node_tag close_node k p ++ s) ≡ done tt s
unfolding read_closing
closing_round k p s =
    rw (
      node_tag_lem close_node k p s,
      named_round close_node k (46 ∷ (decimal p ++ (62 ∷ s))) (stop_point (decimal p ++ (62 ∷ s))),
      named_round point p (62 ∷ s) (stop_end s),
      word_round tag_end s,
    )

pub tag_round : (w : List ℕ) (k : ℕ) (s : List ℕ) → read_token_tag w k (token_tag w k ++ s) ≡ done tt s
unfolding read_token_tag
tag_round w k s = rw (token_tag_lem w k s, named_round w k (62 ∷ s) (stop_end s), word_round tag_end s)

-- What follows a value is no digit.
pub stop_tag : (k : ℕ) (s : List ℕ) → Stops (token_tag close_token k ++ s)
unfolding token_tag is_digit
stop_tag k s = refl

token_round : (k v : ℕ) (c : Range) (s : List ℕ) → in_range c v ≡ true
    → read_token k c (token_tag open_token k ++ (decimal v ++ (token_tag close_token k ++ s))) ≡ done (token v) s
unfolding read_token
token_round k v c s h =
    rw (tag_round open_token k (decimal v ++ (token_tag close_token k ++ s)), number_round v (token_tag close_token k ++ s) (stop_tag k s))
    (cc (tag_round close_token k s))

kinds_known : (l : Language) (k p : ℕ) (ks : List ℕ) → arguments_of l k p ≡ some ks → kinds_of l k p ≡ ks
unfolding kinds_of
kinds_known l k p ks e = rw e

pub no_kind : (i j : ℕ) {k : ℕ} {A : Type 0} → kind_at [] i j ≡ some k → A
no_kind zero j e = none_some e
no_kind (suc i) j e = none_some e

module _ (l : Language) where
  pub class_text : (n k : ℕ) (c : Range) (s : List ℕ) → range_of l k ≡ some c → read_text l n k s ≡ read_token k c s
  unfolding read_text
  class_text zero k c s e = cc
  class_text (suc n) k c s e = cc

  pub no_class : (n k : ℕ) (s : List ℕ) → range_of l k ≡ none → read_text l (suc n) k s ≡ read_element (read_text l n) l k s
  unfolding read_text
  no_class n k s e = cc

  token_text : (n k v : ℕ) (c : Range) (r : List ℕ) → range_of l k ≡ some c → in_range c v ≡ true → read_text l n k (export l k (token v) ++ r) ≡ done (token v) r
  unfolding export
  token_text n k v c r e h = rw (append_assoc, append_assoc) (class_text n k c _ e ∙ token_round k v c r h)

  element_text : (n k p : ℕ) (ks : List ℕ) (t : Codes) (s r : List ℕ) → range_of l k ≡ none → arguments_of l k p ≡ some ks
      → read_all (read_text l n) ks (s ++ (node_tag close_node k p ++ r)) ≡ done t (node_tag close_node k p ++ r)
      → read_text l (suc n) k (node_tag open_node k p ++ (s ++ (node_tag close_node k p ++ r))) ≡ done (node k p t) r
  unfolding read_element read_operands
  element_text n k p ks t s r d e h =
      no_class n k _ d ∙ rw (opening_round k p (s ++ (node_tag close_node k p ++ r)), e, h, closing_round k p r)

  pub node_parts : (j k p : ℕ) (t : Codes) (ks r : List ℕ) → arguments_of l k p ≡ some ks
      → export l j (node k p t) ++ r ≡ node_tag open_node k p ++ (export_all l ks t ++ (node_tag close_node k p ++ r))
  unfolding export
  node_parts j k p t ks r e = rw (kinds_known l k p ks e, append_assoc, append_assoc)

  module _ (apart : Apart l) where
    mutual
      unfolding levels export_all read_all

      -- Reading an export gives the tree.
      pub round : {a : Code} {k : ℕ} → Typed l [] a k → (n : ℕ) (r : List ℕ) → levels a ≤ n → read_text l n k (export l k a ++ r) ≡ done a r
      round (typed_node e h) zero r d = absurd (omega arith)
      round (typed_node {k = k} {p = p} {t = t} {ks = ks} e h) (suc n) r d =
          rw (node_parts k k p t ks r e)
          (element_text n k p ks t (export_all l ks t) r (apart k p ks e) e (round_all h n (node_tag close_node k p ++ r) (omega arith)))
      round (typed_token {v = v} {k = k} {c = c} e h) n r d = token_text n k v c r e h
      round (typed_argument {i = i} {j = j} e) n r d = no_kind i j e

      pub round_all : {t : Codes} {ks : List ℕ} → TypedAll l [] t ks → (n : ℕ) (r : List ℕ) → levels_all t ≤ n
          → read_all (read_text l n) ks (export_all l ks t ++ r) ≡ done t r
      round_all typed_nil n r d = refl
      round_all (typed_cons {a = a} {k = k} {t = t} {ks = ks} h hs) n r d =
          rw (append_assoc, round h n (export_all l ks t ++ r) (omega arith), round_all hs n r (omega arith))

-- Tags that were read are what is written.
pub opening_sound : (k : ℕ) (s : List ℕ) (p : ℕ) (r : List ℕ) → read_opening k s ≡ done p r → s ≡ node_tag open_node k p ++ r
unfolding read_opening
opening_sound k s p r e =
    let a = then_done (read_named open_node k s) _ p r e in
    let b = then_done (read_word point a.1) _ p r a.3 in
    let c = then_done (read_number b.1) _ p r b.3 in
    let d = then_done (read_word tag_end c.1) _ p r c.3 in
    let z = same_done c.0 p d.1 r d.3 in
    let y : d.1 ≡ r = z.1 in
    named_sound open_node k s a.1 a.2
    ∙ (ap (λ (u : List ℕ). open_node ++ (decimal k ++ u)) (word_sound point a.1 b.1 b.2
    ∙ ap (λ (u : List ℕ). 46 ∷ u) (number_sound b.1 c.0 c.1 c.2 ∙ (ap (λ (v : ℕ). decimal v ++ c.1) z.0
    ∙ ap (λ (u : List ℕ). decimal p ++ u) (word_sound tag_end c.1 d.1 d.2 ∙ ap (λ (u : List ℕ). 62 ∷ u) y))))
    ∙ sym (node_tag_lem open_node k p r))

pub closing_sound : (k p : ℕ) (s r : List ℕ) {u : Unit {0}} → read_closing k p s ≡ done u r → s ≡ node_tag close_node k p ++ r
unfolding read_closing
closing_sound k p s r {u} e =
    let a = then_done (read_named close_node k s) _ u r e in
    let b = then_done (read_named point p a.1) _ u r a.3 in
    named_sound close_node k s a.1 a.2
    ∙ (ap (λ (u : List ℕ). close_node ++ (decimal k ++ u)) (named_sound point p a.1 b.1 b.2
    ∙ ap (λ (u : List ℕ). 46 ∷ (decimal p ++ u)) (word_sound tag_end b.1 r b.3))
    ∙ sym (node_tag_lem close_node k p r))

pub tag_sound : (w : List ℕ) (k : ℕ) (s r : List ℕ) {u : Unit {0}} → read_token_tag w k s ≡ done u r → s ≡ token_tag w k ++ r
unfolding read_token_tag
tag_sound w k s r {u} e =
    let a = then_done (read_named w k s) _ u r e in
    named_sound w k s a.1 a.2
    ∙ (ap (λ (u : List ℕ). w ++ (decimal k ++ u)) (word_sound tag_end a.1 r a.3) ∙ sym (token_tag_lem w k r))

module _ (l : Language) where
  -- What was read of kind k off the front of s is right.
  abbrev pub Right : ℕ → ℕ → List ℕ → Code → List ℕ → Type 0
  Right n k s a r = Typed l [] a k × (levels a ≤ n) × (s ≡ export l k a ++ r)

  token_sound : (n k : ℕ) (c : Range) (s : List ℕ) (a : Code) (r : List ℕ) → range_of l k ≡ some c → read_token k c s ≡ done a r → Right n k s a r
  unfolding read_token export levels
  token_sound n k c s a r h e =
      let x = then_done (read_token_tag open_token k s) _ a r e in
      let y = then_done (read_number x.1) _ a r x.3 in
      by_test (in_range c y.0)
      (λ d.
      let z = then_done (read_token_tag close_token k y.1) _ a r (rw d at y.3) in
      let w = same_done (token y.0) a z.1 r z.3 in
      let q : z.1 ≡ r = w.1 in
      rw (← w.0) (
        typed_token h d,
        omega arith,
        tag_sound open_token k s x.1 x.2
            ∙ (ap (λ (u : List ℕ). token_tag open_token k ++ u) (number_sound x.1 y.0 y.1 y.2
            ∙ ap (λ (u : List ℕ). decimal y.0 ++ u) (tag_sound close_token k y.1 z.1 z.2 ∙ ap (λ (u : List ℕ). token_tag close_token k ++ u) q))
            ∙ sym (rw (append_assoc, append_assoc))),
      ))
      (λ d. broken_not (rw d at y.3))

  module _ (n : ℕ) (reads : ℕ → List ℕ → Read Code) (right : (k : ℕ) (s : List ℕ) (a : Code) (r : List ℕ) → reads k s ≡ done a r → Right n k s a r) where
    all_sound : (ks s : List ℕ) (t : Codes) (r : List ℕ) → read_all reads ks s ≡ done t r
        → TypedAll l [] t ks × (levels_all t ≤ n) × (s ≡ export_all l ks t ++ r)
    unfolding read_all export_all levels
    all_sound [] s t r e = let w = same_done nil t s r e in rw (← w.0) (typed_nil, omega arith, w.1)
    all_sound (k ∷ ks) s t r e =
        let x = then_done (reads k s) _ t r e in
        let y = then_done (read_all reads ks x.1) _ t r x.3 in
        let w = same_done (cons x.0 y.0) t y.1 r y.3 in
        let q : y.1 ≡ r = w.1 in
        let g = right k s x.0 x.1 x.2 in
        let h = all_sound ks x.1 y.0 y.1 y.2 in
        rw (← w.0) (
          typed_cons g.0 h.0,
          omega (arith, g.1, h.1),
          g.2 ∙ (ap (λ (u : List ℕ). export l k x.0 ++ u) (h.2 ∙ ap (λ (u : List ℕ). export_all l ks y.0 ++ u) q) ∙ sym (append_assoc (export l k x.0) (export_all l ks y.0) r)),
        )

    operands_sound : (k p : ℕ) (o : Option (List ℕ)) (s : List ℕ) (a : Code) (r : List ℕ) → arguments_of l k p ≡ o → read_operands reads k p o s ≡ done a r
        → Right (suc n) k (node_tag open_node k p ++ s) a r
    unfolding read_operands levels
    operands_sound k p none s a r h e = broken_not e
    operands_sound k p (some ks) s a r h e =
        let x = then_done (read_all reads ks s) _ a r e in
        let y = then_done (read_closing k p x.1) _ a r x.3 in
        let w = same_done (node k p x.0) a y.1 r y.3 in
        let q : y.1 ≡ r = w.1 in
        let g = all_sound ks s x.0 x.1 x.2 in
        rw (← w.0) (
          typed_node h g.0,
          omega (arith, g.1),
          ap (λ (u : List ℕ). node_tag open_node k p ++ u) (g.2 ∙ ap (λ (u : List ℕ). export_all l ks x.0 ++ u) (closing_sound k p x.1 y.1 y.2 ∙ ap (λ (u : List ℕ). node_tag close_node k p ++ u) q))
              ∙ sym (node_parts l k k p x.0 ks r h),
        )

    element_sound : (k : ℕ) (s : List ℕ) (a : Code) (r : List ℕ) → read_element reads l k s ≡ done a r → Right (suc n) k s a r
    unfolding read_element
    element_sound k s a r e =
        let x = then_done (read_opening k s) _ a r e in
        rw (opening_sound k s x.0 x.1 x.2) (operands_sound k x.0 (arguments_of l k x.0) x.1 a r refl x.3)

  -- What was read is the export of the tree that it gave, a legal tree within the levels.
  pub sound : (n k : ℕ) (s : List ℕ) (a : Code) (r : List ℕ) → read_text l n k s ≡ done a r → Right n k s a r
  unfolding read_text
  sound zero k s a r e = go (range_of l k) refl e
    where
      go : (o : Option Range) → range_of l k ≡ o → (elim o [ some c ↦ read_token k c s | none ↦ deep ]) ≡ done a r → Right 0 k s a r
      go none h f = deep_not f
      go (some c) h f = token_sound 0 k c s a r h f
  sound (suc n) k s a r e = go (λ f. element_sound n (read_text l n) (λ j u b v g. sound n j u b v g) k s a r f) (range_of l k) refl e
    where
      go : (read_element (read_text l n) l k s ≡ done a r → Right (suc n) k s a r) → (o : Option Range) → range_of l k ≡ o → (elim o [ some c ↦ read_token k c s | none ↦ read_element (read_text l n) l k s ]) ≡ done a r
          → Right (suc n) k s a r
      go below none h f = below f
      go below (some c) h f = token_sound (suc n) k c s a r h f
