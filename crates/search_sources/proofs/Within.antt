-- The trees within the levels are exactly the legal ones.
use Prim.Native.Nat.{ℕ, zero, suc, ◌+◌, ◌-◌, ◌≤◌}
use mathlib.Core.Path.{◌≡◌, refl}
use mathlib.Core.Logic.{inl, inr}
use mathlib.Core.Bool.{true}
use mathlib.Core.List.{List, [], ◌∷◌, map}
use mathlib.Core.Option.{Option, none, some}
use native.Mathlib.Omega.{arith}
use lib.Dec.{leb}
use borrow.Author.Tests.{leb-true}
use Rattle.format_fields.specs.Lists.{keep, count_up}
use Rattle.format_fields.proofs.Truth.{Mem, and_both, keep_cases, mem_keep, mem_map, map_cases, concat_cases, mem_concat, mem_count}
use Rattle.format_language.specs.Language.{Language, Range, range_of, arguments_of, in_range}
use Rattle.tree_reader.specs.Code.{Code, node, token, Codes, cons, levels, levels_all}
use Rattle.tree_reader.specs.Typing.{Typed, TypedAll, typed_node, typed_token, typed_argument, typed_nil, typed_cons}
use Rattle.tree_reader.proofs.RoundTrip.{Apart}
use Rattle.search_sources.proofs.Answers.{Named, no_kind}
use Rattle.search_sources.specs.Trees.{tokens, rows, trees_named, trees_over, or_tokens, trees_within}

-- Tokens.
tokens_legal : (l : Language) (k : ℕ) (c : Range) (t : Code) → range_of l k ≡ some c → Mem t (tokens c) → Typed l [] t k × (levels t ≤ 0)
unfolding tokens levels
tokens_legal l k c t e m =
    let z = map_cases token t (keep (in_range c) (count_up (c.high + 1 - c.low) c.low)) m in
    let y = keep_cases (in_range c) z.0 (count_up (c.high + 1 - c.low) c.low) z.1 in
    rw z.2 (typed_token e y.1, omega arith)

range_bounds : (c : Range) (v : ℕ) → in_range c v ≡ true → (c.low ≤ v) × (v ≤ c.high)
unfolding in_range
range_bounds c v e =
    let z = and_both (leb c.low v) _ e in
    let y = and_both (leb v c.high) _ z.1 in
    (leb-true c.low v z.0, leb-true v c.high y.0)

legal_tokens : (c : Range) (v : ℕ) → in_range c v ≡ true → Mem (token v) (tokens c)
unfolding tokens
legal_tokens c v e =
    let b = range_bounds c v e in
    mem_map token v (keep (in_range c) (count_up (c.high + 1 - c.low) c.low)) (mem_keep (in_range c) v (count_up (c.high + 1 - c.low) c.low) (mem_count (c.high + 1 - c.low) c.low v b.0 (omega (arith, b.0, b.1))) e)

-- Rows of operands.
module _ (l : Language) (n : ℕ) (trees : ℕ → List Code) (sound : (k : ℕ) (t : Code) → Mem t (trees k) → Typed l [] t k × (levels t ≤ n)) where
  rows_legal : (ks : List ℕ) (s : Codes) → Mem s (rows trees ks) → TypedAll l [] s ks × (levels_all s ≤ n)
  unfolding rows levels
  rows_legal [] s (inl e) = rw e (typed_nil, omega arith)
  rows_legal (k ∷ ks) s m =
      let z = concat_cases (λ a. map (cons a) (rows trees ks)) s (trees k) m in
      let y = map_cases (cons z.0) s (rows trees ks) z.2 in
      let h = sound k z.0 z.1 in
      let g = rows_legal ks y.0 y.1 in
      let w = h.1 in
      let v = g.1 in
      rw y.2 (typed_cons h.0 g.0, omega arith)
  rows_legal [] s (inr x'') = elim x'' [ ]

  named_legal : (k p : ℕ) (o : Option (List ℕ)) (t : Code) → arguments_of l k p ≡ o → Mem t (trees_named trees k p o) → Typed l [] t k × (levels t ≤ suc n)
  unfolding trees_named levels
  named_legal k p none t e m = absurd m
  named_legal k p (some ks) t e m =
      let z = map_cases (node k p) t (rows trees ks) m in
      let g = rows_legal ks z.0 z.1 in
      let w = g.1 in
      rw z.2 (typed_node e g.0, omega arith)

  over_legal : (k : ℕ) (t : Code) → Mem t (trees_over trees l k) → Typed l [] t k × (levels t ≤ suc n)
  unfolding trees_over
  over_legal k t m =
      let z = concat_cases (λ p. trees_named trees k p (arguments_of l k p)) t (count_up 256 0) m in
      named_legal k z.0 (arguments_of l k z.0) t refl z.2

module _ (l : Language) (n : ℕ) (trees : ℕ → List Code) (complete : (t : Code) (k : ℕ) → Typed l [] t k → levels t ≤ n → Mem t (trees k)) where
  legal_rows : {s : Codes} {ks : List ℕ} → TypedAll l [] s ks → levels_all s ≤ n → Mem s (rows trees ks)
  unfolding rows levels
  legal_rows typed_nil w = inl refl
  legal_rows (typed_cons {a = a} {k = k} {t = t} {ks = ks} h hs) w =
      mem_concat (λ b. map (cons b) (rows trees ks)) a (cons a t) (trees k) (complete a k h (omega arith)) (mem_map (cons a) t (rows trees ks) (legal_rows hs (omega arith)))

  legal_over : (named : Named l) (k p : ℕ) (s : Codes) (ks : List ℕ) → arguments_of l k p ≡ some ks → TypedAll l [] s ks → levels_all s ≤ n → Mem (node k p s) (trees_over trees l k)
  unfolding trees_over trees_named
  legal_over named k p s ks e h w =
      mem_concat (λ q. trees_named trees k q (arguments_of l k q)) p (node k p s) (count_up 256 0)
      (mem_count 256 0 p (omega arith) (let z = named k p ks e in omega arith)) (rw e (mem_map (node k p) s (rows trees ks) (legal_rows h w)))

-- Both ways.
module _ (l : Language) where
  kind_legal : (n k : ℕ) (o : Option Range) (x : List Code) (t : Code) → range_of l k ≡ o → (Mem t x → Typed l [] t k × (levels t ≤ n)) → Mem t (or_tokens o x)
      → Typed l [] t k × (levels t ≤ n)
  unfolding or_tokens
  kind_legal n k none x t e h m = h m
  kind_legal n k (some c) x t e h m = let z = tokens_legal l k c t e m in (z.0, omega (arith, z.1))

  pub within_legal : (n k : ℕ) (t : Code) → Mem t (trees_within l n k) → Typed l [] t k × (levels t ≤ n)
  unfolding trees_within
  within_legal zero k t m = kind_legal 0 k (range_of l k) [] t refl (λ z. absurd z) m
  within_legal (suc n) k t m =
      kind_legal (suc n) k (range_of l k) (trees_over (trees_within l n) l k) t refl (over_legal l n (trees_within l n) (λ j s q. within_legal n j s q) k t) m

  module _ (apart : Apart l) (named : Named l) where
    token_in : (k v : ℕ) (c : Range) (x : List Code) → range_of l k ≡ some c → in_range c v ≡ true → Mem (token v) (or_tokens (range_of l k) x)
    unfolding or_tokens
    token_in k v c x e h = rw e (legal_tokens c v h)

    node_in : (k p : ℕ) (s : Codes) (ks : List ℕ) (x : List Code) → arguments_of l k p ≡ some ks → Mem (node k p s) x → Mem (node k p s) (or_tokens (range_of l k) x)
    unfolding or_tokens
    node_in k p s ks x e m = rw (apart k p ks e) m

    pub legal_within : (n : ℕ) {t : Code} {k : ℕ} → Typed l [] t k → levels t ≤ n → Mem t (trees_within l n k)
    unfolding trees_within levels
    legal_within zero (typed_node e h) w = absurd (omega arith)
    legal_within zero (typed_token {v = v} {k = k} {c = c} e h) w = token_in k v c [] e h
    legal_within zero (typed_argument {i = i} {j = j} e) w = no_kind i j e
    legal_within (suc n) (typed_node {k = k} {p = p} {t = s} {ks = ks} e h) w =
        node_in k p s ks (trees_over (trees_within l n) l k) e
        (legal_over l n (trees_within l n) (λ u j a b. legal_within n a b) named k p s ks e h (omega arith))
    legal_within (suc n) (typed_token {v = v} {k = k} {c = c} e h) w = token_in k v c (trees_over (trees_within l n) l k) e h
    legal_within (suc n) (typed_argument {i = i} {j = j} e) w = no_kind i j e
