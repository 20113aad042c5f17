-- A code that is read in a language is read alike in a larger one.
use Prim.Native.Nat.{ℕ, zero, suc, ◌+◌, ◌*◌}
use mathlib.Core.Path.{◌≡◌, refl}
use mathlib.Core.Bool.{Bool, true, false}
use mathlib.Core.List.{List, [], ◌∷◌}
use mathlib.Core.Option.{Option, none, some}
use native.Mathlib.Omega.{arith}
use lib.Dec.{eqb}
use Rattle.format_fields.proofs.Truth.{Mem}
use Rattle.format_fields.proofs.Keyed.{Rising}
use Rattle.format_language.specs.Language.{Entry, Language, entry_key, Range, in_range, range_within, range_of, arguments_of, clashes}
use Rattle.format_language.proofs.Lookup.{range_mem, arguments_mem, mem_range, mem_arguments, clashes_none}
use Rattle.format_language.proofs.Ranges.{within_itself, value_within}
use Rattle.tree_reader.specs.Code.{Code, token, Codes}
use Rattle.tree_reader.specs.Typing.{Uses, Typed, TypedAll, typed_node, typed_token, typed_argument, typed_nil, typed_cons}
use Rattle.tree_reader.specs.Syntax.{code, Read, done, deep, broken, and_then, read_all, read_operands, read_node, read_token, read_use, read_code_level, read_level, current, past_levels, read_by, read}
use Rattle.tree_reader.proofs.RoundTrip.{Apart}

-- A language with all productions of another, and for each class of it a class of that kind that contains its range.
pub record Larger (l m : Language) : Type 0 where
  pub classes : (k : ℕ) (c : Range) → range_of l k ≡ some c → (d : Range) × (range_of m k ≡ some d) × (range_within c d ≡ true)
  pub productions : (k p : ℕ) (ks : List ℕ) → arguments_of l k p ≡ some ks → arguments_of m k p ≡ some ks

pub larger : (l m : Language) → Rising entry_key m → ((a : Entry) → Mem a l → Mem a m) → Larger l m
larger l m rises h = record {
  classes = λ k c e. (c, mem_range m rises k c (h _ (range_mem l k c e)), within_itself c);
  productions = λ k p ks e. mem_arguments m rises k p ks (h _ (arguments_mem l k p ks e));
}

-- A language in which no class is a result has its classes and productions apart.
pub apart : (l : Language) → clashes l l ≡ false → Apart l
apart l e k p ks q = go (range_of l k) refl
  where
    go : (o : Option Range) → range_of l k ≡ o → o ≡ none
    go none f = refl
    go (some c) f = absurd (clashes_none l l e k c p ks (range_mem l k c f) (arguments_mem l k p ks q))

module _ {l m : Language} (w : Larger l m) where
  mutual
    pub typed_larger : {r : Uses} {a : Code} {k : ℕ} → Typed l r a k → Typed m r a k
    typed_larger (typed_node e h) = typed_node (w.productions _ _ _ e) (typed_larger_all h)
    typed_larger (typed_token {v = v} {c = c} e h) = let d = w.classes _ c e in typed_token d.1 (value_within c d.0 d.2 v h)
    typed_larger (typed_argument e) = typed_argument e

    pub typed_larger_all : {r : Uses} {t : Codes} {ks : List ℕ} → TypedAll l r t ks → TypedAll m r t ks
    typed_larger_all typed_nil = typed_nil
    typed_larger_all (typed_cons h hs) = typed_cons (typed_larger h) (typed_larger_all hs)

-- The second gives what the first gives.
pub data Keeps {A : Type 0} : Read A → Read A → Type 0 where
  keeps_done : {a : A} {r : List ℕ} → Keeps (done a r) (done a r)
  keeps_deep : {o : Read A} → Keeps deep o
  keeps_broken : {o : Read A} → Keeps broken o

pub keeps_same : {A : Type 0} (o : Read A) → Keeps o o
keeps_same (done a r) = keeps_done
keeps_same deep = keeps_deep
keeps_same broken = keeps_broken

then_keeps : {A B : Type 0} {o p : Read A} (f g : A → List ℕ → Read B) → Keeps o p → ((a : A) (r : List ℕ) → Keeps (f a r) (g a r))
    → Keeps (and_then o f) (and_then p g)
then_keeps f g (keeps_done {a = a} {r = r}) h = h a r
then_keeps f g keeps_deep h = keeps_deep
then_keeps f g keeps_broken h = keeps_broken

-- A value that is read in a range is read in one that contains it.
wider_keeps : (c d : Range) → range_within c d ≡ true → (s : List ℕ) → Keeps (read_token (some c) s) (read_token (some d) s)
unfolding read_token
wider_keeps c d h [] = keeps_broken
wider_keeps c d h (x ∷ []) = keeps_broken
wider_keeps c d h (x ∷ y ∷ s) = go (in_range c (x * 256 + y)) (value_within c d h (x * 256 + y))
  where
    go : (b : Bool) → (b ≡ true → in_range d (x * 256 + y) ≡ true) → Keeps {A = Code}
        (elim b [ true ↦ done (token (x * 256 + y)) s | false ↦ broken ])
        (elim (in_range d (x * 256 + y)) [ true ↦ done (token (x * 256 + y)) s | false ↦ broken ])
    go true k = rw (k refl) keeps_done
    go false k = keeps_broken

-- A token, by the class of its kind in either.
module _ {l m : Language} (w : Larger l m) where
  token_keeps : (k : ℕ) (s : List ℕ) (o : Option Range) → range_of l k ≡ o → Keeps (read_token o s) (read_token (range_of m k) s)
  unfolding read_token
  token_keeps k s none e = keeps_broken
  token_keeps k s (some c) e = let d = w.classes k c e in rw d.1 (wider_keeps c d.0 d.2 s)

module _ {l m : Language} (w : Larger l m) (f g : ℕ → List ℕ → Read Code) (h : (k : ℕ) (s : List ℕ) → Keeps (f k s) (g k s)) where
  all_keeps : (ks s : List ℕ) → Keeps (read_all f ks s) (read_all g ks s)
  unfolding read_all
  all_keeps [] s = keeps_done
  all_keeps (k ∷ ks) s = then_keeps _ _ (h k s) (λ a r. then_keeps _ _ (all_keeps ks r) (λ t u. keeps_done))

  operands_keep : (k p : ℕ) (s : List ℕ) (o : Option (List ℕ)) → arguments_of l k p ≡ o
      → Keeps (read_operands f k p o s) (read_operands g k p (arguments_of m k p) s)
  unfolding read_operands
  operands_keep k p s none e = keeps_broken
  operands_keep k p s (some ks) e = rw (w.productions k p ks e) (then_keeps _ _ (all_keeps ks s) (λ t u. keeps_done))

  node_keeps : (k : ℕ) (s : List ℕ) → Keeps (read_node f l k s) (read_node g m k s)
  unfolding read_node
  node_keeps k [] = keeps_broken
  node_keeps k (p ∷ s) = operands_keep k p s (arguments_of l k p) refl

  level_keeps : (uses : Uses) (k : ℕ) (s : List ℕ) → Keeps (read_code_level f l uses k s) (read_code_level g m uses k s)
  unfolding read_code_level
  level_keeps uses k [] = keeps_broken
  level_keeps uses k (b ∷ s) = go (eqb b 1) (eqb b 2)
    where
      go : (x y : Bool) → Keeps {A = Code}
          (elim x [ true ↦ read_node f l k s | false ↦ elim y [ true ↦ read_token (range_of l k) s | false ↦ read_use uses k b s ] ])
          (elim x [ true ↦ read_node g m k s | false ↦ elim y [ true ↦ read_token (range_of m k) s | false ↦ read_use uses k b s ] ])
      go true y = node_keeps k s
      go false true = token_keeps w k s (range_of l k) refl
      go false false = keeps_same (read_use uses k b s)

-- What is read past the last level.
past_keeps : {l m : Language} → Larger l m → (k : ℕ) (s : List ℕ) → Keeps (past_levels current code l k s) (past_levels current code m k s)
unfolding past_levels
past_keeps w k [] = keeps_deep
past_keeps {l} {m} w k (b ∷ s) = go (eqb b 2)
  where
    go : (t : Bool) → Keeps {A = Code} (elim t [ true ↦ read_token (range_of l k) s | false ↦ deep ]) (elim t [ true ↦ read_token (range_of m k) s | false ↦ deep ])
    go true = token_keeps w k s (range_of l k) refl
    go false = keeps_deep

-- A code read in a language is read alike in a larger one.
pub read_keeps : {l m : Language} → Larger l m → (uses : Uses) (n k : ℕ) (s : List ℕ)
    → Keeps (read code l uses n k s) (read code m uses n k s)
unfolding read_by read_level
read_keeps w uses zero k s = past_keeps w k s
read_keeps w uses (suc n) k s = level_keeps w _ _ (λ j r. read_keeps w uses n j r) uses k s

-- Too deep, or broken, is not done.
pub deep_done : {A B : Type 0} {a : A} {r : List ℕ} → deep ≡ done a r → B
deep_done {A} {a = a} {r} e = absurd (clash a r e)
  where
    clash : (a : A) (r : List ℕ) → deep ≡ done a r → ⊥
    clash a r e = let z : ◌≡◌ {A = ℕ} 0 1 = cc in omega arith

pub broken_done : {A B : Type 0} {a : A} {r : List ℕ} → broken ≡ done a r → B
broken_done {A} {a = a} {r} e = absurd (clash a r e)
  where
    clash : (a : A) (r : List ℕ) → broken ≡ done a r → ⊥
    clash a r e = let z : ◌≡◌ {A = ℕ} 0 1 = cc in omega arith

pub keeps : {A : Type 0} {o p : Read A} {a : A} {r : List ℕ} → Keeps o p → o ≡ done a r → p ≡ done a r
keeps keeps_done e = e
keeps keeps_deep e = deep_done e
keeps keeps_broken e = broken_done e
