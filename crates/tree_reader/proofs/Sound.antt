-- What was read is typed, is within the levels, and is exactly the bytes that were consumed.
-- More levels change nothing but the refusal.
use Prim.Native.Nat.{ℕ, zero, suc, ◌+◌, ◌*◌, ◌/◌, ◌%◌, ◌≤◌}
use mathlib.Core.Path.{◌≡◌, refl, ap, ◌∙◌}
use mathlib.Core.Logic.{◌⊎◌, inl, inr}
use mathlib.Core.Bool.{Bool, true, false}
use mathlib.Core.List.{List, [], ◌∷◌, ◌++◌, append_assoc}
use mathlib.Core.Option.{Option, none, some}
use native.Mathlib.Omega.{arith}
use lib.Dec.{eqb}
use borrow.Author.Tests.{eqb-true}
use Rattle.format_fields.proofs.Truth.{false_true, by_test}
use Rattle.format_fields.proofs.Codec.{Bytes}
use Rattle.format_language.specs.Language.{Language, Range, range_of, arguments_of, in_range}
use Rattle.tree_reader.specs.Code.{Code, node, token, argument, Codes, cons, levels, levels_all}
use Rattle.tree_reader.specs.Typing.{Uses, kind_at, Typed, TypedAll, typed_node, typed_token, typed_argument, typed_nil, typed_cons}
use Rattle.tree_reader.specs.Syntax.{Syntax, tree, code, sign, write, write_all, Read, done, deep, broken, and_then, read_all, read_operands, read_node, read_token, is_the, use_of, read_argument, read_numbered, read_use, read_tree_level, read_code_level, read_level, earlier, current, past_levels, read_by, read}

-- The bytes were consumed: they are what the code is written as, and the rest.
abbrev pub Consumed : List ℕ → List ℕ → List ℕ → Type 0
Consumed s front rest = Bytes s → (s ≡ front ++ rest) × Bytes rest

-- What reading a code of kind k from s came to is right.
abbrev pub Right : Syntax → Language → Uses → ℕ → ℕ → List ℕ → Read Code → Type 0
Right x l uses n k s (done a r) = Typed l uses a k × (levels a ≤ n) × Consumed s (write x a) r
Right x l uses n k s deep = Unit {0}
Right x l uses n k s broken = Unit {0}

abbrev RightAll : Syntax → Language → Uses → ℕ → List ℕ → List ℕ → Read Codes → Type 0
RightAll x l uses n ks s (done t r) = TypedAll l uses t ks × (levels_all t ≤ n) × Consumed s (write_all x t) r
RightAll x l uses n ks s deep = Unit {0}
RightAll x l uses n ks s broken = Unit {0}

consumed_next : (s r u f g : List ℕ) → Consumed s f r → Consumed r g u → Consumed s (f ++ g) u
consumed_next s r u f g h k b = let p = h b in let q = k p.1 in (p.0 ∙ rw (q.0, append_assoc), q.1)

-- A sign in front.
consumed_sign : (x : ℕ) (s f r : List ℕ) → Consumed s f r → Consumed (x ∷ s) (x ∷ f) r
consumed_sign x s f r h b = let p = h b.1 in (ap (λ (l : List ℕ). x ∷ l) p.0, p.1)

consumed_signed : (x : Syntax) (b : ℕ) (s f r : List ℕ) → Consumed s f r → Consumed (sign x b ++ s) (sign x b ++ f) r
consumed_signed tree b s f r h = h
consumed_signed code b s f r h = consumed_sign b s f r h

-- A token is right with any levels.
module _ (x : Syntax) (l : Language) (uses : Uses) (n : ℕ) where
  token_in : (k : ℕ) (c : Range) (a b : ℕ) (s : List ℕ) → range_of l k ≡ some c → (t : Bool) → in_range c (a * 256 + b) ≡ t
      → Right x l uses n k (sign x 2 ++ a ∷ b ∷ s) (elim t [ true ↦ done (token (a * 256 + b)) s | false ↦ broken ])
  unfolding levels write
  token_in k c a b s e true q =
      (typed_token e q, omega arith, consumed_signed x 2 (a ∷ b ∷ s) ((a * 256 + b) / 256 ∷ (a * 256 + b) % 256 ∷ []) s eats)
    where
      eats : Consumed (a ∷ b ∷ s) ((a * 256 + b) / 256 ∷ (a * 256 + b) % 256 ∷ []) s
      eats h =
          let high : (a * 256 + b) / 256 ≡ a = omega (arith, h.1.0) in
          let low : (a * 256 + b) % 256 ≡ b = omega (arith, h.1.0) in
          (rw (high, low), h.1.1)
  token_in k c a b s e false q = tt

  token_right : (k : ℕ) (o : Option Range) (s : List ℕ) → range_of l k ≡ o → Right x l uses n k (sign x 2 ++ s) (read_token o s)
  unfolding read_token
  token_right k none s e = tt
  token_right k (some c) [] e = tt
  token_right k (some c) (a ∷ []) e = tt
  token_right k (some c) (a ∷ b ∷ s) e = token_in k c a b s e (in_range c (a * 256 + b)) refl

module _ (x : Syntax) (l : Language) (uses : Uses) (n : ℕ) (reads : ℕ → List ℕ → Read Code)
    (right : (k : ℕ) (s : List ℕ) → Right x l uses n k s (reads k s)) where
  cons_right : (a : Code) (k : ℕ) (ks s r : List ℕ) (o : Read Codes) → Right x l uses n k s (done a r) → RightAll x l uses n ks r o
      → RightAll x l uses n (k ∷ ks) s (and_then o λ t u. done (cons a t) u)
  unfolding levels write
  cons_right a k ks s r (done t u) h g =
      (typed_cons h.0 g.0, omega (arith, h.1, g.1), consumed_next s r u (write x a) (write_all x t) h.2 g.2)
  cons_right a k ks s r deep h g = tt
  cons_right a k ks s r broken h g = tt

  next_right : (k : ℕ) (ks s : List ℕ) (o : Read Code) → Right x l uses n k s o
      → ((r : List ℕ) → RightAll x l uses n ks r (read_all reads ks r))
      → RightAll x l uses n (k ∷ ks) s (and_then o λ a r. and_then (read_all reads ks r) λ t u. done (cons a t) u)
  next_right k ks s (done a r) h g = cons_right a k ks s r (read_all reads ks r) h (g r)
  next_right k ks s deep h g = tt
  next_right k ks s broken h g = tt

  all_right : (ks s : List ℕ) → RightAll x l uses n ks s (read_all reads ks s)
  unfolding read_all levels write
  all_right [] s = (typed_nil, omega arith, λ b. (refl, b))
  all_right (k ∷ ks) s = next_right k ks s (reads k s) (right k s) (λ r. all_right ks r)

  -- A node behind its sign.
  operands_right : (k p : ℕ) (ks s : List ℕ) (o : Read Codes) → arguments_of l k p ≡ some ks → RightAll x l uses n ks s o
      → Right x l uses (suc n) k (sign x 1 ++ p ∷ s) (and_then o λ t r. done (node k p t) r)
  unfolding levels write
  operands_right k p ks s (done t r) e g =
      (typed_node e g.0, omega (arith, g.1), consumed_signed x 1 (p ∷ s) (p ∷ write_all x t) r (consumed_sign p s (write_all x t) r g.2))
  operands_right k p ks s deep e g = tt
  operands_right k p ks s broken e g = tt

  named_right : (k p : ℕ) (s : List ℕ) (o : Option (List ℕ)) → arguments_of l k p ≡ o
      → Right x l uses (suc n) k (sign x 1 ++ p ∷ s) (read_operands reads k p o s)
  unfolding read_operands
  named_right k p s none e = tt
  named_right k p s (some ks) e = operands_right k p ks s (read_all reads ks s) e (all_right ks s)

  node_right : (k : ℕ) (s : List ℕ) → Right x l uses (suc n) k (sign x 1 ++ s) (read_node reads l k s)
  unfolding read_node
  node_right k [] = tt
  node_right k (p ∷ s) = named_right k p s (arguments_of l k p) refl

is_the_lem : (k : ℕ) (o : Option ℕ) → is_the k o ≡ true → o ≡ some k
is_the_lem k none e = false_true e
is_the_lem k (some j) e = ap some (eqb-true j k e)

use_in : (l : Language) (uses : Uses) (n k i j : ℕ) (s f : List ℕ) (t : Bool) → is_the k (kind_at uses i j) ≡ t
    → Consumed f (write code (argument i j)) s
    → Right code l uses (suc n) k f (elim t [ true ↦ done (argument i j) s | false ↦ broken ])
unfolding levels
use_in l uses n k i j s f true q e = (typed_argument (is_the_lem k (kind_at uses i j) q), omega arith, e)
use_in l uses n k i j s f false q e = tt

use_right : (l : Language) (uses : Uses) (n k i j : ℕ) (s f : List ℕ) → Consumed f (write code (argument i j)) s
    → Right code l uses (suc n) k f (use_of uses k i j s)
unfolding use_of
use_right l uses n k i j s f e = use_in l uses n k i j s f (is_the k (kind_at uses i j)) refl e

argument_right : (l : Language) (uses : Uses) (n k : ℕ) (s : List ℕ)
    → Right code l uses (suc n) k (3 ∷ s) (read_argument uses k s)
unfolding read_argument write
argument_right l uses n k [] = tt
argument_right l uses n k (i ∷ s) = use_right l uses n k i 0 s (3 ∷ i ∷ s) (λ b. (refl, b.1.1))

numbered_right : (l : Language) (uses : Uses) (n k : ℕ) (s : List ℕ)
    → Right code l uses (suc n) k (4 ∷ s) (read_numbered uses k s)
unfolding read_numbered write
numbered_right l uses n k [] = tt
numbered_right l uses n k (i ∷ []) = tt
numbered_right l uses n k (i ∷ zero ∷ s) = tt
numbered_right l uses n k (i ∷ suc j ∷ s) = use_right l uses n k i (suc j) s (4 ∷ i ∷ suc j ∷ s) (λ b. (refl, b.1.1.1))

tree_right : (l : Language) (uses : Uses) (n : ℕ) (reads : ℕ → List ℕ → Read Code)
    → ((k : ℕ) (s : List ℕ) → Right tree l uses n k s (reads k s)) → (k : ℕ) (s : List ℕ) (o : Option Range) → range_of l k ≡ o
    → Right tree l uses (suc n) k s (elim o [ some c ↦ read_token (some c) s | none ↦ read_node reads l k s ])
tree_right l uses n reads right k s none e = node_right tree l uses n reads right k s
tree_right l uses n reads right k s (some c) e = token_right tree l uses (suc n) k (some c) s e

module _ (l : Language) (uses : Uses) (n : ℕ) (reads : ℕ → List ℕ → Read Code)
    (right : (k : ℕ) (s : List ℕ) → Right code l uses n k s (reads k s)) (k b : ℕ) (s : List ℕ) where
  fourth_right : (t : Bool) → eqb b 4 ≡ t
      → Right code l uses (suc n) k (b ∷ s) (elim t [ true ↦ read_numbered uses k s | false ↦ broken ])
  fourth_right true q = rw (eqb-true b 4 q) (numbered_right l uses n k s)
  fourth_right false q = tt

  third_right : (t : Bool) → eqb b 3 ≡ t
      → Right code l uses (suc n) k (b ∷ s) (elim t [
        | true ↦ read_argument uses k s
        | false ↦ elim (eqb b 4) [ true ↦ read_numbered uses k s | false ↦ broken ]
      ])
  third_right true q = rw (eqb-true b 3 q) (argument_right l uses n k s)
  third_right false q = fourth_right (eqb b 4) refl

  second_right : (t : Bool) → eqb b 2 ≡ t
      → Right code l uses (suc n) k (b ∷ s) (elim t [ true ↦ read_token (range_of l k) s | false ↦ read_use uses k b s ])
  unfolding read_use
  second_right true q = rw (eqb-true b 2 q) (token_right code l uses (suc n) k (range_of l k) s refl)
  second_right false q = third_right (eqb b 3) refl

  first_right : (t : Bool) → eqb b 1 ≡ t
      → Right code l uses (suc n) k (b ∷ s) (elim t [
        | true ↦ read_node reads l k s
        | false ↦ elim (eqb b 2) [ true ↦ read_token (range_of l k) s | false ↦ read_use uses k b s ]
      ])
  first_right true q = rw (eqb-true b 1 q) (node_right code l uses n reads right k s)
  first_right false q = second_right (eqb b 2) refl

level_right : (x : Syntax) (l : Language) (uses : Uses) (n : ℕ) (reads : ℕ → List ℕ → Read Code)
    → ((k : ℕ) (s : List ℕ) → Right x l uses n k s (reads k s)) → (k : ℕ) (s : List ℕ)
    → Right x l uses (suc n) k s (read_level x reads l uses k s)
unfolding read_level read_tree_level read_code_level
level_right tree l uses n reads right k s = tree_right l uses n reads right k s (range_of l k) refl
level_right code l uses n reads right k [] = tt
level_right code l uses n reads right k (b ∷ s) = first_right l uses n reads right k b s (eqb b 1) refl

-- What is read past the last level is right.
past_tree_right : (l : Language) (uses : Uses) (k : ℕ) (s : List ℕ) (o : Option Range) → range_of l k ≡ o
    → Right tree l uses 0 k s (elim o [ some c ↦ read_token (some c) s | none ↦ deep ])
past_tree_right l uses k s none e = tt
past_tree_right l uses k s (some c) e = token_right tree l uses 0 k (some c) s e

past_code_right : (l : Language) (uses : Uses) (k b : ℕ) (s : List ℕ) (t : Bool) → eqb b 2 ≡ t
    → Right code l uses 0 k (b ∷ s) (elim t [ true ↦ read_token (range_of l k) s | false ↦ deep ])
past_code_right l uses k b s true q = rw (eqb-true b 2 q) (token_right code l uses 0 k (range_of l k) s refl)
past_code_right l uses k b s false q = tt

past_right : (x : Syntax) (l : Language) (uses : Uses) (k : ℕ) (s : List ℕ) → Right x l uses 0 k s (past_levels current x l k s)
unfolding past_levels
past_right tree l uses k s = past_tree_right l uses k s (range_of l k) refl
past_right code l uses k [] = tt
past_right code l uses k (b ∷ s) = past_code_right l uses k b s (eqb b 2) refl

-- Whatever is read is right.
pub read_right : (x : Syntax) (l : Language) (uses : Uses) (n k : ℕ) (s : List ℕ)
    → Right x l uses n k s (read x l uses n k s)
unfolding read_by
read_right x l uses zero k s = past_right x l uses k s
read_right x l uses (suc n) k s =
    level_right x l uses n (read x l uses n) (λ j r. read_right x l uses n j r) k s

pub read_done : (x : Syntax) (l : Language) (uses : Uses) (n k : ℕ) (s : List ℕ) (a : Code) (r : List ℕ)
    → read x l uses n k s ≡ done a r → Right x l uses n k s (done a r)
read_done x l uses n k s a r e = rw e at (read_right x l uses n k s)

-- The second is the first, unless the first ran out of levels.
abbrev pub More : {A : Type 0} → Read A → Read A → Type 0
More o p = (o ≡ deep) ⊎ (p ≡ o)

then_same : {A B : Type 0} (o : Read A) (f g : A → List ℕ → Read B) → ((a : A) (r : List ℕ) → More (f a r) (g a r))
    → More (and_then o f) (and_then o g)
then_same (done a r) f g h = h a r
then_same deep f g h = inr refl
then_same broken f g h = inr refl

then_more : {A B : Type 0} (o p : Read A) (f g : A → List ℕ → Read B) → More o p → ((a : A) (r : List ℕ) → More (f a r) (g a r))
    → More (and_then o f) (and_then p g)
then_more o p f g (inl e) h = inl (rw e)
then_more o p f g (inr e) h = rw e (then_same o f g h)

module _ (f g : ℕ → List ℕ → Read Code) (h : (k : ℕ) (s : List ℕ) → More (f k s) (g k s)) (l : Language) where
  all_more : (ks s : List ℕ) → More (read_all f ks s) (read_all g ks s)
  unfolding read_all
  all_more [] s = inr refl
  all_more (k ∷ ks) s =
      then_more (f k s) (g k s) _ _ (h k s) (λ a r. then_more (read_all f ks r) (read_all g ks r) _ _ (all_more ks r) (λ t u. inr refl))

  operands_more : (k p : ℕ) (o : Option (List ℕ)) (s : List ℕ) → More (read_operands f k p o s) (read_operands g k p o s)
  unfolding read_operands
  operands_more k p none s = inr refl
  operands_more k p (some ks) s = then_more (read_all f ks s) (read_all g ks s) _ _ (all_more ks s) (λ t u. inr refl)

  node_more : (k : ℕ) (s : List ℕ) → More (read_node f l k s) (read_node g l k s)
  unfolding read_node
  node_more k [] = inr refl
  node_more k (p ∷ s) = operands_more k p (arguments_of l k p) s

  tree_more : (k : ℕ) (s : List ℕ) (o : Option Range)
      → More {A = Code} (elim o [ some c ↦ read_token (some c) s | none ↦ read_node f l k s ]) (elim o [ some c ↦ read_token (some c) s | none ↦ read_node g l k s ])
  tree_more k s none = node_more k s
  tree_more k s (some c) = inr refl

  code_more : (k : ℕ) (s : List ℕ) (t : Bool) (o : Read Code)
      → More {A = Code} (elim t [ true ↦ read_node f l k s | false ↦ o ]) (elim t [ true ↦ read_node g l k s | false ↦ o ])
  code_more k s true o = node_more k s
  code_more k s false o = inr refl

  level_more : (x : Syntax) (uses : Uses) (k : ℕ) (s : List ℕ) → More (read_level x f l uses k s) (read_level x g l uses k s)
  unfolding read_level read_tree_level read_code_level
  level_more tree uses k s = tree_more k s (range_of l k)
  level_more code uses k [] = inr refl
  level_more code uses k (b ∷ s) = code_more k s (eqb b 1) _

-- What is read past the last level is what is read at a level.
two_more : (b k : ℕ) (s : List ℕ) (l : Language) (uses : Uses) (reads : ℕ → List ℕ → Read Code) → b ≡ 2
    → read_code_level reads l uses k (b ∷ s) ≡ past_levels current code l k (b ∷ s)
unfolding read_code_level past_levels
two_more b k s l uses reads e = rw e

past_more : (x : Syntax) (l : Language) (uses : Uses) (reads : ℕ → List ℕ → Read Code) (k : ℕ) (s : List ℕ)
    → More (past_levels current x l k s) (read_level x reads l uses k s)
unfolding past_levels read_level read_tree_level read_code_level
past_more tree l uses reads k s = go (range_of l k)
  where
    go : (o : Option Range)
        → More {A = Code} (elim o [ some c ↦ read_token (some c) s | none ↦ deep ]) (elim o [ some c ↦ read_token (some c) s | none ↦ read_node reads l k s ])
    go none = inl refl
    go (some c) = inr refl
past_more code l uses reads k [] = inl refl
past_more code l uses reads k (b ∷ s) = by_test (eqb b 2) (λ t. inr (two_more b k s l uses reads (eqb-true b 2 t))) (λ t. inl (cc))

-- More levels change nothing but the refusal.
pub more_levels : (x : Syntax) (l : Language) (uses : Uses) (n m k : ℕ) (s : List ℕ) → n ≤ m
    → More (read x l uses n k s) (read x l uses m k s)
unfolding read_by
more_levels x l uses zero zero k s h = inr refl
more_levels x l uses zero (suc m) k s h = past_more x l uses (read x l uses m) k s
more_levels x l uses (suc n) zero k s h = absurd (omega arith)
more_levels x l uses (suc n) (suc m) k s h =
    level_more (read x l uses n) (read x l uses m) (λ j r. more_levels x l uses n m j r (omega arith)) l x uses k s

-- The current rule changes nothing but the refusal of the earlier one.
pub rules_more : (x : Syntax) (l : Language) (uses : Uses) (n k : ℕ) (s : List ℕ)
    → More (read_by earlier x l uses n k s) (read x l uses n k s)
unfolding read_by past_levels
rules_more x l uses zero k s = inl refl
rules_more x l uses (suc n) k s =
    level_more (read_by earlier x l uses n) (read x l uses n) (λ j r. rules_more x l uses n j r) l x uses k s
