-- The next code and the tree that it is compared with, by the form of the code.
use Prim.Native.Nat.{ℕ, zero, suc, max, ◌+◌, ◌/◌, ◌%◌, ◌≤◌, ◌<◌}
use mathlib.Core.Path.{◌≡◌, refl, ap, sym, ◌∙◌}
use mathlib.Core.Logic.{◌⊎◌, inl, inr}
use mathlib.Core.Bool.{Bool, true}
use mathlib.Core.List.{List, [], ◌∷◌, ◌++◌}
use mathlib.Core.Option.{some}
use native.Mathlib.Omega.{arith}
use lib.ListN.{length, get_or, get_elem?, drop}
use Rattle.format_fields.specs.Lists.{all}
use Rattle.format_fields.proofs.Truth.{none_some, some_inj, and_both, both_and}
use Rattle.format_language.specs.Language.{Language, arguments_of, is_in}
use Rattle.tree_reader.specs.Code.{Code, node, token, argument, Codes, nil, cons, levels, levels_all}
use Rattle.tree_reader.specs.Typing.{Uses, kind_by, kind_at, Typed, TypedAll, typed_node, typed_token, typed_argument, typed_nil, typed_cons}
use Rattle.tree_reader.specs.Syntax.{write, write_all, tree, code}
use Rattle.tree_reader.proofs.RoundTrip.{Apart}
use Rattle.format_translation.specs.Translation.{Translation}
use Rattle.format_translation.specs.Running.{Replacing}
use Rattle.run_table.specs.Inner.Stands.{Stands}
use Rattle.run_table.specs.Inner.Table.{body_start, body_byte}
use Rattle.run_table.proofs.Standing.{stands_head}
use Rattle.tree_index.specs.Inner.Lying.{Lies, LieAll}
use Rattle.tree_index.proofs.Lying.{first_byte, node_lies, head_lies, tail_lie}
use Rattle.search_sources.specs.Inner.Goals.{Goal}
use Rattle.search_sources.specs.Inner.Matching.{followed, Solves, Alike}
use Rattle.search_sources.proofs.Answers.{no_kind}
use Rattle.search_sources.proofs.Matching.{typed_followed, write_followed, step_node, no_node, step_token, no_token}
use Rattle.search_levels.specs.Inner.Clauses.{Pending}

-- Arguments are used by number 0 only.
abbrev pub Plain : Uses → Type 0
Plain given = (i j k : ℕ) → kind_at given i j ≡ some k → j ≡ 0

-- A production: its name in the code and in the tree, and what comes next where they are the same.
pub record NodeHead (table bytes : List ℕ) (c stop to : ℕ) (f : Translation) (given : Uses) (cs us : Codes) (b : ℕ → Goal) : Type 0 where
  pub sign : body_byte table c ≡ 1
  pub room : c + 2 ≤ stop
  pub same : body_byte table (c + 1) ≡ get_or bytes to 0
      → (js : List ℕ) × (es vs : Codes) × Pending table bytes (c + 2) stop (to + 1) f given js es vs × Alike b cs us b es vs
  pub other : (body_byte table (c + 1) ≡ get_or bytes to 0 → ⊥) → (s : Replacing) → Solves b cs us s → ⊥

-- A token.
pub record TokenHead (table bytes : List ℕ) (c stop to : ℕ) (f : Translation) (given : Uses) (cs us : Codes) (b : ℕ → Goal) : Type 0 where
  pub sign : body_byte table c ≡ 2
  pub room : c + 3 ≤ stop
  pub same : body_byte table (c + 1) ≡ get_or bytes to 0 → body_byte table (c + 2) ≡ get_or bytes (to + 1) 0
      → (js : List ℕ) × (es vs : Codes) × Pending table bytes (c + 3) stop (to + 2) f given js es vs × Alike b cs us b es vs
  pub high : (body_byte table (c + 1) ≡ get_or bytes to 0 → ⊥) → (s : Replacing) → Solves b cs us s → ⊥
  pub low : (body_byte table (c + 2) ≡ get_or bytes (to + 1) 0 → ⊥) → (s : Replacing) → Solves b cs us s → ⊥

-- An argument, counted from 0, and the tree that lies where it comes.
pub record ArgumentHead (table bytes : List ℕ) (c stop to : ℕ) (f : Translation) (given : Uses) (cs us : Codes) : Type 0 where
  pub number : ℕ
  pub kind : ℕ
  pub subtree : Code
  pub kinds : List ℕ
  pub codes : Codes
  pub trees : Codes
  pub sign : body_byte table c ≡ 3
  pub room : c + 2 ≤ stop
  pub byte : body_byte table (c + 1) ≡ suc number
  pub given_at : kind_by (get_elem? given number) 0 ≡ some kind
  pub cs_is : cs ≡ cons (argument (suc number) 0) codes
  pub us_is : us ≡ cons subtree trees
  pub lies : Lies f.target bytes to kind subtree
  pub next : Pending table bytes (c + 2) stop (to + length (write tree subtree)) f given kinds codes trees

-- Bytes of the table.
two_stand : (t : List ℕ) (c y z : ℕ) (v : List ℕ) → Stands t (body_start + c) (y ∷ z ∷ v)
    → (body_byte t c ≡ y) × (body_byte t (c + 1) ≡ z) × Stands t (body_start + (c + 2)) v
two_stand t c y z v h =
    let p = stands_head t (body_start + c) y (z ∷ v) h in
    let q = stands_head t (body_start + c + 1) z v p.2 in
    let e : body_start + c + 1 ≡ body_start + (c + 1) = omega arith in
    let d : body_start + c + 1 + 1 ≡ body_start + (c + 2) = omega arith in
    (p.1, ap (λ (x : ℕ). get_or t x 0) (sym e) ∙ q.1, rw (← d) q.2)

three_stand : (t : List ℕ) (c x y z : ℕ) (v : List ℕ) → Stands t (body_start + c) (x ∷ y ∷ z ∷ v)
    → (body_byte t c ≡ x) × (body_byte t (c + 1) ≡ y) × (body_byte t (c + 2) ≡ z) × Stands t (body_start + (c + 3)) v
three_stand t c x y z v h =
    let p = two_stand t c x y (z ∷ v) h in
    let q = stands_head t (body_start + (c + 2)) z v p.2 in
    let d : body_start + (c + 2) + 1 ≡ body_start + (c + 3) = omega arith in
    (p.0, p.1, q.1, rw (← d) q.2)

-- Trees behind each other.
levels_followed : (t u : Codes) → levels_all (followed t u) ≡ max (levels_all t) (levels_all u)
unfolding levels followed
levels_followed nil u = omega arith
levels_followed (cons a t) u = omega (arith, levels_followed t u)

all_both : (h : ℕ → Bool) (ks js : List ℕ) → all h ks ≡ true → all h js ≡ true → all h (ks ++ js) ≡ true
unfolding all
all_both h [] js p q = q
all_both h (k ∷ ks) js p q = let z = and_both (h k) (all h ks) p in both_and (h k) (all h (ks ++ js)) z.0 (all_both h ks js z.1 q)

module _ (l : Language) (b : List ℕ) (to k q : ℕ) (js : List ℕ) (r us : Codes) (h : LieAll l b to (k ∷ js) (cons (node k q r) us)) where
  behind_name : (to < length b) × (get_or b to 0 ≡ q) × (drop (to + 1) b ≡ (write_all tree r ++ write_all tree us) ++ h.rest)
  unfolding write
  behind_name = first_byte b to q ((write_all tree r ++ write_all tree us) ++ h.rest) h.inside h.is

  node_row : (ks : List ℕ) → arguments_of l k q ≡ some ks → TypedAll l [] r ks → LieAll l b (to + 1) (ks ++ js) (followed r us)
  node_row ks e typed =
      let head = head_lies l b to k js (node k q r) us h in
      let tail = tail_lie l b to k js (node k q r) us h in
      let row = node_lies l b to k q r head ks e typed in
      let x = row.within in
      let y = tail.within in
      let z = levels_followed r us in
      record {
        rest = h.rest;
        is = behind_name.2 ∙ ap (λ (v : List ℕ). v ++ h.rest) (sym (write_followed tree r us));
        inside = row.inside;
        typed = typed_followed typed tail.typed;
        within = omega arith;
        known = all_both (is_in l) ks js row.known tail.known;
      }

module _ (l : Language) (b : List ℕ) (to k w : ℕ) (js : List ℕ) (us : Codes) (h : LieAll l b to (k ∷ js) (cons (token w) us)) where
  token_bytes : (get_or b to 0 ≡ w / 256) × (get_or b (to + 1) 0 ≡ w % 256)
  unfolding write
  token_bytes =
      let p = first_byte b to (w / 256) (w % 256 ∷ (write_all tree us ++ h.rest)) h.inside h.is in
      let q = first_byte b (to + 1) (w % 256) (write_all tree us ++ h.rest) (omega (arith, p.0)) p.2 in
      (p.1, q.1)

  token_row : LieAll l b (to + 2) js us
  unfolding write
  token_row = tail_lie l b to k js (token w) us h

-- The next code and tree are of one kind.
module _ (table bytes : List ℕ) (c stop to : ℕ) (f : Translation) (separate : Apart f.target) (given : Uses) (k : ℕ) (js : List ℕ)
    (es vs : Codes) (b : ℕ → Goal) (codes : TypedAll f.target given es js) (inside : stop ≤ 4096) where
  module _ (p q : ℕ) (t r : Codes) (ks : List ℕ) (known : arguments_of f.target k p ≡ some ks) (typed : TypedAll f.target given t ks)
      (stands : Stands table (body_start + c) (write_all code (cons (node k p t) es))) (ends : stop ≡ c + length (write_all code (cons (node k p t) es)))
      (trees : LieAll f.target bytes to (k ∷ js) (cons (node k q r) vs)) (is : List ℕ) (known-too : arguments_of f.target k q ≡ some is)
      (typed-too : TypedAll f.target [] r is) where
    code_bytes : (body_byte table c ≡ 1) × (body_byte table (c + 1) ≡ p) × Stands table (body_start + (c + 2)) (write_all code t ++ write_all code es)
    unfolding write
    code_bytes = two_stand table c 1 p (write_all code t ++ write_all code es) stands

    code_ends : stop ≡ c + 2 + length (write_all code t ++ write_all code es)
    unfolding write
    code_ends = let e = ends in omega arith

    same_kinds : p ≡ q → is ≡ ks
    same_kinds e = some_inj (sym known-too ∙ (ap (arguments_of f.target k) (sym e) ∙ known))

    typed_same : p ≡ q → TypedAll f.target [] r ks
    typed_same e = rw (← (same_kinds e)) typed-too

    node_next : p ≡ q → Pending table bytes (c + 2) stop (to + 1) f given (ks ++ js) (followed t es) (followed r vs)
    node_next e = record {
      codes = typed_followed typed codes;
      stands = rw (write_followed code t es) code_bytes.2;
      ends = code_ends ∙ ap (λ (v : List ℕ). c + 2 + length v) (sym (write_followed code t es));
      inside = inside;
      trees = node_row f.target bytes to k q js r vs trees ks (ap (arguments_of f.target k) (sym e) ∙ known) (typed_same e);
    }

    node_head : NodeHead table bytes c stop to f given (cons (node k p t) es) (cons (node k q r) vs) b
    node_head =
        let byte : get_or bytes to 0 ≡ q = (behind_name f.target bytes to k q js r vs trees).1 in
        let name = code_bytes.1 in
        record {
          sign = code_bytes.0;
          room = let e = code_ends in omega arith;
          same = λ e.
              let d : p ≡ q = sym name ∙ (e ∙ byte) in
              (ks ++ js, followed t es, followed r vs, node_next d, rw (← d) (step_node b k p t es r vs typed (typed_same d)));
          other = λ n s z. no_node b k p t es r vs q (λ d. n (name ∙ (d ∙ sym byte))) s z;
        }

  module _ (v w : ℕ) (stands : Stands table (body_start + c) (write_all code (cons (token v) es))) (ends : stop ≡ c + length (write_all code (cons (token v) es)))
      (trees : LieAll f.target bytes to (k ∷ js) (cons (token w) vs)) where
    value_bytes : (body_byte table c ≡ 2) × (body_byte table (c + 1) ≡ v / 256) × (body_byte table (c + 2) ≡ v % 256) × Stands table (body_start + (c + 3)) (write_all code es)
    unfolding write
    value_bytes = three_stand table c 2 (v / 256) (v % 256) (write_all code es) stands

    value_ends : stop ≡ c + 3 + length (write_all code es)
    unfolding write
    value_ends = let e = ends in omega arith

    token_head : TokenHead table bytes c stop to f given (cons (token v) es) (cons (token w) vs) b
    token_head =
        let t = token_bytes f.target bytes to k w js vs trees in
        let x = value_bytes in
        record {
          sign = x.0;
          room = let e = value_ends in omega arith;
          same = λ i j.
              let high : v / 256 ≡ w / 256 = sym x.1 ∙ (i ∙ t.0) in
              let low : v % 256 ≡ w % 256 = sym x.2 ∙ (j ∙ t.1) in
              let d : v ≡ w = omega arith in (
                js,
                es,
                vs,
                record { codes = codes; stands = x.3; ends = value_ends; inside = inside; trees = token_row f.target bytes to k w js vs trees },
                rw (← d) (step_token b v es vs),
              );
          high = λ n s z. no_token b v es vs w (λ d. n (x.1 ∙ (ap (λ (y : ℕ). y / 256) d ∙ sym t.0))) s z;
          low = λ n s z. no_token b v es vs w (λ d. n (x.2 ∙ (ap (λ (y : ℕ). y % 256) d ∙ sym t.1))) s z;
        }

  module _ (i : ℕ) (u : Code) (known : kind_by (get_elem? given i) 0 ≡ some k) (stands : Stands table (body_start + c) (write_all code (cons (argument (suc i) 0) es)))
      (ends : stop ≡ c + length (write_all code (cons (argument (suc i) 0) es))) (trees : LieAll f.target bytes to (k ∷ js) (cons u vs)) where
    number_bytes : (body_byte table c ≡ 3) × (body_byte table (c + 1) ≡ suc i) × Stands table (body_start + (c + 2)) (write_all code es)
    unfolding write
    number_bytes = two_stand table c 3 (suc i) (write_all code es) stands

    number_ends : stop ≡ c + 2 + length (write_all code es)
    unfolding write
    number_ends = let e = ends in omega arith

    argument_head : ArgumentHead table bytes c stop to f given (cons (argument (suc i) 0) es) (cons u vs)
    argument_head = record {
      number = i;
      kind = k;
      subtree = u;
      kinds = js;
      codes = es;
      trees = vs;
      sign = number_bytes.0;
      room = let e = number_ends in omega arith;
      byte = number_bytes.1;
      given_at = known;
      cs_is = refl;
      us_is = refl;
      lies = head_lies f.target bytes to k js u vs trees;
      next = record {
        codes = codes;
        stands = number_bytes.2;
        ends = number_ends;
        inside = inside;
        trees = tail_lie f.target bytes to k js u vs trees;
      };
    }

-- The three forms: arguments are used by number 0.
module _ (table bytes : List ℕ) (c stop to : ℕ) (f : Translation) (separate : Apart f.target) (given : Uses) (plain : Plain given) (b : ℕ → Goal) (inside : stop ≤ 4096) where
  abbrev Head : Codes → Codes → Type 0
  Head cs us =
      NodeHead table bytes c stop to f given cs us b
      ⊎ (TokenHead table bytes c stop to f given cs us b ⊎ ArgumentHead table bytes c stop to f given cs us)

  head : {a u : Code} {k : ℕ} → Typed f.target given a k → Typed f.target [] u k → (js : List ℕ) (es vs : Codes) → TypedAll f.target given es js
      → Stands table (body_start + c) (write_all code (cons a es)) → stop ≡ c + length (write_all code (cons a es))
      → LieAll f.target bytes to (k ∷ js) (cons u vs) → Head (cons a es) (cons u vs)
  head (typed_node {k = k} {p = p} {t = t} {ks = ks} e h) (typed_node {p = q} {t = r} {ks = is} d g) js es vs w x y z =
      inl (node_head table bytes c stop to f separate given k js es vs b w inside p q t r ks e h x y z is d g)
  head (typed_node {k = k} {p = p} {ks = ks} e h) (typed_token d g) js es vs w x y z = none_some (sym (separate k p ks e) ∙ d)
  head (typed_token {k = k} e h) (typed_node {p = p} {ks = ks} d g) js es vs w x y z = none_some (sym (separate k p ks d) ∙ e)
  head (typed_token {v = v} {k = k} e h) (typed_token {v = o} d g) js es vs w x y z =
      inr (inl (token_head table bytes c stop to f separate given k js es vs b w inside v o x y z))
  head (typed_argument {i = zero} e) g js es vs w x y z = none_some e
  head (typed_argument {i = suc i} {j = suc j} {k = k} e) g js es vs w x y z = let n = plain (suc i) (suc j) k e in absurd (omega arith)
  head {u = u} (typed_argument {i = suc i} {j = zero} {k = k} e) g js es vs w x y z =
      inr (inr (argument_head table bytes c stop to f separate given k js es vs b w inside i u e x y z))
  head (typed_node e h) (typed_argument {i = i} {j = j} d) js es vs w x y z = no_kind i j d
  head (typed_token e h) (typed_argument {i = i} {j = j} d) js es vs w x y z = no_kind i j d

-- What is pending has a next code, unless it has come to its end.
pub heads : (table bytes : List ℕ) (c stop to : ℕ) (f : Translation) → Apart f.target → (given : Uses) → Plain given → (js : List ℕ) (cs us : Codes) (b : ℕ → Goal)
    → Pending table bytes c stop to f given js cs us → c < stop
    → NodeHead table bytes c stop to f given cs us b
    ⊎ (TokenHead table bytes c stop to f given cs us b ⊎ ArgumentHead table bytes c stop to f given cs us)
unfolding write
heads table bytes c stop to f separate given plain js cs us b h more = go h.codes h.trees.typed h.stands h.ends h.trees
  where
    go : {js : List ℕ} {cs us : Codes} → TypedAll f.target given cs js → TypedAll f.target [] us js → Stands table (body_start + c) (write_all code cs)
        → stop ≡ c + length (write_all code cs) → LieAll f.target bytes to js us
        → NodeHead table bytes c stop to f given cs us b
        ⊎ (TokenHead table bytes c stop to f given cs us b ⊎ ArgumentHead table bytes c stop to f given cs us)
    go typed_nil typed_nil x y z = absurd (omega arith)
    go (typed_cons {a = a} {k = k} {t = es} {ks = ks} p ps) (typed_cons {a = u} {t = vs} q qs) x y z =
        head table bytes c stop to f separate given plain b h.inside p q ks es vs ps x y z
