-- Stepping over a term: what is still to be read, row by row.
use Prim.Native.Nat.{ℕ, zero, suc, ◌+◌, ◌-◌, ◌≤◌, ◌<◌}
use mathlib.Core.Path.{◌≡◌, refl, sym, ap, subst, ◌∙◌}
use mathlib.Core.Bool.{Bool, true, false, not}
use mathlib.Core.Option.{some}
use mathlib.Core.List.{List, [], ◌∷◌, ◌++◌, append-nil}
use native.Mathlib.Nat.{add_assoc, add-zero}
use native.Mathlib.Omega.{arith}
use lib.ListN.{length, get_or, drop, set, length-append, length-set}
use lib.Dec.{eqb}
use lib.Seq.{get_or-set_same, get_or-set_other}
use borrow.Author.Tests.{eq-eqb, ne_eqb}
use Rattle.format_fields.proofs.Truth.{false_true, none_some}
use Rattle.format_fields.proofs.Split.{front}
use Rattle.format_language.specs.Language.{Language, production_key}
use Rattle.tree_reader.specs.Code as Terms
use Rattle.tree_reader.specs.Code.{node, token, argument, Codes, nil, cons, levels, levels_all}
use Rattle.tree_reader.specs.Typing.{Uses, kind_at, Typed, TypedAll, typed_node, typed_token, typed_argument, typed_nil, typed_cons}
use Rattle.tree_reader.specs.Syntax.{write, write_all}
use Rattle.tree_reader.specs.declared.node.Syntax.{Syntax}
use Rattle.tree_reader.specs.declared.node.Syntax.TheVariants.{Tree, Code}
use Rattle.tree_reader.specs.Inner.Positions.{name_length}
use Rattle.format_translation.specs.Translation.{Translation}
use Rattle.run_table.specs.Inner.Stands.{Stands}
use Rattle.run_table.specs.Inner.Table.{index_entry, source_byte, KindsAt, Production}
use Rattle.run_emit.specs.Inner.Runs.{bytes_of, all_bytes, Given, SkipAsks, leaf_at, leaf_length, leaf_number, sign_length}
use Rattle.run_table.proofs.Standing.{drop_stands, stands_head, stands_both}

-- is_leaf and leaf_length, a return at a time.
module _ {x : Syntax} (t : List ℕ) (k : ℕ) (b : List ℕ) (at : ℕ) where
  pub leaf_tree : {n : ℕ} → x ≡ Tree → n ≡ index_entry t k → not (eqb n 0) ≡ leaf_at x t k b at
  unfolding leaf_at
  leaf_tree e h = cc

  pub leaf_code : x ≡ Code → not (eqb (get_or b at 0) 1) ≡ leaf_at x t k b at
  unfolding leaf_at
  leaf_code e = cc

module _ {x : Syntax} (b : List ℕ) (at : ℕ) where
  pub length_tree : x ≡ Tree → 2 ≡ leaf_length x b at
  unfolding leaf_length
  length_tree e = cc

  pub length_two : x ≡ Code → get_or b at 0 ≡ 3 → 2 ≡ leaf_length x b at
  unfolding leaf_length
  length_two e h = cc (eq-eqb (get_or b at 0) 3 h)

  pub length_three : x ≡ Code → (get_or b at 0 ≡ 3 → ⊥) → 3 ≡ leaf_length x b at
  unfolding leaf_length
  length_three e h = cc (ne_eqb (get_or b at 0) 3 h)

-- leaf_number, a return at a time.
module _ (b : List ℕ) (at : ℕ) where
  pub number_there : {n : ℕ} → get_or b at 0 ≡ 4 → n ≡ get_or b (at + 2) 0 → n ≡ leaf_number b at
  unfolding leaf_number
  number_there e h = rw (eq-eqb (get_or b at 0) 4 e) h

  pub number_none : (get_or b at 0 ≡ 4 → ⊥) → 0 ≡ leaf_number b at
  unfolding leaf_number
  number_none e = rw (ne_eqb (get_or b at 0) 4 e)

-- A term has at least one byte.
pub some_bytes : (x : Syntax) (u : Terms.Code) → 0 < length (bytes_of x u)
unfolding write
some_bytes Tree (node k p ts) = omega arith
some_bytes Tree (token v) = omega arith
some_bytes Tree (argument i zero) = omega arith
some_bytes Tree (argument i (suc j)) = omega arith
some_bytes Code (node k p ts) = omega arith
some_bytes Code (token v) = omega arith
some_bytes Code (argument i zero) = omega arith
some_bytes Code (argument i (suc j)) = omega arith

-- A name has at least one byte.
pub name_some : (x : Syntax) {c : ℕ} → c ≡ name_length x → 0 < c
name_some Tree e = omega arith
name_some Code e = omega arith

-- A row of the stack stays as long as it is.
pub set_long : (l : List ℕ) (i a : ℕ) → length l ≡ 64 → length (set l i a) ≡ 64
set_long l i a e = length-set l i a ∙ e

-- Terms of no kinds have no bytes.
all_none : (x : Syntax) {l : Language} {given : Uses} (ts : Codes) (ks : List ℕ) → TypedAll l given ts ks → length ks ≡ 0 → length (all_bytes x ts) ≡ 0
unfolding write_all
all_none x nil [] typed_nil z = refl
all_none x (cons a ts) (k ∷ ks) (typed_cons p ps) z = absurd (omega arith)
all_none x {l = l} {given = given} nil (k ∷ ks) x5 z = elim x5 [ ]
all_none x {l = l} {given = given} (cons a ts) [] x5 z = elim x5 [ ]

-- A row of terms that is still to be read: its kinds stand in the source from q up to e, its terms in the input from `to`
-- on. It has d rows behind it.
pub record Wait (x : Syntax) (t b : List ℕ) (l : Language) (given : Uses) (d q e to : ℕ) : Type 0 where
  pub codes : Codes
  pub kinds : List ℕ
  pub known : KindsAt t q kinds
  pub ends : e ≡ q + length kinds
  pub typed : TypedAll l given codes kinds
  pub stands : Stands b to (all_bytes x codes)
  pub deep : levels_all codes + d ≤ 64

-- The rows on the stack, the last one first: behind them all stands `end`.
unfoldable pub Rest : (x : Syntax) (t b : List ℕ) (l : Language) (given : Uses) (firsts lasts : List ℕ) (end d to : ℕ) → Type 0
Rest x t b l given firsts lasts end zero to = to ≡ end
Rest x t b l given firsts lasts end (suc d) to =
    (w : Wait x t b l given d (get_or firsts d 0) (get_or lasts d 0) to) × Rest x t b l given firsts lasts end d (to + length (all_bytes x w.codes))

-- The row that is being read, and those on the stack.
pub record Going (x : Syntax) (t b : List ℕ) (l : Language) (given : Uses) (firsts lasts : List ℕ) (end d q e to : ℕ) : Type 0 where
  pub row : Wait x t b l given d q e to
  pub rest : Rest x t b l given firsts lasts end d (to + length (all_bytes x row.codes))

-- The first term of the row that is being read.
pub record First (x : Syntax) (t b : List ℕ) (l : Language) (given : Uses) (firsts lasts : List ℕ) (end d q e to : ℕ) : Type 0 where
  pub code : Terms.Code
  pub kind : ℕ
  pub typed : Typed l given code kind
  pub small : kind < 32
  pub source : source_byte t q ≡ kind
  pub inside : q < e
  pub most : e ≤ 1024
  pub stands : Stands b to (bytes_of x code)
  pub deep : levels code + d ≤ 64
  pub next : Going x t b l given firsts lasts end d (q + 1) e (to + length (bytes_of x code))

-- A production whose name, of kind k, stands at `to`, and its arguments behind the name.
pub record Named (x : Syntax) (t b : List ℕ) (l : Language) (given : Uses) (firsts lasts : List ℕ) (end d q e to k : ℕ) : Type 0 where
  pub codes : Codes
  pub kinds : List ℕ
  pub there : to + name_length x ≤ length b
  pub production : get_or b (to + sign_length x) 0 < 256 → Production t (index_entry t (production_key k (get_or b (to + sign_length x) 0))) kinds
  pub typed : TypedAll l given codes kinds
  pub stands : Stands b (to + name_length x) (all_bytes x codes)
  pub deep : levels_all codes + (d + 1) ≤ 64
  pub small : k < 32
  pub inside : q < e
  pub most : e ≤ 1024
  pub next : Going x t b l given firsts lasts end d (q + 1) e (to + name_length x + length (all_bytes x codes))

module _ (x : Syntax) (t b : List ℕ) (l : Language) (given : Uses) where
  -- A row stays one where its bounds are the same.
  moved : {d q e to p r : ℕ} → q ≡ p → e ≡ r → Wait x t b l given d q e to → Wait x t b l given d p r to
  moved g h w = record {
    codes = w.codes;
    kinds = w.kinds;
    known = subst (λ (n : ℕ). KindsAt t n w.kinds) g w.known;
    ends = sym h ∙ (w.ends ∙ ap (λ (n : ℕ). n + length w.kinds) g);
    typed = w.typed;
    stands = w.stands;
    deep = w.deep;
  }

  -- What is written above a row of the stack leaves it as it was.
  rest_kept : (firsts lasts : List ℕ) (end i p r d to : ℕ) → d ≤ i → Rest x t b l given firsts lasts end d to
      → Rest x t b l given (set firsts i p) (set lasts i r) end d to
  unfolding Rest moved
  rest_kept firsts lasts end i p r zero to le h = h
  rest_kept firsts lasts end i p r (suc d) to le h =
      let ne : d ≡ i → ⊥ = λ z. omega arith in (
        moved (sym (get_or-set_other firsts i d p 0 ne)) (sym (get_or-set_other lasts i d r 0 ne)) h.0,
        rest_kept firsts lasts end i p r d (to + length (all_bytes x h.0.codes)) (omega arith) h.1,
      )

  module _ (firsts lasts : List ℕ) (end : ℕ) where
    abbrev Rests : ℕ → ℕ → Type 0
    Rests d to = Rest x t b l given firsts lasts end d to

    abbrev Goes : ℕ → ℕ → ℕ → ℕ → Type 0
    Goes d q e to = Going x t b l given firsts lasts end d q e to

    -- Behind a row that is read to its end stand those on the stack.
    behind : {d q e to : ℕ} → q ≡ e → Goes d q e to → Rests d to
    behind {d} {q} {e} {to} h g =
        let z = all_none x g.row.codes g.row.kinds g.row.typed (omega (arith, g.row.ends, h)) in
        let s : to + length (all_bytes x g.row.codes) ≡ to = omega (arith, z) in
        subst (λ (n : ℕ). Rests d n) s g.rest

    -- The last row is read: this is the end.
    pub ended : {d q e to : ℕ} → q ≡ e → d ≡ 0 → Goes d q e to → to ≡ end
    unfolding Rest
    ended {d} {q} {e} {to} h z g = subst (λ (n : ℕ). Rests n to) z (behind h g)

    -- The row is read, the next one comes off the stack.
    pub popped : (d : ℕ) {q e to : ℕ} → q ≡ e → (d ≡ 0 → ⊥) → Goes d q e to → Goes (d - 1) (get_or firsts (d - 1) 0) (get_or lasts (d - 1) 0) to
    unfolding Rest
    popped zero h z g = absurd (z refl)
    popped (suc d) {q} {e} {to} h z g =
        let r : Rests (suc d) to = behind h g in
        let i : d ≡ suc d - 1 = omega arith in
        subst (λ (n : ℕ). Goes n (get_or firsts n 0) (get_or lasts n 0) to) i (record { row = r.0; rest = r.1 })

    -- The row has a first term.
    first_of : {d q e to : ℕ} (ts : Codes) (ks : List ℕ) → TypedAll l given ts ks → KindsAt t q ks → e ≡ q + length ks
        → Stands b to (all_bytes x ts) → levels_all ts + d ≤ 64 → Rests d (to + length (all_bytes x ts)) → (q ≡ e → ⊥)
        → First x t b l given firsts lasts end d q e to
    unfolding write_all levels_all
    first_of nil [] typed_nil n g s m r h = absurd (h (omega arith))
    first_of {d} {q} {e} {to} (cons a ts) (k ∷ ks) (typed_cons p ps) n g s m r h =
        let c = stands_head t (16448 + q) k ks n.stands in
        let v = stands_both b to (bytes_of x a) (all_bytes x ts) s in
        let i = n.inside in
        let w : to + length (bytes_of x a ++ all_bytes x ts) ≡ to + length (bytes_of x a) + length (all_bytes x ts) =
        ap (λ (j : ℕ). to + j) (length-append (bytes_of x a) (all_bytes x ts)) ∙ sym (add_assoc to (length (bytes_of x a)) (length (all_bytes x ts))) in
        let o : KindsAt t (q + 1) ks = record {
          inside = omega arith;
          stands = subst (λ (j : ℕ). Stands t j ks) (add_assoc 16448 q 1) c.2;
          below = λ j u. n.below (suc j) (omega arith);
        } in
        record {
          code = a;
          kind = k;
          typed = p;
          small = n.below 0 (omega arith);
          source = c.1;
          inside = omega arith;
          most = omega arith;
          stands = v.0;
          deep = omega arith;
          next = record {
            row = record { codes = ts; kinds = ks; known = o; ends = omega arith; typed = ps; stands = v.1; deep = omega arith };
            rest = subst (λ (j : ℕ). Rests d j) w r;
          };
        }
    first_of {d = d} {q = q} {e = e} {to = to} nil (k ∷ ks) x15 n g s m r h = elim x15 [ ]
    first_of {d = d} {q = q} {e = e} {to = to} (cons a ts) [] x10 n g s m r h = elim x10 [ ]

    pub first : {d q e to : ℕ} → (q ≡ e → ⊥) → Goes d q e to → First x t b l given firsts lasts end d q e to
    first h g = first_of _ _ g.row.typed g.row.known g.row.ends g.row.stands g.row.deep g.rest h

-- A byte stands where it is found.
byte_stands : (b : List ℕ) (at y : ℕ) → at < length b → get_or b at 0 ≡ y → Stands b at (y ∷ [])
byte_stands b at y h e = drop_stands b at (y ∷ []) (drop (at + 1) b) (omega arith) (front b at h ∙ ap (λ (n : ℕ). n ∷ drop (at + 1) b) e)

-- A tree has no arguments.
pub no_kind : (i j : ℕ) {k : ℕ} {A : Type 0} → kind_at [] i j ≡ some k → A
no_kind zero j e = none_some e
no_kind (suc i) j e = none_some e

-- A test that passed or failed, against what is known.
is_not : {A : Type 0} (n m : ℕ) → true ≡ not (eqb n m) → n ≡ m → A
is_not n m e h = let z : true ≡ false = e ∙ ap not (eq-eqb n m h) in false_true (sym z)

not_is : {A : Type 0} (n m : ℕ) → false ≡ not (eqb n m) → (n ≡ m → ⊥) → A
not_is n m e h = let z : false ≡ true = e ∙ ap not (ne_eqb n m h) in false_true z

-- A leaf's length is that of its term.
module _ (t b : List ℕ) (f : Translation) (given : Uses) (at : ℕ) where
  pub leaf_bytes : (x : Syntax) → Given x t f given → {u : Terms.Code} {k : ℕ} → Typed f.source given u k → k < 32 → Stands b at (bytes_of x u)
      → true ≡ leaf_at x t k b at → leaf_length x b at ≡ length (bytes_of x u)
  unfolding write leaf_at leaf_length
  leaf_bytes Tree g (typed_node {k = k} {p = p} {ks = ks} m h) i s e = is_not (index_entry t k) 0 e (g.ready.name k p ks i m)
  leaf_bytes Tree g (typed_token m h) i s e = refl
  leaf_bytes Tree g (typed_argument {i = n} {j = j} m) i s e = no_kind n j (ap (λ (l : Uses). kind_at l n j) (sym (g.plain refl)) ∙ m)
  leaf_bytes Code g (typed_node m h) i s e = is_not (get_or b at 0) 1 e (stands_head b at _ _ s).1
  leaf_bytes Code g (typed_token m h) i s e = let z = (stands_head b at _ _ s).1 in rw (ne_eqb (get_or b at 0) 3 (λ y. omega (arith, z)))
  leaf_bytes Code g (typed_argument {j = zero} m) i s e = rw (eq-eqb (get_or b at 0) 3 (stands_head b at _ _ s).1)
  leaf_bytes Code g (typed_argument {j = suc j} m) i s e = let z = (stands_head b at _ _ s).1 in rw (ne_eqb (get_or b at 0) 3 (λ y. omega (arith, z)))

-- What stands at `to` where there is no leaf: a production's name.
module _ (t b : List ℕ) (f : Translation) (given : Uses) (firsts lasts : List ℕ) (end d q e to : ℕ) (inside : q < e) (most : e ≤ 1024) where
  name_of : (x : Syntax) → Given x t f given → {u : Terms.Code} {k : ℕ} → Typed f.source given u k → k < 32
      → Stands b to (bytes_of x u) → levels u + d ≤ 64 → false ≡ leaf_at x t k b to
      → Going x t b f.source given firsts lasts end d (q + 1) e (to + length (bytes_of x u))
      → Named x t b f.source given firsts lasts end d q e to k
  unfolding write levels leaf_at
  name_of Tree g (typed_token {k = k} {c = c} m h) i s j n o = let z = g.ready.class k c i m in not_is (index_entry t k) 0 n (λ y. omega (arith, z))
  name_of Tree g (typed_argument {i = a} {j = y} m) i s j n o = no_kind a y (ap (λ (l : Uses). kind_at l a y) (sym (g.plain refl)) ∙ m)
  name_of Code g (typed_token m h) i s j n o = let z = (stands_head b to _ _ s).1 in not_is (get_or b to 0) 1 n (λ y. omega (arith, z))
  name_of Code g (typed_argument {j = zero} m) i s j n o = let z = (stands_head b to _ _ s).1 in not_is (get_or b to 0) 1 n (λ y. omega (arith, z))
  name_of Code g (typed_argument {j = suc a} m) i s j n o = let z = (stands_head b to _ _ s).1 in not_is (get_or b to 0) 1 n (λ y. omega (arith, z))
  name_of Tree g (typed_node {k = k} {p = p} {t = ts} {ks = ks} m h) i s j n o =
      let c = stands_head b to p (all_bytes Tree ts) s in
      let y : get_or b (to + 0) 0 ≡ p = ap (λ (a : ℕ). get_or b a 0) (add-zero to) ∙ c.1 in
      let l : to + length (p ∷ all_bytes Tree ts) ≡ to + 1 + length (all_bytes Tree ts) = omega arith in
      record {
        codes = ts;
        kinds = ks;
        there = omega (arith, c.0);
        production = λ a. subst (λ (r : ℕ). Production t (index_entry t (production_key k r)) ks) (sym y) (g.ready.production k p ks i (omega (arith, a, y)) m);
        typed = h;
        stands = c.2;
        deep = omega arith;
        small = i;
        inside = inside;
        most = most;
        next = subst (λ (r : ℕ). Going Tree t b f.source given firsts lasts end d (q + 1) e r) l o;
      }
  name_of Code g (typed_node {k = k} {p = p} {t = ts} {ks = ks} m h) i s j n o =
      let v = stands_head b to 1 (p ∷ all_bytes Code ts) s in
      let c = stands_head b (to + 1) p (all_bytes Code ts) v.2 in
      let y : get_or b (to + 1) 0 ≡ p = c.1 in
      let l : to + length (1 ∷ p ∷ all_bytes Code ts) ≡ to + 2 + length (all_bytes Code ts) = omega arith in
      record {
        codes = ts;
        kinds = ks;
        there = omega (arith, c.0);
        production = λ a. subst (λ (r : ℕ). Production t (index_entry t (production_key k r)) ks) (sym y) (g.ready.production k p ks i (omega (arith, a, y)) m);
        typed = h;
        stands = subst (λ (r : ℕ). Stands b r (all_bytes Code ts)) (add_assoc to 1 1) c.2;
        deep = omega arith;
        small = i;
        inside = inside;
        most = most;
        next = subst (λ (r : ℕ). Going Code t b f.source given firsts lasts end d (q + 1) e r) l o;
      }

-- The turns of the loop, where q is not at the end of the row and a term of the kind is to stand at `to`.
module _ (x : Syntax) (t b : List ℕ) (f : Translation) (given : Uses) (firsts lasts : List ℕ) (end d q e to : ℕ) (is : Given x t f given) (more : q ≡ e → ⊥)
    (g : Going x t b f.source given firsts lasts end d q e to) {kind : ℕ} (ek : kind ≡ source_byte t q) where
  one : First x t b f.source given firsts lasts end d q e to
  one = first x t b f.source given firsts lasts end more g

  same : kind ≡ one.kind
  same = ek ∙ one.source

  -- A leaf is stepped over.
  leaf_is : true ≡ leaf_at x t kind b to → leaf_length x b to ≡ length (bytes_of x one.code)
  leaf_is h = leaf_bytes t b f given to x is one.typed one.small one.stands (h ∙ ap (λ (k : ℕ). leaf_at x t k b to) same)

  pub leaf_next : {n : ℕ} → true ≡ leaf_at x t kind b to → n ≡ leaf_length x b to → Going x t b f.source given firsts lasts end d (q + 1) e (to + n)
  leaf_next h m = subst (λ (k : ℕ). Going x t b f.source given firsts lasts end d (q + 1) e (to + k)) (sym (m ∙ leaf_is h)) one.next

  pub leaf_in : {n : ℕ} → true ≡ leaf_at x t kind b to → n ≡ leaf_length x b to → to + n ≤ length b
  leaf_in h m = omega (arith, m, leaf_is h, one.stands.inside)

  pub named : false ≡ leaf_at x t kind b to → Named x t b f.source given firsts lasts end d q e to kind
  named h =
      subst (λ (k : ℕ). Named x t b f.source given firsts lasts end d q e to k) (sym same)
      (name_of t b f given firsts lasts end d q e to one.inside one.most x is one.typed one.small one.stands one.deep (h ∙ ap (λ (k : ℕ). leaf_at x t k b to) same) one.next)

-- Behind a production's name.
module _ (x : Syntax) (t b : List ℕ) (l : Language) (given : Uses) (firsts lasts : List ℕ) (end d q e to kind : ℕ)
    (m : Named x t b l given firsts lasts end d q e to kind) {s place : ℕ} (es : s ≡ sign_length x) (byte : get_or b (to + s) 0 < 256)
    (ep : place ≡ index_entry t (production_key kind (get_or b (to + s) 0))) where
  pub placed : Production t place m.kinds
  placed =
      let z : place ≡ index_entry t (production_key kind (get_or b (to + sign_length x) 0)) = ep ∙ ap (λ (a : ℕ). index_entry t (production_key kind (get_or b (to + a) 0))) es in
      subst (λ (a : ℕ). Production t a m.kinds) (sym z) (m.production (rw es at byte))

  module _ {n : ℕ} (en : n ≡ source_byte t (place + 1)) where
    counted : n ≡ length m.kinds + 2
    counted = en ∙ placed.count

    none : n ≡ 2 → length (all_bytes x m.codes) ≡ 0
    none h = all_none x m.codes m.kinds m.typed (omega (arith, counted))

    -- It has no arguments.
    pub name_next : {c : ℕ} → n ≡ 2 → c ≡ name_length x → Going x t b l given firsts lasts end d (q + 1) e (to + c)
    name_next {c} h ec =
        let z : to + name_length x + length (all_bytes x m.codes) ≡ to + c = omega (arith, none h, ec) in
        subst (λ (a : ℕ). Going x t b l given firsts lasts end d (q + 1) e a) z m.next

    -- It has: there is room on the stack for what follows them.
    pub room : (n ≡ 2 → ⊥) → d < 64
    room h = omega (arith, m.deep)

    -- Its arguments are the row that is read next.
    row_of : {c i : ℕ} → c ≡ name_length x → i ≤ d + 1 → Wait x t b l given i (place + 4) (place + 2 + n) (to + c)
    row_of {c} ec h = record {
      codes = m.codes;
      kinds = m.kinds;
      known = placed.kinds;
      ends = omega (arith, counted);
      typed = m.typed;
      stands = subst (λ (a : ℕ). Stands b (to + a) (all_bytes x m.codes)) (sym ec) m.stands;
      deep = omega (arith, m.deep);
    }

    -- Nothing of its row follows them: they take its place.
    pub replaced : {c : ℕ} → q + 1 ≡ e → c ≡ name_length x → Going x t b l given firsts lasts end d (place + 4) (place + 2 + n) (to + c)
    unfolding row_of
    replaced h ec = record {
      row = row_of ec (omega arith);
      rest = subst (λ (a : ℕ). Rest x t b l given firsts lasts end d (to + a + length (all_bytes x m.codes))) (sym ec)
          (behind x t b l given firsts lasts end h m.next);
    }

    -- What follows them goes on the stack.
    pub pushed : {c : ℕ} → (n ≡ 2 → ⊥) → c ≡ name_length x → length firsts ≡ 64 → length lasts ≡ 64
        → Going x t b l given (set firsts d (q + 1)) (set lasts d e) end (d + 1) (place + 4) (place + 2 + n) (to + c)
    unfolding Rest moved row_of
    pushed {c} h ec ef el =
        let r = room h in
        let w = moved x t b l given (sym (get_or-set_same firsts d (q + 1) 0 (omega arith))) (sym (get_or-set_same lasts d e 0 (omega arith))) m.next.row in
        let k = rest_kept x t b l given firsts lasts end d (q + 1) e d _ (omega arith) m.next.rest in
        let y : Rest x t b l given (set firsts d (q + 1)) (set lasts d e) end (suc d) (to + name_length x + length (all_bytes x m.codes)) = (w, k) in
        let i : suc d ≡ d + 1 = omega arith in
        record {
          row = row_of ec (omega arith);
          rest = subst (λ (a : ℕ). Rest x t b l given (set firsts d (q + 1)) (set lasts d e) end (d + 1) (to + a + length (all_bytes x m.codes))) (sym ec)
              (subst (λ (a : ℕ). Rest x t b l given (set firsts d (q + 1)) (set lasts d e) end a (to + name_length x + length (all_bytes x m.codes))) i y);
        }

-- What is asked, and what holds at each turn, for all that may be asked.
abbrev pub Asked : Syntax → List ℕ → List ℕ → ℕ → ℕ → Type 0
Asked x t b from at = (f : Translation) × (given : Uses) × (u : Terms.Code) × (k : ℕ) × SkipAsks x t b from at f given u k

abbrev pub Holds : Syntax → List ℕ → List ℕ → ℕ → ℕ → List ℕ → List ℕ → ℕ → ℕ → ℕ → ℕ → Type 0
Holds x t b from at firsts lasts d q e to =
    (f : Translation) (given : Uses) (u : Terms.Code) (k : ℕ) → SkipAsks x t b from at f given u k
    → Going x t b f.source given firsts lasts (at + length (bytes_of x u)) d q e to

module _ (x : Syntax) (t b : List ℕ) (from at : ℕ) where
  -- Its kind stands in the source.
  pub asked_in : Asked x t b from at → from < 1024
  asked_in p = p.4.inside

  -- One kind in a row of its own.
  one_kind : Asked x t b from at → (k : ℕ) → k < 32 → source_byte t from ≡ k → KindsAt t from (k ∷ [])
  one_kind p k h e = record {
    inside = omega (arith, p.4.inside);
    stands = stood p.4.table.ready.long p.4.inside;
    below = below;
  }
    where
      stood : length t ≡ 26184 → from < 1024 → Stands t (16448 + from) (k ∷ [])
      stood l i = byte_stands t (16448 + from) k (omega arith) e

      below : (j : ℕ) → j < 1 → get_or (k ∷ []) j 0 < 32
      below zero i = h
      below (suc j) i = absurd (omega arith)

  -- At the start the row has the term alone.
  pub started : (firsts lasts : List ℕ) → Holds x t b from at firsts lasts 0 from (from + 1) at
  unfolding write_all levels_all Rest
  started firsts lasts f given u k h =
      let l : length (bytes_of x u ++ []) ≡ length (bytes_of x u) = ap length (append-nil (bytes_of x u)) in
      record {
        row = record {
          codes = cons u nil;
          kinds = k ∷ [];
          known = one_kind (f, given, u, k, h) k h.term.kind h.kind;
          ends = refl;
          typed = typed_cons h.term.typed typed_nil;
          stands = subst (λ (v : List ℕ). Stands b at v) (sym (append-nil (bytes_of x u))) h.term.stands;
          deep = omega (arith, h.levels);
        };
        rest = omega (arith, l);
      }

-- What the code must know at a turn: it is so for one that is asked.
module _ {x : Syntax} {t b : List ℕ} {from at : ℕ} {firsts lasts : List ℕ} {d q e to : ℕ} (p : Asked x t b from at)
    (g : Holds x t b from at firsts lasts d q e to) where
  now_going : Going x t b p.0.source p.1 firsts lasts (at + length (bytes_of x p.2)) d q e to
  now_going = g p.0 p.1 p.2 p.3 p.4

  -- The last row is read.
  pub turn_done : q ≡ e → d ≡ 0 → (f : Translation) (given : Uses) (u : Terms.Code) (k : ℕ) → SkipAsks x t b from at f given u k → to ≡ at + length (bytes_of x u)
  turn_done h z f given u k a = ended x t b f.source given firsts lasts (at + length (bytes_of x u)) h z (g f given u k a)

  -- A row comes off the stack.
  pub turn_popped : q ≡ e → (d ≡ 0 → ⊥) → Holds x t b from at firsts lasts (d - 1) (get_or firsts (d - 1) 0) (get_or lasts (d - 1) 0) to
  turn_popped h z f given u k a = popped x t b f.source given firsts lasts (at + length (bytes_of x u)) d h z (g f given u k a)

  -- So many rows the stack has room for.
  pub depth_in : d ≤ 64
  depth_in = omega (arith, now_going.row.deep)

  -- The bounds of a row that comes off the stack.
  pub popped_in : q ≡ e → (d ≡ 0 → ⊥) → (get_or firsts (d - 1) 0 ≤ 1024) × (get_or lasts (d - 1) 0 ≤ 1024)
  popped_in h z =
      let r = (turn_popped h z p.0 p.1 p.2 p.3 p.4).row in
      let i = r.known.inside in
      let o = r.ends in
      (omega arith, omega arith)

  -- The row is not at its end.
  module _ (more : q ≡ e → ⊥) where
    now_first : First x t b p.0.source p.1 firsts lasts (at + length (bytes_of x p.2)) d q e to
    now_first = first x t b p.0.source p.1 firsts lasts (at + length (bytes_of x p.2)) more now_going

    pub turn_row : (q < e) × (e ≤ 1024)
    turn_row = (now_first.inside, now_first.most)

    pub turn_to : to < length b
    turn_to = omega (arith, now_first.stands.inside, some_bytes x now_first.code)

    module _ {kind : ℕ} (ek : kind ≡ source_byte t q) where
      pub turn_kind : kind < 32
      turn_kind = omega (arith, ek, now_first.source, now_first.small)

      -- A leaf.
      module _ {r : Bool} (er : r ≡ leaf_at x t kind b to) (leaf : r ≡ true) {n : ℕ} (en : n ≡ leaf_length x b to) where
        pub turn_leaf_in : to + n ≤ length b
        turn_leaf_in =
            leaf_in x t b p.0 p.1 firsts lasts (at + length (bytes_of x p.2)) d q e to p.4.table more now_going ek (sym leaf ∙ er) en

        pub turn_leaf : Holds x t b from at firsts lasts d (q + 1) e (to + n)
        turn_leaf f given u k a =
            leaf_next x t b f given firsts lasts (at + length (bytes_of x u)) d q e to a.table more (g f given u k a) ek (sym leaf ∙ er) en

      -- A name.
      module _ {r : Bool} (er : r ≡ leaf_at x t kind b to) (name : r ≡ false) where
        named_for : (f : Translation) (given : Uses) (u : Terms.Code) (k : ℕ) → SkipAsks x t b from at f given u k
            → Named x t b f.source given firsts lasts (at + length (bytes_of x u)) d q e to kind
        named_for f given u k a =
            named x t b f given firsts lasts (at + length (bytes_of x u)) d q e to a.table more (g f given u k a) ek (sym name ∙ er)

        now_named : Named x t b p.0.source p.1 firsts lasts (at + length (bytes_of x p.2)) d q e to kind
        now_named = named_for p.0 p.1 p.2 p.3 p.4

        pub turn_name_in : {c : ℕ} → c ≡ name_length x → to + c ≤ length b
        turn_name_in ec = omega (arith, ec, now_named.there)

        pub turn_sign_in : {s : ℕ} → s ≡ sign_length x → to + s < length b
        turn_sign_in es = omega (arith, es, now_named.there, sign_less x)
          where
            sign_less : (y : Syntax) → sign_length y < name_length y
            sign_less Tree = omega arith
            sign_less Code = omega arith

        -- Its production is found.
        module _ {s place : ℕ} (es : s ≡ sign_length x) (byte : get_or b (to + s) 0 < 256)
            (ep : place ≡ index_entry t (production_key kind (get_or b (to + s) 0))) where
          now_placed : Production t place now_named.kinds
          now_placed = placed x t b p.0.source p.1 firsts lasts (at + length (bytes_of x p.2)) d q e to kind now_named es byte ep

          pub turn_place : place + 4 ≤ 1024
          turn_place = omega (arith, now_placed.kinds.inside)

          module _ {n : ℕ} (en : n ≡ source_byte t (place + 1)) where
            pub turn_end : place + 2 + n ≤ 1024
            turn_end = omega (arith, now_placed.kinds.inside, en, now_placed.count)

            pub turn_none : {c : ℕ} → n ≡ 2 → c ≡ name_length x → Holds x t b from at firsts lasts d (q + 1) e (to + c)
            turn_none h ec f given u k a =
                name_next x t b f.source given firsts lasts (at + length (bytes_of x u)) d q e to kind (named_for f given u k a) es byte ep en h ec

            pub turn_replaced : {c : ℕ} → q + 1 ≡ e → c ≡ name_length x → Holds x t b from at firsts lasts d (place + 4) (place + 2 + n) (to + c)
            turn_replaced h ec f given u k a =
                replaced x t b f.source given firsts lasts (at + length (bytes_of x u)) d q e to kind (named_for f given u k a) es byte ep en h ec

            pub turn_room : (n ≡ 2 → ⊥) → d < 64
            turn_room h =
                room x t b p.0.source p.1 firsts lasts (at + length (bytes_of x p.2)) d q e to kind now_named es byte ep en h

            pub turn_pushed : {c : ℕ} → (n ≡ 2 → ⊥) → c ≡ name_length x → length firsts ≡ 64 → length lasts ≡ 64
                → Holds x t b from at (set firsts d (q + 1)) (set lasts d e) (d + 1) (place + 4) (place + 2 + n) (to + c)
            turn_pushed h ec ef el f given u k a =
                pushed x t b f.source given firsts lasts (at + length (bytes_of x u)) d q e to kind (named_for f given u k a) es byte ep en h ec ef el
