-- Laws of codes in a row that are put out, each use replaced by the run of that argument.
use Prim.Native.Nat.{ℕ, zero, suc, ◌+◌, ◌-◌, ◌*◌, ◌/◌, ◌%◌, ◌≤◌, ◌<◌}
use mathlib.Core.Path.{◌≡◌, refl, sym, ap, ◌∙◌}
use mathlib.Core.Logic.{inl, ⊎_elim}
use mathlib.Core.Bool.{true, false, not}
use mathlib.Core.List.{List, [], ◌∷◌, ◌++◌, append-nil}
use mathlib.Core.Option.{some}
use native.Mathlib.Omega.{arith}
use lib.ListN.{length, get_or, get_elem?, set, drop, length-append, replicate, get_or-replicate}
use lib.Seq.{get_or-set_other}
use lib.Dec.{eqb}
use borrow.Author.Tests.{eq-eqb, ne_eqb}
use Rattle.format_fields.proofs.Truth.{none_some, some_inj, false_true, is_some_lem}
use Rattle.format_language.specs.Language.{Language, Range, range_of, arguments_of}
use Rattle.tree_reader.specs.Code as Terms
use Rattle.tree_reader.specs.Code.{node, token, argument, Codes, nil, cons, levels, levels_all}
use Rattle.tree_reader.specs.Typing.{Uses, kind_at, Typed, TypedAll, typed_node, typed_token, typed_argument, typed_nil, typed_cons}
use Rattle.tree_reader.specs.Syntax.{sign, write, write_all, code}
use Rattle.tree_reader.specs.declared.node.Syntax.{Syntax}
use Rattle.tree_reader.specs.declared.node.Syntax.TheVariants.{Tree, Code}
use Rattle.tree_reader.specs.Inner.Positions.{syntax_of, name_length}
use Rattle.format_translation.specs.Translation.{Translation, mapping_of, mapped}
use Rattle.format_translation.specs.Running.{from_one, substitute, run, run_operand, clauses_of, transform}
use Rattle.format_translation.proofs.Fitting.{uses_are}
use Rattle.format_translation.proofs.Preserved.{use_kind}
use Rattle.run_table.specs.Inner.Stands.{Stands, Wrote}
use Rattle.run_table.specs.Inner.Table.{index_entry, clause_entry, source_byte, body_byte, span_entry, SpansAt, SpansAllAt, Production, Clause, Ready}
use Rattle.run_emit.specs.declared.run.Used.{Used}
use Rattle.run_emit.specs.declared.run.Used.TheVariants.{Root, At}
use Rattle.run_emit.specs.Inner.Runs.{bytes_of, all_bytes, front, Has, Given, Term, Node, Row, Same, FindAsks, LastAsks, tree_level, uses_for, RowAsks, used_place, used_number, ArgumentAsks, PlacedAsks, TermAsks, NodeAt, NodeAsks, runs_of, Started, leaf_at, leaf_length, leaf_number, code_leaf_run, leaf_run, LeafLow, sign_length, known_start, row_bytes}
use Rattle.run_table.proofs.Standing.{stands_head, stands_both, wrote_none, wrote_past, wrote_then}
use Rattle.run_emit.proofs.Ends.{nth, nth_kind, nth_levels, nth_stands, kind_byte, same_learnt, node_learnt, same_after, front_next}
use Rattle.run_emit.proofs.Puts.{code_leaf_room}
use Rattle.run_emit.proofs.Skips.{no_kind}

-- The kind at a place that has one.
get_at : (ks : List ℕ) (i k : ℕ) → get_elem? ks i ≡ some k → (i < length ks) × (get_or ks i 0 ≡ k)
get_at [] i k e = none_some e
get_at (x ∷ ks) zero k e = (omega arith, some_inj e)
get_at (x ∷ ks) (suc i) k e = let h = get_at ks i k e in (omega (arith, h.0), h.1)

-- The same, at a position written in another way.
moved : (b : List ℕ) {at to : ℕ} (v : List ℕ) → at ≡ to → Stands b at v → Stands b to v
moved b v e h = rw e at h

-- What follows the first code of a row.
module _ (t : List ℕ) (c stop : ℕ) (l : Language) (r : Uses) where
  behind : (a : Terms.Code) (ts : Codes) {ks : List ℕ} (n : ℕ) → length (write code a) ≡ n → TypedAll l r ts ks
      → Stands t (17472 + c) (write code a ++ write_all code ts) → SpansAllAt t (c + length (write code a)) ts
      → stop ≡ c + length (write code a ++ write_all code ts) → stop ≤ 4096 → ((i : ℕ) → c ≤ i → i < stop → body_byte t i < 256)
      → Row t (c + n) stop l r ts ks
  behind a ts n e hs s z d i w =
      let la = length-append (write code a) (write_all code ts) in
      record {
        typed = hs;
        stands = moved t (write_all code ts) (omega arith) (stands_both t (17472 + c) (write code a) (write_all code ts) s).1;
        spans = rw (← e) z;
        ends = omega arith;
        inside = i;
        narrow = λ m h k. w m (omega arith) k;
      }

  -- The sign and the byte behind it.
  signs : (y z : ℕ) (v : List ℕ) → Stands t (17472 + c) (y ∷ z ∷ v) → (body_byte t c ≡ y) × (body_byte t (c + 1) ≡ z) × Stands t (17472 + (c + 2)) v
  signs y z v s =
      let a = stands_head t (17472 + c) y (z ∷ v) s in
      let b = stands_head t (17472 + (c + 1)) z v (moved t (z ∷ v) (omega arith) a.2) in
      (a.1, b.1, moved t v (omega arith) b.2)

  pub row_empty : (cs : Codes) {js : List ℕ} → Row t c stop l r cs js → stop ≤ c → cs ≡ nil
  unfolding write
  row_empty nil w h = refl
  row_empty (cons (node k p ts) us) w h = let e = w.ends in absurd (omega arith)
  row_empty (cons (token v) us) w h = let e = w.ends in absurd (omega arith)
  row_empty (cons (argument i zero) us) w h = let e = w.ends in absurd (omega arith)
  row_empty (cons (argument i (suc j)) us) w h = let e = w.ends in absurd (omega arith)

  row_two : (cs : Codes) {js : List ℕ} → Row t c stop l r cs js → c < stop → c + 2 ≤ stop
  unfolding write
  row_two nil w h = let e = w.ends in absurd (omega arith)
  row_two (cons (node k p ts) us) w h = let e = w.ends in omega arith
  row_two (cons (token v) us) w h = let e = w.ends in omega arith
  row_two (cons (argument i zero) us) w h = let e = w.ends in omega arith
  row_two (cons (argument i (suc j)) us) w h = let e = w.ends in omega arith

  -- The next code is a use of an argument, counted from 0.
  pub record Taken (cs : Codes) : Type 0 where
    pub place : ℕ
    pub by : ℕ
    pub kind : ℕ
    pub rest : Codes
    pub kinds : List ℕ
    pub is : cs ≡ cons (argument (suc place) by) rest
    pub byte : body_byte t (c + 1) ≡ suc place
    pub number : used_number t (At c) ≡ by
    pub typed : kind_at r (suc place) by ≡ some kind
    pub room : c + (body_byte t c - 1) ≤ stop
    pub more : (body_byte t c ≡ 3 → ⊥) → c + 2 < stop
    pub row : Row t (c + (body_byte t c - 1)) stop l r rest kinds

  -- The next code is a production: its inner codes, and what is behind it.
  pub record Named (cs : Codes) : Type 0 where
    pub kind : ℕ
    pub name : ℕ
    pub inner : Codes
    pub inner_kinds : List ℕ
    pub rest : Codes
    pub kinds : List ℕ
    pub is : cs ≡ cons (node kind name inner) rest
    pub byte : body_byte t (c + 1) ≡ name
    pub ends : c + 2 ≤ span_entry t c
    pub room : span_entry t c ≤ stop
    pub row : Row t (c + 2) (span_entry t c) l r inner inner_kinds
    pub behind : Row t (span_entry t c) stop l r rest kinds

  -- The next code is a token.
  pub record Valued (cs : Codes) : Type 0 where
    pub value : ℕ
    pub rest : Codes
    pub kinds : List ℕ
    pub is : cs ≡ cons (token value) rest
    pub high : body_byte t (c + 1) ≡ value / 256
    pub low : body_byte t (c + 2) ≡ value % 256
    pub room : c + 3 ≤ stop
    pub row : Row t (c + 3) stop l r rest kinds

  abbrev pub Next : Codes → Type 0
  Next cs = (body_byte t c ≡ 1 → Named cs) × (2 < body_byte t c → Taken cs) × ((body_byte t c ≡ 1 → ⊥) → body_byte t c ≤ 2 → Valued cs)

  next_node : (k p : ℕ) (ts us : Codes) (ks js : List ℕ) → TypedAll l r ts ks → Row t c stop l r (cons (node k p ts) us) js → TypedAll l r us (drop 1 js)
      → Next (cons (node k p ts) us)
  unfolding write SpansAt
  next_node k p ts us ks js h w hs =
      let s = signs 1 p (write_all code ts ++ write_all code us) w.stands in
      let b = stands_both t (17472 + (c + 2)) (write_all code ts) (write_all code us) s.2 in
      let z = w.spans in
      let d = w.ends in
      let i = w.inside in
      let la = length-append (write_all code ts) (write_all code us) in (
        λ e. record {
          kind = k;
          name = p;
          inner = ts;
          inner_kinds = ks;
          rest = us;
          kinds = drop 1 js;
          is = refl;
          byte = s.1;
          ends = omega (arith, z.0.0);
          room = omega (arith, z.0.0);
          row = record { typed = h; stands = b.0; spans = z.0.1; ends = omega (arith, z.0.0); inside = omega (arith, z.0.0); narrow = λ m a b. w.narrow m (omega arith) (omega (arith, z.0.0)) };
          behind = rw z.0.0 (behind (node k p ts) us (length (write code (node k p ts))) refl hs w.stands z.1 d i w.narrow);
        },
        (λ e. absurd (omega (arith, s.0))),
        λ e g. absurd (e s.0),
      )

  next_token : (v : ℕ) (us : Codes) (js : List ℕ) → Row t c stop l r (cons (token v) us) js → TypedAll l r us (drop 1 js) → Next (cons (token v) us)
  unfolding write SpansAt
  next_token v us js w hs =
      let s = signs 2 (v / 256) (v % 256 ∷ write_all code us) w.stands in
      let b = stands_head t (17472 + (c + 2)) (v % 256) (write_all code us) s.2 in
      let z = w.spans in
      let d = w.ends in (
        (λ e. absurd (omega (arith, s.0))),
        (λ e. absurd (omega (arith, s.0))),
        λ e g. record {
          value = v;
          rest = us;
          kinds = drop 1 js;
          is = refl;
          high = s.1;
          low = b.1;
          room = omega arith;
          row = behind (token v) us 3 refl hs w.stands z.1 d w.inside w.narrow;
        },
      )

  next_plain : (i k : ℕ) (us : Codes) (js : List ℕ) → kind_at r (suc i) 0 ≡ some k → Row t c stop l r (cons (argument (suc i) 0) us) js → TypedAll l r us (drop 1 js)
      → Next (cons (argument (suc i) 0) us)
  unfolding write SpansAt used_number
  next_plain i k us js h w hs =
      let s = signs 3 (suc i) (write_all code us) w.stands in
      let z = w.spans in
      let d = w.ends in
      let y = s.0 in (
        (λ e. absurd (omega arith)),
        (λ e. record {
          place = i;
          by = 0;
          kind = k;
          rest = us;
          kinds = drop 1 js;
          is = refl;
          byte = s.1;
          number = rw (eq-eqb (body_byte t c) 3 y);
          typed = h;
          room = omega arith;
          more = λ n. absurd (n y);
          row = rw y (behind (argument (suc i) 0) us 2 refl hs w.stands z.1 d w.inside w.narrow);
        }),
        λ e g. absurd (omega arith),
      )

  next_numbered : (i m k : ℕ) (us : Codes) (js : List ℕ) → kind_at r (suc i) (suc m) ≡ some k → Row t c stop l r (cons (argument (suc i) (suc m)) us) js
      → TypedAll l r us (drop 1 js) → Next (cons (argument (suc i) (suc m)) us)
  unfolding write SpansAt used_number
  next_numbered i m k us js h w hs =
      let s = signs 4 (suc i) (suc m ∷ write_all code us) w.stands in
      let b = stands_head t (17472 + (c + 2)) (suc m) (write_all code us) s.2 in
      let z = w.spans in
      let d = w.ends in
      let y = s.0 in (
        (λ e. absurd (omega arith)),
        (λ e. record {
          place = i;
          by = suc m;
          kind = k;
          rest = us;
          kinds = drop 1 js;
          is = refl;
          byte = s.1;
          number = rw (ne_eqb (body_byte t c) 3 (λ q. omega arith)) b.1;
          typed = h;
          room = omega arith;
          more = λ n. omega arith;
          row = rw y (behind (argument (suc i) (suc m)) us 3 refl hs w.stands z.1 d w.inside w.narrow);
        }),
        λ e g. absurd (omega arith),
      )

  next_code : {a : Terms.Code} {k : ℕ} {us : Codes} {js : List ℕ} → Typed l r a k → TypedAll l r us js → Row t c stop l r (cons a us) (k ∷ js) → Next (cons a us)
  next_code {us = us} {js = js} (typed_node {k = k} {p = p} {t = ts} {ks = ks} e h) hs w = next_node k p ts us ks (k ∷ js) h w hs
  next_code {us = us} {js = js} (typed_token {v = v} {k = k} e h) hs w = next_token v us (k ∷ js) w hs
  next_code (typed_argument {i = zero} e) hs w = none_some e
  next_code {us = us} {js = js} (typed_argument {i = suc i} {j = zero} {k = k} e) hs w = next_plain i k us (k ∷ js) e w hs
  next_code {us = us} {js = js} (typed_argument {i = suc i} {j = suc m} {k = k} e) hs w = next_numbered i m k us (k ∷ js) e w hs

  next_by : {cs : Codes} {js : List ℕ} → TypedAll l r cs js → Row t c stop l r cs js → c < stop → Next cs
  unfolding write
  next_by typed_nil w h = let e = w.ends in absurd (omega arith)
  next_by (typed_cons h hs) w i = next_code h hs w

  pub next : {cs : Codes} {js : List ℕ} → Row t c stop l r cs js → c < stop → Next cs
  next w h = next_by w.typed w h

-- The bytes of a row, from the first code on.
module _ (x : Syntax) (f : Translation) (ts : Codes) where
  pub row_use : (i m : ℕ) (us : Codes) → row_bytes x f ts (cons (argument (suc i) m) us) ≡ bytes_of x (run_operand (clauses_of f) ts i m) ++ row_bytes x f ts us
  unfolding write substitute from_one
  row_use i m us = refl

  pub row_token : (v high low : ℕ) (us : Codes) → high ≡ v / 256 → low ≡ v % 256
      → row_bytes x f ts (cons (token v) us) ≡ (sign (syntax_of x) 2 ++ high ∷ low ∷ []) ++ row_bytes x f ts us
  unfolding write substitute
  row_token v high low us a b = rw (a, b)

  pub row_node : (k p : ℕ) (is us : Codes) → row_bytes x f ts (cons (node k p is) us) ≡ (sign (syntax_of x) 1 ++ p ∷ []) ++ (row_bytes x f ts is ++ row_bytes x f ts us)
  unfolding write substitute
  row_node k p is us = by x
    where
      by : (x : Syntax) → row_bytes x f ts (cons (node k p is) us) ≡ (sign (syntax_of x) 1 ++ p ∷ []) ++ (row_bytes x f ts is ++ row_bytes x f ts us)
      by Tree = refl
      by Code = refl

  pub row_nil : row_bytes x f ts nil ≡ []
  unfolding write substitute
  row_nil = refl

  pub row_one : (a : Terms.Code) → row_bytes x f ts (cons a nil) ≡ bytes_of x (substitute (runs_of f ts) a)
  unfolding write substitute
  row_one a = append-nil (bytes_of x (substitute (runs_of f ts) a))

-- A row that is partly put out: what is left of it, and what was put out so far.
pub record Going (x : Syntax) (t input ends before state : List ℕ) (c stop left : ℕ) (f : Translation) (given : Uses) (ts : Codes) (ks : List ℕ) (cs : Codes) (o mid : List ℕ) (pos p : ℕ) : Type 0 where
  pub rest : Codes
  pub kinds : List ℕ
  pub asks : RowAsks x t input ends state c stop left f given ts ks rest kinds
  pub same : Same before state
  pub goes : (after : List ℕ) (e : ℕ) → Wrote (row_bytes x f ts rest) mid after p e → Wrote (row_bytes x f ts cs) o after pos e

pub same_self : (s : List ℕ) → Same s s
same_self s = record { from = refl; start = refl }

-- What an argument that was put out gives.
abbrev pub ArgumentGives : (x : Syntax) (t input ends before after : List ℕ) (c left : ℕ) (o end : List ℕ) (pos e : ℕ) → Type 0
ArgumentGives x t input ends before after c left o end pos e =
    (f : Translation) (given : Uses) (ts : Codes) (ks : List ℕ) → ArgumentAsks x t input ends before c left f given ts ks
    → Wrote (bytes_of x (run_operand (clauses_of f) ts (used_place t c) (used_number t (At c)))) o end pos e × Node x t input after f.source given ts ks × Same before after

-- What a row that was put out gives.
abbrev pub RowGives : (x : Syntax) (t input ends before after : List ℕ) (at stop left : ℕ) (o end : List ℕ) (pos e : ℕ) → Type 0
RowGives x t input ends before after at stop left o end pos e =
    (f : Translation) (given : Uses) (ts : Codes) (ks : List ℕ) (cs : Codes) (js : List ℕ) → RowAsks x t input ends before at stop left f given ts ks cs js
    → Wrote (row_bytes x f ts cs) o end pos e × Node x t input after f.source given ts ks × Same before after

-- What is known of a row in the middle, whatever it is a row of.
abbrev pub RowHeld : (x : Syntax) (t input ends before state : List ℕ) (at stop left c : ℕ) (o mid : List ℕ) (pos p : ℕ) → Type 0
RowHeld x t input ends before state at stop left c o mid pos p =
    (f : Translation) (given : Uses) (ts : Codes) (ks : List ℕ) (cs : Codes) (js : List ℕ) → RowAsks x t input ends before at stop left f given ts ks cs js
    → Going x t input ends before state c stop left f given ts ks cs o mid pos p

-- What is asked for a row, of some translation.
abbrev pub RowAsked : (x : Syntax) (t input ends before : List ℕ) (at stop left : ℕ) → Type 0
RowAsked x t input ends before at stop left =
    (f : Translation) × (given : Uses) × (ts : Codes) × (ks : List ℕ) × (cs : Codes) × (js : List ℕ) × RowAsks x t input ends before at stop left f given ts ks cs js

pub asked : {x : Syntax} {t input ends before state : List ℕ} {at stop left c : ℕ} {o mid : List ℕ} {pos p : ℕ}
    → RowHeld x t input ends before state at stop left c o mid pos p → (w : RowAsked x t input ends before at stop left)
    → Going x t input ends before state c stop left w.0 w.1 w.2 w.3 w.4 o mid pos p
asked h w = h w.0 w.1 w.2 w.3 w.4 w.5 w.6

pub going_start : (x : Syntax) (t input ends state : List ℕ) (at stop left : ℕ) (o : List ℕ) (pos : ℕ)
    → RowHeld x t input ends state state at stop left at o o pos pos
going_start x t input ends state at stop left o pos f given ts ks cs js a =
    record { rest = cs; kinds = js; asks = a; same = same_self state; goes = λ after e w. w }

module _ {x : Syntax} {t input ends before state : List ℕ} {c stop left : ℕ} {f : Translation} {given : Uses} {ts : Codes} {ks : List ℕ} {cs : Codes} {o mid : List ℕ} {pos p : ℕ}
    (g : Going x t input ends before state c stop left f given ts ks cs o mid pos p) where
  -- At the end of the row.
  pub going_end : stop ≤ c → Wrote (row_bytes x f ts cs) o mid pos p × Node x t input state f.source given ts ks × Same before state
  going_end h =
      let e = row_empty t c stop f.target (uses_for f ks) g.rest g.asks.row h in
      let w : Wrote (row_bytes x f ts g.rest) mid mid p p = rw (e, row_nil x f ts) (wrote_none mid p) in
      (g.goes mid p w, g.asks.node, g.same)

  -- Past the end of the output.
  pub going_full : length mid < p → Wrote (row_bytes x f ts cs) o mid pos p × Node x t input state f.source given ts ks × Same before state
  going_full h = (g.goes mid p (wrote_past (row_bytes x f ts g.rest) mid p h), g.asks.node, g.same)

  -- Bytes v were put out, and what follows them is to be put out.
  goes_on : (v w : List ℕ) → row_bytes x f ts g.rest ≡ v ++ w → (end : List ℕ) (e : ℕ) → Wrote v mid end p e
      → (after : List ℕ) (d : ℕ) → Wrote w end after e d → Wrote (row_bytes x f ts cs) o after pos d
  goes_on v w is end e h after d k = g.goes after d (rw is (wrote_then v w mid end after p e d h k))

  module _ (more : c < stop) where
    nexts : Next t c stop f.target (uses_for f ks) g.rest
    nexts = next t c stop f.target (uses_for f ks) g.asks.row more

    pub next_two : c + 1 < stop
    next_two = let j = row_two t c stop f.target (uses_for f ks) g.rest g.asks.row more in omega arith

    pub next_below : c + 1 < 4096
    next_below = let i = g.asks.row.inside in let j = row_two t c stop f.target (uses_for f ks) g.rest g.asks.row more in omega arith

    -- Bytes of the body are bytes.
    pub next_narrow : {b i : ℕ} → b ≡ body_byte t i → c ≤ i → i < stop → b < 256
    next_narrow {b} {i} e h k = let n = g.asks.row.narrow i h k in omega arith

    -- The rest of the row, behind its next code.
    onward : (state' : List ℕ) (c' : ℕ) (us : Codes) (js : List ℕ) → Node x t input state' f.source given ts ks → Row t c' stop f.target (uses_for f ks) us js
        → levels_all us + 2 ≤ left % tree_level → RowAsks x t input ends state' c' stop left f given ts ks us js
    onward state' c' us js n w h = record {
      table = g.asks.table;
      kept = g.asks.kept;
      node = n;
      row = w;
      most = g.asks.most;
      nodes = g.asks.nodes;
      codes = h;
    }

    levels_behind : (a : Terms.Code) (us : Codes) → g.rest ≡ cons a us → (levels a + 2 ≤ left % tree_level) × (levels_all us + 2 ≤ left % tree_level)
    unfolding levels
    levels_behind a us e =
        let h : levels_all (cons a us) + 2 ≤ left % tree_level = rw e at g.asks.codes in
        (omega arith, omega arith)

    -- The next code is a use of an argument.
    module _ {sign : ℕ} (es : sign ≡ body_byte t c) (is : 2 < sign) where
      used : Taken t c stop f.target (uses_for f ks) g.rest
      used = nexts.1 (omega arith)

      pub argument_some : 2 < left % tree_level
      unfolding levels
      argument_some = let h = (levels_behind _ used.rest used.is).0 in omega arith

      place_is : used_place t c ≡ used.place
      place_is = let b = used.byte in omega arith

      used_has : (used.place < length ks) × Has f (get_or ks used.place 0) used.by
      used_has =
          let q = use_kind (mapping_of f.body) ks used.place used.by used.kind used.typed in
          let h = get_at ks used.place q.0 q.1 in
          (h.0, rw h.1 (is_some_lem _ q.2))

      pub argument_asks : ArgumentAsks x t input ends state c (left - 1) f given ts ks
      argument_asks = record {
        table = g.asks.table;
        kept = g.asks.kept;
        node = g.asks.node;
        most = g.asks.most;
        nodes = let n = g.asks.nodes in let h = argument_some in omega arith;
        more = let h = argument_some in omega arith;
        room = (let h = next_below in omega arith, λ n. let h = used.more n in let i = g.asks.row.inside in omega arith);
        some = let b = used.byte in omega arith;
        place = rw place_is used_has.0;
        has = rw (place_is, used.number) used_has.1;
      }

      bytes_used : row_bytes x f ts g.rest ≡ bytes_of x (run_operand (clauses_of f) ts (used_place t c) (used_number t (At c))) ++ row_bytes x f ts used.rest
      bytes_used = ap (row_bytes x f ts) used.is ∙ rw (place_is, used.number) (row_use x f ts used.place used.by used.rest)

      pub argument_turn : {after end : List ℕ} {e : ℕ} → ArgumentGives x t input ends state after c (left - 1) mid end p e
          → Going x t input ends before after (c + (sign - 1)) stop left f given ts ks cs o end pos e
      argument_turn {after} {end} {e} gives =
          let w = gives f given ts ks argument_asks in
          rw es record {
            rest = used.rest;
            kinds = used.kinds;
            asks = onward after (c + (body_byte t c - 1)) used.rest used.kinds w.1 used.row (levels_behind _ used.rest used.is).1;
            same = same_after g.same w.2;
            goes = goes_on _ (row_bytes x f ts used.rest) bytes_used end e w.0;
          }

    -- The next code is a token.
    module _ (not-name : body_byte t c ≡ 1 → ⊥) (not-argument : body_byte t c ≤ 2) where
      valued : Valued t c stop f.target (uses_for f ks) g.rest
      valued = nexts.2 not-name not-argument

      pub token_three : c + 2 < stop
      token_three = let w = valued.room in omega arith

      pub token_room : c + 2 < 4096
      token_room = let i = g.asks.row.inside in let w = valued.room in omega arith

      module _ {high low : ℕ} (eh : high ≡ body_byte t (c + 1)) (el : low ≡ body_byte t (c + 2)) where
        bytes_token : row_bytes x f ts g.rest ≡ (sign (syntax_of x) 2 ++ high ∷ low ∷ []) ++ row_bytes x f ts valued.rest
        bytes_token = ap (row_bytes x f ts) valued.is ∙ row_token x f ts valued.value high low valued.rest (eh ∙ valued.high) (el ∙ valued.low)

        pub token_turn : {end : List ℕ} {e : ℕ} → Wrote (sign (syntax_of x) 2 ++ high ∷ low ∷ []) mid end p e
            → Going x t input ends before state (c + 3) stop left f given ts ks cs o end pos e
        token_turn {end} {e} w = record {
          rest = valued.rest;
          kinds = valued.kinds;
          asks = onward state (c + 3) valued.rest valued.kinds g.asks.node valued.row (levels_behind _ valued.rest valued.is).1;
          same = g.same;
          goes = goes_on _ (row_bytes x f ts valued.rest) bytes_token end e w;
        }

    -- The next code is a production.
    module _ (is : body_byte t c ≡ 1) where
      named : Named t c stop f.target (uses_for f ks) g.rest
      named = nexts.0 is

      pub named_room : (c + 2 ≤ span_entry t c) × (span_entry t c ≤ stop)
      named_room = (named.ends, named.room)

      inner_levels : suc (levels_all named.inner) + 2 ≤ left % tree_level
      unfolding levels
      inner_levels = (levels_behind _ named.rest named.is).0

      pub named_some : 2 < left % tree_level
      named_some = let h = inner_levels in omega arith

      inner_asks : RowAsks x t input ends state (c + 2) (span_entry t c) (left - 1) f given ts ks named.inner named.inner_kinds
      inner_asks =
          let n = g.asks.nodes in
          let h = inner_levels in
          record {
            table = g.asks.table;
            kept = g.asks.kept;
            node = g.asks.node;
            row = named.row;
            most = g.asks.most;
            nodes = omega arith;
            codes = omega arith;
          }

      pub named_asks : {fin : ℕ} → fin ≡ span_entry t c
          → (us : Codes) × (js : List ℕ) × RowAsks x t input ends state (c + 2) fin (left - 1) f given ts ks us js
      named_asks q = rw q (named.inner, named.inner_kinds, inner_asks)

      module _ {name : ℕ} (en : name ≡ body_byte t (c + 1)) {end : List ℕ} {e : ℕ} (w : Wrote (sign (syntax_of x) 1 ++ name ∷ []) mid end p e) where
        bytes_name : row_bytes x f ts g.rest ≡ (sign (syntax_of x) 1 ++ name ∷ []) ++ (row_bytes x f ts named.inner ++ row_bytes x f ts named.rest)
        bytes_name =
            ap (row_bytes x f ts) named.is ∙ rw (en, named.byte) (row_node x f ts named.kind named.name named.inner named.rest)

        -- Nothing is behind it: its inner codes are what is left.
        pub named_last : span_entry t c ≡ stop → Going x t input ends before state (c + 2) stop (left - 1) f given ts ks cs o end pos e
        named_last q =
            let z = row_empty t (span_entry t c) stop f.target (uses_for f ks) named.rest named.behind (omega arith) in
            let y : row_bytes x f ts named.inner ++ row_bytes x f ts named.rest ≡ row_bytes x f ts named.inner =
            ap (λ (us : Codes). row_bytes x f ts named.inner ++ row_bytes x f ts us) z ∙ rw (row_nil x f ts) (append-nil (row_bytes x f ts named.inner)) in
            record {
              rest = named.inner;
              kinds = named.inner_kinds;
              asks = rw q at inner_asks;
              same = g.same;
              goes = λ after d k. goes_on _ _ bytes_name end e w after d (rw y k);
            }

        -- Its inner codes were put out.
        pub inner_turn : {fin : ℕ} → fin ≡ span_entry t c → {after last : List ℕ} {d : ℕ} → RowGives x t input ends state after (c + 2) fin (left - 1) end last e d
            → Going x t input ends before after fin stop left f given ts ks cs o last pos d
        unfolding named_asks
        inner_turn {fin} ef {after} {last} {d} gives =
            let v = gives f given ts ks _ _ (named_asks ef).2 in
            rw ef record {
              rest = named.rest;
              kinds = named.kinds;
              asks = onward after (span_entry t c) named.rest named.kinds v.1 named.behind (levels_behind _ named.rest named.is).1;
              same = same_after g.same v.2;
              goes = λ far m k. goes_on _ _ bytes_name end e w far m (wrote_then _ (row_bytes x f ts named.rest) end last far e d m v.0 k);
            }

-- The end of a production's code that is alone in its row.
cons_tail : {a b : Terms.Code} {us vs : Codes} → cons a us ≡ cons b vs → us ≡ vs
cons_tail e = cc

pub root_span : (t : List ℕ) (c stop : ℕ) (l : Language) (r : Uses) (a : Terms.Code) (js : List ℕ) → Row t c stop l r (cons a nil) js → c < stop → body_byte t c ≡ 1
    → span_entry t c ≡ stop
unfolding write
root_span t c stop l r a js w more is =
    let n = (next t c stop l r w more).0 is in
    let z : nil ≡ n.rest = cons_tail n.is in
    let e = n.behind.ends in
    let k : length (write_all code n.rest) ≡ 0 = rw (← z) refl in
    omega arith

-- The arguments of a node.
module _ (l : Language) (given : Uses) where
  front_all : {ts : Codes} {ks : List ℕ} → TypedAll l given ts ks → front (length ks) ts ≡ ts
  unfolding front
  front_all typed_nil = refl
  front_all (typed_cons {a = a} h hs) = ap (cons a) (front_all hs)

  nth_run : (f : Translation) (j m : ℕ) {ts : Codes} {ks : List ℕ} → TypedAll l given ts ks → j < length ks
      → run_operand (clauses_of f) ts j m ≡ run (clauses_of f) m (nth ts j)
  unfolding nth run
  nth_run f j m typed_nil h = absurd (omega arith)
  nth_run f zero m (typed_cons h hs) k = refl
  nth_run f (suc j) m (typed_cons h hs) k = nth_run f j m hs (omega arith)

-- Where argument j of a node starts.
abbrev pub start_of : Syntax → List ℕ → Codes → ℕ → ℕ
start_of x state ts j = get_or state 0 0 + length (all_bytes x (front j ts))

module _ (x : Syntax) (t input state : List ℕ) (l : Language) (given : Uses) (ts : Codes) (ks : List ℕ) (h : Node x t input state l given ts ks) where
  pub known_start_lem : (j : ℕ) → j ≤ length ks → (known_start state j ≡ 0 → ⊥) → known_start state j ≡ start_of x state ts j
  unfolding front write
  known_start_lem zero i n = omega arith
  known_start_lem (suc j) i n =
      let f = h.few in
      let e : j + 1 ≡ suc j = omega arith in
      ⊎_elim (λ z. absurd (n (rw e at z))) (λ z. rw e at z) (h.known j (omega arith))

  module _ (j : ℕ) (i : j < length ks) where
    argument_term : Term x input (start_of x state ts j) l given (nth ts j) (get_or ks j 0)
    argument_term = record {
      typed = nth_kind h.typed j i;
      kind = h.kinds.below j i;
      stands = nth_stands (syntax_of x) h.typed j i input (get_or state 0 0) h.stands;
    }

    argument_place : (j < 8) × (get_or state 9 0 + j < 1024)
    argument_place = let f = h.few in let q = h.kinds.inside in (omega arith, omega arith)

    -- Where the argument ends is kept.
    end_kept : (e : ℕ) → e ≡ start_of x state ts j + length (bytes_of x (nth ts j)) → Node x t input (set state (j + 1) e) l given ts ks × Same state (set state (j + 1) e)
    end_kept e q =
        let s = argument_place.0 in
        let n : j + 1 ≡ suc j = omega arith in
        let w = front_next (syntax_of x) h.typed j i in
        (node_learnt h j e s (rw n (omega arith)), same_learnt h j e s)

  -- The end of all arguments.
  pub last_end : start_of x state ts (length ks) ≡ get_or state 0 0 + length (all_bytes x ts)
  last_end = rw (front_all l given h.typed)

-- The term at a position is a leaf: so many bytes, and these are its run.
pub record IsLeaf (x : Syntax) (f : Translation) (input : List ℕ) (at : ℕ) (u : Terms.Code) : Type 0 where
  pub long : leaf_length x input at ≡ length (bytes_of x u)
  pub runs : (j : ℕ) → leaf_run x input at j ≡ bytes_of x (run (clauses_of f) j u)
  pub low : x ≡ Code → leaf_number input at < 16

-- The term at a position is a production's.
pub record IsNode (x : Syntax) (f : Translation) (given : Uses) (input : List ℕ) (at : ℕ) (u : Terms.Code) (k : ℕ) : Type 0 where
  pub name : ℕ
  pub operands : Codes
  pub kinds : List ℕ
  pub is : u ≡ node k name operands
  pub there : arguments_of f.source k name ≡ some kinds
  pub typed : TypedAll f.source given operands kinds
  pub byte : get_or input (at + sign_length x) 0 ≡ name
  pub inside : at + sign_length x < length input
  pub stands : Stands input (at + name_length x) (all_bytes x operands)
  pub long : length (bytes_of x u) ≡ name_length x + length (all_bytes x operands)

-- What stands at a position where a term of kind k is to be.
pub record Tells (x : Syntax) (t : List ℕ) (f : Translation) (given : Uses) (input : List ℕ) (at : ℕ) (u : Terms.Code) (k : ℕ) : Type 0 where
  pub inside : at < length input
  pub leaf : leaf_at x t k input at ≡ true → IsLeaf x f input at u
  pub inner : leaf_at x t k input at ≡ false → IsNode x f given input at u k

-- A tree is no code.
tree_code : {A : Type 0} → Tree ≡ Code → A
tree_code e = let z : sign_length Tree ≡ sign_length Code = ap sign_length e in absurd (omega arith)

module _ (t : List ℕ) (f : Translation) (given : Uses) (input : List ℕ) (at : ℕ) (ready : Ready t f) where
  tree_node_lem : (k p : ℕ) (us : Codes) (ks : List ℕ) → arguments_of f.source k p ≡ some ks → TypedAll f.source given us ks → k < 32
      → Stands input at (bytes_of Tree (node k p us)) → Tells Tree t f given input at (node k p us) k
  unfolding write leaf_at
  tree_node_lem k p us ks e h i s =
      let z : eqb (index_entry t k) 0 ≡ true = eq-eqb (index_entry t k) 0 (ready.name k p ks i e) in
      let b = stands_head input at p (all_bytes Tree us) s in
      let n : at + 0 ≡ at = omega arith in
      record {
        inside = b.0;
        leaf = λ q. false_true (sym (ap not z) ∙ q);
        inner = λ q. record {
          name = p;
          operands = us;
          kinds = ks;
          is = refl;
          there = e;
          typed = h;
          byte = rw n b.1;
          inside = omega (arith, b.0);
          stands = b.2;
          long = omega arith;
        };
      }

  tree_token : (k v : ℕ) (c : Range) → range_of f.source k ≡ some c → k < 32 → Stands input at (bytes_of Tree (token v)) → Tells Tree t f given input at (token v) k
  unfolding write leaf_at leaf_length leaf_run run
  tree_token k v c e i s =
      let l = ready.class k c i e in
      let z : eqb (index_entry t k) 0 ≡ false = ne_eqb (index_entry t k) 0 (λ q. omega arith) in
      let b = stands_head input at (v / 256) (v % 256 ∷ []) s in
      let d = stands_head input (at + 1) (v % 256) [] b.2 in
      record {
        inside = b.0;
        leaf = λ q. record { long = refl; runs = λ j. rw (b.1, d.1); low = λ y. tree_code y };
        inner = λ q. false_true (sym q ∙ ap not z);
      }

  code_node_lem : (k p : ℕ) (us : Codes) (ks : List ℕ) → arguments_of f.source k p ≡ some ks → TypedAll f.source given us ks
      → Stands input at (bytes_of Code (node k p us)) → Tells Code t f given input at (node k p us) k
  unfolding write leaf_at
  code_node_lem k p us ks e h s =
      let a = stands_head input at 1 (p ∷ all_bytes Code us) s in
      let b = stands_head input (at + 1) p (all_bytes Code us) a.2 in
      let z : eqb (get_or input at 0) 1 ≡ true = eq-eqb (get_or input at 0) 1 a.1 in
      record {
        inside = a.0;
        leaf = λ q. false_true (sym (ap not z) ∙ q);
        inner = λ q. record {
          name = p;
          operands = us;
          kinds = ks;
          is = refl;
          there = e;
          typed = h;
          byte = b.1;
          inside = b.0;
          stands = moved input (all_bytes Code us) (omega arith) b.2;
          long = omega arith;
        };
      }

  -- A leaf of a code by its sign.
  module _ (k sign : ℕ) (u : Terms.Code) (inside : at < length input) (is : get_or input at 0 ≡ sign) where
    sign_is : (n : ℕ) → eqb (get_or input at 0) n ≡ eqb sign n
    sign_is n = ap (λ (m : ℕ). eqb m n) is

    code_leaf_lem : (sign ≡ 1 → ⊥) → IsLeaf Code f input at u → Tells Code t f given input at u k
    unfolding leaf_at
    code_leaf_lem n h =
        let z : eqb (get_or input at 0) 1 ≡ false = sign_is 1 ∙ ne_eqb sign 1 n in
        record { inside = inside; leaf = λ q. h; inner = λ q. false_true (sym q ∙ ap not z) }

  code_token : (k v : ℕ) → Stands input at (bytes_of Code (token v)) → Tells Code t f given input at (token v) k
  unfolding write leaf_length leaf_number code_leaf_run leaf_run run
  code_token k v s =
      let a = stands_head input at 2 (v / 256 ∷ v % 256 ∷ []) s in
      let b = stands_head input (at + 1) (v / 256) (v % 256 ∷ []) a.2 in
      let d = stands_head input (at + 2) (v % 256) [] (moved input (v % 256 ∷ []) (omega arith) b.2) in
      code_leaf_lem k 2 (token v) a.0 a.1 (λ q. omega arith) record {
        long = rw a.1;
        runs = λ j. rw (a.1, b.1, d.1);
        low = λ y. rw a.1 (omega arith);
      }

  code_plain : (k i : ℕ) → Stands input at (bytes_of Code (argument i 0)) → Tells Code t f given input at (argument i 0) k
  unfolding write leaf_length leaf_number code_leaf_run leaf_run run
  code_plain k i s =
      let a = stands_head input at 3 (i ∷ []) s in
      let b = stands_head input (at + 1) i [] a.2 in
      code_leaf_lem k 3 (argument i 0) a.0 a.1 (λ q. omega arith) record {
        long = rw a.1;
        runs = λ j. rw (a.1, b.1);
        low = λ y. rw a.1 (omega arith);
      }

  code_numbered : (k i m : ℕ) → suc m < 16 → Stands input at (bytes_of Code (argument i (suc m))) → Tells Code t f given input at (argument i (suc m)) k
  unfolding write leaf_length leaf_number code_leaf_run leaf_run run
  code_numbered k i m h s =
      let a = stands_head input at 4 (i ∷ suc m ∷ []) s in
      let b = stands_head input (at + 1) i (suc m ∷ []) a.2 in
      let d = stands_head input (at + 2) (suc m) [] (moved input (suc m ∷ []) (omega arith) b.2) in
      code_leaf_lem k 4 (argument i (suc m)) a.0 a.1 (λ q. omega arith) record {
        long = rw a.1;
        runs = λ j. rw (a.1, b.1, d.1);
        low = λ y. rw (a.1, d.1) h;
      }

  tells_by : (x : Syntax) {u : Terms.Code} {k : ℕ} → Given x t f given → Typed f.source given u k → k < 32 → Stands input at (bytes_of x u)
      → Tells x t f given input at u k
  tells_by Tree g (typed_node {k = k} {p = p} {t = us} {ks = ks} e h) i s = tree_node_lem k p us ks e h i s
  tells_by Tree g (typed_token {v = v} {k = k} {c = c} e h) i s = tree_token k v c e i s
  tells_by Tree g (typed_argument {i = a} {j = m} e) i s = no_kind a m (ap (λ (l : Uses). kind_at l a m) (sym (g.plain refl)) ∙ e)
  tells_by Code g (typed_node {k = k} {p = p} {t = us} {ks = ks} e h) i s = code_node_lem k p us ks e h s
  tells_by Code g (typed_token {v = v} {k = k} {c = c} e h) i s = code_token k v s
  tells_by Code g (typed_argument {i = a} {j = zero} {k = k} e) i s = code_plain k a s
  tells_by Code g (typed_argument {i = a} {j = suc m} {k = k} e) i s = code_numbered k a m (g.uses a (suc m) k e) s

pub tells : (x : Syntax) (t : List ℕ) (f : Translation) (given : Uses) (input : List ℕ) (at : ℕ) (u : Terms.Code) (k : ℕ) → Given x t f given → Term x input at f.source given u k
    → Tells x t f given input at u k
tells x t f given input at u k g h = tells_by t f given input at g.ready x g h.typed h.kind h.stands

-- number_at, a return at a time.
module _ (t : List ℕ) {used : Used} where
  pub used_root : {n : ℕ} → used ≡ Root n → n ≡ used_number t used
  unfolding used_number
  used_root e = rw e

  pub used_zero : {c sign : ℕ} → used ≡ At c → sign ≡ body_byte t c → sign ≡ 3 → 0 ≡ used_number t used
  unfolding used_number
  used_zero {c} e s is = rw (e, eq-eqb (body_byte t c) 3 (sym s ∙ is))

  pub used_behind : {c d sign n : ℕ} → used ≡ At c → used ≡ At d → sign ≡ body_byte t c → (sign ≡ 3 → ⊥) → n ≡ body_byte t (d + 2) → n ≡ used_number t used
  unfolding used_number
  used_behind {c} {d} e h s is q = let i : c ≡ d = cc in rw (h, ne_eqb (body_byte t d) 3 (λ z. is (s ∙ ap (λ (n : ℕ). body_byte t n) i ∙ z))) q

-- The number of the root.
root_number : (t : List ℕ) (n : ℕ) → used_number t (Root n) ≡ n
unfolding used_number
root_number t n = refl

-- A node of which nothing is known but where its argument kinds and its arguments start.
pub record Fresh (state : List ℕ) (from start : ℕ) : Type 0 where
  pub long : length state ≡ 10
  pub kinds : get_or state 9 0 ≡ from
  pub starts : get_or state 0 0 ≡ start
  pub none : (j : ℕ) → j < 8 → get_or state (j + 1) 0 ≡ 0

-- A new node.
pub fresh : (from start : ℕ) → Fresh (set (set (replicate 10 0) 9 from) 0 start) from start
fresh from start = record { long = refl; kinds = refl; starts = refl; none = by }
  where
    by : (j : ℕ) → j < 8 → get_or (set (set (replicate 10 0) 9 from) 0 start) (j + 1) 0 ≡ 0
    by j h =
        get_or-set_other (set (replicate 10 0) 9 from) 0 (j + 1) start 0 (λ z. omega arith)
        ∙ (get_or-set_other (replicate 10 0) 9 (j + 1) from 0 (λ z. omega arith) ∙ get_or-replicate 10 (j + 1) 0 0 (omega arith))

-- start_node: the production whose name stands at a position.
module _ {x : Syntax} {t input : List ℕ} {at k number : ℕ} {f : Translation} {given : Uses} {u : Terms.Code} (a : NodeAt x t input at k number f given u) where
  is_node : IsNode x f given input at u k
  is_node = (tells x t f given input at u k a.table a.term).inner a.inner

  pub name_inside : at + sign_length x < length input
  name_inside = is_node.inside

  name_long : name_length x ≡ sign_length x + 1
  name_long = by x
    where
      by : (x : Syntax) → name_length x ≡ sign_length x + 1
      by Tree = refl
      by Code = refl

  module _ {name n : ℕ} (es : n ≡ sign_length x) (en : name ≡ get_or input (at + n) 0) (small : name < 256) where
    is_name : name ≡ is_node.name
    is_name = en ∙ (ap (λ (i : ℕ). get_or input (at + i) 0) es ∙ is_node.byte)

    there : arguments_of f.source k name ≡ some is_node.kinds
    there = rw is_name is_node.there

    -- The production has a clause of the number.
    pub numbered_asks : {by : ℕ} → by ≡ number → (by ≡ 0 → ⊥)
        → (g : Translation) × (ks : List ℕ) × Ready t g × (arguments_of g.source k name ≡ some ks) × Has g k by × (0 < by)
    numbered_asks {by} e h = (f, is_node.kinds, a.table.ready, there, rw e a.has, nonzero by h)
      where
        nonzero : (m : ℕ) → (m ≡ 0 → ⊥) → 0 < m
        nonzero zero e = absurd (e refl)
        nonzero (suc m) e = omega arith

    started : {place c : ℕ} {before : List ℕ} → place ≡ index_entry t (32 + (k * 256 + name)) → before ≡ replicate 10 0
        → Clause t c (clauses_of f k name number) → Started x t input (set (set before 9 (place + 4)) 0 (at + n + 1)) at c number f given u
    unfolding levels run
    started {place} {c} {before} ep eb clause =
        let i = is_node in
        let production : Production t place i.kinds = rw ep (a.table.ready.production k name i.kinds a.term.kind small there) in
        let e : at + n + 1 ≡ at + name_length x = let l = name_long in omega arith in
        let new : Fresh (set (set before 9 (place + 4)) 0 (at + n + 1)) (place + 4) (at + name_length x) = rw (eb, ← e) (fresh (place + 4) (at + n + 1)) in
        let count = production.count in
        let back : place + 4 - 3 ≡ place + 1 = omega arith in
        let long = i.long in
        let first = new.starts in
        record {
          operands = i.operands;
          kinds = i.kinds;
          body = clauses_of f k name number;
          result = mapped f.body k number;
          node = record {
            long = new.long;
            kinds = rw new.kinds production.kinds;
            few = production.few;
            typed = i.typed;
            stands = rw first i.stands;
            some = rw first (let s = name_long in omega arith);
            known = λ j h. inl (new.none j h);
          };
          clause = clause;
          typed = rw (← uses_are f k name i.kinds there) (a.table.ready.typed k name number i.kinds a.term.kind small there a.has);
          runs = ap (run (clauses_of f) number) i.is ∙ ap (λ (m : ℕ). substitute (runs_of f i.operands) (clauses_of f k m number)) (sym is_name);
          deep = ap levels i.is;
          ends = omega arith;
          from = rw new.kinds (omega arith);
          count = rw (new.kinds, back) count;
        }

    pub started_zero : {place c by : ℕ} {before : List ℕ} → place ≡ index_entry t (32 + (k * 256 + name)) → before ≡ replicate 10 0 → by ≡ number → by ≡ 0
        → c ≡ clause_entry t (32 + (k * 256 + name)) → Started x t input (set (set before 9 (place + 4)) 0 (at + n + 1)) at (c + 4) number f given u
    started_zero ep eb e z ec =
        started ep eb (rw (sym e ∙ z, ec) (a.table.ready.clause k name is_node.kinds a.term.kind small there))

    pub started_other : {place c by : ℕ} {before : List ℕ} → place ≡ index_entry t (32 + (k * 256 + name)) → before ≡ replicate 10 0 → by ≡ number
        → ((g : Translation) (ks : List ℕ) → Ready t g → arguments_of g.source k name ≡ some ks → Has g k by
        → Clause t c (clauses_of g k name by)) → Started x t input (set (set before 9 (place + 4)) 0 (at + n + 1)) at c number f given u
    started_other ep eb e gives = started ep eb (rw (← e) (gives f is_node.kinds a.table.ready there (rw e a.has)))

-- run_node: the code of a clause.
module _ {x : Syntax} {t input ends state : List ℕ} {at k number left c stop : ℕ} {f : Translation} {given : Uses} {u : Terms.Code}
    (a : NodeAsks x t input ends at k number left f given u) (s : Started x t input state at c number f given u) (es : stop ≡ c + length (write code s.body)) where
  pub node_some : 32 ≤ left
  node_some = let l = a.nodes in let d = s.deep in omega arith

  code_some : (c : Terms.Code) → 0 < length (write code c)
  unfolding write
  code_some (node k p ts) = omega arith
  code_some (token v) = omega arith
  code_some (argument i zero) = omega arith
  code_some (argument i (suc j)) = omega arith

  clause_more : c < stop
  clause_more = let y = code_some s.body in omega arith

  clause_row : Row t c stop f.target (uses_for f s.kinds) (cons s.body nil) (s.result ∷ [])
  unfolding write SpansAt
  clause_row =
      let z = append-nil (write code s.body) in
      let i = s.clause.inside in
      record {
        typed = typed_cons s.typed typed_nil;
        stands = rw z s.clause.stands;
        spans = (s.clause.spans, tt);
        ends = rw z es;
        inside = omega arith;
        narrow = λ m h y. s.clause.narrow m h (omega arith);
      }

  -- What is asked of the whole code: so many levels less are left that its own fit.
  clause_asks : (less : ℕ) → 14 ≤ less → less ≤ 15 → levels s.body + less ≤ 30
      → RowAsks x t input ends state c stop (left - less) f given s.operands s.kinds (cons s.body nil) (s.result ∷ [])
  unfolding levels
  clause_asks less from to fits = record {
    table = a.there.table;
    kept = a.kept;
    node = s.node;
    row = clause_row;
    most = let m = a.most in let d = s.deep in omega arith;
    nodes = let l = a.nodes in let z = a.whole in let d = s.deep in omega arith;
    codes = let l = a.nodes in let z = a.whole in let d = s.deep in omega arith;
  }

  -- The clause's code, of which so much is put out.
  abbrev pub NodeGoing : ℕ → List ℕ → List ℕ → ℕ → ℕ → Type 0
  NodeGoing to o mid pos p =
      Going x t input ends state state to stop (left - 15) f given s.operands s.kinds (cons s.body nil) o mid pos p

  -- Nothing is put out yet; the root takes a level.
  whole_going : (o : List ℕ) (pos : ℕ) → Going x t input ends state state c stop (left - 14) f given s.operands s.kinds (cons s.body nil) o o pos pos
  whole_going o pos =
      let w = s.clause.within in
      going_start x t input ends state c stop (left - 14) o pos f given _ _ _ _ (clause_asks 14 (omega arith) (omega arith) (omega arith))

  -- The same where the root is no production.
  root_low : (b : Terms.Code) → Stands t (17472 + c) (write code b) → (body_byte t c ≡ 1 → ⊥) → levels b ≤ 1
  unfolding write levels
  root_low (node k p ts) h n = absurd (n (stands_head t (17472 + c) 1 _ h).1)
  root_low (token v) h n = omega arith
  root_low (argument i j) h n = omega arith

  pub node_going : (body_byte t c ≡ 1 → ⊥) → (o : List ℕ) (pos : ℕ) → NodeGoing c o o pos pos
  node_going n o pos =
      let w = root_low s.body s.clause.stands n in
      going_start x t input ends state c stop (left - 15) o pos f given _ _ _ _ (clause_asks 15 (omega arith) (omega arith) (omega arith))

  pub root_narrow : {b : ℕ} → b ≡ body_byte t (c + 1) → b < 256
  root_narrow e = let g = whole_going [] 0 in next_narrow g clause_more e (omega arith) (next_two g clause_more)

  pub root_room : c + 1 < 4096
  root_room = next_below (whole_going [] 0) clause_more

  pub root_going : {o mid : List ℕ} {pos p name : ℕ} → body_byte t c ≡ 1 → name ≡ body_byte t (c + 1) → Wrote (sign (syntax_of x) 1 ++ name ∷ []) o mid pos p
      → NodeGoing (c + 2) o mid pos p
  root_going {o} {mid} {pos} {p} is en w =
      let g : Going x t input ends state state (c + 2) stop (left - 14 - 1) f given s.operands s.kinds (cons s.body nil) o mid pos p =
      named_last (whole_going o pos) clause_more is en w
      (root_span t c stop f.target (uses_for f s.kinds) s.body (s.result ∷ []) clause_row clause_more is) in
      let z : left - 14 - 1 ≡ left - 15 = omega arith in
      rw z at g

  -- The same, written in another way.
  pub going_as : {to to' : ℕ} {o mid mid' : List ℕ} {pos p p' : ℕ} → mid ≡ mid' → to ≡ to' → p ≡ p' → NodeGoing to' o mid' pos p' → NodeGoing to o mid pos p
  going_as em ec ep g = rw (em, ec, ep) g

  run_is : row_bytes x f s.operands (cons s.body nil) ≡ bytes_of x (run (clauses_of f) number u)
  run_is = row_one x f s.operands s.body ∙ ap (bytes_of x) (sym s.runs)

  -- Its codes were put out.
  module _ {to : ℕ} {o mid : List ℕ} {pos p : ℕ} (g : NodeGoing to o mid pos p) {after end : List ℕ} {e : ℕ} (gives : RowGives x t input ends state after to stop (left - 15) mid end p e) where
    given_codes : Wrote (row_bytes x f s.operands g.rest) mid end p e × Node x t input after f.source given s.operands s.kinds × Same state after
    given_codes = gives f given _ _ _ _ g.asks

    pub node_wrote : Wrote (bytes_of x (run (clauses_of f) number u)) o end pos e
    node_wrote = rw (← run_is) (g.goes end e given_codes.0)

    pub last_asks : LastAsks x t input ends after f given s.operands s.kinds
    last_asks =
        let z = given_codes.2.from in
        let m = a.most in
        let d = s.deep in
        record {
          asks = record { table = a.there.table; kept = a.kept; node = given_codes.1; levels = omega arith; number = omega arith };
          from = rw z s.from;
          count = rw z s.count;
        }

    pub node_end : {r : ℕ} → r ≡ get_or after 0 0 + length (all_bytes x s.operands) → r ≡ at + length (bytes_of x u)
    node_end e' = let z = given_codes.2.start in let y = s.ends in omega arith

-- What finding the start of an argument gives.
abbrev pub FindGives : (x : Syntax) (t input ends before after : List ℕ) (j e : ℕ) → Type 0
FindGives x t input ends before after j e =
    (f : Translation) (given : Uses) (ts : Codes) (ks : List ℕ) → FindAsks x t input ends before j f given ts ks
    → (e ≡ get_or before 0 0 + length (all_bytes x (front j ts))) × Node x t input after f.source given ts ks × Same before after

-- start_of: what is known of the start of an argument is right.
pub start_known : {x : Syntax} {t input ends state : List ℕ} {j at : ℕ} {f : Translation} {given : Uses} {ts : Codes} {ks : List ℕ} → FindAsks x t input ends state j f given ts ks
    → (at ≡ known_start state j) × (at ≡ 0 → ⊥) → (at ≡ get_or state 0 0 + length (all_bytes x (front j ts))) × Node x t input state f.source given ts ks × Same state state
start_known {x} {t} {input} {state = state} {j} {f = f} {given} {ts} {ks} a (e, h) =
    (e ∙ known_start_lem x t input state f.source given ts ks a.node j a.number (λ z. h (e ∙ z)), a.node, same_self state)

-- last_end
module _ {x : Syntax} {t input ends state : List ℕ} {f : Translation} {given : Uses} {ts : Codes} {ks : List ℕ} (a : LastAsks x t input ends state f given ts ks) where
  module _ {n : ℕ} (en : n ≡ source_byte t (get_or state 9 0 - 3)) where
    last_number : n - 2 ≡ length ks
    last_number = let c = a.count in omega arith

    pub last_find : FindAsks x t input ends state (n - 2) f given ts ks
    last_find = rw last_number a.asks

    pub last_known : {e : ℕ} → (e ≡ known_start state (n - 2)) × (e ≡ 0 → ⊥) → e ≡ get_or state 0 0 + length (all_bytes x ts)
    last_known (ee, h) =
        let c = last_number in
        ee ∙ (known_start_lem x t input state f.source given ts ks a.asks.node (n - 2) (omega arith) (λ z. h (ee ∙ z))
        ∙ (ap (start_of x state ts) last_number ∙ last_end x t input state f.source given ts ks a.asks.node))

    pub last_found : {after : List ℕ} {e : ℕ} → FindGives x t input ends state after (n - 2) e → e ≡ get_or state 0 0 + length (all_bytes x ts)
    last_found gives =
        (gives f given ts ks last_find).0 ∙ (ap (start_of x state ts) last_number ∙ last_end x t input state f.source given ts ks a.asks.node)

-- What the run of a production's term by a number gives.
abbrev pub NodeGives : (x : Syntax) (t input ends before after : List ℕ) (at k number left j : ℕ) (o end : List ℕ) (pos e : ℕ) → Type 0
NodeGives x t input ends before after at k number left j o end pos e =
    (f : Translation) (given : Uses) (u : Terms.Code) → NodeAsks x t input ends at k number left f given u
    → Wrote (bytes_of x (run (clauses_of f) number u)) o end pos e × (after ≡ set before (j + 1) (at + length (bytes_of x u)))

-- What an argument that starts at a position and was put out gives.
abbrev pub PlacedGives : (x : Syntax) (t input ends before after : List ℕ) (left j at c : ℕ) (o end : List ℕ) (pos e : ℕ) → Type 0
PlacedGives x t input ends before after left j at c o end pos e =
    (f : Translation) (given : Uses) (ts : Codes) (ks : List ℕ) → PlacedAsks x t input ends before left j at c f given ts ks
    → Wrote (bytes_of x (run_operand (clauses_of f) ts (used_place t c) (used_number t (At c)))) o end pos e × Node x t input after f.source given ts ks × Same before after

-- The start of the argument that is used at c was found, and its run is asked for and put out.
module _ {x : Syntax} {t input ends before : List ℕ} {c left b : ℕ} (eb : b ≡ body_byte t (c + 1)) where
  pub find_asks : {f : Translation} {given : Uses} {ts : Codes} {ks : List ℕ} → ArgumentAsks x t input ends before c left f given ts ks
      → FindAsks x t input ends before (b - 1) f given ts ks
  find_asks a =
      let n = a.place in
      record { table = a.table; kept = a.kept; node = a.node; levels = a.most; number = omega arith }

  pub placed : {f : Translation} {given : Uses} {ts : Codes} {ks : List ℕ} {state : List ℕ} {at : ℕ} → ArgumentAsks x t input ends before c left f given ts ks
      → FindGives x t input ends before state (b - 1) at → PlacedAsks x t input ends state left (b - 1) at c f given ts ks
  placed {f} {given} {ts} {ks} a gives =
      let w = gives f given ts ks (find_asks a) in
      record {
        asks = record {
          table = a.table;
          kept = a.kept;
          node = w.1;
          most = a.most;
          nodes = a.nodes;
          more = a.more;
          room = a.room;
          some = a.some;
          place = a.place;
          has = a.has;
        };
        used = ap (λ (n : ℕ). n - 1) eb;
        start = w.0 ∙ ap (λ (n : ℕ). n + length (all_bytes x (front (b - 1) ts))) (sym w.2.start);
      }

  pub placed_gives : {state after : List ℕ} {at : ℕ} {o end : List ℕ} {pos e : ℕ} → FindGives x t input ends before state (b - 1) at
      → PlacedGives x t input ends state after left (b - 1) at c o end pos e → ArgumentGives x t input ends before after c left o end pos e
  placed_gives finds gives f given ts ks a =
      let w = gives f given ts ks (placed a finds) in
      (w.0, w.1, same_after (finds f given ts ks (find_asks a)).2 w.2)

-- run_argument: the term that starts there.
module _ {x : Syntax} {t input ends state : List ℕ} {left j at c : ℕ} {f : Translation} {given : Uses} {ts : Codes} {ks : List ℕ}
    (a : PlacedAsks x t input ends state left j at c f given ts ks) where
  j_inside : j < length ks
  j_inside = rw a.used a.asks.place

  pub found_place : (j < 8) × (get_or state 9 0 + j < 1024)
  found_place = argument_place x t input state f.source given ts ks a.asks.node j j_inside

  module _ {kind : ℕ} (ek : kind ≡ source_byte t (get_or state 9 0 + j)) where
    kind_is : kind ≡ get_or ks j 0
    kind_is = ek ∙ kind_byte a.asks.node.kinds j j_inside

    found_term : Term x input at f.source given (nth ts j) kind
    found_term = rw (kind_is, a.start) (argument_term x t input state f.source given ts ks a.asks.node j j_inside)

    found_tells : Tells x t f given input at (nth ts j) kind
    found_tells = tells x t f given input at (nth ts j) kind a.asks.table found_term

    pub found_below : (kind < 32) × (at < length input)
    found_below = (found_term.kind, found_tells.inside)

    found_has : Has f kind (used_number t (At c))
    found_has = rw (kind_is, a.used) a.asks.has

    found_levels : levels (nth ts j) ≤ levels_all ts
    found_levels = nth_levels a.asks.node.typed j j_inside

    found_run : bytes_of x (run_operand (clauses_of f) ts (used_place t c) (used_number t (At c))) ≡ bytes_of x (run (clauses_of f) (used_number t (At c)) (nth ts j))
    found_run = rw (← a.used) (ap (bytes_of x) (nth_run f.source given f j (used_number t (At c)) a.asks.node.typed j_inside))

    found_kept : (e : ℕ) → e ≡ at + length (bytes_of x (nth ts j)) → Node x t input (set state (j + 1) e) f.source given ts ks × Same state (set state (j + 1) e)
    found_kept e q =
        end_kept x t input state f.source given ts ks a.asks.node j j_inside e (q ∙ ap (λ (n : ℕ). n + length (bytes_of x (nth ts j))) a.start)

    -- A leaf.
    module _ (is : leaf_at x t kind input at ≡ true) where
      leaf : IsLeaf x f input at (nth ts j)
      leaf = found_tells.leaf is

      pub leaf_room : at + leaf_length x input at ≤ length input
      leaf_room = let i = found_term.stands.inside in let l = leaf.long in omega arith

      pub leaf_low : x ≡ Code → LeafLow input at (used_number t (At c))
      leaf_low e = record { number = a.asks.table.numbers e kind (used_number t (At c)) found_has; used = leaf.low e }

      pub leaf_gives : {after o end : List ℕ} {pos e : ℕ} → Wrote (leaf_run x input at (used_number t (At c))) o end pos e → after ≡ set state (j + 1) (at + leaf_length x input at)
          → Wrote (bytes_of x (run_operand (clauses_of f) ts (used_place t c) (used_number t (At c)))) o end pos e × Node x t input after f.source given ts ks × Same state after
      leaf_gives w ea =
          let l = found_kept (at + leaf_length x input at) (ap (λ (m : ℕ). at + m) leaf.long) in
          (rw (found_run ∙ sym (leaf.runs (used_number t (At c)))) w, rw ea l.0, rw ea l.1)

    -- A production.
    module _ (is : leaf_at x t kind input at ≡ false) where
      pub found_asks : NodeAsks x t input ends at kind (used_number t (At c)) (left - left % tree_level) f given (nth ts j)
      found_asks =
          let l = a.asks.nodes in
          let m = found_levels in
          let h = a.asks.most in
          record {
            there = record { table = a.asks.table; term = found_term; inner = is; has = found_has };
            kept = a.asks.kept;
            most = omega arith;
            nodes = omega arith;
            whole = omega arith;
          }

      pub found_gives : {after o end : List ℕ} {pos e : ℕ} → NodeGives x t input ends state after at kind (used_number t (At c)) (left - left % tree_level) j o end pos e
          → Wrote (bytes_of x (run_operand (clauses_of f) ts (used_place t c) (used_number t (At c)))) o end pos e × Node x t input after f.source given ts ks × Same state after
      found_gives gives =
          let w = gives f given (nth ts j) found_asks in
          let l = found_kept (at + length (bytes_of x (nth ts j))) refl in
          (rw found_run w.0, rw w.1 l.0, rw w.1 l.1)

-- put_argument: a leaf of a tree and of a code.
module _ {x : Syntax} (input : List ℕ) (at : ℕ) where
  pub leaf_tree_put : (number : ℕ) {o end : List ℕ} {pos e : ℕ} → x ≡ Tree → Wrote (get_or input at 0 ∷ get_or input (at + 1) 0 ∷ []) o end pos e
      → Wrote (leaf_run x input at number) o end pos e
  unfolding leaf_run
  leaf_tree_put number q w = rw q w

  pub leaf_code_put : (number : ℕ) {by : ℕ} {o end : List ℕ} {pos e : ℕ} → x ≡ Code → by ≡ number → Wrote (code_leaf_run input at by) o end pos e
      → Wrote (leaf_run x input at number) o end pos e
  unfolding leaf_run
  leaf_code_put number q eb w = rw (q, ← eb) w

-- A leaf that lies in the input starts in it.
pub leaf_here : (x : Syntax) (input : List ℕ) (at : ℕ) → at + leaf_length x input at ≤ length input → at < length input
unfolding leaf_length
leaf_here Tree input at h = omega arith
leaf_here Code input at h = let r = code_leaf_room input at h in omega (arith, r)

-- The run of a whole term.
module _ {x : Syntax} {t input ends : List ℕ} {deep k number : ℕ} {f : Translation} {given : Uses} {u : Terms.Code} (a : TermAsks x t input ends deep k number f given u) where
  term_tells : Tells x t f given input 0 u k
  term_tells = tells x t f given input 0 u k a.table a.term

  pub term_below : (k < 32) × (0 < length input)
  term_below = (a.term.kind, term_tells.inside)

  transform_run : bytes_of x (transform f number u) ≡ bytes_of x (run (clauses_of f) number u)
  unfolding transform
  transform_run = refl

  module _ (is : leaf_at x t k input 0 ≡ true) where
    pub term_room : 0 + leaf_length x input 0 ≤ length input
    term_room = let i = a.term.stands.inside in let l = (term_tells.leaf is).long in omega arith

    pub term_low : x ≡ Code → LeafLow input 0 (used_number t (Root number))
    term_low e = rw (root_number t number) record { number = a.table.numbers e k number a.has; used = (term_tells.leaf is).low e }

    pub term_leaf : {o end : List ℕ} {pos e : ℕ} → Wrote (leaf_run x input 0 (used_number t (Root number))) o end pos e → Wrote (bytes_of x (transform f number u)) o end pos e
    term_leaf w = rw (transform_run ∙ sym ((term_tells.leaf is).runs number)) (rw (root_number t number) at w)

  module _ (is : leaf_at x t k input 0 ≡ false) where
    pub term_asks : NodeAsks x t input ends 0 k (used_number t (Root number)) (tree_level * deep) f given u
    term_asks =
        let l = a.levels in
        let m = a.most in
        rw (root_number t number)
        record { there = record { table = a.table; term = a.term; inner = is; has = a.has }; kept = a.kept; most = omega arith; nodes = omega arith; whole = omega arith }

  pub term_gives : {o end : List ℕ} {pos e : ℕ} → Wrote (bytes_of x (run (clauses_of f) (used_number t (Root number)) u)) o end pos e → Wrote (bytes_of x (transform f number u)) o end pos e
  term_gives w = rw transform_run (rw (root_number t number) at w)
