-- Where the codes of productions end: laws of the spans that are put into the table.
use Prim.Native.Nat.{ℕ, zero, suc, ◌+◌, ◌-◌, ◌≤◌, ◌<◌}
use mathlib.Core.Path.{◌≡◌, refl, sym, ap, ◌∙◌}
use mathlib.Core.List.{List, [], ◌∷◌}
use mathlib.Core.Option.{some}
use native.Mathlib.Omega.{arith}
use lib.ListN.{length, get_or, set, length-append, length-set, length-drop}
use lib.Seq.{slice, get_or-set_same, get_or-set_other, get_or-drop}
use lib.Dec.{leb, eqb}
use borrow.Author.Tests.{leb-true, leb-false, eqb-true, eqb-false}
use Rattle.format_fields.specs.Fields.{pair_at}
use Rattle.format_fields.specs.Inner.Places.{field_end}
use Rattle.format_fields.proofs.Truth.{by_test, none_some, some_inj}
use Rattle.format_fields.proofs.Lists.{part_done, part_next}
use Rattle.format_language.specs.Language.{Language, arguments_of, production_key}
use Rattle.tree_reader.specs.Code.{Code, node, token, argument, Codes, nil, cons, levels, levels_all}
use Rattle.tree_reader.specs.Typing.{Uses, Typed, TypedAll, typed_node, typed_token, typed_argument, typed_nil, typed_cons}
use Rattle.tree_reader.specs.Syntax.{write, write_all, code}
use Rattle.tree_reader.specs.Inner.Index.{Sound, Indexed, arguments_before}
use Rattle.tree_reader.specs.Inner.Positions.{KindsIn}
use Rattle.tree_reader.proofs.Built.{sound_front, indexed_front}
use Rattle.run_table.specs.Inner.Stands.{Stands}
use Rattle.run_table.specs.Inner.Table.{span_entry, SpansAt, SpansAllAt}
use Rattle.run_table.specs.Inner.Filling.{target_index, Below, Beside, Leaf, CodeAsks, Spanned, FieldAsks}
use Rattle.run_table.proofs.Standing.{stands_head, stands_both}

empty_cons : {A : Type 0} {y : ℕ} {s : List ℕ} → [] ≡ y ∷ s → A
empty_cons e = let z : ◌≡◌ {A = ℕ} 0 1 = cc in absurd (omega arith)

cons_both : {x y : ℕ} {r s : List ℕ} → x ∷ r ≡ y ∷ s → (x ≡ y) × (r ≡ s)
cons_both e = (cc, cc)

-- Kinds of a row: none are left, or one and more.
pub row_end : (s : List ℕ) (q e : ℕ) → KindsIn s q e → slice q e s ≡ [] → e ≤ q
row_end s q e h y =
    by_test (leb e q) (λ t. leb-true _ _ t)
    (λ t.
    let i : q < e = leb-false _ _ t in
    let j = h (e - 1) (omega arith) (omega arith) in
    empty_cons (sym (part_next (λ (l : List ℕ). l) s q e [] y i (omega (arith, j.0)))))

pub row_first : (s : List ℕ) (q e k : ℕ) (ks : List ℕ) → KindsIn s q e → slice q e s ≡ k ∷ ks
    → (q < e) × (get_or s q 0 ≡ k) × (k < 32) × (slice (q + 1) e s ≡ ks)
row_first s q e k ks h y =
    by_test (leb e q)
    (λ t. empty_cons (part_done (λ (l : List ℕ). l) s q e (k ∷ ks) y (leb-true _ _ t)))
    (λ t.
    let i : q < e = leb-false _ _ t in
    let j = h (e - 1) (omega arith) (omega arith) in
    let c = cons_both (part_next (λ (l : List ℕ). l) s q e (k ∷ ks) y i (omega (arith, j.0))) in
    let m = h q (omega arith) i in
    (i, c.0, rw c.0 at m.1, c.1))

-- The place of a production that is there.
pub place_some : (s : List ℕ) (place : ℕ) (ks : List ℕ) → arguments_before s place ≡ some ks → (q : ℕ) × (place ≡ suc q) × (slice (q + 5) (field_end s q) s ≡ ks)
place_some s zero ks e = none_some e
place_some s (suc q) ks e = (q, refl, some_inj e)

-- The same entries from c on, as far as the code a goes.
abbrev Same : List ℕ → List ℕ → ℕ → ℕ → Type 0
Same t u c n = (j : ℕ) → c ≤ j → j < c + n → span_entry u j ≡ span_entry t j

mutual
  unfolding SpansAt SpansAllAt write write_all

  pub spans_kept : (t u : List ℕ) (a : Code) (c : ℕ) → Same t u c (length (write code a)) → SpansAt t c a → SpansAt u c a
  spans_kept t u (node k p ts) c h s =
      (h c (omega arith) (omega arith) ∙ s.0, spans_all_kept t u ts (c + 2) (λ j x y. h j (omega arith) (omega arith)) s.1)
  spans_kept t u (token v) c h s = s
  spans_kept t u (argument i j) c h s = s

  pub spans_all_kept : (t u : List ℕ) (ts : Codes) (c : ℕ) → Same t u c (length (write_all code ts)) → SpansAllAt t c ts → SpansAllAt u c ts
  spans_all_kept t u nil c h s = s
  spans_all_kept t u (cons a ts) c h s =
      let l = length-append (write code a) (write_all code ts) in
      (spans_kept t u a c (λ j x y. h j x (omega arith)) s.0, spans_all_kept t u ts (c + length (write code a)) (λ j x y. h j (omega arith) (omega arith)) s.1)

-- What stays below stays.
pub below_none : (t : List ℕ) (at : ℕ) → Below t t at
below_none t at = record { long = refl; same = λ j h. refl; past = λ j h. refl }

pub below_then : (t u v : List ℕ) (a b : ℕ) → a ≤ b → Below t u a → Below u v b → Below t v a
below_then t u v a b h x y = record { long = y.long ∙ x.long; same = λ j i. y.same j (omega arith) ∙ x.same j i; past = λ j i. y.past j i ∙ x.past j i }

-- An entry among the spans is put.
pub below_set : (t : List ℕ) (at v : ℕ) → at < 4096 → Below t (set t (21568 + at) v) at
below_set t at v h = record {
  long = length-set t (21568 + at) v;
  same = λ j i. get_or-set_other t (21568 + at) j v 0 (λ e. omega arith);
  past = λ j i. get_or-set_other t (21568 + at) j v 0 (λ e. omega arith);
}

-- What stands beside the spans stays: the index of the target is looked up as before.
module _ (t u : List ℕ) (h : Beside t u) (long : length t ≡ 26184) where
  part_long : 8224 ≤ length (target_index u)
  part_long = let d = length-drop 8224 u in omega (arith, h.long)

  part_same : (j : ℕ) → j < 8224 → get_or (target_index u) j 0 ≡ get_or (target_index t) j 0
  part_same j i = get_or-drop 8224 u j 0 ∙ (h.same (8224 + j) (omega arith) ∙ sym (get_or-drop 8224 t j 0))

  pub sound_beside : (s : List ℕ) → Sound (target_index t) s → Sound (target_index u) s
  sound_beside s z = sound_front (target_index t) (target_index u) s part_long part_same z

  pub asks_beside : (s b : List ℕ) (k at n : ℕ) (l : Language) (given : Uses) (a : Code) → CodeAsks s (target_index t) b k at n l given a → CodeAsks s (target_index u) b k at n l given a
  asks_beside s b k at n l given a w = record {
    indexed = indexed_front (target_index t) (target_index u) s part_long part_same l w.indexed;
    typed = w.typed;
    stands = w.stands;
    within = w.within;
  }

  pub fields_beside : (s b uses : List ℕ) (p : ℕ) (l : Language) (given : Uses) (a : Code) → FieldAsks s (target_index t) b uses p l given a
      → FieldAsks s (target_index u) b uses p l given a
  fields_beside s b uses p l given a w = record { kind = w.kind; code = λ e. asks_beside s b _ _ 16 l given a (w.code e) }

-- A span that is set after others.
pub set_beside : (t u v : List ℕ) (at r : ℕ) → Beside t u → at < 4096 → v ≡ set u (21568 + at) r → Beside t v
set_beside t u v at r h i e = rw e (below_then t u (set u (21568 + at) r) 0 at (omega arith) h (below_set u at r i))

-- A code has a byte.
code_inside : (b : List ℕ) (at : ℕ) (a : Code) → Stands b at (write code a) → at < length b
unfolding write
code_inside b at (node k p ts) h = (stands_head b at 1 _ h).0
code_inside b at (token v) h = (stands_head b at 2 _ h).0
code_inside b at (argument i zero) h = (stands_head b at 3 _ h).0
code_inside b at (argument i (suc j)) h = (stands_head b at 4 _ h).0

-- A code as its sign says: an argument by number 0, or a token or an argument by another number.
module _ (b t : List ℕ) (at : ℕ) where
  abbrev Leafed : Code → ℕ → Type 0
  Leafed a r = Spanned t t at a r

  argument_spanned : (a : Code) → Stands b at (write code a) → get_or b at 0 ≡ 3 → Leafed a (at + 2)
  unfolding write SpansAt
  argument_spanned (node k p ts) h e = let x = (stands_head b at 1 _ h).1 in absurd (omega (arith, x))
  argument_spanned (token v) h e = let x = (stands_head b at 2 _ h).1 in absurd (omega (arith, x))
  argument_spanned (argument i zero) h e = record { to = refl; spans = _; below = below_none t at }
  argument_spanned (argument i (suc j)) h e = let x = (stands_head b at 4 _ h).1 in absurd (omega (arith, x))

  leaf_spanned : (a : Code) → Stands b at (write code a) → (get_or b at 0 ≡ 3 → ⊥) → (get_or b at 0 ≡ 1 → ⊥) → Leafed a (at + 3)
  unfolding write SpansAt
  leaf_spanned (node k p ts) h e d = absurd (d (stands_head b at 1 _ h).1)
  leaf_spanned (token v) h e d = record { to = refl; spans = _; below = below_none t at }
  leaf_spanned (argument i zero) h e d = absurd (e (stands_head b at 3 _ h).1)
  leaf_spanned (argument i (suc j)) h e d = record { to = refl; spans = _; below = below_none t at }

-- The codes of a row: those that are left.
pub record Row (s index b : List ℕ) (q e c n : ℕ) (l : Language) (given : Uses) (ts : Codes) (ks : List ℕ) : Type 0 where
  pub indexed : Indexed index s l
  pub typed : TypedAll l given ts ks
  pub kinds : KindsIn s q e
  pub part : slice q e s ≡ ks
  pub stands : Stands b c (write_all code ts)
  pub within : levels_all ts ≤ n

pub record RowSpanned (t u : List ℕ) (c : ℕ) (ts : Codes) (r : ℕ) : Type 0 where
  pub to : r ≡ c + length (write_all code ts)
  pub spans : SpansAllAt u c ts
  pub below : Below t u c

-- What is left of the code at `at`, and what comes of it.
abbrev pub Left : List ℕ → List ℕ → List ℕ → ℕ → ℕ → ℕ → List ℕ → List ℕ → ℕ → ℕ → ℕ → Language → Uses → Code → Type 0
Left s index b k at n t₀ t q e c l given a =
    (ts : Codes) × (ks : List ℕ) × Row s index b q e c (n - 1) l given ts ks
    × ((u : List ℕ) (r : ℕ) → RowSpanned t u c ts r → Spanned t₀ (set u (21568 + at) r) at a r)

abbrev pub Turn : List ℕ → List ℕ → List ℕ → ℕ → ℕ → ℕ → List ℕ → List ℕ → ℕ → ℕ → ℕ → Type 0
Turn s index b k at n t₀ t q e c =
    (l : Language) (given : Uses) (a : Code) → CodeAsks s index b k at n l given a → Left s index b k at n t₀ t q e c l given a

-- A production's code, from the spans of its operands.
node_spanned : (t u : List ℕ) (at k p : ℕ) (ts : Codes) (r : ℕ) → length t ≡ 26184 → at < 4096 → RowSpanned t u (at + 2) ts r
    → Spanned t (set u (21568 + at) r) at (node k p ts) r
unfolding write SpansAt
node_spanned t u at k p ts r long h w =
    let l = w.below.long in
    let m : r ≡ at + suc (suc (length (write_all code ts))) = omega (arith, w.to) in
    record {
      to = m;
      spans = (
        get_or-set_same u (21568 + at) r 0 (omega arith) ∙ m,
        spans_all_kept u (set u (21568 + at) r) ts (at + 2) (λ j x y. get_or-set_other u (21568 + at) (21568 + j) r 0 (λ e. omega arith)) w.spans,
      );
      below = below_then t u (set u (21568 + at) r) at at (omega arith) (below_then t t u at (at + 2) (omega arith) (below_none t at) w.below) (below_set u at r h);
    }

module _ (s index b : List ℕ) (k at n : ℕ) where
  -- The code at `at` is past the end.
  pub span_past : (t u : List ℕ) (r : ℕ) → length b ≤ at → (l : Language) (given : Uses) (a : Code) → CodeAsks s index b k at n l given a → Spanned t u at a r
  span_past t u r h l given a w = let i = code_inside b at a w.stands in absurd (omega arith)

  pub span_argument : (t : List ℕ) → get_or b at 0 ≡ 3 → (l : Language) (given : Uses) (a : Code) → CodeAsks s index b k at n l given a → Spanned t t at a (at + 2)
  span_argument t h l given a w = argument_spanned b t at a w.stands h

  pub span_leaf : (t : List ℕ) → (get_or b at 0 ≡ 3 → ⊥) → (get_or b at 0 ≡ 1 → ⊥) → (l : Language) (given : Uses) (a : Code) → CodeAsks s index b k at n l given a
      → Spanned t t at a (at + 3)
  span_leaf t h i l given a w = leaf_spanned b t at a w.stands h i

  -- A production: what its code is made of.
  abbrev Noded : Language → Uses → Code → Type 0
  Noded l given a = (p : ℕ) × (ts : Codes) × (ks : List ℕ) × (a ≡ node k p ts) × (get_or b (at + 1) 0 ≡ p) × (arguments_of l k p ≡ some ks) × TypedAll l given ts ks
      × Stands b (at + 2) (write_all code ts) × (suc (levels_all ts) ≤ n)

  noded : (l : Language) (given : Uses) {a : Code} → Typed l given a k → Stands b at (write code a) → levels a ≤ n → get_or b at 0 ≡ 1 → Noded l given a
  unfolding write levels
  noded l given (typed_node {p = p} {t = t} {ks = ks} e h) y i d =
      let x = stands_head b at 1 _ y in
      let z = stands_head b (at + 1) p _ x.2 in
      let two : at + 1 + 1 ≡ at + 2 = omega arith in
      (p, t, ks, refl, z.1, e, h, rw two at z.2, i)
  noded l given (typed_token {v = v} e h) y i d = let x = (stands_head b at 2 _ y).1 in absurd (omega (arith, x))
  noded l given (typed_argument {i = m} {j = zero} e) y i d = let x = (stands_head b at 3 _ y).1 in absurd (omega (arith, x))
  noded l given (typed_argument {i = m} {j = suc j} e) y i d = let x = (stands_head b at 4 _ y).1 in absurd (omega (arith, x))

  -- A production is a level.
  pub span_deep : (t u : List ℕ) (r : ℕ) → n ≡ 0 → get_or b at 0 ≡ 1 → (l : Language) (given : Uses) (a : Code) → CodeAsks s index b k at n l given a → Spanned t u at a r
  span_deep t u r h sign l given a w = let d = noded l given w.typed w.stands w.within sign in absurd (omega (arith, d.8))

  module _ (kind : k < 32) (p place : ℕ) (byte : p < 256) (ep : p ≡ get_or b (at + 1) 0) (here : place ≡ get_or index (production_key k p) 0) (sign : get_or b at 0 ≡ 1) where
    abbrev Production : Language → List ℕ → Type 0
    Production l ks = (q : ℕ) × (place ≡ suc q) × (slice (q + 5) (field_end s q) s ≡ ks)

    production : (l : Language) (ks : List ℕ) (m : ℕ) → Indexed index s l → get_or b (at + 1) 0 ≡ m → arguments_of l k m ≡ some ks → Production l ks
    production l ks m z e a =
        let same : m ≡ p = sym e ∙ sym ep in
        place_some s place ks (ap (arguments_before s) here ∙ (sym (z.arguments k p kind byte) ∙ (ap (arguments_of l k) (sym same) ∙ a)))

    pub span_unknown : (t u : List ℕ) (r : ℕ) → place ≡ 0 → (l : Language) (given : Uses) (a : Code) → CodeAsks s index b k at n l given a → Spanned t u at a r
    span_unknown t u r h l given a w =
        let d = noded l given w.typed w.stands w.within sign in
        let q = production l d.2 d.0 w.indexed d.4 d.5 in
        absurd (omega (arith, q.1))

    -- The operands of a production.
    pub turn_starts : (t : List ℕ) (first stop : ℕ) → length t ≡ 26184 → length b ≤ 4096 → first ≡ place + 4 → stop ≡ place + 2 + pair_at s place → KindsIn s first stop
        → Turn s index b k at n t t first stop (at + 2)
    unfolding field_end
    turn_starts t first stop long short ef es kinds l given a w =
        let d = noded l given w.typed w.stands w.within sign in
        let q = production l d.2 d.0 w.indexed d.4 d.5 in
        let from : q.0 + 5 ≡ first = omega (arith, q.1) in
        let one : q.0 + 1 ≡ place = omega (arith, q.1) in
        let to : q.0 + 3 + pair_at s (q.0 + 1) ≡ stop = rw one (omega (arith, q.1)) in
        let inside = code_inside b at a w.stands in (
          d.1,
          d.2,
          record {
            indexed = w.indexed;
            typed = d.6;
            kinds = kinds;
            part = rw (from, to) at q.2;
            stands = d.7;
            within = omega (arith, d.8);
          },
          λ u r x. rw d.3 (node_spanned t u at k d.0 d.1 r long (omega arith) x),
        )

-- One operand more, and the end of them.
module _ (s index b : List ℕ) (k at n : ℕ) (t₀ t : List ℕ) (q e c : ℕ) where
  cons_spanned : (u v : List ℕ) (a : Code) (ts : Codes) (r x : ℕ) → Spanned t u c a x → RowSpanned u v x ts r → RowSpanned t v c (cons a ts) r
  unfolding write_all SpansAllAt
  cons_spanned u v a ts r x h w =
      let l = length-append (write code a) (write_all code ts) in
      let to = h.to in
      record {
        to = omega (arith, w.to);
        spans = (
          spans_kept u v a c (λ j i y. w.below.same (21568 + j) (omega arith)) h.spans,
          rw to at w.spans,
        );
        below = below_then t u v c x (omega arith) h.below w.below;
      }

  row_next : (l : Language) (given : Uses) (ts : Codes) (ks : List ℕ) → q < e → TypedAll l given ts ks → Row s index b q e c (n - 1) l given ts ks
      → (a : Code) × (rest : Codes) × (js : List ℕ) × (ts ≡ cons a rest) × CodeAsks s index b (get_or s q 0) c (n - 1) l given a
      × ((x : ℕ) → x ≡ c + length (write code a) → Row s index b (q + 1) e x (n - 1) l given rest js)
  unfolding write_all levels_all
  row_next l given ts ks h typed_nil w = let i = row_end s q e w.kinds w.part in absurd (omega arith)
  row_next l given ts ks h (typed_cons {a = a} {k = j} {t = rest} {ks = js} z zs) w =
      let f = row_first s q e j js w.kinds w.part in
      let st = stands_both b c (write code a) (write_all code rest) w.stands in
      let deep = w.within in (
        a,
        rest,
        js,
        refl,
        record { indexed = w.indexed; typed = rw f.1 z; stands = st.0; within = omega arith },
        λ x ex. record {
          indexed = w.indexed;
          typed = zs;
          kinds = λ y i m. w.kinds y (omega arith) m;
          part = f.3;
          stands = rw ex st.1;
          within = omega arith;
        },
      )

  pub turn_next : (u : List ℕ) (x : ℕ) → q < e
      → ((l : Language) (given : Uses) (a : Code) → CodeAsks s index b (get_or s q 0) c (n - 1) l given a → Spanned t u c a x)
      → Turn s index b k at n t₀ t q e c → Turn s index b k at n t₀ u (q + 1) e x
  turn_next u x h spans w l given a asks =
      let (ts, ks, row, after) = w l given a asks in
      let (a', rest, js, is, first, more) = row_next l given ts ks h row.typed row in
      let y = spans l given a' first in
      (rest, js, more x y.to, λ v r z. after v r (rw is (cons_spanned u v a' rest r x y z)))

  pub turn_ends : e ≤ q → Turn s index b k at n t₀ t q e c
      → (l : Language) (given : Uses) (a : Code) → CodeAsks s index b k at n l given a → Spanned t₀ (set t (21568 + at) c) at a c
  unfolding write_all SpansAllAt
  turn_ends h w l given a asks =
      let (ts, ks, row, after) = w l given a asks in
      after t c (none_left row.typed row)
    where
      none_left : {ts : Codes} {ks : List ℕ} → TypedAll l given ts ks → Row s index b q e c (n - 1) l given ts ks → RowSpanned t t c ts c
      none_left typed_nil row = record { to = omega arith; spans = _; below = below_none t c }
      none_left (typed_cons {k = j} {ks = js} z zs) row = let f = row_first s q e j js row.kinds row.part in absurd (omega (arith, f.0))

-- The same of a table that is equal.
pub ends_as : {s index b : List ℕ} {k at n : ℕ} {t₀ : List ℕ} {r : ℕ} (u v : List ℕ) → u ≡ v
    → ((l : Language) (given : Uses) (a : Code) → CodeAsks s index b k at n l given a → Spanned t₀ v at a r)
    → (l : Language) (given : Uses) (a : Code) → CodeAsks s index b k at n l given a → Spanned t₀ u at a r
ends_as u v e h l given a w = rw e (h l given a w)

-- A leaf has no spans.
pub span_leafed : (s index b : List ℕ) (k at n : ℕ) (t : List ℕ) (r : ℕ) → Leaf b at r
    → (l : Language) (given : Uses) (a : Code) → CodeAsks s index b k at n l given a → Spanned t t at a r
span_leafed s index b k at n t r w l given a asks =
    by_test (eqb (get_or b at 0) 3)
    (λ e.
    let h : get_or b at 0 ≡ 3 = eqb-true _ _ e in
    rw (w.argument h) (span_argument s index b k at n t h l given a asks))
    (λ e.
    let h : get_or b at 0 ≡ 3 → ⊥ = eqb-false _ _ e in
    rw (w.other h) (span_leaf s index b k at n t h w.leaf l given a asks))

-- Where a leaf ends, a code ends that is short enough.
pub leaf_low : (b : List ℕ) (at r : ℕ) → length b ≤ 4096 → Leaf b at r → r ≤ 4102
leaf_low b at r h w =
    let i = w.inside in
    by_test (eqb (get_or b at 0) 3)
    (λ e. let q = w.argument (eqb-true _ _ e) in omega arith)
    (λ e. let q = w.other (eqb-false _ _ e) in omega arith)
