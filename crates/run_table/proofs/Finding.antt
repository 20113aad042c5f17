-- Lookups in the table: where a code ends, and where the clause of a number stands.
use Prim.Native.Nat.{ℕ, zero, suc, ◌+◌, ◌*◌, ◌≤◌, ◌<◌}
use mathlib.Core.Path.{◌≡◌, refl, sym, ◌∙◌}
use mathlib.Core.Logic.{inl, inr, ⊎_elim}
use mathlib.Core.Bool.{true, false}
use mathlib.Core.List.{List, ◌∷◌}
use mathlib.Core.Option.{some}
use native.Mathlib.Omega.{arith}
use lib.ListN.{length, get_or}
use lib.Dec.{leb, eqb}
use borrow.Author.Tests.{leb-true, leb-false, eq-eqb, eqb-true}
use Rattle.format_fields.specs.Fields.{pair_at}
use Rattle.format_fields.specs.Lists.{is_some}
use Rattle.format_fields.specs.Inner.Places.{field_end, places_in, places_from, places}
use Rattle.format_fields.proofs.Truth.{Mem, by_test, false_true, and_both, both_and}
use Rattle.format_fields.proofs.Places.{in_done, in_next, places_next, end_past}
use Rattle.tree_reader.specs.Code.{Code, node, token, argument}
use Rattle.tree_reader.specs.Syntax.{write, code}
use Rattle.format_language.specs.Language.{arguments_of}
use Rattle.format_translation.specs.Translation.{Translation, mapping_of}
use Rattle.format_translation.specs.Running.{clauses_of}
use Rattle.run_table.specs.Inner.Table.{body_byte, span_entry, hint_entry, is_place, SpansAt, Clause, Ready, NumberedAt, numbered_is, NumberedAsks, Held}
use Rattle.run_table.proofs.Standing.{stands_head}
use Rattle.run_table.proofs.Clauses.{mem_place, place_mem}

-- clause_end
module _ (t : List ℕ) (c : ℕ) where
  pub clause_room : (a : Code) → Clause t c a → c < 4096
  unfolding write
  clause_room (node k p ts) w = let i = w.inside in omega arith
  clause_room (token v) w = let i = w.inside in omega arith
  clause_room (argument i zero) w = let h = w.inside in omega arith
  clause_room (argument i (suc j)) w = let h = w.inside in omega arith

  -- What the sign of a code says of its length.
  pub end_span : body_byte t c ≡ 1 → (a : Code) → Clause t c a → span_entry t c ≡ c + length (write code a)
  unfolding write SpansAt
  end_span e (node k p ts) w = w.spans.0
  end_span e (token v) w = let x = (stands_head t (17472 + c) 2 _ w.stands).1 in absurd (omega (arith, x))
  end_span e (argument i zero) w = let x = (stands_head t (17472 + c) 3 _ w.stands).1 in absurd (omega (arith, x))
  end_span e (argument i (suc j)) w = let x = (stands_head t (17472 + c) 4 _ w.stands).1 in absurd (omega (arith, x))

  pub end_two : body_byte t c ≡ 3 → (a : Code) → Clause t c a → c + 2 ≡ c + length (write code a)
  unfolding write
  end_two e (node k p ts) w = let x = (stands_head t (17472 + c) 1 _ w.stands).1 in absurd (omega (arith, x))
  end_two e (token v) w = let x = (stands_head t (17472 + c) 2 _ w.stands).1 in absurd (omega (arith, x))
  end_two e (argument i zero) w = refl
  end_two e (argument i (suc j)) w = let x = (stands_head t (17472 + c) 4 _ w.stands).1 in absurd (omega (arith, x))

  pub end_three : (body_byte t c ≡ 1 → ⊥) → (body_byte t c ≡ 3 → ⊥) → (a : Code) → Clause t c a → c + 3 ≡ c + length (write code a)
  unfolding write
  end_three e d (node k p ts) w = absurd (e (stands_head t (17472 + c) 1 _ w.stands).1)
  end_three e d (token v) w = refl
  end_three e d (argument i zero) w = absurd (d (stands_head t (17472 + c) 3 _ w.stands).1)
  end_three e d (argument i (suc j)) w = refl

-- A place from p on lies in the bytes, and not before p.
from_past : (f : ℕ) (s : List ℕ) (p x : ℕ) → Mem x (places_in f s p) → (p ≤ x) × (x < length s)
unfolding places_in
from_past zero s p x m = absurd m
from_past (suc f) s p x m =
    by_test (leb (length s) p)
    (λ e. absurd (rw (in_done s p f (leb-true _ _ e)) at m))
    (λ e.
    let h : p < length s = leb-false _ _ e in
    ⊎_elim
    (λ d. (omega (arith, d), omega (arith, d)))
    (λ n. let y = from_past f s (field_end s p) x n in (omega (arith, end_past s p, y.0), y.1))
    (rw (in_next s p f h) at m))

place_past : (s : List ℕ) (p x : ℕ) → Mem x (places_from s p) → (p ≤ x) × (x < length s)
unfolding places_from
place_past s p x m = from_past (suc (length s)) s p x m

-- A clause of a number in the body, and in the table that holds the body.
module _ (t b : List ℕ) (f : Translation) (h : Held t b f) (x k p j : ℕ) where
  numbered_true : NumberedAt b x k p j → numbered_is t x k p j ≡ true
  unfolding numbered_is
  numbered_true w =
      let i = w.inside in
      both_and _ _ (eq-eqb _ _ (h.same x (omega arith) ∙ w.tag))
      (both_and _ _ (eq-eqb _ _ (h.same (x + 3) (omega arith) ∙ w.kind))
      (both_and _ _ (eq-eqb _ _ (h.same (x + 4) (omega arith) ∙ w.name)) (eq-eqb _ _ (h.same (x + 5) (omega arith) ∙ w.number))))

  true_numbered : Mem x (places b) → numbered_is t x k p j ≡ true → NumberedAt b x k p j
  unfolding numbered_is
  true_numbered m e =
      let a = and_both (eqb (body_byte t x) 0x29) _ e in
      let c = and_both (eqb (body_byte t (x + 3)) k) _ a.1 in
      let d = and_both (eqb (body_byte t (x + 4)) p) (eqb (body_byte t (x + 5)) j) c.1 in
      let tag : get_or b x 0 ≡ 0x29 = sym (h.same x (place_past b 0 x m).1) ∙ eqb-true _ _ a.0 in
      let i = h.whole x (mem_place b x m) tag in
      record {
        place = mem_place b x m;
        inside = i;
        tag = tag;
        kind = sym (h.same (x + 3) (omega arith)) ∙ eqb-true _ _ c.0;
        name = sym (h.same (x + 4) (omega arith)) ∙ eqb-true _ _ d.0;
        number = sym (h.same (x + 5) (omega arith)) ∙ eqb-true _ _ d.1;
      }

-- walk_start: the clause stands from p on.
pub record Ahead (b : List ℕ) (k n j p : ℕ) : Type 0 where
  pub place : ℕ
  pub ahead : Mem place (places_from b p)
  pub is : NumberedAt b place k n j
  pub rest : (x : ℕ) → Mem x (places_from b p) → Mem x (places b)

abbrev pub Finding : List ℕ → ℕ → ℕ → ℕ → ℕ → Type 0
Finding t k n j p = (f : Translation) (ks : List ℕ) (w : NumberedAsks t k n j f ks) → Ahead w.ready.bytes k n j p

pub finding_starts : (t : List ℕ) (k n j : ℕ) → 0 < j → Finding t k n j 0
finding_starts t k n j h f ks w =
    let (x, y) = w.ready.held.there k n j ks h w.arguments w.mapped in
    record { place = x; ahead = place_mem w.ready.bytes x y.place; is = y; rest = λ x m. m }

module _ (t : List ℕ) (k n j p : ℕ) where
  -- The field at p, where the clause stands from p on.
  module _ (b : List ℕ) (f : Translation) (h : Held t b f) (y : Ahead b k n j p) where
    inside : p + 6 ≤ length b
    inside = let i = y.is.inside in let l = place_past b p y.place y.ahead in omega (arith, l.0)

    turn : places_from b p ≡ p ∷ places_from b (field_end b p)
    turn = places_next b p (let i = inside in omega arith)

    here : Mem p (places b)
    here = y.rest p (rw turn (inl refl))

    end_same : (e : ℕ) → e ≡ p + 3 + (body_byte t (p + 1) * 256 + body_byte t (p + 2)) → e ≡ field_end b p
    unfolding field_end pair_at
    end_same e ee =
        let i = inside in
        let q : p + 1 + 1 ≡ p + 2 = omega arith in
        rw q (omega (arith, ee, h.same (p + 1) (omega arith), h.same (p + 2) (omega arith)))

    ahead_next : numbered_is t p k n j ≡ false → (e : ℕ) → e ≡ field_end b p → Ahead b k n j e
    ahead_next miss e ee = record {
      place = y.place;
      ahead = ⊎_elim
          (λ d. false_true (sym miss ∙ numbered_true t b f h p k n j (rw d at y.is)))
          (λ m. rw ee m)
          (rw turn at y.ahead);
      is = y.is;
      rest = λ x m. y.rest x (rw turn (inr (rw ee at m)));
    }

  module _ (y : Finding t k n j p) where
    pub finding_hit : true ≡ numbered_is t p k n j → (f : Translation) (ks : List ℕ) → NumberedAsks t k n j f ks → Clause t (p + 6) (clauses_of f k n j)
    finding_hit e f ks w =
        let b : List ℕ = w.ready.bytes in
        let h = w.ready.held in
        h.clause p k n j (true_numbered t b f h p k n j (here b f h (y f ks w)) (sym e))

    pub finding_next : false ≡ numbered_is t p k n j → (e : ℕ) → e ≡ p + 3 + (body_byte t (p + 1) * 256 + body_byte t (p + 2)) → Finding t k n j e
    finding_next miss e ee f ks w =
        let b : List ℕ = w.ready.bytes in
        let h = w.ready.held in
        ahead_next b f h (y f ks w) (sym miss) e (end_same b f h (y f ks w) e ee)

    pub finding_ends : 4091 ≤ p → (f : Translation) (ks : List ℕ) → NumberedAsks t k n j f ks → Clause t p (clauses_of f k n j)
    finding_ends l f ks w =
        let b : List ℕ = w.ready.bytes in
        let h = w.ready.held in
        let i = inside b f h (y f ks w) in
        let s = h.short in
        absurd (omega arith)

-- numbered_start
pub numbered_asks : (t : List ℕ) (k n j r : ℕ) → ((f : Translation) (ks : List ℕ) → NumberedAsks t k n j f ks → Clause t r (clauses_of f k n j))
    → (f : Translation) (ks : List ℕ) → Ready t f → arguments_of f.source k n ≡ some ks → is_some (mapping_of f.body k j) ≡ true → Clause t r (clauses_of f k n j)
numbered_asks t k n j r h f ks w e s = h f ks (record { ready = w; arguments = e; mapped = s })

pub hint_hit : (t : List ℕ) (k n j p : ℕ) → 0 < p → (i : ℕ) × (p ≡ hint_entry t i) → true ≡ numbered_is t p k n j
    → (f : Translation) (ks : List ℕ) → Ready t f → arguments_of f.source k n ≡ some ks → is_some (mapping_of f.body k j) ≡ true → Clause t (p + 6) (clauses_of f k n j)
hint_hit t k n j p more (i, d) e f ks w g s =
    let b : List ℕ = w.bytes in
    let h = w.held in
    let place : is_place b p ≡ true = rw d (h.hint i (rw (← d) more)) in
    h.clause p k n j (true_numbered t b f h p k n j (place_mem b p place) (sym e))
