-- Trees that lie one behind the other: the first of them and the others.
use Prim.Native.Nat.{ℕ, ◌+◌, ◌-◌, ◌<◌, ◌≤◌}
use mathlib.Core.Path.{◌≡◌, refl, sym}
use mathlib.Core.List.{List, [], ◌∷◌}
use native.Mathlib.Omega.{arith}
use lib.ListN.{length, get_or}
use lib.Seq.{slice}
use Rattle.format_fields.proofs.Lists.{part_done, part_next}
use Rattle.format_language.specs.Language.{Language}
use Rattle.tree_reader.specs.Code.{Code, Codes, nil, cons}
use Rattle.tree_reader.specs.Typing.{TypedAll, typed_nil, typed_cons}
use Rattle.tree_reader.specs.Inner.Index.{Ready}
use Rattle.tree_reader.specs.Inner.Positions.{KindsIn}
use Rattle.tree_reader.proofs.Members.{in_below}
use Rattle.tree_index.specs.Spans.{size}
use Rattle.tree_index.specs.Inner.Lying.{LieAll, There, Row}
use Rattle.tree_index.proofs.Lying.{head_lies, tail_lie}

-- What a walk asks of the reader.
pub there_ready : (index s b : List ℕ) (at k : ℕ) (l : Language) (t : Code) → There index s b at k l t → Ready index s k b at
there_ready index s b at k l t h = record {
  sound = h.index_of.indexed.sound;
  kind = in_below s k l h.index_of.indexed.entries h.lies.known;
  inside = h.lies.inside;
}

-- The kinds end in the language.
pub kinds_end : (s : List ℕ) (first last q : ℕ) → KindsIn s first last → first ≤ q → q < last → last ≤ length s
kinds_end s first last q h i j = let w = h (last - 1) (omega arith) (omega arith) in omega (arith, w.0)

-- The first of the trees, and the others.
pub record Turn (index s b : List ℕ) (to q last : ℕ) (l : Language) (ts : Codes) : Type 0 where
  pub head : Code
  pub tail : Codes
  pub is : ts ≡ cons head tail
  pub kinds : slice q last s ≡ get_or s q 0 ∷ slice (q + 1) last s
  pub there : There index s b to (get_or s q 0) l head
  pub row : Row index s b (to + size head) (q + 1) last l tail

cons_of : {l : Language} {ts : Codes} {k : ℕ} {ks : List ℕ} → TypedAll l [] ts (k ∷ ks) → (t : Code) × (us : Codes) × (ts ≡ cons t us)
cons_of (typed_cons {a = a} {t = t} h hs) = (a, t, refl)

nil_of : {l : Language} {ts : Codes} → TypedAll l [] ts [] → ts ≡ nil
nil_of typed_nil = refl

module _ (index s b : List ℕ) (to q last : ℕ) (l : Language) (ts : Codes) (r : Row index s b to q last l ts) where
  pub turn : q < last → last ≤ length s → Turn index s b to q last l ts
  turn h i =
      let e : slice q last s ≡ get_or s q 0 ∷ slice (q + 1) last s = sym (part_next (λ (x : List ℕ). x) s q last (slice q last s) refl h i) in
      let w : LieAll l b to (get_or s q 0 ∷ slice (q + 1) last s) ts = rw e at r.lie in
      let c = cons_of w.typed in
      let v : LieAll l b to (get_or s q 0 ∷ slice (q + 1) last s) (cons c.0 c.1) = rw c.2 at w in
      record {
        head = c.0;
        tail = c.1;
        is = c.2;
        kinds = e;
        there = record { index_of = r.index_of; lies = head_lies l b to (get_or s q 0) (slice (q + 1) last s) c.0 c.1 v };
        row = record { index_of = r.index_of; lie = tail_lie l b to (get_or s q 0) (slice (q + 1) last s) c.0 c.1 v };
      }

  pub none_left : last ≤ q → ts ≡ nil
  none_left h =
      let e : slice q last s ≡ [] = sym (part_done (λ (x : List ℕ). x) s q last (slice q last s) refl h) in
      let w : TypedAll l [] ts [] = rw e at r.lie.typed in
      nil_of w
