-- Laws of where the arguments of a node start and end.
use Prim.Native.Nat.{ℕ, zero, suc, ◌+◌, ◌≤◌, ◌<◌}
use mathlib.Core.Path.{◌≡◌, refl, sym, ap, ◌∙◌}
use mathlib.Core.List.{List, []}
use mathlib.Core.Logic.{◌≢◌, inr, ⊎_elim}
use native.Mathlib.Nat.{add_assoc, add-zero}
use native.Mathlib.Numerals.{add-one}
use native.Mathlib.Omega.{arith}
use lib.ListN.{length, get_or, set, length-set, length-append}
use lib.Dec.{eqb}
use lib.Seq.{get_or-set_same, get_or-set_other}
use borrow.Author.Tests.{eqb-true, eqb-false}
use Rattle.format_fields.proofs.Split.{byte_in}
use Rattle.format_fields.proofs.Truth.{by_test}
use Rattle.format_language.specs.Language.{Language}
use Rattle.tree_reader.specs.Code.{Code, token, Codes, nil, cons, levels, levels_all}
use Rattle.tree_reader.specs.Typing.{Uses, Typed, TypedAll, typed_nil, typed_cons}
use Rattle.tree_reader.specs.Syntax as Meant
use Rattle.tree_reader.specs.Syntax.{write, write_all}
use Rattle.tree_reader.specs.declared.node.Syntax.{Syntax}
use Rattle.tree_reader.specs.Inner.Positions.{syntax_of}
use Rattle.tree_reader.specs.Inner.Ends.{Kept}
use Rattle.format_translation.specs.Translation.{Translation}
use Rattle.run_table.specs.Inner.Stands.{Stands}
use Rattle.run_table.specs.Inner.Table.{source_byte, KindsAt}
use Rattle.run_emit.specs.Inner.Runs.{bytes_of, all_bytes, front, Right, Node, Same, SkipAsks, FindAsks}
use Rattle.run_table.proofs.Standing.{stands_both}

-- The i-th of codes, counted from 0; past the end a fixed token.
unfoldable pub nth : Codes → ℕ → Code
nth nil i = token 0
nth (cons a ts) zero = a
nth (cons a ts) (suc i) = nth ts i

-- The i-th of codes of the given kinds: its kind, its levels, and where it stands.
module _ {l : Language} {given : Uses} where
  pub nth_kind : {ts : Codes} {ks : List ℕ} → TypedAll l given ts ks → (i : ℕ) → i < length ks → Typed l given (nth ts i) (get_or ks i 0)
  unfolding nth
  nth_kind typed_nil i h = absurd (omega arith)
  nth_kind (typed_cons d ds) zero h = d
  nth_kind (typed_cons d ds) (suc i) h = nth_kind ds i (omega arith)

  pub nth_levels : {ts : Codes} {ks : List ℕ} → TypedAll l given ts ks → (i : ℕ) → i < length ks → levels (nth ts i) ≤ levels_all ts
  unfolding nth levels_all
  nth_levels typed_nil i h = absurd (omega arith)
  nth_levels (typed_cons {a = a} {t = t} d ds) zero h = omega arith
  nth_levels (typed_cons {a = a} {t = t} d ds) (suc i) h = omega (arith, nth_levels ds i (omega arith))

  pub front_next : (s : Meant.Syntax) {ts : Codes} {ks : List ℕ} → TypedAll l given ts ks → (i : ℕ) → i < length ks
      → length (write_all s (front (suc i) ts)) ≡ length (write_all s (front i ts)) + length (write s (nth ts i))
  unfolding nth front write_all
  front_next s typed_nil i h = absurd (omega arith)
  front_next s (typed_cons {a = a} {t = t} d ds) zero h = omega (arith, length-append (write s a) [])
  front_next s (typed_cons {a = a} {t = t} d ds) (suc i) h =
      omega (arith, length-append (write s a) (write_all s (front (suc i) t)), length-append (write s a) (write_all s (front i t)), front_next s ds i (omega arith))

  pub nth_stands : (s : Meant.Syntax) {ts : Codes} {ks : List ℕ} → TypedAll l given ts ks → (i : ℕ) → i < length ks
      → (b : List ℕ) (at : ℕ) → Stands b at (write_all s ts) → Stands b (at + length (write_all s (front i ts))) (write s (nth ts i))
  unfolding nth front write_all
  nth_stands s typed_nil i h b at z = absurd (omega arith)
  nth_stands s (typed_cons {a = a} {t = t} d ds) zero h b at z = rw (add-zero at) (stands_both b at (write s a) (write_all s t) z).0
  nth_stands s (typed_cons {a = a} {t = t} d ds) (suc i) h b at z =
      rw (length-append (write s a) (write_all s (front i t)), ← add_assoc at (length (write s a)) (length (write_all s (front i t))))
      (nth_stands s ds i (omega arith) b (at + length (write s a)) (stands_both b at (write s a) (write_all s t) z).1)

-- The i-th kind, as it stands in the source.
pub kind_byte : {t : List ℕ} {q : ℕ} {ks : List ℕ} → KindsAt t q ks → (i : ℕ) → i < length ks → source_byte t (q + i) ≡ get_or ks i 0
kind_byte {t} {q} {ks} z i h =
    sym (byte_in t (length ks) (16448 + q) i (16448 + (q + i)) h (omega arith)) ∙ ap (λ (v : List ℕ). get_or v i 0) z.stands.bytes

-- The end of an argument is kept.
module _ {x : Syntax} {t input state : List ℕ} {l : Language} {given : Uses} {ts : Codes} {ks : List ℕ} (n : Node x t input state l given ts ks) (i e : ℕ) (small : i < 8) where
  other : (j : ℕ) → j ≢ i + 1 → get_or (set state (i + 1) e) j 0 ≡ get_or state j 0
  other j h = get_or-set_other state (i + 1) j e 0 h

  from_kept : get_or (set state (i + 1) e) 9 0 ≡ get_or state 9 0
  from_kept = other 9 (λ h. omega arith)

  start_kept : get_or (set state (i + 1) e) 0 0 ≡ get_or state 0 0
  start_kept = other 0 (λ h. omega arith)

  pub same_learnt : Same state (set state (i + 1) e)
  same_learnt = record { from = from_kept; start = start_kept }

  pub node_learnt : e ≡ get_or state 0 0 + length (all_bytes x (front (i + 1) ts)) → Node x t input (set state (i + 1) e) l given ts ks
  node_learnt y = record {
    long = length-set state (i + 1) e ∙ n.long;
    kinds = rw from_kept n.kinds;
    few = n.few;
    typed = n.typed;
    stands = rw start_kept n.stands;
    some = rw start_kept n.some;
    known = λ j h. rw start_kept (by_test (eqb j i) (λ q. inr (learnt j (eqb-true j i q))) (λ q. rw (other (j + 1) (λ z. eqb-false j i q (omega arith))) (n.known j h)));
  }
    where
      learnt : (j : ℕ) → j ≡ i → get_or (set state (i + 1) e) (j + 1) 0 ≡ get_or state 0 0 + length (all_bytes x (front (j + 1) ts))
      learnt j q = let z = n.long in rw q (get_or-set_same state (i + 1) e 0 (omega arith) ∙ y)

pub same_after : {a b c : List ℕ} → Same a b → Same b c → Same a c
same_after h k = record { from = k.from ∙ h.from; start = k.start ∙ h.start }

-- end_of: the kind that is asked for, and the end where it is kept.
module _ {x : Syntax} {t input : List ℕ} {q at : ℕ} {f : Translation} {given : Uses} {u : Code} {k : ℕ} (a : SkipAsks x t input q at f given u k) where
  pub asked_kind : {kind : ℕ} → kind ≡ source_byte t q → kind < 32
  asked_kind e = let h = a.kind in let m = a.term.kind in omega arith

  pub end_kept : {ends : List ℕ} {kind e : ℕ} → Right x ends input f.source given → kind ≡ source_byte t q → Kept ends kind at e → e ≡ at + length (bytes_of x u)
  end_kept {kind = kind} {e = e} right ek h = right kind at e h u (rw (ek ∙ a.kind) a.term.typed) a.term.stands

-- find: p is where argument i starts, and the node is the one that it was.
pub record Reached (x : Syntax) (t input before state : List ℕ) (p i : ℕ) (f : Translation) (given : Uses) (ts : Codes) (ks : List ℕ) : Type 0 where
  pub at : p ≡ get_or before 0 0 + length (all_bytes x (front i ts))
  pub node : Node x t input state f.source given ts ks
  pub same : Same before state

module _ {x : Syntax} {t input ends before : List ℕ} {j : ℕ} {f : Translation} {given : Uses} {ts : Codes} {ks : List ℕ} (a : FindAsks x t input ends before j f given ts ks) where
  pub find_few : j ≤ 8
  find_few = let n = a.number in let m = a.node.few in omega arith

  pub find_inside : (i : ℕ) → i < j → get_or before 9 0 + i < 1024
  find_inside i h = let n = a.number in let m = a.node.kinds.inside in omega arith

  pub reached_none : Reached x t input before before (get_or before 0 0) 0 f given ts ks
  unfolding front write_all
  reached_none = record { at = sym (add-zero (get_or before 0 0)); node = a.node; same = record { from = refl; start = refl } }

  -- A turn.
  module _ {state : List ℕ} {p i : ℕ} (z : Reached x t input before state p i f given ts ks) (h : i < j) where
    few : i < length ks
    few = let n = a.number in omega arith

    pub reached_skip : SkipAsks x t input (get_or before 9 0 + i) p f given (nth ts i) (get_or ks i 0)
    reached_skip = record {
      table = a.table;
      term = record {
        typed = nth_kind a.node.typed i few;
        kind = a.node.kinds.below i few;
        stands = rw z.at (nth_stands (syntax_of x) a.node.typed i few input (get_or before 0 0) a.node.stands);
      };
      inside = find_inside i h;
      kind = kind_byte a.node.kinds i few;
      levels = let m = a.levels in omega (arith, nth_levels a.node.typed i few);
    }

    more : length (all_bytes x (front (i + 1) ts)) ≡ length (all_bytes x (front i ts)) + length (bytes_of x (nth ts i))
    more = rw (add-one i) (front_next (syntax_of x) a.node.typed i few)

    pub reached_known : {after : List ℕ} {e r : ℕ} → (r ≡ get_or state (i + 1) 0) × (r ≢ 0) → after ≡ state → e ≡ r → Reached x t input before after e (i + 1) f given ts ks
    reached_known k w y = rw w record {
      at = y ∙ k.0 ∙ (⊎_elim (λ q. absurd (k.1 (k.0 ∙ q))) (λ q. q) (z.node.known i (omega (arith, find_few))) ∙ ap (λ (m : ℕ). m + length (all_bytes x (front (i + 1) ts))) z.same.start);
      node = z.node;
      same = z.same;
    }

    pub reached_more : {after : List ℕ} {e r : ℕ} → r ≡ p + length (bytes_of x (nth ts i)) → after ≡ set state (i + 1) r → e ≡ r → Reached x t input before after e (i + 1) f given ts ks
    reached_more {after} {e} {r} k w y =
        let s : i < 8 = omega (arith, find_few) in
        let b = z.same.start in
        let c = z.at in
        let d : r ≡ get_or before 0 0 + length (all_bytes x (front (i + 1) ts)) = omega (arith, more) in
        rw w record {
          at = y ∙ d;
          node = node_learnt z.node i r s (omega arith);
          same = same_after z.same (same_learnt z.node i r s);
        }
