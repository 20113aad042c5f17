-- Laws of bytes that are put into the output.
use Prim.Native.Nat.{ℕ, zero, suc, ◌+◌, ◌-◌, ◌*◌, ◌≤◌, ◌<◌}
use mathlib.Core.Path.{◌≡◌, refl, ap}
use mathlib.Core.List.{List, [], ◌∷◌, ◌++◌}
use native.Mathlib.Omega.{arith}
use lib.ListN.{length, get_or, take, drop}
use lib.Seq.{drop-drop}
use borrow.Rule.Slice.PartMut.{put_mid}
use lib.Dec.{eqb}
use borrow.Author.Tests.{eq-eqb, ne_eqb}
use Rattle.format_fields.proofs.Truth.{by_test}
use Rattle.tree_reader.specs.Code.{argument}
use Rattle.tree_reader.specs.Syntax.{sign, write, code}
use Rattle.tree_reader.specs.Inner.Positions.{syntax_of}
use Rattle.tree_reader.specs.declared.node.Syntax.{Syntax}
use Rattle.tree_reader.specs.declared.node.Syntax.TheVariants.{Tree, Code}
use Rattle.format_fields.specs.Inner.Writing.{spliced}
use Rattle.run_table.specs.Inner.Stands.{Wrote}
use Rattle.run_emit.specs.Inner.Runs.{leaf_length, leaf_number, code_leaf_run}

-- What does not fit is not put in.
pub wrote_nothing : (v o : List ℕ) (pos r : ℕ) → length o < pos + length v → length o < r → Wrote v o o pos r
wrote_nothing v o pos r h i =
    record { fits = λ j. absurd (omega arith); full = λ j. (h, record { long = refl; front = refl }) }

-- put
module _ (v o : List ℕ) (pos n : ℕ) (long : length v ≡ n) where
  pub put_full : length o < pos + n → Wrote v o o pos (pos + n)
  put_full h = wrote_nothing v o pos (pos + n) (omega arith) h

  pub put_part : (ys : List ℕ) → pos + n ≤ length o → ys ≡ v → Wrote v o (put_mid pos (pos + n - pos) o ys) pos (pos + n)
  unfolding spliced
  put_part ys h e =
      let k : pos + (pos + n - pos) ≡ pos + length v = omega (arith, long) in
      record {
        fits = λ j. (omega arith, rw (e, drop-drop (pos + n - pos) pos o) (ap (λ (i : ℕ). take pos o ++ (v ++ drop i o)) k));
        full = λ j. absurd (omega arith);
      }

-- put_name
module _ (x : Syntax) (name : ℕ) (o : List ℕ) (pos : ℕ) where
  pub name_code : {after : List ℕ} {r : ℕ} → x ≡ Code → Wrote (1 ∷ name ∷ []) o after pos r → Wrote (sign (syntax_of x) 1 ++ name ∷ []) o after pos r
  name_code t w = rw t w

-- put_token
module _ (x : Syntax) (high low : ℕ) (o : List ℕ) (pos : ℕ) where
  pub token_tree : {after : List ℕ} {r : ℕ} → x ≡ Tree → Wrote (high ∷ low ∷ []) o after pos r → Wrote (sign (syntax_of x) 2 ++ high ∷ low ∷ []) o after pos r
  token_tree t w = rw t w

  pub token_code : {after : List ℕ} {r : ℕ} → x ≡ Code → Wrote (2 ∷ high ∷ low ∷ []) o after pos r
      → Wrote (sign (syntax_of x) 2 ++ high ∷ low ∷ []) o after pos r
  token_code t w = rw t w

-- put_use
module _ (a : ℕ) (o : List ℕ) (pos : ℕ) where
  pub use_plain : {n : ℕ} {after : List ℕ} {r : ℕ} → n ≡ 0 → Wrote (3 ∷ a ∷ []) o after pos r → Wrote (write code (argument a n)) o after pos r
  unfolding write
  use_plain e w = rw e w

  pub use_numbered : {n : ℕ} {after : List ℕ} {r : ℕ} → (n ≡ 0 → ⊥) → Wrote (4 ∷ a ∷ n ∷ []) o after pos r → Wrote (write code (argument a n)) o after pos r
  unfolding write
  use_numbered {n = zero} e w = absurd (e refl)
  use_numbered {n = suc n} e w = w

-- put_code_leaf
module _ (b : List ℕ) (at : ℕ) where
  pub code_leaf_room : at + leaf_length Code b at ≤ length b → at + 1 < length b
  unfolding leaf_length
  code_leaf_room h = by_test (eqb (get_or b at 0) 3) (λ e. let z = rw e at h in omega arith) (λ e. let z = rw e at h in omega arith)

  pub code_leaf_three : at + leaf_length Code b at ≤ length b → (get_or b at 0 ≡ 3 → ⊥) → at + 2 < length b
  unfolding leaf_length
  code_leaf_three h e = let z = rw (ne_eqb (get_or b at 0) 3 e) at h in omega arith

  pub leaf_token : (j : ℕ) (o : List ℕ) (pos : ℕ) {after : List ℕ} {r : ℕ} → get_or b at 0 ≡ 2 → Wrote (2 ∷ get_or b (at + 1) 0 ∷ get_or b (at + 2) 0 ∷ []) o after pos r
      → Wrote (code_leaf_run b at j) o after pos r
  unfolding code_leaf_run
  leaf_token j o pos e w = rw (eq-eqb (get_or b at 0) 2 e) w

  pub leaf_use : (j : ℕ) (o : List ℕ) (pos : ℕ) {n by : ℕ} {after : List ℕ} {r : ℕ} → (get_or b at 0 ≡ 2 → ⊥) → n ≡ leaf_number b at → by ≡ 16 * n + j
      → Wrote (write code (argument (get_or b (at + 1) 0) by)) o after pos r → Wrote (code_leaf_run b at j) o after pos r
  unfolding code_leaf_run
  leaf_use j o pos e en eb w = rw (ne_eqb (get_or b at 0) 2 e, ← en, ← eb) w
