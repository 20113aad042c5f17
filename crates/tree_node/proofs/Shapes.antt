-- What stands at a legal tree: a law for each return of `node_at`.
use Prim.Native.Nat.{ℕ, zero, suc, ◌-◌, ◌<◌, ◌≤◌}
use mathlib.Core.Path.{◌≡◌, refl, sym, ap, ◌∙◌}
use mathlib.Core.List.{List, []}
use mathlib.Core.Option.{some}
use native.Mathlib.Omega.{arith}
use Rattle.std.specs.Prelude.{Some, None}
use lib.ListN.{length, get_or, length-drop}
use lib.Seq.{slice, length-take-le}
use lib.Dec.{leb}
use borrow.Author.Tests.{leb-true, leb-false}
use Rattle.format_fields.proofs.Truth.{by_test, none_some}
use Rattle.format_fields.proofs.Lists.{part_done}
use Rattle.outcome.specs.Outcome.{value}
use Rattle.format_language.specs.Language.{Language}
use Rattle.tree_reader.specs.Code.{Code, node, token, Codes}
use Rattle.tree_reader.specs.Typing.{kind_at, Typed, TypedAll, typed_node, typed_token, typed_argument, typed_nil, typed_cons}
use Rattle.tree_reader.specs.Inner.Positions.{KindsIn}
use Rattle.tree_reader.proofs.Larger.{apart}
use Rattle.tree_reader.proofs.Members.{in_below}
use Rattle.check_operations.proofs.Reading.{class_known, class_none}
use Rattle.tree_index.specs.Inner.Lying.{There, Shape, production, value as valued, Opens}
use Rattle.tree_index.proofs.Lying.{node_byte}
use Rattle.tree_block.specs.Blocks.{block_of}
use Rattle.tree_node.specs.Nodes.{count, name_of, argument_count}
use Rattle.tree_node.specs.Operations.{node_shown}
use Rattle.tree_node.specs.Answers.{Describes}

-- As many trees as kinds.
pub as_many : {l : Language} {ts : Codes} {ks : List ℕ} → TypedAll l [] ts ks → count ts ≡ length ks
unfolding count
as_many typed_nil = refl
as_many (typed_cons h hs) = ap suc (as_many hs)

-- How many kinds stand from q up to e.
kinds_length : (s : List ℕ) (q e : ℕ) → KindsIn s q e → length (slice q e s) ≡ e - q
kinds_length s q e h =
    by_test (leb e q)
    (λ t.
    let i = leb-true e q t in
    let z : length (slice q e s) ≡ 0 = sym (part_done (λ (v : List ℕ). length v) s q e _ refl i) in
    omega arith)
    (λ t.
    let i : q < e = leb-false e q t in
    let j = h (e - 1) (omega arith) (omega arith) in
    go i (omega arith))
  where
    go : q < e → e ≤ length s → length (slice q e s) ≡ e - q
    go i j = rw (length-drop, length-take-le e s j)

pub no_use : (i j : ℕ) {k : ℕ} {A : Type 0} → kind_at [] i j ≡ some k → A
no_use zero j e = none_some e
no_use (suc i) j e = none_some e

module _ (x s b : List ℕ) (at k : ℕ) (l : Language) (t : Code) (h : There x s b at k l t) where
  small : k < 32
  small = in_below s k l h.index_of.indexed.entries h.lies.known

  module _ {j class : ℕ} (ej : j ≡ k) (ec : class ≡ get_or x j 0) where
    class_is : class ≡ get_or x k 0
    class_is = ec ∙ ap (λ (i : ℕ). get_or x i 0) ej

    -- A class has tokens only, any other kind productions only.
    is_token : (class ≡ 0 → ⊥) → (u : Code) → Typed l [] u k → (v : ℕ) × (u ≡ token v)
    is_token c u (typed_token {v = v} e w) = (v, refl)
    is_token c u (typed_node {p = p} {ks = ks} e w) =
        none_some (sym (apart l h.index_of.apart k p ks e) ∙ class_known s x l h.index_of.indexed k small class class_is c)
    is_token c u (typed_argument {i = i} {j = m} e) = no_use i m e

    pub token_shown : (class ≡ 0 → ⊥) → Describes (node_shown (value (block_of at k t))) (record { kind = k; name = None; arguments = 0 })
    token_shown c =
        let y = is_token c t h.lies.typed in
        rw y.1 (record { outcome = refl; kind = refl; name = refl; arguments = refl })

    is_production : class ≡ 0 → (u : Code) → Typed l [] u k → (p : ℕ) × (ts : Codes) × (u ≡ node k p ts)
    is_production c u (typed_token e w) = none_some (sym (class_none s x l h.index_of.indexed k small class class_is c) ∙ e)
    is_production c u (typed_node {p = p} {t = ts} e w) = (p, ts, refl)
    is_production c u (typed_argument {i = i} {j = m} e) = no_use i m e

    shape_count : {u : Code} {ts : Codes} {ks : List ℕ} {f : ℕ} → Shape l k u ts ks f → argument_count u ≡ count ts
    unfolding count
    shape_count (production e) = refl
    shape_count valued = refl

    module _ (none : class ≡ 0) where
      parts : (p : ℕ) × (ts : Codes) × (t ≡ node k p ts)
      parts = is_production none t h.lies.typed

      byte : (at < length b) × (get_or b at 0 ≡ parts.0)
      byte =
          let w = node_byte l b at k parts.0 parts.1 (rw parts.2 at h.lies) in
          (w.0, w.1)

      pub name_inside : at < length b
      name_inside = byte.0

      pub production_shown : (q e to : ℕ) → Opens x s b at k l t q e to → (p n : ℕ) → p ≡ get_or b at 0 → n ≡ e - q
          → Describes (node_shown (value (block_of at k t))) (record { kind = k; name = Some p; arguments = n })
      production_shown q e to o p n ep en = record {
        outcome = refl;
        kind = refl;
        name = ep ∙ (byte.1 ∙ sym (ap name_of parts.2));
        arguments = en ∙ sym (shape_count o.shape ∙ (as_many o.row.lie.typed ∙ kinds_length s q e o.kinds));
      }

      -- So few that they are a number of 32 bits.
      pub few : (q e to : ℕ) → Opens x s b at k l t q e to → e - q ≤ 1024
      few q e to o =
          by_test (leb e q)
          (λ z. let i = leb-true e q z in omega arith)
          (λ z.
          let i : q < e = leb-false e q z in
          let j = o.kinds (e - 1) (omega arith) (omega arith) in
          let m = h.index_of.indexed.sound.short in
          omega arith)
