-- Typing by the rules of C.5: in a larger language, with other gaps, and that it is the project's.
use Prim.Native.Nat.{ℕ, zero, suc}
use mathlib.Core.Path.{◌≡◌}
use mathlib.Core.List.{List, [], ◌∷◌, map}
use mathlib.Core.Option.{some}
use lib.ListN.{get_elem?}
use Rattle.format_fields.proofs.Truth.{none_some}
use Rattle.format_fields.proofs.Keyed.{Rising}
use Rattle.format_language.specs.Language.{Language, entry_key}
use Rattle.format_language.proofs.Lookup.{range_mem, mem_range, arguments_mem, mem_arguments}
use Rattle.tree_reader.specs.Code.{Code, Codes}
use Rattle.tree_reader.specs.Typing.{Uses, kind_by, kind_at, Typed, TypedAll, typed_node, typed_token, typed_argument, typed_nil, typed_cons}
use Rattle.format_translation.specs.Translation.{mapping, Body, item_key, mapping_of}
use Rattle.format_translation.proofs.Lookup.{mapping_mem, mem_mapping}
use Rattle.report.specs.Sets.{◌∈◌, here, later}
use Rattle.report.specs.Languages.{LiesWithin}
use Rattle.report.specs.Typing.{Picked, picked_first, picked_later, Gaps, HasKind, has_argument, has_token, has_node, HaveKinds, have_none, have_more, Mapped, Legal}
use Rattle.report.proofs.Sets.{mem_in, in_mem}

-- A code keeps its kind in a language that the first lies within, with gaps of the same kinds.
module _ {l m : Language} (w : LiesWithin l m) {ρ σ : Gaps} (h : (i n : ℕ) → ρ i n → σ i n) where
  mutual
    pub has_larger : {a : Code} {k : ℕ} → HasKind l ρ a k → HasKind m σ a k
    has_larger (has_argument {i = i} {n = n} r) = has_argument (h i n r)
    has_larger (has_token {w = v} x e) = let d = w.classes x in has_token d.1 (d.2 v e)
    has_larger (has_node x hs) = has_node (w.productions x) (have_larger hs)

    pub have_larger : {t : Codes} {ks : List ℕ} → HaveKinds l ρ t ks → HaveKinds m σ t ks
    have_larger have_none = have_none
    have_larger (have_more x xs) = have_more (has_larger x) (have_larger xs)

-- From the project's typing, where arguments are used by number 0 only.
module _ {l : Language} {u : Uses} {ρ : Gaps} (h : (i j t : ℕ) → kind_at u i j ≡ some t → (j ≡ 0) × ρ i t) where
  mutual
    pub typed_has : {a : Code} {k : ℕ} → Typed l u a k → HasKind l ρ a k
    typed_has (typed_node {k = k} {p = p} {ks = ks} e x) = has_node (mem_in _ _ (arguments_mem l k p ks e)) (typed_have x)
    typed_has (typed_token {k = k} {c = c} e x) = has_token (mem_in _ _ (range_mem l k c e)) x
    typed_has (typed_argument {i = i} {j = j} {k = k} e) = let q = h i j k e in rw q.0 (has_argument q.1)

    pub typed_have : {t : Codes} {ks : List ℕ} → TypedAll l u t ks → HaveKinds l ρ t ks
    typed_have typed_nil = have_none
    typed_have (typed_cons x y) = have_more (typed_has x) (typed_have y)

-- And to it.
module _ {l : Language} (rises : Rising entry_key l) {u : Uses} {ρ : Gaps} (h : (i t : ℕ) → ρ i t → kind_at u i 0 ≡ some t) where
  mutual
    pub has_typed : {a : Code} {k : ℕ} → HasKind l ρ a k → Typed l u a k
    has_typed (has_node {n = n} {p = p} {ks = ks} m x) = typed_node (mem_arguments l rises n p ks (in_mem m)) (have_typed x)
    has_typed (has_token {n = n} {c = c} m x) = typed_token (mem_range l rises n c (in_mem m)) x
    has_typed (has_argument {i = i} {n = n} r) = typed_argument (h i n r)

    pub have_typed : {t : Codes} {ks : List ℕ} → HaveKinds l ρ t ks → TypedAll l u t ks
    have_typed have_none = typed_nil
    have_typed (have_more x y) = typed_cons (has_typed x) (have_typed y)

-- A kind at a place is in the list.
pub picked_in : {ks : List ℕ} {i n : ℕ} → Picked ks i n → n ∈ ks
picked_in picked_first = here
picked_in (picked_later p) = later (picked_in p)

-- The uses of a production's arguments are the gaps τ ∘ α|.
mapped_use : (b : Body) → Rising item_key b → {ks : List ℕ} {i n t : ℕ} → Picked ks i n → mapping n 0 t ∈ b → kind_at (map (mapping_of b) ks) i 0 ≡ some t
mapped_use b r (picked_first {k = k}) m = mem_mapping b r k 0 _ (in_mem m)
mapped_use b r (picked_later x) m = mapped_use b r x m

use_mapped : (b : Body) → ((k j t : ℕ) → mapping_of b k j ≡ some t → j ≡ 0) → (ks : List ℕ) (i j t : ℕ) → kind_by (get_elem? (map (mapping_of b) ks) i) j ≡ some t
    → (j ≡ 0) × Mapped b ks (suc i) t
use_mapped b z [] i j t e = none_some e
use_mapped b z (k ∷ ks) zero j t e = let q = z k j t e in (q, (k, picked_first, mem_in _ _ (rw q at (mapping_mem b k j t e))))
use_mapped b z (k ∷ ks) (suc i) j t e = let q = use_mapped b z ks i j t e in (q.0, (q.1.0, picked_later q.1.1, q.1.2))

use_gap : (b : Body) → ((k j t : ℕ) → mapping_of b k j ≡ some t → j ≡ 0) → (ks : List ℕ) (i j t : ℕ) → kind_at (map (mapping_of b) ks) i j ≡ some t → (j ≡ 0) × Mapped b ks i t
use_gap b z ks zero j t e = none_some e
use_gap b z ks (suc i) j t e = use_mapped b z ks i j t e

-- Codes of clauses.
pub code_has : {l : Language} (b : Body) → ((k j t : ℕ) → mapping_of b k j ≡ some t → j ≡ 0) → (ks : List ℕ) {a : Code} {k : ℕ}
    → Typed l (map (mapping_of b) ks) a k → HasKind l (Mapped b ks) a k
code_has b z ks x = typed_has (use_gap b z ks) x

pub code_typed : {l : Language} → Rising entry_key l → (b : Body) → Rising item_key b → (ks : List ℕ) {a : Code} {k : ℕ}
    → HasKind l (Mapped b ks) a k → Typed l (map (mapping_of b) ks) a k
code_typed rises b r ks x = has_typed rises (λ i t m. mapped_use b r m.1 m.2) x

-- Legal trees.
no_use : (i j t : ℕ) → kind_at [] i j ≡ some t → (j ≡ 0) × ⊥
no_use zero j t e = none_some e
no_use (suc i) j t e = none_some e

pub typed_legal : {l : Language} {a : Code} {k : ℕ} → Typed l [] a k → Legal l a k
typed_legal x = typed_has no_use x

pub legal_typed : {l : Language} → Rising entry_key l → {a : Code} {k : ℕ} → Legal l a k → Typed l [] a k
legal_typed rises x = has_typed rises (λ i t m. absurd m) x
