-- Codes in bytes: those of a type are told from their bytes, and are written in bytes.
use Prim.Native.Nat.{ℕ, ◌+◌, ◌<◌, ◌≤◌}
use mathlib.Core.Path.{◌≡◌, ap, sym, ◌∙◌}
use mathlib.Core.Bool.{true}
use mathlib.Core.List.{List, [], ◌++◌}
use native.Mathlib.Omega.{arith}
use lib.ListN.{length}
use lib.Dec.{leb}
use borrow.Author.Tests.{leb-true}
use Rattle.format_fields.specs.Fields.{two_bytes}
use Rattle.format_fields.proofs.Truth.{and_both}
use Rattle.format_fields.proofs.Keyed.{Rising}
use Rattle.format_fields.proofs.Codec.{Bytes, each_append}
use Rattle.format_language.specs.Language.{Language, Range, in_range, class, production}
use Rattle.tree_reader.specs.Code.{Code, Codes, levels}
use Rattle.tree_reader.specs.Typing.{Uses, Typed}
use Rattle.tree_reader.specs.Syntax.{done, read, write, write_all, code}
use Rattle.tree_reader.proofs.RoundTrip.{Apart, round, as_code}
use Rattle.format_translation.specs.Translation.{Body, item_key}
use Rattle.reduce_operators.proofs.Proper.{proper_apart}
use Rattle.report.specs.Languages.{WellFormedLanguage}
use Rattle.report.specs.Typing.{Picked, picked_first, picked_later, Gaps, HasKind, has_argument, has_token, has_node, HaveKinds, have_none, have_more, Mapped}
use Rattle.report.proofs.Typing.{code_typed}
use Rattle.report.proofs.Languages.{formed_proper, formed_rises}

done_inj : {a b : Code} {r s : List ℕ} → done a r ≡ done b s → a ≡ b
done_inj e = cc

-- Bytes are those of one code of a kind.
typed_one : {l : Language} → Apart l → {u : Uses} {a b : Code} {k : ℕ} → Typed l u a k → Typed l u b k → write code a ≡ write code b → a ≡ b
typed_one {l} apart {u} {a} {b} {k} x y e =
    let n = levels a + levels b in
    let q = round l apart x as_code n [] (omega arith) in
    let r = round l apart y as_code n [] (omega arith) in
    done_inj (sym q ∙ (ap (λ (s : List ℕ). read code l u n k (s ++ [])) e ∙ r))

pub written_one : (l : Language) → WellFormedLanguage l → (b : Body) → Rising item_key b → (ks : List ℕ) {x y : Code} {k : ℕ}
    → HasKind l (Mapped b ks) x k → HasKind l (Mapped b ks) y k → write code x ≡ write code y → x ≡ y
written_one l w b r ks x y e =
    typed_one (proper_apart l (formed_proper l w)) (code_typed (formed_rises l w) b r ks x) (code_typed (formed_rises l w) b r ks y) e

-- A legal value of a range is at most its highest.
value_high : (c : Range) (v : ℕ) → in_range c v ≡ true → v ≤ c.high
unfolding in_range
value_high c v e = leb-true v c.high (and_both (leb v c.high) _ (and_both (leb c.low v) _ e).1).0

two_bytes_lem : (v : ℕ) → v < 65536 → Bytes (two_bytes v)
two_bytes_lem v h = (omega arith, (omega arith, tt))

-- A code whose gaps are few is written in bytes.
module _ {l : Language} (w : WellFormedLanguage l) {ρ : Gaps} (few : (i n : ℕ) → ρ i n → i < 256) where
  mutual
    unfolding write

    pub has_bytes : {a : Code} {k : ℕ} → HasKind l ρ a k → Bytes (write code a)
    has_bytes (has_argument {i = i} {n = n} r) = (omega arith, (few i n r, tt))
    has_bytes (has_token {w = v} {n = n} {c = c} m e) =
        let h = w.writable (class n c) m in
        let q = value_high c v e in
        (omega arith, two_bytes_lem v (omega arith))
    has_bytes (has_node {n = n} {p = p} {ks = ks} m hs) = (omega arith, ((w.writable (production n p ks) m).1, have_bytes hs))

    pub have_bytes : {t : Codes} {ks : List ℕ} → HaveKinds l ρ t ks → Bytes (write_all code t)
    have_bytes have_none = tt
    have_bytes (have_more {a = a} {t = t} x xs) = each_append _ (write code a) (write_all code t) (has_bytes x) (have_bytes xs)

pub picked_few : {ks : List ℕ} {i n : ℕ} → Picked ks i n → i ≤ length ks
picked_few picked_first = omega arith
picked_few (picked_later p) = let q = picked_few p in omega arith
