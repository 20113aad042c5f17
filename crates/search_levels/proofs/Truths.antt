-- What the memory says stays true.
use Prim.Native.Nat.{ℕ, ◌+◌, ◌*◌, ◌/◌, ◌≤◌, ◌<◌}
use mathlib.Core.Path.{◌≡◌, refl, ap, sym, ◌∙◌}
use mathlib.Core.Logic.{◌⊎◌, inl}
use mathlib.Core.Bool.{Bool, true, false, cond}
use mathlib.Core.List.{List}
use mathlib.Core.Option.{none, some}
use native.Mathlib.Omega.{arith}
use native.Mathlib.Decide.{ℕ_discrete}
use lib.Dec.{leb}
use lib.ListN.{length, get_or, set, length-set}
use lib.Seq.{get_or-set_same, get_or-set_other}
use borrow.Author.Tests.{leb-false, le-leb, lt-leb}
use Rattle.format_language.specs.Language.{Language}
use Rattle.tree_reader.specs.Code.{Code}
use Rattle.tree_reader.specs.Syntax as Syntax
use Rattle.tree_reader.proofs.RoundTrip.{Apart}
use Rattle.format_translation.specs.Translation.{Translation, mapped}
use Rattle.format_translation.specs.Running.{clauses_of}
use Rattle.search_sources.specs.Inner.Goals.{Goal}
use Rattle.search_sources.specs.Inner.Levels.{Needs, Says, noted}
use Rattle.search_sources.proofs.Memory.{noted_says, nothing_says}
use Rattle.search_levels.specs.Inner.Memory.{kept_kind, kept_end, byte_for, memory_with, free_with}
use Rattle.search_levels.specs.Inner.Setting.{Asked, TrueEnds, Truthful}
use Rattle.search_levels.specs.Inner.Ends.{Fills}
use Rattle.tree_index.specs.Inner.Lying.{Lies}
use Rattle.search_levels.proofs.Lying.{lies_one}

-- A byte for a kind is none of those that hold an end.
ends_apart : (memory : List ℕ) (at k byte : ℕ) → k < 32 → (p i : ℕ) → i < 4 → get_or (set memory (at * 36 + (4 + k)) byte) (p * 36 + i) 0 ≡ get_or memory (p * 36 + i) 0
ends_apart memory at k byte small p i h = get_or-set_other memory (at * 36 + (4 + k)) (p * 36 + i) byte 0 (λ e. omega arith)

front_apart : (memory : List ℕ) (at k byte : ℕ) → k < 32 → (p : ℕ) → get_or (set memory (at * 36 + (4 + k)) byte) (p * 36) 0 ≡ get_or memory (p * 36) 0
front_apart memory at k byte small p = get_or-set_other memory (at * 36 + (4 + k)) (p * 36) byte 0 (λ e. omega arith)

ends_still : (l : Language) (tree memory : List ℕ) (at k byte : ℕ) → k < 32 → TrueEnds l tree memory → TrueEnds l tree (set memory (at * 36 + (4 + k)) byte)
unfolding kept_kind kept_end
ends_still l tree memory at k byte small t = record { is = λ p j u h e. go p j u h e }
  where
    same : (p : ℕ) → (kept_kind (set memory (at * 36 + (4 + k)) byte) p ≡ kept_kind memory p) × (kept_end (set memory (at * 36 + (4 + k)) byte) p ≡ kept_end memory p)
    same p =
        let a = front_apart memory at k byte small p in
        let b = ends_apart memory at k byte small p 1 (omega arith) in
        let c = ends_apart memory at k byte small p 2 (omega arith) in
        let d = ends_apart memory at k byte small p 3 (omega arith) in
        (rw a refl, rw (a, b, c, d) refl)

    go : (p j : ℕ) (u : Code) → Lies l tree p j u → kept_kind (set memory (at * 36 + (4 + k)) byte) p ≡ j
        → (kept_end (set memory (at * 36 + (4 + k)) byte) p ≡ 0) ⊎ (kept_end (set memory (at * 36 + (4 + k)) byte) p ≡ p + length (Syntax.write Syntax.tree u))
    go p j u h e = let s = same p in rw s.1 (t.is p j u h (sym s.0 ∙ e))

module _ (f : Translation) (tree memory free : List ℕ) (k at : ℕ) (small : k < 32) (truth : Truthful f tree memory free) where
  -- What is recalled is true.
  pub byte_says : (g : Goal) → Asked f tree at k g → Says f.source (clauses_of f) k g (byte_for memory free (length tree) k at)
  unfolding byte_for
  byte_says none a = rw (le-leb (length tree) at a) (truth.spare k small)
  byte_says (some u) a = rw (lt-leb (length tree) at a.0) (go (leb (length memory / 36) at))
    where
      go : (t : Bool) → Says f.source (clauses_of f) k (some u) (cond t 0 (get_or memory (at * 36 + (4 + k)) 0))
      go true = nothing_says
      go false = truth.kept at k u small a

  -- A byte is kept for what is asked.
  module _ (apart : Apart f.target) (m r : ℕ) (few : m ≤ 16) where
    abbrev byte : ℕ
    byte = noted m r

    keep_free : length tree ≤ at → Needs f.source (clauses_of f) m k none r → Truthful f tree memory (set free k byte)
    keep_free past h = record {
      ends = truth.ends;
      long = length-set free k byte ∙ truth.long;
      kept = truth.kept;
      spare = λ j q. go j q (ℕ_discrete j k);
    }
      where
        go : (j : ℕ) → j < 32 → Dec (j ≡ k) → Says f.source (clauses_of f) j none (get_or (set free k byte) j 0)
        go j q (yes e) = rw (e, get_or-set_same free k byte 0 (let z = truth.long in omega arith)) (noted_says m r few h)
        go j q (no n) = rw (get_or-set_other free k j byte 0 n) (truth.spare j q)

    keep_there : (u : Code) → Asked f tree at k (some u) → at < length memory / 36 → Needs f.source (clauses_of f) m k (some u) r
        → Truthful f tree (set memory (at * 36 + (4 + k)) byte) free
    keep_there u a room h = record { ends = ends_still f.target tree memory at k byte small truth.ends; long = truth.long; kept = λ p j w q d. go p j w q d (ℕ_discrete (p * 36 + (4 + j)) (at * 36 + (4 + k))); spare = truth.spare }
      where
        same : (p j : ℕ) (w : Code) → p ≡ at → j ≡ k → Asked f tree p j (some w) → Says f.source (clauses_of f) j (some w) byte
        same p j w e d b =
            let c : Asked f tree at k (some w) = rw (e, d) at b in
            let x : u ≡ w = lies_one f.target apart tree (mapped f.body k 0) at u w a.1 c.1 in
            rw (d, ← x) (noted_says m r few h)

        go : (p j : ℕ) (w : Code) → j < 32 → Asked f tree p j (some w) → Dec (p * 36 + (4 + j) ≡ at * 36 + (4 + k))
            → Says f.source (clauses_of f) j (some w) (get_or (set memory (at * 36 + (4 + k)) byte) (p * 36 + (4 + j)) 0)
        go p j w q d (yes e) =
            rw (e, get_or-set_same memory (at * 36 + (4 + k)) byte 0 (omega arith)) (same p j w (omega arith) (omega arith) d)
        go p j w q d (no n) = rw (get_or-set_other memory (at * 36 + (4 + k)) (p * 36 + (4 + j)) byte 0 n) (truth.kept p j w q d)

    pub kept_true : (g : Goal) → Asked f tree at k g → Needs f.source (clauses_of f) m k g r
        → Truthful f tree (memory_with memory (length tree) k at byte) (free_with free (length tree) k at byte)
    unfolding memory_with free_with
    kept_true none a h = rw (le-leb (length tree) at a) (keep_free a h)
    kept_true (some u) a h = rw (lt-leb (length tree) at a.0) (go (leb (length memory / 36) at) refl)
      where
        go : (t : Bool) → leb (length memory / 36) at ≡ t → Truthful f tree (cond t memory (set memory (at * 36 + (4 + k)) byte)) free
        go true e = truth
        go false e = keep_there u a (leb-false (length memory / 36) at e) h

-- The lengths stay.
pub kept_long : (memory free : List ℕ) (n k at byte : ℕ)
    → (length (memory_with memory n k at byte) ≡ length memory) × (length (free_with free n k at byte) ≡ length free)
unfolding memory_with free_with
kept_long memory free n k at byte = go (leb n at) (leb (length memory / 36) at)
  where
    go : (s t : Bool)
        → (length (cond s memory (cond t memory (set memory (at * 36 + (4 + k)) byte))) ≡ length memory) × (length (cond s (set free k byte) free) ≡ length free)
    go true t = (refl, length-set free k byte)
    go false true = (refl, refl)
    go false false = (length-set memory (at * 36 + (4 + k)) byte, refl)

-- A memory of zeros keeps no end.
pub blank_ends : (l : Language) (tree memory : List ℕ) → ((i : ℕ) → get_or memory i 0 ≡ 0) → TrueEnds l tree memory
unfolding kept_end
blank_ends l tree memory h = record { is = λ at k u q e. inl (rw (h (at * 36), h (at * 36 + 1), h (at * 36 + 2), h (at * 36 + 3)) refl) }

-- A memory in which nothing but ends is kept says nothing else.
pub ends_true : (f : Translation) (tree before memory free : List ℕ) (e r : ℕ) → length free ≡ 32 → ((i : ℕ) → get_or before i 0 ≡ 0) → ((i : ℕ) → get_or free i 0 ≡ 0)
    → Fills f.target tree before memory e r → Truthful f tree memory free
ends_true f tree before memory free e r n h g w = record {
  ends = w.ends (blank_ends f.target tree before h);
  long = n;
  kept = λ at k u q a. rw (w.levels at k q, h (at * 36 + (4 + k))) nothing_says;
  spare = λ k q. rw (g k) nothing_says;
}

-- The same of a memory that is equal.
pub ap_long : {v w : List ℕ} {n : ℕ} → v ≡ w → length w ≡ n → length v ≡ n
ap_long e h = ap length e ∙ h

pub same_truth : {f : Translation} {tree memory free v w : List ℕ} → v ≡ memory → w ≡ free → Truthful f tree memory free → Truthful f tree v w
same_truth e d h = rw (e, d) h
