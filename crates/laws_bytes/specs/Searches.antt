-- What a search puts out, in bytes (paper 02, 2026-09: "find the source tree within that limit whose run gives the target tree, the
-- first in byte order"; "give 23 exactly if no source tree within the limit does"; "Clauses that drop an argument take its first
-- legal tree within the levels left").
use Rattle.std.specs.Prelude.{ℕ, suc, ◌≤◌, ◌≡◌, Bool, false, ◌||◌, List, [], ◌∷◌, length, eqb}
use Rattle.std.proofs.Math.Option.{some}
use Rattle.outcome.specs.Outcome.{value, refused}
use Rattle.outcome.specs.declared.Reason.TheVariants.{NoSource}
use Rattle.format_language.specs.Language.{arguments_of}
use Rattle.tree_reader.specs.Code.{Code, node, token, argument, Codes, nil, cons, levels}
use Rattle.tree_reader.specs.Typing.{Typed}
use Rattle.tree_reader.specs.Syntax.{write, tree}
use Rattle.tree_reader.specs.Operations.{tree_of}
use Rattle.format_translation.specs.Translation.{Translation}
use Rattle.format_translation.specs.TranslationFile.{translation_of}
use Rattle.format_translation.specs.Running.{clauses_of}
use Rattle.format_translation.specs.Operations.{run_bytes}
use Rattle.search_sources.specs.Sources.{before}
use Rattle.search_sources.specs.Operations.{ready, search_bytes}
use Rattle.laws_bytes.specs.Files.{OfBytes}

-- Bytes that are a source tree within the limit whose run puts out the target.
pub record Source (translation : List ℕ) (root : ℕ) (target : List ℕ) (limit : ℕ) (bytes : List ℕ) : Type 0 where
  pub through : Translation
  pub opened : translation_of translation ≡ value through
  pub plan : Code
  pub is_plan : tree_of through.source root bytes ≡ value plan
  pub within : levels plan ≤ limit
  pub runs : run_bytes translation root 0 bytes (length target) ≡ value target

-- What a search puts out is such a tree: it runs to the target's bytes.
abbrev pub FoundRuns : Type 0
FoundRuns =
    (translation : List ℕ) (root : ℕ) (target : List ℕ) (limit room : ℕ) (bytes : List ℕ)
    → search_bytes translation root target limit room ≡ value bytes → Source translation root target limit bytes

-- No such tree comes before it in byte order.
abbrev pub NothingEarlier : Type 0
NothingEarlier =
    (translation : List ℕ) (root : ℕ) (target : List ℕ) (limit room : ℕ) (bytes : List ℕ) → OfBytes translation
    → search_bytes translation root target limit room ≡ value bytes
    → (other : List ℕ) → OfBytes other → Source translation root target limit other → before other bytes ≡ false

-- Once all else is accepted, 23 is given exactly if there is no such tree.
abbrev pub NoneExactly : Type 0
NoneExactly =
    (translation : List ℕ) (root : ℕ) (target : List ℕ) (limit room : ℕ) (f : Translation) → OfBytes translation
    → ready translation root target limit ≡ value f
    → (search_bytes translation root target limit room ≡ refused NoSource
    → (other : List ℕ) → OfBytes other → Source translation root target limit other → ⊥)
    × (((other : List ℕ) → OfBytes other → Source translation root target limit other → ⊥)
    → search_bytes translation root target limit room ≡ refused NoSource)

-- The operand of a kind that stands, counted from 1, among operands of the given kinds.
pub data Operand (k : ℕ) (u : Code) : ℕ → List ℕ → Codes → Type 0 where
  first : {ks : List ℕ} {t : Codes} → Operand k u 1 (k ∷ ks) (cons u t)
  later : {i j : ℕ} {ks : List ℕ} {a : Code} {t : Codes} → Operand k u i ks t → Operand k u (suc i) (j ∷ ks) (cons a t)

-- In the tree t, which has m levels left, stands the tree u, which has n levels left.
pub data Below (f : Translation) (n : ℕ) (u : Code) : ℕ → Code → Type 0 where
  itself : Below f n u n u
  under : {m i j k p : ℕ} {ks : List ℕ} {t : Codes} {a : Code} → arguments_of f.source k p ≡ some ks → Operand j a i ks t
      → Below f n u m a → Below f n u (suc m) (node k p t)

-- A code uses argument i.
unfoldable mutual
  pub uses : ℕ → Code → Bool
  uses i (node k p t) = uses_any i t
  uses i (token v) = false
  uses i (argument a j) = eqb a i

  pub uses_any : ℕ → Codes → Bool
  uses_any i nil = false
  uses_any i (cons a t) = uses i a || uses_any i t

-- Where a clause drops an argument, what stands there in the tree that is found is the first legal tree of its kind within the
-- levels left.
abbrev pub DroppedAreFirst : Type 0
DroppedAreFirst =
    (translation : List ℕ) (root : ℕ) (target : List ℕ) (limit room : ℕ) (bytes : List ℕ) → OfBytes translation
    → search_bytes translation root target limit room ≡ value bytes
    → (s : Source translation root target limit bytes) (n k p i j : ℕ) (ks : List ℕ) (t : Codes) (u : Code)
    → Below s.through (suc n) (node k p t) limit s.plan
    → arguments_of s.through.source k p ≡ some ks → Operand j u i ks t
    → uses i (clauses_of s.through k p 0) ≡ false
    → (v : Code) → Typed s.through.source [] v j → levels v ≤ n → before (write tree v) (write tree u) ≡ false
