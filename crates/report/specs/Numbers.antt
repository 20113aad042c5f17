-- The propositions of the report that hold with other numbers too (02, 2026-13), over the project's definitions. B.5, B.7 and B.9 know
-- no numbers, and an identity has number 0 only.
use Rattle.std.specs.Prelude.{ℕ, ◌≡◌, false, List, []}
use Rattle.std.proofs.Math.Option.{some}
use Rattle.outcome.specs.Outcome.{value}
use Rattle.format_language.specs.Language.{Language}
use Rattle.tree_reader.specs.Code.{Code}
use Rattle.tree_reader.specs.Typing.{Uses, kind_at, Typed}
use Rattle.format_translation.specs.Translation.{Translation, mapping_of}
use Rattle.format_translation.specs.Running.{Replacing, substitute, transform}
use Rattle.format_translation.specs.TranslationFile.{translation_of}
use Rattle.format_translation.specs.WellFormed.{well_formed}
use Rattle.reduce_operators.specs.Operators.{translation_sum, translation_join}
use Rattle.reduce_operators.specs.Limits.{translation_exceeds}

-- A translation that a file holds.
abbrev pub Held : Translation → Type 0
Held f = (file : List ℕ) × (translation_of file ≡ value f)

-- C.10: each use, of an argument by a number, is replaced by a code of its kind.
abbrev pub NumberedC10 : Type 0
NumberedC10 =
    (l : Language) (u v : Uses) (s : Replacing) (a : Code) (n : ℕ)
    → Typed l u a n → ((i j k : ℕ) → kind_at u i j ≡ some k → Typed l v (s i j) k) → Typed l v (substitute s a) n

-- C.11: the run of a legal tree by number j is a legal tree of the kind to which j maps its kind. (C.8 and C.9: a run is a function.)
abbrev pub NumberedC11 : Type 0
NumberedC11 =
    (f : Translation) → Held f → (a : Code) (n j t : ℕ)
    → Typed f.source [] a n → mapping_of f.body n j ≡ some t → Typed f.target [] (transform f j a) t

-- C.14: a sum that is accepted is well formed.
abbrev pub NumberedC14 : Type 0
NumberedC14 = (f g h : Translation) → Held f → Held g → translation_sum f g ≡ value h → well_formed h ≡ value h

-- C.16: a join that is accepted, and exceeds no limit, is well formed.
abbrev pub NumberedC16 : Type 0
NumberedC16 = (f g h : Translation) → Held f → Held g → translation_join f g ≡ value h → translation_exceeds h ≡ false → well_formed h ≡ value h
