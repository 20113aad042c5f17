-- Figure A.1 of document 000: the reduction of language terms and that of translation terms, a constructor for each of the
-- sixteen rules.
use Rattle.std.specs.Prelude.{ℕ, ◌≡◌, cond, eqb}
use Rattle.std.proofs.Math.Option.{Option, none, some}
use Rattle.std.proofs.Math.ListN.{get_elem?}
use Rattle.format_language.specs.Language.{Language}
use Rattle.format_translation.specs.Translation.{Translation}
use Rattle.format_pack.specs.Terms.{languages, translations, Term, constant, source_of, target_of, make, join, identity, variable, without, sum, bind}
use Rattle.reduce_signs.specs.Evaluation.{Constants}
use Rattle.report.specs.Languages.{WellFormedLanguage, Compatible, IsSum, IsDifference, LiesWithin}
use Rattle.report.specs.WellFormed.{WellFormed}
use Rattle.report.specs.Translations.{CompatibleX, IsSumX, IsDifferenceX, IsComposition, IsIdentity}

-- An environment: α holds languages, β translations. α(v) = l where `α v ≡ some l`.
abbrev pub EnvironmentOf : Type 0 → Type 0
EnvironmentOf A = ℕ → Option A

-- At the start nothing is bound.
abbrev pub empty : {A : Type 0} → EnvironmentOf A
empty v = none

-- α[v ↦ l].
unfoldable pub extended : {A : Type 0} → EnvironmentOf A → ℕ → A → EnvironmentOf A
extended α v l w = cond (eqb v w) (some l) (α w)

mutual
  -- α, β ⊢ L ⇓ l. The constants l and τ, c of the report are those of a pack, by their number.
  pub data ReducesL (c : Constants) : EnvironmentOf Language → EnvironmentOf Translation → Term languages → Language → Type 0 where
    -- Figure A.1, [CON] of languages.
    con_l : {α : EnvironmentOf Language} {β : EnvironmentOf Translation} {n : ℕ} {l : Language}
        → get_elem? c.languages n ≡ some l → WellFormedLanguage l → ReducesL c α β (constant n) l
    -- Figure A.1, [VAR] of languages.
    var_l : {α : EnvironmentOf Language} {β : EnvironmentOf Translation} {v : ℕ} {l : Language}
        → α v ≡ some l → ReducesL c α β (variable v) l
    -- Figure A.1, [RES] of languages.
    res_l : {α : EnvironmentOf Language} {β : EnvironmentOf Translation} {x y : Term languages} {l m s : Language}
        → ReducesL c α β x l → ReducesL c α β y m → IsDifference l m s → ReducesL c α β (without x y) s
    -- Figure A.1, [ADD] of languages.
    add_l : {α : EnvironmentOf Language} {β : EnvironmentOf Translation} {x y : Term languages} {l m s : Language}
        → ReducesL c α β x l → ReducesL c α β y m → Compatible l m → IsSum l m s → ReducesL c α β (sum x y) s
    -- Figure A.1, [SRC] of languages.
    src_l : {α : EnvironmentOf Language} {β : EnvironmentOf Translation} {x : Term translations} {f : Translation} {l : Language}
        → ReducesX c α β x f → l ≡ f.source → ReducesL c α β (source_of x) l
    -- Figure A.1, [TGT] of languages.
    tgt_l : {α : EnvironmentOf Language} {β : EnvironmentOf Translation} {x : Term translations} {f : Translation} {l : Language}
        → ReducesX c α β x f → l ≡ f.target → ReducesL c α β (target_of x) l
    -- Figure A.1, [LET] of languages.
    let_l : {α : EnvironmentOf Language} {β : EnvironmentOf Translation} {v : ℕ} {x y : Term languages} {l m : Language}
        → ReducesL c α β x l → ReducesL c (extended α v l) β y m → ReducesL c α β (bind languages v x y) m
    -- Figure A.1, [LETX] of languages.
    letx_l : {α : EnvironmentOf Language} {β : EnvironmentOf Translation} {w : ℕ} {x : Term translations} {y : Term languages} {f : Translation} {m : Language}
        → ReducesX c α β x f → ReducesL c α (extended β w f) y m → ReducesL c α β (bind translations w x y) m

  -- α, β ⊢ X ⇓ x.
  pub data ReducesX (c : Constants) : EnvironmentOf Language → EnvironmentOf Translation → Term translations → Translation → Type 0 where
    -- Figure A.1, [CON] of transformations.
    con_x : {α : EnvironmentOf Language} {β : EnvironmentOf Translation} {x y : Term languages} {n : ℕ} {f : Translation}
        → ReducesL c α β x f.source → ReducesL c α β y f.target → get_elem? c.bodies n ≡ some f.body → WellFormed f
        → ReducesX c α β (make x y n) f
    -- Figure A.1, [VAR] of transformations.
    var_x : {α : EnvironmentOf Language} {β : EnvironmentOf Translation} {w : ℕ} {f : Translation}
        → β w ≡ some f → ReducesX c α β (variable w) f
    -- Figure A.1, [RES] of transformations.
    res_x : {α : EnvironmentOf Language} {β : EnvironmentOf Translation} {x : Term translations} {y : Term languages} {f h : Translation} {l : Language}
        → ReducesX c α β x f → ReducesL c α β y l → IsDifferenceX f l h → ReducesX c α β (without x y) h
    -- Figure A.1, [ADD] of transformations.
    add_x : {α : EnvironmentOf Language} {β : EnvironmentOf Translation} {x y : Term translations} {f g h : Translation}
        → ReducesX c α β x f → ReducesX c α β y g → CompatibleX f g → IsSumX f g h → ReducesX c α β (sum x y) h
    -- Figure A.1, [COMP] of transformations: the second runs first.
    comp_x : {α : EnvironmentOf Language} {β : EnvironmentOf Translation} {x y : Term translations} {f g h : Translation}
        → ReducesX c α β x f → ReducesX c α β y g → LiesWithin g.target f.source → IsComposition f g h → ReducesX c α β (join x y) h
    -- Figure A.1, [IDX] of transformations.
    idx_x : {α : EnvironmentOf Language} {β : EnvironmentOf Translation} {x : Term languages} {l : Language} {h : Translation}
        → ReducesL c α β x l → IsIdentity l h → ReducesX c α β (identity x) h
    -- Figure A.1, [LET] of transformations.
    let_x : {α : EnvironmentOf Language} {β : EnvironmentOf Translation} {v : ℕ} {x : Term languages} {y : Term translations} {l : Language} {g : Translation}
        → ReducesL c α β x l → ReducesX c (extended α v l) β y g → ReducesX c α β (bind languages v x y) g
    -- Figure A.1, [LETX] of transformations.
    letx_x : {α : EnvironmentOf Language} {β : EnvironmentOf Translation} {w : ℕ} {x y : Term translations} {f g : Translation}
        → ReducesX c α β x f → ReducesX c α (extended β w f) y g → ReducesX c α β (bind translations w x y) g
