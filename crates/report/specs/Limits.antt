-- Figure A.1 has no limits; 01 has ("Reduce": 11). What it means that every value on the way to a result keeps to them.
use Rattle.std.specs.Prelude.{◌≡◌, false}
use Rattle.format_language.specs.Language.{Language}
use Rattle.format_translation.specs.Translation.{Translation}
use Rattle.format_pack.specs.Terms.{languages, translations, Term}
use Rattle.reduce_operators.specs.Limits.{language_exceeds, translation_exceeds}
use Rattle.reduce_signs.specs.Evaluation.{Constants}
use Rattle.report.specs.Reduction.{EnvironmentOf, ReducesL, con_l, var_l, res_l, add_l, src_l, tgt_l, let_l, letx_l, ReducesX, con_x, var_x, res_x, add_x, comp_x, idx_x, let_x, letx_x}

-- A language of at most 1,024 bytes.
abbrev pub SmallL : Language → Type 0
SmallL l = language_exceeds l ≡ false

-- A translation of at most 4,096 bytes, its languages of 1,024, its codes of 16 levels.
abbrev pub SmallX : Translation → Type 0
SmallX f = translation_exceeds f ≡ false

-- The value of each rule that was applied is small: in a reduction of a language term, and in one of a translation term.
unfoldable mutual
  pub WithinL : {c : Constants} {α : EnvironmentOf Language} {β : EnvironmentOf Translation} {t : Term languages} {l : Language} → ReducesL c α β t l → Type 0
  WithinL (con_l {l = l} p w) = SmallL l
  WithinL (var_l {l = l} p) = SmallL l
  WithinL (res_l {s = s} x y p) = WithinL x × WithinL y × SmallL s
  WithinL (add_l {s = s} x y q p) = WithinL x × WithinL y × SmallL s
  WithinL (src_l {l = l} x p) = WithinX x × SmallL l
  WithinL (tgt_l {l = l} x p) = WithinX x × SmallL l
  WithinL (let_l {m = m} x y) = WithinL x × WithinL y × SmallL m
  WithinL (letx_l {m = m} x y) = WithinX x × WithinL y × SmallL m

  pub WithinX : {c : Constants} {α : EnvironmentOf Language} {β : EnvironmentOf Translation} {t : Term translations} {f : Translation} → ReducesX c α β t f → Type 0
  WithinX (con_x {f = f} x y p w) = WithinL x × WithinL y × SmallX f
  WithinX (var_x {f = f} p) = SmallX f
  WithinX (res_x {h = h} x y p) = WithinX x × WithinL y × SmallX h
  WithinX (add_x {h = h} x y q p) = WithinX x × WithinX y × SmallX h
  WithinX (comp_x {h = h} x y q p) = WithinX x × WithinX y × SmallX h
  WithinX (idx_x {h = h} x p) = WithinL x × SmallX h
  WithinX (let_x {g = g} x y) = WithinL x × WithinX y × SmallX g
  WithinX (letx_x {g = g} x y) = WithinX x × WithinX y × SmallX g
