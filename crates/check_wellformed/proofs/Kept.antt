-- The indexes of both languages, one behind the other in one table: that neither overwrites the other, and what the tests are given.
use Prim.Native.Nat.{ℕ, ◌<◌}
use mathlib.Core.Path.{◌≡◌, ◌∙◌}
use mathlib.Core.Bool.{true}
use mathlib.Core.List.{List}
use mathlib.Core.Option.{some}
use native.Mathlib.Omega.{arith}
use lib.ListN.{length, get_or, drop, length-drop}
use lib.Seq.{get_or-drop}
use Rattle.format_language.specs.Language.{Language}
use Rattle.format_language.specs.LanguageFile.{entries_of}
use Rattle.tree_reader.specs.Inner.Index.{Built, Around, Indexed}
use Rattle.tree_reader.proofs.Built.{built_indexed, built_below}
use Rattle.format_translation.specs.Translation.{Body, Translation}
use Rattle.format_translation.specs.TranslationFile.{body_of, all_rising}
use Rattle.format_translation.specs.Inner.ItemIndex.{Mapped}
use Rattle.format_translation.specs.Inner.Pieces.{Pieces}
use Rattle.format_translation.proofs.Found.{cut, rest_is}
use Rattle.check_wellformed.specs.Inner.Ready.{Ready}

-- What the tests are given, with the index of the target.
pub own_ready : (s t it b u : List ℕ) → ((l : Language) → entries_of t ≡ some l → Indexed it t l) → length u ≡ 8200 → ((c : Body) → body_of b ≡ some c → Mapped u c)
    → (f : Translation) → Pieces s t b f → all_rising f ≡ true → Ready s t it b u f
own_ready s t it b u index room uses f p rises = record {
  source = p.source;
  short = p.source_short;
  target = index f.target p.target;
  body = p.body;
  room = room;
  uses = uses f.body p.body;
  rises = rises;
}

-- check_parted
pub ready_cut : (s t x b u : List ℕ) (f : Translation) → Ready s t (drop 8224 x) b u f → Ready s t (cut x 8224 (length x)) b u f
ready_cut s t x b u f z = rw (rest_is x 8224) z

-- check_kept: o is all zero, m has the first index, x has both.
module _ (s t o m x : List ℕ) (long : length o ≡ 16448) (w : Built 0x11 s m 0) (k : Around o m 0 8224) (v : Built 0x11 t x 8224) (n : Around m x 8224 16448) where
  pub both_long : length x ≡ 16448
  both_long = n.long ∙ (k.long ∙ long)

  pub first_stays : Built 0x11 s x 0
  first_stays = built_below 0x11 s m x 0 8224 16448 w n (omega arith)

  -- The second index, by the part of the table that is lent.
  pub made_ready : (b u : List ℕ) → ((i : ℕ) → get_or t i 0 < 256) → length u ≡ 8200 → ((c : Body) → body_of b ≡ some c → Mapped u c)
      → (f : Translation) → Pieces s t b f → all_rising f ≡ true → Ready s t (drop 8224 x) b u f
  made_ready b u bytes room uses f p rises =
      let d = length-drop 8224 x in
      own_ready s t (drop 8224 x) b u
      (built_indexed t x (drop 8224 x) 8224 v (omega (arith, both_long)) (λ j h. get_or-drop 8224 x j 0) bytes p.target_short)
      room uses f p rises
