-- What is known of a translation that was accepted from a file of bytes.
use Prim.Native.Nat.{ℕ, zero, suc, ◌+◌, ◌*◌, ◌/◌, ◌%◌, ◌<◌, ◌≤◌}
use mathlib.Core.Path.{◌≡◌, sym, ap, ◌∙◌}
use mathlib.Core.Bool.{Bool, true, false, cond}
use mathlib.Core.List.{List, []}
use mathlib.Core.Option.{some}
use native.Mathlib.Omega.{arith}
use lib.Seq.{slice}
use lib.Dec.{eqb, leb}
use borrow.Author.Tests.{leb-true}
use Rattle.outcome.specs.Outcome.{value}
use Rattle.format_fields.specs.Fields.{byte_at, pair_at}
use Rattle.format_fields.specs.Inner.Places.{field_end}
use Rattle.format_fields.proofs.Truth.{none_some, and_both}
use Rattle.format_fields.proofs.Keyed.{Rising, is_rising}
use Rattle.format_fields.proofs.Codec.{Bytes, bytes_at, each_append}
use Rattle.format_language.specs.Language.{class, production, Range, range_of, is_in, in_range}
use Rattle.format_language.specs.Inner.Entries.{entry_at, class_range}
use Rattle.format_language.proofs.Lookup.{range_mem}
use Rattle.tree_reader.specs.Code.{Code, Codes}
use Rattle.tree_reader.specs.Typing.{kind_at, Typed, TypedAll, typed_node, typed_token, typed_argument, typed_nil, typed_cons}
use Rattle.tree_reader.specs.Syntax.{write, write_all, tree}
use Rattle.tree_reader.proofs.Members.{in_below}
use Rattle.tree_reader.proofs.RoundTrip.{Apart}
use Rattle.tree_reader.proofs.Larger.{apart}
use Rattle.format_translation.specs.Translation.{Translation, item_key, mapping_of, mapped}
use Rattle.format_translation.specs.Running.{clauses_of}
use Rattle.format_translation.specs.TranslationFile.{translation_of}
use Rattle.format_translation.proofs.Lookup.{mem_mapping, mem_mapped}
use Rattle.format_translation.proofs.Preserved.{Carries}
use Rattle.format_translation.proofs.Fitting.{Fitting, formed_fits, fit_carries}
use Rattle.format_translation.proofs.Codec.{WholeTranslation, PartsIn, translation_whole, rises_parts}
use Rattle.search_sources.proofs.Names.{class_production, entry_place, source_bytes_lem, source_names}
use Rattle.laws_bytes.specs.Files.{OfBytes}

pub no_use : (i j : ℕ) {k : ℕ} {A : Type 0} → kind_at [] i j ≡ some k → A
no_use zero j e = none_some e
no_use (suc i) j e = none_some e

value_below : (c : Range) (v : ℕ) → in_range c v ≡ true → v ≤ c.high
unfolding in_range
value_below c v e =
    let z = and_both (leb c.low v) _ e in
    let y = and_both (leb v c.high) _ z.1 in
    leb-true v c.high y.0

module _ (file : List ℕ) (f : Translation) (accepted : translation_of file ≡ value f) where
  abbrev parts : PartsIn file f
  parts = (translation_whole file f accepted).0

  whole : WholeTranslation f
  whole = (translation_whole file f accepted).1

  body_rises : Rising item_key f.body
  body_rises = is_rising item_key f.body (rises_parts f whole.rises).2

  fits : Fitting f
  fits = (formed_fits f f (λ k i. in_below parts.source_bytes k f.source parts.source i) body_rises (translation_whole file f accepted).2).0

  -- Each kind in the source is mapped by number 0.
  pub has_zero : (k : ℕ) → is_in f.source k ≡ true → mapping_of f.body k 0 ≡ some (mapped f.body k 0)
  has_zero k i =
      let (t, m) = fits.maps k i in
      mem_mapping f.body body_rises k 0 t m ∙ ap some (sym (mem_mapped f.body body_rises k 0 t m))

  pub carries : Carries f.source f.target (mapping_of f.body) (clauses_of f)
  carries = fit_carries f body_rises fits

  pub source_apart : Apart f.source
  source_apart = apart f.source whole.source_apart

  -- The values of its classes are numbers of two bytes.
  pub byte_values : OfBytes file → (k : ℕ) (c : Range) → range_of f.source k ≡ some c → c.high < 65536
  unfolding entry_at class_range pair_at
  byte_values narrow k c known =
      let s = parts.source_bytes in
      let (q, d) = entry_place s f.source parts.source (class k c) (range_mem f.source k c known) in
      let x = source_bytes_lem file f accepted narrow (q + 6) in
      let y = source_bytes_lem file f accepted narrow (q + 6 + 1) in
      let z : c.high ≡ byte_at s (q + 6) * 256 + byte_at s (q + 6 + 1) = high_is (eqb (byte_at s q) 0x11) (byte_at s (q + 3)) (byte_at s (q + 4)) (class_range s q) (slice (q + 5) (field_end s q) s) d in
      omega (arith, z, x, y)
    where
      high_is : (b : Bool) (r q : ℕ) (e : Range) (js : List ℕ) → class k c ≡ cond b (class r e) (production r q js) → c.high ≡ e.high
      high_is true r q e js y = let w : c ≡ e = cc in ap (λ (x : Range). x.high) w
      high_is false r q e js y = class_production y

  module _ (narrow : OfBytes file) where
    mutual
      unfolding write

      -- The trees of its source are files of bytes.
      tree_bytes_all : {t : Code} {k : ℕ} → Typed f.source [] t k → Bytes (write tree t)
      tree_bytes_all (typed_node {k = k} {p = p} {ks = ks} e h) = (source_names file f accepted narrow k p ks e, row_bytes h)
      tree_bytes_all (typed_token {v = v} {k = k} {c = c} e h) =
          let d = value_below c v h in
          let b = byte_values narrow k c e in
          let high : v / 256 < 256 = omega (arith, d, b) in
          let low : v % 256 < 256 = omega arith in
          (high, (low, tt))
      tree_bytes_all (typed_argument {i = i} {j = j} e) = no_use i j e

      row_bytes : {t : Codes} {ks : List ℕ} → TypedAll f.source [] t ks → Bytes (write_all tree t)
      row_bytes typed_nil = tt
      row_bytes (typed_cons {a = a} {t = t} h hs) = each_append (λ x. x < 256) (write tree a) (write_all tree t) (tree_bytes_all h) (row_bytes hs)

    pub tree_narrow : (t : Code) (k : ℕ) → Typed f.source [] t k → OfBytes (write tree t)
    tree_narrow t k h = bytes_at (write tree t) (tree_bytes_all h)
