-- Laws for opening a translation: its indexes in the front of a table, the parts that are lent, and a law for each return.
use Rattle.std.specs.Prelude.{Err, Ok}
use Prim.Native.Nat.{ℕ, zero, suc, ◌+◌, ◌*◌, ◌<◌, ◌≤◌}
use mathlib.Core.Path.{◌≡◌, refl, sym, ap, ◌∙◌}
use mathlib.Core.Bool.{not}
use mathlib.Core.List.{List, ◌++◌}
use native.Mathlib.Omega.{arith}
use lib.ListN.{length, get_or, take, drop, length-append, length-drop, length-take, get_or-append, get_or-eq_default}
use lib.Seq.{get_or-drop, get_or-take, get_or-append-add}
use lib.Dec.{ltb, eqb}
use borrow.Author.Tests.{lt-ltb, ltb-true, ltb-false, ne_eqb}
use Rattle.outcome.specs.Outcome.{value, Outcome}
use Rattle.outcome.specs.declared.Reason.{Reason}
use Rattle.format_fields.specs.Lists.{is_some}
use Rattle.format_fields.proofs.Truth.{by_test}
use Rattle.tree_reader.specs.Inner.Index.{Built}
use Rattle.tree_reader.specs.Inner.Positions.{kind_before, mapped_in}
use Rattle.format_translation.specs.Translation.{Translation, mapping_of}
use Rattle.format_translation.specs.TranslationFile.{translation_of}
use Rattle.format_translation.specs.Operations.{check_translation}
use Rattle.format_translation.specs.Inner.Parts.{source_in, target_in, body_in}
use Rattle.format_translation.specs.Inner.ItemIndex.{Mapped}
use Rattle.format_translation.proofs.Accepted.{refused_not}
use Rattle.format_translation.proofs.Cuts.{pieces_in, body_in_short}
use Rattle.run_table.specs.Inner.Table.{Ready, Checked}
use Rattle.run_table.specs.Inner.Filling.{Begun}
use Rattle.run_open.specs.Inner.Opened.{Prepared}

-- open_translation: a part of what is all zero.
pub part_zero : (n : ℕ) (o : List ℕ) → ((j : ℕ) → get_or o j 0 ≡ 0) → (j : ℕ) → get_or (take n o) j 0 ≡ 0
part_zero n o clear j =
    by_test (ltb j n)
    (λ e. get_or-take n o j 0 (ltb-true _ _ e) ∙ clear j)
    (λ e.
    let i : n ≤ j = ltb-false _ _ e in
    let l = length-take n o in
    get_or-eq_default (take n o) 0 (omega arith))

-- open_translation: the indexes were made in the front of a table that was all zero.
pub front_begun : (s g o v : List ℕ) → length o ≡ 26184 → ((j : ℕ) → get_or o j 0 ≡ 0) → length v ≡ 16448 → Built 0x11 s v 0 → Built 0x11 g v 8224 → Begun s g (v ++ drop 16448 o)
front_begun s g o v long clear short first second =
    let n = length-append v (drop 16448 o) in
    let d = length-drop 16448 o in
    let same : (j : ℕ) → j < 16448 → get_or (v ++ drop 16448 o) j 0 ≡ get_or v j 0 = λ j h. get_or-append v (drop 16448 o) 0 j (omega arith) in
    record {
      long = omega arith;
      source = record { zeros = first.zeros; long = first.long; zero = first.zero; is = λ j h. same (0 + j) (omega arith) ∙ first.is j h };
      target = record { zeros = second.zeros; long = second.long; zero = second.zero; is = λ j h. same (8224 + j) (omega arith) ∙ second.is j h };
      hints = λ i.
          let e : 25664 + i ≡ length v + (9216 + i) = omega arith in
          ap (λ (m : ℕ). get_or (v ++ drop 16448 o) m 0) e ∙ (get_or-append-add v (drop 16448 o) (9216 + i) 0 ∙ (get_or-drop 16448 o (9216 + i) 0 ∙ clear (16448 + (9216 + i))));
    }

-- open_translation
pub accepted_is : (s : List ℕ) (f : Translation) → translation_of s ≡ value f → {out : Outcome} → out ≡ Ok 0 → out ≡ check_translation s
unfolding check_translation
accepted_is s f e h = rw e h

pub refused_none : {A : Type 0} (s : List ℕ) (f : Translation) → translation_of s ≡ value f → (c : Outcome) (r : Reason) → c ≡ check_translation s → c ≡ Err r → A
unfolding check_translation
refused_none s f e c r ec h =
    let y : c ≡ Ok 0 = rw e at ec in
    refused_not {n = 0} {r = r} (sym h ∙ y)

-- The parts that are lent.
pub parts_checked : (s : List ℕ) (f : Translation) → translation_of s ≡ value f → {x y z : List ℕ} → x ≡ source_in s → y ≡ target_in s → z ≡ body_in s
    → Checked x y z f
parts_checked s f e ex ey ez =
    rw (ex, ey, ez) (record { pieces = pieces_in s f e; short = body_in_short s f e; file = s; accepted = e })

-- The table of the parts, under other names.
pub begun_as : {x y s g t : List ℕ} → x ≡ s → y ≡ g → Begun s g t → Begun x y t
begun_as ex ey w = rw (ex, ey) w

pub prepared_as : {x z s t b table : List ℕ} {f : Translation} → x ≡ s → z ≡ b → Prepared s t b table f → Prepared x t z table f
prepared_as ex ez w = rw (ex, ez) w

pub into_prepared : (s : List ℕ) (f : Translation) → translation_of s ≡ value f → {x table : List ℕ} → x ≡ source_in s → Built 0x11 x table 0 → Ready table f
    → Prepared (source_in s) (target_in s) (body_in s) table f
into_prepared s f e ex built ready = record { checked = parts_checked s f e refl refl refl; ready = ready; index = rw ex at built }

-- has_number
some_before : (x : ℕ) → not (eqb x 0) ≡ is_some (kind_before x)
some_before zero = refl
some_before (suc x) = rw (ne_eqb (suc x) 0 (λ h. omega arith)) refl

pub number_is : (f : Translation) (k : ℕ) {uses : List ℕ} {n h i : ℕ} → Mapped uses f.body → k < 32 → n < 256 → h ≡ k → i ≡ n
    → not (eqb (get_or uses (h * 256 + i) 0) 0) ≡ is_some (mapping_of f.body k n)
unfolding mapped_in
number_is f k {uses} {n} {h} {i} w small byte eh ei =
    let e : kind_before (get_or uses (k * 256 + n) 0) ≡ mapping_of f.body k n = rw (lt-ltb n 256 byte) at (w.is k n small byte) in
    rw (eh, ei) (some_before (get_or uses (k * 256 + n) 0) ∙ ap is_some e)
