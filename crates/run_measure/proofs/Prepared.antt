-- What `prepare` returns: the tables of what the clauses of the body count along the index of the source.
use Prim.Native.Nat.{ℕ, suc, ◌+◌, ◌<◌, ◌≤◌}
use mathlib.Core.Path.{◌≡◌, refl, sym, ap, ◌∙◌}
use mathlib.Core.Logic.{◌⊎◌, inl, inr, ⊎_elim}
use mathlib.Core.List.{List}
use mathlib.Core.Bool.{true, cond}
use mathlib.Core.Option.{some}
use native.Mathlib.Omega.{arith}
use lib.ListN.{length, get_or, get_or-eq_default}
use lib.Seq.{ext_get_or}
use lib.Dec.{ltb, eqb}
use borrow.Author.Tests.{eq-eqb, eqb-true, ltb-true, ltb-false}
use Rattle.format_fields.specs.Lists.{all, any}
use Rattle.outcome.specs.Outcome.{value}
use Rattle.format_fields.specs.Inner.Places.{is_whole, places, order_at}
use Rattle.format_fields.proofs.Truth.{by_test, and_both, all_mem, mem_all, any_mem, mem_any}
use Rattle.format_fields.proofs.Keyed.{Rising, is_rising}
use Rattle.format_language.specs.Language.{production_key}
use Rattle.format_language.specs.LanguageFile.{entries_of}
use Rattle.tree_reader.specs.Inner.Index.{put_all, Built}
use Rattle.tree_reader.proofs.Placed.{puts_length, puts_place, found}
use Rattle.tree_reader.proofs.Indexed.{build_is}
use Rattle.tree_reader.proofs.Members.{in_below}
use Rattle.format_translation.specs.Translation.{Body, Translation, item_key, mapping_of}
use Rattle.format_translation.specs.TranslationFile.{body_of, all_rising}
use Rattle.format_translation.specs.WellFormed.{well_formed}
use Rattle.format_translation.specs.Inner.Items.{item_whole}
use Rattle.format_translation.proofs.Items.{holds_items, rising_is}
use Rattle.format_translation.proofs.Codec.{rises_parts}
use Rattle.format_translation.proofs.Fitting.{formed_fits}
use Rattle.run_measure.specs.Inner.Counting.{Tables, times_at, count_all, width_of}
use Rattle.run_measure.specs.Inner.Measuring.{Counted}
use Rattle.run_measure.proofs.Entries.{linked_none}
use Rattle.run_measure.proofs.Clauses.{all_times}
use Rattle.run_measure.proofs.Given.{Finds, finds_apart, places_along, field_up, items_clauses, number_narrow}

-- An index that is built over zeros finds, for each key, the place of a field of that key.
built_finds : (s index : List ℕ) → length index ≡ 8224 → ((j : ℕ) → get_or index j 0 ≡ 0) → Finds (put_all 0x11 s index (places s)) s
built_finds s index long zeros j h =
    let n = puts_length 0x11 s (places s) index in
    by_test (ltb j 8224)
    (λ e.
    let below : j < 8224 = ltb-true _ _ e in
    let k = puts_place 0x11 s (places s) index j (omega arith) (zeros j) in
    let (p, is, key, here) = found 0x11 (λ p. any (eqb p) (places s)) s j (places s)
    (mem_all _ (places s) (λ p m. mem_any (eqb p) (places s) p m (eq-eqb p p refl))) (rw k at h) in
    let (q, m, same) = any_mem (eqb p) (places s) here in
    (p, k ∙ is, rw (eqb-true p q same) m, key))
    (λ e.
    let past : 8224 ≤ j = ltb-false _ _ e in
    let z = get_or-eq_default {A = ℕ} (put_all 0x11 s index (places s)) 0 {n = j} (omega arith) in
    absurd (omega arith))

-- The fields of a body that is read are whole.
pub body_fields : (s : List ℕ) (b : Body) → body_of s ≡ some b → all (is_whole s) (places s) ≡ true
unfolding item_whole
body_fields s b e =
    let h = holds_items s b e in
    mem_all (is_whole s) (places s) (λ p m. (and_both _ _ (all_mem (item_whole s) (places s) h.whole p m)).0)

-- Tables that are all zero count nothing.
clear_tables : (counts entries : List ℕ) → ((j : ℕ) → get_or counts j 0 ≡ 0) → ((j : ℕ) → get_or entries j 0 ≡ 0) → (q key : ℕ) → times_at (counts, entries) q key ≡ 0
unfolding times_at
clear_tables counts entries a b q key =
    let n = linked_none (get_or entries q 0) entries (get_or entries q 0) key (let z = b q in omega arith) in
    let c : cond (eqb 0 key) (get_or counts q 0) 0 ≡ 0 = by_test (eqb 0 key) (λ t. rw t (a q)) (λ t. rw t) in
    omega arith

-- An index that stands in a table of its own is what was built.
built_whole : (s after : List ℕ) → length after ≡ 8224 → (w : Built 0x11 s after 0) → after ≡ put_all 0x11 s w.zeros (places s)
built_whole s after long w =
    let n = puts_length 0x11 s (places s) w.zeros in
    ext_get_or 0 after (put_all 0x11 s w.zeros (places s)) (omega (arith, w.long))
    (λ j h.
    let z : 0 + j ≡ j = omega arith in
    ap (λ (m : ℕ). get_or after m 0) (sym z) ∙ w.is j (omega arith))

-- What `prepare` returns, from what the pass returns.
module _ (source body after counts entries : List ℕ) (width : ℕ) (source_bytes_lem : (i : ℕ) → get_or source i 0 < 256) (bytes : (i : ℕ) → get_or body i 0 < 256)
    (short : length source ≤ 1024) (brief : length body ≤ 4096) (whole : length after ≡ 8224) (stands : Built 0x11 source after 0)
    (room : length counts ≡ 1024) (clear : (j : ℕ) → get_or counts j 0 ≡ 0) (clean : (j : ℕ) → get_or entries j 0 ≡ 0)
    (wide : width ≡ width_of body) (enough : (length entries ≡ 7168) ⊎ (width ≡ 1)) where
  pub prepared : {tables : Tables} → tables ≡ count_all body after (places body) (counts, entries)
      → (f : Translation) → entries_of source ≡ some f.source → body_of body ≡ some f.body → all_rising f ≡ true → well_formed f ≡ value f
      → Counted tables width after f
  prepared {tables} counted f d e rises formed =
      let index = stands.zeros in
      let built = built_whole source after whole stands in
      let z = build_is source index source_bytes_lem short stands.long stands.zero f.source d built in
      let held = holds_items body f.body e in
      let items-rise : Rising item_key f.body = is_rising item_key f.body (rises_parts f rises).2 in
      let fits = (formed_fits f f (λ k i. in_below source k f.source d i) items-rise formed).0 in
      let w = items_clauses body f held items-rise fits (is_rising (order_at 0x22 body) (places body) (rising_is body f.body held ∙ (rises_parts f rises).2)) in
      let x = finds_apart after source (rw built (built_finds source index stands.long stands.zero)) in
      let low : (k j u : ℕ) → mapping_of f.body k j ≡ some u → j < width = λ k j u maps. let y = number_narrow body f held items-rise fits k j u maps in omega arith in
      let all = all_times source after body f z x w bytes brief (length entries) (⊎_elim (λ a. inl a) (λ a. inr (λ k j u maps. let y = low k j u maps in omega arith)) enough)
      (counts, entries) (record { long = room; entries = refl; fresh = λ q h. let y = clean q in omega arith }) (clear_tables counts entries clear clean)
      (places_along body) (field_up body) in
      rw counted (record {
        owns = λ k p j u ks hk hp there maps.
            let a : get_or after (production_key k p) 0 + 3 ≡ get_or after (production_key k p) 0 + 3 + 0 = omega arith in
            rw a (all k p j u ks hk hp there maps 0 0 (omega arith) (omega arith));
        used = λ k p j u ks hk hp there maps i m h l.
            let a : get_or after (production_key k p) 0 + 4 + i ≡ get_or after (production_key k p) 0 + 3 + (1 + i) = omega arith in
            let b : 1 + i ≡ suc i = omega arith in
            rw (a, b) (all k p j u ks hk hp there maps (suc i) m (omega arith) l);
        narrow = low;
      })
