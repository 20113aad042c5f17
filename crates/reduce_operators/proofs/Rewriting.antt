-- The entries of a file as a value writes them: a law for each return.
use Rattle.std.specs.Prelude.{Option}
use Prim.Native.Nat.{ℕ, suc, ◌+◌, ◌*◌, ◌-◌, ◌/◌, ◌%◌, ◌≤◌, ◌<◌}
use mathlib.Core.Path.{◌≡◌, refl, sym, ap, subst, ◌∙◌}
use mathlib.Core.Bool.{true, false, ◌&&◌}
use mathlib.Core.List.{List, [], ◌∷◌, ◌++◌, map}
use mathlib.Core.Option.{some}
use native.Mathlib.Omega.{arith}
use lib.ListN.{length, take, drop, take-append-drop}
use lib.Seq.{slice, take-take, length-take-le}
use lib.Dec.{eqb}
use borrow.Author.Tests.{leb-true, eq-eqb, ne_eqb, eqb-true}
use Rattle.format_fields.specs.Lists.{concat_map}
use Rattle.format_fields.specs.Fields.{field, byte_at, pair_at, encode_field, encode_fields}
use Rattle.format_fields.specs.Inner.Places.{field_end, is_whole, contents_at, field_at, places}
use Rattle.format_fields.specs.Inner.Writing.{Stores}
use Rattle.format_fields.proofs.Truth.{by_test, and_both}
use Rattle.format_fields.proofs.Codec.{Bytes, bytes_from, each_front}
use Rattle.format_fields.proofs.Lists.{part_is}
use Rattle.format_fields.proofs.Split.{front, contents_length, contents_pair}
use Rattle.format_fields.proofs.Splices.{slice_is}
use Rattle.format_language.specs.Language.{Language}
use Rattle.format_language.specs.LanguageFile.{entry_of, entry_field, entries_of, encode_language}
use Rattle.format_language.specs.Inner.Entries.{size_at, entry_good, entry_whole, entry_at}
use Rattle.format_language.proofs.Codec.{spare, entry_kept, entry_spare}
use Rattle.format_language.proofs.Holds as Held
use Rattle.reduce_operators.specs.Inner.Kept.{written_from}
use Rattle.reduce_operators.specs.Inner.Canonical.{spare_step, entry_bytes}

-- spare_step
module _ (s : List ℕ) (p tag : ℕ) (et : tag ≡ byte_at s p) where
  pub spare_other : (tag ≡ 0x11 → ⊥) → false ≡ spare_step s p
  unfolding spare_step
  spare_other h = cc (ne_eqb tag 0x11 h)

  module _ (class : tag ≡ 0x11) (size : ℕ) (es : size ≡ pair_at s (p + 1)) where
    pub spare_short : (size ≡ 7 → ⊥) → false ≡ spare_step s p
    unfolding spare_step
    spare_short h = cc (eq-eqb tag 0x11 class, ne_eqb size 7 h)

    pub spare_long : size ≡ 7 → (step : ℕ) → step ≡ pair_at s (p + 8) → eqb step 1 ≡ spare_step s p
    unfolding spare_step
    spare_long h step e = cc (eq-eqb tag 0x11 class, eq-eqb size 7 h)

-- put_entry
module _ (s : List ℕ) (p : ℕ) (w : entry_whole s p ≡ true) where
  whole_here : (is_whole s p ≡ true) × (entry_good s p ≡ true)
  unfolding entry_whole
  whole_here = and_both (is_whole s p) (entry_good s p) w

  pub entry_fits : field_end s p ≤ length s
  unfolding is_whole
  entry_fits = leb-true (field_end s p) (length s) whole_here.0

  -- a class with its step has ten bytes
  pub spare_fits : spare_step s p ≡ true → p + 8 ≤ length s
  unfolding spare_step field_end
  spare_fits h =
      let a = and_both (eqb (byte_at s p) 0x11) (eqb (size_at s p) 7 && eqb (pair_at s (p + 8)) 1) h in
      let b = and_both (eqb (size_at s p) 7) (eqb (pair_at s (p + 8)) 1) a.1 in
      omega (arith, eqb-true (size_at s p) 7 b.0, entry_fits)

  module _ (bytes : (i : ℕ) → byte_at s i < 256) where
    entry_of_lem : entry_of (field (byte_at s p) (contents_at s p)) ≡ some (entry_at s p)
    unfolding field_at
    entry_of_lem = let e = Held.entry_here s p whole_here.0 in rw whole_here.1 at e

    contents_bytes : Bytes (contents_at s p)
    contents_bytes =
        let a : Bytes s = bytes_from s (λ i l. bytes i) in
        let b = (each_front (λ x. x < 256) (take (p + 3) s) (drop (p + 3) s) (rw (take-append-drop (p + 3) s) a)).1 in
        let r = drop (p + 3) s in
        let n = pair_at s (p + 1) in
        (each_front (λ x. x < 256) (take n r) (drop n r) (rw (take-append-drop n r) b)).0

    spare_same : spare (byte_at s p) (contents_at s p) ≡ spare_step s p
    unfolding spare_step
    spare_same =
        let l = contents_length s p whole_here.0 in
        by_test (eqb (size_at s p) 7)
        (λ e.
        let n : size_at s p ≡ 7 = eqb-true (size_at s p) 7 e in
        let q = contents_pair s p whole_here.0 5 (p + 8) (omega arith) (omega arith) in
        cc (l, q))
        (λ e. cc l)

    -- the bytes of a field in its place
    piece_is : slice p (field_end s p) s ≡ encode_field (field (byte_at s p) (contents_at s p))
    unfolding encode_field field_end pair_at
    piece_is =
        let f = entry_fits in
        let n = pair_at s (p + 1) in
        let c = contents_at s p in
        let l : length c ≡ byte_at s (p + 1) * 256 + byte_at s (p + 1 + 1) = contents_length s p whole_here.0 in
        let low = bytes (p + 1 + 1) in
        let h : length c / 256 ≡ byte_at s (p + 1) = omega arith in
        let k : length c % 256 ≡ byte_at s (p + 1 + 1) = omega arith in
        let d : drop p s ≡ byte_at s p ∷ byte_at s (p + 1) ∷ byte_at s (p + 1 + 1) ∷ drop (p + 1 + 1 + 1) s =
        cc (front s p (omega arith), front s (p + 1) (omega arith), front s (p + 1 + 1) (omega arith)) in
        let e : p + 1 + 1 + 1 ≡ p + 3 = omega arith in
        let m : p + 3 + n - p ≡ suc (suc (suc n)) = omega arith in
        slice_is s p (p + 3 + n) (omega arith) f ∙ (rw (m, d, e, h, k) refl)

    module _ (o o' : List ℕ) (n : ℕ) (x : Option ℕ) where
      pub entry_stored : spare_step s p ≡ false → (e : ℕ) → e ≡ field_end s p → Stores (slice p e s) o o' n x → Stores (entry_bytes s p) o o' n x
      unfolding entry_bytes
      entry_stored h e ee k =
          let z = piece_is ∙ ap encode_field (sym (entry_kept (byte_at s p) (contents_at s p) (entry_at s p) entry_of_lem contents_bytes (spare_same ∙ h))) in
          subst (λ (v : List ℕ). Stores v o o' n x) (ap (λ (i : ℕ). slice p i s) ee ∙ z) k

      pub spare_stored : spare_step s p ≡ true → Stores (slice 0 3 (0x11 ∷ 0 ∷ 5 ∷ []) ++ slice (p + 3) (p + 8) s) o o' n x → Stores (entry_bytes s p) o o' n x
      unfolding entry_bytes encode_field
      spare_stored h k =
          let f = spare_fits h in
          let c = contents_at s p in
          let a = and_both (eqb (byte_at s p) 0x11) (eqb (length c) 7 && eqb (pair_at c 5) 1) (spare_same ∙ h) in
          let b = and_both (eqb (length c) 7) (eqb (pair_at c 5) 1) a.1 in
          let seven : length c ≡ 7 = eqb-true (length c) 7 b.0 in
          let five : length (take 5 c) ≡ 5 = length-take-le 5 c (omega (arith, seven)) in
          let size : pair_at s (p + 1) ≡ 7 = sym (contents_length s p whole_here.0) ∙ seven in
          let q : p + 3 + 5 ≡ p + 8 = omega arith in
          let t : take 5 c ≡ slice (p + 3) (p + 8) s = rw size (five_of (drop (p + 3) s)) ∙ (part_is s (p + 3) 5 (omega arith) ∙ ap (λ (i : ℕ). slice (p + 3) i s) q) in
          let z : encode_field (field 0x11 (take 5 c)) ≡ 0x11 ∷ 0 ∷ 5 ∷ take 5 c = rw five refl in
          let y : 0x11 ∷ 0 ∷ 5 ∷ slice (p + 3) (p + 8) s ≡ encode_field (entry_field (entry_at s p)) = sym (ap encode_field (entry_spare (byte_at s p) c (entry_at s p) entry_of_lem contents_bytes (spare_same ∙ h)) ∙ (z ∙ ap (λ (r : List ℕ). 0x11 ∷ 0 ∷ 5 ∷ r) t)) in
          subst (λ (v : List ℕ). Stores v o o' n x) y k
        where
          five_of : (l : List ℕ) → take 5 (take 7 l) ≡ take 5 l
          five_of l = take-take 5 7 l (omega arith)

-- put_entries
entries_bytes : (s ps : List ℕ) → concat_map (entry_bytes s) ps ≡ encode_fields (map entry_field (map (entry_at s) ps))
unfolding concat_map entry_bytes encode_fields
entries_bytes s [] = refl
entries_bytes s (p ∷ ps) = ap (λ (r : List ℕ). entry_bytes s p ++ r) (entries_bytes s ps)

-- What is written is the language.
pub language_rewritten : (s : List ℕ) (l : Language) → entries_of s ≡ some l → written_from (entry_bytes s) s 0 ≡ encode_language l
unfolding written_from encode_language
language_rewritten s l e =
    entries_bytes s (places s) ∙ ap (λ (m : Language). encode_fields (map entry_field m)) (Held.holds_entries s l e).entries
