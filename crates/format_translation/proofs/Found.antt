-- The parts of a translation by their places are those of `parts_of`, and a law for each return of the functions on parts.
use Prim.Native.Nat.{ℕ, suc, ◌+◌, ◌-◌, ◌<◌, ◌≤◌}
use mathlib.Core.Path.{◌≡◌, refl, sym, ap, ◌∙◌}
use mathlib.Core.Bool.{Bool, true, false, cond, ◌&&◌, ◌||◌}
use mathlib.Core.List.{List, [], ◌∷◌}
use mathlib.Core.Option.{Option, none, some}
use native.Mathlib.Omega.{arith}
use lib.ListN.{length, get_or, take, drop, length-drop, get_or-eq_default}
use lib.Seq.{slice, take_all}
use lib.Dec.{ltb, leb, eqb}
use borrow.Author.Tests.{lt-ltb, le-ltb, le-leb, eq-eqb, ne_eqb, leb-true, leb-false, eqb-true, eqb-false}
use Rattle.format_fields.specs.Lists.{before, is_some}
use Rattle.format_fields.specs.Fields.{Field, field, pair_at, fields_of, has_over}
use Rattle.format_fields.specs.Inner.Places.{field_end, is_whole, WholeEnd, field_at, contents_at}
use Rattle.format_fields.proofs.Truth.{by_test, none_some}
use Rattle.format_fields.proofs.Lists.{part_is}
use Rattle.format_fields.proofs.Places.{end_past, end_whole}
use Rattle.format_fields.proofs.Split.{fields_done, fields_next, fields_cut}
use Rattle.format_fields.proofs.Codec.{not_over}
use Rattle.format_language.specs.Language.{Language}
use Rattle.format_language.specs.LanguageFile.{entries_of}
use Rattle.format_translation.specs.Translation.{Body, Translation}
use Rattle.format_translation.specs.TranslationFile.{items_in, body_in, body_of, parts, parts_in, parts_of_fields, parts_of, is_language_tag}
use Rattle.format_translation.specs.Inner.Parts.{Parted}
use Rattle.format_translation.specs.Inner.Pieces.{part_end}
use Rattle.format_translation.proofs.Codec.{parts_some, body_from}

-- Parts of a list of fields, by its first two.
one_field : (x : ℕ) (c : List ℕ) (o : Option (List Field)) → eqb x 0x20 ≡ false → parts_of_fields (before (some (field x c)) o) ≡ none
unfolding parts_in
one_field x c none h = refl
one_field x c (some []) h = refl
one_field x c (some (field y d ∷ fs)) h = rw h

module _ (x y : ℕ) (c d : List ℕ) where
  two_fields : (o : Option (List Field)) → eqb y 0x21 ≡ false → parts_of_fields (before (some (field x c)) (before (some (field y d)) o)) ≡ none
  unfolding parts_in
  two_fields none h = refl
  two_fields (some fs) h = rw h (neither (eqb x 0x20) (parts (entries_of c) (entries_of d) (items_in fs)))
    where
      neither : (t : Bool) (p : Option Translation) → cond (t && false) p none ≡ none
      neither true p = refl
      neither false p = refl

  no_body : (s t : Option Language) → none ≡ parts s t none
  no_body none t = refl
  no_body (some s) none = refl
  no_body (some s) (some t) = refl

  both_fields : (o : Option (List Field)) → eqb x 0x20 ≡ true → eqb y 0x21 ≡ true
      → parts_of_fields (before (some (field x c)) (before (some (field y d)) o)) ≡ parts (entries_of c) (entries_of d) (body_in o)
  unfolding parts_in
  both_fields none h k = no_body (entries_of c) (entries_of d)
  both_fields (some fs) h k = rw (h, k)

-- The contents of a whole field are a part.
contents_is : (s : List ℕ) (p : ℕ) → field_end s p ≤ length s → contents_at s p ≡ slice (p + 3) (field_end s p) s
unfolding field_end
contents_is s p h = part_is s (p + 3) (pair_at s (p + 1)) (omega arith)

-- There is a field where its tag is.
tag_in : (s : List ℕ) (p tag : ℕ) → get_or s p 0 ≡ suc tag → p < length s
tag_in s p tag e =
    by_test (leb (length s) p)
    (λ h. let z : get_or s p 0 ≡ 0 = get_or-eq_default {A = ℕ} s 0 {n = p} (leb-true _ _ h) in absurd (omega arith))
    (λ h. leb-false _ _ h)

-- The whole field of this tag at p ends at e, or there is none.
pub record PartAt (tag : ℕ) (s : List ℕ) (p e : ℕ) : Type 0 where
  pub is_tag : eqb (get_or s p 0) tag ≡ true
  pub end : e ≡ field_end s p
  pub fits : e ≤ length s

pub part_at : (tag : ℕ) (s : List ℕ) (p e : ℕ) → e ≡ part_end tag s p → (e ≡ 0 → ⊥) → PartAt tag s p e
unfolding part_end is_whole
part_at tag s p e h n =
    by_test (eqb (get_or s p 0) tag)
    (λ t. by_test (leb (field_end s p) (length s))
    (λ w. let d : e ≡ field_end s p = cc in record { is_tag = t; end = d; fits = rw d (leb-true _ _ w) })
    (λ w. absurd (n (cc))))
    (λ t. absurd (n (cc)))

no_part : (tag : ℕ) (s : List ℕ) (p : ℕ) → part_end tag s p ≡ 0 → (eqb (get_or s p 0) tag ≡ true) → field_end s p ≤ length s → ⊥
unfolding part_end is_whole
no_part tag s p h t w =
    let z : field_end s p ≡ 0 = sym (rw (t, le-leb _ _ w)) ∙ h in
    omega (arith, end_past s p)

-- Without a source there are no parts.
pub no_source : (s : List ℕ) → part_end 0x20 s 0 ≡ 0 → parts_of s ≡ none
unfolding parts_of parts_in field_at
no_source s h =
    by_test (leb (length s) 0)
    (λ e. ap parts_of_fields (fields_done s 0 (leb-true _ _ e)))
    (λ e.
    let i : 0 < length s = leb-false _ _ e in
    by_test (leb (field_end s 0) (length s))
    (λ w.
    ap parts_of_fields (fields_next s 0 i (leb-true _ _ w)) ∙ by_test (eqb (get_or s 0 0) 0x20)
    (λ t. absurd (no_part 0x20 s 0 h t (leb-true _ _ w)))
    (λ t. one_field (get_or s 0 0) (contents_at s 0) (fields_of (drop (field_end s 0) s)) t))
    (λ w. ap parts_of_fields (fields_cut s 0 i (leb-false _ _ w))))

module _ (s : List ℕ) (a : ℕ) (first : PartAt 0x20 s 0 a) where
  source_fields : fields_of s ≡ before (some (field_at s 0)) (fields_of (drop a s))
  source_fields =
      let i : 0 < length s = tag_in s 0 0x1F (eqb-true _ _ first.is_tag) in
      rw first.end (fields_next s 0 i (rw (← first.end) first.fits))

  -- Without a target there are no parts.
  pub no_target : part_end 0x21 s a ≡ 0 → parts_of s ≡ none
  unfolding parts_of parts_in field_at
  no_target h =
      ap parts_of_fields source_fields ∙ by_test (leb (length s) a)
      (λ e. rw (fields_done s a (leb-true _ _ e)))
      (λ e.
      let i : a < length s = leb-false _ _ e in
      by_test (leb (field_end s a) (length s))
      (λ w.
      rw (fields_next s a i (leb-true _ _ w)) (by_test (eqb (get_or s a 0) 0x21)
      (λ t. absurd (no_part 0x21 s a h t (leb-true _ _ w)))
      (λ t. two_fields (get_or s 0 0) (get_or s a 0) (contents_at s 0) (contents_at s a) (fields_of (drop (field_end s a) s)) t)))
      (λ w. rw (fields_cut s a i (leb-false _ _ w))))

  module _ (b : ℕ) (second : PartAt 0x21 s a b) where
    -- The fields of the file: both parts, then those of the rest.
    fields_are : fields_of s ≡ before (some (field 0x20 (slice 3 a s))) (before (some (field 0x21 (slice (a + 3) b s))) (fields_of (drop b s)))
    unfolding field_at
    fields_are =
        let i : a < length s = tag_in s a 0x20 (eqb-true _ _ second.is_tag) in
        let n : fields_of (drop a s) ≡ before (some (field_at s a)) (fields_of (drop b s)) = rw second.end (fields_next s a i (rw (← second.end) second.fits)) in
        let c : contents_at s 0 ≡ slice 3 a s = rw first.end (contents_is s 0 (rw (← first.end) first.fits)) in
        let d : contents_at s a ≡ slice (a + 3) b s = rw second.end (contents_is s a (rw (← second.end) second.fits)) in
        source_fields ∙ cc (n, c, d, eqb-true (get_or s 0 0) 0x20 first.is_tag, eqb-true (get_or s a 0) 0x21 second.is_tag)

    -- With both, the parts are what the three hold.
    pub parts_are : parts_of s ≡ parts (entries_of (slice 3 a s)) (entries_of (slice (a + 3) b s)) (body_of (drop b s))
    unfolding parts_of body_of
    parts_are = ap parts_of_fields fields_are ∙ both_fields 0x20 0x21 (slice 3 a s) (slice (a + 3) b s) (fields_of (drop b s)) refl refl

    -- No language says that it is over the limit: both parts are within it.
    both_within : (fs : List Field) → fields_of (drop b s) ≡ some fs → (limit : ℕ) → has_over is_language_tag limit s ≡ false
        → (length (slice 3 a s) ≤ limit) × (length (slice (a + 3) b s) ≤ limit)
    both_within fs e limit h =
        let z : fields_of s ≡ some (field 0x20 (slice 3 a s) ∷ field 0x21 (slice (a + 3) b s) ∷ fs) = fields_are ∙ rw e refl in
        let (x, (y, r)) = not_over is_language_tag limit s (field 0x20 (slice 3 a s) ∷ field 0x21 (slice (a + 3) b s) ∷ fs) z h in
        (x refl, y refl)

-- A translation whose parts are there has a source and a target.
record Found (s : List ℕ) (a b : ℕ) : Type 0 where
  first : PartAt 0x20 s 0 a
  second : PartAt 0x21 s a b

found : (s : List ℕ) (f : Translation) → parts_of s ≡ some f → Found s (field_end s 0) (field_end s (field_end s 0))
found s f e =
    by_test (eqb (part_end 0x20 s 0) 0)
    (λ h. none_some (sym (no_source s (eqb-true _ _ h)) ∙ e))
    (λ h.
    let p = part_at 0x20 s 0 (part_end 0x20 s 0) refl (eqb-false _ _ h) in
    let x = rw p.end at p in
    by_test (eqb (part_end 0x21 s (field_end s 0)) 0)
    (λ k. none_some (sym (no_target s (field_end s 0) x (eqb-true _ _ k)) ∙ e))
    (λ k.
    let q = part_at 0x21 s (field_end s 0) (part_end 0x21 s (field_end s 0)) refl (eqb-false _ _ k) in
    let y = rw q.end at q in
    record { first = x; second = y }))

-- What `parts_of` answers.
module _ (s : List ℕ) (a : ℕ) (ea : a ≡ field_end s 0) where
  -- the first three bytes of both fields are there
  pub heads_in : (f : Translation) × (parts_of s ≡ some f) → (0 + 2 < length s) × (a + 2 < length s)
  heads_in h =
      let w = found s h.0 h.1 in
      let x : 0 + 3 ≤ field_end s 0 = end_past s 0 in
      let y : field_end s 0 + 3 ≤ field_end s (field_end s 0) = end_past s (field_end s 0) in
      (omega (arith, w.first.fits), omega (arith, w.second.fits, ea))

  pub parted : (b : ℕ) → b ≡ field_end s a → (f : Translation) → parts_of s ≡ some f → Parted s a b f
  parted b eb f e =
      let w = found s f e in
      let x : PartAt 0x20 s 0 a = rw ea w.first in
      let y : PartAt 0x21 s a b = rw (eb, ea) w.second in
      let (p, q, r) = parts_some _ _ _ f (sym (parts_are s a x b y) ∙ e) in
      record {
        source_past = rw ea (end_past s 0);
        target_past = rw eb (end_past s a);
        inside = y.fits;
        source = p;
        target = q;
        body = r;
        short = let g = body_from (drop b s) f.body r in both_within s a x b y g.0 g.1;
      }

-- over_limit
module _ (s : List ℕ) where
  pub over_file : 4096 < length s → true ≡ (ltb 4096 (length s) || has_over is_language_tag 1024 s)
  over_file h = rw (lt-ltb 4096 (length s) h)

  pub over_language : length s ≤ 4096 → has_over is_language_tag 1024 s ≡ (ltb 4096 (length s) || has_over is_language_tag 1024 s)
  over_language h = rw (le-ltb 4096 (length s) h)

-- The bytes that are lent of a file, from q up to e, and from b on.
abbrev pub cut : List ℕ → ℕ → ℕ → List ℕ
cut s q e = take (e - q) (drop q s)

pub cut_is : (s : List ℕ) (q e : ℕ) → q ≤ e → e ≤ length s → cut s q e ≡ slice q e s
cut_is s q e h k =
    let d : q + (e - q) ≡ e = omega arith in
    part_is s q (e - q) (omega arith) ∙ ap (λ (j : ℕ). slice q j s) d

pub rest_is : (s : List ℕ) (b : ℕ) → cut s b (length s) ≡ drop b s
rest_is s b = take_all (length s - b) (drop b s) (rw length-drop (omega arith))

-- part_end
module _ (tag : ℕ) (s : List ℕ) (p : ℕ) where
  pub part_cut : is_whole s p ≡ false → 0 ≡ part_end tag s p
  unfolding part_end
  part_cut h = by_test (eqb (get_or s p 0) tag) (λ e. cc) (λ e. cc)

  module _ (k : ℕ) (ek : k ≡ get_or s p 0) where
    pub part_other : (k ≡ tag → ⊥) → 0 ≡ part_end tag s p
    unfolding part_end
    part_other h = cc (ne_eqb k tag h)

    pub part_whole_lem : k ≡ tag → (e : ℕ) → WholeEnd s p e → e ≡ part_end tag s p
    unfolding part_end
    part_whole_lem here e w = cc (eq-eqb k tag here, end_whole s p e w, w.is)

-- parts_whole
pub not_zero : {n : ℕ} → 0 < n → n ≡ 0 → ⊥
not_zero h e = absurd (omega arith)

module _ (s : List ℕ) (a : ℕ) (ea : a ≡ part_end 0x20 s 0) where
  pub whole_source : a ≡ 0 → false ≡ is_some (parts_of s)
  whole_source h = sym (ap is_some (no_source s (sym ea ∙ h)))

  module _ (na : a ≡ 0 → ⊥) (b : ℕ) (eb : b ≡ part_end 0x21 s a) where
    first : PartAt 0x20 s 0 a
    first = part_at 0x20 s 0 a ea na

    pub whole_target : b ≡ 0 → false ≡ is_some (parts_of s)
    whole_target h = sym (ap is_some (no_target s a first (sym eb ∙ h)))

    module _ (nb : b ≡ 0 → ⊥) where
      second : PartAt 0x21 s a b
      second = part_at 0x21 s a b eb nb

      -- where the parts may be cut out
      pub cuts : (3 ≤ a) × (a ≤ length s) × (a + 3 ≤ b) × (b ≤ length s)
      cuts = (rw first.end (end_past s 0), first.fits, rw second.end (end_past s a), second.fits)

      abbrev three : Bool
      three = is_some (parts (entries_of (slice 3 a s)) (entries_of (slice (a + 3) b s)) (body_of (drop b s)))

      whole_three : three ≡ is_some (parts_of s)
      whole_three = sym (ap is_some (parts_are s a first b second))

      some_parts : (o p : Option Language) (q : Option Body) → is_some (parts o p q) ≡ (is_some o && (is_some p && is_some q))
      some_parts none p q = refl
      some_parts (some l) none q = refl
      some_parts (some l) (some m) none = refl
      some_parts (some l) (some m) (some i) = refl

      cut_three : (is_some (entries_of (cut s 3 a)) && (is_some (entries_of (cut s (a + 3) b)) && is_some (body_of (cut s b (length s))))) ≡ is_some (parts_of s)
      cut_three =
          let c = cuts in
          rw (cut_is s 3 a c.0 c.1, cut_is s (a + 3) b c.2 c.3, rest_is s b)
          (sym (some_parts (entries_of (slice 3 a s)) (entries_of (slice (a + 3) b s)) (body_of (drop b s))) ∙ whole_three)

      module _ (x : Bool) (ex : x ≡ is_some (entries_of (cut s 3 a))) where
        pub whole_first : x ≡ false → false ≡ is_some (parts_of s)
        whole_first h = rw (← ex, h) at cut_three

        module _ (xt : x ≡ true) (y : Bool) (ey : y ≡ is_some (entries_of (cut s (a + 3) b))) where
          pub whole_second : y ≡ false → false ≡ is_some (parts_of s)
          whole_second h = rw (← ex, xt, ← ey, h) at cut_three

          pub whole_body : y ≡ true → (z : Bool) → z ≡ is_some (body_of (cut s b (length s))) → z ≡ is_some (parts_of s)
          whole_body h z ez = rw (← ex, xt, ← ey, h, ← ez) at cut_three
