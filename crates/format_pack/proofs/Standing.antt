-- Where the parts of an accepted pack stand: a law for each return of the functions on places.
use Prim.Native.Nat.{ℕ, zero, suc, ◌+◌, ◌-◌, ◌<◌, ◌≤◌}
use mathlib.Core.Path.{◌≡◌, refl, sym, ap, subst, ◌∙◌}
use mathlib.Core.Bool.{Bool, true, ◌&&◌}
use mathlib.Core.List.{List, [], ◌∷◌, map}
use mathlib.Core.Option.{Option, some}
use Rattle.std.specs.Prelude.{Option as Found, Some, None, IsSome}
use borrow.Author.Rules.{rules}
use native.Mathlib.Omega.{arith}
use lib.ListN.{length, get_or, get_elem?, take, drop, length-drop}
use lib.Seq.{take_all}
use lib.Dec.{leb, eqb}
use borrow.Author.Tests.{le-ltb, leb-true, leb-false, eq-eqb, ne_eqb, eqb-true}
use Rattle.format_fields.specs.Lists.{all, keep}
use Rattle.format_fields.specs.Fields.{pair_at}
use Rattle.format_fields.specs.Keyed.{rising}
use Rattle.outcome.specs.Outcome.{value}
use Rattle.format_fields.specs.Inner.Places.{field_end, is_whole, contents_at, field_at, places_in, places_from, places, tag_is, tags_ordered}
use Rattle.format_fields.proofs.Truth.{by_test, false_true, none_some, some_inj, and_both}
use Rattle.format_fields.proofs.Lists.{all_true}
use Rattle.format_fields.proofs.Places.{pass_done, pass_next, end_past, in_done, in_next, whole_end}
use Rattle.format_fields.proofs.Codec.{Each, each_at, Within, not_over}
use Rattle.format_fields.proofs.Split.{fields_at_places}
use Rattle.format_language.specs.Language.{Language}
use Rattle.format_language.specs.LanguageFile.{entries_of, language_limit, language_of}
use Rattle.format_language.proofs.Codec.{GoodLanguage}
use Rattle.format_translation.specs.Translation.{Body, item_key}
use Rattle.format_translation.specs.TranslationFile.{body_of}
use Rattle.format_translation.proofs.Codec.{GoodBody}
use Rattle.format_pack.specs.Pack.{Pack, is_language_tag, pack_of}
use Rattle.format_pack.specs.declared.parts.Place.{Place}
use Rattle.format_pack.specs.Inner.Parts.{language_at, body_at, part_whole, parts_ordered, tagged, StandsAt}
use Rattle.format_pack.proofs.PackCodec.{pack_in_lem, pack_good}
use Rattle.format_pack.proofs.ByPlace.{part_cases, HoldsParts, holds_parts, wholes}
use Rattle.format_pack.proofs.Passes.{language_is, body_is}

-- field_place
pub place_start : (tag : ℕ) (s : List ℕ) (number : ℕ) → get_elem? (keep (tag_is tag s) (places s)) number ≡ get_elem? (tagged tag s) number
unfolding tagged
place_start tag s number = refl

module _ (tag : ℕ) (s : List ℕ) (p left : ℕ) (x : Option ℕ) (inv : get_elem? (keep (tag_is tag s) (places_from s p)) left ≡ x) where
  pub place_none : {A : Type 0} → length s ≤ p → (q : ℕ) → x ≡ some q → A
  unfolding keep
  place_none h q e = none_some (pass_done (λ l. get_elem? (keep (tag_is tag s) l) left) s p x inv h ∙ e)

  module _ (end : ℕ) (ee : end ≡ field_end s p) (here : p < length s) (t : ℕ) (et : t ≡ get_or s p 0) where
    turn : get_elem? (keep (tag_is tag s) (p ∷ places_from s end)) left ≡ x
    turn = pass_next (λ l. get_elem? (keep (tag_is tag s) l) left) s p x inv end here ee

    pub place_other : (t ≡ tag → ⊥) → get_elem? (keep (tag_is tag s) (places_from s end)) left ≡ x
    unfolding keep
    place_other h = rw (← et, ne_eqb t tag h) at turn

    module _ (h : t ≡ tag) where
      turn_here : get_elem? (p ∷ keep (tag_is tag s) (places_from s end)) left ≡ x
      unfolding keep
      turn_here = rw (← et, eq-eqb t tag h) at turn

      pub place_here : left ≡ 0 → (q : ℕ) → x ≡ some q → p ≡ q
      place_here z q e = some_inj (rw z at turn_here ∙ e)

      pub place_next : (left ≡ 0 → ⊥) → get_elem? (keep (tag_is tag s) (places_from s end)) (left - 1) ≡ x
      place_next n = go left n turn_here
        where
          go : (m : ℕ) → (m ≡ 0 → ⊥) → get_elem? (p ∷ keep (tag_is tag s) (places_from s end)) m ≡ x → get_elem? (keep (tag_is tag s) (places_from s end)) (m - 1) ≡ x
          go zero n e = absurd (n refl)
          go (suc m) n e = let d : suc m - 1 ≡ m = omega arith in rw d e

pub stands_here : (tag : ℕ) (s : List ℕ) (p left number : ℕ) → get_elem? (keep (tag_is tag s) (places_from s p)) left ≡ get_elem? (tagged tag s) number
    → (end : ℕ) → end ≡ field_end s p → p < length s → (t : ℕ) → t ≡ get_or s p 0 → t ≡ tag → left ≡ 0 → is_whole s p ≡ true
    → StandsAt tag s number (Some (record { start = p + 3; end = end }))
stands_here tag s p left number inv end ee here t et h z w = record {
  inside = λ a d. let i : record { start = p + 3; end = end } ≡ a = cc in rw (← i) (rw ee (end_past s p), (whole_end s p w end ee).fits);
  is = λ q e.
      let y = place_here tag s p left _ inv end ee here t et h z q e in
      let d : end ≡ field_end s q = ee ∙ ap (field_end s) y in
      rw (y, d) refl;
}

pub stands_nowhere : (tag : ℕ) (s : List ℕ) (p left number : ℕ) → get_elem? (keep (tag_is tag s) (places_from s p)) left ≡ get_elem? (tagged tag s) number
    → length s ≤ p → StandsAt tag s number None
stands_nowhere tag s p left number inv h = record {
  inside = λ a d. cc;
  is = λ q e. place_none tag s p left _ inv h q e;
}

-- What a pack that was accepted holds.
module _ (s : List ℕ) (p : Pack) (e : pack_of s ≡ value p) where
  pub accepted_parts : HoldsParts s p
  accepted_parts = holds_parts s p (pack_in_lem s p e).parts

  pub accepted_whole : all (is_whole s) (places s) ≡ true
  accepted_whole = wholes s (places s) accepted_parts.parts

-- An element that was kept.
kept_at : {A : Type 0} (f g : A → Bool) (l : List A) (n : ℕ) (a : A) → all g l ≡ true → get_elem? (keep f l) n ≡ some a → (f a ≡ true) × (g a ≡ true)
unfolding keep
kept_at f g [] n a h e = none_some e
kept_at f g (b ∷ l) n a h e =
    let w = all_true g b l h in
    by_test (f b)
    (λ d. here d n (rw d at e) w.0 (λ m i. kept_at f g l m a w.1 i))
    (λ d. kept_at f g l n a w.1 (rw d at e))
  where
    here : f b ≡ true → (n : ℕ) → get_elem? (b ∷ keep f l) n ≡ some a → g b ≡ true
        → ((m : ℕ) → get_elem? (keep f l) m ≡ some a → (f a ≡ true) × (g a ≡ true)) → (f a ≡ true) × (g a ≡ true)
    here d zero i j more = let z = some_inj i in (rw (← z) d, rw (← z) j)
    here d (suc n) i j more = more n i

-- An element of a mapped list.
mapped_at : {A B : Type 0} (f : A → B) (l : List A) (n : ℕ) (b : B) → get_elem? (map f l) n ≡ some b → (a : A) × (get_elem? l n ≡ some a) × (f a ≡ b)
mapped_at f [] n b e = none_some e
mapped_at f (a ∷ l) zero b e = (a, refl, some_inj e)
mapped_at f (a ∷ l) (suc n) b e = mapped_at f l n b e

-- A field that was kept is within the limit.
within_kept : (s : List ℕ) (f : ℕ → Bool) (l : List ℕ) (n q : ℕ) → Each (Within is_language_tag language_limit) (map (field_at s) l)
    → get_elem? (keep f l) n ≡ some q → Within is_language_tag language_limit (field_at s q)
unfolding keep
within_kept s f [] n q w e = none_some e
within_kept s f (b ∷ l) n q w e =
    by_test (f b)
    (λ d. here n (rw d at e) (λ m i. within_kept s f l m q w.1 i))
    (λ d. within_kept s f l n q w.1 (rw d at e))
  where
    here : (n : ℕ) → get_elem? (b ∷ keep f l) n ≡ some q → ((m : ℕ) → get_elem? (keep f l) m ≡ some q → Within is_language_tag language_limit (field_at s q))
        → Within is_language_tag language_limit (field_at s q)
    here zero i more = subst (λ (x : ℕ). Within is_language_tag language_limit (field_at s x)) (some_inj i) w.0
    here (suc n) i more = more n i

-- The contents of a whole field, by the place where they stand.
module _ (tag : ℕ) (s : List ℕ) (number : ℕ) {r : Found Place} (w : StandsAt tag s number r) where
  pub contents_there : {a : Place} → r ≡ Some a → (q : ℕ) → get_elem? (tagged tag s) number ≡ some q → take (a.end - a.start) (drop a.start s) ≡ contents_at s q
  unfolding field_end
  contents_there {a} e q d =
      let i : record { start = q + 3; end = field_end s q } ≡ a = cc (w.is q d) in
      let j : field_end s q - (q + 3) ≡ pair_at s (q + 1) = omega arith in
      rw (← i, j) refl

  pub contents_none : r ≡ None → {A : Type 0} (q : ℕ) → get_elem? (tagged tag s) number ≡ some q → A
  contents_none e q d = cc (w.is q d)

-- language_at and body_at
module _ (s : List ℕ) (number : ℕ) {c : List ℕ} (p : Pack) (e : pack_of s ≡ value p) where
  pub language_found : ((q : ℕ) → get_elem? (tagged 0x30 s) number ≡ some q → c ≡ contents_at s q)
      → (l : Language) → get_elem? p.languages number ≡ some l → language_of c ≡ value l
  unfolding tagged language_of field_at
  language_found w l g =
      let h = accepted_parts s p e in
      let (q, d, is) = mapped_at (language_at s) (tagged 0x30 s) number l (rw h.languages g) in
      let (tag, good) = kept_at (tag_is 0x30 s) (part_whole s) (places s) number q h.parts d in
      let j : entries_of (contents_at s q) ≡ some (language_at s q) =
      part_cases s q good (λ t i. language_is s q i) (λ t u i. false_true (sym t ∙ tag)) (λ t u i. false_true (sym t ∙ tag)) in
      let i : entries_of c ≡ some l = ap entries_of (w q d) ∙ (j ∙ ap some is) in
      let f = each_at GoodLanguage p.languages number l (pack_good s p e).0 g in
      let v = not_over is_language_tag language_limit s (map (field_at s) (places s)) (fields_at_places s ∙ rw (accepted_whole s p e) refl) (pack_in_lem s p e).within in
      let n : length c ≤ 1024 = rw (w q d) (within_kept s (tag_is 0x30 s) (places s) number q v d tag) in
      rw (le-ltb 1024 (length c) n, i, f.rises, f.apart)

  pub body_found : ((q : ℕ) → get_elem? (tagged 0x31 s) number ≡ some q → c ≡ contents_at s q)
      → (x : Body) → get_elem? p.bodies number ≡ some x → (body_of c ≡ some x) × (rising item_key x ≡ true)
  unfolding tagged
  body_found w x g =
      let h = accepted_parts s p e in
      let (q, d, is) = mapped_at (body_at s) (tagged 0x31 s) number x (rw h.bodies g) in
      let (tag, good) = kept_at (tag_is 0x31 s) (part_whole s) (places s) number q h.parts d in
      let n : eqb (get_or s q 0) 0x30 ≡ true → ⊥ = λ t. omega (arith, eqb-true (get_or s q 0) 0x30 t, eqb-true (get_or s q 0) 0x31 tag) in
      let j : body_of (contents_at s q) ≡ some (body_at s q) =
      part_cases s q good (λ t i. absurd (n t)) (λ t u i. body_is s q i) (λ t u i. false_true (sym u ∙ tag)) in (
        ap body_of (w q d) ∙ (j ∙ ap some is),
        (each_at GoodBody p.bodies number x (pack_good s p e).1 g).rises,
      )

-- The term is the last field.
abbrev terms : List ℕ → List ℕ → List ℕ
terms s l = keep (tag_is 0x32 s) l

tag_term : (s : List ℕ) (p : ℕ) → part_whole s p ≡ true → leb 0x32 (get_or s p 0) ≡ true → eqb (get_or s p 0) 0x32 ≡ true
tag_term s p h k =
    let n = leb-true 0x32 (get_or s p 0) k in
    part_cases s p h
    (λ e i. absurd (omega (arith, eqb-true (get_or s p 0) 0x30 e)))
    (λ d e i. absurd (omega (arith, eqb-true (get_or s p 0) 0x31 e)))
    (λ d f e. e)

none_after : (s : List ℕ) (l : List ℕ) → parts_ordered s 0x32 l ≡ true → terms s l ≡ [] → l ≡ []
unfolding tags_ordered keep
none_after s [] h e = refl
none_after s (p ∷ l) h e =
    let w = and_both (part_whole s p && leb 0x32 (get_or s p 0)) (parts_ordered s (get_or s p 0) l) h in
    let v = and_both (part_whole s p) (leb 0x32 (get_or s p 0)) w.0 in
    let z : p ∷ terms s l ≡ [] = rw (tag_term s p v.0 v.1) at e in
    none_some {B = ℕ} {b = 0} (cc)

no_place : (f : ℕ) (s : List ℕ) (p : ℕ) → length s - p < f → places_in f s p ≡ [] → length s ≤ p
no_place zero s p h e = absurd (omega arith)
no_place (suc f) s p h e =
    by_test (leb (length s) p) (λ d. leb-true (length s) p d)
    (λ d.
    let z : p ∷ places_in f s (field_end s p) ≡ [] = sym (in_next s p f (leb-false (length s) p d)) ∙ e in
    none_some {B = ℕ} {b = 0} (cc))

term_last : (f : ℕ) (s : List ℕ) (last p q : ℕ) → length s - p < f → parts_ordered s last (places_in f s p) ≡ true
    → terms s (places_in f s p) ≡ q ∷ [] → length s ≤ field_end s q
unfolding tags_ordered keep
term_last zero s last p q h o e = absurd (omega arith)
term_last (suc f) s last p q h o e =
    by_test (leb (length s) p)
    (λ d. let z : [] ≡ q ∷ [] = rw (in_done s p f (leb-true (length s) p d)) at e in none_some {B = ℕ} {b = 0} (cc))
    (λ d.
    let i : p < length s = leb-false (length s) p d in
    let m : length s - field_end s p < f = omega (arith, end_past s p) in
    let o2 = rw (in_next s p f i) at o in
    let e2 = rw (in_next s p f i) at e in
    let w = and_both (part_whole s p && leb last (get_or s p 0)) (parts_ordered s (get_or s p 0) (places_in f s (field_end s p))) o2 in
    by_test (eqb (get_or s p 0) 0x32)
    (λ t.
    let z : p ∷ terms s (places_in f s (field_end s p)) ≡ q ∷ [] = rw t at e2 in
    let y : p ≡ q = cc in
    let x : terms s (places_in f s (field_end s p)) ≡ [] = cc in
    let v : parts_ordered s 0x32 (places_in f s (field_end s p)) ≡ true = rw (eqb-true (get_or s p 0) 0x32 t) at w.1 in
    rw (← y) (no_place f s (field_end s p) m (none_after s (places_in f s (field_end s p)) v x)))
    (λ t. term_last f s (get_or s p 0) (field_end s p) q m w.1 (rw t at e2)))

one_mapped : {A B : Type 0} (f : A → B) (l : List A) (b : B) → map f l ≡ b ∷ [] → (a : A) × (l ≡ a ∷ []) × (f a ≡ b)
one_mapped f [] b e = none_some {B = ℕ} {b = 0} (cc)
one_mapped f (a ∷ []) b e = (a, refl, cc)
one_mapped f (a ∷ c ∷ l) b e = none_some {B = ℕ} {b = 0} (cc)

-- term_start
module _ (s : List ℕ) (p : Pack) (e : pack_of s ≡ value p) {r : Found Place} (w : StandsAt 0x32 s 0 r) where
  term_at : (q : ℕ) × (tagged 0x32 s ≡ q ∷ []) × (contents_at s q ≡ p.term)
  term_at = one_mapped (contents_at s) (tagged 0x32 s) p.term (accepted_parts s p e).term

  term_place : r ≡ Some (record { start = term_at.0 + 3; end = field_end s term_at.0 })
  term_place = w.is term_at.0 (ap (λ (l : List ℕ). get_elem? l 0) term_at.1)

  pub term_there : IsSome r
  term_there = rw term_place (search rules)

  pub term_found : {a : Place} → r ≡ Some a → drop a.start s ≡ p.term
  unfolding tagged field_end places_from
  term_found {a} ea =
      let h = accepted_parts s p e in
      let (q, one, is) = one_mapped (contents_at s) (tagged 0x32 s) p.term h.term in
      let i : record { start = q + 3; end = field_end s q } ≡ a = cc (w.is q (ap (λ (l : List ℕ). get_elem? l 0) one)) in
      let n = term_last (suc (length s)) s 0x30 0 q (omega arith) h.ordered one in
      let m : length (drop (q + 3) s) ≤ pair_at s (q + 1) = simp length-drop (omega arith) in
      rw (← i) (sym (take_all (pair_at s (q + 1)) (drop (q + 3) s) m) ∙ is)
