-- The passes over a pack: a law for each return of the functions of its check.
use Rattle.std.specs.Prelude.{Err, Ok}
use Prim.Native.Nat.{ℕ, ◌+◌, ◌-◌, ◌<◌, ◌≤◌}
use mathlib.Core.Path.{◌≡◌, refl, sym, ap, ◌∙◌}
use mathlib.Core.Bool.{Bool, true, false, not, ◌&&◌, ◌||◌}
use mathlib.Core.List.{List, [], ◌∷◌, map}
use mathlib.Core.Option.{Option, none, some}
use native.Mathlib.Omega.{arith}
use lib.ListN.{length, get_or, take, drop}
use lib.Dec.{ltb, eqb}
use borrow.Author.Tests.{le-leb, lt-leb, eq-eqb, ne_eqb, eqb-true}
use Rattle.format_fields.specs.Lists.{all, any, is_some, keep}
use Rattle.format_fields.specs.Fields.{pair_at, has_over}
use Rattle.format_fields.specs.Keyed.{rising}
use Rattle.outcome.specs.Outcome.{value, refuse_if, checked, Outcome}
use Rattle.outcome.specs.declared.Reason.TheVariants as Why
use Rattle.format_fields.specs.Inner.Places.{field_end, is_whole, contents_at, places_from, places, order_at, tag_is, long_at, WholeEnd}
use Rattle.format_fields.proofs.Truth.{false_true, and_both, some_is}
use Rattle.format_fields.proofs.Lists.{all_true}
use Rattle.format_fields.proofs.Places.{pass_done, pass_next, end_whole}
use Rattle.format_language.specs.Language.{Language, entry_key, clashes}
use Rattle.format_language.specs.LanguageFile.{entries_of, language_limit}
use Rattle.format_language.specs.Inner.Entries.{entry_whole, Holds, results_meet}
use Rattle.format_language.proofs.Facts.{entries_long}
use Rattle.format_language.proofs.Holds.{entries_there, holds_entries}
use Rattle.format_language.proofs.Chain.{rising_is}
use Rattle.format_language.proofs.Clashes.{clash_is}
use Rattle.format_translation.specs.Translation.{item_key}
use Rattle.format_translation.specs.TranslationFile.{body_of}
use Rattle.format_translation.proofs.Items.{holds_items, rising_is as items-rise}
use Rattle.format_translation.proofs.Whole.{items_long}
use Rattle.format_translation.proofs.Found.{cut}
use Rattle.format_pack.specs.Pack.{Pack, pack_parts, pack_limit, is_language_tag, pack_of}
use Rattle.format_pack.specs.Inner.Parts.{language_at, body_at, part_good, part_whole, parts_ordered, tagged, rises_at, clash_at}
use Rattle.format_pack.proofs.PackCodec.{pack_rises, pack_clashes}
use Rattle.format_pack.proofs.ByPlace.{good_of, part_cases, and_swap, and_join, parts_there, HoldsParts, holds_parts, ordered_is, wholes}

-- part_good, rises_at and clash_at: the field at p ends at e
module _ (s : List ℕ) (p e : ℕ) (ee : e ≡ field_end s p) where
  -- the bytes that are lent of it
  pub lent : cut s (p + 3) e ≡ contents_at s p
  unfolding field_end
  lent =
      let n : e - (p + 3) ≡ pair_at s (p + 1) = omega (arith, ee) in
      ap (λ (n : ℕ). take n (drop (p + 3) s)) n

  module _ (tag : ℕ) (et : tag ≡ get_or s p 0) (x : Bool) where
    pub good_language : tag ≡ 0x30 → x ≡ is_some (entries_of (cut s (p + 3) e)) → x ≡ part_good s p
    unfolding part_good
    good_language h ex = cc (lent, eq-eqb tag 0x30 h)

    pub good_body : (tag ≡ 0x30 → ⊥) → tag ≡ 0x31 → x ≡ is_some (body_of (cut s (p + 3) e)) → x ≡ part_good s p
    unfolding part_good
    good_body n h ex = cc (lent, ne_eqb tag 0x30 n, eq-eqb tag 0x31 h)

    pub good_term : (tag ≡ 0x30 → ⊥) → (tag ≡ 0x31 → ⊥) → eqb tag 0x32 ≡ part_good s p
    unfolding part_good
    good_term n h = cc (ne_eqb tag 0x30 n, ne_eqb tag 0x31 h)

    pub rises_language : tag ≡ 0x30 → x ≡ rising (order_at 0x11 (cut s (p + 3) e)) (places (cut s (p + 3) e)) → x ≡ rises_at s p
    unfolding rises_at
    rises_language h ex = cc (lent, eq-eqb tag 0x30 h)

    pub rises_body : (tag ≡ 0x30 → ⊥) → tag ≡ 0x31 → x ≡ rising (order_at 0x22 (cut s (p + 3) e)) (places (cut s (p + 3) e)) → x ≡ rises_at s p
    unfolding rises_at
    rises_body n h ex = cc (lent, ne_eqb tag 0x30 n, eq-eqb tag 0x31 h)

    pub rises_term : (tag ≡ 0x30 → ⊥) → (tag ≡ 0x31 → ⊥) → true ≡ rises_at s p
    unfolding rises_at
    rises_term n h = cc (ne_eqb tag 0x30 n, ne_eqb tag 0x31 h)

    pub clash_other : (tag ≡ 0x30 → ⊥) → false ≡ clash_at s p
    unfolding clash_at
    clash_other n = cc (ne_eqb tag 0x30 n)

    pub clash_language : tag ≡ 0x30 → x ≡ results_meet (cut s (p + 3) e) (cut s (p + 3) e) → x ≡ clash_at s p
    unfolding clash_at
    clash_language h ex = cc (lent, eq-eqb tag 0x30 h)

-- A whole part is a whole field.
module _ (s : List ℕ) (p : ℕ) where
  pub part_whole_lem : part_whole s p ≡ true → is_whole s p ≡ true
  unfolding part_whole
  part_whole_lem w = (and_both (is_whole s p) (part_good s p) w).0

  -- parts_ordered
  pub part_cut : is_whole s p ≡ false → false ≡ part_whole s p
  unfolding part_whole
  part_cut h = rw h

  pub part_is : (e : ℕ) → WholeEnd s p e → (x : Bool) → x ≡ part_good s p → x ≡ part_whole s p
  unfolding part_whole
  part_is e w x ex = rw (end_whole s p e w) ex

-- Parts in the order of their groups are whole fields.
pub ordered_whole : (s : List ℕ) → parts_ordered s 0x30 (places s) ≡ true → all (is_whole s) (places s) ≡ true
ordered_whole s h = wholes s (places s) (and_both _ _ (sym (ordered_is s 0x30 (places s) (omega arith)) ∙ h)).0

-- count_tag
pub count_start : (tag : ℕ) (s : List ℕ) → 0 + length (keep (tag_is tag s) (places s)) ≡ length (tagged tag s)
unfolding tagged
count_start tag s = omega arith

module _ (tag : ℕ) (s : List ℕ) (p n x : ℕ) (inv : n + length (keep (tag_is tag s) (places_from s p)) ≡ x) where
  pub count_done : length s ≤ p → n ≡ x
  unfolding keep
  count_done h = let e = pass_done (λ l. n + length (keep (tag_is tag s) l)) s p x inv h in omega arith

  module _ (end : ℕ) (ee : end ≡ field_end s p) (here : p < length s) (t : ℕ) (et : t ≡ get_or s p 0) where
    pub count_here : t ≡ tag → n + 1 + length (keep (tag_is tag s) (places_from s end)) ≡ x
    unfolding keep
    count_here h =
        let e = pass_next (λ l. n + length (keep (tag_is tag s) l)) s p x inv end here ee in
        let d = rw (← et, eq-eqb t tag h) at e in
        omega arith

    pub count_other : (t ≡ tag → ⊥) → n + length (keep (tag_is tag s) (places_from s end)) ≡ x
    unfolding keep
    count_other h =
        let e = pass_next (λ l. n + length (keep (tag_is tag s) l)) s p x inv end here ee in
        rw (← et, ne_eqb t tag h) at e

-- parts_whole
module _ (s : List ℕ) (x : Bool) (ex : x ≡ parts_ordered s 0x30 (places s)) where
  pub whole_unordered : x ≡ false → false ≡ is_some (pack_parts s)
  whole_unordered h = rw (← ex, h) at (parts_there s)

  module _ (xt : x ≡ true) (m : ℕ) (em : m ≡ length (tagged 0x30 s)) where
    pub whole_languages : 32 < m → false ≡ is_some (pack_parts s)
    whole_languages h = rw (← ex, xt, ← em, lt-leb m 32 h) at (parts_there s)

    module _ (few : m ≤ 32) (n : ℕ) (en : n ≡ length (tagged 0x31 s)) where
      pub whole_bodies : 32 < n → false ≡ is_some (pack_parts s)
      whole_bodies h = rw (← ex, xt, ← em, le-leb m 32 few, ← en, lt-leb n 32 h) at (parts_there s)

      pub whole_term_lem : n ≤ 32 → (k : ℕ) → k ≡ length (tagged 0x32 s) → eqb k 1 ≡ is_some (pack_parts s)
      whole_term_lem h k ek = rw (← ex, xt, ← em, le-leb m 32 few, ← en, le-leb n 32 h, ← ek) at (parts_there s)

-- A language at a place, and a body.
module _ (s : List ℕ) (p : ℕ) where
  pub language_is : is_some (entries_of (contents_at s p)) ≡ true → entries_of (contents_at s p) ≡ some (language_at s p)
  unfolding language_at
  language_is h = let r = some_is (entries_of (contents_at s p)) h in rw r.1

  pub body_is : is_some (body_of (contents_at s p)) ≡ true → body_of (contents_at s p) ≡ some (body_at s p)
  unfolding body_at
  body_is h = let r = some_is (body_of (contents_at s p)) h in rw r.1

-- rises_at and clash_at: the bytes that are lent of a whole part
module _ (s : List ℕ) (p e : ℕ) (ee : e ≡ field_end s p) (tag : ℕ) (et : tag ≡ get_or s p 0) where
  module _ (w : part_whole s p ≡ true) where
    pub entries_in : tag ≡ 0x30 → all (entry_whole (cut s (p + 3) e)) (places (cut s (p + 3) e)) ≡ true
    unfolding part_good
    entries_in h =
        let i : is_some (entries_of (contents_at s p)) ≡ true = rw (← et, eq-eqb tag 0x30 h) at (good_of s p w) in
        entries_there (cut s (p + 3) e) ∙ (ap (λ (c : List ℕ). is_some (entries_of c)) (lent s p e ee) ∙ i)

    pub entries_long_in : tag ≡ 0x30 → all (long_at (cut s (p + 3) e)) (places (cut s (p + 3) e)) ≡ true
    entries_long_in h = entries_long (cut s (p + 3) e) (entries_in h)

    pub items_long_in : (tag ≡ 0x30 → ⊥) → tag ≡ 0x31 → all (long_at (cut s (p + 3) e)) (places (cut s (p + 3) e)) ≡ true
    unfolding part_good
    items_long_in n h =
        let i : is_some (body_of (contents_at s p)) ≡ true = rw (← et, ne_eqb tag 0x30 n, eq-eqb tag 0x31 h) at (good_of s p w) in
        let l : all (long_at (contents_at s p)) (places (contents_at s p)) ≡ true = items_long (contents_at s p) (holds_items _ _ (body_is s p i)).whole in
        ap (λ (c : List ℕ). all (long_at c) (places c)) (lent s p e ee) ∙ l

  pub entries_rise : rises_at s p ≡ true → tag ≡ 0x30 → rising (order_at 0x11 (cut s (p + 3) e)) (places (cut s (p + 3) e)) ≡ true
  unfolding rises_at
  entries_rise r h =
      let i : rising (order_at 0x11 (contents_at s p)) (places (contents_at s p)) ≡ true = rw (← et, eq-eqb tag 0x30 h) at r in
      ap (λ (c : List ℕ). rising (order_at 0x11 c) (places c)) (lent s p e ee) ∙ i

-- The keys of all languages and bodies rise where they do at each place.
-- The keys of a language, as they are ordered.
language_rises : (s : List ℕ) (l : Language) → Holds s l → rising (order_at 0x11 s) (places s) ≡ rising entry_key l
unfolding order_at
language_rises s l h = rising_is s l h

rises_places : (s l : List ℕ) → all (part_whole s) l ≡ true
    → all (rises_at s) l ≡ (all (rising entry_key) (map (language_at s) (keep (tag_is 0x30 s) l)) && all (rising item_key) (map (body_at s) (keep (tag_is 0x31 s) l)))
unfolding all keep rises_at
rises_places s [] h = refl
rises_places s (p ∷ l) h =
    let w = all_true (part_whole s) p l h in
    let more = rises_places s l w.1 in
    part_cases s p w.0
    (λ e i.
    let z : eqb (get_or s p 0) 0x31 ≡ false = cc (eqb-true (get_or s p 0) 0x30 e) in
    let r = language_rises (contents_at s p) (language_at s p) (holds_entries _ _ (language_is s p i)) in
    cc (more, r, and_join (rising entry_key (language_at s p)) (all (rising entry_key) (map (language_at s) (keep (tag_is 0x30 s) l))) (all (rising item_key) (map (body_at s) (keep (tag_is 0x31 s) l)))))
    (λ d e i.
    let r = items-rise (contents_at s p) (body_at s p) (holds_items _ _ (body_is s p i)) in
    cc (more, r, and_swap (rising item_key (body_at s p)) (all (rising entry_key) (map (language_at s) (keep (tag_is 0x30 s) l))) (all (rising item_key) (map (body_at s) (keep (tag_is 0x31 s) l)))))
    (λ d f e. cc more)

clash_places : (s l : List ℕ) → all (part_whole s) l ≡ true
    → any (clash_at s) l ≡ any (λ m. clashes m m) (map (language_at s) (keep (tag_is 0x30 s) l))
unfolding any keep clash_at
clash_places s [] h = refl
clash_places s (p ∷ l) h =
    let w = all_true (part_whole s) p l h in
    let more = clash_places s l w.1 in
    part_cases s p w.0
    (λ e i.
    let r = clash_is (contents_at s p) (language_at s p) (holds_entries _ _ (language_is s p i)) in
    cc (more, r))
    (λ d e i. cc more)
    (λ d f e. cc more)

-- check_pack
module _ (s : List ℕ) (over : Bool) (eo : over ≡ (ltb pack_limit (length s) || has_over is_language_tag language_limit s)) where
  pub over_refused : {o : Outcome} → over ≡ true → o ≡ Err Why.TooLong → o ≡ checked (pack_of s)
  unfolding pack_of
  over_refused h i = cc

  module _ (within : over ≡ false) (there : Bool) (et : there ≡ is_some (pack_parts s)) where
    absent : (p : Option Pack) → pack_parts s ≡ p → is_some p ≡ false → checked (pack_of s) ≡ Err Why.BrokenField
    unfolding pack_of
    absent none e h = cc
    absent (some p) e h = false_true (sym h)

    pub broken_refused : {o : Outcome} → there ≡ false → o ≡ Err Why.BrokenField → o ≡ checked (pack_of s)
    broken_refused h i = i ∙ sym (absent (pack_parts s) refl (sym et ∙ h))

    module _ (whole_is : there ≡ true) where
      held : (p : Pack) × (pack_parts s ≡ some p)
      held = some_is (pack_parts s) (sym et ∙ whole_is)

      holds : HoldsParts s held.0
      holds = holds_parts s held.0 held.1

      pub each_whole : all (part_whole s) (places s) ≡ true
      each_whole = holds.parts

      opened : (p : Pack) → pack_parts s ≡ some p → pack_of s ≡ refuse_if (not (pack_rises p)) Why.OutOfOrder (refuse_if (pack_clashes p) Why.ClassIsResult (value p))
      unfolding pack_of
      opened p e = rw (sym eo ∙ within, e)

      rise_is : all (rises_at s) (places s) ≡ pack_rises held.0
      unfolding tagged
      rise_is = let h = holds in rises_places s (places s) h.parts ∙ rw (h.languages, h.bodies)

      clash_all : any (clash_at s) (places s) ≡ pack_clashes held.0
      unfolding tagged
      clash_all = let h = holds in clash_places s (places s) h.parts ∙ rw h.languages

      chain : checked (pack_of s) ≡ checked (refuse_if (not (all (rises_at s) (places s))) Why.OutOfOrder (refuse_if (any (clash_at s) (places s)) Why.ClassIsResult (value held.0)))
      chain = rw (rise_is, clash_all) (ap checked (opened held.0 held.1))

      module _ (rise : Bool) (er : rise ≡ all (rises_at s) (places s)) where
        pub order_refused : {o : Outcome} → rise ≡ false → o ≡ Err Why.OutOfOrder → o ≡ checked (pack_of s)
        order_refused h i = i ∙ sym (chain ∙ rw (← er, h))

        module _ (rises : rise ≡ true) (both : Bool) (eb : both ≡ any (clash_at s) (places s)) where
          pub clash_refused : {o : Outcome} → both ≡ true → o ≡ Err Why.ClassIsResult → o ≡ checked (pack_of s)
          clash_refused h i = i ∙ sym (chain ∙ rw (← er, rises, ← eb, h))

          pub pack_accepted : {o : Outcome} → both ≡ false → o ≡ Ok 0 → o ≡ checked (pack_of s)
          pack_accepted h i = i ∙ sym (chain ∙ rw (← er, rises, ← eb, h))
