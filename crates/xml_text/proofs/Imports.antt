-- A law for each return and loop turn of the functions of import.rt.
use Prim.Native.Nat.{ℕ, suc, ◌+◌, ◌-◌, ◌<◌, ◌≤◌}
use mathlib.Core.Path.{◌≡◌, refl, sym, ap, ◌∙◌}
use mathlib.Core.Bool.{◌&&◌}
use mathlib.Core.List.{List, [], ◌∷◌, ◌++◌, map}
use mathlib.Core.Option.{Option, none, some}
use native.Mathlib.Omega.{arith}
use Rattle.std.specs.Prelude.{Ok, Err}
use Rattle.std.specs.Prelude as Std
use Rattle.std.proofs.lemmas.Option.{some_pair_parts}
use lib.ListN.{length, get_or, drop}
use lib.Seq.{slice}
use lib.Dec.{ltb, eqb}
use borrow.Author.Tests.{lt-ltb, le-ltb, ltb-true, ltb-false, eqb-true}
use Rattle.format_fields.specs.Fields.{pair_at}
use Rattle.format_fields.specs.Inner.Places.{places}
use Rattle.format_fields.specs.Lists.{first}
use Rattle.format_fields.proofs.Truth.{by_test, and_both, none_some, first_mem, map_cases}
use Rattle.format_language.specs.Language.{Language, range_of, arguments_at, arguments_of, production_key}
use Rattle.format_language.specs.LanguageFile.{entries_of}
use Rattle.format_language.specs.Inner.Entries.{entry_at, class_range}
use Rattle.format_language.proofs.Holds.{holds_entries}
use Rattle.tree_reader.specs.Code.{Code, node, token as leaf}
use Rattle.tree_reader.specs.Syntax.{Read, done, deep, broken, and_then, read_all}
use Rattle.tree_reader.specs.Inner.Index.{Sound, Indexed}
use Rattle.tree_reader.specs.Inner.Positions.{KindsIn, Rest, rest_of}
use Rattle.tree_reader.specs.Inner.Positions as P
use Rattle.tree_reader.proofs.Laws.{name_in, kinds_in}
use Rattle.format_fields.specs.Decimal.{decimal}
use Rattle.xml_text.specs.Text.{close_node, node_tag}
use Rattle.xml_text.specs.Import.{read_word, read_opening, read_closing, read_token, read_operands, read_element, read_text}
use Rattle.tree_reader.specs.declared.operands.Operands.{Operands}
use Rattle.xml_text.specs.declared.import.TextError.TheVariants.{Deep, Broken}
use Rattle.xml_text.specs.Inner.Scanning.{closes, Numbers, Tokens}
use Rattle.xml_text.specs.Inner.Importing.{Text, Inside, Imports, Opens, OpensElement, Elements, ImportsTree, place_of}
use Rattle.xml_text.proofs.Round.{class_text, no_class, opening_sound}
use Rattle.xml_text.proofs.Words.{closing_word}
use Rattle.check_operations.proofs.Reading.{class_known, class_none, production_none, production_known}
use Rattle.xml_text.proofs.Scans.{no_number, number_at_lem, closes_tag}

-- Answers.
not_end : {e : ℕ} {A : Type 0} → ◌≡◌ {A = Text} (Err Deep) (Ok e) → A
not_end h = absurd (cc)

broken_end : {e : ℕ} {A : Type 0} → ◌≡◌ {A = Text} (Err Broken) (Ok e) → A
broken_end h = absurd (cc)

deep_broken : {A : Type 0} → ◌≡◌ {A = Text} (Err Deep) (Err Broken) → A
deep_broken h = absurd (cc)

end_same : {e d : ℕ} → ◌≡◌ {A = Text} (Ok e) (Ok d) → e ≡ d
end_same h = cc

pub inside_deep : (text : List ℕ) → Inside text (Err Deep)
inside_deep text e h = not_end h

pub inside_broken : (text : List ℕ) → Inside text (Err Broken)
inside_broken text e h = broken_end h

pub inside_end : (text : List ℕ) (e : ℕ) → e ≤ length text → Inside text (Ok e)
inside_end text e h d q = let w = end_same q in omega arith

module _ {A : Type 0} {p : Read A} {text : List ℕ} where
  pub imports_deep : p ≡ deep → Imports p text (Err Deep)
  imports_deep h = record { found = λ e q. not_end q; deep = λ q. h; broken = λ q. deep_broken q }

  pub imports_broken : p ≡ broken → Imports p text (Err Broken)
  imports_broken h = record { found = λ e q. broken_end q; deep = λ q. deep_broken (sym q); broken = λ q. h }

  pub imports_end : {e : ℕ} (a : A) → p ≡ done a (drop e text) → Imports p text (Ok e)
  imports_end {e} a h = record {
    found = λ d q. let w = end_same q in (a, h ∙ ap (λ (n : ℕ). done a (drop n text)) w);
    deep = λ q. not_end (sym q);
    broken = λ q. broken_end (sym q);
  }

-- place_of
pub place_large : (index : List ℕ) (k p : ℕ) → 256 ≤ p → place_of index k p ≡ 0
unfolding place_of
place_large index k p h = let i : 255 < p = omega arith in cc (lt-ltb 255 p i)

pub place_small : (index : List ℕ) (k p : ℕ) {j key r : ℕ} → p < 256 → j ≡ k → key ≡ production_key j p → r ≡ get_or index key 0 → r ≡ place_of index k p
unfolding place_of
place_small index k p h e ek f = let i : p ≤ 255 = omega arith in cc (le-ltb 255 p i)

-- The names of a file's productions are bytes.
module _ (s : List ℕ) (l : Language) (e : entries_of s ≡ some l) (bytes : (i : ℕ) → get_or s i 0 < 256) where
  entry_name : (k p q : ℕ) (ks : List ℕ) → arguments_at k p (entry_at s q) ≡ some ks → p < 256
  unfolding arguments_at entry_at
  entry_name k p q ks h =
      by_test (eqb (get_or s q 0) 0x11)
      (λ t. none_some (let i : none ≡ some ks = cc in i))
      (λ t. by_test (eqb (get_or s (q + 3) 0) k && eqb (get_or s (q + 4) 0) p)
      (λ u. let w = and_both (eqb (get_or s (q + 3) 0) k) (eqb (get_or s (q + 4) 0) p) u in let z = eqb-true (get_or s (q + 4) 0) p w.1 in omega (arith, bytes (q + 4)))
      (λ u. none_some (let i : none ≡ some ks = cc in i)))

  pub name_small : (k p : ℕ) (ks : List ℕ) → arguments_of l k p ≡ some ks → p < 256
  unfolding arguments_of
  name_small k p ks h =
      let m = first_mem (arguments_at k p) (map (entry_at s) (places s)) ks (ap (first (arguments_at k p)) (holds_entries s l e).entries ∙ h) in
      let c = map_cases (entry_at s) m.0 (places s) m.1 in
      entry_name k p c.0 ks (ap (arguments_at k p) (sym c.2) ∙ m.2)

  pub large_none : (k p : ℕ) → 256 ≤ p → arguments_of l k p ≡ none
  large_none k p h = go (arguments_of l k p) refl
    where
      go : (o : Option (List ℕ)) → arguments_of l k p ≡ o → o ≡ none
      go none f = refl
      go (some ks) f = let w = name_small k p ks f in absurd (omega arith)

pub opens_is : {k : ℕ} {text : List ℕ} {at p a : ℕ} {x : Std.Option (ℕ × ℕ)} → Numbers (read_opening k (drop at text)) text (at + 2) x → x ≡ Std.Some (p, a) → Opens k text at p a
opens_is {p = p} {a = a} w h = let z = w.reached p a h in record { reads = w.found p a h; small = w.small p a h; past = z.past; inside = z.inside }

-- What is left behind two readings.
abbrev pub then_rest : Rest → (List ℕ → Rest) → Rest
then_rest (P.rest r) f = f r
then_rest P.deep f = P.deep
then_rest P.broken f = P.broken

-- What the trees leave of a text whose kinds stand in `kinds` from q up to e.
abbrev pub row_rest : Language → ℕ → List ℕ → ℕ → ℕ → List ℕ → Rest
row_rest l levels kinds q e u = rest_of (read_all (read_text l levels) (slice q e kinds) u)

pub rest_made : {A B : Type 0} (p : Read A) (f : A → B) → rest_of (and_then p λ a r. done (f a) r) ≡ rest_of p
rest_made (done a r) f = refl
rest_made deep f = refl
rest_made broken f = refl

pub then_rest_lem : {A B : Type 0} (p : Read A) (f : A → List ℕ → Read B) (g : List ℕ → Rest) → ((a : A) (r : List ℕ) → rest_of (f a r) ≡ g r)
    → rest_of (and_then p f) ≡ then_rest (rest_of p) g
then_rest_lem (done a r) f g same = same a r
then_rest_lem deep f g same = refl
then_rest_lem broken f g same = refl

-- element_at
not_of : {o : Operands} {a : ℕ} {A : Type 0} → ◌≡◌ {A = Std.Option (Operands × ℕ)} Std.None (Std.Some (o, a)) → A
not_of h = absurd (cc)

found_name : (index : List ℕ) (k p : ℕ) {place : ℕ} → place ≡ place_of index k p → (place ≡ 0 → ⊥) → (p < 256) × (place ≡ get_or index (production_key k p) 0)
unfolding place_of
found_name index k p ep pos =
    by_test (ltb 255 p)
    (λ t. absurd (pos (cc)))
    (λ t. let g = ltb-false 255 p t in (omega arith, cc))

module _ (s index text : List ℕ) (k at : ℕ) (kind : k < 32) (bytes : (i : ℕ) → get_or s i 0 < 256) {x : Std.Option (ℕ × ℕ)} (opened : Numbers (read_opening k (drop at text)) text (at + 2) x) where
  element_not : ((l : Language) → Indexed index s l → (reads : ℕ → List ℕ → Read Code) → read_element reads l k (drop at text) ≡ broken) → Elements s index k text at Std.None
  element_not f = record { found = λ o a h. not_of h; nothing = λ h. f }

  unknown : (reads : ℕ → List ℕ → Read Code) (l : Language) (p : ℕ) (r : List ℕ) → arguments_of l k p ≡ none → read_operands reads k p (arguments_of l k p) r ≡ broken
  unfolding read_operands
  unknown reads l p r e = ap (λ (q : Option (List ℕ)). read_operands reads k p q r) e

  pub element_nothing : x ≡ Std.None → Elements s index k text at Std.None
  unfolding read_element
  element_nothing h =
      element_not (λ l z reads. no_number (read_opening k (drop at text)) (λ p r. read_operands reads k p (arguments_of l k p) r) (opened.nothing h)
      (λ p r g. unknown reads l p r (large_none s l z.entries bytes k p (omega arith))))

  module _ {p a : ℕ} (ex : x ≡ Std.Some (p, a)) {place : ℕ} (ep : place ≡ place_of index k p) where
    pub element_unknown : place ≡ 0 → Elements s index k text at Std.None
    unfolding place_of read_element
    element_unknown h =
        element_not (λ l z reads. number_at_lem opened (λ p r. read_operands reads k p (arguments_of l k p) r) ex ∙ unknown reads l p (drop a text) (none_at l z))
      where
        none_at : (l : Language) → Indexed index s l → arguments_of l k p ≡ none
        none_at l z =
            by_test (ltb 255 p)
            (λ t. let g = ltb-true 255 p t in large_none s l z.entries bytes k p (omega arith))
            (λ t.
            let g = ltb-false 255 p t in
            let y : place ≡ get_or index (production_key k p) 0 = cc in
            production_none s index l z k kind p (omega arith) place y h)

    module _ (pos : place ≡ 0 → ⊥) (known : Sound index s) where
      pub element_place : (place + 4 ≤ length s) × (length s ≤ 1024)
      element_place = let f = found_name index k p ep pos in name_in index s known refl kind f.0 f.1 pos

      pub element_found : {o : Operands} → o.first ≡ place + 4 → o.last ≡ place + 2 + pair_at s place → Elements s index k text at (Std.Some (o, a))
      element_found {o} ef el =
          let f = found_name index k p ep pos in
          record {
            found = λ q b h.
                let t = some_pair_parts o q a b h in
                rw (← t.0, ← t.1) (record {
                  name = p;
                  place = place;
                  opens = opens_is opened ex;
                  is_place = ep;
                  some_place = pos;
                  from = ef;
                  to = el;
                  kinds = rw (ef, el) (kinds_in index s known refl kind f.0 f.1 pos refl);
                });
            nothing = λ h. not_of (sym h);
          }

text_past : (l : Language) (k : ℕ) (u : List ℕ) → range_of l k ≡ none → read_text l 0 k u ≡ deep
unfolding read_text
text_past l k u e = cc

-- text_at
module _ (s index text : List ℕ) (k at levels : ℕ) (kind : k < 32) (bytes : (i : ℕ) → get_or s i 0 < 256) {j class : ℕ} (ej : j ≡ k) (ec : class ≡ get_or index j 0) where
  class_is : class ≡ get_or index k 0
  class_is = ec ∙ ap (λ (i : ℕ). get_or index i 0) ej

  -- A token.
  module _ (some_class : class ≡ 0 → ⊥) {x : Std.Option (ℕ × ℕ)} (token_is : Tokens (read_token k (class_range s (class - 1)) (drop at text)) text (at + 2) x) where
    token : (l : Language) → Indexed index s l → read_text l levels k (drop at text) ≡ read_token k (class_range s (class - 1)) (drop at text)
    token l z = class_text l levels k (class_range s (class - 1)) (drop at text) (class_known s index l z k kind class class_is some_class)

    pub at_no_token : x ≡ Std.None → ImportsTree s index k text at levels (Err Broken)
    at_no_token h l z = imports_broken (token l z ∙ token_is.nothing h)

    pub at_token : {v e : ℕ} → x ≡ Std.Some (v, e) → ImportsTree s index k text at levels (Ok e)
    at_token {v} {e} h l z = imports_end (leaf v) (token l z ∙ token_is.found v e h)

  module _ (no : class ≡ 0) where
    pub at_deep : levels ≡ 0 → ImportsTree s index k text at levels (Err Deep)
    at_deep h l z =
        imports_deep (ap (λ (i : ℕ). read_text l i k (drop at text)) h ∙ text_past l k (drop at text) (class_none s index l z k kind class class_is no))

    module _ (some_level : levels ≡ 0 → ⊥) where
      element : (l : Language) → Indexed index s l → read_text l levels k (drop at text) ≡ read_element (read_text l (levels - 1)) l k (drop at text)
      element l z =
          let m : levels ≡ suc (levels - 1) = omega arith in
          ap (λ (i : ℕ). read_text l i k (drop at text)) m ∙ no_class l (levels - 1) k (drop at text) (class_none s index l z k kind class class_is no)

      module _ {x : Std.Option (Operands × ℕ)} (elements : Elements s index k text at x) where
        pub at_no_element : x ≡ Std.None → ImportsTree s index k text at levels (Err Broken)
        at_no_element h l z = imports_broken (element l z ∙ elements.nothing h l z (read_text l (levels - 1)))

        module _ {o : Operands} {a : ℕ} (ex : x ≡ Std.Some (o, a)) where
          abbrev q : ℕ
          q = o.first

          abbrev e : ℕ
          e = o.last

          is_element : OpensElement s index k text at q e a
          is_element = elements.found o a ex

          abbrev p : ℕ
          p = is_element.name

          pub at_kinds : KindsIn s q e
          at_kinds = is_element.kinds

          pub at_past : (at + 2 ≤ a) × (a ≤ length text)
          at_past = let w = is_element.opens in (w.past, w.inside)

          known : (l : Language) → Indexed index s l → arguments_of l k p ≡ some (slice q e s)
          known l z =
              let w = is_element in
              let f = found_name index k p w.is_place w.some_place in
              production_known s index l z k kind p f.0 w.place f.1 w.some_place refl
              ∙ (ap (λ (i : ℕ). some (slice i (w.place + 2 + pair_at s w.place) s)) (sym w.from) ∙ ap (λ (i : ℕ). some (slice q i s)) (sym w.to))

          same_tag : closes at (a - at + 1) text ≡ node_tag close_node k p
          unfolding node_tag
          same_tag =
              let w = is_element.opens in
              closes_tag text at a (120 ∷ (decimal k ++ (46 ∷ (decimal p ++ (62 ∷ []))))) (omega (arith, w.past, w.inside)) w.inside
              (opening_sound k (drop at text) p (drop a text) w.reads)

          -- What follows the opening tag: the arguments, and the closing tag.
          pub at_opened : (l : Language) → Indexed index s l
              → rest_of (read_text l levels k (drop at text)) ≡ then_rest (row_rest l (levels - 1) s q e (drop a text)) (λ u. rest_of (read_word (closes at (a - at + 1) text) u))
          unfolding read_element read_operands
          at_opened l z =
              ap rest_of (element l z
              ∙ (ap (λ (o : Read ℕ). and_then o λ p r. read_operands (read_text l (levels - 1)) k p (arguments_of l k p) r) is_element.opens.reads
              ∙ ap (λ (o : Option (List ℕ)). read_operands (read_text l (levels - 1)) k p o (drop a text)) (known l z)))
              ∙ then_rest_lem (read_all (read_text l (levels - 1)) (slice q e s) (drop a text)) (λ t r. and_then (read_closing k p r) λ u r. done (node k p t) r)
              (λ u. rest_of (read_word (closes at (a - at + 1) text) u))
              (λ t r. rest_made (read_closing k p r) (λ u. node k p t) ∙ ap rest_of (closing_word k p r ∙ ap (λ (w : List ℕ). read_word w r) (sym same_tag)))
