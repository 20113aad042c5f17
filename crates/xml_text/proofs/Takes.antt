-- What a text holds, and a law for each return and loop turn of the functions of contents.rt.
use Prim.Native.Nat.{ℕ, zero, suc, ◌+◌, ◌*◌, ◌/◌, ◌%◌, ◌-◌, ◌<◌, ◌≤◌}
use mathlib.Core.Path.{◌≡◌, refl, sym, ap, ◌∙◌}
use mathlib.Core.Bool.{Bool}
use mathlib.Core.List.{List, [], ◌∷◌, ◌++◌, append_assoc, append-nil}
use native.Mathlib.Omega.{arith}
use Rattle.std.specs.Prelude.{Option, Some, None}
use Rattle.std.proofs.lemmas.Option.{some_pair_parts}
use lib.ListN.{length, get_or, drop, set, drop_of_length-le, length-append, length-drop, length-set}
use lib.Seq.{get_or-drop, drop-drop, drop_at}
use lib.Dec.{ltb, leb}
use borrow.Author.Tests.{ltb-true, ltb-false, le-leb, eq-eqb, ne_eqb}
use Rattle.format_fields.specs.Fields.{two_bytes}
use Rattle.format_fields.specs.Inner.Writing.{spliced}
use Rattle.format_fields.proofs.Truth.{by_test}
use Rattle.format_fields.proofs.Split.{front, byte_drop}
use Rattle.format_fields.proofs.Splices.{nothing_spliced}
use Rattle.tree_reader.specs.Syntax.{done}
use Rattle.format_fields.specs.Decimal.{decimal}
use Rattle.xml_text.specs.Text.{open_node, close_node, open_token, close_token, node_tag, token_tag}
use Rattle.xml_text.specs.Import.{is_digit, read_number}
use Rattle.xml_text.specs.Inner.Scanning.{Numbers}
use Rattle.xml_text.specs.Inner.Contents.{Contents, empty, closing, opening, value, signed, bytes_in, after, Behind, Written-to, Takes}
use Rattle.format_fields.proofs.Decimal.{decimal_small, decimal_large, decimal_some}
use Rattle.xml_text.proofs.Decimal.{Stops, same_done, digit_range, number_round}
use Rattle.xml_text.proofs.Round.{node_tag_lem, token_tag_lem, stop_end, stop_tag}
use Rattle.xml_text.proofs.Scans.{number_one, number_none, end_no_digit}
use Rattle.xml_text.proofs.Stores.{written_then, set_stored, store_in}

not_to : {e m : ℕ} {A : Type 0} → ◌≡◌ {A = Option (ℕ × ℕ)} None (Some (e, m)) → A
not_to h = absurd (cc)

to_same : {e m d k : ℕ} → ◌≡◌ {A = Option (ℕ × ℕ)} (Some (e, m)) (Some (d, k)) → (e ≡ d) × (m ≡ k)
to_same {e} {m} {d} {k} h = some_pair_parts e d m k h

-- behind
module _ (c : ℕ) (text : List ℕ) (at to : ℕ) (going : after c (drop to text) ≡ after c (drop at text)) (past : at ≤ to) where
  pub behind_end : to ≡ length text → Behind c text at (length text)
  unfolding after
  behind_end e =
      let z : drop to text ≡ [] = drop_of_length-le text {i = to} (omega arith) in
      let y : drop (length text) text ≡ [] = drop_of_length-le text {i = length text} (omega arith) in
      record { left = y ∙ (ap (after c) (sym z) ∙ going); past = omega arith; inside = omega arith }

  module _ (there : to < length text) where
    pub behind_found : get_or text to 0 ≡ c → Behind c text at (to + 1)
    unfolding after
    behind_found h =
        let d = eq-eqb (get_or text to 0) c h in
        let f = front text to there in
        let z : after c (get_or text to 0 ∷ drop (to + 1) text) ≡ drop (to + 1) text = cc in
        record { left = sym z ∙ (ap (after c) (sym f) ∙ going); past = omega arith; inside = omega arith }

    pub behind_again : (get_or text to 0 ≡ c → ⊥) → after c (drop (to + 1) text) ≡ after c (drop at text)
    unfolding after
    behind_again h =
        let d = ne_eqb (get_or text to 0) c h in
        let f = front text to there in
        let z : after c (get_or text to 0 ∷ drop (to + 1) text) ≡ after c (drop (to + 1) text) = cc in
        sym z ∙ (ap (after c) (sym f) ∙ going)

-- A byte that does not stand in a list comes behind it.
abbrev Clear : ℕ → List ℕ → Type 0
Clear c [] = Unit {0}
Clear c (b ∷ s) = (b ≡ c → ⊥) × Clear c s

clear_both : (c : ℕ) (s t : List ℕ) → Clear c s → Clear c t → Clear c (s ++ t)
clear_both c [] t h i = i
clear_both c (b ∷ s) t h i = (h.0, clear_both c s t h.1 i)

clear_decimal : (c f n : ℕ) → ((d : ℕ) → d < 10 → 48 + d ≡ c → ⊥) → n < f → Clear c (decimal n)
clear_decimal c zero n other h = absurd (omega arith)
clear_decimal c (suc f) n other h =
    by_test (ltb n 10)
    (λ e. let m : n < 10 = ltb-true n 10 e in rw (decimal_small n m) (other n m, tt))
    (λ e.
    let m : 10 ≤ n = ltb-false n 10 e in
    rw (decimal_large n m) (clear_both c (decimal (n / 10)) ((48 + n % 10) ∷ []) (clear_decimal c f (n / 10) other (omega arith)) (other (n % 10) (omega arith), tt)))

after_clear : (c : ℕ) (s : List ℕ) (i : ℕ) (r : List ℕ) → Clear c s → i ≤ length s → after c (drop i (s ++ (c ∷ r))) ≡ r
unfolding after
after_clear c [] zero r h g = cc (eq-eqb c c refl)
after_clear c [] (suc i) r h g = absurd (omega arith)
after_clear c (b ∷ s) zero r h g = let d = ne_eqb b c h.0 in let z = after_clear c s zero r h.1 (omega arith) in cc
after_clear c (b ∷ s) (suc i) r h g = after_clear c s i r h.1 (omega arith)

point_clear : (k : ℕ) → Clear 46 (decimal k)
point_clear k = clear_decimal 46 (suc k) k (λ d h e. omega arith) (omega arith)

end_clear : (k : ℕ) → Clear 62 (decimal k)
end_clear k = clear_decimal 62 (suc k) k (λ d h e. omega arith) (omega arith)

-- Tags, with what stands behind them.
abbrev names : ℕ → ℕ → List ℕ
names k p = decimal k ++ (46 ∷ decimal p)

after_closing : (k p : ℕ) (r : List ℕ) → after 62 (drop 6 (node_tag close_node k p ++ r)) ≡ r
after_closing k p r =
    let e : node_tag close_node k p ++ r ≡ (60 ∷ 47 ∷ 120 ∷ names k p) ++ (62 ∷ r) = node_tag_lem close_node k p r ∙ ap (λ (s : List ℕ). 60 ∷ 47 ∷ 120 ∷ s) (sym (append_assoc (decimal k) (46 ∷ decimal p) (62 ∷ r))) in
    let c = clear_both 62 (decimal k) (46 ∷ decimal p) (end_clear k) ((λ z. omega arith), end_clear p) in
    let n = length-append (decimal k) (46 ∷ decimal p) in
    ap (λ (s : List ℕ). after 62 (drop 6 s)) e
    ∙ after_clear 62 (60 ∷ 47 ∷ 120 ∷ names k p) 6 r ((λ z. omega arith), ((λ z. omega arith), ((λ z. omega arith), c))) (omega (arith, n, decimal_some k, decimal_some p))

after_point : (k p : ℕ) (r : List ℕ) → after 46 (drop 3 (node_tag open_node k p ++ r)) ≡ decimal p ++ (62 ∷ r)
after_point k p r =
    ap (λ (s : List ℕ). after 46 (drop 3 s)) (node_tag_lem open_node k p r)
    ∙ after_clear 46 (60 ∷ 120 ∷ decimal k) 3 (decimal p ++ (62 ∷ r)) ((λ z. omega arith), ((λ z. omega arith), point_clear k)) (omega (arith, decimal_some k))

after_token : (k : ℕ) (r : List ℕ) → after 62 (drop 3 (token_tag open_token k ++ r)) ≡ r
after_token k r =
    ap (λ (s : List ℕ). after 62 (drop 3 s)) (token_tag_lem open_token k r)
    ∙ after_clear 62 (60 ∷ 116 ∷ decimal k) 3 r ((λ z. omega arith), ((λ z. omega arith), end_clear k)) (omega (arith, decimal_some k))

second_of : (w : ℕ) (s t : List ℕ) → s ≡ 60 ∷ w ∷ t → get_or s 1 0 ≡ w
second_of w s t e = ap (λ (u : List ℕ). get_or u 1 0) e

closing_second : (s r : List ℕ) (k p : ℕ) → s ≡ node_tag close_node k p ++ r → get_or s 1 0 ≡ 47
closing_second s r k p e = second_of 47 s _ (e ∙ node_tag_lem close_node k p r)

opening_second : (s r : List ℕ) (k p : ℕ) → s ≡ node_tag open_node k p ++ r → get_or s 1 0 ≡ 120
opening_second s r k p e = second_of 120 s _ (e ∙ node_tag_lem open_node k p r)

value_second : (s r : List ℕ) (k : ℕ) → s ≡ token_tag open_token k ++ r → get_or s 1 0 ≡ 116
value_second s r k e = second_of 116 s _ (e ∙ token_tag_lem open_token k r)

-- What stands at the front of a text, by its second byte.
pub contents_none : (s v : List ℕ) → Contents s v → s ≡ [] → v ≡ []
contents_none s v empty q = refl
contents_none s v (closing {r = r} k p e h) q = let z = closing_second s r k p e in let y = ap (λ (u : List ℕ). get_or u 1 0) q in absurd (omega (arith, z, y))
contents_none s v (opening {r = r} k p b e h) q = let z = opening_second s r k p e in let y = ap (λ (u : List ℕ). get_or u 1 0) q in absurd (omega (arith, z, y))
contents_none s v (value {r = r} k n b e h) q = let z = value_second s _ k e in let y = ap (λ (u : List ℕ). get_or u 1 0) q in absurd (omega (arith, z, y))

pub contents_long : (s v : List ℕ) → Contents s v → 0 < length s → 6 ≤ length s
contents_long s v empty l = absurd (omega arith)
contents_long s v (closing {r = r} k p e h) l =
    let z = ap length (e ∙ node_tag_lem close_node k p r) in
    omega (arith, z, length-append (decimal k) (46 ∷ (decimal p ++ (62 ∷ r))), length-append (decimal p) (62 ∷ r), decimal_some k, decimal_some p)
contents_long s v (opening {r = r} k p b e h) l =
    let z = ap length (e ∙ node_tag_lem open_node k p r) in
    omega (arith, z, length-append (decimal k) (46 ∷ (decimal p ++ (62 ∷ r))), length-append (decimal p) (62 ∷ r), decimal_some k, decimal_some p)
contents_long s v (value {r = r} k n b e h) l =
    let t = decimal n ++ (token_tag close_token k ++ r) in
    let z = ap length (e ∙ token_tag_lem open_token k t) in
    omega (arith, z, length-append (decimal k) (62 ∷ t), decimal_some k, length-append (decimal n) (token_tag close_token k ++ r), decimal_some n, ap length (token_tag_lem close_token k r))

pub after_shut : (s v : List ℕ) → Contents s v → get_or s 1 0 ≡ 47 → Contents (after 62 (drop 6 s)) v
after_shut s v empty q = absurd (omega arith)
after_shut s v (closing {r = r} k p e h) q =
    let z : r ≡ after 62 (drop 6 s) = sym (ap (λ (u : List ℕ). after 62 (drop 6 u)) e ∙ after_closing k p r) in
    rw (← z) h
after_shut s v (opening {r = r} k p b e h) q = let z = opening_second s r k p e in absurd (omega (arith, z))
after_shut s v (value {r = r} k n b e h) q = let z = value_second s _ k e in absurd (omega (arith, z))

-- A name, or a value, at the front of a text.
record Name (s v : List ℕ) : Type 0 where
  name : ℕ
  rest : List ℕ
  bytes : List ℕ
  byte : name < 256
  parts : v ≡ name ∷ bytes
  there : after 46 (drop 3 s) ≡ decimal name ++ (62 ∷ rest)
  holds : Contents rest bytes

name_of : (s v : List ℕ) → Contents s v → get_or s 1 0 ≡ 120 → Name s v
name_of s v empty q = absurd (omega arith)
name_of s v (closing {r = r} k p e h) q = let z = closing_second s r k p e in absurd (omega (arith, z))
name_of s v (opening {r = r} {v = w} k p b e h) q = record {
  name = p;
  rest = r;
  bytes = w;
  byte = b;
  parts = refl;
  there = ap (λ (u : List ℕ). after 46 (drop 3 u)) e ∙ after_point k p r;
  holds = h;
}
name_of s v (value {r = r} k n b e h) q = let z = value_second s _ k e in absurd (omega (arith, z))

record Value (s v : List ℕ) : Type 0 where
  kind : ℕ
  number : ℕ
  rest : List ℕ
  bytes : List ℕ
  small : number < 65536
  parts : v ≡ two_bytes number ++ bytes
  there : after 62 (drop 3 s) ≡ decimal number ++ (token_tag close_token kind ++ rest)
  long : length s ≡ length (token_tag open_token kind) + length (decimal number ++ (token_tag close_token kind ++ rest))
  holds : Contents rest bytes

value_of : (s v : List ℕ) → Contents s v → 0 < length s → (get_or s 1 0 ≡ 47 → ⊥) → (get_or s 1 0 ≡ 120 → ⊥) → Value s v
value_of s v empty l i j = absurd (omega arith)
value_of s v (closing {r = r} k p e h) l i j = absurd (i (closing_second s r k p e))
value_of s v (opening {r = r} k p b e h) l i j = absurd (j (opening_second s r k p e))
value_of s v (value {r = r} {v = w} k n b e h) l i j = record {
  kind = k;
  number = n;
  rest = r;
  bytes = w;
  small = b;
  parts = refl;
  there = ap (λ (u : List ℕ). after 62 (drop 3 u)) e ∙ after_token k (decimal n ++ (token_tag close_token k ++ r));
  long = ap length e ∙ length-append (token_tag open_token k) (decimal n ++ (token_tag close_token k ++ r));
  holds = h;
}

-- The number that stands there is the one that is read.
module _ (text : List ℕ) (a p : ℕ) (t : List ℕ) (there : drop a text ≡ decimal p ++ t) (stops : Stops t) {x : Option (ℕ × ℕ)} (reads : Numbers (read_number (drop a text)) text a x) where
  is_there : read_number (drop a text) ≡ done p t
  is_there = ap read_number there ∙ number_round p t stops

  number_not : {A : Type 0} → p < 65536 → x ≡ None → A
  number_not b h = let w : 65536 ≤ p = rw is_there at (reads.nothing h) in absurd (omega arith)

  number_same : {v e : ℕ} → x ≡ Some (v, e) → (v ≡ p) × (drop e text ≡ t)
  number_same {v} {e} h = same_done v p (drop e text) t (sym (reads.found v e h) ∙ is_there)

tags_long : (k : ℕ) → length (token_tag close_token k) ≡ length (token_tag open_token k) + 1
unfolding token_tag
tags_long k = omega arith

-- take: positions from `at` on
module _ (text : List ℕ) (at : ℕ) where
  second_at : {w : ℕ} → get_or text (at + 1) 0 ≡ w → get_or (drop at text) 1 0 ≡ w
  second_at h = get_or-drop at text 1 0 ∙ h

  second_not : {w : ℕ} → (get_or text (at + 1) 0 ≡ w → ⊥) → get_or (drop at text) 1 0 ≡ w → ⊥
  second_not h q = h (sym (get_or-drop at text 1 0) ∙ q)

  dropped : (c i : ℕ) → after c (drop (at + i) text) ≡ after c (drop i (drop at text))
  dropped c i = ap (after c) (sym (drop-drop i at text))

  pub take_short : (o : List ℕ) (n : ℕ) → at < length text → length text - at < 6 → Takes text at o o n None
  take_short o n h i = record {
    inside = λ e m q. not_to q;
    next = λ e m q. not_to q;
    full = λ q v c. let z = contents_long (drop at text) v c (omega (arith, length-drop at text)) in absurd (omega (arith, length-drop at text));
  }

  pub take_closing : (o : List ℕ) (n : ℕ) {e : ℕ} → get_or text (at + 1) 0 ≡ 47 → n ≤ length o → Behind 62 text (at + 6) e → Takes text at o o n (Some (e, n))
  take_closing o n {e} h i b = record {
    inside = λ d m q. let w = to_same q in (omega (arith, w.0, b.past), omega (arith, w.0, b.inside), omega (arith, w.1));
    next = λ d m q v c r.
        let w = to_same q in
        let z : after 62 (drop 6 (drop at text)) ≡ drop e text = sym (b.left ∙ dropped 62 6) in
        rw (← w.0, ← w.1) (record {
          first = [];
          rest = v;
          parts = refl;
          holds = rw z at (after_shut (drop at text) v c (second_at h));
          put = record { end = omega arith; fits = i; bytes = nothing_spliced o n };
        });
    full = λ q. not_to (sym q);
  }

  -- take_name
  module _ (o : List ℕ) (n : ℕ) (sign : get_or text (at + 1) 0 ≡ 120) where
    named : (v : List ℕ) → Contents (drop at text) v → Name (drop at text) v
    named v c = name_of (drop at text) v c (second_at sign)

    pub name_full : n ≤ length o → length o - n < 1 → Takes text at o o n None
    name_full i h = record {
      inside = λ e m q. not_to q;
      next = λ e m q. not_to q;
      full = λ q v c. let w = ap length (named v c).parts in omega (arith, w);
    }

    module _ {a : ℕ} (point : Behind 46 text (at + 3) a) {x : Option (ℕ × ℕ)} (reads : Numbers (read_number (drop a text)) text a x) where
      name_there : (v : List ℕ) (c : Contents (drop at text) v) → drop a text ≡ decimal (named v c).name ++ (62 ∷ (named v c).rest)
      name_there v c = point.left ∙ (dropped 46 3 ∙ (named v c).there)

      pub name_nothing : x ≡ None → Takes text at o o n None
      name_nothing h = record {
        inside = λ e m q. not_to q;
        next = λ e m q. not_to q;
        full = λ q v c.
            let w = named v c in
            number_not text a w.name (62 ∷ w.rest) (name_there v c) (stop_end w.rest) reads (omega (arith, w.byte)) h;
      }

      module _ {p b : ℕ} (ex : x ≡ Some (p, b)) where
        name_same : (v : List ℕ) (c : Contents (drop at text) v) → (p ≡ (named v c).name) × (drop b text ≡ 62 ∷ (named v c).rest)
        name_same v c = number_same text a (named v c).name (62 ∷ (named v c).rest) (name_there v c) (stop_end (named v c).rest) reads ex

        pub name_cut : length text ≤ b → Takes text at o o n None
        name_cut h = record {
          inside = λ e m q. not_to q;
          next = λ e m q. not_to q;
          full = λ q v c. let w = ap length (name_same v c).1 in absurd (omega (arith, length-drop b text, w));
        }

        pub name_done : {u : ℕ} → b < length text → n < length o → u ≡ p % 256 → Takes text at o (set o n u) n (Some (b + 1, n + 1))
        name_done {u} there h eu = record {
          inside = λ d m q.
              let w = to_same q in
              let y = reads.reached p b ex in
              (omega (arith, w.0, point.past, y.past), omega (arith, w.0), omega (arith, w.1));
          next = λ d m q v c r.
              let w = to_same q in
              let y = named v c in
              let z = name_same v c in
              let left : y.rest ≡ drop (b + 1) text = sym (sym (drop-drop 1 b text) ∙ ap (drop 1) z.1) in
              let byte : y.name ≡ u = omega (arith, z.0, y.byte) in
              rw (← w.0, ← w.1) (record {
                first = u ∷ [];
                rest = y.bytes;
                parts = y.parts ∙ ap (λ (i : ℕ). i ∷ y.bytes) byte;
                holds = rw left at y.holds;
                put = record { end = refl; fits = omega arith; bytes = store_in o n u h };
              });
          full = λ q. not_to (sym q);
        }

    -- A name of one digit.
    name_digit : {a u : ℕ} → Behind 46 text (at + 3) a → a + 1 < length text → n < length o → get_or text (a + 1) 0 ≡ 62 → u ≡ get_or text a 0 % 16
        → Takes text at o (set o n u) n (Some (a + 1 + 1, n + 1))
    name_digit {a} {u} point there h end eu =
        by_test (is_digit (get_or text a 0))
        (λ t.
        let w = digit_range (get_or text a 0) t in
        name_done point (number_one text a there t (end_no_digit end)) refl there h (omega (arith, w.0, w.1, eu)))
        (λ t. record {
          inside = λ d m q. let w = to_same q in (omega (arith, w.0, point.past), omega (arith, w.0), omega (arith, w.1));
          next = λ d m q v c r. let z = (name_nothing point (number_none text a (omega arith) t) refl).full refl v c in absurd (omega (arith, z, r));
          full = λ q. not_to (sym q);
        })

    pub name_short : {u : ℕ} → at + 6 ≤ length text → n < length o → get_or text (at + 3) 0 ≡ 46 → get_or text (at + 5) 0 ≡ 62 → u ≡ get_or text (at + 4) 0 % 16
        → Takes text at o (set o n u) n (Some (at + 6, n + 1))
    name_short {u} long h point end eu =
        let za : at + 3 + 1 ≡ at + 4 = omega arith in
        let zb : at + 4 + 1 ≡ at + 5 = omega arith in
        let zc : at + 4 + 1 + 1 ≡ at + 6 = omega arith in
        let b : Behind 46 text (at + 3) (at + 3 + 1) = behind_found 46 text (at + 3) (at + 3) refl (omega arith) (omega arith) point in
        let d : Takes text at o (set o n u) n (Some (at + 4 + 1 + 1, n + 1)) = name_digit (rw za at b) (omega arith) h (rw zb end) eu in
        rw zc at d

  -- take_value
  module _ (o : List ℕ) (n : ℕ) (there : at < length text) (not-shut : get_or text (at + 1) 0 ≡ 47 → ⊥) (not-name : get_or text (at + 1) 0 ≡ 120 → ⊥) where
    valued : (v : List ℕ) → Contents (drop at text) v → Value (drop at text) v
    valued v c = value_of (drop at text) v c (omega (arith, length-drop at text)) (second_not not-shut) (second_not not-name)

    pub value_full : n ≤ length o → length o - n < 2 → Takes text at o o n None
    value_full i h = record {
      inside = λ e m q. not_to q;
      next = λ e m q. not_to q;
      full = λ q v c. let w = ap length (valued v c).parts in omega (arith, w);
    }

    module _ {a : ℕ} (point : Behind 62 text (at + 3) a) where
      value_there : (v : List ℕ) (c : Contents (drop at text) v) → drop a text ≡ decimal (valued v c).number ++ (token_tag close_token (valued v c).kind ++ (valued v c).rest)
      value_there v c = point.left ∙ (dropped 62 3 ∙ (valued v c).there)

      pub value_cut : length text - a < 6 → Takes text at o o n None
      value_cut h = record {
        inside = λ e m q. not_to q;
        next = λ e m q. not_to q;
        full = λ q v c.
            let y = valued v c in
            let k = ap length (value_there v c) in
            let t = ap length (token_tag_lem close_token y.kind y.rest) in
            absurd (omega (
              arith,
              k,
              t,
              length-drop a text,
              length-append (decimal y.number) (token_tag close_token y.kind ++ y.rest),
              decimal_some y.number,
              length-append (decimal y.kind) (62 ∷ y.rest),
              decimal_some y.kind,
            ));
      }

    module _ {a : ℕ} (point : Behind 62 text (at + 3) a) {x : Option (ℕ × ℕ)} (reads : Numbers (read_number (drop a text)) text a x) where
      pub value_nothing : x ≡ None → Takes text at o o n None
      value_nothing h = record {
        inside = λ e m q. not_to q;
        next = λ e m q. not_to q;
        full = λ q v c.
            let w = valued v c in
            number_not text a w.number _ (value_there point v c) (stop_tag w.kind w.rest) reads w.small h;
      }

      module _ {p b : ℕ} (ex : x ≡ Some (p, b)) where
        value_same : (v : List ℕ) (c : Contents (drop at text) v) → (p ≡ (valued v c).number) × (drop b text ≡ token_tag close_token (valued v c).kind ++ (valued v c).rest)
        value_same v c = number_same text a (valued v c).number _ (value_there point v c) (stop_tag (valued v c).kind (valued v c).rest) reads ex

        -- The closing tag is as long as the opening tag and one byte.
        value_size : (v : List ℕ) (c : Contents (drop at text) v) → length (token_tag close_token (valued v c).kind) ≡ a - at + 1
        value_size v c =
            let y = valued v c in
            let k = ap length (value_there point v c) in
            omega (arith, y.long, k, length-drop at text, length-drop a text, point.past, point.inside, tags_long y.kind, there)

        pub value_short : length text - b < a - at + 1 → Takes text at o o n None
        value_short h = record {
          inside = λ e m q. not_to q;
          next = λ e m q. not_to q;
          full = λ q v c.
              let w = (value_same v c).1 in
              let y = valued v c in
              absurd (omega (arith, ap length w, length-append (token_tag close_token y.kind) y.rest, length-drop b text, value_size v c));
        }

        pub value_done : {u t : ℕ} → a - at + 1 ≤ length text - b → b ≤ length text → n + 2 ≤ length o → u ≡ p / 256 → t ≡ p % 256
            → Takes text at o (set (set o n u) (n + 1) t) n (Some (b + (a - at + 1), n + 2))
        value_done {u} {t} g i h eu et = record {
          inside = λ d m q.
              let w = to_same q in
              let y = reads.reached p b ex in
              (omega (arith, w.0, point.past, y.past), omega (arith, w.0), omega (arith, w.1));
          next = λ d m q v c r.
              let w = to_same q in
              let y = valued v c in
              let z = value_same v c in
              let left : y.rest ≡ drop (b + (a - at + 1)) text =
              sym (sym (drop-drop (a - at + 1) b text) ∙ (ap (drop (a - at + 1)) z.1 ∙ drop_at (token_tag close_token y.kind) y.rest (a - at + 1) (value_size v c))) in
              let i : n + 1 ≡ suc n = omega arith in
              rw (← w.0, ← w.1) (record {
                first = two_bytes p;
                rest = y.bytes;
                parts = y.parts ∙ ap (λ (i : ℕ). two_bytes i ++ y.bytes) (sym z.0);
                holds = rw left at y.holds;
                put = record {
                  end = refl;
                  fits = omega arith;
                  bytes = ap (λ (m : ℕ). set (set o n u) m t) i ∙ (set_stored o n (u ∷ t ∷ []) (omega arith) ∙ rw (eu, et) refl);
                };
              });
          full = λ q. not_to (sym q);
        }

-- There is room for the second byte of a value.
pub second_in : (o : List ℕ) (n : ℕ) {x : Option (ℕ × ℕ)} {v e : ℕ} → x ≡ Some (v, e) → 2 ≤ length o - n → n + 1 < length (set o n (v / 256))
second_in o n {v = v} q h = omega (arith, length-set o n (v / 256))

-- write_contents
module _ (text o : List ℕ) where
  pub taken_start : (v : List ℕ) → Contents text v → Written-to v text o o 0 0 0
  taken_start v c = record { first = []; rest = v; parts = refl; holds = c; put = record { end = omega arith; fits = omega arith; bytes = nothing_spliced o 0 } }

  module _ {o₁ : List ℕ} {at n : ℕ} {v : List ℕ} (room : length v ≤ length o) (so_far : Written-to v text o o₁ 0 at n) where
    pub taken_done : length text ≤ at → (o₁ ≡ spliced o 0 v) × (n ≡ length v)
    taken_done h =
        let e = contents_none (drop at text) so_far.rest so_far.holds (drop_of_length-le text {i = at} h) in
        let z : v ≡ so_far.first = so_far.parts ∙ (ap (λ (u : List ℕ). so_far.first ++ u) e ∙ append-nil so_far.first) in
        (so_far.put.bytes ∙ ap (spliced o 0) (sym z), omega (arith, so_far.put.end, ap length z))

    module _ {o₂ : List ℕ} {x : Option (ℕ × ℕ)} (long : length o₁ ≡ length o) (step : Takes text at o₁ o₂ n x) where
      fits : n + length so_far.rest ≤ length o₁
      fits = omega (arith, so_far.put.end, ap length so_far.parts, length-append so_far.first so_far.rest)

      pub taken_full : {A : Type 0} → x ≡ None → A
      taken_full h = let z = step.full h so_far.rest so_far.holds in let y = fits in absurd (omega arith)

      pub taken_again : {e m : ℕ} → x ≡ Some (e, m) → Written-to v text o o₂ 0 e m
      taken_again {e} {m} h =
          let w = step.next e m h so_far.rest so_far.holds fits in
          record {
            first = so_far.first ++ w.first;
            rest = w.rest;
            parts = so_far.parts ∙ (ap (λ (u : List ℕ). so_far.first ++ u) w.parts ∙ sym (append_assoc so_far.first w.first w.rest));
            holds = w.holds;
            put = written_then so_far.put long w.put;
          }

-- bytes_at
module _ (text : List ℕ) (at : ℕ) (there : at < length text) where
  abbrev Holds : ℕ → Type 0
  Holds r = (bytes_in (drop at text) ≡ r + bytes_in (drop (at + 1) text)) × (r ≤ 2)

  pub holds_none : (get_or text at 0 ≡ 60 → ⊥) → Holds 0
  unfolding bytes_in
  holds_none h =
      let d = ne_eqb (get_or text at 0) 60 h in
      let z : bytes_in (drop at text) ≡ bytes_in (drop (at + 1) text) = rw (front text at there) (cc) in
      (omega arith, omega arith)

  module _ (first : get_or text at 0 ≡ 60) where
    holds_sign : bytes_in (drop at text) ≡ signed (get_or text (at + 1) 0) + bytes_in (drop (at + 1) text)
    unfolding bytes_in
    holds_sign =
        let d = eq-eqb (get_or text at 0) 60 first in
        let g : get_or (drop (at + 1) text) 0 0 ≡ get_or text (at + 1) 0 = byte_drop text (at + 1) 0 (at + 1) (omega arith) in
        rw (front text at there) (cc)

    pub holds_end : length text - at < 2 → Holds 0
    unfolding bytes_in signed
    holds_end h =
        let z : drop (at + 1) text ≡ [] = drop_of_length-le text {i = at + 1} (omega arith) in
        let g : get_or text (at + 1) 0 ≡ 0 = sym (byte_drop text (at + 1) 0 (at + 1) (omega arith)) ∙ ap (λ (u : List ℕ). get_or u 0 0) z in
        let y : signed (get_or text (at + 1) 0) ≡ 0 = ap signed g in
        (holds_sign ∙ omega arith, omega arith)

    pub holds_name : get_or text (at + 1) 0 ≡ 120 → Holds 1
    unfolding signed
    holds_name h = (holds_sign ∙ ap (λ (c : ℕ). signed c + bytes_in (drop (at + 1) text)) h, omega arith)

    pub holds_value : get_or text (at + 1) 0 ≡ 116 → Holds 2
    unfolding signed
    holds_value h = (holds_sign ∙ ap (λ (c : ℕ). signed c + bytes_in (drop (at + 1) text)) h, omega arith)

    pub holds_other : (get_or text (at + 1) 0 ≡ 120 → ⊥) → (get_or text (at + 1) 0 ≡ 116 → ⊥) → Holds 0
    unfolding signed
    holds_other h g =
        let c = ne_eqb (get_or text (at + 1) 0) 120 h in
        let d = ne_eqb (get_or text (at + 1) 0) 116 g in
        let y : signed (get_or text (at + 1) 0) ≡ 0 = cc in
        (holds_sign ∙ omega arith, omega arith)

-- count
pub count_done : (text : List ℕ) (at n : ℕ) → n + bytes_in (drop at text) ≡ bytes_in text → length text ≤ at → n ≡ bytes_in text
unfolding bytes_in
count_done text at n h e = let z : bytes_in (drop at text) ≡ 0 = ap bytes_in (drop_of_length-le text {i = at} e) in omega arith

-- The tags of an export, counted.
clear_count : (s r : List ℕ) → Clear 60 s → bytes_in (s ++ r) ≡ bytes_in r
unfolding bytes_in
clear_count [] r h = refl
clear_count (b ∷ s) r h = let d = ne_eqb b 60 h.0 in let z = clear_count s r h.1 in cc

open_clear : (k : ℕ) → Clear 60 (decimal k)
open_clear k = clear_decimal 60 (suc k) k (λ d h e. omega arith) (omega arith)

rest_count : (s r : List ℕ) → Clear 60 s → (c : ℕ) → (c ≡ 60 → ⊥) → bytes_in (60 ∷ c ∷ (s ++ r)) ≡ signed c + bytes_in r
unfolding bytes_in
rest_count s r h c g = let d = ne_eqb c 60 g in let z = clear_count s r h in cc

tag_clear : (k : ℕ) → Clear 60 (decimal k ++ (62 ∷ []))
tag_clear k = clear_both 60 (decimal k) (62 ∷ []) (open_clear k) ((λ z. omega arith), tt)

names_clear : (k p : ℕ) → Clear 60 (decimal k ++ (46 ∷ (decimal p ++ (62 ∷ []))))
names_clear k p = clear_both 60 (decimal k) (46 ∷ (decimal p ++ (62 ∷ []))) (open_clear k) ((λ z. omega arith), tag_clear p)

pub contents_count : (s v : List ℕ) → Contents s v → bytes_in s ≡ length v
unfolding bytes_in signed node_tag token_tag
contents_count s v empty = refl
contents_count s v (closing {r = r} k p e h) =
    let z = contents_count r v h in
    ap bytes_in e ∙ (rest_count (120 ∷ (decimal k ++ (46 ∷ (decimal p ++ (62 ∷ []))))) r ((λ z. omega arith), names_clear k p) 47 (λ z. omega arith) ∙ omega arith)
contents_count s v (opening {r = r} {v = u} k p b e h) =
    let z = contents_count r u h in
    ap bytes_in e ∙ (rest_count (decimal k ++ (46 ∷ (decimal p ++ (62 ∷ [])))) r (names_clear k p) 120 (λ z. omega arith) ∙ omega arith)
contents_count s v (value {r = r} {v = u} k n b e h) =
    let z = contents_count r u h in
    ap bytes_in e
    ∙ (rest_count (decimal k ++ (62 ∷ [])) (decimal n ++ (token_tag close_token k ++ r)) (tag_clear k) 116 (λ z. omega arith)
    ∙ (ap (λ (m : ℕ). 2 + m) (clear_count (decimal n) (token_tag close_token k ++ r) (open_clear n)
    ∙ rest_count (116 ∷ (decimal k ++ (62 ∷ []))) r ((λ z. omega arith), tag_clear k) 47 (λ z. omega arith)) ∙ omega (arith, length-append (two_bytes n) u)))

pub contents_small : (s v : List ℕ) → Contents s v → 5 * length v ≤ length s
contents_small s v empty = omega arith
contents_small s v (closing {r = r} k p e h) =
    let z = ap length (e ∙ node_tag_lem close_node k p r) in
    omega (arith, contents_small r v h, z, length-append (decimal k) (46 ∷ (decimal p ++ (62 ∷ r))), length-append (decimal p) (62 ∷ r))
contents_small s v (opening {r = r} {v = u} k p b e h) =
    let z = ap length (e ∙ node_tag_lem open_node k p r) in
    omega (arith, contents_small r u h, z, length-append (decimal k) (46 ∷ (decimal p ++ (62 ∷ r))), length-append (decimal p) (62 ∷ r), decimal_some k, decimal_some p)
contents_small s v (value {r = r} {v = u} k n b e h) =
    let t = decimal n ++ (token_tag close_token k ++ r) in
    let z = ap length (e ∙ token_tag_lem open_token k t) in
    let w = ap length (token_tag_lem close_token k r) in
    omega (
      arith,
      contents_small r u h,
      z,
      w,
      length-append (decimal k) (62 ∷ t),
      length-append (decimal k) (62 ∷ r),
      length-append (decimal n) (token_tag close_token k ++ r),
      decimal_some k,
      decimal_some n,
      length-append (two_bytes n) u,
    )

-- fits
pub fits_short : (text : List ℕ) (room : ℕ) → length text / 5 ≤ room → (v : List ℕ) → Contents text v → leb (length text / 5) room ≡ leb (length v) room
fits_short text room h v c = let z = contents_small text v c in le-leb _ room h ∙ sym (le-leb (length v) room (omega arith))

pub fits_counted : (text : List ℕ) (room : ℕ) {n : ℕ} {x : Bool} → n ≡ bytes_in text → x ≡ leb n room → (v : List ℕ) → Contents text v → x ≡ leb (length v) room
fits_counted text room e f v c = f ∙ ap (λ (m : ℕ). leb m room) (e ∙ contents_count text v c)
