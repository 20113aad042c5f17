-- A law for each return and loop turn of the functions of measure.rt.
use Prim.Native.Nat.{ℕ, ◌+◌, ◌*◌, ◌-◌, ◌<◌, ◌≤◌}
use mathlib.Core.Path.{◌≡◌, refl, sym, ap, ◌∙◌}
use mathlib.Core.Bool.{cond}
use mathlib.Core.List.{List, [], ◌++◌}
use mathlib.Core.Option.{some}
use native.Mathlib.Omega.{arith}
use Rattle.std.specs.Prelude.{Ok, Err, ◌⊎◌}
use Rattle.std.proofs.Common.{inl, inr, min}
use lib.ListN.{length, get_or, drop, length-append, length-drop}
use lib.Seq.{slice}
use lib.Dec.{leb, ltb, eqb}
use borrow.Author.Tests.{leb-true, leb-false, ltb-true, ltb-false}
use Rattle.format_fields.specs.Fields.{pair_at}
use Rattle.format_fields.proofs.Truth.{by_test}
use Rattle.format_language.specs.Language.{Language, Range, in_range}
use Rattle.format_language.specs.Inner.Entries.{class_range}
use Rattle.tree_reader.specs.Code.{node, token, Codes}
use Rattle.tree_reader.specs.Syntax.{Read, done, deep, broken, and_then, tree, read_all, read_token, read}
use Rattle.tree_reader.specs.Inner.Index.{Indexed}
use Rattle.tree_reader.specs.Inner.Positions.{production_place}
use Rattle.tree_reader.specs.declared.node.Syntax.TheVariants.{Tree}
use Rattle.check_operations.proofs.Reading.{class_known, class_none, at_known, at_reads, two, read_class, read_past, token_cut, level_read, none_read}
use Rattle.format_fields.specs.Decimal.{decimal}
use Rattle.xml_text.specs.Text.{node_tag, token_tag, open_node, close_node, open_token, close_token, kinds_of, export, export_all}
use Rattle.tree_reader.specs.declared.node.ReadError.{ReadError}
use Rattle.tree_reader.specs.declared.node.ReadError.TheVariants.{Deep, Broken}
use Rattle.tree_reader.specs.Inner.Positions as P
use Rattle.tree_reader.proofs.Laws as Laws
use Rattle.xml_operations.specs.declared.measure.Ends.{Ends}
use Rattle.xml_operations.specs.Inner.Measuring.{Measured, most, Sum, Within, Reaches, Measures, MeasuresTree}
use Rattle.xml_operations.proofs.Puts.{node_length, token_length}

-- Answers.
not_end : {e : Ends} {A : Type 0} → ◌≡◌ {A = Measured} (Err Deep) (Ok e) → A
not_end h = absurd (cc)

broken_end : {e : Ends} {A : Type 0} → ◌≡◌ {A = Measured} (Err Broken) (Ok e) → A
broken_end h = absurd (cc)

deep_broken : {A : Type 0} → ◌≡◌ {A = Measured} (Err Deep) (Err Broken) → A
deep_broken h = absurd (cc)

end_same : {e d : Ends} → ◌≡◌ {A = Measured} (Ok e) (Ok d) → e ≡ d
end_same h = cc

pub within_deep : (b : List ℕ) → Within b (Err Deep)
within_deep b e h = not_end h

pub within_broken : (b : List ℕ) → Within b (Err Broken)
within_broken b e h = broken_end h

pub within_end : (b : List ℕ) (e : Ends) → e.tree ≤ length b → Within b (Ok e)
within_end b e h d q = rw (← end_same q) h

reaches_broken : (b : List ℕ) (at : ℕ) → Reaches b at (Err Broken)
reaches_broken b at e h = broken_end h

reaches_end : (b : List ℕ) (at : ℕ) (e : Ends) → e.tree ≡ at + 2 → 2 ≤ length b - at → Reaches b at (Ok e)
reaches_end b at e i h d q = rw (← end_same q) (omega arith, omega arith)

module _ {A : Type 0} {text : A → List ℕ} {p : Read A} {b : List ℕ} {n : ℕ} where
  pub measures_deep : p ≡ deep → Measures text p b n (Err Deep)
  measures_deep h = record { found = λ e q. not_end q; deep = λ q. h; broken = λ q. deep_broken q }

  pub measures_broken : p ≡ broken → Measures text p b n (Err Broken)
  measures_broken h = record { found = λ e q. broken_end q; deep = λ q. deep_broken (sym q); broken = λ q. h }

  pub measures_end : {e : Ends} (a : A) → p ≡ done a (drop e.tree b) → Sum n (length (text a)) e.text → Measures text p b n (Ok e)
  measures_end {e} a h s = record {
    found = λ d q. rw (← end_same q) (a, h, s);
    deep = λ q. not_end (sym q);
    broken = λ q. broken_end (sym q);
  }

  pub measures_same : {q : Read A} {r : Measured} → p ≡ q → Measures text p b n r → Measures text q b n r
  measures_same e w = rw (← e) w

-- Sums.
pub sum_is : {n v : ℕ} → Sum n v (n + v)
sum_is = record { is = λ i. refl; long = λ i. i }

pub sum_zero : {n : ℕ} → Sum n 0 n
sum_zero = record { is = λ i. omega arith; long = λ i. omega arith }

-- A sum that stops at the largest number.
pub sum_top : {n v m : ℕ} → m ≡ min (n + v) 18446744073709551615 → Sum n v m
sum_top e = record { is = λ i. omega arith; long = λ i. omega arith }

pub sum_same : {n v u m : ℕ} → v ≡ u → Sum n v m → Sum n u m
sum_same e w = rw (← e) w

pub sum_then : {n v m u k : ℕ} → Sum n v m → Sum m u k → Sum n (v + u) k
sum_then {n} {v} {m} {u} {k} a c =
    by_test (leb m most)
    (λ t.
    let h : m ≡ n + v = a.is (leb-true _ _ t) in
    record { is = λ i. let j = c.is i in omega arith; long = λ i. let j = c.long i in omega arith })
    (λ t.
    let h : most < n + v = a.long (leb-false _ _ t) in
    record {
      is = λ i. let j = c.is i in let g : most < m = leb-false _ _ t in absurd (omega arith);
      long = λ i. omega arith;
    })

-- What reading leaves, and how long the text of what was read is.
pub data Sized : Type 0 where
  got : List ℕ → ℕ → Sized
  too_deep_lem : Sized
  no_tree : Sized

abbrev pub sized_of : {A : Type 0} → (A → ℕ) → Read A → Sized
sized_of size (done a r) = got r (size a)
sized_of size deep = too_deep_lem
sized_of size broken = no_tree

-- The same with something before it.
abbrev pub add : ℕ → Sized → Sized
add n (got r v) = got r (n + v)
add n too_deep_lem = too_deep_lem
add n no_tree = no_tree

-- The trees whose kinds stand in `kinds` from q up to e.
abbrev pub row_sized : Language → ℕ → List ℕ → ℕ → ℕ → List ℕ → Sized
row_sized l levels kinds q e u = sized_of (λ t. length (export_all l (slice q e kinds) t)) (read_all (read tree l [] levels) (slice q e kinds) u)

-- measure_token
abbrev pub MeasuresToken : ℕ → Range → List ℕ → ℕ → ℕ → Measured → Type 0
MeasuresToken k c b at n r = Reaches b at r × ((l : Language) → Measures (export l k) (read_token (some c) (drop at b)) b n r)

err_not : {e : ReadError} {d : ℕ} {A : Type 0} → ◌≡◌ {A = P.Read} (Ok d) (Err e) → A
err_not h = absurd (cc)

same_err : (e d : ReadError) → ◌≡◌ {A = P.Read} (Err e) (Err d) → e ≡ d
same_err e d h = cc

same_ok : (e d : ℕ) → ◌≡◌ {A = P.Read} (Ok e) (Ok d) → e ≡ d
same_ok e d h = cc

module _ (k : ℕ) (s : List ℕ) (place : ℕ) (b : List ℕ) (at n : ℕ) (some_class : place ≡ 0 → ⊥) {r : P.Read} (er : r ≡ P.token_at s place b at) where
  abbrev c : Range
  c = class_range s (place - 1)

  told : ((r ≡ Err Broken) × (read_token (some c) (drop at b) ≡ broken))
      ⊎ ((r ≡ Ok (at + 2)) × (2 ≤ length b - at) × (read_token (some c) (drop at b) ≡ done (token (pair_at b at)) (drop (at + 2) b)))
  unfolding read_token pair_at
  told =
      by_test (ltb (length b - at) 2)
      (λ t.
      let h : length b - at < 2 = ltb-true _ _ t in
      inl (er ∙ sym (Laws.token_short s place b at some_class h), token_cut c (drop at b) (omega (arith, length-drop at b))))
      (λ t.
      let h : 2 ≤ length b - at = ltb-false _ _ t in
      let w = two b at h in
      by_test (in_range c (pair_at b at))
      (λ u. inr (er ∙ sym (Laws.token_good s place b at some_class h refl refl u), h, cc))
      (λ u. inl (er ∙ sym (Laws.token_out s place b at some_class h refl refl u), cc)))

  pub token_err : {e : ReadError} → r ≡ Err e → MeasuresToken k c b at n (Err e)
  token_err {e} h =
      elim told [
        | inl w ↦ let z : Broken ≡ e = same_err Broken e (sym w.0 ∙ h) in rw (← z) (reaches_broken b at, λ l. measures_broken w.1)
        | inr w ↦ absurd (err_not (sym w.0 ∙ h))
      ]

  module _ {e : ℕ} (h : r ≡ Ok e) where
    pub token_there : 2 ≤ length b - at
    token_there = elim told [ inl w ↦ absurd (err_not (sym h ∙ w.0)) | inr w ↦ w.1 ]

    pub token_end : {j a v d m : ℕ} → j ≡ k → a ≡ length (decimal j) → v ≡ pair_at b at → d ≡ length (decimal v) → Sum n (7 + 2 * a + d) m
        → MeasuresToken k c b at n (Ok (record { tree = e; text = m }))
    unfolding export
    token_end {j} {a} {v} {d} {m} ej ea ev ed z =
        let w = token_length k (pair_at b at) in
        let i : length (decimal j) ≡ length (decimal k) = ap (λ (i : ℕ). length (decimal i)) ej in
        let f : length (decimal v) ≡ length (decimal (pair_at b at)) = ap (λ (i : ℕ). length (decimal i)) ev in
        let y : 7 + 2 * a + d ≡ length (token_tag open_token k ++ (decimal (pair_at b at) ++ token_tag close_token k)) = omega arith in
        elim told [
          | inl w ↦ absurd (err_not (sym h ∙ w.0))
          | inr w ↦
              let g : e ≡ at + 2 = same_ok e (at + 2) (sym h ∙ w.0) in (
                reaches_end b at (record { tree = e; text = m }) g w.1,
                λ l. measures_end (token (pair_at b at)) (w.2 ∙ ap (λ (i : ℕ). done (token (pair_at b at)) (drop i b)) (sym g)) (sum_same y z),
              )
        ]

-- plus_tags
pub tags_sum : {n k p i j a d m : ℕ} → i ≡ k → j ≡ p → a ≡ length (decimal i) → d ≡ length (decimal j) → m ≡ min (n + (9 + 2 * (a + d))) 18446744073709551615
    → Sum n (length (node_tag open_node k p) + length (node_tag close_node k p)) m
tags_sum {n} {k} {p} {i} {j} {a} {d} {m} ei ej ea ed s =
    let x = node_length open_node k p in
    let y = node_length close_node k p in
    let u : length (decimal i) ≡ length (decimal k) = ap (λ (i : ℕ). length (decimal i)) ei in
    let v : length (decimal j) ≡ length (decimal p) = ap (λ (i : ℕ). length (decimal i)) ej in
    let z : 9 + 2 * (a + d) ≡ length (node_tag open_node k p) + length (node_tag close_node k p) = omega arith in
    sum_same z (sum_top s)

-- measure_at
abbrev pub MeasuresAt : List ℕ → List ℕ → ℕ → List ℕ → ℕ → ℕ → ℕ → Measured → Type 0
MeasuresAt s index k b at levels n r = Within b r × MeasuresTree s index k b at levels n r

module _ (s index b : List ℕ) (k at levels n : ℕ) (kind : k < 32) (bytes : (i : ℕ) → get_or b i 0 < 256) {j class : ℕ} (ej : j ≡ k) (ec : class ≡ get_or index j 0) where
  class_is : class ≡ get_or index k 0
  class_is = ec ∙ ap (λ (i : ℕ). get_or index i 0) ej

  pub at_class : (r : Measured) → (class ≡ 0 → ⊥) → MeasuresToken k (class_range s (class - 1)) b at n r → MeasuresAt s index k b at levels n r
  at_class r h w =
      ((λ e q. (w.0 e q).1), λ l z. measures_same (sym (read_class l k (drop at b) levels (class_range s (class - 1)) (class_known s index l z k kind class class_is h))) (w.1 l))

  module _ (no : class ≡ 0) where
    pub at_deep : levels ≡ 0 → MeasuresAt s index k b at levels n (Err Deep)
    at_deep h =
        (within_deep b, λ l z. measures_deep (ap (λ (i : ℕ). read tree l [] i k (drop at b)) h ∙ read_past l k (drop at b) (class_none s index l z k kind class class_is no)))

    module _ (some_level : levels ≡ 0 → ⊥) {place : ℕ} (ep : place ≡ cond (eqb class 0) (production_place Tree index k b at) 0) where
      pub at_broken : place ≡ 0 → MeasuresAt s index k b at levels n (Err Broken)
      at_broken p = (within_broken b, λ l z. measures_broken (level_read s index l z k kind b at class_is no levels some_level ∙ none_read s index l z k kind b at class_is no bytes ep p (levels - 1)))

      module _ (pos : place ≡ 0 → ⊥) where
        module _ {size m : ℕ} (es : size ≡ pair_at s place) (tags : Sum n (length (node_tag open_node k (get_or b at 0)) + length (node_tag close_node k (get_or b at 0))) m) where
          abbrev kinds : List ℕ
          kinds = slice (place + 4) (place + 2 + size) s

          text : (l : Language) → Indexed index s l → (t : Codes)
              → length (node_tag open_node k (get_or b at 0)) + length (node_tag close_node k (get_or b at 0)) + length (export_all l kinds t) ≡ length (export l k (node k (get_or b at 0) t))
          unfolding export kinds_of
          text l z t =
              let u = node_tag open_node k (get_or b at 0) in
              let w = node_tag close_node k (get_or b at 0) in
              let v = export_all l kinds t in
              let e : export l k (node k (get_or b at 0) t) ≡ u ++ (v ++ w) = rw (at_known s index b k at kind bytes ej ec ep pos es l z) refl in
              omega (arith, ap length e, length-append u (v ++ w), length-append v w)

          -- What a production adds: its tags, and its operands.
          pub at_opened : (l : Language) → Indexed index s l
              → sized_of (λ a. length (export l k a)) (read tree l [] levels k (drop at b))
              ≡ add (length (node_tag open_node k (get_or b at 0)) + length (node_tag close_node k (get_or b at 0))) (row_sized l (levels - 1) s (place + 4) (place + 2 + size) (drop (at + 1) b))
          at_opened l z = ap (sized_of (λ a. length (export l k a))) (at_reads s index b k at kind bytes ej ec ep pos es levels some_level l z) ∙ go (read_all (read tree l [] (levels - 1)) kinds (drop (at + 1) b))
            where
              go : (p : Read Codes) → sized_of (λ a. length (export l k a)) (and_then p λ t r. done (node k (get_or b at 0) t) r)
                  ≡ add (length (node_tag open_node k (get_or b at 0)) + length (node_tag close_node k (get_or b at 0))) (sized_of (λ t. length (export_all l kinds t)) p)
              go (done t r) = ap (got r) (sym (text l z t))
              go deep = refl
              go broken = refl
