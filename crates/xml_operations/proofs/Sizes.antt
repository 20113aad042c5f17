-- The loop of the measuring pass over the rows of a tree: a law for each of its turns and returns.
use Prim.Native.Nat.{ℕ, zero, suc, ◌+◌, ◌-◌, ◌<◌, ◌≤◌}
use mathlib.Core.Path.{◌≡◌, refl, sym, ap, ◌∙◌}
use mathlib.Core.Bool.{cond}
use mathlib.Core.List.{List, [], ◌∷◌}
use native.Mathlib.Omega.{arith}
use Rattle.std.specs.Prelude.{Ok, Err}
use lib.ListN.{length, get_or, drop, set, length-set, length-append}
use lib.Seq.{slice, get_or-set_same, get_or-set_other}
use lib.Dec.{eqb}
use borrow.Author.Tests.{eqb-true, eqb-false}
use Rattle.format_fields.specs.Fields.{pair_at}
use Rattle.format_fields.proofs.Truth.{by_test}
use Rattle.format_fields.proofs.Lists.{part_done, part_next}
use Rattle.format_language.specs.Language.{Language}
use Rattle.format_language.specs.Inner.Entries.{class_range}
use Rattle.tree_reader.specs.Code.{Code, Codes, cons}
use Rattle.tree_reader.specs.Operations.{tree_levels}
use Rattle.tree_reader.specs.Syntax.{Read, done, deep, broken, and_then, tree, read_all, read}
use Rattle.tree_reader.specs.Inner.Index.{Sound, Indexed}
use Rattle.tree_reader.specs.Inner.Positions.{production_place, KindsIn}
use Rattle.tree_reader.specs.declared.node.Syntax.TheVariants.{Tree}
use Rattle.xml_text.specs.Text.{node_tag, open_node, close_node, export, export_all}
use Rattle.xml_text.specs.Inner.Importing.{row_kinds}
use Rattle.xml_text.proofs.Rows.{below_root, row_in}
use Rattle.xml_text.proofs.Unwinding.{unwind_by, unwind_stop, unwind_none, unwind_one, unwind_same}
use Rattle.tree_reader.specs.declared.node.ReadError.{ReadError}
use Rattle.tree_reader.specs.declared.node.ReadError.TheVariants.{Deep, Broken}
use Rattle.tree_reader.specs.declared.operands.Operands.{Operands}
use Rattle.xml_operations.specs.declared.measure.Ends.{Ends}
use Rattle.xml_operations.specs.Inner.Measuring.{Measured, Sum, Within, Measures, MeasuresTree, MeasuresTrees}
use Rattle.xml_operations.proofs.Measures.{Sized, got, too_deep_lem, no_tree, sized_of, add, row_sized, MeasuresToken, within_deep, within_broken, within_end, measures_deep, measures_broken, measures_end, sum_zero, sum_same, sum_then, at_class, at_deep, at_broken, at_opened}
use Rattle.check_operations.proofs.Reading.{at_name, at_place, at_kinds}

-- One reading behind another.
abbrev pub then_sized : Sized → (List ℕ → Sized) → Sized
then_sized (got r v) f = add v (f r)
then_sized too_deep_lem f = too_deep_lem
then_sized no_tree f = no_tree

add_none : (x : Sized) → add 0 x ≡ x
add_none (got r v) = let z : 0 + v ≡ v = omega arith in ap (got r) z
add_none too_deep_lem = refl
add_none no_tree = refl

add_add : (n m : ℕ) (x : Sized) → add n (add m x) ≡ add (n + m) x
add_add n m (got r v) = let z : n + (m + v) ≡ n + m + v = omega arith in ap (got r) z
add_add n m too_deep_lem = refl
add_add n m no_tree = refl

add_then : (n : ℕ) (x : Sized) (f : List ℕ → Sized) → then_sized (add n x) f ≡ add n (then_sized x f)
add_then n (got r v) f = sym (add_add n v (f r))
add_then n too_deep_lem f = refl
add_then n no_tree f = refl

module _ (l : Language) (levels k : ℕ) (ks : List ℕ) where
  rest_sized : (a : Code) (p : Read Codes) → sized_of (λ t. length (export_all l (k ∷ ks) t)) (and_then p λ t v. done (cons a t) v)
      ≡ add (length (export l k a)) (sized_of (λ t. length (export_all l ks t)) p)
  unfolding export_all
  rest_sized a (done t v) = ap (got v) (length-append (export l k a) (export_all l ks t))
  rest_sized a deep = refl
  rest_sized a broken = refl

  first_sized : (p : Read Code)
      → sized_of (λ t. length (export_all l (k ∷ ks) t)) (and_then p λ a r. and_then (read_all (read tree l [] levels) ks r) λ t v. done (cons a t) v)
      ≡ then_sized (sized_of (λ a. length (export l k a)) p) (λ r. sized_of (λ t. length (export_all l ks t)) (read_all (read tree l [] levels) ks r))
  first_sized (done a r) = rest_sized a (read_all (read tree l [] levels) ks r)
  first_sized deep = refl
  first_sized broken = refl

module _ (l : Language) (levels : ℕ) (kinds : List ℕ) (q e : ℕ) (u : List ℕ) where
  row_done : e ≤ q → row_sized l levels kinds q e u ≡ got u 0
  unfolding read_all export_all
  row_done h =
      let no : slice q e kinds ≡ [] = sym (part_done (λ v. v) kinds q e (slice q e kinds) refl h) in
      ap (λ (ks : List ℕ). sized_of (λ t. length (export_all l ks t)) (read_all (read tree l [] levels) ks u)) no

  row_next : q < e → e ≤ length kinds
      → row_sized l levels kinds q e u ≡ then_sized (sized_of (λ a. length (export l (get_or kinds q 0) a)) (read tree l [] levels (get_or kinds q 0) u)) (row_sized l levels kinds (q + 1) e)
  unfolding read_all
  row_next more there =
      let next : slice q e kinds ≡ get_or kinds q 0 ∷ slice (q + 1) e kinds = sym (part_next (λ v. v) kinds q e (slice q e kinds) refl more there) in
      ap (λ (ks : List ℕ). sized_of (λ t. length (export_all l ks t)) (read_all (read tree l [] levels) ks u)) next
      ∙ first_sized l levels (get_or kinds q 0) (slice (q + 1) e kinds) (read tree l [] levels (get_or kinds q 0) u)

-- The rows that wait.
abbrev unwind : (ℕ → List ℕ → Sized) → ℕ → Sized → Sized
unwind = unwind_by then_sized

unwind_deep : (f : ℕ → List ℕ → Sized) (d : ℕ) → unwind f d too_deep_lem ≡ too_deep_lem
unwind_deep f d = unwind_stop then_sized f d too_deep_lem (λ h. refl)

unwind_broken : (f : ℕ → List ℕ → Sized) (d : ℕ) → unwind f d no_tree ≡ no_tree
unwind_broken f d = unwind_stop then_sized f d no_tree (λ h. refl)

unwind_add : (f : ℕ → List ℕ → Sized) (d n : ℕ) (x : Sized) → unwind f d (add n x) ≡ add n (unwind f d x)
unfolding unwind_by
unwind_add f zero n x = refl
unwind_add f (suc d) n x = ap (unwind f d) (add_then n x (f d)) ∙ unwind_add f d n (then_sized x (f d))

-- The rest of the row at depth d, and of those that wait in tables.
unfoldable pub row_at : Language → ℕ → List ℕ → ℕ → ℕ → ℕ → List ℕ → Sized
row_at l k s d q e u = row_sized l (tree_levels - d) (row_kinds k s d) q e u

-- The row that waits at a depth; there is none where the table ends.
abbrev pub waiting_at : List Operands → ℕ → Operands
waiting_at rows d = get_or rows d (record { first = 0; last = 0 })

abbrev pub waits_in : Language → ℕ → List ℕ → List Operands → ℕ → List ℕ → Sized
waits_in l k s rows d = row_at l k s d (waiting_at rows d).first (waiting_at rows d).last

-- The length so far is that of some texts, and these with what is left to read are the whole.
pub record Counted (l : Language) (s : List ℕ) (k : ℕ) (b : List ℕ) (rows : List Operands) (d q e : ℕ) (ends : Ends) : Type 0 where
  pub size : ℕ
  pub count : Sum 0 size ends.text
  pub comes : add size (unwind (waits_in l k s rows) d (row_at l k s d q e (drop ends.tree b))) ≡ row_sized l tree_levels (k ∷ []) 0 1 b

-- The row from q up to e is open at depth d, and the rows above it wait.
pub record Open (s index : List ℕ) (k : ℕ) (b : List ℕ) (rows : List Operands) (d q e : ℕ) (ends : Ends) : Type 0 where
  pub inside : ends.tree ≤ length b
  pub shallow : d ≤ tree_levels
  pub kinds : KindsIn (row_kinds k s d) q e
  pub waiting : (j : ℕ) → j < d → KindsIn (row_kinds k s j) (waiting_at rows j).first (waiting_at rows j).last
  pub long : length rows ≡ 64
  pub counted : (l : Language) → Indexed index s l → Counted l s k b rows d q e ends

-- An answer, by what is left and how long it is.
sized_end : {A : Type 0} (text : A → List ℕ) (p : Read A) (b : List ℕ) (e : Ends) (v : ℕ) → got (drop e.tree b) v ≡ sized_of (λ a. length (text a)) p → Sum 0 v e.text → Measures text p b 0 (Ok e)
sized_end text (done a r) b e v h s =
    let z : r ≡ drop e.tree b = cc in
    let y : v ≡ length (text a) = cc in
    measures_end a (ap (done a) z) (sum_same y s)
sized_end text deep b e v h s = absurd (cc)
sized_end text broken b e v h s = absurd (cc)

sized_deep : {A : Type 0} (text : A → List ℕ) (p : Read A) (b : List ℕ) → too_deep_lem ≡ sized_of (λ a. length (text a)) p → Measures text p b 0 (Err Deep)
sized_deep text (done a r) b h = absurd (cc)
sized_deep text deep b h = measures_deep refl
sized_deep text broken b h = absurd (cc)

sized_broken : {A : Type 0} (text : A → List ℕ) (p : Read A) (b : List ℕ) → no_tree ≡ sized_of (λ a. length (text a)) p → Measures text p b 0 (Err Broken)
sized_broken text (done a r) b h = absurd (cc)
sized_broken text deep b h = absurd (cc)
sized_broken text broken b h = measures_broken refl

module _ (s index : List ℕ) (k : ℕ) (b : List ℕ) where
  -- What measure_all answers.
  abbrev Answers : Measured → Type 0
  Answers r = Within b r × MeasuresTrees (k ∷ []) s index 0 1 b 0 tree_levels 0 r

  pub open_start : (rows : List Operands) → k < 32 → length rows ≡ 64 → Open s index k b rows 0 0 1 (record { tree = 0; text = 0 })
  unfolding row_at
  open_start rows kind h =
      record {
        inside = omega arith;
        shallow = omega arith;
        kinds = λ x i j. let z : x ≡ 0 = omega arith in rw z (omega arith, kind);
        waiting = λ j h. absurd (omega arith);
        long = h;
        counted = λ l z. record {
          size = 0;
          count = sum_zero;
          comes = add_none (unwind (waits_in l k s rows) 0 (row_sized l tree_levels (k ∷ []) 0 1 b)) ∙ unwind_none then_sized (waits_in l k s rows) (row_sized l tree_levels (k ∷ []) 0 1 b);
        };
      }

  module _ {rows : List Operands} {d q e : ℕ} {ends : Ends} (o : Open s index k b rows d q e ends) where
    abbrev left : Language → Sized → Sized
    left l x = unwind (waits_in l k s rows) d x

    ended : (l : Language) (z : Indexed index s l) → e ≤ q → add (o.counted l z).size (left l (got (drop ends.tree b) 0)) ≡ row_sized l tree_levels (k ∷ []) 0 1 b
    unfolding row_at
    ended l z h = ap (λ (x : Sized). add (o.counted l z).size (left l x)) (sym (row_done l (tree_levels - d) (row_kinds k s d) q e (drop ends.tree b) h)) ∙ (o.counted l z).comes

    pub open_done : e ≤ q → d ≡ 0 → Answers (Ok ends)
    open_done h y = (
      within_end b ends o.inside,
      λ l z.
          let g = o.counted l z in
          let v : g.size + 0 ≡ g.size = omega arith in
          sized_end (export_all l (k ∷ [])) (read_all (read tree l [] tree_levels) (k ∷ []) b) b ends g.size
          (ap (got (drop ends.tree b)) (sym v)
          ∙ (ap (add g.size) (sym (ap (λ (j : ℕ). unwind (waits_in l k s rows) j (got (drop ends.tree b) 0)) y ∙ unwind_none then_sized (waits_in l k s rows) (got (drop ends.tree b) 0)))
          ∙ ended l z h)) g.count,
    )

    -- The row has ended, and the one above it goes on.
    module _ (done-row : e ≤ q) (some-row : d ≡ 0 → ⊥) {c : ℕ} (ec : c ≡ d - 1) where
      pub open_back : Open s index k b rows c (waiting_at rows c).first (waiting_at rows c).last ends
      open_back =
          record {
            inside = o.inside;
            shallow = omega (arith, o.shallow);
            kinds = o.waiting c (omega arith);
            waiting = λ j i. o.waiting j (omega arith);
            long = o.long;
            counted = λ l z.
                let y : suc c ≡ d = omega arith in
                let f = waits_in l k s rows in
                record {
                  size = (o.counted l z).size;
                  count = (o.counted l z).count;
                  comes = ap (add (o.counted l z).size)
                      (ap (unwind f c) (sym (add_none (f c (drop ends.tree b)))) ∙ (sym (unwind_one then_sized f c (got (drop ends.tree b) 0)) ∙ ap (λ (j : ℕ). unwind f j (got (drop ends.tree b) 0)) y))
                      ∙ ended l z done-row;
                };
          }

    -- There is a tree of kind i to read.
    module _ (more : q < e) where
      pub open_in : (q < length (row_kinds k s d)) × (get_or (row_kinds k s d) q 0 < 32) × (e ≤ length (row_kinds k s d))
      open_in = row_in (row_kinds k s d) q e o.kinds more

      module _ {i : ℕ} (en : i ≡ get_or (row_kinds k s d) q 0) where
        pub open_kind : i < 32
        open_kind = let z = open_in in omega (arith, z.1)

        abbrev size_of : Language → Code → ℕ
        size_of l a = length (export l i a)

        abbrev one : Language → Read Code → Sized
        one l p = sized_of (λ a. length (export l i a)) p

        next : (l : Language) {x : Sized} → one l (read tree l [] (tree_levels - d) i (drop ends.tree b)) ≡ x
            → row_at l k s d q e (drop ends.tree b) ≡ then_sized x (row_at l k s d (q + 1) e)
        unfolding row_at
        next l h =
            row_next l (tree_levels - d) (row_kinds k s d) q e (drop ends.tree b) more open_in.2
            ∙ (ap (λ (j : ℕ). then_sized (sized_of (λ a. length (export l j a)) (read tree l [] (tree_levels - d) j (drop ends.tree b))) (row_at l k s d (q + 1) e)) (sym en)
            ∙ ap (λ (x : Sized). then_sized x (row_at l k s d (q + 1) e)) h)

        module _ {y : Measured} (step : MeasuresTree s index i b ends.tree (tree_levels - d) ends.text y) where
          open_broken : y ≡ Err Broken → Answers (Err Broken)
          open_broken h = (
            within_broken b,
            λ l z. sized_broken (export_all l (k ∷ [])) (read_all (read tree l [] tree_levels) (k ∷ []) b) b
                (ap (add (o.counted l z).size) (sym (unwind_broken (waits_in l k s rows) d))
                ∙ (ap (λ (x : Sized). add (o.counted l z).size (left l x)) (sym (next l (ap (one l) ((step l z).broken h)))) ∙ (o.counted l z).comes)),
          )

          open_deep : y ≡ Err Deep → Answers (Err Deep)
          open_deep h = (
            within_deep b,
            λ l z. sized_deep (export_all l (k ∷ [])) (read_all (read tree l [] tree_levels) (k ∷ []) b) b
                (ap (add (o.counted l z).size) (sym (unwind_deep (waits_in l k s rows) d))
                ∙ (ap (λ (x : Sized). add (o.counted l z).size (left l x)) (sym (next l (ap (one l) ((step l z).deep h)))) ∙ (o.counted l z).comes)),
          )

          open_next : {t : Ends} → y ≡ Ok t → t.tree ≤ length b → Open s index k b rows d (q + 1) e t
          open_next {t} h j =
              record {
                inside = j;
                shallow = o.shallow;
                kinds = λ x u v. o.kinds x (omega arith) v;
                waiting = o.waiting;
                long = o.long;
                counted = λ l z.
                    let g = o.counted l z in
                    let f = (step l z).found t h in
                    record {
                      size = g.size + size_of l f.0;
                      count = sum_then g.count f.2;
                      comes = sym (add_add g.size (size_of l f.0) (left l (row_at l k s d (q + 1) e (drop t.tree b))))
                          ∙ (ap (add g.size) (sym (unwind_add (waits_in l k s rows) d (size_of l f.0) (row_at l k s d (q + 1) e (drop t.tree b))))
                          ∙ (ap (λ (x : Sized). add g.size (left l x)) (sym (next l (ap (one l) f.1))) ∙ g.comes));
                    };
              }

        module _ (bytes : (j : ℕ) → get_or b j 0 < 256) {j class : ℕ} (ej : j ≡ i) (ec : class ≡ get_or index j 0) where
          -- A token.
          module _ (some_class : class ≡ 0 → ⊥) {x : Measured} (token_is : MeasuresToken i (class_range s (class - 1)) b ends.tree ends.text x) where
            token_step : MeasuresTree s index i b ends.tree (tree_levels - d) ends.text x
            token_step = (at_class s index b i ends.tree (tree_levels - d) ends.text open_kind bytes ej ec x some_class token_is).1

            pub turn_no_token : {w : ReadError} → x ≡ Err w → Answers (Err w)
            turn_no_token {w} h = go w h
              where
                go : (w : ReadError) → x ≡ Err w → Answers (Err w)
                go Deep h = open_deep token_step h
                go Broken h = open_broken token_step h

            pub turn_token : {t : Ends} → x ≡ Ok t → Open s index k b rows d (q + 1) e t
            turn_token {t} h = open_next token_step h (token_is.0 t h).1

          module _ (no : class ≡ 0) where
            pub turn_deep : d ≡ 64 → Answers (Err Deep)
            turn_deep h = open_deep (at_deep s index b i ends.tree (tree_levels - d) ends.text open_kind bytes ej ec no (omega arith)).1 refl

            module _ (some_level : d ≡ 64 → ⊥) {place : ℕ} (ep : place ≡ cond (eqb class 0) (production_place Tree index i b ends.tree) 0) where
              levels_left : tree_levels - d ≡ 0 → ⊥
              levels_left h = some_level (omega (arith, o.shallow))

              pub turn_broken : place ≡ 0 → Answers (Err Broken)
              turn_broken h = open_broken (at_broken s index b i ends.tree (tree_levels - d) ends.text open_kind bytes ej ec no levels_left ep h).1 refl

              module _ (pos : place ≡ 0 → ⊥) where
                pub turn_name : ends.tree < length b
                turn_name = at_name s index b i ends.tree open_kind bytes ej ec ep pos

                pub turn_place : Sound index s → (place + 4 ≤ length s) × (length s ≤ 1024)
                turn_place known = at_place s index b i ends.tree open_kind bytes ej ec ep pos known

                module _ {row : Operands} {m : ℕ} (ef : row.first ≡ place + 4) (el : row.last ≡ place + 2 + pair_at s place)
                    (tags : Sum ends.text (length (node_tag open_node i (get_or b ends.tree 0)) + length (node_tag close_node i (get_or b ends.tree 0))) m) where
                  abbrev this : Operands
                  this = record { first = q + 1; last = e }

                  abbrev then : Language → ℕ → List ℕ → Sized
                  then l = waits_in l k s (set rows d this)

                  abbrev both : ℕ
                  both = length (node_tag open_node i (get_or b ends.tree 0)) + length (node_tag close_node i (get_or b ends.tree 0))

                  abbrev below : Language → Sized
                  below l = row_sized l (tree_levels - d - 1) s row.first row.last (drop (ends.tree + 1) b)

                  row_other : (j : ℕ) → (j ≡ d → ⊥) → waiting_at (set rows d this) j ≡ waiting_at rows j
                  row_other j h = get_or-set_other rows d j this _ h

                  row_same : waiting_at (set rows d this) d ≡ this
                  row_same = let r : d < length rows = omega (arith, o.long, o.shallow, some_level) in get_or-set_same rows d this _ r

                  others : (l : Language) (j : ℕ) → j < d → then l j ≡ waits_in l k s rows j
                  others l j h = ap (λ (w : Operands). row_at l k s j w.first w.last) (row_other j (λ y. omega arith))

                  here : (l : Language) → then l d ≡ row_at l k s d (q + 1) e
                  here l = ap (λ (w : Operands). row_at l k s d w.first w.last) row_same

                  down : (l : Language) → Indexed index s l → row_at l k s d q e (drop ends.tree b) ≡ add both (then_sized (below l) (row_at l k s d (q + 1) e))
                  down l z =
                      next l (at_opened s index b i ends.tree (tree_levels - d) ends.text open_kind bytes ej ec no levels_left ep pos refl tags l z
                      ∙ ap (λ (w : ℕ). add both (row_sized l (tree_levels - d - 1) s w (place + 2 + pair_at s place) (drop (ends.tree + 1) b))) (sym ef)
                      ∙ ap (λ (w : ℕ). add both (row_sized l (tree_levels - d - 1) s row.first w (drop (ends.tree + 1) b))) (sym el))
                      ∙ add_then both (below l) (row_at l k s d (q + 1) e)

                  pushed : (l : Language) → unwind (then l) (d + 1) (row_at l k s (d + 1) row.first row.last (drop (ends.tree + 1) b)) ≡ left l (then_sized (below l) (row_at l k s d (q + 1) e))
                  unfolding row_at
                  pushed l =
                      let r : suc d ≡ d + 1 = omega arith in
                      let v : tree_levels - (d + 1) ≡ tree_levels - d - 1 = omega arith in
                      ap (λ (j : ℕ). unwind (then l) (d + 1) (row_sized l j (row_kinds k s (d + 1)) row.first row.last (drop (ends.tree + 1) b))) v
                      ∙ (ap (λ (ks : List ℕ). unwind (then l) (d + 1) (row_sized l (tree_levels - d - 1) ks row.first row.last (drop (ends.tree + 1) b))) (below_root k s (d + 1) (λ y. omega arith))
                      ∙ (ap (λ (j : ℕ). unwind (then l) j (below l)) (sym r)
                      ∙ (unwind_one then_sized (then l) d (below l)
                      ∙ (ap (λ (h : List ℕ → Sized). unwind (then l) d (then_sized (below l) h)) (here l)
                      ∙ unwind_same then_sized (waits_in l k s rows) (then l) d (then_sized (below l) (row_at l k s d (q + 1) e)) (others l)))))

                  waits : (j : ℕ) → j < d + 1 → KindsIn (row_kinds k s j) (waiting_at (set rows d this) j).first (waiting_at (set rows d this) j).last
                  waits j h =
                      by_test (eqb j d)
                      (λ t. rw (eqb-true j d t, row_same) (λ x g v. o.kinds x (omega arith) v))
                      (λ t. let y : j ≡ d → ⊥ = eqb-false j d t in rw (row_other j y) (o.waiting j (omega arith)))

                  pub turn_down : Sound index s → Open s index k b (set rows d this) (d + 1) row.first row.last (record { tree = ends.tree + 1; text = m })
                  turn_down known =
                      record {
                        inside = let w = turn_name in omega (arith, w);
                        shallow = omega (arith, o.shallow, some_level);
                        kinds = rw (below_root k s (d + 1) (λ y. omega arith), ef, el) (at_kinds s index b i ends.tree open_kind bytes ej ec ep pos refl known);
                        waiting = waits;
                        long = length-set rows d this ∙ o.long;
                        counted = λ l z.
                            let g = o.counted l z in
                            let x = then_sized (below l) (row_at l k s d (q + 1) e) in
                            record {
                              size = g.size + both;
                              count = sum_then g.count tags;
                              comes = ap (add (g.size + both)) (pushed l)
                                  ∙ (sym (add_add g.size both (left l x))
                                  ∙ (ap (add g.size) (sym (unwind_add (waits_in l k s rows) d both x))
                                  ∙ (ap (λ (y : Sized). add g.size (left l y)) (sym (down l z)) ∙ g.comes)));
                            };
                      }
