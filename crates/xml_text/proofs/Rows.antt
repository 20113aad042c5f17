-- The loop of import over the rows of a text: a law for each of its turns and returns.
use Prim.Native.Nat.{ℕ, zero, suc, ◌+◌, ◌-◌, ◌<◌, ◌≤◌}
use mathlib.Core.Path.{◌≡◌, refl, sym, ap, ◌∙◌}
use mathlib.Core.Bool.{Bool, false}
use mathlib.Core.List.{List, [], ◌∷◌}
use native.Mathlib.Omega.{arith}
use Rattle.std.specs.Prelude.{Option, Some, None, Ok, Err}
use lib.ListN.{length, get_or, drop, set, length-set}
use lib.Seq.{slice, get_or-set_same, get_or-set_other}
use lib.Dec.{eqb}
use borrow.Author.Tests.{eqb-true, eqb-false}
use Rattle.format_fields.proofs.Truth.{by_test}
use Rattle.format_fields.proofs.Lists.{part_done, part_next}
use Rattle.format_language.specs.Language.{Language}
use Rattle.format_language.specs.Inner.Entries.{class_range}
use Rattle.tree_reader.specs.Code.{Code, nil, cons}
use Rattle.tree_reader.specs.Operations.{tree_levels}
use Rattle.tree_reader.specs.Syntax.{Read, done, and_then, read_all}
use Rattle.tree_reader.specs.Syntax as R
use Rattle.tree_reader.specs.Inner.Index.{Indexed}
use Rattle.tree_reader.specs.Inner.Positions.{KindsIn, Rest, rest, deep, broken, rest_of}
use Rattle.xml_text.specs.Import.{read_word, read_token, read_text}
use Rattle.tree_reader.specs.declared.operands.Operands.{Operands}
use Rattle.xml_text.specs.declared.import.Row.{Row}
use Rattle.xml_text.specs.declared.import.TextError.TheVariants.{Deep, Broken}
use Rattle.xml_text.specs.Inner.Scanning.{closes, Stands, Tokens, TellsToken}
use Rattle.xml_text.specs.Inner.Importing.{Text, Inside, Imports, Elements, ImportsTree, row_kinds}
use Rattle.xml_text.proofs.Scans.{tokens_not, class_high}
use Rattle.xml_text.proofs.Imports.{then_rest, row_rest, rest_made, then_rest_lem, inside_deep, inside_broken, inside_end, imports_deep, imports_broken, imports_end, at_token, at_no_token, at_deep, at_no_element, at_kinds, at_past, at_opened}
use Rattle.xml_text.proofs.Unwinding.{unwind_by, unwind_stop, unwind_none, unwind_one, unwind_same}

-- kind_at
pub root_kind : (k : ℕ) (s : List ℕ) (d q : ℕ) → q < length (row_kinds k s d) → d ≡ 0 → k ≡ get_or (row_kinds k s d) q 0
root_kind k s zero q h e = let z : q ≡ 0 = omega arith in rw z
root_kind k s (suc d) q h e = absurd (omega arith)

pub below_root : (k : ℕ) (s : List ℕ) (d : ℕ) → (d ≡ 0 → ⊥) → row_kinds k s d ≡ s
below_root k s zero h = absurd (h refl)
below_root k s (suc d) h = refl

pub below_in : (k : ℕ) (s : List ℕ) (d q : ℕ) → q < length (row_kinds k s d) → (d ≡ 0 → ⊥) → q < length s
below_in k s d q h some-row = rw (below_root k s d some-row) at h

pub below_kind : (k : ℕ) (s : List ℕ) (d q : ℕ) → (d ≡ 0 → ⊥) → get_or s q 0 ≡ get_or (row_kinds k s d) q 0
below_kind k s d q some-row = ap (λ (kinds : List ℕ). get_or kinds q 0) (sym (below_root k s d some-row))

-- A row and what stands behind it.
then_then : (x : Rest) (f g : List ℕ → Rest) → then_rest (then_rest x f) g ≡ then_rest x (λ u. then_rest (f u) g)
then_then (rest r) f g = refl
then_then deep f g = refl
then_then broken f g = refl

module _ (l : Language) (levels : ℕ) (kinds : List ℕ) (q e : ℕ) (u : List ℕ) where
  row_done : e ≤ q → row_rest l levels kinds q e u ≡ rest u
  unfolding read_all
  row_done h =
      let no : slice q e kinds ≡ [] = sym (part_done (λ v. v) kinds q e (slice q e kinds) refl h) in
      ap (λ (ks : List ℕ). rest_of (read_all (read_text l levels) ks u)) no

  row_next : q < e → e ≤ length kinds → row_rest l levels kinds q e u ≡ then_rest (rest_of (read_text l levels (get_or kinds q 0) u)) (row_rest l levels kinds (q + 1) e)
  unfolding read_all
  row_next more there =
      let next : slice q e kinds ≡ get_or kinds q 0 ∷ slice (q + 1) e kinds = sym (part_next (λ v. v) kinds q e (slice q e kinds) refl more there) in
      ap (λ (ks : List ℕ). rest_of (read_all (read_text l levels) ks u)) next
      ∙ then_rest_lem (read_text l levels (get_or kinds q 0) u) (λ a r. and_then (read_all (read_text l levels) (slice (q + 1) e kinds) r) λ t v. done (cons a t) v)
      (row_rest l levels kinds (q + 1) e) (λ a r. rest_made (read_all (read_text l levels) (slice (q + 1) e kinds) r) (cons a))

-- The rows that wait.
abbrev unwind : (ℕ → List ℕ → Rest) → ℕ → Rest → Rest
unwind = unwind_by then_rest

unwind_deep : (f : ℕ → List ℕ → Rest) (d : ℕ) → unwind f d deep ≡ deep
unwind_deep f d = unwind_stop then_rest f d deep (λ h. refl)

unwind_broken : (f : ℕ → List ℕ → Rest) (d : ℕ) → unwind f d broken ≡ broken
unwind_broken f d = unwind_stop then_rest f d broken (λ h. refl)

-- Behind a tree of the row at depth d: its closing tag, and the rest of that row.
unfoldable pub goes_on : Language → ℕ → List ℕ → List ℕ → ℕ → Row → List ℕ → Rest
goes_on l k s text d row u =
    then_rest (rest_of (read_word (closes row.tag row.size text) u)) (row_rest l (tree_levels - d) (row_kinds k s d) row.kinds.first row.kinds.last)

-- The row that waits at a depth; there is none where the table ends.
abbrev pub row_at : List Row → ℕ → Row
row_at rows d = get_or rows d (record { kinds = record { first = 0; last = 0 }; tag = 0; size = 0 })

-- The same for the rows that wait in a table.
abbrev pub waits_in : Language → ℕ → List ℕ → List ℕ → List Row → ℕ → List ℕ → Rest
waits_in l k s text rows d = goes_on l k s text d (row_at rows d)

-- A row that waits has its kinds, and the opening tag of the tree in it that is being read stands in the text.
pub record Waits (kinds text : List ℕ) (row : Row) : Type 0 where
  pub kinds_in : KindsIn kinds row.kinds.first row.kinds.last
  pub wide : 2 ≤ row.size
  pub inside : row.tag + row.size ≤ length text + 1

-- The row from q up to e is open at depth d, the rows above it wait, and all of them together come to the tree of kind k.
pub record Open (s index : List ℕ) (k : ℕ) (text : List ℕ) (rows : List Row) (d q e to : ℕ) : Type 0 where
  pub inside : to ≤ length text
  pub shallow : d ≤ tree_levels
  pub kinds : KindsIn (row_kinds k s d) q e
  pub waiting : (j : ℕ) → j < d → Waits (row_kinds k s j) text (row_at rows j)
  pub long : length rows ≡ 64
  pub comes : (l : Language) → Indexed index s l
      → unwind (waits_in l k s text rows) d (row_rest l (tree_levels - d) (row_kinds k s d) q e (drop to text)) ≡ rest_of (read_text l tree_levels k text)

-- An answer, by what is left.
rest_end : {A : Type 0} (p : Read A) (text : List ℕ) (e : ℕ) → rest (drop e text) ≡ rest_of p → Imports p text (Ok e)
rest_end (done a r) text e h = imports_end a (let z : r ≡ drop e text = cc in ap (done a) z)
rest_end R.deep text e h = let z : ◌≡◌ {A = ℕ} 0 1 = cc in absurd (omega arith)
rest_end R.broken text e h = let z : ◌≡◌ {A = ℕ} 0 1 = cc in absurd (omega arith)

rest_deep : {A : Type 0} (p : Read A) (text : List ℕ) → deep ≡ rest_of p → Imports p text (Err Deep)
rest_deep (done a r) text h = let z : ◌≡◌ {A = ℕ} 0 1 = cc in absurd (omega arith)
rest_deep R.deep text h = imports_deep refl
rest_deep R.broken text h = let z : ◌≡◌ {A = ℕ} 0 1 = cc in absurd (omega arith)

rest_broken : {A : Type 0} (p : Read A) (text : List ℕ) → broken ≡ rest_of p → Imports p text (Err Broken)
rest_broken (done a r) text h = let z : ◌≡◌ {A = ℕ} 0 1 = cc in absurd (omega arith)
rest_broken R.deep text h = let z : ◌≡◌ {A = ℕ} 0 1 = cc in absurd (omega arith)
rest_broken R.broken text h = imports_broken refl

-- A kind of a row that is left.
pub row_in : (kinds : List ℕ) (q e : ℕ) → KindsIn kinds q e → q < e → (q < length kinds) × (get_or kinds q 0 < 32) × (e ≤ length kinds)
row_in kinds q e h more =
    let a = h q (omega arith) more in
    let z = h (e - 1) (omega arith) (omega arith) in
    (a.0, a.1, omega (arith, z.0))

module _ (s index : List ℕ) (k : ℕ) (text : List ℕ) where
  -- What text_at answers.
  abbrev Answers : Text → Type 0
  Answers r = Inside text r × ImportsTree s index k text 0 tree_levels r

  pub open_start : (rows : List Row) → k < 32 → length rows ≡ 64 → Open s index k text rows 0 0 1 0
  unfolding read_all
  open_start rows kind h =
      record {
        inside = omega arith;
        shallow = omega arith;
        kinds = λ x i j. let z : x ≡ 0 = omega arith in rw z (omega arith, kind);
        waiting = λ j h. absurd (omega arith);
        long = h;
        comes = λ l z. unwind_none then_rest (waits_in l k s text rows) _ ∙ rest_made (read_text l tree_levels k text) (λ a. cons a nil);
      }

  module _ {rows : List Row} {d q e to : ℕ} (o : Open s index k text rows d q e to) where
    abbrev left : Language → Rest → Rest
    left l r = unwind (waits_in l k s text rows) d r

    abbrev row : Language → ℕ → ℕ → List ℕ → Rest
    row l i j u = row_rest l (tree_levels - d) (row_kinds k s d) i j u

    broken_is : (l : Language) → Indexed index s l → row l q e (drop to text) ≡ broken → Imports (read_text l tree_levels k text) text (Err Broken)
    broken_is l z h = rest_broken (read_text l tree_levels k text) text (sym (unwind_broken _ d) ∙ (ap (left l) (sym h) ∙ o.comes l z))

    pub open_done : e ≤ q → d ≡ 0 → Answers (Ok to)
    open_done h y = (
      inside_end text to o.inside,
      λ l z. rest_end (read_text l tree_levels k text) text to
          (sym (ap (λ (j : ℕ). unwind (waits_in l k s text rows) j (rest (drop to text))) y ∙ unwind_none then_rest _ (rest (drop to text)))
          ∙ (ap (left l) (sym (row_done l (tree_levels - d) (row_kinds k s d) q e (drop to text) h)) ∙ o.comes l z)),
    )

    -- The row has ended, and behind it the closing tag stands or not.
    module _ (done-row : e ≤ q) (some-row : d ≡ 0 → ⊥) {c : ℕ} (ec : c ≡ d - 1) where
      pub open_above : Waits (row_kinds k s c) text (row_at rows c)
      open_above = o.waiting c (omega arith)

      above : (l : Language) → Indexed index s l → unwind (waits_in l k s text rows) c (waits_in l k s text rows c (drop to text)) ≡ rest_of (read_text l tree_levels k text)
      above l z =
          let y : suc c ≡ d = omega arith in
          sym (unwind_one then_rest (waits_in l k s text rows) c (rest (drop to text)))
          ∙ (ap (λ (j : ℕ). unwind (waits_in l k s text rows) j (rest (drop to text))) y
          ∙ (ap (left l) (sym (row_done l (tree_levels - d) (row_kinds k s d) q e (drop to text) done-row)) ∙ o.comes l z))

      module _ {x : Option ℕ} (stands : Stands (read_word (closes (row_at rows c).tag (row_at rows c).size text) (drop to text)) text to x) where
        pub open_unclosed : x ≡ None → Answers (Err Broken)
        unfolding goes_on
        open_unclosed h = (
          inside_broken text,
          λ l z. rest_broken (read_text l tree_levels k text) text
              (sym (unwind_broken (waits_in l k s text rows) c)
              ∙ (ap (λ (p : Read (Unit {0})). unwind (waits_in l k s text rows) c (then_rest (rest_of p) (row_rest l (tree_levels - c) (row_kinds k s c) (row_at rows c).kinds.first (row_at rows c).kinds.last))) (sym (stands.nothing h))
              ∙ above l z)),
        )

        pub open_back : {t : ℕ} → x ≡ Some t → Open s index k text rows c (row_at rows c).kinds.first (row_at rows c).kinds.last t
        unfolding goes_on
        open_back {t} h =
            record {
              inside = (stands.reached t h).inside;
              shallow = omega (arith, o.shallow);
              kinds = open_above.kinds_in;
              waiting = λ j i. o.waiting j (omega arith);
              long = o.long;
              comes = λ l z.
                  ap (λ (p : Read (Unit {0})). unwind (waits_in l k s text rows) c (then_rest (rest_of p) (row_rest l (tree_levels - c) (row_kinds k s c) (row_at rows c).kinds.first (row_at rows c).kinds.last))) (sym (stands.found t h))
                  ∙ above l z;
            }

    -- There is a tree of kind n to read.
    module _ (more : q < e) where
      pub open_in : (q < length (row_kinds k s d)) × (get_or (row_kinds k s d) q 0 < 32) × (e ≤ length (row_kinds k s d))
      open_in = row_in (row_kinds k s d) q e o.kinds more

      module _ {n : ℕ} (en : n ≡ get_or (row_kinds k s d) q 0) where
        pub open_kind : n < 32
        open_kind = let z = open_in in omega (arith, z.1)

        next : (l : Language) → row l q e (drop to text) ≡ then_rest (rest_of (read_text l (tree_levels - d) n (drop to text))) (row l (q + 1) e)
        next l =
            row_next l (tree_levels - d) (row_kinds k s d) q e (drop to text) more open_in.2
            ∙ ap (λ (j : ℕ). then_rest (rest_of (read_text l (tree_levels - d) j (drop to text))) (row l (q + 1) e)) (sym en)

        module _ {y : Text} (step : ImportsTree s index n text to (tree_levels - d) y) where
          open_broken : y ≡ Err Broken → Answers (Err Broken)
          open_broken h = (
            inside_broken text,
            λ l z. broken_is l z (next l ∙ ap (λ (p : Read Code). then_rest (rest_of p) (row l (q + 1) e)) ((step l z).broken h)),
          )

          open_deep : y ≡ Err Deep → Answers (Err Deep)
          open_deep h = (
            inside_deep text,
            λ l z. rest_deep (read_text l tree_levels k text) text
                (sym (unwind_deep (waits_in l k s text rows) d)
                ∙ (ap (left l) (sym (next l ∙ ap (λ (p : Read Code). then_rest (rest_of p) (row l (q + 1) e)) ((step l z).deep h))) ∙ o.comes l z)),
          )

          open_next : {t : ℕ} → y ≡ Ok t → t ≤ length text → Open s index k text rows d (q + 1) e t
          open_next {t} h i =
              record {
                inside = i;
                shallow = o.shallow;
                kinds = λ x a b. o.kinds x (omega arith) b;
                waiting = o.waiting;
                long = o.long;
                comes = λ l z.
                    ap (left l) (sym (next l ∙ ap (λ (p : Read Code). then_rest (rest_of p) (row l (q + 1) e)) ((step l z).found t h).1)) ∙ o.comes l z;
              }

        module _ (bytes : (i : ℕ) → get_or s i 0 < 256) {j class : ℕ} (ej : j ≡ n) (ec : class ≡ get_or index j 0) where
          -- A token.
          module _ (some_class : class ≡ 0 → ⊥) {x : Option (ℕ × ℕ)} (token_is : Tokens (read_token n (class_range s (class - 1)) (drop to text)) text (to + 2) x) where
            pub turn_no_token : x ≡ None → Answers (Err Broken)
            turn_no_token h = open_broken (at_no_token s index text n to (tree_levels - d) open_kind bytes ej ec some_class token_is h) refl

            pub turn_token : {v t : ℕ} → x ≡ Some (v, t) → Open s index k text rows d (q + 1) e t
            turn_token {v} {t} h =
                open_next (at_token s index text n to (tree_levels - d) open_kind bytes ej ec some_class token_is h) refl (token_is.reached v t h).inside

          -- No token stands where one should.
          pub turn_not : (class ≡ 0 → ⊥) → {r : Bool} → TellsToken class text to r → r ≡ false → Answers (Err Broken)
          turn_not some_class tells h = turn_no_token some_class (tokens_not (tells.none h some_class n (class_range s (class - 1)) (class_high s (class - 1) bytes))) refl

          module _ (no : class ≡ 0) where
            pub turn_deep : d ≡ 64 → Answers (Err Deep)
            turn_deep h = open_deep (at_deep s index text n to (tree_levels - d) open_kind bytes ej ec no (omega arith)) refl

            module _ (some_level : d ≡ 64 → ⊥) {x : Option (Operands × ℕ)} (elements : Elements s index n text to x) where
              levels_left : tree_levels - d ≡ 0 → ⊥
              levels_left h = some_level (omega (arith, o.shallow))

              pub turn_no_element : x ≡ None → Answers (Err Broken)
              turn_no_element h = open_broken (at_no_element s index text n to (tree_levels - d) open_kind bytes ej ec no levels_left elements h) refl

              module _ {below : Operands} {a : ℕ} (ex : x ≡ Some (below, a)) where
                pub turn_past : (to + 2 ≤ a) × (a ≤ length text)
                turn_past = at_past s index text n to (tree_levels - d) open_kind bytes ej ec no levels_left elements ex

                -- The row waits, and the arguments of the tree are the row that is open.
                abbrev this : Row
                this = record { kinds = record { first = q + 1; last = e }; tag = to; size = a - to + 1 }

                abbrev then : Language → ℕ → List ℕ → Rest
                then l = waits_in l k s text (set rows d this)

                row_other : (j : ℕ) → (j ≡ d → ⊥) → row_at (set rows d this) j ≡ row_at rows j
                row_other j h = get_or-set_other rows d j this _ h

                row_same : row_at (set rows d this) d ≡ this
                row_same = let b : d < length rows = omega (arith, o.long, o.shallow, some_level) in get_or-set_same rows d this _ b

                others : (l : Language) (j : ℕ) → j < d → then l j ≡ waits_in l k s text rows j
                others l j h = ap (goes_on l k s text j) (row_other j (λ y. omega arith))

                here : (l : Language) → then l d ≡ goes_on l k s text d this
                here l = ap (goes_on l k s text d) row_same

                down : (l : Language) → Indexed index s l
                    → row l q e (drop to text) ≡ then_rest (row_rest l (tree_levels - d - 1) s below.first below.last (drop a text)) (goes_on l k s text d this)
                unfolding goes_on
                down l z =
                    next l
                    ∙ (ap (λ (r : Rest). then_rest r (row l (q + 1) e)) (at_opened s index text n to (tree_levels - d) open_kind bytes ej ec no levels_left elements ex l z)
                    ∙ then_then (row_rest l (tree_levels - d - 1) s below.first below.last (drop a text)) (λ u. rest_of (read_word (closes to (a - to + 1) text) u)) (row l (q + 1) e))

                pushed : (l : Language) → Indexed index s l → unwind (then l) (d + 1) (row_rest l (tree_levels - (d + 1)) (row_kinds k s (d + 1)) below.first below.last (drop a text)) ≡ rest_of (read_text l tree_levels k text)
                pushed l z =
                    let b : suc d ≡ d + 1 = omega arith in
                    let m : tree_levels - (d + 1) ≡ tree_levels - d - 1 = omega arith in
                    let r = row_rest l (tree_levels - d - 1) s below.first below.last (drop a text) in
                    ap (λ (i : ℕ). unwind (then l) (d + 1) (row_rest l i (row_kinds k s (d + 1)) below.first below.last (drop a text))) m
                    ∙ (ap (λ (ks : List ℕ). unwind (then l) (d + 1) (row_rest l (tree_levels - d - 1) ks below.first below.last (drop a text))) (below_root k s (d + 1) (λ y. omega arith))
                    ∙ (ap (λ (i : ℕ). unwind (then l) i r) (sym b)
                    ∙ (unwind_one then_rest (then l) d r
                    ∙ (ap (λ (h : List ℕ → Rest). unwind (then l) d (then_rest r h)) (here l)
                    ∙ (unwind_same then_rest (waits_in l k s text rows) (then l) d (then_rest r (goes_on l k s text d this)) (others l)
                    ∙ (ap (left l) (sym (down l z)) ∙ o.comes l z))))))

                waits : (i : ℕ) → i < d + 1 → Waits (row_kinds k s i) text (row_at (set rows d this) i)
                waits i h =
                    by_test (eqb i d)
                    (λ t.
                    let v = turn_past in
                    rw (eqb-true i d t, row_same)
                    (record { kinds_in = λ x g m. o.kinds x (omega arith) m; wide = omega (arith, v.0); inside = omega (arith, v.0, v.1) }))
                    (λ t. let y : i ≡ d → ⊥ = eqb-false i d t in rw (row_other i y) (o.waiting i (omega arith)))

                pub turn_down : Open s index k text (set rows d this) (d + 1) below.first below.last a
                turn_down = record {
                  inside = turn_past.1;
                  shallow = omega (arith, o.shallow, some_level);
                  kinds = rw (below_root k s (d + 1) (λ y. omega arith)) (at_kinds s index text n to (tree_levels - d) open_kind bytes ej ec no levels_left elements ex);
                  waiting = waits;
                  long = length-set rows d this ∙ o.long;
                  comes = pushed;
                }
