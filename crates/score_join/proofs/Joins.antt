-- Joined loads put one behind the other: a law for each turn and each return of `join_figures`, `join_load` and `join_loads`.
use Rattle.std.specs.Prelude as Std
use Rattle.std.specs.Prelude.{Some, None}
use Prim.Native.Nat.{ℕ, zero, suc, ◌+◌, ◌*◌, ◌-◌, ◌<◌, ◌≤◌}
use mathlib.Core.Path.{◌≡◌, refl, sym, ap, ◌∙◌}
use mathlib.Core.Bool.{Bool, true, false, ◌&&◌}
use mathlib.Core.Logic.{◌⊎◌, inl, inr, ⊎_elim}
use mathlib.Core.List.{List, [], ◌∷◌, ◌++◌, map, append_assoc, append-nil}
use mathlib.Core.Option.{some}
use native.Mathlib.Omega.{arith}
use native.Mathlib.Numerals.{add-one}
use lib.ListN.{length, get_or, take, drop, length-append}
use lib.Seq.{slice, length-slice}
use lib.IntN.{ℤ}
use Rattle.format_fields.specs.Lists.{all, concat_map, count_up}
use Rattle.format_fields.specs.Fields.{encode_field, encode_fields, two_bytes, pair_at}
use Rattle.format_fields.specs.Inner.Places.{field_end, places_from, places}
use Rattle.format_fields.specs.Inner.Writing.{Written}
use Rattle.format_fields.proofs.Truth.{Mem, none_some, some_inj, mem_map, all_mem}
use Rattle.format_fields.proofs.Keyed.{Rising, is_rising}
use Rattle.format_fields.proofs.Places.{places_done, places_next}
use Rattle.format_fields.proofs.Splices.{slice_is, nothing_spliced, written_then}
use Rattle.format_fields.proofs.Codec.{Bytes, each_front, bytes_from}
use Rattle.format_language.specs.Language.{Language, Range, Entry, class, production, entry_key, production_key}
use Rattle.format_language.specs.Inner.Entries.{entry_at, entry_whole, IsClass, IsProduction, Holds}
use Rattle.format_language.proofs.Facts.{entry_facts, class_is, production_is}
use Rattle.format_language.proofs.Holds.{holds_entries}
use Rattle.format_language.proofs.Lookup.{arguments_mem, mem_arguments, result_in}
use Rattle.tree_reader.specs.Code.{Code}
use Rattle.tree_reader.specs.Syntax.{done, write, code}
use Rattle.tree_reader.proofs.Sound.{read_done}
use Rattle.format_translation.specs.Translation.{Translation, mapped, clause_of}
use Rattle.format_translation.specs.Running.{read_clause, clauses_of, uses_of, code_levels}
use Rattle.format_translation.specs.Inner.ItemIndex.{code_before, mapped_at}
use Rattle.format_translation.proofs.Codec.{rises_parts}
use Rattle.format_translation.proofs.Lookup.{mem_clause}
use Rattle.format_translation.proofs.Fitting.{clause_code}
use Rattle.format_translation.proofs.IndexedItems.{mapped_is}
use Rattle.format_translation.proofs.PlainUses.{use_zero}
use Rattle.run_table.specs.Inner.Stands.{Stands}
use Rattle.run_table.specs.Inner.Table.{Checked}
use Rattle.run_table.proofs.Clauses as Clauses
use Rattle.score_tree.specs.Figures.{figure_bytes, is_figure}
use Rattle.score_tree.specs.LoadTable.{load_field, encode_table}
use Rattle.score_tree.specs.Linear.{Loads, form}
use Rattle.score_tree.specs.Inner.Terms.{TermAsks}
use Rattle.score_join.specs.Joined.{place_fits, load_fits, joined_load, joined_table}
use Rattle.score_join.specs.Inner.Loading.{Parts, clause_at, figures_bytes, load_bytes, LoadAsks, Puts}
use Rattle.score_join.specs.declared.join.Held.{Held}
use Rattle.score_join.proofs.Places.{RowOf, place_of, row_is, row_fits}
use Rattle.score_join.proofs.Puts.{written_long}

-- What an answer says.
pub puts_done : {fits : Bool} {v o after : List ℕ} {n m : ℕ} → fits ≡ true → Written v o after n m → Puts fits v o after n (Some m)
puts_done {fits} {v} {o} {after} {n} {m} h w = record {
  done = λ k e. (h, (let i : m ≡ k = cc in rw i at w));
  outside = λ e. cc;
}

pub puts_outside : {fits : Bool} {v o after : List ℕ} {n : ℕ} → fits ≡ false → Puts fits v o after n None
puts_outside h = record { done = λ k e. cc; outside = λ e. h }

-- The next of the numbers.
count_next : (count j : ℕ) → j < count → count_up (count - j) j ≡ j ∷ count_up (count - (j + 1)) (j + 1)
unfolding count_up
count_next count j h =
    let e : count - j ≡ suc (count - (j + 1)) = omega arith in
    ap (λ (n : ℕ). count_up n j) e ∙ ap (λ (n : ℕ). j ∷ count_up (count - (j + 1)) n) (sym (add-one j))

figures_next : (w : Loads) (u : Code) (count j : ℕ) → j < count → figures_bytes w u (count - j) j ≡ figure_bytes (form w u j) ++ figures_bytes w u (count - (j + 1)) (j + 1)
unfolding figures_bytes concat_map
figures_next w u count j h = ap (λ (l : List ℕ). concat_map figure_bytes (map (form w u) l)) (count_next count j h)

fits_next : (w : Loads) (u : Code) (count j : ℕ) → j < count → all (place_fits w u) (count_up (count - j) j) ≡ (place_fits w u j && all (place_fits w u) (count_up (count - (j + 1)) (j + 1)))
unfolding all
fits_next w u count j h = ap (all (place_fits w u)) (count_next count j h)

-- Where the loop of `join_figures` stands.
pub record Figuring (w : Loads) (u : Code) (count : ℕ) (o after : List ℕ) (pos to j : ℕ) : Type 0 where
  pub done : List ℕ
  pub put : Written done o after pos to
  pub rest : done ++ figures_bytes w u (count - j) j ≡ figures_bytes w u count 0
  pub fits : all (place_fits w u) (count_up count 0) ≡ all (place_fits w u) (count_up (count - j) j)
  pub place : to ≡ pos + 2 * j

pub figure_begin : (w : Loads) (u : Code) (count : ℕ) (o : List ℕ) (pos : ℕ) → pos ≤ length o → Figuring w u count o o pos pos 0
figure_begin w u count o pos h =
    let e : count - 0 ≡ count = omega arith in
    record {
      done = [];
      put = record { end = omega arith; fits = h; bytes = nothing_spliced o pos };
      rest = ap (λ (n : ℕ). figures_bytes w u n 0) e;
      fits = ap (λ (n : ℕ). all (place_fits w u) (count_up n 0)) (sym e);
      place = omega arith;
    }

module _ {w : Loads} {u : Code} {count : ℕ} {o after : List ℕ} {pos to j : ℕ} (v : Figuring w u count o after pos to j) where
  pub figure_room : pos + 2 * count ≤ length o → j < count → (to + 2 ≤ length after) × (length after ≡ length o)
  figure_room h i =
      let l = written_long v.done o after pos to v.put in
      let e = v.place in
      (omega arith, l)

  module _ {row : List ℤ} {end : ℕ} {r : Std.Option ℕ} (d : RowOf w u count row end r) (x : ℕ) (y : r ≡ Some x) (h : j < count) (z : ℤ)
      (ez : z ≡ place_of row j) where
    pub figure_outside : is_figure z ≡ false → all (place_fits w u) (count_up count 0) ≡ false
    figure_outside o = v.fits ∙ (fits_next w u count j h ∙ ap (λ (t : Bool). t && all (place_fits w u) (count_up (count - (j + 1)) (j + 1))) (row_fits d x y j h z ez false o))

    pub figure_next : is_figure z ≡ true → (more : List ℕ) (m : ℕ) → Written (figure_bytes z) after more to m → Figuring w u count o more pos m (j + 1)
    unfolding figure_bytes
    figure_next g more m p =
        let l = written_long v.done o after pos to v.put in
        let s : z ≡ form w u j = ez ∙ row_is d x y j h in
        let e = p.end in
        let k = v.place in
        record {
          done = v.done ++ figure_bytes z;
          put = written_then v.done (figure_bytes z) o after more pos to m v.put p l;
          rest =
              append_assoc v.done (figure_bytes z) (figures_bytes w u (count - (j + 1)) (j + 1))
              ∙ (ap (λ (n : ℤ). v.done ++ (figure_bytes n ++ figures_bytes w u (count - (j + 1)) (j + 1))) s
              ∙ (ap (λ (n : List ℕ). v.done ++ n) (sym (figures_next w u count j h)) ∙ v.rest));
          fits = v.fits ∙ (fits_next w u count j h ∙ ap (λ (t : Bool). t && all (place_fits w u) (count_up (count - (j + 1)) (j + 1))) (row_fits d x y j h z ez true g));
          place = omega arith;
        }

  pub figure_end : count ≤ j → Puts (all (place_fits w u) (count_up count 0)) (figures_bytes w u count 0) o after pos (Some to)
  unfolding figures_bytes count_up concat_map all
  figure_end h =
      let e : count - j ≡ 0 = omega arith in
      let none : figures_bytes w u (count - j) j ≡ [] = ap (λ (n : ℕ). figures_bytes w u n j) e in
      let d : v.done ≡ figures_bytes w u count 0 = sym (append-nil v.done) ∙ (ap (λ (l : List ℕ). v.done ++ l) (sym none) ∙ v.rest) in
      puts_done (v.fits ∙ ap (λ (n : ℕ). all (place_fits w u) (count_up n j)) e) (rw (← d) v.put)

-- How long figures are.
pub count_long : (n j : ℕ) → length (count_up n j) ≡ n
unfolding count_up
count_long zero j = refl
count_long (suc n) j = ap suc (count_long n (suc j))

pub figures_long : (l : List ℤ) → length (concat_map figure_bytes l) ≡ 2 * length l
unfolding concat_map figure_bytes
figures_long [] = refl
figures_long (z ∷ l) = let e = figures_long l in omega arith

pub map_long : {A B : Type 0} (g : A → B) (l : List A) → length (map g l) ≡ length l
map_long g [] = refl
map_long g (a ∷ l) = ap suc (map_long g l)

module _ (f : Translation) (w : Loads) (s : List ℕ) (p count : ℕ) where
  body_long : length (figures_bytes w (clause_at f s p) count 0) ≡ 2 * count
  unfolding figures_bytes
  body_long =
      let a = figures_long (map (form w (clause_at f s p)) (count_up count 0)) in
      let b = map_long (form w (clause_at f s p)) (count_up count 0) ∙ count_long count 0 in
      omega (arith, a, b)

  load_is : (0x24 ∷ (two_bytes (2 + 2 * count) ++ (get_or s (p + 3) 0 ∷ get_or s (p + 4) 0 ∷ []))) ++ figures_bytes w (clause_at f s p) count 0 ≡ load_bytes f w s p count
  unfolding load_bytes encode_field load_field figures_bytes
  load_is =
      let e : 2 + 2 * count ≡ suc (suc (length (figures_bytes w (clause_at f s p) count 0))) = omega (arith, body_long) in
      ap (λ (n : ℕ). 0x24 ∷ (two_bytes n ++ (get_or s (p + 3) 0 ∷ get_or s (p + 4) 0 ∷ figures_bytes w (clause_at f s p) count 0))) e

  pub load_long : length (load_bytes f w s p count) ≡ 5 + 2 * count
  load_long =
      let a = ap length (sym load_is) in
      let b = body_long in
      let c = length-append (0x24 ∷ (two_bytes (2 + 2 * count) ++ (get_or s (p + 3) 0 ∷ get_or s (p + 4) 0 ∷ []))) (figures_bytes w (clause_at f s p) count 0) in
      omega (arith, a, b, c)

  -- The front of a load, and its figures.
  pub load_puts : (o after more : List ℕ) (pos to : ℕ) (size x y : ℕ) → size ≡ 2 + 2 * count → x ≡ get_or s (p + 3) 0 → y ≡ get_or s (p + 4) 0
      → Written (0x24 ∷ (two_bytes size ++ (x ∷ y ∷ []))) o after pos to → (t : Bool) (r : Std.Option ℕ)
      → Puts t (figures_bytes w (clause_at f s p) count 0) after more to r → Puts t (load_bytes f w s p count) o more pos r
  load_puts o after more pos to size x y es ex ey h t r u = record {
    done = λ m e.
        let d = u.done m e in
        let g = rw (es, ex, ey) at h in
        (d.0, rw (← load_is) (written_then _ _ o after more pos to m g d.1 (written_long _ o after pos to g)));
    outside = u.outside;
  }

-- A production's field has its first five bytes, and stands in a source of at most 1,024.
pub production_in : {hd : Held} {p count : ℕ} {f : Translation} {w : Loads} → LoadAsks hd p count f w
    → (p + 5 ≤ length hd.source.now) × (length hd.source.now ≤ 1024)
unfolding field_end
production_in a = let c = a.production.fits in let d = a.production.two in (omega arith, a.parts.checked.pieces.source_short)

-- A clause that is found before a place in the body.
clause_some : (s : List ℕ) (place : ℕ) (c : List ℕ) → code_before s place ≡ some c → (q : ℕ) × (place ≡ suc q) × (slice (q + 5) (field_end s q) s ≡ c)
clause_some s zero c e = none_some e
clause_some s (suc q) c e = (q, refl, some_inj e)

-- The code of a production's clause stands in the body.
module _ {hd : Held} {p count : ℕ} {f : Translation} {w : Loads} (a : LoadAsks hd p count f w) where
  abbrev k : ℕ
  k = get_or hd.source.now (p + 3) 0

  abbrev n : ℕ
  n = get_or hd.source.now (p + 4) 0

  abbrev z : Checked hd.source.now hd.target.language.now hd.body.now f
  z = a.parts.checked

  pub kind_in : k < 32
  kind_in = a.production.kind

  pub key_is : (32 + pair_at hd.source.now (p + 3) ≡ production_key k n) × (32 + pair_at hd.source.now (p + 3) < 8224)
  unfolding pair_at
  key_is =
      let e : p + 3 + 1 ≡ p + 4 = omega arith in
      let d : get_or hd.source.now (p + 3 + 1) 0 ≡ n = ap (λ (i : ℕ). get_or hd.source.now i 0) e in
      let c = kind_in in
      let m = a.parts.source_bytes (p + 4) in
      (omega arith, omega arith)

  -- The clause of number 0 that the production has: its bytes, and the code that is read of them.
  record Coded : Type 0 where
    bytes_are : List ℕ
    code_is : Code
    listed : clause_of f.body k n 0 ≡ some bytes_are
    read_is : read_clause f k n 0 bytes_are ≡ done code_is []
    same : clauses_of f k n 0 ≡ code_is

  coded : Coded
  coded =
      let known = arguments_mem f.source k n a.kinds a.known in
      let (goal, o) = (Clauses.fits z).maps k (result_in f.source k n a.kinds known) in
      let (c, m) = (Clauses.fits z).clauses k n 0 goal a.kinds known o in
      let (u, r) = (Clauses.fits z).codes k n 0 c m in
      record {
        bytes_are = c;
        code_is = u;
        listed = mem_clause f.body (Clauses.body_rises z) k n 0 c m;
        read_is = r;
        same = clause_code f (Clauses.body_rises z) k n 0 c u m r;
      }

  pub clause_term : (kind place at pair : ℕ) → kind ≡ mapped_at hd.body.now hd.items.now k → kind < 32 → pair ≡ pair_at hd.source.now (p + 3) → place ≡ get_or hd.items.now (32 + pair) 0 → at ≡ place + 4
      → TermAsks hd.target hd.body.now kind at 16 f.target (uses_of f k n) w (clause_at f hd.source.now p)
  unfolding read_clause field_end
  clause_term kind place at pair ek hk er ep ea =
      let x = a.parts.indexed in
      let few = a.parts.source_bytes (p + 4) in
      let v = coded in
      let c = v.bytes_are in
      let u = v.code_is in
      let (q, is, part) = clause_some hd.body.now (get_or hd.items.now (production_key k n) 0) c (sym (x.clause k n kind_in few) ∙ v.listed) in
      let found : place ≡ suc q = ep ∙ (ap (λ (i : ℕ). get_or hd.items.now (32 + i) 0) er ∙ (ap (λ (i : ℕ). get_or hd.items.now i 0) key_is.0 ∙ is)) in
      let sound = x.sound.code k n kind_in few (omega (arith, is)) in
      let pr : pair_at hd.body.now (get_or hd.items.now (production_key k n) 0) ≡ pair_at hd.body.now (q + 1) = ap (pair_at hd.body.now) (is ∙ sym (add-one q)) in
      let lo : q + 5 ≤ q + 3 + pair_at hd.body.now (q + 1) = omega (arith, sound.0, pr) in
      let hi : q + 3 + pair_at hd.body.now (q + 1) ≤ length hd.body.now = omega (arith, sound.1, pr, is) in
      let d = read_done code f.target (uses_of f k n) code_levels (mapped f.body k 0) c u [] v.read_is in
      let piece : slice (q + 5) (q + 3 + pair_at hd.body.now (q + 1)) hd.body.now ≡ take (q + 3 + pair_at hd.body.now (q + 1) - (q + 5)) (drop (q + 5) hd.body.now) = slice_is hd.body.now (q + 5) (q + 3 + pair_at hd.body.now (q + 1)) lo hi in
      let small : Bytes c = rw (← part) (part_small (q + 5) (q + 3 + pair_at hd.body.now (q + 1))) in
      let is_code : c ≡ write code u = (d.2 small).0 ∙ append-nil (write code u) in
      let long : length (write code u) ≡ q + 3 + pair_at hd.body.now (q + 1) - (q + 5) = ap length (sym is_code) ∙ (ap length (sym part) ∙ length-slice (q + 5) (q + 3 + pair_at hd.body.now (q + 1)) hd.body.now hi) in
      let stands : Stands hd.body.now (q + 5) (write code u) = record {
        inside = omega (arith, long);
        bytes = ap (λ (i : ℕ). take i (drop (q + 5) hd.body.now)) long ∙ (sym piece ∙ (part ∙ is_code));
      } in
      let spot : q + 5 ≡ at = omega (arith, found, ea) in
      record {
        world = a.parts.world;
        plain = λ i j g e. use_zero f a.parts.plain_body k n i j g e;
        typed = rw (ek ∙ mapped_is hd.body.now hd.items.now f.body x k kind_in, v.same) d.0;
        kind = hk;
        stands = rw (v.same, ← spot) stands;
        levels = rw v.same d.1;
      }
    where
      part_small : (i e : ℕ) → Bytes (slice i e hd.body.now)
      part_small i e =
          let whole : Bytes hd.body.now = bytes_from hd.body.now (λ j l. a.parts.body_bytes j) in
          let h : Bytes (take e hd.body.now) = (each_front _ (take e hd.body.now) (drop e hd.body.now) (rw (← lib.ListN.take-append-drop e hd.body.now) at whole)).0 in
          (each_front _ (take i (take e hd.body.now)) (drop i (take e hd.body.now)) (rw (← lib.ListN.take-append-drop i (take e hd.body.now)) at h)).1

-- Where the loop of `join_loads` stands: the loads before p are put.
pub record Joins (s : List ℕ) (f : Translation) (w : Loads) (o after : List ℕ) (p n : ℕ) : Type 0 where
  pub done : List ℕ
  pub put : Written done o after 0 n
  pub rest : done ++ encode_table (concat_map (joined_load f w) (map (entry_at s) (places_from s p))) ≡ encode_table (joined_table f w)
  pub fits : all (load_fits f w) f.source ≡ all (load_fits f w) (map (entry_at s) (places_from s p))
  pub there : (x : ℕ) → Mem x (places_from s p) → Mem x (places s)
  pub room : n ≤ 2 * p

-- A class has no load, a production one.
class_bytes : (f : Translation) (w : Loads) (k : ℕ) (c : Range) (l : Language) → encode_table (concat_map (joined_load f w) (class k c ∷ l)) ≡ encode_table (concat_map (joined_load f w) l)
unfolding concat_map joined_load
class_bytes f w k c l = refl

class_fits : (f : Translation) (w : Loads) (k : ℕ) (c : Range) (l : Language) → all (load_fits f w) (class k c ∷ l) ≡ all (load_fits f w) l
unfolding all load_fits
class_fits f w k c l = refl

production_bytes : (f : Translation) (w : Loads) (s : List ℕ) (p : ℕ) (ks : List ℕ) (l : Language)
    → encode_table (concat_map (joined_load f w) (production (get_or s (p + 3) 0) (get_or s (p + 4) 0) ks ∷ l)) ≡ load_bytes f w s p (suc (length ks)) ++ encode_table (concat_map (joined_load f w) l)
unfolding concat_map joined_load encode_table encode_fields load_bytes
production_bytes f w s p ks l = refl

production_fits : (f : Translation) (w : Loads) (s : List ℕ) (p : ℕ) (ks : List ℕ) (l : Language)
    → all (load_fits f w) (production (get_or s (p + 3) 0) (get_or s (p + 4) 0) ks ∷ l) ≡ (all (place_fits w (clause_at f s p)) (count_up (suc (length ks)) 0) && all (load_fits f w) l)
unfolding all load_fits
production_fits f w s p ks l = refl

module _ {hd : Held} {f : Translation} {w : Loads} (a : Parts hd f w) where
  held : Holds hd.source.now f.source
  held = holds_entries hd.source.now f.source a.checked.pieces.source

  source_rises : Rising entry_key f.source
  source_rises = is_rising entry_key f.source (rises_parts f (Clauses.whole a.checked).0.rises).0

  pub joins_begin : (o : List ℕ) → Joins hd.source.now f w o o 0 0
  unfolding joined_table
  joins_begin o = record {
    done = [];
    put = record { end = refl; fits = omega arith; bytes = nothing_spliced o 0 };
    rest = ap (λ (l : Language). encode_table (concat_map (joined_load f w) l)) held.entries;
    fits = ap (all (load_fits f w)) (sym held.entries);
    there = λ x m. m;
    room = omega arith;
  }

  module _ {o after : List ℕ} {p n : ℕ} (v : Joins hd.source.now f w o after p n) where
    pub joins_end : length hd.source.now ≤ p → Puts (all (load_fits f w) f.source) (encode_table (joined_table f w)) o after 0 (Some n)
    unfolding concat_map all encode_table encode_fields
    joins_end h =
        let e : places_from hd.source.now p ≡ [] = places_done hd.source.now p h in
        let d : v.done ≡ encode_table (joined_table f w) =
        sym (append-nil v.done) ∙ (ap (λ (l : List ℕ). v.done ++ encode_table (concat_map (joined_load f w) (map (entry_at hd.source.now) l))) (sym e) ∙ v.rest) in
        puts_done (v.fits ∙ ap (λ (l : List ℕ). all (load_fits f w) (map (entry_at hd.source.now) l)) e) (rw (← d) v.put)

    module _ (here : p < length hd.source.now) where
      next : places_from hd.source.now p ≡ p ∷ places_from hd.source.now (field_end hd.source.now p)
      next = places_next hd.source.now p here

      in_places : Mem p (places hd.source.now)
      in_places = v.there p (rw next (inl refl))

      entry : IsClass hd.source.now p ⊎ IsProduction hd.source.now p
      entry = entry_facts hd.source.now p (all_mem (entry_whole hd.source.now) (places hd.source.now) held.whole p in_places)

      is_production : get_or hd.source.now p 0 ≡ 0x12 → IsProduction hd.source.now p
      is_production h = ⊎_elim (λ c. let g = c.tag in absurd (omega arith)) (λ c. c) entry

      is_class : (get_or hd.source.now p 0 ≡ 0x12 → ⊥) → IsClass hd.source.now p
      is_class h = ⊎_elim (λ c. c) (λ c. absurd (h c.tag)) entry

      -- What the code may ask of the entry at p.
      pub entry_in : (p + 5 ≤ field_end hd.source.now p) × (field_end hd.source.now p ≤ length hd.source.now) × (length hd.source.now ≤ 1024)
      unfolding field_end
      entry_in =
          let short = a.checked.pieces.source_short in
          ⊎_elim (λ c. (⊎_elim (λ m. omega arith) (λ m. omega arith) c.size, c.fits, short)) (λ c. (let m = c.two in omega arith, c.fits, short)) entry

      rest_here : v.done ++ encode_table (concat_map (joined_load f w) (entry_at hd.source.now p ∷ map (entry_at hd.source.now) (places_from hd.source.now (field_end hd.source.now p)))) ≡ encode_table (joined_table f w)
      rest_here = ap (λ (l : List ℕ). v.done ++ encode_table (concat_map (joined_load f w) (map (entry_at hd.source.now) l))) (sym next) ∙ v.rest

      fits_here : all (load_fits f w) f.source ≡ all (load_fits f w) (entry_at hd.source.now p ∷ map (entry_at hd.source.now) (places_from hd.source.now (field_end hd.source.now p)))
      fits_here = v.fits ∙ ap (λ (l : List ℕ). all (load_fits f w) (map (entry_at hd.source.now) l)) next

      there_next : (x : ℕ) → Mem x (places_from hd.source.now (field_end hd.source.now p)) → Mem x (places hd.source.now)
      there_next x m = v.there x (rw next (inr m))

      pub joins_class : (get_or hd.source.now p 0 ≡ 0x12 → ⊥) → (e : ℕ) → e ≡ field_end hd.source.now p → Joins hd.source.now f w o after e n
      joins_class h e ee =
          let i = entry_in in
          let r = v.room in
          let c = class_is hd.source.now p (is_class h) in
          let l = map (entry_at hd.source.now) (places_from hd.source.now (field_end hd.source.now p)) in
          rw ee (record {
            done = v.done;
            put = v.put;
            rest = ap (λ (x : List ℕ). v.done ++ x) (sym (ap (λ (x : Entry). encode_table (concat_map (joined_load f w) (x ∷ l))) c ∙ class_bytes f w _ _ l)) ∙ rest_here;
            fits = fits_here ∙ (ap (λ (x : Entry). all (load_fits f w) (x ∷ l)) c ∙ class_fits f w _ _ l);
            there = there_next;
            room = omega (arith, i.0);
          })

      module _ (tag : get_or hd.source.now p 0 ≡ 0x12) where
        kinds_are : List ℕ
        kinds_are = slice (p + 5) (field_end hd.source.now p) hd.source.now

        entry_is : entry_at hd.source.now p ≡ production (get_or hd.source.now (p + 3) 0) (get_or hd.source.now (p + 4) 0) kinds_are
        unfolding kinds_are
        entry_is = production_is hd.source.now p (is_production tag)

        count_is : (e : ℕ) → e ≡ field_end hd.source.now p → e - p - 4 ≡ suc (length kinds_are)
        unfolding kinds_are
        count_is e ee = let i = entry_in in let l = length-slice (p + 5) (field_end hd.source.now p) hd.source.now i.1 in omega (arith, i.0, l)

        pub load_asks : (count : ℕ) → LoadAsks hd p count f w
        load_asks count = record {
          parts = a;
          production = is_production tag;
          kinds = kinds_are;
          known = mem_arguments f.source source_rises _ _ kinds_are (rw (← entry_is) (rw (← held.entries) (mem_map (entry_at hd.source.now) p (places hd.source.now) in_places)));
        }

        -- A load has a constant and at most eight factors.
        pub join_few : (e : ℕ) → e ≡ field_end hd.source.now p → (0 < e - p - 4) × (e - p - 4 ≤ 9)
        unfolding field_end
        join_few e ee = let i = (is_production tag).two in let m = (is_production tag).ten in (omega arith, omega arith)

        pub join_room : (e : ℕ) → e ≡ field_end hd.source.now p → n + 5 + 2 * (e - p - 4) ≤ 2048
        join_room e ee = let i = entry_in in let r = v.room in omega (arith, i.0, i.1, i.2)

        module _ (e : ℕ) (ee : e ≡ field_end hd.source.now p) (more : List ℕ) (r : Std.Option ℕ)
            (u : Puts (all (place_fits w (clause_at f hd.source.now p)) (count_up (e - p - 4) 0)) (load_bytes f w hd.source.now p (e - p - 4)) after more n r) where
          l : Language
          l = map (entry_at hd.source.now) (places_from hd.source.now (field_end hd.source.now p))

          test : (all (place_fits w (clause_at f hd.source.now p)) (count_up (e - p - 4) 0) && all (load_fits f w) l) ≡ all (load_fits f w) f.source
          unfolding l
          test =
              ap (λ (m : ℕ). all (place_fits w (clause_at f hd.source.now p)) (count_up m 0) && all (load_fits f w) l) (count_is e ee)
              ∙ (sym (production_fits f w hd.source.now p kinds_are l) ∙ (ap (λ (x : Entry). all (load_fits f w) (x ∷ l)) (sym entry_is) ∙ sym fits_here))

          pub joins_outside : r ≡ None → all (load_fits f w) f.source ≡ false
          joins_outside y = sym test ∙ ap (λ (x : Bool). x && all (load_fits f w) l) (u.outside y)

          pub joins_next : (m : ℕ) → r ≡ Some m → Joins hd.source.now f w o more e m
          unfolding l
          joins_next m y =
              let d = u.done m y in
              let long = written_long v.done o after 0 n v.put in
              let i = entry_in in
              let k = v.room in
              let q = load_long f w hd.source.now p (e - p - 4) in
              let x = d.1.end in
              let z : field_end hd.source.now p ≡ e = sym ee in
              rw ee (record {
                done = v.done ++ load_bytes f w hd.source.now p (e - p - 4);
                put = written_then v.done (load_bytes f w hd.source.now p (e - p - 4)) o after more 0 n m v.put d.1 long;
                rest =
                    append_assoc v.done (load_bytes f w hd.source.now p (e - p - 4)) (encode_table (concat_map (joined_load f w) l))
                    ∙ (ap (λ (c : ℕ). v.done ++ (load_bytes f w hd.source.now p c ++ encode_table (concat_map (joined_load f w) l))) (count_is e ee)
                    ∙ (ap (λ (c : List ℕ). v.done ++ c) (sym (ap (λ (c : Entry). encode_table (concat_map (joined_load f w) (c ∷ l))) entry_is ∙ production_bytes f w hd.source.now p kinds_are l)) ∙ rest_here));
                fits = sym test ∙ ap (λ (c : Bool). c && all (load_fits f w) l) d.0;
                there = there_next;
                room = omega (arith, i.0, q, x, ee);
              })
