-- The loads of a table, read along the places of the language: a law for each turn and each return of `read_table`.
use Rattle.std.specs.Prelude.{Ok, Err}
use Rattle.outcome.specs.declared.Reason.TheVariants.{BrokenTable}
use Rattle.score_tree.specs.LoadTable.{whole_table, table_of}
use Rattle.score_tree.specs.Inner.Results.{settled}
use Prim.Native.Nat.{ℕ, zero, suc, ◌+◌, ◌*◌, ◌-◌, ◌<◌, ◌≤◌}
use mathlib.Core.Path.{◌≡◌, refl, sym, ap, ◌∙◌}
use mathlib.Core.Bool.{Bool, true, false, cond, ◌&&◌}
use mathlib.Core.Logic.{inl, inr, ⊎_elim}
use mathlib.Core.List.{List, [], ◌∷◌, ◌++◌, map, append_assoc, append-nil}
use mathlib.Core.Option
use mathlib.Core.Option.{Option, none, some}
use native.Mathlib.Omega.{arith}
use lib.ListN.{length, get_or, drop}
use lib.Seq.{slice, length-slice}
use lib.Dec.{leb, eqb}
use lib.IntN.{ℤ, pos}
use borrow.Author.Tests.{eq-eqb, eqb-true, leb-true, leb-false}
use Rattle.format_fields.specs.Lists.{all, first, before}
use Rattle.format_fields.specs.Fields.{Field, pair_at, fields_of}
use Rattle.format_fields.specs.Inner.Places.{field_end, is_whole, contents_at, field_at, places_from, places, WholeEnd}
use Rattle.format_fields.proofs.Truth.{by_test, none_some, some_inj, and_both, Mem, any_mem, mem_append, append_cases, mem_first}
use Rattle.format_fields.proofs.Keyed.{From, Rising, is_rising, from_weaken, from_agree}
use Rattle.format_fields.proofs.Places.{places_done, places_next, every_here, every_after}
use Rattle.format_fields.proofs.Split.{fields_done, fields_next, fields_cut, contents_length, contents_pair, contents_first, contents_second}
use Rattle.format_language.specs.Language.{Language, Entry, Range, class, production, entry_key, production_key}
use Rattle.format_language.specs.LanguageFile.{entries_of}
use Rattle.format_language.specs.Inner.Entries.{entry_at, entry_whole, IsClass, IsProduction, RisingEntries}
use Rattle.format_language.proofs.Facts.{entry_facts, class_is, production_is}
use Rattle.format_language.proofs.Holds.{holds_entries}
use Rattle.format_language.proofs.Chain.{rising_is}
use Rattle.format_language.proofs.Lookup.{cond_some}
use Rattle.score_tree.specs.Figures.{signed, figure_at, figures_from}
use Rattle.score_tree.specs.LoadTable.{Load, load, Table, load_of, loads_in, loads_of, figures_at, figure_of}
use Rattle.score_tree.specs.Inner.Kept.{Small, Put, is_load, Kept}

-- Figures, one by one.
figures_get : (m : ℕ) (s : List ℕ) (k i : ℕ) → i < m → get_or (figures_from m s k) i (pos 0) ≡ figure_at s (k + 2 * i)
unfolding figures_from
figures_get zero s k i h = absurd (omega arith)
figures_get (suc m) s k zero h = let e : k ≡ k + 2 * 0 = omega arith in ap (figure_at s) e
figures_get (suc m) s k (suc i) h =
    let e : k + 2 + 2 * i ≡ k + 2 * suc i = omega arith in
    figures_get m s (k + 2) i (omega arith) ∙ ap (figure_at s) e

contents_figure : (t : List ℕ) (q i : ℕ) → is_whole t q ≡ true → 3 + 2 * i < pair_at t (q + 1) → figure_at (contents_at t q) (2 + 2 * i) ≡ figure_at t (q + 5 + 2 * i)
unfolding figure_at
contents_figure t q i w h = ap signed (contents_pair t q w (2 + 2 * i) (q + 5 + 2 * i) (omega arith) (omega arith))

before_none : {A : Type 0} (x : Option A) → before x none ≡ none
before_none none = refl
before_none (some a) = refl

-- What stands before more.
record Both {A : Type 0} (x : Option A) (y : Option (List A)) (w : List A) : Type 0 where
  one : A
  more : List A
  is_one : x ≡ some one
  is_more : y ≡ some more
  is : one ∷ more ≡ w

before_both : {A : Type 0} (x : Option A) (y : Option (List A)) (w : List A) → before x y ≡ some w → Both x y w
before_both none y w e = none_some e
before_both (some a) none w e = none_some e
before_both (some a) (some l) w e = record { one = a; more = l; is_one = refl; is_more = refl; is = some_inj e }

-- A field for a production.
loads_before : (r p : ℕ) (ks : List ℕ) (l : Language) (g : Field) (o : Option (List Field))
    → loads_of (production r p ks ∷ l) (before (some g) o) ≡ before (load_of r p (length ks) g) (loads_of l o)
unfolding loads_in
loads_before r p ks l g none = sym (before_none (load_of r p (length ks) g))
loads_before r p ks l g (some fs) = refl

loads_class : (k : ℕ) (c : Range) (l : Language) (o : Option (List Field)) → loads_of (class k c ∷ l) o ≡ loads_of l o
unfolding loads_in
loads_class k c l none = refl
loads_class k c l (some fs) = refl

-- The production at p of the language, and the field at q of the table.
module _ (s : List ℕ) (p : ℕ) (c : IsProduction s p) (t : List ℕ) (q : ℕ) where
  abbrev kinds : List ℕ
  kinds = slice (p + 5) (field_end s p) s

  kinds_long : length kinds + 2 ≡ pair_at s (p + 1)
  unfolding field_end
  kinds_long = let e = length-slice (p + 5) (field_end s p) s c.fits in let n = c.two in omega (arith, e)

  abbrev figures : List ℤ
  figures = figures_from (suc (length kinds)) (contents_at t q) 2

  -- The load that the field gives.
  abbrev given : Load
  given = load (get_or s (p + 3) 0) (get_or s (p + 4) 0) figures

  test_is : is_whole t q ≡ true
      → (eqb (get_or t q 0) 0x24 && (eqb (length (contents_at t q)) (4 + 2 * length kinds) && (eqb (get_or (contents_at t q) 0 0) (get_or s (p + 3) 0) && eqb (get_or (contents_at t q) 1 0) (get_or s (p + 4) 0))))
      ≡ is_load s p t q
  unfolding is_load
  test_is w =
      let n : 4 + 2 * length kinds ≡ 2 * pair_at s (p + 1) = omega (arith, kinds_long) in
      let two = c.two in
      by_test (eqb (pair_at t (q + 1)) (2 * pair_at s (p + 1)))
      (λ y.
      let z : pair_at t (q + 1) ≡ 2 * pair_at s (p + 1) = eqb-true _ _ y in
      cc (w, contents_length t q w, contents_first t q w (omega arith), contents_second t q w (omega arith)))
      (λ y. cc (w, y, contents_length t q w))

  load_is : is_whole t q ≡ true → load_of (get_or s (p + 3) 0) (get_or s (p + 4) 0) (length kinds) (field_at t q) ≡ cond (is_load s p t q) (some given) none
  unfolding load_of field_at
  load_is w = ap (λ (b : Bool). cond b (some given) none) (test_is w)

  module _ (l : Language) where
    turn : q < length t → field_end t q ≤ length t → is_whole t q ≡ true
        → loads_of (entry_at s p ∷ l) (fields_of (drop q t)) ≡ before (cond (is_load s p t q) (some given) none) (loads_of l (fields_of (drop (field_end t q) t)))
    turn h k w =
        ap (λ (a : Entry). loads_of (a ∷ l) (fields_of (drop q t))) (production_is s p c)
        ∙ (ap (loads_of (production (get_or s (p + 3) 0) (get_or s (p + 4) 0) kinds ∷ l)) (fields_next t q h k)
        ∙ (loads_before _ _ kinds l (field_at t q) (fields_of (drop (field_end t q) t))
        ∙ ap (λ (o : Option Load). before o (loads_of l (fields_of (drop (field_end t q) t)))) (load_is w)))

    loads_load : is_load s p t q ≡ true → (e : ℕ) → WholeEnd t q e
        → loads_of (entry_at s p ∷ l) (fields_of (drop q t)) ≡ before (some given) (loads_of l (fields_of (drop e t)))
    unfolding is_load
    loads_load y e w =
        let i = w.past in
        let f = w.fits in
        let whole = (and_both (is_whole t q) _ y).0 in
        turn (omega arith) (rw (← w.is) f) whole
        ∙ (ap (λ (b : Bool). before (cond b (some given) none) (loads_of l (fields_of (drop (field_end t q) t)))) y
        ∙ ap (λ (x : ℕ). before (some given) (loads_of l (fields_of (drop x t)))) (sym w.is))

    loads_none : is_load s p t q ≡ false → loads_of (entry_at s p ∷ l) (fields_of (drop q t)) ≡ none
    unfolding is_whole loads_in
    loads_none y =
        by_test (leb (length t) q)
        (λ h.
        ap (λ (a : Entry). loads_of (a ∷ l) (fields_of (drop q t))) (production_is s p c)
        ∙ ap (loads_of (production (get_or s (p + 3) 0) (get_or s (p + 4) 0) kinds ∷ l)) (fields_done t q (leb-true _ _ h)))
        (λ h. by_test (leb (field_end t q) (length t))
        (λ k.
        turn (leb-false _ _ h) (leb-true _ _ k) k
        ∙ ap (λ (b : Bool). before (cond b (some given) none) (loads_of l (fields_of (drop (field_end t q) t)))) y)
        (λ k. ap (loads_of (entry_at s p ∷ l)) (fields_cut t q (leb-false _ _ h) (leb-false _ _ k))))

-- The loads in front, and those that follow.
unfoldable pub joined : Table → Option Table → Option Table
joined d none = none
joined d (some w) = some (d ++ w)

joined_next : (d : Table) (x : Load) (o : Option Table) → joined d (before (some x) o) ≡ joined (d ++ (x ∷ [])) o
unfolding joined
joined_next d x none = refl
joined_next d x (some w) = ap some (sym (append_assoc d (x ∷ []) w))

joined_first : (o : Option Table) → joined [] o ≡ o
unfolding joined
joined_first none = refl
joined_first (some w) = refl

-- The load of the production at p stands in w, and its figures are kept.
pub record Loaded (fig : List ℤ) (s : List ℕ) (w : Table) (p : ℕ) : Type 0 where
  pub figures : List ℤ
  pub there : Mem (load (get_or s (p + 3) 0) (get_or s (p + 4) 0) figures) w
  pub is : (i : ℕ) → i + 1 < pair_at s (p + 1) → get_or fig (p + 4 + i) (pos 0) ≡ get_or figures i (pos 0)

-- Where the loop stands: what has passed of the language, and the loads so far.
pub record Loading (s t : List ℕ) (fig : List ℤ) (p q : ℕ) : Type 0 where
  pub passed : List ℕ
  pub loads : Table
  pub split : places s ≡ passed ++ places_from s p
  pub within : q ≤ length t
  pub rest : loads_of (map (entry_at s) (places s)) (fields_of t) ≡ joined loads (loads_of (map (entry_at s) (places_from s p)) (fields_of (drop q t)))
  pub right : (x : ℕ) → Mem x passed → (field_end s x ≤ p) × (get_or s x 0 ≡ 0x12 → Loaded fig s loads x)
  pub whole : all (entry_whole s) (places_from s p) ≡ true
  pub small : Small fig
  pub long : length fig ≡ 1024

pub load_begin : (s t : List ℕ) (fig : List ℤ) → all (entry_whole s) (places s) ≡ true → Small fig → length fig ≡ 1024 → Loading s t fig 0 0
load_begin s t fig w n l = record {
  passed = [];
  loads = [];
  split = refl;
  within = omega arith;
  rest = sym (joined_first _);
  right = λ x m. absurd m;
  whole = w;
  small = n;
  long = l;
}

module _ (s t : List ℕ) (fig : List ℤ) (p q : ℕ) (v : Loading s t fig p q) (here : p < length s) where
  now_whole : entry_whole s p ≡ true
  now_whole = (every_here (entry_whole s) s p v.whole here).0

  next_places : places_from s p ≡ p ∷ places_from s (field_end s p)
  next_places = places_next s p here

  passed_next : places s ≡ (v.passed ++ (p ∷ [])) ++ places_from s (field_end s p)
  passed_next = v.split ∙ (ap (λ (l : List ℕ). v.passed ++ l) next_places ∙ sym (append_assoc v.passed (p ∷ []) (places_from s (field_end s p))))

  passed_rest : loads_of (map (entry_at s) (places s)) (fields_of t) ≡ joined v.loads (loads_of (entry_at s p ∷ map (entry_at s) (places_from s (field_end s p))) (fields_of (drop q t)))
  passed_rest = v.rest ∙ ap (λ (l : List ℕ). joined v.loads (loads_of (map (entry_at s) l) (fields_of (drop q t)))) next_places

  pub is_production : get_or s p 0 ≡ 0x12 → IsProduction s p
  is_production h = ⊎_elim (λ c. let g = c.tag in absurd (omega arith)) (λ c. c) (entry_facts s p now_whole)

  is_class : (get_or s p 0 ≡ 0x12 → ⊥) → IsClass s p
  is_class h = ⊎_elim (λ c. c) (λ c. absurd (h c.tag)) (entry_facts s p now_whole)

  -- What the code may ask of the entry at p.
  pub entry_in : (p + 5 ≤ field_end s p) × (field_end s p ≤ length s)
  unfolding field_end
  entry_in = ⊎_elim (λ c. (⊎_elim (λ n. omega arith) (λ n. omega arith) c.size, c.fits)) (λ c. (let n = c.two in omega arith, c.fits)) (entry_facts s p now_whole)

  pub load_class : (get_or s p 0 ≡ 0x12 → ⊥) → (e : ℕ) → e ≡ field_end s p → Loading s t fig e q
  load_class h e ee = rw ee (record {
    passed = v.passed ++ (p ∷ []);
    loads = v.loads;
    split = passed_next;
    within = v.within;
    rest =
        passed_rest
        ∙ (ap (λ (a : Entry). joined v.loads (loads_of (a ∷ map (entry_at s) (places_from s (field_end s p))) (fields_of (drop q t)))) (class_is s p (is_class h))
        ∙ ap (joined v.loads) (loads_class _ _ (map (entry_at s) (places_from s (field_end s p))) (fields_of (drop q t))));
    right = λ x m. ⊎_elim
        (λ y. let r = v.right x y in let i = entry_in in (omega (arith, r.0, i.0), r.1))
        (λ y. ⊎_elim (λ z. (rw z (omega arith), λ g. absurd (h (rw z at g)))) (λ z. absurd z) y)
        (append_cases x v.passed (p ∷ []) m);
    whole = every_after (entry_whole s) s p (field_end s p) refl v.whole here;
    small = v.small;
    long = v.long;
  })

  module _ (tag : get_or s p 0 ≡ 0x12) where
    pub load_broken : is_load s p t q ≡ false → loads_of (map (entry_at s) (places s)) (fields_of t) ≡ none
    unfolding joined
    load_broken z = passed_rest ∙ ap (joined v.loads) (loads_none s p (is_production tag) t q _ z)

    module _ (end : ℕ) (load_there : (is_load s p t q ≡ true) × WholeEnd t q end) where
      loaded : is_load s p t q ≡ true
      loaded = load_there.0

      ended : WholeEnd t q end
      ended = load_there.1

      load_size : pair_at t (q + 1) ≡ 2 * pair_at s (p + 1)
      unfolding is_load
      load_size =
          let a = (and_both (is_whole t q) _ loaded).1 in
          let b = (and_both (eqb (get_or t q 0) 0x24) _ a).1 in
          eqb-true _ _ (and_both (eqb (pair_at t (q + 1)) (2 * pair_at s (p + 1))) _ b).0

      load_whole : is_whole t q ≡ true
      unfolding is_load
      load_whole = (and_both (is_whole t q) _ loaded).0

      -- What `put_figures` asks.
      pub load_room : (q + 5 + 2 * (field_end s p - p - 4) ≤ length t) × (q + 3 ≤ length t) × (end ≤ length t)
      unfolding field_end
      load_room =
          let w = ended in
          let i = w.is in
          let f = w.fits in
          let n = load_size in
          let c = is_production tag in
          let two = c.two in
          (omega arith, omega arith, f)

      module _ (e : ℕ) (ee : e ≡ field_end s p) (more : List ℤ) (u : Put t (q + 5) fig more (p + 4) (e - p - 4)) where
        abbrev new_load : Load
        new_load = given s p (is_production tag) t q

        kept : (y : ℕ) → field_end s y ≤ p → Loaded fig s v.loads y → Loaded more s (v.loads ++ (new_load ∷ [])) y
        unfolding field_end
        kept y h l = record {
          figures = l.figures;
          there = mem_append _ v.loads (new_load ∷ []) (inl l.there);
          is = λ j g. u.below (y + 4 + j) (omega arith) ∙ l.is j g;
        }

        new : Loaded more s (v.loads ++ (new_load ∷ [])) p
        unfolding field_end
        new = record {
          figures = figures s p (is_production tag) t q;
          there = mem_append _ v.loads (new_load ∷ []) (inr (inl refl));
          is = λ j g.
              let k = kinds_long s p (is_production tag) t q in
              let n = load_size in
              u.put j (omega (arith, ee))
              ∙ (sym (contents_figure t q j load_whole (omega arith))
              ∙ sym (figures_get _ (contents_at t q) 2 j (omega (arith, k))));
        }

        pub load_next : Loading s t more e end
        load_next =
            let i = entry_in in
            rw ee (record {
              passed = v.passed ++ (p ∷ []);
              loads = v.loads ++ (new_load ∷ []);
              split = passed_next;
              within = ended.fits;
              rest =
                  passed_rest
                  ∙ (ap (joined v.loads) (loads_load s p (is_production tag) t q (map (entry_at s) (places_from s (field_end s p))) loaded end ended)
                  ∙ joined_next v.loads new_load _);
              right = λ y m. ⊎_elim
                  (λ z. let r = v.right y z in (omega (arith, r.0, i.0), λ g. kept y r.0 (r.1 g)))
                  (λ z. ⊎_elim (λ d. (rw d (omega arith), λ g. rw d new)) (λ d. absurd d) z)
                  (append_cases y v.passed (p ∷ []) m);
              whole = every_after (entry_whole s) s p (field_end s p) refl v.whole here;
              small = u.small v.small;
              long = u.long ∙ v.long;
            })

-- A table of a language that rises has one load for each production.
abbrev pub load_key : Load → ℕ
load_key (load r p fs) = production_key r p

load_key_lem : (r p n : ℕ) (f : Field) (a : Load) → load_of r p n f ≡ some a → load_key a ≡ production_key r p
unfolding load_of
load_key_lem r p n (Rattle.format_fields.specs.Fields.field tag c) a e =
    let u = cond_some (eqb tag 0x24 && (eqb (length c) (4 + 2 * n) && (eqb (get_or c 0 0) r && eqb (get_or c 1 0) p))) _ a e in
    ap load_key (sym u.1)

pub loads_rise : (l : Language) (fs : List Field) (w : Table) (n : ℕ) → From entry_key n l → loads_in l fs ≡ some w → From load_key n w
unfolding loads_in entry_key
loads_rise [] [] w n f e = rw (← some_inj e) tt
loads_rise [] (g ∷ fs) w n f e = none_some e
loads_rise (class k c ∷ l) fs w n f e = from_weaken load_key w (omega (arith, f.0)) (loads_rise l fs w (suc k) f.1 e)
loads_rise (production r p ks ∷ l) [] w n f e = none_some e
loads_rise (production r p ks ∷ l) (g ∷ fs) w n f e =
    let b = before_both (load_of r p (length ks) g) (loads_in l fs) w e in
    let k = load_key_lem r p (length ks) g b.one b.is_one in
    let m = loads_rise l fs b.more (suc (production_key r p)) f.1 b.is_more in
    rw (← b.is) (rw k f.0, rw k m)

figures_at_lem : (k p : ℕ) (fs : List ℤ) (a : Load) → figures_at k p a ≡ some fs → a ≡ load k p fs
unfolding figures_at
figures_at_lem k p fs (load r q gs) e =
    let u = cond_some (eqb r k && eqb q p) gs fs e in
    let v = and_both (eqb r k) (eqb q p) u.0 in
    λ i. load (eqb-true r k v.0 i) (eqb-true q p v.1 i) (u.1 i)

load_inj : {r p s q : ℕ} {fs gs : List ℤ} → load r p fs ≡ load s q gs → fs ≡ gs
load_inj e = cc

at_figures : (k p : ℕ) (fs : List ℤ) → figures_at k p (load k p fs) ≡ some fs
unfolding figures_at
at_figures k p fs = rw (eq-eqb k k refl, eq-eqb p p refl)

pub figures_found : (w : Table) → From load_key 0 w → (k p : ℕ) (fs : List ℤ) → Mem (load k p fs) w → (i : ℕ) → figure_of w k p i ≡ get_or fs i (pos 0)
unfolding figure_of
figures_found w rises k p fs m i =
    let e : first (figures_at k p) w ≡ some fs = mem_first (figures_at k p) w (load k p fs) fs m (at_figures k p fs)
    (λ a d n q. load_inj (from_agree load_key 0 w rises (load k p d) (load k p fs) (rw (figures_at_lem k p d a q) at n) m refl)) in
    ap (λ (o : Option (List ℤ)). get_or (Option.get_or o []) i (pos 0)) e

-- The returns.
module _ (s t : List ℕ) where
  entries_are : (l : Language) → entries_of s ≡ some l → map (entry_at s) (places s) ≡ l
  entries_are l e = (holds_entries s l e).entries

  pub broken_is : loads_of (map (entry_at s) (places s)) (fields_of t) ≡ none → (l : Language) → entries_of s ≡ some l → Err BrokenTable ≡ settled (table_of l t)
  unfolding table_of
  broken_is h l e = ap (λ (o : Option Table). settled (whole_table o)) (sym (rw (entries_are l e) at h))

  pub broken_kept : (fig : List ℤ) → loads_of (map (entry_at s) (places s)) (fields_of t) ≡ none
      → (l : Language) (w : Table) → entries_of s ≡ some l → loads_of l (fields_of t) ≡ some w → Kept fig s w
  broken_kept fig h l w e f = none_some (sym (rw (entries_are l e) at h) ∙ f)

  module _ (fig : List ℤ) (p q : ℕ) (v : Loading s t fig p q) (past : length s ≤ p) where
    all_rest : loads_of (map (entry_at s) (places s)) (fields_of t) ≡ joined v.loads (loads_of [] (fields_of (drop q t)))
    all_rest = v.rest ∙ ap (λ (l : List ℕ). joined v.loads (loads_of (map (entry_at s) l) (fields_of (drop q t)))) (places_done s p past)

    no_loads : (o : Option (List Field)) (g : Field) → loads_of [] (before (some g) o) ≡ none
    unfolding loads_in
    no_loads none g = refl
    no_loads (some fs) g = refl

    more_fields : q < length t → loads_of (map (entry_at s) (places s)) (fields_of t) ≡ none
    unfolding joined
    more_fields h =
        all_rest
        ∙ ap (joined v.loads)
        (by_test (leb (field_end t q) (length t))
        (λ k. ap (loads_of []) (fields_next t q h (leb-true _ _ k)) ∙ no_loads (fields_of (drop (field_end t q) t)) (field_at t q))
        (λ k. ap (loads_of []) (fields_cut t q h (leb-false _ _ k))))

    no_more : q ≡ length t → loads_of (map (entry_at s) (places s)) (fields_of t) ≡ some v.loads
    unfolding joined loads_in
    no_more h =
        all_rest
        ∙ (ap (λ (o : Option (List Field)). joined v.loads (loads_of [] o)) (fields_done t q (omega arith))
        ∙ ap some (append-nil v.loads))

    pub end_more : (q ≡ length t → ⊥) → loads_of (map (entry_at s) (places s)) (fields_of t) ≡ none
    end_more h = let m = v.within in more_fields (omega (arith, m, h))

    pub end_is : q ≡ length t → (l : Language) → entries_of s ≡ some l → Ok tt ≡ settled (table_of l t)
    unfolding table_of
    end_is h l e = ap (λ (o : Option Table). settled (whole_table o)) (sym (rw (entries_are l e) at (no_more h)))

    pub end_kept : q ≡ length t → RisingEntries s → (l : Language) (w : Table) → entries_of s ≡ some l → loads_of l (fields_of t) ≡ some w → Kept fig s w
    end_kept h r l w e f =
        let held = holds_entries s l e in
        let rises : Rising entry_key l = is_rising entry_key l (sym (rising_is s l held) ∙ r.rises) in
        let same : v.loads ≡ w = some_inj (sym (no_more h) ∙ (ap (λ (k : Language). loads_of k (fields_of t)) held.entries ∙ f)) in
        let m : places s ≡ v.passed = v.split ∙ (ap (λ (k : List ℕ). v.passed ++ k) (places_done s p past) ∙ append-nil v.passed) in
        record {
          small = v.small;
          long = v.long;
          is = λ x there tag i g.
              let (y, n, z) = any_mem (eqb x) (places s) there in
              let o : Mem x v.passed = rw (← m) (rw (eqb-true x y z) n) in
              let d = (v.right x o).1 tag in
              d.is i g ∙ sym (figures_found w (rise_of l (fields_of t) w rises f) (get_or s (x + 3) 0) (get_or s (x + 4) 0) d.figures (rw same at d.there) i);
        }
      where
        rise_of : (l : Language) (o : Option (List Field)) (w : Table) → From entry_key 0 l → loads_of l o ≡ some w → From load_key 0 w
        rise_of l none w h e = none_some e
        rise_of l (some fs) w h e = loads_rise l fs w 0 h e
