-- The table: what each part of it holds, and what a run may rely on.
use Prim.Native.Nat.{ℕ, zero, suc, ◌+◌, ◌-◌, ◌≤◌, ◌<◌}
use mathlib.Core.Path.{◌≡◌, refl, sym, ap, ◌∙◌}
use mathlib.Core.Bool.{true}
use mathlib.Core.List.{List, [], ◌∷◌}
use mathlib.Core.Option.{none, some}
use mathlib.Core.Logic.{⊎_elim}
use native.Mathlib.Omega.{arith}
use native.Mathlib.Numerals.{add-one}
use lib.ListN.{length, get_or, set, take, drop, length-drop}
use Rattle.format_fields.specs.Fields.{pair_at}
use Rattle.format_fields.specs.Lists.{is_some}
use Rattle.format_fields.proofs.Truth.{Mem, none_some, some_is}
use Rattle.format_language.specs.Inner.Entries.{entry_whole, IsProduction, Holds}
use Rattle.format_language.proofs.Facts.{entry_facts}
use Rattle.format_language.proofs.Holds.{holds_entries}
use Rattle.tree_reader.specs.Syntax.{write, code}
use Rattle.tree_reader.specs.Inner.Positions.{KindsIn}
use Rattle.tree_reader.specs.Typing.{Typed}
use Rattle.tree_reader.proofs.Indexed.{build_is}
use Rattle.tree_reader.proofs.Laws.{kinds_in}
use Rattle.tree_reader.proofs.Larger.{apart}
use Rattle.format_translation.specs.Translation.{Translation, mapping_of, mapped}
use Rattle.format_translation.specs.Running.{uses_of, clauses_of}
use Rattle.format_translation.specs.Inner.Items.{is_clause_tag, code_start}
use Rattle.format_translation.proofs.Fitting.{uses_are, fit_carries}
use Rattle.run_table.specs.Inner.Table.{Production, Clause, Ready, Held, Checked, index_entry, clause_entry}
use Rattle.run_table.proofs.Spans.{place_some, below_then, spans_kept}
use Rattle.run_table.proofs.Clauses.{code_at, whole, fits, body_rises, mem_place, place_mem, plain_start, numbered_start, numbered_found, clause_there, clause_found, clause_length}
use Rattle.format_fields.specs.Inner.Places.{field_end, places, key_at, slot_at}
use Rattle.tree_reader.specs.Inner.Index.{put_all, Built, Around, Indexed, range_before}
use Rattle.tree_reader.proofs.Placed.{puts_place, found}
use Rattle.tree_reader.proofs.Built.{get_below, get_in, get_past, built_indexed}
use Rattle.format_language.specs.Language.{Language, Range, arguments_of, production_key}
use Rattle.format_language.specs.LanguageFile.{entries_of}
use Rattle.run_table.specs.Inner.Filling.{target_index, Begun, Filled, Below, Beside, Hinted, AllSpanned, Itemed}
use lib.Seq.{slice, length-slice, ext_get_or, take-suc, set_split, length-take-le, get_or-take, get_or-drop}
use Rattle.format_fields.specs.Inner.Writing.{spliced}
use Rattle.format_fields.proofs.Splices.{opened, splice_splice, length_spliced}
use Rattle.run_table.specs.Inner.Stands.{Stands}

-- What is put in at a position, and what stands where then.
-- put_bytes
one_put : (o : List ℕ) (pos v : ℕ) → pos < length o → set o pos v ≡ spliced o pos (v ∷ [])
one_put o pos v h =
    let n : pos + 1 ≡ suc pos = add-one pos in
    set_split o pos v h ∙ rw (opened o pos (v ∷ []), n)

pub byte_put : (s o after : List ℕ) (a i v : ℕ) → after ≡ spliced o a (take i s) → i < length s → a + length s ≤ length o → v ≡ get_or s i 0
    → set after (a + i) v ≡ spliced o a (take (i + 1) s)
byte_put s o after a i v e h k ev =
    let n : i + 1 ≡ suc i = add-one i in
    let l : length (take i s) ≡ i = length-take-le i s (omega arith) in
    let room : a + length (take i s) ≤ length o = rw l (omega arith) in
    rw (n, take-suc s i 0 h, ← splice_splice o a (take i s) room (get_or s i 0 ∷ []), l, e, ev)
    (one_put (spliced o a (take i s)) (a + i) (get_or s i 0) (rw (length_spliced o a (take i s) room) (omega arith)))

-- place_of
pub place_is : (t : List ℕ) {k p a b key : ℕ} → a ≡ k → b ≡ p → key ≡ production_key a b → get_or t (8224 + key) 0 ≡ get_or (target_index t) (production_key k p) 0
place_is t {k} {p} ea eb ek = rw (ek, ea, eb) (sym (get_or-drop 8224 t (production_key k p) 0))

-- fill
module _ (s b t₁ t₂ t₃ : List ℕ) (long : length t₁ ≡ 26184) (short : length s ≤ 1024) (near : length b ≤ 4096) (e₂ : t₂ ≡ spliced t₁ 16448 s) (e₃ : t₃ ≡ spliced t₂ 17472 b) where
  room₁ : 16448 + length s ≤ length t₁
  room₁ = omega arith

  long₂ : length t₂ ≡ length t₁
  long₂ = ap length e₂ ∙ length_spliced t₁ 16448 s room₁

  room₂ : 17472 + length b ≤ length t₂
  room₂ = omega (arith, long₂)

  pub filled : Filled s b t₁ t₃
  filled = record {
    around = record {
      long = ap length e₃ ∙ (length_spliced t₂ 17472 b room₂ ∙ long₂);
      below = λ j h.
          ap (λ (t : List ℕ). get_or t j 0) e₃ ∙ (get_below t₂ 17472 b room₂ j (omega arith) ∙ (ap (λ (t : List ℕ). get_or t j 0) e₂ ∙ get_below t₁ 16448 s room₁ j h));
      past = λ j h.
          ap (λ (t : List ℕ). get_or t j 0) e₃ ∙ (get_past t₂ 17472 b room₂ j (omega arith) ∙ (ap (λ (t : List ℕ). get_or t j 0) e₂ ∙ get_past t₁ 16448 s room₁ j (omega arith)));
    };
    source = λ j h.
        ap (λ (t : List ℕ). get_or t (16448 + j) 0) e₃
        ∙ (get_below t₂ 17472 b room₂ (16448 + j) (omega arith) ∙ (ap (λ (t : List ℕ). get_or t (16448 + j) 0) e₂ ∙ get_in t₁ 16448 s room₁ j h));
    body = λ j h. ap (λ (t : List ℕ). get_or t (17472 + j) 0) e₃ ∙ get_in t₂ 17472 b room₂ j h;
  }

-- put_indexes
pub begun : (s g t u v : List ℕ) → length t ≡ 26184 → ((j : ℕ) → get_or t j 0 ≡ 0) → Built 0x11 s u 0 → Around t u 0 8224 → Built 0x11 g v 8224 → Around u v 8224 16448 → Begun s g v
begun s g t u v long clear first a second c = record {
  long = c.long ∙ (a.long ∙ long);
  source = record { zeros = first.zeros; long = first.long; zero = first.zero; is = λ j h. c.below (0 + j) (omega arith) ∙ first.is j h };
  target = second;
  hints = λ i. c.past (25664 + i) (omega arith) ∙ (a.past (25664 + i) (omega arith) ∙ clear (25664 + i));
}

-- The index of the target, as it stands in the table when the spans are put.
module _ (s g b t t₂ v y : List ℕ) (begins : Begun s g t) (w : Filled s b t t₂) (hinted : Hinted b t₂ v) (ranked : Beside v y) where
  pub ranked_long : length y ≡ 26184
  ranked_long = ranked.long ∙ (hinted.long ∙ (w.around.long ∙ begins.long))

  pub target_indexed : ((i : ℕ) → get_or g i 0 < 256) → length g ≤ 1024 → (l : Language) → entries_of g ≡ some l → Indexed (target_index y) g l
  target_indexed bytes short l e =
      let d = length-drop 8224 y in
      built_indexed g t (target_index y) 8224 begins.target (omega (arith, ranked_long))
      (λ j h. get_or-drop 8224 y j 0 ∙ (ranked.same (8224 + j) (omega arith) ∙ (hinted.same (8224 + j) (omega arith) ∙ w.around.below (8224 + j) (omega arith))))
      bytes short l e

-- The index of the source stays.
pub source_kept : (s g b t t₂ v y x u : List ℕ) → Begun s g t → Filled s b t t₂ → Hinted b t₂ v → Beside v y → Beside y x → Itemed b x u → Built 0x11 s u 0
source_kept s g b t t₂ v y x u begins w hinted ranked spanned o = record {
  zeros = begins.source.zeros;
  long = begins.source.long;
  zero = begins.source.zero;
  is = λ j h.
      o.around.below (0 + j) (omega arith)
      ∙ (spanned.same (0 + j) (omega arith)
      ∙ (ranked.same (0 + j) (omega arith) ∙ (hinted.same (0 + j) (omega arith) ∙ (w.around.below (0 + j) (omega arith) ∙ begins.source.is j h))));
}

-- Bytes stand where each of them does.
stands_each : (u : List ℕ) (at : ℕ) (v : List ℕ) → at + length v ≤ length u → ((j : ℕ) → j < length v → get_or u (at + j) 0 ≡ get_or v j 0) → Stands u at v
stands_each u at v h e =
    let d = length-drop at u in
    let l : length (take (length v) (drop at u)) ≡ length v = length-take-le (length v) (drop at u) (omega arith) in
    record {
      inside = h;
      bytes = ext_get_or 0 (take (length v) (drop at u)) v l
          (λ j i.
          let k : j < length v = rw l at i in
          get_or-take (length v) (drop at u) j 0 k ∙ (get_or-drop at u j 0 ∙ e j k));
    }

-- What stands at each place of a part.
part_get : (s : List ℕ) (p e : ℕ) (v : List ℕ) → slice p e s ≡ v → e ≤ length s → (j : ℕ) → j < length v → (p + j < e) × (get_or v j 0 ≡ get_or s (p + j) 0)
part_get s p e v h l j i =
    let n : length v ≡ e - p = ap length (sym h) ∙ length-slice p e s l in
    let k : p + j < e = omega arith in
    (k, ap (λ (w : List ℕ). get_or w j 0) (sym h) ∙ (get_or-drop p (take e s) j 0 ∙ get_or-take e s (p + j) 0 k))

no_range : (s : List ℕ) (place : ℕ) → range_before s place ≡ none → place ≡ 0
no_range s zero e = refl
no_range s (suc q) e = none_some (sym e)

some_range : (s : List ℕ) (place : ℕ) (c : Range) → range_before s place ≡ some c → 0 < place
some_range s zero c e = none_some e
some_range s (suc q) c e = omega arith

-- What a run may rely on, from what was put into the table.
module _ (s g b t t₂ v y x u : List ℕ) (f : Translation) (z : Checked s g b f) (begins : Begun s g t) (w : Filled s b t t₂) (hinted : Hinted b t₂ v)
    (ranked : Beside v y) (a : AllSpanned b y x f) (o : Itemed b x u) (source_bytes_lem : (i : ℕ) → get_or s i 0 < 256) (bytes : (i : ℕ) → get_or b i 0 < 256) where
  abbrev index : List ℕ
  index = put_all 0x11 s begins.source.zeros (places s)

  indexed : Indexed index s f.source
  indexed = build_is s begins.source.zeros source_bytes_lem z.pieces.source_short begins.source.long begins.source.zero f.source z.pieces.source refl

  behind : Below v x 0
  behind = below_then v y x 0 0 (omega arith) ranked a.below

  low : (j : ℕ) → j < 21568 → get_or x j 0 ≡ get_or t₂ j 0
  low j h = behind.same j (omega arith) ∙ hinted.same j (omega arith)

  high : (j : ℕ) → 16448 ≤ j → j < 21568 → get_or u j 0 ≡ get_or t₂ j 0
  high j h i = o.around.past j h ∙ low j i

  entry : (j : ℕ) → j < 8224 → get_or u j 0 ≡ get_or index j 0
  entry j h =
      let n : 0 + j ≡ j = omega arith in
      o.around.below j h ∙ (low j (omega arith) ∙ (w.around.below j (omega arith) ∙ (ap (λ (m : ℕ). get_or t m 0) (sym n) ∙ begins.source.is j h)))

  long : length u ≡ 26184
  long = o.around.long ∙ (behind.long ∙ (hinted.long ∙ (w.around.long ∙ begins.long)))

  source_at : (j : ℕ) → j < length s → get_or u (16448 + j) 0 ≡ get_or s j 0
  source_at j h = let l = z.pieces.source_short in high (16448 + j) (omega arith) (omega arith) ∙ w.source j h

  body_at : (j : ℕ) → j < length b → get_or u (17472 + j) 0 ≡ get_or b j 0
  body_at j h = let l = z.short in high (17472 + j) (omega arith) (omega arith) ∙ w.body j h

  module _ (k p : ℕ) (ks : List ℕ) (kind : k < 32) (byte : p < 256) (e : arguments_of f.source k p ≡ some ks) where
    held : Holds s f.source
    held = holds_entries s f.source z.pieces.source

    there : (q : ℕ) × (get_or index (production_key k p) 0 ≡ suc q) × (slice (q + 5) (field_end s q) s ≡ ks)
    there = place_some s (get_or index (production_key k p) 0) ks (sym (indexed.arguments k p kind byte) ∙ e)

    is_production : IsProduction s there.0
    unfolding key_at slot_at
    is_production =
        let at = puts_place 0x11 s (places s) begins.source.zeros (production_key k p) (omega (arith, begins.source.long)) (begins.source.zero (production_key k p)) in
        let more : 0 < get_or index (production_key k p) 0 = omega (arith, there.1) in
        let (q, is, key, good) = found 0x11 (entry_whole s) s (production_key k p) (places s) held.whole (rw at at more) in
        let same : q ≡ there.0 = omega (arith, is, at, there.1) in
        let y : IsProduction s q =
        ⊎_elim
        (λ c.
        let o : slot_at 0x11 s q ≡ get_or s (q + 3) 0 = cc c.tag in
        let l = c.kind in
        absurd (omega (arith, o, key, l)))
        (λ c. c)
        (entry_facts s q good) in
        rw same at y

    stop_is : suc there.0 + 2 + pair_at s (suc there.0) ≡ field_end s there.0
    unfolding field_end
    stop_is = let n : pair_at s (suc there.0) ≡ pair_at s (there.0 + 1) = ap (pair_at s) (omega arith) in omega arith

    kinds_there : KindsIn s (there.0 + 5) (field_end s there.0)
    kinds_there x i j =
        let pos : suc there.0 ≡ 0 → ⊥ = λ v. omega arith in
        kinds_in index s indexed.sound refl kind byte (sym there.1) pos refl x (omega arith) (omega (arith, stop_is))

    production_there : Production u (index_entry u (production_key k p)) ks
    unfolding field_end pair_at
    production_there =
        let q : ℕ = there.0 in
        let c = is_production in
        let at : get_or u (production_key k p) 0 ≡ q + 1 = entry (production_key k p) (omega arith) ∙ omega (arith, there.1) in
        let n : length ks ≡ field_end s q - (q + 5) = ap length (sym there.2) ∙ length-slice (q + 5) (field_end s q) s c.fits in
        let fits = c.fits in
        let two = c.two in
        let ten = c.ten in
        let one : get_or s (q + 1 + 1) 0 ≡ get_or s (q + 2) 0 = ap (λ (m : ℕ). get_or s m 0) (omega arith) in
        let here : get_or u (16448 + (q + 2)) 0 ≡ get_or s (q + 2) 0 = source_at (q + 2) (omega arith) in
        let there' : get_or u (16448 + (get_or u (production_key k p) 0 + 1)) 0 ≡ get_or u (16448 + (q + 2)) 0 = ap (λ (m : ℕ). get_or u (16448 + m) 0) (omega arith) in
        let five : get_or u (production_key k p) 0 + 4 ≡ q + 5 = omega arith in
        let short = z.pieces.source_short in
        record {
          count = omega (arith, there', here, one, n);
          kinds = record {
            inside = omega (arith, n);
            stands = rw five (stands_each u (16448 + (q + 5)) ks (omega (arith, n, long))
                (λ j i.
                let x = part_get s (q + 5) (field_end s q) ks there.2 c.fits j i in
                let m : 16448 + (q + 5) + j ≡ 16448 + (q + 5 + j) = omega arith in
                ap (λ (m : ℕ). get_or u m 0) m ∙ (source_at (q + 5 + j) (omega (arith, x.0)) ∙ sym x.1)));
            below = λ j i.
                let x = part_get s (q + 5) (field_end s q) ks there.2 c.fits j i in
                rw x.1 (kinds_there (q + 5 + j) (omega arith) x.0).1;
          };
          few = omega (arith, n);
        }

  -- The code of each clause, of any number.
  module _ (q : ℕ) (m : Mem q (places b)) (tag : is_clause_tag (get_or b q 0) ≡ true) where
    place_ready : Clause u (code_start b q) (code_at b f q)
    place_ready =
        let c = clause_there z bytes q m tag in
        let ends = c.field.ends in
        let n = clause_length b f q c in
        let short = z.short in
        record {
          inside = omega arith;
          stands = stands_each u (17472 + code_start b q) (write code (code_at b f q)) (omega (arith, n, long))
              (λ j i.
              let y = part_get b (code_start b q) (field_end b q) (write code (code_at b f q)) c.part ends j i in
              let m : 17472 + code_start b q + j ≡ 17472 + (code_start b q + j) = omega arith in
              ap (λ (m : ℕ). get_or u m 0) m ∙ (body_at (code_start b q + j) (omega (arith, y.0)) ∙ sym y.1));
          spans = spans_kept x u (code_at b f q) (code_start b q) (λ j i k. o.around.past (21568 + j) (omega arith)) (a.spans q (mem_place b q m) tag);
          within = c.within;
          narrow = λ i h j. let q : get_or u (17472 + i) 0 ≡ get_or b i 0 = body_at i (omega arith) in rw q (bytes i);
        }

  -- The same, under other names.
  clause_as : {c d k l p q i j : ℕ} → c ≡ d → k ≡ l → p ≡ q → i ≡ j → Clause u c (clauses_of f k p i) → Clause u d (clauses_of f l q j)
  clause_as e g h n y = rw (← e, ← g, ← h, ← n) y

  clause_ready : (k p : ℕ) (ks : List ℕ) → k < 32 → p < 256 → arguments_of f.source k p ≡ some ks → Clause u (clause_entry u (production_key k p) + 4) (clauses_of f k p 0)
  clause_ready k p ks kind byte e =
      let c = clause_found z x u o k p ks kind e in
      let n = plain_start b c.place c.tag in
      clause_as (omega (arith, n.0, c.is)) c.kind c.name n.1 (place_ready c.place (place_mem b c.place c.there) (rw c.tag))

  typed_there : (k p j : ℕ) (ks : List ℕ) → arguments_of f.source k p ≡ some ks → is_some (mapping_of f.body k j) ≡ true
      → Typed f.target (uses_of f k p) (clauses_of f k p j) (mapped f.body k j)
  unfolding mapped
  typed_there k p j ks e s =
      let (g, q) = some_is (mapping_of f.body k j) s in
      rw (uses_are f k p ks e, q) ((fit_carries f (body_rises z) (fits z)).nodes k p j g ks e q)

  body_held : Held u b f
  body_held = record {
    short = z.short;
    same = body_at;
    there = λ k p j ks h e s. numbered_found z k p j ks h e s;
    clause = λ q k p j c.
        let n = numbered_start b q c.tag in
        clause_as n.0 c.kind c.name (n.1 ∙ c.number) (place_ready q (place_mem b q c.place) (rw c.tag));
    whole = λ q m tag.
        let c = clause_there z bytes q (place_mem b q m) (rw tag) in
        let n = numbered_start b q tag in
        omega (arith, n.0, c.field.past, c.field.ends);
    hint = λ i k.
        let e : get_or u (25664 + i) 0 ≡ get_or v (25664 + i) 0 = o.around.past (25664 + i) (omega arith) ∙ behind.past (25664 + i) (omega arith) in
        rw e (hinted.hint i (rw e at k));
  }

  pub ready : Ready u f
  ready = record {
    long = long;
    class = λ k c h e. rw (entry k (omega arith)) (some_range s (get_or index k 0) c (sym (indexed.range k h) ∙ e));
    name = λ k p ks h e.
        entry k (omega arith) ∙ no_range s (get_or index k 0) (sym (indexed.range k h) ∙ apart f.source (whole z).0.source_apart k p ks e);
    production = λ k p ks h i e. production_there k p ks h i e;
    clause = clause_ready;
    typed = λ k p j ks h i e s. typed_there k p j ks e s;
    bytes = b;
    held = body_held;
  }
