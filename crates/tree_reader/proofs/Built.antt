-- An index that stands in a table: how it comes there, and what is looked up in it.
use Prim.Native.Nat.{ℕ, ◌+◌, ◌-◌, ◌<◌, ◌≤◌}
use mathlib.Core.Path.{◌≡◌, refl, sym, ap, ◌∙◌}
use mathlib.Core.List.{List, ◌++◌}
use mathlib.Core.Option.{some}
use native.Mathlib.Omega.{arith}
use lib.ListN.{length, get_or, take, drop, length-take, length-drop, get_or-append, get_or-eq_default}
use lib.Seq.{drop-drop, length-take-le, get_or-take, get_or-drop, get_or-append-add}
use lib.Dec.{ltb}
use borrow.Author.Tests.{ltb-true, ltb-false}
use Rattle.format_fields.specs.Inner.Places.{places}
use Rattle.format_fields.specs.Inner.Writing.{spliced}
use Rattle.format_fields.proofs.Truth.{by_test}
use Rattle.format_fields.proofs.Splices.{opened, length_spliced}
use Rattle.format_language.specs.Language.{Language, production_key}
use Rattle.format_language.specs.LanguageFile.{entries_of}
use Rattle.tree_reader.specs.Inner.Index.{put_all, Built, Around, Sound, Indexed}
use Rattle.tree_reader.proofs.Placed.{puts_length}
use Rattle.tree_reader.proofs.Indexed.{build_is}

-- What stands at each place after v was put in at pos.
module _ (o : List ℕ) (pos : ℕ) (v : List ℕ) (fits : pos + length v ≤ length o) where
  front_long : length (take pos o) ≡ pos
  front_long = length-take-le pos o (omega arith)

  pub get_below : (j : ℕ) → j < pos → get_or (spliced o pos v) j 0 ≡ get_or o j 0
  get_below j h =
      rw (opened o pos v)
      (get_or-append (take pos o) (v ++ drop (pos + length v) o) 0 j (rw front_long h) ∙ get_or-take pos o j 0 h)

  get_from : (j : ℕ) → get_or (spliced o pos v) (pos + j) 0 ≡ get_or (v ++ drop (pos + length v) o) j 0
  get_from j =
      rw (opened o pos v)
      (ap (λ (n : ℕ). get_or (take pos o ++ (v ++ drop (pos + length v) o)) (n + j) 0) (sym front_long) ∙ get_or-append-add (take pos o) (v ++ drop (pos + length v) o) j 0)

  pub get_in : (j : ℕ) → j < length v → get_or (spliced o pos v) (pos + j) 0 ≡ get_or v j 0
  get_in j h = get_from j ∙ get_or-append v (drop (pos + length v) o) 0 j h

  pub get_past : (j : ℕ) → pos + length v ≤ j → get_or (spliced o pos v) j 0 ≡ get_or o j 0
  get_past j h =
      let m : ℕ = j - (pos + length v) in
      let e : j ≡ pos + (length v + m) = omega arith in
      let d : pos + length v + m ≡ j = omega arith in
      ap (λ (n : ℕ). get_or (spliced o pos v) n 0) e
      ∙ (get_from (length v + m) ∙ (get_or-append-add v (drop (pos + length v) o) m 0 ∙ (get_or-drop (pos + length v) o m 0 ∙ ap (λ (n : ℕ). get_or o n 0) d)))

-- The front of a table that is zero there.
pub front_zero : (o : List ℕ) → ((j : ℕ) → j < 8224 → get_or o j 0 ≡ 0) → (j : ℕ) → get_or (take 8224 o) j 0 ≡ 0
front_zero o h j =
    by_test (ltb j 8224)
    (λ e.
    let i : j < 8224 = ltb-true _ _ e in
    get_or-take 8224 o j 0 i ∙ h j i)
    (λ e.
    let i : 8224 ≤ j = ltb-false _ _ e in
    let l = length-take 8224 o in
    get_or-eq_default (take 8224 o) 0 (omega arith))

-- put_index
index_put : (first : ℕ) (s o : List ℕ) (a k : ℕ) (v w : List ℕ) → a + 8224 ≤ length o → k ≡ 8224 → w ≡ take k (drop a o) → v ≡ put_all first s w (places s)
    → take a o ++ (v ++ drop k (drop a o)) ≡ spliced o a (put_all first s (take 8224 (drop a o)) (places s))
index_put first s o a k v w h ek ew ev =
    let d = length-drop a o in
    let l : length (put_all first s (take 8224 (drop a o)) (places s)) ≡ 8224 =
    puts_length first s (places s) (take 8224 (drop a o)) ∙ length-take-le 8224 (drop a o) (omega arith) in
    rw (ev, ew, ek, opened o a (put_all first s (take 8224 (drop a o)) (places s)), l, drop-drop 8224 a o)

pub sub_self : (a : ℕ) → a + 8224 - a ≡ 8224
sub_self a = omega arith

-- The index stands where it was put, and all else stays.
module _ (first : ℕ) (s o : List ℕ) (a k : ℕ) (v w : List ℕ) (fits : a + 8224 ≤ length o) (ek : k ≡ 8224) (ew : w ≡ take k (drop a o))
    (ev : v ≡ put_all first s w (places s)) where
  abbrev zeros : List ℕ
  zeros = take 8224 (drop a o)

  abbrev index : List ℕ
  index = put_all first s zeros (places s)

  zeros_long : length zeros ≡ 8224
  zeros_long = let d = length-drop a o in length-take-le 8224 (drop a o) (omega arith)

  index_long : length index ≡ 8224
  index_long = puts_length first s (places s) zeros ∙ zeros_long

  room : a + length index ≤ length o
  room = omega (arith, index_long)

  is_spliced : take a o ++ (v ++ drop k (drop a o)) ≡ spliced o a index
  is_spliced = index_put first s o a k v w fits ek ew ev

  pub put_built : ((j : ℕ) → j < 8224 → get_or o (a + j) 0 ≡ 0) → Built first s (take a o ++ (v ++ drop k (drop a o))) a
  put_built clear = record {
    zeros = zeros;
    long = zeros_long;
    zero = front_zero (drop a o) (λ j h. get_or-drop a o j 0 ∙ clear j h);
    is = λ j h. rw is_spliced (get_in o a index room j (omega (arith, index_long)));
  }

  pub put_around : Around o (take a o ++ (v ++ drop k (drop a o))) a (a + 8224)
  put_around = record {
    long = rw is_spliced (length_spliced o a index room);
    below = λ j h. rw is_spliced (get_below o a index room j h);
    past = λ j h. rw is_spliced (get_past o a index room j (omega (arith, index_long)));
  }

-- What is looked up in a longer table is what stands in its front.
module _ (index table s : List ℕ) (long : 8224 ≤ length table) (same : (j : ℕ) → j < 8224 → get_or table j 0 ≡ get_or index j 0) where
  pub sound_front : Sound index s → Sound table s
  sound_front z = record {
    long = long;
    short = z.short;
    class = λ k h q. rw (same k (omega arith)) (z.class k h (rw (same k (omega arith)) at q));
    name = λ k p h j q. rw (same (production_key k p) (omega arith)) (z.name k p h j (rw (same (production_key k p) (omega arith)) at q));
    operands = λ k p h j q. rw (same (production_key k p) (omega arith)) (z.operands k p h j (rw (same (production_key k p) (omega arith)) at q));
  }

  pub indexed_front : (l : Language) → Indexed index s l → Indexed table s l
  indexed_front l z = record {
    sound = sound_front z.sound;
    entries = z.entries;
    range = λ k h. rw (same k (omega arith)) (z.range k h);
    arguments = λ k p h j. rw (same (production_key k p) (omega arith)) (z.arguments k p h j);
  }

-- What is looked up in a part of a table in which the index stands.
pub built_indexed : (s t part : List ℕ) (a : ℕ) → Built 0x11 s t a → 8224 ≤ length part → ((j : ℕ) → j < 8224 → get_or part j 0 ≡ get_or t (a + j) 0)
    → ((i : ℕ) → get_or s i 0 < 256) → length s ≤ 1024 → (l : Language) → entries_of s ≡ some l → Indexed part s l
built_indexed s t part a w long same bytes short l e =
    indexed_front (put_all 0x11 s w.zeros (places s)) part s long (λ j h. same j h ∙ w.is j h) l
    (build_is s w.zeros bytes short w.long w.zero l e refl)

-- An index stays where what is written stands behind it.
pub built_below : (first : ℕ) (s t u : List ℕ) (a b e : ℕ) → Built first s t a → Around t u b e → a + 8224 ≤ b → Built first s u a
built_below first s t u a b e w k h = record {
  zeros = w.zeros;
  long = w.long;
  zero = w.zero;
  is = λ j i. k.below (a + j) (omega arith) ∙ w.is j i;
}

-- The second part of a table of zeros is still zero after the first index.
pub zero_behind : (t u : List ℕ) → ((j : ℕ) → get_or t j 0 ≡ 0) → Around t u 0 8224 → (j : ℕ) → j < 8224 → get_or u (8224 + j) 0 ≡ 0
zero_behind t u z k j h = k.past (8224 + j) (omega arith) ∙ z (8224 + j)
