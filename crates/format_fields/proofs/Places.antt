-- The walk by places, a turn at a time, and the passes of the code that go by it.
use Rattle.std.specs.Prelude.{Some, None}
use Prim.Native.Nat.{ℕ, zero, suc, ◌+◌, ◌-◌, ◌<◌, ◌≤◌}
use mathlib.Core.Path.{◌≡◌, refl, sym, ap, ◌∙◌}
use mathlib.Core.Bool.{Bool, true, false, ◌&&◌}
use mathlib.Core.List.{List, [], ◌∷◌}
use native.Mathlib.Omega.{arith}
use lib.ListN.{length, get_or}
use lib.Dec.{leb}
use borrow.Author.Tests.{le-leb, lt-leb, leb-true, leb-false, ltb-true}
use Rattle.format_fields.specs.Lists.{all, any}
use Rattle.format_fields.specs.Fields.{pair_at}
use Rattle.format_fields.specs.Inner.Places.{field_end, is_whole, WholeEnd, EndIfWhole, long_at, places_in, places_from, tags_ordered}
use Rattle.format_fields.proofs.Truth.{by_test}
use Rattle.format_fields.proofs.Lists.{all_stop, all_next, all_true, any_stop, any_next}

-- A field's end lies past its place.
pub end_past : (s : List ℕ) (p : ℕ) → p + 3 ≤ field_end s p
unfolding field_end
end_past s p = omega arith

-- A turn of the walk, by fuel.
module _ (s : List ℕ) (p : ℕ) where
  pub in_done : (f : ℕ) → length s ≤ p → places_in (suc f) s p ≡ []
  unfolding places_in
  in_done f h = cc (le-leb (length s) p h)

  pub in_next : (f : ℕ) → p < length s → places_in (suc f) s p ≡ p ∷ places_in f s (field_end s p)
  unfolding places_in
  in_next f h = cc (lt-leb (length s) p h)

-- Past the end there is no place, whatever the fuel.
pub in_past : (f : ℕ) (s : List ℕ) (p : ℕ) → length s ≤ p → places_in f s p ≡ []
unfolding places_in
in_past zero s p h = refl
in_past (suc f) s p h = in_done s p f h

-- More fuel than bytes that are left is enough.
pub enough : (f g : ℕ) (s : List ℕ) (p : ℕ) → length s - p < f → length s - p < g → places_in f s p ≡ places_in g s p
enough zero g s p h k = absurd (omega arith)
enough (suc f) zero s p h k = absurd (omega arith)
enough (suc f) (suc g) s p h k =
    by_test (leb (length s) p)
    (λ e. let d : length s ≤ p = leb-true _ _ e in in_done s p f d ∙ sym (in_done s p g d))
    (λ e.
    let d : p < length s = leb-false _ _ e in
    let m : length s - field_end s p < f = omega (arith, end_past s p) in
    let n : length s - field_end s p < g = omega (arith, end_past s p) in
    in_next s p f d ∙ (ap (λ (l : List ℕ). p ∷ l) (enough f g s (field_end s p) m n) ∙ sym (in_next s p g d)))

-- A turn of the walk: at the end of the file, and at a field.
module _ (s : List ℕ) (p : ℕ) where
  pub places_done : length s ≤ p → places_from s p ≡ []
  unfolding places_from
  places_done h = in_done s p (length s) h

  pub places_next : p < length s → places_from s p ≡ p ∷ places_from s (field_end s p)
  unfolding places_from
  places_next h =
      let m : length s - field_end s p < length s = omega (arith, end_past s p) in
      let n : length s - field_end s p < suc (length s) = omega (arith, end_past s p) in
      in_next s p (length s) h ∙ ap (λ (l : List ℕ). p ∷ l) (enough (length s) (suc (length s)) s (field_end s p) m n)

-- A pass of the code over the places, that comes to x in all: at the end of the file, and at a field.
module _ {X : Type 0} (pass : List ℕ → X) (s : List ℕ) (p : ℕ) (x : X) (inv : pass (places_from s p) ≡ x) where
  pub pass_done : length s ≤ p → pass [] ≡ x
  pass_done h = rw (places_done s p h) at inv

  pub pass_next : (end : ℕ) → p < length s → end ≡ field_end s p → pass (p ∷ places_from s end) ≡ x
  pass_next end h e = rw e (rw (places_next s p h) at inv)

-- A pass that asks whether every place passes the test f, and one that asks whether some place does.
module _ (f : ℕ → Bool) (s : List ℕ) (p : ℕ) (x : Bool) where
  module _ (inv : all f (places_from s p) ≡ x) where
    pub every_done : length s ≤ p → true ≡ x
    unfolding all
    every_done h = pass_done (all f) s p x inv h

    module _ (b : Bool) (eb : b ≡ f p) (end : ℕ) (ee : end ≡ field_end s p) (here : p < length s) where
      pub every_stop : b ≡ false → false ≡ x
      every_stop h = all_stop f p _ (pass_next (all f) s p x inv end here ee) (sym eb ∙ h)

      pub every_next : b ≡ true → all f (places_from s end) ≡ x
      every_next h = all_next f p _ (pass_next (all f) s p x inv end here ee) (sym eb ∙ h)

  module _ (inv : any f (places_from s p) ≡ x) where
    pub some_done : length s ≤ p → false ≡ x
    unfolding any
    some_done h = pass_done (any f) s p x inv h

    module _ (b : Bool) (eb : b ≡ f p) (end : ℕ) (ee : end ≡ field_end s p) (here : p < length s) where
      pub some_stop : b ≡ true → true ≡ x
      some_stop h = any_stop f p _ (pass_next (any f) s p x inv end here ee) (sym eb ∙ h)

      pub some_next : b ≡ false → any f (places_from s end) ≡ x
      some_next h = any_next f p _ (pass_next (any f) s p x inv end here ee) (sym eb ∙ h)

-- A pass that asks whether every place passes the test, and whether the tags are in order.
module _ (test : ℕ → Bool) (s : List ℕ) (last p : ℕ) (x : Bool) (inv : tags_ordered test s last (places_from s p) ≡ x) where
  pub ordered_done : length s ≤ p → true ≡ x
  unfolding tags_ordered
  ordered_done h = pass_done (tags_ordered test s last) s p x inv h

  module _ (b : Bool) (eb : b ≡ test p) (end : ℕ) (ee : end ≡ field_end s p) (here : p < length s) where
    turn : ((b && leb last (get_or s p 0)) && tags_ordered test s (get_or s p 0) (places_from s end)) ≡ x
    unfolding tags_ordered
    turn = rw eb (pass_next (tags_ordered test s last) s p x inv end here ee)

    pub ordered_stop : b ≡ false → false ≡ x
    ordered_stop h = rw h at turn

    module _ (good : b ≡ true) (tag : ℕ) (et : tag ≡ get_or s p 0) where
      pub ordered_falls : tag < last → false ≡ x
      ordered_falls h = rw (good, ← et, lt-leb last tag h) at turn

      pub ordered_next : last ≤ tag → tags_ordered test s tag (places_from s end) ≡ x
      ordered_next h = rw (good, ← et, le-leb last tag h) at turn

-- Where every place from p on passes, the one at p does, and every further one.
pub every_here : (f : ℕ → Bool) (s : List ℕ) (p : ℕ) → all f (places_from s p) ≡ true → p < length s
    → (f p ≡ true) × (all f (places_from s (field_end s p)) ≡ true)
every_here f s p inv here = all_true f p _ (pass_next (all f) s p true inv (field_end s p) here refl)

-- What holds at every place from p on holds at every place after p.
pub every_after : (f : ℕ → Bool) (s : List ℕ) (p e : ℕ) → e ≡ field_end s p → all f (places_from s p) ≡ true → p < length s
    → all f (places_from s e) ≡ true
every_after f s p e ee inv here = rw ee (every_here f s p inv here).1

-- The field at p: whole, or cut off.
module _ (s : List ℕ) (p : ℕ) where
  pub whole_end : is_whole s p ≡ true → (e : ℕ) → e ≡ field_end s p → WholeEnd s p e
  unfolding is_whole
  whole_end w e ee = record { is = ee; past = rw ee (end_past s p); fits = rw ee (leb-true _ _ w) }

  pub end_whole : (e : ℕ) → WholeEnd s p e → is_whole s p ≡ true
  unfolding is_whole
  end_whole e w = le-leb _ _ (rw w.is at w.fits)

  pub head_there : is_whole s p ≡ true → p + 2 < length s
  head_there w = let d = whole_end w (field_end s p) refl in omega (arith, d.past, d.fits)

  -- The length of the contents, of the field's end.
  pub size_of : (e : ℕ) → e ≡ field_end s p → e - p - 3 ≡ pair_at s (p + 1)
  unfolding field_end
  size_of e h = omega arith

  -- The first five bytes are there.
  pub long_here : long_at s p ≡ true → p + 4 < length s
  unfolding long_at
  long_here h = ltb-true _ _ h

  -- end_if_whole
  pub cut_head : length s < p + 3 → EndIfWhole s p None
  unfolding is_whole
  cut_head h =
      let k : length s < field_end s p = omega (arith, end_past s p) in
      record { cut = λ z. lt-leb _ _ k; whole = λ e z. let w : ◌≡◌ {A = ℕ} 0 1 = cc in absurd (omega arith) }

  module _ (e : ℕ) (ee : e ≡ field_end s p) where
    pub cut_end : length s < e → EndIfWhole s p None
    unfolding is_whole
    cut_end h = record { cut = λ z. lt-leb _ _ (rw ee at h); whole = λ e z. let w : ◌≡◌ {A = ℕ} 0 1 = cc in absurd (omega arith) }

    pub end_inside : e ≤ length s → EndIfWhole s p (Some e)
    end_inside h = record {
      cut = λ z. let w : ◌≡◌ {A = ℕ} 0 1 = cc in absurd (omega arith);
      whole = λ k z. let d : k ≡ e = cc in record { is = d ∙ ee; past = omega (arith, d, ee, end_past s p); fits = rw d h };
    }
