-- The check of a term: a law for each return of its functions.
use Prim.Native.Nat.{ℕ, zero, suc, ◌+◌, ◌-◌, ◌<◌, ◌≤◌}
use mathlib.Core.Path.{◌≡◌, refl, sym, ap, ◌∙◌}
use mathlib.Core.Bool.{Bool, true, false, cond, not, ◌&&◌}
use mathlib.Core.List.{List, [], ◌∷◌}
use mathlib.Core.Option.{Option, none, some}
use Rattle.std.specs.Prelude.{Option as Found, Some, None, is_some, nat_eq, Err, Ok}
use Rattle.std.specs.Option.{option_eq}
use native.Mathlib.Omega.{arith}
use lib.ListN.{length, get_or, drop, length-map, drop_of_length-le}
use lib.Dec.{ltb, eqb}
use borrow.Author.Tests.{lt-ltb, le-ltb, le-leb, lt-leb, ltb-true, ltb-false, eq-eqb, ne_eqb, eqb-true, eqb-false}
use Rattle.format_fields.specs.Lists.{all, any, count_up}
use Rattle.outcome.specs.Outcome.{value, checked, Outcome}
use Rattle.outcome.specs.declared.Reason.TheVariants as Why
use Rattle.format_fields.proofs.Truth.{by_test, false_true, all_mem, mem_count}
use Rattle.format_fields.proofs.Split.{front, byte_drop}
use Rattle.format_pack.specs.Terms.{Term, translations, Parse, read_term, scoped}
use Rattle.format_pack.specs.Pack.{Pack, pack_of, whole_term, term_of}
use Rattle.format_pack.specs.Inner.Parts.{tagged, language_at, body_at}
use Rattle.format_pack.specs.Inner.Signs.{first_sign, has_number, sign_index, number_by_digit, firsts, seconds, first_operand, second_operand}
use Rattle.format_pack.specs.Inner.Reading.{next, after_number, in_scope, after, is_sign, after_sign, after_last, rest_at, EndsBy}
use Rattle.format_pack.specs.declared.signs.Sort as Signs
use Rattle.format_pack.specs.declared.signs.Sort.TheVariants.{Language, Translation}
use Rattle.format_pack.proofs.Levels.{rest, level_is}
use Rattle.format_pack.proofs.Standing.{accepted_parts}

-- sign_index
module _ (x : ℕ) where
  pub index_below : x < 0x40 → None ≡ sign_index x
  unfolding sign_index
  index_below h = cc (lt-ltb x 0x40 h)

  pub index_left : 0x40 ≤ x → x < 0x48 → {i : ℕ} → i ≡ x - 0x40 → Some i ≡ sign_index x
  unfolding sign_index
  index_left h k e = cc (le-ltb x 0x40 h, lt-ltb x 0x48 k)

  pub index_between : 0x48 ≤ x → x < 0x50 → None ≡ sign_index x
  unfolding sign_index
  index_between h k = let g : 0x40 ≤ x = omega arith in cc (le-ltb x 0x40 g, le-ltb x 0x48 h, lt-ltb x 0x50 k)

  pub index_right : 0x50 ≤ x → x < 0x58 → {i : ℕ} → i ≡ x - 0x48 → Some i ≡ sign_index x
  unfolding sign_index
  index_right h k e =
      let g : 0x40 ≤ x = omega arith in
      let f : 0x48 ≤ x = omega arith in
      cc (le-ltb x 0x40 g, le-ltb x 0x48 f, le-ltb x 0x50 h, lt-ltb x 0x58 k)

  pub index_above : 0x58 ≤ x → None ≡ sign_index x
  unfolding sign_index
  index_above h =
      let g : 0x40 ≤ x = omega arith in
      let f : 0x48 ≤ x = omega arith in
      let e : 0x50 ≤ x = omega arith in
      cc (le-ltb x 0x40 g, le-ltb x 0x48 f, le-ltb x 0x50 e, le-ltb x 0x58 h)

  -- A sign's index lies in a table.
  pub index_in : (i : ℕ) → sign_index x ≡ Some i → i < 16
  index_in i e =
      by_test (ltb x 0x48)
      (λ t. by_test (ltb x 0x40)
      (λ u. let d = index_below (ltb-true _ _ u) in cc)
      (λ u. let k = ltb-false x 0x40 u in let d = index_left k (ltb-true _ _ t) refl in let j : x - 0x40 ≡ i = cc in omega (arith, ltb-true _ _ t, j)))
      (λ t. by_test (ltb x 0x50)
      (λ u. let d = index_between (ltb-false x 0x48 t) (ltb-true _ _ u) in cc)
      (λ u. by_test (ltb x 0x58)
      (λ v. let d = index_right (ltb-false x 0x50 u) (ltb-true _ _ v) refl in let j : x - 0x48 ≡ i = cc in omega (arith, ltb-true _ _ v, j))
      (λ v. let d = index_above (ltb-false x 0x58 v) in cc)))

-- has_number: the formula, at every sign
abbrev alike : Bool → Bool → Bool
alike true b = b
alike false b = not b

alike_is : (a b : Bool) → alike a b ≡ true → a ≡ b
alike_is true b e = sym e
alike_is false false e = refl
alike_is false true e = false_true e

numbers_at : (x : ℕ) → x < 0x58 → is_some (sign_index x) && number_by_digit x ≡ has_number x
unfolding all count_up sign_index has_number any
numbers_at x h =
    alike_is (is_some (sign_index x) && number_by_digit x) (has_number x)
    (all_mem (λ k. alike (is_some (sign_index k) && number_by_digit k) (has_number k)) (count_up 0x58 0) refl x (mem_count 0x58 0 x (omega arith) (omega arith)))

no_number : (x : ℕ) → 0x58 ≤ x → has_number x ≡ false
unfolding has_number any
no_number x h =
    cc (
      ne_eqb x 0x40 (λ e. omega arith),
      ne_eqb x 0x41 (λ e. omega arith),
      ne_eqb x 0x46 (λ e. omega arith),
      ne_eqb x 0x47 (λ e. omega arith),
      ne_eqb x 0x50 (λ e. omega arith),
      ne_eqb x 0x51 (λ e. omega arith),
      ne_eqb x 0x56 (λ e. omega arith),
      ne_eqb x 0x57 (λ e. omega arith),
    )

numbers_all : (x : ℕ) → is_some (sign_index x) && number_by_digit x ≡ has_number x
numbers_all x =
    by_test (ltb x 0x58)
    (λ e. numbers_at x (ltb-true x 0x58 e))
    (λ e. rw (← index_above x (ltb-false x 0x58 e), no_number x (ltb-false x 0x58 e)) refl)

module _ (x : ℕ) {o : Found ℕ} (eo : o ≡ sign_index x) where
  pub number_none : is_some o ≡ false → false ≡ has_number x
  number_none h = rw (← eo, h) at (numbers_all x)

  pub number_is : is_some o ≡ true → number_by_digit x ≡ has_number x
  number_is h = rw (← eo, h) at (numbers_all x)

  pub first_none : o ≡ None → None ≡ first_operand x
  unfolding first_operand
  first_none h = rw (← eo, h) refl

  pub first_told : {i : ℕ} → o ≡ Some i → get_or firsts i None ≡ first_operand x
  unfolding first_operand
  first_told h = rw (← eo, h) refl

  pub second_none : o ≡ None → None ≡ second_operand x
  unfolding second_operand
  second_none h = rw (← eo, h) refl

  pub second_told : {i : ℕ} → o ≡ Some i → get_or seconds i None ≡ second_operand x
  unfolding second_operand
  second_told h = rw (← eo, h) refl

-- sign_end
module _ (l : ℕ) (sort : Signs.Sort) (s : List ℕ) (at : ℕ) where
  pub sign_past : length s ≤ at → none ≡ after_sign l sort (drop at s)
  unfolding after_sign
  sign_past h = rw (drop_of_length-le s h)

  module _ (here : at < length s) (x : ℕ) (ex : x ≡ get_or s at 0) where
    sign_is : after_sign l sort (drop at s)
        ≡ cond (is_sign sort x) (cond (has_number x && not (eqb x 0x50)) (after_number (cond (eqb x 0x40) l 16) (drop (at + 1) s)) (some (drop (at + 1) s))) none
    unfolding after_sign
    sign_is = rw (front s at here, ← ex)

    pub sign_low : x < first_sign sort → none ≡ after_sign l sort (drop at s)
    sign_low h = cc (sign_is, lt-leb (first_sign sort) x h)

    module _ (low : first_sign sort ≤ x) where
      pub sign_high : first_sign sort + 8 ≤ x → none ≡ after_sign l sort (drop at s)
      sign_high h = cc (sign_is, le-leb (first_sign sort) x low, le-ltb x (first_sign sort + 8) h)

      module _ (high : x < first_sign sort + 8) (t : Bool) (et : t ≡ has_number x) where
        pub sign_plain : t ≡ false → some (drop (at + 1) s) ≡ after_sign l sort (drop at s)
        sign_plain h = cc (sign_is, le-leb (first_sign sort) x low, lt-ltb x (first_sign sort + 8) high)

        module _ (has : t ≡ true) where
          pub sign_make : x ≡ 0x50 → some (drop (at + 1) s) ≡ after_sign l sort (drop at s)
          sign_make h = cc (sign_is, le-leb (first_sign sort) x low, lt-ltb x (first_sign sort + 8) high, eq-eqb x 0x50 h)

          module _ (first : x ≡ 0x50 → ⊥) where
            pub sign_constant : x ≡ 0x40 → after_number l (drop (at + 1) s) ≡ after_sign l sort (drop at s)
            sign_constant h = cc (sign_is, le-leb (first_sign sort) x low, lt-ltb x (first_sign sort + 8) high, ne_eqb x 0x50 first, eq-eqb x 0x40 h)

            pub sign_variable : (x ≡ 0x40 → ⊥) → after_number 16 (drop (at + 1) s) ≡ after_sign l sort (drop at s)
            sign_variable h = cc (sign_is, le-leb (first_sign sort) x low, lt-ltb x (first_sign sort + 8) high, ne_eqb x 0x50 first, ne_eqb x 0x40 h)

-- last_end
module _ (b x : ℕ) (u : List ℕ) where
  pub last_number : x ≡ 0x50 → after_number b u ≡ after_last b x u
  unfolding after_last
  last_number h = cc (eq-eqb x 0x50 h)

  pub last_none : (x ≡ 0x50 → ⊥) → some u ≡ after_last b x u
  unfolding after_last
  last_none h = cc (ne_eqb x 0x50 h)

-- term_end
pub term_none : (l b n : ℕ) (s : List ℕ) (at : ℕ) {o : Found Signs.Sort} → o ≡ None → some (drop at s) ≡ after l b n o (drop at s)
unfolding after
term_none l b n s at h = rw h refl

module _ (l b n : ℕ) (s : List ℕ) (at : ℕ) {o : Found Signs.Sort} {sort : Signs.Sort} (is : o ≡ Some sort) where
  pub term_deep : n ≡ 0 → none ≡ after l b n o (drop at s)
  unfolding after read_term
  term_deep h = rw is (go n sort h)
    where
      go : (m : ℕ) (c : Signs.Sort) → m ≡ 0 → none ≡ after l b m (Some c) (drop at s)
      go zero Language e = refl
      go zero Translation e = refl
      go (suc m) c e = absurd (omega arith)

  module _ (more : n ≡ 0 → ⊥) (x : ℕ) (ex : x ≡ get_or s at 0) where
    level : after l b n o (drop at s) ≡ rest l b (n - 1) x (after_sign l sort (drop at s))
    level =
        let e : suc (n - 1) ≡ n = below n more in
        let d : get_or (drop at s) 0 0 ≡ x = byte_drop s at 0 at (omega arith) ∙ sym ex in
        ap (λ (u : Found Signs.Sort). after l b n u (drop at s)) is
        ∙ (ap (λ (m : ℕ). after l b m (Some sort) (drop at s)) (sym e)
        ∙ (level_is l b (n - 1) sort (drop at s) ∙ ap (λ (y : ℕ). rest l b (n - 1) y (after_sign l sort (drop at s))) d))
      where
        below : (n : ℕ) → (n ≡ 0 → ⊥) → suc (n - 1) ≡ n
        below n h = omega arith

    module _ {r : Found ℕ} (er : rest_at s r ≡ after_sign l sort (drop at s)) where
      pub term_sign : r ≡ None → none ≡ after l b n o (drop at s)
      term_sign h = cc level

      module _ {a : ℕ} (ea : r ≡ Some a) {f : Found Signs.Sort} (ef : f ≡ first_operand x) (q : Found ℕ) (eq : rest_at s q ≡ after l b (n - 1) f (drop a s)) where
        level_2 : after l b n o (drop at s) ≡ next (rest_at s q) λ v. next (after l b (n - 1) (second_operand x) v) (after_last b x)
        level_2 = level ∙ rw (← er, ea, eq, ef)

        pub term_first : q ≡ None → none ≡ after l b n o (drop at s)
        term_first h = sym (level_2 ∙ rw h)

        module _ {c : ℕ} (ec : q ≡ Some c) {g : Found Signs.Sort} (eg : g ≡ second_operand x) (z : Found ℕ) (ez : rest_at s z ≡ after l b (n - 1) g (drop c s)) where
          level_3 : after l b n o (drop at s) ≡ next (rest_at s z) (after_last b x)
          level_3 = level_2 ∙ rw (ec, ez, eg)

          pub term_second : z ≡ None → none ≡ after l b n o (drop at s)
          term_second h = sym (level_3 ∙ rw h)

          pub term_whole : {d : ℕ} → z ≡ Some d → {u : Option (List ℕ)} → u ≡ after_last b x (drop d s) → u ≡ after l b n o (drop at s)
          term_whole ed e = e ∙ sym (level_3 ∙ rw ed)

-- check_term
abbrev finish : Option (List ℕ) → Outcome
finish none = Err Why.IllegalTerm
finish (some []) = Ok 0
finish (some (x ∷ s)) = Err Why.IllegalTerm

whole_finish : (l b : ℕ) (o : Parse (Term translations)) → checked (whole_term l b o) ≡ finish (in_scope l b o)
whole_finish l b none = refl
whole_finish l b (some p) = go p.0 p.1 (scoped l b p.0) refl
  where
    go : (t : Term translations) (u : List ℕ) (z : Bool) → scoped l b t ≡ z
        → checked (whole_term l b (some (t, u))) ≡ finish (cond (scoped l b t) (some u) none)
    go t [] true e = rw e
    go t [] false e = rw e
    go t (x ∷ u) true e = rw e
    go t (x ∷ u) false e = rw e

module _ (s : List ℕ) (p : Pack) (e : pack_of s ≡ value p) (start l b : ℕ) (es : drop start s ≡ p.term)
    (el : l ≡ length (tagged 0x30 s)) (eb : b ≡ length (tagged 0x31 s)) (r : Found ℕ)
    (er : rest_at s r ≡ after l b 12 (Some Translation) (drop start s)) (by : EndsBy (length s) r) where
  term_finish : checked (term_of p) ≡ finish (rest_at s r)
  unfolding term_of after
  term_finish =
      let h = accepted_parts s p e in
      let m : length p.languages ≡ l = ap length (sym h.languages) ∙ (length-map (tagged 0x30 s) (language_at s) ∙ sym el) in
      let n : length p.bodies ≡ b = ap length (sym h.bodies) ∙ (length-map (tagged 0x31 s) (body_at s) ∙ sym eb) in
      whole_finish (length p.languages) (length p.bodies) (read_term 12 translations p.term)
      ∙ rw (m, n, ← es) (ap finish (sym er))

  -- A term that does not end with the bytes is refused.
  pub term_refused : not (option_eq nat_eq r (Some (length s))) ≡ true → {o : Outcome} → o ≡ Err Why.IllegalTerm → o ≡ checked (term_of p)
  term_refused h i = i ∙ sym (term_finish ∙ go r by h)
    where
      go : (x : Found ℕ) → EndsBy (length s) x → not (option_eq nat_eq x (Some (length s))) ≡ true → finish (rest_at s x) ≡ Err Why.IllegalTerm
      go None w n = refl
      go (Some a) w n =
          by_test (eqb a (length s))
          (λ e. false_true (rw e at n))
          (λ e. rw (front s a (omega (arith, w, eqb-false a (length s) e))))

  pub term_accepted : not (option_eq nat_eq r (Some (length s))) ≡ false → {o : Outcome} → o ≡ Ok 0 → o ≡ checked (term_of p)
  term_accepted h i = i ∙ sym (term_finish ∙ go r h)
    where
      go : (x : Found ℕ) → not (option_eq nat_eq x (Some (length s))) ≡ false → finish (rest_at s x) ≡ Ok 0
      go None n = false_true (sym n)
      go (Some a) n =
          by_test (eqb a (length s))
          (λ e. rw (drop_of_length-le s {i = a} (omega (arith, eqb-true a (length s) e))))
          (λ e. false_true (sym (rw e at n)))
