-- A law for each return and each turn of `is_card`, `contents` and `read_card`.
use Prim.Native.Nat.{ℕ, suc, ◌+◌, ◌-◌, ◌^◌, ◌<◌, ◌≤◌}
use mathlib.Core.Path.{◌≡◌, refl, sym, ap, ◌∙◌, subst}
use mathlib.Core.Bool.{Bool, true, false, cond, not, ◌&&◌, ◌||◌}
use mathlib.Core.List.{List, [], ◌∷◌}
use mathlib.Core.Option.{Option, none, some}
use native.Mathlib.Omega.{arith}
use lib.ListN.{length, get_or, take, drop, length-drop, drop_of_length-le}
use lib.Seq.{take_all}
use lib.Dec.{eqb, leb, ltb}
use lib.Pow.{pow_mono, pow_pos}
use borrow.Author.Tests.{eq-eqb, ne_eqb, lt-ltb, le-ltb, le-leb, lt-leb, ltb-true, ltb-false, leb-true, leb-false, eqb-true}
use Rattle.format_fields.specs.Fields.{Field, pair_at, fields_of}
use Rattle.format_fields.specs.Inner.Places.{field_end, field_at}
use Rattle.format_fields.specs.Lists.{all, any, before}
use Rattle.format_fields.specs.Keyed.{rising_from, rising}
use Rattle.format_fields.proofs.Truth.{false_true, by_test, and_both}
use Rattle.format_fields.proofs.Split.{front, fields_done, fields_next, fields_cut}
use Rattle.outcome.specs.Outcome.{Result, value, refused, refuse_if, Outcome}
use Rattle.std.specs.Prelude.{Ok, Err}
use Rattle.outcome.specs.declared.Reason.{Reason}
use Rattle.outcome.specs.declared.Reason.TheVariants.{BrokenField, OutOfOrder}
use Rattle.format_language.specs.LanguageFile.{is_kind}
use Rattle.format_card.specs.Card.{Card, sees, card_in, card_of}
use Rattle.format_card.specs.Inner.Sets.{in_set, Holds, Reads, is_card, card_with}
use Rattle.format_card.proofs.Sets.{no_bit, put_bit, put_small}

-- is_card
module _ (s : List ℕ) where
  pub card_short : length s < 3 → false ≡ is_card s
  unfolding is_card
  card_short h = rw (lt-leb 3 (length s) h) refl

  module _ (long : 3 ≤ length s) where
    pub card_tag : (get_or s 0 0 ≡ 0x27 → ⊥) → false ≡ is_card s
    unfolding is_card
    card_tag h = rw (le-leb 3 (length s) long, ne_eqb (get_or s 0 0) 0x27 h) refl

    pub card_size : {n : ℕ} → get_or s 0 0 ≡ 0x27 → n ≡ pair_at s 1 → eqb n (length s - 3) ≡ is_card s
    unfolding is_card
    card_size h e = rw (le-leb 3 (length s) long, eq-eqb (get_or s 0 0) 0x27 h, e) refl

-- contents, a turn at a time.
pub record Going (s : List ℕ) (kinds least : ℕ) (up : Bool) (i : ℕ) : Type 0 where
  pub only : all is_kind s ≡ all is_kind (drop i s)
  pub order : rising_from (λ k. k) 0 s ≡ (up && rising_from (λ k. k) least (drop i s))
  pub holds : up ≡ true → (k : ℕ) → (in_set kinds k || sees (drop i s) k) ≡ sees s k
  pub small : kinds < 2 ^ least
  pub narrow : least ≤ 32

pub going_start : (s : List ℕ) → Going s 0 0 true 0
going_start s = record {
  only = refl;
  order = refl;
  holds = λ e k. ap (λ (b : Bool). b || sees s k) (no_bit 0 k (pow_pos k));
  small = omega arith;
  narrow = omega arith;
}

-- What a refusal and a set say.
pub reads_refused : {m : Result Card} {x : Reason} → m ≡ refused x → Reads m (Err x)
reads_refused e = record {
  holds = λ kinds q. cc;
  refuses = λ reason q. cc;
}

reads_set : {m : Result Card} {card : Card} {kinds : ℕ} → m ≡ value card → Holds kinds card → Reads m (Ok kinds)
reads_set {card = card} {kinds = kinds} e h = record {
  holds = λ n q. let i : kinds ≡ n = cc in (card, e, rw (← i) h);
  refuses = λ reason q. cc;
}

and_false : (b : Bool) → (b && false) ≡ false
and_false true = refl
and_false false = refl

or_assoc : (a b d : Bool) → ((a || b) || d) ≡ (a || (b || d))
or_assoc true b d = refl
or_assoc false b d = refl

module _ (s : List ℕ) {kinds least : ℕ} {up : Bool} {i : ℕ} (g : Going s kinds least up i) where
  module _ (more : i < length s) where
    abbrev kind : ℕ
    kind = get_or s i 0

    no_kind : 32 ≤ kind → all is_kind (kind ∷ drop (i + 1) s) ≡ false
    unfolding all
    no_kind h = rw (le-ltb kind 32 h) refl

    pub going_broken : 32 ≤ kind → Reads (card_with s) (Err BrokenField)
    unfolding card_with
    going_broken h =
        let e : all is_kind s ≡ false = g.only ∙ (ap (all is_kind) (front s i more) ∙ no_kind h) in
        reads_refused (rw e refl)

    module _ (small : kind < 32) where
      one_kind : all is_kind (kind ∷ drop (i + 1) s) ≡ all is_kind (drop (i + 1) s)
      unfolding all
      one_kind = rw (lt-ltb kind 32 small) refl

      passed : all is_kind (drop i s) ≡ all is_kind (drop (i + 1) s)
      passed = ap (all is_kind) (front s i more) ∙ one_kind

      falls : kind < least → rising_from (λ k. k) least (kind ∷ drop (i + 1) s) ≡ false
      unfolding rising_from
      falls h = rw (lt-leb least kind h) refl

      rises : least ≤ kind → rising_from (λ k. k) least (kind ∷ drop (i + 1) s) ≡ rising_from (λ k. k) (kind + 1) (drop (i + 1) s)
      unfolding rising_from
      rises h = let e : suc kind ≡ kind + 1 = omega arith in rw (le-leb least kind h, e) refl

      seen : (k : ℕ) → sees (drop i s) k ≡ (eqb kind k || sees (drop (i + 1) s) k)
      unfolding sees any
      seen k = ap (λ (l : List ℕ). any (λ a. eqb a k) l) (front s i more)

      below : least ≤ kind → kinds < 2 ^ kind
      below h = let m : 2 ^ least ≤ 2 ^ kind = pow_mono h in omega (arith, g.small)

      pub going_unordered : {kinds' least' : ℕ} {up' : Bool} → kind < least → kinds' ≡ kinds → least' ≡ least → up' ≡ false → Going s kinds' least' up' (i + 1)
      going_unordered h ea eb eu = rw (ea, eb, eu) (record {
        only = g.only ∙ passed;
        order = g.order ∙ (ap (λ (l : List ℕ). up && rising_from (λ k. k) least l) (front s i more) ∙ (ap (λ (b : Bool). up && b) (falls h) ∙ and_false up));
        holds = λ e. false_true e;
        small = g.small;
        narrow = g.narrow;
      })

      pub going_next : {one kinds' least' : ℕ} {up' : Bool} → least ≤ kind → one ≡ 2 ^ kind → kinds' ≡ kinds + one → least' ≡ kind + 1 → up' ≡ up
          → Going s kinds' least' up' (i + 1)
      going_next h eo ea eb eu = rw (ea, eb, eu, eo) (record {
        only = g.only ∙ passed;
        order = g.order ∙ (ap (λ (l : List ℕ). up && rising_from (λ k. k) least l) (front s i more) ∙ ap (λ (b : Bool). up && b) (rises h));
        holds = λ e k. ap (λ (b : Bool). b || sees (drop (i + 1) s) k) (put_bit kinds kind (below h) k)
            ∙ (or_assoc (in_set kinds k) (eqb kind k) (sees (drop (i + 1) s) k)
            ∙ (ap (λ (b : Bool). in_set kinds k || b) (sym (seen k)) ∙ g.holds e k));
        small = put_small kinds kind (below h);
        narrow = omega arith;
      })

  module _ (end : length s ≤ i) where
    nothing : drop i s ≡ []
    nothing = drop_of_length-le s {i = i} end

    all_kinds : all is_kind s ≡ true
    unfolding all
    all_kinds = g.only ∙ ap (all is_kind) nothing

    ordered : rising (λ k. k) s ≡ (up && true)
    unfolding rising rising_from
    ordered = g.order ∙ ap (λ (l : List ℕ). up && rising_from (λ k. k) least l) nothing

    none_left : (k : ℕ) → (in_set kinds k || sees [] k) ≡ in_set kinds k
    unfolding sees any
    none_left k = go (in_set kinds k)
      where
        go : (b : Bool) → (b || false) ≡ b
        go true = refl
        go false = refl

    held : up ≡ true → Holds kinds s
    held e k = sym (none_left k) ∙ (ap (λ (l : List ℕ). in_set kinds k || sees l k) (sym nothing) ∙ g.holds e k)

    comes_to : {b : Bool} → up ≡ b → card_with s ≡ refuse_if (not (b && true)) OutOfOrder (value s)
    unfolding card_with
    comes_to e = rw (all_kinds, ordered, e) refl

    pub going_fails : up ≡ false → Reads (card_with s) (Err OutOfOrder)
    going_fails e = reads_refused (comes_to e)

    pub going_done : up ≡ true → Reads (card_with s) (Ok kinds)
    going_done e = reads_set (comes_to e) (held e)

-- What a card comes to, by its first bytes and its contents.
none_two : (f g : Field) (o : Option (List Field)) → card_in (before (some f) (before (some g) o)) ≡ none
unfolding card_in
none_two f g none = refl
none_two f g (some l) = refl

and_none : {A : Type 0} (a b : Bool) (x : A) → a ≡ false → none ≡ cond (a && b) (some x) none
and_none a b x e = rw e refl

module _ (s : List ℕ) where
  whole_end : field_end s 0 ≡ 3 + pair_at s 1
  unfolding field_end
  whole_end = refl

  card_cut : length s < 3 + pair_at s 1 → card_in (fields_of s) ≡ none
  unfolding card_in
  card_cut h =
      by_test (ltb 0 (length s))
      (λ t. ap card_in (fields_cut s 0 (ltb-true 0 (length s) t) (omega (arith, whole_end))))
      (λ t. ap card_in (fields_done s 0 (ltb-false 0 (length s) t)))

  card_more : 3 + pair_at s 1 < length s → card_in (fields_of s) ≡ none
  unfolding card_in
  card_more h =
      ap card_in (fields_next s 0 (omega arith) (omega (arith, whole_end)))
      ∙ by_test (leb (field_end s (field_end s 0)) (length s))
      (λ t. ap (λ (o : Option (List Field)). card_in (before (some (field_at s 0)) o)) (fields_next s (field_end s 0) (omega (arith, whole_end)) (leb-true _ _ t)) ∙ none_two (field_at s 0) (field_at s (field_end s 0)) (fields_of (drop (field_end s (field_end s 0)) s)))
      (λ t. ap (λ (o : Option (List Field)). card_in (before (some (field_at s 0)) o)) (fields_cut s (field_end s 0) (omega (arith, whole_end)) (leb-false _ _ t)))

  card_one : 3 + pair_at s 1 ≡ length s → card_in (fields_of s) ≡ cond (eqb (get_or s 0 0) 0x27 && all is_kind (drop 3 s)) (some (drop 3 s)) none
  unfolding card_in field_at
  card_one h =
      let c : take (pair_at s 1) (drop 3 s) ≡ drop 3 s = take_all (pair_at s 1) (drop 3 s) (simp length-drop (omega arith)) in
      ap card_in (fields_next s 0 (omega arith) (omega (arith, whole_end)))
      ∙ (ap (λ (o : Option (List Field)). card_in (before (some (field_at s 0)) o)) (fields_done s (field_end s 0) (omega (arith, whole_end)))
      ∙ ap (λ (l : List ℕ). cond (eqb (get_or s 0 0) 0x27 && all is_kind l) (some l) none) c)

  -- The card is in the bytes where they are one field of its tag and its contents are kinds.
  pub card_is : card_in (fields_of s) ≡ cond (is_card s && all is_kind (drop 3 s)) (some (drop 3 s)) none
  unfolding is_card
  card_is =
      by_test (ltb (length s) (3 + pair_at s 1))
      (λ t. let h = ltb-true (length s) (3 + pair_at s 1) t in card_cut h ∙ and_none (is_card s) _ _ (other (λ a. omega arith)))
      (λ t. by_test (ltb (3 + pair_at s 1) (length s))
      (λ u. let h = ltb-true (3 + pair_at s 1) (length s) u in card_more h ∙ and_none (is_card s) _ _ (other (λ a. omega arith)))
      (λ u.
      let a = ltb-false (length s) (3 + pair_at s 1) t in
      let b = ltb-false (3 + pair_at s 1) (length s) u in
      let h : 3 + pair_at s 1 ≡ length s = omega arith in
      let i : pair_at s 1 ≡ length s - 3 = omega arith in
      card_one h ∙ sym (rw (le-leb 3 (length s) (omega arith), eq-eqb (pair_at s 1) (length s - 3) i) (and_true (eqb (get_or s 0 0) 0x27)))))
    where
      other : (3 ≤ length s → pair_at s 1 ≡ length s - 3 → ⊥) → is_card s ≡ false
      other h =
          by_test (leb 3 (length s))
          (λ t. by_test (eqb (pair_at s 1) (length s - 3)) (λ u. absurd (h (leb-true _ _ t) (eqb-true _ _ u))) (λ u. rw (t, u) (and_false (eqb (get_or s 0 0) 0x27))))
          (λ t. rw t refl)

      and_true : (b : Bool) → cond ((b && true) && all is_kind (drop 3 s)) (some (drop 3 s)) none ≡ cond (b && all is_kind (drop 3 s)) (some (drop 3 s)) none
      and_true true = refl
      and_true false = refl

-- read_card
module _ (s : List ℕ) where
  pub card_broken : is_card s ≡ false → card_of s ≡ refused BrokenField
  unfolding card_of
  card_broken h = rw (card_is s, h) refl

  pub card_long : is_card s ≡ true → 3 ≤ length s
  unfolding is_card
  card_long h = leb-true _ _ (and_both (leb 3 (length s)) (eqb (get_or s 0 0) 0x27 && eqb (pair_at s 1) (length s - 3)) h).0

  pub card_held : is_card s ≡ true → card_with (take (length s - 3) (drop 3 s)) ≡ card_of s
  unfolding card_of card_with
  card_held h =
      let c : take (length s - 3) (drop 3 s) ≡ drop 3 s = take_all (length s - 3) (drop 3 s) (simp length-drop (omega arith)) in
      rw (c, card_is s, h) refl

pub reads_as : {m n : Result Card} {r : Outcome} → m ≡ n → Reads m r → Reads n r
reads_as {r = r} e w = subst (λ (x : Result Card). Reads x r) e w
