-- A step of the match: a law for each return of `step` and `matches`.
use Prim.Native.Nat.{ℕ, zero, suc, ◌+◌, ◌-◌, ◌≤◌, ◌<◌}
use mathlib.Core.Path.{◌≡◌, ap, sym, ◌∙◌}
use mathlib.Core.Logic.{◌⊎◌, inl, inr}
use mathlib.Core.List.{List, [], ◌∷◌, map}
use mathlib.Core.Option
use mathlib.Core.Option.{Option, some}
use native.Mathlib.Omega.{arith}
use Rattle.std.specs.Prelude.{Option as Maybe, None, Some}
use lib.ListN.{length, get_or, get_elem?}
use Rattle.format_fields.proofs.Truth.{none_some}
use Rattle.tree_reader.specs.Code.{Codes}
use Rattle.tree_reader.specs.Typing.{Uses, kind_by}
use Rattle.tree_reader.proofs.Larger.{apart}
use Rattle.format_translation.specs.Translation.{Translation, Body, mapping_of, mapped}
use Rattle.format_translation.specs.Running.{Replacing}
use Rattle.format_translation.proofs.Preserved.{use_kind}
use Rattle.run_emit.proofs.Ends.{kind_byte}
use Rattle.run_table.specs.Inner.Table.{source_byte, body_byte}
use Rattle.search_sources.specs.Inner.Goals.{Goal}
use Rattle.search_sources.specs.Inner.Matching.{Solves, Alike}
use Rattle.search_levels.specs.Inner.Clauses.{Bound, Pending, ArgumentAsks, ArgumentGives, width, StepAsks, StepGives}
use Rattle.search_levels.proofs.Steps.{width_token, width_other}
use Rattle.search_levels.proofs.Heads.{Plain, NodeHead, TokenHead, ArgumentHead, heads}

-- The kind that argument i, counted from 0, has by number 0.
mapped_at : (b : Body) (ks : List ℕ) (i k : ℕ) → kind_by (get_elem? (map (mapping_of b) ks) i) 0 ≡ some k → (i < length ks) × (k ≡ mapped b (get_or ks i 0) 0)
unfolding mapped
mapped_at b [] i k e = none_some e
mapped_at b (x ∷ ks) zero k e = (omega arith, sym (ap (λ (o : Option ℕ). Option.get_or o 0) e))
mapped_at b (x ∷ ks) (suc i) k e = let r = mapped_at b ks i k e in let z = r.0 in (omega arith, r.1)

-- Where kinds have number 0 only, arguments are used by it only.
plain_uses : (b : Body) (ks : List ℕ) → ((k j t : ℕ) → mapping_of b k j ≡ some t → j ≡ 0) → Plain (map (mapping_of b) ks)
plain_uses b ks h zero j k e = none_some e
plain_uses b ks h (suc i) j k e = let q = use_kind (mapping_of b) ks i j k e in h q.0 j k q.2

alike_of : {b d : ℕ → Goal} {cs us es vs xs ys : Codes} → cs ≡ es → us ≡ vs → Alike b es vs d xs ys → Alike b cs us d xs ys
alike_of e q h = rw (e, q) h

solves_of : {b : ℕ → Goal} {cs us es vs : Codes} {s : Replacing} → cs ≡ es → us ≡ vs → Solves b cs us s → Solves b es vs s
solves_of e q h = rw (← e, ← q) h

module _ (table target places kinds bytes memory bound : List ℕ) (place c stop to : ℕ) (f : Translation) (ks js : List ℕ) (cs us : Codes) (b : ℕ → Goal)
    (h : StepAsks table target places kinds bytes memory bound place c stop to f ks js cs us b) where
  abbrev given : Uses
  given = map (mapping_of f.body) ks

  abbrev View : Type 0
  View =
      NodeHead table bytes c stop to f given cs us b
      ⊎ (TokenHead table bytes c stop to f given cs us b ⊎ ArgumentHead table bytes c stop to f given cs us)

  view : View
  view = heads table bytes c stop to f (apart f.target h.targeted.target_index.apart) given (plain_uses f.body ks h.targeted.plain) js cs us b h.row h.more

  pub code_inside : c < 4096
  code_inside = let x = h.row.inside in let y = h.more in omega arith

  pub next_inside : c + 1 < 4096
  next_inside = let x = h.row.inside in go x view
    where
      go : stop ≤ 4096 → View → c + 1 < 4096
      go x (inl n) = let y = n.room in omega arith
      go x (inr (inl n)) = let y = n.room in omega arith
      go x (inr (inr n)) = let y = n.room in omega arith

  pub tree_inside : to ≤ length bytes
  tree_inside = h.row.trees.inside

  -- An argument.
  module _ (sign : body_byte table c ≡ 3) where
    pub argument_next : ArgumentHead table bytes c stop to f given cs us
    argument_next = go view
      where
        go : View → ArgumentHead table bytes c stop to f given cs us
        go (inl n) = let y = n.sign in absurd (omega arith)
        go (inr (inl n)) = let y = n.sign in absurd (omega arith)
        go (inr (inr n)) = n

    pub number_there : (argument_next.number < length ks) × (argument_next.kind ≡ mapped f.body (get_or ks argument_next.number 0) 0)
    number_there = mapped_at f.body ks argument_next.number argument_next.kind argument_next.given_at

    pub number_is : {m : ℕ} → m ≡ body_byte table (c + 1) → m - 1 ≡ argument_next.number
    number_is e = let y = argument_next.byte in omega arith

    pub number_some : {m : ℕ} → m ≡ body_byte table (c + 1) → 1 ≤ m
    number_some e = let y = argument_next.byte in omega arith

    pub place_inside : {m : ℕ} → m ≡ body_byte table (c + 1) → place + 4 + (m - 1) < 1024
    place_inside e =
        let x = number_is e in
        let y = number_there.0 in
        let z = h.production.kinds.inside in
        omega arith

    kind_there : {m x y : ℕ} → m ≡ body_byte table (c + 1) → x ≡ source_byte table (place + 4 + (m - 1)) → y ≡ get_or kinds x 0
        → y ≡ mapped f.body (get_or ks argument_next.number 0) 0
    kind_there {m} {x} {y} e d q =
        let n = number_is e in
        let i = number_there.0 in
        let k : x ≡ get_or ks argument_next.number 0 =
        d ∙ (ap (λ (j : ℕ). source_byte table (place + 4 + j)) n ∙ kind_byte h.production.kinds argument_next.number i) in
        let low : get_or ks argument_next.number 0 < 32 = h.production.kinds.below argument_next.number i in
        q ∙ (ap (λ (j : ℕ). get_or kinds j 0) k ∙ h.targeted.maps (get_or ks argument_next.number 0) low)

    pub argument_asks : {m x y : ℕ} → m ≡ body_byte table (c + 1) → x ≡ source_byte table (place + 4 + (m - 1)) → y ≡ get_or kinds x 0
        → ArgumentAsks target places bytes memory bound y to (m - 1) f ks b argument_next.subtree
    argument_asks {m} {x} {y} e d q =
        let n = number_is e in
        let k = kind_there e d q in
        rw n (record {
          target_index = h.targeted.target_index;
          ends = h.ends;
          is = h.is;
          number = number_there.0;
          few = h.production.few;
          kind_is = k;
          lies = rw (k ∙ sym number_there.1) argument_next.lies;
        })

    pub argument_step : {m : ℕ} {r : Maybe ℕ} {after : List ℕ} → m ≡ body_byte table (c + 1)
        → ArgumentGives bytes after to (m - 1) r f ks b argument_next.subtree → StepGives table bytes after c stop r f ks cs us b
    argument_step {m} {r} {after} e g = go (rw (number_is e) at g)
      where
        wide : c + 2 ≡ c + width (body_byte table c)
        wide = ap (λ (n : ℕ). c + n) (width_other (body_byte table c) (λ z. omega arith))

        go : ArgumentGives bytes after to argument_next.number r f ks b argument_next.subtree → StepGives table bytes after c stop r f ks cs us b
        go q = record {
          goes = λ x n.
              let z = q.goes x n in (
                argument_next.kinds,
                argument_next.codes,
                argument_next.trees,
                z.1,
                rw (← wide, z.0) argument_next.next,
                z.2,
                alike_of argument_next.cs_is argument_next.us_is (z.3 argument_next.codes argument_next.trees),
              );
          stops = λ n s y. q.stops n argument_next.codes argument_next.trees s (solves_of argument_next.cs_is argument_next.us_is y);
        }

  -- A name, or the first byte of a token, that differs.
  module _ (plain : body_byte table c ≡ 3 → ⊥) where
    pub first_differs : (body_byte table (c + 1) ≡ get_or bytes to 0 → ⊥) → StepGives table bytes bound c stop None f ks cs us b
    first_differs d = record { goes = λ e n. absurd cc; stops = λ n s y. go s y view }
      where
        go : (s : Replacing) → Solves b cs us s → View → ⊥
        go s y (inl n) = n.other d s y
        go s y (inr (inl n)) = n.high d s y
        go s y (inr (inr n)) = plain n.sign

    later : (r : ℕ) → to ≤ r → Bound f bytes bound r ks b
    later r i = record { long = h.is.long; at = h.is.at; before = λ j w q. let z = h.is.before j w q in omega arith; inside = h.is.inside }

    module _ (first : body_byte table (c + 1) ≡ get_or bytes to 0) where
      pub name_step : (body_byte table c ≡ 2 → ⊥) → StepGives table bytes bound c stop (Some (to + 1)) f ks cs us b
      name_step other = record { goes = λ e n. let z : e ≡ to + 1 = cc in rw z (go view); stops = λ n. absurd cc }
        where
          wide : c + 2 ≡ c + width (body_byte table c)
          wide = ap (λ (n : ℕ). c + n) (width_other (body_byte table c) other)

          go : View → (js : List ℕ) × (es vs : Codes) × (d : ℕ → Goal)
              × Pending table bytes (c + width (body_byte table c)) stop (to + 1) f given js es vs × Bound f bytes bound (to + 1) ks d × Alike b cs us d es vs
          go (inl n) = let z = n.same first in (z.0, z.1, z.2, b, rw (← wide) z.3, later (to + 1) (omega arith), z.4)
          go (inr (inl n)) = absurd (other n.sign)
          go (inr (inr n)) = absurd (plain n.sign)

      module _ (token : body_byte table c ≡ 2) where
        pub token_inside : c + 2 < 4096
        token_inside = let x = h.row.inside in go x view
          where
            go : stop ≤ 4096 → View → c + 2 < 4096
            go x (inl n) = let y = n.sign in absurd (omega arith)
            go x (inr (inl n)) = let y = n.room in omega arith
            go x (inr (inr n)) = let y = n.sign in absurd (omega arith)

        pub second_differs : (body_byte table (c + 2) ≡ get_or bytes (to + 1) 0 → ⊥) → StepGives table bytes bound c stop None f ks cs us b
        second_differs d = record { goes = λ e n. absurd cc; stops = λ n s y. go s y view }
          where
            go : (s : Replacing) → Solves b cs us s → View → ⊥
            go s y (inl n) = let z = n.sign in omega arith
            go s y (inr (inl n)) = n.low d s y
            go s y (inr (inr n)) = plain n.sign

        pub token_step : body_byte table (c + 2) ≡ get_or bytes (to + 1) 0 → StepGives table bytes bound c stop (Some (to + 2)) f ks cs us b
        token_step second = record { goes = λ e n. let z : e ≡ to + 2 = cc in rw z (go view); stops = λ n. absurd cc }
          where
            wide : c + 3 ≡ c + width (body_byte table c)
            wide = ap (λ (n : ℕ). c + n) (width_token (body_byte table c) token)

            go : View → (js : List ℕ) × (es vs : Codes) × (d : ℕ → Goal)
                × Pending table bytes (c + width (body_byte table c)) stop (to + 2) f given js es vs × Bound f bytes bound (to + 2) ks d × Alike b cs us d es vs
            go (inl n) = let z = n.sign in absurd (omega arith)
            go (inr (inl n)) = let z = n.same first second in (z.0, z.1, z.2, b, rw (← wide) z.3, later (to + 2) (omega arith), z.4)
            go (inr (inr n)) = absurd (plain n.sign)
