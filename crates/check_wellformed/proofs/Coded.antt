-- Codes by place: a law for each return of the functions on them, and what they say of the translation.
use Rattle.tree_reader.specs.declared.node.ReadError.{ReadError}
use Rattle.tree_reader.specs.declared.node.ReadError.TheVariants.{Deep, Broken}
use Prim.Native.Nat.{ℕ, zero, suc, ◌+◌, ◌-◌, ◌*◌, ◌<◌, ◌≤◌}
use mathlib.Core.Path.{◌≡◌, refl, sym, ap, ◌∙◌}
use mathlib.Core.Bool.{Bool, true, false}
use mathlib.Core.List.{List, [], ◌∷◌, ◌++◌, map, append-nil, append_assoc}
use mathlib.Core.Option
use mathlib.Core.Option.{Option, none, some}
use native.Mathlib.Omega.{arith}
use Rattle.std.specs.Prelude.{Option as Found, Some, None, Err, Ok, IsSome, nat_eq}
use borrow.Author.Rules.{rules}
use Rattle.std.specs.Result.{result_eq}
use lib.ListN.{length, get_or, take, drop, length-take, length-drop, length-append, drop_of_length-le, get_or-eq_default}
use lib.Seq.{slice, length-take-le, take_at, take_all, drop_at, get_or-take}
use lib.Dec.{ltb, eqb}
use borrow.Author.Tests.{ne_eqb, eqb-true, eqb-false, ltb-true, ltb-false}
use Rattle.format_fields.specs.Lists.{all, is_some}
use Rattle.format_fields.specs.Fields.{pair_at}
use Rattle.format_fields.specs.Inner.Places.{field_end, key_at}
use Rattle.format_fields.specs.Inner.Writing.{Inside, Written, Stores}
use Rattle.format_fields.proofs.Truth.{by_test, false_true, and_both}
use Rattle.format_fields.proofs.Lists.{all_true}
use Rattle.format_fields.proofs.Split.{front}
use Rattle.format_fields.proofs.Splices.{opened, length_spliced}
use Rattle.format_language.specs.Language.{Language, production_key, production, arguments_of}
use Rattle.format_language.specs.LanguageFile.{is_kind}
use Rattle.format_language.proofs.Lookup.{arguments_mem}
use Rattle.tree_reader.specs.Code as C
use Rattle.tree_reader.specs.Typing.{Uses}
use Rattle.tree_reader.specs.Syntax as Meant
use Rattle.tree_reader.specs.Inner.Index.{Indexed, arguments_before}
use Rattle.tree_reader.specs.Inner.Positions.{KindsIn, EndsBy, rest_at, rest_of, mapped_in, uses_in, Read}
use Rattle.tree_reader.proofs.Meaning.{done_of, deep_of, broken_of}
use Rattle.format_translation.specs.Translation.{Body, Translation, mapping, mapping_of, mapped}
use Rattle.format_translation.specs.TranslationFile.{body_of}
use Rattle.format_translation.specs.Running.{uses_of, read_clause, whole_code}
use Rattle.format_translation.specs.WellFormed.{code_fits}
use Rattle.format_translation.specs.Inner.Items.{item_whole, item_at, ItemFacts, plain_mapping, plain_clause, numbered_mapping_lem, numbered_clause_lem, is_clause_tag, code_start, clause_number}
use Rattle.format_translation.specs.Inner.ItemIndex.{Mapped, mapped_by}
use Rattle.check_wellformed.specs.Inner.Ready.{Ready, index_of}
use Rattle.check_wellformed.specs.Inner.Tests.{place_before, is_clause_at, ClauseAt, Behind}
use Rattle.format_translation.proofs.Lookup.{mapping_mem}
use Rattle.format_translation.proofs.Items.{item_facts, clause_is, numbered_clause_is}
use Rattle.format_translation.proofs.Clauses.{mapped_is}
use Rattle.format_translation.proofs.Found.{cut, cut_is}
use Rattle.check_wellformed.proofs.Bounds.{bounded, within, mapped_below}
use Rattle.check_wellformed.proofs.Source.{source_indexed}

-- What is known of a clause by its place.
pub clause_at_lem : (b : List ℕ) (p : ℕ) → is_clause_at b p ≡ true → ClauseAt b p
unfolding is_clause_at code_start clause_number
clause_at_lem b p h = let w = and_both (item_whole b p) (is_clause_tag (get_or b p 0)) h in go (item_facts b p w.0) w.1
  where
    go : ItemFacts b p → is_clause_tag (get_or b p 0) ≡ true → ClauseAt b p
    go (plain_mapping m) t = false_true (rw m.tag at t)
    go (numbered_mapping_lem m) t = false_true (rw m.tag at t)
    go (plain_clause m) t =
        let a = m.past in
        let tag = m.tag in
        record {
          result = m.result;
          number = rw m.tag (omega arith);
          starts = rw m.tag (omega arith);
          past = rw m.tag m.past;
          ends = m.ends;
          key = λ e. omega arith;
          is = rw m.tag (clause_is b p m);
        }
    go (numbered_clause_lem m) t =
        let a = m.past in
        let e = m.ends in
        let tag = m.tag in
        record {
          result = m.result;
          number = rw m.tag m.byte;
          starts = rw m.tag (omega arith);
          past = rw m.tag m.past;
          ends = m.ends;
          key = λ e. omega arith;
          is = rw m.tag (numbered_clause_is b p m);
        }

pub clause_long : (b : List ℕ) (p : ℕ) → ClauseAt b p → p + 4 < length b
clause_long b p c = let x = c.starts in let y = c.past in let z = c.ends in omega arith

-- put_arguments
module _ (is s : List ℕ) (l : Language) (z : Indexed is s l) (bytes : (i : ℕ) → get_or s i 0 < 256)
    (k n : ℕ) (hk : k < 32) (hn : n < 256) (key : ℕ) (ek : key ≡ production_key k n) {o : Found ℕ} (eo : o ≡ place_before (get_or is key 0)) where
  -- What stands in the index, where there is a place and where there is none.
  index_none : o ≡ None → get_or is key 0 ≡ 0
  index_none h = go (get_or is key 0) (sym eo ∙ h)
    where
      go : (x : ℕ) → place_before x ≡ None → x ≡ 0
      go zero e = refl
      go (suc x) e = cc

  index_some : (p : ℕ) → o ≡ Some p → get_or is key 0 ≡ suc p
  index_some p h = go (get_or is key 0) (sym eo ∙ h)
    where
      go : (x : ℕ) → place_before x ≡ Some p → x ≡ suc p
      go zero e = cc
      go (suc x) e = let i : x ≡ p = cc in ap suc i

  pub put_none : o ≡ None → (u : List ℕ) → length u ≡ 8200 → Behind u u (Option.get_or (arguments_before s (get_or is key 0)) []) 8192
  put_none h u e = record { bytes = rw (index_none h) (sym (append-nil (take 8192 u))); fits = omega arith; room = e; kept = refl }

  module _ (p : ℕ) (there : o ≡ Some p) where
    place_is : get_or is (production_key k n) 0 ≡ suc p
    place_is = ap (λ (i : ℕ). get_or is i 0) (sym ek) ∙ index_some p there

    module _ (first last : ℕ) (ef : first ≡ p + 1 + 4) (el : last ≡ p + 1 + 2 + pair_at s (p + 1)) where
      before_is : arguments_before s (suc p) ≡ some (slice first last s)
      unfolding field_end
      before_is =
          let i : field_end s p ≡ last = omega (arith, el) in
          let j : p + 5 ≡ first = omega (arith, ef) in
          rw (i, j) refl

      few_arguments : length (slice first last s) ≤ 8
      few_arguments =
          let e : arguments_of l k n ≡ some (slice first last s) = z.arguments k n hk hn ∙ (ap (arguments_before s) place_is ∙ before_is) in
          (within s bytes l z.entries (production k n (slice first last s)) (arguments_mem l k n _ e)).2

      found_is : Option.get_or (arguments_before s (get_or is key 0)) [] ≡ slice first last s
      found_is = ap (λ (x : ℕ). Option.get_or (arguments_before s x) []) (index_some p there) ∙ ap (λ (x : Option (List ℕ)). Option.get_or x []) before_is

      pub put_empty : last ≤ first → (u : List ℕ) → length u ≡ 8200 → Behind u u (Option.get_or (arguments_before s (get_or is key 0)) []) 8192
      put_empty h u e =
          let i : Option.get_or (arguments_before s (get_or is key 0)) [] ≡ [] =
          found_is ∙ drop_of_length-le (take last s) {i = first} (simp length-take (omega arith)) in
          record { bytes = rw i (sym (append-nil (take 8192 u))); fits = omega arith; room = e; kept = refl }

      pub put_inside : first < last → Inside s first last
      put_inside h =
          let w : KindsIn s (suc p + 4) (suc p + 2 + pair_at s (suc p)) = rw place_is at (z.sound.operands k n hk hn (rw place_is (omega arith))) in
          let j : pair_at s (p + 1) ≡ pair_at s (suc p) = ap (pair_at s) (omega arith) in
          let v = w (last - 1) (omega (arith, ef, el)) (omega (arith, ef, el)) in
          record { rise = omega arith; fits = omega (arith, v.0) }

      pub never_full : (u : List ℕ) {u' : List ℕ} {r : Found ℕ} → length u ≡ 8200 → Stores (slice first last s) u u' 8192 r → IsSome r
      never_full u {r = r} e w = go r (λ h. omega (arith, few_arguments, w.full h))
        where
          go : (x : Found ℕ) → (x ≡ None → ⊥) → IsSome x
          go (Some m) h = search rules
          go None h = absurd (h refl)

      pub put_behind : (u u' : List ℕ) (r : ℕ) → length u ≡ 8200 → Written (slice first last s) u u' 8192 r
          → Behind u u' (Option.get_or (arguments_before s (get_or is key 0)) []) r
      put_behind u u' r e w =
          let v = slice first last s in
          let fits : 8192 + length v ≤ length u = omega (arith, w.end, w.fits) in
          let l : length (take 8192 u) ≡ 8192 = length-take-le 8192 u (omega arith) in
          let i : length (take 8192 u ++ v) ≡ r = omega (arith, length-append (take 8192 u) v, l, w.end) in
          let o : u' ≡ take 8192 u ++ (v ++ drop (8192 + length v) u) = w.bytes ∙ opened u 8192 v in
          let q : u' ≡ (take 8192 u ++ v) ++ drop (8192 + length v) u = o ∙ sym (append_assoc (take 8192 u) v (drop (8192 + length v) u)) in
          record {
            bytes = rw (found_is, q) (take_at (take 8192 u ++ v) (drop (8192 + length v) u) r i);
            fits = omega (arith, w.fits);
            room = ap length w.bytes ∙ (length_spliced u 8192 v fits ∙ e);
            kept = rw o (take_at (take 8192 u) (v ++ drop (8192 + length v) u) 8192 l);
          }

-- A table that is the same in front maps the same.
pub mapped_kept : (u v : List ℕ) (m : Body) → take 8192 v ≡ take 8192 u → Mapped u m → Mapped v m
unfolding mapped_in
mapped_kept u v m e z = record {
  is = λ k j h i.
      let l : k * 256 + j < 8192 = omega arith in
      let d : get_or v (k * 256 + j) 0 ≡ get_or u (k * 256 + j) 0 =
      sym (get_or-take 8192 v (k * 256 + j) 0 l) ∙ (ap (λ (x : List ℕ). get_or x (k * 256 + j) 0) e ∙ get_or-take 8192 u (k * 256 + j) 0 l) in
      rw d (z.is k j h i);
}

-- fill_uses
pub zeros_front : (u : List ℕ) → ((j : ℕ) → get_or u j 0 ≡ 0) → (j : ℕ) → get_or (take 8192 u) j 0 ≡ 0
zeros_front u h j =
    by_test (ltb j 8192)
    (λ e. get_or-take 8192 u j 0 (ltb-true _ _ e) ∙ h j)
    (λ e. get_or-eq_default (take 8192 u) 0 (simp length-take (omega (arith, ltb-false j 8192 e))))

pub filled_room : (u w : List ℕ) → length u ≡ 8200 → length w ≡ 8192 → length (w ++ drop 8192 u) ≡ 8200
filled_room u w e d = length-append w (drop 8192 u) ∙ rw (d, length-drop 8192 u, e) refl

pub filled_uses : (u w : List ℕ) (m : Body) → length w ≡ 8192 → Mapped w m → Mapped (w ++ drop 8192 u) m
filled_uses u w m d z = mapped_kept w (w ++ drop 8192 u) m (take_at w (drop 8192 u) 8192 d ∙ sym (take_all 8192 w (omega arith))) z

-- A front that is as long as it is to be.
pub front_count : (u : List ℕ) (n m : ℕ) → n ≤ m → length u ≡ m → n ≡ length (take n u)
front_count u n m h e = sym (length-take-le n u (rw e h))

-- A kind has no number past a byte.
none_past : (b : List ℕ) → ((i : ℕ) → get_or b i 0 < 256) → (m : Body) → body_of b ≡ some m → (k j : ℕ) → 256 ≤ j → mapping_of m k j ≡ none
none_past b bytes m e k j h = go (mapping_of m k j) refl
  where
    go : (o : Option ℕ) → mapping_of m k j ≡ o → o ≡ none
    go none q = refl
    go (some t) q = absurd (omega (arith, (bounded b bytes m e (mapping k j t) (mapping_mem m k j t q)).1))

-- What the table says of kinds is what the body says.
maps_same : (b : List ℕ) → ((i : ℕ) → get_or b i 0 < 256) → (m : Body) → body_of b ≡ some m → (u : List ℕ) → Mapped u m
    → (l : List ℕ) → all is_kind l ≡ true → map (mapped_in u) l ≡ map (mapping_of m) l
unfolding mapped_in
maps_same b bytes m e u z [] h = refl
maps_same b bytes m e u z (k ∷ l) h =
    let w = all_true is_kind k l h in
    λ i. (λ j. one k (ltb-true _ _ w.0) j i) ∷ maps_same b bytes m e u z l w.1 i
  where
    past : (k j : ℕ) → ltb j 256 ≡ false → mapped_in u k j ≡ none
    past k j q = rw q

    one : (k : ℕ) → k < 32 → (j : ℕ) → mapped_in u k j ≡ mapping_of m k j
    one k h j =
        by_test (ltb j 256)
        (λ q. z.is k j h (ltb-true _ _ q))
        (λ q. past k j q ∙ sym (none_past b bytes m e k j (ltb-false _ _ q)))

-- The key of a clause.
pub clause_key : (b : List ℕ) (p : ℕ) → ClauseAt b p → key_at 0x22 b p ≡ production_key (get_or b (p + 3) 0) (get_or b (p + 4) 0)
unfolding key_at pair_at
clause_key b p c = let i : p + 3 + 1 ≡ p + 4 = omega arith in rw (ne_eqb (get_or b p 0) 0x22 c.key, i) refl

-- code_typed
module _ (s t it b u : List ℕ) (f : Translation) (z : Ready s t it b u f)
    (source_bytes_lem : (i : ℕ) → get_or s i 0 < 256) (body_bytes : (i : ℕ) → get_or b i 0 < 256) where
  -- The kinds of the arguments of a production are kinds.
  arguments_kinds : (k n : ℕ) → all is_kind (Option.get_or (arguments_of f.source k n) []) ≡ true
  unfolding all
  arguments_kinds k n = go (arguments_of f.source k n) refl
    where
      go : (o : Option (List ℕ)) → arguments_of f.source k n ≡ o → all is_kind (Option.get_or o []) ≡ true
      go none e = refl
      go (some ks) e = (within s source_bytes_lem f.source z.source (production k n ks) (arguments_mem f.source k n ks e)).3

  module _ (u' : List ℕ) (r key k n : ℕ) (hk : k < 32) (hn : n < 256) (ek : key ≡ production_key k n)
      (w : Behind u u' (Option.get_or (arguments_before s (get_or (index_of s) key 0)) []) r) where
    front_long : length (take 8192 u) ≡ 8192
    front_long = length-take-le 8192 u (omega (arith, z.room))

    abbrev arguments : List ℕ
    arguments = Option.get_or (arguments_of f.source k n) []

    bytes_are : take r u' ≡ take 8192 u ++ arguments
    bytes_are =
        let i : arguments_before s (get_or (index_of s) key 0) ≡ arguments_of f.source k n = rw ek (sym ((source_indexed s t it b u f z source_bytes_lem).arguments k n hk hn)) in
        rw (← i) w.bytes

    pub uses_are : uses_in (take r u') ≡ uses_of f k n
    unfolding uses_in uses_of
    uses_are =
        let e : take 8192 (take r u') ≡ take 8192 u = rw bytes_are (take_at (take 8192 u) arguments 8192 front_long) in
        let d : drop 8192 (take r u') ≡ arguments = rw bytes_are (drop_at (take 8192 u) arguments 8192 front_long) in
        rw d (maps_same b body_bytes f.body z.body (take r u') (mapped_kept u (take r u') f.body e z.uses) arguments (arguments_kinds k n))

    pub ready_still : Ready s t it b u' f
    ready_still = record {
      source = z.source;
      short = z.short;
      target = z.target;
      body = z.body;
      room = w.room;
      uses = mapped_kept u u' f.body w.kept z.uses;
      rises = z.rises;
    }

  module _ (p : ℕ) (c : ClauseAt b p) (result number kind : ℕ) (er : result ≡ get_or b (p + 3) 0) (en : number ≡ clause_number b p)
      (ek : kind ≡ mapped_by u result number) where
    kind_mapped : kind ≡ mapped f.body (get_or b (p + 3) 0) (clause_number b p)
    kind_mapped = ek ∙ rw (er, en) (mapped_is u f.body z.uses (get_or b (p + 3) 0) (clause_number b p) c.result c.number)

    pub kind_below : kind < 32
    kind_below = rw kind_mapped (mapped_below b body_bytes f.body z.body (get_or b (p + 3) 0) (clause_number b p))

    -- What is read for a clause says whether it fits.
    pub code_fits_lem : (key : ℕ) → key ≡ key_at 0x22 b p → (u' : List ℕ) (r : ℕ) → Behind u u' (Option.get_or (arguments_before s (get_or (index_of s) key 0)) []) r
        → (start e : ℕ) → start ≡ code_start b p → e ≡ field_end b p
        → (x : Bool) → x ≡ is_some (whole_code (Meant.read Meant.code f.target (uses_in (take r u')) 16 kind (slice start e b)))
        → (x ≡ code_fits f (item_at b p)) × Ready s t it b u' f
    unfolding code_fits read_clause
    code_fits_lem key eq u' r w start e es ee x ex =
        let k : key ≡ production_key (get_or b (p + 3) 0) (get_or b (p + 4) 0) = eq ∙ clause_key b p c in
        let v = uses_are u' r key (get_or b (p + 3) 0) (get_or b (p + 4) 0) c.result (body_bytes (p + 4)) k w in
        (rw (c.is, ← v, ← kind_mapped, ← es, ← ee) ex, ready_still u' r key (get_or b (p + 3) 0) (get_or b (p + 4) 0) c.result (body_bytes (p + 4)) k w)

-- code_reads
module _ (same : ReadError → ReadError → Bool) (b : List ℕ) (p e : ℕ) (past : p ≤ e) (ends : e ≤ length b) (l : Language) (uses : Uses) (kind : ℕ) where
  pub code_read : (r : Read) → rest_at (cut b p e) r ≡ rest_of (Meant.read Meant.code l uses 16 kind (cut b p e))
      → EndsBy (length (cut b p e)) r → (x : Bool) → x ≡ result_eq nat_eq same r (Ok (e - p))
      → x ≡ is_some (whole_code (Meant.read Meant.code l uses 16 kind (slice p e b)))
  code_read r h w x ex =
      let n : length (cut b p e) ≡ e - p = simp (length-take, length-drop) (omega (arith, past, ends)) in
      ex ∙ (ap (λ (m : ℕ). result_eq nat_eq same r (Ok m)) (sym n) ∙ (ends_is (cut b p e) (Meant.read Meant.code l uses 16 kind (cut b p e)) r h w
      ∙ ap (λ (u : List ℕ). is_some (whole_code (Meant.read Meant.code l uses 16 kind u))) (cut_is b p e past ends)))
    where
      ends_end : (u : List ℕ) (g : Meant.Read C.Code) (j : ℕ) → rest_at u (Ok j) ≡ rest_of g → j ≤ length u → eqb j (length u) ≡ is_some (whole_code g)
      ends_end u g j y i =
          let d = done_of g (drop j u) (sym y) in
          by_test (eqb j (length u))
          (λ k.
          let a : length u ≤ j = omega (arith, eqb-true j (length u) k) in
          let o : g ≡ Meant.done d.0 [] = d.1 ∙ ap (Meant.done d.0) (drop_of_length-le u {i = j} a) in
          rw o k)
          (λ k.
          let a : j < length u = omega (arith, eqb-false j (length u) k) in
          let o : g ≡ Meant.done d.0 (get_or u j 0 ∷ drop (j + 1) u) = d.1 ∙ ap (Meant.done d.0) (front u j a) in
          rw o k)

      ends_is : (u : List ℕ) (g : Meant.Read C.Code) (r : Read) → rest_at u r ≡ rest_of g → EndsBy (length u) r
          → result_eq nat_eq same r (Ok (length u)) ≡ is_some (whole_code g)
      ends_is u g (Ok j) y i = ends_end u g j y i
      ends_is u g (Err Deep) y i = rw (deep_of g (sym y))
      ends_is u g (Err Broken) y i = rw (broken_of g (sym y))
