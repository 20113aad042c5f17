-- The clauses of a body that was accepted: where their codes stand, and the walk that puts their spans into the table.
use Prim.Native.Nat.{ℕ, zero, suc, ◌+◌, ◌-◌, ◌/◌, ◌%◌, ◌≤◌, ◌<◌}
use mathlib.Core.Path.{◌≡◌, refl, sym, ap, ◌∙◌}
use mathlib.Core.Logic.{◌⊎◌, inl, inr, ⊎_elim}
use mathlib.Core.List.{List, [], ◌∷◌, ◌++◌, append-nil}
use mathlib.Core.Bool.{true}
use mathlib.Core.Option.{some}
use native.Mathlib.Omega.{arith}
use lib.ListN.{length, get_or, take, drop, length-drop, take-append-drop}
use lib.Seq.{slice, drop-append-le, length-slice}
use lib.Dec.{eqb}
use borrow.Author.Tests.{eq-eqb, eqb-true}
use Rattle.format_fields.specs.Lists.{is_some}
use Rattle.outcome.specs.Outcome.{value}
use Rattle.format_fields.specs.Inner.Places.{field_end, places_from, places}
use Rattle.format_fields.proofs.Truth.{Mem, by_test, false_true, all_mem, any_mem, mem_any, mem_map, map_cases, some_is}
use Rattle.format_fields.proofs.Keyed.{Rising, is_rising}
use Rattle.format_fields.proofs.Places.{places_done, places_next, end_past}
use Rattle.format_fields.proofs.Codec.{Bytes, each_front, bytes_from}
use Rattle.format_language.specs.Language.{Language, arguments_of}
use Rattle.format_language.proofs.Lookup.{arguments_mem, result_in}
use Rattle.tree_reader.specs.Code.{Code, node, token, argument, levels}
use Rattle.tree_reader.specs.Typing.{Uses, Typed}
use Rattle.tree_reader.specs.Syntax.{write, write_all, code}
use Rattle.tree_reader.specs.Inner.Index.{Indexed}
use Rattle.tree_reader.proofs.Members.{in_below}
use Rattle.tree_reader.proofs.Sound.{read_done}
use Rattle.format_translation.specs.Translation.{Translation, mapping, clause, item_key, mapping_of, mapped}
use Rattle.format_translation.specs.Running.{read_clause, clauses_of, uses_of, code_levels}
use Rattle.format_translation.specs.WellFormed.{well_formed}
use Rattle.format_translation.specs.Inner.Items.{item_whole, item_at, is_clause_tag, code_start, clause_number, ItemFacts, plain_mapping, plain_clause, numbered_mapping_lem, numbered_clause_lem, HoldsItems}
use Rattle.format_translation.specs.Inner.ItemIndex.{Mapped, mapped_by}
use Rattle.format_translation.proofs.Clauses.{mapped_is}
use Rattle.format_translation.proofs.Items.{holds_items, item_facts, mapping_is, clause_is, numbered_mapping_is, numbered_clause_is}
use Rattle.format_translation.proofs.Codec.{rises_parts, WholeTranslation, translation_whole}
use Rattle.format_translation.proofs.Lookup.{mem_mapping, mapping_mem}
use Rattle.format_translation.proofs.Fitting.{Fitting, KindsBelow, formed_fits, clause_code}
use Rattle.run_table.specs.Inner.Stands.{Stands}
use Rattle.run_table.specs.Inner.Table.{SpansAt, is_place, NumberedAt, Checked}
use Rattle.run_table.specs.Inner.Filling.{Below, CodeAsks, Spanned, FieldAsks, FieldSpanned, AllSpanned, ItemAt, Itemed}
use Rattle.run_table.proofs.Standing.{drop_stands}
use Rattle.run_table.proofs.Spans.{spans_kept, below_none, below_then}

-- A part that is not empty, and what follows it.
part_before : (b : List ℕ) (p e y : ℕ) (v : List ℕ) → slice p e b ≡ y ∷ v → drop p b ≡ (y ∷ v) ++ drop e b
part_before b p e y v h =
    let l : length (slice p e b) ≡ suc (length v) = ap length h in
    let m = length-drop p (take e b) in
    let i : p ≤ length (take e b) = omega (arith, l, m) in
    ap (drop p) (sym (take-append-drop e b)) ∙ (drop-append-le p (take e b) (drop e b) i ∙ ap (λ (z : List ℕ). z ++ drop e b) h)

part_bytes : (b : List ℕ) (p e : ℕ) → Bytes b → Bytes (slice p e b)
part_bytes b p e h =
    let t : Bytes (take e b) = (each_front _ (take e b) (drop e b) (rw (← take-append-drop e b) at h)).0 in
    (each_front _ (take p (take e b)) (drop p (take e b)) (rw (← take-append-drop p (take e b)) at t)).1

write_some : (a : Code) → (y : ℕ) × (v : List ℕ) × (write code a ≡ y ∷ v)
unfolding write
write_some (node k p t) = (1, p ∷ write_all code t, refl)
write_some (token v) = (2, v / 256 ∷ v % 256 ∷ [], refl)
write_some (argument i zero) = (3, i ∷ [], refl)
write_some (argument i (suc j)) = (4, i ∷ suc j ∷ [], refl)

-- A member is a place, and a place a member.
pub mem_place : (b : List ℕ) (x : ℕ) → Mem x (places b) → is_place b x ≡ true
mem_place b x m = mem_any (eqb x) (places b) x m (eq-eqb x x refl)

pub place_mem : (b : List ℕ) (x : ℕ) → is_place b x ≡ true → Mem x (places b)
place_mem b x h = let (y, m, e) = any_mem (eqb x) (places b) h in rw (eqb-true x y e) m

-- Two forms of items are different, and the parts of equal clauses are equal.
mapping_clause : {A : Type 0} {s i t r p j : ℕ} {c : List ℕ} → mapping s i t ≡ clause r p j c → A
mapping_clause {s = s} {i = i} {t = t} {r = r} {p = p} {j = j} {c = c} e = absurd (clash e)
  where
    clash : mapping s i t ≡ clause r p j c → ⊥
    clash e = let z : ◌≡◌ {A = ℕ} 0 1 = cc in omega arith

clause_parts : {r p i s q j : ℕ} {c d : List ℕ} → clause r p i c ≡ clause s q j d → (r ≡ s) × (p ≡ q) × (i ≡ j)
clause_parts e = (cc, cc, cc)

-- Where the code of a clause starts, and its number.
pub plain_start : (b : List ℕ) (p : ℕ) → get_or b p 0 ≡ 0x23 → (code_start b p ≡ p + 5) × (clause_number b p ≡ 0)
unfolding code_start clause_number
plain_start b p e = (rw e, rw e)

pub numbered_start : (b : List ℕ) (p : ℕ) → get_or b p 0 ≡ 0x29 → (code_start b p ≡ p + 6) × (clause_number b p ≡ get_or b (p + 5) 0)
unfolding code_start clause_number
numbered_start b p e = (rw e, rw e)

-- The code of the clause at p in the body.
abbrev pub code_at : List ℕ → Translation → ℕ → Code
code_at b f p = clauses_of f (get_or b (p + 3) 0) (get_or b (p + 4) 0) (clause_number b p)

-- What is known of the field at p, where it is a clause.
pub record FieldAt (b : List ℕ) (f : Translation) (p : ℕ) : Type 0 where
  pub kind : get_or b (p + 3) 0 < 32
  pub byte : clause_number b p < 256
  pub start : p + 5 ≤ code_start b p
  pub ends : field_end b p ≤ length b
  pub past : code_start b p ≤ field_end b p
  pub there : Mem (clause (get_or b (p + 3) 0) (get_or b (p + 4) 0) (clause_number b p) (slice (code_start b p) (field_end b p) b)) f.body

-- What is known of its code.
pub record ClauseAt (b : List ℕ) (f : Translation) (p : ℕ) : Type 0 where
  pub field : FieldAt b f p
  pub goal : ℕ
  pub maps : mapping_of f.body (get_or b (p + 3) 0) (clause_number b p) ≡ some goal
  pub below : goal < 32
  pub part : slice (code_start b p) (field_end b p) b ≡ write code (code_at b f p)
  pub typed : Typed f.target (uses_of f (get_or b (p + 3) 0) (get_or b (p + 4) 0)) (code_at b f p) (mapped f.body (get_or b (p + 3) 0) (clause_number b p))
  pub within : levels (code_at b f p) ≤ 16

-- A translation that was accepted rises, is well formed, and fits.
module _ {s t b : List ℕ} {f : Translation} (z : Checked s t b f) where
  pub whole : WholeTranslation f × (well_formed f ≡ value f)
  whole = let w = translation_whole z.file f z.accepted in (w.1, w.2)

  pub body_rises : Rising item_key f.body
  body_rises = is_rising item_key f.body (rises_parts f whole.0.rises).2

  kinds_below : KindsBelow f
  kinds_below k i = in_below s k f.source z.pieces.source i

  pub fits : Fitting f
  fits = (formed_fits f f kinds_below body_rises whole.1).0

  held : HoldsItems b f.body
  held = holds_items b f.body z.pieces.body

  item_is : (p : ℕ) → Mem p (places b) → ItemFacts b p
  item_is p m = item_facts b p (all_mem (item_whole b) (places b) held.whole p m)

  member : (p : ℕ) → Mem p (places b) → Mem (item_at b p) f.body
  member p m = rw (← held.items) (mem_map (item_at b) p (places b) m)

  field_there : (p : ℕ) → Mem p (places b) → is_clause_tag (get_or b p 0) ≡ true → FieldAt b f p
  field_there p m tag = go (item_is p m)
    where
      go : ItemFacts b p → FieldAt b f p
      go (plain_mapping a) = false_true (rw a.tag at tag)
      go (plain_clause a) =
          let y = plain_start b p a.tag in
          let past = a.past in
          record {
            kind = a.result;
            byte = rw y.1 (omega arith);
            start = rw y.0 (omega arith);
            ends = a.ends;
            past = rw y.0 past;
            there = rw (y.0, y.1) (rw (clause_is b p a) at (member p m));
          }
      go (numbered_mapping_lem a) = false_true (rw a.tag at tag)
      go (numbered_clause_lem a) =
          let y = numbered_start b p a.tag in
          let past = a.past in
          record {
            kind = a.result;
            byte = rw y.1 a.byte;
            start = rw y.0 (omega arith);
            ends = a.ends;
            past = rw y.0 past;
            there = rw (y.0, y.1) (rw (numbered_clause_is b p a) at (member p m));
          }

  -- The clause of a number other than 0 stands at a place.
  numbered_here : (x k n j : ℕ) (c : List ℕ) → 0 < j → Mem x (places b) → item_at b x ≡ clause k n j c → ItemFacts b x → NumberedAt b x k n j
  numbered_here x k n j c h m e (plain_mapping a) = mapping_clause (sym (mapping_is b x a) ∙ e)
  numbered_here x k n j c h m e (plain_clause a) = let y = clause_parts (sym (clause_is b x a) ∙ e) in absurd (omega (arith, y.2))
  numbered_here x k n j c h m e (numbered_mapping_lem a) = mapping_clause (sym (numbered_mapping_is b x a) ∙ e)
  numbered_here x k n j c h m e (numbered_clause_lem a) =
      let y = clause_parts (sym (numbered_clause_is b x a) ∙ e) in
      record { place = mem_place b x m; inside = omega (arith, a.past, a.ends); tag = a.tag; kind = y.0; name = y.1; number = y.2 }

  pub numbered_found : (k n j : ℕ) (ks : List ℕ) → 0 < j → arguments_of f.source k n ≡ some ks → is_some (mapping_of f.body k j) ≡ true
      → (x : ℕ) × NumberedAt b x k n j
  numbered_found k n j ks h e s =
      let (t, q) = some_is (mapping_of f.body k j) s in
      let (c, m) = fits.clauses k n j t ks (arguments_mem f.source k n ks e) (mapping_mem f.body k j t q) in
      let (x, i, d) = map_cases (item_at b) (clause k n j c) (places b) (rw held.items m) in
      (x, numbered_here x k n j c h i (sym d) (item_is x i))

  module _ (bytes : (i : ℕ) → get_or b i 0 < 256) where
    pub clause_there : (p : ℕ) → Mem p (places b) → is_clause_tag (get_or b p 0) ≡ true → ClauseAt b f p
    unfolding read_clause
    clause_there p m tag =
        let k : ℕ = get_or b (p + 3) 0 in
        let n : ℕ = get_or b (p + 4) 0 in
        let j : ℕ = clause_number b p in
        let w = field_there p m tag in
        let v : List ℕ = slice (code_start b p) (field_end b p) b in
        let (a, r) = fits.codes k n j v w.there in
        let (t, o) = (fits.clauses_only k n j v w.there).1 in
        let y : code_at b f p ≡ a = clause_code f body_rises k n j v a w.there r in
        let d = read_done code f.target (uses_of f k n) code_levels (mapped f.body k j) v a [] r in
        let is = (d.2 (part_bytes b (code_start b p) (field_end b p) (bytes_from b (λ i l. bytes i)))).0 ∙ append-nil (write code a) in
        record {
          field = w;
          goal = t;
          maps = mem_mapping f.body body_rises k j t o;
          below = in_below _ t f.target z.pieces.target (fits.maps_only k j t o).1;
          part = is ∙ ap (write code) (sym y);
          typed = rw y d.0;
          within = rw y d.1;
        }

  -- The clause of number 0 stands at a place.
  plain_here : (x k n : ℕ) (c : List ℕ) → item_at b x ≡ clause k n 0 c → ItemFacts b x → (get_or b x 0 ≡ 0x23) × (get_or b (x + 3) 0 ≡ k) × (get_or b (x + 4) 0 ≡ n)
  plain_here x k n c e (plain_mapping a) = mapping_clause (sym (mapping_is b x a) ∙ e)
  plain_here x k n c e (plain_clause a) = let y = clause_parts (sym (clause_is b x a) ∙ e) in (a.tag, y.0, y.1)
  plain_here x k n c e (numbered_mapping_lem a) = mapping_clause (sym (numbered_mapping_is b x a) ∙ e)
  plain_here x k n c e (numbered_clause_lem a) = let y = clause_parts (sym (numbered_clause_is b x a) ∙ e) in let more = a.number in absurd (omega (arith, y.2))

  -- What the places of the clauses, put into the table, find.
  pub clause_found : (t u : List ℕ) → Itemed b t u → (k n : ℕ) (ks : List ℕ) → k < 32 → arguments_of f.source k n ≡ some ks → ItemAt b u k n
  clause_found t u w k n ks h e =
      let there = arguments_mem f.source k n ks e in
      let (g, o) = fits.maps k (result_in f.source k n ks there) in
      let (c, m) = fits.clauses k n 0 g ks there o in
      let (x, i, d) = map_cases (item_at b) (clause k n 0 c) (places b) (rw held.items m) in
      let (tag, kind, name) = plain_here x k n c (sym d) (item_is x i) in
      rw (kind, name) at (w.items x (mem_place b x i) tag (rw kind h))

-- A clause's code stands in the body.
clause_stands : (b : List ℕ) (f : Translation) (p : ℕ) → ClauseAt b f p → Stands b (code_start b p) (write code (code_at b f p))
clause_stands b f p c =
    let v = write_some (code_at b f p) in
    let d = part_before b (code_start b p) (field_end b p) v.0 v.1 (c.part ∙ v.2) in
    let e = c.field.ends in
    let g = c.field.past in
    rw v.2 (drop_stands b (code_start b p) (v.0 ∷ v.1) (drop (field_end b p) b) (omega arith) d)

pub clause_length : (b : List ℕ) (f : Translation) (p : ℕ) → ClauseAt b f p → code_start b p + length (write code (code_at b f p)) ≡ field_end b p
clause_length b f p c =
    let l : length (write code (code_at b f p)) ≡ field_end b p - code_start b p = ap length (sym c.part) ∙ length-slice (code_start b p) (field_end b p) b c.field.ends in
    let g = c.field.past in
    omega (arith, l)

-- span_field
start_past : (b : List ℕ) (p : ℕ) → p ≤ code_start b p
unfolding code_start
start_past b p = by_test (eqb (get_or b p 0) 0x29) (λ e. rw e (omega arith)) (λ e. rw e (omega arith))

module _ (s index b uses : List ℕ) (p : ℕ) (t : List ℕ) where
  module _ (x j k : ℕ) (tag : is_clause_tag (get_or b p 0) ≡ true) (ex : x ≡ get_or b (p + 3) 0) (ej : j ≡ clause_number b p) (ek : k ≡ mapped_by uses x j) where
    same_kind : k ≡ mapped_by uses (get_or b (p + 3) 0) (clause_number b p)
    same_kind = rw (ek, ex, ej)

    pub field_spanned : (c : ℕ) → c ≡ code_start b p → (u : List ℕ) (r : ℕ) → ((l : Language) (given : Uses) (a : Code) → CodeAsks s index b k c 16 l given a → Spanned t u c a r)
        → (l : Language) (given : Uses) (a : Code) → FieldAsks s index b uses p l given a → FieldSpanned b p t u a
    field_spanned c ec u r h l given a w =
        let y = h l given a (rw (same_kind, ec) (w.code tag)) in
        let m = start_past b p in
        record { below = below_then t t u p c (omega arith) (below_none t p) y.below; spans = λ e. rw ec at y.spans }

-- span_all: the fields before p have their spans.
abbrev Done : List ℕ → List ℕ → ℕ → Translation → ℕ → Type 0
Done b u p f x = (field_end b x ≤ p) × (is_clause_tag (get_or b x 0) ≡ true → SpansAt u (code_start b x) (code_at b f x))

pub record Walked (b t u : List ℕ) (p : ℕ) (f : Translation) : Type 0 where
  pub below : Below t u 0
  pub rest : (x : ℕ) → Mem x (places_from b p) → Mem x (places b)
  pub done : (x : ℕ) → Mem x (places b) → Mem x (places_from b p) ⊎ Done b u p f x

-- What is asked of the whole.
pub record WalkAsks (s target index b uses : List ℕ) (f : Translation) : Type 0 where
  pub checked : Checked s target b f
  pub indexed : Indexed index target f.target
  pub mapped : Mapped uses f.body

abbrev pub Walk : List ℕ → List ℕ → List ℕ → List ℕ → List ℕ → List ℕ → ℕ → Type 0
Walk target index b uses t u p = (s : List ℕ) (f : Translation) → WalkAsks s target index b uses f → Walked b t u p f

module _ (target index b uses t u : List ℕ) (p : ℕ) (bytes : (i : ℕ) → get_or b i 0 < 256) where
  module _ (s : List ℕ) (f : Translation) (w : WalkAsks s target index b uses f) (y : Walked b t u p f) where
    abbrev given_here : Uses
    given_here = uses_of f (get_or b (p + 3) 0) (get_or b (p + 4) 0)

    kind_here : ClauseAt b f p → mapped_by uses (get_or b (p + 3) 0) (clause_number b p) ≡ mapped f.body (get_or b (p + 3) 0) (clause_number b p)
    kind_here c = mapped_is uses f.body w.mapped _ _ c.field.kind c.field.byte

    goal_here : (c : ClauseAt b f p) → mapped f.body (get_or b (p + 3) 0) (clause_number b p) ≡ c.goal
    unfolding mapped
    goal_here c = rw c.maps

    field_asks : Mem p (places b) → FieldAsks target index b uses p f.target given_here (code_at b f p)
    field_asks m = record {
      kind = λ e.
          let c = clause_there w.checked bytes p m e in
          rw (kind_here c, goal_here c) c.below;
      code = λ e.
          let c = clause_there w.checked bytes p m e in
          record {
            indexed = w.indexed;
            typed = rw (kind_here c) c.typed;
            stands = clause_stands b f p c;
            within = c.within;
          };
    }

    done_kept : (v : List ℕ) → Below u v p → (x : ℕ) → Mem x (places b) → field_end b x ≤ p → (is_clause_tag (get_or b x 0) ≡ true → SpansAt u (code_start b x) (code_at b f x))
        → is_clause_tag (get_or b x 0) ≡ true → SpansAt v (code_start b x) (code_at b f x)
    done_kept v h x m e g tag =
        let c = clause_there w.checked bytes x m tag in
        let l = clause_length b f x c in
        spans_kept u v (code_at b f x) (code_start b x) (λ j i k. h.same (21568 + j) (omega arith)) (g tag)

    done_here : (v : List ℕ) (e x : ℕ) → x ≡ p → e ≡ field_end b p → (is_clause_tag (get_or b p 0) ≡ true → SpansAt v (code_start b p) (code_at b f p)) → Done b v e f x
    done_here v e x d ee g =
        let h : field_end b x ≤ e = rw (d, ee) (omega arith) in
        (h, λ tag. let i : is_clause_tag (get_or b p 0) ≡ true = rw d at tag in rw d (g i))

    walked_next : (v : List ℕ) (e : ℕ) → p < length b → e ≡ field_end b p
        → ((l : Language) (given : Uses) (a : Code) → FieldAsks target index b uses p l given a → FieldSpanned b p u v a) → Walked b t v e f
    walked_next v e h ee spans =
        let n = places_next b p h in
        let here : Mem p (places_from b p) = rw n (inl refl) in
        let m = y.rest p here in
        let g = spans f.target given_here (code_at b f p) (field_asks m) in
        let past = end_past b p in
        record {
          below = below_then t u v 0 p (omega arith) y.below g.below;
          rest = λ x i. y.rest x (rw n (inr (rw ee at i)));
          done = λ x i. ⊎_elim
              (λ j. ⊎_elim
              (λ d. inr (done_here v e x d ee g.spans))
              (λ k. inl (rw ee k))
              (rw n at j))
              (λ d. inr (omega (arith, d.0), λ tag. done_kept v g.below x i d.0 d.1 tag))
              (y.done x i);
        }

  pub walk_next : (v : List ℕ) (e : ℕ) → p < length b → e ≡ field_end b p
      → ((l : Language) (given : Uses) (a : Code) → FieldAsks target index b uses p l given a → FieldSpanned b p u v a)
      → Walk target index b uses t u p → Walk target index b uses t v e
  walk_next v e h ee spans y s f w = walked_next s f w (y s f w) v e h ee spans

  pub walk_ends : length b ≤ p → Walk target index b uses t u p
      → (s : List ℕ) (f : Translation) → Checked s target b f → Indexed index target f.target → Mapped uses f.body → AllSpanned b t u f
  walk_ends h y s f z i j =
      let w = y s f (record { checked = z; indexed = i; mapped = j }) in
      record {
        below = w.below;
        spans = λ x m tag.
            ⊎_elim
            (λ n. absurd (rw (places_done b p h) at n))
            (λ d. d.1 tag)
            (w.done x (place_mem b x m));
      }
