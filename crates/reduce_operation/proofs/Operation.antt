-- The operation reduce: what is ready, what its term comes to, and what is delivered.
use Rattle.std.specs.Prelude.{Err, Ok, Option}
use Prim.Native.Nat.{ℕ, ◌+◌, ◌≤◌}
use mathlib.Core.Path.{◌≡◌, refl, ap, sym, subst, ◌∙◌}
use mathlib.Core.Bool.{Bool, true, false, not, ◌||◌}
use mathlib.Core.List.{List, [], ◌∷◌, ◌++◌}
use mathlib.Core.Option.{none, some}
use native.Mathlib.Omega.{arith}
use lib.ListN.{length, take, drop, get_or, replicate, length-take}
use lib.Seq.{length-take-le}
use lib.Dec.{ltb}
use borrow.Author.Tests.{ltb-false}
use Rattle.outcome.specs.Outcome.{Result, value, refused, refuse_if, ◌>>=◌, checked, written, output_after, Outcome}
use Rattle.outcome.specs.declared.Reason.{Reason}
use Rattle.outcome.specs.declared.Reason.TheVariants.{BuffersTooShort, IllegalTerm as TermRefused}
use Rattle.format_fields.proofs.Truth.{or_false, true_not}
use Rattle.format_fields.proofs.Codec.{refused_value}
use Rattle.format_translation.specs.Translation.{Translation}
use Rattle.format_translation.proofs.Fitting.{refuse_value}
use Rattle.format_fields.specs.Inner.Writing.{Stores, spliced}
use Rattle.format_pack.specs.Terms.{Term, translations, Parse, read_term, scoped}
use Rattle.format_pack.specs.Pack.{Pack, pack_of, term_of, whole_term, term_limit}
use Rattle.reduce_signs.specs.declared.places.Places.{Places}
use Rattle.reduce_signs.specs.Evaluation.{constants_of, nothing_bound, evaluate}
use Rattle.reduce_operation.specs.Operations.{Ready, ready, work, reduce_bytes, workspace_after, reduce}
use Rattle.reduce_operation.specs.Inner.Delivery.{file_of}
use Rattle.reduce_signs.specs.Inner.Values.{Evaluated, Sized}
use Rattle.reduce_terms.specs.Inner.Reducing.{Context, Stands, Left, Says, Gives}
use Rattle.reduce_terms.proofs.Evaluated.{step_value, value_inj}
use Rattle.reduce_terms.proofs.Holding.{nothing_held}
use Rattle.reduce_signs.proofs.Copying.{saves}

-- A term of a pack that is accepted: it is read whole, and in scope.
pub whole_term_lem : (l b : ℕ) (o : Parse (Term translations)) (t : Term translations) → whole_term l b o ≡ value t → (o ≡ some (t, [])) × (scoped l b t ≡ true)
whole_term_lem l b none t e = refused_value e
whole_term_lem l b (some (u, x ∷ s)) t e = refused_value e
whole_term_lem l b (some (u, [])) t e =
    let r = refuse_value (not (scoped l b u)) TermRefused (value u) e in
    let q : u ≡ t = value_inj r.1 in
    (ap (λ (v : Term translations). some (v, [])) q, rw (← q) (true_not (scoped l b u) r.0))

-- The pack, the term and the lent room are accepted.
pub ready_value : (bytes : List ℕ) (w o : ℕ) (r : Ready) → ready bytes w o ≡ value r
    → (pack_of bytes ≡ value r.pack) × (term_of r.pack ≡ value r.term) × ((ltb w 65536 || ltb o 4096) ≡ false)
unfolding ready
ready_value bytes w o r e =
    let a = step_value (pack_of bytes) _ e in
    let b = step_value (term_of a.0) _ a.2 in
    let c = refuse_value (ltb w 65536 || ltb o 4096) BuffersTooShort _ b.2 in
    let q : record { pack = a.0; term = b.0 } ≡ r = value_inj c.1 in
    subst (λ (x : Ready). (pack_of bytes ≡ value x.pack) × (term_of x.pack ≡ value x.term) × ((ltb w 65536 || ltb o 4096) ≡ false)) q (a.1, b.1, c.0)

-- What a check says of what it checked.
checked_refused : {A : Type 0} (r : Result A) {z : Reason} → checked r ≡ Err z → r ≡ refused z
checked_refused (value a) e = let z : ◌≡◌ {A = ℕ} 0 1 = cc in absurd (omega arith)
checked_refused (refused w) e = cc

pub checked_value : {A : Type 0} (r : Result A) {q : Outcome} {n : ℕ} → q ≡ checked r → q ≡ Ok n → (a : A) × (r ≡ value a)
checked_value (value a) e d = (a, refl)
checked_value (refused w) e d = let z : ◌≡◌ {A = ℕ} 0 1 = cc in absurd (omega arith)

module _ (s : List ℕ) (w o : ℕ) where
  -- The pack is refused.
  pub ready_pack : {q : Outcome} {z : Reason} → q ≡ checked (pack_of s) → q ≡ Err z → q ≡ checked (ready s w o)
  unfolding ready
  ready_pack e d = let h = checked_refused (pack_of s) (sym e ∙ d) in rw h d

  module _ {p : Pack} (opens : pack_of s ≡ value p) where
    -- Its term is refused.
    pub ready_term : {q : Outcome} {z : Reason} → q ≡ checked (term_of p) → q ≡ Err z → q ≡ checked (ready s w o)
    unfolding ready
    ready_term e d = let h = checked_refused (term_of p) (sym e ∙ d) in rw (opens, h) d

    -- The room is, or is not, enough.
    pub ready_room : {t : Term translations} {q : Outcome} → term_of p ≡ value t → (b : Bool) → (ltb w 65536 || ltb o 4096) ≡ b
        → q ≡ checked {A = Ready} (refuse_if b BuffersTooShort (value (record { pack = p; term = t }))) → q ≡ checked (ready s w o)
    unfolding ready
    ready_room e b d h = rw (opens, e, d) h

-- What evaluation asks for.
abbrev pub work_context : (pack workspace : List ℕ) (places : Places) (p : Pack) → pack_of pack ≡ value p → Sized places × ((j : ℕ) → get_or places.starts j 0 ≡ 0) → 65536 ≤ length workspace
    → Context pack places workspace 0 12
work_context pack workspace places p e h l = record {
  pack = p;
  packed = e;
  environment = nothing_bound;
  held = nothing_held places (take 0 workspace) h.0 h.1;
  room = omega arith;
}

pub term_whole : (p : Pack) (t : Term translations) → term_of p ≡ value t
    → (read_term 12 translations p.term ≡ some (t, [])) × (scoped (length p.languages) (length p.bodies) t ≡ true)
unfolding term_of
term_whole p t e = whole_term_lem (length p.languages) (length p.bodies) (read_term term_limit translations p.term) t e

abbrev pub work_stands : (p : Pack) (t : Term translations) (bytes : List ℕ) → bytes ≡ p.term → term_of p ≡ value t → Stands p translations bytes 12
work_stands p t bytes e d =
    let r = term_whole p t d in
    record { term = t; rest = []; reads = ap (read_term 12 translations) e ∙ r.0; in_scope = r.1 }

-- What it gives, of every pack and term that are ready.
pub work_says : {pack workspace after out filled : List ℕ} {places : Places} {start : ℕ} {w : Evaluated} (d : Ready) (e : pack_of pack ≡ value d.pack) (t : term_of d.pack ≡ value d.term)
    → (drop start pack ≡ d.pack.term) → (h : Sized places × ((j : ℕ) → get_or places.starts j 0 ≡ 0)) → 65536 ≤ length workspace
    → Gives translations pack places workspace after 0 start 12 out filled w
    → Says translations (evaluate (constants_of d.pack) nothing_bound d.term) pack [] filled w
work_says {pack} {workspace} {places = places} d e t q h l g = g.says (work_context pack workspace places d.pack e h l) (work_stands d.pack d.term _ q t)

-- What is written, where it has room.
pub write_done : {v output after : List ℕ} {r : Option ℕ} → Stores v output after 0 r → length v ≤ length output → after ≡ output_after output (value v)
unfolding spliced
write_done {v} {output} {after} {r} s h =
    let z : 0 + length v ≡ length v = omega arith in
    saves v output after 0 r s (omega arith) ∙ ap (λ (i : ℕ). v ++ drop i output) z

pub short_take : (n m : ℕ) (v : List ℕ) → n ≤ m → length (take n v) ≤ m
short_take n m v h = rw (length-take n v) (omega arith)

-- What is delivered where it is refused, and where it is not.
module _ (o : Result Translation) (bytes rest buffer : List ℕ) {w : Evaluated} (says : Says translations o bytes rest buffer w) where
  pub deliver_refused : (output : List ℕ) {z : Reason} {q : Outcome} → w ≡ Err z → q ≡ Err z → (q ≡ written (file_of o)) × (output ≡ output_after output (file_of o))
  deliver_refused output e d =
      let h = subst (Says translations o bytes rest buffer) e says in
      (d ∙ sym (ap (λ (x : Result Translation). written (file_of x)) h), sym (ap (λ (x : Result Translation). output_after output (file_of x)) h))

  pub deliver_left : {n end : ℕ} → w ≡ Ok (record { value = n; term = end }) → Left translations o buffer n
  deliver_left e = (subst (Says translations o bytes rest buffer) e says).0

  pub deliver_done : (output after : List ℕ) {n end : ℕ} {q : Outcome} → w ≡ Ok (record { value = n; term = end }) → (q ≡ Ok n) × (after ≡ output_after output (value (take n buffer)))
      → (q ≡ written (file_of o)) × (after ≡ output_after output (file_of o))
  deliver_done output after {n} e d =
      let h = deliver_left e in
      let l : length (take n buffer) ≡ n = length-take-le n buffer h.inside in
      let f : file_of o ≡ value (take n buffer) = ap file_of h.comes ∙ ap value (sym h.bytes) in (
        d.0 ∙ (ap Ok (sym l) ∙ sym (ap written f)),
        d.1 ∙ sym (ap (output_after output) f),
      )

-- The operation, refused before terms are evaluated, and after.
module _ (s w o : List ℕ) where
  abbrev pub Is : Outcome → List ℕ → List ℕ → Type 0
  Is q output workspace = (q ≡ (reduce s w o).outcome) × (output ≡ (reduce s w o).output) × (workspace ≡ (reduce s w o).workspace)

  pub reduce_refused : {q : Outcome} {z : Reason} → q ≡ checked (ready s (length w) (length o)) → q ≡ Err z → Is q o w
  unfolding reduce reduce_bytes
  reduce_refused e d =
      let h = checked_refused (ready s (length w) (length o)) (sym e ∙ d) in
      (d ∙ sym (ap (λ (r : Result Ready). written (r >>= work)) h), sym (ap (λ (r : Result Ready). output_after o (r >>= work)) h), sym (ap (workspace_after w) h))

  pub reduce_ready : {q : Outcome} {n : ℕ} → q ≡ checked (ready s (length w) (length o)) → q ≡ Ok n
      → ((d : Ready) × (pack_of s ≡ value d.pack) × (term_of d.pack ≡ value d.term)) × (65536 ≤ length w) × (4096 ≤ length o)
  reduce_ready e d =
      let r = checked_value (ready s (length w) (length o)) e d in
      let v = ready_value s (length w) (length o) r.0 r.1 in
      let l = or_false (ltb (length w) 65536) (ltb (length o) 4096) v.2 in
      ((r.0, v.0, v.1), ltb-false (length w) 65536 l.0, ltb-false (length o) 4096 l.1)

  pub reduce_done : (filled : List ℕ) (x : Evaluated) {q y : Outcome} {n : ℕ} {output cleared : List ℕ} → q ≡ checked (ready s (length w) (length o)) → q ≡ Ok n
      → ((d : Ready) → pack_of s ≡ value d.pack → term_of d.pack ≡ value d.term → Says translations (evaluate (constants_of d.pack) nothing_bound d.term) s [] filled x)
      → ((v : Result Translation) (bytes rest : List ℕ) → Says translations v bytes rest filled x → (y ≡ written (file_of v)) × (output ≡ output_after o (file_of v)))
      → (m : ℕ) → m ≡ length w → cleared ≡ replicate m 0 → Is y output cleared
  unfolding reduce reduce_bytes work
  reduce_done filled x e d f g m l z =
      let r = checked_value (ready s (length w) (length o)) e d in
      let v = ready_value s (length w) (length o) r.0 r.1 in
      let k = g _ _ _ (f r.0 v.0 v.1) in (
        k.0 ∙ sym (ap (λ (x : Result Ready). written (x >>= work)) r.1),
        k.1 ∙ sym (ap (λ (x : Result Ready). output_after o (x >>= work)) r.1),
        z ∙ (ap (λ (i : ℕ). replicate i 0) l ∙ sym (ap (workspace_after w) r.1)),
      )
