-- What an accepted reduction was made of, and how one is made.
use Prim.Native.Nat.{ℕ, ◌+◌, ◌≤◌}
use mathlib.Core.Path.{◌≡◌, refl, ap, sym, ◌∙◌}
use mathlib.Core.Bool.{true, false, ◌||◌}
use mathlib.Core.Option.{some}
use mathlib.Core.List.{List, [], ◌++◌, append-nil}
use native.Mathlib.Omega.{arith}
use lib.ListN.{length, drop}
use lib.Seq.{take-append_seam}
use lib.Dec.{ltb}
use Rattle.outcome.specs.Outcome.{Result, value, refused, reason_number, number_of, written, output_after}
use Rattle.format_fields.specs.Fields.{Field}
use Rattle.outcome.specs.declared.Reason.{Reason}
use Rattle.outcome.specs.declared.Reason.TheVariants.{TooLong, BrokenField, OutOfOrder, ClassIsResult, WrongMapping, WrongClauses, IllegalCode, IllegalTerm as TermRefused, BuffersTooShort, UnboundVariable, ValueTooLarge, SumUnfit, JoinUnfit, UnknownRoot, IllegalTree, TooDeep, OutputTooShort, BrokenTable, ScoreOutOfRange, NotAnExport, NoBlock, NotIndexed, NoSource, LimitOutOfRange, Hidden, NumberUnfit}
use Rattle.format_fields.proofs.Truth.{some_inj}
use Rattle.format_translation.specs.Translation.{Translation}
use Rattle.format_translation.specs.TranslationFile.{encode_translation}
use Rattle.format_pack.specs.Terms.{Sort, translations, Term, write_term, term_levels, read_term, scoped}
use Rattle.format_pack.specs.Pack.{Pack, pack_of, pack_limit, term_limit, term_of}
use Rattle.reduce_signs.specs.Evaluation.{Constants, constants_of, nothing_bound, evaluate}
use Rattle.reduce_operation.specs.Operations.{ready, work, reduce_bytes}
use Rattle.format_pack.proofs.TermCodec.{read_write, read_sound}
use Rattle.format_pack.proofs.PackCodec.{pack_term, pack_short, pack_good}
use Rattle.reduce_terms.proofs.Evaluated.{step_value, value_inj, GoodConstants}
use Rattle.reduce_operation.proofs.Operation.{whole_term_lem, ready_value}
use Rattle.laws.specs.Packed.{packed, put_out}

-- No refusal has the number 0.
reason_positive : (r : Reason) → reason_number r ≡ 0 → ⊥
reason_positive TooLong e = omega arith
reason_positive BrokenField e = omega arith
reason_positive OutOfOrder e = omega arith
reason_positive ClassIsResult e = omega arith
reason_positive WrongMapping e = omega arith
reason_positive WrongClauses e = omega arith
reason_positive IllegalCode e = omega arith
reason_positive TermRefused e = omega arith
reason_positive BuffersTooShort e = omega arith
reason_positive UnboundVariable e = omega arith
reason_positive ValueTooLarge e = omega arith
reason_positive SumUnfit e = omega arith
reason_positive JoinUnfit e = omega arith
reason_positive UnknownRoot e = omega arith
reason_positive IllegalTree e = omega arith
reason_positive TooDeep e = omega arith
reason_positive OutputTooShort e = omega arith
reason_positive BrokenTable e = omega arith
reason_positive ScoreOutOfRange e = omega arith
reason_positive NotAnExport e = omega arith
reason_positive NoBlock e = omega arith
reason_positive NotIndexed e = omega arith
reason_positive NoSource e = omega arith
reason_positive LimitOutOfRange e = omega arith
reason_positive Hidden e = omega arith
reason_positive NumberUnfit e = omega arith

-- The number 0 is a value.
pub accepted_value : (r : Result (List ℕ)) → number_of (written r) ≡ 0 → (bytes : List ℕ) × (r ≡ value bytes)
accepted_value (value bytes) e = (bytes, refl)
accepted_value (refused r) e = absurd (reason_positive r e)

pub value_accepted : (r : Result (List ℕ)) (bytes : List ℕ) → r ≡ value bytes → number_of (written r) ≡ 0
value_accepted r bytes e = rw e

-- What was put out is the value.
pub put_out_lem : (output : List ℕ) (r : Result (List ℕ)) (bytes : List ℕ) → r ≡ value bytes → put_out (written r) (output_after output r) ≡ bytes
put_out_lem output r bytes e = rw e (take-append_seam bytes (drop (length bytes) output))

-- Reading a written term gives that term, whatever the levels.
term_unique : {s : Sort} (n : ℕ) (t u : Term s) (r : List ℕ) → read_term n s (write_term t) ≡ some (u, []) → u ≡ t
term_unique n t u r e =
    let same : write_term t ++ [] ≡ write_term u ++ [] = append-nil (write_term t) ∙ (read_sound n (write_term t) [] u e).0 in
    let a = read_write t (term_levels t + term_levels u) [] (omega arith) in
    let b = read_write u (term_levels t + term_levels u) [] (omega arith) in
    pair_first (some_inj (sym b ∙ (ap (read_term (term_levels t + term_levels u) _) (sym same) ∙ a)))
  where
    pair_first : {A : Type 0} {x y : A} {p q : List ℕ} → ◌≡◌ {A = A × List ℕ} (x, p) (y, q) → x ≡ y
    pair_first q = ap (λ (z : _ × List ℕ). z.0) q

-- What an accepted reduction of a pack with this term was made of.
pub record Reduction (fields : List Field) (term : Term translations) (bytes : List ℕ) : Type 0 where
  pub pack : Pack
  pub opens : pack_of (packed fields term) ≡ value pack
  pub in_scope : scoped (length pack.languages) (length pack.bodies) term ≡ true
  pub result : Translation
  pub evaluates : evaluate (constants_of pack) nothing_bound term ≡ value result
  pub encodes : encode_translation result ≡ bytes

term_value : (p : Pack) (t u : Term translations) → p.term ≡ write_term t → term_of p ≡ value u → (u ≡ t) × (scoped (length p.languages) (length p.bodies) u ≡ true)
unfolding term_of
term_value p t u e d =
    let r = whole_term_lem (length p.languages) (length p.bodies) (read_term term_limit translations p.term) u d in
    (term_unique term_limit t u [] (ap (read_term term_limit translations) (sym e) ∙ r.0), r.1)

pub reduction : (fields : List Field) (t : Term translations) (w o : ℕ) (bytes : List ℕ) → reduce_bytes (packed fields t) w o ≡ value bytes
    → Reduction fields t bytes × ((ltb w 65536 || ltb o 4096) ≡ false)
unfolding reduce_bytes work
reduction fields t w o bytes e =
    let a = step_value (ready (packed fields t) w o) work e in
    let r = ready_value (packed fields t) w o a.0 a.1 in
    let b = step_value (evaluate (constants_of a.0.pack) nothing_bound a.0.term) (λ f. value (encode_translation f)) a.2 in
    let p = pack_term fields (write_term t) (write_term t) a.0.pack r.0 (pack_short (packed fields t) a.0.pack r.0) in
    let u = term_value a.0.pack t a.0.term p.0 r.1 in (
      record {
        pack = a.0.pack;
        opens = r.0;
        in_scope = ap (scoped (length a.0.pack.languages) (length a.0.pack.bodies)) (sym u.0) ∙ u.1;
        result = b.0;
        evaluates = ap (evaluate (constants_of a.0.pack) nothing_bound) (sym u.0) ∙ b.1;
        encodes = value_inj b.2;
      },
      r.2,
    )

-- The constants of an accepted pack are good.
pub constants_good : (bytes : List ℕ) (p : Pack) → pack_of bytes ≡ value p → GoodConstants (constants_of p)
constants_good bytes p e = let g = pack_good bytes p e in record { languages = g.0; bodies = g.1 }

-- So are those of a pack whose reduction was accepted.
pub reduction_good : {fields : List Field} {t : Term translations} {bytes : List ℕ} (r : Reduction fields t bytes) → GoodConstants (constants_of r.pack)
reduction_good {fields} {t} r = constants_good (packed fields t) r.pack r.opens

-- Packs that differ only in field 32 have the same constants.
same_constants : {fields : List Field} {t u : Term translations} {x y : List ℕ} (r : Reduction fields t x) (s : Reduction fields u y)
    → constants_of r.pack ≡ constants_of s.pack
same_constants {fields} {t} {u} r s =
    let q = pack_term fields (write_term t) (write_term u) r.pack r.opens (pack_short (packed fields u) s.pack s.opens) in
    ap constants_of (value_inj (sym q.1 ∙ s.opens))

-- The value of a reduced term, under the constants of a pack with another term.
pub value_under : {fields : List Field} {t u : Term translations} {x y : List ℕ} (r : Reduction fields t x) (s : Reduction fields u y)
    → evaluate (constants_of r.pack) nothing_bound u ≡ value s.result
value_under {u = u} r s = ap (λ (c : Constants). evaluate c nothing_bound u) (same_constants r s) ∙ s.evaluates

-- The same pack with another term, which is within the limits and in scope, reduces to what that term comes to.
pub reduce_other : (fields : List Field) (t u : Term translations) (p : Pack) (w o : ℕ) (f : Translation) → pack_of (packed fields t) ≡ value p
    → length (packed fields u) ≤ pack_limit → term_levels u ≤ term_limit → scoped (length p.languages) (length p.bodies) u ≡ true
    → (ltb w 65536 || ltb o 4096) ≡ false → evaluate (constants_of p) nothing_bound u ≡ value f
    → reduce_bytes (packed fields u) w o ≡ value (encode_translation f)
unfolding reduce_bytes ready work term_of
reduce_other fields t u p w o f e short levels s room v =
    let q = (pack_term fields (write_term t) (write_term u) p e short).1 in
    let d : read_term term_limit translations (write_term u) ≡ some (u, []) = ap (read_term term_limit translations) (sym (append-nil (write_term u))) ∙ read_write u term_limit [] levels in
    rw (q, d, s, room, v)
