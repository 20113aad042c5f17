-- How two terms compare, from what their values are.
use Prim.Native.Nat.{ℕ}
use mathlib.Core.Path.{◌≡◌, ap, sym, ◌∙◌}
use mathlib.Core.Bool.{true}
use mathlib.Core.List.{List}
use lib.ListN.{length}
use Rattle.outcome.specs.Outcome.{Result, value, number_of, length_of, written, output_after}
use Rattle.format_fields.specs.Fields.{Field}
use Rattle.format_translation.specs.Translation.{Translation}
use Rattle.format_translation.specs.TranslationFile.{encode_translation}
use Rattle.format_pack.specs.Terms.{Term, translations, scoped}
use Rattle.reduce_signs.specs.Evaluation.{Constants, constants_of, nothing_bound, evaluate}
use Rattle.reduce_operation.specs.Operations.{reduce_bytes, reduce}
use Rattle.reduce_terms.proofs.Evaluated.{GoodConstants}
use Rattle.laws.specs.Packed.{packed, put_out, WithinLimits, AcceptedToo, AcceptedAlike, EqualWhereAccepted, Compared}
use Rattle.laws.proofs.Reductions.{accepted_value, value_accepted, put_out_lem, reduction, reduction_good, reduce_other, value_under}

-- A term that is in scope leaves another in scope.
abbrev pub ScopedToo : Term translations → Term translations → Type 0
ScopedToo a b = (l n : ℕ) → scoped l n a ≡ true → scoped l n b ≡ true

-- What a term comes to, another comes to as well.
abbrev pub ValueToo : Term translations → Term translations → Type 0
ValueToo a b = (c : Constants) → GoodConstants c → (v : Translation) → evaluate c nothing_bound a ≡ value v → evaluate c nothing_bound b ≡ value v

-- So where a pack with the one is accepted, so is the pack with the other, with the same bytes.
reduced_too : (a b : Term translations) → ScopedToo a b → ValueToo a b → (fields : List Field) → WithinLimits fields b → (w o : ℕ) (bytes : List ℕ)
    → reduce_bytes (packed fields a) w o ≡ value bytes → reduce_bytes (packed fields b) w o ≡ value bytes
reduced_too a b s h fields limits w o bytes e =
    let r = reduction fields a w o bytes e in
    let pack = r.0.pack in
    let v = h (constants_of pack) (reduction_good r.0) r.0.result r.0.evaluates in
    reduce_other fields a b pack w o r.0.result r.0.opens limits.short limits.levels (s _ _ r.0.in_scope) r.1 v ∙ ap value r.0.encodes

-- Two results with the same bytes.
same_length : (x y : Result (List ℕ)) (bytes : List ℕ) → x ≡ value bytes → y ≡ value bytes → length_of (written x) ≡ length_of (written y)
same_length x y bytes p q = ap (λ (r : Result (List ℕ)). length_of (written r)) (p ∙ sym q)

same_bytes : (x y : Result (List ℕ)) (o o' bytes : List ℕ) → x ≡ value bytes → y ≡ value bytes → put_out (written x) (output_after o x) ≡ put_out (written y) (output_after o' y)
same_bytes x y o o' bytes p q = put_out_lem o x bytes p ∙ sym (put_out_lem o' y bytes q)

-- Workspace and output count only by their lengths.
same_room : (pack w w' o o' : List ℕ) → length w' ≡ length w → length o' ≡ length o
    → reduce_bytes pack (length w) (length o) ≡ reduce_bytes pack (length w') (length o')
same_room pack w w' o o' ew eo = λ i. reduce_bytes pack (sym ew i) (sym eo i)

-- Accepted too.
pub accepted_too : (a b : Term translations) → ScopedToo a b → ValueToo a b → Compared AcceptedToo a b
unfolding reduce
accepted_too a b s h fields la lb w w' o o' ew eo =
    let x = reduce_bytes (packed fields a) (length w) (length o) in
    let y = reduce_bytes (packed fields b) (length w') (length o') in
    let onward : (bytes : List ℕ) → x ≡ value bytes → y ≡ value bytes
    = λ bytes e. sym (same_room (packed fields b) w w' o o' ew eo) ∙ reduced_too a b s h fields lb (length w) (length o) bytes e in
    record {
      accepted = λ e. let v = accepted_value x e in value_accepted y v.0 (onward v.0 v.1);
      lengths = λ e. let v = accepted_value x e in same_length x y v.0 v.1 (onward v.0 v.1);
      bytes = λ e. let v = accepted_value x e in same_bytes x y o o' v.0 v.1 (onward v.0 v.1);
    }

-- Accepted alike, where each comes to what the other comes to.
pub accepted_alike : (a b : Term translations) → ScopedToo a b → ScopedToo b a → ValueToo a b → ValueToo b a → Compared AcceptedAlike a b
accepted_alike a b s t h k fields la lb w w' o o' ew eo = record {
  onward = accepted_too a b s h fields la lb w w' o o' ew eo;
  back = accepted_too b a t k fields lb la w' w o' o (sym ew) (sym eo);
}

-- Equal bytes, where both are accepted and two values that they come to are equal.
equal_bytes : (a b : Term translations)
    → ((c : Constants) → GoodConstants c → (u v : Translation) → evaluate c nothing_bound a ≡ value u → evaluate c nothing_bound b ≡ value v → u ≡ v)
    → (fields : List Field) (w o w' o' : ℕ) (x y : List ℕ)
    → reduce_bytes (packed fields a) w o ≡ value x → reduce_bytes (packed fields b) w' o' ≡ value y → y ≡ x
equal_bytes a b h fields w o w' o' x y e d =
    let r = (reduction fields a w o x e).0 in
    let s = (reduction fields b w' o' y d).0 in
    let same = h (constants_of r.pack) (reduction_good r) r.result s.result r.evaluates (value_under r s) in
    sym s.encodes ∙ (ap encode_translation (sym same) ∙ r.encodes)

pub equal_where_accepted : (a b : Term translations)
    → ((c : Constants) → GoodConstants c → (u v : Translation) → evaluate c nothing_bound a ≡ value u → evaluate c nothing_bound b ≡ value v → u ≡ v)
    → Compared EqualWhereAccepted a b
unfolding reduce
equal_where_accepted a b h fields la lb w w' o o' ew eo =
    let x = reduce_bytes (packed fields a) (length w) (length o) in
    let y = reduce_bytes (packed fields b) (length w') (length o') in
    let too : (e : number_of (written x) ≡ 0) → number_of (written y) ≡ 0 → y ≡ value (accepted_value x e).0
    = λ e d. let u = accepted_value x e in let v = accepted_value y d in
    v.1 ∙ ap value (equal_bytes a b h fields (length w) (length o) (length w') (length o') u.0 v.0 u.1 v.1) in
    record {
      lengths = λ e d. same_length x y (accepted_value x e).0 (accepted_value x e).1 (too e d);
      bytes = λ e d. same_bytes x y o o' (accepted_value x e).0 (accepted_value x e).1 (too e d);
    }
