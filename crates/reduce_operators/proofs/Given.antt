-- What an operator gives once its value is written, or where there is none.
use Rattle.std.specs.Prelude.{Err, None, Ok, Option, Some}
use Prim.Native.Nat.{ℕ, ◌+◌, ◌/◌, ◌%◌, ◌≤◌, ◌<◌}
use mathlib.Core.Path.{◌≡◌, refl, sym, ap, ◌∙◌}
use mathlib.Core.List.{List, [], ◌∷◌, ◌++◌, map}
use native.Mathlib.Omega.{arith}
use lib.ListN.{length, take, drop}
use lib.Seq.{slice, take-append_seam, take-length, length-take-le}
use lib.Dec.{ltb}
use borrow.Author.Tests.{ltb-true, ltb-false, lt-ltb, le-ltb}
use Rattle.outcome.specs.Outcome.{Result, value, refused, refuse_if, Outcome}
use Rattle.outcome.specs.declared.Reason.{Reason}
use Rattle.outcome.specs.declared.Reason.TheVariants.{ValueTooLarge}
use Rattle.format_fields.specs.Fields.{field, two_bytes, encode_field, encode_fields}
use Rattle.format_fields.specs.Lists.{concat_map}
use Rattle.format_fields.proofs.Truth.{by_test}
use Rattle.format_fields.proofs.Codec.{refused_value}
use Rattle.format_language.specs.LanguageFile.{encode_language}
use Rattle.format_translation.specs.Translation.{Translation}
use Rattle.format_translation.specs.TranslationFile.{item_field, translation_fields, encode_translation}
use Rattle.format_fields.specs.Inner.Writing.{spliced, Written, Stores}
use Rattle.reduce_operators.specs.Inner.Values.{Gives}
use Rattle.reduce_merge.proofs.Writing.{Writing, writing_start}
use Rattle.reduce_operators.specs.Inner.Assembled.{assembled, limited}

-- A refusal.
pub gives_refused : (v : Result (List ℕ)) (o after : List ℕ) (r : Reason) → v ≡ refused r → length after ≡ length o → Gives v o after (Err r)
gives_refused v o after r e l = record {
  outcome = rw e refl;
  long = l;
  bytes = λ b d. refused_value (sym e ∙ d);
}

-- What is written from the start stands at the start.
written_first : (v o o' : List ℕ) (m : ℕ) → Written v o o' 0 m → take (length v) o' ≡ v
unfolding spliced
written_first v o o' m w = rw w.bytes (take-append_seam v (drop (0 + length v) o))

pub stored_first : (v o o' : List ℕ) (m : ℕ) (x : Option ℕ) → Stores v o o' 0 x → x ≡ Some m → take m o' ≡ v
stored_first v o o' m x w e =
    let k : m ≡ length v = omega (arith, (w.done m e).end) in
    rw k (written_first v o o' m (w.done m e))

-- How long what was written is.
module _ (v o o' : List ℕ) (m : ℕ) (x : Option ℕ) (w : Stores v o o' 0 x) (e : x ≡ Some m) (l : length o' ≡ length o) where
  pub stored_room : m ≤ length o'
  stored_room = omega (arith, (w.done m e).fits)

  pub stored_length : m ≡ length (take m o')
  stored_length = sym (length-take-le m o' stored_room)

  pub stored_short : length (take m o') ≤ length o
  stored_short = omega (arith, stored_room, stored_length)

-- The answer once a value is written, where a limit holds.
module _ (limit : ℕ) (v o o' : List ℕ) (room : limit ≤ length o) (long : length o' ≡ length o) where
  abbrev within : Result (List ℕ)
  within = refuse_if (ltb limit (length v)) ValueTooLarge (value v)

  over : limit < length v → Gives within o o' (Err ValueTooLarge)
  over h = gives_refused within o o' ValueTooLarge (rw (lt-ltb limit (length v) h) refl) long

  fits : (m : ℕ) → Written v o o' 0 m → length v ≤ limit → Gives within o o' (Ok m)
  fits m w h =
      let e : within ≡ value v = rw (le-ltb limit (length v) h) refl in
      record {
        outcome = rw e (let z : m ≡ length v = omega (arith, w.end) in ap Ok z);
        long = long;
        bytes = λ b d.
            let z : v ≡ b = cc in
            rw (← z) (omega (arith, w.fits, w.end), written_first v o o' m w);
      }

  pub stored_gives : (x : Option ℕ) (r : Outcome) → Stores v o o' 0 x → r ≡ limited limit x → Gives within o o' r
  stored_gives (Some m) r w e =
      let k = w.done m refl in
      rw e (by_test (ltb limit m)
      (λ t. rw t (over (omega (arith, ltb-true limit m t, k.end))))
      (λ t. rw t (fits m k (omega (arith, ltb-false limit m t, k.end)))))
  stored_gives None r w e = rw e (over (omega (arith, w.full refl)))

-- The parts of a translation in their places are its bytes.
pub assembled_is : (f : Translation)
    → assembled (encode_language f.source) (encode_language f.target) (encode_fields (map item_field f.body)) ≡ encode_translation f
unfolding assembled encode_translation translation_fields encode_fields concat_map
assembled_is f = refl

-- The bytes of a whole list.
pub slice_whole : (s : List ℕ) → slice 0 (length s) s ≡ s
slice_whole s = take-length s

-- `put_field`
pub field_stored : (tag : ℕ) (s o o' : List ℕ) (n : ℕ) (x : Option ℕ)
    → Stores ((tag ∷ (length s / 256) ∷ (length s % 256) ∷ []) ++ slice 0 (length s) s) o o' n x → Stores (encode_field (field tag s)) o o' n x
unfolding encode_field
field_stored tag s o o' n x w = rw (slice_whole s) at w

-- `put_field`: the length put into its head
pub head_stored : (tag : ℕ) (s o o' head : List ℕ) (n : ℕ) (x : Option ℕ) → head ≡ spliced (tag ∷ 0 ∷ 0 ∷ []) 1 (two_bytes (length s))
    → Stores (slice 0 3 head ++ slice 0 (length s) s) o o' n x → Stores (encode_field (field tag s)) o o' n x
unfolding spliced
head_stored tag s o o' head n x e w = field_stored tag s o o' n x (rw e at w)

-- `put_parts`: the parts one after the other
pub assembling : (s t b o : List ℕ) → Writing (assembled s t b) (encode_field (field 0x20 s) ++ (encode_field (field 0x21 t) ++ b)) o o 0 0
unfolding assembled
assembling s t b o = writing_start (assembled s t b) (assembled s t b) o 0 refl

pub body_last : (s t b o o₂ o₃ : List ℕ) (n : ℕ) → Writing (assembled s t b) b o o₂ 0 n → (x : Option ℕ) → Stores (slice 0 (length b) b) o₂ o₃ n x
    → Stores (assembled s t b) o o₃ 0 x
body_last s t b o o₂ o₃ n h x w = h.rest o₃ x (rw (slice_whole b) at w)
